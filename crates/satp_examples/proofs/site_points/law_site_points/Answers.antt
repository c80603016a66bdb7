use Rattle.std.proofs.Common.{◌≡◌, ◌⊎◌, ℕ, List, [], ◌∷◌, Option, Some, None, refl, sym, ap, ◌∙◌, subst, inl, inr, arith, rules}
use Rattle.std.specs.FinMap as map
use Rattle.std.specs.Option.{option_map_or}
use Rattle.std.specs.Prelude.{slice_index}
use Rattle.satp_base.specs.Acts.{operation_events}
use Rattle.satp_base.specs.Calls.{Ask, FailsAt, Told, ask_failed, risen}
use Rattle.satp_base.specs.Format.{IsAtRest, IsPayload, Stands}
use Rattle.satp_base.specs.Laws.{RestsAt}
use Rattle.satp_base.specs.LedgerRule.{Operation, entry_of, moved, operation, terms_of}
use Rattle.satp_stops.specs.Stops.{FailsIn, RestsIn, StandsAt, Step, after_steps}
use Rattle.satp_stops.specs.Stops.Step.{Operates, Stores}
use Rattle.satp_base.specs.Trail.{IsImage, extended}
use Rattle.satp_base.specs.declared.area.Area.TheVariants.{JournalA}
use Rattle.satp_base.specs.declared.area.Event.{Event}
use Rattle.satp_base.specs.declared.area.Event.TheVariants.{Acted}
use Rattle.satp_base.specs.declared.ledger.Entry.TheVariants.{Locked}
use Rattle.satp_base.specs.declared.ledger.LedgerCall.TheVariants.{Act}
use Rattle.satp_base.specs.declared.ledger.LedgerOp.TheVariants.{Lock, Burn}
use Rattle.satp_base.proofs.Closing.{append_ends, either_stands, rest_stands}
use Rattle.satp_base.proofs.Readings.{one_list}
use Rattle.satp_base.proofs.Standings.{only_settled}
use Rattle.satp_examples.specs.Appending.{append, at_rest, closed, with_both}
use Rattle.satp_examples.specs.Journals.{abc, d}
use Rattle.satp_examples.specs.Ledgers.{new_book}
use Rattle.satp_examples.specs.Samples.{alpha_1, quarter}
use Rattle.satp_examples.specs.Segments.{synced}
use Rattle.satp_examples.specs.SitePoints.{FailsAndTells, RestsSomewhere, StandsSomewhere, lock_call, lock_event, locks, steps}
use Rattle.satp_examples.specs.Stops.{kept}
use Rattle.satp_examples.proofs.Books.{absent, burn_is, lock_is, moved_entry}
use Rattle.satp_examples.proofs.Images.{at_start, both, is_whole, within}
use Rattle.satp_examples.proofs.site_points.law_site_points.Goals as goal

-- ---- points

first_image : (image : List ℕ) → IsImage at_rest.trail JournalA image → Stands image (abc ∷ [])
first_image image is = subst (λ x. Stands x (abc ∷ [])) (sym (only_settled closed image is)) is_whole

last_image : (image : List ℕ) → IsImage (extended at_rest.trail append) JournalA image → Stands image (abc ∷ d ∷ [])
last_image image is = rest_stands (abc ∷ d ∷ []) image (append_ends at_rest.trail JournalA (abc ∷ []) d (search rules) at_start (λ area. tt) image is)

both_alone : Stands with_both (abc ∷ []) → ⊥
both_alone s = let same = one_list with_both (abc ∷ []) (abc ∷ d ∷ []) s both in absurd cc

-- what the lock leaves
locked_after : (operation new_book Lock alpha_1 quarter).after.entries ≡ (moved new_book Lock alpha_1 quarter).entries
locked_after = ap (λ (o : Operation). o.after.entries) lock_is

entry_locked : entry_of (moved new_book Lock alpha_1 quarter).entries alpha_1 ≡ Locked
entry_locked = moved_entry map.empty (record { entry = Locked; terms = terms_of map.empty alpha_1 quarter })

not_locked : map.empty ≡ (moved new_book Lock alpha_1 quarter).entries → ⊥
not_locked e = let same : entry_of map.empty alpha_1 ≡ Locked = ap (λ x. entry_of x alpha_1) e ∙ entry_locked in let was = absent in absurd cc

d_fits : IsPayload d
d_fits = search rules

pub returns-clause-points : goal.returns-clause-points
returns-clause-points c = record {
  at_first = record { ledger = refl; images = λ image is. inl (first_image image is) };
  in_the_write_of_the_gate = record { ledger = refl; images = λ image is. either_stands (abc ∷ []) d image d_fits (within 3 image is) };
  behind_the_append = record { ledger = refl; images = λ image is. inl (last_image image is) };
  behind_the_lock = record { ledger = sym locked_after; images = λ image is. inl (last_image image is) };
  not_where_another_step_is_next = λ s. elim (s.images with_both (search rules)) [ inl alone ↦ both_alone alone | inr next ↦ next ];
  not_without_the_payload = λ s. elim (s.images with_both (search rules)) [ inl alone ↦ both_alone alone | inr next ↦ next ];
  not_without_the_lock = λ s. not_locked (sym s.ledger);
  not_before_the_lock = λ s. not_locked (s.ledger ∙ locked_after);
}

-- ---- points at rest

behind_append : RestsAt (extended at_rest.trail append) JournalA (abc ∷ d ∷ [])
behind_append = append_ends at_rest.trail JournalA (abc ∷ []) d d_fits at_start (λ area. tt)

unrested : (image : List ℕ) → IsAtRest (abc ∷ []) image → slice_index image 6 ≡ 0
unrested image (behind, ends) = ap (λ xs. slice_index xs 6) ends.bytes

pub returns-clause-rests : goal.returns-clause-rests
returns-clause-rests c = record {
  at_first = record { ledger = refl; images = λ image is. inl (at_start image is) };
  in_the_write_of_the_gate = record { ledger = refl; images = λ image is. inr (within 3 image is) };
  after_the_append = record { ledger = refl; images = λ image is. inl (behind_append image is) };
  not_at_rest_in_the_write = λ r. elim (r.images with_both (search rules)) [ inl rest ↦ (let bad : 1 ≡ 0 = unrested with_both rest in absurd (omega (arith, bad))) | inr next ↦ next ];
  not_without_the_lock = λ r. not_locked (sym r.ledger);
}

-- ---- some point

abbrev At : List Step → List Step → Type 0
At done rest = StandsAt (extended at_rest.trail (lock_event ∷ [])) (after_steps kept done) rest

-- nothing is stored at the last point
stored_nothing : At steps [] → ⊥
stored_nothing s = elim (s.images closed (search rules)) [
  | inl list ↦ let same = one_list closed (abc ∷ []) (abc ∷ d ∷ []) is_whole list in absurd cc
  | inr next ↦ next
]

locked_first : ¬ StandsSomewhere (lock_event ∷ [])
locked_first ([], rest, e, s) = not_locked (sym s.ledger)
locked_first (m ∷ [], rest, e, s) = let is : m ≡ Stores d = cc in not_locked (sym (subst (λ (x : Step). At (x ∷ []) rest) is s).ledger)
locked_first (m ∷ n ∷ [], rest, e, s) =
    let is : m ≡ Stores d = cc in let then : n ≡ locks = cc in let last : rest ≡ [] = cc in
    stored_nothing (subst (At steps) last (subst (λ x. At (Stores d ∷ x ∷ []) rest) then (subst (λ x. At (x ∷ n ∷ []) rest) is s)))
locked_first (m ∷ n ∷ o ∷ ms, rest, e, s) = absurd cc

pub returns-clause-some : goal.returns-clause-some
returns-clause-some c = record {
  at_the_second = (Stores d ∷ [], locks ∷ [], refl, record { ledger = refl; images = λ image is. inl (last_image image is) });
  not_locked_before_the_payload_is_stored = locked_first;
}

-- the same at rest
abbrev Rests : List Step → List Step → Type 0
Rests done rest = RestsIn (extended at_rest.trail (lock_event ∷ [])) (after_steps kept done) rest

rested_nothing : Rests steps [] → ⊥
rested_nothing s = elim (s.images closed (search rules)) [
  | inl list ↦ let same = one_list closed (abc ∷ []) (abc ∷ d ∷ []) is_whole (rest_stands (abc ∷ d ∷ []) closed list) in absurd cc
  | inr next ↦ next
]

rested_first : ¬ RestsSomewhere (lock_event ∷ [])
rested_first ([], rest, e, s) = not_locked (sym s.ledger)
rested_first (m ∷ [], rest, e, s) = let is : m ≡ Stores d = cc in not_locked (sym (subst (λ (x : Step). Rests (x ∷ []) rest) is s).ledger)
rested_first (m ∷ n ∷ [], rest, e, s) =
    let is : m ≡ Stores d = cc in let then : n ≡ locks = cc in let last : rest ≡ [] = cc in
    rested_nothing (subst (Rests steps) last (subst (λ x. Rests (Stores d ∷ x ∷ []) rest) then (subst (λ x. Rests (x ∷ n ∷ []) rest) is s)))
rested_first (m ∷ n ∷ o ∷ ms, rest, e, s) = absurd cc

pub returns-clause-some_at_rest : goal.returns-clause-some_at_rest
returns-clause-some_at_rest c = record {
  in_the_write_of_the_gate = ([], steps, refl, record { ledger = refl; images = λ image is. inr (within 3 image is) });
  at_the_second = (Stores d ∷ [], locks ∷ [], refl, record { ledger = refl; images = λ image is. inl (behind_append image is) });
  not_locked_before_the_payload_is_stored = rested_first;
}

-- ---- failures

abbrev count : Told → ℕ
count t = t.calls

abbrev asks : Option Told → List Ask
asks o = option_map_or (λ (t : Told). t.asks) o []

abbrev failure : Option Told → Option ℕ
failure o = option_map_or (λ (t : Told). t.last_failed) o None

-- a failed call of the disk asks the ledger for nothing, and is told as the last that failed
asks_same : (call : Option Event) (mid : Told) (new : Option Told) → FailsAt call (Some mid) new → asks new ≡ mid.asks
asks_same None mid new is = ap asks is
asks_same (Some event) mid new (added, fails, is) = ap asks is

marks : (call : Option Event) (mid : Told) (new : Option Told) → FailsAt call (Some mid) new → failure new ≡ Some (risen mid.calls 1)
marks None mid new is = ap failure is
marks (Some event) mid new (added, fails, is) = ap failure is

call_alone : ¬ FailsAndTells (ask_failed lock_call [] at_rest)
call_alone (inl (n, call, is, fails)) = let none = asks_same call _ _ fails in absurd cc
call_alone (inr (inl (events, which, inl e))) = let bad : 1 ≡ 5 = ap count e in absurd (omega (arith, bad))
call_alone (inr (inl (events, which, inr e))) = let bad : 1 ≡ 5 = ap count e in absurd (omega (arith, bad))
call_alone (inr (inr none)) = none

no_call : ¬ FailsAndTells at_rest
no_call (inl (n, call, is, fails)) = let bad = marks call _ _ fails in absurd cc
no_call (inr (inl (events, which, inl e))) = let bad : 0 ≡ 5 = ap count e in absurd (omega (arith, bad))
no_call (inr (inl (events, which, inr e))) = let bad : 0 ≡ 5 = ap count e in absurd (omega (arith, bad))
no_call (inr (inr none)) = none

-- a burn of what isn't locked has no event
burns_none : operation_events (operation new_book Burn alpha_1 quarter) Burn alpha_1 quarter ≡ []
burns_none = ap (λ (o : Operation). operation_events o Burn alpha_1 quarter) burn_is

abbrev events_of : Told → List Event
events_of t = t.trail.events

burn_event : (events : List Event) → (events ≡ []) ⊎ (events ≡ operation_events (operation new_book Burn alpha_1 quarter) Burn alpha_1 quarter) → Acted Burn alpha_1 quarter ∷ [] ≡ events → ⊥
burn_event events (inl none) e = absurd cc
burn_event events (inr whole) e = let none = burns_none in absurd cc

burnt : ¬ FailsIn kept (Operates Burn alpha_1 quarter) at_rest (ask_failed (Act Burn alpha_1 quarter) (Acted Burn alpha_1 quarter ∷ []) at_rest)
burnt (events, which, inl e) = burn_event events which (ap events_of e)
burnt (events, which, inr e) = burn_event events which (ap events_of e)

pub returns-clause-failures : goal.returns-clause-failures
returns-clause-failures c = record {
  at_the_first_sync = inl (1, Some synced, refl, ([], inl refl, refl));
  at_the_lock = inr (inl ([], inl refl, inl refl));
  at_the_lock_that_took_effect = inr (inl (lock_event ∷ [], inr (sym (ap (λ (o : Operation). operation_events o Lock alpha_1 quarter) lock_is)), inl refl));
  at_the_lock_that_was_only_counted = inr (inl ([], inl refl, inr refl));
  not_at_the_lock_without_the_append = call_alone;
  not_without_a_call = no_call;
  not_of_no_steps = λ h. h;
  not_a_burn_that_took_effect = burnt;
}
