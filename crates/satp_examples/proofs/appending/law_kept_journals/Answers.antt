use Rattle.std.specs.List.{AllByRecursion, flat_map}
use Rattle.std.proofs.Common.{◌≡◌, ◌<◌, ℕ, List, [], ◌∷◌, Option, Some, None, option_map, Ok, Err, ◌⊎◌, length, refl, sym, ap, subst, inl, inr, arith, lit<, rules}
use Rattle.std.specs.Option.{option_map_or}
use Rattle.std.specs.Prelude.{slice_index}
use Rattle.satp_base.specs.Calls.{FailsAmong, FailsAt, Told, calls_of, events_in, made, risen}
use Rattle.satp_base.specs.Format.{Damage, IsAtRest, IsPayload, Stands}
use Rattle.satp_base.specs.Laws.{GateDecides, IsInAppend}
use Rattle.satp_base.specs.Trail.{IsImage, seen}
use Rattle.satp_base.specs.declared.area.Area.TheVariants.{JournalA}
use Rattle.satp_base.specs.declared.area.Event.{Event}
use Rattle.satp_base.specs.declared.area.Event.TheVariants.{Wrote}
use Rattle.satp_base.proofs.Closing.{either_stands, gate_decides}
use Rattle.satp_base.proofs.Readings.{never_both, one_damage, one_list}
use Rattle.satp_base.proofs.Standings.{only_settled}
use Rattle.satp_journal.specs.Listing.{IsUnread}
use Rattle.satp_journal.specs.Opening.{open_calls}
use Rattle.satp_journal.specs.State.{Held}
use Rattle.satp_journal.specs.declared.fault.JournalFault.TheVariants.{Damaged}
use Rattle.satp_journal.specs.declared.fault.Unread.TheVariants as unread
use Rattle.satp_examples.specs.Appending.{gate_in_the_write, Opens, append, opened, at_rest, closed, damaged, of_seven, synced, uncalled}
use Rattle.satp_examples.specs.Journals.{abc, abc_then, d}
use Rattle.satp_examples.proofs.Images.{breaks, is_damaged, is_whole}
use Rattle.satp_examples.proofs.appending.law_kept_journals.Goals as goal

abbrev count : Option Told → ℕ
count o = option_map_or (λ (t : Told). t.calls) o 0

unlike : (x y : ℕ) → (x < y) ⊎ (y < x) → x ≡ y → ⊥
unlike x y (inl h) e = omega (arith, h, e)
unlike x y (inr h) e = omega (arith, h, e)

-- ---- an append

-- a failed call counts, and is told as the last that failed
counts : (call : Option Event) (mid : Told) (new : Option Told) → FailsAt call (Some mid) new → count new ≡ risen mid.calls 1
counts None mid new is = ap count is
counts (Some event) mid new (added, fails, is) = ap count is

abbrev failure : Option Told → Option ℕ
failure o = option_map_or (λ (t : Told). t.last_failed) o None

marks : (call : Option Event) (mid : Told) (new : Option Told) → FailsAt call (Some mid) new → failure new ≡ Some (risen mid.calls 1)
marks None mid new is = ap failure is
marks (Some event) mid new (added, fails, is) = ap failure is

without_call : FailsAmong (calls_of append) (Some at_rest) (Some at_rest) → ⊥
without_call (n, call, is, fails) = let bad = marks call _ _ fails in absurd cc

as_success : FailsAmong (calls_of append) (Some at_rest) (Some (made 1 [] at_rest)) → ⊥
as_success (n, call, is, fails) = let bad = marks call _ _ fails in absurd cc

pub returns-clause-appends : goal.returns-clause-appends
returns-clause-appends c = record {
  done = (refl, refl, refl);
  failed = (refl, refl, (0, Some (Wrote JournalA 7 (0 ∷ 1 ∷ 100 ∷ 0 ∷ [])), refl, ([], inl refl, refl)));
  no_memory = (refl, refl, refl);
  broken_before = (refl, refl, refl);
  not_done_without_the_last_sync = λ h. unlike 3 4 (inl (lit< tt)) (ap count h.2);
  not_done_and_forgotten = λ h. unlike 1 2 (inl (lit< tt)) (ap (λ (x : Held). length x.payloads) h.1);
  not_done_where_broken = λ new told h. let bad = h.0 in absurd cc;
  not_failed_and_whole = λ h. let bad = ap (λ (x : Held). x.broken) h.1 in absurd cc;
  not_failed_where_all_succeeded = λ h. as_success h.2;
  not_failed_without_a_call = λ h. without_call h.2;
  not_without_memory_behind_a_call = λ h. unlike 1 0 (inr (lit< tt)) (ap count h.2);
  not_broken_at_once = λ h. let bad = h.0 in absurd cc;
  not_damaged = λ at new told h. h;
}

-- ---- an opening

-- the calls that are told where these bytes were read
abbrev calls_with : List ℕ → List ℕ → ℕ
calls_with image read = count (option_map (made (length (open_calls JournalA read 6)) (events_in (open_calls JournalA read 6))) (Some (uncalled image)))

unmended : ¬ Opens of_seven 3 (synced ∷ []) (Ok (opened (abc ∷ [])))
unmended (read, finds, e) = unlike 3 5 (inl (lit< tt)) (subst (λ x. 3 ≡ calls_with of_seven x) finds.0 (ap count e))

mended : ¬ Opens closed 5 (synced ∷ Wrote JournalA 6 (0 ∷ []) ∷ synced ∷ []) (Ok (opened (abc ∷ [])))
mended (read, finds, e) = unlike 5 3 (inr (lit< tt)) (subst (λ x. 5 ≡ calls_with closed x) finds.0 (ap count e))

unsynced : ¬ Opens closed 2 [] (Ok (opened (abc ∷ [])))
unsynced (read, finds, e) = unlike 2 3 (inl (lit< tt)) (subst (λ x. 2 ≡ calls_with closed x) finds.0 (ap count e))

another_list : ¬ Opens closed 3 (synced ∷ []) (Ok (opened []))
another_list (read, finds, e) = let same = one_list closed [] (abc ∷ []) (subst (λ x. Stands x []) finds.0 finds.1) is_whole in absurd cc

elsewhere : ¬ Opens damaged 3 (synced ∷ []) (Err (Damaged 0))
elsewhere (read, is, found, e) = unlike 0 6 (inl (lit< tt)) (one_damage damaged 0 6 (subst (λ x. Damage x 0) is found) is_damaged)

whole : (at : ℕ) → ¬ Opens closed 3 (synced ∷ []) (Err (Damaged at))
whole at (read, is, found, e) = never_both closed (abc ∷ []) at is_whole (subst (λ x. Damage x at) is found)

mended_damage : ¬ Opens damaged 5 (synced ∷ Wrote JournalA 6 (0 ∷ []) ∷ synced ∷ []) (Err (Damaged 6))
mended_damage (read, is, found, e) = unlike 5 3 (inr (lit< tt)) (ap count e)

pub returns-clause-openings : goal.returns-clause-openings
returns-clause-openings c = record {
  found = (closed, (refl, is_whole, refl, refl), refl);
  mended = (of_seven, (refl, search rules, refl, refl), refl);
  empty = ([], (refl, search rules, refl, refl), refl);
  found_damaged = (damaged, refl, is_damaged, refl);
  first_sync_failed = inl (0, Some synced, refl, ([], inl refl, refl));
  not_unmended = unmended;
  not_mended_at_rest = mended;
  not_another_list = another_list;
  not_without_the_sync = unsynced;
  not_damaged_elsewhere = elsewhere;
  not_damaged_where_whole = whole;
  not_mended_where_damaged = mended_damage;
  not_broken = λ h. h;
}

-- ---- lists and gates

before_payload : ¬ IsUnread damaged (unread.Damaged 6 0)
before_payload ([], breaks, at, index) = unlike 6 0 (inr (lit< tt)) at
before_payload (p ∷ ps, breaks, at, index) = absurd (omega (arith, index))

where_whole : (at index : ℕ) → ¬ IsUnread closed (unread.Damaged at index)
where_whole at index (payloads, breaks, is, count) = never_both closed (abc ∷ []) at is_whole (payloads, breaks, is)

pub returns-clause-lists : goal.returns-clause-lists
returns-clause-lists c = record {
  where_it_breaks = (abc ∷ [], breaks, refl, refl);
  not_before_the_payload = before_payload;
  not_where_whole = where_whole;
  the_gate_is_there = λ t is. subst (λ o. 6 < option_map_or (λ (x : Told). length (seen x.trail JournalA)) o 0) is (lit< tt);
  the_gate_is_not = λ h. let bad : 6 < 6 = h (uncalled (abc_then [])) refl in absurd (omega (arith, bad));
}

-- ---- areas at rest

rests_here : IsAtRest (abc ∷ []) closed
rests_here = ([], record { valid = search rules; bytes = refl })

here : IsImage at_rest.trail JournalA closed
here = search rules

pub returns-clause-rests : goal.returns-clause-rests
returns-clause-rests c = record {
  rests = λ image is. subst (IsAtRest (abc ∷ [])) (sym (only_settled closed image is)) rests_here;
  another_list = λ h. let bytes = (h closed here).1.bytes in absurd cc;
  a_gate_unsynced = λ h. unlike 7 0 (inr (lit< tt)) (ap (λ xs. slice_index xs 6) (h of_seven (search rules)).1.bytes);
}

-- ---- within an append

whole_list : AllByRecursion IsPayload (abc ∷ [])
whole_list = search rules

d_fits : IsPayload d
d_fits = search rules

in_append : (gate : ℕ) → IsInAppend (abc ∷ []) d (abc_then (gate ∷ 0 ∷ 1 ∷ 100 ∷ 0 ∷ []))
in_append gate = inr (gate, [], record { valid = whole_list; bytes = refl })

no_append : IsInAppend (abc ∷ []) d damaged → ⊥
no_append w = elim (either_stands (abc ∷ []) d damaged d_fits w) [
  | inl s ↦ never_both damaged _ 6 s is_damaged
  | inr s ↦ never_both damaged _ 6 s is_damaged
]

no_list : IsInAppend (abc ∷ []) d (0 ∷ 0 ∷ []) → ⊥
no_list w = elim (either_stands (abc ∷ []) d (0 ∷ 0 ∷ []) d_fits w) [
  | inl s ↦ let same = one_list (0 ∷ 0 ∷ []) _ [] s (search rules) in absurd cc
  | inr s ↦ let same = one_list (0 ∷ 0 ∷ []) _ [] s (search rules) in absurd cc
]

other_payload : IsInAppend (abc ∷ []) d (gate_in_the_write (101 ∷ [])) → ⊥
other_payload (inl (behind, ends)) = unlike 7 0 (inr (lit< tt)) (ap (λ xs. slice_index xs 6) ends.bytes)
other_payload (inr (gate, behind, ends)) = unlike 101 100 (inr (lit< tt)) (ap (λ xs. slice_index xs 9) ends.bytes)

another_gate : IsInAppend (abc ∷ []) d of_seven → ⊥
another_gate (inl (behind, ends)) = unlike 7 0 (inr (lit< tt)) (ap (λ xs. slice_index xs 6) ends.bytes)
another_gate (inr (gate, behind, ends)) = let bytes = ends.bytes in absurd cc

pub returns-clause-within : goal.returns-clause-within
returns-clause-within c = record {
  before = inl rests_here;
  in_the_write_of_the_gate = in_append 7;
  after = in_append 1;
  not_damaged = no_append;
  not_before_another_payload = other_payload;
  not_without_the_list = no_list;
  not_at_another_gate = another_gate;
}

-- ---- gates

with_other : Stands (abc_then (1 ∷ 0 ∷ 1 ∷ 101 ∷ 0 ∷ [])) (abc ∷ (101 ∷ []) ∷ [])
with_other = search rules

other_gate : GateDecides (abc ∷ []) d (abc_then (1 ∷ 0 ∷ 1 ∷ 101 ∷ 0 ∷ [])) → ⊥
other_gate g =
    let same = one_list _ (abc ∷ d ∷ []) (abc ∷ (101 ∷ []) ∷ []) (g.longer.1 refl) with_other in
    unlike 100 101 (inl (lit< tt)) (ap (λ qs. slice_index (flat_map (λ q. q) qs) 3) same)

pub returns-clause-gates : goal.returns-clause-gates
returns-clause-gates c = record {
  by_zero = gate_decides (abc ∷ []) d _ d_fits (inl rests_here);
  by_another = gate_decides (abc ∷ []) d _ d_fits (in_append 7);
  by_one = gate_decides (abc ∷ []) d _ d_fits (in_append 1);
  not_by_a_gate_before_another_record = other_gate;
}
