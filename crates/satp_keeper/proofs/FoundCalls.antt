-- The calls of a founding, one after the other.
use Rattle.std.proofs.Common.{◌≡◌, ℕ, ◌+◌, List, [], ◌∷◌, ◌++◌, length, take, drop, Option, Some, None, refl, ap, subst, sym, ◌∙◌, inl, append_assoc}
use Rattle.std.specs.Prelude.{IfSome, slice_get}
use Rattle.std.proofs.lemmas.List.{append-nil, map-append, take-append-drop}
use Rattle.satp_base.specs.declared.area.Area.{Area}
use Rattle.satp_base.specs.declared.area.Area.TheVariants.{Ledger}
use Rattle.satp_base.specs.declared.area.Event.{Event}
use Rattle.satp_base.specs.declared.area.Event.TheVariants.{Wrote}
use Rattle.satp_base.specs.Calls.{Told, FailsAmong, FailsAt, Makes, calls_of}
use Rattle.satp_base.specs.Format.{counted, records}
use Rattle.satp_base.specs.Segments.{append_events}
use Rattle.satp_base.proofs.Made.{fails_front, fails_more, made_none, makes_more}
use Rattle.satp_journal.specs.Appending.{append_calls, events_of}
use Rattle.satp_journal.specs.State.{Held, gate_of}
use Rattle.satp_keeper.specs.Founding.{stored_calls, stored_events}
use Rattle.satp_keeper.proofs.Steps.{next_is}

-- ---- the appends

pub stored_more : (before xs ys : List (List ℕ)) → stored_events before (xs ++ ys) ≡ stored_events before xs ++ stored_events (before ++ xs) ys
stored_more before [] ys = ap (λ (l : List (List ℕ)). stored_events l ys) (sym (append-nil before))
stored_more before (q ∷ xs) ys =
    ap (λ (l : List Event). append_events Ledger (length (records before)) q ++ l) (stored_more (before ++ q ∷ []) xs ys ∙ ap (λ (l : List (List ℕ)). stored_events (before ++ q ∷ []) xs ++ stored_events l ys) (append_assoc before (q ∷ []) xs))
    ∙ sym (append_assoc (append_events Ledger (length (records before)) q) (stored_events (before ++ q ∷ []) xs) (stored_events (before ++ q ∷ xs) ys))

-- the events of an append after these payloads
abbrev pub next_events : List (List ℕ) → List ℕ → List Event
next_events done q = append_events Ledger (length (records done)) q

stored_next : (whole : List (List ℕ)) (i : ℕ) (q : List ℕ) → slice_get whole i ≡ Some q → stored_calls (take (i + 1) whole) ≡ stored_calls (take i whole) ++ calls_of (next_events (take i whole) q)
stored_next whole i q at = ap stored_calls (next_is whole i q at) ∙ ap calls_of (stored_more [] (take i whole) (q ∷ [])) ∙ map-append Some (stored_events [] (take i whole)) (next_events (take i whole) q)

stored_rest : (whole : List (List ℕ)) (i : ℕ) → stored_calls whole ≡ stored_calls (take i whole) ++ calls_of (stored_events (take i whole) (drop i whole))
stored_rest whole i =
    ap stored_calls (sym (take-append-drop i whole)) ∙ ap calls_of (stored_more [] (take i whole) (drop i whole)) ∙ map-append Some (stored_events [] (take i whole)) (stored_events (take i whole) (drop i whole))

module _ (held : Held) (q : List ℕ) (done : List (List ℕ)) (area : held.area ≡ Ledger) where
  same_events : held.payloads ≡ done → events_of held q ≡ next_events done q
  same_events is = ap (λ (a : Area). append_events a (gate_of held) q) area ∙ ap (λ (l : List (List ℕ)). next_events l q) is

  next_made : (old new : Option Told) → IfSome old (λ t. held.payloads ≡ done) → Makes (append_calls held q) old new → Makes (calls_of (next_events done q)) old new
  next_made None new is told = told
  next_made (Some t) new is told = subst (λ (es : List Event). Makes (calls_of es) (Some t) new) (same_events is) told

  next_fails : (old new : Option Told) → IfSome old (λ t. held.payloads ≡ done) → FailsAmong (append_calls held q) old new → FailsAmong (calls_of (next_events done q)) old new
  next_fails None new is (n, call, at, fails) = (0, Some (Wrote Ledger (length (records done) + 1) (counted q ++ 0 ∷ [])), refl, ([], inl refl, untold call fails))
    where
      untold : (call : Option Event) → FailsAt call None new → new ≡ None
      untold None is = is
      untold (Some event) (events, failure, is) = is
  next_fails (Some t) new is fails = subst (λ (es : List Event). FailsAmong (calls_of es) (Some t) new) (same_events is) fails

module _ (whole : List (List ℕ)) (held : Held) (q : List ℕ) (i : ℕ) (first old new : Option Told) (at : slice_get whole i ≡ Some q) (front : IfSome old (λ t. held.payloads ≡ take i whole)) (area : held.area ≡ Ledger) (makes : Makes (stored_calls (take i whole)) first old) where
  pub stored_on : Makes (append_calls held q) old new → Makes (stored_calls (take (i + 1) whole)) first new
  stored_on told =
      subst (λ (l : List (Option Event)). Makes l first new) (sym (stored_next whole i q at))
      (makes_more (stored_calls (take i whole)) (calls_of (next_events (take i whole) q)) first old new makes (next_made held q (take i whole) area old new front told))

  pub stored_fails : FailsAmong (append_calls held q) old new → FailsAmong (stored_calls whole) first new
  stored_fails fails =
      let more = fails_more (stored_calls (take i whole)) (calls_of (next_events (take i whole) q)) first old new makes (next_fails held q (take i whole) area old new front fails) in
      subst (λ (l : List (Option Event)). FailsAmong l first new) (sym (stored_rest whole (i + 1)))
      (fails_front (stored_calls (take (i + 1) whole)) _ first new (subst (λ (l : List (Option Event)). FailsAmong l first new) (sym (stored_next whole i q at)) more))

pub stored_none : (whole : List (List ℕ)) (told : Option Told) → Makes (stored_calls (take 0 whole)) told told
stored_none whole told = sym (made_none told)
