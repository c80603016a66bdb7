use Rattle.std.proofs.Common.{◌≢◌, ℕ, ◌⊎◌, List, [], ◌∷◌, ◌++◌, refl, sym, subst, inl, inr, arith, lit≤, lit<, rules}
use Rattle.satp_base.specs.Format.{Damage, EndsAt, IsMendable, NoRecord, Stands, records}
use Rattle.satp_base.proofs.Readings.{never_both, one_damage, one_end, record_there, record_not_there}
use Rattle.satp_examples.specs.Journals.{abc, abc_then, d}
use Rattle.satp_examples.proofs.journals.law_journals.Goals as goal

-- behind `abc` an open gate stands and no record
after_abc : (behind : List ℕ) → NoRecord behind → Damage (abc_then (1 ∷ behind)) 6
after_abc behind none = (abc ∷ [], (omega arith, (behind, record { valid = search rules; bytes = refl }, none)), refl)

at_the_front : (high low : ℕ) (behind : List ℕ) → NoRecord (high ∷ low ∷ behind) → Damage (1 ∷ high ∷ low ∷ behind) 0
at_the_front high low behind none = ([], (search rules, (high ∷ low ∷ behind, record { valid = tt; bytes = refl }, none)), refl)

nothing_there : NoRecord []
nothing_there q tail off = absurd cc

pub returns-clause-damage : goal.returns-clause-damage
returns-clause-damage c = record {
  byte_of_payload_missing = at_the_front 0 3 _ (record_not_there 0 3 _ (inr (inr (inr (lit≤ tt)))));
  next_gate_missing = at_the_front 0 3 _ (record_not_there 0 3 _ (inr (inr (inr (lit≤ tt)))));
  open_gate_without_record = after_abc [] nothing_there;
  length_of_zero = at_the_front 0 0 _ (record_not_there 0 0 _ (inr (inl refl)));
  not_at_the_first_gate = λ h. let bad = one_damage _ _ _ (after_abc [] nothing_there) h in absurd (omega (arith, bad));
  stands_for_nothing = λ payloads h. never_both _ payloads 6 h (after_abc [] nothing_there);
  whole_is_not_damaged = λ at h. never_both _ (abc ∷ []) at (search rules) h;
}

pub returns-clause-records : goal.returns-clause-records
returns-clause-records c = record {
  record_and_gate = record_there 0 3 _ (lit< tt) (lit≤ tt) (lit≤ tt) (lit< tt);
  a_byte_less = record_not_there 0 3 _ (inr (inr (inr (lit≤ tt))));
  not_a_shorter_payload = λ h. absurd cc;
}

-- the gate of 7 is where the list ends
sevens : (behind : List ℕ) → EndsAt (abc ∷ []) 7 behind (abc_then (7 ∷ behind))
sevens behind = record { valid = search rules; bytes = refl }

closed : (n : ℕ) → n ≢ 1 → (behind : List ℕ) → (n ≢ 1) ⊎ NoRecord behind
closed n h behind = inl h

short_record : NoRecord (0 ∷ 1 ∷ 100 ∷ [])
short_record = record_not_there 0 1 _ (inr (inr (inr (lit≤ tt))))

before_no_record : ¬ IsMendable (abc_then (7 ∷ 0 ∷ 1 ∷ 100 ∷ []))
before_no_record (inl short) = absurd (omega (arith, short))
before_no_record (inr (inl (payloads, (behind, ends)))) =
    let same = one_end (abc ∷ []) payloads 7 0 _ behind _ (sevens _) ends (inl (search rules)) (inl (search rules)) in
    absurd (omega (arith, same.gate))
before_no_record (inr (inr (longer, (payloads, gate, behind, other, ends, stands)))) =
    let same = one_end (abc ∷ []) payloads 7 gate _ behind _ (sevens _) ends (inl (search rules)) (inl other) in
    let stands : Stands (records (abc ∷ []) ++ 1 ∷ 0 ∷ 1 ∷ 100 ∷ []) longer = subst (λ p. Stands (records p ++ 1 ∷ 0 ∷ 1 ∷ 100 ∷ []) longer) (sym same.payloads) (subst (λ x. Stands (records payloads ++ 1 ∷ x) longer) (sym same.behind) stands) in
    never_both _ longer 6 stands (after_abc _ short_record)

is_damaged : ¬ IsMendable (abc_then (1 ∷ []))
is_damaged (inl short) = absurd (omega (arith, short))
is_damaged (inr (inl (payloads, (behind, ends)))) = never_both _ payloads 6 (inr (lit< tt, (0, behind, search rules, ends))) (after_abc [] nothing_there)
is_damaged (inr (inr (longer, (payloads, gate, behind, other, ends, stands)))) = never_both _ payloads 6 (inr (lit< tt, (gate, behind, other, ends))) (after_abc [] nothing_there)

pub returns-clause-mendable : goal.returns-clause-mendable
returns-clause-mendable c = record {
  empty = inl (lit≤ tt);
  at_rest = inr (inl (abc ∷ [], (9 ∷ [], record { valid = search rules; bytes = refl })));
  gate_being_written = inr (inr (abc ∷ d ∷ [], (abc ∷ [], 7, _, search rules, sevens _, search rules)));
  gate_before_no_record = before_no_record;
  damaged = is_damaged;
}
