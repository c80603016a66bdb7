use Rattle.std.proofs.Common.{◌≡◌, ◌≢◌, ◌∙◌, ℕ, true, [], ◌∷◌, length, Option, Some, None, option_map, Ok, Err, refl, ap, subst, inl, inr, arith, rules, length-append}
use Rattle.std.specs.Option.{option_map_or}
use Rattle.satp_base.specs.Acts.{founded}
use Rattle.satp_base.specs.Calls.{Ask, Told, made}
use Rattle.satp_base.specs.Format.{Damage}
use Rattle.satp_base.specs.Segments.{append_events}
use Rattle.satp_base.specs.declared.area.Area.TheVariants.{JournalA}
use Rattle.satp_base.specs.declared.ledger.LedgerCall.TheVariants.{Found}
use Rattle.satp_base.proofs.Readings.{never_both, one_damage, one_list}
use Rattle.satp_points.specs.States.{tells}
use Rattle.satp_gateway.specs.SettingUp.{FoundsOnce, Opens, SetUpAnswers, UnlessFailed, founds}
use Rattle.satp_gateway.specs.declared.fault.SetUpFault.TheVariants.{Already, Damaged, Memory}
use Rattle.satp_examples.specs.Appending.{closed, damaged, opened as journal_of, uncalled}
use Rattle.satp_examples.specs.Journals.{abc, d}
use Rattle.satp_examples.specs.Ledgers.{with_gold}
use Rattle.satp_examples.specs.SetUps.{empty, opened, plan, set_up, there, without_ledger}
use Rattle.satp_examples.proofs.Images.{is_damaged, is_whole}
use Rattle.satp_examples.proofs.set_ups.law_set_ups.Goals as goal

opens : Opens [] (Some empty) (Some opened)
opens = (journal_of [], refl, ([], (refl, search rules, refl, refl), refl))

some : abc ∷ [] ≢ []
some e = absurd cc

abbrev asks : Option Told → ℕ
asks o = option_map_or (λ (t : Told). length t.asks) o 0

not_founded : (o : Option Told) → Some without_ledger ≡ option_map (made 4 (append_events JournalA 0 d)) (option_map (founds plan) o) → ⊥
not_founded None e = absurd cc
not_founded (Some t) e = let none : 0 ≡ length (founds plan t).asks = ap asks e in let ask : Ask = record { call = Found plan.kind plan.genesis; before = t.calls; succeeded = true } in let more = length-append t.asks (ask ∷ []) in absurd (omega (arith, none, more))

founded_once : SetUpAnswers plan (tells (Some empty) None) (tells (Some (founds plan opened)) None) (Err Memory) → ⊥
founded_once (inl (inl e, book)) = let bad : 1 ≡ 0 = ap asks e in omega (arith, bad)
founded_once (inl (inr e, book)) = let bad : 1 ≡ 0 = ap asks e in omega (arith, bad)
founded_once (inr (there, ((journal, list, (image, finds, e)), same), (told, book))) = let bad : 1 ≡ 0 = ap asks told ∙ ap asks e in omega (arith, bad)

already_and_founded : SetUpAnswers plan (tells (Some (uncalled closed)) None) (tells (Some there) (Some (founded with_gold))) (Err Already) → ⊥
already_and_founded (inl (has, same)) = absurd cc
already_and_founded (inr (opened, vacant, bad)) = bad

damaged_where_whole : (at : ℕ) → SetUpAnswers plan (tells (Some (uncalled closed)) None) (tells (Some there) None) (Err (Damaged at)) → ⊥
damaged_where_whole at (inl (fails, same)) = never_both closed (abc ∷ []) at is_whole (subst (λ x. Damage x at) fails.1 fails.2)
damaged_where_whole at (inr (opened, vacant, bad)) = bad

pub returns-clause-answers : goal.returns-clause-answers
returns-clause-answers c = record {
  done = (tells (Some opened) None, (opens, refl), (refl, (refl, refl)));
  already = inl ((abc ∷ [], some, (journal_of (abc ∷ []), refl, (closed, (refl, is_whole, refl, refl), refl))), refl);
  no_memory = inr (tells (Some opened) None, (opens, refl), (refl, refl));
  no_memory_for_the_journal = inl (inl refl, refl);
  damaged_journal = inl ((damaged, refl, is_damaged, refl), refl);
  founding_failed = inr (tells (Some opened) None, (opens, refl), inl (([], inr refl, inr refl), refl));
  over_a_vacancy = (refl, (refl, refl));
  not_there_over_a_vacancy = λ new bad. bad;
  not_without_memory_after_the_founding = λ h. let bad : 1 ≡ 0 = ap asks h.0 in omega (arith, bad);
  not_done_without_its_ledger = λ h. let bad = h.2.1.0 in absurd cc;
  not_done_without_a_founding = λ h. not_founded h.0.told h.2.0;
  not_already_and_founded = already_and_founded;
  not_without_memory_and_founded = founded_once;
  not_damaged_where_whole = damaged_where_whole;
}

already_done : UnlessFailed (Err Already) (Ok tt) → ⊥
already_done (inl e) = absurd cc
already_done (inr (inl e)) = absurd cc
already_done (inr (inr e)) = absurd cc

done_already : UnlessFailed (Ok tt) (Err Already) → ⊥
done_already (inl e) = absurd cc
done_already (inr (inl e)) = absurd cc
done_already (inr (inr e)) = absurd cc

already_damaged : UnlessFailed (Err Already) (Err (Damaged 6)) → ⊥
already_damaged (inl e) = absurd cc
already_damaged (inr (inl e)) = absurd cc
already_damaged (inr (inr e)) = absurd cc

elsewhere : UnlessFailed (Err (Damaged 0)) (Err (Damaged 6)) → ⊥
elsewhere (inl e) = absurd cc
elsewhere (inr (inl e)) = absurd cc
elsewhere (inr (inr e)) = absurd cc

pub returns-clause-decided : goal.returns-clause-decided
returns-clause-decided c = record {
  nothing_there = (λ s. inl refl, λ payloads more s. absurd (more (one_list [] payloads [] s (search rules))), λ at damage. absurd (never_both [] [] at (search rules) damage));
  a_record = (λ s. let same = one_list closed [] (abc ∷ []) s is_whole in absurd cc, λ payloads more s. inl refl, λ at damage. absurd (never_both closed (abc ∷ []) at is_whole damage));
  damage = (λ s. absurd (never_both damaged [] 6 s is_damaged), λ payloads more s. absurd (never_both damaged payloads 6 s is_damaged), λ at other. inl (ap (λ n. Err (Damaged n)) (one_damage damaged 6 at is_damaged other)));
  a_failure = (λ s. inr (inl refl), λ payloads more s. inr (inl refl), λ at damage. inr (inl refl));
  not_already_on_nothing = λ h. already_done (h.0 (search rules));
  not_done_over_a_record = λ h. done_already (h.1 (abc ∷ []) some is_whole);
  not_already_on_damage = λ h. already_damaged (h.2 6 is_damaged);
  not_damaged_elsewhere = λ h. elsewhere (h.2 6 is_damaged);
}

twice : FoundsOnce plan (Some empty) (Some (founds plan set_up)) → ⊥
twice (inl e) = let bad : 2 ≡ 0 = ap length e in omega (arith, bad)
twice (inr (s, (ask, call, e))) = let bad : 2 ≡ 1 = ap length e in omega (arith, bad)

over_a_record : FoundsOnce plan (Some (uncalled closed)) (Some (founds plan there)) → ⊥
over_a_record (inl e) = let bad : 1 ≡ 0 = ap length e in omega (arith, bad)
over_a_record (inr (s, more)) = let same = one_list closed [] (abc ∷ []) s is_whole in absurd cc

pub returns-clause-foundings : goal.returns-clause-foundings
returns-clause-foundings c = record {
  one = inr (search rules, (record { call = Found plan.kind plan.genesis; before = 5; succeeded = true }, refl, refl));
  none = inl refl;
  not_two = twice;
  not_over_a_record = over_a_record;
}
