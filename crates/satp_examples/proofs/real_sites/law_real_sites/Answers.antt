use Rattle.std.proofs.Common.{◌≡◌, ◌≢◌, ◌≤◌, ℕ, true, false, List, [], ◌∷◌, Option, None, Some, Result, Ok, Err, refl, sym, ap, ◌∙◌, subst, inl, inr, arith, lit≤, rules}
use Rattle.satp_base.specs.Format.{Stands}
use Rattle.satp_base.specs.GenesisText.{nothing}
use Rattle.satp_base.specs.declared.ledger.ActFault.{ActFault}
use Rattle.satp_base.specs.declared.ledger.ActFault.TheVariants.{Failed}
use Rattle.satp_base.specs.declared.ledger.Answer.{Answer}
use Rattle.satp_base.specs.declared.ledger.Answer.TheVariants.{Done}
use Rattle.satp_base.specs.declared.ledger.Entry.{Entry}
use Rattle.satp_base.specs.declared.ledger.LedgerKind.{LedgerKind}
use Rattle.satp_keeper.specs.declared.fault.KeeperFault.TheVariants.{Broken, Disk}
use Rattle.satp_devices.specs.declared.area_file.AreaFile.{AreaFile}
use Rattle.satp_devices.specs.declared.folder.Folder.{Folder}
use Rattle.satp_site.specs.Directories.{DiskState}
use Rattle.satp_site.specs.Keeping.{KeptState}
use Rattle.satp_site.specs.Sites.{HasNoSecond, HasSecond}
use Rattle.satp_base.specs.Calls.{Told}
use Rattle.satp_examples.specs.Keepers.{accounts}
use Rattle.satp_examples.specs.RealSites.{Founds, Locks, Looks, Raises, broken, broken_and_asked, counts, fresh}
use Rattle.satp_examples.proofs.Books.{no_genesis}
use Rattle.satp_examples.proofs.real_sites.law_real_sites.Goals as goal

-- ---- foundings and openings

-- the state that is held is the one that is told
held : (a b : KeptState) → Some a ≡ Some b → a ≡ b
held a b e = cc

-- the area of a ledger without an asset
abbrev image : List ℕ
image = 1 ∷ 0 ∷ 2 ∷ 16 ∷ 1 ∷ 0 ∷ []

stands : Stands image (accounts ∷ [])
stands = search rules

whole : (s : KeptState) → Some broken ≡ Some s → s.journal.held.broken ≡ true
whole s e = ap (λ (x : KeptState). x.journal.held.broken) (sym (held broken s e))

raised_broken : Raises (counts 2 0) (Ok tt) (counts 2 0) (Some broken) → ⊥
raised_broken (s, e, (_, inl opened, _)) = let no = whole s e in let is = opened.whole in absurd cc
raised_broken (s, e, (_, inr (between, refused, opened), _)) = let no = whole s e in let is = opened.whole in absurd cc

had_second : HasSecond (counts 2 0) (counts 2 0)
had_second = record { told = refl; faults = refl }

no_second : HasNoSecond (counts 2 0) (counts 3 0)
no_second = record { told = refl; rose = lit≤ tt; second = refl }

-- what is told of two numbers of calls
calls_of : (a b : Told) → Some a ≡ Some b → a.calls ≡ b.calls
calls_of a b e = cc

pub returns-clause-disks : goal.returns-clause-disks
returns-clause-disks c = record {
  had = record { told = refl; faults = refl };
  not_had_twice = λ h. let bad : 6 ≡ 5 = calls_of _ _ h.told in absurd (omega (arith, bad));
  not_had_uncounted = λ h. let bad : 4 ≡ 5 = calls_of _ _ h.told in absurd (omega (arith, bad));
  had_and_given_back = record { told = refl; faults = refl; cause = record { rose = λ e. absurd cc; still = λ _. refl } };
  not_had_and_kept = λ h. let bad : 5 ≡ 6 = calls_of _ _ h.told in absurd (omega (arith, bad));
  not_given_back_without_a_ledger = refl;
  none_had = no_second;
  no_fault_uncounted = λ h. let bad : 3 ≤ 2 = h.rose in absurd (omega (arith, bad));
  no_fault_of_the_second = λ h. let bad : 1 ≡ 0 = ap (λ (d : DiskState). d.faults) h.second in absurd (omega (arith, bad));
  a_failed_disk = record { told = refl; faults = refl; cause = record { rose = λ _. lit≤ tt; still = λ no. absurd (no refl) } };
  no_failed_disk_uncounted = λ h. let bad : 1 ≤ 0 = h.cause.rose refl in absurd (omega (arith, bad));
  no_want_of_memory_counted_there = λ h. let bad : 1 ≡ 0 = h.cause.still (λ e. absurd cc) in absurd (omega (arith, bad));
}

pub returns-clause-ledgers : goal.returns-clause-ledgers
returns-clause-ledgers c = record {
  founded = (fresh, refl, (had_second, record { kind = refl; calls = refl; book = refl; whole = refl; payloads = tt; leaves = tt; rests = tt; own_faults = refl; wants = refl }, refl));
  not_founded_without_a_disk = λ fault. (refl, inl no_second);
  not_founded_where_its_disk_failed = λ fault. (refl, inr (Disk, record { told = refl; faults = refl; cause = record { rose = λ _. lit≤ tt; still = λ no. absurd (no refl) } }, (0, _, refl, ([], inl refl, refl))));
  not_of_another_kind = λ h. let bad = ap (λ (x : KeptState). x.kind) (held _ h.0 h.1) ∙ h.2.1.kind in absurd cc;
  not_broken = λ h. let no = whole h.0 h.1 in let is = h.2.1.whole in absurd cc;
  not_with_a_fault = λ h. let bad : 1 ≡ 0 = ap (λ (x : KeptState). x.own_faults) (held _ h.0 h.1) ∙ h.2.1.own_faults in absurd (omega (arith, bad));
  not_with_a_fault_of_its_disk = λ h. let bad : 1 ≡ 0 = ap (λ (x : KeptState). x.disk_faults) (held _ h.0 h.1) ∙ h.2.2 in absurd (omega (arith, bad));
  not_founded_and_not_held = λ h. let bad = h.1 in absurd cc;
  not_held_and_not_founded = λ fault h. let bad = h.0 in absurd cc;
  raised = (fresh, refl, (had_second, inl (record { kind = refl; opened = (image, (tt, stands, refl, refl), refl); leaves = (nothing, [], record { valid = no_genesis; runs = refl; list = refl }); whole = refl; rests = tt; own_faults = refl; wants = refl }), refl));
  not_raised_without_a_disk = λ fault. (refl, inl no_second);
  not_raised_and_not_held = λ h. let bad = h.1 in absurd cc;
  not_held_and_not_raised = λ fault h. let bad = h.0 in absurd cc;
  not_raised_broken = raised_broken;
  not_raised_over_a_fault = λ h. let bad : 1 ≡ 0 = ap (λ (x : KeptState). x.disk_faults) (held _ h.0 h.1) ∙ h.2.2 in absurd (omega (arith, bad));
}

-- ---- operations and looks

pub returns-clause-calls : goal.returns-clause-calls
returns-clause-calls c = record {
  no_lock_without_one = (refl, refl);
  no_lock_where_it_is_broken = (broken_and_asked, refl, record { inner = Err Broken; answer = refl; kind = refl; keeps = (refl, (refl, refl, refl)); own_faults = refl; wants = refl }, ([], inr refl, inl (refl, refl)));
  not_done_without_one = λ h. let bad = h.0 in absurd cc;
  not_dropped_by_a_lock = λ result h. let bad = h.1 in absurd cc;
  not_made_by_a_lock = λ result h. let bad = h.1 in absurd cc;
  its_entry = (fresh, refl, record { answer = refl; same = refl });
  no_entry_without_one = (refl, refl);
  no_entry_where_it_is_broken = (broken_and_asked, refl, record { answer = refl; same = refl });
  not_shown_without_one = λ entry h. let bad = h.0 in absurd cc;
  not_shown_where_it_is_broken = λ entry new h. let bad = h.2.answer in absurd cc;
  not_refused_where_it_is_whole = λ new h. let bad = h.2.answer in absurd cc;
  not_uncounted = λ h. let bad : 0 ≡ 1 = ap (λ (x : KeptState). x.own_faults) (held broken h.0 h.1 ∙ h.2.same) in absurd (omega (arith, bad));
}

-- ---- counts and places of a real disk

pub returns-clause-places : goal.returns-clause-places
returns-clause-places c = record {
  a_fault_counted = λ fault. refl;
  none_past_the_last_number = λ fault. refl;
  no_fault_uncounted = λ fault h. let bad : 4 ≡ 5 = h in absurd (omega (arith, bad));
  no_success_counted = λ h. let bad : 5 ≡ 4 = h in absurd (omega (arith, bad));
  a_call_in_a_directory = λ f answer. record { others = refl; path = refl };
  outside_of_one = λ fault. (refl, refl);
  no_success_outside = λ h. let bad = h.1 in absurd cc;
  not_out_of_it = λ f answer h. h;
  not_the_file_of_another = λ f other answer apart h. apart (ap (λ (x : Folder). x.ledger) h.others);
  a_failed_entering = λ dir fault. refl;
  not_into_none = λ dir h. h;
  not_where_it_was = λ dir f fault h. absurd cc;
  no_second_of_none = λ f h. h;
  no_second_in_none = λ f h. h;
}
