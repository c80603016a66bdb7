use Rattle.std.proofs.Common.{[], ◌∷◌, refl, arith, lit≤, rules}
use Rattle.satp_base.specs.Trail.{KeepsModel}
use Rattle.satp_base.specs.declared.area.Area.TheVariants.{JournalA, JournalB, Ledger}
use Rattle.satp_examples.specs.Disks.{MayLeave, behind, failed_write, one_write}
use Rattle.satp_examples.proofs.disks.law_disks.Goals as goal

could_leave : MayLeave one_write (1 ∷ 0 ∷ 3 ∷ [])
could_leave = search rules

keeps : KeepsModel (behind (failed_write (1 ∷ 0 ∷ 3 ∷ [])))
keeps JournalA = (tt, (λ same. could_leave, tt))
keeps JournalB = (tt, (λ same. absurd cc, tt))
keeps Ledger = (tt, (λ same. absurd cc, tt))

pub returns-clause-left : goal.returns-clause-left
returns-clause-left c = record {
  what_a_stop_could_leave = keeps;
  not_another_byte = λ k. let bad = ((k JournalA).1.0 refl).kept 0 (lit≤ tt) (search rules) in absurd cc;
  not_another_length = λ k. let bad = ((k JournalA).1.0 refl).no_shorter in absurd (omega (arith, bad));
  not_behind_a_sync = λ k. let bad = ((k JournalA).1.1.0 refl).kept 1 (lit≤ tt) tt in absurd cc;
  is_read = refl;
  is_not_synced = search rules;
}
