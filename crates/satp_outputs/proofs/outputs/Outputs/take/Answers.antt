use Rattle.std.proofs.Common.{ap, refl}
use Rattle.satp_base.specs.Ledgers.{Entries}
use Rattle.satp_base.specs.declared.ledger.LedgerOp.TheVariants.{Lock}
use Rattle.satp_money.proofs.Steps.{entry_put, from_ok}
use Rattle.satp_outputs.specs.States.{book_of, unspent_in, unspent_of}
use Rattle.satp_outputs.proofs.MoveLemmas.{lock_steps, take_done, take_numbers}
use Rattle.satp_outputs.proofs.outputs.Outputs.take.Goals as goal

pub invariant_of-self-2 : goal.invariant_of-self-2
invariant_of-self-2 c =
    let b = book_of c.args.self.now in
    let u = unspent_of c.args.self.now in
    let steps = lock_steps u (unspent_in c.add_change.new.self) (unspent_in c.remove_to.new.self) c.args.terms c.args.taking.last c.args.taking.rest c.args.self.now.unspent.below c.requires.ends c.in_ok-add_change.ensures.ok c.remove_to.ensures in
    let put = entry_put c.args.self.now.entries.entries c.insert.new.self.entries c.args.session Lock _ c.args.terms refl (from_ok c.insert.result _ c.if-is_err.ensures.value c.insert.ensures.updates).0 in
    record {
      agrees = take_done b c.args.session c.args.terms u (unspent_in c.remove_to.new.self) _ c.args.taking.last c.args.taking.rest c.args.self.now.agrees c.requires.none c.requires.ends steps put;
      numbers = take_numbers b.entries _ c.args.session c.args.terms u (unspent_in c.remove_to.new.self) c.args.self.now.numbers c.requires.none steps put;
    }

pub returns-clause-ok : goal.returns-clause-ok
returns-clause-ok c =
    ap (λ (m : Entries). record (book_of c.args.self.now) { entries = m })
    (entry_put c.args.self.now.entries.entries c.insert.new.self.entries c.args.session Lock _ c.args.terms refl (from_ok c.insert.result _ c.if-is_err.ensures.value c.insert.ensures.updates).0)

pub returns-clause-outputs : goal.returns-clause-outputs
returns-clause-outputs c = lock_steps (unspent_of c.args.self.now) (unspent_in c.add_change.new.self) (unspent_in c.remove_to.new.self) c.args.terms c.args.taking.last c.args.taking.rest c.args.self.now.unspent.below c.requires.ends c.in_ok-add_change.ensures.ok c.remove_to.ensures
