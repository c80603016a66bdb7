use Rattle.std.proofs.Common.{ap}
use Rattle.std.specs.FinMap.{from_entries}
use Rattle.satp_base.specs.Ledgers.{Entries}
use Rattle.satp_base.proofs.GenesisReading.{on_ok}
use Rattle.satp_money.proofs.Steps.{entry_put, on_err, put_agrees, still_agrees}
use Rattle.satp_outputs.specs.States.{book_of}
use Rattle.satp_outputs.proofs.MoveLemmas.{still_numbers}
use Rattle.satp_outputs.proofs.outputs.Outputs.put.Goals as goal

pub invariant_of-self : goal.invariant_of-self
invariant_of-self c =
    let b = book_of c.args.self.now in
    let ok = on_ok c.insert.result _ _ (λ u. entry_put c.args.self.now.entries.entries c.insert.new.self.entries c.args.session c.args.op _ c.args.terms c.result_of-entry.ensures u.0) c.insert.ensures.updates in
    let err = on_err c.insert.result _ _ (ap from_entries) c.insert.ensures.err in
    record {
      agrees = put_agrees c.insert.result b _ c.args.op c.args.session c.args.terms _ _ c.args.self.now.agrees (still_agrees b c.args.op c.args.session c.args.terms _ _ c.args.self.now.agrees c.requires.still c.requires.terms c.requires.fits) ok err;
      numbers = still_numbers c.insert.result b.entries _ c.args.op c.args.session c.args.terms c.args.self.now.unspent.next c.args.self.now.numbers c.requires.still ok err;
    }

pub returns-in-Ok-clause-ok : goal.returns-in-Ok-clause-ok
returns-in-Ok-clause-ok c =
    ap (λ (m : Entries). record (book_of c.args.self.now) { entries = m })
    (entry_put c.args.self.now.entries.entries c.insert.new.self.entries c.args.session c.args.op _ c.args.terms c.result_of-entry.ensures c.in-Ok.ensures.updates.0)
