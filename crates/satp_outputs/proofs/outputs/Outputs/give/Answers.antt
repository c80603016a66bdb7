use Rattle.std.proofs.Common.{◌∙◌, ℕ, ap}
use Rattle.satp_base.specs.Ledgers.{Entries}
use Rattle.satp_money.proofs.Steps.{entry_put, entry_there, from_err, from_ok, not_giving}
use Rattle.satp_outputs.specs.States.{book_of, unspent_in, unspent_of}
use Rattle.satp_outputs.specs.Unspent.{with_output}
use Rattle.satp_outputs.proofs.MoveLemmas.{give_done, give_numbers, received}
use Rattle.satp_outputs.proofs.outputs.Outputs.give.Goals as goal

pub unreachable-requires : goal.unreachable-requires
unreachable-requires c = not_giving c.args.op _ c.requires.giving (entry_there c.args.self.now.entries.entries c.args.session (from_err c.insert.result _ c.if-is_err.ensures.value c.insert.ensures.absent))

pub invariant_of-self-2 : goal.invariant_of-self-2
invariant_of-self-2 c =
    let b = book_of c.args.self.now in
    let u = unspent_of c.args.self.now in
    let made = c.in_ok-add.ensures.ok ∙ ap (λ (n : ℕ). with_output u (received c.args.owned n)) c.get.ensures in
    let put = entry_put c.args.self.now.entries.entries c.insert.new.self.entries c.args.session c.args.op _ c.args.terms c.result_of-entry.ensures (from_ok c.insert.result _ c.if-is_err.ensures.value c.insert.ensures.updates).0 in
    record {
      agrees = give_done b c.args.op c.args.session c.args.terms u (unspent_in c.add.new.self) _ c.args.owned c.args.self.now.agrees c.requires.giving c.requires.terms c.requires.receiver made put;
      numbers = give_numbers b.entries _ c.args.op c.args.session c.args.terms u (unspent_in c.add.new.self) _ c.args.self.now.numbers c.requires.giving made put;
    }

pub returns-clause-ok : goal.returns-clause-ok
returns-clause-ok c =
    ap (λ (m : Entries). record (book_of c.args.self.now) { entries = m })
    (entry_put c.args.self.now.entries.entries c.insert.new.self.entries c.args.session c.args.op _ c.args.terms c.result_of-entry.ensures (from_ok c.insert.result _ c.if-is_err.ensures.value c.insert.ensures.updates).0)
