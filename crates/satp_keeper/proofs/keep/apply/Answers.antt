use Rattle.satp_keeper.proofs.Changes.{changed_by}
use Rattle.satp_keeper.proofs.keep.apply.Goals as goal

pub returns-in-Ok : goal.returns-in-Ok
returns-in-Ok g c =
    (c.in-Ok.ensures, changed_by (g.C.LedgerCore.book c.args.core.now) (g.C.LedgerCore.book c.apply.new.self) c.args.op c.args.session c.args.terms.now c.in-Ok.answer c.entry-after.result c.entry-before.result c.is_same.result c.in-Ok.ensures c.entry-after.ensures c.entry-before.ensures c.is_same.ensures)
