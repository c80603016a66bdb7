use Rattle.std.proofs.Common.{Some, sym, ◌∙◌}
use Rattle.std.specs.Prelude.{option_map}
use Rattle.satp_memory.specs.Steps.{told_of}
use Rattle.satp_points.specs.States.{tells}
use Rattle.satp_drill.proofs.OpenLemmas.{opened-is}
use Rattle.satp_drill.proofs.place.open.Goals as goal

pub returns-then-has_ledger : goal.returns-then-has_ledger
returns-then-has_ledger g c =
    opened-is c.in-Ok.gateway (tells (Some (told_of c.args.site.disk)) (option_map g.C.LedgerCore.book c.args.site.core)) (told_of c.open.new.site.disk) (option_map g.C.LedgerCore.book c.open.new.site.core)
    (sym c.has_ledger.ensures ∙ c.if-has_ledger.true) c.in-Ok.ensures.answers c.in-Ok.ensures.at
