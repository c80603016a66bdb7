use Rattle.std.proofs.Common.{refl}
use Rattle.satp_plan.proofs.Collecting.{part-added}
use Rattle.satp_plan.proofs.outline.add_part.Goals as goal

pub returns : goal.returns
returns c = part-added c.args.view.now c.args.kind c.made_part.result c.args.outline.now (record { recs = c.args.outline.now.recs; parts = c.push.new.self }) c.requires.reached c.requires.due c.made_part.ensures c.in_ok-push.ensures.items refl
