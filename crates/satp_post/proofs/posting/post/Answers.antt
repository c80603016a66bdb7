use Rattle.std.proofs.Common.{◌∙◌, List, ℕ, ap}
use Rattle.std.specs.Prelude.{option_map}
use Rattle.satp_base.specs.Values.{address_text}
use Rattle.satp_base.specs.Wires.{says}
use Rattle.satp_post.proofs.Ends.{posts}
use Rattle.satp_post.proofs.posting.post.Goals as goal

pub returns-clause-posts : goal.returns-clause-posts
returns-clause-posts g c =
    posts (address_text c.args.at.now) c.args.text.now c.args.responses.now c.hear.new.responses (g.W.Wire.told c.args.wire.now) (g.W.Wire.told c.say_all.new.wire) (g.W.Wire.told c.hear.new.wire)
    (g.W.Wire.faults c.args.wire.now) (g.W.Wire.faults c.say_all.new.wire) (g.W.Wire.faults c.hear.new.wire) c.hear.result
    (c.in-Ok-say_all.ensures.ok ∙ ap (λ (l : List ℕ). option_map (says l) (g.W.Wire.told c.args.wire.now)) (c.bytes.ensures ∙ c.in-Ok.ensures)) c.in-Ok-say_all.ensures.cause.kept c.hear.ensures.hears
