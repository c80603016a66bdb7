use Rattle.std.proofs.Common.{◌∙◌, ℕ, Bool, List, take, drop, if◌then◌else◌, ap, sym}
use Rattle.satp_memory.specs.Calling.{failed, succeeded}
use Rattle.satp_memory.proofs.Talking.{heard_more, hears_as}
use Rattle.satp_memory.proofs.wire.MemWireWire.read.Goals as goal

pub returns-clause-ends : goal.returns-clause-ends
returns-clause-ends c =
    let in_wire = c.self.inside in
    let n : ℕ = c.copy_from-count.result in
    let due = sym c.begin.ensures.refused ∙ c.if-begin.false in
    hears_as c.copy_from-count.new.into _ _ _ n c.self.view_is (
      due,
      c.copy_from-count.ensures.reads.bytes ∙ ap (λ (l : List ℕ). take n (drop in_wire.place l)) c.deref.ensures.value,
      heard_more in_wire.heard.items in_wire.said.items in_wire.place n _ _ in_wire.used in_wire.is_open in_wire.listens in_wire.dials.items _ _ c.has_ended-self-inside.ensures
          (c.begin.ensures.counted ∙ ap (λ (b : Bool). if b then failed in_wire.calls else succeeded in_wire.calls) due),
    )
