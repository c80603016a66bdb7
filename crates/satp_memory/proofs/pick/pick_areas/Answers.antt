use Rattle.std.proofs.Common.{ap, sym, ◌∙◌, length}
use Rattle.satp_base.specs.declared.area.Area.TheVariants.{JournalA, JournalB, Ledger}
use Rattle.satp_memory.proofs.pick.pick_areas.Goals as goal

pub picked-requires : goal.picked-requires
picked-requires c = ap length c.deref-3.ensures.value ∙ c.requires JournalA ∙ sym (ap length c.deref-2.ensures.value)

pub picked-requires-2 : goal.picked-requires-2
picked-requires-2 c = ap length c.deref-6.ensures.value ∙ c.requires JournalB ∙ sym (ap length c.deref-5.ensures.value)

pub picked-requires-3 : goal.picked-requires-3
picked-requires-3 c = ap length c.deref-9.ensures.value ∙ c.requires Ledger ∙ sym (ap length c.deref-8.ensures.value)
