use Rattle.std.proofs.Common.{◌≡◌, map, take}
use Rattle.serde_json.specs.View.{view}
use Rattle.satp_canon.specs.Reads.{entry_of}
use Rattle.satp_canon.proofs.entries.copies.Given as goal

abbrev pub invariant-loop-item : goal.invariant-loop-item
invariant-loop-item l = l.texts ≡ map (λ item. entry_of (view item)) (take l.item-index l.items.items)
