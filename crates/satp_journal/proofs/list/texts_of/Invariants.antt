use Rattle.std.proofs.Common.{◌≡◌, ◌-◌, length, take}
use Rattle.satp_journal.proofs.list.texts_of.Given as goal

-- the texts are the first payloads
abbrev pub invariant-loop-payload : goal.invariant-loop-payload
invariant-loop-payload l = l.texts ≡ take (length l.texts) l.stock.payloads

abbrev pub decreases-loop-payload : goal.decreases-loop-payload
decreases-loop-payload l = length l.stock.payloads - length l.texts
