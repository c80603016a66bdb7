use Rattle.std.proofs.Common.{◌≡◌, ◌++◌, take}
use Rattle.satp_base.specs.Canonical.{member, message_member}
use Rattle.satp_canon.proofs.Joined.{joined}
use Rattle.satp_canon.proofs.writer.members.Given as goal

abbrev pub invariant-loop-index : goal.invariant-loop-index
invariant-loop-index l = l.out ≡ l.fn.out ++ joined (λ name. member (message_member l.message name)) (take l.index l.name-items)
