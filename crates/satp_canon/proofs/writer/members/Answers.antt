use Rattle.std.proofs.Common.{ℕ, List, arith}
use Rattle.satp_base.specs.Canonical.{member, message_member}
use Rattle.satp_base.specs.declared.member.MemberName.{MemberName}
use Rattle.satp_base.specs.declared.member.MemberName.TheVariants.{Amount}
use Rattle.satp_canon.proofs.Joined.{joined_more}
use Rattle.satp_canon.proofs.writer.members.Goals as goal

pub loop-index-preserved : goal.loop-index-preserved
loop-index-preserved c =
    let text : MemberName → List ℕ = λ name. member (message_member c.args.message.now name) in
    joined_more text c.args.out.now c.loop-index.out c.member_of.new.out c.row-name-items.result.now c.loop-index.index Amount (omega arith) c.loop-index.invariant c.in_ok-member_of.ensures
