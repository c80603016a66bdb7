use Rattle.satp_origin.proofs.Rule.{refused, not_its}
use Rattle.satp_origin.proofs.choice.may_turn_back.Goals as goal

pub returns-in-LockRefused : goal.returns-in-LockRefused
returns-in-LockRefused c = refused _ _ _ c.in-LockRefused.is c.acts.ensures

pub returns-in-UnknownAsset : goal.returns-in-UnknownAsset
returns-in-UnknownAsset c = not_its _ _ c.in-UnknownAsset.is
