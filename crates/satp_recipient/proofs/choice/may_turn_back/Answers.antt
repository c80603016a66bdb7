use Rattle.satp_recipient.proofs.Rule.{minted_not, not_its}
use Rattle.satp_recipient.proofs.choice.may_turn_back.Goals as goal

pub returns-in-UnknownAsset : goal.returns-in-UnknownAsset
returns-in-UnknownAsset c = minted_not _ _ _ c.in-UnknownAsset.is c.acts.ensures

pub returns-in-LockRefused : goal.returns-in-LockRefused
returns-in-LockRefused c = not_its _ _ c.in-LockRefused.is
