use Rattle.std.proofs.Common.{[], ◌∷◌, ◌++◌, sym, subst}
use Rattle.satp_base.specs.declared.message.Kind.TheVariants.{TransferProposal}
use Rattle.satp_base.specs.Tales.{IsTale}
use Rattle.satp_base.proofs.Finite.In.{here, there}
use Rattle.satp_base.proofs.TaleTable.{tale-is}
use Rattle.satp_base.proofs.view.View.begin.Goals as goal

pub push-requires : goal.push-requires
push-requires c = subst (λ v. IsTale (v ++ TransferProposal ∷ [])) (sym c.new-tale.ensures) (tale-is (TransferProposal ∷ []) (there here))
