use Rattle.std.proofs.Common.{refl, sym, ap, ◌∙◌}
use Rattle.satp_base.specs.declared.message.Kind.TheVariants.{TransferProposal}
use Rattle.satp_base.specs.Tales.{comes_behind, kind_eq}
use Rattle.satp_base.proofs.TaleTable.{kind_eq-is, extends-is, extends-by}
use Rattle.satp_base.proofs.tale.Tale.extends.Goals as goal

pub returns-in-TransferProposal : goal.returns-in-TransferProposal
returns-in-TransferProposal c = (
  λ h. extends-is c.args.self.now c.args.kind c.last.ensures.tale (ap (λ o. comes_behind o c.args.kind) (sym c.last.ensures.last ∙ c.in-None.is) ∙ ap (λ k. kind_eq k TransferProposal) c.in-TransferProposal.is),
  λ e. refl,
)

pub returns-in_default : goal.returns-in_default
returns-in_default c = (
  λ h. absurd (cc h),
  λ e. absurd (c.in_default.not-TransferProposal (kind_eq-is c.args.kind TransferProposal (ap (λ o. comes_behind o c.args.kind) (sym c.in-None.is ∙ c.last.ensures.last) ∙ extends-by c.args.self.now c.args.kind c.last.ensures.tale e))),
)

pub returns-in-Some : goal.returns-in-Some
returns-in-Some c =
    let last = c.in-Some.ensures.last in (
      λ h. extends-is c.args.self.now c.args.kind c.in-Some.ensures.tale (ap (λ o. comes_behind o c.args.kind) (sym last) ∙ sym c.follows.ensures ∙ h),
      λ e. c.follows.ensures ∙ ap (λ o. comes_behind o c.args.kind) last ∙ extends-by c.args.self.now c.args.kind c.in-Some.ensures.tale e,
    )
