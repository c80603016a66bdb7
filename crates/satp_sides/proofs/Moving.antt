-- An operation as a move, under the terms of its session.
use Rattle.std.proofs.Common.{sym, subst}
use Rattle.satp_base.specs.LedgerRule.{LedgerRule, operation}
use Rattle.satp_base.specs.Money.{Book}
use Rattle.satp_base.specs.declared.ledger.LedgerOp.{LedgerOp}
use Rattle.satp_base.specs.declared.message.Terms.{Terms}
use Rattle.satp_base.specs.declared.session.SessionId.{SessionId}
use Rattle.satp_sides.specs.Moves.{IsAct}
use Rattle.satp_sides.specs.Points.{Side}

module _ (side : Side) (s : SessionId) (op : LedgerOp) (terms : Terms) (k : IsAct side s op terms) where
  pub act-rule : LedgerRule side.book op s k.view.terms k.answer (operation side.book op s k.view.terms).after
  act-rule = subst (λ t. LedgerRule side.book op s t k.answer (operation side.book op s t).after) k.under k.rule

  pub act-at : (P : Book → Type 0) → P (operation side.book op s k.view.terms).after → P (operation side.book op s terms).after
  act-at P h = subst (λ t. P (operation side.book op s t).after) (sym k.under) h
