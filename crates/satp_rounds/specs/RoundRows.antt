-- Worked rounds, by kinds: what passes, and the outcome.
use Rattle.std.specs.Prelude.{◌≡◌, Bool, true, false, List, [], ◌∷◌, take, Option, Some, None}
use Rattle.satp_base.specs.Tales.{eleven}
use Rattle.satp_base.specs.Views.{nothing_done}
use Rattle.satp_base.specs.declared.ledger.Entry.{Entry}
use Rattle.satp_base.specs.declared.ledger.Entry.TheVariants.{Absent, Locked, Burnt, Minted, Assigned, Released}
use Rattle.satp_base.specs.declared.message.Kind.{Kind}
use Rattle.satp_base.specs.declared.message.Kind.TheVariants.{TransferProposal, ProposalReceipt, CommitPrepare, CommitReady, CommitFinal, CommitFinalAck, TransferComplete, Reject, Rollback, RollbackAck}
use Rattle.satp_base.specs.declared.message.Role.{Role}
use Rattle.satp_base.specs.declared.message.Role.TheVariants.{Origin, Recipient}
use Rattle.satp_base.specs.declared.message.Terms.{Terms}
use Rattle.satp_base.specs.declared.record.Cause.TheVariants.{Aborted}
use Rattle.satp_base.specs.declared.record.Way.{Way}
use Rattle.satp_base.specs.declared.record.Way.TheVariants.{Commit, Back}
use Rattle.satp_base.specs.declared.view.Done.{Done}
use Rattle.satp_sides.specs.Halves.{Half}
use Rattle.satp_rounds.specs.Funds.{Funds, Enough, Over}
use Rattle.satp_rounds.specs.Rounds.{Pair, Passed, Recovers, Updates, Messages, Succeeds, commits, pair, round}
use Rattle.satp_rounds.specs.Transfers.{unnamed}

abbrev half_with : Role → Terms → List Kind → Done → Option Way → Entry → Half
half_with role terms tale done way entry = record { view = record { role = role; terms = terms; tale = tale; done = done; way = way; rescue = false }; entry = entry }

abbrev origin_at : Terms → List Kind → Done → Option Way → Entry → Half
origin_at terms tale done way entry = half_with Origin terms tale done way entry

abbrev recipient_at : Terms → List Kind → Done → Option Way → Entry → Half
recipient_at terms tale done way entry = half_with Recipient terms tale done way entry

abbrev locked : Done
locked = record nothing_done { lock = true }

abbrev minted : Done
minted = record nothing_done { mint = true }

abbrev Passes : Role → Funds → Pair → Bool → List Passed → Type 0
Passes role f s committed texts = (commits f s ≡ committed) × ((round role f s).texts ≡ texts)

pub record RoundRows (f : Funds) (terms : Terms) : Type 0 where
  -- the origin stopped after its ledger burnt, and before it stored that: the recipient starts
  pub burnt_and_not_noted :
      Passes Recipient f (pair (origin_at terms (take 8 eleven) locked (Some Commit) Burnt) (recipient_at terms (take 8 eleven) minted None Minted)) true
      (Recovers 8 ∷ Updates 9 1 ∷ Messages CommitFinalAck ∷ Messages TransferComplete ∷ Succeeds ∷ [])
  -- the recipient stopped while it stored commit-ready, which stands or doesn't: the origin starts
  pub ready_stored :
      Passes Origin f (pair (origin_at terms (take 7 eleven) locked None Locked) (recipient_at terms (take 8 eleven) minted None Minted)) true
      (Recovers 7 ∷ Updates 8 1 ∷ Messages CommitFinal ∷ Messages CommitFinalAck ∷ Messages TransferComplete ∷ Succeeds ∷ [])
  pub ready_not_stored :
      Passes Origin f (pair (origin_at terms (take 7 eleven) locked None Locked) (recipient_at terms (take 7 eleven) minted None Minted)) true
      (Recovers 7 ∷ Updates 8 1 ∷ Messages CommitFinal ∷ Messages CommitFinalAck ∷ Messages TransferComplete ∷ Succeeds ∷ [])
  -- commit-ready was lost, and the origin was aborted
  pub ready_lost_and_aborted :
      Passes Origin f (pair (origin_at terms (take 7 eleven) (record locked { release = true }) (Some (Back Aborted)) Released) (recipient_at terms (take 8 eleven) minted None Minted)) false
      (Recovers 7 ∷ Updates 8 1 ∷ Messages Rollback ∷ Messages RollbackAck ∷ Succeeds ∷ [])
  -- the proposal was lost
  pub proposal_lost :
      Passes Origin f (pair (origin_at terms (take 1 eleven) nothing_done None Absent) (unnamed Recipient terms)) false
      (Recovers 1 ∷ Updates 0 0 ∷ Messages TransferProposal ∷ Messages ProposalReceipt ∷ Messages Rollback ∷ Messages RollbackAck ∷ Succeeds ∷ [])
  -- commit-prepare was lost: the ledger's answer to the mint decides
  pub prepare_lost :
      (l : Bool) → Passes Origin (record { lock = l; mint = Enough }) (pair (origin_at terms (take 7 eleven) locked None Locked) (recipient_at terms (take 6 eleven) nothing_done None Absent)) true
      (Recovers 7 ∷ Updates 6 0 ∷ Messages CommitPrepare ∷ Messages CommitReady ∷ Messages CommitFinal ∷ Messages CommitFinalAck ∷ Messages TransferComplete ∷ Succeeds ∷ [])
  pub prepare_lost_over_the_cap :
      (l : Bool) → Passes Origin (record { lock = l; mint = Over }) (pair (origin_at terms (take 7 eleven) locked None Locked) (recipient_at terms (take 6 eleven) nothing_done None Absent)) false
      (Recovers 7 ∷ Updates 6 0 ∷ Messages CommitPrepare ∷ Messages Reject ∷ Messages Rollback ∷ Messages RollbackAck ∷ Succeeds ∷ [])
  -- nothing was lost: whoever starts, three texts pass
  pub whole :
      (role : Role) → Passes role f (pair (origin_at terms eleven (record locked { burn = true }) (Some Commit) Burnt) (recipient_at terms eleven (record minted { assign = true }) None Assigned)) true
      (Recovers 11 ∷ Updates 11 0 ∷ Succeeds ∷ [])

-- each row, whatever the ledgers answer and under whatever terms
abbrev pub RowsPass : Type 0
RowsPass = (f : Funds) (terms : Terms) → RoundRows f terms
