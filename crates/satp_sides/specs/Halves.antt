-- One side of a session: what its records say and its ledger's entry, and what always holds of both.
use Rattle.std.specs.Prelude.{◌≡◌, ◌≢◌, ℕ, Bool, IsTrue, IsFalse, ◌==◌}
use Rattle.satp_base.specs.LedgerRule.{leads, result_of}
use Rattle.satp_base.specs.Roles.{both, either, is_aborted, is_back, is_commit, no_way}
use Rattle.satp_base.specs.Tales.{IsTale, has}
use Rattle.satp_base.specs.Views.{push}
use Rattle.satp_base.specs.declared.message.Kind.TheVariants.{TransferProposal, CommenceAck, LockAssert, CommitPrepare, CommitReady, CommitFinal, CommitFinalAck, Reject, Rollback, RollbackAck}
use Rattle.satp_base.specs.declared.ledger.Answer.{Answer}
use Rattle.satp_base.specs.declared.ledger.Entry.{Entry}
use Rattle.satp_base.specs.declared.ledger.Entry.TheVariants.{Absent, Locked, Burnt, Minted, Assigned, Released}
use Rattle.satp_base.specs.declared.ledger.LedgerOp.{LedgerOp}
use Rattle.satp_base.specs.declared.ledger.LedgerOp.TheVariants.{Lock, Mint}
use Rattle.satp_base.specs.declared.record.Rec.{Rec}
use Rattle.satp_base.specs.declared.view.View.{View}

abbrev pub entry_code : Entry → ℕ
entry_code Absent = 0
entry_code Locked = 1
entry_code Burnt = 2
entry_code Minted = 3
entry_code Assigned = 4
entry_code Released = 5

abbrev pub entry_is : Entry → Entry → Bool
entry_is e f = entry_code e == entry_code f

-- the operation is answered Done on this entry, where the amounts allow it: the table leads on from it, or it is done already
abbrev pub can_do : LedgerOp → Entry → Bool
can_do op e = either (leads op e) (entry_is e (result_of op))

-- An answer of a ledger that agrees with the session's entry, and the entry after it, whatever the amounts are.
abbrev pub Agrees : LedgerOp → Entry → Answer → Entry → Type 0
Agrees op e Answer.Done new = IsTrue (can_do op e) × (new ≡ result_of op)
Agrees Lock e (Answer.NoFunds free) new = (e ≡ Absent) × (new ≡ e)
Agrees Lock e (Answer.Taken entry) new = (e ≢ Absent) × (e ≢ Locked) × (entry ≡ e) × (new ≡ e)
Agrees Mint e Answer.UnknownAsset new = (e ≡ Absent) × (new ≡ e)
Agrees Mint e (Answer.Capped total) new = (e ≡ Absent) × (new ≡ e)
Agrees Mint e (Answer.Taken entry) new = (e ≢ Absent) × (e ≢ Minted) × (entry ≡ e) × (new ≡ e)
Agrees _ e _ new = ⊥

-- one side of a session: the view of its records, and its ledger's entry
pub record Half : Type 0 where
  pub view : View
  pub entry : Entry

abbrev pub half : View → Entry → Half
half v e = record { view = v; entry = e }

abbrev pub after_record : Half → Rec → Half
after_record h r = record { view = push h.view r; entry = h.entry }

abbrev pub with_entry : Half → Entry → Half
with_entry h e = record { view = h.view; entry = e }

-- what always holds of the origin's side
pub record OriginStands (h : Half) : Type 0 where
  pub tale : IsTale h.view.tale
  pub begun : IsTrue (has TransferProposal h.view.tale)
  -- it neither mints nor assigns
  pub mints_not : IsFalse h.view.done.mint
  pub assigns_not : IsFalse h.view.done.assign
  -- lock-assert implies Did(Lock), commit-final implies Did(Burn), rollback implies Did(Release)
  pub asserted : IsTrue (has LockAssert h.view.tale) → IsTrue h.view.done.lock
  pub final : IsTrue (has CommitFinal h.view.tale) → IsTrue h.view.done.burn
  pub rolled : IsTrue (has Rollback h.view.tale) → IsTrue h.view.done.release
  -- a done operation has its place and its way
  pub lock_place : IsTrue h.view.done.lock → IsTrue (has CommenceAck h.view.tale)
  pub burn_way : IsTrue h.view.done.burn → IsTrue (is_commit h.view.way)
  pub release_way : IsTrue h.view.done.release → IsTrue (is_back h.view.way)
  -- Commit was chosen behind commit-ready
  pub committed : IsTrue (is_commit h.view.way) → IsTrue (has CommitReady h.view.tale)
  -- Did(op) implies that the entry is op's result or a later state
  pub lock_entry : IsTrue h.view.done.lock → IsFalse (entry_is h.entry Absent)
  pub burn_entry : IsTrue h.view.done.burn → IsTrue (entry_is h.entry Burnt)
  pub release_entry : IsTrue h.view.done.release → IsTrue (entry_is h.entry Released)
  -- an entry has its place and its way
  pub locked : IsTrue (entry_is h.entry Locked) → IsTrue (has CommenceAck h.view.tale)
  pub burnt : IsTrue (entry_is h.entry Burnt) → IsTrue (is_commit h.view.way)
  pub released : IsTrue (entry_is h.entry Released) → IsTrue (is_back h.view.way)
  pub never_minted : IsFalse (entry_is h.entry Minted)
  pub never_assigned : IsFalse (entry_is h.entry Assigned)

-- what always holds of the recipient's side
pub record RecipientStands (h : Half) : Type 0 where
  pub tale : IsTale h.view.tale
  pub begun : IsTrue (has TransferProposal h.view.tale)
  -- it neither rescues, commits, locks nor burns
  pub rescues_not : IsFalse h.view.rescue
  pub commits_not : IsFalse (is_commit h.view.way)
  pub locks_not : IsFalse h.view.done.lock
  pub burns_not : IsFalse h.view.done.burn
  -- commit-ready implies Did(Mint), commit-final-ack Did(Assign), reject the recipient's Back
  pub ready : IsTrue (has CommitReady h.view.tale) → IsTrue h.view.done.mint
  pub acked : IsTrue (has CommitFinalAck h.view.tale) → IsTrue h.view.done.assign
  pub rejected : IsTrue (has Reject h.view.tale) → IsTrue (is_back h.view.way)
  -- no Back beside commit-ready
  pub too_late : IsTrue (has CommitReady h.view.tale) → IsTrue (no_way h.view.way)
  -- what was made of commit-prepare is released before the tale goes on
  pub cleared : IsTrue (has CommitPrepare h.view.tale) → IsTrue (either (no_way h.view.way) (is_aborted h.view.way)) → IsTrue (either (has RollbackAck h.view.tale) (has Reject h.view.tale)) → IsTrue h.view.done.release
  -- a done operation has its place
  pub mint_place : IsTrue h.view.done.mint → IsTrue (has CommitPrepare h.view.tale)
  pub assign_place : IsTrue h.view.done.assign → IsTrue (has CommitFinal h.view.tale)
  pub release_place : IsTrue h.view.done.release → IsTrue (entry_is h.entry Released)
  -- Did(op) implies that the entry is op's result or a later state
  pub mint_entry : IsTrue h.view.done.mint → IsFalse (entry_is h.entry Absent)
  pub assign_entry : IsTrue h.view.done.assign → IsTrue (entry_is h.entry Assigned)
  -- an entry has its place
  pub minted : IsTrue (entry_is h.entry Minted) → IsTrue (has CommitPrepare h.view.tale)
  pub assigned : IsTrue (entry_is h.entry Assigned) → IsTrue (has CommitFinal h.view.tale)
  pub released : IsTrue (entry_is h.entry Released) → IsTrue (both (has CommitPrepare h.view.tale) (either (has Rollback h.view.tale) (is_aborted h.view.way)))
  pub never_locked : IsFalse (entry_is h.entry Locked)
  pub never_burnt : IsFalse (entry_is h.entry Burnt)
  -- a Back other than an abort was a refused Mint
  pub refused_place : IsTrue (is_back h.view.way) → IsFalse (is_aborted h.view.way) → IsTrue (has CommitPrepare h.view.tale)
  pub refused_mint : IsTrue (is_back h.view.way) → IsFalse (is_aborted h.view.way) → IsFalse h.view.done.mint
  pub refused_entry : IsTrue (is_back h.view.way) → IsFalse (is_aborted h.view.way) → IsTrue (entry_is h.entry Absent)
