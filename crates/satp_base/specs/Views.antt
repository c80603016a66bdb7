-- What the records of one session say to the side that stored them: a fold.
use Rattle.std.specs.Prelude.{true, false, List, [], ◌∷◌, ◌++◌, Option, Some, None}
use Rattle.satp_base.specs.declared.message.Kind.{Kind}
use Rattle.satp_base.specs.declared.message.Kind.TheVariants.{TransferProposal}
use Rattle.satp_base.specs.declared.message.Role.{Role}
use Rattle.satp_base.specs.declared.message.Terms.{Terms}
use Rattle.satp_base.specs.declared.ledger.LedgerOp.{LedgerOp}
use Rattle.satp_base.specs.declared.ledger.LedgerOp.TheVariants.{Lock, Burn, Mint, Assign, Release}
use Rattle.satp_base.specs.declared.record.Rec.{Rec}
use Rattle.satp_base.specs.declared.record.Rec.TheVariants.{Began, Took, Made, Did, Chose, Rescue}
use Rattle.satp_base.specs.declared.view.Done.{Done}
use Rattle.satp_base.specs.declared.view.View.{View}
use Rattle.satp_base.specs.Tales.{IsTale}

abbrev pub nothing_done : Done
nothing_done = record { lock = false; burn = false; mint = false; assign = false; release = false }

-- the view after Began alone: the proposal is the chain's first message, and nothing else has happened
abbrev pub begin : Role → Terms → View
begin role terms = record { role = role; terms = terms; tale = TransferProposal ∷ []; done = nothing_done; way = None; rescue = false }

abbrev pub with_done : LedgerOp → Done → Done
with_done Lock d = record d { lock = true }
with_done Burn d = record d { burn = true }
with_done Mint d = record d { mint = true }
with_done Assign d = record d { assign = true }
with_done Release d = record d { release = true }

-- the view after one record more; a session begins once
abbrev pub push : View → Rec → View
push v (Began role terms) = v
push v (Took kind) = record v { tale = v.tale ++ kind ∷ [] }
push v (Made kind) = record v { tale = v.tale ++ kind ∷ [] }
push v (Did op) = record v { done = with_done op v.done }
push v (Chose way) = record v { way = Some way }
push v Rescue = record v { rescue = true }

-- the view behind further records
abbrev pub view_from : View → List Rec → View
view_from v [] = v
view_from v (r ∷ rs) = view_from (push v r) rs

-- the view of a session's records, of which Began is the first
abbrev pub view_of : List Rec → Option View
view_of (Began role terms ∷ rs) = Some (view_from (begin role terms) rs)
view_of _ = None

-- the message of the record, where it has one, goes on with the tale
abbrev pub KeepsTale : List Kind → Rec → Type 0
KeepsTale tale (Began role terms) = Unit {0}
KeepsTale tale (Took kind) = IsTale (tale ++ kind ∷ [])
KeepsTale tale (Made kind) = IsTale (tale ++ kind ∷ [])
KeepsTale tale (Did op) = Unit {0}
KeepsTale tale (Chose way) = Unit {0}
KeepsTale tale Rescue = Unit {0}
