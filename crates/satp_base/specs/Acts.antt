-- What a call on a ledger answers, and what it leaves of what the ledger tells.
use Rattle.std.specs.Prelude.{◌≡◌, ◌≢◌, ◌⊎◌, false, if◌then◌else◌, List, [], ◌∷◌, Option, Some, None, IfSome, OnSome, Result, Ok, Err, option_map}
use Rattle.std.specs.FinMap as map
use Rattle.satp_base.specs.Calls.{Told, asked, ask_failed, MayMiss}
use Rattle.satp_base.specs.Founding.{Founding}
use Rattle.satp_base.specs.LedgerRule.{IsOutOfOrder, LedgerRule, Operation, is_always_answered, leads, operation, result_of}
use Rattle.satp_base.specs.Money.{Book}
use Rattle.satp_base.specs.declared.area.Event.{Event}
use Rattle.satp_base.specs.declared.area.Event.TheVariants.{Acted, Founded}
use Rattle.satp_base.specs.declared.ledger.ActFault.{ActFault}
use Rattle.satp_base.specs.declared.ledger.ActFault.TheVariants as act
use Rattle.satp_base.specs.declared.ledger.Answer.{Answer}
use Rattle.satp_base.specs.declared.ledger.Answer.TheVariants.{Done, NoFunds, UnknownAsset, Capped, Taken}
use Rattle.satp_base.specs.declared.ledger.CoreFault.{CoreFault}
use Rattle.satp_base.specs.declared.ledger.CoreFault.TheVariants as core
use Rattle.satp_base.specs.declared.ledger.LedgerCall.{LedgerCall}
use Rattle.satp_base.specs.declared.ledger.LedgerOp.{LedgerOp}
use Rattle.satp_base.specs.declared.ledger.LedgerOp.TheVariants.{Lock, Mint}
use Rattle.satp_base.specs.declared.message.Terms.{Terms}
use Rattle.satp_base.specs.declared.session.SessionId.{SessionId}

-- the answers that an operation may have at any ledger
abbrev pub MayAnswer : LedgerOp → Answer → Type 0
MayAnswer op Done = Unit {0}
MayAnswer Lock (NoFunds free) = Unit {0}
MayAnswer Lock (Taken entry) = Unit {0}
MayAnswer Mint UnknownAsset = Unit {0}
MayAnswer Mint (Capped total) = Unit {0}
MayAnswer Mint (Taken entry) = Unit {0}
MayAnswer _ _ = ⊥

-- The faults that an operation may have at any ledger. It is out of order only over an entry that it neither moves nor leaves behind, and a lock and
-- a mint never are.
abbrev pub MayRefuse : LedgerOp → ActFault → Type 0
MayRefuse op act.Failed = Unit {0}
MayRefuse op (act.OutOfOrder entry) = (is_always_answered op ≡ false) × (entry ≢ result_of op) × (leads op entry ≡ false)

-- the event of an operation: one where it changes an entry
abbrev pub operation_events : Operation → LedgerOp → SessionId → Terms → List Event
operation_events o op session terms = if o.changes then Acted op session terms ∷ [] else []

-- the events of an operation where no entries are told
abbrev pub MayAdd : Event → Result Answer ActFault → List Event → Type 0
MayAdd event (Ok Done) events = (events ≡ event ∷ []) ⊎ (events ≡ [])
MayAdd event (Err act.Failed) events = (events ≡ event ∷ []) ⊎ (events ≡ [])
MayAdd event _ events = events ≡ []

-- What an operation did to the book that is told, and its events. One that failed took effect or did not.
abbrev pub ActsOn : LedgerOp → SessionId → Terms → Book → Result Answer ActFault → List Event → Option Book → Type 0
ActsOn op session terms b (Ok answer) events new =
    let o = operation b op session terms in
    (o.answer ≡ Some answer) × (new ≡ Some o.after) × (events ≡ operation_events o op session terms)
ActsOn op session terms b (Err act.Failed) events new =
    let o = operation b op session terms in
    ((events ≡ []) × (new ≡ Some b)) ⊎ ((events ≡ operation_events o op session terms) × (new ≡ Some o.after))
ActsOn op session terms b (Err (act.OutOfOrder entry)) events new =
    IsOutOfOrder b op session entry × (new ≡ Some b) × (events ≡ [])

-- A call on the ledger is told by name, or it is only counted where it failed and no memory was found to note it.
abbrev pub Asks : {T E : Type 0} → LedgerCall → List Event → Result T E → Option Told → Option Told → Type 0
Asks call events (Ok done) old new = new ≡ option_map (asked call events) old
Asks call events (Err fault) old new = MayMiss (ask_failed call events) events old new

-- the book of a ledger that was set up anew
abbrev pub founded : Founding → Book
founded genesis = record { genesis = genesis; entries = map.empty }

-- What a founding leaves of the book: a site that tells tells this one, and none where the founding failed.
abbrev pub FoundsBook : {T E : Type 0} → Founding → Result T E → Option Told → Option Book → Type 0
FoundsBook genesis (Ok done) told new = OnSome told (new ≡ Some (founded genesis)) × IfSome new (λ b. b ≡ founded genesis)
FoundsBook genesis (Err fault) told new = new ≡ None

-- the event of a founding, or none where it failed
abbrev pub FoundEvents : {T E : Type 0} → Result T E → List Event → Type 0
FoundEvents (Ok done) events = events ≡ Founded ∷ []
FoundEvents (Err fault) events = (events ≡ Founded ∷ []) ⊎ (events ≡ [])

-- what an operation does to a ledger without a disk
abbrev pub Applies : LedgerOp → SessionId → Terms → Book → Result Answer CoreFault → Book → Type 0
Applies op session terms old (Ok answer) new = LedgerRule old op session terms answer new
Applies op session terms old (Err (core.OutOfOrder entry)) new = IsOutOfOrder old op session entry × (new ≡ old)
Applies op session terms old (Err core.Memory) new = new ≡ old
