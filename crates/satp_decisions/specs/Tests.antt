-- What is decided by the tests of a call, over the records that a log holds.
use Rattle.std.specs.Prelude.{◌≡◌, ℕ, List, [], ◌∷◌, Option, None, Result, Ok, Err}
use Rattle.satp_base.specs.declared.message.Body.{Body}
use Rattle.satp_base.specs.declared.message.Message.{Message}
use Rattle.satp_log.specs.Journals.{party_of}
use Rattle.satp_log.specs.Logged.{LogHolds, LogState}
use Rattle.satp_records.specs.Formats.{IsFormed}
use Rattle.satp_records.specs.declared.stored.Setup.{Setup}
use Rattle.satp_records.specs.declared.stored.Stored.TheVariants as journaled
use Rattle.satp_sides.specs.Calls as call
use Rattle.satp_sides.specs.Calls.{Refusal, Hears, IsEntryOf, first_refusal, is_misaddressed, is_strange, test}
use Rattle.satp_sides.specs.Logs.{IsLog}
use Rattle.satp_sides.specs.Points.{Party, Stored, Text}
use Rattle.satp_points.specs.Deciding.{DecidesOver, RefusesAs}
use Rattle.satp_points.specs.declared.decision.Decision.{Decision}
use Rattle.satp_points.specs.declared.fault.Refused.{Refused}
use Rattle.satp_points.specs.declared.fault.Refused.TheVariants as refused

-- a test of a call refuses it so
abbrev pub IsOfTest : Refused → Type 0
IsOfTest refused.Broken = ⊥
IsOfTest (refused.Size n) = ⊥
IsOfTest (refused.Jws f) = ⊥
IsOfTest refused.Header = ⊥
IsOfTest (refused.Body f) = ⊥
IsOfTest refused.Receiver = Unit {0}
IsOfTest (refused.Strange s) = Unit {0}
IsOfTest (refused.Chain v) = Unit {0}
IsOfTest (refused.Recovery f) = Unit {0}
IsOfTest (refused.Full n) = Unit {0}
IsOfTest refused.Exists = Unit {0}
IsOfTest (refused.TooLate n) = Unit {0}
IsOfTest refused.Site = ⊥
IsOfTest refused.Memory = ⊥

-- or no memory was found
abbrev pub IsOfTestOrMemory : Refused → Type 0
IsOfTestOrMemory refused.Memory = Unit {0}
IsOfTestOrMemory r = IsOfTest r

-- the log holds some gateway's records
abbrev pub IsHeld : LogState → Type 0
IsHeld log = (setup : Setup) × (xs : List Stored) × LogHolds log setup xs

-- this is so of each gateway whose records the log holds
abbrev pub OverLog : LogState → (Party → List Stored → Type 0) → Type 0
OverLog log P = (setup : Setup) (xs : List Stored) → LogHolds log setup xs → P (party_of setup) xs

-- the first two tests of a message, which don't look at its body
abbrev pub address_refusal : Party → List Stored → Message → Option Refusal
address_refusal p xs m = first_refusal (test (is_misaddressed p m) call.Receiver ∷ test (is_strange p xs m.session) (call.Strange m.session) ∷ [])

-- Ok: the test doesn't hold. An error: it does, and refuses so.
abbrev pub AnswersTest : Option Refusal → Result (Unit {0}) Refused → Type 0
AnswersTest test (Ok done) = test ≡ None
AnswersTest test (Err r) = RefusesAs test r

-- what is decided of a message that the first two tests let through
abbrev pub DecidesMessage : Message → Text → Option Message → LogState → Result Decision Refused → Type 0
DecidesMessage m t e log result =
    (setup : Setup) (xs : List Stored) → LogHolds log setup xs → IsFormed (journaled.Setup setup) → IsLog (party_of setup) xs
    → address_refusal (party_of setup) xs m ≡ None → DecidesOver (party_of setup) xs (Hears m t e) result

-- what the one entry of the body is, if it has one: a message's own text, or none's
abbrev pub HasEntry : List ℕ → Body → Type 0
HasEntry key b = (e : Option Message) × IsEntryOf key b e
