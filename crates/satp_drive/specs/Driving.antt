-- The three drives: a call of the gateway's own operator, and then a text after each answer.
use Rattle.std.specs.Prelude.{◌≡◌, ◌≢◌, ◌≤◌, ℕ, Bool, true, false, List, Option, Result, Ok, Err}
use Rattle.satp_base.specs.Streams.{Rose}
use Rattle.satp_base.specs.Wires.{Traffic}
use Rattle.satp_base.specs.declared.address.Address.{Address}
use Rattle.satp_points.specs.States.{GatewayState, Holds}
use Rattle.satp_points.specs.declared.fault.Refused.{Refused}
use Rattle.satp_points.specs.declared.fault.Refused.TheVariants as refused
use Rattle.satp_http.specs.declared.fault.HttpFault.{HttpFault}
use Rattle.satp_http.specs.declared.fault.HttpFault.TheVariants as fault
use Rattle.satp_records.specs.declared.stored.Setup.{Setup}
use Rattle.satp_sides.specs.Calls.{Call, Rescues}
use Rattle.satp_sides.specs.Others.{session_of}
use Rattle.satp_sides.specs.Points.{Stored, Text}
use Rattle.satp_drive.specs.Calling.{Called, Standing}
use Rattle.satp_drive.specs.Conversing.{Dials, Stops}
use Rattle.satp_drive.specs.Drives.{AfterReply, EndCounts, IsOfAnswer}
use Rattle.satp_drive.specs.declared.driven.DriveEnd.{DriveEnd}
use Rattle.satp_drive.specs.declared.driven.DriveEnd.TheVariants as end
use Rattle.satp_drive.specs.declared.driven.Driven.{Driven}
use Rattle.satp_drive.specs.declared.turn.Turn.{Turn}
use Rattle.satp_drive.specs.declared.turn.Turn.TheVariants.{Posts, Ends}

-- whoever begins a recovery round owes its peer `recover-success`
abbrev pub owes_success : Call → Bool
owes_success (Rescues s) = true
owes_success call = false

-- the peer's address, by what the gateway was set up with
abbrev pub IsPeers : GatewayState → Address → Type 0
IsPeers g at = (setup : Setup) (xs : List Stored) → Holds g setup xs → at ≡ setup.at

-- Where nothing is to be posted, the wire isn't called.
abbrev pub GoesOn : Call → Address → Turn → Standing → Standing → Option Traffic → Option Traffic → ℕ → ℕ → Driven → Type 0
GoesOn call at (Ends e) b a told telling before after driven = Stops e 0 told telling before after driven × (a ≡ b)
GoesOn call at (Posts text owed) b a told telling before after driven = Dials at (session_of call) (Posts text owed) b a told telling before after driven

-- the call was answered, and then the drive went on by its reply
pub record Drives (call : Call) (at : Address) (b a : Standing) (told telling : Option Traffic) (before after : ℕ) (driven : Driven) : Type 0 where
  pub reply : Option Text
  pub begun : Standing
  pub called : Called call b begun (Ok reply)
  pub turn : Turn
  pub follows : AfterReply (session_of call) (owes_success call) begun.gateway reply turn
  pub goes : GoesOn call at turn begun a told telling before after driven

-- What a drive answers, from what its wire told and how often that had failed. A refusal is the call's, and leaves the wire.
abbrev pub DriveAnswers : Call → Address → Standing → Standing → Option Traffic → Option Traffic → ℕ → ℕ → Result Driven Refused → Type 0
DriveAnswers call at b a told telling before after (Ok driven) = Drives call at b a told telling before after driven
DriveAnswers call at b a told telling before after (Err r) = Called call b a (Err r) × (telling ≡ told) × (after ≡ before)

-- ---- causes

abbrev pub WireCounts : ℕ → ℕ → Result Driven Refused → Type 0
WireCounts before after (Ok driven) = EndCounts end.Wire before after driven.end
WireCounts before after (Err r) = after ≡ before

-- a refusal with `Site` comes only where the count rose, and every other one leaves it
pub record RefusalCounts (before after : ℕ) (r : Refused) : Type 0 where
  pub later : before ≤ after
  pub cause : r ≡ refused.Site → Rose before after
  pub still : r ≢ refused.Site → after ≡ before

abbrev pub SiteCounts : ℕ → ℕ → Result Driven Refused → Type 0
SiteCounts before after (Ok driven) = EndCounts end.Site before after driven.end
SiteCounts before after (Err r) = RefusalCounts before after r

-- the faults that an end names come from the answer that was heard
abbrev pub IsOfHttp : HttpFault → Type 0
IsOfHttp fault.Memory = ⊥
IsOfHttp f = Unit {0}

abbrev pub IsNamed : DriveEnd → Type 0
IsNamed (end.NotHttp f) = IsOfHttp f
IsNamed (end.Refused r) = IsOfAnswer r
IsNamed e = Unit {0}
