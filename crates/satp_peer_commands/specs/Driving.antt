-- The commands `start`, `resume` and `recover`: a session is driven over a connection to the peer, and how it ended is printed.
use Rattle.std.specs.Prelude.{◌≡◌, ℕ, false, List, [], ◌∷◌, ◌++◌, codes, decimal, Option, Some, None, Result, Ok, Err, IfOk}
use Rattle.satp_base.specs.Values.{session_text}
use Rattle.satp_base.specs.declared.address.Address.{Address}
use Rattle.satp_base.specs.declared.message.Terms.{Terms}
use Rattle.satp_base.specs.declared.session.SessionId.{SessionId}
use Rattle.satp_drive.specs.Calling.{Standing, standing}
use Rattle.satp_drive.specs.Driving.{DriveAnswers, IsNamed, IsPeers, SiteCounts, WireCounts}
use Rattle.satp_drive.specs.declared.driven.DriveEnd.{DriveEnd}
use Rattle.satp_drive.specs.declared.driven.DriveEnd.TheVariants as end
use Rattle.satp_drive.specs.declared.driven.Driven.{Driven}
use Rattle.satp_outcome.specs.Outside.{OutsideState, Printed, PrintedPart, SinkState, SiteState}
use Rattle.satp_outcome.specs.declared.outcome.Outcome.{Outcome}
use Rattle.satp_outcome.specs.declared.outcome.Outcome.TheVariants.{Done, RolledBack, Memory, OutputFailed, Peer, Place}
use Rattle.satp_outcome.specs.declared.outcome.PeerEnd.TheVariants as peer
use Rattle.satp_outcome.specs.declared.outcome.PlaceEnd.TheVariants as place
use Rattle.satp_points.specs.States.{GatewayState, Holds}
use Rattle.satp_points.specs.declared.fault.Refused.{Refused}
use Rattle.satp_points.specs.declared.fault.Refused.TheVariants as refused
use Rattle.satp_records.specs.declared.stored.Setup.{Setup}
use Rattle.satp_sides.specs.Calls.{Call, Rescues, Starts, Works}
use Rattle.satp_sides.specs.Others.{session_of}
use Rattle.satp_sides.specs.Points.{Stored}

-- ---- ends

-- how a command ends whose drive ended so, if its line is printed
abbrev pub outcome_of_end : DriveEnd → Outcome
outcome_of_end end.Committed = Done
outcome_of_end end.RolledBack = RolledBack
outcome_of_end end.Wire = Peer peer.Wire
outcome_of_end end.Early = Peer peer.Early
outcome_of_end (end.Status code) = Peer (peer.Status code)
outcome_of_end (end.NotHttp fault) = Peer peer.NotHttp
outcome_of_end end.Silent = Peer peer.Silent
outcome_of_end (end.Refused fault) = Peer (peer.Refused fault)
outcome_of_end end.Turns = Peer peer.Turns
outcome_of_end end.Site = Place place.Site
outcome_of_end end.Memory = Memory

-- what the first call of a drive may be refused with
abbrev pub MayRefuse : Refused → Type 0
MayRefuse refused.Exists = Unit {0}
MayRefuse (refused.Full count) = Unit {0}
MayRefuse (refused.Strange session) = Unit {0}
MayRefuse refused.Site = Unit {0}
MayRefuse refused.Memory = Unit {0}
MayRefuse _ = ⊥

-- and how the command ends then
abbrev pub outcome_of_refusal : SessionId → Refused → Outcome
outcome_of_refusal session refused.Exists = Place (place.Exists session)
outcome_of_refusal session (refused.Full count) = Place (place.Full count)
outcome_of_refusal session (refused.Strange named) = Place (place.NoSession named)
outcome_of_refusal session refused.Site = Place place.Site
outcome_of_refusal session _ = Memory

-- ---- the line

-- how the session ended, if it did
abbrev pub way_of : DriveEnd → Option (List ℕ)
way_of end.Committed = Some (codes " committed in ")
way_of end.RolledBack = Some (codes " rolled back in ")
way_of end.Wire = None
way_of end.Early = None
way_of (end.Status code) = None
way_of (end.NotHttp fault) = None
way_of end.Silent = None
way_of (end.Refused fault) = None
way_of end.Turns = None
way_of end.Site = None
way_of end.Memory = None

-- as `alpha.1 committed in 11 messages`, and a newline
abbrev pub end_line : SessionId → List ℕ → ℕ → List ℕ
end_line session way messages = (session_text session ++ way) ++ (decimal messages ++ (codes " messages" ++ 10 ∷ []))

-- What is printed after a drive, and how the command ends: one line where the session ended, and else nothing. A line that isn't printed undoes nothing.
pub data TellsEnd (session : SessionId) (driven : Driven) (b a : SinkState) (outcome : Outcome) : Type 0 where
  silent : way_of driven.end ≡ None → a ≡ b → outcome ≡ outcome_of_end driven.end → TellsEnd session driven b a outcome
  printed : (way : List ℕ) → way_of driven.end ≡ Some way → Printed (end_line session way driven.messages) b a → outcome ≡ outcome_of_end driven.end → TellsEnd session driven b a outcome
  not_printed : (way : List ℕ) → way_of driven.end ≡ Some way → PrintedPart (end_line session way driven.messages) b a → outcome ≡ OutputFailed → TellsEnd session driven b a outcome

-- ---- the command

abbrev pub standing_at : GatewayState → SiteState → Standing
standing_at g s = standing g s.told s.book s.faults

-- A drive of the gateway g began with this call and answered so. It leaves no connection open.
pub record Drove (call : Call) (g : GatewayState) (b a : OutsideState) (answer : Result Driven Refused) : Type 0 where
  pub at : Address
  pub peers : IsPeers g at
  pub after : GatewayState
  pub drives : DriveAnswers call at (standing_at g b.site) (standing_at after a.site) b.wire.told a.wire.told b.wire.faults a.wire.faults answer
  pub site_counts : SiteCounts b.site.faults a.site.faults answer
  pub wire_counts : WireCounts b.wire.faults a.wire.faults answer
  pub named : IfOk answer (λ driven. IsNamed driven.end)
  pub shut : a.wire.is_open ≡ false
  pub listens : a.wire.listens ≡ b.wire.listens
  pub input : a.streams.input ≡ b.streams.input

-- A refusal leaves the site as it was. What a failure of the site and want of memory leave is said by the call's answer.
abbrev pub Leaves : Refused → SiteState → SiteState → Type 0
Leaves refused.Exists b a = a ≡ b
Leaves (refused.Full count) b a = a ≡ b
Leaves (refused.Strange session) b a = a ≡ b
Leaves _ b a = Unit {0}

-- The work at an open gateway: where the first call is refused, nothing is said and nothing printed. Else the drive's end decides.
pub data DriveWorks (call : Call) (g : GatewayState) (b a : OutsideState) (outcome : Outcome) : Type 0 where
  refuses : (r : Refused) → MayRefuse r → Drove call g b a (Err r) → Leaves r b.site a.site → a.wire ≡ b.wire → a.streams ≡ b.streams → outcome ≡ outcome_of_refusal (session_of call) r → DriveWorks call g b a outcome
  drives : (driven : Driven) → Drove call g b a (Ok driven) → TellsEnd (session_of call) driven b.streams.out a.streams.out outcome → DriveWorks call g b a outcome

-- a session of the gateway's own name begins
abbrev pub StartWorks : ℕ → Terms → GatewayState → OutsideState → OutsideState → Outcome → Type 0
StartWorks number terms g b a outcome =
    (s : SessionId) × (s.number ≡ number) × ((setup : Setup) (xs : List Stored) → Holds g setup xs → s.gateway ≡ setup.name) × DriveWorks (Starts s terms) g b a outcome

abbrev pub ResumeWorks : SessionId → GatewayState → OutsideState → OutsideState → Outcome → Type 0
ResumeWorks session = DriveWorks (Works session)

abbrev pub RecoverWorks : SessionId → GatewayState → OutsideState → OutsideState → Outcome → Type 0
RecoverWorks session = DriveWorks (Rescues session)
