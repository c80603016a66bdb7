-- The command `abort`: a session is turned back.
use Rattle.std.specs.Prelude.{◌≡◌, ◌≤◌, ℕ, Bool, true, false, List, [], ◌∷◌, ◌++◌, codes, Option, Some, None, Result, Ok, Err}
use Rattle.satp_base.specs.Streams.{Rose}
use Rattle.satp_base.specs.Tales.{is_rolled_back}
use Rattle.satp_base.specs.Values.{session_text}
use Rattle.satp_base.specs.declared.session.SessionId.{SessionId}
use Rattle.satp_base.specs.declared.view.View.{View}
use Rattle.satp_points.specs.Answers.{Answers}
use Rattle.satp_points.specs.States.{GatewayState, Holds}
use Rattle.satp_points.specs.declared.fault.Refused.{Refused}
use Rattle.satp_points.specs.declared.fault.Refused.TheVariants as refused
use Rattle.satp_records.specs.declared.stored.Setup.{Setup}
use Rattle.satp_sides.specs.Calls.{Aborts, Call}
use Rattle.satp_sides.specs.Points.{Stored, Text, tale_of, view_in}
use Rattle.satp_outcome.specs.Outside.{OutsideState, Printed, PrintedPart, SinkState, SiteState}
use Rattle.satp_outcome.specs.declared.outcome.Outcome.{Outcome}
use Rattle.satp_outcome.specs.declared.outcome.Outcome.TheVariants.{Done, Memory, OutputFailed, Place, RolledBack}
use Rattle.satp_outcome.specs.declared.outcome.PlaceEnd.{PlaceEnd}
use Rattle.satp_outcome.specs.declared.outcome.PlaceEnd.TheVariants.{NoSession, Site, TooLate}
use Rattle.satp_gateway_commands.specs.AtGateway.{IsView, tells_of}
use Rattle.satp_gateway_commands.specs.Showing.{LeavesPeer, SaysNothing}

-- ---- the call

-- a count of faults rose where the answer is that the site failed, and stands at every other answer
abbrev pub Counts : Result (Option Text) Refused → ℕ → ℕ → Type 0
Counts (Err refused.Site) b a = Rose b a × (b ≤ a)
Counts answer b a = a ≡ b

-- the gateway was called so, and answered this; it is `after` then
pub record Called (call : Call) (g after : GatewayState) (b a : SiteState) (answer : Result (Option Text) Refused) : Type 0 where
  pub answers : Answers call g after (tells_of b) (tells_of a) answer
  pub faults : Counts answer b.faults a.faults

abbrev pub CalledOnce : Call → GatewayState → SiteState → SiteState → Result (Option Text) Refused → Type 0
CalledOnce call g b a answer = (after : GatewayState) × Called call g after b a answer

-- ---- the command

-- whether the session's tale, as the gateway keeps it, ends with the acknowledgement of its rollback
abbrev pub EndsBack : GatewayState → SessionId → Bool → Type 0
EndsBack g session back = (setup : Setup) (xs : List Stored) → Holds g setup xs → is_rolled_back (tale_of (view_in session xs)) ≡ back

-- the session was turned back, or was on its way back before
pub record TurnsBack (session : SessionId) (g : GatewayState) (b a : SiteState) (back : Bool) : Type 0 where
  pub view : View
  pub named : IsView g session (Some view)
  pub after : GatewayState
  pub reply : Option Text
  pub called : Called (Aborts session) g after b a (Ok reply)
  pub ends : EndsBack after session back

-- <session> back
abbrev pub back_line : SessionId → List ℕ
back_line session = session_text session ++ (codes " back" ++ 10 ∷ [])

abbrev pub AbortRefuses : SessionId → GatewayState → OutsideState → OutsideState → PlaceEnd → Type 0
AbortRefuses session g b a (NoSession named) = (named ≡ session) × IsView g session None × (a ≡ b)
AbortRefuses session g b a (TooLate place) = CalledOnce (Aborts session) g b.site a.site (Err (refused.TooLate place)) × (a ≡ b)
AbortRefuses session g b a Site = CalledOnce (Aborts session) g b.site a.site (Err refused.Site) × SaysNothing b a
AbortRefuses session g b a _ = ⊥

-- The line is printed also where the session is rolled back already. A failed write of it undoes nothing.
abbrev pub AbortWorks : SessionId → GatewayState → OutsideState → OutsideState → Outcome → Type 0
AbortWorks session g b a Done = TurnsBack session g b.site a.site false × Printed (back_line session) b.streams.out a.streams.out × LeavesPeer b a
AbortWorks session g b a RolledBack = TurnsBack session g b.site a.site true × Printed (back_line session) b.streams.out a.streams.out × LeavesPeer b a
AbortWorks session g b a OutputFailed = ((back : Bool) × TurnsBack session g b.site a.site back) × PrintedPart (back_line session) b.streams.out a.streams.out × LeavesPeer b a
AbortWorks session g b a Memory = CalledOnce (Aborts session) g b.site a.site (Err refused.Memory) × (a ≡ b)
AbortWorks session g b a (Place end) = AbortRefuses session g b a end
AbortWorks session g b a _ = ⊥

-- ---- its steps

-- what an abort of a named session may be refused with, and how the command then ends
abbrev pub MayRefuse : Refused → Type 0
MayRefuse (refused.TooLate place) = Unit {0}
MayRefuse refused.Site = Unit {0}
MayRefuse refused.Memory = Unit {0}
MayRefuse _ = ⊥

abbrev pub refused_end : Refused → Outcome
refused_end (refused.TooLate place) = Place (TooLate place)
refused_end refused.Site = Place Site
refused_end _ = Memory

abbrev pub said_back : Bool → Outcome
said_back true = RolledBack
said_back false = Done

-- the line is printed, and the end says whether the session is rolled back
abbrev pub SaysBack : SessionId → GatewayState → SinkState → SinkState → Outcome → Type 0
SaysBack session g b a Done = EndsBack g session false × Printed (back_line session) b a
SaysBack session g b a RolledBack = EndsBack g session true × Printed (back_line session) b a
SaysBack session g b a OutputFailed = ((back : Bool) × EndsBack g session back) × PrintedPart (back_line session) b a
SaysBack session g b a _ = ⊥
