-- The command `serve`: so many connections are accepted in turn, and a gateway answers their requests.
use Rattle.std.specs.Prelude.{◌≡◌, ◌≢◌, ◌≤◌, ◌<◌, ℕ, ◌+◌, true, false, List, [], ◌∷◌, ◌++◌, length, codes, decimal, option_map, Result, Ok, Err}
use Rattle.satp_base.specs.Streams.{Rose}
use Rattle.satp_base.specs.Wires.{MayMiss, called}
use Rattle.satp_base.specs.declared.address.Address.{Address}
use Rattle.satp_base.specs.declared.wire.Dial.TheVariants.{Accept, Listen}
use Rattle.satp_gateway_commands.specs.AtGateway.{tells_of}
use Rattle.satp_outcome.specs.Outside.{OutsideState, Printed, PrintedPart, SinkState, SiteState, WireState}
use Rattle.satp_outcome.specs.declared.outcome.Outcome.{Outcome}
use Rattle.satp_outcome.specs.declared.outcome.Outcome.TheVariants.{Done, Memory, OutputFailed, Peer, Place}
use Rattle.satp_outcome.specs.declared.outcome.PeerEnd.TheVariants.{Wire}
use Rattle.satp_outcome.specs.declared.outcome.PlaceEnd.TheVariants.{Site}
use Rattle.satp_points.specs.States.{GatewayState}
use Rattle.satp_serve.specs.Connections.{ConnectionAnswers}
use Rattle.satp_serve.specs.GatewayReplies.{GatewayReplies, SiteView}
use Rattle.satp_serve.specs.declared.connection.Connection.{Connection}
use Rattle.satp_serve.specs.declared.connection.ConnectionEnd.{ConnectionEnd}
use Rattle.satp_serve.specs.declared.connection.ConnectionEnd.TheVariants as end
use Rattle.satp_peer_commands.specs.declared.tally.Tally.{Tally}

-- ---- one connection after the other

-- the gateway, its site and the wire at one moment
pub record Point : Type 0 where
  pub gateway : GatewayState
  pub site : SiteState
  pub wire : WireState

abbrev pub point : GatewayState → SiteState → WireState → Point
point gateway site wire = record { gateway = gateway; site = site; wire = wire }

abbrev pub view_of : SiteState → SiteView
view_of s = record { tells = tells_of s; faults = s.faults }

-- a connection was accepted
pub record Accepts (b a : WireState) : Type 0 where
  pub told : a.told ≡ option_map (called Accept) b.told
  pub is_open : a.is_open ≡ true
  pub listens : a.listens ≡ b.listens
  pub faults : a.faults ≡ b.faults

-- none was: nothing is changed but what is told of the call
pub record FailsToAccept (b a : Point) : Type 0 where
  pub told : MayMiss Accept b.wire.told a.wire.told
  pub is_open : a.wire.is_open ≡ false
  pub listens : a.wire.listens ≡ b.wire.listens
  pub later : b.wire.faults ≤ a.wire.faults
  pub rose : Rose b.wire.faults a.wire.faults
  pub gateway : a.gateway ≡ b.gateway
  pub site : a.site ≡ b.site

-- A connection was accepted and served to its end, and is shut. The site's count rises only where it ended with a failure of the site.
pub record Serves (b : Point) (connection : Connection) (a : Point) : Type 0 where
  pub accepted : WireState
  pub accepts : Accepts b.wire accepted
  pub answers : ConnectionAnswers GatewayReplies b.gateway (view_of b.site) a.gateway (view_of a.site) accepted.told a.wire.told accepted.faults a.wire.faults connection
  pub most : connection.requests ≤ 64
  pub is_open : a.wire.is_open ≡ false
  pub listens : a.wire.listens ≡ b.wire.listens
  pub wire_later : b.wire.faults ≤ a.wire.faults
  pub site_later : b.site.faults ≤ a.site.faults
  pub site_rose : connection.end ≡ end.Site → Rose b.site.faults a.site.faults
  pub site_kept : connection.end ≢ end.Site → a.site.faults ≡ b.site.faults

-- serving goes on after a connection that ended so
abbrev pub GoesOn : ConnectionEnd → Type 0
GoesOn end.Closed = Unit {0}
GoesOn end.Ended = Unit {0}
GoesOn end.Wire = Unit {0}
GoesOn end.Site = ⊥
GoesOn end.Memory = ⊥

-- these connections were served one after the other, and serving went on after each
abbrev pub ServesEach : Point → List Connection → Point → Type 0
ServesEach b [] a = a ≡ b
ServesEach b (connection ∷ more) a = (middle : Point) × Serves b connection middle × GoesOn connection.end × ServesEach middle more a

-- ---- what came of them

abbrev pub requests_in : List Connection → ℕ
requests_in [] = 0
requests_in (connection ∷ more) = connection.requests + requests_in more

-- one where a fault of the wire ended the connection
abbrev pub fault_at : ConnectionEnd → ℕ
fault_at end.Closed = 0
fault_at end.Ended = 0
fault_at end.Wire = 1
fault_at end.Site = 0
fault_at end.Memory = 0

abbrev pub fault_of : Connection → ℕ
fault_of connection = fault_at connection.end

abbrev pub faults_in : List Connection → ℕ
faults_in [] = 0
faults_in (connection ∷ more) = fault_of connection + faults_in more

-- fewer than all were served, and then the next connection ended serving
pub record EndsWith (why : ConnectionEnd) (connections : ℕ) (b a : Point) : Type 0 where
  pub served : List Connection
  pub fewer : length served < connections
  pub before : Point
  pub each : ServesEach b served before
  pub last : Connection
  pub serves : Serves before last a
  pub ended : last.end ≡ why

-- fewer than all were served, and then none was accepted
pub record AcceptsNoMore (connections : ℕ) (b a : Point) : Type 0 where
  pub served : List Connection
  pub fewer : length served < connections
  pub before : Point
  pub each : ServesEach b served before
  pub fails : FailsToAccept before a

-- all were served
pub record ServedAll (connections : ℕ) (b a : Point) (tally : Tally) : Type 0 where
  pub served : List Connection
  pub all : length served ≡ connections
  pub each : ServesEach b served a
  pub requests : tally.requests ≡ requests_in served
  pub faults : tally.faults ≡ faults_in served

abbrev pub ServesTo : ℕ → Point → Point → Result Tally Outcome → Type 0
ServesTo connections b a (Ok tally) = ServedAll connections b a tally
ServesTo connections b a (Err (Peer Wire)) = AcceptsNoMore connections b a
ServesTo connections b a (Err (Place Site)) = EndsWith end.Site connections b a
ServesTo connections b a (Err Memory) = EndsWith end.Memory connections b a
ServesTo connections b a (Err outcome) = ⊥

-- How serving so many connections ended, and whose count of faults rose for it.
pub record ServesAll (connections : ℕ) (b a : Point) (result : Result Tally Outcome) : Type 0 where
  pub to : ServesTo connections b a result
  pub is_open : a.wire.is_open ≡ false
  pub listens : a.wire.listens ≡ true
  pub wire_later : b.wire.faults ≤ a.wire.faults
  pub wire_rose : result ≡ Err (Peer Wire) → Rose b.wire.faults a.wire.faults
  pub site_later : b.site.faults ≤ a.site.faults
  pub site_rose : result ≡ Err (Place Site) → Rose b.site.faults a.site.faults
  pub site_kept : result ≢ Err (Place Site) → a.site.faults ≡ b.site.faults

-- ---- what is printed

abbrev pub listening_line : List ℕ
listening_line = codes "listening" ++ 10 ∷ []

-- a number between two texts
abbrev pub counted : List ℕ → ℕ → List ℕ → List ℕ
counted before number after = before ++ (decimal number ++ after)

abbrev pub tally_text : Tally → List ℕ
tally_text tally = counted [] tally.requests (codes " requests, ") ++ counted [] tally.faults (codes " faults" ++ 10 ∷ [])

-- as `served 1 connections, 6 requests, 0 faults`, and a newline
abbrev pub served_line : ℕ → Tally → List ℕ
served_line connections tally = counted (codes "served ") connections (codes " connections, ") ++ tally_text tally

-- After the first line: the last one is printed where all were served, and nothing where they weren't.
abbrev pub Prints : ℕ → Result Tally Outcome → SinkState → SinkState → Outcome → Type 0
Prints connections (Ok tally) b a Done = Printed (served_line connections tally) b a
Prints connections (Ok tally) b a OutputFailed = PrintedPart (served_line connections tally) b a
Prints connections (Ok tally) b a outcome = ⊥
Prints connections (Err why) b a outcome = (outcome ≡ why) × (a ≡ b)

-- where the first line wasn't printed
abbrev pub unprinted : Result Tally Outcome → Outcome
unprinted (Err Memory) = Memory
unprinted result = OutputFailed

-- What is printed beside serving, and the end that it makes. Nothing is printed after a write that failed.
pub data Tells (connections : ℕ) (result : Result Tally Outcome) (b a : SinkState) (outcome : Outcome) : Type 0 where
  printed : (middle : SinkState) → Printed listening_line b middle → Prints connections result middle a outcome → Tells connections result b a outcome
  not_printed : PrintedPart listening_line b a → outcome ≡ unprinted result → Tells connections result b a outcome

-- ---- the command

-- the wire listens at the address
pub record Listens (at : Address) (b a : WireState) : Type 0 where
  pub told : a.told ≡ option_map (called (Listen at)) b.told
  pub listens : a.listens ≡ true
  pub is_open : a.is_open ≡ b.is_open
  pub faults : a.faults ≡ b.faults

-- it doesn't, but for that all is as it was
pub record FailsToListen (at : Address) (b a : OutsideState) : Type 0 where
  pub told : MayMiss (Listen at) b.wire.told a.wire.told
  pub listens : a.wire.listens ≡ b.wire.listens
  pub is_open : a.wire.is_open ≡ b.wire.is_open
  pub rose : Rose b.wire.faults a.wire.faults
  pub streams : a.streams ≡ b.streams
  pub site : a.site ≡ b.site

-- The work at an open gateway: it listens once, prints that it does, and serves so many connections; then it prints what it served.
pub data ServeWorks (at : Address) (connections : ℕ) (g : GatewayState) (b a : OutsideState) (outcome : Outcome) : Type 0 where
  not_listening : FailsToListen at b a → outcome ≡ Peer Wire → ServeWorks at connections g b a outcome
  serves : (listening : WireState) (h : GatewayState) (result : Result Tally Outcome) → Listens at b.wire listening
      → ServesAll connections (point g b.site listening) (point h a.site a.wire) result → a.streams.input ≡ b.streams.input
      → Tells connections result b.streams.out a.streams.out outcome → ServeWorks at connections g b a outcome

-- ---- a step on the way

-- the next connection was accepted and served, and serving goes on; or it ended serving; or none was accepted
abbrev pub ServesNext : Point → Point → Result Connection Outcome → Type 0
ServesNext b a (Ok connection) = Serves b connection a × GoesOn connection.end
ServesNext b a (Err (Peer Wire)) = FailsToAccept b a
ServesNext b a (Err (Place Site)) = (last : Connection) × Serves b last a × (last.end ≡ end.Site)
ServesNext b a (Err Memory) = (last : Connection) × Serves b last a × (last.end ≡ end.Memory)
ServesNext b a (Err outcome) = ⊥
