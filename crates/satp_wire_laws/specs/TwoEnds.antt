-- The two ends of one connection: the end of a drive, and that of the gateway which serves it.
use Rattle.std.specs.Prelude.{◌≡◌, ℕ, List, [], ◌∷◌, ◌++◌, Option, Some, option_map}
use Rattle.satp_base.specs.Calls.{Told}
use Rattle.satp_base.specs.Wires.{Conversation, Traffic, called}
use Rattle.satp_base.specs.declared.wire.Dial.TheVariants.{Accept}
use Rattle.satp_points.specs.States.{GatewayState, IsAt}
use Rattle.satp_records.specs.declared.stored.Setup.{Setup}
use Rattle.satp_serve.specs.Connections.{ConnectionAnswers}
use Rattle.satp_serve.specs.GatewayReplies.{GatewayReplies, SiteView}
use Rattle.satp_serve.specs.declared.connection.Connection.{Connection}
use Rattle.satp_serve.specs.declared.connection.ConnectionEnd.TheVariants.{Ended}
use Rattle.satp_sides.specs.Points.{Side}
use Rattle.satp_world.specs.Worlds.{Gateway, Setting, World, opposite, side_at}
use Rattle.satp_point_laws.specs.Happening.{StandsIn}
use Rattle.satp_drive.specs.Drives.{IfPosts}
use Rattle.satp_drive.specs.declared.turn.Turn.{Turn}
use Rattle.satp_drive.specs.declared.turn.Turn.TheVariants.{Posts, Ends}

-- ---- one connection

-- this is the last connection that a wire tells
pub record TellsLast (told : Option Traffic) (c : Conversation) : Type 0 where
  pub traffic : Traffic
  pub first : List Conversation
  pub told_is : told ≡ Some traffic
  pub last : traffic.conversations ≡ first ++ c ∷ []

-- Two wires tell the two ends of one connection, which is the last one of both: each end heard just what the other one said.
pub record TwoEnds (mine theirs : Option Traffic) : Type 0 where
  pub here : Conversation
  pub there : Conversation
  pub mine_is : TellsLast mine here
  pub theirs_is : TellsLast theirs there
  pub asked : there.heard ≡ here.said
  pub answered : here.heard ≡ there.said

-- ---- the other gateway

-- The other gateway of the world stood at a site, accepted a connection and served it, until its peer ended it: there no call failed either, and memory was found.
-- This end of that connection told `mine`.
pub record Served (st : Setting) (w : World) (g : Gateway) (mine : Option Traffic) : Type 0 where
  pub old : GatewayState
  pub new : GatewayState
  pub before : SiteView
  pub after : SiteView
  pub setup : Setup
  pub t : Told
  pub stands : StandsIn st w (opposite g) old before.tells setup t
  pub earlier : Option Traffic
  pub theirs : Option Traffic
  pub faults : ℕ
  pub faults_after : ℕ
  pub connection : Connection
  pub serves : ConnectionAnswers GatewayReplies old before new after (option_map (called Accept) earlier) theirs faults faults_after connection
  pub ended : connection.end ≡ Ended
  pub ends : TwoEnds mine theirs

-- How it stands after it. Where nothing is posted there is no connection, and it is left as it was.
abbrev pub StandsAfter : (st : Setting) (w : World) (g : Gateway) (mine : Option Traffic) (turn : Turn) → IfPosts turn (Served st w g mine) → Side → Type 0
StandsAfter st w g mine (Posts text owed) served side = (u : Told) × IsAt served.new served.after.tells served.setup side u
StandsAfter st w g mine (Ends e) served side = side ≡ side_at w (opposite g)
