-- The line and the status of a command whose drive nothing disturbs.
use Rattle.std.specs.Prelude.{◌≡◌, ◌≢◌, ◌<◌, ◌≤◌, ℕ, Bool, List, [], codes, length, IsTrue, if◌then◌else◌}
use Rattle.satp_app.specs.Commands.{CommandRule, terms_of}
use Rattle.satp_base.specs.Calls.{Told}
use Rattle.satp_base.specs.Founding.{Founding}
use Rattle.satp_base.specs.Streams.{Rose}
use Rattle.satp_base.specs.Tales.{is_committed}
use Rattle.satp_base.specs.declared.amount.Amount.{Amount}
use Rattle.satp_base.specs.declared.message.Role.TheVariants.{Origin}
use Rattle.satp_base.specs.declared.name.Name.{Name}
use Rattle.satp_base.specs.declared.session.SessionId.{SessionId}
use Rattle.satp_drive_laws.specs.Peer.{IsSide}
use Rattle.satp_drive_laws.specs.Quiet.{QuietDrive}
use Rattle.satp_gateway_commands.specs.AtGateway as command
use Rattle.satp_gateway_commands.specs.AtGateway.{AtGateway, tells_of}
use Rattle.satp_outcome.specs.Outcomes.{line_of, status_of}
use Rattle.satp_outcome.specs.Outside.{OutsideState, Printed}
use Rattle.satp_outcome.specs.declared.outcome.Outcome.{Outcome}
use Rattle.satp_outcome.specs.declared.outcome.Outcome.TheVariants.{Memory}
use Rattle.satp_peer_commands.specs.Driving as driving
use Rattle.satp_peer_commands.specs.Driving.{DriveWorks, StartWorks, end_line, standing_at}
use Rattle.satp_point_laws.specs.Happening.{StandsIn}
use Rattle.satp_points.specs.States.{GatewayState}
use Rattle.satp_records.specs.declared.stored.Setup.{Setup}
use Rattle.satp_rounds.specs.Conversations.{RoundSettles, commits_now}
use Rattle.satp_rounds.specs.NewSessions.{TransferSettles, accepts_now}
use Rattle.satp_rounds.specs.Resumptions.{ResumptionEnds}
use Rattle.satp_sides.specs.Calls.{Call}
use Rattle.satp_sides.specs.Calls.Call.{Rescues, Starts, Works}
use Rattle.satp_sides.specs.Points.{Side, begun, most_sessions, records_of, tale_of, view_in}
use Rattle.satp_words.specs.declared.command.Command.TheVariants.{Start, Resume, Recover}
use Rattle.satp_world.specs.Kept.{Names}
use Rattle.satp_world.specs.Worlds.{Gateway, Reached, Setting, World, name_at, side_at}

-- ---- what is printed

abbrev pub way : Bool → List ℕ
way committed = if committed then codes " committed in " else codes " rolled back in "

abbrev pub status : Bool → ℕ
status committed = if committed then 0 else 12

-- One line was printed, as `alpha.1 committed in 11 messages`, and there is none for the standard error. The status is 0 or 12.
pub record Says (committed : Bool) (session : SessionId) (messages : ℕ) (before after : OutsideState) (outcome : Outcome) : Type 0 where
  pub printed : Printed (end_line session (way committed) messages) before.streams.out after.streams.out
  pub error : line_of outcome ≡ []
  pub status_is : status_of outcome ≡ status committed

-- ---- what is supposed

-- Nothing disturbed the drive, if the first call was answered. The other gateway has the side `peer` after it.
abbrev pub DroveQuietly : (st : Setting) (a b : Founding) (g : Gateway) (w : World) (setup : Setup) (t : Told) (peer : Side) (call : Call) (state : GatewayState) (before after : OutsideState) (outcome : Outcome)
    → DriveWorks call state before after outcome → Type 0
DroveQuietly st a b g w setup t peer call state before after outcome (driving.DriveWorks.refuses r may drove leaves wire streams is) = Unit {0}
DroveQuietly st a b g w setup t peer call state before after outcome (driving.DriveWorks.drives driven drove tells) =
    QuietDrive st a b g w call drove.at (standing_at state before.site) (standing_at drove.after after.site) setup t before.wire.told after.wire.told before.wire.faults after.wire.faults driven (IsSide peer)

-- The gateway stands in a reached world when its work begins. No call on the site and no write of the output failed, memory was found, and nothing disturbed the drive.
pub record WorksQuietly (st : Setting) (a b : Founding) (g : Gateway) (w : World) (setup : Setup) (t : Told) (peer : Side) (call : Call) (state : GatewayState) (before after : OutsideState) (outcome : Outcome)
    (work : DriveWorks call state before after outcome) : Type 0 where
  pub reached : Reached st a b w
  pub stands : StandsIn st w g state (tells_of before.site) setup t
  pub site : ¬ Rose before.site.faults after.site.faults
  pub out : ¬ Rose before.streams.out.faults after.streams.out.faults
  pub memory : outcome ≢ Memory
  pub drove : DroveQuietly st a b g w setup t peer call state before after outcome work

-- the command opened the gateway of its directory, and its work was quiet
abbrev pub RunsQuietly : (st : Setting) (a b : Founding) (g : Gateway) (w : World) (setup : Setup) (t : Told) (peer : Side) (call : Call) (dir : List ℕ) (before after : OutsideState) (outcome : Outcome)
    → AtGateway dir (DriveWorks call) before after outcome → Type 0
RunsQuietly st a b g w setup t peer call dir before after outcome (command.AtGateway.not_opened streams wire not) = ⊥
RunsQuietly st a b g w setup t peer call dir before after outcome (command.AtGateway.works state inside opened work) =
    WorksQuietly st a b g w setup t peer call state (record before { site = inside }) after outcome work

-- of a new session, whose name is made when its work begins
abbrev pub StartsQuietly : (st : Setting) (a b : Founding) (g : Gateway) (w : World) (setup : Setup) (t : Told) (peer : Side) (number : ℕ) (amount : Amount) (asset from to : Name) (dir : List ℕ) (before after : OutsideState) (outcome : Outcome)
    → AtGateway dir (StartWorks number (terms_of amount asset from to)) before after outcome → Type 0
StartsQuietly st a b g w setup t peer number amount asset from to dir before after outcome (command.AtGateway.not_opened streams wire not) = ⊥
StartsQuietly st a b g w setup t peer number amount asset from to dir before after outcome (command.AtGateway.works state inside opened (s, is, own, work)) =
    WorksQuietly st a b g w setup t peer (Starts s (terms_of amount asset from to)) state (record before { site = inside }) after outcome work

-- ---- the laws

-- `recover` prints how the one round of the world ends, after at most eight messages.
abbrev pub RecoversSay : Type 0
RecoversSay =
    (st : Setting) (a b : Founding) (g : Gateway) (w : World) (setup : Setup) (t : Told) (peer : Side) (s : SessionId) (dir : List ℕ) (before after : OutsideState) (outcome : Outcome)
    → (rule : CommandRule (Recover dir s) before after outcome) → RunsQuietly st a b g w setup t peer (Rescues s) dir before after outcome rule → (q : Gateway) → s.gateway ≡ name_at st q → Names w q s → Names w g s
    → (r : RoundSettles st a b w q s g) × (length r.texts ≤ 8) × Says (commits_now w q s) s (length r.texts) before after outcome

-- `start` prints how the one transfer ends: committed in eleven messages where both ledgers accept it, and else rolled back in at most as many.
abbrev pub StartsSay : Type 0
StartsSay =
    (st : Setting) (a b : Founding) (g : Gateway) (w : World) (setup : Setup) (t : Told) (peer : Side) (number : ℕ) (amount : Amount) (asset from to : Name) (dir : List ℕ) (before after : OutsideState) (outcome : Outcome)
    → (rule : CommandRule (Start dir number amount asset from to) before after outcome) → StartsQuietly st a b g w setup t peer number amount asset from to dir before after outcome rule
    → (s : SessionId) → s.number ≡ number → s.gateway ≡ name_at st g → records_of s (side_at w g).records ≡ [] → begun Origin (side_at w g).records < most_sessions
    → let terms = terms_of amount asset from to in
    (r : TransferSettles st a b w g s terms) × (length r.texts ≤ 11) × (IsTrue (accepts_now w g s terms) → length r.texts ≡ 11) × Says (accepts_now w g s terms) s (length r.texts) before after outcome

-- `resume` prints how the session's own chain ends, after at most eleven messages.
abbrev pub ResumesSay : Type 0
ResumesSay =
    (st : Setting) (a b : Founding) (g : Gateway) (w : World) (setup : Setup) (t : Told) (peer : Side) (s : SessionId) (dir : List ℕ) (before after : OutsideState) (outcome : Outcome)
    → (rule : CommandRule (Resume dir s) before after outcome) → RunsQuietly st a b g w setup t peer (Works s) dir before after outcome rule → (q : Gateway) → s.gateway ≡ name_at st q → Names w q s → Names w g s
    → (r : ResumptionEnds st a b w s g) × (length r.texts ≤ 11) × Says (is_committed (tale_of (view_in s (side_at r.after g).records))) s (length r.texts) before after outcome
