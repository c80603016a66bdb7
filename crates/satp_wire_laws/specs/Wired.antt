-- A drive over one wire with the other gateway, which serves its connection.
use Rattle.std.specs.Prelude.{◌≡◌, ◌≢◌, ◌<◌, ℕ, [], Option, Ok}
use Rattle.satp_base.specs.Calls.{Told}
use Rattle.satp_base.specs.Founding.{Founding}
use Rattle.satp_base.specs.Streams.{Rose}
use Rattle.satp_base.specs.Tales.{is_committed}
use Rattle.satp_base.specs.Wires.{Traffic}
use Rattle.satp_base.specs.declared.address.Address.{Address}
use Rattle.satp_base.specs.declared.message.Role.TheVariants.{Origin}
use Rattle.satp_base.specs.declared.message.Terms.{Terms}
use Rattle.satp_base.specs.declared.session.SessionId.{SessionId}
use Rattle.satp_records.specs.declared.stored.Setup.{Setup}
use Rattle.satp_sides.specs.Calls.{Call}
use Rattle.satp_sides.specs.Calls.Call.{Rescues, Starts, Works}
use Rattle.satp_sides.specs.Points.{begun, most_sessions, records_of, tale_of, view_in}
use Rattle.satp_world.specs.Histories.{MayCall}
use Rattle.satp_world.specs.Kept.{Names}
use Rattle.satp_world.specs.Worlds.{Gateway, Reached, Setting, World, name_at, side_at}
use Rattle.satp_point_laws.specs.Happening.{StandsIn}
use Rattle.satp_rounds.specs.Conversations.{RoundSettles, commits_now}
use Rattle.satp_rounds.specs.NewSessions.{TransferSettles, accepts_now}
use Rattle.satp_rounds.specs.Resumptions.{ResumptionEnds}
use Rattle.satp_drive.specs.Calling.{Standing}
use Rattle.satp_drive.specs.Drives.{IfPosts}
use Rattle.satp_drive.specs.Driving.{Drives, SiteCounts, WireCounts}
use Rattle.satp_drive.specs.declared.driven.DriveEnd.TheVariants.{Memory}
use Rattle.satp_drive.specs.declared.driven.Driven.{Driven}
use Rattle.satp_drive_laws.specs.Completing.{end_by}
use Rattle.satp_drive_laws.specs.Quiet.{EndsAfter}
use Rattle.satp_wire_laws.specs.TwoEnds.{Served, StandsAfter}

-- A drive over a gateway of a reached world. No call on its site or its wire failed, and memory was found. Where it posted anything, the other gateway of that world served the connection:
-- each end heard what the other one said, byte by byte.
pub record WiredDrive (st : Setting) (a b : Founding) (g : Gateway) (w : World) (call : Call) (at : Address) (old new : Standing) (setup : Setup) (t : Told) (told telling : Option Traffic) (before after : ℕ) (driven : Driven) : Type 0 where
  pub reached : Reached st a b w
  pub stands : StandsIn st w g old.gateway old.site setup t
  pub may : MayCall st w g call
  pub drives : Drives call at old new told telling before after driven
  pub site_counts : SiteCounts old.faults new.faults (Ok driven)
  pub site_quiet : ¬ Rose old.faults new.faults
  pub wire_counts : WireCounts before after (Ok driven)
  pub wire_quiet : ¬ Rose before after
  pub memory : driven.end ≢ Memory
  pub served : IfPosts drives.turn (Served st w g telling)

-- ---- the laws

-- A recovery is the one round of the world, of at most eight texts, and ends by its outcome: of each session that its origin's records name, whoever recovers it, as long as its records name it too.
-- Both gateways stand in the world after it.
abbrev pub RecoveriesMeet : Type 0
RecoveriesMeet =
    (st : Setting) (a b : Founding) (g : Gateway) (w : World) (s : SessionId) (at : Address) (old new : Standing) (setup : Setup) (t : Told) (told telling : Option Traffic) (before after : ℕ) (driven : Driven)
    → (wired : WiredDrive st a b g w (Rescues s) at old new setup t told telling before after driven) → (q : Gateway) → s.gateway ≡ name_at st q → Names w q s → Names w g s
    → (r : RoundSettles st a b w q s g)
    × EndsAfter st a b g (Rescues s) at old new setup told telling before after driven wired.drives (StandsAfter st w g telling wired.drives.turn wired.served) (end_by (commits_now w q s)) r.texts r.after

-- A new session is the one transfer of the world: committed in eleven texts where both ledgers accept it, and else rolled back.
abbrev pub StartsMeet : Type 0
StartsMeet =
    (st : Setting) (a b : Founding) (g : Gateway) (w : World) (s : SessionId) (terms : Terms) (at : Address) (old new : Standing) (setup : Setup) (t : Told) (told telling : Option Traffic) (before after : ℕ) (driven : Driven)
    → (wired : WiredDrive st a b g w (Starts s terms) at old new setup t told telling before after driven) → records_of s (side_at w g).records ≡ [] → begun Origin (side_at w g).records < most_sessions
    → (r : TransferSettles st a b w g s terms)
    × EndsAfter st a b g (Starts s terms) at old new setup told telling before after driven wired.drives (StandsAfter st w g telling wired.drives.turn wired.served) (end_by (accepts_now w g s terms)) r.texts r.after

-- A session that is resumed ends as its own chain does, after at most eleven texts.
abbrev pub ResumptionsMeet : Type 0
ResumptionsMeet =
    (st : Setting) (a b : Founding) (g : Gateway) (w : World) (s : SessionId) (at : Address) (old new : Standing) (setup : Setup) (t : Told) (told telling : Option Traffic) (before after : ℕ) (driven : Driven)
    → (wired : WiredDrive st a b g w (Works s) at old new setup t told telling before after driven) → (q : Gateway) → s.gateway ≡ name_at st q → Names w q s → Names w g s
    → (r : ResumptionEnds st a b w s g)
    × EndsAfter st a b g (Works s) at old new setup told telling before after driven wired.drives (StandsAfter st w g telling wired.drives.turn wired.served) (end_by (is_committed (tale_of (view_in s (side_at r.after g).records)))) r.texts r.after
