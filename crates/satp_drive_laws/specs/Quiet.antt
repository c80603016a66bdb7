-- What a drive answers over quiet devices, whose peer is the other gateway of the world.
use Rattle.std.specs.Prelude.{◌≡◌, ◌≢◌, ◌<◌, ℕ, List, [], length, Option, Ok}
use Rattle.satp_base.specs.Calls.{Told}
use Rattle.satp_base.specs.Founding.{Founding}
use Rattle.satp_base.specs.Streams.{Rose}
use Rattle.satp_base.specs.Tales.{is_committed}
use Rattle.satp_base.specs.Wires.{Traffic}
use Rattle.satp_base.specs.declared.address.Address.{Address}
use Rattle.satp_base.specs.declared.message.Role.TheVariants.{Origin}
use Rattle.satp_base.specs.declared.message.Terms.{Terms}
use Rattle.satp_base.specs.declared.session.SessionId.{SessionId}
use Rattle.satp_http.specs.declared.fault.HttpFault.{HttpFault}
use Rattle.satp_http.specs.declared.responses.Answered.{Answered}
use Rattle.satp_records.specs.declared.stored.Setup.{Setup}
use Rattle.satp_sides.specs.Calls.{Call}
use Rattle.satp_sides.specs.Calls.Call.{Rescues, Starts, Works}
use Rattle.satp_sides.specs.Others.{session_of}
use Rattle.satp_sides.specs.Points.{Side, Text, begun, most_sessions, records_of, tale_of, view_in}
use Rattle.satp_world.specs.Histories.{MayCall}
use Rattle.satp_world.specs.Kept.{Names}
use Rattle.satp_world.specs.Worlds.{Gateway, Reached, Setting, World, name_at, opposite, party_at, side_at}
use Rattle.satp_point_laws.specs.Happening.{StandsIn}
use Rattle.satp_rounds.specs.Conversations.{RoundSettles, commits_now}
use Rattle.satp_rounds.specs.NewSessions.{TransferSettles, accepts_now}
use Rattle.satp_rounds.specs.Resumptions.{ResumptionEnds}
use Rattle.satp_drive.specs.Calling.{Standing}
use Rattle.satp_drive.specs.Conversing as conversing
use Rattle.satp_drive.specs.Conversing.{Dials}
use Rattle.satp_drive.specs.Driving.{Drives, GoesOn, SiteCounts, WireCounts}
use Rattle.satp_drive.specs.declared.driven.DriveEnd.{DriveEnd}
use Rattle.satp_drive.specs.declared.driven.DriveEnd.TheVariants.{Early, Memory, NotHttp}
use Rattle.satp_drive.specs.declared.driven.Driven.{Driven}
use Rattle.satp_drive.specs.declared.turn.Turn.{Turn}
use Rattle.satp_drive.specs.declared.turn.Turn.TheVariants.{Posts, Ends}
use Rattle.satp_drive_laws.specs.Completing.{end_by}
use Rattle.satp_drive_laws.specs.Peer.{IsSide, PeerAnswers}
use Rattle.satp_drive_laws.specs.Undisturbed.{BothStand, passed}

-- ---- the texts that were answered

-- this holds of the texts that a drive posted and of their answers, of none where it had no connection
abbrev pub OverDials : (List Text → List Answered → Type 0) → (at : Address) (s : SessionId) (first : Turn) (b a : Standing) (told telling : Option Traffic) (before after : ℕ) (driven : Driven)
    → Dials at s first b a told telling before after driven → Type 0
OverDials P at s first b a told telling before after driven (conversing.Dials.fails missed rose same is) = P [] []
OverDials P at s first b a told telling before after driven (conversing.Dials.connects (conversing.Connected.lacks_memory stops same)) = P [] []
OverDials P at s first b a told telling before after driven (conversing.Dials.connects (conversing.Connected.converses x)) = P x.posted x.answers

abbrev pub Over : (List Text → List Answered → Type 0) → (call : Call) (at : Address) (turn : Turn) (b a : Standing) (told telling : Option Traffic) (before after : ℕ) (driven : Driven)
    → GoesOn call at turn b a told telling before after driven → Type 0
Over P call at (Ends e) b a told telling before after driven goes = P [] []
Over P call at (Posts text owed) b a told telling before after driven goes = OverDials P at (session_of call) (Posts text owed) b a told telling before after driven goes

-- ---- a quiet drive

-- A drive over a gateway of a reached world. No call on the site or the wire failed, and memory was found. Its peer answered each text whole, with whatever the other gateway of that world
-- answers to it, and this holds of that one's side after the last text.
pub record QuietDrive (st : Setting) (a b : Founding) (g : Gateway) (w : World) (call : Call) (at : Address) (old new : Standing) (setup : Setup) (t : Told) (told telling : Option Traffic) (before after : ℕ) (driven : Driven) (P : Side → Type 0) : Type 0 where
  pub reached : Reached st a b w
  pub stands : StandsIn st w g old.gateway old.site setup t
  pub may : MayCall st w g call
  pub drives : Drives call at old new told telling before after driven
  pub site_counts : SiteCounts old.faults new.faults (Ok driven)
  pub site_quiet : ¬ Rose old.faults new.faults
  pub wire_counts : WireCounts before after (Ok driven)
  pub wire_quiet : ¬ Rose before after
  pub memory : driven.end ≢ Memory
  pub early : driven.end ≢ Early
  pub http : (fault : HttpFault) → driven.end ≢ NotHttp fault
  pub answered : Over (λ posted answers. PeerAnswers (party_at st (opposite g)) (side_at w (opposite g)) posted answers P) call at drives.turn drives.begun new told telling before after driven drives.goes

-- it ended so, after so many texts
abbrev pub ends_with : DriveEnd → List Text → Driven
ends_with e texts = record { end = e; messages = length texts }

-- The drive ended so. What it posted and was answered are just these texts, in their order. Both gateways have come to this world then.
pub record EndsAfter (st : Setting) (a b : Founding) (g : Gateway) (call : Call) (at : Address) (old new : Standing) (setup : Setup) (told telling : Option Traffic) (before after : ℕ) (driven : Driven)
    (drives : Drives call at old new told telling before after driven) (P : Side → Type 0) (e : DriveEnd) (texts : List Text) (after_it : World) : Type 0 where
  pub driven_is : driven ≡ ends_with e texts
  pub passes : Over (λ posted answers. passed posted answers ≡ texts) call at drives.turn drives.begun new told telling before after driven drives.goes
  pub both : BothStand st a b g after_it new setup P

-- ---- the laws

-- A recovery is the one round of the world, of at most eight texts, and ends by its outcome: of each session that its origin's records name, whoever recovers it, as long as its records name it too.
abbrev pub RecoveriesEndTo : (Side → Type 0) → Type 0
RecoveriesEndTo P =
    (st : Setting) (a b : Founding) (g : Gateway) (w : World) (s : SessionId) (at : Address) (old new : Standing) (setup : Setup) (t : Told) (told telling : Option Traffic) (before after : ℕ) (driven : Driven)
    → (quiet : QuietDrive st a b g w (Rescues s) at old new setup t told telling before after driven P) → (q : Gateway) → s.gateway ≡ name_at st q → Names w q s → Names w g s
    → (r : RoundSettles st a b w q s g) × EndsAfter st a b g (Rescues s) at old new setup told telling before after driven quiet.drives P (end_by (commits_now w q s)) r.texts r.after

-- A new session is the one transfer of the world: committed in eleven texts where both ledgers accept it, and else rolled back.
abbrev pub StartsEndTo : (Side → Type 0) → Type 0
StartsEndTo P =
    (st : Setting) (a b : Founding) (g : Gateway) (w : World) (s : SessionId) (terms : Terms) (at : Address) (old new : Standing) (setup : Setup) (t : Told) (told telling : Option Traffic) (before after : ℕ) (driven : Driven)
    → (quiet : QuietDrive st a b g w (Starts s terms) at old new setup t told telling before after driven P) → records_of s (side_at w g).records ≡ [] → begun Origin (side_at w g).records < most_sessions
    → (r : TransferSettles st a b w g s terms) × EndsAfter st a b g (Starts s terms) at old new setup told telling before after driven quiet.drives P (end_by (accepts_now w g s terms)) r.texts r.after

-- A session that is resumed ends as its own chain does, after at most eleven texts.
abbrev pub ResumptionsEndSoTo : (Side → Type 0) → Type 0
ResumptionsEndSoTo P =
    (st : Setting) (a b : Founding) (g : Gateway) (w : World) (s : SessionId) (at : Address) (old new : Standing) (setup : Setup) (t : Told) (told telling : Option Traffic) (before after : ℕ) (driven : Driven)
    → (quiet : QuietDrive st a b g w (Works s) at old new setup t told telling before after driven P) → (q : Gateway) → s.gateway ≡ name_at st q → Names w q s → Names w g s
    → (r : ResumptionEnds st a b w s g) × EndsAfter st a b g (Works s) at old new setup told telling before after driven quiet.drives P (end_by (is_committed (tale_of (view_in s (side_at r.after g).records)))) r.texts r.after

-- ---- whatever side the other gateway comes to

abbrev pub RecoveriesEnd : Type 0
RecoveriesEnd = (peer : Side) → RecoveriesEndTo (IsSide peer)

abbrev pub StartsEnd : Type 0
StartsEnd = (peer : Side) → StartsEndTo (IsSide peer)

abbrev pub ResumptionsEndSo : Type 0
ResumptionsEndSo = (peer : Side) → ResumptionsEndSoTo (IsSide peer)
