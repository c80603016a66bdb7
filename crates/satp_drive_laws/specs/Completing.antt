-- What a drive comes to that nothing disturbs: the recovery round, the transfer, or the session that is resumed, each to its end.
use Rattle.std.specs.Prelude.{◌≡◌, ◌⊎◌, ◌<◌, Bool, List, [], ◌∷◌, ◌++◌, length, if◌then◌else◌}
use Rattle.satp_base.specs.Calls.{Told}
use Rattle.satp_base.specs.Founding.{Founding}
use Rattle.satp_base.specs.Tales.{is_committed}
use Rattle.satp_base.specs.declared.message.Role.TheVariants.{Origin}
use Rattle.satp_base.specs.declared.message.Terms.{Terms}
use Rattle.satp_base.specs.declared.session.SessionId.{SessionId}
use Rattle.satp_http.specs.declared.responses.Answered.{Answered}
use Rattle.satp_records.specs.declared.stored.Setup.{Setup}
use Rattle.satp_sides.specs.Calls.Call.{Rescues, Starts, Works}
use Rattle.satp_sides.specs.Points.{Side, Text, begun, most_sessions, records_of, tale_of, view_in}
use Rattle.satp_world.specs.Kept.{Names}
use Rattle.satp_world.specs.Worlds.{Gateway, Setting, World, name_at, side_at}
use Rattle.satp_rounds.specs.Conversations.{Round, commits_now}
use Rattle.satp_rounds.specs.NewSessions.{Transfer, accepts_now}
use Rattle.satp_rounds.specs.Resumptions.{Resumption}
use Rattle.satp_drive.specs.Calling.{Standing}
use Rattle.satp_drive.specs.Drives.{most_posts}
use Rattle.satp_drive.specs.declared.driven.DriveEnd.{DriveEnd}
use Rattle.satp_drive.specs.declared.turn.Turn.{Turn}
use Rattle.satp_drive.specs.declared.turn.Turn.TheVariants.{Posts, Ends}
use Rattle.satp_drive.specs.declared.driven.DriveEnd.TheVariants.{Committed, RolledBack}
use Rattle.satp_drive_laws.specs.Peer.{IsSide}
use Rattle.satp_drive_laws.specs.Undisturbed.{BothStand, Undisturbed, messages, passed}

-- how it ends
abbrev pub end_by : Bool → DriveEnd
end_by committed = if committed then Committed else RolledBack

-- after the first of these texts, it posts the next of them
abbrev pub PostsNext : Turn → List Text → List Text → Type 0
PostsNext (Posts t owed) first texts = (rest : List Text) × (texts ≡ first ++ t ∷ rest)
PostsNext (Ends e) first texts = ⊥

-- It ended so when just these texts had passed, in their order, and the world is this one. Or only the first of them have passed, and it goes on to post the next one, and may: so it never
-- ends in any other way.
abbrev pub Completes : DriveEnd → List Text → World → List Text → List Answered → Turn → World → Type 0
Completes e texts after posted answers next now =
    ((next ≡ Ends e) × (passed posted answers ≡ texts) × (messages posted answers ≡ length texts) × (now ≡ after)) ⊎ (PostsNext next (passed posted answers) texts × (length posted < most_posts))

-- so it is in a world to which both gateways have come
abbrev pub Comes : Setting → Founding → Founding → Gateway → Standing → Setup → (Side → Type 0) → DriveEnd → List Text → World → List Text → List Answered → Turn → Type 0
Comes st a b g new setup P e texts after posted answers next =
    (now : World) × Completes e texts after posted answers next now × BothStand st a b g now new setup P

-- of each session that its origin's records name, whoever recovers it, as long as its records name it too
abbrev pub RecoveriesCompleteTo : (Side → Type 0) → Type 0
RecoveriesCompleteTo P =
    (st : Setting) (a b : Founding) (g : Gateway) (w : World) (s : SessionId) (old begun new : Standing) (setup : Setup) (t : Told) (posted : List Text) (answers : List Answered) (next : Turn)
    → Undisturbed st a b g w (Rescues s) old begun new setup t posted answers next P → (q : Gateway) → s.gateway ≡ name_at st q → Names w q s → Names w g s
    → (texts : List Text) (after : World) → Round st w g s texts after → Comes st a b g new setup P (end_by (commits_now w q s)) texts after posted answers next

-- of each session of the gateway's name that none of its records names, as long as it may begin one more
abbrev pub StartsCompleteTo : (Side → Type 0) → Type 0
StartsCompleteTo P =
    (st : Setting) (a b : Founding) (g : Gateway) (w : World) (s : SessionId) (terms : Terms) (old begun_ new : Standing) (setup : Setup) (t : Told) (posted : List Text) (answers : List Answered) (next : Turn)
    → Undisturbed st a b g w (Starts s terms) old begun_ new setup t posted answers next P → records_of s (side_at w g).records ≡ [] → begun Origin (side_at w g).records < most_sessions
    → (texts : List Text) (after : World) → Transfer st w g s terms texts after → Comes st a b g new setup P (end_by (accepts_now w g s terms)) texts after posted answers next

-- of each session that its origin's records name, whoever resumes it, as long as its records name it too: it ends as its own chain says
abbrev pub ResumptionsCompleteTo : (Side → Type 0) → Type 0
ResumptionsCompleteTo P =
    (st : Setting) (a b : Founding) (g : Gateway) (w : World) (s : SessionId) (old begun new : Standing) (setup : Setup) (t : Told) (posted : List Text) (answers : List Answered) (next : Turn)
    → Undisturbed st a b g w (Works s) old begun new setup t posted answers next P → (q : Gateway) → s.gateway ≡ name_at st q → Names w q s → Names w g s
    → (texts : List Text) (after : World) → Resumption st w g s texts after
    → Comes st a b g new setup P (end_by (is_committed (tale_of (view_in s (side_at after g).records)))) texts after posted answers next

-- ---- whatever side the other gateway comes to

abbrev pub RecoveriesComplete : Type 0
RecoveriesComplete = (peer : Side) → RecoveriesCompleteTo (IsSide peer)

abbrev pub StartsComplete : Type 0
StartsComplete = (peer : Side) → StartsCompleteTo (IsSide peer)

abbrev pub ResumptionsComplete : Type 0
ResumptionsComplete = (peer : Side) → ResumptionsCompleteTo (IsSide peer)
