-- The lines that the bytes of a journal give, and why other bytes give none.
use Rattle.std.specs.Prelude.{◌≡◌, ℕ, ◌+◌, List, [], ◌∷◌, ◌++◌, length, codes, decimal, Option, Some, None, Result, Ok, Err, if◌then◌else◌}
use Rattle.std.specs.List.{flat_map}
use Rattle.satp_base.specs.Format.{Damage, Stands}
use Rattle.satp_base.specs.Tales.{is_committed, is_rolled_back}
use Rattle.satp_base.specs.Values.{name_text, session_text}
use Rattle.satp_base.specs.declared.message.Kind.{Kind}
use Rattle.satp_base.specs.declared.session.SessionId.{SessionId}
use Rattle.satp_base.specs.declared.view.View.{View}
use Rattle.satp_log.specs.Journals.{IsFirstRefused, IsJournal}
use Rattle.satp_log.specs.Logged.{sessions_in}
use Rattle.satp_phrases.specs.Roles.{role_text}
use Rattle.satp_records.specs.declared.stored.Setup.{Setup}
use Rattle.satp_sides.specs.Points.{Stored, view_in}
use Rattle.satp_replay.specs.declared.fault.ReplayFault.{ReplayFault}
use Rattle.satp_replay.specs.declared.fault.ReplayFault.TheVariants.{Damaged, Empty, Record, Memory}

-- ---- the lines

-- how a session stands by the kinds of its chain
abbrev pub state_text : List Kind → List ℕ
state_text tale = if is_committed tale then codes "committed" else (if is_rolled_back tale then codes "rolled-back" else codes "open")

-- a session's name, this side's role, how it stands, and how many messages its chain has
abbrev pub session_line : SessionId → View → List ℕ
session_line s v = (session_text s ++ codes " " ++ role_text v.role ++ codes " ") ++ (state_text v.tale ++ codes " " ++ decimal (length v.tale) ++ 10 ∷ [])

abbrev pub line_of : SessionId → Option View → List ℕ
line_of s None = []
line_of s (Some v) = session_line s v

-- each session by all the records that there are of it
abbrev pub session_lines : List Stored → List SessionId → List ℕ
session_lines xs = flat_map (λ s. line_of s (view_in s xs))

abbrev pub first_line : Setup → List ℕ
first_line setup = codes "gateway " ++ name_text setup.name ++ codes " peer " ++ name_text setup.peer ++ 10 ∷ []

abbrev pub last_line : ℕ → List ℕ
last_line count = codes "records " ++ decimal count ++ 10 ∷ []

-- Who the gateway is; its sessions in the order of their first records; and how many records there are, that of the set-up among them.
abbrev pub replay_text : Setup → List Stored → List ℕ
replay_text setup xs = first_line setup ++ session_lines xs (sessions_in xs) ++ last_line (length xs + 1)

-- ---- what is answered

-- The bytes are a gateway's journal, with these lines; or they are damaged; or they have no payload, or one that may not stand there, of which this is the first.
abbrev pub Replays : List ℕ → Result (List ℕ) ReplayFault → Type 0
Replays bytes (Ok text) =
    (payloads : List (List ℕ)) × Stands bytes payloads × ((setup : Setup) × (xs : List Stored) × IsJournal payloads setup xs × (text ≡ replay_text setup xs))
Replays bytes (Err (Damaged at)) = Damage bytes at
Replays bytes (Err Empty) = Stands bytes []
Replays bytes (Err (Record index)) = (payloads : List (List ℕ)) × Stands bytes payloads × IsFirstRefused payloads index
Replays bytes (Err Memory) = Unit {0}
