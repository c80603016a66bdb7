-- What the two sides of a recovery round make of what they say of their chains: of one session, each side has a number of messages and the links of
-- its last two.
use Rattle.std.specs.Prelude.{◌≡◌, ◌≢◌, ◌↔◌, ℕ, ◌+◌, ◌-◌, ◌<◌, ◌≤◌, ◌==◌, nat_lt, min, Option, Some, None, Result, Ok, Err, if◌then◌else◌}
use Rattle.satp_base.specs.Faults.{or_else}
use Rattle.satp_base.specs.Verdicts.{same_link}
use Rattle.satp_base.specs.declared.head.Head.{Head}
use Rattle.satp_base.specs.declared.message.Link.{Link}
use Rattle.satp_recovery.specs.declared.choice.RecoveryFault.{RecoveryFault}
use Rattle.satp_recovery.specs.declared.choice.RecoveryFault.TheVariants.{Longer, Shorter, OtherHash, EntryRefused}
use Rattle.satp_recovery.specs.declared.choice.Step.{Step}
use Rattle.satp_recovery.specs.declared.choice.Step.TheVariants.{Resend, Adopt, Equal}

-- ---- the three answers as functions

-- the peer's length differs from the kept one by more than this
abbrev pub length_fault : ℕ → ℕ → ℕ → Option RecoveryFault
length_fault most kept given =
    if nat_lt (kept + most) given then Some (Longer (given - kept))
    else if nat_lt (given + most) kept then Some (Shorter (kept - given))
    else None

abbrev pub link_fault : Link → Link → Option RecoveryFault
link_fault kept given = if same_link given kept then None else Some (OtherHash kept given)

-- the peer's last link is that of the last message that both have; of a peer that has one message more nothing is known
abbrev pub last_fault : Head → ℕ → Link → Option RecoveryFault
last_fault head length last =
    if nat_lt head.length length then None
    else if length == head.length then link_fault head.last last
    else link_fault head.before last

-- as many messages have to come along as the peer has more
abbrev pub entries_fault : ℕ → ℕ → ℕ → Option RecoveryFault
entries_fault kept given entries = if entries == given - kept then None else Some (EntryRefused (kept + min (given - kept) entries + 1))

abbrev pub step_of : ℕ → ℕ → Step
step_of kept given = if nat_lt kept given then Adopt given else if given == kept then Equal else Resend kept

abbrev pub unless : {A : Type 0} → Option RecoveryFault → A → Result A RecoveryFault
unless None a = Ok a
unless (Some fault) a = Err fault

-- how many of the kept chain's last messages the peer lacks, from what `recover` says of the peer's chain
abbrev pub answer_of : Head → ℕ → Link → Result ℕ RecoveryFault
answer_of head length last = unless (or_else (length_fault 1 head.length length) (last_fault head length last)) (head.length - length)

-- what the starter does with `recover-update`, of which so many messages came along
abbrev pub take_of : Head → ℕ → ℕ → Result Step RecoveryFault
take_of head length entries = unless (or_else (length_fault 1 head.length length) (entries_fault head.length length entries)) (step_of head.length length)

-- what the peer makes of `recover-success`
abbrev pub agree_of : Head → ℕ → Link → Result (Unit {0}) RecoveryFault
agree_of head length last = unless (or_else (length_fault 0 head.length length) (link_fault head.last last)) tt

-- ---- the same by cases

-- the length differs by more than this
pub data IsApart (most kept given : ℕ) : RecoveryFault → Type 0 where
  IsLonger : kept + most < given → IsApart most kept given (Longer (given - kept))
  IsShorter : given + most < kept → IsApart most kept given (Shorter (kept - given))

-- Lengths may differ by one. A peer that has one message more lacks none, whatever its last one is. One that has as many names the same last link, and
-- lacks none; one that has one fewer names the link before the last, and lacks one.
pub data Answers (head : Head) (length : ℕ) (last : Link) : Result ℕ RecoveryFault → Type 0 where
  Apart : (fault : RecoveryFault) → IsApart 1 head.length length fault → Answers head length last (Err fault)
  OneMore : length ≡ head.length + 1 → Answers head length last (Ok 0)
  AsMany : length ≡ head.length → last ≡ head.last → Answers head length last (Ok 0)
  OneFewer : length + 1 ≡ head.length → last ≡ head.before → Answers head length last (Ok 1)
  OtherLast : length ≡ head.length → last ≢ head.last → Answers head length last (Err (OtherHash head.last last))
  OtherBefore : length + 1 ≡ head.length → last ≢ head.before → Answers head length last (Err (OtherHash head.before last))

-- Lengths may differ by one. One message comes along where the peer has one more, and none else: it is adopted, or this side says its last one again.
pub data Takes (head : Head) (length entries : ℕ) : Result Step RecoveryFault → Type 0 where
  Apart : (fault : RecoveryFault) → IsApart 1 head.length length fault → Takes head length entries (Err fault)
  Adopts : length ≡ head.length + 1 → entries ≡ 1 → Takes head length entries (Ok (Adopt length))
  AsMany : length ≡ head.length → entries ≡ 0 → Takes head length entries (Ok Equal)
  Resends : length + 1 ≡ head.length → entries ≡ 0 → Takes head length entries (Ok (Resend head.length))
  NoneCame : length ≡ head.length + 1 → entries ≡ 0 → Takes head length entries (Err (EntryRefused (head.length + 1)))
  TooMany : length ≡ head.length + 1 → 1 < entries → Takes head length entries (Err (EntryRefused (head.length + 2)))
  NoneWanted : length ≤ head.length → head.length ≤ length + 1 → 0 < entries → Takes head length entries (Err (EntryRefused (head.length + 1)))

-- Both chains are as long, and have the same last link.
pub data Agrees (head : Head) (length : ℕ) (last : Link) : Result (Unit {0}) RecoveryFault → Type 0 where
  Apart : (fault : RecoveryFault) → IsApart 0 head.length length fault → Agrees head length last (Err fault)
  Same : length ≡ head.length → last ≡ head.last → Agrees head length last (Ok tt)
  OtherLast : length ≡ head.length → last ≢ head.last → Agrees head length last (Err (OtherHash head.last last))

-- each function answers what its cases say, and nothing else does
abbrev pub AnswersByCases : Type 0
AnswersByCases = (head : Head) (length : ℕ) (last : Link) (r : Result ℕ RecoveryFault) → Answers head length last r ↔ (r ≡ answer_of head length last)

abbrev pub TakesByCases : Type 0
TakesByCases = (head : Head) (length entries : ℕ) (r : Result Step RecoveryFault) → Takes head length entries r ↔ (r ≡ take_of head length entries)

abbrev pub AgreesByCases : Type 0
AgreesByCases = (head : Head) (length : ℕ) (last : Link) (r : Result (Unit {0}) RecoveryFault) → Agrees head length last r ↔ (r ≡ agree_of head length last)
