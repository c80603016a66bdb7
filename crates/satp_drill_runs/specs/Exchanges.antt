-- Two gateways that talk within a command, over messages that are lost or come twice.
use Rattle.std.specs.Prelude.{◌≡◌, ℕ, zero, suc, ◌+◌, ◌==◌, Bool, true, false, List, [], ◌∷◌, ◌++◌, Option, Some, None, Result, Ok, Err, if◌then◌else◌}
use Rattle.satp_base.specs.Tales.{is_whole}
use Rattle.satp_base.specs.declared.message.Message.{Message}
use Rattle.satp_base.specs.declared.session.SessionId.{SessionId}
use Rattle.satp_sides.specs.Calls.{Call, IsHeard, Refusal, Rescues, Hears, success_text}
use Rattle.satp_sides.specs.Points.{Party, Says, Stored, Text, chain_in, tale_of, view_in}
use Rattle.satp_world.specs.Histories.{after_moves}
use Rattle.satp_world.specs.Worlds.{Gateway, Setting, opposite, party_at, side_at}
use Rattle.satp_drill_runs.specs.Benches.{Stage, answered, called}

-- ---- one of two things, by a test

abbrev pub Either : Bool → Type 0 → Type 0 → Type 0
Either true T F = T
Either false T F = F

-- ---- what goes wrong in a command

-- which messages, by their numbers from 1
pub record Troubles : Type 0 where
  pub lost : Option ℕ
  pub twice : Option ℕ

abbrev is_number : Option ℕ → ℕ → Bool
is_number None n = false
is_number (Some m) n = m == n

abbrev pub is_lost : Troubles → ℕ → Bool
is_lost tr n = is_number tr.lost n

abbrev pub is_twice : Troubles → ℕ → Bool
is_twice tr n = is_number tr.twice n

-- ---- texts

-- within a command: both gateways, the texts sent over the whole drill, and an answer that comes once more after the command
pub record Talk : Type 0 where
  pub stage : Stage
  pub sent : List Text
  pub again : Option Text

abbrev pub sends : Talk → Text → Talk
sends x t = record { stage = x.stage; sent = x.sent ++ t ∷ []; again = x.again }

-- a reply with a text is sent
abbrev pub replies : Talk → Option (Result (Option Text) Refusal) → Talk
replies x (Some (Ok (Some t))) = sends x t
replies x answer = x

-- the gateway is called
abbrev pub calls : Setting → Talk → Gateway → Call → Talk
calls st x g call = record { stage = called st x.stage g call; sent = x.sent; again = x.again }

-- and its reply is sent, and goes nowhere else
abbrev pub hands : Setting → Talk → Gateway → Call → Talk
hands st x g call = replies (calls st x g call) (answered st x.stage g call)

-- the text is read so
abbrev pub IsHearing : List ℕ → Text → Call → Type 0
IsHearing key t call = (m : Message) × (e : Option Message) × (call ≡ Hears m t e) × IsHeard key (Hears m t e)

-- ---- a drive

-- a reply is posted; or success is, which the gateway says unasked; or nothing more
pub data Next : Type 0 where
  Posts : Text → (owed : Bool) → Next
  Succeeds : Text → Next
  Ends : Next

-- Where there is no reply, nothing more is posted, but success once the chain is whole, if that is still owed.
abbrev pub unreplied : Party → SessionId → Bool → List Stored → Next
unreplied p s owed xs = if is_whole (tale_of (view_in s xs)) then (if owed then Succeeds (success_text p s (chain_in s xs)) else Ends) else Ends

-- what follows an answer of the gateway, which then keeps these records
abbrev pub follows : Party → SessionId → Bool → List Stored → Option (Result (Option Text) Refusal) → Next
follows p s owed xs None = Ends
follows p s owed xs (Some (Err r)) = Ends
follows p s owed xs (Some (Ok (Some t))) = Posts t owed
follows p s owed xs (Some (Ok None)) = unreplied p s owed xs

-- the records of a gateway now
abbrev pub records_at : Talk → Gateway → List Stored
records_at x g = (side_at x.stage.world g).records

-- what follows a call of the gateway
abbrev pub follows_call : Setting → Talk → Gateway → SessionId → Bool → Call → Next
follows_call st x g s owed call = follows (party_at st g) s owed (records_at (calls st x g call) g) (answered st x.stage g call)

-- whoever begins a recovery round owes its peer success
abbrev pub owes : Call → Bool
owes (Rescues s) = true
owes call = false

-- ---- an exchange

-- an answer of this number that comes once more after the command is kept
abbrev pub keeps : Bool → Talk → Text → Talk
keeps true x t = record { stage = x.stage; sent = x.sent; again = Some t }
keeps false x t = x

-- a text that is to be handed over twice is, in a row
abbrev pub hands_over : Bool → Setting → Talk → Gateway → Call → Talk
hands_over true st x g call = hands st (hands st x g call) g call
hands_over false st x g call = hands st x g call

-- how an exchange goes on: the number of the next message, how it stands, and what is posted next
abbrev Rest : Type 1
Rest = ℕ → Talk → Next → Talk → Type 0

-- The peer has answered the message before this number. An answer without a text is no message, and a refusal or a fault ends the exchange. A text is the message of this
-- number, and sent: where it's lost the connection ends in its place; else the gateway hears it.
abbrev pub Answers : Rest → Setting → Troubles → Gateway → SessionId → Bool → ℕ → Talk → Option (Result (Option Text) Refusal) → Talk → Type 0
Answers rest st tr g s owed n x (Some (Ok (Some t))) y =
    Either (is_lost tr n) (y ≡ x)
    ((call : Call) × IsHearing st.key t call × rest (n + 1) (calls st (keeps (is_twice tr n) x t) g call) (follows_call st (keeps (is_twice tr n) x t) g s owed call) y)
Answers rest st tr g s owed n x (Some (Ok None)) y = rest n x (unreplied (party_at st g) s owed (records_at x g)) y
Answers rest st tr g s owed n x answer y = y ≡ x

-- The text is posted as the message of this number, and sent: where it's lost the connection ends in its place; else the peer hears it, once or twice in a row. What it
-- answers first is the answer.
abbrev pub IsPosted : Rest → Setting → Troubles → Gateway → SessionId → Bool → ℕ → Talk → Text → Talk → Type 0
IsPosted rest st tr g s owed n x t y =
    Either (is_lost tr n) (y ≡ sends x t)
    ((call : Call) × IsHearing st.key t call
    × Answers rest st tr g s owed (n + 1) (hands_over (is_twice tr n) st (sends x t) (opposite g) call) (answered st x.stage (opposite g) call) y)

-- the gateway says a text
abbrev pub says : Talk → Gateway → Text → Talk
says x g t = record { stage = record { world = after_moves x.stage.world g (Says t ∷ []); a = x.stage.a; b = x.stage.b }; sent = x.sent; again = x.again }

-- An exchange of at most so many posts.
abbrev pub Exchanges : ℕ → Setting → Troubles → Gateway → SessionId → Rest
Exchanges zero st tr g s n x next y = y ≡ x
Exchanges (suc most) st tr g s n x (Posts t owed) y = IsPosted (Exchanges most st tr g s) st tr g s owed n x t y
Exchanges (suc most) st tr g s n x (Succeeds t) y = IsPosted (Exchanges most st tr g s) st tr g s false n (says x g t) t y
Exchanges (suc most) st tr g s n x Ends y = y ≡ x

abbrev pub most_posts : ℕ
most_posts = 16
