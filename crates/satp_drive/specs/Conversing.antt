-- A drive over the connection that it opens: what is said and heard there, and which end that is.
use Rattle.std.specs.Prelude.{◌≡◌, ◌⊎◌, ◌≤◌, ◌<◌, ℕ, ◌+◌, Bool, true, false, List, [], ◌∷◌, ◌++◌, length, Option, Some, option_map, Ok, Err, if◌then◌else◌}
use Rattle.std.specs.List.{flat_map}
use Rattle.satp_base.specs.Streams.{Rose}
use Rattle.satp_base.specs.Values.{address_text}
use Rattle.satp_base.specs.Wires.{MayMiss, Traffic, called, exchanged}
use Rattle.satp_base.specs.declared.address.Address.{Address}
use Rattle.satp_base.specs.declared.session.SessionId.{SessionId}
use Rattle.satp_base.specs.declared.wire.Dial.TheVariants.{Connect}
use Rattle.satp_http.specs.Feeds.{AnswerFeed, no_answers}
use Rattle.satp_http.specs.Runs.{AnswerTaken, AnswerRun, Call, came}
use Rattle.satp_http.specs.Written.{request_text}
use Rattle.satp_http.specs.declared.responses.Answered.{Answered}
use Rattle.satp_sides.specs.Points.{Text}
use Rattle.satp_drive.specs.Calling.{Standing}
use Rattle.satp_drive.specs.Drives.{AfterAnswers, most_posts, texts_in}
use Rattle.satp_post.specs.Posting as posting
use Rattle.satp_post.specs.Posting.{hearing}
use Rattle.satp_drive.specs.declared.driven.DriveEnd.{DriveEnd}
use Rattle.satp_drive.specs.declared.driven.DriveEnd.TheVariants as end
use Rattle.satp_drive.specs.declared.driven.Driven.{Driven}
use Rattle.satp_post.specs.declared.fault.PostFault.{PostFault}
use Rattle.satp_post.specs.declared.fault.PostFault.TheVariants as post
use Rattle.satp_drive.specs.declared.turn.Turn.{Turn}
use Rattle.satp_drive.specs.declared.turn.Turn.TheVariants.{Posts, Ends}

-- ---- the texts that have an answer

-- the requests that post these texts
abbrev pub requests : List ℕ → List Text → List ℕ
requests at posted = flat_map (request_text at) posted

-- The calls that hear these answers, one after the other: no more is heard once an answer is whole.
abbrev pub Hearings : List (Call AnswerTaken) → List Answered → Type 0
Hearings calls [] = calls ≡ []
Hearings calls (answer ∷ answers) =
    (pieces : List (List ℕ)) × (later : List (Call AnswerTaken)) × (calls ≡ hearing pieces (Ok (Some answer)) ++ later) × Hearings later answers

-- what was said and heard for them on the connection, on which nothing was said or heard before
pub record Exchanges (at : List ℕ) (posted : List Text) (answers : List Answered) (feed : AnswerFeed) (told telling : Option Traffic) : Type 0 where
  pub calls : List (Call AnswerTaken)
  pub hearings : Hearings calls answers
  pub runs : AnswerRun no_answers calls feed
  pub told_is : telling ≡ option_map (exchanged (came calls) (requests at posted) false) told

-- ---- the end

abbrev pub one_if : Bool → ℕ
one_if whole = if whole then 1 else 0

-- how a drive ends where a text has no answer, after so many messages
abbrev pub fault_end : PostFault → DriveEnd
fault_end (post.Wire said) = end.Wire
fault_end post.Early = end.Early
fault_end (post.NotHttp f) = end.NotHttp f
fault_end (post.Memory said) = end.Memory

-- the text counts where its whole request was said
abbrev pub said_whole : PostFault → Bool
said_whole (post.Wire said) = said
said_whole post.Early = true
said_whole (post.NotHttp f) = true
said_whole (post.Memory said) = said

abbrev pub unanswered : PostFault → ℕ → Driven
unanswered fault messages = record { end = fault_end fault; messages = messages + one_if (said_whole fault) }

-- a text was posted, and has no answer
pub record LacksAnswer (at : List ℕ) (text : Text) (feed : AnswerFeed) (messages : ℕ) (told telling : Option Traffic) (before after : ℕ) (driven : Driven) : Type 0 where
  pub fault : PostFault
  pub left : AnswerFeed
  pub posts : posting.Posts at text feed left told telling before after (Err fault)
  pub driven_is : driven ≡ unanswered fault messages

-- nothing more is said or heard
abbrev pub Stops : DriveEnd → ℕ → Option Traffic → Option Traffic → ℕ → ℕ → Driven → Type 0
Stops e messages told telling before after driven = (driven ≡ record { end = e; messages = messages }) × (telling ≡ told) × (after ≡ before)

-- How a drive ends whose answers have led to this turn, after so many texts with an answer.
abbrev pub EndsAt : List ℕ → Turn → ℕ → AnswerFeed → ℕ → Option Traffic → Option Traffic → ℕ → ℕ → Driven → Type 0
EndsAt at (Ends e) posts feed messages told telling before after driven = (posts ≤ most_posts) × Stops e messages told telling before after driven
EndsAt at (Posts text owed) posts feed messages told telling before after driven =
    ((posts ≡ most_posts) × Stops end.Turns messages told telling before after driven)
    ⊎ ((posts < most_posts) × LacksAnswer at text feed messages told telling before after driven)

-- A drive over one connection, from its first text on.
pub record Converses (at : List ℕ) (s : SessionId) (first : Turn) (b a : Standing) (told telling : Option Traffic) (before after : ℕ) (driven : Driven) : Type 0 where
  pub answers : List Answered
  pub posted : List Text
  pub next : Turn
  pub leads : AfterAnswers s b first answers posted a next
  pub feed : AnswerFeed
  pub between : Option Traffic
  pub exchanges : Exchanges at posted answers feed told between
  pub ends : EndsAt at next (length posted) feed (length posted + texts_in answers) between telling before after driven

-- ---- the connection

-- A drive that has connected takes the memory for answers, and then posts its first text.
pub data Connected (at : Address) (s : SessionId) (first : Turn) (b a : Standing) (told telling : Option Traffic) (before after : ℕ) (driven : Driven) : Type 0 where
  lacks_memory : Stops end.Memory 0 told telling before after driven → a ≡ b → Connected at s first b a told telling before after driven
  converses : Converses (address_text at) s first b a told telling before after driven → Connected at s first b a told telling before after driven

-- A drive that has a text to post connects once, to the peer's address.
pub data Dials (at : Address) (s : SessionId) (first : Turn) (b a : Standing) (told telling : Option Traffic) (before after : ℕ) (driven : Driven) : Type 0 where
  fails : MayMiss (Connect at) told telling → Rose before after → a ≡ b → driven ≡ record { end = end.Wire; messages = 0 } → Dials at s first b a told telling before after driven
  connects : Connected at s first b a (option_map (called (Connect at)) told) telling before after driven → Dials at s first b a told telling before after driven
