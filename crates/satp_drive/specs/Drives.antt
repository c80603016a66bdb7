-- What a drive does: which texts it posts, one after each answer, and what it ends with. Nothing here speaks of bytes.
use Rattle.std.specs.Prelude.{◌≡◌, ◌≢◌, ◌⊎◌, ◌≤◌, ℕ, ◌==◌, Bool, true, false, List, [], ◌∷◌, filter, length, Option, Some, None, Result, Ok, Err, if◌then◌else◌}
use Rattle.satp_base.specs.Streams.{Rose}
use Rattle.satp_base.specs.Tales.{is_committed, is_whole}
use Rattle.satp_base.specs.declared.message.Kind.{Kind}
use Rattle.satp_base.specs.declared.session.SessionId.{SessionId}
use Rattle.satp_gateway.specs.Handling.{text_in}
use Rattle.satp_gateway.specs.declared.handle.Reply.{Reply}
use Rattle.satp_http.specs.declared.responses.Answered.{Answered}
use Rattle.satp_log.specs.Journals.{party_of}
use Rattle.satp_points.specs.States.{GatewayState, Holds}
use Rattle.satp_points.specs.declared.fault.Refused.{Refused}
use Rattle.satp_points.specs.declared.fault.Refused.TheVariants as refused
use Rattle.satp_records.specs.declared.stored.Setup.{Setup}
use Rattle.satp_sides.specs.Calls.{success_text}
use Rattle.satp_sides.specs.Points.{Party, Stored, Text, chain_in, tale_of, view_in}
use Rattle.satp_drive.specs.Calling.{Standing, Handled}
use Rattle.satp_drive.specs.declared.driven.DriveEnd.{DriveEnd}
use Rattle.satp_drive.specs.declared.driven.DriveEnd.TheVariants as end
use Rattle.satp_drive.specs.declared.turn.Turn.{Turn}
use Rattle.satp_drive.specs.declared.turn.Turn.TheVariants.{Posts, Ends}

-- ---- after a reply

-- the kinds of the session's chain
abbrev pub tale_in : SessionId → List Stored → List Kind
tale_in s xs = tale_of (view_in s xs)

-- how a session has ended whose chain is whole
abbrev pub end_of : List Kind → DriveEnd
end_of tale = if is_committed tale then end.Committed else end.RolledBack

-- Where there is no reply the drive ends, but that `recover-success` is posted once the chain is whole, if that is still owed.
abbrev pub unreplied : Party → SessionId → Bool → List Stored → Turn
unreplied p s owed xs =
    if is_whole (tale_in s xs) then (if owed then Posts (success_text p s (chain_in s xs)) false else Ends (end_of (tale_in s xs))) else Ends end.Silent

-- no memory may be found for `recover-success`
abbrev pub WantsSuccess : SessionId → Bool → GatewayState → Turn → Type 0
WantsSuccess s owed g turn = (turn ≡ Ends end.Memory) × (owed ≡ true) × ((setup : Setup) (xs : List Stored) → Holds g setup xs → is_whole (tale_in s xs) ≡ true)

-- What follows a reply of the gateway, which then keeps these records: a text is posted.
abbrev pub AfterReply : SessionId → Bool → GatewayState → Option Text → Turn → Type 0
AfterReply s owed g (Some text) turn = turn ≡ Posts text owed
AfterReply s owed g None turn =
    ((setup : Setup) (xs : List Stored) → Holds g setup xs → turn ≡ unreplied (party_of setup) s owed xs) ⊎ WantsSuccess s owed g turn

-- how a drive ends whose last answer is refused so
abbrev pub refusal_end : Refused → DriveEnd
refusal_end refused.Site = end.Site
refusal_end refused.Memory = end.Memory
refusal_end r = end.Refused r

-- ---- after an answer

-- what follows the handling of its body: a refusal ends the drive
abbrev pub AfterHandling : SessionId → Bool → GatewayState → Result Reply Refused → Turn → Type 0
AfterHandling s owed g (Ok reply) turn = AfterReply s owed g (text_in reply) turn
AfterHandling s owed g (Err r) turn = (r ≢ refused.Broken) × (turn ≡ Ends (refusal_end r))

-- A body was handled, and this follows.
abbrev pub Handles : SessionId → Bool → Text → Standing → Standing → Turn → Type 0
Handles s owed body b a turn = (result : Result Reply Refused) × Handled body b a result × AfterHandling s owed a.gateway result turn

-- What follows an answer, by its code. Only a body of code 200 is handled.
pub data AfterAnswer (s : SessionId) (owed : Bool) (b : Standing) (answer : Answered) (a : Standing) (turn : Turn) : Type 0 where
  brings_text : answer.code ≡ 200 → Handles s owed answer.body b a turn → AfterAnswer s owed b answer a turn
  brings_none : answer.code ≡ 204 → a ≡ b → AfterReply s owed b.gateway None turn → AfterAnswer s owed b answer a turn
  refuses : answer.code ≢ 200 → answer.code ≢ 204 → a ≡ b → turn ≡ Ends (end.Status answer.code) → AfterAnswer s owed b answer a turn

-- ---- after answers

-- From one turn these answers lead to another. Each answers the text that is posted before it.
abbrev pub AfterAnswers : SessionId → Standing → Turn → List Answered → List Text → Standing → Turn → Type 0
AfterAnswers s b turn [] posted a next = (posted ≡ []) × (a ≡ b) × (next ≡ turn)
AfterAnswers s b (Ends e) (answer ∷ answers) posted a next = ⊥
AfterAnswers s b (Posts text owed) (answer ∷ answers) posted a next =
    (middle : Standing) × (turn : Turn) × (later : List Text)
    × AfterAnswer s owed b answer middle turn × (posted ≡ text ∷ later) × AfterAnswers s middle turn answers later a next

-- the most texts that a drive posts
abbrev pub most_posts : ℕ
most_posts = 16

-- the answers that bring a text
abbrev pub texts_in : List Answered → ℕ
texts_in answers = length (filter (λ answer. answer.code == 200) answers)

-- ---- ends

-- no refusal of the site, of memory or of a broken gateway ends a drive as one of an answer
abbrev pub IsOfAnswer : Refused → Type 0
IsOfAnswer refused.Broken = ⊥
IsOfAnswer refused.Site = ⊥
IsOfAnswer refused.Memory = ⊥
IsOfAnswer r = Unit {0}

-- an end that comes where the gateway replies nothing
abbrev pub IsChainEnd : DriveEnd → Type 0
IsChainEnd end.Committed = Unit {0}
IsChainEnd end.RolledBack = Unit {0}
IsChainEnd end.Silent = Unit {0}
IsChainEnd end.Memory = Unit {0}
IsChainEnd e = ⊥

-- an end that comes with an answer
abbrev pub IsAnswerEnd : DriveEnd → Type 0
IsAnswerEnd end.Wire = ⊥
IsAnswerEnd end.Early = ⊥
IsAnswerEnd (end.NotHttp f) = ⊥
IsAnswerEnd end.Turns = ⊥
IsAnswerEnd (end.Refused r) = IsOfAnswer r
IsAnswerEnd e = Unit {0}

-- A drive ends with this fault of a device only where its count rose, and leaves the count with every other end. The count never falls.
pub record EndCounts (fault : DriveEnd) (before after : ℕ) (e : DriveEnd) : Type 0 where
  pub later : before ≤ after
  pub cause : e ≡ fault → Rose before after
  pub still : e ≢ fault → after ≡ before

-- ---- steps on the way

-- how a session has ended with such a chain, if it has
abbrev pub IsEndOf : List Kind → Option DriveEnd → Type 0
IsEndOf tale None = is_whole tale ≡ false
IsEndOf tale (Some e) = (is_whole tale ≡ true) × (e ≡ end_of tale)

abbrev pub IfPosts : Turn → Type 0 → Type 0
IfPosts (Posts t owed) P = P
IfPosts (Ends e) P = Unit {0}

abbrev pub OnEnd : (DriveEnd → Type 0) → Turn → Type 0
OnEnd P (Posts t owed) = Unit {0}
OnEnd P (Ends e) = P e

-- the count of a site's faults
abbrev pub TurnCounts : ℕ → ℕ → Turn → Type 0
TurnCounts before after (Posts t owed) = after ≡ before
TurnCounts before after (Ends e) = EndCounts end.Site before after e
