-- What the side does with a message that a drive speaks with: it replies as its gateway does, but for a message that is lost or comes twice.
use Rattle.std.specs.Prelude.{◌≡◌, ◌⊎◌, ℕ, ◌==◌, if◌then◌else◌, List, Option, Some, None, Result, Ok, Err}
use Rattle.satp_points.specs.States.{GatewayState}
use Rattle.satp_serve.specs.declared.responder.Halt.{Halt}
use Rattle.satp_serve.specs.declared.responder.Halt.TheVariants as halt
use Rattle.satp_serve.specs.declared.responder.Replied.{Replied}
use Rattle.satp_loop.specs.Mails.{answered, noted, passage, passed}
use Rattle.satp_loop.specs.declared.mail.Mail.{Mail}
use Rattle.satp_loop.specs.declared.peer.Peer.{Peer}
use Rattle.satp_loop.specs.declared.troubles.Passage.{Passage}
use Rattle.satp_loop.specs.declared.troubles.Passage.TheVariants.{Lost, Once, Twice}

-- the text that an answer is: one of nothing and a refusal are none
abbrev pub text_in : Replied → Option (List ℕ)
text_in replied = if replied.code == 200 then Some replied.body else None

-- ---- an answer on its way

-- an answer that is lost isn't heard: the connection ends in its place
abbrev pub unless_lost : Passage → Replied → Result Replied Halt
unless_lost Once replied = Ok replied
unless_lost Twice replied = Ok replied
unless_lost Lost replied = Err halt.Cut

-- what is heard of an answer whose text is this
abbrev pub heard : Option (List ℕ) → Mail → Replied → Result Replied Halt
heard None mail replied = Ok replied
heard (Some text) mail replied = unless_lost (passage mail) replied

-- after an answer: its text is the next message
abbrev pub after_answer : Option (List ℕ) → Mail → Mail
after_answer None mail = mail
after_answer (Some text) mail = answered text mail

-- after the answer to a message that was handed over again: its text counts as sent, and goes nowhere
abbrev pub after_second : Option (List ℕ) → Mail → Mail
after_second None mail = mail
after_second (Some text) mail = noted text mail

-- An answer is said, and the text of the second one is noted. Where no memory is found for either, nothing is said.
abbrev pub Says : Replied → Option (List ℕ) → Mail → Result Replied Halt → Mail → Type 0
Says replied second mail result new =
    ((result ≡ heard (text_in replied) mail replied) × (new ≡ after_second second (after_answer (text_in replied) mail)))
    ⊎ ((result ≡ Err halt.Memory) × ((new ≡ mail) ⊎ (new ≡ after_answer (text_in replied) mail)))

-- what came of handing a message over
abbrev pub SaysFirst : Result Replied Halt → Mail → Result Replied Halt → Mail → Type 0
SaysFirst (Ok replied) mail result new = Says replied None mail result new
SaysFirst (Err why) mail result new = (result ≡ Err why) × (new ≡ mail)

-- what came of handing it over again: a failure of the site then, in which the first answer is said all the same
abbrev pub SaysBoth : Replied → Result Replied Halt → Mail → Result Replied Halt → Mail → Type 0
SaysBoth replied (Ok second) mail result new = Says replied (text_in second) mail result new
SaysBoth replied (Err halt.Site) mail result new = Says replied None mail result new
SaysBoth replied (Err halt.Cut) mail result new = Says replied None mail result new
SaysBoth replied (Err halt.Memory) mail result new = (result ≡ Err halt.Memory) × (new ≡ mail)

-- ---- a message

-- a message that was handed over once and had an answer is handed over again
abbrev pub HandsAgain : {S : Type 0} → (GatewayState → S → List ℕ → Result Replied Halt → GatewayState → S → Type 0)
    → Result Replied Halt → GatewayState → S → List ℕ → Mail → Result Replied Halt → GatewayState → S → Mail → Type 0
HandsAgain replies (Ok replied) g s body mail result h t new = (second : Result Replied Halt) × replies g s body second h t × SaysBoth replied second mail result new
HandsAgain replies (Err why) g s body mail result h t new = (h ≡ g) × (t ≡ s) × (result ≡ Err why) × (new ≡ mail)

-- what comes of a message that passes so; it counts as sent already
abbrev pub Passes : {S : Type 0} → (GatewayState → S → List ℕ → Result Replied Halt → GatewayState → S → Type 0)
    → Passage → GatewayState → S → List ℕ → Mail → Result Replied Halt → GatewayState → S → Mail → Type 0
Passes replies Lost g s body mail result h t new = (result ≡ Err halt.Cut) × (h ≡ g) × (t ≡ s) × (new ≡ mail)
Passes replies Once g s body mail result h t new = (first : Result Replied Halt) × replies g s body first h t × SaysFirst first mail result new
Passes {S} replies Twice g s body mail result h t new =
    (first : Result Replied Halt) × (middle : GatewayState) × (between : S) × replies g s body first middle between
    × HandsAgain replies first middle between body mail result h t new

-- A body is the next message. Where no memory is found to note it, nothing is done.
abbrev pub PeerReplies : {S : Type 0} → (GatewayState → S → List ℕ → Result Replied Halt → GatewayState → S → Type 0)
    → Peer → S → List ℕ → Result Replied Halt → Peer → S → Type 0
PeerReplies replies p s body result q t =
    ((result ≡ Err halt.Memory) × (q ≡ p) × (t ≡ s))
    ⊎ Passes replies (passage p.mail) p.gateway s body (passed body p.mail) result q.gateway t q.mail
