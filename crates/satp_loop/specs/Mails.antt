-- What two sides have said to each other, and how the next message of a command passes.
use Rattle.std.specs.Prelude.{ℕ, ◌-◌, ◌==◌, Bool, false, if◌then◌else◌, List, [], ◌∷◌, ◌++◌, Option, Some, None, slice_get}
use Rattle.satp_base.specs.Calls.{risen}
use Rattle.satp_loop.specs.declared.mail.Mail.{Mail}
use Rattle.satp_loop.specs.declared.troubles.Passage.{Passage}
use Rattle.satp_loop.specs.declared.troubles.Passage.TheVariants.{Lost, Once, Twice}
use Rattle.satp_loop.specs.declared.troubles.Troubles.{Troubles}

-- no message goes wrong
abbrev pub no_troubles : Troubles
no_troubles = record { lost = None; twice = None }

-- nothing was said
abbrev pub no_mail : Mail
no_mail = record { sent = []; messages = 0; troubles = no_troubles; again = None }

-- A command begins, whose messages have numbers from 1 on. What was sent before stays.
abbrev pub begun : Troubles → Mail → Mail
begun troubles mail = record mail { messages = 0; troubles = troubles; again = None }

-- the text of a number, from 1 on, in the order of sending
abbrev pub text_at : List (List ℕ) → ℕ → Option (List ℕ)
text_at sent number = if number == 0 then None else slice_get sent (number - 1)

-- the number of a command's next message
abbrev pub next : Mail → ℕ
next mail = risen mail.messages 1

abbrev pub is_named : Option ℕ → ℕ → Bool
is_named None number = false
is_named (Some named) number = named == number

-- how a message passes: where it is named as both, it is lost
abbrev pub passage_of : Troubles → ℕ → Passage
passage_of troubles number = if is_named troubles.lost number then Lost else if is_named troubles.twice number then Twice else Once

abbrev pub passage : Mail → Passage
passage mail = passage_of mail.troubles (next mail)

-- a text that counts as sent, and as no message
abbrev pub noted : List ℕ → Mail → Mail
noted text mail = record mail { sent = mail.sent ++ text ∷ [] }

-- a text is the next message: it counts as sent, however it passes
abbrev pub passed : List ℕ → Mail → Mail
passed text mail = record mail { sent = mail.sent ++ text ∷ []; messages = next mail }

-- an answer that is named twice is kept for the driving side
abbrev pub kept : Passage → List ℕ → Mail → Mail
kept Once text mail = mail
kept Lost text mail = mail
kept Twice text mail = record mail { again = Some text }

-- a text is the next message, and answers one
abbrev pub answered : List ℕ → Mail → Mail
answered text mail = kept (passage mail) text (passed text mail)
