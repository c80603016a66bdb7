-- How a gateway reads a body that its peer sent.
use Rattle.std.specs.Prelude.{◌≡◌, ◌≢◌, ◌⊎◌, ◌≤◌, ◌<◌, ℕ, List, length, Option, Some, None, Result, Ok, Err}
use Rattle.satp_base.specs.declared.message.Message.{Message}
use Rattle.satp_log.specs.Hearing.{reading_fault}
use Rattle.satp_log.specs.declared.fault.Unheard.{Unheard}
use Rattle.satp_log.specs.declared.fault.Unheard.TheVariants as unheard
use Rattle.satp_points.specs.Answers.{IsRecover}
use Rattle.satp_points.specs.States.{GatewayState, Holds}
use Rattle.satp_points.specs.declared.fault.Refused.{Refused}
use Rattle.satp_points.specs.declared.fault.Refused.TheVariants.{Body, Broken, Header, Jws, Memory, Size}
use Rattle.satp_records.specs.declared.stored.Setup.{Setup}
use Rattle.satp_sides.specs.Calls.{IsEntryOf, IsOwn}
use Rattle.satp_sides.specs.Points.{Stored, Text}
use Rattle.satp_gateway.specs.declared.handle.Reply.{Reply}
use Rattle.satp_gateway.specs.declared.handle.Reply.TheVariants.{Message as Says, Nothing}

-- the most bytes of a body
abbrev pub most_body : ℕ
most_body = 8192

-- it is some message's own text under the key
abbrev pub IsRead : List ℕ → Text → Type 0
IsRead key text = (m : Message) × IsOwn key text m

-- Which answer the reading of a body gives. Too long a body is no text; a text has its first fault; every other answer is of a message. Want of memory may come while a text is read.
abbrev pub HandleReads : List ℕ → Text → Result Reply Refused → Type 0
HandleReads key text (Err Broken) = Unit {0}
HandleReads key text (Err (Size n)) = (n ≡ length text) × (most_body < n)
HandleReads key text (Err Memory) = length text ≤ most_body
HandleReads key text (Err (Jws fault)) = (length text ≤ most_body) × (reading_fault key text ≡ Some (unheard.Jws fault))
HandleReads key text (Err Header) = (length text ≤ most_body) × (reading_fault key text ≡ Some unheard.Header)
HandleReads key text (Err (Body fault)) = (length text ≤ most_body) × (reading_fault key text ≡ Some (unheard.Body fault))
HandleReads key text (Err r) = (length text ≤ most_body) × IsRead key text
HandleReads key text (Ok reply) = (length text ≤ most_body) × IsRead key text

-- the gateway hears this message, and the message in the one entry of an update
abbrev pub IsHeardBy : GatewayState → Text → Message → Option Message → Type 0
IsHeardBy g text m e = (length text ≤ most_body) × ((setup : Setup) (xs : List Stored) → Holds g setup xs → IsOwn setup.key text m × IsEntryOf setup.key m.body e)

-- it hears a `recover`, whose answer is written after the due work
abbrev pub HearsRecover : GatewayState → Text → Type 0
HearsRecover g text = (m : Message) × IsRecover m.body × ((setup : Setup) (xs : List Stored) → Holds g setup xs → IsOwn setup.key text m)

-- ---- replies

abbrev pub text_in : Reply → Option Text
text_in (Says text) = Some text
text_in Nothing = None

abbrev pub reply_of : Result Reply Refused → Result (Option Text) Refused
reply_of (Ok reply) = Ok (text_in reply)
reply_of (Err r) = Err r

-- a call that replies nothing hands on whether it was refused
abbrev pub Forgets : Result (Option Text) Refused → Result (Unit {0}) Refused → Type 0
Forgets (Ok reply) (Ok done) = Unit {0}
Forgets (Ok reply) (Err r) = ⊥
Forgets (Err r) (Ok done) = ⊥
Forgets (Err r) (Err given) = given ≡ r

abbrev pub text_said : Result Text Refused → Result (Option Text) Refused
text_said (Ok text) = Ok (Some text)
text_said (Err r) = Err r

-- the refusal of a text that no message is heard from
abbrev pub unheard_as : Unheard → Refused
unheard_as (unheard.Jws fault) = Jws fault
unheard_as unheard.Header = Header
unheard_as (unheard.Body fault) = Body fault
unheard_as unheard.Memory = Memory
