-- What a gateway answers to the body of a request, whatever its site is.
use Rattle.std.specs.Prelude.{◌≡◌, ◌≢◌, ◌≤◌, ◌⊎◌, ℕ, false, List, [], Option, Result, Ok, Err, IfErr, OnOk}
use Rattle.satp_base.specs.Calls.{Told}
use Rattle.satp_base.specs.Money.{Book}
use Rattle.satp_base.specs.Streams.{Rose}
use Rattle.satp_base.specs.declared.message.Message.{Message}
use Rattle.satp_gateway.specs.Handling.{HandleReads, HearsRecover, IsHeardBy, reply_of}
use Rattle.satp_gateway.specs.declared.handle.Reply.{Reply}
use Rattle.satp_gateway.specs.declared.handle.Reply.TheVariants as reply
use Rattle.satp_phrases.specs.Phrases.{refusal_body}
use Rattle.satp_phrases.specs.Refusals.{refusal_words}
use Rattle.satp_points.specs.Answers.{Answers, Breaking, Unchanged}
use Rattle.satp_points.specs.States.{GateWithin, GatewayState, Holds, Tells, is_broken, tells}
use Rattle.satp_points.specs.declared.fault.Refused.{Refused}
use Rattle.satp_points.specs.declared.fault.Refused.TheVariants as refused
use Rattle.satp_records.specs.declared.stored.Setup.{Setup}
use Rattle.satp_sides.specs.Calls.{Hears}
use Rattle.satp_sides.specs.Points.{Stored}
use Rattle.satp_serve.specs.Codes.{refusal_code}
use Rattle.satp_serve.specs.declared.responder.Halt.{Halt}
use Rattle.satp_serve.specs.declared.responder.Halt.TheVariants as halt
use Rattle.satp_serve.specs.declared.responder.Replied.{Replied}

-- ---- a site

-- what a site tells, and its count of faults
pub record SiteView : Type 0 where
  pub tells : Tells
  pub faults : ℕ

abbrev pub site_view : {S : Type 0} → (S → Option Told) → (S → Option Book) → (S → ℕ) → S → SiteView
site_view told book faults s = record { tells = tells (told s) (book s); faults = faults s }

-- ---- what is answered

abbrev pub answer : ℕ → List ℕ → Replied
answer code body = record { code = code; body = body }

-- this answer, unless no memory is found for it
abbrev pub AnswersWith : Replied → Result Replied Halt → Type 0
AnswersWith replied result = (result ≡ Ok replied) ⊎ (result ≡ Err halt.Memory)

-- A text is answered as it is, and a reply of nothing by no bytes; a refusal by its code and its words. A failure of the site and want of memory have no answer of their own.
abbrev pub ReplyAnswers : Result Reply Refused → Result Replied Halt → Type 0
ReplyAnswers (Ok (reply.Message text)) result = result ≡ Ok (answer 200 text)
ReplyAnswers (Ok reply.Nothing) result = AnswersWith (answer 204 []) result
ReplyAnswers (Err refused.Site) result = result ≡ Err halt.Site
ReplyAnswers (Err refused.Memory) result = result ≡ Err halt.Memory
ReplyAnswers (Err r) result = AnswersWith (answer (refusal_code r) (refusal_body (refusal_words r))) result

-- ---- a body that was handed over

-- The gateway handled the body, and this is the answer to its reply: all that is said of handling a body holds of that reply.
pub record GatewayReplies (old : GatewayState) (before : SiteView) (body : List ℕ) (result : Result Replied Halt) (new : GatewayState) (after : SiteView) : Type 0 where
  pub handled : Result Reply Refused
  pub answered : ReplyAnswers handled result
  pub read : (setup : Setup) (xs : List Stored) → Holds old setup xs → HandleReads setup.key body handled
  pub answers : (m : Message) (e : Option Message) → IsHeardBy old body m e → Answers (Hears m body e) old new before.tells after.tells (reply_of handled)
  pub unchanged : Unchanged (HearsRecover old body) old new before.tells after.tells (reply_of handled)
  pub breaking : Breaking old new (reply_of handled)
  pub within : is_broken new ≡ false → GateWithin new after.tells.told
  pub later : before.faults ≤ after.faults
  pub cause : IfErr handled (λ fault. fault ≡ refused.Site → Rose before.faults after.faults)
  pub kept : OnOk handled (after.faults ≡ before.faults)
  pub still : IfErr handled (λ fault. fault ≢ refused.Site → after.faults ≡ before.faults)

-- the same at a site, which goes on beside what it tells
abbrev pub RepliesAt : {S : Type 0} → (S → SiteView) → (S → S → Type 0) → GatewayState → S → List ℕ → Result Replied Halt → GatewayState → S → Type 0
RepliesAt view beside g s body result h t = GatewayReplies g (view s) body result h (view t) × beside s t

-- the gateway can be asked at the site
abbrev pub IsWithin : GatewayState → Option Told → Type 0
IsWithin g told = is_broken g ≡ false → GateWithin g told
