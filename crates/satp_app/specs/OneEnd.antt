-- Where all is told, a command that reads a text or a journal ends in one way, and so does one that sets a gateway up.
use Rattle.std.specs.Prelude.{◌≡◌, ◌≢◌, ℕ, ◌<◌, ◌≤◌, ◌^◌, ◌-◌, List, length, Some}
use Rattle.satp_base.specs.Calls.{Told}
use Rattle.satp_base.specs.declared.name.Name.{Name}
use Rattle.satp_app.specs.Answer.{answer_says}
use Rattle.satp_app.specs.Check.{check_says, signed_says}
use Rattle.satp_app.specs.Init.{InitRule, Order}
use Rattle.satp_app.specs.Replay.{journal_form, replay_says}
use Rattle.satp_outcome.specs.Outside.{OutsideState, StreamsState}
use Rattle.satp_outcome.specs.Streams.{Form, StreamRule}
use Rattle.satp_outcome.specs.Texts.{text_form}
use Rattle.satp_outcome.specs.declared.outcome.Outcome.{Outcome}
use Rattle.satp_outcome.specs.declared.outcome.Outcome.TheVariants.{Memory}
use Rattle.satp_outcome.specs.declared.reply.Reply.{Reply}

-- a text that isn't too long has one reply
abbrev pub OneReply : Form → (List ℕ → Reply → Type 0) → Type 0
OneReply form says = (text : List ℕ) (r s : Reply) → length text ≤ form.longest → says text r → says text s → r ≡ s

-- the input is told, and its count of faults doesn't stand at its end
pub record TellsInput (b : StreamsState) : Type 0 where
  pub bytes : List ℕ
  pub told : b.input.left ≡ Some bytes
  pub below : b.input.faults < 2 ^ 64 - 1

-- Two ends of a command that go with the same states, before and after, are one, but for want of memory.
abbrev pub OneEnd : Form → (List ℕ → Reply → Type 0) → Type 0
OneEnd form says =
    (b a : StreamsState) → TellsInput b → (o p : Outcome) → o ≢ Memory → p ≢ Memory → StreamRule form says b a o → StreamRule form says b a p → o ≡ p

abbrev pub OneAnswer : Type 0
OneAnswer = (name : Name) → OneEnd text_form (answer_says name)

abbrev pub OneCheck : Type 0
OneCheck = OneEnd text_form check_says

-- a check under a key, where a text has one reply
abbrev pub OneSignedCheck : Type 0
OneSignedCheck = (key : List ℕ) → OneReply text_form (signed_says key) → OneEnd text_form (signed_says key)

abbrev pub OneReplay : Type 0
OneReplay = OneEnd journal_form replay_says

-- input and site are told, and neither count of faults stands at its end
pub record TellsAll (b : OutsideState) : Type 0 where
  pub input : TellsInput b.streams
  pub calls : Told
  pub told : b.site.told ≡ Some calls
  pub below : b.site.faults < 2 ^ 64 - 1

-- two ends of a set-up that go with the same states are one, but for want of memory
abbrev pub OneInit : Type 0
OneInit = (o : Order) (b a : OutsideState) → TellsAll b → (p q : Outcome) → p ≢ Memory → q ≢ Memory → InitRule o b a p → InitRule o b a q → p ≡ q
