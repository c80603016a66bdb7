-- What a gateway at a site is asked, by its own operator and by texts of its peer, and what its contract says of each.
use Rattle.std.specs.Prelude.{◌≡◌, ◌⊎◌, List, [], ◌∷◌, ◌++◌, map, Option, Result, Ok, Err}
use Rattle.satp_base.specs.declared.message.Message.{Message}
use Rattle.satp_gateway.specs.Handling.{HandleReads, HearsRecover, IsHeardBy, reply_of}
use Rattle.satp_gateway.specs.declared.handle.Reply.{Reply}
use Rattle.satp_points.specs.Answers.{Answers, Breaking, Unchanged}
use Rattle.satp_points.specs.States.{GatewayState, Holds, Tells}
use Rattle.satp_points.specs.declared.fault.Refused.{Refused}
use Rattle.satp_points.specs.declared.fault.Refused.TheVariants.{Memory, Site}
use Rattle.satp_records.specs.declared.stored.Setup.{Setup}
use Rattle.satp_sides.specs.Calls.{Call, Hears}
use Rattle.satp_sides.specs.Points.{Stored, Text}

pub data Asked : Type 0 where
  -- a call of its operator
  Operates : Call → Asked
  -- a body that came, whatever it is
  Handles : Text → Asked

-- a body was handled so
pub record Handled (text : Text) (old new : GatewayState) (before site : Tells) (result : Result Reply Refused) : Type 0 where
  pub read : (setup : Setup) (xs : List Stored) → Holds old setup xs → HandleReads setup.key text result
  pub answers : (m : Message) (e : Option Message) → IsHeardBy old text m e → Answers (Hears m text e) old new before site (reply_of result)
  pub unchanged : Unchanged (HearsRecover old text) old new before site (reply_of result)
  pub breaking : Breaking old new (reply_of result)

-- it was asked this, and answered so
abbrev pub AnswersTo : Asked → GatewayState → GatewayState → Tells → Tells → Result (Option Text) Refused → Type 0
AnswersTo (Operates call) old new before site result = Answers call old new before site result
AnswersTo (Handles text) old new before site result = (given : Result Reply Refused) × (result ≡ reply_of given) × Handled text old new before site given

-- It was answered, or refused by a test: no call on the site failed, and memory was found.
abbrev pub IsAnswered : Result (Option Text) Refused → Type 0
IsAnswered (Ok reply) = Unit {0}
IsAnswered (Err Site) = ⊥
IsAnswered (Err Memory) = ⊥
IsAnswered (Err r) = Unit {0}

-- what was asked, and the answer
pub record Made : Type 0 where
  pub asked : Asked
  pub result : Result (Option Text) Refused

-- it was asked all this, one after the other, and each was answered
abbrev pub AnswersAll : List Made → GatewayState → GatewayState → Tells → Tells → Type 0
AnswersAll [] old new before site = (new ≡ old) × (site ≡ before)
AnswersAll (made ∷ more) old new before site =
    (mid : GatewayState) × (between : Tells) × IsAnswered made.result × AnswersTo made.asked old mid before between made.result × AnswersAll more mid new between site

-- It was asked all this, one after the other. Each was answered, or the last one wasn't: a call on the site failed, or no memory was found.
pub data AsksAll (asked : List Asked) (old new : GatewayState) (before site : Tells) : Type 0 where
  Answered : (made : List Made) → map (λ (m : Made). m.asked) made ≡ asked → AnswersAll made old new before site → AsksAll asked old new before site
  Fails : (made : List Made) (last : Asked) (fault : Refused) (mid : GatewayState) (between : Tells) → map (λ (m : Made). m.asked) made ++ last ∷ [] ≡ asked → (fault ≡ Site) ⊎ (fault ≡ Memory)
      → AnswersAll made old mid before between → AnswersTo last mid new between site (Err fault) → AsksAll asked old new before site
