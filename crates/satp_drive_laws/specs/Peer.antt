-- What the other gateway answers to the texts that are posted, over HTTP.
use Rattle.std.specs.Prelude.{◌≡◌, List, [], ◌∷◌, Option, Some, None, Result, Ok, Err}
use Rattle.satp_base.specs.declared.message.Message.{Message}
use Rattle.satp_http.specs.declared.responses.Answered.{Answered}
use Rattle.satp_phrases.specs.Phrases.{refusal_body}
use Rattle.satp_phrases.specs.Refusals.{refusal_words}
use Rattle.satp_points.specs.Answers.{refused_as}
use Rattle.satp_serve.specs.Codes.{refusal_code}
use Rattle.satp_sides.specs.Calls.{IsHeard, Refusal, run_of}
use Rattle.satp_sides.specs.Calls.Call.{Hears}
use Rattle.satp_sides.specs.Points.{Party, Side, Text, moved_by}

-- a reply, as it is answered over HTTP
abbrev pub IsAnswer : Option Text → Answered → Type 0
IsAnswer (Some reply) answer = (answer.code ≡ 200) × (answer.body ≡ reply)
IsAnswer None answer = answer.code ≡ 204

-- What a run answers, over HTTP: its reply, or its refusal by the code and the words. A run without an answer has none over HTTP either.
abbrev pub IsAnswerOf : Option (Result (Option Text) Refusal) → Answered → Type 0
IsAnswerOf (Some (Ok reply)) answer = IsAnswer reply answer
IsAnswerOf (Some (Err r)) answer = (answer.code ≡ refusal_code (refused_as r)) × (answer.body ≡ refusal_body (refusal_words (refused_as r)))
IsAnswerOf None answer = ⊥

-- The gateway answered each of these texts so, one after the other: where a text is a message's own, with what its run answers, whatever that is, and then it has the side after the run's
-- moves. Nothing is said of other texts. This holds of its side at the end.
abbrev pub PeerAnswers : Party → Side → List Text → List Answered → (Side → Type 0) → Type 0
PeerAnswers p side [] [] P = P side
PeerAnswers p side [] (answer ∷ answers) P = ⊥
PeerAnswers p side (t ∷ posted) [] P = ⊥
PeerAnswers p side (t ∷ posted) (answer ∷ answers) P =
    (m : Message) (e : Option Message) → IsHeard p.key (Hears m t e)
    → IsAnswerOf (run_of p side (Hears m t e)).answer answer × PeerAnswers p (moved_by side (run_of p side (Hears m t e)).moves) posted answers P

abbrev pub IsSide : Side → Side → Type 0
IsSide side now = now ≡ side
