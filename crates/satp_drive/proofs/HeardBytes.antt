-- The answers that were heard, in the bytes that were heard.
use Rattle.std.proofs.Common.{◌≡◌, ℕ, List, [], ◌∷◌, ◌++◌, refl, ap, subst, ◌∙◌, Some}
use Rattle.std.specs.Prelude.{Ok}
use Rattle.satp_http.specs.HttpText.{HttpAnswers}
use Rattle.satp_http.specs.Runs.{AnswerTaken, Call, answer_given, answers_taken, came}
use Rattle.satp_http.specs.declared.responses.Answered.{Answered}
use Rattle.satp_post.specs.Laws.{HeardWhole}
use Rattle.satp_post.specs.Posting.{hearing}
use Rattle.satp_post.proofs.Hearings.{answers_are_heard, last_hearing_ends}
use Rattle.satp_drive.specs.Conversing.{Hearings}
use Rattle.satp_drive.specs.Laws.{AnswersAreHeard, LastIsUnanswered}

taken_first : (pieces : List (List ℕ)) (last : AnswerTaken) (later : List (Call AnswerTaken)) → answers_taken (hearing pieces last ++ later) ≡ answer_given last ++ answers_taken later
taken_first [] last later = refl
taken_first (piece ∷ pieces) last later = taken_first pieces last later

taken_are : (calls : List (Call AnswerTaken)) (answers : List Answered) → Hearings calls answers → answers_taken calls ≡ answers
taken_are calls [] is = ap answers_taken is
taken_are calls (answer ∷ answers) is =
    ap answers_taken (is.2) ∙ taken_first (is.0) (Ok (Some answer)) (is.1) ∙ ap (λ (l : List Answered). answer ∷ l) (taken_are (is.1) answers (is.3))

pub drives_hear_answers : AnswersAreHeard
drives_hear_answers at posted answers feed told telling x =
    subst (λ (l : List Answered). HeardWhole l (came x.calls) feed.held) (taken_are x.calls answers x.hearings) (answers_are_heard x.calls feed x.runs)

pub last_unanswered : LastIsUnanswered
last_unanswered at posted answers feed left told telling pieces last end x runs says =
    subst (λ (l : List Answered). HttpAnswers l end (came x.calls ++ came (hearing pieces last))) (taken_are x.calls answers x.hearings)
    (last_hearing_ends x.calls pieces last end feed left x.runs runs says)
