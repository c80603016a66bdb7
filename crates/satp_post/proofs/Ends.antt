-- What was heard so far, and how it goes on and ends.
use Rattle.std.proofs.Common.{◌≡◌, ℕ, true, false, Bool, List, [], ◌∷◌, ◌++◌, refl, ap, ◌∙◌, sym, subst, Option, Some, None}
use Rattle.std.specs.Prelude.{Result, Ok, Err, IsErr, IsErrAnd, option_map}
use Rattle.std.proofs.lemmas.List.{append-nil}
use Rattle.satp_base.specs.Streams.{Rose}
use Rattle.satp_base.specs.Wires.{Traffic, exchanged, hears, says}
use Rattle.satp_http.specs.declared.fault.HttpFault.{HttpFault}
use Rattle.satp_http.specs.declared.fault.HttpFault.TheVariants as http
use Rattle.satp_http.specs.declared.responses.Answered.{Answered}
use Rattle.satp_http.specs.Feeds.{AnswerFeed, TakesAnswer}
use Rattle.satp_http.specs.Runs.{AnswerRun, AnswerTaken, Call, came, fed, took}
use Rattle.satp_http.specs.Written.{request_text}
use Rattle.satp_wires.proofs.Traffic.{exchanged_nothing, exchanged_twice}
use Rattle.satp_post.specs.declared.fault.PostFault.{PostFault}
use Rattle.satp_post.specs.declared.fault.PostFault.TheVariants as post
use Rattle.satp_post.specs.Posting.{Exchanged, Feeds, HearsAnswer, HearsMore, Posts, Tells, hearing}
use Rattle.satp_post.proofs.Hearings.{before_last, came_append, came_before, hearing_is, run_append}

-- these pieces were heard, each where no answer was whole
pub record SoFar (old feed : AnswerFeed) (told telling : Option Traffic) : Type 0 where
  pub pieces : List (List ℕ)
  pub runs : AnswerRun old (before_last pieces) feed
  pub told_is : telling ≡ option_map (exchanged (came (before_last pieces)) [] false) told

pub so_far_none : (old : AnswerFeed) (told : Option Traffic) → SoFar old old told told
so_far_none old told = record { pieces = []; runs = refl; told_is = exchanged_nothing told }

one_more : (pieces : List (List ℕ)) (piece : List ℕ) → before_last (pieces ++ piece ∷ []) ≡ before_last pieces ++ took (Ok None) ∷ fed piece ∷ []
one_more [] piece = refl
one_more (first ∷ pieces) piece = ap (λ (l : List (Call AnswerTaken)). took (Ok None) ∷ fed first ∷ l) (one_more pieces piece)

heard_then : (old later new : Option Traffic) (heard more : List ℕ) (ended : Bool) → later ≡ option_map (exchanged heard [] false) old → new ≡ option_map (exchanged more [] ended) later → new ≡ option_map (exchanged (heard ++ more) [] ended) old
heard_then old later new heard more ended before then = then ∙ ap (option_map (exchanged more [] ended)) before ∙ exchanged_twice heard more [] [] false ended old

pub so_far_more : (old feed middle new : AnswerFeed) (told telling later : Option Traffic) (piece : List ℕ) → SoFar old feed told telling → TakesAnswer feed middle (Ok None) → Feeds piece middle new telling later → SoFar old new told later
so_far_more old feed middle new told telling later piece s takes feeds =
    let calls = before_last s.pieces in
    let ran : AnswerRun old (calls ++ took (Ok None) ∷ fed piece ∷ []) new = run_append old feed new calls (took (Ok None) ∷ fed piece ∷ []) s.runs (middle, takes, feeds.grows) in
    let bytes : came calls ++ piece ≡ came (before_last (s.pieces ++ piece ∷ [])) =
    ap (λ (l : List ℕ). came calls ++ l) (sym (append-nil piece)) ∙ sym (came_append calls (took (Ok None) ∷ fed piece ∷ [])) ∙ ap came (sym (one_more s.pieces piece)) in
    record {
      pieces = s.pieces ++ piece ∷ [];
      runs = subst (λ (l : List (Call AnswerTaken)). AnswerRun old l new) (sym (one_more s.pieces piece)) ran;
      told_is = subst (λ (l : List ℕ). later ≡ option_map (exchanged l [] false) told) bytes (heard_then told telling later (came calls) piece false s.told_is feeds.told_is);
    }

-- and this is the last call
pub last : (old feed new : AnswerFeed) (told telling later : Option Traffic) (given : AnswerTaken) → SoFar old feed told telling → TakesAnswer feed new given → later ≡ telling → Exchanged [] old new told later given false
last old feed new told telling later given s takes same =
    let calls = before_last s.pieces in
    record {
      pieces = s.pieces;
      runs = subst (λ (l : List (Call AnswerTaken)). AnswerRun old l new) (sym (hearing_is s.pieces given)) (run_append old feed new calls (took given ∷ []) s.runs (new, takes, refl));
      told_is = same ∙ subst (λ (l : List ℕ). telling ≡ option_map (exchanged l [] false) told) (came_before s.pieces given) s.told_is;
    }

at_end : (old feed new : AnswerFeed) (told telling later : Option Traffic) → SoFar old feed told telling → TakesAnswer feed new (Ok None) → later ≡ option_map (hears [] true) telling → Exchanged [] old new told later (Ok None) true
at_end old feed new told telling later s takes ends =
    let calls = before_last s.pieces in
    let bytes : came calls ++ [] ≡ came (hearing s.pieces (Ok None)) = append-nil (came calls) ∙ came_before s.pieces (Ok None) in
    record {
      pieces = s.pieces;
      runs = subst (λ (l : List (Call AnswerTaken)). AnswerRun old l new) (sym (hearing_is s.pieces (Ok None))) (run_append old feed new calls (took (Ok None) ∷ []) s.runs (new, takes, refl));
      told_is = subst (λ (l : List ℕ). later ≡ option_map (exchanged l [] true) told) bytes (heard_then told telling later (came calls) [] true s.told_is ends);
    }

takes_still : (feed middle new : AnswerFeed) (given : AnswerTaken) → new ≡ middle → TakesAnswer feed middle given → TakesAnswer feed new given
takes_still feed middle new given same = subst (λ (f : AnswerFeed). TakesAnswer feed f given) (sym same)

pub more_fails : (old feed middle new : AnswerFeed) (told telling later : Option Traffic) (before between after : ℕ) (fault : PostFault)
    → SoFar old feed told telling → TakesAnswer feed middle (Ok None) → between ≡ before → HearsMore middle new telling later between after (Err fault) → HearsAnswer old new told later before after (Err fault)
more_fails old feed middle new told telling later before between after (post.Wire whole) s takes quiet fails =
    (fails.0, subst (λ (n : ℕ). Rose n after) quiet fails.1, last old feed new told telling later (Ok None) s (takes_still feed middle new (Ok None) fails.2 takes) fails.3)
more_fails old feed middle new told telling later before between after post.Early s takes quiet fails =
    (fails.0 ∙ quiet, at_end old feed new told telling later s (takes_still feed middle new (Ok None) fails.1 takes) fails.2)
more_fails old feed middle new told telling later before between after (post.NotHttp f) s takes quiet fails = absurd fails
more_fails old feed middle new told telling later before between after (post.Memory whole) s takes quiet fails = absurd fails

pub take_fails : (old feed new : AnswerFeed) (told telling : Option Traffic) (before after : ℕ) (f : HttpFault) (fault : PostFault)
    → SoFar old feed told telling → TakesAnswer feed new (Err f) → after ≡ before → Tells f fault → HearsAnswer old new told telling before after (Err fault)
take_fails old feed new told telling before after f (post.Wire whole) s takes quiet tells = absurd tells
take_fails old feed new told telling before after f post.Early s takes quiet tells = absurd tells
take_fails old feed new told telling before after f (post.NotHttp g) s takes quiet tells =
    (quiet, (λ memory. tells.0 (sym tells.1 ∙ memory)), last old feed new told telling telling (Err g) s (subst (λ (h : HttpFault). TakesAnswer feed new (Err h)) (sym tells.1) takes) refl)
take_fails old feed new told telling before after f (post.Memory whole) s takes quiet tells =
    (tells.1, quiet, last old feed new told telling telling (Err http.Memory) s (subst (λ (h : HttpFault). TakesAnswer feed new (Err h)) tells.0 takes) refl)

-- an error that is handed on
pub handed_on : (result : Result Answered PostFault) (fault : PostFault) → IsErr result × IsErrAnd result (λ (f : PostFault). f ≡ fault) → result ≡ Err fault
handed_on (Ok answered) fault is = let bad : false ≡ true = is.0 in cc
handed_on (Err f) fault is = ap Err is.1

-- ---- after a request

after_request : (request : List ℕ) (old new : AnswerFeed) (told said telling : Option Traffic) (given : AnswerTaken) (ended : Bool)
    → said ≡ option_map (says request) told → Exchanged [] old new said telling given ended → Exchanged request old new told telling given ended
after_request request old new told said telling given ended says_it e = record {
  pieces = e.pieces;
  runs = e.runs;
  told_is = e.told_is ∙ ap (option_map (exchanged (came (hearing e.pieces given)) [] ended)) says_it
      ∙ exchanged_twice [] (came (hearing e.pieces given)) request [] false ended told
      ∙ ap (λ (l : List ℕ). option_map (exchanged (came (hearing e.pieces given)) l ended) told) (append-nil request);
}

pub posts : (at body : List ℕ) (old new : AnswerFeed) (told said telling : Option Traffic) (before between after : ℕ) (result : Result Answered PostFault)
    → said ≡ option_map (says (request_text at body)) told → between ≡ before → HearsAnswer old new said telling between after result → Posts at body old new told telling before after result
posts at body old new told said telling before between after (Ok answered) says_it quiet heard =
    (heard.0 ∙ quiet, after_request (request_text at body) old new told said telling (Ok (Some answered)) false says_it heard.1)
posts at body old new told said telling before between after (Err (post.Wire true)) says_it quiet heard =
    (subst (λ (n : ℕ). Rose n after) quiet heard.1, after_request (request_text at body) old new told said telling (Ok None) false says_it heard.2)
posts at body old new told said telling before between after (Err (post.Wire false)) says_it quiet heard = let bad : false ≡ true = heard.0 in cc
posts at body old new told said telling before between after (Err post.Early) says_it quiet heard =
    (heard.0 ∙ quiet, after_request (request_text at body) old new told said telling (Ok None) true says_it heard.1)
posts at body old new told said telling before between after (Err (post.NotHttp f)) says_it quiet heard =
    (heard.0 ∙ quiet, heard.1, after_request (request_text at body) old new told said telling (Err f) false says_it heard.2)
posts at body old new told said telling before between after (Err (post.Memory true)) says_it quiet heard =
    (heard.1 ∙ quiet, after_request (request_text at body) old new told said telling (Err http.Memory) false says_it heard.2)
posts at body old new told said telling before between after (Err (post.Memory false)) says_it quiet heard = let bad : false ≡ true = heard.0 in cc
