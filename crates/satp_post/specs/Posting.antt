-- What it does to a wire that a text is posted, and its answer heard.
use Rattle.std.specs.Prelude.{◌≡◌, ◌≢◌, ◌≤◌, ℕ, Bool, true, false, List, [], ◌∷◌, ◌++◌, length, Option, Some, None, option_map, Result, Ok, Err}
use Rattle.satp_base.specs.Streams.{Rose}
use Rattle.satp_base.specs.Wires.{Traffic, exchanged, hears}
use Rattle.satp_http.specs.declared.fault.HttpFault.{HttpFault}
use Rattle.satp_http.specs.declared.fault.HttpFault.TheVariants as http
use Rattle.satp_http.specs.declared.responses.Answered.{Answered}
use Rattle.satp_http.specs.Feeds.{AnswerFeed}
use Rattle.satp_http.specs.Heads.{room}
use Rattle.satp_http.specs.Runs.{AnswerTaken, Call, fed, took, came, AnswerRun}
use Rattle.satp_http.specs.Written.{request_text}
use Rattle.satp_post.specs.declared.fault.PostFault.{PostFault}
use Rattle.satp_post.specs.declared.fault.PostFault.TheVariants as post
use Rattle.satp_wires.specs.Saying.{SaysPart}

-- The calls that hear one answer: a piece is heard wherever no answer is whole, and the last call gives this.
abbrev pub hearing : List (List ℕ) → AnswerTaken → List (Call AnswerTaken)
hearing [] last = took last ∷ []
hearing (piece ∷ pieces) last = took (Ok None) ∷ fed piece ∷ hearing pieces last

-- These bytes were said. Then pieces were heard, each where no answer was whole, and the connection ended or didn't.
pub record Exchanged (said : List ℕ) (old new : AnswerFeed) (told telling : Option Traffic) (last : AnswerTaken) (ended : Bool) : Type 0 where
  pub pieces : List (List ℕ)
  pub runs : AnswerRun old (hearing pieces last) new
  pub told_is : telling ≡ option_map (exchanged (came (hearing pieces last)) said ended) told

-- ---- one answer, after a request

-- The count stands but at `Wire`. Where not all of the request was said nothing is heard. At `Wire` after the request a read failed where no answer was whole, and at
-- `Memory` after it an answer is whole and wasn't taken.
abbrev pub Posts : List ℕ → List ℕ → AnswerFeed → AnswerFeed → Option Traffic → Option Traffic → ℕ → ℕ → Result Answered PostFault → Type 0
Posts at body old new told telling before after (Ok answered) =
    (after ≡ before) × Exchanged (request_text at body) old new told telling (Ok (Some answered)) false
Posts at body old new told telling before after (Err (post.Wire false)) =
    Rose before after × (new ≡ old) × SaysPart (request_text at body) told telling
Posts at body old new told telling before after (Err (post.Wire true)) =
    Rose before after × Exchanged (request_text at body) old new told telling (Ok None) false
Posts at body old new told telling before after (Err post.Early) =
    (after ≡ before) × Exchanged (request_text at body) old new told telling (Ok None) true
Posts at body old new told telling before after (Err (post.NotHttp fault)) =
    (after ≡ before) × (fault ≢ http.Memory) × Exchanged (request_text at body) old new told telling (Err fault) false
Posts at body old new told telling before after (Err (post.Memory false)) = (after ≡ before) × (new ≡ old) × (telling ≡ told)
Posts at body old new told telling before after (Err (post.Memory true)) =
    (after ≡ before) × Exchanged (request_text at body) old new told telling (Err http.Memory) false

-- ---- steps on the way

-- what is answered where `take` gave this fault
abbrev pub Tells : HttpFault → PostFault → Type 0
Tells f (post.Wire said) = ⊥
Tells f post.Early = ⊥
Tells f (post.NotHttp fault) = (f ≢ http.Memory) × (fault ≡ f)
Tells f (post.Memory said) = (f ≡ http.Memory) × (said ≡ true)

-- an answer is heard, and nothing said
abbrev pub HearsAnswer : AnswerFeed → AnswerFeed → Option Traffic → Option Traffic → ℕ → ℕ → Result Answered PostFault → Type 0
HearsAnswer old new told telling before after (Ok answered) = (after ≡ before) × Exchanged [] old new told telling (Ok (Some answered)) false
HearsAnswer old new told telling before after (Err (post.Wire whole)) = (whole ≡ true) × Rose before after × Exchanged [] old new told telling (Ok None) false
HearsAnswer old new told telling before after (Err post.Early) = (after ≡ before) × Exchanged [] old new told telling (Ok None) true
HearsAnswer old new told telling before after (Err (post.NotHttp fault)) = (after ≡ before) × (fault ≢ http.Memory) × Exchanged [] old new told telling (Err fault) false
HearsAnswer old new told telling before after (Err (post.Memory whole)) = (whole ≡ true) × (after ≡ before) × Exchanged [] old new told telling (Err http.Memory) false

-- a piece that isn't empty was heard and fits
pub record Feeds (piece : List ℕ) (old new : AnswerFeed) (told telling : Option Traffic) : Type 0 where
  pub some : piece ≢ []
  pub grows : new ≡ record old { held = old.held ++ piece }
  pub fits : length new.held ≤ room
  pub told_is : telling ≡ option_map (hears piece false) told

abbrev pub HearsMore : AnswerFeed → AnswerFeed → Option Traffic → Option Traffic → ℕ → ℕ → Result (Unit {0}) PostFault → Type 0
HearsMore old new told telling before after (Ok done) = (after ≡ before) × (piece : List ℕ) × Feeds piece old new told telling
HearsMore old new told telling before after (Err (post.Wire whole)) = (whole ≡ true) × Rose before after × (new ≡ old) × (telling ≡ told)
HearsMore old new told telling before after (Err post.Early) = (after ≡ before) × (new ≡ old) × (telling ≡ option_map (hears [] true) told)
HearsMore old new told telling before after (Err (post.NotHttp fault)) = ⊥
HearsMore old new told telling before after (Err (post.Memory whole)) = ⊥
