-- One call on the buffer.
use Rattle.std.proofs.Common.{◌<◌, ℕ, List, length, inl, inr}
use Rattle.std.specs.Prelude.{Result, Ok, Err}
use Rattle.satp_http.specs.declared.requests.Asked.{Asked}
use Rattle.satp_http.specs.declared.requests.Taken.TheVariants.{Request}
use Rattle.satp_http.specs.Feeds.{RequestFeed, TakesRequest}
use Rattle.satp_http.specs.Heads.{room}
use Rattle.satp_serve.specs.declared.responder.Halt.{Halt}
use Rattle.satp_serve.specs.declared.responder.Replied.{Replied}
use Rattle.satp_serve.specs.declared.turn.ServeFault.{ServeFault}
use Rattle.satp_serve.specs.declared.turn.Step.{Step}
use Rattle.satp_serve.specs.declared.turn.Step.TheVariants as step
use Rattle.satp_serve.specs.Exchange.{Talk}
use Rattle.satp_serve.specs.Feeding.{AnswersOne, AwaitsMore, Steps}
use Rattle.satp_serve.proofs.Room.{leaves_room, request_some}

-- a request that was taken was handed over
pub request_steps : {G S : Type 0} (replies : G → S → List ℕ → Result Replied Halt → G → S → Type 0) (old new : RequestFeed) (t u : Talk G S) (asked : Asked) (result : Result Step ServeFault)
    → TakesRequest old new (Ok (Request asked)) → AnswersOne replies t asked u result → Steps replies old new t u result
request_steps replies old new t u asked (Ok step.Waits) takes answers = absurd answers
request_steps replies old new t u asked (Ok step.Answered) takes answers =
    (record { given = Ok (Request asked); takes = takes; says = answers }, request_some old.held new.held takes.2 takes.3.1)
request_steps replies old new t u asked (Ok step.Closes) takes answers = record { given = Ok (Request asked); takes = takes; says = answers }
request_steps replies old new t u asked (Err fault) takes answers = record { given = Ok (Request asked); left = new; takes = takes; fails = answers }

-- where more is asked for there is room for it
pub awaits_room : (feed : RequestFeed) → AwaitsMore feed → length feed.held < room
awaits_room feed awaits =
    leaves_room feed.held (elim (awaits.2) [ inl part ↦ inl part | inr waits ↦ elim waits [ inl a ↦ inr (a.0, a.1) | inr a ↦ inr (a.0.0, a.0.1) ] ])
