-- What a served connection asks of its gateway: by the calls on its buffer.
use Rattle.std.proofs.Common.{◌≡◌, ◌≢◌, ◌⊎◌, ◌+◌, inl, inr, ℕ, Bool, true, List, [], ◌∷◌, ◌++◌, length, map, Option, Result, Ok, Err, refl, sym, ap, subst, ◌∙◌, arith, append-nil, length-append}
use Rattle.std.proofs.lemmas.List.{map-append}
use Rattle.satp_gateway.specs.Handling.{reply_of, text_in}
use Rattle.satp_gateway.specs.declared.handle.Reply.{Reply}
use Rattle.satp_http.specs.declared.requests.Asked.{Asked}
use Rattle.satp_http.specs.declared.requests.Taken.TheVariants.{More, Continue, Request}
use Rattle.satp_http.specs.Feeds.{RequestFeed, TakesRequest, no_requests}
use Rattle.satp_http.specs.Runs.{Call, RequestRun, RequestTaken, came, fed, requests_taken, took}
use Rattle.satp_points.specs.States.{GatewayState}
use Rattle.satp_points.specs.declared.fault.Refused.{Refused}
use Rattle.satp_points.specs.declared.fault.Refused.TheVariants as refused
use Rattle.satp_sides.specs.Points.{Text}
use Rattle.satp_runs.specs.Asking as asking
use Rattle.satp_runs.specs.Asking.{AnswersTo, AsksAll, IsAnswered}
use Rattle.satp_runs.specs.Asking.Asked.{Handles}
use Rattle.satp_runs.proofs.Asks.{is-answered, last-failed, none-asked, one-more}
use Rattle.satp_serve.specs.Connections.{Closes, EndsAt, Stops, Waits}
use Rattle.satp_serve.specs.Exchange.{Answers, Serves, Talk, Talks, handed, silent, spoken}
use Rattle.satp_serve.specs.Feeding.{Fails, halt_answer, standing}
use Rattle.satp_serve.specs.GatewayReplies.{GatewayReplies, ReplyAnswers, SiteView}
use Rattle.satp_serve.specs.declared.connection.ConnectionEnd.{ConnectionEnd}
use Rattle.satp_serve.specs.declared.connection.ConnectionEnd.TheVariants as end
use Rattle.satp_serve.specs.declared.responder.Halt.{Halt}
use Rattle.satp_serve.specs.declared.responder.Halt.TheVariants as halt
use Rattle.satp_serve.specs.declared.responder.Replied.{Replied}
use Rattle.satp_serve.specs.declared.turn.ServeFault.{ServeFault}
use Rattle.satp_serve_laws.specs.Asks.{AsksBodies, ConnectionsAsk}

abbrev GatewayTalk : Type 0
GatewayTalk = Talk GatewayState SiteView

abbrev asked_of : List (Call RequestTaken) → List asking.Asked
asked_of calls = map (λ (asked : Asked). Handles asked.body) (requests_taken calls)

-- ---- one body

-- the gateway handled it
handled-so : (g h : GatewayState) (s t : SiteView) (body : List ℕ) (result : Result Replied Halt) (r : GatewayReplies g s body result h t) → AnswersTo (Handles body) g h s.tells t.tells (reply_of r.handled)
handled-so g h s t body result r = (r.handled, refl, record { read = r.read; answers = r.answers; unchanged = r.unchanged; breaking = r.breaking })

-- an answer is one of the gateway's
answered-so : (handled : Result Reply Refused) (result : Result Replied Halt) → ReplyAnswers handled result → result ≢ Err halt.Site → result ≢ Err halt.Memory → IsAnswered (reply_of handled)
answered-so (Ok given) result answers site memory = tt
answered-so (Err r) result answers site memory = by (is-answered r)
  where
    by : ((r ≡ refused.Site) ⊎ (r ≡ refused.Memory) ⊎ IsAnswered (Err r)) → IsAnswered (Err r)
    by (inl is) = absurd (site (subst (λ (x : Refused). ReplyAnswers (Err x) result) is answers))
    by (inr (inl is)) = absurd (memory (subst (λ (x : Refused). ReplyAnswers (Err x) result) is answers))
    by (inr (inr ok)) = ok

no-site : (t : GatewayTalk) (close : Bool) (result : Result Replied Halt) (u : GatewayTalk) → Answers t close result u → result ≢ Err halt.Site
no-site t close (Ok replied) u answers is = cc is
no-site t close (Err halt.Cut) u answers is = cc is
no-site t close (Err halt.Site) u answers is = answers
no-site t close (Err halt.Memory) u answers is = answers

no-memory : (t : GatewayTalk) (close : Bool) (result : Result Replied Halt) (u : GatewayTalk) → Answers t close result u → result ≢ Err halt.Memory
no-memory t close (Ok replied) u answers is = cc is
no-memory t close (Err halt.Cut) u answers is = cc is
no-memory t close (Err halt.Site) u answers is = answers
no-memory t close (Err halt.Memory) u answers is = answers

counted : (t : GatewayTalk) (close : Bool) (result : Result Replied Halt) (u : GatewayTalk) → Answers (handed t u.responder u.site) close result u → u.count ≡ t.count + 1
counted t close (Ok replied) u answers = ap (λ (x : GatewayTalk). x.count) answers
counted t close (Err halt.Cut) u answers = ap (λ (x : GatewayTalk). x.count) answers
counted t close (Err halt.Site) u answers = absurd answers
counted t close (Err halt.Memory) u answers = absurd answers

-- ---- calls on the buffer

module _ (new : GatewayState) (site : SiteView) where
  -- it was asked these from this standing on
  abbrev Asks : List asking.Asked → GatewayTalk → Type 0
  Asks asked t = AsksAll asked t.responder new t.site.tells site.tells

  same-standing : (asked : List asking.Asked) (t u : GatewayTalk) → u.responder ≡ t.responder → u.site ≡ t.site → Asks asked u → Asks asked t
  same-standing asked t u same there asks = subst (λ (g : GatewayState). AsksAll asked g new t.site.tells site.tells) same (subst (λ (s : SiteView). AsksAll asked u.responder new s.tells site.tells) there asks)

  along : (calls : List (Call RequestTaken)) (t u : GatewayTalk) → Talks GatewayReplies t calls u → (more : List asking.Asked) → Asks more u → Asks (asked_of calls ++ more) t
  along [] t u talks more asks = same-standing more t u (ap (λ (x : GatewayTalk). x.responder) talks) (ap (λ (x : GatewayTalk). x.site) talks) asks
  along (fed piece ∷ calls) t u talks more asks = along calls t u talks more asks
  along (took (Ok More) ∷ calls) t u talks more asks =
      same-standing (asked_of calls ++ more) t talks.1 (ap (λ (x : GatewayTalk). x.responder) talks.2) (ap (λ (x : GatewayTalk). x.site) talks.2) (along calls talks.1 u talks.3 more asks)
  along (took (Ok Continue) ∷ calls) t u talks more asks =
      same-standing (asked_of calls ++ more) t talks.1 (ap (λ (x : GatewayTalk). x.responder) talks.2) (ap (λ (x : GatewayTalk). x.site) talks.2) (along calls talks.1 u talks.3 more asks)
  along (took (Ok (Request asked)) ∷ calls) t u talks more asks =
      let says = talks.2 in
      let ok = answered-so says.replied.handled says.result says.replied.answered (no-site (handed t talks.1.responder talks.1.site) _ says.result talks.1 says.answers) (no-memory (handed t talks.1.responder talks.1.site) _ says.result talks.1 says.answers) in
      one-more (Handles asked.body) (reply_of says.replied.handled) (asked_of calls ++ more) t.responder talks.1.responder new t.site.tells talks.1.site.tells site.tells ok
      (handled-so t.responder talks.1.responder t.site talks.1.site asked.body says.result says.replied) (along calls talks.1 u talks.3 more asks)
  along (took (Err fault) ∷ calls) t u talks more asks =
      same-standing (asked_of calls ++ more) t talks.1 (ap (λ (x : GatewayTalk). x.responder) talks.2.1) (ap (λ (x : GatewayTalk). x.site) talks.2.1) (along calls talks.1 u talks.3 more asks)

counts : (calls : List (Call RequestTaken)) (t u : GatewayTalk) → Talks GatewayReplies t calls u → u.count ≡ t.count + length (requests_taken calls)
counts [] t u talks = ap (λ (x : GatewayTalk). x.count) talks ∙ omega arith
counts (fed piece ∷ calls) t u talks = counts calls t u talks
counts (took (Ok More) ∷ calls) t u talks = counts calls talks.1 u talks.3 ∙ ap (λ (x : GatewayTalk). x.count + length (requests_taken calls)) talks.2
counts (took (Ok Continue) ∷ calls) t u talks = counts calls talks.1 u talks.3 ∙ ap (λ (x : GatewayTalk). x.count + length (requests_taken calls)) talks.2
counts (took (Ok (Request asked)) ∷ calls) t u talks =
    let one = counted t _ talks.2.result talks.1 talks.2.answers in
    let rest = counts calls talks.1 u talks.3 in
    omega (arith, one, rest)
counts (took (Err fault) ∷ calls) t u talks = counts calls talks.1 u talks.3 ∙ ap (λ (x : GatewayTalk). x.count + length (requests_taken calls)) talks.2.1

-- ---- one more call on the buffer

run-on : (calls : List (Call RequestTaken)) (old feed left : RequestFeed) (given : RequestTaken) → RequestRun old calls feed → TakesRequest feed left given → RequestRun old (calls ++ took given ∷ []) left
run-on [] old feed left given runs takes = (left, subst (λ (x : RequestFeed). TakesRequest x left given) runs takes, refl)
run-on (fed piece ∷ calls) old feed left given runs takes = run-on calls (record old { held = old.held ++ piece }) feed left given runs takes
run-on (took first ∷ calls) old feed left given (middle, first-takes, runs) takes = (middle, first-takes, run-on calls middle feed left given runs takes)

came-on : (calls : List (Call RequestTaken)) (given : RequestTaken) → came (calls ++ took given ∷ []) ≡ came calls
came-on [] given = refl
came-on (fed piece ∷ calls) given = ap (λ (x : List ℕ). piece ++ x) (came-on calls given)
came-on (took first ∷ calls) given = came-on calls given

taken-on : (calls : List (Call RequestTaken)) (given : RequestTaken) → requests_taken (calls ++ took given ∷ []) ≡ requests_taken calls ++ requests_taken (took given ∷ [])
taken-on [] given = refl
taken-on (fed piece ∷ calls) given = taken-on calls given
taken-on (took (Ok More) ∷ calls) given = taken-on calls given
taken-on (took (Ok Continue) ∷ calls) given = taken-on calls given
taken-on (took (Ok (Request asked)) ∷ calls) given = ap (λ (x : List Asked). asked ∷ x) (taken-on calls given)
taken-on (took (Err fault) ∷ calls) given = taken-on calls given

-- ---- a connection

-- what was said last changes neither the gateway nor its site
abbrev SaysLast : ServeFault → GatewayTalk → GatewayTalk → Type 0
SaysLast fault v u = (u ≡ spoken v (halt_answer fault) true) ⊎ (u ≡ record v { closed = true })

responder-of : (fault : ServeFault) (v u : GatewayTalk) → SaysLast fault v u → v.responder ≡ u.responder
responder-of fault v u (inl is) = sym (ap (λ (x : GatewayTalk). x.responder) is)
responder-of fault v u (inr is) = sym (ap (λ (x : GatewayTalk). x.responder) is)

site-of : (fault : ServeFault) (v u : GatewayTalk) → SaysLast fault v u → v.site ≡ u.site
site-of fault v u (inl is) = sym (ap (λ (x : GatewayTalk). x.site) is)
site-of fault v u (inr is) = sym (ap (λ (x : GatewayTalk). x.site) is)

count-of : (fault : ServeFault) (v u : GatewayTalk) → SaysLast fault v u → v.count ≡ u.count
count-of fault v u (inl is) = sym (ap (λ (x : GatewayTalk). x.count) is)
count-of fault v u (inr is) = sym (ap (λ (x : GatewayTalk). x.count) is)

module _ (g h : GatewayState) (s t : SiteView) (requests : ℕ) (heard : List ℕ) where
  whole-serves : (u : GatewayTalk) → u.responder ≡ h → u.site ≡ t → u.count ≡ requests → (feed : RequestFeed) (front rest : List ℕ) → heard ≡ front ++ rest → Serves GatewayReplies no_requests feed (silent g s) u front → AsksBodies heard requests g h s t
  whole-serves u same there count feed front rest cut serves =
      let none : AsksAll [] u.responder h u.site.tells t.tells = none-asked u.responder h u.site.tells t.tells (sym same) (sym (ap (λ (x : SiteView). x.tells) there)) in
      record {
        calls = serves.calls;
        left = feed;
        runs = serves.runs;
        rest = rest;
        cut = cut ∙ ap (λ (x : List ℕ). x ++ rest) (sym serves.bytes_are);
        count = (let all = counts serves.calls (silent g s) u serves.talks in omega (arith, all, count));
        asks = subst (λ (l : List asking.Asked). AsksAll l g h s.tells t.tells) (append-nil (asked_of serves.calls)) (along h t serves.calls (silent g s) u serves.talks [] none);
      }

  -- the last request has no answer
  last-asks : (a u : GatewayTalk) (given : RequestTaken) (fault : ServeFault) → u.responder ≡ h → u.site ≡ t → Fails GatewayReplies a given fault u
      → AsksAll (asked_of (took given ∷ [])) a.responder h a.site.tells t.tells × (u.count ≡ a.count + length (requests_taken (took given ∷ [])))
  last-asks a u (Ok More) fault same there fails = absurd fails
  last-asks a u (Ok Continue) fault same there fails =
      (none-asked a.responder h a.site.tells t.tells (sym same ∙ ap (λ (x : GatewayTalk). x.responder) fails.1) (ap (λ (x : SiteView). x.tells) (sym there ∙ ap (λ (x : GatewayTalk). x.site) fails.1)), ap (λ (x : GatewayTalk). x.count) fails.1 ∙ omega arith)
  last-asks a u (Err f) fault same there fails =
      (none-asked a.responder h a.site.tells t.tells (sym same ∙ ap (λ (x : GatewayTalk). x.responder) fails.1) (ap (λ (x : SiteView). x.tells) (sym there ∙ ap (λ (x : GatewayTalk). x.site) fails.1)), ap (λ (x : GatewayTalk). x.count) fails.1 ∙ omega arith)
  last-asks a u (Ok (Request asked)) fault same there (result, replied, lacks, is) = (
    subst (λ (x : GatewayState). AsksAll (Handles asked.body ∷ []) a.responder x a.site.tells t.tells) same
        (subst (λ (x : SiteView). AsksAll (Handles asked.body ∷ []) a.responder u.responder a.site.tells x.tells) there (by-reply replied.handled refl)),
    ap (λ (x : GatewayTalk). x.count) is,
  )
    where
      to : (r : Result (Option Text) Refused) → reply_of replied.handled ≡ r → AnswersTo (Handles asked.body) a.responder u.responder a.site.tells u.site.tells r
      to r e = subst (λ (x : Result (Option Text) Refused). AnswersTo (Handles asked.body) a.responder u.responder a.site.tells u.site.tells x) e (handled-so a.responder u.responder a.site u.site asked.body result replied)

      alone : (r : Result (Option Text) Refused) → IsAnswered r → reply_of replied.handled ≡ r → AsksAll (Handles asked.body ∷ []) a.responder u.responder a.site.tells u.site.tells
      alone r ok e = one-more (Handles asked.body) r [] a.responder u.responder u.responder a.site.tells u.site.tells u.site.tells ok (to r e) (none-asked u.responder u.responder u.site.tells u.site.tells refl refl)

      refusal : (r : Refused) → reply_of replied.handled ≡ Err r → ((r ≡ refused.Site) ⊎ (r ≡ refused.Memory) ⊎ IsAnswered (Err r)) → AsksAll (Handles asked.body ∷ []) a.responder u.responder a.site.tells u.site.tells
      refusal r e (inl site) = last-failed (Handles asked.body) r a.responder u.responder a.site.tells u.site.tells (inl site) (to (Err r) e)
      refusal r e (inr (inl memory)) = last-failed (Handles asked.body) r a.responder u.responder a.site.tells u.site.tells (inr memory) (to (Err r) e)
      refusal r e (inr (inr ok)) = alone (Err r) ok e

      by-reply : (given : Result Reply Refused) → replied.handled ≡ given → AsksAll (Handles asked.body ∷ []) a.responder u.responder a.site.tells u.site.tells
      by-reply (Ok given) e = alone (Ok (text_in given)) tt (ap reply_of e)
      by-reply (Err r) e = refusal r (ap reply_of e) (is-answered r)

  stops-asks : (u : GatewayTalk) → u.responder ≡ h → u.site ≡ t → u.count ≡ requests → (fault : ServeFault) → Stops GatewayReplies g s heard fault u → AsksBodies heard requests g h s t
  stops-asks u same there count fault stops =
      let v = stops.halts.unanswered in
      let next = stops.halts.fails in
      let calls = stops.serves.calls in
      let last = last-asks stops.answered v next.given fault (responder-of fault v u stops.halts.last ∙ same) (site-of fault v u stops.halts.last ∙ there) next.fails in
      let given : List (Call RequestTaken) = took next.given ∷ [] in
      let all : AsksAll (asked_of calls ++ asked_of given) g h s.tells t.tells = along h t calls (silent g s) stops.answered stops.serves.talks (asked_of given) last.0 in
      let before-it = counts calls (silent g s) stops.answered stops.serves.talks in
      let so-many = ap length (taken-on calls next.given) ∙ length-append (requests_taken calls) (requests_taken given) in
      let in-all : v.count ≡ requests = count-of fault v u stops.halts.last ∙ count in
      let after-it = last.1 in
      record {
        calls = calls ++ given;
        left = next.left;
        runs = run-on calls no_requests stops.feed next.left next.given stops.serves.runs next.takes;
        rest = stops.rest;
        cut = stops.cut ∙ ap (λ (x : List ℕ). x ++ stops.rest) (sym (came-on calls next.given ∙ stops.serves.bytes_are));
        count = omega (arith, before-it, so-many, in-all, after-it);
        asks = subst (λ (l : List asking.Asked). AsksAll l g h s.tells t.tells) (sym (ap (map (λ (asked : Asked). Handles asked.body)) (taken-on calls next.given) ∙ map-append (λ (asked : Asked). Handles asked.body) (requests_taken calls) (requests_taken given))) all;
      }

  module _ (whole : List ℕ) (closed : Bool) where
    abbrev last : GatewayTalk
    last = standing h t requests whole closed

    waits-asks : Waits GatewayReplies g s heard last → AsksBodies heard requests g h s t
    waits-asks waits = whole-serves last refl refl refl waits.feed heard [] (sym (append-nil heard)) waits.serves

    closes-asks : Closes GatewayReplies g s heard last → AsksBodies heard requests g h s t
    closes-asks closes = whole-serves last refl refl refl closes.feed closes.front closes.rest closes.cut closes.serves

    stopped-asks : (fault : ServeFault) → Stops GatewayReplies g s heard fault last → AsksBodies heard requests g h s t
    stopped-asks fault stops = stops-asks last refl refl refl fault stops

    ends-ask : (why : ConnectionEnd) (rest : List ℕ) (before after : ℕ) → EndsAt GatewayReplies g s last heard rest before after why → AsksBodies heard requests g h s t
    ends-ask end.Closed rest before after ends = elim ends.2 [ inl closes ↦ closes-asks closes | inr waits ↦ waits-asks waits.0 ]
    ends-ask end.Ended rest before after ends = waits-asks ends.2
    ends-ask end.Wire rest before after ends = elim ends.1 [ inl waits ↦ waits-asks waits | inr closes ↦ closes-asks closes ]
    ends-ask end.Site rest before after ends = stopped-asks _ ends.1
    ends-ask end.Memory rest before after ends = elim ends [ inl stops ↦ stopped-asks _ stops.1 | inr waits ↦ waits-asks waits.2 ]

pub connections-ask : ConnectionsAsk
connections-ask g h s t old new before after connection c = ends-ask g h s t connection.requests c.heard c.whole c.closed connection.end c.rest before after c.ends
