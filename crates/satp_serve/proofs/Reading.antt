-- The requests that the calls took are those of the bytes.
use Rattle.std.proofs.Common.{◌≡◌, ◌≢◌, ℕ, ◌⊎◌, inl, inr, true, false, List, [], ◌∷◌, ◌++◌, refl, ap, ◌∙◌, sym, subst, append_assoc, Option, Some, None}
use Rattle.std.specs.Prelude.{Result, Ok, Err}
use Rattle.std.specs.List.{flat_map}
use Rattle.std.proofs.lemmas.Bool.{cases_Bool}
use Rattle.std.proofs.lemmas.List.{append-nil, map-append}
use Rattle.std.proofs.lemmas.Grind.{flat_map-append}
use Rattle.satp_http.specs.declared.fault.HttpFault.{HttpFault}
use Rattle.satp_http.specs.declared.fault.HttpFault.TheVariants as fault
use Rattle.satp_http.specs.declared.requests.Asked.{Asked}
use Rattle.satp_http.specs.declared.requests.Taken.TheVariants.{More, Continue, Request}
use Rattle.satp_http.specs.Feeds.{RequestFeed, TakesRequest, no_requests}
use Rattle.satp_http.specs.Heads.{client}
use Rattle.satp_http.specs.HttpText.{AreSent, Ends, HasFault, HttpRequests, Sent, asked_of, interim_behind, requests_of, sent_bytes}
use Rattle.satp_http.specs.Runs.{Call, RequestRun, RequestTaken, came, fed, request_given, requests_taken, took}
use Rattle.satp_http.proofs.ReadingLemmas.{fault_stays}
use Rattle.satp_serve.specs.declared.responder.Halt.{Halt}
use Rattle.satp_serve.specs.declared.responder.Replied.{Replied}
use Rattle.satp_serve.specs.Exchange.{Exchange, SaysToRequest, Talk, Talks, silent}
use Rattle.satp_serve.specs.Laws.{Exchanges, NeverWaits}

-- ---- the bytes

-- these stood at the front, and then rest
record Gives (bytes rest : List ℕ) : Type 0 where
  pub sent : List (Sent client)
  pub each : AreSent client 0 sent
  pub bytes_are : bytes ≡ flat_map (sent_bytes client) sent ++ rest

-- no interim answers stand between requests
behind_none : (n : ℕ) (sent : List (Sent client)) → interim_behind client n sent ≡ n
behind_none n [] = refl
behind_none n (sent ∷ more) = behind_none n more

sent-append : (n : ℕ) (xs ys : List (Sent client)) → AreSent client n xs → AreSent client n ys → AreSent client n (xs ++ ys)
sent-append n [] ys a b = b
sent-append n (x ∷ xs) ys a b = (a.0, sent-append n xs ys a.1 b)

abbrev held_of : RequestFeed → List ℕ
held_of feed = feed.held

abbrev Step : RequestFeed → RequestFeed → RequestTaken → Type 0
Step old new given = (g : Gives old.held new.held) × (request_given given ≡ requests_of g.sent)

abbrev kept : (old new : RequestFeed) → new.held ≡ old.held → Gives old.held new.held
kept old new same = record { sent = []; each = tt; bytes_are = sym same }

step_gives : (old new : RequestFeed) (given : RequestTaken) → TakesRequest old new given → Step old new given
step_gives old new (Ok More) takes = (kept old new (ap held_of takes.1), refl)
step_gives old new (Ok Continue) takes = (kept old new (ap held_of takes.1), refl)
step_gives old new (Ok (Request asked)) takes = (
  record { sent = takes.2 ∷ []; each = (takes.3.0, tt); bytes_are = takes.3.1 ∙ ap (λ (l : List ℕ). l ++ new.held) (sym (append-nil (sent_bytes client takes.2))) },
  ap (λ (a : Asked). a ∷ []) takes.4,
)
step_gives old new (Err f) takes = elim takes [
  | inl stuck ↦ (kept old new (ap held_of stuck.1), refl)
  | inr rest ↦ elim rest [ inl found ↦ (kept old new (ap held_of found.1), refl) | inr memory ↦ (kept old new (ap held_of memory.1), refl) ]
]

run_gives : (old new : RequestFeed) (calls : List (Call RequestTaken)) → RequestRun old calls new → (g : Gives (old.held ++ came calls) new.held) × (requests_taken calls ≡ requests_of g.sent)
run_gives old new [] same = (record { sent = []; each = tt; bytes_are = append-nil old.held ∙ sym (ap held_of same) }, refl)
run_gives old new (fed piece ∷ calls) run =
    let later = run_gives (record old { held = old.held ++ piece }) new calls run in
    (record { sent = later.0.sent; each = later.0.each; bytes_are = sym (append_assoc old.held piece (came calls)) ∙ later.0.bytes_are }, later.1)
run_gives old new (took given ∷ calls) run =
    let first = step_gives old run.0 given run.1 in
    let later = run_gives run.0 new calls run.2 in
    let x = first.0.sent in
    let y = later.0.sent in (
      record {
        sent = x ++ y;
        each = sent-append 0 x y first.0.each later.0.each;
        bytes_are = ap (λ (l : List ℕ). l ++ came calls) first.0.bytes_are ∙ append_assoc (flat_map (sent_bytes client) x) run.0.held (came calls)
            ∙ ap (λ (l : List ℕ). flat_map (sent_bytes client) x ++ l) later.0.bytes_are ∙ sym (append_assoc (flat_map (sent_bytes client) x) (flat_map (sent_bytes client) y) new.held)
            ∙ ap (λ (l : List ℕ). l ++ new.held) (sym (flat_map-append (sent_bytes client) x y));
      },
      (λ i. first.1 i ++ later.1 i) ∙ sym (map-append asked_of x y),
    )

reading : (requests : List Asked) (bytes rest : List ℕ) (end : Option HttpFault) (g : Gives bytes rest) → requests ≡ requests_of g.sent → Ends client 0 rest end → HttpRequests requests end bytes
reading requests bytes rest end g same ends = (
  g.sent,
  same,
  record { each = g.each; rest = rest; bytes_are = g.bytes_are; ends = subst (λ (n : ℕ). Ends client n rest end) (sym (behind_none 0 g.sent)) ends },
)

-- ---- what is said

-- once the connection is closed, bytes alone may come
closed_stays : {G S : Type 0} (replies : G → S → List ℕ → Result Replied Halt → G → S → Type 0) (t u : Talk G S) (a b : RequestFeed) (calls : List (Call RequestTaken))
    → t.closed ≡ true → Talks replies t calls u → RequestRun a calls b → (u ≡ t) × (requests_taken calls ≡ []) × (b.held ≡ a.held ++ came calls)
closed_stays replies t u a b [] closed talks run = (talks, refl, ap held_of run ∙ sym (append-nil a.held))
closed_stays replies t u a b (fed piece ∷ calls) closed talks run =
    let later = closed_stays replies t u (record a { held = a.held ++ piece }) b calls closed talks run in
    (later.0, later.1, later.2 ∙ append_assoc a.held piece (came calls))
closed_stays replies t u a b (took given ∷ calls) closed talks run = let bad : true ≡ false = sym closed ∙ talks.0 in cc

abbrev Tells : {G S : Type 0} → (G → S → List ℕ → Result Replied Halt → G → S → Type 0) → Talk G S → List Asked → List ℕ → Talk G S → Type 0
Tells replies t requests held u =
    ((u.closed ≡ false) × Exchange replies t requests None u)
    ⊎ (((f : HttpFault) × (u.closed ≡ true) × HasFault client 0 held f × Exchange replies t requests (Some f) u)
    ⊎ ((u.closed ≡ true) × ((later : List Asked) (end : Option HttpFault) → Exchange replies t (requests ++ later) end u)))

-- one more request before the others, after which the connection stays open
one_more : {G S : Type 0} (replies : G → S → List ℕ → Result Replied Halt → G → S → Type 0) (t middle u : Talk G S) (asked : Asked) (requests : List Asked) (held : List ℕ)
    → SaysToRequest replies t asked middle → middle.closed ≡ false → Tells replies middle requests held u → Tells replies t (asked ∷ requests) held u
one_more replies t middle u asked requests held says unclosed = elim [
  | inl on ↦ inl (on.0, (middle, says, inr (unclosed, on.1)))
  | inr rest ↦ elim rest [
    | inl bad ↦ inr (inl (bad.0, bad.1, bad.2, (middle, says, inr (unclosed, bad.3))))
    | inr last ↦ inr (inr (last.0, (λ later end. (middle, says, inr (unclosed, last.1 later end)))))
  ]
]

fault_held : (old new : RequestFeed) (f : HttpFault) → TakesRequest old new (Err f) → f ≢ fault.Memory → HasFault client 0 new.held f
fault_held old new f takes other = elim takes [
  | inl stuck ↦ subst (λ (l : List ℕ). HasFault client 0 l f) (sym (ap held_of stuck.1)) stuck.2
  | inr rest ↦ elim rest [
    | inl found ↦ subst (λ (l : List ℕ). HasFault client 0 l f) (sym (ap held_of found.1)) found.2
    | inr memory ↦ absurd (other memory.2)
  ]
]

tells : {G S : Type 0} (replies : G → S → List ℕ → Result Replied Halt → G → S → Type 0) (t u : Talk G S) (a b : RequestFeed) (calls : List (Call RequestTaken))
    → t.closed ≡ false → RequestRun a calls b → Talks replies t calls u → NeverWaits calls → Tells replies t (requests_taken calls) b.held u
tells {G} {S} replies t u a b [] unclosed run talks never = inl (ap (λ (w : Talk G S). w.closed) talks ∙ unclosed, talks)
tells replies t u a b (fed piece ∷ calls) unclosed run talks never = tells replies t u (record a { held = a.held ++ piece }) b calls unclosed run talks never
tells {G} {S} replies t u a b (took (Ok More) ∷ calls) unclosed run talks never =
    subst (λ (w : Talk G S). Tells replies w (requests_taken calls) b.held u) talks.2 (tells replies talks.1 u run.0 b calls (ap (λ (w : Talk G S). w.closed) talks.2 ∙ unclosed) run.2 talks.3 never.1)
tells replies t u a b (took (Ok Continue) ∷ calls) unclosed run talks never = absurd (never.0 refl)
tells {G} {S} replies t u a b (took (Ok (Request asked)) ∷ calls) unclosed run talks never =
    elim (cases_Bool talks.1.closed) [
      | inl closed ↦
          let later = closed_stays replies talks.1 u run.0 b calls closed talks.3 run.2 in
          inr (inr (
            ap (λ (w : Talk G S). w.closed) later.0 ∙ closed,
            (λ more end. subst (λ (l : List Asked). Exchange replies t (asked ∷ (l ++ more)) end u) (sym later.1) (talks.1, talks.2, inl (closed, later.0))),
          ))
      | inr unclosed_still ↦
          one_more replies t talks.1 u asked (requests_taken calls) b.held talks.2 unclosed_still (tells replies talks.1 u run.0 b calls unclosed_still run.2 talks.3 never.1)
    ]
tells {G} {S} replies t u a b (took (Err f) ∷ calls) unclosed run talks never =
    let closed : talks.1.closed ≡ true = ap (λ (w : Talk G S). w.closed) talks.2.1 in
    let later = closed_stays replies talks.1 u run.0 b calls closed talks.3 run.2 in
    let there = subst (λ (l : List ℕ). HasFault client 0 l f) (sym later.2) (fault_stays client 0 run.0.held (came calls) f (fault_held a run.0 f run.1 talks.2.0)) in
    inr (inl (f, ap (λ (w : Talk G S). w.closed) later.0 ∙ closed, there, subst (λ (l : List Asked). Exchange replies t l (Some f) u) (sym later.1) (later.0 ∙ talks.2.1)))

pub exchanges : {G S : Type 0} (replies : G → S → List ℕ → Result Replied Halt → G → S → Type 0) → Exchanges replies
exchanges replies g s calls feed u run talks never =
    let given = run_gives no_requests feed calls run in
    elim (tells replies (silent g s) u no_requests feed calls refl run talks never) [
      | inl on ↦ inl (record { unclosed = on.0; reading = λ unfinished. reading (requests_taken calls) (came calls) feed.held None given.0 given.1 unfinished; exchange = on.1 })
      | inr rest ↦ elim rest [
        | inl bad ↦ inr (inl (record { fault = bad.0; closed = bad.1; reading = reading (requests_taken calls) (came calls) feed.held (Some bad.0) given.0 given.1 bad.2; exchange = bad.3 }))
        | inr last ↦ inr (inr (record { closed = last.0; sent = given.0.sent; each = given.0.each; requests_are = given.1; rest = feed.held; bytes_are = given.0.bytes_are; exchange = last.1 }))
      ]
    ]
