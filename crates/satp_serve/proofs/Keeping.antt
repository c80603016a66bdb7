-- What each reply keeps, a connection keeps.
use Rattle.std.proofs.Common.{◌≡◌, ◌≢◌, ℕ, Bool, inl, inr, List, [], ◌∷◌, sym, subst, refl, Option}
use Rattle.std.specs.Prelude.{Result, Ok, Err}
use Rattle.satp_base.specs.Wires.{Traffic}
use Rattle.satp_http.specs.declared.requests.Taken.TheVariants.{More, Continue, Request}
use Rattle.satp_http.specs.Feeds.{RequestFeed}
use Rattle.satp_http.specs.Runs.{Call, RequestTaken, fed, took}
use Rattle.satp_serve.specs.declared.connection.ConnectionEnd.{ConnectionEnd}
use Rattle.satp_serve.specs.declared.connection.ConnectionEnd.TheVariants as end
use Rattle.satp_serve.specs.declared.responder.Halt.{Halt}
use Rattle.satp_serve.specs.declared.responder.Halt.TheVariants as halt
use Rattle.satp_serve.specs.declared.responder.Replied.{Replied}
use Rattle.satp_serve.specs.declared.turn.ServeFault.{ServeFault}
use Rattle.satp_serve.specs.declared.turn.ServeFault.TheVariants as serve
use Rattle.satp_serve.specs.declared.turn.Turn.{Turn}
use Rattle.satp_serve.specs.declared.turn.Turn.TheVariants as turn
use Rattle.satp_serve.specs.Exchange.{Answers, SaysTo, Talk, Talks, closes_at, handed, silent}
use Rattle.satp_serve.specs.Feeding.{Fails, FeedAnswers, Halts, Lacks, standing}
use Rattle.satp_serve.specs.Connections.{Closes, Hears, Stops, Waits}

-- a relation that holds where nothing is called, goes on from call to call, and holds over each reply but a failure of the site
pub record Keeps {G S : Type 0} (replies : G → S → List ℕ → Result Replied Halt → G → S → Type 0) (holds : G → S → G → S → Type 0) : Type 0 where
  pub same : (g : G) (s : S) → holds g s g s
  pub then : (g : G) (s : S) (h : G) (t : S) (k : G) (v : S) → holds g s h t → holds h t k v → holds g s k v
  pub reply : (g : G) (s : S) (body : List ℕ) (result : Result Replied Halt) (h : G) (t : S) → result ≢ Err halt.Site → replies g s body result h t → holds g s h t

abbrev Over : {G S : Type 0} → (G → S → G → S → Type 0) → Talk G S → Talk G S → Type 0
Over holds t u = holds t.responder t.site u.responder u.site

still : {G S : Type 0} (replies : G → S → List ℕ → Result Replied Halt → G → S → Type 0) (holds : G → S → G → S → Type 0) → Keeps replies holds → (t v u : Talk G S) → u ≡ v → Over holds t v → Over holds t u
still {G} {S} replies holds k t v u is there = subst (λ (w : Talk G S). Over holds t w) (sym is) there

-- what has an answer is no failure of the site
not_failed : {G S : Type 0} (t u : Talk G S) (close : Bool) (result : Result Replied Halt) → Answers t close result u → result ≡ Err halt.Site → ⊥
not_failed t u close (Ok replied) is e = cc
not_failed t u close (Err halt.Cut) is e = cc
not_failed t u close (Err halt.Site) is e = absurd is
not_failed t u close (Err halt.Memory) is e = absurd is

-- and what lacks one for want of memory isn't
not_failed_here : (result : Result Replied Halt) → Lacks serve.Memory result → result ≡ Err halt.Site → ⊥
not_failed_here (Ok replied) is e = cc
not_failed_here (Err why) is e = cc

says_keep : {G S : Type 0} (replies : G → S → List ℕ → Result Replied Halt → G → S → Type 0) (holds : G → S → G → S → Type 0) → Keeps replies holds → (t u : Talk G S) (given : RequestTaken) → SaysTo replies t given u → Over holds t u
says_keep replies holds k t u (Ok More) is = still replies holds k t _ u is (k.same t.responder t.site)
says_keep replies holds k t u (Ok Continue) is = still replies holds k t _ u is (k.same t.responder t.site)
says_keep replies holds k t u (Ok (Request asked)) is =
    k.reply t.responder t.site asked.body is.result u.responder u.site (not_failed (handed t u.responder u.site) u (closes_at t.count asked) is.result is.answers) is.replied
says_keep replies holds k t u (Err f) is = still replies holds k t _ u is.1 (k.same t.responder t.site)

talks_keep : {G S : Type 0} (replies : G → S → List ℕ → Result Replied Halt → G → S → Type 0) (holds : G → S → G → S → Type 0) → Keeps replies holds → (t u : Talk G S) (calls : List (Call RequestTaken)) → Talks replies t calls u → Over holds t u
talks_keep replies holds k t u [] is = still replies holds k t t u is (k.same t.responder t.site)
talks_keep replies holds k t u (fed piece ∷ calls) is = talks_keep replies holds k t u calls is
talks_keep replies holds k t u (took given ∷ calls) is =
    k.then t.responder t.site is.1.responder is.1.site u.responder u.site (says_keep replies holds k t is.1 given is.2) (talks_keep replies holds k is.1 u calls is.3)

fails_keep : {G S : Type 0} (replies : G → S → List ℕ → Result Replied Halt → G → S → Type 0) (holds : G → S → G → S → Type 0) → Keeps replies holds → (t u : Talk G S) (given : RequestTaken) → Fails replies t given serve.Memory u → Over holds t u
fails_keep replies holds k t u (Ok More) is = absurd is
fails_keep replies holds k t u (Ok Continue) is = still replies holds k t t u is.1 (k.same t.responder t.site)
fails_keep replies holds k t u (Ok (Request asked)) is = k.reply t.responder t.site asked.body is.0 u.responder u.site (not_failed_here is.0 is.2) is.1
fails_keep replies holds k t u (Err f) is = still replies holds k t t u is.1 (k.same t.responder t.site)

halts_keep : {G S : Type 0} (replies : G → S → List ℕ → Result Replied Halt → G → S → Type 0) (holds : G → S → G → S → Type 0) → Keeps replies holds → (old : RequestFeed) (t u : Talk G S) → Halts replies old t serve.Memory u → Over holds t u
halts_keep replies holds k old t u is =
    let first = fails_keep replies holds k t is.unanswered is.fails.given is.fails.fails in
    elim (is.last) [ inl said ↦ still replies holds k t _ u said first | inr not_said ↦ still replies holds k t _ u not_said first ]

-- a piece keeps it, unless the site failed
pub feed_keeps : {G S : Type 0} (replies : G → S → List ℕ → Result Replied Halt → G → S → Type 0) (holds : G → S → G → S → Type 0) → Keeps replies holds → (old new : RequestFeed) (t u : Talk G S) (piece : List ℕ) (result : Result Turn ServeFault)
    → result ≢ Err serve.Site → FeedAnswers replies old new t u piece result → holds t.responder t.site u.responder u.site
feed_keeps replies holds k old new t u piece (Ok turn.More) other is = talks_keep replies holds k t u is.0.calls is.0.talks
feed_keeps replies holds k old new t u piece (Ok turn.Close) other is = talks_keep replies holds k t u is.3.calls is.3.talks
feed_keeps replies holds k old new t u piece (Err serve.Site) other is = absurd (other refl)
feed_keeps replies holds k old new t u piece (Err serve.Memory) other is =
    k.then t.responder t.site is.4.responder is.4.site u.responder u.site (talks_keep replies holds k t is.4 is.5.calls is.5.talks) (halts_keep replies holds k is.3 is.4 u is.7)

waits_keep : {G S : Type 0} (replies : G → S → List ℕ → Result Replied Halt → G → S → Type 0) (holds : G → S → G → S → Type 0) → Keeps replies holds → (g : G) (s : S) (heard : List ℕ) (u : Talk G S) → Waits replies g s heard u → holds g s u.responder u.site
waits_keep replies holds k g s heard u is = talks_keep replies holds k (silent g s) u is.serves.calls is.serves.talks

closes_keep : {G S : Type 0} (replies : G → S → List ℕ → Result Replied Halt → G → S → Type 0) (holds : G → S → G → S → Type 0) → Keeps replies holds → (g : G) (s : S) (heard : List ℕ) (u : Talk G S) → Closes replies g s heard u → holds g s u.responder u.site
closes_keep replies holds k g s heard u is = talks_keep replies holds k (silent g s) u is.serves.calls is.serves.talks

stops_keep : {G S : Type 0} (replies : G → S → List ℕ → Result Replied Halt → G → S → Type 0) (holds : G → S → G → S → Type 0) → Keeps replies holds → (g : G) (s : S) (heard : List ℕ) (u : Talk G S) → Stops replies g s heard serve.Memory u → holds g s u.responder u.site
stops_keep replies holds k g s heard u is =
    k.then g s is.answered.responder is.answered.site u.responder u.site (talks_keep replies holds k (silent g s) is.answered is.serves.calls is.serves.talks) (halts_keep replies holds k is.feed is.answered u is.halts)

-- a connection keeps it, unless it ends with a failure of the site
pub connection_keeps : {G S : Type 0} (replies : G → S → List ℕ → Result Replied Halt → G → S → Type 0) (holds : G → S → G → S → Type 0) → Keeps replies holds → (g : G) (s : S) (h : G) (t : S) (count : ℕ) (old new : Option Traffic) (before after : ℕ) (why : ConnectionEnd)
    → why ≢ end.Site → Hears replies g s h t count old new before after why → holds g s h t
connection_keeps replies holds k g s h t count old new before after end.Closed other is = elim (is.ends.2) [
  | inl closes ↦ closes_keep replies holds k g s is.heard (standing h t count is.whole is.closed) closes
  | inr most ↦ waits_keep replies holds k g s is.heard (standing h t count is.whole is.closed) most.0
]
connection_keeps replies holds k g s h t count old new before after end.Ended other is = waits_keep replies holds k g s is.heard (standing h t count is.whole is.closed) is.ends.2
connection_keeps replies holds k g s h t count old new before after end.Wire other is = elim (is.ends.1) [
  | inl waits ↦ waits_keep replies holds k g s is.heard (standing h t count is.whole is.closed) waits
  | inr closes ↦ closes_keep replies holds k g s is.heard (standing h t count is.whole is.closed) closes
]
connection_keeps replies holds k g s h t count old new before after end.Site other is = absurd (other refl)
connection_keeps replies holds k g s h t count old new before after end.Memory other is = elim (is.ends) [
  | inl stops ↦ stops_keep replies holds k g s is.heard (standing h t count is.whole is.closed) stops.1
  | inr waits ↦ waits_keep replies holds k g s is.heard (standing h t count is.whole is.closed) waits.2
]

-- ---- where the site failed

-- the last reply halted with a failure of the site, and everything before it kept the relation
abbrev pub LastFailed : {G S : Type 0} → (G → S → List ℕ → Result Replied Halt → G → S → Type 0) → (G → S → G → S → Type 0) → G → S → G → S → Type 0
LastFailed {G} {S} replies holds g s h t = (a : G) × (b : S) × (body : List ℕ) × holds g s a b × replies a b body (Err halt.Site) h t

site_fails : {G S : Type 0} (replies : G → S → List ℕ → Result Replied Halt → G → S → Type 0) (t u : Talk G S) (given : RequestTaken) → Fails replies t given serve.Site u → (body : List ℕ) × replies t.responder t.site body (Err halt.Site) u.responder u.site
site_fails replies t u (Ok More) is = absurd is
site_fails replies t u (Ok Continue) is = let bad = is.0 in cc
site_fails replies t u (Ok (Request asked)) is = (asked.body, subst (λ (r : Result Replied Halt). replies t.responder t.site asked.body r u.responder u.site) is.2 is.1)
site_fails replies t u (Err f) is = let bad = is.0 in cc

site_halts : {G S : Type 0} (replies : G → S → List ℕ → Result Replied Halt → G → S → Type 0) (old : RequestFeed) (t u : Talk G S) → Halts replies old t serve.Site u → (body : List ℕ) × replies t.responder t.site body (Err halt.Site) u.responder u.site
site_halts {G} {S} replies old t u is =
    let first = site_fails replies t is.unanswered is.fails.given is.fails.fails in
    let goes = λ (w : Talk G S). replies t.responder t.site first.0 (Err halt.Site) w.responder w.site in
    elim (is.last) [ inl said ↦ (first.0, subst goes (sym said) first.1) | inr not_said ↦ (first.0, subst goes (sym not_said) first.1) ]

pub feed_failed : {G S : Type 0} (replies : G → S → List ℕ → Result Replied Halt → G → S → Type 0) (holds : G → S → G → S → Type 0) → Keeps replies holds → (old new : RequestFeed) (t u : Talk G S) (piece : List ℕ)
    → FeedAnswers replies old new t u piece (Err serve.Site) → LastFailed replies holds t.responder t.site u.responder u.site
feed_failed replies holds k old new t u piece is =
    let last = site_halts replies is.3 is.4 u is.7 in
    (is.4.responder, is.4.site, last.0, talks_keep replies holds k t is.4 is.5.calls is.5.talks, last.1)

pub connection_failed : {G S : Type 0} (replies : G → S → List ℕ → Result Replied Halt → G → S → Type 0) (holds : G → S → G → S → Type 0) → Keeps replies holds → (g : G) (s : S) (h : G) (t : S) (count : ℕ) (old new : Option Traffic) (before after : ℕ)
    → Hears replies g s h t count old new before after end.Site → LastFailed replies holds g s h t
connection_failed replies holds k g s h t count old new before after is =
    let stops = is.ends.1 in
    let last = site_halts replies stops.feed stops.answered (standing h t count is.whole is.closed) stops.halts in
    (stops.answered.responder, stops.answered.site, last.0, talks_keep replies holds k (silent g s) stops.answered stops.serves.calls stops.serves.talks, last.1)
