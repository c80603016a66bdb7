-- What is said is the same where less is seen of a site.
use Rattle.std.proofs.Common.{ℕ, inl, inr, Bool, List, [], ◌∷◌, ap, Option}
use Rattle.std.specs.Prelude.{Result, Ok, Err}
use Rattle.satp_base.specs.Wires.{Traffic}
use Rattle.satp_http.specs.declared.requests.Taken.TheVariants.{More, Continue, Request}
use Rattle.satp_http.specs.Feeds.{RequestFeed}
use Rattle.satp_http.specs.Runs.{Call, RequestTaken, fed, took}
use Rattle.satp_serve.specs.declared.connection.ConnectionEnd.{ConnectionEnd}
use Rattle.satp_serve.specs.declared.connection.ConnectionEnd.TheVariants as end
use Rattle.satp_serve.specs.declared.responder.Halt.{Halt}
use Rattle.satp_serve.specs.declared.responder.Halt.TheVariants as halt
use Rattle.satp_serve.specs.declared.responder.Replied.{Replied}
use Rattle.satp_serve.specs.declared.turn.ServeFault.{ServeFault}
use Rattle.satp_serve.specs.declared.turn.ServeFault.TheVariants as serve
use Rattle.satp_serve.specs.declared.turn.Turn.{Turn}
use Rattle.satp_serve.specs.declared.turn.Turn.TheVariants as turn
use Rattle.satp_serve.specs.Exchange.{Answers, SaysTo, Serves, Talk, Talks, closes_at, handed, silent}
use Rattle.satp_serve.specs.Feeding.{Fails, FeedAnswers, Halts, standing}
use Rattle.satp_serve.specs.Connections.{Closes, EndsAt, Hears, Stops, Waits}

-- a conversation, where this is seen of its site
abbrev pub viewed : {G S V : Type 0} → (S → V) → Talk G S → Talk G V
viewed view t = record { responder = t.responder; site = view t.site; count = t.count; said = t.said; closed = t.closed }

-- each reply is one by what is seen
abbrev pub Views : {G S V : Type 0} → (S → V) → (G → S → List ℕ → Result Replied Halt → G → S → Type 0) → (G → V → List ℕ → Result Replied Halt → G → V → Type 0) → Type 0
Views {G} {S} view replies seen = (g : G) (s : S) (body : List ℕ) (result : Result Replied Halt) (h : G) (t : S) → replies g s body result h t → seen g (view s) body result h (view t)

answers_viewed : {G S V : Type 0} (view : S → V) (t u : Talk G S) (close : Bool) (result : Result Replied Halt) → Answers t close result u → Answers (viewed view t) close result (viewed view u)
answers_viewed view t u close (Ok replied) is = ap (viewed view) is
answers_viewed view t u close (Err halt.Cut) is = ap (viewed view) is
answers_viewed view t u close (Err halt.Site) is = is
answers_viewed view t u close (Err halt.Memory) is = is

says_viewed : {G S V : Type 0} (view : S → V) (replies : G → S → List ℕ → Result Replied Halt → G → S → Type 0) (seen : G → V → List ℕ → Result Replied Halt → G → V → Type 0) → Views view replies seen → (t u : Talk G S) (given : RequestTaken) → SaysTo replies t given u → SaysTo seen (viewed view t) given (viewed view u)
says_viewed view replies seen v t u (Ok More) is = ap (viewed view) is
says_viewed view replies seen v t u (Ok Continue) is = ap (viewed view) is
says_viewed view replies seen v t u (Ok (Request asked)) is = record {
  result = is.result;
  replied = v t.responder t.site asked.body is.result u.responder u.site is.replied;
  answers = answers_viewed view (handed t u.responder u.site) u (closes_at t.count asked) is.result is.answers;
}
says_viewed view replies seen v t u (Err f) is = (is.0, ap (viewed view) is.1)

talks_viewed : {G S V : Type 0} (view : S → V) (replies : G → S → List ℕ → Result Replied Halt → G → S → Type 0) (seen : G → V → List ℕ → Result Replied Halt → G → V → Type 0) → Views view replies seen → (t u : Talk G S) (calls : List (Call RequestTaken)) → Talks replies t calls u → Talks seen (viewed view t) calls (viewed view u)
talks_viewed view replies seen v t u [] is = ap (viewed view) is
talks_viewed view replies seen v t u (fed piece ∷ calls) is = talks_viewed view replies seen v t u calls is
talks_viewed view replies seen v t u (took given ∷ calls) is = (is.0, viewed view is.1, says_viewed view replies seen v t is.1 given is.2, talks_viewed view replies seen v is.1 u calls is.3)

serves_viewed : {G S V : Type 0} (view : S → V) (replies : G → S → List ℕ → Result Replied Halt → G → S → Type 0) (seen : G → V → List ℕ → Result Replied Halt → G → V → Type 0) → Views view replies seen → (old new : RequestFeed) (t u : Talk G S) (bytes : List ℕ) → Serves replies old new t u bytes → Serves seen old new (viewed view t) (viewed view u) bytes
serves_viewed view replies seen v old new t u bytes is = record { calls = is.calls; runs = is.runs; bytes_are = is.bytes_are; talks = talks_viewed view replies seen v t u is.calls is.talks }

fails_viewed : {G S V : Type 0} (view : S → V) (replies : G → S → List ℕ → Result Replied Halt → G → S → Type 0) (seen : G → V → List ℕ → Result Replied Halt → G → V → Type 0) → Views view replies seen → (t u : Talk G S) (given : RequestTaken) (fault : ServeFault) → Fails replies t given fault u → Fails seen (viewed view t) given fault (viewed view u)
fails_viewed view replies seen v t u (Ok More) fault is = is
fails_viewed view replies seen v t u (Ok Continue) fault is = (is.0, ap (viewed view) is.1)
fails_viewed view replies seen v t u (Ok (Request asked)) fault is = (is.0, v t.responder t.site asked.body is.0 u.responder u.site is.1, is.2, ap (viewed view) is.3)
fails_viewed view replies seen v t u (Err f) fault is = (is.0, ap (viewed view) is.1)

halts_viewed : {G S V : Type 0} (view : S → V) (replies : G → S → List ℕ → Result Replied Halt → G → S → Type 0) (seen : G → V → List ℕ → Result Replied Halt → G → V → Type 0) → Views view replies seen → (old : RequestFeed) (t u : Talk G S) (fault : ServeFault) → Halts replies old t fault u → Halts seen old (viewed view t) fault (viewed view u)
halts_viewed view replies seen v old t u fault is = record {
  unanswered = viewed view is.unanswered;
  fails = record { given = is.fails.given; left = is.fails.left; takes = is.fails.takes; fails = fails_viewed view replies seen v t is.unanswered is.fails.given fault is.fails.fails };
  last = elim (is.last) [ inl said ↦ inl (ap (viewed view) said) | inr not_said ↦ inr (ap (viewed view) not_said) ];
}

-- ---- a piece

pub feed_viewed : {G S V : Type 0} (view : S → V) (replies : G → S → List ℕ → Result Replied Halt → G → S → Type 0) (seen : G → V → List ℕ → Result Replied Halt → G → V → Type 0) → Views view replies seen → (old new : RequestFeed) (t u : Talk G S) (piece : List ℕ) (result : Result Turn ServeFault)
    → FeedAnswers replies old new t u piece result → FeedAnswers seen old new (viewed view t) (viewed view u) piece result
feed_viewed view replies seen v old new t u piece (Ok turn.More) is = (serves_viewed view replies seen v old new t u piece is.0, is.1, is.2)
feed_viewed view replies seen v old new t u piece (Ok turn.Close) is = (is.0, is.1, is.2, serves_viewed view replies seen v old new t u is.0 is.3, is.4)
feed_viewed view replies seen v old new t u piece (Err fault) is =
    (is.0, is.1, is.2, is.3, viewed view is.4, serves_viewed view replies seen v old is.3 t is.4 is.0 is.5, is.6, halts_viewed view replies seen v is.3 is.4 u fault is.7)

-- ---- a connection

waits_viewed : {G S V : Type 0} (view : S → V) (replies : G → S → List ℕ → Result Replied Halt → G → S → Type 0) (seen : G → V → List ℕ → Result Replied Halt → G → V → Type 0) → Views view replies seen → (g : G) (s : S) (heard : List ℕ) (u : Talk G S) → Waits replies g s heard u → Waits seen g (view s) heard (viewed view u)
waits_viewed view replies seen v g s heard u is = record { feed = is.feed; serves = serves_viewed view replies seen v _ is.feed (silent g s) u heard is.serves; rest = is.rest; unclosed = is.unclosed }

closes_viewed : {G S V : Type 0} (view : S → V) (replies : G → S → List ℕ → Result Replied Halt → G → S → Type 0) (seen : G → V → List ℕ → Result Replied Halt → G → V → Type 0) → Views view replies seen → (g : G) (s : S) (heard : List ℕ) (u : Talk G S) → Closes replies g s heard u → Closes seen g (view s) heard (viewed view u)
closes_viewed view replies seen v g s heard u is = record { front = is.front; rest = is.rest; cut = is.cut; feed = is.feed; serves = serves_viewed view replies seen v _ is.feed (silent g s) u is.front is.serves; closed = is.closed }

stops_viewed : {G S V : Type 0} (view : S → V) (replies : G → S → List ℕ → Result Replied Halt → G → S → Type 0) (seen : G → V → List ℕ → Result Replied Halt → G → V → Type 0) → Views view replies seen → (g : G) (s : S) (heard : List ℕ) (fault : ServeFault) (u : Talk G S) → Stops replies g s heard fault u → Stops seen g (view s) heard fault (viewed view u)
stops_viewed view replies seen v g s heard fault u is = record {
  front = is.front;
  rest = is.rest;
  cut = is.cut;
  feed = is.feed;
  answered = viewed view is.answered;
  serves = serves_viewed view replies seen v _ is.feed (silent g s) is.answered is.front is.serves;
  unclosed = is.unclosed;
  halts = halts_viewed view replies seen v is.feed is.answered u fault is.halts;
}

ends_viewed : {G S V : Type 0} (view : S → V) (replies : G → S → List ℕ → Result Replied Halt → G → S → Type 0) (seen : G → V → List ℕ → Result Replied Halt → G → V → Type 0) → Views view replies seen → (g : G) (s : S) (u : Talk G S) (heard rest : List ℕ) (before after : ℕ) (why : ConnectionEnd)
    → EndsAt replies g s u heard rest before after why → EndsAt seen g (view s) (viewed view u) heard rest before after why
ends_viewed view replies seen v g s u heard rest before after end.Closed is =
    (is.0, is.1, elim (is.2) [ inl closes ↦ inl (closes_viewed view replies seen v g s heard u closes) | inr waits ↦ inr (waits_viewed view replies seen v g s heard u waits.0, waits.1) ])
ends_viewed view replies seen v g s u heard rest before after end.Ended is = (is.0, is.1, waits_viewed view replies seen v g s heard u is.2, is.3)
ends_viewed view replies seen v g s u heard rest before after end.Wire is =
    (is.0, elim (is.1) [ inl waits ↦ inl (waits_viewed view replies seen v g s heard u waits) | inr closes ↦ inr (closes_viewed view replies seen v g s heard u closes) ])
ends_viewed view replies seen v g s u heard rest before after end.Site is = (is.0, stops_viewed view replies seen v g s heard serve.Site u is.1)
ends_viewed view replies seen v g s u heard rest before after end.Memory is =
    elim is [ inl stops ↦ inl (stops.0, stops_viewed view replies seen v g s heard serve.Memory u stops.1) | inr waits ↦ inr (waits.0, waits.1, waits_viewed view replies seen v g s heard u waits.2) ]

pub connection_viewed : {G S V : Type 0} (view : S → V) (replies : G → S → List ℕ → Result Replied Halt → G → S → Type 0) (seen : G → V → List ℕ → Result Replied Halt → G → V → Type 0) → Views view replies seen
    → (g : G) (s : S) (h : G) (t : S) (count : ℕ) (old new : Option Traffic) (before after : ℕ) (why : ConnectionEnd) → Hears replies g s h t count old new before after why → Hears seen g (view s) h (view t) count old new before after why
connection_viewed view replies seen v g s h t count old new before after why is = record {
  heard = is.heard;
  said = is.said;
  rest = is.rest;
  whole = is.whole;
  cut = is.cut;
  closed = is.closed;
  told = is.told;
  most = is.most;
  ends = ends_viewed view replies seen v g s (standing h t count is.whole is.closed) is.heard is.rest before after why is.ends;
}
