-- What is said grows, and what was said before doesn't matter.
use Rattle.std.proofs.Common.{◌≡◌, ℕ, ◌⊎◌, inl, inr, Bool, true, false, List, [], ◌∷◌, ◌++◌, ap, ◌∙◌, sym, append_assoc}
use Rattle.std.specs.Prelude.{Result, Ok, Err}
use Rattle.std.proofs.lemmas.List.{append-nil}
use Rattle.satp_http.specs.declared.requests.Taken.TheVariants.{More, Continue, Request}
use Rattle.satp_http.specs.Feeds.{RequestFeed}
use Rattle.satp_http.specs.Runs.{Call, RequestTaken, fed, took}
use Rattle.satp_http.specs.Written.{response_text, interim_text}
use Rattle.satp_serve.specs.declared.responder.Halt.{Halt}
use Rattle.satp_serve.specs.declared.responder.Halt.TheVariants as halt
use Rattle.satp_serve.specs.declared.responder.Replied.{Replied}
use Rattle.satp_serve.specs.declared.turn.ServeFault.{ServeFault}
use Rattle.satp_serve.specs.declared.turn.Turn.{Turn}
use Rattle.satp_serve.specs.declared.turn.Turn.TheVariants as turn
use Rattle.satp_serve.specs.Exchange.{Talk, Talks, Answers, SaysTo, Serves, handed, spoken, closes_at}
use Rattle.satp_serve.specs.Feeding.{AnswersPiece, Fails, FailsNext, Halts, halt_answer, standing}

abbrev said_of : {G S : Type 0} → Talk G S → List ℕ
said_of t = t.said

-- these bytes were added to what was said
abbrev pub Grows : {G S : Type 0} → Talk G S → Talk G S → Type 0
Grows t u = (more : List ℕ) × (u.said ≡ t.said ++ more)

answers_grow : {G S : Type 0} (t u : Talk G S) (close : Bool) (result : Result Replied Halt) → Answers t close result u → Grows t u
answers_grow t u close (Ok replied) is = (response_text replied.code replied.body close, ap said_of is)
answers_grow t u close (Err halt.Cut) is = ([], ap said_of is ∙ sym (append-nil t.said))
answers_grow t u close (Err halt.Site) is = absurd is
answers_grow t u close (Err halt.Memory) is = absurd is

says_grow : {G S : Type 0} (replies : G → S → List ℕ → Result Replied Halt → G → S → Type 0) (t u : Talk G S) (given : RequestTaken) → SaysTo replies t given u → Grows t u
says_grow replies t u (Ok More) is = ([], ap said_of is ∙ sym (append-nil t.said))
says_grow replies t u (Ok Continue) is = (interim_text, ap said_of is)
says_grow replies t u (Ok (Request asked)) is = answers_grow (handed t u.responder u.site) u (closes_at t.count asked) is.result is.answers
says_grow replies t u (Err f) is = (_, ap said_of is.1)

talks_grow : {G S : Type 0} (replies : G → S → List ℕ → Result Replied Halt → G → S → Type 0) (t u : Talk G S) (calls : List (Call RequestTaken)) → Talks replies t calls u → Grows t u
talks_grow replies t u [] is = ([], ap said_of is ∙ sym (append-nil t.said))
talks_grow replies t u (fed piece ∷ calls) is = talks_grow replies t u calls is
talks_grow replies t u (took given ∷ calls) is =
    let first = says_grow replies t is.1 given is.2 in
    let later = talks_grow replies is.1 u calls is.3 in
    (first.0 ++ later.0, later.1 ∙ ap (λ (l : List ℕ). l ++ later.0) first.1 ∙ append_assoc t.said first.0 later.0)

serves_grow : {G S : Type 0} (replies : G → S → List ℕ → Result Replied Halt → G → S → Type 0) (old new : RequestFeed) (t u : Talk G S) (bytes : List ℕ) → Serves replies old new t u bytes → Grows t u
serves_grow replies old new t u bytes serves = talks_grow replies t u serves.calls serves.talks

fails_same : {G S : Type 0} (replies : G → S → List ℕ → Result Replied Halt → G → S → Type 0) (t u : Talk G S) (given : RequestTaken) (fault : ServeFault) → Fails replies t given fault u → u.said ≡ t.said
fails_same replies t u (Ok More) fault fails = absurd fails
fails_same replies t u (Ok Continue) fault fails = ap said_of fails.1
fails_same replies t u (Ok (Request asked)) fault fails = ap said_of fails.3
fails_same replies t u (Err f) fault fails = ap said_of fails.1

-- a piece that was answered only added to what was said
pub piece_grows : {G S : Type 0} (replies : G → S → List ℕ → Result Replied Halt → G → S → Type 0) (old new : RequestFeed) (t u : Talk G S) (piece : List ℕ) (result : Result Turn ServeFault)
    → AnswersPiece replies old new t u piece result → Grows t u
piece_grows replies old new t u piece (Ok turn.More) answers = serves_grow replies old new t (record u { closed = false }) piece answers.0
piece_grows replies old new t u piece (Ok turn.Close) answers = serves_grow replies old new t (record u { closed = true }) answers.0 answers.3
piece_grows replies old new t u piece (Err fault) answers =
    let grown = serves_grow replies old answers.3 t answers.4 answers.0 answers.5 in
    (grown.0, fails_same replies answers.4 u answers.7.given fault answers.7.fails ∙ grown.1)

-- what is said after a failure is the last
pub halts : {G S : Type 0} (replies : G → S → List ℕ → Result Replied Halt → G → S → Type 0) (old : RequestFeed) (t : Talk G S) (fault : ServeFault) (g : G) (s : S) (count : ℕ) (said after : List ℕ)
    → FailsNext replies old t fault (standing g s count said false) → (after ≡ said ++ halt_answer fault) ⊎ (after ≡ said) → Halts replies old t fault (standing g s count after true)
halts replies old t fault g s count said after fails either = record {
  unanswered = standing g s count said false;
  fails = fails;
  last = elim either [
    | inl is ↦ inl (ap (λ (l : List ℕ). standing g s count l true) is)
    | inr is ↦ inr (ap (λ (l : List ℕ). standing g s count l true) is)
  ];
}

pub halt_grows : (before said after answer : List ℕ) → (more : List ℕ) × (said ≡ before ++ more) → (after ≡ said ++ answer) ⊎ (after ≡ said) → (more : List ℕ) × (after ≡ before ++ more)
halt_grows before said after answer grown = elim [
  | inl is ↦ (grown.0 ++ answer, is ∙ ap (λ (l : List ℕ). l ++ answer) grown.1 ∙ append_assoc before grown.0 answer)
  | inr is ↦ (grown.0, is ∙ grown.1)
]

-- ---- with other bytes said before

abbrev pub after : {G S : Type 0} → List ℕ → Talk G S → Talk G S
after bytes t = record t { said = bytes ++ t.said }

after_spoken : {G S : Type 0} (bytes more : List ℕ) (closed : Bool) (t : Talk G S) → after bytes (spoken t more closed) ≡ spoken (after bytes t) more closed
after_spoken bytes more closed t = ap (λ (l : List ℕ). record t { said = l; closed = closed }) (sym (append_assoc bytes t.said more))

answers_after : {G S : Type 0} (bytes : List ℕ) (t u : Talk G S) (close : Bool) (result : Result Replied Halt) → Answers t close result u → Answers (after bytes t) close result (after bytes u)
answers_after bytes t u close (Ok replied) is = ap (after bytes) is ∙ after_spoken bytes (response_text replied.code replied.body close) close t
answers_after bytes t u close (Err halt.Cut) is = ap (after bytes) is
answers_after bytes t u close (Err halt.Site) is = is
answers_after bytes t u close (Err halt.Memory) is = is

says_after : {G S : Type 0} (replies : G → S → List ℕ → Result Replied Halt → G → S → Type 0) (bytes : List ℕ) (t u : Talk G S) (given : RequestTaken) → SaysTo replies t given u → SaysTo replies (after bytes t) given (after bytes u)
says_after replies bytes t u (Ok More) is = ap (after bytes) is
says_after replies bytes t u (Ok Continue) is = ap (after bytes) is ∙ after_spoken bytes interim_text false t
says_after replies bytes t u (Ok (Request asked)) is = record { result = is.result; replied = is.replied; answers = answers_after bytes (handed t u.responder u.site) u (closes_at t.count asked) is.result is.answers }
says_after replies bytes t u (Err f) is = (is.0, ap (after bytes) is.1 ∙ after_spoken bytes _ true t)

talks_after : {G S : Type 0} (replies : G → S → List ℕ → Result Replied Halt → G → S → Type 0) (bytes : List ℕ) (t u : Talk G S) (calls : List (Call RequestTaken)) → Talks replies t calls u → Talks replies (after bytes t) calls (after bytes u)
talks_after replies bytes t u [] is = ap (after bytes) is
talks_after replies bytes t u (fed piece ∷ calls) is = talks_after replies bytes t u calls is
talks_after replies bytes t u (took given ∷ calls) is =
    (is.0, after bytes is.1, says_after replies bytes t is.1 given is.2, talks_after replies bytes is.1 u calls is.3)

pub serves_after : {G S : Type 0} (replies : G → S → List ℕ → Result Replied Halt → G → S → Type 0) (bytes : List ℕ) (old new : RequestFeed) (t u : Talk G S) (piece : List ℕ) → Serves replies old new t u piece → Serves replies old new (after bytes t) (after bytes u) piece
serves_after replies bytes old new t u piece serves = record { calls = serves.calls; runs = serves.runs; bytes_are = serves.bytes_are; talks = talks_after replies bytes t u serves.calls serves.talks }

fails_after : {G S : Type 0} (replies : G → S → List ℕ → Result Replied Halt → G → S → Type 0) (bytes : List ℕ) (t u : Talk G S) (given : RequestTaken) (fault : ServeFault) → Fails replies t given fault u → Fails replies (after bytes t) given fault (after bytes u)
fails_after replies bytes t u (Ok More) fault fails = fails
fails_after replies bytes t u (Ok Continue) fault fails = (fails.0, ap (after bytes) fails.1)
fails_after replies bytes t u (Ok (Request asked)) fault fails = (fails.0, fails.1, fails.2, ap (after bytes) fails.3)
fails_after replies bytes t u (Err f) fault fails = (fails.0, ap (after bytes) fails.1)

pub halts_after : {G S : Type 0} (replies : G → S → List ℕ → Result Replied Halt → G → S → Type 0) (bytes : List ℕ) (old : RequestFeed) (t u : Talk G S) (fault : ServeFault) → Halts replies old t fault u → Halts replies old (after bytes t) fault (after bytes u)
halts_after replies bytes old t u fault is = record {
  unanswered = after bytes is.unanswered;
  fails = record { given = is.fails.given; left = is.fails.left; takes = is.fails.takes; fails = fails_after replies bytes t is.unanswered is.fails.given fault is.fails.fails };
  last = elim (is.last) [
    | inl same ↦ inl (ap (after bytes) same ∙ after_spoken bytes (halt_answer fault) true is.unanswered)
    | inr same ↦ inr (ap (after bytes) same)
  ];
}
