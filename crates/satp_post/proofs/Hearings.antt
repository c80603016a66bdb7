-- Hearings one after the other.
use Rattle.std.proofs.Common.{◌≡◌, ℕ, inl, inr, List, [], ◌∷◌, ◌++◌, refl, ap, ◌∙◌, sym, subst, append_assoc, Some, None, ◌==◌}
use Rattle.std.specs.Prelude.{Ok, Err}
use Rattle.std.specs.List.{flat_map, AllByRecursion}
use Rattle.std.proofs.lemmas.Bool.{eq-eqb, ne_eqb, cond-true, cond-false}
use Rattle.std.proofs.lemmas.List.{append-nil}
use Rattle.std.proofs.lemmas.Grind.{flat_map-append}
use Rattle.httparse.specs.Grammar.{status_code}
use Rattle.satp_http.specs.declared.responses.Answered.{Answered}
use Rattle.satp_http.specs.Heads.{server}
use Rattle.satp_http.specs.HttpText.{Sent, sent_bytes, AreSent, interim_behind, answer_of, answers_of, HttpAnswers}
use Rattle.satp_http.specs.Feeds.{AnswerFeed, no_answers, TakesAnswer, Passes, IsInterim, BeginsWithAnswer}
use Rattle.satp_http.specs.Runs.{AnswerTaken, Call, fed, took, came, AnswerRun, answer_given, answers_taken}
use Rattle.satp_http.proofs.RunLemmas.{answers_in_any_pieces}
use Rattle.satp_http.proofs.SentLemmas.{behind-append, sent-append}
use Rattle.satp_post.specs.Posting.{hearing}
use Rattle.satp_post.specs.Laws.{AnswersAreHeard, HearingsGoOn, LastHearingEnds}

-- ---- lists of calls

pub came_append : (xs ys : List (Call AnswerTaken)) → came (xs ++ ys) ≡ came xs ++ came ys
came_append [] ys = refl
came_append (fed piece ∷ xs) ys = ap (λ (l : List ℕ). piece ++ l) (came_append xs ys) ∙ sym (append_assoc piece (came xs) (came ys))
came_append (took given ∷ xs) ys = came_append xs ys

pub taken_append : (xs ys : List (Call AnswerTaken)) → answers_taken (xs ++ ys) ≡ answers_taken xs ++ answers_taken ys
taken_append [] ys = refl
taken_append (fed piece ∷ xs) ys = taken_append xs ys
taken_append (took given ∷ xs) ys = ap (λ (l : List Answered). answer_given given ++ l) (taken_append xs ys) ∙ sym (append_assoc (answer_given given) (answers_taken xs) (answers_taken ys))

pub run_append : (old middle new : AnswerFeed) (xs ys : List (Call AnswerTaken)) → AnswerRun old xs middle → AnswerRun middle ys new → AnswerRun old (xs ++ ys) new
run_append old middle new [] ys first then = subst (λ (f : AnswerFeed). AnswerRun f ys new) first then
run_append old middle new (fed piece ∷ xs) ys first then = run_append (record old { held = old.held ++ piece }) middle new xs ys first then
run_append old middle new (took given ∷ xs) ys first then = (first.0, first.1, run_append first.0 middle new xs ys first.2 then)

-- the last call of a run
pub last_call : (old new : AnswerFeed) (xs : List (Call AnswerTaken)) (given : AnswerTaken) → AnswerRun old (xs ++ took given ∷ []) new → (middle : AnswerFeed) × AnswerRun old xs middle × TakesAnswer middle new given
last_call old new [] given run = (old, refl, subst (λ (f : AnswerFeed). TakesAnswer old f given) (sym run.2) run.1)
last_call old new (fed piece ∷ xs) given run = last_call (record old { held = old.held ++ piece }) new xs given run
last_call old new (took other ∷ xs) given run =
    let later = last_call run.0 new xs given run.2 in
    (later.0, (run.0, run.1, later.1), later.2)

-- the calls of a hearing before its last
abbrev pub before_last : List (List ℕ) → List (Call AnswerTaken)
before_last [] = []
before_last (piece ∷ pieces) = took (Ok None) ∷ fed piece ∷ before_last pieces

pub hearing_is : (pieces : List (List ℕ)) (last : AnswerTaken) → hearing pieces last ≡ before_last pieces ++ took last ∷ []
hearing_is [] last = refl
hearing_is (piece ∷ pieces) last = ap (λ (l : List (Call AnswerTaken)). took (Ok None) ∷ fed piece ∷ l) (hearing_is pieces last)

none_before : (pieces : List (List ℕ)) → answers_taken (before_last pieces) ≡ []
none_before [] = refl
none_before (piece ∷ pieces) = none_before pieces

pub came_before : (pieces : List (List ℕ)) (last : AnswerTaken) → came (before_last pieces) ≡ came (hearing pieces last)
came_before [] last = refl
came_before (piece ∷ pieces) last = ap (λ (l : List ℕ). piece ++ l) (came_before pieces last)

pub hearing_gives : (pieces : List (List ℕ)) (last : AnswerTaken) → answers_taken (hearing pieces last) ≡ answer_given last
hearing_gives [] last = append-nil (answer_given last)
hearing_gives (piece ∷ pieces) last = hearing_gives pieces last

-- ---- whole answers, and then rest

-- these stood at the front, and then rest; `before` and `after` are the interim answers in a row
record Gives (before : ℕ) (bytes : List ℕ) (after : ℕ) (rest : List ℕ) : Type 0 where
  pub sent : List (Sent server)
  pub each : AreSent server before sent
  pub after_is : after ≡ interim_behind server before sent
  pub bytes_are : bytes ≡ flat_map (sent_bytes server) sent ++ rest

and_then : (n m k : ℕ) (bytes rest more left : List ℕ) → (x : Gives n bytes m rest) → (y : Gives m (rest ++ more) k left) → (g : Gives n (bytes ++ more) k left) × (g.sent ≡ x.sent ++ y.sent)
and_then n m k bytes rest more left x y = (
  record {
    sent = x.sent ++ y.sent;
    each = sent-append server n x.sent y.sent x.each (subst (λ (v : ℕ). AreSent server v y.sent) x.after_is y.each);
    after_is = y.after_is ∙ ap (λ (v : ℕ). interim_behind server v y.sent) x.after_is ∙ sym (behind-append server n x.sent y.sent);
    bytes_are = ap (λ (l : List ℕ). l ++ more) x.bytes_are ∙ append_assoc (flat_map (sent_bytes server) x.sent) rest more
        ∙ ap (λ (l : List ℕ). flat_map (sent_bytes server) x.sent ++ l) y.bytes_are ∙ sym (append_assoc (flat_map (sent_bytes server) x.sent) (flat_map (sent_bytes server) y.sent) left)
        ∙ ap (λ (l : List ℕ). l ++ left) (sym (flat_map-append (sent_bytes server) x.sent y.sent));
  },
  refl,
)

abbrev Step : AnswerFeed → AnswerFeed → AnswerTaken → Type 0
Step old new given = (g : Gives old.passed old.held new.passed new.held) × (answer_given given ≡ answers_of g.sent)

abbrev untouched : (old new : AnswerFeed) → new ≡ old → Gives old.passed old.held new.passed new.held
untouched old new same = record { sent = []; each = tt; after_is = ap (λ (v : AnswerFeed). v.passed) same; bytes_are = sym (ap (λ (v : AnswerFeed). v.held) same) }

abbrev passes : (n m : ℕ) (bytes rest : List ℕ) → (p : Passes n bytes m rest) → Gives n bytes m rest
passes n m bytes rest p = record { sent = p.skipped; each = p.each; after_is = p.after_is; bytes_are = p.held_is }

no_answers_of : (skipped : List (Sent server)) → AllByRecursion IsInterim skipped → answers_of skipped ≡ []
no_answers_of [] all = refl
no_answers_of (s ∷ more) all =
    (λ i. cond-true (status_code s.head == 100) [] (record { code = status_code s.head; body = s.body } ∷ []) (eq-eqb (status_code s.head) 100 all.0) i ++ answers_of more) ∙ no_answers_of more all.1

final_answer : (n : ℕ) (bytes rest : List ℕ) (answered : Answered) → BeginsWithAnswer n bytes answered rest → (g : Gives n bytes 0 rest) × (answered ∷ [] ≡ answers_of g.sent)
final_answer n bytes rest answered b =
    let other = ne_eqb (status_code b.sent.head) 100 b.final in (
      record {
        sent = b.sent ∷ [];
        each = (b.begins.0, tt);
        after_is = sym (cond-false (status_code b.sent.head == 100) _ 0 other);
        bytes_are = b.begins.1 ∙ ap (λ (l : List ℕ). l ++ rest) (sym (append-nil (sent_bytes server b.sent)));
      },
      ap (λ (a : Answered). a ∷ []) b.answered_is ∙ ap (λ (l : List Answered). l ++ []) (sym (cond-false (status_code b.sent.head == 100) [] (record { code = status_code b.sent.head; body = b.sent.body } ∷ []) other)),
    )

-- interim answers and then a final one
skipped_final : (n m : ℕ) (bytes held rest : List ℕ) (answered : Answered) → Passes n bytes m held → BeginsWithAnswer m held answered rest → (g : Gives n bytes 0 rest) × (answered ∷ [] ≡ answers_of g.sent)
skipped_final n m bytes held rest answered p b =
    let last = final_answer m held rest answered b in (
      record {
        sent = p.skipped ++ last.0.sent;
        each = sent-append server n p.skipped last.0.sent p.each (subst (λ (v : ℕ). AreSent server v last.0.sent) p.after_is last.0.each);
        after_is = last.0.after_is ∙ ap (λ (v : ℕ). interim_behind server v last.0.sent) p.after_is ∙ sym (behind-append server n p.skipped last.0.sent);
        bytes_are = p.held_is ∙ ap (λ (l : List ℕ). flat_map (sent_bytes server) p.skipped ++ l) last.0.bytes_are
            ∙ sym (append_assoc (flat_map (sent_bytes server) p.skipped) (flat_map (sent_bytes server) last.0.sent) rest) ∙ ap (λ (l : List ℕ). l ++ rest) (sym (flat_map-append (sent_bytes server) p.skipped last.0.sent));
      },
      last.1 ∙ (λ i. sym (no_answers_of p.skipped p.interim) i ++ answers_of last.0.sent) ∙ sym (flat_map-append answer_of p.skipped last.0.sent),
    )

step : (old new : AnswerFeed) (given : AnswerTaken) → TakesAnswer old new given → Step old new given
step old new (Ok None) takes = (passes old.passed new.passed old.held new.held takes.2, sym (no_answers_of takes.2.skipped takes.2.interim))
step old new (Ok (Some answered)) takes =
    let last = skipped_final old.passed takes.2 old.held takes.3 new.held answered takes.4 takes.5 in
    (record { sent = last.0.sent; each = last.0.each; after_is = ap (λ (v : AnswerFeed). v.passed) takes.1 ∙ last.0.after_is; bytes_are = last.0.bytes_are }, last.1)
step old new (Err f) takes = elim takes [
  | inl stuck ↦ (untouched old new stuck.1, refl)
  | inr rest ↦ elim rest [
    | inl found ↦ (passes old.passed new.passed old.held new.held found.2, sym (no_answers_of found.2.skipped found.2.interim))
    | inr memory ↦ (untouched old new memory.1, refl)
  ]
]

abbrev along : (n m : ℕ) (bytes other rest : List ℕ) → other ≡ bytes → (g : Gives n bytes m rest) → Gives n other m rest
along n m bytes other rest same g = record { sent = g.sent; each = g.each; after_is = g.after_is; bytes_are = same ∙ g.bytes_are }

run_gives : (old new : AnswerFeed) (calls : List (Call AnswerTaken)) → AnswerRun old calls new
    → (g : Gives old.passed (old.held ++ came calls) new.passed new.held) × (answers_taken calls ≡ answers_of g.sent)
run_gives old new [] same = (along old.passed new.passed old.held (old.held ++ []) new.held (append-nil old.held) (untouched old new same), refl)
run_gives old new (fed piece ∷ calls) run =
    let later = run_gives (record old { held = old.held ++ piece }) new calls run in
    (along old.passed new.passed ((old.held ++ piece) ++ came calls) (old.held ++ (piece ++ came calls)) new.held (sym (append_assoc old.held piece (came calls))) later.0, later.1)
run_gives old new (took given ∷ calls) run =
    let middle = run.0 in
    let first = step old middle given run.1 in
    let later = run_gives middle new calls run.2 in
    let both = and_then old.passed middle.passed new.passed old.held middle.held (came calls) new.held first.0 later.0 in
    (both.0, (λ i. first.1 i ++ later.1 i) ∙ sym (flat_map-append answer_of first.0.sent later.0.sent) ∙ ap answers_of (sym both.1))

-- ---- the laws

pub answers_are_heard : AnswersAreHeard
answers_are_heard calls feed run =
    let all = run_gives no_answers feed calls run in
    record { sent = all.0.sent; each = all.0.each; answers_are = all.1; heard_is = all.0.bytes_are }

pub hearings_go_on : HearingsGoOn
hearings_go_on calls pieces last old new before run = record {
  runs = run_append no_answers old new calls (hearing pieces last) before run;
  heard_is = came_append calls (hearing pieces last);
  answers_are = taken_append calls (hearing pieces last) ∙ ap (λ (l : List Answered). answers_taken calls ++ l) (hearing_gives pieces last);
}

pub last_hearing_ends : LastHearingEnds
last_hearing_ends calls pieces last end old new before run says =
    let split = last_call old new (before_last pieces) last (subst (λ (l : List (Call AnswerTaken)). AnswerRun old l new) (hearing_is pieces last) run) in
    let all = answers_in_any_pieces (calls ++ before_last pieces) split.0 new last end (run_append no_answers old split.0 calls (before_last pieces) before split.1) split.2 says in
    let answers : answers_taken (calls ++ before_last pieces) ≡ answers_taken calls = taken_append calls (before_last pieces) ∙ ap (λ (l : List Answered). answers_taken calls ++ l) (none_before pieces) ∙ append-nil (answers_taken calls) in
    let bytes : came (calls ++ before_last pieces) ≡ came calls ++ came (hearing pieces last) = came_append calls (before_last pieces) ∙ ap (λ (l : List ℕ). came calls ++ l) (came_before pieces last) in
    subst (λ (l : List ℕ). HttpAnswers (answers_taken calls) end l) bytes (subst (λ (l : List Answered). HttpAnswers l end (came (calls ++ before_last pieces))) answers all)
