-- Calls in any order.
use Rattle.std.proofs.Common.{◌≡◌, ℕ, inl, inr, List, [], ◌∷◌, ◌++◌, refl, ap, ◌∙◌, sym, subst, append_assoc, Option, Some, None, ◌==◌}
use Rattle.std.specs.Prelude.{Ok, Err}
use Rattle.std.specs.List.{flat_map, AllByRecursion}
use Rattle.std.proofs.lemmas.Bool.{eq-eqb, ne_eqb, cond-true, cond-false}
use Rattle.std.proofs.lemmas.List.{append-nil, map-append}
use Rattle.std.proofs.lemmas.Grind.{flat_map-append}
use Rattle.httparse.specs.Grammar.{status_code}
use Rattle.satp_http.specs.declared.fault.HttpFault.{HttpFault}
use Rattle.satp_http.specs.declared.requests.Asked.{Asked}
use Rattle.satp_http.specs.declared.requests.Taken.TheVariants.{More, Continue, Request}
use Rattle.satp_http.specs.declared.responses.Answered.{Answered}
use Rattle.satp_http.specs.Heads.{Sender, client, server}
use Rattle.satp_http.specs.HttpText.{HttpText, Sent, sent_bytes, AreSent, interim_behind, asked_of, requests_of, answer_of, answers_of, HasFault, IsUnfinished, Ends, HttpRequests, HttpAnswers}
use Rattle.satp_http.specs.Feeds.{RequestFeed, no_requests, TakesRequest, AnswerFeed, no_answers, TakesAnswer, Passes, IsInterim, BeginsWithAnswer}
use Rattle.satp_http.specs.Runs.{RequestTaken, AnswerTaken, Call, fed, took, came, RequestRun, request_given, requests_taken, SaysRequestsEnd, AnswerRun, answer_given, answers_taken, SaysAnswersEnd}
use Rattle.satp_http.specs.Laws.{RequestsInAnyPieces, AnswersInAnyPieces, RequestFaultInEachCutting, AnswerFaultInEachCutting}
use Rattle.satp_http.proofs.SentLemmas.{behind-append, sent-append}
use Rattle.satp_http.proofs.ReadingLemmas.{one_reading_of_requests, one_reading_of_answers, text_stays}

-- ---- what was taken off the front

-- these stood at the front, and then rest; `before` and `after` are the interim answers in a row
record Gives (by : Sender) (before : ℕ) (bytes : List ℕ) (after : ℕ) (rest : List ℕ) : Type 0 where
  pub sent : List (Sent by)
  pub each : AreSent by before sent
  pub after_is : after ≡ interim_behind by before sent
  pub bytes_are : bytes ≡ flat_map (sent_bytes by) sent ++ rest

abbrev nothing : (by : Sender) (n : ℕ) (bytes : List ℕ) → Gives by n bytes n bytes
nothing by n bytes = record { sent = []; each = tt; after_is = refl; bytes_are = refl }

abbrev more_behind : {by : Sender} {n m : ℕ} {bytes rest : List ℕ} (more : List ℕ) → Gives by n bytes m rest → Gives by n (bytes ++ more) m (rest ++ more)
more_behind {by} {rest = rest} more g = record {
  sent = g.sent;
  each = g.each;
  after_is = g.after_is;
  bytes_are = ap (λ (l : List ℕ). l ++ more) g.bytes_are ∙ append_assoc (flat_map (sent_bytes by) g.sent) rest more;
}

abbrev along : {by : Sender} {n m : ℕ} {bytes rest : List ℕ} (other : List ℕ) → other ≡ bytes → Gives by n bytes m rest → Gives by n other m rest
along other same g = record { sent = g.sent; each = g.each; after_is = g.after_is; bytes_are = same ∙ g.bytes_are }

abbrev with_after : {by : Sender} {n m : ℕ} {bytes rest : List ℕ} (after : ℕ) → after ≡ m → Gives by n bytes m rest → Gives by n bytes after rest
with_after after same g = record { sent = g.sent; each = g.each; after_is = same ∙ g.after_is; bytes_are = g.bytes_are }

abbrev and_then : {by : Sender} {n m k : ℕ} {bytes rest left : List ℕ} → Gives by n bytes m rest → Gives by m rest k left → Gives by n bytes k left
and_then {by} {n} {left = left} x y = record {
  sent = x.sent ++ y.sent;
  each = sent-append by n x.sent y.sent x.each (subst (λ (v : ℕ). AreSent by v y.sent) x.after_is y.each);
  after_is = y.after_is ∙ ap (λ (v : ℕ). interim_behind by v y.sent) x.after_is ∙ sym (behind-append by n x.sent y.sent);
  bytes_are = x.bytes_are ∙ ap (λ (l : List ℕ). flat_map (sent_bytes by) x.sent ++ l) y.bytes_are ∙ sym (append_assoc (flat_map (sent_bytes by) x.sent) (flat_map (sent_bytes by) y.sent) left) ∙ ap (λ (l : List ℕ). l ++ left) (sym (flat_map-append (sent_bytes by) x.sent y.sent));
}

text_of : {by : Sender} {m : ℕ} {bytes rest : List ℕ} (g : Gives by 0 bytes m rest) (end : Option HttpFault) → Ends by m rest end → HttpText by g.sent end bytes
text_of {by} {rest = rest} g end ends = record {
  each = g.each;
  rest = rest;
  bytes_are = g.bytes_are;
  ends = subst (λ (n : ℕ). Ends by n rest end) g.after_is ends;
}

-- ---- requests

abbrev held_of : RequestFeed → List ℕ
held_of feed = feed.held

-- a call of `take`, with what it gave
abbrev RequestStep : RequestFeed → RequestFeed → RequestTaken → Type 0
RequestStep old new given = (g : Gives client 0 old.held 0 new.held) × (request_given given ≡ requests_of g.sent)

abbrev kept : (old new : RequestFeed) → new.held ≡ old.held → Gives client 0 old.held 0 new.held
kept old new same = along old.held (sym same) (nothing client 0 new.held)

request_step : (old new : RequestFeed) (given : RequestTaken) → TakesRequest old new given → RequestStep old new given
request_step old new (Ok More) takes = (kept old new (ap held_of takes.1), refl)
request_step old new (Ok Continue) takes = (kept old new (ap held_of takes.1), refl)
request_step old new (Ok (Request asked)) takes =
    let begins = takes.3 in (
      record { sent = takes.2 ∷ []; each = (begins.0, tt); after_is = refl; bytes_are = begins.1 ∙ ap (λ (l : List ℕ). l ++ new.held) (sym (append-nil (sent_bytes client takes.2))) },
      ap (λ (a : Asked). a ∷ []) takes.4,
    )
request_step old new (Err f) takes = elim takes [
  | inl stuck ↦ (kept old new (ap held_of stuck.1), refl)
  | inr rest ↦ elim rest [ inl found ↦ (kept old new (ap held_of found.1), refl) | inr memory ↦ (kept old new (ap held_of memory.1), refl) ]
]

request_run : (old new : RequestFeed) (calls : List (Call RequestTaken)) → RequestRun old calls new
    → (g : Gives client 0 (old.held ++ came calls) 0 new.held) × (requests_taken calls ≡ requests_of g.sent)
request_run old new [] same = (along (old.held ++ []) (append-nil old.held) (kept old new (ap held_of same)), refl)
request_run old new (fed piece ∷ calls) run =
    let later = request_run (record old { held = old.held ++ piece }) new calls run in
    (along (old.held ++ (piece ++ came calls)) (sym (append_assoc old.held piece (came calls))) later.0, later.1)
request_run old new (took given ∷ calls) run =
    let middle = run.0 in
    let first = request_step old middle given run.1 in
    let later = request_run middle new calls run.2 in (
      and_then (more_behind (came calls) first.0) later.0,
      (λ i. first.1 i ++ later.1 i) ∙ sym (map-append asked_of first.0.sent later.0.sent),
    )

request_ends : (old new : RequestFeed) (given : RequestTaken) (end : Option HttpFault) → TakesRequest old new given → SaysRequestsEnd given end → Ends client 0 new.held end × (request_given given ≡ [])
request_ends old new (Ok More) end takes says =
    let unfinished : IsUnfinished client 0 old.held = elim (takes.2) [ inl part ↦ inl part | inr waits ↦ elim waits [ inl a ↦ inr (a.0, a.1) | inr a ↦ inr (a.0.0, a.0.1) ] ] in
    (subst (λ (e : Option HttpFault). Ends client 0 new.held e) (sym says) (subst (IsUnfinished client 0) (sym (ap held_of takes.1)) unfinished), refl)
request_ends old new (Ok Continue) end takes says =
    (subst (λ (e : Option HttpFault). Ends client 0 new.held e) (sym says) (subst (IsUnfinished client 0) (sym (ap held_of takes.1)) (inr (takes.2.0, takes.2.1))), refl)
request_ends old new (Ok (Request asked)) end takes says = absurd says
request_ends old new (Err f) end takes says =
    let there : HasFault client 0 new.held f = elim takes [
      | inl stuck ↦ subst (λ (l : List ℕ). HasFault client 0 l f) (sym (ap held_of stuck.1)) stuck.2
      | inr rest ↦ elim rest [
        | inl found ↦ subst (λ (l : List ℕ). HasFault client 0 l f) (sym (ap held_of found.1)) found.2
        | inr memory ↦ absurd (says.0 memory.2)
      ]
    ] in
    (subst (λ (e : Option HttpFault). Ends client 0 new.held e) (sym says.1) there, refl)

pub requests_in_any_pieces : RequestsInAnyPieces
requests_in_any_pieces calls feed new given end run takes says =
    let before = request_run no_requests feed calls run in
    let last = request_step feed new given takes in
    let ends = request_ends feed new given end takes says in
    let all = and_then before.0 last.0 in (
      all.sent,
      before.1 ∙ sym (append-nil (requests_of before.0.sent)) ∙ ap (λ (l : List Asked). requests_of before.0.sent ++ l) (sym ends.1 ∙ last.1) ∙ sym (map-append asked_of before.0.sent last.0.sent),
      text_of all end ends.0,
    )

pub request_fault_in_each_cutting : RequestFaultInEachCutting
request_fault_in_each_cutting calls others feed new held left given answer f end more run takes says other_run other_takes other_says same =
    let x = requests_in_any_pieces calls feed new given (Some f) run takes says in
    let y = requests_in_any_pieces others held left answer end other_run other_takes other_says in
    let longer : HttpRequests (requests_taken calls) (Some f) (came others) =
    (x.0, x.1, subst (λ (l : List ℕ). HttpText client x.0 (Some f) l) (sym same) (text_stays client x.0 f (came calls) more x.2)) in
    let one = one_reading_of_requests (requests_taken calls) (requests_taken others) (Some f) end (came others) longer y in
    (sym one.0, (longer, one.1))

-- ---- answers

abbrev answers_held : AnswerFeed → List ℕ
answers_held feed = feed.held

abbrev AnswerStep : AnswerFeed → AnswerFeed → AnswerTaken → Type 0
AnswerStep old new given = (g : Gives server old.passed old.held new.passed new.held) × (answer_given given ≡ answers_of g.sent)

abbrev untouched : (old new : AnswerFeed) → new ≡ old → Gives server old.passed old.held new.passed new.held
untouched old new same = record { sent = []; each = tt; after_is = ap (λ (v : AnswerFeed). v.passed) same; bytes_are = sym (ap answers_held same) }

abbrev passes : {n m : ℕ} {bytes rest : List ℕ} → Passes n bytes m rest → Gives server n bytes m rest
passes p = record { sent = p.skipped; each = p.each; after_is = p.after_is; bytes_are = p.held_is }

no_answers_of : (skipped : List (Sent server)) → AllByRecursion IsInterim skipped → answers_of skipped ≡ []
no_answers_of [] all = refl
no_answers_of (s ∷ more) all =
    (λ i. cond-true (status_code s.head == 100) [] (record { code = status_code s.head; body = s.body } ∷ []) (eq-eqb (status_code s.head) 100 all.0) i ++ answers_of more) ∙ no_answers_of more all.1

final_answer : (n : ℕ) (bytes rest : List ℕ) (answered : Answered) → BeginsWithAnswer n bytes answered rest → (g : Gives server n bytes 0 rest) × (answered ∷ [] ≡ answers_of g.sent)
final_answer n bytes rest answered b =
    let other = ne_eqb (status_code b.sent.head) 100 b.final in (
      record {
        sent = b.sent ∷ [];
        each = (b.begins.0, tt);
        after_is = sym (cond-false (status_code b.sent.head == 100) _ 0 other);
        bytes_are = b.begins.1 ∙ ap (λ (l : List ℕ). l ++ rest) (sym (append-nil (sent_bytes server b.sent)));
      },
      ap (λ (a : Answered). a ∷ []) b.answered_is ∙ ap (λ (l : List Answered). l ++ []) (sym (cond-false (status_code b.sent.head == 100) [] (record { code = status_code b.sent.head; body = b.sent.body } ∷ []) other)),
    )

answer_step : (old new : AnswerFeed) (given : AnswerTaken) → TakesAnswer old new given → AnswerStep old new given
answer_step old new (Ok None) takes = (passes takes.2, sym (no_answers_of takes.2.skipped takes.2.interim))
answer_step old new (Ok (Some answered)) takes =
    let skips = passes takes.4 in
    let last = final_answer takes.2 takes.3 new.held answered takes.5 in (
      with_after new.passed (ap (λ (v : AnswerFeed). v.passed) takes.1) (and_then skips last.0),
      last.1 ∙ (λ i. sym (no_answers_of takes.4.skipped takes.4.interim) i ++ answers_of last.0.sent) ∙ sym (flat_map-append answer_of skips.sent last.0.sent),
    )
answer_step old new (Err f) takes = elim takes [
  | inl stuck ↦ (untouched old new stuck.1, refl)
  | inr rest ↦ elim rest [ inl found ↦ (passes found.2, sym (no_answers_of found.2.skipped found.2.interim)) | inr memory ↦ (untouched old new memory.1, refl) ]
]

answer_run : (old new : AnswerFeed) (calls : List (Call AnswerTaken)) → AnswerRun old calls new
    → (g : Gives server old.passed (old.held ++ came calls) new.passed new.held) × (answers_taken calls ≡ answers_of g.sent)
answer_run old new [] same = (along (old.held ++ []) (append-nil old.held) (untouched old new same), refl)
answer_run old new (fed piece ∷ calls) run =
    let later = answer_run (record old { held = old.held ++ piece }) new calls run in
    (along (old.held ++ (piece ++ came calls)) (sym (append_assoc old.held piece (came calls))) later.0, later.1)
answer_run old new (took given ∷ calls) run =
    let middle = run.0 in
    let first = answer_step old middle given run.1 in
    let later = answer_run middle new calls run.2 in (
      and_then (more_behind (came calls) first.0) later.0,
      (λ i. first.1 i ++ later.1 i) ∙ sym (flat_map-append answer_of first.0.sent later.0.sent),
    )

answer_ends : (old new : AnswerFeed) (given : AnswerTaken) (end : Option HttpFault) → TakesAnswer old new given → SaysAnswersEnd given end → Ends server new.passed new.held end × (answer_given given ≡ [])
answer_ends old new (Ok None) end takes says =
    (subst (λ (e : Option HttpFault). Ends server new.passed new.held e) (sym says) takes.3, refl)
answer_ends old new (Ok (Some answered)) end takes says = absurd says
answer_ends old new (Err f) end takes says =
    let there : HasFault server new.passed new.held f = elim takes [
      | inl stuck ↦ subst (λ (v : AnswerFeed). HasFault server v.passed v.held f) (sym stuck.1) stuck.2
      | inr rest ↦ elim rest [ inl found ↦ found.3 | inr memory ↦ absurd (says.0 memory.2) ]
    ] in
    (subst (λ (e : Option HttpFault). Ends server new.passed new.held e) (sym says.1) there, refl)

pub answers_in_any_pieces : AnswersInAnyPieces
answers_in_any_pieces calls feed new given end run takes says =
    let before = answer_run no_answers feed calls run in
    let last = answer_step feed new given takes in
    let ends = answer_ends feed new given end takes says in
    let all = and_then before.0 last.0 in (
      all.sent,
      before.1 ∙ sym (append-nil (answers_of before.0.sent)) ∙ ap (λ (l : List Answered). answers_of before.0.sent ++ l) (sym ends.1 ∙ last.1) ∙ sym (flat_map-append answer_of before.0.sent last.0.sent),
      text_of all end ends.0,
    )

pub answer_fault_in_each_cutting : AnswerFaultInEachCutting
answer_fault_in_each_cutting calls others feed new held left given answer f end more run takes says other_run other_takes other_says same =
    let x = answers_in_any_pieces calls feed new given (Some f) run takes says in
    let y = answers_in_any_pieces others held left answer end other_run other_takes other_says in
    let longer : HttpAnswers (answers_taken calls) (Some f) (came others) =
    (x.0, x.1, subst (λ (l : List ℕ). HttpText server x.0 (Some f) l) (sym same) (text_stays server x.0 f (came calls) more x.2)) in
    let one = one_reading_of_answers (answers_taken calls) (answers_taken others) (Some f) end (came others) longer y in
    (sym one.0, (longer, one.1))
