-- Each piece that is heard leaves less to hear: more bytes are held, or more interim answers were passed over, of which there are at most sixteen.
use Rattle.std.proofs.Common.{◌≡◌, ◌≢◌, ℕ, ◌+◌, ◌-◌, ◌*◌, ◌<◌, ◌≤◌, ◌⊎◌, ◌&&◌, inl, inr, true, false, Bool, List, [], ◌∷◌, ◌++◌, length, refl, ap, ◌∙◌, sym, subst, arith, Option, Some, None}
use Rattle.std.specs.Prelude.{nat_le, Ok}
use Rattle.std.specs.List.{flat_map, AllByRecursion}
use Rattle.std.proofs.lemmas.Bool.{eq-eqb, cond-true, leb-false}
use Rattle.std.proofs.lemmas.List.{length-append}
use Rattle.httparse.specs.Grammar.{status_code}
use Rattle.satp_base.specs.Wires.{Traffic}
use Rattle.satp_http.specs.declared.fault.HttpFault.{HttpFault}
use Rattle.satp_http.specs.Heads.{server, room, most_interim, Head}
use Rattle.satp_http.specs.Table.{first_fault, table, is_interim, interim_after}
use Rattle.satp_http.specs.HttpText.{AreSent, Sent, interim_behind, sent_bytes}
use Rattle.satp_http.specs.Feeds.{AnswerFeed, IsInterim, TakesAnswer}
use Rattle.satp_post.specs.Posting.{Feeds}

-- the second row of a table without a fault doesn't hold
second_row : (a b : Bool) (x y : HttpFault) (rest : List (Bool × HttpFault)) → first_fault ((a, x) ∷ (b, y) ∷ rest) ≡ None → b ≡ false
second_row true b x y rest is = let bad : Some x ≡ None = is in cc
second_row false true x y rest is = let bad : Some y ≡ None = is in cc
second_row false false x y rest is = refl

-- the test of the second row
second : List (Bool × HttpFault) → Bool
second [] = false
second (row ∷ []) = false
second (row ∷ next ∷ rows) = next.0

not_second : (rows : List (Bool × HttpFault)) → first_fault rows ≡ None → second rows ≡ false
unfolding second
not_second [] is = refl
not_second (row ∷ []) is = refl
not_second ((a, x) ∷ (b, y) ∷ rows) is = second_row a b x y rows is

few : (n : ℕ) (head : Head server) → first_fault (table server n head) ≡ None → is_interim (status_code head) ≡ true → n < 16
unfolding second
few n head clean interim =
    let row : (is_interim (status_code head) && nat_le most_interim n) ≡ false = not_second (table server n head) clean in
    let less : nat_le most_interim n ≡ false = subst (λ (b : Bool). (b && nat_le most_interim n) ≡ false) interim row in
    leb-false most_interim n less

-- either nothing was passed over, or one of the sixteen
passed_over : (before after : ℕ) (held rest : List ℕ) (skipped : List (Sent server)) → AreSent server before skipped → AllByRecursion IsInterim skipped → after ≡ interim_behind server before skipped → held ≡ flat_map (sent_bytes server) skipped ++ rest
    → ((after ≡ before) × (rest ≡ held)) ⊎ ((before < after) × (after ≤ 16))
passed_over before after held rest [] each all after_is held_is = inl (after_is, sym held_is)
passed_over before after held rest (s ∷ more) each all after_is held_is =
    let interim : is_interim (status_code s.head) ≡ true = eq-eqb (status_code s.head) 100 all.0 in
    let next : interim_after server before s.head ≡ before + 1 = cond-true (is_interim (status_code s.head)) (before + 1) 0 interim in
    let room = few before s.head each.0.clean interim in
    let later = passed_over (before + 1) after (flat_map (sent_bytes server) more ++ rest) rest more (subst (λ (n : ℕ). AreSent server n more) next each.1) all.1 (after_is ∙ ap (λ (n : ℕ). interim_behind server n more) next) refl in
    elim later [ inl same ↦ inr (omega (arith, same.0), omega (arith, same.0, room)) | inr grown ↦ inr (omega (arith, grown.0), grown.1) ]

-- the measure of a hearing
abbrev pub left : AnswerFeed → ℕ
left feed = (16 - feed.passed) * (room + 1) + (room - length feed.held)

less_left : (p q h k n : ℕ) → ((q ≡ p) × (k ≡ h)) ⊎ ((p < q) × (q ≤ 16)) → k + n ≤ room → 0 < n → (16 - q) * (room + 1) + (room - (k + n)) < (16 - p) * (room + 1) + (room - h)
less_left p q h k n = elim [
  | inl same ↦ λ fits some. rw same.0 (rw same.1 (omega (arith, fits, some, same.1)))
  | inr grown ↦ λ fits some. omega (arith, grown.0, grown.1, fits, some)
]

some_length : (piece : List ℕ) → piece ≢ [] → 0 < length piece
some_length [] none = absurd (none refl)
some_length (x ∷ piece) none = omega arith

pub smaller : (feed middle new : AnswerFeed) (piece : List ℕ) (telling later : Option Traffic) → TakesAnswer feed middle (Ok None) → Feeds piece middle new telling later → left new < left feed
smaller feed middle new piece telling later takes feeds =
    let p = takes.2 in
    let over = passed_over feed.passed middle.passed feed.held middle.held p.skipped p.each p.interim p.after_is p.held_is in
    let lengths : ((middle.passed ≡ feed.passed) × (length middle.held ≡ length feed.held)) ⊎ ((feed.passed < middle.passed) × (middle.passed ≤ 16)) =
    elim over [ inl same ↦ inl (same.0, ap length same.1) | inr grown ↦ inr grown ] in
    let held : length new.held ≡ length middle.held + length piece = ap (λ (f : AnswerFeed). length f.held) feeds.grows ∙ length-append middle.held piece in
    let passed : new.passed ≡ middle.passed = ap (λ (f : AnswerFeed). f.passed) feeds.grows in
    let less = less_left feed.passed middle.passed (length feed.held) (length middle.held) (length piece) lengths (omega (arith, held, feeds.fits)) (some_length piece feeds.some) in
    rw passed (rw held less)
