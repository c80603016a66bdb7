use Rattle.std.proofs.Common.{◌≡◌, ◌≢◌, ◌≤◌, ◌<◌, ◌⊎◌, ◌+◌, ℕ, true, List, [], ◌∷◌, ◌++◌, length, Some, refl, sym, ap, ◌∙◌, inl, inr, ⊎_elim, arith, append_assoc, lit≤, lit<, rules}
use Rattle.std.proofs.lemmas.Bool.{and_parts}
use Rattle.satp_base.specs.Founding.{Founding}
use Rattle.satp_base.specs.Lines.{Front, Runs, StopsAt, are_lines, is_line, lines_text}
use Rattle.satp_base.specs.declared.genesis.Asset.{Asset}
use Rattle.satp_base.proofs.LineLemmas.{one_cut}
use Rattle.satp_examples.specs.Genesis.{Takes, a, a_gap_b, b}
use Rattle.satp_examples.specs.Samples.{gold, salt}
use Rattle.satp_examples.proofs.Books.{gold_genesis, no_genesis}
use Rattle.satp_examples.proofs.genesis.law_genesis.Goals as goal

-- ---- foundings

pub returns-clause-founded : goal.returns-clause-founded
returns-clause-founded c = record {
  with_nothing = no_genesis;
  one_hold = gold_genesis;
  past_the_cap = λ g. let bad : 1001 ≤ 1000 = g.capped gold in absurd (omega (arith, bad));
  of_an_unknown_asset = λ g. let bad : 1 ≤ 0 = g.capped salt in absurd (omega (arith, bad));
  one_name_twice = λ g. let bad = g.apart.0 in absurd cc;
}

-- ---- lines of a genesis

first_cap : List Asset → ℕ
first_cap [] = 0
first_cap (x ∷ xs) = x.cap.number

cap_is : (cap : ℕ) → Some 1000 ≡ Some cap → cap ≡ 1000
cap_is cap e = cc

others_first : (x y : ℕ) → x ≡ 20 → y ≡ 1000 → x ≡ y → ⊥
others_first x y p q e = omega (arith, p, q, e)

pub returns-clause-added : goal.returns-clause-added
unfolding first_cap
returns-clause-added c = record {
  first_asset = record { few = lit< tt; unknown = refl; added = refl };
  behind_another = record { few = lit< tt; unknown = refl; added = refl };
  sixteenth = record { few = lit< tt; unknown = refl; added = refl };
  up_to_the_cap = record { few = lit< tt; cap = 1000; known = refl; fits = lit≤ tt; added = refl };
  not_a_name_again = λ new x. let bad = x.unknown in absurd cc;
  not_a_seventeenth = λ new x. let bad : 16 < 16 = x.few in absurd (omega (arith, bad));
  not_before_the_others = λ x. others_first _ _ refl refl (ap (λ (f : Founding). first_cap f.assets) x.added);
  not_past_the_cap = λ new x. let is = cap_is x.cap x.known in let bad : 500 + 501 ≤ x.cap = x.fits in absurd (omega (arith, is, bad));
  not_of_an_unknown_asset = λ new x. let bad = x.known in absurd cc;
}

-- ---- lines of a text

takes_a : (old : List (List ℕ)) → Takes old a (old ++ a ∷ [])
takes_a old = (search rules, refl)

takes_b : (old : List (List ℕ)) → Takes old b (old ++ b ∷ [])
takes_b old = (search rules, refl)

no_feed : (l behind : List ℕ) → [] ≡ l ++ 10 ∷ behind → ⊥
no_feed [] behind e = absurd cc
no_feed (x ∷ l) behind e = absurd cc

tail : (x y : ℕ) (xs ys : List ℕ) → x ∷ xs ≡ y ∷ ys → xs ≡ ys
tail x y xs ys e = cc

-- the line before the feed is empty, and isn't taken
empty_line : (l behind : List ℕ) → is_line l ≡ true → 10 ∷ [] ≡ l ++ 10 ∷ behind → (next : List (List ℕ)) → ¬ Takes (a ∷ []) l next
empty_line [] behind is e next t = t.0 refl
empty_line (x ∷ l) behind is e next t = no_feed l behind (tail _ _ _ _ e)

open_line : (l behind : List ℕ) → is_line l ≡ true → 98 ∷ [] ≡ l ++ 10 ∷ behind → (next : List (List ℕ)) → ¬ Takes (a ∷ []) l next
open_line [] behind is e next t = absurd cc
open_line (x ∷ l) behind is e next t = no_feed l behind (tail _ _ _ _ e)

no_last_feed : (lines : List (List ℕ)) → 97 ∷ [] ≡ lines_text lines → ⊥
no_last_feed [] e = absurd cc
no_last_feed ([] ∷ lines) e = absurd cc
no_last_feed ((x ∷ l) ∷ lines) e = no_feed l _ (tail _ _ _ _ e)

first_taken : (lines : List (List ℕ)) (rest : List ℕ) (reached : List (List ℕ)) → 97 ∷ 10 ∷ 10 ∷ [] ≡ lines_text lines ++ rest → Runs Takes [] lines reached → 1 ≡ length lines + 1
    → ((l behind : List ℕ) → is_line l ≡ true → rest ≡ l ++ 10 ∷ behind → (next : List (List ℕ)) → ¬ Takes reached l next) → ⊥
first_taken [] rest reached whole runs count refused = refused a (10 ∷ []) refl (sym whole) (reached ++ a ∷ []) (takes_a reached)
first_taken (l ∷ lines) rest reached whole runs count refused = absurd (omega (arith, count))

nothing_left : (lines : List (List ℕ)) (rest : List ℕ) → [] ≡ lines_text lines ++ rest → rest ≢ [] → ⊥
nothing_left [] rest whole more = more (sym whole)
nothing_left ([] ∷ lines) rest whole more = absurd cc
nothing_left ((x ∷ l) ∷ lines) rest whole more = absurd cc

pub returns-clause-lines : goal.returns-clause-lines
returns-clause-lines c = record {
  none = record { lines = []; whole = refl; each = refl; runs = refl; short = lit≤ tt };
  two = record { lines = a ∷ b ∷ []; whole = refl; each = refl; runs = (a ∷ [], takes_a [], (a ∷ b ∷ [], takes_b (a ∷ []), refl)); short = lit≤ tt };
  one_byte_too_long = (refl, lit< tt);
  an_empty_line = (lit≤ tt, record { lines = a ∷ []; rest = 10 ∷ []; reached = a ∷ []; whole = refl; each = refl; runs = (a ∷ [], takes_a [], refl); counted = refl; more = search rules; refused = empty_line });
  an_open_line = (lit≤ tt, record { lines = a ∷ []; rest = b; reached = a ∷ []; whole = refl; each = refl; runs = (a ∷ [], takes_a [], refl); counted = refl; more = search rules; refused = open_line });
  not_past_the_most = λ lines h. let bad : 4 ≤ 3 = h.short in absurd (omega (arith, bad));
  not_without_the_last_feed = λ lines h. no_last_feed h.lines h.whole;
  not_at_another_line = λ h. let s = h.1 in first_taken s.lines s.rest s.reached s.whole s.runs s.counted s.refused;
  not_long_by_its_most = λ n h. let bad : 4 < 4 = h.1 in absurd (omega (arith, bad));
  not_by_no_line = λ number h. let s = h.1 in nothing_left s.lines s.rest s.whole s.more;
  not_a_line_past_the_most = λ number h. let bad : 4 ≤ 3 = h.0 in absurd (omega (arith, bad));
}

-- ---- what is there behind a fault

gap_line : (l behind : List ℕ) → is_line l ≡ true → 10 ∷ 98 ∷ 10 ∷ [] ≡ l ++ 10 ∷ behind → (next : List (List ℕ)) → ¬ Takes (a ∷ []) l next
gap_line l behind is e next t = t.0 (sym (one_cut 10 [] l (98 ∷ 10 ∷ []) behind refl is e).0)

-- the lines before the gap: none, or the first
before_gap : (lines : List (List ℕ)) (rest : List ℕ) (reached : List (List ℕ)) → a_gap_b ≡ lines_text lines ++ rest → are_lines lines ≡ true → Runs Takes [] lines reached → ((length lines ≡ 0) × (reached ≡ [])) ⊎ (reached ≡ a ∷ [])
before_gap [] rest reached whole each runs = inl (refl, runs)
before_gap (l ∷ []) rest reached whole each (next, takes, is) =
    let first = one_cut 10 a l (10 ∷ 98 ∷ 10 ∷ []) rest refl (and_parts _ _ each).0 (whole ∙ append_assoc l (10 ∷ []) rest) in
    inr (is ∙ takes.1 ∙ ap (λ (x : List ℕ). x ∷ []) (sym first.0))
before_gap (l ∷ m ∷ ls) rest reached whole each (next, takes, (more, second, runs)) =
    let parts = and_parts _ _ each in
    let first = one_cut 10 a l (10 ∷ 98 ∷ 10 ∷ []) (lines_text (m ∷ ls) ++ rest) refl parts.0 (whole ∙ append_assoc l (10 ∷ lines_text (m ∷ ls)) rest) in
    let gap = one_cut 10 [] m (98 ∷ 10 ∷ []) (lines_text ls ++ rest) refl (and_parts _ _ parts.1).0 (first.1 ∙ append_assoc m (10 ∷ lines_text ls) rest) in
    absurd (second.0 (sym gap.0))

one_line : (s : StopsAt Takes a_gap_b [] 2) → s.reached ≡ a ∷ []
one_line s = ⊎_elim (λ none. absurd (omega (arith, s.counted, none.0))) (λ one. one) (before_gap s.lines s.rest s.reached s.whole s.each s.runs)

no_two_lines : (second : List ℕ) → Front Takes a_gap_b [] (a ∷ second ∷ []) → ⊥
no_two_lines second h =
    ⊎_elim (λ none. let bad : 2 ≡ 0 = ap length none.1 in omega (arith, bad)) (λ one. let bad : 2 ≡ 1 = ap length one in omega (arith, bad)) (before_gap h.lines h.rest (a ∷ second ∷ []) h.whole h.each h.runs)

pub returns-clause-left : goal.returns-clause-left
returns-clause-left c = record {
  those_before = (record { lines = a ∷ []; rest = 10 ∷ 98 ∷ 10 ∷ []; reached = a ∷ []; whole = refl; each = refl; runs = (a ∷ [], takes_a [], refl); counted = refl; more = search rules; refused = gap_line }, refl);
  not_nothing = λ h. let same = h.1 ∙ one_line h.0 in absurd cc;
  not_those_behind = λ h. let same = h.1 ∙ one_line h.0 in absurd cc;
  nothing_of_a_long_text = refl;
  not_its_first_line = λ h. absurd cc;
  one = record { lines = a ∷ []; rest = 98 ∷ 10 ∷ []; whole = refl; each = refl; runs = (a ∷ [], takes_a [], refl) };
  not_past_a_refused_line = no_two_lines b;
  of_no_line = record { lines = []; rest = a_gap_b; whole = refl; each = refl; runs = refl };
  of_all_lines = record { lines = a ∷ b ∷ []; rest = []; whole = refl; each = refl; runs = (a ∷ [], takes_a [], (a ∷ b ∷ [], takes_b (a ∷ []), refl)) };
  not_with_an_empty_line = no_two_lines [];
}
