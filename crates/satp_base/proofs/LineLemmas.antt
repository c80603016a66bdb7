-- Lines that are read one after the other.
use Rattle.std.proofs.Common.{◌≡◌, ◌≢◌, ℕ, zero, suc, ◌+◌, ◌-◌, ◌<◌, ◌≤◌, ◌==◌, Bool, true, false, not, cond, List, [], ◌∷◌, ◌++◌, length, take, drop, Option, Some, None, refl, ap, ap₂, subst, sym, ◌∙◌, arith, append_assoc, length-append, length-drop, add-one}
use Rattle.std.specs.Prelude.{position}
use Rattle.std.specs.List.{position_from}
use Rattle.std.proofs.lemmas.Bool.{and_parts, and_from, eqb-true, eq-eqb}
use Rattle.std.proofs.lemmas.Iterator.Adapters.{position_from-zero}
use Rattle.std.proofs.lemmas.List.{drop-take, take-append-drop}
use Rattle.std.proofs.lemmas.Grind.{common_steps}
use Rattle.std.proofs.Math.Seq.{drop-append-add, take-append_seam, take-length}
use Rattle.satp_base.specs.Lines.{Front, IsLines, Runs, StopsAt, are_lines, is_line, lacks, lines_text}

abbrev pub is_feed : ℕ → Bool
is_feed b = b == 10

-- what is left of the bytes
pub piece : (k : ℕ) (bytes : List ℕ) → take (length bytes - k) (drop k bytes) ≡ drop k bytes
piece k bytes = rw (← length-drop k bytes) (take-length (drop k bytes))

module _ (c : ℕ) where
  -- a piece without the byte, and what stands behind the byte
  pub record First (rest : List ℕ) (n : ℕ) : Type 0 where
    pub line : List ℕ
    pub behind : List ℕ
    pub whole : rest ≡ line ++ c ∷ behind
    pub is_line : lacks c line ≡ true
    pub long : n ≡ length line

  one_more : (b : ℕ) (i : ℕ) (bs : List ℕ) (n : ℕ) (t : Bool) → (b == c) ≡ t → cond t (Some i) (position_from (λ x. x == c) (i + 1) bs) ≡ Some n → ((j m : ℕ) → position_from (λ x. x == c) j bs ≡ Some m → First bs (m - j) × (j ≤ m)) → First (b ∷ bs) (n - i) × (i ≤ n)
  one_more b i bs n true is e rest =
      let same : i ≡ n = cc in
      (record { line = []; behind = bs; whole = ap (λ x. x ∷ bs) (eqb-true b c is); is_line = refl; long = omega arith }, omega arith)
  one_more b i bs n false is e rest =
      let r = rest (i + 1) n e in
      let f = r.0 in
      (record { line = b ∷ f.line; behind = f.behind; whole = ap (λ x. b ∷ x) f.whole; is_line = and_from _ _ (ap not is) f.is_line; long = omega (arith, f.long, r.1) }, omega (arith, r.1))

  first_from : (rest : List ℕ) (i n : ℕ) → position_from (λ x. x == c) i rest ≡ Some n → First rest (n - i) × (i ≤ n)
  first_from [] i n e = absurd cc
  first_from (b ∷ bs) i n e = one_more b i bs n (b == c) refl e (first_from bs)

  pub first : (rest : List ℕ) (n : ℕ) → position (λ x. x == c) rest ≡ Some n → First rest n
  first rest n e = subst (First rest) (sub_zero n) (first_from rest 0 n (sym (position_from-zero (λ x. x == c) rest) ∙ e)).0
    where
      sub_zero : (k : ℕ) → k - 0 ≡ k
      sub_zero k = omega arith

  -- the byte doesn't stand there
  not_there : (b : ℕ) (i : ℕ) (later : Option ℕ) (t : Bool) → (b == c) ≡ t → cond t (Some i) later ≡ None → (later ≡ None) × (not (b == c) ≡ true)
  not_there b i later true is e = absurd cc
  not_there b i later false is e = (e, ap not is)

  lacks_from : (text : List ℕ) (i : ℕ) → position_from (λ x. x == c) i text ≡ None → lacks c text ≡ true
  lacks_from [] i e = refl
  lacks_from (b ∷ text) i e = let h = not_there b i (position_from (λ x. x == c) (i + 1) text) (b == c) refl e in and_from _ _ h.1 (lacks_from text (i + 1) h.0)

  pub lacks_it : (text : List ℕ) → position (λ x. x == c) text ≡ None → lacks c text ≡ true
  lacks_it text e = lacks_from text 0 (sym (position_from-zero (λ x. x == c) text) ∙ e)

  itself : (line : List ℕ) → lacks c (c ∷ line) ≡ true → ⊥
  itself line h = let bad : false ≡ true = ap not (sym (eq-eqb c c refl)) ∙ (and_parts _ _ h).0 in absurd cc

  pub lacks_not : (line behind : List ℕ) → lacks c (line ++ c ∷ behind) ≡ true → ⊥
  lacks_not [] behind h = itself behind h
  lacks_not (b ∷ line) behind h = lacks_not line behind (and_parts _ _ h).1

  pub no_line : (rest line behind : List ℕ) → position (λ x. x == c) rest ≡ None → rest ≡ line ++ c ∷ behind → ⊥
  no_line rest line behind e is = lacks_not line behind (subst (λ x. lacks c x ≡ true) is (lacks_it rest e))

  head_same : (a b : ℕ) (xs ys : List ℕ) → a ∷ xs ≡ b ∷ ys → (a ≡ b) × (xs ≡ ys)
  head_same a b xs ys e = (cc, cc)

  -- a text is cut at the byte in one way
  pub one_cut : (a b behind_a behind_b : List ℕ) → lacks c a ≡ true → lacks c b ≡ true → a ++ c ∷ behind_a ≡ b ++ c ∷ behind_b → (a ≡ b) × (behind_a ≡ behind_b)
  one_cut [] [] x y p q e = (refl, (head_same c c x y e).1)
  one_cut [] (b ∷ bs) x y p q e = let s = head_same c b x _ e in absurd (itself bs (subst (λ (d : ℕ). lacks c (d ∷ bs) ≡ true) (sym s.0) q))
  one_cut (a ∷ as_) [] x y p q e = let s = head_same a c _ y e in absurd (itself as_ (subst (λ (d : ℕ). lacks c (d ∷ as_) ≡ true) s.0 p))
  one_cut (a ∷ as_) (b ∷ bs) x y p q e =
      let s = head_same a b _ _ e in
      let r = one_cut as_ bs x y (and_parts _ _ p).1 (and_parts _ _ q).1 s.1 in
      (ap₂ (λ (d : ℕ) (ds : List ℕ). d ∷ ds) s.0 r.0, r.1)

  -- before the byte, and behind it
  pub cut_at : (text : List ℕ) (n : ℕ) → position (λ x. x == c) text ≡ Some n → (lacks c (take n text) ≡ true) × (text ≡ take n text ++ c ∷ take (length text - (n + 1)) (drop (n + 1) text))
  cut_at text n e =
      let f = first text n e in
      let front : take n text ≡ f.line = ap₂ (λ (k : ℕ) (x : List ℕ). take k x) f.long f.whole ∙ take-append_seam f.line (c ∷ f.behind) in
      let back : take (length text - (n + 1)) (drop (n + 1) text) ≡ f.behind = piece (n + 1) text ∙ ap₂ (λ (k : ℕ) (x : List ℕ). drop (k + 1) x) f.long f.whole ∙ drop-append-add f.line (c ∷ f.behind) 1 in
      (subst (λ x. lacks c x ≡ true) (sym front) f.is_line, f.whole ∙ ap₂ (λ (x y : List ℕ). x ++ c ∷ y) (sym front) (sym back))

-- ---- lines added at the end

lines_push : (lines : List (List ℕ)) (line : List ℕ) → lines_text (lines ++ line ∷ []) ≡ lines_text lines ++ (line ++ 10 ∷ [])
lines_push [] line = refl
lines_push (l ∷ ls) line = ap (λ x. l ++ 10 ∷ x) (lines_push ls line) ∙ sym (append_assoc l (10 ∷ lines_text ls) (line ++ 10 ∷ []))

each_push : (lines : List (List ℕ)) (line : List ℕ) → are_lines lines ≡ true → is_line line ≡ true → are_lines (lines ++ line ∷ []) ≡ true
each_push [] line p q = and_from _ _ q refl
each_push (l ∷ ls) line p q = let r = and_parts _ _ p in and_from _ _ r.0 (each_push ls line r.1 q)

module _ {R : Type 0} (accepts : R → List ℕ → R → Type 0) where
  runs_push : (lines : List (List ℕ)) (line : List ℕ) (start reached after : R) → Runs accepts start lines reached → accepts reached line after → Runs accepts start (lines ++ line ∷ []) after
  runs_push [] line start reached after h a = (after, subst (λ r. accepts r line after) h a, refl)
  runs_push (l ∷ ls) line start reached after h a = (h.0, h.1, runs_push ls line h.0 reached after h.2 a)

  -- how far the reading has come
  pub record Reached (text : List ℕ) (start now : R) (at number : ℕ) : Type 0 where
    pub lines : List (List ℕ)
    pub front : take at text ≡ lines_text lines
    pub each : are_lines lines ≡ true
    pub runs : Runs accepts start lines now
    pub counted : number ≡ length lines + 1
    pub within : at ≤ length text
    pub few : number ≤ at + 1

  pub nothing_read : (text : List ℕ) (start : R) → Reached text start start 0 1
  nothing_read text start = record { lines = []; front = refl; each = refl; runs = refl; counted = refl; within = omega arith; few = omega arith }

  split_at : (text : List ℕ) (at : ℕ) (front : List ℕ) → take at text ≡ front → text ≡ front ++ drop at text
  split_at text at front e = sym (take-append-drop at text) ∙ ap (λ x. x ++ drop at text) e

  some_left : (text : List ℕ) (at : ℕ) → at < length text → drop at text ≢ []
  some_left text at h e = let bad : length (drop at text) ≡ 0 = ap length e in absurd (omega (arith, length-drop {A = ℕ} at text))

  pub front_read : (text : List ℕ) (start now : R) (at number : ℕ) → Reached text start now at number → Front accepts text start now
  front_read text start now at number r = record { lines = r.lines; rest = drop at text; whole = split_at text at _ r.front; each = r.each; runs = r.runs }

  -- the reading stops, and this is there then
  abbrev StopsBehind : List ℕ → R → ℕ → R → Type 0
  StopsBehind text start number after = (stop : StopsAt accepts text start number) × (after ≡ stop.reached)

  -- the last line has no line feed
  pub stops_open : (text : List ℕ) (start now : R) (at number : ℕ) → Reached text start now at number → at < length text → position is_feed (drop at text) ≡ None → StopsBehind text start number now
  stops_open text start now at number r some none = (
    record {
      lines = r.lines;
      rest = drop at text;
      reached = now;
      whole = split_at text at _ r.front;
      each = r.each;
      runs = r.runs;
      counted = r.counted;
      more = some_left text at some;
      refused = λ line behind is e next a. no_line 10 (drop at text) line behind none e;
    },
    refl,
  )

  take_line : (line behind : List ℕ) → take (length line) (line ++ 10 ∷ behind) ≡ line
  take_line [] behind = refl
  take_line (b ∷ line) behind = ap (λ x. b ∷ x) (take_line line behind)

  pub the_line : (rest : List ℕ) (n : ℕ) (f : First 10 rest n) → take n rest ≡ f.line
  the_line rest n f = ap₂ (λ (k : ℕ) (x : List ℕ). take k x) f.long f.whole ∙ take_line f.line f.behind

  pub stops_refused : (text : List ℕ) (start now after : R) (at number n : ℕ) (shown : List ℕ) → Reached text start now at number → at < length text → position is_feed (drop at text) ≡ Some n → shown ≡ take n (drop at text)
      → ((next : R) → ¬ accepts now shown next) → after ≡ now → StopsBehind text start number after
  stops_refused text start now after at number n shown r some found is never same =
      let f = first 10 (drop at text) n found in (
        record {
          lines = r.lines;
          rest = drop at text;
          reached = now;
          whole = split_at text at _ r.front;
          each = r.each;
          runs = r.runs;
          counted = r.counted;
          more = some_left text at some;
          refused = λ line behind clean e next a.
              let here : line ≡ shown = (one_cut 10 line f.line behind f.behind clean f.is_line (sym e ∙ f.whole)).0 ∙ sym (is ∙ the_line (drop at text) n f) in
              never next (subst (λ l. accepts now l next) here a);
        },
        same,
      )

  take_more : (line behind : List ℕ) → take (length line + 1) (line ++ 10 ∷ behind) ≡ line ++ 10 ∷ []
  take_more line behind = rw add-one (go line)
    where
      go : (l : List ℕ) → take (suc (length l)) (l ++ 10 ∷ behind) ≡ l ++ 10 ∷ []
      go [] = refl
      go (b ∷ l) = ap (λ x. b ∷ x) (go l)

  take_sum : (a k : ℕ) (xs : List ℕ) → take (a + k) xs ≡ take a xs ++ take k (drop a xs)
  take_sum a k xs = sym (ap₂ (λ (x y : List ℕ). x ++ y) (sym (take_less a k xs)) (sym (drop-take a k xs)) ∙ take-append-drop a (take (a + k) xs))
    where
      take_less : (i j : ℕ) (ys : List ℕ) → take i (take (i + j) ys) ≡ take i ys
      take_less i j ys = grind (arith, common_steps)

  pub read_on : (text : List ℕ) (start now after : R) (at number n : ℕ) (shown : List ℕ) → Reached text start now at number → position is_feed (drop at text) ≡ Some n → n < length text - at → shown ≡ take n (drop at text) → accepts now shown after
      → Reached text start after (at + (n + 1)) (number + 1)
  read_on text start now after at number n shown r found short is a =
      let f = first 10 (drop at text) n found in
      let same : shown ≡ f.line = is ∙ the_line (drop at text) n f in
      record {
        lines = r.lines ++ f.line ∷ [];
        front = take_sum at (n + 1) text ∙ ap₂ (λ (x y : List ℕ). x ++ y) r.front (ap₂ (λ (k : ℕ) (x : List ℕ). take (k + 1) x) f.long f.whole ∙ take_more f.line f.behind) ∙ sym (lines_push r.lines f.line);
        each = each_push r.lines f.line r.each f.is_line;
        runs = runs_push r.lines f.line start now after r.runs (subst (λ l. accepts now l after) same a);
        counted = ap (λ k. k + 1) r.counted ∙ sym (ap (λ k. k + 1) (length-append r.lines (f.line ∷ [])));
        within = omega (arith, r.within, short);
        few = omega (arith, r.few);
      }

  pub all_read : (most : ℕ) (text : List ℕ) (start now : R) (at number : ℕ) → Reached text start now at number → length text ≤ at → length text ≤ most → IsLines accepts most text start now
  all_read most text start now at number r whole short = record { lines = r.lines; whole = sym (take_whole at text whole) ∙ r.front; each = r.each; runs = r.runs; short = short }
    where
      take_whole : (k : ℕ) (xs : List ℕ) → length xs ≤ k → take k xs ≡ xs
      take_whole zero [] h = refl
      take_whole (suc k) [] h = refl
      take_whole zero (x ∷ xs) h = absurd (omega arith)
      take_whole (suc k) (x ∷ xs) h = let less : length xs ≤ k = omega arith in ap (λ ys. x ∷ ys) (take_whole k xs less)
