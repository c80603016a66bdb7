-- A text gives one thing at most, where each line does.
use Rattle.std.proofs.Common.{◌≡◌, ◌≢◌, ℕ, true, List, [], ◌∷◌, ◌++◌, refl, ap₂, subst, sym, ◌∙◌, arith, append_assoc, Result, Ok, Err, MatchResult}
use Rattle.std.specs.Result.{IsErrAnd}
use Rattle.std.proofs.lemmas.Bool.{and_parts}
use Rattle.satp_base.specs.Lines.{Fails, IsLines, Runs, are_lines, is_line, lines_text}
use Rattle.satp_base.specs.declared.lines.LinesFault.{LinesFault}
use Rattle.satp_base.specs.declared.lines.LinesFault.TheVariants.{Long, Line, Memory}
use Rattle.satp_base.proofs.LineLemmas.{one_cut}

some_text : (line behind : List ℕ) → [] ≡ line ++ 10 ∷ behind → ⊥
some_text [] behind e = absurd cc
some_text (b ∷ line) behind e = absurd cc

-- the lines of a text
one_text : (ks ls : List (List ℕ)) → are_lines ks ≡ true → are_lines ls ≡ true → lines_text ks ≡ lines_text ls → ks ≡ ls
one_text [] [] p q e = refl
one_text [] (l ∷ ls) p q e = absurd (some_text l (lines_text ls) e)
one_text (k ∷ ks) [] p q e = absurd (some_text k (lines_text ks) (sym e))
one_text (k ∷ ks) (l ∷ ls) p q e =
    let a = and_parts _ _ p in
    let b = and_parts _ _ q in
    let cut = one_cut 10 k l (lines_text ks) (lines_text ls) a.0 b.0 e in
    ap₂ (λ (x : List ℕ) (xs : List (List ℕ)). x ∷ xs) cut.0 (one_text ks ls a.1 b.1 cut.1)

module _ {R : Type 0} (accepts : R → List ℕ → R → Type 0) (one : (r : R) (line : List ℕ) (a b : R) → accepts r line a → accepts r line b → a ≡ b) where
  one_next : (r s : R) (k l : List ℕ) (a b : R) → r ≡ s → k ≡ l → accepts r k a → accepts s l b → a ≡ b
  one_next r s k l a b e f p q = one s l a b (subst (λ x. accepts s x a) f (subst (λ x. accepts x k a) e p)) q

  one_run : (lines : List (List ℕ)) (r s a b : R) → r ≡ s → Runs accepts r lines a → Runs accepts s lines b → a ≡ b
  one_run [] r s a b e p q = p ∙ e ∙ sym q
  one_run (l ∷ lines) r s a b e p q = one_run lines p.0 q.0 a b (one_next r s l l p.0 q.0 e refl p.1 q.1) p.2 q.2

  pub one_reading : (most : ℕ) (text : List ℕ) (start a b : R) → IsLines accepts most text start a → IsLines accepts most text start b → a ≡ b
  one_reading most text start a b p q =
      let same = one_text p.lines q.lines p.each q.each (sym p.whole ∙ q.whole) in
      one_run q.lines start start a b refl (subst (λ lines. Runs accepts start lines a) same p.runs) q.runs

  -- where each line of a text is accepted, none of them is refused
  next_accepted : (ks ls : List (List ℕ)) (rest : List ℕ) (r s reached after : R) → r ≡ s → are_lines ks ≡ true → are_lines ls ≡ true → lines_text ls ≡ lines_text ks ++ rest → rest ≢ [] → Runs accepts r ks reached → Runs accepts s ls after
      → ((line behind : List ℕ) → is_line line ≡ true → rest ≡ line ++ 10 ∷ behind → (next : R) → ¬ accepts reached line next) → ⊥
  next_accepted [] [] rest r s reached after e p q whole more run runs refused = more (sym whole)
  next_accepted [] (l ∷ ls) rest r s reached after e p q whole more run runs refused =
      refused l (lines_text ls) (and_parts _ _ q).0 (sym whole) runs.0 (subst (λ x. accepts x l runs.0) (sym (run ∙ e)) runs.1)
  next_accepted (k ∷ ks) [] rest r s reached after e p q whole more run runs refused = absurd (some_text k (lines_text ks ++ rest) (whole ∙ append_assoc k (10 ∷ lines_text ks) rest))
  next_accepted (k ∷ ks) (l ∷ ls) rest r s reached after e p q whole more run runs refused =
      let a = and_parts _ _ p in
      let b = and_parts _ _ q in
      let cut = one_cut 10 l k (lines_text ls) (lines_text ks ++ rest) b.0 a.0 (whole ∙ append_assoc k (10 ∷ lines_text ks) rest) in
      next_accepted ks ls rest run.0 runs.0 reached after (one_next r s k l run.0 runs.0 e (sym cut.0) run.1 runs.1) a.1 b.1 cut.1 more run.2 runs.2 refused

  pub not_refused : (most : ℕ) (text : List ℕ) (start after : R) (fault : LinesFault) → IsLines accepts most text start after → Fails accepts most text start fault → fault ≡ Memory
  not_refused most text start after (Long n) p f = absurd (omega (arith, p.short, f.1))
  not_refused most text start after (Line number) p f =
      let s = f.1 in
      absurd (next_accepted s.lines p.lines s.rest start start s.reached after refl s.each p.each (sym p.whole ∙ s.whole) s.more s.runs p.runs s.refused)
  not_refused most text start after Memory p f = refl

-- a reader's answer where nothing but memory may be missing
pub want_of_memory : {T : Type 0} (r : Result T LinesFault) (fault : LinesFault) (t : T) → IsErrAnd r (λ f. f ≡ fault) → fault ≡ Memory → MatchResult r (λ found. found ≡ t) (λ f. f ≡ Memory)
want_of_memory (Ok x) fault t h e = absurd h
want_of_memory (Err f) fault t h e = h ∙ e
