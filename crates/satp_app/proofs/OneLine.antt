-- A genesis that is refused is refused at one line.
use Rattle.std.proofs.Common.{◌≡◌, ℕ, ◌+◌, true, List, [], ◌∷◌, ◌++◌, length, refl, sym, ap, subst, ◌∙◌, append_assoc, arith}
use Rattle.std.proofs.lemmas.Bool.{and_parts}
use Rattle.satp_base.specs.Founding.{Founding}
use Rattle.satp_base.specs.GenesisText.{AcceptsLine, nothing}
use Rattle.satp_base.specs.Lines.{Runs, StopsAt, are_lines, is_line, lines_text}
use Rattle.satp_base.proofs.LineLemmas.{one_cut}
use Rattle.satp_base.proofs.OneGenesis.{one_accepted}

-- what comes next is no line that is accepted
abbrev Refuses : List ℕ → Founding → Type 0
Refuses rest reached = (line behind : List ℕ) → is_line line ≡ true → rest ≡ line ++ 10 ∷ behind → (next : Founding) → ¬ AcceptsLine reached line next

one_next : (r s : Founding) (k l : List ℕ) (a b : Founding) → r ≡ s → k ≡ l → AcceptsLine r k a → AcceptsLine s l b → a ≡ b
one_next r s k l a b e f p q = one_accepted s l a b (subst (λ x. AcceptsLine s x a) f (subst (λ x. AcceptsLine x k a) e p)) q

-- a line that is accepted isn't refused
not_next : (l : List ℕ) (more rest : List ℕ) (reached s next : Founding) → reached ≡ s → is_line l ≡ true → rest ≡ l ++ 10 ∷ more → Refuses rest reached → AcceptsLine s l next → ⊥
not_next l more rest reached s next e is whole refuses accepted = refuses l more is whole next (subst (λ x. AcceptsLine x l next) (sym e) accepted)

same_count : (ks ls : List (List ℕ)) (x y : List ℕ) (r s a b : Founding) → r ≡ s → are_lines ks ≡ true → are_lines ls ≡ true → lines_text ks ++ x ≡ lines_text ls ++ y
    → Runs AcceptsLine r ks a → Runs AcceptsLine s ls b → Refuses x a → Refuses y b → length ks ≡ length ls
same_count [] [] x y r s a b e p q whole run runs u v = refl
same_count [] (l ∷ ls) x y r s a b e p q whole run runs u v =
    absurd (not_next l (lines_text ls ++ y) x a s runs.0 (run ∙ e) (and_parts _ _ q).0 (whole ∙ append_assoc l (10 ∷ lines_text ls) y) u runs.1)
same_count (k ∷ ks) [] x y r s a b e p q whole run runs u v =
    absurd (not_next k (lines_text ks ++ x) y b r run.0 (runs ∙ sym e) (and_parts _ _ p).0 (sym whole ∙ append_assoc k (10 ∷ lines_text ks) x) v run.1)
same_count (k ∷ ks) (l ∷ ls) x y r s a b e p q whole run runs u v =
    let c = and_parts _ _ p in
    let d = and_parts _ _ q in
    let cut = one_cut 10 k l (lines_text ks ++ x) (lines_text ls ++ y) c.0 d.0 (sym (append_assoc k (10 ∷ lines_text ks) x) ∙ whole ∙ append_assoc l (10 ∷ lines_text ls) y) in
    let rest : length ks ≡ length ls = same_count ks ls x y run.0 runs.0 a b (one_next r s k l run.0 runs.0 e cut.0 run.1 runs.1) c.1 d.1 cut.1 run.2 runs.2 u v in
    omega (arith, rest)

pub one_line : (text : List ℕ) (m n : ℕ) → StopsAt AcceptsLine text nothing m → StopsAt AcceptsLine text nothing n → m ≡ n
one_line text m n p q =
    p.counted ∙ ap (λ c. c + 1) (same_count p.lines q.lines p.rest q.rest nothing nothing p.reached q.reached refl p.each q.each (sym p.whole ∙ q.whole) p.runs q.runs p.refused q.refused) ∙ sym q.counted
