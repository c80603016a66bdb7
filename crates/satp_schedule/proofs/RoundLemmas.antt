-- The lines of rounds, put together.
use Rattle.std.proofs.Common.{◌≡◌, ◌≤◌, ◌<◌, ℕ, suc, ◌+◌, ◌-◌, List, [], ◌∷◌, ◌++◌, refl, ap, ap₂, sym, ◌∙◌, arith, append_assoc}
use Rattle.std.proofs.lemmas.List.{append-nil}
use Rattle.satp_schedule.specs.Generator.{generated, rounds, round}

abbrev Fields : Type 0
Fields = List (List ℕ)

pub joined : {w w' a a' g g' : List Fields} {s s' : Fields} → w ≡ w' → s ≡ s' → a ≡ a' → g ≡ g' → w ++ s ∷ a ++ g ≡ w' ++ s' ∷ a' ++ g'
joined w s a g = rw (w, s, a, g) refl

-- the rounds that are left are the next one and those behind it
one_round : (i x : ℕ) → i < 201 → rounds (201 - i) i x ≡ (round i x).lines ++ rounds (201 - (i + 1)) (i + 1) (round i x).state
unfolding rounds
one_round i x h = ap (λ n. rounds n i x) one_more
  where
    one_more : 201 - i ≡ suc (201 - (i + 1))
    one_more = omega (arith, h)

pub first_round : (seed x : ℕ) (lines : List Fields) → lines ≡ [] → x ≡ seed → lines ++ rounds (201 - 1) 1 x ≡ generated seed
unfolding generated
first_round seed x lines none same = ap₂ (λ ls y. ls ++ rounds 200 1 y) none same

pub next_round : (i x y : ℕ) (old new more total : List Fields) → i < 201 → new ≡ old ++ more → more ≡ (round i x).lines → y ≡ (round i x).state → old ++ rounds (201 - i) i x ≡ total
    → new ++ rounds (201 - (i + 1)) (i + 1) y ≡ total
next_round i x y old new more total h added lines state so_far =
    ap₂ (λ ls z. ls ++ rounds (201 - (i + 1)) (i + 1) z) (added ∙ ap (λ ls. old ++ ls) lines) state
    ∙ append_assoc old (round i x).lines _
    ∙ ap (λ ls. old ++ ls) (sym (one_round i x h))
    ∙ so_far

pub last_round : (i x : ℕ) (lines total : List Fields) → 201 ≤ i → lines ++ rounds (201 - i) i x ≡ total → lines ≡ total
unfolding rounds
last_round i x lines total h so_far = sym (append-nil lines) ∙ ap (λ n. lines ++ rounds n i x) (sym none) ∙ so_far
  where
    none : 201 - i ≡ 0
    none = omega (arith, h)
