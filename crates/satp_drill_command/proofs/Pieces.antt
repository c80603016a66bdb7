-- A text to which seven pieces were added, one after the other.
use Rattle.std.proofs.Common.{◌≡◌, ◌∙◌, ℕ, List, [], ◌++◌, ap}

pub joined : (a b c d e f g t0 t1 t2 t3 t4 t5 t6 t7 : List ℕ) → t0 ≡ [] → t1 ≡ t0 ++ a → t2 ≡ t1 ++ b → t3 ≡ t2 ++ c → t4 ≡ t3 ++ d → t5 ≡ t4 ++ e → t6 ≡ t5 ++ f → t7 ≡ t6 ++ g → t7 ≡ a ++ b ++ c ++ d ++ e ++ f ++ g
joined a b c d e f g t0 t1 t2 t3 t4 t5 t6 t7 none i1 i2 i3 i4 i5 i6 i7 =
    i7 ∙ ap (λ t. t ++ g) (i6 ∙ ap (λ t. t ++ f) (i5 ∙ ap (λ t. t ++ e) (i4 ∙ ap (λ t. t ++ d) (i3 ∙ ap (λ t. t ++ c) (i2 ∙ ap (λ t. t ++ b) (i1 ∙ ap (λ t. t ++ a) none))))))
