-- Bytes that are written piece by piece.
use Rattle.std.proofs.Common.{◌≡◌, ℕ, suc, [], ◌∷◌, zero-add, length-append, ◌+◌, ◌-◌, ◌<◌, List, ◌++◌, length, take, drop, Option, Some, None, ap, ap₂, subst, sym, ◌∙◌, arith, append_assoc, length-drop}
use Rattle.std.specs.Prelude.{IfSome}
use Rattle.std.proofs.Math.Seq.{take-length}
use Rattle.std.proofs.lemmas.List.{drop-take, take-append-drop}
use Rattle.std.proofs.lemmas.Grind.{common_steps}
use Rattle.satp_base.specs.Streams.{Gains, Rose}
use Rattle.satp_outcome.specs.Outside.{Printed, PrintedPart, SinkState}

-- of these bytes so many were written after those before
abbrev pub Wrote : Option (List ℕ) → List ℕ → ℕ → Option (List ℕ) → Type 0
Wrote start bytes k now = IfSome start (λ before. now ≡ Some (before ++ take k bytes))

take_both : (k n : ℕ) (xs : List ℕ) → take k xs ++ take n (drop k xs) ≡ take (k + n) xs
take_both k n xs = ap₂ (λ (a b : List ℕ). a ++ b) (sym (take_less k n xs)) (sym (drop-take k n xs)) ∙ take-append-drop k (take (k + n) xs)
  where
    take_less : (i j : ℕ) (ys : List ℕ) → take i (take (i + j) ys) ≡ take i ys
    take_less i j ys = grind (arith, common_steps)

pub rest_of : (k : ℕ) (bytes : List ℕ) → take (length bytes - k) (drop k bytes) ≡ drop k bytes
rest_of k bytes = rw (← length-drop k bytes) (take-length (drop k bytes))

pub wrote_more : (start now after : Option (List ℕ)) (bytes : List ℕ) (k n : ℕ) → Wrote start bytes k now → Gains now (drop k bytes) n after → Wrote start bytes (k + n) after
wrote_more None now after bytes k n e g = tt
wrote_more (Some before) now after bytes k n e g =
    let told = subst (λ (o : Option (List ℕ)). IfSome o (λ x. after ≡ Some (x ++ take n (drop k bytes)))) e g.told in
    told ∙ ap Some (append_assoc before (take k bytes) _ ∙ ap (λ x. before ++ x) (take_both k n bytes))

-- ---- one text after another

both : (start middle now : Option (List ℕ)) (x y : List ℕ) → IfSome start (λ t. middle ≡ Some (t ++ x)) → IfSome middle (λ t. now ≡ Some (t ++ y)) → IfSome start (λ t. now ≡ Some (t ++ (x ++ y)))
both None middle now x y e f = tt
both (Some t) middle now x y e f = let g = subst (λ (o : Option (List ℕ)). IfSome o (λ t. now ≡ Some (t ++ y))) e f in g ∙ ap Some (append_assoc t x y)

take_after : (k : ℕ) (x y : List ℕ) → take (length x + k) (x ++ y) ≡ x ++ take k y
take_after k [] y = ap (λ n. take n y) (zero-add k)
take_after k (z ∷ x) y = let next : length (z ∷ x) + k ≡ suc (length x + k) = omega arith in ap (λ n. take n (z ∷ x ++ y)) next ∙ ap (λ zs. z ∷ zs) (take_after k x y)

pub printed_both : (x y : List ℕ) (b m a : SinkState) → Printed x b m → Printed y m a → Printed (x ++ y) b a
printed_both x y b m a p q = (q.0 ∙ p.0, q.1, both b.taken m.taken a.taken x y p.2 q.2)

pub printed_part : (x y : List ℕ) (b m a : SinkState) → Printed x b m → PrintedPart y m a → PrintedPart (x ++ y) b a
printed_part x y b m a p q =
    let k = q.2.0 in
    let within : length x + k < length (x ++ y) = omega (arith, q.2.1, length-append x y) in
    let wrote = both b.taken m.taken a.taken x (take k y) p.2 q.2.2 in
    (subst (λ n. Rose n a.faults) p.0 q.0, q.1, (length x + k, within, subst (λ (zs : List ℕ). IfSome b.taken (λ t. a.taken ≡ Some (t ++ zs))) (sym (take_after k x y)) wrote))
