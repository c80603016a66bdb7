-- Lines that are said piece by piece.
use Rattle.std.proofs.Common.{◌≡◌, ◌<◌, ℕ, zero, suc, List, [], ◌∷◌, ◌++◌, length, length-append, take, Some, Result, Ok, Err, ap, append_assoc, arith, refl, subst, sym, ◌∙◌}
use Rattle.std.specs.Prelude.{IfSome}
use Rattle.satp_base.specs.declared.stream.SinkFault.{SinkFault}
use Rattle.satp_outcome.proofs.Writing.{printed_both, printed_part}
use Rattle.satp_outcome.specs.Outside.{Printed, PrintedPart, Says, SinkState}

-- a text after another
pub said_both : (x y : List ℕ) (b m a : SinkState) (r : Result (Unit {0}) SinkFault) → Printed x b m → Says y m a r → Says (x ++ y) b a r
said_both x y b m a (Ok done) p s = printed_both x y b m a p s
said_both x y b m a (Err fault) p s = printed_part x y b m a p s

-- what stands between two texts, in two parts
pub said_between : (x y z w : List ℕ) (b m a : SinkState) (r : Result (Unit {0}) SinkFault) → Printed (x ++ y) b m → Says (z ++ w) m a r → Says (x ++ ((y ++ z) ++ w)) b a r
said_between x y z w b m a r p s =
    let order : (x ++ y) ++ (z ++ w) ≡ x ++ ((y ++ z) ++ w) = append_assoc x y (z ++ w) ∙ ap (λ l. x ++ l) (sym (append_assoc y z w)) in
    subst (λ l. Says l b a r) order (said_both (x ++ y) (z ++ w) b m a r p s)

take_first : (k : ℕ) (x y : List ℕ) → k < length x → take k (x ++ y) ≡ take k x
take_first zero [] y h = absurd (omega (arith, h))
take_first zero (c ∷ x) y h = refl
take_first (suc k) [] y h = absurd (omega (arith, h))
take_first (suc k) (c ∷ x) y h = let less : k < length x = omega (arith, h) in ap (λ l. c ∷ l) (take_first k x y less)

-- what fails in the first of two texts fails in both together
pub part_of_both : (x y : List ℕ) (b a : SinkState) → PrintedPart x b a → PrintedPart (x ++ y) b a
part_of_both x y b a p =
    let k = p.2.0 in
    let within : k < length (x ++ y) = omega (arith, p.2.1, length-append x y) in
    (p.0, p.1, (k, within, subst (λ l. IfSome b.taken (λ t. a.taken ≡ Some (t ++ l))) (sym (take_first k x y p.2.1)) p.2.2))
