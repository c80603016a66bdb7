-- A line of which a part was printed.
use Rattle.std.proofs.Common.{◌≡◌, ℕ, List, ◌++◌, Some, subst, sym, arith, length-append}
use Rattle.std.specs.Prelude.{IfSome}
use Rattle.std.proofs.lemmas.List.{take-append-le}
use Rattle.satp_outcome.specs.Outside.{PrintedPart, SinkState}

-- a part of the first text is a part of both
pub part_of_both : (x y : List ℕ) (b a : SinkState) → PrintedPart x b a → PrintedPart (x ++ y) b a
part_of_both x y b a p =
    let k = p.2.0 in
    (p.0, p.1, (k, omega (arith, p.2.1, length-append x y), subst (λ (zs : List ℕ). IfSome b.taken (λ t. a.taken ≡ Some (t ++ zs))) (sym (take-append-le k x y (omega (arith, p.2.1)))) p.2.2))
