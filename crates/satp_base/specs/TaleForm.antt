-- How a tale's kinds stand in its fields: the first of eleven places hold them, and the rest hold the first kind.
use Rattle.std.specs.Prelude.{◌≡◌, ◌≤◌, ◌-◌, List, ◌++◌, length, take, drop, replicate}
use Rattle.std.proofs.Common.{arith, ap, sym, ◌∙◌, take-append-drop, length-take-le}
use Rattle.satp_base.specs.declared.message.Kind.{Kind}
use Rattle.satp_base.specs.declared.message.Kind.TheVariants.{TransferProposal}
use Rattle.satp_base.specs.declared.tale.Tale.TheInside.{Inside}
use Rattle.satp_base.specs.Tales.{IsTale}

abbrev pub kinds_of : Inside → List Kind
kinds_of t = take t.count t.kinds

pub record HoldsTale (t : Inside) : Type 0 where
  pub places : length t.kinds ≡ 11
  pub count : t.count ≤ 11
  pub rest : drop t.count t.kinds ≡ replicate (11 - t.count) TransferProposal
  pub tale : IsTale (kinds_of t)

abbrev pub padded : List Kind → Inside
padded tale = record { kinds = tale ++ replicate (11 - length tale) TransferProposal; count = length tale }

pub same_fields : (t : Inside) → HoldsTale t → padded (kinds_of t) ≡ t
same_fields t h =
    let count : length (take t.count t.kinds) ≡ t.count = length-take-le t.count t.kinds (omega (arith, h.places, h.count)) in
    let kinds : take t.count t.kinds ++ replicate (11 - length (take t.count t.kinds)) TransferProposal ≡ t.kinds =
    ap (λ n. take t.count t.kinds ++ replicate (11 - n) TransferProposal) count
    ∙ ap (λ xs. take t.count t.kinds ++ xs) (sym h.rest)
    ∙ take-append-drop t.count t.kinds
    in
    λ i. record { kinds = kinds i; count = count i }
