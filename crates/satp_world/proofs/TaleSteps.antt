-- How a tale of at least one message goes on.
use Rattle.std.proofs.Common.{◌≡◌, Bool, true, false, List, [], ◌∷◌, ◌++◌, length, refl, sym, ap, subst, arith, if◌then◌else◌}
use Rattle.std.proofs.lemmas.List.{length_push}
use Rattle.satp_base.specs.declared.message.Kind.{Kind}
use Rattle.satp_base.specs.declared.message.Kind.TheVariants.{TransferProposal}
use Rattle.satp_base.specs.Tales.{IsTale, comes_behind, has, kind_eq, last_of}
use Rattle.satp_base.proofs.Finite.{bind, keep, all_of, any_of, In, In-bind, In-keep, from_bind, from_keep, any_of-in, all_of-at}
use Rattle.satp_base.proofs.Finite.In.{here, there}
use Rattle.satp_base.proofs.TaleTable.{all_kinds, begun_tales, tales, tale-in, tale-is, kind_eq-is, in_all_kinds, extends-is, extends-by}
use Rattle.satp_base.proofs.TaleLemmas.{last-push}

-- a tale that begins with the proposal
pub record IsBegun (t : List Kind) : Type 0 where
  pub tale : IsTale t
  pub begun : has TransferProposal t ≡ true

begun_test : all_of (has TransferProposal) begun_tales ≡ true
begun_test = refl

pub in-begun : (t : List Kind) → In t begun_tales → IsBegun t
in-begun t i = record { tale = tale-is t (there i); begun = all_of-at (has TransferProposal) i begun_test }

pub begun-in : (t : List Kind) → IsTale t → has TransferProposal t ≡ true → In t begun_tales
begun-in t h b = rest t (tale-in t h) b
  where
    rest : (t : List Kind) → In t tales → has TransferProposal t ≡ true → In t begun_tales
    rest _ here b = absurd (cc b)
    rest t (there i) b = i

-- the kinds by which the tale goes on
abbrev pub extensions : List Kind → List Kind
extensions t = bind all_kinds (λ k. keep (comes_behind (last_of t) k) k)

abbrev pub kind_in : Kind → List Kind → Bool
kind_in k ks = any_of (kind_eq k) ks

pub kind_in-in : (k : Kind) (ks : List Kind) → kind_in k ks ≡ true → In k ks
kind_in-in k ks h = let (j, i, e) = any_of-in (kind_eq k) ks h in subst (λ v. In v ks) (sym (kind_eq-is k j e)) i

has-more : (k : Kind) (t u : List Kind) → has k t ≡ true → has k (t ++ u) ≡ true
has-more k [] u h = absurd (cc h)
has-more k (j ∷ t) u h = go (kind_eq k j) h (has-more k t u)
  where
    go : (b : Bool) → (if b then true else has k t) ≡ true → (has k t ≡ true → has k (t ++ u) ≡ true) → (if b then true else has k (t ++ u)) ≡ true
    go true h f = refl
    go false h f = f h

pub extension-is : (t : List Kind) (k : Kind) → IsBegun t → In k (extensions t) → IsBegun (t ++ k ∷ [])
extension-is t k h i =
    let (j, a, b) = from_bind (λ j. keep (comes_behind (last_of t) j) j) all_kinds i in
    let (c, e) = from_keep (comes_behind (last_of t) j) j b in
    record { tale = extends-is t k h.tale (subst (λ v. comes_behind (last_of t) v ≡ true) (sym e) c); begun = has-more TransferProposal t (k ∷ []) h.begun }

pub extension-in : (t : List Kind) (k : Kind) → IsTale t → IsTale (t ++ k ∷ []) → In k (extensions t)
extension-in t k h g = In-bind (λ j. keep (comes_behind (last_of t) j) j) (in_all_kinds k) (In-keep (comes_behind (last_of t) k) k (extends-by t k h g))

-- ---- one kind more

pub snoc_same : (t u : List Kind) (k j : Kind) → t ++ k ∷ [] ≡ u → t ++ j ∷ [] ≡ u → k ≡ j
snoc_same t u k j p q = cc (last-push t k, last-push t j, ap last_of p, ap last_of q)

pub snoc_longer : (t : List Kind) (k : Kind) → t ++ k ∷ [] ≡ t → ⊥
snoc_longer t k p = omega (arith, ap length p, length_push t k)

pub snoc_twice : (t u : List Kind) (k j : Kind) → t ++ k ∷ [] ≡ u → u ++ j ∷ [] ≡ t → ⊥
snoc_twice t u k j p q = omega (arith, ap length p, length_push t k, ap length q, length_push u j)
