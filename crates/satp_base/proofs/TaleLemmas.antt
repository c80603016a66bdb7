-- A tale's fields, and what a push and a look at the last kind do to them.
use Rattle.std.proofs.Common.{◌≡◌, ℕ, ◌+◌, ◌-◌, ◌<◌, List, [], ◌∷◌, ◌++◌, length, take, drop, get_or, Some, refl, sym, ap, subst, ◌∙◌, arith, length-set, length-take-le}
use Rattle.std.specs.Prelude.{replicate, slice_set, slice_index_or}
use Rattle.std.proofs.lemmas.List.{length_push, take_more_set, take_more, drop-drop, drop-set-lt, drop-replicate}
use Rattle.satp_base.specs.declared.message.Kind.{Kind}
use Rattle.satp_base.specs.declared.message.Kind.TheVariants.{TransferProposal}
use Rattle.satp_base.specs.declared.tale.Tale.TheInside.{Inside}
use Rattle.satp_base.specs.Tales.{IsTale, last_of}
use Rattle.satp_base.specs.TaleForm.{HoldsTale, kinds_of}
use Rattle.satp_base.proofs.TaleTable.{tale-short}

pub kinds-length : (t : Inside) → HoldsTale t → length (kinds_of t) ≡ t.count
kinds-length t h = length-take-le t.count t.kinds (omega (arith, h.places, h.count))

pub room : (t : Inside) (k : Kind) → HoldsTale t → IsTale (kinds_of t ++ k ∷ []) → t.count < 11
room t k h e = omega (arith, tale-short (kinds_of t ++ k ∷ []) e, length_push (kinds_of t) k, kinds-length t h)

abbrev pub with_kind : Inside → Kind → Inside
with_kind t k = record { kinds = slice_set t.kinds t.count k; count = t.count + 1 }

pub pushed-kinds : (t : Inside) (k : Kind) → HoldsTale t → t.count < 11 → kinds_of (with_kind t k) ≡ kinds_of t ++ k ∷ []
pushed-kinds t k h r = take_more_set t.kinds t.count k (omega (arith, h.places))

pub pushed : (t : Inside) (k : Kind) → HoldsTale t → IsTale (kinds_of t ++ k ∷ []) → HoldsTale (with_kind t k)
pushed t k h e =
    let r = room t k h e in
    record {
      places = length-set t.kinds t.count k ∙ h.places;
      count = omega (arith, r);
      rest = drop-set-lt (t.count + 1) t.kinds t.count k (omega arith) ∙ sym (drop-drop 1 t.count t.kinds) ∙ ap (drop 1) h.rest ∙ drop-replicate 1 (11 - t.count) TransferProposal ∙ ap (λ n. replicate n TransferProposal) (omega arith);
      tale = subst IsTale (sym (pushed-kinds t k h r)) e;
    }

pub last-push : (tale : List Kind) (k : Kind) → last_of (tale ++ k ∷ []) ≡ Some k
last-push [] k = refl
last-push (j ∷ []) k = refl
last-push (j ∷ i ∷ tale) k = last-push (i ∷ tale) k

-- the last of the first n kinds
pub last-take : (xs : List Kind) (n : ℕ) (d : Kind) → n < length xs → last_of (take (n + 1) xs) ≡ Some (get_or xs n d)
last-take xs n d h = ap last_of (take_more xs n d h) ∙ last-push (take n xs) (get_or xs n d)

pub last-held : (t : Inside) → HoldsTale t → 0 < t.count → Some (slice_index_or t.kinds (t.count - 1) TransferProposal) ≡ last_of (kinds_of t)
last-held t h some =
    let n : t.count - 1 + 1 ≡ t.count = omega arith in
    sym (ap (λ m. last_of (take m t.kinds)) (sym n) ∙ last-take t.kinds (t.count - 1) TransferProposal (omega (arith, h.places, h.count)))
