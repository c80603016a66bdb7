-- No record stands behind the gate of a journal at rest.
use Rattle.std.proofs.Common.{ℕ, List, [], ◌∷◌, ◌++◌, refl, sym, subst, inl, rules}
use Rattle.satp_base.specs.Format.{EndsAt, Stands, StandsOpened, records}
use Rattle.satp_base.proofs.Readings.{never_both, one_end}
use Rattle.satp_examples.specs.Appending.{closed, damaged}
use Rattle.satp_examples.specs.Journals.{abc}
use Rattle.satp_examples.proofs.Images.{is_damaged}

at_rest_ends : EndsAt (abc ∷ []) 0 [] closed
at_rest_ends = record { valid = search rules; bytes = refl }

pub closed_opens_not : (longer : List (List ℕ)) → StandsOpened closed longer → ⊥
closed_opens_not longer (list, g, behind, shuts, ends, stands) =
    let same = one_end (abc ∷ []) list 0 g [] behind closed at_rest_ends ends (inl (search rules)) (inl shuts) in
    never_both damaged longer 6 (subst (λ p. Stands (records p ++ 1 ∷ []) longer) (sym same.payloads) (subst (λ x. Stands (records list ++ 1 ∷ x) longer) (sym same.behind) stands)) is_damaged
