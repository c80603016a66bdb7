-- A front of the payloads that is copied already.
use Rattle.std.proofs.Common.{◌≡◌, ℕ, List, [], ◌∷◌, ◌++◌, length, take, Some, None, sym, ap, ◌∙◌, inl, inr}
use Rattle.std.specs.Prelude.{slice_get}
use Rattle.std.proofs.lemmas.List.{length_push, take_all, take_more}
use Rattle.std.proofs.lemmas.Option.{get_or_from_slice_get, slice_get_cases, slice_get_within}

module _ (payloads texts : List (List ℕ)) (front : texts ≡ take (length texts) payloads) where
  pub copied_more : (q : List ℕ) → slice_get payloads (length texts) ≡ Some q → texts ++ q ∷ [] ≡ take (length (texts ++ q ∷ [])) payloads
  copied_more q next =
      ap (λ (l : List (List ℕ)). l ++ q ∷ []) front
      ∙ ap (λ (x : List ℕ). take (length texts) payloads ++ x ∷ []) (sym (get_or_from_slice_get payloads (length texts) q [] next))
      ∙ sym (take_more payloads (length texts) [] (slice_get_within payloads (length texts) q next))
      ∙ ap (λ (n : ℕ). take n payloads) (sym (length_push texts q))

  pub copied_all : slice_get payloads (length texts) ≡ None → texts ≡ payloads
  copied_all none = elim (slice_get_cases payloads (length texts)).1 [
    | inl there ↦ absurd (let bad = sym there.2 ∙ none in cc)
    | inr past ↦ front ∙ take_all (length texts) payloads past.0
  ]
