-- Bytes cut at rising places.
use Rattle.std.proofs.Common.{◌≡◌, ◌≤◌, ◌<◌, ℕ, zero, suc, ◌+◌, ◌-◌, List, [], ◌∷◌, ◌++◌, length, take, drop, get_or, Some, refl, sym, ap, ◌∙◌, arith}
use Rattle.std.specs.Prelude.{slice_get}
use Rattle.std.proofs.lemmas.List.{take-append-le, drop-append-le, length-drop, take_all, drop_at}
use Rattle.satp_journal.specs.Pieces.{pieces, Rises, start_at}

pub length-pieces : (from : ℕ) (ends bytes : List ℕ) → length (pieces from ends bytes) ≡ length ends
length-pieces from [] bytes = refl
length-pieces from (end ∷ ends) bytes = ap suc (length-pieces end ends bytes)

pub rises_within : (from : ℕ) (ends : List ℕ) (last : ℕ) → Rises from ends last → from ≤ last
rises_within from [] last r = omega (arith, r)
rises_within from (end ∷ ends) last r = omega (arith, r.0, rises_within end ends last r.1)

pub rises-push : (from : ℕ) (ends : List ℕ) (last n : ℕ) → Rises from ends last → Rises from (ends ++ (last + n) ∷ []) (last + n)
rises-push from [] last n r = (omega (arith, r), refl)
rises-push from (end ∷ ends) last n r = (r.0, rises-push end ends last n r.1)

pub pieces-push : (from : ℕ) (ends bytes q : List ℕ) → Rises from ends (length bytes) → pieces from (ends ++ (length bytes + length q) ∷ []) (bytes ++ q) ≡ pieces from ends bytes ++ q ∷ []
pieces-push from [] bytes q r = ap (λ (l : List ℕ). l ∷ []) (ap (take (length bytes + length q - from)) (drop_at bytes q from (sym r)) ∙ take_all (length bytes + length q - from) q (omega (arith, r)))
pieces-push from (end ∷ ends) bytes q r =
    let within = rises_within end ends (length bytes) r.1 in
    rw (drop-append-le from bytes q (omega (arith, within, r.0)), take-append-le (end - from) (drop from bytes) q (omega (arith, within, r.0, length-drop from bytes)), pieces-push end ends bytes q r.1) refl

pub piece_at : (from : ℕ) (ends bytes : List ℕ) (i : ℕ) → i < length ends → slice_get (pieces from ends bytes) i ≡ Some (take (get_or ends i 0 - start_at from ends i) (drop (start_at from ends i) bytes))
piece_at from [] bytes i lt = absurd (omega (arith, lt))
piece_at from (end ∷ ends) bytes zero lt = refl
piece_at from (end ∷ ends) bytes (suc i) lt = piece_at end ends bytes i (omega (arith, lt))

pub starts_within : (from : ℕ) (ends : List ℕ) (last i : ℕ) → Rises from ends last → i < length ends → (start_at from ends i ≤ get_or ends i 0) × (get_or ends i 0 ≤ last)
starts_within from [] last i r lt = absurd (omega (arith, lt))
starts_within from (end ∷ ends) last zero r lt = (r.0, rises_within end ends last r.1)
starts_within from (end ∷ ends) last (suc i) r lt = starts_within end ends last i r.1 (omega (arith, lt))

pub start_is : (from : ℕ) (ends : List ℕ) (i : ℕ) → 0 < i → i ≤ length ends → start_at from ends i ≡ get_or ends (i - 1) 0
start_is from ends zero some le = absurd (omega (arith, some))
start_is from [] (suc i) some le = absurd (omega (arith, le))
start_is from (end ∷ ends) (suc zero) some le = refl
start_is from (end ∷ ends) (suc (suc i)) some le = let e : suc (suc i) - 1 ≡ suc i = omega arith in let f : suc i - 1 ≡ i = omega arith in start_is end ends (suc i) (omega arith) (omega (arith, le)) ∙ rw (e, f) refl
