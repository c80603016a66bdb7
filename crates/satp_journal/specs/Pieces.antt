-- Payloads as bytes behind one another, with the place of each one's end.
use Rattle.std.specs.Prelude.{◌≡◌, ◌≤◌, ℕ, zero, suc, ◌-◌, List, [], ◌∷◌, take, drop}

-- the bytes cut at these places
abbrev pub pieces : ℕ → List ℕ → List ℕ → List (List ℕ)
pieces from [] bytes = []
pieces from (end ∷ ends) bytes = take (end - from) (drop from bytes) ∷ pieces end ends bytes

-- the places rise up to the last
abbrev pub Rises : ℕ → List ℕ → ℕ → Type 0
Rises from [] last = from ≡ last
Rises from (end ∷ ends) last = (from ≤ end) × Rises end ends last

-- payloads with the room for further ones
pub record StockState : Type 0 where
  pub payloads : List (List ℕ)
  pub spare_records : ℕ
  pub spare_bytes : ℕ

-- where a piece begins: at the end of the one before
abbrev pub start_at : ℕ → List ℕ → ℕ → ℕ
start_at from ends zero = from
start_at from [] (suc i) = from
start_at from (end ∷ ends) (suc i) = start_at end ends i
