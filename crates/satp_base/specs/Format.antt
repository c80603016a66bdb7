-- The bytes of a journal: records and a gate, and the payloads that they stand for.
use Rattle.std.specs.Prelude.{◌≡◌, ◌≢◌, ◌<◌, ◌≤◌, ◌⊎◌, ℕ, ◌/◌, ◌%◌, List, [], ◌∷◌, ◌++◌, length}
use Rattle.std.specs.List.{flat_map, AllByRecursion}

abbrev pub IsPayload : List ℕ → Type 0
IsPayload q = (1 ≤ length q) × (length q ≤ 4096)

-- a payload behind its two bytes of length
abbrev pub counted : List ℕ → List ℕ
counted q = (length q / 256) ∷ (length q % 256) ∷ q

-- open records of these payloads
abbrev pub records : List (List ℕ) → List ℕ
records = flat_map (λ q. 1 ∷ counted q)

-- these payloads, then a gate, and what stands behind it
pub record EndsAt (payloads : List (List ℕ)) (gate : ℕ) (behind : List ℕ) (image : List ℕ) : Type 0 where
  pub valid : AllByRecursion IsPayload payloads
  pub bytes : image ≡ records payloads ++ gate ∷ behind

-- these payloads, and then a gate that is closed
abbrev pub IsClosed : List (List ℕ) → List ℕ → Type 0
IsClosed payloads image = (gate : ℕ) × (behind : List ℕ) × (gate ≢ 1) × EndsAt payloads gate behind image

-- these payloads, and then a gate that is 0
abbrev pub IsAtRest : List (List ℕ) → List ℕ → Type 0
IsAtRest payloads image = (behind : List ℕ) × EndsAt payloads 0 behind image

-- the payloads that an image stands for; one of at most one byte stands for none
abbrev pub Stands : List ℕ → List (List ℕ) → Type 0
Stands image payloads = ((length image ≤ 1) × (payloads ≡ [])) ⊎ ((1 < length image) × IsClosed payloads image)

-- a whole record without its gate, and at least one byte behind it
pub record SplitsOff (behind q tail : List ℕ) : Type 0 where
  pub payload : IsPayload q
  pub more : 0 < length tail
  pub bytes : behind ≡ counted q ++ tail

-- no whole record stands here
abbrev pub NoRecord : List ℕ → Type 0
NoRecord behind = (q tail : List ℕ) → SplitsOff behind q tail → ⊥

-- behind these payloads an open gate stands without a whole record behind it
abbrev pub Breaks : List ℕ → List (List ℕ) → Type 0
Breaks image payloads = (1 < length image) × ((behind : List ℕ) × EndsAt payloads 1 behind image × NoRecord behind)

-- the place of that gate
abbrev pub Damage : List ℕ → ℕ → Type 0
Damage image at = (payloads : List (List ℕ)) × Breaks image payloads × (at ≡ length (records payloads))

-- the list that the image would stand for with 1 in place of its closed gate
abbrev pub StandsOpened : List ℕ → List (List ℕ) → Type 0
StandsOpened image longer = (payloads : List (List ℕ)) × (gate : ℕ) × (behind : List ℕ) × (gate ≢ 1) × EndsAt payloads gate behind image × Stands (records payloads ++ 1 ∷ behind) longer

-- An opening may mend the image: it has at most one byte, or the gate at the end of its list is 0, or with 1 in that place it stands for a list too.
abbrev pub IsMendable : List ℕ → Type 0
IsMendable image = (length image ≤ 1) ⊎ ((payloads : List (List ℕ)) × IsAtRest payloads image) ⊎ ((longer : List (List ℕ)) × StandsOpened image longer)
