-- What a wire tells, and what a call adds to it.
use Rattle.std.specs.Prelude.{◌≡◌, ◌⊎◌, ℕ, Bool, false, ◌||◌, List, [], ◌∷◌, ◌++◌, Option, option_map}
use Rattle.satp_base.specs.declared.wire.Dial.{Dial}
use Rattle.satp_base.specs.declared.wire.Dial.TheVariants.{Listen, Accept, Connect}

-- the bytes heard and said on one connection, and whether its end was heard
pub record Conversation : Type 0 where
  pub heard : List ℕ
  pub said : List ℕ
  pub ended : Bool

-- all connections so far, in order, and all calls that listen, accept or connect, failed ones too
pub record Traffic : Type 0 where
  pub conversations : List Conversation
  pub dials : List Dial

-- the last one changed
abbrev pub on_last : {A : Type 0} → (A → A) → List A → List A
on_last f [] = []
on_last f (x ∷ []) = f x ∷ []
on_last f (x ∷ y ∷ xs) = x ∷ on_last f (y ∷ xs)

-- a connection on which this was heard and said besides
abbrev pub grown : List ℕ → List ℕ → Bool → Conversation → Conversation
grown heard said ended c = record { heard = c.heard ++ heard; said = c.said ++ said; ended = c.ended || ended }

-- after this was heard and said on the last connection
abbrev pub exchanged : List ℕ → List ℕ → Bool → Traffic → Traffic
exchanged heard said ended t = record t { conversations = on_last (grown heard said ended) t.conversations }

abbrev pub hears : List ℕ → Bool → Traffic → Traffic
hears bytes ended = exchanged bytes [] ended

abbrev pub says : List ℕ → Traffic → Traffic
says bytes = exchanged [] bytes false

-- the connections that a call opens where it succeeds
abbrev pub opened : Dial → List Conversation
opened (Listen at) = []
opened Accept = record { heard = []; said = []; ended = false } ∷ []
opened (Connect at) = record { heard = []; said = []; ended = false } ∷ []

-- after a call that succeeded, and after one that failed
abbrev pub called : Dial → Traffic → Traffic
called dial t = record { conversations = t.conversations ++ opened dial; dials = t.dials ++ dial ∷ [] }

abbrev pub missed : Dial → Traffic → Traffic
missed dial t = record t { dials = t.dials ++ dial ∷ [] }

-- A failed call is told, or no memory was found to note it.
abbrev pub MayMiss : Dial → Option Traffic → Option Traffic → Type 0
MayMiss dial old new = (new ≡ option_map (missed dial) old) ⊎ (new ≡ old)
