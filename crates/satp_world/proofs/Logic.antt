-- Boolean tests and the facts that they decide.
use Rattle.std.proofs.Common.{◌≡◌, Bool, true, false, List, [], ◌∷◌, refl, ◌⊎◌, inl, inr}
use Rattle.satp_base.specs.Roles.{both, either, negate}
use Rattle.satp_base.proofs.Finite.{andthen, andthen-left, andthen-right, andthen-make}

-- the tests in order, none behind one that fails
abbrev pub all_then : List (Unit {0} → Bool) → Bool
all_then [] = true
all_then (f ∷ fs) = andthen (f tt) (λ _. all_then fs)

pub negate-use : (a : Bool) → negate a ≡ true → a ≡ false
negate-use true h = absurd (cc h)
negate-use false h = refl

pub negate-make : (a : Bool) → a ≡ false → negate a ≡ true
negate-make true h = absurd (cc h)
negate-make false h = refl

pub both-left : (a b : Bool) → both a b ≡ true → a ≡ true
both-left true b h = refl
both-left false b h = h

pub both-right : (a b : Bool) → both a b ≡ true → b ≡ true
both-right true b h = h
both-right false b h = absurd (cc h)

pub both-make : (a b : Bool) → a ≡ true → b ≡ true → both a b ≡ true
both-make true b h k = k
both-make false b h k = h

pub either-split : (a b : Bool) → either a b ≡ true → (a ≡ true) ⊎ (b ≡ true)
either-split true b h = inl refl
either-split false b h = inr h

-- each of the tests holds
abbrev pub Each : List (Unit {0} → Bool) → Type 0
Each [] = Unit {0}
Each (f ∷ fs) = (f tt ≡ true) × Each fs

pub each-of : (fs : List (Unit {0} → Bool)) → all_then fs ≡ true → Each fs
each-of [] h = tt
each-of (f ∷ fs) h = (andthen-left (f tt) (λ _. all_then fs) h, each-of fs (andthen-right (f tt) (λ _. all_then fs) h))

pub each-make : (fs : List (Unit {0} → Bool)) → Each fs → all_then fs ≡ true
each-make [] h = refl
each-make (f ∷ fs) h = andthen-make (f tt) (λ _. all_then fs) h.0 (each-make fs h.1)
