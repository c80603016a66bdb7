-- Finite lists, and tests over all of their items that the checker computes.
use Rattle.std.proofs.Common.{◌≡◌, Bool, true, false, List, [], ◌∷◌, ◌++◌, refl, sym, subst, ◌⊎◌, inl, inr}

-- a test behind another one, which is not made where the first fails
abbrev pub andthen : Bool → (Unit {0} → Bool) → Bool
andthen true f = f tt
andthen false f = false

-- a test beside another one, which is not made where the first holds
abbrev pub orelse : Bool → (Unit {0} → Bool) → Bool
orelse true f = true
orelse false f = f tt

abbrev pub implies : Bool → Bool → Bool
implies true b = b
implies false b = true

abbrev pub same_bool : Bool → Bool → Bool
same_bool true b = b
same_bool false true = false
same_bool false false = true

abbrev pub all_of : {A : Type 0} → (A → Bool) → List A → Bool
all_of f [] = true
all_of f (x ∷ xs) = andthen (f x) (λ _. all_of f xs)

abbrev pub any_of : {A : Type 0} → (A → Bool) → List A → Bool
any_of f [] = false
any_of f (x ∷ xs) = orelse (f x) (λ _. any_of f xs)

abbrev pub bind : {A B : Type 0} → List A → (A → List B) → List B
bind [] f = []
bind (x ∷ xs) f = ◌++◌ (f x) (bind xs f)

abbrev pub keep : {A : Type 0} → Bool → A → List A
keep true a = a ∷ []
keep false a = []

-- the item stands in the list
pub data In {A : Type 0} (x : A) : List A → Type 0 where
  here : {xs : List A} → In x (x ∷ xs)
  there : {y : A} {xs : List A} → In x xs → In x (y ∷ xs)

-- ---- tests and the facts that they decide

pub andthen-left : (b : Bool) (f : Unit {0} → Bool) → andthen b f ≡ true → b ≡ true
andthen-left true f h = refl
andthen-left false f h = h

pub andthen-right : (b : Bool) (f : Unit {0} → Bool) → andthen b f ≡ true → f tt ≡ true
andthen-right true f h = h
andthen-right false f h = absurd (cc h)

pub andthen-make : (b : Bool) (f : Unit {0} → Bool) → b ≡ true → f tt ≡ true → andthen b f ≡ true
andthen-make true f h k = k
andthen-make false f h k = h

pub orelse-split : (b : Bool) (f : Unit {0} → Bool) → orelse b f ≡ true → (b ≡ true) ⊎ (f tt ≡ true)
orelse-split true f h = inl refl
orelse-split false f h = inr h

pub implies-use : (a b : Bool) → implies a b ≡ true → a ≡ true → b ≡ true
implies-use true b h k = h
implies-use false b h k = absurd (cc k)

pub implies-make : (a b : Bool) → (a ≡ true → b ≡ true) → implies a b ≡ true
implies-make true b h = h refl
implies-make false b h = refl

pub same_bool-is : (a b : Bool) → same_bool a b ≡ true → a ≡ b
same_bool-is true b h = sym h
same_bool-is false true h = h
same_bool-is false false h = refl

-- ---- items of lists

pub all_of-at : {A : Type 0} (f : A → Bool) {x : A} {xs : List A} → In x xs → all_of f xs ≡ true → f x ≡ true
all_of-at f {x = x} (here {xs = xs}) h = andthen-left (f x) (λ _. all_of f xs) h
all_of-at f (there {y = y} {xs = xs} i) h = all_of-at f i (andthen-right (f y) (λ _. all_of f xs) h)

pub any_of-make : {A : Type 0} (f : A → Bool) {x : A} {xs : List A} → In x xs → f x ≡ true → any_of f xs ≡ true
any_of-make f {x = x} (here {xs = xs}) h = subst (λ (b : Bool). orelse b (λ _. any_of f xs) ≡ true) (sym h) refl
any_of-make f (there {y = y} {xs = xs} i) h = either (f y) (any_of-make f i h)
  where
    either : (b : Bool) → any_of f xs ≡ true → orelse b (λ _. any_of f xs) ≡ true
    either true k = refl
    either false k = k

any_of-step : {A : Type 0} (f : A → Bool) (x : A) (xs : List A) (b : Bool) → f x ≡ b → ((any_of f xs ≡ true) → (y : A) × In y xs × (f y ≡ true)) → orelse b (λ _. any_of f xs) ≡ true → (y : A) × In y (x ∷ xs) × (f y ≡ true)
any_of-step f x xs true e rest k = (x, here, e)
any_of-step f x xs false e rest k = let (y, i, p) = rest k in (y, there i, p)

pub any_of-in : {A : Type 0} (f : A → Bool) (xs : List A) → any_of f xs ≡ true → (x : A) × In x xs × (f x ≡ true)
any_of-in f [] h = absurd (cc h)
any_of-in f (x ∷ xs) h = any_of-step f x xs (f x) refl (any_of-in f xs) h

pub In-append_left : {A : Type 0} {x : A} {xs : List A} (ys : List A) → In x xs → In x (◌++◌ xs ys)
In-append_left ys here = here
In-append_left ys (there i) = there (In-append_left ys i)

pub In-append_right : {A : Type 0} {x : A} (xs : List A) {ys : List A} → In x ys → In x (◌++◌ xs ys)
In-append_right [] i = i
In-append_right (y ∷ xs) i = there (In-append_right xs i)

pub In-append : {A : Type 0} {x : A} (xs : List A) {ys : List A} → In x (xs ++ ys) → In x xs ⊎ In x ys
In-append [] i = inr i
In-append (y ∷ xs) here = inl here
In-append (y ∷ xs) (there i) = elim (In-append xs i) [ inl j ↦ inl (there j) | inr j ↦ inr j ]

pub In-bind : {A B : Type 0} (f : A → List B) {a : A} {b : B} {xs : List A} → In a xs → In b (f a) → In b (bind xs f)
In-bind f (here {xs = xs}) j = In-append_left (bind xs f) j
In-bind f (there {y = y} i) j = In-append_right (f y) (In-bind f i j)

pub from_bind : {A B : Type 0} (f : A → List B) {b : B} (xs : List A) → In b (bind xs f) → (a : A) × In a xs × In b (f a)
from_bind f [] i = elim i [ ]
from_bind f (x ∷ xs) i = elim (In-append (f x) i) [ inl j ↦ (x, here, j) | inr j ↦ (let (a, k, l) = from_bind f xs j in (a, there k, l)) ]

pub In-keep : {A : Type 0} (b : Bool) (x : A) → b ≡ true → In x (keep b x)
In-keep true x h = here
In-keep false x h = absurd (cc h)

pub one_is : {A : Type 0} {x y : A} → In x (y ∷ []) → x ≡ y
one_is here = refl
one_is (there i) = elim i [ ]

pub from_keep : {A : Type 0} {x : A} (b : Bool) (y : A) → In x (keep b y) → (b ≡ true) × (x ≡ y)
from_keep true y i = (refl, one_is i)
from_keep false y i = elim i [ ]

pub in_nothing : {A : Type 0} {x : A} → In x [] → ⊥
in_nothing i = elim i [ ]
