-- What was heard and what is left make up what the peer says.
use Rattle.std.proofs.Common.{◌≡◌, ℕ, zero, suc, ◌+◌, Bool, List, [], ◌∷◌, ◌++◌, take, drop, Ok, refl, sym, ap, subst, arith}
use Rattle.std.proofs.lemmas.List.{drop-drop}
use Rattle.satp_base.specs.declared.wire.Dial.{Dial}
use Rattle.satp_memory.specs.Calling.{Calling}
use Rattle.satp_memory.specs.Talking.{HearsInto, Talking}

take_none : (n : ℕ) → take {A = ℕ} n [] ≡ []
take_none zero = refl
take_none (suc n) = refl

take_then : (p n : ℕ) (l : List ℕ) → take (p + n) l ≡ take p l ++ take n (drop p l)
take_then zero n l = let one : 0 + n ≡ n = omega arith in rw one refl
take_then (suc p) n [] = let one : suc p + n ≡ suc (p + n) = omega arith in rw one (sym (take_none n))
take_then (suc p) n (x ∷ xs) = let one : suc p + n ≡ suc (p + n) = omega arith in rw one (ap (λ (l : List ℕ). x ∷ l) (take_then p n xs))

abbrev pub talking : List ℕ → List ℕ → List ℕ → Bool → Bool → Bool → Bool → List Dial → Calling → Talking
talking left heard said ended used opened listens dials calls = record { left = left; heard = heard; said = said; ended = ended; used = used; is_open = opened; listens = listens; dials = dials; calls = calls }

pub heard_more : (bytes said : List ℕ) (p n : ℕ) (e e2 used opened listens : Bool) (dials : List Dial) (k k2 : Calling) → e2 ≡ e → k2 ≡ k
    → talking (drop (p + n) bytes) (take (p + n) bytes) said e2 used opened listens dials k2 ≡ talking (drop n (drop p bytes)) (take p bytes ++ take n (drop p bytes)) said e used opened listens dials k
heard_more bytes said p n e e2 used opened listens dials k k2 ended calls = rw (sym (drop-drop n p bytes), take_then p n bytes, ended, calls) refl

pub hears_as : (into : List ℕ) (a b new : Talking) (n : ℕ) → a ≡ b → HearsInto {E = ℕ} into a new (Ok n) → HearsInto {E = ℕ} into b new (Ok n)
hears_as into a b new n same h = subst (λ (w : Talking). HearsInto {E = ℕ} into w new (Ok n)) same h
