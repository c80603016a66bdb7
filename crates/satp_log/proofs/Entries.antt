-- Places in a list of entries.
use Rattle.std.proofs.Common.{◌≡◌, ◌<◌, ◌↔◌, ℕ, zero, suc, Bool, true, false, get_or, List, [], ◌∷◌, length, Some, IsTrue, refl, subst, ◌∙◌, arith}
use Rattle.std.specs.Prelude.{slice_get, nat_lt}
use Rattle.std.proofs.lemmas.Bool.{lt-ltb}
use Rattle.std.proofs.lemmas.Option.{get_or_from_slice_get}
use Rattle.satp_base.specs.declared.session.SessionId.{SessionId}
use Rattle.satp_log.specs.declared.held.Held.{Held}

pub get-within : (hs : List Held) (i : ℕ) (h : Held) → slice_get hs i ≡ Some h → i < length hs
get-within [] i h e = absurd (cc e)
get-within (x ∷ hs) zero h e = omega arith
get-within (x ∷ hs) (suc i) h e = let w = get-within hs i h e in omega (arith, w)

pub entry-at : (hs : List Held) (i : ℕ) → i < length hs → (h : Held) × (slice_get hs i ≡ Some h)
entry-at [] i w = absurd (omega (arith, w))
entry-at (x ∷ hs) zero w = (x, refl)
entry-at (x ∷ hs) (suc i) w = entry-at hs i (omega (arith, w))

pub found-is : (hs : List Held) (i : ℕ) (b : Bool) (found h : Held) (s : SessionId) → slice_get hs i ≡ Some h → found ≡ get_or hs i found → IsTrue b ↔ (found.session ≡ s) → IsTrue b ↔ (h.session ≡ s)
found-is hs i b found h s e at k = subst (λ (x : Held). IsTrue b ↔ (x.session ≡ s)) (at ∙ get_or_from_slice_get hs i h found e) k

pub none-there : (hs : List Held) (i : ℕ) (h : Held) (s : SessionId) → slice_get hs i ≡ Some h → false ≡ nat_lt i (length hs) → IsTrue false ↔ (h.session ≡ s)
none-there hs i h s e out = absurd (let no : false ≡ true = out ∙ lt-ltb i (length hs) (get-within hs i h e) in cc no)
