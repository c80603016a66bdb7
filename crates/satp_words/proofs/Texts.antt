-- Words read as text, one after the other.
use Rattle.std.proofs.Common.{inl, inr, ◌≡◌, ◌≢◌, ℕ, zero, suc, ◌+◌, Bool, true, cond, List, [], ◌∷◌, ◌++◌, take, map, Some, None, Bor, refl, ap, subst, sym, ◌∙◌, add-one}
use Rattle.std.specs.Prelude.{slice_get}
use Rattle.std.specs.List.{All}
use Rattle.std.proofs.lemmas.List.{map_push}
use Rattle.std.proofs.lemmas.Option.{slice_get_within, get_or_from_slice_get}
use Rattle.clap.proofs.FactLemmas.{prefix_step}
use Rattle.clap.specs.Words.{App, HasKind, Rule, Text, fault_of, is_simple_and_free, kind_of, with_rule}
use Rattle.clap.specs.declared.error.Error.{Error}
use Rattle.clap.specs.declared.error.kind.ErrorKind.TheVariants.{OutOfMemory}
use Rattle.satp_words.specs.Options.{app}

taken_suc : {X : Type 0} (xs : List X) (i : ℕ) (x : X) → slice_get xs i ≡ Some x → take (suc i) xs ≡ take i xs ++ x ∷ []
taken_suc [] i x e = absurd cc
taken_suc (y ∷ ys) zero x e = let same : y ≡ x = cc in ap (λ z. z ∷ []) same
taken_suc (y ∷ ys) (suc i) x e = ap (λ zs. y ∷ zs) (taken_suc ys i x e)

pub taken : {X : Type 0} (xs : List X) (i : ℕ) (x : X) → slice_get xs i ≡ Some x → take (i + 1) xs ≡ take i xs ++ x ∷ []
taken xs i x e = rw add-one (taken_suc xs i x e)

pub all_taken : {X : Type 0} (P : X → Type 0) (xs : List X) (i : ℕ) (x : X) → slice_get xs i ≡ Some x → P x → All P (take i xs) → All P (take (i + 1) xs)
all_taken P xs i x e p all = prefix_step P xs i x (slice_get_within xs i x e) (sym (get_or_from_slice_get xs i x x e)) p all

pub all_at : {X : Type 0} (P : X → Type 0) (xs : List X) (i : ℕ) (x : X) → slice_get xs i ≡ Some x → All P xs → P x
all_at P xs i x e all = subst P (get_or_from_slice_get xs i x x e) (all i x (slice_get_within xs i x e))

whole : {X : Type 0} (xs : List X) (i : ℕ) → slice_get xs i ≡ None → take i xs ≡ xs
whole [] zero e = refl
whole [] (suc i) e = refl
whole (x ∷ xs) zero e = absurd cc
whole (x ∷ xs) (suc i) e = ap (λ zs. x ∷ zs) (whole xs i e)

pub texts_more : (old new : List (Bor Text)) (w : Bor Text) (ok : Bool) (xs : List Text) (i : ℕ) (x : Text) → new ≡ cond ok (old ++ w ∷ []) old → ok ≡ true → map (λ text. text.now) old ≡ take i xs → slice_get xs i ≡ Some x → w.now ≡ x
    → map (λ text. text.now) new ≡ take (i + 1) xs
texts_more old new w ok xs i x is good same got here = ap (map (λ text. text.now)) (is ∙ ap (λ b. cond b (old ++ w ∷ []) old) good) ∙ map_push (λ (text : Bor Text). text.now) old w ∙ ap (λ ts. ts ++ w.now ∷ []) same ∙ ap (λ t. take i xs ++ t ∷ []) here ∙ sym (taken xs i x got)

pub texts_end : (P : Text → Type 0) (texts : List (Bor Text)) (xs : List Text) (i : ℕ) → slice_get xs i ≡ None → map (λ text. text.now) texts ≡ take i xs → All P (take i xs) → (map (λ text. text.now) texts ≡ xs) × All P xs
texts_end P texts xs i none same all = (same ∙ whole xs i none, subst (All P) (whole xs i none) all)

-- an error that isn't want of memory comes of a fault
pub faulty : (a b : App) (words : List Text) (e : Error) → a ≡ b → is_simple_and_free b ≡ true → (is_simple_and_free a ≡ true → HasKind (fault_of a words) e) → kind_of e ≢ OutOfMemory → fault_of b words ≡ [] → ⊥
faulty a b words e same simple kinds other none =
    elim (subst (λ ks. HasKind ks e) (ap (λ (x : App). fault_of x words) same ∙ none) (kinds (ap is_simple_and_free same ∙ simple))) [ inl memory ↦ other memory | inr among ↦ among ]

pub app_more : {X : Type 0} (rule : X → Rule) (now old : App) (r : Rule) (name : Text) (xs : List X) (i : ℕ) (x : X) → slice_get xs i ≡ Some x → old ≡ app name (map rule (take i xs)) → r ≡ rule x → now ≡ with_rule old r → now ≡ app name (map rule (take (i + 1) xs))
app_more rule now old r name xs i x got before is step = step ∙ ap (λ (a : App). with_rule a r) before ∙ ap (λ s. with_rule (app name (map rule (take i xs))) s) is ∙ ap (app name) (sym (ap (map rule) (taken xs i x got) ∙ map_push rule (take i xs) x))
