-- What is found in a value.
use Rattle.std.proofs.Common.{◌≡◌, ℕ, Bool, true, false, cond, List, [], ◌∷◌, Option, Some, None, refl, ap, sym, ◌∙◌}
use Rattle.std.specs.Prelude.{find, IfSome}
use Rattle.serde_json.specs.Find.{as_str}
use Rattle.std.proofs.lemmas.Slice.Eq.{bytes_eq-Decides}
use Rattle.std.specs.Str.{bytes_eq}
use Rattle.serde_json.specs.Data.{Data, null, boolean, number, string, array, object}
use Rattle.satp_base.specs.Canonical.{kind_named, kind_text, kinds, reason_named, reason_text}
use Rattle.satp_base.specs.declared.message.Kind.{Kind}
use Rattle.satp_base.specs.declared.message.Reason.{Reason}
use Rattle.satp_base.specs.declared.message.Reason.TheVariants.{UnknownAsset, MintCapped, Aborted, LedgerTaken}
use Rattle.satp_canon.specs.FirstFault.{text_in}

pub text_is : (o : Option Data) (t : List ℕ) → Some t ≡ text_in o → o ≡ Some (string t)
text_is None t e = absurd cc
text_is (Some null) t e = absurd cc
text_is (Some (boolean b)) t e = absurd cc
text_is (Some (number n)) t e = absurd cc
text_is (Some (string s)) t e = cc
text_is (Some (array ds)) t e = absurd cc
text_is (Some (object ms)) t e = absurd cc

same_some : {A : Type 0} (a c : A) → Some a ≡ Some c → a ≡ c
same_some a c e = cc

found_at : {A : Type 0} (p : A → Bool) (y : A) (b : Bool) (later : Option A) (x : A) → p y ≡ b → (Some x ≡ later → p x ≡ true) → Some x ≡ cond b (Some y) later → p x ≡ true
found_at p y true later x q h e = ap p (same_some x y e) ∙ q
found_at p y false later x q h e = h e

found_passes : {A : Type 0} (p : A → Bool) (xs : List A) (x : A) → Some x ≡ find p xs → p x ≡ true
found_passes p [] x e = absurd cc
found_passes p (y ∷ ys) x e = found_at p y (p y) (find p ys) x refl (found_passes p ys x) e

pub reason_is : (r : Reason) (t : List ℕ) → Some r ≡ reason_named t → t ≡ reason_text r
reason_is r t e = sym ((bytes_eq-Decides (reason_text r) t).0 (found_passes (λ x. bytes_eq (reason_text x) t) (UnknownAsset ∷ MintCapped ∷ Aborted ∷ LedgerTaken ∷ []) r e))

pub kind_is : (k : Kind) (t : List ℕ) → Some k ≡ kind_named t → t ≡ kind_text k
kind_is k t e = sym ((bytes_eq-Decides (kind_text k) t).0 (found_passes (λ x. bytes_eq (kind_text x) t) kinds k e))

str_is : (d : Data) (t : List ℕ) → Some t ≡ as_str d → d ≡ string t
str_is d t e = same_some _ _ (text_is (Some d) t e)

pub kind_told : (r : Option Kind) (t : List ℕ) (d : Data) → r ≡ kind_named t → Some t ≡ as_str d → IfSome r (λ k. d ≡ string (kind_text k))
kind_told None t d e f = tt
kind_told (Some k) t d e f = str_is d t f ∙ ap string (kind_is k t e)
