-- Texts on inputs: what counts of their bytes, and the message that they are.
use Rattle.std.proofs.Common.{◌≡◌, ◌≢◌, ℕ, zero, suc, ◌+◌, ◌-◌, ◌<◌, ◌≤◌, inl, inr, List, [], ◌∷◌, length, take, length-take, Bool, true, false, not, cond, refl, ap, subst, sym, ◌∙◌, arith}
use Rattle.std.proofs.lemmas.Bool.{cases_lt, both_ways, not-true, not-false}
use Rattle.satp_base.proofs.Equalities.{eq_name, name_eq, name_test}
use Rattle.satp_base.specs.Canonical.{IsText}
use Rattle.satp_base.specs.Forms.{IsMessage}
use Rattle.satp_base.specs.declared.message.Message.{Message}
use Rattle.satp_base.specs.declared.name.Name.{Name}
use Rattle.satp_outcome.specs.Texts.{IsOnly, text_form, without_newline}
use Rattle.satp_outcome.proofs.Ends.{IsWhole}

-- without a newline a list is shorter by one at most
one_less : (t : Bool) (bytes : List ℕ) → length bytes ≤ length (cond t (take (length bytes - 1) bytes) bytes) + 1
one_less true bytes = omega (arith, length-take (length bytes - 1) bytes)
one_less false bytes = omega arith

nearly : (bytes : List ℕ) → length bytes ≤ length (without_newline bytes) + 1
nearly bytes = one_less _ bytes

take_short : (n : ℕ) (xs : List ℕ) → length xs ≤ n → take n xs ≡ xs
take_short zero [] h = refl
take_short (suc n) [] h = refl
take_short zero (x ∷ xs) h = absurd (omega arith)
take_short (suc n) (x ∷ xs) h = let less : length xs ≤ n = omega arith in ap (λ ys. x ∷ ys) (take_short n xs less)

-- an input that isn't long was read to its end
whole_input : (bytes : List ℕ) → length (without_newline (take 8194 bytes)) ≤ 8192 → take 8194 bytes ≡ bytes
whole_input bytes short =
    let taken : length (take 8194 bytes) ≤ 8193 = omega (arith, nearly (take 8194 bytes), short) in
    take_short 8194 bytes (omega (arith, length-take 8194 bytes, taken))

-- one that seems long by its first bytes is long
long_input : (bytes : List ℕ) → 8192 < length (without_newline (take 8194 bytes)) → 8192 < length (without_newline bytes)
long_input bytes h = elim (cases_lt 8194 (length bytes)) [
  | inl more ↦ omega (arith, nearly bytes)
  | inr all ↦ subst (λ (x : List ℕ). 8192 < length (without_newline x)) (take_short 8194 bytes all) h
]

pub text_whole : IsWhole text_form
text_whole = record { short = whole_input; long = long_input }

-- ---- messages

pub only_of : (text : List ℕ) (m : Message) → IsMessage m → IsText m text → length text ≤ 8192 → ((n : Message) → IsMessage n → IsText n text → length text ≤ 8192 → m ≡ n) → IsOnly text m
only_of text m formed is short only = record { canonical = is; formed = formed; only = λ n t f. sym (only n f t short) }

-- ---- names that differ, and that do not

pub ne_false : (a b : Name) (r : Bool) → r ≡ not (name_test a b) → r ≡ false → a ≡ b
ne_false a b r e f = eq_name a b (not-false (name_test a b) (sym e ∙ f))

pub ne_true : (a b : Name) (r : Bool) → r ≡ not (name_test a b) → r ≡ true → a ≢ b
ne_true a b r e t same = both_ways _ (not-true (name_test a b) (sym e ∙ t)) (subst (λ (n : Name). name_test a n ≡ true) same (name_eq a))
