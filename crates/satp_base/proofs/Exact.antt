-- What is written for a value is read as that value, and as no other.
use Rattle.std.proofs.Common.{◌≡◌, ℕ, ◌+◌, ◌<◌, ◌^◌, ◌==◌, Bool, true, false, List, [], ◌∷◌, ◌++◌, length, take, drop, get_or, decimal, Some, None, Result, Ok, Err, MatchResult, refl, ap, subst, sym, ◌∙◌, arith, drop-cons, lit<, suc, add-one}
use Rattle.std.specs.Prelude.{position}
use Rattle.std.specs.List.{list_all, position_from}
use Rattle.std.proofs.lemmas.Bool.{and_parts, eqb-true, ne_eqb}
use Rattle.std.proofs.lemmas.Fmt.{decimal_injective}
use Rattle.std.proofs.lemmas.List.{take-append-drop}
use Rattle.std.proofs.lemmas.List.Quantifiers.{position-Some}
use Rattle.std.proofs.lemmas.Iterator.Adapters.{position_from-zero}
use Rattle.std.proofs.Math.Seq.{take-append_seam, drop-append-add}
use Rattle.satp_base.specs.Names.{is_name_byte, is_name, is_address_byte}
use Rattle.satp_base.specs.Numbers.{is_number, greatest_number, greatest_amount}
use Rattle.satp_base.specs.Faults.{name_fault, address_fault, amount_fault, session_fault, parts_fault}
use Rattle.satp_base.specs.Values.{name_text, address_text, amount_text, session_text, IsSessionText}
use Rattle.satp_base.specs.Keys.{same_name, same_address, same_amount, same_session}
use Rattle.satp_base.specs.declared.name.Name.{Name}
use Rattle.satp_base.specs.declared.address.Address.{Address}
use Rattle.satp_base.specs.declared.amount.Amount.{Amount}
use Rattle.satp_base.specs.declared.session.SessionId.{SessionId}
use Rattle.satp_base.specs.declared.fault.NameFault.{NameFault}
use Rattle.satp_base.specs.declared.fault.AmountFault.{AmountFault}
use Rattle.satp_base.specs.declared.fault.SessionFault.{SessionFault}
use Rattle.satp_base.specs.declared.fault.SessionFault.TheVariants as session
use Rattle.satp_base.proofs.Forms.{Holds, held, form_parts, no_form_fault, same_held}
use Rattle.satp_base.proofs.Decimals.{no_number_fault, is_number-decimal}

-- ---- names

pub name_holds : (n : Name) → Holds 32 is_name_byte n.count n.bytes
name_holds n = held 32 is_name_byte n.count n.bytes n.valid

pub name_bytes : (n : Name) → list_all is_name_byte (name_text n) ≡ true
name_bytes n = (form_parts 32 is_name_byte (name_text n) (name_holds n).form).bytes

pub no_name_fault : (n : Name) → name_fault (name_text n) ≡ None
no_name_fault n = no_form_fault 32 is_name_byte (name_text n) (name_holds n).form

pub same_text : (a b : Name) → name_text a ≡ name_text b → a ≡ b
same_text a b e = let p = same_held 32 is_name_byte a.count a.bytes b.count b.bytes (name_holds a) (name_holds b) e in same_name a b p.0 p.1

pub name_exact : (text : List ℕ) (r : Result Name NameFault) → MatchResult r (λ n. (name_fault text ≡ None) × (name_text n ≡ text)) (λ f. name_fault text ≡ Some f)
    → (n : Name) → text ≡ name_text n → r ≡ Ok n
name_exact text (Ok a) h n e = ap Ok (same_text a n (h.1 ∙ e))
name_exact text (Err f) h n e = let none = sym h ∙ ap name_fault e ∙ no_name_fault n in absurd cc

-- ---- addresses

pub address_holds : (a : Address) → Holds 64 is_address_byte a.count a.bytes
address_holds a = held 64 is_address_byte a.count a.bytes a.valid

pub same_address_text : (a b : Address) → address_text a ≡ address_text b → a ≡ b
same_address_text a b e = let p = same_held 64 is_address_byte a.count a.bytes b.count b.bytes (address_holds a) (address_holds b) e in same_address a b p.0 p.1

pub address_exact : (text : List ℕ) (r : Result Address NameFault) → MatchResult r (λ a. (address_fault text ≡ None) × (address_text a ≡ text)) (λ f. address_fault text ≡ Some f)
    → (a : Address) → text ≡ address_text a → r ≡ Ok a
address_exact text (Ok a) h b e = ap Ok (same_address_text a b (h.1 ∙ e))
address_exact text (Err f) h b e = let none = sym h ∙ ap address_fault e ∙ no_form_fault 64 is_address_byte (address_text b) (address_holds b).form in absurd cc

-- ---- amounts

amount_small : greatest_amount < 2 ^ 64
amount_small = lit< tt

pub amount_number : (a : Amount) → is_number greatest_amount (amount_text a) ≡ true
amount_number a = is_number-decimal greatest_amount a.number a.low a.high amount_small

pub same_amount_text : (a b : Amount) → amount_text a ≡ amount_text b → a ≡ b
same_amount_text a b e = same_amount a b (decimal_injective a.number b.number (omega (arith, a.high)) (omega (arith, b.high)) e)

pub amount_exact : (text : List ℕ) (r : Result Amount AmountFault) → MatchResult r (λ a. (amount_fault text ≡ None) × (amount_text a ≡ text)) (λ f. amount_fault text ≡ Some f)
    → (a : Amount) → text ≡ amount_text a → r ≡ Ok a
amount_exact text (Ok a) h b e = ap Ok (same_amount_text a b (h.1 ∙ e))
amount_exact text (Err f) h b e = let none = sym h ∙ ap amount_fault e ∙ no_number_fault greatest_amount (amount_text b) (amount_number b) in absurd cc

-- ---- sessions

before_stop : (i : ℕ) (bs rest : List ℕ) → list_all is_name_byte bs ≡ true → position_from (λ b. b == 46) i (bs ++ 46 ∷ rest) ≡ Some (i + length bs)
before_stop i [] rest e = ap Some (omega arith)
before_stop i (b ∷ bs) rest e =
    let p = and_parts _ _ e in
    rw (not_stop b p.0) (before_stop (i + 1) bs rest p.1 ∙ ap Some (omega arith))
  where
    not_stop : (b : ℕ) → is_name_byte b ≡ true → (b == 46) ≡ false
    not_stop b h = ne_eqb b 46 (λ e. let bad : false ≡ true = subst (λ (x : ℕ). is_name_byte x ≡ true) e h in cc)

-- the full stop behind a name is the first
first_stop : (name digits : List ℕ) → is_name name ≡ true → position (λ b. b == 46) (name ++ 46 ∷ digits) ≡ Some (length name)
first_stop name digits e = position_from-zero (λ b. b == 46) (name ++ 46 ∷ digits) ∙ before_stop 0 name digits (form_parts 32 is_name_byte name e).bytes ∙ ap Some (omega arith)

-- a name, a full stop and a number are a session without fault
pub no_session_fault : (name digits : List ℕ) → is_name name ≡ true → is_number greatest_number digits ≡ true → session_fault (name ++ 46 ∷ digits) ≡ None
no_session_fault name digits named numbered =
    let text = name ++ 46 ∷ digits in
    let dropped : drop (length name + 1) text ≡ digits = drop-append-add name (46 ∷ digits) 1 in
    ap (parts_fault text) (first_stop name digits named) ∙ rw (take-append_seam name (46 ∷ digits), no_form_fault 32 is_name_byte name named, dropped, numbered) refl

number_small : greatest_number < 2 ^ 64
number_small = lit< tt

pub session_number : (s : SessionId) → is_number greatest_number (decimal s.number) ≡ true
session_number s = is_number-decimal greatest_number s.number s.low s.high number_small

pub session_faultless : (s : SessionId) → session_fault (session_text s) ≡ None
session_faultless s = no_session_fault (name_text s.gateway) (decimal s.number) (name_holds s.gateway).form (session_number s)

-- sessions of one text are one
pub same_session_text : (s t : SessionId) → session_text s ≡ session_text t → s ≡ t
same_session_text s t e =
    let a = name_text s.gateway in
    let b = name_text t.gateway in
    let m = decimal s.number in
    let n = decimal t.number in
    let stop = same_stop (length a) (length b) (sym (first_stop a m (name_holds s.gateway).form) ∙ ap (position (λ b. b == 46)) e ∙ first_stop b n (name_holds t.gateway).form) in
    let gateway : a ≡ b = sym (take-append_seam a (46 ∷ m)) ∙ ap (take (length a)) e ∙ ap (λ k. take k (b ++ 46 ∷ n)) stop ∙ take-append_seam b (46 ∷ n) in
    let number : m ≡ n = sym (drop-append-add a (46 ∷ m) 1) ∙ ap (drop (length a + 1)) e ∙ ap (λ k. drop (k + 1) (b ++ 46 ∷ n)) stop ∙ drop-append-add b (46 ∷ n) 1 in
    same_session s t (same_text s.gateway t.gateway gateway) (decimal_injective s.number t.number (omega (arith, s.high)) (omega (arith, t.high)) number)
  where
    same_stop : (m n : ℕ) → Some m ≡ Some n → m ≡ n
    same_stop m n p = cc

pub session_exact : (text : List ℕ) (r : Result SessionId SessionFault) → MatchResult r (λ s. (session_fault text ≡ None) × (session_text s ≡ text)) (λ f. session_fault text ≡ Some f)
    → (s : SessionId) → text ≡ session_text s → r ≡ Ok s
session_exact text (Ok a) h s e = ap Ok (same_session_text a s (h.1 ∙ e))
session_exact text (Err f) h s e = let none = sym h ∙ ap session_fault e ∙ session_faultless s in absurd cc

pub no_session : (text : List ℕ) (f : SessionFault) → session_fault text ≡ Some f → IsSessionText text → false ≡ true
no_session text f e form = let none = sym e ∙ ap session_fault form.joined ∙ no_session_fault form.gateway form.number form.name form.decimal in absurd cc

-- where the first full stop stands, the text is what is before and what is behind
pub parted : (text : List ℕ) (stop : ℕ) → position (λ b. b == 46) text ≡ Some stop → take stop text ++ 46 ∷ drop (stop + 1) text ≡ text
parted text stop e =
    let p = position-Some (λ b. b == 46) text stop 0 e in
    let is : get_or text stop 0 ≡ 46 = eqb-true _ _ p.1 in
    let behind : drop (stop + 1) text ≡ drop (suc stop) text = ap (λ k. drop k text) (add-one stop) in
    ap (λ xs. take stop text ++ 46 ∷ xs) behind ∙ ap (λ x. take stop text ++ x ∷ drop (suc stop) text) (sym is) ∙ ap (λ xs. take stop text ++ xs) (sym (drop-cons text stop 0 p.0)) ∙ take-append-drop stop text

-- ---- what the reader of sessions has found

pub record FoundSession (text : List ℕ) (gateway : Name) (number : ℕ) : Type 0 where
  pub faultless : session_fault text ≡ None
  pub text_is : name_text gateway ++ 46 ∷ decimal number ≡ text
  pub form : IsSessionText text

-- the parts round the first full stop are a name and a number
pub session_found : (text : List ℕ) (stop : ℕ) (gateway : Name) (number : ℕ) (rest : List ℕ) → position (λ b. b == 46) text ≡ Some stop → name_text gateway ≡ take stop text
    → rest ≡ drop (stop + 1) text → is_number greatest_number rest ≡ true → rest ≡ decimal number → FoundSession text gateway number
session_found text stop gateway number rest first named behind numbered is =
    let joined : name_text gateway ++ 46 ∷ decimal number ≡ text = ap (λ x. x ++ 46 ∷ decimal number) named ∙ ap (λ x. take stop text ++ 46 ∷ x) (sym is ∙ behind) ∙ parted text stop first in
    let named = (name_holds gateway).form in
    let numbered : is_number greatest_number (decimal number) ≡ true = ap (is_number greatest_number) (sym is) ∙ numbered in
    record {
      faultless = ap session_fault (sym joined) ∙ no_session_fault (name_text gateway) (decimal number) named numbered;
      text_is = joined;
      form = record { gateway = name_text gateway; number = decimal number; joined = sym joined; name = named; decimal = numbered };
    }

-- what is behind the first full stop is no number
pub session_number_fault : (text : List ℕ) (stop : ℕ) (gateway : Name) (rest : List ℕ) → position (λ b. b == 46) text ≡ Some stop → name_text gateway ≡ take stop text
    → rest ≡ drop (stop + 1) text → (is_number greatest_number rest ≡ true → false ≡ true) → session_fault text ≡ Some session.Number
session_number_fault text stop gateway rest first named behind fails =
    let none : name_fault (take stop text) ≡ None = ap name_fault (sym named) ∙ no_name_fault gateway in
    let not : is_number greatest_number (drop (stop + 1) text) ≡ false = ap (is_number greatest_number) (sym behind) ∙ no_number (is_number greatest_number rest) fails in
    ap (parts_fault text) first ∙ rw (none, not) refl
  where
    no_number : (b : Bool) → (b ≡ true → false ≡ true) → b ≡ false
    no_number true h = sym (h refl)
    no_number false h = refl
