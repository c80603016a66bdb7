-- What a derived `==` tells: that two values are one, both ways. `r` is what it answered, and the test what it computes.
use Rattle.std.proofs.Common.{◌≡◌, ◌&&◌, Bool, true, nat_eq, IsTrue, ◌↔◌, refl, subst, sym, ◌∙◌}
use Rattle.std.specs.Cmp.Lexicographic.{same_text}
use lib.Pointwise.{pointwise}
use Rattle.std.proofs.lemmas.Bool.{and_parts, and_from, eqb-true, eq-eqb}
use Rattle.std.proofs.lemmas.Cmp.{nat_list_eq_equiv}
use Rattle.satp_base.specs.Keys.{same_name, same_address, same_amount, same_session}
use Rattle.satp_base.specs.declared.name.Name.{Name}
use Rattle.satp_base.specs.declared.address.Address.{Address}
use Rattle.satp_base.specs.declared.session.SessionId.{SessionId}
use Rattle.satp_base.specs.declared.message.Terms.{Terms}

-- a test that tells equal values, and holds of a value and itself
decides : {A : Type 0} (test : A → A → Bool) → ((a b : A) → test a b ≡ true → a ≡ b) → ((a : A) → test a a ≡ true) → (a b : A) (r : Bool) → r ≡ test a b → IsTrue r ↔ (a ≡ b)
decides test exact reflexive a b r e = (λ h. exact a b (sym e ∙ h), λ p. e ∙ subst (λ x. test a x ≡ true) p (reflexive a))

-- ---- names

abbrev pub name_test : Name → Name → Bool
name_test a b = pointwise nat_eq a.bytes b.bytes && nat_eq a.count b.count

pub eq_name : (a b : Name) → name_test a b ≡ true → a ≡ b
eq_name a b e = let p = and_parts _ _ e in same_name a b (same_text a.bytes b.bytes (sym p.0)) (eqb-true _ _ p.1)

pub name_eq : (a : Name) → name_test a a ≡ true
name_eq a = and_from _ _ (nat_list_eq_equiv.refl a.bytes) (eq-eqb a.count _ refl)

pub equal_names : (a b : Name) (r : Bool) → r ≡ name_test a b → IsTrue r ↔ (a ≡ b)
equal_names = decides name_test eq_name name_eq

-- ---- addresses

abbrev pub address_test : Address → Address → Bool
address_test a b = pointwise nat_eq a.bytes b.bytes && nat_eq a.count b.count

pub equal_addresses : (a b : Address) (r : Bool) → r ≡ address_test a b → IsTrue r ↔ (a ≡ b)
equal_addresses = decides address_test
    (λ a b e. let p = and_parts _ _ e in same_address a b (same_text a.bytes b.bytes (sym p.0)) (eqb-true _ _ p.1))
    (λ a. and_from _ _ (nat_list_eq_equiv.refl a.bytes) (eq-eqb a.count _ refl))

-- ---- sessions

abbrev pub session_test : SessionId → SessionId → Bool
session_test a b = name_test a.gateway b.gateway && nat_eq a.number b.number

pub eq_session : (a b : SessionId) → session_test a b ≡ true → a ≡ b
eq_session a b e = let p = and_parts _ _ e in same_session a b (eq_name a.gateway b.gateway p.0) (eqb-true _ _ p.1)

pub session_eq : (a : SessionId) → session_test a a ≡ true
session_eq a = and_from _ _ (name_eq a.gateway) (eq-eqb a.number _ refl)

pub equal_sessions : (a b : SessionId) (r : Bool) → r ≡ session_test a b → IsTrue r ↔ (a ≡ b)
equal_sessions = decides session_test eq_session session_eq

-- ---- terms

abbrev pub terms_test : Terms → Terms → Bool
terms_test a b = nat_eq a.amount.number b.amount.number && (name_test a.asset b.asset && (name_test a.beneficiary b.beneficiary && name_test a.originator b.originator))

pub same_terms : (a b : Terms) → a.amount ≡ b.amount → a.asset ≡ b.asset → a.beneficiary ≡ b.beneficiary → a.originator ≡ b.originator → a ≡ b
same_terms a b p q r s = λ i. record { amount = p i; asset = q i; beneficiary = r i; originator = s i }

pub eq_terms : (a b : Terms) → terms_test a b ≡ true → a ≡ b
eq_terms a b e =
    let p = and_parts _ _ e in
    let q = and_parts _ _ p.1 in
    let r = and_parts _ _ q.1 in
    same_terms a b (same_amount a.amount b.amount (eqb-true _ _ p.0)) (eq_name a.asset b.asset q.0) (eq_name a.beneficiary b.beneficiary r.0) (eq_name a.originator b.originator r.1)

pub terms_eq : (a : Terms) → terms_test a a ≡ true
terms_eq a = and_from _ _ (eq-eqb a.amount.number _ refl) (and_from _ _ (name_eq a.asset) (and_from _ _ (name_eq a.beneficiary) (name_eq a.originator)))

pub equal_terms : (a b : Terms) (r : Bool) → r ≡ terms_test a b → IsTrue r ↔ (a ≡ b)
equal_terms = decides terms_test eq_terms terms_eq
