-- What an operation does to the money of a ledger.
use Rattle.std.proofs.Common.{◌≡◌, ℕ, ◌+◌, ◌-◌, ◌≤◌, ◌&&◌, Bool, true, false, refl, ap, subst, sym, arith}
use Rattle.std.specs.Prelude.{unwrap_or}
use Rattle.satp_base.specs.Founding.{counted, equal_names}
use Rattle.satp_base.specs.LedgerRule.{entry_of, leads, moved, result_of, terms_of}
use Rattle.satp_base.specs.Money.{Book, cap_of, free_of, free_sum_of, given, given_to_all, is_given, is_pledged, is_taken, pledged, sum_entries, taken, taken_of_all, total_of}
use Rattle.satp_base.specs.Soundness.{IsSound}
use Rattle.satp_base.specs.declared.ledger.Entry.{Entry}
use Rattle.satp_base.specs.declared.ledger.Entry.TheVariants.{Absent, Locked, Minted, Assigned}
use Rattle.satp_base.specs.declared.ledger.LedgerOp.{LedgerOp}
use Rattle.satp_base.specs.declared.ledger.LedgerOp.TheVariants.{Lock, Burn, Mint, Assign, Release}
use Rattle.satp_base.specs.declared.message.Terms.{Terms}
use Rattle.satp_base.specs.declared.name.Name.{Name}
use Rattle.satp_base.specs.declared.session.SessionId.{SessionId}
use Rattle.satp_base.proofs.GenesisLemmas.{equal_name}
use Rattle.satp_money.specs.Amounts.{Agrees}
use Rattle.satp_money.proofs.Counting.{sum_moved}

-- ---- the lines of the table

never : false ≡ true → ⊥
never e = cc

abbrev pub is_mint : LedgerOp → Bool
is_mint Mint = true
is_mint _ = false

-- an entry that moves was given to nobody yet
pub given_before : (op : LedgerOp) (e : Entry) (x : Bool) (n : ℕ) → leads op e ≡ true → counted (is_given e && x) n ≡ 0
given_before op Assigned x n l = absurd (no_assigned op l)
  where
    no_assigned : (o : LedgerOp) → leads o Assigned ≡ true → ⊥
    no_assigned Lock l = never l
    no_assigned Burn l = never l
    no_assigned Mint l = never l
    no_assigned Assign l = never l
    no_assigned Release l = never l
given_before op _ x n l = refl

-- but for a mint, no more is there than before
pub there_after : (op : LedgerOp) (e : Entry) (x : Bool) (n : ℕ) → leads op e ≡ true → is_mint op ≡ false
    → counted (is_given (result_of op) && x) n + counted (is_taken e && x) n + counted (is_pledged (result_of op) && x) n ≤ counted (is_taken (result_of op) && x) n + counted (is_pledged e && x) n
there_after Mint e x n l f = absurd (never (sym f))
there_after Lock Absent x n l f = omega arith
there_after Burn Locked x n l f = omega arith
there_after Assign Minted x n l f = omega arith
there_after Release Absent x n l f = omega arith
there_after Release Locked x n l f = omega arith
there_after Release Minted x n l f = omega arith
there_after op e x n l f = absurd (never l)

-- a mint makes an entry where there was none
mint_before : (op : LedgerOp) (e : Entry) (x : Bool) (n : ℕ) → leads op e ≡ true → is_mint op ≡ true
    → counted (is_given e && x) n + counted (is_taken e && x) n + counted (is_pledged e && x) n ≡ 0
mint_before Mint Absent x n l m = refl
mint_before Mint e x n l m = absurd (never l)
mint_before op e x n l m = absurd (never m)

mint_after : (op : LedgerOp) (x : Bool) (n : ℕ) → is_mint op ≡ true
    → (counted (is_taken (result_of op) && x) n ≡ 0) × (counted (is_given (result_of op) && x) n ≡ 0) × (counted (is_pledged (result_of op) && x) n ≡ counted x n)
mint_after Mint x n m = (refl, refl, refl)
mint_after op x n m = absurd (never m)

-- ---- amounts that agree with a book

balance : (f f' u u' g g' h t0 t1 g0 g1 : ℕ) → u' + t0 ≡ u + t1 → g' + g0 ≡ g + g1 → f + u ≡ h + g → f' + (t1 + g0) ≡ f + (t0 + g1) → f' + u' ≡ h + g'
balance f f' u u' g g' h t0 t1 g0 g1 p q r s = omega arith

falls : (f f' p p' t0 t1 g0 g1 p0 p1 most : ℕ) → p' + p0 ≡ p + p1 → f' + (t1 + g0) ≡ f + (t0 + g1) → f + p ≤ most → g1 + t0 + p1 ≤ t1 + p0 → f' + p' ≤ most
falls f f' p p' t0 t1 g0 g1 p0 p1 most e c l m = omega arith

rises : (f f' p p' t0 t1 g0 g1 p0 p1 n most : ℕ) → p' + p0 ≡ p + p1 → f' + (t1 + g0) ≡ f + (t0 + g1) → t1 ≡ 0 → g1 ≡ 0 → p1 ≡ n → g0 + t0 + p0 ≡ 0 → f + p + n ≤ most → f' + p' ≤ most
rises f f' p p' t0 t1 g0 g1 p0 p1 n most e c q r l z m = omega arith

-- what an operation does to amounts, if it moves this entry
pub record Changes (op : LedgerOp) (e : Entry) (t : Terms) (amount amount' : Name → Name → ℕ) (sum sum' : Name → ℕ) : Type 0 where
  pub each : (a o : Name) → amount' a o + (taken a o (record { entry = result_of op; terms = t }) + given a o (record { entry = e; terms = t })) ≡ amount a o + (taken a o (record { entry = e; terms = t }) + given a o (record { entry = result_of op; terms = t }))
  pub all : (a : Name) → sum' a + (taken_of_all a (record { entry = result_of op; terms = t }) + given_to_all a (record { entry = e; terms = t })) ≡ sum a + (taken_of_all a (record { entry = e; terms = t }) + given_to_all a (record { entry = result_of op; terms = t }))

-- a mint is within the cap
abbrev pub Fits : Book → LedgerOp → Terms → (Name → ℕ) → Type 0
Fits b op t all = is_mint op ≡ true → all t.asset + sum_entries (pledged t.asset) b.entries + t.amount.number ≤ unwrap_or (cap_of b.genesis t.asset) 0

module _ (b : Book) (op : LedgerOp) (s : SessionId) (t : Terms) (each each' : Name → Name → ℕ) (all all' : Name → ℕ) where
  abbrev T : Terms
  T = terms_of b.entries s t

  abbrev e₀ : Entry
  e₀ = entry_of b.entries s

  within_cap : (a : Name) (x : Bool) → equal_names a T.asset ≡ x → all T.asset + sum_entries (pledged T.asset) b.entries + T.amount.number ≤ unwrap_or (cap_of b.genesis T.asset) 0
      → all a + sum_entries (pledged a) b.entries ≤ unwrap_or (cap_of b.genesis a) 0 → all a + sum_entries (pledged a) b.entries + counted x T.amount.number ≤ unwrap_or (cap_of b.genesis a) 0
  within_cap a true e fits h = subst (λ y. all y + sum_entries (pledged y) b.entries + T.amount.number ≤ unwrap_or (cap_of b.genesis y) 0) (sym (equal_name a T.asset e)) fits
  within_cap a false e fits h = omega arith

  capped_after : Agrees b each all → leads op e₀ ≡ true → Fits b op T all → Changes op e₀ T each each' all all' → (a : Name) (m : Bool) → is_mint op ≡ m
      → all' a + sum_entries (pledged a) (moved b op s t).entries ≤ unwrap_or (cap_of b.genesis a) 0
  capped_after h l fits c a false e =
      falls _ _ _ _ _ _ _ _ _ _ _ (sum_moved is_pledged (λ x. equal_names a x.asset) refl b.entries op s t) (c.all a) (h.capped a) (there_after op e₀ (equal_names a T.asset) T.amount.number l e)
  capped_after h l fits c a true e =
      let after = mint_after op (equal_names a T.asset) T.amount.number e in
      rises _ _ _ _ _ _ _ _ _ _ (counted (equal_names a T.asset) T.amount.number) _ (sum_moved is_pledged (λ x. equal_names a x.asset) refl b.entries op s t) (c.all a) after.0 after.1 after.2
      (mint_before op e₀ (equal_names a T.asset) T.amount.number l e) (within_cap a (equal_names a T.asset) refl (fits e) (h.capped a))

  pub agrees_after : Agrees b each all → leads op e₀ ≡ true → Fits b op T all → Changes op e₀ T each each' all all' → Agrees (moved b op s t) each' all'
  agrees_after h l fits c = record {
    each = λ a o. balance _ _ _ _ _ _ _ _ _ _ _ (sum_moved is_taken (λ x. equal_names a x.asset && equal_names o x.originator) refl b.entries op s t) (sum_moved is_given (λ x. equal_names a x.asset && equal_names o x.beneficiary) refl b.entries op s t) (h.each a o) (c.each a o);
    all = λ a. balance _ _ _ _ _ _ _ _ _ _ _ (sum_moved is_taken (λ x. equal_names a x.asset) refl b.entries op s t) (sum_moved is_given (λ x. equal_names a x.asset) refl b.entries op s t) (h.all a) (c.all a);
    capped = λ a. capped_after h l fits c a (is_mint op) refl;
  }

-- ---- what the amounts are

left : (f u h g : ℕ) → f + u ≡ h + g → f ≡ (h + g) - u
left f u h g e = omega arith

module _ (b : Book) (each : Name → Name → ℕ) (all : Name → ℕ) (h : Agrees b each all) where
  pub each_is : (a o : Name) → each a o ≡ free_of b a o
  each_is a o = left _ _ _ _ (h.each a o)

  pub all_is : (a : Name) → all a ≡ free_sum_of b a
  all_is a = left _ _ _ _ (h.all a)

  pub total_is : (a : Name) → all a + sum_entries (pledged a) b.entries ≡ total_of b a
  total_is a = ap (λ x. x + sum_entries (pledged a) b.entries) (all_is a)

  pub sound : IsSound b
  sound = record {
    covered = λ a o. omega (arith, h.each a o);
    all_covered = λ a. omega (arith, h.all a);
    capped = λ a. subst (λ x. x ≤ unwrap_or (cap_of b.genesis a) 0) (total_is a) (h.capped a);
  }
