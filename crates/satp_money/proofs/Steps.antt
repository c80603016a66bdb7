-- What each line of the table does to the entries and to owners' amounts, however these are kept.
use Rattle.std.proofs.Common.{◌≡◌, ◌≢◌, ℕ, ◌+◌, ◌≤◌, ◌&&◌, Bool, true, false, cond, List, [], ◌∷◌, Some, None, Result, Ok, Err, refl, ap, subst, sym, ◌∙◌, arith}
use Rattle.std.specs.Prelude.{OnErr, OnOk, find, option_map, unwrap_or}
use Rattle.std.specs.BTreeMap.{is_at}
use Rattle.std.specs.Option.{option_map_or}
use Rattle.std.specs.Result.{is_err}
use Rattle.std.specs.FinMap.{from_entries, get, insert}
use Rattle.satp_base.specs.Keys.{session_cmp}
use Rattle.satp_base.proofs.SessionLemmas.{get_session, one_session, value_at}
use Rattle.satp_base.specs.Founding.{cap_among, counted, equal_names}
use Rattle.satp_base.specs.Ledgers.{Entries}
use Rattle.satp_base.specs.LedgerRule.{entry_of, is_always_answered, leads, moved, result_of, terms_of}
use Rattle.satp_base.specs.Money.{Book, cap_of, is_pledged, pledged, sum_entries}
use Rattle.satp_base.specs.Numbers.{greatest_amount}
use Rattle.satp_base.specs.declared.genesis.Asset.{Asset}
use Rattle.satp_base.specs.declared.ledger.Entry.{Entry}
use Rattle.satp_base.specs.declared.ledger.Entry.TheVariants.{Absent, Locked, Minted}
use Rattle.satp_base.specs.declared.ledger.LedgerEntry.{LedgerEntry}
use Rattle.satp_base.specs.declared.ledger.LedgerOp.{LedgerOp}
use Rattle.satp_base.specs.declared.ledger.LedgerOp.TheVariants.{Lock, Burn, Mint, Assign, Release}
use Rattle.satp_base.specs.declared.message.Terms.{Terms}
use Rattle.satp_base.specs.declared.name.Name.{Name}
use Rattle.satp_base.specs.declared.session.SessionId.{SessionId}
use Rattle.satp_base.proofs.GenesisLemmas.{names_refl}
use Rattle.satp_money.specs.Amounts.{Agrees}
use Rattle.satp_money.proofs.Counting.{standing_at, sum_moved, under}
use Rattle.satp_money.proofs.Moves.{Changes, Fits, agrees_after, all_is, is_mint}
use Rattle.satp_money.specs.Steps.{FitsCap, is_giving, is_still, receiver, with_result}
use Rattle.satp_money.specs.declared.owned.Owned.{Owned}

never : false ≡ true → ⊥
never e = cc

-- ---- the entry of a session

pub stands_none : (m : Entries) (s : SessionId) (t : Terms) → get m s ≡ None → (Absent ≡ entry_of m s) × (t ≡ terms_of m s t)
stands_none m s t e = (ap (λ o. (standing_at o t).entry) (sym e), ap (λ o. (standing_at o t).terms) (sym e))

pub stands_absent : (m : Entries) (s : SessionId) (t : Terms) (k : LedgerEntry) → get m s ≡ Some k → k.entry ≡ Absent → (Absent ≡ entry_of m s) × (t ≡ terms_of m s t)
stands_absent m s t k e a = (sym a ∙ ap (λ o. (standing_at o t).entry) (sym e), ap (λ x. under x k.terms t) (sym a) ∙ ap (λ o. (standing_at o t).terms) (sym e))

under_kept : (x : Entry) (kept given : Terms) → x ≢ Absent → kept ≡ under x kept given
under_kept Absent kept given n = absurd (n refl)
under_kept _ kept given n = refl

pub stands : (m : Entries) (s : SessionId) (t : Terms) (k : LedgerEntry) → get m s ≡ Some k → k.entry ≢ Absent → (k.entry ≡ entry_of m s) × (k.terms ≡ terms_of m s t)
stands m s t k e n = (ap (λ o. (standing_at o t).entry) (sym e), under_kept k.entry k.terms t n ∙ ap (λ o. (standing_at o t).terms) (sym e))

pub absent_terms : (m : Entries) (s : SessionId) (t : Terms) → entry_of m s ≡ Absent → terms_of m s t ≡ t
absent_terms m s t e = ap (λ x. under x (option_map_or (λ (k : LedgerEntry). k.terms) (get m s) t) t) e

-- ---- lines that leave what is free

still_changes : (op : LedgerOp) (e : Entry) (t : Terms) (amount : Name → Name → ℕ) (sum : Name → ℕ) → is_still op e ≡ true → Changes op e t amount amount sum sum
still_changes Burn Locked t amount sum h = record { each = λ a o. refl; all = λ a. refl }
still_changes Mint Absent t amount sum h = record { each = λ a o. refl; all = λ a. refl }
still_changes Release Absent t amount sum h = record { each = λ a o. refl; all = λ a. refl }
still_changes Release Minted t amount sum h = record { each = λ a o. refl; all = λ a. refl }
still_changes op e t amount sum h = absurd (never h)

still_leads : (op : LedgerOp) (e : Entry) → is_still op e ≡ true → leads op e ≡ true
still_leads Burn Locked h = refl
still_leads Mint Absent h = refl
still_leads Release Absent h = refl
still_leads Release Minted h = refl
still_leads op e h = absurd (never h)

pub still_agrees : (b : Book) (op : LedgerOp) (s : SessionId) (t : Terms) (amount : Name → Name → ℕ) (sum : Name → ℕ) → Agrees b amount sum → is_still op (entry_of b.entries s) ≡ true → t ≡ terms_of b.entries s t → FitsCap b op t
    → Agrees (with_result b op s t) amount sum
still_agrees b op s t amount sum h still holds fits =
    subst (λ x. Agrees (with_result b op s x) amount sum) (sym holds)
    (agrees_after b op s t amount amount sum sum h (still_leads op _ still)
    (subst (λ x. is_mint op ≡ true → sum x.asset + sum_entries (pledged x.asset) b.entries + x.amount.number ≤ unwrap_or (cap_of b.genesis x.asset) 0) holds
    (λ m. subst (λ x. x + sum_entries (pledged t.asset) b.entries + t.amount.number ≤ unwrap_or (cap_of b.genesis t.asset) 0) (sym (all_is b amount sum h t.asset)) (fits m)))
    (still_changes op _ _ amount sum still))

-- a book after a put that succeeded or did not
pub put_agrees : {T E : Type 0} (r : Result T E) (b : Book) (m' : Entries) (op : LedgerOp) (s : SessionId) (t : Terms) (amount : Name → Name → ℕ) (sum : Name → ℕ)
    → Agrees b amount sum → Agrees (with_result b op s t) amount sum → OnOk r (m' ≡ (with_result b op s t).entries) → OnErr r (m' ≡ b.entries) → Agrees (record b { entries = m' }) amount sum
put_agrees (Ok x) b m' op s t amount sum h g ok err = subst (λ m. Agrees (record b { entries = m }) amount sum) (sym ok) g
put_agrees (Err x) b m' op s t amount sum h g ok err = subst (λ m. Agrees (record b { entries = m }) amount sum) (sym err) h

-- ---- what an insert of an entry says

pub on_err : {T E : Type 0} (r : Result T E) (P Q : Type 0) → (P → Q) → OnErr r P → OnErr r Q
on_err (Ok t) P Q f h = tt
on_err (Err e) P Q f h = f h

-- the entries after the operation's result was put
pub entry_put : (es fs : List (SessionId × LedgerEntry)) (s : SessionId) (op : LedgerOp) (entry : Entry) (t : Terms) → entry ≡ result_of op
    → ((q : SessionId) → value_at fs q ≡ cond (is_at (session_cmp s) q) (Some (record { entry = entry; terms = t })) (value_at es q))
    → from_entries {R = session_cmp} fs ≡ insert (from_entries es) s (record { entry = result_of op; terms = t })
entry_put es fs s op entry t e h = one_session es fs s _ h ∙ ap (λ x. insert (from_entries es) s (record { entry = x; terms = t })) e

pub entry_there : (es : List (SessionId × LedgerEntry)) (s : SessionId) → value_at es s ≡ None → Absent ≡ entry_of (from_entries {R = session_cmp} es) s
entry_there es s e = ap (λ o. option_map_or (λ (k : LedgerEntry). k.entry) o Absent) (sym (get_session es s ∙ e))

pub from_err : {T E : Type 0} (r : Result T E) (P : Type 0) → true ≡ is_err r → OnErr r P → P
from_err (Ok t) P e h = absurd cc
from_err (Err x) P e h = h

pub from_ok : {T E : Type 0} (r : Result T E) (P : Type 0) → false ≡ is_err r → OnOk r P → P
from_ok (Ok t) P e h = h
from_ok (Err x) P e h = absurd cc

-- ---- lines by which an amount comes to an owner, or leaves one

comes_over : (c : Bool) (f f' n : ℕ) → f' ≡ f + counted c n → f' + (0 + 0) ≡ f + (0 + counted c n)
comes_over c f f' n e = omega arith

comes_back : (c : Bool) (f f' n : ℕ) → f' ≡ f + counted c n → f' + (0 + 0) ≡ f + (counted c n + 0)
comes_back c f f' n e = omega arith

goes : (c : Bool) (f f' n : ℕ) → f' + counted c n ≡ f → f' + (counted c n + 0) ≡ f + (0 + 0)
goes c f f' n e = omega arith

-- the amounts rose by what came to an owner
pub record Rises (o : Owned) (n : ℕ) (amount amount' : Name → Name → ℕ) (sum sum' : Name → ℕ) : Type 0 where
  pub each : (a q : Name) → amount' a q ≡ amount a q + counted (equal_names a o.asset && equal_names q o.owner) n
  pub all : (a : Name) → sum' a ≡ sum a + counted (equal_names a o.asset) n

giving_changes : (op : LedgerOp) (e : Entry) (t : Terms) (amount amount' : Name → Name → ℕ) (sum sum' : Name → ℕ) → is_giving op e ≡ true → Rises (receiver op t) t.amount.number amount amount' sum sum' → Changes op e t amount amount' sum sum'
giving_changes Assign Minted t amount amount' sum sum' h r = record {
  each = λ a o. comes_over (equal_names a t.asset && equal_names o t.beneficiary) _ _ _ (r.each a o);
  all = λ a. comes_over (equal_names a t.asset) _ _ _ (r.all a);
}
giving_changes Release Locked t amount amount' sum sum' h r = record {
  each = λ a o. comes_back (equal_names a t.asset && equal_names o t.originator) _ _ _ (r.each a o);
  all = λ a. comes_back (equal_names a t.asset) _ _ _ (r.all a);
}
giving_changes op e t amount amount' sum sum' h r = absurd (never h)

giving_leads : (op : LedgerOp) (e : Entry) → is_giving op e ≡ true → (leads op e ≡ true) × (is_mint op ≡ false) × (is_pledged e ≡ true) × (is_pledged (result_of op) ≡ false) × (e ≢ Absent)
giving_leads Assign Minted h = (refl, refl, refl, refl, λ x. cc)
giving_leads Release Locked h = (refl, refl, refl, refl, λ x. cc)
giving_leads op e h = absurd (never h)

no_fits : (b : Book) (op : LedgerOp) (t : Terms) (sum : Name → ℕ) → is_mint op ≡ false → Fits b op t sum
no_fits b op t sum e m = absurd (never (sym e ∙ m))

module _ (b : Book) (s : SessionId) (amount amount' : Name → Name → ℕ) (sum sum' : Name → ℕ) where
  pub give_agrees : (op : LedgerOp) (t : Terms) → Agrees b amount sum → is_giving op (entry_of b.entries s) ≡ true → t ≡ terms_of b.entries s t → Rises (receiver op t) t.amount.number amount amount' sum sum' → Agrees (with_result b op s t) amount' sum'
  give_agrees op t h giving holds r =
      let l = giving_leads op (entry_of b.entries s) giving in
      subst (λ x. Agrees (with_result b op s x) amount' sum') (sym holds)
      (agrees_after b op s t amount amount' sum sum' h l.0 (no_fits b op (terms_of b.entries s t) sum l.1)
      (subst (λ (x : Terms). Changes op (entry_of b.entries s) x amount amount' sum sum') holds (giving_changes op _ t amount amount' sum sum' giving r)))

  pub take_agrees : (t : Terms) → Agrees b amount sum → entry_of b.entries s ≡ Absent → Rises (receiver Lock t) t.amount.number amount' amount sum' sum → Agrees (with_result b Lock s t) amount' sum'
  take_agrees t h none r =
      subst (λ x. Agrees (with_result b Lock s x) amount' sum') (absent_terms b.entries s t none)
      (agrees_after b Lock s t amount amount' sum sum' h (subst (λ x. leads Lock x ≡ true) (sym none) refl) (no_fits b Lock (terms_of b.entries s t) sum refl)
      (subst (λ x. Changes Lock (entry_of b.entries s) x amount amount' sum sum') (sym (absent_terms b.entries s t none))
      (subst (λ e. Changes Lock e t amount amount' sum sum') (sym none) (record {
        each = λ a o. goes (equal_names a t.asset && equal_names o t.originator) _ _ _ (sym (r.each a o));
        all = λ a. goes (equal_names a t.asset) _ _ _ (sym (r.all a));
      }))))

-- ---- bounds

pub cap_most : (assets : List Asset) (a : Name) → unwrap_or (cap_among assets a) 0 ≤ greatest_amount
cap_most [] a = omega arith
cap_most (x ∷ assets) a = at (equal_names a x.name) (cap_most assets a)
  where
    at : (c : Bool) → unwrap_or (cap_among assets a) 0 ≤ greatest_amount → unwrap_or (option_map (λ (y : Asset). y.cap.number) (cond c (Some x) (find (λ (y : Asset). equal_names a y.name) assets))) 0 ≤ greatest_amount
    at true rest = x.cap.high
    at false rest = rest

pub sum_most : (b : Book) (amount : Name → Name → ℕ) (sum : Name → ℕ) (a : Name) → Agrees b amount sum → sum a + sum_entries (pledged a) b.entries ≤ greatest_amount
sum_most b amount sum a h = omega (arith, h.capped a, cap_most b.genesis.assets a)

pledged_part : (op : LedgerOp) (e : Entry) (t : Terms) → is_pledged e ≡ true → is_pledged (result_of op) ≡ false
    → (counted (is_pledged e && equal_names t.asset t.asset) t.amount.number ≡ t.amount.number) × (counted (is_pledged (result_of op) && equal_names t.asset t.asset) t.amount.number ≡ 0)
pledged_part op e t p q = (rw (p, names_refl t.asset) refl, rw q refl)

pub give_fits : (b : Book) (op : LedgerOp) (s : SessionId) (t : Terms) (amount : Name → Name → ℕ) (sum : Name → ℕ) → Agrees b amount sum → is_giving op (entry_of b.entries s) ≡ true → t ≡ terms_of b.entries s t
    → sum t.asset + t.amount.number ≤ greatest_amount
give_fits b op s t amount sum h giving holds =
    let l = giving_leads op (entry_of b.entries s) giving in
    let sums = subst (λ (x : Terms). sum_entries (pledged t.asset) (moved b op s t).entries + pledged t.asset (record { entry = entry_of b.entries s; terms = x }) ≡ sum_entries (pledged t.asset) b.entries + pledged t.asset (record { entry = result_of op; terms = x })) (sym holds)
    (sum_moved is_pledged (λ x. equal_names t.asset x.asset) refl b.entries op s t) in
    let parts = pledged_part op (entry_of b.entries s) t l.2 l.3 in
    bound _ _ _ _ _ sums parts.0 parts.1 (sum_most b amount sum t.asset h)
  where
    bound : (sum p' p x y : ℕ) {n most : ℕ} → p' + x ≡ p + y → x ≡ n → y ≡ 0 → sum + p ≤ most → sum + n ≤ most
    bound sum p' p x y s i j k = omega arith

pub not_giving : (op : LedgerOp) (e : Entry) → is_giving op e ≡ true → Absent ≡ e → ⊥
not_giving op e g a = (giving_leads op e g).4 (sym a)

pub receiver_asset : (op : LedgerOp) (t : Terms) → (receiver op t).asset ≡ t.asset
receiver_asset Assign t = refl
receiver_asset _ t = refl

-- an operation that may not be asked of every entry has no line where it neither stays nor gives
pub no_line : (op : LedgerOp) (e : Entry) → is_always_answered op ≡ false → is_still op e ≡ false → is_giving op e ≡ false → leads op e ≡ false
no_line Burn Locked a p q = absurd (never (sym p))
no_line Assign Minted a p q = absurd (never (sym q))
no_line Release Absent a p q = absurd (never (sym p))
no_line Release Locked a p q = absurd (never (sym q))
no_line Release Minted a p q = absurd (never (sym p))
no_line Lock e a p q = absurd (never (sym a))
no_line Mint e a p q = absurd (never (sym a))
no_line op e a p q = refl

pub no_mint : (op : LedgerOp) → is_always_answered op ≡ false → is_mint op ≡ true → ⊥
no_mint Mint a m = never (sym a)
no_mint op a m = never m

pub entry_found : (es : List (SessionId × LedgerEntry)) (s : SessionId) (k : LedgerEntry) → value_at es s ≡ Some k → k.entry ≡ entry_of (from_entries {R = session_cmp} es) s
entry_found es s k e = ap (λ o. option_map_or (λ (x : LedgerEntry). x.entry) o Absent) (sym (get_session es s ∙ e))
