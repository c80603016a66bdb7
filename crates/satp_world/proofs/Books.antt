-- The sums of one ledger: no owner has given more than he had, and all owners together have what is free.
use Rattle.std.proofs.Common.{◌≡◌, ℕ, ◌+◌, ◌≤◌, ◌&&◌, Bool, true, false, List, ◌++◌, map, refl, sym, ap, subst, arith, inl, inr}
use Rattle.std.specs.List.{IsDistinct, list_any, sum_by}
use Rattle.std.specs.FinMap.{empty, entries, get}
use Rattle.std.proofs.lemmas.List.Sums.{sum_by-append}
use Rattle.satp_base.specs.Founding.{Founding, counted, equal_names}
use Rattle.satp_base.specs.Keys.{session_cmp}
use Rattle.satp_base.specs.Ledgers.{Entries}
use Rattle.satp_base.specs.LedgerRule.{Allows, LedgerRule, entry_of, leads, moved, result_of, terms_of}
use Rattle.satp_base.specs.Money.{Book, free_of, free_sum_of, given, given_to_all, held, held_of_all, is_given, is_taken, sum_entries, taken, taken_of_all}
use Rattle.satp_base.specs.declared.genesis.Hold.{Hold}
use Rattle.satp_base.specs.declared.ledger.Answer.{Answer}
use Rattle.satp_base.specs.declared.ledger.Entry.{Entry}
use Rattle.satp_base.specs.declared.ledger.Entry.TheVariants.{Absent, Locked, Burnt, Minted, Assigned, Released}
use Rattle.satp_base.specs.declared.ledger.LedgerEntry.{LedgerEntry}
use Rattle.satp_base.specs.declared.ledger.LedgerOp.{LedgerOp}
use Rattle.satp_base.specs.declared.ledger.LedgerOp.TheVariants.{Lock, Burn, Mint, Assign, Release}
use Rattle.satp_base.specs.declared.message.Terms.{Terms}
use Rattle.satp_base.specs.declared.name.Name.{Name}
use Rattle.satp_base.specs.declared.session.SessionId.{SessionId}
use Rattle.satp_base.proofs.GenesisLemmas.{equal_name, names_refl}
use Rattle.satp_base.proofs.SessionLemmas.{exact_sessions, sessions_total}
use Rattle.satp_money.proofs.Counting.{sum_moved, under}
use Rattle.satp_money.proofs.Moves.{given_before}
use Rattle.satp_money.proofs.Maps.{entries_empty}
use Rattle.satp_sides.proofs.Records.{is-session, session-self}
use Rattle.satp_world.proofs.Amounts.{all-within, items, keys-cover, keys-within, left_at, of, of-items, of-map, whole, whole-items, worth}

-- ---- what an owner has given is covered

abbrev pub IsCovered : Book → Type 0
IsCovered b = (asset owner : Name) → sum_entries (taken asset owner) b.entries ≤ held b.genesis asset owner + sum_entries (given asset owner) b.entries

pub covered-first : (f : Founding) → IsCovered (record { genesis = f; entries = empty })
covered-first f asset owner = let none = ap (sum_by (λ (e : SessionId × LedgerEntry). taken asset owner e.1)) (entries_empty session_cmp sessions_total exact_sessions) in omega (arith, none)

abbrev is_lock : LedgerOp → Bool
is_lock Lock = true
is_lock _ = false

-- but for a lock, nothing more is taken
no-more-taken : (op : LedgerOp) (e : Entry) (x : Bool) (n : ℕ) → leads op e ≡ true → is_lock op ≡ false → counted (is_taken (result_of op) && x) n ≤ counted (is_taken e && x) n
no-more-taken Lock e x n l f = absurd (cc f)
no-more-taken Burn Locked x n l f = omega arith
no-more-taken Mint Absent x n l f = omega arith
no-more-taken Assign Minted x n l f = omega arith
no-more-taken Release Absent x n l f = omega arith
no-more-taken Release Locked x n l f = omega arith
no-more-taken Release Minted x n l f = omega arith
no-more-taken op e x n l f = absurd (cc l)

is-lock : (op : LedgerOp) → is_lock op ≡ true → op ≡ Lock
is-lock Lock h = refl
is-lock Burn h = absurd (cc h)
is-lock Mint h = absurd (cc h)
is-lock Assign h = absurd (cc h)
is-lock Release h = absurd (cc h)

lock-from : (e : Entry) → leads Lock e ≡ true → e ≡ Absent
lock-from Absent h = refl
lock-from _ h = absurd (cc h)

absent-terms : (b : Book) (s : SessionId) (t : Terms) → entry_of b.entries s ≡ Absent → terms_of b.entries s t ≡ t
absent-terms b s t e = go (entry_of b.entries s) e _
  where
    go : (x : Entry) → x ≡ Absent → (kept : Terms) → under x kept t ≡ t
    go Absent e kept = refl
    go Locked e kept = absurd (cc e)
    go Burnt e kept = absurd (cc e)
    go Minted e kept = absurd (cc e)
    go Assigned e kept = absurd (cc e)
    go Released e kept = absurd (cc e)

module _ (b : Book) (op : LedgerOp) (s : SessionId) (t : Terms) (a o : Name) where
  abbrev its_terms : Terms
  its_terms = terms_of b.entries s t

  abbrev is_theirs : Bool
  is_theirs = equal_names a its_terms.asset && equal_names o its_terms.originator

  abbrev is_for_them : Bool
  is_for_them = equal_names a its_terms.asset && equal_names o its_terms.beneficiary

  taken-moved : sum_entries (taken a o) (moved b op s t).entries + counted (is_taken (entry_of b.entries s) && is_theirs) its_terms.amount.number ≡ sum_entries (taken a o) b.entries + counted (is_taken (result_of op) && is_theirs) its_terms.amount.number
  taken-moved = sum_moved is_taken (λ x. equal_names a x.asset && equal_names o x.originator) refl b.entries op s t

  given-moved : sum_entries (given a o) (moved b op s t).entries + counted (is_given (entry_of b.entries s) && is_for_them) its_terms.amount.number ≡ sum_entries (given a o) b.entries + counted (is_given (result_of op) && is_for_them) its_terms.amount.number
  given-moved = sum_moved is_given (λ x. equal_names a x.asset && equal_names o x.beneficiary) refl b.entries op s t

  still-covered : (t' g' t0 t1 g0 g1 u g h : ℕ) → t' + t0 ≡ u + t1 → g' + g0 ≡ g + g1 → g0 ≡ 0 → t1 ≤ t0 → u ≤ h + g → t' ≤ h + g'
  still-covered t' g' t0 t1 g0 g1 u g h e f z l c = omega arith

  covered-else : IsCovered b → leads op (entry_of b.entries s) ≡ true → is_lock op ≡ false → sum_entries (taken a o) (moved b op s t).entries ≤ held b.genesis a o + sum_entries (given a o) (moved b op s t).entries
  covered-else c l n =
      still-covered _ _ (counted (is_taken (entry_of b.entries s) && is_theirs) its_terms.amount.number) (counted (is_taken (result_of op) && is_theirs) its_terms.amount.number) (counted (is_given (entry_of b.entries s) && is_for_them) its_terms.amount.number) (counted (is_given (result_of op) && is_for_them) its_terms.amount.number) (sum_entries (taken a o) b.entries) (sum_entries (given a o) b.entries) _
      taken-moved given-moved (given_before op (entry_of b.entries s) is_for_them its_terms.amount.number l) (no-more-taken op (entry_of b.entries s) is_theirs its_terms.amount.number l n) (c a o)

-- the amount that is locked was free
lock-room : (b : Book) (x : Terms) (a o : Name) → IsCovered b → x.amount.number ≤ free_of b x.asset x.originator → counted (equal_names a x.asset && equal_names o x.originator) x.amount.number + sum_entries (taken a o) b.entries ≤ held b.genesis a o + sum_entries (given a o) b.entries
lock-room b x a o c free = go (equal_names a x.asset) (equal_names o x.originator) refl refl
  where
    go : (p q : Bool) → equal_names a x.asset ≡ p → equal_names o x.originator ≡ q → counted (equal_names a x.asset && equal_names o x.originator) x.amount.number + sum_entries (taken a o) b.entries ≤ held b.genesis a o + sum_entries (given a o) b.entries
    go true true e f =
        let one = ap (λ (y : Bool). counted (y && equal_names o x.originator) x.amount.number) e in
        let two = ap (λ (y : Bool). counted y x.amount.number) f in
        let room = subst (λ y. x.amount.number ≤ free_of b y x.originator) (sym (equal_name a x.asset e)) free in
        let there = subst (λ y. x.amount.number ≤ free_of b a y) (sym (equal_name o x.originator f)) room in
        let cover = c a o in
        omega (arith, one, two, there, cover)
    go true false e f =
        let one = ap (λ (y : Bool). counted (y && equal_names o x.originator) x.amount.number) e in
        let two = ap (λ (y : Bool). counted y x.amount.number) f in
        let cover = c a o in
        omega (arith, one, two, cover)
    go false q e f =
        let one = ap (λ (y : Bool). counted (y && equal_names o x.originator) x.amount.number) e in
        let cover = c a o in
        omega (arith, one, cover)

covered-lock : (b : Book) (s : SessionId) (t : Terms) → IsCovered b → leads Lock (entry_of b.entries s) ≡ true → Allows b Lock t → IsCovered (moved b Lock s t)
covered-lock b s t c l allows a o =
    let same = absent-terms b s t (lock-from _ l) in
    let room = lock-room b (terms_of b.entries s t) a o c (subst (λ x. x.amount.number ≤ free_of b x.asset x.originator) (sym same) allows) in
    let x = taken-moved b Lock s t a o in
    let y = given-moved b Lock s t a o in
    let none = given_before Lock (entry_of b.entries s) (is_for_them b Lock s t a o) (terms_of b.entries s t).amount.number l in
    omega (arith, room, x, y, none)

covered-moved : (b : Book) (op : LedgerOp) (s : SessionId) (t : Terms) → IsCovered b → leads op (entry_of b.entries s) ≡ true → Allows b op t → IsCovered (moved b op s t)
covered-moved b op s t c l allows = go (is_lock op) refl
  where
    go : (x : Bool) → is_lock op ≡ x → IsCovered (moved b op s t)
    go false n = λ a o. covered-else b op s t a o c l n
    go true e =
        let same = is-lock op e in
        subst (λ op. IsCovered (moved b op s t)) (sym same) (covered-lock b s t c (subst (λ op. leads op (entry_of b.entries s) ≡ true) same l) (subst (λ op. Allows b op t) same allows))

-- every answer of the ledger keeps its founding and what is covered
pub record Kept (b new : Book) : Type 0 where
  pub genesis : new.genesis ≡ b.genesis
  pub covered : IsCovered new

stays : (b new : Book) → IsCovered b → new ≡ b → Kept b new
stays b new c e = record { genesis = ap (λ (x : Book). x.genesis) e; covered = subst IsCovered (sym e) c }

pub rule-keeps : (b : Book) (op : LedgerOp) (s : SessionId) (t : Terms) (answer : Answer) (new : Book) → IsCovered b → LedgerRule b op s t answer new → Kept b new
rule-keeps b op s t Answer.Done new c (inl h) = stays b new c h.1
rule-keeps b op s t Answer.Done new c (inr h) = record { genesis = ap (λ (x : Book). x.genesis) h.2; covered = subst IsCovered (sym h.2) (covered-moved b op s t c h.0 h.1) }
rule-keeps b Lock s t (Answer.Taken entry) new c h = stays b new c h.3
rule-keeps b Lock s t (Answer.NoFunds free) new c h = stays b new c h.3
rule-keeps b Mint s t (Answer.Taken entry) new c h = stays b new c h.3
rule-keeps b Mint s t Answer.UnknownAsset new c h = stays b new c h.2
rule-keeps b Mint s t (Answer.Capped total) new c h = stays b new c h.3
rule-keeps b _ s t _ new c h = absurd h

-- ---- all owners of a ledger

abbrev Item : Type 0
Item = SessionId × LedgerEntry

abbrev taken_value : Name → Item → ℕ
taken_value asset e = taken_of_all asset e.1

abbrev given_value : Name → Item → ℕ
given_value asset e = given_to_all asset e.1

abbrev held_value : Name → Hold → ℕ
held_value asset h = counted (equal_names asset h.asset) h.amount.number

-- what was taken, under its owners' names
abbrev takings : Book → Name → List (Name × ℕ)
takings b asset = map (λ (e : Item). (e.1.terms.originator, taken_value asset e)) (entries b.entries)

-- what was held and given
abbrev havings : Book → Name → List (Name × ℕ)
havings b asset = map (λ (h : Hold). (h.owner, held_value asset h)) b.genesis.holds ++ map (λ (e : Item). (e.1.terms.beneficiary, given_value asset e)) (entries b.entries)

three : (o t a : Bool) (n : ℕ) → counted o (counted (t && a) n) ≡ counted (t && (a && o)) n
three true true true n = refl
three true true false n = refl
three true false a n = refl
three false true true n = refl
three false true false n = refl
three false false a n = refl

two : (o a : Bool) (n : ℕ) → counted o (counted a n) ≡ counted (a && o) n
two true true n = refl
two true false n = refl
two false true n = refl
two false false n = refl

taken-by : (b : Book) (asset owner : Name) → of equal_names owner (takings b asset) ≡ sum_entries (taken asset owner) b.entries
taken-by b asset owner =
    of-items equal_names (λ (e : Item). e.1.terms.originator) (taken_value asset) owner (λ (e : Item). taken asset owner e.1)
    (λ e. three (equal_names owner e.1.terms.originator) (is_taken e.1.entry) (equal_names asset e.1.terms.asset) e.1.terms.amount.number) (entries b.entries)

had-by : (b : Book) (asset owner : Name) → of equal_names owner (havings b asset) ≡ held b.genesis asset owner + sum_entries (given asset owner) b.entries
had-by b asset owner =
    let parts = sum_by-append (λ (e : Name × ℕ). counted (equal_names owner e.0) e.1) (map (λ (h : Hold). (h.owner, held_value asset h)) b.genesis.holds) (map (λ (e : Item). (e.1.terms.beneficiary, given_value asset e)) (entries b.entries)) in
    let first = of-items equal_names (λ (h : Hold). h.owner) (held_value asset) owner (λ (h : Hold). counted (equal_names asset h.asset && equal_names owner h.owner) h.amount.number)
    (λ h. two (equal_names owner h.owner) (equal_names asset h.asset) h.amount.number) b.genesis.holds in
    let rest = of-items equal_names (λ (e : Item). e.1.terms.beneficiary) (given_value asset) owner (λ (e : Item). given asset owner e.1)
    (λ e. three (equal_names owner e.1.terms.beneficiary) (is_given e.1.entry) (equal_names asset e.1.terms.asset) e.1.terms.amount.number) (entries b.entries) in
    omega (arith, parts, first, rest)

whole-taken : (b : Book) (asset : Name) → whole (takings b asset) ≡ sum_entries (taken_of_all asset) b.entries
whole-taken b asset = whole-items (λ (e : Item). e.1.terms.originator) (taken_value asset) (entries b.entries)

whole-had : (b : Book) (asset : Name) → whole (havings b asset) ≡ held_of_all b.genesis asset + sum_entries (given_to_all asset) b.entries
whole-had b asset =
    let parts = sum_by-append (λ (e : Name × ℕ). e.1) (map (λ (h : Hold). (h.owner, held_value asset h)) b.genesis.holds) (map (λ (e : Item). (e.1.terms.beneficiary, given_value asset e)) (entries b.entries)) in
    let first = whole-items (λ (h : Hold). h.owner) (held_value asset) b.genesis.holds in
    let rest = whole-items (λ (e : Item). e.1.terms.beneficiary) (given_value asset) (entries b.entries) in
    omega (arith, parts, first, rest)

each-within : (b : Book) (asset : Name) → IsCovered b → (owner : Name) → of equal_names owner (takings b asset) ≤ of equal_names owner (havings b asset)
each-within b asset c owner = let x = taken-by b asset owner in let y = had-by b asset owner in let z = c asset owner in omega (arith, x, y, z)

-- all together have not given more than they had
pub all-covered : (b : Book) (asset : Name) → IsCovered b → sum_entries (taken_of_all asset) b.entries ≤ held_of_all b.genesis asset + sum_entries (given_to_all asset) b.entries
all-covered b asset c =
    let h = all-within equal_names equal_name names_refl (takings b asset) (havings b asset) (each-within b asset c) in
    let x = whole-taken b asset in
    let y = whole-had b asset in
    omega (arith, h, x, y)

left-is : (b : Book) (asset owner : Name) → free_of b asset owner ≡ left_at equal_names equal_name names_refl (takings b asset) (havings b asset) owner
left-is b asset owner = let x = taken-by b asset owner in let y = had-by b asset owner in omega (arith, x, y)

lefts-are : (b : Book) (asset : Name) (owners : List Name) → sum_by (free_of b asset) owners ≡ sum_by (left_at equal_names equal_name names_refl (takings b asset) (havings b asset)) owners
lefts-are b asset owners = ap (λ (f : Name → ℕ). sum_by f owners) (λ i owner. left-is b asset owner i)

-- owners who are counted once have no more than what is free
pub owners-within : (b : Book) (asset : Name) (owners : List Name) → IsCovered b → IsDistinct equal_names owners → sum_by (free_of b asset) owners ≤ free_sum_of b asset
owners-within b asset owners c d =
    let h = keys-within equal_names equal_name names_refl owners (takings b asset) (havings b asset) d (each-within b asset c) in
    let s = lefts-are b asset owners in
    let x = whole-taken b asset in
    let y = whole-had b asset in
    omega (arith, h, s, x, y)

-- and no less, where nobody else has anything
pub owners-cover : (b : Book) (asset : Name) (owners : List Name) → IsCovered b → IsDistinct equal_names owners → ((owner : Name) → list_any (equal_names owner) owners ≡ false → free_of b asset owner ≡ 0) → free_sum_of b asset ≤ sum_by (free_of b asset) owners
owners-cover b asset owners c d all =
    let h = keys-cover equal_names equal_name names_refl owners (takings b asset) (havings b asset) d
    (λ owner n. let z = all owner n in let x = taken-by b asset owner in let y = had-by b asset owner in omega (arith, z, x, y)) in
    let s = lefts-are b asset owners in
    let x = whole-taken b asset in
    let y = whole-had b asset in
    omega (arith, h, s, x, y)

-- ---- two ledgers, session by session

-- what every session counts for in one ledger is within what it counts for in the other
pub sums-within : (f g : LedgerEntry → ℕ) (m n : Entries) → ((s : SessionId) → worth f (get m s) ≤ worth g (get n s)) → sum_entries f m ≤ sum_entries g n
sums-within f g m n h =
    let xs = items session_cmp sessions_total exact_sessions f (entries m) in
    let ys = items session_cmp sessions_total exact_sessions g (entries n) in
    let w = all-within _ is-session session-self xs ys (λ s. let x = of-map session_cmp sessions_total exact_sessions f m s in let y = of-map session_cmp sessions_total exact_sessions g n s in let z = h s in omega (arith, x, y, z)) in
    let x = whole-items (λ (e : Item). e.0) (λ (e : Item). f e.1) (entries m) in
    let y = whole-items (λ (e : Item). e.0) (λ (e : Item). g e.1) (entries n) in
    omega (arith, w, x, y)
