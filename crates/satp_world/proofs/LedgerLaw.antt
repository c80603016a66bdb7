-- Ledgers that answer whatever agrees with an entry.
use Rattle.std.proofs.Common.{◌≡◌, ℕ, zero, suc, ◌+◌, ◌≤◌, Bool, true, false, [], ◌∷◌, Some, refl, sym, ap, ◌∙◌, subst, arith, inl}
use Rattle.std.specs.Prelude.{option_map, unwrap_or, if◌then◌else◌, None}
use Rattle.satp_base.specs.Founding.{Founding, cap_among, counted, equal_names, held_among}
use Rattle.satp_base.specs.Genesis.{IsGenesis}
use Rattle.satp_base.specs.LedgerRule.{Allows, LedgerRule, entry_of, leads, moved, result_of}
use Rattle.satp_base.specs.Money.{Book, free_of, given, given_to_all, held, held_of_all, pledged, taken, taken_of_all, total_of}
use Rattle.satp_base.specs.Roles.{either}
use Rattle.satp_base.specs.declared.amount.Amount.{Amount}
use Rattle.satp_base.specs.declared.genesis.Asset.{Asset}
use Rattle.satp_base.specs.declared.ledger.Answer.{Answer}
use Rattle.satp_base.specs.declared.ledger.Entry.{Entry}
use Rattle.satp_base.specs.declared.ledger.Entry.TheVariants.{Absent, Locked, Burnt, Minted, Assigned, Released}
use Rattle.satp_base.specs.declared.ledger.LedgerOp.{LedgerOp}
use Rattle.satp_base.specs.declared.ledger.LedgerOp.TheVariants.{Lock, Burn, Mint, Assign, Release}
use Rattle.satp_base.specs.declared.message.Terms.{Terms}
use Rattle.satp_base.specs.declared.name.Name.{Name}
use Rattle.satp_base.specs.declared.session.SessionId.{SessionId}
use Rattle.satp_world.specs.Examples.{first_book}
use Rattle.satp_world.specs.Ledgers.{AgreedIsAnswered, IsAnswered, IsLedger, IsShown}
use Rattle.satp_world.specs.Ledgers.IsLedger.{Founded, Acted}
use Rattle.satp_sides.specs.Halves.{can_do, entry_is}
use Rattle.satp_world.proofs.DealSteps.{entry-is}
use Rattle.satp_world.proofs.Endings.{alpha, amount, ann, beta, can_lock, can_mint, gold, moves_to, no-entry, no-sum, quarter, with_gold}
use Rattle.satp_world.proofs.RuleMoves.{entry-moved}

abbrev session : SessionId
session = record { gateway = alpha; number = 1; low = omega arith; high = omega arith }

-- an amount of gold, from ann to beta
abbrev of_gold : Amount → Terms
of_gold n = record { amount = n; asset = gold; beneficiary = beta; originator = ann }

-- ---- foundings

-- one holding of gold, within a cap
abbrev holding : Amount → Amount → Founding
holding n cap = record { assets = record { name = gold; cap = cap } ∷ []; holds = record { asset = gold; owner = ann; amount = n } ∷ [] }

-- a cap on gold, and no holding
abbrev capping : Amount → Founding
capping cap = record { assets = record { name = gold; cap = cap } ∷ []; holds = [] }

abbrev nothing : Founding
nothing = record { assets = []; holds = [] }

within-cap : (n cap : Amount) → n.number ≤ cap.number → (asset : Name) → held_among (holding n cap).holds asset ≤ unwrap_or (cap_among (holding n cap).assets asset) 0
within-cap n cap h asset = go (equal_names asset gold) refl
  where
    go : (b : Bool) → equal_names asset gold ≡ b → held_among (holding n cap).holds asset ≤ unwrap_or (cap_among (holding n cap).assets asset) 0
    go false e = let a = ap (λ x. counted x n.number) e in omega (arith, a)
    go true e =
        let a = ap (λ x. counted x n.number) e in
        let c = ap (λ x. unwrap_or (option_map (λ (y : Asset). y.cap.number) (if x then Some (record { name = gold; cap = cap }) else None)) 0) e in
        omega (arith, a, c, h)

holding-genesis : (n cap : Amount) → n.number ≤ cap.number → IsGenesis (holding n cap)
holding-genesis n cap h = record { few_assets = omega arith; few_holds = omega arith; apart = (refl, tt); capped = within-cap n cap h }

capping-genesis : (cap : Amount) → IsGenesis (capping cap)
capping-genesis cap = record { few_assets = omega arith; few_holds = omega arith; apart = (refl, tt); capped = λ asset. omega arith }

nothing-genesis : IsGenesis nothing
nothing-genesis = record { few_assets = omega arith; few_holds = omega arith; apart = tt; capped = λ asset. omega arith }

free-held : (n cap : Amount) → n.number ≡ free_of (first_book (holding n cap)) gold ann
free-held n cap =
    let a = no-sum (given gold ann) in
    let b = no-sum (taken gold ann) in
    let c : held (holding n cap) gold ann ≡ 0 + n.number = refl in
    omega (arith, a, b, c)

total-held : (n cap : Amount) → n.number ≡ total_of (first_book (holding n cap)) gold
total-held n cap =
    let a = no-sum (given_to_all gold) in
    let b = no-sum (taken_of_all gold) in
    let c = no-sum (pledged gold) in
    let d : held_of_all (holding n cap) gold ≡ 0 + n.number = refl in
    omega (arith, a, b, c, d)

none-free : (cap : Amount) → 0 ≡ free_of (first_book (capping cap)) gold ann
none-free cap =
    let a = no-sum (given gold ann) in
    let b = no-sum (taken gold ann) in
    let c : held (capping cap) gold ann ≡ 0 = refl in
    omega (arith, a, b, c)

none-there : (cap : Amount) → 0 ≡ total_of (first_book (capping cap)) gold
none-there cap =
    let a = no-sum (given_to_all gold) in
    let b = no-sum (taken_of_all gold) in
    let c = no-sum (pledged gold) in
    let d : held_of_all (capping cap) gold ≡ 0 = refl in
    omega (arith, a, b, c, d)

-- ---- a ledger for each entry

abbrev fresh : Book
fresh = first_book with_gold

abbrev after : Book → LedgerOp → Book
after b op = moved b op session quarter

abbrev book_at : Entry → Book
book_at Absent = fresh
book_at Locked = after fresh Lock
book_at Burnt = after (after fresh Lock) Burn
book_at Minted = after fresh Mint
book_at Assigned = after (after fresh Mint) Assign
book_at Released = after fresh Release

entry-at : (e : Entry) → entry_of (book_at e).entries session ≡ e
entry-at Absent = no-entry with_gold session
entry-at Locked = entry-moved fresh Lock session quarter
entry-at Burnt = entry-moved (after fresh Lock) Burn session quarter
entry-at Minted = entry-moved fresh Mint session quarter
entry-at Assigned = entry-moved (after fresh Mint) Assign session quarter
entry-at Released = entry-moved fresh Release session quarter

allowed : (op : LedgerOp) (e : Entry) → leads op e ≡ true → Allows (book_at e) op quarter
allowed Lock Absent l = can_lock
allowed Mint Absent l = (1000, refl, can_mint)
allowed Burn e l = tt
allowed Assign e l = tt
allowed Release e l = tt
allowed _ _ l = absurd (cc l)

moves-at : (op : LedgerOp) (e : Entry) → leads op e ≡ true → LedgerRule (book_at e) op session quarter Answer.Done (after (book_at e) op)
moves-at op e l = moves_to (book_at e) op session quarter e (entry-at e) l (allowed op e l)

more : (op : LedgerOp) (e : Entry) → leads op e ≡ true → IsLedger (book_at e) → IsLedger (after (book_at e) op)
more op e l k = Acted (book_at e) op session quarter Answer.Done (after (book_at e) op) k (moves-at op e l)

ledger-fresh : IsLedger fresh
ledger-fresh = Founded with_gold (holding-genesis (amount 500 (omega arith) (omega arith)) (amount 1000 (omega arith) (omega arith)) (omega arith))

ledger-locked : IsLedger (after fresh Lock)
ledger-locked = more Lock Absent refl ledger-fresh

ledger-minted : IsLedger (after fresh Mint)
ledger-minted = more Mint Absent refl ledger-fresh

ledger-at : (e : Entry) → IsLedger (book_at e)
ledger-at Absent = ledger-fresh
ledger-at Locked = ledger-locked
ledger-at Burnt = more Burn Locked refl ledger-locked
ledger-at Minted = ledger-minted
ledger-at Assigned = more Assign Minted refl ledger-minted
ledger-at Released = more Release Absent refl ledger-fresh

-- ---- the answers

done : (op : LedgerOp) (e : Entry) → can_do op e ≡ true → IsAnswered op e Answer.Done (result_of op)
done op e h = go (leads op e) refl
  where
    go : (b : Bool) → leads op e ≡ b → IsAnswered op e Answer.Done (result_of op)
    go true l = record {
      book = book_at e;
      ledger = ledger-at e;
      session = session;
      terms = quarter;
      new = after (book_at e) op;
      rule = moves-at op e l;
      found = entry-at e;
      left = entry-moved (book_at e) op session quarter;
    }
    go false l =
        let same = entry-is e (result_of op) (sym (ap (λ b. either b (entry_is e (result_of op))) l) ∙ h) in
        record {
          book = book_at e;
          ledger = ledger-at e;
          session = session;
          terms = quarter;
          new = book_at e;
          rule = inl (entry-at e ∙ same, refl);
          found = entry-at e;
          left = entry-at e ∙ same;
        }

-- nothing changes
refused : (op : LedgerOp) (e : Entry) (answer : Answer) (b : Book) (terms : Terms) → IsLedger b → entry_of b.entries session ≡ e → LedgerRule b op session terms answer b → IsAnswered op e answer e
refused op e answer b terms k found rule = record { book = b; ledger = k; session = session; terms = terms; new = b; rule = rule; found = found; left = found }

lacks : (free : ℕ) → IsShown (Answer.NoFunds free) → IsAnswered Lock Absent (Answer.NoFunds free) Absent
lacks zero h =
    let cap = amount 1 (omega arith) (omega arith) in
    refused Lock Absent (Answer.NoFunds 0) (first_book (capping cap)) (of_gold cap) (Founded (capping cap) (capping-genesis cap)) (no-entry (capping cap) session)
    (no-entry (capping cap) session, none-free cap, omega arith, refl)
lacks (suc k) h =
    let n = amount (suc k) (omega arith) (omega (arith, h)) in
    refused Lock Absent (Answer.NoFunds (suc k)) (first_book (holding n n)) (of_gold (amount (suc k + 1) (omega arith) (omega (arith, h)))) (Founded (holding n n) (holding-genesis n n (omega arith))) (no-entry (holding n n) session)
    (no-entry (holding n n) session, free-held n n, omega arith, refl)

passes : (total : ℕ) → IsShown (Answer.Capped total) → IsAnswered Mint Absent (Answer.Capped total) Absent
passes zero h =
    let cap = amount 1 (omega arith) (omega arith) in
    refused Mint Absent (Answer.Capped 0) (first_book (capping cap)) (of_gold (amount 2 (omega arith) (omega arith))) (Founded (capping cap) (capping-genesis cap)) (no-entry (capping cap) session)
    (no-entry (capping cap) session, none-there cap, (1, refl, omega arith), refl)
passes (suc k) h =
    let n = amount (suc k) (omega arith) (omega (arith, h)) in
    refused Mint Absent (Answer.Capped (suc k)) (first_book (holding n n)) (of_gold (amount 1 (omega arith) (omega arith))) (Founded (holding n n) (holding-genesis n n (omega arith))) (no-entry (holding n n) session)
    (no-entry (holding n n) session, total-held n n, (suc k, refl, omega arith), refl)

unknown : IsAnswered Mint Absent Answer.UnknownAsset Absent
unknown = refused Mint Absent Answer.UnknownAsset (first_book nothing) quarter (Founded nothing nothing-genesis) (no-entry nothing session) (no-entry nothing session, refl, refl)

-- both entries are this one
unmoved : (op : LedgerOp) (e : Entry) (answer : Answer) (before new : Entry) → before ≡ e → new ≡ before → IsAnswered op e answer e → IsAnswered op before answer new
unmoved op e answer before new p q x = subst (λ y. IsAnswered op before answer y) (sym q) (subst (λ y. IsAnswered op y answer y) (sym p) x)

pub agreed-answered : AgreedIsAnswered
agreed-answered op e Answer.Done new h r = subst (IsAnswered op e Answer.Done) (sym h.1) (done op e h.0)
agreed-answered Lock e (Answer.NoFunds free) new h r = unmoved Lock Absent (Answer.NoFunds free) e new h.0 h.1 (lacks free r)
agreed-answered Lock e (Answer.Taken shown) new h r =
    unmoved Lock e (Answer.Taken shown) e new refl h.3
    (refused Lock e (Answer.Taken shown) (book_at e) quarter (ledger-at e) (entry-at e) (λ x. h.0 (sym (entry-at e) ∙ x), λ x. h.1 (sym (entry-at e) ∙ x), h.2 ∙ sym (entry-at e), refl))
agreed-answered Mint e Answer.UnknownAsset new h r = unmoved Mint Absent Answer.UnknownAsset e new h.0 h.1 unknown
agreed-answered Mint e (Answer.Capped total) new h r = unmoved Mint Absent (Answer.Capped total) e new h.0 h.1 (passes total r)
agreed-answered Mint e (Answer.Taken shown) new h r =
    unmoved Mint e (Answer.Taken shown) e new refl h.3
    (refused Mint e (Answer.Taken shown) (book_at e) quarter (ledger-at e) (entry-at e) (λ x. h.0 (sym (entry-at e) ∙ x), λ x. h.1 (sym (entry-at e) ∙ x), h.2 ∙ sym (entry-at e), refl))
agreed-answered _ e _ new h r = absurd h
