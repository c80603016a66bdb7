-- A keeper after an operation: what it keeps, and what it tells as a ledger.
use Rattle.std.proofs.Common.{◌≡◌, ℕ, ◌↔◌, Bool, true, false, List, [], ◌∷◌, Option, Some, None, Result, Ok, Err, refl, ap, subst, sym, ◌∙◌, inl, inr, ⊎_elim}
use Rattle.std.specs.Prelude.{if◌then◌else◌}
use Rattle.satp_base.specs.Acts.{ActsOn, Asks, MayAdd, MayRefuse, operation_events}
use Rattle.satp_base.specs.declared.area.Area.TheVariants.{Ledger}
use Rattle.satp_base.specs.declared.area.Event.{Event}
use Rattle.satp_base.specs.declared.area.Event.TheVariants.{Acted}
use Rattle.satp_base.specs.declared.ledger.ActFault.{ActFault}
use Rattle.satp_base.specs.declared.ledger.ActFault.TheVariants as act
use Rattle.satp_base.specs.declared.ledger.Answer.{Answer}
use Rattle.satp_base.specs.declared.ledger.Answer.TheVariants.{Done, NoFunds, UnknownAsset, Capped, Taken}
use Rattle.satp_base.specs.declared.ledger.LedgerCall.TheVariants.{Act}
use Rattle.satp_base.specs.declared.ledger.LedgerKind.{LedgerKind}
use Rattle.satp_base.specs.declared.ledger.LedgerOp.{LedgerOp}
use Rattle.satp_base.specs.declared.message.Terms.{Terms}
use Rattle.satp_base.specs.declared.session.SessionId.{SessionId}
use Rattle.satp_base.specs.Calls.{Told}
use Rattle.satp_base.specs.LedgerRule.{LedgerRule, operation}
use Rattle.satp_base.specs.Money.{Book}
use Rattle.satp_base.proofs.RuleLemmas.{order-may, rule-gives}
use Rattle.satp_journal.specs.State.{Held}
use Rattle.satp_records.specs.Formats.{payload_of}
use Rattle.satp_records.specs.declared.stored.Stored.TheVariants as stored
use Rattle.satp_keeper.specs.Books.{Leaves}
use Rattle.satp_keeper.specs.Operating.{IsUnchanged, KeepAnswers, Stores, act_fault}
use Rattle.satp_keeper.specs.declared.fault.KeeperFault.{KeeperFault}
use Rattle.satp_keeper.specs.declared.fault.KeeperFault.TheVariants.{OutOfOrder, Empty, Damaged, Record, Disk, Broken, Memory}
use Rattle.satp_keeper.proofs.Changes.{done_where_changed, same_where_not}
use Rattle.satp_keeper.proofs.Reading.{goes_on}

unbroken : (old : Held) → old.broken ≡ true → old.broken ≡ false → ⊥
unbroken old p q = let both = sym p ∙ q in cc

module _ (op : LedgerOp) (session : SessionId) (terms : Terms) (b c : Book) (old new : Held) (told_old told_new : Option Told) where
  abbrev Answers : Result Answer KeeperFault → Type 0
  Answers result = KeepAnswers op session terms b c old new told_old told_new result

  abbrev q : List ℕ
  q = payload_of (stored.Act op session terms)

  -- ---- what it keeps

  stores_area : (changes : Bool) → Stores changes q old new told_old told_new → new.area ≡ old.area
  stores_area true is = ap (λ (h : Held). h.area) is.0
  stores_area false is = ap (λ (h : Held). h.area) is.0

  stores_broken : (changes : Bool) → Stores changes q old new told_old told_new → new.broken ≡ old.broken
  stores_broken true is = ap (λ (h : Held). h.broken) is.0
  stores_broken false is = ap (λ (h : Held). h.broken) is.0

  pub area_on : (result : Result Answer KeeperFault) → Answers result → old.area ≡ Ledger → new.area ≡ Ledger
  area_on (Ok answer) is at = stores_area (operation b op session terms).changes is.2 ∙ at
  area_on (Err (OutOfOrder entry)) is at = ap (λ (h : Held). h.area) is.2.1 ∙ at
  area_on (Err Memory) is at = ap (λ (h : Held). h.area) is.1.1 ∙ at
  area_on (Err Disk) is at = ap (λ (h : Held). h.area) is.2 ∙ at
  area_on (Err Broken) is at = ap (λ (h : Held). h.area) is.1.1 ∙ at
  area_on (Err Empty) is at = absurd is
  area_on (Err (Damaged n)) is at = absurd is
  area_on (Err (Record n)) is at = absurd is

  pub whole_ok : (answer : Answer) → Answers (Ok answer) → new.broken ≡ false
  whole_ok answer is = stores_broken (operation b op session terms).changes is.2 ∙ is.0

  stores_leaves : (kind : LedgerKind) (answer : Answer) (changes : Bool) → changes ≡ (operation b op session terms).changes → LedgerRule b op session terms answer c → Stores changes q old new told_old told_new
      → Leaves kind old.payloads b → Leaves kind new.payloads c
  stores_leaves kind answer true e rule is leaves =
      let done : LedgerRule b op session terms Done c = subst (λ (a : Answer). LedgerRule b op session terms a c) (done_where_changed b c op session terms answer rule (sym e)) rule in
      subst (λ (l : List (List ℕ)). Leaves kind l c) (sym (ap (λ (h : Held). h.payloads) is.0)) (goes_on kind old.payloads b c op session terms leaves done)
  stores_leaves kind answer false e rule is leaves =
      subst (λ (l : List (List ℕ)). Leaves kind l c) (sym (ap (λ (h : Held). h.payloads) is.0)) (subst (Leaves kind old.payloads) (sym (same_where_not b c op session terms answer rule (sym e))) leaves)

  same_leaves : (kind : LedgerKind) → IsUnchanged b c old new told_old told_new → Leaves kind old.payloads b → Leaves kind new.payloads c
  same_leaves kind is leaves = subst (λ (x : Book). Leaves kind new.payloads x) (sym is.0) (subst (λ (h : Held). Leaves kind h.payloads b) (sym is.1) leaves)

  pub leaves_on : (result : Result Answer KeeperFault) → Answers result → (kind : LedgerKind) → Leaves kind old.payloads b → new.broken ≡ false → Leaves kind new.payloads c
  leaves_on (Ok answer) is kind leaves whole = stores_leaves kind answer (operation b op session terms).changes refl is.1 is.2 leaves
  leaves_on (Err (OutOfOrder entry)) is kind leaves whole = same_leaves kind is.2 leaves
  leaves_on (Err Memory) is kind leaves whole = same_leaves kind is.1 leaves
  leaves_on (Err Disk) is kind leaves whole = absurd (let e = sym (ap (λ (h : Held). h.broken) is.2) ∙ whole in cc)
  leaves_on (Err Broken) is kind leaves whole = same_leaves kind is.1 leaves
  leaves_on (Err Empty) is kind leaves whole = absurd is
  leaves_on (Err (Damaged n)) is kind leaves whole = absurd is
  leaves_on (Err (Record n)) is kind leaves whole = absurd is

  -- ---- what it tells

  abbrev pub TellsAct : Result Answer ActFault → Type 0
  TellsAct result = (events : List Event) × MayAdd (Acted op session terms) result events × ActsOn op session terms b result events (Some c) × Asks (Act op session terms) events result None None

  may_add : (answer : Answer) → LedgerRule b op session terms answer c → MayAdd (Acted op session terms) (Ok answer) (operation_events (operation b op session terms) op session terms)
  may_add answer rule = at answer (operation b op session terms).changes refl (done_where_changed b c op session terms answer rule)
    where
      at : (a : Answer) (changes : Bool) → changes ≡ (operation b op session terms).changes → ((operation b op session terms).changes ≡ true → a ≡ Done)
          → MayAdd (Acted op session terms) (Ok a) (if changes then Acted op session terms ∷ [] else [])
      at Done true e d = inl refl
      at Done false e d = inr refl
      at (NoFunds n) true e d = absurd (let bad = d (sym e) in cc)
      at (NoFunds n) false e d = refl
      at UnknownAsset true e d = absurd (let bad = d (sym e) in cc)
      at UnknownAsset false e d = refl
      at (Capped n) true e d = absurd (let bad = d (sym e) in cc)
      at (Capped n) false e d = refl
      at (Taken n) true e d = absurd (let bad = d (sym e) in cc)
      at (Taken n) false e d = refl

  pub tells_ok : (answer : Answer) → Answers (Ok answer) → TellsAct (Ok answer)
  tells_ok answer is =
      let gives = rule-gives b op session terms answer c is.1 in (operation_events (operation b op session terms) op session terms, may_add answer is.1, (gives.0, ap Some gives.1, refl), refl)

  -- it failed, and had no effect
  failed_by : c ≡ b → TellsAct (Err act.Failed)
  failed_by same = ([], inr refl, inl (refl, ap Some same), inl refl)

  failed_after : (operation b op session terms).changes ≡ true → c ≡ (operation b op session terms).after → TellsAct (Err act.Failed)
  failed_after changes is = (
    operation_events (operation b op session terms) op session terms,
    inl (ap (λ (v : Bool). if v then Acted op session terms ∷ [] else []) changes),
    inr (refl, ap Some is),
    inl refl,
  )

  pub tells_fault : (fault : KeeperFault) → Answers (Err fault) → TellsAct (Err (act_fault fault))
  tells_fault (OutOfOrder entry) is = ([], refl, (is.1, ap Some is.2.0, refl), inl refl)
  tells_fault Memory is = failed_by is.1.0
  tells_fault Disk is = ⊎_elim failed_by (failed_after is.1) is.4
  tells_fault Broken is = failed_by is.1.0
  tells_fault Empty is = absurd is
  tells_fault (Damaged at) is = absurd is
  tells_fault (Record at) is = absurd is

  -- the faults of the keeper are those that an operation may have
  pub fault_may : (fault : KeeperFault) → Answers (Err fault) → MayRefuse op (act_fault fault)
  fault_may (OutOfOrder entry) is = order-may b op session entry is.1
  fault_may Memory is = tt
  fault_may Disk is = tt
  fault_may Broken is = tt
  fault_may Empty is = tt
  fault_may (Damaged at) is = tt
  fault_may (Record at) is = tt
