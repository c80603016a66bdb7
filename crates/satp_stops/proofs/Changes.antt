-- What the events of one step change, and what they leave.
use Rattle.std.proofs.Common.{◌≡◌, ◌⊎◌, ℕ, zero, suc, ◌+◌, Bool, true, false, if◌then◌else◌, nat_le, Option, Some, None, List, [], ◌∷◌, ◌++◌, take, refl, ap, ◌∙◌, subst, inl, inr, ⊎_elim}
use Rattle.std.proofs.lemmas.List.Sums.{fold-append}
use Rattle.std.specs.List.{fold}
use Rattle.satp_base.specs.declared.area.Area.{Area}
use Rattle.satp_base.specs.declared.ledger.LedgerOp.{LedgerOp}
use Rattle.satp_base.specs.declared.area.Event.{Event}
use Rattle.satp_base.specs.declared.area.Event.TheVariants.{Left, Acted}
use Rattle.satp_base.specs.Trail.{Trail, Standing, Leaves, next, standing, extended, IsImage, KeepsModel}
use Rattle.satp_base.specs.declared.ledger.Entry.{Entry}
use Rattle.satp_base.specs.declared.ledger.Entry.TheVariants.{Absent}
use Rattle.satp_base.specs.declared.ledger.LedgerOp.TheVariants.{Lock, Burn, Mint, Assign, Release}
use Rattle.satp_base.specs.declared.ledger.Answer.TheVariants.{NoFunds, Capped}
use Rattle.satp_base.specs.declared.message.Terms.{Terms}
use Rattle.satp_base.specs.declared.session.SessionId.{SessionId}
use Rattle.satp_base.specs.Acts.{operation_events}
use Rattle.satp_base.specs.LedgerAt.{entries_after, ledger_at}
use Rattle.satp_base.specs.LedgerRule.{Operation, operation, operation_on, mint_on, moves, stays, entry_of}
use Rattle.satp_base.specs.Ledgers.{Entries}
use Rattle.satp_base.specs.Money.{Book, cap_of, free_of, total_of}
use Rattle.satp_base.specs.Segments.{IsCut, append_events}
use Rattle.satp_base.proofs.Opens.{from_here, keeps_from}
use Rattle.satp_base.proofs.Standings.{cut_leaves, take_nil}

-- ---- entries

-- What the event of an operation makes of the entries is what the operation leaves.
abbrev LeavesBook : LedgerOp → SessionId → Terms → Book → Operation → Type 0
LeavesBook op session terms b o = fold entries_after b.entries (operation_events o op session terms) ≡ o.after.entries

choose : (op : LedgerOp) (session : SessionId) (terms : Terms) (b : Book) (c : Bool) (x y : Operation) → LeavesBook op session terms b x → LeavesBook op session terms b y → LeavesBook op session terms b (if c then x else y)
choose op session terms b c x y px py = elim c as (λ v. LeavesBook op session terms b (if v then x else y)) [ true ↦ px | false ↦ py ]

mint_leaves : (b : Book) (session : SessionId) (terms : Terms) (total : ℕ) (cap : Option ℕ) → LeavesBook Mint session terms b (mint_on b session terms total cap)
mint_leaves b session terms total None = refl
mint_leaves b session terms total (Some cap) = choose Mint session terms b (nat_le (total + terms.amount.number) cap) (moves b Mint session terms) (stays b (Some (Capped total))) refl refl

leaves_at : (b : Book) (op : LedgerOp) (session : SessionId) (terms : Terms) (entry : Entry) → LeavesBook op session terms b (operation_on b op session terms entry)
leaves_at b Lock session terms Absent = choose Lock session terms b (nat_le terms.amount.number (free_of b terms.asset terms.originator)) (moves b Lock session terms) (stays b (Some (NoFunds (free_of b terms.asset terms.originator)))) refl refl
leaves_at b Mint session terms Absent = mint_leaves b session terms (total_of b terms.asset) (cap_of b.genesis terms.asset)
leaves_at b Lock session terms _ = refl
leaves_at b Mint session terms _ = refl
leaves_at b Burn session terms Absent = refl
leaves_at b Burn session terms _ = refl
leaves_at b Assign session terms Absent = refl
leaves_at b Assign session terms _ = refl
leaves_at b Release session terms Absent = refl
leaves_at b Release session terms _ = refl

pub operation_leaves : (b : Book) (op : LedgerOp) (session : SessionId) (terms : Terms) → LeavesBook op session terms b (operation b op session terms)
unfolding operation
operation_leaves b op session terms = leaves_at b op session terms (entry_of b.entries session)

pub ledger_more : (t : Trail) (es : List Event) → ledger_at t.entries (t.events ++ es) ≡ fold entries_after (ledger_at t.entries t.events) es
ledger_more t es = fold-append entries_after t.entries t.events es

-- an append leaves the ledger as it is
append_front : (area : Area) (p : ℕ) (q : List ℕ) (entries : Entries) (n : ℕ) → fold entries_after entries (take n (append_events area p q)) ≡ entries
append_front area p q entries zero = refl
append_front area p q entries (suc zero) = refl
append_front area p q entries (suc (suc zero)) = refl
append_front area p q entries (suc (suc (suc zero))) = refl
append_front area p q entries (suc (suc (suc (suc n)))) = ap (fold entries_after entries) (take_nil n)

pub left_nothing : (area : Area) (bytes : List ℕ) (entries : Entries) (fs : List Event) → fold entries_after entries (fs ++ Left area bytes ∷ []) ≡ fold entries_after entries fs
left_nothing area bytes entries fs = fold-append entries_after entries fs (Left area bytes ∷ [])

pub append_ledger : (area : Area) (p : ℕ) (q : List ℕ) (entries : Entries) (es : List Event) → IsCut (append_events area p q) es → fold entries_after entries es ≡ entries
append_ledger area p q entries es (n, inl is) = ap (fold entries_after entries) is ∙ append_front area p q entries n
append_ledger area p q entries es (n, inr (a, bytes, change, is)) = ap (fold entries_after entries) is ∙ left_nothing a bytes entries (take n (append_events area p q)) ∙ append_front area p q entries n

-- a cut of an operation leaves the ledger as it is, or as the operation leaves it
acted_front : (o : Operation) (op : LedgerOp) (session : SessionId) (terms : Terms) (entries : Entries) (n : ℕ)
    → (fold entries_after entries (take n (operation_events o op session terms)) ≡ entries) ⊎ (fold entries_after entries (take n (operation_events o op session terms)) ≡ fold entries_after entries (operation_events o op session terms))
acted_front o op session terms entries n =
    elim o.changes as (λ v. let whole : List Event = if v then Acted op session terms ∷ [] else [] in (fold entries_after entries (take n whole) ≡ entries) ⊎ (fold entries_after entries (take n whole) ≡ fold entries_after entries whole)) [
      | true ↦ one n
      | false ↦ inl (ap (fold entries_after entries) (take_nil n))
    ]
  where
    one : (n : ℕ) → let whole : List Event = Acted op session terms ∷ [] in (fold entries_after entries (take n whole) ≡ entries) ⊎ (fold entries_after entries (take n whole) ≡ fold entries_after entries whole)
    one zero = inl refl
    one (suc n) = inr (ap (λ (l : List Event). fold entries_after entries (Acted op session terms ∷ l)) (take_nil n))

pub acted_ledger : (o : Operation) (op : LedgerOp) (session : SessionId) (terms : Terms) (entries : Entries) (es : List Event) → IsCut (operation_events o op session terms) es
    → (fold entries_after entries es ≡ entries) ⊎ (fold entries_after entries es ≡ fold entries_after entries (operation_events o op session terms))
acted_ledger o op session terms entries es (n, inl is) =
    let e = ap (fold entries_after entries) is in ⊎_elim (λ same. inl (e ∙ same)) (λ done. inr (e ∙ done)) (acted_front o op session terms entries n)
acted_ledger o op session terms entries es (n, inr (area, bytes, change, is)) =
    let e = ap (fold entries_after entries) is ∙ left_nothing area bytes entries (take n (operation_events o op session terms)) in
    ⊎_elim (λ same. inl (e ∙ same)) (λ done. inr (e ∙ done)) (acted_front o op session terms entries n)

-- a cut of no events leaves the ledger
pub none_ledger : (entries : Entries) (es : List Event) → IsCut [] es → fold entries_after entries es ≡ entries
none_ledger entries es (n, inl is) = ap (fold entries_after entries) (is ∙ take_nil n)
none_ledger entries es (n, inr (area, bytes, change, is)) = ap (fold entries_after entries) (is ∙ ap (λ (l : List Event). l ++ Left area bytes ∷ []) (take_nil n))

-- ---- areas

-- The events of an operation, or of a step without events, leave the areas as they are.
pub quiet_none : (n : ℕ) → let none : List Event = [] in (area : Area) (s : Standing) → fold (next area) s (take n none) ≡ s
quiet_none zero area s = refl
quiet_none (suc n) area s = refl

pub quiet_front : (o : Operation) (op : LedgerOp) (session : SessionId) (terms : Terms) (n : ℕ) (area : Area) (s : Standing) → fold (next area) s (take n (operation_events o op session terms)) ≡ s
quiet_front o op session terms n area s = elim o.changes as (λ v. fold (next area) s (take n (if v then Acted op session terms ∷ [] else [])) ≡ s) [ true ↦ one n | false ↦ quiet_none n area s ]
  where
    one : (n : ℕ) → fold (next area) s (take n (Acted op session terms ∷ [])) ≡ s
    one zero = refl
    one (suc n) = quiet_none n area s

-- a cut of events that leave an area adds no image
pub quiet_cut : (t : Trail) (area : Area) (whole es : List Event) → ((n : ℕ) (s : Standing) → fold (next area) s (take n whole) ≡ s) → IsCut whole es → KeepsModel (extended t es) → (c : List ℕ) → IsImage (extended t es) area c → IsImage t area c
quiet_cut t area whole es quiet cut keeps c image =
    subst (λ (s : Standing). Leaves s c) (quiet cut.0 (standing t area)) (cut_leaves area whole (standing t area) es cut (keeps_from t area es keeps) c (from_here t area es c image))
