-- One record more: what the code finds of it.
use Rattle.std.proofs.Common.{◌≡◌, ◌≢◌, ℕ, zero, suc, ◌+◌, ◌<◌, ◌≤◌, Bool, true, false, List, [], ◌∷◌, ◌++◌, length, take, Option, Some, None, Result, Ok, Err, refl, ap, subst, sym, ◌∙◌, inl, inr, arith, add-one}
use Rattle.std.specs.Prelude.{slice_get, is_some, option_map}
use Rattle.satp_base.specs.Acts.{founded}
use Rattle.satp_base.specs.Founding.{Founding}
use Rattle.satp_base.specs.Genesis.{AddsAsset, hold_triple}
use Rattle.satp_base.specs.Money.{Book}
use Rattle.satp_base.specs.declared.amount.Amount.{Amount}
use Rattle.satp_base.specs.declared.genesis.Hold.{Hold}
use Rattle.satp_base.specs.declared.ledger.LedgerKind.{LedgerKind}
use Rattle.satp_base.specs.declared.ledger.LedgerOp.{LedgerOp}
use Rattle.satp_base.specs.declared.message.Terms.{Terms}
use Rattle.satp_base.specs.declared.name.Name.{Name}
use Rattle.satp_base.specs.declared.session.SessionId.{SessionId}
use Rattle.satp_base.specs.declared.text.Memory.{Memory}
use Rattle.satp_records.specs.Formats.{payload_of}
use Rattle.satp_records.specs.declared.stored.Stored.{Stored}
use Rattle.satp_records.specs.declared.stored.Stored.TheVariants as stored
use Rattle.satp_keeper.specs.Books.{IsFirstRefused, IsJournal, IsLedger, Leaves}
use Rattle.satp_keeper.specs.Opening.{IsRecordFault, IsReplayFault, StepAnswers}
use Rattle.satp_keeper.specs.Replaying.{DoneAnswers, FollowAnswers, RecordFollows, IsRecordAt, NoRecordAt, ReadsTo, ReplayState, replay_state}
use Rattle.satp_keeper.specs.declared.fault.KeeperFault.{KeeperFault}
use Rattle.satp_keeper.specs.declared.fault.KeeperFault.TheVariants.{OutOfOrder, Empty, Damaged, Record, Disk, Broken}
use Rattle.satp_keeper.specs.declared.fault.KeeperFault.TheVariants as fault
use Rattle.std.proofs.lemmas.List.{take_all}
use Rattle.satp_keeper.proofs.Reading.{not_decoded, not_following, read_on}

-- ---- an asset

none_held : (holds : List Hold) → is_some (option_map hold_triple (slice_get holds 0)) ≡ false → holds ≡ []
none_held [] e = refl
none_held (h ∷ holds) e = absurd cc

pub asset_follows : {C : Type 0} (book : C → Book) (genesis new : Founding) (core : Option C) (name : Name) (units : ℕ) (cap : Amount) (held : Option (Name × Name × Amount)) → cap.number ≡ units → is_some core ≡ false → held ≡ option_map hold_triple (slice_get genesis.holds 0) → is_some held ≡ false
    → AddsAsset genesis (record { name = name; cap = cap }) new → RecordFollows (replay_state book genesis core) (stored.Asset name units) (replay_state book new core)
asset_follows book genesis new None name units cap held is some h none adds = (cap, is, refl, none_held genesis.holds (ap is_some (sym h) ∙ none), adds, refl, refl)
asset_follows book genesis new (Some core) name units cap held is some h none adds = absurd cc

-- ---- an operation

pub acts_alike : (f e g : ReplayState) (op : LedgerOp) (session : SessionId) (terms : Terms) (result : Result Bool Memory) → f.genesis ≡ e.genesis → f.book ≡ e.book
    → FollowAnswers f (stored.Act op session terms) g result → FollowAnswers e (stored.Act op session terms) g result
acts_alike f e g op session terms (Ok true) p q (rule, same, begun) = ((subst (λ (b : Book). RecordFollows (record f { book = b }) (stored.Act op session terms) g) q (rule, same, begun)).0, same ∙ p, begun)
acts_alike f e g op session terms (Ok false) p q never = λ h follows. never h (subst (λ (b : Book). RecordFollows (record f { book = b }) (stored.Act op session terms) h) (sym q) (follows.0, follows.1 ∙ sym p, follows.2))
acts_alike f e g op session terms (Err memory) p q a = tt

pub done_follows : {C : Type 0} (book : C → Book) (genesis : Founding) (core new : C) (op : LedgerOp) (session : SessionId) (terms : Terms) (done : Bool) → DoneAnswers op session terms (book core) (book new) (Ok done)
    → FollowAnswers (record { genesis = genesis; begun = true; book = book core }) (stored.Act op session terms) (replay_state book genesis (Some new)) (Ok done)
done_follows book genesis core new op session terms true rule = (rule, refl, refl)
done_follows book genesis core new op session terms false never = λ h follows. never h.book follows.0

-- ---- a payload more

module _ {X : Type 0} where
  get_take : (xs : List X) (i : ℕ) (x : X) → slice_get xs i ≡ Some x → take (suc i) xs ≡ take i xs ++ x ∷ []
  get_take [] i x e = absurd cc
  get_take (y ∷ xs) zero x e = ap (λ l. l ∷ []) (let h = e in cc)
  get_take (y ∷ xs) (suc i) x e = ap (λ l. y ∷ l) (get_take xs i x e)

  pub next_is : (xs : List X) (i : ℕ) (x : X) → slice_get xs i ≡ Some x → take (i + 1) xs ≡ take i xs ++ x ∷ []
  next_is xs i x e = ap (λ k. take k xs) (add-one i) ∙ get_take xs i x e

  pub some_at : (xs : List X) (i : ℕ) → i < length xs → (x : X) × (slice_get xs i ≡ Some x)
  some_at [] i h = absurd (omega (arith, h))
  some_at (x ∷ xs) zero h = (x, refl)
  some_at (x ∷ xs) (suc i) h = some_at xs i (omega (arith, h))

some_records : (kind : LedgerKind) (payloads : List (List ℕ)) (f : ReplayState) → ReadsTo kind payloads f → payloads ≢ []
some_records kind payloads f reads e = let list = sym e ∙ reads.ledger.list in cc

pub step_on : (payloads : List (List ℕ)) (index : ℕ) (f : ReplayState) (s : Stored) (g : ReplayState) → IsRecordAt payloads index s → RecordFollows f s g → (kind : LedgerKind) → ReadsTo kind (take index payloads) f → ReadsTo kind (take (index + 1) payloads) g
step_on payloads index f s g is follows kind reads = subst (λ l. ReadsTo kind l g) (sym (next_is payloads index (payload_of s) is.there)) (read_on kind (take index payloads) f s g reads follows)

pub step_refused : (payloads : List (List ℕ)) (index : ℕ) (f : ReplayState) (s : Stored) → IsRecordAt payloads index s → ((g : ReplayState) → RecordFollows f s g → ⊥) → (kind : LedgerKind) → ReadsTo kind (take index payloads) f → IsJournal kind (take (index + 1) payloads) → ⊥
step_refused payloads index f s is never kind reads journal =
    not_following kind (take index payloads) f s (some_records kind (take index payloads) f reads) reads is.formed never (subst (IsJournal kind) (next_is payloads index (payload_of s) is.there) journal)

no_journal : (payloads : List (List ℕ)) (index : ℕ) → index < length payloads → NoRecordAt payloads index → (kind : LedgerKind) → IsJournal kind (take (index + 1) payloads) → ⊥
no_journal payloads index within none kind journal =
    let p = some_at payloads index within in
    not_decoded kind (take index payloads) p.0 (λ s formed is. none s formed (p.1 ∙ ap Some is)) (subst (IsJournal kind) (next_is payloads index p.0 p.1) journal)

pub step_fault : (payloads : List (List ℕ)) (index : ℕ) (f g : ReplayState) (fault : KeeperFault) → index < length payloads → IsRecordFault payloads index fault → StepAnswers payloads index f g (Err fault)
step_fault payloads index f g (Record at) within is = (is.0, λ kind reads journal. no_journal payloads index within is.1 kind journal)
step_fault payloads index f g fault.Memory within is = tt
step_fault payloads index f g (OutOfOrder entry) within is = absurd is
step_fault payloads index f g Empty within is = absurd is
step_fault payloads index f g (Damaged at) within is = absurd is
step_fault payloads index f g Disk within is = absurd is
step_fault payloads index f g Broken within is = absurd is

-- ---- the first record

pub first_fault : (kind : LedgerKind) (payloads : List (List ℕ)) (fault : KeeperFault) → 0 < length payloads → IsRecordFault payloads 0 fault → IsReplayFault kind payloads fault
first_fault kind payloads (Record at) some is = subst (IsFirstRefused kind payloads) (sym is.0) (record { within = some; before = inl refl; refused = λ journal. no_journal payloads 0 some is.1 kind journal })
first_fault kind payloads fault.Memory some is = tt
first_fault kind payloads (OutOfOrder entry) some is = absurd is
first_fault kind payloads Empty some is = absurd is
first_fault kind payloads (Damaged at) some is = absurd is
first_fault kind payloads Disk some is = absurd is
first_fault kind payloads Broken some is = absurd is

-- ---- the whole list

pub later_fault : (kind : LedgerKind) (payloads : List (List ℕ)) (index : ℕ) (f g : ReplayState) (fault : KeeperFault) → index < length payloads → ReadsTo kind (take index payloads) f → StepAnswers payloads index f g (Err fault) → IsReplayFault kind payloads fault
later_fault kind payloads index f g (Record at) within reads is = subst (IsFirstRefused kind payloads) (sym is.0) (record { within = within; before = inr (f.book, (f.genesis, reads.acts, reads.ledger)); refused = is.1 kind reads })
later_fault kind payloads index f g fault.Memory within reads is = tt
later_fault kind payloads index f g (OutOfOrder entry) within reads is = absurd is
later_fault kind payloads index f g Empty within reads is = absurd is
later_fault kind payloads index f g (Damaged at) within reads is = absurd is
later_fault kind payloads index f g Disk within reads is = absurd is
later_fault kind payloads index f g Broken within reads is = absurd is

pub whole_list : (kind : LedgerKind) (payloads : List (List ℕ)) (n : ℕ) (f : ReplayState) (book : Book) → length payloads ≤ n → ReadsTo kind (take n payloads) f → book ≡ f.book → Leaves kind payloads book
whole_list kind payloads n f book all reads e = (f.genesis, reads.acts, subst (λ (b : Book). IsLedger kind payloads f.genesis reads.acts b) (sym e) (subst (λ l. IsLedger kind l f.genesis reads.acts f.book) (take_all n payloads all) reads.ledger))

-- a ledger that is begun stands where its genesis has led
pub begins : {C : Type 0} (book : C → Book) (genesis : Founding) (core : Option C) (fresh : C) (g : ReplayState) (op : LedgerOp) (session : SessionId) (terms : Terms) (result : Result Bool Memory) → ◌≡◌ {A = Option C} None core → book fresh ≡ founded genesis
    → FollowAnswers (record { genesis = genesis; begun = true; book = book fresh }) (stored.Act op session terms) g result → FollowAnswers (replay_state book genesis core) (stored.Act op session terms) g result
begins book genesis None fresh g op session terms result none is a = acts_alike (record { genesis = genesis; begun = true; book = book fresh }) (record { genesis = genesis; begun = false; book = founded genesis }) g op session terms result refl is a
begins book genesis (Some core) fresh g op session terms result none is a = absurd cc
