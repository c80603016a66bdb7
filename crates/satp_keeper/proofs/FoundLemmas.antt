-- A founding: the payloads that it appends.
use Rattle.std.proofs.Common.{◌≡◌, ◌≤◌, ℕ, zero, suc, ◌+◌, List, [], ◌∷◌, ◌++◌, length, take, Option, Some, None, Ok, option_map, refl, ap, subst, sym, ◌∙◌, arith, add-one, length-append}
use Rattle.std.specs.Prelude.{IfSome, map, slice_get}
use Rattle.std.specs.List.{AllByRecursion, sum_by}
use Rattle.std.proofs.lemmas.List.{append-nil, length-map}
use Rattle.std.proofs.lemmas.List.Sums.{sum_by-take-le, sum_by_push}
use Rattle.satp_base.specs.Acts.{founded}
use Rattle.satp_base.specs.Calls.{Told}
use Rattle.satp_base.specs.Format.{IsPayload}
use Rattle.satp_base.specs.Founding.{Founding}
use Rattle.satp_base.specs.Genesis.{IsGenesis, asset_pair, hold_triple}
use Rattle.satp_base.specs.Money.{Book}
use Rattle.satp_base.specs.declared.amount.Amount.{Amount}
use Rattle.satp_base.specs.declared.genesis.Asset.{Asset}
use Rattle.satp_base.specs.declared.genesis.Hold.{Hold}
use Rattle.satp_base.specs.declared.ledger.LedgerKind.{LedgerKind}
use Rattle.satp_base.specs.declared.name.Name.{Name}
use Rattle.satp_journal.specs.Appending.{AppendAnswers}
use Rattle.satp_journal.specs.State.{Held}
use Rattle.satp_records.specs.Formats.{IsFormed, payload_of}
use Rattle.satp_records.specs.declared.stored.Stored.{Stored}
use Rattle.satp_records.specs.declared.stored.Stored.TheVariants as stored
use Rattle.satp_records.proofs.Payloads.{payloads_fit}
use Rattle.satp_keeper.specs.Books.{Leaves, asset_record, hold_record, ledger_payloads, ledger_records}
use Rattle.satp_keeper.specs.Founding.{asset_payloads, hold_payloads}
use Rattle.satp_keeper.proofs.BookLemmas.{more_assets, more_holds}
use Rattle.satp_keeper.proofs.Steps.{next_is}

-- ---- the list

module _ {X : Type 0} where
  none_suc : (xs : List X) (i : ℕ) → slice_get xs i ≡ None → take (suc i) xs ≡ take i xs
  none_suc [] zero e = refl
  none_suc [] (suc i) e = refl
  none_suc (x ∷ xs) zero e = absurd cc
  none_suc (x ∷ xs) (suc i) e = ap (λ l. x ∷ l) (none_suc xs i e)

  none_next : (xs : List X) (i : ℕ) → slice_get xs i ≡ None → take (i + 1) xs ≡ take i xs
  none_next xs i e = ap (λ k. take k xs) (add-one i) ∙ none_suc xs i e

abbrev pub assets_at : LedgerKind → List Asset → List (List ℕ)
assets_at kind assets = ledger_payloads kind (record { assets = assets; holds = [] }) []

abbrev pub holds_at : LedgerKind → List Asset → List Hold → List (List ℕ)
holds_at kind assets holds = ledger_payloads kind (record { assets = assets; holds = holds }) []

pub asset_more : (kind : LedgerKind) (assets : List Asset) (i : ℕ) (texts new : List (List ℕ)) (o : Option (Name × Amount)) → texts ≡ assets_at kind (take i assets) → o ≡ option_map asset_pair (slice_get assets i) → new ≡ texts ++ asset_payloads o
    → new ≡ assets_at kind (take (i + 1) assets)
asset_more kind assets i texts new o is there more = more ∙ ap (λ l. texts ++ asset_payloads l) there ∙ at (slice_get assets i) refl
  where
    at : (x : Option Asset) → slice_get assets i ≡ x → texts ++ asset_payloads (option_map asset_pair x) ≡ assets_at kind (take (i + 1) assets)
    at None e = append-nil texts ∙ is ∙ ap (assets_at kind) (sym (none_next assets i e))
    at (Some a) e = ap (λ l. l ++ payload_of (asset_record a) ∷ []) is ∙ sym (more_assets kind (take i assets) a) ∙ ap (assets_at kind) (sym (next_is assets i a e))

pub hold_more : (kind : LedgerKind) (assets : List Asset) (holds : List Hold) (i : ℕ) (texts new : List (List ℕ)) (o : Option (Name × Name × Amount)) → texts ≡ holds_at kind assets (take i holds) → o ≡ option_map hold_triple (slice_get holds i) → new ≡ texts ++ hold_payloads o
    → new ≡ holds_at kind assets (take (i + 1) holds)
hold_more kind assets holds i texts new o is there more = more ∙ ap (λ l. texts ++ hold_payloads l) there ∙ at (slice_get holds i) refl
  where
    at : (x : Option Hold) → slice_get holds i ≡ x → texts ++ hold_payloads (option_map hold_triple x) ≡ holds_at kind assets (take (i + 1) holds)
    at None e = append-nil texts ∙ is ∙ ap (holds_at kind assets) (sym (none_next holds i e))
    at (Some h) e = ap (λ l. l ++ payload_of (hold_record h) ∷ []) is ∙ sym (more_holds kind assets (take i holds) h) ∙ ap (holds_at kind assets) (sym (next_is holds i h e))

all_map : {X : Type 0} (f : X → Stored) → ((x : X) → IsFormed (f x)) → (xs : List X) (ys : List Stored) → AllByRecursion IsPayload (map payload_of ys) → AllByRecursion IsPayload (map payload_of (map f xs ++ ys))
all_map f formed [] ys all = all
all_map f formed (x ∷ xs) ys all = (payloads_fit (f x) (formed x), all_map f formed xs ys all)

pub all_fit : (kind : LedgerKind) (g : Founding) → AllByRecursion IsPayload (ledger_payloads kind g [])
all_fit kind g = (payloads_fit (stored.Kind kind) tt, all_map asset_record (λ a. (a.cap.low, a.cap.high)) g.assets (map hold_record g.holds ++ []) (all_map hold_record (λ h. tt) g.holds [] tt))

pub few_payloads : (kind : LedgerKind) (g : Founding) → IsGenesis g → length (ledger_payloads kind g []) ≤ 1 + 16 + 256
few_payloads kind g valid =
    let whole = length-map (ledger_records kind g []) payload_of in
    let parts = length-append (map asset_record g.assets) (map hold_record g.holds ++ []) in
    let holds = length-append (map hold_record g.holds) [] in
    omega (arith, whole, parts, holds, length-map g.assets asset_record, length-map g.holds hold_record, valid.few_assets, valid.few_holds)

pub fresh_leaves : (kind : LedgerKind) (genesis : Founding) (payloads texts : List (List ℕ)) (book : Book) (told : Option Told) → IsGenesis genesis → book ≡ founded genesis → IfSome told (λ t. payloads ≡ texts) → texts ≡ ledger_payloads kind genesis [] → IfSome told (λ t. Leaves kind payloads book)
fresh_leaves kind genesis payloads texts book None valid is list whole = tt
fresh_leaves kind genesis payloads texts book (Some t) valid is list whole = (genesis, [], record { valid = valid; runs = is; list = list ∙ whole })

-- ---- one append of a founding

pub payload_at : (whole : List (List ℕ)) (i : ℕ) (q : List ℕ) → AllByRecursion IsPayload whole → slice_get whole i ≡ Some q → IsPayload q
payload_at [] i q all e = absurd cc
payload_at (p ∷ whole) zero q all e = subst IsPayload (let h = e in cc) all.0
payload_at (p ∷ whole) (suc i) q all e = payload_at whole i q all.1 e

pub list_none : (whole payloads : List (List ℕ)) (told : Option Told) → IfSome told (λ t. payloads ≡ []) → IfSome told (λ t. payloads ≡ take 0 whole)
list_none whole payloads None is = tt
list_none whole payloads (Some t) is = is

pub list_on : (whole : List (List ℕ)) (held new : Held) (q : List ℕ) (i : ℕ) (old mid : Option Told) → slice_get whole i ≡ Some q → IfSome old (λ t. held.payloads ≡ take i whole) → AppendAnswers q held new old mid (Ok tt) → IfSome mid (λ t. new.payloads ≡ take (i + 1) whole)
list_on whole held new q i None mid next front is = subst (λ (o : Option Told). IfSome o (λ t. new.payloads ≡ take (i + 1) whole)) (sym is.2) tt
list_on whole held new q i (Some t) mid next front is =
    subst (λ (o : Option Told). IfSome o (λ t. new.payloads ≡ take (i + 1) whole)) (sym is.2) (ap (λ (h : Held). h.payloads) is.1 ∙ ap (λ l. l ++ q ∷ []) front ∙ sym (next_is whole i q next))

-- ---- the room for what is still to be appended

pub taken_more : (whole : List (List ℕ)) (i : ℕ) (q : List ℕ) → slice_get whole i ≡ Some q → sum_by length (take (i + 1) whole) ≡ sum_by length (take i whole) + length q
taken_more whole i q at = ap (sum_by length) (next_is whole i q at) ∙ sum_by_push length (take i whole) q

pub room_left : (whole : List (List ℕ)) (i : ℕ) (q : List ℕ) (spare : ℕ) → slice_get whole i ≡ Some q → sum_by length whole ≤ sum_by length (take i whole) + spare → length q ≤ spare
room_left whole i q spare at room = omega (arith, taken_more whole i q at, sum_by-take-le length whole (i + 1), room)
