-- The entries of a gateway's ledger: of which sessions they are, and under which terms.
use Rattle.std.proofs.Common.{◌≡◌, Bool, true, false, cond, List, Option, Some, None, refl, sym, ap, subst, ◌∙◌, inl, inr}
use Rattle.std.specs.FinMap.{get, get-insert}
use Rattle.satp_base.specs.Money.{Book}
use Rattle.satp_base.specs.LedgerRule.{LedgerRule, moved, result_of, terms_of}
use Rattle.satp_base.specs.declared.ledger.Answer.{Answer}
use Rattle.satp_base.specs.declared.ledger.Entry.{Entry}
use Rattle.satp_base.specs.declared.ledger.Entry.TheVariants.{Absent}
use Rattle.satp_base.specs.declared.ledger.LedgerEntry.{LedgerEntry}
use Rattle.satp_base.specs.declared.ledger.LedgerOp.{LedgerOp}
use Rattle.satp_base.specs.declared.ledger.LedgerOp.TheVariants.{Lock, Mint}
use Rattle.satp_base.specs.declared.message.Terms.{Terms}
use Rattle.satp_base.specs.declared.record.Rec.{Rec}
use Rattle.satp_base.specs.declared.session.SessionId.{SessionId}
use Rattle.satp_base.specs.declared.view.View.{View}
use Rattle.satp_base.specs.Views.{push}
use Rattle.satp_base.proofs.SessionLemmas.{sessions_total}
use Rattle.satp_money.proofs.Counting.{standing_at, under}
use Rattle.satp_sides.specs.Moves.{SideMoves}
use Rattle.satp_sides.specs.Points.{Party, Side, Stored, Text, is_session, view_in, with_record}
use Rattle.satp_world.specs.Worlds.{EntriesStand}
use Rattle.satp_sides.specs.Moves.SideMoves.{Moves, Stops}
use Rattle.satp_sides.specs.Points.Move.{Appends, Acts, Says}
use Rattle.satp_base.specs.LedgerRule.{operation}
use Rattle.satp_sides.proofs.Moving.{act-at, act-rule}
use Rattle.satp_sides.proofs.Records.{is-session, push-head, view-apart, view-here}

-- one record more leaves the terms of every session
entries-record : (side : Side) (s : SessionId) (r : Rec) (t : Text) → EntriesStand side → EntriesStand (with_record side s r t)
entries-record side s r t old q k e = go (is_session q s) refl
  where
    x : Stored
    x = record { session = s; rec = r; text = t }

    go : (b : Bool) → is_session q s ≡ b → (v : View) × (view_in q (with_record side s r t).records ≡ Some v) × (k.terms ≡ v.terms)
    go false n = let (v, f, g) = old q k e in (v, view-apart q side.records (record { session = s; rec = r; text = t }) n ∙ f, g)
    go true h = let (v, f, g) = old q k e in (push v r, view-here q side.records (record { session = s; rec = r; text = t }) v h f, g ∙ sym (push-head v r).1)

terms-held : (o : Option LedgerEntry) (t : Terms) → ((k : LedgerEntry) → o ≡ Some k → k.terms ≡ t) → (standing_at o t).terms ≡ t
terms-held None t h = refl
terms-held (Some k) t h = by_entry k.entry
  where
    by_entry : (e : Entry) → under e k.terms t ≡ t
    by_entry Absent = refl
    by_entry _ = h k refl

some_view : (v w : View) → Some v ≡ Some w → v ≡ w
some_view v w e = cc e

some_entry : (k j : LedgerEntry) → Some k ≡ Some j → k ≡ j
some_entry k j e = cc e

-- the terms of the entry are those of the records
pub terms-kept : (side : Side) (s : SessionId) (v : View) → EntriesStand side → view_in s side.records ≡ Some v → terms_of side.book.entries s v.terms ≡ v.terms
terms-kept side s v old e = terms-held (get side.book.entries s) v.terms (λ k f. let (u, g, h) = old s k f in h ∙ ap (λ (x : View). x.terms) (some_view u v (sym g ∙ e)))

entries-moved : (side : Side) (op : LedgerOp) (s : SessionId) (v : View) → EntriesStand side → view_in s side.records ≡ Some v → EntriesStand (record { records = side.records; book = moved side.book op s v.terms })
entries-moved side op s v old e q k f = go (is_session q s) refl
  where
    new : LedgerEntry
    new = record { entry = result_of op; terms = terms_of side.book.entries s v.terms }

    found : cond (is_session q s) (Some (record { entry = result_of op; terms = terms_of side.book.entries s v.terms })) (get side.book.entries q) ≡ Some k
    found = sym (get-insert sessions_total side.book.entries s (record { entry = result_of op; terms = terms_of side.book.entries s v.terms }) q) ∙ f

    go : (b : Bool) → is_session q s ≡ b → (u : View) × (view_in q side.records ≡ Some u) × (k.terms ≡ u.terms)
    go false n = old q k (sym (ap (λ b. cond b (Some (record { entry = result_of op; terms = terms_of side.book.entries s v.terms })) (get side.book.entries q)) n) ∙ found)
    go true h =
        let same = some_entry (record { entry = result_of op; terms = terms_of side.book.entries s v.terms }) k (sym (ap (λ b. cond b (Some (record { entry = result_of op; terms = terms_of side.book.entries s v.terms })) (get side.book.entries q)) h) ∙ found) in
        (v, ap (λ x. view_in x side.records) (is-session q s h) ∙ e, ap (λ (x : LedgerEntry). x.terms) (sym same) ∙ terms-kept side s v old e)

still : (side : Side) (b : Book) → b ≡ side.book → EntriesStand side → EntriesStand (record { records = side.records; book = b })
still side b e old = subst (λ x. EntriesStand (record { records = side.records; book = x })) (sym e) old

entries-acted : (side : Side) (op : LedgerOp) (s : SessionId) (v : View) (answer : Answer) (b : Book) → EntriesStand side → view_in s side.records ≡ Some v → LedgerRule side.book op s v.terms answer b → EntriesStand (record { records = side.records; book = b })
entries-acted side op s v Answer.Done b old e (inl h) = still side b h.1 old
entries-acted side op s v Answer.Done b old e (inr h) = subst (λ x. EntriesStand (record { records = side.records; book = x })) (sym h.2) (entries-moved side op s v old e)
entries-acted side Lock s v (Answer.Taken entry) b old e h = still side b h.3 old
entries-acted side Lock s v (Answer.NoFunds free) b old e h = still side b h.3 old
entries-acted side Mint s v (Answer.Taken entry) b old e h = still side b h.3 old
entries-acted side Mint s v Answer.UnknownAsset b old e h = still side b h.2 old
entries-acted side Mint s v (Answer.Capped total) b old e h = still side b h.3 old
entries-acted side _ s v _ b old e h = absurd h

-- every move of a gateway keeps this of its entries
pub entries-kept : (p : Party) (side : Side) (bag : List Text) (new : Side) (more : List Text) → SideMoves p side bag new more → EntriesStand side → EntriesStand new
entries-kept p side bag _ _ (Moves (Appends x) m) old = entries-record side x.session x.rec x.text old
entries-kept p side bag _ _ (Moves (Acts s op terms) m) old =
    act-at side s op terms m (λ book. EntriesStand (record { records = side.records; book = book }))
    (entries-acted side op s m.view m.answer (operation side.book op s m.view.terms).after old m.named (act-rule side s op terms m))
entries-kept p side bag _ _ (Moves (Says u) m) old = old
entries-kept p side bag _ _ Stops old = old
