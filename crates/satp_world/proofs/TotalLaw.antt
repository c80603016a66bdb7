-- What is free on both ledgers: session by session, and then in all.
use Rattle.std.proofs.Common.{◌≡◌, ◌≢◌, ℕ, ◌+◌, ◌≤◌, ◌&&◌, Bool, true, false, List, Option, Some, None, refl, sym, ap, subst, ◌∙◌, arith, ◌⊎◌, inl, inr}
use Rattle.std.specs.FinMap.{get}
use Rattle.std.specs.Option.{option_map_or}
use Rattle.satp_base.specs.Founding.{Founding, counted, equal_names}
use Rattle.satp_base.specs.Money.{free_sum_of, given_to_all, held_of_all, is_given, is_taken, sum_entries, taken_of_all}
use Rattle.satp_base.specs.declared.ledger.Entry.{Entry}
use Rattle.satp_base.specs.declared.ledger.Entry.TheVariants.{Absent, Locked, Burnt, Minted, Assigned, Released}
use Rattle.satp_base.specs.declared.ledger.LedgerEntry.{LedgerEntry}
use Rattle.satp_base.specs.declared.message.Terms.{Terms}
use Rattle.satp_base.specs.declared.name.Name.{Name}
use Rattle.satp_base.specs.declared.session.SessionId.{SessionId}
use Rattle.satp_base.specs.declared.view.View.{View}
use Rattle.satp_sides.specs.Moves.{SideMoves}
use Rattle.satp_sides.specs.Points.{Party, Side, Text, view_in}
use Rattle.satp_sides.specs.Halves.{entry_is}
use Rattle.satp_world.specs.Sessions.{IsSettled, StandsAt}
use Rattle.satp_world.specs.Worlds.{Gateway, IsSafeWorld, Reached, Setting, party_at, World, name_at, opposite, session_in, side_at}
use Rattle.satp_world.specs.Worlds.Gateway.{A, B}
use Rattle.satp_world.specs.Worlds.Reached.{Begins, Goes}
use Rattle.satp_world.specs.Worlds.WorldMoves.{By}
use Rattle.satp_sides.specs.Moves.SideMoves.{Moves, Stops}
use Rattle.satp_sides.specs.Points.Move.{Appends, Acts, Says}
use Rattle.satp_base.specs.LedgerRule.{operation}
use Rattle.satp_world.specs.Totals.{AllSettled, LawTotal}
use Rattle.satp_world.proofs.Amounts.{worth}
use Rattle.satp_world.proofs.Books.{IsCovered, Kept, all-covered, covered-first, owners-cover, owners-within, rule-keeps, sums-within}
use Rattle.satp_world.proofs.WorldLaw.{law_safety}

-- ---- both ledgers keep their foundings, and what is covered

record IsFounded (a b : Founding) (w : World) : Type 0 where
  first : w.a.book.genesis ≡ a
  second : w.b.book.genesis ≡ b
  covered_a : IsCovered w.a.book
  covered_b : IsCovered w.b.book

side-kept : (p : Party) (side : Side) (bag : List Text) (new : Side) (more : List Text) → SideMoves p side bag new more → IsCovered side.book → Kept side.book new.book
side-kept p side bag _ _ (Moves (Appends x) m) k = record { genesis = refl; covered = k }
side-kept p side bag _ _ (Moves (Acts s op terms) m) k = rule-keeps side.book op s terms m.answer (operation side.book op s terms).after k m.rule
side-kept p side bag _ _ (Moves (Says u) m) k = record { genesis = refl; covered = k }
side-kept p side bag _ _ Stops k = record { genesis = refl; covered = k }

founded : (st : Setting) (a b : Founding) (w : World) → Reached st a b w → IsFounded a b w
founded st a b _ Begins = record { first = refl; second = refl; covered_a = covered-first a; covered_b = covered-first b }
founded st a b _ (Goes w v r (By A side bag m)) =
    let f = founded st a b w r in
    let k = side-kept (party_at st A) w.a w.bag side bag m f.covered_a in
    record { first = k.genesis ∙ f.first; second = f.second; covered_a = k.covered; covered_b = f.covered_b }
founded st a b _ (Goes w v r (By B side bag m)) =
    let f = founded st a b w r in
    let k = side-kept (party_at st B) w.b w.bag side bag m f.covered_b in
    record { first = f.first; second = k.genesis ∙ f.second; covered_a = f.covered_a; covered_b = k.covered }

-- ---- one session on both ledgers

abbrev entry_in : Option LedgerEntry → Entry
entry_in o = option_map_or (λ (k : LedgerEntry). k.entry) o Absent

-- an entry that is no absent one is there
there : (o : Option LedgerEntry) (e : Entry) → entry_in o ≡ e → e ≢ Absent → (k : LedgerEntry) × (o ≡ Some k) × (k.entry ≡ e)
there None e h n = absurd (n (sym h))
there (Some k) e h n = (k, refl, h)

is-given : (e : Entry) → is_given e ≡ true → e ≡ Assigned
is-given Assigned h = refl
is-given _ h = absurd (cc h)

is-taken : (e : Entry) → is_taken e ≡ true → (e ≡ Locked) ⊎ (e ≡ Burnt)
is-taken Locked h = inl refl
is-taken Burnt h = inr refl
is-taken _ h = absurd (cc h)

some_view : (v u : View) → Some v ≡ Some u → v ≡ u
some_view v u e = cc e

-- what the joint invariant says of entries that are there
record Sides (a b : Option View) (ea eb : Entry) : Type 0 where
  mints_not : ea ≢ Assigned
  locks_not : ((v : View) → b ≡ Some v → (eb ≢ Locked) × (eb ≢ Burnt))
  same_terms : (v u : View) → a ≡ Some v → b ≡ Some u → v.terms ≡ u.terms

no-entry-is : (e f : Entry) → entry_is e f ≡ false → e ≢ f
no-entry-is e f n h = absurd (different f (subst (λ x. entry_is x f ≡ false) h n))
  where
    different : (x : Entry) → entry_is x x ≡ false → ⊥
    different Absent q = cc q
    different Locked q = cc q
    different Burnt q = cc q
    different Minted q = cc q
    different Assigned q = cc q
    different Released q = cc q

sides-of : (a b : Option View) (ea eb : Entry) → StandsAt a b ea eb → Sides a b ea eb
sides-of None None ea eb k = record {
  mints_not = λ e. cc (sym k.0 ∙ e);
  locks_not = λ v e. absurd (cc e);
  same_terms = λ v u e f. absurd (cc e);
}
sides-of (Some v) None ea eb k = record {
  mints_not = no-entry-is ea Assigned k.0.never_assigned;
  locks_not = λ u e. absurd (cc e);
  same_terms = λ x u e f. absurd (cc f);
}
sides-of (Some v) (Some u) ea eb k = record {
  mints_not = no-entry-is ea Assigned k.origin.never_assigned;
  locks_not = λ x e. (no-entry-is eb Locked k.recipient.never_locked, no-entry-is eb Burnt k.recipient.never_burnt);
  same_terms = λ x y e f. ap (λ (z : View). z.terms) (sym (some_view v x e)) ∙ k.terms ∙ ap (λ (z : View). z.terms) (some_view u y f);
}
sides-of None (Some u) ea eb k = absurd k

not_taken : (b c : Bool) (n m : ℕ) → b ≡ false → counted (b && c) n ≤ m
not_taken true c n m e = absurd (cc e)
not_taken false c n m e = omega arith

-- two entries under the same terms, of which one was given and the other taken
given-taken : (asset : Name) (k j : LedgerEntry) → k.terms ≡ j.terms → is_taken j.entry ≡ true → given_to_all asset k ≤ taken_of_all asset j
given-taken asset k j e h = by_entry (is_given k.entry) refl
  where
    taken : counted (is_taken j.entry && equal_names asset k.terms.asset) k.terms.amount.number ≡ taken_of_all asset j
    taken = ap (λ (t : Terms). counted (is_taken j.entry && equal_names asset t.asset) t.amount.number) e

    more : counted (is_taken j.entry && equal_names asset k.terms.asset) k.terms.amount.number ≡ counted (equal_names asset k.terms.asset) k.terms.amount.number
    more = ap (λ b. counted (b && equal_names asset k.terms.asset) k.terms.amount.number) h

    by_entry : (b : Bool) → is_given k.entry ≡ b → given_to_all asset k ≤ taken_of_all asset j
    by_entry false n = not_taken (is_given k.entry) (equal_names asset k.terms.asset) k.terms.amount.number (taken_of_all asset j) n
    by_entry true y = let a = ap (λ b. counted (b && equal_names asset k.terms.asset) k.terms.amount.number) y in omega (arith, a, taken, more)

taken-given : (asset : Name) (k j : LedgerEntry) → k.terms ≡ j.terms → is_given j.entry ≡ true → taken_of_all asset k ≤ given_to_all asset j
taken-given asset k j e h = by_entry (is_taken k.entry) refl
  where
    given : counted (is_given j.entry && equal_names asset k.terms.asset) k.terms.amount.number ≡ given_to_all asset j
    given = ap (λ (t : Terms). counted (is_given j.entry && equal_names asset t.asset) t.amount.number) e

    more : counted (is_given j.entry && equal_names asset k.terms.asset) k.terms.amount.number ≡ counted (equal_names asset k.terms.asset) k.terms.amount.number
    more = ap (λ b. counted (b && equal_names asset k.terms.asset) k.terms.amount.number) h

    by_entry : (b : Bool) → is_taken k.entry ≡ b → taken_of_all asset k ≤ given_to_all asset j
    by_entry false n = not_taken (is_taken k.entry) (equal_names asset k.terms.asset) k.terms.amount.number (given_to_all asset j) n
    by_entry true y = let a = ap (λ b. counted (b && equal_names asset k.terms.asset) k.terms.amount.number) y in omega (arith, a, given, more)

module _ (st : Setting) (w : World) (safe : IsSafeWorld st w) (asset : Name) where
  abbrev entry_at : Gateway → SessionId → Option LedgerEntry
  entry_at g s = get (side_at w g).book.entries s

  sides : (g : Gateway) (s : SessionId) → s.gateway ≡ name_at st g → Sides (view_in s (side_at w g).records) (view_in s (side_at w (opposite g)).records) (entry_in (entry_at g s)) (entry_in (entry_at (opposite g) s))
  sides g s h = sides-of (view_in s (side_at w g).records) (view_in s (side_at w (opposite g)).records) (entry_in (entry_at g s)) (entry_in (entry_at (opposite g) s)) (safe.stands g s h)

  -- the terms of both entries of a session are the same
  terms-agree : (g : Gateway) (s : SessionId) → s.gateway ≡ name_at st g → (k j : LedgerEntry) → entry_at (opposite g) s ≡ Some k → entry_at g s ≡ Some j → k.terms ≡ j.terms
  terms-agree g s h k j e f =
      let (u, x, p) = safe.entries (opposite g) s k e in
      let (v, y, q) = safe.entries g s j f in
      p ∙ sym ((sides g s h).same_terms v u y x) ∙ sym q

  -- ---- what was given on one ledger was taken on the other

  given-at : (g : Gateway) (s : SessionId) (k : LedgerEntry) → s.gateway ≡ name_at st g → entry_at (opposite g) s ≡ Some k → k.entry ≡ Assigned → given_to_all asset k ≤ worth (taken_of_all asset) (entry_at g s)
  given-at g s k h e assigned =
      let burnt = (safe.safe g s h).assigned_behind_the_burn (ap entry_in e ∙ assigned) in
      let (j, f, is) = there (entry_at g s) Burnt burnt (λ x. cc x) in
      subst (λ o. given_to_all asset k ≤ worth (taken_of_all asset) o) (sym f) (given-taken asset k j (terms-agree g s h k j e f) (ap is_taken is))

  never-given : (g : Gateway) (s : SessionId) (k : LedgerEntry) → s.gateway ≡ name_at st g → entry_at g s ≡ Some k → k.entry ≡ Assigned → ⊥
  never-given g s k h e assigned = (sides g s h).mints_not (ap entry_in e ∙ assigned)

  given-by : (g q : Gateway) (s : SessionId) (k : LedgerEntry) → q ≡ opposite g → g ≡ opposite q → entry_at q s ≡ Some k → given_to_all asset k ≤ worth (taken_of_all asset) (entry_at g s)
  given-by g q s k same back e = by_given (is_given k.entry) refl
    where
      by_given : (b : Bool) → is_given k.entry ≡ b → given_to_all asset k ≤ worth (taken_of_all asset) (entry_at g s)
      by_given false n = not_taken (is_given k.entry) (equal_names asset k.terms.asset) k.terms.amount.number _ n
      by_given true y =
          let (v, x, p) = safe.entries q s k e in
          elim (safe.named q s v x) [
            | inl h ↦ absurd (never-given q s k h e (is-given k.entry y))
            | inr h ↦ given-at g s k (h ∙ ap (name_at st) (sym back)) (subst (λ z. entry_at z s ≡ Some k) same e) (is-given k.entry y)
          ]

  pub given-within : (g q : Gateway) → q ≡ opposite g → g ≡ opposite q → sum_entries (given_to_all asset) (side_at w q).book.entries ≤ sum_entries (taken_of_all asset) (side_at w g).book.entries
  given-within g q same back = sums-within (given_to_all asset) (taken_of_all asset) (side_at w q).book.entries (side_at w g).book.entries (λ s. go s (entry_at q s) refl)
    where
      go : (s : SessionId) (o : Option LedgerEntry) → entry_at q s ≡ o → worth (given_to_all asset) (entry_at q s) ≤ worth (taken_of_all asset) (entry_at g s)
      go s None e = let a = ap (worth (given_to_all asset)) e in omega (arith, a)
      go s (Some k) e = let a = ap (worth (given_to_all asset)) e in let b = given-by g q s k same back e in omega (arith, a, b)

  -- ---- where all is settled, what was taken on one ledger was given on the other

  module _ (settled : AllSettled st w) where
    taken-at : (g : Gateway) (s : SessionId) (k : LedgerEntry) (v : View) → s.gateway ≡ name_at st g → view_in s (side_at w g).records ≡ Some v → entry_at g s ≡ Some k → is_taken k.entry ≡ true → taken_of_all asset k ≤ worth (given_to_all asset) (entry_at (opposite g) s)
    taken-at g s k v h x e y = by_end (settled g s v h x).2
      where
        by_end : IsSettled (session_in w g s) → taken_of_all asset k ≤ worth (given_to_all asset) (entry_at (opposite g) s)
        by_end (inl c) =
            let (j, f, is) = there (entry_at (opposite g) s) Assigned c.2 (λ z. cc z) in
            subst (λ o. taken_of_all asset k ≤ worth (given_to_all asset) o) (sym f) (taken-given asset k j (sym (terms-agree g s h j k f e)) (ap is_given is))
        by_end (inr r) = absurd (cc (sym y ∙ ap is_taken (sym (ap entry_in e) ∙ r.1)))

    taken-by : (g q : Gateway) (s : SessionId) (k : LedgerEntry) → q ≡ opposite g → g ≡ opposite q → entry_at g s ≡ Some k → taken_of_all asset k ≤ worth (given_to_all asset) (entry_at q s)
    taken-by g q s k same back e = by_taken (is_taken k.entry) refl
      where
        never : s.gateway ≡ name_at st q → (v : View) → view_in s (side_at w g).records ≡ Some v → is_taken k.entry ≡ true → ⊥
        never h v x y =
            let not = (sides q s h).locks_not v (subst (λ z. view_in s (side_at w z).records ≡ Some v) back x) in
            let at = subst (λ z. entry_in (entry_at z s) ≡ k.entry) back (ap entry_in e) in
            elim (is-taken k.entry y) [ inl l ↦ not.0 (at ∙ l) | inr b ↦ not.1 (at ∙ b) ]

        by_taken : (b : Bool) → is_taken k.entry ≡ b → taken_of_all asset k ≤ worth (given_to_all asset) (entry_at q s)
        by_taken false n = not_taken (is_taken k.entry) (equal_names asset k.terms.asset) k.terms.amount.number _ n
        by_taken true y =
            let (v, x, p) = safe.entries g s k e in
            elim (safe.named g s v x) [
              | inl h ↦ subst (λ z. taken_of_all asset k ≤ worth (given_to_all asset) (entry_at z s)) (sym same) (taken-at g s k v h x e y)
              | inr h ↦ absurd (never (h ∙ ap (name_at st) (sym same)) v x y)
            ]

    pub taken-within : (g q : Gateway) → q ≡ opposite g → g ≡ opposite q → sum_entries (taken_of_all asset) (side_at w g).book.entries ≤ sum_entries (given_to_all asset) (side_at w q).book.entries
    taken-within g q same back = sums-within (taken_of_all asset) (given_to_all asset) (side_at w g).book.entries (side_at w q).book.entries (λ s. go s (entry_at g s) refl)
      where
        go : (s : SessionId) (o : Option LedgerEntry) → entry_at g s ≡ o → worth (taken_of_all asset) (entry_at g s) ≤ worth (given_to_all asset) (entry_at q s)
        go s None e = let a = ap (worth (taken_of_all asset)) e in omega (arith, a)
        go s (Some k) e = let a = ap (worth (taken_of_all asset)) e in let b = taken-by g q s k same back e in omega (arith, a, b)

-- ---- in all

pub law_total : LawTotal
law_total st a b w r asset = record {
  never_more = never-more;
  settled = all-settled;
  owners_never_more = λ owners d.
      (let x = owners-within w.a.book asset owners f.covered_a d in
      let y = owners-within w.b.book asset owners f.covered_b d in
      omega (arith, x, y, never-more));
  owners_settled = λ z owners d all.
      (let x = owners-within w.a.book asset owners f.covered_a d in
      let y = owners-within w.b.book asset owners f.covered_b d in
      let p = owners-cover w.a.book asset owners f.covered_a d (λ o n. (all o n).0) in
      let q = owners-cover w.b.book asset owners f.covered_b d (λ o n. (all o n).1) in
      let e = all-settled z in
      omega (arith, x, y, p, q, e));
}
  where
    f : IsFounded a b w
    f = founded st a b w r

    safe : IsSafeWorld st w
    safe = law_safety st a b w r

    held_a : held_of_all w.a.book.genesis asset ≡ held_of_all a asset
    held_a = ap (λ (g : Founding). held_of_all g asset) f.first

    held_b : held_of_all w.b.book.genesis asset ≡ held_of_all b asset
    held_b = ap (λ (g : Founding). held_of_all g asset) f.second

    never-more : free_sum_of w.a.book asset + free_sum_of w.b.book asset ≤ held_of_all a asset + held_of_all b asset
    never-more =
        let x = given-within st w safe asset A B refl refl in
        let y = given-within st w safe asset B A refl refl in
        let p = all-covered w.a.book asset f.covered_a in
        let q = all-covered w.b.book asset f.covered_b in
        omega (arith, x, y, p, q, held_a, held_b)

    all-settled : AllSettled st w → free_sum_of w.a.book asset + free_sum_of w.b.book asset ≡ held_of_all a asset + held_of_all b asset
    all-settled z =
        let x = given-within st w safe asset A B refl refl in
        let y = given-within st w safe asset B A refl refl in
        let u = taken-within st w safe asset z A B refl refl in
        let v = taken-within st w safe asset z B A refl refl in
        let p = all-covered w.a.book asset f.covered_a in
        let q = all-covered w.b.book asset f.covered_b in
        omega (arith, x, y, u, v, p, q, held_a, held_b)
