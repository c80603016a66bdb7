-- Every move of a gateway keeps what stands of all sessions and of the bag.
use Rattle.std.proofs.Common.{◌≡◌, ℕ, zero, suc, ◌+◌, ◌-◌, ◌≤◌, Bool, true, false, List, [], ◌∷◌, map, length, drop, Option, Some, None, refl, sym, ap, subst, ◌∙◌, arith, ◌⊎◌, inl, inr}
use Rattle.std.specs.Prelude.{slice_get}
use Rattle.std.specs.List.{AllByRecursion}
use Rattle.std.specs.Option.{option_map_or}
use Rattle.std.specs.FinMap.{get-empty}
use Rattle.std.proofs.lemmas.List.{length-map, length_push}
use Rattle.satp_base.specs.Founding.{Founding}
use Rattle.satp_base.specs.Keys.{session_cmp}
use Rattle.satp_base.specs.declared.name.Name.{Name}
use Rattle.satp_base.specs.declared.session.SessionId.{SessionId}
use Rattle.satp_base.specs.declared.message.Role.{Role}
use Rattle.satp_base.specs.declared.message.Role.TheVariants.{Origin, Recipient}
use Rattle.satp_base.specs.declared.message.Link.{Link}
use Rattle.satp_base.specs.declared.message.Terms.{Terms}
use Rattle.satp_base.specs.declared.message.Part.{Part}
use Rattle.satp_base.specs.declared.message.Part.TheVariants.{Proposal}
use Rattle.satp_base.specs.declared.message.Body.{Body}
use Rattle.satp_base.specs.declared.message.Body.TheVariants as body
use Rattle.satp_base.specs.declared.message.Message.{Message}
use Rattle.satp_base.specs.declared.ledger.LedgerEntry.{LedgerEntry}
use Rattle.satp_base.specs.declared.ledger.Entry.{Entry}
use Rattle.satp_base.specs.declared.ledger.Entry.TheVariants.{Absent}
use Rattle.satp_base.specs.declared.record.Rec.{Rec}
use Rattle.satp_base.specs.declared.record.Rec.TheVariants.{Began, Took, Made}
use Rattle.satp_base.specs.declared.view.View.{View}
use Rattle.satp_base.specs.Canonical.{part_kind}
use Rattle.satp_base.specs.Forms.{IsMessage, IsPart}
use Rattle.satp_base.specs.Signatures.{own}
use Rattle.satp_base.specs.Chains.{last_link, message_at, next_text, role_at, texts_from, texts_of, zero_link}
use Rattle.satp_base.specs.Tales.{IsTale, is_whole, other}
use Rattle.satp_base.specs.declared.record.Next.TheVariants.{Act}
use Rattle.satp_base.specs.LedgerRule.{LedgerRule, entry_of, operation}
use Rattle.satp_base.specs.Roles.{RoleRule, next_of}
use Rattle.satp_base.proofs.ChainLemmas.{texts_appended, zero_formed}
use Rattle.satp_base.proofs.SignatureLemmas.{own_shows}
use Rattle.satp_base.proofs.TaleTable.{tale-is, tale-short}
use Rattle.satp_base.proofs.Finite.In.{here}
use Rattle.satp_base.specs.declared.ledger.Answer.{Answer}
use Rattle.satp_base.specs.declared.ledger.LedgerOp.{LedgerOp}
use Rattle.satp_base.specs.Money.{Book}
use Rattle.satp_sides.specs.LogLaws.{IsChainOf}
use Rattle.satp_sides.proofs.Moving.{act-at, act-rule}
use Rattle.satp_sides.specs.Moves.{Arrives, Fits, Among, Delivered, LedgerFits, Sayable, SideMoves, last_texts}
use Rattle.satp_sides.specs.Points.{Party, tale_of, Text, Side, Stored, chain_in, is_session, recipient_at, records_of, view_in, with_record}
use Rattle.satp_world.specs.Sessions.{SessionStands}
use Rattle.satp_world.specs.Worlds.{Gateway, Setting, World, BagStands, DealGoesOn, EntriesStand, IsSettledAt, LawSafety, Reached, party_at, TiedTexts, WorldMoves, maker_side, name_at, opposite, session_in, side_at, start, with_side}
use Rattle.satp_world.specs.Worlds.Gateway.{A, B}
use Rattle.satp_sides.specs.Moves.Among.{first, later}
use Rattle.satp_sides.specs.Moves.Delivered.{Alone, Listed}
use Rattle.satp_sides.specs.Moves.Sayable.{Own_text, Recovers, Updates, Succeeds, Knows_none}
use Rattle.satp_sides.specs.Logs.{MayCome}
use Rattle.satp_sides.specs.Logs.MayCome.{Starts, Accepts, Takes, Makes, Notes}
use Rattle.satp_sides.specs.Moves.SideMoves.{Moves, Stops}
use Rattle.satp_sides.specs.Points.Move.{Appends, Acts, Says}
use Rattle.satp_world.specs.Worlds.WorldMoves.{By}
use Rattle.satp_world.specs.Worlds.Reached.{Begins, Goes}
use Rattle.satp_world.specs.Worlds.TiedTexts.{Same as Same_texts, Origin_ahead, Recipient_ahead}
use Rattle.satp_sides.proofs.Records.{is-session, view-apart, chain-here, chain-apart, get-old}
use Rattle.satp_sides.specs.LogLaws.{HalfChain}
use Rattle.satp_sides.proofs.Chained.{long, message-of}
use Rattle.satp_world.specs.Standing.{IsNamed, WorldStands, TiedParts}
use Rattle.satp_world.proofs.Tied.{maker-has}
use Rattle.satp_world.specs.Standing.TiedParts.{Same, Mine_ahead, Peer_ahead}
use Rattle.satp_world.specs.Standing.{PairStands, session_by}
use Rattle.satp_world.proofs.PairLaw.{PairMoved, role-is, flip-pair, noted, acted, acted-apart, apart, made, took-by, unmoved, proposed, accepted}
use Rattle.satp_world.proofs.EntryLaw.{entries-kept}
use Rattle.satp_world.proofs.ReadOff.{read-off}
use Rattle.satp_world.proofs.SafeLaw.{safe-of}

-- ---- gateways

twice : (q : Gateway) → opposite (opposite q) ≡ q
twice A = refl
twice B = refl

same_gateway : (st : Setting) (g q : Gateway) → name_at st g ≡ name_at st q → g ≡ q
same_gateway st A A h = refl
same_gateway st B B h = refl
same_gateway st A B h = absurd (st.differ h)
same_gateway st B A h = absurd (st.differ (sym h))

not_itself : (q : Gateway) → q ≡ opposite q → ⊥
not_itself A h = cc h
not_itself B h = cc h

-- the session gives the gateway this role
abbrev pub HasRole : Setting → Gateway → Role → SessionId → Type 0
HasRole st q Origin s = s.gateway ≡ name_at st q
HasRole st q Recipient s = s.gateway ≡ name_at st (opposite q)

-- ---- a move, as one session sees it

pub arrives-at : (st : Setting) (w : World) (q : Gateway) (role : Role) (s : SessionId) (n : ℕ) (previous : Link) (p : Part) → HasRole st q role s → BagStands st w w.bag
    → Delivered st.key w.bag (own st.key (message_at s (recipient_at (party_at st q) role) (n + 1) previous p)) → IsMessage (message_at s (recipient_at (party_at st q) role) (n + 1) previous p) → role_at (n + 1) ≡ other role
    → slice_get (chain_in s (side_at w (opposite q)).records) n ≡ Some (own st.key (message_at s (recipient_at (party_at st q) role) (n + 1) previous p))
arrives-at st w q Origin s n previous p h b d f r = subst (λ x. slice_get (chain_in s (side_at w (maker_side q x)).records) n ≡ Some (own st.key (message_at s (name_at st (opposite q)) (n + 1) previous p))) r (b _ d q s h n previous p f refl)
arrives-at st w A Recipient s n previous p h b d f r = subst (λ x. slice_get (chain_in s (side_at w (maker_side B x)).records) n ≡ Some (own st.key (message_at s (name_at st A) (n + 1) previous p))) r (b _ d B s h n previous p f refl)
arrives-at st w B Recipient s n previous p h b d f r = subst (λ x. slice_get (chain_in s (side_at w (maker_side A x)).records) n ≡ Some (own st.key (message_at s (name_at st B) (n + 1) previous p))) r (b _ d A s h n previous p f refl)

module _ (st : Setting) (w : World) (q : Gateway) (role : Role) (s : SessionId) (h : HasRole st q role s) (b : BagStands st w w.bag) (k : PairStands role s (recipient_at (party_at st q) role) st.key (side_at w q) (side_at w (opposite q))) where
  abbrev Moved : Side → Type 0
  Moved side = PairMoved role s (recipient_at (party_at st q) role) st.key (side_at w q) side (side_at w (opposite q))

  -- the session is the record's, or another one
  by_session : (t : SessionId) (side : SessionId → Side) → (is_session s t ≡ false → Moved (side t)) → (s ≡ t → Moved (side s)) → Moved (side t)
  by_session t side other_one here_one = go (is_session s t) refl
    where
      go : (x : Bool) → is_session s t ≡ x → Moved (side t)
      go false e = other_one e
      go true e = let same = is-session s t e in subst (λ x. Moved (side x)) same (here_one same)

  role-of : (v : View) → view_in s (side_at w q).records ≡ Some v → v.role ≡ role
  role-of v e = role-is role (view_in s (side_at w q).records) (view_in s (side_at w (opposite q)).records) v _ _ e k.stands

proposes-here : (st : Setting) (w : World) (q : Gateway) (role : Role) (s : SessionId) (terms : Terms) → HasRole st q role s → s.gateway ≡ name_at st q → records_of s (side_at w q).records ≡ []
    → PairStands role s (recipient_at (party_at st q) role) st.key (side_at w q) (side_at w (opposite q))
    → PairMoved role s (recipient_at (party_at st q) role) st.key (side_at w q) (with_record (side_at w q) s (Began Origin terms) (next_text s (name_at st (opposite q)) st.key [] (Proposal terms))) (side_at w (opposite q))
proposes-here st w q Origin s terms h g e k = proposed s (name_at st (opposite q)) st.key (side_at w q) (side_at w (opposite q)) terms k e
proposes-here st w q Recipient s terms h g e k = absurd (not_itself q (same_gateway st q (opposite q) (sym g ∙ h)))

accepts-here : (st : Setting) (w : World) (q : Gateway) (role : Role) (s : SessionId) (terms : Terms) → HasRole st q role s → s.gateway ≡ name_at st (opposite q) → records_of s (side_at w q).records ≡ []
    → Delivered st.key w.bag (next_text s (name_at st q) st.key [] (Proposal terms)) → BagStands st w w.bag
    → PairStands role s (recipient_at (party_at st q) role) st.key (side_at w q) (side_at w (opposite q))
    → PairMoved role s (recipient_at (party_at st q) role) st.key (side_at w q) (with_record (side_at w q) s (Began Recipient terms) (next_text s (name_at st q) st.key [] (Proposal terms))) (side_at w (opposite q))
accepts-here st w q Origin s terms h g e d b k = absurd (not_itself q (same_gateway st q (opposite q) (sym h ∙ g)))
accepts-here st w q Recipient s terms h g e d b k =
    accepted s (name_at st q) st.key (side_at w q) (side_at w (opposite q)) terms k e
    (arrives-at st w q Recipient s 0 zero_link (Proposal terms) h b d ((record { low = omega arith; high = omega arith }, tt), zero_formed) refl)

step-record : (st : Setting) (w : World) (q : Gateway) (role : Role) (s : SessionId) → HasRole st q role s → BagStands st w w.bag → PairStands role s (recipient_at (party_at st q) role) st.key (side_at w q) (side_at w (opposite q))
    → (x : Stored) → MayCome (party_at st q) (side_at w q).records x → Arrives (party_at st q) w.bag x → Fits (side_at w q) x
    → PairMoved role s (recipient_at (party_at st q) role) st.key (side_at w q) (with_record (side_at w q) x.session x.rec x.text) (side_at w (opposite q))
step-record st w q role s h b k _ (Starts t terms g e c) a l =
    by_session st w q role s h b k t (λ x. with_record (side_at w q) x (Began Origin terms) (next_text x (name_at st (opposite q)) st.key [] (Proposal terms)))
    (λ n. apart role s (recipient_at (party_at st q) role) st.key (side_at w q) (side_at w (opposite q)) k t (Began Origin terms) _ n)
    (λ same. proposes-here st w q role s terms h (subst (λ x. x.gateway ≡ name_at st q) (sym same) g) (subst (λ x. records_of x (side_at w q).records ≡ []) (sym same) e) k)
step-record st w q role s h b k _ (Accepts t terms g e c) d l =
    by_session st w q role s h b k t (λ x. with_record (side_at w q) x (Began Recipient terms) (next_text x (name_at st q) st.key [] (Proposal terms)))
    (λ n. apart role s (recipient_at (party_at st q) role) st.key (side_at w q) (side_at w (opposite q)) k t (Began Recipient terms) _ n)
    (λ same. accepts-here st w q role s terms h (subst (λ x. x.gateway ≡ name_at st (opposite q)) (sym same) g) (subst (λ x. records_of x (side_at w q).records ≡ []) (sym same) e) (subst (λ y. Delivered st.key w.bag (next_text y (name_at st q) st.key [] (Proposal terms))) (sym same) d) b k)
step-record st w q role s h b k _ (Takes t v p e rule f) d l =
    by_session st w q role s h b k t (λ x. with_record (side_at w q) x (Took (part_kind p)) (next_text x (recipient_at (party_at st q) v.role) st.key (chain_in x (side_at w q).records) p))
    (λ n. apart role s (recipient_at (party_at st q) role) st.key (side_at w q) (side_at w (opposite q)) k t (Took (part_kind p)) _ n)
    (λ same.
    (let e' = subst (λ x. view_in x (side_at w q).records ≡ Some v) (sym same) e in
    let r = role-of st w q role s h b k v e' in
    let d' = subst (λ y. Delivered st.key w.bag (next_text y (recipient_at (party_at st q) v.role) st.key (chain_in y (side_at w q).records) p)) (sym same) d in
    let d'' = subst (λ y. Delivered st.key w.bag (next_text s (recipient_at (party_at st q) y) st.key (chain_in s (side_at w q).records) p)) r d' in
    subst (λ y. PairMoved role s (recipient_at (party_at st q) role) st.key (side_at w q) (with_record (side_at w q) s (Took (part_kind p)) (next_text s (recipient_at (party_at st q) y) st.key (chain_in s (side_at w q).records) p)) (side_at w (opposite q))) (sym r)
    (took-by role s (recipient_at (party_at st q) role) st.key (side_at w q) (side_at w (opposite q)) k v p e' (subst (λ y. RoleRule y v (Took (part_kind p))) r rule) f
    (λ m place. arrives-at st w q role s (length (chain_in s (side_at w q).records)) (last_link (chain_in s (side_at w q).records)) p h b d'' m place))))
step-record st w q role s h b k _ (Makes t v p e rule f) a l =
    by_session st w q role s h b k t (λ x. with_record (side_at w q) x (Made (part_kind p)) (next_text x (recipient_at (party_at st q) v.role) st.key (chain_in x (side_at w q).records) p))
    (λ n. apart role s (recipient_at (party_at st q) role) st.key (side_at w q) (side_at w (opposite q)) k t (Made (part_kind p)) _ n)
    (λ same.
    (let e' = subst (λ x. view_in x (side_at w q).records ≡ Some v) (sym same) e in
    let r = role-of st w q role s h b k v e' in
    subst (λ y. PairMoved role s (recipient_at (party_at st q) role) st.key (side_at w q) (with_record (side_at w q) s (Made (part_kind p)) (next_text s (recipient_at (party_at st q) y) st.key (chain_in s (side_at w q).records) p)) (side_at w (opposite q))) (sym r)
    (made role s (recipient_at (party_at st q) role) st.key (side_at w q) (side_at w (opposite q)) k v p e' (subst (λ y. RoleRule y v (Made (part_kind p))) r rule) f)))
step-record st w q role s h b k _ (Notes t v r e rule n) a l =
    by_session st w q role s h b k t (λ x. with_record (side_at w q) x r [])
    (λ m. apart role s (recipient_at (party_at st q) role) st.key (side_at w q) (side_at w (opposite q)) k t r [] m)
    (λ same.
    (let e' = subst (λ x. view_in x (side_at w q).records ≡ Some v) (sym same) e in
    let z = role-of st w q role s h b k v e' in
    noted role s (recipient_at (party_at st q) role) st.key (side_at w q) (side_at w (opposite q)) k v r e' (subst (λ y. RoleRule y v r) z rule) n (subst (λ x. LedgerFits (side_at w q).book x v.terms r) (sym same) (l v e))))

step : (st : Setting) (w : World) (q : Gateway) (role : Role) (s : SessionId) → HasRole st q role s → BagStands st w w.bag → PairStands role s (recipient_at (party_at st q) role) st.key (side_at w q) (side_at w (opposite q))
    → (side : Side) (bag : List Text) → SideMoves (party_at st q) (side_at w q) w.bag side bag → PairMoved role s (recipient_at (party_at st q) role) st.key (side_at w q) side (side_at w (opposite q))
step st w q role s h b k _ _ (Moves (Appends x) m) = step-record st w q role s h b k x m.may_come m.arrives m.fits
step st w q role s h b k _ _ (Moves (Acts t op terms) m) =
    act-at (side_at w q) t op terms m (λ book. PairMoved role s (recipient_at (party_at st q) role) st.key (side_at w q) (record { records = (side_at w q).records; book = book }) (side_at w (opposite q)))
    (acts-here t op m.view m.answer (operation (side_at w q).book op t m.view.terms).after m.named m.due (act-rule (side_at w q) t op terms m))
  where
    acts-here : (t : SessionId) (op : LedgerOp) (v : View) (answer : Answer) (book : Book) → view_in t (side_at w q).records ≡ Some v → next_of v.role v ≡ Act op → LedgerRule (side_at w q).book op t v.terms answer book
        → PairMoved role s (recipient_at (party_at st q) role) st.key (side_at w q) (record { records = (side_at w q).records; book = book }) (side_at w (opposite q))
    acts-here t op v answer book e due rule =
        by_session st w q role s h b k t (λ x. record { records = (side_at w q).records; book = book })
        (λ m. acted-apart role s (recipient_at (party_at st q) role) st.key (side_at w q) (side_at w (opposite q)) k t op v.terms answer book m rule)
        (λ same.
        (let e' = subst (λ x. view_in x (side_at w q).records ≡ Some v) (sym same) e in
        let z = role-of st w q role s h b k v e' in
        acted role s (recipient_at (party_at st q) role) st.key (side_at w q) (side_at w (opposite q)) k v op answer book e' (subst (λ y. next_of y v ≡ Act op) z due) (subst (λ x. LedgerRule (side_at w q).book op x v.terms answer book) (sym same) rule)))
step st w q role s h b k _ _ (Moves (Says t) m) = unmoved role s (recipient_at (party_at st q) role) st.key (side_at w q) (side_at w (opposite q)) k
step st w q role s h b k _ _ Stops = unmoved role s (recipient_at (party_at st q) role) st.key (side_at w q) (side_at w (opposite q)) k

-- ---- a session of a gateway's name, whoever moves

record SessionMoved (st : Setting) (w v : World) (g : Gateway) (s : SessionId) : Type 0 where
  stands : PairStands Origin s (name_at st (opposite g)) st.key (side_at v g) (side_at v (opposite g))
  deal : DealGoesOn (session_in w g s) (session_in v g s)

pair-moved : (st : Setting) (w : World) (k : WorldStands st w) (g q : Gateway) (s : SessionId) → s.gateway ≡ name_at st g → (side : Side) (bag : List Text) → SideMoves (party_at st q) (side_at w q) w.bag side bag → SessionMoved st w (with_side w q side bag) g s
pair-moved st w k A A s h side bag m = let r = step st w A Origin s h k.bag (k.pairs A s h) side bag m in record { stands = r.stands; deal = r.deal }
pair-moved st w k B B s h side bag m = let r = step st w B Origin s h k.bag (k.pairs B s h) side bag m in record { stands = r.stands; deal = r.deal }
pair-moved st w k A B s h side bag m =
    let r = step st w B Recipient s h k.bag (flip-pair Origin s st.b st.key w.a w.b (k.pairs A s h)) side bag m in
    record { stands = flip-pair Recipient s st.b st.key side w.a r.stands; deal = r.deal }
pair-moved st w k B A s h side bag m =
    let r = step st w A Recipient s h k.bag (flip-pair Origin s st.a st.key w.b w.a (k.pairs B s h)) side bag m in
    record { stands = flip-pair Recipient s st.a st.key side w.b r.stands; deal = r.deal }

-- ---- chains only grow

record-grows : (t : SessionId) (side : Side) (s : SessionId) (r : Rec) (text : Text) (n : ℕ) (x : Text) → slice_get (chain_in t side.records) n ≡ Some x → slice_get (chain_in t (with_record side s r text).records) n ≡ Some x
record-grows t side s r text n x h = go (is_session t s) refl
  where
    y : Stored
    y = record { session = s; rec = r; text = text }

    go : (b : Bool) → is_session t s ≡ b → slice_get (chain_in t (with_record side s r text).records) n ≡ Some x
    go false e = ap (λ ts. slice_get ts n) (chain-apart t side.records (record { session = s; rec = r; text = text }) e) ∙ h
    go true e = ap (λ ts. slice_get ts n) (chain-here t side.records (record { session = s; rec = r; text = text }) e) ∙ get-old (chain_in t side.records) _ n x h

side-grows : (p : Party) (side : Side) (bag : List Text) (new : Side) (more : List Text) → SideMoves p side bag new more → (t : SessionId) (n : ℕ) (x : Text) → slice_get (chain_in t side.records) n ≡ Some x → slice_get (chain_in t new.records) n ≡ Some x
side-grows p side bag _ _ (Moves (Appends y) m) t n x h = record-grows t side y.session y.rec y.text n x h
side-grows p side bag _ _ (Moves (Acts s op terms) m) t n x h = h
side-grows p side bag _ _ (Moves (Says u) m) t n x h = h
side-grows p side bag _ _ Stops t n x h = h

grows : (st : Setting) (w : World) (q : Gateway) (side : Side) (bag : List Text) → SideMoves (party_at st q) (side_at w q) w.bag side bag → (p : Gateway) (t : SessionId) (n : ℕ) (x : Text) → slice_get (chain_in t (side_at w p).records) n ≡ Some x → slice_get (chain_in t (side_at (with_side w q side bag) p).records) n ≡ Some x
grows st w A side bag m A t n x h = side-grows (party_at st A) w.a w.bag side bag m t n x h
grows st w B side bag m B t n x h = side-grows (party_at st B) w.b w.bag side bag m t n x h
grows st w A side bag m B t n x h = h
grows st w B side bag m A t n x h = h

-- ---- sessions that records name

record-named : (st : Setting) (q : Gateway) (side : Side) (s : SessionId) (r : Rec) (text : Text) → IsNamed st q s → ((t : SessionId) (v : View) → view_in t side.records ≡ Some v → IsNamed st q t) → (t : SessionId) (v : View) → view_in t (with_record side s r text).records ≡ Some v → IsNamed st q t
record-named st q side s r text k old t v h = go (is_session t s) refl
  where
    go : (b : Bool) → is_session t s ≡ b → IsNamed st q t
    go false e = old t v (sym (view-apart t side.records (record { session = s; rec = r; text = text }) e) ∙ h)
    go true e = subst (IsNamed st q) (sym (is-session t s e)) k

record-is-named : (st : Setting) (q : Gateway) (side : Side) (x : Stored) → MayCome (party_at st q) side.records x → ((t : SessionId) (v : View) → view_in t side.records ≡ Some v → IsNamed st q t)
    → (t : SessionId) (v : View) → view_in t (with_record side x.session x.rec x.text).records ≡ Some v → IsNamed st q t
record-is-named st q side _ (Starts s terms g e c) old t v h = record-named st q side s (Began Origin terms) _ (inl g) old t v h
record-is-named st q side _ (Accepts s terms g e c) old t v h = record-named st q side s (Began Recipient terms) _ (inr g) old t v h
record-is-named st q side _ (Takes s u p e rule f) old t v h = record-named st q side s (Took (part_kind p)) _ (old s u e) old t v h
record-is-named st q side _ (Makes s u p e rule f) old t v h = record-named st q side s (Made (part_kind p)) _ (old s u e) old t v h
record-is-named st q side _ (Notes s u r e rule m) old t v h = record-named st q side s r [] (old s u e) old t v h

side-named : (st : Setting) (q : Gateway) (side : Side) (bag : List Text) (new : Side) (more : List Text) → ((t : SessionId) (v : View) → view_in t side.records ≡ Some v → IsNamed st q t) → SideMoves (party_at st q) side bag new more → (t : SessionId) (v : View) → view_in t new.records ≡ Some v → IsNamed st q t
side-named st q side bag _ _ old (Moves (Appends x) m) t v h = record-is-named st q side x m.may_come old t v h
side-named st q side bag _ _ old (Moves (Acts s op terms) m) t v h = old t v h
side-named st q side bag _ _ old (Moves (Says u) m) t v h = old t v h
side-named st q side bag _ _ old Stops t v h = old t v h

world-named : (st : Setting) (w : World) (k : WorldStands st w) (q : Gateway) (side : Side) (bag : List Text) → SideMoves (party_at st q) (side_at w q) w.bag side bag → (p : Gateway) (t : SessionId) (v : View) → view_in t (side_at (with_side w q side bag) p).records ≡ Some v → IsNamed st p t
world-named st w k A side bag m A t v h = side-named st A w.a w.bag side bag (k.named A) m t v h
world-named st w k B side bag m B t v h = side-named st B w.b w.bag side bag (k.named B) m t v h
world-named st w k A side bag m B t v h = k.named B t v h
world-named st w k B side bag m A t v h = k.named A t v h

-- ---- texts of chains

-- the kinds of a side are a tale
pub tale-by : (role : Role) (a b : Option View) (e f : Entry) → SessionStands (session_by role a b e f) → IsTale (tale_of a)
tale-by role None b e f k = tale-is [] here
tale-by Origin (Some a) None e f k = k.0.tale
tale-by Origin (Some a) (Some b) e f k = k.origin.tale
tale-by Recipient (Some a) None e f k = absurd k
tale-by Recipient (Some a) (Some b) e f k = k.recipient.tale

role-or : (r role : Role) → (r ≡ role) ⊎ (r ≡ other role)
role-or Origin Origin = inl refl
role-or Origin Recipient = inr refl
role-or Recipient Origin = inr refl
role-or Recipient Recipient = inl refl

-- the gateways of a session, by the role of one of them
mine_is : (st : Setting) (q g : Gateway) (role : Role) (s : SessionId) → HasRole st q role s → s.gateway ≡ name_at st g → maker_side g role ≡ q
mine_is st q g Origin s h e = same_gateway st g q (sym e ∙ h)
mine_is st q g Recipient s h e = ap opposite (same_gateway st g (opposite q) (sym e ∙ h)) ∙ twice q

peer_is : (st : Setting) (q g : Gateway) (role : Role) (s : SessionId) → HasRole st q role s → s.gateway ≡ name_at st g → maker_side g (other role) ≡ opposite q
peer_is st q g Origin s h e = ap opposite (same_gateway st g q (sym e ∙ h))
peer_is st q g Recipient s h e = same_gateway st g (opposite q) (sym e ∙ h)

-- of two equal messages of chains
chain_place : Body → ℕ
chain_place (body.Chain place previous part) = place
chain_place _ = 0

-- a text that stands in a side's chain stands in its maker's
chain-fact : (st : Setting) (w : World) (q : Gateway) (role : Role) (s : SessionId) → HasRole st q role s → PairStands role s (recipient_at (party_at st q) role) st.key (side_at w q) (side_at w (opposite q))
    → (i : ℕ) (t : Text) → slice_get (chain_in s (side_at w q).records) i ≡ Some t
    → (g : Gateway) (z : SessionId) → z.gateway ≡ name_at st g → (n : ℕ) (previous : Link) (p : Part)
    → IsMessage (message_at z (name_at st (opposite g)) (n + 1) previous p) → t ≡ own st.key (message_at z (name_at st (opposite g)) (n + 1) previous p)
    → slice_get (chain_in z (side_at w (maker_side g (role_at (n + 1)))).records) n ≡ Some t
unfolding chain_place
chain-fact st w q role s h k i t d g z gate n previous p f e =
    let r = recipient_at (party_at st q) role in
    let my_text = ap (λ ts. slice_get ts i) (sym k.my_chain.chain) ∙ d in
    let short : length k.my_parts ≤ 11 = omega (arith, tale-short _ (tale-by role (view_in s (side_at w q).records) (view_in s (side_at w (opposite q)).records) _ _ k.stands), ap length k.my_chain.tale, length-map k.my_parts part_kind) in
    let m = message-of s r st.key k.my_parts i t short k.my_chain.formed my_text in
    let same = own_shows st.key st.key (message_at z (name_at st (opposite g)) (n + 1) previous p) (message_at s r (i + 1) m.previous m.part) f m.formed (sym e ∙ m.text) in
    let session : z ≡ s = ap (λ (x : Message). x.session) same in
    let place : n + 1 ≡ i + 1 = ap (λ (x : Message). chain_place x.body) same in
    let index : i ≡ n = omega (arith, place) in
    let gate' : s.gateway ≡ name_at st g = subst (λ x. x.gateway ≡ name_at st g) session gate in
    subst (λ x. slice_get (chain_in x (side_at w (maker_side g (role_at (n + 1)))).records) n ≡ Some t) (sym session)
    (subst (λ j. slice_get (chain_in s (side_at w (maker_side g (role_at (j + 1)))).records) j ≡ Some t) index (at gate'))
  where
    at : s.gateway ≡ name_at st g → slice_get (chain_in s (side_at w (maker_side g (role_at (i + 1)))).records) i ≡ Some t
    at gate' = elim (role-or (role_at (i + 1)) role) [
      | inl own_role ↦ subst (λ x. slice_get (chain_in s (side_at w x).records) i ≡ Some t) (sym (mine_is st q g role s h gate') ∙ sym (ap (maker_side g) own_role)) d
      | inr peer_role ↦ subst (λ x. slice_get (chain_in s (side_at w x).records) i ≡ Some t) (sym (peer_is st q g role s h gate') ∙ sym (ap (maker_side g) peer_role)) (ap (λ ts. slice_get ts i) k.peer_chain.chain ∙ maker-has s (recipient_at (party_at st q) role) st.key role k.my_parts k.peer_parts i t k.tied peer_role (ap (λ ts. slice_get ts i) (sym k.my_chain.chain) ∙ d))
    ]

-- the same, of a session that the side's records name
stands-at-maker : (st : Setting) (w : World) (k : WorldStands st w) (q : Gateway) (s : SessionId) (v : View) → view_in s (side_at w q).records ≡ Some v
    → (i : ℕ) (t : Text) → slice_get (chain_in s (side_at w q).records) i ≡ Some t
    → (g : Gateway) (z : SessionId) → z.gateway ≡ name_at st g → (n : ℕ) (previous : Link) (p : Part)
    → IsMessage (message_at z (name_at st (opposite g)) (n + 1) previous p) → t ≡ own st.key (message_at z (name_at st (opposite g)) (n + 1) previous p)
    → slice_get (chain_in z (side_at w (maker_side g (role_at (n + 1)))).records) n ≡ Some t
stands-at-maker st w k q s v e i t d = by_name q (k.named q s v e) d
  where
    by_name : (q : Gateway) → IsNamed st q s → slice_get (chain_in s (side_at w q).records) i ≡ Some t
        → (g : Gateway) (z : SessionId) → z.gateway ≡ name_at st g → (n : ℕ) (previous : Link) (p : Part)
        → IsMessage (message_at z (name_at st (opposite g)) (n + 1) previous p) → t ≡ own st.key (message_at z (name_at st (opposite g)) (n + 1) previous p)
        → slice_get (chain_in z (side_at w (maker_side g (role_at (n + 1)))).records) n ≡ Some t
    by_name q (inl h) d = chain-fact st w q Origin s h (k.pairs q s h) i t d
    by_name A (inr h) d = chain-fact st w A Recipient s h (flip-pair Origin s st.a st.key w.b w.a (k.pairs B s h)) i t d
    by_name B (inr h) d = chain-fact st w B Recipient s h (flip-pair Origin s st.b st.key w.a w.b (k.pairs A s h)) i t d

-- ---- the bag, with one text more

among-parts : (t u : Text) (us : List Text) → Among t (u ∷ us) → (t ≡ u) ⊎ Among t us
among-parts t _ us first = inl refl
among-parts t u us (later i) = inr i

among-drop : (n : ℕ) (ts : List Text) (t : Text) → Among t (drop n ts) → Among t ts
among-drop zero ts t i = i
among-drop (suc n) [] t i = i
among-drop (suc n) (u ∷ ts) t i = later (among-drop n ts t i)

among-get : (t : Text) (ts : List Text) → Among t ts → (i : ℕ) × (slice_get ts i ≡ Some t)
among-get t _ first = (zero, refl)
among-get t _ (later {ts = ts} i) = let (n, e) = among-get t ts i in (suc n, e)

-- what is said: a text of a chain of this side, or a recovery message whose entries are such texts
data Said (st : Setting) (w : World) (q : Gateway) (u : Text) : Type 0 where
  Chain_text : (s : SessionId) (v : View) (i : ℕ) → view_in s (side_at w q).records ≡ Some v → slice_get (chain_in s (side_at w q).records) i ≡ Some u → Said st w q u
  Other_text : (m : Message) → IsMessage m → u ≡ own st.key m → ((place : ℕ) (previous : Link) (p : Part) → m.body ≡ body.Chain place previous p → ⊥)
      → ((n : ℕ) (entries : List Text) → m.body ≡ body.Update n entries → (t : Text) → Among t entries → (s : SessionId) × (v : View) × (i : ℕ) × (view_in s (side_at w q).records ≡ Some v) × (slice_get (chain_in s (side_at w q).records) i ≡ Some t))
      → Said st w q u

entries_in : Body → List Text
entries_in (body.Update n entries) = entries
entries_in _ = []

said-of : (st : Setting) (w : World) (q : Gateway) (bag : List Text) (u : Text) → Sayable (party_at st q) (side_at w q).records bag u → Said st w q u
unfolding entries_in
said-of st w q bag _ (Own_text s v n t e d r) = Chain_text s v n e d
said-of st w q bag _ (Recovers s v e f) = Other_text _ f refl (λ place previous p x. cc x) (λ n entries x t i. absurd (cc x))
said-of st w q bag _ (Succeeds s v e f) = Other_text _ f refl (λ place previous p x. cc x) (λ n entries x t i. absurd (cc x))
said-of st w q bag _ (Updates s v c e l f) = Other_text _ f refl (λ place previous p x. cc x) (λ n entries x t i.
    let same : entries ≡ last_texts c (chain_in s (side_at w q).records) = sym (ap entries_in x) in
    let (j, d) = among-get t (chain_in s (side_at w q).records) (among-drop (length (chain_in s (side_at w q).records) - c) (chain_in s (side_at w q).records) t (subst (Among t) same i)) in
    (s, v, j, e, d))
said-of st w q bag _ (Knows_none m c l g e f a b d h) = Other_text _ h refl (λ place previous p x. cc x) (λ n entries x t i. absurd (nothing t (subst (Among t) (sym (ap entries_in x)) i)))
  where
    nothing : (t : Text) → Among t [] → ⊥
    nothing t i = elim i [ ]

-- a chain's message is none of recovery
chain_not_update : (st : Setting) (z : SessionId) (r : Name) (n : ℕ) (previous : Link) (p : Part) (m : Message) (c : ℕ) (entries : List Text) → message_at z r (n + 1) previous p ≡ m → m.body ≡ body.Update c entries → ⊥
chain_not_update st z r n previous p m c entries e x = let y = ap (λ (k : Message). k.body) e in cc (y, x)

-- a chain's text is no update
chain_update : (st : Setting) (w : World) (k : WorldStands st w) (q : Gateway) (s : SessionId) (v : View) → view_in s (side_at w q).records ≡ Some v → (i : ℕ) (u : Text) → slice_get (chain_in s (side_at w q).records) i ≡ Some u
    → (m : Message) (c : ℕ) (entries : List Text) → IsMessage m → u ≡ own st.key m → m.body ≡ body.Update c entries → ⊥
chain_update st w k q s v e i u d m c entries f x y = by_name q (k.named q s v e) d
  where
    by_pair : (q : Gateway) (role : Role) → PairStands role s (recipient_at (party_at st q) role) st.key (side_at w q) (side_at w (opposite q)) → slice_get (chain_in s (side_at w q).records) i ≡ Some u → ⊥
    by_pair q role k d =
        let short : length k.my_parts ≤ 11 = omega (arith, tale-short _ (tale-by role (view_in s (side_at w q).records) (view_in s (side_at w (opposite q)).records) _ _ k.stands), ap length k.my_chain.tale, length-map k.my_parts part_kind) in
        let h = message-of s (recipient_at (party_at st q) role) st.key k.my_parts i u short k.my_chain.formed (ap (λ ts. slice_get ts i) (sym k.my_chain.chain) ∙ d) in
        chain_not_update st s (recipient_at (party_at st q) role) i h.previous h.part m c entries (own_shows st.key st.key (message_at s (recipient_at (party_at st q) role) (i + 1) h.previous h.part) m h.formed f (sym h.text ∙ x)) y

    by_name : (q : Gateway) → IsNamed st q s → slice_get (chain_in s (side_at w q).records) i ≡ Some u → ⊥
    by_name q (inl h) d = by_pair q Origin (k.pairs q s h) d
    by_name A (inr h) d = by_pair A Recipient (flip-pair Origin s st.a st.key w.b w.a (k.pairs B s h)) d
    by_name B (inr h) d = by_pair B Recipient (flip-pair Origin s st.b st.key w.a w.b (k.pairs A s h)) d

bag-more : (st : Setting) (w : World) (k : WorldStands st w) (q : Gateway) (u : Text) → Said st w q u → BagStands st w (u ∷ w.bag)
unfolding entries_in
bag-more st w k q u said t (Alone a) g z gate n previous p f e = elim (among-parts t u w.bag a) [
  | inr b ↦ k.bag t (Alone b) g z gate n previous p f e
  | inl same ↦ alone said same
]
  where
    alone : Said st w q u → t ≡ u → slice_get (chain_in z (side_at w (maker_side g (role_at (n + 1)))).records) n ≡ Some t
    alone (Chain_text s v i x d) same = stands-at-maker st w k q s v x i t (d ∙ ap Some (sym same)) g z gate n previous p f e
    alone (Other_text m h x not es) same =
        let one = own_shows st.key st.key (message_at z (name_at st (opposite g)) (n + 1) previous p) m f h (sym e ∙ same ∙ x) in
        absurd (not (n + 1) previous p (sym (ap (λ (y : Message). y.body) one)))
bag-more st w k q u said t (Listed m c entries h a x i) g z gate n previous p f e = elim (among-parts (own st.key m) u w.bag a) [
  | inr b ↦ k.bag t (Listed m c entries h b x i) g z gate n previous p f e
  | inl same ↦ listed said same
]
  where
    listed : Said st w q u → own st.key m ≡ u → slice_get (chain_in z (side_at w (maker_side g (role_at (n + 1)))).records) n ≡ Some t
    listed (Other_text l j y not es) same =
        let one : m ≡ l = own_shows st.key st.key m l h j (same ∙ y) in
        let (s, v, r, o, d) = es c entries (ap (λ (y : Message). y.body) (sym one) ∙ x) t i in
        stands-at-maker st w k q s v o r t d g z gate n previous p f e
    listed (Chain_text s v j y d) same = absurd (chain_update st w k q s v y j u d m c entries h (sym same) x)

-- ---- every move, and every world that is reached

moved-bag : (st : Setting) (w : World) (k : WorldStands st w) (q : Gateway) (side : Side) (bag : List Text) → SideMoves (party_at st q) (side_at w q) w.bag side bag → BagStands st w bag
moved-bag st w k q _ _ (Moves (Appends x) m) = k.bag
moved-bag st w k q _ _ (Moves (Acts s op terms) m) = k.bag
moved-bag st w k q _ _ (Moves (Says u) m) = bag-more st w k q u (said-of st w q w.bag u m)
moved-bag st w k q _ _ Stops = k.bag

bag-of : (w : World) (q : Gateway) (side : Side) (bag : List Text) → (with_side w q side bag).bag ≡ bag
bag-of w A side bag = refl
bag-of w B side bag = refl

world-entries : (st : Setting) (w : World) (k : WorldStands st w) (q : Gateway) (side : Side) (bag : List Text) → SideMoves (party_at st q) (side_at w q) w.bag side bag → (g : Gateway) → EntriesStand (side_at (with_side w q side bag) g)
world-entries st w k A side bag m A = entries-kept (party_at st A) w.a w.bag side bag m (k.entries A)
world-entries st w k B side bag m B = entries-kept (party_at st B) w.b w.bag side bag m (k.entries B)
world-entries st w k A side bag m B = k.entries B
world-entries st w k B side bag m A = k.entries A

pub next-stands : (st : Setting) (w : World) (k : WorldStands st w) (q : Gateway) (side : Side) (bag : List Text) → SideMoves (party_at st q) (side_at w q) w.bag side bag → WorldStands st (with_side w q side bag)
next-stands st w k q side bag m = record {
  pairs = λ g s h. (pair-moved st w k g q s h side bag m).stands;
  named = world-named st w k q side bag m;
  entries = world-entries st w k q side bag m;
  bag = subst (BagStands st (with_side w q side bag)) (sym (bag-of w q side bag)) (λ t d g s gate n previous p f e. grows st w q side bag m (maker_side g (role_at (n + 1))) s n t (moved-bag st w k q side bag m t d g s gate n previous p f e));
}

pub entry-none : (a : Founding) (b : Founding) (g : Gateway) (s : SessionId) → entry_of (side_at (start a b) g).book.entries s ≡ Absent
entry-none a b A s = ap (λ o. option_map_or (λ (k : LedgerEntry). k.entry) o Absent) (get-empty session_cmp s)
entry-none a b B s = ap (λ o. option_map_or (λ (k : LedgerEntry). k.entry) o Absent) (get-empty session_cmp s)

start-half : (s : SessionId) (r : Name) (key : List ℕ) → HalfChain s r key [] []
unfolding texts_from
start-half s r key = record { chain = refl; tale = refl; formed = tt; headed = λ v h. absurd (cc h) }

no-entry : (a b : Founding) (g : Gateway) → EntriesStand (side_at (start a b) g)
no-entry a b A s k e = absurd (cc (sym (get-empty session_cmp s) ∙ e))
no-entry a b B s k e = absurd (cc (sym (get-empty session_cmp s) ∙ e))

pub start-stands : (st : Setting) (a b : Founding) → WorldStands st (start a b)
start-stands st a b = record {
  pairs = λ g s h. by_gateway g s;
  entries = no-entry a b;
  named = λ q s v h. none q s v h;
  bag = λ t d g s gate n previous p f e. absurd (empty t d);
}
  where
    by_gateway : (g : Gateway) (s : SessionId) → PairStands Origin s (name_at st (opposite g)) st.key (side_at (start a b) g) (side_at (start a b) (opposite g))
    by_gateway A s = record { stands = (entry-none a b A s, entry-none a b B s); my_parts = []; peer_parts = []; my_chain = start-half s st.b st.key; peer_chain = start-half s st.b st.key; tied = Same refl }
    by_gateway B s = record { stands = (entry-none a b B s, entry-none a b A s); my_parts = []; peer_parts = []; my_chain = start-half s st.a st.key; peer_chain = start-half s st.a st.key; tied = Same refl }

    none : (q : Gateway) (s : SessionId) (v : View) → view_in s (side_at (start a b) q).records ≡ Some v → IsNamed st q s
    none A s v h = absurd (cc h)
    none B s v h = absurd (cc h)

    empty : (t : Text) → Delivered st.key [] t → ⊥
    empty t (Alone i) = elim i [ ]
    empty t (Listed m n entries f i x j) = elim i [ ]

pub world-stands : (st : Setting) (a b : Founding) (w : World) → Reached st a b w → WorldStands st w
world-stands st a b _ Begins = start-stands st a b
world-stands st a b _ (Goes w v r (By q side bag m)) = next-stands st w (world-stands st a b w r) q side bag m

-- ---- what the law says of it

session-stands : (st : Setting) (w : World) (k : WorldStands st w) (g : Gateway) (s : SessionId) → s.gateway ≡ name_at st g → SessionStands (session_in w g s)
session-stands st w k g s h = (k.pairs g s h).stands

pub deal-goes-on : (st : Setting) (w : World) (k : WorldStands st w) (g : Gateway) (s : SessionId) → s.gateway ≡ name_at st g → (v : World) → WorldMoves st w v → DealGoesOn (session_in w g s) (session_in v g s)
deal-goes-on st w k g s h _ (By q side bag m) = (pair-moved st w k g q s h side bag m).deal

equal-chains : (s : SessionId) (r : Name) (key : List ℕ) (mine peer : Side) → PairStands Origin s r key mine peer → chain_in s mine.records ≡ chain_in s peer.records → tale_of (view_in s mine.records) ≡ tale_of (view_in s peer.records)
equal-chains s r key mine peer k e = by_tie k.tied
  where
    lengths : length k.my_parts ≡ length k.peer_parts
    lengths = sym (long s r key k.my_parts) ∙ sym (ap length k.my_chain.chain) ∙ ap length e ∙ ap length k.peer_chain.chain ∙ long s r key k.peer_parts

    by_tie : TiedParts Origin k.my_parts k.peer_parts → tale_of (view_in s mine.records) ≡ tale_of (view_in s peer.records)
    by_tie (Same p) = k.my_chain.tale ∙ ap (map part_kind) p ∙ sym k.peer_chain.tale
    by_tie (Mine_ahead p q x) = absurd (omega (arith, lengths, ap length x, length_push k.peer_parts p))
    by_tie (Peer_ahead p q x) = absurd (omega (arith, lengths, ap length x, length_push k.my_parts p))

-- texts are tied as their parts are
tied-texts : (s : SessionId) (r : Name) (key : List ℕ) (mine peer : List Part) → TiedParts Origin mine peer → TiedTexts (texts_of s r key mine) (texts_of s r key peer)
tied-texts s r key mine peer (Same e) = Same_texts (ap (texts_of s r key) e)
tied-texts s r key mine peer (Mine_ahead p x e) =
    let more = ap (texts_of s r key) e ∙ texts_appended s r key peer p in
    Origin_ahead _ (ap role_at (ap length more ∙ length_push (texts_of s r key peer) _ ∙ ap (λ n. n + 1) (long s r key peer)) ∙ x) more
tied-texts s r key mine peer (Peer_ahead p x e) =
    let more = ap (texts_of s r key) e ∙ texts_appended s r key mine p in
    Recipient_ahead _ (ap role_at (ap length more ∙ length_push (texts_of s r key mine) _ ∙ ap (λ n. n + 1) (long s r key mine)) ∙ x) more

tied-chains : (s : SessionId) (r : Name) (key : List ℕ) (mine peer : Side) → PairStands Origin s r key mine peer → TiedTexts (chain_in s mine.records) (chain_in s peer.records)
tied-chains s r key mine peer k =
    subst (λ ts. TiedTexts ts (chain_in s peer.records)) (sym k.my_chain.chain)
    (subst (TiedTexts (texts_of s r key k.my_parts)) (sym k.peer_chain.chain) (tied-texts s r key k.my_parts k.peer_parts k.tied))

-- the chain of a side whose records name the session
chain-by : (st : Setting) (w : World) (q : Gateway) (role : Role) (s : SessionId) (v : View) → view_in s (side_at w q).records ≡ Some v → PairStands role s (recipient_at (party_at st q) role) st.key (side_at w q) (side_at w (opposite q)) → IsChainOf s (recipient_at (party_at st q) v.role) st.key v (chain_in s (side_at w q).records)
chain-by st w q role s v e k =
    let (rest, head) = k.my_chain.headed v e in
    let tale : v.tale ≡ map part_kind k.my_parts = sym (ap tale_of e) ∙ k.my_chain.tale in
    let is = tale-by role (view_in s (side_at w q).records) (view_in s (side_at w (opposite q)).records) _ _ k.stands in
    subst (λ x. IsChainOf s (recipient_at (party_at st q) x) st.key v (chain_in s (side_at w q).records)) (sym (role-is role (view_in s (side_at w q).records) (view_in s (side_at w (opposite q)).records) v _ _ e k.stands))
    (record {
      rest = rest;
      chain = record {
        tale = subst IsTale (k.my_chain.tale ∙ ap (map part_kind) head) is;
        formed = subst (AllByRecursion IsPart) head k.my_chain.formed;
        each = k.my_chain.chain ∙ ap (texts_of s (recipient_at (party_at st q) role) st.key) head;
      };
      kinds = ap (map part_kind) (sym head) ∙ sym tale;
    })

chain-is : (st : Setting) (w : World) (k : WorldStands st w) (q : Gateway) (s : SessionId) (v : View) → view_in s (side_at w q).records ≡ Some v → IsChainOf s (recipient_at (party_at st q) v.role) st.key v (chain_in s (side_at w q).records)
chain-is st w k q s v e = by_name q (k.named q s v e) e
  where
    by_name : (q : Gateway) → IsNamed st q s → view_in s (side_at w q).records ≡ Some v → IsChainOf s (recipient_at (party_at st q) v.role) st.key v (chain_in s (side_at w q).records)
    by_name q (inl h) e = chain-by st w q Origin s v e (k.pairs q s h)
    by_name A (inr h) e = chain-by st w A Recipient s v e (flip-pair Origin s st.a st.key w.b w.a (k.pairs B s h))
    by_name B (inr h) e = chain-by st w B Recipient s v e (flip-pair Origin s st.b st.key w.a w.b (k.pairs A s h))

settled-at : (st : Setting) (w : World) (k : WorldStands st w) (g : Gateway) (s : SessionId) → s.gateway ≡ name_at st g → chain_in s (side_at w g).records ≡ chain_in s (side_at w (opposite g)).records → is_whole (tale_of (session_in w g s).a) ≡ true → IsSettledAt w g s
settled-at st w k g s h e whole =
    let same = equal-chains s (name_at st (opposite g)) st.key (side_at w g) (side_at w (opposite g)) (k.pairs g s h) e in
    (e, (same, whole), (safe-of (session_in w g s) (session-stands st w k g s h)).settled (same, whole))

pub law_safety : LawSafety
law_safety st a b w r =
    let k = world-stands st a b w r in
    record {
      named = k.named;
      stands = session-stands st w k;
      tied = λ g s h. tied-chains s (name_at st (opposite g)) st.key (side_at w g) (side_at w (opposite g)) (k.pairs g s h);
      chains = chain-is st w k;
      bag = k.bag;
      entries = k.entries;
      safe = λ g s h. safe-of (session_in w g s) (session-stands st w k g s h);
      settled = settled-at st w k;
      read_off = read-off st a b (λ w r. session-stands st w (world-stands st a b w r)) w r;
      goes_on = deal-goes-on st w k;
    }
