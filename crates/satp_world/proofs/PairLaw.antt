-- One session on two sides, each seen as the mover: what a move makes of it.
use Rattle.std.proofs.Common.{◌≡◌, ℕ, ◌+◌, ◌≤◌, false, List, [], ◌∷◌, ◌++◌, map, length, Option, Some, None, refl, sym, ap, subst, ◌∙◌, arith, inl, inr}
use Rattle.std.specs.Prelude.{slice_get}
use Rattle.std.proofs.lemmas.List.{length_push, length-map, map-append}
use Rattle.satp_base.specs.declared.name.Name.{Name}
use Rattle.satp_base.specs.declared.session.SessionId.{SessionId}
use Rattle.satp_base.specs.declared.message.Kind.{Kind}
use Rattle.satp_base.specs.declared.message.Role.{Role}
use Rattle.satp_base.specs.declared.message.Role.TheVariants.{Origin, Recipient}
use Rattle.satp_base.specs.declared.message.Terms.{Terms}
use Rattle.satp_base.specs.declared.message.Part.{Part}
use Rattle.satp_base.specs.declared.message.Part.TheVariants.{Proposal}
use Rattle.satp_base.specs.declared.ledger.LedgerOp.{LedgerOp}
use Rattle.satp_base.specs.declared.ledger.Entry.{Entry}
use Rattle.satp_base.specs.declared.ledger.Answer.{Answer}
use Rattle.satp_base.specs.declared.record.Rec.{Rec}
use Rattle.satp_base.specs.declared.record.Rec.TheVariants.{Began, Took, Made}
use Rattle.satp_base.specs.declared.record.Next.TheVariants.{Act}
use Rattle.satp_base.specs.declared.view.View.{View}
use Rattle.satp_base.specs.Canonical.{part_kind}
use Rattle.satp_base.specs.Forms.{IsMessage, IsPart}
use Rattle.satp_base.specs.Money.{Book}
use Rattle.satp_base.specs.LedgerRule.{LedgerRule, entry_of}
use Rattle.satp_base.specs.Chains.{last_link, message_at, next_text, role_at, texts_from, texts_of}
use Rattle.satp_base.specs.Tales.{IsTale, other}
use Rattle.satp_base.specs.Views.{begin, push}
use Rattle.satp_base.specs.Roles.{RoleRule, next_of}
use Rattle.satp_base.proofs.TaleTable.{tale-short}
use Rattle.satp_sides.specs.Halves.{Half, half}
use Rattle.satp_world.specs.Sessions.{Moves, Tied, Session, SessionMoves, SessionStands, deal_of}
use Rattle.satp_world.specs.Sessions.Tied.{Same as Same_tales, Origin_ahead, Recipient_ahead}
use Rattle.satp_world.specs.Sessions.Moves.{Takes, Acts}
use Rattle.satp_world.specs.Sessions.SessionMoves.{Proposes, Accepts, Origin_moves, Recipient_moves}
use Rattle.satp_world.specs.Worlds.{DealGoesOn}
use Rattle.satp_sides.proofs.Records.{session-self, view-here, view-first, view-none, view-apart}
use Rattle.satp_sides.proofs.Rules.{made-rule, took-rule}
use Rattle.satp_world.proofs.RuleMoves.{agrees-by, note-moves, made-moves, entry-apart}
use Rattle.satp_base.proofs.Places.{maker-at}
use Rattle.satp_sides.specs.Logs.{IsNote}
use Rattle.satp_sides.specs.Moves.{LedgerFits}
use Rattle.satp_sides.specs.Points.{tale_of, Side, chain_in, is_session, records_of, view_in, with_record}
use Rattle.satp_sides.proofs.Chained.{long, next-formed}
use Rattle.satp_world.specs.Standing.{PairStands, TiedParts, entry_at, session_by, session_of}
use Rattle.satp_world.proofs.Tied.{flip-tied, taken}
use Rattle.satp_world.specs.Standing.TiedParts.{Same, Mine_ahead, Peer_ahead}
use Rattle.satp_sides.proofs.Growth.{half-more, half-noted, half-first, half-apart}
use Rattle.satp_sides.proofs.Growth.Carries.{As_taken, As_made}
use Rattle.satp_world.proofs.SessionLaw.{law_step}

-- what stands behind a move, and the deal
pub record PairMoved (role : Role) (s : SessionId) (recipient : Name) (key : List ℕ) (mine new peer : Side) : Type 0 where
  pub stands : PairStands role s recipient key new peer
  pub deal : DealGoesOn (session_of role s mine peer) (session_of role s new peer)

-- a move of a side whose records name the session
move-by : (role : Role) (v : View) (w : Option View) (e f : Entry) (new : Half) → Moves role (half v e) (tale_of w) new → SessionMoves (session_by role (Some v) w e f) role (session_by role (Some new.view) w new.entry f)
move-by Origin v w e f new m = Origin_moves v new refl m
move-by Recipient v w e f new m = Recipient_moves v new refl m

record Lawful (role : Role) (v' : Option View) (w : Option View) (e' f : Entry) (old : Session) : Type 0 where
  stands : SessionStands (session_by role v' w e' f)
  deal : DealGoesOn old (session_by role v' w e' f)

-- the session's law, for the views as they stand
by-law : (role : Role) (o : Option View) (v : View) (w : Option View) (e f : Entry) (new : Half) → o ≡ Some v → SessionStands (session_by role o w e f) → Moves role (half v e) (tale_of w) new → Lawful role (Some new.view) w new.entry f (session_by role o w e f)
by-law role o v w e f new q k m =
    let law = law_step (session_by role (Some v) w e f) (session_by role (Some new.view) w new.entry f) role (subst (λ x. SessionStands (session_by role x w e f)) q k) (move-by role v w e f new m) in
    subst (λ x. Lawful role (Some new.view) w new.entry f (session_by role x w e f)) (sym q) (record { stands = law.0; deal = inr (role, law.1) })

-- whose view it is
pub role-is : (role : Role) (o w : Option View) (v : View) (e f : Entry) → o ≡ Some v → SessionStands (session_by role o w e f) → v.role ≡ role
role-is role None w v e f q k = absurd (cc q)
role-is Origin (Some u) None v e f q k = ap (λ (x : View). x.role) (some_is v u (sym q)) ∙ k.2
  where
    some_is : (a b : View) → Some a ≡ Some b → a ≡ b
    some_is a b h = cc h
role-is Origin (Some u) (Some x) v e f q k = ap (λ (x : View). x.role) (some_is v u (sym q)) ∙ k.roles.0
  where
    some_is : (a b : View) → Some a ≡ Some b → a ≡ b
    some_is a b h = cc h
role-is Recipient (Some u) None v e f q k = absurd k
role-is Recipient (Some u) (Some x) v e f q k = ap (λ (x : View). x.role) (some_is v u (sym q)) ∙ k.roles.1
  where
    some_is : (a b : View) → Some a ≡ Some b → a ≡ b
    some_is a b h = cc h

-- its kinds are a tale
tale-is : (role : Role) (o w : Option View) (v : View) (e f : Entry) → o ≡ Some v → SessionStands (session_by role o w e f) → IsTale v.tale
tale-is role None w v e f q k = absurd (cc q)
tale-is Origin (Some u) None v e f q k = subst (λ x. IsTale x) (ap tale_of q) k.0.tale
tale-is Origin (Some u) (Some x) v e f q k = subst (λ x. IsTale x) (ap tale_of q) k.origin.tale
tale-is Recipient (Some u) None v e f q k = absurd k
tale-is Recipient (Some u) (Some x) v e f q k = subst (λ x. IsTale x) (ap tale_of q) k.recipient.tale

-- a side's tale is longer than its peer's by one at most
tied-close : (a b : List Kind) → Tied a b → (length a ≤ length b + 1) × (length b ≤ length a + 1)
tied-close a b (Same_tales e) = (omega (arith, ap length e), omega (arith, ap length e))
tied-close a b (Origin_ahead k m e) = (omega (arith, ap length e, length_push b k), omega (arith, ap length e, length_push b k))
tied-close a b (Recipient_ahead k m e) = (omega (arith, ap length e, length_push a k), omega (arith, ap length e, length_push a k))

close : (role : Role) (v : View) (w : Option View) (e f : Entry) → SessionStands (session_by role (Some v) w e f) → length v.tale ≤ length (tale_of w) + 1
close Origin v None e f k = omega (arith, ap length k.1)
close Origin v (Some w) e f k = (tied-close v.tale w.tale k.tied).0
close Recipient v None e f k = absurd k
close Recipient v (Some w) e f k = (tied-close w.tale v.tale k.tied).1

not_other : (role : Role) → role ≡ other role → ⊥
not_other Origin h = cc h
not_other Recipient h = cc h

some_role : (a b : Role) → Some a ≡ Some b → a ≡ b
some_role a b e = cc e

pub no-parts : (parts : List Part) → [] ≡ map part_kind parts → parts ≡ []
no-parts [] e = refl
no-parts (p ∷ parts) e = absurd (cc e)

module _ (role : Role) (s : SessionId) (recipient : Name) (key : List ℕ) (mine peer : Side) (k : PairStands role s recipient key mine peer) where
  abbrev my_view : Option View
  my_view = view_in s mine.records

  abbrev peer_view : Option View
  peer_view = view_in s peer.records

  -- a note
  pub noted : (v : View) (r : Rec) → my_view ≡ Some v → RoleRule role v r → IsNote r → LedgerFits mine.book s v.terms r → PairMoved role s recipient key mine (with_record mine s r []) peer
  noted v r q rule n l =
      let law = by-law role my_view v peer_view (entry_at s mine) (entry_at s peer) (record { view = push v r; entry = entry_at s mine }) q k.stands (note-moves role v mine.book s (tale_of peer_view) r rule n l) in
      let view = view-here s mine.records (record { session = s; rec = r; text = [] }) v (session-self s) q in
      record {
        stands = record {
          stands = subst (λ o. SessionStands (session_by role o peer_view (entry_at s mine) (entry_at s peer))) (sym view) law.stands;
          my_parts = k.my_parts;
          peer_parts = k.peer_parts;
          my_chain = half-noted s recipient key mine.records k.my_parts v r [] k.my_chain q n;
          peer_chain = k.peer_chain;
          tied = k.tied;
        };
        deal = subst (λ o. DealGoesOn (session_of role s mine peer) (session_by role o peer_view (entry_at s mine) (entry_at s peer))) (sym view) law.deal;
      }

  -- an operation of its ledger
  pub acted : (v : View) (op : LedgerOp) (answer : Answer) (book : Book) → my_view ≡ Some v → next_of role v ≡ Act op → LedgerRule mine.book op s v.terms answer book → PairMoved role s recipient key mine (record { records = mine.records; book = book }) peer
  acted v op answer book q due rule =
      let law = by-law role my_view v peer_view (entry_at s mine) (entry_at s peer) (record { view = v; entry = entry_of book.entries s }) q k.stands (Acts op answer (entry_of book.entries s) due (agrees-by mine.book op s v.terms answer book rule)) in
      record {
        stands = record {
          stands = subst (λ o. SessionStands (session_by role o peer_view (entry_of book.entries s) (entry_at s peer))) (sym q) law.stands;
          my_parts = k.my_parts;
          peer_parts = k.peer_parts;
          my_chain = record { chain = k.my_chain.chain; tale = k.my_chain.tale; formed = k.my_chain.formed; headed = k.my_chain.headed };
          peer_chain = k.peer_chain;
          tied = k.tied;
        };
        deal = subst (λ o. DealGoesOn (session_of role s mine peer) (session_by role o peer_view (entry_of book.entries s) (entry_at s peer))) (sym q) law.deal;
      }

  -- the message that the peer has made and this side hasn't
  pub took : (v : View) (p : Part) → my_view ≡ Some v → RoleRule role v (Took (part_kind p)) → IsPart p
      → slice_get (chain_in s peer.records) (length k.my_parts) ≡ Some (next_text s recipient key (chain_in s mine.records) p)
      → PairMoved role s recipient key mine (with_record mine s (Took (part_kind p)) (next_text s recipient key (chain_in s mine.records) p)) peer
  took v p q rule f d =
      let (made, tale) = took-rule role v (part_kind p) rule in
      let my_tale : v.tale ≡ map part_kind k.my_parts = sym (ap tale_of q) ∙ k.my_chain.tale in
      let short = tale-short (v.tale ++ part_kind p ∷ []) tale in
      let room : length k.my_parts + 1 ≤ 11 = omega (arith, short, length_push v.tale (part_kind p), ap length my_tale, length-map k.my_parts part_kind) in
      let here = subst (λ ts. slice_get ts (length k.my_parts) ≡ Some (next_text s recipient key (texts_of s recipient key k.my_parts) p)) k.peer_chain.chain (subst (λ ts. slice_get (chain_in s peer.records) (length k.my_parts) ≡ Some (next_text s recipient key ts p)) k.my_chain.chain d) in
      let ahead = taken s recipient key role k.my_parts k.peer_parts p k.tied f k.peer_chain.formed room here in
      let kinds : v.tale ++ part_kind p ∷ [] ≡ tale_of peer_view = ap (λ t. t ++ part_kind p ∷ []) my_tale ∙ sym (map-append part_kind k.my_parts (p ∷ [])) ∙ ap (map part_kind) (sym ahead) ∙ sym k.peer_chain.tale in
      let law = by-law role my_view v peer_view (entry_at s mine) (entry_at s peer) (record { view = push v (Took (part_kind p)); entry = entry_at s mine }) q k.stands (Takes (part_kind p) kinds made) in
      let text = next_text s recipient key (chain_in s mine.records) p in
      let view = view-here s mine.records (record { session = s; rec = Took (part_kind p); text = text }) v (session-self s) q in
      record {
        stands = record {
          stands = subst (λ o. SessionStands (session_by role o peer_view (entry_at s mine) (entry_at s peer))) (sym view) law.stands;
          my_parts = k.my_parts ++ p ∷ [];
          peer_parts = k.peer_parts;
          my_chain = half-more s recipient key mine.records k.my_parts v p (Took (part_kind p)) k.my_chain q f As_taken;
          peer_chain = k.peer_chain;
          tied = Same (sym ahead);
        };
        deal = subst (λ o. DealGoesOn (session_of role s mine peer) (session_by role o peer_view (entry_at s mine) (entry_at s peer))) (sym view) law.deal;
      }

  -- where the peer made the text, if the text is its, it stands in the peer's chain
  abbrev pub Arrives : Part → Type 0
  Arrives p =
      IsMessage (message_at s recipient (length (chain_in s mine.records) + 1) (last_link (chain_in s mine.records)) p) → role_at (length (chain_in s mine.records) + 1) ≡ other role
      → slice_get (chain_in s peer.records) (length (chain_in s mine.records)) ≡ Some (next_text s recipient key (chain_in s mine.records) p)

  pub took-by : (v : View) (p : Part) → my_view ≡ Some v → RoleRule role v (Took (part_kind p)) → IsPart p → Arrives p
      → PairMoved role s recipient key mine (with_record mine s (Took (part_kind p)) (next_text s recipient key (chain_in s mine.records) p)) peer
  took-by v p q rule f arrives =
      let (made, tale) = took-rule role v (part_kind p) rule in
      let my_length : length v.tale ≡ length k.my_parts = ap length (sym (ap tale_of q) ∙ k.my_chain.tale) ∙ length-map k.my_parts part_kind in
      let short = tale-short (v.tale ++ part_kind p ∷ []) tale in
      let room : length k.my_parts + 1 ≤ 11 = omega (arith, short, length_push v.tale (part_kind p), my_length) in
      let index : length (chain_in s mine.records) ≡ length k.my_parts = ap length k.my_chain.chain ∙ long s recipient key k.my_parts in
      let formed = subst (λ ts. IsMessage (message_at s recipient (length ts + 1) (last_link ts) p)) (sym k.my_chain.chain) (next-formed s recipient key k.my_parts p room f) in
      let at = maker-at v.tale (part_kind p) (tale-is role my_view peer_view v (entry_at s mine) (entry_at s peer) q k.stands) tale in
      let place : role_at (length (chain_in s mine.records) + 1) ≡ other role = ap (λ n. role_at (n + 1)) (index ∙ sym my_length) ∙ some_role _ _ (sym at ∙ made) in
      took v p q rule f (subst (λ n. slice_get (chain_in s peer.records) n ≡ Some (next_text s recipient key (chain_in s mine.records) p)) index (arrives formed place))

  -- its own next message
  pub made : (v : View) (p : Part) → my_view ≡ Some v → RoleRule role v (Made (part_kind p)) → IsPart p
      → PairMoved role s recipient key mine (with_record mine s (Made (part_kind p)) (next_text s recipient key (chain_in s mine.records) p)) peer
  made v p q rule f =
      let text = next_text s recipient key (chain_in s mine.records) p in
      let law = by-law role my_view v peer_view (entry_at s mine) (entry_at s peer) (record { view = push v (Made (part_kind p)); entry = entry_at s mine }) q k.stands (made-moves role v (entry_at s mine) (tale_of peer_view) (part_kind p) rule) in
      let view = view-here s mine.records (record { session = s; rec = Made (part_kind p); text = text }) v (session-self s) q in
      let longer = tale-is role (Some (push v (Made (part_kind p)))) peer_view (push v (Made (part_kind p))) (entry_at s mine) (entry_at s peer) refl law.stands in
      let at = maker-at v.tale (part_kind p) (tale-is role my_view peer_view v (entry_at s mine) (entry_at s peer) q k.stands) longer in
      let my_length : length v.tale ≡ length k.my_parts = ap length (sym (ap tale_of q) ∙ k.my_chain.tale) ∙ length-map k.my_parts part_kind in
      let place : role_at (length k.my_parts + 1) ≡ role = ap (λ n. role_at (n + 1)) (sym my_length) ∙ some_role _ _ (sym at ∙ made-rule role v (part_kind p) rule) in
      let near = close role (push v (Made (part_kind p))) peer_view (entry_at s mine) (entry_at s peer) law.stands in
      record {
        stands = record {
          stands = subst (λ o. SessionStands (session_by role o peer_view (entry_at s mine) (entry_at s peer))) (sym view) law.stands;
          my_parts = k.my_parts ++ p ∷ [];
          peer_parts = k.peer_parts;
          my_chain = half-more s recipient key mine.records k.my_parts v p (Made (part_kind p)) k.my_chain q f As_made;
          peer_chain = k.peer_chain;
          tied = grows k.my_parts k.peer_parts p k.tied place (omega (arith, near, length_push v.tale (part_kind p), my_length, ap length k.peer_chain.tale, length-map k.peer_parts part_kind));
        };
        deal = subst (λ o. DealGoesOn (session_of role s mine peer) (session_by role o peer_view (entry_at s mine) (entry_at s peer))) (sym view) law.deal;
      }
    where
      grows : (ps qs : List Part) (p : Part) → TiedParts role ps qs → role_at (length ps + 1) ≡ role → length ps + 1 ≤ length qs + 1 → TiedParts role (ps ++ p ∷ []) qs
      grows ps qs p (Same e) r n = Mine_ahead p (ap (λ x. role_at (length x + 1)) (sym e) ∙ r) (ap (λ x. x ++ p ∷ []) e)
      grows ps qs p (Mine_ahead q x e) r n = absurd (omega (arith, n, ap length e, length_push qs q))
      grows ps qs p (Peer_ahead q x e) r n = absurd (not_other role (sym r ∙ x))

  -- a record of another session
  pub apart : (t : SessionId) (r : Rec) (text : List ℕ) → is_session s t ≡ false → PairMoved role s recipient key mine (with_record mine t r text) peer
  apart t r text n =
      let view = view-apart s mine.records (record { session = t; rec = r; text = text }) n in
      record {
        stands = record {
          stands = subst (λ o. SessionStands (session_by role o peer_view (entry_at s mine) (entry_at s peer))) (sym view) k.stands;
          my_parts = k.my_parts;
          peer_parts = k.peer_parts;
          my_chain = half-apart s t recipient key mine.records k.my_parts r text n k.my_chain;
          peer_chain = k.peer_chain;
          tied = k.tied;
        };
        deal = inl (ap (λ o. deal_of (session_by role o peer_view (entry_at s mine) (entry_at s peer))) view);
      }

  -- an operation on another session
  pub acted-apart : (t : SessionId) (op : LedgerOp) (terms : Terms) (answer : Answer) (book : Book) → is_session s t ≡ false → LedgerRule mine.book op t terms answer book → PairMoved role s recipient key mine (record { records = mine.records; book = book }) peer
  acted-apart t op terms answer book n rule =
      let entry = entry-apart mine.book op t terms answer book s n rule in
      record {
        stands = record {
          stands = subst (λ e. SessionStands (session_by role my_view peer_view e (entry_at s peer))) (sym entry) k.stands;
          my_parts = k.my_parts;
          peer_parts = k.peer_parts;
          my_chain = record { chain = k.my_chain.chain; tale = k.my_chain.tale; formed = k.my_chain.formed; headed = k.my_chain.headed };
          peer_chain = k.peer_chain;
          tied = k.tied;
        };
        deal = inl (ap (λ e. deal_of (session_by role my_view peer_view e (entry_at s peer))) entry);
      }

  pub unmoved : PairMoved role s recipient key mine mine peer
  unmoved = record { stands = k; deal = inl refl }

-- ---- the first record of a session

first_peer : (o w : Option View) (e f : Entry) → o ≡ None → SessionStands (session_by Origin o w e f) → w ≡ None
first_peer None None e f q k = refl
first_peer None (Some w) e f q k = absurd k
first_peer (Some v) w e f q k = absurd (cc q)

first_law : (o w : Option View) (e f : Entry) (terms : Terms) → o ≡ None → SessionStands (session_by Origin o w e f) → Lawful Origin (Some (begin Origin terms)) w e f (session_by Origin o w e f)
first_law o w e f terms q k =
    let law = law_step (session_by Origin None w e f) (session_by Origin (Some (begin Origin terms)) w e f) Origin (subst (λ x. SessionStands (session_by Origin x w e f)) q k) (Proposes terms refl) in
    subst (λ x. Lawful Origin (Some (begin Origin terms)) w e f (session_by Origin x w e f)) (sym q) (record { stands = law.0; deal = inr (Origin, law.1) })

-- the origin begins it
pub proposed : (s : SessionId) (recipient : Name) (key : List ℕ) (mine peer : Side) (terms : Terms) → PairStands Origin s recipient key mine peer → records_of s mine.records ≡ []
    → PairMoved Origin s recipient key mine (with_record mine s (Began Origin terms) (next_text s recipient key [] (Proposal terms))) peer
proposed s recipient key mine peer terms k q =
    let text = next_text s recipient key [] (Proposal terms) in
    let none = view-none s mine.records q in
    let law = first_law (view_in s mine.records) (view_in s peer.records) (entry_at s mine) (entry_at s peer) terms none k.stands in
    let view = view-first s mine.records (record { session = s; rec = Began Origin terms; text = text }) (session-self s) q in
    let nothing = no-parts k.peer_parts (sym (ap tale_of (first_peer (view_in s mine.records) (view_in s peer.records) (entry_at s mine) (entry_at s peer) none k.stands)) ∙ k.peer_chain.tale) in
    record {
      stands = record {
        stands = subst (λ o. SessionStands (session_by Origin o (view_in s peer.records) (entry_at s mine) (entry_at s peer))) (sym view) law.stands;
        my_parts = Proposal terms ∷ [];
        peer_parts = k.peer_parts;
        my_chain = half-first s recipient key mine.records Origin terms q;
        peer_chain = k.peer_chain;
        tied = Mine_ahead (Proposal terms) (ap (λ (ps : List Part). role_at (length ps + 1)) nothing) (ap (λ (ps : List Part). ps ++ Proposal terms ∷ []) (sym nothing));
      };
      deal = subst (λ o. DealGoesOn (session_of Origin s mine peer) (session_by Origin o (view_in s peer.records) (entry_at s mine) (entry_at s peer))) (sym view) law.deal;
    }

same_terms : (a b : Terms) (rest : List Part) → Proposal a ∷ [] ≡ Proposal b ∷ rest → a ≡ b
same_terms a b rest e = cc e

accept_law : (o w : Option View) (e f : Entry) (u : View) → o ≡ None → w ≡ Some u → SessionStands (session_by Recipient o w e f) → Lawful Recipient (Some (begin Recipient u.terms)) w e f (session_by Recipient o w e f)
accept_law o w e f u p q k =
    let law = law_step (session_by Recipient None w e f) (session_by Recipient (Some (begin Recipient u.terms)) w e f) Recipient (subst (λ x. SessionStands (session_by Recipient x w e f)) p k) (Accepts u q refl) in
    subst (λ x. Lawful Recipient (Some (begin Recipient u.terms)) w e f (session_by Recipient x w e f)) (sym p) (record { stands = law.0; deal = inr (Recipient, law.1) })

-- the recipient takes the proposal
pub accepted : (s : SessionId) (recipient : Name) (key : List ℕ) (mine peer : Side) (terms : Terms) → PairStands Recipient s recipient key mine peer → records_of s mine.records ≡ []
    → slice_get (chain_in s peer.records) 0 ≡ Some (next_text s recipient key [] (Proposal terms))
    → PairMoved Recipient s recipient key mine (with_record mine s (Began Recipient terms) (next_text s recipient key [] (Proposal terms))) peer
unfolding texts_from
accepted s recipient key mine peer terms k q d = by_peer (view_in s peer.records) refl
  where
    text : List ℕ
    text = next_text s recipient key [] (Proposal terms)

    none : view_in s mine.records ≡ None
    none = view-none s mine.records q

    nothing : k.my_parts ≡ []
    nothing = no-parts k.my_parts (sym (ap tale_of none) ∙ k.my_chain.tale)

    ahead : k.peer_parts ≡ Proposal terms ∷ []
    ahead = taken s recipient key Recipient [] k.peer_parts (Proposal terms) (subst (λ ps. TiedParts Recipient ps k.peer_parts) nothing k.tied) tt k.peer_chain.formed (omega arith) (subst (λ ts. slice_get ts 0 ≡ Some (next_text s recipient key [] (Proposal terms))) k.peer_chain.chain d)

    by_peer : (w : Option View) → view_in s peer.records ≡ w → PairMoved Recipient s recipient key mine (with_record mine s (Began Recipient terms) (next_text s recipient key [] (Proposal terms))) peer
    by_peer None e = let empty = no-parts k.peer_parts (sym (ap tale_of e) ∙ k.peer_chain.tale) in absurd (cc (empty, ahead))
    by_peer (Some u) e =
        let (rest, head) = k.peer_chain.headed u e in
        let same : terms ≡ u.terms = same_terms terms u.terms rest (sym ahead ∙ head) in
        let law = accept_law (view_in s mine.records) (view_in s peer.records) (entry_at s mine) (entry_at s peer) u none e k.stands in
        let view = view-first s mine.records (record { session = s; rec = Began Recipient terms; text = next_text s recipient key [] (Proposal terms) }) (session-self s) q ∙ ap (λ (t : Terms). Some (begin Recipient t)) same in
        record {
          stands = record {
            stands = subst (λ o. SessionStands (session_by Recipient o (view_in s peer.records) (entry_at s mine) (entry_at s peer))) (sym view) law.stands;
            my_parts = Proposal terms ∷ [];
            peer_parts = k.peer_parts;
            my_chain = half-first s recipient key mine.records Recipient terms q;
            peer_chain = k.peer_chain;
            tied = Same (sym ahead);
          };
          deal = subst (λ o. DealGoesOn (session_of Recipient s mine peer) (session_by Recipient o (view_in s peer.records) (entry_at s mine) (entry_at s peer))) (sym view) law.deal;
        }

-- the same session, seen from the other side
pub flip-pair : (role : Role) (s : SessionId) (recipient : Name) (key : List ℕ) (mine peer : Side) → PairStands role s recipient key mine peer → PairStands (other role) s recipient key peer mine
flip-pair Origin s recipient key mine peer k = record { stands = k.stands; my_parts = k.peer_parts; peer_parts = k.my_parts; my_chain = k.peer_chain; peer_chain = k.my_chain; tied = flip-tied Origin k.my_parts k.peer_parts k.tied }
flip-pair Recipient s recipient key mine peer k = record { stands = k.stands; my_parts = k.peer_parts; peer_parts = k.my_parts; my_chain = k.peer_chain; peer_chain = k.my_chain; tied = flip-tied Recipient k.my_parts k.peer_parts k.tied }
