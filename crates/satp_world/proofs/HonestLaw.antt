-- An honest message of a chain is taken, and a recovery message is refused for its age alone.
use Rattle.std.proofs.Common.{◌≡◌, inl, inr, ℕ, suc, ◌+◌, Bool, true, false, not, List, [], ◌∷◌, ◌++◌, map, length, Option, Some, None, refl, sym, ap, subst, ◌∙◌, arith, if◌then◌else◌}
use Rattle.std.specs.Prelude.{nat_le, nat_lt, slice_get}
use Rattle.std.specs.Str.{bytes_eq}
use Rattle.std.specs.List.{AllByRecursion}
use Rattle.std.proofs.lemmas.Bool.{le-leb, le-ltb}
use Rattle.std.proofs.lemmas.Cmp.{nat_list_eq_equiv}
use Rattle.std.proofs.lemmas.List.{length-map, length_push, map-append}
use Rattle.satp_base.specs.Canonical.{part_kind}
use Rattle.satp_base.specs.Chains.{last_link, link_at, message_at, next_text, texts_of}
use Rattle.satp_base.specs.Forms.{IsMessage, IsPart}
use Rattle.satp_base.specs.Founding.{Founding}
use Rattle.satp_base.specs.Signatures.{own}
use Rattle.satp_base.specs.Tales.{IsTale}
use Rattle.satp_base.specs.Values.{name_text}
use Rattle.satp_base.specs.Verdicts.{ChainState, extends, is_settled, maker_at, same_link, same_name, text_at, verdict_on}
use Rattle.satp_base.specs.declared.ledger.Entry.{Entry}
use Rattle.satp_base.specs.declared.message.Link.{Link}
use Rattle.satp_base.specs.declared.message.Message.{Message}
use Rattle.satp_base.specs.declared.message.Part.{Part}
use Rattle.satp_base.specs.declared.message.Role.{Role}
use Rattle.satp_base.specs.declared.message.Role.TheVariants.{Origin, Recipient}
use Rattle.satp_base.specs.declared.name.Name.{Name}
use Rattle.satp_base.specs.declared.session.SessionId.{SessionId}
use Rattle.satp_base.specs.declared.verdict.Verdict.TheVariants as verdict
use Rattle.satp_base.specs.declared.view.View.{View}
use Rattle.satp_base.proofs.ChainLemmas.{texts_appended}
use Rattle.satp_base.proofs.SignatureLemmas.{own_shows}
use Rattle.satp_base.proofs.TaleTable.{tale-short}
use Rattle.satp_base.proofs.VerdictLemmas.{next_follows}
use Rattle.satp_sides.specs.Calls.{chain_of, unfit, verdict_in}
use Rattle.satp_sides.specs.LogLaws.{IsOfRole}
use Rattle.satp_sides.specs.Moves.{Delivered}
use Rattle.satp_sides.specs.Points.{Side, Slot, Text, chain_in, recipient_at, slot_in, tale_of, view_in}
use Rattle.satp_sides.proofs.Chained.{formed-last, long, next-formed}
use Rattle.satp_sides.proofs.Records.{chain-none, get-bound, get-old, get-split}
use Rattle.satp_world.specs.Sessions.{SessionStands, StandsAt}
use Rattle.satp_world.specs.Standing.{PairStands, TiedParts, WorldStands, entry_at, session_by}
use Rattle.satp_world.specs.Standing.TiedParts.{Same, Mine_ahead, Peer_ahead}
use Rattle.satp_world.specs.Worlds.{Gateway, Reached, Setting, World, name_at, opposite, party_at, side_at}
use Rattle.satp_world.specs.Worlds.Gateway.{A, B}
use Rattle.satp_world.proofs.HonestNames.{IsPlaced, turn-of}
use Rattle.satp_world.proofs.KeptLaw.{logs-kept}
use Rattle.satp_world.proofs.PairLaw.{flip-pair, no-parts, role-is}
use Rattle.satp_world.proofs.RunLaw.{named-by, view-none-of}
use Rattle.satp_world.proofs.WorkLaw.{slot-parts}
use Rattle.satp_world.proofs.WorldLaw.{HasRole, arrives-at, tale-by, world-stands}

-- ---- verdicts on texts of both chains

-- a text that stands at its place fits
fits-by : (wrong far held settled same differs goes : Bool) (place many : ℕ) (kept last : Link) → wrong ≡ false → far ≡ false → held ≡ true → same ≡ true
    → unfit (if wrong then verdict.WrongSender else if far then verdict.Gap many else if held then (if settled then verdict.Again place else if same then verdict.Again place else verdict.Other place kept)
    else (if differs then verdict.WrongPrevious last else if goes then verdict.Next else verdict.OffTale place)) ≡ None
fits-by false false true true same differs goes place many kept last a b c d = refl
fits-by false false true false true differs goes place many kept last a b c d = refl
fits-by false false true false false differs goes place many kept last a b c d = absurd (cc d)
fits-by false false false settled same differs goes place many kept last a b c d = absurd (cc c)
fits-by false true held settled same differs goes place many kept last a b c d = absurd (cc b)
fits-by true far held settled same differs goes place many kept last a b c d = absurd (cc a)

module _ (s : SessionId) (recipient : Name) (key : List ℕ) where
  abbrev texts : List Part → List Text
  texts parts = texts_of s recipient key parts

  abbrev pub state : List Part → ChainState
  state parts = record { session = s; recipient = recipient; tale = map part_kind parts; texts = texts_of s recipient key parts }

  place-fits : (mine : List Part) (i : ℕ) (previous : Link) (q : Part) (t : Text) → slice_get (texts_of s recipient key mine) i ≡ Some t → unfit (verdict_on (state mine) (message_at s recipient (suc i) previous q) t) ≡ None
  place-fits mine i previous q t e =
      let c = state mine in
      let bound = get-bound (texts_of s recipient key mine) i t e in
      let here : text_at (texts_of s recipient key mine) (suc i) ≡ t = rw e refl in
      fits-by (not (same_name (maker_at c (suc i)) (maker_at c (suc i)))) (nat_lt (length c.texts + 1) (suc i)) (nat_le (suc i) (length c.texts)) (is_settled c (suc i)) (bytes_eq t (text_at c.texts (suc i)))
      (not (same_link previous (last_link c.texts))) (extends c.tale (part_kind q)) (suc i) (length c.texts) (link_at c.texts (suc i)) (last_link c.texts)
      (ap not (nat_list_eq_equiv.refl (name_text (maker_at c (suc i))))) (le-ltb _ _ (omega (arith, bound))) (le-leb _ _ (omega (arith, bound)))
      (subst (λ x. bytes_eq t x ≡ true) (sym here) (nat_list_eq_equiv.refl t))

  next-fits : (mine : List Part) (q : Part) (t : Text) → IsTale (map part_kind mine) → IsTale (map part_kind (mine ++ q ∷ [])) → IsPart q
      → unfit (verdict_on (state mine) (message_at s recipient (length (texts_of s recipient key mine) + 1) (last_link (texts_of s recipient key mine)) q) t) ≡ None
  next-fits mine q t tale more f =
      let as_long : length (map part_kind mine) ≡ length (texts_of s recipient key mine) = length-map mine part_kind ∙ sym (long s recipient key mine) in
      ap unfit (next_follows (state mine) q t as_long tale f (subst IsTale (map-append part_kind mine (q ∷ [])) more)).next

  -- a text of the peer's chain stands in this side's, or is the next
  pub data Found (mine peer : List Part) (i : ℕ) (t : Text) : Type 0 where
    Stands_here : slice_get (texts_of s recipient key mine) i ≡ Some t → Found mine peer i t
    Next_here : (q : Part) → i ≡ length (texts_of s recipient key mine) → peer ≡ mine ++ q ∷ [] → next_text s recipient key (texts_of s recipient key mine) q ≡ t → Found mine peer i t

  pub found : (role : Role) (mine peer : List Part) (i : ℕ) (t : Text) → TiedParts role mine peer → slice_get (texts_of s recipient key peer) i ≡ Some t → Found mine peer i t
  found role mine peer i t (Same e) h = Stands_here (ap (λ ps. slice_get (texts_of s recipient key ps) i) e ∙ h)
  found role mine peer i t (Mine_ahead p r e) h =
      Stands_here (ap (λ ps. slice_get (texts_of s recipient key ps) i) e ∙ ap (λ ts. slice_get ts i) (texts_appended s recipient key peer p) ∙ get-old (texts_of s recipient key peer) _ i t h)
  found role mine peer i t (Peer_ahead p r e) h =
      elim (get-split (texts_of s recipient key mine) (next_text s recipient key (texts_of s recipient key mine) p) i t (sym (ap (λ ps. slice_get (texts_of s recipient key ps) i) e ∙ ap (λ ts. slice_get ts i) (texts_appended s recipient key mine p)) ∙ h)) [
        | inl old ↦ Stands_here old
        | inr new ↦ Next_here p new.0 e new.1
      ]

  -- an honest message at its place, with what the chain of this side says of it
  pub fits : (mine peer : List Part) (i : ℕ) (m : Message) (t : Text) (previous : Link) (q : Part) → message_at s recipient (i + 1) previous q ≡ m → IsMessage m → t ≡ own key m
      → IsTale (map part_kind mine) → IsTale (map part_kind peer) → AllByRecursion IsPart peer → Found mine peer i t → unfit (verdict_on (state mine) m t) ≡ None
  fits mine peer i m t previous q is f text tale more parts (Stands_here e) =
      let next : suc i ≡ i + 1 = omega arith in
      subst (λ x. unfit (verdict_on (state mine) x t) ≡ None) (ap (λ n. message_at s recipient n previous q) next ∙ is) (place-fits mine i previous q t e)
  fits mine peer i m t previous q is f text tale more parts (Next_here p at ahead e) =
      let both = subst (AllByRecursion IsPart) ahead parts in
      let fp = formed-last mine p both in
      let tales = subst (λ ps. IsTale (map part_kind ps)) ahead more in
      let short = tale-short _ tales in
      let many = length-map (mine ++ p ∷ []) part_kind in
      let push = length_push mine p in
      let formed = next-formed s recipient key mine p (omega (arith, short, many, push)) fp in
      let same = own_shows key key (message_at s recipient (length (texts_of s recipient key mine) + 1) (last_link (texts_of s recipient key mine)) p) m formed f (e ∙ text) in
      subst (λ x. unfit (verdict_on (state mine) x t) ≡ None) same (next-fits mine p t tale tales fp)

-- ---- a session, as one gateway sees it

pub pair-at : (st : Setting) (w : World) → WorldStands st w → (g : Gateway) (s : SessionId) (role : Role) → IsOfRole (party_at st g) s role → PairStands role s (recipient_at (party_at st g) role) st.key (side_at w g) (side_at w (opposite g))
pair-at st w k g s Origin h = k.pairs g s h
pair-at st w k A s Recipient h = flip-pair Origin s st.a st.key w.b w.a (k.pairs B s h)
pair-at st w k B s Recipient h = flip-pair Origin s st.b st.key w.a w.b (k.pairs A s h)

has-role : (st : Setting) (g : Gateway) (s : SessionId) (role : Role) → IsOfRole (party_at st g) s role → HasRole st g role s
has-role st g s Origin h = h
has-role st g s Recipient h = h

module _ (role : Role) (s : SessionId) (recipient : Name) (key : List ℕ) (mine peer : Side) (k : PairStands role s recipient key mine peer) where
  pub my-tale : IsTale (map part_kind k.my_parts)
  my-tale = subst IsTale k.my_chain.tale (tale-by role (view_in s mine.records) (view_in s peer.records) _ _ k.stands)

  -- the origin has begun what its peer's chain holds
  not-origin : role ≡ Origin → view_in s mine.records ≡ None → (i : ℕ) (t : Text) → slice_get (texts_of s recipient key k.peer_parts) i ≡ Some t → ⊥
  not-origin o none i t h = go (view_in s mine.records) (view_in s peer.records) none refl (entry_at s mine) (entry_at s peer) (subst (λ x. SessionStands (session_by x (view_in s mine.records) (view_in s peer.records) (entry_at s mine) (entry_at s peer))) o k.stands)
    where
      go : (u v : Option View) → u ≡ None → view_in s peer.records ≡ v → (e f : Entry) → StandsAt u v e f → ⊥
      go None (Some v) x y e f z = absurd z
      go (Some u) v x y e f z = absurd (cc x)
      go None None x y e f z =
          let none = ap length (no-parts k.peer_parts (sym (ap tale_of y) ∙ k.peer_chain.tale)) in
          let bound = get-bound (texts_of s recipient key k.peer_parts) i t h in
          let same = long s recipient key k.peer_parts in
          omega (arith, none, bound, same)

pub peer-tale : (role : Role) (s : SessionId) (recipient : Name) (key : List ℕ) (mine peer : Side) (k : PairStands role s recipient key mine peer) → IsTale (map part_kind k.peer_parts)
peer-tale Origin s recipient key mine peer k = subst IsTale k.peer_chain.tale (tale-by Recipient (view_in s peer.records) (view_in s mine.records) _ _ k.stands)
peer-tale Recipient s recipient key mine peer k = subst IsTale k.peer_chain.tale (tale-by Origin (view_in s peer.records) (view_in s mine.records) _ _ k.stands)

module _ (st : Setting) (a b : Founding) (w : World) (r : Reached st a b w) (g : Gateway) (s : SessionId) (role : Role) (k : PairStands role s (recipient_at (party_at st g) role) st.key (side_at w g) (side_at w (opposite g))) where
  named-state : (l : Slot) → slot_in s (side_at w g).records ≡ Some l → chain_of (party_at st g) s (Some l) ≡ state s (recipient_at (party_at st g) role) st.key k.my_parts
  named-state l e =
      let (named, texts) = slot-parts (view_in s (side_at w g).records) (chain_in s (side_at w g).records) l e in
      let mine = role-is role (view_in s (side_at w g).records) (view_in s (side_at w (opposite g)).records) l.view _ _ named k.stands in
      let tale : l.view.tale ≡ map part_kind k.my_parts = sym (ap tale_of named) ∙ k.my_chain.tale in
      let chain : l.texts ≡ texts_of s (recipient_at (party_at st g) role) st.key k.my_parts = sym texts ∙ k.my_chain.chain in
      λ i. record { session = s; recipient = recipient_at (party_at st g) (mine i); tale = tale i; texts = chain i }

  none-state : slot_in s (side_at w g).records ≡ None → (role ≡ Origin → ⊥) → chain_of (party_at st g) s None ≡ state s (recipient_at (party_at st g) role) st.key k.my_parts
  none-state e barred =
      let none = view-none-of st a b w r g s e in
      let tale : [] ≡ map part_kind k.my_parts = sym (ap tale_of none) ∙ k.my_chain.tale in
      let chain : [] ≡ texts_of s (recipient_at (party_at st g) role) st.key k.my_parts = sym (chain-none s (side_at w g).records (named-by (party_at st g) s (side_at w g).records (logs-kept st a b w r g) none)) ∙ k.my_chain.chain in
      let mine : Recipient ≡ role = recipient_then role barred in
      λ i. record { session = s; recipient = recipient_at (party_at st g) (mine i); tale = tale i; texts = chain i }
    where
      recipient_then : (x : Role) → (x ≡ Origin → ⊥) → Recipient ≡ x
      recipient_then Origin h = absurd (h refl)
      recipient_then Recipient h = refl

  state-of : (i : ℕ) (t : Text) → slice_get (texts_of s (recipient_at (party_at st g) role) st.key k.peer_parts) i ≡ Some t → (o : Option Slot) → slot_in s (side_at w g).records ≡ o
      → chain_of (party_at st g) s o ≡ state s (recipient_at (party_at st g) role) st.key k.my_parts
  state-of i t h (Some l) e = named-state l e
  state-of i t h None e = none-state e (λ o. not-origin role s (recipient_at (party_at st g) role) st.key (side_at w g) (side_at w (opposite g)) k o (view-none-of st a b w r g s e) i t h)

-- ---- messages of chains

module _ (st : Setting) (a b : Founding) (w : World) (r : Reached st a b w) (g : Gateway) (m : Message) (t : Text) (formed : IsMessage m) (text : t ≡ own st.key m) (d : Delivered st.key w.bag t) (to : m.receiver ≡ name_at st g) where
  pub chain-fits : IsPlaced (party_at st g) m → unfit (verdict_in (party_at st g) (side_at w g).records m.session m t) ≡ None
  chain-fits p =
      let s = m.session in
      let name = recipient_at (party_at st g) p.role in
      let k = pair-at st w (world-stands st a b w r) g s p.role p.of in
      let bag = (world-stands st a b w r).bag in
      let same : t ≡ own st.key (message_at s name (p.place + 1) p.previous p.part) = text ∙ ap (own st.key) (sym p.is) in
      let at = arrives-at st w g p.role s p.place p.previous p.part (has-role st g s p.role p.of) bag (subst (Delivered st.key w.bag) same d) (subst IsMessage (sym p.is) formed) (turn-of st g m p to) in
      let here : slice_get (texts_of s name st.key k.peer_parts) p.place ≡ Some t = sym (ap (λ ts. slice_get ts p.place) k.peer_chain.chain) ∙ at ∙ ap Some (sym same) in
      let ok = fits s name st.key k.my_parts k.peer_parts p.place m t p.previous p.part p.is formed text
      (my-tale p.role s name st.key (side_at w g) (side_at w (opposite g)) k) (peer-tale p.role s name st.key (side_at w g) (side_at w (opposite g)) k) k.peer_chain.formed
      (found s name st.key p.role k.my_parts k.peer_parts p.place t k.tied here) in
      ap (λ c. unfit (verdict_on c m t)) (state-of st a b w r g s p.role k p.place t here (slot_in s (side_at w g).records) refl) ∙ ok
