-- Where a message that was delivered comes from: a chain holds its text, or the bag does and it tells of a chain.
use Rattle.std.proofs.Common.{◌≡◌, ℕ, zero, suc, ◌+◌, ◌≤◌, List, [], ◌∷◌, length, Option, Some, None, refl, sym, ap, subst, ◌∙◌, arith}
use Rattle.std.specs.Prelude.{drop, slice_get, take}
use Rattle.std.proofs.lemmas.List.{length-map}
use Rattle.satp_base.specs.Canonical.{part_kind}
use Rattle.satp_base.specs.Chains.{message_at}
use Rattle.satp_base.specs.Forms.{IsMessage}
use Rattle.satp_base.specs.Founding.{Founding}
use Rattle.satp_base.specs.Signatures.{own}
use Rattle.satp_base.specs.declared.message.Body.{Body}
use Rattle.satp_base.specs.declared.message.Body.TheVariants as body
use Rattle.satp_base.specs.declared.message.Link.{Link}
use Rattle.satp_base.specs.declared.message.Message.{Message}
use Rattle.satp_base.specs.declared.message.Part.{Part}
use Rattle.satp_base.specs.declared.message.Part.TheVariants.{Proposal}
use Rattle.satp_base.specs.declared.session.SessionId.{SessionId}
use Rattle.satp_base.specs.declared.view.View.{View}
use Rattle.satp_base.proofs.SignatureLemmas.{own_shows}
use Rattle.satp_base.proofs.TaleTable.{tale-short}
use Rattle.satp_sides.specs.Moves.{Among, Delivered, message_from}
use Rattle.satp_sides.specs.Moves.Among.{first, later}
use Rattle.satp_sides.specs.Moves.Delivered.{Alone, Listed}
use Rattle.satp_sides.specs.Points.{Text, chain_in, recipient_at, view_in}
use Rattle.satp_sides.specs.Said.{RecoverySays, WasSaid}
use Rattle.satp_sides.specs.Said.WasSaid.{Of_chain, Of_nothing, Of_recovery}
use Rattle.satp_sides.proofs.Chained.{message-of}
use Rattle.satp_sides.proofs.Records.{chain-none}
use Rattle.satp_world.specs.Worlds.{Gateway, Reached, Setting, World, party_at, side_at}
use Rattle.satp_world.proofs.KeptLaw.{bag-was-said, logs-kept}
use Rattle.satp_world.proofs.RunLaw.{named-by}
use Rattle.satp_world.proofs.WorldLaw.{law_safety}

among-drop : (n : ℕ) (ts : List Text) (t : Text) → Among t (drop n ts) → Among t ts
among-drop zero ts t i = i
among-drop (suc n) [] t i = i
among-drop (suc n) (u ∷ ts) t i = later (among-drop n ts t i)

among-take : (n : ℕ) (ts : List Text) (t : Text) → Among t (take n ts) → Among t ts
among-take zero ts t i = elim i [ ]
among-take (suc n) [] t i = i
among-take (suc n) (u ∷ ts) _ first = first
among-take (suc n) (u ∷ ts) t (later i) = later (among-take n ts t i)

among-get : (t : Text) (ts : List Text) → Among t ts → (i : ℕ) × (slice_get ts i ≡ Some t)
among-get t _ first = (zero, refl)
among-get t _ (later {ts = ts} i) = let (n, e) = among-get t ts i in (suc n, e)

nothing-among : (t : Text) (ts : List Text) → ts ≡ [] → Among t ts → ⊥
nothing-among t ts e i = elim (subst (Among t) e i) [ ]

-- the text is that of a chain's message
abbrev pub IsChains : Body → Type 0
IsChains (body.Chain place previous q) = Unit {0}
IsChains c = ⊥

-- a gateway's chain of the message's session holds its text, at its place
pub record InChain (st : Setting) (w : World) (q : Gateway) (m : Message) : Type 0 where
  pub view : View
  pub place : ℕ
  pub previous : Link
  pub part : Part
  pub named : view_in m.session (side_at w q).records ≡ Some view
  pub is : message_at m.session (recipient_at (party_at st q) view.role) (place + 1) previous part ≡ m

pub data Source (st : Setting) (w : World) (m : Message) : Type 0 where
  Chained : (q : Gateway) → InChain st w q m → Source st w m
  Recovers : (q : Gateway) (n : ℕ) → Among (own st.key m) w.bag → 1 ≤ n → n ≤ length (chain_in m.session (side_at w q).records) → message_from (party_at st q) m.session m.body ≡ m
      → RecoverySays (take n (chain_in m.session (side_at w q).records)) m.body → Source st w m
  Nothing : (q : Gateway) → Among (own st.key m) w.bag → message_from (party_at st q) m.session (body.Update 0 []) ≡ m → Source st w m

pub chains-body : (st : Setting) (w : World) (q : Gateway) (m : Message) → InChain st w q m → IsChains m.body
chains-body st w q m k = subst (λ (n : Message). IsChains n.body) k.is tt

module _ (st : Setting) (a b : Founding) (w : World) (r : Reached st a b w) where
  -- a text that stands in a chain
  chain-text : (g : Gateway) (s : SessionId) (v : View) → view_in s (side_at w g).records ≡ Some v → (i : ℕ) (t : Text) → slice_get (chain_in s (side_at w g).records) i ≡ Some t → (m : Message) → IsMessage m → t ≡ own st.key m → InChain st w g m
  chain-text g s v e i t d m f x =
      let c = (law_safety st a b w r).chains g s v e in
      let short = tale-short _ c.chain.tale in
      let h = message-of s (recipient_at (party_at st g) v.role) st.key (Proposal v.terms ∷ c.rest) i t (omega (arith, short, length-map (Proposal v.terms ∷ c.rest) part_kind)) c.chain.formed (ap (λ ts. slice_get ts i) (sym c.chain.each) ∙ d) in
      let same = own_shows st.key st.key (message_at s (recipient_at (party_at st g) v.role) (i + 1) h.previous h.part) m h.formed f (sym h.text ∙ x) in
      let session : s ≡ m.session = ap (λ (y : Message). y.session) same in
      record {
        view = v;
        place = i;
        previous = h.previous;
        part = h.part;
        named = subst (λ z. view_in z (side_at w g).records ≡ Some v) session e;
        is = ap (λ z. message_at z (recipient_at (party_at st g) v.role) (i + 1) h.previous h.part) (sym session) ∙ same;
      }

  chain-among : (g : Gateway) (s : SessionId) (t : Text) → Among t (chain_in s (side_at w g).records) → (m : Message) → IsMessage m → t ≡ own st.key m → InChain st w g m
  chain-among g s t i m f x = by (view_in s (side_at w g).records) refl
    where
      by : (o : Option View) → view_in s (side_at w g).records ≡ o → InChain st w g m
      by None e = absurd (nothing-among t _ (chain-none s (side_at w g).records (named-by (party_at st g) s (side_at w g).records (logs-kept st a b w r g) e)) i)
      by (Some v) e = let (n, d) = among-get t (chain_in s (side_at w g).records) i in chain-text g s v e n t d m f x

  -- an entry of an update that was said is a text of a chain
  entry-chains : (m : Message) (n : ℕ) (entries : List Text) → IsMessage m → Among (own st.key m) w.bag → m.body ≡ body.Update n entries → (t : Text) → Among t entries → (c : Message) → IsMessage c → t ≡ own st.key c → (g : Gateway) × InChain st w g c
  entry-chains m n entries f i is t j c h x = let (g, z) = bag-was-said st a b w r (own st.key m) i in (g, by g z)
    where
      by : (g : Gateway) → WasSaid (party_at st g) (side_at w g).records (own st.key m) → InChain st w g c
      by g (Of_chain s v k e d role) = absurd (subst IsChains is (chains-body st w g m (chain-text g s v e k (own st.key m) d m f refl)))
      by g (Of_nothing s known fm eq) =
          let same : message_from (party_at st g) s (body.Update 0 []) ≡ m = own_shows st.key st.key (message_from (party_at st g) s (body.Update 0 [])) m fm f (sym eq) in
          let bodies : body.Update 0 [] ≡ body.Update n entries = ap (λ (y : Message). y.body) same ∙ is in
          let none : entries ≡ [] = cc in
          absurd (nothing-among t entries none j)
      by g (Of_recovery s bd k some le fm says eq) =
          let same : message_from (party_at st g) s bd ≡ m = own_shows st.key st.key (message_from (party_at st g) s bd) m fm f (sym eq) in
          let bodies : bd ≡ body.Update n entries = ap (λ (y : Message). y.body) same ∙ is in
          let last = (subst (RecoverySays (take k (chain_in s (side_at w g).records))) bodies says).1 in
          let there = among-drop _ _ t (subst (Among t) last j) in
          chain-among g s t (among-take k (chain_in s (side_at w g).records) t there) c h x

  -- so a recovery message that was handed over stands in the bag by itself
  pub alone : (t : Text) → Delivered st.key w.bag t → (m : Message) → IsMessage m → t ≡ own st.key m → (IsChains m.body → ⊥) → Among (own st.key m) w.bag
  alone t (Alone i) m f x barred = subst (λ u. Among u w.bag) x i
  alone t (Listed u n entries f i is j) m h x barred = let (g, k) = entry-chains u n entries f i is t j m h x in absurd (barred (chains-body st w g m k))

  -- a message whose text is in the bag
  said-source : (m : Message) → IsMessage m → Among (own st.key m) w.bag → (g : Gateway) → WasSaid (party_at st g) (side_at w g).records (own st.key m) → Source st w m
  said-source m f i g (Of_chain s v k e d role) = Chained g (chain-text g s v e k (own st.key m) d m f refl)
  said-source m f i g (Of_nothing s known fm eq) =
      let same : message_from (party_at st g) s (body.Update 0 []) ≡ m = own_shows st.key st.key (message_from (party_at st g) s (body.Update 0 [])) m fm f (sym eq) in
      Nothing g i (ap (λ z. message_from (party_at st g) z (body.Update 0 [])) (sym (ap (λ (y : Message). y.session) same)) ∙ same)
  said-source m f i g (Of_recovery s bd k some le fm says eq) =
      let same : message_from (party_at st g) s bd ≡ m = own_shows st.key st.key (message_from (party_at st g) s bd) m fm f (sym eq) in
      let session : s ≡ m.session = ap (λ (y : Message). y.session) same in
      let bodies : bd ≡ m.body = ap (λ (y : Message). y.body) same in
      Recovers g k i some (subst (λ z. k ≤ length (chain_in z (side_at w g).records)) session le)
      ((λ j. message_from (party_at st g) (sym session j) (sym bodies j)) ∙ same)
      (subst (λ z. RecoverySays (take k (chain_in z (side_at w g).records)) m.body) session (subst (RecoverySays (take k (chain_in s (side_at w g).records))) bodies says))

  pub source : (t : Text) → Delivered st.key w.bag t → (m : Message) → IsMessage m → t ≡ own st.key m → Source st w m
  source t (Alone i) m f x = let here = subst (λ u. Among u w.bag) x i in let (g, z) = bag-was-said st a b w r (own st.key m) here in said-source m f here g z
  source t (Listed u n entries f i is j) m h x = let (g, k) = entry-chains u n entries f i is t j m h x in Chained g k
