-- Each text that was said is read as one message, and no other.
use Rattle.std.proofs.Common.{◌≡◌, ℕ, zero, suc, ◌+◌, List, [], ◌∷◌, Option, Some, None, refl, sym, ap, subst, ◌∙◌, arith}
use Rattle.std.specs.Prelude.{drop, slice_get, take}
use Rattle.std.proofs.lemmas.List.{length-map}
use Rattle.satp_base.specs.Canonical.{part_kind}
use Rattle.satp_base.specs.Chains.{message_at}
use Rattle.satp_base.specs.Founding.{Founding}
use Rattle.satp_base.specs.declared.message.Body.{Body}
use Rattle.satp_base.specs.declared.message.Body.TheVariants as body
use Rattle.satp_base.specs.declared.message.Message.{Message}
use Rattle.satp_base.specs.declared.message.Part.TheVariants.{Proposal}
use Rattle.satp_base.specs.declared.session.SessionId.{SessionId}
use Rattle.satp_base.specs.declared.view.View.{View}
use Rattle.satp_base.proofs.SignatureLemmas.{own_shows}
use Rattle.satp_base.proofs.TaleTable.{tale-short}
use Rattle.satp_sides.specs.Calls.{Call, Hears, IsEntryOf, IsOwn}
use Rattle.satp_sides.specs.Moves.{Among, message_from}
use Rattle.satp_sides.specs.Moves.Among.{first, later}
use Rattle.satp_sides.specs.Points.{Text, chain_in, recipient_at, view_in}
use Rattle.satp_sides.specs.Said.{RecoverySays, WasSaid}
use Rattle.satp_sides.specs.Said.WasSaid.{Of_chain, Of_nothing, Of_recovery}
use Rattle.satp_sides.proofs.Chained.{message-of}
use Rattle.satp_sides.proofs.Records.{chain-none}
use Rattle.satp_world.specs.Worlds.{Gateway, Reached, Setting, World, party_at, side_at}
use Rattle.satp_world.proofs.KeptLaw.{bag-was-said, logs-kept}
use Rattle.satp_world.proofs.RunLaw.{named-by}
use Rattle.satp_world.proofs.WorldLaw.{law_safety}
use Rattle.satp_drill_runs.specs.Exchanges.{IsHearing}

-- ---- one reading

module _ (key : List ℕ) where
  own-once : (t : Text) (m n : Message) → IsOwn key t m → IsOwn key t n → m ≡ n
  own-once t m n h k = own_shows key key m n h.0 k.0 (sym h.1 ∙ k.1)

  entry-once : (b : Body) (e c : Option Message) → IsEntryOf key b e → IsEntryOf key b c → e ≡ c
  entry-once (body.Update n (t ∷ [])) (Some e) (Some c) h k = ap Some (own-once t e c h k)
  entry-once (body.Update n (t ∷ [])) (Some e) None h k = absurd (k e h)
  entry-once (body.Update n (t ∷ [])) None (Some c) h k = absurd (h c k)
  entry-once (body.Update n (t ∷ [])) None None h k = refl
  entry-once (body.Update n []) e c h k = h ∙ sym k
  entry-once (body.Update n (t ∷ u ∷ ts)) e c h k = h ∙ sym k
  entry-once (body.Chain place previous part) e c h k = h ∙ sym k
  entry-once (body.Recover n last) e c h k = h ∙ sym k
  entry-once (body.Success n last) e c h k = h ∙ sym k

  pub hearing-once : (t : Text) (call other : Call) → IsHearing key t call → IsHearing key t other → call ≡ other
  hearing-once t call other (m, e, is, h) (n, c, are, k) =
      let same = own-once t m n h.0 k.0 in
      let entry = entry-once n.body e c (subst (λ (z : Message). IsEntryOf key z.body e) same h.1) k.1 in
      is ∙ (λ i. Hears (same i) t (entry i)) ∙ sym are

-- ---- there is one

among-drop : (n : ℕ) (ts : List Text) (t : Text) → Among t (drop n ts) → Among t ts
among-drop zero ts t i = i
among-drop (suc n) [] t i = i
among-drop (suc n) (u ∷ ts) t i = later (among-drop n ts t i)

among-take : (n : ℕ) (ts : List Text) (t : Text) → Among t (take n ts) → Among t ts
among-take zero ts t i = elim i [ ]
among-take (suc n) [] t i = i
among-take (suc n) (u ∷ ts) _ first = first
among-take (suc n) (u ∷ ts) t (later i) = later (among-take n ts t i)

among-get : (t : Text) (ts : List Text) → Among t ts → (i : ℕ) × (slice_get ts i ≡ Some t)
among-get t _ first = (zero, refl)
among-get t _ (later {ts = ts} i) = let (n, e) = among-get t ts i in (suc n, e)

nothing-among : (t : Text) (ts : List Text) → ts ≡ [] → Among t ts → ⊥
nothing-among t ts e i = elim (subst (Among t) e i) [ ]

-- a message of a chain
pub record Chained (key : List ℕ) (t : Text) : Type 0 where
  pub message : Message
  pub is : IsOwn key t message
  pub alone : IsEntryOf key message.body None

abbrev Read : List ℕ → Text → Type 0
Read key t = (call : Call) × IsHearing key t call

module _ (st : Setting) (a b : Founding) (w : World) (r : Reached st a b w) where
  chain-own : (g : Gateway) (s : SessionId) (v : View) → view_in s (side_at w g).records ≡ Some v → (i : ℕ) (t : Text) → slice_get (chain_in s (side_at w g).records) i ≡ Some t → Chained st.key t
  chain-own g s v e i t d =
      let c = (law_safety st a b w r).chains g s v e in
      let short = tale-short _ c.chain.tale in
      let h = message-of s (recipient_at (party_at st g) v.role) st.key (Proposal v.terms ∷ c.rest) i t (omega (arith, short, length-map (Proposal v.terms ∷ c.rest) part_kind)) c.chain.formed (ap (λ ts. slice_get ts i) (sym c.chain.each) ∙ d) in
      record { message = message_at s (recipient_at (party_at st g) v.role) (i + 1) h.previous h.part; is = (h.formed, h.text); alone = refl }

  chain-among : (g : Gateway) (s : SessionId) (t : Text) → Among t (chain_in s (side_at w g).records) → Chained st.key t
  chain-among g s t i = by (view_in s (side_at w g).records) refl
    where
      by : (o : Option View) → view_in s (side_at w g).records ≡ o → Chained st.key t
      by None e = absurd (nothing-among t _ (chain-none s (side_at w g).records (named-by (party_at st g) s (side_at w g).records (logs-kept st a b w r g) e)) i)
      by (Some v) e = let (n, d) = among-get t (chain_in s (side_at w g).records) i in chain-own g s v e n t d

  entry-of : (g : Gateway) (s : SessionId) (k : ℕ) (b : Body) → RecoverySays (take k (chain_in s (side_at w g).records)) b → (e : Option Message) × IsEntryOf st.key b e
  entry-of g s k (body.Chain place previous part) says = (None, refl)
  entry-of g s k (body.Recover n last) says = (None, refl)
  entry-of g s k (body.Success n last) says = (None, refl)
  entry-of g s k (body.Update n []) says = (None, refl)
  entry-of g s k (body.Update n (t ∷ u ∷ ts)) says = (None, refl)
  entry-of g s k (body.Update n (t ∷ [])) says =
      let there = among-drop _ _ t (subst (Among t) says.1 first) in
      let c = chain-among g s t (among-take k (chain_in s (side_at w g).records) t there) in
      (Some c.message, c.is)

  read-said : (t : Text) (g : Gateway) → WasSaid (party_at st g) (side_at w g).records t → Read st.key t
  read-said t g (Of_chain s v n e d role) = let c = chain-own g s v e n t d in (Hears c.message t None, (c.message, None, refl, (c.is, c.alone)))
  read-said t g (Of_recovery s bd k some le formed says is) =
      let m = message_from (party_at st g) s bd in
      let (e, of) = entry-of g s k bd says in
      (Hears m t e, (m, e, refl, ((formed, is), of)))
  read-said t g (Of_nothing s known formed is) =
      let m = message_from (party_at st g) s (body.Update 0 []) in
      (Hears m t None, (m, None, refl, ((formed, is), refl)))

  pub bag-reads : (t : Text) → Among t w.bag → (call : Call) × IsHearing st.key t call
  bag-reads t i = let (g, z) = bag-was-said st a b w r t i in read-said t g z
