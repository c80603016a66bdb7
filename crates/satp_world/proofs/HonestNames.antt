-- An honest message is addressed, its session is known, and there is room for it.
use Rattle.std.proofs.Common.{◌≡◌, ◌⊎◌, inl, inr, ℕ, ◌+◌, Bool, true, false, List, [], ◌∷◌, Option, Some, None, option_map, refl, sym, ap, subst, ◌∙◌, if◌then◌else◌}
use Rattle.std.specs.Prelude.{is_some}
use Rattle.std.proofs.lemmas.Bool.{lt-leb}
use Rattle.satp_base.specs.Chains.{message_at, name_of, role_at}
use Rattle.satp_base.specs.Forms.{IsMessage}
use Rattle.satp_base.specs.Founding.{Founding, equal_names}
use Rattle.satp_base.specs.Roles.{both, negate}
use Rattle.satp_base.specs.Signatures.{own}
use Rattle.satp_base.specs.Tales.{other}
use Rattle.satp_base.specs.declared.ledger.Entry.{Entry}
use Rattle.satp_base.specs.declared.message.Link.{Link}
use Rattle.satp_base.specs.declared.message.Message.{Message}
use Rattle.satp_base.specs.declared.message.Part.{Part}
use Rattle.satp_base.specs.declared.message.Role.{Role}
use Rattle.satp_base.specs.declared.message.Role.TheVariants.{Origin, Recipient}
use Rattle.satp_base.specs.declared.session.SessionId.{SessionId}
use Rattle.satp_base.specs.declared.view.View.{View}
use Rattle.satp_base.proofs.GenesisLemmas.{equal_name, names_refl}
use Rattle.satp_sides.specs.Calls.{Refusal, body_refusal, first_refusal, is_full, is_misaddressed, is_named, is_strange, refusal_of, test, would_begin}
use Rattle.satp_sides.specs.Calls.Call.{Hears}
use Rattle.satp_sides.specs.Calls.Refusal.{Receiver, Strange, Full}
use Rattle.satp_sides.specs.LogLaws.{IsOfRole}
use Rattle.satp_sides.specs.Moves.{Delivered}
use Rattle.satp_sides.specs.Points.{Party, Text, chain_in, most_sessions, recipient_at, records_of, slot, view_in}
use Rattle.satp_sides.proofs.LogLaw.{log-sessions}
use Rattle.satp_world.specs.Kept.{Names}
use Rattle.satp_world.specs.Sessions.{StandsAt}
use Rattle.satp_world.specs.Worlds.{Gateway, Reached, Setting, World, name_at, opposite, party_at, side_at}
use Rattle.satp_world.specs.Worlds.Gateway.{A, B}
use Rattle.satp_world.proofs.HearLaw.{party-apart}
use Rattle.satp_world.proofs.KeptLaw.{logs-kept}
use Rattle.satp_world.proofs.RoomLaw.{room-left}
use Rattle.satp_world.proofs.RunLaw.{named-by}
use Rattle.satp_world.proofs.SenderLaw.{same-name, sender-knows, twice}
use Rattle.satp_world.proofs.Sources.{InChain, Source, source}
use Rattle.satp_world.proofs.Sources.Source.{Chained, Recovers, Nothing}
use Rattle.satp_world.proofs.WorldLaw.{law_safety}

either-gateway : (g q : Gateway) → (q ≡ g) ⊎ (q ≡ opposite g)
either-gateway A A = inl refl
either-gateway A B = inr refl
either-gateway B A = inr refl
either-gateway B B = inl refl

-- ---- the places of a chain, seen from one gateway

-- the message is one of a place of a chain of this gateway's session
pub record IsPlaced (p : Party) (m : Message) : Type 0 where
  pub role : Role
  pub of : IsOfRole p m.session role
  pub place : ℕ
  pub previous : Link
  pub part : Part
  pub is : message_at m.session (recipient_at p role) (place + 1) previous part ≡ m

flip-role : (st : Setting) (q : Gateway) (s : SessionId) (role : Role) → IsOfRole (party_at st q) s role → IsOfRole (party_at st (opposite q)) s (other role)
flip-role st A s Origin h = h
flip-role st A s Recipient h = h
flip-role st B s Origin h = h
flip-role st B s Recipient h = h

flip-recipient : (st : Setting) (q : Gateway) (role : Role) → recipient_at (party_at st q) role ≡ recipient_at (party_at st (opposite q)) (other role)
flip-recipient st A Origin = refl
flip-recipient st A Recipient = refl
flip-recipient st B Origin = refl
flip-recipient st B Recipient = refl

placed-at : (st : Setting) (a b : Founding) (w : World) → Reached st a b w → (q : Gateway) (m : Message) → InChain st w q m → IsPlaced (party_at st q) m
placed-at st a b w r q m k = record {
  role = k.view.role;
  of = (log-sessions (party_at st q) (side_at w q).records (logs-kept st a b w r q) m.session k.view k.named).role;
  place = k.place;
  previous = k.previous;
  part = k.part;
  is = k.is;
}

placed-over : (st : Setting) (q : Gateway) (m : Message) → IsPlaced (party_at st q) m → IsPlaced (party_at st (opposite q)) m
placed-over st q m k = record {
  role = other k.role;
  of = flip-role st q m.session k.role k.of;
  place = k.place;
  previous = k.previous;
  part = k.part;
  is = ap (λ n. message_at m.session n (k.place + 1) k.previous k.part) (sym (flip-recipient st q k.role)) ∙ k.is;
}

-- a chain's message has a place, whichever side's chain holds it
pub placed-here : (st : Setting) (a b : Founding) (w : World) → Reached st a b w → (g q : Gateway) (m : Message) → InChain st w q m → IsPlaced (party_at st g) m
placed-here st a b w r g q m k = elim (either-gateway q g) [
  | inl same ↦ subst (λ x. IsPlaced (party_at st x) m) (sym same) (placed-at st a b w r q m k)
  | inr across ↦ subst (λ x. IsPlaced (party_at st x) m) (sym across) (placed-over st q m (placed-at st a b w r q m k))
]

-- what comes to this gateway is of the other role's place
module _ (p : Party) (differ : p.name ≡ p.peer → ⊥) (s : SessionId) where
  pub taker-place : (role x : Role) → IsOfRole p s role → name_of s (recipient_at p role) (other x) ≡ p.name → x ≡ other role
  taker-place Origin Origin k e = absurd (differ (sym e))
  taker-place Origin Recipient k e = refl
  taker-place Recipient Origin k e = refl
  taker-place Recipient Recipient k e = absurd (differ (sym e ∙ k))

  maker-name : (role : Role) → IsOfRole p s role → name_of s (recipient_at p role) (other role) ≡ p.peer
  maker-name Origin k = refl
  maker-name Recipient k = k

pub turn-of : (st : Setting) (g : Gateway) (m : Message) (k : IsPlaced (party_at st g) m) → m.receiver ≡ name_at st g → role_at (k.place + 1) ≡ other k.role
turn-of st g m k to = taker-place (party_at st g) (party-apart st g) m.session k.role (role_at (k.place + 1)) k.of (ap (λ (x : Message). x.receiver) k.is ∙ to)

-- ---- who sent it

module _ (st : Setting) (a b : Founding) (w : World) (r : Reached st a b w) (g : Gateway) (m : Message) (t : Text) (formed : IsMessage m) (text : t ≡ own st.key m) (d : Delivered st.key w.bag t) (to : m.receiver ≡ name_at st g) where
  -- a recovery message is from the peer
  pub across : (q : Gateway) (c : Message) → c ≡ m → c.receiver ≡ name_at st (opposite q) → q ≡ opposite g
  across q c same there = sym (twice q) ∙ ap opposite (same-name st (opposite q) g (sym there ∙ ap (λ (x : Message). x.receiver) same ∙ to))

  from-peer : Source st w m → m.sender ≡ name_at st (opposite g)
  from-peer (Chained q k) =
      let p = placed-here st a b w r g q m k in
      sym (ap (λ (x : Message). x.sender) p.is) ∙ ap (name_of m.session (recipient_at (party_at st g) p.role)) (turn-of st g m p to) ∙ maker-name (party_at st g) (party-apart st g) m.session p.role p.of
  from-peer (Recovers q n i some le is says) = sym (ap (λ (x : Message). x.sender) is) ∙ ap (name_at st) (across q _ is refl)
  from-peer (Nothing q i is) = sym (ap (λ (x : Message). x.sender) is) ∙ ap (name_at st) (across q _ is refl)

  addressed-by : (x y : Bool) → x ≡ true → y ≡ true → negate (both x y) ≡ false
  addressed-by true true h k = refl
  addressed-by true false h k = absurd (cc k)
  addressed-by false y h k = absurd (cc h)

  addressed : is_misaddressed (party_at st g) m ≡ false
  addressed =
      addressed-by _ _ (subst (λ x. equal_names x (name_at st g) ≡ true) (sym to) (names_refl (name_at st g)))
      (subst (λ x. equal_names x (name_at st (opposite g)) ≡ true) (sym (from-peer (source st a b w r t d m formed text))) (names_refl (name_at st (opposite g))))

  -- ---- who knows its session

  some-name : Source st w m → (q : Gateway) × Names w q m.session
  some-name (Chained q k) = (q, (k.view, k.named))
  some-name (Recovers q n i some le is says) = let k = sender-knows st a b w r m formed i in elim k.names [ inl named ↦ (k.by, named) | inr none ↦ (opposite k.by, none.1) ]
  some-name (Nothing q i is) = let k = sender-knows st a b w r m formed i in elim k.names [ inl named ↦ (k.by, named) | inr none ↦ (opposite k.by, none.1) ]

  -- the gateway whose name it has knows it
  pub record IsBegun (s : SessionId) (q : Gateway) : Type 0 where
    pub gate : s.gateway ≡ name_at st q
    pub names : Names w q s

  origin-names : (o p : Option View) (e f : Entry) → StandsAt o p e f → (v : View) → p ≡ Some v → (u : View) × (o ≡ Some u)
  origin-names (Some u) p e f k v h = (u, refl)
  origin-names None (Some x) e f k v h = absurd k
  origin-names None None e f k v h = absurd (cc h)

  begun-at : (q : Gateway) (s : SessionId) → Names w q s → (o : Gateway) × IsBegun s o
  begun-at q s (v, e) = elim ((law_safety st a b w r).named q s v e) [
    | inl h ↦ (q, record { gate = h; names = (v, e) })
    | inr h ↦ (opposite q, record { gate = h; names = there q h e })
  ]
    where
      there : (q : Gateway) → s.gateway ≡ name_at st (opposite q) → view_in s (side_at w q).records ≡ Some v → Names w (opposite q) s
      there A h e = origin-names _ _ _ _ ((law_safety st a b w r).stands B s h) v e
      there B h e = origin-names _ _ _ _ ((law_safety st a b w r).stands A s h) v e

  pub known : IsBegun m.session g ⊎ IsBegun m.session (opposite g)
  known =
      let (q, names) = some-name (source st a b w r t d m formed text) in
      let (o, k) = begun-at q m.session names in
      elim (either-gateway g o) [ inl same ↦ inl (subst (IsBegun m.session) same k) | inr across ↦ inr (subst (IsBegun m.session) across k) ]

  named-slot : (o : Option View) (texts : List Text) (v : View) → o ≡ Some v → is_some (option_map (λ u. slot u texts) o) ≡ true
  named-slot None texts v e = absurd (cc e)
  named-slot (Some u) texts v e = refl

  strange-not : (mine peer named : Bool) → (mine ≡ true → named ≡ true) → (mine ≡ false → peer ≡ true) → (if mine then negate named else negate peer) ≡ false
  strange-not true peer named h k = ap negate (h refl)
  strange-not false peer named h k = ap negate (k refl)

  not-strange : is_strange (party_at st g) (side_at w g).records m.session ≡ false
  not-strange = elim known [
    | inl k ↦ strange-not _ _ _ (λ _. named-slot _ _ k.names.0 k.names.1) (λ e. absurd (cc (e, subst (λ x. equal_names x (name_at st g) ≡ true) (sym k.gate) (names_refl (name_at st g)))))
    | inr k ↦ strange-not _ _ _ (λ e. absurd (party-apart st g (sym (equal_name m.session.gateway (name_at st g) e) ∙ k.gate))) (λ _. subst (λ x. equal_names x (name_at st (opposite g)) ≡ true) (sym k.gate) (names_refl (name_at st (opposite g))))
  ]

  -- ---- there is room for it

  begins-not : (named takes full : Bool) → (named ≡ false → full ≡ false) → both (both (negate named) takes) full ≡ false
  begins-not true takes full h = refl
  begins-not false true full h = h refl
  begins-not false false full h = refl

  room-for : (g : Gateway) (s : SessionId) → IsBegun s (opposite g) → records_of s (side_at w g).records ≡ [] → is_full Recipient (side_at w g).records ≡ false
  room-for A s k e = lt-leb _ _ (room-left st a b w r B s k.gate k.names e)
  room-for B s k e = lt-leb _ _ (room-left st a b w r A s k.gate k.names e)

  unnamed : (o : Option View) (texts : List Text) → is_some (option_map (λ u. slot u texts) o) ≡ false → o ≡ None
  unnamed None texts e = refl
  unnamed (Some u) texts e = absurd (cc e)

  not-full : both (would_begin (party_at st g) (side_at w g).records m t) (is_full Recipient (side_at w g).records) ≡ false
  not-full = begins-not (is_named m.session (side_at w g).records) _ _ (λ e. elim known [
    | inl k ↦ absurd (cc (e, named-slot _ (chain_in m.session (side_at w g).records) k.names.0 k.names.1))
    | inr k ↦ room-for g m.session k (named-by (party_at st g) m.session (side_at w g).records (logs-kept st a b w r g) (unnamed _ _ e))
  ])

  -- ---- so only its body may be refused

  first-by : (mis strange full : Bool) (o : Option Refusal) (s : SessionId) → mis ≡ false → strange ≡ false → full ≡ false → first_refusal (test mis Receiver ∷ test strange (Strange s) ∷ o ∷ test full (Full most_sessions) ∷ []) ≡ o
  first-by false false false None s h k l = refl
  first-by false false false (Some x) s h k l = refl
  first-by true strange full o s h k l = absurd (cc h)
  first-by false true full o s h k l = absurd (cc k)
  first-by false false true o s h k l = absurd (cc l)

  pub by-body : (e : Option Message) → refusal_of (party_at st g) (side_at w g).records (Hears m t e) ≡ body_refusal (party_at st g) (side_at w g).records m t e m.body
  unfolding refusal_of
  by-body e = first-by _ _ _ (body_refusal (party_at st g) (side_at w g).records m t e m.body) m.session addressed not-strange not-full
