-- A session of a reached world, by its two halves.
use Rattle.std.proofs.Common.{◌≡◌, ◌+◌, List, [], ◌∷◌, ◌++◌, map, length, Option, Some, None, refl, sym, ap, subst, ◌∙◌}
use Rattle.std.proofs.lemmas.List.{length-map, map-append}
use Rattle.satp_base.proofs.Places.{maker-at}
use Rattle.satp_base.specs.Canonical.{part_kind}
use Rattle.satp_base.specs.Chains.{role_at}
use Rattle.satp_base.specs.Founding.{Founding}
use Rattle.satp_base.specs.LedgerRule.{entry_of}
use Rattle.satp_base.specs.Tales.{IsTale, maker, other}
use Rattle.satp_base.specs.declared.message.Part.{Part}
use Rattle.satp_base.specs.declared.message.Role.{Role}
use Rattle.satp_base.specs.declared.message.Role.TheVariants.{Origin, Recipient}
use Rattle.satp_base.specs.declared.message.Terms.{Terms}
use Rattle.satp_base.specs.declared.session.SessionId.{SessionId}
use Rattle.satp_base.specs.declared.view.View.{View}
use Rattle.satp_sides.specs.Calls.{Run}
use Rattle.satp_sides.specs.Halves.{Half, half}
use Rattle.satp_sides.specs.LogLaws.{IsOfRole}
use Rattle.satp_sides.specs.Moves.{said_by}
use Rattle.satp_sides.specs.Points.{Party, Side, Slot, Text, chain_in, moved_by, recipient_at, slot_in, tale_of, view_in}
use Rattle.satp_world.proofs.HonestLaw.{my-tale, pair-at, peer-tale}
use Rattle.satp_world.proofs.KeptLaw.{logs-kept, moves-reach}
use Rattle.satp_world.proofs.PairLaw.{role-is}
use Rattle.satp_world.proofs.WorkLaw.{slot-parts}
use Rattle.satp_world.proofs.WorldLaw.{world-stands}
use Rattle.satp_world.specs.Histories.{after_moves}
use Rattle.satp_world.specs.Standing.{PairStands, TiedParts}
use Rattle.satp_world.specs.Standing.TiedParts.{Same, Mine_ahead, Peer_ahead}
use Rattle.satp_world.specs.Work.{RunGoes}
use Rattle.satp_world.specs.Worlds.{Gateway, Reached, Setting, World, maker_side, name_at, opposite, party_at, side_at, with_side}
use Rattle.satp_world.specs.Worlds.Gateway.{A, B}
use Rattle.satp_rounds.proofs.Growing.{Near}
use Rattle.satp_rounds.proofs.Growing.Near.{Equal, Mine, Peer}
use Rattle.satp_rounds.proofs.Running.{HalfAt, Ran}
use Rattle.satp_rounds.proofs.Working.{Fits}
use Rattle.satp_rounds.specs.Funds.{Funds}
use Rattle.satp_rounds.specs.Rounds.{Pair, half_at, with_half}
use Rattle.satp_rounds.specs.Transfers.{unnamed_view}

-- ---- sides by their roles

abbrev pub side_of : World → Gateway → Role → Side
side_of w q role = side_at w (maker_side q role)

pub across : (q : Gateway) (role : Role) → opposite (maker_side q role) ≡ maker_side q (other role)
across A Origin = refl
across A Recipient = refl
across B Origin = refl
across B Recipient = refl

pub twice : (role : Role) → other (other role) ≡ role
twice Origin = refl
twice Recipient = refl

pub new-side : (w : World) (q : Gateway) (role : Role) (side : Side) (bag : List Text) → side_of (with_side w (maker_side q role) side bag) q role ≡ side
new-side w A Origin side bag = refl
new-side w A Recipient side bag = refl
new-side w B Origin side bag = refl
new-side w B Recipient side bag = refl

pub other-side : (w : World) (q : Gateway) (role : Role) (side : Side) (bag : List Text) → side_of (with_side w (maker_side q role) side bag) q (other role) ≡ side_of w q (other role)
other-side w A Origin side bag = refl
other-side w A Recipient side bag = refl
other-side w B Origin side bag = refl
other-side w B Recipient side bag = refl

pub same-sides : (w : World) (q g : Gateway) (bag : List Text) (role : Role) → side_of (with_side w g (side_at w g) bag) q role ≡ side_of w q role
same-sides w A A bag Origin = refl
same-sides w A A bag Recipient = refl
same-sides w A B bag Origin = refl
same-sides w A B bag Recipient = refl
same-sides w B A bag Origin = refl
same-sides w B A bag Recipient = refl
same-sides w B B bag Origin = refl
same-sides w B B bag Recipient = refl

pub bag-is : (w : World) (g : Gateway) (side : Side) (bag : List Text) → (with_side w g side bag).bag ≡ bag
bag-is w A side bag = refl
bag-is w B side bag = refl

pub of-role : (st : Setting) (q : Gateway) (s : SessionId) → s.gateway ≡ name_at st q → (role : Role) → IsOfRole (party_at st (maker_side q role)) s role
of-role st A s e Origin = e
of-role st A s e Recipient = e
of-role st B s e Origin = e
of-role st B s e Recipient = e

-- ---- halves

abbrev pub view_or : Role → Terms → Option View → View
view_or role terms None = unnamed_view role terms
view_or role terms (Some v) = v

abbrev pub half_of : Role → Terms → SessionId → Side → Half
half_of role terms s side = half (view_or role terms (view_in s side.records)) (entry_of side.book.entries s)

pub tale-or : (role : Role) (terms : Terms) (o : Option View) → (view_or role terms o).tale ≡ tale_of o
tale-or role terms None = refl
tale-or role terms (Some v) = refl

module _ (st : Setting) (a b : Founding) (q : Gateway) (s : SessionId) (own : s.gateway ≡ name_at st q) (terms : Terms) (f : Funds) where
  -- the world is reached, and these are the halves of the session there
  pub record In (w : World) (x : Pair) : Type 0 where
    pub reached : Reached st a b w
    pub named : (v : View) × (view_in s (side_of w q Origin).records ≡ Some v)
    pub is : (role : Role) → half_of role terms s (side_of w q role) ≡ half_at role x
    pub under : (role : Role) → (half_at role x).view.terms ≡ terms
    pub fits : (role : Role) → Fits role f s terms (side_of w q role).book

  -- ---- the world goes on

  pub unmoved : (w : World) (x : Pair) (g : Gateway) (bag : List Text) → In w x → Reached st a b (with_side w g (side_at w g) bag) → In (with_side w g (side_at w g) bag) x
  unmoved w x g bag k r = record {
    reached = r;
    named = let (v, e) = k.named in (v, ap (λ (y : Side). view_in s y.records) (same-sides w q g bag Origin) ∙ e);
    is = λ role. ap (half_of role terms s) (same-sides w q g bag role) ∙ k.is role;
    under = k.under;
    fits = λ role. subst (λ (y : Side). Fits role f s terms y.book) (sym (same-sides w q g bag role)) (k.fits role);
  }

  module _ (w : World) (x : Pair) (k : In w x) (role : Role) where
    abbrev me : Party
    me = party_at st (maker_side q role)

    pub at-role : (h : Half) (r : Role) → half_at r (with_half r h x) ≡ h
    at-role h Origin = refl
    at-role h Recipient = refl

    pub at-other : (h : Half) (r : Role) → half_at (other r) (with_half r h x) ≡ half_at (other r) x
    at-other h Origin = refl
    at-other h Recipient = refl

    each : (P : Role → Type 0) → P role → P (other role) → (r : Role) → P r
    each P h g r = go role r h g
      where
        go : (role r : Role) → P role → P (other role) → P r
        go Origin Origin h g = h
        go Origin Recipient h g = g
        go Recipient Origin h g = g
        go Recipient Recipient h g = h

    by-origin : (P : Role → Type 0) (r : Role) → P r → (r ≡ Recipient → P Origin) → P Origin
    by-origin P Origin h g = h
    by-origin P Recipient h g = g refl

    -- one side has another half then
    pub stepped : (side : Side) (bag : List Text) (l : Slot) (h : Half) → Reached st a b (with_side w (maker_side q role) side bag) → HalfAt (party_at st (maker_side q role)) s role f side l h → h.view.terms ≡ terms
        → In (with_side w (maker_side q role) side bag) (with_half role h x)
    stepped side bag l h r at t =
        let v = with_side w (maker_side q role) side bag in
        let here = new-side w q role side bag in
        let there = other-side w q role side bag in
        let is : half_of role terms s side ≡ h = ap (λ o. half (view_or role terms o) (entry_of side.book.entries s)) at.at.named ∙ at.half in
        let under : l.view.terms ≡ terms = ap (λ (y : Half). y.view.terms) at.half ∙ t in
        record {
          reached = r;
          named = by-origin (λ y. (u : View) × (view_in s (side_of v q y).records ≡ Some u)) role (l.view, ap (λ (y : Side). view_in s y.records) here ∙ at.at.named)
              (λ e. let same = subst (λ y. side_of v q (other y) ≡ side_of w q (other y)) e there in let (u, n) = k.named in (u, ap (λ (y : Side). view_in s y.records) same ∙ n));
          is = each (λ y. half_of y terms s (side_of v q y) ≡ half_at y (with_half role h x)) (ap (half_of role terms s) here ∙ is ∙ sym (at-role h role)) (ap (half_of (other role) terms s) there ∙ k.is (other role) ∙ sym (at-other h role));
          under = each (λ y. (half_at y (with_half role h x)).view.terms ≡ terms) (ap (λ (y : Half). y.view.terms) (at-role h role) ∙ t) (ap (λ (y : Half). y.view.terms) (at-other h role) ∙ k.under (other role));
          fits = each (λ y. Fits y f s terms (side_of v q y).book) (subst (λ (y : Side). Fits role f s terms y.book) (sym here) (subst (λ ts. Fits role f s ts side.book) under at.fits)) (subst (λ (y : Side). Fits (other role) f s terms y.book) (sym there) (k.fits (other role)));
        }

    -- after a run of this side
    pub ran-in : (run : Run) (reply : Slot → Option Text) (h : Half) → RunGoes (party_at st (maker_side q role)) (side_of w q role) w.bag run → h.view.terms ≡ terms
        → Ran (party_at st (maker_side q role)) s role f (side_of w q role) w.bag run reply h → In (after_moves w (maker_side q role) run.moves) (with_half role h x)
    ran-in run reply h goes t ran = stepped (moved_by (side_of w q role) run.moves) (said_by w.bag run.moves) ran.slot h (moves-reach st a b w k.reached (maker_side q role) run.moves goes.moves) ran.there t

    -- ---- both chains

    pub pairs : PairStands role s (recipient_at (party_at st (maker_side q role)) role) st.key (side_of w q role) (side_of w q (other role))
    pairs = subst (λ g. PairStands role s (recipient_at (party_at st (maker_side q role)) role) st.key (side_of w q role) (side_at w g)) (across q role)
        (pair-at st w (world-stands st a b w k.reached) (maker_side q role) s role (of-role st q s own role))

    pub my-kinds : (half_at role x).view.tale ≡ map part_kind pairs.my_parts
    my-kinds = ap (λ (h : Half). h.view.tale) (sym (k.is role)) ∙ tale-or role terms (view_in s (side_of w q role).records) ∙ pairs.my_chain.tale

    pub peer-kinds : (half_at (other role) x).view.tale ≡ map part_kind pairs.peer_parts
    peer-kinds = ap (λ (h : Half). h.view.tale) (sym (k.is (other role))) ∙ tale-or (other role) terms (view_in s (side_of w q (other role)).records) ∙ pairs.peer_chain.tale

    pub my-tales : IsTale (map part_kind pairs.my_parts)
    my-tales = my-tale role s (recipient_at (party_at st (maker_side q role)) role) st.key (side_of w q role) (side_of w q (other role)) pairs

    pub peer-tales : IsTale (map part_kind pairs.peer_parts)
    peer-tales = peer-tale role s (recipient_at (party_at st (maker_side q role)) role) st.key (side_of w q role) (side_of w q (other role)) pairs

    -- the kinds of parts that go on by one
    pub one-kind : (parts more : List Part) (p : Part) → more ≡ parts ++ p ∷ [] → map part_kind more ≡ map part_kind parts ++ part_kind p ∷ []
    one-kind parts more p e = ap (map part_kind) e ∙ map-append part_kind parts (p ∷ [])

    pub kind-by : (parts more : List Part) (p : Part) (r : Role) → IsTale (map part_kind parts) → IsTale (map part_kind more) → more ≡ parts ++ p ∷ [] → role_at (length parts + 1) ≡ r → maker (part_kind p) ≡ Some r
    kind-by parts more p r t u e at =
        maker-at (map part_kind parts) (part_kind p) t (subst IsTale (one-kind parts more p e) u) ∙ ap (λ n. Some (role_at (n + 1))) (length-map parts part_kind) ∙ ap Some at

    pub near : Near role (half_at role x).view.tale (half_at (other role) x).view.tale
    near = by pairs.tied
      where
        by : TiedParts role pairs.my_parts pairs.peer_parts → Near role (half_at role x).view.tale (half_at (other role) x).view.tale
        by (Same e) = Equal (my-kinds ∙ ap (map part_kind) e ∙ sym peer-kinds)
        by (Mine_ahead p r e) = Mine (part_kind p) (kind-by pairs.peer_parts pairs.my_parts p role peer-tales my-tales e r) (my-kinds ∙ one-kind pairs.peer_parts pairs.my_parts p e ∙ ap (λ t. t ++ part_kind p ∷ []) (sym peer-kinds))
        by (Peer_ahead p r e) = Peer (part_kind p) (kind-by pairs.my_parts pairs.peer_parts p (other role) my-tales peer-tales e r) (peer-kinds ∙ one-kind pairs.my_parts pairs.peer_parts p e ∙ ap (λ t. t ++ part_kind p ∷ []) (sym my-kinds))

    -- ---- the slot of a named side

    pub slot-is : (l : Slot) → slot_in s (side_of w q role).records ≡ Some l → half l.view (entry_of (side_of w q role).book.entries s) ≡ half_at role x
    slot-is l e =
        let (named, texts) = slot-parts (view_in s (side_of w q role).records) (chain_in s (side_of w q role).records) l e in
        ap (λ o. half (view_or role terms o) (entry_of (side_of w q role).book.entries s)) (sym named) ∙ k.is role

    -- what the records of a named side say
    pub slot-half : (l : Slot) → slot_in s (side_of w q role).records ≡ Some l → HalfAt (party_at st (maker_side q role)) s role f (side_of w q role) l (half_at role x)
    slot-half l e =
        let (named, texts) = slot-parts (view_in s (side_of w q role).records) (chain_in s (side_of w q role).records) l e in
        let is = slot-is l e in
        record {
          at = record { log = logs-kept st a b w k.reached (maker_side q role); named = named; texts = texts };
          role_is = role-is role (view_in s (side_of w q role).records) (view_in s (side_of w q (other role)).records) l.view _ _ named pairs.stands;
          fits = subst (λ ts. Fits role f s ts (side_of w q role).book) (sym (ap (λ (y : Half). y.view.terms) is ∙ k.under role)) (k.fits role);
          half = is;
        }
