-- In a reached world the peer's last text, where this side's chain lacks it alone, is read, taken as the next one, and answered.
use Rattle.std.proofs.Common.{◌≡◌, suc, ◌+◌, Bool, true, false, List, [], ◌∷◌, ◌++◌, map, length, Option, Some, None, refl, sym, ap, subst, ◌∙◌, arith}
use Rattle.std.specs.List.{AllByRecursion}
use Rattle.std.proofs.lemmas.List.{length-map, length_push, map-append}
use Rattle.satp_base.proofs.ChainLemmas.{texts_appended}
use Rattle.satp_base.proofs.GenesisLemmas.{names_refl}
use Rattle.satp_base.proofs.TaleLemmas.{last-push}
use Rattle.satp_base.proofs.TaleTable.{tale-short}
use Rattle.satp_base.proofs.VerdictLemmas.{next_follows}
use Rattle.satp_base.specs.Canonical.{part_kind}
use Rattle.satp_base.specs.Chains.{last_link, message_at, name_of, next_text, role_at, texts_of}
use Rattle.satp_base.specs.Forms.{IsMessage, IsPart}
use Rattle.satp_base.specs.Founding.{Founding, equal_names}
use Rattle.satp_base.specs.LedgerRule.{entry_of}
use Rattle.satp_base.specs.Roles.{both, negate}
use Rattle.satp_base.specs.Signatures.{own}
use Rattle.satp_base.specs.Tales.{IsTale, last_of, other}
use Rattle.satp_base.specs.Verdicts.{verdict_on}
use Rattle.satp_base.specs.Views.{begin}
use Rattle.satp_base.specs.declared.message.Kind.{Kind}
use Rattle.satp_base.specs.declared.message.Kind.TheVariants.{TransferProposal}
use Rattle.satp_base.specs.declared.message.Message.{Message}
use Rattle.satp_base.specs.declared.message.Part.{Part}
use Rattle.satp_base.specs.declared.message.Part.TheVariants as part
use Rattle.satp_base.specs.declared.message.Role.{Role}
use Rattle.satp_base.specs.declared.message.Role.TheVariants.{Origin, Recipient}
use Rattle.satp_base.specs.declared.message.Terms.{Terms}
use Rattle.satp_base.specs.declared.name.Name.{Name}
use Rattle.satp_base.specs.declared.record.Rec.TheVariants.{Began, Took}
use Rattle.satp_base.specs.declared.session.SessionId.{SessionId}
use Rattle.satp_base.specs.declared.verdict.Verdict.TheVariants as verdict
use Rattle.satp_base.specs.declared.view.View.{View}
use Rattle.satp_sides.proofs.Chained.{formed-last, long, next-formed}
use Rattle.satp_sides.proofs.LogLaw.{log-grows}
use Rattle.satp_sides.proofs.Records.{chain-here, chain-none, get-new, session-self, view-first}
use Rattle.satp_sides.specs.Calls.{IsHeard, accepted, by_tests, chain_of, ended, heard_as, is_misaddressed, last_own, last_text, run_of, taken, text_of, unfit, verdict_in}
use Rattle.satp_sides.specs.Calls.Call.{Hears}
use Rattle.satp_sides.specs.Due.{Due, due}
use Rattle.satp_sides.specs.Halves.{Half, half}
use Rattle.satp_sides.specs.Logs.{MayCome}
use Rattle.satp_sides.specs.Moves.{AreMoves, Among}
use Rattle.satp_sides.specs.Moves.Delivered.{Alone}
use Rattle.satp_sides.specs.Points.{Appends, Party, Side, Slot, Stored, Text, chain_in, moved, recipient_at, slot, slot_in, stored, tale_of, view_in}
use Rattle.satp_world.proofs.DueMoves.{SlotAt}
use Rattle.satp_world.proofs.HearLaw.{taker-me}
use Rattle.satp_world.proofs.HonestLaw.{my-tale, peer-tale, state}
use Rattle.satp_world.proofs.HonestNames.{by-body}
use Rattle.satp_world.proofs.KeptLaw.{logs-kept}
use Rattle.satp_world.proofs.PairLaw.{no-parts, role-is}
use Rattle.satp_world.proofs.RunHear.{heard-run}
use Rattle.satp_world.proofs.RunLaw.{named-by, view-none-of}
use Rattle.satp_world.proofs.WorkLaw.{slot-parts}
use Rattle.satp_world.specs.Standing.{PairStands, TiedParts}
use Rattle.satp_world.specs.Standing.TiedParts.{Same, Mine_ahead, Peer_ahead}
use Rattle.satp_world.specs.Work.{RunGoes}
use Rattle.satp_world.specs.Worlds.{Gateway, Setting, World, maker_side, name_at, party_at}
use Rattle.satp_world.specs.Worlds.Gateway.{A, B}
use Rattle.satp_rounds.proofs.Joint.{In, my-kinds, of-role, pairs, peer-kinds, side_of, slot-half, twice, view_or}
use Rattle.satp_rounds.proofs.Running.{Ran, ran-noted, ran-one}
use Rattle.satp_rounds.specs.Funds.{Funds, worked}
use Rattle.satp_rounds.specs.Rounds.{Pair, half_at, takes}
use Rattle.satp_rounds.specs.Transfers.{unnamed_view}

pub last-text-push : (ts : List Text) (t : Text) → last_text (ts ++ t ∷ []) ≡ Some t
last-text-push ts t = let n = length_push ts t in let m : length ts + 1 ≡ suc (length ts) = omega arith in ap (text_of (ts ++ t ∷ [])) (n ∙ m) ∙ get-new ts t

kind-is : (j k : Kind) → Some j ≡ Some k → j ≡ k
kind-is j k e = cc e

pub same-last : (xs ys : List Kind) (j k : Kind) → xs ++ j ∷ [] ≡ ys ++ k ∷ [] → j ≡ k
same-last xs ys j k e = kind-is j k (sym (last-push xs j) ∙ ap last_of e ∙ last-push ys k)

text-is : (t u : Text) → Some t ≡ Some u → t ≡ u
text-is t u e = cc e

-- a party hears of its peer
pub sender-peer : (st : Setting) (q : Gateway) (s : SessionId) → s.gateway ≡ name_at st q → (role : Role)
    → name_of s (recipient_at (party_at st (maker_side q role)) role) (other role) ≡ (party_at st (maker_side q role)).peer
sender-peer st A s e Origin = refl
sender-peer st A s e Recipient = e
sender-peer st B s e Origin = refl
sender-peer st B s e Recipient = e

module _ (st : Setting) (a b : Founding) (q : Gateway) (s : SessionId) (own-name : s.gateway ≡ name_at st q) (terms : Terms) (f : Funds) (w : World) (x : Pair) (k : In st a b q s own-name terms f w x) (role : Role) where
  abbrev g : Gateway
  g = maker_side q role

  abbrev p : Party
  p = party_at st (maker_side q role)

  abbrev side : Side
  side = side_of w q role

  abbrev peer : Side
  peer = side_of w q (other role)

  abbrev recipient : Name
  recipient = recipient_at (party_at st (maker_side q role)) role

  abbrev pair_here : PairStands role s (recipient_at (party_at st (maker_side q role)) role) st.key (side_of w q role) (side_of w q (other role))
  pair_here = pairs st a b q s own-name terms f w x k role

  abbrev mine : List Part
  mine = (pairs st a b q s own-name terms f w x k role).my_parts

  -- the chain's next message with this part
  abbrev pub next_of_part : Part → Message
  next_of_part y = message_at s (recipient_at (party_at st (maker_side q role)) role) (length (texts_of s (recipient_at (party_at st (maker_side q role)) role) st.key (pairs st a b q s own-name terms f w x k role).my_parts) + 1)
      (last_link (texts_of s (recipient_at (party_at st (maker_side q role)) role) st.key (pairs st a b q s own-name terms f w x k role).my_parts)) y

  -- The text is the one that this side's chain lacks, of this kind: the next message with some part.
  pub record Lacks (t : Text) (kind : Kind) : Type 0 where
    pub lacked : Part
    pub kind_is : part_kind lacked ≡ kind
    pub peer_is : (pairs st a b q s own-name terms f w x k role).peer_parts ≡ (pairs st a b q s own-name terms f w x k role).my_parts ++ lacked ∷ []
    pub turn : role_at (length (pairs st a b q s own-name terms f w x k role).my_parts + 1) ≡ other role
    pub formed : IsPart lacked
    pub message : IsMessage (next_of_part lacked)
    pub text : t ≡ own st.key (next_of_part lacked)

  pub lacks : (t : Text) (kind : Kind) → (half_at (other role) x).view.tale ≡ (half_at role x).view.tale ++ kind ∷ [] → last_text (chain_in s (side_of w q (other role)).records) ≡ Some t → Lacks t kind
  lacks t kind e last = by pair_here.tied
    where
      kinds : map part_kind (pairs st a b q s own-name terms f w x k role).peer_parts ≡ map part_kind (pairs st a b q s own-name terms f w x k role).my_parts ++ kind ∷ []
      kinds = sym (peer-kinds st a b q s own-name terms f w x k role) ∙ e ∙ ap (λ ks. ks ++ kind ∷ []) (my-kinds st a b q s own-name terms f w x k role)

      longer : length (pairs st a b q s own-name terms f w x k role).peer_parts ≡ length (pairs st a b q s own-name terms f w x k role).my_parts + 1
      longer =
          let y = ap length kinds in
          let n = length_push (map part_kind (pairs st a b q s own-name terms f w x k role).my_parts) kind in
          let m = length-map (pairs st a b q s own-name terms f w x k role).my_parts part_kind in
          let l = length-map (pairs st a b q s own-name terms f w x k role).peer_parts part_kind in
          omega (arith, y, n, m, l)

      by : TiedParts role (pairs st a b q s own-name terms f w x k role).my_parts (pairs st a b q s own-name terms f w x k role).peer_parts → Lacks t kind
      by (Same z) = absurd (let y = ap length z in omega (arith, y, longer))
      by (Mine_ahead y r z) = absurd (let n = ap length z in let m = length_push (pairs st a b q s own-name terms f w x k role).peer_parts y in omega (arith, n, m, longer))
      by (Peer_ahead y r z) =
          let fp = formed-last mine y (subst (AllByRecursion IsPart) z pair_here.peer_chain.formed) in
          let tales = peer-tale role s recipient st.key side peer pair_here in
          let short = tale-short _ tales in
          let many = length-map pair_here.peer_parts part_kind in
          let chain = pair_here.peer_chain.chain ∙ ap (texts_of s recipient st.key) z ∙ texts_appended s recipient st.key mine y in
          record {
            lacked = y;
            kind_is = same-last (map part_kind mine) (map part_kind mine) (part_kind y) kind (sym (ap (map part_kind) z ∙ map-append part_kind mine (y ∷ [])) ∙ kinds);
            peer_is = z;
            turn = r;
            formed = fp;
            message = next-formed s recipient st.key mine y (omega (arith, short, many, longer)) fp;
            text = text-is _ _ (sym last ∙ ap last_text chain ∙ last-text-push (texts_of s recipient st.key mine) (next_text s recipient st.key (texts_of s recipient st.key mine) y));
          }

  -- ---- what the chain says of it

  chain-long : length (chain_in s (side_of w q role).records) ≡ length (pairs st a b q s own-name terms f w x k role).my_parts
  chain-long = ap length pair_here.my_chain.chain ∙ long s recipient st.key mine

  named-chain : (l : Slot) → slot_in s (side_of w q role).records ≡ Some l → chain_of (party_at st (maker_side q role)) s (Some l) ≡ state s (recipient_at (party_at st (maker_side q role)) role) st.key (pairs st a b q s own-name terms f w x k role).my_parts
  named-chain l e =
      let (named, texts) = slot-parts (view_in s (side_of w q role).records) (chain_in s (side_of w q role).records) l e in
      let is = role-is role (view_in s (side_of w q role).records) (view_in s (side_of w q (other role)).records) l.view _ _ named pair_here.stands in
      let tale : l.view.tale ≡ map part_kind mine = sym (ap tale_of named) ∙ pair_here.my_chain.tale in
      let chain : l.texts ≡ texts_of s recipient st.key mine = sym texts ∙ pair_here.my_chain.chain in
      λ i. record { session = s; recipient = recipient_at p (is i); tale = tale i; texts = chain i }

  recipient-here : view_in s (side_of w q role).records ≡ None → role ≡ Recipient
  recipient-here none = go role none
    where
      go : (r : Role) → view_in s (side_of w q r).records ≡ None → r ≡ Recipient
      go Origin e = absurd (cc (e, k.named.1))
      go Recipient e = refl

  no-mine : view_in s (side_of w q role).records ≡ None → (pairs st a b q s own-name terms f w x k role).my_parts ≡ []
  no-mine none = no-parts mine (sym (ap tale_of none) ∙ pair_here.my_chain.tale)

  none-chain : slot_in s (side_of w q role).records ≡ None → chain_of (party_at st (maker_side q role)) s None ≡ state s (recipient_at (party_at st (maker_side q role)) role) st.key (pairs st a b q s own-name terms f w x k role).my_parts
  none-chain e =
      let none = view-none-of st a b w k.reached g s e in
      let is = sym (recipient-here none) in
      let tale : [] ≡ map part_kind mine = sym (ap (map part_kind) (no-mine none)) in
      let chain : [] ≡ texts_of s recipient st.key mine = sym (chain-none s side.records (named-by p s side.records (logs-kept st a b w k.reached g) none)) ∙ pair_here.my_chain.chain in
      λ i. record { session = s; recipient = recipient_at p (is i); tale = tale i; texts = chain i }

  pub chain-is : (o : Option Slot) → slot_in s (side_of w q role).records ≡ o → chain_of (party_at st (maker_side q role)) s o ≡ state s (recipient_at (party_at st (maker_side q role)) role) st.key (pairs st a b q s own-name terms f w x k role).my_parts
  chain-is (Some l) e = named-chain l e
  chain-is None e = none-chain e

  module _ (t : Text) (kind : Kind) (n : Lacks t kind) where
    abbrev m : Message
    m = next_of_part n.lacked

    pub verdict-next : verdict_in (party_at st (maker_side q role)) (side_of w q role).records s (next_of_part n.lacked) t ≡ verdict.Next
    verdict-next =
        let tales = peer-tale role s recipient st.key side peer pair_here in
        let more = subst IsTale (ap (map part_kind) n.peer_is ∙ map-append part_kind mine (n.lacked ∷ [])) tales in
        let as_long : length (map part_kind mine) ≡ length (texts_of s recipient st.key mine) = length-map mine part_kind ∙ sym (long s recipient st.key mine) in
        ap (λ c. verdict_on c (next_of_part n.lacked) t) (chain-is (slot_in s side.records) refl)
        ∙ (next_follows (state s recipient st.key mine) n.lacked t as_long (my-tale role s recipient st.key side peer pair_here) n.formed more).next

    place-turn : role_at (length (texts_of s (recipient_at (party_at st (maker_side q role)) role) st.key (pairs st a b q s own-name terms f w x k role).my_parts) + 1) ≡ other role
    place-turn = ap (λ y. role_at (y + 1)) (long s recipient st.key mine) ∙ n.turn

    pub to-me : (next_of_part n.lacked).receiver ≡ (party_at st (maker_side q role)).name
    to-me = ap (λ y. name_of s recipient (other y)) place-turn ∙ ap (name_of s recipient) (twice role) ∙ taker-me p (apart st g) s role (of-role st q s own-name role)
      where
        apart : (st : Setting) (g : Gateway) → (party_at st g).name ≡ (party_at st g).peer → ⊥
        apart st A e = st.differ e
        apart st B e = st.differ (sym e)

    pub from-peer : (next_of_part n.lacked).sender ≡ (party_at st (maker_side q role)).peer
    from-peer = ap (name_of s recipient) place-turn ∙ sender-peer st q s own-name role

    pub addressed : is_misaddressed (party_at st (maker_side q role)) (next_of_part n.lacked) ≡ false
    addressed =
        ap negate (ap (λ y. both y (equal_names (next_of_part n.lacked).sender p.peer)) (subst (λ y. equal_names y p.name ≡ true) (sym to-me) (names_refl p.name))
        ∙ subst (λ y. equal_names y p.peer ≡ true) (sym from-peer) (names_refl p.peer))

    -- ---- taking it

    first-may : (r : Stored) (c : Bool) (d : Due) (o : Option Text) → AreMoves (party_at st (maker_side q role)) (side_of w q role) w.bag (ended c d (Appends r ∷ []) o).moves → MayCome (party_at st (maker_side q role)) (side_of w q role).records r
    first-may r true d o ms = ms.0.may_come
    first-may r false d o ms = ms.0.may_come

    take-named : (l : Slot) → slot_in s (side_of w q role).records ≡ Some l → RunGoes (party_at st (maker_side q role)) (side_of w q role) w.bag (taken (party_at st (maker_side q role)) (side_of w q role) s (Some l) n.lacked t)
        → Ran (party_at st (maker_side q role)) s role f (side_of w q role) w.bag (taken (party_at st (maker_side q role)) (side_of w q role) s (Some l) n.lacked t) last_own (takes role f kind (half_at role x))
    take-named l e goes =
        let at = slot-half st a b q s own-name terms f w x k role l e in
        subst (λ h. Ran p s role f side w.bag (taken p side s (Some l) n.lacked t) last_own (takes role f kind h)) at.half
        (subst (λ j. Ran p s role f side w.bag (taken p side s (Some l) n.lacked t) last_own (takes role f j (half l.view (entry_of side.book.entries s)))) n.kind_is
        (ran-noted p s role f side w.bag l (Took (part_kind n.lacked)) t last_own at.at at.role_is at.fits goes))

    -- of the first message
    proposal-is : view_in s (side_of w q role).records ≡ None → n.lacked ≡ part.Proposal terms
    proposal-is none =
        let one : pair_here.peer_parts ≡ n.lacked ∷ [] = n.peer_is ∙ ap (λ ps. ps ++ n.lacked ∷ []) (no-mine none) in
        let (v, e) = named-peer (recipient-here none) in
        let (rest, head) = pair_here.peer_chain.headed v e in
        first-is _ _ _ _ (sym one ∙ head) ∙ ap part.Proposal (terms-are v e)
      where
        named-peer : role ≡ Recipient → (v : View) × (view_in s (side_of w q (other role)).records ≡ Some v)
        named-peer e = subst (λ r. (v : View) × (view_in s (side_of w q (other r)).records ≡ Some v)) (sym e) k.named

        terms-are : (v : View) → view_in s (side_of w q (other role)).records ≡ Some v → v.terms ≡ terms
        terms-are v e = ap (λ o. (view_or (other role) terms o).terms) (sym e) ∙ ap (λ (h : Half). h.view.terms) (k.is (other role)) ∙ k.under (other role)

        first-is : (y z : Part) (ys zs : List Part) → y ∷ ys ≡ z ∷ zs → y ≡ z
        first-is y z ys zs e = cc e

    kind-proposal : view_in s (side_of w q role).records ≡ None → kind ≡ TransferProposal
    kind-proposal none = sym n.kind_is ∙ ap part_kind (proposal-is none)

    take-first : slot_in s (side_of w q role).records ≡ None → RunGoes (party_at st (maker_side q role)) (side_of w q role) w.bag (taken (party_at st (maker_side q role)) (side_of w q role) s None n.lacked t)
        → Ran (party_at st (maker_side q role)) s role f (side_of w q role) w.bag (taken (party_at st (maker_side q role)) (side_of w q role) s None n.lacked t) last_own (takes role f kind (half_at role x))
    take-first e goes =
        let none = view-none-of st a b w k.reached g s e in
        let proposal = proposal-is none in
        let unnamed = named-by p s side.records (logs-kept st a b w k.reached g) none in
        let y = stored s (Began Recipient terms) t in
        let l = slot (begin Recipient terms) (t ∷ []) in
        let goes' = subst (λ z. RunGoes p side w.bag (taken p side s None z t)) proposal goes in
        let may = first-may y (due p s l side.book).in_order (due p s l side.book) (last_own (due p s l side.book).slot) goes'.moves in
        let at : SlotAt p s (moved side (Appends y)) l = record {
          log = (log-grows p).more side.records y (logs-kept st a b w k.reached g) may;
          named = view-first s side.records y (session-self s) unnamed;
          texts = chain-here s side.records y (session-self s) ∙ ap (λ ts. ts ++ t ∷ []) (chain-none s side.records unnamed);
        } in
        let here : half (unnamed_view Recipient terms) (entry_of side.book.entries s) ≡ half_at role x = ap (λ r. half (view_or r terms None) (entry_of side.book.entries s)) (sym (recipient-here none)) ∙ ap (λ o. half (view_or role terms o) (entry_of side.book.entries s)) (sym none) ∙ k.is role in
        let ran = ran-one p s role f side w.bag y l last_own at (sym (recipient-here none)) (k.fits role) goes' in
        let half_is : worked role f (half (begin Recipient terms) (entry_of side.book.entries s)) ≡ takes role f kind (half_at role x) = ap (takes role f TransferProposal) here ∙ ap (λ j. takes role f j (half_at role x)) (sym (kind-proposal none)) in
        subst (λ z. Ran p s role f side w.bag (taken p side s None z t) last_own (takes role f kind (half_at role x))) (sym proposal)
        (subst (Ran p s role f side w.bag (taken p side s None (part.Proposal terms) t) last_own) half_is ran)

    pub take-any : (o : Option Slot) → slot_in s (side_of w q role).records ≡ o → RunGoes (party_at st (maker_side q role)) (side_of w q role) w.bag (taken (party_at st (maker_side q role)) (side_of w q role) s o n.lacked t)
        → Ran (party_at st (maker_side q role)) s role f (side_of w q role) w.bag (taken (party_at st (maker_side q role)) (side_of w q role) s o n.lacked t) last_own (takes role f kind (half_at role x))
    take-any (Some l) e goes = take-named l e goes
    take-any None e goes = take-first e goes

    -- ---- handed over

    pub record Handed : Type 0 where
      pub heard : IsHeard st.key (Hears (next_of_part n.lacked) t None)
      pub goes : RunGoes (party_at st (maker_side q role)) (side_of w q role) w.bag (run_of (party_at st (maker_side q role)) (side_of w q role) (Hears (next_of_part n.lacked) t None))
      pub ran : Ran (party_at st (maker_side q role)) s role f (side_of w q role) w.bag (run_of (party_at st (maker_side q role)) (side_of w q role) (Hears (next_of_part n.lacked) t None)) last_own (takes role f kind (half_at role x))

    run-is : Among t w.bag → run_of (party_at st (maker_side q role)) (side_of w q role) (Hears (next_of_part n.lacked) t None) ≡ taken (party_at st (maker_side q role)) (side_of w q role) s (slot_in s (side_of w q role).records) n.lacked t
    unfolding run_of
    run-is i =
        let none = by-body st a b w k.reached g (next_of_part n.lacked) t n.message n.text (Alone i) to-me None ∙ ap unfit verdict-next in
        ap (λ o. by_tests o (accepted p side (Hears (next_of_part n.lacked) t None))) none ∙ ap (heard_as p side s t n.lacked) verdict-next

    pub handed : Among t w.bag → Handed
    handed i =
        let heard : IsHeard st.key (Hears (next_of_part n.lacked) t None) = ((n.message, n.text), refl) in
        let goes = heard-run st a b w k.reached g (next_of_part n.lacked) t None heard (Alone i) in
        record {
          heard = heard;
          goes = goes;
          ran = subst (λ run. Ran p s role f side w.bag run last_own (takes role f kind (half_at role x))) (sym (run-is i))
              (take-any (slot_in s side.records) refl (subst (RunGoes p side w.bag) (run-is i) goes));
        }
