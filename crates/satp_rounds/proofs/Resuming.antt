-- A session that is resumed by texts is resumed by kinds.
use Rattle.std.proofs.Common.{◌≡◌, inl, inr, ℕ, zero, suc, ◌+◌, ◌==◌, ◌<◌, Bool, true, false, [], ◌∷◌, ◌++◌, length, Option, Some, None, Ok, refl, sym, ap, subst, ◌∙◌, arith, if◌then◌else◌}
use Rattle.std.specs.Prelude.{slice_get}
use Rattle.std.proofs.lemmas.Bool.{eq-eqb, ne_eqb}
use Rattle.std.proofs.lemmas.List.{length-map, length_push}
use Rattle.satp_base.proofs.Places.{maker-at}
use Rattle.satp_base.proofs.TaleTable.{tale-short}
use Rattle.satp_base.specs.Canonical.{part_kind}
use Rattle.satp_base.specs.Chains.{message_at, name_of, role_at, texts_of}
use Rattle.satp_base.specs.Founding.{Founding}
use Rattle.satp_base.specs.Tales.{IsTale, kind_at, last_by, last_of, maker, other}
use Rattle.satp_base.specs.declared.message.Kind.{Kind}
use Rattle.satp_base.specs.declared.message.Message.{Message}
use Rattle.satp_base.specs.declared.message.Role.{Role}
use Rattle.satp_base.specs.declared.message.Terms.{Terms}
use Rattle.satp_base.specs.declared.name.Name.{Name}
use Rattle.satp_base.specs.declared.session.SessionId.{SessionId}
use Rattle.satp_base.specs.declared.verdict.Verdict.TheVariants as verdict
use Rattle.satp_base.specs.Verdicts.{verdict_on}
use Rattle.satp_sides.proofs.Chained.{HasMessage, message-of}
use Rattle.satp_sides.proofs.Records.{chain-none, get-bound, get-new, get-old, get-split}
use Rattle.satp_sides.specs.Calls.{IsHeard, Run, accepted, again_reply as again_text, by_tests, heard_as, last_text, named, run_of, runs, text_of, unfit, verdict_in}
use Rattle.satp_sides.specs.Calls.Call.{Hears}
use Rattle.satp_sides.specs.Halves.{Half}
use Rattle.satp_sides.specs.Moves.Delivered.{Alone}
use Rattle.satp_sides.specs.Points.{Party, Side, Slot, Text, chain_in, recipient_at, slot_in}
use Rattle.satp_world.proofs.HearLaw.{taker-me}
use Rattle.satp_world.proofs.HonestNames.{by-body}
use Rattle.satp_world.proofs.KeptLaw.{logs-kept}
use Rattle.satp_world.proofs.RunHear.{heard-run}
use Rattle.satp_world.proofs.RunLaw.{named-by, view-none-of}
use Rattle.satp_world.specs.Histories.{after_moves}
use Rattle.satp_world.specs.Standing.{PairStands}
use Rattle.satp_world.specs.Work.{RunGoes}
use Rattle.satp_world.specs.Worlds.{Gateway, Setting, World, maker_side, name_at, party_at}
use Rattle.satp_rounds.proofs.Exchanging.{Replies, Talked, replies, taken-in}
use Rattle.satp_rounds.proofs.Exchanging.Replies.{Quiet, Speaks}
use Rattle.satp_rounds.proofs.Handing.{chain-is, handed, lacks, last-text-push, next_of_part}
use Rattle.satp_rounds.proofs.Joint.{In, across, at-role, my-kinds, my-tales, of-role, pairs, peer-kinds, peer-tales, side_of, slot-half, twice}
use Rattle.satp_rounds.proofs.Repeating.{PlacedReplies, StandsAtPlace, again-said, apart, place-again, worked-in}
use Rattle.satp_rounds.proofs.Repeating.PlacedReplies.{Nothing, Places}
use Rattle.satp_rounds.proofs.Running.{Ran, ran-none}
use Rattle.satp_rounds.proofs.Tying.{Both, as-long, both as both_chains}
use Rattle.satp_rounds.proofs.Tying.Both.{Level, MineAhead, PeerAhead}
use Rattle.satp_rounds.specs.Conversations.{Converses, Hands}
use Rattle.satp_rounds.specs.Conversations.Converses.{Ends, Goes}
use Rattle.satp_rounds.specs.Conversations.Hands.{Heard}
use Rattle.satp_rounds.specs.Funds.{Funds, worked}
use Rattle.satp_rounds.specs.Rounds.{Pair, half_at, reply_of, takes, with_half}
use Rattle.satp_rounds.specs.Transfers.{Placed, Talk, handed as handed_kind, last_placed, next_reply, one_more, placed, replied as replied_kind, talk}

next-by : (role : Role) (h : Half) → next_reply role h ≡ placed (length h.view.tale) (reply_of role h)
next-by role h = go (last_by role h.view.tale)
  where
    go : (c : Bool) → (if c then last_placed h else None) ≡ placed (length h.view.tale) (if c then last_of h.view.tale else None)
    go true = refl
    go false = refl

kind-one : (j k : Kind) → Some j ≡ Some k → j ≡ k
kind-one j k e = cc e

role-one : (r z : Role) → Some r ≡ Some z → r ≡ z
role-one r z e = cc e

text-one : (t u : Text) → Some t ≡ Some u → t ≡ u
text-one t u e = cc e

module _ (st : Setting) (a b : Founding) (q : Gateway) (s : SessionId) (own-name : s.gateway ≡ name_at st q) (terms : Terms) (f : Funds) where
  module _ (w : World) (x : Pair) (k : In st a b q s own-name terms f w x) (role : Role) where
    abbrev g : Gateway
    g = maker_side q role

    abbrev p : Party
    p = party_at st (maker_side q role)

    abbrev side : Side
    side = side_of w q role

    abbrev name : Name
    name = recipient_at (party_at st (maker_side q role)) role

    -- the text was handed over, as the next or again
    pub record Turned (c : Bool) (n : ℕ) (kind : Kind) (t : Text) : Type 0 where
      pub run : Run
      pub hands : (reply : Option Text) → run.answer ≡ Some (Ok reply) → Hands st w (maker_side q role) t reply (after_moves w (maker_side q role) run.moves)
      pub ends : In st a b q s own-name terms f (after_moves w (maker_side q role) run.moves) (with_half role (handed_kind c role f (n, kind) (half_at role x)) x)
      pub replies : PlacedReplies st a b q s own-name terms f role run (replied_kind c role (n, kind) (handed_kind c role f (n, kind) (half_at role x))) (after_moves w (maker_side q role) run.moves) (with_half role (handed_kind c role f (n, kind) (half_at role x)) x)

    -- ---- as the next

    next-turned : (i : ℕ) (j : Kind) (t : Text) → StandsAtPlace st a b q s own-name terms f w x (other role) (suc i) j t → maker j ≡ Some (other role) → (half_at (other role) x).view.tale ≡ (half_at role x).view.tale ++ j ∷ []
        → last_text (chain_in s (side_of w q (other role)).records) ≡ Some t → Turned true (suc i) j t
    next-turned i j t at made m last =
        let l = lacks st a b q s own-name terms f w x k role t j m last in
        let c = next_of_part st a b q s own-name terms f w x k role l.lacked in
        let h = handed st a b q s own-name terms f w x k role t j l at.among in
        let run = run_of p side (Hears c t None) in
        let new = takes role f j (half_at role x) in
        let v = after_moves w g run.moves in
        let y = with_half role new x in
        let inside = taken-in st a b q s own-name terms f w x k role j t run h.goes m made h.ran in
        record {
          run = run;
          hands = λ reply ok. Heard c None reply h.heard ok;
          ends = inside;
          replies = by v y new run inside (at-role st a b q s own-name terms f w x k role new role) (replies st a b q s own-name terms f w x k role j t run h.goes m made h.ran);
        }
      where
        by : (v : World) (y : Pair) (new : Half) (run : Run) → In st a b q s own-name terms f v y → half_at role y ≡ new → Replies st a b q s own-name terms f role run new v y → PlacedReplies st a b q s own-name terms f role run (next_reply role new) v y
        by v y new run inside same (Quiet e o) = Nothing e (next-by role new ∙ ap (placed (length new.view.tale)) o)
        by v y new run inside same (Speaks j u e o ready) =
            let kinds = ap (λ (z : Half). z.view.tale) (sym same) ∙ ready.ahead in
            let others = (half_at (other role) y).view.tale in
            let many = ap length kinds ∙ length_push others j in
            let more : length others + 1 ≡ suc (length others) = omega arith in
            let tale = subst IsTale (sym (peer-kinds st a b q s own-name terms f v y inside role)) (peer-tales st a b q s own-name terms f v y inside role) in
            let longer = subst IsTale (sym (my-kinds st a b q s own-name terms f v y inside role) ∙ ready.ahead) (my-tales st a b q s own-name terms f v y inside role) in
            let texts = as-long st a b q s own-name terms f v y inside role ∙ ap (λ (z : Half). length z.view.tale) same in
            Places (length new.view.tale) j u e (next-by role new ∙ ap (placed (length new.view.tale)) o)
            (record {
              among = ready.among;
              text = ap (text_of (chain_in s (side_of v q role).records)) (sym texts) ∙ ready.last;
              kind = ap (λ ks. kind_at ks (length new.view.tale)) ready.ahead ∙ ap (kind_at (others ++ j ∷ [])) (many ∙ more) ∙ get-new others j;
              turn = ap role_at many ∙ sym (role-one _ _ (sym ready.made ∙ maker-at others j tale longer));
            })

    -- ---- again

    module _ (i : ℕ) (kind : Kind) (t : Text) (at : StandsAtPlace st a b q s own-name terms f w x (other role) (suc i) kind t) (old : slice_get (chain_in s (side_of w q role).records) i ≡ Some t) where
      abbrev here : PairStands role s (recipient_at (party_at st (maker_side q role)) role) st.key (side_of w q role) (side_of w q (other role))
      here = pairs st a b q s own-name terms f w x k role

      in-parts : slice_get (texts_of s (recipient_at (party_at st (maker_side q role)) role) st.key (pairs st a b q s own-name terms f w x k role).my_parts) i ≡ Some t
      in-parts = ap (λ ts. slice_get ts i) (sym here.my_chain.chain) ∙ old

      read : HasMessage s (recipient_at (party_at st (maker_side q role)) role) st.key (suc i) t
      read =
          let short = tale-short _ (my-tales st a b q s own-name terms f w x k role) in
          let many = length-map here.my_parts part_kind in
          let one : i + 1 ≡ suc i = omega arith in
          subst (λ n. HasMessage s name st.key n t) one (message-of s name st.key here.my_parts i t (omega (arith, short, many)) here.my_chain.formed in-parts)

      abbrev m : Message
      m = message_at s (recipient_at (party_at st (maker_side q role)) role) (suc i) read.previous read.part

      to-me : m.receiver ≡ (party_at st (maker_side q role)).name
      to-me = ap (λ z. name_of s name (other z)) at.turn ∙ ap (name_of s name) (twice role) ∙ taker-me p (apart st g) s role (of-role st q s own-name role)

      says-again : verdict_in (party_at st (maker_side q role)) (side_of w q role).records s m t ≡ verdict.Again (suc i)
      says-again = ap (λ c. verdict_on c m t) (chain-is st a b q s own-name terms f w x k role (slot_in s side.records) refl) ∙ place-again s name st.key here.my_parts i read.previous read.part t in-parts

      named-slot : (l : Slot) × (slot_in s (side_of w q role).records ≡ Some l)
      named-slot = by (slot_in s side.records) refl
        where
          by : (o : Option Slot) → slot_in s (side_of w q role).records ≡ o → (l : Slot) × (slot_in s (side_of w q role).records ≡ Some l)
          by (Some l) h = (l, h)
          by None h =
              let empty = chain-none s side.records (named-by p s side.records (logs-kept st a b w k.reached g) (view-none-of st a b w k.reached g s h)) in
              (let none = sym old ∙ ap (λ ts. slice_get ts i) empty in absurd (cc none))

      heard : IsHeard st.key (Hears m t None)
      heard = ((read.formed, read.text), refl)

      run-is : (l : Slot) → slot_in s (side_of w q role).records ≡ Some l → run_of (party_at st (maker_side q role)) (side_of w q role) (Hears m t None) ≡ runs (party_at st (maker_side q role)) (side_of w q role) s l [] (again_text (suc i))
      unfolding run_of
      run-is l e =
          let none = by-body st a b w k.reached g m t read.formed read.text (Alone at.among) to-me None ∙ ap unfit says-again in
          ap (λ o. by_tests o (accepted p side (Hears m t None))) none ∙ ap (heard_as p side s t read.part) says-again ∙ ap (named (λ l. runs p side s l [] (again_text (suc i)))) e

      again-turned : Turned false (suc i) kind t
      again-turned =
          let (l, e) = named-slot in
          let run = run_of p side (Hears m t None) in
          let goes = heard-run st a b w k.reached g m t None heard (Alone at.among) in
          let there = slot-half st a b q s own-name terms f w x k role l e in
          let ran : Ran p s role f side w.bag run (again_text (suc i)) (worked role f (half_at role x)) =
          subst (λ r. Ran p s role f side w.bag r (again_text (suc i)) (worked role f (half_at role x))) (sym (run-is l e))
          (subst (λ h. Ran p s role f side w.bag (runs p side s l [] (again_text (suc i))) (again_text (suc i)) (worked role f h)) there.half
          (ran-none p s role f side w.bag l (again_text (suc i)) there.at there.role_is there.fits (subst (RunGoes p side w.bag) (run-is l e) goes))) in
          record {
            run = run;
            hands = λ reply ok. Heard m None reply heard ok;
            ends = worked-in st a b q s own-name terms f w x k role run (again_text (suc i)) goes ran;
            replies = again-said st a b q s own-name terms f w x k role run (again_text (suc i)) goes ran (suc i) at.turn refl;
          }

    -- ---- either

    turned : (n : ℕ) (kind : Kind) (t : Text) → StandsAtPlace st a b q s own-name terms f w x (other role) n kind t → Turned (n == length (half_at role x).view.tale + 1) n kind t
    turned zero kind t at = absurd (cc at.text)
    turned (suc i) kind t at = by (both_chains st a b q s own-name terms f w x k role)
      where
        -- it stands in this side's chain
        old-one : slice_get (chain_in s (side_of w q role).records) i ≡ Some t → Turned (suc i == length (half_at role x).view.tale + 1) (suc i) kind t
        old-one old =
            let bound = get-bound (chain_in s side.records) i t old in
            let many = as-long st a b q s own-name terms f w x k role in
            subst (λ c. Turned c (suc i) kind t) (sym (ne_eqb (suc i) (length (half_at role x).view.tale + 1) (λ e. omega (arith, bound, many, e)))) (again-turned i kind t at old)

        new-one : (j : Kind) (u : Text) → maker j ≡ Some (other role) → (half_at (other role) x).view.tale ≡ (half_at role x).view.tale ++ j ∷ [] → chain_in s (side_of w q (other role)).records ≡ chain_in s (side_of w q role).records ++ u ∷ []
            → i ≡ length (chain_in s (side_of w q role).records) → u ≡ t → Turned (suc i == length (half_at role x).view.tale + 1) (suc i) kind t
        new-one j u d m e n same =
            let many = as-long st a b q s own-name terms f w x k role in
            let place : i ≡ length (half_at role x).view.tale = n ∙ many in
            let kinds : j ≡ kind = kind-one j kind (sym (ap (λ ks. slice_get ks i) m ∙ ap (slice_get ((half_at role x).view.tale ++ j ∷ [])) place ∙ get-new (half_at role x).view.tale j) ∙ at.kind) in
            let last : last_text (chain_in s (side_of w q (other role)).records) ≡ Some t = ap last_text e ∙ last-text-push (chain_in s side.records) u ∙ ap Some same in
            subst (λ c. Turned c (suc i) kind t) (sym (eq-eqb (suc i) (length (half_at role x).view.tale + 1) (omega (arith, place))))
            (next-turned i kind t at (ap maker (sym kinds) ∙ d) (m ∙ ap (λ z. (half_at role x).view.tale ++ z ∷ []) kinds) last)

        by : Both role (half_at role x).view.tale (half_at (other role) x).view.tale (chain_in s (side_of w q role).records) (chain_in s (side_of w q (other role)).records) → Turned (suc i == length (half_at role x).view.tale + 1) (suc i) kind t
        by (Level m e) = old-one (ap (λ ts. slice_get ts i) e ∙ at.text)
        by (MineAhead j u d m e) = old-one (ap (λ ts. slice_get ts i) e ∙ get-old (chain_in s (side_of w q (other role)).records) (u ∷ []) i t at.text)
        by (PeerAhead j u d m e) = elim (get-split (chain_in s side.records) u i t (ap (λ ts. slice_get ts i) (sym e) ∙ at.text)) [
          | inl old ↦ old-one old
          | inr new ↦ new-one j u d m e new.0 new.1
        ]

  -- ---- and so on

  pub quiet-talk : (n : ℕ) (role : Role) (y : Pair) → talk n role f None y ≡ record { texts = 0; after = y }
  quiet-talk zero role y = refl
  quiet-talk (suc n) role y = refl

  abbrev TalksPlaced : ℕ → Type 0
  TalksPlaced n =
      (w : World) (x : Pair) (from : Role) (m : ℕ) (kind : Kind) (t : Text) → In st a b q s own-name terms f w x → StandsAtPlace st a b q s own-name terms f w x from m kind t → (talk n from f (Some (m, kind)) x).texts < n
      → Talked st a b q s own-name terms f w (maker_side q (other from)) t (talk n from f (Some (m, kind)) x).texts (talk n from f (Some (m, kind)) x).after

  then-placed : (n : ℕ) → TalksPlaced n → (w : World) (t : Text) (role : Role) (run : Run) (c : Option Placed) (v : World) (y : Pair) → ((reply : Option Text) → run.answer ≡ Some (Ok reply) → Hands st w (maker_side q role) t reply v)
      → In st a b q s own-name terms f v y → PlacedReplies st a b q s own-name terms f role run c v y → (talk n role f c y).texts < n
      → Talked st a b q s own-name terms f w (maker_side q role) t (one_more (talk n role f c y)).texts (one_more (talk n role f c y)).after
  then-placed n more w t role run c v y hands i (Nothing e o) short =
      subst (λ z. Talked st a b q s own-name terms f w (maker_side q role) t (one_more (talk n role f z y)).texts (one_more (talk n role f z y)).after) (sym o)
      (subst (λ (z : Talk). Talked st a b q s own-name terms f w (maker_side q role) t (one_more z).texts (one_more z).after) (sym (quiet-talk n role y))
      (record { texts = t ∷ []; after = v; converses = Ends w (maker_side q role) t v (hands None e); count = refl; ends = i }))
  then-placed n more w t role run c v y hands i (Places m j u e o at) short =
      let rest = more v y role m j u i at (subst (λ z. (talk n role f z y).texts < n) o short) in
      let count = rest.count in
      subst (λ z. Talked st a b q s own-name terms f w (maker_side q role) t (one_more (talk n role f z y)).texts (one_more (talk n role f z y)).after) (sym o)
      (record {
        texts = t ∷ rest.texts;
        after = rest.after;
        converses = Goes w (maker_side q role) t u v rest.texts rest.after (hands (Some u) e) (subst (λ z. Converses st v z u rest.texts rest.after) (sym (across q role)) rest.converses);
        count = omega (arith, count);
        ends = rest.ends;
      })

  less : (m n : ℕ) → m + 1 < suc n → m < n
  less m n h = omega (arith, h)

  pub talks-placed : (n : ℕ) → TalksPlaced n
  talks-placed zero w x from m kind t i at short = absurd (omega (arith, short))
  talks-placed (suc n) w x from m kind t i at short =
      let role = other from in
      let there = subst (λ r. StandsAtPlace st a b q s own-name terms f w x r m kind t) (sym (twice from)) at in
      let h = turned w x i role m kind t there in
      let next = m == length (half_at role x).view.tale + 1 in
      let new = handed_kind next role f (m, kind) (half_at role x) in
      then-placed n (talks-placed n) w t role h.run (replied_kind next role (m, kind) new) (after_moves w (maker_side q role) h.run.moves) (with_half role new x) h.hands h.ends h.replies (less _ n short)
