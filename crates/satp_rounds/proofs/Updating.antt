-- What the starter does with the update, and the exchange that follows.
use Rattle.std.proofs.Common.{◌≡◌, ℕ, zero, suc, ◌-◌, ◌<◌, ◌≤◌, true, List, [], ◌∷◌, ◌++◌, length, drop, Option, Some, None, Ok, refl, sym, ap, subst, ◌∙◌, arith, if◌then◌else◌}
use Rattle.std.specs.Prelude.{nat_lt}
use Rattle.std.proofs.lemmas.Bool.{and_from, le-ltb, lt-ltb}
use Rattle.std.proofs.lemmas.List.{length_push}
use Rattle.satp_base.proofs.Places.{maker-at}
use Rattle.satp_base.proofs.TaleLemmas.{last-push}
use Rattle.satp_base.proofs.TextSizes.{chain-entry}
use Rattle.satp_base.specs.Chains.{head_of, role_at}
use Rattle.satp_base.specs.Forms.{IsMessage, is_entry}
use Rattle.satp_base.specs.Founding.{Founding}
use Rattle.satp_base.specs.Roles.{both, negate}
use Rattle.satp_base.specs.Signatures.{own}
use Rattle.satp_base.specs.Tales.{IsTale, is_role, last_by, last_of, maker, other}
use Rattle.satp_base.specs.declared.message.Body.TheVariants as body
use Rattle.satp_base.specs.declared.message.Kind.{Kind}
use Rattle.satp_base.specs.declared.message.Message.{Message}
use Rattle.satp_base.specs.declared.message.Role.{Role}
use Rattle.satp_base.specs.declared.message.Role.TheVariants.{Origin, Recipient}
use Rattle.satp_base.specs.declared.message.Terms.{Terms}
use Rattle.satp_base.specs.declared.session.SessionId.{SessionId}
use Rattle.satp_recovery.proofs.RoundLemmas.{takes-by}
use Rattle.satp_recovery.specs.Rounds.{take_of}
use Rattle.satp_recovery.specs.Rounds.Takes.{Adopts, AsMany, Resends}
use Rattle.satp_recovery.specs.declared.choice.Step.{Step}
use Rattle.satp_recovery.specs.declared.choice.Step.TheVariants.{Adopt, Equal, Resend}
use Rattle.satp_sides.proofs.Records.{chain-none, session-self}
use Rattle.satp_sides.specs.Calls.{IsHeard, Run, accepted, by_tests, is_adopted, is_next, last_own, last_text, named, own_at, replied, run_of, step_refusal, text_of, update_text, updated, verdict_in}
use Rattle.satp_sides.specs.Calls.Call.{Hears}
use Rattle.satp_sides.specs.Moves.{Among, last_texts, message_from}
use Rattle.satp_sides.specs.Moves.Among.{first}
use Rattle.satp_sides.specs.Moves.Delivered.{Alone}
use Rattle.satp_sides.specs.Points.{Party, Side, Slot, Text, chain_in, is_session, slot_in}
use Rattle.satp_world.proofs.HonestNames.{by-body}
use Rattle.satp_world.proofs.KeptLaw.{logs-kept, moves-reach}
use Rattle.satp_world.proofs.RunHear.{heard-run}
use Rattle.satp_world.proofs.RunLaw.{named-by, view-none-of}
use Rattle.satp_world.specs.Histories.{after_moves}
use Rattle.satp_world.specs.Work.{RunGoes}
use Rattle.satp_world.specs.Worlds.{Gateway, Reached, Setting, World, maker_side, name_at, party_at, with_side}
use Rattle.satp_rounds.proofs.Asking.{recovers-to}
use Rattle.satp_rounds.proofs.Exchanging.{Ready, Talked, replies, taken-in, talks, then-talks}
use Rattle.satp_rounds.proofs.Exchanging.Replies.{Speaks}
use Rattle.satp_rounds.proofs.Growing.{is-last}
use Rattle.satp_rounds.proofs.Handing.{addressed, lacks, last-text-push, next_of_part, take-any, verdict-next}
use Rattle.satp_rounds.proofs.Joint.{In, across, bag-is, my-kinds, my-tales, peer-kinds, peer-tales, same-sides, side_of, slot-half, unmoved}
use Rattle.satp_rounds.proofs.Running.{Ran}
use Rattle.satp_rounds.proofs.Tying.{Both, both as both_chains, chain-short, last-none, last-one, as-long}
use Rattle.satp_rounds.proofs.Tying.Both.{Level, MineAhead, PeerAhead}
use Rattle.satp_rounds.specs.Conversations.{Hands}
use Rattle.satp_rounds.specs.Conversations.Converses.{Ends}
use Rattle.satp_rounds.specs.Conversations.Hands.{Heard}
use Rattle.satp_rounds.specs.Funds.{Funds}
use Rattle.satp_rounds.specs.Rounds.{Pair, Passing, answers_update, enough, exchange, half_at, passing, reply_of, takes, with_half}

drop-all : (n : ℕ) (ks : List Kind) → length ks ≤ n → drop n ks ≡ []
drop-all zero [] h = refl
drop-all (suc n) [] h = refl
drop-all zero (k ∷ ks) h = absurd (omega (arith, h))
drop-all (suc n) (k ∷ ks) h = drop-all n ks (omega (arith, h))

drop-push : (ks : List Kind) (k : Kind) → drop (length ks) (ks ++ k ∷ []) ≡ k ∷ []
drop-push [] k = refl
drop-push (j ∷ ks) k = drop-push ks k

role-self : (role : Role) → is_role role (Some role) ≡ true
role-self Origin = refl
role-self Recipient = refl

some-role : (r z : Role) → Some r ≡ Some z → r ≡ z
some-role r z e = cc e

module _ (st : Setting) (a b : Founding) (q : Gateway) (s : SessionId) (own-name : s.gateway ≡ name_at st q) (terms : Terms) (f : Funds) (w : World) (x : Pair) (k : In st a b q s own-name terms f w x) (role : Role) where
  abbrev g : Gateway
  g = maker_side q role

  abbrev p : Party
  p = party_at st (maker_side q role)

  abbrev side : Side
  side = side_of w q role

  abbrev mine : List Text
  mine = chain_in s (side_of w q role).records

  abbrev peer : List Text
  peer = chain_in s (side_of w q (other role)).records

  -- the update with these entries
  abbrev update_with : List Text → Message
  update_with entries = message_from (party_at st (maker_side q (other role))) s (body.Update (length (chain_in s (side_of w q (other role)).records)) entries)

  abbrev my_tale : List Kind
  my_tale = (half_at role x).view.tale

  abbrev peer_tale : List Kind
  peer_tale = (half_at (other role) x).view.tale

  -- what passes by kinds
  abbrev pub update_passes : Passing
  update_passes = answers_update role f (drop (length (half_at role x).view.tale) (half_at (other role) x).view.tale) (nat_lt (length (half_at (other role) x).view.tale) (length (half_at role x).view.tale)) x

  to-me : (party_at st (maker_side q (other role))).peer ≡ name_at st (maker_side q role)
  to-me = recovers-to st a b q s own-name terms f w x k role

  short-peer : length (chain_in s (side_of w q (other role)).records) ≤ 11
  short-peer = chain-short st a b q s own-name terms f w x k (other role)

  -- how the starter hears an update with these entries
  hears-run : (entries : List Text) (e : Option Message) (t : Text) (step : Step) → IsMessage (update_with entries) → t ≡ own st.key (update_with entries) → Among t w.bag
      → Ok step ≡ take_of (head_of (chain_in s (side_of w q role).records)) (length (chain_in s (side_of w q (other role)).records)) (length entries)
      → step_refusal (is_adopted (party_at st (maker_side q role)) (side_of w q role).records s entries e) (Ok step) ≡ None
      → run_of (party_at st (maker_side q role)) (side_of w q role) (Hears (update_with entries) t e) ≡ updated (party_at st (maker_side q role)) (side_of w q role) s entries e (Ok step)
  unfolding run_of
  hears-run entries e t step formed is i take ok =
      let none = by-body st a b w k.reached g (update_with entries) t formed is (Alone i) to-me e ∙ ap (step_refusal (is_adopted p side.records s entries e)) (sym take) ∙ ok in
      ap (λ o. by_tests o (accepted p side (Hears (update_with entries) t e))) none ∙ ap (updated p side s entries e) (sym take)

  empty-formed : IsMessage (update_with [])
  empty-formed = ((short-peer, refl), tt)

  module _ (t : Text) (is : t ≡ update_text (party_at st (maker_side q (other role))) s (length (chain_in s (side_of w q role).records)) (chain_in s (side_of w q (other role)).records)) (i : Among t w.bag) where
    text-with : (entries : List Text) → last_texts (length (chain_in s (side_of w q (other role)).records) - length (chain_in s (side_of w q role).records)) (chain_in s (side_of w q (other role)).records) ≡ entries → t ≡ own st.key (update_with entries)
    text-with entries e = is ∙ ap (λ es. own st.key (update_with es)) e

    -- ---- both chains are as long

    level : (half_at role x).view.tale ≡ (half_at (other role) x).view.tale → chain_in s (side_of w q role).records ≡ chain_in s (side_of w q (other role)).records → Talked st a b q s own-name terms f w (maker_side q role) t (suc (length update_passes.texts)) update_passes.after
    level m e =
        let n = ap length e in
        let none = last-none peer (length peer - length mine) (omega (arith, n)) in
        let heard : IsHeard st.key (Hears (update_with []) t None) = ((empty-formed, text-with [] none), refl) in
        let take = takes-by (head_of mine) (length peer) 0 (Ok Equal) (AsMany (sym n) refl) in
        let run = hears-run [] None t Equal empty-formed (text-with [] none) i take refl in
        let goes = heard-run st a b w k.reached g (update_with []) t None heard (Alone i) in
        let there : after_moves w g (run_of p side (Hears (update_with []) t None)).moves ≡ with_side w g side w.bag = ap (λ (r : Run). after_moves w g r.moves) run in
        let reached = subst (Reached st a b) there (moves-reach st a b w k.reached g (run_of p side (Hears (update_with []) t None)).moves goes.moves) in
        let v = with_side w g side w.bag in
        let lengths = ap length m in
        let passes : update_passes ≡ passing [] x = ap (λ ks. answers_update role f ks (nat_lt (length peer_tale) (length my_tale)) x) (drop-all (length my_tale) peer_tale (omega (arith, lengths))) ∙ ap (λ c. answers_update role f [] c x) (le-ltb (length peer_tale) (length my_tale) (omega (arith, lengths))) in
        subst (λ (z : Passing). Talked st a b q s own-name terms f w g t (suc (length z.texts)) z.after) (sym passes)
        (record {
          texts = t ∷ [];
          after = v;
          converses = Ends w g t v (subst (Hands st w g t None) there (Heard (update_with []) None None heard (ap (λ (r : Run). r.answer) run)));
          count = refl;
          ends = unmoved st a b q s own-name terms f w x g w.bag k reached;
        })

    -- ---- the starter's chain is longer

    -- the side that has texts is named
    named-slot : (u : Text) (ts : List Text) → chain_in s (side_of w q role).records ≡ ts ++ u ∷ [] → (l : Slot) × (slot_in s (side_of w q role).records ≡ Some l)
    named-slot u ts e = by (slot_in s (side_of w q role).records) refl
      where
        by : (o : Option Slot) → slot_in s (side_of w q role).records ≡ o → (l : Slot) × (slot_in s (side_of w q role).records ≡ Some l)
        by (Some l) h = (l, h)
        by None h =
            let empty = ap length (chain-none s side.records (named-by p s side.records (logs-kept st a b w k.reached g) (view-none-of st a b w k.reached g s h))) in
            let many = ap length e ∙ length_push ts u in
            absurd (omega (arith, empty, many))

    my-place : (j : Kind) → maker j ≡ Some role → (half_at role x).view.tale ≡ (half_at (other role) x).view.tale ++ j ∷ [] → role_at (length (chain_in s (side_of w q role).records)) ≡ role
    my-place j d m =
        let tale = subst IsTale (sym (peer-kinds st a b q s own-name terms f w x k role)) (peer-tales st a b q s own-name terms f w x k role) in
        let more = subst IsTale (sym (my-kinds st a b q s own-name terms f w x k role) ∙ m) (my-tales st a b q s own-name terms f w x k role) in
        let n = ap length m ∙ length_push peer_tale j in
        ap role_at (as-long st a b q s own-name terms f w x k role ∙ n) ∙ sym (some-role _ _ (sym d ∙ maker-at peer_tale j tale more))

    resent : (j : Kind) (u : Text) → maker j ≡ Some role → (half_at role x).view.tale ≡ (half_at (other role) x).view.tale ++ j ∷ [] → chain_in s (side_of w q role).records ≡ chain_in s (side_of w q (other role)).records ++ u ∷ []
        → length update_passes.texts < enough → Talked st a b q s own-name terms f w (maker_side q role) t (suc (length update_passes.texts)) update_passes.after
    resent j u d m e short =
        let n = ap length e ∙ length_push peer u in
        let none = last-none peer (length peer - length mine) (omega (arith, n)) in
        let heard : IsHeard st.key (Hears (update_with []) t None) = ((empty-formed, text-with [] none), refl) in
        let take = takes-by (head_of mine) (length peer) 0 (Ok (Resend (length mine))) (Resends (sym n) refl) in
        let (l, named_l) = named-slot u peer e in
        let at = slot-half st a b q s own-name terms f w x k role l named_l in
        let turn : is_role l.view.role (Some (role_at (length mine))) ≡ true = ap (λ r. is_role r (Some (role_at (length mine)))) at.role_is ∙ ap (λ r. is_role role (Some r)) (my-place j d m) ∙ role-self role in
        let says : own_at (length mine) l ≡ Some u = ap (λ c. if c then text_of l.texts (length mine) else None) turn ∙ ap (λ ts. text_of ts (length mine)) (sym at.at.texts) ∙ ap last_text e ∙ last-text-push peer u in
        let run = hears-run [] None t (Resend (length mine)) empty-formed (text-with [] none) i take refl ∙ ap (named (λ l. replied (own_at (length mine) l))) named_l ∙ ap replied says in
        let goes = heard-run st a b w k.reached g (update_with []) t None heard (Alone i) in
        let there : after_moves w g (run_of p side (Hears (update_with []) t None)).moves ≡ with_side w g side (u ∷ w.bag) = ap (λ (r : Run). after_moves w g r.moves) run in
        let reached = subst (Reached st a b) there (moves-reach st a b w k.reached g (run_of p side (Hears (update_with []) t None)).moves goes.moves) in
        let v = with_side w g side (u ∷ w.bag) in
        let answer : (run_of p side (Hears (update_with []) t None)).answer ≡ Some (Ok (Some u)) = ap (λ (r : Run). r.answer) run in
        let lengths = ap length m ∙ length_push peer_tale j in
        let passes : update_passes ≡ exchange enough role f (reply_of role (half_at role x)) x = ap (λ ks. answers_update role f ks (nat_lt (length peer_tale) (length my_tale)) x) (drop-all (length my_tale) peer_tale (omega (arith, lengths))) ∙ ap (λ c. answers_update role f [] c x) (lt-ltb (length peer_tale) (length my_tale) (omega (arith, lengths))) in
        let replies_is : reply_of role (half_at role x) ≡ Some j = ap (λ ts. if last_by role ts then last_of ts else None) m ∙ ap (λ c. if c then last_of (peer_tale ++ j ∷ []) else None) (is-last role peer_tale j d) ∙ last-push peer_tale j in
        let ready : Ready st a b q s own-name terms f v x role j u = record {
          among = subst (Among u) (sym (bag-is w g side (u ∷ w.bag))) first;
          ahead = m;
          made = d;
          last = ap (λ (z : Side). last_text (chain_in s z.records)) (same-sides w q g (u ∷ w.bag) role) ∙ ap last_text e ∙ last-text-push peer u;
        } in
        subst (λ (z : Passing). Talked st a b q s own-name terms f w g t (suc (length z.texts)) z.after) (sym passes)
        (then-talks st a b q s own-name terms f enough (talks st a b q s own-name terms f enough) w g t role (run_of p side (Hears (update_with []) t None)) (half_at role x) v x (across q role)
        (λ reply ok. subst (Hands st w g t reply) there (Heard (update_with []) None reply heard ok))
        (unmoved st a b q s own-name terms f w x g (u ∷ w.bag) k reached)
        (Speaks j u answer replies_is ready)
        (subst (λ (z : Passing). length z.texts < enough) passes short))

    -- ---- the peer's chain is longer

    adopted-text : (j : Kind) (u : Text) → maker j ≡ Some (other role) → (half_at (other role) x).view.tale ≡ (half_at role x).view.tale ++ j ∷ [] → chain_in s (side_of w q (other role)).records ≡ chain_in s (side_of w q role).records ++ u ∷ []
        → length update_passes.texts < enough → Talked st a b q s own-name terms f w (maker_side q role) t (suc (length update_passes.texts)) update_passes.after
    adopted-text j u d m e short =
        let n = ap length e ∙ length_push mine u in
        let entries = ap (last_texts (length peer - length mine)) e ∙ last-one mine u (length peer - length mine) (omega (arith, n)) in
        let last = ap last_text e ∙ last-text-push mine u in
        let l = lacks st a b q s own-name terms f w x k role u j m last in
        let c = next_of_part st a b q s own-name terms f w x k role l.lacked in
        let entry : is_entry u ≡ true = subst (λ z. is_entry z ≡ true) (sym l.text) (chain-entry st.key c l.message tt) in
        let formed : IsMessage (update_with (u ∷ [])) = ((short-peer, and_from (is_entry u) true entry refl), tt) in
        let is_text = text-with (u ∷ []) entries in
        let heard : IsHeard st.key (Hears (update_with (u ∷ [])) t (Some c)) = ((formed, is_text), (l.message, l.text)) in
        let take = takes-by (head_of mine) (length peer) 1 (Ok (Adopt (length peer))) (Adopts n refl) in
        let fits : is_adopted p side.records s (u ∷ []) (Some c) ≡ true =
        ap (λ y. both (negate y) (both (is_session s s) (is_next (verdict_in p side.records s c u)))) (addressed st a b q s own-name terms f w x k role u j l)
        ∙ ap (λ y. both y (is_next (verdict_in p side.records s c u))) (session-self s)
        ∙ ap is_next (verdict-next st a b q s own-name terms f w x k role u j l) in
        let ok : step_refusal (is_adopted p side.records s (u ∷ []) (Some c)) (Ok (Adopt (length peer))) ≡ None = ap (λ y. step_refusal y (Ok (Adopt (length peer)))) fits in
        let run = hears-run (u ∷ []) (Some c) t (Adopt (length peer)) formed is_text i take ok in
        let goes = heard-run st a b w k.reached g (update_with (u ∷ [])) t (Some c) heard (Alone i) in
        let ran = subst (λ r. Ran p s role f side w.bag r last_own (takes role f j (half_at role x))) (sym run)
        (take-any st a b q s own-name terms f w x k role u j l (slot_in s side.records) refl (subst (RunGoes p side w.bag) run goes)) in
        let h = takes role f j (half_at role x) in
        let here = run_of p side (Hears (update_with (u ∷ [])) t (Some c)) in
        let passes : update_passes ≡ exchange enough role f (reply_of role h) (with_half role h x) =
        ap (λ ks. answers_update role f ks (nat_lt (length peer_tale) (length my_tale)) x) (ap (drop (length my_tale)) m ∙ drop-push my_tale j) in
        subst (λ (z : Passing). Talked st a b q s own-name terms f w g t (suc (length z.texts)) z.after) (sym passes)
        (then-talks st a b q s own-name terms f enough (talks st a b q s own-name terms f enough) w g t role here h (after_moves w g here.moves) (with_half role h x) (across q role)
        (λ reply good. Heard (update_with (u ∷ [])) (Some c) reply heard good)
        (taken-in st a b q s own-name terms f w x k role j u here goes m d ran)
        (replies st a b q s own-name terms f w x k role j u here goes m d ran)
        (subst (λ (z : Passing). length z.texts < enough) passes short))

    pub update-talks : length update_passes.texts < enough → Talked st a b q s own-name terms f w (maker_side q role) t (suc (length update_passes.texts)) update_passes.after
    update-talks short = by (both_chains st a b q s own-name terms f w x k role)
      where
        by : Both role (half_at role x).view.tale (half_at (other role) x).view.tale (chain_in s (side_of w q role).records) (chain_in s (side_of w q (other role)).records)
            → Talked st a b q s own-name terms f w (maker_side q role) t (suc (length update_passes.texts)) update_passes.after
        by (Level m e) = level m e
        by (MineAhead j u d m e) = resent j u d m e short
        by (PeerAhead j u d m e) = adopted-text j u d m e short
