-- A round by texts settles the session, as it does by kinds.
use Rattle.std.proofs.Common.{◌≡◌, ℕ, suc, ◌+◌, true, List, [], ◌∷◌, ◌++◌, length, drop, Option, Some, None, option_map, Result, Ok, refl, sym, ap, subst, ◌∙◌, arith}
use Rattle.std.specs.Prelude.{nat_lt}
use Rattle.std.proofs.lemmas.List.{length_push}
use Rattle.satp_base.proofs.ChainLemmas.{link_at_formed}
use Rattle.satp_base.specs.Chains.{head_of}
use Rattle.satp_base.specs.Forms.{IsMessage}
use Rattle.satp_base.specs.Founding.{Founding}
use Rattle.satp_base.specs.Signatures.{own}
use Rattle.satp_base.specs.Tales.{is_whole, other}
use Rattle.satp_base.specs.declared.message.Body.TheVariants as body
use Rattle.satp_base.specs.declared.message.Message.{Message}
use Rattle.satp_base.specs.declared.message.Role.{Role}
use Rattle.satp_base.specs.declared.message.Role.TheVariants.{Origin, Recipient}
use Rattle.satp_base.specs.declared.message.Terms.{Terms}
use Rattle.satp_base.specs.declared.session.SessionId.{SessionId}
use Rattle.satp_base.specs.declared.view.View.{View}
use Rattle.satp_recovery.proofs.RoundLemmas.{agrees-by}
use Rattle.satp_recovery.specs.Rounds.{agree_of}
use Rattle.satp_recovery.specs.Rounds.Agrees.{Same}
use Rattle.satp_recovery.specs.declared.choice.RecoveryFault.{RecoveryFault}
use Rattle.satp_sides.specs.Calls.{IsHeard, Run, accepted, by_tests, fault_in, replied, run_of, success_text, update_text}
use Rattle.satp_sides.specs.Calls.Call.{Hears, Rescues}
use Rattle.satp_sides.specs.Halves.{Half}
use Rattle.satp_sides.specs.Moves.{Among, message_from}
use Rattle.satp_sides.specs.Moves.Among.{first}
use Rattle.satp_sides.specs.Moves.Delivered.{Alone}
use Rattle.satp_sides.specs.Moves.Sayable.{Succeeds}
use Rattle.satp_sides.specs.Points.{Party, Says, Side, Text, chain_in, slot, slot_in, tale_of, view_in}
use Rattle.satp_world.proofs.HonestNames.{by-body}
use Rattle.satp_world.proofs.KeptLaw.{moves-reach}
use Rattle.satp_world.proofs.RunHear.{heard-run}
use Rattle.satp_world.proofs.WorldLaw.{law_safety}
use Rattle.satp_world.specs.Histories.{Called, after_event, after_moves}
use Rattle.satp_world.specs.Worlds.{Gateway, IsSettledAt, Reached, Setting, World, maker_side, name_at, opposite, party_at, session_in, side_at, with_side}
use Rattle.satp_rounds.proofs.Asking.{ask, started}
use Rattle.satp_rounds.proofs.Joint.{In, across, bag-is, same-sides, side_of, tale-or, twice, unmoved, view_or}
use Rattle.satp_rounds.proofs.Tying.{Both, both as both_chains, chain-short}
use Rattle.satp_rounds.proofs.Tying.Both.{Level, MineAhead, PeerAhead}
use Rattle.satp_rounds.proofs.Updating.{update-talks, update_passes}
use Rattle.satp_rounds.specs.Conversations.{Converses, Hands, Round}
use Rattle.satp_rounds.specs.Conversations.Converses.{Goes}
use Rattle.satp_rounds.specs.Conversations.Hands.{Heard}
use Rattle.satp_rounds.specs.Funds.{Funds}
use Rattle.satp_rounds.specs.Rounds.{Pair, Passed, Passing, Settles, Succeeds as SucceedsKind, answers_update, half_at, readied, round, with_half}

module _ (st : Setting) (a b : Founding) (q : Gateway) (s : SessionId) (own-name : s.gateway ≡ name_at st q) (terms : Terms) (f : Funds) where
  module _ (w : World) (y : Pair) (k : In st a b q s own-name terms f w y) where
    -- ---- both tales are one whole tale

    -- so both chains are one
    level-chains : y.a.view.tale ≡ y.b.view.tale → chain_in s (side_of w q Origin).records ≡ chain_in s (side_of w q Recipient).records
    level-chains e = by (both_chains st a b q s own-name terms f w y k Origin)
      where
        by : Both Origin y.a.view.tale y.b.view.tale (chain_in s (side_of w q Origin).records) (chain_in s (side_of w q Recipient).records) → chain_in s (side_of w q Origin).records ≡ chain_in s (side_of w q Recipient).records
        by (Level m d) = d
        by (MineAhead j t d m c) = absurd (let n = ap length m in let l = length_push y.b.view.tale j in let h = ap length e in omega (arith, n, l, h))
        by (PeerAhead j t d m c) = absurd (let n = ap length m in let l = length_push y.a.view.tale j in let h = ap length e in omega (arith, n, l, h))

    pub equal-chains : y.a.view.tale ≡ y.b.view.tale → (role : Role) → chain_in s (side_of w q role).records ≡ chain_in s (side_of w q (other role)).records
    equal-chains e Origin = level-chains e
    equal-chains e Recipient = sym (level-chains e)

    -- a side with a whole tale is named
    named-whole : (role : Role) → is_whole (half_at role y).view.tale ≡ true → (v : View) × (view_in s (side_of w q role).records ≡ Some v)
    named-whole role h = by (view_in s (side_of w q role).records) refl
      where
        by : (o : Option View) → view_in s (side_of w q role).records ≡ o → (v : View) × (view_in s (side_of w q role).records ≡ Some v)
        by (Some v) e = (v, e)
        by None e =
            let none : [] ≡ (half_at role y).view.tale = sym (tale-or role terms None) ∙ ap (λ o. (view_or role terms o).tale) (sym e) ∙ ap (λ (x : Half). x.view.tale) (k.is role) in
            absurd (cc (h, ap is_whole none))

    whole-at : y.a.view.tale ≡ y.b.view.tale → is_whole y.a.view.tale ≡ true → (role : Role) → is_whole (half_at role y).view.tale ≡ true
    whole-at e h Origin = h
    whole-at e h Recipient = ap is_whole (sym e) ∙ h

    pub whole-world : y.a.view.tale ≡ y.b.view.tale → is_whole y.a.view.tale ≡ true → (role : Role) → is_whole (tale_of (view_in s (side_of w q role).records)) ≡ true
    whole-world e h role = ap is_whole (sym (tale-or role terms (view_in s (side_of w q role).records)) ∙ ap (λ (x : Half). x.view.tale) (k.is role)) ∙ whole-at e h role

    -- so the session is settled
    pub settled-world : y.a.view.tale ≡ y.b.view.tale → is_whole y.a.view.tale ≡ true → IsSettledAt w q s
    settled-world e h = (law_safety st a b w k.reached).settled q s own-name (level-chains e) (ap is_whole (sym (tale-or Origin terms (view_in s (side_of w q Origin).records)) ∙ ap (λ (x : Half). x.view.tale) (k.is Origin)) ∙ h)

    pub origin-tale : tale_of (session_in w q s).a ≡ y.a.view.tale
    origin-tale = sym (tale-or Origin terms (view_in s (side_of w q Origin).records)) ∙ ap (λ (x : Half). x.view.tale) (k.is Origin)

  -- ---- success

  -- after success was said and heard
  pub record Closed (w : World) (y : Pair) (role : Role) : Type 0 where
    pub after : World
    pub hears : Hands st (after_moves w (maker_side q role) (Says (success_text (party_at st (maker_side q role)) s (chain_in s (side_of w q role).records)) ∷ [])) (opposite (maker_side q role))
        (success_text (party_at st (maker_side q role)) s (chain_in s (side_of w q role).records)) None after
    pub ends : In st a b q s own-name terms f after y

  module _ (w : World) (y : Pair) (k : In st a b q s own-name terms f w y) (role : Role) (e : y.a.view.tale ≡ y.b.view.tale) (h : is_whole y.a.view.tale ≡ true) where
    abbrev g : Gateway
    g = maker_side q role

    abbrev p : Party
    p = party_at st (maker_side q role)

    abbrev mine : List Text
    mine = chain_in s (side_of w q role).records

    abbrev message : Message
    message = message_from (party_at st (maker_side q role)) s (body.Success (length (chain_in s (side_of w q role).records)) (head_of (chain_in s (side_of w q role).records)).last)

    abbrev text : Text
    text = own st.key (message_from (party_at st (maker_side q role)) s (body.Success (length (chain_in s (side_of w q role).records)) (head_of (chain_in s (side_of w q role).records)).last))

    formed : IsMessage message
    formed = (chain-short st a b q s own-name terms f w y k role, link_at_formed mine (length mine))

    abbrev said : World
    said = with_side w (maker_side q role) (side_of w q role) (text ∷ w.bag)

    said-reached : Reached st a b (with_side w (maker_side q role) (side_of w q role) (text ∷ w.bag))
    said-reached =
        let (v, named) = named-whole w y k role (whole-at w y k e h role) in
        moves-reach st a b w k.reached g (Says text ∷ []) (Succeeds s v named formed, tt)

    said-in : In st a b q s own-name terms f (with_side w (maker_side q role) (side_of w q role) (text ∷ w.bag)) y
    said-in = unmoved st a b q s own-name terms f w y g (text ∷ w.bag) k said-reached

    peer-chain : chain_in s (side_of (with_side w (maker_side q role) (side_of w q role) (text ∷ w.bag)) q (other role)).records ≡ chain_in s (side_of w q role).records
    peer-chain = ap (λ (z : Side). chain_in s z.records) (same-sides w q g (text ∷ w.bag) (other role)) ∙ sym (equal-chains w y k e role)

    agreed-none : (x : Result (Unit {0}) RecoveryFault) → Ok tt ≡ x → fault_in x ≡ None
    agreed-none x d = subst (λ z. fault_in z ≡ None) d refl

    in-date : fault_in (agree_of (head_of (chain_in s (side_of (with_side w (maker_side q role) (side_of w q role) (text ∷ w.bag)) q (other role)).records)) (length (chain_in s (side_of w q role).records)) (head_of (chain_in s (side_of w q role).records)).last) ≡ None
    in-date = agreed-none _ (agrees-by (head_of (chain_in s (side_of said q (other role)).records)) (length mine) (head_of mine).last (Ok tt) (Same (ap length (sym peer-chain)) (ap (λ ts. (head_of ts).last) (sym peer-chain))))

    heard : IsHeard st.key (Hears message text None)
    heard = ((formed, refl), refl)

    among : Among text (with_side w (maker_side q role) (side_of w q role) (text ∷ w.bag)).bag
    among = subst (Among text) (sym (bag-is w g (side_of w q role) (text ∷ w.bag))) first

    hears-run : run_of (party_at st (maker_side q (other role))) (side_of (with_side w (maker_side q role) (side_of w q role) (text ∷ w.bag)) q (other role)) (Hears message text None) ≡ replied None
    unfolding run_of
    hears-run =
        let g' = maker_side q (other role) in
        let none = by-body st a b said said-reached g' message text formed refl (Alone among) (ap (name_at st) (across q role)) None ∙ in-date in
        ap (λ o. by_tests o (accepted (party_at st g') (side_of said q (other role)) (Hears message text None))) none

    pub closed : Closed w y role
    closed =
        let g' = maker_side q (other role) in
        let run = run_of (party_at st g') (side_of said q (other role)) (Hears message text None) in
        let goes = heard-run st a b said said-reached g' message text None heard (Alone among) in
        let there : after_moves said g' run.moves ≡ with_side said g' (side_at said g') said.bag = ap (λ (r : Run). after_moves said g' r.moves) hears-run in
        let reached = subst (Reached st a b) there (moves-reach st a b said said-reached g' run.moves goes.moves) in
        let v = with_side said g' (side_at said g') said.bag in
        let hands : Hands st said g' text None v = subst (Hands st said g' text None) there (Heard message None None heard (ap (λ (r : Run). r.answer) hears-run)) in
        record {
          after = v;
          hears = subst (λ z. Hands st said z text None v) (sym (across q role)) hands;
          ends = unmoved st a b q s own-name terms f said y g' said.bag said-in reached;
        }

  -- ---- the whole round

  pub record Played (w : World) (x : Pair) (role : Role) : Type 0 where
    pub texts : List Text
    pub after : World
    pub round_is : Round st w (maker_side q role) s texts after
    pub count : length texts ≡ length (round role f x).texts
    pub ends : In st a b q s own-name terms f after (round role f x).after
    pub succeeds : Reached st a b round_is.between × (is_whole (tale_of (view_in s (side_of round_is.between q role).records)) ≡ true)

  module _ (w : World) (x : Pair) (k : In st a b q s own-name terms f w x) where
    abbrev readied_pair : Role → Pair
    readied_pair role = with_half (other role) (readied (other role) f (half_at (other role) (with_half role (readied role f (half_at role x)) x))) (with_half role (readied role f (half_at role x)) x)

    -- what the update brings about, as the kinds of the round have it
    abbrev middle : Role → Passing
    middle role =
        let mine = readied role f (half_at role x) in
        let theirs = readied (other role) f (half_at (other role) x) in
        answers_update role f (drop (length mine.view.tale) theirs.view.tale) (nat_lt (length theirs.view.tale) (length mine.view.tale)) (with_half (other role) theirs (with_half role mine x))

    middle-is : (role : Role)
        → answers_update role f (drop (length (half_at role (readied_pair role)).view.tale) (half_at (other role) (readied_pair role)).view.tale) (nat_lt (length (half_at (other role) (readied_pair role)).view.tale) (length (half_at role (readied_pair role)).view.tale)) (readied_pair role)
        ≡ middle role
    middle-is Origin = refl
    middle-is Recipient = refl

    round-after : (role : Role) → (round role f x).after ≡ (middle role).after
    round-after role = refl

    round-count : (role : Role) → length (round role f x).texts ≡ suc (suc (suc (length (middle role).texts)))
    round-count role = let n = length_push_kinds (middle role).texts in ap (λ m. suc (suc m)) n
      where
        length_push_kinds : (ts : List Passed) → length (ts ++ SucceedsKind ∷ []) ≡ suc (length ts)
        length_push_kinds ts = let n = length_push ts SucceedsKind in omega (arith, n)

    pub played : (role : Role) (v : View) → view_in s (side_of w q role).records ≡ Some v → Settles role f x → Played w x role
    played role v named settles =
        let g = maker_side q role in
        let g' = maker_side q (other role) in
        let l = slot v (chain_in s (side_of w q role).records) in
        let slot_is : slot_in s (side_of w q role).records ≡ Some l = ap (option_map (λ u. slot u (chain_in s (side_of w q role).records))) named in
        let one = started st a b q s own-name terms f w x k role l slot_is in
        let y1 = with_half role (readied role f (half_at role x)) x in
        let w1 = after_event st w (Called g (Rescues s)) in
        let asks : one.text ≡ own st.key (message_from (party_at st (maker_side q (other (other role)))) s (body.Recover (length (chain_in s (side_of w1 q (other (other role))).records)) (head_of (chain_in s (side_of w1 q (other (other role))).records)).last)) =
        one.says ∙ ap (λ r. own st.key (message_from (party_at st (maker_side q r)) s (body.Recover (length (chain_in s (side_of w1 q r).records)) (head_of (chain_in s (side_of w1 q r).records)).last))) (sym (twice role)) in
        let two = ask st a b q s own-name terms f w1 y1 one.ends (other role) one.text asks one.among in
        let y2 = readied_pair role in
        let w2 = two.after in
        let updates : two.reply ≡ update_text (party_at st g') s (length (chain_in s (side_of w2 q role).records)) (chain_in s (side_of w2 q (other role)).records) =
        two.says ∙ ap (λ r. update_text (party_at st g') s (length (chain_in s (side_of w2 q r).records)) (chain_in s (side_of w2 q (other role)).records)) (twice role) in
        let passes = update_passes st a b q s own-name terms f w2 y2 two.ends role in
        let same : passes ≡ middle role = middle-is role in
        let few = settles.short in
        let many = round-count role in
        let parts = ap (λ (z : Passing). length z.texts) same in
        let three = update-talks st a b q s own-name terms f w2 y2 two.ends role two.reply updates two.among (omega (arith, few, many, parts)) in
        let after_is : passes.after ≡ (round role f x).after = ap (λ (z : Passing). z.after) same in
        let there = subst (In st a b q s own-name terms f three.after) after_is three.ends in
        let end = closed three.after (round role f x).after there role settles.settled.equal settles.settled.whole in
        let text = success_text (party_at st g) s (chain_in s (side_of three.after q role).records) in
        let talk : Converses st w1 (opposite g) one.text (one.text ∷ three.texts) three.after =
        subst (λ z. Converses st w1 z one.text (one.text ∷ three.texts) three.after) (sym (across q role))
        (Goes w1 g' one.text two.reply w2 three.texts three.after two.hands (subst (λ z. Converses st w2 z two.reply three.texts three.after) (sym (across q (other role) ∙ ap (maker_side q) (twice role))) three.converses)) in
        let total = length_push (one.text ∷ three.texts) text in
        let count = three.count in
        record {
          texts = (one.text ∷ three.texts) ++ text ∷ [];
          after = end.after;
          round_is = record {
            recover = one.text;
            rescue = one.answer;
            said = one.text ∷ three.texts;
            between = three.after;
            converses = talk;
            success = text;
            closes = refl;
            hears = end.hears;
            all = refl;
          };
          count = total-is (length (middle role).texts) (length three.texts) (length ((one.text ∷ three.texts) ++ text ∷ [])) (length (round role f x).texts) total (count ∙ ap suc parts) many;
          ends = end.ends;
          succeeds = (there.reached, whole-world three.after (round role f x).after there settles.settled.equal settles.settled.whole role);
        }
      where
        total-is : (n m t r : ℕ) → t ≡ suc m + 1 → m ≡ suc n → r ≡ suc (suc (suc n)) → t ≡ r
        total-is n m t r a b c = omega (arith, a, b, c)
