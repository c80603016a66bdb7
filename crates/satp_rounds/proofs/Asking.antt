-- The first two texts of a round: the starter says how long its chain is, and the peer answers with what it lacks.
use Rattle.std.proofs.Common.{◌≡◌, ℕ, ◌-◌, Bool, true, false, List, [], ◌∷◌, length, Option, Some, None, Result, Ok, refl, sym, ap, subst, ◌∙◌, arith, if◌then◌else◌}
use Rattle.std.specs.Prelude.{is_some}
use Rattle.std.proofs.lemmas.List.{length_push}
use Rattle.satp_base.proofs.ChainLemmas.{link_at_formed}
use Rattle.satp_base.specs.Chains.{head_of, link_at}
use Rattle.satp_base.specs.Forms.{IsMessage}
use Rattle.satp_base.specs.Founding.{Founding}
use Rattle.satp_base.specs.LedgerRule.{entry_of}
use Rattle.satp_base.specs.Roles.{negate, rescues}
use Rattle.satp_base.specs.Signatures.{own}
use Rattle.satp_base.specs.Tales.{other}
use Rattle.satp_base.specs.declared.message.Body.TheVariants as body
use Rattle.satp_base.specs.declared.message.Message.{Message}
use Rattle.satp_base.specs.declared.message.Role.{Role}
use Rattle.satp_base.specs.declared.message.Role.TheVariants.{Origin, Recipient}
use Rattle.satp_base.specs.declared.message.Terms.{Terms}
use Rattle.satp_base.specs.declared.session.SessionId.{SessionId}
use Rattle.satp_recovery.proofs.RoundLemmas.{answers-by}
use Rattle.satp_recovery.specs.Rounds.{answer_of}
use Rattle.satp_recovery.specs.Rounds.Answers.{OneMore, AsMany, OneFewer}
use Rattle.satp_recovery.specs.declared.choice.RecoveryFault.{RecoveryFault}
use Rattle.satp_sides.proofs.Records.{chain-none}
use Rattle.satp_sides.specs.Calls.{IsHeard, Run, accepted, asked, by_tests, fault_in, named, recover_text, refusal_of, rescue_in, rescued, run_of, runs_noted, test, update_text}
use Rattle.satp_sides.specs.Calls.Call.{Hears, Rescues}
use Rattle.satp_sides.specs.Calls.Refusal.{Strange}
use Rattle.satp_sides.specs.Halves.{Half, after_record, half}
use Rattle.satp_base.specs.declared.ledger.Entry.{Entry}
use Rattle.satp_base.specs.declared.record.Rec.TheVariants.{Rescue}
use Rattle.satp_sides.specs.Moves.{Among, message_from, said_by}
use Rattle.satp_sides.specs.Moves.Among.{first}
use Rattle.satp_sides.specs.Moves.Delivered.{Alone}
use Rattle.satp_sides.specs.Points.{Side, Slot, Text, chain_in, moved_by, slot_in, view_in}
use Rattle.satp_world.proofs.HonestNames.{by-body}
use Rattle.satp_world.proofs.KeptLaw.{logs-kept, moves-reach}
use Rattle.satp_world.proofs.RunHear.{heard-run}
use Rattle.satp_world.proofs.RunLaw.{named-by, operators-run, view-none-of}
use Rattle.satp_world.specs.Histories.{after_moves}
use Rattle.satp_world.specs.Work.{RunGoes}
use Rattle.satp_world.specs.Worlds.{Gateway, Setting, World, maker_side, name_at, Reached, party_at, with_side}
use Rattle.satp_rounds.proofs.Growing.{work-grows}
use Rattle.satp_rounds.proofs.Joint.{In, across, bag-is, new-side, other-side, ran-in, same-sides, side_of, slot-half, twice, unmoved, view_or}
use Rattle.satp_rounds.proofs.Running.{Ran, ran-rescue}
use Rattle.satp_rounds.proofs.Tying.{Both, both, chain-short, link-first}
use Rattle.satp_rounds.proofs.Tying.Both.{Level, MineAhead, PeerAhead}
use Rattle.satp_rounds.specs.Conversations.{Hands}
use Rattle.satp_rounds.specs.Conversations.Hands.{Heard}
use Rattle.satp_rounds.specs.Funds.{Funds}
use Rattle.satp_rounds.specs.Rounds.{Pair, half_at, readied, rescued as rescued_half, with_half}
use Rattle.satp_rounds.specs.Transfers.{unnamed_view}

rescue-terms : (c : Bool) (h : Half) → (if c then after_record h Rescue else h).view.terms ≡ h.view.terms
rescue-terms true h = refl
rescue-terms false h = refl

pub ready-terms : (role : Role) (f : Funds) (h : Half) → (readied role f h).view.terms ≡ h.view.terms
ready-terms role f h = (work-grows 3 role f (rescued_half role h)).terms ∙ rescue-terms (rescues role h.view) h

-- a side that knows nothing of a session is ready with nothing
unnamed-ready : (f : Funds) (terms : Terms) (e : Entry) → readied Recipient f (half (unnamed_view Recipient terms) e) ≡ half (unnamed_view Recipient terms) e
unnamed-ready f terms e = refl

same-half : (r : Role) (x : Pair) (h : Half) → h ≡ half_at r x → with_half r h x ≡ x
same-half Origin x h e = ap (λ z. with_half Origin z x) e
same-half Recipient x h e = ap (λ z. with_half Recipient z x) e

-- what the peer lacks, from what it says of its chain
fault-none : (x : Result ℕ RecoveryFault) (n : ℕ) → Ok n ≡ x → fault_in x ≡ None
fault-none x n e = subst (λ y. fault_in y ≡ None) e refl

module _ (st : Setting) (a b : Founding) (q : Gateway) (s : SessionId) (own-name : s.gateway ≡ name_at st q) (terms : Terms) (f : Funds) (w : World) (x : Pair) (k : In st a b q s own-name terms f w x) (role : Role) where
  -- ---- the starter

  -- a side whose records name the session starts
  pub record Started (v : World) (run : Run) : Type 0 where
    pub text : Text
    pub answer : run.answer ≡ Some (Ok (Some text))
    pub ends : In st a b q s own-name terms f v (with_half role (readied role f (half_at role x)) x)
    pub says : text ≡ recover_text (party_at st (maker_side q role)) s (chain_in s (side_of v q role).records)
    pub among : Among text v.bag

  by-name : (o : Option Slot) → slot_in s (side_of w q role).records ≡ o → run_of (party_at st (maker_side q role)) (side_of w q role) (Rescues s)
      ≡ by_tests (test (negate (is_some o)) (Strange s)) (named (rescued (party_at st (maker_side q role)) (side_of w q role) s) o)
  unfolding run_of refusal_of
  by-name o e = ap (λ o. by_tests (test (negate (is_some o)) (Strange s)) (named (rescued (party_at st (maker_side q role)) (side_of w q role) s) o)) e

  run-is : (l : Slot) → slot_in s (side_of w q role).records ≡ Some l → run_of (party_at st (maker_side q role)) (side_of w q role) (Rescues s)
      ≡ runs_noted (party_at st (maker_side q role)) (side_of w q role) s l (rescue_in l.view) (λ after. Some (recover_text (party_at st (maker_side q role)) s after.texts))
  run-is l e = by-name (Some l) e

  pub started : (l : Slot) → slot_in s (side_of w q role).records ≡ Some l
      → Started (after_moves w (maker_side q role) (run_of (party_at st (maker_side q role)) (side_of w q role) (Rescues s)).moves) (run_of (party_at st (maker_side q role)) (side_of w q role) (Rescues s))
  started l e =
      let g = maker_side q role in
      let p = party_at st g in
      let side = side_of w q role in
      let reply : Slot → Option Text = λ after. Some (recover_text p s after.texts) in
      let run = run_of p side (Rescues s) in
      let goes = operators-run st a b w k.reached g (Rescues s) tt tt in
      let at = slot-half st a b q s own-name terms f w x k role l e in
      let there = ran-rescue p s role f side w.bag l reply at.at at.role_is at.fits (subst (RunGoes p side w.bag) (run-is l e) goes) in
      let ran : Ran p s role f side w.bag run reply (readied role f (half_at role x)) = subst (λ r. Ran p s role f side w.bag r reply (readied role f (half_at role x))) (sym (run-is l e)) (subst (λ h. Ran p s role f side w.bag (runs_noted p side s l (rescue_in l.view) reply) reply (readied role f h)) at.half there) in
      let chain = ap (λ (z : Side). chain_in s z.records) (new-side w q role (moved_by side run.moves) (said_by w.bag run.moves)) ∙ ran.there.at.texts in
      record {
        text = recover_text p s ran.slot.texts;
        answer = ran.answer;
        ends = ran-in st a b q s own-name terms f w x k role run reply (readied role f (half_at role x)) goes (ready-terms role f (half_at role x) ∙ k.under role) ran;
        says = ap (recover_text p s) (sym chain);
        among = subst (Among (recover_text p s ran.slot.texts)) (sym (bag-is w g (moved_by side run.moves) (said_by w.bag run.moves))) (ran.said (recover_text p s ran.slot.texts) refl);
      }

  -- ---- the peer, which hears of a chain of the other side

  abbrev them : Gateway
  them = maker_side q role

  abbrev texts : List Text
  texts = chain_in s (side_of w q (other role)).records

  -- what the other side says of its chain
  abbrev pub recovers : Message
  recovers = message_from (party_at st (maker_side q (other role))) s (body.Recover (length (chain_in s (side_of w q (other role)).records)) (head_of (chain_in s (side_of w q (other role)).records)).last)

  recovers-formed : IsMessage (message_from (party_at st (maker_side q (other role))) s (body.Recover (length (chain_in s (side_of w q (other role)).records)) (head_of (chain_in s (side_of w q (other role)).records)).last))
  recovers-formed = (chain-short st a b q s own-name terms f w x k (other role), link_at_formed texts (length texts))

  pub recovers-to : (party_at st (maker_side q (other role))).peer ≡ name_at st (maker_side q role)
  recovers-to = ap (name_at st) (across q (other role) ∙ ap (maker_side q) (twice role))

  -- it isn't out of date
  in-date : fault_in (answer_of (head_of (chain_in s (side_of w q role).records)) (length (chain_in s (side_of w q (other role)).records)) (head_of (chain_in s (side_of w q (other role)).records)).last) ≡ None
  in-date = by (both st a b q s own-name terms f w x k role)
    where
      mine : List Text
      mine = chain_in s (side_of w q role).records

      peer : List Text
      peer = chain_in s (side_of w q (other role)).records

      by : Both role (half_at role x).view.tale (half_at (other role) x).view.tale (chain_in s (side_of w q role).records) (chain_in s (side_of w q (other role)).records)
          → fault_in (answer_of (head_of (chain_in s (side_of w q role).records)) (length (chain_in s (side_of w q (other role)).records)) (head_of (chain_in s (side_of w q (other role)).records)).last) ≡ None
      by (Level m e) = fault-none _ 0 (answers-by (head_of mine) (length peer) (head_of peer).last (Ok 0) (AsMany (ap length (sym e)) (ap (λ (ts : List Text). (head_of ts).last) (sym e))))
      by (MineAhead j t d m e) =
          let n = ap length e ∙ length_push peer t in
          let before : link_at mine (length mine - 1) ≡ link_at peer (length peer) = (let less : length mine - 1 ≡ length peer = omega (arith, n) in ap (link_at mine) less ∙ ap (λ ts. link_at ts (length peer)) e ∙ link-first peer (t ∷ []) (length peer) (omega arith)) in
          fault-none _ 1 (answers-by (head_of mine) (length peer) (head_of peer).last (Ok 1) (OneFewer (sym n) (sym before)))
      by (PeerAhead j t d m e) = fault-none _ 0 (answers-by (head_of mine) (length peer) (head_of peer).last (Ok 0) (OneMore (ap length e ∙ length_push mine t)))

  -- it is asked, and answers
  pub record Asked (t : Text) : Type 0 where
    pub reply : Text
    pub after : World
    pub hands : Hands st w (maker_side q role) t (Some reply) after
    pub ends : In st a b q s own-name terms f after (with_half role (readied role f (half_at role x)) x)
    pub says : reply ≡ update_text (party_at st (maker_side q role)) s (length (chain_in s (side_of after q (other role)).records)) (chain_in s (side_of after q role).records)
    pub among : Among reply after.bag

  module _ (t : Text) (is : t ≡ own st.key (message_from (party_at st (maker_side q (other role))) s (body.Recover (length (chain_in s (side_of w q (other role)).records)) (head_of (chain_in s (side_of w q (other role)).records)).last))) (i : Among t w.bag) where
    abbrev given : ℕ
    given = length (chain_in s (side_of w q (other role)).records)

    heard-is : IsHeard st.key (Hears (message_from (party_at st (maker_side q (other role))) s (body.Recover (length (chain_in s (side_of w q (other role)).records)) (head_of (chain_in s (side_of w q (other role)).records)).last)) t None)
    heard-is = ((recovers-formed, is), refl)

    asked-run : run_of (party_at st (maker_side q role)) (side_of w q role) (Hears (message_from (party_at st (maker_side q (other role))) s (body.Recover (length (chain_in s (side_of w q (other role)).records)) (head_of (chain_in s (side_of w q (other role)).records)).last)) t None)
        ≡ asked (party_at st (maker_side q role)) (side_of w q role) s (length (chain_in s (side_of w q (other role)).records)) (slot_in s (side_of w q role).records)
    unfolding run_of
    asked-run =
        let none = by-body st a b w k.reached them recovers t recovers-formed is (Alone i) recovers-to None ∙ in-date in
        ap (λ o. by_tests o (accepted (party_at st them) (side_of w q role) (Hears recovers t None))) none

    goes : RunGoes (party_at st (maker_side q role)) (side_of w q role) w.bag (run_of (party_at st (maker_side q role)) (side_of w q role) (Hears (message_from (party_at st (maker_side q (other role))) s (body.Recover (length (chain_in s (side_of w q (other role)).records)) (head_of (chain_in s (side_of w q (other role)).records)).last)) t None))
    goes = heard-run st a b w k.reached them recovers t None heard-is (Alone i)

    ask-named : (l : Slot) → slot_in s (side_of w q role).records ≡ Some l → Asked t
    ask-named l e =
        let p = party_at st them in
        let side = side_of w q role in
        let reply : Slot → Option Text = λ after. Some (update_text p s given after.texts) in
        let run = run_of p side (Hears recovers t None) in
        let same = asked-run ∙ ap (asked p side s given) e in
        let at = slot-half st a b q s own-name terms f w x k role l e in
        let there = ran-rescue p s role f side w.bag l reply at.at at.role_is at.fits (subst (RunGoes p side w.bag) same goes) in
        let ran : Ran p s role f side w.bag run reply (readied role f (half_at role x)) = subst (λ r. Ran p s role f side w.bag r reply (readied role f (half_at role x))) (sym same) (subst (λ h. Ran p s role f side w.bag (runs_noted p side s l (rescue_in l.view) reply) reply (readied role f h)) at.half there) in
        let chain = ap (λ (z : Side). chain_in s z.records) (new-side w q role (moved_by side run.moves) (said_by w.bag run.moves)) ∙ ran.there.at.texts in
        let others = ap (λ (z : Side). length (chain_in s z.records)) (other-side w q role (moved_by side run.moves) (said_by w.bag run.moves)) in
        record {
          reply = update_text p s given ran.slot.texts;
          after = after_moves w them run.moves;
          hands = Heard recovers None (Some (update_text p s given ran.slot.texts)) heard-is ran.answer;
          ends = ran-in st a b q s own-name terms f w x k role run reply (readied role f (half_at role x)) goes (ready-terms role f (half_at role x) ∙ k.under role) ran;
          says = ap (update_text p s given) (sym chain) ∙ ap (λ n. update_text p s n (chain_in s (side_of (after_moves w them run.moves) q role).records)) (sym others);
          among = subst (Among (update_text p s given ran.slot.texts)) (sym (bag-is w them (moved_by side run.moves) (said_by w.bag run.moves))) (ran.said (update_text p s given ran.slot.texts) refl);
        }

    recipient-here : view_in s (side_of w q role).records ≡ None → role ≡ Recipient
    recipient-here none = go role none
      where
        go : (r : Role) → view_in s (side_of w q r).records ≡ None → r ≡ Recipient
        go Origin e = absurd (cc (e, k.named.1))
        go Recipient e = refl

    ask-none : slot_in s (side_of w q role).records ≡ None → Asked t
    ask-none e =
        let p = party_at st them in
        let side = side_of w q role in
        let u = update_text p s given [] in
        let same = asked-run ∙ ap (asked p side s given) e in
        let none = view-none-of st a b w k.reached them s e in
        let unnamed = named-by p s side.records (logs-kept st a b w k.reached them) none in
        let empty = chain-none s side.records unnamed in
        let v = with_side w them side (u ∷ w.bag) in
        let run = run_of p side (Hears recovers t None) in
        let there : after_moves w them run.moves ≡ v = ap (λ (r : Run). after_moves w them r.moves) same in
        let reached = subst (Reached st a b) there (moves-reach st a b w k.reached them run.moves goes.moves) in
        let half_is : half (unnamed_view Recipient terms) (entry_of side.book.entries s) ≡ half_at role x = ap (λ r. half (view_or r terms None) (entry_of side.book.entries s)) (sym (recipient-here none)) ∙ ap (λ o. half (view_or role terms o) (entry_of side.book.entries s)) (sym none) ∙ k.is role in
        let ready : readied role f (half_at role x) ≡ half_at role x = subst (λ h. readied role f h ≡ h) half_is (subst (λ r. readied r f (half (unnamed_view Recipient terms) (entry_of side.book.entries s)) ≡ half (unnamed_view Recipient terms) (entry_of side.book.entries s)) (sym (recipient-here none)) (unnamed-ready f terms (entry_of side.book.entries s))) in
        let mine = ap (λ (z : Side). chain_in s z.records) (same-sides w q them (u ∷ w.bag) role) ∙ empty in
        let others = ap (λ (z : Side). length (chain_in s z.records)) (same-sides w q them (u ∷ w.bag) (other role)) in
        record {
          reply = u;
          after = v;
          hands = subst (Hands st w them t (Some u)) there (Heard recovers None (Some u) heard-is (ap (λ (r : Run). r.answer) same));
          ends = subst (In st a b q s own-name terms f v) (sym (same-half role x (readied role f (half_at role x)) ready)) (unmoved st a b q s own-name terms f w x them (u ∷ w.bag) k reached);
          says = ap (update_text p s given) (sym mine) ∙ ap (λ n. update_text p s n (chain_in s (side_of v q role).records)) (sym others);
          among = subst (Among u) (sym (bag-is w them side (u ∷ w.bag))) first;
        }

    pub ask : Asked t
    ask = by (slot_in s (side_of w q role).records) refl
      where
        by : (o : Option Slot) → slot_in s (side_of w q role).records ≡ o → Asked t
        by (Some l) e = ask-named l e
        by None e = ask-none e
