-- Whole sessions, move by move.
use Rattle.std.proofs.Common.{◌≡◌, ◌≢◌, ℕ, ◌+◌, ◌-◌, ◌<◌, ◌≤◌, Bool, true, false, List, [], ◌∷◌, ◌++◌, length, Some, None, get_or, refl, sym, ap, subst, ◌∙◌, arith, inr}
use Rattle.std.specs.Prelude.{drop, nat_le, slice_get, take, replicate, IsTrue}
use Rattle.std.specs.List.{list_all, sum_by}
use Rattle.std.proofs.lemmas.Bool.{and_from}
use Rattle.std.specs.FinMap.{get-empty}
use Rattle.std.specs.Option.{option_map_or}
use Rattle.satp_base.specs.Chains.{next_text}
use Rattle.satp_base.specs.Forms.{IsMessage, are_entries, is_entry}
use Rattle.satp_base.specs.Founding.{Founding}
use Rattle.satp_base.specs.Signatures.{own}
use Rattle.satp_base.specs.Keys.{session_cmp}
use Rattle.satp_base.specs.LedgerRule.{Allows, LedgerRule, entry_of, leads, moved}
use Rattle.satp_base.specs.Money.{Book, cap_of, free_of, given, given_to_all, held, held_of_all, pledged, sum_entries, taken, taken_of_all, total_of}
use Rattle.satp_base.specs.Roles.RoleRule.{Due, Answered, Free}
use Rattle.satp_base.specs.Tales.{eleven, is_whole}
use Rattle.satp_base.specs.Names.{holds_name}
use Rattle.satp_base.specs.Tales.IsTale.{Onward, Rolling, Rejecting}
use Rattle.satp_base.specs.Views.{begin, view_from}
use Rattle.satp_base.specs.declared.ledger.Answer.{Answer}
use Rattle.satp_base.specs.declared.ledger.Entry.{Entry}
use Rattle.satp_base.specs.declared.ledger.Entry.TheVariants.{Absent, Locked, Burnt, Minted, Assigned, Released}
use Rattle.satp_base.specs.declared.ledger.LedgerEntry.{LedgerEntry}
use Rattle.satp_base.specs.declared.ledger.LedgerOp.{LedgerOp}
use Rattle.satp_base.specs.declared.ledger.LedgerOp.TheVariants.{Lock, Burn, Mint, Assign, Release}
use Rattle.satp_base.specs.declared.message.Kind.{Kind}
use Rattle.satp_base.specs.declared.message.Kind.TheVariants.{ProposalReceipt, TransferCommence, CommenceAck, LockAssert, LockReceipt, CommitPrepare, CommitReady, CommitFinal, CommitFinalAck, TransferComplete, Rollback, RollbackAck}
use Rattle.satp_base.specs.declared.message.Part.TheVariants.{Plain, Proposal, Reject}
use Rattle.satp_base.specs.declared.message.Body.TheVariants as body
use Rattle.satp_base.specs.declared.message.Reason.TheVariants as reason
use Rattle.satp_base.specs.declared.message.Role.TheVariants.{Origin, Recipient}
use Rattle.satp_base.specs.declared.message.Terms.{Terms}
use Rattle.satp_base.specs.declared.amount.Amount.{Amount}
use Rattle.satp_base.specs.declared.name.Name.{Name}
use Rattle.satp_base.proofs.SessionLemmas.{exact_sessions, sessions_total}
use Rattle.satp_money.proofs.Maps.{entries_empty}
use Rattle.satp_base.specs.declared.record.Cause.TheVariants as cause
use Rattle.satp_base.specs.declared.record.Way.TheVariants.{Commit, Back}
use Rattle.satp_base.specs.declared.record.Rec.{Rec}
use Rattle.satp_base.specs.declared.record.Rec.TheVariants.{Began, Did, Chose}
use Rattle.satp_base.specs.declared.session.SessionId.{SessionId}
use Rattle.satp_base.specs.declared.view.View.{View}
use Rattle.satp_sides.specs.Moves.{last_texts, message_from}
use Rattle.satp_sides.specs.Moves.Delivered.{Alone}
use Rattle.satp_sides.specs.Moves.Sayable.{Own_text, Updates}
use Rattle.satp_sides.specs.Points.{Text, chain_in, is_session, stored, tale_of}
use Rattle.satp_sides.proofs.LogTexts.{chain-entries}
use Rattle.satp_sides.proofs.Making.{accepts, proposes, says}
use Rattle.satp_sides.proofs.Records.{chain-here, chain-none, is-session, records-apart, session-self, view-apart, view-first}
use Rattle.satp_world.specs.Totals.{AllSettled}
use Rattle.satp_world.specs.Worlds.{IsSettledAt, Reached, Setting, World, party_at}
use Rattle.satp_world.specs.Worlds.Reached.{Begins, Goes}
use Rattle.satp_world.specs.Worlds.WorldMoves.{By}
use Rattle.satp_sides.specs.Moves.Among.{first, later}
use Rattle.satp_world.specs.Worlds.Gateway.{A, B}
use Rattle.satp_world.specs.Examples.{Beside, CanEnd, CanRecover, CanTurn, Case, Endings, Ends, SaysSo, LawEndings, first_book, rejected, rolled_back}
use Rattle.satp_world.proofs.RuleMoves.{entry-moved}
use Rattle.satp_world.proofs.Runs.{Run, act_a, act_b, begins, begins_again, both_sides, finds_a, note_a, note_b, say_b, says_again_a, says_again_b, sends_a, sends_b, succeeds_a, succeeds_b}
use Rattle.satp_world.proofs.WorldLaw.{law_safety}

pub no-entry : (f : Founding) (s : SessionId) → entry_of (first_book f).entries s ≡ Absent
no-entry f s = ap (λ o. option_map_or (λ (k : LedgerEntry). k.entry) o Absent) (get-empty session_cmp s)

-- the operation moves the entry
pub moves_to : (b : Book) (op : LedgerOp) (s : SessionId) (terms : Terms) (e : Entry) → entry_of b.entries s ≡ e → leads op e ≡ true → Allows b op terms → LedgerRule b op s terms Answer.Done (moved b op s terms)
moves_to b op s terms e is line allows = inr (ap (leads op) is ∙ line, allows, refl)

module _ (st : Setting) (fa fb : Founding) (s : SessionId) (named : s.gateway ≡ st.a) (terms : Terms) where
  abbrev mine : List Rec → View
  mine rs = view_from (begin Origin terms) rs

  abbrev peer : List Rec → View
  peer rs = view_from (begin Recipient terms) rs

  -- a run in which the sides have these records behind the first ones
  abbrev Behind : List Rec → List Rec → Book → Book → Type 0
  Behind ra rb ba bb = Run st fa fb s named (mine ra) (peer rb) ba bb []

  ends : (va vb : View) (ba bb : Book) (old : List Text) (k : Run st fa fb s named va vb ba bb old) (tale : List Kind) (ea eb : Entry) → va.tale ≡ tale → vb.tale ≡ tale → is_whole tale ≡ true → entry_of ba.entries s ≡ ea → entry_of bb.entries s ≡ eb
      → Ends st fa fb s tale ea eb (both_sides k.ra ba k.rb bb k.bag)
  ends va vb ba bb old k tale ea eb p q whole e f = record {
    reached = k.reached;
    origin_tale = ap tale_of k.view_a ∙ p;
    recipient_tale = ap tale_of k.view_b ∙ q;
    settled = (law_safety st fa fb (both_sides k.ra ba k.rb bb k.bag) k.reached).settled A s named k.chains (ap (λ o. is_whole (tale_of o)) k.view_a ∙ ap is_whole p ∙ whole);
    all_settled = all_settled;
    origin_entry = e;
    recipient_entry = f;
  }
    where
      settled : IsSettledAt (both_sides k.ra ba k.rb bb k.bag) A s
      settled = (law_safety st fa fb (both_sides k.ra ba k.rb bb k.bag) k.reached).settled A s named k.chains (ap (λ o. is_whole (tale_of o)) k.view_a ∙ ap is_whole p ∙ whole)

      all_settled : AllSettled st (both_sides k.ra ba k.rb bb k.bag)
      all_settled A t v h i = subst (λ x. IsSettledAt (both_sides k.ra ba k.rb bb k.bag) A x) (sym (k.alone_a t v i)) settled
      all_settled B t v h i = absurd (st.differ (sym named ∙ sym (ap (λ (x : SessionId). x.gateway) (k.alone_b t v i)) ∙ h))

  commits : Allows (first_book fa) Lock terms → Allows (first_book fb) Mint terms → CanEnd st fa fb s eleven Burnt Assigned
  commits can_lock can_mint =
      let k0 = begins st fa fb s named terms in
      let k1 = sends_b st fa fb s named _ _ _ _ _ k0 (Plain ProposalReceipt) refl refl (Due refl) refl (Free (refl, Onward 2 (omega arith))) refl in
      let k2 = sends_a st fa fb s named _ _ _ _ _ k1 (Plain TransferCommence) refl refl (Due refl) refl (Free (refl, Onward 3 (omega arith))) refl in
      let k3 = sends_b st fa fb s named _ _ _ _ _ k2 (Plain CommenceAck) refl refl (Due refl) refl (Free (refl, Onward 4 (omega arith))) refl in
      let k4 = act_a st fa fb s named _ _ _ _ _ k3 Lock Answer.Done (moved (first_book fa) Lock s terms) refl (moves_to (first_book fa) Lock s terms Absent (no-entry fa s) refl can_lock) in
      let k5 = note_a st fa fb s named _ _ _ _ _ k4 (Did Lock) (Answered Lock Answer.Done refl refl) tt (entry-moved (first_book fa) Lock s terms) in
      let k6 = sends_a st fa fb s named _ _ _ _ _ k5 (Plain LockAssert) refl refl (Due refl) refl (Free (refl, Onward 5 (omega arith))) refl in
      let k7 = sends_b st fa fb s named _ _ _ _ _ k6 (Plain LockReceipt) refl refl (Due refl) refl (Free (refl, Onward 6 (omega arith))) refl in
      let k8 = sends_a st fa fb s named _ _ _ _ _ k7 (Plain CommitPrepare) refl refl (Due refl) refl (Free (refl, Onward 7 (omega arith))) refl in
      let k9 = act_b st fa fb s named _ _ _ _ _ k8 Mint Answer.Done (moved (first_book fb) Mint s terms) refl (moves_to (first_book fb) Mint s terms Absent (no-entry fb s) refl can_mint) in
      let k10 = note_b st fa fb s named _ _ _ _ _ k9 (Did Mint) (Answered Mint Answer.Done refl refl) tt (entry-moved (first_book fb) Mint s terms) in
      let k11 = sends_b st fa fb s named _ _ _ _ _ k10 (Plain CommitReady) refl refl (Due refl) refl (Free (refl, Onward 8 (omega arith))) refl in
      let k12 = note_a st fa fb s named _ _ _ _ _ k11 (Chose Commit) (Due refl) tt tt in
      let k13 = act_a st fa fb s named _ _ _ _ _ k12 Burn Answer.Done (moved (moved (first_book fa) Lock s terms) Burn s terms) refl (moves_to (moved (first_book fa) Lock s terms) Burn s terms Locked (entry-moved (first_book fa) Lock s terms) refl tt) in
      let k14 = note_a st fa fb s named _ _ _ _ _ k13 (Did Burn) (Answered Burn Answer.Done refl refl) tt (entry-moved (moved (first_book fa) Lock s terms) Burn s terms) in
      let k15 = sends_a st fa fb s named _ _ _ _ _ k14 (Plain CommitFinal) refl refl (Due refl) refl (Free (refl, Onward 9 (omega arith))) refl in
      let k16 = act_b st fa fb s named _ _ _ _ _ k15 Assign Answer.Done (moved (moved (first_book fb) Mint s terms) Assign s terms) refl (moves_to (moved (first_book fb) Mint s terms) Assign s terms Minted (entry-moved (first_book fb) Mint s terms) refl tt) in
      let k17 = note_b st fa fb s named _ _ _ _ _ k16 (Did Assign) (Answered Assign Answer.Done refl refl) tt (entry-moved (moved (first_book fb) Mint s terms) Assign s terms) in
      let k18 = sends_b st fa fb s named _ _ _ _ _ k17 (Plain CommitFinalAck) refl refl (Due refl) refl (Free (refl, Onward 10 (omega arith))) refl in
      let k19 = sends_a st fa fb s named _ _ _ _ _ k18 (Plain TransferComplete) refl refl (Due refl) refl (Free (refl, Onward 11 (omega arith))) refl in
      (both_sides k19.ra _ k19.rb _ k19.bag, ends _ _ _ _ _ k19 (eleven) Burnt Assigned refl refl refl (entry-moved (moved (first_book fa) Lock s terms) Burn s terms) (entry-moved (moved (first_book fb) Mint s terms) Assign s terms))

  aborts : CanEnd st fa fb s (take 2 eleven ++ rolled_back) Released Absent
  aborts =
      let k0 = begins st fa fb s named terms in
      let k1 = sends_b st fa fb s named _ _ _ _ _ k0 (Plain ProposalReceipt) refl refl (Due refl) refl (Free (refl, Onward 2 (omega arith))) refl in
      let k2 = note_a st fa fb s named _ _ _ _ _ k1 (Chose (Back cause.Aborted)) (Free (refl, refl)) tt tt in
      let k3 = act_a st fa fb s named _ _ _ _ _ k2 Release Answer.Done (moved (first_book fa) Release s terms) refl (moves_to (first_book fa) Release s terms Absent (no-entry fa s) refl tt) in
      let k4 = note_a st fa fb s named _ _ _ _ _ k3 (Did Release) (Answered Release Answer.Done refl refl) tt (entry-moved (first_book fa) Release s terms) in
      let k5 = sends_a st fa fb s named _ _ _ _ _ k4 (Plain Rollback) refl refl (Due refl) refl (Free (refl, Rolling 0 1 (omega arith) (omega arith))) refl in
      let k6 = sends_b st fa fb s named _ _ _ _ _ k5 (Plain RollbackAck) refl refl (Due refl) refl (Free (refl, Rolling 0 2 (omega arith) (omega arith))) refl in
      (both_sides k6.ra _ k6.rb _ k6.bag, ends _ _ _ _ _ k6 (take 2 eleven ++ rolled_back) Released Absent refl refl refl (entry-moved (first_book fa) Release s terms) (no-entry fb s))

  lacks_funds : free_of (first_book fa) terms.asset terms.originator < terms.amount.number → CanEnd st fa fb s (take 4 eleven ++ rolled_back) Released Absent
  lacks_funds short =
      let k0 = begins st fa fb s named terms in
      let k1 = sends_b st fa fb s named _ _ _ _ _ k0 (Plain ProposalReceipt) refl refl (Due refl) refl (Free (refl, Onward 2 (omega arith))) refl in
      let k2 = sends_a st fa fb s named _ _ _ _ _ k1 (Plain TransferCommence) refl refl (Due refl) refl (Free (refl, Onward 3 (omega arith))) refl in
      let k3 = sends_b st fa fb s named _ _ _ _ _ k2 (Plain CommenceAck) refl refl (Due refl) refl (Free (refl, Onward 4 (omega arith))) refl in
      let k4 = note_a st fa fb s named _ _ _ _ _ k3 (Chose (Back cause.LockRefused)) (Answered Lock (Answer.NoFunds (free_of (first_book fa) terms.asset terms.originator)) refl refl) tt (Answer.NoFunds (free_of (first_book fa) terms.asset terms.originator), (no-entry fa s, refl, short, refl), refl) in
      let k5 = act_a st fa fb s named _ _ _ _ _ k4 Release Answer.Done (moved (first_book fa) Release s terms) refl (moves_to (first_book fa) Release s terms Absent (no-entry fa s) refl tt) in
      let k6 = note_a st fa fb s named _ _ _ _ _ k5 (Did Release) (Answered Release Answer.Done refl refl) tt (entry-moved (first_book fa) Release s terms) in
      let k7 = sends_a st fa fb s named _ _ _ _ _ k6 (Plain Rollback) refl refl (Due refl) refl (Free (refl, Rolling 1 1 (omega arith) (omega arith))) refl in
      let k8 = sends_b st fa fb s named _ _ _ _ _ k7 (Plain RollbackAck) refl refl (Due refl) refl (Free (refl, Rolling 1 2 (omega arith) (omega arith))) refl in
      (both_sides k8.ra _ k8.rb _ k8.bag, ends _ _ _ _ _ k8 (take 4 eleven ++ rolled_back) Released Absent refl refl refl (entry-moved (first_book fa) Release s terms) (no-entry fb s))

  rejects : Allows (first_book fa) Lock terms → cap_of fb terms.asset ≡ None → CanEnd st fa fb s (take 7 eleven ++ rejected) Released Absent
  rejects can_lock unknown =
      let k0 = begins st fa fb s named terms in
      let k1 = sends_b st fa fb s named _ _ _ _ _ k0 (Plain ProposalReceipt) refl refl (Due refl) refl (Free (refl, Onward 2 (omega arith))) refl in
      let k2 = sends_a st fa fb s named _ _ _ _ _ k1 (Plain TransferCommence) refl refl (Due refl) refl (Free (refl, Onward 3 (omega arith))) refl in
      let k3 = sends_b st fa fb s named _ _ _ _ _ k2 (Plain CommenceAck) refl refl (Due refl) refl (Free (refl, Onward 4 (omega arith))) refl in
      let k4 = act_a st fa fb s named _ _ _ _ _ k3 Lock Answer.Done (moved (first_book fa) Lock s terms) refl (moves_to (first_book fa) Lock s terms Absent (no-entry fa s) refl can_lock) in
      let k5 = note_a st fa fb s named _ _ _ _ _ k4 (Did Lock) (Answered Lock Answer.Done refl refl) tt (entry-moved (first_book fa) Lock s terms) in
      let k6 = sends_a st fa fb s named _ _ _ _ _ k5 (Plain LockAssert) refl refl (Due refl) refl (Free (refl, Onward 5 (omega arith))) refl in
      let k7 = sends_b st fa fb s named _ _ _ _ _ k6 (Plain LockReceipt) refl refl (Due refl) refl (Free (refl, Onward 6 (omega arith))) refl in
      let k8 = sends_a st fa fb s named _ _ _ _ _ k7 (Plain CommitPrepare) refl refl (Due refl) refl (Free (refl, Onward 7 (omega arith))) refl in
      let k9 = note_b st fa fb s named _ _ _ _ _ k8 (Chose (Back cause.UnknownAsset)) (Answered Mint Answer.UnknownAsset refl refl) tt (Answer.UnknownAsset, (no-entry fb s, unknown, refl), refl) in
      let k10 = sends_b st fa fb s named _ _ _ _ _ k9 (Reject reason.UnknownAsset) refl refl (Due refl) tt (Free (refl, Rejecting 3 1 (omega arith) (omega arith))) refl in
      let k11 = note_a st fa fb s named _ _ _ _ _ k10 (Chose (Back cause.Rejected)) (Due refl) tt tt in
      let k12 = act_a st fa fb s named _ _ _ _ _ k11 Release Answer.Done (moved (moved (first_book fa) Lock s terms) Release s terms) refl (moves_to (moved (first_book fa) Lock s terms) Release s terms Locked (entry-moved (first_book fa) Lock s terms) refl tt) in
      let k13 = note_a st fa fb s named _ _ _ _ _ k12 (Did Release) (Answered Release Answer.Done refl refl) tt (entry-moved (moved (first_book fa) Lock s terms) Release s terms) in
      let k14 = sends_a st fa fb s named _ _ _ _ _ k13 (Plain Rollback) refl refl (Due refl) refl (Free (refl, Rejecting 3 2 (omega arith) (omega arith))) refl in
      let k15 = sends_b st fa fb s named _ _ _ _ _ k14 (Plain RollbackAck) refl refl (Due refl) refl (Free (refl, Rejecting 3 3 (omega arith) (omega arith))) refl in
      (both_sides k15.ra _ k15.rb _ k15.bag, ends _ _ _ _ _ k15 (take 7 eleven ++ rejected) Released Absent refl refl refl (entry-moved (moved (first_book fa) Lock s terms) Release s terms) (no-entry fb s))

  recipient_aborts : Allows (first_book fa) Lock terms → Allows (first_book fb) Mint terms → CanEnd st fa fb s (take 7 eleven ++ rejected) Released Released
  recipient_aborts can_lock can_mint =
      let k0 = begins st fa fb s named terms in
      let k1 = sends_b st fa fb s named _ _ _ _ _ k0 (Plain ProposalReceipt) refl refl (Due refl) refl (Free (refl, Onward 2 (omega arith))) refl in
      let k2 = sends_a st fa fb s named _ _ _ _ _ k1 (Plain TransferCommence) refl refl (Due refl) refl (Free (refl, Onward 3 (omega arith))) refl in
      let k3 = sends_b st fa fb s named _ _ _ _ _ k2 (Plain CommenceAck) refl refl (Due refl) refl (Free (refl, Onward 4 (omega arith))) refl in
      let k4 = act_a st fa fb s named _ _ _ _ _ k3 Lock Answer.Done (moved (first_book fa) Lock s terms) refl (moves_to (first_book fa) Lock s terms Absent (no-entry fa s) refl can_lock) in
      let k5 = note_a st fa fb s named _ _ _ _ _ k4 (Did Lock) (Answered Lock Answer.Done refl refl) tt (entry-moved (first_book fa) Lock s terms) in
      let k6 = sends_a st fa fb s named _ _ _ _ _ k5 (Plain LockAssert) refl refl (Due refl) refl (Free (refl, Onward 5 (omega arith))) refl in
      let k7 = sends_b st fa fb s named _ _ _ _ _ k6 (Plain LockReceipt) refl refl (Due refl) refl (Free (refl, Onward 6 (omega arith))) refl in
      let k8 = sends_a st fa fb s named _ _ _ _ _ k7 (Plain CommitPrepare) refl refl (Due refl) refl (Free (refl, Onward 7 (omega arith))) refl in
      let k9 = act_b st fa fb s named _ _ _ _ _ k8 Mint Answer.Done (moved (first_book fb) Mint s terms) refl (moves_to (first_book fb) Mint s terms Absent (no-entry fb s) refl can_mint) in
      let k10 = note_b st fa fb s named _ _ _ _ _ k9 (Did Mint) (Answered Mint Answer.Done refl refl) tt (entry-moved (first_book fb) Mint s terms) in
      let k11 = note_b st fa fb s named _ _ _ _ _ k10 (Chose (Back cause.Aborted)) (Free (refl, refl, refl)) tt tt in
      let k12 = act_b st fa fb s named _ _ _ _ _ k11 Release Answer.Done (moved (moved (first_book fb) Mint s terms) Release s terms) refl (moves_to (moved (first_book fb) Mint s terms) Release s terms Minted (entry-moved (first_book fb) Mint s terms) refl tt) in
      let k13 = note_b st fa fb s named _ _ _ _ _ k12 (Did Release) (Answered Release Answer.Done refl refl) tt (entry-moved (moved (first_book fb) Mint s terms) Release s terms) in
      let k14 = sends_b st fa fb s named _ _ _ _ _ k13 (Reject reason.Aborted) refl refl (Due refl) tt (Free (refl, Rejecting 3 1 (omega arith) (omega arith))) refl in
      let k15 = note_a st fa fb s named _ _ _ _ _ k14 (Chose (Back cause.Rejected)) (Due refl) tt tt in
      let k16 = act_a st fa fb s named _ _ _ _ _ k15 Release Answer.Done (moved (moved (first_book fa) Lock s terms) Release s terms) refl (moves_to (moved (first_book fa) Lock s terms) Release s terms Locked (entry-moved (first_book fa) Lock s terms) refl tt) in
      let k17 = note_a st fa fb s named _ _ _ _ _ k16 (Did Release) (Answered Release Answer.Done refl refl) tt (entry-moved (moved (first_book fa) Lock s terms) Release s terms) in
      let k18 = sends_a st fa fb s named _ _ _ _ _ k17 (Plain Rollback) refl refl (Due refl) refl (Free (refl, Rejecting 3 2 (omega arith) (omega arith))) refl in
      let k19 = sends_b st fa fb s named _ _ _ _ _ k18 (Plain RollbackAck) refl refl (Due refl) refl (Free (refl, Rejecting 3 3 (omega arith) (omega arith))) refl in
      (both_sides k19.ra _ k19.rb _ k19.bag, ends _ _ _ _ _ k19 (take 7 eleven ++ rejected) Released Released refl refl refl (entry-moved (moved (first_book fa) Lock s terms) Release s terms) (entry-moved (moved (first_book fb) Mint s terms) Release s terms))

  says_again : Allows (first_book fa) Lock terms → Allows (first_book fb) Mint terms → CanRecover st fa fb A s 0 eleven Burnt Assigned
  says_again can_lock can_mint =
      let k0 = begins st fa fb s named terms in
      let k1 = sends_b st fa fb s named _ _ _ _ _ k0 (Plain ProposalReceipt) refl refl (Due refl) refl (Free (refl, Onward 2 (omega arith))) refl in
      let k2 = sends_a st fa fb s named _ _ _ _ _ k1 (Plain TransferCommence) refl refl (Due refl) refl (Free (refl, Onward 3 (omega arith))) refl in
      let k3 = sends_b st fa fb s named _ _ _ _ _ k2 (Plain CommenceAck) refl refl (Due refl) refl (Free (refl, Onward 4 (omega arith))) refl in
      let k4 = act_a st fa fb s named _ _ _ _ _ k3 Lock Answer.Done (moved (first_book fa) Lock s terms) refl (moves_to (first_book fa) Lock s terms Absent (no-entry fa s) refl can_lock) in
      let k5 = note_a st fa fb s named _ _ _ _ _ k4 (Did Lock) (Answered Lock Answer.Done refl refl) tt (entry-moved (first_book fa) Lock s terms) in
      let k6 = sends_a st fa fb s named _ _ _ _ _ k5 (Plain LockAssert) refl refl (Due refl) refl (Free (refl, Onward 5 (omega arith))) refl in
      let k7 = sends_b st fa fb s named _ _ _ _ _ k6 (Plain LockReceipt) refl refl (Due refl) refl (Free (refl, Onward 6 (omega arith))) refl in
      let again = says_again_a st fa fb s named _ _ _ _ k7 (Plain CommitPrepare) refl refl (Due refl) refl (Free (refl, Onward 7 (omega arith))) refl (Free (refl, refl, refl)) (omega arith) in
      let k8 = again.run in
      let k9 = act_b st fa fb s named _ _ _ _ _ k8 Mint Answer.Done (moved (first_book fb) Mint s terms) refl (moves_to (first_book fb) Mint s terms Absent (no-entry fb s) refl can_mint) in
      let k10 = note_b st fa fb s named _ _ _ _ _ k9 (Did Mint) (Answered Mint Answer.Done refl refl) tt (entry-moved (first_book fb) Mint s terms) in
      let k11 = sends_b st fa fb s named _ _ _ _ _ k10 (Plain CommitReady) refl refl (Due refl) refl (Free (refl, Onward 8 (omega arith))) refl in
      let k12 = note_a st fa fb s named _ _ _ _ _ k11 (Chose Commit) (Due refl) tt tt in
      let k13 = act_a st fa fb s named _ _ _ _ _ k12 Burn Answer.Done (moved (moved (first_book fa) Lock s terms) Burn s terms) refl (moves_to (moved (first_book fa) Lock s terms) Burn s terms Locked (entry-moved (first_book fa) Lock s terms) refl tt) in
      let k14 = note_a st fa fb s named _ _ _ _ _ k13 (Did Burn) (Answered Burn Answer.Done refl refl) tt (entry-moved (moved (first_book fa) Lock s terms) Burn s terms) in
      let k15 = sends_a st fa fb s named _ _ _ _ _ k14 (Plain CommitFinal) refl refl (Due refl) refl (Free (refl, Onward 9 (omega arith))) refl in
      let k16 = act_b st fa fb s named _ _ _ _ _ k15 Assign Answer.Done (moved (moved (first_book fb) Mint s terms) Assign s terms) refl (moves_to (moved (first_book fb) Mint s terms) Assign s terms Minted (entry-moved (first_book fb) Mint s terms) refl tt) in
      let k17 = note_b st fa fb s named _ _ _ _ _ k16 (Did Assign) (Answered Assign Answer.Done refl refl) tt (entry-moved (moved (first_book fb) Mint s terms) Assign s terms) in
      let k18 = sends_b st fa fb s named _ _ _ _ _ k17 (Plain CommitFinalAck) refl refl (Due refl) refl (Free (refl, Onward 10 (omega arith))) refl in
      let k19 = sends_a st fa fb s named _ _ _ _ _ k18 (Plain TransferComplete) refl refl (Due refl) refl (Free (refl, Onward 11 (omega arith))) refl in
      let (ended, ended_last, last) = succeeds_a st fa fb s named _ _ _ _ _ k19 (omega arith) in (
        both_sides last.ra _ last.rb _ last.bag,
        ends _ _ _ _ _ last eleven Burnt Assigned refl refl refl (entry-moved (moved (first_book fa) Lock s terms) Burn s terms) (entry-moved (moved (first_book fb) Mint s terms) Assign s terms),
        record {
          asked = again.asked;
          asked_last = again.asked_last;
          recover = last.keeps _ (later (later first));
          answered = again.answered;
          carried = again.carried;
          update = last.keeps _ (later first);
          carries = again.carries;
          ended = ended;
          ended_last = ended_last;
          success = last.keeps _ first;
        },
      )

  finds_again : Allows (first_book fa) Lock terms → Allows (first_book fb) Mint terms → CanRecover st fa fb A s 1 eleven Burnt Assigned
  finds_again can_lock can_mint =
      let k0 = begins st fa fb s named terms in
      let k1 = sends_b st fa fb s named _ _ _ _ _ k0 (Plain ProposalReceipt) refl refl (Due refl) refl (Free (refl, Onward 2 (omega arith))) refl in
      let k2 = sends_a st fa fb s named _ _ _ _ _ k1 (Plain TransferCommence) refl refl (Due refl) refl (Free (refl, Onward 3 (omega arith))) refl in
      let k3 = sends_b st fa fb s named _ _ _ _ _ k2 (Plain CommenceAck) refl refl (Due refl) refl (Free (refl, Onward 4 (omega arith))) refl in
      let k4 = act_a st fa fb s named _ _ _ _ _ k3 Lock Answer.Done (moved (first_book fa) Lock s terms) refl (moves_to (first_book fa) Lock s terms Absent (no-entry fa s) refl can_lock) in
      let k5 = note_a st fa fb s named _ _ _ _ _ k4 (Did Lock) (Answered Lock Answer.Done refl refl) tt (entry-moved (first_book fa) Lock s terms) in
      let k6 = sends_a st fa fb s named _ _ _ _ _ k5 (Plain LockAssert) refl refl (Due refl) refl (Free (refl, Onward 5 (omega arith))) refl in
      let k7 = sends_b st fa fb s named _ _ _ _ _ k6 (Plain LockReceipt) refl refl (Due refl) refl (Free (refl, Onward 6 (omega arith))) refl in
      let k8 = sends_a st fa fb s named _ _ _ _ _ k7 (Plain CommitPrepare) refl refl (Due refl) refl (Free (refl, Onward 7 (omega arith))) refl in
      let k9 = act_b st fa fb s named _ _ _ _ _ k8 Mint Answer.Done (moved (first_book fb) Mint s terms) refl (moves_to (first_book fb) Mint s terms Absent (no-entry fb s) refl can_mint) in
      let k10 = note_b st fa fb s named _ _ _ _ _ k9 (Did Mint) (Answered Mint Answer.Done refl refl) tt (entry-moved (first_book fb) Mint s terms) in
      let again = finds_a st fa fb s named _ _ _ _ k10 (Plain CommitReady) refl refl (Due refl) refl (Free (refl, Onward 8 (omega arith))) refl (Free (refl, refl, refl)) (omega arith) in
      let k11 = again.run in
      let k12 = note_a st fa fb s named _ _ _ _ _ k11 (Chose Commit) (Due refl) tt tt in
      let k13 = act_a st fa fb s named _ _ _ _ _ k12 Burn Answer.Done (moved (moved (first_book fa) Lock s terms) Burn s terms) refl (moves_to (moved (first_book fa) Lock s terms) Burn s terms Locked (entry-moved (first_book fa) Lock s terms) refl tt) in
      let k14 = note_a st fa fb s named _ _ _ _ _ k13 (Did Burn) (Answered Burn Answer.Done refl refl) tt (entry-moved (moved (first_book fa) Lock s terms) Burn s terms) in
      let k15 = sends_a st fa fb s named _ _ _ _ _ k14 (Plain CommitFinal) refl refl (Due refl) refl (Free (refl, Onward 9 (omega arith))) refl in
      let k16 = act_b st fa fb s named _ _ _ _ _ k15 Assign Answer.Done (moved (moved (first_book fb) Mint s terms) Assign s terms) refl (moves_to (moved (first_book fb) Mint s terms) Assign s terms Minted (entry-moved (first_book fb) Mint s terms) refl tt) in
      let k17 = note_b st fa fb s named _ _ _ _ _ k16 (Did Assign) (Answered Assign Answer.Done refl refl) tt (entry-moved (moved (first_book fb) Mint s terms) Assign s terms) in
      let k18 = sends_b st fa fb s named _ _ _ _ _ k17 (Plain CommitFinalAck) refl refl (Due refl) refl (Free (refl, Onward 10 (omega arith))) refl in
      let k19 = sends_a st fa fb s named _ _ _ _ _ k18 (Plain TransferComplete) refl refl (Due refl) refl (Free (refl, Onward 11 (omega arith))) refl in
      let (ended, ended_last, last) = succeeds_a st fa fb s named _ _ _ _ _ k19 (omega arith) in (
        both_sides last.ra _ last.rb _ last.bag,
        ends _ _ _ _ _ last (eleven) Burnt Assigned refl refl refl (entry-moved (moved (first_book fa) Lock s terms) Burn s terms) (entry-moved (moved (first_book fb) Mint s terms) Assign s terms),
        record {
          asked = again.asked;
          asked_last = again.asked_last;
          recover = last.keeps _ (later (later first));
          answered = again.answered;
          carried = again.carried;
          update = last.keeps _ (later first);
          carries = again.carries;
          ended = ended;
          ended_last = ended_last;
          success = last.keeps _ first;
        },
      )

  rescues : Allows (first_book fa) Lock terms → CanRecover st fa fb A s 1 (take 6 eleven ++ rolled_back) Released Absent
  rescues can_lock =
      let k0 = begins st fa fb s named terms in
      let k1 = sends_b st fa fb s named _ _ _ _ _ k0 (Plain ProposalReceipt) refl refl (Due refl) refl (Free (refl, Onward 2 (omega arith))) refl in
      let k2 = sends_a st fa fb s named _ _ _ _ _ k1 (Plain TransferCommence) refl refl (Due refl) refl (Free (refl, Onward 3 (omega arith))) refl in
      let k3 = sends_b st fa fb s named _ _ _ _ _ k2 (Plain CommenceAck) refl refl (Due refl) refl (Free (refl, Onward 4 (omega arith))) refl in
      let k4 = act_a st fa fb s named _ _ _ _ _ k3 Lock Answer.Done (moved (first_book fa) Lock s terms) refl (moves_to (first_book fa) Lock s terms Absent (no-entry fa s) refl can_lock) in
      let k5 = note_a st fa fb s named _ _ _ _ _ k4 (Did Lock) (Answered Lock Answer.Done refl refl) tt (entry-moved (first_book fa) Lock s terms) in
      let k6 = sends_a st fa fb s named _ _ _ _ _ k5 (Plain LockAssert) refl refl (Due refl) refl (Free (refl, Onward 5 (omega arith))) refl in
      let again = finds_a st fa fb s named _ _ _ _ k6 (Plain LockReceipt) refl refl (Due refl) refl (Free (refl, Onward 6 (omega arith))) refl (Free (refl, refl, refl)) (omega arith) in
      let k7 = again.run in
      let k8 = note_a st fa fb s named _ _ _ _ _ k7 (Chose (Back cause.Rescued)) (Due refl) tt tt in
      let k9 = act_a st fa fb s named _ _ _ _ _ k8 Release Answer.Done (moved (moved (first_book fa) Lock s terms) Release s terms) refl (moves_to (moved (first_book fa) Lock s terms) Release s terms Locked (entry-moved (first_book fa) Lock s terms) refl tt) in
      let k10 = note_a st fa fb s named _ _ _ _ _ k9 (Did Release) (Answered Release Answer.Done refl refl) tt (entry-moved (moved (first_book fa) Lock s terms) Release s terms) in
      let k11 = sends_a st fa fb s named _ _ _ _ _ k10 (Plain Rollback) refl refl (Due refl) refl (Free (refl, Rolling 2 1 (omega arith) (omega arith))) refl in
      let k12 = sends_b st fa fb s named _ _ _ _ _ k11 (Plain RollbackAck) refl refl (Due refl) refl (Free (refl, Rolling 2 2 (omega arith) (omega arith))) refl in
      let (ended, ended_last, last) = succeeds_a st fa fb s named _ _ _ _ _ k12 (omega arith) in (
        both_sides last.ra _ last.rb _ last.bag,
        ends _ _ _ _ _ last (take 6 eleven ++ rolled_back) Released Absent refl refl refl (entry-moved (moved (first_book fa) Lock s terms) Release s terms) (no-entry fb s),
        record {
          asked = again.asked;
          asked_last = again.asked_last;
          recover = last.keeps _ (later (later first));
          answered = again.answered;
          carried = again.carried;
          update = last.keeps _ (later first);
          carries = again.carries;
          ended = ended;
          ended_last = ended_last;
          success = last.keeps _ first;
        },
      )

  passes_the_cap : Allows (first_book fa) Lock terms → (cap : ℕ) → cap_of fb terms.asset ≡ Some cap → cap < total_of (first_book fb) terms.asset + terms.amount.number → CanEnd st fa fb s (take 7 eleven ++ rejected) Released Absent
  passes_the_cap can_lock cap has past =
      let k0 = begins st fa fb s named terms in
      let k1 = sends_b st fa fb s named _ _ _ _ _ k0 (Plain ProposalReceipt) refl refl (Due refl) refl (Free (refl, Onward 2 (omega arith))) refl in
      let k2 = sends_a st fa fb s named _ _ _ _ _ k1 (Plain TransferCommence) refl refl (Due refl) refl (Free (refl, Onward 3 (omega arith))) refl in
      let k3 = sends_b st fa fb s named _ _ _ _ _ k2 (Plain CommenceAck) refl refl (Due refl) refl (Free (refl, Onward 4 (omega arith))) refl in
      let k4 = act_a st fa fb s named _ _ _ _ _ k3 Lock Answer.Done (moved (first_book fa) Lock s terms) refl (moves_to (first_book fa) Lock s terms Absent (no-entry fa s) refl can_lock) in
      let k5 = note_a st fa fb s named _ _ _ _ _ k4 (Did Lock) (Answered Lock Answer.Done refl refl) tt (entry-moved (first_book fa) Lock s terms) in
      let k6 = sends_a st fa fb s named _ _ _ _ _ k5 (Plain LockAssert) refl refl (Due refl) refl (Free (refl, Onward 5 (omega arith))) refl in
      let k7 = sends_b st fa fb s named _ _ _ _ _ k6 (Plain LockReceipt) refl refl (Due refl) refl (Free (refl, Onward 6 (omega arith))) refl in
      let k8 = sends_a st fa fb s named _ _ _ _ _ k7 (Plain CommitPrepare) refl refl (Due refl) refl (Free (refl, Onward 7 (omega arith))) refl in
      let k9 = note_b st fa fb s named _ _ _ _ _ k8 (Chose (Back cause.MintCapped)) (Answered Mint (Answer.Capped (total_of (first_book fb) terms.asset)) refl refl) tt (Answer.Capped (total_of (first_book fb) terms.asset), (no-entry fb s, refl, (cap, has, past), refl), refl) in
      let k10 = sends_b st fa fb s named _ _ _ _ _ k9 (Reject reason.MintCapped) refl refl (Due refl) tt (Free (refl, Rejecting 3 1 (omega arith) (omega arith))) refl in
      let k11 = note_a st fa fb s named _ _ _ _ _ k10 (Chose (Back cause.Rejected)) (Due refl) tt tt in
      let k12 = act_a st fa fb s named _ _ _ _ _ k11 Release Answer.Done (moved (moved (first_book fa) Lock s terms) Release s terms) refl (moves_to (moved (first_book fa) Lock s terms) Release s terms Locked (entry-moved (first_book fa) Lock s terms) refl tt) in
      let k13 = note_a st fa fb s named _ _ _ _ _ k12 (Did Release) (Answered Release Answer.Done refl refl) tt (entry-moved (moved (first_book fa) Lock s terms) Release s terms) in
      let k14 = sends_a st fa fb s named _ _ _ _ _ k13 (Plain Rollback) refl refl (Due refl) refl (Free (refl, Rejecting 3 2 (omega arith) (omega arith))) refl in
      let k15 = sends_b st fa fb s named _ _ _ _ _ k14 (Plain RollbackAck) refl refl (Due refl) refl (Free (refl, Rejecting 3 3 (omega arith) (omega arith))) refl in
      (both_sides k15.ra _ k15.rb _ k15.bag, ends _ _ _ _ _ k15 (take 7 eleven ++ rejected) Released Absent refl refl refl (entry-moved (moved (first_book fa) Lock s terms) Release s terms) (no-entry fb s))

  declines : CanEnd st fa fb s (take 1 eleven ++ rejected) Released Absent
  declines =
      let k0 = begins st fa fb s named terms in
      let k1 = note_b st fa fb s named _ _ _ _ _ k0 (Chose (Back cause.Aborted)) (Free (refl, refl, refl)) tt tt in
      let k2 = sends_b st fa fb s named _ _ _ _ _ k1 (Reject reason.Aborted) refl refl (Due refl) tt (Free (refl, Rejecting 0 1 (omega arith) (omega arith))) refl in
      let k3 = note_a st fa fb s named _ _ _ _ _ k2 (Chose (Back cause.Rejected)) (Due refl) tt tt in
      let k4 = act_a st fa fb s named _ _ _ _ _ k3 Release Answer.Done (moved (first_book fa) Release s terms) refl (moves_to (first_book fa) Release s terms Absent (no-entry fa s) refl tt) in
      let k5 = note_a st fa fb s named _ _ _ _ _ k4 (Did Release) (Answered Release Answer.Done refl refl) tt (entry-moved (first_book fa) Release s terms) in
      let k6 = sends_a st fa fb s named _ _ _ _ _ k5 (Plain Rollback) refl refl (Due refl) refl (Free (refl, Rejecting 0 2 (omega arith) (omega arith))) refl in
      let k7 = sends_b st fa fb s named _ _ _ _ _ k6 (Plain RollbackAck) refl refl (Due refl) refl (Free (refl, Rejecting 0 3 (omega arith) (omega arith))) refl in
      (both_sides k7.ra _ k7.rb _ k7.bag, ends _ _ _ _ _ k7 (take 1 eleven ++ rejected) Released Absent refl refl refl (entry-moved (first_book fa) Release s terms) (no-entry fb s))

  proposes_again : CanRecover st fa fb A s 0 (take 2 eleven ++ rolled_back) Released Absent
  proposes_again =
      let again = begins_again st fa fb s named terms in
      let k0 = again.run in
      let k1 = sends_b st fa fb s named _ _ _ _ _ k0 (Plain ProposalReceipt) refl refl (Due refl) refl (Free (refl, Onward 2 (omega arith))) refl in
      let k2 = note_a st fa fb s named _ _ _ _ _ k1 (Chose (Back cause.Rescued)) (Due refl) tt tt in
      let k3 = act_a st fa fb s named _ _ _ _ _ k2 Release Answer.Done (moved (first_book fa) Release s terms) refl (moves_to (first_book fa) Release s terms Absent (no-entry fa s) refl tt) in
      let k4 = note_a st fa fb s named _ _ _ _ _ k3 (Did Release) (Answered Release Answer.Done refl refl) tt (entry-moved (first_book fa) Release s terms) in
      let k5 = sends_a st fa fb s named _ _ _ _ _ k4 (Plain Rollback) refl refl (Due refl) refl (Free (refl, Rolling 0 1 (omega arith) (omega arith))) refl in
      let k6 = sends_b st fa fb s named _ _ _ _ _ k5 (Plain RollbackAck) refl refl (Due refl) refl (Free (refl, Rolling 0 2 (omega arith) (omega arith))) refl in
      let (ended, ended_last, last) = succeeds_a st fa fb s named _ _ _ _ _ k6 (omega arith) in (
        both_sides last.ra _ last.rb _ last.bag,
        ends _ _ _ _ _ last (take 2 eleven ++ rolled_back) Released Absent refl refl refl (entry-moved (first_book fa) Release s terms) (no-entry fb s),
        record {
          asked = again.asked;
          asked_last = again.asked_last;
          recover = last.keeps _ (later (later first));
          answered = again.answered;
          carried = again.carried;
          update = last.keeps _ (later first);
          carries = again.carries;
          ended = ended;
          ended_last = ended_last;
          success = last.keeps _ first;
        },
      )

  declines_the_transfer : CanEnd st fa fb s (take 3 eleven ++ rejected) Released Absent
  declines_the_transfer =
      let k0 = begins st fa fb s named terms in
      let k1 = sends_b st fa fb s named _ _ _ _ _ k0 (Plain ProposalReceipt) refl refl (Due refl) refl (Free (refl, Onward 2 (omega arith))) refl in
      let k2 = sends_a st fa fb s named _ _ _ _ _ k1 (Plain TransferCommence) refl refl (Due refl) refl (Free (refl, Onward 3 (omega arith))) refl in
      let k3 = note_b st fa fb s named _ _ _ _ _ k2 (Chose (Back cause.Aborted)) (Free (refl, refl, refl)) tt tt in
      let k4 = sends_b st fa fb s named _ _ _ _ _ k3 (Reject reason.Aborted) refl refl (Due refl) tt (Free (refl, Rejecting 1 1 (omega arith) (omega arith))) refl in
      let k5 = note_a st fa fb s named _ _ _ _ _ k4 (Chose (Back cause.Rejected)) (Due refl) tt tt in
      let k6 = act_a st fa fb s named _ _ _ _ _ k5 Release Answer.Done (moved (first_book fa) Release s terms) refl (moves_to (first_book fa) Release s terms Absent (no-entry fa s) refl tt) in
      let k7 = note_a st fa fb s named _ _ _ _ _ k6 (Did Release) (Answered Release Answer.Done refl refl) tt (entry-moved (first_book fa) Release s terms) in
      let k8 = sends_a st fa fb s named _ _ _ _ _ k7 (Plain Rollback) refl refl (Due refl) refl (Free (refl, Rejecting 1 2 (omega arith) (omega arith))) refl in
      let k9 = sends_b st fa fb s named _ _ _ _ _ k8 (Plain RollbackAck) refl refl (Due refl) refl (Free (refl, Rejecting 1 3 (omega arith) (omega arith))) refl in
      (both_sides k9.ra _ k9.rb _ k9.bag, ends _ _ _ _ _ k9 (take 3 eleven ++ rejected) Released Absent refl refl refl (entry-moved (first_book fa) Release s terms) (no-entry fb s))

  declines_the_lock : Allows (first_book fa) Lock terms → CanEnd st fa fb s (take 5 eleven ++ rejected) Released Absent
  declines_the_lock can_lock =
      let k0 = begins st fa fb s named terms in
      let k1 = sends_b st fa fb s named _ _ _ _ _ k0 (Plain ProposalReceipt) refl refl (Due refl) refl (Free (refl, Onward 2 (omega arith))) refl in
      let k2 = sends_a st fa fb s named _ _ _ _ _ k1 (Plain TransferCommence) refl refl (Due refl) refl (Free (refl, Onward 3 (omega arith))) refl in
      let k3 = sends_b st fa fb s named _ _ _ _ _ k2 (Plain CommenceAck) refl refl (Due refl) refl (Free (refl, Onward 4 (omega arith))) refl in
      let k4 = act_a st fa fb s named _ _ _ _ _ k3 Lock Answer.Done (moved (first_book fa) Lock s terms) refl (moves_to (first_book fa) Lock s terms Absent (no-entry fa s) refl can_lock) in
      let k5 = note_a st fa fb s named _ _ _ _ _ k4 (Did Lock) (Answered Lock Answer.Done refl refl) tt (entry-moved (first_book fa) Lock s terms) in
      let k6 = sends_a st fa fb s named _ _ _ _ _ k5 (Plain LockAssert) refl refl (Due refl) refl (Free (refl, Onward 5 (omega arith))) refl in
      let k7 = note_b st fa fb s named _ _ _ _ _ k6 (Chose (Back cause.Aborted)) (Free (refl, refl, refl)) tt tt in
      let k8 = sends_b st fa fb s named _ _ _ _ _ k7 (Reject reason.Aborted) refl refl (Due refl) tt (Free (refl, Rejecting 2 1 (omega arith) (omega arith))) refl in
      let k9 = note_a st fa fb s named _ _ _ _ _ k8 (Chose (Back cause.Rejected)) (Due refl) tt tt in
      let k10 = act_a st fa fb s named _ _ _ _ _ k9 Release Answer.Done (moved (moved (first_book fa) Lock s terms) Release s terms) refl (moves_to (moved (first_book fa) Lock s terms) Release s terms Locked (entry-moved (first_book fa) Lock s terms) refl tt) in
      let k11 = note_a st fa fb s named _ _ _ _ _ k10 (Did Release) (Answered Release Answer.Done refl refl) tt (entry-moved (moved (first_book fa) Lock s terms) Release s terms) in
      let k12 = sends_a st fa fb s named _ _ _ _ _ k11 (Plain Rollback) refl refl (Due refl) refl (Free (refl, Rejecting 2 2 (omega arith) (omega arith))) refl in
      let k13 = sends_b st fa fb s named _ _ _ _ _ k12 (Plain RollbackAck) refl refl (Due refl) refl (Free (refl, Rejecting 2 3 (omega arith) (omega arith))) refl in
      (both_sides k13.ra _ k13.rb _ k13.bag, ends _ _ _ _ _ k13 (take 5 eleven ++ rejected) Released Absent refl refl refl (entry-moved (moved (first_book fa) Lock s terms) Release s terms) (no-entry fb s))

  aborts_locked : Allows (first_book fa) Lock terms → CanTurn st fa fb s (take 4 eleven ++ rolled_back) Released Absent
  aborts_locked can_lock =
      let k0 = begins st fa fb s named terms in
      let k1 = sends_b st fa fb s named _ _ _ _ _ k0 (Plain ProposalReceipt) refl refl (Due refl) refl (Free (refl, Onward 2 (omega arith))) refl in
      let k2 = sends_a st fa fb s named _ _ _ _ _ k1 (Plain TransferCommence) refl refl (Due refl) refl (Free (refl, Onward 3 (omega arith))) refl in
      let k3 = sends_b st fa fb s named _ _ _ _ _ k2 (Plain CommenceAck) refl refl (Due refl) refl (Free (refl, Onward 4 (omega arith))) refl in
      let k4 = act_a st fa fb s named _ _ _ _ _ k3 Lock Answer.Done (moved (first_book fa) Lock s terms) refl (moves_to (first_book fa) Lock s terms Absent (no-entry fa s) refl can_lock) in
      let k5 = note_a st fa fb s named _ _ _ _ _ k4 (Did Lock) (Answered Lock Answer.Done refl refl) tt (entry-moved (first_book fa) Lock s terms) in
      let k6 = note_a st fa fb s named _ _ _ _ _ k5 (Chose (Back cause.Aborted)) (Free (refl, refl)) tt tt in
      let k7 = act_a st fa fb s named _ _ _ _ _ k6 Release Answer.Done (moved (moved (first_book fa) Lock s terms) Release s terms) refl (moves_to (moved (first_book fa) Lock s terms) Release s terms Locked (entry-moved (first_book fa) Lock s terms) refl tt) in
      let k8 = note_a st fa fb s named _ _ _ _ _ k7 (Did Release) (Answered Release Answer.Done refl refl) tt (entry-moved (moved (first_book fa) Lock s terms) Release s terms) in
      let k9 = sends_a st fa fb s named _ _ _ _ _ k8 (Plain Rollback) refl refl (Due refl) refl (Free (refl, Rolling 1 1 (omega arith) (omega arith))) refl in
      let k10 = sends_b st fa fb s named _ _ _ _ _ k9 (Plain RollbackAck) refl refl (Due refl) refl (Free (refl, Rolling 1 2 (omega arith) (omega arith))) refl in
      (both_sides k10.ra _ k10.rb _ k10.bag, ends _ _ _ _ _ k10 (take 4 eleven ++ rolled_back) Released Absent refl refl refl (entry-moved (moved (first_book fa) Lock s terms) Release s terms) (no-entry fb s), (_, k10.view_a, refl, refl))

  aborts_ready : Allows (first_book fa) Lock terms → Allows (first_book fb) Mint terms → CanEnd st fa fb s (take 8 eleven ++ rolled_back) Released Released
  aborts_ready can_lock can_mint =
      let k0 = begins st fa fb s named terms in
      let k1 = sends_b st fa fb s named _ _ _ _ _ k0 (Plain ProposalReceipt) refl refl (Due refl) refl (Free (refl, Onward 2 (omega arith))) refl in
      let k2 = sends_a st fa fb s named _ _ _ _ _ k1 (Plain TransferCommence) refl refl (Due refl) refl (Free (refl, Onward 3 (omega arith))) refl in
      let k3 = sends_b st fa fb s named _ _ _ _ _ k2 (Plain CommenceAck) refl refl (Due refl) refl (Free (refl, Onward 4 (omega arith))) refl in
      let k4 = act_a st fa fb s named _ _ _ _ _ k3 Lock Answer.Done (moved (first_book fa) Lock s terms) refl (moves_to (first_book fa) Lock s terms Absent (no-entry fa s) refl can_lock) in
      let k5 = note_a st fa fb s named _ _ _ _ _ k4 (Did Lock) (Answered Lock Answer.Done refl refl) tt (entry-moved (first_book fa) Lock s terms) in
      let k6 = sends_a st fa fb s named _ _ _ _ _ k5 (Plain LockAssert) refl refl (Due refl) refl (Free (refl, Onward 5 (omega arith))) refl in
      let k7 = sends_b st fa fb s named _ _ _ _ _ k6 (Plain LockReceipt) refl refl (Due refl) refl (Free (refl, Onward 6 (omega arith))) refl in
      let k8 = sends_a st fa fb s named _ _ _ _ _ k7 (Plain CommitPrepare) refl refl (Due refl) refl (Free (refl, Onward 7 (omega arith))) refl in
      let k9 = act_b st fa fb s named _ _ _ _ _ k8 Mint Answer.Done (moved (first_book fb) Mint s terms) refl (moves_to (first_book fb) Mint s terms Absent (no-entry fb s) refl can_mint) in
      let k10 = note_b st fa fb s named _ _ _ _ _ k9 (Did Mint) (Answered Mint Answer.Done refl refl) tt (entry-moved (first_book fb) Mint s terms) in
      let k11 = sends_b st fa fb s named _ _ _ _ _ k10 (Plain CommitReady) refl refl (Due refl) refl (Free (refl, Onward 8 (omega arith))) refl in
      let k12 = note_a st fa fb s named _ _ _ _ _ k11 (Chose (Back cause.Aborted)) (Free (refl, refl)) tt tt in
      let k13 = act_a st fa fb s named _ _ _ _ _ k12 Release Answer.Done (moved (moved (first_book fa) Lock s terms) Release s terms) refl (moves_to (moved (first_book fa) Lock s terms) Release s terms Locked (entry-moved (first_book fa) Lock s terms) refl tt) in
      let k14 = note_a st fa fb s named _ _ _ _ _ k13 (Did Release) (Answered Release Answer.Done refl refl) tt (entry-moved (moved (first_book fa) Lock s terms) Release s terms) in
      let k15 = sends_a st fa fb s named _ _ _ _ _ k14 (Plain Rollback) refl refl (Due refl) refl (Free (refl, Rolling 3 1 (omega arith) (omega arith))) refl in
      let k16 = act_b st fa fb s named _ _ _ _ _ k15 Release Answer.Done (moved (moved (first_book fb) Mint s terms) Release s terms) refl (moves_to (moved (first_book fb) Mint s terms) Release s terms Minted (entry-moved (first_book fb) Mint s terms) refl tt) in
      let k17 = note_b st fa fb s named _ _ _ _ _ k16 (Did Release) (Answered Release Answer.Done refl refl) tt (entry-moved (moved (first_book fb) Mint s terms) Release s terms) in
      let k18 = sends_b st fa fb s named _ _ _ _ _ k17 (Plain RollbackAck) refl refl (Due refl) refl (Free (refl, Rolling 3 2 (omega arith) (omega arith))) refl in
      (both_sides k18.ra _ k18.rb _ k18.bag, ends _ _ _ _ _ k18 (take 8 eleven ++ rolled_back) Released Released refl refl refl (entry-moved (moved (first_book fa) Lock s terms) Release s terms) (entry-moved (moved (first_book fb) Mint s terms) Release s terms))

  recipient_says_again : Allows (first_book fa) Lock terms → Allows (first_book fb) Mint terms → CanRecover st fa fb B s 0 eleven Burnt Assigned
  recipient_says_again can_lock can_mint =
      let k0 = begins st fa fb s named terms in
      let k1 = sends_b st fa fb s named _ _ _ _ _ k0 (Plain ProposalReceipt) refl refl (Due refl) refl (Free (refl, Onward 2 (omega arith))) refl in
      let k2 = sends_a st fa fb s named _ _ _ _ _ k1 (Plain TransferCommence) refl refl (Due refl) refl (Free (refl, Onward 3 (omega arith))) refl in
      let k3 = sends_b st fa fb s named _ _ _ _ _ k2 (Plain CommenceAck) refl refl (Due refl) refl (Free (refl, Onward 4 (omega arith))) refl in
      let k4 = act_a st fa fb s named _ _ _ _ _ k3 Lock Answer.Done (moved (first_book fa) Lock s terms) refl (moves_to (first_book fa) Lock s terms Absent (no-entry fa s) refl can_lock) in
      let k5 = note_a st fa fb s named _ _ _ _ _ k4 (Did Lock) (Answered Lock Answer.Done refl refl) tt (entry-moved (first_book fa) Lock s terms) in
      let k6 = sends_a st fa fb s named _ _ _ _ _ k5 (Plain LockAssert) refl refl (Due refl) refl (Free (refl, Onward 5 (omega arith))) refl in
      let k7 = sends_b st fa fb s named _ _ _ _ _ k6 (Plain LockReceipt) refl refl (Due refl) refl (Free (refl, Onward 6 (omega arith))) refl in
      let k8 = sends_a st fa fb s named _ _ _ _ _ k7 (Plain CommitPrepare) refl refl (Due refl) refl (Free (refl, Onward 7 (omega arith))) refl in
      let k9 = act_b st fa fb s named _ _ _ _ _ k8 Mint Answer.Done (moved (first_book fb) Mint s terms) refl (moves_to (first_book fb) Mint s terms Absent (no-entry fb s) refl can_mint) in
      let k10 = note_b st fa fb s named _ _ _ _ _ k9 (Did Mint) (Answered Mint Answer.Done refl refl) tt (entry-moved (first_book fb) Mint s terms) in
      let again = says_again_b st fa fb s named _ _ _ _ k10 (Plain CommitReady) refl refl (Due refl) refl (Free (refl, Onward 8 (omega arith))) refl (Free (refl, refl, refl)) (omega arith) in
      let k11 = again.run in
      let k12 = note_a st fa fb s named _ _ _ _ _ k11 (Chose Commit) (Due refl) tt tt in
      let k13 = act_a st fa fb s named _ _ _ _ _ k12 Burn Answer.Done (moved (moved (first_book fa) Lock s terms) Burn s terms) refl (moves_to (moved (first_book fa) Lock s terms) Burn s terms Locked (entry-moved (first_book fa) Lock s terms) refl tt) in
      let k14 = note_a st fa fb s named _ _ _ _ _ k13 (Did Burn) (Answered Burn Answer.Done refl refl) tt (entry-moved (moved (first_book fa) Lock s terms) Burn s terms) in
      let k15 = sends_a st fa fb s named _ _ _ _ _ k14 (Plain CommitFinal) refl refl (Due refl) refl (Free (refl, Onward 9 (omega arith))) refl in
      let k16 = act_b st fa fb s named _ _ _ _ _ k15 Assign Answer.Done (moved (moved (first_book fb) Mint s terms) Assign s terms) refl (moves_to (moved (first_book fb) Mint s terms) Assign s terms Minted (entry-moved (first_book fb) Mint s terms) refl tt) in
      let k17 = note_b st fa fb s named _ _ _ _ _ k16 (Did Assign) (Answered Assign Answer.Done refl refl) tt (entry-moved (moved (first_book fb) Mint s terms) Assign s terms) in
      let k18 = sends_b st fa fb s named _ _ _ _ _ k17 (Plain CommitFinalAck) refl refl (Due refl) refl (Free (refl, Onward 10 (omega arith))) refl in
      let k19 = sends_a st fa fb s named _ _ _ _ _ k18 (Plain TransferComplete) refl refl (Due refl) refl (Free (refl, Onward 11 (omega arith))) refl in
      let (ended, ended_last, last) = succeeds_b st fa fb s named _ _ _ _ _ k19 (omega arith) in (
        both_sides last.ra _ last.rb _ last.bag,
        ends _ _ _ _ _ last (eleven) Burnt Assigned refl refl refl (entry-moved (moved (first_book fa) Lock s terms) Burn s terms) (entry-moved (moved (first_book fb) Mint s terms) Assign s terms),
        record {
          asked = again.asked;
          asked_last = again.asked_last;
          recover = last.keeps _ (later (later first));
          answered = again.answered;
          carried = again.carried;
          update = last.keeps _ (later first);
          carries = again.carries;
          ended = ended;
          ended_last = ended_last;
          success = last.keeps _ first;
        },
      )

  -- the recipient says its chain's two texts in one update
  says_two : (world : World) × SaysSo st fa fb s 2 world
  says_two =
      let k0 = begins st fa fb s named terms in
      let k1 = sends_b st fa fb s named _ _ _ _ _ k0 (Plain ProposalReceipt) refl refl (Due refl) refl (Free (refl, Onward 2 (omega arith))) refl in
      let texts = chain_in s k1.rb in
      let long : length texts ≡ 2 = ap length (sym k1.chains) ∙ k1.long in
      let both : last_texts 2 texts ≡ texts = ap (λ n. drop (n - 2) texts) long in
      let chain = (law_safety st fa fb (both_sides k1.ra _ k1.rb _ k1.bag) k1.reached).chains B s _ k1.view_b in
      let entries : list_all is_entry texts ≡ true = chain-entries s _ st.key _ texts chain in
      let few : are_entries texts ≡ true = and_from _ _ (ap (λ n. nat_le n 2) long) entries in
      let answer = message_from (party_at st B) s (body.Update (length texts) (last_texts 2 texts)) in
      let formed : IsMessage answer = ((omega (arith, long), subst (λ es. are_entries es ≡ true) (sym both) few), tt) in
      let k2 = say_b st fa fb s named _ _ _ _ _ k1 (own st.key answer) (Updates s _ 2 k1.view_b (omega arith) formed) in
      (both_sides k2.ra _ k2.rb _ k2.bag, record { reached = k2.reached; answered = length texts; carried = last_texts 2 texts; update = k2.keeps _ first; carries = ap length both ∙ long })

  -- another session
  other : (t' s' : SessionId) → (t' ≡ s' → ⊥) → is_session t' s' ≡ false
  other t' s' n = go (is_session t' s') refl
    where
      go : (b : Bool) → is_session t' s' ≡ b → is_session t' s' ≡ false
      go false e = e
      go true e = absurd (n (is-session t' s' e))

  -- the second gateway proposes a session of its own, and the first takes it
  beside : (t : SessionId) → t.gateway ≡ st.b → (world : World) × Beside st fa fb s B t world
  beside t theirs =
      let p = next_text s st.b st.key [] (Proposal terms) in
      let q = next_text t st.a st.key [] (Proposal terms) in
      let x = stored s (Began Origin terms) p in
      let y = stored s (Began Recipient terms) p in
      let u = stored t (Began Origin terms) q in
      let v = stored t (Began Recipient terms) q in
      let none_b = records-apart t [] y apart in
      let none_a = records-apart t [] x apart in
      let view_x = view-first s [] x (session-self s) refl in
      let view_y = view-first s [] y (session-self s) refl in
      let chain_x = chain-here s [] x (session-self s) in
      let view_u = view-first t (y ∷ []) u (session-self t) none_b in
      let view_v = view-first t (x ∷ []) v (session-self t) none_a in
      let chain_u : chain_in t (y ∷ u ∷ []) ≡ q ∷ [] = chain-here t (y ∷ []) u (session-self t) ∙ ap (λ ts. ts ++ q ∷ []) (chain-none t (y ∷ []) none_b) in
      let w1 : Reached st fa fb (both_sides (x ∷ []) (first_book fa) [] (first_book fb) []) = Goes _ _ Begins (By A _ _ (proposes s terms named refl (omega arith))) in
      let w2 : Reached st fa fb (both_sides (x ∷ []) (first_book fa) [] (first_book fb) (p ∷ [])) = Goes _ _ w1 (By A _ _ (says p (Own_text s (begin Origin terms) 0 p view_x (ap (λ ts. slice_get ts 0) chain_x) refl))) in
      let w3 : Reached st fa fb (both_sides (x ∷ []) (first_book fa) (y ∷ []) (first_book fb) (p ∷ [])) = Goes _ _ w2 (By B _ _ (accepts s terms p named refl (omega arith) (Alone first) refl)) in
      let w4 : Reached st fa fb (both_sides (x ∷ []) (first_book fa) (y ∷ u ∷ []) (first_book fb) (p ∷ [])) = Goes _ _ w3 (By B _ _ (proposes t terms theirs none_b (omega arith))) in
      let w5 : Reached st fa fb (both_sides (x ∷ []) (first_book fa) (y ∷ u ∷ []) (first_book fb) (q ∷ p ∷ [])) = Goes _ _ w4 (By B _ _ (says q (Own_text t (begin Origin terms) 0 q view_u (ap (λ ts. slice_get ts 0) chain_u) refl))) in
      let w6 : Reached st fa fb (both_sides (x ∷ v ∷ []) (first_book fa) (y ∷ u ∷ []) (first_book fb) (q ∷ p ∷ [])) = Goes _ _ w5 (By A _ _ (accepts t terms q theirs none_a (omega arith) (Alone first) refl)) in (
        both_sides (x ∷ v ∷ []) (first_book fa) (y ∷ u ∷ []) (first_book fb) (q ∷ p ∷ []),
        record {
          reached = w6;
          first = (ap tale_of (view-apart s (x ∷ []) v apart-too ∙ view_x), ap tale_of (view-apart s (y ∷ []) u apart-too ∙ view_y));
          second = (ap tale_of view_u, ap tale_of view_v);
        },
      )
    where
      apart : is_session t s ≡ false
      apart = other t s (λ e. st.differ (sym named ∙ sym (ap (λ (x : SessionId). x.gateway) e) ∙ theirs))

      apart-too : is_session s t ≡ false
      apart-too = other s t (λ e. st.differ (sym named ∙ ap (λ (x : SessionId). x.gateway) e ∙ theirs))

  -- the first gateway proposes another session, and the second takes it
  second : (t : SessionId) → t.gateway ≡ st.a → t ≢ s → (world : World) × Beside st fa fb s A t world
  second t ours differ =
      let p = next_text s st.b st.key [] (Proposal terms) in
      let q = next_text t st.b st.key [] (Proposal terms) in
      let x = stored s (Began Origin terms) p in
      let y = stored s (Began Recipient terms) p in
      let u = stored t (Began Origin terms) q in
      let v = stored t (Began Recipient terms) q in
      let apart = other t s differ in
      let apart-too = other s t (λ e. differ (sym e)) in
      let none_a = records-apart t [] x apart in
      let none_b = records-apart t [] y apart in
      let view_x = view-first s [] x (session-self s) refl in
      let view_y = view-first s [] y (session-self s) refl in
      let chain_x = chain-here s [] x (session-self s) in
      let view_u = view-first t (x ∷ []) u (session-self t) none_a in
      let view_v = view-first t (y ∷ []) v (session-self t) none_b in
      let chain_u : chain_in t (x ∷ u ∷ []) ≡ q ∷ [] = chain-here t (x ∷ []) u (session-self t) ∙ ap (λ ts. ts ++ q ∷ []) (chain-none t (x ∷ []) none_a) in
      let w1 : Reached st fa fb (both_sides (x ∷ []) (first_book fa) [] (first_book fb) []) = Goes _ _ Begins (By A _ _ (proposes s terms named refl (omega arith))) in
      let w2 : Reached st fa fb (both_sides (x ∷ []) (first_book fa) [] (first_book fb) (p ∷ [])) = Goes _ _ w1 (By A _ _ (says p (Own_text s (begin Origin terms) 0 p view_x (ap (λ ts. slice_get ts 0) chain_x) refl))) in
      let w3 : Reached st fa fb (both_sides (x ∷ []) (first_book fa) (y ∷ []) (first_book fb) (p ∷ [])) = Goes _ _ w2 (By B _ _ (accepts s terms p named refl (omega arith) (Alone first) refl)) in
      let w4 : Reached st fa fb (both_sides (x ∷ u ∷ []) (first_book fa) (y ∷ []) (first_book fb) (p ∷ [])) = Goes _ _ w3 (By A _ _ (proposes t terms ours none_a (omega arith))) in
      let w5 : Reached st fa fb (both_sides (x ∷ u ∷ []) (first_book fa) (y ∷ []) (first_book fb) (q ∷ p ∷ [])) = Goes _ _ w4 (By A _ _ (says q (Own_text t (begin Origin terms) 0 q view_u (ap (λ ts. slice_get ts 0) chain_u) refl))) in
      let w6 : Reached st fa fb (both_sides (x ∷ u ∷ []) (first_book fa) (y ∷ v ∷ []) (first_book fb) (q ∷ p ∷ [])) = Goes _ _ w5 (By B _ _ (accepts t terms q ours none_b (omega arith) (Alone first) refl)) in (
        both_sides (x ∷ u ∷ []) (first_book fa) (y ∷ v ∷ []) (first_book fb) (q ∷ p ∷ []),
        record {
          reached = w6;
          first = (ap tale_of (view-apart s (x ∷ []) u apart-too ∙ view_x), ap tale_of (view-apart s (y ∷ []) v apart-too ∙ view_y));
          second = (ap tale_of view_u, ap tale_of view_v);
        },
      )

-- ---- a case in which both ledgers allow the transfer

abbrev pub letter : (c : ℕ) → IsTrue (holds_name 1 (c ∷ replicate 31 0)) → Name
letter c valid = record { bytes = c ∷ replicate 31 0; count = 1; valid = valid }

abbrev pub alpha : Name
alpha = letter 97 refl

abbrev pub beta : Name
beta = letter 98 refl

abbrev pub gold : Name
gold = letter 103 refl

abbrev pub ann : Name
ann = letter 110 refl

abbrev pub amount : (n : ℕ) → 1 ≤ n → n ≤ 9007199254740991 → Amount
amount n low high = record { number = n; low = low; high = high }

abbrev pub quarter : Terms
quarter = record { amount = amount 250 (omega arith) (omega arith); asset = gold; beneficiary = beta; originator = ann }

abbrev pub with_gold : Founding
with_gold = record { assets = record { name = gold; cap = amount 1000 (omega arith) (omega arith) } ∷ []; holds = record { asset = gold; owner = ann; amount = amount 500 (omega arith) (omega arith) } ∷ [] }

other_names : alpha ≢ beta
other_names e = let bad : 97 ≡ 98 = ap (λ (n : Name). get_or n.bytes 0 0) e in absurd (omega (arith, bad))

pub no-sum : (f : LedgerEntry → ℕ) → sum_entries f (first_book with_gold).entries ≡ 0
no-sum f = ap (sum_by (λ (e : SessionId × LedgerEntry). f e.1)) (entries_empty session_cmp sessions_total exact_sessions)

pub can_lock : 250 ≤ free_of (first_book with_gold) gold ann
can_lock =
    let a = no-sum (given gold ann) in
    let b = no-sum (taken gold ann) in
    let c : held with_gold gold ann ≡ 500 = refl in
    omega (arith, a, b, c)

pub can_mint : total_of (first_book with_gold) gold + 250 ≤ 1000
can_mint =
    let a = no-sum (given_to_all gold) in
    let b = no-sum (taken_of_all gold) in
    let c = no-sum (pledged gold) in
    let d : held_of_all with_gold gold ≡ 500 = refl in
    omega (arith, a, b, c, d)

a_case : Case
a_case = record {
  st = record { a = alpha; b = beta; key = replicate 32 7; differ = other_names };
  a = with_gold;
  b = with_gold;
  s = record { gateway = alpha; number = 1; low = omega arith; high = omega arith };
  terms = quarter;
  named = refl;
  can_lock = can_lock;
  can_mint = (1000, refl, can_mint);
}

each_ending : (st : Setting) (a b : Founding) (s : SessionId) (terms : Terms) → s.gateway ≡ st.a → Endings st a b s terms
each_ending st a b s terms named = record {
  commits = commits st a b s named terms;
  aborts = aborts st a b s named terms;
  lacks_funds = lacks_funds st a b s named terms;
  rejects = rejects st a b s named terms;
  recipient_aborts = recipient_aborts st a b s named terms;
  passes_the_cap = passes_the_cap st a b s named terms;
  declines = declines st a b s named terms;
  proposes_again = proposes_again st a b s named terms;
  says_again = says_again st a b s named terms;
  finds_again = finds_again st a b s named terms;
  rescues = rescues st a b s named terms;
  declines_the_transfer = declines_the_transfer st a b s named terms;
  declines_the_lock = declines_the_lock st a b s named terms;
  aborts_locked = aborts_locked st a b s named terms;
  aborts_ready = aborts_ready st a b s named terms;
  recipient_says_again = recipient_says_again st a b s named terms;
  says_two = says_two st a b s named terms;
  beside = beside st a b s named terms;
  second = second st a b s named terms;
}

pub law_endings : LawEndings
law_endings = (each_ending, a_case)
