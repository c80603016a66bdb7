-- A new session of a reached world, and its transfer by texts.
use Rattle.std.proofs.Common.{◌≡◌, ◌<◌, Bool, true, false, List, [], ◌∷◌, ◌++◌, Option, Some, None, option_map, refl, sym, ap, subst, ◌∙◌, arith}
use Rattle.std.specs.Prelude.{is_some}
use Rattle.std.proofs.lemmas.Bool.{lt-leb}
use Rattle.satp_base.specs.Chains.{next_text}
use Rattle.satp_base.specs.Founding.{Founding}
use Rattle.satp_base.specs.LedgerRule.{entry_of, operation}
use Rattle.satp_base.specs.Roles.{both}
use Rattle.satp_base.specs.Tales.{is_committed}
use Rattle.satp_base.specs.Views.{begin}
use Rattle.satp_base.specs.declared.ledger.Entry.{Entry}
use Rattle.satp_base.specs.declared.ledger.Entry.TheVariants.{Absent}
use Rattle.satp_base.specs.declared.ledger.LedgerOp.TheVariants.{Lock, Mint}
use Rattle.satp_base.specs.declared.message.Kind.TheVariants.{TransferProposal}
use Rattle.satp_base.specs.declared.message.Part.TheVariants as part
use Rattle.satp_base.specs.declared.message.Role.{Role}
use Rattle.satp_base.specs.declared.message.Role.TheVariants.{Origin, Recipient}
use Rattle.satp_base.specs.declared.message.Terms.{Terms}
use Rattle.satp_base.specs.declared.record.Rec.TheVariants.{Began}
use Rattle.satp_base.specs.declared.session.SessionId.{SessionId}
use Rattle.satp_base.specs.declared.view.View.{View}
use Rattle.satp_sides.proofs.Records.{chain-here, chain-none, session-self, view-first, view-none}
use Rattle.satp_sides.specs.Calls.{Run, first_refusal, by_tests, is_full, last_text, refusal_of, run_of, started, test}
use Rattle.satp_sides.specs.Calls.Call.{Starts}
use Rattle.satp_sides.specs.Calls.Refusal.{Exists, Full}
use Rattle.satp_sides.specs.Halves.{half}
use Rattle.satp_sides.specs.Moves.{Among}
use Rattle.satp_sides.specs.Moves.Among.{first}
use Rattle.satp_sides.specs.Points.{Party, Side, Text, begun, chain_in, most_sessions, records_of, slot, slot_in, stored, view_in, with_record}
use Rattle.satp_world.proofs.KeptLaw.{moves-reach}
use Rattle.satp_world.proofs.RunLaw.{operators-run}
use Rattle.satp_world.proofs.WorldLaw.{law_safety}
use Rattle.satp_world.specs.Histories.{Called, after_event, after_moves}
use Rattle.satp_world.specs.Sessions.{StandsAt}
use Rattle.satp_world.specs.Worlds.{Gateway, Reached, Setting, World, name_at, opposite, party_at, side_at, with_side}
use Rattle.satp_rounds.proofs.Beginning.{done-plain}
use Rattle.satp_rounds.proofs.Closing.{origin-tale, settled-world}
use Rattle.satp_rounds.proofs.Exchanging.{Ready, talks}
use Rattle.satp_rounds.proofs.Handing.{last-text-push}
use Rattle.satp_rounds.proofs.Joint.{In, bag-is, half_of, new-side, other-side, side_of, view_or}
use Rattle.satp_rounds.proofs.Once.{converses-once, reply-once, text-once}
use Rattle.satp_rounds.proofs.Transferring.{transfers-settle}
use Rattle.satp_rounds.proofs.Working.{Fits, plain-now}
use Rattle.satp_rounds.specs.LedgerFunds.{lock_now, room_now}
use Rattle.satp_rounds.specs.Conversations.{Converses}
use Rattle.satp_rounds.specs.Funds.{Funds, Room, Enough, Unknown, Over, answer_now}
use Rattle.satp_rounds.specs.NewSessions.{IsTransferred, Transfer, TransferSettles, TransfersSettleWorlds, accepts_now}
use Rattle.satp_rounds.specs.Rounds.{half_at, is_done}
use Rattle.satp_rounds.specs.Transfers.{accepts, has_room, proposed, transferred, unnamed_view}

-- a session that its origin doesn't name has no records and no entry anywhere
record Fresh (o w : Option View) (e f : Entry) : Type 0 where
  peer : w ≡ None
  mine_none : e ≡ Absent
  peer_none : f ≡ Absent

fresh : (o w : Option View) (e f : Entry) → o ≡ None → StandsAt o w e f → Fresh o w e f
fresh None None e f h k = record { peer = refl; mine_none = k.0; peer_none = k.1 }
fresh None (Some u) e f h k = absurd k
fresh (Some v) w e f h k = absurd (cc h)

-- what both ledgers accept, by kinds
lock-done : (l : Bool) → is_done (answer_now (record { lock = l; mint = Enough }) Lock Absent) ≡ l
lock-done true = refl
lock-done false = refl

mint-done : (l : Bool) (m : Room) → is_done (answer_now (record { lock = l; mint = m }) Mint Absent) ≡ has_room m
mint-done l Enough = refl
mint-done l Unknown = refl
mint-done l Over = refl

module _ (st : Setting) (a b : Founding) (w : World) (r : Reached st a b w) (q : Gateway) (s : SessionId) (own-name : s.gateway ≡ name_at st q) (none : records_of s (side_at w q).records ≡ []) (room : begun Origin (side_at w q).records < most_sessions) (terms : Terms) where
  abbrev p : Party
  p = party_at st q

  abbrev side : Side
  side = side_at w q

  abbrev text : Text
  text = next_text s (party_at st q).peer st.key [] (part.Proposal terms)

  abbrev funds_now : Funds
  funds_now = record { lock = lock_now (side_at w q).book terms; mint = room_now (side_at w (opposite q)).book terms }

  fresh-here : Fresh (view_in s (side_at w q).records) (view_in s (side_at w (opposite q)).records) (entry_of (side_at w q).book.entries s) (entry_of (side_at w (opposite q)).book.entries s)
  fresh-here = fresh _ _ _ _ (view-none s side.records none) ((law_safety st a b w r).stands q s own-name)

  start-run : run_of (party_at st q) (side_at w q) (Starts s terms) ≡ started (party_at st q) s terms
  unfolding run_of refusal_of
  start-run =
      let named : is_some (slot_in s side.records) ≡ false = ap (λ o. is_some (option_map (λ v. slot v (chain_in s side.records)) o)) (view-none s side.records none) in
      let full : is_full Origin side.records ≡ false = lt-leb _ _ room in
      ap (λ c. by_tests (first_refusal (test c Exists ∷ test (is_full Origin side.records) (Full most_sessions) ∷ [])) (started p s terms)) named
      ∙ ap (λ c. by_tests (first_refusal (None ∷ test c (Full most_sessions) ∷ [])) (started p s terms)) full

  abbrev new_side : Side
  new_side = with_record (side_at w q) s (Began Origin terms) text

  abbrev new_world : World
  new_world = with_side w q new_side (text ∷ w.bag)

  start-world : after_event st w (Called q (Starts s terms)) ≡ with_side w q (with_record (side_at w q) s (Began Origin terms) text) (text ∷ w.bag)
  start-world = ap (λ (x : Run). after_moves w q x.moves) start-run

  start-reached : Reached st a b (with_side w q (with_record (side_at w q) s (Began Origin terms) text) (text ∷ w.bag))
  start-reached = subst (Reached st a b) start-world (moves-reach st a b w r q (run_of p side (Starts s terms)).moves (operators-run st a b w r q (Starts s terms) tt own-name).moves)

  mine-side : side_of new_world q Origin ≡ new_side
  mine-side = new-side w q Origin new_side (text ∷ w.bag)

  peer-side : side_of new_world q Recipient ≡ side_at w (opposite q)
  peer-side = other-side w q Origin new_side (text ∷ w.bag)

  new-view : view_in s new_side.records ≡ Some (begin Origin terms)
  new-view = view-first s side.records (stored s (Began Origin terms) text) (session-self s) none

  new-chain : chain_in s new_side.records ≡ [] ++ text ∷ []
  new-chain = chain-here s side.records (stored s (Began Origin terms) text) (session-self s) ∙ ap (λ ts. ts ++ text ∷ []) (chain-none s side.records none)

  start-in : In st a b q s own-name terms funds_now new_world (proposed terms)
  start-in = record {
    reached = start-reached;
    named = (begin Origin terms, ap (λ (x : Side). view_in s x.records) mine-side ∙ new-view);
    is = λ role. is_at role;
    under = λ role. under_at role;
    fits = λ role. fits_at role;
  }
    where
      is_at : (role : Role) → half_of role terms s (side_of new_world q role) ≡ half_at role (proposed terms)
      is_at Origin = ap (half_of Origin terms s) mine-side ∙ ap (λ o. half (view_or Origin terms o) (entry_of side.book.entries s)) new-view ∙ ap (half (begin Origin terms)) fresh-here.mine_none
      is_at Recipient = ap (half_of Recipient terms s) peer-side ∙ ap (λ o. half (view_or Recipient terms o) (entry_of (side_at w (opposite q)).book.entries s)) fresh-here.peer ∙ ap (half (unnamed_view Recipient terms)) fresh-here.peer_none

      under_at : (role : Role) → (half_at role (proposed terms)).view.terms ≡ terms
      under_at Origin = refl
      under_at Recipient = refl

      fits_at : (role : Role) → Fits role funds_now s terms (side_of new_world q role).book
      fits_at Origin = λ h. ap (λ (x : Side). lock_now x.book terms) mine-side
      fits_at Recipient = λ h. ap (λ (x : Side). room_now x.book terms) peer-side

  start-ready : Ready st a b q s own-name terms funds_now new_world (proposed terms) Origin TransferProposal text
  start-ready = record {
    among = subst (Among text) (sym (bag-is w q new_side (text ∷ w.bag))) first;
    ahead = refl;
    made = refl;
    last = ap (λ (x : Side). last_text (chain_in s x.records)) mine-side ∙ ap last_text new-chain ∙ last-text-push [] text;
  }

  accepts-is : accepts funds_now ≡ accepts_now w q s terms
  accepts-is =
      let bq = side.book in
      let bp = (side_at w (opposite q)).book in
      let lock : is_done (operation bq Lock s terms).answer ≡ funds_now.lock =
      sym (done-plain (operation bq Lock s terms).answer) ∙ ap is_done (plain-now Origin funds_now bq s terms Lock refl (λ h. refl)) ∙ ap (λ e. is_done (answer_now funds_now Lock e)) fresh-here.mine_none ∙ lock-done funds_now.lock in
      let mint : is_done (operation bp Mint s terms).answer ≡ has_room funds_now.mint =
      sym (done-plain (operation bp Mint s terms).answer) ∙ ap is_done (plain-now Recipient funds_now bp s terms Mint refl (λ h. refl)) ∙ ap (λ e. is_done (answer_now funds_now Mint e)) fresh-here.peer_none ∙ mint-done funds_now.lock funds_now.mint in
      λ i. both (sym lock i) (sym mint i)

  pub transfer-settles : TransferSettles st a b w q s terms
  transfer-settles =
      let kinds = transfers-settle funds_now terms in
      let many = transferred funds_now terms in
      let short = kinds.short in
      let talk = talks st a b q s own-name terms funds_now 12 new_world (proposed terms) Origin TransferProposal text start-in start-ready (omega (arith, short)) in
      let here : IsTransferred st a b w q s terms talk.texts talk.after = record {
        short = (let count = talk.count in omega (arith, short, count));
        eleven = λ h. talk.count ∙ kinds.eleven (accepts-is ∙ h);
        reached = talk.ends.reached;
        settled = settled-world st a b q s own-name terms funds_now talk.after many.after talk.ends kinds.settled.equal kinds.settled.whole;
        outcome = ap is_committed (origin-tale st a b q s own-name terms funds_now talk.after many.after talk.ends) ∙ kinds.settled.tale ∙ accepts-is;
      } in
      let transfer : Transfer st w q s terms talk.texts talk.after = record {
        proposal = text;
        start = ap (λ (x : Run). x.answer) start-run;
        converses = subst (λ z. Converses st z (opposite q) text talk.texts talk.after) (sym start-world) talk.converses;
      } in
      record { texts = talk.texts; after = talk.after; transfer = transfer; only = λ ts v k. transfer-once ts talk.texts v talk.after k transfer; settled = here }
    where
      transfer-once : (xs ys : List Text) (v u : World) → Transfer st w q s terms xs v → Transfer st w q s terms ys u → (xs ≡ ys) × (v ≡ u)
      transfer-once xs ys v u t k =
          let proposal = text-once t.proposal k.proposal (reply-once (Some t.proposal) (Some k.proposal) (sym t.start ∙ k.start)) in
          let w1 = after_event st w (Called q (Starts s terms)) in
          converses-once st w1 (opposite q) t.proposal xs ys v u t.converses (subst (λ z. Converses st w1 (opposite q) z ys u) (sym proposal) k.converses)

pub transfers-settle-worlds : TransfersSettleWorlds
transfers-settle-worlds st a b w r g s own-name none room terms = transfer-settles st a b w r g s own-name none room terms
