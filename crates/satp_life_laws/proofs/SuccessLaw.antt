-- What happens goes on after a gateway said that a round was a success.
use Rattle.std.proofs.Common.{◌≡◌, ◌≤◌, List, [], ◌∷◌, length, Some, refl, sym, subst, arith}
use Rattle.satp_base.specs.Forms.{IsMessage}
use Rattle.satp_base.specs.Signatures.{own}
use Rattle.satp_base.specs.Founding.{Founding}
use Rattle.satp_base.specs.declared.session.SessionId.{SessionId}
use Rattle.satp_base.specs.declared.view.View.{View}
use Rattle.satp_base.proofs.ChainLemmas.{link_at_formed}
use Rattle.satp_base.proofs.TaleTable.{tale-short}
use Rattle.satp_points.specs.States.{GatewayState, IsAt, Tells, kept_of, steps_of}
use Rattle.satp_base.specs.Trail.{Trail}
use Rattle.satp_base.specs.declared.area.Area.TheVariants.{JournalA}
use Rattle.satp_base.specs.Calls.{Told}
use Rattle.satp_point_laws.specs.Happening.{StandsIn}
use Rattle.satp_records.specs.declared.stored.Setup.{Setup}
use Rattle.satp_sides.specs.Calls.{Call}
use Rattle.satp_sides.specs.Calls.Call.{Starts, Works, Aborts, Rescues, Hears}
use Rattle.satp_sides.specs.Moves.{AreMoves, Among}
use Rattle.satp_sides.specs.Moves.Among.{first, later}
use Rattle.satp_sides.specs.Moves.Delivered.{Alone}
use Rattle.satp_sides.specs.Moves.Sayable.{Succeeds}
use Rattle.satp_sides.specs.Points.{Side, Text, chain_in, recipient_at, view_in}
use Rattle.satp_sides.specs.Points.Move.{Says}
use Rattle.satp_sides.proofs.LogLaw.{log-sessions, reached-tale}
use Rattle.satp_sides.proofs.LogTexts.{chain-length}
use Rattle.satp_sides.proofs.MoveLaw.{delivered-later, moves-go}
use Rattle.satp_stops.specs.Stops.{RestsIn}
use Rattle.satp_world.specs.Histories.{Event, MayCall, MayHappen}
use Rattle.satp_world.specs.Histories.Event.{Called, Stopped, Unread}
use Rattle.satp_world.specs.Kept.{Names}
use Rattle.satp_world.specs.Worlds.{Gateway, Reached, Setting, World, party_at, side_at, with_side}
use Rattle.satp_world.specs.Worlds.Gateway.{A, B}
use Rattle.satp_world.proofs.KeptLaw.{logs-kept, moves-reach}
use Rattle.satp_life_laws.specs.Closed.{IsClosed, append_of}
use Rattle.satp_life_laws.specs.Success.{GoesOn, SuccessesGoOn, after_success, success_of}
use Rattle.satp_life_laws.proofs.Points.{bag-after}

-- a side that is as it was
same-side : (w : World) (g : Gateway) (bag : List Text) (h : Gateway) → side_at (with_side w g (side_at w g) bag) h ≡ side_at w h
same-side w A bag A = refl
same-side w A bag B = refl
same-side w B bag A = refl
same-side w B bag B = refl

-- its chain has eleven texts at most
chain-short : (st : Setting) (a b : Founding) (w : World) → Reached st a b w → (g : Gateway) (s : SessionId) (v : View) → view_in s (side_at w g).records ≡ Some v → length (chain_in s (side_at w g).records) ≤ 11
chain-short st a b w reached g s v named =
    let xs = (side_at w g).records in
    let session = log-sessions (party_at st g) xs (logs-kept st a b w reached g) s v named in
    let short = tale-short v.tale (reached-tale v.role v session.reached) in
    let same = chain-length s (recipient_at (party_at st g) v.role) st.key v (chain_in s xs) session.chain in omega (arith, short, same)

module _ (st : Setting) (a b : Founding) (w : World) (reached : Reached st a b w) (g : Gateway) (s : SessionId) (names : Names w g s) where
  abbrev text : Text
  text = own st.key (success_of st w g s)

  formed : IsMessage (success_of st w g s)
  formed = (chain-short st a b w reached g s names.0 names.1, link_at_formed (chain_in s (side_at w g).records) (length (chain_in s (side_at w g).records)))

  grows : (t : Text) → Among t w.bag → Among t (after_success st w g s).bag
  grows t is = subst (Among t) (sym (bag-after w g _ _)) (later is)

  may-call : (h : Gateway) (call : Call) → MayCall st w h call → MayCall st (after_success st w g s) h call
  may-call h (Starts x terms) own = own
  may-call h (Works x) own = own
  may-call h (Aborts x) own = own
  may-call h (Rescues x) own = own
  may-call h (Hears m t e) (heard, there) = (heard, delivered-later st.key w.bag (after_success st w g s).bag t grows there)

  may-happen : (e : Event) → MayHappen st w e → MayHappen st (after_success st w g s) e
  may-happen (Called h call) may = may-call h call may
  may-happen (Stopped h call n) may = may-call h call may
  may-happen (Unread h t) may = may

  stands-still : (h : Gateway) (state : GatewayState) (site : Tells) (setup : Setup) (t : Told) → StandsIn st w h state site setup t → StandsIn st (after_success st w g s) h state site setup t
  stands-still h state site setup t stands = record { party = stands.party; at = subst (λ (side : Side). IsAt state site setup side t) (sym (same-side w g _ h)) stands.at }

  said-reached : Reached st a b (after_success st w g s)
  said-reached = moves-reach st a b w reached g (Says text ∷ []) (Succeeds s names.0 names.1 formed, tt)

  closed-still : (h : Gateway) (setup : Setup) (t : Trail) → IsClosed st a b h setup w t → IsClosed st a b h setup (after_success st w g s) t
  closed-still h setup t is =
      let same : side_at (after_success st w g s) h ≡ side_at w h = same-side w g _ h in
      let may = (moves-go (party_at st h) (side_at w h) w.bag).later (append_of is.next) (after_success st w g s).bag grows is.may in
      record {
        reached = said-reached;
        party = is.party;
        formed = is.formed;
        next = is.next;
        may = subst (λ (side : Side). AreMoves (party_at st h) side (after_success st w g s).bag (append_of is.next)) (sym same) may;
        rests = subst (λ (side : Side). RestsIn t (kept_of JournalA setup side) (steps_of (append_of is.next))) (sym same) is.rests;
      }

  goes-on : GoesOn st a b w g s
  goes-on =
      let here : Among text (after_success st w g s).bag = subst (Among text) (sym (bag-after w g _ _)) first in
      record { reached = said-reached; stands = stands-still; closed = closed-still; may = may-happen; heard = (((formed, refl), refl), Alone here) }

pub successes-go-on : SuccessesGoOn
successes-go-on st a b w reached g s names = goes-on st a b w reached g s names
