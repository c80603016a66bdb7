-- What happens to two gateways, one after another: calls, each whole or stopped after some of its moves, and texts that read as no message.
use Rattle.std.specs.Prelude.{◌≡◌, ℕ, List, [], ◌∷◌, take}
use Rattle.satp_base.specs.Founding.{Founding}
use Rattle.satp_base.specs.declared.message.Message.{Message}
use Rattle.satp_base.specs.declared.name.Name.{Name}
use Rattle.satp_base.specs.declared.session.SessionId.{SessionId}
use Rattle.satp_sides.specs.Calls.{Call, IsHeard, IsOfOwn, IsOwn, run_of}
use Rattle.satp_sides.specs.Calls.Call.{Hears}
use Rattle.satp_sides.specs.Moves.{Delivered, said_by}
use Rattle.satp_sides.specs.Points.{Move, Text, moved_by}
use Rattle.satp_world.specs.Deal.{DealRun}
use Rattle.satp_world.specs.Totals.{IsTotal}
use Rattle.satp_world.specs.Worlds.{Gateway, IsSafeWorld, Reached, Setting, World, as_deal, name_at, party_at, side_at, start, with_side}

pub data Event : Type 0 where
  -- a gateway makes all the moves of a call
  Called : Gateway → Call → Event
  -- or only the first so many of them
  Stopped : Gateway → Call → ℕ → Event
  -- a text comes that is no message's
  Unread : Gateway → Text → Event

-- ---- the world after it

abbrev pub after_moves : World → Gateway → List Move → World
after_moves w g ms = with_side w g (moved_by (side_at w g) ms) (said_by w.bag ms)

-- the moves of a gateway that is called now
abbrev pub call_moves : Setting → World → Gateway → Call → List Move
call_moves st w g call = (run_of (party_at st g) (side_at w g) call).moves

abbrev pub after_event : Setting → World → Event → World
after_event st w (Called g call) = after_moves w g (call_moves st w g call)
after_event st w (Stopped g call n) = after_moves w g (take n (call_moves st w g call))
after_event st w (Unread g t) = w

-- and after several, in their order
abbrev pub after_events : Setting → World → List Event → World
after_events st w [] = w
after_events st w (e ∷ es) = after_events st (after_event st w e) es

-- ---- what may happen

-- An operator may ask its gateway for anything, but that a session begins which isn't of the gateway's name. Of messages those come that a network can
-- hand over, as they were read: nobody but both gateways signs with their key.
abbrev pub MayCall : Setting → World → Gateway → Call → Type 0
MayCall st w g (Hears m t e) = IsHeard st.key (Hears m t e) × Delivered st.key w.bag t
MayCall st w g call = IsOfOwn (party_at st g) call

abbrev pub MayHappen : Setting → World → Event → Type 0
MayHappen st w (Called g call) = MayCall st w g call
MayHappen st w (Stopped g call n) = MayCall st w g call
MayHappen st w (Unread g t) = (m : Message) → IsOwn st.key t m → ⊥

-- each of them after those before it
abbrev pub MayAllHappen : Setting → World → List Event → Type 0
MayAllHappen st w [] = Unit {0}
MayAllHappen st w (e ∷ es) = MayHappen st w e × MayAllHappen st (after_event st w e) es

-- ---- the laws

-- whatever may happen leads from a reached world to another one
abbrev pub EventsReach : Type 0
EventsReach = (st : Setting) (a b : Founding) (w : World) → Reached st a b w → (es : List Event) → MayAllHappen st w es → Reached st a b (after_events st w es)

-- and the deal of each session goes on along the deal machine
abbrev pub EventsRunDeals : Type 0
EventsRunDeals =
    (st : Setting) (a b : Founding) (w : World) → Reached st a b w → (es : List Event) → MayAllHappen st w es → (g : Gateway) (s : SessionId) → s.gateway ≡ name_at st g
    → DealRun (as_deal w g s) (as_deal (after_events st w es) g s)

-- So two gateways on ledgers as they were founded are safe whatever has happened to them,
abbrev pub EventsAreSafe : Type 0
EventsAreSafe = (st : Setting) (a b : Founding) (es : List Event) → MayAllHappen st (start a b) es → IsSafeWorld st (after_events st (start a b) es)

-- and the sums of every asset hold.
abbrev pub EventsKeepTotals : Type 0
EventsKeepTotals = (st : Setting) (a b : Founding) (es : List Event) → MayAllHappen st (start a b) es → (asset : Name) → IsTotal st a b (after_events st (start a b) es) asset
