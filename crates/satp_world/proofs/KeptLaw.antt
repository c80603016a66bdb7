-- What each side of a reached world keeps.
use Rattle.std.proofs.Common.{◌≡◌, List, [], ◌∷◌, ◌++◌, refl, sym, subst}
use Rattle.std.proofs.lemmas.List.{append-nil}
use Rattle.satp_sides.specs.Logs.{IsLog}
use Rattle.satp_sides.specs.Moves.{Among, SideMoves, said}
use Rattle.satp_sides.specs.Moves.Among.{first, later}
use Rattle.satp_sides.specs.Moves.SideMoves.{Moves, Stops}
use Rattle.satp_sides.specs.Points.{Party, Side, Stored, Text, moved}
use Rattle.satp_sides.specs.Points.Move.{Appends, Acts, Says}
use Rattle.satp_sides.specs.Said.{WasSaid}
use Rattle.satp_sides.proofs.LogLaw.{log-grows}
use Rattle.satp_sides.proofs.SaidLaw.{said-kept, said-now}
use Rattle.satp_world.specs.Kept.{BagWasSaid, LogsAreKept, MovesReach}
use Rattle.satp_world.specs.Worlds.{Gateway, Setting, World, party_at, side_at, with_side}
use Rattle.satp_world.specs.Worlds.Gateway.{A, B}
use Rattle.satp_world.specs.Worlds.Reached.{Begins, Goes}
use Rattle.satp_world.specs.Worlds.WorldMoves.{By}

-- ---- logs

log-moved : (p : Party) (side : Side) (bag : List Text) (new : Side) (more : List Text) → SideMoves p side bag new more → IsLog p side.records → IsLog p new.records
log-moved p side bag _ _ (Moves (Appends x) m) log = (log-grows p).more side.records x log m.may_come
log-moved p side bag _ _ (Moves (Acts s op terms) m) log = log
log-moved p side bag _ _ (Moves (Says t) m) log = log
log-moved p side bag _ _ Stops log = log

pub logs-kept : LogsAreKept
logs-kept st a b _ Begins A = (log-grows (party_at st A)).none
logs-kept st a b _ Begins B = (log-grows (party_at st B)).none
logs-kept st a b _ (Goes w v r (By A side bag m)) A = log-moved (party_at st A) w.a w.bag side bag m (logs-kept st a b w r A)
logs-kept st a b _ (Goes w v r (By B side bag m)) A = logs-kept st a b w r A
logs-kept st a b _ (Goes w v r (By A side bag m)) B = logs-kept st a b w r B
logs-kept st a b _ (Goes w v r (By B side bag m)) B = log-moved (party_at st B) w.b w.bag side bag m (logs-kept st a b w r B)

-- ---- what was said

pub more-records : (p : Party) (side : Side) (bag : List Text) (new : Side) (more : List Text) → SideMoves p side bag new more → (ys : List Stored) × (new.records ≡ side.records ++ ys)
more-records p side bag _ _ (Moves (Appends x) m) = (x ∷ [], refl)
more-records p side bag _ _ (Moves (Acts s op terms) m) = ([], sym (append-nil side.records))
more-records p side bag _ _ (Moves (Says t) m) = ([], sym (append-nil side.records))
more-records p side bag _ _ Stops = ([], sym (append-nil side.records))

pub still-said : (p : Party) (side : Side) (bag : List Text) (new : Side) (more : List Text) → SideMoves p side bag new more → (t : Text) → WasSaid p side.records t → WasSaid p new.records t
still-said p side bag new more m t z = let (ys, e) = more-records p side bag new more m in subst (λ xs. WasSaid p xs t) (sym e) (said-kept p side.records ys t z)

-- a text in the bag is new, and said by this side, or was there
data Came (p : Party) (side : Side) (bag : List Text) (t : Text) : Type 0 where
  Old : Among t bag → Came p side bag t
  New : WasSaid p side.records t → Came p side bag t

came-said : (p : Party) (side : Side) (bag : List Text) (u : Text) → WasSaid p side.records u → (t : Text) → Among t (u ∷ bag) → Came p side bag t
came-said p side bag u z _ first = New z
came-said p side bag u z t (later i) = Old i

came : (p : Party) (side : Side) (bag : List Text) (new : Side) (more : List Text) → SideMoves p side bag new more → (t : Text) → Among t more → Came p side bag t
came p side bag _ _ (Moves (Appends x) m) t i = Old i
came p side bag _ _ (Moves (Acts s op terms) m) t i = Old i
came p side bag _ _ (Moves (Says u) m) t i = came-said p side bag u (said-now p side.records bag u m) t i
came p side bag _ _ Stops t i = Old i

abbrev Sender : Setting → World → Text → Type 0
Sender st w t = (g : Gateway) × WasSaid (party_at st g) (side_at w g).records t

sender-kept : (st : Setting) (w : World) (q : Gateway) (side : Side) (bag : List Text) → SideMoves (party_at st q) (side_at w q) w.bag side bag → (t : Text) → Sender st w t → Sender st (with_side w q side bag) t
sender-kept st w A side bag m t (A, z) = (A, still-said (party_at st A) w.a w.bag side bag m t z)
sender-kept st w A side bag m t (B, z) = (B, z)
sender-kept st w B side bag m t (A, z) = (A, z)
sender-kept st w B side bag m t (B, z) = (B, still-said (party_at st B) w.b w.bag side bag m t z)

by-came : (st : Setting) (w : World) (q : Gateway) (t : Text) → ((i : Among t w.bag) → Sender st w t) → Came (party_at st q) (side_at w q) w.bag t → Sender st w t
by-came st w q t old (Old i) = old i
by-came st w q t old (New z) = (q, z)

pub bag-was-said : BagWasSaid
bag-was-said st a b _ Begins t i = elim i [ ]
bag-was-said st a b _ (Goes w v r (By A side bag m)) t i =
    sender-kept st w A side bag m t (by-came st w A t (bag-was-said st a b w r t) (came (party_at st A) w.a w.bag side bag m t i))
bag-was-said st a b _ (Goes w v r (By B side bag m)) t i =
    sender-kept st w B side bag m t (by-came st w B t (bag-was-said st a b w r t) (came (party_at st B) w.b w.bag side bag m t i))

-- ---- moves

pub moves-reach : MovesReach
moves-reach st a b w r A [] h = r
moves-reach st a b w r B [] h = r
moves-reach st a b w r A (m ∷ ms) h = moves-reach st a b (with_side w A (moved w.a m) (said w.bag m)) (Goes w _ r (By A _ _ (Moves m h.0))) A ms h.1
moves-reach st a b w r B (m ∷ ms) h = moves-reach st a b (with_side w B (moved w.b m) (said w.bag m)) (Goes w _ r (By B _ _ (Moves m h.0))) B ms h.1
