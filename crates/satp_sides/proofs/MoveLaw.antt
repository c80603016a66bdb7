-- Lists of moves: their first ones, later bags, and logs.
use Rattle.std.proofs.Common.{ℕ, List, [], ◌∷◌, ◌++◌}
use Rattle.satp_base.specs.declared.message.Role.TheVariants.{Origin, Recipient}
use Rattle.satp_base.specs.declared.record.Rec.{Rec}
use Rattle.satp_base.specs.declared.record.Rec.TheVariants.{Began, Took, Made, Did, Chose, Rescue}
use Rattle.satp_sides.specs.Logs.{IsLog}
use Rattle.satp_sides.specs.Moves.{Among, AreMoves, ArrivesAs, Delivered, IsMove, Sayable, said, said_by}
use Rattle.satp_sides.specs.Moves.Among.{first, later}
use Rattle.satp_sides.specs.Moves.Delivered.{Alone, Listed}
use Rattle.satp_sides.specs.Moves.Sayable.{Own_text, Recovers, Updates, Succeeds, Knows_none}
use Rattle.satp_sides.specs.Points.{Move, Party, Side, Stored, Text, moved, moved_by}
use Rattle.satp_sides.specs.Points.Move.{Appends, Acts, Says}
use Rattle.satp_sides.specs.Said.{MovesGo}
use Rattle.satp_sides.proofs.LogLaw.{log-grows}

-- ---- the first moves, and the others

firsts : (p : Party) (side : Side) (bag : List Text) (ms ns : List Move) → AreMoves p side bag (ms ++ ns) → AreMoves p side bag ms × AreMoves p (moved_by side ms) (said_by bag ms) ns
firsts p side bag [] ns h = (tt, h)
firsts p side bag (m ∷ ms) ns h = let (a, b) = firsts p (moved side m) (said bag m) ms ns h.1 in ((h.0, a), b)

joined : (p : Party) (side : Side) (bag : List Text) (ms ns : List Move) → AreMoves p side bag ms → AreMoves p (moved_by side ms) (said_by bag ms) ns → AreMoves p side bag (ms ++ ns)
joined p side bag [] ns a b = b
joined p side bag (m ∷ ms) ns a b = (a.0, joined p (moved side m) (said bag m) ms ns a.1 b)

-- ---- later bags

abbrev Within : List Text → List Text → Type 0
Within bag more = (t : Text) → Among t bag → Among t more

pub delivered-later : (key : List ℕ) (bag more : List Text) (t : Text) → Within bag more → Delivered key bag t → Delivered key more t
delivered-later key bag more t w (Alone a) = Alone (w t a)
delivered-later key bag more t w (Listed m n entries f a e i) = Listed m n entries f (w _ a) e i

arrives-later : (key : List ℕ) (bag more : List Text) (r : Rec) (t : Text) → Within bag more → ArrivesAs key bag r t → ArrivesAs key more r t
arrives-later key bag more (Began Origin terms) t w a = tt
arrives-later key bag more (Began Recipient terms) t w a = delivered-later key bag more t w a
arrives-later key bag more (Took k) t w a = delivered-later key bag more t w a
arrives-later key bag more (Made k) t w a = tt
arrives-later key bag more (Did op) t w a = tt
arrives-later key bag more (Chose way) t w a = tt
arrives-later key bag more Rescue t w a = tt

sayable-later : (p : Party) (xs : List Stored) (bag more : List Text) (t : Text) → Within bag more → Sayable p xs bag t → Sayable p xs more t
sayable-later p xs bag more t w (Own_text s v n _ e d r) = Own_text s v n t e d r
sayable-later p xs bag more _ w (Recovers s v e f) = Recovers s v e f
sayable-later p xs bag more _ w (Updates s v n e c f) = Updates s v n e c f
sayable-later p xs bag more _ w (Succeeds s v e f) = Succeeds s v e f
sayable-later p xs bag more _ w (Knows_none m n l g e f a b i d) = Knows_none m n l g e f a b (w _ i) d

move-later : (p : Party) (side : Side) (bag more : List Text) (m : Move) → Within bag more → IsMove p side bag m → IsMove p side more m
move-later p side bag more (Appends x) w k = record { may_come = k.may_come; arrives = arrives-later p.key bag more x.rec x.text w k.arrives; fits = k.fits }
move-later p side bag more (Acts s op terms) w k = k
move-later p side bag more (Says t) w k = sayable-later p side.records bag more t w k

one-later : (bag more : List Text) (u : Text) → Within bag more → Within (u ∷ bag) (u ∷ more)
one-later bag more u w _ first = first
one-later bag more u w t (later i) = later (w t i)

said-within : (bag more : List Text) (m : Move) → Within bag more → Within (said bag m) (said more m)
said-within bag more (Appends x) w = w
said-within bag more (Acts s op terms) w = w
said-within bag more (Says u) w = one-later bag more u w

moves-later : (p : Party) (side : Side) (bag : List Text) (ms : List Move) (more : List Text) → Within bag more → AreMoves p side bag ms → AreMoves p side more ms
moves-later p side bag [] more w h = tt
moves-later p side bag (m ∷ ms) more w h = (move-later p side bag more m w h.0, moves-later p (moved side m) (said bag m) ms (said more m) (said-within bag more m w) h.1)

-- ---- logs

logs-moved : (p : Party) (side : Side) (bag : List Text) (ms : List Move) → IsLog p side.records → AreMoves p side bag ms → IsLog p (moved_by side ms).records
logs-moved p side bag [] log h = log
logs-moved p side bag (Appends x ∷ ms) log h = logs-moved p (moved side (Appends x)) bag ms ((log-grows p).more side.records x log h.0.may_come) h.1
logs-moved p side bag (Acts s op terms ∷ ms) log h = logs-moved p (moved side (Acts s op terms)) bag ms log h.1
logs-moved p side bag (Says t ∷ ms) log h = logs-moved p side (t ∷ bag) ms log h.1

pub moves-go : (p : Party) (side : Side) (bag : List Text) → MovesGo p side bag
moves-go p side bag = record {
  first = firsts p side bag;
  both = joined p side bag;
  later = moves-later p side bag;
  logs = logs-moved p side bag;
}
