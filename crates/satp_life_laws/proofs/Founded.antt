-- Both ledgers of a reached world are what they were founded with.
use Rattle.std.proofs.Common.{◌≡◌, List, refl, ◌∙◌}
use Rattle.satp_base.specs.Founding.{Founding}
use Rattle.satp_base.specs.LedgerRule.{operation}
use Rattle.satp_sides.specs.Moves.{SideMoves}
use Rattle.satp_sides.specs.Moves.SideMoves.{Moves, Stops}
use Rattle.satp_sides.specs.Points.{Party, Side, Text}
use Rattle.satp_sides.specs.Points.Move.{Appends, Acts, Says}
use Rattle.satp_world.specs.Worlds.{Gateway, Reached, Setting, World, party_at, side_at}
use Rattle.satp_world.specs.Worlds.Gateway.{A, B}
use Rattle.satp_world.specs.Worlds.Reached.{Begins, Goes}
use Rattle.satp_world.specs.Worlds.WorldMoves.{By}
use Rattle.satp_world.proofs.Books.{IsCovered, Kept, covered-first, rule-keeps}
use Rattle.satp_life_laws.specs.Closed.{founding_at}

record IsFounded (a b : Founding) (w : World) : Type 0 where
  first : w.a.book.genesis ≡ a
  second : w.b.book.genesis ≡ b
  covered_a : IsCovered w.a.book
  covered_b : IsCovered w.b.book

side-kept : (p : Party) (side : Side) (bag : List Text) (new : Side) (more : List Text) → SideMoves p side bag new more → IsCovered side.book → Kept side.book new.book
side-kept p side bag _ _ (Moves (Appends x) m) k = record { genesis = refl; covered = k }
side-kept p side bag _ _ (Moves (Acts s op terms) m) k = rule-keeps side.book op s terms m.answer (operation side.book op s terms).after k m.rule
side-kept p side bag _ _ (Moves (Says u) m) k = record { genesis = refl; covered = k }
side-kept p side bag _ _ Stops k = record { genesis = refl; covered = k }

founded : (st : Setting) (a b : Founding) (w : World) → Reached st a b w → IsFounded a b w
founded st a b _ Begins = record { first = refl; second = refl; covered_a = covered-first a; covered_b = covered-first b }
founded st a b _ (Goes w v r (By A side bag m)) =
    let f = founded st a b w r in
    let k = side-kept (party_at st A) w.a w.bag side bag m f.covered_a in
    record { first = k.genesis ∙ f.first; second = f.second; covered_a = k.covered; covered_b = f.covered_b }
founded st a b _ (Goes w v r (By B side bag m)) =
    let f = founded st a b w r in
    let k = side-kept (party_at st B) w.b w.bag side bag m f.covered_b in
    record { first = f.first; second = k.genesis ∙ f.second; covered_a = f.covered_a; covered_b = k.covered }

pub founded-at : (st : Setting) (a b : Founding) (w : World) → Reached st a b w → (g : Gateway) → (side_at w g).book.genesis ≡ founding_at a b g
founded-at st a b w r A = (founded st a b w r).first
founded-at st a b w r B = (founded st a b w r).second
