-- What a site keeps and tells after lists of moves.
use Rattle.std.proofs.Common.{◌≡◌, inl, inr, ℕ, List, [], ◌∷◌, ◌++◌, refl, sym, ap, ◌∙◌}
use Rattle.std.proofs.lemmas.List.{map-append}
use Rattle.satp_base.specs.Calls.{Told}
use Rattle.satp_base.specs.Money.{Book}
use Rattle.satp_base.specs.declared.area.Area.{Area}
use Rattle.satp_log.specs.Journals.{payload_in}
use Rattle.satp_records.specs.Formats.{payload_of}
use Rattle.satp_records.specs.declared.stored.Setup.{Setup}
use Rattle.satp_records.specs.declared.stored.Stored.TheVariants as journaled
use Rattle.satp_sides.specs.Points.{Move, Side, moved, moved_by}
use Rattle.satp_sides.specs.Points.Move.{Appends, Acts, Says}
use Rattle.satp_stops.specs.Stops.{Kept, Step, StopsIn, after_step, after_steps, told_step, told_steps}
use Rattle.satp_points.specs.States.{kept_of, step_of, steps_of}

-- ---- moves

pub moved-append : (side : Side) (ms ns : List Move) → moved_by side (ms ++ ns) ≡ moved_by (moved_by side ms) ns
moved-append side [] ns = refl
moved-append side (m ∷ ms) ns = moved-append (moved side m) ms ns

abbrev keeping : Area → Book → List (List ℕ) → Kept
keeping area book payloads = record { area = area; payloads = payloads; ledger = book }

kept-move : (area : Area) (setup : Setup) (side : Side) (m : Move) → after_step (kept_of area setup side) (step_of m) ≡ kept_of area setup (moved side m)
kept-move area setup side (Appends x) = ap (λ (ps : List (List ℕ)). keeping area side.book (payload_of (journaled.Setup setup) ∷ ps)) (sym (map-append payload_in side.records (x ∷ [])))
kept-move area setup side (Acts s op terms) = refl
kept-move area setup side (Says t) = refl

-- a site keeps what the gateway does, after the same moves
pub kept-moves : (area : Area) (setup : Setup) (side : Side) (ms : List Move) → after_steps (kept_of area setup side) (steps_of ms) ≡ kept_of area setup (moved_by side ms)
kept-moves area setup side [] = refl
kept-moves area setup side (m ∷ ms) = ap (λ (k : Kept). after_steps k (steps_of ms)) (kept-move area setup side m) ∙ kept-moves area setup (moved side m) ms

-- ---- what is told

told-append : (k : Kept) (xs ys : List Step) (t : Told) → told_steps k (xs ++ ys) t ≡ told_steps (after_steps k xs) ys (told_steps k xs t)
told-append k [] ys t = refl
told-append k (m ∷ xs) ys t = told-append (after_step k m) xs ys (told_step k m t)

pub told-moves : (area : Area) (setup : Setup) (side : Side) (ms ns : List Move) (t : Told)
    → told_steps (kept_of area setup side) (steps_of (ms ++ ns)) t ≡ told_steps (kept_of area setup (moved_by side ms)) (steps_of ns) (told_steps (kept_of area setup side) (steps_of ms) t)
told-moves area setup side ms ns t =
    ap (λ (l : List Step). told_steps (kept_of area setup side) l t) (map-append step_of ms ns)
    ∙ told-append (kept_of area setup side) (steps_of ms) (steps_of ns) t
    ∙ ap (λ (k : Kept). told_steps k (steps_of ns) (told_steps (kept_of area setup side) (steps_of ms) t)) (kept-moves area setup side ms)

-- ---- stops

pub stops-later : (xs ys : List Step) (k : Kept) (t u : Told) → StopsIn (after_steps k xs) ys (told_steps k xs t) u → StopsIn k (xs ++ ys) t u
stops-later [] ys k t u h = h
stops-later (m ∷ xs) ys k t u h = inr (stops-later xs ys (after_step k m) (told_step k m t) u h)

pub stops-first : (xs ys : List Step) (k : Kept) (t u : Told) → StopsIn k xs t u → StopsIn k (xs ++ ys) t u
stops-first [] ys k t u h = absurd h
stops-first (m ∷ xs) ys k t u (inl f) = inl f
stops-first (m ∷ xs) ys k t u (inr l) = inr (stops-first xs ys (after_step k m) (told_step k m t) u l)
