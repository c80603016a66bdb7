-- What a stop leaves of a list of moves.
use Rattle.std.proofs.Common.{◌≡◌, List, [], ◌∷◌, ◌++◌, length, refl, sym, ap, ap₂, subst, ◌∙◌}
use Rattle.std.proofs.lemmas.List.{append-nil, append_assoc}
use Rattle.satp_base.specs.Format.{records}
use Rattle.satp_base.specs.Segments.{open_events}
use Rattle.satp_base.specs.Trail.{Trail, extended, seen}
use Rattle.satp_base.specs.declared.area.Area.{Area}
use Rattle.satp_log.specs.Journals.{party_of}
use Rattle.satp_log.proofs.JournalLemmas.{formed-record}
use Rattle.satp_records.specs.declared.stored.Setup.{Setup}
use Rattle.satp_records.specs.declared.stored.Stored.TheVariants as journaled
use Rattle.satp_records.proofs.Payloads.{payloads_fit}
use Rattle.satp_sides.specs.Logs.{IsLog}
use Rattle.satp_sides.specs.Points.{Move, Party, Side, Stored, moved, moved_by}
use Rattle.satp_sides.specs.Points.Move.{Appends, Acts, Says}
use Rattle.satp_sides.proofs.LogLaw.{log-grows}
use Rattle.satp_stops.specs.Stops.{Kept, Step, AllPayloads, RestsAmong, RestsIn, after_steps, segments}
use Rattle.satp_stops.proofs.Points.{steps_rest, stops_rest}
use Rattle.satp_stops.proofs.Reopening.{points_end, points_stay}
use Rattle.satp_stops.proofs.Telling.{steps_tell}
use Rattle.satp_points.specs.States.{kept_of, step_of, steps_of}
use Rattle.satp_point_laws.specs.PointLaws.{IsAmong, PointsEnd, PointsReopen, PointsReopenEnd, PointsRest, PointsTell}
use Rattle.satp_point_laws.proofs.Kept.{kept-moves, moved-append}

-- ---- what moves of a log store are payloads

moved-grows : (side : Side) (ms : List Move) → (ys : List Stored) × ((moved_by side ms).records ≡ side.records ++ ys)
moved-grows side [] = ([], sym (append-nil side.records))
moved-grows side (Appends x ∷ ms) = let (ys, e) = moved-grows (moved side (Appends x)) ms in (x ∷ ys, e ∙ append_assoc side.records (x ∷ []) ys)
moved-grows side (Acts s op terms ∷ ms) = moved-grows (moved side (Acts s op terms)) ms
moved-grows side (Says t ∷ ms) = moved-grows side ms

-- records that are a log after moves were one before them
pub log-before : (p : Party) (side : Side) (ms : List Move) → IsLog p (moved_by side ms).records → IsLog p side.records
log-before p side ms log = let (ys, e) = moved-grows side ms in (log-grows p).first side.records ys (subst (IsLog p) e log)

all-payloads : (p : Party) (side : Side) (ms : List Move) → IsLog p (moved_by side ms).records → AllPayloads (steps_of ms)
all-payloads p side [] log = tt
all-payloads p side (Appends x ∷ ms) log =
    let here = log-before p (moved side (Appends x)) ms log in
    let may = (log-grows p).next side.records x [] here in
    let old = (log-grows p).first side.records (x ∷ []) here in
    (payloads_fit (journaled.Session x.session x.rec x.text) (formed-record p side.records x old may), all-payloads p (moved side (Appends x)) ms log)
all-payloads p side (Acts s op terms ∷ ms) log = all-payloads p (moved side (Acts s op terms)) ms log
all-payloads p side (Says t ∷ ms) log = all-payloads p side ms log

-- the same of the moves that are still to come
rest-payloads : (p : Party) (side : Side) (done rest moves : List Move) → done ++ rest ≡ moves → IsLog p (moved_by side moves).records → AllPayloads (steps_of rest)
rest-payloads p side done rest moves e log = all-payloads p (moved_by side done) rest (subst (λ (z : Side). IsLog p z.records) (ap (moved_by side) (sym e) ∙ moved-append side done rest) log)

-- ---- points of steps are points of moves

heads : (x y : Step) (xs ys : List Step) → x ∷ xs ≡ y ∷ ys → x ≡ y
heads x y xs ys e = cc e

tails : (x y : Step) (xs ys : List Step) → x ∷ xs ≡ y ∷ ys → xs ≡ ys
tails x y xs ys e = cc e

abbrev SplitsAs : List Step → List Step → List Move → Type 0
SplitsAs done rest moves = (d r : List Move) × (d ++ r ≡ moves) × (steps_of d ≡ done) × (steps_of r ≡ rest)

splits : (done rest : List Step) (moves : List Move) → done ++ rest ≡ steps_of moves → SplitsAs done rest moves
splits [] rest moves e = ([], moves, refl, refl, sym e)
splits (m ∷ done) rest [] e = absurd (cc e)
splits (m ∷ done) rest (x ∷ moves) e =
    let (d, r, all, same, left) = splits done rest moves (tails m (step_of x) (done ++ rest) (steps_of moves) e) in
    (x ∷ d, r, ap (λ (l : List Move). x ∷ l) all, ap₂ (λ (y : Step) (l : List Step). y ∷ l) (sym (heads m (step_of x) (done ++ rest) (steps_of moves) e)) same, left)

among : (t : Trail) (area : Area) (setup : Setup) (side : Side) (moves : List Move) → RestsAmong t (kept_of area setup side) (steps_of moves) → IsAmong t area setup side moves
among t area setup side moves (done, rest, e, at) =
    let (d, r, all, same, left) = splits done rest moves e in (
      d,
      r,
      all,
      subst (λ (k : Kept). RestsIn t k (steps_of r)) (ap (after_steps (kept_of area setup side)) (sym same) ∙ kept-moves area setup side d) (subst (λ (l : List Step). RestsIn t (after_steps (kept_of area setup side) done) l) (sym left) at),
    )

pub points-rest : PointsRest
points-rest t area setup side moves events log rests cut keeps n =
    among _ area setup side moves (stops_rest t (kept_of area setup side) (steps_of moves) events (all-payloads (party_of setup) side moves log) rests cut keeps n)

pub points-end : PointsEnd
points-end t area setup side moves log rests keeps =
    subst (λ (k : Kept). RestsIn (extended t (segments (kept_of area setup side) (steps_of moves))) k []) (kept-moves area setup side moves)
    (steps_rest t (kept_of area setup side) (steps_of moves) (all-payloads (party_of setup) side moves log) rests keeps)

pub points-tell : PointsTell
points-tell t new area setup side moves = steps_tell t new (kept_of area setup side) (steps_of moves)

-- ---- openings

pub points-reopen : PointsReopen
points-reopen t area setup side moves list events log (done, rest, e, at) stands cut keeps =
    (done, rest, e, points_stay t (kept_of area setup (moved_by side done)) (steps_of rest) list events (rest-payloads (party_of setup) side done rest moves e log) at stands cut keeps)

pub points-reopen-end : PointsReopenEnd
points-reopen-end t area setup side moves list log (done, rest, e, at) keeps stands =
    let (steps, more, whole, payloads, rests) = points_end t (kept_of area setup (moved_by side done)) (steps_of rest) list (rest-payloads (party_of setup) side done rest moves e log) at keeps stands in
    let (d, r, all, same, left) = splits steps more rest whole in
    let kept : after_steps (kept_of area setup (moved_by side done)) steps ≡ kept_of area setup (moved_by side (done ++ d)) =
    ap (after_steps (kept_of area setup (moved_by side done))) (sym same) ∙ kept-moves area setup (moved_by side done) d ∙ ap (kept_of area setup) (sym (moved-append side done d)) in (
      done ++ d,
      r,
      append_assoc done d r ∙ ap (λ (l : List Move). done ++ l) all ∙ e,
      sym payloads ∙ ap (λ (k : Kept). k.payloads) kept,
      subst (λ (k : Kept). RestsIn (extended t (open_events area (seen t area) (length (records list)))) k []) kept rests,
    )
