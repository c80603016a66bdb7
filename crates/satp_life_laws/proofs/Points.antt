-- The point at which a gateway is closed, and the worlds around it.
use Rattle.std.proofs.Common.{◌≡◌, ℕ, zero, suc, List, [], ◌∷◌, Option, Some, None, refl, sym, subst}
use Rattle.std.specs.Prelude.{drop, take}
use Rattle.std.proofs.lemmas.List.{take-append-drop}
use Rattle.satp_base.specs.Founding.{Founding}
use Rattle.satp_base.specs.Trail.{Trail}
use Rattle.satp_log.specs.Journals.{party_of}
use Rattle.satp_log.proofs.JournalLemmas.{formed-record}
use Rattle.satp_points.specs.States.{steps_of}
use Rattle.satp_records.specs.declared.stored.Setup.{Setup}
use Rattle.satp_records.specs.declared.stored.Stored.TheVariants as journaled
use Rattle.satp_records.proofs.Payloads.{payloads_fit}
use Rattle.satp_runs.specs.Living.{whose}
use Rattle.satp_sides.specs.Calls.{Call}
use Rattle.satp_sides.specs.Calls.Call.{Starts, Works, Aborts, Rescues, Hears}
use Rattle.satp_sides.specs.Logs.{IsLog}
use Rattle.satp_sides.specs.Moves.{AreMoves, Among, said_by}
use Rattle.satp_sides.specs.Moves.Among.{later}
use Rattle.satp_sides.specs.Points.{Move, Party, Side, Stored, Text, moved_by}
use Rattle.satp_sides.specs.Points.Move.{Appends, Acts, Says}
use Rattle.satp_sides.proofs.MoveLaw.{moves-go}
use Rattle.satp_stops.specs.Stops.{AllPayloads, Kept, RestsIn}
use Rattle.satp_world.specs.Histories.{Event, MayCall, after_event, after_moves, call_moves}
use Rattle.satp_world.specs.Histories.Event.{Called, Stopped, Unread}
use Rattle.satp_world.specs.Worlds.{Gateway, Reached, Setting, World, opposite, party_at, side_at, with_side}
use Rattle.satp_world.specs.Worlds.Gateway.{A, B}
use Rattle.satp_world.proofs.KeptLaw.{logs-kept, moves-reach}
use Rattle.satp_world.proofs.RunHear.{heard-run}
use Rattle.satp_world.proofs.RunLaw.{operators-run}
use Rattle.satp_life_laws.specs.Closed.{IsClosed, append_of}

-- ---- sides and bags of a world

pub side-after : (w : World) (g : Gateway) (side : Side) (bag : List Text) → side_at (with_side w g side bag) g ≡ side
side-after w A side bag = refl
side-after w B side bag = refl

pub bag-after : (w : World) (g : Gateway) (side : Side) (bag : List Text) → (with_side w g side bag).bag ≡ bag
bag-after w A side bag = refl
bag-after w B side bag = refl

other-side : (w : World) (g : Gateway) (side : Side) (bag : List Text) → side_at (with_side w (opposite g) side bag) g ≡ side_at w g
other-side w A side bag = refl
other-side w B side bag = refl

-- what happens to the other gateway leaves this one
pub others-side : (st : Setting) (w : World) (g : Gateway) (e : Event) → whose e ≡ opposite g → side_at (after_event st w e) g ≡ side_at w g
others-side st w g (Called h call) is = subst (λ (x : Gateway). side_at (after_event st w (Called x call)) g ≡ side_at w g) (sym is) (other-side w g _ _)
others-side st w g (Stopped h call n) is = subst (λ (x : Gateway). side_at (after_event st w (Stopped x call n)) g ≡ side_at w g) (sym is) (other-side w g _ _)
others-side st w g (Unread h t) is = refl

-- what was said stays said
still-said : (ms : List Move) (bag : List Text) (t : Text) → Among t bag → Among t (said_by bag ms)
still-said [] bag t is = is
still-said (Appends x ∷ ms) bag t is = still-said ms bag t is
still-said (Acts s op terms ∷ ms) bag t is = still-said ms bag t is
still-said (Says u ∷ ms) bag t is = still-said ms (u ∷ bag) t (later is)

after-said : (w : World) (g : Gateway) (ms : List Move) (t : Text) → Among t w.bag → Among t (after_moves w g ms).bag
after-said w g ms t is = subst (Among t) (sym (bag-after w g _ _)) (still-said ms w.bag t is)

pub bag-grows : (st : Setting) (w : World) (e : Event) (t : Text) → Among t w.bag → Among t (after_event st w e).bag
bag-grows st w (Called g call) t is = after-said w g (call_moves st w g call) t is
bag-grows st w (Stopped g call n) t is = after-said w g (take n (call_moves st w g call)) t is
bag-grows st w (Unread g u) t is = is

-- ---- the moves of a call

call-goes : (st : Setting) (a b : Founding) (w : World) → Reached st a b w → (g : Gateway) (call : Call) → MayCall st w g call → AreMoves (party_at st g) (side_at w g) w.bag (call_moves st w g call)
call-goes st a b w r g (Hears m t e) (heard, d) = (heard-run st a b w r g m t e heard d).moves
call-goes st a b w r g (Starts s terms) own = (operators-run st a b w r g (Starts s terms) tt own).moves
call-goes st a b w r g (Works s) own = (operators-run st a b w r g (Works s) tt tt).moves
call-goes st a b w r g (Aborts s) own = (operators-run st a b w r g (Aborts s) tt tt).moves
call-goes st a b w r g (Rescues s) own = (operators-run st a b w r g (Rescues s) tt tt).moves

-- those that are left after a stop may still be made
pub rest-goes : (st : Setting) (a b : Founding) (w : World) → Reached st a b w → (g : Gateway) (call : Call) → MayCall st w g call → (n : ℕ)
    → AreMoves (party_at st g) (side_at (after_event st w (Stopped g call n)) g) (after_event st w (Stopped g call n)).bag (drop n (call_moves st w g call))
rest-goes st a b w r g call may n =
    let ms = call_moves st w g call in
    let all = (moves-go (party_at st g) (side_at w g) w.bag).first (take n ms) (drop n ms) (subst (AreMoves (party_at st g) (side_at w g) w.bag) (sym (take-append-drop n ms)) (call-goes st a b w r g call may)) in
    subst (λ (bag : List Text). AreMoves (party_at st g) (side_at (after_event st w (Stopped g call n)) g) bag (drop n ms)) (sym (bag-after w g _ _))
    (subst (λ (side : Side). AreMoves (party_at st g) side (said_by w.bag (take n ms)) (drop n ms)) (sym (side-after w g _ _)) all.1)

-- ---- the next append

-- the record that the first of these moves stores
abbrev pub stored-first : List Move → Option Stored
stored-first [] = None
stored-first (Appends x ∷ ms) = Some x
stored-first (Acts s op terms ∷ ms) = None
stored-first (Says t ∷ ms) = None

pub first-goes : (p : Party) (side : Side) (bag : List Text) (ms : List Move) → AreMoves p side bag ms → AreMoves p side bag (append_of (stored-first ms))
first-goes p side bag [] goes = tt
first-goes p side bag (Appends x ∷ ms) goes = (goes.0, tt)
first-goes p side bag (Acts s op terms ∷ ms) goes = tt
first-goes p side bag (Says t ∷ ms) goes = tt

pub first-rests : (t : Trail) (k : Kept) (ms : List Move) → RestsIn t k (steps_of ms) → RestsIn t k (steps_of (append_of (stored-first ms)))
first-rests t k [] rests = rests
first-rests t k (Appends x ∷ ms) rests = record { ledger = rests.ledger; images = rests.images }
first-rests t k (Acts s op terms ∷ ms) rests = record { ledger = rests.ledger; images = rests.images }
first-rests t k (Says u ∷ ms) rests = record { ledger = rests.ledger; images = rests.images }

-- ---- a closed gateway

module _ (st : Setting) (a b : Founding) (g : Gateway) (setup : Setup) (w : World) (t : Trail) (is : IsClosed st a b g setup w t) where
  abbrev pub moves : List Move
  moves = append_of is.next

  abbrev pub side : Side
  side = side_at w g

  log-by : (p : Party) → p ≡ party_at st g → IsLog p side.records
  log-by p e = subst (λ (q : Party). IsLog q side.records) (sym e) (logs-kept st a b w is.reached g)

  -- what it stores is a payload
  payload-of : (next : Option Stored) → AreMoves (party_at st g) side w.bag (append_of next) → AllPayloads (steps_of (append_of next))
  payload-of None may = tt
  payload-of (Some x) may = (payloads_fit (journaled.Session x.session x.rec x.text) (formed-record (party_at st g) side.records x (logs-kept st a b w is.reached g) may.0.may_come), tt)

  pub payloads : AllPayloads (steps_of moves)
  payloads = payload-of is.next is.may

  -- the records after it are a log
  pub log-after : IsLog (party_of setup) (moved_by side moves).records
  log-after = subst (λ (q : Party). IsLog q (moved_by side moves).records) (sym is.party) ((moves-go (party_at st g) side w.bag).logs moves (logs-kept st a b w is.reached g) is.may)

  -- the world with it, or without
  first-may : (n : ℕ) (ms : List Move) → AreMoves (party_at st g) side w.bag ms → AreMoves (party_at st g) side w.bag (take n ms)
  first-may n ms may = ((moves-go (party_at st g) side w.bag).first (take n ms) (drop n ms) (subst (AreMoves (party_at st g) side w.bag) (sym (take-append-drop n ms)) may)).0

  pub reached-after : (n : ℕ) → Reached st a b (after_moves w g (take n moves))
  reached-after n = moves-reach st a b w is.reached g (take n moves) (first-may n moves is.may)

  -- an append leaves the ledger
  book-by : (next : Option Stored) (n : ℕ) → (moved_by side (take n (append_of next))).book ≡ side.book
  book-by None zero = refl
  book-by None (suc n) = refl
  book-by (Some x) zero = refl
  book-by (Some x) (suc zero) = refl
  book-by (Some x) (suc (suc n)) = refl

  pub same-book : (n : ℕ) → (moved_by side (take n moves)).book ≡ side.book
  same-book n = book-by is.next n
