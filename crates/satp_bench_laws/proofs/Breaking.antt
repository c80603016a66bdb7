-- Where the events that are left until a stop end within the moves of a call.
use Rattle.std.proofs.Common.{◌≡◌, ◌∙◌, ◌≤◌, ◌<◌, ◌+◌, ◌-◌, ℕ, Bool, true, false, nat_le, List, [], ◌∷◌, ◌++◌, length, take, Option, Some, refl, sym, ap, arith, append_assoc}
use Rattle.std.specs.Prelude.{◌%◌, ◌==◌, ◌&&◌, if◌then◌else◌}
use Rattle.std.proofs.Math.Seq.{take-append-add}
use Rattle.std.proofs.lemmas.List.{take-append-le}
use Rattle.std.proofs.lemmas.Bool.Decides.{nat_tests}
use Rattle.satp_base.specs.LedgerRule.{operation}
use Rattle.satp_base.specs.declared.area.Area.{Area}
use Rattle.satp_base.specs.declared.area.Event.{Event}
use Rattle.satp_base.specs.declared.area.Event.TheVariants.{Acted}
use Rattle.satp_base.specs.declared.ledger.LedgerOp.{LedgerOp}
use Rattle.satp_base.specs.declared.message.Terms.{Terms}
use Rattle.satp_base.specs.declared.session.SessionId.{SessionId}
use Rattle.satp_point_laws.proofs.Kept.{kept-moves}
use Rattle.satp_points.specs.States.{kept_of, step_of, steps_of}
use Rattle.satp_records.specs.declared.stored.Setup.{Setup}
use Rattle.satp_sides.specs.Points.{Move, Appends, Acts, Says, Side, Stored, moved, moved_by}
use Rattle.satp_stops.specs.Stops.{Kept, after_step, segments, step_events}
use Rattle.satp_drill_runs.specs.Benches.{Broken, Course, Limit, Stops, course}
use Rattle.satp_bench_laws.proofs.Courses.{cost, costs}

-- the record of a move that the stop comes into stands all the same
abbrev pub stands : Move → (left pick : ℕ) → Bool
stands (Appends x) left pick = (left == 3) && (pick % 256 == 1)
stands (Acts s op terms) left pick = false
stands (Says t) left pick = false

-- so many of its events were made
abbrev pub Torn : Move → ℕ → Type 0
Torn (Appends x) left = left < 4
Torn (Acts s op terms) left = left ≡ 0
Torn (Says t) left = ⊥

pub record Ends (area : Area) (setup : Setup) (side : Side) (ms : List Move) (events pick : ℕ) : Type 0 where
  pub done : List Move
  pub move : Move
  pub rest : List Move
  pub left : ℕ
  pub split : ms ≡ done ++ move ∷ rest
  pub torn : Torn move left
  pub goes : course side ms (Some (Stops events pick)) ≡ record { made = length done + (if stands move left pick then 1 else 0); bench = Broken }
  pub made : take events (segments (kept_of area setup side) (steps_of ms)) ≡ segments (kept_of area setup side) (steps_of done) ++ take left (step_events (kept_of area setup (moved_by side done)) (step_of move))

past : {A : Type 0} (n : ℕ) (xs ys : List A) → length xs ≤ n → take n (xs ++ ys) ≡ xs ++ take (n - length xs) ys
past n xs ys h = ap (λ (i : ℕ). take i (xs ++ ys)) (omega (arith, h)) ∙ take-append-add xs ys (n - length xs)

pub at-most : (m n : ℕ) → m ≤ n → nat_le m n ≡ true
at-most m n h = grind (arith, nat_tests)

pub not-most : (m n : ℕ) → n < m → nat_le m n ≡ false
not-most m n h = grind (arith, nat_tests)

is-most : (m n : ℕ) → nat_le m n ≡ true → m ≤ n
is-most m n h = grind (arith, nat_tests)

is-not : (m n : ℕ) → nat_le m n ≡ false → n < m
is-not m n h = grind (arith, nat_tests)

at-one : (b : Bool) (e : Event) → length (if b then e ∷ [] else []) ≤ 1
at-one true e = omega arith
at-one false e = omega arith

one-if : Bool → ℕ
one-if b = if b then 1 else 0

module _ (area : Area) (setup : Setup) (pick : ℕ) where
  abbrev limit : ℕ → Option Limit
  limit n = Some (Stops n pick)

  -- one move more, all of whose events were made
  one-more : (side : Side) (m : Move) (ms : List Move) (events : ℕ) → length (step_events (kept_of area setup side) (step_of m)) ≤ events
      → course side (m ∷ ms) (limit events) ≡ record { made = 1 + (course (moved side m) ms (limit (events - length (step_events (kept_of area setup side) (step_of m))))).made; bench = (course (moved side m) ms (limit (events - length (step_events (kept_of area setup side) (step_of m))))).bench }
      → Ends area setup (moved side m) ms (events - length (step_events (kept_of area setup side) (step_of m))) pick → Ends area setup side (m ∷ ms) events pick
  one-more side m ms events fits goes e =
      let k = kept_of area setup side in
      let first = step_events k (step_of m) in
      let after : after_step k (step_of m) ≡ kept_of area setup (moved side m) = kept-moves area setup side (m ∷ []) in
      record {
        done = m ∷ e.done;
        move = e.move;
        rest = e.rest;
        left = e.left;
        split = ap (λ (l : List Move). m ∷ l) e.split;
        torn = e.torn;
        goes = goes ∙ ap (λ (c : Course). record { made = 1 + c.made; bench = c.bench }) e.goes ∙ ap (λ (n : ℕ). record { made = n; bench = Broken }) (omega arith);
        made =
            past events first (segments (after_step k (step_of m)) (steps_of ms)) fits
            ∙ ap (λ (j : Kept). first ++ take (events - length first) (segments j (steps_of ms))) after
            ∙ ap (λ (l : List Event). first ++ l) e.made
            ∙ ap (λ (j : Kept). first ++ (segments j (steps_of e.done) ++ take e.left (step_events (kept_of area setup (moved_by (moved side m) e.done)) (step_of e.move)))) (sym after)
            ∙ sym (append_assoc first (segments (after_step k (step_of m)) (steps_of e.done)) _);
      }

  abbrev Later : Side → List Move → Type 0
  Later side ms = (n : ℕ) → n < costs side ms → Ends area setup side ms n pick

  by-append : (side : Side) (x : Stored) (ms : List Move) → Later (moved side (Appends x)) ms → (events : ℕ) → events < costs side (Appends x ∷ ms) → (b : Bool) → nat_le 4 events ≡ b → Ends area setup side (Appends x ∷ ms) events pick
  by-append side x ms later events h true is = one-more side (Appends x) ms events (is-most 4 events is) (rw is refl) (later (events - 4) (omega (arith, h, is-most 4 events is)))
  by-append side x ms later events h false is = record {
    done = [];
    move = Appends x;
    rest = ms;
    left = events;
    split = refl;
    torn = is-not 4 events is;
    goes = rw is (ap (λ (n : ℕ). record { made = n; bench = Broken }) (omega arith));
    made = take-append-le events (step_events (kept_of area setup side) (step_of (Appends x))) _ (omega (arith, is-not 4 events is));
  }

  by-act : (side : Side) (s : SessionId) (op : LedgerOp) (terms : Terms) (ms : List Move) → Later (moved side (Acts s op terms)) ms → (events : ℕ) → events < costs side (Acts s op terms ∷ ms) → (b : Bool) → nat_le 1 events ≡ b
      → Ends area setup side (Acts s op terms ∷ ms) events pick
  by-act side s op terms ms later events h true is =
      let one = at-one (operation side.book op s terms).changes (Acted op s terms) in
      one-more side (Acts s op terms) ms events (omega (arith, one, is-most 1 events is)) (rw is refl) (later (events - cost side (Acts s op terms)) (omega (arith, h, one, is-most 1 events is)))
  by-act side s op terms ms later events h false is = let none : events ≡ 0 = omega (arith, is-not 1 events is) in record {
    done = [];
    move = Acts s op terms;
    rest = ms;
    left = 0;
    split = refl;
    torn = refl;
    goes = rw is refl;
    made = ap (λ (n : ℕ). take n (segments (kept_of area setup side) (steps_of (Acts s op terms ∷ ms)))) none;
  }

  pub ends-in : (side : Side) (ms : List Move) (events : ℕ) → events < costs side ms → Ends area setup side ms events pick
  ends-in side [] events h = absurd (omega (arith, h))
  ends-in side (Says t ∷ ms) events h =
      one-more side (Says t) ms events (omega arith) (ap (λ (n : ℕ). let c = course side ms (limit n) in let d : Course = record { made = 1 + c.made; bench = c.bench } in d) (omega arith)) (ends-in side ms (events - 0) (omega (arith, h)))
  ends-in side (Appends x ∷ ms) events h = by-append side x ms (λ n lt. ends-in (moved side (Appends x)) ms n lt) events h (nat_le 4 events) refl
  ends-in side (Acts s op terms ∷ ms) events h = by-act side s op terms ms (λ n lt. ends-in (moved side (Acts s op terms)) ms n lt) events h (nat_le 1 events) refl
