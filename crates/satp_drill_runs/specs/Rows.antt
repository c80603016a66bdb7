-- What a stop, a failing call and a loss leave, in rows.
use Rattle.std.specs.Prelude.{◌≡◌, ℕ, suc, Bool, true, false, List, [], ◌∷◌, Option, Some, None}
use Rattle.std.proofs.Common.{lit≤}
use Rattle.satp_base.specs.declared.ledger.LedgerOp.{LedgerOp}
use Rattle.satp_base.specs.declared.message.Terms.{Terms}
use Rattle.satp_base.specs.declared.session.SessionId.{SessionId}
use Rattle.satp_schedule.specs.declared.line.Line.{Line}
use Rattle.satp_schedule.specs.declared.line.Line.TheVariants.{Start, Deliver, Fail, Stop, Lose, Twice}
use Rattle.satp_schedule.specs.declared.line.Side as line
use Rattle.satp_schedule.specs.declared.line.Side.TheVariants.{A}
use Rattle.satp_sides.specs.Calls.{text_of}
use Rattle.satp_sides.specs.Points.{Appends, Acts, Says, Side, Stored, Text}
use Rattle.satp_world.specs.Worlds.{Gateway, Setting, World}
use Rattle.satp_drill_runs.specs.Benches.{Limit, Stops, Fails, Passes, Breaks, fate}
use Rattle.satp_drill_runs.specs.Commands.{Does, Drilling, no_troubles, passed}
use Rattle.satp_drill_runs.specs.Drills.{DrillRun, reported, units}
use Rattle.satp_drill_runs.specs.Exchanges.{Exchanges, Posts, Talk, Troubles, is_lost, sends}
use Rattle.satp_drill_runs.specs.Reports.{ann, bob, gold}

-- an append, an operation and a text at a site that stops, and at one that fails a call
pub record FatesAre (side : Side) : Type 0 where
  pub third_event_old : (x : Stored) → fate side (Some (Stops 3 0)) (Appends x) ≡ Breaks false
  pub third_event_new : (x : Stored) → fate side (Some (Stops 3 1)) (Appends x) ≡ Breaks true
  pub third_event_other : (x : Stored) → fate side (Some (Stops 3 7)) (Appends x) ≡ Breaks false
  pub third_event_256 : (x : Stored) → fate side (Some (Stops 3 256)) (Appends x) ≡ Breaks false
  pub third_event_257 : (x : Stored) → fate side (Some (Stops 3 257)) (Appends x) ≡ Breaks true
  pub second_event : (x : Stored) → fate side (Some (Stops 2 1)) (Appends x) ≡ Breaks false
  pub stopped_before : (x : Stored) → fate side (Some (Stops 0 1)) (Appends x) ≡ Breaks false
  pub fourth_event : (x : Stored) → fate side (Some (Stops 4 0)) (Appends x) ≡ Passes (Some (Stops 0 0))
  pub second_call : (x : Stored) → fate side (Some (Fails 2)) (Appends x) ≡ Breaks false
  pub third_call : (x : Stored) → fate side (Some (Fails 3)) (Appends x) ≡ Breaks true
  pub fourth_call : (x : Stored) → fate side (Some (Fails 4)) (Appends x) ≡ Breaks true
  pub fifth_call : (x : Stored) → fate side (Some (Fails 5)) (Appends x) ≡ Passes (Some (Fails 1))
  pub stopped_operation : (s : SessionId) (op : LedgerOp) (terms : Terms) → fate side (Some (Stops 0 1)) (Acts s op terms) ≡ Breaks false
  pub failed_operation : (s : SessionId) (op : LedgerOp) (terms : Terms) → fate side (Some (Fails 1)) (Acts s op terms) ≡ Breaks false
  pub later_call : (s : SessionId) (op : LedgerOp) (terms : Terms) → fate side (Some (Fails 2)) (Acts s op terms) ≡ Passes (Some (Fails 1))
  pub text_said : (limit : Option Limit) (t : Text) → fate side limit (Says t) ≡ Passes limit

-- a text that is lost counts as sent, and nothing else happens
abbrev pub LostIsSent : Type 0
LostIsSent =
    (st : Setting) (tr : Troubles) (g : Gateway) (s : SessionId) (owed : Bool) (most n : ℕ) (x : Talk) (t : Text) (y : Talk)
    → is_lost tr n ≡ true → Exchanges (suc most) st tr g s n x (Posts t owed) y → y ≡ sends x t

-- a line that says what is to go wrong is no command
abbrev pub is_command : Line → Bool
is_command (Stop at event pick) = false
is_command (Fail at call) = false
is_command (Lose n) = false
is_command (Twice n) = false
is_command line = true

-- whatever was to go wrong in a command is dropped after it
abbrev pub CommandsDrop : Type 0
CommandsDrop = (st : Setting) (d : Drilling) (l : Line) (e : Drilling) → is_command l ≡ true → Does st d l e → (e.limit ≡ None) × (e.troubles ≡ no_troubles)

-- a text that was never sent is not delivered
abbrev pub NoneIsDelivered : Type 0
NoneIsDelivered = (st : Setting) (d : Drilling) (at : line.Side) (n : ℕ) (e : Drilling) → text_of d.sent n ≡ None → Does st d (Deliver at n) e → e ≡ passed d

-- a start at whose site the call of this number fails
abbrev pub failed_start : ℕ → List Line
failed_start call = Fail A call ∷ Start A 1 gold (units 250 (lit≤ tt) (lit≤ tt)) ann bob ∷ []

-- Where it's the first one, no session begins. Where it's the third one, the write of the gate, the proposal's record stands: it was never sent, and the
-- round at the end rolls the session back.
pub record FailedStarts : Type 0 where
  pub first : (w : World) → DrillRun (failed_start 1) w → reported (failed_start 1) w ≡ record { sessions = 1; committed = 0; rolled_back = 0; not_begun = 1; free_gold = 20000 }
  pub third : (w : World) → DrillRun (failed_start 3) w → reported (failed_start 3) w ≡ record { sessions = 1; committed = 0; rolled_back = 1; not_begun = 0; free_gold = 20000 }

abbrev pub RowsHold : Type 0
RowsHold = ((side : Side) → FatesAre side) × LostIsSent × CommandsDrop × NoneIsDelivered × FailedStarts
