-- What a drill is: both gateways as they were set up, the lines of a schedule, and then a round of each session that was begun.
use Rattle.std.proofs.Common.{lit≤, true≢false, ap}
use Rattle.std.specs.Prelude.{◌≡◌, ◌≢◌, ℕ, ◌≤◌, ◌==◌, List, [], ◌∷◌, replicate, Option, Some, None}
use Rattle.satp_base.specs.Founding.{Founding}
use Rattle.satp_base.specs.Numbers.{greatest_amount}
use Rattle.satp_base.specs.declared.amount.Amount.{Amount}
use Rattle.satp_base.specs.declared.name.Name.{Name}
use Rattle.satp_base.specs.declared.session.SessionId.{SessionId}
use Rattle.satp_base.specs.declared.view.View.{View}
use Rattle.satp_schedule.specs.declared.line.Line.{Line}
use Rattle.satp_sides.specs.Points.{Text, view_in}
use Rattle.satp_world.specs.Worlds.{Setting, World, side_at, start}
use Rattle.satp_rounds.specs.Conversations.{Round}
use Rattle.satp_drill_runs.specs.Commands.{DoesAll, Drilling, gateway_of, no_troubles}
use Rattle.satp_drill_runs.specs.Reports.{Reported, alpha, ann, beta, bob, gold, origin_of, report_of, sessions_of}

-- ---- the end

-- a session that its origin's records name is recovered by its origin, and nothing goes wrong
abbrev pub IsRecovered : Setting → World → SessionId → Option View → World → Type 0
IsRecovered st w s None v = v ≡ w
IsRecovered st w s (Some known) v = (texts : List Text) × Round st w (gateway_of (origin_of s)) s texts v

-- each session in order
abbrev pub AreRecovered : Setting → World → List SessionId → World → Type 0
AreRecovered st w [] v = v ≡ w
AreRecovered st w (s ∷ sessions) v =
    (u : World) × IsRecovered st w s (view_in s (side_at w (gateway_of (origin_of s))).records) u × AreRecovered st u sessions v

-- ---- a drill

abbrev pub units : (n : ℕ) → 1 ≤ n → n ≤ greatest_amount → Amount
units n low high = record { number = n; low = low; high = high }

-- at most a million of gold on each ledger: of 10,000 that are one holding at A,
abbrev pub founded_a : Founding
founded_a = record {
  assets = record { name = gold; cap = units 1000000 (lit≤ tt) (lit≤ tt) } ∷ [];
  holds = record { asset = gold; owner = ann; amount = units 10000 (lit≤ tt) (lit≤ tt) } ∷ [];
}

-- and ten at B
abbrev pub founded_b : Founding
founded_b = record {
  assets = record { name = gold; cap = units 1000000 (lit≤ tt) (lit≤ tt) } ∷ [];
  holds = replicate 10 (record { asset = gold; owner = bob; amount = units 1000 (lit≤ tt) (lit≤ tt) });
}

-- the key that both gateways sign with
abbrev pub drill_key : List ℕ
drill_key = 0 ∷ 1 ∷ 2 ∷ 3 ∷ 4 ∷ 5 ∷ 6 ∷ 7 ∷ 8 ∷ 9 ∷ 10 ∷ 11 ∷ 12 ∷ 13 ∷ 14 ∷ 15 ∷ 16 ∷ 17 ∷ 18 ∷ 19 ∷ 20 ∷ 21 ∷ 22 ∷ 23 ∷ 24 ∷ 25 ∷ 26 ∷ 27 ∷ 28 ∷ 29 ∷ 30 ∷ 31 ∷ []

abbrev apart : alpha ≢ beta
apart e = true≢false (ap (λ (n : Name). n.count == 5) e)

abbrev pub drill_setting : Setting
drill_setting = record { a = alpha; b = beta; key = drill_key; differ = apart }

abbrev pub beginning : Drilling
beginning = record { world = start founded_a founded_b; sent = []; limit = None; troubles = no_troubles }

-- The lines of a schedule lead to a world, and the rounds of the sessions that they start to this one.
pub record DrillRun (lines : List Line) (w : World) : Type 0 where
  pub between : Drilling
  pub does : DoesAll drill_setting beginning lines between
  pub recovered : AreRecovered drill_setting between.world (sessions_of lines) w

-- what is reported of it
abbrev pub reported : List Line → World → Reported
reported lines w = report_of lines w.a.records w.b.records w.a.book w.b.book
