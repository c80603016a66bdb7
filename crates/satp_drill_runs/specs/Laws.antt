-- What holds of drills: each list of lines has one, and how it ends.
use Rattle.std.specs.Prelude.{◌≡◌, ◌+◌, ◌<◌, List, [], ◌∷◌, Some, IsTrue}
use Rattle.satp_base.specs.declared.message.Role.TheVariants.{Origin}
use Rattle.satp_base.specs.declared.message.Terms.{Terms}
use Rattle.satp_base.specs.declared.session.SessionId.{SessionId}
use Rattle.satp_rounds.specs.NewSessions.{accepts_now}
use Rattle.satp_schedule.specs.declared.line.Line.{Line}
use Rattle.satp_schedule.specs.declared.line.Line.TheVariants.{Start}
use Rattle.satp_sides.specs.Points.{begun, most_sessions, records_of}
use Rattle.satp_world.specs.Totals.{AllSettled}
use Rattle.satp_world.specs.Worlds.{Gateway, Reached, World, side_at}
use Rattle.satp_drill_runs.specs.Commands.{Does, DoesAll, Drilling, gateway_of}
use Rattle.satp_drill_runs.specs.Drills.{DrillRun, beginning, drill_setting, founded_a, founded_b, reported}
use Rattle.satp_drill_runs.specs.Reports.{started}

-- after any lines the world is one that moves of both gateways lead to
abbrev pub LinesReach : Type 0
LinesReach = (lines : List Line) (d : Drilling) → DoesAll drill_setting beginning lines d → Reached drill_setting founded_a founded_b d.world

-- At a drill's end so is the world, and every session that a gateway has begun is settled. So each session of the schedule is committed, rolled back or
-- not begun, and all the gold is free.
pub record IsFinished (lines : List Line) (w : World) : Type 0 where
  pub reached : Reached drill_setting founded_a founded_b w
  pub settled : AllSettled drill_setting w
  pub counts : (reported lines w).committed + ((reported lines w).rolled_back + (reported lines w).not_begun) ≡ (reported lines w).sessions
  pub free_gold : (reported lines w).free_gold ≡ 20000

abbrev pub DrillsFinish : Type 0
DrillsFinish = (lines : List Line) (w : World) → DrillRun lines w → IsFinished lines w

-- each list of lines leads to one world, and to no other: so it has one report
abbrev pub DrillsRun : Type 0
DrillsRun = (lines : List Line) → (w : World) × DrillRun lines w × ((v : World) → DrillRun lines v → v ≡ w)

-- ---- starts alone

-- The session may begin: no record of its origin names it, there is room for one more, and both ledgers accept its amount now.
pub record IsAccepted (d : Drilling) (g : Gateway) (s : SessionId) (terms : Terms) : Type 0 where
  pub new : records_of s (side_at d.world g).records ≡ []
  pub room : begun Origin (side_at d.world g).records < most_sessions
  pub accepts : IsTrue (accepts_now d.world g s terms)

-- the lines are starts alone, each of a session that may begin when its turn comes
abbrev pub AreAccepted : Drilling → List Line → Type 0
AreAccepted d [] = Unit {0}
AreAccepted d (Start at number asset amount originator beneficiary ∷ lines) =
    (s : SessionId) × (started at number ≡ Some s)
    × IsAccepted d (gateway_of at) s (record { amount = amount; asset = asset; beneficiary = beneficiary; originator = originator })
    × ((m : Drilling) → Does drill_setting d (Start at number asset amount originator beneficiary) m → AreAccepted m lines)
AreAccepted d (line ∷ lines) = ⊥

-- then each session is committed
abbrev pub StartsCommit : Type 0
StartsCommit = (lines : List Line) (w : World) → AreAccepted beginning lines → DrillRun lines w → (reported lines w).committed ≡ (reported lines w).sessions
