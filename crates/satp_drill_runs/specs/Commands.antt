-- The lines of a schedule, one by one: what each does to both gateways and to what is to go wrong.
use Rattle.std.specs.Prelude.{◌≡◌, List, [], ◌∷◌, Option, Some, None}
use Rattle.satp_base.specs.declared.message.Terms.{Terms}
use Rattle.satp_base.specs.declared.session.SessionId.{SessionId}
use Rattle.satp_schedule.specs.declared.line.Line.{Line}
use Rattle.satp_schedule.specs.declared.line.Line.TheVariants as line
use Rattle.satp_schedule.specs.declared.line.Side.{Side}
use Rattle.satp_schedule.specs.declared.line.Side.TheVariants as side
use Rattle.satp_sides.specs.Calls.{Call, Starts, Works, Aborts, Rescues, text_of}
use Rattle.satp_sides.specs.Others.{session_of}
use Rattle.satp_sides.specs.Points.{Text}
use Rattle.satp_world.specs.Worlds.{Gateway, Setting, World}
use Rattle.satp_world.specs.Worlds.Gateway.{A, B}
use Rattle.satp_drill_runs.specs.Benches as bench
use Rattle.satp_drill_runs.specs.Benches.{Limit, Stage}
use Rattle.satp_drill_runs.specs.Exchanges.{Exchanges, IsHearing, Talk, Troubles, calls, follows_call, hands, most_posts, owes}
use Rattle.satp_drill_runs.specs.Reports.{started}

-- ---- a command

-- between commands: the world, the texts sent, and what is to go wrong in the next command
pub record Drilling : Type 0 where
  pub world : World
  pub sent : List Text
  pub limit : Option (Gateway × Limit)
  pub troubles : Troubles

abbrev pub no_troubles : Troubles
no_troubles = record { lost = None; twice = None }

-- Both gateways, restarted and opened where that is needed: the site of one has the limit.
abbrev limit_of : Option (Gateway × Limit) → Gateway → Option Limit
limit_of (Some (A, limit)) A = Some limit
limit_of (Some (B, limit)) B = Some limit
limit_of limit g = None

abbrev pub opened : World → Option (Gateway × Limit) → Stage
opened w limit = record { world = w; a = bench.Works (limit_of limit A); b = bench.Works (limit_of limit B) }

abbrev pub begins : Drilling → Talk
begins d = record { stage = opened d.world d.limit; sent = d.sent; again = None }

-- what was to go wrong is dropped after the command
abbrev pub ended : Talk → Drilling
ended x = record { world = x.stage.world; sent = x.sent; limit = None; troubles = no_troubles }

-- a command that does nothing
abbrev pub passed : Drilling → Drilling
passed d = ended (begins d)

-- An answer that comes once more after the command is handed to the gateway that drove, which is opened where that is needed. No stop is left then.
abbrev pub HearsAgain : Setting → Gateway → Talk → Option Text → Drilling → Type 0
HearsAgain st g x None e = e ≡ ended x
HearsAgain st g x (Some t) e = (call : Call) × IsHearing st.key t call × (e ≡ ended (hands st (begins (ended x)) g call))

-- The gateway's operator calls it, and an exchange begins with what it replies.
abbrev pub Drives : Setting → Drilling → Gateway → Call → Drilling → Type 0
Drives st d g call e =
    (y : Talk)
    × Exchanges most_posts st d.troubles g (session_of call) 1 (calls st (begins d) g call) (follows_call st (begins d) g (session_of call) (owes call) call) y
    × HearsAgain st g y y.again e

-- the text, if there is one, is handed over once more
abbrev pub Delivers : Setting → Drilling → Gateway → Option Text → Drilling → Type 0
Delivers st d g None e = e ≡ passed d
Delivers st d g (Some t) e = (call : Call) × IsHearing st.key t call × (e ≡ ended (hands st (begins d) g call))

-- the session begins, if there is one of that number
abbrev pub BeginsOne : Setting → Drilling → Gateway → Option SessionId → Terms → Drilling → Type 0
BeginsOne st d g None terms e = e ≡ passed d
BeginsOne st d g (Some s) terms e = Drives st d g (Starts s terms) e

-- ---- lines

abbrev pub gateway_of : Side → Gateway
gateway_of side.A = A
gateway_of side.B = B

-- what a line does; of what is to go wrong in the next command, a later line of its sort replaces an earlier one, as a stop and a failing call do each other
abbrev pub Does : Setting → Drilling → Line → Drilling → Type 0
Does st d (line.Start at number asset amount originator beneficiary) e =
    BeginsOne st d (gateway_of at) (started at number) (record { amount = amount; asset = asset; beneficiary = beneficiary; originator = originator }) e
Does st d (line.Resume at s) e = Drives st d (gateway_of at) (Works s) e
Does st d (line.Recover at s) e = Drives st d (gateway_of at) (Rescues s) e
Does st d (line.Abort at s) e = e ≡ ended (calls st (begins d) (gateway_of at) (Aborts s))
Does st d (line.Deliver at n) e = Delivers st d (gateway_of at) (text_of d.sent n) e
Does st d (line.Stop at event pick) e = e ≡ record d { limit = Some (gateway_of at, bench.Stops event pick) }
Does st d (line.Fail at call) e = e ≡ record d { limit = Some (gateway_of at, bench.Fails call) }
Does st d (line.Lose n) e = e ≡ record d { troubles = record { lost = Some n; twice = d.troubles.twice } }
Does st d (line.Twice n) e = e ≡ record d { troubles = record { lost = d.troubles.lost; twice = Some n } }

abbrev pub DoesAll : Setting → Drilling → List Line → Drilling → Type 0
DoesAll st d [] e = e ≡ d
DoesAll st d (line ∷ lines) e = (m : Drilling) × Does st d line m × DoesAll st m lines e
