-- What was planned for the due work of a session.
use Rattle.std.specs.Prelude.{◌≡◌, ℕ, Option}
use Rattle.satp_base.specs.Acts.{MayAnswer}
use Rattle.satp_base.specs.Chains.{made_part}
use Rattle.satp_base.specs.Roles.{RoleRule, after_of, next_of}
use Rattle.satp_base.specs.declared.ledger.Answer.{Answer}
use Rattle.satp_base.specs.declared.ledger.LedgerOp.{LedgerOp}
use Rattle.satp_base.specs.declared.message.Kind.{Kind}
use Rattle.satp_base.specs.declared.record.Next.TheVariants.{Append, Act}
use Rattle.satp_base.specs.declared.record.Rec.{Rec}
use Rattle.satp_base.specs.declared.record.Rec.TheVariants.{Made}
use Rattle.satp_base.specs.declared.record.Way.{Way}
use Rattle.satp_base.specs.declared.session.SessionId.{SessionId}
use Rattle.satp_base.specs.declared.view.View.{View}
use Rattle.satp_log.specs.Folding.{State}
use Rattle.satp_log.specs.Logged.{LogState}
use Rattle.satp_plan.specs.Plans.{Covers, HasMaking, HasNote, IsAmong, IsPlanOf, PlanState, parts_in, recs_in}
use Rattle.satp_sides.specs.Logs.{IsNote}
use Rattle.satp_engine.specs.Working.{HasState}

-- the plan is one of the session, and has every record that may come due within so many turns
pub record Planned (n : ℕ) (log : LogState) (s : SessionId) (plan : PlanState) : Type 0 where
  pub state : State
  pub there : HasState log s state
  pub covers : Covers n plan state.view
  pub made : IsPlanOf s state.chain log.setup.key plan

-- it has this record, which is due
pub record PlannedDue (log : LogState) (s : SessionId) (plan : PlanState) (way : Option Way) (r : Rec) : Type 0 where
  pub state : State
  pub there : HasState log s state
  pub way_is : way ≡ state.view.way
  pub due : next_of state.view.role state.view ≡ Append r
  pub has : IsAmong (recs_in plan) (parts_in plan) state.view r
  pub made : IsPlanOf s state.chain log.setup.key plan

-- it has this record, which has no message and may come next
pub record PlannedNote (log : LogState) (s : SessionId) (plan : PlanState) (r : Rec) : Type 0 where
  pub state : State
  pub there : HasState log s state
  pub rule : RoleRule state.view.role state.view r
  pub is_note : IsNote r
  pub has : HasNote plan r
  pub made : IsPlanOf s state.chain log.setup.key plan

-- it has the message of this kind, which is due
pub record PlannedMaking (log : LogState) (s : SessionId) (plan : PlanState) (way : Option Way) (kind : Kind) : Type 0 where
  pub state : State
  pub there : HasState log s state
  pub way_is : way ≡ state.view.way
  pub due : next_of state.view.role state.view ≡ Append (Made kind)
  pub has : HasMaking plan (made_part way kind)
  pub made : IsPlanOf s state.chain log.setup.key plan

-- it has the record after each answer that the operation may have, which is due
pub record PlannedAnswers (log : LogState) (s : SessionId) (plan : PlanState) (op : LedgerOp) (view : View) : Type 0 where
  pub state : State
  pub there : HasState log s state
  pub view_is : view ≡ state.view
  pub due : next_of state.view.role state.view ≡ Act op
  pub has : (answer : Answer) → MayAnswer op answer → HasNote plan (after_of op answer)
  pub made : IsPlanOf s state.chain log.setup.key plan
