-- What a call has before it stores anything.
use Rattle.std.specs.Prelude.{◌≡◌, ℕ, List}
use Rattle.satp_base.specs.declared.session.SessionId.{SessionId}
use Rattle.satp_base.specs.declared.view.View.{View}
use Rattle.satp_chain.specs.Chained.{Chained, texts_in}
use Rattle.satp_log.specs.Folding.{IsSound, State}
use Rattle.satp_log.specs.Journals.{party_of}
use Rattle.satp_log.specs.Logged.{LogState}
use Rattle.satp_plan.specs.Plans.{Covers, IsPlanOf, PlanState}
use Rattle.satp_sides.specs.Due.{most_turns}
use Rattle.satp_sides.specs.Points.{slot}
use Rattle.satp_points.specs.Decisions.{first_of}
use Rattle.satp_points.specs.declared.decision.First.{First}
use Rattle.satp_points.specs.declared.decision.Replying.{Replying}
use Rattle.satp_engine.specs.Replies.{standing_by}
use Rattle.satp_engine.specs.Starting.{StartFits, start_records}
use Rattle.satp_engine.specs.declared.prepare.Prepared.{Prepared}
use Rattle.satp_engine.specs.declared.prepare.Provision.{Provision}
use Rattle.satp_engine.specs.declared.start.Start.{Start}

-- every record that may come due of the session with this view and this chain, and the text that is the reply unless a message is made
pub record IsProvided (s : SessionId) (key : List ℕ) (view : View) (chain : Chained) (replying : Replying) (x : Provision) : Type 0 where
  pub sound : IsSound view chain
  pub covers : Covers most_turns x.plan view
  pub made : IsPlanOf s chain key x.plan
  pub standing_is : x.standing ≡ standing_by replying (slot view (texts_in chain))

-- the same of the session after what is stored first
pub record Provides (log : LogState) (s : SessionId) (start : Start) (replying : Replying) (x : Provision) : Type 0 where
  pub after : State
  pub fits : StartFits log s start after
  pub provided : IsProvided s log.setup.key after.view after.chain replying x

-- and what is stored first is what the decision says
pub record IsPrepared (log : LogState) (s : SessionId) (first : First) (replying : Replying) (x : Prepared) : Type 0 where
  pub provides : Provides log s x.start replying x.provision
  pub records_are : start_records (party_of log.setup) s x.start ≡ first_of (party_of log.setup) s first

-- what is stored first can be, and the plan is that of the session after it
pub record IsPlannedStart (log : LogState) (s : SessionId) (start : Start) (plan : PlanState) : Type 0 where
  pub after : State
  pub fits : StartFits log s start after
  pub covers : Covers most_turns plan after.view
  pub made : IsPlanOf s after.chain log.setup.key plan
