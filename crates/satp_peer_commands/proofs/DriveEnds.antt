-- A session is known by its gateway's name and its number.
use Rattle.std.proofs.Common.{◌≡◌, ◌∙◌, ap, subst}
use Rattle.satp_base.specs.Keys.{same_session}
use Rattle.satp_base.specs.declared.session.SessionId.{SessionId}
use Rattle.satp_drive.specs.declared.driven.Driven.{Driven}
use Rattle.satp_outcome.specs.Outside.{SinkState}
use Rattle.satp_outcome.specs.declared.outcome.Outcome.{Outcome}
use Rattle.satp_points.specs.declared.fault.Refused.{Refused}
use Rattle.satp_peer_commands.specs.Driving.{TellsEnd, outcome_of_refusal}

pub told_of : (x s : SessionId) (driven : Driven) (b a : SinkState) (outcome : Outcome) → TellsEnd x driven b a outcome → x.gateway ≡ s.gateway → x.number ≡ s.number → TellsEnd s driven b a outcome
told_of x s driven b a outcome tells gateway number = subst (λ (y : SessionId). TellsEnd y driven b a outcome) (same_session x s gateway number) tells

pub refused_of : (x s : SessionId) (r : Refused) (outcome : Outcome) → outcome ≡ outcome_of_refusal x r → x.gateway ≡ s.gateway → x.number ≡ s.number → outcome ≡ outcome_of_refusal s r
refused_of x s r outcome is gateway number = is ∙ ap (λ (y : SessionId). outcome_of_refusal y r) (same_session x s gateway number)
