-- A run over the words that the arguments have is one over the arguments, and so is one without memory for them.
use Rattle.std.proofs.Common.{ℕ, List, Result, Ok, Err, refl, subst, inl, inr}
use Rattle.std.specs.Global.{Global}
use Rattle.std.specs.declared.io.Error.{Error}
use Rattle.std.specs.declared.string.String.{String}
use Rattle.std.specs.declared.vec.IntoIter.{IntoIter}
use Rattle.satp_base.specs.declared.stream.SinkFault.{SinkFault}
use Rattle.satp_app.specs.Arguments.{ArgumentsRule, HasWords}
use Rattle.satp_app.specs.Commands.{Reports, RunRule}
use Rattle.satp_outcome.specs.Outcomes.{line_of}
use Rattle.satp_outcome.specs.Outside.{OutsideState, Says, SinkState}
use Rattle.satp_outcome.specs.declared.outcome.Outcome.TheVariants.{Memory}

pub run_over : (arguments : Result (IntoIter (String Global) Global) Error) (words : List (List ℕ)) (b a : OutsideState) (old new : SinkState) (status : ℕ)
    → HasWords arguments words → RunRule words b a old new status → ArgumentsRule arguments b a old new status
run_over (Ok arguments) words b a old new status has ran = subst (λ (w : List (List ℕ)). RunRule w b a old new status) has ran
run_over (Err error) words b a old new status has ran = (subst (λ (w : List (List ℕ)). RunRule w b a old new status) has.0 ran, λ is. absurd (has.1 is))

reported : (old new : SinkState) (result : Result (Unit {0}) SinkFault) → Says (line_of Memory) old new result → Reports Memory old new
reported old new (Ok done) said = inl said
reported old new (Err fault) said = inr said

pub no_memory : (arguments : Result (IntoIter (String Global) Global) Error) (b : OutsideState) (old new : SinkState) (result : Result (Unit {0}) SinkFault)
    → Says (line_of Memory) old new result → ArgumentsRule arguments b b old new 10
no_memory (Ok arguments) b old new result said = (Memory, inl refl, refl, reported old new result said)
no_memory (Err error) b old new result said = ((Memory, inl refl, refl, reported old new result said), λ is. refl)
