-- A gateway within a drive, and what its calls do.
use Rattle.std.specs.Prelude.{◌≡◌, ◌≢◌, ◌≤◌, ℕ, List, Option, Result, IfErr, OnOk}
use Rattle.satp_base.specs.Calls.{Told}
use Rattle.satp_base.specs.Money.{Book}
use Rattle.satp_base.specs.Streams.{Rose}
use Rattle.satp_base.specs.declared.message.Message.{Message}
use Rattle.satp_gateway.specs.Handling.{HandleReads, HearsRecover, IsHeardBy, reply_of}
use Rattle.satp_gateway.specs.declared.handle.Reply.{Reply}
use Rattle.satp_points.specs.Answers.{Answers, Breaking, Unchanged}
use Rattle.satp_points.specs.States.{GatewayState, Holds, Tells, tells}
use Rattle.satp_points.specs.declared.fault.Refused.{Refused}
use Rattle.satp_points.specs.declared.fault.Refused.TheVariants.{Site}
use Rattle.satp_records.specs.declared.stored.Setup.{Setup}
use Rattle.satp_sides.specs.Calls.{Call, Hears}
use Rattle.satp_sides.specs.Points.{Stored, Text}

-- a gateway between two of its calls, what its site tells, and how often that has failed
pub record Standing : Type 0 where
  pub gateway : GatewayState
  pub site : Tells
  pub faults : ℕ

abbrev pub standing : GatewayState → Option Told → Option Book → ℕ → Standing
standing g told book faults = record { gateway = g; site = tells told book; faults = faults }

-- A call answers `Site` only where the count of faults rose, and leaves the count with every other answer. The count never falls.
pub record Counts {A : Type 0} (before after : ℕ) (result : Result A Refused) : Type 0 where
  pub later : before ≤ after
  pub cause : IfErr result (λ r. r ≡ Site → Rose before after)
  pub kept : OnOk result (after ≡ before)
  pub still : IfErr result (λ r. r ≢ Site → after ≡ before)

-- a call of the gateway's own operator answered so
pub record Called (call : Call) (b a : Standing) (result : Result (Option Text) Refused) : Type 0 where
  pub answers : Answers call b.gateway a.gateway b.site a.site result
  pub counts : Counts b.faults a.faults result

-- The gateway handled a body so: all that its call says, which reads the body by the signed text's first fault, and answers the
-- message that it is.
pub record Handled (body : Text) (b a : Standing) (result : Result Reply Refused) : Type 0 where
  pub read : (setup : Setup) (xs : List Stored) → Holds b.gateway setup xs → HandleReads setup.key body result
  pub answers : (m : Message) (e : Option Message) → IsHeardBy b.gateway body m e → Answers (Hears m body e) b.gateway a.gateway b.site a.site (reply_of result)
  pub unchanged : Unchanged (HearsRecover b.gateway body) b.gateway a.gateway b.site a.site (reply_of result)
  pub breaking : Breaking b.gateway a.gateway (reply_of result)
  pub counts : Counts b.faults a.faults result
