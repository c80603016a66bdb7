-- The call that a drive begins with.
use Rattle.std.proofs.Common.{◌≡◌, ◌≢◌, ◌≤◌, Bool, true, false, inl, inr, Option, refl, subst}
use Rattle.std.specs.Prelude.{Result, Ok, Err}
use Rattle.satp_base.specs.Streams.{Rose}
use Rattle.satp_points.specs.Answers.{Answers}
use Rattle.satp_points.specs.States.{GatewayState, Tells, is_broken}
use Rattle.satp_points.specs.declared.fault.Refused.{Refused}
use Rattle.satp_points.specs.declared.fault.Refused.TheVariants.{Site}
use Rattle.satp_sides.specs.Calls.{Call}
use Rattle.satp_sides.specs.Points.{Text}
use Rattle.satp_drive.specs.Calling.{Called, Standing}

pub called_ok : (call : Call) (b a : Standing) (reply : Option Text) → Answers call b.gateway a.gateway b.site a.site (Ok reply) → b.faults ≤ a.faults → a.faults ≡ b.faults → Called call b a (Ok reply)
called_ok call b a reply answers later kept = record { answers = answers; counts = record { later = later; cause = tt; kept = kept; still = tt } }

pub called_err : (call : Call) (b a : Standing) (r : Refused) → Answers call b.gateway a.gateway b.site a.site (Err r) → b.faults ≤ a.faults → (r ≡ Site → Rose b.faults a.faults) → (r ≢ Site → a.faults ≡ b.faults)
    → Called call b a (Err r)
called_err call b a r answers later cause still = record { answers = answers; counts = record { later = later; cause = cause; kept = tt; still = still } }

not_true : (b : Bool) → (b ≡ true → ⊥) → b ≡ false
not_true false isnt = refl
not_true true isnt = absurd (isnt refl)

abbrev IsFine : Result (Option Text) Refused → Type 0
IsFine (Ok reply) = Unit {0}
IsFine (Err r) = ⊥

ok_not_err : (reply : Option Text) (r : Refused) → Ok reply ≡ Err r → ⊥
ok_not_err reply r is = subst IsFine is tt

-- a gateway whose call was answered is whole
pub whole_after : (call : Call) (old new : GatewayState) (before site : Tells) (reply : Option Text) → Answers call old new before site (Ok reply) → is_broken new ≡ false
whole_after call old new before site reply answers = not_true (is_broken new) (λ broken. elim (answers.breaking.whole broken) [
  | inl was ↦ ok_not_err reply _ (answers.breaking.found was)
  | inr is ↦ ok_not_err reply _ is
])
