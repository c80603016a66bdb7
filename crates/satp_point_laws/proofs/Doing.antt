-- What carrying out a decision answers where nothing is done.
use Rattle.std.proofs.Common.{◌≡◌, inl, Bool, true, false, [], Option, Some, None, Result, Ok, Err, refl, sym, subst}
use Rattle.std.proofs.lemmas.List.{append-nil}
use Rattle.satp_base.specs.Calls.{Told}
use Rattle.satp_base.specs.declared.session.SessionId.{SessionId}
use Rattle.satp_records.specs.declared.stored.Setup.{Setup}
use Rattle.satp_sides.specs.Calls.{says}
use Rattle.satp_sides.specs.Points.{Side, Text}
use Rattle.satp_points.specs.Answers.{Goes}
use Rattle.satp_points.specs.Deciding.{Done}
use Rattle.satp_points.specs.States.{GatewayState, Holds, IsAt, Tells, is_broken}
use Rattle.satp_points.specs.declared.decision.Decision.TheVariants.{Gives, Works}
use Rattle.satp_points.specs.declared.decision.First.{First}
use Rattle.satp_points.specs.declared.decision.Replying.{Replying}
use Rattle.satp_points.specs.declared.fault.Refused.{Refused}
use Rattle.satp_points.specs.declared.fault.Refused.TheVariants.{Broken, Site, Memory}

is-whole : {A : Type 0} (b : Bool) → b ≡ false → b ≡ true → A
is-whole b e h = absurd (cc (e, h))

-- a reply alone changes nothing
pub says-go : (g : GatewayState) (site : Tells) (setup : Setup) (side : Side) (t : Told) (reply : Option Text) → IsAt g site setup side t → Goes g setup side (says reply) t g site
says-go g site setup side t None at = (refl, at)
says-go g site setup side t (Some text) at = (refl, at)

ok-not : {A : Type 0} (reply : Option Text) (r : Refused) → ◌≡◌ {A = Result (Option Text) Refused} (Ok reply) (Err r) → A
ok-not reply r e = absurd (cc e)

memory-not : {A : Type 0} → ◌≡◌ {A = Result (Option Text) Refused} (Err Memory) (Err Broken) → A
memory-not e = absurd (cc e)

memory-no-site : {A : Type 0} → ◌≡◌ {A = Result (Option Text) Refused} (Err Memory) (Err Site) → A
memory-no-site e = absurd (cc e)

same-reply : (reply other : Option Text) → Gives reply ≡ Gives other → ◌≡◌ {A = Result (Option Text) Refused} (Ok reply) (Ok other)
same-reply reply other e = cc e

no-work : {A : Type 0} (s : SessionId) (first : First) (reply : Replying) (other : Option Text) → Works s first reply ≡ Gives other → A
no-work s first reply other e = absurd (cc e)

pub gives-done : (reply : Option Text) (g : GatewayState) (site : Tells) → is_broken g ≡ false → Done (Gives reply) g g site site (Ok reply)
gives-done reply g site whole = record {
  only = tt;
  run = λ setup side t at. (refl, says-go g site setup side t reply at);
  unchanged = tt;
  breaking = record { found = λ b. is-whole _ whole b; answered = λ e. ok-not reply Broken e; broke = λ e. ok-not reply Site e; whole = λ b. is-whole _ whole b };
  grows = λ setup xs holds. ([], subst (Holds g setup) (sym (append-nil xs)) holds, refl, tt);
  given = λ other e. same-reply reply other e;
  replies = λ never. absurd never;
}

-- want of memory before anything was done
pub memory-done : (s : SessionId) (first : First) (reply : Replying) (g : GatewayState) (site : Tells) → is_broken g ≡ false → Done (Works s first reply) g g site site (Err Memory)
memory-done s first reply g site whole = record {
  only = tt;
  run = λ setup side t at. inl (refl, refl);
  unchanged = inl (refl, refl);
  breaking = record { found = λ b. is-whole _ whole b; answered = λ e. memory-not e; broke = λ e. memory-no-site e; whole = λ b. is-whole _ whole b };
  grows = λ setup xs holds. ([], subst (Holds g setup) (sym (append-nil xs)) holds, tt, tt);
  given = λ other e. no-work s first reply other e;
  replies = λ always e. absurd (cc e);
}
