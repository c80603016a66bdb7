-- Further asks.
use Rattle.std.proofs.Common.{◌≡◌, ◌⊎◌, inl, inr, List, [], ◌∷◌, Option, Result, Err, refl, ap}
use Rattle.satp_points.specs.States.{GatewayState, Tells}
use Rattle.satp_points.specs.declared.fault.Refused.{Refused}
use Rattle.satp_points.specs.declared.fault.Refused.TheVariants as refused
use Rattle.satp_sides.specs.Points.{Text}
use Rattle.satp_runs.specs.Asking as asking
use Rattle.satp_runs.specs.Asking.{AnswersTo, Asked, AsksAll, IsAnswered, Made}

-- a refusal is one by a test, but for two
pub is-answered : (r : Refused) → (r ≡ refused.Site) ⊎ (r ≡ refused.Memory) ⊎ IsAnswered (Err r)
is-answered refused.Broken = inr (inr tt)
is-answered (refused.Size n) = inr (inr tt)
is-answered (refused.Jws fault) = inr (inr tt)
is-answered refused.Header = inr (inr tt)
is-answered (refused.Body fault) = inr (inr tt)
is-answered refused.Receiver = inr (inr tt)
is-answered (refused.Strange s) = inr (inr tt)
is-answered (refused.Chain verdict) = inr (inr tt)
is-answered (refused.Recovery fault) = inr (inr tt)
is-answered (refused.Full count) = inr (inr tt)
is-answered refused.Exists = inr (inr tt)
is-answered (refused.TooLate place) = inr (inr tt)
is-answered refused.Site = inl refl
is-answered refused.Memory = inr (inl refl)

-- nothing was asked
pub none-asked : (old new : GatewayState) (before site : Tells) → new ≡ old → site ≡ before → AsksAll [] old new before site
none-asked old new before site same there = asking.AsksAll.Answered [] refl (same, there)

-- one thing was asked before the others, and answered
pub one-more : (a : Asked) (result : Result (Option Text) Refused) (asked : List Asked) (old mid new : GatewayState) (before between site : Tells) → IsAnswered result → AnswersTo a old mid before between result
    → AsksAll asked mid new between site → AsksAll (a ∷ asked) old new before site
one-more a result asked old mid new before between site ok answers (asking.AsksAll.Answered made are all) =
    asking.AsksAll.Answered (record { asked = a; result = result } ∷ made) (ap (λ (l : List Asked). a ∷ l) are) (mid, between, ok, answers, all)
one-more a result asked old mid new before between site ok answers (asking.AsksAll.Fails made last fault late there are is all fails) =
    asking.AsksAll.Fails (record { asked = a; result = result } ∷ made) last fault late there (ap (λ (l : List Asked). a ∷ l) are) is (mid, between, ok, answers, all) fails

-- one thing was asked, and not answered
pub last-failed : (a : Asked) (fault : Refused) (old new : GatewayState) (before site : Tells) → (fault ≡ refused.Site) ⊎ (fault ≡ refused.Memory) → AnswersTo a old new before site (Err fault) → AsksAll (a ∷ []) old new before site
last-failed a fault old new before site is fails = asking.AsksAll.Fails [] a fault old before refl is (refl, refl) fails
