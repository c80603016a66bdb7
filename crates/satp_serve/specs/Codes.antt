-- The code with which a refused body is answered.
use Rattle.std.specs.Prelude.{ℕ}
use Rattle.satp_points.specs.declared.fault.Refused.{Refused}
use Rattle.satp_points.specs.declared.fault.Refused.TheVariants as refused

-- (no body is refused with `Exists` or `TooLate`)
abbrev pub refusal_code : Refused → ℕ
refusal_code refused.Broken = 503
refusal_code (refused.Size length) = 413
refusal_code (refused.Jws fault) = 400
refusal_code refused.Header = 400
refusal_code (refused.Body fault) = 400
refusal_code refused.Receiver = 400
refusal_code (refused.Strange session) = 400
refusal_code (refused.Chain verdict) = 409
refusal_code (refused.Recovery fault) = 409
refusal_code (refused.Full count) = 503
refusal_code refused.Exists = 409
refusal_code (refused.TooLate place) = 409
refusal_code refused.Site = 503
refusal_code refused.Memory = 503
