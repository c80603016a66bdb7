use Rattle.std.proofs.Common.{◌≡◌, drop}
use Rattle.std.specs.Prelude.{find}
use Rattle.std.specs.Str.{bytes_eq}
use Rattle.satp_base.specs.Canonical.{reason_text}
use Rattle.satp_canon.proofs.names.reason_among.Given as goal

abbrev pub invariant-loop-reason : goal.invariant-loop-reason
invariant-loop-reason l = find (λ reason. bytes_eq (reason_text reason) l.text) l.reasons ≡ find (λ reason. bytes_eq (reason_text reason) l.text) (drop l.reason-index l.reasons)
