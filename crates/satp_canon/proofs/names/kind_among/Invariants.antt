use Rattle.std.proofs.Common.{◌≡◌, drop}
use Rattle.std.specs.Prelude.{find}
use Rattle.std.specs.Str.{bytes_eq}
use Rattle.satp_base.specs.Canonical.{kind_text}
use Rattle.satp_canon.proofs.names.kind_among.Given as goal

abbrev pub invariant-loop-kind : goal.invariant-loop-kind
invariant-loop-kind l = find (λ kind. bytes_eq (kind_text kind) l.text) l.kinds ≡ find (λ kind. bytes_eq (kind_text kind) l.text) (drop l.kind-index l.kinds)
