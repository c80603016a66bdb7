use Rattle.std.proofs.Common.{◌≡◌, drop}
use Rattle.std.specs.Prelude.{find}
use Rattle.std.specs.Str.{bytes_eq}
use Rattle.satp_base.specs.Canonical.{member_text}
use Rattle.satp_canon.proofs.names.member_among.Given as goal

abbrev pub invariant-loop-name : goal.invariant-loop-name
invariant-loop-name l = find (λ name. bytes_eq (member_text name) l.text) l.names ≡ find (λ name. bytes_eq (member_text name) l.text) (drop l.name-index l.names)
