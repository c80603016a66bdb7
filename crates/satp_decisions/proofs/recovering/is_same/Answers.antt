use Rattle.std.proofs.Common.{◌∙◌, ap, sym}
use Rattle.satp_base.proofs.Equalities.{equal_sessions}
use Rattle.satp_sides.specs.Points.{is_session}
use Rattle.satp_sides.proofs.Records as records
use Rattle.satp_decisions.proofs.Found.{same-test}
use Rattle.satp_decisions.proofs.recovering.is_same.Goals as goal

pub returns : goal.returns
returns c =
    let is = equal_sessions c.args.a c.args.b c.eq.result c.eq.ensures in
    same-test c.eq.result (is_session c.args.a c.args.b) (λ e. ap (is_session c.args.a) (sym (is.0 e)) ∙ records.session-self c.args.a) (λ e. is.1 (records.is-session c.args.a c.args.b e))
