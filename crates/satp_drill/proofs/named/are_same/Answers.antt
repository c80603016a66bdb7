use Rattle.std.proofs.Common.{◌≡◌, ◌∙◌, Bool, true, false, ap, refl, sym}
use Rattle.satp_base.proofs.Equalities.{equal_sessions}
use Rattle.satp_drill.proofs.named.are_same.Goals as goal
use Rattle.satp_sides.specs.Points.{is_session}
use Rattle.satp_sides.proofs.Records as records

same-test : (r b : Bool) → (r ≡ true → b ≡ true) → (b ≡ true → r ≡ true) → r ≡ b
same-test true b f g = sym (f refl)
same-test false true f g = g refl
same-test false false f g = refl

pub returns : goal.returns
returns c =
    let is = equal_sessions c.args.a c.args.b c.eq.result c.eq.ensures in
    same-test c.eq.result (is_session c.args.a c.args.b) (λ e. ap (is_session c.args.a) (sym (is.0 e)) ∙ records.session-self c.args.a) (λ e. is.1 (records.is-session c.args.a c.args.b e))
