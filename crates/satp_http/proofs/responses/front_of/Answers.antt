use Rattle.std.proofs.Common.{◌≡◌, ◌-◌, length, take, drop, sym, subst, ◌∙◌, arith, List, ℕ}
use Rattle.std.proofs.lemmas.Bool.{eqb-true}
use Rattle.std.proofs.lemmas.List.{take_all, length-drop}
use Rattle.satp_http.specs.Heads.{server}
use Rattle.satp_http.specs.Found.{IsHeadAt}
use Rattle.satp_http.proofs.TakeLemmas.{pass_one}
use Rattle.satp_http.proofs.responses.front_of.Goals as goal

whole : (held : List ℕ) (at : ℕ) → take (length held - at) (drop at held) ≡ drop at held
whole held at = take_all (length held - at) (drop at held) (omega (arith, length-drop at held))

pub interim-smaller : goal.interim-smaller
interim-smaller c =
    let found = c.in-Head.ensures in
    let there = subst (λ (l : List ℕ). IsHeadAt server l c.in-Head.start found.0) (whole c.args.held.now c.interim.at) found.1 in
    let one = pass_one c.args.passed c.interim.passed c.interim.at c.in-Head.start c.args.held.now found.0 c.in-Head.framing c.interim.invariant.fits c.interim.invariant.passes there found.2 (eqb-true c.in-Head.framing.code 100 (sym c.is_interim.ensures ∙ c.if-not-is_interim.false)) in
    omega (arith, one.0, one.1)

pub interim-preserved : goal.interim-preserved
interim-preserved c =
    let found = c.in-Head.ensures in
    let there = subst (λ (l : List ℕ). IsHeadAt server l c.in-Head.start found.0) (whole c.args.held.now c.interim.at) found.1 in
    let one = pass_one c.args.passed c.interim.passed c.interim.at c.in-Head.start c.args.held.now found.0 c.in-Head.framing c.interim.invariant.fits c.interim.invariant.passes there found.2 (eqb-true c.in-Head.framing.code 100 (sym c.is_interim.ensures ∙ c.if-not-is_interim.false)) in
    record { fits = one.0; passes = one.2 }
