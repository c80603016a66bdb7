use Rattle.std.proofs.Common.{◌≡◌, ◌≤◌, ◌+◌, length, drop, arith, subst, sym, List, ℕ, inl, inr, refl, ap, ◌∙◌, slice_range}
use Rattle.satp_http.specs.Heads.{server}
use Rattle.satp_http.specs.Found.{IsFront, FindsAnswer, IsFinal}
use Rattle.satp_http.specs.Feeds.{IsStuck, Passes, BeginsWithAnswer}
use Rattle.satp_http.specs.HttpText.{HasFault}
use Rattle.satp_http.proofs.TakeLemmas.{final_begins}
use Rattle.satp_http.proofs.responses.Responses.take.Goals as goal

pub returns-in-Some-clause-takes : goal.returns-in-Some-clause-takes
returns-in-Some-clause-takes c =
    rw (← c.self.view_is) (inl (c.in-Some.is, refl, subst (IsStuck server c.self.inside.passed c.self.inside.buffer) c.in-Some.is c.self.invariant))

pub invariant_of-self-in-Fault : goal.invariant_of-self-in-Fault
invariant_of-self-in-Fault c =
    let front = c.front_of-front.result in
    let f = subst (λ (l : List ℕ). IsFront c.self.inside.passed l front) c.bytes.ensures.same c.front_of-front.ensures in
    subst (λ (l : List ℕ). HasFault server front.passed l c.in-Fault.fault) (sym c.drop_front-in-Fault.ensures) (subst (FindsAnswer front.passed (drop front.at c.self.inside.buffer)) c.in-Fault.is f.found)

pub returns-in-Fault-clause-takes : goal.returns-in-Fault-clause-takes
returns-in-Fault-clause-takes c =
    let front = c.front_of-front.result in
    let f = subst (λ (l : List ℕ). IsFront c.self.inside.passed l front) c.bytes.ensures.same c.front_of-front.ensures in
    let back = sym c.drop_front-in-Fault.ensures in
    rw (← c.self.view_is) (inr (inl (
      c.in_default.is,
      refl,
      subst (Passes c.self.inside.passed c.self.inside.buffer front.passed) back f.passes,
      subst (λ (l : List ℕ). HasFault server front.passed l c.in-Fault.fault) back (subst (FindsAnswer front.passed (drop front.at c.self.inside.buffer)) c.in-Fault.is f.found),
    )))

pub returns-in_default-copy-clause-takes : goal.returns-in_default-copy-clause-takes
returns-in_default-copy-clause-takes c =
    let held = c.self.inside.buffer in
    let front = c.front_of-front.result in
    let f = subst (λ (l : List ℕ). IsFront c.self.inside.passed l front) c.bytes.ensures.same c.front_of-front.ensures in
    let found = subst (FindsAnswer front.passed (drop front.at held)) c.in-Head.is f.found in
    let final = subst IsFinal c.in-Head.is f.final in
    let framing = c.in-Head.framing in
    let begin = front.at + c.in-Head.start in
    let fits : begin + framing.length ≤ length held = omega (arith, c.if-end-bytes.false, ap length c.bytes-in-Head.ensures.same) in
    let body = slice_range held begin (begin + framing.length) in
    rw (← c.self.view_is) (inr (inr (
      c.in_default.is,
      refl,
      refl,
      (front.passed, drop front.at held, record { code = framing.code; body = body }, drop (begin + framing.length) held, f.passes, final_begins front.passed front.at c.in-Head.start held found.0 framing body f.fits found.1 found.2 final fits refl),
    )))

pub returns-in-Ok-clause-takes : goal.returns-in-Ok-clause-takes
returns-in-Ok-clause-takes c =
    let held = c.self.inside.buffer in
    let front = c.front_of-front.result in
    let f = subst (λ (l : List ℕ). IsFront c.self.inside.passed l front) c.bytes.ensures.same c.front_of-front.ensures in
    let found = subst (FindsAnswer front.passed (drop front.at held)) c.in-Head.is f.found in
    let final = subst IsFinal c.in-Head.is f.final in
    let framing = c.in-Head.framing in
    let begin = front.at + c.in-Head.start in
    let fits : begin + framing.length ≤ length held = omega (arith, c.if-end-bytes.false, ap length c.bytes-in-Head.ensures.same) in
    let body_is : c.in-Ok.body ≡ slice_range held begin (begin + framing.length) = c.in-Ok.ensures ∙ ap (λ (l : List ℕ). slice_range l begin (begin + framing.length)) c.bytes-in-Head-2.ensures.same in
    let last = final_begins front.passed front.at c.in-Head.start held found.0 framing c.in-Ok.body f.fits found.1 found.2 final fits body_is in
    rw (← c.self.view_is) (
      c.in_default.is,
      λ i. record { held = c.drop_front-in-Head.new.self; passed = 0; stuck = c.in_default.is i },
      front.passed,
      drop front.at held,
      f.passes,
      subst (BeginsWithAnswer front.passed (drop front.at held) (record { code = framing.code; body = c.in-Ok.body })) (sym c.drop_front-in-Head.ensures) last,
    )
