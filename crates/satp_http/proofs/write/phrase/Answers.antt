use Rattle.std.proofs.Common.{◌∙◌, ap, refl, List, ℕ, arith}
use Rattle.std.specs.Borrow.{Bor}
use Rattle.http.specs.StatusCode.{reason_phrase}
use Rattle.satp_http.specs.Written.{phrase}
use Rattle.satp_http.proofs.TextLemmas.{now_or_empty}
use Rattle.satp_http.proofs.WrittenLemmas.{answered_code}
use Rattle.satp_http.proofs.write.phrase.Goals as goal

pub returns-in-Ok : goal.returns-in-Ok
unfolding phrase
returns-in-Ok c =
    ap (λ (b : Bor (List ℕ)). b.now) c.unwrap_or.ensures ∙ now_or_empty c.canonical_reason.result _ (reason_phrase c.args.code) refl (c.canonical_reason.ensures.value ∙ ap reason_phrase c.in-Ok.ensures.1)

pub returns-in-Err : goal.returns-in-Err
returns-in-Err c =
    let is = answered_code c.args.code c.requires in
    absurd (c.in-Err.ensures (omega (arith, is.low), is.high))
