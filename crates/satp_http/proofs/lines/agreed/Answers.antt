use Rattle.std.proofs.Common.{◌∙◌, ◌+◌, ap, sym, drop, get_or}
use Rattle.std.specs.Prelude.{codes}
use Rattle.satp_http.specs.Lines.{same_word, values_of}
use Rattle.satp_http.specs.LineLists.{lines_of}
use Rattle.satp_http.specs.Agreeing.{agrees_on}
use Rattle.satp_http.proofs.ValueLemmas.{no_header, agrees_with, agrees_not, values_here, values_later}
use Rattle.satp_http.proofs.lines.agreed.Goals.{then-same_word+in_ok-agree, else-same_word}
use Rattle.satp_http.proofs.lines.agreed.Goals as goal

pub returns-in_err-agree : goal.returns-in_err-agree
returns-in_err-agree c =
    let i = c.loop-header.header-index in
    let hs = c.args.headers.now in
    let here = values_here (codes "content-length") hs i c.loop-header-test.true (ap (λ n. same_word n (codes "content-length")) (sym c.as_bytes.ensures.value) ∙ sym c.same_word.ensures ∙ c.if-same_word.true) in
    c.from_residual.ensures ∙ sym (agrees_not c.loop-header.found (get_or hs i no_header).value.now (values_of (codes "content-length") (lines_of (drop (i + 1) hs))) (sym c.in_err-agree.ensures))
    ∙ ap (agrees_on c.loop-header.found) (sym here) ∙ c.loop-header.invariant

pub loop-header-preserved : goal.loop-header-preserved
loop-header-preserved c =
    let i = c.loop-header.header-index in
    let hs = c.args.headers.now in
    elim c.if-same_word.branch [
      | then-same_word+in_ok-agree w ↦
          let here = values_here (codes "content-length") hs i c.loop-header-test.true (ap (λ n. same_word n (codes "content-length")) (sym c.as_bytes.ensures.value) ∙ sym c.same_word.ensures ∙ w.if-same_word.true) in
          ap (λ o. agrees_on o (values_of (codes "content-length") (lines_of (drop (i + 1) hs)))) w.found-is
          ∙ agrees_with c.loop-header.found (get_or hs i no_header).value.now (values_of (codes "content-length") (lines_of (drop (i + 1) hs))) w.in_ok-agree.field-0 (sym w.in_ok-agree.ensures)
          ∙ ap (agrees_on c.loop-header.found) (sym here) ∙ c.loop-header.invariant
      | else-same_word w ↦
          let later = values_later (codes "content-length") hs i c.loop-header-test.true (ap (λ n. same_word n (codes "content-length")) (sym c.as_bytes.ensures.value) ∙ sym c.same_word.ensures ∙ w.if-same_word.false) in
          ap (λ o. agrees_on o (values_of (codes "content-length") (lines_of (drop (i + 1) hs)))) w.found-is
          ∙ ap (agrees_on c.loop-header.found) (sym later) ∙ c.loop-header.invariant
    ]
