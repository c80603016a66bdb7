use Rattle.std.proofs.Common.{◌++◌, ap, ◌∙◌, length, List, ℕ}
use Rattle.std.specs.Prelude.{codes}
use Rattle.httparse.specs.Ascii.{crlf_bytes}
use Rattle.satp_http.specs.Written.{response_text, head_line, kind_lines, allow_lines, close_lines}
use Rattle.satp_http.proofs.write.write_response.Goals as goal

pub returns : goal.returns
unfolding response_text
returns c =
    let e1 = c.in_ok-append.ensures.ok ∙ (λ i. c.in_ok-text.ensures i ++ (c.as_bytes.ensures.value ∙ c.format.ensures.text) i) in
    let e2 = c.in_ok-add_line.ensures ∙ (λ i. e1 i ++ head_line (codes " ") ((c.as_bytes-2.ensures.value ∙ c.phrase.ensures) i)) in
    let e3 = c.in_ok-add_allow.ensures ∙ ap (λ (l : List ℕ). l ++ allow_lines c.args.code) e2 in
    let e4 = c.in_ok-add_kind.ensures ∙ ap (λ (l : List ℕ). l ++ kind_lines c.args.code (length c.args.body.now)) e3 in
    let e5 = c.in_ok-add_close.ensures ∙ ap (λ (l : List ℕ). l ++ close_lines c.args.close) e4 in
    c.in_ok-append-3.ensures.ok ∙ ap (λ (l : List ℕ). l ++ c.args.body.now) (c.in_ok-append-2.ensures.ok ∙ ap (λ (l : List ℕ). l ++ crlf_bytes) e5)
