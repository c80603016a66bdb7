use Rattle.std.proofs.Common.{◌++◌, ap, ◌∙◌, length, List, ℕ}
use Rattle.std.specs.Prelude.{codes}
use Rattle.httparse.specs.Ascii.{crlf_bytes}
use Rattle.satp_http.specs.Written.{request_text, head_line, content_lines}
use Rattle.satp_http.proofs.write.write_request.Goals as goal

pub returns : goal.returns
unfolding request_text
returns c =
    let line = head_line (codes "POST /satp ") (codes "HTTP/1.1") in
    let first = c.in_ok-add_line.ensures ∙ ap (λ (l : List ℕ). l ++ line) c.in_ok-text.ensures in
    let second = c.in_ok-add_line-2.ensures ∙ (λ i. first i ++ head_line (codes "Host: ") (c.bytes.ensures i)) in
    let third = c.in_ok-add_content.ensures ∙ ap (λ (l : List ℕ). l ++ content_lines (codes "application/jose") (length c.args.body.now)) second in
    c.in_ok-append-2.ensures.ok ∙ ap (λ (l : List ℕ). l ++ c.args.body.now) (c.in_ok-append.ensures.ok ∙ ap (λ (l : List ℕ). l ++ crlf_bytes) third)
