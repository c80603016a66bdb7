use Rattle.std.proofs.Common.{◌∙◌, ap}
use Rattle.std.specs.Prelude.{codes, decimal}
use Rattle.satp_http.specs.Written.{head_line, content_lines}
use Rattle.satp_http.proofs.TextLemmas.{on_ok_joined, on_ok_along}
use Rattle.satp_http.proofs.write.add_content.Goals as goal

pub returns : goal.returns
unfolding content_lines
returns c =
    on_ok_joined c.add_line-2.result c.add_line-2.new.text c.add_line.new.text c.args.text.now (head_line (codes "Content-Type: ") c.args.kind.now) (head_line (codes "Content-Length: ") (decimal c.args.size))
    (on_ok_along c.add_line-2.result _ _ _ _ c.add_line-2.ensures (ap (head_line (codes "Content-Length: ")) (c.as_bytes.ensures.value ∙ c.format.ensures.text))) c.in_ok-add_line.ensures
