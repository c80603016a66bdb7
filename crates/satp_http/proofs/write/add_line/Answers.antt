use Rattle.std.proofs.Common.{◌∙◌, ap, ◌++◌, append_assoc, List, ℕ}
use Rattle.httparse.specs.Ascii.{crlf_bytes}
use Rattle.satp_http.specs.Written.{head_line}
use Rattle.satp_http.proofs.TextLemmas.{on_ok_joined}
use Rattle.satp_http.proofs.write.add_line.Goals as goal

pub returns : goal.returns
unfolding head_line
returns c =
    on_ok_joined c.append-3.result c.append-3.new.self c.append-2.new.self c.args.text.now (c.args.name.now ++ c.args.value.now) crlf_bytes c.append-3.ensures.ok
    (c.in_ok-append-2.ensures.ok ∙ ap (λ (l : List ℕ). l ++ c.args.value.now) c.in_ok-append.ensures.ok ∙ append_assoc c.args.text.now c.args.name.now c.args.value.now)
