use Rattle.std.proofs.Common.{◌∙◌, not}
use Rattle.satp_http.specs.Lines.{same_word}
use Rattle.satp_http.proofs.ValueLemmas.{any_value}
use Rattle.satp_http.proofs.lines.has_other.Goals as goal

pub returns : goal.returns
returns c = c.any_other.ensures ∙ any_value (λ v. not (same_word v c.args.word.now)) c.args.name.now c.args.headers.now
