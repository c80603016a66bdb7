use Rattle.std.proofs.Common.{◌∙◌}
use Rattle.satp_http.specs.Lines.{lists}
use Rattle.satp_http.proofs.ValueLemmas.{any_value}
use Rattle.satp_http.proofs.lines.lists.Goals as goal

pub returns : goal.returns
returns c = c.any_lists.ensures ∙ any_value (lists c.args.word.now) c.args.name.now c.args.headers.now
