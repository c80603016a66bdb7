use Rattle.std.proofs.Common.{◌∙◌}
use Rattle.satp_http.proofs.ValueLemmas.{count_values}
use Rattle.satp_http.proofs.lines.count.Goals as goal

pub returns : goal.returns
returns c = c.count_named.ensures ∙ count_values c.args.name.now c.args.headers.now
