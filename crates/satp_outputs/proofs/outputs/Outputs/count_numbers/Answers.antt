use Rattle.std.proofs.Common.{arith}
use Rattle.satp_outputs.proofs.MoveLemmas.{few_made}
use Rattle.satp_outputs.proofs.outputs.Outputs.count_numbers.Goals as goal

pub returns : goal.returns
returns c = few_made c.args.self.now.entries.entries c.args.self.now.unspent.next c.args.self.now.numbers c.len-entries.ensures.ordered (omega (arith, c.len-entries.ensures.len, c.len-entries.ensures.small))
