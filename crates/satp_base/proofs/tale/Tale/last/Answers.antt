use Rattle.std.proofs.Common.{ap, ◌∙◌, arith}
use Rattle.satp_base.specs.Tales.{last_of}
use Rattle.satp_base.proofs.TaleLemmas.{last-held}
use Rattle.satp_base.proofs.tale.Tale.last.Goals as goal

pub returns-clause-last : goal.returns-clause-last
returns-clause-last c = last-held c.self.inside c.self.invariant (omega arith) ∙ ap last_of c.self.view_is
