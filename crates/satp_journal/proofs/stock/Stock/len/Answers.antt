use Rattle.std.proofs.Common.{◌∙◌, sym}
use Rattle.satp_journal.proofs.PieceLemmas.{length-pieces}
use Rattle.satp_journal.proofs.stock.Stock.len.Goals as goal

pub returns : goal.returns
returns c = rw (← c.self.view_is) (c.len.ensures ∙ c.self.inside.ends.ok.0 ∙ sym (length-pieces 0 c.self.inside.ends.items c.self.inside.bytes.items))
