use Rattle.std.proofs.Common.{◌∙◌}
use Rattle.satp_money.proofs.Moves.{each_is}
use Rattle.satp_outputs.specs.States.{book_of}
use Rattle.satp_outputs.proofs.MoveLemmas.{own_fits}
use Rattle.satp_outputs.proofs.outputs.Outputs.amount.Goals as goal

pub own_sum-requires : goal.own_sum-requires
own_sum-requires c = record { fits = own_fits (book_of c.args.self.now) c.args.self.now.unspent.outputs.entries c.args.self.now.agrees c.args.asset c.args.owner }

pub returns-clause-free : goal.returns-clause-free
returns-clause-free c = c.own_sum.ensures ∙ each_is _ _ _ c.args.self.now.agrees c.args.asset c.args.owner
