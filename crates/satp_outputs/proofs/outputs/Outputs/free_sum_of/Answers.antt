use Rattle.std.proofs.Common.{◌∙◌}
use Rattle.satp_money.proofs.Moves.{all_is}
use Rattle.satp_outputs.specs.States.{book_of}
use Rattle.satp_outputs.proofs.MoveLemmas.{asset_fits}
use Rattle.satp_outputs.proofs.outputs.Outputs.free_sum_of.Goals as goal

pub asset_sum-requires : goal.asset_sum-requires
asset_sum-requires c = record { fits = asset_fits (book_of c.args.self.now) c.args.self.now.unspent.outputs.entries c.args.self.now.agrees c.args.asset }

pub returns : goal.returns
returns c = c.asset_sum.ensures ∙ all_is _ _ _ c.args.self.now.agrees c.args.asset
