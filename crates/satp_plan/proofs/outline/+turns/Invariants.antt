use Rattle.std.proofs.Common.{◌+◌, ◌*◌}
use Rattle.satp_plan.proofs.outline.+turns.Given as goal

abbrev pub decreases-add_answers : goal.decreases-add_answers
decreases-add_answers l = 4 * l.turns + 3

abbrev pub decreases-add_mint_refused : goal.decreases-add_mint_refused
decreases-add_mint_refused l = 4 * l.turns + 2

abbrev pub decreases-add_rec : goal.decreases-add_rec
decreases-add_rec l = 4 * l.turns + 1

abbrev pub decreases-add_turns : goal.decreases-add_turns
decreases-add_turns l = 4 * l.turns
