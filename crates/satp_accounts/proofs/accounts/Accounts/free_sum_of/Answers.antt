use Rattle.std.proofs.Common.{◌∙◌, arith, sym}
use Rattle.satp_accounts.specs.Books.{book_of}
use Rattle.satp_accounts.proofs.SumLemmas.{free_fits, free_is}
use Rattle.satp_accounts.proofs.accounts.Accounts.free_sum_of.Goals as goal

pub overflow_add-sum : goal.overflow_add-sum
overflow_add-sum c = omega (arith, free_fits (book_of c.args.self.now) c.args.self.now.amounts.entries c.loop-owned.owned-iterator c.next.new.self c.args.asset c.in-Some.owned.now c.in-Some.amount.now c.loop-owned.sum c.args.self.now.agrees c.iter-owned-items.ensures.ordered c.in-Some.ensures.steps c.loop-owned.invariant.2 (sym c.are_equal.ensures ∙ c.if-are_equal.true))

pub returns : goal.returns
returns c = free_is (book_of c.args.self.now) c.args.self.now.amounts.entries c.loop-owned.owned-iterator c.args.asset c.loop-owned.sum c.args.self.now.agrees c.iter-owned-items.ensures.ordered c.in-None.ensures.steps.0 c.loop-owned.invariant.2
