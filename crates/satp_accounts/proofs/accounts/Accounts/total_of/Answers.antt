use Rattle.satp_accounts.specs.Books.{book_of}
use Rattle.satp_accounts.proofs.SumLemmas.{pledged_within}
use Rattle.satp_accounts.proofs.accounts.Accounts.total_of.Goals as goal

pub pledged_in-requires : goal.pledged_in-requires
pledged_in-requires c = record { fits = pledged_within (book_of c.args.self.now) c.args.self.now.amounts.entries c.args.asset c.args.self.now.agrees }
