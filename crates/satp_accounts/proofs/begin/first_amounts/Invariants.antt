use Rattle.std.proofs.Common.{◌<◌, take}
use Rattle.std.specs.FinMap as map
use Rattle.satp_base.specs.Genesis.{IsGenesis}
use Rattle.satp_accounts.specs.Owners.{IsHeld}
use Rattle.satp_accounts.proofs.begin.first_amounts.Given as goal

abbrev pub invariant-loop-index : goal.invariant-loop-index
invariant-loop-index l = IsHeld (take l.index l.genesis.holds) (map.from_entries l.amounts.entries) × (0 < l.index → IsGenesis l.genesis)
