use Rattle.std.proofs.Common.{◌≡◌, ◌<◌, take}
use Rattle.satp_base.specs.Genesis.{IsGenesis}
use Rattle.satp_outputs.specs.States.{unspent_in}
use Rattle.satp_outputs.specs.Unspent.{first_unspent}
use Rattle.satp_outputs.proofs.begin.first_outputs.Given as goal

abbrev pub invariant-loop-index : goal.invariant-loop-index
invariant-loop-index l = (unspent_in l.unspent ≡ first_unspent (take l.index l.genesis.holds)) × (0 < l.index → IsGenesis l.genesis)
