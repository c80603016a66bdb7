use Rattle.std.proofs.Common.{◌≡◌, ◌<◌, take}
use Rattle.satp_base.specs.Genesis.{IsGenesis}
use Rattle.satp_keeper.proofs.FoundLemmas.{assets_at, holds_at}
use Rattle.satp_keeper.proofs.founding.first_payloads.Given as goal

abbrev pub invariant-loop-index : goal.invariant-loop-index
invariant-loop-index l = (l.texts ≡ assets_at l.fn.kind (take l.index l.genesis.assets)) × (0 < l.index → IsGenesis l.genesis)

abbrev pub invariant-loop-place : goal.invariant-loop-place
invariant-loop-place l = (l.texts ≡ holds_at l.fn.kind l.genesis.assets (take l.place l.genesis.holds)) × IsGenesis l.genesis
