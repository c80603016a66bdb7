use Rattle.std.proofs.Common.{◌≡◌, ◌<◌, ℕ, Some}
use Rattle.std.specs.Prelude.{◌≢◌, slice_get}
use Rattle.satp_log.specs.declared.held.Held.{Held}
use Rattle.satp_log.proofs.held.place_of.Given as goal

abbrev pub invariant-loop-index : goal.invariant-loop-index
invariant-loop-index l = (i : ℕ) (h : Held) → i < l.index → slice_get l.entries i ≡ Some h → h.session ≢ l.session
