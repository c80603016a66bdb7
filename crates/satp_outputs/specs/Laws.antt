-- A number is given to one output, over every list of operations.
use Rattle.std.specs.Prelude.{◌≡◌, ℕ, ◌<◌, ◌≤◌, All, List, ◌++◌, Some}
use Rattle.std.specs.List.Sorted.{IsStrictlySortedBy}
use Rattle.std.specs.Map.{keys_of}
use Rattle.std.specs.Ordering.{nat_cmp}
use Rattle.satp_base.specs.declared.genesis.Hold.{Hold}
use Rattle.satp_outputs.specs.Unspent.{Move, Numbered, Unspent, output_at, unspent_after}
use Rattle.satp_outputs.specs.declared.output.Output.{Output}

-- the outputs stand in ascending order, each under a number of its own, and the next number is above them
pub record AreNumbered (u : Unspent) : Type 0 where
  pub ascending : IsStrictlySortedBy nat_cmp (keys_of u.outputs)
  pub below : All (λ (e : Numbered). e.0 < u.next) u.outputs

-- What stands later under a number that was given before stood there before: what was taken never stands again, and no output becomes another.
pub record Follows (before after : Unspent) : Type 0 where
  pub next : before.next ≤ after.next
  pub same : (number : ℕ) (o : Output) → number < before.next → output_at after number ≡ Some o → output_at before number ≡ Some o

abbrev pub NumbersStandOnce : Type 0
NumbersStandOnce = (holds : List Hold) (moves : List Move) → AreNumbered (unspent_after holds moves)

abbrev pub NumbersStayGiven : Type 0
NumbersStayGiven = (holds : List Hold) (moves more : List Move) → Follows (unspent_after holds moves) (unspent_after holds (moves ++ more))
