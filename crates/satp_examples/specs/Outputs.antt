-- A ledger of outputs: ann's 100, 200 and 300 units of gold, and what a lock of 250 takes.
use Rattle.std.proofs.Common.{lit≤}
use Rattle.std.specs.Prelude.{◌≡◌, ◌≤◌, ℕ, List, [], ◌∷◌, Some, None, Ok, Err}
use Rattle.satp_base.specs.Numbers.{greatest_amount}
use Rattle.satp_base.specs.declared.genesis.Hold.{Hold}
use Rattle.satp_base.specs.declared.ledger.Answer.TheVariants.{Done, NoFunds}
use Rattle.satp_base.specs.declared.ledger.CoreFault.TheVariants.{Memory}
use Rattle.satp_base.specs.declared.ledger.Entry.TheVariants.{Absent, Locked, Minted}
use Rattle.satp_base.specs.declared.ledger.LedgerOp.TheVariants.{Lock, Burn, Mint, Assign, Release}
use Rattle.satp_base.specs.declared.message.Terms.{Terms}
use Rattle.satp_base.specs.declared.name.Name.{Name}
use Rattle.satp_outputs.specs.Steps.{EndsAt, Leaves}
use Rattle.satp_outputs.specs.Unspent.{Unspent, after_lock, asset_sum, first_unspent, output_at, own_sum, stepped, unspent_after}
use Rattle.satp_outputs.specs.declared.output.Output.{Output}
use Rattle.satp_examples.specs.Samples.{ann, bob, gold, quarter, salt, units}

abbrev pub gold_of : Name → ℕ → Output
gold_of owner amount = record { asset = gold; owner = owner; amount = amount }

abbrev pub hold_of : (owner : Name) (n : ℕ) → 1 ≤ n → n ≤ greatest_amount → Hold
hold_of owner n low high = record { asset = gold; owner = owner; amount = units n low high }

-- between ann's second and third one stands one of bob's
abbrev pub holds : List Hold
holds = hold_of ann 100 (lit≤ tt) (lit≤ tt) ∷ hold_of ann 200 (lit≤ tt) (lit≤ tt) ∷ hold_of bob 70 (lit≤ tt) (lit≤ tt) ∷ hold_of ann 300 (lit≤ tt) (lit≤ tt) ∷ []

abbrev pub first : Unspent
first = record { outputs = (1, gold_of ann 100) ∷ (2, gold_of ann 200) ∷ (3, gold_of bob 70) ∷ (4, gold_of ann 300) ∷ []; next = 5 }

-- the first two are taken, and 50 units are the change
abbrev pub behind_the_lock : Unspent
behind_the_lock = record { outputs = (3, gold_of bob 70) ∷ (4, gold_of ann 300) ∷ (5, gold_of ann 50) ∷ []; next = 6 }

abbrev pub three_hundred : Terms
three_hundred = record quarter { amount = units 300 (lit≤ tt) (lit≤ tt) }

pub record OutputsOfALedger : Type 0 where
  pub founded : first_unspent holds ≡ first
  pub anns : own_sum first.outputs gold ann ≡ 600
  pub of_all : asset_sum first.outputs gold ≡ 670
  pub of_another_asset : own_sum first.outputs salt ann ≡ 0
  pub by_number : output_at first 3 ≡ Some (gold_of bob 70)
  pub of_no_number : output_at behind_the_lock 2 ≡ None

pub record OutputsOfOperations : Type 0 where
  -- the first outputs that suffice, in ascending order
  pub locked : after_lock first quarter ≡ behind_the_lock
  -- no change of nothing
  pub locked_exactly : after_lock first three_hundred ≡ record { outputs = (3, gold_of bob 70) ∷ (4, gold_of ann 300) ∷ []; next = 5 }
  pub assigned : stepped Assign Minted quarter first ≡ record { outputs = (1, gold_of ann 100) ∷ (2, gold_of ann 200) ∷ (3, gold_of bob 70) ∷ (4, gold_of ann 300) ∷ (5, gold_of bob 250) ∷ []; next = 6 }
  -- what was taken never stands again: a release makes a new output
  pub released : stepped Release Locked quarter behind_the_lock ≡ record { outputs = (3, gold_of bob 70) ∷ (4, gold_of ann 300) ∷ (5, gold_of ann 50) ∷ (6, gold_of ann 250) ∷ []; next = 7 }
  pub released_mint : stepped Release Minted quarter first ≡ first
  pub minted : stepped Mint Absent quarter first ≡ first
  pub burnt : stepped Burn Locked quarter behind_the_lock ≡ behind_the_lock
  pub one_behind_the_other : unspent_after holds (record { op = Lock; found = Absent; terms = quarter } ∷ record { op = Burn; found = Locked; terms = quarter } ∷ []) ≡ behind_the_lock

pub record OutputsOfAnswers : Type 0 where
  pub done : Leaves Lock Absent quarter first (Ok Done) behind_the_lock
  pub refused : Leaves Lock Absent quarter first (Ok (NoFunds 0)) first
  pub no_memory : Leaves Lock Absent quarter first (Err Memory) first
  pub not_without_change : ¬ Leaves Lock Absent quarter first (Ok Done) (record { outputs = (3, gold_of bob 70) ∷ (4, gold_of ann 300) ∷ []; next = 5 })
  pub not_the_greatest_first : ¬ Leaves Lock Absent quarter first (Ok Done) (record { outputs = (1, gold_of ann 100) ∷ (2, gold_of ann 200) ∷ (3, gold_of bob 70) ∷ (5, gold_of ann 50) ∷ []; next = 6 })
  pub not_refused_and_taken : ¬ Leaves Lock Absent quarter first (Ok (NoFunds 0)) behind_the_lock

pub record EndsOfTakings : Type 0 where
  -- outputs up to 2 suffice for 250, with 50 more, and those below don't
  pub at_the_second : EndsAt first.outputs gold ann 250 2 50
  pub not_at_the_first : (rest : ℕ) → ¬ EndsAt first.outputs gold ann 250 1 rest
  pub not_at_the_last : (rest : ℕ) → ¬ EndsAt first.outputs gold ann 250 4 rest
  pub not_another_rest : ¬ EndsAt first.outputs gold ann 250 2 49
