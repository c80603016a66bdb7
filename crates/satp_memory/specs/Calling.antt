-- What a device in memory counts of the calls on it, and which of them are to fail.
use Rattle.std.specs.Prelude.{ℕ, ◌+◌, ◌-◌, ◌^◌, ◌==◌, ◌&&◌, ◌||◌, nat_lt, Bool, false, if◌then◌else◌, List, [], ◌∷◌, ◌++◌, Option, Some, None}
use Rattle.std.specs.List.{list_any}
use Rattle.satp_base.specs.Calls.{risen}

-- the calls, the failed ones, those that found no memory, the number of the last one that failed, and the numbers of the calls that are to fail
pub record Calling : Type 0 where
  pub count : ℕ
  pub faults : ℕ
  pub wants : ℕ
  pub last_failed : Option ℕ
  pub named : List ℕ

abbrev pub fresh : Calling
fresh = record { count = 0; faults = 0; wants = 0; last_failed = None; named = [] }

-- the next call is to fail: calls have numbers from 1 on
abbrev pub is_due : Calling → Bool
is_due c = nat_lt c.count (2 ^ 64 - 1) && list_any (λ n. n == c.count + 1) c.named

abbrev pub naming : ℕ → Calling → Calling
naming call c = record c { named = c.named ++ call ∷ [] }

abbrev pub succeeded : Calling → Calling
succeeded c = record c { count = risen c.count 1 }

abbrev pub failed : Calling → Calling
failed c = record c { count = risen c.count 1; faults = risen c.faults 1; last_failed = Some (risen c.count 1) }

-- a call is to fail: it comes after a stop, or it was named
abbrev pub is_refused : Bool → Calling → Bool
is_refused stopped c = stopped || is_due c

-- after a call that fails where it is to fail, and only there
abbrev pub begun : Bool → Calling → Calling
begun stopped c = if is_refused stopped c then failed c else succeeded c

-- so it is where there are no stops
abbrev pub stepped : Calling → Calling
stepped c = begun false c

-- a call that is counted already found no memory
abbrev pub wanting : Calling → Calling
wanting c = record c { faults = risen c.faults 1; wants = risen c.wants 1; last_failed = Some c.count }

-- a call that is counted already fails for another reason
abbrev pub faulting : Calling → Calling
faulting c = record c { faults = risen c.faults 1; last_failed = Some c.count }

-- no call is to fail any more
abbrev pub cleared : Calling → Calling
cleared c = record c { named = [] }
