-- Streams in memory as their callers see them.
use Rattle.std.specs.Prelude.{ℕ, Bool, List}
use Rattle.satp_memory.specs.Calling.{Calling}

-- the bytes that are left, whether a read found the end or failed, and the calls
pub record Supply : Type 0 where
  pub left : List ℕ
  pub over : Bool
  pub calls : Calling

-- the bytes that were taken, whether a write failed, and the calls
pub record Taking : Type 0 where
  pub bytes : List ℕ
  pub failed : Bool
  pub calls : Calling
