-- What a wire tells of bytes that it was to say.
use Rattle.std.specs.Prelude.{◌≡◌, ◌≢◌, ℕ, List, [], ◌++◌, Option, option_map}
use Rattle.satp_base.specs.Wires.{Traffic, says}

-- a prefix of these bytes was said, and not all
pub record SaysPart (bytes : List ℕ) (old new : Option Traffic) : Type 0 where
  pub said : List ℕ
  pub rest : List ℕ
  pub cut : bytes ≡ said ++ rest
  pub less : rest ≢ []
  pub told : new ≡ option_map (says said) old
