-- A list of bytes is equal to itself, as the code compares it.
use Rattle.std.proofs.Common.{◌≡◌, ℕ, List, true}
use Rattle.std.proofs.lemmas.Cmp.{nat_list_eq_equiv}
use Rattle.std.specs.Str.{bytes_eq}

pub same_bytes : (xs : List ℕ) → bytes_eq xs xs ≡ true
same_bytes = nat_list_eq_equiv.refl
