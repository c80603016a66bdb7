-- The schedule on an input, from its first bytes.
use Rattle.std.proofs.Common.{◌≡◌, ◌+◌, ◌<◌, ◌≤◌, ℕ, zero, suc, List, [], ◌∷◌, length, take, length-take, refl, ap, arith}
use Rattle.satp_drill_command.specs.Drilling.{schedule_form}
use Rattle.satp_outcome.proofs.Ends.{IsWhole}

take_short : (n : ℕ) (xs : List ℕ) → length xs ≤ n → take n xs ≡ xs
take_short zero [] h = refl
take_short (suc n) [] h = refl
take_short zero (x ∷ xs) h = absurd (omega arith)
take_short (suc n) (x ∷ xs) h = let less : length xs ≤ n = omega arith in ap (λ ys. x ∷ ys) (take_short n xs less)

short : (n : ℕ) (bytes : List ℕ) → length (take (n + 1) bytes) ≤ n → take (n + 1) bytes ≡ bytes
short n bytes h = take_short (n + 1) bytes (omega (arith, length-take (n + 1) bytes, h))

long : (n : ℕ) (bytes : List ℕ) → n < length (take (n + 1) bytes) → n < length bytes
long n bytes h = omega (arith, length-take (n + 1) bytes, h)

pub schedule_whole : IsWhole schedule_form
schedule_whole = record { short = short schedule_form.most; long = long schedule_form.most }
