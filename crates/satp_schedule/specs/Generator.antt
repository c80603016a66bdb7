-- A schedule from a number: the fields of its lines, by the draws that they are made of.
use Rattle.std.specs.Prelude.{ℕ, zero, suc, ◌+◌, ◌*◌, ◌/◌, ◌%◌, ◌^◌, ◌==◌, Bool, List, [], ◌∷◌, ◌++◌, if◌then◌else◌, codes, decimal}

-- a draw changes the state
abbrev pub next : ℕ → ℕ
next x = (x * 6364136223846793005 + 1442695040888963407) % 2 ^ 64

-- and gives this number of the state that it leaves
abbrev pub drawn : ℕ → ℕ
drawn x = x / 2 ^ 33

abbrev pub is_even : ℕ → Bool
is_even n = n % 2 == 0

-- side A by an even draw
abbrev pub side_by : ℕ → List ℕ
side_by n = if is_even n then codes "A" else codes "B"

-- the fields of some lines, and the state behind the draws that they took
pub record Lines : Type 0 where
  pub lines : List (List (List ℕ))
  pub state : ℕ

abbrev pub no_line : ℕ → Lines
no_line x = record { lines = []; state = x }

abbrev pub one_line : List (List ℕ) → ℕ → Lines
one_line line x = record { lines = line ∷ []; state = x }

-- what goes wrong in the next command, by a draw modulo 4: a stop, a loss, a repeat or nothing
abbrev pub trouble : ℕ → ℕ → Lines
trouble kind x =
    if kind == 1 then one_line (codes "stop" ∷ side_by (drawn (next x)) ∷ decimal (1 + drawn (next (next x)) % 60) ∷ decimal (drawn (next (next (next x))) % 8) ∷ []) (next (next (next x)))
    else (if kind == 2 then one_line (codes "lose" ∷ decimal (1 + drawn (next x) % 11) ∷ []) (next x)
    else (if kind == 3 then one_line (codes "twice" ∷ decimal (1 + drawn (next x) % 11) ∷ []) (next x) else no_line x))

-- a round with a stop, by an even draw, ends in an abort of its session
abbrev pub abort : ℕ → List ℕ → ℕ → Lines
abort kind session x =
    if kind == 1 then (if is_even (drawn (next x)) then one_line (codes "abort" ∷ side_by (drawn (next (next x))) ∷ session ∷ []) (next (next x)) else no_line (next x))
    else no_line x

-- each tenth round hands an old text over once more
abbrev pub repeat : ℕ → ℕ → Lines
repeat i x =
    if i % 10 == 0 then one_line (codes "deliver" ∷ side_by (drawn (next x)) ∷ decimal (1 + drawn (next (next x)) % (5 * i)) ∷ []) (next (next x))
    else no_line x

-- the number that the starter of round i gives to its session
abbrev pub number_in : ℕ → ℕ
number_in i = (i + 1) / 2

-- side A, which is gateway alpha, starts in rounds of odd number, side B, which is beta, in the others
abbrev pub start : ℕ → ℕ → List (List ℕ)
start i amount =
    if is_even i then codes "start" ∷ codes "B" ∷ decimal (number_in i) ∷ codes "gold" ∷ decimal amount ∷ codes "bob" ∷ codes "ann" ∷ []
    else codes "start" ∷ codes "A" ∷ decimal (number_in i) ∷ codes "gold" ∷ decimal amount ∷ codes "ann" ∷ codes "bob" ∷ []

abbrev pub session_in : ℕ → List ℕ
session_in i = (if is_even i then codes "beta" else codes "alpha") ++ 46 ∷ decimal (number_in i)

-- a round from a state on: the draws are the amount, the kind of trouble, and those of each part in turn
unfoldable pub round : ℕ → ℕ → Lines
round i x =
    let amount = 1 + drawn (next x) % 100 in
    let kind = drawn (next (next x)) % 4 in
    let wrong = trouble kind (next (next x)) in
    let aborted = abort kind (session_in i) wrong.state in
    let again = repeat i aborted.state in
    record { lines = wrong.lines ++ start i amount ∷ aborted.lines ++ again.lines; state = again.state }

-- so many rounds from round i on
unfoldable pub rounds : ℕ → ℕ → ℕ → List (List (List ℕ))
rounds zero i x = []
rounds (suc n) i x = (round i x).lines ++ rounds n (i + 1) (round i x).state

-- two hundred rounds from a seed
unfoldable pub generated : ℕ → List (List (List ℕ))
generated seed = rounds 200 1 seed
