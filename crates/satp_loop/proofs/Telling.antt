-- What the wire tells after bytes were heard or said.
use Rattle.std.proofs.Common.{◌≡◌, ◌≤◌, ℕ, zero, suc, ◌+◌, ◌-◌, ◌==◌, Bool, true, false, ◌||◌, ◌&&◌, List, [], ◌∷◌, ◌++◌, length, take, drop, refl, sym, ap, arith, length-append}
use Rattle.std.specs.Prelude.{nat_lt}
use Rattle.std.proofs.lemmas.List.{append-nil, take-append-le}
use Rattle.std.proofs.Math.Seq.{take-append_seam}
use Rattle.satp_base.specs.Wires.{hears, says}
use Rattle.satp_loop.specs.Lines.{Lining, hearing, saying, traffic_of, wanting}

take_none : (n : ℕ) → take {A = ℕ} n [] ≡ []
take_none zero = refl
take_none (suc n) = refl

take_then : (p n : ℕ) (l : List ℕ) → take (p + n) l ≡ take p l ++ take n (drop p l)
take_then zero n l = let one : 0 + n ≡ n = omega arith in rw one refl
take_then (suc p) n [] = let one : suc p + n ≡ suc (p + n) = omega arith in rw one (sym (take_none n))
take_then (suc p) n (x ∷ xs) = let one : suc p + n ≡ suc (p + n) = omega arith in rw one (ap (λ (l : List ℕ). x ∷ l) (take_then p n xs))

or_false : (b : Bool) → (b || false) ≡ b
or_false true = refl
or_false false = refl

pub hears_told : (line : Lining) (answers into : List ℕ) (n room : ℕ) → line.is_open ≡ true → take n into ≡ take n (drop line.place answers)
    → traffic_of (hearing n room line) answers ≡ hears (take n into) ((n == 0) && nat_lt 0 room) (traffic_of line answers)
hears_told line answers into n room opened bytes = rw (opened, bytes, take_then line.place n answers, append-nil line.said) refl

pub says_told : (line : Lining) (answers more piece : List ℕ) → line.is_open ≡ true → line.place ≤ length answers
    → traffic_of (saying piece line) (answers ++ more) ≡ says piece (traffic_of line answers)
says_told line answers more piece opened within = rw (opened, take-append-le line.place answers more within, append-nil (take line.place answers), or_false line.ended) refl

-- what was taken back isn't told
taken_back : (said piece : List ℕ) → take (length (said ++ piece) - length piece) (said ++ piece) ≡ said
taken_back said piece = let e : length (said ++ piece) - length piece ≡ length said = omega (arith, length-append said piece) in rw e (take-append_seam said piece)

abbrev pub back : Lining → List ℕ → Lining
back line piece = wanting (record line { said = take (length (line.said ++ piece) - length piece) (line.said ++ piece) })

pub back_is : (line : Lining) (piece : List ℕ) → back line piece ≡ wanting line
back_is line piece = rw (taken_back line.said piece) refl

pub misses_told : (line : Lining) (answers more : List ℕ) → line.place ≤ length answers → traffic_of (wanting line) (answers ++ more) ≡ traffic_of line answers
misses_told line answers more within = rw (take-append-le line.place answers more within) refl
