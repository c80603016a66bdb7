-- What waits leaves room, and a request takes some.
use Rattle.std.proofs.Common.{◌≡◌, ℕ, ◌<◌, ◌≤◌, inl, inr, Bool, true, false, List, [], ◌∷◌, ◌++◌, length, take, refl, ap, arith, Some, None, cond}
use Rattle.std.proofs.lemmas.List.{length-append}
use Rattle.std.proofs.lemmas.Bool.Decides.{nat_tests}
use Rattle.std.specs.Prelude.{nat_lt}
use Rattle.satp_http.specs.declared.fault.HttpFault.{HttpFault}
use Rattle.satp_http.specs.declared.fault.HttpFault.TheVariants as fault
use Rattle.satp_http.specs.Heads.{client, head_bytes, room}
use Rattle.satp_http.specs.Table.{RequestParts, request_parts, request_table, first_fault, request_length}
use Rattle.satp_http.specs.HttpText.{IsUnfinished, Sent, sent_bytes}
use Rattle.satp_http.proofs.TakeLemmas.{some_bytes}

-- where no row holds, the last does not
last_row : (rows : List (Bool × HttpFault)) (row : Bool × HttpFault) → first_fault (rows ++ row ∷ []) ≡ None → row.0 ≡ false
last_row [] row = by_test row.0
  where
    by_test : (t : Bool) → cond t (Some row.1) None ≡ None → t ≡ false
    by_test true e = cc
    by_test false e = refl
last_row (first ∷ rows) row = by_test first.0 (last_row rows row)
  where
    by_test : (t : Bool) → (first_fault (rows ++ row ∷ []) ≡ None → row.0 ≡ false) → cond t (Some first.1) (first_fault (rows ++ row ∷ [])) ≡ None → row.0 ≡ false
    by_test true later e = cc
    by_test false later e = later e

short : (n : ℕ) → nat_lt 8192 n ≡ false → n ≤ 8192
short n e = grind (arith, nat_tests)

-- a head without a fault has a short body
pub body_short : (p : RequestParts) → first_fault (request_table p) ≡ None → request_length p ≤ 8192
body_short p clean = short (request_length p) (last_row (take 10 (request_table p)) (nat_lt 8192 (request_length p), fault.BodyLong (request_length p)) clean)

pub leaves_room : (bytes : List ℕ) → IsUnfinished client 0 bytes → length bytes < room
leaves_room bytes = elim [
  | inl part ↦ omega (arith, part.short)
  | inr waits ↦ omega (arith, ap length waits.1.bytes_are, length-append (head_bytes client waits.0) waits.1.rest, waits.1.head_is.short, waits.1.less, body_short (request_parts waits.0) waits.1.clean)
]

pub request_some : (old new : List ℕ) (s : Sent client) → old ≡ sent_bytes client s ++ new → length new < length old
request_some old new s e = omega (arith, ap length e, length-append (sent_bytes client s) new, length-append (head_bytes client s.head) s.body, some_bytes client s.head)
