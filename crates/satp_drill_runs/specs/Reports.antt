-- What a drill reports: the sessions that its schedule names, by what both gateways keep at its end.
use Rattle.std.specs.Prelude.{◌≡◌, ℕ, ◌+◌, ◌-◌, nat_le, Bool, true, false, not, List, [], ◌∷◌, ◌++◌, codes, filter, is_some, length, replicate, IsTrue, Option, Some, None, if◌then◌else◌}
use Rattle.std.proofs.Common.{refl}
use Rattle.std.proofs.lemmas.Bool.{and_parts, leb-true}
use Rattle.satp_base.specs.Founding.{equal_names}
use Rattle.satp_base.specs.Money.{Book, free_sum_of}
use Rattle.satp_base.specs.Names.{holds_name}
use Rattle.satp_base.specs.Numbers.{greatest_number}
use Rattle.satp_base.specs.Tales.{is_committed, is_rolled_back}
use Rattle.satp_base.specs.declared.message.Kind.{Kind}
use Rattle.satp_base.specs.declared.name.Name.{Name}
use Rattle.satp_base.specs.declared.session.SessionId.{SessionId}
use Rattle.satp_schedule.specs.Lines.{is_count}
use Rattle.satp_schedule.specs.declared.line.Line.{Line}
use Rattle.satp_schedule.specs.declared.line.Line.TheVariants.{Start}
use Rattle.satp_schedule.specs.declared.line.Side.{Side}
use Rattle.satp_schedule.specs.declared.line.Side.TheVariants.{A, B}
use Rattle.satp_sides.specs.Points.{Stored, is_session, tale_of, view_in}

-- ---- names

-- a name is kept in 32 bytes, zeros after its own
abbrev kept_in_32 : List ℕ → List ℕ
kept_in_32 text = text ++ replicate (32 - length text) 0

abbrev named : (text : List ℕ) → IsTrue (holds_name (length text) (kept_in_32 text)) → Name
named text valid = record { bytes = kept_in_32 text; count = length text; valid = valid }

-- the gateways of side A and side B
abbrev pub alpha : Name
alpha = named (codes "alpha") refl

abbrev pub beta : Name
beta = named (codes "beta") refl

abbrev pub name_of : Side → Name
name_of A = alpha
name_of B = beta

-- the asset whose free amounts are summed
abbrev pub gold : Name
gold = named (codes "gold") refl

-- who holds it first, on the ledger of A and on that of B
abbrev pub ann : Name
ann = named (codes "ann") refl

abbrev pub bob : Name
bob = named (codes "bob") refl

-- ---- sessions

abbrev pub session_if : Name → (number : ℕ) → (counts : Bool) → is_count number ≡ counts → Option SessionId
session_if gateway number true counts = Some (record { gateway = gateway; number = number; low = leb-true 1 number (and_parts (nat_le 1 number) (nat_le number greatest_number) counts).0; high = leb-true number greatest_number (and_parts (nat_le 1 number) (nat_le number greatest_number) counts).1 })
session_if gateway number false counts = None

-- the session of this number that the side starts, where a session has such a number
abbrev pub started : Side → ℕ → Option SessionId
started side number = session_if (name_of side) number (is_count number) refl

-- which session a line starts
abbrev pub session_of : Line → Option SessionId
session_of (Start side number asset amount originator beneficiary) = started side number
session_of line = None

abbrev pub and_before : Option SessionId → List SessionId → List SessionId
and_before None sessions = sessions
and_before (Some s) sessions = s ∷ filter (λ t. not (is_session s t)) sessions

-- the different sessions that lines start, in the order of their first lines
abbrev pub sessions_of : List Line → List SessionId
sessions_of [] = []
sessions_of (line ∷ lines) = and_before (session_of line) (sessions_of lines)

-- the side whose gateway starts the session
abbrev pub origin_of : SessionId → Side
origin_of s = if equal_names s.gateway alpha then A else B

-- ---- the report

-- the first or the second, by the side
abbrev pub of_side : {X : Type 0} → Side → X → X → X
of_side A a b = a
of_side B a b = b

-- the kinds of the session's chain, by the records of its origin
abbrev pub tale_at : List Stored → List Stored → SessionId → List Kind
tale_at a b s = tale_of (view_in s (of_side (origin_of s) a b))

-- a record of its origin names the session
abbrev pub is_begun : List Stored → List Stored → SessionId → Bool
is_begun a b s = is_some (view_in s (of_side (origin_of s) a b))

abbrev pub count_of : (SessionId → Bool) → List SessionId → ℕ
count_of test sessions = length (filter test sessions)

pub record Reported : Type 0 where
  pub sessions : ℕ
  pub committed : ℕ
  pub rolled_back : ℕ
  pub not_begun : ℕ
  pub free_gold : ℕ

-- The sessions that the lines start are counted by the records of their origins, those of A and those of B. The gold that is free is that of both ledgers.
unfoldable pub report_of : List Line → List Stored → List Stored → Book → Book → Reported
report_of lines a b ledger_a ledger_b =
    let sessions = sessions_of lines in
    record {
      sessions = length sessions;
      committed = count_of (λ s. is_committed (tale_at a b s)) sessions;
      rolled_back = count_of (λ s. is_rolled_back (tale_at a b s)) sessions;
      not_begun = count_of (λ s. not (is_begun a b s)) sessions;
      free_gold = free_sum_of ledger_a gold + free_sum_of ledger_b gold;
    }
