-- What holds of due work, over every view, however it came about.
use Rattle.std.specs.Prelude.{◌≡◌, ◌⊎◌, ℕ, ◌+◌, ◌≤◌, true, List, [], ◌∷◌, Some}
use Rattle.satp_base.specs.LedgerRule.{entry_of, operation}
use Rattle.satp_base.specs.Money.{Book}
use Rattle.satp_base.specs.Roles.{next_of}
use Rattle.satp_base.specs.Views.{push}
use Rattle.satp_base.specs.declared.ledger.Answer.{Answer}
use Rattle.satp_base.specs.declared.ledger.LedgerOp.{LedgerOp}
use Rattle.satp_base.specs.declared.message.Kind.{Kind}
use Rattle.satp_base.specs.declared.message.Role.{Role}
use Rattle.satp_base.specs.declared.message.Role.TheVariants.{Origin, Recipient}
use Rattle.satp_base.specs.declared.record.Next.{Next}
use Rattle.satp_base.specs.declared.record.Next.TheVariants.{Append, Act, Wait, Ended}
use Rattle.satp_base.specs.declared.record.Rec.TheVariants.{Made}
use Rattle.satp_base.specs.declared.session.SessionId.{SessionId}
use Rattle.satp_base.specs.declared.view.View.{View}
use Rattle.satp_sides.specs.Due.{due, due_within, most_turns}
use Rattle.satp_sides.specs.Halves.{OriginStands, RecipientStands, half}
use Rattle.satp_sides.specs.Points.{Move, Appends, Acts, Says, Party, Slot}

-- nothing is due
abbrev pub Rests : Next → Type 0
Rests n = (n ≡ Wait) ⊎ (n ≡ Ended)

-- after due work that was in order nothing is due
abbrev pub DueRests : Type 0
DueRests =
    (p : Party) (s : SessionId) (l : Slot) (b : Book)
    → (due p s l b).in_order ≡ true → Rests (next_of (due p s l b).slot.view.role (due p s l b).slot.view)

-- more turns give no more work
abbrev pub TurnsAreEnough : Type 0
TurnsAreEnough = (n : ℕ) (p : Party) (s : SessionId) (l : Slot) (b : Book) → most_turns ≤ n → due_within n p s l b ≡ due p s l b

abbrev pub appends_in : List Move → ℕ
appends_in [] = 0
appends_in (Appends x ∷ ms) = 1 + appends_in ms
appends_in (Acts s op terms ∷ ms) = appends_in ms
appends_in (Says t ∷ ms) = appends_in ms

abbrev pub acts_in : List Move → ℕ
acts_in [] = 0
acts_in (Appends x ∷ ms) = acts_in ms
acts_in (Acts s op terms ∷ ms) = 1 + acts_in ms
acts_in (Says t ∷ ms) = acts_in ms

-- at most three records and two operations, so that a call with a first record stores at most four
abbrev pub DueIsShort : Type 0
DueIsShort = (p : Party) (s : SessionId) (l : Slot) (b : Book) → (appends_in (due p s l b).moves ≤ 3) × (acts_in (due p s l b).moves ≤ 2)

-- after a message that was due nothing is due
abbrev pub MadeRests : Type 0
MadeRests = (role : Role) (v : View) (kind : Kind) → next_of role v ≡ Append (Made kind) → Rests (next_of role (push v (Made kind)))

-- the ledger answers the operation, and it isn't out of order
abbrev pub IsAnswered : Book → LedgerOp → SessionId → View → Type 0
IsAnswered b op s v = (a : Answer) × ((operation b op s v.terms).answer ≡ Some a)

-- What is due is answered on each entry that can stand beside the view.
abbrev pub DueIsAnswered : Type 0
DueIsAnswered =
    ((s : SessionId) (v : View) (b : Book) (op : LedgerOp) → OriginStands (half v (entry_of b.entries s)) → next_of Origin v ≡ Act op → IsAnswered b op s v)
    × ((s : SessionId) (v : View) (b : Book) (op : LedgerOp) → RecipientStands (half v (entry_of b.entries s)) → next_of Recipient v ≡ Act op → IsAnswered b op s v)
