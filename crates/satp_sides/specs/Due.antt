-- Due work: the moves that a role's table gives, with the ledger's answers, until nothing is due or an operation is out of order.
use Rattle.std.specs.Prelude.{ℕ, zero, suc, Bool, true, false, List, [], ◌∷◌, ◌++◌, Option, Some, None}
use Rattle.satp_base.specs.Chains.{made_part, next_text}
use Rattle.satp_base.specs.LedgerRule.{operation}
use Rattle.satp_base.specs.Money.{Book}
use Rattle.satp_base.specs.Roles.{after_of, next_of}
use Rattle.satp_base.specs.declared.session.SessionId.{SessionId}
use Rattle.satp_base.specs.declared.ledger.Answer.{Answer}
use Rattle.satp_base.specs.declared.ledger.LedgerOp.{LedgerOp}
use Rattle.satp_base.specs.declared.record.Next.{Next}
use Rattle.satp_base.specs.declared.record.Next.TheVariants.{Append, Act, Wait, Ended}
use Rattle.satp_base.specs.declared.record.Rec.{Rec}
use Rattle.satp_base.specs.declared.record.Rec.TheVariants.{Began, Took, Made, Did, Chose, Rescue}
use Rattle.satp_sides.specs.Points.{Move, Appends, Acts, Party, Slot, Text, noted, recipient_at, stored}

-- due work's moves, the session after them, and whether each operation was in order
pub record Due : Type 0 where
  pub moves : List Move
  pub slot : Slot
  pub in_order : Bool

abbrev pub nothing_due : Slot → Due
nothing_due l = record { moves = []; slot = l; in_order = true }

abbrev pub after_moves : List Move → Due → Due
after_moves ms d = record { moves = ms ++ d.moves; slot = d.slot; in_order = d.in_order }

-- the text of a record that is due: a message that is made is the next of its chain
abbrev pub due_text : Party → SessionId → Slot → Rec → Text
due_text p s l (Made kind) = next_text s (recipient_at p l.view.role) p.key l.texts (made_part l.view.way kind)
due_text p s l (Began role terms) = []
due_text p s l (Took kind) = []
due_text p s l (Did op) = []
due_text p s l (Chose way) = []
due_text p s l Rescue = []

-- the record after an operation's answer, and what follows; where it is out of order nothing does
abbrev pub due_answered : (Slot → Book → Due) → SessionId → Slot → Book → LedgerOp → Option Answer → Due
due_answered rest s l b op (Some a) =
    let r = after_of op a in after_moves (Acts s op l.view.terms ∷ Appends (stored s r []) ∷ []) (rest (noted l s r []) (operation b op s l.view.terms).after)
due_answered rest s l b op None = record { moves = Acts s op l.view.terms ∷ []; slot = l; in_order = false }

-- what a line of the role's table makes due, and what follows
abbrev pub due_by : (Slot → Book → Due) → Party → SessionId → Slot → Book → Next → Due
due_by rest p s l b (Append r) = after_moves (Appends (stored s r (due_text p s l r)) ∷ []) (rest (noted l s r (due_text p s l r)) b)
due_by rest p s l b (Act op) = due_answered rest s l b op (operation b op s l.view.terms).answer
due_by rest p s l b Wait = nothing_due l
due_by rest p s l b Ended = nothing_due l

-- within a number of turns
abbrev pub due_within : ℕ → Party → SessionId → Slot → Book → Due
due_within zero p s l b = nothing_due l
due_within (suc n) p s l b = due_by (due_within n p s) p s l b (next_of l.view.role l.view)

-- no due work takes more turns, as `law_due` says
abbrev pub most_turns : ℕ
most_turns = 3

unfoldable pub due : Party → SessionId → Slot → Book → Due
due p s l b = due_within most_turns p s l b
