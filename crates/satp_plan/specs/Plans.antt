-- Every record that may come due in a session, whatever the ledger answers, and what is made of it in advance.
use Rattle.std.specs.Prelude.{◌≡◌, ℕ, zero, suc, List, [], ◌∷◌, ◌++◌, map, Contains, Option, Some, None}
use Rattle.std.specs.List.{All}
use Rattle.satp_base.specs.Acts.{MayAnswer}
use Rattle.satp_base.specs.Canonical.{part_kind}
use Rattle.satp_base.specs.Chains.{made_part}
use Rattle.satp_base.specs.Forms.{IsPart}
use Rattle.satp_base.specs.Roles.{after_of, next_of}
use Rattle.satp_base.specs.Views.{push}
use Rattle.satp_base.specs.declared.ledger.Answer.{Answer}
use Rattle.satp_base.specs.declared.ledger.LedgerOp.{LedgerOp}
use Rattle.satp_base.specs.declared.message.Kind.{Kind}
use Rattle.satp_base.specs.declared.message.Part.{Part}
use Rattle.satp_base.specs.declared.record.Next.TheVariants.{Append, Act}
use Rattle.satp_base.specs.declared.record.Rec.{Rec}
use Rattle.satp_base.specs.declared.record.Rec.TheVariants.{Made}
use Rattle.satp_base.specs.declared.session.SessionId.{SessionId}
use Rattle.satp_base.specs.declared.view.View.{View}
use Rattle.satp_chain.specs.Chained.{Chained, next_signed, pushed, texts_in}
use Rattle.satp_chain.specs.Verdicts.{Follows}
use Rattle.satp_chain.specs.declared.signed.Signed.{Signed}
use Rattle.satp_log.specs.Journals.{payload_in}
use Rattle.satp_sides.specs.Due.{due_text}
use Rattle.satp_sides.specs.Points.{Party, Slot, Stored, recipient_at, stored}
use Rattle.satp_plan.specs.declared.planning.Making.{Making}
use Rattle.satp_plan.specs.declared.planning.Note.{Note}

-- ---- what a plan has

-- its records without a message, and its messages
pub record PlanState : Type 0 where
  pub notes : List Note
  pub makings : List Making

abbrev pub recs_in : PlanState → List Rec
recs_in plan = map (λ (note : Note). note.rec) plan.notes

abbrev pub parts_in : PlanState → List Part
parts_in plan = map (λ (making : Making). making.part) plan.makings

-- this record, which has no message
abbrev pub HasNote : PlanState → Rec → Type 0
HasNote plan r = Contains (recs_in plan) r

-- a message with this part
abbrev pub HasMaking : PlanState → Part → Type 0
HasMaking plan part = Contains (parts_in plan) part

-- ---- every record that may come due

-- A record that is due is among these, or, if it is a message that the side makes, its part is: a side says what it has decided.
abbrev pub IsAmong : List Rec → List Part → View → Rec → Type 0
IsAmong recs parts v (Made kind) = Contains parts (made_part v.way kind)
IsAmong recs parts v r = Contains recs r

-- What is due next is among these, and so is the record after each answer that an operation which is due may have. `Later` holds after each of them.
pub record IsNextAmong (recs : List Rec) (parts : List Part) (v : View) (Later : View → Type 0) : Type 0 where
  pub append : (r : Rec) → next_of v.role v ≡ Append r → IsAmong recs parts v r × Later (push v r)
  pub act : (op : LedgerOp) (answer : Answer) → next_of v.role v ≡ Act op → MayAnswer op answer → Contains recs (after_of op answer) × Later (push v (after_of op answer))

-- within so many turns
abbrev pub AreAmong : ℕ → List Rec → List Part → View → Type 0
AreAmong zero recs parts v = Unit {0}
AreAmong (suc n) recs parts v = IsNextAmong recs parts v (AreAmong n recs parts)

-- the plan has every record that may come due within so many turns, whatever the ledger answers
abbrev pub Covers : ℕ → PlanState → View → Type 0
Covers n plan v = AreAmong n (recs_in plan) (parts_in plan) v

-- ---- what is made of it

-- the chain after a message that a call has taken, if it has
abbrev pub after_taken : Chained → Option Signed → Chained
after_taken chain None = chain
after_taken chain (Some signed) = pushed chain signed

-- the payload of its record in the journal
abbrev pub IsNoteOf : SessionId → Note → Type 0
IsNoteOf s note = note.payload ≡ payload_in (stored s note.rec [])

-- the record of a message that the side makes
abbrev pub made_record : SessionId → Making → Stored
made_record s making = stored s (Made (part_kind making.part)) making.signed.text

-- the chain's next message with its part, the payload of its record in the journal, and its text once more
pub record IsMakingOf (s : SessionId) (chain : Chained) (key : List ℕ) (making : Making) : Type 0 where
  pub formed : IsPart making.part
  pub next : making.signed ≡ next_signed chain key making.part
  pub follows : Follows chain making.signed
  pub payload : making.payload ≡ payload_in (made_record s making)
  pub reply : making.reply ≡ making.signed.text

-- all that the plan has is so made
pub record IsPlanOf (s : SessionId) (chain : Chained) (key : List ℕ) (plan : PlanState) : Type 0 where
  pub notes : All (IsNoteOf s) plan.notes
  pub makings : All (IsMakingOf s chain key) plan.makings

-- ---- taking a message out

-- Some: it is taken out, and the rest stays. None: the plan has none with this part.
abbrev pub TakesOut : PlanState → PlanState → Part → Option Making → Type 0
TakesOut old new part (Some making) =
    (before after : List Making) × (old.makings ≡ before ++ making ∷ after) × (new ≡ record { notes = old.notes; makings = before ++ after }) × (making.part ≡ part)
TakesOut old new part None = (HasMaking old part → ⊥) × (new ≡ old)

-- ---- what follows

-- The records of a plan are those that are due: a note has no text, and a message the text that is due of its part.
pub record DueIsPlanned : Type 0 where
  pub note : (p : Party) (s : SessionId) (l : Slot) (r : Rec) → ((kind : Kind) → r ≡ Made kind → ⊥) → stored s r (due_text p s l r) ≡ stored s r []
  pub making : (p : Party) (s : SessionId) (chain : Chained) (l : Slot) (kind : Kind) (making : Making)
      → chain.session ≡ s → chain.recipient ≡ recipient_at p l.view.role → l.texts ≡ texts_in chain → IsMakingOf s chain p.key making → making.part ≡ made_part l.view.way kind
      → stored s (Made kind) (due_text p s l (Made kind)) ≡ made_record s making
