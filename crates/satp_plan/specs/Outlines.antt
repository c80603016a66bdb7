-- Collecting what may come due: helpers of the code.
use Rattle.std.specs.Prelude.{◌≡◌, ℕ, List, [], ◌∷◌, ◌++◌, map, Contains, Option, Some, None, IsTrue, slice_get}
use Rattle.std.specs.List.{All}
use Rattle.satp_base.specs.Acts.{MayAnswer}
use Rattle.satp_base.specs.Canonical.{part_kind}
use Rattle.satp_base.specs.Chains.{made_part}
use Rattle.satp_base.specs.Forms.{IsPart}
use Rattle.satp_base.specs.Roles.{after_of}
use Rattle.satp_base.specs.Tales.{IsTale}
use Rattle.satp_base.specs.Views.{push}
use Rattle.satp_base.specs.declared.ledger.Answer.{Answer}
use Rattle.satp_base.specs.declared.ledger.LedgerOp.{LedgerOp}
use Rattle.satp_base.specs.declared.message.Kind.{Kind}
use Rattle.satp_base.specs.declared.message.Part.{Part}
use Rattle.satp_base.specs.declared.record.Cause.TheVariants.{UnknownAsset, MintCapped, LedgerTaken}
use Rattle.satp_base.specs.declared.record.Rec.{Rec}
use Rattle.satp_base.specs.declared.record.Rec.TheVariants.{Chose}
use Rattle.satp_base.specs.declared.record.Way.TheVariants.{Back}
use Rattle.satp_base.specs.declared.view.View.{View}
use Rattle.satp_records.specs.Formats.{is_answer}
use Rattle.satp_sides.specs.Logs.{IsNote}
use Rattle.satp_plan.specs.Plans.{AreAmong}
use Rattle.satp_plan.specs.declared.outline.Outline.{Outline}

-- a message with this part, which is no proposal, can be the next one after this tale
abbrev pub FitsTale : List Kind → Part → Type 0
FitsTale tale part = IsPart part × IsTale (tale ++ part_kind part ∷ []) × IsTrue (is_answer (part_kind part))

-- what was there stays, and what has come fits too
pub record Grows (tale : List Kind) (old new : Outline) : Type 0 where
  pub recs : (r : Rec) → Contains old.recs.items r → Contains new.recs.items r
  pub parts : (part : Part) → Contains old.parts.items part → Contains new.parts.items part
  pub notes : All IsNote old.recs.items → All IsNote new.recs.items
  pub fitting : All (FitsTale tale) old.parts.items → All (FitsTale tale) new.parts.items

-- what may come due within so many turns is there
abbrev pub AddsTurns : ℕ → View → Outline → Outline → Type 0
AddsTurns n v old new = Grows v.tale old new × AreAmong n new.recs.items new.parts.items v

abbrev pub AddsPart : View → Kind → Outline → Outline → Type 0
AddsPart v kind old new = Grows v.tale old new × Contains new.parts.items (made_part v.way kind)

-- the record is there, and so is what may come due within so many turns after it
abbrev pub HasTurns : ℕ → View → Rec → Outline → Type 0
HasTurns n v r new = Contains new.recs.items r × AreAmong n new.recs.items new.parts.items (push v r)

abbrev pub AddsRec : ℕ → View → Rec → Outline → Outline → Type 0
AddsRec n v r old new = Grows v.tale old new × HasTurns n v r new

-- the same after each answer that the operation may have
abbrev pub AddsAnswers : ℕ → View → LedgerOp → Outline → Outline → Type 0
AddsAnswers n v op old new = Grows v.tale old new × ((answer : Answer) → MayAnswer op answer → HasTurns n v (after_of op answer) new)

abbrev pub AddsMintRefused : ℕ → View → Outline → Outline → Type 0
AddsMintRefused n v old new =
    Grows v.tale old new × HasTurns n v (Chose (Back UnknownAsset)) new × HasTurns n v (Chose (Back MintCapped)) new × HasTurns n v (Chose (Back LedgerTaken)) new

-- the index of an element with this value, or that there is none
abbrev pub IsIndexOf : {A B : Type 0} → (A → B) → List A → B → Option ℕ → Type 0
IsIndexOf {A} f xs y (Some index) = (x : A) × (slice_get xs index ≡ Some x) × (f x ≡ y)
IsIndexOf f xs y None = Contains (map f xs) y → ⊥
