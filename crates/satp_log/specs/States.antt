-- Which records come next, by what a gateway holds in memory of a session.
use Rattle.std.specs.Prelude.{◌≡◌, ℕ, List, [], ◌∷◌, ◌++◌, Option, Some, None}
use Rattle.satp_base.specs.Canonical.{kind_of, part_kind}
use Rattle.satp_base.specs.Chains.{made_part, next_text}
use Rattle.satp_base.specs.Forms.{IsPart}
use Rattle.satp_base.specs.Roles.{RoleRule}
use Rattle.satp_base.specs.Signatures.{own}
use Rattle.satp_base.specs.Tales.{IsTale}
use Rattle.satp_base.specs.declared.message.Kind.{Kind}
use Rattle.satp_base.specs.declared.message.Part.{Part}
use Rattle.satp_base.specs.declared.record.Rec.{Rec}
use Rattle.satp_base.specs.declared.record.Way.{Way}
use Rattle.satp_base.specs.declared.record.Rec.TheVariants.{Took, Made}
use Rattle.satp_base.specs.declared.session.SessionId.{SessionId}
use Rattle.satp_chain.specs.Chained.{next_signed, state_of, tale_of}
use Rattle.satp_chain.specs.Verdicts.{Follows}
use Rattle.satp_chain.specs.declared.signed.Signed.{Signed}
use Rattle.satp_sides.specs.Logs.{IsNote}
use Rattle.satp_sides.specs.Points.{Party, Stored, chain_in, recipient_at}
use Rattle.satp_log.specs.Folding.{AddsOne, IsNextOf, IsSound, IsStateOf, State, state_with, text_with}

-- Two states of a session by the same records have the same view, and their chains show the same.
abbrev pub OneState : Type 0
OneState =
    (p : Party) (s : SessionId) (xs : List Stored) (a b : State) → IsStateOf p s xs a → IsStateOf p s xs b
    → (a.view ≡ b.view) × (state_of a.chain ≡ state_of b.chain)

-- The next text of its chain is that of the records.
abbrev pub TextsAreTheRecords : Type 0
TextsAreTheRecords =
    (p : Party) (s : SessionId) (xs : List Stored) (state : State) (part : Part) → IsStateOf p s xs state
    → (next_signed state.chain p.key part).text ≡ next_text s (recipient_at p state.view.role) p.key (chain_in s xs) part

-- A record without a message comes next where the role's rule allows it.
abbrev pub NotesAreNext : Type 0
NotesAreNext = (state : State) (key : List ℕ) (r : Rec) → RoleRule state.view.role state.view r → IsNote r → IsNextOf state key r None

-- The chain's next message with a formed part comes next where the role's rule allows to make its kind.
abbrev pub MadeAreNext : Type 0
MadeAreNext =
    (state : State) (key : List ℕ) (part : Part) → IsSound state.view state.chain → RoleRule state.view.role state.view (Made (part_kind part)) → IsPart part
    → IsNextOf state key (Made (part_kind part)) (Some (next_signed state.chain key part))

-- What a side that has decided so makes of a kind fits its chain: with it the chain's kinds are a tale, its part is formed, and it comes next.
pub record MadeFits (state : State) (key : List ℕ) (way : Option Way) (kind : Kind) : Type 0 where
  pub kind_is : part_kind (made_part way kind) ≡ kind
  pub tale : IsTale (tale_of state.chain ++ part_kind (made_part way kind) ∷ [])
  pub formed : IsPart (made_part way kind)
  pub next : IsNextOf state key (Made kind) (Some (next_signed state.chain key (made_part way kind)))

-- So does each kind that the role's rule allows to make.
abbrev pub AllowedFit : Type 0
AllowedFit = (state : State) (key : List ℕ) (way : Option Way) (kind : Kind) → IsSound state.view state.chain → RoleRule state.view.role state.view (Made kind) → MadeFits state key way kind

-- A message that the chain takes next, with its own text, comes next where the role's rule allows to take its kind.
abbrev pub TakenAreNext : Type 0
TakenAreNext =
    (state : State) (key : List ℕ) (signed : Signed) → RoleRule state.view.role state.view (Took (kind_of signed.message.body)) → Follows state.chain signed
    → signed.text ≡ own key signed.message → IsNextOf state key (Took (kind_of signed.message.body)) (Some signed)

-- The record that comes next may come, and with it the state is that of the records.
abbrev pub StatesGoOn : Type 0
StatesGoOn =
    (p : Party) (s : SessionId) (xs : List Stored) (state : State) (r : Rec) (message : Option Signed) → IsStateOf p s xs state → IsNextOf state p.key r message
    → AddsOne p s xs r (text_with message) (state_with state r message)
