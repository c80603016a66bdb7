-- What a chain holds.
use Rattle.std.specs.Prelude.{ℕ, zero, suc, ◌+◌, List, [], ◌∷◌, ◌++◌, map, length, slice_get, Option, Some, None, if◌then◌else◌}
use Rattle.satp_base.specs.Canonical.{kind_of}
use Rattle.satp_base.specs.Chains.{ChainOf, role_at}
use Rattle.satp_base.specs.Signatures.{own}
use Rattle.satp_base.specs.Tales.{is_whole}
use Rattle.satp_base.specs.Verdicts.{ChainState, next_message, part_of}
use Rattle.satp_base.specs.declared.name.Name.{Name}
use Rattle.satp_base.specs.declared.session.SessionId.{SessionId}
use Rattle.satp_base.specs.declared.message.Kind.{Kind}
use Rattle.satp_base.specs.declared.message.Role.{Role}
use Rattle.satp_base.specs.declared.message.Part.{Part}
use Rattle.satp_chain.specs.declared.signed.Signed.{Signed}

-- a session, and the messages of its chain with their texts
pub record Chained : Type 0 where
  pub session : SessionId
  pub recipient : Name
  pub kept : List Signed

abbrev pub parts_in : Chained → List Part
parts_in chain = map (λ signed. part_of signed.message.body) chain.kept

abbrev pub texts_in : Chained → List (List ℕ)
texts_in chain = map (λ signed. signed.text) chain.kept

abbrev pub tale_of : Chained → List Kind
tale_of chain = map (λ signed. kind_of signed.message.body) chain.kept

-- the message and the text at a place, from 1
abbrev pub entry_at : Chained → ℕ → Option Signed
entry_at chain zero = None
entry_at chain (suc n) = slice_get chain.kept n

-- whose place is next, where the session is not over
abbrev pub turn_of : Chained → Option Role
turn_of chain = if is_whole (tale_of chain) then None else Some (role_at (length chain.kept + 1))

-- the texts of the chain are those of its parts under this key
abbrev pub IsChain : Chained → List ℕ → Type 0
IsChain chain key = ChainOf chain.session chain.recipient key (parts_in chain) (texts_in chain)

-- the chain with one message more
abbrev pub pushed : Chained → Signed → Chained
pushed chain signed = record { session = chain.session; recipient = chain.recipient; kept = chain.kept ++ signed ∷ [] }

-- what the chain shows
abbrev pub state_of : Chained → ChainState
state_of chain = record { session = chain.session; recipient = chain.recipient; tale = tale_of chain; texts = texts_in chain }

-- the next message of the chain, with this part, and its text
abbrev pub next_signed : Chained → List ℕ → Part → Signed
next_signed chain key part = record { message = next_message (state_of chain) part; text = own key (next_message (state_of chain) part) }
