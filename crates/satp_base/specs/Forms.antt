-- The forms of messages: what their numbers, links, entries and kinds may be.
use Rattle.std.specs.Prelude.{◌≡◌, ℕ, ◌<◌, ◌≤◌, ◌&&◌, ◌||◌, ◌==◌, Bool, true, false, List, length, nat_le, slice_index, IsTrue, ⊤}
use Rattle.std.specs.List.{list_all}
use Rattle.satp_base.specs.Names.{is_form, is_lower, is_upper}
use Rattle.satp_base.specs.Numbers.{is_digit}
use Rattle.satp_base.specs.declared.message.Link.{Link}
use Rattle.satp_base.specs.declared.message.Kind.{Kind}
use Rattle.satp_base.specs.declared.message.Kind.TheVariants.{TransferProposal, Reject, Recover, RecoverUpdate, RecoverSuccess}
use Rattle.satp_base.specs.declared.message.Part.{Part}
use Rattle.satp_base.specs.declared.message.Part.TheVariants as part
use Rattle.satp_base.specs.declared.message.Body.{Body}
use Rattle.satp_base.specs.declared.message.Body.TheVariants as body
use Rattle.satp_base.specs.declared.message.Message.{Message}

-- 32 bytes
pub record IsLink (link : Link) : Type 0 where
  pub bytes : (i : ℕ) → slice_index link.0 i < 256
  pub long : length link.0 ≡ 32

pub record IsPlace (place : ℕ) : Type 0 where
  pub low : 1 ≤ place
  pub high : place ≤ 11

-- letters, digits, -, _ and the full stop
abbrev pub is_entry_byte : ℕ → Bool
is_entry_byte b = is_upper b || is_lower b || is_digit b || (b == 45) || (b == 95) || (b == 46)

-- 1 to 2,048 of them
abbrev pub is_entry : List ℕ → Bool
is_entry = is_form 2048 is_entry_byte

-- at most two
abbrev pub are_entries : List (List ℕ) → Bool
are_entries entries = nat_le (length entries) 2 && list_all is_entry entries

-- a kind of the chain that says nothing but its place
abbrev pub is_plain : Kind → Bool
is_plain TransferProposal = false
is_plain Reject = false
is_plain Recover = false
is_plain RecoverUpdate = false
is_plain RecoverSuccess = false
is_plain _ = true

abbrev pub IsPart : Part → Type 0
IsPart (part.Proposal terms) = ⊤
IsPart (part.Plain kind) = IsTrue (is_plain kind)
IsPart (part.Reject reason) = ⊤

abbrev pub IsBody : Body → Type 0
IsBody (body.Chain place previous part) = IsPlace place × IsPart part
IsBody (body.Recover n last) = n ≤ 11
IsBody (body.Update n entries) = (n ≤ 11) × IsTrue (are_entries entries)
IsBody (body.Success n last) = n ≤ 11

abbrev pub HasLink : Body → Type 0
HasLink (body.Chain place previous part) = IsLink previous
HasLink (body.Recover n last) = IsLink last
HasLink (body.Update n entries) = ⊤
HasLink (body.Success n last) = IsLink last

-- what a message has to meet to have a text
abbrev pub IsFormed : Message → Type 0
IsFormed m = IsBody m.body

-- its forms, and links of 32 bytes, which every link that a program holds has
abbrev pub IsMessage : Message → Type 0
IsMessage m = IsBody m.body × HasLink m.body
