-- The command `init`: a gateway is set up in a directory, with the genesis on the input.
use Rattle.std.specs.Prelude.{◌≡◌, ◌≢◌, ◌⊎◌, ℕ, ◌+◌, ◌<◌, ◌≤◌, List, [], ◌∷◌, ◌++◌, length, codes, Result, Ok, Err}
use Rattle.satp_base.specs.Founding.{Founding}
use Rattle.satp_base.specs.GenesisText.{AcceptsLine, most_bytes, nothing}
use Rattle.satp_base.specs.Lines.{Fails, IsLines}
use Rattle.satp_base.specs.Streams.{Rose}
use Rattle.satp_base.specs.Values.{name_text}
use Rattle.satp_base.specs.declared.address.Address.{Address}
use Rattle.satp_base.specs.declared.ledger.LedgerKind.{LedgerKind}
use Rattle.satp_base.specs.declared.lines.LinesFault.TheVariants as lines
use Rattle.satp_base.specs.declared.name.Name.{Name}
use Rattle.satp_records.specs.declared.stored.Setup.{Setup}
use Rattle.satp_points.specs.States.{Tells}
use Rattle.satp_gateway.specs.SettingUp.{IsVacant, NotVacant, VacantAnswers, plan}
use Rattle.satp_gateway.specs.declared.fault.SetUpFault.{SetUpFault}
use Rattle.satp_gateway.specs.declared.fault.SetUpFault.TheVariants as fault
use Rattle.satp_gateway_commands.specs.AtGateway.{Enters, FailsToEnter, tells_of}
use Rattle.satp_outcome.specs.Outside.{FailsToRead, OutsideState, Printed, PrintedPart, ReadPart, ReadTo, SourceState}
use Rattle.satp_outcome.specs.Streams.{IsInput}
use Rattle.satp_outcome.specs.declared.outcome.Outcome.{Outcome}
use Rattle.satp_outcome.specs.declared.outcome.InputEnd.TheVariants as input
use Rattle.satp_outcome.specs.declared.outcome.Outcome.TheVariants.{Done, Memory, InputFailed, OutputFailed, Input, Place}
use Rattle.satp_outcome.specs.declared.outcome.PlaceEnd.TheVariants as place

-- what is to be set up, and where
pub record Order : Type 0 where
  pub dir : List ℕ
  pub setup : Setup
  pub kind : LedgerKind

abbrev pub order : List ℕ → Setup → LedgerKind → Order
order dir setup kind = record { dir = dir; setup = setup; kind = kind }

abbrev pub setup_of : Name → Name → Address → List ℕ → Setup
setup_of name peer at key = record { name = name; peer = peer; at = at; key = key }

-- ---- the journal in the directory

-- the directory was entered, and then the journal there was opened, which has no record
abbrev pub IsReady : List ℕ → Tells → Tells → Type 0
IsReady dir b a = (inside : Tells) × Enters dir b inside × IsVacant inside a

abbrev pub set_up_outcome : SetUpFault → Outcome
set_up_outcome fault.Already = Place place.GatewayThere
set_up_outcome (fault.Damaged at) = Place (place.JournalDamaged at)
set_up_outcome fault.Site = Place place.Site
set_up_outcome fault.Memory = Memory

-- the directory was not entered; or it was, and then the journal was not opened or has a record
abbrev pub NotReady : List ℕ → Tells → Tells → Outcome → Type 0
NotReady dir b a outcome =
    (FailsToEnter dir b a × (outcome ≡ Place place.Site))
    ⊎ ((inside : Tells) × (fault : SetUpFault) × Enters dir b inside × NotVacant fault inside a × (outcome ≡ set_up_outcome fault))

-- ---- the genesis on the input

-- the input was read to its end or to the first byte past the most, and this holds of all its bytes
pub record Reads (b a : SourceState) (P : List ℕ → Type 0) : Type 0 where
  pub read : ReadTo (most_bytes + 1) b a
  pub bytes : List ℕ
  pub is_input : IsInput b bytes
  pub holds : P bytes

abbrev pub IsGenesisText : Founding → List ℕ → Type 0
IsGenesisText genesis bytes = IsLines AcceptsLine most_bytes bytes nothing genesis

-- this is the first line of the text that is refused
abbrev pub IsRefusedAt : ℕ → List ℕ → Type 0
IsRefusedAt number bytes = Fails AcceptsLine most_bytes bytes nothing (lines.Line number)

abbrev pub NotRead : SourceState → SourceState → Outcome → Type 0
NotRead b a (Input input.Long) = Reads b a (λ bytes. most_bytes < length bytes)
NotRead b a (Input (input.GenesisLine number)) = Reads b a (IsRefusedAt number)
NotRead b a InputFailed = FailsToRead (most_bytes + 1) b a
NotRead b a Memory = ReadPart (most_bytes + 1) b a ⊎ ReadTo (most_bytes + 1) b a
NotRead b a _ = ⊥

-- ---- the set-up

-- the genesis was read after the opening of the journal, and the set-up over the open journal answered this
pub record SetsUp (o : Order) (b a : OutsideState) (answer : Result (Unit {0}) SetUpFault) : Type 0 where
  pub ready : Tells
  pub is_ready : IsReady o.dir (tells_of b.site) ready
  pub genesis : Founding
  pub read : Reads b.streams.input a.streams.input (IsGenesisText genesis)
  pub answered : VacantAnswers (plan o.setup o.kind genesis) ready (tells_of a.site) answer

-- it failed
abbrev pub NotSetUp : Order → OutsideState → OutsideState → Outcome → Type 0
NotSetUp o b a (Place place.Site) = SetsUp o b a (Err fault.Site)
NotSetUp o b a Memory = SetsUp o b a (Err fault.Memory)
NotSetUp o b a _ = ⊥

abbrev pub ready_line : Order → List ℕ
ready_line o = name_text o.setup.name ++ (codes " ready" ++ 10 ∷ [])

-- it was done, and the line was printed or a part of it before a failure
abbrev pub IsSetUp : Order → OutsideState → OutsideState → Outcome → Type 0
IsSetUp o b a Done = SetsUp o b a (Ok tt) × Printed (ready_line o) b.streams.out a.streams.out
IsSetUp o b a OutputFailed = SetsUp o b a (Ok tt) × PrintedPart (ready_line o) b.streams.out a.streams.out
IsSetUp o b a _ = ⊥

-- ---- all of it

-- The steps at which `init` ends, in their order.
pub data InitEnds (o : Order) (b a : OutsideState) (outcome : Outcome) : Type 0 where
  -- the directory and its journal, before any of the input is read
  not_ready : a.streams ≡ b.streams → NotReady o.dir (tells_of b.site) (tells_of a.site) outcome → InitEnds o b a outcome
  -- the input
  not_read : IsReady o.dir (tells_of b.site) (tells_of a.site) → NotRead b.streams.input a.streams.input outcome → a.streams.out ≡ b.streams.out → InitEnds o b a outcome
  -- the set-up
  not_set_up : NotSetUp o b a outcome → a.streams.out ≡ b.streams.out → InitEnds o b a outcome
  -- the output
  is_set_up : IsSetUp o b a outcome → InitEnds o b a outcome

pub record InitRule (o : Order) (b a : OutsideState) (outcome : Outcome) : Type 0 where
  pub ends : InitEnds o b a outcome
  pub wire : a.wire ≡ b.wire
  pub later : b.site.faults ≤ a.site.faults
  pub cause : outcome ≡ Place place.Site → Rose b.site.faults a.site.faults
  -- no other end hides a fault of the site
  pub kept : outcome ≢ Place place.Site → a.site.faults ≡ b.site.faults
