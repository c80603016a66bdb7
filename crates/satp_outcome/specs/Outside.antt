-- Everything outside of the program, as it stands: for each device its count of faults, and what it tells.
use Rattle.std.specs.Prelude.{◌≡◌, ℕ, ◌<◌, ◌≤◌, nat_lt, Bool, true, false, List, ◌++◌, length, take, drop, Option, Some, IfSome, Result, MatchResult}
use Rattle.satp_base.specs.declared.stream.SinkFault.{SinkFault}
use Rattle.satp_base.specs.Calls.{Told}
use Rattle.satp_base.specs.Money.{Book}
use Rattle.satp_base.specs.Streams.{Rose}
use Rattle.satp_base.specs.Wires.{Traffic}

pub record SourceState : Type 0 where
  pub faults : ℕ
  -- the bytes that it has left
  pub left : Option (List ℕ)
  -- whether a read found its end or failed
  pub over : Bool

pub record SinkState : Type 0 where
  pub faults : ℕ
  -- the bytes that it has taken
  pub taken : Option (List ℕ)
  -- whether a write failed
  pub failed : Bool

pub record StreamsState : Type 0 where
  pub input : SourceState
  pub out : SinkState

pub record SiteState : Type 0 where
  pub faults : ℕ
  -- the calls on it
  pub told : Option Told
  -- its ledger
  pub book : Option Book

pub record WireState : Type 0 where
  pub faults : ℕ
  -- the connections on it, and the calls that were to open them
  pub told : Option Traffic
  pub listens : Bool
  -- whether a connection is open
  pub is_open : Bool

pub record OutsideState : Type 0 where
  pub streams : StreamsState
  pub site : SiteState
  pub wire : WireState

abbrev pub source : {S : Type 0} → (S → ℕ) → (S → Option (List ℕ)) → (S → Bool) → S → SourceState
source faults left over s = record { faults = faults s; left = left s; over = over s }

abbrev pub sink : {S : Type 0} → (S → ℕ) → (S → Option (List ℕ)) → (S → Bool) → S → SinkState
sink faults taken failed s = record { faults = faults s; taken = taken s; failed = failed s }

abbrev pub streams : SourceState → SinkState → StreamsState
streams i o = record { input = i; out = o }

abbrev pub site_state : {S : Type 0} → (S → ℕ) → (S → Option Told) → (S → Option Book) → S → SiteState
site_state faults told book s = record { faults = faults s; told = told s; book = book s }

abbrev pub wire_state : {W : Type 0} → (W → ℕ) → (W → Option Traffic) → (W → Bool) → (W → Bool) → W → WireState
wire_state faults told listens is_open w = record { faults = faults w; told = told w; listens = listens w; is_open = is_open w }

abbrev pub outside : StreamsState → SiteState → WireState → OutsideState
outside s d w = record { streams = s; site = d; wire = w }

-- ---- changes of a source

-- The source was read up to so many bytes, and no read failed. Its end was read exactly where it has fewer, and nothing after that.
abbrev pub ReadTo : ℕ → SourceState → SourceState → Type 0
ReadTo n b a = (a.faults ≡ b.faults) × IfSome b.left (λ bytes. (a.left ≡ Some (drop n bytes)) × (a.over ≡ nat_lt (length bytes) n))

-- at most so many bytes were read
abbrev pub ReadWithin : ℕ → SourceState → SourceState → Type 0
ReadWithin n b a = (k : ℕ) × (k ≤ n) × IfSome b.left (λ bytes. a.left ≡ Some (drop k bytes))

-- a read failed within so many bytes, and it was the last
abbrev pub FailsToRead : ℕ → SourceState → SourceState → Type 0
FailsToRead n b a = Rose b.faults a.faults × (a.over ≡ true) × ReadWithin n b a

-- at most so many bytes were read, no read failed, and none found the end
abbrev pub ReadPart : ℕ → SourceState → SourceState → Type 0
ReadPart n b a = (a.faults ≡ b.faults) × (a.over ≡ false) × ReadWithin n b a

-- ---- changes of a sink

-- these bytes were taken, and no write failed
abbrev pub Printed : List ℕ → SinkState → SinkState → Type 0
Printed bytes b a = (a.faults ≡ b.faults) × (a.failed ≡ false) × IfSome b.taken (λ before. a.taken ≡ Some (before ++ bytes))

-- a write failed, after some of these bytes and before the last of them, and it was the last
abbrev pub PrintedPart : List ℕ → SinkState → SinkState → Type 0
PrintedPart bytes b a = Rose b.faults a.faults × (a.failed ≡ true) × ((k : ℕ) × (k < length bytes) × IfSome b.taken (λ before. a.taken ≡ Some (before ++ take k bytes)))

-- what writing these bytes answers
abbrev pub Says : List ℕ → SinkState → SinkState → Result (Unit {0}) SinkFault → Type 0
Says bytes b a result = MatchResult result (λ _. Printed bytes b a) (λ _. PrintedPart bytes b a)
