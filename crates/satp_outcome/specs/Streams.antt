-- A command that reads a text from the input and prints lines.
use Rattle.std.specs.Prelude.{◌≡◌, ◌⊎◌, ℕ, ◌+◌, ◌<◌, ◌≤◌, List, length, take, Option, IfSome, MatchOption, Result, MatchResult, Ok, Err}
use Rattle.std.specs.Borrow.{Bor}
use Rattle.satp_base.specs.declared.text.Memory as base
use Rattle.satp_outcome.specs.Outside.{FailsToRead, Printed, PrintedPart, ReadPart, ReadTo, SinkState, SourceState, StreamsState}
use Rattle.satp_outcome.specs.declared.outcome.InputEnd.{InputEnd}
use Rattle.satp_outcome.specs.declared.outcome.InputEnd.TheVariants.{Long}
use Rattle.satp_outcome.specs.declared.outcome.Outcome.{Outcome}
use Rattle.satp_outcome.specs.declared.outcome.Outcome.TheVariants.{Done, RolledBack, WordsRefused, Memory, InputFailed, OutputFailed, Input, Place, Peer}
use Rattle.satp_outcome.specs.declared.reply.Reply.{Reply}
use Rattle.satp_outcome.specs.declared.reply.Reply.TheVariants.{Lines, Refuses}

-- what a command takes for the text on its input: of so many bytes at most, in an input of so many at most
pub record Form : Type 0 where
  pub longest : ℕ
  pub most : ℕ
  pub text_of : List ℕ → List ℕ

-- the whole input, where it is told
abbrev pub IsInput : SourceState → List ℕ → Type 0
IsInput input bytes = IfSome input.left (λ told. bytes ≡ told)

-- an input whose text is no longer than the command reads, and what it says of that text
pub record Replies (form : Form) (says : List ℕ → Reply → Type 0) (b : StreamsState) (reply : Reply) : Type 0 where
  pub bytes : List ℕ
  pub is_input : IsInput b.input bytes
  pub short : length (form.text_of bytes) ≤ form.longest
  pub said : says (form.text_of bytes) reply

-- an input whose text is longer
pub record IsLong (form : Form) (b : StreamsState) : Type 0 where
  pub bytes : List ℕ
  pub is_input : IsInput b.input bytes
  pub long : form.longest < length (form.text_of bytes)

-- why the command refuses its input: by its length, or by what it says of the text
abbrev pub RefusesInput : Form → (List ℕ → Reply → Type 0) → StreamsState → InputEnd → Type 0
RefusesInput form says b Long = IsLong form b
RefusesInput form says b end = Replies form says b (Refuses end)

-- How a command ends that replies to the text on its input as `says` says.
-- The input is read to its end, or to the first byte past the most; then the lines are printed.
abbrev pub StreamRule : Form → (List ℕ → Reply → Type 0) → StreamsState → StreamsState → Outcome → Type 0
StreamRule form says b a Done = ReadTo (form.most + 1) b.input a.input × ((lines : List ℕ) × Replies form says b (Lines lines) × Printed lines b.out a.out)
StreamRule form says b a OutputFailed = ReadTo (form.most + 1) b.input a.input × ((lines : List ℕ) × Replies form says b (Lines lines) × PrintedPart lines b.out a.out)
StreamRule form says b a (Input end) = ReadTo (form.most + 1) b.input a.input × RefusesInput form says b end × (a.out ≡ b.out)
StreamRule form says b a InputFailed = FailsToRead (form.most + 1) b.input a.input × (a.out ≡ b.out)
StreamRule form says b a Memory = (ReadPart (form.most + 1) b.input a.input ⊎ ReadTo (form.most + 1) b.input a.input) × (a.out ≡ b.out)
StreamRule form says b a RolledBack = ⊥
StreamRule form says b a WordsRefused = ⊥
StreamRule form says b a (Place end) = ⊥
StreamRule form says b a (Peer end) = ⊥

-- ---- its parts

-- what reading the input answers
abbrev pub ReadRule : ℕ → SourceState → SourceState → Result (List ℕ) Outcome → Type 0
ReadRule most b a result = MatchResult result
    (λ bytes. ReadTo (most + 1) b a × IfSome b.left (λ told. bytes ≡ take (most + 1) told))
    (λ outcome. ((outcome ≡ InputFailed) × FailsToRead (most + 1) b a) ⊎ ((outcome ≡ Memory) × ReadPart (most + 1) b a))

-- the text on what was read
abbrev pub TextRule : Form → List ℕ → Option (Bor (List ℕ)) → Type 0
TextRule form bytes result = MatchOption result (form.longest < length (form.text_of bytes)) (λ text. (text.now ≡ form.text_of bytes) × (length text.now ≤ form.longest))

-- the lines of the reply are printed; where there are none, nothing is
abbrev pub Concluded : Result Reply base.Memory → SinkState → SinkState → Outcome → Type 0
Concluded (Ok (Lines lines)) b a outcome = ((outcome ≡ Done) × Printed lines b a) ⊎ ((outcome ≡ OutputFailed) × PrintedPart lines b a)
Concluded (Ok (Refuses end)) b a outcome = (outcome ≡ Input end) × (a ≡ b)
Concluded (Err memory) b a outcome = (outcome ≡ Memory) × (a ≡ b)
