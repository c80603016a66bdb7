-- A run of the program over its arguments.
use Rattle.std.specs.Prelude.{◌≡◌, ◌≢◌, ℕ, List, [], Result, Ok, Err}
use Rattle.std.specs.Global.{Global}
use Rattle.std.specs.IoError.{error_kind}
use Rattle.std.specs.Vec.Iter.{into_iter_items}
use Rattle.std.specs.declared.io.Error.{Error}
use Rattle.std.specs.declared.io.ErrorKind.TheVariants.{OutOfMemory}
use Rattle.std.specs.declared.string.String.{String}
use Rattle.std.specs.declared.vec.IntoIter.{IntoIter}
use Rattle.satp_app.specs.Commands.{RunRule}
use Rattle.satp_outcome.specs.Outside.{OutsideState, SinkState}
use Rattle.satp_words.specs.Arguments.{words_of}

-- The words are the arguments behind the program's name. Where there was an argument that is no text there are no words, and where no memory was found
-- for the arguments the status says so.
abbrev pub ArgumentsRule : Result (IntoIter (String Global) Global) Error → OutsideState → OutsideState → SinkState → SinkState → ℕ → Type 0
ArgumentsRule (Ok arguments) b a err_before err_after status = RunRule (words_of (into_iter_items arguments)) b a err_before err_after status
ArgumentsRule (Err error) b a err_before err_after status = RunRule [] b a err_before err_after status × (error_kind error ≡ OutOfMemory → status ≡ 10)

-- ---- its parts

-- these are the words, if there was memory for the arguments
abbrev pub HasWords : Result (IntoIter (String Global) Global) Error → List (List ℕ) → Type 0
HasWords (Ok arguments) words = words ≡ words_of (into_iter_items arguments)
HasWords (Err error) words = (words ≡ []) × (error_kind error ≢ OutOfMemory)
