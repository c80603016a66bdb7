-- What commands take of words that are written out.
use Rattle.std.specs.Prelude.{◌≡◌, true, List, [], ◌∷◌, ◌++◌, Some, None, codes}
use Rattle.clap.specs.Words.{App, Text, fault_of}
use Rattle.clap.specs.declared.error.kind.ErrorKind.TheVariants as kind
use Rattle.satp_words.specs.Commands.{form}
use Rattle.satp_words.specs.Options.{Takes, app, named, value}
use Rattle.satp_words.specs.declared.verbs.Verb.TheVariants as verb

-- a command with two options that have to be there
abbrev pub two : App
two = app (codes "two") (named (codes "dir") true ∷ named (codes "number") true ∷ [])

abbrev pub words : Text → Text → Text → List Text
words a b c = codes "two" ∷ a ∷ b ∷ c ∷ []

pub record TakesOptions : Type 0 where
  -- `--name value` and `--name=value`, in any order
  pub apart_and_attached : Takes two (words (codes "--number=7") (codes "--dir") (codes "d"))
  -- an empty value, attached or apart
  pub empty_attached : Takes two (words (codes "--dir=") (codes "--number") (codes "7"))
  pub empty_apart : Takes two (words (codes "--number=7") (codes "--dir") [])
  -- a value with `=` in it
  pub equals : value two (words (codes "--dir=a=b") (codes "--number") (codes "7")) (codes "dir") ≡ Some (codes "a=b")
  -- a value that is one dash stands apart; one that begins with a dash is attached
  pub dash_apart : Takes two (words (codes "--number=7") (codes "--dir") (codes "-"))
  pub dash_attached : Takes two (words (codes "--dir=-d") (codes "--number") (codes "7"))
  -- `--` may stand last
  pub end : Takes two (words (codes "--dir=a") (codes "--number=7") (codes "--"))

pub record RefusesOptions : Type 0 where
  -- a value that stands apart and begins with a dash
  pub dash : fault_of two (words (codes "--number=7") (codes "--dir") (codes "-d")) ≡ kind.UnknownArgument ∷ []
  -- an option as a value of another
  pub option_value : fault_of two (words (codes "--number=7") (codes "--dir") (codes "--dir=d")) ≡ kind.InvalidValue ∷ []
  -- an option given twice
  pub twice : fault_of two (codes "two" ∷ codes "--dir=a" ∷ codes "--number=7" ∷ codes "--dir=a" ∷ []) ≡ kind.ArgumentConflict ∷ []
  -- a word behind `--`, and `--` as a value
  pub behind_end : fault_of two (codes "two" ∷ codes "--dir=a" ∷ codes "--number=7" ∷ codes "--" ∷ codes "b" ∷ []) ≡ kind.UnknownArgument ∷ []
  pub two_ends : fault_of two (codes "two" ∷ codes "--dir=a" ∷ codes "--number=7" ∷ codes "--" ∷ codes "--" ∷ []) ≡ kind.UnknownArgument ∷ []
  pub end_as_value : fault_of two (words (codes "--number=7") (codes "--dir") (codes "--")) ≡ kind.InvalidValue ∷ []
  -- an option left out that has to be there
  pub missing : fault_of two (codes "two" ∷ codes "--dir=a" ∷ []) ≡ kind.MissingRequiredArgument ∷ []

abbrev pub check : App
check = form verb.Check

abbrev pub init : App
init = form verb.Init

-- the base64url of 32 zeros
abbrev pub key : Text
key = codes "AAAAAAAAAAAAAAAAAAAAAAAAAAAAAAAAAAAAAAAAAAA"

pub record ChecksWords : Type 0 where
  -- the key may be left out
  pub none : Takes check (codes "check" ∷ [])
  pub no_key : value check (codes "check" ∷ []) (codes "key") ≡ None
  -- help, a word without an option, a part of an option's name
  pub help : fault_of check (codes "check" ∷ codes "--help" ∷ []) ≡ kind.UnknownArgument ∷ []
  pub short_help : fault_of check (codes "check" ∷ codes "-h" ∷ []) ≡ kind.UnknownArgument ∷ []
  pub help_word : fault_of check (codes "check" ∷ codes "help" ∷ []) ≡ kind.UnknownArgument ∷ []
  pub part_of_name : fault_of check (codes "check" ∷ codes "--ke=a" ∷ []) ≡ kind.UnknownArgument ∷ []
  -- the key in both forms, twice, with no value, and with a word too many
  pub key_apart : Takes check (codes "check" ∷ codes "--key" ∷ key ∷ [])
  pub key_attached : Takes check (codes "check" ∷ (codes "--key=" ++ key) ∷ [])
  pub key_read : value check (codes "check" ∷ codes "--key" ∷ key ∷ []) (codes "key") ≡ Some key
  pub key_read_attached : value check (codes "check" ∷ (codes "--key=" ++ key) ∷ []) (codes "key") ≡ Some key
  pub key_twice : fault_of check (codes "check" ∷ codes "--key" ∷ key ∷ codes "--key" ∷ key ∷ []) ≡ kind.ArgumentConflict ∷ []
  pub key_without_a_value : fault_of check (codes "check" ∷ codes "--key" ∷ []) ≡ kind.InvalidValue ∷ []
  pub word_too_many : fault_of check (codes "check" ∷ codes "--key" ∷ key ∷ codes "more" ∷ []) ≡ kind.UnknownArgument ∷ []

-- the options of `init`, each apart from its value, and each with its value attached; and both without the last one
abbrev pub five_apart : List Text
five_apart = codes "--dir" ∷ codes "d" ∷ codes "--name" ∷ codes "alpha" ∷ codes "--peer" ∷ codes "beta" ∷ codes "--at" ∷ codes "127.0.0.1:80" ∷ codes "--key" ∷ key ∷ []

abbrev pub five_attached : List Text
five_attached = (codes "--key=" ++ key) ∷ codes "--at=127.0.0.1:80" ∷ codes "--peer=beta" ∷ codes "--name=alpha" ∷ codes "--dir=d" ∷ []

abbrev pub init_apart : List Text
init_apart = codes "init" ∷ five_apart ++ codes "--ledger" ∷ codes "accounts" ∷ []

abbrev pub init_attached : List Text
init_attached = codes "init" ∷ codes "--ledger=accounts" ∷ five_attached

pub record InitsWords : Type 0 where
  pub apart : Takes init init_apart
  pub attached : Takes init init_attached
  -- both forms give the same values
  pub dir : (value init init_apart (codes "dir") ≡ Some (codes "d")) × (value init init_attached (codes "dir") ≡ Some (codes "d"))
  pub name : (value init init_apart (codes "name") ≡ Some (codes "alpha")) × (value init init_attached (codes "name") ≡ Some (codes "alpha"))
  pub peer : (value init init_apart (codes "peer") ≡ Some (codes "beta")) × (value init init_attached (codes "peer") ≡ Some (codes "beta"))
  pub at : (value init init_apart (codes "at") ≡ Some (codes "127.0.0.1:80")) × (value init init_attached (codes "at") ≡ Some (codes "127.0.0.1:80"))
  pub the_key : (value init init_apart (codes "key") ≡ Some key) × (value init init_attached (codes "key") ≡ Some key)
  pub ledger : (value init init_apart (codes "ledger") ≡ Some (codes "accounts")) × (value init init_attached (codes "ledger") ≡ Some (codes "accounts"))
  -- one option left out, one given twice, one word too many, and an option that there isn't
  pub missing : fault_of init (codes "init" ∷ five_apart) ≡ kind.MissingRequiredArgument ∷ []
  pub missing_attached : fault_of init (codes "init" ∷ five_attached) ≡ kind.MissingRequiredArgument ∷ []
  pub twice : fault_of init (init_apart ++ codes "--dir=d" ∷ []) ≡ kind.ArgumentConflict ∷ []
  pub word_too_many : fault_of init (init_attached ++ codes "more" ∷ []) ≡ kind.UnknownArgument ∷ []
  pub unknown : fault_of init (init_attached ++ codes "--log=l" ∷ []) ≡ kind.UnknownArgument ∷ []

-- ---- commands on transfers

abbrev pub serve : App
serve = form verb.Serve

abbrev pub start : App
start = form verb.Start

abbrev pub recover : App
recover = form verb.Recover

abbrev pub start_words : List Text
start_words = codes "start" ∷ codes "--to=bob" ∷ codes "--dir" ∷ codes "d" ∷ codes "--number" ∷ codes "1" ∷ codes "--amount" ∷ codes "250" ∷ codes "--asset=gold" ∷ codes "--from" ∷ codes "ann" ∷ []

abbrev pub serve_words : List Text
serve_words = codes "serve" ∷ codes "--dir" ∷ codes "d" ∷ codes "--listen" ∷ codes "127.0.0.1:80" ∷ []

pub record TransfersWords : Type 0 where
  pub start_taken : Takes start start_words
  pub from : value start start_words (codes "from") ≡ Some (codes "ann")
  pub to : value start start_words (codes "to") ≡ Some (codes "bob")
  pub serve_taken : Takes serve (serve_words ++ codes "--connections=1" ∷ [])
  pub connections : value serve (serve_words ++ codes "--connections=1" ∷ []) (codes "connections") ≡ Some (codes "1")
  pub session : value recover (codes "recover" ∷ codes "--session=alpha.1" ∷ codes "--dir" ∷ codes "d" ∷ []) (codes "session") ≡ Some (codes "alpha.1")
  -- an option left out, one of another command, and a session without the option's name
  pub no_connections : fault_of serve serve_words ≡ kind.MissingRequiredArgument ∷ []
  pub of_another : fault_of start (start_words ++ codes "--session=alpha.1" ∷ []) ≡ kind.UnknownArgument ∷ []
  pub bare_session : fault_of recover (codes "recover" ∷ codes "--dir" ∷ codes "d" ∷ codes "alpha.1" ∷ []) ≡ kind.UnknownArgument ∷ []

-- ---- a command without options

abbrev pub replay : App
replay = form verb.Replay

pub record ReplaysWords : Type 0 where
  pub alone : Takes replay (codes "replay" ∷ [])
  pub end : Takes replay (codes "replay" ∷ codes "--" ∷ [])
  -- a file's name, an option of another command, help, and an empty word
  pub word_too_many : fault_of replay (codes "replay" ∷ codes "journal-a" ∷ []) ≡ kind.UnknownArgument ∷ []
  pub of_another : fault_of replay (codes "replay" ∷ codes "--dir=d" ∷ []) ≡ kind.UnknownArgument ∷ []
  pub help : fault_of replay (codes "replay" ∷ codes "--help" ∷ []) ≡ kind.UnknownArgument ∷ []
  pub empty_word : fault_of replay (codes "replay" ∷ [] ∷ []) ≡ kind.UnknownArgument ∷ []

-- ---- a command with one option

abbrev pub drill : App
drill = form verb.Drill

pub record DrillsWords : Type 0 where
  pub apart : Takes drill (codes "drill" ∷ codes "--seed" ∷ codes "7" ∷ [])
  pub attached : Takes drill (codes "drill" ∷ codes "--seed=7" ∷ [])
  pub seed : (value drill (codes "drill" ∷ codes "--seed" ∷ codes "7" ∷ []) (codes "seed") ≡ Some (codes "7")) × (value drill (codes "drill" ∷ codes "--seed=7" ∷ []) (codes "seed") ≡ Some (codes "7"))
  -- no seed, one without the option's name, one given twice, and an option of another command
  pub missing : fault_of drill (codes "drill" ∷ []) ≡ kind.MissingRequiredArgument ∷ []
  pub bare_seed : fault_of drill (codes "drill" ∷ codes "7" ∷ []) ≡ kind.UnknownArgument ∷ []
  pub twice : fault_of drill (codes "drill" ∷ codes "--seed=7" ∷ codes "--seed=7" ∷ []) ≡ kind.ArgumentConflict ∷ []
  pub of_another : fault_of drill (codes "drill" ∷ codes "--seed=7" ∷ codes "--dir=d" ∷ []) ≡ kind.UnknownArgument ∷ []
