-- The options of a command, read as clap reads those of a simple command.
use Rattle.std.specs.Prelude.{◌≡◌, true, List, [], Bool, Some, Option}
use Rattle.std.specs.List.{All}
use Rattle.std.specs.Str.{IsUtf8}
use Rattle.clap.specs.Words.{App, Rule, Text, fault_of, first_of, found_of, matches_of, new_rule, rows_of}
use Rattle.clap.specs.Simple.{new_shape}
use Rattle.clap.specs.declared.builder.action.ArgAction.TheVariants.{Set}
use Rattle.clap.specs.declared.parser.matches.ArgMatches.{ArgMatches}
use Rattle.satp_words.specs.declared.options.CommandOption.{CommandOption}

-- an option with one value: `--name value` or `--name=value`
abbrev pub rule : CommandOption → Rule
rule option = record (new_rule option.name.now) { long = Some option.name.now; action = Some Set; required = option.required }

-- a command with these options, and no help
abbrev pub app : Text → List Rule → App
app name rules = record { top = record (new_shape name) { rules = rules; disable_help_flag = true }; subs = [] }

abbrev pub IsUtf8All : List Text → Type 0
IsUtf8All words = All IsUtf8 words

-- the command finds no fault in the words
abbrev pub Takes : App → List Text → Type 0
Takes a words = fault_of a words ≡ []

-- the value of an option, where it has one
abbrev pub value : App → List Text → Text → Option Text
value a words name = first_of name (matches_of a words)

pub record HasMatches (a : App) (words : List Text) (matches : ArgMatches) : Type 0 where
  pub taken : Takes a words
  pub rows : rows_of (found_of matches) ≡ matches_of a words

-- such an option, by its name
abbrev pub named : Text → Bool → Rule
named name required = record (new_rule name) { long = Some name; action = Some Set; required = required }
