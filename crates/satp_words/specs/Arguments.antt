-- The words among the arguments of a program.
use Rattle.std.specs.Prelude.{ℕ, List, drop, map}
use Rattle.std.specs.String.{string_bytes}
use Rattle.std.specs.declared.string.String.{String}
use Rattle.std.specs.Global.{Global}

-- the bytes of each argument but the first, which is the program's own name
abbrev pub words_of : List (String Global) → List (List ℕ)
words_of arguments = map string_bytes (drop 1 arguments)
