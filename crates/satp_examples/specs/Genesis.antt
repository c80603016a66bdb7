-- What a ledger may be founded with, line by line.
use Rattle.std.proofs.Common.{lit≤}
use Rattle.std.specs.Prelude.{◌≡◌, ◌≢◌, ◌≤◌, ℕ, List, [], ◌∷◌, ◌++◌, replicate}
use Rattle.satp_base.specs.Founding.{Founding}
use Rattle.satp_base.specs.Genesis.{AddsAsset, AddsHold, IsGenesis}
use Rattle.satp_base.specs.GenesisText.{nothing}
use Rattle.satp_base.specs.Lines.{Fails, Front, IsLines, Leaves}
use Rattle.satp_base.specs.Numbers.{greatest_amount}
use Rattle.satp_base.specs.declared.genesis.Asset.{Asset}
use Rattle.satp_base.specs.declared.genesis.Hold.{Hold}
use Rattle.satp_base.specs.declared.lines.LinesFault.{LinesFault}
use Rattle.satp_base.specs.declared.lines.LinesFault.TheVariants.{Long, Line, Memory}
use Rattle.satp_base.specs.declared.name.Name.{Name}
use Rattle.satp_examples.specs.Ledgers.{with_gold}
use Rattle.satp_examples.specs.Samples.{bob, gold, salt, units}

abbrev pub gold_1000 : Asset
gold_1000 = record { name = gold; cap = units 1000 (lit≤ tt) (lit≤ tt) }

abbrev pub salt_20 : Asset
salt_20 = record { name = salt; cap = units 20 (lit≤ tt) (lit≤ tt) }

abbrev pub gold_again : Asset
gold_again = record { name = gold; cap = units 20 (lit≤ tt) (lit≤ tt) }

abbrev pub of_bob : (asset : Name) (n : ℕ) → 1 ≤ n → n ≤ greatest_amount → Hold
of_bob asset n low high = record { asset = asset; owner = bob; amount = units n low high }

-- with 500 units of ann's, this is what bob may have, and one unit more
abbrev pub bob_500 : Hold
bob_500 = of_bob gold 500 (lit≤ tt) (lit≤ tt)

abbrev pub bob_501 : Hold
bob_501 = of_bob gold 501 (lit≤ tt) (lit≤ tt)

abbrev pub salt_of_bob : Hold
salt_of_bob = of_bob salt 1 (lit≤ tt) (lit≤ tt)

abbrev pub with_holds : Founding → List Hold → Founding
with_holds f holds = record f { holds = f.holds ++ holds }

pub record LedgersFounded : Type 0 where
  pub with_nothing : IsGenesis nothing
  pub one_hold : IsGenesis with_gold
  pub past_the_cap : ¬ IsGenesis (with_holds with_gold (bob_501 ∷ []))
  pub of_an_unknown_asset : ¬ IsGenesis (with_holds with_gold (salt_of_bob ∷ []))
  pub one_name_twice : ¬ IsGenesis (record { assets = gold_1000 ∷ gold_again ∷ []; holds = [] })

pub record LinesAdded : Type 0 where
  pub first_asset : AddsAsset nothing gold_1000 (record { assets = gold_1000 ∷ []; holds = [] })
  pub behind_another : AddsAsset (record { assets = gold_1000 ∷ []; holds = [] }) salt_20 (record { assets = gold_1000 ∷ salt_20 ∷ []; holds = [] })
  pub sixteenth : AddsAsset (record { assets = replicate 15 gold_1000; holds = [] }) salt_20 (record { assets = replicate 15 gold_1000 ++ salt_20 ∷ []; holds = [] })
  pub up_to_the_cap : AddsHold with_gold bob_500 (with_holds with_gold (bob_500 ∷ []))
  pub not_a_name_again : (new : Founding) → ¬ AddsAsset with_gold gold_again new
  pub not_a_seventeenth : (new : Founding) → ¬ AddsAsset (record { assets = replicate 16 gold_1000; holds = [] }) salt_20 new
  pub not_before_the_others : ¬ AddsAsset (record { assets = gold_1000 ∷ []; holds = [] }) salt_20 (record { assets = salt_20 ∷ gold_1000 ∷ []; holds = [] })
  pub not_past_the_cap : (new : Founding) → ¬ AddsHold with_gold bob_501 new
  pub not_of_an_unknown_asset : (new : Founding) → ¬ AddsHold with_gold salt_of_bob new

-- ---- lines that are read one after the other: here each that isn't empty is taken

abbrev pub Takes : List (List ℕ) → List ℕ → List (List ℕ) → Type 0
Takes old line new = (line ≢ []) × (new ≡ old ++ line ∷ [])

abbrev pub Are : ℕ → List ℕ → List (List ℕ) → Type 0
Are most text lines = IsLines Takes most text [] lines

abbrev pub FailsBy : ℕ → List ℕ → LinesFault → Type 0
FailsBy most text fault = Fails Takes most text [] fault

abbrev pub a : List ℕ
a = 97 ∷ []

abbrev pub b : List ℕ
b = 98 ∷ []

-- each byte below 32 is a line feed
abbrev pub a_and_b : List ℕ
a_and_b = 97 ∷ 10 ∷ 98 ∷ 10 ∷ []

pub record LinesOfAText : Type 0 where
  pub none : Are 0 [] []
  pub two : Are 4 a_and_b (a ∷ b ∷ [])
  pub one_byte_too_long : FailsBy 3 a_and_b (Long 4)
  pub an_empty_line : FailsBy 4 (97 ∷ 10 ∷ 10 ∷ []) (Line 2)
  pub an_open_line : FailsBy 4 (97 ∷ 10 ∷ 98 ∷ []) (Line 2)
  pub not_past_the_most : (lines : List (List ℕ)) → ¬ Are 3 a_and_b lines
  pub not_without_the_last_feed : (lines : List (List ℕ)) → ¬ Are 4 (97 ∷ []) lines
  pub not_at_another_line : ¬ FailsBy 4 (97 ∷ 10 ∷ 10 ∷ []) (Line 1)
  pub not_long_by_its_most : (n : ℕ) → ¬ FailsBy 4 a_and_b (Long n)
  pub not_by_no_line : (number : ℕ) → ¬ FailsBy 4 [] (Line number)
  -- no line of a text that is too long is looked at
  pub not_a_line_past_the_most : (number : ℕ) → ¬ FailsBy 3 (97 ∷ 10 ∷ 10 ∷ 10 ∷ []) (Line number)

-- behind this fault these lines are there
abbrev pub LeftBehind : List ℕ → LinesFault → List (List ℕ) → Type 0
LeftBehind text fault lines = Leaves Takes text [] fault lines

abbrev pub IsFront : List ℕ → List (List ℕ) → Type 0
IsFront text lines = Front Takes text [] lines

-- an empty line stands between `a` and `b`
abbrev pub a_gap_b : List ℕ
a_gap_b = 97 ∷ 10 ∷ 10 ∷ 98 ∷ 10 ∷ []

pub record LinesLeftBehind : Type 0 where
  pub those_before : LeftBehind a_gap_b (Line 2) (a ∷ [])
  pub not_nothing : ¬ LeftBehind a_gap_b (Line 2) []
  pub not_those_behind : ¬ LeftBehind a_gap_b (Line 2) (a ∷ b ∷ [])
  pub nothing_of_a_long_text : LeftBehind a_and_b (Long 4) []
  pub not_its_first_line : ¬ LeftBehind a_and_b (Long 4) (a ∷ [])
  -- where no memory is found, any front
  pub one : LeftBehind a_and_b Memory (a ∷ [])
  pub not_past_a_refused_line : ¬ LeftBehind a_gap_b Memory (a ∷ b ∷ [])
  pub of_no_line : IsFront a_gap_b []
  pub of_all_lines : IsFront a_and_b (a ∷ b ∷ [])
  pub not_with_an_empty_line : ¬ IsFront a_gap_b (a ∷ [] ∷ [])
