-- The lines of a genesis: fields parted by one space.
use Rattle.std.specs.Prelude.{◌≡◌, ℕ, List, [], ◌∷◌, ◌++◌, codes}
use Rattle.satp_base.specs.Founding.{Founding}
use Rattle.satp_base.specs.Genesis.{AddsAsset, AddsHold}
use Rattle.satp_base.specs.Values.{amount_text, name_text}
use Rattle.satp_base.specs.declared.amount.Amount.{Amount}
use Rattle.satp_base.specs.declared.name.Name.{Name}
use Rattle.satp_base.specs.declared.genesis.Asset.{Asset}
use Rattle.satp_base.specs.declared.genesis.Hold.{Hold}
use Rattle.satp_base.specs.declared.genesis.Line.{Line}
use Rattle.satp_base.specs.declared.genesis.Line.TheVariants as line

-- <name> <amount>
abbrev pub part_text : Name × Amount → List ℕ
part_text part = name_text part.0 ++ 32 ∷ amount_text part.1

-- <asset> <owner> <amount>
abbrev pub hold_text : Hold → List ℕ
hold_text hold = name_text hold.asset ++ 32 ∷ part_text (hold.owner, hold.amount)

abbrev pub asset_line : Asset → List ℕ
asset_line asset = codes "asset" ++ 32 ∷ part_text (asset.name, asset.cap)

abbrev pub hold_line : Hold → List ℕ
hold_line hold = codes "hold" ++ 32 ∷ hold_text hold

abbrev pub line_text : Line → List ℕ
line_text (line.Asset name cap) = asset_line (record { name = name; cap = cap })
line_text (line.Hold hold) = hold_line hold

-- what a line adds may stand behind what is there
abbrev pub Adds : Founding → Line → Founding → Type 0
Adds old (line.Asset name cap) new = AddsAsset old (record { name = name; cap = cap }) new
Adds old (line.Hold hold) new = AddsHold old hold new

abbrev pub AcceptsLine : Founding → List ℕ → Founding → Type 0
AcceptsLine old line new = (parsed : Line) × (line ≡ line_text parsed) × Adds old parsed new

abbrev pub nothing : Founding
nothing = record { assets = []; holds = [] }

abbrev pub most_bytes : ℕ
most_bytes = 65536
