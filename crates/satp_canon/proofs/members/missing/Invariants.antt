use Rattle.std.proofs.Common.{◌≡◌, drop, map, not, option_map, Bor, List, ℕ}
use Rattle.std.specs.Prelude.{filter, fold, is_some}
use Rattle.serde_json.specs.Find.{get}
use Rattle.serde_json.specs.View.{view}
use Rattle.satp_base.specs.Canonical.{member_text}
use Rattle.satp_canon.specs.FirstFault.{least, least_yet}
use Rattle.satp_canon.proofs.members.missing.Given as goal

abbrev pub invariant-loop-name : goal.invariant-loop-name
invariant-loop-name l =
    let odd = λ (text : List ℕ). not (is_some (get text (view l.value))) in
    least (filter odd (map member_text l.names)) ≡ fold least_yet (option_map (λ (text : Bor (List ℕ)). text.now) l.least) (filter odd (map member_text (drop l.name-index l.names)))
