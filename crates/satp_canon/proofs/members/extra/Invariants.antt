use Rattle.std.proofs.Common.{◌≡◌, not, option_map, Bor, List, ℕ}
use Rattle.std.specs.Prelude.{filter, fold}
use Rattle.serde_json.specs.View.{members_view}
use Rattle.satp_canon.specs.FirstFault.{is_named, least_yet, member_list}
use Rattle.satp_canon.proofs.members.extra.Given as goal

abbrev pub invariant-loop-key : goal.invariant-loop-key
invariant-loop-key l =
    let odd = λ (text : List ℕ). not (is_named l.names text) in
    fold least_yet (option_map (λ (text : Bor (List ℕ)). text.now) l.fn.found) (filter odd (member_list (members_view l.fn.map.entries)))
    ≡ fold least_yet (option_map (λ (text : Bor (List ℕ)). text.now) l.least) (filter odd (member_list (members_view l.key-iterator)))
