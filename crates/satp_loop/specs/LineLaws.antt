-- A wire that has a connection open tells one.
use Rattle.std.proofs.Common.{◌≡◌, ◌≢◌, ◌∙◌, ℕ, Bool, true, ◌||◌, if◌then◌else◌, List, [], ◌∷◌, Some, ap, sym}
use Rattle.satp_base.specs.Wires.{Traffic}
use Rattle.satp_loop.specs.Lines.{Lining, talk, traffic_of}

same_traffic : (x y : Traffic) → Some x ≡ Some y → x ≡ y
same_traffic x y e = cc

pub one_is_open : (line : Lining) (answers : List ℕ) (t : Traffic) → Some (traffic_of line answers) ≡ Some t → line.is_open ≡ true → t.conversations ≢ []
one_is_open line answers t told opened none =
    let bad : talk line answers ∷ [] ≡ [] = sym (ap (λ (b : Bool). if b || line.used then talk line answers ∷ [] else []) opened) ∙ (ap (λ (x : Traffic). x.conversations) (same_traffic (traffic_of line answers) t told) ∙ none) in cc
