-- A wire in memory that has a connection open tells one.
use Rattle.std.proofs.Common.{◌≡◌, ◌≢◌, ◌∙◌, Bool, true, ◌||◌, if◌then◌else◌, [], ◌∷◌, Some, ap, sym}
use Rattle.satp_base.specs.Wires.{Traffic}
use Rattle.satp_memory.specs.Talking.{Talking, talk, traffic_of}

same_traffic : (x y : Traffic) → Some x ≡ Some y → x ≡ y
same_traffic x y e = cc

pub one_is_open : (wire : Talking) (t : Traffic) → Some (traffic_of wire) ≡ Some t → wire.is_open ≡ true → t.conversations ≢ []
one_is_open wire t told opened none = let bad : talk wire ∷ [] ≡ [] = sym (ap (λ (b : Bool). if b || wire.used then talk wire ∷ [] else []) opened) ∙ (ap (λ (x : Traffic). x.conversations) (same_traffic (traffic_of wire) t told) ∙ none) in cc
