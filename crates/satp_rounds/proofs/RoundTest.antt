-- The round of each pair of halves, tested.
use Rattle.std.proofs.Common.{ℕ, Bool, true, false, List, [], ◌∷◌, nat_le, length}
use Rattle.satp_base.specs.declared.message.Kind.{Kind}
use Rattle.satp_base.specs.declared.message.Role.TheVariants.{Origin, Recipient}
use Rattle.satp_base.specs.declared.ledger.Entry.TheVariants.{Absent, Burnt, Assigned, Released}
use Rattle.satp_base.specs.Tales.{is_whole, is_committed}
use Rattle.satp_base.specs.Roles.{both, either}
use Rattle.satp_base.proofs.Finite.{all_of, andthen, same_bool}
use Rattle.satp_base.proofs.TaleTable.{tale_eq}
use Rattle.satp_sides.specs.Halves.{Half, entry_is}
use Rattle.satp_sides.proofs.Lists.{bools}
use Rattle.satp_world.proofs.HalfTable.{Head}
use Rattle.satp_world.proofs.SafeTest.{at_tale}
use Rattle.satp_rounds.specs.Funds.{Funds, Room, Enough, Unknown, Over}
use Rattle.satp_rounds.specs.Rounds.{Pair, Passing, commits, pair, round}

abbrev pub rooms : List Room
rooms = Enough ∷ Unknown ∷ Over ∷ []

abbrev pub entries_test : Bool → Pair → Bool
entries_test true s = both (entry_is s.a.entry Burnt) (entry_is s.b.entry Assigned)
entries_test false s = both (entry_is s.a.entry Released) (either (entry_is s.b.entry Absent) (entry_is s.b.entry Released))

abbrev pub settled_test : Bool → Pair → Bool
settled_test c s =
    andthen (tale_eq s.a.view.tale s.b.view.tale) λ _. andthen (is_whole s.a.view.tale) λ _. andthen (same_bool (is_committed s.a.view.tale) c) λ _. entries_test c s

abbrev pub ends_in : ℕ → Bool → Passing → Bool
ends_in n c p = andthen (nat_le (length p.texts) n) λ _. settled_test c p.after

abbrev pub ends_well : Bool → Passing → Bool
ends_well c p = ends_in 8 c p

abbrev pub rounds_by : Funds → Pair → Bool
rounds_by f s = andthen (ends_well (commits f s) (round Origin f s)) λ _. ends_well (commits f s) (round Recipient f s)

abbrev pub funds : Bool → Room → Funds
funds l m = record { lock = l; mint = m }

abbrev pub rounds_test : Half → Half → Bool
rounds_test a b = all_of (λ l. all_of (λ m. rounds_by (funds l m) (pair a b)) rooms) bools

unfoldable pub rounds_at : Head → Head → List Kind → Bool
rounds_at p q t = at_tale rounds_test p q t
