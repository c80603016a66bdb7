-- A round settles each session that stands.
use Rattle.std.proofs.Common.{◌≡◌, ℕ, ◌≤◌, Bool, true, false, nat_le, length, arith}
use Rattle.std.proofs.lemmas.Bool.Decides.{nat_tests}
use Rattle.satp_base.specs.declared.message.Role.{Role}
use Rattle.satp_base.specs.declared.message.Role.TheVariants.{Origin, Recipient}
use Rattle.satp_base.specs.Tales.{is_whole, is_committed}
use Rattle.satp_base.proofs.Finite.{In, all_of, andthen, all_of-at, andthen-left, andthen-right, same_bool, same_bool-is}
use Rattle.satp_base.proofs.Finite.In.{here, there}
use Rattle.satp_base.proofs.TaleTable.{tale_eq, tale_eq-is}
use Rattle.satp_sides.proofs.Lists.{in_bools}
use Rattle.satp_world.proofs.DealSteps.{entry-is}
use Rattle.satp_world.proofs.Logic.{both-left, both-right}
use Rattle.satp_world.proofs.Safety.{pair-tested}
use Rattle.satp_world.proofs.SafeTest.{HoldsInTables}
use Rattle.satp_rounds.specs.Funds.{Funds, Room, Enough, Unknown, Over}
use Rattle.satp_rounds.specs.Rounds.{EntriesOf, Pair, Settled, Settles, RoundsSettle, commits, pair, round}
use Rattle.satp_rounds.proofs.RoundTest.{rooms, funds, entries_test, settled_test, ends_well, rounds_by, rounds_test, rounds_at}
use Rattle.satp_rounds.proofs.RoundCheck.{rounds_ok}

pub in_rooms : (m : Room) → In m rooms
in_rooms Enough = here
in_rooms Unknown = there here
in_rooms Over = there (there here)

pub le-of : (m n : ℕ) → nat_le m n ≡ true → m ≤ n
le-of m n h = grind (arith, nat_tests)

entries-of : (c : Bool) (s : Pair) → entries_test c s ≡ true → EntriesOf c s
entries-of true s h = (entry-is _ _ (both-left _ _ h), entry-is _ _ (both-right _ _ h))
entries-of false s h = (entry-is _ _ (both-left _ _ h), both-right _ _ h)

pub settled-of : (c : Bool) (s : Pair) → settled_test c s ≡ true → Settled c s
settled-of c s h =
    let h1 = andthen-right (tale_eq s.a.view.tale s.b.view.tale) (λ _. andthen (is_whole s.a.view.tale) λ _. andthen (same_bool (is_committed s.a.view.tale) c) λ _. entries_test c s) h in
    let h2 = andthen-right (is_whole s.a.view.tale) (λ _. andthen (same_bool (is_committed s.a.view.tale) c) λ _. entries_test c s) h1 in
    record {
      equal = tale_eq-is _ _ (andthen-left (tale_eq s.a.view.tale s.b.view.tale) (λ _. andthen (is_whole s.a.view.tale) λ _. andthen (same_bool (is_committed s.a.view.tale) c) λ _. entries_test c s) h);
      whole = andthen-left (is_whole s.a.view.tale) (λ _. andthen (same_bool (is_committed s.a.view.tale) c) λ _. entries_test c s) h1;
      tale = same_bool-is _ _ (andthen-left (same_bool (is_committed s.a.view.tale) c) (λ _. entries_test c s) h2);
      entries = entries-of c s (andthen-right (same_bool (is_committed s.a.view.tale) c) (λ _. entries_test c s) h2);
    }

pub ends-settled : (role : Role) (f : Funds) (s : Pair) → ends_well (commits f s) (round role f s) ≡ true → Settles role f s
ends-settled role f s h =
    record {
      short = le-of _ _ (andthen-left (nat_le (length (round role f s).texts) 8) (λ _. settled_test (commits f s) (round role f s).after) h);
      settled = settled-of (commits f s) (round role f s).after (andthen-right (nat_le (length (round role f s).texts) 8) (λ _. settled_test (commits f s) (round role f s).after) h);
    }

holds : HoldsInTables rounds_test
unfolding rounds_at
holds p q = rounds_ok p q

pub rounds-settle : RoundsSettle
rounds-settle a b s role f = ends-settled role f (pair a b) (by_role role)
  where
    here_ok : rounds_by (funds f.lock f.mint) (pair a b) ≡ true
    here_ok = all_of-at (λ m. rounds_by (funds f.lock m) (pair a b)) (in_rooms f.mint) (all_of-at (λ l. all_of (λ m. rounds_by (funds l m) (pair a b)) rooms) (in_bools f.lock) (pair-tested rounds_test holds a b s))

    by_role : (r : Role) → ends_well (commits f (pair a b)) (round r f (pair a b)) ≡ true
    by_role Origin = andthen-left (ends_well (commits f (pair a b)) (round Origin f (pair a b))) (λ _. ends_well (commits f (pair a b)) (round Recipient f (pair a b))) here_ok
    by_role Recipient = andthen-right (ends_well (commits f (pair a b)) (round Origin f (pair a b))) (λ _. ends_well (commits f (pair a b)) (round Recipient f (pair a b))) here_ok
