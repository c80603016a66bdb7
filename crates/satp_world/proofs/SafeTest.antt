-- The test of what is safe, for a pair of halves.
use Rattle.std.proofs.Common.{◌≡◌, Bool, true, List, [], ◌∷◌, ◌++◌, Option, Some, None}
use Rattle.satp_base.specs.declared.message.Kind.{Kind}
use Rattle.satp_base.specs.declared.message.Kind.TheVariants.{CommitReady}
use Rattle.satp_base.specs.declared.ledger.Entry.TheVariants.{Absent, Burnt, Assigned, Released}
use Rattle.satp_base.specs.declared.message.Role.{Role}
use Rattle.satp_base.specs.declared.message.Role.TheVariants.{Origin, Recipient}
use Rattle.satp_base.specs.Tales.{has, is_whole, is_committed, maker}
use Rattle.satp_base.specs.Roles.{both, either, negate, no_way, is_commit}
use Rattle.satp_base.proofs.Finite.{all_of, andthen, implies}
use Rattle.satp_base.proofs.TaleTable.{begun_tales, tale_eq}
use Rattle.satp_world.specs.Deal.{Decision}
use Rattle.satp_sides.specs.Halves.{Half, entry_is}
use Rattle.satp_world.specs.Sessions.{decision_of}
use Rattle.satp_world.proofs.TaleSteps.{extensions}
use Rattle.satp_world.proofs.HalfTable.{Head, origins, recipients}
use Rattle.satp_world.proofs.HalfTest.{decision_is, pairs_ok}

-- never free on both ledgers
abbrev pub free_test : Half → Half → Bool
free_test a b = negate (both (either (entry_is a.entry Absent) (entry_is a.entry Released)) (entry_is b.entry Assigned))

-- a burnt entry has its mint recorded and the recipient ready
abbrev pub burnt_test : Half → Half → Bool
burnt_test a b = implies (entry_is a.entry Burnt) (both b.view.done.mint (has CommitReady b.view.tale))

abbrev pub settled_entries : Half → Half → Bool
settled_entries a b =
    either (both (is_committed a.view.tale) (both (entry_is a.entry Burnt) (entry_is b.entry Assigned)))
    (both (negate (is_committed a.view.tale)) (both (entry_is a.entry Released) (either (entry_is b.entry Absent) (entry_is b.entry Released))))

-- two tales that are one whole tale have the entries of its end
abbrev pub settled_test : Half → Half → Bool
settled_test a b = implies (both (tale_eq a.view.tale b.view.tale) (is_whole a.view.tale)) (settled_entries a b)

-- an assigned entry stands behind a burnt one
abbrev pub assigned_test : Half → Half → Bool
assigned_test a b = implies (entry_is b.entry Assigned) (entry_is a.entry Burnt)

abbrev pub decided : Half → Half → Decision → Bool
decided a b v = decision_is (decision_of a.view.way b.view.way) v

-- burnt only by a commit, released only by a way back
abbrev pub commit_test : Half → Half → Bool
commit_test a b = implies (entry_is a.entry Burnt) (decided a b Decision.Commit)

abbrev pub back_test : Half → Half → Bool
back_test a b = implies (either (entry_is a.entry Released) (entry_is b.entry Released)) (decided a b Decision.Back)

-- a commit stands behind commit-ready in both chains, and beside no way back of the recipient
abbrev pub ready_test : Half → Half → Bool
ready_test a b = implies (is_commit a.view.way) (both (has CommitReady a.view.tale) (both (has CommitReady b.view.tale) (no_way b.view.way)))

abbrev pub first_tests : Half → Half → Bool
first_tests a b = both (free_test a b) (both (burnt_test a b) (settled_test a b))

abbrev pub more_tests : Half → Half → Bool
more_tests a b = both (assigned_test a b) (both (commit_test a b) (both (back_test a b) (ready_test a b)))

unfoldable pub safe_test : Half → Half → Bool
safe_test a b = both (first_tests a b) (more_tests a b)

-- ---- a test over all pairs

abbrev pub at_ahead : (Half → Half → Bool) → Head → Head → List Kind → Kind → Option Role → Bool
at_ahead f p q t k None = true
at_ahead f p q t k (Some Origin) = pairs_ok f (origins p (t ++ k ∷ [])) (recipients q t)
at_ahead f p q t k (Some Recipient) = pairs_ok f (origins p t) (recipients q (t ++ k ∷ []))

abbrev pub at_tale : (Half → Half → Bool) → Head → Head → List Kind → Bool
at_tale f p q t = andthen (pairs_ok f (origins p t) (recipients q t)) λ _. all_of (λ k. at_ahead f p q t k (maker k)) (extensions t)

-- the test holds of each pair in the tables
abbrev pub HoldsInTables : (Half → Half → Bool) → Type 0
HoldsInTables f = (p q : Head) → all_of (at_tale f p q) begun_tales ≡ true
