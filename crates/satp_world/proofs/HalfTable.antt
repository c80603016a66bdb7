-- The halves of a session that can stand, as tables.
use Rattle.std.proofs.Common.{Bool, false, List, [], ◌∷◌, Option}
use Rattle.satp_base.specs.declared.message.Kind.{Kind}
use Rattle.satp_base.specs.declared.message.Kind.TheVariants.{CommenceAck, LockAssert, CommitPrepare, CommitReady, CommitFinal, CommitFinalAck, Reject, Rollback, RollbackAck}
use Rattle.satp_base.specs.declared.message.Role.{Role}
use Rattle.satp_base.specs.declared.record.Way.{Way}
use Rattle.satp_base.specs.declared.ledger.Entry.{Entry}
use Rattle.satp_base.specs.declared.ledger.Entry.TheVariants.{Absent, Locked, Burnt, Minted, Assigned, Released}
use Rattle.satp_base.specs.declared.view.Done.{Done}
use Rattle.satp_base.specs.Tales.{has}
use Rattle.satp_base.specs.declared.message.Terms.{Terms}
use Rattle.satp_base.specs.Roles.{both, either, negate, no_way, is_commit, is_back, is_aborted}
use Rattle.satp_world.specs.Deal.{Deal}
use Rattle.satp_sides.specs.Halves.{Half, entry_is}
use Rattle.satp_world.specs.Sessions.{decision_of}
use Rattle.satp_sides.proofs.Lists.{bools, dones, entries, ways}
use Rattle.satp_base.proofs.Finite.{implies, bind, keep}
use Rattle.satp_world.proofs.Logic.{all_then}

-- what the origin's side keeps, by the kinds in its tale
abbrev pub origin_list : Bool → Bool → Bool → Bool → Bool → Done → Option Way → Entry → List (Unit {0} → Bool)
origin_list ack assert ready final roll d w e =
    (λ _. negate d.mint)
    ∷ (λ _. negate d.assign)
    ∷ (λ _. implies assert d.lock)
    ∷ (λ _. implies final d.burn)
    ∷ (λ _. implies roll d.release)
    ∷ (λ _. implies d.lock ack)
    ∷ (λ _. implies d.burn (is_commit w))
    ∷ (λ _. implies d.release (is_back w))
    ∷ (λ _. implies (is_commit w) ready)
    ∷ (λ _. implies d.lock (negate (entry_is e Absent)))
    ∷ (λ _. implies d.burn (entry_is e Burnt))
    ∷ (λ _. implies d.release (entry_is e Released))
    ∷ (λ _. implies (entry_is e Locked) ack)
    ∷ (λ _. implies (entry_is e Burnt) (is_commit w))
    ∷ (λ _. implies (entry_is e Released) (is_back w))
    ∷ (λ _. negate (entry_is e Minted))
    ∷ (λ _. negate (entry_is e Assigned))
    ∷ []

abbrev pub origin_parts : Bool → Bool → Bool → Bool → Bool → Done → Option Way → Entry → Bool
origin_parts ack assert ready final roll d w e = all_then (origin_list ack assert ready final roll d w e)

abbrev pub origin_test : List Kind → Done → Option Way → Entry → Bool
origin_test t d w e = origin_parts (has CommenceAck t) (has LockAssert t) (has CommitReady t) (has CommitFinal t) (has Rollback t) d w e

abbrev pub recipient_list : Bool → Bool → Bool → Bool → Bool → Bool → Bool → Done → Option Way → Entry → List (Unit {0} → Bool)
recipient_list prepare ready final ack reject roll roll_ack d w e =
    (λ _. negate (is_commit w))
    ∷ (λ _. negate d.lock)
    ∷ (λ _. negate d.burn)
    ∷ (λ _. implies ready d.mint)
    ∷ (λ _. implies ack d.assign)
    ∷ (λ _. implies reject (is_back w))
    ∷ (λ _. implies ready (no_way w))
    ∷ (λ _. implies prepare (implies (either (no_way w) (is_aborted w)) (implies (either roll_ack reject) d.release)))
    ∷ (λ _. implies d.mint prepare)
    ∷ (λ _. implies d.assign final)
    ∷ (λ _. implies d.release (entry_is e Released))
    ∷ (λ _. implies d.mint (negate (entry_is e Absent)))
    ∷ (λ _. implies d.assign (entry_is e Assigned))
    ∷ (λ _. implies (entry_is e Minted) prepare)
    ∷ (λ _. implies (entry_is e Assigned) final)
    ∷ (λ _. implies (entry_is e Released) (both prepare (either roll (is_aborted w))))
    ∷ (λ _. negate (entry_is e Locked))
    ∷ (λ _. negate (entry_is e Burnt))
    ∷ (λ _. implies (is_back w) (implies (negate (is_aborted w)) (both prepare (both (negate d.mint) (entry_is e Absent)))))
    ∷ []

abbrev pub recipient_parts : Bool → Bool → Bool → Bool → Bool → Bool → Bool → Done → Option Way → Entry → Bool
recipient_parts prepare ready final ack reject roll roll_ack d w e = all_then (recipient_list prepare ready final ack reject roll roll_ack d w e)

abbrev pub recipient_test : List Kind → Done → Option Way → Entry → Bool
recipient_test t d w e =
    recipient_parts (has CommitPrepare t) (has CommitReady t) (has CommitFinal t) (has CommitFinalAck t) (has Reject t) (has Rollback t) (has RollbackAck t) d w e

-- whose view it is, and its terms: no test looks at them
abbrev pub Head : Type 0
Head = Role × Terms

abbrev pub half_with : Head → List Kind → Done → Option Way → Bool → Entry → Half
half_with p t d w r e = record { view = record { role = p.0; terms = p.1; tale = t; done = d; way = w; rescue = r }; entry = e }

-- the halves of this tale that pass the parts
abbrev pub halves_by : Head → List Kind → List Bool → (Done → Option Way → Entry → Bool) → List Half
halves_by p t rescues parts = bind dones (λ d. bind ways (λ w. bind entries (λ e. bind rescues (λ r. keep (parts d w e) (half_with p t d w r e)))))

abbrev pub origins : Head → List Kind → List Half
origins p t = halves_by p t bools (origin_test t)

abbrev pub recipients : Head → List Kind → List Half
recipients p t = halves_by p t (false ∷ []) (recipient_test t)

-- the deal of two halves
abbrev pub deal_between : Half → Half → Deal
deal_between a b = record { a = a.entry; b = b.entry; v = decision_of a.view.way b.view.way; ready = has CommitReady b.view.tale }
