-- What a gateway may answer to an abort of a session that its records name.
use Rattle.std.proofs.Common.{◌≡◌, ◌∙◌, ℕ, true, false, List, [], ◌∷◌, Option, Some, Result, Ok, Err, refl, sym, ap, subst}
use Rattle.satp_base.specs.Roles.{abort_of, negate}
use Rattle.satp_base.specs.declared.record.Rec.{Rec}
use Rattle.satp_base.specs.declared.record.TooLate.{TooLate as Late}
use Rattle.satp_base.specs.declared.session.SessionId.{SessionId}
use Rattle.satp_base.specs.declared.view.View.{View}
use Rattle.satp_log.specs.Journals.{party_of}
use Rattle.satp_points.specs.Answers.{Answers, refused_as}
use Rattle.satp_points.specs.States.{GatewayState, Holds, Tells, is_broken}
use Rattle.satp_points.specs.declared.fault.Refused.{Refused}
use Rattle.satp_points.specs.declared.fault.Refused.TheVariants as refused
use Rattle.satp_records.specs.declared.stored.Setup.{Setup}
use Rattle.satp_sides.specs.Calls as call
use Rattle.satp_sides.specs.Calls.{Aborts, Refusal, first_refusal, is_named, late_by, late_in, refusal_of, test}
use Rattle.satp_sides.specs.Points.{Party, Stored, chain_in, slot, slot_in, view_in}
use Rattle.satp_gateway_commands.specs.Aborting.{MayRefuse}

-- a named session has a slot
slot_is : (s : SessionId) (xs : List Stored) (v : View) → view_in s xs ≡ Some v → slot_in s xs ≡ Some (slot v (chain_in s xs))
slot_is s xs v e = rw e refl

late_only : (r : Result (Option Rec) Late) (refusal : Refusal) → first_refusal (late_by r ∷ []) ≡ Some refusal → (place : ℕ) × (refusal ≡ call.TooLate place)
late_only (Ok x) refusal e = absurd (cc e)
late_only (Err late) refusal e = (late.place, sym (inner (call.TooLate late.place) refusal e))
  where
    inner : (x y : Refusal) → Some x ≡ Some y → x ≡ y
    inner x y e = cc

refusal_is : (p : Party) (xs : List Stored) (s : SessionId) (v : View) → view_in s xs ≡ Some v → (refusal : Refusal) → refusal_of p xs (Aborts s) ≡ Some refusal → (place : ℕ) × (refusal ≡ call.TooLate place)
unfolding refusal_of
refusal_is p xs s v named refusal e =
    let found = slot_is s xs v named in
    late_only (abort_of v.role v) refusal (sym (tests found) ∙ e)
  where
    tests : slot_in s xs ≡ Some (slot v (chain_in s xs)) → first_refusal (test (negate (is_named s xs)) (call.Strange s) ∷ late_in (slot_in s xs) ∷ []) ≡ first_refusal (late_by (abort_of v.role v) ∷ [])
    tests f = rw f refl

-- such a refusal says that it is too late
is_late : (p : Party) (xs : List Stored) (s : SessionId) (v : View) → view_in s xs ≡ Some v → (r : Refused) → ((refusal : Refusal) × (refusal_of p xs (Aborts s) ≡ Some refusal) × (r ≡ refused_as refusal)) → MayRefuse r
is_late p xs s v named r (refusal, found, is) =
    let late = refusal_is p xs s v named refusal found in
    subst MayRefuse (sym (is ∙ ap refused_as late.1)) tt

module _ (s : SessionId) (g after : GatewayState) (b a : Tells) (setup : Setup) (xs : List Stored) (holds : Holds g setup xs) (whole : is_broken g ≡ false) (v : View) (named : view_in s xs ≡ Some v) where
  pub may_refuse : (r : Refused) → Answers (Aborts s) g after b a (Err r) → MayRefuse r
  may_refuse (refused.TooLate place) answers = tt
  may_refuse refused.Site answers = tt
  may_refuse refused.Memory answers = tt
  may_refuse refused.Broken answers = let bad : false ≡ true = sym whole ∙ answers.breaking.answered refl in absurd cc
  may_refuse (refused.Size length) answers = is_late (party_of setup) xs s v named (refused.Size length) (answers.tests setup xs holds)
  may_refuse (refused.Jws fault) answers = is_late (party_of setup) xs s v named (refused.Jws fault) (answers.tests setup xs holds)
  may_refuse refused.Header answers = is_late (party_of setup) xs s v named refused.Header (answers.tests setup xs holds)
  may_refuse (refused.Body fault) answers = is_late (party_of setup) xs s v named (refused.Body fault) (answers.tests setup xs holds)
  may_refuse refused.Receiver answers = is_late (party_of setup) xs s v named refused.Receiver (answers.tests setup xs holds)
  may_refuse (refused.Strange session) answers = is_late (party_of setup) xs s v named (refused.Strange session) (answers.tests setup xs holds)
  may_refuse (refused.Chain verdict) answers = is_late (party_of setup) xs s v named (refused.Chain verdict) (answers.tests setup xs holds)
  may_refuse (refused.Recovery fault) answers = is_late (party_of setup) xs s v named (refused.Recovery fault) (answers.tests setup xs holds)
  may_refuse (refused.Full count) answers = is_late (party_of setup) xs s v named (refused.Full count) (answers.tests setup xs holds)
  may_refuse refused.Exists answers = is_late (party_of setup) xs s v named refused.Exists (answers.tests setup xs holds)
