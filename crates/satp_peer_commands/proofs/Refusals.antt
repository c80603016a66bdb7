-- What the first call of a drive may be refused with.
use Rattle.std.proofs.Common.{◌≡◌, ◌≢◌, ◌∙◌, ℕ, Bool, true, false, List, [], ◌∷◌, Some, Err, refl, sym, ap, subst}
use Rattle.satp_base.specs.Roles.{negate}
use Rattle.satp_base.specs.declared.message.Terms.{Terms}
use Rattle.satp_base.specs.declared.session.SessionId.{SessionId}
use Rattle.satp_log.specs.Journals.{party_of}
use Rattle.satp_points.specs.Answers.{Answers, refused_as}
use Rattle.satp_points.specs.States.{GatewayState, Holds, Tells, is_broken, tells}
use Rattle.satp_points.specs.declared.fault.Refused.{Refused}
use Rattle.satp_points.specs.declared.fault.Refused.TheVariants as refused
use Rattle.satp_records.specs.declared.stored.Setup.{Setup}
use Rattle.satp_sides.specs.Calls as call
use Rattle.satp_sides.specs.Calls.{Call, Refusal, Rescues, Starts, Works, first_refusal, is_full, is_named, refusal_of, test}
use Rattle.satp_base.specs.declared.message.Role.TheVariants.{Origin}
use Rattle.satp_sides.specs.Points.{Party, Stored, most_sessions}
use Rattle.satp_peer_commands.specs.Driving.{Leaves, MayRefuse}
use Rattle.satp_outcome.specs.Outside.{SiteState}

-- each refusal by a test of the call is one of these
abbrev Refuses : Party → List Stored → Call → Type 0
Refuses p xs c = (refusal : Refusal) → refusal_of p xs c ≡ Some refusal → MayRefuse (refused_as refusal)

inner : (x y : Refusal) → Some x ≡ Some y → x ≡ y
inner x y e = cc

as_refused : (x y : Refusal) → Some x ≡ Some y → MayRefuse (refused_as x) → MayRefuse (refused_as y)
as_refused x y e = subst (λ (r : Refusal). MayRefuse (refused_as r)) (inner x y e)

one_test : (b : Bool) (s : SessionId) (refusal : Refusal) → test b (call.Strange s) ≡ Some refusal → MayRefuse (refused_as refusal)
one_test true s refusal e = as_refused (call.Strange s) refusal e tt
one_test false s refusal e = absurd (cc e)

two_tests : (a b : Bool) (n : ℕ) (refusal : Refusal) → first_refusal (test a call.Exists ∷ test b (call.Full n) ∷ []) ≡ Some refusal → MayRefuse (refused_as refusal)
two_tests true b n refusal e = as_refused call.Exists refusal e tt
two_tests false true n refusal e = as_refused (call.Full n) refusal e tt
two_tests false false n refusal e = absurd (cc e)

start_refuses : (p : Party) (xs : List Stored) (s : SessionId) (terms : Terms) → Refuses p xs (Starts s terms)
unfolding refusal_of
start_refuses p xs s terms refusal e = two_tests (is_named s xs) (is_full Origin xs) most_sessions refusal e

work_refuses : (p : Party) (xs : List Stored) (s : SessionId) → Refuses p xs (Works s)
unfolding refusal_of
work_refuses p xs s refusal e = one_test (negate (is_named s xs)) s refusal e

rescue_refuses : (p : Party) (xs : List Stored) (s : SessionId) → Refuses p xs (Rescues s)
unfolding refusal_of
rescue_refuses p xs s refusal e = one_test (negate (is_named s xs)) s refusal e

module _ (c : Call) (g after : GatewayState) (b a : Tells) (setup : Setup) (xs : List Stored) (holds : Holds g setup xs) (whole : is_broken g ≡ false) (only : Refuses (party_of setup) xs c) where
  by_test : (r : Refused) → ((refusal : Refusal) × (refusal_of (party_of setup) xs c ≡ Some refusal) × (r ≡ refused_as refusal)) → MayRefuse r
  by_test r (refusal, found, is) = subst MayRefuse (sym is) (only refusal found)

  may_refuse : (r : Refused) → Answers c g after b a (Err r) → MayRefuse r
  may_refuse refused.Exists answers = tt
  may_refuse (refused.Full count) answers = tt
  may_refuse (refused.Strange session) answers = tt
  may_refuse refused.Site answers = tt
  may_refuse refused.Memory answers = tt
  may_refuse refused.Broken answers = let bad : false ≡ true = sym whole ∙ answers.breaking.answered refl in absurd cc
  may_refuse (refused.Size length) answers = by_test (refused.Size length) (answers.tests setup xs holds)
  may_refuse (refused.Jws fault) answers = by_test (refused.Jws fault) (answers.tests setup xs holds)
  may_refuse refused.Header answers = by_test refused.Header (answers.tests setup xs holds)
  may_refuse (refused.Body fault) answers = by_test (refused.Body fault) (answers.tests setup xs holds)
  may_refuse refused.Receiver answers = by_test refused.Receiver (answers.tests setup xs holds)
  may_refuse (refused.Chain verdict) answers = by_test (refused.Chain verdict) (answers.tests setup xs holds)
  may_refuse (refused.Recovery fault) answers = by_test (refused.Recovery fault) (answers.tests setup xs holds)
  may_refuse (refused.TooLate place) answers = by_test (refused.TooLate place) (answers.tests setup xs holds)

module _ (g after : GatewayState) (b a : Tells) (holds : (setup : Setup) × (xs : List Stored) × Holds g setup xs) (whole : is_broken g ≡ false) (r : Refused) where
  pub may_refuse_start : (s : SessionId) (terms : Terms) → Answers (Starts s terms) g after b a (Err r) → MayRefuse r
  may_refuse_start s terms = may_refuse (Starts s terms) g after b a holds.0 holds.1 holds.2 whole (start_refuses (party_of holds.0) holds.1 s terms) r

  pub may_refuse_work : (s : SessionId) → Answers (Works s) g after b a (Err r) → MayRefuse r
  may_refuse_work s = may_refuse (Works s) g after b a holds.0 holds.1 holds.2 whole (work_refuses (party_of holds.0) holds.1 s) r

  pub may_refuse_rescue : (s : SessionId) → Answers (Rescues s) g after b a (Err r) → MayRefuse r
  may_refuse_rescue s = may_refuse (Rescues s) g after b a holds.0 holds.1 holds.2 whole (rescue_refuses (party_of holds.0) holds.1 s) r

-- ---- what a refusal leaves

abbrev made : ℕ → Tells → SiteState
made faults t = record { faults = faults; told = t.told; book = t.book }

same_site : (b a : SiteState) → tells b.told b.book ≡ tells a.told a.book → b.faults ≡ a.faults → b ≡ a
same_site b a same faults = ap (λ (n : ℕ). made n (tells b.told b.book)) faults ∙ ap (made a.faults) same

pub leaves : (c : Call) (g after : GatewayState) (b a : SiteState) (r : Refused) → Answers c g after (tells b.told b.book) (tells a.told a.book) (Err r) → (r ≢ refused.Site → a.faults ≡ b.faults) → Leaves r b a
leaves c g after b a refused.Exists answers still = same_site a b answers.unchanged.1 (still (λ e. absurd cc))
leaves c g after b a (refused.Full count) answers still = same_site a b answers.unchanged.1 (still (λ e. absurd cc))
leaves c g after b a (refused.Strange session) answers still = same_site a b answers.unchanged.1 (still (λ e. absurd cc))
leaves c g after b a refused.Site answers still = tt
leaves c g after b a refused.Memory answers still = tt
leaves c g after b a refused.Broken answers still = tt
leaves c g after b a (refused.Size length) answers still = tt
leaves c g after b a (refused.Jws fault) answers still = tt
leaves c g after b a refused.Header answers still = tt
leaves c g after b a (refused.Body fault) answers still = tt
leaves c g after b a refused.Receiver answers still = tt
leaves c g after b a (refused.Chain verdict) answers still = tt
leaves c g after b a (refused.Recovery fault) answers still = tt
leaves c g after b a (refused.TooLate place) answers still = tt
