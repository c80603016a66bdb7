-- A message that is heard: its tests in their order, and what it comes to.
use Rattle.std.proofs.Common.{◌≡◌, ℕ, Bool, true, false, List, [], ◌∷◌, Option, Some, None, refl, sym, ap, ◌∙◌}
use Rattle.std.specs.Prelude.{Result, Ok, Err}
use Rattle.satp_base.specs.Roles.{both, negate}
use Rattle.satp_base.specs.Verdicts.{IsChainBody}
use Rattle.satp_base.specs.declared.message.Body.{Body}
use Rattle.satp_base.specs.declared.message.Body.TheVariants as body
use Rattle.satp_base.specs.declared.message.Link.{Link}
use Rattle.satp_base.specs.declared.message.Message.{Message}
use Rattle.satp_base.specs.declared.message.Part.{Part}
use Rattle.satp_base.specs.declared.message.Role.TheVariants.{Recipient}
use Rattle.satp_base.specs.declared.session.SessionId.{SessionId}
use Rattle.satp_base.specs.declared.verdict.Verdict.{Verdict}
use Rattle.satp_base.specs.declared.verdict.Verdict.TheVariants as verdict
use Rattle.satp_chain.specs.declared.signed.Signed.{Signed}
use Rattle.satp_sides.specs.Calls as call
use Rattle.satp_sides.specs.Calls.{Refusal, Hears, IsOwn, Run, again_reply, body_refusal, first_refusal, heard, heard_as, is_full, is_misaddressed, is_named, is_next, is_strange, named, refusal_of, run_of, runs, test, unfit, verdict_in, would_take}
use Rattle.satp_sides.specs.Logs.{IsLog}
use Rattle.satp_sides.specs.Points.{Party, Side, Slot, Stored, Text, most_sessions, slot_in}
use Rattle.satp_points.specs.Deciding.{Decided, DecidesOver, IsDecisionOf, RefusesAs}
use Rattle.satp_points.specs.Decisions.{IsReady, decided_run}
use Rattle.satp_points.specs.declared.decision.Decision.{Decision}
use Rattle.satp_points.specs.declared.decision.Decision.TheVariants.{Gives, Works}
use Rattle.satp_points.specs.declared.decision.First.TheVariants as first
use Rattle.satp_points.specs.declared.decision.Replying.TheVariants as replying
use Rattle.satp_points.specs.declared.fault.Refused.{Refused}
use Rattle.satp_points.specs.declared.fault.Refused.TheVariants as refused
use Rattle.satp_decisions.specs.Steps.{ComesTo, IsOfPeer, WorksOn, room_refusal}
use Rattle.satp_decisions.specs.Tests.{address_refusal}
use Rattle.satp_decisions.proofs.ChainLemmas.{again-none, again-place}
use Rattle.satp_decisions.proofs.Naming.{of-peer}
use Rattle.satp_decisions.proofs.Slots.{accepted-run, one-slot, run-nothing, slot-still}
use Rattle.satp_decisions.proofs.TakeLemmas.{comes-as}

-- a refusal is an answer
pub refused-over : (p : Party) (xs : List Stored) (m : Message) (t : Text) (e : Option Message) (r : Refused) → RefusesAs (refusal_of p xs (Hears m t e)) r → DecidesOver p xs (Hears m t e) (Err r)
refused-over p xs m t e refused.Memory k = tt
refused-over p xs m t e refused.Broken k = k
refused-over p xs m t e (refused.Size n) k = k
refused-over p xs m t e (refused.Jws f) k = k
refused-over p xs m t e refused.Header k = k
refused-over p xs m t e (refused.Body f) k = k
refused-over p xs m t e refused.Receiver k = k
refused-over p xs m t e (refused.Strange s) k = k
refused-over p xs m t e (refused.Chain v) k = k
refused-over p xs m t e (refused.Recovery f) k = k
refused-over p xs m t e (refused.Full n) k = k
refused-over p xs m t e refused.Exists k = k
refused-over p xs m t e (refused.TooLate n) k = k
refused-over p xs m t e refused.Site k = k

-- the tests of a body
abbrev pub body_tests : Party → List Stored → Message → Text → Option Message → Body → Option Refusal
body_tests p xs m t e b =
    first_refusal (body_refusal p xs m t e b ∷ test (both (both (negate (is_named m.session xs)) (would_take p xs m t b)) (is_full Recipient xs)) (call.Full most_sessions) ∷ [])

-- ---- the first two tests

module _ (p : Party) (xs : List Stored) (m : Message) (t : Text) (e : Option Message) where
  rest : List (Option Refusal)
  rest = body_refusal p xs m t e m.body ∷ test (both (both (negate (is_named m.session xs)) (would_take p xs m t m.body)) (is_full Recipient xs)) (call.Full most_sessions) ∷ []

  both-first : (a b : Option Refusal) (ts : List (Option Refusal)) (r : Refusal) → first_refusal (a ∷ b ∷ []) ≡ Some r → first_refusal (a ∷ b ∷ ts) ≡ Some r
  both-first (Some x) b ts r h = h
  both-first None (Some x) ts r h = h
  both-first None None ts r h = absurd (cc h)

  -- where one of them holds it is the refusal
  pub address-first : (r : Refused) → RefusesAs (address_refusal p xs m) r → RefusesAs (refusal_of p xs (Hears m t e)) r
  unfolding refusal_of rest
  address-first r (x, is, q) = (x, both-first (test (is_misaddressed p m) call.Receiver) (test (is_strange p xs m.session) (call.Strange m.session)) rest x is, q)

  -- and otherwise the tests of its body follow
  pub address-passed : IsOfPeer p xs m → (b : Body) → m.body ≡ b → refusal_of p xs (Hears m t e) ≡ body_tests p xs m t e b
  unfolding refusal_of rest
  address-passed peer b is =
      ap (λ a. first_refusal (test a call.Receiver ∷ test (is_strange p xs m.session) (call.Strange m.session) ∷ rest)) peer.addressed
      ∙ ap (λ a. first_refusal (test a (call.Strange m.session) ∷ rest)) peer.known ∙ ap (body_tests p xs m t e) is

-- ---- what a body comes to

module _ (p : Party) (xs : List Stored) (m : Message) (t : Text) (e : Option Message) (peer : IsOfPeer p xs m) (b : Body) (is : m.body ≡ b) where
  abbrev run : Side → Run
  run side = heard p side m t e b

  pub hears-decided : (d : Decision) → body_tests p xs m t e b ≡ None → IsReady p xs d → IsDecisionOf p xs (Hears m t e) d → ((side : Side) → side.records ≡ xs → heard p side m t e b ≡ decided_run p side d) → Decided p xs (Hears m t e) d
  hears-decided d passed ready of comes =
      let none = address-passed p xs m t e peer b is ∙ passed in
      record {
        accepted = none;
        ready = ready;
        of_call = of;
        replies = λ k. absurd k;
        comes_to = λ side q. accepted-run p side (Hears m t e) (ap (λ ys. refusal_of p ys (Hears m t e)) q ∙ none) ∙ ap (heard p side m t e) is ∙ comes side q;
      }

  works-of : (d : Decision) → WorksOn m.session d → IsDecisionOf p xs (Hears m t e) d
  works-of (Gives reply) w = absurd w
  works-of (Works s f r) w = (w.0, λ k. absurd (w.1 k))

  pub hears-refused : (r : Refused) → RefusesAs (body_tests p xs m t e b) r → RefusesAs (refusal_of p xs (Hears m t e)) r
  hears-refused r (x, q, k) = (x, address-passed p xs m t e peer b is ∙ q, k)

  pub hears-answers : (r : Result Decision Refused) → ComesTo p xs m.session (body_tests p xs m t e b) (λ side. heard p side m t e b) r → DecidesOver p xs (Hears m t e) r
  hears-answers (Ok d) k = hears-decided d k.passed k.ready (works-of d k.works) k.comes_to
  hears-answers (Err refused.Memory) k = tt
  hears-answers (Err refused.Broken) k = hears-refused refused.Broken k
  hears-answers (Err (refused.Size n)) k = hears-refused (refused.Size n) k
  hears-answers (Err (refused.Jws f)) k = hears-refused (refused.Jws f) k
  hears-answers (Err refused.Header) k = hears-refused refused.Header k
  hears-answers (Err (refused.Body f)) k = hears-refused (refused.Body f) k
  hears-answers (Err refused.Receiver) k = hears-refused refused.Receiver k
  hears-answers (Err (refused.Strange s)) k = hears-refused (refused.Strange s) k
  hears-answers (Err (refused.Chain v)) k = hears-refused (refused.Chain v) k
  hears-answers (Err (refused.Recovery f)) k = hears-refused (refused.Recovery f) k
  hears-answers (Err (refused.Full n)) k = hears-refused (refused.Full n) k
  hears-answers (Err refused.Exists) k = hears-refused refused.Exists k
  hears-answers (Err (refused.TooLate n)) k = hears-refused (refused.TooLate n) k
  hears-answers (Err refused.Site) k = hears-refused refused.Site k

pub both-true : (a : Bool) → both a true ≡ a
both-true true = refl
both-true false = refl

both-false : (a : Bool) → both a false ≡ false
both-false true = refl
both-false false = refl

only-one : (o : Option Refusal) → first_refusal (o ∷ []) ≡ o
only-one None = refl
only-one (Some r) = refl

-- no session begins
pub left-none : (named full : Bool) → test (both (both named false) full) (call.Full most_sessions) ≡ None
left-none named full = ap (λ a. test (both a full) (call.Full most_sessions)) (both-false named)

pub left-room : (xs : List Stored) (s : SessionId) → first_refusal (test (both (both (negate (is_named s xs)) true) (is_full Recipient xs)) (call.Full most_sessions) ∷ []) ≡ room_refusal xs s
left-room xs s = only-one _ ∙ ap (λ a. test (both a (is_full Recipient xs)) (call.Full most_sessions)) (both-true (negate (is_named s xs)))

-- ---- a message of the chain

module _ (p : Party) (differ : p.name ≡ p.peer → ⊥) (xs : List Stored) (log : IsLog p xs) (signed : Signed) (own_text : IsOwn p.key signed.text signed.message) (e : Option Message) (peer : IsOfPeer p xs signed.message) (place : ℕ) (previous : Link) (q : Part) (is : signed.message.body ≡ body.Chain place previous q) where
  tests-of : (v : Verdict) → verdict_in p xs signed.message.session signed.message signed.text ≡ v
      → body_tests p xs signed.message signed.text e (body.Chain place previous q) ≡ first_refusal (unfit v ∷ test (both (both (negate (is_named signed.message.session xs)) (is_next v)) (is_full Recipient xs)) (call.Full most_sessions) ∷ [])
  tests-of v h = ap (λ x. first_refusal (unfit x ∷ test (both (both (negate (is_named signed.message.session xs)) (is_next x)) (is_full Recipient xs)) (call.Full most_sessions) ∷ [])) h

  run-of : (v : Verdict) (side : Side) → verdict_in p xs signed.message.session signed.message signed.text ≡ v → side.records ≡ xs → heard p side signed.message signed.text e (body.Chain place previous q) ≡ heard_as p side signed.message.session signed.text q v
  run-of v side h k = ap (heard_as p side signed.message.session signed.text q) (ap (λ ys. verdict_in p ys signed.message.session signed.message signed.text) k ∙ h)

  -- the next one is taken
  pub chain-next : (r : Result Decision Refused) → verdict_in p xs signed.message.session signed.message signed.text ≡ verdict.Next
      → ComesTo p xs signed.message.session (room_refusal xs signed.message.session) (λ side. call.adopted_as p side signed.message.session signed.text signed.message.body) r → DecidesOver p xs (Hears signed.message signed.text e) r
  chain-next r h k =
      let s = signed.message.session in
      hears-answers p xs signed.message signed.text e peer (body.Chain place previous q) is r
      (comes-as p xs s (room_refusal xs s) (body_tests p xs signed.message signed.text e (body.Chain place previous q)) _ _ (sym (tests-of verdict.Next h ∙ left-room xs s))
      (λ side z. run-of verdict.Next side h z ∙ sym (ap (call.adopted_as p side s signed.text) is)) r k)

  -- one that the chain has is answered again
  again-comes : (n : ℕ) (o : Option Slot) → slot_in signed.message.session xs ≡ o → verdict_in p xs signed.message.session signed.message signed.text ≡ verdict.Again n
      → DecidesOver p xs (Hears signed.message signed.text e) (Ok (Works signed.message.session first.Nothing (replying.Again n)))
  again-comes n None o h = absurd (again-none p differ xs log signed.message.session signed.message signed.text own_text refl place previous q is n o h)
  again-comes n (Some l) o h =
      let s = signed.message.session in
      let after = again-place p differ xs log s signed.message signed.text own_text refl place previous q is l n o peer.addressed h in
      hears-decided p xs signed.message signed.text e peer (body.Chain place previous q) is (Works s first.Nothing (replying.Again n))
      (tests-of (verdict.Again n) h ∙ ap (λ x. first_refusal (x ∷ [])) (left-none (negate (is_named s xs)) (is_full Recipient xs)))
      ((l, o), λ k z. (let same : l ≡ k = one-slot l k (sym o ∙ slot-still p xs s k z) in after ∙ ap (λ (x : Slot). x.view.role) same)) (refl, λ w. absurd w)
      (λ side z.
      (let here = ap (slot_in s) z ∙ o in
      run-of (verdict.Again n) side h z ∙ ap (named (λ (k : Slot). runs p side s k [] (again_reply n))) here ∙ run-nothing p s (replying.Again n) side l here))

  pub chain-again : (n : ℕ) → verdict_in p xs signed.message.session signed.message signed.text ≡ verdict.Again n → DecidesOver p xs (Hears signed.message signed.text e) (Ok (Works signed.message.session first.Nothing (replying.Again n)))
  chain-again n h = again-comes n (slot_in signed.message.session xs) refl h

  -- and any other is refused
  pub chain-refused : (v : Verdict) → verdict_in p xs signed.message.session signed.message signed.text ≡ v → (v ≡ verdict.Next → ⊥) → ((n : ℕ) → v ≡ verdict.Again n → ⊥) → RefusesAs (refusal_of p xs (Hears signed.message signed.text e)) (refused.Chain v)
  chain-refused v h next again = hears-refused p xs signed.message signed.text e peer (body.Chain place previous q) is (refused.Chain v) (call.Chain v, tests-of v h ∙ unfits v next again, refl)
    where
      unfits : (v : Verdict) → (v ≡ verdict.Next → ⊥) → ((n : ℕ) → v ≡ verdict.Again n → ⊥)
          → first_refusal (unfit v ∷ test (both (both (negate (is_named signed.message.session xs)) (is_next v)) (is_full Recipient xs)) (call.Full most_sessions) ∷ []) ≡ Some (call.Chain v)
      unfits verdict.Next next again = absurd (next refl)
      unfits (verdict.Again n) next again = absurd (again n refl)
      unfits (verdict.Gap n) next again = refl
      unfits (verdict.Other n link) next again = refl
      unfits (verdict.WrongPrevious link) next again = refl
      unfits verdict.WrongSender next again = refl
      unfits (verdict.OffTale n) next again = refl

-- ---- the same of a message that the first two tests let through

pub chained-body : (b : Body) → IsChainBody b → (place : ℕ) × (previous : Link) × (q : Part) × (b ≡ body.Chain place previous q)
chained-body (body.Chain place previous q) h = (place, previous, q, refl)
chained-body (body.Recover n last) h = absurd h
chained-body (body.Update n entries) h = absurd h
chained-body (body.Success n last) h = absurd h

module _ (p : Party) (differ : p.name ≡ p.peer → ⊥) (xs : List Stored) (log : IsLog p xs) (signed : Signed) (own_text : IsOwn p.key signed.text signed.message) (e : Option Message) (chained : IsChainBody signed.message.body) (none : address_refusal p xs signed.message ≡ None) where
  pub on-next : (r : Result Decision Refused) → verdict_in p xs signed.message.session signed.message signed.text ≡ verdict.Next
      → (IsOfPeer p xs signed.message → ComesTo p xs signed.message.session (room_refusal xs signed.message.session) (λ side. call.adopted_as p side signed.message.session signed.text signed.message.body) r) → DecidesOver p xs (Hears signed.message signed.text e) r
  on-next r h k =
      let (place, previous, q, is) = chained-body signed.message.body chained in
      let peer = of-peer p xs signed.message none in
      chain-next p differ xs log signed own_text e peer place previous q is r h (k peer)

  pub on-again : (n : ℕ) → verdict_in p xs signed.message.session signed.message signed.text ≡ verdict.Again n → DecidesOver p xs (Hears signed.message signed.text e) (Ok (Works signed.message.session first.Nothing (replying.Again n)))
  on-again n h =
      let (place, previous, q, is) = chained-body signed.message.body chained in
      chain-again p differ xs log signed own_text e (of-peer p xs signed.message none) place previous q is n h

  pub on-other : (v : Verdict) → verdict_in p xs signed.message.session signed.message signed.text ≡ v → (v ≡ verdict.Next → ⊥) → ((n : ℕ) → v ≡ verdict.Again n → ⊥) → RefusesAs (refusal_of p xs (Hears signed.message signed.text e)) (refused.Chain v)
  on-other v h next again =
      let (place, previous, q, is) = chained-body signed.message.body chained in
      chain-refused p differ xs log signed own_text e (of-peer p xs signed.message none) place previous q is v h next again
