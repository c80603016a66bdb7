-- The messages of a recovery round.
use Rattle.std.proofs.Common.{◌≡◌, ℕ, zero, suc, ◌+◌, ◌-◌, ◌≤◌, Bool, true, false, List, [], ◌∷◌, ◌++◌, length, Option, Some, None, refl, sym, ap, subst, ◌∙◌, arith, if◌then◌else◌}
use Rattle.std.specs.Prelude.{drop, option_and_then, slice_get, Result, Ok, Err, IfOk}
use Rattle.std.proofs.lemmas.List.{append-nil}
use Rattle.satp_base.specs.Chains.{head_of, role_at}
use Rattle.satp_base.specs.Roles.{both, negate, rescues}
use Rattle.satp_base.specs.Signatures.{own}
use Rattle.satp_base.specs.Tales.{is_role}
use Rattle.satp_base.specs.Verdicts.{IsChainBody, IsOfSession, body_verdict}
use Rattle.satp_base.specs.declared.head.Head.{Head}
use Rattle.satp_base.specs.declared.message.Body.{Body}
use Rattle.satp_base.specs.declared.message.Body.TheVariants as body
use Rattle.satp_base.specs.declared.message.Link.{Link}
use Rattle.satp_base.specs.declared.message.Message.{Message}
use Rattle.satp_base.specs.declared.message.Role.{Role}
use Rattle.satp_base.specs.declared.message.Role.TheVariants.{Origin, Recipient}
use Rattle.satp_base.specs.declared.record.Rec.TheVariants.{Rescue}
use Rattle.satp_base.specs.declared.session.SessionId.{SessionId}
use Rattle.satp_base.specs.declared.verdict.Verdict.{Verdict}
use Rattle.satp_base.specs.declared.verdict.Verdict.TheVariants as verdict
use Rattle.satp_base.proofs.SignatureLemmas.{own_shows}
use Rattle.satp_chain.specs.declared.signed.Signed.{Signed}
use Rattle.satp_log.specs.Journals.{party_of}
use Rattle.satp_log.specs.Logged.{LogHolds, LogState, text_in}
use Rattle.satp_records.specs.declared.stored.Setup.{Setup}
use Rattle.satp_recovery.specs.Rounds.{Answers, Takes, agree_of, answer_of, take_of}
use Rattle.satp_recovery.specs.Rounds.Answers.{Apart as Answered_apart, OneMore, AsMany, OneFewer, OtherLast, OtherBefore}
use Rattle.satp_recovery.specs.Rounds.Takes.{Apart as Takes_apart, Adopts, AsMany as Takes_as_many, Resends, NoneCame, TooMany, NoneWanted}
use Rattle.satp_recovery.specs.declared.choice.RecoveryFault.{RecoveryFault}
use Rattle.satp_recovery.specs.declared.choice.RecoveryFault.TheVariants.{EntryRefused}
use Rattle.satp_recovery.specs.declared.choice.Step.{Step}
use Rattle.satp_recovery.specs.declared.choice.Step.TheVariants.{Adopt, Equal, Resend}
use Rattle.satp_recovery.proofs.RoundLemmas.{by-answers, by-takes}
use Rattle.satp_sides.specs.Calls as call
use Rattle.satp_sides.specs.Calls.{Refusal, Hears, IsEntryOf, IsOwn, adopted, adopted_as, asked, fault_in, first_refusal, heard, is_adopt, is_adopted, is_full, is_misaddressed, is_named, is_next, is_strange, named, own_at, refusal_of, replied, rescue_in, step_refusal, test, text_of, update_text, updated, verdict_in}
use Rattle.satp_sides.specs.Logs.{IsLog}
use Rattle.satp_sides.specs.Moves.{Among, Sayable, message_from}
use Rattle.satp_sides.specs.Moves.Among.{first as among_first}
use Rattle.satp_sides.specs.Moves.Sayable.{Knows_none, Own_text}
use Rattle.satp_sides.specs.Points.{Party, Side, Slot, Stored, Text, chain_in, is_session, most_sessions, noted, slot_in}
use Rattle.satp_sides.proofs.Records.{chain-none, is-session, session-self}
use Rattle.satp_points.specs.Answers.{IsRecover, SaysOnly}
use Rattle.satp_points.specs.Deciding.{Decided, DecidesOver, RefusesAs}
use Rattle.satp_points.specs.Decisions.{first_of}
use Rattle.satp_points.specs.declared.decision.Decision.{Decision}
use Rattle.satp_points.specs.declared.decision.Decision.TheVariants.{Gives, Works}
use Rattle.satp_points.specs.declared.decision.Replying.TheVariants as replying
use Rattle.satp_points.specs.declared.fault.Refused.{Refused}
use Rattle.satp_points.specs.declared.fault.Refused.TheVariants as refused
use Rattle.satp_decisions.specs.Steps.{ComesTo, FoundEntry, IsOfPeer, adopt_refusal, asked_decision, first_noted, first_rescued, is_chain_body, is_of_chain, room_refusal}
use Rattle.satp_decisions.proofs.HearLemmas.{body_tests, both-true, hears-answers, hears-decided, hears-refused, left-none}
use Rattle.satp_decisions.proofs.Naming.{from-peer, peer-session}
use Rattle.satp_decisions.specs.Tests.{HasEntry}
use Rattle.satp_decisions.proofs.OwnLemmas.{rescue-rule}
use Rattle.satp_decisions.proofs.Slots.{no-records, noted-may, one-slot, run-noted, slot-here, slot-still, texts-of, view-of}
use Rattle.satp_decisions.proofs.TakeLemmas.{comes-as}

-- ---- what the answers of a round say of the lengths

near-by : (h : Head) (n : ℕ) (last : Link) (x : Result ℕ RecoveryFault) → Answers h n last x → fault_in x ≡ None → h.length ≤ n + 1
near-by h n last _ (Answered_apart f k) e = absurd (cc e)
near-by h n last _ (OneMore k) e = omega (arith, k)
near-by h n last _ (AsMany k l) e = omega (arith, k)
near-by h n last _ (OneFewer k l) e = omega (arith, k)
near-by h n last _ (OtherLast k l) e = absurd (cc e)
near-by h n last _ (OtherBefore k l) e = absurd (cc e)

resends-by : (h : Head) (n entries : ℕ) (x : Result Step RecoveryFault) (place : ℕ) → Takes h n entries x → x ≡ Ok (Resend place) → n + 1 ≡ h.length
resends-by h n entries _ place (Takes_apart f k) e = absurd (cc e)
resends-by h n entries _ place (Adopts k l) e = absurd (cc e)
resends-by h n entries _ place (Takes_as_many k l) e = absurd (cc e)
resends-by h n entries _ place (Resends k l) e = k
resends-by h n entries _ place (NoneCame k l) e = absurd (cc e)
resends-by h n entries _ place (TooMany k l) e = absurd (cc e)
resends-by h n entries _ place (NoneWanted k l j) e = absurd (cc e)

adopts-by : (h : Head) (n entries : ℕ) (x : Result Step RecoveryFault) (place : ℕ) → Takes h n entries x → x ≡ Ok (Adopt place) → entries ≡ 1
adopts-by h n entries _ place (Takes_apart f k) e = absurd (cc e)
adopts-by h n entries _ place (Adopts k l) e = l
adopts-by h n entries _ place (Takes_as_many k l) e = absurd (cc e)
adopts-by h n entries _ place (Resends k l) e = absurd (cc e)
adopts-by h n entries _ place (NoneCame k l) e = absurd (cc e)
adopts-by h n entries _ place (TooMany k l) e = absurd (cc e)
adopts-by h n entries _ place (NoneWanted k l j) e = absurd (cc e)

-- an update whose entry is adopted has one
pub one-entry : (h : Head) (n : ℕ) (entries : List Text) (place : ℕ) → take_of h n (length entries) ≡ Ok (Adopt place) → (t : Text) × (entries ≡ t ∷ [])
one-entry h n entries place e = one entries (adopts-by h n (length entries) _ place (by-takes h n (length entries) _ refl) e)
  where
    one : (ts : List Text) → length ts ≡ 1 → (t : Text) × (ts ≡ t ∷ [])
    one [] k = absurd (omega (arith, k))
    one (t ∷ []) k = (t, refl)
    one (t ∷ u ∷ ts) k = absurd (omega (arith, k))

drop-nil : (n : ℕ) → ◌≡◌ {A = List Text} (drop n []) []
drop-nil zero = refl
drop-nil (suc n) = refl

-- ---- texts that may be said

role-same : (role r : Role) → is_role role (Some r) ≡ true → r ≡ role
role-same Origin Origin h = refl
role-same Origin Recipient h = absurd (cc h)
role-same Recipient Origin h = absurd (cc h)
role-same Recipient Recipient h = refl

module _ (p : Party) (xs : List Stored) (s : SessionId) (bag : List Text) where
  own-says : (l : Slot) (n : ℕ) → slot_in s xs ≡ Some l → role_at n ≡ l.view.role → (t : Text) → text_of l.texts n ≡ Some t → Sayable p xs bag t
  own-says l zero so r t e = absurd (cc e)
  own-says l (suc n) so r t e = let next : n + 1 ≡ suc n = omega arith in Own_text s l.view n t (view-of p xs s l so) (ap (λ ts. slice_get ts n) (texts-of p xs s l so) ∙ e) (ap role_at next ∙ r)

  pub own-at-says : (l : Slot) (n : ℕ) → slot_in s xs ≡ Some l → SaysOnly p xs bag (Ok (own_at n l))
  own-at-says l n so = go (own_at n l) refl
    where
      at : (b : Bool) (t : Text) → is_role l.view.role (Some (role_at n)) ≡ b → (if b then text_of l.texts n else None) ≡ Some t → Sayable p xs bag t
      at true t x e = own-says l n so (role-same l.view.role (role_at n) x) t e
      at false t x e = absurd (cc e)

      go : (o : Option Text) → own_at n l ≡ o → SaysOnly p xs bag (Ok o)
      go None e = tt
      go (Some t) e = at (is_role l.view.role (Some (role_at n))) t refl e

-- ---- recover

-- a record without a message adds no text
rescued-texts : (p : Party) (xs : List Stored) (s : SessionId) (l k : Slot) → slot_in s xs ≡ Some l → slot_in s (xs ++ first_of p s (first_rescued l.view)) ≡ Some k → k.texts ≡ l.texts
rescued-texts p xs s l k so e = go (rescues l.view.role l.view) e
  where
    go : (b : Bool) → slot_in s (xs ++ first_of p s (first_noted (if b then Some Rescue else None))) ≡ Some k → k.texts ≡ l.texts
    go true e = let same = one-slot k (noted l s Rescue []) (sym e ∙ slot-here p xs s l Rescue [] so) in ap (λ (x : Slot). x.texts) same ∙ append-nil l.texts
    go false e = let same = one-slot k l (sym (slot-still p xs s k e) ∙ so) in ap (λ (x : Slot). x.texts) same

module _ (p : Party) (xs : List Stored) (log : IsLog p xs) (m : Message) (t : Text) (own_text : IsOwn p.key t m) (e : Option Message) (peer : IsOfPeer p xs m) where
  abbrev s : SessionId
  s = m.session

  abbrev head : Head
  head = head_of (chain_in m.session xs)

  module _ (n : ℕ) (last : Link) (is : m.body ≡ body.Recover n last) where
    recover-tests : (x : Result ℕ RecoveryFault) → answer_of (head_of (chain_in m.session xs)) n last ≡ x
        → body_tests p xs m t e (body.Recover n last) ≡ first_refusal (fault_in x ∷ test (both (both (negate (is_named m.session xs)) false) (is_full Recipient xs)) (call.Full most_sessions) ∷ [])
    recover-tests x h = ap (λ y. first_refusal (fault_in y ∷ test (both (both (negate (is_named m.session xs)) false) (is_full Recipient xs)) (call.Full most_sessions) ∷ [])) h

    pub recover-refused : (f : RecoveryFault) → answer_of (head_of (chain_in m.session xs)) n last ≡ Err f → RefusesAs (refusal_of p xs (Hears m t e)) (refused.Recovery f)
    recover-refused f h = hears-refused p xs m t e peer (body.Recover n last) is (refused.Recovery f) (call.Recovery f, recover-tests (Err f) h, refl)

    recover-passed : (k : ℕ) → answer_of (head_of (chain_in m.session xs)) n last ≡ Ok k → body_tests p xs m t e (body.Recover n last) ≡ None
    recover-passed k h = recover-tests (Ok k) h ∙ ap (λ x. first_refusal (x ∷ [])) (left-none (negate (is_named m.session xs)) (is_full Recipient xs))

    pub recover-decided : (l : Slot) (k : ℕ) → answer_of (head_of (chain_in m.session xs)) n last ≡ Ok k → slot_in m.session xs ≡ Some l → Decided p xs (Hears m t e) (Works m.session (first_rescued l.view) (replying.Update n))
    recover-decided l k h so =
        let s = m.session in
        let near = near-by (head_of (chain_in s xs)) n last _ (by-answers (head_of (chain_in s xs)) n last _ refl) (ap fault_in h) in
        let long = ap length (texts-of p xs s l so) in
        hears-decided p xs m t e peer (body.Recover n last) is (Works s (first_rescued l.view) (replying.Update n)) (recover-passed k h)
        (noted-may p xs s l (rescue_in l.view) so (rescue-rule l), λ x q. (let same = ap length (rescued-texts p xs s l x so q) in omega (arith, near, long, same)))
        (refl, λ w. subst IsRecover (sym is) tt)
        (λ side q. (let here = ap (slot_in s) q ∙ so in ap (asked p side s n) here ∙ run-noted p s (replying.Update n) side l (rescue_in l.view) here))

    nothing-is : update_text p m.session n [] ≡ update_text p m.session 0 []
    nothing-is = ap (λ es. own p.key (message_from p m.session (body.Update 0 es))) (drop-nil (0 - (0 - n)))

    nothing-says : slot_in m.session xs ≡ None → Sayable p xs (t ∷ []) (update_text p m.session 0 [])
    nothing-says so =
        let among : Among (own p.key m) (t ∷ []) = subst (λ u. Among u (t ∷ [])) own_text.1 among_first in
        Knows_none m n last (peer-session p xs m.session peer.known so) (no-records p xs m.session log so) own_text.0 (from-peer p m peer.addressed).0 is among ((omega arith, refl), tt)

    pub recover-nothing : (k : ℕ) → answer_of (head_of (chain_in m.session xs)) n last ≡ Ok k → slot_in m.session xs ≡ None → Decided p xs (Hears m t e) (Gives (Some (update_text p m.session 0 [])))
    recover-nothing k h so =
        hears-decided p xs m t e peer (body.Recover n last) is (Gives (Some (update_text p m.session 0 []))) (recover-passed k h) tt (nothing-says so)
        (λ side q. ap (asked p side m.session n) (ap (slot_in m.session) q ∙ so) ∙ ap (λ u. replied (Some u)) nothing-is)

    -- what a side that is asked for its chain does
    asked-by : (o : Option Slot) (k : ℕ) → answer_of (head_of (chain_in m.session xs)) n last ≡ Ok k → slot_in m.session xs ≡ o → Decided p xs (Hears m t e) (asked_decision p m.session n o)
    asked-by None k h so = recover-nothing k h so
    asked-by (Some l) k h so = recover-decided l k h so

    pub asked-decided : (k : ℕ) (d : Decision) → answer_of (head_of (chain_in m.session xs)) n last ≡ Ok k → d ≡ asked_decision p m.session n (slot_in m.session xs) → Decided p xs (Hears m t e) d
    asked-decided k d h is = subst (Decided p xs (Hears m t e)) (sym is) (asked-by (slot_in m.session xs) k h refl)

  -- ---- recover-success

  module _ (n : ℕ) (last : Link) (is : m.body ≡ body.Success n last) where
    success-tests : (x : Result (Unit {0}) RecoveryFault) → agree_of (head_of (chain_in m.session xs)) n last ≡ x
        → body_tests p xs m t e (body.Success n last) ≡ first_refusal (fault_in x ∷ test (both (both (negate (is_named m.session xs)) false) (is_full Recipient xs)) (call.Full most_sessions) ∷ [])
    success-tests x h = ap (λ y. first_refusal (fault_in y ∷ test (both (both (negate (is_named m.session xs)) false) (is_full Recipient xs)) (call.Full most_sessions) ∷ [])) h

    pub success-refused : (f : RecoveryFault) → agree_of (head_of (chain_in m.session xs)) n last ≡ Err f → RefusesAs (refusal_of p xs (Hears m t e)) (refused.Recovery f)
    success-refused f h = hears-refused p xs m t e peer (body.Success n last) is (refused.Recovery f) (call.Recovery f, success-tests (Err f) h, refl)

    pub success-decided : agree_of (head_of (chain_in m.session xs)) n last ≡ Ok tt → Decided p xs (Hears m t e) (Gives None)
    success-decided h =
        hears-decided p xs m t e peer (body.Success n last) is (Gives None) (success-tests (Ok tt) h ∙ ap (λ x. first_refusal (x ∷ [])) (left-none (negate (is_named m.session xs)) (is_full Recipient xs))) tt tt
        (λ side q. refl)

  -- ---- recover-update

  module _ (n : ℕ) (entries : List Text) (is : m.body ≡ body.Update n entries) where
    update-tests : (x : Result Step RecoveryFault) → take_of (head_of (chain_in m.session xs)) n (length entries) ≡ x
        → body_tests p xs m t e (body.Update n entries) ≡ first_refusal (step_refusal (is_adopted p xs m.session entries e) x ∷ test (both (both (negate (is_named m.session xs)) (is_adopt x)) (is_full Recipient xs)) (call.Full most_sessions) ∷ [])
    update-tests x h = ap (λ y. first_refusal (step_refusal (is_adopted p xs m.session entries e) y ∷ test (both (both (negate (is_named m.session xs)) (is_adopt y)) (is_full Recipient xs)) (call.Full most_sessions) ∷ [])) h

    update-run : (x : Result Step RecoveryFault) (side : Side) → take_of (head_of (chain_in m.session xs)) n (length entries) ≡ x → side.records ≡ xs → heard p side m t e (body.Update n entries) ≡ updated p side m.session entries e x
    update-run x side h q = ap (updated p side m.session entries e) (ap (λ ys. take_of (head_of (chain_in m.session ys)) n (length entries)) q ∙ h)

    pub update-refused : (f : RecoveryFault) → take_of (head_of (chain_in m.session xs)) n (length entries) ≡ Err f → RefusesAs (refusal_of p xs (Hears m t e)) (refused.Recovery f)
    update-refused f h = hears-refused p xs m t e peer (body.Update n entries) is (refused.Recovery f) (call.Recovery f, update-tests (Err f) h, refl)

    no-room : first_refusal (None ∷ test (both (both (negate (is_named m.session xs)) false) (is_full Recipient xs)) (call.Full most_sessions) ∷ []) ≡ None
    no-room = ap (λ x. first_refusal (x ∷ [])) (left-none (negate (is_named m.session xs)) (is_full Recipient xs))

    pub update-equal : take_of (head_of (chain_in m.session xs)) n (length entries) ≡ Ok Equal → Decided p xs (Hears m t e) (Gives None)
    update-equal h = hears-decided p xs m t e peer (body.Update n entries) is (Gives None) (update-tests (Ok Equal) h ∙ no-room) tt tt (λ side q. update-run (Ok Equal) side h q)

    resent : (place : ℕ) (reply : Option Text) (o : Option Slot) → take_of (head_of (chain_in m.session xs)) n (length entries) ≡ Ok (Resend place) → slot_in m.session xs ≡ o → ((l : Slot) → slot_in m.session xs ≡ Some l → reply ≡ own_at place l)
        → Decided p xs (Hears m t e) (Gives reply)
    resent place reply None h so found =
        let s = m.session in
        let empty = ap length (chain-none s xs (no-records p xs s log so)) in
        let some = resends-by (head_of (chain_in s xs)) n (length entries) _ place (by-takes (head_of (chain_in s xs)) n (length entries) _ refl) h in
        absurd (omega (arith, empty, some))
    resent place reply (Some l) h so found =
        let s = m.session in
        let same = found l so in
        hears-decided p xs m t e peer (body.Update n entries) is (Gives reply) (update-tests (Ok (Resend place)) h ∙ no-room) tt
        (subst (λ o. SaysOnly p xs (t ∷ []) (Ok o)) (sym same) (own-at-says p xs s (t ∷ []) l place so))
        (λ side q. update-run (Ok (Resend place)) side h q ∙ ap (named (λ (k : Slot). replied (own_at place k))) (ap (slot_in s) q ∙ so) ∙ ap replied (sym same))

    pub update-resends : (place : ℕ) (reply : Option Text) → take_of (head_of (chain_in m.session xs)) n (length entries) ≡ Ok (Resend place) → ((l : Slot) → slot_in m.session xs ≡ Some l → reply ≡ own_at place l) → Decided p xs (Hears m t e) (Gives reply)
    update-resends place reply h found = resent place reply (slot_in m.session xs) h refl found

    pub update-adopts : (place : ℕ) (r : Result Decision Refused) → take_of (head_of (chain_in m.session xs)) n (length entries) ≡ Ok (Adopt place)
        → ComesTo p xs m.session (adopt_refusal p xs m.session entries e place) (λ side. adopted p side m.session entries e) r → DecidesOver p xs (Hears m t e) r
    update-adopts place r h k =
        let s = m.session in
        hears-answers p xs m t e peer (body.Update n entries) is r
        (comes-as p xs s (adopt_refusal p xs s entries e place) (body_tests p xs m t e (body.Update n entries)) _ _
        (sym (update-tests (Ok (Adopt place)) h ∙ ap (λ b. first_refusal (test (negate (is_adopted p xs s entries e)) (call.Recovery (EntryRefused place)) ∷ test (both b (is_full Recipient xs)) (call.Full most_sessions) ∷ [])) (both-true (negate (is_named s xs)))))
        (λ side q. update-run (Ok (Adopt place)) side h q) r k)

-- ---- an entry

-- the entry is one message's own text
entry-is : (key : List ℕ) (n : ℕ) (t : Text) (m : Message) (e : Option Message) → IsOwn key t m → IsEntryOf key (body.Update n (t ∷ [])) e → e ≡ Some m
entry-is key n t m None own_text of = absurd (of m own_text)
entry-is key n t m (Some x) own_text of = ap Some (own_shows key key x m of.0 own_text.0 (sym of.1 ∙ own_text.1))

module _ (p : Party) (xs : List Stored) (s : SessionId) (t : Text) where
  all-false : (a b c d : Bool) → both a (both b c) ≡ false → (c ≡ false → d ≡ false) → both a (both b d) ≡ false
  all-false true true c d h k = k h
  all-false true false c d h k = refl
  all-false false b c d h k = refl

  not-chain : (m : Message) → is_chain_body m.body ≡ false → is_next (verdict_in p xs s m t) ≡ false
  not-chain m h = go m.body h
    where
      go : (b : Body) → is_chain_body b ≡ false → is_next (body_verdict (call.chain_of p s (slot_in s xs)) m.sender t b) ≡ false
      go (body.Chain place previous q) h = absurd (cc h)
      go (body.Recover n last) h = refl
      go (body.Update n entries) h = refl
      go (body.Success n last) h = refl

  -- a message of another session, of another sender or for another receiver, or none of the chain
  pub entry-other : (m : Message) → IsOwn p.key t m → is_of_chain p s m ≡ false → FoundEntry p xs s t None
  entry-other m own_text h n e of =
      ap (is_adopted p xs s (t ∷ [])) (entry-is p.key n t m e own_text of)
      ∙ all-false (negate (is_misaddressed p m)) (is_session s m.session) (is_chain_body m.body) (is_next (verdict_in p xs s m t)) h (not-chain m)

  next-not : (a b d : Bool) → d ≡ false → both a (both b d) ≡ false
  next-not true true d h = h
  next-not true false d h = refl
  next-not false b d h = refl

  is-next-not : (v : Verdict) → (v ≡ verdict.Next → ⊥) → is_next v ≡ false
  is-next-not verdict.Next h = absurd (h refl)
  is-next-not (verdict.Again n) h = refl
  is-next-not (verdict.Gap n) h = refl
  is-next-not (verdict.Other n link) h = refl
  is-next-not (verdict.WrongPrevious link) h = refl
  is-next-not verdict.WrongSender h = refl
  is-next-not (verdict.OffTale n) h = refl

  -- one that isn't the next
  pub entry-late : (m : Message) → IsOwn p.key t m → (verdict_in p xs s m t ≡ verdict.Next → ⊥) → FoundEntry p xs s t None
  entry-late m own_text h n e of =
      ap (is_adopted p xs s (t ∷ [])) (entry-is p.key n t m e own_text of)
      ∙ next-not (negate (is_misaddressed p m)) (is_session s m.session) (is_next (verdict_in p xs s m t)) (is-next-not (verdict_in p xs s m t) h)

  pub entry-refused : (n place : ℕ) (e : Option Message) → FoundEntry p xs s t None → IsEntryOf p.key (body.Update n (t ∷ [])) e → RefusesAs (adopt_refusal p xs s (t ∷ []) e place) (refused.Recovery (EntryRefused place))
  entry-refused n place e none of =
      (call.Recovery (EntryRefused place), ap (λ b. first_refusal (test (negate b) (call.Recovery (EntryRefused place)) ∷ room_refusal xs s ∷ [])) (none n e of), refl)

  all-true : (a b c : Bool) → a ≡ false → b ≡ true → c ≡ true → both (negate a) (both b c) ≡ true
  all-true true b c h k j = absurd (cc h)
  all-true false true c h k j = j
  all-true false false c h k j = k

  one-left : (o : Option Refusal) → first_refusal (o ∷ []) ≡ o
  one-left None = refl
  one-left (Some r) = refl

  -- one that is taken
  pub entry-taken : (n place : ℕ) (e : Option Message) (signed : Signed) (r : Result Decision Refused) → FoundEntry p xs s t (Some signed) → IsEntryOf p.key (body.Update n (t ∷ [])) e
      → ComesTo p xs signed.message.session (room_refusal xs signed.message.session) (λ side. adopted_as p side signed.message.session signed.text signed.message.body) r
      → ComesTo p xs s (adopt_refusal p xs s (t ∷ []) e place) (λ side. adopted p side s (t ∷ []) e) r
  entry-taken n place e signed r (own_text, text, session, addressed, next) of k =
      let m = signed.message in
      let is = entry-is p.key n t m e (subst (λ u. IsOwn p.key u m) text own_text) of in
      let ok : is_adopted p xs s (t ∷ []) e ≡ true = ap (is_adopted p xs s (t ∷ [])) is ∙ all-true (is_misaddressed p m) (is_session s m.session) (is_next (verdict_in p xs s m t)) addressed (ap (is_session s) session ∙ session-self s) (ap is_next next) in
      let there = subst (λ u. ComesTo p xs u (room_refusal xs u) (λ side. adopted_as p side u signed.text m.body) r) session k in
      comes-as p xs s (room_refusal xs s) (adopt_refusal p xs s (t ∷ []) e place) (λ side. adopted_as p side s signed.text m.body) (λ side. adopted p side s (t ∷ []) e)
      (sym (ap (λ b. first_refusal (test (negate b) (call.Recovery (EntryRefused place)) ∷ room_refusal xs s ∷ [])) ok ∙ one-left (room_refusal xs s)))
      (λ side q. ap (adopted p side s (t ∷ [])) is ∙ ap (λ u. adopted_as p side s u m.body) (sym text)) r there

-- ---- what a log finds of the entry

pub key-back : (log : LogState) (setup : Setup) (xs : List Stored) (t : Text) (m : Message) → LogHolds log setup xs → IsOwn (party_of setup).key t m → IsOwn log.setup.key t m
key-back log setup xs t m h own_text = subst (λ (x : Setup). IsOwn x.key t m) (sym h.setup_is) own_text

pub one-is : (entries : List Text) (t : Text) → (u : Text) × (entries ≡ u ∷ []) → slice_get entries 0 ≡ Some t → entries ≡ t ∷ []
one-is entries t (u, is) at = let same : u ≡ t = same-text u t (sym (ap (λ es. slice_get es 0) is) ∙ at) in is ∙ ap (λ x. x ∷ []) same
  where
    same-text : (a b : Text) → Some a ≡ Some b → a ≡ b
    same-text a b e = cc e

pub entry-next : (p : Party) (xs : List Stored) (s : SessionId) (t : Text) (signed : Signed) → FoundEntry p xs s t (Some signed) → verdict_in p xs signed.message.session signed.message signed.text ≡ verdict.Next
entry-next p xs s t signed (own_text, text, session, addressed, next) =
    ap (λ u. verdict_in p xs u signed.message signed.text) session ∙ ap (verdict_in p xs s signed.message) text ∙ next

module _ (p : Party) (xs : List Stored) (s : SessionId) (entries : List Text) (t : Text) (is : entries ≡ t ∷ []) (n place : ℕ) (e : Option Message) (of : IsEntryOf p.key (body.Update n entries) e) where
  of-one : IsEntryOf p.key (body.Update n (t ∷ [])) e
  of-one = subst (λ es. IsEntryOf p.key (body.Update n es) e) is of

  pub adopts-refused : FoundEntry p xs s t None → RefusesAs (adopt_refusal p xs s entries e place) (refused.Recovery (EntryRefused place))
  adopts-refused found = subst (λ es. RefusesAs (adopt_refusal p xs s es e place) (refused.Recovery (EntryRefused place))) (sym is) (entry-refused p xs s t n place e found of-one)

  pub adopts-taken : (signed : Signed) (r : Result Decision Refused) → FoundEntry p xs s t (Some signed) → is_strange p xs s ≡ false
      → (IsOfPeer p xs signed.message → ComesTo p xs signed.message.session (room_refusal xs signed.message.session) (λ side. adopted_as p side signed.message.session signed.text signed.message.body) r)
      → ComesTo p xs s (adopt_refusal p xs s entries e place) (λ side. adopted p side s entries e) r
  adopts-taken signed r found known k =
      let peer : IsOfPeer p xs signed.message = record { addressed = found.3; known = ap (is_strange p xs) found.2 ∙ known } in
      subst (λ es. ComesTo p xs s (adopt_refusal p xs s es e place) (λ side. adopted p side s es e) r) (sym is) (entry-taken p xs s t n place e signed r found of-one (k peer))

-- the message that was read from the entry
module _ (log : LogState) (setup : Setup) (xs : List Stored) (h : LogHolds log setup xs) (s : SessionId) (key t : Text) (entry : Signed) (k : key ≡ log.setup.key) (read : IsOwn key t entry.message × (entry.text ≡ t)) where
  read-own : IsOwn (party_of setup).key t entry.message
  read-own = subst (λ (x : Setup). IsOwn x.key t entry.message) h.setup_is (subst (λ x. IsOwn x t entry.message) k read.0)

  pub read-other : is_of_chain (party_of setup) s entry.message ≡ false → FoundEntry (party_of setup) xs s t None
  read-other other = entry-other (party_of setup) xs s t entry.message read-own other

  chain-parts : (a b d : Bool) → both (negate a) (both b d) ≡ true → (a ≡ false) × (b ≡ true) × (d ≡ true)
  chain-parts true b d e = absurd (cc e)
  chain-parts false true true e = (refl, refl, refl)
  chain-parts false true false e = absurd (cc e)
  chain-parts false false d e = absurd (cc e)

  pub read-chain : is_of_chain (party_of setup) s entry.message ≡ true → IsOfSession entry.message.session entry.message
  read-chain e =
      let parts = chain-parts (is_misaddressed (party_of setup) entry.message) (is_session s entry.message.session) (is_chain_body entry.message.body) e in
      record { body = chained entry.message.body parts.2; formed = read.0.0.0; session = refl }
    where
      chained : (b : Body) → is_chain_body b ≡ true → IsChainBody b
      chained (body.Chain place previous q) e = tt
      chained (body.Recover n last) e = absurd (cc e)
      chained (body.Update n entries) e = absurd (cc e)
      chained (body.Success n last) e = absurd (cc e)

  module _ (of_chain : is_of_chain (party_of setup) s entry.message ≡ true) (v : Verdict) (judged : v ≡ verdict_in (party_of setup) xs entry.message.session entry.message entry.text) where
    session-is : entry.message.session ≡ s
    session-is = sym (is-session s entry.message.session (chain-parts (is_misaddressed (party_of setup) entry.message) (is_session s entry.message.session) (is_chain_body entry.message.body) of_chain).1)

    judged-as : verdict_in (party_of setup) xs s entry.message t ≡ v
    judged-as = sym (judged ∙ ap (λ u. verdict_in (party_of setup) xs u entry.message entry.text) session-is ∙ ap (verdict_in (party_of setup) xs s entry.message) read.1)

    pub read-next : v ≡ verdict.Next → FoundEntry (party_of setup) xs s t (Some entry)
    read-next is = (
      subst (λ x. IsOwn (party_of setup).key x entry.message) (sym read.1) read-own,
      read.1,
      session-is,
      (chain-parts (is_misaddressed (party_of setup) entry.message) (is_session s entry.message.session) (is_chain_body entry.message.body) of_chain).0,
      judged-as ∙ is,
    )

    pub read-late : (v ≡ verdict.Next → ⊥) → FoundEntry (party_of setup) xs s t None
    read-late late = entry-late (party_of setup) xs s t entry.message read-own (λ is. late (sym judged-as ∙ is))

-- ---- texts that are said

pub ok-more : {A E : Type 0} (r : Result A E) (P Q : A → Type 0) → IfOk r P → ((a : A) → P a → Q a) → IfOk r Q
ok-more (Ok a) P Q h k = k a h
ok-more (Err x) P Q h k = h

-- this side's text at a place
module _ (xs : List Stored) (s : SessionId) (l : Slot) (place : ℕ) (role : Role) (b : Bool) (so : slot_in s xs ≡ Some l) (same : role ≡ l.view.role) (whose : b ≡ is_role role (Some (role_at place))) where
  is-whose : is_role l.view.role (Some (role_at place)) ≡ b
  is-whose = ap (λ r. is_role r (Some (role_at place))) (sym same) ∙ sym whose

  pub own-copied : (t : Option Text) → b ≡ true → t ≡ text_in s xs place → (k : Slot) → slot_in s xs ≡ Some k → t ≡ own_at place k
  own-copied t is e k q =
      let there : text_in s xs place ≡ text_of l.texts place = ap (option_and_then (λ (x : Slot). text_of x.texts place)) so in
      e ∙ there ∙ ap (λ a. if a then text_of l.texts place else None) (sym (is-whose ∙ is)) ∙ ap (own_at place) (one-slot l k (sym so ∙ q))

  pub own-absent : b ≡ false → (k : Slot) → slot_in s xs ≡ Some k → None ≡ own_at place k
  own-absent is k q = ap (λ a. if a then text_of l.texts place else None) (sym (is-whose ∙ is)) ∙ ap (own_at place) (one-slot l k (sym so ∙ q))

pub unnamed-absent : (xs : List Stored) (s : SessionId) (place : ℕ) → slot_in s xs ≡ None → (k : Slot) → slot_in s xs ≡ Some k → None ≡ own_at place k
unnamed-absent xs s place none k q = absurd (let no : None ≡ Some k = sym none ∙ q in cc no)

-- ---- the entry of an update

-- what holds anyhow
pub anyhow : {A E : Type 0} (r : Result A E) (P : Type 0) → P → IfOk r (λ a. P)
anyhow (Ok a) P p = p
anyhow (Err e) P p = tt

none-resent : (h : Head) (n entries : ℕ) (x : Result Step RecoveryFault) (place : ℕ) → Takes h n entries x → x ≡ Ok (Resend place) → entries ≡ 0
none-resent h n entries _ place (Takes_apart f k) e = absurd (cc e)
none-resent h n entries _ place (Adopts k l) e = absurd (cc e)
none-resent h n entries _ place (Takes_as_many k l) e = absurd (cc e)
none-resent h n entries _ place (Resends k l) e = l
none-resent h n entries _ place (NoneCame k l) e = absurd (cc e)
none-resent h n entries _ place (TooMany k l) e = absurd (cc e)
none-resent h n entries _ place (NoneWanted k l j) e = absurd (cc e)

none-equal : (h : Head) (n entries : ℕ) (x : Result Step RecoveryFault) → Takes h n entries x → x ≡ Ok Equal → entries ≡ 0
none-equal h n entries _ (Takes_apart f k) e = absurd (cc e)
none-equal h n entries _ (Adopts k l) e = absurd (cc e)
none-equal h n entries _ (Takes_as_many k l) e = l
none-equal h n entries _ (Resends k l) e = absurd (cc e)
none-equal h n entries _ (NoneCame k l) e = absurd (cc e)
none-equal h n entries _ (TooMany k l) e = absurd (cc e)
none-equal h n entries _ (NoneWanted k l j) e = absurd (cc e)

-- an update without entries has none
no-entry : (key : List ℕ) (n : ℕ) (entries : List Text) → length entries ≡ 0 → HasEntry key (body.Update n entries)
no-entry key n [] e = (None, refl)
no-entry key n (t ∷ ts) e = absurd (omega (arith, e))

pub resent-entry : (key : List ℕ) (h : Head) (n : ℕ) (entries : List Text) (place : ℕ) → take_of h n (length entries) ≡ Ok (Resend place) → HasEntry key (body.Update n entries)
resent-entry key h n entries place e = no-entry key n entries (none-resent h n (length entries) _ place (by-takes h n (length entries) _ refl) e)

pub equal-entry : (key : List ℕ) (h : Head) (n : ℕ) (entries : List Text) → take_of h n (length entries) ≡ Ok Equal → HasEntry key (body.Update n entries)
equal-entry key h n entries e = no-entry key n entries (none-equal h n (length entries) _ (by-takes h n (length entries) _ refl) e)

-- the entry that was read
pub read-entry : (key : List ℕ) (n : ℕ) (entries : List Text) (t : Text) (signed : Signed) → entries ≡ t ∷ [] → signed.text ≡ t → IsOwn key signed.text signed.message → HasEntry key (body.Update n entries)
read-entry key n entries t signed is same own_text =
    (Some signed.message, subst (λ ts. IsEntryOf key (body.Update n ts) (Some signed.message)) (sym is) (subst (λ x. IsOwn key x signed.message) same own_text))

pub other-entry : (key : List ℕ) (b c : Body) → b ≡ c → HasEntry key c → HasEntry key b
other-entry key b c e h = subst (HasEntry key) (sym e) h
