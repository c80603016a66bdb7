-- A message is taken as the next of its chain.
use Rattle.std.proofs.Common.{◌≡◌, ◌<◌, ◌≤◌, ℕ, List, [], ◌∷◌, Option, Some, None, refl, sym, ap, subst, ◌∙◌}
use Rattle.std.specs.Prelude.{nat_le, Result, Ok, Err}
use Rattle.std.proofs.lemmas.Bool.{le-leb}
use Rattle.satp_base.specs.Canonical.{kind_of, part_kind}
use Rattle.satp_base.specs.Chains.{next_text}
use Rattle.satp_base.specs.Roles.{both, negate}
use Rattle.satp_base.specs.Views.{begin}
use Rattle.satp_base.specs.declared.message.Body.TheVariants as body
use Rattle.satp_base.specs.Forms.{IsMessage}
use Rattle.satp_base.specs.declared.message.Link.{Link}
use Rattle.satp_base.specs.declared.message.Message.{Message}
use Rattle.satp_base.specs.declared.message.Part.{Part}
use Rattle.satp_base.specs.declared.message.Part.TheVariants as part
use Rattle.satp_base.specs.declared.message.Role.TheVariants.{Recipient}
use Rattle.satp_base.specs.declared.message.Terms.{Terms}
use Rattle.satp_base.specs.declared.record.Rec.TheVariants.{Began, Took}
use Rattle.satp_base.specs.declared.session.SessionId.{SessionId}
use Rattle.satp_base.specs.declared.verdict.Verdict.TheVariants as verdict
use Rattle.satp_chain.specs.declared.signed.Signed.{Signed}
use Rattle.satp_sides.specs.Calls as call
use Rattle.satp_sides.specs.Calls.{Refusal, IsOwn, Run, adopted_as, chain_of, is_full, is_named, last_own, runs, taken, test, verdict_in}
use Rattle.satp_sides.specs.Logs.{IsLog, MayCome}
use Rattle.satp_sides.specs.Logs.MayCome.{Accepts}
use Rattle.satp_sides.specs.Points.{Appends, Party, Side, Slot, Stored, Text, begun, most_sessions, noted, records_of, slot, slot_in, stored}
use Rattle.satp_points.specs.Deciding.{RefusesAs}
use Rattle.satp_points.specs.declared.decision.Decision.{Decision}
use Rattle.satp_points.specs.declared.decision.Decision.TheVariants.{Works}
use Rattle.satp_points.specs.declared.decision.First.TheVariants as first
use Rattle.satp_points.specs.declared.decision.Replying.TheVariants as replying
use Rattle.satp_points.specs.declared.fault.Refused.{Refused}
use Rattle.satp_points.specs.declared.fault.Refused.TheVariants as refused
use Rattle.satp_decisions.specs.Steps.{Comes, ComesTo, IsOfPeer, begin_refusal, proposed, room_refusal}
use Rattle.satp_decisions.proofs.ChainLemmas.{chain-body, first-proposal, first-text, next-may}
use Rattle.satp_decisions.proofs.OwnLemmas.{below}
use Rattle.satp_decisions.proofs.Slots.{named-is, named-not, no-records, run-first, slot-first, slot-here}

-- ---- the same by other tests and another run that are equal

module _ (p : Party) (xs : List Stored) (s : SessionId) (tests others : Option Refusal) (run same : Side → Run) (e : tests ≡ others) (h : (side : Side) → side.records ≡ xs → same side ≡ run side) where
  pub refuses-as : (r : Refused) → RefusesAs tests r → RefusesAs others r
  refuses-as r (x, is, q) = (x, sym e ∙ is, q)

  pub comes-as : (r : Result Decision Refused) → ComesTo p xs s tests run r → ComesTo p xs s others same r
  comes-as (Ok d) k = record { passed = sym e ∙ k.passed; ready = k.ready; works = k.works; comes_to = λ side q. h side q ∙ k.comes_to side q }
  comes-as (Err refused.Memory) k = tt
  comes-as (Err refused.Broken) k = refuses-as refused.Broken k
  comes-as (Err (refused.Size n)) k = refuses-as (refused.Size n) k
  comes-as (Err (refused.Jws f)) k = refuses-as (refused.Jws f) k
  comes-as (Err refused.Header) k = refuses-as refused.Header k
  comes-as (Err (refused.Body f)) k = refuses-as (refused.Body f) k
  comes-as (Err refused.Receiver) k = refuses-as refused.Receiver k
  comes-as (Err (refused.Strange t)) k = refuses-as (refused.Strange t) k
  comes-as (Err (refused.Chain v)) k = refuses-as (refused.Chain v) k
  comes-as (Err (refused.Recovery f)) k = refuses-as (refused.Recovery f) k
  comes-as (Err (refused.Full n)) k = refuses-as (refused.Full n) k
  comes-as (Err refused.Exists) k = refuses-as refused.Exists k
  comes-as (Err (refused.TooLate n)) k = refuses-as (refused.TooLate n) k
  comes-as (Err refused.Site) k = refuses-as refused.Site k

-- ---- a session of the peer begins

module _ (p : Party) (xs : List Stored) (log : IsLog p xs) (s : SessionId) (terms : Terms) (none : slot_in s xs ≡ None) (gate : s.gateway ≡ p.peer) (n : ℕ) (count : n ≡ begun Recipient xs) where
  abbrev begun_run : Side → Run
  begun_run side = taken p side s None (part.Proposal terms) (next_text s p.name p.key [] (part.Proposal terms))

  pub begin-full : most_sessions ≤ n → RefusesAs (begin_refusal xs) (refused.Full most_sessions)
  begin-full h = (call.Full most_sessions, ap (λ b. test b (call.Full most_sessions)) (ap (nat_le most_sessions) (sym count) ∙ le-leb most_sessions n h), refl)

  pub begin-comes : n < most_sessions → Comes p xs s (begin_refusal xs) begun_run (Works s (first.Begins Recipient terms) replying.LastOwn)
  begin-comes h =
      let room = subst (λ k. k < most_sessions) count h in
      let new = no-records p xs s log none in
      record {
        passed = ap (λ b. test b (call.Full most_sessions)) (below most_sessions (begun Recipient xs) room);
        ready = (Accepts s terms gate new room, λ k q. tt);
        works = (refl, λ w. absurd w);
        comes_to = λ side q.
            (let t = next_text s p.name p.key [] (part.Proposal terms) in
            let here = slot-first p side.records s Recipient terms t (ap (records_of s) q ∙ new) in
            run-first p s replying.LastOwn side (stored s (Began Recipient terms) t) (slot (begin Recipient terms) (t ∷ [])) here);
      }

-- ---- a message that is the next

pub not-proposed : (p : Party) (xs : List Stored) (s : SessionId) (m : Message) (t : Text) → IsMessage m → slot_in s xs ≡ None → verdict_in p xs s m t ≡ verdict.Next → proposed m.body ≡ None → ⊥
not-proposed p xs s m t formed none next e =
    let (place, previous, q, is) = chain-body (chain_of p s (slot_in s xs)) m.sender t m.body verdict.Next next (λ x. cc x) in
    let (terms, proposal) = first-proposal p xs s m t place previous q formed is none next in
    let some : proposed m.body ≡ Some terms = ap proposed is ∙ ap (λ x. proposed (body.Chain place previous x)) proposal in
    let no : None ≡ Some terms = sym e ∙ some in
    cc no

module _ (p : Party) (differ : p.name ≡ p.peer → ⊥) (xs : List Stored) (log : IsLog p xs) (signed : Signed) (own_text : IsOwn p.key signed.text signed.message) (next : verdict_in p xs signed.message.session signed.message signed.text ≡ verdict.Next) where
  abbrev s : SessionId
  s = signed.message.session

  abbrev run : Side → Run
  run side = adopted_as p side signed.message.session signed.text signed.message.body

  record IsChained : Type 0 where
    place : ℕ
    previous : Link
    q : Part
    is : signed.message.body ≡ body.Chain place previous q

  chained : IsChained
  chained = let (place, previous, q, is) = chain-body (chain_of p signed.message.session (slot_in signed.message.session xs)) signed.message.sender signed.text signed.message.body verdict.Next next (λ e. cc e) in record { place = place; previous = previous; q = q; is = is }

  pub take-named : IsOfPeer p xs signed.message → (l : Slot) → slot_in signed.message.session xs ≡ Some l → Comes p xs signed.message.session (room_refusal xs signed.message.session) run (Works signed.message.session (first.Takes signed) replying.LastOwn)
  take-named peer l e =
      let c = chained in
      let s = signed.message.session in
      let t = signed.text in
      let kind : kind_of signed.message.body ≡ part_kind c.q = ap kind_of c.is in
      let may = next-may p differ xs log s signed.message t own_text refl c.place c.previous c.q c.is l e peer.addressed next in
      record {
        passed = ap (λ b. test (both (negate b) (is_full Recipient xs)) (call.Full most_sessions)) (named-is p xs s l e);
        ready = ((own_text, subst (λ k. MayCome p xs (stored s (Took k) t)) (sym kind) may), λ k q. tt);
        works = (refl, λ w. absurd w);
        comes_to = λ side q.
            (let here = ap (slot_in s) q ∙ e in
            let k = kind_of signed.message.body in
            ap (adopted_as p side s t) c.is ∙ ap (λ o. taken p side s o c.q t) here
            ∙ ap (λ j. runs p side s (noted l s (Took j) t) (Appends (stored s (Took j) t) ∷ []) last_own) (sym kind)
            ∙ run-first p s replying.LastOwn side (stored s (Took k) t) (noted l s (Took k) t) (slot-here p side.records s l (Took k) t here));
      }

  one-terms : (a b : Terms) → Some a ≡ Some b → a ≡ b
  one-terms a b e = cc e

  pub take-first : IsOfPeer p xs signed.message → (terms : Terms) → slot_in signed.message.session xs ≡ None → proposed signed.message.body ≡ Some terms → (r : Result Decision Refused)
      → ComesTo p xs signed.message.session (begin_refusal xs) (λ side. taken p side signed.message.session None (part.Proposal terms) (next_text signed.message.session p.name p.key [] (part.Proposal terms))) r
      → ComesTo p xs signed.message.session (room_refusal xs signed.message.session) run r
  take-first peer terms none e r k =
      let c = chained in
      let s = signed.message.session in
      let t = signed.text in
      let (found, is) = first-proposal p xs s signed.message t c.place c.previous c.q own_text.0 c.is none next in
      let same : found ≡ terms = one-terms found terms (sym (ap proposed c.is ∙ ap (λ q. proposed (body.Chain c.place c.previous q)) is) ∙ e) in
      let part_is : c.q ≡ part.Proposal terms = is ∙ ap part.Proposal same in
      let text : t ≡ next_text s p.name p.key [] (part.Proposal terms) = first-text p differ xs log s signed.message t own_text refl c.place c.previous c.q c.is none peer.addressed next ∙ ap (next_text s p.name p.key []) part_is in
      comes-as p xs s (begin_refusal xs) (room_refusal xs s) _ run (sym (ap (λ b. test (both (negate b) (is_full Recipient xs)) (call.Full most_sessions)) (named-not p xs s none)))
      (λ side q. ap (adopted_as p side s t) c.is ∙ ap (λ o. taken p side s o c.q t) (ap (slot_in s) q ∙ none) ∙ ap (λ x. taken p side s None x t) part_is ∙ ap (taken p side s None (part.Proposal terms)) text) r k
