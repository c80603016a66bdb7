-- A message that its chain takes next, and one that it has already.
use Rattle.std.proofs.Common.{◌≡◌, ℕ, ◌+◌, Bool, true, false, List, [], ◌∷◌, ◌++◌, length, Option, Some, None, refl, sym, ap, subst, ◌∙◌, arith, if◌then◌else◌, not}
use Rattle.std.specs.Prelude.{nat_le, nat_lt}
use Rattle.std.specs.Str.{bytes_eq}
use Rattle.std.proofs.lemmas.Bool.{leb-true}
use Rattle.satp_base.specs.Canonical.{part_kind}
use Rattle.satp_base.specs.Chains.{last_link, link_at, message_at, name_of, next_text, role_at}
use Rattle.satp_base.specs.Forms.{IsBody, IsMessage, IsPart, IsPlace}
use Rattle.satp_base.specs.Roles.{RoleRule}
use Rattle.satp_base.specs.Roles.RoleRule.{Free}
use Rattle.satp_base.specs.Signatures.{own}
use Rattle.satp_base.specs.Tales.{IsTale, maker, other}
use Rattle.satp_base.specs.Verdicts.{ChainState, body_verdict, extends, is_settled, maker_at, place_verdict, same_link, same_name, text_at, verdict_on}
use Rattle.satp_base.specs.declared.message.Body.{Body}
use Rattle.satp_base.specs.declared.message.Body.TheVariants as body
use Rattle.satp_base.specs.declared.message.Kind.{Kind}
use Rattle.satp_base.specs.declared.message.Kind.TheVariants.{TransferProposal}
use Rattle.satp_base.specs.declared.message.Link.{Link}
use Rattle.satp_base.specs.declared.message.Message.{Message}
use Rattle.satp_base.specs.declared.message.Part.{Part}
use Rattle.satp_base.specs.declared.message.Part.TheVariants as part
use Rattle.satp_base.specs.declared.message.Role.{Role}
use Rattle.satp_base.specs.declared.message.Role.TheVariants.{Origin, Recipient}
use Rattle.satp_base.specs.declared.message.Terms.{Terms}
use Rattle.satp_base.specs.declared.name.Name.{Name}
use Rattle.satp_base.specs.declared.record.Rec.TheVariants.{Took}
use Rattle.satp_base.specs.declared.session.SessionId.{SessionId}
use Rattle.satp_base.specs.declared.verdict.Verdict.{Verdict}
use Rattle.satp_base.specs.declared.verdict.Verdict.TheVariants as verdict
use Rattle.satp_base.specs.declared.view.View.{View}
use Rattle.satp_base.proofs.Finite.In.{here}
use Rattle.satp_base.proofs.Places.{maker-at}
use Rattle.satp_base.proofs.TaleTable.{kind_eq-is, tale-is, extends-by}
use Rattle.satp_base.proofs.VerdictLemmas.{extends-tale, taken}
use Rattle.satp_sides.specs.Calls.{IsOwn, chain_of, is_misaddressed, verdict_in}
use Rattle.satp_sides.specs.Logs.{IsLog, MayCome}
use Rattle.satp_sides.specs.Logs.MayCome.{Takes}
use Rattle.satp_sides.specs.Points.{Party, Slot, Stored, Text, chain_in, recipient_at, slot_in, stored}
use Rattle.satp_sides.proofs.LogLaw.{log-sessions, reached-tale}
use Rattle.satp_sides.proofs.LogTexts.{chain-length}
use Rattle.satp_decisions.proofs.Naming.{from-peer, peer-place, role-next, same-is, taker-me, twice}
use Rattle.satp_decisions.proofs.Slots.{texts-of, view-of}

-- ---- the text of the next message

next-is-text : (key : List ℕ) (s : SessionId) (recipient : Name) (texts : List Text) (m : Message) (t : Text) (place : ℕ) (previous : Link) (q : Part)
    → m.session ≡ s → m.body ≡ body.Chain place previous q → place ≡ length texts + 1 → previous ≡ last_link texts
    → m.sender ≡ name_of s recipient (role_at place) → m.receiver ≡ name_of s recipient (other (role_at place)) → t ≡ own key m → t ≡ next_text s recipient key texts q
next-is-text key s recipient texts m t place previous q session is at link sender receiver text =
    let sender' : m.sender ≡ name_of s recipient (role_at (length texts + 1)) = sender ∙ ap (λ n. name_of s recipient (role_at n)) at in
    let receiver' : m.receiver ≡ name_of s recipient (other (role_at (length texts + 1))) = receiver ∙ ap (λ n. name_of s recipient (other (role_at n))) at in
    let is' : m.body ≡ body.Chain (length texts + 1) (last_link texts) q = is ∙ ap (λ n. body.Chain n previous q) at ∙ ap (λ l. body.Chain (length texts + 1) l q) link in
    let same : m ≡ message_at s recipient (length texts + 1) (last_link texts) q = λ i. record { session = session i; sender = sender' i; receiver = receiver' i; body = is' i } in
    text ∙ ap (own key) same

-- ---- verdicts

-- a text that stands again is for a place that the chain has
pub record IsAgain (chain : ChainState) (sender : Name) (place n : ℕ) : Type 0 where
  pub place_is : n ≡ place
  pub sender_is : same_name sender (maker_at chain place) ≡ true
  pub held : nat_le place (length chain.texts) ≡ true

again-by : (wrong far held settled same differs goes : Bool) (place n many : ℕ) (kept last : Link)
    → (if wrong then verdict.WrongSender else if far then verdict.Gap many else if held then (if settled then verdict.Again place else if same then verdict.Again place else verdict.Other place kept)
    else (if differs then verdict.WrongPrevious last else if goes then verdict.Next else verdict.OffTale place)) ≡ verdict.Again n
    → (n ≡ place) × (wrong ≡ false) × (held ≡ true)
again-by true far held settled same differs goes place n many kept last e = absurd (cc e)
again-by false true held settled same differs goes place n many kept last e = absurd (cc e)
again-by false false true true same differs goes place n many kept last e = (cc e, refl, refl)
again-by false false true false true differs goes place n many kept last e = (cc e, refl, refl)
again-by false false true false false differs goes place n many kept last e = absurd (cc e)
again-by false false false settled same true goes place n many kept last e = absurd (cc e)
again-by false false false settled same false true place n many kept last e = absurd (cc e)
again-by false false false settled same false false place n many kept last e = absurd (cc e)

not-not : (b : Bool) → not b ≡ false → b ≡ true
not-not true e = refl
not-not false e = absurd (cc e)

is-again : (chain : ChainState) (sender : Name) (place : ℕ) (previous : Link) (kind : Kind) (text : Text) (n : ℕ) → place_verdict chain sender place previous kind text ≡ verdict.Again n → IsAgain chain sender place n
is-again chain sender place previous kind text n e =
    let (at, wrong, held) = again-by (not (same_name sender (maker_at chain place))) (nat_lt (length chain.texts + 1) place) (nat_le place (length chain.texts)) (is_settled chain place) (bytes_eq text (text_at chain.texts place))
    (not (same_link previous (last_link chain.texts))) (extends chain.tale kind) place n (length chain.texts) (link_at chain.texts place) (last_link chain.texts) e in
    record { place_is = at; sender_is = not-not _ wrong; held = held }

-- the rule takes what goes on with the tale and is of the other side
took-free : (role : Role) (v : View) (k : Kind) → maker k ≡ Some (other role) → IsTale (v.tale ++ k ∷ []) → RoleRule role v (Took k)
took-free Origin v k m h = Free (m, h)
took-free Recipient v k m h = Free (m, h)

-- a formed part of that kind is a proposal
proposal-of : (q : Part) → IsPart q → part_kind q ≡ TransferProposal → (terms : Terms) × (q ≡ part.Proposal terms)
proposal-of (part.Proposal terms) f e = (terms, refl)
proposal-of (part.Reject reason) f e = absurd (cc e)
proposal-of (part.Plain k) f e = absurd (not-plain k f e)
  where
    not-plain : (k : Kind) → IsPart (part.Plain k) → k ≡ TransferProposal → ⊥
    not-plain k f e = let g = subst (λ j. IsPart (part.Plain j)) e f in cc g

-- what a verdict but that of a wrong sender is of is a chain message
pub chain-body : (chain : ChainState) (sender : Name) (t : Text) (b : Body) (v : Verdict) → body_verdict chain sender t b ≡ v → (v ≡ verdict.WrongSender → ⊥) → (place : ℕ) × (previous : Link) × (q : Part) × (b ≡ body.Chain place previous q)
chain-body chain sender t (body.Chain place previous q) v e n = (place, previous, q, refl)
chain-body chain sender t (body.Recover k last) v e n = absurd (n (sym e))
chain-body chain sender t (body.Update k entries) v e n = absurd (n (sym e))
chain-body chain sender t (body.Success k last) v e n = absurd (n (sym e))

-- the first of a chain is a proposal
pub first-proposal : (p : Party) (xs : List Stored) (s : SessionId) (m : Message) (t : Text) (place : ℕ) (previous : Link) (q : Part) → IsMessage m → m.body ≡ body.Chain place previous q → slot_in s xs ≡ None → verdict_in p xs s m t ≡ verdict.Next
    → (terms : Terms) × (q ≡ part.Proposal terms)
first-proposal p xs s m t place previous q formed is so ve =
    let f : IsPlace place × IsPart q = subst IsBody is formed.0 in
    let at = ap (λ c. body_verdict (chain_of p s None) m.sender t c) (sym is) ∙ ap (λ x. verdict_on (chain_of p s x) m t) (sym so) ∙ ve in
    let h = taken (chain_of p s None) m.sender place previous q t at in
    proposal-of q f.1 (kind_eq-is _ _ (extends-by [] (part_kind q) (tale-is [] here) (extends-tale [] (part_kind q) (tale-is [] here) h.goes)))

-- ---- what is heard of the chain

module _ (p : Party) (differ : p.name ≡ p.peer → ⊥) (xs : List Stored) (log : IsLog p xs) (s : SessionId) (m : Message) (t : Text) (own_text : IsOwn p.key t m) (session : m.session ≡ s) (place : ℕ) (previous : Link) (q : Part) (is : m.body ≡ body.Chain place previous q) where
  formed : IsPlace place × IsPart q
  formed = subst IsBody is own_text.0.0

  verdict-of : (o : Option Slot) (v : Verdict) → slot_in s xs ≡ o → verdict_in p xs s m t ≡ v → place_verdict (chain_of p s o) m.sender place previous (part_kind q) t ≡ v
  verdict-of o v so ve = ap (λ c. body_verdict (chain_of p s o) m.sender t c) (sym is) ∙ ap (λ x. verdict_on (chain_of p s x) m t) (sym so) ∙ ve

  -- a text that is the next is one that the rule allows and the chain's next
  pub next-may : (l : Slot) → slot_in s xs ≡ Some l → is_misaddressed p m ≡ false → verdict_in p xs s m t ≡ verdict.Next → MayCome p xs (stored s (Took (part_kind q)) t)
  next-may l so addressed ve =
      let (receiver, sender) = from-peer p m addressed in
      let h = taken (chain_of p s (Some l)) m.sender place previous q t (verdict-of (Some l) verdict.Next so ve) in
      let named = view-of p xs s l so in
      let texts = texts-of p xs s l so in
      let of = log-sessions p xs log s l.view named in
      let tale = reached-tale l.view.role l.view of.reached in
      let turn : role_at place ≡ other l.view.role = peer-place p differ s l.view.role (role_at place) of.role (sym h.sender_is ∙ sender) in
      let to : m.receiver ≡ name_of s (recipient_at p l.view.role) (other (role_at place)) = receiver ∙ sym (taker-me p differ s l.view.role of.role) ∙ ap (name_of s (recipient_at p l.view.role)) (sym (ap other turn ∙ twice l.view.role)) in
      let same = next-is-text p.key s (recipient_at p l.view.role) l.texts m t place previous q session is h.place_is h.previous_is h.sender_is to own_text.1 in
      let longer = extends-tale l.view.tale (part_kind q) tale h.goes in
      let long : length l.texts ≡ length l.view.tale = ap length (sym texts) ∙ chain-length s _ p.key l.view (chain_in s xs) of.chain in
      let by : maker (part_kind q) ≡ Some (other l.view.role) = maker-at l.view.tale (part_kind q) tale longer ∙ ap (λ n. Some (role_at n)) (ap (λ n. n + 1) (sym long) ∙ sym h.place_is) ∙ ap Some turn in
      let there = subst (λ ts. MayCome p xs (stored s (Took (part_kind q)) (next_text s (recipient_at p l.view.role) p.key ts q))) texts (Takes s l.view q named (took-free l.view.role l.view (part_kind q) by longer) formed.1) in
      subst (λ u. MayCome p xs (stored s (Took (part_kind q)) u)) (sym same) there

  -- with the first text
  pub first-text : slot_in s xs ≡ None → is_misaddressed p m ≡ false → verdict_in p xs s m t ≡ verdict.Next → t ≡ next_text s p.name p.key [] q
  first-text so addressed ve =
      let (receiver, sender) = from-peer p m addressed in
      let h = taken (chain_of p s None) m.sender place previous q t (verdict-of None verdict.Next so ve) in
      let to : m.receiver ≡ name_of s p.name (other (role_at place)) = receiver ∙ sym (ap (λ n. name_of s p.name (other (role_at n))) h.place_is) in
      next-is-text p.key s p.name [] m t place previous q session is h.place_is h.previous_is h.sender_is to own_text.1

  -- one that the chain has already is the peer's, so that the place after it is this side's
  pub again-place : (l : Slot) (n : ℕ) → slot_in s xs ≡ Some l → is_misaddressed p m ≡ false → verdict_in p xs s m t ≡ verdict.Again n → role_at (n + 1) ≡ l.view.role
  again-place l n so addressed ve =
      let (receiver, sender) = from-peer p m addressed in
      let k = is-again (chain_of p s (Some l)) m.sender place previous (part_kind q) t n (verdict-of (Some l) (verdict.Again n) so ve) in
      let of = (log-sessions p xs log s l.view (view-of p xs s l so)).role in
      let turn = peer-place p differ s l.view.role (role_at place) of (sym (same-is m.sender (name_of s (recipient_at p l.view.role) (role_at place)) k.sender_is) ∙ sender) in
      role-next n ∙ ap (λ x. other (role_at x)) k.place_is ∙ ap other turn ∙ twice l.view.role

  -- an empty chain has none
  pub again-none : (n : ℕ) → slot_in s xs ≡ None → verdict_in p xs s m t ≡ verdict.Again n → ⊥
  again-none n so ve =
      let k = is-again (chain_of p s None) m.sender place previous (part_kind q) t n (verdict-of None (verdict.Again n) so ve) in
      let low = formed.0.low in
      let held = leb-true place 0 k.held in
      absurd (omega (arith, low, held))
