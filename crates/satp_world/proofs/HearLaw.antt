-- The moves of a gateway that takes a message of its peer.
use Rattle.std.proofs.Common.{◌≡◌, ℕ, ◌+◌, Bool, true, false, List, [], ◌∷◌, ◌++◌, length, Some, None, refl, sym, ap, subst, ◌∙◌, if◌then◌else◌, not}
use Rattle.std.specs.Prelude.{nat_le, nat_lt}
use Rattle.std.specs.Str.{bytes_eq}
use Rattle.std.proofs.lemmas.Bool.{leb-false}
use Rattle.satp_base.specs.Canonical.{part_kind}
use Rattle.satp_base.specs.Chains.{last_link, link_at, message_at, name_of, next_text, role_at}
use Rattle.satp_base.specs.Forms.{IsPart}
use Rattle.satp_base.specs.Founding.{Founding}
use Rattle.satp_base.specs.Roles.{RoleRule}
use Rattle.satp_base.specs.Roles.RoleRule.{Free}
use Rattle.satp_base.specs.Signatures.{own}
use Rattle.satp_base.specs.Tales.{IsTale, maker, other}
use Rattle.satp_base.specs.Verdicts.{ChainState, extends, is_settled, maker_at, place_verdict, same_link, same_name, text_at}
use Rattle.satp_base.specs.Views.{begin}
use Rattle.satp_base.specs.declared.message.Body.TheVariants as body
use Rattle.satp_base.specs.declared.message.Kind.{Kind}
use Rattle.satp_base.specs.declared.message.Kind.TheVariants.{TransferProposal}
use Rattle.satp_base.specs.declared.message.Link.{Link}
use Rattle.satp_base.specs.declared.message.Message.{Message}
use Rattle.satp_base.specs.declared.message.Part.{Part}
use Rattle.satp_base.specs.declared.message.Part.TheVariants as part
use Rattle.satp_base.specs.declared.message.Role.{Role}
use Rattle.satp_base.specs.declared.message.Role.TheVariants.{Origin, Recipient}
use Rattle.satp_base.specs.declared.message.Terms.{Terms}
use Rattle.satp_base.specs.declared.name.Name.{Name}
use Rattle.satp_base.specs.declared.record.Rec.TheVariants.{Began, Took}
use Rattle.satp_base.specs.declared.session.SessionId.{SessionId}
use Rattle.satp_base.specs.declared.verdict.Verdict.TheVariants as verdict
use Rattle.satp_base.specs.declared.view.View.{View}
use Rattle.satp_base.proofs.Places.{maker-at}
use Rattle.satp_base.proofs.TaleTable.{kind_eq-is, tale-is, extends-by}
use Rattle.satp_base.proofs.Finite.In.{here}
use Rattle.satp_base.proofs.VerdictLemmas.{extends-tale, taken}
use Rattle.satp_sides.specs.Calls.{chain_of, is_full, last_own, taken as take_run}
use Rattle.satp_sides.specs.LogLaws.{IsOfRole}
use Rattle.satp_sides.specs.Logs.{IsLog, MayCome}
use Rattle.satp_sides.specs.Logs.MayCome.{Accepts, Takes}
use Rattle.satp_sides.specs.Moves.{Delivered, IsMove}
use Rattle.satp_sides.specs.Points.{Party, Side, Slot, Text, chain_in, moved, noted, recipient_at, slot, stored, view_in}
use Rattle.satp_sides.specs.Points.Move.{Appends}
use Rattle.satp_sides.proofs.LogLaw.{log-grows, log-sessions, reached-tale}
use Rattle.satp_sides.proofs.LogTexts.{chain-length}
use Rattle.satp_sides.proofs.Records.{chain-here, chain-none, session-self, view-first}
use Rattle.satp_world.specs.Work.{RunGoes}
use Rattle.satp_world.specs.Worlds.{Gateway, Setting, party_at}
use Rattle.satp_world.specs.Worlds.Gateway.{A, B}
use Rattle.satp_world.proofs.DueMoves.{SlotAt, Stores, slot-more}
use Rattle.satp_world.proofs.Replies.{last-own-says}
use Rattle.satp_world.proofs.RunLaw.{named-by, runs-one}
use Rattle.satp_world.proofs.WorkLaw.{IsSideOf}

-- ---- names

pub party-apart : (st : Setting) (g : Gateway) → (party_at st g).name ≡ (party_at st g).peer → ⊥
party-apart st A e = st.differ e
party-apart st B e = st.differ (sym e)

module _ (p : Party) (differ : p.name ≡ p.peer → ⊥) (s : SessionId) where
  -- the peer's places are the other role's
  pub peer-place : (role x : Role) → IsOfRole p s role → name_of s (recipient_at p role) x ≡ p.peer → x ≡ other role
  peer-place Origin Origin k e = absurd (differ (sym k ∙ e))
  peer-place Origin Recipient k e = refl
  peer-place Recipient Origin k e = refl
  peer-place Recipient Recipient k e = absurd (differ e)

  pub taker-me : (role : Role) → IsOfRole p s role → name_of s (recipient_at p role) role ≡ p.name
  taker-me Origin k = k
  taker-me Recipient k = refl

  -- a session gives a gateway one role
  pub role-one : (x y : Role) → IsOfRole p s x → IsOfRole p s y → x ≡ y
  role-one Origin Origin k h = refl
  role-one Recipient Recipient k h = refl
  role-one Origin Recipient k h = absurd (differ (sym k ∙ h))
  role-one Recipient Origin k h = absurd (differ (sym h ∙ k))

twice : (role : Role) → other (other role) ≡ role
twice Origin = refl
twice Recipient = refl

-- ---- the text of the next message

next-is-text : (key : List ℕ) (s : SessionId) (recipient : Name) (texts : List Text) (m : Message) (t : Text) (place : ℕ) (previous : Link) (q : Part)
    → m.session ≡ s → m.body ≡ body.Chain place previous q → place ≡ length texts + 1 → previous ≡ last_link texts
    → m.sender ≡ name_of s recipient (role_at place) → m.receiver ≡ name_of s recipient (other (role_at place)) → t ≡ own key m → t ≡ next_text s recipient key texts q
next-is-text key s recipient texts m t place previous q session is at link sender receiver text =
    let sender' : m.sender ≡ name_of s recipient (role_at (length texts + 1)) = sender ∙ ap (λ n. name_of s recipient (role_at n)) at in
    let receiver' : m.receiver ≡ name_of s recipient (other (role_at (length texts + 1))) = receiver ∙ ap (λ n. name_of s recipient (other (role_at n))) at in
    let is' : m.body ≡ body.Chain (length texts + 1) (last_link texts) q = is ∙ ap (λ n. body.Chain n previous q) at ∙ ap (λ l. body.Chain (length texts + 1) l q) link in
    let same : m ≡ message_at s recipient (length texts + 1) (last_link texts) q = λ i. record { session = session i; sender = sender' i; receiver = receiver' i; body = is' i } in
    text ∙ ap (own key) same

-- ---- verdicts

-- a text that stands again is for a place that the chain has
pub record IsAgain (chain : ChainState) (sender : Name) (place n : ℕ) : Type 0 where
  pub place_is : n ≡ place
  pub sender_is : same_name sender (maker_at chain place) ≡ true
  pub held : nat_le place (length chain.texts) ≡ true

again-by : (wrong far held settled same differs goes : Bool) (place n many : ℕ) (kept last : Link)
    → (if wrong then verdict.WrongSender else if far then verdict.Gap many else if held then (if settled then verdict.Again place else if same then verdict.Again place else verdict.Other place kept)
    else (if differs then verdict.WrongPrevious last else if goes then verdict.Next else verdict.OffTale place)) ≡ verdict.Again n
    → (n ≡ place) × (wrong ≡ false) × (held ≡ true)
again-by true far held settled same differs goes place n many kept last e = absurd (cc e)
again-by false true held settled same differs goes place n many kept last e = absurd (cc e)
again-by false false true true same differs goes place n many kept last e = (cc e, refl, refl)
again-by false false true false true differs goes place n many kept last e = (cc e, refl, refl)
again-by false false true false false differs goes place n many kept last e = absurd (cc e)
again-by false false false settled same true goes place n many kept last e = absurd (cc e)
again-by false false false settled same false true place n many kept last e = absurd (cc e)
again-by false false false settled same false false place n many kept last e = absurd (cc e)

not-not : (b : Bool) → not b ≡ false → b ≡ true
not-not true e = refl
not-not false e = absurd (cc e)

pub is-again : (chain : ChainState) (sender : Name) (place : ℕ) (previous : Link) (kind : Kind) (text : Text) (n : ℕ) → place_verdict chain sender place previous kind text ≡ verdict.Again n → IsAgain chain sender place n
is-again chain sender place previous kind text n e =
    let (at, wrong, held) = again-by (not (same_name sender (maker_at chain place))) (nat_lt (length chain.texts + 1) place) (nat_le place (length chain.texts)) (is_settled chain place) (bytes_eq text (text_at chain.texts place))
    (not (same_link previous (last_link chain.texts))) (extends chain.tale kind) place n (length chain.texts) (link_at chain.texts place) (last_link chain.texts) e in
    record { place_is = at; sender_is = not-not _ wrong; held = held }

-- ---- a message is stored

module _ (p : Party) (s : SessionId) (side : Side) where
  pub took-may : (l : Slot) (q : Part) (t : Text) → SlotAt p s side l → RoleRule l.view.role l.view (Took (part_kind q)) → IsPart q → t ≡ next_text s (recipient_at p l.view.role) p.key l.texts q → MayCome p side.records (stored s (Took (part_kind q)) t)
  took-may l q t at rule f text =
      let there = subst (λ ts. MayCome p side.records (stored s (Took (part_kind q)) (next_text s (recipient_at p l.view.role) p.key ts q))) at.texts (Takes s l.view q at.named rule f) in
      subst (λ u. MayCome p side.records (stored s (Took (part_kind q)) u)) (sym text) there

  -- the first record of a session of the peer
  pub record MayBegin (terms : Terms) (t : Text) : Type 0 where
    pub may : MayCome p side.records (stored s (Began Recipient terms) t)
    pub slot : SlotAt p s (moved side (Appends (stored s (Began Recipient terms) t))) (slot (begin Recipient terms) (t ∷ []))

  pub begin-may : (terms : Terms) (t : Text) → IsLog p side.records → s.gateway ≡ p.peer → view_in s side.records ≡ None → is_full Recipient side.records ≡ false → t ≡ next_text s p.name p.key [] (part.Proposal terms) → MayBegin terms t
  begin-may terms t log gate none room text =
      let unnamed = named-by p s side.records log none in
      let first = Accepts s terms gate unnamed (leb-false _ _ room) in
      let may = subst (λ u. MayCome p side.records (stored s (Began Recipient terms) u)) (sym text) first in
      let x = stored s (Began Recipient terms) t in
      record {
        may = may;
        slot = record {
          log = (log-grows p).more side.records x log may;
          named = view-first s side.records x (session-self s) unnamed;
          texts = chain-here s side.records x (session-self s) ∙ ap (λ ts. ts ++ t ∷ []) (chain-none s side.records unnamed);
        };
      }

module _ (p : Party) (s : SessionId) (side : Side) (bag : List Text) where
  took-stores : (l : Slot) (q : Part) (t : Text) → SlotAt p s side l → RoleRule l.view.role l.view (Took (part_kind q)) → IsPart q → Delivered p.key bag t → t ≡ next_text s (recipient_at p l.view.role) p.key l.texts q
      → Stores p s side bag l (Took (part_kind q)) t
  took-stores l q t at rule f d text =
      let may = took-may p s side l q t at rule f text in
      record { move = record { may_come = may; arrives = d; fits = λ v e. tt }; slot = slot-more p s side l (Took (part_kind q)) t at may }

  record Begins (terms : Terms) (t : Text) : Type 0 where
    move : IsMove p side bag (Appends (stored s (Began Recipient terms) t))
    slot : SlotAt p s (moved side (Appends (stored s (Began Recipient terms) t))) (slot (begin Recipient terms) (t ∷ []))

  begin-stores : (terms : Terms) (t : Text) → IsLog p side.records → s.gateway ≡ p.peer → view_in s side.records ≡ None → is_full Recipient side.records ≡ false → Delivered p.key bag t → t ≡ next_text s p.name p.key [] (part.Proposal terms) → Begins terms t
  begin-stores terms t log gate none room d text =
      let k = begin-may p s side terms t log gate none room text in
      record { move = record { may_come = k.may; arrives = d; fits = λ v e. tt }; slot = k.slot }

-- the rule takes what goes on with the tale and is of the other side
took-free : (role : Role) (v : View) (k : Kind) → maker k ≡ Some (other role) → IsTale (v.tale ++ k ∷ []) → RoleRule role v (Took k)
took-free Origin v k m h = Free (m, h)
took-free Recipient v k m h = Free (m, h)

-- a formed part of that kind is a proposal
proposal-of : (q : Part) → IsPart q → part_kind q ≡ TransferProposal → (terms : Terms) × (q ≡ part.Proposal terms)
proposal-of (part.Proposal terms) f e = (terms, refl)
proposal-of (part.Reject reason) f e = absurd (cc e)
proposal-of (part.Plain k) f e = absurd (not-plain k f e)
  where
    not-plain : (k : Kind) → IsPart (part.Plain k) → k ≡ TransferProposal → ⊥
    not-plain k f e = let g = subst (λ j. IsPart (part.Plain j)) e f in cc g

-- ---- what is heard of the chain

module _ (p : Party) (differ : p.name ≡ p.peer → ⊥) (s : SessionId) (side : Side) where
  -- a text that is the next is one that the rule allows and the chain's next
  pub next-taken : (l : Slot) (m : Message) (t : Text) (place : ℕ) (previous : Link) (q : Part) → SlotAt p s side l → m.session ≡ s → m.body ≡ body.Chain place previous q
      → t ≡ own p.key m → m.receiver ≡ p.name → m.sender ≡ p.peer → place_verdict (chain_of p s (Some l)) m.sender place previous (part_kind q) t ≡ verdict.Next
      → RoleRule l.view.role l.view (Took (part_kind q)) × (t ≡ next_text s (recipient_at p l.view.role) p.key l.texts q)
  next-taken l m t place previous q at session is text receiver sender next =
      let h = taken (chain_of p s (Some l)) m.sender place previous q t next in
      let of = log-sessions p side.records at.log s l.view at.named in
      let tale = reached-tale l.view.role l.view of.reached in
      let turn : role_at place ≡ other l.view.role = peer-place p differ s l.view.role (role_at place) of.role (sym h.sender_is ∙ sender) in
      let to : m.receiver ≡ name_of s (recipient_at p l.view.role) (other (role_at place)) = receiver ∙ sym (taker-me p differ s l.view.role of.role) ∙ ap (name_of s (recipient_at p l.view.role)) (sym (ap other turn ∙ twice l.view.role)) in
      let same = next-is-text p.key s (recipient_at p l.view.role) l.texts m t place previous q session is h.place_is h.previous_is h.sender_is to text in
      let longer = extends-tale l.view.tale (part_kind q) tale h.goes in
      let long : length l.texts ≡ length l.view.tale = ap length (sym at.texts) ∙ chain-length s _ p.key l.view (chain_in s side.records) of.chain in
      let by : maker (part_kind q) ≡ Some (other l.view.role) = maker-at l.view.tale (part_kind q) tale longer ∙ ap (λ n. Some (role_at n)) (ap (λ n. n + 1) (sym long) ∙ sym h.place_is) ∙ ap Some turn in
      (took-free l.view.role l.view (part_kind q) by longer, same)

  -- and one that is the first is a proposal
  pub first-taken : (m : Message) (t : Text) (place : ℕ) (previous : Link) (q : Part) → m.session ≡ s → m.body ≡ body.Chain place previous q → IsPart q → t ≡ own p.key m → m.receiver ≡ p.name
      → place_verdict (chain_of p s None) m.sender place previous (part_kind q) t ≡ verdict.Next → (terms : Terms) × (q ≡ part.Proposal terms) × (t ≡ next_text s p.name p.key [] (part.Proposal terms))
  first-taken m t place previous q session is f text receiver next =
      let h = taken (chain_of p s None) m.sender place previous q t next in
      let one : place ≡ 1 = h.place_is in
      let to : m.receiver ≡ name_of s p.name (other (role_at place)) = receiver ∙ sym (ap (λ n. name_of s p.name (other (role_at n))) one) in
      let same = next-is-text p.key s p.name [] m t place previous q session is h.place_is h.previous_is h.sender_is to text in
      let kind : part_kind q ≡ TransferProposal = kind_eq-is _ _ (extends-by [] (part_kind q) (tale-is [] here) (extends-tale [] (part_kind q) (tale-is [] here) h.goes)) in
      let (terms, proposal) = proposal-of q f kind in
      (terms, proposal, same ∙ ap (next_text s p.name p.key []) proposal)

module _ (st : Setting) (a b : Founding) (g : Gateway) (s : SessionId) (side : Side) (bag : List Text) (k : IsSideOf st a b g side bag) (log : IsLog (party_at st g) side.records) where
  abbrev me : Party
  me = party_at st g

  pub take-named : (l : Slot) (m : Message) (t : Text) (place : ℕ) (previous : Link) (q : Part) → SlotAt (party_at st g) s side l → m.session ≡ s → m.body ≡ body.Chain place previous q → IsPart q
      → t ≡ own st.key m → m.receiver ≡ (party_at st g).name → m.sender ≡ (party_at st g).peer → Delivered st.key bag t
      → place_verdict (chain_of (party_at st g) s (Some l)) m.sender place previous (part_kind q) t ≡ verdict.Next
      → RunGoes (party_at st g) side bag (take_run (party_at st g) side s (Some l) q t)
  take-named l m t place previous q at session is f text receiver sender d next =
      let p = party_at st g in
      let (rule, same) = next-taken p (party-apart st g) s side l m t place previous q at session is text receiver sender next in
      let stores = took-stores p s side bag l q t at rule f d same in
      runs-one st a b g s side bag (stored s (Took (part_kind q)) t) (noted l s (Took (part_kind q)) t) last_own k stores.move stores.slot (λ side' l' k' at' r few u e. last-own-says p s side' bag l' at' u e)

  pub take-first : (m : Message) (t : Text) (place : ℕ) (previous : Link) (q : Part) → view_in s side.records ≡ None → s.gateway ≡ (party_at st g).peer → is_full Recipient side.records ≡ false → m.session ≡ s → m.body ≡ body.Chain place previous q → IsPart q
      → t ≡ own st.key m → m.receiver ≡ (party_at st g).name → Delivered st.key bag t
      → place_verdict (chain_of (party_at st g) s None) m.sender place previous (part_kind q) t ≡ verdict.Next
      → RunGoes (party_at st g) side bag (take_run (party_at st g) side s None q t)
  take-first m t place previous q none gate room session is f text receiver d next =
      let p = party_at st g in
      let (terms, proposal, same) = first-taken p (party-apart st g) s side m t place previous q session is f text receiver next in
      let begins = begin-stores p s side bag terms t log gate none room d same in
      subst (λ x. RunGoes p side bag (take_run p side s None x t)) (sym proposal)
      (runs-one st a b g s side bag (stored s (Began Recipient terms) t) (slot (begin Recipient terms) (t ∷ [])) last_own k begins.move begins.slot (λ side' l' k' at' r few u e. last-own-says p s side' bag l' at' u e))
