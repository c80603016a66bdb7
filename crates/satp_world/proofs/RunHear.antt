-- The moves of a gateway that hears a message of its peer, kind by kind.
use Rattle.std.proofs.Common.{◌≡◌, ℕ, zero, suc, ◌+◌, ◌-◌, ◌≤◌, Bool, true, false, List, [], ◌∷◌, length, Option, Some, None, Result, Ok, Err, refl, sym, ap, subst, ◌∙◌, arith, if◌then◌else◌}
use Rattle.std.specs.Prelude.{drop, is_some}
use Rattle.std.proofs.lemmas.Bool.{leb-true}
use Rattle.satp_base.specs.Canonical.{part_kind}
use Rattle.satp_base.specs.Chains.{head_of, name_of, role_at}
use Rattle.satp_base.specs.Forms.{IsBody, IsMessage, IsPart, IsPlace}
use Rattle.satp_base.specs.Founding.{Founding, equal_names}
use Rattle.satp_base.specs.Roles.{both, negate}
use Rattle.satp_base.specs.Signatures.{own}
use Rattle.satp_base.specs.Tales.{other}
use Rattle.satp_base.specs.Verdicts.{body_verdict, place_verdict, same_name, verdict_on}
use Rattle.satp_base.specs.declared.message.Body.{Body}
use Rattle.satp_base.specs.declared.message.Body.TheVariants as body
use Rattle.satp_base.specs.declared.message.Link.{Link}
use Rattle.satp_base.specs.declared.message.Message.{Message}
use Rattle.satp_base.specs.declared.message.Part.{Part}
use Rattle.satp_base.specs.declared.message.Role.TheVariants.{Recipient}
use Rattle.satp_base.specs.declared.name.Name.{Name}
use Rattle.satp_base.specs.declared.session.SessionId.{SessionId}
use Rattle.satp_base.specs.declared.verdict.Verdict.{Verdict}
use Rattle.satp_base.specs.declared.verdict.Verdict.TheVariants as verdict
use Rattle.satp_base.proofs.Exact as exact
use Rattle.std.specs.Cmp.Lexicographic.{same_text}
use Rattle.satp_base.proofs.GenesisLemmas.{equal_name}
use Rattle.satp_sides.specs.Calls.{Refusal, refusal_of, run_of, adopted, adopted_as, asked, fault_in, is_adopt, is_adopted, own_at, replied, step_refusal, update_text, updated, body_refusal, by_tests, chain_of, first_refusal, heard, heard_as, is_full, is_misaddressed, is_next, is_strange, named, runs, taken, again_reply, test, unfit, verdict_in, would_begin, would_take, IsEntryOf}
use Rattle.satp_sides.specs.Calls.Refusal.{Receiver, Strange, Full}
use Rattle.satp_sides.specs.Logs.{IsLog}
use Rattle.satp_sides.specs.Moves.{Among, Delivered, Sayable, last_texts, message_from}
use Rattle.satp_sides.specs.Moves.Among.{first}
use Rattle.satp_sides.specs.Moves.Delivered.{Listed}
use Rattle.satp_sides.specs.Moves.Sayable.{Knows_none}
use Rattle.satp_recovery.specs.Rounds.{Answers, Takes as TakesCases, answer_of, take_of}
use Rattle.satp_recovery.specs.Rounds.Answers.{Apart as Answered_apart, OneMore, AsMany, OneFewer, OtherLast, OtherBefore}
use Rattle.satp_recovery.specs.Rounds.Takes.{Apart as Takes_apart, Adopts, AsMany as Takes_as_many, Resends, NoneCame, TooMany, NoneWanted}
use Rattle.satp_recovery.specs.declared.choice.RecoveryFault.{RecoveryFault}
use Rattle.satp_recovery.specs.declared.choice.Step.{Step}
use Rattle.satp_recovery.specs.declared.choice.Step.TheVariants.{Adopt, Equal, Resend}
use Rattle.satp_recovery.proofs.RoundLemmas.{by-answers, by-takes}
use Rattle.satp_base.specs.declared.head.Head.{Head}
use Rattle.satp_sides.proofs.Records.{chain-none, is-session}
use Rattle.satp_world.proofs.Limits.{idle}
use Rattle.satp_sides.specs.Points.{Party, Slot, Stored, Text, chain_in, most_sessions, recipient_at, slot_in}
use Rattle.satp_sides.proofs.LogLaw.{log-sessions}
use Rattle.satp_world.specs.Work.{HeardRunsMove, RunGoes}
use Rattle.satp_world.specs.Worlds.{Gateway, Reached, Setting, World, party_at, side_at}
use Rattle.satp_world.proofs.HearLaw.{is-again, party-apart, peer-place, role-one, take-first, take-named}
use Rattle.satp_world.proofs.KeptLaw.{logs-kept}
use Rattle.satp_world.proofs.Replies.{again-says, own-at-says, update-says}
use Rattle.satp_world.proofs.RunLaw.{named-by, refused-goes, rescue-goes, runs-none, slot-at, view-none-of}
use Rattle.satp_world.proofs.Sources.{IsChains, alone}
use Rattle.satp_world.proofs.WorkLaw.{IsSideOf}

pub same-is : (x y : Name) → same_name x y ≡ true → x ≡ y
same-is x y h = exact.same_text x y (same_text _ _ (sym h))

-- ---- what the tests say

not-both : (x y : Bool) → negate (both x y) ≡ false → (x ≡ true) × (y ≡ true)
not-both true true e = (refl, refl)
not-both true false e = absurd (cc e)
not-both false y e = absurd (cc e)

pub addressed : (p : Party) (m : Message) → is_misaddressed p m ≡ false → (m.receiver ≡ p.name) × (m.sender ≡ p.peer)
addressed p m e = let (x, y) = not-both (equal_names m.receiver p.name) (equal_names m.sender p.peer) e in (equal_name m.receiver p.name x, equal_name m.sender p.peer y)

strange-by : (own peer : Bool) (o : Option Slot) → (if own then negate (is_some o) else negate peer) ≡ false → o ≡ None → peer ≡ true
strange-by true peer None e h = absurd (cc e)
strange-by true peer (Some l) e h = absurd (cc h)
strange-by false true o e h = refl
strange-by false false o e h = absurd (cc e)

pub of-peer : (p : Party) (xs : List Stored) (s : SessionId) → is_strange p xs s ≡ false → slot_in s xs ≡ None → s.gateway ≡ p.peer
of-peer p xs s e none = equal_name s.gateway p.peer (strange-by (equal_names s.gateway p.name) (equal_names s.gateway p.peer) (slot_in s xs) e none)

pub begins-not : (o : Option Slot) (takes full : Bool) → both (both (negate (is_some o)) takes) full ≡ false → o ≡ None → takes ≡ true → full ≡ false
begins-not None true full e h t = e
begins-not None false full e h t = absurd (cc t)
begins-not (Some l) takes full e h t = absurd (cc h)

module _ (st : Setting) (a b : Founding) (w : World) (r : Reached st a b w) (g : Gateway) (m : Message) (t : Text) (e : Option Message) (formed : IsMessage m) (text : t ≡ own st.key m) (d : Delivered st.key w.bag t) where
  abbrev me : Party
  me = party_at st g

  abbrev xs : List Stored
  xs = (side_at w g).records

  here : IsSideOf st a b g (side_at w g) w.bag
  here = record { world = w; reached = r; keeps = refl; holds = refl }

  log : IsLog (party_at st g) (side_at w g).records
  log = logs-kept st a b w r g

  -- what holds after the first two tests
  pub record Heard : Type 0 where
    pub receiver : m.receiver ≡ (party_at st g).name
    pub sender : m.sender ≡ (party_at st g).peer
    pub gate : slot_in m.session (side_at w g).records ≡ None → m.session.gateway ≡ (party_at st g).peer

  abbrev pub Room : Body → Type 0
  Room c = slot_in m.session (side_at w g).records ≡ None → would_take (party_at st g) (side_at w g).records m t c ≡ true → is_full Recipient (side_at w g).records ≡ false

  -- ---- a chain's message

  module _ (place : ℕ) (previous : Link) (q : Part) (is : m.body ≡ body.Chain place previous q) where
    part-formed : IsPlace place × IsPart q
    part-formed = subst IsBody is formed.0

    verdict-of : (o : Option Slot) (v : Verdict) → slot_in m.session (side_at w g).records ≡ o → verdict_in (party_at st g) (side_at w g).records m.session m t ≡ v → place_verdict (chain_of (party_at st g) m.session o) m.sender place previous (part_kind q) t ≡ v
    verdict-of o v so ve = ap (λ c. body_verdict (chain_of (party_at st g) m.session o) m.sender t c) (sym is) ∙ ap (λ x. verdict_on (chain_of (party_at st g) m.session x) m t) (sym so) ∙ ve

    pub next-goes : (o : Option Slot) → Heard → slot_in m.session (side_at w g).records ≡ o → (o ≡ None → is_full Recipient (side_at w g).records ≡ false) → verdict_in (party_at st g) (side_at w g).records m.session m t ≡ verdict.Next
        → RunGoes (party_at st g) (side_at w g) w.bag (taken (party_at st g) (side_at w g) m.session o q t)
    next-goes (Some l) h so room ve =
        take-named st a b g m.session (side_at w g) w.bag here log l m t place previous q (slot-at st a b w r g m.session l so) refl is part-formed.1 text h.receiver h.sender d (verdict-of (Some l) verdict.Next so ve)
    next-goes None h so room ve =
        take-first st a b g m.session (side_at w g) w.bag here log m t place previous q (view-none-of st a b w r g m.session so) (h.gate so) (room refl) refl is part-formed.1 text h.receiver d (verdict-of None verdict.Next so ve)

    again-goes : (o : Option Slot) (n : ℕ) → Heard → slot_in m.session (side_at w g).records ≡ o → verdict_in (party_at st g) (side_at w g).records m.session m t ≡ verdict.Again n
        → RunGoes (party_at st g) (side_at w g) w.bag (named (λ l. runs (party_at st g) (side_at w g) m.session l [] (again_reply n)) o)
    again-goes None n h so ve =
        let k = is-again (chain_of (party_at st g) m.session None) m.sender place previous (part_kind q) t n (verdict-of None (verdict.Again n) so ve) in
        let low = part-formed.0.low in
        let held = leb-true place 0 k.held in
        absurd (omega (arith, low, held))
    again-goes (Some l) n h so ve =
        let p = party_at st g in
        let at = slot-at st a b w r g m.session l so in
        let k = is-again (chain_of p m.session (Some l)) m.sender place previous (part_kind q) t n (verdict-of (Some l) (verdict.Again n) so ve) in
        let of = (log-sessions p (side_at w g).records at.log m.session l.view at.named).role in
        let turn : role_at place ≡ other l.view.role = peer-place p (party-apart st g) m.session l.view.role (role_at place) of (sym (same-is m.sender (name_of m.session (recipient_at p l.view.role) (role_at place)) k.sender_is) ∙ h.sender) in
        runs-none st a b g m.session (side_at w g) w.bag l (again_reply n) here at
        (λ side' l' k' at' rest few u x.
        (let same = role-one p (party-apart st g) m.session l'.view.role l.view.role (log-sessions p side'.records at'.log m.session l'.view at'.named).role of in
        again-says p m.session side' w.bag l' at' n (ap role_at k.place_is ∙ turn ∙ ap other (sym same)) u x))

    pub chain-goes : (v : Verdict) → Heard → Room (body.Chain place previous q) → verdict_in (party_at st g) (side_at w g).records m.session m t ≡ v → unfit v ≡ None
        → RunGoes (party_at st g) (side_at w g) w.bag (heard_as (party_at st g) (side_at w g) m.session t q v)
    chain-goes verdict.Next h room ve u = next-goes (slot_in m.session (side_at w g).records) h refl (λ n. room n (ap is_next ve)) ve
    chain-goes (verdict.Again n) h room ve u = again-goes (slot_in m.session (side_at w g).records) n h refl ve
    chain-goes (verdict.Gap n) h room ve u = absurd (cc u)
    chain-goes (verdict.Other n link) h room ve u = absurd (cc u)
    chain-goes (verdict.WrongPrevious link) h room ve u = absurd (cc u)
    chain-goes verdict.WrongSender h room ve u = absurd (cc u)
    chain-goes (verdict.OffTale n) h room ve u = absurd (cc u)

-- ---- recovery, kind by kind

pub drop-nil : (n : ℕ) → ◌≡◌ {A = List Text} (drop n []) []
drop-nil zero = refl
drop-nil (suc n) = refl

pub near-by : (h : Head) (n : ℕ) (last : Link) (x : Result ℕ RecoveryFault) → Answers h n last x → fault_in x ≡ None → h.length ≤ n + 1
near-by h n last _ (Answered_apart f k) e = absurd (cc e)
near-by h n last _ (OneMore k) e = omega (arith, k)
near-by h n last _ (AsMany k l) e = omega (arith, k)
near-by h n last _ (OneFewer k l) e = omega (arith, k)
near-by h n last _ (OtherLast k l) e = absurd (cc e)
near-by h n last _ (OtherBefore k l) e = absurd (cc e)

resends-by : (h : Head) (n entries : ℕ) (x : Result Step RecoveryFault) (place : ℕ) → TakesCases h n entries x → x ≡ Ok (Resend place) → n + 1 ≡ h.length
resends-by h n entries _ place (Takes_apart f k) e = absurd (cc e)
resends-by h n entries _ place (Adopts k l) e = absurd (cc e)
resends-by h n entries _ place (Takes_as_many k l) e = absurd (cc e)
resends-by h n entries _ place (Resends k l) e = k
resends-by h n entries _ place (NoneCame k l) e = absurd (cc e)
resends-by h n entries _ place (TooMany k l) e = absurd (cc e)
resends-by h n entries _ place (NoneWanted k l j) e = absurd (cc e)

module _ (st : Setting) (a b : Founding) (w : World) (r : Reached st a b w) (g : Gateway) (m : Message) (t : Text) (e : Option Message) (formed : IsMessage m) (text : t ≡ own st.key m) (d : Delivered st.key w.bag t) where
  replied-goes : (reply : Option Text) → ((u : Text) → reply ≡ Some u → Sayable (party_at st g) (side_at w g).records w.bag u) → RunGoes (party_at st g) (side_at w g) w.bag (replied reply)
  replied-goes None h = record { moves = tt; answered = λ x. cc x }
  replied-goes (Some u) h = record { moves = (h u refl, tt); answered = λ x. cc x }

  asked-goes : (n : ℕ) (last : Link) → m.body ≡ body.Recover n last → (o : Option Slot) → slot_in m.session (side_at w g).records ≡ o → Heard st a b w r g m t e formed text d → fault_in (answer_of (head_of (chain_in m.session (side_at w g).records)) n last) ≡ None
      → RunGoes (party_at st g) (side_at w g) w.bag (asked (party_at st g) (side_at w g) m.session n o)
  asked-goes n last is None so h ok =
      let p = party_at st g in
      let unnamed = named-by p m.session (side_at w g).records (logs-kept st a b w r g) (view-none-of st a b w r g m.session so) in
      let in_bag = alone st a b w r t d m formed text (λ c. subst IsChains is c) in
      let said = Knows_none m n last (h.gate so) unnamed formed h.receiver is in_bag (idle st g m.session) in
      let none : last_texts (0 - n) [] ≡ [] = drop-nil (0 - (0 - n)) in
      replied-goes (Some (update_text p m.session n [])) (λ u x.
      (let same : update_text p m.session n [] ≡ u = cc x in
      subst (λ y. Sayable p (side_at w g).records w.bag y) (sym (ap (λ es. own st.key (message_from p m.session (body.Update 0 es))) none) ∙ same) said))
  asked-goes n last is (Some l) so h ok =
      let p = party_at st g in
      let at = slot-at st a b w r g m.session l so in
      let near = near-by (head_of (chain_in m.session (side_at w g).records)) n last _ (by-answers (head_of (chain_in m.session (side_at w g).records)) n last _ refl) ok in
      let long = ap length at.texts in
      rescue-goes st a b g m.session (side_at w g) w.bag l (λ after. Some (update_text p m.session n after.texts)) (record { world = w; reached = r; keeps = refl; holds = refl }) at
      (λ side' l' k' at' rest few u x.
      (let same : update_text p m.session n l'.texts ≡ u = cc x in
      subst (λ y. Sayable p side'.records w.bag y) same (update-says p m.session side' w.bag l' at' n (omega (arith, few, near, long)))))

  pub resent-goes : (n : ℕ) (entries : List Text) (place : ℕ) (o : Option Slot) → slot_in m.session (side_at w g).records ≡ o → take_of (head_of (chain_in m.session (side_at w g).records)) n (length entries) ≡ Ok (Resend place)
      → RunGoes (party_at st g) (side_at w g) w.bag (named (λ l. replied (own_at place l)) o)
  resent-goes n entries place None so taken_as =
      let unnamed = named-by (party_at st g) m.session (side_at w g).records (logs-kept st a b w r g) (view-none-of st a b w r g m.session so) in
      let empty = ap length (chain-none m.session (side_at w g).records unnamed) in
      let some = resends-by (head_of (chain_in m.session (side_at w g).records)) n (length entries) _ place (by-takes (head_of (chain_in m.session (side_at w g).records)) n (length entries) _ refl) taken_as in
      absurd (omega (arith, empty, some))
  resent-goes n entries place (Some l) so taken_as = replied-goes (own_at place l) (λ u x. own-at-says (party_at st g) m.session (side_at w g) w.bag l (slot-at st a b w r g m.session l so) place u x)

-- ---- an entry that is adopted

pub both-true : (x y : Bool) → both x y ≡ true → (x ≡ true) × (y ≡ true)
both-true true true e = (refl, refl)
both-true true false e = absurd (cc e)
both-true false y e = absurd (cc e)

pub not-true : (x : Bool) → negate x ≡ true → x ≡ false
not-true true e = absurd (cc e)
not-true false e = refl

pub next-is : (v : Verdict) → is_next v ≡ true → v ≡ verdict.Next
next-is verdict.Next e = refl
next-is (verdict.Again n) e = absurd (cc e)
next-is (verdict.Gap n) e = absurd (cc e)
next-is (verdict.Other n link) e = absurd (cc e)
next-is (verdict.WrongPrevious link) e = absurd (cc e)
next-is verdict.WrongSender e = absurd (cc e)
next-is (verdict.OffTale n) e = absurd (cc e)

pub holds-by : (x : Bool) (f : Refusal) → test (negate x) f ≡ None → x ≡ true
holds-by true f e = refl
holds-by false f e = absurd (cc e)

module _ (st : Setting) (a b : Founding) (w : World) (r : Reached st a b w) (g : Gateway) where
  abbrev Gate : SessionId → Type 0
  Gate s = slot_in s (side_at w g).records ≡ None → s.gateway ≡ (party_at st g).peer

  abbrev HasRoom : SessionId → Type 0
  HasRoom s = slot_in s (side_at w g).records ≡ None → is_full Recipient (side_at w g).records ≡ false

  adopts-here : (m : Message) (t : Text) → IsMessage m → t ≡ own st.key m → Delivered st.key w.bag t → is_misaddressed (party_at st g) m ≡ false → Gate m.session → HasRoom m.session
      → verdict_in (party_at st g) (side_at w g).records m.session m t ≡ verdict.Next → RunGoes (party_at st g) (side_at w g) w.bag (adopted_as (party_at st g) (side_at w g) m.session t m.body)
  adopts-here m t f x d to gate room ve = by m.body refl
    where
      reads : (c : Body) → m.body ≡ c → body_verdict (chain_of (party_at st g) m.session (slot_in m.session (side_at w g).records)) m.sender t c ≡ verdict.Next
      reads c is = ap (λ y. body_verdict (chain_of (party_at st g) m.session (slot_in m.session (side_at w g).records)) m.sender t y) (sym is) ∙ ve

      by : (c : Body) → m.body ≡ c → RunGoes (party_at st g) (side_at w g) w.bag (adopted_as (party_at st g) (side_at w g) m.session t c)
      by (body.Chain place previous q) is =
          let (to_me, from_peer) = addressed (party_at st g) m to in
          next-goes st a b w r g m t None f x d place previous q is (slot_in m.session (side_at w g).records) (record { receiver = to_me; sender = from_peer; gate = gate }) refl room ve
      by (body.Recover n last) is = absurd (cc (reads _ is))
      by (body.Update n entries) is = absurd (cc (reads _ is))
      by (body.Success n last) is = absurd (cc (reads _ is))

  adopts-named : (s : SessionId) (m : Message) (t : Text) → m.session ≡ s → IsMessage m → t ≡ own st.key m → Delivered st.key w.bag t → is_misaddressed (party_at st g) m ≡ false → Gate s → HasRoom s
      → verdict_in (party_at st g) (side_at w g).records s m t ≡ verdict.Next → RunGoes (party_at st g) (side_at w g) w.bag (adopted_as (party_at st g) (side_at w g) s t m.body)
  adopts-named s m t same f x d to =
      subst (λ s. Gate s → HasRoom s → verdict_in (party_at st g) (side_at w g).records s m t ≡ verdict.Next → RunGoes (party_at st g) (side_at w g) w.bag (adopted_as (party_at st g) (side_at w g) s t m.body)) same (adopts-here m t f x d to)

  adopt-goes : (s : SessionId) (entries : List Text) (e : Option Message) (n : ℕ) → IsEntryOf st.key (body.Update n entries) e → ((u : Text) → Among u entries → Delivered st.key w.bag u) → Gate s → HasRoom s
      → is_adopted (party_at st g) (side_at w g).records s entries e ≡ true → RunGoes (party_at st g) (side_at w g) w.bag (adopted (party_at st g) (side_at w g) s entries e)
  adopt-goes s [] e n is_of came gate room ok = absurd (cc ok)
  adopt-goes s (t ∷ []) None n is_of came gate room ok = absurd (cc ok)
  adopt-goes s (t ∷ []) (Some m) n is_of came gate room ok =
      let (to, more) = both-true _ _ ok in
      let (same, next) = both-true _ _ more in
      adopts-named s m t (sym (is-session s m.session same)) is_of.0 is_of.1 (came t first) (not-true _ to) gate room (next-is _ next)
  adopt-goes s (t ∷ u ∷ ts) e n is_of came gate room ok = absurd (cc ok)

-- ---- every message

module _ (st : Setting) (a b : Founding) (w : World) (r : Reached st a b w) (g : Gateway) (m : Message) (t : Text) (e : Option Message) (formed : IsMessage m) (text : t ≡ own st.key m) (d : Delivered st.key w.bag t) where
  abbrev head : Head
  head = head_of (chain_in m.session (side_at w g).records)

  update-goes : (n : ℕ) (entries : List Text) → m.body ≡ body.Update n entries → Heard st a b w r g m t e formed text d → IsEntryOf st.key (body.Update n entries) e → (x : Result Step RecoveryFault)
      → take_of head n (length entries) ≡ x → (slot_in m.session (side_at w g).records ≡ None → is_adopt x ≡ true → is_full Recipient (side_at w g).records ≡ false)
      → step_refusal (is_adopted (party_at st g) (side_at w g).records m.session entries e) x ≡ None
      → RunGoes (party_at st g) (side_at w g) w.bag (updated (party_at st g) (side_at w g) m.session entries e x)
  update-goes n entries is h of (Err f) te room ok = absurd (cc ok)
  update-goes n entries is h of (Ok Equal) te room ok = replied-goes st a b w r g m t e formed text d None (λ u x. cc x)
  update-goes n entries is h of (Ok (Resend place)) te room ok = resent-goes st a b w r g m t e formed text d n entries place (slot_in m.session (side_at w g).records) refl te
  update-goes n entries is h of (Ok (Adopt place)) te room ok =
      let in_bag = alone st a b w r t d m formed text (λ c. subst IsChains is c) in
      adopt-goes st a b w r g m.session entries e n of (λ u i. Listed m n entries formed in_bag is i) h.gate (λ none. room none refl) (holds-by _ _ ok)

  body-goes : (c : Body) → m.body ≡ c → Heard st a b w r g m t e formed text d → IsEntryOf st.key c e → Room st a b w r g m t e formed text d c → body_refusal (party_at st g) (side_at w g).records m t e c ≡ None
      → RunGoes (party_at st g) (side_at w g) w.bag (heard (party_at st g) (side_at w g) m t e c)
  body-goes (body.Chain place previous q) is h of room ok = chain-goes st a b w r g m t e formed text d place previous q is _ h room refl ok
  body-goes (body.Recover n last) is h of room ok = asked-goes st a b w r g m t e formed text d n last is (slot_in m.session (side_at w g).records) refl h ok
  body-goes (body.Update n entries) is h of room ok = update-goes n entries is h of _ refl room ok
  body-goes (body.Success n last) is h of room ok = replied-goes st a b w r g m t e formed text d None (λ u x. cc x)

  pub hears-goes : IsEntryOf st.key m.body e → (misaddressed strange : Bool) (unfits : Option Refusal) (full : Bool) → is_misaddressed (party_at st g) m ≡ misaddressed → is_strange (party_at st g) (side_at w g).records m.session ≡ strange
      → body_refusal (party_at st g) (side_at w g).records m t e m.body ≡ unfits → both (would_begin (party_at st g) (side_at w g).records m t) (is_full Recipient (side_at w g).records) ≡ full
      → RunGoes (party_at st g) (side_at w g) w.bag (by_tests (first_refusal (test misaddressed Receiver ∷ test strange (Strange m.session) ∷ unfits ∷ test full (Full most_sessions) ∷ [])) (heard (party_at st g) (side_at w g) m t e m.body))
  hears-goes of true strange unfits full to known fit left = refused-goes st a b g (side_at w g) w.bag _
  hears-goes of false true unfits full to known fit left = refused-goes st a b g (side_at w g) w.bag _
  hears-goes of false false (Some f) full to known fit left = refused-goes st a b g (side_at w g) w.bag _
  hears-goes of false false None true to known fit left = refused-goes st a b g (side_at w g) w.bag _
  hears-goes of false false None false to known fit left =
      let (to_me, from_peer) = addressed (party_at st g) m to in
      let h : Heard st a b w r g m t e formed text d = record { receiver = to_me; sender = from_peer; gate = of-peer (party_at st g) (side_at w g).records m.session known } in
      body-goes m.body refl h of (begins-not (slot_in m.session (side_at w g).records) (would_take (party_at st g) (side_at w g).records m t m.body) (is_full Recipient (side_at w g).records) left) fit

pub heard-run : HeardRunsMove
unfolding run_of refusal_of
heard-run st a b w r g m t e ((formed, text), of) d = hears-goes st a b w r g m t e formed text d of _ _ _ _ refl refl refl refl
