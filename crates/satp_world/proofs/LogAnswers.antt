-- Over a log, a text that a call answers was said, by the records after the call.
use Rattle.std.proofs.Common.{◌≡◌, ℕ, ◌+◌, ◌-◌, ◌≤◌, Bool, true, false, List, [], ◌∷◌, ◌++◌, length, Option, Some, None, Result, Ok, Err, option_map, refl, sym, ap, subst, ◌∙◌, arith, if◌then◌else◌}
use Rattle.std.specs.Prelude.{is_some, slice_get}
use Rattle.std.proofs.lemmas.List.{append_assoc}
use Rattle.satp_base.specs.Canonical.{part_kind}
use Rattle.satp_base.specs.Chains.{head_of, name_of, next_text, role_at}
use Rattle.satp_base.specs.Forms.{IsBody, IsMessage, IsPart, IsPlace}
use Rattle.satp_base.specs.Roles.{abort_of, both, negate, next_of, rescues}
use Rattle.satp_base.specs.Signatures.{own}
use Rattle.satp_base.specs.Tales.{other}
use Rattle.satp_base.specs.Verdicts.{body_verdict, place_verdict, verdict_on}
use Rattle.satp_base.specs.Views.{begin}
use Rattle.satp_base.proofs.RecordLaws.{rescue-allowed}
use Rattle.satp_base.specs.declared.message.Body.{Body}
use Rattle.satp_base.specs.declared.message.Body.TheVariants as body
use Rattle.satp_base.specs.declared.message.Link.{Link}
use Rattle.satp_base.specs.declared.message.Message.{Message}
use Rattle.satp_base.specs.declared.message.Part.{Part}
use Rattle.satp_base.specs.declared.message.Part.TheVariants.{Proposal}
use Rattle.satp_base.specs.declared.message.Role.TheVariants.{Origin, Recipient}
use Rattle.satp_base.specs.declared.message.Terms.{Terms}
use Rattle.satp_base.specs.declared.record.Rec.{Rec}
use Rattle.satp_base.specs.declared.record.Rec.TheVariants.{Began, Took, Rescue}
use Rattle.satp_base.specs.declared.record.TooLate.{TooLate as Late}
use Rattle.satp_base.specs.declared.session.SessionId.{SessionId}
use Rattle.satp_base.specs.declared.verdict.Verdict.{Verdict}
use Rattle.satp_base.specs.declared.verdict.Verdict.TheVariants as verdict
use Rattle.satp_base.specs.declared.view.View.{View}
use Rattle.satp_recovery.specs.Rounds.{answer_of, take_of}
use Rattle.satp_recovery.specs.declared.choice.RecoveryFault.{RecoveryFault}
use Rattle.satp_recovery.specs.declared.choice.Step.{Step}
use Rattle.satp_recovery.specs.declared.choice.Step.TheVariants.{Adopt, Equal, Resend}
use Rattle.satp_recovery.proofs.RoundLemmas.{by-answers}
use Rattle.satp_sides.specs.Calls.{Starts, Works, Aborts, Rescues, Hears, Refusal, Run, IsEntryOf, aborted, accepted, adopted, adopted_as, again_reply, asked, body_refusal, by_tests, chain_of, ended, fault_in, first_refusal, heard, heard_as, is_adopt, is_adopted, is_full, is_misaddressed, is_next, is_strange, last_own, last_unless_whole, named, own_at, recover_text, refusal_of, replied, rescue_in, rescued, run_of, runs, runs_noted, says, started, step_refusal, taken, test, update_text, updated, verdict_in, would_begin, would_take}
use Rattle.satp_sides.specs.Calls.Refusal.{Exists, Full, Receiver, Strange}
use Rattle.satp_sides.specs.Due.{Due, due, due_within}
use Rattle.satp_sides.specs.DueLaws.{Rests}
use Rattle.satp_sides.specs.Logs.{IsLog}
use Rattle.satp_sides.specs.Logs.MayCome.{Notes}
use Rattle.satp_sides.specs.Moves.{Sayable, last_texts, message_from}
use Rattle.satp_sides.specs.Points.{Move, Appends, Says, Party, Side, Slot, Stored, Text, chain_in, most_sessions, moved, moved_by, noted, recipient_at, slot, slot_in, stored, view_in}
use Rattle.satp_sides.specs.Said.{WasSaid}
use Rattle.satp_sides.specs.Said.WasSaid.{Of_chain, Of_nothing}
use Rattle.satp_sides.proofs.DueLaw.{due-rests}
use Rattle.satp_sides.proofs.LogLaw.{log-sessions}
use Rattle.satp_sides.proofs.Records.{chain-here, chain-none, is-session, session-self, view-first}
use Rattle.satp_sides.proofs.SaidLaw.{said-now}
use Rattle.satp_world.specs.Effects.{AnswersWereSaid}
use Rattle.satp_world.proofs.DueMoves.{SlotAt, note-long, one-more, slot-more, work-goes}
use Rattle.satp_world.proofs.HearLaw.{begin-may, first-taken, is-again, next-taken, peer-place, role-one, took-may}
use Rattle.satp_world.proofs.Replies.{again-says, last-own-says, last-says, own-at-says, recover-says, update-says}
use Rattle.satp_world.proofs.RunHear.{addressed, begins-not, both-true, drop-nil, holds-by, near-by, next-is, not-true, of-peer, same-is}
use Rattle.satp_world.proofs.RunLaw.{named-by}
use Rattle.satp_world.proofs.WorkLaw.{slot-parts}

some-text : (o : Option Text) (t : Text) → ◌≡◌ {A = Option (Result (Option Text) Refusal)} (Some (Ok o)) (Some (Ok (Some t))) → o ≡ Some t
some-text o t e = cc e

says-last : (side : Side) (ms : List Move) (t : Text) → moved_by side (ms ++ Says t ∷ []) ≡ moved_by side ms
says-last side [] t = refl
says-last side (m ∷ ms) t = says-last (moved side m) ms t

module _ (p : Party) where
  -- whatever text the run answers was said
  abbrev pub Said : Side → Run → Type 0
  Said side run = (t : Text) → run.answer ≡ Some (Ok (Some t)) → WasSaid p (moved_by side run.moves).records t

  -- a reply is a text that may be said, wherever due work has ended
  abbrev Replies : SessionId → ℕ → (Slot → Option Text) → Type 0
  Replies s most reply = (side : Side) (l : Slot) → SlotAt p s side l → Rests (next_of l.view.role l.view) → length l.texts ≤ most → (t : Text) → reply l ≡ Some t → Sayable p side.records [] t

  ended-said : (side : Side) (c : Bool) (d : Due) (ms : List Move) (o : Option Text) → (c ≡ true → (t : Text) → o ≡ Some t → WasSaid p (moved_by side (ms ++ d.moves)).records t) → Said side (ended c d ms o)
  ended-said side true d ms o h t e =
      let same = some-text o t e in
      let last = ap (moved_by side) (sym (append_assoc ms d.moves (Says t ∷ []))) ∙ says-last side (ms ++ d.moves) t in
      subst (λ x. WasSaid p (moved_by side (ms ++ (d.moves ++ says x))).records t) (sym same) (subst (λ (z : Side). WasSaid p z.records t) (sym last) (h refl t same))
  ended-said side false d ms o h t e = absurd (cc e)

  work-said : (s : SessionId) (side : Side) (l : Slot) (reply : Slot → Option Text) → SlotAt p s side l → Replies s (length l.texts + 1) reply → (due p s l side.book).in_order ≡ true
      → (t : Text) → reply (due p s l side.book).slot ≡ Some t → WasSaid p (moved_by side (due p s l side.book).moves).records t
  unfolding due
  work-said s side l reply at ok order t e =
      let d = due_within 3 p s l side.book in
      let goes = work-goes 3 p s side [] l at order in
      said-now p (moved_by side d.moves).records [] t (ok (moved_by side d.moves) d.slot goes.slot (due-rests p s l side.book order) (one-more 3 p s l side.book) t e)

  runs-none : (s : SessionId) (side : Side) (l : Slot) (reply : Slot → Option Text) → SlotAt p s side l → Replies s (length l.texts + 1) reply → Said side (runs p side s l [] reply)
  runs-none s side l reply at ok = ended-said side (due p s l side.book).in_order (due p s l side.book) [] (reply (due p s l side.book).slot) (λ order t e. work-said s side l reply at ok order t e)

  runs-one : (s : SessionId) (side : Side) (x : Stored) (l : Slot) (reply : Slot → Option Text) → SlotAt p s (moved side (Appends x)) l → Replies s (length l.texts + 1) reply → Said side (runs p side s l (Appends x ∷ []) reply)
  runs-one s side x l reply at ok = ended-said side (due p s l side.book).in_order (due p s l side.book) (Appends x ∷ []) (reply (due p s l side.book).slot) (λ order t e. work-said s (moved side (Appends x)) l reply at ok order t e)

  replied-said : (side : Side) (o : Option Text) → ((t : Text) → o ≡ Some t → WasSaid p side.records t) → Said side (replied o)
  replied-said side o h t e = let same = some-text o t e in subst (λ x. WasSaid p (moved_by side (says x)).records t) (sym same) (h t same)

  refused-said : (side : Side) (r : Refusal) → Said side (record { answer = Some (Err r); moves = [] })
  refused-said side r t e = absurd (cc e)

  never-said : (side : Side) (ms : List Move) → Said side (record { answer = None; moves = ms })
  never-said side ms t e = absurd (cc e)

  tests-said : (side : Side) (o : Option Refusal) (run : Run) → (o ≡ None → Said side run) → Said side (by_tests o run)
  tests-said side None run h = h refl
  tests-said side (Some r) run h = refused-said side r

  -- ---- a session of a log

  module _ (s : SessionId) (side : Side) (log : IsLog p side.records) where
    slot-of : (l : Slot) → slot_in s side.records ≡ Some l → SlotAt p s side l
    slot-of l e = let (named, texts) = slot-parts (view_in s side.records) (chain_in s side.records) l e in record { log = log; named = named; texts = texts }

    view-none : slot_in s side.records ≡ None → view_in s side.records ≡ None
    view-none e = go (view_in s side.records) e
      where
        go : (o : Option View) → option_map (λ v. slot v (chain_in s side.records)) o ≡ None → o ≡ None
        go None e = refl
        go (Some v) e = absurd (cc e)

  last-replies : (s : SessionId) (most : ℕ) → Replies s most last_unless_whole
  last-replies s most side l at rest few t e = last-says p s side [] l at rest t e

  rescue-said : (s : SessionId) (side : Side) (l : Slot) (reply : Slot → Option Text) → SlotAt p s side l → Replies s (length l.texts + 1) reply → Said side (runs_noted p side s l (rescue_in l.view) reply)
  rescue-said s side l reply at ok = go (rescues l.view.role l.view) refl
    where
      go : (c : Bool) → rescues l.view.role l.view ≡ c → Said side (runs_noted p side s l (if c then Some Rescue else None) reply)
      go true e =
          let may = Notes s l.view Rescue at.named (rescue-allowed l.view.role l.view e) tt in
          runs-one s side (stored s Rescue []) (noted l s Rescue []) reply (slot-more p s side l Rescue [] at may) (subst (λ n. Replies s (n + 1) reply) (sym (note-long s l Rescue [] tt)) ok)
      go false e = runs-none s side l reply at ok

  -- ---- an operator's calls

  silent-said : (side : Side) (c : Bool) (d : Due) (ms : List Move) → Said side (ended c d ms None)
  silent-said side true d ms t e = absurd (cc e)
  silent-said side false d ms t e = absurd (cc e)

  aborted-said : (s : SessionId) (side : Side) (l : Slot) (r : Result (Option Rec) Late) → Said side (aborted p side s l r)
  aborted-said s side l (Ok None) = silent-said side _ (due p s l side.book) []
  aborted-said s side l (Ok (Some r)) = silent-said side _ (due p s (noted l s r []) side.book) (Appends (stored s r []) ∷ [])
  aborted-said s side l (Err late) = never-said side []

  named-said : (s : SessionId) (side : Side) (log : IsLog p side.records) (run : Slot → Run) → ((l : Slot) → SlotAt p s side l → Said side (run l)) → (o : Option Slot) → slot_in s side.records ≡ o → Said side (named run o)
  named-said s side log run h None e = never-said side []
  named-said s side log run h (Some l) e = h l (slot-of s side log l e)

  start-said : (s : SessionId) (terms : Terms) (side : Side) → IsLog p side.records → (o : Option Slot) → slot_in s side.records ≡ o → (full : Bool) → Said side (by_tests (first_refusal (test (is_some o) Exists ∷ test full (Full most_sessions) ∷ [])) (started p s terms))
  start-said s terms side log (Some l) e full t is = absurd (cc is)
  start-said s terms side log None e true t is = absurd (cc is)
  start-said s terms side log None e false t is =
      let text = next_text s p.peer p.key [] (Proposal terms) in
      let same : text ≡ t = cc is in
      let x = stored s (Began Origin terms) text in
      let unnamed = named-by p s side.records log (view-none s side log e) in
      let view = view-first s side.records x (session-self s) unnamed in
      let chain : chain_in s (side.records ++ x ∷ []) ≡ text ∷ [] = chain-here s side.records x (session-self s) ∙ ap (λ ts. ts ++ text ∷ []) (chain-none s side.records unnamed) in
      subst (λ u. WasSaid p (side.records ++ x ∷ []) u) same (Of_chain s (begin Origin terms) 0 view (ap (λ ts. slice_get ts 0) chain) refl)

-- ---- what is heard of the peer

module _ (p : Party) (differ : p.name ≡ p.peer → ⊥) (side : Side) (log : IsLog p side.records) where
  -- what holds after the first two tests
  record IsFromPeer (s : SessionId) (m : Message) : Type 0 where
    session : m.session ≡ s
    receiver : m.receiver ≡ p.name
    sender : m.sender ≡ p.peer
    gate : slot_in s side.records ≡ None → s.gateway ≡ p.peer

  own-replies : (s : SessionId) (most : ℕ) → Replies p s most last_own
  own-replies s most side' l at rest few t e = last-own-says p s side' [] l at t e

  -- ---- a chain's message

  module _ (s : SessionId) (m : Message) (t : Text) (formed : IsMessage m) (text : t ≡ own p.key m) (from : IsFromPeer s m) (place : ℕ) (previous : Link) (q : Part) (is : m.body ≡ body.Chain place previous q) where
    part-formed : IsPlace place × IsPart q
    part-formed = subst IsBody is formed.0

    verdict-of : (o : Option Slot) (v : Verdict) → slot_in s side.records ≡ o → verdict_in p side.records s m t ≡ v → place_verdict (chain_of p s o) m.sender place previous (part_kind q) t ≡ v
    verdict-of o v so ve = ap (λ c. body_verdict (chain_of p s o) m.sender t c) (sym is) ∙ ap (λ x. verdict_on (chain_of p s x) m t) (sym so) ∙ ve

    next-said : (o : Option Slot) → slot_in s side.records ≡ o → (o ≡ None → is_full Recipient side.records ≡ false) → verdict_in p side.records s m t ≡ verdict.Next → Said p side (taken p side s o q t)
    next-said (Some l) so room ve =
        let at = slot-of p s side log l so in
        let (rule, same) = next-taken p differ s side l m t place previous q at from.session is text from.receiver from.sender (verdict-of (Some l) verdict.Next so ve) in
        let may = took-may p s side l q t at rule part-formed.1 same in
        runs-one p s side (stored s (Took (part_kind q)) t) (noted l s (Took (part_kind q)) t) last_own (slot-more p s side l (Took (part_kind q)) t at may) (own-replies s _)
    next-said None so room ve =
        let (terms, proposal, same) = first-taken p differ s side m t place previous q from.session is part-formed.1 text from.receiver (verdict-of None verdict.Next so ve) in
        let begins = begin-may p s side terms t log (from.gate so) (view-none p s side log so) (room refl) same in
        subst (λ x. Said p side (taken p side s None x t)) (sym proposal) (runs-one p s side (stored s (Began Recipient terms) t) (slot (begin Recipient terms) (t ∷ [])) last_own begins.slot (own-replies s _))

    again-said : (o : Option Slot) (n : ℕ) → slot_in s side.records ≡ o → verdict_in p side.records s m t ≡ verdict.Again n → Said p side (named (λ l. runs p side s l [] (again_reply n)) o)
    again-said None n so ve = never-said p side []
    again-said (Some l) n so ve =
        let at = slot-of p s side log l so in
        let k = is-again (chain_of p s (Some l)) m.sender place previous (part_kind q) t n (verdict-of (Some l) (verdict.Again n) so ve) in
        let of = (log-sessions p side.records log s l.view at.named).role in
        let turn : role_at place ≡ other l.view.role = peer-place p differ s l.view.role (role_at place) of (sym (same-is m.sender (name_of s (recipient_at p l.view.role) (role_at place)) k.sender_is) ∙ from.sender) in
        runs-none p s side l (again_reply n) at
        (λ side' l' at' rest few u x.
        (let same = role-one p differ s l'.view.role l.view.role (log-sessions p side'.records at'.log s l'.view at'.named).role of in
        again-says p s side' [] l' at' n (ap role_at k.place_is ∙ turn ∙ ap other (sym same)) u x))

    chain-said : (v : Verdict) → verdict_in p side.records s m t ≡ v → (slot_in s side.records ≡ None → v ≡ verdict.Next → is_full Recipient side.records ≡ false) → Said p side (heard_as p side s t q v)
    chain-said verdict.Next ve room = next-said (slot_in s side.records) refl (λ n. room n refl) ve
    chain-said (verdict.Again n) ve room = again-said (slot_in s side.records) n refl ve
    chain-said (verdict.Gap n) ve room = never-said p side []
    chain-said (verdict.Other n link) ve room = never-said p side []
    chain-said (verdict.WrongPrevious link) ve room = never-said p side []
    chain-said verdict.WrongSender ve room = never-said p side []
    chain-said (verdict.OffTale n) ve room = never-said p side []

  -- ---- recovery

  asked-said : (s : SessionId) (n : ℕ) (last : Link) → (slot_in s side.records ≡ None → s.gateway ≡ p.peer) → fault_in (answer_of (head_of (chain_in s side.records)) n last) ≡ None → (o : Option Slot) → slot_in s side.records ≡ o → Said p side (asked p side s n o)
  asked-said s n last gate ok None so =
      let none : last_texts (0 - n) [] ≡ [] = drop-nil (0 - (0 - n)) in
      replied-said p side (Some (update_text p s n [])) (λ u x.
      (let same : update_text p s n [] ≡ u = cc x in
      Of_nothing s (gate so) ((omega arith, refl), tt) (sym same ∙ ap (λ es. own p.key (message_from p s (body.Update 0 es))) none)))
  asked-said s n last gate ok (Some l) so =
      let at = slot-of p s side log l so in
      let near = near-by (head_of (chain_in s side.records)) n last _ (by-answers (head_of (chain_in s side.records)) n last _ refl) ok in
      let long = ap length at.texts in
      rescue-said p s side l (λ after. Some (update_text p s n after.texts)) at
      (λ side' l' at' rest few u x.
      (let same : update_text p s n l'.texts ≡ u = cc x in
      subst (λ y. Sayable p side'.records [] y) same (update-says p s side' [] l' at' n (omega (arith, few, near, long)))))

  resent-said : (s : SessionId) (place : ℕ) (o : Option Slot) → slot_in s side.records ≡ o → Said p side (named (λ l. replied (own_at place l)) o)
  resent-said s place None so = never-said p side []
  resent-said s place (Some l) so = replied-said p side (own_at place l) (λ u x. said-now p side.records [] u (own-at-says p s side [] l (slot-of p s side log l so) place u x))

  adopted-as-said : (s : SessionId) (m : Message) (t : Text) → IsMessage m → t ≡ own p.key m → IsFromPeer s m → (slot_in s side.records ≡ None → is_full Recipient side.records ≡ false) → verdict_in p side.records s m t ≡ verdict.Next
      → (c : Body) → m.body ≡ c → Said p side (adopted_as p side s t c)
  adopted-as-said s m t f x from room ve (body.Chain place previous q) is = next-said s m t f x from place previous q is (slot_in s side.records) refl room ve
  adopted-as-said s m t f x from room ve (body.Recover n last) is = never-said p side []
  adopted-as-said s m t f x from room ve (body.Update n entries) is = never-said p side []
  adopted-as-said s m t f x from room ve (body.Success n last) is = never-said p side []

  adopted-said : (s : SessionId) (entries : List Text) (e : Option Message) (n : ℕ) → IsEntryOf p.key (body.Update n entries) e → (slot_in s side.records ≡ None → s.gateway ≡ p.peer) → (slot_in s side.records ≡ None → is_full Recipient side.records ≡ false)
      → is_adopted p side.records s entries e ≡ true → Said p side (adopted p side s entries e)
  adopted-said s [] e n of gate room ok = never-said p side []
  adopted-said s (t ∷ []) None n of gate room ok = never-said p side []
  adopted-said s (t ∷ []) (Some m) n of gate room ok =
      let (to, more) = both-true _ _ ok in
      let (same, next) = both-true _ _ more in
      let (to_me, from_peer) = addressed p m (not-true _ to) in
      adopted-as-said s m t of.0 of.1 (record { session = sym (is-session s m.session same); receiver = to_me; sender = from_peer; gate = gate }) room (next-is _ next) m.body refl
  adopted-said s (t ∷ u ∷ ts) e n of gate room ok = never-said p side []

  updated-said : (s : SessionId) (n : ℕ) (entries : List Text) (e : Option Message) → IsEntryOf p.key (body.Update n entries) e → (slot_in s side.records ≡ None → s.gateway ≡ p.peer) → (x : Result Step RecoveryFault)
      → (slot_in s side.records ≡ None → is_adopt x ≡ true → is_full Recipient side.records ≡ false) → step_refusal (is_adopted p side.records s entries e) x ≡ None → Said p side (updated p side s entries e x)
  updated-said s n entries e of gate (Err f) room ok = never-said p side []
  updated-said s n entries e of gate (Ok Equal) room ok = replied-said p side None (λ u x. absurd (cc x))
  updated-said s n entries e of gate (Ok (Resend place)) room ok = resent-said s place (slot_in s side.records) refl
  updated-said s n entries e of gate (Ok (Adopt place)) room ok = adopted-said s entries e n of gate (λ none. room none refl) (holds-by _ _ ok)

  -- ---- every message

  module _ (m : Message) (t : Text) (e : Option Message) (formed : IsMessage m) (text : t ≡ own p.key m) (of : IsEntryOf p.key m.body e) where
    body-said : (c : Body) → m.body ≡ c → IsEntryOf p.key c e → IsFromPeer m.session m → (slot_in m.session side.records ≡ None → would_take p side.records m t c ≡ true → is_full Recipient side.records ≡ false)
        → body_refusal p side.records m t e c ≡ None → Said p side (heard p side m t e c)
    body-said (body.Chain place previous q) is es from room ok = chain-said m.session m t formed text from place previous q is (verdict_in p side.records m.session m t) refl (λ none next. room none (ap is_next next))
    body-said (body.Recover n last) is es from room ok = asked-said m.session n last from.gate ok (slot_in m.session side.records) refl
    body-said (body.Update n entries) is es from room ok = updated-said m.session n entries e es from.gate (take_of (head_of (chain_in m.session side.records)) n (length entries)) room ok
    body-said (body.Success n last) is es from room ok = replied-said p side None (λ u x. absurd (cc x))

    hears-said : (misaddressed strange : Bool) (unfits : Option Refusal) (full : Bool) → is_misaddressed p m ≡ misaddressed → is_strange p side.records m.session ≡ strange → body_refusal p side.records m t e m.body ≡ unfits
        → both (would_begin p side.records m t) (is_full Recipient side.records) ≡ full
        → Said p side (by_tests (first_refusal (test misaddressed Receiver ∷ test strange (Strange m.session) ∷ unfits ∷ test full (Full most_sessions) ∷ [])) (heard p side m t e m.body))
    hears-said true strange unfits full to known fit left = refused-said p side Receiver
    hears-said false true unfits full to known fit left = refused-said p side (Strange m.session)
    hears-said false false (Some f) full to known fit left = refused-said p side f
    hears-said false false None true to known fit left = refused-said p side (Full most_sessions)
    hears-said false false None false to known fit left =
        let (to_me, from_peer) = addressed p m to in
        body-said m.body refl of (record { session = refl; receiver = to_me; sender = from_peer; gate = of-peer p side.records m.session known })
        (begins-not (slot_in m.session side.records) (would_take p side.records m t m.body) (is_full Recipient side.records) left) fit

  works-said : (s : SessionId) (o : Option Slot) → slot_in s side.records ≡ o → Said p side (by_tests (test (negate (is_some o)) (Strange s)) (named (λ l. runs p side s l [] last_unless_whole) o))
  works-said s None e = refused-said p side (Strange s)
  works-said s (Some l) e = runs-none p s side l last_unless_whole (slot-of p s side log l e) (last-replies p s _)

  rescues-said : (s : SessionId) (o : Option Slot) → slot_in s side.records ≡ o → Said p side (by_tests (test (negate (is_some o)) (Strange s)) (named (rescued p side s) o))
  rescues-said s None e = refused-said p side (Strange s)
  rescues-said s (Some l) e =
      rescue-said p s side l (λ after. Some (recover_text p s after.texts)) (slot-of p s side log l e)
      (λ side' l' at rest few t x. (let same : recover_text p s l'.texts ≡ t = cc x in subst (λ y. Sayable p side'.records [] y) same (recover-says p s side' [] l' at)))

pub answers-were-said : AnswersWereSaid
unfolding run_of refusal_of
answers-were-said p differ side log (Starts s terms) h own = start-said p s terms side log (slot_in s side.records) refl (is_full Origin side.records)
answers-were-said p differ side log (Works s) h own = works-said p differ side log s (slot_in s side.records) refl
answers-were-said p differ side log (Aborts s) h own = tests-said p side (refusal_of p side.records (Aborts s)) (accepted p side (Aborts s)) (λ _. named-said p s side log (λ l. aborted p side s l (abort_of l.view.role l.view)) (λ l at. aborted-said p s side l (abort_of l.view.role l.view)) (slot_in s side.records) refl)
answers-were-said p differ side log (Rescues s) h own = rescues-said p differ side log s (slot_in s side.records) refl
answers-were-said p differ side log (Hears m t e) ((formed, text), of) own = hears-said p differ side log m t e formed text of _ _ _ _ refl refl refl refl
