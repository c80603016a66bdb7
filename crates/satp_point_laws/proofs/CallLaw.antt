-- Each call keeps a log, whatever the ledger is.
use Rattle.std.proofs.Common.{◌≡◌, ℕ, zero, suc, Bool, true, false, List, [], ◌∷◌, ◌++◌, length, Option, Some, None, Result, Ok, Err, refl, sym, ap, subst, ◌∙◌, if◌then◌else◌}
use Rattle.std.specs.Prelude.{is_some, option_map}
use Rattle.std.proofs.lemmas.Bool.{leb-false}
use Rattle.std.proofs.lemmas.List.{append-nil, append_assoc}
use Rattle.satp_base.specs.Acts.{MayAnswer}
use Rattle.satp_base.specs.Canonical.{part_kind}
use Rattle.satp_base.specs.Chains.{head_of, next_text}
use Rattle.satp_base.specs.Forms.{IsBody, IsMessage, IsPart, IsPlace}
use Rattle.satp_base.specs.LedgerRule.{operation}
use Rattle.satp_base.specs.Money.{Book}
use Rattle.satp_base.specs.Roles.{RoleRule, abort_of, after_of, both, negate, next_of, rescues}
use Rattle.satp_base.specs.Signatures.{own}
use Rattle.satp_base.specs.Verdicts.{body_verdict, place_verdict, verdict_on}
use Rattle.satp_base.specs.Views.{begin}
use Rattle.satp_base.specs.declared.ledger.Answer.{Answer}
use Rattle.satp_base.specs.declared.ledger.LedgerOp.{LedgerOp}
use Rattle.satp_base.specs.declared.message.Body.{Body}
use Rattle.satp_base.specs.declared.message.Body.TheVariants as body
use Rattle.satp_base.specs.declared.message.Link.{Link}
use Rattle.satp_base.specs.declared.message.Message.{Message}
use Rattle.satp_base.specs.declared.message.Part.{Part}
use Rattle.satp_base.specs.declared.message.Part.TheVariants.{Proposal}
use Rattle.satp_base.specs.declared.message.Role.TheVariants.{Origin, Recipient}
use Rattle.satp_base.specs.declared.message.Terms.{Terms}
use Rattle.satp_base.specs.declared.record.Cause.TheVariants.{Aborted}
use Rattle.satp_base.specs.declared.record.Next.{Next}
use Rattle.satp_base.specs.declared.record.Next.TheVariants.{Append, Act, Wait, Ended}
use Rattle.satp_base.specs.declared.record.Rec.{Rec}
use Rattle.satp_base.specs.declared.record.Rec.TheVariants.{Began, Took, Chose, Rescue}
use Rattle.satp_base.specs.declared.record.TooLate.{TooLate as Late}
use Rattle.satp_base.specs.declared.record.Way.TheVariants.{Back}
use Rattle.satp_base.specs.declared.session.SessionId.{SessionId}
use Rattle.satp_base.specs.declared.verdict.Verdict.{Verdict}
use Rattle.satp_base.specs.declared.verdict.Verdict.TheVariants as verdict
use Rattle.satp_base.specs.declared.view.View.{View}
use Rattle.satp_base.proofs.RecordLaws.{rescue-allowed}
use Rattle.satp_base.proofs.RuleLemmas.{rule-may}
use Rattle.satp_money.proofs.RuleLaw.{gives-rule}
use Rattle.satp_recovery.specs.Rounds.{take_of}
use Rattle.satp_recovery.specs.declared.choice.RecoveryFault.{RecoveryFault}
use Rattle.satp_recovery.specs.declared.choice.Step.{Step}
use Rattle.satp_recovery.specs.declared.choice.Step.TheVariants.{Adopt, Equal, Resend}
use Rattle.satp_sides.specs.Calls.{Starts, Works, Aborts, Rescues, Hears, Refusal, Run, IsEntryOf, refusal_of, run_of, aborted, adopted, adopted_as, again_reply, asked, body_refusal, by_tests, chain_of, ended, first_refusal, heard, heard_as, is_adopt, is_adopted, is_full, is_misaddressed, is_next, is_strange, last_own, last_unless_whole, late_by, late_in, named, no_reply, own_at, recover_text, replied, rescue_in, rescued, runs, runs_noted, says, started, step_refusal, taken, test, update_text, updated, verdict_in, would_begin, would_take}
use Rattle.satp_sides.specs.Calls.Refusal.{Exists, Full, Receiver, Strange}
use Rattle.satp_sides.specs.Due.{Due, due, due_answered, due_by, due_text, due_within}
use Rattle.satp_sides.specs.Logs.{IsLog, IsNote}
use Rattle.satp_sides.specs.Logs.MayCome.{Starts as Starts_record, Notes}
use Rattle.satp_sides.specs.Points.{Move, Appends, Acts, Says, Party, Side, Slot, Stored, Text, chain_in, most_sessions, moved, moved_by, noted, slot, slot_in, stored, view_in}
use Rattle.satp_sides.proofs.LogLaw.{log-grows, log-sessions}
use Rattle.satp_sides.proofs.Records.{is-session}
use Rattle.satp_world.proofs.DueMoves.{SlotAt, slot-more}
use Rattle.satp_world.proofs.HearLaw.{begin-may, first-taken, next-taken, took-may}
use Rattle.satp_world.proofs.RunHear.{addressed, begins-not, both-true, holds-by, next-is, not-true, of-peer}
use Rattle.satp_world.proofs.RunLaw.{named-by}
use Rattle.satp_point_laws.specs.PointLaws.{CallsKeepLogs, DueComes}
use Rattle.satp_point_laws.proofs.Aborting.{abort-may}
use Rattle.satp_point_laws.proofs.DueLaw.{due-may-come}
use Rattle.satp_point_laws.proofs.Slots.{slot-is, slot-parts}

says-last : (side : Side) (ms : List Move) (t : Text) → moved_by side (ms ++ Says t ∷ []) ≡ moved_by side ms
says-last side [] t = refl
says-last side (m ∷ ms) t = says-last (moved side m) ms t

module _ (p : Party) where
  -- the records after the run are a log
  abbrev Keeps : Side → Run → Type 0
  Keeps side run = IsLog p (moved_by side run.moves).records

  says-keep : (side : Side) (ms : List Move) (o : Option Text) → IsLog p (moved_by side ms).records → IsLog p (moved_by side (ms ++ says o)).records
  says-keep side ms None log = subst (λ (l : List Move). IsLog p (moved_by side l).records) (sym (append-nil ms)) log
  says-keep side ms (Some t) log = subst (λ (z : Side). IsLog p z.records) (sym (says-last side ms t)) log

  ended-keeps : (side : Side) (c : Bool) (d : Due) (ms : List Move) (o : Option Text) → IsLog p (moved_by side (ms ++ d.moves)).records → Keeps side (ended c d ms o)
  ended-keeps side true d ms o log = subst (λ (l : List Move). IsLog p (moved_by side l).records) (append_assoc ms d.moves (says o)) (says-keep side (ms ++ d.moves) o log)
  ended-keeps side false d ms o log = log

  replied-keeps : (side : Side) → IsLog p side.records → (o : Option Text) → Keeps side (replied o)
  replied-keeps side log None = log
  replied-keeps side log (Some t) = log

  -- ---- due work

  comes-at : (s : SessionId) (side : Side) (l : Slot) → SlotAt p s side l → DueComes p s side.records l
  comes-at s side l at = due-may-come p s side.records l (slot-is s side.records l.view l.texts at.named at.texts)

  slot-of : (s : SessionId) (side : Side) → IsLog p side.records → (l : Slot) → slot_in s side.records ≡ Some l → SlotAt p s side l
  slot-of s side log l e = let (named, texts) = slot-parts s side.records l e in record { log = log; named = named; texts = texts }

  may-answer : (b : Book) (op : LedgerOp) (s : SessionId) (terms : Terms) (a : Answer) → (operation b op s terms).answer ≡ Some a → MayAnswer op a
  may-answer b op s terms a e = rule-may b op s terms a (operation b op s terms).after (gives-rule b op s terms a (operation b op s terms).after (e, refl))

  abbrev KeepWithin : SessionId → ℕ → Type 0
  KeepWithin s n = (side : Side) (l : Slot) → SlotAt p s side l → IsLog p (moved_by side (due_within n p s l side.book).moves).records

  module _ (s : SessionId) (n : ℕ) (h : KeepWithin s n) where
    answered-keeps : (side : Side) (l : Slot) (op : LedgerOp) → SlotAt p s side l → next_of l.view.role l.view ≡ Act op → (o : Option Answer) → (operation side.book op s l.view.terms).answer ≡ o
        → IsLog p (moved_by side (due_answered (due_within n p s) s l side.book op o).moves).records
    answered-keeps side l op at next None e = at.log
    answered-keeps side l op at next (Some a) e =
        let acted = moved side (Acts s op l.view.terms) in
        let there : SlotAt p s acted l = record { log = at.log; named = at.named; texts = at.texts } in
        let may = (comes-at s side l at).act op a next (may-answer side.book op s l.view.terms a e) in
        h (moved acted (Appends (stored s (after_of op a) []))) (noted l s (after_of op a) []) (slot-more p s acted l (after_of op a) [] there may)

    line-keeps : (side : Side) (l : Slot) (next : Next) → SlotAt p s side l → next_of l.view.role l.view ≡ next → IsLog p (moved_by side (due_by (due_within n p s) p s l side.book next).moves).records
    line-keeps side l (Append r) at e =
        let t = due_text p s l r in
        h (moved side (Appends (stored s r t))) (noted l s r t) (slot-more p s side l r t at ((comes-at s side l at).append r e))
    line-keeps side l (Act op) at e = answered-keeps side l op at e (operation side.book op s l.view.terms).answer refl
    line-keeps side l Wait at e = at.log
    line-keeps side l Ended at e = at.log

  within-keeps : (s : SessionId) (n : ℕ) → KeepWithin s n
  within-keeps s zero side l at = at.log
  within-keeps s (suc n) side l at = line-keeps s n (within-keeps s n) side l (next_of l.view.role l.view) at refl

  due-keeps : (s : SessionId) (side : Side) (l : Slot) → SlotAt p s side l → IsLog p (moved_by side (due p s l side.book).moves).records
  unfolding due
  due-keeps s side l at = within-keeps s 3 side l at

  -- ---- runs

  runs-none : (s : SessionId) (side : Side) (l : Slot) (reply : Slot → Option Text) → SlotAt p s side l → Keeps side (runs p side s l [] reply)
  runs-none s side l reply at = ended-keeps side (due p s l side.book).in_order (due p s l side.book) [] (reply (due p s l side.book).slot) (due-keeps s side l at)

  runs-one : (s : SessionId) (side : Side) (x : Stored) (l : Slot) (reply : Slot → Option Text) → SlotAt p s (moved side (Appends x)) l → Keeps side (runs p side s l (Appends x ∷ []) reply)
  runs-one s side x l reply at = ended-keeps side (due p s l side.book).in_order (due p s l side.book) (Appends x ∷ []) (reply (due p s l side.book).slot) (due-keeps s (moved side (Appends x)) l at)

  note-keeps : (s : SessionId) (side : Side) (l : Slot) (r : Rec) (reply : Slot → Option Text) → SlotAt p s side l → RoleRule l.view.role l.view r → IsNote r → Keeps side (runs_noted p side s l (Some r) reply)
  note-keeps s side l r reply at rule note = runs-one s side (stored s r []) (noted l s r []) reply (slot-more p s side l r [] at (Notes s l.view r at.named rule note))

  rescue-keeps : (s : SessionId) (side : Side) (l : Slot) (reply : Slot → Option Text) → SlotAt p s side l → Keeps side (runs_noted p side s l (rescue_in l.view) reply)
  rescue-keeps s side l reply at = go (rescues l.view.role l.view) refl
    where
      go : (c : Bool) → rescues l.view.role l.view ≡ c → Keeps side (runs_noted p side s l (if c then Some Rescue else None) reply)
      go true e = note-keeps s side l Rescue reply at (rescue-allowed l.view.role l.view e) tt
      go false e = runs-none s side l reply at

  -- ---- an operator's calls

  module _ (s : SessionId) (side : Side) (log : IsLog p side.records) where
    view-none : slot_in s side.records ≡ None → view_in s side.records ≡ None
    view-none e = go (view_in s side.records) e
      where
        go : (o : Option View) → option_map (λ v. slot v (chain_in s side.records)) o ≡ None → o ≡ None
        go None e = refl
        go (Some v) e = absurd (cc e)

    start-keeps : (terms : Terms) → s.gateway ≡ p.name → (o : Option Slot) → slot_in s side.records ≡ o → (full : Bool) → is_full Origin side.records ≡ full
        → Keeps side (by_tests (first_refusal (test (is_some o) Exists ∷ test full (Full most_sessions) ∷ [])) (started p s terms))
    start-keeps terms whose (Some l) e full room = log
    start-keeps terms whose None e true room = log
    start-keeps terms whose None e false room =
        let text = next_text s p.peer p.key [] (Proposal terms) in
        (log-grows p).more side.records (stored s (Began Origin terms) text) log (Starts_record s terms whose (named-by p s side.records log (view-none e)) (leb-false _ _ room))

    works-keeps : (o : Option Slot) → slot_in s side.records ≡ o → Keeps side (by_tests (test (negate (is_some o)) (Strange s)) (named (λ l. runs p side s l [] last_unless_whole) o))
    works-keeps None e = log
    works-keeps (Some l) e = runs-none s side l last_unless_whole (slot-of s side log l e)

    aborted-keeps : (l : Slot) → SlotAt p s side l → (r : Result (Option Rec) Late) → abort_of l.view.role l.view ≡ r → Keeps side (by_tests (first_refusal (None ∷ late_by r ∷ [])) (aborted p side s l r))
    aborted-keeps l at (Err late) e = log
    aborted-keeps l at (Ok None) e = runs-none s side l no_reply at
    aborted-keeps l at (Ok (Some r)) e =
        let (rule, same) = abort-may l.view.role l.view r (log-sessions p side.records log s l.view at.named).reached e in
        subst (λ x. Keeps side (runs_noted p side s l (Some x) no_reply)) (sym same) (note-keeps s side l (Chose (Back Aborted)) no_reply at rule tt)

    aborts-keeps : (o : Option Slot) → slot_in s side.records ≡ o
        → Keeps side (by_tests (first_refusal (test (negate (is_some o)) (Strange s) ∷ late_in o ∷ [])) (named (λ l. aborted p side s l (abort_of l.view.role l.view)) o))
    aborts-keeps None e = log
    aborts-keeps (Some l) e = aborted-keeps l (slot-of s side log l e) (abort_of l.view.role l.view) refl

    rescues-keeps : (o : Option Slot) → slot_in s side.records ≡ o → Keeps side (by_tests (test (negate (is_some o)) (Strange s)) (named (rescued p side s) o))
    rescues-keeps None e = log
    rescues-keeps (Some l) e = rescue-keeps s side l (λ after. Some (recover_text p s after.texts)) (slot-of s side log l e)

-- ---- what is heard of the peer

module _ (p : Party) (differ : p.name ≡ p.peer → ⊥) (side : Side) (log : IsLog p side.records) where
  -- what holds after the first two tests
  record IsFromPeer (s : SessionId) (m : Message) : Type 0 where
    session : m.session ≡ s
    receiver : m.receiver ≡ p.name
    sender : m.sender ≡ p.peer
    gate : slot_in s side.records ≡ None → s.gateway ≡ p.peer

  -- ---- a chain's message

  module _ (s : SessionId) (m : Message) (t : Text) (formed : IsMessage m) (text : t ≡ own p.key m) (from : IsFromPeer s m) (place : ℕ) (previous : Link) (q : Part) (is : m.body ≡ body.Chain place previous q) where
    part-formed : IsPlace place × IsPart q
    part-formed = subst IsBody is formed.0

    verdict-of : (o : Option Slot) (v : Verdict) → slot_in s side.records ≡ o → verdict_in p side.records s m t ≡ v → place_verdict (chain_of p s o) m.sender place previous (part_kind q) t ≡ v
    verdict-of o v so ve = ap (λ c. body_verdict (chain_of p s o) m.sender t c) (sym is) ∙ ap (λ x. verdict_on (chain_of p s x) m t) (sym so) ∙ ve

    next-keeps : (o : Option Slot) → slot_in s side.records ≡ o → (o ≡ None → is_full Recipient side.records ≡ false) → verdict_in p side.records s m t ≡ verdict.Next → Keeps p side (taken p side s o q t)
    next-keeps (Some l) so room ve =
        let at = slot-of p s side log l so in
        let (rule, same) = next-taken p differ s side l m t place previous q at from.session is text from.receiver from.sender (verdict-of (Some l) verdict.Next so ve) in
        let may = took-may p s side l q t at rule part-formed.1 same in
        runs-one p s side (stored s (Took (part_kind q)) t) (noted l s (Took (part_kind q)) t) last_own (slot-more p s side l (Took (part_kind q)) t at may)
    next-keeps None so room ve =
        let (terms, proposal, same) = first-taken p differ s side m t place previous q from.session is part-formed.1 text from.receiver (verdict-of None verdict.Next so ve) in
        let begins = begin-may p s side terms t log (from.gate so) (view-none p s side log so) (room refl) same in
        subst (λ x. Keeps p side (taken p side s None x t)) (sym proposal) (runs-one p s side (stored s (Began Recipient terms) t) (slot (begin Recipient terms) (t ∷ [])) last_own begins.slot)

    again-keeps : (o : Option Slot) (n : ℕ) → slot_in s side.records ≡ o → Keeps p side (named (λ l. runs p side s l [] (again_reply n)) o)
    again-keeps None n so = log
    again-keeps (Some l) n so = runs-none p s side l (again_reply n) (slot-of p s side log l so)

    chain-keeps : (v : Verdict) → verdict_in p side.records s m t ≡ v → (slot_in s side.records ≡ None → v ≡ verdict.Next → is_full Recipient side.records ≡ false) → Keeps p side (heard_as p side s t q v)
    chain-keeps verdict.Next ve room = next-keeps (slot_in s side.records) refl (λ n. room n refl) ve
    chain-keeps (verdict.Again n) ve room = again-keeps (slot_in s side.records) n refl
    chain-keeps (verdict.Gap n) ve room = log
    chain-keeps (verdict.Other n link) ve room = log
    chain-keeps (verdict.WrongPrevious link) ve room = log
    chain-keeps verdict.WrongSender ve room = log
    chain-keeps (verdict.OffTale n) ve room = log

  -- ---- recovery

  asked-keeps : (s : SessionId) (n : ℕ) (o : Option Slot) → slot_in s side.records ≡ o → Keeps p side (asked p side s n o)
  asked-keeps s n None so = log
  asked-keeps s n (Some l) so = rescue-keeps p s side l (λ after. Some (update_text p s n after.texts)) (slot-of p s side log l so)

  resent-keeps : (s : SessionId) (place : ℕ) (o : Option Slot) → Keeps p side (named (λ l. replied (own_at place l)) o)
  resent-keeps s place None = log
  resent-keeps s place (Some l) = replied-keeps p side log (own_at place l)

  adopted-as-keeps : (s : SessionId) (m : Message) (t : Text) → IsMessage m → t ≡ own p.key m → IsFromPeer s m → (slot_in s side.records ≡ None → is_full Recipient side.records ≡ false) → verdict_in p side.records s m t ≡ verdict.Next
      → (c : Body) → m.body ≡ c → Keeps p side (adopted_as p side s t c)
  adopted-as-keeps s m t f x from room ve (body.Chain place previous q) is = next-keeps s m t f x from place previous q is (slot_in s side.records) refl room ve
  adopted-as-keeps s m t f x from room ve (body.Recover n last) is = log
  adopted-as-keeps s m t f x from room ve (body.Update n entries) is = log
  adopted-as-keeps s m t f x from room ve (body.Success n last) is = log

  adopted-keeps : (s : SessionId) (entries : List Text) (e : Option Message) (n : ℕ) → IsEntryOf p.key (body.Update n entries) e → (slot_in s side.records ≡ None → s.gateway ≡ p.peer) → (slot_in s side.records ≡ None → is_full Recipient side.records ≡ false)
      → is_adopted p side.records s entries e ≡ true → Keeps p side (adopted p side s entries e)
  adopted-keeps s [] e n of gate room ok = log
  adopted-keeps s (t ∷ []) None n of gate room ok = log
  adopted-keeps s (t ∷ []) (Some m) n of gate room ok =
      let (to, more) = both-true _ _ ok in
      let (same, next) = both-true _ _ more in
      let (to_me, from_peer) = addressed p m (not-true _ to) in
      adopted-as-keeps s m t of.0 of.1 (record { session = sym (is-session s m.session same); receiver = to_me; sender = from_peer; gate = gate }) room (next-is _ next) m.body refl
  adopted-keeps s (t ∷ u ∷ ts) e n of gate room ok = log

  updated-keeps : (s : SessionId) (n : ℕ) (entries : List Text) (e : Option Message) → IsEntryOf p.key (body.Update n entries) e → (slot_in s side.records ≡ None → s.gateway ≡ p.peer) → (x : Result Step RecoveryFault)
      → (slot_in s side.records ≡ None → is_adopt x ≡ true → is_full Recipient side.records ≡ false) → step_refusal (is_adopted p side.records s entries e) x ≡ None → Keeps p side (updated p side s entries e x)
  updated-keeps s n entries e of gate (Err f) room ok = log
  updated-keeps s n entries e of gate (Ok Equal) room ok = log
  updated-keeps s n entries e of gate (Ok (Resend place)) room ok = resent-keeps s place (slot_in s side.records)
  updated-keeps s n entries e of gate (Ok (Adopt place)) room ok = adopted-keeps s entries e n of gate (λ none. room none refl) (holds-by _ _ ok)

  -- ---- every message

  module _ (m : Message) (t : Text) (e : Option Message) (formed : IsMessage m) (text : t ≡ own p.key m) (of : IsEntryOf p.key m.body e) where
    body-keeps : (c : Body) → m.body ≡ c → IsEntryOf p.key c e → IsFromPeer m.session m → (slot_in m.session side.records ≡ None → would_take p side.records m t c ≡ true → is_full Recipient side.records ≡ false)
        → body_refusal p side.records m t e c ≡ None → Keeps p side (heard p side m t e c)
    body-keeps (body.Chain place previous q) is es from room ok = chain-keeps m.session m t formed text from place previous q is (verdict_in p side.records m.session m t) refl (λ none next. room none (ap is_next next))
    body-keeps (body.Recover n last) is es from room ok = asked-keeps m.session n (slot_in m.session side.records) refl
    body-keeps (body.Update n entries) is es from room ok = updated-keeps m.session n entries e es from.gate (take_of (head_of (chain_in m.session side.records)) n (length entries)) room ok
    body-keeps (body.Success n last) is es from room ok = log

    hears-keeps : (misaddressed strange : Bool) (unfits : Option Refusal) (full : Bool) → is_misaddressed p m ≡ misaddressed → is_strange p side.records m.session ≡ strange → body_refusal p side.records m t e m.body ≡ unfits
        → both (would_begin p side.records m t) (is_full Recipient side.records) ≡ full
        → Keeps p side (by_tests (first_refusal (test misaddressed Receiver ∷ test strange (Strange m.session) ∷ unfits ∷ test full (Full most_sessions) ∷ [])) (heard p side m t e m.body))
    hears-keeps true strange unfits full to known fit left = log
    hears-keeps false true unfits full to known fit left = log
    hears-keeps false false (Some f) full to known fit left = log
    hears-keeps false false None true to known fit left = log
    hears-keeps false false None false to known fit left =
        let (to_me, from_peer) = addressed p m to in
        body-keeps m.body refl of (record { session = refl; receiver = to_me; sender = from_peer; gate = of-peer p side.records m.session known })
        (begins-not (slot_in m.session side.records) (would_take p side.records m t m.body) (is_full Recipient side.records) left) fit

pub calls-keep-logs : CallsKeepLogs
unfolding run_of refusal_of
calls-keep-logs p differ side (Starts s terms) log h whose = start-keeps p s side log terms whose (slot_in s side.records) refl (is_full Origin side.records) refl
calls-keep-logs p differ side (Works s) log h whose = works-keeps p s side log (slot_in s side.records) refl
calls-keep-logs p differ side (Aborts s) log h whose = aborts-keeps p s side log (slot_in s side.records) refl
calls-keep-logs p differ side (Rescues s) log h whose = rescues-keeps p s side log (slot_in s side.records) refl
calls-keep-logs p differ side (Hears m t e) log ((formed, text), of) whose = hears-keeps p differ side log m t e formed text of _ _ _ _ refl refl refl refl
