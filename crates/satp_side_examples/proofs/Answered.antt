-- A run that has no answer asked the ledger.
use Rattle.std.proofs.Common.{◌≡◌, ℕ, zero, suc, ◌+◌, ◌≤◌, Bool, true, false, List, [], ◌∷◌, ◌++◌, length, Option, Some, None, refl, sym, ap, subst, arith, lit≤, nat_le, nat_lt, if◌then◌else◌}
use Rattle.std.specs.Prelude.{is_some, not, Result, Ok, Err}
use Rattle.std.proofs.lemmas.Bool.{lt-leb, lt-ltb}
use Rattle.satp_base.specs.Canonical.{kind_of, part_kind}
use Rattle.satp_base.specs.Chains.{head_of, last_link}
use Rattle.satp_base.specs.Forms.{IsBody, IsPart, IsPlace, is_plain}
use Rattle.satp_base.specs.LedgerRule.{operation}
use Rattle.satp_base.specs.Money.{Book}
use Rattle.satp_base.specs.Roles.{abort_of, both, negate, next_of}
use Rattle.satp_base.specs.Tales.{kind_eq}
use Rattle.satp_base.specs.Tales.IsTale.{Onward}
use Rattle.satp_base.specs.Verdicts.{IsChainBody, body_verdict, extends, maker_at, place_verdict, same_link, same_name, verdict_on}
use Rattle.satp_base.specs.declared.ledger.Answer.{Answer}
use Rattle.satp_base.specs.declared.ledger.LedgerOp.{LedgerOp}
use Rattle.satp_base.specs.declared.message.Body.{Body}
use Rattle.satp_base.specs.declared.message.Body.TheVariants as body
use Rattle.satp_base.specs.declared.message.Kind.{Kind}
use Rattle.satp_base.specs.declared.message.Kind.TheVariants.{TransferProposal, ProposalReceipt, TransferCommence, CommenceAck, LockAssert, LockReceipt, CommitPrepare, CommitReady, CommitFinal, CommitFinalAck, TransferComplete, Reject, Rollback, RollbackAck, Recover, RecoverUpdate, RecoverSuccess}
use Rattle.satp_base.specs.declared.message.Link.{Link}
use Rattle.satp_base.specs.declared.message.Message.{Message}
use Rattle.satp_base.specs.declared.message.Part.{Part}
use Rattle.satp_base.specs.declared.message.Part.TheVariants as part
use Rattle.satp_base.specs.declared.record.Next.{Next}
use Rattle.satp_base.specs.declared.record.Next.TheVariants.{Append, Act, Wait, Ended}
use Rattle.satp_base.specs.declared.record.Rec.{Rec}
use Rattle.satp_base.specs.declared.record.TooLate.{TooLate as Late}
use Rattle.satp_base.specs.declared.session.SessionId.{SessionId}
use Rattle.satp_base.specs.declared.verdict.Verdict.{Verdict}
use Rattle.satp_base.specs.declared.verdict.Verdict.TheVariants as verdict
use Rattle.satp_base.proofs.TaleTable.{extends-by}
use Rattle.satp_base.proofs.VerdictLemmas.{next_tale}
use Rattle.satp_recovery.specs.Rounds.{step_of, take_of, unless}
use Rattle.satp_recovery.specs.declared.choice.RecoveryFault.{RecoveryFault}
use Rattle.satp_recovery.specs.declared.choice.Step.{Step}
use Rattle.satp_recovery.specs.declared.choice.Step.TheVariants.{Adopt, Equal, Resend}
use Rattle.satp_sides.specs.Calls.{Call, Starts, Works, Aborts, Rescues, Hears, IsEntryOf, IsHeard, Refusal, Run, Strange, aborted, accepted, adopted, adopted_as, again_reply, asked, body_refusal, by_tests, chain_of, ended, first_refusal, heard, heard_as, is_adopted, is_misaddressed, is_named, is_next, late_by, last_own, last_unless_whole, late_in, named, own_at, recover_text, refusal_of, replied, rescue_in, rescued, run_of, runs, runs_noted, step_refusal, taken, test, unfit, updated, verdict_in}
use Rattle.satp_sides.specs.Due.{Due, due, due_answered, due_by, due_within}
use Rattle.satp_sides.specs.DueLaws.{acts_in}
use Rattle.satp_sides.specs.Logs.{IsLog}
use Rattle.satp_sides.specs.Points.{Move, Appends, Acts, Says, Party, Side, Slot, Text, chain_in, is_session, noted, slot_in}
use Rattle.satp_sides.proofs.Records.{chain-none}
use Rattle.satp_side_examples.specs.Tested.{RunsAreAnswered}
use Rattle.satp_side_examples.proofs.Named.{logs-name}

acts-append : (ms ns : List Move) → acts_in (ms ++ ns) ≡ acts_in ms + acts_in ns
acts-append [] ns = omega arith
acts-append (Appends x ∷ ms) ns = acts-append ms ns
acts-append (Acts s op terms ∷ ms) ns = let h = acts-append ms ns in omega (arith, h)
acts-append (Says t ∷ ms) ns = acts-append ms ns

-- without an answer, the ledger was asked
abbrev pub Asked : Run → Type 0
Asked r = r.answer ≡ None → 1 ≤ acts_in r.moves

abbrev Stuck : Due → Type 0
Stuck d = d.in_order ≡ false → 1 ≤ acts_in d.moves

module _ (rest : Slot → Book → Due) (deeper : (l : Slot) (b : Book) → Stuck (rest l b)) (p : Party) (s : SessionId) (l : Slot) (b : Book) where
  stuck-answer : (op : LedgerOp) (o : Option Answer) → Stuck (due_answered rest s l b op o)
  stuck-answer op (Some a) h = omega arith
  stuck-answer op None h = omega arith

  stuck-next : (next : Next) → Stuck (due_by rest p s l b next)
  stuck-next (Append r) h = deeper _ _ h
  stuck-next (Act op) h = stuck-answer op (operation b op s l.view.terms).answer h
  stuck-next Wait h = absurd (cc h)
  stuck-next Ended h = absurd (cc h)

stuck : (n : ℕ) (p : Party) (s : SessionId) (l : Slot) (b : Book) → Stuck (due_within n p s l b)
stuck zero p s l b h = absurd (cc h)
stuck (suc n) p s l b h = stuck-next (due_within n p s) (stuck n p s) p s l b (next_of l.view.role l.view) h

ended-asked : (b : Bool) (d : Due) (first : List Move) (reply : Option Text) → (b ≡ false → 1 ≤ acts_in d.moves) → Asked (ended b d first reply)
ended-asked true d first reply h none = absurd (cc none)
ended-asked false d first reply h none = let some = h refl in let all = acts-append first d.moves in omega (arith, some, all)

pub runs-asked : (p : Party) (side : Side) (s : SessionId) (l : Slot) (first : List Move) (reply : Slot → Option Text) → Asked (runs p side s l first reply)
unfolding due
runs-asked p side s l first reply = let d = due p s l side.book in ended-asked d.in_order d first (reply d.slot) (stuck 3 p s l side.book)

pub noted-asked : (p : Party) (side : Side) (s : SessionId) (l : Slot) (r : Option Rec) (reply : Slot → Option Text) → Asked (runs_noted p side s l r reply)
noted-asked p side s l None reply = runs-asked p side s l [] reply
noted-asked p side s l (Some r) reply = runs-asked p side s (noted l s r []) _ reply

abbrev pub Let : Option Refusal → Run → Type 0
Let r run = r ≡ None → Asked run

-- ---- calls of the operator

named-asked : (s : SessionId) (run : Slot → Run) (h : (l : Slot) → Asked (run l)) (o : Option Slot) → Let (test (negate (is_some o)) (Strange s)) (named run o)
named-asked s run h None e = absurd (cc e)
named-asked s run h (Some l) e = h l

abort-asked : (p : Party) (side : Side) (s : SessionId) (l : Slot) (r : Result (Option Rec) Late) → Let (first_refusal (late_by r ∷ [])) (aborted p side s l r)
abort-asked p side s l (Ok r) e = noted-asked p side s l r _
abort-asked p side s l (Err late) e = absurd (cc e)

aborts-asked : (p : Party) (side : Side) (s : SessionId) (o : Option Slot)
    → Let (first_refusal (test (negate (is_some o)) (Strange s) ∷ late_in o ∷ [])) (named (λ l. aborted p side s l (abort_of l.view.role l.view)) o)
aborts-asked p side s None e = absurd (cc e)
aborts-asked p side s (Some l) e = abort-asked p side s l (abort_of l.view.role l.view) e

-- ---- messages

third : (a b c d : Option Refusal) → first_refusal (a ∷ b ∷ c ∷ d ∷ []) ≡ None → c ≡ None
third (Some r) b c d h = absurd (cc h)
third None (Some r) c d h = absurd (cc h)
third None None (Some r) d h = absurd (cc h)
third None None None d h = refl

not-plain : (k : Kind) → kind_eq k TransferProposal ≡ true → is_plain k ≡ true → ⊥
not-plain TransferProposal a b = cc b
not-plain ProposalReceipt a b = cc a
not-plain TransferCommence a b = cc a
not-plain CommenceAck a b = cc a
not-plain LockAssert a b = cc a
not-plain LockReceipt a b = cc a
not-plain CommitPrepare a b = cc a
not-plain CommitReady a b = cc a
not-plain CommitFinal a b = cc a
not-plain CommitFinalAck a b = cc a
not-plain TransferComplete a b = cc a
not-plain Reject a b = cc a
not-plain Rollback a b = cc a
not-plain RollbackAck a b = cc a
not-plain Recover a b = cc a
not-plain RecoverUpdate a b = cc a
not-plain RecoverSuccess a b = cc a

-- what is next on an empty chain is a proposal
first-kind : (p : Party) (s : SessionId) (m : Message) (t : Text) (place : ℕ) (previous : Link) (q : Part) → m.body ≡ body.Chain place previous q
    → verdict_on (chain_of p s None) m t ≡ verdict.Next → kind_eq (part_kind q) TransferProposal ≡ true
first-kind p s m t place previous q b v =
    let longer = next_tale (chain_of p s None) m t (Onward 0 (lit≤ tt)) (subst IsChainBody (sym b) tt) v in
    subst (λ (x : Body). kind_eq (kind_of x) TransferProposal ≡ true) b (extends-by [] (kind_of m.body) (Onward 0 (lit≤ tt)) longer)

begun-asked : (p : Party) (side : Side) (s : SessionId) (q : Part) (t : Text) → IsPart q → kind_eq (part_kind q) TransferProposal ≡ true → Asked (taken p side s None q t)
begun-asked p side s (part.Proposal terms) t f k = runs-asked p side s _ _ last_own
begun-asked p side s (part.Plain kind) t f k = absurd (not-plain kind k f)
begun-asked p side s (part.Reject r) t f k = absurd (cc k)

taken-asked : (p : Party) (side : Side) (s : SessionId) (m : Message) (t : Text) (place : ℕ) (previous : Link) (q : Part) → m.body ≡ body.Chain place previous q → IsPart q
    → (o : Option Slot) → verdict_on (chain_of p s o) m t ≡ verdict.Next → Asked (taken p side s o q t)
taken-asked p side s m t place previous q b f None v = begun-asked p side s q t f (first-kind p s m t place previous q b v)
taken-asked p side s m t place previous q b f (Some l) v = runs-asked p side s _ _ last_own

-- a chain says Again of a place that it has alone
again-held : (a b c d e : Bool) (k : ℕ) (kept : Verdict) (l : Link) (place n : ℕ)
    → (if a then verdict.WrongSender else if b then verdict.Gap k else if c then kept else if d then verdict.WrongPrevious l else if e then verdict.Next else verdict.OffTale place) ≡ verdict.Again n
    → c ≡ true
again-held true b c d e k kept l place n h = absurd (cc h)
again-held false true c d e k kept l place n h = absurd (cc h)
again-held false false true d e k kept l place n h = refl
again-held false false false true e k kept l place n h = absurd (cc h)
again-held false false false false true k kept l place n h = absurd (cc h)
again-held false false false false false k kept l place n h = absurd (cc h)

not-again : (p : Party) (s : SessionId) (m : Message) (t : Text) (place : ℕ) (previous : Link) (q : Part) (n : ℕ) → m.body ≡ body.Chain place previous q → 1 ≤ place
    → verdict_on (chain_of p s None) m t ≡ verdict.Again n → ⊥
not-again p s m t place previous q n b low v =
    let chain = chain_of p s None in
    let at : place_verdict chain m.sender place previous (part_kind q) t ≡ verdict.Again n = subst (λ (x : Body). body_verdict chain m.sender t x ≡ verdict.Again n) b v in
    let held = again-held (not (same_name m.sender (maker_at chain place))) (nat_lt 1 place) (nat_le place 0) (not (same_link previous (last_link []))) (extends [] (part_kind q)) 0 _ _ place n at in
    let no_place = lt-leb place 0 low in
    absurd (cc (held, no_place))

again-asked : (p : Party) (side : Side) (s : SessionId) (m : Message) (t : Text) (place : ℕ) (previous : Link) (q : Part) (n : ℕ) → m.body ≡ body.Chain place previous q → 1 ≤ place
    → (o : Option Slot) → verdict_on (chain_of p s o) m t ≡ verdict.Again n → Asked (named (λ l. runs p side s l [] (again_reply n)) o)
again-asked p side s m t place previous q n b low None v = absurd (not-again p s m t place previous q n b low v)
again-asked p side s m t place previous q n b low (Some l) v = runs-asked p side s l [] (again_reply n)

chain-asked : (p : Party) (side : Side) (m : Message) (t : Text) (place : ℕ) (previous : Link) (q : Part) → m.body ≡ body.Chain place previous q → IsPlace place → IsPart q
    → (v : Verdict) → verdict_in p side.records m.session m t ≡ v → Let (unfit v) (heard_as p side m.session t q v)
chain-asked p side m t place previous q b low f verdict.Next e u = taken-asked p side m.session m t place previous q b f (slot_in m.session side.records) e
chain-asked p side m t place previous q b low f (verdict.Again n) e u = again-asked p side m.session m t place previous q n b low.low (slot_in m.session side.records) e
chain-asked p side m t place previous q b low f (verdict.Gap n) e u = absurd (cc u)
chain-asked p side m t place previous q b low f (verdict.Other n l) e u = absurd (cc u)
chain-asked p side m t place previous q b low f (verdict.WrongPrevious l) e u = absurd (cc u)
chain-asked p side m t place previous q b low f verdict.WrongSender e u = absurd (cc u)
chain-asked p side m t place previous q b low f (verdict.OffTale n) e u = absurd (cc u)

recover-asked : (p : Party) (side : Side) (s : SessionId) (n : ℕ) (o : Option Slot) → Asked (asked p side s n o)
recover-asked p side s n None = λ none. absurd (cc none)
recover-asked p side s n (Some l) = noted-asked p side s l _ _

-- ---- updates

is-next : (v : Verdict) → is_next v ≡ true → v ≡ verdict.Next
is-next verdict.Next h = refl
is-next (verdict.Again n) h = absurd (cc h)
is-next (verdict.Gap n) h = absurd (cc h)
is-next (verdict.Other n l) h = absurd (cc h)
is-next (verdict.WrongPrevious l) h = absurd (cc h)
is-next verdict.WrongSender h = absurd (cc h)
is-next (verdict.OffTale n) h = absurd (cc h)

both-right : (a b : Bool) → both a b ≡ true → b ≡ true
both-right true b h = h
both-right false b h = absurd (cc h)

entry-asked : (p : Party) (side : Side) (s : SessionId) (t : Text) (d : Message) (b : Body) → d.body ≡ b → IsBody b → verdict_in p side.records s d t ≡ verdict.Next → Asked (adopted_as p side s t b)
entry-asked p side s t d (body.Chain place previous q) e f v = taken-asked p side s d t place previous q e f.1 (slot_in s side.records) v
entry-asked p side s t d (body.Recover n last) e f v = let bad = rw e at v in absurd (cc bad)
entry-asked p side s t d (body.Update n entries) e f v = let bad = rw e at v in absurd (cc bad)
entry-asked p side s t d (body.Success n last) e f v = let bad = rw e at v in absurd (cc bad)

adopted-asked : (p : Party) (side : Side) (s : SessionId) (n : ℕ) (entries : List Text) (e : Option Message) → IsEntryOf p.key (body.Update n entries) e
    → is_adopted p side.records s entries e ≡ true → Asked (adopted p side s entries e)
adopted-asked p side s n [] e o h = absurd (cc h)
adopted-asked p side s n (t ∷ []) None o h = absurd (cc h)
adopted-asked p side s n (t ∷ []) (Some d) o h =
    entry-asked p side s t d d.body refl o.0.0 (is-next (verdict_in p side.records s d t) (both-right (is_session s d.session) _ (both-right (negate (is_misaddressed p d)) _ h)))
adopted-asked p side s n (t ∷ u ∷ ts) e o h = absurd (cc h)

not-resent : (f : Option RecoveryFault) (n place : ℕ) → unless f (step_of 0 n) ≡ Ok (Resend place) → ⊥
not-resent (Some fault) n place h = cc h
not-resent None zero place h = cc h
not-resent None (suc n) place h = let bad = rw (lt-ltb 0 (suc n) (omega arith)) at h in cc bad

resend-asked : (p : Party) (side : Side) (s : SessionId) (n place : ℕ) (entries : List Text) → (is_named s side.records ≡ false → chain_in s side.records ≡ [])
    → take_of (head_of (chain_in s side.records)) n (length entries) ≡ Ok (Resend place)
    → (o : Option Slot) → slot_in s side.records ≡ o → Asked (named (λ l. replied (own_at place l)) o)
resend-asked p side s n place entries empty h (Some l) e = λ none. absurd (cc none)
resend-asked p side s n place entries empty h None e =
    let texts = empty (ap is_some e) in
    let at : take_of (head_of []) n (length entries) ≡ Ok (Resend place) = subst (λ (x : List Text). take_of (head_of x) n (length entries) ≡ Ok (Resend place)) texts h in
    absurd (not-resent _ n place at)

adopt-test : (a : Bool) (f : Refusal) → test (negate a) f ≡ None → a ≡ true
adopt-test true f h = refl
adopt-test false f h = absurd (cc h)

update-asked : (p : Party) (side : Side) (s : SessionId) (n : ℕ) (entries : List Text) (e : Option Message) → IsEntryOf p.key (body.Update n entries) e
    → (is_named s side.records ≡ false → chain_in s side.records ≡ [])
    → (r : Result Step RecoveryFault) → take_of (head_of (chain_in s side.records)) n (length entries) ≡ r
    → Let (step_refusal (is_adopted p side.records s entries e) r) (updated p side s entries e r)
update-asked p side s n entries e o empty (Ok (Adopt place)) r h = adopted-asked p side s n entries e o (adopt-test (is_adopted p side.records s entries e) _ h)
update-asked p side s n entries e o empty (Ok (Resend place)) r h = resend-asked p side s n place entries empty r (slot_in s side.records) refl
update-asked p side s n entries e o empty (Ok Equal) r h = λ none. absurd (cc none)
update-asked p side s n entries e o empty (Err fault) r h = absurd (cc h)

-- ---- every call

body-asked : (p : Party) (side : Side) (m : Message) (t : Text) (e : Option Message) → (is_named m.session side.records ≡ false → chain_in m.session side.records ≡ [])
    → (b : Body) → m.body ≡ b → IsBody b → IsEntryOf p.key b e → Let (body_refusal p side.records m t e b) (heard p side m t e b)
body-asked p side m t e empty (body.Chain place previous q) b f o h = chain-asked p side m t place previous q b f.0 f.1 (verdict_in p side.records m.session m t) refl h
body-asked p side m t e empty (body.Recover n last) b f o h = recover-asked p side m.session n (slot_in m.session side.records)
body-asked p side m t e empty (body.Update n entries) b f o h = update-asked p side m.session n entries e o empty _ refl h
body-asked p side m t e empty (body.Success n last) b f o h = λ none. absurd (cc none)

call-asked : (p : Party) (side : Side) (call : Call) → IsLog p side.records → IsHeard p.key call → Let (refusal_of p side.records call) (accepted p side call)
unfolding refusal_of
call-asked p side (Starts s terms) log said h = λ none. absurd (cc none)
call-asked p side (Works s) log said h = named-asked s (λ l. runs p side s l [] last_unless_whole) (λ l. runs-asked p side s l [] last_unless_whole) (slot_in s side.records) h
call-asked p side (Aborts s) log said h = aborts-asked p side s (slot_in s side.records) h
call-asked p side (Rescues s) log said h = named-asked s (rescued p side s) (λ l. noted-asked p side s l (rescue_in l.view) (λ after. Some (recover_text p s after.texts))) (slot_in s side.records) h
call-asked p side (Hears m t e) log said h =
    body-asked p side m t e (λ x. chain-none m.session side.records (logs-name p side.records log m.session x)) m.body refl said.0.0.0 said.1 (third _ _ _ _ h)

pub answered : RunsAreAnswered
unfolding run_of
answered p side call log said h =
    let run : run_of p side call ≡ accepted p side call = ap (λ r. by_tests r (accepted p side call)) h in
    subst Asked (sym run) (call-asked p side call log said h)
