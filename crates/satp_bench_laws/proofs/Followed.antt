-- In the moves of a call that is answered, the record of its answer follows each operation.
use Rattle.std.proofs.Common.{◌≡◌, ℕ, zero, suc, Bool, true, false, List, [], ◌∷◌, ◌++◌, length, Option, Some, None, Result, Ok, Err, refl}
use Rattle.satp_base.specs.LedgerRule.{operation}
use Rattle.satp_base.specs.Money.{Book}
use Rattle.satp_base.specs.Chains.{head_of}
use Rattle.satp_base.specs.Roles.{abort_of, next_of}
use Rattle.satp_base.specs.declared.ledger.Answer.{Answer}
use Rattle.satp_base.specs.declared.ledger.LedgerOp.{LedgerOp}
use Rattle.satp_base.specs.declared.message.Body.{Body}
use Rattle.satp_base.specs.declared.message.Body.TheVariants as body
use Rattle.satp_base.specs.declared.message.Message.{Message}
use Rattle.satp_base.specs.declared.message.Part.{Part}
use Rattle.satp_base.specs.declared.message.Part.TheVariants as part
use Rattle.satp_base.specs.declared.record.Next.{Next}
use Rattle.satp_base.specs.declared.record.Next.TheVariants.{Append, Act, Wait, Ended}
use Rattle.satp_base.specs.declared.record.Rec.{Rec}
use Rattle.satp_base.specs.declared.record.TooLate.{TooLate}
use Rattle.satp_base.specs.declared.session.SessionId.{SessionId}
use Rattle.satp_base.specs.declared.verdict.Verdict.{Verdict}
use Rattle.satp_base.specs.declared.verdict.Verdict.TheVariants as verdict
use Rattle.satp_recovery.specs.Rounds.{take_of}
use Rattle.satp_recovery.specs.declared.choice.RecoveryFault.{RecoveryFault}
use Rattle.satp_recovery.specs.declared.choice.Step.{Step}
use Rattle.satp_recovery.specs.declared.choice.Step.TheVariants.{Adopt, Equal, Resend}
use Rattle.satp_sides.specs.Calls.{Call, Starts, Works, Aborts, Rescues, Hears, Refusal, Run, aborted, accepted, adopted, adopted_as, asked, by_tests, ended, heard, heard_as, named, no_reply, own_at, again_reply, last_own, last_unless_whole, recover_text, update_text, replied, rescue_in, rescued, refusal_of, run_of, runs, runs_noted, says, taken, updated, verdict_in}
use Rattle.satp_sides.specs.Due.{Due, due, due_answered, due_by, due_within}
use Rattle.satp_sides.specs.Points.{Move, Appends, Acts, Says, Party, Side, Slot, Text, chain_in, slot_in, stored}

abbrev pub BeginsAppend : List Move → Type 0
BeginsAppend [] = ⊥
BeginsAppend (Appends x ∷ ms) = Unit {0}
BeginsAppend (Acts s op terms ∷ ms) = ⊥
BeginsAppend (Says t ∷ ms) = ⊥

-- an append follows each operation
abbrev pub Followed : List Move → Type 0
Followed [] = Unit {0}
Followed (Appends x ∷ ms) = Followed ms
Followed (Acts s op terms ∷ ms) = BeginsAppend ms × Followed ms
Followed (Says t ∷ ms) = Followed ms

still-begins : (xs ys : List Move) → BeginsAppend xs → BeginsAppend (xs ++ ys)
still-begins [] ys h = absurd h
still-begins (Appends x ∷ xs) ys h = tt
still-begins (Acts s op terms ∷ xs) ys h = absurd h
still-begins (Says t ∷ xs) ys h = absurd h

both-followed : (xs ys : List Move) → Followed xs → Followed ys → Followed (xs ++ ys)
both-followed [] ys h k = k
both-followed (Appends x ∷ xs) ys h k = both-followed xs ys h k
both-followed (Acts s op terms ∷ xs) ys h k = (still-begins xs ys h.0, both-followed xs ys h.1 k)
both-followed (Says t ∷ xs) ys h k = both-followed xs ys h k

says-followed : (o : Option Text) → Followed (says o)
says-followed None = tt
says-followed (Some t) = tt

abbrev Done : Due → Type 0
Done d = d.in_order ≡ true → Followed d.moves

-- whatever follows
module _ (p : Party) (s : SessionId) (rest : Slot → Book → Due) (h : (l : Slot) (b : Book) → Done (rest l b)) where
  answered-done : (l : Slot) (b : Book) (op : LedgerOp) (o : Option Answer) → Done (due_answered rest s l b op o)
  answered-done l b op (Some a) = λ e. (tt, h _ _ e)
  answered-done l b op None = λ e. absurd (cc e)

  line-done : (l : Slot) (b : Book) (next : Next) → Done (due_by rest p s l b next)
  line-done l b (Append r) = λ e. h _ b e
  line-done l b (Act op) = answered-done l b op (operation b op s l.view.terms).answer
  line-done l b Wait = λ e. tt
  line-done l b Ended = λ e. tt

within-done : (n : ℕ) (p : Party) (s : SessionId) (l : Slot) (b : Book) → Done (due_within n p s l b)
within-done zero p s l b = λ e. tt
within-done (suc n) p s l b = line-done p s (due_within n p s) (within-done n p s) l b (next_of l.view.role l.view)

due-done : (p : Party) (s : SessionId) (l : Slot) (b : Book) → Done (due p s l b)
unfolding due
due-done p s l b = within-done 3 p s l b

module _ (p : Party) (side : Side) (s : SessionId) where
  -- where the run is answered
  abbrev Goes : Run → Type 0
  Goes run = (answer : Result (Option Text) Refusal) → run.answer ≡ Some answer → Followed run.moves

  ended-goes : (c : Bool) (d : Due) (ms : List Move) (o : Option Text) → d.in_order ≡ c → Followed ms → Done d → Goes (ended c d ms o)
  ended-goes true d ms o is h k reply e = both-followed ms _ h (both-followed d.moves _ (k is) (says-followed o))
  ended-goes false d ms o is h k reply e = absurd (cc e)

  runs-goes : (l : Slot) (ms : List Move) (reply : Slot → Option Text) → Followed ms → Goes (runs p side s l ms reply)
  runs-goes l ms reply h = ended-goes (due p s l side.book).in_order (due p s l side.book) ms (reply (due p s l side.book).slot) refl h (due-done p s l side.book)

  noted-goes : (l : Slot) (o : Option Rec) (reply : Slot → Option Text) → Goes (runs_noted p side s l o reply)
  noted-goes l None reply = runs-goes l [] reply tt
  noted-goes l (Some r) reply = runs-goes _ (Appends (stored s r []) ∷ []) reply tt

  named-goes : (run : Slot → Run) (o : Option Slot) → ((l : Slot) → Goes (run l)) → Goes (named run o)
  named-goes run None h = λ reply e. tt
  named-goes run (Some l) h = h l

  replied-goes : (o : Option Text) → Goes (replied o)
  replied-goes o reply e = says-followed o

  aborted-goes : (l : Slot) (x : Result (Option Rec) TooLate) → Goes (aborted p side s l x)
  aborted-goes l (Ok r) = noted-goes l r no_reply
  aborted-goes l (Err late) = λ reply e. tt

  taken-goes : (o : Option Slot) (q : Part) (t : Text) → Goes (taken p side s o q t)
  taken-goes None (part.Proposal terms) t = runs-goes _ _ last_own tt
  taken-goes None (part.Plain kind) t = λ reply e. tt
  taken-goes None (part.Reject reason) t = λ reply e. tt
  taken-goes (Some l) q t = runs-goes _ _ last_own tt

  heard-as-goes : (t : Text) (q : Part) (v : Verdict) → Goes (heard_as p side s t q v)
  heard-as-goes t q verdict.Next = taken-goes (slot_in s side.records) q t
  heard-as-goes t q (verdict.Again n) = named-goes (λ l. runs p side s l [] (again_reply n)) (slot_in s side.records) (λ l. runs-goes l [] (again_reply n) tt)
  heard-as-goes t q (verdict.Gap n) = λ reply e. tt
  heard-as-goes t q (verdict.Other n link) = λ reply e. tt
  heard-as-goes t q (verdict.WrongPrevious link) = λ reply e. tt
  heard-as-goes t q verdict.WrongSender = λ reply e. tt
  heard-as-goes t q (verdict.OffTale n) = λ reply e. tt

  asked-goes : (n : ℕ) (o : Option Slot) → Goes (asked p side s n o)
  asked-goes n None = λ reply e. tt
  asked-goes n (Some l) = noted-goes l (rescue_in l.view) (λ after. Some (update_text p s n after.texts))

  adopted-as-goes : (t : Text) (b : Body) → Goes (adopted_as p side s t b)
  adopted-as-goes t (body.Chain place previous q) = taken-goes (slot_in s side.records) q t
  adopted-as-goes t (body.Recover n last) = λ reply e. tt
  adopted-as-goes t (body.Update n entries) = λ reply e. tt
  adopted-as-goes t (body.Success n last) = λ reply e. tt

  adopted-goes : (entries : List Text) (e : Option Message) → Goes (adopted p side s entries e)
  adopted-goes [] e = λ reply is. tt
  adopted-goes (t ∷ []) None = λ reply is. tt
  adopted-goes (t ∷ []) (Some m) = adopted-as-goes t m.body
  adopted-goes (t ∷ u ∷ ts) e = λ reply is. tt

  updated-goes : (entries : List Text) (e : Option Message) (x : Result Step RecoveryFault) → Goes (updated p side s entries e x)
  updated-goes entries e (Ok (Adopt place)) = adopted-goes entries e
  updated-goes entries e (Ok (Resend place)) = named-goes (λ l. replied (own_at place l)) (slot_in s side.records) (λ l. replied-goes (own_at place l))
  updated-goes entries e (Ok Equal) = λ reply is. tt
  updated-goes entries e (Err f) = λ reply is. tt

  tests-goes : (o : Option Refusal) (run : Run) → Goes run → Goes (by_tests o run)
  tests-goes None run h = h
  tests-goes (Some r) run h = λ reply is. tt

heard-goes : (p : Party) (side : Side) (m : Message) (t : Text) (e : Option Message) (b : Body) → Goes p side m.session (heard p side m t e b)
heard-goes p side m t e (body.Chain place previous q) = heard-as-goes p side m.session t q (verdict_in p side.records m.session m t)
heard-goes p side m t e (body.Recover n last) = asked-goes p side m.session n (slot_in m.session side.records)
heard-goes p side m t e (body.Update n entries) = updated-goes p side m.session entries e (take_of (head_of (chain_in m.session side.records)) n (length entries))
heard-goes p side m t e (body.Success n last) = λ reply is. tt

abbrev GoesBy : Run → Type 0
GoesBy run = (answer : Result (Option Text) Refusal) → run.answer ≡ Some answer → Followed run.moves

accepted-goes : (p : Party) (side : Side) (call : Call) → GoesBy (accepted p side call)
accepted-goes p side (Starts s terms) = λ reply is. tt
accepted-goes p side (Works s) = named-goes p side s (λ l. runs p side s l [] last_unless_whole) (slot_in s side.records) (λ l. runs-goes p side s l [] last_unless_whole tt)
accepted-goes p side (Aborts s) = named-goes p side s (λ l. aborted p side s l (abort_of l.view.role l.view)) (slot_in s side.records) (λ l. aborted-goes p side s l (abort_of l.view.role l.view))
accepted-goes p side (Rescues s) = named-goes p side s (rescued p side s) (slot_in s side.records) (λ l. noted-goes p side s l (rescue_in l.view) (λ after. Some (recover_text p s after.texts)))
accepted-goes p side (Hears m t e) = heard-goes p side m t e m.body

tests-by : (o : Option Refusal) (run : Run) → GoesBy run → GoesBy (by_tests o run)
tests-by None run h = h
tests-by (Some r) run h = λ reply is. tt

pub run-followed : (p : Party) (side : Side) (call : Call) → GoesBy (run_of p side call)
unfolding run_of
run-followed p side call = tests-by (refusal_of p side.records call) (accepted p side call) (accepted-goes p side call)
