-- The moves of a call are of its session.
use Rattle.std.proofs.Common.{ℕ, zero, suc, Bool, true, false, List, [], ◌∷◌, ◌++◌, length, Option, Some, None, Result, Ok, Err, refl}
use Rattle.satp_base.specs.LedgerRule.{operation}
use Rattle.satp_base.specs.Money.{Book}
use Rattle.satp_base.specs.Chains.{head_of}
use Rattle.satp_base.specs.Roles.{abort_of, next_of}
use Rattle.satp_base.specs.declared.ledger.Answer.{Answer}
use Rattle.satp_base.specs.declared.ledger.LedgerOp.{LedgerOp}
use Rattle.satp_base.specs.declared.message.Body.{Body}
use Rattle.satp_base.specs.declared.message.Body.TheVariants as body
use Rattle.satp_base.specs.declared.message.Message.{Message}
use Rattle.satp_base.specs.declared.message.Part.{Part}
use Rattle.satp_base.specs.declared.message.Part.TheVariants as part
use Rattle.satp_base.specs.declared.record.Next.{Next}
use Rattle.satp_base.specs.declared.record.Next.TheVariants.{Append, Act, Wait, Ended}
use Rattle.satp_base.specs.declared.record.Rec.{Rec}
use Rattle.satp_base.specs.declared.record.TooLate.{TooLate}
use Rattle.satp_base.specs.declared.session.SessionId.{SessionId}
use Rattle.satp_base.specs.declared.verdict.Verdict.{Verdict}
use Rattle.satp_base.specs.declared.verdict.Verdict.TheVariants as verdict
use Rattle.satp_recovery.specs.Rounds.{take_of}
use Rattle.satp_recovery.specs.declared.choice.RecoveryFault.{RecoveryFault}
use Rattle.satp_recovery.specs.declared.choice.Step.{Step}
use Rattle.satp_recovery.specs.declared.choice.Step.TheVariants.{Adopt, Equal, Resend}
use Rattle.satp_sides.specs.Calls.{Call, Starts, Works, Aborts, Rescues, Hears, Refusal, Run, aborted, accepted, adopted, adopted_as, asked, by_tests, ended, heard, heard_as, named, no_reply, own_at, again_reply, last_own, last_unless_whole, recover_text, update_text, replied, rescue_in, rescued, refusal_of, run_of, runs, runs_noted, says, taken, updated, verdict_in}
use Rattle.satp_sides.specs.Due.{Due, due, due_answered, due_by, due_within}
use Rattle.satp_sides.specs.Others.{AreOf, DueIsOf, RunsAreOf, session_of}
use Rattle.satp_sides.specs.Points.{Move, Appends, Party, Side, Slot, Text, chain_in, slot_in, stored}

both-of : (s : SessionId) (xs ys : List Move) → AreOf s xs → AreOf s ys → AreOf s (xs ++ ys)
both-of s [] ys h k = k
both-of s (m ∷ xs) ys (x, h) k = (x, both-of s xs ys h k)

says-of : (s : SessionId) (o : Option Text) → AreOf s (says o)
says-of s None = tt
says-of s (Some t) = (tt, tt)

-- whatever follows
module _ (p : Party) (s : SessionId) (rest : Slot → Book → Due) (h : (l : Slot) (b : Book) → AreOf s (rest l b).moves) where
  answered-of : (l : Slot) (b : Book) (op : LedgerOp) (o : Option Answer) → AreOf s (due_answered rest s l b op o).moves
  answered-of l b op (Some a) = (refl, (refl, h _ _))
  answered-of l b op None = (refl, tt)

  line-of : (l : Slot) (b : Book) (next : Next) → AreOf s (due_by rest p s l b next).moves
  line-of l b (Append r) = (refl, h _ b)
  line-of l b (Act op) = answered-of l b op (operation b op s l.view.terms).answer
  line-of l b Wait = tt
  line-of l b Ended = tt

within-of : (n : ℕ) (p : Party) (s : SessionId) (l : Slot) (b : Book) → AreOf s (due_within n p s l b).moves
within-of zero p s l b = tt
within-of (suc n) p s l b = line-of p s (due_within n p s) (within-of n p s) l b (next_of l.view.role l.view)

pub due-of : DueIsOf
unfolding due
due-of p s l b = within-of 3 p s l b

module _ (p : Party) (side : Side) (s : SessionId) where
  abbrev Goes : Run → Type 0
  Goes run = AreOf s run.moves

  ended-of : (c : Bool) (d : Due) (ms : List Move) (o : Option Text) → AreOf s ms → AreOf s d.moves → Goes (ended c d ms o)
  ended-of true d ms o h k = both-of s ms _ h (both-of s d.moves _ k (says-of s o))
  ended-of false d ms o h k = both-of s ms _ h k

  runs-of : (l : Slot) (ms : List Move) (reply : Slot → Option Text) → AreOf s ms → Goes (runs p side s l ms reply)
  runs-of l ms reply h = ended-of (due p s l side.book).in_order (due p s l side.book) ms (reply (due p s l side.book).slot) h (due-of p s l side.book)

  noted-of : (l : Slot) (o : Option Rec) (reply : Slot → Option Text) → Goes (runs_noted p side s l o reply)
  noted-of l None reply = runs-of l [] reply tt
  noted-of l (Some r) reply = runs-of _ (Appends (stored s r []) ∷ []) reply (refl, tt)

  named-of : (run : Slot → Run) (o : Option Slot) → ((l : Slot) → Goes (run l)) → Goes (named run o)
  named-of run None h = tt
  named-of run (Some l) h = h l

  replied-of : (o : Option Text) → Goes (replied o)
  replied-of o = says-of s o

  aborted-of : (l : Slot) (x : Result (Option Rec) TooLate) → Goes (aborted p side s l x)
  aborted-of l (Ok r) = noted-of l r no_reply
  aborted-of l (Err late) = tt

  taken-of : (o : Option Slot) (q : Part) (t : Text) → Goes (taken p side s o q t)
  taken-of None (part.Proposal terms) t = runs-of _ _ last_own (refl, tt)
  taken-of None (part.Plain kind) t = tt
  taken-of None (part.Reject reason) t = tt
  taken-of (Some l) q t = runs-of _ _ last_own (refl, tt)

  heard-as-of : (t : Text) (q : Part) (v : Verdict) → Goes (heard_as p side s t q v)
  heard-as-of t q verdict.Next = taken-of (slot_in s side.records) q t
  heard-as-of t q (verdict.Again n) = named-of (λ l. runs p side s l [] (again_reply n)) (slot_in s side.records) (λ l. runs-of l [] (again_reply n) tt)
  heard-as-of t q (verdict.Gap n) = tt
  heard-as-of t q (verdict.Other n link) = tt
  heard-as-of t q (verdict.WrongPrevious link) = tt
  heard-as-of t q verdict.WrongSender = tt
  heard-as-of t q (verdict.OffTale n) = tt

  asked-of : (n : ℕ) (o : Option Slot) → Goes (asked p side s n o)
  asked-of n None = (tt, tt)
  asked-of n (Some l) = noted-of l (rescue_in l.view) (λ after. Some (update_text p s n after.texts))

  adopted-as-of : (t : Text) (b : Body) → Goes (adopted_as p side s t b)
  adopted-as-of t (body.Chain place previous q) = taken-of (slot_in s side.records) q t
  adopted-as-of t (body.Recover n last) = tt
  adopted-as-of t (body.Update n entries) = tt
  adopted-as-of t (body.Success n last) = tt

  adopted-of : (entries : List Text) (e : Option Message) → Goes (adopted p side s entries e)
  adopted-of [] e = tt
  adopted-of (t ∷ []) None = tt
  adopted-of (t ∷ []) (Some m) = adopted-as-of t m.body
  adopted-of (t ∷ u ∷ ts) e = tt

  updated-of : (entries : List Text) (e : Option Message) (x : Result Step RecoveryFault) → Goes (updated p side s entries e x)
  updated-of entries e (Ok (Adopt place)) = adopted-of entries e
  updated-of entries e (Ok (Resend place)) = named-of (λ l. replied (own_at place l)) (slot_in s side.records) (λ l. replied-of (own_at place l))
  updated-of entries e (Ok Equal) = tt
  updated-of entries e (Err f) = tt

  tests-of : (o : Option Refusal) (run : Run) → Goes run → Goes (by_tests o run)
  tests-of None run h = h
  tests-of (Some r) run h = tt

heard-of : (p : Party) (side : Side) (m : Message) (t : Text) (e : Option Message) (b : Body) → AreOf m.session (heard p side m t e b).moves
heard-of p side m t e (body.Chain place previous q) = heard-as-of p side m.session t q (verdict_in p side.records m.session m t)
heard-of p side m t e (body.Recover n last) = asked-of p side m.session n (slot_in m.session side.records)
heard-of p side m t e (body.Update n entries) = updated-of p side m.session entries e (take_of (head_of (chain_in m.session side.records)) n (length entries))
heard-of p side m t e (body.Success n last) = tt

accepted-of : (p : Party) (side : Side) (call : Call) → AreOf (session_of call) (accepted p side call).moves
accepted-of p side (Starts s terms) = (refl, (tt, tt))
accepted-of p side (Works s) = named-of p side s (λ l. runs p side s l [] last_unless_whole) (slot_in s side.records) (λ l. runs-of p side s l [] last_unless_whole tt)
accepted-of p side (Aborts s) = named-of p side s (λ l. aborted p side s l (abort_of l.view.role l.view)) (slot_in s side.records) (λ l. aborted-of p side s l (abort_of l.view.role l.view))
accepted-of p side (Rescues s) = named-of p side s (rescued p side s) (slot_in s side.records) (λ l. noted-of p side s l (rescue_in l.view) (λ after. Some (recover_text p s after.texts)))
accepted-of p side (Hears m t e) = heard-of p side m t e m.body

pub runs-are-of : RunsAreOf
unfolding run_of
runs-are-of p side call = tests-of p side (session_of call) (refusal_of p side.records call) (accepted p side call) (accepted-of p side call)
