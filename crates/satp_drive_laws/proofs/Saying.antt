-- What a run answers is the last that it says.
use Rattle.std.proofs.Common.{◌≡◌, ℕ, Bool, true, false, List, [], ◌∷◌, ◌++◌, length, Option, Some, None, Result, Ok, Err, subst}
use Rattle.satp_base.specs.Chains.{head_of, next_text}
use Rattle.satp_base.specs.Roles.{abort_of}
use Rattle.satp_base.specs.declared.message.Body.{Body}
use Rattle.satp_base.specs.declared.message.Body.TheVariants as body
use Rattle.satp_base.specs.declared.message.Message.{Message}
use Rattle.satp_base.specs.declared.message.Part.{Part}
use Rattle.satp_base.specs.declared.message.Part.TheVariants as part
use Rattle.satp_base.specs.declared.record.TooLate.{TooLate as Late}
use Rattle.satp_base.specs.declared.message.Role.TheVariants.{Origin}
use Rattle.satp_base.specs.declared.record.Rec.{Rec}
use Rattle.satp_base.specs.declared.record.Rec.TheVariants.{Began}
use Rattle.satp_base.specs.declared.session.SessionId.{SessionId}
use Rattle.satp_base.specs.declared.verdict.Verdict.{Verdict}
use Rattle.satp_base.specs.declared.verdict.Verdict.TheVariants as verdict
use Rattle.satp_recovery.specs.Rounds.{take_of}
use Rattle.satp_recovery.specs.declared.choice.RecoveryFault.{RecoveryFault}
use Rattle.satp_recovery.specs.declared.choice.Step.{Step}
use Rattle.satp_recovery.specs.declared.choice.Step.TheVariants.{Adopt, Equal, Resend}
use Rattle.satp_sides.specs.Calls as calls
use Rattle.satp_sides.specs.Calls.{Call, Refusal, Run, aborted, accepted, adopted, adopted_as, asked, by_tests, ended, heard, heard_as, named, refusal_of, refused, replied, rescue_in, run_of, runs, runs_noted, says, taken, updated, verdict_in}
use Rattle.satp_sides.specs.Calls.Call.{Starts, Works, Aborts, Rescues, Hears}
use Rattle.satp_sides.specs.Due.{Due, due}
use Rattle.satp_sides.specs.Moves.{Among, said_by}
use Rattle.satp_sides.specs.Moves.Among.{first}
use Rattle.satp_sides.specs.Points.{Move, Party, Side, Slot, Stored, Text, chain_in, noted, slot_in, stored}
use Rattle.satp_sides.specs.Points.Move.{Appends, Acts, Says}

-- whatever was said before, the answered text is said
abbrev pub SaysAnswer : Run → Type 0
SaysAnswer run = (t : Text) → run.answer ≡ Some (Ok (Some t)) → (bag : List Text) → Among t (said_by bag run.moves)

same-text : (o : Option Text) (t : Text) → ◌≡◌ {A = Option (Result (Option Text) Refusal)} (Some (Ok o)) (Some (Ok (Some t))) → o ≡ Some t
same-text o t e = cc e

last-said : (ms : List Move) (o : Option Text) (t : Text) → o ≡ Some t → (bag : List Text) → Among t (said_by bag (ms ++ says o))
last-said [] None t e bag = absurd (cc e)
last-said [] (Some u) t e bag = subst (λ (x : Text). Among x (u ∷ bag)) (cc e) first
last-said (Appends x ∷ ms) o t e bag = last-said ms o t e bag
last-said (Acts s op terms ∷ ms) o t e bag = last-said ms o t e bag
last-said (Says u ∷ ms) o t e bag = last-said ms o t e (u ∷ bag)

said-after : (ms ns : List Move) (t : Text) → ((bag : List Text) → Among t (said_by bag ns)) → (bag : List Text) → Among t (said_by bag (ms ++ ns))
said-after [] ns t h bag = h bag
said-after (Appends x ∷ ms) ns t h bag = said-after ms ns t h bag
said-after (Acts s op terms ∷ ms) ns t h bag = said-after ms ns t h bag
said-after (Says u ∷ ms) ns t h bag = said-after ms ns t h (u ∷ bag)

of-refused : (r : Refusal) → SaysAnswer (refused r)
of-refused r t e bag = absurd (cc e)

of-never : SaysAnswer calls.never
of-never t e bag = absurd (cc e)

of-replied : (o : Option Text) → SaysAnswer (replied o)
of-replied o t e bag = last-said [] o t (same-text o t e) bag

of-ended : (order : Bool) (d : Due) (begin : List Move) (o : Option Text) → SaysAnswer (ended order d begin o)
of-ended true d begin o t e bag = said-after begin (d.moves ++ says o) t (λ b. last-said d.moves o t (same-text o t e) b) bag
of-ended false d begin o t e bag = absurd (cc e)

module _ (p : Party) (side : Side) (s : SessionId) where
  of-runs : (l : Slot) (begin : List Move) (reply : Slot → Option Text) → SaysAnswer (runs p side s l begin reply)
  of-runs l begin reply = of-ended (due p s l side.book).in_order (due p s l side.book) begin (reply (due p s l side.book).slot)

  of-noted : (l : Slot) (o : Option Rec) (reply : Slot → Option Text) → SaysAnswer (runs_noted p side s l o reply)
  of-noted l None reply = of-runs l [] reply
  of-noted l (Some r) reply = of-runs (noted l s r []) _ reply

  of-named : (run : Slot → Run) → ((l : Slot) → SaysAnswer (run l)) → (o : Option Slot) → SaysAnswer (named run o)
  of-named run h None = of-never
  of-named run h (Some l) = h l

  of-aborted : (l : Slot) (o : Result (Option Rec) Late) → SaysAnswer (aborted p side s l o)
  of-aborted l (Ok r) = of-noted l r calls.no_reply
  of-aborted l (Err late) = of-never

  of-taken : (o : Option Slot) (q : Part) (t : Text) → SaysAnswer (taken p side s o q t)
  of-taken None (part.Proposal terms) t = of-runs _ _ calls.last_own
  of-taken None (part.Plain kind) t = of-never
  of-taken None (part.Reject reason) t = of-never
  of-taken (Some l) q t = of-runs _ _ calls.last_own

  of-heard : (t : Text) (q : Part) (v : Verdict) → SaysAnswer (heard_as p side s t q v)
  of-heard t q verdict.Next = of-taken (slot_in s side.records) q t
  of-heard t q (verdict.Again n) = of-named (λ l. runs p side s l [] (calls.again_reply n)) (λ l. of-runs l [] (calls.again_reply n)) (slot_in s side.records)
  of-heard t q (verdict.Gap n) = of-never
  of-heard t q (verdict.Other n kept) = of-never
  of-heard t q (verdict.WrongPrevious kept) = of-never
  of-heard t q verdict.WrongSender = of-never
  of-heard t q (verdict.OffTale place) = of-never

  of-asked : (n : ℕ) (o : Option Slot) → SaysAnswer (asked p side s n o)
  of-asked n None = of-replied _
  of-asked n (Some l) = of-noted l _ _

  of-adopted-as : (t : Text) (b : Body) → SaysAnswer (adopted_as p side s t b)
  of-adopted-as t (body.Chain place previous q) = of-taken (slot_in s side.records) q t
  of-adopted-as t (body.Recover n last) = of-never
  of-adopted-as t (body.Update n entries) = of-never
  of-adopted-as t (body.Success n last) = of-never

  of-adopted : (entries : List Text) (e : Option Message) → SaysAnswer (adopted p side s entries e)
  of-adopted (t ∷ []) (Some e) = of-adopted-as t e.body
  of-adopted (t ∷ []) None = of-never
  of-adopted [] e = of-never
  of-adopted (t ∷ u ∷ ts) e = of-never

  of-updated : (entries : List Text) (e : Option Message) (step : Result Step RecoveryFault) → SaysAnswer (updated p side s entries e step)
  of-updated entries e (Ok (Adopt place)) = of-adopted entries e
  of-updated entries e (Ok (Resend place)) = of-named (λ l. replied (calls.own_at place l)) (λ l. of-replied (calls.own_at place l)) (slot_in s side.records)
  of-updated entries e (Ok Equal) = of-replied None
  of-updated entries e (Err f) = of-never

of-body : (p : Party) (side : Side) (m : Message) (t : Text) (e : Option Message) (b : Body) → SaysAnswer (heard p side m t e b)
of-body p side m t e (body.Chain place previous q) = of-heard p side m.session t q (verdict_in p side.records m.session m t)
of-body p side m t e (body.Recover n last) = of-asked p side m.session n (slot_in m.session side.records)
of-body p side m t e (body.Update n entries) = of-updated p side m.session entries e (take_of (head_of (chain_in m.session side.records)) n (length entries))
of-body p side m t e (body.Success n last) = of-replied None

of-started : (x : Stored) (t : Text) → SaysAnswer (record { answer = Some (Ok (Some t)); moves = Appends x ∷ Says t ∷ [] })
of-started x t u e bag = last-said (Appends x ∷ []) (Some t) u (same-text (Some t) u e) bag

of-accepted : (p : Party) (side : Side) (call : Call) → SaysAnswer (accepted p side call)
of-accepted p side (Starts s terms) = of-started (stored s (Began Origin terms) (next_text s p.peer p.key [] (part.Proposal terms))) (next_text s p.peer p.key [] (part.Proposal terms))
of-accepted p side (Works s) = of-named p side s (λ l. runs p side s l [] calls.last_unless_whole) (λ l. of-runs p side s l [] calls.last_unless_whole) (slot_in s side.records)
of-accepted p side (Aborts s) = of-named p side s (λ l. aborted p side s l (abort_of l.view.role l.view)) (λ l. of-aborted p side s l (abort_of l.view.role l.view)) (slot_in s side.records)
of-accepted p side (Rescues s) = of-named p side s (calls.rescued p side s) (λ l. of-noted p side s l (rescue_in l.view) _) (slot_in s side.records)
of-accepted p side (Hears m t e) = of-body p side m t e m.body

by-tests : (o : Option Refusal) (run : Run) → SaysAnswer run → SaysAnswer (by_tests o run)
by-tests (Some r) run h = of-refused r
by-tests None run h = h

pub says-answer : (p : Party) (side : Side) (call : Call) → SaysAnswer (run_of p side call)
unfolding run_of
says-answer p side call = by-tests (refusal_of p side.records call) (accepted p side call) (of-accepted p side call)
