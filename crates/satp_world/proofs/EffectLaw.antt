-- A call leaves other sessions alone, says its answer alone, and its answer stands.
use Rattle.std.proofs.Common.{◌≡◌, ◌≢◌, inl, inr, ℕ, zero, suc, Bool, true, false, List, [], ◌∷◌, ◌++◌, length, Option, Some, None, Result, Ok, Err, refl, sym, ap, subst, ◌∙◌}
use Rattle.std.specs.FinMap.{get}
use Rattle.std.proofs.lemmas.List.{append_assoc}
use Rattle.satp_base.specs.Chains.{head_of}
use Rattle.satp_base.specs.LedgerRule.{operation}
use Rattle.satp_base.specs.Money.{Book}
use Rattle.satp_base.specs.Roles.{abort_of, next_of}
use Rattle.satp_base.specs.declared.ledger.Answer.{Answer}
use Rattle.satp_base.specs.declared.ledger.LedgerOp.{LedgerOp}
use Rattle.satp_base.specs.declared.message.Body.{Body}
use Rattle.satp_base.specs.declared.message.Body.TheVariants as body
use Rattle.satp_base.specs.declared.message.Message.{Message}
use Rattle.satp_base.specs.declared.message.Part.{Part}
use Rattle.satp_base.specs.declared.message.Part.TheVariants as part
use Rattle.satp_base.specs.declared.message.Terms.{Terms}
use Rattle.satp_base.specs.declared.record.Next.{Next}
use Rattle.satp_base.specs.declared.record.Next.TheVariants.{Append, Act, Wait, Ended}
use Rattle.satp_base.specs.declared.record.Rec.{Rec}
use Rattle.satp_base.specs.declared.record.TooLate.{TooLate}
use Rattle.satp_base.specs.declared.session.SessionId.{SessionId}
use Rattle.satp_base.specs.declared.verdict.Verdict.{Verdict}
use Rattle.satp_base.specs.declared.verdict.Verdict.TheVariants as verdict
use Rattle.satp_recovery.specs.Rounds.{take_of}
use Rattle.satp_recovery.specs.declared.choice.RecoveryFault.{RecoveryFault}
use Rattle.satp_recovery.specs.declared.choice.Step.{Step}
use Rattle.satp_recovery.specs.declared.choice.Step.TheVariants.{Adopt, Equal, Resend}
use Rattle.satp_money.proofs.StepLaw.{step_is}
use Rattle.satp_sides.specs.Calls.{Call, Starts, Works, Aborts, Rescues, Hears, Refusal, Run, IsHeard, IsOfOwn, aborted, accepted, adopted, adopted_as, asked, by_tests, ended, heard, heard_as, named, no_reply, own_at, again_reply, last_own, last_unless_whole, recover_text, update_text, replied, rescue_in, rescued, refusal_of, run_of, runs, runs_noted, says, taken, updated, verdict_in}
use Rattle.satp_sides.specs.Due.{Due, due, due_answered, due_by, due_within}
use Rattle.satp_sides.specs.Others.{AreOf, session_of}
use Rattle.satp_sides.specs.Points.{Move, Appends, Acts, Says, Party, Side, Slot, Text, chain_in, is_session, moved, moved_by, slot_in, stored}
use Rattle.satp_sides.specs.Said.{WasSaid}
use Rattle.satp_sides.proofs.OthersLaw.{runs-are-of}
use Rattle.satp_sides.proofs.Records.{is-session, records-apart}
use Rattle.satp_world.specs.Effects.{AnswersStand, AreSilent, OthersStay, RunsSayTheirAnswers, SaysItsAnswer, Stays}
use Rattle.satp_world.specs.Effects.SaysItsAnswer.{Answered, Refused, Unanswered}
use Rattle.satp_world.specs.Histories.{MayCall, after_moves, call_moves}
use Rattle.satp_world.specs.Standing.{WorldRun}
use Rattle.satp_world.specs.Standing.WorldRun.{Rests, Goes}
use Rattle.satp_world.specs.Worlds.{Gateway, Setting, World, party_at, side_at}
use Rattle.satp_world.specs.Worlds.Gateway.{A, B}
use Rattle.satp_world.specs.Worlds.WorldMoves.{By}
use Rattle.satp_world.proofs.HearLaw.{party-apart}
use Rattle.satp_world.proofs.KeptLaw.{logs-kept, still-said}
use Rattle.satp_world.proofs.LogAnswers.{answers-were-said}
use Rattle.satp_world.proofs.RuleMoves.{get-apart}

-- ---- other sessions

first-of : (s : SessionId) (xs ys : List Move) → AreOf s (xs ++ ys) → AreOf s xs
first-of s [] ys h = tt
first-of s (m ∷ xs) ys (x, h) = (x, first-of s xs ys h)

not-session : (s t : SessionId) → s ≢ t → is_session s t ≡ false
not-session s t n = go (is_session s t) refl
  where
    go : (b : Bool) → is_session s t ≡ b → is_session s t ≡ false
    go true e = absurd (n (is-session s t e))
    go false e = e

module _ (s t : SessionId) (n : s ≢ t) where
  apart : (u : SessionId) → u ≡ t → is_session s u ≡ false
  apart u e = not-session s u (λ x. n (x ∙ e))

  entry-stays : (b : Book) (u : SessionId) (op : LedgerOp) (terms : Terms) → u ≡ t → get (operation b op u terms).after.entries s ≡ get b.entries s
  entry-stays b u op terms e = elim (step_is b op u terms) [
    | inl h ↦ ap (λ (x : Book). get x.entries s) h.1
    | inr h ↦ ap (λ (x : Book). get x.entries s) h.3 ∙ get-apart b op u terms s (apart u e)
  ]

  stays-by : (side : Side) (ms : List Move) → AreOf t ms → Stays s side (moved_by side ms)
  stays-by side [] h = record { records = refl; entry = refl }
  stays-by side (Appends x ∷ ms) (e, h) = let k = stays-by (moved side (Appends x)) ms h in record { records = k.records ∙ records-apart s side.records x (apart x.session e); entry = k.entry }
  stays-by side (Acts u op terms ∷ ms) (e, h) = let k = stays-by (moved side (Acts u op terms)) ms h in record { records = k.records; entry = k.entry ∙ entry-stays side.book u op terms e }
  stays-by side (Says x ∷ ms) (e, h) = stays-by side ms h

pub others-stay : OthersStay
others-stay p side call first rest is s n = stays-by s (session_of call) n side first (first-of (session_of call) first rest (subst (AreOf (session_of call)) is (runs-are-of p side call)))

-- ---- what is said

both-silent : (xs ys : List Move) → AreSilent xs → AreSilent ys → AreSilent (xs ++ ys)
both-silent [] ys h k = k
both-silent (Appends x ∷ xs) ys h k = both-silent xs ys h k
both-silent (Acts s op terms ∷ xs) ys h k = both-silent xs ys h k
both-silent (Says t ∷ xs) ys h k = absurd h

-- whatever follows
module _ (p : Party) (s : SessionId) (rest : Slot → Book → Due) (h : (l : Slot) (b : Book) → AreSilent (rest l b).moves) where
  answered-silent : (l : Slot) (b : Book) (op : LedgerOp) (o : Option Answer) → AreSilent (due_answered rest s l b op o).moves
  answered-silent l b op (Some a) = h _ _
  answered-silent l b op None = tt

  line-silent : (l : Slot) (b : Book) (next : Next) → AreSilent (due_by rest p s l b next).moves
  line-silent l b (Append r) = h _ b
  line-silent l b (Act op) = answered-silent l b op (operation b op s l.view.terms).answer
  line-silent l b Wait = tt
  line-silent l b Ended = tt

within-silent : (n : ℕ) (p : Party) (s : SessionId) (l : Slot) (b : Book) → AreSilent (due_within n p s l b).moves
within-silent zero p s l b = tt
within-silent (suc n) p s l b = line-silent p s (due_within n p s) (within-silent n p s) l b (next_of l.view.role l.view)

due-silent : (p : Party) (s : SessionId) (l : Slot) (b : Book) → AreSilent (due p s l b).moves
unfolding due
due-silent p s l b = within-silent 3 p s l b

module _ (p : Party) (side : Side) (s : SessionId) where
  ended-says : (c : Bool) (d : Due) (ms : List Move) (o : Option Text) → AreSilent ms → AreSilent d.moves → SaysItsAnswer (ended c d ms o)
  ended-says true d ms o h k = Answered (ms ++ d.moves) o (both-silent ms d.moves h k) (sym (append_assoc ms d.moves (says o))) refl
  ended-says false d ms o h k = Unanswered (both-silent ms d.moves h k) refl

  runs-says : (l : Slot) (ms : List Move) (reply : Slot → Option Text) → AreSilent ms → SaysItsAnswer (runs p side s l ms reply)
  runs-says l ms reply h = ended-says (due p s l side.book).in_order (due p s l side.book) ms (reply (due p s l side.book).slot) h (due-silent p s l side.book)

  noted-says : (l : Slot) (o : Option Rec) (reply : Slot → Option Text) → SaysItsAnswer (runs_noted p side s l o reply)
  noted-says l None reply = runs-says l [] reply tt
  noted-says l (Some r) reply = runs-says _ (Appends (stored s r []) ∷ []) reply tt

  named-says : (run : Slot → Run) (o : Option Slot) → ((l : Slot) → SaysItsAnswer (run l)) → SaysItsAnswer (named run o)
  named-says run None h = Unanswered tt refl
  named-says run (Some l) h = h l

  replied-says : (o : Option Text) → SaysItsAnswer (replied o)
  replied-says o = Answered [] o tt refl refl

  aborted-says : (l : Slot) (x : Result (Option Rec) TooLate) → SaysItsAnswer (aborted p side s l x)
  aborted-says l (Ok r) = noted-says l r no_reply
  aborted-says l (Err late) = Unanswered tt refl

  taken-says : (o : Option Slot) (q : Part) (t : Text) → SaysItsAnswer (taken p side s o q t)
  taken-says None (part.Proposal terms) t = runs-says _ _ last_own tt
  taken-says None (part.Plain kind) t = Unanswered tt refl
  taken-says None (part.Reject reason) t = Unanswered tt refl
  taken-says (Some l) q t = runs-says _ _ last_own tt

  heard-as-says : (t : Text) (q : Part) (v : Verdict) → SaysItsAnswer (heard_as p side s t q v)
  heard-as-says t q verdict.Next = taken-says (slot_in s side.records) q t
  heard-as-says t q (verdict.Again n) = named-says (λ l. runs p side s l [] (again_reply n)) (slot_in s side.records) (λ l. runs-says l [] (again_reply n) tt)
  heard-as-says t q (verdict.Gap n) = Unanswered tt refl
  heard-as-says t q (verdict.Other n link) = Unanswered tt refl
  heard-as-says t q (verdict.WrongPrevious link) = Unanswered tt refl
  heard-as-says t q verdict.WrongSender = Unanswered tt refl
  heard-as-says t q (verdict.OffTale n) = Unanswered tt refl

  asked-says : (n : ℕ) (o : Option Slot) → SaysItsAnswer (asked p side s n o)
  asked-says n None = replied-says _
  asked-says n (Some l) = noted-says l (rescue_in l.view) (λ after. Some (update_text p s n after.texts))

  adopted-as-says : (t : Text) (b : Body) → SaysItsAnswer (adopted_as p side s t b)
  adopted-as-says t (body.Chain place previous q) = taken-says (slot_in s side.records) q t
  adopted-as-says t (body.Recover n last) = Unanswered tt refl
  adopted-as-says t (body.Update n entries) = Unanswered tt refl
  adopted-as-says t (body.Success n last) = Unanswered tt refl

  adopted-says : (entries : List Text) (e : Option Message) → SaysItsAnswer (adopted p side s entries e)
  adopted-says [] e = Unanswered tt refl
  adopted-says (t ∷ []) None = Unanswered tt refl
  adopted-says (t ∷ []) (Some m) = adopted-as-says t m.body
  adopted-says (t ∷ u ∷ ts) e = Unanswered tt refl

  updated-says : (entries : List Text) (e : Option Message) (x : Result Step RecoveryFault) → SaysItsAnswer (updated p side s entries e x)
  updated-says entries e (Ok (Adopt place)) = adopted-says entries e
  updated-says entries e (Ok (Resend place)) = named-says (λ l. replied (own_at place l)) (slot_in s side.records) (λ l. replied-says (own_at place l))
  updated-says entries e (Ok Equal) = replied-says None
  updated-says entries e (Err f) = Unanswered tt refl

tests-say : (o : Option Refusal) (run : Run) → SaysItsAnswer run → SaysItsAnswer (by_tests o run)
tests-say None run h = h
tests-say (Some r) run h = Refused r refl refl

heard-says : (p : Party) (side : Side) (m : Message) (t : Text) (e : Option Message) (b : Body) → SaysItsAnswer (heard p side m t e b)
heard-says p side m t e (body.Chain place previous q) = heard-as-says p side m.session t q (verdict_in p side.records m.session m t)
heard-says p side m t e (body.Recover n last) = asked-says p side m.session n (slot_in m.session side.records)
heard-says p side m t e (body.Update n entries) = updated-says p side m.session entries e (take_of (head_of (chain_in m.session side.records)) n (length entries))
heard-says p side m t e (body.Success n last) = replied-says p side m.session None

accepted-says : (p : Party) (side : Side) (call : Call) → SaysItsAnswer (accepted p side call)
accepted-says p side (Starts s terms) = Answered (_ ∷ []) (Some _) tt refl refl
accepted-says p side (Works s) = named-says p side s (λ l. runs p side s l [] last_unless_whole) (slot_in s side.records) (λ l. runs-says p side s l [] last_unless_whole tt)
accepted-says p side (Aborts s) = named-says p side s (λ l. aborted p side s l (abort_of l.view.role l.view)) (slot_in s side.records) (λ l. aborted-says p side s l (abort_of l.view.role l.view))
accepted-says p side (Rescues s) = named-says p side s (rescued p side s) (slot_in s side.records) (λ l. noted-says p side s l (rescue_in l.view) (λ after. Some (recover_text p s after.texts)))
accepted-says p side (Hears m t e) = heard-says p side m t e m.body

pub runs-say-their-answers : RunsSayTheirAnswers
unfolding run_of
runs-say-their-answers p side call = tests-say (refusal_of p side.records call) (accepted p side call) (accepted-says p side call)

-- ---- where it stands

said-later : (st : Setting) (g : Gateway) (t : Text) (w v : World) → WorldRun st w v → WasSaid (party_at st g) (side_at w g).records t → WasSaid (party_at st g) (side_at v g).records t
said-later st g t w _ Rests z = z
said-later st A t w _ (Goes u _ run (By A side bag m)) z = still-said (party_at st A) u.a u.bag side bag m t (said-later st A t w u run z)
said-later st A t w _ (Goes u _ run (By B side bag m)) z = said-later st A t w u run z
said-later st B t w _ (Goes u _ run (By A side bag m)) z = said-later st B t w u run z
said-later st B t w _ (Goes u _ run (By B side bag m)) z = still-said (party_at st B) u.b u.bag side bag m t (said-later st B t w u run z)

side-after : (w : World) (g : Gateway) (ms : List Move) → side_at (after_moves w g ms) g ≡ moved_by (side_at w g) ms
side-after w A ms = refl
side-after w B ms = refl

heard-so : (st : Setting) (w : World) (g : Gateway) (call : Call) → MayCall st w g call → IsHeard st.key call × IsOfOwn (party_at st g) call
heard-so st w g (Hears m t e) (heard, d) = (heard, tt)
heard-so st w g (Starts s terms) own = (tt, own)
heard-so st w g (Works s) own = (tt, tt)
heard-so st w g (Aborts s) own = (tt, tt)
heard-so st w g (Rescues s) own = (tt, tt)

pub answers-stand : AnswersStand
answers-stand st a b w r g call may t is v run =
    let p = party_at st g in
    let (heard, own) = heard-so st w g call may in
    let now = answers-were-said p (party-apart st g) (side_at w g) (logs-kept st a b w r g) call heard own t is in
    said-later st g t _ v run (subst (λ (x : Side). WasSaid p x.records t) (sym (side-after w g (call_moves st w g call))) now)
