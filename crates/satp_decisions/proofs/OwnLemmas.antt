-- The calls of a gateway's own operator.
use Rattle.std.proofs.Common.{◌≡◌, inl, inr, ◌<◌, ◌≤◌, ℕ, Bool, true, false, List, [], ◌∷◌, Option, Some, None, refl, sym, ap, subst, ◌∙◌, arith, if◌then◌else◌}
use Rattle.std.specs.Prelude.{is_some, nat_le, Result, Ok, Err}
use Rattle.std.proofs.lemmas.Bool.{le-leb}
use Rattle.std.proofs.lemmas.Bool.Decides.{leb_tells}
use Rattle.satp_base.specs.Chains.{next_text}
use Rattle.satp_base.specs.Roles.{RoleRule, abort_of, negate, rescues}
use Rattle.satp_base.specs.Views.{begin}
use Rattle.satp_base.specs.declared.message.Part.TheVariants.{Proposal}
use Rattle.satp_base.specs.declared.message.Role.TheVariants.{Origin}
use Rattle.satp_base.specs.declared.message.Terms.{Terms}
use Rattle.satp_base.specs.declared.record.Rec.{Rec}
use Rattle.satp_base.specs.declared.record.Rec.TheVariants.{Began, Rescue}
use Rattle.satp_base.specs.declared.record.TooLate.{TooLate as Late}
use Rattle.satp_base.specs.declared.session.SessionId.{SessionId}
use Rattle.satp_base.proofs.RecordLaws.{gives-abort, rescue-allowed}
use Rattle.satp_sides.specs.Calls as call
use Rattle.satp_sides.specs.Calls.{Call, Refusal, Run, Starts, Works as Working, Aborts, Rescues, aborted, first_refusal, is_full, is_named, late_by, late_in, named, no_reply, refusal_of, rescue_in, rescued, run_of, runs, started, test}
use Rattle.satp_sides.specs.Due.{due}
use Rattle.satp_sides.specs.Logs.{IsLog, IsNote}
use Rattle.satp_sides.specs.Logs.MayCome.{Starts as StartsRecord}
use Rattle.satp_sides.specs.Points.{Appends, Party, Side, Slot, Stored, begun, most_sessions, records_of, slot, slot_in, stored}
use Rattle.satp_points.specs.Deciding.{AlwaysReplies, Decided, RefusesAs}
use Rattle.satp_points.specs.declared.decision.Decision.TheVariants.{Works}
use Rattle.satp_points.specs.declared.decision.First.TheVariants as first
use Rattle.satp_points.specs.declared.decision.Replying.TheVariants as replying
use Rattle.satp_points.specs.declared.fault.Refused.TheVariants as refused
use Rattle.satp_decisions.specs.Steps.{first_noted, first_rescued}
use Rattle.satp_decisions.proofs.Slots.{accepted-run, named-is, named-not, no-records, noted-may, run-first, run-noted, run-nothing, slot-first}

-- a number that is below a bound doesn't reach it
pub below : (bound n : ℕ) → n < bound → nat_le bound n ≡ false
below bound n h = elim (leb_tells bound n) [ inl k ↦ absurd (omega (arith, h, k.1)) | inr k ↦ k.0 ]

-- a rescue may come where the side may enter a recovery round
pub rescue-rule : (l : Slot) (r : Rec) → rescue_in l.view ≡ Some r → RoleRule l.view.role l.view r × IsNote r
rescue-rule l r e = go (rescues l.view.role l.view) refl e
  where
    go : (b : Bool) → rescues l.view.role l.view ≡ b → (if b then Some Rescue else None) ≡ Some r → RoleRule l.view.role l.view r × IsNote r
    go false h e = absurd (cc e)
    go true h e = let same : Rescue ≡ r = cc e in subst (λ (x : Rec). RoleRule l.view.role l.view x × IsNote x) same (rescue-allowed l.view.role l.view h, tt)

-- so may the record that an abort gives
pub abort-rule : (l : Slot) (o : Option Rec) → abort_of l.view.role l.view ≡ Ok o → ((r : Rec) → abort_of l.view.role l.view ≡ Ok (Some r) → RoleRule l.view.role l.view r) → (r : Rec) → o ≡ Some r → RoleRule l.view.role l.view r × IsNote r
abort-rule l o e rule r is =
    let given : abort_of l.view.role l.view ≡ Ok (Some r) = e ∙ ap Ok is in
    (rule r given, subst IsNote (sym (gives-abort l.view.role l.view r given).record_is) tt)

module _ (p : Party) (xs : List Stored) (log : IsLog p xs) (s : SessionId) where
  -- ---- work

  pub work-strange : slot_in s xs ≡ None → RefusesAs (refusal_of p xs (Working s)) (refused.Strange s)
  unfolding refusal_of
  work-strange e = (call.Strange s, ap (λ b. test (negate b) (call.Strange s)) (named-not p xs s e), refl)

  pub work-decided : (l : Slot) → slot_in s xs ≡ Some l → Decided p xs (Working s) (Works s first.Nothing replying.LastUnlessWhole)
  unfolding refusal_of
  work-decided l e =
      let none : refusal_of p xs (Working s) ≡ None = ap (λ b. test (negate b) (call.Strange s)) (named-is p xs s l e) in
      record {
        accepted = none;
        ready = ((l, e), λ k q. tt);
        of_call = (refl, λ w. absurd w);
        replies = λ m. absurd m;
        comes_to = λ side q.
            (let here = ap (slot_in s) q ∙ e in
            accepted-run p side (Working s) (ap (λ ys. refusal_of p ys (Working s)) q ∙ none)
            ∙ ap (named (λ (k : Slot). runs p side s k [] call.last_unless_whole)) here ∙ run-nothing p s replying.LastUnlessWhole side l here);
      }

  -- ---- abort

  pub abort-strange : slot_in s xs ≡ None → RefusesAs (refusal_of p xs (Aborts s)) (refused.Strange s)
  unfolding refusal_of
  abort-strange e = (call.Strange s, ap (λ b. first_refusal (test (negate b) (call.Strange s) ∷ late_in (slot_in s xs) ∷ [])) (named-not p xs s e), refl)

  abort-tests : (l : Slot) (r : Result (Option Rec) Late) → slot_in s xs ≡ Some l → abort_of l.view.role l.view ≡ r → refusal_of p xs (Aborts s) ≡ late_by r
  unfolding refusal_of
  abort-tests l r e a =
      ap (λ b. first_refusal (test (negate b) (call.Strange s) ∷ late_in (slot_in s xs) ∷ [])) (named-is p xs s l e)
      ∙ ap (λ o. first_refusal (late_in o ∷ [])) e ∙ ap (λ x. first_refusal (late_by x ∷ [])) a ∙ one r
    where
      one : (r : Result (Option Rec) Late) → first_refusal (late_by r ∷ []) ≡ late_by r
      one (Ok x) = refl
      one (Err late) = refl

  pub abort-late : (l : Slot) (late : Late) → slot_in s xs ≡ Some l → abort_of l.view.role l.view ≡ Err late → RefusesAs (refusal_of p xs (Aborts s)) (refused.TooLate late.place)
  abort-late l late e a = (call.TooLate late.place, abort-tests l (Err late) e a, refl)

  pub abort-decided : (l : Slot) (o : Option Rec) → slot_in s xs ≡ Some l → abort_of l.view.role l.view ≡ Ok o → ((r : Rec) → o ≡ Some r → RoleRule l.view.role l.view r × IsNote r)
      → Decided p xs (Aborts s) (Works s (first_noted o) replying.Nothing)
  abort-decided l o e a rule =
      let none = abort-tests l (Ok o) e a in
      record {
        accepted = none;
        ready = (noted-may p xs s l o e rule, λ k q. tt);
        of_call = (refl, λ w. absurd w);
        replies = λ m. absurd m;
        comes_to = λ side q.
            (let here = ap (slot_in s) q ∙ e in
            accepted-run p side (Aborts s) (ap (λ ys. refusal_of p ys (Aborts s)) q ∙ none)
            ∙ ap (named (λ (k : Slot). aborted p side s k (abort_of k.view.role k.view))) here
            ∙ ap (aborted p side s l) a ∙ run-noted p s replying.Nothing side l o here);
      }

  -- ---- rescue

  pub rescue-strange : slot_in s xs ≡ None → RefusesAs (refusal_of p xs (Rescues s)) (refused.Strange s)
  unfolding refusal_of
  rescue-strange e = (call.Strange s, ap (λ b. test (negate b) (call.Strange s)) (named-not p xs s e), refl)

  written : (o : Option Rec) → AlwaysReplies (Works s (first_noted o) replying.Recover)
  written None = tt
  written (Some r) = tt

  pub rescue-decided : (l : Slot) → slot_in s xs ≡ Some l → Decided p xs (Rescues s) (Works s (first_rescued l.view) replying.Recover)
  unfolding refusal_of
  rescue-decided l e =
      let none : refusal_of p xs (Rescues s) ≡ None = ap (λ b. test (negate b) (call.Strange s)) (named-is p xs s l e) in
      record {
        accepted = none;
        ready = (noted-may p xs s l (rescue_in l.view) e (rescue-rule l), λ k q. tt);
        of_call = (refl, λ w. tt);
        replies = λ m. written (rescue_in l.view);
        comes_to = λ side q.
            (let here = ap (slot_in s) q ∙ e in
            accepted-run p side (Rescues s) (ap (λ ys. refusal_of p ys (Rescues s)) q ∙ none)
            ∙ ap (named (rescued p side s)) here ∙ run-noted p s replying.Recover side l (rescue_in l.view) here);
      }

  -- ---- start

  module _ (terms : Terms) where
    start-tests : (o : Option Slot) (full : Bool) → slot_in s xs ≡ o → is_full Origin xs ≡ full → refusal_of p xs (Starts s terms) ≡ first_refusal (test (is_some o) call.Exists ∷ test full (call.Full most_sessions) ∷ [])
    unfolding refusal_of
    start-tests o full e f =
        ap (λ x. first_refusal (test (is_some x) call.Exists ∷ test (is_full Origin xs) (call.Full most_sessions) ∷ [])) e
        ∙ ap (λ b. first_refusal (test (is_some o) call.Exists ∷ test b (call.Full most_sessions) ∷ [])) f

    pub start-exists : (l : Slot) → slot_in s xs ≡ Some l → RefusesAs (refusal_of p xs (Starts s terms)) refused.Exists
    start-exists l e = (call.Exists, start-tests (Some l) (is_full Origin xs) e refl, refl)

    pub start-full : (n : ℕ) → slot_in s xs ≡ None → n ≡ begun Origin xs → most_sessions ≤ n → RefusesAs (refusal_of p xs (Starts s terms)) (refused.Full most_sessions)
    start-full n e c h = (call.Full most_sessions, start-tests None true e (ap (nat_le most_sessions) (sym c) ∙ le-leb most_sessions n h), refl)

    start-run : (side : Side) → started p s terms ≡ runs p side s (slot (begin Origin terms) (next_text s p.peer p.key [] (Proposal terms) ∷ [])) (Appends (stored s (Began Origin terms) (next_text s p.peer p.key [] (Proposal terms))) ∷ []) call.last_own
    unfolding due
    start-run side = refl

    pub start-decided : (n : ℕ) → slot_in s xs ≡ None → s.gateway ≡ p.name → n ≡ begun Origin xs → n < most_sessions → Decided p xs (Starts s terms) (Works s (first.Begins Origin terms) replying.LastOwn)
    start-decided n e g c h =
        let room : begun Origin xs < most_sessions = subst (λ k. k < most_sessions) c h in
        let none = start-tests None false e (below most_sessions (begun Origin xs) room) in
        let new = no-records p xs s log e in
        record {
          accepted = none;
          ready = (StartsRecord s terms g new room, λ k q. tt);
          of_call = (refl, λ w. absurd w);
          replies = λ m. tt;
          comes_to = λ side q.
              (let t = next_text s p.peer p.key [] (Proposal terms) in
              let here = slot-first p side.records s Origin terms t (ap (records_of s) q ∙ new) in
              accepted-run p side (Starts s terms) (ap (λ ys. refusal_of p ys (Starts s terms)) q ∙ none)
              ∙ start-run side ∙ run-first p s replying.LastOwn side (stored s (Began Origin terms) t) (slot (begin Origin terms) (t ∷ [])) here);
        }
