-- What the records say of a session before and after the first record of a call, and the run that the record begins.
use Rattle.std.proofs.Common.{◌≡◌, true, false, List, [], ◌∷◌, ◌++◌, Option, Some, None, refl, sym, ap, ap₂, ◌∙◌}
use Rattle.std.specs.Prelude.{is_some, option_map}
use Rattle.std.proofs.lemmas.List.{append-nil}
use Rattle.satp_base.specs.Roles.{RoleRule}
use Rattle.satp_base.specs.Views.{begin, push}
use Rattle.satp_base.specs.declared.message.Role.{Role}
use Rattle.satp_base.specs.declared.message.Terms.{Terms}
use Rattle.satp_base.specs.declared.record.Rec.{Rec}
use Rattle.satp_base.specs.declared.record.Rec.TheVariants.{Began}
use Rattle.satp_base.specs.declared.session.SessionId.{SessionId}
use Rattle.satp_base.specs.declared.view.View.{View}
use Rattle.satp_log.proofs.LogLemmas.{unnamed}
use Rattle.satp_sides.specs.Calls.{Call, is_named, named, refusal_of, run_of, accepted, by_tests, runs, runs_noted}
use Rattle.satp_sides.specs.Logs.{IsLog, IsNote}
use Rattle.satp_sides.specs.Logs.MayCome.{Notes}
use Rattle.satp_sides.specs.Points.{Appends, Party, Side, Slot, Stored, Text, chain_in, noted, records_of, slot, slot_in, stored, texts_in_record, view_in}
use Rattle.satp_sides.proofs.Records.{chain-here, chain-none, session-self, view-first, view-here}
use Rattle.satp_points.specs.Decisions.{FirstMayCome, decided_run, reply_by}
use Rattle.satp_points.specs.declared.decision.Decision.TheVariants.{Works}
use Rattle.satp_points.specs.declared.decision.First.TheVariants as first
use Rattle.satp_points.specs.declared.decision.Replying.{Replying}
use Rattle.satp_decisions.specs.Steps.{first_noted}

-- ---- slots

pub slot-parts : (o : Option View) (ts : List Text) (l : Slot) → option_map (λ w. slot w ts) o ≡ Some l → (o ≡ Some l.view) × (ts ≡ l.texts)
slot-parts None ts l e = absurd (cc e)
slot-parts (Some w) ts l e = let same : slot w ts ≡ l = cc e in (ap (λ (x : Slot). Some x.view) same, ap (λ (x : Slot). x.texts) same)

slot-from : (o : Option View) (ts : List Text) (v : View) (texts : List Text) → o ≡ Some v → ts ≡ texts → option_map (λ w. slot w ts) o ≡ Some (slot v texts)
slot-from o ts v texts e h = ap₂ (λ (x : Option View) (y : List Text). option_map (λ w. slot w y) x) e h

view-none : (o : Option View) (ts : List Text) → option_map (λ v. slot v ts) o ≡ None → o ≡ None
view-none None ts e = refl
view-none (Some v) ts e = absurd (cc e)

pub one-slot : (a b : Slot) → Some a ≡ Some b → a ≡ b
one-slot a b e = cc e

module _ (p : Party) (xs : List Stored) (s : SessionId) where
  pub no-records : IsLog p xs → slot_in s xs ≡ None → records_of s xs ≡ []
  no-records log e = unnamed p s xs log (view-none (view_in s xs) (chain_in s xs) e)

  pub chain-unnamed : IsLog p xs → slot_in s xs ≡ None → chain_in s xs ≡ []
  chain-unnamed log e = chain-none s xs (no-records log e)

  pub view-of : (l : Slot) → slot_in s xs ≡ Some l → view_in s xs ≡ Some l.view
  view-of l e = (slot-parts (view_in s xs) (chain_in s xs) l e).0

  pub texts-of : (l : Slot) → slot_in s xs ≡ Some l → chain_in s xs ≡ l.texts
  texts-of l e = (slot-parts (view_in s xs) (chain_in s xs) l e).1

  -- one record more
  pub slot-here : (l : Slot) (r : Rec) (t : Text) → slot_in s xs ≡ Some l → slot_in s (xs ++ stored s r t ∷ []) ≡ Some (noted l s r t)
  slot-here l r t e =
      let x = stored s r t in
      slot-from (view_in s (xs ++ x ∷ [])) (chain_in s (xs ++ x ∷ [])) (push l.view r) (l.texts ++ texts_in_record x)
      (view-here s xs x l.view (session-self s) (view-of l e)) (chain-here s xs x (session-self s) ∙ ap (λ ts. ts ++ texts_in_record x) (texts-of l e))

  -- the first one
  pub slot-first : (role : Role) (terms : Terms) (t : Text) → records_of s xs ≡ [] → slot_in s (xs ++ stored s (Began role terms) t ∷ []) ≡ Some (slot (begin role terms) (t ∷ []))
  slot-first role terms t e =
      let x = stored s (Began role terms) t in
      slot-from (view_in s (xs ++ x ∷ [])) (chain_in s (xs ++ x ∷ [])) (begin role terms) (t ∷ [])
      (view-first s xs x (session-self s) e) (chain-here s xs x (session-self s) ∙ ap (λ ts. ts ++ t ∷ []) (chain-none s xs e))

  pub named-is : (l : Slot) → slot_in s xs ≡ Some l → is_named s xs ≡ true
  named-is l e = ap is_some e

  pub named-not : slot_in s xs ≡ None → is_named s xs ≡ false
  named-not e = ap is_some e

  -- no first record
  pub slot-still : (l : Slot) → slot_in s (xs ++ []) ≡ Some l → slot_in s xs ≡ Some l
  slot-still l e = ap (slot_in s) (sym (append-nil xs)) ∙ e

-- ---- runs

module _ (p : Party) (s : SessionId) (reply : Replying) where
  pub run-nothing : (side : Side) (l : Slot) → slot_in s side.records ≡ Some l → runs p side s l [] (reply_by p s reply) ≡ decided_run p side (Works s first.Nothing reply)
  run-nothing side l e = ap (named (λ (k : Slot). runs p side s k [] (reply_by p s reply))) (sym e ∙ ap (slot_in s) (sym (append-nil side.records)))

  pub run-first : (side : Side) (x : Stored) (l : Slot) → slot_in s (side.records ++ x ∷ []) ≡ Some l
      → runs p side s l (Appends x ∷ []) (reply_by p s reply) ≡ named (λ (k : Slot). runs p side s k (Appends x ∷ []) (reply_by p s reply)) (slot_in s (side.records ++ x ∷ []))
  run-first side x l e = ap (named (λ (k : Slot). runs p side s k (Appends x ∷ []) (reply_by p s reply))) (sym e)

  pub run-noted : (side : Side) (l : Slot) (o : Option Rec) → slot_in s side.records ≡ Some l → runs_noted p side s l o (reply_by p s reply) ≡ decided_run p side (Works s (first_noted o) reply)
  run-noted side l None e = run-nothing side l e
  run-noted side l (Some r) e = run-first side (stored s r []) (noted l s r []) (slot-here p side.records s l r [] e)

-- a first record without a message may come where the rule allows it
pub noted-may : (p : Party) (xs : List Stored) (s : SessionId) (l : Slot) (o : Option Rec) → slot_in s xs ≡ Some l → ((r : Rec) → o ≡ Some r → RoleRule l.view.role l.view r × IsNote r) → FirstMayCome p s xs (first_noted o)
noted-may p xs s l None e h = (l, e)
noted-may p xs s l (Some r) e h = let (rule, note) = h r refl in (note, Notes s l.view r (view-of p xs s l e) rule note)

-- ---- tests

-- where no test holds the call runs
pub accepted-run : (p : Party) (side : Side) (call : Call) → refusal_of p side.records call ≡ None → run_of p side call ≡ accepted p side call
unfolding run_of
accepted-run p side call e = ap (λ o. by_tests o (accepted p side call)) e
