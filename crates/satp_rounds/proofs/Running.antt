-- Where a session is on a gateway's side after a run.
use Rattle.std.proofs.Common.{◌≡◌, Bool, true, false, List, [], ◌∷◌, ◌++◌, Option, Some, None, Ok, refl, sym, subst, ◌∙◌, if◌then◌else◌}
use Rattle.satp_base.specs.LedgerRule.{entry_of}
use Rattle.satp_base.specs.Roles.{rescues}
use Rattle.satp_base.specs.Views.{push}
use Rattle.satp_base.specs.declared.message.Role.{Role}
use Rattle.satp_base.specs.declared.record.Rec.{Rec}
use Rattle.satp_base.specs.declared.record.Rec.TheVariants.{Rescue}
use Rattle.satp_base.specs.declared.session.SessionId.{SessionId}
use Rattle.satp_sides.specs.Calls.{Run, ended, rescue_in, runs, runs_noted, says}
use Rattle.satp_sides.specs.Due.{Due, due}
use Rattle.satp_sides.specs.Halves.{Half, half}
use Rattle.satp_sides.specs.Logs.{MayCome}
use Rattle.satp_sides.specs.Moves.{AreMoves, Among, said_by}
use Rattle.satp_sides.specs.Moves.Among.{first}
use Rattle.satp_sides.specs.Points.{Move, Appends, Acts, Says, Party, Side, Slot, Stored, Text, moved, moved_by, noted, stored}
use Rattle.satp_sides.proofs.Records.{push-head}
use Rattle.satp_world.proofs.DueMoves.{SlotAt, slot-more, work-goes}
use Rattle.satp_world.specs.Work.{RunGoes}
use Rattle.satp_rounds.proofs.Working.{Fits, works}
use Rattle.satp_rounds.specs.Funds.{Funds, worked}
use Rattle.satp_rounds.specs.Rounds.{readied}

-- saying a text changes nothing that is kept
moved-says : (side : Side) (ms : List Move) (o : Option Text) → moved_by side (ms ++ says o) ≡ moved_by side ms
moved-says side [] None = refl
moved-says side [] (Some t) = refl
moved-says side (m ∷ ms) o = moved-says (moved side m) ms o

said-last : (bag : List Text) (ms : List Move) (t : Text) → Among t (said_by bag (ms ++ Says t ∷ []))
said-last bag [] t = first
said-last bag (Appends x ∷ ms) t = said-last bag ms t
said-last bag (Acts s op terms ∷ ms) t = said-last bag ms t
said-last bag (Says u ∷ ms) t = said-last (u ∷ bag) ms t

module _ (p : Party) (s : SessionId) (role : Role) (f : Funds) where
  -- the records say this of the session, and its half is this
  pub record HalfAt (side : Side) (l : Slot) (h : Half) : Type 0 where
    pub at : SlotAt p s side l
    pub role_is : l.view.role ≡ role
    pub fits : Fits role f s l.view.terms side.book
    pub half : half l.view (entry_of side.book.entries s) ≡ h

  -- after the run: its reply, and the half
  pub record Ran (side : Side) (bag : List Text) (run : Run) (reply : Slot → Option Text) (h : Half) : Type 0 where
    pub slot : Slot
    pub answer : run.answer ≡ Some (Ok (reply slot))
    pub there : HalfAt (moved_by side run.moves) slot h
    pub said : (t : Text) → reply slot ≡ Some t → Among t (said_by bag run.moves)

  said-reply : (bag : List Text) (ms : List Move) (o : Option Text) (t : Text) → o ≡ Some t → Among t (said_by bag (ms ++ says o))
  said-reply bag ms None t e = absurd (cc e)
  said-reply bag ms (Some u) t e = subst (λ x. Among x (said_by bag (ms ++ Says u ∷ []))) (cc e) (said-last bag ms u)

  -- due work
  work-done : (side : Side) (bag : List Text) (l : Slot) → SlotAt p s side l → l.view.role ≡ role → Fits role f s l.view.terms side.book → (due p s l side.book).in_order ≡ true
      → HalfAt (moved_by side (due p s l side.book).moves) (due p s l side.book).slot (worked role f (half l.view (entry_of side.book.entries s)))
  unfolding due
  work-done side bag l at is h order =
      let goes = work-goes 3 p s side bag l at order in
      let k = works p role f s 3 side l is h order in
      record { at = goes.slot; role_is = k.role_is; fits = k.fits; half = k.half }

  done-says : (side : Side) (bag : List Text) (l : Slot) (o : Option Text) (h : Half) (ms : List Move) (d : Slot) → HalfAt (moved_by side ms) d h → HalfAt (moved_by side (ms ++ says o)) d h
  done-says side bag l o h ms d k = subst (λ x. HalfAt x d h) (sym (moved-says side ms o)) k

  ended-none : (side : Side) (bag : List Text) (l : Slot) (reply : Slot → Option Text) (c : Bool) → SlotAt p s side l → l.view.role ≡ role → Fits role f s l.view.terms side.book
      → (due p s l side.book).in_order ≡ c → ((ended c (due p s l side.book) [] (reply (due p s l side.book).slot)).answer ≡ None → ⊥)
      → Ran side bag (ended c (due p s l side.book) [] (reply (due p s l side.book).slot)) reply (worked role f (half l.view (entry_of side.book.entries s)))
  ended-none side bag l reply false at is h order some = absurd (some refl)
  ended-none side bag l reply true at is h order some =
      let d = due p s l side.book in
      record {
        slot = d.slot;
        answer = refl;
        there = done-says side bag l (reply d.slot) _ d.moves d.slot (work-done side bag l at is h order);
        said = said-reply bag d.moves (reply d.slot);
      }

  pub ran-none : (side : Side) (bag : List Text) (l : Slot) (reply : Slot → Option Text) → SlotAt p s side l → l.view.role ≡ role → Fits role f s l.view.terms side.book
      → RunGoes p side bag (runs p side s l [] reply) → Ran side bag (runs p side s l [] reply) reply (worked role f (half l.view (entry_of side.book.entries s)))
  ran-none side bag l reply at is h goes = ended-none side bag l reply (due p s l side.book).in_order at is h refl goes.answered

  ended-one : (side : Side) (bag : List Text) (x : Stored) (l : Slot) (reply : Slot → Option Text) (c : Bool) → SlotAt p s (moved side (Appends x)) l → l.view.role ≡ role → Fits role f s l.view.terms side.book
      → (due p s l side.book).in_order ≡ c → ((ended c (due p s l side.book) (Appends x ∷ []) (reply (due p s l side.book).slot)).answer ≡ None → ⊥)
      → Ran side bag (ended c (due p s l side.book) (Appends x ∷ []) (reply (due p s l side.book).slot)) reply (worked role f (half l.view (entry_of side.book.entries s)))
  ended-one side bag x l reply false at is h order some = absurd (some refl)
  ended-one side bag x l reply true at is h order some =
      let d = due p s l side.book in
      record {
        slot = d.slot;
        answer = refl;
        there = done-says (moved side (Appends x)) bag l (reply d.slot) _ d.moves d.slot (work-done (moved side (Appends x)) bag l at is h order);
        said = said-reply bag d.moves (reply d.slot);
      }

  -- after a record that may come
  pub ran-one : (side : Side) (bag : List Text) (x : Stored) (l : Slot) (reply : Slot → Option Text) → SlotAt p s (moved side (Appends x)) l → l.view.role ≡ role → Fits role f s l.view.terms side.book
      → RunGoes p side bag (runs p side s l (Appends x ∷ []) reply) → Ran side bag (runs p side s l (Appends x ∷ []) reply) reply (worked role f (half l.view (entry_of side.book.entries s)))
  ran-one side bag x l reply at is h goes = ended-one side bag x l reply (due p s l side.book).in_order at is h refl goes.answered

  -- after a record that may be noted of a named session
  pub ran-noted : (side : Side) (bag : List Text) (l : Slot) (r : Rec) (t : Text) (reply : Slot → Option Text) → SlotAt p s side l → l.view.role ≡ role → Fits role f s l.view.terms side.book
      → RunGoes p side bag (runs p side s (noted l s r t) (Appends (stored s r t) ∷ []) reply)
      → Ran side bag (runs p side s (noted l s r t) (Appends (stored s r t) ∷ []) reply) reply (worked role f (half (push l.view r) (entry_of side.book.entries s)))
  ran-noted side bag l r t reply at is h goes =
      let k = push-head l.view r in
      ran-one side bag (stored s r t) (noted l s r t) reply (slot-more p s side l r t at (first-may (due p s (noted l s r t) side.book).in_order (due p s (noted l s r t) side.book) (reply (due p s (noted l s r t) side.book).slot) goes.moves)) (k.0 ∙ is) (subst (λ ts. Fits role f s ts side.book) (sym k.1) h) goes
    where
      first-may : (c : Bool) (d : Due) (o : Option Text) → AreMoves p side bag (ended c d (Appends (stored s r t) ∷ []) o).moves → MayCome p side.records (stored s r t)
      first-may true d o ms = ms.0.may_come
      first-may false d o ms = ms.0.may_come

  -- after a rescue, where the side may begin one
  pub ran-rescue : (side : Side) (bag : List Text) (l : Slot) (reply : Slot → Option Text) → SlotAt p s side l → l.view.role ≡ role → Fits role f s l.view.terms side.book
      → RunGoes p side bag (runs_noted p side s l (rescue_in l.view) reply)
      → Ran side bag (runs_noted p side s l (rescue_in l.view) reply) reply (readied role f (half l.view (entry_of side.book.entries s)))
  ran-rescue side bag l reply at is h goes =
      subst (λ x. Ran side bag (runs_noted p side s l (rescue_in l.view) reply) reply (worked role f (if rescues x l.view then half (push l.view Rescue) (entry_of side.book.entries s) else half l.view (entry_of side.book.entries s)))) is (by (rescues l.view.role l.view) goes)
    where
      by : (c : Bool) → RunGoes p side bag (runs_noted p side s l (if c then Some Rescue else None) reply)
          → Ran side bag (runs_noted p side s l (if c then Some Rescue else None) reply) reply (worked role f (if c then half (push l.view Rescue) (entry_of side.book.entries s) else half l.view (entry_of side.book.entries s)))
      by true goes = ran-noted side bag l Rescue [] reply at is h goes
      by false goes = ran-none side bag l reply at is h goes
