-- Which records come due, and when nothing is due any more.
use Rattle.std.proofs.Common.{◌≡◌, inl, inr, ℕ, zero, suc, Bool, true, false, refl, sym, ap, subst, ◌∙◌, if◌then◌else◌}
use Rattle.satp_base.specs.Acts.{MayAnswer}
use Rattle.satp_base.specs.Roles.{after_of, next_of}
use Rattle.satp_base.specs.Tales.{is_whole}
use Rattle.satp_base.specs.Views.{push}
use Rattle.satp_base.specs.declared.ledger.Answer.{Answer}
use Rattle.satp_base.specs.declared.ledger.Answer.TheVariants.{Done, NoFunds, UnknownAsset, Capped, Taken}
use Rattle.satp_base.specs.declared.ledger.LedgerOp.{LedgerOp}
use Rattle.satp_base.specs.declared.ledger.LedgerOp.TheVariants.{Lock, Burn, Mint, Assign, Release}
use Rattle.satp_base.specs.declared.message.Kind.{Kind}
use Rattle.satp_base.specs.declared.message.Role.{Role}
use Rattle.satp_base.specs.declared.message.Role.TheVariants.{Origin, Recipient}
use Rattle.satp_base.specs.declared.record.Next.{Next}
use Rattle.satp_base.specs.declared.record.Next.TheVariants.{Append, Act, Wait, Ended}
use Rattle.satp_base.specs.declared.record.Rec.{Rec}
use Rattle.satp_base.specs.declared.record.Rec.TheVariants.{Began, Took, Made, Did, Chose, Rescue}
use Rattle.satp_base.specs.declared.view.View.{View}
use Rattle.satp_base.proofs.Finite.{In, all_of, all_of-at, andthen-left}
use Rattle.satp_base.proofs.Finite.In.{here, there}
use Rattle.satp_base.proofs.RoleLemmas.{role-gives}
use Rattle.satp_sides.specs.DueLaws.{Rests}
use Rattle.satp_sides.specs.Logs.{IsNote}
use Rattle.satp_sides.proofs.DueCheck.{origins_all, recipients_all}
use Rattle.satp_sides.proofs.DueLaw.{look-push, next-is}
use Rattle.satp_sides.proofs.DueTable.{Look, due_ok, look_ok, look_of, made_ok, origin_look, pushed, recipient_look, recs_after, rests, turn_ok}
use Rattle.satp_sides.proofs.Lists.{bools, in_bools, in_lasts, in_ways, ways}
use Rattle.satp_sides.proofs.Records.{push-head}
use Rattle.satp_engine.specs.Turning.{Comes, RestsWithin}
use Rattle.satp_engine.specs.Turning.Comes.{Appended, Answered as Follows}

-- ---- what is due is a message that the side makes, or has no message

due_kind : Next → Bool
due_kind (Append (Began role terms)) = false
due_kind (Append (Took kind)) = false
due_kind (Append (Did op)) = false
due_kind (Append Rescue) = false
due_kind _ = true

due-kind : (role : Role) (v : View) → due_kind (next_of role v) ≡ true
unfolding due_kind
due-kind Origin v = role-gives due_kind Origin v refl refl
due-kind Recipient v = role-gives due_kind Recipient v refl refl

pub due-note : (role : Role) (v : View) (r : Rec) → next_of role v ≡ Append r → ((kind : Kind) → r ≡ Made kind → ⊥) → IsNote r
unfolding due_kind
due-note role v (Began r terms) e n = let h = subst (λ x. due_kind x ≡ true) e (due-kind role v) in absurd (cc h)
due-note role v (Took kind) e n = let h = subst (λ x. due_kind x ≡ true) e (due-kind role v) in absurd (cc h)
due-note role v (Made kind) e n = absurd (n kind refl)
due-note role v (Did op) e n = tt
due-note role v (Chose way) e n = tt
due-note role v Rescue e n = tt

pub after-note : (op : LedgerOp) (a : Answer) → IsNote (after_of op a)
after-note op Done = tt
after-note op (NoFunds free) = tt
after-note op UnknownAsset = tt
after-note op (Capped total) = tt
after-note Lock (Taken entry) = tt
after-note Burn (Taken entry) = tt
after-note Mint (Taken entry) = tt
after-note Assign (Taken entry) = tt
after-note Release (Taken entry) = tt

ended-on : (whole : Bool) (rest : Next) (r : Rec) → (if whole then Ended else rest) ≡ Append r → whole ≡ false
ended-on true rest r e = absurd (cc e)
ended-on false rest r e = refl

-- nothing is due in a whole chain
pub not-whole : (role : Role) (v : View) (r : Rec) → next_of role v ≡ Append r → is_whole v.tale ≡ false
not-whole Origin v r e = ended-on (is_whole v.tale) _ r e
not-whole Recipient v r e = ended-on (is_whole v.tale) _ r e

-- ---- after three turns nothing is due

origin-ok : (l : Look) → look_ok Origin l ≡ true
origin-ok l =
    let d = l.done in
    let all = origins_all d.mint d.assign l.prepared in
    let a = all_of-at (λ last. all_of (λ way. all_of (λ lock. all_of (λ burn. all_of (λ release. all_of (λ rescue. look_ok Origin (origin_look d.mint d.assign l.prepared last way lock burn release rescue)) bools) bools) bools) bools) ways) (in_lasts l.last) all in
    let b = all_of-at (λ way. all_of (λ lock. all_of (λ burn. all_of (λ release. all_of (λ rescue. look_ok Origin (origin_look d.mint d.assign l.prepared l.last way lock burn release rescue)) bools) bools) bools) bools) (in_ways l.way) a in
    let c = all_of-at (λ lock. all_of (λ burn. all_of (λ release. all_of (λ rescue. look_ok Origin (origin_look d.mint d.assign l.prepared l.last l.way lock burn release rescue)) bools) bools) bools) (in_bools d.lock) b in
    let e = all_of-at (λ burn. all_of (λ release. all_of (λ rescue. look_ok Origin (origin_look d.mint d.assign l.prepared l.last l.way d.lock burn release rescue)) bools) bools) (in_bools d.burn) c in
    let f = all_of-at (λ release. all_of (λ rescue. look_ok Origin (origin_look d.mint d.assign l.prepared l.last l.way d.lock d.burn release rescue)) bools) (in_bools d.release) e in
    all_of-at (λ rescue. look_ok Origin (origin_look d.mint d.assign l.prepared l.last l.way d.lock d.burn d.release rescue)) (in_bools l.rescue) f

recipient-ok : (l : Look) → look_ok Recipient l ≡ true
recipient-ok l =
    let d = l.done in
    let all = recipients_all d.lock d.burn l.rescue in
    let a = all_of-at (λ last. all_of (λ way. all_of (λ mint. all_of (λ assign. all_of (λ release. all_of (λ prepared. look_ok Recipient (recipient_look d.lock d.burn l.rescue last way mint assign release prepared)) bools) bools) bools) bools) ways) (in_lasts l.last) all in
    let b = all_of-at (λ way. all_of (λ mint. all_of (λ assign. all_of (λ release. all_of (λ prepared. look_ok Recipient (recipient_look d.lock d.burn l.rescue l.last way mint assign release prepared)) bools) bools) bools) bools) (in_ways l.way) a in
    let c = all_of-at (λ mint. all_of (λ assign. all_of (λ release. all_of (λ prepared. look_ok Recipient (recipient_look d.lock d.burn l.rescue l.last l.way mint assign release prepared)) bools) bools) bools) (in_bools d.mint) b in
    let e = all_of-at (λ assign. all_of (λ release. all_of (λ prepared. look_ok Recipient (recipient_look d.lock d.burn l.rescue l.last l.way d.mint assign release prepared)) bools) bools) (in_bools d.assign) c in
    let f = all_of-at (λ release. all_of (λ prepared. look_ok Recipient (recipient_look d.lock d.burn l.rescue l.last l.way d.mint d.assign release prepared)) bools) (in_bools d.release) e in
    all_of-at (λ prepared. look_ok Recipient (recipient_look d.lock d.burn l.rescue l.last l.way d.mint d.assign d.release prepared)) (in_bools l.prepared) f

every-look : (role : Role) (l : Look) → due_ok role 3 3 2 l ≡ true
every-look Origin l = andthen-left (due_ok Origin 3 3 2 l) (λ _. made_ok Origin l) (origin-ok l)
every-look Recipient l = andthen-left (due_ok Recipient 3 3 2 l) (λ _. made_ok Recipient l) (recipient-ok l)

rest-of : (n : Next) → rests n ≡ true → Rests n
rest-of Wait h = inl refl
rest-of Ended h = inr refl
rest-of (Append r) h = absurd (cc h)
rest-of (Act op) h = absurd (cc h)

after-in : (op : LedgerOp) (a : Answer) → MayAnswer op a → In (after_of op a) (recs_after op)
after-in Lock Done m = here
after-in Lock (NoFunds free) m = there here
after-in Lock (Taken entry) m = there here
after-in Lock UnknownAsset m = absurd m
after-in Lock (Capped total) m = absurd m
after-in Mint Done m = here
after-in Mint UnknownAsset m = there here
after-in Mint (Capped total) m = there (there here)
after-in Mint (Taken entry) m = there (there (there here))
after-in Mint (NoFunds free) m = absurd m
after-in Burn Done m = here
after-in Burn (NoFunds free) m = absurd m
after-in Burn UnknownAsset m = absurd m
after-in Burn (Capped total) m = absurd m
after-in Burn (Taken entry) m = absurd m
after-in Assign Done m = here
after-in Assign (NoFunds free) m = absurd m
after-in Assign UnknownAsset m = absurd m
after-in Assign (Capped total) m = absurd m
after-in Assign (Taken entry) m = absurd m
after-in Release Done m = here
after-in Release (NoFunds free) m = absurd m
after-in Release UnknownAsset m = absurd m
after-in Release (Capped total) m = absurd m
after-in Release (Taken entry) m = absurd m

-- the test, for the view with a record more
pushed-ok : (n recs acts : ℕ) (v : View) (r : Rec) → due_ok v.role n recs acts (pushed (look_of v) r) ≡ true → due_ok (push v r).role n recs acts (look_of (push v r)) ≡ true
pushed-ok n recs acts v r ok =
    subst (λ role. due_ok role n recs acts (look_of (push v r)) ≡ true) (sym (push-head v r).0) (subst (λ k. due_ok v.role n recs acts k ≡ true) (sym (look-push v r)) ok)

abbrev Bounded : ℕ → Type 0
Bounded n = (recs acts : ℕ) (v : View) → due_ok v.role n recs acts (look_of v) ≡ true → RestsWithin n v

module _ (n : ℕ) (h : Bounded n) where
  after-append : (recs acts : ℕ) (v : View) (r : Rec) → turn_ok (due_ok v.role n) recs acts (look_of v) (Append r) ≡ true → RestsWithin n (push v r)
  after-append (suc recs) acts v r ok = h recs acts (push v r) (pushed-ok n recs acts v r ok)
  after-append zero acts v r ok = absurd (cc ok)

  after-act : (recs acts : ℕ) (v : View) (op : LedgerOp) (a : Answer) → MayAnswer op a → turn_ok (due_ok v.role n) recs acts (look_of v) (Act op) ≡ true → RestsWithin n (push v (after_of op a))
  after-act (suc recs) (suc acts) v op a m ok =
      let r = after_of op a in
      h recs acts (push v r) (pushed-ok n recs acts v r (all_of-at (λ x. due_ok v.role n recs acts (pushed (look_of v) x)) (after-in op a m) ok))
  after-act (suc recs) zero v op a m ok = absurd (cc ok)
  after-act zero acts v op a m ok = absurd (cc ok)

  at-next : (recs acts : ℕ) (v : View) → turn_ok (due_ok v.role n) recs acts (look_of v) (next_of v.role v) ≡ true → (r : Rec) → Comes v r → RestsWithin n (push v r)
  at-next recs acts v ok _ (Appended r e) = after-append recs acts v r (subst (λ x. turn_ok (due_ok v.role n) recs acts (look_of v) x ≡ true) e ok)
  at-next recs acts v ok _ (Follows op a e m) = after-act recs acts v op a m (subst (λ x. turn_ok (due_ok v.role n) recs acts (look_of v) x ≡ true) e ok)

bounded : (n : ℕ) → Bounded n
bounded zero recs acts v ok = rest-of (next_of v.role v) (ap rests (next-is v.role v) ∙ ok)
bounded (suc n) recs acts v ok = at-next n (bounded n) recs acts v (subst (λ x. turn_ok (due_ok v.role n) recs acts (look_of v) x ≡ true) (sym (next-is v.role v)) ok)

-- over every view, whatever the ledger answers
pub three-turns : (v : View) → RestsWithin 3 v
three-turns v = bounded 3 3 2 v (every-look v.role (look_of v))
