-- What is collected stays, and more records and parts cover as much.
use Rattle.std.proofs.Common.{Bool, true, false, ap, ◌∙◌, ◌≡◌, ◌⊎◌, ℕ, zero, suc, List, [], ◌∷◌, ◌++◌, Contains, Option, IsTrue, refl, sym, subst, inl, inr}
use Rattle.std.specs.List.{All}
use Rattle.std.proofs.lemmas.List.Elements.{All-push, Contains-append_left, Contains-push}
use Rattle.satp_base.specs.Acts.{MayAnswer}
use Rattle.satp_base.specs.Chains.{made_part}
use Rattle.satp_base.specs.Forms.{is_plain}
use Rattle.satp_base.specs.Roles.{After, IsReached, RoleRule, after_of, next_of}
use Rattle.satp_base.specs.Roles.RoleRule.{Due, Answered}
use Rattle.satp_base.specs.Tales.{IsTale}
use Rattle.satp_base.specs.Views.{push}
use Rattle.satp_base.specs.declared.ledger.Answer.{Answer}
use Rattle.satp_base.specs.declared.ledger.Answer.TheVariants as answer
use Rattle.satp_base.specs.declared.ledger.LedgerOp.{LedgerOp}
use Rattle.satp_base.specs.declared.ledger.LedgerOp.TheVariants.{Lock, Burn, Mint, Assign, Release}
use Rattle.satp_base.specs.declared.message.Kind.{Kind}
use Rattle.satp_base.specs.declared.message.Kind.TheVariants.{TransferProposal, ProposalReceipt, TransferCommence, CommenceAck, LockAssert, LockReceipt, CommitPrepare, CommitReady, CommitFinal, CommitFinalAck, TransferComplete, Reject, Rollback, RollbackAck, Recover, RecoverUpdate, RecoverSuccess}
use Rattle.satp_base.specs.declared.message.Part.{Part}
use Rattle.satp_base.specs.declared.message.Role.{Role}
use Rattle.satp_base.specs.declared.message.Role.TheVariants.{Origin, Recipient}
use Rattle.satp_base.specs.declared.record.Cause.TheVariants.{LockRefused, UnknownAsset, MintCapped, LedgerTaken}
use Rattle.satp_base.specs.declared.record.Next.{Next}
use Rattle.satp_base.specs.declared.record.Next.TheVariants.{Append, Act, Wait, Ended}
use Rattle.satp_base.specs.declared.record.Rec.{Rec}
use Rattle.satp_base.specs.declared.record.Rec.TheVariants.{Began, Took, Made, Did, Chose, Rescue}
use Rattle.satp_base.specs.declared.record.Way.{Way}
use Rattle.satp_base.specs.declared.record.Way.TheVariants.{Back}
use Rattle.satp_base.specs.declared.view.View.{View}
use Rattle.satp_base.proofs.RoleLemmas.{role-gives}
use Rattle.satp_sides.specs.DueLaws.{Rests}
use Rattle.satp_sides.specs.Logs.{IsNote}
use Rattle.satp_sides.proofs.DueLaw.{made-rests}
use Rattle.satp_sides.proofs.LogLaw.{reached-more}
use Rattle.satp_log.proofs.Comings.{made-fits}
use Rattle.satp_plan.specs.Outlines.{AddsAnswers, AddsMintRefused, AddsPart, AddsRec, AddsTurns, FitsTale, Grows, HasTurns}
use Rattle.satp_plan.specs.Plans.{AreAmong, IsAmong, IsNextAmong}
use Rattle.satp_plan.specs.declared.outline.Outline.{Outline}

-- ---- more cover as much

module _ (recs more : List Rec) (parts others : List Part) (f : (r : Rec) → Contains recs r → Contains more r) (g : (part : Part) → Contains parts part → Contains others part) where
  is-among : (v : View) (r : Rec) → IsAmong recs parts v r → IsAmong more others v r
  is-among v (Began role terms) h = f (Began role terms) h
  is-among v (Took kind) h = f (Took kind) h
  is-among v (Made kind) h = g (made_part v.way kind) h
  is-among v (Did op) h = f (Did op) h
  is-among v (Chose way) h = f (Chose way) h
  is-among v Rescue h = f Rescue h

  among-more : (n : ℕ) (v : View) → AreAmong n recs parts v → AreAmong n more others v
  among-more zero v h = tt
  among-more (suc n) v h = record {
    append = λ r e. (is-among v r (h.append r e).0, among-more n (push v r) (h.append r e).1);
    act = λ op a e m. (f (after_of op a) (h.act op a e m).0, among-more n (push v (after_of op a)) (h.act op a e m).1);
  }

-- ---- where nothing is due

no-append : (n : Next) (r : Rec) → Rests n → n ≡ Append r → ⊥
no-append n r (inl w) e = let h : Wait ≡ Append r = subst (λ x. x ≡ Append r) w e in cc h
no-append n r (inr w) e = let h : Ended ≡ Append r = subst (λ x. x ≡ Append r) w e in cc h

no-act : (n : Next) (op : LedgerOp) → Rests n → n ≡ Act op → ⊥
no-act n op (inl w) e = let h : Wait ≡ Act op = subst (λ x. x ≡ Act op) w e in cc h
no-act n op (inr w) e = let h : Ended ≡ Act op = subst (λ x. x ≡ Act op) w e in cc h

among-rests : (n : ℕ) (recs : List Rec) (parts : List Part) (v : View) → Rests (next_of v.role v) → AreAmong n recs parts v
among-rests zero recs parts v h = tt
among-rests (suc n) recs parts v h = record {
  append = λ r e. absurd (no-append (next_of v.role v) r h e);
  act = λ op a e m. absurd (no-act (next_of v.role v) op h e);
}

-- ---- growing

pub grows-not : (tale : List Kind) (o : Outline) → Grows tale o o
grows-not tale o = record { recs = λ r h. h; parts = λ p h. h; notes = λ h. h; fitting = λ h. h }

grows-on : (tale : List Kind) (a b c : Outline) → Grows tale a b → Grows tale b c → Grows tale a c
grows-on tale a b c g h = record { recs = λ r k. h.recs r (g.recs r k); parts = λ p k. h.parts p (g.parts p k); notes = λ k. h.notes (g.notes k); fitting = λ k. h.fitting (g.fitting k) }

grows-rec : (tale : List Kind) (old new : Outline) (r : Rec) → new.recs.items ≡ old.recs.items ++ r ∷ [] → new.parts ≡ old.parts → IsNote r → Grows tale old new
grows-rec tale old new r e q n = record {
  recs = λ x h. subst (λ xs. Contains xs x) (sym e) (Contains-append_left old.recs.items (r ∷ []) x h);
  parts = λ part h. subst (λ ps. Contains ps.items part) (sym q) h;
  notes = λ h. subst (All IsNote) (sym e) (All-push IsNote old.recs.items r h n);
  fitting = λ h. subst (λ ps. All (FitsTale tale) ps.items) (sym q) h;
}

grows-part : (tale : List Kind) (old new : Outline) (part : Part) → new.parts.items ≡ old.parts.items ++ part ∷ [] → new.recs ≡ old.recs → FitsTale tale part → Grows tale old new
grows-part tale old new part e q f = record {
  recs = λ x h. subst (λ rs. Contains rs.items x) (sym q) h;
  parts = λ x h. subst (λ xs. Contains xs x) (sym e) (Contains-append_left old.parts.items (part ∷ []) x h);
  notes = λ h. subst (λ rs. All IsNote rs.items) (sym q) h;
  fitting = λ h. subst (All (FitsTale tale)) (sym e) (All-push (FitsTale tale) old.parts.items part h f);
}

-- ---- the part of a message that is due

fits-part : (tale : List Kind) (way : Option Way) (k : Kind) → IsTrue (is_plain k) ⊎ (k ≡ Reject) → IsTale (tale ++ k ∷ []) → FitsTale tale (made_part way k)
fits-part tale way TransferProposal (inl h) t = absurd (cc h)
fits-part tale way TransferProposal (inr h) t = absurd (cc h)
fits-part tale way ProposalReceipt h t = (refl, t, refl)
fits-part tale way TransferCommence h t = (refl, t, refl)
fits-part tale way CommenceAck h t = (refl, t, refl)
fits-part tale way LockAssert h t = (refl, t, refl)
fits-part tale way LockReceipt h t = (refl, t, refl)
fits-part tale way CommitPrepare h t = (refl, t, refl)
fits-part tale way CommitReady h t = (refl, t, refl)
fits-part tale way CommitFinal h t = (refl, t, refl)
fits-part tale way CommitFinalAck h t = (refl, t, refl)
fits-part tale way TransferComplete h t = (refl, t, refl)
fits-part tale way Reject h t = (tt, t, refl)
fits-part tale way Rollback h t = (refl, t, refl)
fits-part tale way RollbackAck h t = (refl, t, refl)
fits-part tale way Recover (inl h) t = absurd (cc h)
fits-part tale way Recover (inr h) t = absurd (cc h)
fits-part tale way RecoverUpdate (inl h) t = absurd (cc h)
fits-part tale way RecoverUpdate (inr h) t = absurd (cc h)
fits-part tale way RecoverSuccess (inl h) t = absurd (cc h)
fits-part tale way RecoverSuccess (inr h) t = absurd (cc h)

part-fits : (v : View) (kind : Kind) → IsReached v.role v → next_of v.role v ≡ Append (Made kind) → FitsTale v.tale (made_part v.way kind)
part-fits v kind k e = let h = made-fits v kind k (Due e) in fits-part v.tale v.way kind h.1 h.0

pub part-added : (v : View) (kind : Kind) (part : Part) (old new : Outline) → IsReached v.role v → next_of v.role v ≡ Append (Made kind) → part ≡ made_part v.way kind → new.parts.items ≡ old.parts.items ++ part ∷ [] → new.recs ≡ old.recs
    → AddsPart v kind old new
part-added v kind part old new k due is e q =
    let at : new.parts.items ≡ old.parts.items ++ made_part v.way kind ∷ [] = subst (λ x. new.parts.items ≡ old.parts.items ++ x ∷ []) is e in (
      grows-part v.tale old new (made_part v.way kind) at q (part-fits v kind k due),
      subst (λ xs. Contains xs (made_part v.way kind)) (sym at) (Contains-push old.parts.items (made_part v.way kind)),
    )

-- ---- a record, and what comes after it

role-kept : (v : View) (r : Rec) → (push v r).role ≡ v.role
role-kept v (Began role terms) = refl
role-kept v (Took kind) = refl
role-kept v (Made kind) = refl
role-kept v (Did op) = refl
role-kept v (Chose way) = refl
role-kept v Rescue = refl

tale-kept : (v : View) (r : Rec) → IsNote r → (push v r).tale ≡ v.tale
tale-kept v (Began role terms) n = absurd n
tale-kept v (Took kind) n = absurd n
tale-kept v (Made kind) n = absurd n
tale-kept v (Did op) n = refl
tale-kept v (Chose way) n = refl
tale-kept v Rescue n = refl

pub reached-after : (v w : View) (r : Rec) → w ≡ push v r → IsReached v.role v → RoleRule v.role v r → IsReached w.role w
reached-after v w r e k rule = subst (λ (x : View). IsReached x.role x) (sym e) (subst (λ role. IsReached role (push v r)) (sym (role-kept v r)) (reached-more v.role v r k rule))

pub rec-added : (n : ℕ) (v w : View) (r : Rec) (old mid new : Outline) → mid.recs.items ≡ old.recs.items ++ r ∷ [] → mid.parts ≡ old.parts → IsNote r → w ≡ push v r → AddsTurns n w mid new → AddsRec n v r old new
rec-added n v w r old mid new e q note is h =
    let tale : w.tale ≡ v.tale = ap (λ (x : View). x.tale) is ∙ tale-kept v r note in
    let later : Grows v.tale mid new = subst (λ t. Grows t mid new) tale h.0 in
    let there : Contains mid.recs.items r = subst (λ xs. Contains xs r) (sym e) (Contains-push old.recs.items r) in
    (grows-on v.tale old mid new (grows-rec v.tale old mid r e q note) later, (later.recs r there, subst (AreAmong n new.recs.items new.parts.items) is h.1))

-- ---- after an operation

has-on : (n : ℕ) (v : View) (r : Rec) (a b : Outline) → Grows v.tale a b → HasTurns n v r a → HasTurns n v r b
has-on n v r a b g h = (g.recs r h.0, among-more a.recs.items b.recs.items a.parts.items b.parts.items g.recs g.parts n (push v r) h.1)

module _ (n : ℕ) (v : View) (a b c : Outline) where
  lock-answers : HasTurns n v (Did Lock) c → HasTurns n v (Chose (Back LockRefused)) c → (answer : Answer) → MayAnswer Lock answer → HasTurns n v (after_of Lock answer) c
  lock-answers done refused answer.Done m = done
  lock-answers done refused (answer.NoFunds free) m = refused
  lock-answers done refused (answer.Taken entry) m = refused
  lock-answers done refused answer.UnknownAsset m = absurd m
  lock-answers done refused (answer.Capped total) m = absurd m

  pub lock-added : (op : LedgerOp) → op ≡ Lock → AddsRec n v (Did op) a b → AddsRec n v (Chose (Back LockRefused)) b c → AddsAnswers n v op a c
  lock-added op e g h =
      let done : HasTurns n v (Did Lock) c = subst (λ o. HasTurns n v (Did o) c) e (has-on n v (Did op) b c h.0 g.1) in
      subst (λ o. AddsAnswers n v o a c) (sym e) (grows-on v.tale a b c g.0 h.0, lock-answers done h.1)

  mint-answers : HasTurns n v (Did Mint) c → AddsMintRefused n v b c → (answer : Answer) → MayAnswer Mint answer → HasTurns n v (after_of Mint answer) c
  mint-answers done refused answer.Done m = done
  mint-answers done refused (answer.NoFunds free) m = absurd m
  mint-answers done refused (answer.Taken entry) m = refused.3
  mint-answers done refused answer.UnknownAsset m = refused.1
  mint-answers done refused (answer.Capped total) m = refused.2

  pub mint-added : (op : LedgerOp) → op ≡ Mint → AddsRec n v (Did op) a b → AddsMintRefused n v b c → AddsAnswers n v op a c
  mint-added op e g h =
      let done : HasTurns n v (Did Mint) c = subst (λ o. HasTurns n v (Did o) c) e (has-on n v (Did op) b c h.0 g.1) in
      subst (λ o. AddsAnswers n v o a c) (sym e) (grows-on v.tale a b c g.0 h.0, mint-answers done h)

  done-answers : (op : LedgerOp) → (op ≡ Lock → ⊥) → (op ≡ Mint → ⊥) → HasTurns n v (Did op) b → (answer : Answer) → MayAnswer op answer → HasTurns n v (after_of op answer) b
  done-answers Lock l m h answer may = absurd (l refl)
  done-answers Mint l m h answer may = absurd (m refl)
  done-answers Burn l m h answer.Done may = h
  done-answers Assign l m h answer.Done may = h
  done-answers Release l m h answer.Done may = h
  done-answers Burn l m h (answer.NoFunds free) may = absurd may
  done-answers Burn l m h (answer.Taken entry) may = absurd may
  done-answers Burn l m h answer.UnknownAsset may = absurd may
  done-answers Burn l m h (answer.Capped total) may = absurd may
  done-answers Assign l m h (answer.NoFunds free) may = absurd may
  done-answers Assign l m h (answer.Taken entry) may = absurd may
  done-answers Assign l m h answer.UnknownAsset may = absurd may
  done-answers Assign l m h (answer.Capped total) may = absurd may
  done-answers Release l m h (answer.NoFunds free) may = absurd may
  done-answers Release l m h (answer.Taken entry) may = absurd may
  done-answers Release l m h answer.UnknownAsset may = absurd may
  done-answers Release l m h (answer.Capped total) may = absurd may

  pub done-added : (op : LedgerOp) → (op ≡ Lock → ⊥) → (op ≡ Mint → ⊥) → AddsRec n v (Did op) a b → AddsAnswers n v op a b
  done-added op l m h = (h.0, done-answers op l m h.1)

pub refused-added : (n : ℕ) (v : View) (a b c d : Outline) → AddsRec n v (Chose (Back UnknownAsset)) a b → AddsRec n v (Chose (Back MintCapped)) b c → AddsRec n v (Chose (Back LedgerTaken)) c d → AddsMintRefused n v a d
refused-added n v a b c d f g h =
    let later = grows-on v.tale b c d g.0 h.0 in
    (grows-on v.tale a b d f.0 later, has-on n v (Chose (Back UnknownAsset)) b d later f.1, has-on n v (Chose (Back MintCapped)) c d h.0 g.1, h.1)

pub refused-rule : (v : View) (op : LedgerOp) → next_of v.role v ≡ Act op → op ≡ Lock → RoleRule v.role v (Chose (Back LockRefused))
refused-rule v op e is = Answered op (answer.NoFunds 0) e (subst (λ o. After o (answer.NoFunds 0) (Chose (Back LockRefused))) (sym is) refl)

-- ---- a turn

append-is : (next : Next) (r x : Rec) → next ≡ Append r → next ≡ Append x → r ≡ x
append-is next r x e f = let h : Append r ≡ Append x = sym e ∙ f in cc h

act-is : (next : Next) (op x : LedgerOp) → next ≡ Act op → next ≡ Act x → op ≡ x
act-is next op x e f = let h : Act op ≡ Act x = sym e ∙ f in cc h

not-both : (next : Next) (r : Rec) (op : LedgerOp) → next ≡ Append r → next ≡ Act op → ⊥
not-both next r op e f = let h : Append r ≡ Act op = sym e ∙ f in cc h

module _ (n m : ℕ) (is : n ≡ suc m) (v : View) (old new : Outline) where
  turn : IsNextAmong new.recs.items new.parts.items v (AreAmong m new.recs.items new.parts.items) → AreAmong n new.recs.items new.parts.items v
  turn h = subst (λ k. AreAmong k new.recs.items new.parts.items v) (sym is) h

  pub made-turn : (kind : Kind) → next_of v.role v ≡ Append (Made kind) → AddsPart v kind old new → AddsTurns n v old new
  made-turn kind e h = (
    h.0,
    turn (record {
      append = λ r f. subst (λ x. IsAmong new.recs.items new.parts.items v x × AreAmong m new.recs.items new.parts.items (push v x)) (append-is (next_of v.role v) (Made kind) r e f)
          (h.1, among-rests m new.recs.items new.parts.items (push v (Made kind)) (made-rests v.role v kind e));
      act = λ op a f may. absurd (not-both (next_of v.role v) (Made kind) op e f);
    }),
  )

  among-note : (r : Rec) → IsNote r → Contains new.recs.items r → IsAmong new.recs.items new.parts.items v r
  among-note (Began role terms) i h = absurd i
  among-note (Took kind) i h = absurd i
  among-note (Made kind) i h = absurd i
  among-note (Did op) i h = h
  among-note (Chose way) i h = h
  among-note Rescue i h = h

  pub note-turn : (r : Rec) → next_of v.role v ≡ Append r → IsNote r → AddsRec m v r old new → AddsTurns n v old new
  note-turn r e i h = (
    h.0,
    turn (record {
      append = λ x f. subst (λ y. IsAmong new.recs.items new.parts.items v y × AreAmong m new.recs.items new.parts.items (push v y)) (append-is (next_of v.role v) r x e f)
          (among-note r i h.1.0, h.1.1);
      act = λ op a f may. absurd (not-both (next_of v.role v) r op e f);
    }),
  )

  pub act-turn : (op : LedgerOp) → next_of v.role v ≡ Act op → AddsAnswers m v op old new → AddsTurns n v old new
  act-turn op e h = (
    h.0,
    turn (record {
      append = λ x f. absurd (not-both (next_of v.role v) x op f e);
      act = λ o a f may. subst (λ x. (b : Answer) → MayAnswer x b → HasTurns m v (after_of x b) new) (act-is (next_of v.role v) op o e f) h.1 a may;
    }),
  )

pub rest-turn : (n : ℕ) (v : View) (o : Outline) → Rests (next_of v.role v) → AddsTurns n v o o
rest-turn n v o h = (grows-not v.tale o, among-rests n o.recs.items o.parts.items v h)

-- ---- what is due is a note, or a message that the side makes

is_due : Next → Bool
is_due (Append (Began role terms)) = false
is_due (Append (Took kind)) = false
is_due next = true

always-due : (role : Role) (v : View) → is_due (next_of role v) ≡ true
unfolding is_due
always-due Origin v = role-gives is_due Origin v refl refl
always-due Recipient v = role-gives is_due Recipient v refl refl

pub due-note : (v : View) (r : Rec) → next_of v.role v ≡ Append r → ((kind : Kind) → r ≡ Made kind → ⊥) → IsNote r
unfolding is_due
due-note v (Began role terms) e n = let h = subst (λ x. is_due x ≡ true) e (always-due v.role v) in absurd (cc h)
due-note v (Took kind) e n = let h = subst (λ x. is_due x ≡ true) e (always-due v.role v) in absurd (cc h)
due-note v (Made kind) e n = absurd (n kind refl)
due-note v (Did op) e n = tt
due-note v (Chose way) e n = tt
due-note v Rescue e n = tt
