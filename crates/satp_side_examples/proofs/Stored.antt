-- Due work stores records that may come, and leaves the session as they say.
use Rattle.std.proofs.Common.{◌≡◌, ℕ, zero, suc, Bool, true, false, List, [], ◌∷◌, ◌++◌, Option, Some, None, refl, sym, ap, subst, if◌then◌else◌, ◌∙◌}
use Rattle.std.specs.Prelude.{option_map}
use Rattle.satp_base.specs.Canonical.{part_kind}
use Rattle.satp_base.specs.Chains.{made_part, next_text}
use Rattle.satp_base.specs.Forms.{IsPart, is_plain}
use Rattle.satp_base.specs.LedgerRule.{operation}
use Rattle.satp_base.specs.Money.{Book}
use Rattle.satp_base.specs.Roles.{Line, RoleRule, after_of, both, either, first_line, next_of, origin_table, recipient_table}
use Rattle.satp_base.specs.Roles.RoleRule.{Due as Is_due, Answered}
use Rattle.satp_base.specs.Tales.{kind_eq}
use Rattle.satp_base.specs.Views.{push}
use Rattle.satp_base.specs.declared.ledger.Answer.{Answer}
use Rattle.satp_base.specs.declared.ledger.Answer.TheVariants.{Done, NoFunds, UnknownAsset, Capped, Taken}
use Rattle.satp_base.specs.declared.ledger.LedgerOp.{LedgerOp}
use Rattle.satp_base.specs.declared.ledger.LedgerOp.TheVariants.{Lock, Burn, Mint, Assign, Release}
use Rattle.satp_base.specs.declared.message.Kind.{Kind}
use Rattle.satp_base.specs.declared.message.Kind.TheVariants.{TransferProposal, ProposalReceipt, TransferCommence, CommenceAck, LockAssert, LockReceipt, CommitPrepare, CommitReady, CommitFinal, CommitFinalAck, TransferComplete, Reject, Rollback, RollbackAck, Recover, RecoverUpdate, RecoverSuccess}
use Rattle.satp_base.specs.declared.message.Role.{Role}
use Rattle.satp_base.specs.declared.message.Role.TheVariants.{Origin, Recipient}
use Rattle.satp_base.specs.declared.record.Next.{Next}
use Rattle.satp_base.specs.declared.record.Next.TheVariants.{Append, Act, Wait, Ended}
use Rattle.satp_base.specs.declared.record.Rec.{Rec}
use Rattle.satp_base.specs.declared.record.Rec.TheVariants.{Began, Took, Made, Did, Chose, Rescue}
use Rattle.satp_base.specs.declared.record.Way.{Way}
use Rattle.satp_base.specs.declared.session.SessionId.{SessionId}
use Rattle.satp_base.specs.declared.view.View.{View}
use Rattle.satp_base.proofs.RecordLaws.{gives-after}
use Rattle.satp_base.proofs.RuleLemmas.{rule-may}
use Rattle.satp_money.proofs.RuleLaw.{gives-rule}
use Rattle.satp_sides.specs.Due.{Due, due, due_answered, due_by, due_text, due_within}
use Rattle.satp_sides.specs.Logs.{IsLog, IsNote, MayCome}
use Rattle.satp_sides.specs.Logs.MayCome.{Makes, Notes}
use Rattle.satp_sides.specs.Points.{Party, Slot, Stored, Text, chain_in, moved_by, noted, recipient_at, slot, slot_in, stored, texts_in_record, view_in}
use Rattle.satp_sides.proofs.LogLaw.{log-grows}
use Rattle.satp_sides.proofs.Records.{chain-here, session-self, view-here}
use Rattle.satp_side_examples.specs.Samples.{side}
use Rattle.satp_side_examples.specs.Tested.{DueIsStored}

-- ---- what a table makes due

abbrev fit : Next → Bool
fit (Append (Began role terms)) = false
fit (Append (Took kind)) = false
fit (Append (Made kind)) = either (is_plain kind) (kind_eq kind Reject)
fit (Append (Did op)) = true
fit (Append (Chose way)) = true
fit (Append Rescue) = true
fit (Act op) = true
fit Wait = true
fit Ended = true

abbrev all_fit : List Line → Bool
all_fit [] = true
all_fit (l ∷ ls) = both (fit l.next) (all_fit ls)

one-fits : (b : Bool) (n m : Next) → fit n ≡ true → fit m ≡ true → fit (if b then n else m) ≡ true
one-fits true n m f g = f
one-fits false n m f g = g

both-are : (a b : Bool) → both a b ≡ true → (a ≡ true) × (b ≡ true)
both-are true b h = (refl, h)
both-are false b h = absurd (cc h)

first-fits : (ls : List Line) → all_fit ls ≡ true → fit (first_line ls) ≡ true
first-fits [] h = refl
first-fits (l ∷ ls) h = let (one, rest) = both-are (fit l.next) (all_fit ls) h in one-fits l.fits l.next (first_line ls) one (first-fits ls rest)

next-fits : (role : Role) (v : View) → fit (next_of role v) ≡ true
next-fits Origin v = first-fits (origin_table v) refl
next-fits Recipient v = first-fits (recipient_table v) refl

made-formed : (way : Option Way) (k : Kind) → either (is_plain k) (kind_eq k Reject) ≡ true → (part_kind (made_part way k) ≡ k) × IsPart (made_part way k)
made-formed way TransferProposal h = absurd (cc h)
made-formed way ProposalReceipt h = (refl, refl)
made-formed way TransferCommence h = (refl, refl)
made-formed way CommenceAck h = (refl, refl)
made-formed way LockAssert h = (refl, refl)
made-formed way LockReceipt h = (refl, refl)
made-formed way CommitPrepare h = (refl, refl)
made-formed way CommitReady h = (refl, refl)
made-formed way CommitFinal h = (refl, refl)
made-formed way CommitFinalAck h = (refl, refl)
made-formed way TransferComplete h = (refl, refl)
made-formed way Reject h = (refl, tt)
made-formed way Rollback h = (refl, refl)
made-formed way RollbackAck h = (refl, refl)
made-formed way Recover h = absurd (cc h)
made-formed way RecoverUpdate h = absurd (cc h)
made-formed way RecoverSuccess h = absurd (cc h)

answer-notes : (op : LedgerOp) (a : Answer) → IsNote (after_of op a)
answer-notes op Done = tt
answer-notes op (NoFunds free) = tt
answer-notes op UnknownAsset = tt
answer-notes op (Capped total) = tt
answer-notes Lock (Taken entry) = tt
answer-notes Burn (Taken entry) = tt
answer-notes Mint (Taken entry) = tt
answer-notes Assign (Taken entry) = tt
answer-notes Release (Taken entry) = tt

-- ---- one session

shown : (texts : List Text) (l : Slot) (o : Option View) → option_map (λ v. slot v texts) o ≡ Some l → (o ≡ Some l.view) × (texts ≡ l.texts)
shown texts l None e = absurd (cc e)
shown texts l (Some v) e = let same : slot v texts ≡ l = cc e in (ap (λ (k : Slot). Some k.view) same, ap (λ (k : Slot). k.texts) same)

module _ (p : Party) (s : SessionId) where
  more-slot : (xs : List Stored) (l : Slot) (r : Rec) (t : Text) → slot_in s xs ≡ Some l → slot_in s (xs ++ stored s r t ∷ []) ≡ Some (noted l s r t)
  more-slot xs l r t e =
      let (view, texts) = shown (chain_in s xs) l (view_in s xs) e in
      ap (option_map (λ v. slot v (chain_in s (xs ++ stored s r t ∷ [])))) (view-here s xs (stored s r t) l.view (session-self s) view)
      ∙ ap (λ c. Some (slot (push l.view r) c)) (chain-here s xs (stored s r t) (session-self s) ∙ ap (λ c. c ++ texts_in_record (stored s r t)) texts)

  due-may : (xs : List Stored) (l : Slot) (r : Rec) → slot_in s xs ≡ Some l → next_of l.view.role l.view ≡ Append r → fit (Append r) ≡ true → MayCome p xs (stored s r (due_text p s l r))
  due-may xs l (Began role terms) e n f = absurd (cc f)
  due-may xs l (Took kind) e n f = absurd (cc f)
  due-may xs l (Made kind) e n f =
      let (view, texts) = shown (chain_in s xs) l (view_in s xs) e in
      let (is, formed) = made-formed l.view.way kind f in
      subst (λ c. MayCome p xs (stored s (Made kind) (next_text s (recipient_at p l.view.role) p.key c (made_part l.view.way kind)))) texts
      (subst (λ k. MayCome p xs (stored s (Made k) (next_text s (recipient_at p l.view.role) p.key (chain_in s xs) (made_part l.view.way kind)))) is
      (Makes s l.view (made_part l.view.way kind) view (subst (λ k. RoleRule l.view.role l.view (Made k)) (sym is) (Is_due n)) formed))
  due-may xs l (Did op) e n f = Notes s l.view (Did op) (shown (chain_in s xs) l (view_in s xs) e).0 (Is_due n) tt
  due-may xs l (Chose way) e n f = Notes s l.view (Chose way) (shown (chain_in s xs) l (view_in s xs) e).0 (Is_due n) tt
  due-may xs l Rescue e n f = Notes s l.view Rescue (shown (chain_in s xs) l (view_in s xs) e).0 (Is_due n) tt

  abbrev Kept : List Stored → Book → Due → Type 0
  Kept xs b d = IsLog p (moved_by (side xs b) d.moves).records × (slot_in s (moved_by (side xs b) d.moves).records ≡ Some d.slot)

  abbrev Keeps : (Slot → Book → Due) → Type 0
  Keeps rest = (l : Slot) (xs : List Stored) (b : Book) → IsLog p xs → slot_in s xs ≡ Some l → Kept xs b (rest l b)

  answer-kept : (rest : Slot → Book → Due) → Keeps rest → (l : Slot) (xs : List Stored) (b : Book) (op : LedgerOp) → IsLog p xs → slot_in s xs ≡ Some l → next_of l.view.role l.view ≡ Act op
      → (o : Option Answer) → (operation b op s l.view.terms).answer ≡ o → Kept xs b (due_answered rest s l b op o)
  answer-kept rest h l xs b op log e n None a = (log, e)
  answer-kept rest h l xs b op log e n (Some x) a =
      let rule = gives-rule b op s l.view.terms x (operation b op s l.view.terms).after (a, refl) in
      let after = gives-after op x (after_of op x) (rule-may b op s l.view.terms x (operation b op s l.view.terms).after rule) refl in
      let may = Notes s l.view (after_of op x) (shown (chain_in s xs) l (view_in s xs) e).0 (Answered op x n after) (answer-notes op x) in
      h (noted l s (after_of op x) []) (xs ++ stored s (after_of op x) [] ∷ []) (operation b op s l.view.terms).after
      ((log-grows p).more xs (stored s (after_of op x) []) log may) (more-slot xs l (after_of op x) [] e)

  next-kept : (rest : Slot → Book → Due) → Keeps rest → (l : Slot) (xs : List Stored) (b : Book) → IsLog p xs → slot_in s xs ≡ Some l → (n : Next) → next_of l.view.role l.view ≡ n
      → fit n ≡ true → Kept xs b (due_by rest p s l b n)
  next-kept rest h l xs b log e (Append r) n f =
      h (noted l s r (due_text p s l r)) (xs ++ stored s r (due_text p s l r) ∷ []) b
      ((log-grows p).more xs (stored s r (due_text p s l r)) log (due-may xs l r e n f)) (more-slot xs l r (due_text p s l r) e)
  next-kept rest h l xs b log e (Act op) n f = answer-kept rest h l xs b op log e n (operation b op s l.view.terms).answer refl
  next-kept rest h l xs b log e Wait n f = (log, e)
  next-kept rest h l xs b log e Ended n f = (log, e)

  within-kept : (n : ℕ) → Keeps (due_within n p s)
  within-kept zero l xs b log e = (log, e)
  within-kept (suc n) l xs b log e = next-kept (due_within n p s) (within-kept n) l xs b log e (next_of l.view.role l.view) refl (next-fits l.view.role l.view)

pub due-stored : DueIsStored
unfolding due
due-stored p s l xs b log e = within-kept p s 3 l xs b log e
