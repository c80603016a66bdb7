-- Each move of a side keeps what stands, and is a step of the deal or none.
use Rattle.std.proofs.Common.{◌≡◌, ◌≢◌, Bool, true, false, List, [], ◌∷◌, ◌++◌, Some, refl, sym, ap, subst, ◌∙◌, ◌⊎◌, inl, inr}
use Rattle.satp_base.specs.declared.message.Kind.{Kind}
use Rattle.satp_base.specs.declared.message.Role.{Role}
use Rattle.satp_base.specs.declared.message.Role.TheVariants.{Origin, Recipient}
use Rattle.satp_base.specs.declared.ledger.LedgerOp.{LedgerOp}
use Rattle.satp_base.specs.declared.ledger.LedgerOp.TheVariants.{Lock, Burn, Mint, Assign, Release}
use Rattle.satp_base.specs.declared.ledger.Entry.{Entry}
use Rattle.satp_base.specs.declared.ledger.Entry.TheVariants.{Absent, Locked, Burnt, Minted, Assigned, Released}
use Rattle.satp_base.specs.declared.ledger.Answer.{Answer}
use Rattle.satp_base.specs.declared.record.Way.TheVariants.{Back}
use Rattle.satp_base.specs.declared.record.Cause.TheVariants.{Aborted, LockRefused, UnknownAsset, MintCapped, LedgerTaken}
use Rattle.satp_base.specs.declared.record.Rec.{Rec}
use Rattle.satp_base.specs.declared.record.Rec.TheVariants.{Began, Took, Made, Did, Chose, Rescue}
use Rattle.satp_base.specs.Tales.{IsTale, maker, is_role, is_whole, other}
use Rattle.satp_base.specs.declared.view.View.{View}
use Rattle.satp_base.specs.Roles.{both, negate, no_way, next_of, After, Other}
use Rattle.satp_sides.specs.Halves.{Half, OriginStands, RecipientStands, Agrees, after_record, with_entry, can_do, entry_is}
use Rattle.satp_world.specs.Sessions.{Tied, Stands, Moves, GoesOn}
use Rattle.satp_world.specs.Sessions.Tied.{Same, Origin_ahead, Recipient_ahead}
use Rattle.satp_world.specs.Sessions.Moves.{Appends, Learns, Takes, Decides, Acts}
use Rattle.satp_base.proofs.Finite.{andthen, implies, all_of, In, andthen-left, andthen-right, implies-use, all_of-at, in_nothing}
use Rattle.satp_base.proofs.Finite.In.{here}
use Rattle.satp_base.proofs.RoleLemmas.{makes-is, is-makes}
use Rattle.satp_world.proofs.TaleSteps.{IsBegun, begun-in, extensions, kind_in, kind_in-in, extension-is, extension-in, snoc_same, snoc_longer, snoc_twice}
use Rattle.satp_world.proofs.HalfTable.{Head, deal_between, origins, recipients, recipient_test}
use Rattle.satp_world.proofs.HalfTest.{side_test, deal_with, half_ok, record_ok, learn_ok, act_ok, next_ok, not_took, decide_ok, side_ok, take_ok, pairs_ok, even_ok, ahead_by, tale_ok, deal_test}
use Rattle.satp_world.proofs.Logic.{negate-make, both-left, both-right, both-make}
use Rattle.satp_world.proofs.HalfComplete.{head_of, in_origins, in_recipients}
use Rattle.satp_world.proofs.HalfSound.{origin-test, origin-stands, recipient-test, recipient-stands}
use Rattle.satp_world.proofs.DealSteps.{goes_on, entry-is}
use Rattle.satp_sides.proofs.Records.{push-head}
use Rattle.satp_world.proofs.HalfCheck.{all_ok}

-- what stands of a side, by its role
abbrev pub Side : Role → Half → Type 0
Side Origin h = OriginStands h
Side Recipient h = RecipientStands h

abbrev pub TiedBy : Role → List Kind → List Kind → Type 0
TiedBy Origin t u = Tied t u
TiedBy Recipient t u = Tied u t

pub record Kept (role : Role) (h p new : Half) : Type 0 where
  pub side : Side role new
  pub tied : TiedBy role new.view.tale p.view.tale
  pub deal : GoesOn role (deal_with role h p) (deal_with role new p)

-- the part of it that a test shows
pub record Good (role : Role) (h p new : Half) : Type 0 where
  pub side : Side role new
  pub deal : GoesOn role (deal_with role h p) (deal_with role new p)

side-stands : (role : Role) (h : Half) → IsBegun h.view.tale → side_test role h ≡ true → Side role h
side-stands Origin h i p = origin-stands h i.tale i.begun p
side-stands Recipient h i p = recipient-stands h i.tale i.begun p

side-tale : (role : Role) (h : Half) → Side role h → IsBegun h.view.tale
side-tale Origin h s = record { tale = s.tale; begun = s.begun }
side-tale Recipient h s = record { tale = s.tale; begun = s.begun }

good-of : (role : Role) (h p new : Half) → IsBegun new.view.tale → half_ok role h p new ≡ true → Good role h p new
good-of role h p new i e =
    record {
      side = side-stands role new i (andthen-left (side_test role new) (λ _. deal_test role (deal_with role h p) (deal_with role new p)) e);
      deal = goes_on role (deal_with role h p) (deal_with role new p) (andthen-right (side_test role new) (λ _. deal_test role (deal_with role h p) (deal_with role new p)) e);
    }

-- what the table says of a pair of halves, for the side of a role
pub record Facts (role : Role) (h p : Half) : Type 0 where
  pub more : List Kind
  pub even : Bool
  pub side : Side role h
  pub tied : TiedBy role h.view.tale p.view.tale
  pub more_is : (k : Kind) → In k more → IsBegun (h.view.tale ++ k ∷ [])
  pub even_is : even ≡ true → h.view.tale ≡ p.view.tale
  pub ok : side_ok role more even h p ≡ true
  pub take : (k : Kind) → h.view.tale ++ k ∷ [] ≡ p.view.tale → maker k ≡ Some (other role) → Good role h p (after_record h (Took k))

-- the taken message
took-good : (role : Role) (more : List Kind) (even : Bool) (h p : Half) (k : Kind) → ((j : Kind) → In j more → IsBegun (h.view.tale ++ j ∷ [])) → record_ok role more even h p (Took k) ≡ true → Good role h p (after_record h (Took k))
took-good role more even h p k m e = good-of role h p (after_record h (Took k)) (m k (kind_in-in k more (andthen-left (kind_in k more) (λ _. half_ok role h p (after_record h (Took k))) e))) (andthen-right (kind_in k more) (λ _. half_ok role h p (after_record h (Took k))) e)

grown : (role : Role) (t : List Kind) (u : List Kind) (k : Kind) → t ≡ u → maker k ≡ Some role → TiedBy role (t ++ k ∷ []) u
grown Origin t u k e m = Origin_ahead k m (ap (λ v. v ++ k ∷ []) (sym e))
grown Recipient t u k e m = Recipient_ahead k m (ap (λ v. v ++ k ∷ []) (sym e))

-- a record that isn't taken
record-kept : (role : Role) (h p : Half) (f : Facts role h p) (r : Rec) → ((k : Kind) → r ≢ Took k) → record_ok role f.more f.even h p r ≡ true → Kept role h p (after_record h r)
record-kept role h p f (Took k) n e = absurd (n k refl)
record-kept role h p f (Made k) n e =
    let e1 = andthen-right f.even (λ _. andthen (is_role role (maker k)) λ _. andthen (kind_in k f.more) λ _. half_ok role h p (after_record h (Made k))) e in
    let e2 = andthen-right (is_role role (maker k)) (λ _. andthen (kind_in k f.more) λ _. half_ok role h p (after_record h (Made k))) e1 in
    let even = andthen-left f.even (λ _. andthen (is_role role (maker k)) λ _. andthen (kind_in k f.more) λ _. half_ok role h p (after_record h (Made k))) e in
    let mine = andthen-left (is_role role (maker k)) (λ _. andthen (kind_in k f.more) λ _. half_ok role h p (after_record h (Made k))) e1 in
    let g = good-of role h p (after_record h (Made k)) (f.more_is k (kind_in-in k f.more (andthen-left (kind_in k f.more) (λ _. half_ok role h p (after_record h (Made k))) e2))) (andthen-right (kind_in k f.more) (λ _. half_ok role h p (after_record h (Made k))) e2) in
    record { side = g.side; tied = grown role h.view.tale p.view.tale k (f.even_is even) (makes-is role k mine); deal = g.deal }
record-kept role h p f (Began r t) n e = let g = good-of role h p (after_record h (Began r t)) (side-tale role h f.side) e in record { side = g.side; tied = f.tied; deal = g.deal }
record-kept role h p f (Did op) n e = let g = good-of role h p (after_record h (Did op)) (side-tale role h f.side) e in record { side = g.side; tied = f.tied; deal = g.deal }
record-kept role h p f (Chose w) n e = let g = good-of role h p (after_record h (Chose w)) (side-tale role h f.side) e in record { side = g.side; tied = f.tied; deal = g.deal }
record-kept role h p f Rescue n e = let g = good-of role h p (after_record h Rescue) (side-tale role h f.side) e in record { side = g.side; tied = f.tied; deal = g.deal }

not-took : (r : Rec) → not_took r ≡ true → (k : Kind) → r ≢ Took k
not-took (Took j) h k e = absurd (cc h)
not-took (Made j) h k e = cc e
not-took (Began a b) h k e = cc e
not-took (Did a) h k e = cc e
not-took (Chose a) h k e = cc e
not-took Rescue h k e = cc e

entry-not : (e f : Entry) → e ≢ f → negate (entry_is e f) ≡ true
entry-not e f n = negate-make (entry_is e f) (go (entry_is e f) refl)
  where
    go : (b : Bool) → entry_is e f ≡ b → entry_is e f ≡ false
    go true q = absurd (n (entry-is e f q))
    go false q = q

entry-same : (e f : Entry) → e ≡ f → entry_is e f ≡ true
entry-same e f p = subst (λ v. entry_is v f ≡ true) (sym p) (self f)
  where
    self : (g : Entry) → entry_is g g ≡ true
    self = elim [ Absent ↦ refl | Locked ↦ refl | Burnt ↦ refl | Minted ↦ refl | Assigned ↦ refl | Released ↦ refl ]

as_record : (ok : Rec → Bool) (r s : Rec) → r ≡ s → not_took s ≡ true → ok s ≡ true → (ok r ≡ true) × (not_took r ≡ true)
as_record ok r s p n h = subst (λ v. (ok v ≡ true) × (not_took v ≡ true)) (sym p) (h, n)

locked-differs : (e : Entry) → e ≡ Absent → negate (entry_is e Locked) ≡ true
locked-differs e p = subst (λ v. negate (entry_is v Locked) ≡ true) (sym p) refl

lock-done : (ok : Rec → Bool) (e : Entry) → learn_ok ok Lock e ≡ true → e ≡ Locked → ok (Did Lock) ≡ true
lock-done ok e h p = implies-use _ _ (andthen-left (implies (entry_is e Locked) (ok (Did Lock))) (λ _. implies (negate (entry_is e Locked)) (ok (Chose (Back LockRefused)))) h) (entry-same e Locked p)

lock-refused : (ok : Rec → Bool) (e : Entry) → learn_ok ok Lock e ≡ true → negate (entry_is e Locked) ≡ true → ok (Chose (Back LockRefused)) ≡ true
lock-refused ok e h p = implies-use _ _ (andthen-right (implies (entry_is e Locked) (ok (Did Lock))) (λ _. implies (negate (entry_is e Locked)) (ok (Chose (Back LockRefused)))) h) p

abbrev mint_rest : (Rec → Bool) → Entry → Bool
mint_rest ok e =
    andthen (implies (entry_is e Absent) (both (ok (Chose (Back UnknownAsset))) (ok (Chose (Back MintCapped))))) λ _.
    implies (both (negate (entry_is e Absent)) (negate (entry_is e Minted))) (ok (Chose (Back LedgerTaken)))

mint-done : (ok : Rec → Bool) (e : Entry) → learn_ok ok Mint e ≡ true → e ≡ Minted → ok (Did Mint) ≡ true
mint-done ok e h p = implies-use _ _ (andthen-left (implies (entry_is e Minted) (ok (Did Mint))) (λ _. mint_rest ok e) h) (entry-same e Minted p)

mint-absent : (ok : Rec → Bool) (e : Entry) → learn_ok ok Mint e ≡ true → e ≡ Absent → both (ok (Chose (Back UnknownAsset))) (ok (Chose (Back MintCapped))) ≡ true
mint-absent ok e h p = implies-use _ _ (andthen-left (implies (entry_is e Absent) (both (ok (Chose (Back UnknownAsset))) (ok (Chose (Back MintCapped))))) (λ _. implies (both (negate (entry_is e Absent)) (negate (entry_is e Minted))) (ok (Chose (Back LedgerTaken)))) (andthen-right (implies (entry_is e Minted) (ok (Did Mint))) (λ _. mint_rest ok e) h)) (entry-same e Absent p)

mint-taken : (ok : Rec → Bool) (e : Entry) → learn_ok ok Mint e ≡ true → e ≢ Absent → e ≢ Minted → ok (Chose (Back LedgerTaken)) ≡ true
mint-taken ok e h p q = implies-use _ _ (andthen-right (implies (entry_is e Absent) (both (ok (Chose (Back UnknownAsset))) (ok (Chose (Back MintCapped))))) (λ _. implies (both (negate (entry_is e Absent)) (negate (entry_is e Minted))) (ok (Chose (Back LedgerTaken)))) (andthen-right (implies (entry_is e Minted) (ok (Did Mint))) (λ _. mint_rest ok e) h)) (both-make _ _ (entry-not e Absent p) (entry-not e Minted q))

-- the answered record, by the operation's test
learnt : (ok : Rec → Bool) (op : LedgerOp) (e : Entry) (answer : Answer) (r : Rec) → learn_ok ok op e ≡ true → Agrees op e answer e → After op answer r → (ok r ≡ true) × (not_took r ≡ true)
learnt ok Lock e Answer.Done r h a x = as_record ok r (Did Lock) x refl (lock-done ok e h a.1)
learnt ok Lock e (Answer.NoFunds free) r h a x = as_record ok r (Chose (Back LockRefused)) x refl (lock-refused ok e h (locked-differs e a.0))
learnt ok Lock e (Answer.Taken t) r h a x = as_record ok r (Chose (Back LockRefused)) x refl (lock-refused ok e h (entry-not e Locked a.1))
learnt ok Mint e Answer.Done r h a x = as_record ok r (Did Mint) x refl (mint-done ok e h a.1)
learnt ok Mint e Answer.UnknownAsset r h a x = as_record ok r (Chose (Back UnknownAsset)) x refl (both-left _ _ (mint-absent ok e h a.0))
learnt ok Mint e (Answer.Capped t) r h a x = as_record ok r (Chose (Back MintCapped)) x refl (both-right _ _ (mint-absent ok e h a.0))
learnt ok Mint e (Answer.Taken t) r h a x = as_record ok r (Chose (Back LedgerTaken)) x refl (mint-taken ok e h a.0 a.1)
learnt ok Burn e Answer.Done r h a x = as_record ok r (Did Burn) x refl (implies-use _ _ h (entry-same e Burnt a.1))
learnt ok Assign e Answer.Done r h a x = as_record ok r (Did Assign) x refl (implies-use _ _ h (entry-same e Assigned a.1))
learnt ok Release e Answer.Done r h a x = as_record ok r (Did Release) x refl (implies-use _ _ h (entry-same e Released a.1))
learnt ok _ e _ r h a x = absurd a

-- what an operation makes of the entry: what stands, or a tested change
acted : (ok : Entry → Bool) (op : LedgerOp) (e : Entry) (answer : Answer) (new : Entry) → act_ok ok op e ≡ true → Agrees op e answer new → (new ≡ e) ⊎ (ok new ≡ true)
acted ok Lock e Answer.Done new h a = inr (subst (λ v. ok v ≡ true) (sym a.1) (implies-use _ _ h a.0))
acted ok Mint e Answer.Done new h a = inr (subst (λ v. ok v ≡ true) (sym a.1) (implies-use _ _ h a.0))
acted ok Burn e Answer.Done new h a = inr (subst (λ v. ok v ≡ true) (sym a.1) (andthen-right (can_do Burn e) (λ _. ok Burnt) h))
acted ok Assign e Answer.Done new h a = inr (subst (λ v. ok v ≡ true) (sym a.1) (andthen-right (can_do Assign e) (λ _. ok Assigned) h))
acted ok Release e Answer.Done new h a = inr (subst (λ v. ok v ≡ true) (sym a.1) (andthen-right (can_do Release e) (λ _. ok Released) h))
acted ok Lock e (Answer.NoFunds free) new h a = inl a.1
acted ok Lock e (Answer.Taken t) new h a = inl a.3
acted ok Mint e Answer.UnknownAsset new h a = inl a.1
acted ok Mint e (Answer.Capped t) new h a = inl a.1
acted ok Mint e (Answer.Taken t) new h a = inl a.3
acted ok _ e _ new h a = absurd a

entry-kept : (role : Role) (h p : Half) (f : Facts role h p) (new : Entry) → (new ≡ h.entry) ⊎ (half_ok role h p (with_entry h new) ≡ true) → Kept role h p (with_entry h new)
entry-kept role h p f new (inl e) = subst (λ v. Kept role h p (with_entry h v)) (sym e) (record { side = f.side; tied = f.tied; deal = inl refl })
entry-kept role h p f new (inr e) = let g = good-of role h p (with_entry h new) (side-tale role h f.side) e in record { side = g.side; tied = f.tied; deal = g.deal }

-- the decisions beside the table
decided : (role : Role) (ok : Rec → Bool) (v : View) (r : Rec) → decide_ok role ok v ≡ true → Other role v r → ((k : Kind) → r ≢ Took k) → ok r ≡ true
decided Origin ok v (Took k) h o n = absurd (n k refl)
decided Recipient ok v (Took k) h o n = absurd (n k refl)
decided Origin ok v (Chose (Back Aborted)) h o n = implies-use _ _ (andthen-left (implies (both (no_way v.way) (negate (is_whole v.tale))) (ok (Chose (Back Aborted)))) (λ _. implies (both (no_way v.way) (both (negate v.rescue) (negate (is_whole v.tale)))) (ok Rescue)) h) (both-make _ _ o.0 (negate-make _ o.1))
decided Origin ok v Rescue h o n = implies-use _ _ (andthen-right (implies (both (no_way v.way) (negate (is_whole v.tale))) (ok (Chose (Back Aborted)))) (λ _. implies (both (no_way v.way) (both (negate v.rescue) (negate (is_whole v.tale)))) (ok Rescue)) h) (both-make _ _ o.0 (both-make _ _ (negate-make _ o.1) (negate-make _ o.2)))
decided Recipient ok v (Chose (Back Aborted)) h o n = implies-use _ _ h (both-make _ _ o.0 (both-make _ _ (negate-make _ o.1) (negate-make _ o.2)))
decided _ ok v _ h o n = absurd o

-- the law, from what the table says
pub by_facts : (role : Role) (h p : Half) (f : Facts role h p) (new : Half) → Moves role h p.view.tale new → Kept role h p new
by_facts role h p f new (Appends r e) =
    let n = subst (λ x. next_ok (record_ok role f.more f.even h p) (λ e. half_ok role h p (with_entry h e)) h.entry x ≡ true) e (andthen-left (next_ok (record_ok role f.more f.even h p) (λ e. half_ok role h p (with_entry h e)) h.entry (next_of role h.view)) (λ _. decide_ok role (record_ok role f.more f.even h p) h.view) f.ok) in
    record-kept role h p f r (not-took r (andthen-left (not_took r) (λ _. record_ok role f.more f.even h p r) n)) (andthen-right (not_took r) (λ _. record_ok role f.more f.even h p r) n)
by_facts role h p f new (Learns op answer r e a x) =
    let n = subst (λ x. next_ok (record_ok role f.more f.even h p) (λ e. half_ok role h p (with_entry h e)) h.entry x ≡ true) e (andthen-left (next_ok (record_ok role f.more f.even h p) (λ e. half_ok role h p (with_entry h e)) h.entry (next_of role h.view)) (λ _. decide_ok role (record_ok role f.more f.even h p) h.view) f.ok) in
    let l = learnt (record_ok role f.more f.even h p) op h.entry answer r (andthen-left (learn_ok (record_ok role f.more f.even h p) op h.entry) (λ _. act_ok (λ e. half_ok role h p (with_entry h e)) op h.entry) n) a x in
    record-kept role h p f r (not-took r l.1) l.0
by_facts role h p f new (Takes k e m) =
    let g = f.take k e m in record { side = g.side; tied = same role (h.view.tale ++ k ∷ []) p.view.tale e; deal = g.deal }
  where
    same : (r : Role) (t u : List Kind) → t ≡ u → TiedBy r t u
    same Origin t u q = Same q
    same Recipient t u q = Same (sym q)
by_facts role h p f new (Decides r o n) = record-kept role h p f r n (decided role (record_ok role f.more f.even h p) h.view r (andthen-right (next_ok (record_ok role f.more f.even h p) (λ e. half_ok role h p (with_entry h e)) h.entry (next_of role h.view)) (λ _. decide_ok role (record_ok role f.more f.even h p) h.view) f.ok) o n)
by_facts role h p f new (Acts op answer e x a) =
    let n = subst (λ x. next_ok (record_ok role f.more f.even h p) (λ e. half_ok role h p (with_entry h e)) h.entry x ≡ true) x (andthen-left (next_ok (record_ok role f.more f.even h p) (λ e. half_ok role h p (with_entry h e)) h.entry (next_of role h.view)) (λ _. decide_ok role (record_ok role f.more f.even h p) h.view) f.ok) in
    entry-kept role h p f e (acted (λ e. half_ok role h p (with_entry h e)) op h.entry answer e (andthen-right (learn_ok (record_ok role f.more f.even h p) op h.entry) (λ _. act_ok (λ e. half_ok role h p (with_entry h e)) op h.entry) n) a)

pub pairs-at : (f : Half → Half → Bool) (xs ys : List Half) {a b : Half} → In a xs → In b ys → pairs_ok f xs ys ≡ true → f a b ≡ true
pairs-at f xs ys {a = a} i j h = all_of-at (f a) j (all_of-at (λ x. all_of (f x) ys) i h)

tale-tested : (p q : Head) (t : List Kind) → IsBegun t → tale_ok p q t (extensions t) ≡ true
tale-tested p q t i = all_of-at (λ t. tale_ok p q t (extensions t)) (begun-in t i.tale i.begun) (all_ok p q)

pub origin-in : (a : Half) → OriginStands a → (t : List Kind) → a.view.tale ≡ t → In a (origins (head_of a) t)
origin-in a s t e = subst (λ v. In a (origins (head_of a) v)) e (in_origins a (origin-test a s))

pub recipient-in : (b : Half) → RecipientStands b → (t : List Kind) → b.view.tale ≡ t → In b (recipients (head_of b) t)
recipient-in b s t e = subst (λ v. In b (recipients (head_of b) v)) e (in_recipients b (subst (λ v. In v (false ∷ [])) (sym s.rescues_not) here) (andthen-right (negate b.view.rescue) (λ _. side_rest b) (recipient-test b s)))
  where
    side_rest : Half → Bool
    side_rest h = recipient_test h.view.tale h.view.done h.view.way h.entry

-- both tales are one
even-pair : (a b : Half) → OriginStands a → RecipientStands b → a.view.tale ≡ b.view.tale → (side_ok Origin (extensions a.view.tale) true a b ≡ true) × (side_ok Recipient (extensions a.view.tale) true b a ≡ true)
even-pair a b s r e =
    let t = a.view.tale in
    let p = head_of a in
    let q = head_of b in
    let w = pairs-at (λ a b. andthen (side_ok Origin (extensions t) true a b) λ _. side_ok Recipient (extensions t) true b a) (origins p t) (recipients q t) (origin-in a s t refl) (recipient-in b r t (sym e)) (andthen-left (even_ok p q (extensions t) t) (λ _. all_of (λ k. ahead_by p q (extensions t) t k (maker k)) (extensions t)) (tale-tested p q t (record { tale = s.tale; begun = s.begun }))) in
    (andthen-left (side_ok Origin (extensions t) true a b) (λ _. side_ok Recipient (extensions t) true b a) w, andthen-right (side_ok Origin (extensions t) true a b) (λ _. side_ok Recipient (extensions t) true b a) w)

ahead-tested : (p q : Head) (t u : List Kind) (k : Kind) → IsBegun t → IsTale u → t ++ k ∷ [] ≡ u → ahead_by p q (extensions t) t k (maker k) ≡ true
ahead-tested p q t u k i j e = all_of-at (λ k. ahead_by p q (extensions t) t k (maker k)) (extension-in t k i.tale (subst IsTale (sym e) j)) (andthen-right (even_ok p q (extensions t) t) (λ _. all_of (λ k. ahead_by p q (extensions t) t k (maker k)) (extensions t)) (tale-tested p q t i))

-- the origin is ahead by one message
origin-ahead : (a b : Half) → OriginStands a → RecipientStands b → (k : Kind) → maker k ≡ Some Origin → b.view.tale ++ k ∷ [] ≡ a.view.tale → (side_ok Origin [] false a b ≡ true) × (side_ok Recipient (extensions b.view.tale) false b a ≡ true) × (take_ok Recipient (extensions b.view.tale) k b a ≡ true)
origin-ahead a b s r k m e =
    let t = b.view.tale in
    let p = head_of a in
    let q = head_of b in
    let h = ahead-tested p q t a.view.tale k (record { tale = r.tale; begun = r.begun }) s.tale e in
    let h' = subst (λ o. ahead_by p q (extensions t) t k o ≡ true) m h in
    let w = pairs-at (λ a b. andthen (side_ok Origin [] false a b) λ _. andthen (side_ok Recipient (extensions t) false b a) λ _. take_ok Recipient (extensions t) k b a) (origins p (t ++ k ∷ [])) (recipients q t) (origin-in a s (t ++ k ∷ []) (sym e)) (recipient-in b r t refl) h' in
    let w' = andthen-right (side_ok Origin [] false a b) (λ _. andthen (side_ok Recipient (extensions t) false b a) λ _. take_ok Recipient (extensions t) k b a) w in (
      andthen-left (side_ok Origin [] false a b) (λ _. andthen (side_ok Recipient (extensions t) false b a) λ _. take_ok Recipient (extensions t) k b a) w,
      andthen-left (side_ok Recipient (extensions t) false b a) (λ _. take_ok Recipient (extensions t) k b a) w',
      andthen-right (side_ok Recipient (extensions t) false b a) (λ _. take_ok Recipient (extensions t) k b a) w',
    )

recipient-ahead : (a b : Half) → OriginStands a → RecipientStands b → (k : Kind) → maker k ≡ Some Recipient → a.view.tale ++ k ∷ [] ≡ b.view.tale → (side_ok Origin (extensions a.view.tale) false a b ≡ true) × (side_ok Recipient [] false b a ≡ true) × (take_ok Origin (extensions a.view.tale) k a b ≡ true)
recipient-ahead a b s r k m e =
    let t = a.view.tale in
    let p = head_of a in
    let q = head_of b in
    let h = ahead-tested p q t b.view.tale k (record { tale = s.tale; begun = s.begun }) r.tale e in
    let h' = subst (λ o. ahead_by p q (extensions t) t k o ≡ true) m h in
    let w = pairs-at (λ a b. andthen (side_ok Origin (extensions t) false a b) λ _. andthen (side_ok Recipient [] false b a) λ _. take_ok Origin (extensions t) k a b) (origins p t) (recipients q (t ++ k ∷ [])) (origin-in a s t refl) (recipient-in b r (t ++ k ∷ []) (sym e)) h' in
    let w' = andthen-right (side_ok Origin (extensions t) false a b) (λ _. andthen (side_ok Recipient [] false b a) λ _. take_ok Origin (extensions t) k a b) w in (
      andthen-left (side_ok Origin (extensions t) false a b) (λ _. andthen (side_ok Recipient [] false b a) λ _. take_ok Origin (extensions t) k a b) w,
      andthen-left (side_ok Recipient [] false b a) (λ _. take_ok Origin (extensions t) k a b) w',
      andthen-right (side_ok Recipient [] false b a) (λ _. take_ok Origin (extensions t) k a b) w',
    )

-- a taken message is the one by which the peer is ahead
take-good : (role : Role) (h p : Half) (k : Kind) → ((i : Kind) → In i (extensions h.view.tale) → IsBegun (h.view.tale ++ i ∷ [])) → maker k ≡ Some (other role) → h.view.tale ++ k ∷ [] ≡ p.view.tale → take_ok role (extensions h.view.tale) k h p ≡ true → (j : Kind) → h.view.tale ++ j ∷ [] ≡ p.view.tale → Good role h p (after_record h (Took j))
take-good role h p k more m e t j q =
    subst (λ v. Good role h p (after_record h (Took v))) (snoc_same h.view.tale p.view.tale k j e q)
    (took-good role (extensions h.view.tale) false h p k more (implies-use _ _ t (is-makes (other role) k m)))

pub origin-facts : (a b : Half) → OriginStands a → RecipientStands b → Tied a.view.tale b.view.tale → Facts Origin a b
origin-facts a b s r (Same e) =
    record { more = extensions a.view.tale; even = true; side = s; tied = Same e; more_is = λ k. extension-is a.view.tale k (record { tale = s.tale; begun = s.begun }); even_is = λ _. e; ok = (even-pair a b s r e).0; take = λ k q m. absurd (snoc_longer a.view.tale k (q ∙ sym e)) }
origin-facts a b s r (Origin_ahead k m e) =
    record { more = []; even = false; side = s; tied = Origin_ahead k m e; more_is = λ k i. absurd (in_nothing i); even_is = λ h. absurd (cc h); ok = (origin-ahead a b s r k m e).0; take = λ j q n. absurd (snoc_twice b.view.tale a.view.tale k j e q) }
origin-facts a b s r (Recipient_ahead k m e) =
    record { more = extensions a.view.tale; even = false; side = s; tied = Recipient_ahead k m e; more_is = λ k. extension-is a.view.tale k (record { tale = s.tale; begun = s.begun }); even_is = λ h. absurd (cc h); ok = (recipient-ahead a b s r k m e).0; take = λ j q n. take-good Origin a b k (λ i. extension-is a.view.tale i (record { tale = s.tale; begun = s.begun })) m e (recipient-ahead a b s r k m e).2 j q }

pub recipient-facts : (a b : Half) → OriginStands a → RecipientStands b → Tied a.view.tale b.view.tale → Facts Recipient b a
recipient-facts a b s r (Same e) =
    record { more = extensions a.view.tale; even = true; side = r; tied = Same e; more_is = λ k i. subst (λ v. IsBegun (v ++ k ∷ [])) e (extension-is a.view.tale k (record { tale = s.tale; begun = s.begun }) i); even_is = λ _. sym e; ok = (even-pair a b s r e).1; take = λ k q m. absurd (snoc_longer b.view.tale k (q ∙ e)) }
recipient-facts a b s r (Origin_ahead k m e) =
    record { more = extensions b.view.tale; even = false; side = r; tied = Origin_ahead k m e; more_is = λ k. extension-is b.view.tale k (record { tale = r.tale; begun = r.begun }); even_is = λ h. absurd (cc h); ok = (origin-ahead a b s r k m e).1; take = λ j q n. take-good Recipient b a k (λ i. extension-is b.view.tale i (record { tale = r.tale; begun = r.begun })) m e (origin-ahead a b s r k m e).2 j q }
recipient-facts a b s r (Recipient_ahead k m e) =
    record { more = []; even = false; side = r; tied = Recipient_ahead k m e; more_is = λ k i. absurd (in_nothing i); even_is = λ h. absurd (cc h); ok = (recipient-ahead a b s r k m e).1; take = λ j q n. absurd (snoc_twice a.view.tale b.view.tale k j e q) }

-- ---- a move keeps whose view it is, and its terms

pub same-head : (role : Role) (h : Half) (peer : List Kind) (new : Half) → Moves role h peer new → (new.view.role ≡ h.view.role) × (new.view.terms ≡ h.view.terms)
same-head role h peer new (Appends r e) = push-head h.view r
same-head role h peer new (Learns op answer r e a x) = push-head h.view r
same-head role h peer new (Takes k e m) = push-head h.view (Took k)
same-head role h peer new (Decides r o n) = push-head h.view r
same-head role h peer new (Acts op answer e x a) = (refl, refl)

pub origin-law : (a b new : Half) → Stands a b → Moves Origin a b.view.tale new → Stands new b × GoesOn Origin (deal_between a b) (deal_between new b)
origin-law a b new s m =
    let k = by_facts Origin a b (origin-facts a b s.origin s.recipient s.tied) new m in
    let p = same-head Origin a b.view.tale new m in
    (record { origin = k.side; recipient = s.recipient; tied = k.tied; roles = (p.0 ∙ s.roles.0, s.roles.1); terms = p.1 ∙ s.terms }, k.deal)

pub recipient-law : (a b new : Half) → Stands a b → Moves Recipient b a.view.tale new → Stands a new × GoesOn Recipient (deal_between a b) (deal_between a new)
recipient-law a b new s m =
    let k = by_facts Recipient b a (recipient-facts a b s.origin s.recipient s.tied) new m in
    let p = same-head Recipient b a.view.tale new m in
    (record { origin = s.origin; recipient = k.side; tied = k.tied; roles = (s.roles.0, p.0 ∙ s.roles.1); terms = s.terms ∙ sym p.1 }, k.deal)
