-- The test of a pair of halves: each move of each side keeps what stands, and is a step of the deal or none.
use Rattle.std.proofs.Common.{ℕ, Bool, true, false, List, [], ◌∷◌, ◌++◌, Option, Some, None, ◌==◌}
use Rattle.satp_base.specs.declared.message.Kind.{Kind}
use Rattle.satp_base.specs.declared.message.Kind.TheVariants.{CommitReady, Rollback}
use Rattle.satp_base.specs.declared.message.Role.{Role}
use Rattle.satp_base.specs.declared.message.Role.TheVariants.{Origin, Recipient}
use Rattle.satp_base.specs.declared.ledger.LedgerOp.{LedgerOp}
use Rattle.satp_base.specs.declared.ledger.LedgerOp.TheVariants.{Lock, Burn, Mint, Assign, Release}
use Rattle.satp_base.specs.declared.record.Way.TheVariants.{Back}
use Rattle.satp_base.specs.declared.record.Cause.TheVariants.{Aborted, LockRefused, UnknownAsset, MintCapped, LedgerTaken}
use Rattle.satp_base.specs.declared.ledger.Entry.{Entry}
use Rattle.satp_base.specs.declared.ledger.Entry.TheVariants.{Absent, Locked, Burnt, Minted, Assigned, Released}
use Rattle.satp_base.specs.declared.record.Rec.{Rec}
use Rattle.satp_base.specs.declared.record.Rec.TheVariants.{Began, Took, Made, Did, Chose, Rescue}
use Rattle.satp_base.specs.declared.record.Next.{Next}
use Rattle.satp_base.specs.declared.record.Next.TheVariants.{Append, Act, Wait, Ended}
use Rattle.satp_base.specs.Tales.{has, maker, is_role, is_whole, other}
use Rattle.satp_base.specs.declared.view.View.{View}
use Rattle.satp_base.specs.Roles.{both, either, negate, no_way, next_of}
use Rattle.satp_sides.specs.Halves.{Half, after_record, with_entry, can_do, entry_is}
use Rattle.satp_world.specs.Deal.{Deal, Decision}
use Rattle.satp_base.proofs.Finite.{andthen, orelse, implies, same_bool, all_of}
use Rattle.satp_base.proofs.TaleTable.{begun_tales}
use Rattle.satp_world.proofs.TaleSteps.{extensions, kind_in}
use Rattle.satp_world.proofs.HalfTable.{Head, deal_between, origins, recipients, origin_test, recipient_test}

abbrev pub decision_code : Decision → ℕ
decision_code Decision.Open = 0
decision_code Decision.Commit = 1
decision_code Decision.Back = 2

abbrev pub decision_is : Decision → Decision → Bool
decision_is v w = decision_code v == decision_code w

abbrev pub deal_eq : Deal → Deal → Bool
deal_eq d c = andthen (entry_is d.a c.a) λ _. andthen (entry_is d.b c.b) λ _. andthen (decision_is d.v c.v) λ _. same_bool d.ready c.ready

-- the deal moves by a step of the role, or not at all
abbrev pub steps : Role → Deal → Deal → List (Unit {0} → Bool)
steps Origin d c =
    (λ _. andthen (deal_eq c (record d { a = Locked })) λ _. andthen (entry_is d.a Absent) λ _. negate (decision_is d.v Decision.Commit))
    ∷ (λ _. andthen (deal_eq c (record d { v = Decision.Commit })) λ _. andthen (decision_is d.v Decision.Open) λ _. andthen d.ready λ _. entry_is d.a Locked)
    ∷ (λ _. andthen (deal_eq c (record d { v = Decision.Back })) λ _. decision_is d.v Decision.Open)
    ∷ (λ _. andthen (deal_eq c (record d { a = Burnt })) λ _. andthen (decision_is d.v Decision.Commit) λ _. entry_is d.a Locked)
    ∷ (λ _. andthen (deal_eq c (record d { a = Released })) λ _. andthen (decision_is d.v Decision.Back) λ _. either (entry_is d.a Absent) (entry_is d.a Locked))
    ∷ []
steps Recipient d c =
    (λ _. andthen (deal_eq c (record d { b = Minted })) λ _. andthen (either (entry_is d.a Locked) (entry_is d.a Released)) λ _. entry_is d.b Absent)
    ∷ (λ _. andthen (deal_eq c (record d { ready = true })) λ _. entry_is d.b Minted)
    ∷ (λ _. andthen (deal_eq c (record d { v = Decision.Back })) λ _. andthen (decision_is d.v Decision.Open) λ _. negate d.ready)
    ∷ (λ _. andthen (deal_eq c (record d { b = Assigned })) λ _. andthen (entry_is d.a Burnt) λ _. entry_is d.b Minted)
    ∷ (λ _. andthen (deal_eq c (record d { b = Released })) λ _. andthen (decision_is d.v Decision.Back) λ _. either (entry_is d.b Absent) (entry_is d.b Minted))
    ∷ []

abbrev pub some_of : List (Unit {0} → Bool) → Bool
some_of [] = false
some_of (f ∷ fs) = orelse (f tt) (λ _. some_of fs)

abbrev pub deal_test : Role → Deal → Deal → Bool
deal_test role d c = orelse (deal_eq c d) (λ _. some_of (steps role d c))

-- the parts of a side, and the deal as the side and its peer make it
abbrev pub side_test : Role → Half → Bool
side_test Origin h = origin_test h.view.tale h.view.done h.view.way h.entry
side_test Recipient h = andthen (negate h.view.rescue) λ _. recipient_test h.view.tale h.view.done h.view.way h.entry

abbrev pub deal_with : Role → Half → Half → Deal
deal_with Origin h p = deal_between h p
deal_with Recipient h p = deal_between p h

abbrev pub half_ok : Role → Half → Half → Half → Bool
half_ok role h p new = andthen (side_test role new) λ _. deal_test role (deal_with role h p) (deal_with role new p)

-- a record keeps what stands; `more` are the kinds by which the tale goes on, and `even` says that both tales are one
abbrev pub record_ok : Role → List Kind → Bool → Half → Half → Rec → Bool
record_ok role more even h p (Began r terms) = half_ok role h p (after_record h (Began r terms))
record_ok role more even h p (Took k) = andthen (kind_in k more) λ _. half_ok role h p (after_record h (Took k))
record_ok role more even h p (Made k) = andthen even λ _. andthen (is_role role (maker k)) λ _. andthen (kind_in k more) λ _. half_ok role h p (after_record h (Made k))
record_ok role more even h p (Did op) = half_ok role h p (after_record h (Did op))
record_ok role more even h p (Chose way) = half_ok role h p (after_record h (Chose way))
record_ok role more even h p Rescue = half_ok role h p (after_record h Rescue)

abbrev pub learn_ok : (Rec → Bool) → LedgerOp → Entry → Bool
learn_ok ok Lock e = andthen (implies (entry_is e Locked) (ok (Did Lock))) λ _. implies (negate (entry_is e Locked)) (ok (Chose (Back LockRefused)))
learn_ok ok Mint e =
    andthen (implies (entry_is e Minted) (ok (Did Mint))) λ _.
    andthen (implies (entry_is e Absent) (both (ok (Chose (Back UnknownAsset))) (ok (Chose (Back MintCapped))))) λ _.
    implies (both (negate (entry_is e Absent)) (negate (entry_is e Minted))) (ok (Chose (Back LedgerTaken)))
learn_ok ok Burn e = implies (entry_is e Burnt) (ok (Did Burn))
learn_ok ok Assign e = implies (entry_is e Assigned) (ok (Did Assign))
learn_ok ok Release e = implies (entry_is e Released) (ok (Did Release))

-- the operation is answered, and what it makes of the entry keeps what stands
abbrev pub act_ok : (Entry → Bool) → LedgerOp → Entry → Bool
act_ok ok Lock e = implies (can_do Lock e) (ok Locked)
act_ok ok Mint e = implies (can_do Mint e) (ok Minted)
act_ok ok Burn e = andthen (can_do Burn e) λ _. ok Burnt
act_ok ok Assign e = andthen (can_do Assign e) λ _. ok Assigned
act_ok ok Release e = andthen (can_do Release e) λ _. ok Released

abbrev pub not_took : Rec → Bool
not_took (Took k) = false
not_took _ = true

abbrev pub next_ok : (Rec → Bool) → (Entry → Bool) → Entry → Next → Bool
next_ok rec_ok entry_ok e (Append r) = andthen (not_took r) λ _. rec_ok r
next_ok rec_ok entry_ok e (Act op) = andthen (learn_ok rec_ok op e) λ _. act_ok entry_ok op e
next_ok rec_ok entry_ok e Wait = true
next_ok rec_ok entry_ok e Ended = true

abbrev pub decide_ok : Role → (Rec → Bool) → View → Bool
decide_ok Origin ok v =
    andthen (implies (both (no_way v.way) (negate (is_whole v.tale))) (ok (Chose (Back Aborted)))) λ _.
    implies (both (no_way v.way) (both (negate v.rescue) (negate (is_whole v.tale)))) (ok Rescue)
decide_ok Recipient ok v =
    implies (both (no_way v.way) (both (negate (has CommitReady v.tale)) (negate (has Rollback v.tale)))) (ok (Chose (Back Aborted)))

abbrev pub side_ok : Role → List Kind → Bool → Half → Half → Bool
side_ok role more even h p =
    andthen (next_ok (record_ok role more even h p) (λ e. half_ok role h p (with_entry h e)) h.entry (next_of role h.view)) λ _.
    decide_ok role (record_ok role more even h p) h.view

-- the message that the peer has made, taken
abbrev pub take_ok : Role → List Kind → Kind → Half → Half → Bool
take_ok role more k h p = implies (is_role (other role) (maker k)) (record_ok role more false h p (Took k))

abbrev pub pairs_ok : (Half → Half → Bool) → List Half → List Half → Bool
pairs_ok f xs ys = all_of (λ x. all_of (f x) ys) xs

-- both tales are t
abbrev pub even_ok : Head → Head → List Kind → List Kind → Bool
even_ok p q more t = pairs_ok (λ a b. andthen (side_ok Origin more true a b) λ _. side_ok Recipient more true b a) (origins p t) (recipients q t)

-- one side is ahead by the kind k
abbrev pub ahead_by : Head → Head → List Kind → List Kind → Kind → Option Role → Bool
ahead_by p q more t k None = true
ahead_by p q more t k (Some Origin) = pairs_ok (λ a b. andthen (side_ok Origin [] false a b) λ _. andthen (side_ok Recipient more false b a) λ _. take_ok Recipient more k b a) (origins p (◌++◌ t (k ∷ []))) (recipients q t)
ahead_by p q more t k (Some Recipient) = pairs_ok (λ a b. andthen (side_ok Origin more false a b) λ _. andthen (side_ok Recipient [] false b a) λ _. take_ok Origin more k a b) (origins p t) (recipients q (◌++◌ t (k ∷ [])))

abbrev pub tale_ok : Head → Head → List Kind → List Kind → Bool
tale_ok p q t more = andthen (even_ok p q more t) λ _. all_of (λ k. ahead_by p q more t k (maker k)) more

abbrev pub tales_ok : Head → Head → Bool
tales_ok p q = all_of (λ t. tale_ok p q t (extensions t)) begun_tales
