-- The record that an abort gives may come.
use Rattle.std.proofs.Common.{◌≡◌, Bool, true, false, List, [], ◌∷◌, Option, Some, None, Ok, refl, subst, sym}
use Rattle.satp_base.specs.declared.message.Kind.TheVariants.{CommitFinal, Rollback}
use Rattle.satp_base.specs.declared.message.Role.{Role}
use Rattle.satp_base.specs.declared.message.Role.TheVariants.{Origin, Recipient}
use Rattle.satp_base.specs.declared.record.Cause.TheVariants.{Aborted, UnknownAsset, MintCapped, LedgerTaken}
use Rattle.satp_base.specs.declared.record.Way.{Way}
use Rattle.satp_base.specs.declared.record.Way.TheVariants.{Commit, Back}
use Rattle.satp_base.specs.declared.record.Rec.{Rec}
use Rattle.satp_base.specs.declared.record.Rec.TheVariants.{Took, Made, Did, Chose}
use Rattle.satp_base.specs.declared.view.View.{View}
use Rattle.satp_base.specs.Tales.{has, is_whole}
use Rattle.satp_base.specs.Views.{begin, push, view_from}
use Rattle.satp_base.specs.Roles.{AreAllowed, IsReached, RoleRule, abort_of, both, either, is_back, is_commit, negate, no_way}
use Rattle.satp_base.specs.Roles.RoleRule.{Free}
use Rattle.satp_base.proofs.RecordLaws.{gives-abort}
use Rattle.satp_base.proofs.Finite.{all_of, all_of-at, implies, implies-use}
use Rattle.satp_base.proofs.TaleTable.{tale-in, tales}
use Rattle.satp_origin.proofs.Tales.{Keeps, begins, keeps_from}
use Rattle.satp_recipient.proofs.Rule.{MayCome, may-come}

-- ---- an origin

undecided : (way : Option Way) → is_commit way ≡ false → is_back way ≡ false → no_way way ≡ true
undecided None p q = refl
undecided (Some Commit) p q = absurd (cc p)
undecided (Some (Back cause)) p q = absurd (cc q)

whole-test : all_of (λ t. implies (is_whole t) (either (has CommitFinal t) (has Rollback t))) tales ≡ true
whole-test = refl

not-whole : (v : View) → Keeps v → is_commit v.way ≡ false → has Rollback v.tale ≡ false → is_whole v.tale ≡ false
not-whole v k free forward = by_test (is_whole v.tale) refl
  where
    by_final : (f : Bool) → has CommitFinal v.tale ≡ f → either f (has Rollback v.tale) ≡ true → ⊥
    by_final true e h = cc (k.final e, free)
    by_final false e h = cc (h, forward)

    by_test : (b : Bool) → is_whole v.tale ≡ b → b ≡ false
    by_test false e = refl
    by_test true e = absurd (by_final (has CommitFinal v.tale) refl (implies-use _ _ (all_of-at (λ t. implies (is_whole t) (either (has CommitFinal t) (has Rollback t))) (tale-in v.tale k.tale) whole-test) e))

origin-aborts : (v : View) (r : Rec) → IsReached Origin v → abort_of Origin v ≡ Ok (Some r) → RoleRule Origin v (Chose (Back Aborted))
origin-aborts v r reached e =
    let k = subst Keeps (sym reached.view) (keeps_from (begin Origin reached.terms) reached.recs (begins reached.terms) reached.allowed) in
    let g = gives-abort Origin v r e in
    Free (undecided v.way g.in_time g.no_way_back, not-whole v k g.in_time g.no_rollback)

-- ---- a recipient, which decides nothing but to turn back

commits-not : (v : View) (r : Rec) → is_commit v.way ≡ false → MayCome v r → is_commit (push v r).way ≡ false
commits-not v (Took kind) h m = h
commits-not v (Made kind) h m = h
commits-not v (Did op) h m = h
commits-not v (Chose (Back Aborted)) h m = refl
commits-not v (Chose (Back UnknownAsset)) h m = refl
commits-not v (Chose (Back MintCapped)) h m = refl
commits-not v (Chose (Back LedgerTaken)) h m = refl
commits-not v _ h m = absurd m

never-commits : (v : View) (rs : List Rec) → is_commit v.way ≡ false → AreAllowed Recipient v rs → is_commit (view_from v rs).way ≡ false
never-commits v [] h a = h
never-commits v (r ∷ rs) h a = never-commits (push v r) rs (commits-not v r h (may-come v r a.0)) a.1

not-ready : (ready forward : Bool) → both ready (negate forward) ≡ false → forward ≡ false → ready ≡ false
not-ready false forward h f = refl
not-ready true false h f = absurd (cc h)
not-ready true true h f = absurd (cc f)

recipient-aborts : (v : View) (r : Rec) → IsReached Recipient v → abort_of Recipient v ≡ Ok (Some r) → RoleRule Recipient v (Chose (Back Aborted))
recipient-aborts v r reached e =
    let g = gives-abort Recipient v r e in
    let free = subst (λ (x : View). is_commit x.way ≡ false) (sym reached.view) (never-commits (begin Recipient reached.terms) reached.recs refl reached.allowed) in
    Free (undecided v.way free g.no_way_back, not-ready _ _ g.in_time g.no_rollback, g.no_rollback)

-- the record is the decision to turn back, and the rule allows it
pub abort-may : (role : Role) (v : View) (r : Rec) → IsReached role v → abort_of role v ≡ Ok (Some r) → RoleRule role v (Chose (Back Aborted)) × (r ≡ Chose (Back Aborted))
abort-may Origin v r reached e = (origin-aborts v r reached e, (gives-abort Origin v r e).record_is)
abort-may Recipient v r reached e = (recipient-aborts v r reached e, (gives-abort Recipient v r e).record_is)
