-- What an abort gives may come.
use Rattle.std.proofs.Common.{◌≡◌, Bool, true, false, List, Option, Some, None, Ok, refl, subst, sym, ap, ◌∙◌}
use Rattle.satp_base.specs.declared.message.Kind.TheVariants.{CommitFinal, Rollback}
use Rattle.satp_base.specs.declared.message.Role.TheVariants.{Origin}
use Rattle.satp_base.specs.declared.record.Cause.TheVariants.{Aborted}
use Rattle.satp_base.specs.declared.record.Way.{Way}
use Rattle.satp_base.specs.declared.record.Way.TheVariants.{Commit, Back}
use Rattle.satp_base.specs.declared.record.Rec.{Rec}
use Rattle.satp_base.specs.declared.record.Rec.TheVariants.{Chose}
use Rattle.satp_base.specs.declared.view.View.{View}
use Rattle.satp_base.specs.Tales.{has, is_whole}
use Rattle.satp_base.specs.Views.{begin}
use Rattle.satp_base.specs.Roles.{LawAborts, RoleRule, either, is_back, is_commit, no_way}
use Rattle.satp_base.specs.Roles.RoleRule.{Free}
use Rattle.satp_base.proofs.RecordLaws.{gives-abort}
use Rattle.satp_base.proofs.Finite.{all_of, all_of-at, implies, implies-use}
use Rattle.satp_base.proofs.TaleTable.{tale-in, tales}
use Rattle.satp_origin.proofs.Tales.{Keeps, begins, keeps_from}

undecided : (way : Option Way) → is_commit way ≡ false → is_back way ≡ false → no_way way ≡ true
undecided None p q = refl
undecided (Some Commit) p q = absurd (cc p)
undecided (Some (Back cause)) p q = absurd (cc q)

whole_test : all_of (λ t. implies (is_whole t) (either (has CommitFinal t) (has Rollback t))) tales ≡ true
whole_test = refl

not_whole : (v : View) → Keeps v → is_commit v.way ≡ false → has Rollback v.tale ≡ false → is_whole v.tale ≡ false
not_whole v k undecided forward = by_test (is_whole v.tale) refl
  where
    by_final : (f : Bool) → has CommitFinal v.tale ≡ f → either f (has Rollback v.tale) ≡ true → ⊥
    by_final true e h = cc (k.final e, undecided)
    by_final false e h = cc (h, forward)

    by_test : (b : Bool) → is_whole v.tale ≡ b → b ≡ false
    by_test false e = refl
    by_test true e = absurd (by_final (has CommitFinal v.tale) refl (implies-use _ _ (all_of-at (λ t. implies (is_whole t) (either (has CommitFinal t) (has Rollback t))) (tale-in v.tale k.tale) whole_test) e))

pub law_aborts : LawAborts Origin
law_aborts v r reached e =
    let k = subst Keeps (sym reached.view) (keeps_from (begin Origin reached.terms) reached.recs (begins reached.terms) reached.allowed) in
    let g = gives-abort Origin v r e in
    subst (λ x. RoleRule Origin v x) (sym g.record_is) (Free (undecided v.way g.in_time g.no_way_back, not_whole v k g.in_time g.no_rollback))
