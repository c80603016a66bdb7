-- What an abort gives may come, and why a recipient turns back.
use Rattle.std.proofs.Common.{◌≡◌, Bool, true, false, List, [], ◌∷◌, Option, Some, None, Ok, refl, subst, sym, ap, ◌∙◌}
use Rattle.satp_base.specs.declared.message.Kind.TheVariants.{CommitReady, Rollback}
use Rattle.satp_base.specs.declared.message.Role.TheVariants.{Recipient}
use Rattle.satp_base.specs.declared.record.Cause.{Cause}
use Rattle.satp_base.specs.declared.record.Cause.TheVariants.{Aborted, UnknownAsset, MintCapped, LedgerTaken}
use Rattle.satp_base.specs.declared.record.Way.{Way}
use Rattle.satp_base.specs.declared.record.Way.TheVariants.{Commit, Back}
use Rattle.satp_base.specs.declared.record.Rec.{Rec}
use Rattle.satp_base.specs.declared.record.Rec.TheVariants.{Began, Took, Made, Did, Chose, Rescue}
use Rattle.satp_base.specs.declared.view.View.{View}
use Rattle.satp_base.specs.Chains.{reason_of}
use Rattle.satp_base.specs.Tales.{has}
use Rattle.satp_base.specs.Views.{begin, push, view_from}
use Rattle.satp_base.specs.Roles.{AreAllowed, IsReached, IsReason, LawAborts, LawReasons, RoleRule, both, is_back, negate, no_way}
use Rattle.satp_base.specs.Roles.RoleRule.{Free}
use Rattle.satp_base.proofs.RecordLaws.{gives-abort}
use Rattle.satp_recipient.proofs.Rule.{MayCome, may-come}

-- ---- what a recipient decides

abbrev Turns : Option Way → Type 0
Turns None = Unit {0}
Turns (Some Commit) = ⊥
Turns (Some (Back cause)) = IsReason cause (reason_of (Some (Back cause)))

step : (v : View) (r : Rec) → Turns v.way → MayCome v r → Turns (push v r).way
step v (Took kind) t m = t
step v (Made kind) t m = t
step v (Did op) t m = t
step v (Chose (Back Aborted)) t m = tt
step v (Chose (Back UnknownAsset)) t m = tt
step v (Chose (Back MintCapped)) t m = tt
step v (Chose (Back LedgerTaken)) t m = tt
step v _ t m = absurd m

turns_from : (v : View) (rs : List Rec) → Turns v.way → AreAllowed Recipient v rs → Turns (view_from v rs).way
turns_from v [] t h = t
turns_from v (r ∷ rs) t h = turns_from (push v r) rs (step v r t (may-come v r h.0)) h.1

turns : (v : View) → IsReached Recipient v → Turns v.way
turns v reached = subst (λ (x : View). Turns x.way) (sym reached.view) (turns_from (begin Recipient reached.terms) reached.recs tt reached.allowed)

pub law_reasons : LawReasons
law_reasons v way reached e = why way (subst Turns e (turns v reached))
  where
    why : (w : Way) → Turns (Some w) → (cause : Cause) × (w ≡ Back cause) × IsReason cause (reason_of (Some w))
    why Commit t = absurd t
    why (Back cause) t = (cause, refl, t)

-- ---- an abort

not_ready : (ready forward : Bool) → both ready (negate forward) ≡ false → forward ≡ false → ready ≡ false
not_ready false forward h f = refl
not_ready true false h f = absurd (cc h)
not_ready true true h f = absurd (cc f)

undecided : (way : Option Way) → Turns way → is_back way ≡ false → no_way way ≡ true
undecided None t q = refl
undecided (Some Commit) t q = absurd t
undecided (Some (Back cause)) t q = absurd (cc q)

pub law_aborts : LawAborts Recipient
law_aborts v r reached e =
    let g = gives-abort Recipient v r e in
    subst (λ x. RoleRule Recipient v x) (sym g.record_is) (Free (undecided v.way (turns v reached) g.no_way_back, not_ready _ _ g.in_time g.no_rollback, g.no_rollback))
