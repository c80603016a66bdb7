use Rattle.std.proofs.Common.{◌≡◌, List, [], ◌∷◌, refl, ap, sym, ◌∙◌, lit≤}
use Rattle.satp_base.specs.Roles.{IsReached}
use Rattle.satp_base.specs.Roles.RoleRule.{Due, Answered, Free}
use Rattle.satp_base.specs.Tales.IsTale.{Onward}
use Rattle.satp_base.specs.Views.{push, view_from}
use Rattle.satp_base.specs.declared.message.Role.{Role}
use Rattle.satp_base.specs.declared.message.Role.TheVariants.{Origin, Recipient}
use Rattle.satp_base.specs.declared.record.Rec.{Rec}
use Rattle.satp_base.specs.declared.record.Rec.TheVariants.{Began, Took, Made, Did, Chose, Rescue}
use Rattle.satp_base.specs.declared.view.View.{View}
use Rattle.satp_examples.specs.Roles.{origin, up_to_the_lock}
use Rattle.satp_examples.specs.Samples.{quarter}
use Rattle.satp_examples.proofs.choices.law_choices.Goals as goal

pub returns-clause-records : goal.returns-clause-records
returns-clause-records c = record {
  done = refl;
  no_funds = refl;
  taken_at_the_origin = refl;
  taken_at_the_recipient = refl;
  capped_is_not_taken = λ e. cc e;
}

pub returns-clause-aborts : goal.returns-clause-aborts
returns-clause-aborts c = record { in_time = refl; too_late = refl; not_ready = refl; ready_is_too_late = refl; turned = refl; rolled_back = refl }

pub returns-clause-rescues : goal.returns-clause-rescues
returns-clause-rescues c = record { once = refl; not_twice = refl; not_after_a_decision = refl; not_the_recipient = refl }

-- a record changes no role
same_role : (v : View) (r : Rec) → (push v r).role ≡ v.role
same_role v (Began role terms) = refl
same_role v (Took kind) = refl
same_role v (Made kind) = refl
same_role v (Did op) = refl
same_role v (Chose way) = refl
same_role v Rescue = refl

role_from : (v : View) (rs : List Rec) → (view_from v rs).role ≡ v.role
role_from v [] = refl
role_from v (r ∷ rs) = role_from (push v r) rs ∙ same_role v r

other_role : ¬ IsReached Recipient (origin [])
other_role h = let bad : Origin ≡ Recipient = ap (λ (v : View). v.role) h.view ∙ role_from _ h.recs in cc bad

pub returns-clause-views : goal.returns-clause-views
returns-clause-views c = record {
  at_the_lock = record { terms = quarter; recs = up_to_the_lock; allowed = (Free (refl, Onward 2 (lit≤ tt)), (Due refl, (Free (refl, Onward 4 (lit≤ tt)), tt))); view = refl };
  not_of_the_other = other_role;
}

pub returns-clause-parts : goal.returns-clause-parts
returns-clause-parts c = record { plain = refl; capped = refl; aborted = refl; not_another_reason = λ e. cc e; by_its_name = tt; not_by_another = λ h. h }
