use Rattle.std.proofs.Common.{◌≡◌, ◌<◌, Bool, true, false, Option, Some, None, refl, sym, ap, arith, lit<, slice_index, ◌∙◌}
use Rattle.satp_base.specs.Roles.{RoleRule, rescues}
use Rattle.satp_base.specs.declared.message.Role.TheVariants.{Origin, Recipient}
use Rattle.satp_base.specs.declared.name.Name.{Name}
use Rattle.satp_base.specs.declared.record.Rec.TheVariants.{Rescue}
use Rattle.satp_base.specs.declared.view.View.{View}
use Rattle.satp_base.proofs.RecordLaws.{allowed-rescue}
use Rattle.satp_sides.specs.Points.{view_in}
use Rattle.satp_side_examples.specs.Samples.{alpha, alpha_1, alpha_records, beta, gamma}
use Rattle.satp_side_examples.proofs.MayCome.{by-record, case-by-case}
use Rattle.satp_side_examples.proofs.Whole.{of-alpha, of-beta, of-lock, of-mint}
use Rattle.satp_side_examples.proofs.law_journals.Goals as goal

-- names that differ in their first byte
apart : (a b : Name) → slice_index a.bytes 0 < slice_index b.bytes 0 → a ≡ b → ⊥
apart a b less e = let same : slice_index a.bytes 0 ≡ slice_index b.bytes 0 = ap (λ (n : Name). slice_index n.bytes 0) e in absurd (omega (arith, same, less))

-- the session may enter a recovery round
may_rescue : Option View → Bool
may_rescue None = false
may_rescue (Some v) = rescues v.role v

not-rescued : (o : Option View) (v : View) → o ≡ Some v → may_rescue o ≡ false → RoleRule v.role v Rescue → ⊥
unfolding may_rescue
not-rescued o v e none rule = let yes : rescues v.role v ≡ true = allowed-rescue v.role v rule in let bad : true ≡ false = sym yes ∙ sym (ap may_rescue e) ∙ none in absurd cc

pub returns-clause-cases : goal.returns-clause-cases
returns-clause-cases c = case-by-case

pub returns-clause-refused : goal.returns-clause-refused
unfolding may_rescue
returns-clause-refused c = record {
  no_room = λ p before s role terms t many h. let room = (by-record p before _ h).room in absurd (omega (arith, room, many));
  not_another_gateway = λ key before. elim [ Origin ↦ λ terms t h. apart alpha gamma (lit< tt) (sym (by-record _ before _ h).named) | Recipient ↦ λ terms t h. apart beta gamma (lit< tt) (sym (by-record _ before _ h).named) ];
  not_the_other_role = λ key before terms t h. apart alpha beta (lit< tt) (by-record _ before _ h).named;
  not_twice = λ key terms other text t h. let fresh = (by-record _ _ _ h).fresh in absurd cc;
  not_before_it_began = λ key terms text r op h. let named = (by-record _ _ _ h).0.named in absurd cc;
  not_with_a_text = λ key before b h. let none = (by-record _ before _ h).1 in absurd cc;
  not_after_the_end = λ key terms text h. let rule = (by-record _ _ _ h).0 in not-rescued (view_in alpha_1 (alpha_records terms text)) rule.view rule.named refl rule.rule;
}

pub returns-clause-whole : goal.returns-clause-whole
returns-clause-whole c = record { of_beta = of-beta; of_alpha = of-alpha; of_a_refused_lock = of-lock; of_a_refused_mint = of-mint }
