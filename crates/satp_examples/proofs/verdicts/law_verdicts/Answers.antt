use Rattle.std.proofs.Common.{◌≡◌, ℕ, refl, ap, lit≤}
use Rattle.satp_base.specs.Verdicts.{extends}
use Rattle.satp_base.specs.declared.name.Name.{Name}
use Rattle.satp_base.specs.declared.session.SessionId.{SessionId}
use Rattle.satp_examples.proofs.verdicts.law_verdicts.Goals as goal

pub returns-clause-verdicts : goal.returns-clause-verdicts
unfolding extends
returns-clause-verdicts c = record {
  next = λ text. refl;
  again = refl;
  another = refl;
  too_far = λ text. refl;
  from_the_other = λ text. refl;
  after_another = λ text. refl;
  of_another_kind = λ text. refl;
}

pub returns-clause-next : goal.returns-clause-next
unfolding extends
returns-clause-next c = record {
  of_the_session = record { body = tt; formed = (record { low = lit≤ tt; high = lit≤ tt }, tt); session = refl };
  not_of_another = λ h. let bad : 1 ≡ 2 = ap (λ (s : SessionId). s.number) h.session in cc bad;
  not_without_terms = λ h. cc h.formed.1;
  the_proposal = λ text. record { of_session = record { body = tt; formed = (record { low = lit≤ tt; high = lit≤ tt }, tt); session = refl }; next = refl; receiver = refl };
  not_for_itself = λ text h. let bad : 5 ≡ 4 = ap (λ (n : Name). n.count) h.receiver in cc bad;
}
