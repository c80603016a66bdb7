use Rattle.std.proofs.Common.{◌≡◌, false, true, refl}
use Rattle.std.specs.Fmt.{digits}
use Rattle.std.specs.Prelude.{codes}
use Rattle.satp_base.specs.Values.{IsSessionText}
use Rattle.satp_base.specs.declared.fault.SessionFault.TheVariants as session
use Rattle.satp_base.proofs.Exact.{no_session}
use Rattle.satp_examples.proofs.values.law_values.Goals as goal

pub returns-clause-texts : goal.returns-clause-texts
unfolding digits
returns-clause-texts c = record {
  a_name = refl;
  an_amount = refl;
  a_session = refl;
  an_address = refl;
}

no_stop : IsSessionText (codes "alpha1") → ⊥
no_stop s = let bad : false ≡ true = no_session (codes "alpha1") session.NoStop refl s in absurd cc

number_0 : IsSessionText (codes "alpha.0") → ⊥
number_0 s = let bad : false ≡ true = no_session (codes "alpha.0") session.Number refl s in absurd cc

pub returns-clause-forms : goal.returns-clause-forms
returns-clause-forms c = record {
  a_name = refl;
  of_32_bytes = refl;
  not_of_33 = refl;
  not_of_none = refl;
  no_capital = refl;
  no_full_stop = refl;
  an_address = refl;
  with_a_capital = refl;
  of_64_bytes = refl;
  not_of_65 = refl;
  no_slash = refl;
  no_underscore = refl;
  most = refl;
  not_one_more = refl;
  not_nothing = refl;
  no_leading_zero = refl;
  no_sign = refl;
  greatest = refl;
  not_a_greater_one = refl;
  a_session = record { gateway = codes "alpha"; number = codes "1"; joined = refl; name = refl; decimal = refl };
  not_without_the_stop = no_stop;
  not_of_number_0 = number_0;
}
