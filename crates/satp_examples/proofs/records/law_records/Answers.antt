use Rattle.std.proofs.Common.{◌≡◌, ◌≢◌, ◌≤◌, false, true, refl, ap, arith, lit≤}
use Rattle.satp_base.specs.declared.name.Name.{Name}
use Rattle.satp_records.specs.Reading.{part_at}
use Rattle.satp_examples.specs.Samples.{alpha, beta}
use Rattle.satp_examples.proofs.records.law_records.Goals as goal

other_name : alpha ≢ beta
other_name e = let bad : 5 ≡ 4 = ap (λ (n : Name). n.count) e in absurd (omega (arith, bad))

pub returns-clause-formed : goal.returns-clause-formed
returns-clause-formed c = record {
  a_setup = (lit≤ tt, lit≤ tt, other_name);
  not_its_own_peer = λ f. f.2 refl;
  no_key_of_31 = λ f. let bad : 32 ≤ 31 = f.0 in absurd (omega (arith, bad));
  no_key_of_65 = λ f. let bad : 65 ≤ 64 = f.1 in absurd (omega (arith, bad));
  a_message = (refl, (lit≤ tt, lit≤ tt));
  no_proposal_taken = λ f. let bad : false ≡ true = f.0 in absurd cc;
  no_recovery_made = λ f. let bad : false ≡ true = f.0 in absurd cc;
  no_message_without_text = λ f. let bad : 1 ≤ 0 = f.1.0 in absurd (omega (arith, bad));
  no_longer_text = λ f. let bad : 2049 ≤ 2048 = f.1.1 in absurd (omega (arith, bad));
  a_rescue = refl;
  no_text_of_a_rescue = λ e. absurd cc;
  no_cap_of_0 = λ f. let bad : 1 ≤ 0 = f.0 in absurd (omega (arith, bad));
}

pub returns-clause-read : goal.returns-clause-read
unfolding part_at
returns-clause-read c = record {
  a_rescue = refl;
  no_byte = refl;
  a_byte_less = refl;
  a_byte_more = refl;
  no_such_kind = refl;
  no_session_0 = refl;
  no_name = refl;
  no_length_0 = refl;
  proposal_taken = refl;
}
