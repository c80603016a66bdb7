use Rattle.std.proofs.Common.{◌≡◌, ◌≢◌, ◌≤◌, ◌<◌, ℕ, ◌==◌, false, true, length, refl, ap, subst, sym, arith, lit≤, rules}
use Rattle.std.specs.Prelude.{slice_index}
use Rattle.std.specs.Fmt.{digits}
use Rattle.base64.specs.Rfc4648.{encode_symbols}
use Rattle.satp_base.specs.Canonical.{canonical}
use Rattle.satp_base.proofs.ChainLemmas.{zero_formed}
use Rattle.satp_examples.proofs.messages.law_messages.Goals as goal

pub returns-clause-forms : goal.returns-clause-forms
returns-clause-forms c = record {
  a_proposal = ((record { low = lit≤ tt; high = lit≤ tt }, tt), zero_formed);
  a_commence = ((record { low = lit≤ tt; high = lit≤ tt }, refl), zero_formed);
  a_reject = ((record { low = lit≤ tt; high = lit≤ tt }, tt), zero_formed);
  a_recover_of_nothing = (lit≤ tt, zero_formed);
  an_update = ((lit≤ tt, refl), tt);
  no_place_0 = λ p. let bad : 1 ≤ 0 = p.low in absurd (omega (arith, bad));
  no_place_12 = λ m. let bad : 12 ≤ 11 = m.0.0.high in absurd (omega (arith, bad));
  no_length_12 = λ m. let bad : 12 ≤ 11 = m.0 in absurd (omega (arith, bad));
  no_plain_proposal = λ p. absurd cc;
  no_plain_reject = λ p. absurd cc;
  no_recover_in_a_chain = λ p. absurd cc;
  no_shorter_link = λ l. let bad : 31 ≡ 32 = l.long in absurd (omega (arith, bad));
  no_link_past_a_byte = λ l. let bad : 256 < 256 = l.bytes 0 in absurd (omega (arith, bad));
  no_third_entry = λ b. let bad : false ≡ true = b.1 in absurd cc;
  no_empty_entry = λ b. let bad : false ≡ true = b.1 in absurd cc;
  no_longer_entry = λ b. let bad : false ≡ true = b.1 in absurd cc;
  no_padding_in_an_entry = λ b. let bad : false ≡ true = b.1 in absurd cc;
}

apart : (x y : ℕ) → (x == y) ≡ false → x ≢ y
apart x y none e = let same : (x == x) ≡ false = subst (λ z. (x == z) ≡ false) (sym e) none in let yes = T-true x in absurd cc
  where
    T-true : (n : ℕ) → (n == n) ≡ true
    T-true n = search rules

pub returns-clause-texts : goal.returns-clause-texts
unfolding canonical encode_symbols digits
returns-clause-texts c = record {
  a_proposal = refl;
  a_reject = refl;
  an_update = refl;
  a_success = refl;
  no_blank_behind = λ e. apart _ _ refl (ap length e);
  not_of_another_length = λ e. apart _ _ refl (ap (λ xs. slice_index xs 47) e);
  not_the_receiver_last = λ e. apart _ _ refl (ap (λ xs. slice_index xs 50) e);
}
