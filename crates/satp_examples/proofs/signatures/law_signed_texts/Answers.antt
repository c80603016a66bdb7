use Rattle.std.proofs.Common.{◌≡◌, [], ◌∷◌, length, refl, ap, arith, lit≤}
use Rattle.base64.specs.Rfc4648.{encode_symbols}
use Rattle.satp_base.specs.Chains.{texts_from}
use Rattle.satp_base.specs.Signatures.{encoded, jws, own}
use Rattle.satp_base.specs.Tales.IsTale.{Onward}
use Rattle.satp_base.specs.declared.message.Kind.TheVariants.{TransferProposal, TransferCommence}
use Rattle.satp_base.proofs.TaleTable.{extends-by}
use Rattle.satp_examples.proofs.signatures.law_signed_texts.Goals as goal

pub returns-clause-signatures : goal.returns-clause-signatures
unfolding encoded jws own encode_symbols
returns-clause-signatures c = record {
  one_byte = refl;
  other_alphabet = refl;
  header = refl;
  parts = λ key header payload. refl;
  own_text = λ key m. refl;
  block_of_32 = refl;
  key_of_64 = refl;
  key_of_65 = refl;
}

pub returns-clause-chains : goal.returns-clause-chains
unfolding texts_from
returns-clause-chains c = record {
  two = λ key. refl;
  none = λ key. record { tale = Onward 0 (lit≤ tt); formed = tt; each = refl };
  of_two = λ key. record { tale = Onward 2 (lit≤ tt); formed = (tt, (refl, tt)); each = refl };
  head = λ key. refl;
  head_of_none = refl;
  not_without_the_last = λ key h. let bad : 1 ≡ 2 = ap length h.each in absurd (omega (arith, bad));
  not_with_another = λ key text h. let bad : 2 ≡ 1 = ap length h.each in absurd (omega (arith, bad));
  not_past_a_kind = λ key texts h. let yes = extends-by (TransferProposal ∷ []) TransferCommence (Onward 1 (lit≤ tt)) h.tale in absurd cc;
  not_without_terms = λ key texts h. let bad = h.formed.0 in absurd cc;
  first_is_the_origins = refl;
  second_is_the_recipients = refl;
}
