-- Names, addresses, numbers and sessions as texts, and the first fault of texts that are none.
use Rattle.std.proofs.Common.{lit≤}
use Rattle.std.specs.Prelude.{◌≡◌, codes, replicate, Some, None, true, false}
use Rattle.satp_base.specs.Faults.{address_fault, amount_fault, name_fault, session_fault}
use Rattle.satp_base.specs.Names.{is_address, is_name}
use Rattle.satp_base.specs.Numbers.{greatest_number, is_amount, is_number}
use Rattle.satp_base.specs.Values.{IsSessionText, address_text, amount_text, name_text, session_text}
use Rattle.satp_base.specs.declared.fault.AmountFault.TheVariants as amount
use Rattle.satp_base.specs.declared.fault.NameFault.TheVariants as name
use Rattle.satp_base.specs.declared.fault.SessionFault.TheVariants as session
use Rattle.satp_examples.specs.Records.{at_b}
use Rattle.satp_examples.specs.Samples.{alpha, alpha_1, units}

pub record TextsOfValues : Type 0 where
  pub a_name : name_text alpha ≡ codes "alpha"
  pub an_amount : amount_text (units 250 (lit≤ tt) (lit≤ tt)) ≡ codes "250"
  pub a_session : session_text alpha_1 ≡ codes "alpha.1"
  pub an_address : address_text at_b ≡ codes "b:1"

pub record FormsOfTexts : Type 0 where
  pub a_name : is_name (codes "a-9") ≡ true
  pub of_32_bytes : is_name (replicate 32 97) ≡ true
  pub not_of_33 : is_name (replicate 33 97) ≡ false
  pub not_of_none : is_name (codes "") ≡ false
  pub no_capital : is_name (codes "A-9") ≡ false
  pub no_full_stop : is_name (codes "a.9") ≡ false
  pub an_address : is_address (codes "[::1]:80") ≡ true
  pub with_a_capital : is_address (codes "Host.example:80") ≡ true
  pub of_64_bytes : is_address (replicate 64 97) ≡ true
  pub not_of_65 : is_address (replicate 65 97) ≡ false
  pub no_slash : is_address (codes "b/1") ≡ false
  pub no_underscore : is_address (codes "b_1") ≡ false
  pub most : is_amount (codes "9007199254740991") ≡ true
  pub not_one_more : is_amount (codes "9007199254740992") ≡ false
  pub not_nothing : is_amount (codes "0") ≡ false
  pub no_leading_zero : is_amount (codes "01") ≡ false
  pub no_sign : is_amount (codes "+1") ≡ false
  pub greatest : is_number greatest_number (codes "4294967295") ≡ true
  pub not_a_greater_one : is_number greatest_number (codes "4294967296") ≡ false
  pub a_session : IsSessionText (codes "alpha.1")
  pub not_without_the_stop : ¬ IsSessionText (codes "alpha1")
  pub not_of_number_0 : ¬ IsSessionText (codes "alpha.0")

pub record FirstFaultsOfTexts : Type 0 where
  pub none : name_fault (codes "a-9") ≡ None
  pub empty : name_fault (codes "") ≡ Some name.Empty
  pub its_place : name_fault (codes "aB") ≡ Some (name.BadByte 1)
  -- the length before any byte
  pub long_before_a_byte : name_fault (replicate 33 65) ≡ Some (name.Long 33)
  pub of_an_address : address_fault (codes "b/1") ≡ Some (name.BadByte 1)
  pub long_address : address_fault (replicate 65 97) ≡ Some (name.Long 65)
  pub an_amount : amount_fault (codes "250") ≡ None
  pub no_digits : amount_fault (codes "") ≡ Some amount.Empty
  -- a byte before a leading zero, and that before the range
  pub byte_before_zero : amount_fault (codes "0x") ≡ Some (amount.BadByte 1)
  pub zero_before_range : amount_fault (codes "00") ≡ Some amount.Leading
  pub nothing : amount_fault (codes "0") ≡ Some amount.Range
  pub too_much : amount_fault (codes "9007199254740992") ≡ Some amount.Range
  pub a_session : session_fault (codes "alpha.1") ≡ None
  pub no_stop : session_fault (codes "alpha") ≡ Some session.NoStop
  -- the gateway before the number
  pub gateway_before_number : session_fault (codes "Alpha.0") ≡ Some (session.Name (name.BadByte 0))
  pub no_gateway : session_fault (codes ".1") ≡ Some (session.Name name.Empty)
  pub no_number : session_fault (codes "alpha.0") ≡ Some session.Number
  pub a_second_stop : session_fault (codes "a.b.1") ≡ Some session.Number
