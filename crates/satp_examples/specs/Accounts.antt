-- What a ledger of accounts keeps of its first holdings: of gold, 300 and 200 units of ann's and 70 of bob's.
use Rattle.std.proofs.Common.{lit≤}
use Rattle.std.specs.Prelude.{ℕ, List, [], ◌∷◌, Some, None}
use Rattle.std.specs.FinMap as map
use Rattle.satp_base.specs.declared.genesis.Hold.{Hold}
use Rattle.satp_base.specs.declared.name.Name.{Name}
use Rattle.satp_accounts.specs.Owners.{Amounts, HoldAdds, HoldFits, IsHeld}
use Rattle.satp_money.specs.declared.owned.Owned.{Owned}
use Rattle.satp_examples.specs.Outputs.{hold_of}
use Rattle.satp_examples.specs.Samples.{ann, bob, gold, units}

abbrev pub gold_of : Name → Owned
gold_of owner = record { asset = gold; owner = owner }

abbrev pub holds : List Hold
holds = hold_of ann 300 (lit≤ tt) (lit≤ tt) ∷ hold_of bob 70 (lit≤ tt) (lit≤ tt) ∷ hold_of ann 200 (lit≤ tt) (lit≤ tt) ∷ []

-- behind the first, and behind the first two
abbrev pub anns : ℕ → Amounts
anns n = map.insert map.empty (gold_of ann) n

abbrev pub two : Amounts
two = map.insert (anns 300) (gold_of bob) 70

abbrev pub with_anns : ℕ → Amounts
with_anns n = map.insert two (gold_of ann) n

pub record HoldingsOfAccounts : Type 0 where
  pub all_three : IsHeld holds (with_anns 500)
  pub none : IsHeld [] map.empty
  pub not_the_last_alone : ¬ IsHeld holds (with_anns 200)
  pub not_without_bobs : ¬ IsHeld holds (anns 500)
  pub one_more : HoldAdds two (Some (gold, ann, units 200 (lit≤ tt) (lit≤ tt))) (with_anns 500)
  pub no_more : HoldAdds two None two
  pub not_in_its_place : ¬ HoldAdds two (Some (gold, ann, units 200 (lit≤ tt) (lit≤ tt))) (with_anns 200)
  pub up_to_the_greatest : HoldFits (anns 300) (Some (gold, ann, units 9007199254740691 (lit≤ tt) (lit≤ tt)))
  pub not_past_it : ¬ HoldFits (anns 300) (Some (gold, ann, units 9007199254740692 (lit≤ tt) (lit≤ tt)))
