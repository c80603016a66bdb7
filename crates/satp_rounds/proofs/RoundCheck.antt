-- Each tale's rounds, computed; one declaration for each tale, since each has its own limit of steps.
use Rattle.std.proofs.Common.{◌≡◌, true, refl, take}
use Rattle.satp_base.specs.Tales.{eleven}
use Rattle.satp_base.proofs.Finite.{all_of, andthen-make}
use Rattle.satp_base.proofs.TaleTable.{begun_tales, rolling, rejecting}
use Rattle.satp_world.proofs.HalfTable.{Head}
use Rattle.satp_rounds.proofs.RoundTest.{rounds_at}

round_0 : (p q : Head) → rounds_at p q (take 1 eleven) ≡ true
unfolding rounds_at
round_0 p q = refl

round_1 : (p q : Head) → rounds_at p q (take 2 eleven) ≡ true
unfolding rounds_at
round_1 p q = refl

round_2 : (p q : Head) → rounds_at p q (take 3 eleven) ≡ true
unfolding rounds_at
round_2 p q = refl

round_3 : (p q : Head) → rounds_at p q (take 4 eleven) ≡ true
unfolding rounds_at
round_3 p q = refl

round_4 : (p q : Head) → rounds_at p q (take 5 eleven) ≡ true
unfolding rounds_at
round_4 p q = refl

round_5 : (p q : Head) → rounds_at p q (take 6 eleven) ≡ true
unfolding rounds_at
round_5 p q = refl

round_6 : (p q : Head) → rounds_at p q (take 7 eleven) ≡ true
unfolding rounds_at
round_6 p q = refl

round_7 : (p q : Head) → rounds_at p q (take 8 eleven) ≡ true
unfolding rounds_at
round_7 p q = refl

round_8 : (p q : Head) → rounds_at p q (take 9 eleven) ≡ true
unfolding rounds_at
round_8 p q = refl

round_9 : (p q : Head) → rounds_at p q (take 10 eleven) ≡ true
unfolding rounds_at
round_9 p q = refl

round_10 : (p q : Head) → rounds_at p q (take 11 eleven) ≡ true
unfolding rounds_at
round_10 p q = refl

round_11 : (p q : Head) → rounds_at p q (rolling 0 1) ≡ true
unfolding rounds_at
round_11 p q = refl

round_12 : (p q : Head) → rounds_at p q (rolling 0 2) ≡ true
unfolding rounds_at
round_12 p q = refl

round_13 : (p q : Head) → rounds_at p q (rolling 1 1) ≡ true
unfolding rounds_at
round_13 p q = refl

round_14 : (p q : Head) → rounds_at p q (rolling 1 2) ≡ true
unfolding rounds_at
round_14 p q = refl

round_15 : (p q : Head) → rounds_at p q (rolling 2 1) ≡ true
unfolding rounds_at
round_15 p q = refl

round_16 : (p q : Head) → rounds_at p q (rolling 2 2) ≡ true
unfolding rounds_at
round_16 p q = refl

round_17 : (p q : Head) → rounds_at p q (rolling 3 1) ≡ true
unfolding rounds_at
round_17 p q = refl

round_18 : (p q : Head) → rounds_at p q (rolling 3 2) ≡ true
unfolding rounds_at
round_18 p q = refl

round_19 : (p q : Head) → rounds_at p q (rejecting 0 1) ≡ true
unfolding rounds_at
round_19 p q = refl

round_20 : (p q : Head) → rounds_at p q (rejecting 0 2) ≡ true
unfolding rounds_at
round_20 p q = refl

round_21 : (p q : Head) → rounds_at p q (rejecting 0 3) ≡ true
unfolding rounds_at
round_21 p q = refl

round_22 : (p q : Head) → rounds_at p q (rejecting 1 1) ≡ true
unfolding rounds_at
round_22 p q = refl

round_23 : (p q : Head) → rounds_at p q (rejecting 1 2) ≡ true
unfolding rounds_at
round_23 p q = refl

round_24 : (p q : Head) → rounds_at p q (rejecting 1 3) ≡ true
unfolding rounds_at
round_24 p q = refl

round_25 : (p q : Head) → rounds_at p q (rejecting 2 1) ≡ true
unfolding rounds_at
round_25 p q = refl

round_26 : (p q : Head) → rounds_at p q (rejecting 2 2) ≡ true
unfolding rounds_at
round_26 p q = refl

round_27 : (p q : Head) → rounds_at p q (rejecting 2 3) ≡ true
unfolding rounds_at
round_27 p q = refl

round_28 : (p q : Head) → rounds_at p q (rejecting 3 1) ≡ true
unfolding rounds_at
round_28 p q = refl

round_29 : (p q : Head) → rounds_at p q (rejecting 3 2) ≡ true
unfolding rounds_at
round_29 p q = refl

round_30 : (p q : Head) → rounds_at p q (rejecting 3 3) ≡ true
unfolding rounds_at
round_30 p q = refl

pub rounds_ok : (p q : Head) → all_of (rounds_at p q) begun_tales ≡ true
rounds_ok p q =
    andthen-make _ _ (round_0 p q) (andthen-make _ _ (round_1 p q) (andthen-make _ _ (round_2 p q) (andthen-make _ _ (round_3 p q) (andthen-make _ _ (round_4 p q) (andthen-make _ _ (round_5 p q) (andthen-make _ _ (round_6 p q) (andthen-make _ _ (round_7 p q) (andthen-make _ _ (round_8 p q) (andthen-make _ _ (round_9 p q) (andthen-make _ _ (round_10 p q) (andthen-make _ _ (round_11 p q) (andthen-make _ _ (round_12 p q) (andthen-make _ _ (round_13 p q) (andthen-make _ _ (round_14 p q) (andthen-make _ _ (round_15 p q) (andthen-make _ _ (round_16 p q) (andthen-make _ _ (round_17 p q) (andthen-make _ _ (round_18 p q) (andthen-make _ _ (round_19 p q) (andthen-make _ _ (round_20 p q) (andthen-make _ _ (round_21 p q) (andthen-make _ _ (round_22 p q) (andthen-make _ _ (round_23 p q) (andthen-make _ _ (round_24 p q) (andthen-make _ _ (round_25 p q) (andthen-make _ _ (round_26 p q) (andthen-make _ _ (round_27 p q) (andthen-make _ _ (round_28 p q) (andthen-make _ _ (round_29 p q) (andthen-make _ _ (round_30 p q) (refl)))))))))))))))))))))))))))))))
