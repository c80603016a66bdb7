-- Each tale's resumed sessions, computed; one declaration for each tale.
use Rattle.std.proofs.Common.{◌≡◌, true, refl, take}
use Rattle.satp_base.specs.Tales.{eleven}
use Rattle.satp_base.proofs.Finite.{all_of, andthen-make}
use Rattle.satp_base.proofs.TaleTable.{begun_tales, rolling, rejecting}
use Rattle.satp_world.proofs.HalfTable.{Head}
use Rattle.satp_rounds.proofs.ResumeTest.{resumes_at}

resume_0 : (p q : Head) → resumes_at p q (take 1 eleven) ≡ true
unfolding resumes_at
resume_0 p q = refl

resume_1 : (p q : Head) → resumes_at p q (take 2 eleven) ≡ true
unfolding resumes_at
resume_1 p q = refl

resume_2 : (p q : Head) → resumes_at p q (take 3 eleven) ≡ true
unfolding resumes_at
resume_2 p q = refl

resume_3 : (p q : Head) → resumes_at p q (take 4 eleven) ≡ true
unfolding resumes_at
resume_3 p q = refl

resume_4 : (p q : Head) → resumes_at p q (take 5 eleven) ≡ true
unfolding resumes_at
resume_4 p q = refl

resume_5 : (p q : Head) → resumes_at p q (take 6 eleven) ≡ true
unfolding resumes_at
resume_5 p q = refl

resume_6 : (p q : Head) → resumes_at p q (take 7 eleven) ≡ true
unfolding resumes_at
resume_6 p q = refl

resume_7 : (p q : Head) → resumes_at p q (take 8 eleven) ≡ true
unfolding resumes_at
resume_7 p q = refl

resume_8 : (p q : Head) → resumes_at p q (take 9 eleven) ≡ true
unfolding resumes_at
resume_8 p q = refl

resume_9 : (p q : Head) → resumes_at p q (take 10 eleven) ≡ true
unfolding resumes_at
resume_9 p q = refl

resume_10 : (p q : Head) → resumes_at p q (take 11 eleven) ≡ true
unfolding resumes_at
resume_10 p q = refl

resume_11 : (p q : Head) → resumes_at p q (rolling 0 1) ≡ true
unfolding resumes_at
resume_11 p q = refl

resume_12 : (p q : Head) → resumes_at p q (rolling 0 2) ≡ true
unfolding resumes_at
resume_12 p q = refl

resume_13 : (p q : Head) → resumes_at p q (rolling 1 1) ≡ true
unfolding resumes_at
resume_13 p q = refl

resume_14 : (p q : Head) → resumes_at p q (rolling 1 2) ≡ true
unfolding resumes_at
resume_14 p q = refl

resume_15 : (p q : Head) → resumes_at p q (rolling 2 1) ≡ true
unfolding resumes_at
resume_15 p q = refl

resume_16 : (p q : Head) → resumes_at p q (rolling 2 2) ≡ true
unfolding resumes_at
resume_16 p q = refl

resume_17 : (p q : Head) → resumes_at p q (rolling 3 1) ≡ true
unfolding resumes_at
resume_17 p q = refl

resume_18 : (p q : Head) → resumes_at p q (rolling 3 2) ≡ true
unfolding resumes_at
resume_18 p q = refl

resume_19 : (p q : Head) → resumes_at p q (rejecting 0 1) ≡ true
unfolding resumes_at
resume_19 p q = refl

resume_20 : (p q : Head) → resumes_at p q (rejecting 0 2) ≡ true
unfolding resumes_at
resume_20 p q = refl

resume_21 : (p q : Head) → resumes_at p q (rejecting 0 3) ≡ true
unfolding resumes_at
resume_21 p q = refl

resume_22 : (p q : Head) → resumes_at p q (rejecting 1 1) ≡ true
unfolding resumes_at
resume_22 p q = refl

resume_23 : (p q : Head) → resumes_at p q (rejecting 1 2) ≡ true
unfolding resumes_at
resume_23 p q = refl

resume_24 : (p q : Head) → resumes_at p q (rejecting 1 3) ≡ true
unfolding resumes_at
resume_24 p q = refl

resume_25 : (p q : Head) → resumes_at p q (rejecting 2 1) ≡ true
unfolding resumes_at
resume_25 p q = refl

resume_26 : (p q : Head) → resumes_at p q (rejecting 2 2) ≡ true
unfolding resumes_at
resume_26 p q = refl

resume_27 : (p q : Head) → resumes_at p q (rejecting 2 3) ≡ true
unfolding resumes_at
resume_27 p q = refl

resume_28 : (p q : Head) → resumes_at p q (rejecting 3 1) ≡ true
unfolding resumes_at
resume_28 p q = refl

resume_29 : (p q : Head) → resumes_at p q (rejecting 3 2) ≡ true
unfolding resumes_at
resume_29 p q = refl

resume_30 : (p q : Head) → resumes_at p q (rejecting 3 3) ≡ true
unfolding resumes_at
resume_30 p q = refl

pub resumes_ok : (p q : Head) → all_of (resumes_at p q) begun_tales ≡ true
resumes_ok p q =
    andthen-make _ _ (resume_0 p q) (andthen-make _ _ (resume_1 p q) (andthen-make _ _ (resume_2 p q) (andthen-make _ _ (resume_3 p q) (andthen-make _ _ (resume_4 p q) (andthen-make _ _ (resume_5 p q) (andthen-make _ _ (resume_6 p q) (andthen-make _ _ (resume_7 p q) (andthen-make _ _ (resume_8 p q) (andthen-make _ _ (resume_9 p q) (andthen-make _ _ (resume_10 p q) (andthen-make _ _ (resume_11 p q) (andthen-make _ _ (resume_12 p q) (andthen-make _ _ (resume_13 p q) (andthen-make _ _ (resume_14 p q) (andthen-make _ _ (resume_15 p q) (andthen-make _ _ (resume_16 p q) (andthen-make _ _ (resume_17 p q) (andthen-make _ _ (resume_18 p q) (andthen-make _ _ (resume_19 p q) (andthen-make _ _ (resume_20 p q) (andthen-make _ _ (resume_21 p q) (andthen-make _ _ (resume_22 p q) (andthen-make _ _ (resume_23 p q) (andthen-make _ _ (resume_24 p q) (andthen-make _ _ (resume_25 p q) (andthen-make _ _ (resume_26 p q) (andthen-make _ _ (resume_27 p q) (andthen-make _ _ (resume_28 p q) (andthen-make _ _ (resume_29 p q) (andthen-make _ _ (resume_30 p q) (refl)))))))))))))))))))))))))))))))
