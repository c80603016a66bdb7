-- What stands of a side, as its tests.
use Rattle.std.proofs.Common.{◌≡◌, Bool, true, List}
use Rattle.satp_base.specs.declared.message.Role.TheVariants.{Origin, Recipient}
use Rattle.satp_base.specs.declared.message.Kind.TheVariants.{TransferProposal, CommenceAck, LockAssert, CommitPrepare, CommitReady, CommitFinal, CommitFinalAck, Reject, Rollback, RollbackAck}
use Rattle.satp_base.specs.Tales.{has, IsTale}
use Rattle.satp_base.specs.Roles.{negate}
use Rattle.satp_sides.specs.Halves.{Half, OriginStands, RecipientStands}
use Rattle.satp_base.proofs.Finite.{andthen-left, andthen-right, andthen-make, implies-make, implies-use}
use Rattle.satp_world.proofs.HalfTable.{origin_list, recipient_test, recipient_list}
use Rattle.satp_world.proofs.HalfTest.{side_test}
use Rattle.satp_world.proofs.Logic.{negate-make, negate-use, both-left, both-right, both-make, each-of, each-make}

abbrev pub origin_tests : Half → List (Unit {0} → Bool)
origin_tests h = origin_list (has CommenceAck h.view.tale) (has LockAssert h.view.tale) (has CommitReady h.view.tale) (has CommitFinal h.view.tale) (has Rollback h.view.tale) h.view.done h.view.way h.entry

abbrev pub recipient_tests : Half → List (Unit {0} → Bool)
recipient_tests h = recipient_list (has CommitPrepare h.view.tale) (has CommitReady h.view.tale) (has CommitFinal h.view.tale) (has CommitFinalAck h.view.tale) (has Reject h.view.tale) (has Rollback h.view.tale) (has RollbackAck h.view.tale) h.view.done h.view.way h.entry

pub origin-test : (h : Half) → OriginStands h → side_test Origin h ≡ true
origin-test h s =
    each-make (origin_tests h) (
      negate-make _ s.mints_not,
      (
        negate-make _ s.assigns_not,
        (
          implies-make _ _ s.asserted,
          (
            implies-make _ _ s.final,
            (
              implies-make _ _ s.rolled,
              (
                implies-make _ _ s.lock_place,
                (
                  implies-make _ _ s.burn_way,
                  (
                    implies-make _ _ s.release_way,
                    (
                      implies-make _ _ s.committed,
                      (
                        implies-make _ _ (λ p. negate-make _ (s.lock_entry p)),
                        (
                          implies-make _ _ s.burn_entry,
                          (
                            implies-make _ _ s.release_entry,
                            (
                              implies-make _ _ s.locked,
                              (
                                implies-make _ _ s.burnt,
                                (
                                  implies-make _ _ s.released,
                                  (negate-make _ s.never_minted, (negate-make _ s.never_assigned, tt)),
                                ),
                              ),
                            ),
                          ),
                        ),
                      ),
                    ),
                  ),
                ),
              ),
            ),
          ),
        ),
      ),
    )

pub origin-stands : (h : Half) → IsTale h.view.tale → has TransferProposal h.view.tale ≡ true → side_test Origin h ≡ true → OriginStands h
origin-stands h t b p =
    let (p1, (p2, (p3, (p4, (p5, (p6, (p7, (p8, (p9, (p10, (p11, (p12, (p13, (p14, (p15, (p16, (p17, p18))))))))))))))))) = each-of (origin_tests h) p in
    record {
      tale = t;
      begun = b;
      mints_not = negate-use _ p1;
      assigns_not = negate-use _ p2;
      asserted = implies-use _ _ p3;
      final = implies-use _ _ p4;
      rolled = implies-use _ _ p5;
      lock_place = implies-use _ _ p6;
      burn_way = implies-use _ _ p7;
      release_way = implies-use _ _ p8;
      committed = implies-use _ _ p9;
      lock_entry = λ q. negate-use _ (implies-use _ _ p10 q);
      burn_entry = implies-use _ _ p11;
      release_entry = implies-use _ _ p12;
      locked = implies-use _ _ p13;
      burnt = implies-use _ _ p14;
      released = implies-use _ _ p15;
      never_minted = negate-use _ p16;
      never_assigned = negate-use _ p17;
    }

pub recipient-test : (h : Half) → RecipientStands h → side_test Recipient h ≡ true
recipient-test h s =
    andthen-make _ _ (negate-make _ s.rescues_not)
    (each-make (recipient_tests h) (
      negate-make _ s.commits_not,
      (
        negate-make _ s.locks_not,
        (
          negate-make _ s.burns_not,
          (
            implies-make _ _ s.ready,
            (
              implies-make _ _ s.acked,
              (
                implies-make _ _ s.rejected,
                (
                  implies-make _ _ s.too_late,
                  (
                    implies-make _ _ (λ p. implies-make _ _ (λ q. implies-make _ _ (λ r. s.cleared p q r))),
                    (
                      implies-make _ _ s.mint_place,
                      (
                        implies-make _ _ s.assign_place,
                        (
                          implies-make _ _ s.release_place,
                          (
                            implies-make _ _ (λ p. negate-make _ (s.mint_entry p)),
                            (
                              implies-make _ _ s.assign_entry,
                              (
                                implies-make _ _ s.minted,
                                (
                                  implies-make _ _ s.assigned,
                                  (
                                    implies-make _ _ s.released,
                                    (
                                      negate-make _ s.never_locked,
                                      (
                                        negate-make _ s.never_burnt,
                                        (implies-make _ _ (λ p. implies-make _ _ (λ q. let q' = negate-use _ q in both-make _ _ (s.refused_place p q') (both-make _ _ (negate-make _ (s.refused_mint p q')) (s.refused_entry p q')))), tt),
                                      ),
                                    ),
                                  ),
                                ),
                              ),
                            ),
                          ),
                        ),
                      ),
                    ),
                  ),
                ),
              ),
            ),
          ),
        ),
      ),
    ))

pub recipient-stands : (h : Half) → IsTale h.view.tale → has TransferProposal h.view.tale ≡ true → side_test Recipient h ≡ true → RecipientStands h
recipient-stands h t b p =
    let p0 = andthen-left (negate h.view.rescue) (λ _. recipient_test h.view.tale h.view.done h.view.way h.entry) p in
    let (p1, (p2, (p3, (p4, (p5, (p6, (p7, (p8, (p9, (p10, (p11, (p12, (p13, (p14, (p15, (p16, (p17, (p18, (p19, p20))))))))))))))))))) = each-of (recipient_tests h) (andthen-right (negate h.view.rescue) (λ _. recipient_test h.view.tale h.view.done h.view.way h.entry) p) in
    record {
      tale = t;
      begun = b;
      rescues_not = negate-use _ p0;
      commits_not = negate-use _ p1;
      locks_not = negate-use _ p2;
      burns_not = negate-use _ p3;
      ready = implies-use _ _ p4;
      acked = implies-use _ _ p5;
      rejected = implies-use _ _ p6;
      too_late = implies-use _ _ p7;
      cleared = λ x y z. implies-use _ _ (implies-use _ _ (implies-use _ _ p8 x) y) z;
      mint_place = implies-use _ _ p9;
      assign_place = implies-use _ _ p10;
      release_place = implies-use _ _ p11;
      mint_entry = λ q. negate-use _ (implies-use _ _ p12 q);
      assign_entry = implies-use _ _ p13;
      minted = implies-use _ _ p14;
      assigned = implies-use _ _ p15;
      released = implies-use _ _ p16;
      never_locked = negate-use _ p17;
      never_burnt = negate-use _ p18;
      refused_place = λ x y. both-left _ _ (implies-use _ _ (implies-use _ _ p19 x) (negate-make _ y));
      refused_mint = λ x y. negate-use _ (both-left _ _ (both-right _ _ (implies-use _ _ (implies-use _ _ p19 x) (negate-make _ y))));
      refused_entry = λ x y. both-right _ _ (both-right _ _ (implies-use _ _ (implies-use _ _ p19 x) (negate-make _ y)));
    }
