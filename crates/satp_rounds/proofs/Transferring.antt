-- Lost proposals, new sessions, and sessions that are resumed.
use Rattle.std.proofs.Common.{◌≡◌, ◌≤◌, Bool, true, false, [], ◌∷◌, nat_le, length, refl}
use Rattle.satp_base.proofs.Finite.{all_of, all_of-at, andthen-left, andthen-right}
use Rattle.satp_base.specs.Tales.{is_whole}
use Rattle.satp_base.specs.declared.message.Kind.TheVariants.{TransferProposal}
use Rattle.satp_base.specs.declared.message.Role.{Role}
use Rattle.satp_base.specs.declared.message.Role.TheVariants.{Origin, Recipient}
use Rattle.satp_base.specs.declared.message.Terms.{Terms}
use Rattle.satp_sides.proofs.Lists.{bools, in_bools}
use Rattle.satp_world.proofs.HalfComplete.{head_of}
use Rattle.satp_world.proofs.SafeTest.{HoldsInTables}
use Rattle.satp_world.proofs.Safety.{pair-tested}
use Rattle.satp_world.proofs.StepLaw.{origin-in}
use Rattle.satp_rounds.proofs.ResumeCheck.{resumes_ok}
use Rattle.satp_rounds.proofs.ResumeTest.{own_test, resume_test, resumes_at, resumes_by, resumes_test, whole_test}
use Rattle.satp_rounds.proofs.RoundTest.{ends_in, funds, rooms, settled_test}
use Rattle.satp_rounds.proofs.Settle.{ends-settled, in_rooms, le-of, settled-of}
use Rattle.satp_rounds.proofs.TransferCheck.{alone_by, alone_ok, accepted_ok, lost_by, lost_ok, over_ok, unknown_ok, unlocked_ok, unlocked_over_ok, unlocked_unknown_ok}
use Rattle.satp_rounds.specs.Funds.{worked, Funds, Room, Enough, Unknown, Over}
use Rattle.satp_rounds.specs.Rounds.{Pair, Passing, Settled, half_at, pair}
use Rattle.satp_rounds.specs.Transfers.{ProposalsEnd, ProposalsSettle, ResumesEnd, Resumes, Transfers, TransfersSettle, resumed, transferred}

-- ---- a lost proposal

pub proposals-settle : ProposalsSettle
proposals-settle a terms s e f = ends-settled Origin f _
    (all_of-at (λ m. lost_by terms a (funds f.lock m)) (in_rooms f.mint)
    (all_of-at (λ l. all_of (λ m. lost_by terms a (funds l m)) rooms) (in_bools f.lock)
    (all_of-at (λ a. all_of (λ l. all_of (λ m. lost_by terms a (funds l m)) rooms) bools) (origin-in a s (TransferProposal ∷ []) e) (lost_ok (head_of a) terms))))

-- ---- new sessions

short-of : (c : Bool) (p : Passing) → ends_in 11 c p ≡ true → length p.texts ≤ 11
short-of c p h = le-of _ _ (andthen-left (nat_le (length p.texts) 11) (λ _. settled_test c p.after) h)

end-of : (c : Bool) (p : Passing) → ends_in 11 c p ≡ true → Settled c p.after
end-of c p h = settled-of c p.after (andthen-right (nat_le (length p.texts) 11) (λ _. settled_test c p.after) h)

begins : (l : Bool) (m : Room) (terms : Terms) → Transfers (funds l m) terms
begins true Enough terms =
    let p = transferred (funds true Enough) terms in
    record { short = short-of true p (accepted_ok terms); eleven = λ h. refl; settled = end-of true p (accepted_ok terms) }
begins true Unknown terms =
    let p = transferred (funds true Unknown) terms in
    record { short = short-of false p (unknown_ok terms); eleven = λ h. absurd (cc h); settled = end-of false p (unknown_ok terms) }
begins true Over terms =
    let p = transferred (funds true Over) terms in
    record { short = short-of false p (over_ok terms); eleven = λ h. absurd (cc h); settled = end-of false p (over_ok terms) }
begins false Enough terms =
    let p = transferred (funds false Enough) terms in
    record { short = short-of false p (unlocked_ok terms); eleven = λ h. absurd (cc h); settled = end-of false p (unlocked_ok terms) }
begins false Unknown terms =
    let p = transferred (funds false Unknown) terms in
    record { short = short-of false p (unlocked_unknown_ok terms); eleven = λ h. absurd (cc h); settled = end-of false p (unlocked_unknown_ok terms) }
begins false Over terms =
    let p = transferred (funds false Over) terms in
    record { short = short-of false p (unlocked_over_ok terms); eleven = λ h. absurd (cc h); settled = end-of false p (unlocked_over_ok terms) }

pub transfers-settle : TransfersSettle
transfers-settle f terms = begins f.lock f.mint terms

-- ---- sessions that are resumed

resumes-of : (role : Role) (f : Funds) (s : Pair) → resume_test role f s ≡ true → Resumes role f s
resumes-of role f s h =
    let more = andthen-right (own_test role (worked role f (half_at role s))) (λ _. whole_test role (resumed role f s)) h in
    record {
      own = andthen-left (own_test role (worked role f (half_at role s))) (λ _. whole_test role (resumed role f s)) h;
      short = le-of _ _ (andthen-left (nat_le (resumed role f s).texts 11) (λ _. is_whole (half_at role (resumed role f s).after).view.tale) more);
      whole = andthen-right (nat_le (resumed role f s).texts 11) (λ _. is_whole (half_at role (resumed role f s).after).view.tale) more;
    }

holds : HoldsInTables resumes_test
unfolding resumes_at
holds p q = resumes_ok p q

pub resumes-end : ResumesEnd
resumes-end a b s role f = resumes-of role f (pair a b) (by_role role)
  where
    here_ok : resumes_by (funds f.lock f.mint) (pair a b) ≡ true
    here_ok = all_of-at (λ m. resumes_by (funds f.lock m) (pair a b)) (in_rooms f.mint) (all_of-at (λ l. all_of (λ m. resumes_by (funds l m) (pair a b)) rooms) (in_bools f.lock) (pair-tested resumes_test holds a b s))

    by_role : (r : Role) → resume_test r f (pair a b) ≡ true
    by_role Origin = andthen-left (resume_test Origin f (pair a b)) (λ _. resume_test Recipient f (pair a b)) here_ok
    by_role Recipient = andthen-right (resume_test Origin f (pair a b)) (λ _. resume_test Recipient f (pair a b)) here_ok

pub proposals-end : ProposalsEnd
proposals-end a terms s e f = resumes-of Origin f _
    (all_of-at (λ m. alone_by terms a (funds f.lock m)) (in_rooms f.mint)
    (all_of-at (λ l. all_of (λ m. alone_by terms a (funds l m)) rooms) (in_bools f.lock)
    (all_of-at (λ a. all_of (λ l. all_of (λ m. alone_by terms a (funds l m)) rooms) bools) (origin-in a s (TransferProposal ∷ []) e) (alone_ok (head_of a) terms))))
