use Rattle.std.proofs.Common.{◌≡◌, false, [], ◌∷◌, ◌++◌, refl, inl, inr, lit≤, take}
use Rattle.satp_base.specs.Roles.RoleRule.{Due, Answered, Free}
use Rattle.satp_base.specs.Tales.{IsTale, comes_behind, eleven, last_of}
use Rattle.satp_base.specs.Tales.IsTale.{Onward}
use Rattle.satp_base.specs.declared.ledger.Answer.TheVariants as answer
use Rattle.satp_base.specs.declared.ledger.LedgerOp.TheVariants.{Lock, Burn, Mint}
use Rattle.satp_base.specs.declared.message.Kind.{Kind}
use Rattle.satp_base.specs.declared.message.Kind.TheVariants.{CommenceAck, LockAssert, TransferCommence}
use Rattle.satp_base.specs.declared.record.Cause.TheVariants.{Aborted, Rejected}
use Rattle.satp_base.specs.declared.record.Rec.TheVariants.{Took, Made, Did, Chose, Rescue}
use Rattle.satp_base.specs.declared.record.Way.TheVariants.{Commit, Back}
use Rattle.satp_base.proofs.RoleLemmas.{after-chose, after-did, after-shape}
use Rattle.satp_base.proofs.TaleTable.{extends-by}
use Rattle.satp_examples.specs.Roles.{OriginMay, RecipientMay, ready, up_to_ready, up_to_the_lock}
use Rattle.satp_examples.proofs.roles.law_roles.Goals as goal

-- the kind doesn't go on with the one message of a proposal
refused : (kind : Kind) → comes_behind (last_of (take 1 eleven)) kind ≡ false → ¬ IsTale (take 1 eleven ++ kind ∷ [])
refused kind none longer = let yes = extends-by (take 1 eleven) kind (Onward 1 (lit≤ tt)) longer in absurd cc

pub returns-clause-views : goal.returns-clause-views
returns-clause-views c = record {
  begun = refl;
  a_message = refl;
  an_operation = refl;
  a_decision = refl;
  a_rescue = refl;
  not_without_a_beginning = refl;
  keeps_the_tale = Onward 2 (lit≤ tt);
  breaks_the_tale = refused TransferCommence refl;
}

not_behind : ¬ RecipientMay [] (Made CommenceAck)
not_behind (Due e) = absurd cc
not_behind (Answered op a e after) = absurd cc
not_behind (Free f) = f

not_burn : ¬ OriginMay up_to_the_lock (Did Burn)
not_burn (Due e) = absurd cc
not_burn (Answered op a e after) = let same = after-did op Burn a after in absurd cc
not_burn (Free f) = f

not_rejected : ¬ OriginMay up_to_the_lock (Chose (Back Rejected))
not_rejected (Due e) = absurd cc
not_rejected (Answered op a e after) = elim (after-chose op a (Back Rejected) after) [
  | inl h ↦ let bad = h.1 in absurd cc
  | inr h ↦ let other = h.0 in absurd cc
]
not_rejected (Free f) = f

not_said : ¬ OriginMay up_to_the_lock (Made LockAssert)
not_said (Due e) = absurd cc
not_said (Answered op a e after) = elim (after-shape op a (Made LockAssert) after) [
  | inl h ↦ absurd cc
  | inr (c, h) ↦ absurd cc
]
not_said (Free f) = f

not_taken : ¬ OriginMay [] (Took CommenceAck)
not_taken (Due e) = absurd cc
not_taken (Answered op a e after) = absurd cc
not_taken (Free f) = refused CommenceAck refl f.1

not_own : ¬ OriginMay up_to_the_lock (Took LockAssert)
not_own (Due e) = absurd cc
not_own (Answered op a e after) = elim (after-shape op a (Took LockAssert) after) [
  | inl h ↦ absurd cc
  | inr (c, h) ↦ absurd cc
]
not_own (Free f) = let maker = f.0 in absurd cc

not_decided : ¬ OriginMay (up_to_ready ++ Chose Commit ∷ []) (Chose (Back Aborted))
not_decided (Due e) = absurd cc
not_decided (Answered op a e after) = elim (after-chose op a (Back Aborted) after) [
  | inl h ↦ let other = h.0 in absurd cc
  | inr h ↦ let other = h.0 in absurd cc
]
not_decided (Free f) = let way = f.0 in absurd cc

not_ready : ¬ RecipientMay ready (Chose (Back Aborted))
not_ready (Due e) = absurd cc
not_ready (Answered op a e after) = absurd cc
not_ready (Free f) = let ready = f.1 in absurd cc

undecided : ¬ OriginMay up_to_ready (Did Burn)
undecided (Due e) = absurd cc
undecided (Answered op a e after) = absurd cc
undecided (Free f) = f

before_ready : ¬ OriginMay (take 7 up_to_ready) (Chose Commit)
before_ready (Due e) = absurd cc
before_ready (Answered op a e after) = absurd cc
before_ready (Free f) = f

twice : ¬ OriginMay (up_to_the_lock ++ Rescue ∷ []) Rescue
twice (Due e) = absurd cc
twice (Answered op a e after) = absurd cc
twice (Free f) = let rescue = f.1 in absurd cc

recipient_rescued : ¬ RecipientMay [] Rescue
recipient_rescued (Due e) = absurd cc
recipient_rescued (Answered op a e after) = absurd cc
recipient_rescued (Free f) = f

pub returns-clause-records : goal.returns-clause-records
returns-clause-records c = record {
  all_up_to_ready = (Free (refl, Onward 2 (lit≤ tt)), (Due refl, (Free (refl, Onward 4 (lit≤ tt)), (Answered Lock answer.Done refl refl, (Due refl, (Free (refl, Onward 6 (lit≤ tt)), (Due refl, (Free (refl, Onward 8 (lit≤ tt)), tt))))))));
  the_next_one = Due refl;
  not_the_one_behind = not_behind;
  locked = Answered Lock answer.Done refl refl;
  refused = Answered Lock (answer.NoFunds 0) refl refl;
  not_another_operation = not_burn;
  not_another_cause = not_rejected;
  not_said_before_it_is_done = not_said;
  capped = Answered Mint (answer.Capped 0) refl refl;
  taken = Free (refl, Onward 2 (lit≤ tt));
  not_out_of_order = not_taken;
  not_its_own = not_own;
  origin_aborts = Free (refl, refl);
  not_behind_a_decision = not_decided;
  recipient_aborts = Free (refl, refl, refl);
  not_behind_ready = not_ready;
  no_burn_undecided = undecided;
  no_commit_before_ready = before_ready;
  rescued = Free (refl, refl, refl);
  not_twice = twice;
  not_the_recipient = recipient_rescued;
}
