use Rattle.std.proofs.Common.{◌≡◌, refl, ap, length, arith}
use Rattle.satp_base.specs.Verdicts.{extends}
use Rattle.satp_sides.specs.Calls.{Run, refusal_of, run_of}
use Rattle.satp_sides.specs.Due.{due}
use Rattle.satp_side_examples.proofs.Bytes.{same_bytes}
use Rattle.satp_side_examples.proofs.law_recovery.Goals as goal

pub returns-clause-started : goal.returns-clause-started
unfolding run_of refusal_of due extends
returns-clause-started c = record {
  undecided = λ key book terms text. refl;
  once = λ key book terms text. refl;
  not_decided = λ key book terms text. refl;
  whole = λ key book terms text. refl;
  recipient = λ key book terms text. refl;
}

pub returns-clause-answered : goal.returns-clause-answered
unfolding run_of refusal_of due extends
returns-clause-answered c = record {
  unnamed = λ key book last t. refl;
  unnamed_of_none = λ key book t. refl;
  not_of_two = λ key book last t. refl;
  not_another_none = λ key book last t e. rw e;
  one_more = λ key book terms text t. rw same_bytes;
  as_many = λ key book terms text t. rw same_bytes;
  one_fewer = λ key book terms text last t. refl;
  not_two_more = λ key book terms text last t. refl;
  not_two_fewer = λ key book terms text last t. refl;
  not_another_chain = λ key book terms text last t e. rw e;
  after_its_work = λ key book terms text t e. rw (same_bytes, e);
  two_more = λ key book terms text t e. rw (same_bytes, e);
  origin = λ key book terms text t. rw same_bytes;
}

pub returns-clause-heard : goal.returns-clause-heard
unfolding run_of refusal_of due extends
returns-clause-heard c = record {
  adopted = λ key book terms text t. rw same_bytes;
  not_no_message = λ key book terms text t. refl;
  not_another_session = λ key book terms text t. refl;
  not_another_receiver = λ key book terms text t. refl;
  not_its_own = λ key book terms text previous t. refl;
  not_of_recovery = λ key book terms text n entries t. refl;
  not_an_earlier = λ key book terms text previous t. rw same_bytes;
  not_after_another = λ key book terms text previous t e. rw e;
  not_off_the_tale = λ key book terms text t. rw same_bytes;
  not_two = λ key book terms text t. refl;
  not_without = λ key book terms text t. refl;
  not_too_long = λ key book terms text t. refl;
  as_long = λ key book terms text t. refl;
  shorter = λ key book terms text t. refl;
  not_with_an_entry = λ key book terms text t. refl;
  not_much_shorter = λ key book terms text t. refl;
  not_the_peers = λ key book terms text t. refl;
  begins = λ key book terms t u. refl;
  begins_nothing = λ key book t. refl;
  not_one_more = λ key records book terms t u many none empty. rw (none, empty, many);
  not_an_entry_first = λ key records book t u many none empty. rw (empty);
}

pub returns-clause-ended : goal.returns-clause-ended
unfolding run_of refusal_of due extends
returns-clause-ended c = record {
  equal = λ key book terms text t. rw same_bytes;
  not_shorter = λ key book terms text last t. refl;
  not_another_chain = λ key book terms text last t e. rw e;
  not_unnamed = λ key book last t. refl;
  without_work = λ key book terms text t. rw same_bytes;
}

pub returns-clause-lost : goal.returns-clause-lost
unfolding run_of refusal_of due extends
returns-clause-lost c = record {
  proposal = λ key book terms text t. refl;
  receipt_in_a_round = λ key book terms text e. rw (same_bytes, e);
  ready_in_a_round = λ key book terms text e. rw (same_bytes, e);
  not_rescued = λ key book terms text t e h. let bad : 6 ≡ 4 = ap (λ (r : Run). length r.moves) (rw (same_bytes, e) at h) in absurd (omega (arith, bad));
  burn = λ key book terms text t e. rw (same_bytes, e);
}
