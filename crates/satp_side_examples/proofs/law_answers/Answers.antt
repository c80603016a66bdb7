use Rattle.std.proofs.Common.{◌≡◌, refl, ap, length, arith}
use Rattle.satp_base.specs.Verdicts.{extends}
use Rattle.satp_sides.specs.Calls.{Run, refusal_of, run_of}
use Rattle.satp_sides.specs.Due.{due}
use Rattle.satp_side_examples.proofs.Bytes.{same_bytes}
use Rattle.satp_side_examples.proofs.law_answers.Goals as goal

pub returns-clause-first : goal.returns-clause-first
unfolding run_of refusal_of due extends
returns-clause-first c = record {
  complete = λ key book previous t. refl;
  final = λ key book previous t. refl;
  prepare = λ key book previous t. refl;
  lock = λ key book previous t. refl;
  commence = λ key book previous t. refl;
  proposal = λ key book terms t. refl;
  not_unstored = λ key book terms t h. let bad : 3 ≡ 1 = ap (λ (r : Run). length r.moves) h in absurd (omega (arith, bad));
  not_at_three = λ key book terms t. refl;
  not_a_rollback = λ key book t. refl;
  not_its_place = λ key book previous t. refl;
}

pub returns-clause-addresses : goal.returns-clause-addresses
unfolding run_of refusal_of due extends
returns-clause-addresses c = record {
  another_receiver = λ key book b t. refl;
  another_sender = λ key book b t. refl;
  its_own = λ key book b t. refl;
  of_another_gateway = λ key book b t. refl;
  of_its_own = λ key book b t. refl;
  of_its_peer = λ key book terms text previous t. refl;
}

pub returns-clause-again : goal.returns-clause-again
unfolding run_of refusal_of due extends
returns-clause-again c = record {
  final = λ key book terms text e. rw (same_bytes, e);
  not_minted = λ key book terms text e. rw (same_bytes, e);
  after_a_stop = λ key book terms text previous e. rw (same_bytes, e);
  before_the_end = λ key book terms text previous. rw same_bytes;
  not_stored_twice = λ key book terms text previous h. let bad : 1 ≡ 2 = ap (λ (r : Run). length r.moves) (rw same_bytes at h) in absurd (omega (arith, bad));
  earlier = λ key book terms text previous. rw same_bytes;
  another = λ key book terms text previous t e. rw e;
  after_the_end = λ key book terms text previous t. refl;
  proposal_after_the_end = λ key book terms other text previous t. refl;
  last_of_all = λ key book terms text previous. rw same_bytes;
  not_another_last = λ key book terms text previous t e. rw e;
  at_the_origin = λ key book terms text previous t. refl;
  rolled_back = λ key book terms text previous t. refl;
}

pub returns-clause-whole : goal.returns-clause-whole
unfolding run_of refusal_of due extends
returns-clause-whole c = record {
  committed = λ key book terms text previous. rw same_bytes;
  committed_then = λ key book terms text previous. rw same_bytes;
  rolled_back = λ key book terms text previous. rw same_bytes;
}
