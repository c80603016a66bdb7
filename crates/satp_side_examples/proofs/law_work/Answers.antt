use Rattle.std.proofs.Common.{◌≡◌, ap, length, arith}
use Rattle.satp_base.specs.Verdicts.{extends}
use Rattle.satp_sides.specs.Calls.{Run, refusal_of, run_of}
use Rattle.satp_sides.specs.Due.{due}
use Rattle.satp_side_examples.proofs.Bytes.{same_bytes}
use Rattle.satp_side_examples.proofs.law_work.Goals as goal

pub returns-clause-mints : goal.returns-clause-mints
unfolding run_of refusal_of due extends
returns-clause-mints c = record {
  done = λ key terms text book e. rw (same_bytes, e);
  capped = λ key terms text book e. rw (same_bytes, e);
  unknown = λ key terms text book e. rw (same_bytes, e);
  taken = λ key terms text book e. rw (same_bytes, e);
  not_unasked = λ key terms text book t e h. let bad : 5 ≡ 4 = ap (λ (r : Run). length r.moves) (rw (same_bytes, e) at h) in absurd (omega (arith, bad));
  nothing_released = λ key terms text book. rw same_bytes;
  released = λ key terms text book e. rw (same_bytes, e);
  not_released_twice = λ key terms text book. rw same_bytes;
}

pub returns-clause-locks : goal.returns-clause-locks
unfolding run_of refusal_of due extends
returns-clause-locks c = record {
  locked = λ key terms text book e. rw (same_bytes, e);
  refused = λ key terms text book e f. rw (same_bytes, e, f);
  not_released = λ key terms text book e f. rw (same_bytes, e, f);
  burnt = λ key terms text book e. rw (same_bytes, e);
  not_undecided = λ key terms text book t e h. let bad : 6 ≡ 5 = ap (λ (r : Run). length r.moves) (rw (same_bytes, e) at h) in absurd (omega (arith, bad));
  turned = λ key terms text book. rw same_bytes;
  rejected = λ key terms text book r e. rw (same_bytes, e);
}
