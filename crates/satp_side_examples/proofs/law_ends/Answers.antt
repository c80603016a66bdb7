use Rattle.std.proofs.Common.{◌≡◌, refl, ap, length, arith}
use Rattle.satp_base.specs.Verdicts.{extends}
use Rattle.satp_sides.specs.Calls.{Run, refusal_of, run_of}
use Rattle.satp_sides.specs.Due.{due}
use Rattle.satp_side_examples.proofs.law_ends.Goals as goal

pub returns-clause-begin : goal.returns-clause-begin
unfolding run_of refusal_of due extends
returns-clause-begin c = record {
  first = λ key book s terms. refl;
  beside_another = λ key book terms other text. refl;
  again = λ key book terms other text. refl;
  the_last = λ key records book s terms many none. rw (none, many);
  one_more = λ key records book s terms many none. rw (none, many);
  used_first = λ key records book s terms l many some. rw some;
  the_last_accepted = λ key records book terms t many none. rw (none, many, none);
  one_more_accepted = λ key records book terms t many none. rw (none, many);
}

pub returns-clause-work : goal.returns-clause-work
unfolding run_of refusal_of due extends
returns-clause-work c = record {
  waits = λ key book terms text. refl;
  whole = λ key book terms text. refl;
  made_whole = λ key book terms text. refl;
  unnamed = λ key book. refl;
}

pub returns-clause-aborts : goal.returns-clause-aborts
unfolding run_of refusal_of due extends
returns-clause-aborts c = record {
  at_the_origin = λ key book terms text e. rw e;
  not_the_decision_alone = λ key book terms text e h. let bad : 3 ≡ 1 = ap (λ (r : Run). length r.moves) (rw e at h) in absurd (omega (arith, bad));
  twice = λ key book terms text. refl;
  after_a_commit = λ key book terms text. refl;
  after_the_end = λ key book terms text. refl;
  at_the_recipient = λ key book terms text e. rw e;
  while_it_waits = λ key book terms text. refl;
  after_it_is_ready = λ key book terms text. refl;
  after_its_end = λ key book terms text. refl;
  rolled_back = λ key book terms text. refl;
  unnamed_at_alpha = λ key book terms text. refl;
  unnamed_at_beta = λ key book terms text. refl;
}
