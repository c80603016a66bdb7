use Rattle.satp_app.specs.Answer.{answer_says}
use Rattle.satp_app.specs.Check.{check_says, signed_says}
use Rattle.satp_app.specs.Replay.{journal_form, replay_says}
use Rattle.satp_outcome.specs.Texts.{text_form}
use Rattle.satp_app.proofs.OneEnd.{one_end}
use Rattle.satp_app.proofs.OneInit.{one_init}
use Rattle.satp_app.proofs.OneReply.{one_answer, one_check}
use Rattle.satp_app.proofs.OneReplay.{one_replay}
use Rattle.satp_app.proofs.laws.law_one_end.Goals as goal

pub returns-clause-answer : goal.returns-clause-answer
returns-clause-answer c = λ name. one_end text_form (answer_says name) (one_answer name)

pub returns-clause-check : goal.returns-clause-check
returns-clause-check c = one_end text_form check_says one_check

pub returns-clause-signed : goal.returns-clause-signed
returns-clause-signed c = λ key one. one_end text_form (signed_says key) one

pub returns-clause-init : goal.returns-clause-init
returns-clause-init c = one_init

pub returns-clause-replay : goal.returns-clause-replay
returns-clause-replay c = one_end journal_form replay_says one_replay
