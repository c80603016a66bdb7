-- The checker computes the tests of all looks and entries: this file imports definitions alone, so that lemmas don't rerun it.
use Rattle.std.proofs.Common.{◌≡◌, Bool, true, refl}
use Rattle.satp_sides.proofs.AnswerTable.{origins_answer, recipients_answer}

pub origins_answered : (mint assign prepared : Bool) → origins_answer mint assign prepared ≡ true
origins_answered mint assign prepared = refl

pub recipients_answered : (lock burn rescue : Bool) → recipients_answer lock burn rescue ≡ true
recipients_answered lock burn rescue = refl
