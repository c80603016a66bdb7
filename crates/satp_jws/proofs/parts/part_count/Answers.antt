use Rattle.std.proofs.Common.{◌+◌, ℕ, ◌∙◌, ap, sym}
use Rattle.std.proofs.lemmas.List.Splits.{length-slice_split}
use Rattle.satp_jws.specs.Faults.{is_stop}
use Rattle.satp_jws.proofs.parts.part_count.Goals as goal

pub returns : goal.returns
returns c = ap (λ (n : ℕ). n + 1) c.stop_count.ensures.count ∙ sym (length-slice_split is_stop c.args.text.now)
