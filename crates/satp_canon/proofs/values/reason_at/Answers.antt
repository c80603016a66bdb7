use Rattle.std.proofs.Common.{◌∙◌, ℕ, List, Some, ap}
use Rattle.serde_json.specs.Data.{string}
use Rattle.satp_canon.proofs.Founds.{reason_is, text_is}
use Rattle.satp_canon.proofs.values.reason_at.Goals as goal

pub returns-in-Some-reason_named-clause-ok : goal.returns-in-Some-reason_named-clause-ok
returns-in-Some-reason_named-clause-ok c = let r = c.in-Some-reason_named.ensures in text_is _ _ c.in-Some.ensures ∙ ap (λ (t : List ℕ). Some (string t)) (reason_is _ _ r)
