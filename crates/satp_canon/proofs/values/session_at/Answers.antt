use Rattle.std.proofs.Common.{◌∙◌, ℕ, List, Some, ap, sym}
use Rattle.serde_json.specs.Data.{string}
use Rattle.satp_canon.proofs.Founds.{text_is}
use Rattle.satp_canon.proofs.values.session_at.Goals as goal

pub returns-in-Ok-clause-ok : goal.returns-in-Ok-clause-ok
returns-in-Ok-clause-ok c = text_is _ _ c.in-Some.ensures ∙ ap (λ (t : List ℕ). Some (string t)) (sym c.in-Ok.ensures.read.1)
