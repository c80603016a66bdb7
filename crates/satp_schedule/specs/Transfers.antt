-- What a transfer is about, in the fields behind its number.
use Rattle.std.specs.Prelude.{ℕ, List, [], ◌∷◌}
use Rattle.satp_base.specs.Values.{name_text, amount_text}
use Rattle.satp_schedule.specs.declared.parse.Transfer.{Transfer}

abbrev pub transfer_fields : Transfer → List (List ℕ)
transfer_fields t = name_text t.asset ∷ amount_text t.amount ∷ name_text t.originator ∷ name_text t.beneficiary ∷ []
