-- The words for the sides of a session.
use Rattle.std.specs.Prelude.{ℕ, List, codes}
use Rattle.satp_base.specs.declared.message.Role.{Role}
use Rattle.satp_base.specs.declared.message.Role.TheVariants.{Origin, Recipient}

abbrev pub role_text : Role → List ℕ
role_text Origin = codes "origin"
role_text Recipient = codes "recipient"
