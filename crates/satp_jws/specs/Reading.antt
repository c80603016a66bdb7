-- What three parts that are accepted hold.
use Rattle.std.specs.Prelude.{◌≡◌, ℕ, List, ◌∷◌, ◌++◌, None}
use Rattle.satp_base.specs.Signatures.{encoded, hmac}
use Rattle.satp_jws.specs.Faults.{bytes_of, header_fault, three_fault}

pub record Reads (key first second third header payload : List ℕ) : Type 0 where
  pub accepted : three_fault key first second third ≡ None
  pub header_is : bytes_of first ≡ header
  pub payload_is : bytes_of second ≡ payload
  pub listed : header_fault header ≡ None
  pub header_part : first ≡ encoded header
  pub payload_part : second ≡ encoded payload
  pub signature_part : third ≡ encoded (hmac key (first ++ 46 ∷ second))
