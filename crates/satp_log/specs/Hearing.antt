-- Why a text is no message's own text under a key: the first test that fails, in the order of the tests.
use Rattle.std.specs.Prelude.{ℕ, List, Option, Some, None, option_map, if◌then◌else◌}
use Rattle.std.specs.Str.{bytes_eq}
use Rattle.satp_base.specs.Faults.{or_else}
use Rattle.satp_base.specs.Signatures.{own_header}
use Rattle.satp_canon.specs.FirstFault.{first_fault}
use Rattle.satp_jws.specs.Faults.{header_of, jws_fault, payload_of}
use Rattle.satp_log.specs.declared.fault.Unheard.{Unheard}
use Rattle.satp_log.specs.declared.fault.Unheard.TheVariants.{Jws, Header, Body}

-- the signed text is a compact JWS under the key, its header is the gateways' own, and its payload is the canonical text of a message
unfoldable pub reading_fault : List ℕ → List ℕ → Option Unheard
reading_fault key text =
    or_else (option_map Jws (jws_fault key text))
    (or_else (if bytes_eq (header_of text) own_header then None else Some Header)
    (option_map Body (first_fault (payload_of text))))
