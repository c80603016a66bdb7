-- What holds of the payloads of records, whoever writes them.
use Rattle.std.specs.Prelude.{◌≡◌}
use Rattle.satp_base.specs.Format.{IsPayload}
use Rattle.satp_records.specs.Formats.{IsFormed, payload_of}
use Rattle.satp_records.specs.declared.stored.Stored.{Stored}

-- a journal takes the payload of every record that can be stored
abbrev pub PayloadsFit : Type 0
PayloadsFit = (s : Stored) → IsFormed s → IsPayload (payload_of s)

-- no two records that can be stored have one payload
abbrev pub OneRecord : Type 0
OneRecord = (s t : Stored) → IsFormed s → IsFormed t → payload_of s ≡ payload_of t → s ≡ t
