-- The laws on payloads.
use Rattle.std.proofs.Common.{ℕ, List, ap, sym, subst, arith}
use Rattle.satp_records.specs.Formats.{texts, payload_of}
use Rattle.satp_records.specs.Laws.{PayloadsFit, OneRecord}
use Rattle.satp_records.proofs.Lengths.{payload_short}
use Rattle.satp_records.proofs.Lists.{IsPayload, one_payload}
use Rattle.satp_records.proofs.Records.{record_payload, same}

pub payloads_fit : PayloadsFit
payloads_fit s formed = (omega arith, payload_short s formed)

pub one_record : OneRecord
one_record s t h g e =
    let fields = one_payload (texts s) (texts t) (payload_of s) (record_payload s h) (subst (IsPayload (texts t)) (sym e) (record_payload t g)) in
    same s t h g (ap (λ (x : ℕ × List (List ℕ)). x.0) fields) (ap (λ (x : ℕ × List (List ℕ)). x.1) fields)
