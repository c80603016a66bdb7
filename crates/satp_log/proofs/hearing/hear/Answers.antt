use Rattle.std.proofs.Common.{◌∙◌, sym, ap, inl, inr}
use Rattle.std.specs.Str.{bytes_eq}
use Rattle.satp_base.specs.Canonical.{canonical}
use Rattle.satp_base.specs.Signatures.{own_header}
use Rattle.satp_canon.specs.FirstFault.{first_fault}
use Rattle.satp_jws.proofs.HeaderLemmas.{own_header_passes}
use Rattle.satp_log.proofs.HearLemmas.{header_bytes, header_first, is_header, is_other_header, none_first, own_as, own_is, payload_bytes, payload_short, short_as, unread_first, unverified_first}
use Rattle.satp_log.proofs.hearing.hear.Goals as goal

pub returns-in-Err-clause-first : goal.returns-in-Err-clause-first
returns-in-Err-clause-first c = unverified_first c.args.key.now c.args.text.now c.in-Err.fault c.unverified.result c.in-Err.ensures.first c.unverified.ensures.memory c.unverified.ensures.other

pub returns-in-Err-clause-complete : goal.returns-in-Err-clause-complete
returns-in-Err-clause-complete c = λ m o.
    c.unverified.ensures.memory (c.in-Err.ensures.complete own_header (canonical m) header_bytes (payload_bytes c.args.key.now c.args.text.now m o) own_header_passes (own_as c.args.key.now c.args.text.now m o))

pub returns-then-not-is_own_header-clause-first : goal.returns-then-not-is_own_header-clause-first
returns-then-not-is_own_header-clause-first c = λ n.
    let header = c.bytes.ensures ∙ c.in-Ok.ensures.first.1 in
    header_first c.args.key.now c.args.text.now c.in-Ok.ensures.first.0 (ap (λ h. bytes_eq h own_header) (sym header) ∙ sym c.is_own_header.ensures ∙ c.if-not-is_own_header.true)

pub returns-then-not-is_own_header-clause-complete : goal.returns-then-not-is_own_header-clause-complete
returns-then-not-is_own_header-clause-complete c = λ m o.
    let same = c.in-Ok.ensures.complete own_header (canonical m) header_bytes (payload_bytes c.args.key.now c.args.text.now m o) own_header_passes (own_as c.args.key.now c.args.text.now m o) in
    absurd (is_other_header c.bytes.result.now (sym c.is_own_header.ensures ∙ c.if-not-is_own_header.true) (c.bytes.ensures ∙ same.0))

pub returns-in-Err-read-clause-first : goal.returns-in-Err-read-clause-first
returns-in-Err-read-clause-first c =
    let header = c.bytes.ensures ∙ c.in-Ok.ensures.first.1 in
    let payload = c.bytes-2.ensures ∙ c.in-Ok.ensures.first.2 in
    unread_first c.args.key.now c.args.text.now c.in-Err-read.fault c.unread.result c.in-Ok.ensures.first.0 (ap (λ h. bytes_eq h own_header) (sym header) ∙ sym c.is_own_header.ensures ∙ c.if-not-is_own_header.false)
    (elim c.in-Err-read.ensures.fault [ inl q ↦ inl q | inr q ↦ inr (ap first_fault (sym payload) ∙ q) ]) c.unread.ensures.memory c.unread.ensures.other

pub returns-in-Err-read-clause-complete : goal.returns-in-Err-read-clause-complete
returns-in-Err-read-clause-complete c = λ m o.
    let same = c.in-Ok.ensures.complete own_header (canonical m) header_bytes (payload_bytes c.args.key.now c.args.text.now m o) own_header_passes (own_as c.args.key.now c.args.text.now m o) in
    let payload = c.bytes-2.ensures ∙ same.1 in
    c.unread.ensures.memory (c.in-Err-read.ensures.complete m o.0 payload (short_as _ _ payload (payload_short c.args.key.now c.args.text.now m o)))

pub returns-in-Ok-copy-clause-own : goal.returns-in-Ok-copy-clause-own
returns-in-Ok-copy-clause-own c =
    let found = c.in-Ok-read.ensures.found in (
      own_is c.args.key.now c.args.text.now c.in-Ok.verified.header c.in-Ok.verified.payload c.in-Ok-read.message c.in-Ok.ensures.signed.1
          (sym c.bytes.ensures ∙ is_header c.bytes.result.now (sym c.is_own_header.ensures ∙ c.if-not-is_own_header.false)) found.0 (sym c.bytes-2.ensures ∙ found.1),
      c.in-Ok-copy.ensures,
    )

pub returns-in-Ok-copy-clause-first : goal.returns-in-Ok-copy-clause-first
returns-in-Ok-copy-clause-first c =
    let header = c.bytes.ensures ∙ c.in-Ok.ensures.first.1 in
    let payload = c.bytes-2.ensures ∙ c.in-Ok.ensures.first.2 in
    none_first c.args.key.now c.args.text.now c.in-Ok.ensures.first.0 (ap (λ h. bytes_eq h own_header) (sym header) ∙ sym c.is_own_header.ensures ∙ c.if-not-is_own_header.false)
    (ap first_fault (sym payload) ∙ c.in-Ok-read.ensures.fault)

pub returns-in-Ok-copy-clause-complete : goal.returns-in-Ok-copy-clause-complete
returns-in-Ok-copy-clause-complete c = λ m o.
    let same = c.in-Ok.ensures.complete own_header (canonical m) header_bytes (payload_bytes c.args.key.now c.args.text.now m o) own_header_passes (own_as c.args.key.now c.args.text.now m o) in
    let payload = c.bytes-2.ensures ∙ same.1 in
    c.in-Ok-read.ensures.complete m o.0 payload (short_as _ _ payload (payload_short c.args.key.now c.args.text.now m o))
