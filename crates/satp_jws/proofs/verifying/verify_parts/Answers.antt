use Rattle.std.proofs.Common.{◌≡◌, ◌++◌, ◌∷◌, ◌∙◌, List, ℕ, None, Some, ap, subst, sym}
use Rattle.satp_jws.specs.Faults.{header_fault}
use Rattle.satp_base.specs.Signatures.{hmac}
use Rattle.satp_jws.proofs.VerifyLemmas.{bad_header, bad_signature, fault_of, first_fault, reads, second_fault, third_fault}
use Rattle.satp_jws.proofs.verifying.verify_parts.Goals as goal

pub returns-in_err-header : goal.returns-in_err-header
returns-in_err-header c =
    fault_of c.args.key.now c.args.parts.header.now c.args.parts.payload.now c.args.parts.signature.now c.from_residual.result c.in_err-header.field-0.0 c.from_residual.ensures.1
    (λ other. first_fault c.args.key.now c.args.parts.header.now c.args.parts.payload.now c.args.parts.signature.now c.in_err-header.field-0.0 (c.in_err-header.ensures other))

pub returns-in_err-payload : goal.returns-in_err-payload
returns-in_err-payload c =
    fault_of c.args.key.now c.args.parts.header.now c.args.parts.payload.now c.args.parts.signature.now c.from_residual-in_err-payload.result c.in_err-payload.field-0.0 c.from_residual-in_err-payload.ensures.1
    (λ other. second_fault c.args.key.now c.args.parts.header.now c.args.parts.payload.now c.args.parts.signature.now c.in_ok-header.header c.in_err-payload.field-0.0 c.in_ok-header.ensures.0 (c.in_err-payload.ensures other))

pub returns-in_err-signature : goal.returns-in_err-signature
returns-in_err-signature c =
    fault_of c.args.key.now c.args.parts.header.now c.args.parts.payload.now c.args.parts.signature.now c.from_residual-in_err-signature.result c.in_err-signature.field-0.0 c.from_residual-in_err-signature.ensures.1
    (λ other. third_fault c.args.key.now c.args.parts.header.now c.args.parts.payload.now c.args.parts.signature.now c.in_ok-header.header c.in_ok-payload.payload c.in_err-signature.field-0.0 c.in_ok-header.ensures.0 c.in_ok-payload.ensures.0 (c.in_err-signature.ensures other))

pub returns-in_err-check_header : goal.returns-in_err-check_header
returns-in_err-check_header c =
    fault_of c.args.key.now c.args.parts.header.now c.args.parts.payload.now c.args.parts.signature.now c.from_residual-in_err-check_header.result c.in_err-check_header.field-0.0 c.from_residual-in_err-check_header.ensures.1
    (λ other. bad_header c.args.key.now c.args.parts.header.now c.args.parts.payload.now c.args.parts.signature.now c.in_ok-header.header c.in_ok-payload.payload c.in_ok-signature.signature c.in_err-check_header.field-0.0
    c.in_ok-header.ensures.0 c.in_ok-payload.ensures.0 c.in_ok-signature.ensures.0 (subst (λ (h : List ℕ). header_fault h ≡ Some c.in_err-check_header.field-0.0) c.bytes.ensures (c.in_err-check_header.ensures other)))

pub returns-then-not-is_same : goal.returns-then-not-is_same
returns-then-not-is_same c = λ _.
    bad_signature c.args.key.now c.args.parts.header.now c.args.parts.payload.now c.args.parts.signature.now c.in_ok-header.header c.in_ok-payload.payload c.in_ok-signature.signature
    c.in_ok-header.ensures.0 c.in_ok-payload.ensures.0 c.in_ok-signature.ensures.0 (subst (λ (h : List ℕ). header_fault h ≡ None) c.bytes.ensures c.in_ok-check_header.ensures)
    (λ same.
    let hashed = c.hmac_sha256.ensures ∙ ap (λ (k : List ℕ). hmac k c.args.signed.now) c.bytes-3.ensures ∙ ap (hmac c.args.key.now) c.requires in
    let found = c.is_same.ensures.1 (c.bytes-2.ensures ∙ same ∙ sym hashed) in
    cc)

pub returns : goal.returns
returns c =
    let same : c.in_ok-signature.signature ≡ hmac c.args.key.now (c.args.parts.header.now ++ 46 ∷ c.args.parts.payload.now) = sym c.bytes-2.ensures ∙ c.is_same.ensures.0 c.if-not-is_same.false ∙ c.hmac_sha256.ensures ∙ ap (λ (k : List ℕ). hmac k c.args.signed.now) c.bytes-3.ensures ∙ ap (hmac c.args.key.now) c.requires in
    reads c.args.key.now c.args.parts.header.now c.args.parts.payload.now c.args.parts.signature.now c.in_ok-header.header c.in_ok-payload.payload c.in_ok-signature.signature
    c.in_ok-header.ensures.0 c.in_ok-payload.ensures.0 c.in_ok-signature.ensures.0
    c.in_ok-header.ensures.1 c.in_ok-payload.ensures.1 c.in_ok-signature.ensures.1 (subst (λ (h : List ℕ). header_fault h ≡ None) c.bytes.ensures c.in_ok-check_header.ensures) same
