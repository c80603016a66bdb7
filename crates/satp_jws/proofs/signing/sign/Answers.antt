use Rattle.std.proofs.Common.{◌≡◌}
use Rattle.satp_base.specs.Signatures.{hmac, own_header}
use Rattle.satp_jws.proofs.VerifyLemmas.{signed_steps}
use Rattle.satp_jws.proofs.signing.sign.Goals as goal

pub returns : goal.returns
returns c =
    let signature : c.hmac_sha256-signature.result ≡ hmac c.args.key.now c.append_encoded-2.new.text = cc in
    signed_steps c.args.key.now own_header c.args.payload.now c.in_ok-text.text c.append_encoded.new.text c.append.new.self c.append_encoded-2.new.text c.append-2.new.self c.append_encoded-3.new.text
    c.hmac_sha256-signature.result c.in_ok-text.ensures c.in_ok-append_encoded.ensures.ok c.in_ok-append.ensures.ok c.in_ok-append_encoded-2.ensures.ok signature c.in_ok-append-2.ensures.ok c.in_ok-append_encoded-3.ensures.ok
