use Rattle.std.proofs.Common.{◌∙◌, ap, length, arith, refl}
use Rattle.satp_words.proofs.KeyTexts.{found_key, refused_key, same_key}
use Rattle.satp_words.proofs.Listings.{same_error}
use Rattle.satp_words.proofs.keys.key.Goals as goal
use Rattle.satp_words.proofs.keys.key.Goals.{then-len-lt32-via-then-len-lt32, then-len-lt32-via-else-len-lt32+then-len-gt64}

pub returns-in-Err-clause-refused : goal.returns-in-Err-clause-refused
returns-in-Err-clause-refused c e key k =
    refused_key c.args.text.now c.as_bytes.result.now key c.in-Err.error c.as_bytes.ensures.value c.in-Err.ensures.strict c.in-Err.ensures.err (c.fault.ensures (same_error _ _ _ refl e)) k

pub returns-then-len-lt32-clause-refused : goal.returns-then-len-lt32-clause-refused
returns-then-len-lt32-clause-refused c e key k =
    let same = same_key c.args.text.now c.as_bytes.result.now key c.in-Ok.bytes.items c.as_bytes.ensures.value c.in-Ok.ensures.strict c.in-Ok.ensures.ok k in
    elim c.then-len-lt32.branch [
      | then-len-lt32-via-then-len-lt32 w ↦ absurd (omega (arith, ap length same, k.least, k.most))
      | then-len-lt32-via-else-len-lt32+then-len-gt64 w ↦ absurd (omega (arith, ap length same, k.least, k.most))
    ]

pub returns-clause-ok : goal.returns-clause-ok
returns-clause-ok c = found_key c.args.text.now c.as_bytes.result.now c.in-Ok.bytes.items c.in_ok-copy.field-0 c.as_bytes.ensures.value c.in-Ok.ensures.exact (c.in_ok-copy.ensures ∙ c.as_slice.ensures.value) (omega (arith, c.as_slice.ensures.len, ap length c.as_slice.ensures.value)) (omega (arith, c.as_slice.ensures.len, ap length c.as_slice.ensures.value)) c.in-Ok.ensures.bytes
