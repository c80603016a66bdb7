use Rattle.std.proofs.Common.{◌≡◌, ◌∙◌, ◌++◌, List, ℕ, OnOk, subst}
use Rattle.satp_base.specs.Signatures.{encoded}
use Rattle.satp_base.proofs.SignatureLemmas.{encoded_by}
use Rattle.satp_jws.proofs.encoding.append_encoded.Goals as goal

pub returns : goal.returns
returns c =
    let same : c.as_bytes.result.now ≡ encoded c.args.bytes.now = c.as_bytes.ensures.value ∙ c.in_ok-symbols.ensures.text ∙ encoded_by c.args.bytes.now in
    record { ok = subst (λ (x : List ℕ). OnOk c.append.result (c.append.new.self ≡ c.args.text.now ++ x)) same c.append.ensures.ok }
