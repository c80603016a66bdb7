use Rattle.std.proofs.Common.{◌∙◌, Some, ap, length, sym, arith}
use Rattle.std.specs.Option.{option_copied}
use Rattle.satp_engine.proofs.Provisions.{text-before, text-past, text-taken}
use Rattle.satp_engine.proofs.StartLemmas.{ok-then}
use Rattle.satp_engine.proofs.prepare.copy_at.Goals as goal

pub returns-then-index-length : goal.returns-then-index-length
returns-then-index-length c =
    let length_is = c.length-length.ensures.length ∙ ap length c.tale.ensures in
    ok-then c.copy_entry.result _ _ (λ text e. e ∙ text-before c.args.chain.now (option_copied c.args.taken) c.args.index (omega (arith, c.if-index-length.true, length_is))) c.copy_entry.ensures

pub returns-in_ok-copy : goal.returns-in_ok-copy
returns-in_ok-copy c =
    let length_is = c.length-length.ensures.length ∙ ap length c.tale.ensures in
    ap (λ text. Some text) (c.in_ok-copy.ensures ∙ c.bytes.ensures)
    ∙ text-taken c.args.chain.now (option_copied c.args.taken) c.in-Some.signed.now c.args.index (ap option_copied c.in-Some.is) (c.if-index-length-2.true ∙ length_is)

pub returns-else-index-length-2 : goal.returns-else-index-length-2
returns-else-index-length-2 c =
    let length_is = c.length-length.ensures.length ∙ ap length c.tale.ensures in
    text-past c.args.chain.now (option_copied c.args.taken) c.in-Some.signed.now c.args.index (ap option_copied c.in-Some.is) (omega (arith, c.if-index-length.false, length_is)) (λ e. c.if-index-length-2.false (e ∙ sym length_is))
