use Rattle.std.proofs.Common.{◌∙◌, arith, sym, ap}
use Rattle.std.specs.Prelude.{option_map}
use Rattle.satp_base.specs.Founding.{amount_number, cap_among, held_among}
use Rattle.satp_base.proofs.GenesisLemmas.{with_hold}
use Rattle.satp_base.proofs.genesis.Genesis.add_hold.Goals as goal

pub invariant_of-self : goal.invariant_of-self
invariant_of-self c = with_hold c.self.inside.assets.items c.self.inside.holds.items c.push.new.self.items _ _ c.in-Some.cap.number c.self.invariant (omega (arith, c.len.ensures, c.if-len-ge-HOLDS.false))
    (sym (ap (λ xs. cap_among xs c.args.asset) c.deref.ensures.value) ∙ sym c.cap_in.ensures ∙ ap (option_map amount_number) c.in-Some.is)
    (omega (arith, c.if-held_in-get.false, c.held_in.ensures ∙ ap (λ xs. held_among xs c.args.asset) c.deref-else-len-ge-HOLDS.ensures.value, c.get.ensures, c.get-else-len-ge-HOLDS.ensures)) c.push.ensures.items
