use Rattle.std.proofs.Common.{◌∙◌, arith, ap}
use Rattle.satp_base.specs.Founding.{cap_among}
use Rattle.satp_base.proofs.GenesisLemmas.{no_cap, with_asset}
use Rattle.satp_base.proofs.genesis.Genesis.add_asset.Goals as goal

pub invariant_of-self : goal.invariant_of-self
invariant_of-self c = with_asset c.self.inside.assets.items c.push.new.self.items c.self.inside.holds.items _ _ c.self.invariant (omega (arith, c.len.ensures, c.if-len-ge-ASSETS.false))
    (no_cap c.cap_in.result _ (c.cap_in.ensures ∙ ap (λ xs. cap_among xs c.args.name) c.deref.ensures.value) c.if-is_some.ensures) c.push.ensures.items
