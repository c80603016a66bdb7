use Rattle.std.proofs.Common.{◌∙◌, ap, refl, sym, subst}
use Rattle.satp_base.specs.Founding.{Founding}
use Rattle.satp_base.specs.Genesis.{IsGenesis}
use Rattle.satp_outputs.specs.States.{unspent_in}
use Rattle.satp_outputs.specs.Unspent.{first_unspent}
use Rattle.satp_outputs.proofs.BeginLemmas.{first_agrees, first_numbers}
use Rattle.satp_outputs.proofs.outputs.OutputsLedgerCore.begin.Goals as goal

pub invariant_of-result : goal.invariant_of-result
invariant_of-result c =
    let is = subst IsGenesis (sym c.in_ok-genesis.ensures) c.in_ok-unspent.ensures.valid in
    let first = c.in_ok-unspent.ensures.outputs ∙ ap (λ (g : Founding). first_unspent g.holds) (sym c.in_ok-genesis.ensures) in
    record {
      agrees = first_agrees c.in_ok-genesis.genesis c.new.result.entries _ 0 (unspent_in c.in_ok-unspent.unspent) is c.new.ensures.empty first refl;
      numbers = first_numbers c.in_ok-genesis.genesis c.new.result.entries _ (unspent_in c.in_ok-unspent.unspent) is first refl;
    }
