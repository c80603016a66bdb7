use Rattle.std.proofs.Common.{◌≡◌, [], subst}
use Rattle.satp_base.specs.Founding.{Founding}
use Rattle.satp_base.specs.GenesisText.{AcceptsLine, most_bytes, nothing}
use Rattle.satp_base.specs.Lines.{Fails, IsLines}
use Rattle.satp_base.proofs.OneGenesis.{one_accepted}
use Rattle.satp_base.proofs.OneReading.{not_refused, one_reading, want_of_memory}
use Rattle.satp_base.proofs.genesis.Genesis.read.Goals as goal

as_nothing : (g : Founding) → g.assets ≡ [] → g.holds ≡ [] → g ≡ nothing
as_nothing g a h = λ i. record { assets = a i; holds = h i }

pub returns-in_err-read_lines-clause-complete : goal.returns-in_err-read_lines-clause-complete
returns-in_err-read_lines-clause-complete c = λ genesis is.
    let start = as_nothing c.new-genesis.result c.new-genesis.ensures.assets c.new-genesis.ensures.holds in
    let fault = c.in_err-read_lines.field-0.0 in
    want_of_memory c.from_residual.result fault genesis c.from_residual.ensures.1
    (not_refused AcceptsLine one_accepted most_bytes c.args.text.now nothing genesis fault is (subst (λ (g : Founding). Fails AcceptsLine most_bytes c.args.text.now g fault) start c.in_err-read_lines.ensures.read))

pub returns-clause-complete : goal.returns-clause-complete
returns-clause-complete c = λ genesis is.
    let start = as_nothing c.new-genesis.result c.new-genesis.ensures.assets c.new-genesis.ensures.holds in
    one_reading AcceptsLine one_accepted most_bytes c.args.text.now nothing c.read_lines.new.reader genesis (subst (λ (g : Founding). IsLines AcceptsLine most_bytes c.args.text.now g c.read_lines.new.reader) start c.in_ok-read_lines.ensures.read) is
