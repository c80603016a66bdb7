use Rattle.std.proofs.Common.{◌<◌, ◌≤◌, List, ℕ, length, subst}
use Rattle.satp_app.specs.Init.{IsGenesisText, IsRefusedAt}
use Rattle.satp_outcome.specs.Outside.{source}
use Rattle.satp_app.proofs.Genesis.{reads_long, reads_short, refused_at}
use Rattle.satp_app.proofs.init_command.read_genesis.Goals as goal

pub returns-then-bytes-gt-BYTES : goal.returns-then-bytes-gt-BYTES
returns-then-bytes-gt-BYTES g c =
    reads_long (source g.I.Source.faults g.I.Source.left g.I.Source.is_over c.args.input.now) (source g.I.Source.faults g.I.Source.left g.I.Source.is_over c.read_to.new.input) c.in-Ok.held c.in-Ok.ensures.0 c.in-Ok.ensures.1 (subst (λ (x : List ℕ). 65536 < length x) c.bytes.ensures c.if-bytes-gt-BYTES.true)

pub returns-in-Ok-read : goal.returns-in-Ok-read
returns-in-Ok-read g c =
    reads_short (IsGenesisText c.in-Ok-read.genesis) (source g.I.Source.faults g.I.Source.left g.I.Source.is_over c.args.input.now) (source g.I.Source.faults g.I.Source.left g.I.Source.is_over c.read_to.new.input) c.in-Ok.held c.in-Ok.ensures.0 c.in-Ok.ensures.1
    (subst (λ (x : List ℕ). length x ≤ 65536) c.bytes.ensures c.if-bytes-gt-BYTES.false) (subst (λ (x : List ℕ). IsGenesisText c.in-Ok-read.genesis x) c.bytes-2.ensures c.in-Ok-read.ensures.read)

pub returns-in-Err-Line : goal.returns-in-Err-Line
returns-in-Err-Line g c =
    let short = subst (λ (x : List ℕ). length x ≤ 65536) c.bytes.ensures c.if-bytes-gt-BYTES.false in
    reads_short (IsRefusedAt c.in-Err-Line.number) (source g.I.Source.faults g.I.Source.left g.I.Source.is_over c.args.input.now) (source g.I.Source.faults g.I.Source.left g.I.Source.is_over c.read_to.new.input) c.in-Ok.held c.in-Ok.ensures.0 c.in-Ok.ensures.1 short
    (refused_at c.in-Err-Line.number c.in-Err-Line.field-0 c.bytes-2.result.now c.in-Ok.held c.bytes-2.ensures c.in-Err-Line.field-0-is c.in-Err-Line.ensures.read)
