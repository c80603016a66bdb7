use Rattle.std.proofs.Common.{refl, arith}
use Rattle.satp_serve.specs.Feeding.{unheard}
use Rattle.satp_serve.proofs.Hearing.{ends_in_memory, heard_none}
use Rattle.satp_serve.proofs.connection.converse.Goals as goal

pub returns-in_default-clause-says : goal.returns-in_default-clause-says
returns-in_default-clause-says g c =
    let told = g.W.Wire.told c.args.wire.now in
    let faults = g.W.Wire.faults c.args.wire.now in
    ends_in_memory g.G.Responder.replies c.args.responder.now c.args.site.now unheard c.args.responder.now c.args.site.now told told faults faults 0 (heard_none g.G.Responder.replies c.args.responder.now c.args.site.now unheard told refl) (omega arith) refl
