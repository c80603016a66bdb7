use Rattle.std.proofs.Common.{Some}
use Rattle.satp_memory.specs.Steps.{told_of}
use Rattle.satp_drill.proofs.Keeping.{fits_from}
use Rattle.satp_drill.proofs.exchange.exchange.Goals as goal

pub invariant_of-own : goal.invariant_of-own
invariant_of-own g c = record { within = fits_from c.run-driven.new.gateway (Some (told_of c.run-driven.new.site.disk)) c.run-driven.ensures.within }
