use Rattle.satp_log.proofs.LogLemmas.{begin-err, begin-ok}
use Rattle.satp_log.proofs.journal.Log.begin.Goals as goal

pub returns-in-Err : goal.returns-in-Err
returns-in-Err c = begin-err c.args.payload.now c.decode.result c.in-Err.fault c.misfit_of.result c.in-Err.is c.decode.ensures.only c.misfit_of.ensures.memory c.misfit_of.ensures.other

pub returns : goal.returns
returns c = begin-ok c.args.payload.now c.decode.result c.in-Ok-Setup.field-0 c.in-Ok-Setup.setup c.new-in-Ok-new.result.items _ c.in-Ok-Setup.is c.in-Ok-Setup.field-0-is c.decode.ensures.found c.new-in-Ok-new.ensures.items
