use Rattle.satp_log.proofs.AddLemmas.{adds-err, adds-other, adds-session}
use Rattle.satp_log.proofs.journal.Log.add.Goals as goal

pub returns-in-Session : goal.returns-in-Session
returns-in-Session c = λ payloads setup xs j h.
    let found = c.in-Ok.ensures.found in
    adds-session payloads setup xs c.args.payload.now c.args.self.now c.add_record.new.self c.in-Ok.stored c.in-Session.session c.in-Session.rec c.in-Session.text c.bytes.result.now c.add_record.result j found.0 found.1 c.in-Session.is
    c.bytes.ensures (c.add_record.ensures setup xs j.log h)

pub returns-in-Ok : goal.returns-in-Ok
returns-in-Ok c = λ payloads setup xs j h.
    let found = c.in-Ok.ensures.found in
    adds-other payloads setup xs c.args.payload.now c.args.self.now c.in-Ok.stored j found.0 found.1 c.in_default.not-Session

pub returns : goal.returns
returns c = λ payloads setup xs j h.
    adds-err payloads setup xs c.args.payload.now c.args.self.now c.decode.result c.in-Err.fault c.misfit_of.result j c.in-Err.is c.decode.ensures.only c.misfit_of.ensures.memory c.misfit_of.ensures.other
