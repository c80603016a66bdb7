use Rattle.satp_engine.proofs.Looping.{planned-made, planned-note, due-one}
use Rattle.satp_engine.proofs.records.Records.append.Goals as goal

pub make-requires-clause-planned : goal.make-requires-clause-planned
make-requires-clause-planned g c = planned-made c.args.self.now.log c.args.session c.args.plan.now c.args.way c.args.rec c.in-Made.kind c.requires.planned c.in-Made.is

pub append_note-requires-clause-planned : goal.append_note-requires-clause-planned
append_note-requires-clause-planned g c = planned-note c.args.self.now.log c.args.session c.args.plan.now c.args.way c.args.rec c.requires.planned c.in_default.not-Made

pub append_note-requires-clause-due : goal.append_note-requires-clause-due
append_note-requires-clause-due g c = due-one c.args.self.now.log c.args.session c.args.plan.now c.args.way c.args.rec c.requires.planned
