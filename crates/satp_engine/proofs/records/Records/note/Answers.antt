use Rattle.satp_engine.proofs.records.Records.note.Goals as goal

pub store-requires-clause-payload : goal.store-requires-clause-payload
store-requires-clause-payload g c = let p = c.requires.planned in c.in-Some.ensures.payload c.args.session p.state.chain c.args.self.now.log.setup.key p.made
