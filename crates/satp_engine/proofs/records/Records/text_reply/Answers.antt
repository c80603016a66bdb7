use Rattle.satp_engine.proofs.Carrying.{made-reply}
use Rattle.satp_engine.proofs.records.Records.text_reply.Goals as goal

pub returns-in-Some : goal.returns-in-Some
returns-in-Some c =
    made-reply c.args.self.now.log c.args.session c.args.replying c.args.standing c.args.made c.in-Some.text c.state.result.now c.view.result.now c.requires.stands c.in-Some.is c.state.ensures c.view.ensures c.after_made.result c.after_made.ensures.reply c.requires.unwritten
