use Rattle.satp_serve.proofs.Reading.{exchanges}
use Rattle.satp_serve.proofs.laws.law_exchanges.Goals as goal

pub returns : goal.returns
returns g c = exchanges g.G.Responder.replies
