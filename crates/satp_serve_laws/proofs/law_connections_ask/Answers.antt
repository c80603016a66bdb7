use Rattle.satp_serve_laws.proofs.law_connections_ask.Goals as goal
use Rattle.satp_serve_laws.proofs.AsksLaw.{connections-ask}

pub returns : goal.returns
returns c = connections-ask
