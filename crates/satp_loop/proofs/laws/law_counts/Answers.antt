use Rattle.satp_serve.specs.GatewayReplies.{RepliesAt, site_view}
use Rattle.satp_loop.specs.Peers.{PeerReplies}
use Rattle.satp_loop.proofs.Counts.{counts_steps}
use Rattle.satp_loop.proofs.laws.law_counts.Goals as goal

pub returns : goal.returns
returns g c = counts_steps (PeerReplies (RepliesAt (site_view g.S.Device.told g.S.Device.book g.S.Device.faults) g.S.Device.beside))
