use Rattle.satp_http.specs.Heads.{client}
use Rattle.satp_http.proofs.TakeLemmas.{stuck_stays}
use Rattle.satp_http.proofs.requests.Requests.feed.Goals as goal

pub invariant_of-self : goal.invariant_of-self
invariant_of-self c = stuck_stays client 0 c.self.inside.buffer _ c.add.new.self c.self.inside.stuck c.add.ensures.adds.bytes_are c.self.invariant
