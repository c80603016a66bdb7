use Rattle.satp_http.specs.Heads.{server}
use Rattle.satp_http.proofs.TakeLemmas.{stuck_stays}
use Rattle.satp_http.proofs.responses.Responses.feed.Goals as goal

pub invariant_of-self : goal.invariant_of-self
invariant_of-self c = stuck_stays server c.self.inside.passed c.self.inside.buffer _ c.add.new.self c.self.inside.stuck c.add.ensures.adds.bytes_are c.self.invariant
