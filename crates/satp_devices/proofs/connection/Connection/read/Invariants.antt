use Rattle.std.specs.Io.KnownBytes.{Keeps}
use Rattle.satp_devices.proofs.connection.Connection.read.Given as goal

abbrev pub invariant-loop : goal.invariant-loop
invariant-loop g l = Keeps (g.S.Read.remaining l.fn.self.stream) (g.S.Read.remaining l.self.stream)
