use Rattle.std.proofs.Common.{ap}
use Rattle.std.specs.Option.{option_copied}
use Rattle.satp_plan.proofs.planning.compose.Goals as goal

pub compose_on-requires-clause-taken : goal.compose_on-requires-clause-taken
compose_on-requires-clause-taken c = c.requires.taken c.in-Some.signed.now (ap option_copied c.in-Some.is)
