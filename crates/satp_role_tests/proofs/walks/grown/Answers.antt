use Rattle.satp_role_tests.proofs.walks.grown.Goals as goal

pub push-requires-clause-allowed : goal.push-requires-clause-allowed
push-requires-clause-allowed c = c.allows.ensures.0 c.if-not-allows.false
