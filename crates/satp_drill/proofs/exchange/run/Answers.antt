use Rattle.satp_drill.proofs.exchange.run.Goals as goal

pub drive_start-requires-clause-number : goal.drive_start-requires-clause-number
drive_start-requires-clause-number g c = c.in-Start.session.low

pub drive_start-requires-clause-closed : goal.drive_start-requires-clause-closed
drive_start-requires-clause-closed g c = c.requires.closed

pub drive_start-requires-clause-within : goal.drive_start-requires-clause-within
drive_start-requires-clause-within g c = c.requires.within

pub returns-in-Start : goal.returns-in-Start
returns-in-Start g c = record { within = c.drive_start.ensures.within }

pub drive_resume-requires-clause-closed : goal.drive_resume-requires-clause-closed
drive_resume-requires-clause-closed g c = c.requires.closed

pub drive_resume-requires-clause-within : goal.drive_resume-requires-clause-within
drive_resume-requires-clause-within g c = c.requires.within

pub returns-in-Resume : goal.returns-in-Resume
returns-in-Resume g c = record { within = c.drive_resume.ensures.within }

pub drive_recover-requires-clause-closed : goal.drive_recover-requires-clause-closed
drive_recover-requires-clause-closed g c = c.requires.closed

pub drive_recover-requires-clause-within : goal.drive_recover-requires-clause-within
drive_recover-requires-clause-within g c = c.requires.within

pub returns-in-Recover : goal.returns-in-Recover
returns-in-Recover g c = record { within = c.drive_recover.ensures.within }
