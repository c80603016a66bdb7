-- How the sessions of a report are counted.
use Rattle.std.specs.Prelude.{Bool, not, is_some, List, Option}
use Rattle.satp_base.specs.Tales.{is_committed, is_rolled_back}
use Rattle.satp_base.specs.declared.session.SessionId.{SessionId}
use Rattle.satp_base.specs.declared.view.View.{View}
use Rattle.satp_drill.specs.declared.count.Ended.{Ended}
use Rattle.satp_drill.specs.declared.count.Ended.TheVariants.{Committed, RolledBack, NotBegun}
use Rattle.satp_drill_runs.specs.Reports.{of_side, origin_of}
use Rattle.satp_sides.specs.Points.{Stored, tale_of, view_in}

-- a session of which its origin's records say this has come to that
abbrev pub is_ended : Ended → Option View → Bool
is_ended Committed v = is_committed (tale_of v)
is_ended RolledBack v = is_rolled_back (tale_of v)
is_ended NotBegun v = not (is_some v)

-- by the records of A and of B
abbrev pub has_ended : Ended → List Stored → List Stored → SessionId → Bool
has_ended how a b s = is_ended how (view_in s (of_side (origin_of s) a b))
