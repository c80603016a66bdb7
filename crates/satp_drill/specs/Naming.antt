-- How the sessions of a schedule are named one after the other.
use Rattle.std.specs.Prelude.{List, [], ◌∷◌, ◌++◌, Option, Some, None, if◌then◌else◌}
use Rattle.std.specs.List.{list_any}
use Rattle.satp_base.specs.declared.session.SessionId.{SessionId}
use Rattle.satp_sides.specs.Points.{is_session}

-- with one session more, where it isn't there
abbrev pub adding : List SessionId → Option SessionId → List SessionId
adding sessions None = sessions
adding sessions (Some s) = if list_any (λ t. is_session s t) sessions then sessions else sessions ++ s ∷ []
