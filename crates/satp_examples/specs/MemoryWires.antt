-- A wire in memory: how its calls end, what they leave, and what it tells.
use Rattle.std.specs.Prelude.{◌≡◌, ℕ, [], ◌∷◌, Ok, Err, true, false}
use Rattle.satp_base.specs.Wires.{called, hears, says}
use Rattle.satp_base.specs.declared.wire.Dial.TheVariants.{Accept}
use Rattle.satp_memory.specs.Calling.{failed, fresh, naming, succeeded, wanting}
use Rattle.satp_memory.specs.Talking.{HearsInto, ListensOn, Misses, Opens, SaysAll, Talking, dialled, quiet, traffic_of}

-- the peer will say 1, 2 and 3
abbrev pub new_wire : Talking
new_wire = quiet (1 ∷ 2 ∷ 3 ∷ [])

-- the next call is to fail
abbrev pub named : Talking
named = record new_wire { calls = naming 1 fresh }

-- its connection is open, and was shut
abbrev pub connected : Talking
connected = record (dialled Accept (succeeded fresh) new_wire) { used = true; is_open = true }

abbrev pub closed : Talking
closed = record connected { is_open = false }

-- an opening leaves the wire so
abbrev pub Opened : Talking → Talking → Type 0
Opened old new = Opens {T = ℕ} {E = ℕ} Accept old new (Ok 0)

abbrev pub NotOpened : Talking → Talking → Type 0
NotOpened old new = Opens {T = ℕ} {E = ℕ} Accept old new (Err 0)

-- after a second call
abbrev pub again : Talking → Talking
again w = dialled Accept (failed w.calls) w

pub record OpeningsOfAWire : Type 0 where
  pub the_first : Opened new_wire connected
  pub not_where_named : (new : Talking) → ¬ Opened named new
  pub failed_where_named : NotOpened named (dialled Accept (failed (naming 1 fresh)) named)
  pub no_second : (new : Talking) → ¬ Opened closed new
  pub a_second_is_refused : NotOpened closed (again closed)
  pub noted_unless_memory_is_wanting : NotOpened new_wire (record new_wire { calls = wanting (succeeded fresh) })
  pub not_failed_for_nothing : ¬ NotOpened new_wire (dialled Accept (failed fresh) new_wire)
  pub not_refused_unnoted : ¬ NotOpened closed (record closed { calls = failed closed.calls })
  pub not_open_after_a_failure : ¬ NotOpened named connected
  -- to listen has no connection, and so may come twice
  pub listens_again : ListensOn {T = ℕ} {E = ℕ} Accept closed (record (dialled Accept (succeeded closed.calls) closed) { listens = true }) (Ok 0)
  pub not_listening_where_it_failed : ¬ Misses false Accept named (record (dialled Accept (failed (naming 1 fresh)) named) { listens = true })

-- after a call with a number that succeeded
abbrev pub next : Talking → Talking
next w = record w { calls = succeeded w.calls }

abbrev pub all_heard : Talking
all_heard = record connected { left = []; heard = 1 ∷ 2 ∷ 3 ∷ [] }

pub record TalkOnAWire : Type 0 where
  pub two_heard : HearsInto {E = ℕ} (1 ∷ 2 ∷ []) connected (record (next connected) { left = 3 ∷ []; heard = 1 ∷ 2 ∷ [] }) (Ok 2)
  pub the_end_heard : HearsInto {E = ℕ} (0 ∷ 0 ∷ []) all_heard (record (next all_heard) { ended = true }) (Ok 0)
  pub no_end_without_room : ¬ HearsInto {E = ℕ} [] all_heard (record (next all_heard) { ended = true }) (Ok 0)
  pub not_heard_twice : ¬ HearsInto {E = ℕ} (1 ∷ 2 ∷ []) connected (record (next connected) { heard = 1 ∷ 2 ∷ [] }) (Ok 2)
  pub not_other_bytes : (new : Talking) → ¬ HearsInto {E = ℕ} (2 ∷ 1 ∷ []) connected new (Ok 2)
  pub not_failed_for_nothing : (new : Talking) → ¬ HearsInto {E = ℕ} [] connected new (Err 0)
  pub all_said : SaysAll {E = ℕ} (7 ∷ 8 ∷ []) connected (record (next connected) { said = 7 ∷ 8 ∷ [] }) (Ok 2)
  pub not_said_in_part : (new : Talking) → ¬ SaysAll {E = ℕ} (7 ∷ 8 ∷ []) connected new (Ok 1)
  pub nothing_said_by_a_failure : ¬ SaysAll {E = ℕ} (7 ∷ []) connected (record connected { said = 7 ∷ []; calls = wanting (succeeded connected.calls) }) (Err 0)

pub record TrafficInMemory : Type 0 where
  pub nothing : traffic_of new_wire ≡ record { conversations = []; dials = [] }
  pub opened : traffic_of connected ≡ called Accept (traffic_of new_wire)
  pub heard : traffic_of (record connected { left = 3 ∷ []; heard = 1 ∷ 2 ∷ [] }) ≡ hears (1 ∷ 2 ∷ []) false (traffic_of connected)
  pub said : traffic_of (record connected { said = 7 ∷ [] }) ≡ says (7 ∷ []) (traffic_of connected)
  -- what was told stays told, and a second call that failed opens nothing
  pub not_forgotten_when_it_is_shut : traffic_of closed ≡ traffic_of connected
  pub refused : traffic_of (again closed) ≡ record (traffic_of connected) { dials = Accept ∷ Accept ∷ [] }
