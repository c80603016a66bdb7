-- A wire whose peer answers what is said: the bytes of its one connection, and what its calls on them do.
use Rattle.std.specs.Prelude.{◌≡◌, ◌≤◌, ◌⊎◌, ℕ, ◌+◌, ◌-◌, ◌==◌, ◌||◌, ◌&&◌, min, nat_lt, Bool, true, false, if◌then◌else◌, List, [], ◌∷◌, ◌++◌, length, take}
use Rattle.satp_base.specs.Calls.{risen}
use Rattle.satp_base.specs.Wires.{Conversation, Traffic}
use Rattle.satp_base.specs.declared.address.Address.{Address}
use Rattle.satp_base.specs.declared.wire.Dial.{Dial}
use Rattle.satp_base.specs.declared.wire.Dial.TheVariants.{Listen}

-- how many of the peer's bytes were heard, the bytes said, whether the end was heard, whether the one connection was opened and is open, whether it listens, all calls that
-- listen, accept or connect, and how many calls failed, and how many of these found no memory
pub record Lining : Type 0 where
  pub place : ℕ
  pub said : List ℕ
  pub ended : Bool
  pub used : Bool
  pub is_open : Bool
  pub listens : Bool
  pub dials : List Dial
  pub faults : ℕ
  pub wants : ℕ

-- before any call
abbrev pub quiet : Lining
quiet = record { place = 0; said = []; ended = false; used = false; is_open = false; listens = false; dials = []; faults = 0; wants = 0 }

-- the one connection, on which the peer said these bytes
abbrev pub talk : Lining → List ℕ → Conversation
talk line answers = record { heard = take line.place answers; said = line.said; ended = line.ended }

-- what it tells: the one connection, where it was opened (one that is open was)
abbrev pub traffic_of : Lining → List ℕ → Traffic
traffic_of line answers = record { conversations = if line.is_open || line.used then talk line answers ∷ [] else []; dials = line.dials }

-- ---- after a call

-- a call for which no memory was found does nothing else
abbrev pub wanting : Lining → Lining
wanting line = record line { faults = risen line.faults 1; wants = risen line.wants 1 }

-- a call that listens, accepts or connects is told
abbrev pub dialled : Dial → Lining → Lining
dialled dial line = record line { dials = line.dials ++ dial ∷ [] }

abbrev pub listening : Address → Lining → Lining
listening at line = record line { dials = line.dials ++ Listen at ∷ []; listens = true }

abbrev pub opening : Dial → Lining → Lining
opening dial line = record line { dials = line.dials ++ dial ∷ []; place = 0; said = []; ended = false; used = true; is_open = true }

abbrev pub refused : Dial → Lining → Lining
refused dial line = record line { dials = line.dials ++ dial ∷ []; faults = risen line.faults 1 }

-- A connection isn't opened where one was before, so that two calls are told by now, or where no memory was found.
abbrev pub Misses : Dial → Lining → Lining → Type 0
Misses dial old new = ((old.used ≡ true) × (2 ≤ length new.dials) × (new ≡ refused dial old)) ⊎ (new ≡ wanting old)

-- how many of the peer's bytes a read hears: all that are left and fit, and none after the end was heard
abbrev pub audible : Lining → List ℕ → ℕ → ℕ
audible line answers room = if line.ended then 0 else min room (length answers - line.place)

-- so many bytes were heard; none, with room left, is the end
abbrev pub hearing : ℕ → ℕ → Lining → Lining
hearing n room line = record line { place = line.place + n; ended = line.ended || ((n == 0) && nat_lt 0 room) }

abbrev pub saying : List ℕ → Lining → Lining
saying piece line = record line { said = line.said ++ piece }

abbrev pub shutting : Lining → Lining
shutting line = record line { is_open = false }
