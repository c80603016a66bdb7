-- A wire in memory as its caller sees it, and what its calls do.
use Rattle.std.specs.Prelude.{◌≡◌, ◌⊎◌, ℕ, ◌==◌, ◌||◌, ◌&&◌, nat_lt, Bool, true, false, if◌then◌else◌, List, [], ◌∷◌, ◌++◌, length, take, drop, Result, Ok, Err}
use Rattle.satp_base.specs.Wires.{Conversation, Traffic}
use Rattle.satp_base.specs.declared.wire.Dial.{Dial}
use Rattle.satp_memory.specs.Calling.{Calling, failed, fresh, is_due, succeeded, wanting}

-- the bytes that are left to hear, those heard and said, whether the end was heard, whether the one connection was opened and is open, and whether it listens
pub record Talking : Type 0 where
  pub left : List ℕ
  pub heard : List ℕ
  pub said : List ℕ
  pub ended : Bool
  pub used : Bool
  pub is_open : Bool
  pub listens : Bool
  pub dials : List Dial
  pub calls : Calling

-- before any call
abbrev pub quiet : List ℕ → Talking
quiet left = record { left = left; heard = []; said = []; ended = false; used = false; is_open = false; listens = false; dials = []; calls = fresh }

abbrev pub talk : Talking → Conversation
talk w = record { heard = w.heard; said = w.said; ended = w.ended }

-- what it tells: the one connection, where it was opened (one that is open was)
abbrev pub traffic_of : Talking → Traffic
traffic_of w = record { conversations = if w.is_open || w.used then talk w ∷ [] else []; dials = w.dials }

-- after a call that listens, accepts or connects
abbrev pub dialled : Dial → Calling → Talking → Talking
dialled dial calls w = record w { dials = w.dials ++ dial ∷ []; calls = calls }

-- Such a call fails where it was named or can't succeed, and else only where no memory was found. It is noted, unless no memory was found, which is counted.
abbrev pub Misses : Bool → Dial → Talking → Talking → Type 0
Misses barred dial old new =
    (((barred || is_due old.calls) ≡ true) × (new ≡ dialled dial (failed old.calls) old))
    ⊎ (new ≡ record old { calls = wanting (if barred || is_due old.calls then failed old.calls else succeeded old.calls) })

abbrev pub ListensOn : {T E : Type 0} → Dial → Talking → Talking → Result T E → Type 0
ListensOn dial old new (Ok done) = (is_due old.calls ≡ false) × (new ≡ record (dialled dial (succeeded old.calls) old) { listens = true })
ListensOn dial old new (Err fault) = Misses false dial old new

-- a second connection is refused
abbrev pub Opens : {T E : Type 0} → Dial → Talking → Talking → Result T E → Type 0
Opens dial old new (Ok done) = (is_due old.calls ≡ false) × (old.used ≡ false) × (new ≡ record (dialled dial (succeeded old.calls) old) { heard = []; said = []; ended = false; used = true; is_open = true })
Opens dial old new (Err fault) = Misses old.used dial old new

-- A read fails exactly where it was named. The front of the buffer holds the bytes that were heard; none, with room left, is the end.
abbrev pub HearsInto : {E : Type 0} → List ℕ → Talking → Talking → Result ℕ E → Type 0
HearsInto into old new (Ok n) =
    (is_due old.calls ≡ false) × (take n into ≡ take n old.left) × (new ≡ record old { left = drop n old.left; heard = old.heard ++ take n old.left; ended = old.ended || ((n == 0) && nat_lt 0 (length into)); calls = succeeded old.calls })
HearsInto into old new (Err fault) = (is_due old.calls ≡ true) × (new ≡ record old { calls = failed old.calls })

-- A write says the whole piece, or nothing: where it was named, or no memory was found.
abbrev pub SaysAll : {E : Type 0} → List ℕ → Talking → Talking → Result ℕ E → Type 0
SaysAll piece old new (Ok n) = (n ≡ length piece) × (is_due old.calls ≡ false) × (new ≡ record old { said = old.said ++ piece; calls = succeeded old.calls })
SaysAll piece old new (Err fault) =
    ((is_due old.calls ≡ true) × (new ≡ record old { calls = failed old.calls }))
    ⊎ ((is_due old.calls ≡ false) × (new ≡ record old { calls = wanting (succeeded old.calls) }))
