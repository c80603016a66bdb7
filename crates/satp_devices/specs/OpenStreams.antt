-- What a call does to the stream of the open connection.
use Rattle.std.specs.Prelude.{Option, None, Some}
use Rattle.satp_devices.specs.declared.connection.Connection.{Connection}

-- a connection is open, before and after, and this holds of its stream
abbrev pub OnStream : {S : Type 0} → (S → S → Type 0) → Option (Connection S) → Option (Connection S) → Type 0
OnStream P None after = ⊥
OnStream P (Some before) None = ⊥
OnStream P (Some before) (Some after) = P before.stream after.stream
