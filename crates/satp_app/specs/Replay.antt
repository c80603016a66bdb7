-- The command `replay`: the bytes of a journal are read, and its gateway, its sessions and the number of its records are printed.
use Rattle.std.specs.Prelude.{ℕ, List, Ok, Err}
use Rattle.satp_outcome.specs.Streams.{Form}
use Rattle.satp_outcome.specs.declared.outcome.InputEnd.{InputEnd}
use Rattle.satp_outcome.specs.declared.outcome.InputEnd.TheVariants.{LogDamaged, LogRecord, LogEmpty}
use Rattle.satp_outcome.specs.declared.reply.Reply.{Reply}
use Rattle.satp_outcome.specs.declared.reply.Reply.TheVariants.{Lines, Refuses}
use Rattle.satp_replay.specs.Replaying.{Replays}
use Rattle.satp_replay.specs.declared.fault.ReplayFault.TheVariants.{Damaged, Empty, Record}

-- a journal of at most 128 MiB, each byte of the input
abbrev pub journal_form : Form
journal_form = record { longest = 134217728; most = 134217728; text_of = λ bytes. bytes }

abbrev pub replay_refuses : List ℕ → InputEnd → Type 0
replay_refuses journal (LogDamaged at) = Replays journal (Err (Damaged at))
replay_refuses journal LogEmpty = Replays journal (Err Empty)
replay_refuses journal (LogRecord index) = Replays journal (Err (Record index))
replay_refuses journal _ = ⊥

abbrev pub replay_says : List ℕ → Reply → Type 0
replay_says journal (Lines lines) = Replays journal (Ok lines)
replay_says journal (Refuses end) = replay_refuses journal end
