-- Texts on the input, and the messages that they are.
use Rattle.std.specs.Prelude.{◌≡◌, ℕ, ◌-◌, ◌&&◌, ◌==◌, List, length, nat_lt, slice_index, take, if◌then◌else◌}
use Rattle.satp_base.specs.Canonical.{IsText}
use Rattle.satp_base.specs.Forms.{IsMessage}
use Rattle.satp_base.specs.declared.message.Message.{Message}
use Rattle.satp_outcome.specs.Streams.{Form}

-- the bytes less one final newline
abbrev pub without_newline : List ℕ → List ℕ
without_newline bytes = if nat_lt 0 (length bytes) && (slice_index bytes (length bytes - 1) == 10) then take (length bytes - 1) bytes else bytes

-- a text of at most 8,192 bytes, behind which one newline may stand
abbrev pub text_form : Form
text_form = record { longest = 8192; most = 8193; text_of = without_newline }

-- the text is the canonical text of this message, and of no other
pub record IsOnly (text : List ℕ) (m : Message) : Type 0 where
  pub canonical : IsText m text
  pub formed : IsMessage m
  pub only : (n : Message) → IsText n text → IsMessage n → n ≡ m
