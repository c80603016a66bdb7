-- What the reader of a payload has found, as a record.
use Rattle.std.specs.Prelude.{◌≡◌, ◌⊎◌, ℕ, ◌≤◌, List, length, Option, Some, None, Result, Ok, Err, MatchResult}
use Rattle.satp_base.specs.declared.session.SessionId.{SessionId}
use Rattle.satp_base.specs.declared.record.Rec.{Rec}
use Rattle.satp_records.specs.Formats.{texts, format_of}
use Rattle.satp_records.specs.Reading.{behind}
use Rattle.satp_records.specs.declared.fault.RecordFault.{RecordFault}
use Rattle.satp_records.specs.declared.fault.RecordFault.TheVariants as fault
use Rattle.satp_records.specs.declared.reading.Found.{Found}
use Rattle.satp_records.specs.declared.reading.Found.TheVariants as found
use Rattle.satp_records.specs.declared.stored.Stored.{Stored}
use Rattle.satp_records.specs.declared.stored.Stored.TheVariants as stored

abbrev pub view : Found → Stored
view (found.Setup name peer at key) = stored.Setup (record { name = name; peer = peer; at = at; key = key.now })
view (found.Session session rec text) = stored.Session session rec text.now
view (found.Kind kind) = stored.Kind kind
view (found.Asset name cap) = stored.Asset name cap
view (found.Hold asset owner amount) = stored.Hold asset owner amount
view (found.Act op session terms) = stored.Act op session terms

-- a record with this first byte was read behind it, up to a place, or its first fault was found
abbrev pub ReadsAs : ℕ → List ℕ → Result (Found × ℕ) RecordFault → Type 0
ReadsAs byte payload result = MatchResult result
    (λ x. (behind (format_of byte) byte payload ≡ Ok ((texts (view x.0)).1, x.1)) × ((texts (view x.0)).0 ≡ byte) × (x.1 ≤ length payload))
    (λ f. behind (format_of byte) byte payload ≡ Err f)

-- the answer, or that no memory was found
abbrev pub UnlessMemory : Result Stored RecordFault → Result Stored RecordFault → Type 0
UnlessMemory result answer = (result ≡ answer) ⊎ (result ≡ Err fault.Memory)

-- the session and its record, if it is one
abbrev pub session_rec : Stored → Option (SessionId × Rec)
session_rec (stored.Session session rec text) = Some (session, rec)
session_rec (stored.Setup setup) = None
session_rec (stored.Kind kind) = None
session_rec (stored.Asset name cap) = None
session_rec (stored.Hold asset owner amount) = None
session_rec (stored.Act op session terms) = None
