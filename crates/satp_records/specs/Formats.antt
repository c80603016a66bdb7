-- The format of records: a first byte, and the fields behind it. A new kind of record is one more row of `formats`, and one
-- more case of `texts`.
use Rattle.std.specs.Prelude.{◌≡◌, ◌≢◌, ℕ, ◌+◌, ◌<◌, ◌≤◌, ◌&&◌, ◌==◌, ◌⊎◌, Bool, true, not, nat_le, List, [], ◌∷◌, ◌++◌, length, slice_index, Option, Some, None, option_map, IsTrue, find}
use Rattle.std.specs.Int.{w32, w64, to_be_bytes, from_be_bytes}
use Rattle.std.specs.Str.{bytes_eq}
use Rattle.satp_base.specs.Names.{is_name, is_address}
use Rattle.satp_base.specs.Numbers.{greatest_amount}
use Rattle.satp_base.specs.Values.{name_text, address_text}
use Rattle.satp_base.specs.declared.ledger.LedgerKind.{LedgerKind}
use Rattle.satp_base.specs.declared.ledger.LedgerKind.TheVariants.{Accounts, Outputs}
use Rattle.satp_base.specs.declared.ledger.LedgerOp.{LedgerOp}
use Rattle.satp_base.specs.declared.ledger.LedgerOp.TheVariants.{Lock, Burn, Mint, Assign, Release}
use Rattle.satp_base.specs.declared.message.Kind.{Kind}
use Rattle.satp_base.specs.declared.message.Kind.TheVariants.{TransferProposal, ProposalReceipt, TransferCommence, CommenceAck, LockAssert, LockReceipt, CommitPrepare, CommitReady, CommitFinal, CommitFinalAck, TransferComplete, Reject, Rollback, RollbackAck, Recover, RecoverUpdate, RecoverSuccess}
use Rattle.satp_base.specs.declared.message.Role.{Role}
use Rattle.satp_base.specs.declared.message.Role.TheVariants.{Origin, Recipient}
use Rattle.satp_base.specs.declared.message.Terms.{Terms}
use Rattle.satp_base.specs.declared.record.Cause.TheVariants as cause
use Rattle.satp_base.specs.declared.record.Rec.{Rec}
use Rattle.satp_base.specs.declared.record.Rec.TheVariants as rec
use Rattle.satp_base.specs.declared.record.Way.{Way}
use Rattle.satp_base.specs.declared.record.Way.TheVariants.{Commit, Back}
use Rattle.satp_base.specs.declared.session.SessionId.{SessionId}
use Rattle.satp_records.specs.Shapes.{fixed, one, two, Shape, spell, Fits, IsFieldFault}
use Rattle.satp_records.specs.declared.fault.RecordFault.{RecordFault}
use Rattle.satp_records.specs.declared.fault.RecordFault.TheVariants as fault
use Rattle.satp_records.specs.declared.stored.Stored.{Stored}
use Rattle.satp_records.specs.declared.stored.Stored.TheVariants as stored

-- ---- the shapes of fields

-- one byte of length, and a name
abbrev pub name_shape : Shape
name_shape = record { count = one; low = 1; high = 32; is_good = λ before bytes. is_name bytes }

-- other than the first field's bytes
abbrev pub is_other : List (List ℕ) → List ℕ → Bool
is_other [] bytes = true
is_other (first ∷ before) bytes = not (bytes_eq first bytes)

-- a name other than that in the first field
abbrev pub peer_shape : Shape
peer_shape = record { count = one; low = 1; high = 32; is_good = λ before bytes. is_name bytes && is_other before bytes }

abbrev pub address_shape : Shape
address_shape = record { count = one; low = 1; high = 64; is_good = λ before bytes. is_address bytes }

abbrev pub key_shape : Shape
key_shape = record { count = one; low = 32; high = 64; is_good = λ before bytes. true }

-- two bytes of length, and a text
abbrev pub text_shape : Shape
text_shape = record { count = two; low = 1; high = 2048; is_good = λ before bytes. true }

-- a session's number, in four bytes
abbrev pub number_shape : Shape
number_shape = record { count = fixed; low = 4; high = 4; is_good = λ before bytes. nat_le 1 (from_be_bytes w32 bytes) }

-- an amount, in eight bytes
abbrev pub amount_shape : Shape
amount_shape = record { count = fixed; low = 8; high = 8; is_good = λ before bytes. nat_le 1 (from_be_bytes w64 bytes) && nat_le (from_be_bytes w64 bytes) greatest_amount }

-- a byte from `first` to `last`
abbrev pub code_shape : ℕ → ℕ → Shape
code_shape first last = record { count = fixed; low = 1; high = 1; is_good = λ before bytes. nat_le first (slice_index bytes 0) && nat_le (slice_index bytes 0) last }

-- ---- the table

-- the fields that stand for a value of the protocol
abbrev pub name : List Shape
name = name_shape ∷ []

abbrev pub peer : List Shape
peer = peer_shape ∷ []

abbrev pub address : List Shape
address = address_shape ∷ []

abbrev pub key : List Shape
key = key_shape ∷ []

abbrev pub text : List Shape
text = text_shape ∷ []

abbrev pub amount : List Shape
amount = amount_shape ∷ []

abbrev pub session : List Shape
session = name_shape ∷ number_shape ∷ []

abbrev pub terms : List Shape
terms = amount_shape ∷ name_shape ∷ name_shape ∷ name_shape ∷ []

abbrev pub role : List Shape
role = code_shape 0 1 ∷ []

-- a kind of the chain other than that of a proposal
abbrev pub kind : List Shape
kind = code_shape 2 14 ∷ []

abbrev pub operation : List Shape
operation = code_shape 1 5 ∷ []

abbrev pub way : List Shape
way = code_shape 1 8 ∷ []

abbrev pub ledger : List Shape
ledger = code_shape 1 2 ∷ []

-- the fields of a message behind the first
abbrev pub message_fields : List Shape
message_fields = session ++ (kind ++ text)

abbrev pub Format : Type 0
Format = List (List Shape)

-- the fields behind each first byte
abbrev pub formats : List (ℕ × Format)
formats =
    (0x00, name ∷ peer ∷ address ∷ key ∷ [])
    ∷ (0x01, session ∷ role ∷ terms ∷ text ∷ [])
    ∷ (0x02, session ∷ kind ∷ text ∷ [])
    ∷ (0x03, session ∷ kind ∷ text ∷ [])
    ∷ (0x04, session ∷ operation ∷ [])
    ∷ (0x05, session ∷ way ∷ [])
    ∷ (0x06, session ∷ [])
    ∷ (0x10, ledger ∷ [])
    ∷ (0x11, name ∷ amount ∷ [])
    ∷ (0x12, name ∷ name ∷ amount ∷ [])
    ∷ (0x13, operation ∷ session ∷ terms ∷ []) ∷ []

abbrev pub format_of : ℕ → Option Format
format_of byte = option_map (λ (row : ℕ × Format). row.1) (find (λ row. row.0 == byte) formats)

-- ---- what a record says in its fields

abbrev pub role_byte : Role → ℕ
role_byte Origin = 0
role_byte Recipient = 1

-- the place of a kind in the chain, and three numbers behind; messages of recovery stand in no chain
abbrev pub kind_byte : Kind → ℕ
kind_byte TransferProposal = 1
kind_byte ProposalReceipt = 2
kind_byte TransferCommence = 3
kind_byte CommenceAck = 4
kind_byte LockAssert = 5
kind_byte LockReceipt = 6
kind_byte CommitPrepare = 7
kind_byte CommitReady = 8
kind_byte CommitFinal = 9
kind_byte CommitFinalAck = 10
kind_byte TransferComplete = 11
kind_byte Reject = 12
kind_byte Rollback = 13
kind_byte RollbackAck = 14
kind_byte Recover = 0
kind_byte RecoverUpdate = 0
kind_byte RecoverSuccess = 0

abbrev pub operation_byte : LedgerOp → ℕ
operation_byte Lock = 1
operation_byte Burn = 2
operation_byte Mint = 3
operation_byte Assign = 4
operation_byte Release = 5

abbrev pub way_byte : Way → ℕ
way_byte Commit = 1
way_byte (Back cause.Aborted) = 2
way_byte (Back cause.LockRefused) = 3
way_byte (Back cause.Rejected) = 4
way_byte (Back cause.Rescued) = 5
way_byte (Back cause.UnknownAsset) = 6
way_byte (Back cause.MintCapped) = 7
way_byte (Back cause.LedgerTaken) = 8

abbrev pub ledger_byte : LedgerKind → ℕ
ledger_byte Accounts = 1
ledger_byte Outputs = 2

abbrev pub session_texts : SessionId → List (List ℕ)
session_texts s = name_text s.gateway ∷ to_be_bytes w32 s.number ∷ []

abbrev pub terms_texts : Terms → List (List ℕ)
terms_texts t = to_be_bytes w64 t.amount.number ∷ name_text t.asset ∷ name_text t.beneficiary ∷ name_text t.originator ∷ []

abbrev pub code : ℕ → List (List ℕ)
code byte = (byte ∷ []) ∷ []

-- the first byte of a record, and the bytes in each of its fields
abbrev pub Texts : Type 0
Texts = ℕ × List (List ℕ)

abbrev pub rec_texts : SessionId → Rec → List ℕ → Texts
rec_texts s (rec.Began r t) message = (0x01, session_texts s ++ (code (role_byte r) ++ (terms_texts t ++ message ∷ [])))
rec_texts s (rec.Took k) message = (0x02, session_texts s ++ (code (kind_byte k) ++ message ∷ []))
rec_texts s (rec.Made k) message = (0x03, session_texts s ++ (code (kind_byte k) ++ message ∷ []))
rec_texts s (rec.Did op) message = (0x04, session_texts s ++ code (operation_byte op))
rec_texts s (rec.Chose w) message = (0x05, session_texts s ++ code (way_byte w))
rec_texts s rec.Rescue message = (0x06, session_texts s)

abbrev pub texts : Stored → Texts
texts (stored.Setup s) = (0x00, name_text s.name ∷ name_text s.peer ∷ address_text s.at ∷ s.key ∷ [])
texts (stored.Session s r message) = rec_texts s r message
texts (stored.Kind k) = (0x10, code (ledger_byte k))
texts (stored.Asset n cap) = (0x11, name_text n ∷ to_be_bytes w64 cap ∷ [])
texts (stored.Hold a owner units) = (0x12, name_text a ∷ name_text owner ∷ to_be_bytes w64 units.number ∷ [])
texts (stored.Act op s t) = (0x13, code (operation_byte op) ++ (session_texts s ++ terms_texts t))

-- ---- payloads

-- the fields one behind the other
abbrev pub spell_all : List Shape → List (List ℕ) → List ℕ
spell_all [] fields = []
spell_all (s ∷ shapes) [] = []
spell_all (s ∷ shapes) (bytes ∷ fields) = spell s bytes ++ spell_all shapes fields

abbrev pub joined : Format → List Shape
joined [] = []
joined (part ∷ format) = part ++ joined format

abbrev pub shapes_of : Option Format → List Shape
shapes_of None = []
shapes_of (Some format) = joined format

-- the payload of a record
abbrev pub payload_of : Stored → List ℕ
payload_of s = let t = texts s in t.0 ∷ spell_all (shapes_of (format_of t.0)) t.1

-- ---- which records are stored

-- a kind of the chain other than a proposal
abbrev pub is_answer : Kind → Bool
is_answer k = nat_le 2 (kind_byte k)

abbrev pub IsMessageText : List ℕ → Type 0
IsMessageText message = (1 ≤ length message) × (length message ≤ 2048)

abbrev pub IsFormedRec : Rec → List ℕ → Type 0
IsFormedRec (rec.Began r t) message = IsMessageText message
IsFormedRec (rec.Took k) message = IsTrue (is_answer k) × IsMessageText message
IsFormedRec (rec.Made k) message = IsTrue (is_answer k) × IsMessageText message
IsFormedRec (rec.Did op) message = message ≡ []
IsFormedRec (rec.Chose w) message = message ≡ []
IsFormedRec rec.Rescue message = message ≡ []

-- a record that can be stored
abbrev pub IsFormed : Stored → Type 0
IsFormed (stored.Setup s) = (32 ≤ length s.key) × (length s.key ≤ 64) × (s.name ≢ s.peer)
IsFormed (stored.Session s r message) = IsFormedRec r message
IsFormed (stored.Kind k) = Unit {0}
IsFormed (stored.Asset n cap) = (1 ≤ cap) × (cap ≤ greatest_amount)
IsFormed (stored.Hold a owner units) = Unit {0}
IsFormed (stored.Act op s t) = Unit {0}

-- ---- why a payload is no record's

-- Behind fields that stand right a field is wanting or out of form, or bytes stand behind the last.
abbrev pub IsFault : List Shape → List (List ℕ) → ℕ → List ℕ → RecordFault → Type 0
IsFault [] before at rest f = (0 < length rest) × (f ≡ fault.Extra at)
IsFault (s ∷ shapes) before at rest f =
    IsFieldFault s before at rest f
    ⊎ ((bytes : List ℕ) × (more : List ℕ) × Fits s before bytes × (rest ≡ spell s bytes ++ more) × IsFault shapes (before ++ bytes ∷ []) (at + length (spell s bytes)) more f)

abbrev pub IsFaultBehind : Option Format → ℕ → List ℕ → RecordFault → Type 0
IsFaultBehind None byte rest f = f ≡ fault.Kind byte
IsFaultBehind (Some format) byte rest f = IsFault (joined format) [] 1 rest f

-- the first fault of a payload, from the front
abbrev pub IsRefused : List ℕ → RecordFault → Type 0
IsRefused [] f = f ≡ fault.Short 0
IsRefused (byte ∷ rest) f = IsFaultBehind (format_of byte) byte rest f
