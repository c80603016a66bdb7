-- The status of each end, and its line on the standard error.
use Rattle.std.specs.Prelude.{ℕ, List, [], ◌∷◌, ◌++◌, codes, decimal}
use Rattle.satp_base.specs.Values.{session_text}
use Rattle.satp_phrases.specs.Phrases.{phrase_text}
use Rattle.satp_phrases.specs.Refusals.{canon_words, jws_words, refusal_words}
use Rattle.satp_outcome.specs.declared.outcome.InputEnd.{InputEnd}
use Rattle.satp_outcome.specs.declared.outcome.InputEnd.TheVariants.{Long, Text, Signature, Kind, Receiver, GenesisLine, ScheduleLine, LogDamaged, LogRecord, LogEmpty}
use Rattle.satp_outcome.specs.declared.outcome.Outcome.{Outcome}
use Rattle.satp_outcome.specs.declared.outcome.Outcome.TheVariants.{Done, RolledBack, WordsRefused, Memory, InputFailed, OutputFailed, Input, Place, Peer}
use Rattle.satp_outcome.specs.declared.outcome.PeerEnd.{PeerEnd}
use Rattle.satp_outcome.specs.declared.outcome.PeerEnd.TheVariants.{Wire, Early, Status, NotHttp, Silent, Refused, Turns}
use Rattle.satp_outcome.specs.declared.outcome.PlaceEnd.{PlaceEnd}
use Rattle.satp_outcome.specs.declared.outcome.PlaceEnd.TheVariants.{Site, JournalDamaged, JournalRecord, GatewayThere, NoGateway, NoSession, Exists, Full, TooLate}

-- ---- statuses

abbrev pub input_status : InputEnd → ℕ
input_status Receiver = 4
input_status _ = 5

abbrev pub place_status : PlaceEnd → ℕ
place_status (NoSession session) = 3
place_status (Exists session) = 4
place_status (Full count) = 4
place_status (TooLate place) = 4
place_status Site = 8
place_status (JournalDamaged at) = 9
place_status (JournalRecord index) = 9
place_status GatewayThere = 13
place_status NoGateway = 13

abbrev pub peer_status : PeerEnd → ℕ
peer_status Wire = 6
peer_status _ = 7

abbrev pub status_of : Outcome → ℕ
status_of Done = 0
status_of WordsRefused = 2
status_of Memory = 10
status_of InputFailed = 11
status_of OutputFailed = 11
status_of RolledBack = 12
status_of (Input end) = input_status end
status_of (Place end) = place_status end
status_of (Peer end) = peer_status end

-- ---- lines

abbrev pub input_words : InputEnd → List ℕ
input_words Long = codes "input too long"
input_words (Text fault) = codes "input refused: " ++ phrase_text (canon_words fault)
input_words (Signature fault) = codes "input refused: " ++ phrase_text (jws_words fault)
input_words Kind = codes "input refused: kind"
input_words Receiver = codes "not the receiver"
input_words (GenesisLine number) = codes "genesis line " ++ (decimal number ++ codes " refused")
input_words (ScheduleLine number) = codes "schedule line " ++ (decimal number ++ codes " refused")
input_words (LogDamaged at) = codes "log damaged at " ++ decimal at
input_words (LogRecord index) = codes "record " ++ (decimal index ++ codes " refused")
input_words LogEmpty = codes "log empty"

abbrev pub place_words : PlaceEnd → List ℕ
place_words Site = codes "site failed"
place_words (JournalDamaged at) = codes "journal damaged at " ++ decimal at
place_words (JournalRecord index) = codes "journal record " ++ (decimal index ++ codes " refused")
place_words GatewayThere = codes "gateway is there"
place_words NoGateway = codes "no gateway here"
place_words (NoSession session) = codes "no session " ++ session_text session
place_words (Exists session) = codes "session " ++ (session_text session ++ codes " exists")
place_words (Full count) = codes "full at " ++ decimal count
place_words (TooLate place) = codes "too late at place " ++ decimal place

abbrev pub peer_words : PeerEnd → List ℕ
peer_words Wire = codes "wire failed"
peer_words Early = codes "answer ended early"
peer_words (Status code) = codes "answer status " ++ decimal code
peer_words NotHttp = codes "answer not http"
peer_words Silent = codes "answer missing"
peer_words (Refused refused) = codes "answer refused: " ++ phrase_text (refusal_words refused)
peer_words Turns = codes "too many turns"

-- a line on the standard error
abbrev pub line : List ℕ → List ℕ
line words = codes "satp: " ++ (words ++ 10 ∷ [])

-- an end that was to be has none
abbrev pub line_of : Outcome → List ℕ
line_of Done = []
line_of RolledBack = []
line_of WordsRefused = line (codes "words refused")
line_of Memory = line (codes "no memory")
line_of InputFailed = line (codes "input failed")
line_of OutputFailed = line (codes "output failed")
line_of (Input end) = line (input_words end)
line_of (Place end) = line (place_words end)
line_of (Peer end) = line (peer_words end)
