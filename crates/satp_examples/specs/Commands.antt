-- How a command that reads a text ends: here one that prints the text, of two bytes at most.
use Rattle.std.specs.Prelude.{◌≡◌, ℕ, true, false, List, [], ◌∷◌, codes, Some}
use Rattle.satp_base.specs.declared.member.MemberName.TheVariants as name
use Rattle.satp_canon.specs.declared.fault.CanonFault.TheVariants as canon
use Rattle.satp_jws.specs.declared.fault.JwsFault.TheVariants as jws
use Rattle.satp_outcome.specs.Outcomes.{line_of, status_of}
use Rattle.satp_outcome.specs.Outside.{FailsToRead, Printed, PrintedPart, ReadPart, ReadTo, SinkState, SourceState}
use Rattle.satp_outcome.specs.Streams.{Form, StreamRule}
use Rattle.satp_outcome.specs.Texts.{without_newline}
use Rattle.satp_outcome.specs.declared.outcome.Outcome.{Outcome}
use Rattle.satp_outcome.specs.declared.outcome.Outcome.TheVariants as outcome
use Rattle.satp_outcome.specs.declared.outcome.InputEnd.TheVariants.{GenesisLine, LogEmpty, LogRecord, Long, Receiver, ScheduleLine, Signature, Text}
use Rattle.satp_outcome.specs.declared.outcome.PlaceEnd.TheVariants.{Exists, Full, JournalDamaged, JournalRecord, NoGateway, NoSession, Site, TooLate}
use Rattle.satp_outcome.specs.declared.outcome.PeerEnd.TheVariants.{Refused, Status, Wire}
use Rattle.satp_outcome.specs.declared.reply.Reply.{Reply}
use Rattle.satp_outcome.specs.declared.reply.Reply.TheVariants.{Lines}
use Rattle.satp_points.specs.declared.fault.Refused.TheVariants as refused
use Rattle.satp_examples.specs.Samples.{alpha_1}

-- ---- what is read and printed

-- an input that goes on, and one whose end was read or that failed
abbrev pub input : ℕ → List ℕ → SourceState
input faults left = record { faults = faults; left = Some left; over = false }

abbrev pub over : ℕ → List ℕ → SourceState
over faults left = record { faults = faults; left = Some left; over = true }

-- an output that goes on, and one that failed
abbrev pub out : ℕ → List ℕ → SinkState
out faults taken = record { faults = faults; taken = Some taken; failed = false }

abbrev pub failed : ℕ → List ℕ → SinkState
failed faults taken = record { faults = faults; taken = Some taken; failed = true }

abbrev pub ab : List ℕ
ab = 97 ∷ 98 ∷ []

pub record BytesOfACommand : Type 0 where
  pub read : ReadTo 2 (input 0 (97 ∷ 98 ∷ 99 ∷ [])) (input 0 (99 ∷ []))
  pub read_to_the_end : ReadTo 3 (input 0 ab) (over 0 [])
  pub not_read_and_failed : ¬ ReadTo 2 (input 0 (97 ∷ 98 ∷ 99 ∷ [])) (input 1 (99 ∷ []))
  pub not_past_it : ¬ ReadTo 2 (input 0 (97 ∷ 98 ∷ 99 ∷ [])) (input 0 [])
  pub not_to_the_end_without_it : ¬ ReadTo 3 (input 0 ab) (input 0 [])
  -- the most was reached, so that the end wasn't looked for
  pub not_past_the_most : ¬ ReadTo 2 (input 0 ab) (over 0 [])
  pub read_in_part : ReadPart 2 (input 0 ab) (input 0 (98 ∷ []))
  pub not_in_part_at_the_end : ¬ ReadPart 3 (input 0 ab) (over 0 [])
  pub read_failed : FailsToRead 2 (input 0 ab) (over 1 (98 ∷ []))
  pub not_failed_and_read_on : ¬ FailsToRead 2 (input 0 ab) (input 1 (98 ∷ []))
  pub printed : Printed ab (out 0 []) (out 0 ab)
  pub not_in_part : ¬ Printed ab (out 0 []) (out 0 (97 ∷ []))
  pub not_printed_and_failed : ¬ Printed ab (out 0 []) (failed 0 ab)
  pub printed_in_part : PrintedPart ab (out 0 []) (failed 1 (97 ∷ []))
  pub not_without_a_failure : ¬ PrintedPart ab (out 0 []) (failed 0 (97 ∷ []))
  pub not_failed_and_written_on : ¬ PrintedPart ab (out 0 []) (out 1 (97 ∷ []))
  pub one_newline_is_none : without_newline (97 ∷ 10 ∷ []) ≡ 97 ∷ []
  pub of_two_one_stays : without_newline (97 ∷ 10 ∷ 10 ∷ []) ≡ 97 ∷ 10 ∷ []

-- ---- the ends of a command

abbrev pub form : Form
form = record { longest = 2; most = 3; text_of = without_newline }

abbrev pub echoes : List ℕ → Reply → Type 0
echoes text reply = reply ≡ Lines text

-- with these bytes on its input it leaves these, prints these, and ends so
abbrev pub Ends : List ℕ → SourceState → SinkState → Outcome → Type 0
Ends bytes left taken how = StreamRule form echoes (record { input = input 0 bytes; out = out 0 [] }) (record { input = left; out = taken }) how

pub record EndsOfACommand : Type 0 where
  pub done : Ends (97 ∷ 98 ∷ 10 ∷ []) (over 0 []) (out 0 ab) outcome.Done
  pub too_long : Ends (97 ∷ 98 ∷ 99 ∷ []) (over 0 []) (out 0 []) (outcome.Input Long)
  pub output_failed : Ends ab (over 0 []) (failed 1 (97 ∷ [])) outcome.OutputFailed
  pub input_failed : Ends ab (over 1 (98 ∷ [])) (out 0 []) outcome.InputFailed
  pub no_memory : Ends ab (input 0 (98 ∷ [])) (out 0 []) outcome.Memory
  pub no_memory_for_the_reply : Ends ab (over 0 []) (out 0 []) outcome.Memory
  pub not_done_past_the_longest : (taken : SinkState) → ¬ Ends (97 ∷ 98 ∷ 99 ∷ []) (over 0 []) taken outcome.Done
  pub not_done_without_output : ¬ Ends ab (over 0 []) (out 0 []) outcome.Done
  pub not_done_unread : ¬ Ends ab (input 0 (98 ∷ [])) (out 0 ab) outcome.Done
  pub not_long_with_a_newline : ¬ Ends (97 ∷ 98 ∷ 10 ∷ []) (over 0 []) (out 0 []) (outcome.Input Long)
  pub not_failed_without_a_fault : ¬ Ends ab (over 0 (98 ∷ [])) (out 0 []) outcome.InputFailed
  pub not_failed_and_read_on : ¬ Ends ab (input 1 (98 ∷ [])) (out 0 []) outcome.InputFailed
  pub not_failed_after_all : ¬ Ends ab (over 0 []) (failed 1 ab) outcome.OutputFailed
  pub not_failed_and_written_on : ¬ Ends ab (over 0 []) (out 1 (97 ∷ [])) outcome.OutputFailed
  pub not_refused : ¬ Ends ab (over 0 []) (out 0 []) (outcome.Input Receiver)
  pub no_site : ¬ Ends ab (over 0 []) (out 0 []) (outcome.Place Site)

pub record LinesAndStatuses : Type 0 where
  pub done : (status_of outcome.Done ≡ 0) × (line_of outcome.Done ≡ [])
  pub not_the_receiver : (status_of (outcome.Input Receiver) ≡ 4) × (line_of (outcome.Input Receiver) ≡ codes "satp: not the receiver\n")
  pub a_line_of_a_genesis : (status_of (outcome.Input (GenesisLine 12)) ≡ 5) × (line_of (outcome.Input (GenesisLine 12)) ≡ codes "satp: genesis line 12 refused\n")
  pub a_line_of_a_schedule : (status_of (outcome.Input (ScheduleLine 3)) ≡ 5) × (line_of (outcome.Input (ScheduleLine 3)) ≡ codes "satp: schedule line 3 refused\n")
  pub a_text_refused : (status_of (outcome.Input (Text (canon.Value name.Amount))) ≡ 5) × (line_of (outcome.Input (Text (canon.Value name.Amount))) ≡ codes "satp: input refused: value amount\n")
  pub a_signature_refused : (status_of (outcome.Input (Signature (jws.Parts 2))) ≡ 5) × (line_of (outcome.Input (Signature (jws.Parts 2))) ≡ codes "satp: input refused: jws parts 2\n")
  pub an_empty_log : (status_of (outcome.Input LogEmpty) ≡ 5) × (line_of (outcome.Input LogEmpty) ≡ codes "satp: log empty\n")
  pub a_record_of_a_log : (status_of (outcome.Input (LogRecord 0)) ≡ 5) × (line_of (outcome.Input (LogRecord 0)) ≡ codes "satp: record 0 refused\n")
  pub damage : (status_of (outcome.Place (JournalDamaged 6)) ≡ 9) × (line_of (outcome.Place (JournalDamaged 6)) ≡ codes "satp: journal damaged at 6\n")
  pub a_record : (status_of (outcome.Place (JournalRecord 12)) ≡ 9) × (line_of (outcome.Place (JournalRecord 12)) ≡ codes "satp: journal record 12 refused\n")
  pub no_gateway : (status_of (outcome.Place NoGateway) ≡ 13) × (line_of (outcome.Place NoGateway) ≡ codes "satp: no gateway here\n")
  pub no_session : (status_of (outcome.Place (NoSession alpha_1)) ≡ 3) × (line_of (outcome.Place (NoSession alpha_1)) ≡ codes "satp: no session alpha.1\n")
  pub a_session_there : (status_of (outcome.Place (Exists alpha_1)) ≡ 4) × (line_of (outcome.Place (Exists alpha_1)) ≡ codes "satp: session alpha.1 exists\n")
  pub full : (status_of (outcome.Place (Full 2048)) ≡ 4) × (line_of (outcome.Place (Full 2048)) ≡ codes "satp: full at 2048\n")
  pub too_late : (status_of (outcome.Place (TooLate 8)) ≡ 4) × (line_of (outcome.Place (TooLate 8)) ≡ codes "satp: too late at place 8\n")
  pub rolled_back : (status_of outcome.RolledBack ≡ 12) × (line_of outcome.RolledBack ≡ [])
  pub no_wire : (status_of (outcome.Peer Wire) ≡ 6) × (line_of (outcome.Peer Wire) ≡ codes "satp: wire failed\n")
  pub a_code : (status_of (outcome.Peer (Status 503)) ≡ 7) × (line_of (outcome.Peer (Status 503)) ≡ codes "satp: answer status 503\n")
  pub an_answer_refused : (status_of (outcome.Peer (Refused refused.Receiver)) ≡ 7) × (line_of (outcome.Peer (Refused refused.Receiver)) ≡ codes "satp: answer refused: receiver\n")
