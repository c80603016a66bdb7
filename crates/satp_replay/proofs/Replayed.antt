-- The bytes of a journal, read step by step.
use Rattle.std.proofs.Common.{◌≡◌, ◌+◌, ℕ, List, ◌++◌, length, sym, ap, ap₂, subst, ◌∙◌, arith}
use Rattle.std.specs.Prelude.{Result, Ok, Err, IsErr, IsErrAnd}
use Rattle.std.proofs.lemmas.List.{length-map}
use Rattle.satp_base.specs.Format.{Stands}
use Rattle.satp_journal.specs.Listing.{IsUnread}
use Rattle.satp_journal.specs.declared.fault.Unread.{Unread as Unreadable}
use Rattle.satp_journal.specs.declared.fault.Unread.TheVariants as unread
use Rattle.satp_log.specs.Journals.{IsJournal, payload_in}
use Rattle.satp_log.specs.Logged.{LogReads, sessions_in}
use Rattle.satp_log.specs.declared.fault.LogFault.{LogFault}
use Rattle.satp_log.specs.declared.fault.LogFault.TheVariants as log
use Rattle.satp_records.specs.declared.stored.Setup.{Setup}
use Rattle.satp_sides.specs.Points.{Stored, Text}
use Rattle.satp_replay.specs.Faults.{read_fault, unread_fault}
use Rattle.satp_replay.specs.Replaying.{Replays, first_line, last_line, replay_text, session_lines}
use Rattle.satp_replay.specs.declared.fault.ReplayFault.{ReplayFault}

abbrev pub Fails : Result Text ReplayFault → ReplayFault → Type 0
Fails result fault = IsErr result × IsErrAnd result (λ f. f ≡ fault)

told : (bytes : List ℕ) (result : Result Text ReplayFault) (fault : ReplayFault) → Replays bytes (Err fault) → Fails result fault → Replays bytes result
told bytes (Ok text) fault is (err, and) = absurd (cc err)
told bytes (Err f) fault is (err, and) = subst (λ (g : ReplayFault). Replays bytes (Err g)) (sym and) is

pub unread-told : (bytes : List ℕ) (result : Result Text ReplayFault) (u : Unreadable) → IsUnread bytes u → Fails result (unread_fault u) → Replays bytes result
unread-told bytes result (unread.Damaged at index) (payloads, breaks, place, count) fails = told bytes result _ (payloads, breaks, place) fails
unread-told bytes result unread.Memory is fails = told bytes result _ tt fails

pub refused-told : (bytes : List ℕ) (result : Result Text ReplayFault) (payloads : List (List ℕ)) (f : LogFault) → Stands bytes payloads → LogReads payloads (Err f) → Fails result (read_fault f) → Replays bytes result
refused-told bytes result payloads log.Empty stands none fails = told bytes result _ (subst (λ (ps : List (List ℕ)). Stands bytes ps) none stands) fails
refused-told bytes result payloads (log.Record index) stands first fails = told bytes result _ (payloads, stands, first) fails
refused-told bytes result payloads log.Memory stands is fails = told bytes result _ tt fails

counted : (payloads : List (List ℕ)) (setup : Setup) (xs : List Stored) (n : ℕ) → IsJournal payloads setup xs → n ≡ length payloads → n ≡ length xs + 1
counted payloads setup xs n j is =
    let all = ap length j.list in
    let more = length-map xs payload_in in
    omega (arith, all, more, is)

pub replayed : (payloads : List (List ℕ)) (setup other : Setup) (xs : List Stored) (a b c : Text) (n : ℕ) → IsJournal payloads setup xs → other ≡ setup → a ≡ first_line other → b ≡ a ++ session_lines xs (sessions_in xs) → c ≡ b ++ last_line n
    → n ≡ length payloads → c ≡ replay_text setup xs
replayed payloads setup other xs a b c n j same first lines last is =
    last ∙ ap₂ (λ (t : Text) (k : ℕ). t ++ last_line k) (lines ∙ ap (λ t. t ++ session_lines xs (sessions_in xs)) (first ∙ ap first_line same)) (counted payloads setup xs n j is)
