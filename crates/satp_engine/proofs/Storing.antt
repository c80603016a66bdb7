-- What the storing of a record leaves.
use Rattle.std.proofs.Common.{◌≡◌, ◌≤◌, ◌<◌, ◌+◌, ◌⊎◌, ⊎_elim, ℕ, true, false, List, [], ◌∷◌, ◌++◌, length, Option, Ok, Err, refl, sym, ap, subst, ◌∙◌, arith}
use Rattle.std.proofs.lemmas.List.{append-nil}
use Rattle.satp_base.specs.Calls.{Told}
use Rattle.satp_base.specs.Money.{Book}
use Rattle.satp_base.specs.declared.session.SessionId.{SessionId}
use Rattle.satp_journal.specs.Appending.{AppendAnswers, AppendRests}
use Rattle.satp_journal.specs.State.{Fits, Held, JournalState}
use Rattle.satp_journal.specs.declared.fault.JournalFault.{JournalFault}
use Rattle.satp_journal.specs.declared.fault.JournalFault.TheVariants as journal
use Rattle.satp_log.specs.Journals.{IsJournal, party_of, payload_in}
use Rattle.satp_log.specs.Logged.{LogHolds, LogState}
use Rattle.satp_log.proofs.JournalLemmas.{goes-more}
use Rattle.satp_records.specs.declared.stored.Setup.{Setup}
use Rattle.satp_sides.specs.Logs.{IsLog, MayCome}
use Rattle.satp_sides.specs.Points.{Appends, Stored}
use Rattle.satp_points.specs.Answers.{Breaks, Goes}
use Rattle.satp_points.specs.States.{tells}
use Rattle.satp_engine.specs.Working.{Fails, Grows, Keeps, Makes, Stands, TakesRoom, shut}
use Rattle.satp_engine.specs.declared.records.Records.{Records}
use Rattle.satp_engine.proofs.Keeping.{holding-keeps}
use Rattle.satp_point_laws.proofs.GoingLaw.{append-breaks, append-goes}

abbrev pub records : JournalState → LogState → Records
records j log = record { journal = j; log = log }

-- an append for which there is room fails by the disk alone
pub disk-failed : (q : List ℕ) (old new : Held) (told_old told_new : Option Told) (fault : JournalFault) (records bytes : ℕ) → old.broken ≡ false → 1 ≤ records → length q ≤ bytes
    → (fault ≡ journal.Memory → (records < 1) ⊎ (bytes < length q)) → AppendAnswers q old new told_old told_new (Err fault)
    → (fault ≡ journal.Disk) × (new ≡ record old { broken = true }) × AppendAnswers q old new told_old told_new (Err journal.Disk)
disk-failed q old new told_old told_new journal.Disk records bytes whole some enough memory is = (refl, is.1, is)
disk-failed q old new told_old told_new journal.Memory records bytes whole some enough memory is = absurd (⊎_elim (λ h. omega (arith, h, some)) (λ h. omega (arith, h, enough)) (memory refl))
disk-failed q old new told_old told_new journal.Broken records bytes whole some enough memory is = absurd (let both = sym whole ∙ is.0 in cc)
disk-failed q old new told_old told_new (journal.Damaged at) records bytes whole some enough memory is = absurd is

module _ (old : Records) (mid : JournalState) (log : LogState) (x : Stored) (payload : List ℕ) (told_old told_new : Option Told) (book_old book_new : Option Book) where
  -- ---- the payload is the record's, which may come

  module _ (is : payload ≡ payload_in x) (stands : Stands old told_old) (may : (setup : Setup) (xs : List Stored) → Keeps old setup xs → MayCome (party_of setup) xs x) (ledger : book_new ≡ book_old) where
    pub stored-makes : AppendAnswers payload old.journal.held mid.held told_old told_new (Ok tt) → AppendRests payload old.journal.held told_old told_new
        → Makes (Appends x ∷ []) old.journal.held (tells told_old book_old) mid.held (tells told_new book_new)
    stored-makes a rests setup side t at =
        let keeps = holding-keeps old setup side.records stands.kept at.holds in
        subst (λ (b : Option Book). Goes old.journal.held setup side (Appends x ∷ []) t mid.held (tells told_new b)) (sym ledger)
        (append-goes x old.journal.held mid.held told_old told_new book_old setup side t at (may setup side.records keeps)
        (subst (λ q. AppendAnswers q old.journal.held mid.held told_old told_new (Ok tt)) is a) (subst (λ q. AppendRests q old.journal.held told_old told_new) is rests))

    pub stored-fails : AppendAnswers payload old.journal.held mid.held told_old told_new (Err journal.Disk) → Fails (Appends x ∷ []) old.journal.held (tells told_old book_old) (tells told_new book_new)
    stored-fails a setup side t at =
        let broke = append-breaks x old.journal.held mid.held told_old told_new book_old setup side t at (subst (λ q. AppendAnswers q old.journal.held mid.held told_old told_new (Err journal.Disk)) is a) in
        subst (λ (b : Option Book). Breaks old.journal.held setup side (Appends x ∷ []) t (shut old.journal.held) (tells told_new b)) (sym ledger) (refl, broke.1)

    stored-keeps : (setup : Setup) (xs : List Stored) → Keeps old setup xs → AppendAnswers payload old.journal.held mid.held told_old told_new (Ok tt) → ((setup : Setup) (xs : List Stored) → IsLog (party_of setup) xs → LogHolds old.log setup xs → LogHolds log setup (xs ++ x ∷ []))
        → Keeps (records mid log) setup (xs ++ x ∷ [])
    stored-keeps setup xs k a holds =
        let list = ap (λ (h : Held). h.payloads) a.1 ∙ ap (λ q. old.journal.held.payloads ++ q ∷ []) is in
        record { journal = subst (λ l. IsJournal l setup (xs ++ x ∷ [])) (sym list) (goes-more old.journal.held.payloads setup xs x k.journal (may setup xs k)); log = holds setup xs k.journal.log k.log }

    pub stored-stands : AppendAnswers payload old.journal.held mid.held told_old told_new (Ok tt) → ((setup : Setup) (xs : List Stored) → IsLog (party_of setup) xs → LogHolds old.log setup xs → LogHolds log setup (xs ++ x ∷ []))
        → log.setup ≡ old.log.setup → (mid.held.broken ≡ false → Fits mid.held told_new) → Stands (records mid log) told_new
    stored-stands a holds same fits =
        let whole = ap (λ (h : Held). h.broken) a.1 ∙ stands.whole in
        let k = stored-keeps old.log.setup stands.kept.0 stands.kept.1 a holds in
        record { kept = (stands.kept.0 ++ x ∷ [], subst (λ (s : Setup). Keeps (records mid log) s (stands.kept.0 ++ x ∷ [])) (sym same) k); whole = whole; within = fits whole }

    pub stored-grows : AppendAnswers payload old.journal.held mid.held told_old told_new (Ok tt) → ((setup : Setup) (xs : List Stored) → IsLog (party_of setup) xs → LogHolds old.log setup xs → LogHolds log setup (xs ++ x ∷ []))
        → Grows x.session old (records mid log)
    stored-grows a holds setup xs k = (x ∷ [], stored-keeps setup xs k a holds, (refl, tt))

-- nothing was stored
pub none-grows : (s : SessionId) (old : Records) (j : JournalState) → j.held.payloads ≡ old.journal.held.payloads → Grows s old (records j old.log)
none-grows s old j same setup xs k =
    ([], subst (λ l. Keeps (records j old.log) setup l) (sym (append-nil xs)) (record { journal = subst (λ l. IsJournal l setup xs) (sym same) k.journal; log = k.log }), tt)

pub takes-room : (old new : JournalState) (q : List ℕ) → length q ≤ 4096 → old.spare_records ≤ new.spare_records + 1 → old.spare_bytes ≤ new.spare_bytes + length q → TakesRoom old new
takes-room old new q short some enough n h = (omega (arith, h.0, some), omega (arith, h.1, enough, short))
