-- What a set-up answers, and what it leaves.
use Rattle.std.specs.Prelude.{◌≡◌, ◌≢◌, ◌⊎◌, ℕ, ◌+◌, false, List, [], ◌∷◌, ◌++◌, length, Option, Some, None, IfSome, OnSome, option_map, Result, Ok, Err}
use Rattle.satp_base.specs.Acts.{Asks, FoundEvents, FoundsBook, founded}
use Rattle.satp_base.specs.Calls.{Ask, Told, asked, calls_of, FailsAmong, Makes}
use Rattle.satp_base.specs.Format.{Damage, Stands}
use Rattle.satp_base.specs.Founding.{Founding}
use Rattle.satp_base.specs.Laws.{RestsAt}
use Rattle.satp_base.specs.Money.{Book}
use Rattle.satp_base.specs.Segments.{append_events}
use Rattle.satp_base.specs.Trail.{seen}
use Rattle.satp_base.specs.declared.area.Area.TheVariants.{JournalA}
use Rattle.satp_base.specs.declared.area.Event.{Event}
use Rattle.satp_base.specs.declared.area.Event.TheVariants.{Founded}
use Rattle.satp_base.specs.declared.ledger.LedgerCall.TheVariants.{Found}
use Rattle.satp_base.specs.declared.ledger.LedgerKind.{LedgerKind}
use Rattle.satp_journal.specs.Opening.{OpenAnswers}
use Rattle.satp_journal.specs.State.{Held, JournalState}
use Rattle.satp_journal.specs.declared.fault.JournalFault.{JournalFault}
use Rattle.satp_journal.specs.declared.fault.JournalFault.TheVariants as journal
use Rattle.satp_points.specs.States.{Tells, tells}
use Rattle.satp_records.specs.Formats.{payload_of}
use Rattle.satp_records.specs.declared.stored.Setup.{Setup}
use Rattle.satp_records.specs.declared.stored.Stored.TheVariants as stored
use Rattle.satp_gateway.specs.declared.fault.SetUpFault.{SetUpFault}
use Rattle.satp_gateway.specs.declared.fault.SetUpFault.TheVariants.{Already, Damaged, Site, Memory}

-- what is set up: the payload of the journal's first record, and what the ledger is founded with
pub record Plan : Type 0 where
  pub payload : List ℕ
  pub kind : LedgerKind
  pub genesis : Founding

abbrev pub plan_of : List ℕ → LedgerKind → Founding → Plan
plan_of payload kind genesis = record { payload = payload; kind = kind; genesis = genesis }

abbrev pub plan : Setup → LedgerKind → Founding → Plan
plan setup kind genesis = plan_of (payload_of (stored.Setup setup)) kind genesis

-- ---- the journal

-- the journal was opened, and has these payloads
abbrev pub Opens : List (List ℕ) → Option Told → Option Told → Type 0
Opens payloads old new =
    (journal : JournalState) × (journal.held.payloads ≡ payloads) × OpenAnswers JournalA old new (Ok journal)

-- the opening failed
abbrev pub FailsToOpen : JournalFault → Option Told → Option Told → Type 0
FailsToOpen fault old new = OpenAnswers JournalA old new (Err fault)

-- the journal was opened and has no record; the ledger is left alone
abbrev pub IsVacant : Tells → Tells → Type 0
IsVacant old new = Opens [] old.told new.told × (new.book ≡ old.book)

-- There is no open journal without a record: it has some, or the opening failed. The ledger is left alone.
abbrev pub NotVacant : SetUpFault → Tells → Tells → Type 0
NotVacant Already old new = ((payloads : List (List ℕ)) × (payloads ≢ []) × Opens payloads old.told new.told) × (new.book ≡ old.book)
NotVacant (Damaged at) old new = FailsToOpen (journal.Damaged at) old.told new.told × (new.book ≡ old.book)
NotVacant Site old new = FailsToOpen journal.Disk old.told new.told × (new.book ≡ old.book)
NotVacant Memory old new = FailsToOpen journal.Memory old.told new.told × (new.book ≡ old.book)

-- what the opening of a journal that must have no record answers
abbrev pub VacancyAnswers : {V : Type 0} → Tells → Tells → Result V SetUpFault → Type 0
VacancyAnswers old new (Ok vacancy) = IsVacant old new
VacancyAnswers old new (Err fault) = NotVacant fault old new

-- an open journal without a record
abbrev pub vacant : Held
vacant = record { area = JournalA; payloads = []; broken = false }

-- ---- the ledger and the record

-- the ledger was founded
abbrev pub founds : Plan → Told → Told
founds p t = asked (Found p.kind p.genesis) (Founded ∷ []) t

-- the founding failed
abbrev pub FailsToFound : Plan → Option Told → Option Told → Type 0
FailsToFound p old new = (events : List Event) × FoundEvents failed events × Asks (Found p.kind p.genesis) events failed old new
  where
    failed : Result (Unit {0}) (Unit {0})
    failed = Err tt

-- the ledger that is told is the genesis
abbrev pub TellsGenesis : Plan → Tells → Type 0
TellsGenesis p new = FoundsBook p.genesis done new.told new.book
  where
    done : Result (Unit {0}) (Unit {0})
    done = Ok tt

abbrev pub setup_events : Plan → List Event
setup_events p = append_events JournalA 0 p.payload

-- over an open journal without a record: the ledger was founded, and then the record was stored
abbrev pub Establishes : Plan → Option Told → Tells → Type 0
Establishes p old new = Makes (calls_of (setup_events p)) (option_map (founds p) old) new.told × TellsGenesis p new

-- The founding failed, and nothing is told of the ledger; or the ledger was founded, and a call of the append failed.
abbrev pub FailsToEstablish : Plan → Option Told → Tells → Type 0
FailsToEstablish p old new =
    (FailsToFound p old new.told × (new.book ≡ None))
    ⊎ (FailsAmong (calls_of (setup_events p)) (option_map (founds p) old) new.told × TellsGenesis p new)

-- What a set-up over an open journal without a record answers. Memory is taken first; then the ledger is founded, and then the record is stored.
abbrev pub VacantAnswers : Plan → Tells → Tells → Result (Unit {0}) SetUpFault → Type 0
VacantAnswers p old new (Ok done) = Establishes p old.told new
VacantAnswers p old new (Err Site) = FailsToEstablish p old.told new
VacantAnswers p old new (Err Memory) = (new.told ≡ old.told) × (new.book ≡ old.book)
VacantAnswers p old new (Err Already) = ⊥
VacantAnswers p old new (Err (Damaged at)) = ⊥

-- ---- all of it

-- the journal was opened and has no record, and the set-up over it answered this
abbrev pub SetsUpVacant : Plan → Tells → Tells → Result (Unit {0}) SetUpFault → Type 0
SetsUpVacant p old new result = (opened : Tells) × IsVacant old opened × VacantAnswers p opened new result

-- The journal is opened. Where it has no record, the gateway is set up over it.
abbrev pub SetUpAnswers : Plan → Tells → Tells → Result (Unit {0}) SetUpFault → Type 0
SetUpAnswers p old new (Ok done) = SetsUpVacant p old new (Ok done)
SetUpAnswers p old new (Err fault) = NotVacant fault old new ⊎ SetsUpVacant p old new (Err fault)

-- this answer, unless a call failed or no memory was found
abbrev pub UnlessFailed : Result (Unit {0}) SetUpFault → Result (Unit {0}) SetUpFault → Type 0
UnlessFailed result answer = (result ≡ answer) ⊎ (result ≡ Err Site) ⊎ (result ≡ Err Memory)

-- The bytes that the area reads decide which answer it is.
abbrev pub DecidedBy : List ℕ → Result (Unit {0}) SetUpFault → Type 0
DecidedBy image result =
    (Stands image [] → UnlessFailed result (Ok tt))
    × ((payloads : List (List ℕ)) → payloads ≢ [] → Stands image payloads → UnlessFailed result (Err Already))
    × ((at : ℕ) → Damage image at → UnlessFailed result (Err (Damaged at)))

abbrev pub SetUpDecided : Option Told → Result (Unit {0}) SetUpFault → Type 0
SetUpDecided old result = IfSome old (λ t. DecidedBy (seen t.trail JournalA) result)

-- Of the calls on a ledger at most one is made: a founding by this plan, and none where the journal has a record.
abbrev pub FoundsOnce : Plan → Option Told → Option Told → Type 0
FoundsOnce p old new =
    IfSome old (λ t. IfSome new (λ u.
    (u.asks ≡ t.asks) ⊎ (Stands (seen t.trail JournalA) [] × ((ask : Ask) × (ask.call ≡ Found p.kind p.genesis) × (u.asks ≡ t.asks ++ ask ∷ [])))))

-- each image of the journal's area is the record of the set-up alone, at rest
abbrev pub RestsSetUp : Plan → Option Told → Type 0
RestsSetUp p new = IfSome new (λ u. RestsAt u.trail JournalA (p.payload ∷ []))
