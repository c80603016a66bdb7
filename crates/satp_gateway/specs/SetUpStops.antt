-- What a stop leaves of a set-up.
use Rattle.std.specs.Prelude.{◌≡◌, ℕ, List, [], ◌∷◌, ◌++◌, Option, IfSome}
use Rattle.satp_base.specs.Calls.{Told}
use Rattle.satp_base.specs.Format.{IsAtRest, Stands}
use Rattle.satp_base.specs.Laws.{IsInAppend, RestsAt}
use Rattle.satp_base.specs.Trail.{Trail, seen}
use Rattle.satp_base.specs.declared.area.Area.TheVariants.{JournalA}
use Rattle.satp_base.specs.declared.area.Event.{Event}
use Rattle.satp_base.specs.declared.area.Event.TheVariants.{Founded}
use Rattle.satp_journal.specs.Appending.{AtEach, RestsStill}
use Rattle.satp_journal.specs.Opening.{IsInOpening}
use Rattle.satp_gateway.specs.SettingUp.{Plan}

-- a founding is among these events
abbrev pub HasFounded : List Event → Type 0
HasFounded events = (before : List Event) × (after : List Event) × (events ≡ before ++ Founded ∷ after)

-- ---- over an open journal

-- Until the founding, an image at rest without a record. From then on one of the append of the set-up's record to a journal without any: so it stands for
-- no record or for that one alone.
pub record IsInFounding (p : Plan) (events : List Event) (image : List ℕ) : Type 0 where
  pub before : ¬ HasFounded events → IsAtRest [] image
  pub after : HasFounded events → IsInAppend [] p.payload image

-- at each event of a set-up over a journal that is at rest without a record
abbrev pub VacantStops : Plan → Option Told → Option Told → Type 0
VacantStops p old new = IfSome old (λ t. RestsAt t.trail JournalA [] → IfSome new (λ u. AtEach JournalA t.trail u.trail (IsInFounding p)))

-- a journal that was at rest without a record is at rest with the record of the set-up alone
abbrev pub VacantRests : Plan → Option Told → Option Told → Type 0
VacantRests p old new = RestsStill JournalA [] (p.payload ∷ []) old new

-- ---- all of it

-- Until the founding, an image of an opening of the journal. A founding comes only where the journal reads as one without a record, and from then on it is an
-- image of the append of the set-up's record to that.
pub record IsInSetUp (p : Plan) (t : Trail) (events : List Event) (image : List ℕ) : Type 0 where
  pub before : ¬ HasFounded events → IsInOpening t JournalA events image
  pub after : HasFounded events → Stands (seen t JournalA) [] × IsInAppend [] p.payload image

-- at each event of the set-up
abbrev pub SetUpStops : Plan → Option Told → Option Told → Type 0
SetUpStops p old new = IfSome old (λ t. IfSome new (λ u. AtEach JournalA t.trail u.trail (IsInSetUp p t.trail)))
