-- How a disk and a site in memory go on over calls on them: the single calls that were made, and how each of them ended.
use Rattle.std.specs.Prelude.{◌≡◌, ◌≤◌, ◌<◌, ◌⊎◌, ℕ, ◌==◌, max, Bool, true, false, List, [], ◌∷◌, ◌++◌, length, Option, Some, None, is_some, option_map, if◌then◌else◌}
use Rattle.std.specs.List.{list_any}
use Rattle.satp_base.specs.Acts.{founded, operation_events}
use Rattle.satp_base.specs.Calls.{Ask}
use Rattle.satp_base.specs.LedgerRule.{IsOutOfOrder, operation}
use Rattle.satp_base.specs.Money.{Book}
use Rattle.satp_base.specs.Streams.{Rose}
use Rattle.satp_base.specs.Trail.{extended}
use Rattle.satp_base.specs.declared.area.Event.{Event}
use Rattle.satp_base.specs.declared.area.Event.TheVariants.{Acted, Founded, Synced}
use Rattle.satp_base.specs.declared.ledger.Entry.{Entry}
use Rattle.satp_base.specs.declared.ledger.LedgerCall.{LedgerCall}
use Rattle.satp_base.specs.declared.ledger.LedgerCall.TheVariants.{Act, Found}
use Rattle.satp_base.specs.declared.ledger.LedgerKind.{LedgerKind}
use Rattle.satp_memory.specs.Calling.{Calling, failed, is_due, is_refused, succeeded, wanting}
use Rattle.satp_memory.specs.Disk.{is_plain}
use Rattle.satp_memory.specs.Sites.{same_kind}
use Rattle.satp_memory.specs.Steps.{asking, is_stopped, trail_of}
use Rattle.satp_memory.specs.declared.disk.MemDisk.{MemDisk}
use Rattle.satp_memory.specs.declared.stop.Stop.{Stop}

-- a founding, as an event and as a call that succeeded
abbrev pub is_founding : Event → Bool
is_founding Founded = true
is_founding event = false

abbrev pub founds : LedgerCall → Bool
founds (Found kind genesis) = true
founds call = false

abbrev pub has_founded : Ask → Bool
has_founded ask = if ask.succeeded then founds ask.call else false

-- from so many events to so many, none was added past the stop
abbrev pub IsWithin : Option Stop → ℕ → ℕ → Type 0
IsWithin None old new = Unit {0}
IsWithin (Some stop) old new = new ≤ max stop.at old

-- What holds over one call and over many. The stop and the named calls are the same. Events were only added: none that a failed call left, none past the stop,
-- and one of a founding exactly where a founding was asked for and succeeded. No count fell.
pub record Follows (old new : MemDisk) : Type 0 where
  pub stop : new.stop ≡ old.stop
  pub named : new.calls.named ≡ old.calls.named
  pub added : List Event
  pub trail : trail_of new ≡ extended (trail_of old) added
  pub plain : is_plain added ≡ true
  pub within : IsWithin old.stop (length old.events.items) (length new.events.items)
  pub noted : List Ask
  pub asks : new.asks.items ≡ old.asks.items ++ noted
  pub founded : list_any is_founding added ≡ list_any has_founded noted
  pub count : old.calls.count ≤ new.calls.count
  pub faults : old.calls.faults ≤ new.calls.faults
  pub wants : old.calls.wants ≤ new.calls.wants

-- ---- one call

pub data SiteCall : Type 0 where
  -- a directory is entered, or a length or bytes are read
  Looks : SiteCall
  -- a write, a cut or a sync, by its event
  Changes : Event → SiteCall
  -- a call on the ledger
  Asks : LedgerCall → SiteCall

pub data Ending : Type 0 where
  Done : Ending
  -- it failed because it was named
  Named : Ending
  -- it failed because the stop was reached
  Stopped : Ending
  -- it failed because no memory was found
  Wanting : Ending
  -- it failed because the ledger refuses it
  Refused : Ending

-- a call, and how it ended
pub record Ended : Type 0 where
  pub call : SiteCall
  pub ending : Ending

-- When a call on a disk ends so, and what is counted then. The ledger is only asked where the call is to fail for no other reason.
abbrev pub EndsSo : Ending → (refuses : Type 0) → MemDisk → Calling → Type 0
EndsSo Done refuses old new = (is_refused (is_stopped old) old.calls ≡ false) × (new ≡ succeeded old.calls)
EndsSo Named refuses old new = (is_stopped old ≡ false) × (is_due old.calls ≡ true) × (new ≡ failed old.calls)
EndsSo Stopped refuses old new = (is_stopped old ≡ true) × (new ≡ failed old.calls)
EndsSo Wanting refuses old new = (new ≡ wanting (succeeded old.calls)) ⊎ (new ≡ wanting (failed old.calls))
EndsSo Refused refuses old new = refuses × (is_refused (is_stopped old) old.calls ≡ false) × (new ≡ failed old.calls)

-- the events of a call that is done: an operation that changes no entry has none
abbrev pub HasDone : SiteCall → List Event → Type 0
HasDone Looks added = added ≡ []
HasDone (Changes event) added = added ≡ event ∷ []
HasDone (Asks (Found kind genesis)) added = added ≡ Founded ∷ []
HasDone (Asks (Act op session terms)) added = (added ≡ Acted op session terms ∷ []) ⊎ (added ≡ [])
HasDone (Asks call) added = added ≡ []

-- the events of a call that failed because it was named: a write or a cut takes effect all the same, a sync and a call on the ledger don't
abbrev pub named_events : SiteCall → List Event
named_events Looks = []
named_events (Changes (Synced area)) = []
named_events (Changes event) = event ∷ []
named_events (Asks call) = []

-- the events that a call adds
abbrev pub AddsSo : SiteCall → Ending → List Event → Type 0
AddsSo call Done added = HasDone call added
AddsSo call Named added = added ≡ named_events call
AddsSo call Stopped added = added ≡ []
AddsSo call Wanting added = added ≡ []
AddsSo call Refused added = added ≡ []

-- what is noted of a call on the ledger
abbrev pub notes_of : SiteCall → MemDisk → Bool → List Ask
notes_of Looks old succeeded = []
notes_of (Changes event) old succeeded = []
notes_of (Asks call) old succeeded = asking call old succeeded ∷ []

-- It is noted, unless no memory was found to note it.
abbrev pub NotesSo : SiteCall → Ending → MemDisk → List Ask → Type 0
NotesSo call Done old noted = noted ≡ notes_of call old true
NotesSo call Named old noted = noted ≡ notes_of call old false
NotesSo call Stopped old noted = noted ≡ notes_of call old false
NotesSo call Wanting old noted = (noted ≡ []) ⊎ (noted ≡ notes_of call old false)
NotesSo call Refused old noted = noted ≡ notes_of call old false

-- the call ended so, and led from one disk to the other
pub record Makes (refuses : Type 0) (c : Ended) (old new : MemDisk) : Type 0 where
  pub disk : Follows old new
  pub ended : EndsSo c.ending refuses old new.calls
  pub adds : AddsSo c.call c.ending disk.added
  pub notes : NotesSo c.call c.ending old disk.noted

-- ---- a disk

-- A disk has no ledger.
abbrev pub IsOfDisk : SiteCall → Type 0
IsOfDisk Looks = Unit {0}
IsOfDisk (Changes event) = Unit {0}
IsOfDisk (Asks call) = ⊥

-- these calls were made on a disk, one after the other
abbrev pub DiskCalls : List Ended → MemDisk → MemDisk → Type 0
DiskCalls [] old new = new ≡ old
DiskCalls (c ∷ cs) old new = (between : MemDisk) × IsOfDisk c.call × Makes ⊥ c old between × DiskCalls cs between new

-- a disk after some calls
abbrev pub FollowsDisk : MemDisk → MemDisk → Type 0
FollowsDisk old new = (calls : List Ended) × DiskCalls calls old new

-- ---- a site

-- What a ledger of this kind refuses: a founding of another kind, any other call where it wasn't founded, and an operation out of order.
abbrev pub Refuses : LedgerKind → Option Book → SiteCall → Type 0
Refuses own book Looks = ⊥
Refuses own book (Changes event) = ⊥
Refuses own book (Asks (Found kind genesis)) = same_kind kind own ≡ false
Refuses own book (Asks (Act op session terms)) = (book ≡ None) ⊎ ((b : Book) × (entry : Entry) × (book ≡ Some b) × IsOutOfOrder b op session entry)
Refuses own book (Asks call) = book ≡ None

-- what a call that is done leaves of the ledger
abbrev pub HasMoved : SiteCall → Option Book → List Event → Option Book → Type 0
HasMoved (Asks (Found kind genesis)) before added after = after ≡ Some (founded genesis)
HasMoved (Asks (Act op session terms)) before added after =
    (b : Book) × (before ≡ Some b) × (after ≡ Some (operation b op session terms).after) × (added ≡ operation_events (operation b op session terms) op session terms)
HasMoved call before added after = after ≡ before

-- what a call that failed leaves of it: a founding leaves none
abbrev pub book_failed : SiteCall → Option Book → Option Book
book_failed (Asks (Found kind genesis)) before = None
book_failed call before = before

abbrev pub KeepsBook : SiteCall → Ending → Option Book → List Event → Option Book → Type 0
KeepsBook call Done before added after = HasMoved call before added after
KeepsBook call Named before added after = after ≡ book_failed call before
KeepsBook call Stopped before added after = after ≡ book_failed call before
KeepsBook call Wanting before added after = after ≡ book_failed call before
KeepsBook call Refused before added after = after ≡ book_failed call before

-- the call ended so, and led from one site to the other
pub record MakesAt (own : LedgerKind) (c : Ended) (before after : Option Book) (old new : MemDisk) : Type 0 where
  pub made : Makes (Refuses own before c.call) c old new
  pub book : KeepsBook c.call c.ending before made.disk.added after

-- these calls were made on a site, one after the other
abbrev pub SiteCalls : LedgerKind → List Ended → (before after : Option Book) → (old new : MemDisk) → Type 0
SiteCalls own [] before after old new = (after ≡ before) × (new ≡ old)
SiteCalls own (c ∷ cs) before after old new = (book : Option Book) × (between : MemDisk) × MakesAt own c before book old between × SiteCalls own cs book after between new

-- a site after some calls
abbrev pub FollowsSite : LedgerKind → (before after : Option Book) → (old new : MemDisk) → Type 0
FollowsSite own before after old new = (calls : List Ended) × SiteCalls own calls before after old new

-- ---- what some calls leave, whichever they were

-- what makes a call on a disk fail: no memory was found, the call was named, or the stop was reached
abbrev pub HasTrouble : MemDisk → MemDisk → Type 0
HasTrouble old new =
    Rose old.calls.wants new.calls.wants
    ⊎ ((call : ℕ) × (old.calls.count < call) × (call ≤ new.calls.count) × (list_any (λ n. n == call) old.calls.named ≡ true))
    ⊎ (is_stopped new ≡ true)

-- a disk: a count of faults that rose has a cause
pub record KeepsDisk (old new : MemDisk) : Type 0 where
  pub disk : Follows old new
  pub cause : (new.calls.faults ≡ old.calls.faults) ⊎ HasTrouble old new

-- a call that a ledger of this kind refuses: a founding of another kind, or an operation out of order
abbrev pub Misfits : LedgerKind → LedgerCall → Type 0
Misfits own (Found kind genesis) = same_kind kind own ≡ false
Misfits own (Act op session terms) = (b : Book) × (entry : Entry) × IsOutOfOrder b op session entry
Misfits own call = ⊥

abbrev pub HasMisfit : LedgerKind → List Ask → Type 0
HasMisfit own [] = ⊥
HasMisfit own (ask ∷ asks) = ((ask.succeeded ≡ false) × Misfits own ask.call) ⊎ HasMisfit own asks

-- what makes a call on a site fail besides: there was no ledger, or a call was told that it refuses
abbrev pub HasSiteTrouble : LedgerKind → Option Book → (old new : MemDisk) → List Ask → Type 0
HasSiteTrouble own book old new noted = HasTrouble old new ⊎ (book ≡ None) ⊎ HasMisfit own noted

-- A site. Without a founding the genesis is the same, or a founding failed and left no ledger.
-- While no count of faults rises, a ledger that is there stays; a count that rose has a cause.
pub record KeepsSite (own : LedgerKind) (before after : Option Book) (old new : MemDisk) : Type 0 where
  pub disk : Follows old new
  pub genesis : (list_any is_founding disk.added ≡ true) ⊎ (option_map (λ (b : Book). b.genesis) after ≡ option_map (λ (b : Book). b.genesis) before)
      ⊎ ((after ≡ None) × Rose old.calls.faults new.calls.faults)
  pub cause : ((new.calls.faults ≡ old.calls.faults) × (is_some before ≡ true → is_some after ≡ true)) ⊎ HasSiteTrouble own before old new disk.noted

-- ---- laws

abbrev pub DiskCallsKeep : Type 0
DiskCallsKeep = (old new : MemDisk) → FollowsDisk old new → KeepsDisk old new

abbrev pub SiteCallsKeep : Type 0
SiteCallsKeep = (own : LedgerKind) (before after : Option Book) (old new : MemDisk) → FollowsSite own before after old new → KeepsSite own before after old new
