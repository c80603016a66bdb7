-- The deal machine of one session.
use Rattle.std.specs.Prelude.{◌≡◌, ◌≢◌, ◌⊎◌, ◌↔◌, ℕ, suc, Bool, true, false, List, [], ◌∷◌}
use Rattle.satp_base.specs.declared.message.Role.{Role}
use Rattle.satp_base.specs.declared.message.Role.TheVariants.{Origin, Recipient}
use Rattle.satp_base.specs.declared.ledger.Entry.{Entry}
use Rattle.satp_base.specs.declared.ledger.Entry.TheVariants.{Absent, Locked, Burnt, Minted, Assigned, Released}

pub data Decision : Type 0 where
  Open : Decision
  Commit : Decision
  Back : Decision

-- the origin's entry, the recipient's entry, what was decided, and whether the recipient is ready
pub record Deal : Type 0 where
  pub a : Entry
  pub b : Entry
  pub v : Decision
  pub ready : Bool

-- where every session begins
abbrev pub untouched : Deal
untouched = record { a = Absent; b = Absent; v = Decision.Open; ready = false }

-- The asset is free at the origin before it is locked and after it is released, and at the recipient once it is assigned.
abbrev pub IsFreeAtOrigin : Deal → Type 0
IsFreeAtOrigin d = (d.a ≡ Absent) ⊎ (d.a ≡ Released)

abbrev pub IsFreeAtRecipient : Deal → Type 0
IsFreeAtRecipient d = d.b ≡ Assigned

-- free on exactly one of both
abbrev pub IsFreeOnOne : Deal → Type 0
IsFreeOnOne d = (IsFreeAtOrigin d × ¬ IsFreeAtRecipient d) ⊎ (IsFreeAtRecipient d × ¬ IsFreeAtOrigin d)

-- A step of the machine, and the side that makes it: each line has where it is allowed, and its effect.
pub data DealStep (d : Deal) : Role → Deal → Type 0 where
  Locks : d.a ≡ Absent → d.v ≢ Decision.Commit → DealStep d Origin (record d { a = Locked })
  Mints : (d.a ≡ Locked) ⊎ (d.a ≡ Released) → d.b ≡ Absent → DealStep d Recipient (record d { b = Minted })
  Readies : d.b ≡ Minted → DealStep d Recipient (record d { ready = true })
  Commits : d.v ≡ Decision.Open → d.ready ≡ true → d.a ≡ Locked → DealStep d Origin (record d { v = Decision.Commit })
  Origin_backs : d.v ≡ Decision.Open → DealStep d Origin (record d { v = Decision.Back })
  Recipient_backs : d.v ≡ Decision.Open → d.ready ≡ false → DealStep d Recipient (record d { v = Decision.Back })
  Burns : d.v ≡ Decision.Commit → d.a ≡ Locked → DealStep d Origin (record d { a = Burnt })
  Assigns : d.a ≡ Burnt → d.b ≡ Minted → DealStep d Recipient (record d { b = Assigned })
  Origin_releases : d.v ≡ Decision.Back → (d.a ≡ Absent) ⊎ (d.a ≡ Locked) → DealStep d Origin (record d { a = Released })
  Recipient_releases : d.v ≡ Decision.Back → (d.b ≡ Absent) ⊎ (d.b ≡ Minted) → DealStep d Recipient (record d { b = Released })

-- ---- runs of the machine

-- steps of either side lead from one deal to another
pub data DealRun (d : Deal) : Deal → Type 0 where
  Rests : DealRun d d
  Goes : (c e : Deal) (role : Role) → DealRun d c → DealStep c role e → DealRun d e

-- at most so many
pub data DealWithin : ℕ → Deal → Type 0 where
  At_first : (n : ℕ) → DealWithin n untouched
  Later : (n : ℕ) (d e : Deal) (role : Role) → DealWithin n d → DealStep d role e → DealWithin (suc n) e

abbrev pub deal : Entry → Entry → Decision → Bool → Deal
deal a b v ready = record { a = a; b = b; v = v; ready = ready }

-- all deals that steps lead to from the first one: undecided, on the way to a commit, and on the way back
abbrev pub all_deals : List Deal
all_deals =
    deal Absent Absent Decision.Open false
    ∷ deal Locked Absent Decision.Open false
    ∷ deal Locked Minted Decision.Open false
    ∷ deal Locked Minted Decision.Open true
    ∷ deal Locked Minted Decision.Commit true
    ∷ deal Burnt Minted Decision.Commit true
    ∷ deal Burnt Assigned Decision.Commit true
    ∷ deal Absent Absent Decision.Back false
    ∷ deal Absent Released Decision.Back false
    ∷ deal Locked Absent Decision.Back false
    ∷ deal Locked Minted Decision.Back false
    ∷ deal Locked Minted Decision.Back true
    ∷ deal Locked Released Decision.Back false
    ∷ deal Locked Released Decision.Back true
    ∷ deal Released Absent Decision.Back false
    ∷ deal Released Minted Decision.Back false
    ∷ deal Released Minted Decision.Back true
    ∷ deal Released Released Decision.Back false
    ∷ deal Released Released Decision.Back true
    ∷ []

pub data IsDealAmong (d : Deal) : List Deal → Type 0 where
  Here : {ds : List Deal} → IsDealAmong d (d ∷ ds)
  There : {c : Deal} {ds : List Deal} → IsDealAmong d ds → IsDealAmong d (c ∷ ds)

-- Steps lead to these deals from the first one and to no other, and six of them are enough.
abbrev pub LawDeals : Type 0
LawDeals = ((d : Deal) → DealRun untouched d ↔ IsDealAmong d all_deals) × ((d : Deal) → IsDealAmong d all_deals → DealWithin 6 d)
