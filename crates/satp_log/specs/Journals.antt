-- The payloads of a gateway's journal.
use Rattle.std.specs.Prelude.{◌≡◌, ◌⊎◌, ◌<◌, ◌≤◌, ◌+◌, ◌-◌, ℕ, List, [], ◌∷◌, ◌++◌, length, map, take}
use Rattle.satp_records.specs.Formats.{IsFormed, payload_of}
use Rattle.satp_records.specs.declared.stored.Setup.{Setup}
use Rattle.satp_records.specs.declared.stored.Stored.TheVariants as journaled
use Rattle.satp_sides.specs.Logs.{IsLog, MayCome}
use Rattle.satp_sides.specs.Points.{Party, Stored}

-- who a gateway is that was set up so
abbrev pub party_of : Setup → Party
party_of s = record { name = s.name; peer = s.peer; key = s.key }

abbrev pub payload_in : Stored → List ℕ
payload_in x = payload_of (journaled.Session x.session x.rec x.text)

-- the record of the set-up, and the records after it
abbrev pub payloads_of : Setup → List Stored → List (List ℕ)
payloads_of setup xs = payload_of (journaled.Setup setup) ∷ map payload_in xs

-- these payloads are the journal of a gateway that was set up so, with these records
pub record IsJournal (payloads : List (List ℕ)) (setup : Setup) (xs : List Stored) : Type 0 where
  pub list : payloads ≡ payloads_of setup xs
  pub formed : IsFormed (journaled.Setup setup)
  pub log : IsLog (party_of setup) xs

-- of some gateway, with some records
abbrev pub IsSomeJournal : List (List ℕ) → Type 0
IsSomeJournal payloads = (setup : Setup) × (xs : List Stored) × IsJournal payloads setup xs

-- The payload at this index, from 0, is the first that may not stand there: those before it are none or a gateway's journal, and with it they are not.
pub record IsFirstRefused (payloads : List (List ℕ)) (index : ℕ) : Type 0 where
  pub within : index < length payloads
  pub before : (index ≡ 0) ⊎ IsSomeJournal (take index payloads)
  pub refused : IsSomeJournal (take (index + 1) payloads) → ⊥

-- ---- what follows

-- payloads are the journal of one gateway, with one list of records
abbrev pub OneJournal : Type 0
OneJournal =
    (payloads : List (List ℕ)) (setup other : Setup) (xs ys : List Stored) → IsJournal payloads setup xs → IsJournal payloads other ys
    → (setup ≡ other) × (xs ≡ ys)

-- of a gateway's journal no payload is refused, and there is at least one
abbrev pub NoneRefused : Type 0
NoneRefused = (payloads : List (List ℕ)) → IsSomeJournal payloads → (payloads ≡ [] → ⊥) × ((index : ℕ) → IsFirstRefused payloads index → ⊥)

-- at most one payload is the first that is refused
abbrev pub OneRefused : Type 0
OneRefused = (payloads : List (List ℕ)) (a b : ℕ) → IsFirstRefused payloads a → IsFirstRefused payloads b → a ≡ b

-- A gateway's first payloads, one at least, are its journal with its first records.
abbrev pub PrefixesAreJournals : Type 0
PrefixesAreJournals =
    (payloads : List (List ℕ)) (setup : Setup) (xs : List Stored) (n : ℕ) → IsJournal payloads setup xs → 1 ≤ n
    → IsJournal (take n payloads) setup (take (n - 1) xs)

-- A journal goes on by the payload of each record that may come, and by no other payload.
pub record GoesOn (payloads : List (List ℕ)) (setup : Setup) (xs : List Stored) : Type 0 where
  pub more : (x : Stored) → MayCome (party_of setup) xs x → IsJournal (payloads ++ payload_in x ∷ []) setup (xs ++ x ∷ [])
  pub only : (payload : List ℕ) → IsSomeJournal (payloads ++ payload ∷ []) → (x : Stored) × (payload ≡ payload_in x) × MayCome (party_of setup) xs x

abbrev pub JournalsGoOn : Type 0
JournalsGoOn = (payloads : List (List ℕ)) (setup : Setup) (xs : List Stored) → IsJournal payloads setup xs → GoesOn payloads setup xs
