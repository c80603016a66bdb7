-- The finite types of views as lists.
use Rattle.std.proofs.Common.{Bool, true, false, List, [], ◌∷◌, Option, Some, None}
use Rattle.satp_base.specs.declared.message.Kind.{Kind}
use Rattle.satp_base.specs.declared.record.Way.{Way}
use Rattle.satp_base.specs.declared.record.Way.TheVariants.{Commit, Back}
use Rattle.satp_base.specs.declared.record.Cause.{Cause}
use Rattle.satp_base.specs.declared.record.Cause.TheVariants.{Aborted, LockRefused, Rejected, Rescued, UnknownAsset, MintCapped, LedgerTaken}
use Rattle.satp_base.specs.declared.ledger.Entry.{Entry}
use Rattle.satp_base.specs.declared.ledger.Entry.TheVariants.{Absent, Locked, Burnt, Minted, Assigned, Released}
use Rattle.satp_base.specs.declared.view.Done.{Done}
use Rattle.satp_base.proofs.Finite.{In, In-bind, bind}
use Rattle.satp_base.proofs.Finite.In.{here, there}
use Rattle.satp_base.proofs.TaleTable.{all_kinds, in_all_kinds}

abbrev pub bools : List Bool
bools = true ∷ false ∷ []

abbrev pub causes : List Cause
causes = Aborted ∷ LockRefused ∷ Rejected ∷ Rescued ∷ UnknownAsset ∷ MintCapped ∷ LedgerTaken ∷ []

abbrev pub ways : List (Option Way)
ways = None ∷ Some Commit ∷ bind causes (λ c. Some (Back c) ∷ [])

abbrev pub entries : List Entry
entries = Absent ∷ Locked ∷ Burnt ∷ Minted ∷ Assigned ∷ Released ∷ []

abbrev pub dones : List Done
dones =
    bind bools (λ l. bind bools (λ b. bind bools (λ m. bind bools (λ a. bind bools (λ r.
    record { lock = l; burn = b; mint = m; assign = a; release = r } ∷ [])))))

-- the last kind of a list, or none
abbrev pub lasts : List (Option Kind)
lasts = None ∷ bind all_kinds (λ k. Some k ∷ [])

pub in_bools : (b : Bool) → In b bools
in_bools true = here
in_bools false = there here

pub in_causes : (c : Cause) → In c causes
in_causes Aborted = here
in_causes LockRefused = there here
in_causes Rejected = there (there here)
in_causes Rescued = there (there (there here))
in_causes UnknownAsset = there (there (there (there here)))
in_causes MintCapped = there (there (there (there (there here))))
in_causes LedgerTaken = there (there (there (there (there (there here)))))

pub in_ways : (w : Option Way) → In w ways
in_ways None = here
in_ways (Some Commit) = there here
in_ways (Some (Back c)) = there (there (In-bind (λ c. Some (Back c) ∷ []) (in_causes c) here))

pub in_entries : (e : Entry) → In e entries
in_entries Absent = here
in_entries Locked = there here
in_entries Burnt = there (there here)
in_entries Minted = there (there (there here))
in_entries Assigned = there (there (there (there here)))
in_entries Released = there (there (there (there (there here))))

pub in_dones : (d : Done) → In d dones
in_dones d =
    In-bind (λ l. bind bools (λ b. bind bools (λ m. bind bools (λ a. bind bools (λ r. record { lock = l; burn = b; mint = m; assign = a; release = r } ∷ []))))) (in_bools d.lock)
    (In-bind (λ b. bind bools (λ m. bind bools (λ a. bind bools (λ r. record { lock = d.lock; burn = b; mint = m; assign = a; release = r } ∷ [])))) (in_bools d.burn)
    (In-bind (λ m. bind bools (λ a. bind bools (λ r. record { lock = d.lock; burn = d.burn; mint = m; assign = a; release = r } ∷ []))) (in_bools d.mint)
    (In-bind (λ a. bind bools (λ r. record { lock = d.lock; burn = d.burn; mint = d.mint; assign = a; release = r } ∷ [])) (in_bools d.assign)
    (In-bind (λ r. record { lock = d.lock; burn = d.burn; mint = d.mint; assign = d.assign; release = r } ∷ []) (in_bools d.release) (here {xs = []})))))

pub in_lasts : (l : Option Kind) → In l lasts
in_lasts None = here
in_lasts (Some k) = there (In-bind (λ j. Some j ∷ []) (in_all_kinds k) here)
