-- The entries that a site tells are those that its trail leaves.
use Rattle.std.specs.Prelude.{◌≡◌, Option, Some}
use Rattle.std.proofs.Common.{sym, ap, ◌∙◌}
use Rattle.satp_base.specs.Calls.{Told}
use Rattle.satp_base.specs.LedgerAt.{ledger_at}
use Rattle.satp_base.specs.Money.{Book}
use Rattle.satp_memory.specs.declared.disk.MemDisk.{MemDisk}
use Rattle.satp_memory.specs.Sites.{entries_or}
use Rattle.satp_memory.specs.Steps.{entries_of, told_of}

same_told : (a b : Told) → Some a ≡ Some b → a ≡ b
same_told a b e = cc

pub one_ledger_of : (disk : MemDisk) (book : Option Book) (t : Told) (b : Book) → entries_or book (entries_of disk) ≡ entries_of disk → Some (told_of disk) ≡ Some t → book ≡ Some b → b.entries ≡ ledger_at t.trail.entries t.trail.events
one_ledger_of disk book t b one told is =
    ap (λ (o : Option Book). entries_or o (entries_of disk)) (sym is) ∙ one ∙ ap (λ (x : Told). ledger_at x.trail.entries x.trail.events) (same_told (told_of disk) t told)
