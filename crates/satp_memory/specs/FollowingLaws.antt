-- Calls that were made one after the other: none leads from a disk or a site to itself, and two lists of them are one list.
use Rattle.std.proofs.Common.{◌≡◌, List, [], ◌∷◌, ◌++◌, Option, refl, sym, subst}
use Rattle.satp_base.specs.Money.{Book}
use Rattle.satp_base.specs.declared.ledger.LedgerKind.{LedgerKind}
use Rattle.satp_memory.specs.Following.{DiskCalls, Ended, FollowsDisk, FollowsSite, SiteCalls}
use Rattle.satp_memory.specs.declared.disk.MemDisk.{MemDisk}

disk_calls_then : (cs ds : List Ended) (a b c : MemDisk) → DiskCalls cs a b → DiskCalls ds b c → DiskCalls (cs ++ ds) a c
disk_calls_then [] ds a b c is more = subst (λ (x : MemDisk). DiskCalls ds x c) is more
disk_calls_then (e ∷ cs) ds a b c (between, own, m, rest) more = (between, own, m, disk_calls_then cs ds between b c rest more)

pub follows_disk_same : (disk : MemDisk) → FollowsDisk disk disk
follows_disk_same disk = ([], refl)

pub follows_disk_then : (a b c : MemDisk) → FollowsDisk a b → FollowsDisk b c → FollowsDisk a c
follows_disk_then a b c (cs, f) (ds, g) = (cs ++ ds, disk_calls_then cs ds a b c f g)

module _ (own : LedgerKind) where
  site_calls_then : (cs ds : List Ended) (ba bb bc : Option Book) (a b c : MemDisk) → SiteCalls own cs ba bb a b → SiteCalls own ds bb bc b c → SiteCalls own (cs ++ ds) ba bc a c
  site_calls_then [] ds ba bb bc a b c (book, is) more = subst (λ (x : MemDisk). SiteCalls own ds ba bc x c) is (subst (λ (o : Option Book). SiteCalls own ds o bc b c) book more)
  site_calls_then (e ∷ cs) ds ba bb bc a b c (book, between, m, rest) more = (book, between, m, site_calls_then cs ds book bb bc between b c rest more)

  pub follows_site_same : (book : Option Book) (disk : MemDisk) → FollowsSite own book book disk disk
  follows_site_same book disk = ([], (refl, refl))

  pub follows_site_then : (ba bb bc : Option Book) (a b c : MemDisk) → FollowsSite own ba bb a b → FollowsSite own bb bc b c → FollowsSite own ba bc a c
  follows_site_then ba bb bc a b c (cs, f) (ds, g) = (cs ++ ds, site_calls_then cs ds ba bb bc a b c f g)
