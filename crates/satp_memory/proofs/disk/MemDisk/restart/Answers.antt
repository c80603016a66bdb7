use Rattle.std.proofs.Common.{ℕ, refl, sym, subst, ap, ◌∙◌}
use Rattle.std.specs.FinMap as map
use Rattle.std.proofs.lemmas.List.Sums.{fold-append}
use Rattle.satp_base.specs.LedgerAt.{entries_after, ledger_at}
use Rattle.satp_base.specs.declared.area.Area.{Area}
use Rattle.satp_base.specs.Trail.{IsImage, settled, standing}
use Rattle.satp_memory.specs.Areas.{bytes_in}
use Rattle.satp_memory.specs.Disk.{trail_from}
use Rattle.satp_memory.specs.Picks.{Picks}
use Rattle.satp_memory.specs.Plain.{plain_keeps}
use Rattle.satp_memory.specs.Steps.{IsPicked}
use Rattle.satp_memory.specs.Stopping.{pick_of}
use Rattle.satp_memory.proofs.Picking.{picked_image, picked_standing}
use Rattle.satp_memory.proofs.disk.MemDisk.restart.Goals as goal

pub returns-clause-ok : goal.returns-clause-ok
returns-clause-ok c =
    let m = c.args.self.now in
    let t = trail_from m.start m.events.items in
    let picked : (a : Area) → IsPicked (standing t a) (pick_of m.stop) (bytes_in c.in_ok-image.image a) =
    λ a. picked_standing (standing t a) (bytes_in m.current a) (bytes_in m.base a) (bytes_in m.marks a) (pick_of m.stop) (bytes_in c.in_ok-image.image a) (m.tracks a)
    (subst (λ (p : ℕ). Picks (bytes_in m.base a) (bytes_in m.current a) (bytes_in m.marks a) p (bytes_in c.in_ok-image.image a)) c.pick_of-pick.ensures (c.in_ok-image.ensures a)) in
    record {
      events = c.in_ok-append.ensures.other_items;
      picked = λ a. subst (IsPicked (standing t a) (pick_of m.stop)) (sym (c.in_ok-start.ensures a)) (picked a);
      images = λ a. subst (IsImage t a) (sym (c.in_ok-start.ensures a))
          (picked_image t a (pick_of m.stop) (bytes_in c.in_ok-image.image a) (λ area. plain_keeps area (settled (bytes_in m.start area)) m.events.items m.plain) (picked a));
      entries = ap (ledger_at map.empty) c.in_ok-append.ensures.items ∙ fold-append entries_after map.empty m.past.items m.events.items;
      stop = refl;
      calls = refl;
      dirs = refl;
      asks = refl;
    }
