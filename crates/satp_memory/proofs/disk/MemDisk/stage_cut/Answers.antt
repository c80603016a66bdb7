use Rattle.std.proofs.Common.{◌≡◌, ◌∙◌, ap, subst, sym, refl, ℕ, List, [], ◌∷◌, ◌++◌, true, take}
use Rattle.satp_base.specs.declared.area.Event.{Event}
use Rattle.satp_base.specs.declared.area.Event.TheVariants.{Cut}
use Rattle.satp_memory.specs.Areas.{bytes_in}
use Rattle.satp_memory.specs.Disk.{Tracks, is_plain}
use Rattle.satp_memory.proofs.Tracking.{IsPut, plain-push, tracks-cut}
use Rattle.satp_memory.proofs.disk.MemDisk.stage_cut.Goals as goal

pub invariant_of-self-2 : goal.invariant_of-self-2
invariant_of-self-2 c =
    let m = c.args.self.now in
    let area = c.args.area in
    let size : ℕ = c.args.size in
    let pushed : c.push.new.self.items ≡ m.events.items ++ Cut area size ∷ [] = c.in_ok-push.ensures.items in
    let short : c.in_ok-next.next.items ≡ take size (bytes_in m.current area) = c.in_ok-next.ensures ∙ ap (take size) c.at.ensures in
    let marked : c.in_ok-marks.marks.items ≡ take size (bytes_in m.marks area) = c.in_ok-marks.ensures ∙ ap (take size) c.at-2.ensures in
    record {
      tracks = subst (λ (es : List Event). Tracks m.start es c.put.new.self m.base c.put-2.new.self) (sym pushed)
          (tracks-cut m.start m.events.items m.current m.base m.marks m.tracks area size c.put.new.self c.put-2.new.self
          (subst (λ (l : List ℕ). IsPut area l m.current c.put.new.self) short c.put.ensures)
          (subst (λ (l : List ℕ). IsPut area l m.marks c.put-2.new.self) marked c.put-2.ensures));
      plain = subst (λ (es : List Event). is_plain es ≡ true) (sym pushed) (plain-push m.events.items (Cut area size) m.plain refl);
    }
