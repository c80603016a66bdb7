use Rattle.std.proofs.Common.{◌≡◌, ◌∙◌, ap, subst, sym, refl, ℕ, List, [], ◌∷◌, ◌++◌, true, length, replicate, arith}
use Rattle.std.proofs.lemmas.List.{get_or-replicate, length-replicate}
use Rattle.satp_base.specs.declared.area.Event.{Event}
use Rattle.satp_base.specs.declared.area.Event.TheVariants.{Wrote}
use Rattle.satp_base.specs.Trail.{overlaid}
use Rattle.satp_memory.specs.Areas.{bytes_in}
use Rattle.satp_memory.specs.Disk.{Tracks, is_plain}
use Rattle.satp_memory.proofs.Tracking.{IsPut, plain-push, tracks-wrote}
use Rattle.satp_memory.proofs.disk.MemDisk.stage_write.Goals as goal

pub invariant_of-self-2 : goal.invariant_of-self-2
invariant_of-self-2 c =
    let m = c.args.self.now in
    let area = c.args.area in
    let at : ℕ = c.args.at in
    let bytes : List ℕ = c.args.bytes.now in
    let ones : List ℕ = replicate (length bytes) 1 in
    let long : length ones ≡ length bytes = length-replicate {A = ℕ} (length bytes) 1 in
    let pushed : c.push.new.self.items ≡ m.events.items ++ Wrote area at bytes ∷ [] =
    c.in_ok-push.ensures.items ∙ ap (λ (b : List ℕ). m.events.items ++ Wrote area at b ∷ []) c.in_ok-copy.ensures in
    let laid : c.in_ok-next.next.items ≡ overlaid (bytes_in m.current area) at bytes =
    c.in_ok-next.ensures ∙ ap (λ (l : List ℕ). overlaid l at bytes) c.at.ensures in
    let marked : c.in_ok-marks.marks.items ≡ overlaid (bytes_in m.marks area) at ones =
    c.in_ok-marks.ensures ∙ ap (λ (l : List ℕ). overlaid l at c.deref.result.now) c.at-2.ensures ∙ ap (λ (l : List ℕ). overlaid (bytes_in m.marks area) at l) (c.deref.ensures.value ∙ c.in_ok-ones.ensures) in
    record {
      tracks = subst (λ (es : List Event). Tracks m.start es c.put.new.self m.base c.put-2.new.self) (sym pushed)
          (tracks-wrote m.start m.events.items m.current m.base m.marks m.tracks area at bytes ones c.put.new.self c.put-2.new.self c.requires
          long (λ k lt. get_or-replicate (length bytes) k 1 0 (omega (arith, lt, long)))
          (subst (λ (l : List ℕ). IsPut area l m.current c.put.new.self) laid c.put.ensures)
          (subst (λ (l : List ℕ). IsPut area l m.marks c.put-2.new.self) marked c.put-2.ensures));
      plain = subst (λ (es : List Event). is_plain es ≡ true) (sym pushed) (plain-push m.events.items (Wrote area at bytes) m.plain refl);
    }
