use Rattle.std.proofs.Common.{◌≡◌, ◌∙◌, ap, subst, sym, refl, ℕ, List, [], ◌∷◌, ◌++◌, true, length, replicate, arith}
use Rattle.std.proofs.lemmas.List.{get_or-replicate, length-replicate}
use Rattle.satp_base.specs.declared.area.Event.{Event}
use Rattle.satp_base.specs.declared.area.Event.TheVariants.{Synced}
use Rattle.satp_memory.specs.Areas.{bytes_in}
use Rattle.satp_memory.specs.Disk.{Tracks, is_plain}
use Rattle.satp_memory.proofs.Tracking.{IsPut, plain-push, tracks-synced}
use Rattle.satp_memory.proofs.disk.MemDisk.stage_sync.Goals as goal

pub invariant_of-self-2 : goal.invariant_of-self-2
invariant_of-self-2 c =
    let m = c.args.self.now in
    let area = c.args.area in
    let size : ℕ = length (bytes_in m.current area) in
    let zeros : List ℕ = replicate size 0 in
    let long : length zeros ≡ size = length-replicate {A = ℕ} size 0 in
    let pushed : c.push.new.self.items ≡ m.events.items ++ Synced area ∷ [] = c.in_ok-push.ensures.items in
    let kept : c.in_ok-base.base.items ≡ bytes_in m.current area = c.in_ok-base.ensures.items ∙ c.at.ensures in
    let marked : c.in_ok-marks.marks.items ≡ zeros = c.in_ok-marks.ensures ∙ ap (λ (n : ℕ). replicate n 0) (omega (arith, c.len.ensures, ap length kept)) in
    record {
      tracks = subst (λ (es : List Event). Tracks m.start es m.current c.put.new.self c.put-2.new.self) (sym pushed)
          (tracks-synced m.start m.events.items m.current m.base m.marks m.tracks area zeros c.put.new.self c.put-2.new.self
          long (λ k lt. get_or-replicate size k 0 0 (omega (arith, lt, long)))
          (subst (λ (l : List ℕ). IsPut area l m.base c.put.new.self) kept c.put.ensures)
          (subst (λ (l : List ℕ). IsPut area l m.marks c.put-2.new.self) marked c.put-2.ensures));
      plain = subst (λ (es : List Event). is_plain es ≡ true) (sym pushed) (plain-push m.events.items (Synced area) m.plain refl);
    }
