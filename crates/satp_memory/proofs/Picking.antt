-- What a restart leaves is what its pick says, and one of the images.
use Rattle.std.proofs.Common.{◌≡◌, ◌≢◌, ◌≤◌, ◌<◌, ℕ, zero, suc, ◌%◌, ◌+◌, List, length, get_or, set, refl, sym, ap, subst, ◌∙◌, ⊎_elim, arith}
use Rattle.std.proofs.lemmas.Bool.{cases_eq, cases_lt}
use Rattle.std.proofs.lemmas.List.{get_or_past, get_or-set_same, get_or-set_other, length-set}
use Rattle.satp_base.specs.declared.area.Area.{Area}
use Rattle.satp_base.specs.Trail.{Trail, Standing, Leaves, IsImage, IsOutside, KeepsModel, standing}
use Rattle.satp_base.proofs.Standings.{IsSound, sound-settled, sound_along, reads_along, here_settled}
use Rattle.satp_memory.specs.Disk.{Holds}
use Rattle.satp_memory.proofs.Tracking.{clear_of, set_of}
use Rattle.satp_memory.specs.Picks.{Fills, Picks}
use Rattle.satp_memory.specs.Steps.{IsFilled, IsPicked}

pub picked_standing : (s : Standing) (now base marks : List ℕ) (pick : ℕ) (image : List ℕ) → Holds s now base marks → Picks base now marks pick image → IsPicked s pick image
picked_standing s now base marks pick image h p = record { old = λ e. p.old e ∙ sym h.base_is; new = λ e. p.new e ∙ sym h.now_is; filled = filled }
  where
    same_at : (k : ℕ) → get_or s.now k 0 ≡ get_or now k 0
    same_at k = ap (λ (l : List ℕ). get_or l k 0) h.now_is

    inside : Fills now marks (pick % 256) image → (k : ℕ) → IsOutside k s.writes → k < length now → get_or image k 0 ≡ get_or s.now k 0
    inside f k out lt = ⊎_elim (λ z. f.kept k lt z ∙ sym (same_at k)) (λ some. absurd (set_of s.writes marks (length now) h.marked k lt some out)) (cases_eq (get_or marks k 0) 0)

    past : Fills now marks (pick % 256) image → (k : ℕ) → length now ≤ k → get_or image k 0 ≡ get_or s.now k 0
    past f k ge = get_or_past image k 0 (omega (arith, ge, f.long)) ∙ sym (same_at k ∙ get_or_past now k 0 ge)

    all : Fills now marks (pick % 256) image → IsFilled s (pick % 256) image
    all f = record {
      long = f.long ∙ ap length (sym h.now_is);
      kept = λ k out. ⊎_elim (inside f k out) (past f k) (cases_lt k (length now));
      filled = λ k lt written. ⊎_elim (λ z. absurd (written (clear_of s.writes marks (length now) h.marked k (omega (arith, lt, f.long)) z))) (f.filled k (omega (arith, lt, f.long))) (cases_eq (get_or marks k 0) 0);
    }

    filled : 2 ≤ pick → IsFilled s (pick % 256) image
    filled le = all (p.filled le)

base_leaves : (s : Standing) → IsSound s → Leaves s s.base
base_leaves s sound = record { no_shorter = sound.base; no_longer = sound.base_fits; kept = λ k lt out. refl }

filled_leaves : (s : Standing) (pick : ℕ) (image : List ℕ) → Leaves s s.now → IsFilled s pick image → Leaves s image
filled_leaves s pick image here f = record {
  no_shorter = omega (arith, f.long, here.no_shorter);
  no_longer = omega (arith, f.long, here.no_longer);
  kept = λ k lt out. f.kept k out ∙ here.kept k lt out;
}

pub picked_image : (t : Trail) (area : Area) (pick : ℕ) (image : List ℕ) → KeepsModel t → IsPicked (standing t area) pick image → IsImage t area image
picked_image t area zero image keeps p = subst (Leaves (standing t area)) (sym (p.old refl)) (base_leaves (standing t area) (sound_along area t.events _ (sound-settled (t.start area))))
picked_image t area (suc zero) image keeps p = subst (Leaves (standing t area)) (sym (p.new refl)) (reads_along area t.events _ (here_settled (t.start area)) (keeps area))
picked_image t area (suc (suc n)) image keeps p =
    filled_leaves (standing t area) (suc (suc n) % 256) image (reads_along area t.events _ (here_settled (t.start area)) (keeps area)) (p.filled (omega arith))

-- how far a fill has come
pub record IsFilling (now marks : List ℕ) (byte at : ℕ) (image : List ℕ) : Type 0 where
  pub long : length image ≡ length now
  pub kept : (k : ℕ) → k < length now → get_or marks k 0 ≡ 0 → get_or image k 0 ≡ get_or now k 0
  pub filled : (k : ℕ) → k < at → k < length now → get_or marks k 0 ≢ 0 → get_or image k 0 ≡ byte

pub filling_begins : (now marks : List ℕ) (byte : ℕ) → IsFilling now marks byte 0 now
filling_begins now marks byte = record { long = refl; kept = λ k lt z. refl; filled = λ k none lt some. absurd (omega (arith, none)) }

pub filling_more : (now marks : List ℕ) (byte at v : ℕ) (image : List ℕ) → at < length now → IsFilling now marks byte at image → (get_or marks at 0 ≡ 0 → v ≡ get_or now at 0) → (get_or marks at 0 ≢ 0 → v ≡ byte) → IsFilling now marks byte (at + 1) (set image at v)
filling_more now marks byte at v image lt f clear set_is = record { long = length-set-is ∙ f.long; kept = kept; filled = filled }
  where
    length-set-is : length (set image at v) ≡ length image
    length-set-is = length-set image at v

    here : (k : ℕ) → k ≡ at → get_or (set image at v) k 0 ≡ v
    here k is = rw is (get_or-set_same image at v 0 (omega (arith, lt, f.long)))

    kept : (k : ℕ) → k < length now → get_or marks k 0 ≡ 0 → get_or (set image at v) k 0 ≡ get_or now k 0
    kept k less z = ⊎_elim (λ is. here k is ∙ clear (subst (λ (i : ℕ). get_or marks i 0 ≡ 0) is z) ∙ ap (λ (i : ℕ). get_or now i 0) (sym is)) (λ other. get_or-set_other image at k v 0 other ∙ f.kept k less z) (cases_eq k at)

    filled : (k : ℕ) → k < at + 1 → k < length now → get_or marks k 0 ≢ 0 → get_or (set image at v) k 0 ≡ byte
    filled k most less some = ⊎_elim (λ is. here k is ∙ set_is (λ z. some (subst (λ (i : ℕ). get_or marks i 0 ≡ 0) (sym is) z))) (λ other. get_or-set_other image at k v 0 other ∙ f.filled k (omega (arith, most, other)) less some) (cases_eq k at)
