-- What one event more makes of the images of an area.
use Rattle.std.proofs.Common.{◌≡◌, ◌≢◌, ◌≤◌, ◌<◌, ◌⊎◌, ℕ, zero, suc, ◌+◌, ◌-◌, min, max, Bool, true, false, if◌then◌else◌, List, [], ◌∷◌, ◌++◌, length, take, drop, get_or, set, refl, sym, ap, ◌∙◌, subst, inl, inr, ⊎_elim, arith, length-append}
use Rattle.std.proofs.lemmas.List.{length-take, length-drop, length-set, get_or-take, get_or-drop, get_or_append_left, get_or-append_right, get_or-set_same, get_or-set_other, take_at, length-take-le, ext_get_or}
use Rattle.std.proofs.lemmas.Bool.{cases_eq, cases_lt}
use Rattle.std.proofs.lemmas.List.Sums.{fold-append}
use Rattle.std.specs.List.{fold}
use Rattle.satp_base.specs.declared.area.Area.{Area}
use Rattle.satp_base.specs.declared.area.Area.TheVariants.{JournalA, JournalB, Ledger}
use Rattle.satp_base.specs.declared.area.Event.{Event}
use Rattle.satp_base.specs.declared.area.Event.TheVariants.{Wrote, Cut, Synced, Left, Founded, Acted}
use Rattle.satp_base.specs.Trail.{Standing, Leaves, IsOutside, settled, changed, overlaid, wrote, next, same_area, IsFit, KeepsFrom}
use Rattle.satp_base.specs.Segments.{IsCut}

-- the length of an overlay
pub length-overlaid : (old : List ℕ) (at : ℕ) (bytes : List ℕ) → at ≤ length old → length (overlaid old at bytes) ≡ max (length old) (at + length bytes)
length-overlaid old at bytes le =
    simp (length-append, length-take, length-drop) (omega arith)

pub record IsSound (s : Standing) : Type 0 where
  pub base : s.least ≤ length s.base
  pub order : s.least ≤ s.greatest
  pub base_fits : length s.base ≤ s.greatest

pub sound-settled : (bytes : List ℕ) → IsSound (settled bytes)
sound-settled bytes = record { base = omega arith; order = omega arith; base_fits = omega arith }

pub sound-changed : (s : Standing) (now : List ℕ) (writes : List (ℕ × ℕ)) → IsSound s → IsSound (changed s now writes)
sound-changed s now writes h = record { base = omega (arith, h.base); order = omega (arith, h.order); base_fits = omega (arith, h.base_fits) }

-- a stop may leave the front of what was synced
pub image_of_base : (s : Standing) → IsSound s → Leaves s (take s.least s.base)
image_of_base s h = record {
  no_shorter = omega (arith, length-take-le s.least s.base h.base);
  no_longer = omega (arith, h.order, length-take-le s.least s.base h.base);
  kept = λ k lt outside. get_or-take s.least s.base k 0 lt;
}

-- Each image after a write has the front of an image before it, up to the place of the write.
pub write_behind : (s : Standing) (at n : ℕ) (bytes c : List ℕ) → IsSound s → n ≤ s.least → n ≤ at → n ≤ length s.now → Leaves (wrote s at bytes) c → (d : List ℕ) × Leaves s d × (take n d ≡ take n c) × (n ≤ length c)
write_behind s at n bytes c sound le_least le_at le_now leaves =
    (take n c ++ drop n (take s.least s.base), record { no_shorter = omega (arith, long); no_longer = omega (arith, long, sound.order); kept = kept }, take_at _ _ n size, enough)
  where
    long_now : n ≤ length (overlaid s.now at bytes)
    long_now = simp (length-append, length-take, length-drop) (omega arith)

    enough : n ≤ length c
    enough = omega (arith, long_now, leaves.no_shorter)

    size : length (take n c) ≡ n
    size = length-take-le n c enough

    long : length (take n c ++ drop n (take s.least s.base)) ≡ s.least
    long = simp (length-append, length-take, length-drop) (omega (arith, enough, le_least, sound.base))

    front : (k : ℕ) → k < s.least → IsOutside k s.writes → k < n → get_or (take n c ++ drop n (take s.least s.base)) k 0 ≡ get_or s.base k 0
    front k lt outside below = get_or_append_left (take n c) _ 0 k (omega (arith, size)) ∙ get_or-take n c k 0 below ∙ leaves.kept k (omega (arith, long_now)) (inl (omega arith), outside)

    back : (k : ℕ) → k < s.least → n ≤ k → get_or (take n c ++ drop n (take s.least s.base)) k 0 ≡ get_or s.base k 0
    back k lt above =
        let at_k : n + (k - n) ≡ k = omega arith in
        get_or-append_right (take n c) (drop n (take s.least s.base)) n k 0 size above ∙ get_or-drop n (take s.least s.base) (k - n) 0 ∙ ap (λ (i : ℕ). get_or (take s.least s.base) i 0) at_k ∙ get_or-take s.least s.base k 0 lt

    kept : (k : ℕ) → k < s.least → IsOutside k s.writes → get_or (take n c ++ drop n (take s.least s.base)) k 0 ≡ get_or s.base k 0
    kept k lt outside = ⊎_elim (front k lt outside) (back k lt) (cases_lt k n)

-- where the disk reads as one of its images, a `Left` changes none of them
left_same : (s : Standing) (bytes c : List ℕ) → Leaves s bytes → Leaves (changed s bytes []) c → Leaves s c
left_same s bytes c here leaves = record {
  no_shorter = omega (arith, here.no_shorter, leaves.no_shorter);
  no_longer = omega (arith, here.no_longer, leaves.no_longer);
  kept = λ k lt outside. leaves.kept k (omega (arith, here.no_shorter)) outside;
}

-- after a sync a stop leaves what a read gives
pub only_settled : (bytes c : List ℕ) → Leaves (settled bytes) c → c ≡ bytes
only_settled bytes c leaves =
    let same : length c ≡ length bytes = omega (arith, leaves.no_shorter, leaves.no_longer) in
    ext_get_or 0 c bytes same (λ k lt. leaves.kept k (omega arith) tt)

-- after a write of one byte into what is synced, that byte alone is free
pub one_free : (bytes c : List ℕ) (at byte : ℕ) → at < length bytes → Leaves (wrote (settled bytes) at (byte ∷ [])) c → c ≡ set bytes at (get_or c at 0)
one_free bytes c at byte lt leaves = ext_get_or 0 c (set bytes at (get_or c at 0)) same_length (λ k below. ⊎_elim (at_place k) (elsewhere k below) (cases_eq k at))
  where
    size : length (overlaid bytes at (byte ∷ [])) ≡ length bytes
    size = length-overlaid bytes at (byte ∷ []) (omega arith) ∙ omega arith

    same_length : length c ≡ length (set bytes at (get_or c at 0))
    same_length = simp length-set (omega (arith, size, leaves.no_shorter, leaves.no_longer))

    at_place : (k : ℕ) → k ≡ at → get_or c k 0 ≡ get_or (set bytes at (get_or c at 0)) k 0
    at_place k is = rw is (sym (get_or-set_same bytes at (get_or c at 0) 0 lt))

    elsewhere : (k : ℕ) → k < length c → k ≢ at → get_or c k 0 ≡ get_or (set bytes at (get_or c at 0)) k 0
    elsewhere k below other = leaves.kept k (omega (arith, size, leaves.no_longer)) (beside k other, tt) ∙ sym (get_or-set_other bytes at k (get_or c at 0) 0 other)
      where
        beside : (k : ℕ) → k ≢ at → (k < at) ⊎ (at + 1 ≤ k)
        beside k other = ⊎_elim inl (λ ge. inr (omega (arith, ge))) (cases_lt k at)

pub same_area_refl : (a : Area) → same_area a a ≡ true
same_area_refl JournalA = refl
same_area_refl JournalB = refl
same_area_refl Ledger = refl

-- what holds of one of two standings holds of the choice
choice : (P : Standing → Type 0) (b : Bool) (x y : Standing) → (b ≡ true → P x) → P y → P (if b then x else y)
choice P b x y px py = elim b as (λ v. (v ≡ true → P x) → P (if v then x else y)) [ true ↦ λ p. p refl | false ↦ λ p. py ] px

sound_next : (area : Area) (e : Event) (s : Standing) → IsSound s → IsSound (next area s e)
sound_next area (Wrote a at bytes) s h = choice IsSound (same_area a area) _ s (λ is. sound-changed s _ ((at, length bytes) ∷ []) h) h
sound_next area (Cut a n) s h = choice IsSound (same_area a area) _ s (λ is. sound-changed s _ [] h) h
sound_next area (Synced a) s h = choice IsSound (same_area a area) _ s (λ is. sound-settled s.now) h
sound_next area (Left a bytes) s h = choice IsSound (same_area a area) _ s (λ is. sound-changed s _ [] h) h
sound_next area Founded s h = h
sound_next area (Acted op session terms) s h = h

pub sound_along : (area : Area) (es : List Event) (s : Standing) → IsSound s → IsSound (fold (next area) s es)
sound_along area [] s h = h
sound_along area (e ∷ es) s h = sound_along area es (next area s e) (sound_next area e s h)

pub keeps_split : (area : Area) (s : Standing) (es fs : List Event) → KeepsFrom area s (es ++ fs) → KeepsFrom area s es × KeepsFrom area (fold (next area) s es) fs
keeps_split area s [] fs k = (tt, k)
keeps_split area s (e ∷ es) fs k = let rest = keeps_split area (next area s e) es fs k.1 in ((k.0, rest.0), rest.1)

abbrev pub IsHere : Standing → Type 0
IsHere s = Leaves s s.now

pub here_settled : (bytes : List ℕ) → IsHere (settled bytes)
here_settled bytes = record { no_shorter = omega arith; no_longer = omega arith; kept = λ k lt outside. refl }

here_wrote : (s : Standing) (at : ℕ) (bytes : List ℕ) → IsHere s → IsHere (wrote s at bytes)
here_wrote s at bytes h = record { no_shorter = omega arith; no_longer = omega arith; kept = λ k lt outside. ⊎_elim (before k lt outside.1) (after k lt outside.1) outside.0 }
  where
    before : (k : ℕ) → k < min s.least (length (overlaid s.now at bytes)) → IsOutside k s.writes → k < at → get_or (overlaid s.now at bytes) k 0 ≡ get_or s.base k 0
    before k lt outside below =
        get_or_append_left (take at s.now ++ bytes) (drop (at + length bytes) s.now) 0 k (omega (arith, length-append (take at s.now) bytes, length-take at s.now, h.no_shorter))
        ∙ get_or_append_left (take at s.now) bytes 0 k (omega (arith, length-take at s.now, h.no_shorter))
        ∙ get_or-take at s.now k 0 below
        ∙ h.kept k (omega arith) outside

    after : (k : ℕ) → k < min s.least (length (overlaid s.now at bytes)) → IsOutside k s.writes → at + length bytes ≤ k → get_or (overlaid s.now at bytes) k 0 ≡ get_or s.base k 0
    after k lt outside above =
        let size : length (take at s.now ++ bytes) ≡ at + length bytes = omega (arith, length-append (take at s.now) bytes, length-take at s.now, h.no_shorter) in
        let at_k : at + length bytes + (k - (at + length bytes)) ≡ k = omega arith in
        get_or-append_right (take at s.now ++ bytes) (drop (at + length bytes) s.now) (at + length bytes) k 0 size above
        ∙ get_or-drop (at + length bytes) s.now (k - (at + length bytes)) 0
        ∙ ap (λ (i : ℕ). get_or s.now i 0) at_k
        ∙ h.kept k (omega arith) outside

here_cut : (s : Standing) (n : ℕ) → IsHere s → IsHere (changed s (take n s.now) [])
here_cut s n h = record { no_shorter = omega arith; no_longer = omega arith; kept = λ k lt outside. get_or-take n s.now k 0 (omega (arith, length-take n s.now)) ∙ h.kept k (omega arith) outside }

here_next : (area : Area) (e : Event) (s : Standing) → IsHere s → IsFit area s e → IsHere (next area s e)
here_next area (Wrote a at bytes) s h fit = choice IsHere (same_area a area) _ s (λ is. here_wrote s at bytes h) h
here_next area (Cut a n) s h fit = choice IsHere (same_area a area) _ s (λ is. here_cut s n h) h
here_next area (Synced a) s h fit = choice IsHere (same_area a area) _ s (λ is. here_settled s.now) h
here_next area (Left a bytes) s h fit = choice IsHere (same_area a area) _ s (λ is. left_here (fit is)) h
  where
    left_here : Leaves s bytes → IsHere (changed s bytes [])
    left_here l = record { no_shorter = omega arith; no_longer = omega arith; kept = λ k lt outside. l.kept k (omega arith) outside }
here_next area Founded s h fit = h
here_next area (Acted op session terms) s h fit = h

pub reads_along : (area : Area) (es : List Event) (s : Standing) → IsHere s → KeepsFrom area s es → IsHere (fold (next area) s es)
reads_along area [] s h k = h
reads_along area (e ∷ es) s h k = reads_along area es (next area s e) (here_next area e s h k.0) k.1

pub take_nil : (n : ℕ) → let none : List Event = [] in take n none ≡ none
take_nil zero = refl
take_nil (suc n) = refl

-- a `Left` that a stop could have left adds no image
left_leaves : (area a : Area) (s : Standing) (bytes c : List ℕ) → IsFit area s (Left a bytes) → Leaves (next area s (Left a bytes)) c → Leaves s c
left_leaves area a s bytes c fit = choice (λ st. Leaves st c → Leaves s c) (same_area a area) (changed s bytes []) s (λ is. left_same s bytes c (fit is)) (λ leaves. leaves)

-- a cut of some events leaves no more than its prefix of them
pub cut_leaves : (area : Area) (whole : List Event) (s : Standing) (events : List Event) → (cut : IsCut whole events) → KeepsFrom area s events → (c : List ℕ) → Leaves (fold (next area) s events) c → Leaves (fold (next area) s (take cut.0 whole)) c
cut_leaves area whole s events (n, inl is) keeps c leaves = subst (λ (st : Standing). Leaves st c) (ap (fold (next area) s) is) leaves
cut_leaves area whole s events (n, inr (a, bytes, change, is)) keeps c leaves =
    left_leaves area a _ bytes c (keeps_split area s (take n whole) (Left a bytes ∷ []) (subst (KeepsFrom area s) is keeps)).1.0
    (subst (λ (st : Standing). Leaves st c) (ap (fold (next area) s) is ∙ fold-append (next area) s (take n whole) (Left a bytes ∷ [])) leaves)
