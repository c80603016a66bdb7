-- Cuts of lists of events.
use Rattle.std.proofs.Common.{◌≡◌, ◌≤◌, ◌<◌, ◌⊎◌, ℕ, ◌+◌, ◌-◌, min, List, [], ◌∷◌, ◌++◌, length, take, Some, refl, sym, ap, ◌∙◌, subst, inl, inr, ⊎_elim, arith, append_assoc, length-append}
use Rattle.std.proofs.lemmas.List.{append-nil, length-take, take_all, take-take, take-append-le, take_min}
use Rattle.std.proofs.Math.Seq.{take-append-add, take-append_seam}
use Rattle.std.proofs.lemmas.Bool.{cases_lt}
use Rattle.satp_base.specs.declared.area.Area.{Area}
use Rattle.satp_base.specs.declared.area.Event.{Event}
use Rattle.satp_base.specs.declared.area.Event.TheVariants.{Left}
use Rattle.satp_base.specs.Segments.{IsCut, last_area}

-- a `Left` of the area that these events end in
abbrev EndsIn : Area → List Event → Type 0
EndsIn area events = last_area events ≡ Some area

abbrev with_left : Area → List ℕ → List Event → List Event
with_left area bytes es = es ++ Left area bytes ∷ []

pub last_of : (xs : List Event) (y : Event) (ys : List Event) → last_area (xs ++ y ∷ ys) ≡ last_area (y ∷ ys)
last_of [] y ys = refl
last_of (x ∷ []) y ys = refl
last_of (x ∷ z ∷ xs) y ys = last_of (z ∷ xs) y ys

ends_split : (area : Area) (xs ys : List Event) → EndsIn area (xs ++ ys) → ((ys ≡ []) × EndsIn area xs) ⊎ EndsIn area ys
ends_split area xs [] h = inl (refl, subst (EndsIn area) (append-nil xs) h)
ends_split area xs (y ∷ ys) h = inr (sym (last_of xs y ys) ∙ h)

ends_after : (area : Area) (xs ys : List Event) → EndsIn area ys → EndsIn area (xs ++ ys)
ends_after area xs [] h = absurd cc
ends_after area xs (y ∷ ys) h = last_of xs y ys ∙ h

-- n of two lists, where these are more than the first
past : (xs ys : List Event) (n : ℕ) → length xs ≤ n → take n (xs ++ ys) ≡ xs ++ take (n - length xs) ys
past xs ys n le =
    let whole : length xs + (n - length xs) ≡ n = omega (arith, le) in
    ap (λ (i : ℕ). take i (xs ++ ys)) (sym whole) ∙ take-append-add xs ys (n - length xs)

abbrev Either : List Event → List Event → List Event → Type 0
Either xs ys es = IsCut xs es ⊎ ((fs : List Event) × IsCut ys fs × (es ≡ xs ++ fs))

-- a cut of two lists is one of the first, or the first and a cut of the second
pub cut_append : (xs ys es : List Event) → IsCut (xs ++ ys) es → Either xs ys es
cut_append xs ys es (n, inl is) = ⊎_elim beyond within (cases_lt (length xs) n)
  where
    beyond : length xs < n → Either xs ys es
    beyond lt = inr (take (n - length xs) ys, (n - length xs, inl refl), is ∙ past xs ys n (omega (arith, lt)))

    within : n ≤ length xs → Either xs ys es
    within le = inl (n, inl (is ∙ take-append-le n xs ys le))
cut_append xs ys es (n, inr (area, bytes, change, is)) = ⊎_elim beyond within (cases_lt (length xs) n)
  where
    within : n ≤ length xs → Either xs ys es
    within le = let front = take-append-le n xs ys le in inl (n, inr (area, bytes, subst (EndsIn area) front change, is ∙ ap (with_left area bytes) front))

    at_seam : take (n - length xs) ys ≡ [] → es ≡ with_left area bytes (xs ++ take (n - length xs) ys) → EndsIn area xs → Either xs ys es
    at_seam none whole h =
        inl (length xs, inr (area, bytes, subst (EndsIn area) (sym (take_all (length xs) xs (omega arith))) h, whole ∙ ap (λ (l : List Event). with_left area bytes (xs ++ l)) none ∙ ap (with_left area bytes) (append-nil xs ∙ sym (take_all (length xs) xs (omega arith)))))

    beyond : length xs < n → Either xs ys es
    beyond lt =
        let front = past xs ys n (omega (arith, lt)) in
        let whole = is ∙ ap (with_left area bytes) front in
        ⊎_elim (λ none. at_seam none.0 whole none.1) (λ h. inr (with_left area bytes (take (n - length xs) ys), (n - length xs, inr (area, bytes, h, refl)), whole ∙ append_assoc xs _ _))
        (ends_split area xs (take (n - length xs) ys) (subst (EndsIn area) front change))

-- the prefix of a cut is a cut
pub cut_front : (whole es : List Event) → IsCut whole es → (n : ℕ) → IsCut whole (take n es)
cut_front whole es (m, inl is) n = ⊎_elim shorter same (cases_lt n m)
  where
    shorter : n < m → IsCut whole (take n es)
    shorter lt = (n, inl (ap (take n) is ∙ take-take n m whole (omega (arith, lt))))

    same : m ≤ n → IsCut whole (take n es)
    same le = (m, inl (take_all n es (rw is (omega (arith, le, length-take m whole))) ∙ is))
cut_front whole es (m, inr (area, bytes, change, is)) n = ⊎_elim shorter same (cases_lt n (length es))
  where
    long : length es ≡ min m (length whole) + 1
    long = ap length is ∙ length-append (take m whole) (Left area bytes ∷ []) ∙ ap (λ (i : ℕ). i + 1) (length-take m whole)

    shorter : n < length es → IsCut whole (take n es)
    shorter lt =
        (n, inl (ap (take n) is ∙ take-append-le n (take m whole) (Left area bytes ∷ []) (omega (arith, lt, long, length-take m whole)) ∙ take-take n m whole (omega (arith, lt, long))))

    same : length es ≤ n → IsCut whole (take n es)
    same le = (m, inr (area, bytes, change, take_all n es le ∙ is))

-- a cut of the first of two lists is one of both
pub cut_left : (xs ys es : List Event) → IsCut xs es → IsCut (xs ++ ys) es
cut_left xs ys es (n, cut) = (min n (length xs), ⊎_elim (λ is. inl (is ∙ prefix)) (λ (area, bytes, change, is). inr (area, bytes, subst (EndsIn area) prefix change, is ∙ ap (with_left area bytes) prefix)) cut)
  where
    prefix : take n xs ≡ take (min n (length xs)) (xs ++ ys)
    prefix = sym (take_min n xs) ∙ sym (take-append-le (min n (length xs)) xs ys (omega arith))

-- the first, and a cut of the second
pub cut_right : (xs ys fs : List Event) → IsCut ys fs → IsCut (xs ++ ys) (xs ++ fs)
cut_right xs ys fs (n, inl is) = (length xs + n, inl (ap (λ (l : List Event). xs ++ l) is ∙ sym (take-append-add xs ys n)))
cut_right xs ys fs (n, inr (area, bytes, change, is)) =
    let front = sym (take-append-add xs ys n) in (
      length xs + n,
      inr (area, bytes, subst (EndsIn area) front (ends_after area xs (take n ys) change), ap (λ (l : List Event). xs ++ l) is ∙ sym (append_assoc xs (take n ys) _) ∙ ap (with_left area bytes) front),
    )

-- the whole of the first is a cut of both
pub cut_whole : (xs ys es : List Event) → es ≡ xs → IsCut (xs ++ ys) es
cut_whole xs ys es is = (length xs, inl (is ∙ sym (take-append_seam xs ys)))

pub cut_none : (xs es : List Event) → es ≡ [] → IsCut xs es
cut_none xs es is = (0, inl is)
