-- What is kept stays what the events give.
use Rattle.std.proofs.Common.{◌≡◌, ◌≢◌, ◌≤◌, ◌<◌, ◌⊎◌, ℕ, ◌+◌, ◌-◌, max, Bool, true, false, ◌&&◌, ◌||◌, ◌==◌, nat_lt, nat_le, if◌then◌else◌, List, [], ◌∷◌, ◌++◌, length, take, drop, get_or, refl, sym, ap, subst, ◌∙◌, inl, inr, ⊎_elim, arith, length-append}
use Rattle.std.proofs.lemmas.Bool.{cases_lt, eqb-true, leb-true, le-leb, lt-ltb, ltb-true}
use Rattle.std.proofs.lemmas.List.{length-take, get_or-take, get_or-drop, get_or_append_left, get_or-append_right}
use Rattle.std.proofs.lemmas.List.Sums.{fold-append}
use Rattle.satp_base.specs.declared.area.Area.{Area}
use Rattle.satp_base.specs.declared.area.Area.TheVariants.{JournalA, JournalB, Ledger}
use Rattle.satp_base.specs.declared.area.Event.{Event}
use Rattle.satp_base.specs.declared.area.Event.TheVariants.{Wrote, Cut, Synced, Left, Founded, Acted}
use Rattle.satp_base.specs.Trail.{Standing, IsOutside, changed, next, overlaid, same_area, settled, standing, wrote}
use Rattle.satp_base.proofs.Standings.{length-overlaid}
use Rattle.satp_memory.specs.declared.areas.Areas.{Areas}
use Rattle.satp_memory.specs.Areas.{bytes_in}
use Rattle.satp_memory.specs.Steps.{IsOfLedger}
use Rattle.satp_memory.specs.Disk.{Holds, Marks, Tracks, is_outside, is_plain, trail_from}

pub plain-push : (es : List Event) (e : Event) → is_plain es ≡ true → is_plain (e ∷ []) ≡ true → is_plain (es ++ e ∷ []) ≡ true
plain-push [] e p q = q
plain-push (Wrote a at bytes ∷ es) e p q = plain-push es e p q
plain-push (Cut a n ∷ es) e p q = plain-push es e p q
plain-push (Synced a ∷ es) e p q = plain-push es e p q
plain-push (Left a bytes ∷ es) e p q = cc
plain-push (Founded ∷ es) e p q = plain-push es e p q
plain-push (Acted op session terms ∷ es) e p q = plain-push es e p q

pub ledger-plain : (e : Event) → IsOfLedger e → is_plain (e ∷ []) ≡ true
ledger-plain Founded l = refl
ledger-plain (Acted op session terms) l = refl
ledger-plain e l = absurd l

-- ---- a byte of an overlay

module _ (old : List ℕ) (at : ℕ) (bytes : List ℕ) (k : ℕ) (le : at ≤ length old) where
  front_size : length (take at old ++ bytes) ≡ at + length bytes
  front_size = omega (arith, le, length-append (take at old) bytes, length-take at old)

  get_before : k < at → get_or (overlaid old at bytes) k 0 ≡ get_or old k 0
  get_before lt =
      get_or_append_left (take at old ++ bytes) (drop (at + length bytes) old) 0 k (omega (arith, lt, front_size))
      ∙ get_or_append_left (take at old) bytes 0 k (omega (arith, lt, le, length-take at old)) ∙ get_or-take at old k 0 lt

  get_within : at ≤ k → k < at + length bytes → get_or (overlaid old at bytes) k 0 ≡ get_or bytes (k - at) 0
  get_within ge lt =
      get_or_append_left (take at old ++ bytes) (drop (at + length bytes) old) 0 k (omega (arith, lt, front_size))
      ∙ get_or-append_right (take at old) bytes at k 0 (omega (arith, le, length-take at old)) ge

  get_behind : at + length bytes ≤ k → get_or (overlaid old at bytes) k 0 ≡ get_or old k 0
  get_behind ge =
      let back : at + length bytes + (k - (at + length bytes)) ≡ k = omega (arith, ge) in
      get_or-append_right (take at old ++ bytes) (drop (at + length bytes) old) (at + length bytes) k 0 front_size ge
      ∙ get_or-drop (at + length bytes) old (k - (at + length bytes)) 0 ∙ ap (λ (i : ℕ). get_or old i 0) back

-- ---- marks

outside_is : (k : ℕ) (ws : List (ℕ × ℕ)) → is_outside k ws ≡ true → IsOutside k ws
outside_is k [] e = tt
outside_is k (w ∷ ws) e = (either (nat_lt k w.0) (nat_le (w.0 + w.1) k) (ltb-true k w.0) (leb-true (w.0 + w.1) k) (first_of_both _ _ e), outside_is k ws (last_of_both _ _ e))
  where
    either : {A B : Type 0} (a b : Bool) → (a ≡ true → A) → (b ≡ true → B) → (a || b) ≡ true → A ⊎ B
    either true b f g e = inl (f refl)
    either false b f g e = inr (g e)

    first_of_both : (a b : Bool) → (a && b) ≡ true → a ≡ true
    first_of_both true b e = refl
    first_of_both false b e = e

    last_of_both : (a b : Bool) → (a && b) ≡ true → b ≡ true
    last_of_both true b e = e
    last_of_both false b e = cc

outside_from : (k : ℕ) (ws : List (ℕ × ℕ)) → IsOutside k ws → is_outside k ws ≡ true
outside_from k [] o = refl
outside_from k (w ∷ ws) (inl lt, rest) = rw (lt-ltb k w.0 lt) (outside_from k ws rest)
outside_from k (w ∷ ws) (inr le, rest) = rw (le-leb (w.0 + w.1) k le) (right (nat_lt k w.0) (is_outside k ws) (outside_from k ws rest))
  where
    right : (a b : Bool) → b ≡ true → ((a || true) && b) ≡ true
    right true b e = e
    right false b e = e

pub clear_of : (writes : List (ℕ × ℕ)) (marks : List ℕ) (size : ℕ) → Marks writes marks size → (k : ℕ) → k < size → get_or marks k 0 ≡ 0 → IsOutside k writes
clear_of writes marks size m k lt z = outside_is k writes (sym (m.value k lt) ∙ rw z refl)

pub set_of : (writes : List (ℕ × ℕ)) (marks : List ℕ) (size : ℕ) → Marks writes marks size → (k : ℕ) → k < size → get_or marks k 0 ≢ 0 → IsOutside k writes → ⊥
set_of writes marks size m k lt some out = some (eqb-true (get_or marks k 0) 0 (m.value k lt ∙ outside_from k writes out))

marked_by : (writes : List (ℕ × ℕ)) (marks : List ℕ) (size : ℕ) → length marks ≡ size → ((k : ℕ) → k < size → get_or marks k 0 ≡ 0 → IsOutside k writes) → ((k : ℕ) → k < size → get_or marks k 0 ≢ 0 → IsOutside k writes → ⊥) → Marks writes marks size
marked_by writes marks size long clear set = record { long = long; value = λ k lt. same (get_or marks k 0 == 0) (is_outside k writes) (λ e. outside_from k writes (clear k lt (eqb-true (get_or marks k 0) 0 e))) (λ e f. set k lt (λ z. f (rw z refl)) (outside_is k writes e)) }
  where
    same : (a b : Bool) → (a ≡ true → b ≡ true) → (b ≡ true → (a ≡ true → ⊥) → ⊥) → a ≡ b
    same true b f g = sym (f refl)
    same false true f g = absurd (g refl (λ e. cc))
    same false false f g = refl

marks-wrote : (writes : List (ℕ × ℕ)) (now marks bytes ones : List ℕ) (at : ℕ) → at ≤ length now → Marks writes marks (length now) → length ones ≡ length bytes → ((k : ℕ) → k < length ones → get_or ones k 0 ≡ 1)
    → Marks ((at, length bytes) ∷ writes) (overlaid marks at ones) (length (overlaid now at bytes))
marks-wrote writes now marks bytes ones at le m same all = marked_by ((at, length bytes) ∷ writes) (overlaid marks at ones) (length (overlaid now at bytes)) long clear set
  where
    at_marks : at ≤ length marks
    at_marks = omega (arith, le, m.long)

    size : length (overlaid now at bytes) ≡ max (length now) (at + length bytes)
    size = length-overlaid now at bytes le

    long : length (overlaid marks at ones) ≡ length (overlaid now at bytes)
    long = omega (arith, size, length-overlaid marks at ones at_marks, m.long, same)

    clear : (k : ℕ) → k < length (overlaid now at bytes) → get_or (overlaid marks at ones) k 0 ≡ 0 → IsOutside k ((at, length bytes) ∷ writes)
    clear k lt zero_is = ⊎_elim before behind (cases_lt k at)
      where
        before : k < at → IsOutside k ((at, length bytes) ∷ writes)
        before less = (inl less, clear_of writes marks (length now) m k (omega (arith, less, le)) (sym (get_before marks at ones k at_marks less) ∙ zero_is))

        behind : at ≤ k → IsOutside k ((at, length bytes) ∷ writes)
        behind ge = ⊎_elim within beyond (cases_lt k (at + length bytes))
          where
            within : k < at + length bytes → IsOutside k ((at, length bytes) ∷ writes)
            within less = absurd (one_zero (sym (get_within marks at ones k at_marks ge (omega (arith, less, same)) ∙ all (k - at) (omega (arith, less, ge, same))) ∙ zero_is))
              where
                one_zero : let one : ℕ = 1 in one ≡ 0 → ⊥
                one_zero e = cc

            beyond : at + length bytes ≤ k → IsOutside k ((at, length bytes) ∷ writes)
            beyond more = (inr more, clear_of writes marks (length now) m k (omega (arith, lt, size, more)) (sym (get_behind marks at ones k at_marks (omega (arith, more, same))) ∙ zero_is))

    set : (k : ℕ) → k < length (overlaid now at bytes) → get_or (overlaid marks at ones) k 0 ≢ 0 → IsOutside k ((at, length bytes) ∷ writes) → ⊥
    set k lt some (out, rest) = ⊎_elim before beyond out
      where
        before : k < at → ⊥
        before less = set_of writes marks (length now) m k (omega (arith, less, le)) (λ z. some (get_before marks at ones k at_marks less ∙ z)) rest

        beyond : at + length bytes ≤ k → ⊥
        beyond more = set_of writes marks (length now) m k (omega (arith, lt, size, more)) (λ z. some (get_behind marks at ones k at_marks (omega (arith, more, same)) ∙ z)) rest

marks-cut : (writes : List (ℕ × ℕ)) (now marks : List ℕ) (n : ℕ) → Marks writes marks (length now) → Marks writes (take n marks) (length (take n now))
marks-cut writes now marks n m =
    marked_by writes (take n marks) (length (take n now)) (omega (arith, length-take n now, length-take n marks, m.long))
    (λ k lt z. clear_of writes marks (length now) m k (omega (arith, lt, length-take n now)) (sym (get_or-take n marks k 0 (omega (arith, lt, length-take n now))) ∙ z))
    (λ k lt some out. set_of writes marks (length now) m k (omega (arith, lt, length-take n now)) (λ z. some (get_or-take n marks k 0 (omega (arith, lt, length-take n now)) ∙ z)) out)

marks-synced : (zeros : List ℕ) (size : ℕ) → length zeros ≡ size → ((k : ℕ) → k < length zeros → get_or zeros k 0 ≡ 0) → Marks [] zeros size
marks-synced zeros size long all = marked_by [] zeros size long (λ k lt z. tt) (λ k lt some out. some (all k (omega (arith, lt, long))))

-- ---- one area

holds-wrote : (s : Standing) (now base marks ones bytes : List ℕ) (at : ℕ) → at ≤ length now → Holds s now base marks → length ones ≡ length bytes → ((k : ℕ) → k < length ones → get_or ones k 0 ≡ 1) → Holds (wrote s at bytes) (overlaid now at bytes) base (overlaid marks at ones)
holds-wrote s now base marks ones bytes at le h same all =
    record { now_is = ap (λ (l : List ℕ). overlaid l at bytes) h.now_is; base_is = h.base_is; marked = marks-wrote s.writes now marks bytes ones at le h.marked same all }

holds-cut : (s : Standing) (now base marks : List ℕ) (n : ℕ) → Holds s now base marks → Holds (changed s (take n s.now) []) (take n now) base (take n marks)
holds-cut s now base marks n h = record { now_is = ap (take n) h.now_is; base_is = h.base_is; marked = marks-cut s.writes now marks n h.marked }

holds-synced : (s : Standing) (now base marks zeros : List ℕ) → Holds s now base marks → length zeros ≡ length now → ((k : ℕ) → k < length zeros → get_or zeros k 0 ≡ 0) → Holds (settled s.now) now now zeros
holds-synced s now base marks zeros h long all = record { now_is = h.now_is; base_is = h.now_is; marked = marks-synced zeros (length now) long all }

-- the one area that an event is of, or another one
holds-choice : (b : Bool) (s t : Standing) (now base marks now' base' marks' : List ℕ) → (b ≡ true → Holds t now' base' marks') → Holds s now base marks
    → Holds (if b then t else s) (if b then now' else now) (if b then base' else base) (if b then marks' else marks)
holds-choice true s t now base marks now' base' marks' there kept = there refl
holds-choice false s t now base marks now' base' marks' there kept = kept

holds-same : (s t : Standing) (n m b c k l : List ℕ) → s ≡ t → n ≡ m → b ≡ c → k ≡ l → Holds s n b k → Holds t m c l
holds-same s t n m b c k l es en eb ek h = subst (Holds t m c) ek (subst (λ (x : List ℕ). Holds t m x k) eb (subst (λ (x : List ℕ). Holds t x b k) en (subst (λ (x : Standing). Holds x n b k) es h)))

same_area_is : (b a : Area) → same_area b a ≡ true → b ≡ a
same_area_is JournalA JournalA e = refl
same_area_is JournalB JournalB e = refl
same_area_is Ledger Ledger e = refl
same_area_is JournalA JournalB e = cc
same_area_is JournalA Ledger e = cc
same_area_is JournalB JournalA e = cc
same_area_is JournalB Ledger e = cc
same_area_is Ledger JournalA e = cc
same_area_is Ledger JournalB e = cc

same_or : (b : Bool) (x : List ℕ) → (if b then x else x) ≡ x
same_or true x = refl
same_or false x = refl

-- bytes in the place of one area's
abbrev pub IsPut : Area → List ℕ → Areas → Areas → Type 0
IsPut area bytes old new = (a : Area) → bytes_in new a ≡ (if same_area area a then bytes else bytes_in old a)

module _ (start : Areas) (es : List Event) (now base marks : Areas) (tracks : Tracks start es now base marks) where
  abbrev s : Area → Standing
  s a = standing (trail_from start es) a

  pushed : (e : Event) (a : Area) → standing (trail_from start (es ++ e ∷ [])) a ≡ next a (s a) e
  pushed e a = fold-append (next a) (settled (bytes_in start a)) es (e ∷ [])

  at_area : (area a : Area) → same_area area a ≡ true → Holds (s a) (bytes_in now area) (bytes_in base area) (bytes_in marks area)
  at_area area a e = subst (λ (x : Area). Holds (s a) (bytes_in now x) (bytes_in base x) (bytes_in marks x)) (sym (same_area_is area a e)) (tracks a)

  pub tracks-wrote : (area : Area) (at : ℕ) (bytes ones : List ℕ) (now' marks' : Areas) → at ≤ length (bytes_in now area) → length ones ≡ length bytes → ((k : ℕ) → k < length ones → get_or ones k 0 ≡ 1)
      → IsPut area (overlaid (bytes_in now area) at bytes) now now' → IsPut area (overlaid (bytes_in marks area) at ones) marks marks' → Tracks start (es ++ Wrote area at bytes ∷ []) now' base marks'
  tracks-wrote area at bytes ones now' marks' le same all put_now put_marks a =
      holds-same _ _ _ _ _ _ _ _ (sym (pushed (Wrote area at bytes) a)) (sym (put_now a)) (same_or (same_area area a) (bytes_in base a)) (sym (put_marks a))
      (holds-choice (same_area area a) (s a) (wrote (s a) at bytes) (bytes_in now a) (bytes_in base a) (bytes_in marks a) _ (bytes_in base a) _
      (λ e. subst (λ (l : List ℕ). Holds (wrote (s a) at bytes) (overlaid (bytes_in now area) at bytes) l (overlaid (bytes_in marks area) at ones)) (ap (bytes_in base) (same_area_is area a e)) (holds-wrote (s a) (bytes_in now area) (bytes_in base area) (bytes_in marks area) ones bytes at le (at_area area a e) same all)) (tracks a))

  pub tracks-cut : (area : Area) (n : ℕ) (now' marks' : Areas) → IsPut area (take n (bytes_in now area)) now now' → IsPut area (take n (bytes_in marks area)) marks marks' → Tracks start (es ++ Cut area n ∷ []) now' base marks'
  tracks-cut area n now' marks' put_now put_marks a =
      holds-same _ _ _ _ _ _ _ _ (sym (pushed (Cut area n) a)) (sym (put_now a)) (same_or (same_area area a) (bytes_in base a)) (sym (put_marks a))
      (holds-choice (same_area area a) (s a) (changed (s a) (take n (s a).now) []) (bytes_in now a) (bytes_in base a) (bytes_in marks a) _ (bytes_in base a) _
      (λ e. subst (λ (l : List ℕ). Holds (changed (s a) (take n (s a).now) []) (take n (bytes_in now area)) l (take n (bytes_in marks area))) (ap (bytes_in base) (same_area_is area a e)) (holds-cut (s a) (bytes_in now area) (bytes_in base area) (bytes_in marks area) n (at_area area a e))) (tracks a))

  pub tracks-synced : (area : Area) (zeros : List ℕ) (base' marks' : Areas) → length zeros ≡ length (bytes_in now area) → ((k : ℕ) → k < length zeros → get_or zeros k 0 ≡ 0)
      → IsPut area (bytes_in now area) base base' → IsPut area zeros marks marks' → Tracks start (es ++ Synced area ∷ []) now base' marks'
  tracks-synced area zeros base' marks' long all put_base put_marks a =
      holds-same _ _ _ _ _ _ _ _ (sym (pushed (Synced area) a)) (same_or (same_area area a) (bytes_in now a)) (sym (put_base a)) (sym (put_marks a))
      (holds-choice (same_area area a) (s a) (settled (s a).now) (bytes_in now a) (bytes_in base a) (bytes_in marks a) (bytes_in now a) _ _
      (λ e. subst (λ (l : List ℕ). Holds (settled (s a).now) l (bytes_in now area) zeros) (ap (bytes_in now) (same_area_is area a e)) (holds-synced (s a) (bytes_in now area) (bytes_in base area) (bytes_in marks area) zeros (at_area area a e) long all)) (tracks a))

  -- an event of the ledger leaves the areas
  pub tracks-noted : (e : Event) → IsOfLedger e → Tracks start (es ++ e ∷ []) now base marks
  tracks-noted Founded l a = subst (λ (x : Standing). Holds x (bytes_in now a) (bytes_in base a) (bytes_in marks a)) (sym (pushed Founded a)) (tracks a)
  tracks-noted (Acted op session terms) l a = subst (λ (x : Standing). Holds x (bytes_in now a) (bytes_in base a) (bytes_in marks a)) (sym (pushed (Acted op session terms) a)) (tracks a)
  tracks-noted e l a = absurd l

-- what was synced alone has no marks
pub tracks-fresh : (start base marks : Areas) → ((a : Area) → bytes_in base a ≡ bytes_in start a) → ((a : Area) → length (bytes_in marks a) ≡ length (bytes_in start a)) → ((a : Area) (k : ℕ) → k < length (bytes_in marks a) → get_or (bytes_in marks a) k 0 ≡ 0) → Tracks start [] start base marks
tracks-fresh start base marks same long all a = record { now_is = refl; base_is = sym (same a); marked = marks-synced (bytes_in marks a) (length (bytes_in start a)) (long a) (all a) }
