-- Bytes that are read piece by piece.
use Rattle.std.proofs.Common.{◌≡◌, ℕ, zero, suc, ◌+◌, ◌<◌, ◌≤◌, List, [], ◌∷◌, ◌++◌, length, take, drop, Option, Some, None, refl, ap, subst, sym, ◌∙◌, arith, append_assoc, length-append, length-take, Ok}
use Rattle.std.specs.Prelude.{◌==◌, true, false, IfSome}
use Rattle.std.proofs.lemmas.Bool.{ne_eqb}
use Rattle.std.proofs.lemmas.List.{take-append-drop}
use Rattle.satp_base.specs.Streams.{Rose, TakesFront, is_last}
use Rattle.satp_base.specs.declared.stream.SourceFault.{SourceFault}
use Rattle.satp_outcome.specs.Outside.{FailsToRead, ReadWithin, SourceState}

-- the bytes are those held, and those that the source has left
abbrev pub HeldOf : Option (List ℕ) → List ℕ → Option (List ℕ) → Type 0
HeldOf start held now = IfSome start (λ bytes. (rest : List ℕ) × (bytes ≡ held ++ rest) × (now ≡ Some rest))

pub holds_more : (start now after : Option (List ℕ)) (held into : List ℕ) (n : ℕ) → HeldOf start held now → TakesFront now into n after → HeldOf start (held ++ take n into) after
holds_more None now after held into n h t = tt
holds_more (Some bytes) now after held into n h t =
    let told = subst (λ (o : Option (List ℕ)). IfSome o (λ r. (n ≤ length r) × (take n into ≡ take n r) × (after ≡ Some (drop n r)) × (n ≡ 0 → 0 < length into → r ≡ []))) h.2 t.told in
    (drop n h.0, h.1 ∙ ap (λ x. held ++ x) (sym (take-append-drop n h.0)) ∙ sym (append_assoc held (take n h.0) (drop n h.0)) ∙ ap (λ x. held ++ x ++ drop n h.0) (sym told.1), told.2)

drop_front : (n : ℕ) (xs ys : List ℕ) → length xs ≡ n → drop n (xs ++ ys) ≡ ys
drop_front zero [] ys h = refl
drop_front zero (x ∷ xs) ys h = absurd (omega arith)
drop_front (suc n) [] ys h = absurd (omega arith)
drop_front (suc n) (x ∷ xs) ys h = let same : length xs ≡ n = omega arith in drop_front n xs ys same

-- what is held was taken from the front
pub held_front : (start now : Option (List ℕ)) (held : List ℕ) (n : ℕ) → HeldOf start held now → length held ≡ n → IfSome start (λ bytes. now ≡ Some (drop n bytes))
held_front None now held n h e = tt
held_front (Some bytes) now held n h e = h.2 ∙ ap Some (sym (ap (drop n) h.1 ∙ drop_front n held h.0 e))

pub held_within : (most : ℕ) (b a : SourceState) (held : List ℕ) → HeldOf b.left held a.left → length held ≤ most → ReadWithin most b a
held_within most b a held h within = (length held, within, held_front b.left a.left held (length held) h refl)

-- what was read is within the limit, also where there was no memory to hold its last piece
pub read_within : (most : ℕ) (b a : SourceState) (now : Option (List ℕ)) (held into : List ℕ) (n : ℕ) → HeldOf b.left held now → TakesFront now into n a.left → length held + n ≤ most → ReadWithin most b a
read_within most b a now held into n h t within =
    let long : length (held ++ take n into) ≤ most = omega (arith, length-append held (take n into), taken_within n into) in
    held_within most b a (held ++ take n into) (holds_more b.left now a.left held into n h t) long
  where
    taken_within : (k : ℕ) (xs : List ℕ) → length (take k xs) ≤ k
    taken_within k xs = omega (arith, length-take k xs)

-- a read of some bytes is not the last
pub not_last : (room n : ℕ) → 0 < n → is_last {E = SourceFault} room (Ok n) ≡ false
not_last room n some = let not_none : (n == 0) ≡ false = ne_eqb _ _ (λ e. omega (arith, some, e)) in rw not_none refl

-- a read failed after these bytes
pub read_fails : (most : ℕ) (b m a : SourceState) (held : List ℕ) → HeldOf b.left held m.left → length held ≤ most → m.faults ≡ b.faults → a.left ≡ m.left → a.over ≡ true → Rose m.faults a.faults → FailsToRead most b a
read_fails most b m a held h within faults left over rose =
    (subst (λ n. Rose n a.faults) faults rose, over, held_within most b a held (subst (λ (o : Option (List ℕ)). HeldOf b.left held o) (sym left) h) within)
