-- Which call of a list failed.
use Rattle.std.proofs.Common.{◌≡◌, ℕ, ◌+◌, ◌-◌, ◌<◌, ◌≤◌, List, [], ◌∷◌, ◌++◌, length, take, set, Option, Some, Result, Ok, Err, OnErr, refl, sym, ap, subst, arith, length-append}
use Rattle.std.specs.Prelude.{slice_get}
use Rattle.std.proofs.lemmas.List.{take_more_set, length-drop}
use Rattle.std.proofs.lemmas.Slice.{take-put_mid}
use borrow.Rule.Slice.PartMut.{put_mid, post_of}
use Rattle.satp_base.specs.declared.area.Event.{Event}
use Rattle.satp_base.specs.Calls.{Told, Makes, FailsAt, FailsAmong}
use Rattle.satp_base.proofs.Made.{made_none}

-- after n calls that succeeded
pub among_at : (calls : List (Option Event)) (n : ℕ) (call : Option Event) (old mid new : Option Told) → slice_get calls n ≡ Some call → Makes (take n calls) old mid → FailsAt call mid new → FailsAmong calls old new
among_at calls n call old mid new at makes fails = (n, call, at, subst (λ (o : Option Told). FailsAt call o new) makes fails)

pub fails_at : {T E : Type 0} (result : Result T E) (calls : List (Option Event)) (n : ℕ) (call : Option Event) (old mid new : Option Told) → slice_get calls n ≡ Some call → Makes (take n calls) old mid → FailsAt call mid new → OnErr result (FailsAmong calls old new)
fails_at (Ok done) calls n call old mid new at makes fails = tt
fails_at (Err fault) calls n call old mid new at makes fails = among_at calls n call old mid new at makes fails

-- at the first call
pub fails_first : {T E : Type 0} (result : Result T E) (calls : List (Option Event)) (call : Option Event) (old new : Option Told) → slice_get calls 0 ≡ Some call → FailsAt call old new → OnErr result (FailsAmong calls old new)
fails_first result calls call old new at fails = fails_at result calls 0 call old old new at (sym (made_none old)) fails

-- what is written into a frame, one part after the other
pub filled : (frame q part : List ℕ) (high low k : ℕ) → part ≡ q → k ≡ length q → length q + 3 ≤ length frame → take (length q + 3) (set (put_mid 2 k (set (set frame 0 high) 1 low) part) (length q + 2) 0) ≡ high ∷ low ∷ (q ++ 0 ∷ [])
filled [] q part high low k same size room = absurd (omega (arith, room))
filled (x ∷ []) q part high low k same size room = absurd (omega (arith, room))
filled (x ∷ y ∷ frame) q part high low k same size room =
    let more : length q + 3 ≡ length q + 2 + 1 = omega arith in
    rw (more, take_more_set (put_mid 2 k (high ∷ low ∷ frame) part) (length q + 2) 0 within, take-put_mid 2 k (high ∷ low ∷ frame) part (length q + 2) (omega (arith, ap length same)) (omega arith), same) refl
  where
    within : length q + 2 < length (put_mid 2 k (high ∷ low ∷ frame) part)
    within = long (post_of 2 k (high ∷ low ∷ frame)) (length-drop k frame)
      where
        long : (rest : List ℕ) → length rest ≡ length frame - k → length q + 2 < length (take 2 (high ∷ low ∷ frame) ++ (part ++ rest))
        long rest is = omega (arith, room, size, is, length-append (take 2 (high ∷ low ∷ frame)) (part ++ rest), length-append part rest, ap length same)
