-- Images of a journal that stand for a list, one that is damaged, and those within an append.
use Rattle.std.proofs.Common.{ℕ, List, [], ◌∷◌, take, refl, sym, subst, inl, inr, lit≤, lit<, rules}
use Rattle.satp_base.specs.Format.{Breaks, Damage, IsAtRest, NoRecord, Stands}
use Rattle.satp_base.specs.Laws.{IsInAppend, RestsAt}
use Rattle.satp_base.specs.Trail.{IsImage, KeepsModel, extended}
use Rattle.satp_base.specs.declared.area.Area.TheVariants.{JournalA}
use Rattle.satp_base.proofs.Closing.{append_leaves}
use Rattle.satp_base.proofs.Readings.{record_not_there}
use Rattle.satp_base.proofs.Standings.{only_settled}
use Rattle.satp_base.proofs.Trails.{keeps_front}
use Rattle.satp_examples.specs.Appending.{append, at_rest, closed, damaged}
use Rattle.satp_examples.specs.Journals.{abc, abc_then, d}

pub nothing_there : NoRecord []
nothing_there q tail off = absurd cc

pub breaks : Breaks damaged (abc ∷ [])
breaks = (lit< tt, ([], record { valid = search rules; bytes = refl }, nothing_there))

pub is_damaged : Damage damaged 6
is_damaged = (abc ∷ [], breaks, refl)

-- no gate stands after the payload
pub no_gate : Damage (abc_then []) 0
no_gate = ([], (search rules, (_, record { valid = tt; bytes = refl }, record_not_there 0 3 abc (inr (inr (inr (lit≤ tt)))))), refl)

pub is_whole : Stands closed (abc ∷ [])
is_whole = search rules

pub both : Stands (abc_then (1 ∷ 0 ∷ 1 ∷ 100 ∷ 0 ∷ [])) (abc ∷ d ∷ [])
both = search rules

-- ---- within an append of `d`

pub rests_here : IsAtRest (abc ∷ []) closed
rests_here = ([], record { valid = search rules; bytes = refl })

pub at_start : RestsAt at_rest.trail JournalA (abc ∷ [])
at_start image is = subst (IsAtRest (abc ∷ [])) (sym (only_settled closed image is)) rests_here

keeps_append : KeepsModel (extended at_rest.trail append)
keeps_append area = (tt, (tt, (tt, (tt, tt))))

pub within : (n : ℕ) (image : List ℕ) → IsImage (extended at_rest.trail (take n append)) JournalA image → IsInAppend (abc ∷ []) d image
within n image is = append_leaves at_rest.trail JournalA (abc ∷ []) d (take n append) (search rules) at_start (n, inl refl) (keeps_front at_rest.trail append n keeps_append) image is
