-- Trails with further events.
use Rattle.std.proofs.Common.{◌≡◌, ℕ, List, [], ◌++◌, take, drop, sym, ap, ◌∙◌, subst, append_assoc}
use Rattle.std.proofs.lemmas.List.{append-nil, take-append-drop}
use Rattle.satp_base.specs.declared.area.Event.{Event}
use Rattle.satp_base.specs.Trail.{Trail, extended, settled, KeepsModel}
use Rattle.satp_base.proofs.Standings.{keeps_split}

pub extended_twice : (t : Trail) (es fs : List Event) → extended (extended t es) fs ≡ extended t (es ++ fs)
extended_twice t es fs = ap (λ (l : List Event). let u : Trail = record t { events = l } in u) (append_assoc t.events es fs)

pub extended_none : (t : Trail) → extended t [] ≡ t
extended_none t = ap (λ (l : List Event). let u : Trail = record t { events = l } in u) (append-nil t.events)

pub keeps_before : (t : Trail) (es : List Event) → KeepsModel (extended t es) → KeepsModel t
keeps_before t es keeps area = (keeps_split area (settled (t.start area)) t.events es (keeps area)).0

pub keeps_front : (t : Trail) (es : List Event) (n : ℕ) → KeepsModel (extended t es) → KeepsModel (extended t (take n es))
keeps_front t es n keeps =
    keeps_before (extended t (take n es)) (drop n es) (subst KeepsModel (ap (extended t) (sym (take-append-drop n es)) ∙ sym (extended_twice t (take n es) (drop n es))) keeps)
