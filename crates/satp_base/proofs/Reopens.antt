-- An opening that begins where an append, or an opening after it, was stopped.
use Rattle.std.proofs.Common.{◌≡◌, ℕ, zero, suc, List, [], ◌∷◌, ◌++◌, inl, inr, sym, subst, refl, ⊎_elim}
use Rattle.std.specs.List.{fold}
use Rattle.satp_base.specs.declared.area.Area.{Area}
use Rattle.satp_base.specs.declared.area.Event.{Event}
use Rattle.satp_base.specs.Trail.{Trail, Leaves, IsImage, KeepsModel, next, settled, seen, standing}
use Rattle.satp_base.specs.Format.{IsAtRest, IsPayload, Stands}
use Rattle.satp_base.specs.Laws.{AllInAppend, IsEither, IsInAppend, ReopenReads, ReopenLeaves, ReopenEnds, ReopenRests, RestartLeaves, RestsAt}
use Rattle.satp_base.proofs.Closing.{either_stands, rest_stands}
use Rattle.satp_base.proofs.Opens.{LeavesAt, events_of, from_here, keep_at, keeps_from, open_ends, rest_at}
use Rattle.satp_base.proofs.Readings.{one_list}
use Rattle.satp_base.proofs.Trails.{keeps_before}
use Rattle.satp_base.proofs.Standings.{cut_leaves, here_settled, only_settled, reads_along}

module _ (t : Trail) (area : Area) (payloads : List (List ℕ)) (q : List ℕ) (ok : IsPayload q) (all : AllInAppend t area payloads q) where
  seen_in : KeepsModel t → IsInAppend payloads q (seen t area)
  seen_in keeps = all (seen t area) (reads_along area t.events _ (here_settled (t.start area)) (keeps area))

  either_read : KeepsModel t → (list : List (List ℕ)) → Stands (seen t area) list → IsEither payloads q list
  either_read keeps list stands =
      ⊎_elim (λ s. inl (one_list (seen t area) list payloads stands s)) (λ s. inr (one_list (seen t area) list (payloads ++ q ∷ []) stands s)) (either_stands payloads q (seen t area) ok (seen_in keeps))

  some_read : KeepsModel t → (list : List (List ℕ)) × Stands (seen t area) list × IsEither payloads q list
  some_read keeps = ⊎_elim (λ s. (payloads, s, inl refl)) (λ s. (payloads ++ q ∷ [], s, inr refl)) (either_stands payloads q (seen t area) ok (seen_in keeps))

  -- before the first sync, and after it
  reopen_at : (list : List (List ℕ)) → Stands (seen t area) list → IsInAppend payloads q (seen t area) → (n : ℕ) (c : List ℕ) → LeavesAt area list (standing t area) n c → IsInAppend payloads q c
  reopen_at list stands is zero c leaves = all c leaves
  reopen_at list stands is (suc n) c leaves = keep_at area list payloads q (standing t area) ok stands is n c leaves

pub reopen_reads : ReopenReads
reopen_reads t area payloads q ok all keeps = some_read t area payloads q ok all keeps

pub reopen_leaves : ReopenLeaves
reopen_leaves t area payloads list q events ok all stands cut keeps image is =
    reopen_at t area payloads q ok all list stands (seen_in t area payloads q ok all (keeps_before t events keeps)) cut.0 image
    (cut_leaves area (events_of area list (standing t area)) (standing t area) events cut (keeps_from t area events keeps) image (from_here t area events image is))

pub reopen_ends : ReopenEnds
reopen_ends t area payloads list q ok all keeps stands = (either_read t area payloads q ok all keeps list stands, open_ends t area list stands)

-- an area at rest
module _ (t : Trail) (area : Area) (payloads list : List (List ℕ)) (rests : RestsAt t area payloads) (stands : Stands (seen t area) list) (keeps : KeepsModel t) where
  seen_rests : IsAtRest payloads (seen t area)
  seen_rests = rests (seen t area) (reads_along area t.events _ (here_settled (t.start area)) (keeps area))

  pub rest_read : list ≡ payloads
  rest_read = one_list (seen t area) list payloads stands (rest_stands payloads (seen t area) seen_rests)

  pub rest_stays : (n : ℕ) (c : List ℕ) → LeavesAt area list (standing t area) n c → IsAtRest payloads c
  rest_stays zero c leaves = rests c leaves
  rest_stays (suc n) c leaves = rest_at area payloads (standing t area) seen_rests n c (subst (λ (l : List (List ℕ)). LeavesAt area l (standing t area) (suc n) c) rest_read leaves)

pub reopen_rests : ReopenRests
reopen_rests t area payloads list events rests stands cut keeps =
    let before = keeps_before t events keeps in (
      rest_read t area payloads list rests stands before,
      λ image is.
          rest_stays t area payloads list rests stands before cut.0 image
          (cut_leaves area (events_of area list (standing t area)) (standing t area) events cut (keeps_from t area events keeps) image (from_here t area events image is)),
    )

pub restart_leaves : RestartLeaves
restart_leaves t u area start none image is = subst (IsImage t area) (sym (only_settled (u.start area) image settled_now)) start
  where
    settled_now : Leaves (settled (u.start area)) image
    settled_now = subst (λ (es : List Event). Leaves (fold (next area) (settled (u.start area)) es) image) none is
