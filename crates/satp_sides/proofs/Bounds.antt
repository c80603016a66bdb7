-- How many sessions the records of a log begin.
use Rattle.std.proofs.Common.{◌≡◌, ◌+◌, ◌<◌, ◌≤◌, Bool, true, false, cond, List, [], ◌∷◌, ◌++◌, length, refl, ap, ◌∙◌, arith}
use Rattle.std.specs.Prelude.{filter}
use Rattle.std.proofs.lemmas.List.{append-nil, length_push}
use Rattle.std.proofs.lemmas.List.Elements.{filter-append}
use Rattle.satp_base.specs.Tales.{other}
use Rattle.satp_base.specs.declared.message.Role.{Role}
use Rattle.satp_base.specs.declared.message.Role.TheVariants.{Origin, Recipient}
use Rattle.satp_base.specs.declared.record.Rec.{Rec}
use Rattle.satp_base.specs.declared.record.Rec.TheVariants.{Began, Took, Made, Did, Chose, Rescue}
use Rattle.satp_sides.specs.LogLaws.{LogsAreBounded}
use Rattle.satp_sides.specs.Logs.{IsNote, MayCome}
use Rattle.satp_sides.specs.Logs.MayCome.{Starts, Accepts, Takes, Makes, Notes}
use Rattle.satp_sides.specs.Points.{Party, Stored, began_as, begun, most_sessions}
use Rattle.satp_sides.proofs.LogLaw.{log-all}

begun-more : (role : Role) (xs : List Stored) (x : Stored) → begun role (xs ++ x ∷ []) ≡ length (filter (λ (y : Stored). began_as role y.rec) xs ++ cond (began_as role x.rec) (x ∷ []) [])
begun-more role xs x = ap length (filter-append (λ y. began_as role y.rec) xs (x ∷ []))

pub not-begun : (role : Role) (xs : List Stored) (x : Stored) → began_as role x.rec ≡ false → begun role (xs ++ x ∷ []) ≡ begun role xs
not-begun role xs x n = begun-more role xs x ∙ ap (λ b. length (filter (λ (y : Stored). began_as role y.rec) xs ++ cond b (x ∷ []) [])) n ∙ ap length (append-nil (filter (λ (y : Stored). began_as role y.rec) xs))

one-begun : (role : Role) (xs : List Stored) (x : Stored) → begun role (xs ++ x ∷ []) ≤ begun role xs + 1
one-begun role xs x = go (began_as role x.rec) refl
  where
    go : (b : Bool) → began_as role x.rec ≡ b → begun role (xs ++ x ∷ []) ≤ begun role xs + 1
    go false n = let h = not-begun role xs x n in omega (arith, h)
    go true y =
        let h = begun-more role xs x ∙ ap (λ b. length (filter (λ (y : Stored). began_as role y.rec) xs ++ cond b (x ∷ []) [])) y in
        let p = length_push (filter (λ (y : Stored). began_as role y.rec) xs) x in
        omega (arith, h, p)

abbrev Bounded : List Stored → Type 0
Bounded xs = (role : Role) → begun role xs ≤ most_sessions

bounded-begun : (xs : List Stored) (mine : Role) (x : Stored) → Bounded xs → (began_as (other mine) x.rec ≡ false) → begun mine xs < most_sessions → Bounded (xs ++ x ∷ [])
bounded-begun xs Origin x old n room Origin = let h = one-begun Origin xs x in omega (arith, h, room)
bounded-begun xs Origin x old n room Recipient = let h = not-begun Recipient xs x n in let k = old Recipient in omega (arith, h, k)
bounded-begun xs Recipient x old n room Recipient = let h = one-begun Recipient xs x in omega (arith, h, room)
bounded-begun xs Recipient x old n room Origin = let h = not-begun Origin xs x n in let k = old Origin in omega (arith, h, k)

bounded-else : (xs : List Stored) (x : Stored) → Bounded xs → ((role : Role) → began_as role x.rec ≡ false) → Bounded (xs ++ x ∷ [])
bounded-else xs x old n role = let h = not-begun role xs x (n role) in let k = old role in omega (arith, h, k)

pub note-begins-not : (r : Rec) → IsNote r → (role : Role) → began_as role r ≡ false
note-begins-not (Began role terms) n q = absurd n
note-begins-not (Took k) n q = absurd n
note-begins-not (Made k) n q = absurd n
note-begins-not (Did op) n Origin = refl
note-begins-not (Did op) n Recipient = refl
note-begins-not (Chose way) n Origin = refl
note-begins-not (Chose way) n Recipient = refl
note-begins-not Rescue n Origin = refl
note-begins-not Rescue n Recipient = refl

bounded-more : (p : Party) (xs : List Stored) (x : Stored) → Bounded xs → MayCome p xs x → Bounded (xs ++ x ∷ [])
bounded-more p xs _ old (Starts s terms n e c) = bounded-begun xs Origin _ old refl c
bounded-more p xs _ old (Accepts s terms n e c) = bounded-begun xs Recipient _ old refl c
bounded-more p xs _ old (Takes s v part e rule f) = bounded-else xs _ old (elim [ Origin ↦ refl | Recipient ↦ refl ])
bounded-more p xs _ old (Makes s v part e rule f) = bounded-else xs _ old (elim [ Origin ↦ refl | Recipient ↦ refl ])
bounded-more p xs _ old (Notes s v r e rule m) = bounded-else xs _ old (note-begins-not r m)

pub logs-bounded : LogsAreBounded
logs-bounded p xs log = log-all p Bounded (λ role. omega arith) (λ ys y l old may. bounded-more p ys y old may) xs log
