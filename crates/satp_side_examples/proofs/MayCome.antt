-- Records that may come, case by case, both ways.
use Rattle.std.proofs.Common.{◌≡◌, List, [], Some, refl, sym, subst}
use Rattle.satp_base.specs.Canonical.{part_kind}
use Rattle.satp_base.specs.Roles.{RoleRule}
use Rattle.satp_base.specs.declared.message.Kind.{Kind}
use Rattle.satp_base.specs.declared.message.Role.TheVariants.{Origin, Recipient}
use Rattle.satp_base.specs.declared.record.Rec.{Rec}
use Rattle.satp_base.specs.declared.record.Rec.TheVariants.{Began, Took, Made, Did, Chose, Rescue}
use Rattle.satp_base.specs.declared.session.SessionId.{SessionId}
use Rattle.satp_base.specs.declared.view.View.{View}
use Rattle.satp_sides.specs.Logs.{IsNote, MayCome}
use Rattle.satp_sides.specs.Logs.MayCome.{Starts, Accepts, Takes, Makes, Notes}
use Rattle.satp_sides.specs.Points.{Party, Stored, Text, stored, view_in}
use Rattle.satp_side_examples.specs.Journals.{ByRecord, GoesOn, MayGoOn, RecordsCaseByCase}

abbrev goes : (p : Party) (before : List Stored) (s : SessionId) (v : View) (r : Rec) → view_in s before ≡ Some v → RoleRule v.role v r → MayGoOn p before s r
goes p before s v r e rule = record { view = v; named = e; rule = rule }

noted : (p : Party) (before : List Stored) (s : SessionId) (v : View) (r : Rec) → view_in s before ≡ Some v → RoleRule v.role v r → IsNote r → ByRecord p before s r []
noted p before s v (Began role terms) e rule n = absurd n
noted p before s v (Took kind) e rule n = absurd n
noted p before s v (Made kind) e rule n = absurd n
noted p before s v (Did op) e rule n = (goes p before s v (Did op) e rule, refl)
noted p before s v (Chose way) e rule n = (goes p before s v (Chose way) e rule, refl)
noted p before s v Rescue e rule n = (goes p before s v Rescue e rule, refl)

pub by-record : (p : Party) (before : List Stored) (x : Stored) → MayCome p before x → ByRecord p before x.session x.rec x.text
by-record p before _ (Starts s terms g e c) = record { named = g; fresh = e; room = c; text = refl }
by-record p before _ (Accepts s terms g e c) = record { named = g; fresh = e; room = c; text = refl }
by-record p before _ (Takes s v part e rule f) = (goes p before s v (Took (part_kind part)) e rule, record { part = part; formed = f; said = refl; text = refl })
by-record p before _ (Makes s v part e rule f) = (goes p before s v (Made (part_kind part)) e rule, record { part = part; formed = f; said = refl; text = refl })
by-record p before _ (Notes s v r e rule n) = noted p before s v r e rule n

taken : (p : Party) (before : List Stored) (s : SessionId) (kind : Kind) (t : Text) (h : MayGoOn p before s (Took kind)) → GoesOn p before s h.view.role kind t → MayCome p before (stored s (Took kind) t)
taken p before s kind t h g =
    subst (λ (k : Kind). MayCome p before (stored s (Took k) t)) g.said
    (subst (λ (u : Text). MayCome p before (stored s (Took (part_kind g.part)) u)) (sym g.text)
    (Takes s h.view g.part h.named (subst (λ (k : Kind). RoleRule h.view.role h.view (Took k)) (sym g.said) h.rule) g.formed))

made : (p : Party) (before : List Stored) (s : SessionId) (kind : Kind) (t : Text) (h : MayGoOn p before s (Made kind)) → GoesOn p before s h.view.role kind t → MayCome p before (stored s (Made kind) t)
made p before s kind t h g =
    subst (λ (k : Kind). MayCome p before (stored s (Made k) t)) g.said
    (subst (λ (u : Text). MayCome p before (stored s (Made (part_kind g.part)) u)) (sym g.text)
    (Makes s h.view g.part h.named (subst (λ (k : Kind). RoleRule h.view.role h.view (Made k)) (sym g.said) h.rule) g.formed))

note : (p : Party) (before : List Stored) (s : SessionId) (r : Rec) (t : Text) → MayGoOn p before s r → IsNote r → t ≡ [] → MayCome p before (stored s r t)
note p before s r t h n e = subst (λ (u : Text). MayCome p before (stored s r u)) (sym e) (Notes s h.view r h.named h.rule n)

may-come : (p : Party) (before : List Stored) (s : SessionId) (r : Rec) (t : Text) → ByRecord p before s r t → MayCome p before (stored s r t)
may-come p before s (Began Origin terms) t h = subst (λ (u : Text). MayCome p before (stored s (Began Origin terms) u)) (sym h.text) (Starts s terms h.named h.fresh h.room)
may-come p before s (Began Recipient terms) t h = subst (λ (u : Text). MayCome p before (stored s (Began Recipient terms) u)) (sym h.text) (Accepts s terms h.named h.fresh h.room)
may-come p before s (Took kind) t h = taken p before s kind t h.0 h.1
may-come p before s (Made kind) t h = made p before s kind t h.0 h.1
may-come p before s (Did op) t h = note p before s (Did op) t h.0 tt h.1
may-come p before s (Chose way) t h = note p before s (Chose way) t h.0 tt h.1
may-come p before s Rescue t h = note p before s Rescue t h.0 tt h.1

pub case-by-case : RecordsCaseByCase
case-by-case p before x = (by-record p before x, may-come p before x.session x.rec x.text)
