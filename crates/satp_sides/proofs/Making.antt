-- Moves from their parts.
use Rattle.std.proofs.Common.{◌≡◌, ◌<◌, ℕ, List, [], ◌∷◌, Some, refl, sym, subst, ◌∙◌}
use Rattle.satp_base.specs.Canonical.{part_kind}
use Rattle.satp_base.specs.Chains.{next_text}
use Rattle.satp_base.specs.Forms.{IsPart}
use Rattle.satp_base.specs.LedgerRule.{LedgerRule}
use Rattle.satp_base.specs.Money.{Book}
use Rattle.satp_base.specs.Roles.{RoleRule, next_of}
use Rattle.satp_base.specs.declared.ledger.Answer.{Answer}
use Rattle.satp_base.specs.declared.ledger.LedgerOp.{LedgerOp}
use Rattle.satp_base.specs.declared.message.Part.{Part}
use Rattle.satp_base.specs.declared.message.Part.TheVariants.{Proposal}
use Rattle.satp_base.specs.declared.message.Role.TheVariants.{Origin, Recipient}
use Rattle.satp_base.specs.declared.message.Terms.{Terms}
use Rattle.satp_base.specs.declared.record.Next.TheVariants.{Act}
use Rattle.satp_base.specs.declared.record.Rec.{Rec}
use Rattle.satp_base.specs.declared.record.Rec.TheVariants.{Began, Took, Made, Did, Chose, Rescue}
use Rattle.satp_base.specs.declared.session.SessionId.{SessionId}
use Rattle.satp_base.specs.declared.view.View.{View}
use Rattle.satp_base.proofs.RuleLemmas.{rule-gives}
use Rattle.satp_sides.specs.Logs.{IsNote}
use Rattle.satp_sides.specs.Logs.MayCome.{Starts, Accepts, Takes, Makes, Notes}
use Rattle.satp_sides.specs.Moves.{ArrivesAs, Delivered, LedgerFits, Sayable, SideMoves}
use Rattle.satp_sides.specs.Moves.SideMoves.{Moves}
use Rattle.satp_sides.specs.Points.{Party, Side, Text, begun, chain_in, most_sessions, recipient_at, records_of, view_in, with_record}
use Rattle.satp_sides.specs.Points.Move.{Appends, Acts, Says}

pub proposes : {p : Party} {side : Side} {bag : List Text} (s : SessionId) (terms : Terms) → s.gateway ≡ p.name → records_of s side.records ≡ [] → begun Origin side.records < most_sessions
    → SideMoves p side bag (with_record side s (Began Origin terms) (next_text s p.peer p.key [] (Proposal terms))) bag
proposes s terms g e c = Moves (Appends _) (record { may_come = Starts s terms g e c; arrives = tt; fits = λ v h. tt })

pub accepts : {p : Party} {side : Side} {bag : List Text} (s : SessionId) (terms : Terms) (t : Text) → s.gateway ≡ p.peer → records_of s side.records ≡ [] → begun Recipient side.records < most_sessions
    → Delivered p.key bag t → t ≡ next_text s p.name p.key [] (Proposal terms) → SideMoves p side bag (with_record side s (Began Recipient terms) t) bag
accepts {p = p} {side = side} {bag = bag} s terms t g e c d x =
    subst (λ u. SideMoves p side bag (with_record side s (Began Recipient terms) u) bag) (sym x)
    (Moves (Appends _) (record { may_come = Accepts s terms g e c; arrives = subst (Delivered p.key bag) x d; fits = λ v h. tt }))

pub takes : {p : Party} {side : Side} {bag : List Text} (s : SessionId) (v : View) (part : Part) (t : Text) → view_in s side.records ≡ Some v → RoleRule v.role v (Took (part_kind part)) → IsPart part
    → Delivered p.key bag t → t ≡ next_text s (recipient_at p v.role) p.key (chain_in s side.records) part → SideMoves p side bag (with_record side s (Took (part_kind part)) t) bag
takes {p = p} {side = side} {bag = bag} s v part t e rule f d x =
    subst (λ u. SideMoves p side bag (with_record side s (Took (part_kind part)) u) bag) (sym x)
    (Moves (Appends _) (record { may_come = Takes s v part e rule f; arrives = subst (Delivered p.key bag) x d; fits = λ w h. tt }))

pub makes : {p : Party} {side : Side} {bag : List Text} (s : SessionId) (v : View) (part : Part) → view_in s side.records ≡ Some v → RoleRule v.role v (Made (part_kind part)) → IsPart part
    → SideMoves p side bag (with_record side s (Made (part_kind part)) (next_text s (recipient_at p v.role) p.key (chain_in s side.records) part)) bag
makes s v part e rule f = Moves (Appends _) (record { may_come = Makes s v part e rule f; arrives = tt; fits = λ w h. tt })

pub arrives-none : (key : List ℕ) (bag : List Text) (r : Rec) → IsNote r → ArrivesAs key bag r []
arrives-none key bag (Did op) n = tt
arrives-none key bag (Chose way) n = tt
arrives-none key bag Rescue n = tt
arrives-none key bag (Began role terms) n = absurd n
arrives-none key bag (Took k) n = absurd n
arrives-none key bag (Made k) n = absurd n

pub notes : {p : Party} {side : Side} {bag : List Text} (s : SessionId) (v : View) (r : Rec) → view_in s side.records ≡ Some v → RoleRule v.role v r → IsNote r → LedgerFits side.book s v.terms r
    → SideMoves p side bag (with_record side s r []) bag
notes {p = p} {side = side} {bag = bag} s v r e rule n l = Moves (Appends _) (record { may_come = Notes s v r e rule n; arrives = arrives-none p.key bag r n; fits = λ w h. subst (λ (x : View). LedgerFits side.book s x.terms r) (view-is v w (sym e ∙ h)) l })
  where
    view-is : (v w : View) → Some v ≡ Some w → v ≡ w
    view-is v w e = cc e

pub acts : {p : Party} {side : Side} {bag : List Text} (s : SessionId) (v : View) (op : LedgerOp) (answer : Answer) (book : Book) → view_in s side.records ≡ Some v → next_of v.role v ≡ Act op → LedgerRule side.book op s v.terms answer book
    → SideMoves p side bag (record { records = side.records; book = book }) bag
acts {p = p} {side = side} {bag = bag} s v op answer book e due rule =
    let after = (rule-gives side.book op s v.terms answer book rule).1 in
    subst (λ b. SideMoves p side bag (record { records = side.records; book = b }) bag) (sym after)
    (Moves (Acts s op v.terms) (record { view = v; named = e; due = due; under = refl; answer = answer; rule = subst (LedgerRule side.book op s v.terms answer) after rule }))

pub says : {p : Party} {side : Side} {bag : List Text} (t : Text) → Sayable p side.records bag t → SideMoves p side bag side (t ∷ bag)
says t z = Moves (Says t) z
