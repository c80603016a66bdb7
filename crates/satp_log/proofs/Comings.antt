-- Which records may come next, by their kind.
use Rattle.std.proofs.Common.{◌≡◌, ◌⊎◌, inl, inr, ◌<◌, Bool, true, false, List, [], ◌∷◌, ◌++◌, Some, IsTrue, refl, sym, ap, subst, ◌∙◌}
use Rattle.satp_base.specs.Canonical.{part_kind}
use Rattle.satp_base.specs.Chains.{next_text}
use Rattle.satp_base.specs.Forms.{IsPart, is_plain}
use Rattle.satp_base.specs.Roles.{IsReached, RoleRule, next_of}
use Rattle.satp_base.specs.Roles.RoleRule.{Due, Answered, Free}
use Rattle.satp_base.specs.declared.record.Next.{Next}
use Rattle.satp_base.specs.declared.record.Next.TheVariants.{Append}
use Rattle.satp_base.proofs.RoleLemmas.{after-shape, role-gives}
use Rattle.satp_base.specs.Tales.{IsTale, maker, other}
use Rattle.satp_base.specs.Views.{begin, push, view_from}
use Rattle.satp_base.specs.declared.message.Kind.{Kind}
use Rattle.satp_base.specs.declared.message.Kind.TheVariants.{TransferProposal, ProposalReceipt, TransferCommence, CommenceAck, LockAssert, LockReceipt, CommitPrepare, CommitReady, CommitFinal, CommitFinalAck, TransferComplete, Reject, Rollback, RollbackAck, Recover, RecoverUpdate, RecoverSuccess}
use Rattle.satp_base.specs.declared.message.Part.{Part}
use Rattle.satp_base.specs.declared.message.Part.TheVariants as part
use Rattle.satp_base.specs.declared.message.Role.{Role}
use Rattle.satp_base.specs.declared.message.Role.TheVariants.{Origin, Recipient}
use Rattle.satp_base.specs.declared.message.Terms.{Terms}
use Rattle.satp_base.specs.declared.record.Rec.{Rec}
use Rattle.satp_base.specs.declared.record.Rec.TheVariants.{Began, Took, Made, Did, Chose, Rescue}
use Rattle.satp_base.specs.declared.session.SessionId.{SessionId}
use Rattle.satp_base.specs.declared.view.View.{View}
use Rattle.satp_sides.specs.LogLaws.{IsOfRole}
use Rattle.satp_sides.specs.Logs.{IsNote, MayCome}
use Rattle.satp_sides.specs.Logs.MayCome.{Starts, Accepts, Takes, Makes, Notes}
use Rattle.satp_sides.specs.Points.{Party, Stored, Text, begun, chain_in, most_sessions, recipient_at, records_of, stored, view_in}
use Rattle.satp_sides.proofs.LogLaw.{reached-keeps, reached-tale}
use Rattle.satp_sides.proofs.Rules.{made-rule, no-proposal, took-rule}

-- ---- what a record has to meet

-- a message of the kind, whose text is the chain's next
pub record Says (p : Party) (xs : List Stored) (s : SessionId) (text : Text) (r : Rec) (kind : Kind) : Type 0 where
  pub view : View
  pub part : Part
  pub named : view_in s xs ≡ Some view
  pub rule : RoleRule view.role view r
  pub formed : IsPart part
  pub kind_is : part_kind part ≡ kind
  pub text_is : text ≡ next_text s (recipient_at p view.role) p.key (chain_in s xs) part

pub record Begins (p : Party) (xs : List Stored) (s : SessionId) (text : Text) (role : Role) (terms : Terms) : Type 0 where
  pub whose : IsOfRole p s role
  pub new : records_of s xs ≡ []
  pub room : begun role xs < most_sessions
  pub text_is : text ≡ next_text s (recipient_at p role) p.key [] (part.Proposal terms)

pub record IsNoted (p : Party) (xs : List Stored) (s : SessionId) (text : Text) (r : Rec) : Type 0 where
  pub view : View
  pub named : view_in s xs ≡ Some view
  pub rule : RoleRule view.role view r
  pub text_is : text ≡ []

abbrev pub Comes : Party → List Stored → SessionId → Text → Rec → Type 0
Comes p xs s text (Began role terms) = Begins p xs s text role terms
Comes p xs s text (Took kind) = Says p xs s text (Took kind) kind
Comes p xs s text (Made kind) = Says p xs s text (Made kind) kind
Comes p xs s text r = IsNoted p xs s text r

noted : (p : Party) (xs : List Stored) (s : SessionId) (v : View) (r : Rec) → view_in s xs ≡ Some v → RoleRule v.role v r → IsNote r → Comes p xs s [] r
noted p xs s v (Began role terms) e rule n = absurd n
noted p xs s v (Took kind) e rule n = absurd n
noted p xs s v (Made kind) e rule n = absurd n
noted p xs s v (Did op) e rule n = record { view = v; named = e; rule = rule; text_is = refl }
noted p xs s v (Chose way) e rule n = record { view = v; named = e; rule = rule; text_is = refl }
noted p xs s v Rescue e rule n = record { view = v; named = e; rule = rule; text_is = refl }

pub comes : (p : Party) (xs : List Stored) (x : Stored) → MayCome p xs x → Comes p xs x.session x.text x.rec
comes p xs _ (Starts s terms g e c) = record { whose = g; new = e; room = c; text_is = refl }
comes p xs _ (Accepts s terms g e c) = record { whose = g; new = e; room = c; text_is = refl }
comes p xs _ (Takes s v part e rule f) = record { view = v; part = part; named = e; rule = rule; formed = f; kind_is = refl; text_is = refl }
comes p xs _ (Makes s v part e rule f) = record { view = v; part = part; named = e; rule = rule; formed = f; kind_is = refl; text_is = refl }
comes p xs _ (Notes s v r e rule n) = noted p xs s v r e rule n

began : (p : Party) (xs : List Stored) (s : SessionId) (text : Text) (role : Role) (terms : Terms) → Begins p xs s text role terms → MayCome p xs (stored s (Began role terms) text)
began p xs s text Origin terms b = subst (λ t. MayCome p xs (stored s (Began Origin terms) t)) (sym b.text_is) (Starts s terms b.whose b.new b.room)
began p xs s text Recipient terms b = subst (λ t. MayCome p xs (stored s (Began Recipient terms) t)) (sym b.text_is) (Accepts s terms b.whose b.new b.room)

note : (p : Party) (xs : List Stored) (s : SessionId) (text : Text) (r : Rec) → IsNote r → IsNoted p xs s text r → MayCome p xs (stored s r text)
note p xs s text r n k = subst (λ t. MayCome p xs (stored s r t)) (sym k.text_is) (Notes s k.view r k.named k.rule n)

taken : (p : Party) (xs : List Stored) (s : SessionId) (text : Text) (kind : Kind) (v : View) (part : Part) → part_kind part ≡ kind → view_in s xs ≡ Some v → RoleRule v.role v (Took kind) → IsPart part
    → text ≡ next_text s (recipient_at p v.role) p.key (chain_in s xs) part → MayCome p xs (stored s (Took kind) text)
taken p xs s text kind v part k e rule f t =
    subst (λ y. MayCome p xs (stored s (Took kind) y)) (sym t)
    (subst (λ j. MayCome p xs (stored s (Took j) (next_text s (recipient_at p v.role) p.key (chain_in s xs) part))) k
    (Takes s v part e (subst (λ j. RoleRule v.role v (Took j)) (sym k) rule) f))

made : (p : Party) (xs : List Stored) (s : SessionId) (text : Text) (kind : Kind) (v : View) (part : Part) → part_kind part ≡ kind → view_in s xs ≡ Some v → RoleRule v.role v (Made kind) → IsPart part
    → text ≡ next_text s (recipient_at p v.role) p.key (chain_in s xs) part → MayCome p xs (stored s (Made kind) text)
made p xs s text kind v part k e rule f t =
    subst (λ y. MayCome p xs (stored s (Made kind) y)) (sym t)
    (subst (λ j. MayCome p xs (stored s (Made j) (next_text s (recipient_at p v.role) p.key (chain_in s xs) part))) k
    (Makes s v part e (subst (λ j. RoleRule v.role v (Made j)) (sym k) rule) f))

pub may : (p : Party) (xs : List Stored) (s : SessionId) (text : Text) (r : Rec) → Comes p xs s text r → MayCome p xs (stored s r text)
may p xs s text (Began role terms) c = began p xs s text role terms c
may p xs s text (Took kind) c = taken p xs s text kind c.view c.part c.kind_is c.named c.rule c.formed c.text_is
may p xs s text (Made kind) c = made p xs s text kind c.view c.part c.kind_is c.named c.rule c.formed c.text_is
may p xs s text (Did op) c = note p xs s text (Did op) tt c
may p xs s text (Chose way) c = note p xs s text (Chose way) tt c
may p xs s text Rescue c = note p xs s text Rescue tt c

-- ---- kinds that come after others

-- the tale begins with the proposal
from-proposal : (t : List Kind) (v : View) (rs : List Rec) → v.tale ≡ TransferProposal ∷ t → (u : List Kind) × ((view_from v rs).tale ≡ TransferProposal ∷ u)
from-proposal t v [] e = (t, e)
from-proposal t v (Began role terms ∷ rs) e = from-proposal t v rs e
from-proposal t v (Took k ∷ rs) e = from-proposal (t ++ k ∷ []) (push v (Took k)) rs (ap (λ x. x ++ k ∷ []) e)
from-proposal t v (Made k ∷ rs) e = from-proposal (t ++ k ∷ []) (push v (Made k)) rs (ap (λ x. x ++ k ∷ []) e)
from-proposal t v (Did op ∷ rs) e = from-proposal t (push v (Did op)) rs e
from-proposal t v (Chose way ∷ rs) e = from-proposal t (push v (Chose way)) rs e
from-proposal t v (Rescue ∷ rs) e = from-proposal t (push v Rescue) rs e

reached-head : (role : Role) (v : View) → IsReached role v → (u : List Kind) × (v.tale ≡ TransferProposal ∷ u)
reached-head role v k = let (u, e) = from-proposal [] (begin role k.terms) k.recs refl in (u, ap (λ (w : View). w.tale) k.view ∙ e)

plain-or-reject : (kind : Kind) (role : Role) → maker kind ≡ Some role → (kind ≡ TransferProposal → ⊥) → IsTrue (is_plain kind) ⊎ (kind ≡ Reject)
plain-or-reject TransferProposal role m n = absurd (n refl)
plain-or-reject ProposalReceipt role m n = inl refl
plain-or-reject TransferCommence role m n = inl refl
plain-or-reject CommenceAck role m n = inl refl
plain-or-reject LockAssert role m n = inl refl
plain-or-reject LockReceipt role m n = inl refl
plain-or-reject CommitPrepare role m n = inl refl
plain-or-reject CommitReady role m n = inl refl
plain-or-reject CommitFinal role m n = inl refl
plain-or-reject CommitFinalAck role m n = inl refl
plain-or-reject TransferComplete role m n = inl refl
plain-or-reject Reject role m n = inr refl
plain-or-reject Rollback role m n = inl refl
plain-or-reject RollbackAck role m n = inl refl
plain-or-reject Recover role m n = absurd (cc m)
plain-or-reject RecoverUpdate role m n = absurd (cc m)
plain-or-reject RecoverSuccess role m n = absurd (cc m)

fits-kind : (role : Role) (v : View) (kind : Kind) (r : Role) → IsReached role v → IsTale (v.tale ++ kind ∷ []) → maker kind ≡ Some r → IsTrue (is_plain kind) ⊎ (kind ≡ Reject)
fits-kind role v kind r k tale m =
    let (u, head) = reached-head role v k in
    plain-or-reject kind r m (no-proposal TransferProposal u kind (subst IsTale head (reached-tale role v k)) (subst (λ t. IsTale (t ++ kind ∷ [])) head tale))

pub took-fits : (v : View) (kind : Kind) → IsReached v.role v → RoleRule v.role v (Took kind) → IsTale (v.tale ++ kind ∷ []) × (IsTrue (is_plain kind) ⊎ (kind ≡ Reject))
took-fits v kind k rule = let (by, tale) = took-rule v.role v kind rule in (tale, fits-kind v.role v kind (other v.role) k tale by)

pub made-fits : (v : View) (kind : Kind) → IsReached v.role v → RoleRule v.role v (Made kind) → IsTale (v.tale ++ kind ∷ []) × (IsTrue (is_plain kind) ⊎ (kind ≡ Reject))
made-fits v kind k rule = let tale = reached-keeps v.role v (Made kind) k rule in (tale, fits-kind v.role v kind v.role k tale (made-rule v.role v kind rule))

begins_not : Next → Bool
begins_not (Append (Began role terms)) = false
begins_not _ = true

never-begins : (role : Role) (v : View) → begins_not (next_of role v) ≡ true
unfolding begins_not
never-begins Origin v = role-gives begins_not Origin v refl refl
never-begins Recipient v = role-gives begins_not Recipient v refl refl

no-beginning : (role : Role) (v : View) (r : Role) (terms : Terms) → next_of role v ≡ Append (Began r terms) → ⊥
unfolding begins_not
no-beginning role v r terms e = let h = subst (λ n. begins_not n ≡ true) e (never-begins role v) in cc h

-- a session begins once
pub began-once : (role : Role) (v : View) (r : Role) (terms : Terms) → RoleRule role v (Began r terms) → ⊥
began-once role v r terms (Due e) = no-beginning role v r terms e
began-once role v r terms (Answered op a e x) = elim (after-shape op a (Began r terms) x) [ inl q ↦ absurd (cc q) | inr q ↦ absurd (cc q.1) ]
began-once Origin v r terms (Free o) = absurd o
began-once Recipient v r terms (Free o) = absurd o
