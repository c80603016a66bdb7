-- What records say of a session: with one record more, and with the first record of a call.
use Rattle.std.proofs.Common.{◌≡◌, List, [], ◌∷◌, ◌++◌, Option, Some, None, option_map, refl, sym, ap, ap₂, subst, ◌∙◌}
use Rattle.std.proofs.lemmas.List.{append-nil}
use Rattle.satp_base.specs.Canonical.{kind_of}
use Rattle.satp_base.specs.Chains.{next_text}
use Rattle.satp_base.specs.Views.{begin}
use Rattle.satp_base.specs.declared.message.Part.TheVariants.{Proposal}
use Rattle.satp_base.specs.declared.message.Role.{Role}
use Rattle.satp_base.specs.declared.message.Terms.{Terms}
use Rattle.satp_base.specs.declared.record.Rec.{Rec}
use Rattle.satp_base.specs.declared.record.Rec.TheVariants.{Began, Took, Made, Did, Chose, Rescue}
use Rattle.satp_base.specs.declared.session.SessionId.{SessionId}
use Rattle.satp_base.specs.declared.view.View.{View}
use Rattle.satp_sides.specs.Logs.{MayCome}
use Rattle.satp_sides.specs.Points.{Party, Slot, Stored, Text, chain_in, noted, recipient_at, records_of, slot, slot_in, stored, texts_in_record, view_in}
use Rattle.satp_sides.proofs.Records.{chain-here, chain-none, session-self, view-first, view-here}
use Rattle.satp_log.proofs.Comings.{Comes, comes}
use Rattle.satp_points.specs.Decisions.{FirstMayCome, first_of}
use Rattle.satp_points.specs.declared.decision.First.{First}
use Rattle.satp_points.specs.declared.decision.First.TheVariants as first

-- ---- parts

parts-by : (o : Option View) (texts : List Text) (l : Slot) → option_map (λ v. slot v texts) o ≡ Some l → (o ≡ Some l.view) × (texts ≡ l.texts)
parts-by None texts l e = absurd (cc e)
parts-by (Some v) texts l e = let same : slot v texts ≡ l = cc e in (ap (λ (x : Slot). Some x.view) same, ap (λ (x : Slot). x.texts) same)

pub slot-parts : (s : SessionId) (xs : List Stored) (l : Slot) → slot_in s xs ≡ Some l → (view_in s xs ≡ Some l.view) × (chain_in s xs ≡ l.texts)
slot-parts s xs l e = parts-by (view_in s xs) (chain_in s xs) l e

pub slot-is : (s : SessionId) (xs : List Stored) (v : View) (texts : List Text) → view_in s xs ≡ Some v → chain_in s xs ≡ texts → slot_in s xs ≡ Some (slot v texts)
slot-is s xs v texts e h = ap₂ (λ (x : Option View) (y : List Text). option_map (λ w. slot w y) x) e h

-- a session that records name
pub slot-of-view : (s : SessionId) (xs : List Stored) (v : View) → view_in s xs ≡ Some v → slot_in s xs ≡ Some (slot v (chain_in s xs))
slot-of-view s xs v e = slot-is s xs v (chain_in s xs) e refl

-- ---- one record more

pub slot-more : (s : SessionId) (xs : List Stored) (l : Slot) (r : Rec) (t : Text) → slot_in s xs ≡ Some l → slot_in s (xs ++ stored s r t ∷ []) ≡ Some (noted l s r t)
slot-more s xs l r t e =
    let (named, texts) = slot-parts s xs l e in
    slot-is s (xs ++ stored s r t ∷ []) _ _ (view-here s xs (stored s r t) l.view (session-self s) named)
    (chain-here s xs (stored s r t) (session-self s) ∙ ap (λ ts. ts ++ texts_in_record (stored s r t)) texts)

-- the first one of a session
pub slot-first : (s : SessionId) (xs : List Stored) (role : Role) (terms : Terms) (t : Text) → records_of s xs ≡ [] → slot_in s (xs ++ stored s (Began role terms) t ∷ []) ≡ Some (slot (begin role terms) (t ∷ []))
slot-first s xs role terms t e =
    let x = stored s (Began role terms) t in
    slot-is s (xs ++ x ∷ []) (begin role terms) (t ∷ []) (view-first s xs x (session-self s) e) (chain-here s xs x (session-self s) ∙ ap (λ ts. ts ++ t ∷ []) (chain-none s xs e))

-- ---- the first record of a call

abbrev pub IsNamed : SessionId → List Stored → Type 0
IsNamed s xs = (l : Slot) × (slot_in s xs ≡ Some l)

named-by : (s : SessionId) (xs : List Stored) (v : View) (r : Rec) (t : Text) → view_in s xs ≡ Some v → IsNamed s (xs ++ stored s r t ∷ [])
named-by s xs v r t e = (noted (slot v (chain_in s xs)) s r t, slot-more s xs (slot v (chain_in s xs)) r t (slot-of-view s xs v e))

-- a record that may come names its session
named-after : (p : Party) (xs : List Stored) (s : SessionId) (r : Rec) (t : Text) → Comes p xs s t r → IsNamed s (xs ++ stored s r t ∷ [])
named-after p xs s (Began role terms) t c = (slot (begin role terms) (t ∷ []), slot-first s xs role terms t c.new)
named-after p xs s (Took kind) t c = named-by s xs c.view (Took kind) t c.named
named-after p xs s (Made kind) t c = named-by s xs c.view (Made kind) t c.named
named-after p xs s (Did op) t c = named-by s xs c.view (Did op) t c.named
named-after p xs s (Chose way) t c = named-by s xs c.view (Chose way) t c.named
named-after p xs s Rescue t c = named-by s xs c.view Rescue t c.named

pub names-session : (p : Party) (xs : List Stored) (s : SessionId) (r : Rec) (t : Text) → MayCome p xs (stored s r t) → IsNamed s (xs ++ stored s r t ∷ [])
names-session p xs s r t may = named-after p xs s r t (comes p xs (stored s r t) may)

-- after the first record of a decision that can be carried out, the session is named
pub first-names : (p : Party) (s : SessionId) (xs : List Stored) (f : First) → FirstMayCome p s xs f → IsNamed s (xs ++ first_of p s f)
first-names p s xs first.Nothing h = subst (IsNamed s) (sym (append-nil xs)) h
first-names p s xs (first.Note r) h = names-session p xs s r [] h.1
first-names p s xs (first.Takes signed) h = names-session p xs s (Took (kind_of signed.message.body)) signed.text h.1
first-names p s xs (first.Begins role terms) h = names-session p xs s (Began role terms) (next_text s (recipient_at p role) p.key [] (Proposal terms)) h
