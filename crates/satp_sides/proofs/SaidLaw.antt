-- What may be said was said from then on.
use Rattle.std.proofs.Common.{◌≡◌, ℕ, zero, suc, ◌-◌, ◌≤◌, Bool, true, false, List, [], ◌∷◌, ◌++◌, length, Some, refl, sym, ap, subst, ◌∙◌, arith}
use Rattle.std.specs.Prelude.{drop, map, slice_get, take}
use Rattle.std.specs.List.{flat_map}
use Rattle.std.proofs.lemmas.List.{append-nil, append_assoc, length-append, length-drop}
use Rattle.std.proofs.lemmas.List.Concat.{flat_map-append}
use Rattle.std.proofs.lemmas.List.Elements.{filter-append}
use Rattle.satp_base.specs.Chains.{head_of}
use Rattle.satp_base.specs.Forms.{IsMessage}
use Rattle.satp_base.specs.Signatures.{own}
use Rattle.satp_base.specs.declared.message.Body.{Body}
use Rattle.satp_base.specs.declared.message.Body.TheVariants as body
use Rattle.satp_base.specs.declared.session.SessionId.{SessionId}
use Rattle.satp_base.specs.declared.view.View.{View}
use Rattle.satp_base.specs.Views.{push, view_of}
use Rattle.satp_base.specs.declared.record.Rec.{Rec}
use Rattle.satp_base.specs.declared.record.Rec.TheVariants.{Began, Took, Made, Did, Chose, Rescue}
use Rattle.satp_sides.specs.Moves.{Sayable, last_texts, message_from}
use Rattle.satp_sides.specs.Moves.Sayable.{Own_text, Recovers, Updates, Succeeds, Knows_none}
use Rattle.satp_sides.specs.Points.{Party, Stored, Text, chain_in, is_session, records_of, texts_in_record, view_in}
use Rattle.satp_sides.specs.Said.{RecoverySays, SaidIsKept, WasSaid}
use Rattle.satp_sides.specs.Said.WasSaid.{Of_chain, Of_nothing, Of_recovery}
use Rattle.satp_sides.proofs.Records.{get-old, push-head, view-apart, view-here}

-- ---- records and chains of more records

pub chain-append : (s : SessionId) (xs ys : List Stored) → chain_in s (xs ++ ys) ≡ chain_in s xs ++ chain_in s ys
chain-append s xs ys = ap (flat_map texts_in_record) (filter-append (λ x. is_session s x.session) xs ys) ∙ flat_map-append texts_in_record (records_of s xs) (records_of s ys)

-- the session is still named, in the same role
pub record Still (s : SessionId) (xs : List Stored) (v : View) : Type 0 where
  pub view : View
  pub named : view_in s xs ≡ Some view
  pub role : view.role ≡ v.role

one-more : (s : SessionId) (xs : List Stored) (x : Stored) (v : View) → view_in s xs ≡ Some v → Still s (xs ++ x ∷ []) v
one-more s xs x v e = go (is_session s x.session) refl
  where
    go : (b : Bool) → is_session s x.session ≡ b → Still s (xs ++ x ∷ []) v
    go false n = record { view = v; named = view-apart s xs x n ∙ e; role = refl }
    go true y = record { view = push v x.rec; named = view-here s xs x v y e; role = (push-head v x.rec).0 }

pub still-named : (s : SessionId) (xs ys : List Stored) (v : View) → view_in s xs ≡ Some v → Still s (xs ++ ys) v
still-named s xs [] v e = record { view = v; named = ap (view_in s) (append-nil xs) ∙ e; role = refl }
still-named s xs (y ∷ ys) v e =
    let one = one-more s xs y v e in
    let rest = still-named s (xs ++ y ∷ []) ys one.view one.named in
    record { view = rest.view; named = ap (view_in s) (sym (append_assoc xs (y ∷ []) ys)) ∙ rest.named; role = rest.role ∙ one.role }

-- ---- first texts

take-all : (ts : List Text) → take (length ts) ts ≡ ts
take-all [] = refl
take-all (t ∷ ts) = ap (λ us. t ∷ us) (take-all ts)

take-first : (n : ℕ) (ts us : List Text) → n ≤ length ts → take n (ts ++ us) ≡ take n ts
take-first zero ts us h = refl
take-first (suc n) [] us h = absurd (omega (arith, h))
take-first (suc n) (t ∷ ts) us h = ap (λ vs. t ∷ vs) (take-first n ts us (omega (arith, h)))

-- the last texts, by how many they are
pub last-of : (n : ℕ) (texts : List Text) → last_texts n texts ≡ last_texts (length (last_texts n texts)) texts
last-of n texts = let h = length-drop (length texts - n) texts in let same : length texts - n ≡ length texts - length (last_texts n texts) = omega (arith, h) in ap (λ k. drop k texts) same

-- ---- the law

-- a named session has a first text
begun-text : (rs : List Stored) (v : View) → view_of (map (λ x. x.rec) rs) ≡ Some v → 1 ≤ length (flat_map texts_in_record rs)
begun-text [] v e = cc
begun-text (x ∷ rs) v e = go x.rec refl
  where
    kept : (r : Rec) → x.rec ≡ r → view_of (r ∷ map (λ y. y.rec) rs) ≡ Some v
    kept r is = ap (λ q. view_of (q ∷ map (λ y. y.rec) rs)) (sym is) ∙ e

    go : (r : Rec) → x.rec ≡ r → 1 ≤ length (flat_map texts_in_record (x ∷ rs))
    go (Began role terms) is = rw is (omega arith)
    go (Took kind) is = let no = kept (Took kind) is in cc
    go (Made kind) is = let no = kept (Made kind) is in cc
    go (Did op) is = let no = kept (Did op) is in cc
    go (Chose way) is = let no = kept (Chose way) is in cc
    go Rescue is = let no = kept Rescue is in cc

-- a recovery message of the present chain
whole : (p : Party) (xs : List Stored) (s : SessionId) (v : View) (b : Body) → view_in s xs ≡ Some v → IsMessage (message_from p s b) → RecoverySays (chain_in s xs) b → WasSaid p xs (own p.key (message_from p s b))
whole p xs s v b e f says = Of_recovery s b (length (chain_in s xs)) (begun-text (records_of s xs) v e) (omega arith) f (subst (λ ts. RecoverySays ts b) (sym (take-all (chain_in s xs))) says) refl

pub said-now : (p : Party) (xs : List Stored) (bag : List Text) (t : Text) → Sayable p xs bag t → WasSaid p xs t
said-now p xs bag t (Own_text s v n _ e d r) = Of_chain s v n e d r
said-now p xs bag _ (Recovers s v e f) = whole p xs s v (body.Recover (length (chain_in s xs)) (head_of (chain_in s xs)).last) e f (refl, refl)
said-now p xs bag _ (Updates s v n e c f) = whole p xs s v (body.Update (length (chain_in s xs)) (last_texts n (chain_in s xs))) e f (refl, last-of n (chain_in s xs))
said-now p xs bag _ (Succeeds s v e f) = whole p xs s v (body.Success (length (chain_in s xs)) (head_of (chain_in s xs)).last) e f (refl, refl)
said-now p xs bag _ (Knows_none m n l g e f a b i d) = Of_nothing m.session g d refl

pub said-kept : (p : Party) (xs ys : List Stored) (t : Text) → WasSaid p xs t → WasSaid p (xs ++ ys) t
said-kept p xs ys t (Of_chain s v n e d r) =
    let k = still-named s xs ys v e in
    Of_chain s k.view n k.named (ap (λ ts. slice_get ts n) (chain-append s xs ys) ∙ get-old (chain_in s xs) (chain_in s ys) n t d) (r ∙ sym k.role)
said-kept p xs ys t (Of_nothing s g f e) = Of_nothing s g f e
said-kept p xs ys t (Of_recovery s b n some h f says e) =
    let long = ap length (chain-append s xs ys) ∙ length-append (chain_in s xs) (chain_in s ys) in
    Of_recovery s b n some (omega (arith, h, long)) f (subst (λ ts. RecoverySays ts b) (sym (ap (take n) (chain-append s xs ys) ∙ take-first n (chain_in s xs) (chain_in s ys) h)) says) e

pub said-is-kept : SaidIsKept
said-is-kept p xs t = (λ bag z. said-now p xs bag t z, λ ys z. said-kept p xs ys t z)
