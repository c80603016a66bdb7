-- A session that is settled stays settled as records grow.
use Rattle.std.proofs.Common.{◌≡◌, ℕ, ◌+◌, Bool, true, false, List, [], ◌∷◌, ◌++◌, length, Option, Some, None, refl, sym, ap, subst, ◌∙◌, arith}
use Rattle.std.specs.Prelude.{if◌then◌else◌}
use Rattle.std.proofs.lemmas.List.{append_assoc, append-nil, length-append}
use Rattle.satp_base.proofs.Finite.{all_of, all_of-at}
use Rattle.satp_base.proofs.TaleTable.{tale-in, tales}
use Rattle.satp_base.specs.Founding.{Founding}
use Rattle.satp_base.specs.Tales.{IsTale, is_committed, is_whole}
use Rattle.satp_base.specs.Views.{push}
use Rattle.satp_base.specs.declared.message.Kind.{Kind}
use Rattle.satp_base.specs.declared.record.Rec.{Rec}
use Rattle.satp_base.specs.declared.record.Rec.TheVariants.{Began, Took, Made, Did, Chose, Rescue}
use Rattle.satp_base.specs.declared.session.SessionId.{SessionId}
use Rattle.satp_base.specs.declared.view.View.{View}
use Rattle.satp_sides.proofs.LogTexts.{chain-length}
use Rattle.satp_sides.proofs.Records.{view-apart, view-here}
use Rattle.satp_sides.proofs.SaidLaw.{chain-append}
use Rattle.satp_sides.specs.Points.{Stored, Text, chain_in, is_session, tale_of, view_in}
use Rattle.satp_world.proofs.WorldLaw.{law_safety}
use Rattle.satp_world.specs.Worlds.{Gateway, IsSettledAt, Reached, Setting, World, name_at, opposite, side_at}

-- ---- no tale goes on after a whole one

-- no tale before the last of these is whole
abbrev none_before : List Kind → List Kind → Bool
none_before done [] = true
none_before done (k ∷ more) = if is_whole done then false else none_before (done ++ k ∷ []) more

checked : all_of (none_before []) tales ≡ true
checked = refl

open-by : (b c : Bool) → (if b then false else c) ≡ true → (b ≡ false) × (c ≡ true)
open-by true c h = absurd (cc h)
open-by false c h = (refl, h)

not-whole : (done tale : List Kind) (k : Kind) (more : List Kind) → none_before done (tale ++ k ∷ more) ≡ true → is_whole (done ++ tale) ≡ false
not-whole done [] k more h = ap is_whole (append-nil done) ∙ (open-by (is_whole done) (none_before (done ++ k ∷ []) more) h).0
not-whole done (j ∷ tale) k more h = ap is_whole (sym (append_assoc done (j ∷ []) tale)) ∙ not-whole (done ++ j ∷ []) tale k more (open-by (is_whole done) (none_before (done ++ j ∷ []) (tale ++ k ∷ more)) h).1

whole-ends : (tale more : List Kind) → IsTale (tale ++ more) → is_whole tale ≡ true → more ≡ []
whole-ends tale [] h w = refl
whole-ends tale (k ∷ more) h w = absurd (let n = not-whole [] tale k more (all_of-at (none_before []) (tale-in (tale ++ k ∷ more) h) checked) in cc (n, w))

-- ---- a tale as records grow

record Longer (s : SessionId) (xs : List Stored) (v : View) : Type 0 where
  view : View
  named : view_in s xs ≡ Some view
  more : List Kind
  tale : view.tale ≡ v.tale ++ more

pushed : (v : View) (r : Rec) → (more : List Kind) × ((push v r).tale ≡ v.tale ++ more)
pushed v (Began role terms) = ([], sym (append-nil v.tale))
pushed v (Took kind) = (kind ∷ [], refl)
pushed v (Made kind) = (kind ∷ [], refl)
pushed v (Did op) = ([], sym (append-nil v.tale))
pushed v (Chose way) = ([], sym (append-nil v.tale))
pushed v Rescue = ([], sym (append-nil v.tale))

one-longer : (s : SessionId) (xs : List Stored) (x : Stored) (v : View) → view_in s xs ≡ Some v → Longer s (xs ++ x ∷ []) v
one-longer s xs x v e = go (is_session s x.session) refl
  where
    go : (b : Bool) → is_session s x.session ≡ b → Longer s (xs ++ x ∷ []) v
    go false n = record { view = v; named = view-apart s xs x n ∙ e; more = []; tale = sym (append-nil v.tale) }
    go true y = record { view = push v x.rec; named = view-here s xs x v y e; more = (pushed v x.rec).0; tale = (pushed v x.rec).1 }

longer : (s : SessionId) (xs ys : List Stored) (v : View) → view_in s xs ≡ Some v → Longer s (xs ++ ys) v
longer s xs [] v e = record { view = v; named = ap (view_in s) (append-nil xs) ∙ e; more = []; tale = sym (append-nil v.tale) }
longer s xs (y ∷ ys) v e =
    let one = one-longer s xs y v e in
    let rest = longer s (xs ++ y ∷ []) ys one.view one.named in
    record {
      view = rest.view;
      named = ap (view_in s) (sym (append_assoc xs (y ∷ []) ys)) ∙ rest.named;
      more = one.more ++ rest.more;
      tale = rest.tale ∙ ap (λ t. t ++ rest.more) one.tale ∙ append_assoc v.tale one.more rest.more;
    }

pub still-there : (s : SessionId) (xs ys : List Stored) (v : View) → view_in s xs ≡ Some v → (u : View) × (view_in s (xs ++ ys) ≡ Some u)
still-there s xs ys v e = let l = longer s xs ys v e in (l.view, l.named)

none-texts : (ts : List Text) → length ts ≡ 0 → ts ≡ []
none-texts [] e = refl
none-texts (t ∷ ts) e = absurd (omega (arith, e))

-- ---- two worlds

-- both sides' records have grown, or stand
abbrev pub Grows : World → World → Type 0
Grows w v = (g : Gateway) → (ys : List Stored) × ((side_at v g).records ≡ (side_at w g).records ++ ys)

module _ (st : Setting) (a b : Founding) (w v : World) (r : Reached st a b w) (k : Reached st a b v) (grown : Grows w v) (s : SessionId) where
  record Same (g : Gateway) : Type 0 where
    chain : chain_in s (side_at v g).records ≡ chain_in s (side_at w g).records
    tale : tale_of (view_in s (side_at v g).records) ≡ tale_of (view_in s (side_at w g).records)

  -- a side whose tale is whole has the same chain
  same-by : (g : Gateway) (x : View) → view_in s (side_at w g).records ≡ Some x → is_whole x.tale ≡ true → Same g
  same-by g x e whole =
      let xs = (side_at w g).records in
      let ys = (grown g).0 in
      let l = longer s xs ys x e in
      let named = ap (view_in s) (grown g).1 ∙ l.named in
      let old = (law_safety st a b w r).chains g s x e in
      let new = (law_safety st a b v k).chains g s l.view named in
      let tale = subst IsTale new.kinds new.chain.tale in
      let none = whole-ends x.tale l.more (subst IsTale l.tale tale) whole in
      let kinds : l.view.tale ≡ x.tale = l.tale ∙ ap (λ m. x.tale ++ m) none ∙ append-nil x.tale in
      let before = chain-length _ _ _ x _ old in
      let after = chain-length _ _ _ l.view _ new in
      let chain : chain_in s (side_at v g).records ≡ chain_in s xs ++ chain_in s ys = ap (chain_in s) (grown g).1 ∙ chain-append s xs ys in
      let both = length-append (chain_in s xs) (chain_in s ys) in
      let sum = ap length chain in
      let long = ap length kinds in
      let no_more = none-texts (chain_in s ys) (zero-by (length (chain_in s xs)) (length (chain_in s ys)) _ _ _ _ sum both before after long) in
      record {
        chain = chain ∙ ap (λ ts. chain_in s xs ++ ts) no_more ∙ append-nil (chain_in s xs);
        tale = ap tale_of named ∙ kinds ∙ sym (ap tale_of e);
      }
    where
      zero-by : (m n c d x y : ℕ) → c ≡ d → d ≡ m + n → m ≡ x → c ≡ y → y ≡ x → n ≡ 0
      zero-by m n c d x y p q h i j = omega (arith, p, q, h, i, j)

  same : (g : Gateway) → is_whole (tale_of (view_in s (side_at w g).records)) ≡ true → Same g
  same g whole = by (view_in s (side_at w g).records) refl whole
    where
      by : (o : Option View) → view_in s (side_at w g).records ≡ o → is_whole (tale_of o) ≡ true → Same g
      by None e h = absurd (cc h)
      by (Some x) e h = same-by g x e h

  pub settled-stays : (g : Gateway) → s.gateway ≡ name_at st g → IsSettledAt w g s → IsSettledAt v g s
  settled-stays g own (equal, whole, settled) =
      let mine = same g whole.1 in
      let theirs = same (opposite g) (ap is_whole (sym whole.0) ∙ whole.1) in
      (law_safety st a b v k).settled g s own (mine.chain ∙ equal ∙ sym theirs.chain) (ap is_whole mine.tale ∙ whole.1)

  -- in its end too
  pub committed-stays : (g : Gateway) → IsSettledAt w g s → is_committed (tale_of (view_in s (side_at w g).records)) ≡ true → is_committed (tale_of (view_in s (side_at v g).records)) ≡ true
  committed-stays g (equal, whole, settled) e = ap is_committed (same g whole.1).tale ∙ e
