-- The first of a list of names in byte order.
use Rattle.std.proofs.Common.{◌≡◌, ◌≢◌, ◌⊎◌, inl, inr, ℕ, List, [], ◌∷◌, ◌++◌, Option, Some, None, refl, ap, subst, sym, ◌∙◌}
use Rattle.std.specs.Prelude.{fold}
use Rattle.std.specs.List.{AllByRecursion}
use Rattle.std.specs.Ordering.{nat_cmp, match_ordering, ordering_reverse}
use Rattle.std.specs.declared.cmp.Ordering.{Ordering}
use Rattle.std.specs.declared.cmp.Ordering.TheVariants.{Less, Equal, Greater}
use Rattle.std.specs.Cmp.Lexicographic.{slice_cmp}
use Rattle.std.proofs.lemmas.Cmp.{nat_list_cmp_total}
use Rattle.std.proofs.lemmas.Map.Lookups.{exact_bytes}
use Rattle.satp_canon.specs.FirstFault.{IsFirstOf, IsUpTo, least, least_yet, lesser}

abbrev order : List ℕ → List ℕ → Ordering
order a b = slice_cmp nat_cmp a b

-- ---- the order of bytes

itself : (o : Ordering) → o ≡ ordering_reverse o → o ≢ Greater
itself Less e = absurd cc
itself Equal e = λ g. cc g
itself Greater e = absurd cc

up_to_itself : (a : List ℕ) → IsUpTo a a
up_to_itself a = itself (order a a) (nat_list_cmp_total.antisymm a a)

-- one is not above the other
through : (o p q : Ordering) → (o ≡ Less → p ≡ Less → q ≡ Less) → (o ≡ Equal → q ≡ p) → (p ≡ Equal → o ≡ Less → q ≡ Less) → o ≢ Greater → p ≢ Greater → q ≢ Greater
through Less Less q t c d l m = λ g. cc (g, t refl refl)
through Less Equal q t c d l m = λ g. cc (g, d refl refl)
through Less Greater q t c d l m = absurd (m refl)
through Equal p q t c d l m = λ g. m (sym (c refl) ∙ g)
through Greater p q t c d l m = absurd (l refl)

up_to_through : (a b c : List ℕ) → IsUpTo a b → IsUpTo b c → IsUpTo a c
up_to_through a b c l m =
    through (order a b) (order b c) (order a c) (nat_list_cmp_total.trans a b c) (nat_list_cmp_total.congr a b c)
    (λ same less. ap (order a) (sym (exact_bytes b c same)) ∙ less) l m

reversed : (o p : Ordering) → o ≡ ordering_reverse p → o ≡ Greater → p ≢ Greater
reversed o Less e g = λ h. cc h
reversed o Equal e g = λ h. cc h
reversed o Greater e g = absurd (cc (sym g ∙ e))

both_equal : (o p : Ordering) → o ≡ ordering_reverse p → o ≢ Greater → p ≢ Greater → o ≡ Equal
both_equal o Less e l m = absurd (l e)
both_equal o Equal e l m = e
both_equal o Greater e l m = absurd (m refl)

same_by : (a b : List ℕ) → IsUpTo a b → IsUpTo b a → a ≡ b
same_by a b l m = exact_bytes a b (both_equal (order a b) (order b a) (nat_list_cmp_total.antisymm a b) l m)

-- ---- the lesser of two

pub record IsLesser (a b c : List ℕ) : Type 0 where
  pub either : (c ≡ a) ⊎ (c ≡ b)
  pub left : IsUpTo c a
  pub right : IsUpTo c b

is_lesser : (a b : List ℕ) → IsLesser a b (lesser a b)
is_lesser a b = by_order (order a b) refl
  where
    by_order : (o : Ordering) → order a b ≡ o → IsLesser a b (match_ordering o a a b)
    by_order Less e = record { either = inl refl; left = up_to_itself a; right = λ g. cc (sym e ∙ g) }
    by_order Equal e = record { either = inl refl; left = up_to_itself a; right = λ g. cc (sym e ∙ g) }
    by_order Greater e = record { either = inr refl; left = reversed (order a b) (order b a) (nat_list_cmp_total.antisymm a b) e; right = up_to_itself b }

-- ---- the first of a list

weaker : (a b : List ℕ) (texts : List (List ℕ)) → IsUpTo a b → AllByRecursion (IsUpTo b) texts → AllByRecursion (IsUpTo a) texts
weaker a b [] l h = tt
weaker a b (t ∷ texts) l h = (up_to_through a b t l h.0, weaker a b texts l h.1)

abbrev Found : List ℕ → List (List ℕ) → Type 0
Found yet texts = (text : List ℕ) × (fold least_yet (Some yet) texts ≡ Some text) × IsFirstOf (yet ∷ texts) text

abbrev Stands : List ℕ → List (List ℕ) → Type 0
Stands text texts = (before : List (List ℕ)) × (after : List (List ℕ)) × (texts ≡ before ++ text ∷ after)

found_more : (yet t : List ℕ) (texts : List (List ℕ)) → Found (lesser yet t) texts → Found yet (t ∷ texts)
found_more yet t texts (text, is, first) =
    let two = is_lesser yet t in (
      text,
      is,
      record {
        stands = placed two.either first.stands;
        least = (up_to_through text (lesser yet t) yet first.least.0 two.left, (up_to_through text (lesser yet t) t first.least.0 two.right, first.least.1));
      },
    )
  where
    placed : (lesser yet t ≡ yet) ⊎ (lesser yet t ≡ t) → Stands text (lesser yet t ∷ texts) → Stands text (yet ∷ t ∷ texts)
    placed (inl e) ([], after, is_at) = ([], t ∷ texts, cc (is_at, e))
    placed (inr e) ([], after, is_at) = (yet ∷ [], texts, cc (is_at, e))
    placed e (b ∷ before, after, is_at) = (yet ∷ t ∷ before, after, cc is_at)

found : (yet : List ℕ) (texts : List (List ℕ)) → Found yet texts
found yet [] = (yet, refl, record { stands = ([], [], refl); least = (up_to_itself yet, tt) })
found yet (t ∷ texts) = found_more yet t texts (found (lesser yet t) texts)

at_place : (P : List ℕ → Type 0) (before : List (List ℕ)) (text : List ℕ) (after : List (List ℕ)) → AllByRecursion P (before ++ text ∷ after) → P text
at_place P [] text after h = h.0
at_place P (b ∷ before) text after h = at_place P before text after h.1

one_first : (texts : List (List ℕ)) (a b : List ℕ) → IsFirstOf texts a → IsFirstOf texts b → a ≡ b
one_first texts a b f g = same_by a b (among b a g.stands f.least) (among a b f.stands g.least)
  where
    among : (x y : List ℕ) → Stands x texts → AllByRecursion (IsUpTo y) texts → IsUpTo y x
    among x y (before, after, is) h = at_place (IsUpTo y) before x after (subst (AllByRecursion (IsUpTo y)) is h)

pub finds_first : (texts : List (List ℕ)) (text : List ℕ) → least texts ≡ Some text → IsFirstOf texts text
finds_first [] text e = absurd cc
finds_first (t ∷ texts) text e = let (u, is, first) = found t texts in let same : u ≡ text = cc (sym is ∙ e) in subst (IsFirstOf (t ∷ texts)) same first

pub first_found : (texts : List (List ℕ)) (text : List ℕ) → IsFirstOf texts text → least texts ≡ Some text
first_found [] text f = none f.stands
  where
    none : Stands text [] → least [] ≡ Some text
    none ([], after, is) = absurd cc
    none (b ∷ before, after, is) = absurd cc
first_found (t ∷ texts) text f = let (u, is, first) = found t texts in is ∙ ap Some (one_first (t ∷ texts) u text first f)
