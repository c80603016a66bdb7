-- The text of an object ends where it ends: its members can be told apart.
use Rattle.std.proofs.Common.{◌≡◌, ℕ, ◌<◌, ◌^◌, ◌==◌, Bool, true, false, not, List, [], ◌∷◌, ◌++◌, get_or, map, flat_map, decimal, inl, inr, ◌⊎◌, refl, ap, ap₂, sym, ◌∙◌, append_assoc, append-nil}
use Rattle.std.specs.List.{join_with_byte, list_all}
use Rattle.std.specs.Prelude.{⊤}
use Rattle.std.proofs.lemmas.Bool.{and_parts, eqb-false}
use Rattle.std.proofs.lemmas.List.{append_cancel_left}
use Rattle.satp_base.specs.Canonical.{array, string, Member, member, object}
use Rattle.satp_base.specs.Numbers.{is_digit}
use Rattle.satp_base.proofs.Plain.{ArePlain, IsPlain, digits_decimal, is_plain, weaker}

pub same_tail : {c d : ℕ} (xs ys : List ℕ) → c ∷ xs ≡ d ∷ ys → xs ≡ ys
same_tail xs ys e = cc

-- texts joined by commas, the first apart from the others
pub join_first : {A : Type 0} (f : A → List ℕ) (x : A) (xs : List A) → join_with_byte 44 (map f (x ∷ xs)) ≡ f x ++ flat_map (λ y. 44 ∷ f y) xs
join_first f x [] = sym (append-nil (f x))
join_first f x (y ∷ xs) = ap (λ (t : List ℕ). f x ++ 44 ∷ t) (join_first f y xs)

-- two texts of bytes of one form, each with another byte behind it
pub cut : (p : ℕ → Bool) (x y : List ℕ) (c d : ℕ) (r s : List ℕ) → list_all p x ≡ true → list_all p y ≡ true → p c ≡ false → p d ≡ false → x ++ c ∷ r ≡ y ++ d ∷ s → (x ≡ y) × (c ∷ r ≡ d ∷ s)
cut p [] [] c d r s f g h i e = (refl, e)
cut p [] (b ∷ y) c d r s f g h i e = let same : c ≡ b = cc in let bad = sym h ∙ ap p same ∙ (and_parts _ _ g).0 in absurd (cc bad)
cut p (a ∷ x) [] c d r s f g h i e = let same : a ≡ d = cc in let bad = sym (and_parts _ _ f).0 ∙ ap p same ∙ i in absurd (cc bad)
cut p (a ∷ x) (b ∷ y) c d r s f g h i e =
    let same : a ≡ b = cc in
    let rest : x ++ c ∷ r ≡ y ++ d ∷ s = cc in
    let both : (x ≡ y) × (c ∷ r ≡ d ∷ s) = cut p x y c d r s (and_parts _ _ f).1 (and_parts _ _ g).1 h i rest in
    (ap₂ (λ (b : ℕ) (bs : List ℕ). b ∷ bs) same both.0, both.1)

-- a comma or a closing brace
abbrev pub IsEnd : ℕ → Type 0
IsEnd c = (c ≡ 44) ⊎ (c ≡ 125)

-- where one of the two stands, and an end behind it, the other doesn't
abbrev pub IsClosed : List ℕ → List ℕ → Type 0
IsClosed x y = (c d : ℕ) (r s : List ℕ) → IsEnd c → IsEnd d → x ++ c ∷ r ≡ y ++ d ∷ s → (x ≡ y) × (c ∷ r ≡ d ∷ s)

not_quote : (x : List ℕ) → IsPlain x → list_all (λ b. not (b == 34)) x ≡ true
not_quote = weaker is_plain (λ b. not (b == 34)) (λ b e. (and_parts _ _ (and_parts _ _ (and_parts _ _ e).0).0).1)

-- a quoted text, with anything behind it
pub cut_string : (x y r s : List ℕ) → IsPlain x → IsPlain y → string x ++ r ≡ string y ++ s → (x ≡ y) × (r ≡ s)
cut_string x y r s f g e =
    let inner : (x ++ 34 ∷ []) ++ r ≡ (y ++ 34 ∷ []) ++ s = same_tail _ _ e in
    let both = cut (λ b. not (b == 34)) x y 34 34 r s (not_quote x f) (not_quote y g) refl refl (sym (append_assoc x (34 ∷ []) r) ∙ inner ∙ append_assoc y (34 ∷ []) s) in
    (both.0, same_tail _ _ both.1)

pub closed_string : (x y : List ℕ) → IsPlain x → IsPlain y → IsClosed (string x) (string y)
closed_string x y f g c d r s h i e = let both = cut_string x y (c ∷ r) (d ∷ s) f g e in (ap string both.0, both.1)

no_digit : (c : ℕ) → IsEnd c → is_digit c ≡ false
no_digit c e = elim e [ inl comma ↦ rw comma refl | inr brace ↦ rw brace refl ]

pub closed_decimal : (m n : ℕ) → m < 2 ^ 64 → n < 2 ^ 64 → IsClosed (decimal m) (decimal n)
closed_decimal m n f g c d r s h i e = cut is_digit (decimal m) (decimal n) c d r s (digits_decimal m f) (digits_decimal n g) (no_digit c h) (no_digit d i) e

-- the same names, and texts that end where they end
abbrev pub Alike : List Member → List Member → Type 0
Alike [] [] = ⊤
Alike [] (y ∷ ys) = ⊥
Alike (x ∷ xs) [] = ⊥
Alike (x ∷ xs) (y ∷ ys) = (x.0 ≡ y.0) × IsClosed x.1 y.1 × Alike xs ys

same_member : (x y : Member) → x.0 ≡ y.0 → x.1 ≡ y.1 → x ≡ y
same_member x y p q = ap₂ (λ (a b : List ℕ). (a, b)) p q

member_cut : (x y : Member) (c d : ℕ) (r s : List ℕ) → x.0 ≡ y.0 → IsClosed x.1 y.1 → IsEnd c → IsEnd d → member x ++ c ∷ r ≡ member y ++ d ∷ s → (x ≡ y) × (c ∷ r ≡ d ∷ s)
member_cut x y c d r s name closed h i e =
    let split : (u v w : List ℕ) → (string u ++ 58 ∷ v) ++ w ≡ string u ++ (58 ∷ (v ++ w)) = λ u v w. append_assoc (string u) (58 ∷ v) w in
    let same : string x.0 ++ (58 ∷ (x.1 ++ c ∷ r)) ≡ string x.0 ++ (58 ∷ (y.1 ++ d ∷ s)) = sym (split x.0 x.1 (c ∷ r)) ∙ e ∙ split y.0 y.1 (d ∷ s) ∙ ap (λ n. string n ++ (58 ∷ (y.1 ++ d ∷ s))) (sym name) in
    let values : x.1 ++ c ∷ r ≡ y.1 ++ d ∷ s = same_tail _ _ (append_cancel_left (string x.0) _ _ same) in
    let both = closed c d r s h i values in
    (same_member x y name both.0, both.1)

-- the members behind the first
abbrev others : List Member → List ℕ
others ms = flat_map (λ m. 44 ∷ member m) ms

record Ended (t : List ℕ) : Type 0 where
  end : ℕ
  rest : List ℕ
  is : t ≡ end ∷ rest
  good : IsEnd end

ended : (ms : List Member) (r : List ℕ) → Ended (others ms ++ 125 ∷ r)
ended [] r = record { end = 125; rest = r; is = refl; good = inr refl }
ended (m ∷ ms) r = record { end = 44; rest = (member m ++ others ms) ++ 125 ∷ r; is = refl; good = inl refl }

-- a member and those behind it
pub first_cut : (x y : Member) (xs ys : List Member) (r s : List ℕ) → x.0 ≡ y.0 → IsClosed x.1 y.1 → (member x ++ others xs) ++ 125 ∷ r ≡ (member y ++ others ys) ++ 125 ∷ s
    → (x ≡ y) × (others xs ++ 125 ∷ r ≡ others ys ++ 125 ∷ s)
first_cut x y xs ys r s name closed e =
    let a = ended xs r in
    let b = ended ys s in
    let same : member x ++ a.end ∷ a.rest ≡ member y ++ b.end ∷ b.rest =
    ap (λ t. member x ++ t) (sym a.is) ∙ sym (append_assoc (member x) (others xs) (125 ∷ r)) ∙ e ∙ append_assoc (member y) (others ys) (125 ∷ s) ∙ ap (λ t. member y ++ t) b.is in
    let both = member_cut x y a.end b.end a.rest b.rest name closed a.good b.good same in
    (both.0, a.is ∙ both.1 ∙ sym b.is)

others_cut : (xs ys : List Member) (r s : List ℕ) → Alike xs ys → others xs ++ 125 ∷ r ≡ others ys ++ 125 ∷ s → (xs ≡ ys) × (r ≡ s)
others_cut [] [] r s a e = (refl, same_tail _ _ e)
others_cut [] (y ∷ ys) r s a e = absurd a
others_cut (x ∷ xs) [] r s a e = absurd a
others_cut (x ∷ xs) (y ∷ ys) r s a e =
    let both = first_cut x y xs ys r s a.0 a.1 (same_tail _ _ e) in
    let next = others_cut xs ys r s a.2 both.1 in
    (ap₂ (λ (m : Member) (ms : List Member). m ∷ ms) both.0 next.0, next.1)

-- ---- an object, with anything behind it

object_first : (x : Member) (xs : List Member) (r : List ℕ) → object (x ∷ xs) ++ r ≡ 123 ∷ ((member x ++ others xs) ++ 125 ∷ r)
object_first x xs r = ap (λ (t : List ℕ). 123 ∷ ((t ++ 125 ∷ []) ++ r)) (join_first member x xs) ∙ ap (λ (t : List ℕ). 123 ∷ t) (append_assoc (member x ++ others xs) (125 ∷ []) r)

pub cut_first : (x y : Member) (xs ys : List Member) → x.0 ≡ y.0 → IsClosed x.1 y.1 → object (x ∷ xs) ≡ object (y ∷ ys) → x ≡ y
cut_first x y xs ys name closed e =
    let same = sym (object_first x xs []) ∙ ap (λ (o : List ℕ). o ++ []) e ∙ object_first y ys [] in
    (first_cut x y xs ys [] [] name closed (same_tail _ _ same)).0

pub cut_object : (x y : Member) (xs ys : List Member) (r s : List ℕ) → Alike (x ∷ xs) (y ∷ ys) → object (x ∷ xs) ++ r ≡ object (y ∷ ys) ++ s → (x ∷ xs ≡ y ∷ ys) × (r ≡ s)
cut_object x y xs ys r s a e =
    let both = first_cut x y xs ys r s a.0 a.1 (same_tail _ _ (sym (object_first x xs r) ∙ e ∙ object_first y ys s)) in
    let next = others_cut xs ys r s a.2 both.1 in
    (ap₂ (λ (m : Member) (ms : List Member). m ∷ ms) both.0 next.0, next.1)

pub closed_object : (x y : Member) (xs ys : List Member) → Alike (x ∷ xs) (y ∷ ys) → IsClosed (object (x ∷ xs)) (object (y ∷ ys))
closed_object x y xs ys a c d r s h i e = let both = cut_object x y xs ys (c ∷ r) (d ∷ s) a e in (ap object both.0, both.1)

-- ---- an array of quoted texts

abbrev more : List (List ℕ) → List ℕ
more ws = flat_map (λ w. 44 ∷ string w) ws

first_apart : (x y : ℕ) (xs ys : List ℕ) → (x == y) ≡ false → x ∷ xs ≡ y ∷ ys → ⊥
first_apart x y xs ys f e = eqb-false x y f (ap (λ (t : List ℕ). get_or t 0 0) e)

more_cut : (xs ys : List (List ℕ)) (r s : List ℕ) → ArePlain xs → ArePlain ys → more xs ++ 93 ∷ r ≡ more ys ++ 93 ∷ s → (xs ≡ ys) × (r ≡ s)
more_cut [] [] r s f g e = (refl, same_tail _ _ e)
more_cut [] (y ∷ ys) r s f g e = absurd (first_apart 93 44 r ((string y ++ more ys) ++ 93 ∷ s) refl e)
more_cut (x ∷ xs) [] r s f g e = absurd (first_apart 44 93 ((string x ++ more xs) ++ 93 ∷ r) s refl e)
more_cut (x ∷ xs) (y ∷ ys) r s f g e =
    let p = and_parts _ _ f in
    let q = and_parts _ _ g in
    let both = cut_string x y (more xs ++ 93 ∷ r) (more ys ++ 93 ∷ s) p.0 q.0 (sym (append_assoc (string x) (more xs) (93 ∷ r)) ∙ same_tail _ _ e ∙ append_assoc (string y) (more ys) (93 ∷ s)) in
    let next = more_cut xs ys r s p.1 q.1 both.1 in
    (ap₂ (λ (w : List ℕ) (ws : List (List ℕ)). w ∷ ws) both.0 next.0, next.1)

array_first : (x : List ℕ) (xs : List (List ℕ)) (r : List ℕ) → array (map string (x ∷ xs)) ++ r ≡ 91 ∷ (string x ++ (more xs ++ 93 ∷ r))
array_first x xs r =
    ap (λ (t : List ℕ). 91 ∷ ((t ++ 93 ∷ []) ++ r)) (join_first string x xs)
    ∙ ap (λ (t : List ℕ). 91 ∷ t) (append_assoc (string x ++ more xs) (93 ∷ []) r ∙ append_assoc (string x) (more xs) (93 ∷ r))

array_cut : (xs ys : List (List ℕ)) (r s : List ℕ) → ArePlain xs → ArePlain ys → array (map string xs) ++ r ≡ array (map string ys) ++ s → (xs ≡ ys) × (r ≡ s)
array_cut [] [] r s f g e = (refl, same_tail _ _ (same_tail _ _ e))
array_cut [] (y ∷ ys) r s f g e = absurd (first_apart 93 34 r ((y ++ 34 ∷ []) ++ (more ys ++ 93 ∷ s)) refl (same_tail _ _ (e ∙ array_first y ys s)))
array_cut (x ∷ xs) [] r s f g e = absurd (first_apart 34 93 ((x ++ 34 ∷ []) ++ (more xs ++ 93 ∷ r)) s refl (same_tail _ _ (sym (array_first x xs r) ∙ e)))
array_cut (x ∷ xs) (y ∷ ys) r s f g e =
    let p = and_parts _ _ f in
    let q = and_parts _ _ g in
    let both = cut_string x y (more xs ++ 93 ∷ r) (more ys ++ 93 ∷ s) p.0 q.0 (same_tail _ _ (sym (array_first x xs r) ∙ e ∙ array_first y ys s)) in
    let next = more_cut xs ys r s p.1 q.1 both.1 in
    (ap₂ (λ (w : List ℕ) (ws : List (List ℕ)). w ∷ ws) both.0 next.0, next.1)

pub closed_array : (xs ys : List (List ℕ)) → ArePlain xs → ArePlain ys → IsClosed (array (map string xs)) (array (map string ys))
closed_array xs ys f g c d r s h i e = let both = array_cut xs ys (c ∷ r) (d ∷ s) f g e in (ap (λ ws. array (map string ws)) both.0, both.1)

pub cut_array : (xs ys : List (List ℕ)) → ArePlain xs → ArePlain ys → array (map string xs) ≡ array (map string ys) → xs ≡ ys
cut_array xs ys f g e = (array_cut xs ys [] [] f g (ap (λ (o : List ℕ). o ++ []) e)).0
