-- Bytes as whole lines.
use Rattle.std.proofs.Common.{◌≡◌, ◌≢◌, ℕ, zero, suc, ◌+◌, ◌≤◌, ◌⊎◌, inl, inr, Bool, true, false, ◌&&◌, ◌||◌, ◌==◌, cond, List, [], ◌∷◌, ◌++◌, length, refl, ap, ◌∙◌, sym, subst, arith, append_assoc}
use Rattle.std.specs.Prelude.{All}
use Rattle.std.specs.List.{flat_map}
use Rattle.std.proofs.lemmas.Bool.{ne_eqb, cond-false}
use Rattle.std.proofs.lemmas.List.Sums.{sum_by-cons, sum_by-append}
use Rattle.std.proofs.lemmas.List.Elements.{All-head, All-tail, All-cons, All-nil}
use Rattle.httparse.specs.Grammar.{AllPass, is_token_byte, is_value_byte, LineEnd, crlf, lf, print_end, print_blank, Field, IsField, print_field}
use Rattle.httparse.specs.Pieces.{Stops, is_newline}
use Rattle.satp_http.specs.Found.{behind_empty_lines, line_feeds}

-- none of the bytes ends a line
abbrev pub IsLine : List ℕ → Type 0
IsLine [] = Unit {0}
IsLine (b ∷ bytes) = (b ≢ 10) × IsLine bytes

pub line-append : (a b : List ℕ) → IsLine a → IsLine b → IsLine (a ++ b)
line-append [] b x y = y
line-append (c ∷ a) b x y = (x.0, line-append a b x.1 y)

-- bytes of a class without the line feed
pub class_line : (test : ℕ → Bool) → test 10 ≡ false → (bytes : List ℕ) → AllPass test bytes → IsLine bytes
class_line test fails [] pass = tt
class_line test fails (b ∷ bytes) pass = (
  λ e. differ (sym (All-head (λ v. test v ≡ true) b bytes pass) ∙ ap test e ∙ fails),
  class_line test fails bytes (All-tail (λ v. test v ≡ true) b bytes pass),
)
  where
    differ : true ≡ false → ⊥
    differ e = cc

-- ---- counts

feed : (bytes : List ℕ) → line_feeds (10 ∷ bytes) ≡ 1 + line_feeds bytes
feed bytes = sum_by-cons (λ b. cond (b == 10) 1 0) 10 bytes

no_feed : (b : ℕ) (bytes : List ℕ) → b ≢ 10 → line_feeds (b ∷ bytes) ≡ line_feeds bytes
no_feed b bytes other =
    let none : ◌≡◌ {A = ℕ} (cond (b == 10) 1 0) 0 = cond-false (b == 10) 1 0 (ne_eqb b 10 other) in
    omega (arith, sum_by-cons (λ v. cond (v == 10) 1 0) b bytes, none)

pub feeds-append : (a b : List ℕ) → line_feeds (a ++ b) ≡ line_feeds a + line_feeds b
feeds-append a b = sum_by-append (λ v. cond (v == 10) 1 0) a b

pub no_feeds : (line : List ℕ) → IsLine line → line_feeds line ≡ 0
no_feeds [] is = refl
no_feeds (b ∷ line) is = no_feed b line is.0 ∙ no_feeds line is.1

pub feeds_line : (line rest : List ℕ) → IsLine line → line_feeds (line ++ 10 ∷ rest) ≡ 1 + line_feeds rest
feeds_line line rest is = omega (arith, feeds-append line (10 ∷ rest), no_feeds line is, feed rest)

-- ---- splits

-- bytes that hold a line feed, and begin as a line does, begin with the whole line
pub whole_line : (line w more t : List ℕ) → IsLine line → w ++ more ≡ line ++ 10 ∷ t → 1 ≤ line_feeds w
    → (rest : List ℕ) × (w ≡ line ++ 10 ∷ rest) × (rest ++ more ≡ t)
whole_line [] [] more t is e some = absurd (omega arith)
whole_line [] (b ∷ w) more t is e some =
    let heads : b ≡ 10 = cc in
    (w, ap (λ (v : ℕ). v ∷ w) heads, cc)
whole_line (c ∷ line) [] more t is e some = absurd (omega arith)
whole_line (c ∷ line) (b ∷ w) more t is e some =
    let heads : b ≡ c = cc in
    let tails : w ++ more ≡ line ++ 10 ∷ t = cc in
    let later = whole_line line w more t is.1 tails (omega (arith, some, no_feed b w (λ same. is.0 (sym heads ∙ same)))) in
    (later.0, λ i. heads i ∷ later.1 i, later.2)

-- two texts of a first line each
pub same_line : (a b s t : List ℕ) → IsLine a → IsLine b → a ++ 10 ∷ s ≡ b ++ 10 ∷ t → (a ≡ b) × (s ≡ t)
same_line [] [] s t is it e = (refl, cc)
same_line [] (d ∷ b) s t is it e =
    let heads : 10 ≡ d = cc in
    absurd (it.0 (sym heads))
same_line (c ∷ a) [] s t is it e =
    let heads : c ≡ 10 = cc in
    absurd (is.0 heads)
same_line (c ∷ a) (d ∷ b) s t is it e =
    let heads : c ≡ d = cc in
    let tails : a ++ 10 ∷ s ≡ b ++ 10 ∷ t = cc in
    let later = same_line a b s t is.1 it.1 tails in
    (λ i. heads i ∷ later.0 i, later.1)

-- ---- line ends

abbrev pub return_of : LineEnd → List ℕ
return_of crlf = 13 ∷ []
return_of lf = []

pub end_is : (end : LineEnd) (rest : List ℕ) → print_end end ++ rest ≡ return_of end ++ 10 ∷ rest
end_is crlf rest = refl
end_is lf rest = refl

pub return_line : (end : LineEnd) → IsLine (return_of end)
return_line crlf = (λ e. omega (arith, e), tt)
return_line lf = tt

-- ---- header lines

-- a header line without its line feed
abbrev pub field_text : Field → List ℕ
field_text f = f.name ++ 58 ∷ (f.raw ++ return_of f.end)

pub field_is : (f : Field) (rest : List ℕ) → print_field f ++ rest ≡ field_text f ++ 10 ∷ rest
field_is f rest = regroup f.name f.raw (print_end f.end) rest ∙ ap (λ (l : List ℕ). f.name ++ 58 ∷ (f.raw ++ l)) (end_is f.end rest) ∙ group f.name f.raw (return_of f.end) (10 ∷ rest)
  where
    regroup : (a b c d : List ℕ) → (a ++ 58 ∷ b ++ c) ++ d ≡ a ++ 58 ∷ (b ++ (c ++ d))
    regroup a b c d = simp append_assoc

    group : (a b c d : List ℕ) → a ++ 58 ∷ (b ++ (c ++ d)) ≡ (a ++ 58 ∷ (b ++ c)) ++ d
    group a b c d = simp append_assoc

token_no_feed : is_token_byte 10 ≡ false
unfolding is_token_byte
token_no_feed = refl

pub token_line : (bytes : List ℕ) → AllPass is_token_byte bytes → IsLine bytes
token_line bytes pass = class_line is_token_byte token_no_feed bytes pass

pub value_line : (bytes : List ℕ) → AllPass is_value_byte bytes → IsLine bytes
value_line bytes pass = class_line is_value_byte refl bytes pass

pub field_line : (f : Field) → IsField f → IsLine (field_text f)
field_line f is =
    line-append f.name (58 ∷ (f.raw ++ return_of f.end)) (token_line f.name is.name.1)
    (λ e. omega (arith, e), line-append f.raw (return_of f.end) (value_line f.raw is.raw) (return_line f.end))

pub fields_step : (f : Field) (fs : List Field) (rest : List ℕ) → flat_map print_field (f ∷ fs) ++ rest ≡ field_text f ++ 10 ∷ (flat_map print_field fs ++ rest)
fields_step f fs rest = append_assoc (print_field f) (flat_map print_field fs) rest ∙ field_is f (flat_map print_field fs ++ rest)

-- each header line has one line feed
pub feeds_fields : (fs : List Field) (rest : List ℕ) → All IsField fs → line_feeds (flat_map print_field fs ++ rest) ≡ length fs + line_feeds rest
feeds_fields [] rest each = omega arith
feeds_fields (f ∷ fs) rest each =
    let step : line_feeds (flat_map print_field (f ∷ fs) ++ rest) ≡ 1 + line_feeds (flat_map print_field fs ++ rest) =
    ap line_feeds (fields_step f fs rest) ∙ feeds_line (field_text f) (flat_map print_field fs ++ rest) (field_line f (All-head IsField f fs each)) in
    omega (arith, step, feeds_fields fs rest (All-tail IsField f fs each))

-- so many whole header lines at the front
pub record HasLines (count : ℕ) (w : List ℕ) : Type 0 where
  pub fields : List Field
  pub each : All IsField fields
  pub count_is : length fields ≡ count
  pub rest : List ℕ
  pub bytes_are : w ≡ flat_map print_field fields ++ rest

one_more : (f : Field) (k : ℕ) (w : List ℕ) → IsField f → HasLines k w → HasLines (k + 1) (field_text f ++ 10 ∷ w)
one_more f k w is h = record {
  fields = f ∷ h.fields;
  each = All-cons IsField f h.fields is h.each;
  count_is = omega (arith, h.count_is);
  rest = h.rest;
  bytes_are = ap (λ (l : List ℕ). field_text f ++ 10 ∷ l) h.bytes_are ∙ sym (fields_step f h.fields h.rest);
}

-- bytes that begin a section, with so many line feeds, hold so many whole header lines, or the whole section
pub whole_lines : (k : ℕ) (fs : List Field) (last : LineEnd) (w more : List ℕ) → All IsField fs → w ++ more ≡ flat_map print_field fs ++ (print_end last ++ []) → k ≤ line_feeds w
    → HasLines k w ⊎ ((rest : List ℕ) × (w ≡ flat_map print_field fs ++ (print_end last ++ rest)))
whole_lines zero fs last w more each e enough =
    inl (record { fields = []; each = All-nil IsField; count_is = refl; rest = w; bytes_are = refl })
whole_lines (suc k) [] last w more each e enough =
    let line = whole_line (return_of last) w more [] (return_line last) (e ∙ end_is last []) (omega arith) in
    inr (line.0, line.1 ∙ sym (end_is last line.0))
whole_lines (suc k) (f ∷ fs) last w more each e enough =
    let is = All-head IsField f fs each in
    let line = whole_line (field_text f) w more (flat_map print_field fs ++ (print_end last ++ [])) (field_line f is) (e ∙ fields_step f fs (print_end last ++ [])) (omega arith) in
    let left : k ≤ line_feeds line.0 = omega (arith, enough, ap line_feeds line.1, feeds_line (field_text f) line.0 (field_line f is)) in
    elim (whole_lines k fs last line.0 more (All-tail IsField f fs each) line.2 left) [
      | inl lines ↦ inl (subst (HasLines (suc k)) (sym line.1) (add_one lines))
      | inr section ↦ inr (section.0, line.1 ∙ ap (λ (l : List ℕ). field_text f ++ 10 ∷ l) section.1 ∙ sym (fields_step f fs (print_end last ++ section.0)))
    ]
  where
    add_one : {w : List ℕ} → HasLines k w → HasLines (suc k) (field_text f ++ 10 ∷ w)
    add_one {w} h = let e : k + 1 ≡ suc k = omega arith in subst (λ (n : ℕ). HasLines n (field_text f ++ 10 ∷ w)) e (one_more f k w (All-head IsField f fs each) h)

-- ---- empty lines

-- bytes that begin with another byte than a newline's have no empty lines at their front
pub no_empty_lines : (t : List ℕ) → Stops is_newline t → behind_empty_lines t ≡ t
no_empty_lines [] stops = refl
no_empty_lines (a ∷ []) stops = by_test (a == 13) (a == 10) stops
  where
    by_test : (r f : Bool) → (r || f) ≡ false → cond f [] (a ∷ []) ≡ a ∷ []
    by_test true f x = absurd (cc)
    by_test false true x = absurd (cc)
    by_test false false x = refl
no_empty_lines (a ∷ b ∷ t) stops = by_test (a == 13) (a == 10) stops
  where
    by_test : (r f : Bool) → (r || f) ≡ false → cond f (behind_empty_lines (b ∷ t)) (cond (r && (b == 10)) (behind_empty_lines t) (a ∷ b ∷ t)) ≡ a ∷ b ∷ t
    by_test true f x = absurd (cc)
    by_test false true x = absurd (cc)
    by_test false false x = refl

empty_feed : (t : List ℕ) → behind_empty_lines (10 ∷ t) ≡ behind_empty_lines t
empty_feed [] = refl
empty_feed (b ∷ t) = refl

pub behind_blank : (ends : List LineEnd) (t : List ℕ) → behind_empty_lines (print_blank ends ++ t) ≡ behind_empty_lines t
behind_blank [] t = refl
behind_blank (crlf ∷ ends) t = behind_blank ends t
behind_blank (lf ∷ ends) t = empty_feed (print_blank ends ++ t) ∙ behind_blank ends t

-- bytes that begin as empty lines do, with a line feed behind these, begin with all of them
pub whole_blank : (ends : List LineEnd) (w more t : List ℕ) → w ++ more ≡ print_blank ends ++ t → 1 ≤ line_feeds (behind_empty_lines w)
    → (rest : List ℕ) × (w ≡ print_blank ends ++ rest) × (rest ++ more ≡ t)
whole_blank [] w more t e some = (w, refl, e)
whole_blank (crlf ∷ ends) [] more t e some = absurd (omega arith)
whole_blank (crlf ∷ ends) (a ∷ []) more t e some =
    let first : a ≡ 13 = cc in
    let none : line_feeds (behind_empty_lines (13 ∷ [])) ≡ 0 = refl in
    absurd (omega (arith, some, ap (λ (v : ℕ). line_feeds (behind_empty_lines (v ∷ []))) first, none))
whole_blank (crlf ∷ ends) (a ∷ b ∷ w) more t e some =
    let first : a ≡ 13 = cc in
    let second : b ≡ 10 = cc in
    let tails : w ++ more ≡ print_blank ends ++ t = cc in
    let shown : behind_empty_lines (a ∷ b ∷ w) ≡ behind_empty_lines w = (λ i. behind_empty_lines (first i ∷ second i ∷ w)) in
    let later = whole_blank ends w more t tails (omega (arith, some, ap line_feeds shown)) in
    (later.0, λ i. first i ∷ second i ∷ later.1 i, later.2)
whole_blank (lf ∷ ends) [] more t e some = absurd (omega arith)
whole_blank (lf ∷ ends) (a ∷ w) more t e some =
    let first : a ≡ 10 = cc in
    let tails : w ++ more ≡ print_blank ends ++ t = cc in
    let shown : behind_empty_lines (a ∷ w) ≡ behind_empty_lines w = ap (λ (v : ℕ). behind_empty_lines (v ∷ w)) first ∙ empty_feed w in
    let later = whole_blank ends w more t tails (omega (arith, some, ap line_feeds shown)) in
    (later.0, λ i. first i ∷ later.1 i, later.2)
