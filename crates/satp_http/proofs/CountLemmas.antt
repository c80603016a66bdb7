-- More than 64 header lines, by the line feeds that the code counts.
use Rattle.std.proofs.Common.{◌≡◌, ℕ, ◌+◌, ◌<◌, ◌≤◌, inl, inr, true, false, List, [], ◌∷◌, ◌++◌, length, refl, ap, ◌∙◌, sym, subst, arith, append_assoc}
use Rattle.std.specs.Prelude.{All}
use Rattle.std.specs.List.{flat_map}
use Rattle.std.proofs.lemmas.Bool.{ltb-true, lt-ltb, both_ways}
use Rattle.httparse.specs.Grammar.{print_blank, print_field, Field, IsField, is_uri_byte}
use Rattle.httparse.specs.Pieces.{Stops, is_newline}
use Rattle.httparse.proofs.PieceLemmas.{Stops_token}
use Rattle.std.proofs.lemmas.List.{append_cancel_right}
use Rattle.satp_http.specs.Found.{behind_empty_lines, line_feeds, has_many_lines}
use Rattle.satp_http.specs.Heads.{Sender, client, server, Head, IsGrammatical, head_bytes, header_lines, HasNone, HasOver, MayBecome, EndsWithin}
use Rattle.satp_http.proofs.LineLemmas.{whole_blank, whole_line, whole_lines, behind_blank, no_empty_lines, feeds_line, feeds_fields, no_feeds, line-append, token_line, class_line, return_of, end_is}
use Rattle.satp_http.proofs.HeadParts.{blank_of, start_of, last_of, head_is, start_line, start_stops, with_lines, with_lines_grammatical, lines_with, bytes_with, fields_of_grammar}

-- the line feeds of a head whose lines are there
pub feeds_behind : (by : Sender) (head : Head by) (fields : List Field) (rest : List ℕ) → IsGrammatical by head → All IsField fields
    → line_feeds (behind_empty_lines (print_blank (blank_of by head) ++ (start_of by head ++ 10 ∷ (flat_map print_field fields ++ rest)))) ≡ 1 + (length fields + line_feeds rest)
feeds_behind by head fields rest is each =
    let t = start_of by head ++ 10 ∷ (flat_map print_field fields ++ rest) in
    let shown : behind_empty_lines (print_blank (blank_of by head) ++ t) ≡ t = behind_blank (blank_of by head) t ∙ no_empty_lines t (start_stops by head (10 ∷ (flat_map print_field fields ++ rest)) is) in
    ap line_feeds shown ∙ feeds_line (start_of by head) (flat_map print_field fields ++ rest) (start_line by head is) ∙ ap (λ (n : ℕ). 1 + n) (feeds_fields fields rest each)

-- the front of a head that wants its last line feed alone
pub front_is : (by : Sender) (head : Head by) (front : List ℕ) → front ++ 10 ∷ [] ≡ head_bytes by head ++ []
    → front ≡ print_blank (blank_of by head) ++ (start_of by head ++ 10 ∷ (flat_map print_field (header_lines by head) ++ return_of (last_of by head)))
front_is by head front e =
    cut front _ (e ∙ head_is by head [] ∙ ap (λ (l : List ℕ). print_blank (blank_of by head) ++ (start_of by head ++ 10 ∷ (flat_map print_field (header_lines by head) ++ l))) (end_is (last_of by head) []) ∙ regroup (print_blank (blank_of by head)) (start_of by head) (flat_map print_field (header_lines by head)) (return_of (last_of by head)))
  where
    regroup : (a s f c : List ℕ) → a ++ (s ++ 10 ∷ (f ++ (c ++ 10 ∷ []))) ≡ (a ++ (s ++ 10 ∷ (f ++ c))) ++ 10 ∷ []
    regroup a s f c = simp append_assoc

    cut : (x y : List ℕ) → x ++ 10 ∷ [] ≡ y ++ 10 ∷ [] → x ≡ y
    cut x y same = append_cancel_right x y (10 ∷ []) same

-- with more lines than 64 there are more line feeds than 65
pub over_feeds : (by : Sender) (w : List ℕ) → HasOver by 64 w → 65 < line_feeds (behind_empty_lines w)
over_feeds by w over =
    let head = over.3 in
    let is = over.4.0 in
    let rest = return_of (last_of by head) ++ over.1 in
    let front = front_is by head over.0 over.4.1 in
    let all : w ≡ print_blank (blank_of by head) ++ (start_of by head ++ 10 ∷ (flat_map print_field (header_lines by head) ++ rest)) =
    over.2 ∙ ap (λ (l : List ℕ). l ++ over.1) front ∙ regroup (print_blank (blank_of by head)) (start_of by head) (flat_map print_field (header_lines by head)) (return_of (last_of by head)) over.1 in
    omega (arith, over.5, ap (λ (l : List ℕ). line_feeds (behind_empty_lines l)) all, feeds_behind by head (header_lines by head) rest is (fields_of_grammar by head is))
  where
    regroup : (a s f c r : List ℕ) → (a ++ (s ++ 10 ∷ (f ++ c))) ++ r ≡ a ++ (s ++ 10 ∷ (f ++ (c ++ r)))
    regroup a s f c r = simp append_assoc

-- bytes that end within a target have no line feed behind the empty lines
no_feeds_within : (by : Sender) (w : List ℕ) → EndsWithin by w → line_feeds (behind_empty_lines w) ≡ 0
no_feeds_within client w within =
    let blank = within.0 in
    let method = within.1 in
    let target = within.2 in
    let t : List ℕ = method ++ 32 ∷ target in
    let shown : behind_empty_lines w ≡ t = ap behind_empty_lines (within.5 ∙ append_assoc (print_blank blank) method (32 ∷ target)) ∙ behind_blank blank t ∙ no_empty_lines t (Stops_token method (32 ∷ target) within.3.0 within.3.1) in
    ap line_feeds shown ∙ no_feeds t (line-append method (32 ∷ target) (token_line method within.3.1) (λ e. omega (arith, e), class_line is_uri_byte refl target within.4))
no_feeds_within server w within = absurd within

-- bytes that begin a head, with more line feeds than 65, have more header lines than 64
pub feeds_over : (by : Sender) (w : List ℕ) → MayBecome by w → HasNone by w → 65 < line_feeds (behind_empty_lines w) → HasOver by 64 w
feeds_over by w begun none many = elim begun [
  | inl part ↦
      let more = part.0 in
      let head = part.1 in
      let is = part.2.0 in
      let fields = header_lines by head in
      let each = fields_of_grammar by head is in
      let all = part.2.1 ∙ head_is by head [] in
      let blank = whole_blank (blank_of by head) w more _ all (omega arith) in
      let behind = stops_shown blank.0 more _ (start_stops by head _ is) blank.2 (ap (λ (l : List ℕ). line_feeds (behind_empty_lines l)) blank.1 ∙ ap line_feeds (behind_blank (blank_of by head) blank.0)) (omega arith) in
      let start = whole_line (start_of by head) blank.0 more _ (start_line by head is) blank.2 (omega (arith, behind)) in
      let left : 65 ≤ line_feeds start.0 = omega (arith, many, behind, ap line_feeds start.1, feeds_line (start_of by head) start.0 (start_line by head is)) in
      let front = λ (l : List ℕ). print_blank (blank_of by head) ++ (start_of by head ++ 10 ∷ l) in
      let here : w ≡ front start.0 = blank.1 ∙ ap (λ (l : List ℕ). print_blank (blank_of by head) ++ l) start.1 in
      elim (whole_lines 65 fields (last_of by head) start.0 more each start.2 left) [
        | inl lines ↦ (
          front (flat_map print_field lines.fields),
          lines.rest,
          here ∙ ap front lines.bytes_are ∙ regroup (print_blank (blank_of by head)) (start_of by head) (flat_map print_field lines.fields) lines.rest,
          with_lines by head lines.fields,
          (with_lines_grammatical by head lines.fields is lines.each, sym (bytes_with by head lines.fields ∙ regroup (print_blank (blank_of by head)) (start_of by head) (flat_map print_field lines.fields) (10 ∷ []))),
          omega (arith, lines.count_is, ap length (lines_with by head lines.fields)),
        )
        | inr section ↦ absurd (none head section.0 (is, here ∙ ap front section.1 ∙ sym (head_is by head section.0)))
      ]
  | inr within ↦ absurd (omega (arith, many, no_feeds_within by w within))
]
  where
    regroup : (a s f r : List ℕ) → a ++ (s ++ 10 ∷ (f ++ r)) ≡ (a ++ (s ++ 10 ∷ f)) ++ r
    regroup a s f r = simp append_assoc

    -- what stands behind the empty lines has the line feeds that were counted
    stops_shown : (r more t : List ℕ) → Stops is_newline t → r ++ more ≡ t → line_feeds (behind_empty_lines w) ≡ line_feeds (behind_empty_lines r) → 1 ≤ line_feeds (behind_empty_lines w) → line_feeds (behind_empty_lines w) ≡ line_feeds r
    stops_shown [] more t stops e same some = same
    stops_shown (b ∷ r) more t stops e same some = same ∙ ap line_feeds (no_empty_lines (b ∷ r) (subst (Stops is_newline) (sym e) stops))

pub many_over : (by : Sender) (w : List ℕ) → MayBecome by w → HasNone by w → has_many_lines w ≡ true → HasOver by 64 w
many_over by w begun none many = feeds_over by w begun none (ltb-true 65 (line_feeds (behind_empty_lines w)) many)

pub few_not_over : (by : Sender) (w : List ℕ) → has_many_lines w ≡ false → ¬ (HasOver by 64 w)
few_not_over by w few over = both_ways (has_many_lines w) few (lt-ltb 65 (line_feeds (behind_empty_lines w)) (over_feeds by w over))
