-- Bytes have one reading, and more bytes change no fault.
use Rattle.std.proofs.Common.{◌≡◌, ℕ, ◌-◌, ◌<◌, inl, inr, List, [], ◌∷◌, ◌++◌, length, take, drop, refl, ap, ◌∙◌, sym, subst, arith, append_assoc, Option, Some, None}
use Rattle.std.specs.List.{flat_map}
use Rattle.std.proofs.lemmas.List.{append-nil, length-append, take-append-drop, take-append-le}
use Rattle.std.proofs.lemmas.Bool.{cases_lt}
use Rattle.httparse.specs.Grammar.{print_blank, print_end, print_field}
use Rattle.httparse.specs.Pieces.{SectionOfAtMost, Begins}
use Rattle.httparse.proofs.PieceLemmas.{Blank_deterministic, Never_elim}
use Rattle.httparse.proofs.ReadLemmas.{SectionOfAtMost_overflow}
use Rattle.satp_http.specs.declared.fault.HttpFault.{HttpFault}
use Rattle.satp_http.specs.declared.fault.HttpFault.TheVariants as fault
use Rattle.satp_http.specs.Heads.{Sender, client, server, Head, head_bytes, header_lines, Reads, HasNone, NeverHas, HasOver, EndsWithin, MayBecome}
use Rattle.satp_http.specs.Table.{table, first_fault, body_length, interim_after}
use Rattle.satp_http.specs.HttpText.{HttpText, Sent, sent_bytes, IsSent, AreSent, interim_behind, IsHead, IsPart, IsUnfinished, HasNoHead, HasFault, Ends, window, requests_of, answers_of}
use Rattle.satp_http.specs.Laws.{IsSameEnd, OneReadingOfRequests, OneReadingOfAnswers}
use Rattle.satp_http.proofs.WindowLemmas.{split, window_of, grown, take_whole}
use Rattle.satp_http.proofs.LineLemmas.{return_of, same_line}
use Rattle.satp_http.proofs.HeadParts.{blank_of, start_of, last_of, head_is, start_line, start_stops, fields_of_grammar, one_head}
use Rattle.satp_http.proofs.CountLemmas.{front_is}

-- ---- heads

-- with too many lines, a head has them however the bytes go on
overflows : (by : Sender) (w more : List ℕ) (head : Head by) (rest : List ℕ) → HasOver by 64 w → Reads by (w ++ more) head rest → 64 < length (header_lines by head)
overflows by w more head rest over reads =
    let k = over.3 in
    let front = front_is by k over.0 over.4.1 in
    let z = return_of (last_of by k) ++ (over.1 ++ more) in
    let y = flat_map print_field (header_lines by k) ++ z in
    let mine : w ++ more ≡ print_blank (blank_of by k) ++ (start_of by k ++ 10 ∷ y) =
    ap (λ (l : List ℕ). l ++ more) (over.2 ∙ ap (λ (l : List ℕ). l ++ over.1) front) ∙ regroup (print_blank (blank_of by k)) (start_of by k) (flat_map print_field (header_lines by k)) (return_of (last_of by k)) over.1 more in
    let other = reads.1 ∙ head_is by head rest in
    let starts = Blank_deterministic.unique (blank_of by k) (blank_of by head) (w ++ more) _ _ (mine, start_stops by k (10 ∷ y) over.4.0) (other, start_stops by head _ reads.0) in
    let sections = (same_line (start_of by k) (start_of by head) y _ (start_line by k over.4.0) (start_line by head reads.0) starts.1).1 in
    let never = SectionOfAtMost_overflow 64 (header_lines by k) y z (fields_of_grammar by k over.4.0, refl) over.5 in
    elim (cases_lt 64 (length (header_lines by head))) [
      | inl many ↦ many
      | inr few ↦ absurd (Never_elim never [] (subst (Begins (SectionOfAtMost 64)) (sym sections ∙ sym (append-nil y)) ((header_lines by head, last_of by head), rest, ((fields_of_grammar by head reads.0, sym (append_assoc (flat_map print_field (header_lines by head)) (print_end (last_of by head)) rest)), few))))
    ]
  where
    regroup : (a s f c r m : List ℕ) → ((a ++ (s ++ 10 ∷ (f ++ c))) ++ r) ++ m ≡ a ++ (s ++ 10 ∷ (f ++ (c ++ (r ++ m))))
    regroup a s f c r m = simp append_assoc

-- where a head within the limits stands, no fault says that none does
head_not_missing : (by : Sender) (head : Head by) (bytes rest : List ℕ) (f : HttpFault) → IsHead by head → bytes ≡ head_bytes by head ++ rest → HasNoHead by bytes f → ⊥
head_not_missing by head bytes rest fault.Head is e never =
    never (drop 8192 bytes) head rest (is.parts, take-append-drop 8192 bytes ∙ e)
head_not_missing by head bytes rest fault.ManyHeaders is e over =
    let many = overflows by (window bytes) (drop 8192 bytes) head rest over (is.parts, take-append-drop 8192 bytes ∙ e) in
    omega (arith, many, is.few)
head_not_missing by head bytes rest fault.HeadLong is e long =
    long.1 head (take (8192 - length (head_bytes by head)) rest) (is.parts, ap window e ∙ window_of 8192 (head_bytes by head) rest is.short)
head_not_missing by head bytes rest f is e none = none

-- ---- one list

front : (by : Sender) (n : ℕ) (s : Sent by) (bytes rest : List ℕ) → IsSent by n s → bytes ≡ sent_bytes by s ++ rest → Reads by bytes s.head (s.body ++ rest)
front by n s bytes rest is e = (is.head.parts, e ∙ append_assoc (head_bytes by s.head) s.body rest)

same_sent : (by : Sender) (n : ℕ) (s t : Sent by) (r q : List ℕ) → IsSent by n s → IsSent by n t → sent_bytes by s ++ r ≡ sent_bytes by t ++ q → (s ≡ t) × (r ≡ q)
same_sent by n s t r q is it e =
    let heads = one_head by (sent_bytes by s ++ r) s.head t.head (s.body ++ r) (t.body ++ q) (front by n s (sent_bytes by s ++ r) r is refl) (front by n t (sent_bytes by s ++ r) q it e) in
    let bodies = split s.body t.body r q (is.body ∙ ap (body_length by) heads.0 ∙ sym it.body) heads.1 in
    (λ i. record { head = heads.0 i; body = bodies.0 i }, bodies.1)

-- one row is the first
same_row : (by : Sender) (n : ℕ) (h k : Head by) (a b : Option HttpFault) → h ≡ k → first_fault (table by n h) ≡ a → first_fault (table by n k) ≡ b → a ≡ b
same_row by n h k a b same x y = sym x ∙ ap (λ (l : Head by). first_fault (table by n l)) same ∙ y

-- a whole request or answer is no end
no_end : (by : Sender) (n : ℕ) (t : Sent by) (bytes rest : List ℕ) (end : Option HttpFault) → IsSent by n t → bytes ≡ sent_bytes by t ++ rest → Ends by n bytes end → ⊥
no_end by n t bytes rest None it e = elim [
  | inl part ↦ part.none t.head (t.body ++ rest) (front by n t bytes rest it e)
  | inr waits ↦
      let one = one_head by bytes t.head waits.0 (t.body ++ rest) waits.1.rest (front by n t bytes rest it e) (waits.1.head_is.parts, waits.1.bytes_are) in
      omega (arith, ap length one.1, length-append t.body rest, waits.1.less, it.body, ap (body_length by) one.0)
]
no_end by n t bytes rest (Some f) it e = elim [
  | inl none ↦ head_not_missing by t.head bytes (t.body ++ rest) f it.head (front by n t bytes rest it e).1 none
  | inr bad ↦
      let one = one_head by bytes t.head bad.0 (t.body ++ rest) bad.1 (front by n t bytes rest it e) (bad.2.parts, bad.3) in
      let row : None ≡ Some f = same_row by n t.head bad.0 None (Some f) one.0 it.clean bad.4 in
      cc
]

same_lists : (by : Sender) (n : ℕ) (sent others : List (Sent by)) (rest other : List ℕ) (end ended : Option HttpFault) → AreSent by n sent → AreSent by n others
    → flat_map (sent_bytes by) sent ++ rest ≡ flat_map (sent_bytes by) others ++ other → Ends by (interim_behind by n sent) rest end → Ends by (interim_behind by n others) other ended
    → (sent ≡ others) × (rest ≡ other)
same_lists by n [] [] rest other end ended each all e x y = (refl, e)
same_lists by n [] (t ∷ ts) rest other end ended each all e x y =
    absurd (no_end by n t rest (flat_map (sent_bytes by) ts ++ other) end all.0 (e ∙ append_assoc (sent_bytes by t) (flat_map (sent_bytes by) ts) other) x)
same_lists by n (s ∷ ss) [] rest other end ended each all e x y =
    absurd (no_end by n s other (flat_map (sent_bytes by) ss ++ rest) ended each.0 (sym e ∙ append_assoc (sent_bytes by s) (flat_map (sent_bytes by) ss) rest) y)
same_lists by n (s ∷ ss) (t ∷ ts) rest other end ended each all e x y =
    let one = same_sent by n s t (flat_map (sent_bytes by) ss ++ rest) (flat_map (sent_bytes by) ts ++ other) each.0 all.0 (sym (append_assoc (sent_bytes by s) (flat_map (sent_bytes by) ss) rest) ∙ e ∙ append_assoc (sent_bytes by t) (flat_map (sent_bytes by) ts) other) in
    let back : t ≡ s = sym one.0 in
    let them : AreSent by (interim_after by n s.head) ts = subst (λ (v : Sent by). AreSent by (interim_after by n v.head) ts) back all.1 in
    let behind : Ends by (interim_behind by (interim_after by n s.head) ts) other ended = subst (λ (v : Sent by). Ends by (interim_behind by (interim_after by n v.head) ts) other ended) back y in
    let more = same_lists by (interim_after by n s.head) ss ts rest other end ended each.1 them one.1 x behind in
    (λ i. one.0 i ∷ more.0 i, more.1)

-- ---- one end

-- bytes without a head and without too many lines, where none will ever stand, end within a target
judged_late : (by : Sender) (bytes : List ℕ) (f : HttpFault) → IsPart by bytes → HasNoHead by bytes f → (f ≡ fault.Head) × EndsWithin by bytes × NeverHas by (window bytes)
judged_late by bytes fault.Head part never =
    let all : window bytes ≡ bytes = take_whole 8192 bytes (omega (arith, part.short)) in
    elim (part.begun) [
      | inl may ↦ absurd (never may.0 may.1 [] (may.2.0, ap (λ (l : List ℕ). l ++ may.0) all ∙ may.2.1))
      | inr within ↦ (refl, within, never)
    ]
judged_late by bytes fault.ManyHeaders part over =
    absurd (part.few (subst (HasOver by 64) (take_whole 8192 bytes (omega (arith, part.short))) over))
judged_late by bytes fault.HeadLong part long = absurd (omega (arith, part.short, long.0))
judged_late by bytes f part none = absurd none

unfinished_or_fault : (by : Sender) (n : ℕ) (bytes : List ℕ) (f : HttpFault) → IsUnfinished by n bytes → HasFault by n bytes f → (f ≡ fault.Head) × EndsWithin by bytes × NeverHas by (window bytes)
unfinished_or_fault by n bytes f unfinished has = elim unfinished [
  | inl part ↦ elim has [
    | inl none ↦ judged_late by bytes f part none
    | inr bad ↦ absurd (part.none bad.0 bad.1 (bad.2.parts, bad.3))
  ]
  | inr waits ↦ elim has [
    | inl none ↦ absurd (head_not_missing by waits.0 bytes waits.1.rest f waits.1.head_is waits.1.bytes_are none)
    | inr bad ↦
        let one = one_head by bytes waits.0 bad.0 waits.1.rest bad.1 (waits.1.head_is.parts, waits.1.bytes_are) (bad.2.parts, bad.3) in
        let row : None ≡ Some f = same_row by n waits.0 bad.0 None (Some f) one.0 waits.1.clean bad.4 in
        absurd (cc)
  ]
]

same_ends : (by : Sender) (n : ℕ) (bytes : List ℕ) (end other : Option HttpFault) → Ends by n bytes end → Ends by n bytes other → IsSameEnd by bytes end other
same_ends by n bytes None None x y = inl refl
same_ends by n bytes None (Some f) x y =
    let late = unfinished_or_fault by n bytes f x y in
    inr (inr (late.1, late.2, inl (refl, ap (λ (g : HttpFault). Some g) late.0)))
same_ends by n bytes (Some f) None x y =
    let late = unfinished_or_fault by n bytes f y x in
    inr (inr (late.1, late.2, inr (ap (λ (g : HttpFault). Some g) late.0, refl)))
same_ends by n bytes (Some f) (Some g) x y = elim x [
  | inl none ↦ elim y [
    | inl nil ↦ inr (inl (f, g, refl, refl, none, nil))
    | inr bad ↦ absurd (head_not_missing by bad.0 bytes bad.1 f bad.2 bad.3 none)
  ]
  | inr bad ↦ elim y [
    | inl none ↦ absurd (head_not_missing by bad.0 bytes bad.1 g bad.2 bad.3 none)
    | inr ill ↦ inl (same_row by n bad.0 ill.0 (Some f) (Some g) (one_head by bytes bad.0 ill.0 bad.1 ill.1 (bad.2.parts, bad.3) (ill.2.parts, ill.3)).0 bad.4 ill.4)
  ]
]

one_reading : (by : Sender) (sent others : List (Sent by)) (end other : Option HttpFault) (bytes : List ℕ) → (x : HttpText by sent end bytes) → HttpText by others other bytes → (sent ≡ others) × IsSameEnd by x.rest end other
one_reading by sent others end other bytes x y =
    let same = same_lists by 0 sent others x.rest y.rest end other x.each y.each (sym x.bytes_are ∙ y.bytes_are) x.ends y.ends in
    let there : Ends by (interim_behind by 0 sent) x.rest other =
    subst (λ (l : List ℕ). Ends by (interim_behind by 0 sent) l other) (sym same.1) (subst (λ (l : List (Sent by)). Ends by (interim_behind by 0 l) y.rest other) (sym same.0) y.ends) in
    (same.0, same_ends by (interim_behind by 0 sent) x.rest end other x.ends there)

pub one_reading_of_requests : OneReadingOfRequests
one_reading_of_requests requests others end other bytes x y =
    let same = one_reading client x.0 y.0 end other bytes x.2 y.2 in
    (x.1 ∙ ap requests_of same.0 ∙ sym y.1, same.1)

pub one_reading_of_answers : OneReadingOfAnswers
one_reading_of_answers answers others end other bytes x y =
    let same = one_reading server x.0 y.0 end other bytes x.2 y.2 in
    (x.1 ∙ ap answers_of same.0 ∙ sym y.1, same.1)

-- ---- more bytes

never_stays : (by : Sender) (w more : List ℕ) → NeverHas by w → NeverHas by (w ++ more)
never_stays by w more never later head rest reads = never (more ++ later) head rest (subst (λ (l : List ℕ). Reads by l head rest) (append_assoc w more later) reads)

over_stays : (by : Sender) (w more : List ℕ) → HasOver by 64 w → HasOver by 64 (w ++ more)
over_stays by w more over = (over.0, over.1 ++ more, ap (λ l. l ++ more) over.2 ∙ append_assoc over.0 over.1 more, over.3, over.4, over.5)

no_head_stays : (by : Sender) (bytes more : List ℕ) (f : HttpFault) → HasNoHead by bytes f → HasNoHead by (bytes ++ more) f
no_head_stays by bytes more fault.Head never = (let g = grown 8192 bytes more in subst (NeverHas by) (sym g.1) (never_stays by (window bytes) g.0 never))
no_head_stays by bytes more fault.ManyHeaders over = (let g = grown 8192 bytes more in subst (HasOver by 64) (sym g.1) (over_stays by (window bytes) g.0 over))
no_head_stays by bytes more fault.HeadLong long =
    let same = sym (take-append-le 8192 bytes more long.0) in
    (omega (arith, long.0, length-append bytes more), subst (HasNone by) same long.1, (λ over. long.2 (subst (HasOver by 64) (sym same) over)), subst (MayBecome by) same long.3)
no_head_stays by bytes more f none = none

pub fault_stays : (by : Sender) (n : ℕ) (bytes more : List ℕ) (f : HttpFault) → HasFault by n bytes f → HasFault by n (bytes ++ more) f
fault_stays by n bytes more f = elim [
  | inl none ↦ inl (no_head_stays by bytes more f none)
  | inr bad ↦ inr (bad.0, bad.1 ++ more, bad.2, ap (λ l. l ++ more) bad.3 ∙ append_assoc _ bad.1 more, bad.4)
]

pub text_stays : (by : Sender) (sent : List (Sent by)) (f : HttpFault) (bytes more : List ℕ) → HttpText by sent (Some f) bytes → HttpText by sent (Some f) (bytes ++ more)
text_stays by sent f bytes more x = record {
  each = x.each;
  rest = x.rest ++ more;
  bytes_are = ap (λ (l : List ℕ). l ++ more) x.bytes_are ∙ append_assoc (flat_map (sent_bytes by) sent) x.rest more;
  ends = fault_stays by (interim_behind by 0 sent) x.rest more f x.ends;
}
