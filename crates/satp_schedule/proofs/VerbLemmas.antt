-- The sorts of lines: what a line's first field and the number of its fields tell.
use Rattle.std.proofs.Common.{◌≡◌, ◌≢◌, ℕ, true, cond, List, [], ◌∷◌, ◌++◌, length, nat_eq, refl, ap, sym, ◌∙◌, arith, append-nil, length-append}
use Rattle.std.specs.Prelude.{codes}
use Rattle.std.specs.List.{join_with_byte}
use lib.Pointwise.{pointwise}
use Rattle.satp_schedule.specs.Fields.{cut_fields}
use Rattle.satp_schedule.specs.Lines.{fields_of, has_form, line_text}
use Rattle.satp_schedule.specs.Transfers.{transfer_fields}
use Rattle.satp_schedule.specs.Verbs.{Begins, BeginsNone, fields_behind, verb_of, verb_text}
use Rattle.satp_schedule.specs.declared.line.Line.{Line}
use Rattle.satp_schedule.specs.declared.line.Line.TheVariants as line
use Rattle.satp_schedule.specs.declared.parse.Transfer.{Transfer}
use Rattle.satp_schedule.specs.declared.verb.Verb.{Verb}
use Rattle.satp_schedule.specs.declared.verb.Verb.TheVariants.{Start, Resume, Recover, Abort, Deliver, Stop, Fail, Lose, Twice}
use Rattle.satp_schedule.proofs.FieldLemmas.{fields_of_line, joined}

pub tail_same : {x y : List ℕ} {xs ys : List (List ℕ)} → x ∷ xs ≡ y ∷ ys → xs ≡ ys
tail_same e = cc

pub head_same : {x y : List ℕ} {xs ys : List (List ℕ)} → x ∷ xs ≡ y ∷ ys → x ≡ y
head_same e = cc

-- ---- the verb that a word is

abbrev word_verb : List ℕ → Verb
word_verb text =
    cond (pointwise nat_eq text (codes "start")) Start
    (cond (pointwise nat_eq text (codes "resume")) Resume
    (cond (pointwise nat_eq text (codes "recover")) Recover
    (cond (pointwise nat_eq text (codes "abort")) Abort
    (cond (pointwise nat_eq text (codes "deliver")) Deliver
    (cond (pointwise nat_eq text (codes "stop")) Stop
    (cond (pointwise nat_eq text (codes "fail")) Fail
    (cond (pointwise nat_eq text (codes "lose")) Lose Twice)))))))

word_is : (verb : Verb) → word_verb (verb_text verb) ≡ verb
word_is Start = refl
word_is Resume = refl
word_is Recover = refl
word_is Abort = refl
word_is Deliver = refl
word_is Stop = refl
word_is Fail = refl
word_is Lose = refl
word_is Twice = refl

same_verb : (v w : Verb) → verb_text v ≡ verb_text w → v ≡ w
same_verb v w e = sym (word_is v) ∙ ap word_verb e ∙ word_is w

-- ---- the fields of a line

in_parts : (l : Line) → fields_of l ≡ verb_text (verb_of l) ∷ fields_behind l
in_parts (line.Start side number asset amount originator beneficiary) = refl
in_parts (line.Resume side session) = refl
in_parts (line.Recover side session) = refl
in_parts (line.Abort side session) = refl
in_parts (line.Deliver side n) = refl
in_parts (line.Stop side event pick) = refl
in_parts (line.Fail side call) = refl
in_parts (line.Lose n) = refl
in_parts (line.Twice n) = refl

-- lines of the same fields are of one sort
pub one_sort : (k l : Line) → fields_of k ≡ fields_of l → verb_of k ≡ verb_of l
one_sort k l e = same_verb (verb_of k) (verb_of l) (head_same (sym (in_parts k) ∙ e ∙ in_parts l))

abbrev how_many : Verb → ℕ
how_many Start = 6
how_many Resume = 2
how_many Recover = 2
how_many Abort = 2
how_many Deliver = 2
how_many Stop = 3
how_many Fail = 2
how_many Lose = 1
how_many Twice = 1

as_many : (l : Line) → length (fields_behind l) ≡ how_many (verb_of l)
as_many (line.Start side number asset amount originator beneficiary) = refl
as_many (line.Resume side session) = refl
as_many (line.Recover side session) = refl
as_many (line.Abort side session) = refl
as_many (line.Deliver side n) = refl
as_many (line.Stop side event pick) = refl
as_many (line.Fail side call) = refl
as_many (line.Lose n) = refl
as_many (line.Twice n) = refl

line_fields : (text : List ℕ) (l : Line) → has_form l ≡ true → text ≡ line_text l → cut_fields text ≡ verb_text (verb_of l) ∷ fields_behind l
line_fields text l formed is = ap cut_fields is ∙ fields_of_line l formed ∙ in_parts l

-- a text whose fields begin with those of a line and end there is that line
pub is_line : (text : List ℕ) (fields behind left : List (List ℕ)) (verb : Verb) (l : Line) → fields ≡ cut_fields text → fields ≡ verb_text verb ∷ behind → Begins verb behind l left → left ≡ [] → text ≡ line_text l
is_line text fields behind left verb l cut first b none = sym (joined text) ∙ ap (join_with_byte 32) all
  where
    all : cut_fields text ≡ fields_of l
    all = sym cut ∙ first ∙ ap (λ v. verb_text v ∷ behind) (sym b.sort) ∙ ap (λ fs. verb_text (verb_of l) ∷ fs) (b.read ∙ ap (λ fs. fields_behind l ++ fs) none ∙ append-nil (fields_behind l)) ∙ sym (in_parts l)

pub no_verb : (text : List ℕ) (fields : List (List ℕ)) → fields ≡ cut_fields text → ((verb : Verb) (rest : List (List ℕ)) → fields ≢ verb_text verb ∷ rest) → (l : Line) → has_form l ≡ true → text ≢ line_text l
no_verb text fields cut none l formed is = none (verb_of l) (fields_behind l) (cut ∙ line_fields text l formed is)

-- a line's text begins with its verb, and its other fields stand behind it
record Shown (verb : Verb) (behind : List (List ℕ)) (l : Line) : Type 0 where
  pub sort : verb_of l ≡ verb
  pub read : behind ≡ fields_behind l

shown : (text : List ℕ) (fields behind : List (List ℕ)) (verb : Verb) (l : Line) → fields ≡ cut_fields text → fields ≡ verb_text verb ∷ behind → has_form l ≡ true → text ≡ line_text l → Shown verb behind l
shown text fields behind verb l cut first formed is =
    let both : verb_text verb ∷ behind ≡ verb_text (verb_of l) ∷ fields_behind l = sym first ∙ cut ∙ line_fields text l formed is in
    record { sort = sym (same_verb verb (verb_of l) (head_same both)); read = tail_same both }

pub nothing_behind : (text : List ℕ) (fields behind : List (List ℕ)) (verb : Verb) → fields ≡ cut_fields text → fields ≡ verb_text verb ∷ behind → BeginsNone verb behind → (l : Line) → has_form l ≡ true → text ≢ line_text l
nothing_behind text fields behind verb cut first none l formed is =
    let s = shown text fields behind verb l cut first formed is in
    none l [] (record { sort = s.sort; formed = formed; read = s.read ∙ sym (append-nil (fields_behind l)) })

no_more : (xs left : List (List ℕ)) (n : ℕ) → length xs ≡ n → length (xs ++ left) ≡ n → left ≡ []
no_more xs [] n e f = refl
no_more xs (x ∷ left) n e f = absurd (omega (arith, e, f, length-append xs (x ∷ left)))

pub too_many : (text : List ℕ) (fields behind left : List (List ℕ)) (verb : Verb) (read : Line) → fields ≡ cut_fields text → fields ≡ verb_text verb ∷ behind → Begins verb behind read left → left ≢ []
    → (l : Line) → has_form l ≡ true → text ≢ line_text l
too_many text fields behind left verb read cut first b some l formed is =
    let s = shown text fields behind verb l cut first formed is in
    some (no_more (fields_behind read) left (how_many verb) (as_many read ∙ ap how_many b.sort) (ap length (sym b.read ∙ s.read) ∙ as_many l ∙ ap how_many s.sort))

-- ---- transfers

pub no_transfer : (fields behind : List (List ℕ)) (first second : List ℕ) → fields ≡ first ∷ second ∷ behind → ((transfer : Transfer) (left : List (List ℕ)) → behind ≢ transfer_fields transfer ++ left) → BeginsNone Start fields
no_transfer fields behind first second is none (line.Start side number asset amount originator beneficiary) left b =
    none (record { asset = asset; amount = amount; originator = originator; beneficiary = beneficiary }) left (tail_same (tail_same (sym is ∙ b.read)))
no_transfer fields behind first second is none (line.Resume side session) left b = absurd (let bad = b.sort in cc)
no_transfer fields behind first second is none (line.Recover side session) left b = absurd (let bad = b.sort in cc)
no_transfer fields behind first second is none (line.Abort side session) left b = absurd (let bad = b.sort in cc)
no_transfer fields behind first second is none (line.Deliver side n) left b = absurd (let bad = b.sort in cc)
no_transfer fields behind first second is none (line.Stop side event pick) left b = absurd (let bad = b.sort in cc)
no_transfer fields behind first second is none (line.Fail side call) left b = absurd (let bad = b.sort in cc)
no_transfer fields behind first second is none (line.Lose n) left b = absurd (let bad = b.sort in cc)
no_transfer fields behind first second is none (line.Twice n) left b = absurd (let bad = b.sort in cc)
