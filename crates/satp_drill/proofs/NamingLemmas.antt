-- The sessions that a schedule names, one line after the other.
use Rattle.std.proofs.Common.{◌≡◌, ℕ, suc, zero, ◌+◌, ◌≤◌, ◌&&◌, ◌||◌, Bool, true, false, cond, List, [], ◌∷◌, ◌++◌, length, take, Option, Some, None, refl, sym, ap, ◌∙◌, arith, add-one}
use Rattle.std.specs.Prelude.{not, nat_le, slice_get, filter}
use Rattle.std.specs.List.{list_all, list_any}
use Rattle.std.specs.Cmp.{eq_by_cmp_equiv}
use Rattle.std.proofs.lemmas.Bool.{and_parts, leb-true}
use Rattle.std.proofs.lemmas.List.{append-nil}
use Rattle.std.proofs.lemmas.List.Elements.{filter-append}
use Rattle.std.proofs.lemmas.Map.Views.{any-filter_same}
use Rattle.satp_base.specs.Keys.{same_session}
use Rattle.satp_base.specs.Numbers.{greatest_number}
use Rattle.satp_base.specs.declared.amount.Amount.{Amount}
use Rattle.satp_base.specs.declared.name.Name.{Name}
use Rattle.satp_base.specs.declared.session.SessionId.{SessionId}
use Rattle.satp_base.proofs.SessionLemmas.{sessions_total}
use Rattle.satp_schedule.specs.Lines.{has_form, is_count}
use Rattle.satp_schedule.specs.declared.line.Line.{Line}
use Rattle.satp_schedule.specs.declared.line.Line.TheVariants.{Start}
use Rattle.satp_schedule.specs.declared.line.Side.{Side}
use Rattle.satp_sides.specs.Points.{is_session}
use Rattle.satp_sides.proofs.Records.{is-session}
use Rattle.satp_drill.specs.Naming.{adding}
use Rattle.satp_drill_runs.specs.Reports.{name_of, session_of, sessions_of, started}

-- ---- a session that is started

abbrev by_test : Name → (number : ℕ) → (counts : Bool) → is_count number ≡ counts → Option SessionId
by_test gateway number true counts = Some (record { gateway = gateway; number = number; low = leb-true 1 number (and_parts (nat_le 1 number) (nat_le number greatest_number) counts).0; high = leb-true number greatest_number (and_parts (nat_le 1 number) (nat_le number greatest_number) counts).1 })
by_test gateway number false counts = None

tested : (gateway : Name) (number : ℕ) (counts : Bool) (e : is_count number ≡ counts) → counts ≡ true → (s : SessionId) → s.gateway ≡ gateway → s.number ≡ number → by_test gateway number counts e ≡ Some s
tested gateway number true e is s g n = ap Some (sym (same_session s _ g n))
tested gateway number false e is s g n = absurd cc

started-by : (side : Side) (number : ℕ) → started side number ≡ by_test (name_of side) number (is_count number) refl
started-by side number = refl

pub started-is : (side : Side) (number : ℕ) (s : SessionId) → is_count number ≡ true → s.gateway ≡ name_of side → s.number ≡ number → started side number ≡ Some s
started-is side number s counts g n = started-by side number ∙ tested (name_of side) number (is_count number) refl counts s g n

-- ---- one line more

abbrev before : Option SessionId → List SessionId → List SessionId
before None sessions = sessions
before (Some s) sessions = s ∷ filter (λ t. not (is_session s t)) sessions

symmetric : (s t : SessionId) → is_session s t ≡ is_session t s
symmetric s t = (eq_by_cmp_equiv sessions_total).symm s t

others : (s t : SessionId) (xs : List SessionId) → list_any (λ k. is_session t k) (filter (λ k. not (is_session s k)) xs) ≡ (not (is_session s t) && list_any (λ k. is_session t k) xs)
others s t xs = any-filter_same (λ k. is_session t k) (λ k. not (is_session s k)) (not (is_session s t)) (λ k e. ap (λ (x : SessionId). not (is_session s x)) (sym (is-session t k e))) xs

-- the first session is the one that is added, or isn't, and it is there already, or isn't
by-cases : (s t : SessionId) (xs : List SessionId) (same there : Bool) → is_session s t ≡ same → list_any (λ k. is_session t k) xs ≡ there
    → s ∷ filter (λ k. not (is_session s k)) (cond there xs (xs ++ t ∷ []))
    ≡ cond (same || (not same && there)) (s ∷ filter (λ k. not (is_session s k)) xs) ((s ∷ filter (λ k. not (is_session s k)) xs) ++ t ∷ [])
by-cases s t xs true true e f = refl
by-cases s t xs true false e f =
    ap (λ (l : List SessionId). s ∷ l) (filter-append (λ k. not (is_session s k)) xs (t ∷ [])
    ∙ ap (λ (b : Bool). filter (λ k. not (is_session s k)) xs ++ cond (not b) (t ∷ []) []) e ∙ append-nil _)
by-cases s t xs false true e f = refl
by-cases s t xs false false e f =
    ap (λ (l : List SessionId). s ∷ l) (filter-append (λ k. not (is_session s k)) xs (t ∷ [])
    ∙ ap (λ (b : Bool). filter (λ k. not (is_session s k)) xs ++ cond (not b) (t ∷ []) []) e)

found : (s t : SessionId) (xs : List SessionId) → list_any (λ k. is_session t k) (s ∷ filter (λ k. not (is_session s k)) xs) ≡ (is_session s t || (not (is_session s t) && list_any (λ k. is_session t k) xs))
found s t xs =
    ap (λ (x : Bool). x || list_any (λ k. is_session t k) (filter (λ k. not (is_session s k)) xs)) (symmetric t s)
    ∙ ap (λ (x : Bool). is_session s t || x) (others s t xs)

swap : (o p : Option SessionId) (xs : List SessionId) → before o (adding xs p) ≡ adding (before o xs) p
swap None p xs = refl
swap (Some s) None xs = refl
swap (Some s) (Some t) xs =
    by-cases s t xs (is_session s t) (list_any (λ k. is_session t k) xs) refl refl
    ∙ ap (λ (b : Bool). cond b (s ∷ filter (λ k. not (is_session s k)) xs) ((s ∷ filter (λ k. not (is_session s k)) xs) ++ t ∷ [])) (sym (found s t xs))

first-is : (o : Option SessionId) → before o [] ≡ adding [] o
first-is None = refl
first-is (Some s) = refl

sessions-by : (line : Line) (lines : List Line) → sessions_of (line ∷ lines) ≡ before (session_of line) (sessions_of lines)
sessions-by line lines = cases (session_of line) (sessions_of lines)
  where
    cases : (o : Option SessionId) (xs : List SessionId) → before o xs ≡ before o xs
    cases o xs = refl

one-more : (lines : List Line) (line : Line) → sessions_of (lines ++ line ∷ []) ≡ adding (sessions_of lines) (session_of line)
one-more [] line = sessions-by line [] ∙ first-is (session_of line)
one-more (first ∷ lines) line =
    sessions-by first (lines ++ line ∷ [])
    ∙ ap (before (session_of first)) (one-more lines line)
    ∙ swap (session_of first) (session_of line) (sessions_of lines)
    ∙ ap (λ (l : List SessionId). adding l (session_of line)) (sym (sessions-by first lines))

-- ---- the lines so far

pub take-one : {X : Type 0} (xs : List X) (i : ℕ) (x : X) → slice_get xs i ≡ Some x → take (i + 1) xs ≡ take i xs ++ x ∷ []
take-one xs i x e = rw (add-one i) (steps xs i x e)
  where
    same : {X : Type 0} (x y : X) → ◌≡◌ {A = Option X} (Some x) (Some y) → x ≡ y
    same x y e = cc e

    steps : {X : Type 0} (xs : List X) (i : ℕ) (x : X) → slice_get xs i ≡ Some x → take (suc i) xs ≡ take i xs ++ x ∷ []
    steps [] i x e = absurd cc
    steps (y ∷ xs) zero x e = ap (λ z. z ∷ []) (same y x e)
    steps (y ∷ xs) (suc i) x e = ap (λ l. y ∷ l) (steps xs i x e)

pub next-line : (lines : List Line) (i : ℕ) (line : Line) → slice_get lines i ≡ Some line → sessions_of (take (i + 1) lines) ≡ adding (sessions_of (take i lines)) (session_of line)
next-line lines i line e = ap sessions_of (take-one lines i line e) ∙ one-more (take i lines) line

pub line-form : (lines : List Line) (i : ℕ) (line : Line) → list_all has_form lines ≡ true → slice_get lines i ≡ Some line → has_form line ≡ true
line-form [] i line all e = absurd cc
line-form (first ∷ lines) zero line all e = let same : Some first ≡ Some line = e in let is : first ≡ line = cc same in ap has_form (sym is) ∙ (and_parts _ _ all).0
line-form (first ∷ lines) (suc i) line all e = line-form lines i line (and_parts _ _ all).1 e

pub start-named : (line : Line) (side : Side) (number : ℕ) (asset : Name) (amount : Amount) (originator beneficiary : Name) (s : SessionId) → line ≡ Start side number asset amount originator beneficiary
    → has_form line ≡ true → s.gateway ≡ name_of side → s.number ≡ number → session_of line ≡ Some s
start-named line side number asset amount originator beneficiary s is form g n = ap session_of is ∙ started-is side number s (sym (ap has_form is) ∙ form) g n

pub take-all : {X : Type 0} (xs : List X) (n : ℕ) → length xs ≤ n → take n xs ≡ xs
take-all [] zero h = refl
take-all [] (suc n) h = refl
take-all (x ∷ xs) zero h = absurd (omega (arith, h))
take-all (x ∷ xs) (suc n) h = ap (λ l. x ∷ l) (take-all xs n (omega (arith, h)))
