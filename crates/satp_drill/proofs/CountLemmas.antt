-- Counts over lists, one element after the other.
use Rattle.std.proofs.Common.{◌≡◌, ℕ, ◌+◌, ◌≤◌, Bool, true, false, cond, List, [], ◌∷◌, ◌++◌, length, take, Option, Some, None, refl, ap, ◌∙◌, arith, length-append}
use Rattle.std.specs.Prelude.{filter, find, slice_get, unwrap_or, option_map}
use Rattle.std.proofs.lemmas.List.Elements.{filter-append}
use Rattle.satp_base.specs.Founding.{counted, equal_names}
use Rattle.satp_base.specs.Money.{Book, free_sum_of}
use Rattle.satp_base.specs.Numbers.{greatest_amount}
use Rattle.satp_base.specs.Soundness.{IsSound}
use Rattle.satp_base.specs.declared.genesis.Asset.{Asset}
use Rattle.satp_base.specs.declared.name.Name.{Name}
use Rattle.satp_base.specs.declared.session.SessionId.{SessionId}
use Rattle.satp_drill.specs.Counting.{has_ended}
use Rattle.satp_drill.specs.declared.count.Ended.TheVariants.{Committed, RolledBack, NotBegun}
use Rattle.satp_drill.proofs.NamingLemmas.{take-one}
use Rattle.satp_drill_runs.specs.Reports.{Reported, gold, report_of, sessions_of}
use Rattle.satp_schedule.specs.declared.line.Line.{Line}
use Rattle.satp_sides.specs.Points.{Stored}

more : {X : Type 0} (p : X → Bool) (x : X) (xs : List X) → length (filter p (xs ++ x ∷ [])) ≡ length (filter p xs) + counted (p x) 1
more p x xs = ap length (filter-append p xs (x ∷ [])) ∙ length-append (filter p xs) (filter p (x ∷ [])) ∙ ap (λ n. length (filter p xs) + n) (one (p x))
  where
    one : (b : Bool) → length (cond b (x ∷ []) []) ≡ counted b 1
    one true = refl
    one false = refl

pub next-counted : {X : Type 0} (p : X → Bool) (xs : List X) (i : ℕ) (x : X) → slice_get xs i ≡ Some x → length (filter p (take (i + 1) xs)) ≡ length (filter p (take i xs)) + counted (p x) 1
next-counted p xs i x e = ap (λ l. length (filter p l)) (take-one xs i x e) ∙ more p x (take i xs)

pub at-most-one : (b : Bool) → counted b 1 ≤ 1
at-most-one true = omega arith
at-most-one false = omega arith

-- ---- amounts

cap-most : (o : Option Asset) → unwrap_or (option_map (λ (a : Asset). a.cap.number) o) 0 ≤ greatest_amount
cap-most None = omega arith
cap-most (Some a) = a.cap.high

pub free-most : (b : Book) (asset : Name) → IsSound b → free_sum_of b asset ≤ greatest_amount
free-most b asset sound = let total = sound.capped asset in let most = cap-most (find (λ (a : Asset). equal_names asset a.name) b.genesis.assets) in omega (arith, total, most)

-- ---- the report

pub report-by : (lines : List Line) (sessions : List SessionId) (xs ys : List Stored) (a b : Book) (r : Reported) → sessions ≡ sessions_of lines
    → r.sessions ≡ length sessions → r.committed ≡ length (filter (has_ended Committed xs ys) sessions) → r.rolled_back ≡ length (filter (has_ended RolledBack xs ys) sessions)
    → r.not_begun ≡ length (filter (has_ended NotBegun xs ys) sessions) → r.free_gold ≡ free_sum_of a gold + free_sum_of b gold → r ≡ report_of lines xs ys a b
unfolding report_of
report-by lines sessions xs ys a b r is all committed rolled_back not_begun free = λ i. record {
  sessions = (all ∙ ap length is) i;
  committed = (committed ∙ ap (λ l. length (filter (has_ended Committed xs ys) l)) is) i;
  rolled_back = (rolled_back ∙ ap (λ l. length (filter (has_ended RolledBack xs ys) l)) is) i;
  not_begun = (not_begun ∙ ap (λ l. length (filter (has_ended NotBegun xs ys) l)) is) i;
  free_gold = free i;
}
