-- Payloads that are read one after the other.
use Rattle.std.proofs.Common.{◌≡◌, inl, inr, ◌<◌, ◌≤◌, ◌+◌, ℕ, zero, suc, List, [], ◌∷◌, ◌++◌, length, take, Some, None, refl, sym, ap, subst, ◌∙◌, arith}
use Rattle.std.specs.Prelude.{slice_get, Result, Ok, Err, IfErr, IsErr, IsErrAnd}
use Rattle.std.proofs.lemmas.List.{take_all}
use Rattle.satp_log.specs.Journals.{IsJournal, IsSomeJournal}
use Rattle.satp_log.specs.Logged.{AddsTo, BeginsLog, HoldsFirst, LogReads, LogState, ReadsFirst, fault_at}
use Rattle.satp_log.specs.declared.fault.LogFault.{LogFault}
use Rattle.satp_log.specs.declared.fault.LogFault.TheVariants as fault
use Rattle.satp_log.specs.declared.fault.Misfit.{Misfit}
use Rattle.satp_log.specs.declared.fault.Misfit.TheVariants as misfit
use Rattle.satp_log.proofs.JournalLemmas.{none-refused}

none-at : (n : ℕ) (p : List ℕ) → slice_get {X = List ℕ} [] n ≡ Some p → ⊥
none-at n p e = cc e

-- the first payloads with the next one
take-next : (payloads : List (List ℕ)) (n : ℕ) (p : List ℕ) → slice_get payloads n ≡ Some p → take (n + 1) payloads ≡ take n payloads ++ p ∷ []
take-next [] n p e = absurd (none-at n p e)
take-next (x ∷ xs) zero p e = let same : x ≡ p = cc e in ap (λ (q : List ℕ). q ∷ []) same
take-next (x ∷ xs) (suc n) p e = let one : suc n + 1 ≡ suc (n + 1) = omega arith in ap (λ k. take k (x ∷ xs)) one ∙ ap (λ (l : List (List ℕ)). x ∷ l) (take-next xs n p e)

within-at : (payloads : List (List ℕ)) (n : ℕ) (p : List ℕ) → slice_get payloads n ≡ Some p → n < length payloads
within-at [] n p e = absurd (none-at n p e)
within-at (x ∷ xs) zero p e = omega arith
within-at (x ∷ xs) (suc n) p e = let w = within-at xs n p e in omega (arith, w)

pub none-first : (payloads : List (List ℕ)) → slice_get payloads 0 ≡ None → payloads ≡ []
none-first [] e = refl
none-first (x ∷ xs) e = absurd (cc e)

-- ---- the first payload

pub first-ok : (payloads : List (List ℕ)) (p : List ℕ) (log : LogState) → slice_get payloads 0 ≡ Some p → BeginsLog p (Ok log) → ReadsFirst payloads (Ok log)
first-ok payloads p log e (setup, j, h) = (setup, [], subst (λ ps. IsJournal ps setup []) (sym (take-next payloads 0 p e)) j, h)

pub first-err : (payloads : List (List ℕ)) (p : List ℕ) (m : Misfit) → slice_get payloads 0 ≡ Some p → BeginsLog p (Err m) → LogReads payloads (Err (fault_at m 0))
first-err payloads p misfit.Refused e n = record { within = within-at payloads 0 p e; before = inl refl; refused = λ some. n (subst IsSomeJournal (take-next payloads 0 p e) some) }
first-err payloads p misfit.Memory e n = tt

-- ---- the next payload

module _ (payloads : List (List ℕ)) (n : ℕ) (p : List ℕ) (old : LogState) (e : slice_get payloads n ≡ Some p) (holds : HoldsFirst payloads n old) where
  abbrev pub Adds : LogState → Result (Unit {0}) Misfit → Type 0
  Adds new result = AddsTo (take n payloads) holds.0 holds.1 p old new result

  pub next-ok : (new : LogState) → Adds new (Ok tt) → HoldsFirst payloads (n + 1) new
  next-ok new (x, j, h) = (holds.0, holds.1 ++ x ∷ [], subst (λ ps. IsJournal ps holds.0 (holds.1 ++ x ∷ [])) (sym (take-next payloads n p e)) j, h)

  next-err : (new : LogState) (m : Misfit) → Adds new (Err m) → LogReads payloads (Err (fault_at m n))
  next-err new misfit.Refused a = record { within = within-at payloads n p e; before = inr (holds.0, holds.1, holds.2); refused = λ some. a.0 (subst IsSomeJournal (take-next payloads n p e) some) }
  next-err new misfit.Memory a = tt

  pub next-fault : (new : LogState) (result : Result (Unit {0}) Misfit) (m : Misfit) (f : LogFault) → result ≡ Err m → f ≡ fault_at m n → Adds new result → LogReads payloads (Err f)
  next-fault new result m f is e a = subst (λ g. LogReads payloads (Err g)) (sym e) (next-err new m (subst (Adds new) is a))

-- ---- all payloads

pub all-read : (payloads : List (List ℕ)) (n : ℕ) (log : LogState) → length payloads ≤ n → HoldsFirst payloads n log → LogReads payloads (Ok log)
all-read payloads n log w (setup, xs, j, h) = (setup, xs, subst (λ ps. IsJournal ps setup xs) (take_all n payloads w) j, h)

pub journal-err : (payloads : List (List ℕ)) (e : LogFault) → LogReads payloads (Err e) → IsSomeJournal payloads → e ≡ fault.Memory
journal-err payloads fault.Empty r some = absurd ((none-refused payloads some).0 r)
journal-err payloads (fault.Record index) r some = absurd ((none-refused payloads some).1 index r)
journal-err payloads fault.Memory r some = refl

-- a journal is read unless for want of memory
pub journal-read : (payloads : List (List ℕ)) (result : Result LogState LogFault) (e : LogFault) → LogReads payloads (Err e) → IsErr result × IsErrAnd result (λ f. f ≡ e) → IsSomeJournal payloads → IfErr result (λ f. f ≡ fault.Memory)
journal-read payloads (Ok log) e r is some = tt
journal-read payloads (Err f) e r is some = is.1 ∙ journal-err payloads e r some
