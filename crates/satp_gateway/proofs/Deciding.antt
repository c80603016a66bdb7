-- Which answer a set-up gives, and which calls on the ledger it makes.
use Rattle.std.proofs.Common.{◌≡◌, ◌⊎◌, ℕ, List, [], ◌∷◌, ◌++◌, length, take, Option, Some, None, option_map, Result, Ok, Err, refl, sym, ◌∙◌, ap, subst, inl, inr}
use Rattle.std.specs.Prelude.{◌≢◌, true, false}
use Rattle.satp_base.specs.declared.area.Area.TheVariants.{JournalA}
use Rattle.satp_base.specs.declared.area.Event.{Event}
use Rattle.satp_base.specs.declared.ledger.LedgerCall.TheVariants.{Found}
use Rattle.satp_base.specs.Calls.{Ask, Told, ask_failed, call_failed, FailsAmong, Makes, calls_of, events_in}
use Rattle.satp_base.specs.Format.{Damage, Stands}
use Rattle.satp_base.specs.Trail.{seen}
use Rattle.satp_base.proofs.Readings.{one_list, one_damage, never_both}
use Rattle.satp_journal.specs.Opening.{OpenAnswers, open_calls, read_calls}
use Rattle.satp_journal.specs.State.{gate_of}
use Rattle.satp_journal.specs.declared.fault.JournalFault.TheVariants as journal
use Rattle.satp_points.specs.States.{Tells}
use Rattle.satp_gateway.specs.SettingUp.{DecidedBy, FailsToEstablish, FailsToOpen, FoundsOnce, Opens, Plan, SetUpAnswers, SetUpDecided, SetsUpVacant, VacancyAnswers, VacantAnswers, founds, setup_events}
use Rattle.satp_gateway.specs.declared.fault.SetUpFault.{SetUpFault}
use Rattle.satp_gateway.specs.declared.fault.SetUpFault.TheVariants.{Already, Damaged, Site, Memory}

-- ---- the answer

-- the bytes that were read are those of the area
pub opens_stands : (payloads : List (List ℕ)) (t : Told) (new : Option Told) → Opens payloads (Some t) new → Stands (seen t.trail JournalA) payloads
opens_stands payloads t new (journal, list, (image, (read, stands, area, whole), is)) = subst (Stands (seen t.trail JournalA)) list (subst (λ (l : List ℕ). Stands l journal.held.payloads) read stands)

vacant_decides : (image : List ℕ) → Stands image [] → DecidedBy image (Ok tt)
vacant_decides image stands = (
  λ s. inl refl,
  λ payloads some s. absurd (some (one_list image payloads [] s stands)),
  λ at damage. absurd (never_both image [] at stands damage),
)

taken_decides : (image : List ℕ) (payloads : List (List ℕ)) → payloads ≢ [] → Stands image payloads → DecidedBy image (Err Already)
taken_decides image payloads some stands = (
  λ s. absurd (some (one_list image payloads [] stands s)),
  λ others more s. inl refl,
  λ at damage. absurd (never_both image payloads at stands damage),
)

damage_decides : (image : List ℕ) (at : ℕ) → Damage image at → DecidedBy image (Err (Damaged at))
damage_decides image at damage = (
  λ s. absurd (never_both image [] at s damage),
  λ payloads some s. absurd (never_both image payloads at s damage),
  λ other d. inl (ap (λ (n : ℕ). Err (Damaged n)) (one_damage image at other damage d)),
)

pub decided : (p : Plan) (old new : Tells) (result : Result (Unit {0}) SetUpFault) → SetUpAnswers p old new result → SetUpDecided old.told result
decided p old new result answers = by old.told result refl answers
  where
    by : (told : Option Told) (r : Result (Unit {0}) SetUpFault) → old.told ≡ told → SetUpAnswers p old new r → SetUpDecided told r
    by None r is a = tt
    by (Some t) (Ok done) is (opened, vacant, a) = vacant_decides (seen t.trail JournalA) (opens_stands [] t opened.told (subst (λ (o : Option Told). Opens [] o opened.told) is vacant.0))
    by (Some t) (Err Already) is (inl ((payloads, some, opens), same)) = taken_decides (seen t.trail JournalA) payloads some (opens_stands payloads t new.told (subst (λ (o : Option Told). Opens payloads o new.told) is opens))
    by (Some t) (Err Already) is (inr (opened, vacant, bad)) = absurd bad
    by (Some t) (Err (Damaged at)) is (inl (fails, same)) =
        let d = subst (λ (o : Option Told). FailsToOpen (journal.Damaged at) o new.told) is fails in damage_decides (seen t.trail JournalA) at (subst (λ (l : List ℕ). Damage l at) d.1 d.2)
    by (Some t) (Err (Damaged at)) is (inr (opened, vacant, bad)) = absurd bad
    by (Some t) (Err Site) is a = (λ s. inr (inl refl), λ payloads some s. inr (inl refl), λ at d. inr (inl refl))
    by (Some t) (Err Memory) is a = (λ s. inr (inr refl), λ payloads some s. inr (inr refl), λ at d. inr (inr refl))

-- ---- calls on the ledger

abbrev asks_of : Option Told → Option (List Ask)
asks_of o = option_map (λ (t : Told). t.asks) o

abbrev Same : Option Told → Option Told → Type 0
Same old new = asks_of new ≡ asks_of old

makes_none : (calls : List (Option Event)) (old new : Option Told) → Makes calls old new → Same old new
makes_none calls None new is = ap asks_of is
makes_none calls (Some t) new is = ap asks_of is

fails_none : (calls : List (Option Event)) (old new : Option Told) → FailsAmong calls old new → Same old new
fails_none calls None new (n, None, at, is) = ap asks_of is
fails_none calls (Some t) new (n, None, at, is) = ap asks_of is
fails_none calls None new (n, Some e, at, (es, failure, is)) = ap asks_of is
fails_none calls (Some t) new (n, Some e, at, (es, failure, is)) = ap asks_of is

opens_none : (payloads : List (List ℕ)) (old new : Option Told) → Opens payloads old new → Same old new
opens_none payloads old new (journal, list, (image, finds, is)) = makes_none (open_calls JournalA image (gate_of journal.held)) old new is

opening_none : (fault : SetUpFault) (old new : Tells) → VacancyAnswers {V = Unit {0}} old new (Err fault) → Same old.told new.told
opening_none Already old new ((payloads, some, opens), same) = opens_none payloads old.told new.told opens
opening_none (Damaged at) old new ((image, read, damage, is), same) = makes_none (read_calls JournalA) old.told new.told is
opening_none Site old new (inl fails, same) = fails_none (read_calls JournalA) old.told new.told fails
opening_none Site old new (inr (image, held, finds, fails), same) = fails_none (open_calls JournalA image (gate_of held)) old.told new.told fails
opening_none Memory old new (inl is, same) = makes_none (take 2 (read_calls JournalA)) old.told new.told is
opening_none Memory old new (inr is, same) = makes_none (read_calls JournalA) old.told new.told is

module _ (p : Plan) where
  -- the ledger was asked for the founding, once
  abbrev AsksOnce : Option Told → Option Told → Type 0
  AsksOnce old new = (ask : Told → Ask) × ((t : Told) → (ask t).call ≡ Found p.kind p.genesis) × (asks_of new ≡ option_map (λ (t : Told). t.asks ++ ask t ∷ []) old)

  done_ask : Told → Ask
  done_ask t = record { call = Found p.kind p.genesis; before = t.calls; succeeded = true }

  failed_ask : Told → Ask
  failed_ask t = record { call = Found p.kind p.genesis; before = t.calls; succeeded = false }

  founds_ask : (old : Option Told) → asks_of (option_map (founds p) old) ≡ option_map (λ (t : Told). t.asks ++ done_ask t ∷ []) old
  unfolding done_ask
  founds_ask None = refl
  founds_ask (Some t) = refl

  done_call : (t : Told) → (done_ask t).call ≡ Found p.kind p.genesis
  unfolding done_ask
  done_call t = refl

  failed_call : (t : Told) → (failed_ask t).call ≡ Found p.kind p.genesis
  unfolding failed_ask
  failed_call t = refl

  named_asks : (es : List Event) (old new : Option Told) → new ≡ option_map (ask_failed (Found p.kind p.genesis) es) old → asks_of new ≡ option_map (λ (t : Told). t.asks ++ failed_ask t ∷ []) old
  unfolding failed_ask
  named_asks es None new is = ap asks_of is
  named_asks es (Some t) new is = ap asks_of is

  counted_asks : (es : List Event) (old new : Option Told) → new ≡ option_map (call_failed es) old → Same old new
  counted_asks es None new is = ap asks_of is
  counted_asks es (Some t) new is = ap asks_of is

  fails_asks : (old : Option Told) (new : Tells) → FailsToEstablish p old new → Same old new.told ⊎ AsksOnce old new.told
  fails_asks old new (inl ((events, which, inl named), none)) = inr (failed_ask, failed_call, named_asks events old new.told named)
  fails_asks old new (inl ((events, which, inr counted), none)) = inl (counted_asks events old new.told counted)
  fails_asks old new (inr (fails, genesis)) = inr (done_ask, done_call, fails_none (calls_of (setup_events p)) (option_map (founds p) old) new.told fails ∙ founds_ask old)

  vacant_asks : (old new : Tells) (result : Result (Unit {0}) SetUpFault) → VacantAnswers p old new result → Same old.told new.told ⊎ AsksOnce old.told new.told
  vacant_asks old new (Ok done) is = inr (done_ask, done_call, makes_none (calls_of (setup_events p)) (option_map (founds p) old.told) new.told is.0 ∙ founds_ask old.told)
  vacant_asks old new (Err Site) fails = fails_asks old.told new fails
  vacant_asks old new (Err Memory) same = inl (ap asks_of same.0)
  vacant_asks old new (Err Already) bad = absurd bad
  vacant_asks old new (Err (Damaged at)) bad = absurd bad

  same_asks : (t u : Told) → Same (Some t) (Some u) → u.asks ≡ t.asks
  same_asks t u e = cc

  some_asks : (t u : Told) (list : List Ask) → asks_of (Some u) ≡ Some list → u.asks ≡ list
  some_asks t u list e = cc

  unopened_once : (fault : SetUpFault) (old new : Tells) → VacancyAnswers {V = Unit {0}} old new (Err fault) → FoundsOnce p old.told new.told
  unopened_once fault old new answers = by old.told new.told (opening_none fault old new answers)
    where
      by : (o n : Option Told) → Same o n → FoundsOnce p o n
      by None n e = tt
      by (Some t) None e = tt
      by (Some t) (Some u) e = inl (same_asks t u e)

  opened_once : (result : Result (Unit {0}) SetUpFault) (old new : Tells) → SetsUpVacant p old new result → FoundsOnce p old.told new.told
  opened_once result old new (opened, vacant, answers) = by old.told opened.told new.told vacant.0 (opens_none [] old.told opened.told vacant.0) (vacant_asks opened new result answers)
    where
      by : (o m n : Option Told) → Opens [] o m → Same o m → Same m n ⊎ AsksOnce m n → FoundsOnce p o n
      by None m n opens same asks = tt
      by (Some t) m None opens same asks = tt
      by (Some t) None (Some u) opens same asks = absurd (let e = opens.2.2 in cc)
      by (Some t) (Some m) (Some u) opens same (inl e) = inl (same_asks m u e ∙ same_asks t m same)
      by (Some t) (Some m) (Some u) opens same (inr (ask, call, e)) = inr (opens_stands [] t (Some m) opens, (ask m, call m, some_asks m u _ e ∙ ap (λ (l : List Ask). l ++ ask m ∷ []) (same_asks t m same)))

  pub once : (old new : Tells) (result : Result (Unit {0}) SetUpFault) → SetUpAnswers p old new result → FoundsOnce p old.told new.told
  once old new (Ok done) sets = opened_once (Ok done) old new sets
  once old new (Err fault) (inl not) = unopened_once fault old new not
  once old new (Err fault) (inr sets) = opened_once (Err fault) old new sets
