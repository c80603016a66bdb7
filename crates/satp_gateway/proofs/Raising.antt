-- What the opening of the ledger leaves of the opening of the journal before it.
use Rattle.std.proofs.Common.{◌≡◌, ◌⊎◌, ◌<◌, length, inl, inr, List, ℕ, [], Option, Some, None, option_map, Result, Ok, Err, refl, sym, ◌∙◌, ap, subst}
use Rattle.std.specs.Prelude.{IfSome}
use Rattle.std.specs.Option.{ForSome}
use Rattle.satp_base.specs.Acts.{Asks}
use Rattle.satp_base.specs.Calls.{Told, MayMiss, ask_failed, asked, call_failed}
use Rattle.satp_base.specs.Laws.{RestsAt}
use Rattle.satp_base.specs.Money.{Book}
use Rattle.satp_base.specs.Trail.{Trail, seen}
use Rattle.satp_base.specs.declared.area.Area.{Area}
use Rattle.satp_base.specs.declared.area.Area.TheVariants.{JournalA}
use Rattle.satp_base.specs.declared.ledger.LedgerCall.TheVariants.{Raise}
use Rattle.satp_base.proofs.Trails.{extended_none}
use Rattle.satp_journal.specs.Opening.{OpenStops, Rests}
use Rattle.satp_journal.specs.State.{Fits, Held, JournalState, gate_of}
use Rattle.satp_log.specs.Journals.{IsJournal, payloads_of}
use Rattle.satp_log.specs.Logged.{LogState}
use Rattle.satp_points.specs.States.{GateWithin, GatewayState, Holds, IsAt, Tells, tells}
use Rattle.satp_records.specs.declared.stored.Setup.{Setup}
use Rattle.satp_sides.specs.Points.{Side, Stored}
use Rattle.satp_gateway.specs.Opening.{GatewayOpens, IsAtSome, IsOf, OpensJournal}
use Rattle.satp_gateway.specs.declared.fault.OpenFault.TheVariants.{Site}

-- ---- the trail stays

abbrev trail_of : Option Told → Option Trail
trail_of o = option_map (λ (t : Told). t.trail) o

abbrev pub SameTrail : Option Told → Option Told → Type 0
SameTrail a b = trail_of a ≡ trail_of b

inside : (t u : Told) → SameTrail (Some t) (Some u) → t.trail ≡ u.trail
inside t u e = cc

pub asked_stays : (a b : Option Told) → b ≡ option_map (asked Raise []) a → SameTrail a b
asked_stays None b e = sym (ap trail_of e)
asked_stays (Some t) b e = ap Some (sym (extended_none t.trail)) ∙ sym (ap trail_of e)

pub failed_stays : (a b : Option Told) → MayMiss (ask_failed Raise []) [] a b → SameTrail a b
failed_stays None b (inl e) = sym (ap trail_of e)
failed_stays (Some t) b (inl e) = ap Some (sym (extended_none t.trail)) ∙ sym (ap trail_of e)
failed_stays None b (inr e) = sym (ap trail_of e)
failed_stays (Some t) b (inr e) = ap Some (sym (extended_none t.trail)) ∙ sym (ap trail_of e)

pub stops_stay : (area : Area) (old a b : Option Told) → SameTrail a b → OpenStops area old a → OpenStops area old b
stops_stay area None a b e stops = tt
stops_stay area (Some t) a None e stops = tt
stops_stay area (Some t) None (Some u) e stops = absurd (cc e)
stops_stay area (Some t) (Some v) (Some u) e (events, is, each) = (events, sym (inside v u e) ∙ is, each)

none-some : (t : Told) → ◌≡◌ {A = Option Told} None (Some t) → ⊥
none-some t e = cc e

pub within_stays : (g : GatewayState) (a b : Option Told) → SameTrail a b → Fits g a → GateWithin g b
unfolding GateWithin
within_stays g None b e fits u is = absurd (none-some-trail b u e is)
  where
    none-some-trail : (o : Option Told) (w : Told) → SameTrail None o → o ≡ Some w → ⊥
    none-some-trail None w f q = none-some w q
    none-some-trail (Some v) w f q = cc f
within_stays g (Some t) b e fits u is = subst (λ (trail : Trail). gate_of g < length (seen trail g.area)) (inside t u (e ∙ ap trail_of is)) (fits t refl)

rests_stay : (area : Area) (list : List (List ℕ)) (t u : Told) → SameTrail (Some t) (Some u) → RestsAt t.trail area list → RestsAt u.trail area list
rests_stay area list t u e rests = subst (λ (trail : Trail). RestsAt trail area list) (inside t u e) rests

-- ---- what is answered

pub raised : (old new : Tells) (opened : Option Told) (j : JournalState) (read : LogState) (g : GatewayState) → OpensJournal old.told opened (Ok (j, read)) → g ≡ j.held
    → new.told ≡ option_map (asked Raise []) opened → GatewayOpens old new (Ok g)
unfolding Holds
raised old new opened j read g opens is told =
    let list = ap (λ (h : Held). h.payloads) is in
    let journal = opens.3.2 in (
      j.held.payloads,
      opened,
      opens.0,
      (opens.3.0, opens.3.1, journal, subst (λ l. IsJournal l opens.3.0 opens.3.1) (sym list) journal, ap (λ (h : Held). h.broken) is ∙ opens.2, ap (λ (h : Held). h.area) is ∙ opens.1),
      told,
    )

pub not_raised : (old new : Tells) (opened : Option Told) (j : JournalState) (read : LogState) → OpensJournal old.told opened (Ok (j, read)) → MayMiss (ask_failed Raise []) [] opened new.told → GatewayOpens old new (Err Site)
not_raised old new opened j read opens fails = inr (j.held.payloads, opened, opens.0, (opens.3.0, opens.3.1, opens.3.2), fails)

pub at_some : (opened told : Option Told) (book : Option Book) (j : JournalState) (read : LogState) (old : Option Told) (g : GatewayState) → OpensJournal old opened (Ok (j, read)) → g ≡ j.held → SameTrail opened told
    → Rests opened j.held → IsAtSome g (tells told book)
unfolding Holds
at_some opened None book j read old g opens is same rests = tt
at_some opened (Some u) None j read old g opens is same rests = tt
at_some None (Some u) (Some b) j read old g opens is same rests = absurd (cc same)
at_some (Some t) (Some u) (Some b) j read old g opens is same rests =
    let side : Side = record { records = opens.3.1; book = b } in
    let list = opens.3.2.list in
    let here = rests_stay j.held.area j.held.payloads t u same rests in (
      opens.3.0,
      side,
      refl,
      record {
        whole = ap (λ (h : Held). h.broken) is ∙ opens.2;
        told = refl;
        holds = subst (λ (h : Held). IsJournal h.payloads opens.3.0 opens.3.1) (sym is) opens.3.2;
        rests = subst (λ (a : Area). RestsAt u.trail a (payloads_of opens.3.0 opens.3.1)) (sym (ap (λ (h : Held). h.area) is)) (subst (RestsAt u.trail j.held.area) list here);
        ledger = refl;
      },
    )
