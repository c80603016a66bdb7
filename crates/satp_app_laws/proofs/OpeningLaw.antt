-- What a command opens.
use Rattle.std.proofs.Common.{◌≡◌, ◌⊎◌, ℕ, inl, inr, List, Option, Some, option_map, Err, sym, ap, subst, ◌∙◌}
use Rattle.satp_base.specs.Calls.{Told, entered}
use Rattle.satp_base.specs.Founding.{Founding}
use Rattle.satp_base.specs.LedgerAt.{ledger_at}
use Rattle.satp_base.specs.Money.{Book}
use Rattle.satp_base.specs.Trail.{Trail, KeepsModel}
use Rattle.satp_base.specs.declared.area.Area.TheVariants.{JournalA}
use Rattle.satp_base.proofs.Trails.{extended_none}
use Rattle.satp_gateway.specs.Opening.{OpenDecided}
use Rattle.satp_gateway.specs.declared.fault.OpenFault.{OpenFault}
use Rattle.satp_gateway.specs.declared.fault.OpenFault.TheVariants as fault
use Rattle.satp_gateway_commands.specs.AtGateway as command
use Rattle.satp_gateway_commands.specs.AtGateway.{NotOpened, NotOpenedBy, Opened, open_outcome, tells_of}
use Rattle.satp_life_laws.specs.Closed.{IsClosed, append_of, founding_at}
use Rattle.satp_life_laws.proofs.OpenedLaw.{closed-open, openings-stand}
use Rattle.satp_outcome.specs.declared.outcome.Outcome.{Outcome}
use Rattle.satp_outcome.specs.declared.outcome.Outcome.TheVariants.{Memory, Place}
use Rattle.satp_outcome.specs.declared.outcome.PlaceEnd.TheVariants as place
use Rattle.satp_points.specs.States.{kept_of, steps_of}
use Rattle.satp_stops.specs.Stops.{RestsIn}
use Rattle.satp_records.specs.declared.stored.Setup.{Setup}
use Rattle.satp_world.specs.Worlds.{Gateway, Setting, World, side_at}
use Rattle.satp_app_laws.specs.Openings.{CommandsOpen, CommandsOpenUnlessFailed}

module _ (st : Setting) (a b : Founding) (g : Gateway) (setup : Setup) (w : World) (dir : List ℕ) (t : Told) (is : IsClosed st a b g setup w t.trail) where
  -- the entering of a directory leaves the trail
  same-trail : (entered dir t).trail ≡ t.trail
  same-trail = extended_none t.trail

  inside-rests : RestsIn (entered dir t).trail (kept_of JournalA setup (side_at w g)) (steps_of (append_of is.next))
  inside-rests = subst (λ (x : Trail). RestsIn x (kept_of JournalA setup (side_at w g)) (steps_of (append_of is.next))) (sym same-trail) is.rests

  abbrev inside-closed : IsClosed st a b g setup w (entered dir t).trail
  inside-closed = record { reached = is.reached; party = is.party; formed = is.formed; next = is.next; may = is.may; rests = inside-rests }

  inside-keeps : KeepsModel t.trail → KeepsModel (entered dir t).trail
  inside-keeps keeps = subst KeepsModel (sym same-trail) keeps

  inside-ledger : (genesis : Founding) → ◌≡◌ {A = Option Book} (Some (record { genesis = genesis; entries = ledger_at t.trail.entries t.trail.events })) (Some (record { genesis = genesis; entries = ledger_at (entered dir t).trail.entries (entered dir t).trail.events }))
  inside-ledger genesis = ap (λ (x : Trail). Some (record { genesis = genesis; entries = ledger_at x.entries x.events })) (sym same-trail)

pub commands-open : CommandsOpen
commands-open st a b g setup w dir before inside state t is told tells keeps opened =
    openings-stand st a b g setup w state opened.entered (tells_of inside) (entered dir t) (inside-closed st a b g setup w dir t is) (opened.enters.told ∙ ap (option_map (entered dir)) told)
    (opened.enters.book ∙ tells ∙ inside-ledger st a b g setup w dir t is (founding_at a b g)) (inside-keeps st a b g setup w dir t is keeps) opened.opens (opened.ledger ∙ sym opened.enters.book)

failed-by : (f : OpenFault) (outcome : Outcome) → outcome ≡ open_outcome f → (f ≡ fault.Site) ⊎ (f ≡ fault.Memory) → (outcome ≡ Place place.Site) ⊎ (outcome ≡ Memory)
failed-by f outcome is (inl e) = inl (is ∙ ap open_outcome e)
failed-by f outcome is (inr e) = inr (is ∙ ap open_outcome e)

pub commands-open-unless-failed : CommandsOpenUnlessFailed
commands-open-unless-failed st a b g setup w dir before after outcome t is told keeps not = by not.ends
  where
    by : NotOpenedBy dir before after outcome → (outcome ≡ Place place.Site) ⊎ (outcome ≡ Memory)
    by (command.NotOpenedBy.not_entered fails ends) = inl ends
    by (command.NotOpenedBy.opens_none f opens ends) =
        let there : opens.entered.told ≡ Some (entered dir t) = opens.enters.told ∙ ap (option_map (entered dir)) told in
        let decided = subst (λ (o : Option Told). OpenDecided o (Err f)) there opens.decided in
        failed-by f outcome ends (closed-open st a b g setup w (entered dir t) (Err f) (inside-closed st a b g setup w dir t is) (inside-keeps st a b g setup w dir t is keeps) decided)
