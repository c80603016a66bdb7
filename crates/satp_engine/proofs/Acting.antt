-- An operation that was asked of the ledger.
use Rattle.std.proofs.Common.{◌≡◌, ◌⊎◌, inl, inr, ◌<◌, ℕ, List, [], ◌∷◌, length, Option, Some, None, Ok, Err, option_map, refl, sym, ap, subst, ◌∙◌}
use Rattle.std.specs.Prelude.{IfSome}
use Rattle.std.proofs.lemmas.List.{append-nil}
use Rattle.std.proofs.lemmas.List.Sums.{fold-append}
use Rattle.satp_base.specs.Acts.{ActsOn, Asks, MayAdd}
use Rattle.satp_base.specs.Calls.{Told, asked}
use Rattle.satp_base.specs.LedgerRule.{operation}
use Rattle.satp_base.specs.Money.{Book}
use Rattle.satp_base.specs.Trail.{KeepsModel, Trail, extended, next, seen, settled}
use Rattle.satp_base.specs.declared.area.Area.{Area}
use Rattle.satp_base.specs.declared.area.Event.{Event}
use Rattle.satp_base.specs.declared.area.Event.TheVariants.{Acted}
use Rattle.satp_base.specs.declared.ledger.ActFault.{ActFault}
use Rattle.satp_base.specs.declared.ledger.Answer.{Answer}
use Rattle.satp_base.specs.declared.ledger.Answer.TheVariants.{Done, NoFunds, UnknownAsset, Capped, Taken}
use Rattle.satp_base.specs.declared.ledger.LedgerCall.TheVariants.{Act}
use Rattle.satp_base.specs.declared.ledger.LedgerOp.{LedgerOp}
use Rattle.satp_base.specs.declared.message.Terms.{Terms}
use Rattle.satp_base.specs.declared.session.SessionId.{SessionId}
use Rattle.satp_journal.specs.State.{Fits, Held, gate_of}
use Rattle.satp_records.specs.declared.stored.Setup.{Setup}
use Rattle.satp_sides.specs.Points.{Acts, Side}
use Rattle.satp_points.specs.Answers.{Goes}
use Rattle.satp_points.specs.States.{IsAt, tells}
use Rattle.satp_engine.specs.Working.{Fails, shut}
use Rattle.satp_point_laws.proofs.GoingLaw.{act-breaks, act-goes}

module _ (s : SessionId) (op : LedgerOp) (terms : Terms) (events : List Event) (told_old told_new : Option Told) (book_old book_new : Option Book) where
  -- ---- the areas are as they were

  one-or-none : (a : Answer) → MayAdd (Acted op s terms) (Ok a) events → (events ≡ Acted op s terms ∷ []) ⊎ (events ≡ [])
  one-or-none Done m = m
  one-or-none (NoFunds free) m = inr m
  one-or-none UnknownAsset m = inr m
  one-or-none (Capped total) m = inr m
  one-or-none (Taken entry) m = inr m

  seen-same : (trail : Trail) (area : Area) → (events ≡ Acted op s terms ∷ []) ⊎ (events ≡ []) → seen (extended trail events) area ≡ seen trail area
  seen-same trail area (inl e) =
      ap (λ es. seen (extended trail es) area) e ∙ ap (λ st. st.now) (fold-append (next area) (settled (trail.start area)) trail.events (Acted op s terms ∷ []))
  seen-same trail area (inr e) = ap (λ es. seen (extended trail es) area) e ∙ ap (λ (es : List Event). seen (record trail { events = es }) area) (append-nil trail.events)

  none-told : (u : Told) → None ≡ Some u → ⊥
  none-told u e = cc e

  some-told : (t u : Told) → Some t ≡ Some u → t ≡ u
  some-told t u e = cc e

  pub acted-fits : (held : Held) (a : Answer) → MayAdd (Acted op s terms) (Ok a) events → Asks {T = Answer} {E = ActFault} (Act op s terms) events (Ok a) told_old told_new → Fits held told_old → Fits held told_new
  acted-fits held a m asks fits u is = by told_old refl
    where
      by : (o : Option Told) → told_old ≡ o → gate_of held < length (seen u.trail held.area)
      by None e = absurd (none-told u (sym (ap (option_map (asked (Act op s terms) events)) e) ∙ sym asks ∙ is))
      by (Some t) e =
          let same = some-told (asked (Act op s terms) events t) u (sym (ap (option_map (asked (Act op s terms) events)) e) ∙ sym asks ∙ is) in
          let bytes = sym (seen-same t.trail held.area (one-or-none a m)) ∙ ap (λ (x : Told). seen x.trail held.area) same in
          subst (λ (b : List ℕ). gate_of held < length b) bytes (fits t e)

  -- ---- from point to point

  pub acted : (g : Held) (a : Answer) → IfSome book_old (λ b. ActsOn op s terms b (Ok a) events book_new) → Asks {T = Answer} {E = ActFault} (Act op s terms) events (Ok a) told_old told_new → ((u : Told) → told_new ≡ Some u → KeepsModel u.trail)
      → (setup : Setup) (side : Side) (t : Told) → IsAt g (tells told_old book_old) setup side t
      → Goes g setup side (Acts s op terms ∷ []) t g (tells told_new book_new) × ((operation side.book op s terms).answer ≡ Some a)
  acted g a on asks keeps setup side t at =
      act-goes s op terms a events g told_old told_new book_old book_new setup side t at (subst (λ (o : Option Book). IfSome o (λ b. ActsOn op s terms b (Ok a) events book_new)) at.ledger on) asks keeps

  pub act-failed : (g : Held) (fault : ActFault) → IfSome book_old (λ b. ActsOn op s terms b (Err fault) events book_new) → Asks {T = Answer} {E = ActFault} (Act op s terms) events (Err fault) told_old told_new → Fails (Acts s op terms ∷ []) g (tells told_old book_old) (tells told_new book_new)
  act-failed g fault on asks setup side t at =
      act-breaks s op terms fault events g (shut g) told_old told_new book_old book_new setup side t at (subst (λ (o : Option Book). IfSome o (λ b. ActsOn op s terms b (Err fault) events book_new)) at.ledger on) asks refl
