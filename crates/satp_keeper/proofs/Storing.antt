-- What an operation leaves of the journal.
use Rattle.std.proofs.Common.{◌≡◌, ◌≤◌, ◌<◌, ◌⊎◌, ℕ, true, false, List, length, Option, Some, None, Ok, Err, option_map, refl, ap, subst, sym, ◌∙◌, arith, ⊎_elim, inr}
use Rattle.std.specs.Prelude.{IfSome}
use Rattle.satp_base.specs.declared.area.Area.{Area}
use Rattle.satp_base.specs.declared.ledger.Answer.{Answer}
use Rattle.satp_base.specs.declared.ledger.LedgerOp.{LedgerOp}
use Rattle.satp_base.specs.declared.message.Terms.{Terms}
use Rattle.satp_base.specs.declared.session.SessionId.{SessionId}
use Rattle.satp_base.specs.Calls.{Told, made, FailsAmong}
use Rattle.satp_base.specs.Format.{IsPayload}
use Rattle.satp_base.specs.Laws.{RestsAt}
use Rattle.satp_base.specs.LedgerRule.{LedgerRule, operation}
use Rattle.satp_base.specs.Money.{Book}
use Rattle.satp_base.proofs.RuleLemmas.{rule-gives}
use Rattle.satp_journal.specs.Appending.{AppendAnswers, AppendRests, AppendStops, RestsStill, append_calls, events_of}
use Rattle.satp_journal.specs.Opening.{Rests}
use Rattle.satp_journal.specs.State.{Held}
use Rattle.satp_journal.specs.declared.fault.JournalFault.{JournalFault}
use Rattle.satp_journal.specs.declared.fault.JournalFault.TheVariants as journal
use Rattle.satp_journal.proofs.AppendLemmas.{Keeps, append_stops, adds_none}
use Rattle.satp_records.specs.Formats.{payload_of}
use Rattle.satp_records.specs.declared.stored.Stored.TheVariants as stored
use Rattle.satp_records.proofs.Payloads.{payloads_fit}

act_fits : (op : LedgerOp) (session : SessionId) (terms : Terms) → IsPayload (payload_of (stored.Act op session terms))
act_fits op session terms = payloads_fit (stored.Act op session terms) tt

-- no call was made
pub still_stops : (op : LedgerOp) (session : SessionId) (terms : Terms) (held : Held) (told : Option Told) → Keeps told → AppendStops (payload_of (stored.Act op session terms)) held told told
still_stops op session terms held told keeps = append_stops (payload_of (stored.Act op session terms)) held (act_fits op session terms) told told keeps (adds_none (payload_of (stored.Act op session terms)) held (act_fits op session terms) told)

-- an append that has its memory fails by the disk alone
pub append_failed : (q : List ℕ) (old new : Held) (told_old told_new : Option Told) (fault : JournalFault) → old.broken ≡ false → (fault ≡ journal.Memory → ⊥) → AppendAnswers q old new told_old told_new (Err fault)
    → (fault ≡ journal.Disk) × (new ≡ record old { broken = true }) × FailsAmong (append_calls old q) told_old told_new
append_failed q old new told_old told_new journal.Disk whole enough is = (refl, is.1, is.2)
append_failed q old new told_old told_new journal.Memory whole enough is = absurd (enough refl)
append_failed q old new told_old told_new journal.Broken whole enough is = absurd (let both = sym whole ∙ is.0 in cc)
append_failed q old new told_old told_new (journal.Damaged at) whole enough is = absurd is

module _ (op : LedgerOp) (session : SessionId) (terms : Terms) (b c : Book) (answer : Answer) (old mid new : Held) (told_old told_new : Option Told) (payload : List ℕ) where
  pub keep_failed : (fault : JournalFault) (records bytes : ℕ) → mid ≡ old → payload ≡ payload_of (stored.Act op session terms) → old.broken ≡ false → (operation b op session terms).changes ≡ true → 1 ≤ records → length payload ≤ bytes
      → (fault ≡ journal.Memory → (records < 1) ⊎ (bytes < length payload)) → AppendAnswers payload mid new told_old told_new (Err fault)
      → LedgerRule b op session terms answer c
      → (old.broken ≡ false) × ((operation b op session terms).changes ≡ true) × (new ≡ record old { broken = true }) × FailsAmong (append_calls old (payload_of (stored.Act op session terms))) told_old told_new
      × ((c ≡ b) ⊎ (c ≡ (operation b op session terms).after))
  keep_failed fault records bytes e p whole changes some enough memory is rule =
      let r = append_failed payload mid new told_old told_new fault (ap (λ (h : Held). h.broken) e ∙ whole) (λ m. ⊎_elim (λ h. omega (arith, h, some)) (λ h. omega (arith, h, enough)) (memory m)) is in (
        whole,
        changes,
        r.1 ∙ ap (λ (h : Held). let x : Held = record h { broken = true } in x) e,
        subst (λ (h : Held). FailsAmong (append_calls h (payload_of (stored.Act op session terms))) told_old told_new) e (subst (λ (x : List ℕ). FailsAmong (append_calls mid x) told_old told_new) p r.2),
        inr (rule-gives b op session terms answer c rule).1,
      )

rests_on : (old new : Held) (f : Told → Told) (told_old told_new : Option Told) → told_new ≡ option_map f told_old → new.area ≡ old.area → Rests told_old old → RestsStill old.area old.payloads new.payloads told_old told_new → Rests told_new new
rests_on old new f None told_new is area rests still = subst (λ (o : Option Told). Rests o new) (sym is) tt
rests_on old new f (Some t) told_new is area rests still =
    subst (λ (o : Option Told). Rests o new) (sym is) (subst (λ (a : Area). RestsAt (f t).trail a new.payloads) (sym area) (subst (λ (o : Option Told). IfSome o (λ u. RestsAt u.trail old.area new.payloads)) is (still rests)))

pub appended_rests : (q : List ℕ) (old new : Held) (told_old told_new : Option Told) → Rests told_old old → AppendAnswers q old new told_old told_new (Ok tt) → AppendRests q old told_old told_new → Rests told_new new
appended_rests q old new told_old told_new rests is each = rests_on old new (made 4 (events_of old q)) told_old told_new is.2 (ap (λ (h : Held). h.area) is.1) rests still
  where
    still : RestsStill old.area old.payloads new.payloads told_old told_new
    still = subst (λ (h : Held). RestsStill old.area old.payloads h.payloads told_old told_new) (sym is.1) (each old.payloads refl)
