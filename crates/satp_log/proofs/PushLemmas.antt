-- A session more, whose proposal was composed.
use Rattle.std.proofs.Common.{◌≡◌, ◌<◌, ◌+◌, ℕ, List, None, refl, sym, ap, subst, ◌∙◌}
use Rattle.satp_base.specs.declared.message.Role.{Role}
use Rattle.satp_base.specs.declared.message.Role.TheVariants.{Origin, Recipient}
use Rattle.satp_base.specs.declared.message.Terms.{Terms}
use Rattle.satp_base.specs.declared.record.Rec.TheVariants.{Began}
use Rattle.satp_base.specs.declared.session.SessionId.{SessionId}
use Rattle.satp_records.specs.declared.stored.Setup.{Setup}
use Rattle.satp_sides.specs.LogLaws.{IsOfRole}
use Rattle.satp_sides.specs.Logs.{IsLog}
use Rattle.satp_sides.specs.Points.{Party, Stored, Text, most_sessions, stored}
use Rattle.satp_sides.proofs.Bounds.{not-begun}
use Rattle.satp_log.specs.Folding.{IsProposed, State, proposal_text}
use Rattle.satp_log.specs.Journals.{party_of}
use Rattle.satp_log.specs.Logged.{Enters, HoldsOne, LogHolds, LogState, count_of, state_in}
use Rattle.satp_log.proofs.AddLemmas.{Counted, entered}
use Rattle.satp_log.proofs.Folds.{proposed-state}
use Rattle.satp_log.proofs.LogLemmas.{no-view-is, one-begun, unnamed}
use Rattle.satp_log.proofs.Places.{no-place}

-- the counts with a session more of the role
abbrev pub started_with : Role → LogState → ℕ
started_with Origin log = log.started + 1
started_with Recipient log = log.started

abbrev pub accepted_with : Role → LogState → ℕ
accepted_with Origin log = log.accepted
accepted_with Recipient log = log.accepted + 1

counted-as : (setup : Setup) (xs : List Stored) (log : LogState) (s : SessionId) (role : Role) (terms : Terms) (text : Text) → LogHolds log setup xs → count_of role log < most_sessions
    → Counted s (Began role terms) text xs (started_with role log) (accepted_with role log)
counted-as setup xs log s Origin terms text h less =
    let x = stored s (Began Origin terms) text in
    record { room = subst (λ n. n < most_sessions) h.started less; started_is = ap (λ n. n + 1) h.started ∙ sym (one-begun Origin xs x refl); accepted_is = h.accepted ∙ sym (not-begun Recipient xs x refl) }
counted-as setup xs log s Recipient terms text h less =
    let x = stored s (Began Recipient terms) text in
    record { room = subst (λ n. n < most_sessions) h.accepted less; started_is = h.started ∙ sym (not-begun Origin xs x refl); accepted_is = ap (λ n. n + 1) h.accepted ∙ sym (one-begun Recipient xs x refl) }

pub session-pushed : (setup : Setup) (xs : List Stored) (old new : LogState) (s : SessionId) (role as_role : Role) (terms : Terms) (state : State) → IsLog (party_of setup) xs → LogHolds old setup xs → state_in s old.entries ≡ None
    → IsProposed (party_of old.setup) s role terms state → count_of role old < most_sessions → IsOfRole (party_of old.setup) s role → role ≡ as_role → Enters old s state (started_with as_role old) (accepted_with as_role old) new
    → HoldsOne setup xs s (Began role terms) (proposal_text (party_of setup) s role terms) new
session-pushed setup xs old new s role as_role terms state log h none q less whose is e =
    let p = party_of setup in
    let same = ap party_of h.setup_is in
    let place = no-place s old.entries none in
    let first = unnamed p s xs log (no-view-is old setup xs s h old.entries refl place) in
    let text = proposal_text p s role terms in
    let c = counted-as setup xs old s role terms text h less in
    let one = proposed-state p s xs role terms state (subst (λ (y : Party). IsProposed y s role terms state) same q) (subst (λ (y : Party). IsOfRole y s role) same whose) first c.room in
    entered setup xs old new s (Began role terms) text state (started_with role old) (accepted_with role old) h place refl c one
    (subst (λ r. Enters old s state (started_with r old) (accepted_with r old) new) (sym is) e)
