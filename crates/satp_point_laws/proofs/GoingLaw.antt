-- A move that a site made leads a gateway from one point to the next, and one that failed leaves it broken.
use Rattle.std.proofs.Common.{◌≡◌, ◌⊎◌, inl, inr, ℕ, List, [], ◌∷◌, ◌++◌, length, take, Option, Some, None, option_map, Err, refl, sym, ap, subst, ◌∙◌}
use Rattle.std.specs.Prelude.{IfSome}
use Rattle.std.proofs.lemmas.List.{append-nil, map-append}
use Rattle.satp_base.specs.Acts.{ActsOn, operation_events}
use Rattle.satp_base.specs.Calls.{Told, FailsAmong, FailsAt, MayMiss, ask_failed, asked, call_failed, calls_of, events_in, made}
use Rattle.satp_base.specs.Format.{records}
use Rattle.satp_base.specs.Laws.{RestsAt}
use Rattle.satp_base.specs.LedgerRule.{operation}
use Rattle.satp_base.specs.Money.{Book}
use Rattle.satp_base.specs.Segments.{IsCut, append_events}
use Rattle.satp_base.specs.declared.area.Area.{Area}
use Rattle.satp_base.specs.declared.area.Event.{Event}
use Rattle.satp_base.specs.declared.ledger.ActFault.{ActFault}
use Rattle.satp_base.specs.declared.ledger.ActFault.TheVariants.{Failed, OutOfOrder}
use Rattle.satp_base.specs.declared.ledger.LedgerCall.TheVariants.{Act}
use Rattle.satp_base.specs.declared.ledger.LedgerOp.{LedgerOp}
use Rattle.satp_base.specs.declared.message.Terms.{Terms}
use Rattle.satp_base.specs.declared.session.SessionId.{SessionId}
use Rattle.satp_base.proofs.Cuts.{cut_whole}
use Rattle.satp_journal.specs.Appending.{RestsStill}
use Rattle.satp_journal.specs.State.{Held, gate_of}
use Rattle.satp_log.specs.Journals.{party_of, payload_in, payloads_of}
use Rattle.satp_records.specs.Formats.{payload_of}
use Rattle.satp_records.specs.declared.stored.Stored.TheVariants as journaled
use Rattle.satp_sides.specs.Points.{Side, moved_by}
use Rattle.satp_sides.specs.Points.Move.{Acts}
use Rattle.satp_sides.proofs.LogLaw.{log-grows}
use Rattle.satp_stops.specs.Stops.{Step, StopsIn, told_steps}
use Rattle.satp_stops.proofs.Changes.{quiet_cut, quiet_front}
use Rattle.satp_points.specs.States.{Holds, IsAt, area_of, kept_of, step_of, steps_of}
use Rattle.satp_point_laws.specs.Going.{ActBreaks, ActGoes, AppendBreaks, AppendGoes, MovesGoOn, SayingGoes}
use Rattle.satp_point_laws.proofs.Kept.{kept-moves, moved-append, stops-first, stops-later, told-moves}

-- ---- an append

pub append-goes : AppendGoes
unfolding Holds
append-goes x old new told_old told_new book setup side t at may answers rests =
    let more : payloads_of setup side.records ++ payload_in x ∷ [] ≡ payloads_of setup (side.records ++ x ∷ []) =
    ap (λ (l : List (List ℕ)). payload_of (journaled.Setup setup) ∷ l) (sym (map-append payload_in side.records (x ∷ []))) in
    let list : new.payloads ≡ payloads_of setup (side.records ++ x ∷ []) = ap (λ (h : Held). h.payloads) answers.1 ∙ ap (λ (l : List (List ℕ)). l ++ payload_in x ∷ []) at.holds.list ∙ more in
    let after = made 4 (append_events old.area (length (records (payloads_of setup side.records))) (payload_in x)) t in
    let told : told_new ≡ Some after =
    answers.2 ∙ ap (option_map (made 4 (append_events old.area (length (records old.payloads)) (payload_in x)))) at.told
    ∙ ap (λ (l : List (List ℕ)). let o : Option Told = Some (made 4 (append_events old.area (length (records l)) (payload_in x)) t) in o) at.holds.list in
    let area : new.area ≡ old.area = ap (λ (h : Held). h.area) answers.1 in
    let gate : length (records (payloads_of setup side.records)) ≡ gate_of old = ap (λ (l : List (List ℕ)). length (records l)) (sym at.holds.list) in
    let still = subst (λ (o : Option Told). RestsStill old.area (payloads_of setup side.records) (payloads_of setup side.records ++ payload_in x ∷ []) o told_new) at.told (rests (payloads_of setup side.records) gate) in
    let rested = subst (λ (o : Option Told). IfSome o (λ u. RestsAt u.trail old.area (payloads_of setup side.records ++ payload_in x ∷ []))) told (still at.rests) in (
      area,
      record {
        whole = ap (λ (h : Held). h.broken) answers.1 ∙ at.whole;
        told = told;
        holds = record { list = list; formed = at.holds.formed; log = (log-grows (party_of setup)).more side.records x at.holds.log may };
        rests = subst (λ (a : Area). RestsAt after.trail a (payloads_of setup (side.records ++ x ∷ []))) (sym area) (subst (RestsAt after.trail old.area) more rested);
        ledger = at.ledger;
      },
    )

-- where a call of a list failed the site tells
fails-some : (calls : List (Option Event)) (t : Told) (new : Option Told) → FailsAmong calls (Some t) new → (u : Told) × (new ≡ Some u)
fails-some calls t new (n, call, get, fails) = at call fails
  where
    at : (c : Option Event) → FailsAt c (option_map (made (length (take n calls)) (events_in (take n calls))) (Some t)) new → (u : Told) × (new ≡ Some u)
    at None h = (call_failed [] (made (length (take n calls)) (events_in (take n calls)) t), h)
    at (Some event) (events, is, h) = (call_failed events (made (length (take n calls)) (events_in (take n calls)) t), h)

pub append-breaks : AppendBreaks
unfolding Holds
append-breaks x old new told_old told_new book setup side t at answers =
    let q = payload_in x in
    let here = subst (λ (o : Option Told). FailsAmong (calls_of (append_events old.area (length (records old.payloads)) q)) o told_new) at.told answers.2 in
    let fails = subst (λ (l : List (List ℕ)). FailsAmong (calls_of (append_events old.area (length (records l)) q)) (Some t) told_new) at.holds.list here in
    let some = fails-some _ t told_new fails in (
      ap (λ (h : Held). h.broken) answers.1,
      (some.0, some.1, inl (subst (λ (o : Option Told). FailsAmong (calls_of (append_events old.area (length (records (payloads_of setup side.records))) q)) (Some t) o) some.1 fails)),
    )

-- ---- an operation

pub cut-self : (es : List Event) → IsCut es es
cut-self es = subst (λ (l : List Event). IsCut l es) (append-nil es) (cut_whole es [] es refl)

pub act-goes : ActGoes
act-goes s op terms answer events g told_old told_new book_old book_new setup side t at acts asks keeps =
    let o = operation side.book op s terms in
    let whole = operation_events o op s terms in
    let after = asked (Act op s terms) whole t in
    let told : told_new ≡ Some after =
    asks ∙ ap (option_map (asked (Act op s terms) events)) at.told ∙ ap (λ (es : List Event). let u : Option Told = Some (asked (Act op s terms) es t) in u) acts.2 in (
      (
        refl,
        record {
          whole = at.whole;
          told = told;
          holds = at.holds;
          rests = λ image is. at.rests image (quiet_cut t.trail (area_of g) whole whole (λ n z. quiet_front o op s terms n (area_of g) z) (cut-self whole) (keeps after told) image is);
          ledger = acts.1;
        },
      ),
      acts.0,
    )

-- an operation that failed took effect or did not
took : (op : LedgerOp) (s : SessionId) (terms : Terms) (b : Book) (fault : ActFault) (events : List Event) (new : Option Book) → ActsOn op s terms b (Err fault) events new
    → (events ≡ []) ⊎ (events ≡ operation_events (operation b op s terms) op s terms)
took op s terms b Failed events new (inl h) = inl h.0
took op s terms b Failed events new (inr h) = inr h.0
took op s terms b (OutOfOrder entry) events new h = inl h.2

pub act-breaks : ActBreaks
act-breaks s op terms fault events old new told_old told_new book_old book_new setup side t at acts asks broken = (broken, by-told asks)
  where
    events-are : (events ≡ []) ⊎ (events ≡ operation_events (operation side.book op s terms) op s terms)
    events-are = took op s terms side.book fault events book_new acts

    by-told : MayMiss (ask_failed (Act op s terms) events) events told_old told_new → (u : Told) × (told_new ≡ Some u) × StopsIn (kept_of (area_of old) setup side) (steps_of (Acts s op terms ∷ [])) t u
    by-told (inl e) = (ask_failed (Act op s terms) events t, e ∙ ap (option_map (ask_failed (Act op s terms) events)) at.told, inl (events, events-are, inl refl))
    by-told (inr e) = (call_failed events t, e ∙ ap (option_map (call_failed events)) at.told, inl (events, events-are, inr refl))

-- ---- saying

pub saying-goes : SayingGoes
saying-goes g site setup side t text at = (refl, at)

-- ---- moves after moves

pub moves-go-on : MovesGoOn
moves-go-on old mid new setup side first later t between site = record {
  goes = λ a b. (
    b.0 ∙ a.0,
    subst (λ (z : Side). IsAt new site setup z (told_steps (kept_of (area_of old) setup side) (steps_of (first ++ later)) t)) (sym (moved-append side first later))
        (subst (λ (u : Told). IsAt new site setup (moved_by (moved_by side first) later) u) (sym (told-moves (area_of old) setup side first later t))
        (subst (λ (area : Area). IsAt new site setup (moved_by (moved_by side first) later) (told_steps (kept_of area setup (moved_by side first)) (steps_of later) (told_steps (kept_of (area_of old) setup side) (steps_of first) t))) a.0 b.1)),
  );
  breaks = λ a b. (
    b.0,
    (
      b.1.0,
      b.1.1,
      subst (λ (l : List Step). StopsIn (kept_of (area_of old) setup side) l t b.1.0) (sym (map-append step_of first later))
          (stops-later (steps_of first) (steps_of later) (kept_of (area_of old) setup side) t b.1.0
          (subst (λ k. StopsIn k (steps_of later) (told_steps (kept_of (area_of old) setup side) (steps_of first) t) b.1.0) (sym (kept-moves (area_of old) setup side first))
          (subst (λ (area : Area). StopsIn (kept_of area setup (moved_by side first)) (steps_of later) (told_steps (kept_of (area_of old) setup side) (steps_of first) t) b.1.0) a.0 b.1.2))),
    ),
  );
  broke = λ b. (
    b.0,
    (b.1.0, b.1.1, subst (λ (l : List Step). StopsIn (kept_of (area_of old) setup side) l t b.1.0) (sym (map-append step_of first later)) (stops-first (steps_of first) (steps_of later) (kept_of (area_of old) setup side) t b.1.0 b.1.2)),
  );
}
