-- What an opening makes of a closed gateway, and what it leaves at each of its events.
use Rattle.std.proofs.Common.{◌≡◌, ℕ, inl, inr, List, [], ◌∷◌, ◌++◌, length, Option, Some, None, option_map, Result, Ok, Err, refl, sym, ap, ap₂, subst, ◌∙◌, ⊎_elim}
use Rattle.std.specs.Prelude.{take}
use Rattle.satp_base.specs.Calls.{Told, asked, events_in, made}
use Rattle.satp_base.specs.Format.{Stands, records}
use Rattle.satp_base.specs.Founding.{Founding}
use Rattle.satp_base.specs.Laws.{RestsAt}
use Rattle.satp_base.specs.LedgerAt.{ledger_at}
use Rattle.satp_base.specs.Ledgers.{Entries}
use Rattle.satp_base.specs.Segments.{IsCut, mend_events, open_events}
use Rattle.satp_base.specs.Trail.{Trail, IsImage, KeepsModel, extended, seen}
use Rattle.satp_base.specs.declared.area.Area.{Area}
use Rattle.satp_base.specs.declared.area.Area.TheVariants.{JournalA}
use Rattle.satp_base.specs.declared.area.Event.{Event as DiskEvent}
use Rattle.satp_base.specs.declared.area.Event.TheVariants.{Synced}
use Rattle.satp_base.specs.declared.ledger.LedgerCall.TheVariants.{Raise}
use Rattle.satp_base.proofs.Closing.{rest_stands}
use Rattle.satp_base.proofs.Cuts.{cut_front, cut_left}
use Rattle.satp_base.proofs.Made.{among_cut, made_grows}
use Rattle.satp_base.proofs.Readings.{one_list}
use Rattle.satp_base.proofs.Reopens.{reopen_reads}
use Rattle.satp_base.proofs.Standings.{here_settled, reads_along}
use Rattle.satp_base.proofs.Trails.{extended_none, keeps_before, keeps_front}
use Rattle.satp_gateway.specs.Opening.{GatewayOpens, IsOf, OpensOr}
use Rattle.satp_gateway.specs.SettingUp.{Opens}
use Rattle.satp_gateway.specs.declared.fault.OpenFault.{OpenFault}
use Rattle.satp_gateway.specs.declared.fault.OpenFault.TheVariants as fault
use Rattle.satp_gateway.proofs.Deciding.{opens_stands}
use Rattle.satp_gateway.proofs.Raising.{SameTrail, asked_stays, failed_stays}
use Rattle.satp_journal.specs.Opening.{Finds, OpenAnswers, open_calls, read_calls}
use Rattle.satp_journal.specs.State.{Held, JournalState, gate_of}
use Rattle.satp_journal.specs.declared.fault.JournalFault.{JournalFault}
use Rattle.satp_journal.specs.declared.fault.JournalFault.TheVariants.{Disk, Damaged, Memory, Broken}
use Rattle.satp_journal.proofs.AppendLemmas.{trail_is}
use Rattle.satp_journal.proofs.OpenLemmas.{cut_self, opened_events}
use Rattle.satp_log.specs.Journals.{IsJournal, party_of, payload_in, payloads_of}
use Rattle.satp_log.proofs.JournalLemmas.{one-journal}
use Rattle.satp_point_laws.proofs.Kept.{moved-append}
use Rattle.satp_point_laws.proofs.StopLaw.{log-before, points-reopen-end}
use Rattle.satp_points.specs.States.{GatewayState, Holds, IsAt, Tells, kept_of, steps_of}
use Rattle.satp_records.specs.declared.stored.Setup.{Setup}
use Rattle.satp_sides.specs.Logs.{IsLog}
use Rattle.satp_sides.specs.Points.{Move, Side, Stored, moved_by}
use Rattle.satp_stops.specs.Stops.{AllPayloads, Kept, RestsIn}
use Rattle.satp_stops.proofs.Reopening.{points_stay}
use Rattle.satp_world.specs.Histories.{after_moves}
use Rattle.satp_world.specs.Worlds.{Gateway, Setting, World, side_at}
use Rattle.satp_life_laws.specs.Closed.{IsClosed, IsOpen, append_of, founding_at}
use Rattle.satp_life_laws.specs.Life.{ClosedOpen, OpeningsStand, OpeningsStayClosed}
use Rattle.satp_life_laws.proofs.Founded.{founded-at}
use Rattle.satp_life_laws.proofs.Points.{log-after, payloads, reached-after, same-book, side-after}

-- ---- the events of an opening

-- whatever list was read, what was added is a cut of its opening
abbrev Cuts : Told → Told → Type 0
Cuts t u =
    (events : List DiskEvent) × (u.trail ≡ extended t.trail events)
    × ((list : List (List ℕ)) → Stands (seen t.trail JournalA) list → IsCut (open_events JournalA (seen t.trail JournalA) (length (records list))) events)

module _ (t : Told) where
  -- a cut of the first sync alone
  first-sync : (events : List DiskEvent) → IsCut (Synced JournalA ∷ []) events → (list : List (List ℕ)) → Stands (seen t.trail JournalA) list → IsCut (open_events JournalA (seen t.trail JournalA) (length (records list))) events
  first-sync events cut list stands = cut_left (Synced JournalA ∷ []) (mend_events JournalA (seen t.trail JournalA) (length (records list))) events cut

  -- the list that was found is the one that the area stands for
  found : (held : Held) (image : List ℕ) (events : List DiskEvent) → Finds JournalA (Some t) held image → IsCut (events_in (open_calls JournalA image (gate_of held))) events
      → (list : List (List ℕ)) → Stands (seen t.trail JournalA) list → IsCut (open_events JournalA (seen t.trail JournalA) (length (records list))) events
  found held image events finds cut list stands =
      let same : held.payloads ≡ list = one_list image held.payloads list finds.1 (subst (λ (l : List ℕ). Stands l list) (sym finds.0) stands) in
      let whole : events_in (open_calls JournalA image (gate_of held)) ≡ open_events JournalA (seen t.trail JournalA) (length (records list)) =
      opened_events JournalA image (gate_of held) ∙ ap (λ (l : List ℕ). open_events JournalA l (gate_of held)) finds.0 ∙ ap (λ (l : List (List ℕ)). open_events JournalA (seen t.trail JournalA) (length (records l))) same in
      subst (λ (l : List DiskEvent). IsCut l events) whole cut

  synced : (n : ℕ) (u : Told) → Some u ≡ option_map (made n (Synced JournalA ∷ [])) (Some t) → Cuts t u
  synced n u is = (Synced JournalA ∷ [], trail_is t u (Synced JournalA ∷ []) (made_grows n (Synced JournalA ∷ []) (Some t) (Some u) is), first-sync (Synced JournalA ∷ []) (1, inl refl))

  opening-cuts : (u : Told) (result : Result JournalState JournalFault) → OpenAnswers JournalA (Some t) (Some u) result → Cuts t u
  opening-cuts u (Ok journal) (image, finds, is) =
      let calls = open_calls JournalA image (gate_of journal.held) in
      (events_in calls, trail_is t u (events_in calls) (made_grows (length calls) (events_in calls) (Some t) (Some u) is), found journal.held image (events_in calls) finds (cut_self (events_in calls)))
  opening-cuts u (Err Disk) (inl fails) = let r = among_cut (read_calls JournalA) (Some t) (Some u) fails in (r.0, trail_is t u r.0 r.2, first-sync r.0 r.1)
  opening-cuts u (Err Disk) (inr (image, held, finds, fails)) =
      let r = among_cut (open_calls JournalA image (gate_of held)) (Some t) (Some u) fails in (r.0, trail_is t u r.0 r.2, found held image r.0 finds r.1)
  opening-cuts u (Err (Damaged at)) (image, read, damage, is) = synced 3 u is
  opening-cuts u (Err Memory) (inl is) = synced 2 u is
  opening-cuts u (Err Memory) (inr is) = synced 3 u is
  opening-cuts u (Err Broken) answers = absurd answers

  -- and then the ledger was opened, or not
  raised-cuts : (opened : Option Told) (u : Told) (result : Result JournalState JournalFault) → OpenAnswers JournalA (Some t) opened result → SameTrail opened (Some u) → Cuts t u
  raised-cuts None u result answers same = absurd (cc same)
  raised-cuts (Some v) u result answers same =
      let (events, e, cuts) = opening-cuts v result answers in
      let trail : v.trail ≡ u.trail = cc same in
      (events, sym trail ∙ e, cuts)

  by-opens : (list : List (List ℕ)) (u : Told) → Opens list (Some t) (Some u) → Cuts t u
  by-opens list u (journal, is, answers) = opening-cuts u (Ok journal) answers

  gateway-cuts : (old new : Tells) (result : Result GatewayState OpenFault) (u : Told) → old.told ≡ Some t → new.told ≡ Some u → GatewayOpens old new result → Cuts t u
  gateway-cuts old new (Ok state) u is there (list, opened, (journal, same, answers), of, told) =
      raised-cuts opened u (Ok journal) (subst (λ (o : Option Told). OpenAnswers JournalA o opened (Ok journal)) is answers) (subst (SameTrail opened) there (asked_stays opened new.told told))
  gateway-cuts old new (Err fault.Site) u is there (inl fails) = opening-cuts u (Err Disk) (subst (λ (o : Option Told). OpenAnswers JournalA (Some t) o (Err Disk)) there (subst (λ (o : Option Told). OpenAnswers JournalA o new.told (Err Disk)) is fails))
  gateway-cuts old new (Err fault.Site) u is there (inr (list, opened, (journal, same, answers), some, fails)) =
      raised-cuts opened u (Ok journal) (subst (λ (o : Option Told). OpenAnswers JournalA o opened (Ok journal)) is answers) (subst (SameTrail opened) there (failed_stays opened new.told fails))
  gateway-cuts old new (Err fault.Empty) u is there opens = by-opens [] u (subst (λ (o : Option Told). Opens [] (Some t) o) there (subst (λ (o : Option Told). Opens [] o new.told) is opens))
  gateway-cuts old new (Err (fault.Record index)) u is there (list, opens, first) = by-opens list u (subst (λ (o : Option Told). Opens list (Some t) o) there (subst (λ (o : Option Told). Opens list o new.told) is opens))
  gateway-cuts old new (Err (fault.Damaged at)) u is there fails =
      opening-cuts u (Err (Damaged at)) (subst (λ (o : Option Told). OpenAnswers JournalA (Some t) o (Err (Damaged at))) there (subst (λ (o : Option Told). OpenAnswers JournalA o new.told (Err (Damaged at))) is fails))
  gateway-cuts old new (Err fault.Memory) u is there (inl fails) =
      opening-cuts u (Err Memory) (subst (λ (o : Option Told). OpenAnswers JournalA (Some t) o (Err Memory)) there (subst (λ (o : Option Told). OpenAnswers JournalA o new.told (Err Memory)) is fails))
  gateway-cuts old new (Err fault.Memory) u is there (inr (list, opens)) = by-opens list u (subst (λ (o : Option Told). Opens list (Some t) o) there (subst (λ (o : Option Told). Opens list o new.told) is opens))

-- ---- what is read

seen-image : (t : Trail) (area : Area) → KeepsModel t → IsImage t area (seen t area)
seen-image t area keeps = reads_along area t.events _ (here_settled (t.start area)) (keeps area)

-- the area reads as some list
reads-by : (t : Trail) (k : Kept) (next : Option Stored) → AllPayloads (steps_of (append_of next)) → RestsIn t k (steps_of (append_of next)) → KeepsModel t → (list : List (List ℕ)) × Stands (seen t k.area) list
reads-by t k None ok rests keeps = (k.payloads, rest_stands k.payloads (seen t k.area) (⊎_elim (λ rest. rest) (λ none. absurd none) (rests.images (seen t k.area) (seen-image t k.area keeps))))
reads-by t k (Some x) ok rests keeps = let r = reopen_reads t k.area k.payloads (payload_in x) ok.0 (λ image is. ⊎_elim inl (λ next. next) (rests.images image is)) keeps in (r.0, r.1)

take-first : (ms ns : List Move) → take (length ms) (ms ++ ns) ≡ ms
take-first [] ns = refl
take-first (m ∷ ms) ns = ap (λ (l : List Move). m ∷ l) (take-first ms ns)

module _ (st : Setting) (a b : Founding) (g : Gateway) (setup : Setup) (w : World) (t : Trail) (is : IsClosed st a b g setup w t) (keeps : KeepsModel t) where
  abbrev moves : List Move
  moves = append_of is.next

  abbrev side : Side
  side = side_at w g

  reads : (list : List (List ℕ)) × Stands (seen t JournalA) list
  reads = reads-by t (kept_of JournalA setup side) is.next (payloads st a b g setup w t is) is.rests keeps

  -- the list that was read is the journal of the side, with the record or without it
  record Read (list : List (List ℕ)) : Type 0 where
    n : ℕ
    journal : IsJournal list setup (moved_by side (take n moves)).records
    rests : RestsAt (extended t (open_events JournalA (seen t JournalA) (length (records list)))) JournalA (payloads_of setup (moved_by side (take n moves)).records)

  read : (list : List (List ℕ)) → Stands (seen t JournalA) list → Read list
  read list stands =
      let (done, rest, e, same, rests) = points-reopen-end t JournalA setup side moves list (log-after st a b g setup w t is) ([], moves, refl, is.rests) keeps stands in
      let first : done ≡ take (length done) moves = sym (take-first done rest) ∙ ap (take (length done)) e in
      let log : IsLog (party_of setup) (moved_by side done).records =
      log-before (party_of setup) (moved_by side done) rest (subst (λ (s : Side). IsLog (party_of setup) s.records) (ap (moved_by side) (sym e) ∙ moved-append side done rest) (log-after st a b g setup w t is)) in
      let journal : IsJournal list setup (moved_by side done).records = record { list = same; formed = is.formed; log = log } in
      let at : RestsAt (extended t (open_events JournalA (seen t JournalA) (length (records list)))) JournalA (payloads_of setup (moved_by side done).records) = λ image here. ⊎_elim (λ r. r) (λ none. absurd none) (rests.images image here) in
      record {
        n = length done;
        journal = subst (λ (ms : List Move). IsJournal list setup (moved_by side ms).records) first journal;
        rests = subst (λ (ms : List Move). RestsAt (extended t (open_events JournalA (seen t JournalA) (length (records list)))) JournalA (payloads_of setup (moved_by side ms).records)) first at;
      }

-- ---- the laws

module _ (st : Setting) (a b : Founding) (g : Gateway) (setup : Setup) (w : World) (t : Trail) (is : IsClosed st a b g setup w t) (events : List DiskEvent)
    (cuts : (list : List (List ℕ)) → Stands (seen t JournalA) list → IsCut (open_events JournalA (seen t JournalA) (length (records list))) events) where
  stays-at : (k : ℕ) → KeepsModel (extended t (take k events)) → IsClosed st a b g setup w (extended t (take k events))
  stays-at k kept =
      let r = reads st a b g setup w t is (keeps_before t (take k events) kept) in
      record {
        reached = is.reached;
        party = is.party;
        formed = is.formed;
        next = is.next;
        may = is.may;
        rests = points_stay t (kept_of JournalA setup (side_at w g)) (steps_of (append_of is.next)) r.0 (take k events) (payloads st a b g setup w t is) is.rests r.1 (cut_front _ events (cuts r.0 r.1) k) kept;
      }

pub openings-stay-closed : OpeningsStayClosed
openings-stay-closed st a b g setup w before site result t told is old opens there keeps =
    let (events, e, cuts) = gateway-cuts t before site result told old there opens in
    let kept : KeepsModel (extended t.trail events) = subst KeepsModel e keeps in
    (events, e, λ k. stays-at st a b g setup w t.trail is events cuts k (keeps_front t.trail events k kept))

opened-or : (P : GatewayState → Type 0) (result : Result GatewayState OpenFault) → OpensOr P result → OpensOr (λ state. Unit {0}) result
opened-or P (Ok state) is = tt
opened-or P (Err f) is = is

pub closed-open : ClosedOpen
closed-open st a b g setup w t result is keeps decided =
    let r = reads st a b g setup w t.trail is keeps in
    let point = read st a b g setup w t.trail is keeps r.0 r.1 in
    opened-or (IsOf r.0) result (decided.opens r.0 (setup, (moved_by (side_at w g) (take point.n (append_of is.next))).records, point.journal) r.1)

module _ (st : Setting) (a b : Founding) (g : Gateway) (setup : Setup) (w : World) (state : GatewayState) (before site : Tells) (t : Told) (is : IsClosed st a b g setup w t.trail) where
  abbrev After : ℕ → World
  After n = after_moves w g (take n (append_of is.next))

  abbrev later : ℕ → Side
  later n = moved_by (side_at w g) (take n (append_of is.next))

  -- the ledger that is told is that of the side
  same-ledger : (n : ℕ) → site.book ≡ before.book → before.book ≡ Some (record { genesis = founding_at a b g; entries = ledger_at t.trail.entries t.trail.events }) → site.book ≡ Some (later n).book
  same-ledger n left tells =
      let book : record { genesis = founding_at a b g; entries = ledger_at t.trail.entries t.trail.events } ≡ (side_at w g).book =
      ap₂ (λ (f : Founding) (e : Entries). record { genesis = f; entries = e }) (sym (founded-at st a b w is.reached g)) is.rests.ledger in
      left ∙ tells ∙ ap Some (book ∙ sym (same-book st a b g setup w t.trail is n))

  held : (list : List (List ℕ)) (n : ℕ) → IsJournal list setup (later n).records → IsOf list state → Holds state setup (later n).records
  held list n journal (other, xs, read, holds, whole, area) =
      let same = one-journal list other setup xs (later n).records read journal in
      subst (λ (s : Setup). Holds state s (later n).records) same.0 (subst (Holds state other) same.1 holds)

  opened-at : (list : List (List ℕ)) (n : ℕ) (told : Told) → IsOf list state → IsJournal list setup (later n).records → RestsAt told.trail JournalA (payloads_of setup (later n).records)
      → site.told ≡ Some told → site.book ≡ Some (later n).book → IsOpen st a b g setup (After n) state site told
  opened-at list n told of journal rests there ledger =
      let (other, xs, read, holds, whole, area) = of in
      let here : IsAt state site setup (later n) told = record {
        whole = whole;
        told = there;
        holds = held list n journal of;
        rests = subst (λ (x : Area). RestsAt told.trail x (payloads_of setup (later n).records)) (sym area) rests;
        ledger = ledger;
      } in
      record {
        reached = reached-after st a b g setup w t.trail is n;
        area = area;
        stands = record { party = is.party; at = subst (λ (s : Side). IsAt state site setup s told) (sym (side-after w g (later n) _)) here };
      }

pub openings-stand : OpeningsStand
openings-stand st a b g setup w state before site t is old tells keeps (list, opened, (journal, same, (image, finds, makes)), of, told) left =
    let opens : Opens list (Some t) opened = subst (λ (o : Option Told). Opens list o opened) old (journal, same, (image, finds, makes)) in
    let stands = opens_stands list t opened opens in
    let point = read st a b g setup w t.trail is keeps list stands in
    let calls = open_calls JournalA image (gate_of journal.held) in
    let between : Told = made (length calls) (events_in calls) t in
    let there : opened ≡ Some between = makes ∙ ap (option_map (made (length calls) (events_in calls))) old in
    let last : Told = asked Raise [] between in
    let seen-is : image ≡ seen t.trail JournalA = (subst (λ (o : Option Told). Finds JournalA o journal.held image) old finds).0 in
    let trail : last.trail ≡ extended t.trail (open_events JournalA (seen t.trail JournalA) (length (records list))) =
    extended_none between.trail ∙ ap (extended t.trail) (opened_events JournalA image (gate_of journal.held) ∙ ap (λ (l : List ℕ). open_events JournalA l (gate_of journal.held)) seen-is ∙ ap (λ (l : List (List ℕ)). open_events JournalA (seen t.trail JournalA) (length (records l))) same) in (
      point.n,
      last,
      opened-at st a b g setup w state before site t is list point.n last of point.journal
          (subst (λ (x : Trail). RestsAt x JournalA (payloads_of setup (moved_by (side_at w g) (take point.n (append_of is.next))).records)) (sym trail) point.rests)
          (told ∙ ap (option_map (asked Raise [])) there) (same-ledger st a b g setup w state before site t is point.n left tells),
    )
