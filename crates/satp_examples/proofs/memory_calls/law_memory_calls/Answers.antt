use Rattle.std.proofs.Common.{◌≡◌, ◌≤◌, ◌==◌, ℕ, true, false, Bool, List, [], ◌∷◌, ◌++◌, length, Option, Some, None, refl, sym, ap, ◌∙◌, subst, inl, inr, arith, lit≤}
use Rattle.std.specs.List.{list_any}
use Rattle.std.proofs.lemmas.List.{append-nil}
use Rattle.satp_base.specs.Calls.{Ask}
use Rattle.satp_base.specs.Money.{Book}
use Rattle.satp_base.specs.Streams.{Rose}
use Rattle.satp_base.specs.Trail.{Trail}
use Rattle.satp_base.specs.declared.area.Area.TheVariants.{JournalA}
use Rattle.satp_base.specs.declared.area.Event.{Event}
use Rattle.satp_base.specs.declared.area.Event.TheVariants.{Founded, Left}
use Rattle.satp_base.specs.declared.ledger.Entry.TheVariants.{Absent}
use Rattle.satp_base.specs.declared.ledger.LedgerKind.TheVariants.{Accounts}
use Rattle.satp_memory.specs.Calling.{Calling, failed, fresh, is_due, is_refused, naming, succeeded}
use Rattle.satp_memory.specs.Disk.{is_plain}
use Rattle.satp_memory.specs.Following.{Changes, DiskCalls, Done, Follows, FollowsDisk, FollowsSite, HasMisfit, HasTrouble, IsWithin, has_founded, is_founding}
use Rattle.satp_memory.specs.FollowingLaws.{follows_disk_same, follows_site_same}
use Rattle.satp_memory.specs.Steps.{is_stopped}
use Rattle.satp_memory.specs.Stopping.{is_reached, stop_after}
use Rattle.satp_memory.proofs.Keeping.{calls_keep, disk_calls_keep}
use Rattle.satp_memory.specs.declared.disk.MemDisk.{MemDisk}
use Rattle.satp_memory.specs.declared.stop.Stop.{Stop}
use Rattle.satp_examples.specs.Disks.{one_write, three}
use Rattle.satp_examples.specs.Ledgers.{new_book}
use Rattle.satp_examples.specs.MemoryCalls.{Adds, AsksNothing, HasSynced}
use Rattle.satp_examples.specs.MemoryDisks.{Counts, HasStopped, IsNamed, Runs, synced}
use Rattle.satp_examples.proofs.Books.{burn_of_nothing}
use Rattle.satp_examples.proofs.memory_calls.law_memory_calls.Goals as goal

-- ---- disks

a_sync : (old new : MemDisk) → Runs old → HasSynced old new → DiskCalls (record { call = Changes synced; ending = Done } ∷ []) old new
a_sync old new s h =
    let count : old.calls.count ≡ 0 = ap (λ (c : Calling). c.count) s.counted in
    let faults : new.calls.faults ≡ old.calls.faults = ap (λ (c : Calling). c.faults) h.counted in
    let wants : new.calls.wants ≡ old.calls.wants = ap (λ (c : Calling). c.wants) h.counted in (
      new,
      tt,
      record {
        disk = record {
          stop = h.stops;
          named = ap (λ (c : Calling). c.named) h.counted;
          added = synced ∷ [];
          trail = h.trail;
          plain = refl;
          within = subst (λ (x : Option Stop). IsWithin x (length old.events.items) (length new.events.items)) (sym s.stops) tt;
          noted = [];
          asks = h.asked ∙ sym (append-nil old.asks.items);
          founded = refl;
          count = omega (arith, count, ap (λ (c : Calling). c.count) h.counted);
          faults = omega (arith, faults);
          wants = omega (arith, wants);
        };
        ended = (rw (s.stops, s.counted) refl, h.counted);
        adds = refl;
        notes = refl;
      },
      refl,
    )

past_its_stop : (old new : MemDisk) → HasStopped old → Adds (synced ∷ []) old new → ¬ Follows old new
past_its_stop old new s a f =
    let stop : IsWithin (Some (stop_after 1 0 0)) (length old.events.items) (length new.events.items) =
    subst (λ (x : Option Stop). IsWithin x (length old.events.items) (length new.events.items)) s.stops f.within in
    let one : IsWithin (Some (stop_after 1 0 0)) 1 (length new.events.items) = subst (λ n. IsWithin (Some (stop_after 1 0 0)) n (length new.events.items)) (ap length a.0) stop in
    let bad : 2 ≤ 1 = subst (λ n. IsWithin (Some (stop_after 1 0 0)) 1 n) (ap length a.1) one in absurd (omega (arith, bad))

-- the events after the first one
events_added : (old new : MemDisk) → old.events.items ≡ one_write → (f : Follows old new) → new.events.items ≡ one_write ++ f.added
events_added old new before f = ap (λ (t : Trail). t.events) f.trail ∙ ap (λ (xs : List Event). xs ++ f.added) before

added_is : (es : List Event) (old new : MemDisk) → Adds es old new → (f : Follows old new) → es ≡ f.added
added_is es old new a f = after_one es f.added (sym a.1 ∙ events_added old new a.0 f)
  where
    after_one : (es fs : List Event) → one_write ++ es ≡ one_write ++ fs → es ≡ fs
    after_one es fs e = cc

bytes_left : (old new : MemDisk) → Adds (Left JournalA three ∷ []) old new → ¬ Follows old new
bytes_left old new a f = let bad : false ≡ true = ap is_plain (added_is (Left JournalA three ∷ []) old new a f) ∙ f.plain in absurd cc

event_gone : (old new : MemDisk) → old.events.items ≡ one_write → new.events.items ≡ [] → ¬ Follows old new
event_gone old new before now f = let bad : [] ≡ one_write ++ f.added = sym now ∙ events_added old new before f in absurd cc

none_noted : (old new : MemDisk) → new.asks.items ≡ old.asks.items → (f : Follows old new) → f.noted ≡ []
none_noted old new same f = none_added old.asks.items f.noted (sym same ∙ f.asks)
  where
    none_added : (xs ys : List Ask) → xs ≡ xs ++ ys → ys ≡ []
    none_added [] ys e = sym e
    none_added (x ∷ xs) ys e = none_added xs ys cc

not_founded : (old new : MemDisk) → new.asks.items ≡ old.asks.items → (f : Follows old new) → list_any is_founding f.added ≡ false
not_founded old new same f = f.founded ∙ ap (list_any has_founded) (none_noted old new same f)

founded_unasked : (old new : MemDisk) → Adds (Founded ∷ []) old new → AsksNothing old → AsksNothing new → ¬ Follows old new
founded_unasked old new a before now f =
    let bad : true ≡ false = ap (list_any is_founding) (added_is (Founded ∷ []) old new a f) ∙ not_founded old new (now ∙ sym before) f in absurd cc

count_falls : (old new : MemDisk) → Counts old (succeeded fresh) → Counts new fresh → ¬ Follows old new
count_falls old new before now f =
    let was : old.calls.count ≡ 1 = ap (λ (c : Calling). c.count) before in
    let is : new.calls.count ≡ 0 = ap (λ (c : Calling). c.count) now in
    let kept = f.count in absurd (omega (arith, was, is, kept))

pub returns-clause-disks : goal.returns-clause-disks
returns-clause-disks c = record {
  over_no_call = follows_disk_same;
  over_a_sync = λ old new s h. (record { call = Changes synced; ending = Done } ∷ [], a_sync old new s h);
  not_without_its_stop = λ old new s none f. let bad : None ≡ Some (stop_after 1 0 0) = sym none ∙ (f.stop ∙ s.stops) in absurd cc;
  not_with_another_stop = λ old new s n f. let bad : Some (stop_after 1 0 0) ≡ None = sym n.stops ∙ (f.stop ∙ s.stops) in absurd cc;
  not_past_its_stop = past_its_stop;
  not_without_the_named_call = λ old new s n f. let bad : [] ≡ 1 ∷ [] = sym (ap (λ (x : Calling). x.named) n) ∙ (f.named ∙ ap (λ (x : Calling). x.named) s.counted) in absurd cc;
  not_with_bytes_that_a_failure_left = bytes_left;
  not_without_an_event_before = event_gone;
  not_founded_where_nothing_was_asked = founded_unasked;
  not_with_a_count_that_falls = count_falls;
  up_to_the_stop = lit≤ tt;
  not_after_the_stop = λ h. let bad : 3 ≤ 2 = h in absurd (omega (arith, bad));
}

-- ---- one call

refused_stopped : (old : MemDisk) → HasStopped old → is_refused (is_stopped old) old.calls ≡ true
refused_stopped old s = rw (s.stops, s.happened) refl

refused_named : (old : MemDisk) → IsNamed old → is_refused (is_stopped old) old.calls ≡ true
refused_named old s = rw (s.stops, s.counted) refl

not_due : (old : MemDisk) → Runs old → is_due old.calls ≡ false
not_due old s = rw s.counted refl

still_runs : (old : MemDisk) → Runs old → is_stopped old ≡ false
still_runs old s = rw s.stops refl

both : (b : Bool) → b ≡ true → b ≡ false → ⊥
both b t f = let bad : true ≡ false = sym t ∙ f in absurd cc

pub returns-clause-calls : goal.returns-clause-calls
returns-clause-calls c = record {
  a_sync = a_sync;
  not_done_after_a_stop = λ old new s h. both _ (refused_stopped old s) h.0;
  not_done_where_named = λ old new s h. both _ (refused_named old s) h.0;
  not_named_without_a_name = λ old new s h. both _ h.1 (not_due old s);
  not_stopped_while_it_runs = λ old new s h. both _ h.0 (still_runs old s);
  a_named_write = refl;
  not_a_named_write_without_effect = λ h. let bad = h in absurd cc;
  a_named_sync = refl;
  not_a_named_sync_with_effect = λ h. let bad = h in absurd cc;
  not_an_event_after_a_stop = λ h. let bad = h in absurd cc;
  no_ledger_after_a_founding_that_failed = refl;
  not_a_ledger_lost_by_a_raise = λ h. let bad = h in absurd cc;
}

-- ---- causes

no_want : (x y : ℕ) → x ≡ 0 → y ≡ 0 → Rose x y → ⊥
no_want x y was is rose = let bad : 1 ≤ 0 = subst (λ n. Rose 0 n) is (subst (λ n. Rose n y) was rose) in absurd (omega (arith, bad))

not_stopped : (disk : MemDisk) → disk.stop ≡ None → is_reached disk.stop (length disk.events.items) ≡ true → ⊥
not_stopped disk none stopped = let bad : false ≡ true = sym (ap (λ (x : Option Stop). is_reached x (length disk.events.items)) none) ∙ stopped in absurd cc

-- nothing was named, and no memory was wanting
no_trouble : (old new : MemDisk) → old.calls.wants ≡ 0 → new.calls.wants ≡ 0 → old.calls.named ≡ [] → new.stop ≡ None → ¬ HasTrouble old new
no_trouble old new was is named none (inl wanted) = no_want old.calls.wants new.calls.wants was is wanted
no_trouble old new was is named none (inr (inl (call, lt, le, due))) = let bad : false ≡ true = sym (ap (list_any (λ n. n == call)) named) ∙ due in absurd cc
no_trouble old new was is named none (inr (inr stopped)) = not_stopped new none stopped

named_for_later : (old new : MemDisk) → Counts old (naming 2 fresh) → Counts new (failed (naming 2 fresh)) → new.stop ≡ None → ¬ HasTrouble old new
named_for_later old new before now none (inl wanted) =
    no_want old.calls.wants new.calls.wants (ap (λ (c : Calling). c.wants) before) (ap (λ (c : Calling). c.wants) now) wanted
named_for_later old new before now none (inr (inl (call, lt, le, due))) =
    let was : old.calls.count ≡ 0 = ap (λ (c : Calling). c.count) before in
    let is : new.calls.count ≡ 1 = ap (λ (c : Calling). c.count) now in
    let one : call ≡ 1 = omega (arith, was, is, lt, le) in
    let named : list_any (λ n. n == call) (2 ∷ []) ≡ true = sym (ap (λ (c : Calling). list_any (λ n. n == call) c.named) before) ∙ due in
    let bad : false ≡ true = subst (λ k. list_any (λ n. n == k) (2 ∷ []) ≡ true) one named in absurd cc
named_for_later old new before now none (inr (inr stopped)) = not_stopped new none stopped

-- of a disk that fails for nothing
calm : (old new : MemDisk) → Runs old → Counts new (failed fresh) → new.stop ≡ old.stop → ¬ HasTrouble old new
calm old new s n stop = no_trouble old new (ap (λ (c : Calling). c.wants) s.counted) (ap (λ (c : Calling). c.wants) n) (ap (λ (c : Calling). c.named) s.counted) (stop ∙ s.stops)

no_fault_uncounted : (old new : MemDisk) → Runs old → Counts new (failed fresh) → new.calls.faults ≡ old.calls.faults → ⊥
no_fault_uncounted old new s n same =
    let was : old.calls.faults ≡ 0 = ap (λ (c : Calling). c.faults) s.counted in
    let is : new.calls.faults ≡ 1 = ap (λ (c : Calling). c.faults) n in absurd (omega (arith, was, is, same))

no_cause : (old new : MemDisk) → Runs old → Counts new (failed fresh) → ¬ FollowsDisk old new
no_cause old new s n f = let kept = disk_calls_keep old new f in elim kept.cause [ inl same ↦ no_fault_uncounted old new s n same | inr trouble ↦ calm old new s n kept.disk.stop trouble ]

named_call : (old new : MemDisk) → IsNamed old → Counts new (failed (naming 1 fresh)) → HasTrouble old new
named_call old new s n =
    let was : old.calls.count ≡ 0 = ap (λ (c : Calling). c.count) s.counted in
    let is : new.calls.count ≡ 1 = ap (λ (c : Calling). c.count) n in
    inr (inl (1, omega (arith, was), omega (arith, is), ap (λ (c : Calling). list_any (λ k. k == 1) c.named) s.counted))

pub returns-clause-causes : goal.returns-clause-causes
returns-clause-causes c = record {
  a_named_call = named_call;
  a_stop = λ old new s. inr (inr (rw (s.stops, s.happened) refl));
  want_of_memory = λ old new s n. inl (subst (λ k. Rose k new.calls.wants) (sym (ap (λ (x : Calling). x.wants) s.counted)) (subst (λ k. Rose 0 k) (sym (ap (λ (x : Calling). x.wants) n)) (lit≤ tt)));
  not_a_call_named_for_later = named_for_later;
  no_fault_without_a_cause = no_cause;
}

-- ---- sites

still : (old new : MemDisk) → Runs old → HasSynced old new → ¬ HasTrouble old new
still old new s h =
    let was : old.calls.wants ≡ 0 = ap (λ (c : Calling). c.wants) s.counted in
    no_trouble old new was (ap (λ (c : Calling). c.wants) h.counted ∙ was) (ap (λ (c : Calling). c.named) s.counted) (h.stops ∙ s.stops)

no_misfit : (old new : MemDisk) → new.asks.items ≡ old.asks.items → (f : Follows old new) → ¬ HasMisfit Accounts f.noted
no_misfit old new same f m = subst (HasMisfit Accounts) (none_noted old new same f) m

there : (b : Book) → Some b ≡ None → ⊥
there b e = cc

ledger_gone : (old new : MemDisk) → Runs old → HasSynced old new → ¬ FollowsSite Accounts (Some new_book) None old new
ledger_gone old new s h f = let all = calls_keep Accounts (Some new_book) None old new f in elim all.cause [
  | inl kept ↦ let bad = kept.1 refl in absurd cc
  | inr (inl trouble) ↦ still old new s h trouble
  | inr (inr (inl none)) ↦ there new_book none
  | inr (inr (inr m)) ↦ no_misfit old new h.asked all.disk m
]

pub returns-clause-sites : goal.returns-clause-sites
returns-clause-sites c = record {
  over_no_call = λ disk. follows_site_same Accounts (Some new_book) disk;
  not_without_its_ledger = ledger_gone;
  not_with_a_ledger_that_nobody_founded = λ old new s h f. let all = calls_keep Accounts None (Some new_book) old new f in elim all.genesis [
    | inl founded ↦ let none = not_founded old new h.asked all.disk in absurd cc
    | inr (inl same) ↦ let bad = same in absurd cc
    | inr (inr lost) ↦ there new_book lost.0
  ];
  no_fault_without_a_cause = λ old new s n before now f. let all = calls_keep Accounts (Some new_book) (Some new_book) old new f in elim all.cause [
    | inl kept ↦ no_fault_uncounted old new s n kept.0
    | inr (inl trouble) ↦ calm old new s n all.disk.stop trouble
    | inr (inr (inl none)) ↦ there new_book none
    | inr (inr (inr m)) ↦ no_misfit old new (now ∙ sym before) all.disk m
  ];
  a_fault_without_a_ledger = λ old new. inr (inl refl);
  a_founding_of_another_kind = inl (refl, refl);
  a_burn_of_nothing = inr (inl (refl, (new_book, Absent, burn_of_nothing)));
  not_a_founding_of_its_kind = λ h. elim h [ inl m ↦ (let bad = m.1 in absurd cc) | inr none ↦ none ];
  not_one_that_succeeded = λ h. elim h [ inl m ↦ (let bad = m.0 in absurd cc) | inr none ↦ none ];
  not_a_raise = λ h. elim h [ inl m ↦ m.1 | inr none ↦ none ];
}
