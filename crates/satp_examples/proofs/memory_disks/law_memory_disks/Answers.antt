use Rattle.std.proofs.Common.{◌≡◌, ℕ, Bool, true, false, List, [], ◌∷◌, ◌++◌, Option, Some, None, Err, length, refl, sym, ap, ◌∙◌, inl, inr, arith}
use Rattle.std.specs.List.{fold}
use Rattle.std.specs.Prelude.{codes}
use Rattle.satp_base.specs.Trail.{Standing as AreaStanding, next, settled, standing}
use Rattle.satp_base.specs.declared.area.Area.TheVariants.{JournalA, JournalB, Ledger}
use Rattle.satp_base.specs.declared.area.Event.{Event}
use Rattle.satp_base.specs.declared.area.Event.TheVariants.{Synced}
use Rattle.satp_base.specs.declared.ledger.LedgerCall.TheVariants.{Raise}
use Rattle.satp_memory.specs.Areas.{bytes_in}
use Rattle.satp_memory.specs.Calling.{Calling, begun, failed, fresh, is_due, is_refused, naming, succeeded, wanting}
use Rattle.satp_memory.specs.Steps.{EndsOrWants, EntersOrWants, Adds, Notes, Restarts, asking, entering, is_stopped, trail_of}
use Rattle.satp_memory.specs.Stopping.{is_reached, pick_of, stop_after}
use Rattle.satp_memory.specs.declared.disk.MemDisk.{MemDisk}
use Rattle.satp_memory.specs.declared.stop.Stop.{Stop}
use Rattle.satp_examples.specs.Disks.{behind, one_write, three}
use Rattle.satp_examples.specs.MemoryDisks.{Counts, HasStopped, IsNamed, Runs, Standing, StopsBy, synced}
use Rattle.satp_examples.proofs.memory_disks.law_memory_disks.Goals as goal

-- ---- what is known of a disk that stands so

stopped_is : (disk : MemDisk) (calls : Calling) (stop : Option Stop) (events : List Event) → Standing disk calls stop events → is_stopped disk ≡ is_reached stop (length events)
stopped_is disk calls stop events s = rw (s.stops, s.happened) refl

refused_is : (disk : MemDisk) (calls : Calling) (stop : Option Stop) (events : List Event) → Standing disk calls stop events → is_refused (is_stopped disk) disk.calls ≡ is_refused (is_reached stop (length events)) calls
refused_is disk calls stop events s = rw (s.counted, s.stops, s.happened) refl

begun_is : (disk : MemDisk) (calls : Calling) (stop : Option Stop) (events : List Event) → Standing disk calls stop events → begun (is_stopped disk) disk.calls ≡ begun (is_reached stop (length events)) calls
begun_is disk calls stop events s = rw (s.counted, s.stops, s.happened) refl

runs_on : (disk : MemDisk) → Runs disk → is_refused (is_stopped disk) disk.calls ≡ false
runs_on disk s = refused_is disk fresh None one_write s

named_fails : (disk : MemDisk) → IsNamed disk → is_refused (is_stopped disk) disk.calls ≡ true
named_fails disk s = refused_is disk (naming 1 fresh) None one_write s

stopped_fails : (disk : MemDisk) → HasStopped disk → is_refused (is_stopped disk) disk.calls ≡ true
stopped_fails disk s = refused_is disk fresh (Some (stop_after 1 0 0)) one_write s

stopped : (disk : MemDisk) → HasStopped disk → is_stopped disk ≡ true
stopped disk s = stopped_is disk fresh (Some (stop_after 1 0 0)) one_write s

runs : (disk : MemDisk) → Runs disk → is_stopped disk ≡ false
runs disk s = stopped_is disk fresh None one_write s

named_runs : (disk : MemDisk) → IsNamed disk → is_stopped disk ≡ false
named_runs disk s = stopped_is disk (naming 1 fresh) None one_write s

never_both : (b : Bool) → b ≡ true → b ≡ false → ⊥
never_both b is other = absurd cc

unlike : (x y : Calling) → x ≡ y → x.wants ≡ 0 → y.wants ≡ 1 → ⊥
unlike x y e none one = let same = ap (λ (c : Calling). c.wants) e in omega (arith, same, none, one)

-- ---- ends

counted_once : (old new : MemDisk) → Runs old → Counts new fresh → new.calls ≡ succeeded old.calls → ⊥
counted_once old new s c e = let bad : 0 ≡ 1 = ap (λ (x : Calling). x.count) (sym c ∙ (e ∙ ap succeeded s.counted)) in omega (arith, bad)

failed_with_memory : (old new : MemDisk) → Runs old → Counts new (failed fresh) → ¬ EndsOrWants {T = ℕ} {E = ℕ} old new (Err 0)
failed_with_memory old new s c (inl h) = never_both _ h.0 (runs_on old s)
failed_with_memory old new s c (inr h) = unlike (failed fresh) (wanting (begun false fresh)) (sym c ∙ (h.1 ∙ ap (λ x. wanting (begun false x)) s.counted)) refl refl

wanted_behind_stop : (old new : MemDisk) → HasStopped old → Counts new (wanting (failed fresh)) → ¬ EndsOrWants {T = ℕ} {E = ℕ} old new (Err 0)
wanted_behind_stop old new s c (inl h) = unlike (failed fresh) (wanting (failed fresh)) (sym (ap failed s.counted) ∙ (sym h.1 ∙ c)) refl refl
wanted_behind_stop old new s c (inr h) = never_both _ (stopped old s) h.0

pub returns-clause-ends : goal.returns-clause-ends
returns-clause-ends c = record {
  done = λ old new s n. (runs_on old s, n ∙ sym (ap succeeded s.counted));
  failed_where_named = λ old new s n. (named_fails old s, n ∙ sym (ap failed s.counted));
  failed_behind_a_stop = λ old new s n. (stopped_fails old s, n ∙ sym (ap failed s.counted));
  not_done_where_named = λ old new s h. never_both _ (named_fails old s) h.0;
  not_done_behind_a_stop = λ old new s h. never_both _ (stopped_fails old s) h.0;
  not_failed_for_nothing = λ old new s h. never_both _ h.0 (runs_on old s);
  not_uncounted = λ old new s n h. counted_once old new s n h.1;
  without_memory = λ old new s n. inr (runs old s, n ∙ sym (ap (λ x. wanting (begun false x)) s.counted));
  not_failed_with_memory = failed_with_memory;
  not_without_memory_behind_a_stop = wanted_behind_stop;
  not_done_without_memory = λ old new s n h. unlike (succeeded fresh) (wanting (succeeded fresh)) (sym (ap succeeded s.counted) ∙ (sym h.1 ∙ n)) refl refl;
}

-- ---- notes

begun_stopped : (old : MemDisk) → HasStopped old → begun (is_stopped old) old.calls ≡ failed fresh
begun_stopped old s = begun_is old fresh (Some (stop_after 1 0 0)) one_write s

unnoted_dir : (old new : MemDisk) → HasStopped old → Counts new (failed fresh) → old.dirs.items ≡ [] → new.dirs.items ≡ [] → ¬ EntersOrWants {T = ℕ} {E = ℕ} (codes "d") old new (Err 0)
unnoted_dir old new s c before now (inl h) = let bad : [] ≡ entering (codes "d") old false ∷ [] = sym now ∙ (h.2 ∙ ap (λ ds. ds ++ entering (codes "d") old false ∷ []) before) in absurd cc
unnoted_dir old new s c before now (inr h) = unlike (failed fresh) (wanting (failed fresh)) (sym c ∙ (h ∙ ap wanting (begun_stopped old s))) refl refl

unnoted_call : (old new : MemDisk) → HasStopped old → Counts new (failed fresh) → old.asks.items ≡ [] → new.asks.items ≡ [] → ¬ Notes {T = ℕ} {E = ℕ} Raise old new (Err 0)
unnoted_call old new s c before now (inl h) = let bad : [] ≡ asking Raise old false ∷ [] = sym now ∙ (h ∙ ap (λ xs. xs ++ asking Raise old false ∷ []) before) in absurd cc
unnoted_call old new s c before now (inr h) = let was : old.calls.wants ≡ 0 = ap (λ (x : Calling). x.wants) s.counted in let is : new.calls.wants ≡ 0 = ap (λ (x : Calling). x.wants) c in absurd (omega (arith, h.0, was, is))

pub returns-clause-notes : goal.returns-clause-notes
returns-clause-notes c = record {
  a_directory = λ old new s n d. inl (stopped_fails old s, n ∙ sym (ap failed s.counted), d);
  not_noted_for_want = λ old new s n. inr (n ∙ sym (ap wanting (begun_stopped old s)));
  not_unnoted = unnoted_dir;
  a_call = λ old new before now. now ∙ sym (ap (λ xs. xs ++ asking Raise old true ∷ []) before);
  not_done_unnoted = λ old new before now h. let bad : [] ≡ asking Raise old true ∷ [] = sym now ∙ (h ∙ ap (λ xs. xs ++ asking Raise old true ∷ []) before) in absurd cc;
  not_failed_unnoted = unnoted_call;
}

-- ---- events

abbrev then_synced : List Event
then_synced = one_write ++ synced ∷ []

longer : then_synced ≡ one_write → ⊥
longer e = absurd cc

stopped_adds : (old new : MemDisk) → HasStopped old → new.events.items ≡ then_synced → ¬ Adds {T = ℕ} {E = ℕ} synced (synced ∷ []) old new (Err 0)
stopped_adds old new s e (inl h) = longer (sym e ∙ (h.1 ∙ s.happened))
stopped_adds old new s e (inr (inl h)) = never_both _ (stopped old s) h.0
stopped_adds old new s e (inr (inr h)) = never_both _ (stopped old s) h.0

named_adds : (old new : MemDisk) → IsNamed old → new.events.items ≡ then_synced → ¬ Adds {T = ℕ} {E = ℕ} synced [] old new (Err 0)
named_adds old new s e (inl h) = never_both _ h.0 (named_runs old s)
named_adds old new s e (inr (inl h)) = longer (sym e ∙ (h.2 ∙ s.happened))
named_adds old new s e (inr (inr h)) = longer (sym e ∙ (h.2 ∙ ap (λ xs. xs ++ []) s.happened))

pub returns-clause-events : goal.returns-clause-events
returns-clause-events c = record {
  one = λ old new s e. e ∙ sym (ap (λ xs. xs ++ synced ∷ []) s.happened);
  none_behind_a_stop = λ old new s e. inl (stopped old s, e ∙ sym s.happened);
  a_named_write = λ old new s e. inr (inr (named_runs old s, ap is_due s.counted, e ∙ sym (ap (λ xs. xs ++ one_write) s.happened)));
  not_done_without_it = λ old new s e h. longer (sym (ap (λ xs. xs ++ synced ∷ []) s.happened) ∙ (sym h ∙ e));
  no_event_behind_a_stop = stopped_adds;
  not_a_named_sync = named_adds;
  not_without_the_write = λ old new before now h. let bad : synced ∷ [] ≡ then_synced = sym now ∙ (h.events ∙ ap (λ xs. xs ++ synced ∷ []) before) in absurd cc;
  not_counted_too = λ old new s n h. let bad : 1 ≡ 0 = ap (λ (x : Calling). x.count) (sym n ∙ (h.calls ∙ s.counted)) in absurd (omega (arith, bad));
  not_another_event = λ old new s e h. let bad : one_write ++ Synced JournalB ∷ [] ≡ then_synced = sym e ∙ (h.events ∙ ap (λ xs. xs ++ synced ∷ []) s.happened) in absurd cc;
}

-- ---- new disks and restarts

abbrev area_a : MemDisk → AreaStanding
area_a disk = standing (trail_of disk) JournalA

area_is : (pick : ℕ) (disk : MemDisk) → StopsBy pick disk → area_a disk ≡ standing (behind one_write) JournalA
area_is pick disk s = ap (λ es. fold (next JournalA) (settled (bytes_in disk.start JournalA)) es) s.0.happened ∙ ap (λ bytes. fold (next JournalA) (settled bytes) one_write) (s.1 JournalA)

old_bytes : (old new : MemDisk) → StopsBy 0 old → Restarts old new → bytes_in new.start JournalA ≡ three
old_bytes old new s r = (r.picked JournalA).old (ap pick_of s.0.stops) ∙ ap (λ (x : AreaStanding). x.base) (area_is 0 old s)

new_bytes : (old new : MemDisk) → StopsBy 1 old → Restarts old new → bytes_in new.start JournalA ≡ 1 ∷ 9 ∷ 3 ∷ []
new_bytes old new s r = (r.picked JournalA).new (ap pick_of s.0.stops) ∙ ap (λ (x : AreaStanding). x.now) (area_is 1 old s)

pub returns-clause-disks : goal.returns-clause-disks
returns-clause-disks c = record {
  tells_nothing = λ disk f n. rw (f.past, f.events, f.dirs, f.asks, n) refl;
  not_behind_an_event = λ disk e f. let bad : one_write ≡ [] = sym e ∙ f.events in absurd cc;
  not_with_a_byte = λ disk e f. let bad : 0 ∷ [] ≡ [] = sym e ∙ f.start Ledger in absurd cc;
  not_with_a_stop = λ disk s f. let bad : Some (stop_after 1 0 0) ≡ None = sym s.stops ∙ f.stop in absurd cc;
  not_the_same_behind_an_event = λ old new before now h. let bad : one_write ≡ [] = sym now ∙ (h.events ∙ before) in absurd cc;
  not_the_same_without_its_stop = λ old new s none h. let bad : None ≡ Some (stop_after 1 0 0) = sym none ∙ (h.stop ∙ s.stops) in absurd cc;
  by_0_the_old_bytes = old_bytes;
  by_1_the_new_bytes = new_bytes;
  not_the_new_bytes_by_0 = λ old new s e r. let bad : 1 ∷ 9 ∷ 3 ∷ [] ≡ three = sym e ∙ old_bytes old new s r in absurd cc;
  not_with_its_events = λ old new e r. let bad : one_write ≡ [] = sym e ∙ r.events in absurd cc;
  not_with_its_stop = λ old new s r. let bad : Some (stop_after 1 0 0) ≡ None = sym s.stops ∙ r.stop in absurd cc;
}
