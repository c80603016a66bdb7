-- How a disk goes on over one call.
use Rattle.std.proofs.Common.{◌≡◌, ◌≤◌, ◌<◌, ◌⊎◌, ℕ, ◌+◌, ◌-◌, ◌^◌, Bool, true, false, not, ◌&&◌, ◌||◌, ◌==◌, nat_lt, nat_le, if◌then◌else◌, List, [], ◌∷◌, ◌++◌, length, Option, Some, None, Result, Ok, Err, OnOk, OnErr, is_err, is_some, option_map, refl, sym, ap, subst, ◌∙◌, inl, inr, ⊎_elim, arith, length-append}
use Rattle.std.specs.List.{list_any}
use Rattle.std.specs.FinMap as map
use Rattle.std.proofs.lemmas.Bool.{cases_lt, le-leb, ltb-true}
use Rattle.std.proofs.lemmas.List.{append-nil, append_cancel_left}
use Rattle.satp_base.specs.Calls.{Ask, Entering, Told, risen}
use Rattle.satp_base.specs.LedgerAt.{ledger_at}
use Rattle.satp_base.specs.Founding.{Founding}
use Rattle.satp_base.specs.Money.{Book}
use Rattle.satp_base.specs.Streams.{Rose}
use Rattle.satp_base.specs.Trail.{Trail}
use Rattle.satp_base.specs.declared.area.Event.{Event}
use Rattle.satp_base.specs.declared.area.Event.TheVariants.{Acted, Founded}
use Rattle.satp_base.specs.declared.ledger.Answer.{Answer}
use Rattle.satp_base.specs.declared.ledger.LedgerCall.{LedgerCall}
use Rattle.satp_base.specs.declared.ledger.LedgerCall.TheVariants.{Act, Found}
use Rattle.satp_base.specs.declared.ledger.LedgerKind.{LedgerKind}
use Rattle.satp_base.specs.declared.ledger.LedgerOp.{LedgerOp}
use Rattle.satp_base.specs.declared.message.Terms.{Terms}
use Rattle.satp_base.specs.declared.session.SessionId.{SessionId}
use Rattle.satp_memory.specs.declared.operate.Halt.{Halt}
use Rattle.satp_memory.specs.declared.operate.Halt.TheVariants as halt
use Rattle.satp_memory.specs.declared.operate.Operated.{Operated}
use Rattle.satp_memory.specs.Halting.{fault_of, halted}
use Rattle.satp_memory.specs.Calling.{Calling, begun, failed, faulting, is_due, is_refused, succeeded, wanting}
use Rattle.satp_memory.specs.Areas.{bytes_in}
use Rattle.satp_memory.specs.Disk.{is_plain}
use Rattle.satp_memory.specs.Following.{AddsSo, Asks, Changes, DiskCalls, Done, Ended, Ending, EndsSo, Follows, FollowsDisk, FollowsSite, HasDone, HasMoved, IsOfDisk, IsWithin, KeepsBook, Looks, Named, NotesSo, Refused, Refuses, SiteCall, SiteCalls, Stopped, Wanting, book_failed, founds, has_founded, is_founding, named_events, notes_of}
use Rattle.satp_memory.specs.Sites.{ActEnds, LedgerFails, OperatesOn, same_kind}
use Rattle.satp_memory.proofs.Keeping.{within_none}
use Rattle.satp_memory.specs.Steps.{AskFails, adding, asking, is_stopped, noting, told_of}
use Rattle.satp_memory.specs.Stopping.{is_reached}
use Rattle.satp_memory.specs.declared.areas.Areas.{Areas}
use Rattle.satp_memory.specs.declared.disk.MemDisk.{MemDisk}
use Rattle.satp_memory.specs.declared.stop.Stop.{Stop}

abbrev pub trail_by : Areas → List Event → List Event → Trail
trail_by start past events = record { start = bytes_in start; entries = ledger_at map.empty past; events = events }

abbrev pub told_by : Trail → List Entering → ℕ → Option ℕ → List Ask → Told
told_by trail dirs calls last asks = record { trail = trail; dirs = dirs; calls = calls; last_failed = last; asks = asks }

-- ---- counts

pub record Counts (old new : Calling) : Type 0 where
  pub named : new.named ≡ old.named
  pub count : old.count ≤ new.count
  pub faults : old.faults ≤ new.faults
  pub wants : old.wants ≤ new.wants

pub begun_counts : (stopped : Bool) (c : Calling) → Counts c (begun stopped c)
begun_counts stopped c = by_case (is_refused stopped c)
  where
    by_case : (r : Bool) → Counts c (if r then failed c else succeeded c)
    by_case true = record { named = refl; count = omega arith; faults = omega arith; wants = omega arith }
    by_case false = record { named = refl; count = omega arith; faults = omega arith; wants = omega arith }

pub wanting_counts : (c d : Calling) → Counts c d → Counts c (wanting d)
wanting_counts c d n = record { named = n.named; count = n.count; faults = omega (arith, n.faults); wants = omega (arith, n.wants) }

pub counts_by : (c d e : Calling) → d ≡ e → Counts c e → Counts c d
counts_by c d e is n = subst (Counts c) (sym is) n

pub counts_same : {c d : Calling} → d ≡ c → Counts c d
counts_same same = rw same (record { named = refl; count = omega arith; faults = omega arith; wants = omega arith })

-- a call was counted, and found no memory or not
abbrev pub IsCounted : Bool → Calling → Calling → Type 0
IsCounted stopped old new = (new ≡ begun stopped old) ⊎ (new ≡ wanting (begun stopped old))

pub counted_counts : (stopped : Bool) (old new : Calling) → IsCounted stopped old new → Counts old new
counted_counts stopped old new (inl is) = counts_by old new (begun stopped old) is (begun_counts stopped old)
counted_counts stopped old new (inr is) = counts_by old new (wanting (begun stopped old)) is (wanting_counts old (begun stopped old) (begun_counts stopped old))

-- ---- what follows

within_one : (stop : Option Stop) (n m : ℕ) → is_reached stop n ≡ false → m ≡ n + 1 → IsWithin stop n m
within_one None n m p q = tt
within_one (Some s) n m p q = ⊎_elim (λ (lt : n < s.at). omega (arith, lt, q)) (λ le. absurd (both (nat_le s.at n) (le-leb s.at n le) p)) (cases_lt n s.at)
  where
    both : (b : Bool) → b ≡ true → b ≡ false → ⊥
    both b t f = let bad : true ≡ false = sym t ∙ f in cc

pub follows_by : (old new : MemDisk) (added : List Event) (noted : List Ask) → new.start ≡ old.start → new.past.items ≡ old.past.items → new.events.items ≡ old.events.items ++ added → new.asks.items ≡ old.asks.items ++ noted
    → new.stop ≡ old.stop → Counts old.calls new.calls → is_plain added ≡ true → list_any is_founding added ≡ list_any has_founded noted → IsWithin old.stop (length old.events.items) (length new.events.items) → Follows old new
follows_by old new added noted start past events asks stop counts plain founded within = record {
  stop = stop;
  named = counts.named;
  added = added;
  trail = rw (start, past, events) refl;
  plain = plain;
  within = within;
  noted = noted;
  asks = asks;
  founded = founded;
  count = counts.count;
  faults = counts.faults;
  wants = counts.wants;
}

-- nothing was added
pub follows_still : (old new : MemDisk) (noted : List Ask) → new.start ≡ old.start → new.past.items ≡ old.past.items → new.events.items ≡ old.events.items → new.asks.items ≡ old.asks.items ++ noted → new.stop ≡ old.stop
    → Counts old.calls new.calls → list_any has_founded noted ≡ false → Follows old new
follows_still old new noted start past events asks stop counts none =
    follows_by old new [] noted start past (events ∙ sym (append-nil old.events.items)) asks stop counts refl (sym none)
    (subst (λ (n : ℕ). IsWithin old.stop (length old.events.items) n) (sym (ap length events)) (within_none old.stop (length old.events.items)))

-- one event was added, before any stop
pub follows_one : (old new : MemDisk) (event : Event) (noted : List Ask) → is_stopped old ≡ false → is_plain (event ∷ []) ≡ true → list_any is_founding (event ∷ []) ≡ list_any has_founded noted
    → new.start ≡ old.start → new.past.items ≡ old.past.items → new.events.items ≡ old.events.items ++ event ∷ [] → new.asks.items ≡ old.asks.items ++ noted → new.stop ≡ old.stop → Counts old.calls new.calls → Follows old new
follows_one old new event noted running plain founded start past events asks stop counts =
    follows_by old new (event ∷ []) noted start past events asks stop counts plain founded
    (within_one old.stop (length old.events.items) (length new.events.items) running (ap length events ∙ length-append old.events.items (event ∷ [])))

-- what was added, and noted
added_is : (old new : MemDisk) (f : Follows old new) (xs : List Event) → new.events.items ≡ old.events.items ++ xs → f.added ≡ xs
added_is old new f xs is = append_cancel_left old.events.items f.added xs (sym (ap (λ (t : Trail). t.events) f.trail) ∙ is)

noted_is : (old new : MemDisk) (f : Follows old new) (xs : List Ask) → new.asks.items ≡ old.asks.items ++ xs → f.noted ≡ xs
noted_is old new f xs is = append_cancel_left old.asks.items f.noted xs (sym f.asks ∙ is)

-- ---- how a call ends

pub is_failed : (stopped : Bool) (c d : Calling) → is_refused stopped c ≡ true → d ≡ begun stopped c → d ≡ failed c
is_failed stopped c d r is = is ∙ ap (λ (b : Bool). if b then failed c else succeeded c) r

is_done : (stopped : Bool) (c d : Calling) → is_refused stopped c ≡ false → d ≡ begun stopped c → d ≡ succeeded c
is_done stopped c d r is = is ∙ ap (λ (b : Bool). if b then failed c else succeeded c) r

pub is_wanting : (stopped : Bool) (c d : Calling) → d ≡ wanting (begun stopped c) → (d ≡ wanting (succeeded c)) ⊎ (d ≡ wanting (failed c))
is_wanting stopped c d is = by_case (is_refused stopped c) refl
  where
    by_case : (r : Bool) → is_refused stopped c ≡ r → (d ≡ wanting (succeeded c)) ⊎ (d ≡ wanting (failed c))
    by_case false r = inl (is ∙ ap (λ (b : Bool). wanting (if b then failed c else succeeded c)) r)
    by_case true r = inr (is ∙ ap (λ (b : Bool). wanting (if b then failed c else succeeded c)) r)

-- a call that is to fail: the stop was reached, or it was named
refused_ends : (old : MemDisk) (c : Calling) → is_refused (is_stopped old) old.calls ≡ true → c ≡ failed old.calls → EndsSo Stopped ⊥ old c ⊎ EndsSo Named ⊥ old c
refused_ends old c r is = by_stop (is_stopped old) refl r
  where
    by_stop : (s : Bool) → is_stopped old ≡ s → is_refused s old.calls ≡ true → EndsSo Stopped ⊥ old c ⊎ EndsSo Named ⊥ old c
    by_stop true here h = inl (here, is)
    by_stop false here h = inr (here, h, is)

-- ---- one call on a disk

none_noted : (call : SiteCall) (e : Ending) (old : MemDisk) (noted : List Ask) → IsOfDisk call → noted ≡ [] → NotesSo call e old noted
none_noted call e old noted own none = by_ending e
  where
    is_none : (call : SiteCall) (b : Bool) → IsOfDisk call → notes_of call old b ≡ []
    is_none Looks b own = refl
    is_none (Changes event) b own = refl
    is_none (Asks call) b own = absurd own

    by_ending : (e : Ending) → NotesSo call e old noted
    by_ending Done = none ∙ sym (is_none call true own)
    by_ending Named = none ∙ sym (is_none call false own)
    by_ending Stopped = none ∙ sym (is_none call false own)
    by_ending Wanting = inl none
    by_ending Refused = none ∙ sym (is_none call false own)

disk_made : (call : SiteCall) (e : Ending) (old new : MemDisk) (f : Follows old new) (added : List Event) → IsOfDisk call → new.asks.items ≡ old.asks.items → new.events.items ≡ old.events.items ++ added
    → EndsSo e ⊥ old new.calls → AddsSo call e added → FollowsDisk old new
disk_made call e old new f added own asks events ended adds = (
  record { call = call; ending = e } ∷ [],
  (new, own, record { disk = f; ended = ended; adds = subst (AddsSo call e) (sym (added_is old new f added events)) adds; notes = none_noted call e old f.noted own (noted_is old new f [] (asks ∙ sym (append-nil old.asks.items))) }, refl),
)

-- nothing was added
module _ (stopped : Bool) (old new : MemDisk) (at : stopped ≡ is_stopped old) (start : new.start ≡ old.start) (past : new.past.items ≡ old.past.items) (events : new.events.items ≡ old.events.items) (asks : new.asks.items ≡ old.asks.items)
    (stop : new.stop ≡ old.stop) where
  disk_still : (call : SiteCall) (e : Ending) → IsOfDisk call → IsCounted stopped old.calls new.calls → EndsSo e ⊥ old new.calls → AddsSo call e [] → FollowsDisk old new
  disk_still call e own calls ended adds =
      disk_made call e old new (follows_still old new [] start past events (asks ∙ sym (append-nil old.asks.items)) stop (counted_counts stopped old.calls new.calls calls) refl) []
      own asks (events ∙ sym (append-nil old.events.items)) ended adds

  abbrev Stays : Ending → Type 0
  Stays e = (call : SiteCall) → IsOfDisk call → AddsSo call e [] → FollowsDisk old new

  refused_stays : is_refused stopped old.calls ≡ true → new.calls ≡ begun stopped old.calls → Stays Stopped ⊎ Stays Named
  refused_stays r is =
      ⊎_elim (λ (h : EndsSo Stopped ⊥ old new.calls). inl (λ call own adds. disk_still call Stopped own (inl is) h adds))
      (λ (h : EndsSo Named ⊥ old new.calls). inr (λ call own adds. disk_still call Named own (inl is) h adds))
      (refused_ends old new.calls (ap (λ (b : Bool). is_refused b old.calls) (sym at) ∙ r) (is_failed stopped old.calls new.calls r is))

  -- where no memory was found
  pub disk_wants : (call : SiteCall) → IsOfDisk call → new.calls ≡ wanting (begun stopped old.calls) → FollowsDisk old new
  disk_wants call own is = disk_still call Wanting own (inr is) (is_wanting stopped old.calls new.calls is) refl

  -- after a stop
  pub disk_stopped : (call : SiteCall) → IsOfDisk call → stopped ≡ true → new.calls ≡ begun stopped old.calls → FollowsDisk old new
  disk_stopped call own here is = disk_still call Stopped own (inl is) (sym at ∙ here, is_failed stopped old.calls new.calls (ap (λ (b : Bool). is_refused b old.calls) here) is) refl

  -- where it was to fail, and has no effect
  pub disk_refused : (call : SiteCall) → IsOfDisk call → [] ≡ named_events call → is_refused stopped old.calls ≡ true → new.calls ≡ begun stopped old.calls → FollowsDisk old new
  disk_refused call own none r is = ⊎_elim (λ (h : Stays Stopped). h call own refl) (λ (h : Stays Named). h call own none) (refused_stays r is)

  -- where it looks
  pub disk_looked : is_refused stopped old.calls ≡ false → new.calls ≡ begun stopped old.calls → FollowsDisk old new
  disk_looked r is = disk_still Looks Done tt (inl is) (ap (λ (b : Bool). is_refused b old.calls) (sym at) ∙ r, is_done stopped old.calls new.calls r is) refl

-- one event was added
module _ (stopped : Bool) (old new : MemDisk) (event : Event) (at : stopped ≡ is_stopped old) (running : stopped ≡ false) (plain : is_plain (event ∷ []) ≡ true) (none : list_any is_founding (event ∷ []) ≡ false)
    (start : new.start ≡ old.start) (past : new.past.items ≡ old.past.items) (events : new.events.items ≡ old.events.items ++ event ∷ []) (asks : new.asks.items ≡ old.asks.items) (stop : new.stop ≡ old.stop)
    (is : new.calls ≡ begun stopped old.calls) where
  disk_one : (e : Ending) → EndsSo e ⊥ old new.calls → AddsSo (Changes event) e (event ∷ []) → FollowsDisk old new
  disk_one e ended adds =
      disk_made (Changes event) e old new (follows_one old new event [] (sym at ∙ running) plain none start past events (asks ∙ sym (append-nil old.asks.items)) stop (counted_counts stopped old.calls new.calls (inl is))) (event ∷ [])
      tt asks events ended adds

  pub disk_done : is_refused stopped old.calls ≡ false → FollowsDisk old new
  disk_done r = disk_one Done (ap (λ (b : Bool). is_refused b old.calls) (sym at) ∙ r, is_done stopped old.calls new.calls r is) refl

  -- it was named, and takes effect
  pub disk_named : event ∷ [] ≡ named_events (Changes event) → is_refused stopped old.calls ≡ true → FollowsDisk old new
  disk_named effect r = disk_one Named (sym at ∙ running, sym (ap (λ (b : Bool). is_refused b old.calls) running) ∙ r, is_failed stopped old.calls new.calls r is) effect

pub err_of : {T E : Type 0} {P : Type 0} (r : Result T E) → is_err r ≡ true → OnErr r P → P
err_of (Ok v) e p = cc
err_of (Err f) e p = p

pub ok_of : {T E : Type 0} {P : Type 0} (r : Result T E) → is_err r ≡ false → OnOk r P → P
ok_of (Ok v) e p = p
ok_of (Err f) e p = cc

pub not_stopped : (stopped due : Bool) → (stopped || due) ≡ false → stopped ≡ false
not_stopped true due e = e
not_stopped false due e = refl

-- ---- what is told

pub trail_is : {s s2 : Areas} {p p2 es es2 : List Event} → s2 ≡ s → p2 ≡ p → es2 ≡ es → trail_by s2 p2 es2 ≡ trail_by s p es
trail_is start past events = rw (start, past, events) refl

-- nothing was added
pub trail_same : {s s2 : Areas} {p p2 es es2 : List Event} → s2 ≡ s → p2 ≡ p → es2 ≡ es → trail_by s2 p2 es2 ≡ trail_by s p (es ++ [])
trail_same start past events = rw (start, past, events, append-nil) refl

pub told_is : {t t2 : Trail} {d d2 : List Entering} {c c2 : ℕ} {l l2 : Option ℕ} {k k2 : List Ask} → t2 ≡ t → d2 ≡ d → c2 ≡ c → l2 ≡ l → k2 ≡ k → told_by t2 d2 c2 l2 k2 ≡ told_by t d c l k
told_is trail dirs calls last asks = rw (trail, dirs, calls, last, asks) refl

-- a note of a directory, or of a call on the ledger, by the count before it
abbrev pub dir_by : List ℕ → ℕ → Bool → Entering
dir_by dir before succeeded = record { dir = dir; before = before; succeeded = succeeded }

pub dir_noted : (dir : List ℕ) (xs ys : List Entering) {m n : ℕ} {r s : Bool} → ys ≡ xs ++ dir_by dir m r ∷ [] → m ≡ n → r ≡ s → ys ≡ xs ++ dir_by dir n s ∷ []
dir_noted dir xs ys is e r = rw (is, e, r) refl

abbrev pub ask_by : LedgerCall → ℕ → Bool → Ask
ask_by call before succeeded = record { call = call; before = before; succeeded = succeeded }

pub ask_noted : (call : LedgerCall) (b : Bool) {xs ys zs : List Ask} {m n : ℕ} → zs ≡ ys ++ ask_by call m b ∷ [] → ys ≡ xs → m ≡ n → zs ≡ xs ++ ask_by call n b ∷ []
ask_noted call b is same e = rw (is, same, e) refl

pub not_founded : (a : Ask) → founds a.call ≡ false → list_any has_founded (a ∷ []) ≡ false
not_founded a none = by_case a.succeeded
  where
    by_case : (s : Bool) → ((if s then founds a.call else false) || false) ≡ false
    by_case true = rw none refl
    by_case false = refl

-- ---- how a call on the ledger ends

module _ (s f d : Bool) where
  barred_else : ((s || not f) || d) ≡ ((s || d) || not f)
  barred_else = swap s (not f) d
    where
      swap : (a b c : Bool) → ((a || b) || c) ≡ ((a || c) || b)
      swap true b c = refl
      swap false true true = refl
      swap false true false = refl
      swap false false true = refl
      swap false false false = refl

barred_when : (r f : Bool) → (r || not f) ≡ true → (r ≡ true) ⊎ ((r ≡ false) × (f ≡ false))
barred_when true f e = inl refl
barred_when false false e = inr (refl, refl)
barred_when false true e = absurd cc

free_when : (r f : Bool) → (r || not f) ≡ false → (r ≡ false) × (f ≡ true)
free_when false true e = (refl, refl)
free_when false false e = cc
free_when true f e = cc

module _ (stopped fits barred : Bool) (c : Calling) (is : barred ≡ (stopped || not fits)) where
  pub refused_is : is_refused barred c ≡ (is_refused stopped c || not fits)
  refused_is = ap (λ (b : Bool). b || is_due c) is ∙ barred_else stopped fits (is_due c)

  begun_is : begun barred c ≡ (if is_refused stopped c || not fits then failed c else succeeded c)
  begun_is = ap (λ (b : Bool). if b then failed c else succeeded c) refused_is

  pub ledger_wants : (d : Calling) → d ≡ wanting (begun barred c) → LedgerFails (is_refused stopped c) fits c d
  ledger_wants d e = inr (inr (e ∙ ap wanting begun_is))

  pub ledger_fails : (d : Calling) → is_refused barred c ≡ true → d ≡ begun barred c → LedgerFails (is_refused stopped c) fits c d
  ledger_fails d r e = ⊎_elim (λ (t : is_refused stopped c ≡ true). inl (t, fails)) (λ (p : (is_refused stopped c ≡ false) × (fits ≡ false)). inr (inl (p.0, p.1, fails))) (barred_when (is_refused stopped c) fits (sym refused_is ∙ r))
    where
      fails : d ≡ failed c
      fails = e ∙ ap (λ (b : Bool). if b then failed c else succeeded c) r

  pub ledger_goes : (d : Calling) → is_refused barred c ≡ false → d ≡ begun barred c → (is_refused stopped c ≡ false) × (fits ≡ true) × (d ≡ succeeded c)
  ledger_goes d r e = let p = free_when (is_refused stopped c) fits (sym refused_is ∙ r) in (p.0, p.1, e ∙ ap (λ (b : Bool). if b then failed c else succeeded c) r)

-- a call that goes on leaves the last one that failed, and one that adds nothing leaves the stop
pub kept_last : (barred : Bool) (c d : Calling) → is_refused barred c ≡ false → d ≡ begun barred c → d.last_failed ≡ c.last_failed
kept_last barred c d free is = ap (λ (k : Calling). k.last_failed) (is ∙ ap (λ (b : Bool). if b then failed c else succeeded c) free)

pub reached_same : {s t : Option Stop} {es fs : List Event} → t ≡ s → fs ≡ es → is_reached t (length fs) ≡ is_reached s (length es)
reached_same stop events = rw (stop, events) refl

-- ---- one call on a site

-- a call on its disk
site_disk_calls : (own : LedgerKind) (book : Option Book) (cs : List Ended) (old new : MemDisk) → DiskCalls cs old new → SiteCalls own cs book book old new
site_disk_calls own book [] old new is = (refl, is)
site_disk_calls own book (c ∷ cs) old new (between, of_disk, m, more) = (
  book,
  between,
  record { made = record { disk = m.disk; ended = widened c.ending m.ended; adds = m.adds; notes = m.notes }; book = kept c.call c.ending m.disk.added of_disk },
  site_disk_calls own book cs between new more,
)
  where
    widened : (e : Ending) → EndsSo e ⊥ old between.calls → EndsSo e (Refuses own book c.call) old between.calls
    widened Done h = h
    widened Named h = h
    widened Stopped h = h
    widened Wanting h = h
    widened Refused h = absurd h.0

    kept : (call : SiteCall) (e : Ending) (added : List Event) → IsOfDisk call → KeepsBook call e book added book
    kept Looks Done added of = refl
    kept Looks Named added of = refl
    kept Looks Stopped added of = refl
    kept Looks Wanting added of = refl
    kept Looks Refused added of = refl
    kept (Changes event) Done added of = refl
    kept (Changes event) Named added of = refl
    kept (Changes event) Stopped added of = refl
    kept (Changes event) Wanting added of = refl
    kept (Changes event) Refused added of = refl
    kept (Asks call) e added of = absurd of

pub site_disk : (own : LedgerKind) (book : Option Book) (old new : MemDisk) → FollowsDisk old new → FollowsSite own book book old new
site_disk own book old new (calls, made) = (calls, site_disk_calls own book calls old new made)

-- a call on its ledger
module _ (own : LedgerKind) (call : LedgerCall) (before after : Option Book) (old new : MemDisk) (f : Follows old new) where
  site_made : (e : Ending) (added : List Event) → new.events.items ≡ old.events.items ++ added → EndsSo e (Refuses own before (Asks call)) old new.calls → AddsSo (Asks call) e added
      → NotesSo (Asks call) e old f.noted → KeepsBook (Asks call) e before added after → FollowsSite own before after old new
  site_made e added events ended adds notes book =
      let is = added_is old new f added events in (
        record { call = Asks call; ending = e } ∷ [],
        (
          after,
          new,
          record {
            made = record { disk = f; ended = ended; adds = subst (AddsSo (Asks call) e) (sym is) adds; notes = notes };
            book = subst (λ (l : List Event). KeepsBook (Asks call) e before l after) (sym is) book;
          },
          (refl, refl),
        ),
      )

  noted_as : (b : Bool) → new.asks.items ≡ old.asks.items ++ asking call old b ∷ [] → f.noted ≡ asking call old b ∷ []
  noted_as b is = noted_is old new f (asking call old b ∷ []) is

  pub site_done : (added : List Event) → new.events.items ≡ old.events.items ++ added → is_refused (is_stopped old) old.calls ≡ false → new.calls ≡ succeeded old.calls → HasDone (Asks call) added
      → new.asks.items ≡ old.asks.items ++ asking call old true ∷ [] → HasMoved (Asks call) before added after → FollowsSite own before after old new
  site_done added events free is adds asks book = site_made Done added events (free, is) adds (noted_as true asks) book

  module _ (events : new.events.items ≡ old.events.items) (book : after ≡ book_failed (Asks call) before) where
    no_more : new.events.items ≡ old.events.items ++ []
    no_more = events ∙ sym (append-nil old.events.items)

    -- the ledger was asked, and found no memory or refuses the call
    pub site_wants : (new.calls ≡ wanting (succeeded old.calls)) ⊎ (new.calls ≡ wanting (failed old.calls)) → new.asks.items ≡ old.asks.items ++ asking call old false ∷ [] → FollowsSite own before after old new
    site_wants is asks = site_made Wanting [] no_more is refl (inr (noted_as false asks)) book

    pub site_refuses : Refuses own before (Asks call) → is_refused (is_stopped old) old.calls ≡ false → new.calls ≡ failed old.calls → new.asks.items ≡ old.asks.items ++ asking call old false ∷ [] → FollowsSite own before after old new
    site_refuses out free is asks = site_made Refused [] no_more (out, free, is) refl (noted_as false asks) book

    -- it failed before the ledger was asked
    pub site_failed : (fits : Bool) → (fits ≡ false → Refuses own before (Asks call)) → AskFails call fits old new → FollowsSite own before after old new
    site_failed fits lacks (inr (is, asks)) = site_made Wanting [] no_more is refl (inl (noted_is old new f [] (asks ∙ sym (append-nil old.asks.items)))) book
    site_failed fits lacks (inl (barred, is, asks)) =
        ⊎_elim
        (λ (r : is_refused (is_stopped old) old.calls ≡ true). ⊎_elim (λ (h : EndsSo Stopped ⊥ old new.calls). site_made Stopped [] no_more h refl (noted_as false asks) book)
        (λ (h : EndsSo Named ⊥ old new.calls). site_made Named [] no_more h refl (noted_as false asks) book) (refused_ends old new.calls r is))
        (λ (free : (is_refused (is_stopped old) old.calls ≡ false) × (fits ≡ false)). site_refuses (lacks free.1) free.0 is asks)
        (barred_when (is_refused (is_stopped old) old.calls) fits barred)

-- no ledger is there
pub no_ledger : {A : Type 0} (f : A → Book) (o : Option A) (b : Bool) → b ≡ is_some o → b ≡ false → option_map f o ≡ None
no_ledger f None b is e = refl
no_ledger f (Some x) b is e = cc

-- an operation that was asked and not answered
pub site_halted : (own : LedgerKind) (op : LedgerOp) (s : SessionId) (t : Terms) (before after : Option Book) (h : Halt) (old new : MemDisk) (mid : Calling) → Follows old new → new.events.items ≡ old.events.items → OperatesOn op s t before (Err h) after
    → is_refused (is_stopped old) old.calls ≡ false → mid ≡ succeeded old.calls → new.calls ≡ halted h mid → new.asks.items ≡ old.asks.items ++ asking (Act op s t) old false ∷ [] → FollowsSite own before after old new
site_halted own op s t before after halt.Unfounded old new mid f events on free is calls asks =
    site_refuses own (Act op s t) before after old new f events (on.1 ∙ sym on.0) (inl on.0) free (calls ∙ ap faulting is) asks
site_halted own op s t before after (halt.OutOfOrder entry) old new mid f events (b, had, out, same) free is calls asks =
    site_refuses own (Act op s t) before after old new f events same (inr (b, entry, had, out)) free (calls ∙ ap faulting is) asks
site_halted own op s t before after halt.Memory old new mid f events on free is calls asks = site_wants own (Act op s t) before after old new f events on (inl (calls ∙ ap wanting is)) asks

pub is_some_map : {A B : Type 0} (f : A → B) (o : Option A) → is_some (option_map f o) ≡ is_some o
is_some_map f None = refl
is_some_map f (Some x) = refl

pub ledger_wanted : (refused fits : Bool) (c d e : Calling) → refused ≡ false → fits ≡ true → d ≡ succeeded c → e ≡ wanting d → LedgerFails refused fits c e
ledger_wanted refused fits c d e r f is want = rw (r, f) (inr (inr (want ∙ ap wanting is)))

-- a note of a call that was asked, after what was noted before
pub ask_then : (a b : Ask) (xs ys zs : List Ask) → zs ≡ ys ++ a ∷ [] → ys ≡ xs → a ≡ b → zs ≡ xs ++ b ∷ []
ask_then a b xs ys zs is same e = is ∙ (ap (λ (l : List Ask). l ++ a ∷ []) same ∙ ap (λ (x : Ask). xs ++ x ∷ []) e)

-- the events of an operation that was answered
pub acted_events : (old mid new : MemDisk) (ask : Ask) (added : List Event) → told_of new ≡ noting ask (adding added (told_of mid)) → mid.events.items ≡ old.events.items → new.events.items ≡ old.events.items ++ added
acted_events old mid new ask added told same = ap (λ (t : Told). t.trail.events) told ∙ ap (λ (l : List Event). l ++ added) same

pub acted_or : (op : LedgerOp) (s : SessionId) (t : Terms) (changed : Bool) → HasDone (Asks (Act op s t)) (if changed then Acted op s t ∷ [] else [])
acted_or op s t true = inl refl
acted_or op s t false = inr refl

pub operated_moves : (op : LedgerOp) (s : SessionId) (t : Terms) (before after : Option Book) (done : Operated) → OperatesOn op s t before (Ok done) after
    → HasMoved (Asks (Act op s t)) before (if done.changed then Acted op s t ∷ [] else []) after
operated_moves op s t before after done (b, had, says, has, changes, may, now) = (b, had, has, ap (λ (c : Bool). if c then Acted op s t ∷ [] else []) changes)

pub halted_noted : (a b : Ask) (xs ys zs : List Ask) → zs ≡ ys ++ record a { succeeded = false } ∷ [] → ys ≡ xs → a ≡ b → zs ≡ xs ++ record b { succeeded = false } ∷ []
halted_noted a b xs ys zs is same e = is ∙ (ap (λ (l : List Ask). l ++ record a { succeeded = false } ∷ []) same ∙ ap (λ (x : Ask). xs ++ record x { succeeded = false } ∷ []) e)

-- a ledger that was there isn't missing
pub was_there : {A P : Type 0} (o : Option A) (b : Bool) → b ≡ is_some o → b ≡ true → o ≡ None → P
was_there o b is there none = let bad : false ≡ true = sym (ap is_some none) ∙ (sym is ∙ there) in absurd (never bad)
  where
    never : false ≡ true → ⊥
    never e = cc

pub act_ended : (op : LedgerOp) (s : SessionId) (t : Terms) (before after : Option Book) (h : Halt) (refused : Bool) (c d e : Calling) → OperatesOn op s t before (Err h) after → refused ≡ false → is_some before ≡ true → d ≡ succeeded c → e ≡ halted h d
    → ActEnds {T = Answer} refused (is_some before) c e (Err (fault_of h))
act_ended op s t before after halt.Unfounded refused c d e o free there is ends = was_there before (is_some before) refl there o.0
act_ended op s t before after (halt.OutOfOrder entry) refused c d e o free there is ends = (free, there, ends ∙ ap faulting is)
act_ended op s t before after halt.Memory refused c d e o free there is ends = ledger_wanted refused (is_some before) c d e free there is ends
