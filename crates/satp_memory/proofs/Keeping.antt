-- What some calls on a disk or a site leave, whichever they were: over two lists of calls as over each, and so over all.
use Rattle.std.proofs.Common.{◌≡◌, ◌≤◌, ◌⊎◌, ℕ, Bool, true, false, ◌&&◌, ◌||◌, ◌==◌, nat_lt, ◌+◌, ◌-◌, ◌^◌, ◌<◌, if◌then◌else◌, List, [], ◌∷◌, ◌++◌, length, Option, Some, None, is_some, option_map, refl, sym, ap, subst, ◌∙◌, inl, inr, arith, length-append, append_assoc}
use Rattle.std.specs.List.{list_any}
use Rattle.std.proofs.lemmas.Bool.{le-leb, leb-true, ltb-true}
use Rattle.std.proofs.lemmas.List.{append-nil, append_cancel_left}
use Rattle.std.proofs.lemmas.List.Folds.{list_any-append}
use Rattle.satp_base.specs.Calls.{Ask, risen}
use Rattle.satp_base.specs.Founding.{Founding}
use Rattle.satp_base.specs.LedgerRule.{operation}
use Rattle.satp_base.specs.Money.{Book}
use Rattle.satp_base.specs.Streams.{Rose}
use Rattle.satp_base.specs.Trail.{Trail, extended}
use Rattle.satp_base.specs.declared.area.Event.{Event}
use Rattle.satp_base.specs.declared.area.Event.TheVariants.{Wrote, Cut, Synced, Left, Founded, Acted}
use Rattle.satp_base.specs.declared.ledger.LedgerKind.{LedgerKind}
use Rattle.satp_memory.specs.Disk.{is_plain}
use Rattle.satp_base.specs.declared.ledger.LedgerCall.TheVariants.{Act, Found, Look, Raise}
use Rattle.satp_base.specs.declared.ledger.LedgerOp.{LedgerOp}
use Rattle.satp_base.specs.declared.message.Terms.{Terms}
use Rattle.satp_base.specs.declared.session.SessionId.{SessionId}
use Rattle.satp_memory.specs.Calling.{Calling, failed, is_due, is_refused, succeeded, wanting}
use Rattle.satp_memory.specs.Following.{AddsSo, Asks, Changes, DiskCalls, DiskCallsKeep, Done, Ended, Ending, EndsSo, Follows, HasDone, HasMisfit, HasMoved, HasSiteTrouble, HasTrouble, IsWithin, KeepsBook, KeepsDisk, KeepsSite, Looks, Makes, MakesAt, Named, NotesSo, Refused, Refuses, SiteCall, SiteCalls, SiteCallsKeep, Stopped, Wanting, book_failed, has_founded, is_founding, notes_of}
use Rattle.satp_memory.specs.Steps.{is_stopped, trail_of}
use Rattle.satp_memory.proofs.Operating.{book_by, operation-after}
use Rattle.satp_memory.specs.Stopping.{is_reached}
use Rattle.satp_memory.specs.declared.disk.MemDisk.{MemDisk}
use Rattle.satp_memory.specs.declared.stop.Stop.{Stop}

-- ---- events

pub extended_none : (t : Trail) → extended t [] ≡ t
extended_none t = ap (λ (l : List Event). record t { events = l }) (append-nil t.events)

plain_more : (es fs : List Event) → is_plain es ≡ true → is_plain fs ≡ true → is_plain (es ++ fs) ≡ true
plain_more [] fs p q = q
plain_more (Wrote a at bytes ∷ es) fs p q = plain_more es fs p q
plain_more (Cut a n ∷ es) fs p q = plain_more es fs p q
plain_more (Synced a ∷ es) fs p q = plain_more es fs p q
plain_more (Left a bytes ∷ es) fs p q = cc
plain_more (Founded ∷ es) fs p q = plain_more es fs p q
plain_more (Acted op session terms ∷ es) fs p q = plain_more es fs p q

pub within_none : (stop : Option Stop) (n : ℕ) → IsWithin stop n n
within_none None n = tt
within_none (Some s) n = omega arith

within_more : (stop : Option Stop) (a b c : ℕ) → IsWithin stop a b → IsWithin stop b c → IsWithin stop a c
within_more None a b c p q = tt
within_more (Some s) a b c p q = omega (arith, p, q)

pub reached_more : (stop : Option Stop) (n m : ℕ) → n ≤ m → is_reached stop n ≡ true → is_reached stop m ≡ true
reached_more None n m le p = p
reached_more (Some s) n m le p = le-leb s.at m (omega (arith, le, leb-true s.at n p))

-- ---- a disk

longer : (old new : MemDisk) → Follows old new → length old.events.items ≤ length new.events.items
longer old new f = omega (arith, ap (λ (t : Trail). length t.events) f.trail, length-append old.events.items f.added)

pub follows_same : (disk : MemDisk) → Follows disk disk
follows_same disk = record {
  stop = refl;
  named = refl;
  added = [];
  trail = sym (extended_none (trail_of disk));
  plain = refl;
  within = within_none disk.stop (length disk.events.items);
  noted = [];
  asks = sym (append-nil disk.asks.items);
  founded = refl;
  count = omega arith;
  faults = omega arith;
  wants = omega arith;
}

pub follows_then : (a b c : MemDisk) → Follows a b → Follows b c → Follows a c
follows_then a b c f g = record {
  stop = g.stop ∙ f.stop;
  named = g.named ∙ f.named;
  added = f.added ++ g.added;
  trail = g.trail ∙ ap (λ (t : Trail). extended t g.added) f.trail ∙ ap (λ (l : List Event). record (trail_of a) { events = l }) (append_assoc a.events.items f.added g.added);
  plain = plain_more f.added g.added f.plain g.plain;
  within = within_more a.stop (length a.events.items) (length b.events.items) (length c.events.items) f.within (subst (λ (s : Option Stop). IsWithin s (length b.events.items) (length c.events.items)) f.stop g.within);
  noted = f.noted ++ g.noted;
  asks = g.asks ∙ ap (λ (l : List Ask). l ++ g.noted) f.asks ∙ append_assoc a.asks.items f.noted g.noted;
  founded = list_any-append is_founding f.added g.added ∙ both (list_any is_founding f.added) (list_any has_founded f.noted) (list_any is_founding g.added) (list_any has_founded g.noted) f.founded g.founded ∙ sym (list_any-append has_founded f.noted g.noted);
  count = omega (arith, f.count, g.count);
  faults = omega (arith, f.faults, g.faults);
  wants = omega (arith, f.wants, g.wants);
}
  where
    both : (p q r s : Bool) → p ≡ q → r ≡ s → (p || r) ≡ (q || s)
    both p q r s e h = rw (e, h) refl

-- ---- what makes a call fail

first_of : (a b : Bool) → (a && b) ≡ true → a ≡ true
first_of true b h = refl
first_of false b h = h

second_of : (a b : Bool) → (a && b) ≡ true → b ≡ true
second_of true b h = h
second_of false b h = cc

-- a call that was named, and counted
due_trouble : (old new : MemDisk) → is_due old.calls ≡ true → new.calls ≡ failed old.calls → HasTrouble old new
due_trouble old new e is =
    let below = first_of (nat_lt old.calls.count (2 ^ 64 - 1)) (list_any (λ n. n == old.calls.count + 1) old.calls.named) e in
    let count : new.calls.count ≡ risen old.calls.count 1 = ap (λ (c : Calling). c.count) is in
    inr (inl (
      old.calls.count + 1,
      omega arith,
      omega (arith, count, ltb-true old.calls.count (2 ^ 64 - 1) below),
      second_of (nat_lt old.calls.count (2 ^ 64 - 1)) (list_any (λ n. n == old.calls.count + 1) old.calls.named) e,
    ))

stop_trouble : (old new : MemDisk) → Follows old new → is_stopped old ≡ true → HasTrouble old new
stop_trouble old new f here =
    inr (inr (subst (λ (o : Option Stop). is_reached o (length new.events.items) ≡ true) (sym f.stop) (reached_more old.stop (length old.events.items) (length new.events.items) (longer old new f) here)))

wanted_trouble : (old new : MemDisk) (c : Calling) → old.calls.wants ≤ c.wants → new.calls ≡ wanting c → HasTrouble old new
wanted_trouble old new c le is = inl (subst (λ (d : Calling). Rose old.calls.wants d.wants) (sym is) (wanted le))
  where
    wanted : old.calls.wants ≤ c.wants → Rose old.calls.wants (wanting c).wants
    wanted h = omega (arith, h)

wanting_trouble : (old new : MemDisk) → EndsSo Wanting ⊥ old new.calls → HasTrouble old new
wanting_trouble old new (inl is) = wanted_trouble old new (succeeded old.calls) (omega arith) is
wanting_trouble old new (inr is) = wanted_trouble old new (failed old.calls) (omega arith) is

module _ (a b c : MemDisk) (f : Follows a b) (g : Follows b c) where
  -- what made a call fail before, or after, does so within both
  pub trouble_before : HasTrouble a b → HasTrouble a c
  trouble_before (inl wanted) = inl (omega (arith, wanted, g.wants))
  trouble_before (inr (inl (n, lt, le, is))) = inr (inl (n, lt, omega (arith, le, g.count), is))
  trouble_before (inr (inr stopped)) =
      inr (inr (subst (λ (s : Option Stop). is_reached s (length c.events.items) ≡ true) (sym g.stop) (reached_more b.stop (length b.events.items) (length c.events.items) (longer b c g) stopped)))

  pub trouble_after : HasTrouble b c → HasTrouble a c
  trouble_after (inl wanted) = inl (omega (arith, wanted, f.wants))
  trouble_after (inr (inl (n, lt, le, is))) = inr (inl (n, omega (arith, lt, f.count), le, subst (λ (l : List ℕ). list_any (λ m. m == n) l ≡ true) f.named is))
  trouble_after (inr (inr stopped)) = inr (inr stopped)

keeps_disk_same : (disk : MemDisk) → KeepsDisk disk disk
keeps_disk_same disk = record { disk = follows_same disk; cause = inl refl }

keeps_disk_then : (a b c : MemDisk) → KeepsDisk a b → KeepsDisk b c → KeepsDisk a c
keeps_disk_then a b c f g = record { disk = follows_then a b c f.disk g.disk; cause = cause f.cause g.cause }
  where
    cause : (b.calls.faults ≡ a.calls.faults) ⊎ HasTrouble a b → (c.calls.faults ≡ b.calls.faults) ⊎ HasTrouble b c → (c.calls.faults ≡ a.calls.faults) ⊎ HasTrouble a c
    cause (inr t) h = inr (trouble_before a b c f.disk g.disk t)
    cause (inl e) (inl h) = inl (h ∙ e)
    cause (inl e) (inr t) = inr (trouble_after a b c f.disk g.disk t)

-- a call that failed has a cause
disk_cause : (e : Ending) (old new : MemDisk) → Follows old new → EndsSo e ⊥ old new.calls → (new.calls.faults ≡ old.calls.faults) ⊎ HasTrouble old new
disk_cause Done old new f h = inl (ap (λ (c : Calling). c.faults) h.1)
disk_cause Named old new f (running, due, is) = inr (due_trouble old new due is)
disk_cause Stopped old new f (stopped, is) = inr (stop_trouble old new f stopped)
disk_cause Wanting old new f h = inr (wanting_trouble old new h)
disk_cause Refused old new f (out, running, is) = absurd out

one_keeps : (c : Ended) (old new : MemDisk) → Makes ⊥ c old new → KeepsDisk old new
one_keeps c old new m = record { disk = m.disk; cause = disk_cause c.ending old new m.disk m.ended }

-- what calls on a disk leave, whichever they were
disk_keeps : (cs : List Ended) (old new : MemDisk) → DiskCalls cs old new → KeepsDisk old new
disk_keeps [] old new is = subst (KeepsDisk old) (sym is) (keeps_disk_same old)
disk_keeps (c ∷ cs) old new (between, own, m, more) = keeps_disk_then old between new (one_keeps c old between m) (disk_keeps cs between new more)

pub disk_calls_keep : DiskCallsKeep
disk_calls_keep old new (calls, made) = disk_keeps calls old new made

-- ---- a site

keeps_site_same : (own : LedgerKind) (book : Option Book) (disk : MemDisk) → KeepsSite own book book disk disk
keeps_site_same own book disk = record { disk = follows_same disk; genesis = inr (inl refl); cause = inl (refl, λ some. some) }

misfit_before : (own : LedgerKind) (xs ys : List Ask) → HasMisfit own xs → HasMisfit own (xs ++ ys)
misfit_before own [] ys m = absurd m
misfit_before own (x ∷ xs) ys (inl m) = inl m
misfit_before own (x ∷ xs) ys (inr m) = inr (misfit_before own xs ys m)

misfit_after : (own : LedgerKind) (xs ys : List Ask) → HasMisfit own ys → HasMisfit own (xs ++ ys)
misfit_after own [] ys m = m
misfit_after own (x ∷ xs) ys m = inr (misfit_after own xs ys m)

module _ (own : LedgerKind) (ba bb bc : Option Book) (a b c : MemDisk) (f : KeepsSite own ba bb a b) (g : KeepsSite own bb bc b c) where
  abbrev genesis_of : Option Book → Type 0
  genesis_of o = option_map (λ (x : Book). x.genesis) o ≡ option_map (λ (x : Book). x.genesis) ba

  abbrev founded_in : List Event → Type 0
  founded_in es = list_any is_founding es ≡ true

  founded_before : founded_in f.disk.added → founded_in (f.disk.added ++ g.disk.added)
  founded_before e = list_any-append is_founding f.disk.added g.disk.added ∙ ap (λ (x : Bool). x || list_any is_founding g.disk.added) e

  founded_after : founded_in g.disk.added → founded_in (f.disk.added ++ g.disk.added)
  founded_after e = list_any-append is_founding f.disk.added g.disk.added ∙ (ap (λ (x : Bool). list_any is_founding f.disk.added || x) e ∙ or_true (list_any is_founding f.disk.added))
    where
      or_true : (x : Bool) → (x || true) ≡ true
      or_true true = refl
      or_true false = refl

  none_still : bb ≡ None → option_map (λ (x : Book). x.genesis) bc ≡ option_map (λ (x : Book). x.genesis) bb → bc ≡ None
  none_still none same = by_case bc (same ∙ ap (option_map (λ (x : Book). x.genesis)) none)
    where
      by_case : (o : Option Book) → option_map (λ (x : Book). x.genesis) o ≡ None → o ≡ None
      by_case None e = refl
      by_case (Some x) e = cc

  genesis_then : founded_in (f.disk.added ++ g.disk.added) ⊎ genesis_of bc ⊎ ((bc ≡ None) × Rose a.calls.faults c.calls.faults)
  genesis_then = later f.genesis g.genesis
    where
      later : founded_in f.disk.added ⊎ genesis_of bb ⊎ ((bb ≡ None) × Rose a.calls.faults b.calls.faults)
          → founded_in g.disk.added ⊎ (option_map (λ (x : Book). x.genesis) bc ≡ option_map (λ (x : Book). x.genesis) bb) ⊎ ((bc ≡ None) × Rose b.calls.faults c.calls.faults)
          → founded_in (f.disk.added ++ g.disk.added) ⊎ genesis_of bc ⊎ ((bc ≡ None) × Rose a.calls.faults c.calls.faults)
      later (inl e) h = inl (founded_before e)
      later (inr h) (inl e) = inl (founded_after e)
      later (inr h) (inr (inr (none, rose))) = inr (inr (none, omega (arith, rose, f.disk.faults)))
      later (inr (inl e)) (inr (inl s)) = inr (inl (s ∙ e))
      later (inr (inr (none, rose))) (inr (inl s)) = inr (inr (none_still none s, omega (arith, rose, g.disk.faults)))

  trouble_first : HasSiteTrouble own ba a b f.disk.noted → HasSiteTrouble own ba a c (f.disk.noted ++ g.disk.noted)
  trouble_first (inl t) = inl (trouble_before a b c f.disk g.disk t)
  trouble_first (inr (inl none)) = inr (inl none)
  trouble_first (inr (inr m)) = inr (inr (misfit_before own f.disk.noted g.disk.noted m))

  trouble_second : (is_some ba ≡ true → is_some bb ≡ true) → HasSiteTrouble own bb b c g.disk.noted → HasSiteTrouble own ba a c (f.disk.noted ++ g.disk.noted)
  trouble_second stays (inl t) = inl (trouble_after a b c f.disk g.disk t)
  trouble_second stays (inr (inl none)) = inr (inl (was_none ba stays))
    where
      was_none : (o : Option Book) → (is_some o ≡ true → is_some bb ≡ true) → o ≡ None
      was_none None h = refl
      was_none (Some x) h = let bad : false ≡ true = sym (ap is_some none) ∙ h refl in cc
  trouble_second stays (inr (inr m)) = inr (inr (misfit_after own f.disk.noted g.disk.noted m))

  keeps_site_then : KeepsSite own ba bc a c
  unfolding follows_then
  keeps_site_then = record { disk = follows_then a b c f.disk g.disk; genesis = genesis_then; cause = cause f.cause g.cause }
    where
      cause : ((b.calls.faults ≡ a.calls.faults) × (is_some ba ≡ true → is_some bb ≡ true)) ⊎ HasSiteTrouble own ba a b f.disk.noted
          → ((c.calls.faults ≡ b.calls.faults) × (is_some bb ≡ true → is_some bc ≡ true)) ⊎ HasSiteTrouble own bb b c g.disk.noted
          → ((c.calls.faults ≡ a.calls.faults) × (is_some ba ≡ true → is_some bc ≡ true)) ⊎ HasSiteTrouble own ba a c (f.disk.noted ++ g.disk.noted)
      cause (inr t) h = inr (trouble_first t)
      cause (inl (e, stays)) (inl (e2, stays2)) = inl (e2 ∙ e, λ some. stays2 (stays some))
      cause (inl (e, stays)) (inr t) = inr (trouble_second stays t)

-- ---- one call on a site

moved_genesis : (b : Book) (op : LedgerOp) (s : SessionId) (t : Terms) → (operation b op s t).after.genesis ≡ b.genesis
moved_genesis b op s t = ap (λ (k : Book). k.genesis) (operation-after b op s t) ∙ by_change (operation b op s t).changes
  where
    by_change : (c : Bool) → (book_by c b op s t).genesis ≡ b.genesis
    by_change true = refl
    by_change false = refl

module _ (own : LedgerKind) (before after : Option Book) (old new : MemDisk) where
  abbrev genesis_in : Option Book → Option Founding
  genesis_in o = option_map (λ (x : Book). x.genesis) o

  -- what becomes of the genesis
  abbrev Genesis : List Event → Type 0
  Genesis added = (list_any is_founding added ≡ true) ⊎ (genesis_in after ≡ genesis_in before) ⊎ ((after ≡ None) × Rose old.calls.faults new.calls.faults)

  operation_genesis : (op : LedgerOp) (s : SessionId) (t : Terms) (b : Book) → before ≡ Some b → after ≡ Some (operation b op s t).after → genesis_in after ≡ genesis_in before
  operation_genesis op s t b had has = ap genesis_in has ∙ ap Some (moved_genesis b op s t) ∙ sym (ap genesis_in had)

  done_genesis : (call : SiteCall) (added : List Event) → HasDone call added → HasMoved call before added after → Genesis added
  done_genesis Looks added d m = inr (inl (ap genesis_in m))
  done_genesis (Changes event) added d m = inr (inl (ap genesis_in m))
  done_genesis (Asks (Found kind genesis)) added d m = inl (ap (list_any is_founding) d)
  done_genesis (Asks (Act op s t)) added d (b, had, has, events) = inr (inl (operation_genesis op s t b had has))
  done_genesis (Asks (Look s)) added d m = inr (inl (ap genesis_in m))
  done_genesis (Asks Raise) added d m = inr (inl (ap genesis_in m))

  failed_genesis : (call : SiteCall) (added : List Event) → Rose old.calls.faults new.calls.faults → after ≡ book_failed call before → Genesis added
  failed_genesis Looks added rose m = inr (inl (ap genesis_in m))
  failed_genesis (Changes event) added rose m = inr (inl (ap genesis_in m))
  failed_genesis (Asks (Found kind genesis)) added rose m = inr (inr (m, rose))
  failed_genesis (Asks (Act op s t)) added rose m = inr (inl (ap genesis_in m))
  failed_genesis (Asks (Look s)) added rose m = inr (inl (ap genesis_in m))
  failed_genesis (Asks Raise) added rose m = inr (inl (ap genesis_in m))

  rose_by : (c : Calling) → Rose old.calls.faults c.faults → new.calls ≡ c → Rose old.calls.faults new.calls.faults
  rose_by c rose is = subst (λ (d : Calling). Rose old.calls.faults d.faults) (sym is) rose

  one_genesis : (call : SiteCall) (e : Ending) (refuses : Type 0) (added : List Event) → EndsSo e refuses old new.calls → AddsSo call e added → KeepsBook call e before added after → Genesis added
  one_genesis call Done refuses added h d m = done_genesis call added d m
  one_genesis call Named refuses added (running, due, is) d m = failed_genesis call added (rose_by (failed old.calls) (omega arith) is) m
  one_genesis call Stopped refuses added (stopped, is) d m = failed_genesis call added (rose_by (failed old.calls) (omega arith) is) m
  one_genesis call Wanting refuses added (inl is) d m = failed_genesis call added (rose_by (wanting (succeeded old.calls)) (omega arith) is) m
  one_genesis call Wanting refuses added (inr is) d m = failed_genesis call added (rose_by (wanting (failed old.calls)) (omega arith) is) m
  one_genesis call Refused refuses added (out, running, is) d m = failed_genesis call added (rose_by (failed old.calls) (omega arith) is) m

  -- a call that is done leaves a ledger
  stays : (call : SiteCall) (added : List Event) → HasMoved call before added after → is_some before ≡ true → is_some after ≡ true
  stays Looks added m had = ap is_some m ∙ had
  stays (Changes event) added m had = ap is_some m ∙ had
  stays (Asks (Found kind genesis)) added m had = ap is_some m
  stays (Asks (Act op s t)) added (b, is, has, events) had = ap is_some has
  stays (Asks (Look s)) added m had = ap is_some m ∙ had
  stays (Asks Raise) added m had = ap is_some m ∙ had

  refused_trouble : (call : SiteCall) (noted : List Ask) → Refuses own before call → noted ≡ notes_of call old false → (before ≡ None) ⊎ HasMisfit own noted
  refused_trouble Looks noted out is = absurd out
  refused_trouble (Changes event) noted out is = absurd out
  refused_trouble (Asks (Found kind genesis)) noted misfit is = inr (subst (HasMisfit own) (sym is) (inl (refl, misfit)))
  refused_trouble (Asks (Act op s t)) noted (inl none) is = inl none
  refused_trouble (Asks (Act op s t)) noted (inr (b, entry, had, out)) is = inr (subst (HasMisfit own) (sym is) (inl (refl, (b, entry, out))))
  refused_trouble (Asks (Look s)) noted none is = inl none
  refused_trouble (Asks Raise) noted none is = inl none

  abbrev Cause : List Ask → Type 0
  Cause noted = ((new.calls.faults ≡ old.calls.faults) × (is_some before ≡ true → is_some after ≡ true)) ⊎ HasSiteTrouble own before old new noted

  one_cause : (f : Follows old new) (call : SiteCall) (e : Ending) → EndsSo e (Refuses own before call) old new.calls → NotesSo call e old f.noted → KeepsBook call e before f.added after → Cause f.noted
  one_cause f call Done h n m = inl (ap (λ (c : Calling). c.faults) h.1, stays call f.added m)
  one_cause f call Named (running, due, is) n m = inr (inl (due_trouble old new due is))
  one_cause f call Stopped (stopped, is) n m = inr (inl (stop_trouble old new f stopped))
  one_cause f call Wanting h n m = inr (inl (wanting_trouble old new h))
  one_cause f call Refused (out, running, is) n m = inr (inr (refused_trouble call f.noted out n))

site_one_keeps : (own : LedgerKind) (c : Ended) (before after : Option Book) (old new : MemDisk) → MakesAt own c before after old new → KeepsSite own before after old new
site_one_keeps own c before after old new m = record {
  disk = m.made.disk;
  genesis = one_genesis own before after old new c.call c.ending (Refuses own before c.call) m.made.disk.added m.made.ended m.made.adds m.book;
  cause = one_cause own before after old new m.made.disk c.call c.ending m.made.ended m.made.notes m.book;
}

site_keeps : (own : LedgerKind) (cs : List Ended) (before after : Option Book) (old new : MemDisk) → SiteCalls own cs before after old new → KeepsSite own before after old new
site_keeps own [] before after old new (book, is) =
    subst (λ (d : MemDisk). KeepsSite own before after old d) (sym is) (subst (λ (o : Option Book). KeepsSite own before o old old) (sym book) (keeps_site_same own before old))
site_keeps own (c ∷ cs) before after old new (book, between, m, more) =
    keeps_site_then own before book after old between new (site_one_keeps own c before book old between m) (site_keeps own cs book after between new more)

pub calls_keep : SiteCallsKeep
calls_keep own before after old new (calls, made) = site_keeps own calls before after old new made
