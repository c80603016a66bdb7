-- An area that is cut to nothing, and opened.
use Rattle.std.proofs.Common.{◌≡◌, ◌<◌, ℕ, List, [], ◌∷◌, length, take, drop, Option, Some, None, Ok, Err, option_map, refl, ap, subst, sym, ◌∙◌, inl, inr, ⊎_elim, arith}
use Rattle.std.specs.Prelude.{IfSome, slice_get}
use Rattle.std.proofs.lemmas.List.Sums.{fold-append}
use Rattle.satp_base.specs.declared.area.Area.TheVariants.{Ledger}
use Rattle.satp_base.specs.declared.area.Event.{Event}
use Rattle.satp_base.specs.declared.area.Event.TheVariants.{Cut}
use Rattle.satp_base.specs.declared.ledger.LedgerKind.{LedgerKind}
use Rattle.satp_base.specs.Calls.{Told, made, Fails, FailsAt, FailsAmong, Makes, events_in}
use Rattle.satp_base.specs.Format.{records, Stands}
use Rattle.satp_base.specs.Trail.{Trail, Standing, extended, next, seen, settled}
use Rattle.satp_base.proofs.Made.{fails_front, fails_more, made_none, makes_more}
use Rattle.satp_journal.specs.Opening.{FailsToMend, Finds, IsRead, OpenAnswers, open_calls, read_calls}
use Rattle.satp_journal.specs.State.{Held, JournalState, gate_of}
use Rattle.satp_journal.specs.declared.fault.JournalFault.{JournalFault}
use Rattle.satp_journal.specs.declared.fault.JournalFault.TheVariants as journal
use Rattle.satp_keeper.specs.Founding.{UnfoundedBy, clear_calls, stored_calls}
use Rattle.satp_keeper.specs.Opening.{IsReplayFault, UnopenedBy, fault_of}
use Rattle.satp_keeper.specs.declared.fault.KeeperFault.{KeeperFault}
use Rattle.satp_keeper.specs.declared.fault.KeeperFault.TheVariants.{OutOfOrder, Empty, Damaged, Record, Disk, Broken, Memory}

-- ---- an opening whose list is no ledger's journal

pub unopened_by : (kind : LedgerKind) (old new : Option Told) (j : JournalState) (fault : KeeperFault) → OpenAnswers Ledger old new (Ok j) → IsReplayFault kind j.held.payloads fault → UnopenedBy kind old new fault
unopened_by kind old new j Empty opens is = (j, opens, is)
unopened_by kind old new j (Record index) opens is = (j.held.payloads, (j, opens, refl), is)
unopened_by kind old new j Memory opens is = inr (j.held.payloads, (j, opens, refl))
unopened_by kind old new j Disk opens is = absurd is
unopened_by kind old new j Broken opens is = absurd is
unopened_by kind old new j (Damaged at) opens is = absurd is
unopened_by kind old new j (OutOfOrder entry) opens is = absurd is

-- ---- what is there after a cut

abbrev pub cut : List Event
cut = Cut Ledger 0 ∷ []

-- the call of the cut
abbrev cut_calls : List (Option Event)
cut_calls = Some (Cut Ledger 0) ∷ []

pub seen_cut : (t : Trail) → seen (extended t cut) Ledger ≡ []
seen_cut t = ap (λ (s : Standing). s.now) (fold-append (next Ledger) (settled (t.start Ledger)) t.events cut)

none_stand : (image : List ℕ) (payloads : List (List ℕ)) → image ≡ [] → Stands image payloads → payloads ≡ []
none_stand image payloads e (inl h) = h.1
none_stand image payloads e (inr h) = absurd (let n = ap length e in omega (arith, h.0, n))

empty_read : (old mid : Option Told) (image : List ℕ) → Makes cut_calls old mid → IsRead Ledger mid image → IfSome old (λ t. image ≡ [])
empty_read None mid image is read = tt
empty_read (Some t) mid image is read = subst (λ (o : Option Told). IfSome o (λ u. image ≡ seen u.trail Ledger)) is read ∙ seen_cut t.trail

found_empty : (old mid : Option Told) (image : List ℕ) (held : Held) → Makes cut_calls old mid → Finds Ledger mid held image → IfSome old (λ t. (image ≡ []) × (held.payloads ≡ []))
found_empty None mid image held is finds = tt
found_empty (Some t) mid image held is finds = let none = empty_read (Some t) mid image is finds.0 in (none, none_stand image held.payloads none finds.1)

-- where the area was read as empty, the calls of its opening are those of an empty one
empty_calls : (image : List ℕ) (held : Held) → image ≡ [] → held.payloads ≡ [] → open_calls Ledger image (gate_of held) ≡ open_calls Ledger [] 0
empty_calls image held none list = ap (λ (l : List ℕ). open_calls Ledger l (gate_of held)) none ∙ ap (λ (l : List (List ℕ)). open_calls Ledger [] (length (records l))) list

-- a disk that tells nothing tells nothing of any calls
makes_silent : (calls others : List (Option Event)) (new : Option Told) → Makes calls None new → Makes others None new
makes_silent calls others new is = is

fails_silent : (n : ℕ) (calls : List (Option Event)) (call : Option Event) (others : List (Option Event)) (first : Option Event) (new : Option Told) → slice_get others 0 ≡ Some first → FailsAt call (option_map (made n (events_in calls)) None) new → FailsAmong others None new
fails_silent n calls call others first new at fails = (0, first, at, silent first (untold call fails))
  where
    untold : (call : Option Event) → FailsAt call None new → new ≡ None
    untold None is = is
    untold (Some event) (events, failure, is) = is

    silent : (first : Option Event) → new ≡ None → FailsAt first None new
    silent None is = is
    silent (Some event) is = ([], inl refl, is)

opened_all : (old mid new : Option Told) (image : List ℕ) (held : Held) → Makes cut_calls old mid → IfSome old (λ t. (image ≡ []) × (held.payloads ≡ [])) → Makes (open_calls Ledger image (gate_of held)) mid new → Makes clear_calls old new
opened_all None mid new image held is empty told = makes_silent (open_calls Ledger image (gate_of held)) clear_calls new (subst (λ (o : Option Told). Makes (open_calls Ledger image (gate_of held)) o new) is told)
opened_all (Some t) mid new image held is empty told =
    makes_more cut_calls (open_calls Ledger [] 0) (Some t) mid new is (subst (λ (calls : List (Option Event)). Makes calls mid new) (empty_calls image held empty.0 empty.1) told)

list_told : (old new : Option Told) (payloads : List (List ℕ)) (f : Told → Told) → new ≡ option_map f old → IfSome old (λ t. payloads ≡ []) → IfSome new (λ t. payloads ≡ [])
list_told None new payloads f is none = subst (λ (o : Option Told). IfSome o (λ t. payloads ≡ [])) (sym is) tt
list_told (Some t) new payloads f is none = subst (λ (o : Option Told). IfSome o (λ t. payloads ≡ [])) (sym is) none

no_image : (old : Option Told) (image : List ℕ) → 1 < length image → IfSome old (λ t. image ≡ []) → old ≡ None
no_image None image long none = refl
no_image (Some t) image long none = absurd (let n = ap length none in omega (arith, long, n))

module _ (old mid : Option Told) (is : Makes cut_calls old mid) where
  pub cut_makes : (new : Option Told) (j : JournalState) → OpenAnswers Ledger mid new (Ok j) → Makes clear_calls old new
  cut_makes new j (image, finds, told) = opened_all old mid new image j.held is (found_empty old mid image j.held is finds) told

  pub cut_list : (new : Option Told) (j : JournalState) → OpenAnswers Ledger mid new (Ok j) → IfSome new (λ t. j.held.payloads ≡ [])
  cut_list new j (image, finds, told) = list_told old new j.held.payloads _ (opened_all old mid new image j.held is both told) (only old both)
    where
      both : IfSome old (λ t. (image ≡ []) × (j.held.payloads ≡ []))
      both = found_empty old mid image j.held is finds

      only : (o : Option Told) → IfSome o (λ t. (image ≡ []) × (j.held.payloads ≡ [])) → IfSome o (λ t. j.held.payloads ≡ [])
      only None e = tt
      only (Some t) e = e.1

  looked : (new : Option Told) → Makes (take 2 (read_calls Ledger)) mid new → Makes (take 3 clear_calls) old new
  looked new told = makes_more cut_calls (take 2 (read_calls Ledger)) old mid new is told

  read : (new : Option Told) → Makes (read_calls Ledger) mid new → Makes (take 4 clear_calls) old new
  read new told = makes_more cut_calls (read_calls Ledger) old mid new is told

  mend_fails : (o : Option Told) → old ≡ o → (new : Option Told) → FailsToMend Ledger mid new → FailsAmong clear_calls old new
  mend_fails None e new (image, held, finds, (n, call, at, fails)) =
      subst (λ (x : Option Told). FailsAmong clear_calls x new) (sym e)
      (fails_silent (length (take n (open_calls Ledger image (gate_of held)))) (take n (open_calls Ledger image (gate_of held))) call clear_calls (Some (Cut Ledger 0)) new refl
      (subst (λ (x : Option Told). FailsAt call (option_map (made (length (take n (open_calls Ledger image (gate_of held)))) (events_in (take n (open_calls Ledger image (gate_of held))))) x) new) (is ∙ ap (option_map (made 1 cut)) e) fails))
  mend_fails (Some t) e new (image, held, finds, fails) =
      let none = subst (λ (x : Option Told). IfSome x (λ u. (image ≡ []) × (held.payloads ≡ []))) e (found_empty old mid image held is finds) in
      fails_more cut_calls (open_calls Ledger [] 0) old mid new is (subst (λ (calls : List (Option Event)). FailsAmong calls mid new) (empty_calls image held none.0 none.1) fails)

  disk_fails : (new : Option Told) → OpenAnswers Ledger mid new (Err journal.Disk) → FailsAmong clear_calls old new
  disk_fails new (inl fails) = fails_front (take 4 clear_calls) (drop 4 clear_calls) old new (fails_more cut_calls (read_calls Ledger) old mid new is fails)
  disk_fails new (inr fails) = mend_fails old refl new fails

  pub cut_fault : (new : Option Told) (fault : JournalFault) → OpenAnswers Ledger mid new (Err fault) → UnfoundedBy [] old new (fault_of fault)
  cut_fault new journal.Disk opens = disk_fails new opens
  cut_fault new journal.Memory opens = ⊎_elim (λ h. inr (inl (looked new h))) (λ h. inr (inr (read new h))) opens
  cut_fault new journal.Broken opens = absurd opens
  cut_fault new (journal.Damaged place) (image, told, (payloads, (long, rest), where'), makes) =
      (no_image old image long (empty_read old mid image is told), (image, (payloads, (long, rest), where')), read new makes)

-- a cut that fails is the first call
pub failed_cut : (old new : Option Told) → Fails (Cut Ledger 0) old new → UnfoundedBy [] old new Disk
failed_cut old new fails = (0, Some (Cut Ledger 0), refl, subst (λ (o : Option Told). Fails (Cut Ledger 0) o new) (sym (made_none old)) fails)

-- a founding that fails before its first append
pub wider : (whole : List (List ℕ)) (old new : Option Told) (fault : KeeperFault) → UnfoundedBy [] old new fault → UnfoundedBy whole old new fault
wider whole old new Disk is = fails_front clear_calls (stored_calls whole) old new is
wider whole old new Memory is = is
wider whole old new (Damaged at) is = is
wider whole old new (OutOfOrder entry) is = absurd is
wider whole old new Empty is = absurd is
wider whole old new (Record index) is = absurd is
wider whole old new Broken is = absurd is
