-- What an opening answers, and what it leaves.
use Rattle.std.proofs.Common.{◌≡◌, ◌⊎◌, inl, inr, ⊎_elim, ℕ, List, [], ◌∷◌, ◌++◌, length, take, Option, Some, None, option_map, Result, Ok, Err, refl, sym, ◌∙◌, ap, subst, arith}
use Rattle.std.specs.Prelude.{◌≢◌}
use Rattle.std.specs.Result.{IsErr, IsErrAnd}
use Rattle.satp_base.specs.Calls.{Told, asked}
use Rattle.satp_base.specs.Format.{Damage, Stands}
use Rattle.satp_base.specs.Trail.{seen}
use Rattle.satp_base.specs.declared.area.Area.TheVariants.{JournalA}
use Rattle.satp_base.specs.declared.ledger.LedgerCall.TheVariants.{Raise}
use Rattle.satp_base.proofs.Readings.{one_list, one_damage, never_both}
use Rattle.satp_journal.specs.Opening.{OpenAnswers}
use Rattle.satp_journal.specs.State.{JournalState}
use Rattle.satp_journal.specs.declared.fault.JournalFault.{JournalFault}
use Rattle.satp_journal.specs.declared.fault.JournalFault.TheVariants as journal
use Rattle.satp_log.specs.Journals.{IsFirstRefused, IsJournal, IsSomeJournal}
use Rattle.satp_log.specs.Logged.{LogHolds, LogReads, LogState}
use Rattle.satp_log.specs.declared.fault.LogFault.{LogFault}
use Rattle.satp_log.specs.declared.fault.LogFault.TheVariants as log
use Rattle.satp_log.proofs.JournalLemmas.{none-refused, one-refused}
use Rattle.satp_points.specs.States.{GatewayState, Tells}
use Rattle.satp_gateway.specs.Opening.{DecidedBy, FailsBefore, FailsToRaise, GatewayOpens, IsOf, OpenDecided, OpensBoth, OpensJournal, open_fault, read_fault}
use Rattle.satp_gateway.specs.SettingUp.{FailsToOpen, Opens}
use Rattle.satp_gateway.specs.declared.fault.OpenFault.{OpenFault}
use Rattle.satp_gateway.specs.declared.fault.OpenFault.TheVariants.{Damaged, Empty, Memory, Record, Site}
use Rattle.satp_gateway.proofs.Deciding.{opens_stands}

-- ---- the journal

pub not_opened : (old new : Option Told) (fault : JournalFault) → OpenAnswers JournalA old new (Err fault) → FailsBefore (open_fault fault) old new
not_opened old new journal.Disk a = a
not_opened old new (journal.Damaged at) a = a
not_opened old new journal.Memory a = inl a
not_opened old new journal.Broken a = absurd a

pub not_read : (old new : Option Told) (j : JournalState) (fault : LogFault) → OpenAnswers JournalA old new (Ok j) → LogReads j.held.payloads (Err fault) → FailsBefore (read_fault fault) old new
not_read old new j log.Empty opens reads = (j, reads, opens)
not_read old new j (log.Record index) opens reads = (j.held.payloads, (j, refl, opens), reads)
not_read old new j log.Memory opens reads = inr (j.held.payloads, (j, refl, opens))

pub was_read : (old new : Option Told) (j : JournalState) (read : LogState) → OpenAnswers JournalA old new (Ok j) → LogReads j.held.payloads (Ok read) → OpensJournal old new (Ok (j, read))
was_read old new j read opens reads = ((j, refl, opens), opens.1.2, opens.1.3, reads)

-- a fault of the site is one of the disk
pub site_is_disk : (old new : Option Told) (fault : JournalFault) → OpenAnswers JournalA old new (Err fault) → open_fault fault ≡ Site → fault ≡ journal.Disk
site_is_disk old new journal.Disk a e = refl
site_is_disk old new (journal.Damaged at) a e = cc
site_is_disk old new journal.Memory a e = cc
site_is_disk old new journal.Broken a e = absurd a

pub read_no_site : (fault : LogFault) → read_fault fault ≢ Site
read_no_site log.Empty e = cc
read_no_site (log.Record index) e = cc
read_no_site log.Memory e = cc

-- ---- by the bytes

decided_before : (fault : OpenFault) (t : Told) (new : Option Told) → FailsBefore fault (Some t) new → DecidedBy (seen t.trail JournalA) (Err fault)
decided_before Empty t new opens =
    let s = opens_stands [] t new opens in
    record {
      opens = λ payloads some stands. absurd ((none-refused payloads some).0 (one_list (seen t.trail JournalA) payloads [] stands s));
      empty = λ stands. inl refl;
      refused = λ payloads index stands first. absurd (let same = one_list (seen t.trail JournalA) payloads [] stands s in let w = subst (λ l. IsFirstRefused l index) same first in omega (arith, w.within));
      damaged = λ at damage. absurd (never_both (seen t.trail JournalA) [] at s damage);
    }
decided_before (Record index) t new (list, opens, first) =
    let s = opens_stands list t new opens in
    record {
      opens = λ payloads some stands. absurd ((none-refused payloads some).1 index (subst (λ l. IsFirstRefused l index) (one_list (seen t.trail JournalA) list payloads s stands) first));
      empty = λ stands. absurd (let same = one_list (seen t.trail JournalA) list [] s stands in let w = subst (λ l. IsFirstRefused l index) same first in omega (arith, w.within));
      refused = λ payloads other stands refused. inl (ap (λ (n : ℕ). Err (Record n)) (one-refused list index other first (subst (λ l. IsFirstRefused l other) (one_list (seen t.trail JournalA) payloads list stands s) refused)));
      damaged = λ at damage. absurd (never_both (seen t.trail JournalA) list at s damage);
    }
decided_before (Damaged at) t new (image, read, damage, made) =
    let d = subst (λ (l : List ℕ). Damage l at) read damage in
    record {
      opens = λ payloads some stands. absurd (never_both (seen t.trail JournalA) payloads at stands d);
      empty = λ stands. absurd (never_both (seen t.trail JournalA) [] at stands d);
      refused = λ payloads index stands first. absurd (never_both (seen t.trail JournalA) payloads at stands d);
      damaged = λ other damaged. inl (ap (λ (n : ℕ). Err (Damaged n)) (one_damage (seen t.trail JournalA) at other d damaged));
    }
decided_before Site t new fails = record {
  opens = λ payloads some stands. inl refl;
  empty = λ stands. inr (inl refl);
  refused = λ payloads index stands first. inr (inl refl);
  damaged = λ at damage. inr (inl refl);
}
decided_before Memory t new fails = record {
  opens = λ payloads some stands. inr refl;
  empty = λ stands. inr (inr refl);
  refused = λ payloads index stands first. inr (inr refl);
  damaged = λ at damage. inr (inr refl);
}

decided_opened : (g : GatewayState) (t : Told) (opened : Option Told) (list : List (List ℕ)) → Opens list (Some t) opened → IsOf list g → DecidedBy (seen t.trail JournalA) (Ok g)
decided_opened g t opened list opens is =
    let s = opens_stands list t opened opens in
    let none = none-refused list (is.0, is.1, is.2) in
    record {
      opens = λ payloads some stands. subst (λ l. IsOf l g) (one_list (seen t.trail JournalA) list payloads s stands) is;
      empty = λ stands. absurd (none.0 (one_list (seen t.trail JournalA) list [] s stands));
      refused = λ payloads index stands first. absurd (none.1 index (subst (λ l. IsFirstRefused l index) (one_list (seen t.trail JournalA) payloads list stands s) first));
      damaged = λ at damage. absurd (never_both (seen t.trail JournalA) list at s damage);
    }

pub decided : (old new : Tells) (result : Result GatewayState OpenFault) → GatewayOpens old new result → OpenDecided old.told result
decided old new result answers = by old.told result refl answers
  where
    before : (told : Option Told) (fault : OpenFault) → old.told ≡ told → FailsBefore fault old.told new.told → OpenDecided told (Err fault)
    before None fault is a = tt
    before (Some t) fault is a = decided_before fault t new.told (subst (λ (o : Option Told). FailsBefore fault o new.told) is a)

    site : (told : Option Told) → OpenDecided told (Err Site)
    site None = tt
    site (Some t) = record {
      opens = λ payloads some stands. inl refl;
      empty = λ stands. inr (inl refl);
      refused = λ payloads index stands first. inr (inl refl);
      damaged = λ at damage. inr (inl refl);
    }

    by : (told : Option Told) (r : Result GatewayState OpenFault) → old.told ≡ told → GatewayOpens old new r → OpenDecided told r
    by None (Ok g) is a = tt
    by (Some t) (Ok g) is (list, opened, opens, of, raised) = decided_opened g t opened list (subst (λ (o : Option Told). Opens list o opened) is opens) of
    by told (Err Site) is a = site told
    by told (Err Empty) is a = before told Empty is a
    by told (Err (Record index)) is a = before told (Record index) is a
    by told (Err (Damaged at)) is a = before told (Damaged at) is a
    by told (Err Memory) is a = before told Memory is a

-- ---- what is given on

pub before : (old new : Tells) (fault : OpenFault) → FailsBefore fault old.told new.told → GatewayOpens old new (Err fault)
before old new Empty fails = fails
before old new (Record index) fails = fails
before old new (Damaged at) fails = fails
before old new Site fails = inl fails
before old new Memory fails = fails

pub given-on : (r : Result GatewayState OpenFault) (e : OpenFault) → IsErr r × IsErrAnd r (λ f. f ≡ e) → r ≡ Err e
given-on (Ok g) e h = absurd h.1
given-on (Err f) e h = ap Err h.1
