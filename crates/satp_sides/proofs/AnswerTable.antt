-- The test that what is due is answered, over all looks and entries.
use Rattle.std.proofs.Common.{Bool, true, Option}
use Rattle.satp_base.specs.declared.message.Kind.{Kind}
use Rattle.satp_base.specs.declared.message.Kind.TheVariants.{CommitReady, CommitFinal, Rollback}
use Rattle.satp_base.specs.declared.ledger.Entry.{Entry}
use Rattle.satp_base.specs.declared.ledger.Entry.TheVariants.{Absent, Locked, Burnt, Minted, Assigned, Released}
use Rattle.satp_base.specs.declared.message.Role.TheVariants.{Origin, Recipient}
use Rattle.satp_base.specs.declared.record.Next.{Next}
use Rattle.satp_base.specs.declared.record.Next.TheVariants.{Act}
use Rattle.satp_base.specs.declared.record.Way.{Way}
use Rattle.satp_base.specs.LedgerRule.{is_always_answered}
use Rattle.satp_base.specs.Roles.{either, is_back, is_commit, negate}
use Rattle.satp_base.specs.Tales.{is_kind}
use Rattle.satp_base.proofs.Finite.{all_of, andthen, implies}
use Rattle.satp_sides.specs.Halves.{can_do, entry_is}
use Rattle.satp_sides.proofs.DueTable.{Look, next_at, origin_look, recipient_look}
use Rattle.satp_sides.proofs.Lists.{bools, entries, lasts, ways}

-- what the origin's invariant says of its entry
abbrev pub origin_fits : Option Kind → Option Way → Entry → Bool
origin_fits last way e =
    andthen (negate (entry_is e Minted)) λ _.
    andthen (negate (entry_is e Assigned)) λ _.
    andthen (implies (entry_is e Burnt) (is_commit way)) λ _.
    andthen (implies (entry_is e Released) (is_back way)) λ _.
    implies (is_kind CommitReady last) (negate (entry_is e Absent))

-- what the recipient's says
abbrev pub recipient_fits : Option Kind → Option Way → Entry → Bool
recipient_fits last way e =
    andthen (negate (entry_is e Locked)) λ _.
    andthen (negate (entry_is e Burnt)) λ _.
    andthen (implies (is_kind CommitFinal last) (negate (entry_is e Absent))) λ _.
    andthen (implies (is_kind CommitFinal last) (negate (entry_is e Released))) λ _.
    andthen (implies (is_kind Rollback last) (negate (entry_is e Assigned))) λ _.
    implies (is_back way) (negate (entry_is e Assigned))

abbrev pub answers : Entry → Next → Bool
answers e (Act op) = either (is_always_answered op) (can_do op e)
answers e next = true

abbrev pub origin_answers : Look → Entry → Bool
origin_answers l e = implies (origin_fits l.last l.way e) (answers e (next_at Origin l))

abbrev pub recipient_answers : Look → Entry → Bool
recipient_answers l e = implies (recipient_fits l.last l.way e) (answers e (next_at Recipient l))

abbrev pub origins_answer : Bool → Bool → Bool → Bool
origins_answer mint assign prepared =
    all_of (λ last. all_of (λ way. all_of (λ lock. all_of (λ burn. all_of (λ release. all_of (λ rescue. all_of (λ e.
    origin_answers (origin_look mint assign prepared last way lock burn release rescue) e) entries) bools) bools) bools) bools) ways) lasts

abbrev pub recipients_answer : Bool → Bool → Bool → Bool
recipients_answer lock burn rescue =
    all_of (λ last. all_of (λ way. all_of (λ mint. all_of (λ assign. all_of (λ release. all_of (λ prepared. all_of (λ e.
    recipient_answers (recipient_look lock burn rescue last way mint assign release prepared) e) entries) bools) bools) bools) bools) ways) lasts
