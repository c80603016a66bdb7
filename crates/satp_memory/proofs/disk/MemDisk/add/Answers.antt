use Rattle.std.proofs.Common.{◌≡◌, List, subst, sym, true}
use Rattle.satp_base.specs.declared.area.Event.{Event}
use Rattle.satp_memory.specs.Disk.{Tracks, is_plain}
use Rattle.satp_memory.proofs.Tracking.{ledger-plain, plain-push, tracks-noted}
use Rattle.satp_memory.proofs.disk.MemDisk.add.Goals as goal

pub invariant_of-self : goal.invariant_of-self
invariant_of-self c =
    let m = c.args.self.now in
    record {
      tracks = subst (λ (es : List Event). Tracks m.start es m.current m.base m.marks) (sym c.push_within.ensures.items) (tracks-noted m.start m.events.items m.current m.base m.marks m.tracks c.args.event c.requires.ledger);
      plain = subst (λ (es : List Event). is_plain es ≡ true) (sym c.push_within.ensures.items) (plain-push m.events.items c.args.event m.plain (ledger-plain c.args.event c.requires.ledger));
    }
