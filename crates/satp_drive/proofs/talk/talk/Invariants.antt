use Rattle.std.proofs.Common.{◌≡◌, ◌≤◌, ◌-◌, ◌*◌, true, false}
use Rattle.satp_base.specs.Values.{address_text}
use Rattle.satp_points.specs.States.{GateWithin, is_broken}
use Rattle.satp_drive.specs.Calling.{standing}
use Rattle.satp_drive.specs.declared.turn.Turn.TheVariants.{Posts}
use Rattle.satp_drive.proofs.Talking.{Going}
use Rattle.satp_drive.proofs.talk.talk.Given as goal

-- each text so far has its answer
abbrev pub invariant-loop-posted : goal.invariant-loop-posted
invariant-loop-posted g l = record {
  going : Going (address_text l.fn.course.at) l.fn.course.session (Posts l.fn.text l.fn.owed)
      (standing l.fn.gateway (g.S.Device.told l.fn.site) (g.S.Device.book l.fn.site) (g.S.Device.faults l.fn.site))
      (standing l.gateway (g.S.Device.told l.site) (g.S.Device.book l.site) (g.S.Device.faults l.site))
      l.text l.owed l.posted l.messages l.responses (g.W.Wire.told l.fn.wire) (g.W.Wire.told l.wire);
  most : l.messages ≤ 2 * l.posted;
  within : l.posted ≤ 16;
  whole : is_broken l.gateway ≡ false;
  gate : GateWithin l.gateway (g.S.Device.told l.site);
  is_open : g.W.Wire.is_open l.wire ≡ true;
  listens : g.W.Wire.listens l.wire ≡ g.W.Wire.listens l.fn.wire;
  site_beside : g.S.Device.beside l.fn.site l.site;
  wire_beside : g.W.Wire.beside l.fn.wire l.wire;
  site_faults : g.S.Device.faults l.site ≡ g.S.Device.faults l.fn.site;
  wire_faults : g.W.Wire.faults l.wire ≡ g.W.Wire.faults l.fn.wire;
}

abbrev pub decreases-loop-posted : goal.decreases-loop-posted
decreases-loop-posted g l = 16 - l.posted
