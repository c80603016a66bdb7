use Rattle.std.proofs.Common.{◌∙◌, refl, arith}
use Rattle.satp_base.specs.Values.{address_text}
use Rattle.satp_drive.specs.Calling.{standing}
use Rattle.satp_drive.specs.declared.turn.Turn.TheVariants.{Posts}
use Rattle.satp_drive.proofs.Talking.{ends_answered_by, going_first, going_on_by}
use Rattle.satp_drive.proofs.talk.talk.Goals as goal

pub loop-posted-init : goal.loop-posted-init
loop-posted-init g c =
    let site = c.args.site.now in
    let at = standing c.args.gateway.now (g.S.Device.told site) (g.S.Device.book site) (g.S.Device.faults site) in
    record {
      going = rw c.requires.unheard (going_first (address_text c.args.course.at) c.args.course.session at c.args.text c.args.owed (g.W.Wire.told c.args.wire.now));
      most = omega arith;
      within = omega arith;
      whole = c.requires.whole;
      gate = c.requires.within;
      is_open = c.requires.open;
      listens = refl;
      site_beside = g.S.Device.beside_same site;
      wire_beside = g.met.W.Wire.beside_same c.args.wire.now;
      site_faults = refl;
      wire_faults = refl;
    }

pub returns-in-Ends-clause-converses : goal.returns-in-Ends-clause-converses
returns-in-Ends-clause-converses g c =
    let at = address_text c.args.course.at in
    let told = g.W.Wire.told in
    let faults = g.W.Wire.faults in
    let S = g.S.Device in
    let l = c.loop-posted in
    let began = standing c.args.gateway.now (S.told c.args.site.now) (S.book c.args.site.now) (S.faults c.args.site.now) in
    let now = standing l.gateway (S.told l.site) (S.book l.site) (S.faults l.site) in
    let last = standing c.after_answer.new.gateway (S.told c.after_answer.new.site) (S.book c.after_answer.new.site) (S.faults c.after_answer.new.site) in
    ends_answered_by at c.args.course.session (Posts c.args.text c.args.owed) began now last l.text c.bytes.result.now l.owed c.in-Ends.end l.posted l.messages c.exchanged-messages.result l.responses c.post.new.responses
    (told c.args.wire.now) (told l.wire) (told c.post.new.wire) c.in-Ok.answered (faults c.args.wire.now) (faults l.wire) (faults c.post.new.wire)
    l.invariant.going c.bytes.ensures c.in-Ok.ensures.posts c.in-Ends.ensures.leads c.exchanged-messages.ensures.is c.loop-posted-test.true l.invariant.wire_faults

pub returns-in-Ends-clause-wire_beside : goal.returns-in-Ends-clause-wire_beside
returns-in-Ends-clause-wire_beside g c = g.met.W.Wire.beside_then c.args.wire.now c.loop-posted.wire c.post.new.wire c.loop-posted.invariant.wire_beside c.in-Ok.ensures.beside

pub loop-posted-preserved : goal.loop-posted-preserved
loop-posted-preserved g c =
    let at = address_text c.args.course.at in
    let told = g.W.Wire.told in
    let S = g.S.Device in
    let l = c.loop-posted in
    let began = standing c.args.gateway.now (S.told c.args.site.now) (S.book c.args.site.now) (S.faults c.args.site.now) in
    let now = standing l.gateway (S.told l.site) (S.book l.site) (S.faults l.site) in
    let last = standing c.after_answer.new.gateway (S.told c.after_answer.new.site) (S.book c.after_answer.new.site) (S.faults c.after_answer.new.site) in
    record {
      going = going_on_by at c.args.course.session (Posts c.args.text c.args.owed) began now last l.text c.bytes.result.now c.in-Posts.next l.owed c.in-Posts.still l.posted l.messages c.exchanged-messages.result l.responses c.post.new.responses
          (told c.args.wire.now) (told l.wire) (told c.post.new.wire) c.in-Ok.answered (g.W.Wire.faults l.wire) (g.W.Wire.faults c.post.new.wire)
          l.invariant.going c.bytes.ensures c.in-Ok.ensures.posts c.in-Posts.ensures.leads c.exchanged-messages.ensures.is;
      most = omega (arith, l.invariant.most, c.exchanged-messages.ensures.most);
      within = omega (arith, c.loop-posted-test.true);
      whole = c.in-Posts.ensures.whole;
      gate = c.in-Posts.ensures.within c.in-Posts.ensures.whole;
      is_open = c.in-Ok.ensures.open;
      listens = c.in-Ok.ensures.listens ∙ l.invariant.listens;
      site_beside = g.S.Device.beside_then c.args.site.now l.site c.after_answer.new.site l.invariant.site_beside c.after_answer.ensures.beside;
      wire_beside = g.met.W.Wire.beside_then c.args.wire.now l.wire c.post.new.wire l.invariant.wire_beside c.in-Ok.ensures.beside;
      site_faults = c.in-Posts.ensures.counts ∙ l.invariant.site_faults;
      wire_faults = c.in-Ok.ensures.posts.0 ∙ l.invariant.wire_faults;
    }
