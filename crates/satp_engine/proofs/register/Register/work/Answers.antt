use Rattle.std.proofs.Common.{refl}
use Rattle.satp_points.specs.States.{tells}
use Rattle.satp_points.specs.declared.decision.Decision.TheVariants.{Works}
use Rattle.satp_engine.proofs.RegisterLemmas.{seen-done, seen-within, shown, shown-ready, shown-stands}
use Rattle.satp_engine.proofs.register.Register.work.Goals as goal

pub carry_out-result-requires-clause-stands : goal.carry_out-result-requires-clause-stands
carry_out-result-requires-clause-stands g c =
    shown-stands c.self.inside.records c.self.inside.broken c.args.self.now c.self.view_is c.requires.whole c.self.invariant.0 c.self.invariant.1 (g.S.Device.told c.args.site.now) c.requires.within

pub carry_out-result-requires-clause-ready : goal.carry_out-result-requires-clause-ready
carry_out-result-requires-clause-ready g c =
    shown-ready c.self.inside.records c.self.inside.broken c.args.self.now c.self.view_is c.requires.whole c.self.invariant.0 c.self.invariant.1 (Works c.args.session c.args.first c.args.replying) c.requires.ready

pub returns-clause-done : goal.returns-clause-done
returns-clause-done g c =
    let before = tells (g.S.Device.told c.args.site.now) (g.S.Device.book c.args.site.now) in
    let told = g.S.Device.told c.carry_out-result.new.site in
    let site = tells told (g.S.Device.book c.carry_out-result.new.site) in
    let is = shown c.self.inside.records c.self.inside.broken c.args.self.now c.self.view_is c.requires.whole c.self.invariant.0 c.self.invariant.1 in
    seen-done c.carry_out-result.result c.carry_out-result.new.self c.is_site_fault-self-inside.result told c.carry_out-result.ensures.stands c.is_site_fault-self-inside.ensures _ refl (Works c.args.session c.args.first c.args.replying) c.self.inside.records c.args.self.now before site is c.carry_out-result.ensures.done

pub returns-clause-within : goal.returns-clause-within
returns-clause-within g c =
    let told = g.S.Device.told c.carry_out-result.new.site in
    seen-within c.carry_out-result.result c.carry_out-result.new.self c.is_site_fault-self-inside.result told c.carry_out-result.ensures.stands c.is_site_fault-self-inside.ensures _ refl
