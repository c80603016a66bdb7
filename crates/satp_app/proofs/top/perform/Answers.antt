use Rattle.std.proofs.Common.{subst, sym}
use Rattle.satp_app.specs.Commands.{CommandRule}
use Rattle.satp_outcome.specs.Outside.{outside, sink, site_state, source, streams, wire_state}
use Rattle.satp_app.proofs.top.perform.Goals as goal

pub returns-in-Init-clause-rule : goal.returns-in-Init-clause-rule
returns-in-Init-clause-rule g c =
    let wire = wire_state g.W.Wire.faults g.W.Wire.told g.W.Wire.listens g.W.Wire.is_open c.args.wire.now in
    let before = outside (streams (source g.I.Source.faults g.I.Source.left g.I.Source.is_over c.args.input.now) (sink g.K.Sink.faults g.K.Sink.taken g.K.Sink.has_failed c.args.out.now)) (site_state g.S.Device.faults g.S.Device.told g.S.Device.book c.args.site.now) wire in
    let after = outside (streams (source g.I.Source.faults g.I.Source.left g.I.Source.is_over c.init.new.input) (sink g.K.Sink.faults g.K.Sink.taken g.K.Sink.has_failed c.init.new.out)) (site_state g.S.Device.faults g.S.Device.told g.S.Device.book c.init.new.site) wire in
    subst (λ command. CommandRule command before after c.init.result) (sym c.in-Init.is) (c.init.ensures.rule wire)

pub returns-in-Abort-clause-rule : goal.returns-in-Abort-clause-rule
returns-in-Abort-clause-rule g c =
    let wire = wire_state g.W.Wire.faults g.W.Wire.told g.W.Wire.listens g.W.Wire.is_open c.args.wire.now in
    let input = source g.I.Source.faults g.I.Source.left g.I.Source.is_over c.args.input.now in
    let before = outside (streams input (sink g.K.Sink.faults g.K.Sink.taken g.K.Sink.has_failed c.args.out.now)) (site_state g.S.Device.faults g.S.Device.told g.S.Device.book c.args.site.now) wire in
    let after = outside (streams input (sink g.K.Sink.faults g.K.Sink.taken g.K.Sink.has_failed c.abort.new.out)) (site_state g.S.Device.faults g.S.Device.told g.S.Device.book c.abort.new.site) wire in
    subst (λ command. CommandRule command before after c.abort.result) (sym c.in-Abort.is) (c.abort.ensures.rule input wire)

pub returns-in-Show-clause-rule : goal.returns-in-Show-clause-rule
returns-in-Show-clause-rule g c =
    let wire = wire_state g.W.Wire.faults g.W.Wire.told g.W.Wire.listens g.W.Wire.is_open c.args.wire.now in
    let input = source g.I.Source.faults g.I.Source.left g.I.Source.is_over c.args.input.now in
    let before = outside (streams input (sink g.K.Sink.faults g.K.Sink.taken g.K.Sink.has_failed c.args.out.now)) (site_state g.S.Device.faults g.S.Device.told g.S.Device.book c.args.site.now) wire in
    let after = outside (streams input (sink g.K.Sink.faults g.K.Sink.taken g.K.Sink.has_failed c.show.new.out)) (site_state g.S.Device.faults g.S.Device.told g.S.Device.book c.show.new.site) wire in
    subst (λ command. CommandRule command before after c.show.result) (sym c.in-Show.is) (c.show.ensures.rule input wire)

pub returns-in-Serve-clause-rule : goal.returns-in-Serve-clause-rule
returns-in-Serve-clause-rule g c =
    let input = source g.I.Source.faults g.I.Source.left g.I.Source.is_over c.args.input.now in
    let before = outside (streams input (sink g.K.Sink.faults g.K.Sink.taken g.K.Sink.has_failed c.args.out.now)) (site_state g.S.Device.faults g.S.Device.told g.S.Device.book c.args.site.now) (wire_state g.W.Wire.faults g.W.Wire.told g.W.Wire.listens g.W.Wire.is_open c.args.wire.now) in
    let after = outside (streams input (sink g.K.Sink.faults g.K.Sink.taken g.K.Sink.has_failed c.serve.new.out)) (site_state g.S.Device.faults g.S.Device.told g.S.Device.book c.serve.new.site) (wire_state g.W.Wire.faults g.W.Wire.told g.W.Wire.listens g.W.Wire.is_open c.serve.new.wire) in
    subst (λ command. CommandRule command before after c.serve.result) (sym c.in-Serve.is) (c.serve.ensures.rule input)

pub returns-in-Start-clause-rule : goal.returns-in-Start-clause-rule
returns-in-Start-clause-rule g c =
    let input = source g.I.Source.faults g.I.Source.left g.I.Source.is_over c.args.input.now in
    let before = outside (streams input (sink g.K.Sink.faults g.K.Sink.taken g.K.Sink.has_failed c.args.out.now)) (site_state g.S.Device.faults g.S.Device.told g.S.Device.book c.args.site.now) (wire_state g.W.Wire.faults g.W.Wire.told g.W.Wire.listens g.W.Wire.is_open c.args.wire.now) in
    let after = outside (streams input (sink g.K.Sink.faults g.K.Sink.taken g.K.Sink.has_failed c.start.new.out)) (site_state g.S.Device.faults g.S.Device.told g.S.Device.book c.start.new.site) (wire_state g.W.Wire.faults g.W.Wire.told g.W.Wire.listens g.W.Wire.is_open c.start.new.wire) in
    subst (λ command. CommandRule command before after c.start.result) (sym c.in-Start.is) (c.start.ensures.rule input)

pub returns-in-Resume-clause-rule : goal.returns-in-Resume-clause-rule
returns-in-Resume-clause-rule g c =
    let input = source g.I.Source.faults g.I.Source.left g.I.Source.is_over c.args.input.now in
    let before = outside (streams input (sink g.K.Sink.faults g.K.Sink.taken g.K.Sink.has_failed c.args.out.now)) (site_state g.S.Device.faults g.S.Device.told g.S.Device.book c.args.site.now) (wire_state g.W.Wire.faults g.W.Wire.told g.W.Wire.listens g.W.Wire.is_open c.args.wire.now) in
    let after = outside (streams input (sink g.K.Sink.faults g.K.Sink.taken g.K.Sink.has_failed c.resume.new.out)) (site_state g.S.Device.faults g.S.Device.told g.S.Device.book c.resume.new.site) (wire_state g.W.Wire.faults g.W.Wire.told g.W.Wire.listens g.W.Wire.is_open c.resume.new.wire) in
    subst (λ command. CommandRule command before after c.resume.result) (sym c.in-Resume.is) (c.resume.ensures.rule input)

pub returns-in-Recover-clause-rule : goal.returns-in-Recover-clause-rule
returns-in-Recover-clause-rule g c =
    let input = source g.I.Source.faults g.I.Source.left g.I.Source.is_over c.args.input.now in
    let before = outside (streams input (sink g.K.Sink.faults g.K.Sink.taken g.K.Sink.has_failed c.args.out.now)) (site_state g.S.Device.faults g.S.Device.told g.S.Device.book c.args.site.now) (wire_state g.W.Wire.faults g.W.Wire.told g.W.Wire.listens g.W.Wire.is_open c.args.wire.now) in
    let after = outside (streams input (sink g.K.Sink.faults g.K.Sink.taken g.K.Sink.has_failed c.recover.new.out)) (site_state g.S.Device.faults g.S.Device.told g.S.Device.book c.recover.new.site) (wire_state g.W.Wire.faults g.W.Wire.told g.W.Wire.listens g.W.Wire.is_open c.recover.new.wire) in
    subst (λ command. CommandRule command before after c.recover.result) (sym c.in-Recover.is) (c.recover.ensures.rule input)
