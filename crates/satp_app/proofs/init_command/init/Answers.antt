use Rattle.std.proofs.Common.{◌∙◌, refl, subst, arith}
use Rattle.satp_base.specs.Streams.{Rose}
use Rattle.satp_points.specs.States.{tells}
use Rattle.satp_app.specs.Init.{order}
use Rattle.satp_outcome.specs.Outside.{outside, sink, site_state, source, streams}
use Rattle.satp_app.proofs.SetUpEnds.{ends_done, ends_unprinted, ends_unread, ends_unset, is_ready}
use Rattle.satp_app.proofs.init_command.init.Goals as goal

pub returns-in-Err-read_genesis-clause-rule : goal.returns-in-Err-read_genesis-clause-rule
returns-in-Err-read_genesis-clause-rule g c = λ wire.
    let before = outside (streams (source g.I.Source.faults g.I.Source.left g.I.Source.is_over c.args.input.now) (sink g.K.Sink.faults g.K.Sink.taken g.K.Sink.has_failed c.args.out.now)) (site_state g.S.Device.faults g.S.Device.told g.S.Device.book c.args.site.now) wire in
    let after = outside (streams (source g.I.Source.faults g.I.Source.left g.I.Source.is_over c.read_genesis.new.input) (sink g.K.Sink.faults g.K.Sink.taken g.K.Sink.has_failed c.args.out.now)) (site_state g.S.Device.faults g.S.Device.told g.S.Device.book c.open.new.site) wire in
    let old = tells (g.S.Device.told c.args.site.now) (g.S.Device.book c.args.site.now) in
    let inside = tells (g.S.Device.told c.enter.new.self) (g.S.Device.book c.enter.new.self) in
    let opened = tells (g.S.Device.told c.open.new.site) (g.S.Device.book c.open.new.site) in
    let ready = is_ready c.args.dir.now c.bytes.result.now old inside opened c.bytes.ensures c.in-Ok.ensures.ok c.in-Ok.ensures.ledger c.in-Ok-open.ensures.answers in
    ends_unread (order c.args.dir.now c.args.setup.now c.args.kind) before after refl c.in-Err-read_genesis.outcome ready c.in-Err-read_genesis.ensures refl (c.in-Ok-open.ensures.kept ∙ c.in-Ok.ensures.cause.kept)

pub returns-in-Err-set_up-clause-rule : goal.returns-in-Err-set_up-clause-rule
returns-in-Err-set_up-clause-rule g c = λ wire.
    let before = outside (streams (source g.I.Source.faults g.I.Source.left g.I.Source.is_over c.args.input.now) (sink g.K.Sink.faults g.K.Sink.taken g.K.Sink.has_failed c.args.out.now)) (site_state g.S.Device.faults g.S.Device.told g.S.Device.book c.args.site.now) wire in
    let after = outside (streams (source g.I.Source.faults g.I.Source.left g.I.Source.is_over c.read_genesis.new.input) (sink g.K.Sink.faults g.K.Sink.taken g.K.Sink.has_failed c.args.out.now)) (site_state g.S.Device.faults g.S.Device.told g.S.Device.book c.set_up.new.site) wire in
    let old = tells (g.S.Device.told c.args.site.now) (g.S.Device.book c.args.site.now) in
    let inside = tells (g.S.Device.told c.enter.new.self) (g.S.Device.book c.enter.new.self) in
    let opened = tells (g.S.Device.told c.open.new.site) (g.S.Device.book c.open.new.site) in
    let ready = is_ready c.args.dir.now c.bytes.result.now old inside opened c.bytes.ensures c.in-Ok.ensures.ok c.in-Ok.ensures.ledger c.in-Ok-open.ensures.answers in
    let so_far = c.in-Ok-open.ensures.kept ∙ c.in-Ok.ensures.cause.kept in
    ends_unset (order c.args.dir.now c.args.setup.now c.args.kind) before after refl opened ready c.in-Ok-read_genesis.genesis c.in-Ok-read_genesis.ensures c.not_set_up-in-Err-set_up.result c.in-Err-set_up.fault c.not_set_up-in-Err-set_up.ensures c.in-Err-set_up.ensures.answers refl
    (omega (arith, so_far, c.set_up.ensures.later)) (λ e. subst (λ n. Rose n (g.S.Device.faults c.set_up.new.site)) so_far (c.in-Err-set_up.ensures.cause e)) (λ other. c.in-Err-set_up.ensures.still other ∙ so_far)

pub returns-in-Ok-say_both-clause-rule : goal.returns-in-Ok-say_both-clause-rule
returns-in-Ok-say_both-clause-rule g c = λ wire.
    let before = outside (streams (source g.I.Source.faults g.I.Source.left g.I.Source.is_over c.args.input.now) (sink g.K.Sink.faults g.K.Sink.taken g.K.Sink.has_failed c.args.out.now)) (site_state g.S.Device.faults g.S.Device.told g.S.Device.book c.args.site.now) wire in
    let after = outside (streams (source g.I.Source.faults g.I.Source.left g.I.Source.is_over c.read_genesis.new.input) (sink g.K.Sink.faults g.K.Sink.taken g.K.Sink.has_failed c.say_both.new.out)) (site_state g.S.Device.faults g.S.Device.told g.S.Device.book c.set_up.new.site) wire in
    let old = tells (g.S.Device.told c.args.site.now) (g.S.Device.book c.args.site.now) in
    let inside = tells (g.S.Device.told c.enter.new.self) (g.S.Device.book c.enter.new.self) in
    let opened = tells (g.S.Device.told c.open.new.site) (g.S.Device.book c.open.new.site) in
    let ready = is_ready c.args.dir.now c.bytes.result.now old inside opened c.bytes.ensures c.in-Ok.ensures.ok c.in-Ok.ensures.ledger c.in-Ok-open.ensures.answers in
    ends_done (order c.args.dir.now c.args.setup.now c.args.kind) before after refl opened ready c.in-Ok-read_genesis.genesis c.in-Ok-read_genesis.ensures c.in-Ok-set_up.ensures.answers
    (c.in-Ok-set_up.ensures.kept ∙ c.in-Ok-open.ensures.kept ∙ c.in-Ok.ensures.cause.kept) c.bytes-2.result.now c.bytes-2.ensures c.in-Ok-say_both.ensures

pub returns-clause-rule : goal.returns-clause-rule
returns-clause-rule g c = λ wire.
    let before = outside (streams (source g.I.Source.faults g.I.Source.left g.I.Source.is_over c.args.input.now) (sink g.K.Sink.faults g.K.Sink.taken g.K.Sink.has_failed c.args.out.now)) (site_state g.S.Device.faults g.S.Device.told g.S.Device.book c.args.site.now) wire in
    let after = outside (streams (source g.I.Source.faults g.I.Source.left g.I.Source.is_over c.read_genesis.new.input) (sink g.K.Sink.faults g.K.Sink.taken g.K.Sink.has_failed c.say_both.new.out)) (site_state g.S.Device.faults g.S.Device.told g.S.Device.book c.set_up.new.site) wire in
    let old = tells (g.S.Device.told c.args.site.now) (g.S.Device.book c.args.site.now) in
    let inside = tells (g.S.Device.told c.enter.new.self) (g.S.Device.book c.enter.new.self) in
    let opened = tells (g.S.Device.told c.open.new.site) (g.S.Device.book c.open.new.site) in
    let ready = is_ready c.args.dir.now c.bytes.result.now old inside opened c.bytes.ensures c.in-Ok.ensures.ok c.in-Ok.ensures.ledger c.in-Ok-open.ensures.answers in
    ends_unprinted (order c.args.dir.now c.args.setup.now c.args.kind) before after refl opened ready c.in-Ok-read_genesis.genesis c.in-Ok-read_genesis.ensures c.in-Ok-set_up.ensures.answers
    (c.in-Ok-set_up.ensures.kept ∙ c.in-Ok-open.ensures.kept ∙ c.in-Ok.ensures.cause.kept) c.bytes-2.result.now c.bytes-2.ensures c.in-Err-say_both.ensures

pub returns-in-Err-read_genesis-clause-beside : goal.returns-in-Err-read_genesis-clause-beside
returns-in-Err-read_genesis-clause-beside g c = g.S.Device.beside_then c.args.site.now c.enter.new.self c.open.new.site c.in-Ok.ensures.beside c.in-Ok-open.ensures.beside

pub returns-in-Err-set_up-clause-beside : goal.returns-in-Err-set_up-clause-beside
returns-in-Err-set_up-clause-beside g c = g.S.Device.beside_then c.args.site.now c.open.new.site c.set_up.new.site (g.S.Device.beside_then c.args.site.now c.enter.new.self c.open.new.site c.in-Ok.ensures.beside c.in-Ok-open.ensures.beside) c.in-Err-set_up.ensures.beside

pub returns-in-Ok-say_both-clause-beside : goal.returns-in-Ok-say_both-clause-beside
returns-in-Ok-say_both-clause-beside g c = g.S.Device.beside_then c.args.site.now c.open.new.site c.set_up.new.site (g.S.Device.beside_then c.args.site.now c.enter.new.self c.open.new.site c.in-Ok.ensures.beside c.in-Ok-open.ensures.beside) c.in-Ok-set_up.ensures.beside

pub returns-clause-beside : goal.returns-clause-beside
returns-clause-beside g c = g.S.Device.beside_then c.args.site.now c.open.new.site c.set_up.new.site (g.S.Device.beside_then c.args.site.now c.enter.new.self c.open.new.site c.in-Ok.ensures.beside c.in-Ok-open.ensures.beside) c.in-Ok-set_up.ensures.beside
