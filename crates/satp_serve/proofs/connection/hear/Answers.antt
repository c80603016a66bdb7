use Rattle.std.proofs.Common.{◌∙◌, ◌+◌, ◌++◌, List, ℕ, take, drop, subst, refl, ap, arith}
use Rattle.std.specs.Prelude.{Ok, Err}
use Rattle.std.proofs.lemmas.List.{length-append, length-drop, length-take}
use Rattle.satp_serve.specs.Connections.{Responds}
use Rattle.satp_serve.specs.Feeding.{talk}
use Rattle.satp_serve.specs.declared.turn.Turn.TheVariants.{More, Close}
use Rattle.satp_serve.proofs.Hearing.{AllHeard, ends_in_memory, ends_with_peer, front_length, front_read, heard_none, reads_some, responds_closes, responds_fails, responds_more}
use Rattle.satp_serve.proofs.connection.hear.Goals as goal

pub loop-heard-init : goal.loop-heard-init
loop-heard-init g c = record {
  heard = heard_none g.G.Responder.replies c.args.responder.now c.args.site.now c.args.served.now (g.W.Wire.told c.args.wire.now) c.requires.unheard;
  within = omega arith;
  piece = refl;
  fits = c.requires.fits;
  unclosed = rw c.requires.unheard refl;
  is_open = c.requires.open;
  listens = refl;
  beside = g.met.W.Wire.beside_same c.args.wire.now;
  faults = refl;
}

pub returns-in_default-clause-hears : goal.returns-in_default-clause-hears
returns-in_default-clause-hears g c =
    ends_in_memory g.G.Responder.replies c.args.responder.now c.args.site.now c.loop-heard.served c.loop-heard.responder c.loop-heard.site (g.W.Wire.told c.args.wire.now) (g.W.Wire.told c.loop-heard.wire) (g.W.Wire.faults c.args.wire.now) (g.W.Wire.faults c.loop-heard.wire) c.loop-heard.heard c.loop-heard.invariant.heard (omega (arith, c.loop-heard.invariant.within)) c.loop-heard.invariant.faults

pub returns-then-count-eq0-clause-hears : goal.returns-then-count-eq0-clause-hears
returns-then-count-eq0-clause-hears g c =
    let told = g.W.Wire.told in
    let faults = g.W.Wire.faults in
    ends_with_peer g.G.Responder.replies c.args.responder.now c.args.site.now c.loop-heard.served c.loop-heard.responder c.loop-heard.site (told c.args.wire.now) (told c.loop-heard.wire) (told c.read.new.self) (faults c.args.wire.now) (faults c.read.new.self) c.loop-heard.heard c.read.new.into c.in-Ok-read.count
    c.loop-heard.invariant.heard (omega (arith, c.loop-heard-test.true)) c.if-count-eq0.true (omega (arith, c.loop-heard-test.true, c.min-room.ensures, c.read.auto.into, length-take {A = ℕ} c.min-room.result c.loop-heard.piece, c.loop-heard.invariant.piece)) c.in-Ok-read.ensures.ok (c.in-Ok-read.ensures.cause.kept ∙ c.loop-heard.invariant.faults)

pub returns-in-Ok-Close-clause-hears : goal.returns-in-Ok-Close-clause-hears
returns-in-Ok-Close-clause-hears g c =
    let told = g.W.Wire.told in
    let faults = g.W.Wire.faults in
    let into = c.read.new.into in
    let n = c.in-Ok-read.count in
    let piece = take n (into ++ drop c.min-room.result c.loop-heard.piece) in
    let within = c.in-Ok-read.ensures.within in
    responds_closes g.G.Responder.replies c.args.responder.now c.args.site.now c.loop-heard.served c.respond.new.served c.loop-heard.responder c.loop-heard.site c.respond.new.responder c.respond.new.site (told c.args.wire.now) (told c.loop-heard.wire) (told c.read.new.self) (told c.respond.new.wire)
    (faults c.args.wire.now) (faults c.read.new.self) (faults c.respond.new.wire) c.loop-heard.heard piece c.respond.new.said
    c.loop-heard.invariant.heard c.loop-heard.invariant.unclosed (reads_some (told c.loop-heard.wire) (told c.read.new.self) into piece n c.if-count-eq0.false (front_read into _ n within) c.in-Ok-read.ensures.ok)
    (c.in-Ok-read.ensures.cause.kept ∙ c.loop-heard.invariant.faults)
    (omega (arith, front_length into (drop c.min-room.result c.loop-heard.piece) n within, within, c.loop-heard-test.true, c.min-room.ensures, c.read.auto.into, length-take {A = ℕ} c.min-room.result c.loop-heard.piece, c.loop-heard.invariant.piece))
    (subst (λ (l : List ℕ). Responds g.G.Responder.replies c.loop-heard.served.feed c.respond.new.served.feed (talk c.loop-heard.served c.loop-heard.responder c.loop-heard.site l) (talk c.respond.new.served c.respond.new.responder c.respond.new.site c.respond.new.said) piece (told c.read.new.self) (told c.respond.new.wire) (faults c.read.new.self) (faults c.respond.new.wire) (Ok Close))
    c.in-Ok.ensures (rw c.in-Ok-Close.field-0-is at c.in-Ok-Close.ensures.responds))

pub returns-in-Err-clause-hears : goal.returns-in-Err-clause-hears
returns-in-Err-clause-hears g c =
    let told = g.W.Wire.told in
    let faults = g.W.Wire.faults in
    let into = c.read.new.into in
    let n = c.in-Ok-read.count in
    let piece = take n (into ++ drop c.min-room.result c.loop-heard.piece) in
    let within = c.in-Ok-read.ensures.within in
    responds_fails g.G.Responder.replies c.args.responder.now c.args.site.now c.loop-heard.served c.respond.new.served c.loop-heard.responder c.loop-heard.site c.respond.new.responder c.respond.new.site (told c.args.wire.now) (told c.loop-heard.wire) (told c.read.new.self) (told c.respond.new.wire)
    (faults c.args.wire.now) (faults c.read.new.self) (faults c.respond.new.wire) c.loop-heard.heard piece c.respond.new.said c.in-Err.end
    c.loop-heard.invariant.heard c.loop-heard.invariant.unclosed (reads_some (told c.loop-heard.wire) (told c.read.new.self) into piece n c.if-count-eq0.false (front_read into _ n within) c.in-Ok-read.ensures.ok)
    (c.in-Ok-read.ensures.cause.kept ∙ c.loop-heard.invariant.faults)
    (omega (arith, front_length into (drop c.min-room.result c.loop-heard.piece) n within, within, c.loop-heard-test.true, c.min-room.ensures, c.read.auto.into, length-take {A = ℕ} c.min-room.result c.loop-heard.piece, c.loop-heard.invariant.piece))
    (subst (λ (l : List ℕ). Responds g.G.Responder.replies c.loop-heard.served.feed c.respond.new.served.feed (talk c.loop-heard.served c.loop-heard.responder c.loop-heard.site l) (talk c.respond.new.served c.respond.new.responder c.respond.new.site c.respond.new.said) piece (told c.read.new.self) (told c.respond.new.wire) (faults c.read.new.self) (faults c.respond.new.wire) (Err c.in-Err.end))
    c.in-Ok.ensures c.in-Err.ensures.responds)

pub loop-heard-preserved : goal.loop-heard-preserved
loop-heard-preserved g c =
    let told = g.W.Wire.told in
    let faults = g.W.Wire.faults in
    let into = c.read.new.into in
    let n = c.in-Ok-read.count in
    let piece = take n (into ++ drop c.min-room.result c.loop-heard.piece) in
    let within = c.in-Ok-read.ensures.within in
    let responds = subst (λ (l : List ℕ). Responds g.G.Responder.replies c.loop-heard.served.feed c.respond.new.served.feed (talk c.loop-heard.served c.loop-heard.responder c.loop-heard.site l) (talk c.respond.new.served c.respond.new.responder c.respond.new.site c.respond.new.said) piece (told c.read.new.self) (told c.respond.new.wire) (faults c.read.new.self) (faults c.respond.new.wire) (Ok More))
    c.in-Ok.ensures (rw c.in-Ok-More.field-0-is at c.in-Ok-More.ensures.responds) in
    let heard = responds_more g.G.Responder.replies c.args.responder.now c.args.site.now c.loop-heard.served c.respond.new.served c.loop-heard.responder c.loop-heard.site c.respond.new.responder c.respond.new.site (told c.args.wire.now) (told c.loop-heard.wire) (told c.read.new.self) (told c.respond.new.wire)
    (faults c.read.new.self) (faults c.respond.new.wire) c.loop-heard.heard piece c.respond.new.said
    c.loop-heard.invariant.heard c.loop-heard.invariant.unclosed (reads_some (told c.loop-heard.wire) (told c.read.new.self) into piece n c.if-count-eq0.false (front_read into _ n within) c.in-Ok-read.ensures.ok) responds in
    record {
      heard = subst (λ (k : ℕ). AllHeard g.G.Responder.replies c.args.responder.now c.args.site.now c.respond.new.served c.respond.new.responder c.respond.new.site (told c.args.wire.now) (told c.respond.new.wire) (c.loop-heard.heard + k)) (front_length into (drop c.min-room.result c.loop-heard.piece) n within) heard;
      within = omega (arith, within, c.loop-heard-test.true, c.min-room.ensures, c.read.auto.into, length-take {A = ℕ} c.min-room.result c.loop-heard.piece, c.loop-heard.invariant.piece);
      piece = omega (arith, length-append into (drop c.min-room.result c.loop-heard.piece), length-drop c.min-room.result c.loop-heard.piece, c.loop-heard.invariant.piece, c.min-room.ensures, c.read.auto.into, length-take {A = ℕ} c.min-room.result c.loop-heard.piece, c.loop-heard.invariant.piece);
      fits = c.in-Ok-More.ensures.fits (ap Ok c.in-Ok-More.field-0-is);
      unclosed = c.in-Ok-More.ensures.unclosed (ap Ok c.in-Ok-More.field-0-is);
      is_open = c.respond.ensures.open;
      listens = c.respond.ensures.listens ∙ (c.in-Ok-read.ensures.kept.0 ∙ c.loop-heard.invariant.listens);
      beside = g.met.W.Wire.beside_then c.args.wire.now c.read.new.self c.respond.new.wire (g.met.W.Wire.beside_then c.args.wire.now c.loop-heard.wire c.read.new.self c.loop-heard.invariant.beside c.read.ensures.beside) c.respond.ensures.beside;
      faults = responds.2 ∙ (c.in-Ok-read.ensures.cause.kept ∙ c.loop-heard.invariant.faults);
    }
