use Rattle.std.proofs.Common.{Bool, false, subst, sym}
use Rattle.std.specs.Prelude.{Ok, Err}
use Rattle.satp_serve.specs.Exchange.{Serves}
use Rattle.satp_serve.specs.Feeding.{halt_answer, standing}
use Rattle.satp_serve.specs.declared.turn.Turn.TheVariants.{More, Close}
use Rattle.satp_serve.proofs.Saying.{halt_grows, halts, piece_grows}
use Rattle.satp_serve.proofs.served.Served.serve_over.Goals as goal

pub returns-in-Ok-More-clause-grows : goal.returns-in-Ok-More-clause-grows
returns-in-Ok-More-clause-grows g c =
    piece_grows g.G.Responder.replies c.self.inside.listening.requests c.answer_piece.new.self.requests (standing c.args.responder.now c.args.site.now c.self.inside.listening.count c.args.said.now false)
    (standing c.answer_piece.new.responder c.answer_piece.new.site c.answer_piece.new.self.count c.answer_piece.new.said false) c.args.piece.now (Ok More) (rw c.in-Ok-More.field-0-is at c.in-Ok-More.ensures.answers)

pub returns-in-Ok-Close-clause-grows : goal.returns-in-Ok-Close-clause-grows
returns-in-Ok-Close-clause-grows g c =
    piece_grows g.G.Responder.replies c.self.inside.listening.requests c.answer_piece.new.self.requests (standing c.args.responder.now c.args.site.now c.self.inside.listening.count c.args.said.now false)
    (standing c.answer_piece.new.responder c.answer_piece.new.site c.answer_piece.new.self.count c.answer_piece.new.said false) c.args.piece.now (Ok Close) (rw c.in-Ok-Close.field-0-is at c.in-Ok-Close.ensures.answers)

pub returns-in-Err-clause-grows : goal.returns-in-Err-clause-grows
returns-in-Err-clause-grows g c =
    halt_grows c.args.said.now c.answer_piece.new.said c.add_halt.new.said (halt_answer c.in-Err.fault)
    (piece_grows g.G.Responder.replies c.self.inside.listening.requests c.answer_piece.new.self.requests (standing c.args.responder.now c.args.site.now c.self.inside.listening.count c.args.said.now false)
    (standing c.answer_piece.new.responder c.answer_piece.new.site c.answer_piece.new.self.count c.answer_piece.new.said false) c.args.piece.now (Err c.in-Err.fault) c.in-Err.ensures.answers)
    c.add_halt.ensures

pub returns-in-Err-clause-answers : goal.returns-in-Err-clause-answers
returns-in-Err-clause-answers g c =
    let a = c.in-Err.ensures.answers in
    let begun = λ (b : Bool). standing c.args.responder.now c.args.site.now c.self.inside.listening.count c.args.said.now b in
    rw (← c.self.view_is) (λ unclosed. (
      a.0,
      a.1,
      a.2,
      a.3,
      a.4,
      subst (λ (b : Bool). Serves g.G.Responder.replies c.self.inside.listening.requests a.3 (begun b) a.4 a.0) (sym unclosed) a.5,
      a.6,
      halts g.G.Responder.replies a.3 a.4 c.in-Err.fault c.answer_piece.new.responder c.answer_piece.new.site c.answer_piece.new.self.count c.answer_piece.new.said c.add_halt.new.said a.7 c.add_halt.ensures,
    ))
