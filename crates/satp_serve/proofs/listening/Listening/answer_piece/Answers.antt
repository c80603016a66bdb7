use Rattle.std.proofs.Common.{◌++◌, take, drop, ap}
use Rattle.std.specs.Prelude.{Ok}
use Rattle.std.proofs.lemmas.List.{take_rest}
use Rattle.satp_serve.proofs.Exchanging.{fed_is, fed_then, fed_last, nothing_left}
use Rattle.satp_serve.proofs.Stepping.{awaits_room}
use Rattle.satp_serve.proofs.listening.Listening.answer_piece.Goals as goal

pub returns-in-Err-clause-answers : goal.returns-in-Err-clause-answers
returns-in-Err-clause-answers g c =
    let all = c.in-Err.ensures.answers in
    let rest = c.fed.rest.now in
    let n = c.feed-count.result in
    let is = fed_is c.fed.self.requests c.feed-count.new.self rest n c.feed-count.ensures.rest c.feed-count.ensures.adds in
    let f = fed_then g.G.Responder.replies _ _ _ _ _ _ _ c.fed.invariant.front rest c.args.piece.now n c.fed.invariant.cut c.fed.invariant.serves is all.2 in
    (c.fed.invariant.front ++ take n rest, drop n rest, f.1, all.0, all.1, f.0, all.3, all.4)

pub returns-in-Ok-Close-clause-answers : goal.returns-in-Ok-Close-clause-answers
returns-in-Ok-Close-clause-answers g c =
    let all = rw c.in-Ok-Close.field-0-is at c.in-Ok-Close.ensures.answers in
    let rest = c.fed.rest.now in
    let n = c.feed-count.result in
    let is = fed_is c.fed.self.requests c.feed-count.new.self rest n c.feed-count.ensures.rest c.feed-count.ensures.adds in
    let f = fed_then g.G.Responder.replies _ _ _ _ _ _ _ c.fed.invariant.front rest c.args.piece.now n c.fed.invariant.cut c.fed.invariant.serves is all in
    (c.fed.invariant.front ++ take n rest, drop n rest, f.1, f.0)

pub returns-then-is_empty-clause-answers : goal.returns-then-is_empty-clause-answers
returns-then-is_empty-clause-answers g c =
    let all = rw c.in-Ok-More.field-0-is at c.in-Ok-More.ensures.answers in
    let rest = c.fed.rest.now in
    let n = c.feed-count.result in
    let is = fed_is c.fed.self.requests c.feed-count.new.self rest n c.feed-count.ensures.rest c.feed-count.ensures.adds in
    let empty = nothing_left (drop n rest) (rw take_rest at c.if-is_empty.ensures) in
    (fed_last g.G.Responder.replies _ _ _ _ _ _ _ c.fed.invariant.front rest c.args.piece.now n c.fed.invariant.cut c.fed.invariant.serves is all.0 empty, all.1)

pub returns-then-is_empty-clause-room : goal.returns-then-is_empty-clause-room
returns-then-is_empty-clause-room g c more =
    let all = rw c.in-Ok-More.field-0-is at c.in-Ok-More.ensures.answers in
    awaits_room _ all.1

pub fed-preserved : goal.fed-preserved
fed-preserved g c =
    let all = rw c.in-Ok-More.field-0-is at c.in-Ok-More.ensures.answers in
    let rest = c.fed.rest.now in
    let n = c.feed-count.result in
    let is = fed_is c.fed.self.requests c.feed-count.new.self rest n c.feed-count.ensures.rest c.feed-count.ensures.adds in
    let f = fed_then g.G.Responder.replies _ _ _ _ _ _ _ c.fed.invariant.front rest c.args.piece.now n c.fed.invariant.cut c.fed.invariant.serves is all.0 in
    record {
      front = c.fed.invariant.front ++ take n rest;
      cut = rw take_rest f.1;
      serves = f.0;
      most = c.in-Ok-More.ensures.most (ap Ok c.in-Ok-More.field-0-is);
      fits = c.in-Ok-More.ensures.fits (ap Ok c.in-Ok-More.field-0-is);
      room = awaits_room _ all.1;
    }
