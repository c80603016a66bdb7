use Rattle.std.proofs.Common.{◌≡◌, ◌∙◌, ◌+◌, ◌-◌, ◌<◌, ap, sym, subst, arith, length, length-drop, take, drop, ℕ, List, Err, Option, ◌==◌}
use Rattle.std.specs.Prelude.{position}
use Rattle.satp_base.specs.Lines.{Front}
use Rattle.satp_base.proofs.LineLemmas.{front_read, piece, read_on, stops_open, stops_refused}
use Rattle.satp_base.proofs.lines.read_lines.Goals as goal

found : (text : List ℕ) (at : ℕ) (o : Option ℕ) → o ≡ position (λ b. b == 10) (take (length text - at) (drop at text)) → position (λ b. b == 10) (drop at text) ≡ o
found text at o e = ap (position (λ b. b == 10)) (sym (piece at text)) ∙ sym e

back : (a b : ℕ) → a + b - a ≡ b
back a b = omega arith

pub returns-in_default-clause-read : goal.returns-in_default-clause-read
returns-in_default-clause-read g c = (omega (arith, c.if-text-most.false), (stops_open g.R.LineReader.accepts c.args.text.now c.args.reader.now c.loop-at.reader c.loop-at.at c.loop-at.number c.loop-at.invariant c.loop-at-test.true (found c.args.text.now c.loop-at.at _ c.in_default.ensures.end)).0)

pub returns-in_default-clause-left : goal.returns-in_default-clause-left
returns-in_default-clause-left g c = stops_open g.R.LineReader.accepts c.args.text.now c.args.reader.now c.loop-at.reader c.loop-at.at c.loop-at.number c.loop-at.invariant c.loop-at-test.true (found c.args.text.now c.loop-at.at _ c.in_default.ensures.end)

pub returns-in-Err-Refused-clause-read : goal.returns-in-Err-Refused-clause-read
returns-in-Err-Refused-clause-read g c =
    let at = c.loop-at.at in
    let rest = drop at c.args.text.now in (
      omega (arith, c.if-text-most.false),
      (stops_refused g.R.LineReader.accepts c.args.text.now c.args.reader.now c.loop-at.reader c.add.new.self at c.loop-at.number c.in-Some.end (take (at + c.in-Some.end - at) rest) c.loop-at.invariant c.loop-at-test.true (found c.args.text.now at _ c.in-Some.ensures.end)
          (ap (λ k. take k rest) (back at c.in-Some.end)) (c.in-Err-Refused.ensures.refused (ap Err c.in-Err-Refused.field-0-is)) c.in-Err-Refused.ensures.err).0,
    )

pub returns-in-Err-Refused-clause-left : goal.returns-in-Err-Refused-clause-left
returns-in-Err-Refused-clause-left g c =
    let at = c.loop-at.at in
    let rest = drop at c.args.text.now in
    stops_refused g.R.LineReader.accepts c.args.text.now c.args.reader.now c.loop-at.reader c.add.new.self at c.loop-at.number c.in-Some.end (take (at + c.in-Some.end - at) rest) c.loop-at.invariant c.loop-at-test.true (found c.args.text.now at _ c.in-Some.ensures.end)
    (ap (λ k. take k rest) (back at c.in-Some.end)) (c.in-Err-Refused.ensures.refused (ap Err c.in-Err-Refused.field-0-is)) c.in-Err-Refused.ensures.err

pub returns-in-Err-Memory-clause-left : goal.returns-in-Err-Memory-clause-left
returns-in-Err-Memory-clause-left g c =
    subst (Front g.R.LineReader.accepts c.args.text.now c.args.reader.now) (sym c.in-Err-Memory.ensures.err)
    (front_read g.R.LineReader.accepts c.args.text.now c.args.reader.now c.loop-at.reader c.loop-at.at c.loop-at.number c.loop-at.invariant)

pub loop-at-preserved : goal.loop-at-preserved
loop-at-preserved g c =
    let at = c.loop-at.at in
    let rest = drop at c.args.text.now in
    let short : c.in-Some.end < length c.args.text.now - at = omega (arith, c.in-Some.ensures.within, ap length (piece at c.args.text.now), length-drop {A = ℕ} at c.args.text.now) in
    read_on g.R.LineReader.accepts c.args.text.now c.args.reader.now c.loop-at.reader c.add.new.self at c.loop-at.number c.in-Some.end (take (at + c.in-Some.end - at) rest) c.loop-at.invariant (found c.args.text.now at _ c.in-Some.ensures.end) short
    (ap (λ k. take k rest) (back at c.in-Some.end)) c.in-Ok.ensures.ok
