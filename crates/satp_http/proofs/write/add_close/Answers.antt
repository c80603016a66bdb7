use Rattle.std.proofs.Common.{sym, ap, ◌∙◌, ◌++◌, List, ℕ}
use Rattle.std.proofs.lemmas.List.{append-nil}
use Rattle.std.proofs.lemmas.Bool.{cond-true, cond-false}
use Rattle.satp_http.specs.Written.{close_lines}
use Rattle.satp_http.proofs.TextLemmas.{on_ok_along}
use Rattle.satp_http.proofs.write.add_close.Goals as goal

pub returns-then-close : goal.returns-then-close
unfolding close_lines
returns-then-close c = on_ok_along c.add_line.result c.add_line.new.text c.args.text.now _ _ c.add_line.ensures (sym (cond-true c.args.close _ _ c.if-close.true))

pub returns : goal.returns
unfolding close_lines
returns c = sym (ap (λ (l : List ℕ). c.args.text.now ++ l) (cond-false c.args.close _ _ c.if-close.false) ∙ append-nil c.args.text.now)
