use Rattle.std.proofs.Common.{sym, ap, ◌∙◌, ◌++◌, List, ℕ}
use Rattle.std.proofs.lemmas.List.{append-nil}
use Rattle.std.proofs.lemmas.Bool.{cond-true, cond-false, eq-eqb, ne_eqb}
use Rattle.satp_http.specs.Written.{allow_lines}
use Rattle.satp_http.proofs.TextLemmas.{on_ok_along}
use Rattle.satp_http.proofs.write.add_allow.Goals as goal

pub returns-then-code-eq405 : goal.returns-then-code-eq405
unfolding allow_lines
returns-then-code-eq405 c = on_ok_along c.add_line.result c.add_line.new.text c.args.text.now _ _ c.add_line.ensures (sym (cond-true _ _ _ (eq-eqb c.args.code 405 c.if-code-eq405.true)))

pub returns : goal.returns
unfolding allow_lines
returns c = sym (ap (λ (l : List ℕ). c.args.text.now ++ l) (cond-false _ _ _ (ne_eqb c.args.code 405 c.if-code-eq405.false)) ∙ append-nil c.args.text.now)
