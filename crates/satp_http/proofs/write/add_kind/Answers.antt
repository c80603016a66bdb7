use Rattle.std.proofs.Common.{sym, ap, ◌∙◌, ◌++◌, List, ℕ}
use Rattle.std.proofs.lemmas.List.{append-nil}
use Rattle.std.proofs.lemmas.Bool.{cond-false, ne_eqb}
use Rattle.satp_http.specs.Written.{kind_lines, content_lines}
use Rattle.satp_http.proofs.TextLemmas.{on_ok_along}
use Rattle.satp_http.proofs.write.add_kind.Goals as goal

pub returns-then-code-eq204 : goal.returns-then-code-eq204
unfolding kind_lines
returns-then-code-eq204 c = sym (ap (λ (l : List ℕ). c.args.text.now ++ l) (ap (λ (n : ℕ). kind_lines n c.args.size) c.if-code-eq204.true) ∙ append-nil c.args.text.now)

pub returns-then-code-eq200 : goal.returns-then-code-eq200
unfolding kind_lines
returns-then-code-eq200 c = on_ok_along c.add_content.result c.add_content.new.text c.args.text.now _ _ c.add_content.ensures (ap (λ (n : ℕ). kind_lines n c.args.size) (sym c.if-code-eq200.true))

pub returns : goal.returns
unfolding kind_lines
returns c =
    on_ok_along c.add_content-2.result c.add_content-2.new.text c.args.text.now _ _ c.add_content-2.ensures
    (sym (cond-false _ _ _ (ne_eqb c.args.code 204 c.if-code-eq204.false) ∙ ap (λ (k : List ℕ). content_lines k c.args.size) (cond-false _ _ _ (ne_eqb c.args.code 200 c.if-code-eq200.false))))
