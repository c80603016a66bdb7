use Rattle.std.proofs.Common.{◌≡◌, ◌∷◌, [], List, map, sym, subst}
use Rattle.std.specs.Prelude.{IfOk}
use Rattle.clap.specs.Words.{Rule}
use Rattle.satp_words.specs.Options.{HasMatches, Takes, app, rule}
use Rattle.satp_words.specs.Commands.{of_session}
use Rattle.satp_words.proofs.forms.session_options.Goals as goal

pub returns-clause-ok : goal.returns-clause-ok
returns-clause-ok c =
    let options : rule c.needed.result ∷ rule c.needed-2.result ∷ [] ≡ of_session = λ i. c.needed.ensures i ∷ c.needed-2.ensures i ∷ [] in
    subst (λ (rules : List Rule). IfOk c.matches.result (λ found. HasMatches (app c.args.name.now rules) (map (λ word. word.now) c.args.words.now) found)) options c.matches.ensures.ok

pub returns-clause-refused : goal.returns-clause-refused
returns-clause-refused c e taken =
    let options : rule c.needed.result ∷ rule c.needed-2.result ∷ [] ≡ of_session = λ i. c.needed.ensures i ∷ c.needed-2.ensures i ∷ [] in
    c.matches.ensures.refused e (subst (λ (rules : List Rule). Takes (app c.args.name.now rules) (map (λ word. word.now) c.args.words.now)) (sym options) taken)
