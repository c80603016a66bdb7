use Rattle.std.proofs.Common.{◌≡◌, ◌∷◌, [], List, codes, map, sym, subst}
use Rattle.std.specs.Prelude.{IfOk}
use Rattle.clap.specs.Words.{Rule}
use Rattle.satp_words.specs.Commands.{options}
use Rattle.satp_words.specs.Options.{HasMatches, Takes, app, rule}
use Rattle.satp_words.specs.declared.verbs.Verb.TheVariants as verb
use Rattle.satp_words.proofs.forms.init_options.Goals as goal

pub returns-clause-ok : goal.returns-clause-ok
returns-clause-ok c =
    let same : rule c.needed.result ∷ rule c.needed-2.result ∷ rule c.needed-3.result ∷ rule c.needed-4.result ∷ rule c.needed-5.result ∷ rule c.needed-6.result ∷ [] ≡ options verb.Init = λ i. c.needed.ensures i ∷ c.needed-2.ensures i ∷ c.needed-3.ensures i ∷ c.needed-4.ensures i ∷ c.needed-5.ensures i ∷ c.needed-6.ensures i ∷ [] in
    subst (λ (rules : List Rule). IfOk c.matches.result (λ found. HasMatches (app (codes "init") rules) (map (λ word. word.now) c.args.words.now) found)) same c.matches.ensures.ok

pub returns-clause-refused : goal.returns-clause-refused
returns-clause-refused c e taken =
    let same : rule c.needed.result ∷ rule c.needed-2.result ∷ rule c.needed-3.result ∷ rule c.needed-4.result ∷ rule c.needed-5.result ∷ rule c.needed-6.result ∷ [] ≡ options verb.Init = λ i. c.needed.ensures i ∷ c.needed-2.ensures i ∷ c.needed-3.ensures i ∷ c.needed-4.ensures i ∷ c.needed-5.ensures i ∷ c.needed-6.ensures i ∷ [] in
    c.matches.ensures.refused e (subst (λ (rules : List Rule). Takes (app (codes "init") rules) (map (λ word. word.now) c.args.words.now)) (sym same) taken)
