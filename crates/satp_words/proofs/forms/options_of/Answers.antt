use Rattle.std.proofs.Common.{◌≡◌, ◌∷◌, [], List, codes, map, sym, subst}
use Rattle.clap.specs.Words.{Rule}
use Rattle.satp_words.specs.Options.{Takes, app, rule}
use Rattle.satp_words.specs.Commands.{form, needed}
use Rattle.satp_words.proofs.forms.options_of.Goals as goal

pub returns-in-Serve-clause-refused : goal.returns-in-Serve-clause-refused
returns-in-Serve-clause-refused c e taken =
    let options : rule c.needed.result ∷ rule c.needed-in-Serve.result ∷ rule c.needed-in-Serve-2.result ∷ [] ≡ needed (codes "dir") ∷ needed (codes "listen") ∷ needed (codes "connections") ∷ [] = λ i. c.needed.ensures i ∷ c.needed-in-Serve.ensures i ∷ c.needed-in-Serve-2.ensures i ∷ [] in
    let serves = subst (λ v. Takes (form v) (map (λ word. word.now) c.args.words.now)) c.in-Serve.is taken in
    c.matches.ensures.refused e (subst (λ (rules : List Rule). Takes (app (codes "serve") rules) (map (λ word. word.now) c.args.words.now)) (sym options) serves)
