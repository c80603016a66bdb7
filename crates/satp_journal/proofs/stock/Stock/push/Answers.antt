use Rattle.std.proofs.Common.{◌≡◌, ◌+◌, ℕ, List, [], ◌∷◌, ◌++◌, length, sym, ◌∙◌, ap, subst, length-append}
use Rattle.satp_journal.specs.Pieces.{Rises, pieces}
use Rattle.satp_journal.proofs.PieceLemmas.{pieces-push, rises-push}
use Rattle.satp_journal.proofs.stock.Stock.push.Goals as goal

ends_are : (c : goal.After-add) → c.add.new.ends.items ≡ c.self.inside.ends.items ++ (length c.self.inside.bytes.items + length c.args.payload.now) ∷ []
ends_are c = c.add.ensures.items ∙ ap (λ (n : ℕ). c.self.inside.ends.items ++ (n + length c.args.payload.now) ∷ []) (c.len.ensures ∙ c.self.inside.bytes.ok.0)

pub invariant_of-self : goal.invariant_of-self
invariant_of-self c =
    let old = c.self.inside.bytes.items in
    let q : List ℕ = c.args.payload.now in
    let size : length c.extend.new.bytes.items ≡ length old + length q = ap length c.extend.ensures.items ∙ length-append old q in
    subst (Rises 0 c.add.new.ends.items) (sym size) (subst (λ (l : List ℕ). Rises 0 l (length old + length q)) (sym (ends_are c)) (rises-push 0 c.self.inside.ends.items (length old) (length q) c.self.invariant))

pub returns-clause-pushed : goal.returns-clause-pushed
returns-clause-pushed c =
    rw (← c.self.view_is) (
    ap (λ (l : List ℕ). pieces 0 l c.extend.new.bytes.items) (ends_are c)
    ∙ ap (pieces 0 (c.self.inside.ends.items ++ (length c.self.inside.bytes.items + length c.args.payload.now) ∷ [])) c.extend.ensures.items
    ∙ pieces-push 0 c.self.inside.ends.items c.self.inside.bytes.items c.args.payload.now c.self.invariant)
