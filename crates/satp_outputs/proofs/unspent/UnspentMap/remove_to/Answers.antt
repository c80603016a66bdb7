use Rattle.std.proofs.Common.{◌<◌, ◌||◌, not, nat_lt, All, List, ap, subst, sym, rules}
use Rattle.std.proofs.lemmas.List.Elements.{All-filter}
use Rattle.std.proofs.lemmas.Map.Made.{filter_same_pairs}
use Rattle.satp_outputs.specs.Unspent.{Numbered, is_own}
use Rattle.satp_outputs.proofs.unspent.UnspentMap.remove_to.Goals as goal

pub invariant_of-self : goal.invariant_of-self
invariant_of-self c = record {
  below = subst (λ (es : List Numbered). All (λ (e : Numbered). e.0 < c.args.self.now.next) es)
      (sym (filter_same_pairs _ (λ (e : Numbered). nat_lt c.args.last e.0 || not (is_own c.args.asset c.args.owner e.1)) _ (λ k v b w f' t. search rules) _ _ c.retain.ensures.filtered))
      (All-filter (λ (e : Numbered). nat_lt c.args.last e.0 || not (is_own c.args.asset c.args.owner e.1)) (λ (e : Numbered). e.0 < c.args.self.now.next) c.args.self.now.outputs.entries c.args.self.now.below);
}

pub returns : goal.returns
returns c = ap (λ (es : List Numbered). record { outputs = es; next = c.args.self.now.next })
    (filter_same_pairs _ (λ (e : Numbered). nat_lt c.args.last e.0 || not (is_own c.args.asset c.args.owner e.1)) _ (λ k v b w f' t. search rules) _ _ c.retain.ensures.filtered)
