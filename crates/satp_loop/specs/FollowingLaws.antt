-- A wire goes on over two calls as over each.
use Rattle.std.proofs.Common.{ℕ, List, [], ◌∷◌, ◌++◌, refl, subst}
use Rattle.std.specs.Prelude.{Result}
use Rattle.satp_serve.specs.declared.responder.Halt.{Halt}
use Rattle.satp_serve.specs.declared.responder.Replied.{Replied}
use Rattle.satp_loop.specs.Following.{Follows, Leads, Point, Step}
use Rattle.satp_loop.specs.declared.peer.Peer.{Peer}

module _ {S : Type 0} (replies : Peer → S → List ℕ → Result Replied Halt → Peer → S → Type 0) where
  leads_then : (xs ys : List Step) (p q r : Point S) → Leads replies xs p q → Leads replies ys q r → Leads replies (xs ++ ys) p r
  leads_then [] ys p q r first second = subst (λ (m : Point S). Leads replies ys m r) first second
  leads_then (x ∷ xs) ys p q r first second = (first.0, first.1, leads_then xs ys first.0 q r first.2 second)

  module _ (beside : S → S → Type 0) where
    pub follows_same : ((s : S) → beside s s) → (p : Point S) → Follows replies beside p p
    follows_same same p = record { steps = []; leads = refl; site = same p.site }

    pub follows_then : ((a b c : S) → beside a b → beside b c → beside a c) → (p q r : Point S) → Follows replies beside p q → Follows replies beside q r → Follows replies beside p r
    follows_then then p q r f g = record { steps = f.steps ++ g.steps; leads = leads_then f.steps g.steps p q r f.leads g.leads; site = then p.site q.site r.site f.site g.site }
