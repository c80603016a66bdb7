-- A line adds one thing at most to a genesis.
use Rattle.std.proofs.Common.{◌≡◌, ℕ, List, ◌∷◌, ◌++◌, refl, ap, ap₂, subst, sym, ◌∙◌}
use Rattle.std.specs.Prelude.{codes}
use Rattle.satp_base.specs.Founding.{Founding}
use Rattle.satp_base.specs.GenesisText.{AcceptsLine, Adds, hold_text, line_text, part_text}
use Rattle.satp_base.specs.Values.{amount_text, name_text}
use Rattle.satp_base.specs.declared.amount.Amount.{Amount}
use Rattle.satp_base.specs.declared.genesis.Hold.{Hold}
use Rattle.satp_base.specs.declared.genesis.Line.{Line}
use Rattle.satp_base.specs.declared.genesis.Line.TheVariants as line
use Rattle.satp_base.specs.declared.name.Name.{Name}
use Rattle.satp_base.proofs.Exact.{same_amount_text, same_text}
use Rattle.satp_base.proofs.GenesisReading.{name_lacks}
use Rattle.satp_base.proofs.LineLemmas.{one_cut}

one_part : (p q : Name × Amount) → part_text p ≡ part_text q → p ≡ q
one_part p q e =
    let cut = one_cut 32 (name_text p.0) (name_text q.0) (amount_text p.1) (amount_text q.1) (name_lacks p.0) (name_lacks q.0) e in
    ap₂ (λ (name : Name) (amount : Amount). (name, amount)) (same_text p.0 q.0 cut.0) (same_amount_text p.1 q.1 cut.1)

one_hold : (h k : Hold) → hold_text h ≡ hold_text k → h ≡ k
one_hold h k e =
    let cut = one_cut 32 (name_text h.asset) (name_text k.asset) (part_text (h.owner, h.amount)) (part_text (k.owner, k.amount)) (name_lacks h.asset) (name_lacks k.asset) e in
    let part = one_part (h.owner, h.amount) (k.owner, k.amount) cut.1 in
    let asset = same_text h.asset k.asset cut.0 in
    λ i. record { asset = asset i; owner = (part i).0; amount = (part i).1 }

no_hold : (rest behind : List ℕ) → codes "asset" ++ 32 ∷ rest ≡ codes "hold" ++ 32 ∷ behind → ⊥
no_hold rest behind e = let bad : codes "asset" ≡ codes "hold" = (one_cut 32 (codes "asset") (codes "hold") rest behind refl refl e).0 in cc

one_line : (p q : Line) → line_text p ≡ line_text q → p ≡ q
one_line (line.Asset name cap) (line.Asset other most) e =
    let part = one_part (name, cap) (other, most) (one_cut 32 (codes "asset") (codes "asset") (part_text (name, cap)) (part_text (other, most)) refl refl e).1 in
    ap (λ (x : Name × Amount). line.Asset x.0 x.1) part
one_line (line.Asset name cap) (line.Hold hold) e = absurd (no_hold (part_text (name, cap)) (hold_text hold) e)
one_line (line.Hold hold) (line.Asset name cap) e = absurd (no_hold (part_text (name, cap)) (hold_text hold) (sym e))
one_line (line.Hold h) (line.Hold k) e = ap line.Hold (one_hold h k (one_cut 32 (codes "hold") (codes "hold") (hold_text h) (hold_text k) refl refl e).1)

one_added : (old a b : Founding) (parsed : Line) → Adds old parsed a → Adds old parsed b → a ≡ b
one_added old a b (line.Asset name cap) p q = p.added ∙ sym q.added
one_added old a b (line.Hold hold) p q = p.added ∙ sym q.added

pub one_accepted : (old : Founding) (text : List ℕ) (a b : Founding) → AcceptsLine old text a → AcceptsLine old text b → a ≡ b
one_accepted old text a b p q = one_added old a b q.0 (subst (λ x. Adds old x a) (one_line p.0 q.0 (sym p.1 ∙ q.1)) p.2) q.2
