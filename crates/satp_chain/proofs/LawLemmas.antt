-- Prefixes of chains, and parts from texts.
use Rattle.std.proofs.Common.{◌≡◌, ℕ, zero, suc, ◌+◌, ◌<◌, ◌≤◌, true, List, [], ◌∷◌, map, length, take, refl, ap, ap₂, subst, sym, ◌∙◌, arith, inl, inr}
use Rattle.std.specs.List.{AllByRecursion, take-map}
use Rattle.std.proofs.lemmas.Bool.{cases_lt}
use Rattle.std.proofs.lemmas.List.{length-map, take_all}
use Rattle.satp_base.specs.Canonical.{part_kind}
use Rattle.satp_base.specs.Chains.{ChainOf, link_of, message_at, texts_from, zero_link}
use Rattle.satp_base.specs.Forms.{IsLink, IsPart, IsPlace}
use Rattle.satp_base.specs.Signatures.{own}
use Rattle.satp_base.specs.Tales.{IsTale}
use Rattle.satp_base.specs.Verdicts.{part_of}
use Rattle.satp_base.proofs.ChainLemmas.{link_formed, zero_formed}
use Rattle.satp_base.proofs.Finite.{In, all_of, all_of-at, any_of-in}
use Rattle.satp_base.proofs.Finite.In.{here, there}
use Rattle.satp_base.proofs.SignatureLemmas.{own_shows}
use Rattle.satp_base.proofs.TaleTable.{is_tale, tale-in, tale-is, tale-short, tale_eq, tale_eq-is, tales}
use Rattle.satp_base.specs.declared.name.Name.{Name}
use Rattle.satp_base.specs.declared.session.SessionId.{SessionId}
use Rattle.satp_base.specs.declared.message.Kind.{Kind}
use Rattle.satp_base.specs.declared.message.Link.{Link}
use Rattle.satp_base.specs.declared.message.Part.{Part}
use Rattle.satp_base.specs.declared.message.Message.{Message}

-- ---- every prefix of a tale is a tale

abbrev lengths : List ℕ
lengths = 0 ∷ 1 ∷ 2 ∷ 3 ∷ 4 ∷ 5 ∷ 6 ∷ 7 ∷ 8 ∷ 9 ∷ 10 ∷ []

fronts : all_of (λ tale. all_of (λ n. is_tale (take n tale)) lengths) tales ≡ true
fronts = refl

in_lengths : (n : ℕ) → n < 11 → In n lengths
in_lengths zero h = here
in_lengths (suc zero) h = there here
in_lengths (suc (suc zero)) h = there (there here)
in_lengths (suc (suc (suc zero))) h = there (there (there here))
in_lengths (suc (suc (suc (suc zero)))) h = there (there (there (there here)))
in_lengths (suc (suc (suc (suc (suc zero))))) h = there (there (there (there (there here))))
in_lengths (suc (suc (suc (suc (suc (suc zero)))))) h = there (there (there (there (there (there here)))))
in_lengths (suc (suc (suc (suc (suc (suc (suc zero))))))) h = there (there (there (there (there (there (there here))))))
in_lengths (suc (suc (suc (suc (suc (suc (suc (suc zero)))))))) h = there (there (there (there (there (there (there (there here)))))))
in_lengths (suc (suc (suc (suc (suc (suc (suc (suc (suc zero))))))))) h = there (there (there (there (there (there (there (there (there here))))))))
in_lengths (suc (suc (suc (suc (suc (suc (suc (suc (suc (suc zero)))))))))) h = there (there (there (there (there (there (there (there (there (there here)))))))))
in_lengths (suc (suc (suc (suc (suc (suc (suc (suc (suc (suc (suc n))))))))))) h = absurd (omega arith)

tale_by : (tale : List Kind) → is_tale tale ≡ true → IsTale tale
tale_by tale e = let (u, i, same) = any_of-in (tale_eq tale) tales e in subst IsTale (sym (tale_eq-is tale u same)) (tale-is u i)

tale_front : (n : ℕ) (tale : List Kind) → IsTale tale → IsTale (take n tale)
tale_front n tale h = elim (cases_lt n 11) [
  | inl lt ↦ tale_by (take n tale) (all_of-at (λ m. is_tale (take m tale)) (in_lengths n lt) (all_of-at (λ t. all_of (λ m. is_tale (take m t)) lengths) (tale-in tale h) fronts))
  | inr past ↦ subst IsTale (sym (take_all n tale (omega (arith, tale-short tale h)))) h
]

formed_front : (n : ℕ) (parts : List Part) → AllByRecursion IsPart parts → AllByRecursion IsPart (take n parts)
formed_front zero parts h = tt
formed_front (suc n) [] h = tt
formed_front (suc n) (part ∷ parts) h = (h.0, formed_front n parts h.1)

module _ (session : SessionId) (recipient : Name) where
  texts_front : (key : List ℕ) (place : ℕ) (link : Link) (n : ℕ) (parts : List Part)
      → take n (texts_from session recipient key place link parts) ≡ texts_from session recipient key place link (take n parts)
  unfolding texts_from
  texts_front key place link zero parts = refl
  texts_front key place link (suc n) [] = refl
  texts_front key place link (suc n) (part ∷ parts) =
      let text = own key (message_at session recipient place link part) in
      ap (λ (texts : List (List ℕ)). text ∷ texts) (texts_front key (place + 1) (link_of text) n parts)

  pub chain_front : (key : List ℕ) (parts : List Part) (texts : List (List ℕ)) (n : ℕ) → ChainOf session recipient key parts texts → ChainOf session recipient key (take n parts) (take n texts)
  chain_front key parts texts n held = record {
    tale = subst IsTale (take-map part_kind n parts) (tale_front n (map part_kind parts) held.tale);
    formed = formed_front n parts held.formed;
    each = ap (take n) held.each ∙ texts_front key 1 zero_link n parts;
  }

  -- ---- the texts determine the parts

  same_parts : (key other : List ℕ) (place : ℕ) (link : Link) (ps qs : List Part) → IsLink link → 1 ≤ place → place + length ps ≤ 12 → place + length qs ≤ 12
      → AllByRecursion IsPart ps → AllByRecursion IsPart qs → texts_from session recipient key place link ps ≡ texts_from session recipient other place link qs → ps ≡ qs
  unfolding texts_from
  same_parts key other place link [] [] formed low long long' hp hq e = refl
  same_parts key other place link [] (q ∷ qs) formed low long long' hp hq e = absurd cc
  same_parts key other place link (p ∷ ps) [] formed low long long' hp hq e = absurd cc
  same_parts key other place link (p ∷ ps) (q ∷ qs) formed low long long' hp hq e =
      let a = own key (message_at session recipient place link p) in
      let b = own other (message_at session recipient place link q) in
      let tail = texts_from session recipient key (place + 1) (link_of a) ps in
      let tails = texts_from session recipient other (place + 1) (link_of b) qs in
      let whole : a ∷ tail ≡ b ∷ tails = e in
      let first : a ≡ b = cc whole in
      let rest : tail ≡ tails = cc whole in
      let at : IsPlace place = record { low = low; high = omega arith } in
      let message = own_shows key other (message_at session recipient place link p) (message_at session recipient place link q) ((at, hp.0), formed) ((at, hq.0), formed) first in
      let part : p ≡ q = ap (λ (m : Message). part_of m.body) message in
      let after = subst (λ (t : List ℕ). tail ≡ texts_from session recipient other (place + 1) (link_of t) qs) (sym first) rest in
      ap₂ (λ (x : Part) (xs : List Part). x ∷ xs) part
      (same_parts key other (place + 1) (link_of a) ps qs (link_formed a) (omega arith) (omega arith) (omega arith) hp.1 hq.1 after)

  pub one_list : (key other : List ℕ) (parts parts' : List Part) (texts : List (List ℕ)) → ChainOf session recipient key parts texts → ChainOf session recipient other parts' texts → parts ≡ parts'
  one_list key other parts parts' texts held held' =
      let long : length parts ≤ 11 = omega (arith, tale-short _ held.tale, length-map parts part_kind) in
      let long' : length parts' ≤ 11 = omega (arith, tale-short _ held'.tale, length-map parts' part_kind) in
      same_parts key other 1 zero_link parts parts' zero_formed (omega arith) (omega arith) (omega arith) held.formed held'.formed (sym held.each ∙ held'.each)
