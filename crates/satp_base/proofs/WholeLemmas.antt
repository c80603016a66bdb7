-- A whole chain looks at its last two texts alone.
use Rattle.std.proofs.Common.{◌≡◌, ℕ, zero, suc, ◌+◌, ◌-◌, ◌<◌, ◌≤◌, ◌&&◌, Bool, true, false, not, List, [], ◌∷◌, length, if◌then◌else◌, unwrap_or, refl, ap, ap₂, sym, ◌∙◌, arith}
use Rattle.std.specs.Prelude.{nat_le, nat_lt, slice_get}
use Rattle.std.specs.Option.{option_map_or}
use Rattle.std.specs.Str.{bytes_eq}
use Rattle.std.proofs.lemmas.Bool.{leb-true, ltb-false}
use Rattle.satp_base.specs.Canonical.{part_kind}
use Rattle.satp_base.specs.Chains.{last_link, link_at, link_of, zero_link}
use Rattle.satp_base.specs.Tales.{comes_behind, is_whole, last_of}
use Rattle.satp_base.specs.Verdicts.{ChainState, LooksAtTheLastTwo, body_verdict, extends, maker_at, same_link, same_name, text_at}
use Rattle.satp_base.specs.declared.name.Name.{Name}
use Rattle.satp_base.specs.declared.message.Kind.{Kind}
use Rattle.satp_base.specs.declared.message.Link.{Link}
use Rattle.satp_base.specs.declared.message.Body.{Body}
use Rattle.satp_base.specs.declared.message.Body.TheVariants.{Chain, Recover, Update, Success}
use Rattle.satp_base.specs.declared.verdict.Verdict.{Verdict}
use Rattle.satp_base.specs.declared.verdict.Verdict.TheVariants.{Next, Again, Gap, Other, WrongPrevious, WrongSender, OffTale}

-- ---- links by texts

linked : (texts : List (List ℕ)) (n : ℕ) → n < length texts → option_map_or link_of (slice_get texts n) zero_link ≡ link_of (unwrap_or (slice_get texts n) [])
linked [] n h = absurd (omega arith)
linked (text ∷ texts) zero h = refl
linked (text ∷ texts) (suc n) h = linked texts n (omega arith)

-- the link of a text that stands in the chain
link_by : (texts : List (List ℕ)) (place : ℕ) → 1 ≤ place → place ≤ length texts → link_at texts place ≡ link_of (text_at texts place)
link_by texts zero low high = absurd (omega arith)
link_by texts (suc n) low high = linked texts n (omega arith)

-- ---- what a verdict rests on

module _ (sender maker : Name) (place : ℕ) (previous : Link) (kind : Kind) (text : List ℕ) where
  abbrev kept_says : Bool → List ℕ → Link → Verdict
  kept_says settled kept link = if settled then Again place else if bytes_eq text kept then Again place else Other place link

  abbrev next_says : List Kind → Link → Verdict
  next_says tale last = if not (same_link previous last) then WrongPrevious last else if comes_behind (last_of tale) kind then Next else OffTale place

  abbrev says : Bool → Bool → ℕ → List Kind → List ℕ → Link → Link → Verdict
  says inside settled long tale kept link last =
      if not (same_name sender maker) then WrongSender
      else if nat_lt (long + 1) place then Gap long
      else if inside then kept_says settled kept link
      else next_says tale last

  -- the text and its link count where the place stands in the chain and is not settled
  says_by : (inside settled : Bool) (long : ℕ) (tale : List Kind) (kept other : List ℕ) (link link' last : Link)
      → (inside ≡ true → settled ≡ false → (kept ≡ other) × (link ≡ link'))
      → says inside settled long tale kept link last ≡ says inside settled long tale other link' last
  says_by false settled long tale kept other link link' last h = refl
  says_by true true long tale kept other link link' last h = refl
  says_by true false long tale kept other link link' last h =
      ap₂ (λ (t : List ℕ) (l : Link). says true false long tale t l last) (h refl refl).0 (h refl refl).1

  abbrev at_length : ℕ → List Kind → List ℕ → Link → Link → Verdict
  at_length long tale kept link last = says (nat_le place long) (is_whole tale && nat_lt place (long - 1)) long tale kept link last

  -- where it is whole, its last two places count
  at_length_by : (long long' : ℕ) (tale : List Kind) (kept other : List ℕ) (link link' last last' : Link)
      → long ≡ long' → last ≡ last' → is_whole tale ≡ true
      → (place ≤ long' → long' ≤ place + 1 → (kept ≡ other) × (link ≡ link'))
      → at_length long tale kept link last ≡ at_length long' tale other link' last'
  at_length_by long long' tale kept other link link' last last' n l whole h =
      ap₂ (λ (m : ℕ) (x : Link). at_length m tale kept link x) n l
      ∙ says_by (nat_le place long') (is_whole tale && nat_lt place (long' - 1)) long' tale kept other link link' last'
      (λ inside unsettled. h (leb-true place long' inside) (let far : nat_lt place (long' - 1) ≡ false = ap (λ (b : Bool). b && nat_lt place (long' - 1)) (sym whole) ∙ unsettled in omega (arith, ltb-false place (long' - 1) far)))

module _ (chain : ChainState) (others : List (List ℕ)) (long : length others ≡ length chain.texts) (whole : is_whole chain.tale ≡ true)
    (at : (place : ℕ) → length chain.texts ≤ place + 1 → text_at others place ≡ text_at chain.texts place) where
  links : (place : ℕ) → place ≤ length chain.texts → length chain.texts ≤ place + 1 → link_at others place ≡ link_at chain.texts place
  links zero high last = refl
  links (suc p) high last = link_by others (suc p) (omega arith) (omega (arith, long)) ∙ ap link_of (at (suc p) last) ∙ sym (link_by chain.texts (suc p) (omega arith) high)

  lasts : last_link others ≡ last_link chain.texts
  lasts = ap (link_at others) long ∙ links (length chain.texts) (omega arith) (omega arith)

  by_body : (sender : Name) (text : List ℕ) (body : Body) → body_verdict (record chain { texts = others }) sender text body ≡ body_verdict chain sender text body
  unfolding extends
  by_body sender text (Chain place previous part) =
      at_length_by sender (maker_at chain place) place previous (part_kind part) text (length others) (length chain.texts) chain.tale
      (text_at others place) (text_at chain.texts place) (link_at others place) (link_at chain.texts place) (last_link others) (last_link chain.texts) long lasts whole
      (λ high last. (at place last, links place high last))
  by_body sender text (Recover length last) = refl
  by_body sender text (Update length entries) = refl
  by_body sender text (Success length last) = refl

pub looks_at_the_last_two : LooksAtTheLastTwo
looks_at_the_last_two chain others m text long whole at = by_body chain others long whole at m.sender text m.body
