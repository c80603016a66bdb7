-- The texts of a chain, from its end.
use Rattle.std.proofs.Common.{◌≡◌, ℕ, zero, suc, ◌+◌, List, [], ◌∷◌, ◌++◌, length, refl, ap, ◌∙◌, arith}
use Rattle.satp_base.specs.Forms.{IsLink}
use Rattle.satp_base.specs.Signatures.{own}
use Rattle.satp_base.specs.Chains.{link_at, link_of, last_link, message_at, next_text, texts_from, texts_of, zero_link}
use Rattle.sha2.proofs.Facts256.{length-sha256}
use Rattle.satp_base.proofs.HashLemmas.{bytes_from, hash_bytes}
use Rattle.satp_base.specs.declared.name.Name.{Name}
use Rattle.satp_base.specs.declared.session.SessionId.{SessionId}
use Rattle.satp_base.specs.declared.message.Link.{Link}
use Rattle.satp_base.specs.declared.message.Part.{Part}

pub link_formed : (text : List ℕ) → IsLink (link_of text)
link_formed text = record { bytes = hash_bytes text; long = length-sha256 text }

pub zero_formed : IsLink zero_link
zero_formed = record { bytes = bytes_from (zero_link.0) refl; long = refl }

pub link_at_formed : (texts : List (List ℕ)) (place : ℕ) → IsLink (link_at texts place)
link_at_formed texts zero = zero_formed
link_at_formed [] (suc n) = zero_formed
link_at_formed (text ∷ texts) (suc zero) = link_formed text
link_at_formed (text ∷ texts) (suc (suc n)) = link_at_formed texts (suc n)

-- the link of the last text, and that before them where there is none
abbrev pub link_behind : Link → List (List ℕ) → Link
link_behind link [] = link
link_behind link (text ∷ texts) = link_behind (link_of text) texts

behind_text : (text : List ℕ) (texts : List (List ℕ)) → link_behind (link_of text) texts ≡ last_link (text ∷ texts)
behind_text text [] = refl
behind_text text (next ∷ texts) = behind_text next texts

pub behind_all : (texts : List (List ℕ)) → link_behind zero_link texts ≡ last_link texts
behind_all [] = refl
behind_all (text ∷ texts) = behind_text text texts

module _ (session : SessionId) (recipient : Name) (key : List ℕ) where
  pub length-texts : (place : ℕ) (link : Link) (parts : List Part) → length (texts_from session recipient key place link parts) ≡ length parts
  unfolding texts_from
  length-texts place link [] = refl
  length-texts place link (part ∷ parts) = ap suc (length-texts (place + 1) (link_of (own key (message_at session recipient place link part))) parts)

  texts_more : (place : ℕ) (link : Link) (parts : List Part) (part : Part)
      → texts_from session recipient key place link (parts ++ part ∷ [])
      ≡ texts_from session recipient key place link parts
      ++ own key (message_at session recipient (place + length parts) (link_behind link (texts_from session recipient key place link parts)) part) ∷ []
  unfolding texts_from
  texts_more place link [] part = ap (λ (n : ℕ). own key (message_at session recipient n link part) ∷ []) (omega arith)
  texts_more place link (first ∷ parts) part =
      let text = own key (message_at session recipient place link first) in
      let rest = texts_from session recipient key (place + 1) (link_of text) parts in
      let more = texts_more (place + 1) (link_of text) parts part in
      let here : place + 1 + length parts ≡ place + suc (length parts) = omega arith in
      ap (λ (texts : List (List ℕ)). text ∷ texts) (more ∙ ap (λ (n : ℕ). rest ++ own key (message_at session recipient n (link_behind (link_of text) rest) part) ∷ []) here)

  pub texts_appended : (parts : List Part) (part : Part)
      → texts_of session recipient key (parts ++ part ∷ []) ≡ texts_of session recipient key parts ++ next_text session recipient key (texts_of session recipient key parts) part ∷ []
  texts_appended parts part =
      let texts = texts_of session recipient key parts in
      let place : 1 + length parts ≡ length texts + 1 = omega (arith, length-texts 1 zero_link parts) in
      texts_more 1 zero_link parts part
      ∙ ap (λ (n : ℕ). texts ++ own key (message_at session recipient n (link_behind zero_link texts) part) ∷ []) place
      ∙ ap (λ (link : Link). texts ++ own key (message_at session recipient (length texts + 1) link part) ∷ []) (behind_all texts)
