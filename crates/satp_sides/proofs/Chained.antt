-- The chain of one side of a session: texts of parts.
use Rattle.std.proofs.Common.{◌≡◌, ℕ, zero, suc, ◌+◌, ◌≤◌, List, [], ◌∷◌, ◌++◌, length, Option, Some, None, sym, ap, subst, ◌∙◌, arith}
use Rattle.std.specs.Prelude.{slice_get}
use Rattle.std.specs.List.{AllByRecursion}
use Rattle.satp_base.specs.declared.name.Name.{Name}
use Rattle.satp_base.specs.declared.session.SessionId.{SessionId}
use Rattle.satp_base.specs.declared.message.Link.{Link}
use Rattle.satp_base.specs.declared.message.Part.{Part}
use Rattle.satp_base.specs.declared.message.Body.{Body}
use Rattle.satp_base.specs.declared.message.Body.TheVariants.{Chain}
use Rattle.satp_base.specs.declared.message.Message.{Message}
use Rattle.satp_base.specs.Forms.{IsLink, IsMessage, IsPart}
use Rattle.satp_base.specs.Signatures.{own}
use Rattle.satp_base.specs.Chains.{last_link, link_of, message_at, next_text, texts_from, texts_of, zero_link}
use Rattle.satp_base.proofs.ChainLemmas.{length-texts, link_at_formed, link_formed, texts_appended, zero_formed}
use Rattle.satp_base.proofs.SignatureLemmas.{own_shows}
use Rattle.satp_sides.proofs.Records.{get-new}

pub formed-more : (parts : List Part) (p : Part) → AllByRecursion IsPart parts → IsPart p → AllByRecursion IsPart (parts ++ p ∷ [])
formed-more [] p h g = (g, tt)
formed-more (q ∷ parts) p h g = (h.0, formed-more parts p h.1 g)

pub formed-last : (parts : List Part) (p : Part) → AllByRecursion IsPart (parts ++ p ∷ []) → IsPart p
formed-last [] p h = h.0
formed-last (q ∷ parts) p h = formed-last parts p h.1

part_in : Body → Option Part
part_in (Chain place previous part) = Some part
part_in _ = None

some_is : (p q : Part) → Some p ≡ Some q → p ≡ q
some_is p q e = cc e

module _ (s : SessionId) (recipient : Name) (key : List ℕ) where
  abbrev texts : List Part → List (List ℕ)
  texts parts = texts_of s recipient key parts

  pub long : (parts : List Part) → length (texts_of s recipient key parts) ≡ length parts
  long parts = length-texts s recipient key 1 zero_link parts

  abbrev next_message : List Part → Part → Message
  next_message parts p = message_at s recipient (length (texts_of s recipient key parts) + 1) (last_link (texts_of s recipient key parts)) p

  pub next-formed : (parts : List Part) (p : Part) → (length parts + 1 ≤ 11) → IsPart p → IsMessage (next_message parts p)
  next-formed parts p h f = ((record { low = omega arith; high = omega (arith, long parts) }, f), link_at_formed (texts_of s recipient key parts) (length (texts_of s recipient key parts)))

  -- a next text that both sides have is of one part
  pub one-part : (parts : List Part) (p q : Part) → IsMessage (next_message parts p) → IsMessage (next_message parts q) → next_text s recipient key (texts_of s recipient key parts) p ≡ next_text s recipient key (texts_of s recipient key parts) q → p ≡ q
  unfolding part_in
  one-part parts p q f g e = let m = own_shows key key (next_message parts p) (next_message parts q) f g e in some_is p q (ap (λ (x : Message). part_in x.body) m)

  -- the last text of one part more
  pub get-next : (parts : List Part) (p : Part) → slice_get (texts_of s recipient key (parts ++ p ∷ [])) (length parts) ≡ Some (next_text s recipient key (texts_of s recipient key parts) p)
  get-next parts p =
      ap (λ ts. slice_get ts (length parts)) (texts_appended s recipient key parts p)
      ∙ ap (slice_get (texts_of s recipient key parts ++ next_text s recipient key (texts_of s recipient key parts) p ∷ [])) (sym (long parts))
      ∙ get-new (texts_of s recipient key parts) (next_text s recipient key (texts_of s recipient key parts) p)

  -- ---- the messages of a chain's texts

  -- a text of a chain is that of the message of its place
  pub record HasMessage (place : ℕ) (t : List ℕ) : Type 0 where
    pub previous : Link
    pub part : Part
    pub formed : IsMessage (message_at s recipient place previous part)
    pub text : t ≡ own key (message_at s recipient place previous part)

  message-from : (place : ℕ) (link : Link) (parts : List Part) (i : ℕ) (t : List ℕ) → 1 ≤ place → place + length parts ≤ 12 → IsLink link → AllByRecursion IsPart parts → slice_get (texts_from s recipient key place link parts) i ≡ Some t → HasMessage (place + i) t
  unfolding texts_from
  message-from place link [] i t one bound l f h = absurd (cc h)
  message-from place link (p ∷ parts) zero t one bound l f h =
      let here : place + 0 ≡ place = omega arith in
      subst (λ n. HasMessage n t) (sym here) (record { previous = link; part = p; formed = ((record { low = one; high = omega arith }, f.0), l); text = cc h })
  message-from place link (p ∷ parts) (suc i) t one bound l f h =
      let next = own key (message_at s recipient place link p) in
      let here : place + 1 + i ≡ place + suc i = omega arith in
      subst (λ n. HasMessage n t) here (message-from (place + 1) (link_of next) parts i t (omega arith) (omega arith) (link_formed next) f.1 h)

  pub message-of : (parts : List Part) (i : ℕ) (t : List ℕ) → length parts ≤ 11 → AllByRecursion IsPart parts → slice_get (texts_of s recipient key parts) i ≡ Some t → HasMessage (i + 1) t
  message-of parts i t h f e =
      let here : 1 + i ≡ i + 1 = omega arith in
      subst (λ n. HasMessage n t) here (message-from 1 zero_link parts i t (omega arith) (omega arith) zero_formed f e)
