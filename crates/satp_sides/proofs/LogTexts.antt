-- The texts of a log's records.
use Rattle.std.proofs.Common.{◌≡◌, ℕ, ◌+◌, ◌≤◌, true, List, [], ◌∷◌, ◌++◌, map, length, Some, refl, sym, ap, subst, ◌∙◌, arith}
use Rattle.std.specs.List.{AllByRecursion, list_all}
use Rattle.std.proofs.lemmas.Bool.{and_from}
use Rattle.std.proofs.lemmas.List.{length-map, length_push}
use Rattle.satp_base.specs.Canonical.{part_kind}
use Rattle.satp_base.specs.Chains.{last_link, link_of, message_at, next_text, texts_from, zero_link}
use Rattle.satp_base.specs.Forms.{IsLink, IsPart, is_entry}
use Rattle.satp_base.specs.Roles.{RoleRule}
use Rattle.satp_base.specs.Signatures.{own}
use Rattle.satp_base.specs.Tales.{IsTale, other}
use Rattle.satp_base.specs.declared.message.Kind.{Kind}
use Rattle.satp_base.specs.declared.message.Link.{Link}
use Rattle.satp_base.specs.declared.message.Kind.TheVariants.{TransferProposal}
use Rattle.satp_base.specs.declared.message.Part.{Part}
use Rattle.satp_base.specs.declared.message.Part.TheVariants.{Proposal}
use Rattle.satp_base.specs.declared.name.Name.{Name}
use Rattle.satp_base.specs.declared.record.Rec.{Rec}
use Rattle.satp_base.specs.declared.record.Rec.TheVariants.{Began, Took, Made, Did, Chose, Rescue}
use Rattle.satp_base.specs.declared.session.SessionId.{SessionId}
use Rattle.satp_base.specs.declared.view.View.{View}
use Rattle.satp_base.proofs.ChainLemmas.{link_at_formed, link_formed, zero_formed}
use Rattle.satp_base.proofs.TaleTable.{tale-short}
use Rattle.satp_base.proofs.TextSizes.{chain-entry}
use Rattle.satp_sides.specs.LogLaws.{HasText, IsChainOf, IsSessionOf, LogTexts}
use Rattle.satp_sides.specs.Logs.{IsLog, IsNote}
use Rattle.satp_sides.specs.Logs.MayCome.{Starts, Accepts, Takes, Makes, Notes}
use Rattle.satp_sides.specs.Points.{Party, Stored, Text, chain_in, recipient_at, view_in}
use Rattle.satp_sides.proofs.LogLaw.{log-sessions, reached-keeps, reached-tale}
use Rattle.satp_sides.proofs.Chained.{long}
use Rattle.satp_sides.proofs.Rules.{made-rule, no-proposal, took-rule}

-- the text of a message for a place that a tale has is an entry
entry-at : (key : List ℕ) (s : SessionId) (recipient : Name) (texts : List Text) (part : Part) → length texts + 1 ≤ 11 → IsPart part → is_entry (next_text s recipient key texts part) ≡ true
entry-at key s recipient texts part short f =
    chain-entry key (message_at s recipient (length texts + 1) (last_link texts) part) ((record { low = omega arith; high = short }, f), link_at_formed texts (length texts)) tt

-- a chain is as long as its tale
pub chain-length : (s : SessionId) (recipient : Name) (key : List ℕ) (v : View) (texts : List Text) → IsChainOf s recipient key v texts → length texts ≡ length v.tale
chain-length s recipient key v texts k =
    ap length k.chain.each ∙ long s recipient key (Proposal v.terms ∷ k.rest) ∙ sym (length-map (Proposal v.terms ∷ k.rest) part_kind) ∙ ap length k.kinds

entries-from : (key : List ℕ) (s : SessionId) (recipient : Name) (place : ℕ) (link : Link) (parts : List Part) → 1 ≤ place → place + length parts ≤ 12 → IsLink link → AllByRecursion IsPart parts
    → list_all is_entry (texts_from s recipient key place link parts) ≡ true
unfolding texts_from
entries-from key s recipient place link [] one bound l f = refl
entries-from key s recipient place link (p ∷ parts) one bound l f =
    let m = message_at s recipient place link p in
    and_from _ _ (chain-entry key m ((record { low = one; high = omega arith }, f.0), l) tt)
    (entries-from key s recipient (place + 1) (link_of (own key m)) parts (omega arith) (omega arith) (link_formed (own key m)) f.1)

-- an update may carry each text of a chain
pub chain-entries : (s : SessionId) (recipient : Name) (key : List ℕ) (v : View) (texts : List Text) → IsChainOf s recipient key v texts → list_all is_entry texts ≡ true
chain-entries s recipient key v texts k =
    let parts = Proposal v.terms ∷ k.rest in
    let short = tale-short _ k.chain.tale in
    let long = length-map parts part_kind in
    ap (list_all is_entry) k.chain.each ∙ entries-from key s recipient 1 zero_link parts (omega arith) (omega (arith, short, long)) zero_formed k.chain.formed

module _ (p : Party) (xs : List Stored) (log : IsLog p xs) (s : SessionId) (v : View) (named : view_in s xs ≡ Some v) where
  session : IsSessionOf p s xs v
  session = log-sessions p xs log s v named

  -- a message that goes on with the tale
  message-entry : (part : Part) → IsTale (v.tale ++ part_kind part ∷ []) → IsPart part → is_entry (next_text s (recipient_at p v.role) p.key (chain_in s xs) part) ≡ true
  message-entry part tale f =
      let long = chain-length s (recipient_at p v.role) p.key v (chain_in s xs) session.chain in
      let short = tale-short (v.tale ++ part_kind part ∷ []) tale in
      let push = length_push v.tale (part_kind part) in
      entry-at p.key s (recipient_at p v.role) (chain_in s xs) part (omega (arith, long, short, push)) f

  not-first : (kind : Kind) → IsTale (v.tale ++ kind ∷ []) → kind ≡ TransferProposal → ⊥
  not-first kind tale e =
      let kinds = session.chain.kinds in
      no-proposal TransferProposal (map part_kind session.chain.rest) kind (subst IsTale (sym kinds) (reached-tale v.role v session.reached)) (subst (λ t. IsTale (t ++ kind ∷ [])) (sym kinds) tale) e

  taken : (part : Part) → RoleRule v.role v (Took (part_kind part)) → IsPart part → HasText (Took (part_kind part)) (next_text s (recipient_at p v.role) p.key (chain_in s xs) part)
  taken part rule f =
      let (by, tale) = took-rule v.role v (part_kind part) rule in
      (not-first (part_kind part) tale, (other v.role, by), message-entry part tale f)

  made : (part : Part) → RoleRule v.role v (Made (part_kind part)) → IsPart part → HasText (Made (part_kind part)) (next_text s (recipient_at p v.role) p.key (chain_in s xs) part)
  made part rule f =
      let tale = reached-keeps v.role v (Made (part_kind part)) session.reached rule in
      (not-first (part_kind part) tale, (v.role, made-rule v.role v (part_kind part) rule), message-entry part tale f)

no-text : (r : Rec) → IsNote r → HasText r []
no-text (Began role terms) n = absurd n
no-text (Took k) n = absurd n
no-text (Made k) n = absurd n
no-text (Did op) n = refl
no-text (Chose way) n = refl
no-text Rescue n = refl

pub log-texts : LogTexts
log-texts p xs _ log (Starts s terms g e c) = entry-at p.key s p.peer [] (Proposal terms) (omega arith) tt
log-texts p xs _ log (Accepts s terms g e c) = entry-at p.key s p.name [] (Proposal terms) (omega arith) tt
log-texts p xs _ log (Takes s v part e rule f) = taken p xs log s v e part rule f
log-texts p xs _ log (Makes s v part e rule f) = made p xs log s v e part rule f
log-texts p xs _ log (Notes s v r e rule n) = no-text r n
