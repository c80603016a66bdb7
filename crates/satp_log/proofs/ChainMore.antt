-- A chain with one message more is a chain.
use Rattle.std.proofs.Common.{◌≡◌, ℕ, List, [], ◌∷◌, ◌++◌, map, refl, ap, ap₂, subst, sym, ◌∙◌}
use Rattle.std.specs.List.{AllByRecursion}
use Rattle.std.proofs.lemmas.List.{map-append}
use Rattle.satp_base.specs.Canonical.{kind_of, part_kind}
use Rattle.satp_base.specs.Chains.{next_text, texts_of}
use Rattle.satp_base.specs.Forms.{IsBody, IsPart}
use Rattle.satp_base.specs.Signatures.{own}
use Rattle.satp_base.specs.Tales.{IsTale}
use Rattle.satp_base.specs.Verdicts.{IsChainBody, part_of}
use Rattle.satp_base.proofs.ChainLemmas.{texts_appended}
use Rattle.satp_base.proofs.VerdictLemmas.{follows_message, follows_tale}
use Rattle.satp_base.specs.declared.message.Body.{Body}
use Rattle.satp_base.specs.declared.message.Body.TheVariants.{Chain, Recover, Update, Success}
use Rattle.satp_base.specs.declared.message.Kind.{Kind}
use Rattle.satp_base.specs.declared.message.Part.{Part}
use Rattle.satp_chain.specs.Chained.{Chained, IsChain, parts_in, pushed, state_of, tale_of, texts_in}
use Rattle.satp_chain.specs.Verdicts.{Follows}
use Rattle.satp_chain.specs.declared.signed.Signed.{Signed}

pub kind-part : (b : Body) → part_kind (part_of b) ≡ kind_of b
kind-part (Chain place previous part) = refl
kind-part (Recover n last) = refl
kind-part (Update n entries) = refl
kind-part (Success n last) = refl

kinds-parts : (kept : List Signed) → map part_kind (map (λ (x : Signed). part_of x.message.body) kept) ≡ map (λ (x : Signed). kind_of x.message.body) kept
kinds-parts [] = refl
kinds-parts (x ∷ kept) = ap₂ (λ (k : Kind) (ks : List Kind). k ∷ ks) (kind-part x.message.body) (kinds-parts kept)

pub formed-part : (b : Body) → IsBody b → IsChainBody b → IsPart (part_of b)
formed-part (Chain place previous part) f c = f.1
formed-part (Recover n last) f c = absurd c
formed-part (Update n entries) f c = absurd c
formed-part (Success n last) f c = absurd c

formed-more : (parts : List Part) (part : Part) → AllByRecursion IsPart parts → IsPart part → AllByRecursion IsPart (parts ++ part ∷ [])
formed-more [] part h p = (p, tt)
formed-more (first ∷ parts) part h p = (h.0, formed-more parts part h.1 p)

pub chain-more : (chain : Chained) (signed : Signed) (key : List ℕ) → Follows chain signed → IsChain chain key → signed.text ≡ own key signed.message → IsChain (pushed chain signed) key
chain-more chain signed key h held text =
    let part = part_of signed.message.body in
    let parts : parts_in (pushed chain signed) ≡ parts_in chain ++ part ∷ [] = map-append (λ (x : Signed). part_of x.message.body) chain.kept (signed ∷ []) in
    let texts : texts_in (pushed chain signed) ≡ texts_in chain ++ signed.text ∷ [] = map-append (λ (x : Signed). x.text) chain.kept (signed ∷ []) in
    let kinds : tale_of (pushed chain signed) ≡ tale_of chain ++ kind_of signed.message.body ∷ [] = map-append (λ (x : Signed). kind_of x.message.body) chain.kept (signed ∷ []) in
    let tale = subst IsTale (kinds-parts chain.kept) held.tale in
    let more = subst IsTale (sym kinds) (follows_tale (state_of chain) signed.message signed.text tale h) in
    let next : signed.text ≡ next_text chain.session chain.recipient key (texts_in chain) part = text ∙ ap (own key) (follows_message (state_of chain) signed.message signed.text h) in
    record {
      tale = subst IsTale (sym (kinds-parts (pushed chain signed).kept)) more;
      formed = subst (AllByRecursion IsPart) (sym parts) (formed-more (parts_in chain) part held.formed (formed-part signed.message.body h.of_session.formed h.of_session.body));
      each = texts ∙ ap (λ (t : List ℕ). texts_in chain ++ t ∷ []) next
          ∙ ap (λ (ts : List (List ℕ)). ts ++ next_text chain.session chain.recipient key ts part ∷ []) held.each
          ∙ sym (texts_appended chain.session chain.recipient key (parts_in chain) part)
          ∙ ap (texts_of chain.session chain.recipient key) (sym parts);
    }
