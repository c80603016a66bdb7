-- The messages of a recovery round are what their definitions say.
use Rattle.std.proofs.Common.{◌≡◌, ◌+◌, ◌-◌, ◌≤◌, ℕ, zero, suc, true, List, [], ◌∷◌, ◌++◌, length, drop, Some, Result, Ok, Err, inl, inr, refl, sym, ap, ap₂, subst, ◌∙◌, arith}
use Rattle.std.specs.Prelude.{IfOk, slice_get}
use Rattle.std.specs.List.{AllByRecursion, list_all}
use Rattle.std.proofs.lemmas.Bool.{and_from, and_parts, cases_lt, le-leb}
use Rattle.std.proofs.lemmas.List.{append_assoc, drop_all, length-drop, length-map}
use Rattle.satp_base.specs.Canonical.{canonical, kind_of, part_kind}
use Rattle.satp_base.specs.Chains.{link_of, message_at, texts_from, zero_link}
use Rattle.satp_base.specs.Forms.{IsBody, IsLink, IsPart, are_entries, is_entry}
use Rattle.satp_base.specs.Signatures.{jws, own, own_header}
use Rattle.satp_base.specs.declared.message.Body.{Body}
use Rattle.satp_base.specs.declared.message.Body.TheVariants as body
use Rattle.satp_base.specs.declared.message.Kind.{Kind}
use Rattle.satp_base.specs.declared.message.Link.{Link}
use Rattle.satp_base.specs.declared.message.Part.{Part}
use Rattle.satp_base.specs.declared.name.Name.{Name}
use Rattle.satp_base.specs.declared.session.SessionId.{SessionId}
use Rattle.satp_base.specs.declared.text.Memory.{Memory}
use Rattle.satp_base.proofs.ChainLemmas.{link_formed, zero_formed}
use Rattle.satp_base.proofs.TaleTable.{tale-short}
use Rattle.satp_base.proofs.TextSizes.{chain-entry}
use Rattle.satp_chain.specs.Chained.{Chained, IsChain, parts_in, tale_of, texts_in}
use Rattle.satp_chain.specs.declared.signed.Signed.{Signed}
use Rattle.satp_log.specs.Journals.{party_of}
use Rattle.satp_records.specs.declared.stored.Setup.{Setup}
use Rattle.satp_sides.specs.Calls.{text_of, update_text}
use Rattle.satp_sides.specs.Moves.{last_texts, message_from}
use Rattle.satp_sides.specs.Points.{Party, Text}
use Rattle.satp_sides.proofs.Chained.{long}

pub ok-more : {A E : Type 0} (r : Result A E) (P Q : A → Type 0) → IfOk r P → ((a : A) → P a → Q a) → IfOk r Q
ok-more (Ok a) P Q h k = k a h
ok-more (Err x) P Q h k = h

-- ---- signed

pub signed-is : (setup found : Setup) (s : SessionId) (said : Body) (key payload signed text : List ℕ) → found ≡ setup → key ≡ setup.key
    → payload ≡ canonical (record { session = s; sender = found.name; receiver = found.peer; body = said }) → signed ≡ payload
    → text ≡ jws key own_header signed → text ≡ own setup.key (message_from (party_of setup) s said)
unfolding own
signed-is setup found s said key payload signed text f k pay bytes is =
    is ∙ ap (λ x. jws x own_header signed) k
    ∙ ap (jws setup.key own_header) (bytes ∙ pay ∙ ap (λ (x : Setup). canonical (message_from (party_of x) s said)) f)

-- ---- the texts after the first ones

from-there : (texts : List Text) (n : ℕ) (text : Text) → Some text ≡ slice_get texts n → drop n texts ≡ text ∷ drop (suc n) texts
from-there [] n text e = absurd (cc e)
from-there (t ∷ texts) zero text e = let same : text ≡ t = cc e in ap (λ x. x ∷ texts) (sym same)
from-there (t ∷ texts) (suc n) text e = from-there texts n text e

pub one-after : (copied texts rest : List Text) (n : ℕ) (text : Text) → Some text ≡ text_of texts (n + 1) → copied ++ drop n texts ≡ rest → (copied ++ text ∷ []) ++ drop (n + 1) texts ≡ rest
one-after copied texts rest n text at so =
    let next : n + 1 ≡ suc n = omega arith in
    ap (λ k. (copied ++ text ∷ []) ++ drop k texts) next
    ∙ append_assoc copied (text ∷ []) (drop (suc n) texts)
    ∙ ap (λ ts. copied ++ ts) (sym (from-there texts n text (at ∙ ap (text_of texts) next)))
    ∙ so

-- so many of the last are those after the others
pub last-after : (given : ℕ) (texts : List Text) → drop given texts ≡ last_texts (length texts - given) texts
last-after given texts = elim (cases_lt given (length texts)) [
  | inl lt ↦ (let same : given ≡ length texts - (length texts - given) = omega (arith, lt) in ap (λ n. drop n texts) same)
  | inr past ↦ drop_all given texts past ∙ sym (drop_all (length texts - (length texts - given)) texts (omega (arith, past)))
]

-- ---- an update may carry each text of a chain

entries-from : (key : List ℕ) (s : SessionId) (recipient : Name) (place : ℕ) (link : Link) (parts : List Part) → 1 ≤ place → place + length parts ≤ 12 → IsLink link → AllByRecursion IsPart parts
    → list_all is_entry (texts_from s recipient key place link parts) ≡ true
unfolding texts_from
entries-from key s recipient place link [] one bound l f = refl
entries-from key s recipient place link (p ∷ parts) one bound l f =
    let m = message_at s recipient place link p in
    and_from _ _ (chain-entry key m ((record { low = one; high = omega arith }, f.0), l) tt)
    (entries-from key s recipient (place + 1) (link_of (own key m)) parts (omega arith) (omega arith) (link_formed (own key m)) f.1)

parts-short : (chain : Chained) (key : List ℕ) → IsChain chain key → length (parts_in chain) ≤ 11
parts-short chain key h = let short = tale-short _ h.tale in let same = length-map (parts_in chain) part_kind in omega (arith, short, same)

chain-entries : (chain : Chained) (key : List ℕ) → IsChain chain key → list_all is_entry (texts_in chain) ≡ true
chain-entries chain key h =
    let short = parts-short chain key h in
    ap (list_all is_entry) h.each ∙ entries-from key chain.session chain.recipient 1 zero_link (parts_in chain) (omega arith) (omega (arith, short)) zero_formed h.formed

chain-short : (chain : Chained) (key : List ℕ) → IsChain chain key → length (texts_in chain) ≤ 11
chain-short chain key h =
    let short = parts-short chain key h in
    let same = ap length h.each ∙ long chain.session chain.recipient key (parts_in chain) in
    omega (arith, short, same)

all-after : (n : ℕ) (ts : List Text) → list_all is_entry ts ≡ true → list_all is_entry (drop n ts) ≡ true
all-after zero ts h = h
all-after (suc n) [] h = h
all-after (suc n) (t ∷ ts) h = all-after n ts (and_parts (is_entry t) (list_all is_entry ts) h).1

-- the length that a chain's tale tells
pub tale-long : (chain : Chained) (tale : List Kind) (n : ℕ) → tale ≡ tale_of chain → n ≡ length tale → n ≡ length (texts_in chain)
tale-long chain tale n same is =
    is ∙ ap length same ∙ length-map chain.kept (λ (x : Signed). kind_of x.message.body) ∙ sym (length-map chain.kept (λ (x : Signed). x.text))

pub update-formed : (chain : Chained) (key : List ℕ) (given n : ℕ) (entries : List Text) → IsChain chain key → length (texts_in chain) ≤ given + 2 → n ≡ length (texts_in chain)
    → entries ≡ drop given (texts_in chain) → IsBody (body.Update n entries)
update-formed chain key given n entries h few same after =
    let short = chain-short chain key h in
    let many = length-drop given (texts_in chain) in
    let two = le-leb (length (drop given (texts_in chain))) 2 (omega (arith, many, few)) in
    (omega (arith, short, same), subst (λ ts. are_entries ts ≡ true) (sym after) (and_from _ _ two (all-after given (texts_in chain) (chain-entries chain key h))))

pub update-is : (setup : Setup) (p : Party) (s : SessionId) (given n : ℕ) (texts entries : List Text) (r : Result Text Memory) → p ≡ party_of setup → n ≡ length texts → entries ≡ drop given texts
    → IfOk r (λ text. text ≡ own setup.key (message_from (party_of setup) s (body.Update n entries))) → IfOk r (λ text. text ≡ update_text p s given texts)
update-is setup p s given n texts entries r who same after h =
    let said : body.Update n entries ≡ body.Update (length texts) (last_texts (length texts - given) texts) =
    ap₂ (λ (k : ℕ) (ts : List Text). body.Update k ts) same (after ∙ last-after given texts) in
    ok-more r _ (λ text. text ≡ update_text p s given texts) h (λ text is.
    is ∙ ap (λ (b : Body). own setup.key (message_from (party_of setup) s b)) said ∙ ap (λ (x : Party). update_text x s given texts) (sym who))
