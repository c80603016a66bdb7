-- What one message more makes of a chain, and what the calls answer.
use Rattle.std.proofs.Common.{◌≡◌, ℕ, zero, suc, ◌+◌, ◌-◌, ◌≤◌, Bool, true, false, cond, not, List, [], ◌∷◌, ◌++◌, map, length, IsTrue, IfOk, Result, Ok, Err, Option, Some, None, Bor, get_or, refl, ap, ap₂, subst, sym, ◌∙◌, arith, ◌↔◌}
use Rattle.std.specs.Prelude.{IfSome, is_some, nat_lt, slice_get}
use Rattle.std.specs.List.{AllByRecursion}
use Rattle.std.specs.Option.{option_copied}
use Rattle.std.specs.Str.{bytes_eq}
use Rattle.std.proofs.lemmas.Bool.{ltb-false, ltb-true}
use Rattle.std.proofs.lemmas.Option.{slice_get_past, slice_get_read}
use Rattle.std.proofs.lemmas.List.{length-map, length_push, map_push}
use Rattle.satp_base.specs.declared.text.Memory.{Memory}
use Rattle.satp_base.specs.Canonical.{kind_of, part_kind}
use Rattle.satp_base.specs.Chains.{last_link, link_at, link_of, message_at, next_text, texts_of}
use Rattle.satp_base.specs.Forms.{IsBody, IsFormed, IsPart}
use Rattle.satp_base.specs.Signatures.{own}
use Rattle.satp_base.specs.Tales.{IsTale}
use Rattle.satp_base.specs.Verdicts.{ChainState, IsChainBody, body_verdict, extends, next_message, next_verdict, part_of, place_verdict, same_link}
use Rattle.satp_base.proofs.ChainLemmas.{texts_appended}
use Rattle.satp_base.proofs.TaleTable.{tale-short}
use Rattle.satp_base.proofs.VerdictLemmas.{extends-by_tale, extends-tale, follows_message, follows_tale, next_place, not_false}
use Rattle.satp_base.specs.declared.message.Kind.{Kind}
use Rattle.satp_base.specs.declared.message.Link.{Link}
use Rattle.satp_base.specs.declared.message.Part.{Part}
use Rattle.satp_base.specs.declared.message.Body.{Body}
use Rattle.satp_base.specs.declared.message.Body.TheVariants.{Chain, Recover, Update, Success}
use Rattle.satp_base.specs.declared.message.Message.{Message}
use Rattle.satp_base.specs.declared.verdict.Verdict.{Verdict}
use Rattle.satp_base.specs.declared.verdict.Verdict.TheVariants.{Next, OffTale}
use Rattle.satp_chain.specs.Chained.{Chained, IsChain, entry_at, next_signed, parts_in, pushed, state_of, tale_of, texts_in}
use Rattle.satp_chain.specs.Verdicts.{Follows, verdict}
use Rattle.satp_chain.specs.declared.signed.Signed.{Signed}

-- ---- kinds

-- what the tale answers is what the definition tests
extends_as : (tale : List Kind) (kind : Kind) (r : Bool) → IsTale tale → IsTrue r ↔ IsTale (tale ++ kind ∷ []) → extends tale kind ≡ r
extends_as tale kind true whole h = extends-by_tale tale kind whole (h.0 refl)
extends_as tale kind false whole h = none (extends tale kind) (λ e. h.1 (extends-tale tale kind whole e))
  where
    none : (b : Bool) → (b ≡ true → IsTrue false) → b ≡ false
    none true k = absurd (let bad = k refl in cc)
    none false k = refl

next_is : (chain : ChainState) (place : ℕ) (previous : Link) (kind : Kind) (r : Bool) → same_link previous (last_link chain.texts) ≡ true → extends chain.tale kind ≡ r
    → next_verdict chain place previous kind ≡ cond r Next (OffTale place)
next_is chain place previous kind r same goes = rw (same, goes) refl

pub tale_pushed : (chain : Chained) (signed : Signed) → tale_of (pushed chain signed) ≡ tale_of chain ++ kind_of signed.message.body ∷ []
tale_pushed chain signed = map_push (λ (s : Signed). kind_of s.message.body) chain.kept signed

-- ---- one message more

kind_same : (body : Body) → part_kind (part_of body) ≡ kind_of body
kind_same (Chain place previous part) = refl
kind_same (Recover length last) = refl
kind_same (Update length entries) = refl
kind_same (Success length last) = refl

kinds_same : (kept : List Signed) → map part_kind (map (λ (s : Signed). part_of s.message.body) kept) ≡ map (λ (s : Signed). kind_of s.message.body) kept
kinds_same [] = refl
kinds_same (s ∷ kept) = ap₂ (λ (k : Kind) (ks : List Kind). k ∷ ks) (kind_same s.message.body) (kinds_same kept)

part_formed : (body : Body) → IsChainBody body → IsBody body → IsPart (part_of body)
part_formed (Chain place previous part) h f = f.1
part_formed (Recover length last) h f = absurd h
part_formed (Update length entries) h f = absurd h
part_formed (Success length last) h f = absurd h

all_more : (parts : List Part) (part : Part) → AllByRecursion IsPart parts → IsPart part → AllByRecursion IsPart (parts ++ part ∷ [])
all_more [] part h p = (p, tt)
all_more (first ∷ parts) part h p = (h.0, all_more parts part h.1 p)

pub chain_pushed : (chain : Chained) (signed : Signed) (key : List ℕ) → Follows chain signed → IsChain chain key → signed.text ≡ own key signed.message → IsChain (pushed chain signed) key
chain_pushed chain signed key h held text =
    let part = part_of signed.message.body in
    let parts : parts_in (pushed chain signed) ≡ parts_in chain ++ part ∷ [] = map_push (λ (s : Signed). part_of s.message.body) chain.kept signed in
    let texts : texts_in (pushed chain signed) ≡ texts_in chain ++ signed.text ∷ [] = map_push (λ (s : Signed). s.text) chain.kept signed in
    let tale = subst IsTale (kinds_same chain.kept) held.tale in
    let more = subst IsTale (sym (tale_pushed chain signed)) (follows_tale (state_of chain) signed.message signed.text tale h) in
    let next : signed.text ≡ next_text chain.session chain.recipient key (texts_in chain) part =
    text ∙ ap (own key) (follows_message (state_of chain) signed.message signed.text h) in
    record {
      tale = subst IsTale (sym (kinds_same (pushed chain signed).kept)) more;
      formed = subst (AllByRecursion IsPart) (sym parts) (all_more (parts_in chain) part held.formed (part_formed signed.message.body h.of_session.body h.of_session.formed));
      each = texts ∙ ap (λ (t : List ℕ). texts_in chain ++ t ∷ []) next
          ∙ ap (λ (ts : List (List ℕ)). ts ++ next_text chain.session chain.recipient key ts part ∷ []) held.each
          ∙ sym (texts_appended chain.session chain.recipient key (parts_in chain) part)
          ∙ ap (texts_of chain.session chain.recipient key) (sym parts);
    }

-- ---- the next text

at_end : (texts : List (List ℕ)) (text : List ℕ) → link_at (texts ++ text ∷ []) (suc (length texts)) ≡ link_of text
at_end [] text = refl
at_end (first ∷ texts) text = at_end texts text

last_pushed : (texts : List (List ℕ)) (text : List ℕ) → last_link (texts ++ text ∷ []) ≡ link_of text
last_pushed texts text = ap (link_at (texts ++ text ∷ [])) (length_push texts text ∙ add_one) ∙ at_end texts text
  where
    add_one : length texts + 1 ≡ suc (length texts)
    add_one = omega arith

-- the message after one that is taken
pub message_after : (chain : Chained) (signed : Signed) (part : Part)
    → message_at chain.session chain.recipient (length (texts_in chain) + 2) (link_of signed.text) part ≡ next_message (state_of (pushed chain signed)) part
message_after chain signed part =
    let more : texts_in (pushed chain signed) ≡ texts_in chain ++ signed.text ∷ [] = map_push (λ (s : Signed). s.text) chain.kept signed in
    let place : length (texts_in chain) + 2 ≡ length (texts_in (pushed chain signed)) + 1 = omega (arith, length_push (texts_in chain) signed.text, ap length more) in
    let link : link_of signed.text ≡ last_link (texts_in (pushed chain signed)) =
    sym (last_pushed (texts_in chain) signed.text) ∙ ap last_link (sym more) in
    ap₂ (λ (n : ℕ) (l : Link). message_at chain.session chain.recipient n l part) place link

-- ---- what the calls answer, from what they were told of the fields

kept_at : (chain : Chained) (place : ℕ) → (place ≡ 0 → ⊥) → slice_get chain.kept (place - 1) ≡ entry_at chain place
kept_at chain zero h = absurd (h refl)
kept_at chain (suc n) h = let e : suc n - 1 ≡ n = omega arith in ap (slice_get chain.kept) e

got_at : (kept : List Signed) (i : ℕ) (r : Option (Bor Signed)) → is_some r ≡ nat_lt i (length kept) → IfSome r (λ x. x.now ≡ get_or kept i x.now) → option_copied r ≡ slice_get kept i
got_at kept i None some is = sym (slice_get_past kept i (ltb-false _ _ (sym some)))
got_at kept i (Some x) some is = sym (slice_get_read kept (length kept) i x.now refl (ltb-true _ _ (sym some)) is)

pub entry_found : (chain : Chained) (place : ℕ) (kept : List Signed) (r : Option (Bor Signed)) → (place ≡ 0 → ⊥) → kept ≡ chain.kept → is_some r ≡ nat_lt (place - 1) (length kept)
    → IfSome r (λ x. x.now ≡ get_or kept (place - 1) x.now) → option_copied r ≡ entry_at chain place
entry_found chain place kept r h same some is = got_at kept (place - 1) r some is ∙ ap (λ (ks : List Signed). slice_get ks (place - 1)) same ∙ kept_at chain place h

pub checked : (chain : Chained) (signed : Signed) (place : ℕ) (previous : Link) (part : Part) (kind : Kind) (text : List ℕ) (r : Verdict) → signed.message.body ≡ Chain place previous part
    → kind ≡ part_kind part → text ≡ signed.text → r ≡ place_verdict (state_of chain) signed.message.sender place previous kind text → verdict chain signed ≡ r
checked chain signed place previous part kind text r is e same found =
    ap (body_verdict (state_of chain) signed.message.sender signed.text) is
    ∙ sym (found ∙ ap₂ (λ (k : Kind) (t : List ℕ). place_verdict (state_of chain) signed.message.sender place previous k t) e same)

pub kinds_long : (chain : Chained) → length (tale_of chain) ≡ length (texts_in chain)
kinds_long chain = length-map chain.kept (λ (s : Signed). kind_of s.message.body) ∙ sym (length-map chain.kept (λ (s : Signed). s.text))

kept_long : (chain : Chained) → length (tale_of chain) ≡ length chain.kept
kept_long chain = length-map chain.kept (λ (s : Signed). kind_of s.message.body)

last_is : (chain : Chained) (tale : List Kind) (count : ℕ) (link : Link) → tale ≡ tale_of chain → count ≡ length tale → link ≡ link_at (texts_in chain) count → link ≡ last_link (texts_in chain)
last_is chain tale count link same long e = e ∙ ap (link_at (texts_in chain)) (long ∙ ap length same ∙ kinds_long chain)

pub next_answers : (chain : Chained) (place : ℕ) (previous : Link) (kind : Kind) (tale : List Kind) (count : ℕ) (kept : Link) (differs goes : Bool)
    → tale ≡ tale_of chain → IsTale tale → count ≡ length tale → kept ≡ link_at (texts_in chain) count
    → differs ≡ not (bytes_eq previous.0 kept.0) → differs ≡ false → IsTrue goes ↔ IsTale (tale ++ kind ∷ [])
    → next_verdict (state_of chain) place previous kind ≡ cond goes Next (OffTale place)
next_answers chain place previous kind tale count kept differs goes same whole long link test none h =
    let last = last_is chain tale count kept same long link in
    let equal : same_link previous (last_link (texts_in chain)) ≡ true = ap (same_link previous) (sym last) ∙ not_false _ (sym test ∙ none) in
    let told : IsTrue goes ↔ IsTale (tale_of chain ++ kind ∷ []) = subst (λ (t : List Kind). IsTrue goes ↔ IsTale (t ++ kind ∷ [])) same h in
    next_is (state_of chain) place previous kind goes equal (extends_as (tale_of chain) kind goes (subst IsTale same whole) told)

pub push_tale : (chain : Chained) (signed : Signed) (tale : List Kind) (kind : Kind) → tale ≡ tale_of chain → IsTale tale → kind ≡ kind_of signed.message.body → Follows chain signed → IsTale (tale ++ kind ∷ [])
push_tale chain signed tale kind same whole e h =
    subst (λ (k : Kind). IsTale (tale ++ k ∷ [])) (sym e)
    (subst (λ (t : List Kind). IsTale (t ++ kind_of signed.message.body ∷ [])) (sym same) (follows_tale (state_of chain) signed.message signed.text (subst IsTale same whole) h))

pub no_room : (chain : Chained) (tale : List Kind) (kind : Kind) (capacity count : ℕ) → tale ≡ tale_of chain → IsTale (tale ++ kind ∷ []) → 11 ≤ capacity → capacity ≤ count → count ≡ length chain.kept → ⊥
no_room chain tale kind capacity count same more room full e =
    absurd (omega (arith, tale-short _ more, length_push tale kind, ap length same, kept_long chain))

pub kinds_pushed : (kept new : List Signed) (signed : Signed) (tale tale' : List Kind) (kind : Kind) → tale ≡ map (λ (s : Signed). kind_of s.message.body) kept → kind ≡ kind_of signed.message.body
    → tale' ≡ tale ++ kind ∷ [] → new ≡ kept ++ signed ∷ [] → tale' ≡ map (λ (s : Signed). kind_of s.message.body) new
kinds_pushed kept new signed tale tale' kind same e more items =
    more ∙ ap₂ (λ (ks : List Kind) (k : Kind). ks ++ k ∷ []) same e ∙ sym (map_push (λ (s : Signed). kind_of s.message.body) kept signed)
    ∙ ap (map (λ (s : Signed). kind_of s.message.body)) (sym items)

pub composed : (chain : Chained) (tale : List Kind) (count : ℕ) (link : Link) (part : Part) (m : Message) → tale ≡ tale_of chain → count ≡ length tale → link ≡ link_at (texts_in chain) count
    → m ≡ message_at chain.session chain.recipient (count + 1) link part → m ≡ next_message (state_of chain) part
composed chain tale count link part m same long e is =
    is ∙ ap₂ (λ (n : ℕ) (l : Link). message_at chain.session chain.recipient (n + 1) l part) (long ∙ ap length same ∙ kinds_long chain) (last_is chain tale count link same long e)

pub composed_after : (chain : Chained) (signed : Signed) (tale : List Kind) (count : ℕ) (link : Link) (part : Part) (m : Message) → tale ≡ tale_of chain → count ≡ length tale → link ≡ link_of signed.text
    → m ≡ message_at chain.session chain.recipient (count + 2) link part → m ≡ next_message (state_of (pushed chain signed)) part
composed_after chain signed tale count link part m same long e is =
    is ∙ ap₂ (λ (n : ℕ) (l : Link). message_at chain.session chain.recipient (n + 2) l part) (long ∙ ap length same ∙ kinds_long chain) e
    ∙ message_after chain signed part

pub next_formed : (chain : Chained) (part : Part) (m : Message) → IsTale (tale_of chain ++ part_kind part ∷ []) → IsPart part → m ≡ next_message (state_of chain) part → IsFormed m
next_formed chain part m more formed e = subst IsFormed (sym e) (next_place (state_of chain) (part_kind part) (kinds_long chain) more, formed)

pub signed_next : (chain : Chained) (key : List ℕ) (part : Part) (m : Message) (r : Result Signed Memory) → m ≡ next_message (state_of chain) part
    → IfOk r (λ s. let written : Signed = record { message = m; text = own key m } in s ≡ written) → IfOk r (λ s. s ≡ next_signed chain key part)
signed_next chain key part m (Ok s) e h = h ∙ ap (λ (x : Message). let written : Signed = record { message = x; text = own key x } in written) e
signed_next chain key part m (Err fault) e h = tt

pub signed_follows : (chain : Chained) (key : List ℕ) (part : Part) (r : Result Signed Memory) → IfOk r (λ s. s ≡ next_signed chain key part) → Follows chain (next_signed chain key part) → IfOk r (λ s. Follows chain s)
signed_follows chain key part (Ok s) e h = subst (Follows chain) (sym e) h
signed_follows chain key part (Err fault) e h = tt
