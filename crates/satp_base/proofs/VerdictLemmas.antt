-- What follows from a verdict, and what the message is that a chain takes next.
use Rattle.std.proofs.Common.{◌≡◌, ℕ, zero, suc, ◌+◌, ◌-◌, ◌≤◌, Bool, true, false, cond, not, List, [], ◌∷◌, ◌++◌, length, refl, ap, ap₂, sym, ◌∙◌, arith}
use Rattle.std.specs.Prelude.{nat_le, nat_lt}
use Rattle.std.specs.Str.{bytes_eq}
use Rattle.std.specs.Cmp.Lexicographic.{same_text}
use Rattle.std.proofs.lemmas.Bool.{both_ways, le-ltb, leb-false, lt-leb, ltb-false}
use Rattle.std.proofs.lemmas.Cmp.{nat_list_eq_equiv}
use Rattle.std.proofs.lemmas.List.{length_push}
use Rattle.satp_base.specs.Canonical.{kind_of, part_kind}
use Rattle.satp_base.specs.Chains.{last_link, link_at}
use Rattle.satp_base.specs.Forms.{IsPart, IsPlace}
use Rattle.satp_base.specs.Tales.{IsTale}
use Rattle.satp_base.specs.Values.{name_text}
use Rattle.satp_base.specs.Verdicts.{ChainState, IsChainBody, IsNextOn, body_verdict, extends, is_settled, maker_at, next_message, next_verdict, part_of, place_of, place_verdict, same_link, same_name, taker_at, text_at, verdict_on}
use Rattle.satp_base.proofs.Exact as exact
use Rattle.satp_base.proofs.TaleTable.{extends-by, extends-is, tale-short}
use Rattle.satp_base.specs.declared.name.Name.{Name}
use Rattle.satp_base.specs.declared.message.Kind.{Kind}
use Rattle.satp_base.specs.declared.message.Link.{Link}
use Rattle.satp_base.specs.declared.message.Part.{Part}
use Rattle.satp_base.specs.declared.message.Body.{Body}
use Rattle.satp_base.specs.declared.message.Body.TheVariants.{Chain, Recover, Update, Success}
use Rattle.satp_base.specs.declared.message.Message.{Message}
use Rattle.satp_base.specs.declared.verdict.Verdict.{Verdict}
use Rattle.satp_base.specs.declared.verdict.Verdict.TheVariants.{Next, Again, Gap, Other, WrongPrevious, WrongSender, OffTale}

-- ---- kinds

pub extends-tale : (tale : List Kind) (kind : Kind) → IsTale tale → extends tale kind ≡ true → IsTale (tale ++ kind ∷ [])
unfolding extends
extends-tale tale kind whole e = extends-is tale kind whole e

pub extends-by_tale : (tale : List Kind) (kind : Kind) → IsTale tale → IsTale (tale ++ kind ∷ []) → extends tale kind ≡ true
unfolding extends
extends-by_tale tale kind whole more = extends-by tale kind whole more

-- ---- the next message

kept_never : (settled same : Bool) (place : ℕ) (link : Link) → cond settled (Again place) (cond same (Again place) (Other place link)) ≡ Next → ⊥
kept_never true same place link e = cc
kept_never false true place link e = cc
kept_never false false place link e = cc

pub record IsNext (wrong far held differs goes : Bool) : Type 0 where
  pub sender : wrong ≡ false
  pub near : far ≡ false
  pub new : held ≡ false
  pub previous : differs ≡ false
  pub kind : goes ≡ true

next_behind : (differs goes : Bool) (place : ℕ) (link : Link) → cond differs (WrongPrevious link) (cond goes Next (OffTale place)) ≡ Next → (differs ≡ false) × (goes ≡ true)
next_behind true goes place link e = absurd cc
next_behind false true place link e = (refl, refl)
next_behind false false place link e = absurd cc

is_next : (wrong far held settled same differs goes : Bool) (n place : ℕ) (kept last : Link)
    → cond wrong WrongSender (cond far (Gap n) (cond held (cond settled (Again place) (cond same (Again place) (Other place kept))) (cond differs (WrongPrevious last) (cond goes Next (OffTale place))))) ≡ Next
    → IsNext wrong far held differs goes
is_next true far held settled same differs goes n place kept last e = absurd cc
is_next false true held settled same differs goes n place kept last e = absurd cc
is_next false false true settled same differs goes n place kept last e = absurd (kept_never settled same place kept e)
is_next false false false settled same differs goes n place kept last e =
    let both = next_behind differs goes place last e in
    record { sender = refl; near = refl; new = refl; previous = both.0; kind = both.1 }

pub not_false : (b : Bool) → not b ≡ false → b ≡ true
not_false true e = refl
not_false false e = absurd cc

-- what the verdict tells of the message
pub record IsTaken (chain : ChainState) (sender : Name) (place : ℕ) (previous : Link) (part : Part) : Type 0 where
  pub sender_is : sender ≡ maker_at chain place
  pub place_is : place ≡ length chain.texts + 1
  pub previous_is : previous ≡ last_link chain.texts
  pub goes : extends chain.tale (part_kind part) ≡ true

pub taken : (chain : ChainState) (sender : Name) (place : ℕ) (previous : Link) (part : Part) (text : List ℕ)
    → place_verdict chain sender place previous (part_kind part) text ≡ Next → IsTaken chain sender place previous part
taken chain sender place previous part text e =
    let h = is_next (not (same_name sender (maker_at chain place))) (nat_lt (length chain.texts + 1) place) (nat_le place (length chain.texts)) (is_settled chain place) (bytes_eq text (text_at chain.texts place))
    (not (same_link previous (last_link chain.texts))) (extends chain.tale (part_kind part)) (length chain.texts) place (link_at chain.texts place) (last_link chain.texts) e in
    let near = ltb-false _ _ h.near in
    let new = leb-false _ _ h.new in
    record {
      sender_is = exact.same_text sender (maker_at chain place) (same_text _ _ (sym (not_false _ h.sender)));
      place_is = omega (arith, near, new);
      previous_is = ap (λ (bytes : List ℕ). let l : Link = record { 0 = bytes } in l) (same_text _ _ (sym (not_false _ h.previous)));
      goes = h.kind;
    }

message_of : (chain : ChainState) (m : Message) (text : List ℕ) (body : Body) → m.body ≡ body → IsChainBody body → m.session ≡ chain.session
    → body_verdict chain m.sender text body ≡ Next → m.receiver ≡ taker_at chain (place_of body) → m ≡ next_message chain (part_of body)
message_of chain m text (Chain place previous part) is chains session next receiver =
    let t = taken chain m.sender place previous part text next in
    let sender : m.sender ≡ maker_at chain (length chain.texts + 1) = t.sender_is ∙ ap (maker_at chain) t.place_is in
    let body : m.body ≡ Chain (length chain.texts + 1) (last_link chain.texts) part = is ∙ ap₂ (λ (n : ℕ) (l : Link). Chain n l part) t.place_is t.previous_is in
    let taker : m.receiver ≡ taker_at chain (length chain.texts + 1) = receiver ∙ ap (taker_at chain) t.place_is in
    λ i. record { session = session i; sender = sender i; receiver = taker i; body = body i }
message_of chain m text (Recover length last) is chains session next receiver = absurd chains
message_of chain m text (Update length entries) is chains session next receiver = absurd chains
message_of chain m text (Success length last) is chains session next receiver = absurd chains

-- the text that follows is the chain's next message, but for its signature
pub follows_message : (chain : ChainState) (m : Message) (text : List ℕ) → IsNextOn chain m text → m ≡ next_message chain (part_of m.body)
follows_message chain m text h = message_of chain m text m.body refl h.of_session.body h.of_session.session h.next h.receiver

goes_of : (chain : ChainState) (sender : Name) (text : List ℕ) (body : Body) → IsChainBody body → body_verdict chain sender text body ≡ Next → extends chain.tale (kind_of body) ≡ true
goes_of chain sender text (Chain place previous part) h e = (taken chain sender place previous part text e).goes
goes_of chain sender text (Recover length last) h e = absurd h
goes_of chain sender text (Update length entries) h e = absurd h
goes_of chain sender text (Success length last) h e = absurd h

-- a verdict that is not the next one's has another reason, or the kind is off the tale
off_never : (settled same : Bool) (place at : ℕ) (link : Link) → cond settled (Again place) (cond same (Again place) (Other place link)) ≡ OffTale at → ⊥
off_never true same place at link e = cc
off_never false true place at link e = cc
off_never false false place at link e = cc

off_behind : (differs goes : Bool) (place at : ℕ) (link : Link) → cond differs (WrongPrevious link) (cond goes Next (OffTale place)) ≡ OffTale at → goes ≡ false
off_behind true goes place at link e = absurd cc
off_behind false true place at link e = absurd cc
off_behind false false place at link e = refl

is_off : (wrong far held settled same differs goes : Bool) (n place at : ℕ) (kept last : Link)
    → cond wrong WrongSender (cond far (Gap n) (cond held (cond settled (Again place) (cond same (Again place) (Other place kept))) (cond differs (WrongPrevious last) (cond goes Next (OffTale place))))) ≡ OffTale at
    → goes ≡ false
is_off true far held settled same differs goes n place at kept last e = absurd cc
is_off false true held settled same differs goes n place at kept last e = absurd cc
is_off false false true settled same differs goes n place at kept last e = absurd (off_never settled same place at kept e)
is_off false false false settled same differs goes n place at kept last e = off_behind differs goes place at last e

off_of : (chain : ChainState) (sender : Name) (text : List ℕ) (body : Body) (at : ℕ) → body_verdict chain sender text body ≡ OffTale at → extends chain.tale (kind_of body) ≡ false
off_of chain sender text (Chain place previous part) at e =
    is_off (not (same_name sender (maker_at chain place))) (nat_lt (length chain.texts + 1) place) (nat_le place (length chain.texts)) (is_settled chain place) (bytes_eq text (text_at chain.texts place))
    (not (same_link previous (last_link chain.texts))) (extends chain.tale (part_kind part)) (length chain.texts) place at (link_at chain.texts place) (last_link chain.texts) e
off_of chain sender text (Recover length last) at e = absurd cc
off_of chain sender text (Update length entries) at e = absurd cc
off_of chain sender text (Success length last) at e = absurd cc

pub next_tale : (chain : ChainState) (m : Message) (text : List ℕ) → IsTale chain.tale → IsChainBody m.body → verdict_on chain m text ≡ Next → IsTale (chain.tale ++ kind_of m.body ∷ [])
next_tale chain m text tale body e = extends-tale chain.tale _ tale (goes_of chain m.sender text m.body body e)

pub off_tale : (chain : ChainState) (m : Message) (text : List ℕ) (at : ℕ) → IsTale chain.tale → verdict_on chain m text ≡ OffTale at → ¬ IsTale (chain.tale ++ kind_of m.body ∷ [])
off_tale chain m text at tale e = λ more. both_ways _ (off_of chain m.sender text m.body at e) (extends-by_tale chain.tale _ tale more)

pub follows_tale : (chain : ChainState) (m : Message) (text : List ℕ) → IsTale chain.tale → IsNextOn chain m text → IsTale (chain.tale ++ kind_of m.body ∷ [])
follows_tale chain m text tale h = next_tale chain m text tale h.of_session.body h.next

-- ---- the message that a chain takes next

same_bytes : (xs : List ℕ) → bytes_eq xs xs ≡ true
same_bytes = nat_list_eq_equiv.refl

pub next_place : (chain : ChainState) (kind : Kind) → length chain.tale ≡ length chain.texts → IsTale (chain.tale ++ kind ∷ []) → IsPlace (length chain.texts + 1)
next_place chain kind long tale = record {
  low = omega arith;
  high = omega (arith, tale-short _ tale, length_push chain.tale kind, long);
}

pub next_follows : (chain : ChainState) (part : Part) (text : List ℕ) → length chain.tale ≡ length chain.texts → IsTale chain.tale → IsPart part → IsTale (chain.tale ++ part_kind part ∷ [])
    → IsNextOn chain (next_message chain part) text
next_follows chain part text long tale formed more =
    let n = length chain.texts in
    let far : nat_lt (n + 1) (n + 1) ≡ false = le-ltb (n + 1) (n + 1) (omega arith) in
    let held : nat_le (n + 1) n ≡ false = lt-leb (n + 1) n (omega arith) in
    record {
      of_session = record { body = tt; formed = (next_place chain (part_kind part) long more, formed); session = refl };
      next = rw (same_bytes (name_text (maker_at chain (n + 1))), far, held, same_bytes ((last_link chain.texts).0), extends-by_tale chain.tale (part_kind part) tale more) refl;
      receiver = refl;
    }
