-- A served connection whose bytes are posted requests: what is said to each.
use Rattle.std.proofs.Common.{◌≡◌, ◌≤◌, ◌+◌, ℕ, true, false, List, [], ◌∷◌, ◌++◌, length, Result, Ok, Err, refl, sym, ap, subst, ◌∙◌, arith, append_assoc, length-append, IsTrue}
use Rattle.std.proofs.lemmas.List.{append-nil}
use Rattle.satp_base.specs.Names.{is_address}
use Rattle.satp_http.specs.Feeds.{RequestFeed}
use Rattle.satp_http.specs.Heads.{client, head_bytes}
use Rattle.satp_http.specs.HttpText.{IsUnfinished, sent_bytes}
use Rattle.satp_http.specs.Runs.{Call, RequestRun, RequestTaken, came, fed, took}
use Rattle.satp_http.specs.Table.{closes, expects, request_parts}
use Rattle.satp_http.specs.Written.{request_text}
use Rattle.satp_http.specs.declared.requests.Asked.{Asked}
use Rattle.satp_http.specs.declared.requests.Taken.TheVariants.{More, Continue, Request}
use Rattle.satp_http.proofs.TakeLemmas.{some_bytes}
use Rattle.httparse.specs.Grammar.{RequestHead}
use Rattle.satp_points.specs.States.{GatewayState}
use Rattle.satp_serve.specs.Exchange.{Answers, SaysToRequest, Talk, Talks, handed}
use Rattle.satp_serve.specs.GatewayReplies.{GatewayReplies, SiteView}
use Rattle.satp_serve.specs.declared.responder.Halt.TheVariants as halt
use Rattle.satp_serve.specs.declared.responder.Halt.{Halt}
use Rattle.satp_serve.specs.declared.responder.Replied.{Replied}
use Rattle.satp_wire_laws.proofs.Fronts.{not-unfinished, request-front, request-is, same-front, same-head}
use Rattle.satp_wire_laws.proofs.WrittenHeads.{posted_goes_on, posted_head}

abbrev pub GatewayTalk : Type 0
GatewayTalk = Talk GatewayState SiteView

abbrev pub posted_as : List ℕ → Asked
posted_as text = record { body = text; close = false }

-- what isn't closed at the end was never closed
pub open-before : (calls : List (Call RequestTaken)) (t u : GatewayTalk) → Talks GatewayReplies t calls u → u.closed ≡ false → t.closed ≡ false
open-before [] t u talks still = sym (ap (λ (x : GatewayTalk). x.closed) talks) ∙ still
open-before (fed piece ∷ calls) t u talks still = open-before calls t u talks still
open-before (took given ∷ calls) t u talks still = talks.0

-- what is said only grows
pub record SaysMore (t u : GatewayTalk) : Type 0 where
  pub more : List ℕ
  pub said : u.said ≡ t.said ++ more

same-said : (t u : GatewayTalk) → u.said ≡ t.said → SaysMore t u
same-said t u e = record { more = []; said = e ∙ sym (append-nil t.said) }

after-more : (t u v : GatewayTalk) → SaysMore t u → SaysMore u v → SaysMore t v
after-more t u v a b = record { more = a.more ++ b.more; said = b.said ∙ ap (λ (l : List ℕ). l ++ b.more) a.said ∙ append_assoc t.said a.more b.more }

answers-more : (t : GatewayTalk) (close : _) (result : Result Replied Halt) (u : GatewayTalk) → Answers (handed t u.responder u.site) close result u → SaysMore t u
answers-more t close (Ok replied) u is = record { more = _; said = ap (λ (x : GatewayTalk). x.said) is }
answers-more t close (Err halt.Cut) u is = same-said t u (ap (λ (x : GatewayTalk). x.said) is)
answers-more t close (Err halt.Site) u is = absurd is
answers-more t close (Err halt.Memory) u is = absurd is

pub says-more : (calls : List (Call RequestTaken)) (t u : GatewayTalk) → Talks GatewayReplies t calls u → SaysMore t u
says-more [] t u talks = same-said t u (ap (λ (x : GatewayTalk). x.said) talks)
says-more (fed piece ∷ calls) t u talks = says-more calls t u talks
says-more (took (Ok More) ∷ calls) t u talks = after-more t talks.1 u (same-said t talks.1 (ap (λ (x : GatewayTalk). x.said) talks.2)) (says-more calls talks.1 u talks.3)
says-more (took (Ok Continue) ∷ calls) t u talks = after-more t talks.1 u (record { more = _; said = ap (λ (x : GatewayTalk). x.said) talks.2 }) (says-more calls talks.1 u talks.3)
says-more (took (Ok (Request asked)) ∷ calls) t u talks = after-more t talks.1 u (answers-more t _ talks.2.result talks.1 talks.2.answers) (says-more calls talks.1 u talks.3)
says-more (took (Err f) ∷ calls) t u talks = after-more t talks.1 u (record { more = _; said = ap (λ (x : GatewayTalk). x.said) talks.2.1 }) (says-more calls talks.1 u talks.3)

-- ---- the next request

-- it was taken and answered, and the calls go on
pub record Next (text more : List ℕ) (last : RequestFeed) (t u : GatewayTalk) : Type 0 where
  pub feed : RequestFeed
  pub calls : List (Call RequestTaken)
  pub talk : GatewayTalk
  pub runs : RequestRun feed calls last
  pub talks : Talks GatewayReplies talk calls u
  pub says : SaysToRequest GatewayReplies t (posted_as text) talk
  pub left : feed.held ++ came calls ≡ more

from-talk : (text more : List ℕ) (last : RequestFeed) (s t u : GatewayTalk) → s ≡ t → Next text more last s u → Next text more last t u
from-talk text more last s t u e next = subst (λ (x : GatewayTalk). Next text more last x u) e next

closes-not : (at text : List ℕ) → closes (request_parts (posted_head at (length text))) ≡ false
closes-not at text = refl

module _ (at text more : List ℕ) (good : IsTrue (is_address at)) (few : length text ≤ 8192) (last : RequestFeed) (u : GatewayTalk) (still : u.closed ≡ false) (unfinished : IsUnfinished client 0 last.held) where
  pub advance : (calls : List (Call RequestTaken)) (feed : RequestFeed) (t : GatewayTalk) → RequestRun feed calls last → Talks GatewayReplies t calls u → feed.held ++ came calls ≡ request_text at text ++ more → Next text more last t u
  advance [] feed t runs talks e =
      let all : last.held ≡ request_text at text ++ more = ap (λ (x : RequestFeed). x.held) runs ∙ sym (append-nil feed.held) ∙ e in
      absurd (not-unfinished client 0 (posted_head at (length text)) text more last.held (request-front at text good few) (all ∙ request-is at text more) unfinished)
  advance (fed piece ∷ calls) feed t runs talks e = advance calls (record feed { held = feed.held ++ piece }) t runs talks (append_assoc feed.held piece (came calls) ∙ e)
  advance (took (Ok More) ∷ calls) feed t runs talks e =
      from-talk text more last talks.1 t u talks.2 (advance calls runs.0 talks.1 runs.2 talks.3 (ap (λ (x : RequestFeed). x.held ++ came calls) runs.1.1 ∙ e))
  advance (took (Ok Continue) ∷ calls) feed t runs talks e =
      let waits = runs.1.2 in
      let head = waits.0 in
      let one = same-head client (posted_head at (length text)) head text more (feed.held ++ came calls) (waits.1.rest ++ came calls) (request-front at text good few) (e ∙ request-is at text more)
      (waits.1.head_is.parts, ap (λ (l : List ℕ). l ++ came calls) waits.1.bytes_are ∙ append_assoc (head_bytes client head) waits.1.rest (came calls)) in
      absurd (let bad : true ≡ false = sym waits.2 ∙ ap (λ (h : RequestHead). expects (request_parts h)) one ∙ posted_goes_on at (length text) in cc bad)
  advance (took (Ok (Request asked)) ∷ calls) feed t runs talks e =
      let sent = runs.1.2 in
      let begins = runs.1.3 in
      let same = same-front client 0 (posted_head at (length text)) text more sent (runs.0.held ++ came calls) (request-front at text good few) begins.0
      (sym (append_assoc (sent_bytes client sent) runs.0.held (came calls)) ∙ ap (λ (l : List ℕ). l ++ came calls) (sym begins.1) ∙ e ∙ request-is at text more) in
      let asked_is : asked ≡ posted_as text = runs.1.4 ∙ (λ i. record { body = same.body_is i; close = closes (request_parts (same.head_is i)) }) in
      record {
        feed = runs.0;
        calls = calls;
        talk = talks.1;
        runs = runs.2;
        talks = talks.3;
        says = subst (λ (x : Asked). SaysToRequest GatewayReplies t x talks.1) asked_is talks.2;
        left = same.rest_is;
      }
  advance (took (Err f) ∷ calls) feed t runs talks e =
      absurd (let bad : true ≡ false = sym (ap (λ (x : GatewayTalk). x.closed) talks.2.1) ∙ open-before calls talks.1 u talks.3 still in cc bad)

-- ---- the end

pub empty-front : (a b : List ℕ) → 0 + 1 ≤ length a → a ++ b ≡ [] → ⊥
empty-front a b some e = let all = sym (length-append a b) ∙ ap length e in omega (arith, some, all)

pub empty-left : (a b : List ℕ) → a ++ b ≡ [] → a ≡ []
empty-left [] b e = refl
empty-left (x ∷ a) b e = absurd (cc e)

-- where no bytes are left, nothing is said
pub says-nothing : (calls : List (Call RequestTaken)) (feed last : RequestFeed) (t u : GatewayTalk) → u.closed ≡ false → RequestRun feed calls last → Talks GatewayReplies t calls u → feed.held ++ came calls ≡ [] → u ≡ t
says-nothing [] feed last t u still runs talks e = talks
says-nothing (fed piece ∷ calls) feed last t u still runs talks e = says-nothing calls (record feed { held = feed.held ++ piece }) last t u still runs talks (append_assoc feed.held piece (came calls) ∙ e)
says-nothing (took (Ok More) ∷ calls) feed last t u still runs talks e =
    says-nothing calls runs.0 last talks.1 u still runs.2 talks.3 (ap (λ (x : RequestFeed). x.held ++ came calls) runs.1.1 ∙ e) ∙ talks.2
says-nothing (took (Ok Continue) ∷ calls) feed last t u still runs talks e =
    let waits = runs.1.2 in
    absurd (empty-front (head_bytes client waits.0) waits.1.rest (let some = some_bytes client waits.0 in omega (arith, some)) (sym waits.1.bytes_are ∙ empty-left feed.held (came calls) e))
says-nothing (took (Ok (Request asked)) ∷ calls) feed last t u still runs talks e =
    let sent = runs.1.2 in
    let none = sym (runs.1.3.1) ∙ empty-left feed.held (came calls) e in
    absurd (empty-front (head_bytes client sent.head) sent.body (let some = some_bytes client sent.head in omega (arith, some)) (empty-left (sent_bytes client sent) runs.0.held none))
says-nothing (took (Err f) ∷ calls) feed last t u still runs talks e =
    absurd (let bad : true ≡ false = sym (ap (λ (x : GatewayTalk). x.closed) talks.2.1) ∙ open-before calls talks.1 u talks.3 still in cc bad)
