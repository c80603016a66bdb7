-- What a call has before it stores anything.
use Rattle.std.proofs.Common.{◌≡◌, ◌<◌, ◌≤◌, ℕ, suc, ◌+◌, List, [], ◌∷◌, ◌++◌, length, Option, Some, None, refl, sym, ap, subst, ◌∙◌, arith}
use Rattle.std.proofs.lemmas.List.{length-map, map-append}
use Rattle.std.specs.Prelude.{slice_get}
use Rattle.satp_base.specs.Canonical.{kind_of}
use Rattle.satp_base.specs.Roles.{RoleRule}
use Rattle.satp_base.specs.Views.{KeepsTale, push}
use Rattle.satp_base.specs.declared.message.Role.{Role}
use Rattle.satp_base.specs.declared.message.Terms.{Terms}
use Rattle.satp_base.specs.declared.record.Rec.{Rec}
use Rattle.satp_base.specs.declared.record.Rec.TheVariants.{Began, Took, Made, Did, Chose, Rescue}
use Rattle.satp_base.specs.declared.session.SessionId.{SessionId}
use Rattle.satp_base.specs.declared.view.View.{View}
use Rattle.satp_chain.specs.Chained.{Chained, pushed, tale_of, texts_in}
use Rattle.satp_chain.specs.Verdicts.{Follows}
use Rattle.satp_chain.specs.declared.signed.Signed.{Signed}
use Rattle.satp_log.specs.Folding.{HasMessage, IsNextOf, IsSound, State, chain_with, state_with, text_with}
use Rattle.satp_log.specs.Logged.{IsComing, LogState}
use Rattle.satp_log.proofs.Folds.{keeps, sound-message, sound-note}
use Rattle.satp_log.proofs.Places.{found-in}
use Rattle.satp_plan.specs.Plans.{after_taken}
use Rattle.satp_sides.specs.Calls.{text_of}
use Rattle.satp_sides.specs.Logs.{IsNote}
use Rattle.satp_sides.specs.Points.{Text}
use Rattle.satp_sides.proofs.Records.{get-bound, get-new}
use Rattle.satp_points.specs.declared.decision.Replying.{Replying}
use Rattle.satp_engine.specs.Preparing.{IsProvided, Provides}
use Rattle.satp_engine.specs.Starting.{StartFits}
use Rattle.satp_engine.specs.Working.{HasState, KeepsSome}
use Rattle.satp_engine.specs.declared.prepare.Provision.{Provision}
use Rattle.satp_engine.specs.declared.records.Records.{Records}
use Rattle.satp_engine.specs.declared.start.Start.{Start}
use Rattle.satp_engine.specs.declared.start.Start.TheVariants as start
use Rattle.satp_engine.proofs.Looping.{same-state}
use Rattle.satp_engine.proofs.ReplyLemmas.{same-get}

-- ---- the text at an index

pub long : (chain : Chained) → length (tale_of chain) ≡ length (texts_in chain)
long chain = length-map chain.kept (λ (x : Signed). kind_of x.message.body) ∙ sym (length-map chain.kept (λ (x : Signed). x.text))

text-pushed : (chain : Chained) (signed : Signed) → texts_in (pushed chain signed) ≡ texts_in chain ++ signed.text ∷ []
text-pushed chain signed = map-append (λ (x : Signed). x.text) chain.kept (signed ∷ [])

no-get : (texts : List Text) (n : ℕ) → length texts ≤ n → None ≡ slice_get texts n
no-get texts n past = by (slice_get texts n) refl
  where
    by : (o : Option Text) → slice_get texts n ≡ o → None ≡ o
    by None e = refl
    by (Some t) e = let within = get-bound texts n t e in absurd (omega (arith, past, within))

-- before the message that is taken, the chain's own
pub text-before : (chain : Chained) (taken : Option Signed) (index : ℕ) → index < length (tale_of chain) → text_of (texts_in chain) (index + 1) ≡ slice_get (texts_in (after_taken chain taken)) index
text-before chain taken index less = ap (text_of (texts_in chain)) next ∙ by taken
  where
    next : index + 1 ≡ suc index
    next = omega arith

    by : (o : Option Signed) → slice_get (texts_in chain) index ≡ slice_get (texts_in (after_taken chain o)) index
    by None = refl
    by (Some signed) = same-get (texts_in chain) signed.text index (λ e. absurd (omega (arith, e, less, long chain))) ∙ sym (ap (λ (ts : List Text). slice_get ts index) (text-pushed chain signed))

pub text-taken : (chain : Chained) (taken : Option Signed) (signed : Signed) (index : ℕ) → taken ≡ Some signed → index ≡ length (tale_of chain) → Some signed.text ≡ slice_get (texts_in (after_taken chain taken)) index
text-taken chain taken signed index is e =
    sym (ap (λ (o : Option Signed). slice_get (texts_in (after_taken chain o)) index) is ∙ ap (λ (ts : List Text). slice_get ts index) (text-pushed chain signed)
    ∙ ap (slice_get (texts_in chain ++ signed.text ∷ [])) (e ∙ long chain) ∙ get-new (texts_in chain) signed.text)

pub no-text : (chain : Chained) (taken : Option Signed) (index : ℕ) → taken ≡ None → length (tale_of chain) ≤ index → None ≡ slice_get (texts_in (after_taken chain taken)) index
no-text chain taken index is past =
    no-get (texts_in chain) index (omega (arith, past, long chain)) ∙ sym (ap (λ (o : Option Signed). slice_get (texts_in (after_taken chain o)) index) is)

pub text-past : (chain : Chained) (taken : Option Signed) (signed : Signed) (index : ℕ) → taken ≡ Some signed → length (tale_of chain) ≤ index → (index ≡ length (tale_of chain) → ⊥) → None ≡ slice_get (texts_in (after_taken chain taken)) index
text-past chain taken signed index is past other =
    no-get (texts_in chain) index (omega (arith, past, long chain))
    ∙ same-get (texts_in chain) signed.text index (λ e. other (e ∙ sym (long chain)))
    ∙ sym (ap (λ (o : Option Signed). slice_get (texts_in (after_taken chain o)) index) is ∙ ap (λ (ts : List Text). slice_get ts index) (text-pushed chain signed))

-- ---- the session after what is stored first

pub some-state : (log : LogState) (s : SessionId) (x : Start) → x ≡ start.Nothing → (after : State) × StartFits log s x after → (state : State) × HasState log s state
some-state log s x is (after, fits) = (after, subst (λ y. StartFits log s y after) is fits)

pub nothing-fits : (log : LogState) (s : SessionId) (x : Start) (state : State) → x ≡ start.Nothing → HasState log s state → StartFits log s x state
nothing-fits log s x state is there = subst (λ y. StartFits log s y state) (sym is) there

pub coming-of : (log : LogState) (s : SessionId) (x : Start) (rec : Rec) (message : Option Signed) (payload : List ℕ) → x ≡ start.Record rec message payload → (after : State) × StartFits log s x after → IsComing log s rec message
coming-of log s x rec message payload is (after, fits) = (subst (λ y. StartFits log s y after) is fits).0

pub coming-state : (log : LogState) (s : SessionId) (x : Start) (rec : Rec) (message : Option Signed) (payload : List ℕ) → x ≡ start.Record rec message payload → (after : State) × StartFits log s x after → (state : State) × HasState log s state
coming-state log s x rec message payload is fits = let c = coming-of log s x rec message payload is fits in (c.state, c.there)

pub state-sound : (r : Records) (s : SessionId) (state : State) → KeepsSome r → HasState r.log s state → IsSound state.view state.chain
state-sound r s state k there = (found-in r.log r.log.setup k.0 s (Some state) (sym there) k.1.log).sound

pub sound-at : (v : View) (chain : Chained) (state : State) → v ≡ state.view → chain ≡ state.chain → IsSound state.view state.chain → IsSound v chain
sound-at v chain state e h sound = subst (λ (w : View). IsSound w chain) (sym e) (subst (IsSound state.view) (sym h) sound)

same-chain : (chain : Chained) (message : Option Signed) → after_taken chain message ≡ chain_with chain message
same-chain chain None = refl
same-chain chain (Some signed) = refl

module _ (log : LogState) (s : SessionId) (rec : Rec) (message : Option Signed) (state : State) (c : IsComing log s rec message) (there : HasState log s state) where
  next : IsNextOf state log.setup.key rec message
  next = subst (λ (x : State). IsNextOf x log.setup.key rec message) (same-state log s c.state state c.there there) c.next

  pub rule-at : (v : View) → v ≡ state.view → RoleRule v.role v rec
  rule-at v e = subst (λ (w : View). RoleRule w.role w rec) (sym e) next.rule

  pub tale-at : (v : View) → v ≡ state.view → IsSound state.view state.chain → KeepsTale v.tale rec
  tale-at v e sound = subst (λ (w : View). KeepsTale w.tale rec) (sym e) (keeps state.view state.chain rec sound next.rule)

  sound-by : (m : Option Signed) → IsSound state.view state.chain → HasMessage state.chain log.setup.key rec (text_with m) m → IsSound (push state.view rec) (after_taken state.chain m)
  sound-by None sound h = sound-note state.view state.chain rec sound next.rule (noted rec h)
    where
      noted : (r : Rec) → HasMessage state.chain log.setup.key r [] None → IsNote r
      noted (Began role terms) h = h.0
      noted (Took kind) h = h.0
      noted (Made kind) h = h.0
      noted (Did op) h = h.0
      noted (Chose way) h = h.0
      noted Rescue h = h.0
  sound-by (Some signed) sound h = sound-message state.view state.chain log.setup.key rec signed.text signed sound next.rule h

  -- the view and the chain with the record
  pub pushed-sound : (v w : View) (chain : Chained) (taken : Option Signed) → w ≡ state.view → v ≡ push w rec → chain ≡ state.chain → taken ≡ message → IsSound state.view state.chain → IsSound v (after_taken chain taken)
  pushed-sound v w chain taken is e h m sound =
      subst (λ (x : View). IsSound x (after_taken chain taken)) (sym (e ∙ ap (λ (x : View). push x rec) is))
      (subst (λ (x : Chained). IsSound (push state.view rec) (after_taken x taken)) (sym h)
      (subst (λ (o : Option Signed). IsSound (push state.view rec) (after_taken state.chain o)) (sym m) (sound-by message sound next.message_is)))

  follows-by : (r : Rec) (signed : Signed) → HasMessage state.chain log.setup.key r signed.text (Some signed) → Follows state.chain signed
  follows-by (Began role terms) signed h = absurd h
  follows-by (Took kind) signed (part, formed, is, (same, follows, text)) = follows
  follows-by (Made kind) signed (part, formed, is, (same, follows, text)) = follows
  follows-by (Did op) signed h = absurd h
  follows-by (Chose way) signed h = absurd h
  follows-by Rescue signed h = absurd h

  pub taken-follows : (chain : Chained) (taken : Option Signed) → chain ≡ state.chain → taken ≡ message → (x : Signed) → taken ≡ Some x → Follows chain x
  taken-follows chain taken h m x e =
      subst (λ (y : Chained). Follows y x) (sym h)
      (follows-by rec x (subst (λ (o : Option Signed). HasMessage state.chain log.setup.key rec (text_with o) o) (sym m ∙ e) next.message_is))

  pub after-is : state_with c.state rec message ≡ state_with state rec message
  after-is = ap (λ (x : State). state_with x rec message) (same-state log s c.state state c.there there)

  pub chain-is : (chain : Chained) (taken : Option Signed) → chain ≡ state.chain → taken ≡ message → after_taken chain taken ≡ chain_with state.chain message
  chain-is chain taken h m = ap (λ (x : Chained). after_taken x taken) h ∙ ap (after_taken state.chain) m ∙ same-chain state.chain message

pub record-fits : (log : LogState) (s : SessionId) (x : Start) (rec : Rec) (message : Option Signed) (payload : List ℕ) (state : State) → x ≡ start.Record rec message payload → HasState log s state → (after : State) × StartFits log s x after → StartFits log s x (state_with state rec message)
record-fits log s x rec message payload state is there (after, fits) =
    let (coming, e, p) = subst (λ y. StartFits log s y after) is fits in
    subst (λ y. StartFits log s y (state_with state rec message)) (sym is) (coming, sym (after-is log s rec message state coming there), p)

pub session-of : (log : LogState) (s : SessionId) (x : Start) (role : Role) (terms : Terms) (state : State) (payload : List ℕ) → x ≡ start.Session role terms state payload → (after : State) × StartFits log s x after → StartFits log s x state × IsSound state.view state.chain
session-of log s x role terms state payload is (after, fits) =
    let (begins, e) = subst (λ y. StartFits log s y after) is fits in
    (subst (λ y. StartFits log s y state) (sym is) (begins, refl), begins.proposed.sound)

pub provides-at : (log : LogState) (s : SessionId) (x : Start) (replying : Replying) (after : State) → StartFits log s x after
    → (key : List ℕ) (v : View) (chain : Chained) → key ≡ log.setup.key → v ≡ after.view → chain ≡ after.chain
    → (y : Provision) → IsProvided s key v chain replying y → Provides log s x replying y
provides-at log s x replying after fits key v chain k e h y p = record {
  after = after;
  fits = fits;
  provided =
      subst (λ (z : List ℕ). IsProvided s z after.view after.chain replying y) k
      (subst (λ (z : View). IsProvided s key z after.chain replying y) e (subst (λ (z : Chained). IsProvided s key v z replying y) h p));
}
