-- A body that a gateway reads, and what it answers of one that it can't.
use Rattle.std.proofs.Common.{◌≡◌, ◌≤◌, ℕ, List, [], ◌∷◌, length, inl, inr, Option, Some, None, Result, Ok, Err, refl, sym, ◌∙◌, ap, subst}
use Rattle.std.specs.Prelude.{◌≢◌, false, true}
use Rattle.satp_base.specs.declared.message.Body.{Body as BodyOf}
use Rattle.satp_base.specs.declared.message.Body.TheVariants as body
use Rattle.satp_base.specs.declared.message.Message.{Message}
use Rattle.satp_chain.specs.declared.signed.Signed.{Signed}
use Rattle.satp_log.specs.Hearing.{reading_fault}
use Rattle.satp_log.specs.Journals.{party_of}
use Rattle.satp_log.specs.Logged.{LogState}
use Rattle.satp_log.specs.declared.fault.Unheard.{Unheard}
use Rattle.satp_log.specs.declared.fault.Unheard.TheVariants as unheard
use Rattle.satp_points.specs.Answers.{Answers, Breaking, IsRecover, Unchanged, WritesLast}
use Rattle.satp_points.specs.Deciding.{Decided, Decides, IsDecisionOf, IsDone, WritesLate}
use Rattle.satp_points.specs.States.{GatewayState, Holds, Tells, is_broken}
use Rattle.satp_points.specs.declared.decision.Decision.{Decision}
use Rattle.satp_points.specs.declared.decision.Decision.TheVariants.{Gives, Works}
use Rattle.satp_points.specs.declared.fault.Refused.{Refused}
use Rattle.satp_points.specs.declared.fault.Refused.TheVariants.{Body, Broken, Chain, Exists, Full, Header, Jws, Memory, Receiver, Recovery, Site, Size, Strange, TooLate}
use Rattle.satp_point_laws.proofs.DecidedLaw.{decides-at}
use Rattle.satp_records.specs.declared.stored.Setup.{Setup}
use Rattle.satp_sides.specs.Calls.{Call, Hears, IsEntryOf, IsOwn}
use Rattle.satp_sides.specs.Points.{Party, Stored, Text}
use Rattle.satp_gateway.specs.Handling.{HandleReads, HearsRecover, IsHeardBy, IsRead, most_body, unheard_as}
use Rattle.satp_decisions.specs.Tests.{IsOfTestOrMemory}
use Rattle.satp_gateway.proofs.Calling.{HoldsSome, Logs, refused}

-- ---- the reading

pub unread : (key : List ℕ) (text : Text) (fault : Unheard) → length text ≤ most_body → (fault ≢ unheard.Memory → reading_fault key text ≡ Some fault) → HandleReads key text (Err (unheard_as fault))
unread key text (unheard.Jws fault) short is = (short, is (λ e. cc))
unread key text unheard.Header short is = (short, is (λ e. cc))
unread key text (unheard.Body fault) short is = (short, is (λ e. cc))
unread key text unheard.Memory short is = short

pub refused-read : (key : List ℕ) (text : Text) (r : Refused) → length text ≤ most_body → IsRead key text → IsOfTestOrMemory r → HandleReads key text (Err r)
refused-read key text Receiver short read of = (short, read)
refused-read key text (Strange s) short read of = (short, read)
refused-read key text (Chain v) short read of = (short, read)
refused-read key text (Recovery f) short read of = (short, read)
refused-read key text (Full n) short read of = (short, read)
refused-read key text Exists short read of = (short, read)
refused-read key text (TooLate p) short read of = (short, read)
refused-read key text Memory short read of = short
refused-read key text Broken short read of = tt
refused-read key text Site short read of = (short, read)
refused-read key text (Size n) short read of = absurd of
refused-read key text (Jws f) short read of = absurd of
refused-read key text Header short read of = absurd of
refused-read key text (Body f) short read of = absurd of

pub failed-read : (key : List ℕ) (text : Text) (r : Refused) → length text ≤ most_body → IsRead key text → IsDone (Err r) → HandleReads key text (Err r)
failed-read key text Site short read of = (short, read)
failed-read key text Memory short read of = short
failed-read key text Broken short read of = tt
failed-read key text Receiver short read of = (short, read)
failed-read key text (Strange s) short read of = (short, read)
failed-read key text (Chain v) short read of = (short, read)
failed-read key text (Recovery f) short read of = (short, read)
failed-read key text (Full n) short read of = (short, read)
failed-read key text Exists short read of = (short, read)
failed-read key text (TooLate p) short read of = (short, read)
failed-read key text (Size n) short read of = absurd of
failed-read key text (Jws f) short read of = absurd of
failed-read key text Header short read of = absurd of
failed-read key text (Body f) short read of = absurd of

-- ---- refusals leave all as it is

pub stays : (W : Type 0) (g : GatewayState) (site : Tells) (r : Refused) → Unchanged W g g site site (Err r)
stays W g site Site = tt
stays W g site Memory = inl (refl, refl)
stays W g site r = (refl, refl)

pub whole-breaking : (g : GatewayState) (r : Refused) → is_broken g ≡ false → r ≢ Broken → r ≢ Site → Breaking g g (Err r)
whole-breaking g r whole not-broken not-site = record {
  found = λ e. absurd (cc);
  answered = λ e. absurd (not-broken cc);
  broke = λ e. absurd (not-site cc);
  whole = λ e. absurd (cc);
}

pub broken-breaking : (g : GatewayState) → is_broken g ≡ true → Breaking g g (Err Broken)
broken-breaking g broken = record { found = λ e. refl; answered = λ e. broken; broke = λ e. broken; whole = λ e. inl broken }

pub test-not-broken : (r : Refused) → IsOfTestOrMemory r → r ≢ Broken
test-not-broken r of e = subst IsOfTestOrMemory e of

pub test-not-site : (r : Refused) → IsOfTestOrMemory r → r ≢ Site
test-not-site r of e = subst IsOfTestOrMemory e of

pub unheard-not-broken : (f : Unheard) → unheard_as f ≢ Broken
unheard-not-broken (unheard.Jws f) e = cc
unheard-not-broken unheard.Header e = cc
unheard-not-broken (unheard.Body f) e = cc
unheard-not-broken unheard.Memory e = cc

pub unheard-not-site : (f : Unheard) → unheard_as f ≢ Site
unheard-not-site (unheard.Jws f) e = cc
unheard-not-site unheard.Header e = cc
unheard-not-site (unheard.Body f) e = cc
unheard-not-site unheard.Memory e = cc

-- ---- an answer that is written last

late-by : (key : List ℕ) (d : Decision) (b : BodyOf) → ((e : Option Message) → IsEntryOf key b e → WritesLate d → IsRecover b) → WritesLate d → IsRecover b
late-by key d (body.Chain place previous part) f w = f None refl w
late-by key d (body.Recover n last) f w = tt
late-by key d (body.Success n last) f w = f None refl w
late-by key d (body.Update n []) f w = f None refl w
late-by key d (body.Update n (t ∷ [])) f w = f None (λ e own. f (Some e) own w) w
late-by key d (body.Update n (t ∷ u ∷ ts)) f w = f None refl w

writes-last : (p : Party) (xs : List Stored) (call : Call) (d : Decision) → IsDecisionOf p xs call d → WritesLate d → WritesLast call
writes-last p xs call (Gives reply) of w = absurd w
writes-last p xs call (Works s first reply) of w = of.1 w

-- the key of a gateway is that of its log
key-is : (g : GatewayState) (log : LogState) (setup : Setup) (xs : List Stored) → Logs g log → Holds g setup xs → log.setup.key ≡ setup.key
key-is g log setup xs logs h = ap (λ (s : Setup). s.key) (logs setup xs h).0.setup_is

-- the own text of a message that the gateway hears, under the key of its log
pub own-of : (g : GatewayState) (log : LogState) (text : Text) (m : Message) (e : Option Message) → Logs g log → HoldsSome g → IsHeardBy g text m e → IsOwn log.setup.key text m
own-of g log text m e logs some by = subst (λ k. IsOwn k text m) (sym (key-is g log some.0 some.1 logs some.2)) (by.1 some.0 some.1 some.2).0

-- what was heard under the key of a log is the message's own text under that of another log of the gateway
pub heard-as : (g : GatewayState) (a b : LogState) (heard : Signed) (text : Text) (key : List ℕ) → Logs g a → Logs g b → HoldsSome g → key ≡ a.setup.key → IsOwn key text heard.message × (heard.text ≡ text)
    → IsOwn b.setup.key heard.text heard.message
heard-as g a b heard text key la lb some is own =
    let same = is ∙ key-is g a some.0 some.1 la some.2 ∙ sym (key-is g b some.0 some.1 lb some.2) in
    subst (λ k. IsOwn k heard.text heard.message) same (subst (λ t. IsOwn key t heard.message) (sym own.1) own.0)

module _ (g : GatewayState) (log : LogState) (heard : Signed) (text : Text) (logs : Logs g log) (some : HoldsSome g) (own : IsOwn log.setup.key heard.text heard.message) (is : heard.text ≡ text) where
  -- what is heard is this message's own text
  pub own-at : (setup : Setup) (xs : List Stored) → Holds g setup xs → IsOwn setup.key text heard.message
  own-at setup xs h = subst (λ k. IsOwn k text heard.message) (key-is g log setup xs logs h) (subst (λ t. IsOwn log.setup.key t heard.message) is own)

  pub late-recover : (d : Decision) → ((e : Option Message) → IsEntryOf log.setup.key heard.message.body e → Decides (Hears heard.message heard.text e) log (Ok d)) → WritesLate d → HearsRecover g text
  late-recover d decides w =
      let by = λ (e : Option Message) (entry : IsEntryOf log.setup.key heard.message.body e) (late : WritesLate d).
      let decided : Decided (party_of some.0) some.1 (Hears heard.message heard.text e) d = decides-at (Hears heard.message heard.text e) g log (Ok d) logs (decides e entry) some.0 some.1 some.2 in
      writes-last (party_of some.0) some.1 (Hears heard.message heard.text e) d decided.of_call late in
      (heard.message, late-by log.setup.key d heard.message.body by w, own-at)

  -- and its entry is the one that the gateway hears
  pub same-entry : (m : Message) (e : Option Message) → IsHeardBy g text m e → heard.message ≡ m → IsEntryOf log.setup.key heard.message.body e
  same-entry m e by same =
      let both = by.1 some.0 some.1 some.2 in
      subst (λ (n : Message). IsEntryOf log.setup.key n.body e) (sym same) (subst (λ k. IsEntryOf k m.body e) (sym (key-is g log some.0 some.1 logs some.2)) both.1)

pub unchanged-by : (A B : Type 0) (old new : GatewayState) (before site : Tells) (result : Result (Option Text) Refused) → (A → B) → Unchanged A old new before site result → Unchanged B old new before site result
unchanged-by A B old new before site (Ok reply) f h = tt
unchanged-by A B old new before site (Err Site) f h = tt
unchanged-by A B old new before site (Err Memory) f (inl h) = inl h
unchanged-by A B old new before site (Err Memory) f (inr h) = inr (f h)
unchanged-by A B old new before site (Err r) f h = h

-- want of memory while a text is read
pub memory-answers : (m : Message) (t : Text) (e : Option Message) (g : GatewayState) (log : LogState) (site : Tells) → Logs g log → HoldsSome g → is_broken g ≡ false → Answers (Hears m t e) g g site site (Err Memory)
memory-answers m t e g log site logs some whole = refused (Hears m t e) g log Memory site logs some whole (λ setup xs h formed is. tt)

-- a text that a message was composed as is heard as that message, or no memory was found
pub unheard-memory : (m : Message) (t : Text) (e : Option Message) (g : GatewayState) (log : LogState) (site : Tells) (fault : Unheard) → Logs g log → HoldsSome g → is_broken g ≡ false → fault ≡ unheard.Memory → Answers (Hears m t e) g g site site (Err (unheard_as fault))
unheard-memory m t e g log site fault logs some whole is = subst (λ f. Answers (Hears m t e) g g site site (Err (unheard_as f))) (sym is) (memory-answers m t e g log site logs some whole)
