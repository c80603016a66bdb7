-- What a log's entry of a session says of the records.
use Rattle.std.proofs.Common.{◌≡◌, Bool, true, false, List, [], ◌∷◌, Option, Some, None, refl, sym, ap, subst, ◌∙◌, if◌then◌else◌, not}
use Rattle.satp_base.specs.Founding.{equal_names}
use Rattle.satp_base.specs.Roles.{negate}
use Rattle.satp_base.specs.declared.message.Body.{Body}
use Rattle.satp_base.specs.declared.message.Message.{Message}
use Rattle.satp_base.specs.declared.session.SessionId.{SessionId}
use Rattle.satp_chain.specs.Chained.{Chained, state_of, texts_in}
use Rattle.satp_log.specs.Folding.{IsStateOf, State}
use Rattle.satp_log.specs.Journals.{party_of}
use Rattle.satp_log.specs.Logged.{LogHolds, LogState}
use Rattle.satp_records.specs.declared.stored.Setup.{Setup}
use Rattle.satp_sides.specs.Calls as call
use Rattle.satp_sides.specs.Calls.{IsEntryOf, IsOwn, chain_of, first_refusal, is_misaddressed, is_named, is_strange, test}
use Rattle.satp_sides.specs.Points.{Party, Stored, Text, slot, slot_in}
use Rattle.satp_points.specs.Deciding.{RefusesAs}
use Rattle.satp_points.specs.declared.fault.Refused.TheVariants as refused
use Rattle.satp_decisions.specs.Tests.{address_refusal}

-- what its chain shows is the session's
pub state-is : (p : Party) (xs : List Stored) (s : SessionId) (state : State) (chain : Chained) → IsStateOf p s xs state → chain ≡ state.chain → state_of chain ≡ chain_of p s (slot_in s xs)
state-is p xs s state chain h e =
    let shown : state_of state.chain ≡ chain_of p s (Some (slot state.view (texts_in state.chain))) =
    λ i. record { session = h.session i; recipient = h.recipient i; tale = h.sound.tale i; texts = texts_in state.chain } in
    ap state_of e ∙ shown ∙ ap (chain_of p s) (sym h.slot)

-- what the records say of an own gateway
pub key-is : (log : LogState) (setup : Setup) (xs : List Stored) (t : Text) (m : Message) → LogHolds log setup xs → IsOwn log.setup.key t m → IsOwn (party_of setup).key t m
key-is log setup xs t m h own_text = subst (λ (x : Setup). IsOwn x.key t m) h.setup_is own_text

pub entry-key : (log : LogState) (setup : Setup) (xs : List Stored) (b : Body) (e : Option Message) → LogHolds log setup xs → IsEntryOf log.setup.key b e → IsEntryOf (party_of setup).key b e
entry-key log setup xs b e h of = subst (λ (x : Setup). IsEntryOf x.key b e) h.setup_is of

-- ---- the first two tests

not-negate : (b : Bool) → not b ≡ negate b
not-negate true = refl
not-negate false = refl

pub strange-own : (p : Party) (xs : List Stored) (s : SessionId) (own named : Bool) → own ≡ equal_names s.gateway p.name → own ≡ true → named ≡ is_named s xs → not named ≡ is_strange p xs s
strange-own p xs s own named e holds k =
    not-negate named ∙ ap negate k ∙ ap (λ b. if b then negate (is_named s xs) else negate (equal_names s.gateway p.peer)) (sym holds ∙ e)

-- two tests of equal things
pub same-test : (r b : Bool) → (r ≡ true → b ≡ true) → (b ≡ true → r ≡ true) → r ≡ b
same-test true b f g = sym (f refl)
same-test false true f g = g refl
same-test false false f g = refl

pub refuses-receiver : (p q : Party) (xs : List Stored) (m : Message) (b : Bool) → negate b ≡ is_misaddressed q m → q ≡ p → b ≡ false → RefusesAs (address_refusal p xs m) refused.Receiver
refuses-receiver p q xs m b e same fails =
    let holds : is_misaddressed p m ≡ true = ap (λ (x : Party). is_misaddressed x m) (sym same) ∙ sym e ∙ ap negate fails in
    (call.Receiver, ap (λ a. first_refusal (test a call.Receiver ∷ test (is_strange p xs m.session) (call.Strange m.session) ∷ [])) holds, refl)

pub refuses-strange : (p q : Party) (xs : List Stored) (m : Message) (b strange : Bool) → negate b ≡ is_misaddressed q m → q ≡ p → b ≡ true → strange ≡ is_strange p xs m.session → strange ≡ true → RefusesAs (address_refusal p xs m) (refused.Strange m.session)
refuses-strange p q xs m b strange e same holds k is =
    let fails : is_misaddressed p m ≡ false = ap (λ (x : Party). is_misaddressed x m) (sym same) ∙ sym e ∙ ap negate holds in
    (call.Strange m.session, ap (λ a. first_refusal (test a call.Receiver ∷ test (is_strange p xs m.session) (call.Strange m.session) ∷ [])) fails ∙ ap (λ a. first_refusal (test a (call.Strange m.session) ∷ [])) (sym k ∙ is), refl)

pub refuses-none : (p q : Party) (xs : List Stored) (m : Message) (b strange : Bool) → negate b ≡ is_misaddressed q m → q ≡ p → b ≡ true → strange ≡ is_strange p xs m.session → strange ≡ false → address_refusal p xs m ≡ None
refuses-none p q xs m b strange e same holds k is =
    let fails : is_misaddressed p m ≡ false = ap (λ (x : Party). is_misaddressed x m) (sym same) ∙ sym e ∙ ap negate holds in
    ap (λ a. first_refusal (test a call.Receiver ∷ test (is_strange p xs m.session) (call.Strange m.session) ∷ [])) fails ∙ ap (λ a. first_refusal (test a (call.Strange m.session) ∷ [])) (sym k ∙ is)
