-- The first record of a call, from the records that it may come after.
use Rattle.std.proofs.Common.{◌≡◌, List, [], ◌∷◌, ◌++◌, length, Option, Some, None, option_map, refl, sym, ap, subst, ◌∙◌}
use Rattle.std.proofs.lemmas.List.{length-map}
use Rattle.satp_base.specs.Canonical.{kind_of}
use Rattle.satp_base.specs.Chains.{next_text}
use Rattle.satp_base.specs.Roles.{RoleRule}
use Rattle.satp_base.specs.Signatures.{own}
use Rattle.satp_base.specs.Tales.{IsTale}
use Rattle.satp_base.specs.Verdicts.{IsNextOn, next_message}
use Rattle.satp_base.specs.declared.message.Message.{Message}
use Rattle.satp_base.specs.declared.record.Rec.{Rec}
use Rattle.satp_base.specs.declared.record.Rec.TheVariants.{Began, Took, Made, Did, Chose, Rescue}
use Rattle.satp_base.specs.declared.session.SessionId.{SessionId}
use Rattle.satp_base.specs.declared.view.View.{View}
use Rattle.satp_base.proofs.ChainLemmas.{link_at_formed}
use Rattle.satp_base.proofs.SignatureLemmas.{own_shows}
use Rattle.satp_base.proofs.VerdictLemmas.{next_follows}
use Rattle.satp_chain.specs.Chained.{Chained, next_signed, state_of, tale_of, texts_in}
use Rattle.satp_chain.specs.Verdicts.{Follows}
use Rattle.satp_chain.specs.declared.signed.Signed.{Signed}
use Rattle.satp_log.specs.Folding.{IsStateOf, State}
use Rattle.satp_log.specs.Journals.{party_of}
use Rattle.satp_log.specs.Logged.{IsComing, state_in}
use Rattle.satp_log.proofs.Comings.{comes, took-fits}
use Rattle.satp_log.proofs.Folds.{slot-parts, tale-fits}
use Rattle.satp_log.proofs.JournalLemmas.{formed-record}
use Rattle.satp_log.proofs.Places.{found-in}
use Rattle.satp_log.proofs.StateLaw.{notes-next, taken-next, texts-are}
use Rattle.satp_records.specs.Formats.{IsFormedRec}
use Rattle.satp_records.specs.declared.stored.Setup.{Setup}
use Rattle.satp_sides.specs.Calls.{IsOwn}
use Rattle.satp_sides.specs.Logs.{IsNote, MayCome}
use Rattle.satp_sides.specs.Points.{Party, Slot, Stored, Text, chain_in, recipient_at, slot, slot_in, stored, view_in}
use Rattle.satp_sides.proofs.LogLaw.{reached-tale}
use Rattle.satp_engine.specs.Working.{HasState, Keeps}
use Rattle.satp_engine.specs.declared.records.Records.{Records}

-- ---- the session that records name

some-view : (v w : View) → Some v ≡ Some w → v ≡ w
some-view v w e = cc e

none-view : (v : View) → None ≡ Some v → ⊥
none-view v e = cc e

view-none : (o : Option View) (texts : List Text) → option_map (λ v. slot v texts) o ≡ None → o ≡ None
view-none None texts e = refl
view-none (Some v) texts e = absurd (cc e)

-- the log has it
pub record Named (r : Records) (s : SessionId) (setup : Setup) (xs : List Stored) (v : View) : Type 0 where
  pub state : State
  pub there : HasState r.log s state
  pub of : IsStateOf (party_of setup) s xs state
  pub view_is : state.view ≡ v

pub named-state : (r : Records) (s : SessionId) (setup : Setup) (xs : List Stored) (v : View) → Keeps r setup xs → view_in s xs ≡ Some v → Named r s setup xs v
named-state r s setup xs v k named = by (state_in s r.log.entries) refl
  where
    by : (o : Option State) → state_in s r.log.entries ≡ o → Named r s setup xs v
    by None e = absurd (none-view v (sym (view-none (view_in s xs) (chain_in s xs) (found-in r.log setup xs s None (sym e) k.log)) ∙ named))
    by (Some state) e =
        let of = found-in r.log setup xs s (Some state) (sym e) k.log in
        let view = (slot-parts (view_in s xs) (chain_in s xs) state.view (texts_in state.chain) of.slot).0 in
        record { state = state; there = e; of = of; view_is = some-view state.view v (sym view ∙ named) }

named-slot : (o : Option View) (texts : List Text) (l : Slot) → option_map (λ v. slot v texts) o ≡ Some l → o ≡ Some l.view
named-slot None texts l e = absurd (cc e)
named-slot (Some v) texts l e = let same : slot v texts ≡ l = cc e in ap (λ (x : Slot). Some x.view) same

pub slot-named : (s : SessionId) (xs : List Stored) (l : Slot) → slot_in s xs ≡ Some l → view_in s xs ≡ Some l.view
slot-named s xs l e = named-slot (view_in s xs) (chain_in s xs) l e

-- ---- a record without a message

noted-rule : (p : Party) (xs : List Stored) (s : SessionId) (rec : Rec) → IsNote rec → MayCome p xs (stored s rec []) → (v : View) × (view_in s xs ≡ Some v) × RoleRule v.role v rec
noted-rule p xs s (Began role terms) n m = absurd n
noted-rule p xs s (Took kind) n m = absurd n
noted-rule p xs s (Made kind) n m = absurd n
noted-rule p xs s (Did op) n m = let c = comes p xs (stored s (Did op) []) m in (c.view, c.named, c.rule)
noted-rule p xs s (Chose way) n m = let c = comes p xs (stored s (Chose way) []) m in (c.view, c.named, c.rule)
noted-rule p xs s Rescue n m = let c = comes p xs (stored s Rescue []) m in (c.view, c.named, c.rule)

pub note-coming : (r : Records) (s : SessionId) (setup : Setup) (xs : List Stored) (rec : Rec) → Keeps r setup xs → IsNote rec → MayCome (party_of setup) xs (stored s rec []) → IsComing r.log s rec None
note-coming r s setup xs rec k n m =
    let (v, named, rule) = noted-rule (party_of setup) xs s rec n m in
    let h = named-state r s setup xs v k named in
    record { state = h.state; there = h.there; next = notes-next h.state r.log.setup.key rec (subst (λ (w : View). RoleRule w.role w rec) (sym h.view_is) rule) n }

-- ---- a message of the peer

as-long : (chain : Chained) → length (tale_of chain) ≡ length (texts_in chain)
as-long chain = length-map chain.kept (λ (x : Signed). kind_of x.message.body) ∙ sym (length-map chain.kept (λ (x : Signed). x.text))

pub taken-coming : (r : Records) (s : SessionId) (setup : Setup) (xs : List Stored) (signed : Signed) → Keeps r setup xs → IsOwn setup.key signed.text signed.message
    → MayCome (party_of setup) xs (stored s (Took (kind_of signed.message.body)) signed.text) → IsComing r.log s (Took (kind_of signed.message.body)) (Some signed)
taken-coming r s setup xs signed k (formed, text) m =
    let kind = kind_of signed.message.body in
    let c = comes (party_of setup) xs (stored s (Took kind) signed.text) m in
    let h = named-state r s setup xs c.view k c.named in
    let state = h.state in
    let rule = subst (λ (w : View). RoleRule w.role w (Took kind)) (sym h.view_is) c.rule in
    let fits = tale-fits state.view state.chain kind h.of.sound (took-fits state.view kind h.of.sound.reached rule).0 in
    let tale = subst IsTale (sym h.of.sound.tale) (reached-tale state.view.role state.view h.of.sound.reached) in
    let next = next_signed state.chain setup.key c.part in
    let follows = next_follows (state_of state.chain) c.part signed.text (as-long state.chain) tale c.formed (subst (λ j. IsTale (tale_of state.chain ++ j ∷ [])) (sym c.kind_is) fits) in
    let same = c.text_is ∙ ap (λ (w : View). next_text s (recipient_at (party_of setup) w.role) setup.key (chain_in s xs) c.part) (sym h.view_is) ∙ sym (texts-are (party_of setup) s xs state c.part h.of) in
    let one : signed.message ≡ next_message (state_of state.chain) c.part = own_shows setup.key setup.key signed.message (next_message (state_of state.chain) c.part) formed (follows.of_session.formed, link_at_formed (texts_in state.chain) (length (texts_in state.chain))) (sym text ∙ same) in
    let on : Follows state.chain signed = subst (λ (x : Message). IsNextOn (state_of state.chain) x signed.text) (sym one) follows in
    record { state = state; there = h.there; next = taken-next state r.log.setup.key signed rule on (text ∙ ap (λ (x : Setup). own x.key signed.message) (sym k.log.setup_is)) }

-- ---- payloads

pub may-formed : (r : Records) (setup : Setup) (xs : List Stored) (x : Stored) → Keeps r setup xs → MayCome (party_of setup) xs x → IsFormedRec x.rec x.text
may-formed r setup xs x k m = formed-record (party_of setup) xs x k.journal.log m
