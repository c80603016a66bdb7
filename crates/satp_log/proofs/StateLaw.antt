-- Which records come next, by the state of their session.
use Rattle.std.proofs.Common.{◌≡◌, ◌⊎◌, inl, inr, ℕ, false, List, [], ◌∷◌, ◌++◌, length, Option, Some, None, IsTrue, refl, sym, ap, ap₂, subst, ◌∙◌}
use Rattle.std.proofs.lemmas.List.{length-map}
use Rattle.satp_base.specs.Canonical.{kind_of, part_kind}
use Rattle.satp_base.specs.Chains.{made_part}
use Rattle.satp_base.specs.Forms.{IsPart, is_plain}
use Rattle.satp_base.specs.Roles.{RoleRule}
use Rattle.satp_base.specs.Signatures.{own}
use Rattle.satp_base.specs.Tales.{IsTale}
use Rattle.satp_base.specs.Verdicts.{ChainState, part_of}
use Rattle.satp_base.proofs.VerdictLemmas.{follows_message, next_follows}
use Rattle.satp_base.specs.declared.name.Name.{Name}
use Rattle.satp_base.specs.declared.message.Kind.{Kind}
use Rattle.satp_base.specs.declared.message.Kind.TheVariants.{TransferProposal, ProposalReceipt, TransferCommence, CommenceAck, LockAssert, LockReceipt, CommitPrepare, CommitReady, CommitFinal, CommitFinalAck, TransferComplete, Reject, Rollback, RollbackAck, Recover, RecoverUpdate, RecoverSuccess}
use Rattle.satp_base.specs.declared.record.Way.{Way}
use Rattle.satp_base.specs.declared.message.Message.{Message}
use Rattle.satp_base.specs.declared.record.Rec.{Rec}
use Rattle.satp_base.specs.declared.record.Rec.TheVariants.{Began, Took, Made, Did, Chose, Rescue}
use Rattle.satp_base.specs.declared.session.SessionId.{SessionId}
use Rattle.satp_base.specs.declared.view.View.{View}
use Rattle.satp_chain.specs.Chained.{Chained, next_signed, state_of, tale_of, texts_in}
use Rattle.satp_chain.specs.declared.signed.Signed.{Signed}
use Rattle.satp_sides.specs.Logs.{IsNote}
use Rattle.satp_sides.specs.Points.{Slot, recipient_at, slot}
use Rattle.satp_sides.proofs.LogLaw.{reached-tale}
use Rattle.satp_log.specs.Folding.{HasMessage, IsNextOf}
use Rattle.satp_log.specs.States.{AllowedFit, MadeAreNext, NotesAreNext, OneState, StatesGoOn, TakenAreNext, TextsAreTheRecords}
use Rattle.satp_log.proofs.Comings.{made-fits}
use Rattle.satp_log.proofs.ChainMore.{chain-more, formed-part, kind-part}
use Rattle.satp_log.proofs.Folds.{add-message, add-note, is-noted, message-follows, next-is, not-both, sound-message, sound-note, tale-fits}

same-slot : (a b : Slot) → Some a ≡ Some b → a ≡ b
same-slot a b e = cc e

pub one-state : OneState
one-state p s xs a b h k =
    let same = same-slot (slot a.view (texts_in a.chain)) (slot b.view (texts_in b.chain)) (sym h.slot ∙ k.slot) in
    let views = ap (λ (l : Slot). l.view) same in
    let texts = ap (λ (l : Slot). l.texts) same in
    let sessions = h.session ∙ sym k.session in
    let recipients = h.recipient ∙ ap (λ (v : View). recipient_at p v.role) views ∙ sym k.recipient in
    let tales = h.sound.tale ∙ ap (λ (v : View). v.tale) views ∙ sym k.sound.tale in
    let made : SessionId → Name → List Kind → List (List ℕ) → ChainState = λ x r t ts. record { session = x; recipient = r; tale = t; texts = ts } in (
      views,
      ap₂ (λ x r. made x r (tale_of a.chain) (texts_in a.chain)) sessions recipients ∙ ap₂ (λ t ts. made b.chain.session b.chain.recipient t ts) tales texts,
    )

pub texts-are : TextsAreTheRecords
texts-are p s xs state part h = next-is p s xs state p.key refl h part

note-has : (chain : Chained) (key : List ℕ) (r : Rec) → IsNote r → HasMessage chain key r [] None
note-has chain key (Began role terms) n = absurd n
note-has chain key (Took kind) n = absurd n
note-has chain key (Made kind) n = absurd n
note-has chain key (Did op) n = (tt, refl)
note-has chain key (Chose way) n = (tt, refl)
note-has chain key Rescue n = (tt, refl)

pub notes-next : NotesAreNext
notes-next state key r rule n = record { rule = rule; message_is = note-has state.chain key r n }

as-long : (chain : Chained) → length (tale_of chain) ≡ length (texts_in chain)
as-long chain = length-map chain.kept (λ (x : Signed). kind_of x.message.body) ∙ sym (length-map chain.kept (λ (x : Signed). x.text))

pub made-next : MadeAreNext
made-next state key part sound rule formed =
    let more = tale-fits state.view state.chain (part_kind part) sound (made-fits state.view (part_kind part) sound.reached rule).0 in
    let tale = subst IsTale (sym sound.tale) (reached-tale state.view.role state.view sound.reached) in
    record { rule = rule; message_is = (part, formed, refl, (refl, next_follows (state_of state.chain) part (next_signed state.chain key part).text (as-long state.chain) tale formed more, refl)) }

made-kind : (way : Option Way) (kind : Kind) → part_kind (made_part way kind) ≡ kind
made-kind way TransferProposal = refl
made-kind way ProposalReceipt = refl
made-kind way TransferCommence = refl
made-kind way CommenceAck = refl
made-kind way LockAssert = refl
made-kind way LockReceipt = refl
made-kind way CommitPrepare = refl
made-kind way CommitReady = refl
made-kind way CommitFinal = refl
made-kind way CommitFinalAck = refl
made-kind way TransferComplete = refl
made-kind way Reject = refl
made-kind way Rollback = refl
made-kind way RollbackAck = refl
made-kind way Recover = refl
made-kind way RecoverUpdate = refl
made-kind way RecoverSuccess = refl

no-part : (kind : Kind) (A : Type 0) → is_plain kind ≡ false → (kind ≡ Reject → ⊥) → IsTrue (is_plain kind) ⊎ (kind ≡ Reject) → A
no-part kind A f n h = elim h [ inl t ↦ absurd (not-both (is_plain kind) f t) | inr e ↦ absurd (n e) ]

made-formed : (way : Option Way) (kind : Kind) → IsTrue (is_plain kind) ⊎ (kind ≡ Reject) → IsPart (made_part way kind)
made-formed way TransferProposal h = no-part TransferProposal (IsPart (made_part way TransferProposal)) refl (λ e. cc e) h
made-formed way ProposalReceipt h = refl
made-formed way TransferCommence h = refl
made-formed way CommenceAck h = refl
made-formed way LockAssert h = refl
made-formed way LockReceipt h = refl
made-formed way CommitPrepare h = refl
made-formed way CommitReady h = refl
made-formed way CommitFinal h = refl
made-formed way CommitFinalAck h = refl
made-formed way TransferComplete h = refl
made-formed way Reject h = tt
made-formed way Rollback h = refl
made-formed way RollbackAck h = refl
made-formed way Recover h = no-part Recover (IsPart (made_part way Recover)) refl (λ e. cc e) h
made-formed way RecoverUpdate h = no-part RecoverUpdate (IsPart (made_part way RecoverUpdate)) refl (λ e. cc e) h
made-formed way RecoverSuccess h = no-part RecoverSuccess (IsPart (made_part way RecoverSuccess)) refl (λ e. cc e) h

pub allowed-fit : AllowedFit
allowed-fit state key way kind sound rule =
    let part = made_part way kind in
    let is = made-kind way kind in
    let fits = made-fits state.view kind sound.reached rule in
    let formed = made-formed way kind fits.1 in
    let next = made-next state key part sound (subst (λ k. RoleRule state.view.role state.view (Made k)) (sym is) rule) formed in
    record {
      kind_is = is;
      tale = subst (λ k. IsTale (tale_of state.chain ++ k ∷ [])) (sym is) (tale-fits state.view state.chain kind sound fits.0);
      formed = formed;
      next = subst (λ k. IsNextOf state key (Made k) (Some (next_signed state.chain key part))) is next;
    }

pub taken-next : TakenAreNext
taken-next state key signed rule follows text =
    let part = part_of signed.message.body in
    let message = follows_message (state_of state.chain) signed.message signed.text follows in
    let is : signed ≡ next_signed state.chain key part = ap₂ (λ (m : Message) (t : List ℕ). record { message = m; text = t }) message (text ∙ ap (own key) message) in
    record { rule = rule; message_is = (part, formed-part signed.message.body follows.of_session.formed follows.of_session.body, kind-part signed.message.body, (is, follows, refl)) }

-- ---- one record more

pub states-go-on : StatesGoOn
states-go-on p s xs state r None h n =
    let has = n.message_is in
    add-note p s xs state p.key refl h r [] n.rule has (sound-note state.view state.chain r h.sound n.rule (is-noted state.chain p.key r [] has).0)
states-go-on p s xs state r (Some signed) h n =
    let has = n.message_is in
    let follows = message-follows state.chain p.key r signed.text signed has in
    add-message p s xs state p.key refl h r signed.text signed n.rule has (sound-message state.view state.chain p.key r signed.text signed h.sound n.rule has) (λ k chain text. chain-more state.chain signed k follows chain text)
