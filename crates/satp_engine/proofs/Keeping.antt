-- What a gateway keeps: which records these are, and which may come next.
use Rattle.std.proofs.Common.{◌≡◌, ℕ, Bool, List, [], Option, Some, None, sym, ap, subst, ◌∙◌}
use Rattle.satp_base.specs.Chains.{next_text}
use Rattle.satp_base.specs.Format.{IsPayload}
use Rattle.satp_base.specs.Roles.{RoleRule}
use Rattle.satp_base.specs.declared.message.Kind.{Kind}
use Rattle.satp_base.specs.declared.message.Part.{Part}
use Rattle.satp_base.specs.declared.record.Rec.{Rec}
use Rattle.satp_base.specs.declared.record.Rec.TheVariants.{Began, Took, Made, Did, Chose, Rescue}
use Rattle.satp_base.specs.declared.session.SessionId.{SessionId}
use Rattle.satp_chain.specs.Chained.{next_signed, texts_in}
use Rattle.satp_chain.specs.declared.signed.Signed.{Signed}
use Rattle.satp_journal.specs.State.{Held}
use Rattle.satp_log.specs.Folding.{HasMessage, IsNextOf, IsStateOf, State, text_with}
use Rattle.satp_log.specs.Journals.{IsJournal, party_of, payload_in}
use Rattle.satp_log.specs.Logged.{IsComing}
use Rattle.satp_log.proofs.Folds.{slot-parts}
use Rattle.satp_log.proofs.JournalLemmas.{formed-record, one-journal}
use Rattle.satp_log.proofs.Places.{found-in}
use Rattle.satp_log.proofs.StateLaw.{texts-are}
use Rattle.satp_records.specs.declared.stored.Setup.{Setup}
use Rattle.satp_records.specs.declared.stored.Stored.TheVariants as journaled
use Rattle.satp_records.proofs.Payloads.{payloads_fit}
use Rattle.satp_sides.specs.Logs.{IsNote, MayCome}
use Rattle.satp_sides.specs.Logs.MayCome.{Makes, Notes, Takes}
use Rattle.satp_sides.specs.Points.{Party, Stored, chain_in, recipient_at, stored, view_in}
use Rattle.satp_points.specs.States.{Holds}
use Rattle.satp_engine.specs.Working.{Keeps, KeepsSome}
use Rattle.satp_engine.specs.declared.records.Records.{Records}

-- ---- a record that comes next may come

module _ (p : Party) (s : SessionId) (xs : List Stored) (state : State) (h : IsStateOf p s xs state) where
  named : view_in s xs ≡ Some state.view
  named = (slot-parts (view_in s xs) (chain_in s xs) state.view (texts_in state.chain) h.slot).0

  abbrev Comes : Rec → List ℕ → Type 0
  Comes r text = MayCome p xs (stored s r text)

  -- the text of the message is the next one of the records
  text-is : (kind : Kind) (signed : Signed) (part : Part) → signed ≡ next_signed state.chain p.key part → next_text s (recipient_at p state.view.role) p.key (chain_in s xs) part ≡ signed.text
  text-is kind signed part same = sym (ap (λ (x : Signed). x.text) same ∙ texts-are p s xs state part h)

  message-comes : (r : Rec) (signed : Signed) → RoleRule state.view.role state.view r → HasMessage state.chain p.key r signed.text (Some signed) → Comes r signed.text
  message-comes (Began role terms) signed rule m = absurd m
  message-comes (Took kind) signed rule (part, formed, is, (same, follows, text)) =
      subst (Comes (Took kind)) (text-is kind signed part same)
      (subst (λ k. Comes (Took k) (next_text s (recipient_at p state.view.role) p.key (chain_in s xs) part)) is
      (Takes s state.view part named (subst (λ k. RoleRule state.view.role state.view (Took k)) (sym is) rule) formed))
  message-comes (Made kind) signed rule (part, formed, is, (same, follows, text)) =
      subst (Comes (Made kind)) (text-is kind signed part same)
      (subst (λ k. Comes (Made k) (next_text s (recipient_at p state.view.role) p.key (chain_in s xs) part)) is
      (Makes s state.view part named (subst (λ k. RoleRule state.view.role state.view (Made k)) (sym is) rule) formed))
  message-comes (Did op) signed rule m = absurd m
  message-comes (Chose way) signed rule m = absurd m
  message-comes Rescue signed rule m = absurd m

  is-note : (r : Rec) → HasMessage state.chain p.key r [] None → IsNote r
  is-note (Began role terms) m = absurd m.0
  is-note (Took kind) m = absurd m.0
  is-note (Made kind) m = absurd m.0
  is-note (Did op) m = tt
  is-note (Chose way) m = tt
  is-note Rescue m = tt

  next-comes : (r : Rec) (message : Option Signed) → IsNextOf state p.key r message → Comes r (text_with message)
  next-comes r (Some signed) n = message-comes r signed n.rule n.message_is
  next-comes r None n = Notes s state.view r named n.rule (is-note r n.message_is)

-- the record that comes next may come
pub coming-may : (r : Records) (setup : Setup) (xs : List Stored) (s : SessionId) (rec : Rec) (message : Option Signed) → Keeps r setup xs → IsComing r.log s rec message → MayCome (party_of setup) xs (stored s rec (text_with message))
coming-may r setup xs s rec message k c =
    let found = found-in r.log setup xs s (Some c.state) (sym c.there) k.log in
    next-comes (party_of setup) s xs c.state found rec message (subst (λ (x : Setup). IsNextOf c.state x.key rec message) k.log.setup_is c.next)

-- and its payload is one of a journal
pub payload-fits : (payloads : List (List ℕ)) (setup : Setup) (xs : List Stored) (x : Stored) (payload : List ℕ) → IsJournal payloads setup xs → MayCome (party_of setup) xs x → payload ≡ payload_in x → IsPayload payload
payload-fits payloads setup xs x payload j may is = subst IsPayload (sym is) (payloads_fit (journaled.Session x.session x.rec x.text) (formed-record (party_of setup) xs x j.log may))

-- ---- one gateway, with one list of records

-- a gateway that holds records keeps them
pub holding-keeps : (r : Records) (setup : Setup) (xs : List Stored) → KeepsSome r → Holds r.journal.held setup xs → Keeps r setup xs
unfolding Holds
holding-keeps r setup xs k h =
    let same = one-journal r.journal.held.payloads r.log.setup setup k.0 xs k.1.journal h in
    subst (λ (ys : List Stored). Keeps r setup ys) same.1 (subst (λ (x : Setup). Keeps r x k.0) same.0 k.1)

pub keeping-holds : (r : Records) (setup : Setup) (xs : List Stored) → Keeps r setup xs → Holds r.journal.held setup xs
unfolding Holds
keeping-holds r setup xs k = k.journal

-- ---- a register

-- as its callers see it
abbrev pub seen : Records → Bool → Held
seen r broken = record { area = r.journal.held.area; payloads = r.journal.held.payloads; broken = broken }

pub held-keeps : (r : Records) (broken : Bool) (g : Held) (setup : Setup) (xs : List Stored) → seen r broken ≡ g → KeepsSome r → Holds g setup xs → Keeps r setup xs
unfolding Holds
held-keeps r broken g setup xs is k h = holding-keeps r setup xs k (subst (λ (x : Held). IsJournal x.payloads setup xs) (sym is) h)

pub held-some : (r : Records) (broken : Bool) (g : Held) → seen r broken ≡ g → KeepsSome r → (setup : Setup) × (xs : List Stored) × Holds g setup xs
unfolding Holds
held-some r broken g is k = (r.log.setup, k.0, subst (λ (x : Held). IsJournal x.payloads r.log.setup k.0) is k.1.journal)
