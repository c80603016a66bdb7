-- What a call stores first is what the decision says.
use Rattle.std.proofs.Common.{◌≡◌, ◌<◌, ◌≤◌, ℕ, List, [], ◌∷◌, map, Option, Some, None, Result, Ok, Err, refl, sym, ap, subst, ◌∙◌}
use Rattle.std.specs.Prelude.{IfOk, OnOk, slice_get}
use Rattle.satp_base.specs.Canonical.{kind_of}
use Rattle.satp_base.specs.declared.message.Role.{Role}
use Rattle.satp_base.specs.declared.message.Role.TheVariants.{Origin, Recipient}
use Rattle.satp_base.specs.declared.message.Terms.{Terms}
use Rattle.satp_base.specs.declared.record.Rec.{Rec}
use Rattle.satp_base.specs.declared.record.Rec.TheVariants.{Began, Took}
use Rattle.satp_base.specs.declared.session.SessionId.{SessionId}
use Rattle.satp_chain.specs.Chained.{Chained, entry_at, texts_in}
use Rattle.satp_chain.specs.declared.signed.Signed.{Signed}
use Rattle.satp_log.specs.Folding.{IsProposed, IsStateOf, State, proposal_text, state_with, text_with}
use Rattle.satp_log.specs.Journals.{party_of, payload_in}
use Rattle.satp_log.specs.Logged.{IsComing, LogState, count_of, state_in, with_spare}
use Rattle.satp_log.proofs.Comings.{comes}
use Rattle.satp_log.proofs.Folds.{slot-parts}
use Rattle.satp_log.proofs.Places.{found-in}
use Rattle.satp_records.specs.Formats.{IsFormedRec}
use Rattle.satp_sides.specs.Points.{Party, Stored, begun, most_sessions, records_of, stored, view_in, chain_in}
use Rattle.satp_sides.proofs.Records.{view-none}
use Rattle.satp_points.specs.Decisions.{FirstMayCome, first_of}
use Rattle.satp_points.specs.declared.decision.First.{First}
use Rattle.satp_points.specs.declared.decision.First.TheVariants as first
use Rattle.satp_engine.specs.Starting.{IsBeginning, IsNew, IsRecordStart, IsSessionStart, StartFits, Starts}
use Rattle.satp_engine.specs.Working.{HasState, KeepsSome}
use Rattle.satp_engine.specs.declared.records.Records.{Records}
use Rattle.satp_engine.specs.declared.start.Start.{Start}
use Rattle.satp_engine.specs.declared.start.Start.TheVariants as start
use Rattle.satp_engine.proofs.Firsts.{may-formed, named-state, note-coming, slot-named, taken-coming}

pub ok-then : {T E : Type 0} (result : Result T E) (P Q : T → Type 0) → ((x : T) → P x → Q x) → IfOk result P → IfOk result Q
ok-then (Ok x) P Q f h = f x h
ok-then (Err e) P Q f h = tt

pub record-starts : (log : LogState) (s : SessionId) (first : First) (rec : Rec) (message : Option Signed) → IsComing log s rec message → first_of (party_of log.setup) s first ≡ stored s rec (text_with message) ∷ []
    → (x : Start) → IsRecordStart s rec message x → Starts log s first x
record-starts log s first rec message coming is x (payload, start_is, payload_is) =
    subst (Starts log s first) (sym start_is) ((state_with coming.state rec message, (coming, refl, payload_is)), sym is)

pub session-starts : (log : LogState) (s : SessionId) (first : First) (role : Role) (terms : Terms) → first_of (party_of log.setup) s first ≡ stored s (Began role terms) (proposal_text (party_of log.setup) s role terms) ∷ []
    → (x : Start) → IsSessionStart log s role terms x → Starts log s first x
session-starts log s first role terms is x (state, payload, start_is, begins) =
    subst (Starts log s first) (sym start_is) ((state, (begins, refl)), sym is)

-- what the log has of a session, records name
unnamed-state : (p : Party) (s : SessionId) (xs : List Stored) (state : State) → IsStateOf p s xs state → view_in s xs ≡ None → ⊥
unnamed-state p s xs state h e = let both = sym e ∙ (slot-parts (view_in s xs) (chain_in s xs) state.view (texts_in state.chain) h.slot).0 in cc both

module _ (r : Records) (s : SessionId) (k : KeepsSome r) where
  abbrev p : Party
  p = party_of r.log.setup

  pub nothing-starts : FirstMayCome p s k.0 first.Nothing → Starts r.log s first.Nothing start.Nothing
  nothing-starts (l, named) = let h = named-state r s r.log.setup k.0 l.view k.1 (slot-named s k.0 l named) in ((h.state, h.there), refl)

  pub note-formed : (rec : Rec) → FirstMayCome p s k.0 (first.Note rec) → IsFormedRec rec []
  note-formed rec (n, m) = may-formed r r.log.setup k.0 (stored s rec []) k.1 m

  pub note-starts : (rec : Rec) → FirstMayCome p s k.0 (first.Note rec) → (x : Start) → IsRecordStart s rec None x → Starts r.log s (first.Note rec) x
  note-starts rec (n, m) = record-starts r.log s (first.Note rec) rec None (note-coming r s r.log.setup k.0 rec k.1 n m) refl

  pub taken-formed : (signed : Signed) → FirstMayCome p s k.0 (first.Takes signed) → IsFormedRec (Took (kind_of signed.message.body)) signed.text
  taken-formed signed (own, m) = may-formed r r.log.setup k.0 (stored s (Took (kind_of signed.message.body)) signed.text) k.1 m

  pub taken-starts : (signed : Signed) → FirstMayCome p s k.0 (first.Takes signed) → (x : Start) → IsRecordStart s (Took (kind_of signed.message.body)) (Some signed) x → Starts r.log s (first.Takes signed) x
  taken-starts signed (own, m) = record-starts r.log s (first.Takes signed) (Took (kind_of signed.message.body)) (Some signed) (taken-coming r s r.log.setup k.0 signed k.1 own m) refl

  pub begins-formed : (role : Role) (terms : Terms) → FirstMayCome p s k.0 (first.Begins role terms) → IsFormedRec (Began role terms) (proposal_text p s role terms)
  begins-formed role terms m = may-formed r r.log.setup k.0 (stored s (Began role terms) (proposal_text p s role terms)) k.1 m

  no-state : records_of s k.0 ≡ [] → state_in s r.log.entries ≡ None
  no-state new = by (state_in s r.log.entries) refl
    where
      by : (o : Option State) → state_in s r.log.entries ≡ o → state_in s r.log.entries ≡ None
      by None e = e
      by (Some state) e = absurd (unnamed-state p s k.0 state (found-in r.log r.log.setup k.0 s (Some state) (sym e) k.1.log) (view-none s k.0 new))

  pub begins-new : (role : Role) (terms : Terms) → FirstMayCome p s k.0 (first.Begins role terms) → IsNew r.log s role
  begins-new role terms m =
      let c = comes p k.0 (stored s (Began role terms) (proposal_text p s role terms)) m in
      record { new = no-state c.new; count = count role c.room; role_is = c.whose }
    where
      count : (role : Role) → begun role k.0 < most_sessions → count_of role r.log < most_sessions
      count Origin h = subst (λ n. n < most_sessions) (sym k.1.log.started) h
      count Recipient h = subst (λ n. n < most_sessions) (sym k.1.log.accepted) h

-- ---- what was stored first

pub on-ok-then : {T E : Type 0} (result : Result T E) (P Q : Type 0) → (P → Q) → OnOk result P → OnOk result Q
on-ok-then (Ok x) P Q f h = f h
on-ok-then (Err e) P Q f h = tt

pub record-stored : (old new : LogState) (s : SessionId) (rec : Rec) (message : Option Signed) (payload : List ℕ) → ((state : State) → HasState old s state → HasState new s (state_with state rec message))
    → (after : State) → StartFits old s (start.Record rec message payload) after → HasState new s after
record-stored old new s rec message payload more after (coming, is, payload_is) = subst (HasState new s) (sym is) (more coming.state coming.there)

-- ---- a session that begins

-- the one text of a chain is that of its first message
first-of : (kept : List Signed) (t : List ℕ) → map (λ (x : Signed). x.text) kept ≡ t ∷ [] → (signed : Signed) × (slice_get kept 0 ≡ Some signed) × (signed.text ≡ t)
first-of [] t e = absurd (cc e)
first-of (x ∷ xs) t e = (x, refl, cc)

pub first-entry : (chain : Chained) (t : List ℕ) (o : Option Signed) → texts_in chain ≡ t ∷ [] → o ≡ entry_at chain 1 → (signed : Signed) × (o ≡ Some signed) × (signed.text ≡ t)
first-entry chain t o texts e = let (signed, is, text) = first-of chain.kept t texts in (signed, e ∙ is, text)

pub begins-at : (old new : LogState) (s : SessionId) (role : Role) (terms : Terms) (state : State) (payload : List ℕ) → new ≡ with_spare old new.spare → 1 ≤ new.spare → IsNew old s role → IsProposed (party_of old.setup) s role terms state
    → payload ≡ payload_in (stored s (Began role terms) (proposal_text (party_of old.setup) s role terms)) → IsBeginning new s role terms state payload
begins-at old new s role terms state payload is room new_is proposed payload_is =
    subst (λ (log : LogState). IsBeginning log s role terms state payload) (sym is)
    (record { room = room; new = new_is.new; proposed = proposed; count = same-count role new_is.count; role_is = new_is.role_is; payload_is = payload_is })
  where
    same-count : (role : Role) → count_of role old < most_sessions → count_of role (with_spare old new.spare) < most_sessions
    same-count Origin h = h
    same-count Recipient h = h

some-signed : (a b : Signed) → Some a ≡ Some b → a ≡ b
some-signed a b e = cc e

pub entry-text : (chain : Chained) (t : List ℕ) (signed : Signed) → texts_in chain ≡ t ∷ [] → Some signed ≡ entry_at chain 1 → signed.text ≡ t
entry-text chain t signed texts e = let (x, is, text) = first-entry chain t (Some signed) texts e in ap (λ (y : Signed). y.text) (some-signed signed x is) ∙ text

none-signed : (a : Signed) → None ≡ Some a → ⊥
none-signed a e = cc e

pub no-entry : (chain : Chained) (t : List ℕ) → texts_in chain ≡ t ∷ [] → None ≡ entry_at chain 1 → ⊥
no-entry chain t texts e = let (x, is, text) = first-entry chain t None texts e in none-signed x is
