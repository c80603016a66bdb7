-- What carrying out a decision to work comes to, from what its parts did.
use Rattle.std.proofs.Common.{◌≡◌, ℕ, true, List, [], ◌∷◌, ◌++◌, map, length, Option, Some, None, Result, Ok, Err, refl, sym, ap, ap₂, subst, ◌∙◌}
use Rattle.std.proofs.lemmas.List.{append-nil, map-append}
use Rattle.satp_base.specs.Calls.{Told}
use Rattle.satp_base.specs.Money.{Book}
use Rattle.satp_base.specs.Views.{push}
use Rattle.satp_base.specs.declared.record.Rec.{Rec}
use Rattle.satp_base.specs.declared.record.Rec.TheVariants.{Began, Took, Made, Did, Chose, Rescue}
use Rattle.satp_base.specs.declared.session.SessionId.{SessionId}
use Rattle.satp_base.specs.declared.site.SiteFault.{SiteFault}
use Rattle.satp_base.specs.declared.view.View.{View}
use Rattle.satp_chain.specs.Chained.{Chained, IsChain, texts_in}
use Rattle.satp_chain.specs.declared.signed.Signed.{Signed}
use Rattle.satp_log.specs.Folding.{HasMessage, State, proposal_text, state_with, text_with}
use Rattle.satp_log.specs.Journals.{party_of}
use Rattle.satp_log.specs.Logged.{LogState}
use Rattle.satp_log.proofs.Comings.{comes}
use Rattle.satp_log.proofs.Places.{found-in}
use Rattle.satp_records.specs.declared.stored.Setup.{Setup}
use Rattle.satp_sides.specs.Calls.{recover_text, update_text}
use Rattle.satp_sides.specs.Due.{Due, due, due_within, most_turns}
use Rattle.satp_sides.specs.Points.{Appends, Party, Side, Slot, Stored, Text, moved_by, noted, slot, slot_in, stored}
use Rattle.satp_stops.specs.Stops.{told_steps}
use Rattle.satp_points.specs.Answers.{Breaks, Goes}
use Rattle.satp_points.specs.Deciding.{IsWritten}
use Rattle.satp_points.specs.Decisions.{first_of, reply_by}
use Rattle.satp_points.specs.States.{IsAt, Tells, area_of, kept_of, steps_of}
use Rattle.satp_points.specs.declared.decision.First.{First}
use Rattle.satp_points.specs.declared.decision.Replying.{Replying}
use Rattle.satp_points.specs.declared.decision.Replying.TheVariants as replying
use Rattle.satp_point_laws.proofs.Slots.{slot-first, slot-more}
use Rattle.satp_point_laws.proofs.Working.{first-breaks, run-goes, run-unsaid, work-breaks}
use Rattle.satp_engine.specs.Carrying.{ExecuteAnswers, Executed, IsStanding, RunsBroke}
use Rattle.satp_engine.specs.Starting.{StartFits, start_records}
use Rattle.satp_engine.specs.Turning.{DueBroke, WorkAnswers, WorkDone, Worked}
use Rattle.satp_engine.specs.Working.{Fails, HasState, Keeps, KeepsSome, Makes, shut, slot_of}
use Rattle.satp_engine.specs.declared.records.Records.{Records}
use Rattle.satp_engine.specs.declared.start.Start.{Start}
use Rattle.satp_engine.specs.declared.start.Start.TheVariants as start
use Rattle.satp_engine.proofs.Beginning.{beginning-may}
use Rattle.satp_engine.proofs.Keeping.{holding-keeps}
use Rattle.satp_engine.proofs.Looping.{same-state}
use Rattle.satp_engine.proofs.Turns.{note-texts}

-- ---- the session after what is stored first, as the records have it

message-slot : (s : SessionId) (state : State) (key : List ℕ) (r : Rec) (signed : Signed) → HasMessage state.chain key r signed.text (Some signed) → noted (slot_of state) s r signed.text ≡ slot_of (state_with state r (Some signed))
message-slot s state key (Began role terms) signed h = absurd h
message-slot s state key (Took kind) signed h = ap (slot (push state.view (Took kind))) (sym (map-append (λ (x : Signed). x.text) state.chain.kept (signed ∷ [])))
message-slot s state key (Made kind) signed h = ap (slot (push state.view (Made kind))) (sym (map-append (λ (x : Signed). x.text) state.chain.kept (signed ∷ [])))
message-slot s state key (Did op) signed h = absurd h
message-slot s state key (Chose way) signed h = absurd h
message-slot s state key Rescue signed h = absurd h

noted-by : (s : SessionId) (state : State) (key : List ℕ) (r : Rec) → HasMessage state.chain key r [] None → noted (slot_of state) s r [] ≡ slot_of (state_with state r None)
noted-by s state key (Began role terms) h = absurd h.0
noted-by s state key (Took kind) h = absurd h.0
noted-by s state key (Made kind) h = absurd h.0
noted-by s state key (Did op) h = note-texts s (slot_of state) (Did op) tt
noted-by s state key (Chose way) h = note-texts s (slot_of state) (Chose way) tt
noted-by s state key Rescue h = note-texts s (slot_of state) Rescue tt

slot-with : (s : SessionId) (state : State) (key : List ℕ) (r : Rec) (message : Option Signed) → HasMessage state.chain key r (text_with message) message → noted (slot_of state) s r (text_with message) ≡ slot_of (state_with state r message)
slot-with s state key r None h = noted-by s state key r h
slot-with s state key r (Some signed) h = message-slot s state key r signed h

pub start-slot : (r : Records) (setup : Setup) (xs : List Stored) (s : SessionId) → Keeps r setup xs → (x : Start) (after : State) → StartFits r.log s x after
    → slot_in s (xs ++ start_records (party_of r.log.setup) s x) ≡ Some (slot_of after)
start-slot r setup xs s k start.Nothing after there = ap (slot_in s) (append-nil xs) ∙ (found-in r.log setup xs s (Some after) (sym there) k.log).slot
start-slot r setup xs s k (start.Record rec message payload) after (coming, is, p) =
    let found = found-in r.log setup xs s (Some coming.state) (sym coming.there) k.log in
    slot-more s xs (slot_of coming.state) rec (text_with message) found.slot
    ∙ ap (λ (l : Slot). Some l) (slot-with s coming.state r.log.setup.key rec message coming.next.message_is)
    ∙ ap (λ (x : State). Some (slot_of x)) (sym is)
start-slot r setup xs s k (start.Session role terms state payload) after (begins, is) =
    let text = proposal_text (party_of r.log.setup) s role terms in
    let may = beginning-may r s role terms state payload begins setup xs k in
    let new = (comes (party_of setup) xs (stored s (Began role terms) text) may).new in
    slot-first s xs role terms text new
    ∙ sym (ap₂ (λ (v : View) (ts : List Text). Some (slot v ts)) begins.proposed.view begins.proposed.texts)
    ∙ ap (λ (x : State). Some (slot_of x)) (sym is)

-- there is one session after it
pub one-after : (log : LogState) (s : SessionId) (x : Start) (a b : State) → StartFits log s x a → StartFits log s x b → a ≡ b
one-after log s start.Nothing a b h g = same-state log s a b h g
one-after log s (start.Record rec message payload) a b (c, is, p) (d, e, q) =
    is ∙ ap (λ (x : State). state_with x rec message) (same-state log s c.state d.state c.there d.there) ∙ sym e
one-after log s (start.Session role terms state payload) a b (h, is) (g, e) = is ∙ sym e

-- ---- records alone leave the ledger as it is

appends-book : (side : Side) (xs : List Stored) → (moved_by side (map Appends xs)).book ≡ side.book
appends-book side [] = refl
appends-book side (x ∷ xs) = appends-book (record { records = side.records ++ x ∷ []; book = side.book }) xs

due-is : (p : Party) (s : SessionId) (l : Slot) (b : Book) → due_within most_turns p s l b ≡ due p s l b
unfolding due
due-is p s l b = refl

-- ---- the first record and the due work

module _ (s : SessionId) (x : Start) (old : Records) (before : Tells) (after : State) (fits : StartFits old.log s x after) (kept : KeepsSome old) where
  module _ (first : First) (setup : Setup) (side : Side) (t : Told) (is : start_records (party_of old.log.setup) s x ≡ first_of (party_of old.log.setup) s first) (at : IsAt old.journal.held before setup side t) where
    keeps : Keeps old setup side.records
    keeps = holding-keeps old setup side.records kept at.holds

    records-are : start_records (party_of old.log.setup) s x ≡ first_of (party_of setup) s first
    records-are = is ∙ ap (λ (y : Setup). first_of (party_of y) s first) keeps.log.setup_is

    named : slot_in s (side.records ++ first_of (party_of setup) s first) ≡ Some (slot_of after)
    named = subst (λ (ys : List Stored). slot_in s (side.records ++ ys) ≡ Some (slot_of after)) records-are (start-slot old setup side.records s keeps x after fits)

  -- a call of the first append failed
  pub start-broke : (site : Tells) → Fails (map Appends (start_records (party_of old.log.setup) s x)) old.journal.held before site → RunsBroke s x old before site
  start-broke site fails first reply setup side t is at =
      let broke = subst (λ (ys : List Stored). Breaks old.journal.held setup side (map Appends ys) t (shut old.journal.held) site) (records-are first setup side t is at) (fails setup side t at) in
      first-breaks s first reply old.journal.held (shut old.journal.held) setup side t site (slot_of after) (named first setup side t is at) broke

  module _ (mid : Records) (between : Tells) (same : mid.log.setup ≡ old.log.setup) (there : HasState mid.log s after)
      (makes : Makes (map Appends (start_records (party_of old.log.setup) s x)) old.journal.held before mid.journal.held between) where
    module _ (first : First) (setup : Setup) (side : Side) (t : Told) (is : start_records (party_of old.log.setup) s x ≡ first_of (party_of old.log.setup) s first) (at : IsAt old.journal.held before setup side t) where
      abbrev firsts : List Stored
      firsts = first_of (party_of setup) s first

      goes : Goes old.journal.held setup side (map Appends firsts) t mid.journal.held between
      goes = subst (λ (ys : List Stored). Goes old.journal.held setup side (map Appends ys) t mid.journal.held between) (records-are first setup side t is at) (makes setup side t at)

      abbrev begun : Told
      begun = told_steps (kept_of (area_of old.journal.held) setup side) (steps_of (map Appends firsts)) t

      -- the due work is the one of the session after the first record
      same-due : (state : State) → HasState mid.log s state
          → due_within most_turns (party_of mid.log.setup) s (slot_of state) (moved_by side (map Appends firsts)).book ≡ due (party_of setup) s (slot_of after) side.book
      same-due state was =
          ap (λ (y : Setup). due_within most_turns (party_of y) s (slot_of state) (moved_by side (map Appends firsts)).book) (same ∙ (keeps first setup side t is at).log.setup_is)
          ∙ ap (λ (y : State). due_within most_turns (party_of setup) s (slot_of y) (moved_by side (map Appends firsts)).book) (same-state mid.log s state after was there)
          ∙ ap (due_within most_turns (party_of setup) s (slot_of after)) (appends-book side firsts)
          ∙ due-is (party_of setup) s (slot_of after) side.book

    -- a call of the due work failed
    pub work-broke : (site : Tells) (state : State) → HasState mid.log s state → DueBroke most_turns (party_of mid.log.setup) s (slot_of state) mid.journal.held between site → RunsBroke s x old before site
    work-broke site state was broke first reply setup side t is at =
        let begun_at = goes first setup side t is at in
        let late = broke setup (moved_by side (map Appends (first_of (party_of setup) s first))) (begun first setup side t is at) begun_at.1 in
        let due_broke =
        subst (λ (d : Due). Breaks mid.journal.held setup (moved_by side (map Appends (first_of (party_of setup) s first))) d.moves (begun first setup side t is at) (shut old.journal.held) site)
        (same-due first setup side t is at state was) (refl, late.1) in
        work-breaks s first reply old.journal.held (shut old.journal.held) setup side t site (slot_of after) (named first setup side t is at) mid.journal.held between begun_at due_broke

    pub work-done : (new : Records) (site : Tells) (made : Option Text) → WorkDone s mid new between site made → Executed s x old new before site made
    work-done new site made w = record {
      after = after;
      fits = fits;
      last = w.last;
      is = w.is;
      rests = w.rests;
      worked = subst (λ (y : State). Worked (slot_of y) made (slot_of w.last)) (same-state mid.log s w.state after w.was there) w.worked;
      runs = λ first reply setup side t is at.
          (let begun_at = goes first setup side t is at in
          let side_then = moved_by side (map Appends (first_of (party_of setup) s first)) in
          let (order, last, done) =
          subst (λ (d : Due). (d.in_order ≡ true) × (d.slot ≡ slot_of w.last) × Goes mid.journal.held setup side_then d.moves (begun first setup side t is at) new.journal.held site)
          (same-due first setup side t is at w.state w.was) (w.done setup side_then (begun first setup side t is at) begun_at.1) in
          let slot_named = named first setup side t is at in
          let (answer, all) = run-goes s first reply old.journal.held new.journal.held setup side t site (slot_of after) slot_named mid.journal.held between begun_at order done in
          record {
            answer = answer ∙ ap (λ (l : Slot). Some (Ok (reply_by (party_of setup) s reply l))) last;
            goes = all;
            unsaid = λ text said. run-unsaid s first reply old.journal.held new.journal.held setup side t site (slot_of after) slot_named mid.journal.held between begun_at text (ap (reply_by (party_of setup) s reply) last ∙ said) order done;
          });
    }

    pub executed : (new : Records) (site : Tells) (result : Result (Option Text) SiteFault) → WorkAnswers s mid new between site result → ExecuteAnswers s x old new before site result
    executed new site (Ok made) w = work-done new site made w
    executed new site (Err fault) (state, was, broke) = work-broke site state was broke

-- ---- the reply

module _ (log : LogState) (s : SessionId) (reply : Replying) (state last : State) (here : HasState log s state) (there : HasState log s last) where
  same-texts : (chain : Chained) → chain ≡ state.chain → texts_in chain ≡ texts_in last.chain
  same-texts chain is = ap texts_in (is ∙ ap (λ (x : State). x.chain) (same-state log s state last here there))

  pub recover-is : (chain : Chained) (t : Text) → reply ≡ replying.Recover → chain ≡ state.chain → t ≡ recover_text (party_of log.setup) s (texts_in chain) → Some t ≡ reply_by (party_of log.setup) s reply (slot_of last)
  recover-is chain t is chain_is said =
      ap (λ (x : Text). Some x) (said ∙ ap (recover_text (party_of log.setup) s) (same-texts chain chain_is))
      ∙ ap (λ (r : Replying). reply_by (party_of log.setup) s r (slot_of last)) (sym is)

  pub update-is : (chain : Chained) (given : ℕ) (t : Text) → reply ≡ replying.Update given → chain ≡ state.chain → t ≡ update_text (party_of log.setup) s given (texts_in chain) → Some t ≡ reply_by (party_of log.setup) s reply (slot_of last)
  update-is chain given t is chain_is said =
      ap (λ (x : Text). Some x) (said ∙ ap (update_text (party_of log.setup) s given) (same-texts chain chain_is))
      ∙ ap (λ (r : Replying). reply_by (party_of log.setup) s r (slot_of last)) (sym is)

-- what the log has of a session is a chain under its key
pub chain-of : (r : Records) (s : SessionId) (state : State) (chain : Chained) → KeepsSome r → HasState r.log s state → chain ≡ state.chain → IsChain chain r.log.setup.key
chain-of r s state chain k there is = subst (λ (x : Chained). IsChain x r.log.setup.key) (sym is) (found-in r.log r.log.setup k.0 s (Some state) (sym there) k.1.log).chain

-- the message that was made, and the text that was the reply before it
pub made-reply : (log : LogState) (s : SessionId) (replying : Replying) (standing made : Option Text) (text : Text) (state : State) (view : View) (st : IsStanding log s replying standing made) → made ≡ Some text → HasState log s state → view ≡ state.view
    → (result : Option Text)
    → ((p : Party) (s : SessionId) (l after : Slot) → length l.texts ≡ length l.view.tale → Worked l (Some text) after → (IsWritten replying → ⊥) → standing ≡ reply_by p s replying l → view.tale ≡ after.view.tale → result ≡ reply_by p s replying after)
    → (IsWritten replying → ⊥) → (last : State) → HasState log s last → result ≡ reply_by (party_of log.setup) s replying (slot_of last)
made-reply log s replying standing made text state view st is here view_is result given unwritten last there =
    let worked = subst (λ (o : Option Text). Worked st.from o (slot_of last)) is (subst (λ (x : State). Worked st.from made (slot_of x)) (same-state log s st.last last st.there there) st.worked) in
    given (party_of log.setup) s st.from (slot_of last) st.long worked unwritten (st.standing_is unwritten) (ap (λ (v : View). v.tale) view_is ∙ ap (λ (x : State). x.view.tale) (same-state log s state last here there))
