-- What carrying out a decision to work answers, in each of its cases.
use Rattle.std.proofs.Common.{◌≡◌, ◌≤◌, ◌+◌, inr, ℕ, Bool, true, false, List, [], ◌∷◌, ◌++◌, length, Option, Some, None, Result, Ok, Err, if◌then◌else◌, refl, sym, ap, ap₂, subst, ◌∙◌, arith}
use Rattle.std.proofs.lemmas.List.{length-append}
use Rattle.satp_base.specs.Calls.{Told}
use Rattle.satp_base.specs.Tales.{last_by}
use Rattle.satp_base.specs.Views.{begin}
use Rattle.satp_base.specs.declared.message.Role.TheVariants.{Origin, Recipient}
use Rattle.satp_base.specs.declared.message.Terms.{Terms}
use Rattle.satp_base.specs.declared.record.Rec.TheVariants.{Began}
use Rattle.satp_base.specs.declared.session.SessionId.{SessionId}
use Rattle.satp_chain.specs.Chained.{texts_in}
use Rattle.satp_journal.specs.State.{Fits, Held}
use Rattle.satp_log.specs.Folding.{State, proposal_text}
use Rattle.satp_log.specs.Journals.{IsJournal, party_of}
use Rattle.satp_log.specs.Logged.{LogHolds, LogState, with_spare}
use Rattle.satp_log.proofs.Comings.{comes}
use Rattle.satp_log.proofs.Places.{found-in}
use Rattle.satp_records.specs.declared.stored.Setup.{Setup}
use Rattle.satp_sides.specs.Calls.{last_text}
use Rattle.satp_sides.specs.Points.{Party, Slot, Stored, Text, slot, slot_in, stored}
use Rattle.satp_points.specs.Answers.{SaysOnly}
use Rattle.satp_points.specs.Deciding.{AlwaysReplies, Done, IsWritten}
use Rattle.satp_points.specs.Decisions.{FirstMayCome, IsReady, first_of, reply_by}
use Rattle.satp_points.specs.States.{Holds, Tells}
use Rattle.satp_points.specs.declared.decision.Decision.TheVariants.{Gives, Works}
use Rattle.satp_points.specs.declared.decision.First.{First}
use Rattle.satp_points.specs.declared.decision.First.TheVariants as first
use Rattle.satp_points.specs.declared.decision.Replying.{Replying}
use Rattle.satp_points.specs.declared.decision.Replying.TheVariants as replying
use Rattle.satp_points.specs.declared.fault.Refused.{Refused}
use Rattle.satp_points.specs.declared.fault.Refused.TheVariants.{Broken, Site, Memory}
use Rattle.satp_point_laws.proofs.Doing.{memory-done}
use Rattle.satp_point_laws.proofs.Replying.{FitsAfter, fits-after, reply-says}
use Rattle.satp_point_laws.proofs.Slots.{slot-first}
use Rattle.satp_engine.specs.Carrying.{Executed, IsStanding, RunsBroke, SaysFew}
use Rattle.satp_engine.specs.Preparing.{IsPlannedStart, IsPrepared}
use Rattle.satp_engine.specs.Turning.{Worked}
use Rattle.satp_engine.specs.Working.{Grows, HasState, Keeps, KeepsSome, Stands, shut, slot_of}
use Rattle.satp_engine.specs.declared.prepare.Prepared.{Prepared}
use Rattle.satp_engine.specs.declared.records.Records.{Records}
use Rattle.satp_engine.proofs.Carrying.{one-after, start-slot}
use Rattle.satp_engine.proofs.Keeping.{holding-keeps, keeping-holds}
use Rattle.satp_engine.proofs.Provisions.{long}
use Rattle.satp_engine.proofs.ReplyLemmas.{made-is, standing-is}

-- ---- room for a session more changes no record

pub spare-holds : (log : LogState) (n : ℕ) (setup : Setup) (xs : List Stored) → LogHolds log setup xs → LogHolds (with_spare log n) setup xs
spare-holds log n setup xs h = record { setup_is = h.setup_is; sessions = h.sessions; states = h.states; started = h.started; accepted = h.accepted }

pub holds-spare : (log : LogState) (n : ℕ) (setup : Setup) (xs : List Stored) → LogHolds (with_spare log n) setup xs → LogHolds log setup xs
holds-spare log n setup xs h = record { setup_is = h.setup_is; sessions = h.sessions; states = h.states; started = h.started; accepted = h.accepted }

-- the records are the same, with other room
pub record Roomier (old new : Records) : Type 0 where
  pub held : new.journal.held ≡ old.journal.held
  pub log : new.log ≡ with_spare old.log new.log.spare

module _ (old new : Records) (same : Roomier old new) where
  pub roomier-keeps : (setup : Setup) (xs : List Stored) → Keeps old setup xs → Keeps new setup xs
  roomier-keeps setup xs k = record {
    journal = subst (λ (h : Held). IsJournal h.payloads setup xs) (sym same.held) k.journal;
    log = subst (λ (l : LogState). LogHolds l setup xs) (sym same.log) (spare-holds old.log new.log.spare setup xs k.log);
  }

  pub keeps-roomier : (setup : Setup) (xs : List Stored) → Keeps new setup xs → Keeps old setup xs
  keeps-roomier setup xs k = record {
    journal = subst (λ (h : Held). IsJournal h.payloads setup xs) same.held k.journal;
    log = holds-spare old.log new.log.spare setup xs (subst (λ (l : LogState). LogHolds l setup xs) same.log k.log);
  }

  setup-roomier : new.log.setup ≡ old.log.setup
  setup-roomier = ap (λ (l : LogState). l.setup) same.log

  pub some-roomier : KeepsSome old → KeepsSome new
  some-roomier k = (k.0, subst (λ (x : Setup). Keeps new x k.0) (sym setup-roomier) (roomier-keeps old.log.setup k.0 k.1))

  pub stands-roomier : (told : Option Told) → Stands old told → Stands new told
  stands-roomier told s = record {
    kept = some-roomier s.kept;
    whole = ap (λ (h : Held). h.broken) same.held ∙ s.whole;
    within = subst (λ (h : Held). Fits h told) (sym same.held) s.within;
  }

-- ---- the session after the due work

more-texts : (l after : Slot) (made : Option Text) → Worked l made after → (after.view.role ≡ l.view.role) × (length after.texts ≤ length l.texts + 1)
more-texts l after None w = let same = ap length w.0 in (w.2, omega (arith, same))
more-texts l after (Some t) w = let same = ap length w.1 ∙ length-append l.texts (t ∷ []) in (w.3, omega (arith, same))

says-few : (reply : Replying) (l : Slot) → FitsAfter reply l → SaysFew reply l
says-few replying.Nothing l h = tt
says-few replying.LastUnlessWhole l h = tt
says-few replying.LastOwn l h = tt
says-few (replying.Again place) l h = tt
says-few replying.Recover l h = tt
says-few (replying.Update given) l h = h

-- a message that is written is there
written-reply : (p : Party) (s : SessionId) (reply : Replying) (l : Slot) → IsWritten reply → (t : Text) × (reply_by p s reply l ≡ Some t)
written-reply p s replying.Nothing l w = absurd w
written-reply p s replying.LastUnlessWhole l w = absurd w
written-reply p s replying.LastOwn l w = absurd w
written-reply p s (replying.Again place) l w = absurd w
written-reply p s replying.Recover l w = (_, refl)
written-reply p s (replying.Update given) l w = (_, refl)

-- of a session that begins at this gateway a text of its own is there
begun-own : (p : Party) (s : SessionId) (terms : Terms) (t : Text) (after : Slot) (made : Option Text) → Worked (slot (begin Origin terms) (t ∷ [])) made after → (u : Text) × (reply_by p s replying.LastOwn after ≡ Some u)
begun-own p s terms t after None w =
    (t, ap (λ b. if b then last_text after.texts else None) (ap₂ last_by w.2 w.1) ∙ ap last_text w.0)
begun-own p s terms t after (Some u) w =
    let l : Slot = slot (begin Origin terms) (t ∷ []) in
    (u, sym (made-is p s l after u refl w replying.LastOwn (reply_by p s replying.LastOwn l) (λ never. never) refl))

begun-reply : (p : Party) (s : SessionId) (terms : Terms) (t : Text) (l after : Slot) (made : Option Text) → l ≡ slot (begin Origin terms) (t ∷ []) → Worked l made after → (u : Text) × (reply_by p s replying.LastOwn after ≡ Some u)
begun-reply p s terms t l after made is w = begun-own p s terms t after made (subst (λ (x : Slot). Worked x made after) is w)

always-some : (p : Party) (s : SessionId) (f : First) (reply : Replying) (l : Slot) → AlwaysReplies (Works s f reply) → ((terms : Terms) → f ≡ first.Begins Origin terms → (u : Text) × (reply_by p s replying.LastOwn l ≡ Some u)) → (u : Text) × (reply_by p s reply l ≡ Some u)
always-some p s first.Nothing reply l always begun = written-reply p s reply l always
always-some p s (first.Note r) reply l always begun = written-reply p s reply l always
always-some p s (first.Takes signed) reply l always begun = written-reply p s reply l always
always-some p s (first.Begins Recipient terms) reply l always begun = written-reply p s reply l always
always-some p s (first.Begins Origin terms) replying.Nothing l always begun = absurd always
always-some p s (first.Begins Origin terms) replying.LastUnlessWhole l always begun = absurd always
always-some p s (first.Begins Origin terms) replying.LastOwn l always begun = begun terms refl
always-some p s (first.Begins Origin terms) (replying.Again place) l always begun = absurd always
always-some p s (first.Begins Origin terms) replying.Recover l always begun = written-reply p s replying.Recover l always
always-some p s (first.Begins Origin terms) (replying.Update given) l always begun = written-reply p s (replying.Update given) l always

no-text-said : (o : Option Text) (u : Text) → o ≡ Some u → ◌≡◌ {A = Result (Option Text) Refused} (Ok o) (Ok None) → ⊥
no-text-said o u is e = let none : o ≡ None = cc e in let both : Some u ≡ None = sym is ∙ none in cc both

-- ---- answers

is-whole : {A : Type 0} (b : Bool) → b ≡ false → b ≡ true → A
is-whole b e h = absurd (cc (e, h))

ok-not : {A : Type 0} (reply : Option Text) (r : Refused) → ◌≡◌ {A = Result (Option Text) Refused} (Ok reply) (Err r) → A
ok-not reply r e = absurd (cc e)

memory-broken : {A : Type 0} → ◌≡◌ {A = Result (Option Text) Refused} (Err Memory) (Err Broken) → A
memory-broken e = absurd (cc e)

memory-site : {A : Type 0} → ◌≡◌ {A = Result (Option Text) Refused} (Err Memory) (Err Site) → A
memory-site e = absurd (cc e)

site-broken : {A : Type 0} → ◌≡◌ {A = Result (Option Text) Refused} (Err Site) (Err Broken) → A
site-broken e = absurd (cc e)

no-gift : {A : Type 0} (s : SessionId) (f : First) (reply : Replying) (other : Option Text) → Works s f reply ≡ Gives other → A
no-gift s f reply other e = absurd (cc e)

err-not : {A : Type 0} (r : Refused) → ◌≡◌ {A = Result (Option Text) Refused} (Err r) (Ok None) → A
err-not r e = absurd (cc e)

-- a fault of the site takes no record away
shut-holds : (r : Records) (setup : Setup) (xs : List Stored) → Keeps r setup xs → Holds (shut r.journal.held) setup xs
unfolding Holds
shut-holds r setup xs k = k.journal

module _ (s : SessionId) (f : First) (reply : Replying) (old new : Records) (before site : Tells) (x : Prepared) (kept : KeepsSome old) (whole : old.journal.held.broken ≡ false)
    (ready : (setup : Setup) (xs : List Stored) → Keeps old setup xs → IsReady (party_of setup) xs (Works s f reply))
    (prepared : IsPrepared old.log s f reply x) (grows : Grows s old new) where
  pub planned : IsPlannedStart old.log s x.start x.provision.plan
  planned = record { after = prepared.provides.after; fits = prepared.provides.fits; covers = prepared.provides.provided.covers; made = prepared.provides.provided.made }

  -- the site failed
  pub broke-done : RunsBroke s x.start old before site → Done (Works s f reply) old.journal.held (shut new.journal.held) before site (Err Site)
  broke-done broke = record {
    only = tt;
    run = λ setup side t at. (refl, (broke f reply setup side t prepared.records_are at).1);
    unchanged = tt;
    breaking = record { found = λ b. is-whole _ whole b; answered = λ e. site-broken e; broke = λ e. refl; whole = λ b. inr refl };
    grows = λ setup xs holds.
        (let (ys, k, are) = grows setup xs (holding-keeps old setup xs kept holds) in (ys, shut-holds new setup (xs ++ ys) k, are, tt));
    given = λ other e. no-gift s f reply other e;
    replies = λ always e. err-not Site e;
  }

  module _ (made : Option Text) (ex : Executed s x.start old new before site made) (same : new.log.setup ≡ old.log.setup) where
    -- the slot after the first record, of any records that are kept
    named : (setup : Setup) (xs : List Stored) → Keeps old setup xs → slot_in s (xs ++ first_of (party_of setup) s f) ≡ Some (slot_of ex.after)
    named setup xs k =
        subst (λ (ys : List Stored). slot_in s (xs ++ ys) ≡ Some (slot_of ex.after)) (prepared.records_are ∙ ap (λ (y : Setup). first_of (party_of y) s f) k.log.setup_is) (start-slot old setup xs s k x.start ex.after ex.fits)

    fits : FitsAfter reply (slot_of ex.last)
    fits =
        let (role, few) = more-texts (slot_of ex.after) (slot_of ex.last) made ex.worked in
        let k = kept.1 in
        fits-after reply (slot_of ex.after) (slot_of ex.last) role few ((ready old.log.setup kept.0 k).1 (slot_of ex.after) (named old.log.setup kept.0 k))

    -- what was the reply before the due work
    pub stood : IsStanding new.log s reply x.provision.standing made
    stood =
        let after = one-after old.log s x.start prepared.provides.after ex.after prepared.provides.fits ex.fits in
        let given = prepared.provides.provided in
        let even : length (texts_in prepared.provides.after.chain) ≡ length prepared.provides.after.view.tale = sym (long prepared.provides.after.chain) ∙ ap length given.sound.tale in
        record {
          from = slot_of prepared.provides.after;
          long = even;
          standing_is = λ n. given.standing_is ∙ standing-is (party_of new.log.setup) s (slot_of prepared.provides.after) even reply n;
          last = ex.last;
          there = ex.is;
          worked = subst (λ (y : State). Worked (slot_of y) made (slot_of ex.last)) (sym after) ex.worked;
          few = says-few reply (slot_of ex.last) fits;
        }

    begun : (terms : Terms) → f ≡ first.Begins Origin terms → (u : Text) × (reply_by (party_of new.log.setup) s replying.LastOwn (slot_of ex.last) ≡ Some u)
    begun terms is =
        let p = party_of old.log.setup in
        let may = subst (λ (y : First). FirstMayCome p s kept.0 y) is (ready old.log.setup kept.0 kept.1).0 in
        let text = proposal_text p s Origin terms in
        let first_slot = slot-first s kept.0 Origin terms text (comes p kept.0 (stored s (Began Origin terms) text) may).new in
        let here = subst (λ (y : First). slot_in s (kept.0 ++ first_of p s y) ≡ Some (slot_of ex.after)) is (named old.log.setup kept.0 kept.1) in
        let both : Some (slot_of ex.after) ≡ Some (slot (begin Origin terms) (text ∷ [])) = sym here ∙ first_slot in
        begun-reply (party_of new.log.setup) s terms text (slot_of ex.after) (slot_of ex.last) made (cc both) ex.worked

    module _ (standing : new.journal.held.broken ≡ false) where
      -- all of it was done
      pub said-done : (o : Option Text) → o ≡ reply_by (party_of new.log.setup) s reply (slot_of ex.last) → Done (Works s f reply) old.journal.held new.journal.held before site (Ok o)
      said-done o is = record {
        only = tt;
        run = λ setup side t at.
            (let m = ex.runs f reply setup side t prepared.records_are at in
            let k = holding-keeps old setup side.records kept at.holds in
            let party : reply_by (party_of setup) s reply (slot_of ex.last) ≡ o = sym (ap (λ (y : Setup). reply_by (party_of y) s reply (slot_of ex.last)) (same ∙ k.log.setup_is)) ∙ sym is in
            (m.answer ∙ ap (λ (u : Option Text). Some (Ok u)) party, m.goes));
        unchanged = tt;
        breaking = record { found = λ b. is-whole _ whole b; answered = λ e. ok-not o Broken e; broke = λ e. ok-not o Site e; whole = λ b. is-whole _ standing b };
        grows = λ setup xs holds.
            (let k = holding-keeps old setup xs kept holds in
            let (ys, more, are) = grows setup xs k in
            let party : reply_by (party_of setup) s reply (slot_of ex.last) ≡ o = sym (ap (λ (y : Setup). reply_by (party_of y) s reply (slot_of ex.last)) (same ∙ k.log.setup_is)) ∙ sym is in
            let found = found-in new.log setup (xs ++ ys) s (Some ex.last) (sym ex.is) more.log in (
              ys,
              keeping-holds new setup (xs ++ ys) more,
              are,
              subst (λ (u : Option Text). SaysOnly (party_of setup) (xs ++ ys) [] (Ok u)) party
                  (reply-says (party_of setup) s (xs ++ ys) (slot_of ex.last) reply more.journal.log found.slot ex.rests fits),
            ));
        given = λ other e. no-gift s f reply other e;
        replies = λ always e.
            (let (u, text) = always-some (party_of new.log.setup) s f reply (slot_of ex.last) always begun in
            no-text-said o u (is ∙ text) e);
      }

      -- no memory was found for the message that is written last
      pub unsaid-done : IsWritten reply → Done (Works s f reply) old.journal.held new.journal.held before site (Err Memory)
      unsaid-done written = record {
        only = tt;
        run = λ setup side t at.
            (let m = ex.runs f reply setup side t prepared.records_are at in
            let (u, text) = written-reply (party_of setup) s reply (slot_of ex.last) written in
            inr (m.unsaid u text));
        unchanged = inr written;
        breaking = record { found = λ b. is-whole _ whole b; answered = λ e. memory-broken e; broke = λ e. memory-site e; whole = λ b. is-whole _ standing b };
        grows = λ setup xs holds.
            (let (ys, more, are) = grows setup xs (holding-keeps old setup xs kept holds) in
            (ys, keeping-holds new setup (xs ++ ys) more, are, tt));
        given = λ other e. no-gift s f reply other e;
        replies = λ always e. err-not Memory e;
      }

-- ---- the same, of the records before anything was made in advance

pub grows-some : (s : SessionId) (old new : Records) → KeepsSome old → Grows s old new → new.log.setup ≡ old.log.setup → KeepsSome new
grows-some s old new kept grows same =
    let (ys, k, are) = grows old.log.setup kept.0 kept.1 in
    (kept.0 ++ ys, subst (λ (x : Setup). Keeps new x (kept.0 ++ ys)) (sym same) k)

module _ (s : SessionId) (f : First) (reply : Replying) (first old new : Records) (before site : Tells) (x : Prepared) (roomier : Roomier first old) (told : Option Told) (stands : Stands first told)
    (ready : (setup : Setup) (xs : List Stored) → Keeps first setup xs → IsReady (party_of setup) xs (Works s f reply))
    (prepared : IsPrepared old.log s f reply x) (grows : Grows s old new) where
  kept-now : KeepsSome old
  kept-now = some-roomier first old roomier stands.kept

  whole-now : old.journal.held.broken ≡ false
  whole-now = (stands-roomier first old roomier told stands).whole

  ready-now : (setup : Setup) (xs : List Stored) → Keeps old setup xs → IsReady (party_of setup) xs (Works s f reply)
  ready-now setup xs k = ready setup xs (keeps-roomier first old roomier setup xs k)

  from-first : (after : Held) (result : Result (Option Text) Refused) → Done (Works s f reply) old.journal.held after before site result → Done (Works s f reply) first.journal.held after before site result
  from-first after result done = subst (λ (h : Held). Done (Works s f reply) h after before site result) roomier.held done

  pub all-broke : RunsBroke s x.start old before site → Done (Works s f reply) first.journal.held (shut new.journal.held) before site (Err Site)
  all-broke broke = from-first (shut new.journal.held) (Err Site) (broke-done s f reply old new before site x kept-now whole-now ready-now prepared grows broke)

  module _ (made : Option Text) (ex : Executed s x.start old new before site made) (same : new.log.setup ≡ old.log.setup) where
    pub all-stood : IsStanding new.log s reply x.provision.standing made
    all-stood = stood s f reply old new before site x kept-now whole-now ready-now prepared grows made ex same

    module _ (standing : new.journal.held.broken ≡ false) where
      pub all-said : (o : Option Text) → ((last : State) → HasState new.log s last → o ≡ reply_by (party_of new.log.setup) s reply (slot_of last)) → Done (Works s f reply) first.journal.held new.journal.held before site (Ok o)
      all-said o is = from-first new.journal.held (Ok o) (said-done s f reply old new before site x kept-now whole-now ready-now prepared grows made ex same standing o (is ex.last ex.is))

      pub all-unsaid : IsWritten reply → Done (Works s f reply) first.journal.held new.journal.held before site (Err Memory)
      all-unsaid written = from-first new.journal.held (Err Memory) (unsaid-done s f reply old new before site x kept-now whole-now ready-now prepared grows made ex same standing written)

-- no memory was found before anything was done
pub none-done : (s : SessionId) (f : First) (reply : Replying) (first old : Records) (site : Tells) → first.journal.held.broken ≡ false → old.journal.held ≡ first.journal.held → Done (Works s f reply) first.journal.held old.journal.held site site (Err Memory)
none-done s f reply first old site whole same = subst (λ (h : Held). Done (Works s f reply) first.journal.held h site site (Err Memory)) (sym same) (memory-done s f reply first.journal.held site whole)
