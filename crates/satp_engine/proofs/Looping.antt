-- The due work of a session, turn after turn.
use Rattle.std.proofs.Common.{◌≡◌, ◌<◌, ◌≤◌, ℕ, zero, suc, ◌+◌, List, Option, Some, None, refl, sym, ap, subst, ◌∙◌, Ok, Err, arith}
use Rattle.std.specs.Prelude.{Contains}
use Rattle.satp_base.specs.Chains.{made_part}
use Rattle.satp_base.specs.Roles.{after_of, next_of}
use Rattle.satp_base.specs.Roles.RoleRule.{Due as Ruled}
use Rattle.satp_base.specs.Views.{push}
use Rattle.satp_base.specs.declared.ledger.Answer.{Answer}
use Rattle.satp_base.specs.declared.ledger.Answer.TheVariants.{Done, NoFunds, UnknownAsset, Capped, Taken}
use Rattle.satp_base.specs.declared.ledger.LedgerOp.{LedgerOp}
use Rattle.satp_base.specs.declared.ledger.LedgerOp.TheVariants.{Lock, Burn, Mint, Assign, Release}
use Rattle.satp_base.specs.declared.message.Kind.{Kind}
use Rattle.satp_base.specs.declared.message.Part.{Part}
use Rattle.satp_base.specs.declared.record.Next.TheVariants.{Append}
use Rattle.satp_base.specs.declared.record.Rec.{Rec}
use Rattle.satp_base.specs.declared.record.Rec.TheVariants.{Began, Took, Made, Did, Chose, Rescue}
use Rattle.satp_base.specs.declared.record.Way.{Way}
use Rattle.satp_base.specs.declared.session.SessionId.{SessionId}
use Rattle.satp_base.specs.declared.site.SiteFault.{SiteFault}
use Rattle.satp_base.specs.declared.view.View.{View}
use Rattle.satp_chain.specs.declared.signed.Signed.{Signed}
use Rattle.satp_journal.specs.State.{JournalState}
use Rattle.satp_log.specs.Folding.{State, state_with}
use Rattle.satp_log.specs.Journals.{party_of}
use Rattle.satp_log.specs.Logged.{LogState}
use Rattle.satp_records.specs.declared.stored.Setup.{Setup}
use Rattle.satp_sides.specs.Due.{most_turns}
use Rattle.satp_sides.specs.DueLaws.{Rests}
use Rattle.satp_sides.specs.Logs.{IsNote}
use Rattle.satp_sides.specs.Points.{Text}
use Rattle.satp_sides.proofs.DueLaw.{made-rests}
use Rattle.satp_points.specs.States.{Tells}
use Rattle.satp_engine.specs.Planning.{Planned, PlannedDue, PlannedMaking, PlannedNote}
use Rattle.satp_plan.specs.Plans.{Covers, HasMaking, IsAmong, IsPlanOf, PlanState, parts_in, recs_in}
use Rattle.satp_engine.specs.Turning.{Comes, DueBroke, RestsWithin, TurnAnswers, Turned, TurnsDone, WorkAnswers, WorkDone, Worked}
use Rattle.satp_engine.specs.Turning.Comes.{Appended, Answered as Follows}
use Rattle.satp_engine.specs.declared.work.Turn.TheVariants.{Stored, Said, Rested}
use Rattle.satp_engine.specs.Working.{HasRoom, HasState, TakesRoom, slot_of}
use Rattle.satp_engine.specs.declared.records.Records.{Records}
use Rattle.satp_engine.proofs.Dues.{due-note, three-turns}
use Rattle.satp_engine.proofs.Turns.{no-turns, rests-made, turns-then, worked-made, worked-none, worked-note, worked-then}

pub same-state : (log : LogState) (s : SessionId) (a b : State) → HasState log s a → HasState log s b → a ≡ b
same-state log s a b h k = let both : Some a ≡ Some b = sym h ∙ k in cc both

-- ---- what is planned

pub covers-next : (n : ℕ) (plan : PlanState) (v : View) (r : Rec) → Covers (suc n) plan v → Comes v r → Covers n plan (push v r)
covers-next n plan v _ h (Appended r e) = (h.append r e).1
covers-next n plan v _ h (Follows op a e m) = (h.act op a e m).1

covers-now : (n : ℕ) (plan : PlanState) (v : View) → Covers (suc n) plan v → Covers 1 plan v
covers-now n plan v h = record { append = λ r e. ((h.append r e).0, tt); act = λ op a e m. ((h.act op a e m).0, tt) }

-- a message comes only where it is due
made-not-answer : (op : LedgerOp) (a : Answer) (kind : Kind) → after_of op a ≡ Made kind → ⊥
made-not-answer op Done kind e = cc e
made-not-answer op (NoFunds free) kind e = cc e
made-not-answer op UnknownAsset kind e = cc e
made-not-answer op (Capped total) kind e = cc e
made-not-answer Lock (Taken entry) kind e = cc e
made-not-answer Burn (Taken entry) kind e = cc e
made-not-answer Mint (Taken entry) kind e = cc e
made-not-answer Assign (Taken entry) kind e = cc e
made-not-answer Release (Taken entry) kind e = cc e

due-of : (v : View) (r : Rec) (kind : Kind) → Comes v r → r ≡ Made kind → next_of v.role v ≡ Append (Made kind)
due-of v _ kind (Appended r e) is = e ∙ ap Append is
due-of v _ kind (Follows op a e m) is = absurd (made-not-answer op a kind is)

due-made : (v : View) (kind : Kind) → Comes v (Made kind) → next_of v.role v ≡ Append (Made kind)
due-made v kind c = due-of v (Made kind) kind c refl

-- ---- so many turns are left

pub record SoFar (left : ℕ) (s : SessionId) (start : Records) (before : Tells) (now : Records) (here : Tells) (plan : PlanState) : Type 0 where
  pub from : State
  pub was : HasState start.log s from
  pub at : State
  pub is : HasState now.log s at
  pub rests : RestsWithin left at.view
  pub covers : Covers left plan at.view
  pub made : IsPlanOf s at.chain now.log.setup.key plan
  pub worked : Worked (slot_of from) None (slot_of at)
  pub done : TurnsDone most_turns left (party_of start.log.setup) s (slot_of from) start.journal.held before (slot_of at) now.journal.held here
  pub setup : now.log.setup ≡ start.log.setup

pub far-begun : (s : SessionId) (start : Records) (before : Tells) (plan : PlanState) → Planned most_turns start.log s plan → SoFar most_turns s start before start before plan
far-begun s start before plan p = record {
  from = p.state;
  was = p.there;
  at = p.state;
  is = p.there;
  rests = three-turns p.state.view;
  covers = p.covers;
  made = p.made;
  worked = worked-none (slot_of p.state);
  done = no-turns most_turns (party_of start.log.setup) s (slot_of p.state) start.journal.held before;
  setup = refl;
}

pub far-planned : (n : ℕ) (s : SessionId) (start now : Records) (before here : Tells) (plan : PlanState) → SoFar (suc n) s start before now here plan → Planned 1 now.log s plan
far-planned n s start now before here plan f = record { state = f.at; there = f.is; covers = covers-now n plan f.at.view f.covers; made = f.made }

module _ (n : ℕ) (s : SessionId) (start now new : Records) (before here site : Tells) (plan : PlanState) (f : SoFar (suc n) s start before now here plan) (same : new.log.setup ≡ now.log.setup) where
  -- the turn's work is from where the turns before it came to
  step : (r : Rec) (message : Option Signed) (t : Turned s now new here site r message)
      → TurnsDone most_turns n (party_of start.log.setup) s (slot_of f.from) start.journal.held before (slot_of (state_with f.at r message)) new.journal.held site
  step r message t =
      let is = same-state now.log s t.state f.at t.was f.is in
      let turn = t.done n in
      let here_done : TurnsDone (suc n) n (party_of start.log.setup) s (slot_of f.at) now.journal.held here (slot_of (state_with f.at r message)) new.journal.held site =
      subst (λ (x : State). TurnsDone (suc n) n (party_of start.log.setup) s (slot_of x) now.journal.held here (slot_of (state_with x r message)) new.journal.held site) is
      (subst (λ (x : Setup). TurnsDone (suc n) n (party_of x) s (slot_of t.state) now.journal.held here (slot_of (state_with t.state r message)) new.journal.held site) f.setup turn) in
      turns-then most_turns (suc n) n (party_of start.log.setup) s (slot_of f.from) (slot_of f.at) (slot_of (state_with f.at r message)) start.journal.held now.journal.held new.journal.held before here site f.done here_done

  after-is : (r : Rec) (message : Option Signed) (t : Turned s now new here site r message) → HasState new.log s (state_with f.at r message)
  after-is r message t = subst (λ (x : State). HasState new.log s (state_with x r message)) (same-state now.log s t.state f.at t.was f.is) t.after

  comes-here : (r : Rec) (message : Option Signed) (t : Turned s now new here site r message) → Comes f.at.view r
  comes-here r message t = subst (λ (x : State). Comes x.view r) (same-state now.log s t.state f.at t.was f.is) t.comes

  pub far-stored : TurnAnswers s now new here site (Ok Stored) → SoFar n s start before new site plan
  far-stored (r, note, t) = record {
    from = f.from;
    was = f.was;
    at = state_with f.at r None;
    is = after-is r None t;
    rests = f.rests r (comes-here r None t);
    covers = covers-next n plan f.at.view r f.covers (comes-here r None t);
    made = subst (λ (x : Setup). IsPlanOf s f.at.chain x.key plan) (sym same) f.made;
    worked = worked-then (slot_of f.from) (slot_of f.at) (slot_of (state_with f.at r None)) None f.worked (worked-note f.at r note);
    done = step r None t;
    setup = same ∙ f.setup;
  }

  pub far-said : (text : Text) → TurnAnswers s now new here site (Ok (Said text)) → WorkDone s start new before site (Some text)
  far-said text (kind, signed, is, t) =
      let due = due-made f.at.view kind (comes-here (Made kind) (Some signed) t) in
      let last = state_with f.at (Made kind) (Some signed) in
      let rest = made-rests f.at.view.role f.at.view kind due in
      let done = step (Made kind) (Some signed) t in
      record {
        state = f.from;
        was = f.was;
        last = last;
        is = after-is (Made kind) (Some signed) t;
        rests = rest;
        worked =
            subst (λ (x : Text). Worked (slot_of f.from) (Some x) (slot_of last)) (sym is)
            (worked-then (slot_of f.from) (slot_of f.at) (slot_of last) (Some signed.text) f.worked (worked-made f.at kind signed due));
        done = done.made (slot_of last) new.journal.held site (rests-made n (party_of start.log.setup) s (slot_of last) new.journal.held site rest);
      }

  pub far-rested : TurnAnswers s now new here site (Ok Rested) → WorkDone s start new before site None
  far-rested (state, there, rest, records, tells) =
      let is = same-state now.log s state f.at there f.is in
      let rests = subst (λ (x : State). Rests (next_of x.view.role x.view)) is rest in
      let done = f.done.made (slot_of f.at) now.journal.held here (rests-made (suc n) (party_of start.log.setup) s (slot_of f.at) now.journal.held here rests) in
      subst (λ (x : Records). WorkDone s start x before site None) (sym records)
      (subst (λ (x : Tells). WorkDone s start now before x None) (sym tells)
      (record { state = f.from; was = f.was; last = f.at; is = f.is; rests = rests; worked = f.worked; done = done }))

  pub far-broke : (fault : SiteFault) → TurnAnswers s now new here site (Err fault) → WorkAnswers s start new before site (Err fault)
  far-broke fault (state, there, broke) =
      let is = same-state now.log s state f.at there f.is in (
        f.from,
        f.was,
        f.done.broke site (subst (λ (x : State). DueBroke (suc n) (party_of start.log.setup) s (slot_of x) now.journal.held here site) is
            (subst (λ (x : Setup). DueBroke (suc n) (party_of x) s (slot_of state) now.journal.held here site) f.setup (broke n))),
      )

pub far-ended : (s : SessionId) (start now : Records) (before here : Tells) (plan : PlanState) → SoFar 0 s start before now here plan → WorkDone s start now before here None
far-ended s start now before here plan f = record {
  state = f.from;
  was = f.was;
  last = f.at;
  is = f.is;
  rests = f.rests;
  worked = f.worked;
  done = f.done.made (slot_of f.at) now.journal.held here (rests-made 0 (party_of start.log.setup) s (slot_of f.at) now.journal.held here f.rests);
}

-- ---- a record without a message that was planned

pub among-note : (recs : List Rec) (parts : List Part) (v : View) (r : Rec) → IsNote r → IsAmong recs parts v r → Contains recs r
among-note recs parts v (Began role terms) n h = absurd n
among-note recs parts v (Took kind) n h = absurd n
among-note recs parts v (Made kind) n h = absurd n
among-note recs parts v (Did op) n h = h
among-note recs parts v (Chose way) n h = h
among-note recs parts v Rescue n h = h

-- ---- while turns are left

more-left : (left i : ℕ) → left + i ≡ 3 → i < 3 → (n : ℕ) × (left ≡ suc n)
more-left zero i sum less = absurd (omega (arith, sum, less))
more-left (suc n) i sum less = (n, refl)

module _ (left i : ℕ) (sum : left + i ≡ 3) (less : i < 3) (s : SessionId) (start now : Records) (before here : Tells) (plan : PlanState) (f : SoFar left s start before now here plan) where
  pub fewer : ℕ
  fewer = (more-left left i sum less).0

  one-more : left ≡ suc fewer
  unfolding fewer
  one-more = (more-left left i sum less).1

  pub fewer-sum : fewer + (i + 1) ≡ 3
  fewer-sum = omega (arith, sum, one-more)

  pub room-after : (j k : JournalState) → HasRoom left j → TakesRoom j k → HasRoom fewer k
  room-after j k h takes = takes fewer (omega (arith, h.0, one-more), omega (arith, h.1, one-more))

  far : SoFar (suc fewer) s start before now here plan
  far = subst (λ n. SoFar n s start before now here plan) one-more f

  pub planned-now : Planned 1 now.log s plan
  planned-now = far-planned fewer s start now before here plan far

  module _ (new : Records) (site : Tells) (same : new.log.setup ≡ now.log.setup) where
    pub stored-now : TurnAnswers s now new here site (Ok Stored) → SoFar fewer s start before new site plan
    stored-now = far-stored fewer s start now new before here site plan far same

    pub said-now : (text : Text) → TurnAnswers s now new here site (Ok (Said text)) → WorkDone s start new before site (Some text)
    said-now = far-said fewer s start now new before here site plan far same

    pub rested-now : TurnAnswers s now new here site (Ok Rested) → WorkDone s start new before site None
    rested-now = far-rested fewer s start now new before here site plan far same

    pub broke-now : (fault : SiteFault) → TurnAnswers s now new here site (Err fault) → WorkAnswers s start new before site (Err fault)
    broke-now = far-broke fewer s start now new before here site plan far same

pub none-left : (left i : ℕ) → left + i ≡ 3 → 3 ≤ i → left ≡ 0
none-left left i sum most = omega (arith, sum, most)

-- ---- a record that is due and was planned

pub planned-made : (log : LogState) (s : SessionId) (plan : PlanState) (way : Option Way) (r : Rec) (kind : Kind) → PlannedDue log s plan way r → r ≡ Made kind → PlannedMaking log s plan way kind
planned-made log s plan way r kind p is = record {
  state = p.state;
  there = p.there;
  way_is = p.way_is;
  due = p.due ∙ ap Append is;
  has = subst (λ w. HasMaking plan (made_part w kind)) (sym p.way_is) (subst (IsAmong (recs_in plan) (parts_in plan) p.state.view) is p.has);
  made = p.made;
}

pub planned-note : (log : LogState) (s : SessionId) (plan : PlanState) (way : Option Way) (r : Rec) → PlannedDue log s plan way r → ((kind : Kind) → r ≡ Made kind → ⊥) → PlannedNote log s plan r
planned-note log s plan way r p other =
    let note = due-note p.state.view.role p.state.view r p.due other in
    record { state = p.state; there = p.there; rule = Ruled p.due; is_note = note; has = among-note (recs_in plan) (parts_in plan) p.state.view r note p.has; made = p.made }

pub due-one : (log : LogState) (s : SessionId) (plan : PlanState) (way : Option Way) (r : Rec) → PlannedDue log s plan way r → (state : State) → HasState log s state → next_of state.view.role state.view ≡ Append r
due-one log s plan way r p state there = subst (λ (x : State). next_of x.view.role x.view ≡ Append r) (same-state log s p.state state p.there there) p.due
