-- A drive whose connection the other gateway serves comes to its end.
use Rattle.std.proofs.Common.{◌≡◌, ◌≢◌, ◌+◌, inl, inr, ℕ, Bool, true, false, List, [], ◌∷◌, ◌++◌, length, Option, Some, None, Ok, Err, refl, sym, ap, subst, ◌∙◌, arith, IsTrue}
use Rattle.std.specs.Prelude.{option_map}
use Rattle.std.specs.List.{flat_map}
use Rattle.satp_base.proofs.Exact.{address_holds}
use Rattle.satp_base.specs.Calls.{Told}
use Rattle.satp_base.specs.Founding.{Founding}
use Rattle.satp_base.specs.Names.{is_address}
use Rattle.satp_base.specs.Values.{address_text}
use Rattle.satp_base.specs.Wires.{Traffic, called}
use Rattle.satp_base.specs.declared.address.Address.{Address}
use Rattle.satp_base.specs.declared.wire.Dial.TheVariants.{Connect}
use Rattle.satp_http.specs.Feeds.{AnswerFeed}
use Rattle.satp_http.specs.Runs.{AnswerTaken, SaysAnswersEnd, came}
use Rattle.satp_http.specs.Written.{request_text}
use Rattle.satp_http.specs.declared.fault.HttpFault.{HttpFault}
use Rattle.satp_http.specs.declared.responses.Answered.{Answered}
use Rattle.satp_points.specs.States.{IsAt}
use Rattle.satp_post.specs.declared.fault.PostFault.{PostFault}
use Rattle.satp_post.specs.declared.fault.PostFault.TheVariants as post
use Rattle.satp_post.specs.Posting as posting
use Rattle.satp_records.specs.declared.stored.Setup.{Setup}
use Rattle.satp_sides.specs.Calls.{Call}
use Rattle.satp_sides.specs.Calls.Call.{Rescues, Starts, Works}
use Rattle.satp_sides.specs.Others.{session_of}
use Rattle.satp_sides.specs.Points.{Side, Text}
use Rattle.satp_world.specs.Worlds.{Gateway, Setting, World, opposite, side_at}
use Rattle.satp_rounds.proofs.ResumeWorlds.{resumptions-end}
use Rattle.satp_rounds.proofs.SettleWorlds.{rounds-settle-worlds}
use Rattle.satp_rounds.proofs.Starting.{transfers-settle-worlds}
use Rattle.satp_drive.specs.Calling.{Standing}
use Rattle.satp_drive.specs.Conversing as conversing
use Rattle.satp_drive.specs.Conversing.{Converses, Dials, EndsAt, LacksAnswer, unanswered}
use Rattle.satp_drive.specs.Drives.{AfterAnswers, IfPosts, texts_in}
use Rattle.satp_drive.specs.Driving.{GoesOn}
use Rattle.satp_drive.specs.declared.driven.DriveEnd.{DriveEnd}
use Rattle.satp_drive.specs.declared.driven.DriveEnd.TheVariants as end
use Rattle.satp_drive.specs.declared.driven.Driven.{Driven}
use Rattle.satp_drive.specs.declared.turn.Turn.{Turn}
use Rattle.satp_drive.specs.declared.turn.Turn.TheVariants.{Posts, Ends}
use Rattle.satp_drive_laws.specs.Completing.{Comes}
use Rattle.satp_drive_laws.specs.Quiet.{EndsAfter, Over, OverDials, ends_with}
use Rattle.satp_drive_laws.specs.Undisturbed.{BothStand, messages, passed}
use Rattle.satp_drive_laws.proofs.CompleteLaw.{UndisturbedBy, recoveries-by, resumptions-by, starts-by}
use Rattle.satp_drive_laws.proofs.Walking.{HeardNext, NeverLacks, Takes}
use Rattle.satp_wire_laws.specs.TwoEnds.{Served, StandsAfter}
use Rattle.satp_wire_laws.specs.Wired.{RecoveriesMeet, ResumptionsMeet, StartsMeet, WiredDrive}
use Rattle.satp_wire_laws.proofs.Connecting.{Near, far, last_talk, meets, near-lacking, near-whole, still-open, still-waits}
use Rattle.satp_wire_laws.proofs.Meeting.{Lacking, Lacks, Meets, Mode, Whole, meets-take, never-lack, tail_of}
use Rattle.satp_wire_laws.proofs.Serving.{GatewayTalk, says-nothing}

same-end : (e f : DriveEnd) → ◌≡◌ {A = Turn} (Ends e) (Ends f) → e ≡ f
same-end e f is = cc is

no-end : (t : Text) (owed : Bool) (e : DriveEnd) → ◌≡◌ {A = Turn} (Posts t owed) (Ends e) → ⊥
no-end t owed e is = cc is

good : (at : Address) → IsTrue (is_address (address_text at))
good at = (address_holds at).form

module _ (st : Setting) (a b : Founding) (g : Gateway) (w : World) (call : Call) (at : Address) (old new : Standing) (setup : Setup) (t : Told) (told telling : Option Traffic) (before after : ℕ) (driven : Driven)
    (wired : WiredDrive st a b g w call at old new setup t told telling before after driven) (e : DriveEnd) (texts : List Text) (later : World)
    (completes : (P : Side → Type 0) (R : Side → List Text → List Answered → Type 0) (L : Text → Type 0) → Takes st g R → NeverLacks st g R L → ((side : Side) → R side [] [] → P side)
    → (posted : List Text) (answers : List Answered) (next : Turn) → UndisturbedBy st a b g w call old wired.drives.begun new setup t posted answers next R → Comes st a b g new setup P e texts later posted answers next × HeardNext next L) where
  abbrev begun : Standing
  begun = wired.drives.begun

  abbrev Done : (Side → Type 0) → Type 0 → Type 0
  Done P passes = (driven ≡ ends_with e texts) × passes × BothStand st a b g later new setup P

  abbrev Passes : List Text → List Answered → Type 0
  Passes posted answers = passed posted answers ≡ texts

  not-site : driven.end ≢ end.Site
  not-site is = wired.site_quiet (wired.site_counts.cause is)

  not-wire : driven.end ≢ end.Wire
  not-wire is = wired.wire_quiet (wired.wire_counts.cause is)

  as-drive : (R : Side → List Text → List Answered → Type 0) (posted : List Text) (answers : List Answered) (next : Turn) → next ≢ Ends end.Memory → next ≢ Ends end.Site → AfterAnswers (session_of call) begun wired.drives.turn answers posted new next → R (side_at w (opposite g)) posted answers
      → UndisturbedBy st a b g w call old wired.drives.begun new setup t posted answers next R
  as-drive R posted answers next memory site leads answered = record {
    reached = wired.reached;
    stands = wired.stands;
    may = wired.may;
    reply = wired.drives.reply;
    called = wired.drives.called.answers;
    first = wired.drives.turn;
    follows = wired.drives.follows;
    leads = leads;
    answered = answered;
    memory = memory;
    site = site;
  }

  -- it ended with the turn
  at-end : (P : Side → Type 0) (R : Side → List Text → List Answered → Type 0) (L : Text → Type 0) → Takes st g R → NeverLacks st g R L → ((side : Side) → R side [] [] → P side)
      → (posted : List Text) (answers : List Answered) (f : DriveEnd) (n : ℕ) → n ≡ messages posted answers → driven ≡ record { end = f; messages = n }
      → AfterAnswers (session_of call) begun wired.drives.turn answers posted new (Ends f) → R (side_at w (opposite g)) posted answers → Done P (Passes posted answers)
  at-end P R L takes never base posted answers f n count is leads answered =
      let end-is : driven.end ≡ f = ap (λ (d : Driven). d.end) is in
      let come = completes P R L takes never base posted answers (Ends f)
      (as-drive R posted answers (Ends f) (λ bad. wired.memory (end-is ∙ same-end f end.Memory bad)) (λ bad. not-site (end-is ∙ same-end f end.Site bad)) leads answered) in
      elim come.0.1 [
        | inl done ↦ (is ∙ (λ i. record { end = same-end f e done.0 i; messages = (count ∙ done.2) i }), done.1, subst (λ (z : World). BothStand st a b g z new setup P) done.3 come.0.2)
        | inr amid ↦ absurd amid.0
      ]

  -- ---- without a connection

  abbrev NoText : Side → List Text → List Answered → Type 0
  NoText side posted answers = (posted ≡ []) × (side ≡ side_at w (opposite g))

  none-takes : Takes st g NoText
  none-takes w' v u reply posted answer answers hands short rest = absurd (let bad : u ∷ posted ≡ [] = rest.0 in cc bad)

  abbrev NothingLacks : Text → Type 0
  NothingLacks u = ⊥

  none-lacks : NeverLacks st g NoText NothingLacks
  none-lacks w' v u reply hands short rest lacks = lacks

  no-connection : (f : DriveEnd) → wired.drives.turn ≡ Ends f → driven ≡ record { end = f; messages = 0 } → new ≡ begun → Done (λ side. side ≡ side_at w (opposite g)) (Passes [] [])
  no-connection f turn is same =
      at-end (λ side. side ≡ side_at w (opposite g)) NoText NothingLacks none-takes none-lacks (λ side rest. rest.1) [] [] f 0 refl is (refl, same, sym turn) (refl, refl)

  -- ---- over a connection

  module _ (text : Text) (owed : Bool) (first : wired.drives.turn ≡ Posts text owed) (served : Served st w g telling) (x : Converses (address_text at) (session_of call) (Posts text owed) begun new (option_map (called (Connect at)) told) telling before after driven) where
    leads : AfterAnswers (session_of call) begun wired.drives.turn x.answers x.posted new x.next
    leads = subst (λ (z : Turn). AfterAnswers (session_of call) begun z x.answers x.posted new x.next) (sym first) x.leads

    -- something was posted
    some-of : (mode : Mode) (answers : List Answered) (posted : List Text) (next : Turn) → AfterAnswers (session_of call) begun (Posts text owed) answers posted new next
        → (posted ≡ [] → next ≡ Posts text owed → (u : Text) × (tail_of mode ≡ u ∷ [])) → (u : Text) × (more : List Text) × (posted ++ tail_of mode ≡ u ∷ more)
    some-of mode [] posted next leads tail =
        let last = tail leads.0 leads.2 in
        (last.0, [], ap (λ (l : List Text). l ++ tail_of mode) leads.0 ∙ last.1)
    some-of mode (answer ∷ answers) posted next leads tail = (text, leads.2 ++ tail_of mode, ap (λ (l : List Text). l ++ tail_of mode) leads.4)

    abbrev NearTo : Mode → Type 0
    NearTo mode = Near (address_text at) mode x.posted x.answers served.ends.here

    abbrev SomeIn : Mode → Type 0
    SomeIn mode = (u : Text) × (more : List Text) × (x.posted ++ tail_of mode ≡ u ∷ more)

    -- it stands so once all is answered
    abbrev StandsIf : Mode → Side → Type 0
    StandsIf mode side = mode ≡ Whole → (u : Told) × IsAt served.new served.after.tells served.setup side u

    module _ (mode : Mode) (near : NearTo mode) (some : SomeIn mode) where
      abbrev Rest : Side → List Text → List Answered → Type 0
      Rest =
          Meets st g (address_text at) (good at) served.setup served.stands.party (far st w g telling served).waits.feed (last_talk st w g telling served)
          (still-open st w g telling served (address_text at) (good at) mode x.posted x.answers near some.0 some.1 some.2) (still-waits st w g telling served (address_text at) (good at) mode x.posted x.answers near some.0 some.1 some.2) near.rest mode

      takes : Takes st g Rest
      takes =
          meets-take st g (address_text at) (good at) served.setup served.stands.party (far st w g telling served).waits.feed (last_talk st w g telling served)
          (still-open st w g telling served (address_text at) (good at) mode x.posted x.answers near some.0 some.1 some.2) (still-waits st w g telling served (address_text at) (good at) mode x.posted x.answers near some.0 some.1 some.2) near.rest mode

      never : NeverLacks st g Rest (Lacks mode)
      never =
          never-lack st g (address_text at) (good at) served.setup served.stands.party (far st w g telling served).waits.feed (last_talk st w g telling served)
          (still-open st w g telling served (address_text at) (good at) mode x.posted x.answers near some.0 some.1 some.2) (still-waits st w g telling served (address_text at) (good at) mode x.posted x.answers near some.0 some.1 some.2) near.rest mode

      base : (side : Side) → Rest side [] [] → StandsIf mode side
      base side m is =
          let asked : m.feed.held ++ came m.calls ≡ [] = m.asked ∙ ap (λ (z : Mode). flat_map (request_text (address_text at)) (tail_of z)) is in
          let nothing = says-nothing m.calls m.feed (far st w g telling served).waits.feed m.talk (last_talk st w g telling served) (still-open st w g telling served (address_text at) (good at) mode x.posted x.answers near some.0 some.1 some.2) m.runs m.talks asked in
          (m.told, subst (λ (z : GatewayTalk). IsAt z.responder z.site.tells served.setup side m.told) (sym nothing) m.stands)

      begins : Rest (side_at w (opposite g)) x.posted x.answers
      begins = meets st w g telling served (address_text at) (good at) mode x.posted x.answers near some.0 some.1 some.2

      come : x.next ≢ Ends end.Memory → x.next ≢ Ends end.Site → Comes st a b g new setup (StandsIf mode) e texts later x.posted x.answers x.next × HeardNext x.next (Lacks mode)
      come memory site = completes (StandsIf mode) Rest (Lacks mode) takes never base x.posted x.answers x.next (as-drive Rest x.posted x.answers x.next memory site leads begins)

    abbrev Stood : Side → Type 0
    Stood side = (u : Told) × IsAt served.new served.after.tells served.setup side u

    not-ended : (next : Turn) (u : Text) (o : Bool) (f : DriveEnd) → next ≡ Posts u o → next ≡ Ends f → ⊥
    not-ended next u o f is bad = no-end u o f (sym is ∙ bad)

    lacking : (u : Text) (o : Bool) → x.next ≡ Posts u o → (left : AnswerFeed) (taken : AnswerTaken) (ended : Option HttpFault) (closed : Bool) → posting.Exchanged (request_text (address_text at) u) x.feed left x.between telling taken closed → SaysAnswersEnd taken ended → ⊥
    lacking u o is left taken ended closed exchanges says =
        let near = near-lacking (Connect at) refl (address_text at) x.posted x.answers x.feed told x.between telling x.exchanges served.ends.here served.ends.mine_is u left taken ended closed exchanges says in
        let some = some-of (Lacking u ended) x.answers x.posted x.next x.leads (λ none posts. (u, refl)) in
        (come (Lacking u ended) near some (not-ended x.next u o end.Memory is) (not-ended x.next u o end.Site is)).1 u o is (ended, refl)

    no-fault : (u : Text) (o : Bool) (n : ℕ) → x.next ≡ Posts u o → (fault : PostFault) (left : AnswerFeed) → posting.Posts (address_text at) u x.feed left x.between telling before after (Err fault) → driven ≡ unanswered fault n → ⊥
    no-fault u o n is (post.Wire said) left posts ends = not-wire (ap (λ (d : Driven). d.end) ends)
    no-fault u o n is post.Early left posts ends = lacking u o is left (Ok None) None true posts.1 refl
    no-fault u o n is (post.NotHttp f) left posts ends = lacking u o is left (Err f) (Some f) false posts.2 (posts.1, refl)
    no-fault u o n is (post.Memory said) left posts ends = wired.memory (ap (λ (d : Driven). d.end) ends)

    near-all : telling ≡ x.between → NearTo Whole
    near-all same = near-whole (Connect at) refl (address_text at) x.posted x.answers x.feed told x.between telling x.exchanges served.ends.here served.ends.mine_is same

    over-ends : (next : Turn) → x.next ≡ next → EndsAt (address_text at) next (length x.posted) x.feed (length x.posted + texts_in x.answers) x.between telling before after driven → Done Stood (Passes x.posted x.answers)
    over-ends (Ends f) is ends =
        let near = near-all ends.1.1 in
        let some = some-of Whole x.answers x.posted x.next x.leads (λ none posts. absurd (not-ended x.next text owed f posts is)) in
        let done = at-end (StandsIf Whole) (Rest Whole near some) (Lacks Whole) (takes Whole near some) (never Whole near some) (base Whole near some) x.posted x.answers f (length x.posted + texts_in x.answers) refl ends.1.0
        (subst (λ (z : Turn). AfterAnswers (session_of call) begun wired.drives.turn x.answers x.posted new z) is leads) (begins Whole near some) in
        (done.0, done.1, record { reached = done.2.reached; stands = done.2.stands; other = done.2.other refl })
    over-ends (Posts u o) is (inl turns) =
        let near = near-all turns.1.1 in
        let many = turns.0 in
        let some = some-of Whole x.answers x.posted x.next x.leads (λ none posts. absurd (let few = ap length none in omega (arith, many, few))) in
        elim (come Whole near some (not-ended x.next u o end.Memory is) (not-ended x.next u o end.Site is)).0.1 [
          | inl done ↦ absurd (not-ended x.next u o e is done.0)
          | inr amid ↦ absurd (let few = amid.1 in omega (arith, many, few))
        ]
    over-ends (Posts u o) is (inr lacks) = absurd (no-fault u o (length x.posted + texts_in x.answers) is lacks.1.fault lacks.1.left lacks.1.posts lacks.1.driven_is)

  over-dials : (text : Text) (owed : Bool) → wired.drives.turn ≡ Posts text owed → (served : Served st w g telling) (dials : Dials at (session_of call) (Posts text owed) begun new told telling before after driven)
      → Done (λ side. (u : Told) × IsAt served.new served.after.tells served.setup side u) (OverDials Passes at (session_of call) (Posts text owed) begun new told telling before after driven dials)
  over-dials text owed is served (conversing.Dials.fails missed rose same ends) = absurd (wired.wire_quiet rose)
  over-dials text owed is served (conversing.Dials.connects (conversing.Connected.lacks_memory stops same)) = absurd (wired.memory (ap (λ (d : Driven). d.end) stops.0))
  over-dials text owed is served (conversing.Dials.connects (conversing.Connected.converses x)) = over-ends text owed is served x x.next refl x.ends

  over-going : (turn : Turn) → wired.drives.turn ≡ turn → (goes : GoesOn call at turn begun new told telling before after driven) (served : IfPosts turn (Served st w g telling))
      → Done (StandsAfter st w g telling turn served) (Over Passes call at turn begun new told telling before after driven goes)
  over-going (Ends f) is goes served = no-connection f is goes.0.0 goes.1
  over-going (Posts text owed) is goes served = over-dials text owed is served goes

  pub wired-ends : EndsAfter st a b g call at old new setup told telling before after driven wired.drives (StandsAfter st w g telling wired.drives.turn wired.served) e texts later
  wired-ends =
      let done = over-going wired.drives.turn refl wired.drives.goes wired.served in
      record { driven_is = done.0; passes = done.1; both = done.2 }

pub recoveries-meet : RecoveriesMeet
recoveries-meet st a b g w s at old new setup t told telling before after driven wired q is names known =
    let r = rounds-settle-worlds st a b w wired.reached q s is names g known in (
      r,
      wired-ends st a b g w (Rescues s) at old new setup t told telling before after driven wired _ r.texts r.after
          (λ P R L takes never base posted answers next drive. recoveries-by st a b g w P R L takes never base s old wired.drives.begun new setup t posted answers next drive q is names known r.texts r.after r.round),
    )

pub starts-meet : StartsMeet
starts-meet st a b g w s terms at old new setup t told telling before after driven wired none room =
    let r = transfers-settle-worlds st a b w wired.reached g s wired.may none room terms in (
      r,
      wired-ends st a b g w (Starts s terms) at old new setup t told telling before after driven wired _ r.texts r.after
          (λ P R L takes never base posted answers next drive. starts-by st a b g w P R L takes never base s terms old wired.drives.begun new setup t posted answers next drive none room r.texts r.after r.transfer),
    )

pub resumptions-meet : ResumptionsMeet
resumptions-meet st a b g w s at old new setup t told telling before after driven wired q is names known =
    let r = resumptions-end st a b w wired.reached q s is names g known in (
      r,
      wired-ends st a b g w (Works s) at old new setup t told telling before after driven wired _ r.texts r.after
          (λ P R L takes never base posted answers next drive. resumptions-by st a b g w P R L takes never base s old wired.drives.begun new setup t posted answers next drive q is names known r.texts r.after r.resumption),
    )
