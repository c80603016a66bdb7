-- A quiet drive is an undisturbed one that has come to its end.
use Rattle.std.proofs.Common.{◌≡◌, ◌≢◌, ◌+◌, inl, inr, ℕ, Bool, List, [], length, Option, refl, sym, ap, subst, ◌∙◌, arith}
use Rattle.satp_base.specs.Calls.{Told}
use Rattle.satp_base.specs.Founding.{Founding}
use Rattle.satp_base.specs.Values.{address_text}
use Rattle.satp_base.specs.Wires.{Traffic}
use Rattle.satp_base.specs.declared.address.Address.{Address}
use Rattle.satp_http.specs.Feeds.{AnswerFeed}
use Rattle.satp_http.specs.declared.responses.Answered.{Answered}
use Rattle.satp_records.specs.declared.stored.Setup.{Setup}
use Rattle.satp_sides.specs.Calls.{Call}
use Rattle.satp_sides.specs.Calls.Call.{Rescues, Starts, Works}
use Rattle.satp_sides.specs.Others.{session_of}
use Rattle.satp_sides.specs.Points.{Side, Text}
use Rattle.satp_world.specs.Worlds.{Gateway, Setting, World, opposite, party_at, side_at}
use Rattle.satp_post.specs.declared.fault.PostFault.{PostFault}
use Rattle.satp_post.specs.declared.fault.PostFault.TheVariants as post
use Rattle.satp_rounds.proofs.SettleWorlds.{rounds-settle-worlds}
use Rattle.satp_rounds.proofs.Starting.{transfers-settle-worlds}
use Rattle.satp_rounds.proofs.ResumeWorlds.{resumptions-end}
use Rattle.satp_drive.specs.Calling.{Standing}
use Rattle.satp_drive.specs.Conversing as conversing
use Rattle.satp_drive.specs.Conversing.{Dials, EndsAt, LacksAnswer, unanswered}
use Rattle.satp_drive.specs.Drives.{AfterAnswers, texts_in}
use Rattle.satp_drive.specs.Driving.{GoesOn}
use Rattle.satp_drive.specs.declared.driven.DriveEnd.{DriveEnd}
use Rattle.satp_drive.specs.declared.driven.DriveEnd.TheVariants as end
use Rattle.satp_drive.specs.declared.driven.Driven.{Driven}
use Rattle.satp_drive.specs.declared.turn.Turn.{Turn}
use Rattle.satp_drive.specs.declared.turn.Turn.TheVariants.{Posts, Ends}
use Rattle.satp_drive_laws.specs.Completing.{Comes}
use Rattle.satp_drive_laws.specs.Quiet.{EndsAfter, Over, OverDials, QuietDrive, RecoveriesEnd, RecoveriesEndTo, ResumptionsEndSo, ResumptionsEndSoTo, StartsEnd, StartsEndTo, ends_with}
use Rattle.satp_drive_laws.specs.Peer.{IsSide, PeerAnswers}
use Rattle.satp_drive_laws.specs.Undisturbed.{BothStand, Undisturbed, messages, passed}
use Rattle.satp_drive_laws.proofs.CompleteLaw.{recoveries-complete-to, resumptions-complete-to, starts-complete-to}

same-end : (e f : DriveEnd) → ◌≡◌ {A = Turn} (Ends e) (Ends f) → e ≡ f
same-end e f is = cc is

no-end : (t : Text) (owed : Bool) (e : DriveEnd) → ◌≡◌ {A = Turn} (Posts t owed) (Ends e) → ⊥
no-end t owed e is = cc is

module _ (st : Setting) (a b : Founding) (g : Gateway) (w : World) (call : Call) (at : Address) (old new : Standing) (setup : Setup) (t : Told) (told telling : Option Traffic) (before after : ℕ) (driven : Driven) (P : Side → Type 0)
    (quiet : QuietDrive st a b g w call at old new setup t told telling before after driven P) (e : DriveEnd) (texts : List Text) (later : World)
    (completes : (posted : List Text) (answers : List Answered) (next : Turn) → Undisturbed st a b g w call old quiet.drives.begun new setup t posted answers next P → Comes st a b g new setup P e texts later posted answers next) where
  abbrev Ended : Type 0 → Type 0
  Ended passes = (driven ≡ ends_with e texts) × passes × BothStand st a b g later new setup P

  abbrev Passes : List Text → List Answered → Type 0
  Passes posted answers = passed posted answers ≡ texts

  abbrev Peer : List Text → List Answered → Type 0
  Peer posted answers = PeerAnswers (party_at st (opposite g)) (side_at w (opposite g)) posted answers P

  not-site : driven.end ≢ end.Site
  not-site is = quiet.site_quiet (quiet.site_counts.cause is)

  not-wire : driven.end ≢ end.Wire
  not-wire is = quiet.wire_quiet (quiet.wire_counts.cause is)

  completed : (posted : List Text) (answers : List Answered) (next : Turn) → next ≢ Ends end.Memory → next ≢ Ends end.Site → AfterAnswers (session_of call) quiet.drives.begun quiet.drives.turn answers posted new next → Peer posted answers
      → Comes st a b g new setup P e texts later posted answers next
  completed posted answers next memory site leads answered = completes posted answers next (record {
    reached = quiet.reached;
    stands = quiet.stands;
    may = quiet.may;
    reply = quiet.drives.reply;
    called = quiet.drives.called.answers;
    first = quiet.drives.turn;
    follows = quiet.drives.follows;
    leads = leads;
    answered = answered;
    memory = memory;
    site = site;
  })

  -- it ended with the turn
  at-end : (posted : List Text) (answers : List Answered) (f : DriveEnd) (n : ℕ) → n ≡ messages posted answers → driven ≡ record { end = f; messages = n } → AfterAnswers (session_of call) quiet.drives.begun quiet.drives.turn answers posted new (Ends f) → Peer posted answers → Ended (Passes posted answers)
  at-end posted answers f n count is leads answered =
      let end-is : driven.end ≡ f = ap (λ (d : Driven). d.end) is in
      let come = completed posted answers (Ends f) (λ bad. quiet.memory (end-is ∙ same-end f end.Memory bad)) (λ bad. not-site (end-is ∙ same-end f end.Site bad)) leads answered in
      elim (come.1) [
        | inl done ↦ (is ∙ (λ i. record { end = same-end f e done.0 i; messages = (count ∙ done.2) i }), done.1, subst (λ (z : World). BothStand st a b g z new setup P) done.3 come.2)
        | inr amid ↦ absurd amid.0
      ]

  lacks : (fault : PostFault) (n : ℕ) → driven ≡ unanswered fault n → ⊥
  lacks (post.Wire said) n is = not-wire (ap (λ (d : Driven). d.end) is)
  lacks post.Early n is = quiet.early (ap (λ (d : Driven). d.end) is)
  lacks (post.NotHttp f) n is = quiet.http f (ap (λ (d : Driven). d.end) is)
  lacks (post.Memory said) n is = quiet.memory (ap (λ (d : Driven). d.end) is)

  over-ends : (next : Turn) (posted : List Text) (answers : List Answered) (feed : AnswerFeed) (between : Option Traffic) → AfterAnswers (session_of call) quiet.drives.begun quiet.drives.turn answers posted new next → Peer posted answers
      → EndsAt (address_text at) next (length posted) feed (length posted + texts_in answers) between telling before after driven → Ended (Passes posted answers)
  over-ends (Ends f) posted answers feed between leads answered ends = at-end posted answers f (length posted + texts_in answers) refl ends.1.0 leads answered
  over-ends (Posts text owed) posted answers feed between leads answered (inl turns) =
      elim ((completed posted answers (Posts text owed) (no-end text owed end.Memory) (no-end text owed end.Site) leads answered).1) [
        | inl done ↦ absurd (no-end text owed e done.0)
        | inr amid ↦ absurd (let all = turns.0 in let few = amid.1 in omega (arith, all, few))
      ]
  over-ends (Posts text owed) posted answers feed between leads answered (inr unheard) = absurd (lacks unheard.1.fault (length posted + texts_in answers) unheard.1.driven_is)

  over-dials : (first : Turn) → quiet.drives.turn ≡ first → (told' : Option Traffic) (dials : Dials at (session_of call) first quiet.drives.begun new told' telling before after driven)
      → OverDials Peer at (session_of call) first quiet.drives.begun new told' telling before after driven dials → Ended (OverDials Passes at (session_of call) first quiet.drives.begun new told' telling before after driven dials)
  over-dials first is told' (conversing.Dials.fails missed rose same ends) answered = absurd (quiet.wire_quiet rose)
  over-dials first is told' (conversing.Dials.connects (conversing.Connected.lacks_memory stops same)) answered = absurd (quiet.memory (ap (λ (d : Driven). d.end) stops.0))
  over-dials first is told' (conversing.Dials.connects (conversing.Connected.converses x)) answered =
      over-ends x.next x.posted x.answers x.feed x.between (subst (λ (z : Turn). AfterAnswers (session_of call) quiet.drives.begun z x.answers x.posted new x.next) (sym is) x.leads) answered x.ends

  over-going : (turn : Turn) → quiet.drives.turn ≡ turn → (goes : GoesOn call at turn quiet.drives.begun new told telling before after driven) → Over Peer call at turn quiet.drives.begun new told telling before after driven goes → Ended (Over Passes call at turn quiet.drives.begun new told telling before after driven goes)
  over-going (Ends f) is goes answered = at-end [] [] f 0 refl goes.0.0 (refl, goes.1, sym is) answered
  over-going (Posts text owed) is goes answered = over-dials (Posts text owed) is told goes answered

  quiet-ends : EndsAfter st a b g call at old new setup told telling before after driven quiet.drives P e texts later
  quiet-ends =
      let done = over-going quiet.drives.turn refl quiet.drives.goes quiet.answered in
      record { driven_is = done.0; passes = done.1; both = done.2 }

pub recoveries-end-to : (P : Side → Type 0) → RecoveriesEndTo P
recoveries-end-to P st a b g w s at old new setup t told telling before after driven quiet q is names known =
    let r = rounds-settle-worlds st a b w quiet.reached q s is names g known in
    let done = quiet-ends st a b g w (Rescues s) at old new setup t told telling before after driven P quiet _ r.texts r.after
    (λ posted answers next drive. recoveries-complete-to P st a b g w s old quiet.drives.begun new setup t posted answers next drive q is names known r.texts r.after r.round) in
    (r, done)

pub starts-end-to : (P : Side → Type 0) → StartsEndTo P
starts-end-to P st a b g w s terms at old new setup t told telling before after driven quiet none room =
    let r = transfers-settle-worlds st a b w quiet.reached g s quiet.may none room terms in
    let done = quiet-ends st a b g w (Starts s terms) at old new setup t told telling before after driven P quiet _ r.texts r.after
    (λ posted answers next drive. starts-complete-to P st a b g w s terms old quiet.drives.begun new setup t posted answers next drive none room r.texts r.after r.transfer) in
    (r, done)

pub resumptions-end-so-to : (P : Side → Type 0) → ResumptionsEndSoTo P
resumptions-end-so-to P st a b g w s at old new setup t told telling before after driven quiet q is names known =
    let r = resumptions-end st a b w quiet.reached q s is names g known in
    let done = quiet-ends st a b g w (Works s) at old new setup t told telling before after driven P quiet _ r.texts r.after
    (λ posted answers next drive. resumptions-complete-to P st a b g w s old quiet.drives.begun new setup t posted answers next drive q is names known r.texts r.after r.resumption) in
    (r, done)

pub recoveries-end : RecoveriesEnd
recoveries-end peer = recoveries-end-to (IsSide peer)

pub starts-end : StartsEnd
starts-end peer = starts-end-to (IsSide peer)

pub resumptions-end-so : ResumptionsEndSo
resumptions-end-so peer = resumptions-end-so-to (IsSide peer)
