-- A drive at a site that tells is a function of what it hears.
use Rattle.std.proofs.Common.{◌≡◌, ◌≤◌, ◌<◌, ◌⊎◌, inl, inr, ℕ, Bool, true, false, List, [], ◌∷◌, ◌++◌, length, Option, Some, None, Result, Ok, Err, refl, sym, ap, subst, ◌∙◌, append_assoc, arith}
use Rattle.std.specs.Prelude.{if◌then◌else◌}
use Rattle.std.proofs.lemmas.List.{append-nil}
use Rattle.satp_base.specs.Calls.{Told}
use Rattle.satp_base.specs.Tales.{is_committed, is_whole}
use Rattle.satp_base.specs.declared.message.Message.{Message}
use Rattle.satp_base.specs.declared.session.SessionId.{SessionId}
use Rattle.satp_gateway.specs.Handling.{HandleReads, HearsRecover, IsHeardBy, IsRead, most_body, reply_of, text_in, unheard_as}
use Rattle.satp_gateway.specs.declared.handle.Reply.{Reply}
use Rattle.satp_http.specs.declared.responses.Answered.{Answered}
use Rattle.satp_log.specs.Hearing.{reading_fault}
use Rattle.satp_log.specs.Journals.{party_of}
use Rattle.satp_log.specs.declared.fault.Unheard.{Unheard}
use Rattle.satp_log.specs.declared.fault.Unheard.TheVariants as unheard
use Rattle.satp_log.proofs.JournalLemmas.{one-journal}
use Rattle.satp_point_laws.proofs.GoingLaw.{moves-go-on}
use Rattle.satp_points.specs.Answers.{Breaking, Goes, RunAnswers, Stays, Tested, Unchanged, refused_as}
use Rattle.satp_points.specs.States.{GatewayState, Holds, IsAt, Tells, area_of, is_broken, kept_of, steps_of}
use Rattle.satp_points.specs.declared.fault.Refused.{Refused}
use Rattle.satp_points.specs.declared.fault.Refused.TheVariants.{Body, Broken, Header, Jws, Memory, Site, Size}
use Rattle.satp_records.specs.declared.stored.Setup.{Setup}
use Rattle.satp_sides.specs.Calls.{Call, Hears, IsEntryOf, IsOwn, Refusal, Run, accepted, by_tests, refusal_of, refused, run_of, success_text}
use Rattle.satp_sides.specs.Points.{Move, Party, Says, Side, Stored, Text, chain_in, moved_by}
use Rattle.satp_stops.specs.Stops.{told_steps}
use Rattle.satp_drive.specs.AtPoints.{Coded, DoneBy, DriveLaw, Empty, IsDriven, IsUnread, Reaction, Read, Reading, Reads, ReadsEach, Unread, begins, driven, reaction, turn_by}
use Rattle.satp_drive.specs.Calling.{Handled, Standing}
use Rattle.satp_drive.specs.Drives.{AfterAnswer, AfterAnswers, AfterHandling, AfterReply, brings_none, brings_text, refuses, tale_in, unreplied}
use Rattle.satp_drive.specs.declared.driven.DriveEnd.TheVariants as end
use Rattle.satp_drive.specs.declared.turn.Turn.{Turn}
use Rattle.satp_drive.specs.declared.turn.Turn.TheVariants.{Posts, Ends}

-- ---- one gateway at one site

one_setup : (g : GatewayState) (setup other : Setup) (xs ys : List Stored) → Holds g setup xs → Holds g other ys → setup ≡ other
unfolding Holds
one_setup g setup other xs ys h k = (one-journal g.payloads setup other xs ys h k).0

not_broken : (g : GatewayState) → is_broken g ≡ false → is_broken g ≡ true → ⊥
not_broken g e f = let bad : false ≡ true = sym e ∙ f in cc bad

refused_run : (p : Party) (side : Side) (call : Call) (r : Refusal) → refusal_of p side.records call ≡ Some r → run_of p side call ≡ refused r
unfolding run_of
refused_run p side call r e = ap (λ (o : Option Refusal). by_tests o (accepted p side call)) e

stays_goes : (b a : Standing) (setup : Setup) (side : Side) (t : Told) → IsAt b.gateway b.site setup side t → Stays b.gateway a.gateway b.site a.site → Goes b.gateway setup side [] t a.gateway a.site
stays_goes b a setup side t at stays = (
  ap area_of stays.0,
  subst (λ (g : GatewayState). IsAt g a.site setup side t) (sym stays.0) (subst (λ (s : Tells). IsAt b.gateway s setup side t) (sym stays.1) at),
)

same_stays : (b a : Standing) → a ≡ b → Stays b.gateway a.gateway b.site a.site
same_stays b a is = (ap (λ (x : Standing). x.gateway) is, ap (λ (x : Standing). x.site) is)

-- ---- ends

abbrev IsSite : Turn → Type 0
IsSite (Ends end.Site) = Unit {0}
IsSite turn = ⊥

plain : (moves : List Move) (turn : Turn) (b : Standing) (setup : Setup) (side : Side) (t : Told) (a : Standing) (next : Turn)
    → turn ≡ next → Goes b.gateway setup side moves t a.gateway a.site → (IsSite next → ⊥) → DoneBy moves turn b setup side t a next
plain moves turn b setup side t a (Ends end.Site) is goes isnt = absurd (isnt tt)
plain moves turn b setup side t a (Ends end.Memory) is goes isnt = (moves, [], sym (append-nil moves), goes)
plain moves turn b setup side t a next is goes isnt = (is, goes)

never_site : (w o c : Bool) (u : Text) → IsSite (if w then (if o then Posts u false else Ends (if c then end.Committed else end.RolledBack)) else Ends end.Silent) → ⊥
never_site true true c u is = is
never_site true false true u is = is
never_site true false false u is = is
never_site false o c u is = is

-- ---- what follows an answer

module _ (s : SessionId) (owed : Bool) (b : Standing) (a : Standing) (turn : Turn) (setup : Setup) (side : Side) (t : Told) (at : IsAt b.gateway b.site setup side t) where
  unreplied_done : (moves : List Move) (next : Turn) → next ≡ unreplied (party_of setup) s owed (moved_by side moves).records → AfterReply s owed a.gateway None turn
      → Goes b.gateway setup side moves t a.gateway a.site → DoneBy moves next b setup side t a turn
  unreplied_done moves next is (inl by) goes =
      let xs = (moved_by side moves).records in
      let so = by setup xs goes.1.holds in
      plain moves next b setup side t a turn (is ∙ sym so) goes
      (λ site. never_site (is_whole (tale_in s xs)) owed (is_committed (tale_in s xs)) (success_text (party_of setup) s (chain_in s xs)) (subst IsSite so site))
  unreplied_done moves next is (inr wants) goes = subst (λ (n : Turn). DoneBy moves next b setup side t a n) (sym wants.0) (moves, [], sym (append-nil moves), goes)

  replied_done : (run : Run) (o : Option Text) → run.answer ≡ Some (Ok o) → AfterReply s owed a.gateway o turn → Goes b.gateway setup side run.moves t a.gateway a.site
      → DoneBy run.moves (turn_by (party_of setup) s owed (moved_by side run.moves).records run.answer) b setup side t a turn
  replied_done run (Some u) is follows goes =
      plain run.moves (turn_by (party_of setup) s owed (moved_by side run.moves).records run.answer) b setup side t a turn
      (ap (turn_by (party_of setup) s owed (moved_by side run.moves).records) is ∙ sym follows) goes (λ site. subst IsSite follows site)
  replied_done run None is follows goes =
      unreplied_done run.moves (turn_by (party_of setup) s owed (moved_by side run.moves).records run.answer) (ap (turn_by (party_of setup) s owed (moved_by side run.moves).records) is) follows goes

  module _ (call : Call) where
    abbrev Done : Run → Type 0
    Done run = DoneBy run.moves (turn_by (party_of setup) s owed (moved_by side run.moves).records run.answer) b setup side t a turn

    refusal_done : (r : Refused) → (refusal : Refusal) × (refusal_of (party_of setup) side.records call ≡ Some refusal) × (r ≡ refused_as refusal) → Stays b.gateway a.gateway b.site a.site
        → turn ≡ Ends (end.Refused r) → Done (run_of (party_of setup) side call)
    refusal_done r (refusal, e, is) stays turn_is =
        subst Done (sym (refused_run (party_of setup) side call refusal e))
        (plain [] (Ends (end.Refused (refused_as refusal))) b setup side t a turn (ap (λ (q : Refused). Ends (end.Refused q)) (sym is) ∙ sym turn_is) (stays_goes b a setup side t at stays) (λ site. subst IsSite turn_is site))

    run_done : (Late : Type 0) (result : Result Reply Refused) → RunAnswers (run_of (party_of setup) side call) b.gateway setup side t b.site a.gateway a.site (reply_of result)
        → Tested call (refusal_of (party_of setup) side.records call) (reply_of result) → Unchanged Late b.gateway a.gateway b.site a.site (reply_of result) → Breaking b.gateway a.gateway (reply_of result)
        → AfterHandling s owed a.gateway result turn → Done (run_of (party_of setup) side call)
    run_done Late (Ok reply) answers tested still breaking after = replied_done (run_of (party_of setup) side call) (text_in reply) answers.0 after answers.1
    run_done Late (Err Broken) answers tested still breaking after = absurd (not_broken b.gateway at.whole (breaking.answered refl))
    run_done Late (Err Site) answers tested still breaking after = subst (λ (n : Turn). DoneBy (run_of (party_of setup) side call).moves (turn_by (party_of setup) s owed (moved_by side (run_of (party_of setup) side call).moves).records (run_of (party_of setup) side call).answer) b setup side t a n) (sym after.1) answers
    run_done Late (Err Memory) answers tested still breaking after =
        subst (λ (n : Turn). DoneBy (run_of (party_of setup) side call).moves (turn_by (party_of setup) s owed (moved_by side (run_of (party_of setup) side call).moves).records (run_of (party_of setup) side call).answer) b setup side t a n) (sym after.1)
        (elim answers [
          | inl stays ↦ ([], (run_of (party_of setup) side call).moves, refl, stays_goes b a setup side t at stays)
          | inr unsaid ↦ (unsaid.0, Says unsaid.1 ∷ [], unsaid.3, unsaid.4)
        ])
    run_done Late (Err r) answers tested still breaking after = refusal_done r tested still after.1

  -- ---- a body that no message is read from

  module _ (body : Text) (unread : (m : Message) → IsOwn setup.key body m → ⊥) (r : Refused) (r_unread : IsUnread r) (r_reads : HandleReads setup.key body (Err r)) where
    abbrev from : Option Unheard → Refused
    from (Some u) = unheard_as u
    from None = Memory

    abbrev By : Refused → Type 0
    By q = ((n : ℕ) × (q ≡ Size n) × (n ≡ length body) × (most_body < n)) ⊎ ((u : Unheard) × (q ≡ unheard_as u) × (length body ≤ most_body) × (reading_fault setup.key body ≡ Some u))

    by : (q : Refused) → IsUnread q → HandleReads setup.key body (Err q) → By q
    by (Size n) un reads = inl (n, refl, reads.0, reads.1)
    by (Jws f) un reads = inr (unheard.Jws f, refl, reads.0, reads.1)
    by Header un reads = inr (unheard.Header, refl, reads.0, reads.1)
    by (Body f) un reads = inr (unheard.Body f, refl, reads.0, reads.1)
    by q un reads = absurd un

    same : (q : Refused) → By q → By r → r ≡ q
    same q (inl x) (inl y) = y.1 ∙ ap Size (y.2 ∙ sym x.2) ∙ sym x.1
    same q (inl x) (inr y) = absurd (omega (arith, x.2, x.3, y.2))
    same q (inr x) (inl y) = absurd (omega (arith, y.2, y.3, x.2))
    same q (inr x) (inr y) = y.1 ∙ ap from (sym y.3 ∙ x.3) ∙ sym x.1

    refused_done : (q : Refused) → IsUnread q → HandleReads setup.key body (Err q) → Stays b.gateway a.gateway b.site a.site → turn ≡ Ends (end.Refused q) → DoneBy [] (Ends (end.Refused r)) b setup side t a turn
    refused_done q un reads stays turn_is =
        plain [] (Ends (end.Refused r)) b setup side t a turn (ap (λ (x : Refused). Ends (end.Refused x)) (same q (by q un reads) (by r r_unread r_reads)) ∙ sym turn_is) (stays_goes b a setup side t at stays) (λ site. subst IsSite turn_is site)

    not_read : IsRead setup.key body → ⊥
    not_read (m, own) = unread m own

    unread_done : (result : Result Reply Refused) → HandleReads setup.key body result → Unchanged (HearsRecover b.gateway body) b.gateway a.gateway b.site a.site (reply_of result) → Breaking b.gateway a.gateway (reply_of result)
        → AfterHandling s owed a.gateway result turn → DoneBy [] (Ends (end.Refused r)) b setup side t a turn
    unread_done (Ok reply) reads still breaking after = absurd (not_read reads.1)
    unread_done (Err Broken) reads still breaking after = absurd (not_broken b.gateway at.whole (breaking.answered refl))
    unread_done (Err (Size n)) reads still breaking after = refused_done (Size n) tt reads still after.1
    unread_done (Err (Jws f)) reads still breaking after = refused_done (Jws f) tt reads still after.1
    unread_done (Err Header) reads still breaking after = refused_done Header tt reads still after.1
    unread_done (Err (Body f)) reads still breaking after = refused_done (Body f) tt reads still after.1
    unread_done (Err Memory) reads still breaking after =
        subst (λ (n : Turn). DoneBy [] (Ends (end.Refused r)) b setup side t a n) (sym after.1)
        (elim still [
          | inl stays ↦ ([], [], refl, stays_goes b a setup side t at stays)
          | inr late ↦ absurd (unread late.0 (late.2 setup side.records at.holds))
        ])
    unread_done (Err q) reads still breaking after = absurd (not_read reads.1)

  -- ---- one answer

  heard_by : (body : Text) (m : Message) (e : Option Message) → length body ≤ most_body → IsOwn setup.key body m → IsEntryOf setup.key m.body e → IsHeardBy b.gateway body m e
  heard_by body m e short own entry = (
    short,
    λ other ys holds.
        let key = ap (λ (x : Setup). x.key) (one_setup b.gateway setup other side.records ys at.holds holds) in
        (subst (λ (k : List ℕ). IsOwn k body m) key own, subst (λ (k : List ℕ). IsEntryOf k m.body e) key entry),
  )

  one_done : (answer : Answered) (reading : Reading) → Reads setup.key answer reading → AfterAnswer s owed b answer a turn
      → DoneBy (reaction (party_of setup) s owed side reading).moves (reaction (party_of setup) s owed side reading).turn b setup side t a turn
  one_done answer (Coded code) reads (refuses n200 n204 same turn_is) =
      plain [] (Ends (end.Status code)) b setup side t a turn (ap (λ (n : ℕ). Ends (end.Status n)) (sym reads.0) ∙ sym turn_is) (stays_goes b a setup side t at (same_stays b a same)) (λ site. subst IsSite turn_is site)
  one_done answer (Coded code) reads (brings_none is same follows) = absurd (reads.2 (sym reads.0 ∙ is))
  one_done answer (Coded code) reads (brings_text is handles) = absurd (reads.1 (sym reads.0 ∙ is))
  one_done answer Empty reads (refuses n200 n204 same turn_is) = absurd (n204 reads)
  one_done answer Empty reads (brings_none is same follows) =
      unreplied_done [] (unreplied (party_of setup) s owed side.records) refl (subst (λ (x : Standing). AfterReply s owed x.gateway None turn) (sym same) follows) (stays_goes b a setup side t at (same_stays b a same))
  one_done answer Empty reads (brings_text is handles) = absurd (omega (arith, reads, is))
  one_done answer (Unread r) reads (refuses n200 n204 same turn_is) = absurd (n200 reads.0)
  one_done answer (Unread r) reads (brings_none is same follows) = absurd (omega (arith, reads.0, is))
  one_done answer (Unread r) reads (brings_text is handles) =
      unread_done answer.body reads.1 r reads.2 reads.3 handles.0 (handles.1.read setup side.records at.holds) handles.1.unchanged handles.1.breaking handles.2
  one_done answer (Read m body e) reads (refuses n200 n204 same turn_is) = absurd (n200 reads.0)
  one_done answer (Read m body e) reads (brings_none is same follows) = absurd (omega (arith, reads.0, is))
  one_done answer (Read m body e) reads (brings_text is handles) =
      let handled = subst (λ (x : Text). Handled x b a handles.0) (sym reads.1) handles.1 in
      let answers = handled.answers m e (heard_by body m e reads.2 reads.3 reads.4) in
      run_done (Hears m body e) _ handles.0 (answers.run setup side t at) (answers.tests setup side.records at.holds) answers.unchanged answers.breaking handles.2

-- ---- one answer after the other

joins : (moves : List Move) (turn : Turn) (b middle a : Standing) (setup : Setup) (side : Side) (t : Told) (first : List Move) (next : Turn)
    → Goes b.gateway setup side first t middle.gateway middle.site
    → DoneBy moves turn middle setup (moved_by side first) (told_steps (kept_of (area_of b.gateway) setup side) (steps_of first) t) a next → DoneBy (first ++ moves) turn b setup side t a next
joins moves turn b middle a setup side t first (Ends end.Site) goes done = (moves-go-on b.gateway middle.gateway a.gateway setup side first moves t middle.site a.site).breaks goes done
joins moves turn b middle a setup side t first (Ends end.Memory) goes done =
    (first ++ done.0, done.1, ap (λ (l : List Move). first ++ l) done.2 ∙ sym (append_assoc first done.0 done.1), (moves-go-on b.gateway middle.gateway a.gateway setup side first done.0 t middle.site a.site).goes goes done.3)
joins moves turn b middle a setup side t first next goes done = (done.0, (moves-go-on b.gateway middle.gateway a.gateway setup side first moves t middle.site a.site).goes goes done.1)

pub drive_law : DriveLaw
drive_law s b a u owed next [] posted readings setup side t at leads reads =
    subst (λ (l : List Reading). IsDriven (driven (party_of setup) s side (Posts u owed) l) posted b setup side t a next) (sym reads)
    (sym leads.0, plain [] (Posts u owed) b setup side t a next (sym leads.2) (stays_goes b a setup side t at (same_stays b a leads.1)) (λ site. subst IsSite leads.2 site))
drive_law s b a u owed next (answer ∷ answers) posted readings setup side t at (middle, turn, later, follows, posted_is, rest) (reading, readings_later, readings_are, reads, each) =
    subst (λ (l : List Reading). IsDriven (driven (party_of setup) s side (Posts u owed) l) posted b setup side t a next) (sym readings_are)
    (subst (λ (l : List Text). IsDriven (begins u r (driven (party_of setup) s (moved_by side r.moves) r.turn readings_later)) l b setup side t a next) (sym posted_is)
    (goes_on turn answers readings_later later (one_done s owed b middle turn setup side t at answer reading reads follows) rest each
    (λ w o is. drive_law s middle a w o next answers later readings_later setup (moved_by side r.moves) (told_steps (kept_of (area_of b.gateway) setup side) (steps_of r.moves) t) is)))
  where
    r : Reaction
    r = reaction (party_of setup) s owed side reading

    goes_on : (turn : Turn) (answers : List Answered) (ls : List Reading) (later : List Text) → DoneBy r.moves r.turn b setup side t middle turn → AfterAnswers s middle turn answers later a next → ReadsEach setup.key answers ls
        → ((w : Text) (o : Bool) → IsAt middle.gateway middle.site setup (moved_by side r.moves) (told_steps (kept_of (area_of b.gateway) setup side) (steps_of r.moves) t)
        → AfterAnswers s middle (Posts w o) answers later a next → ReadsEach setup.key answers ls
        → IsDriven (driven (party_of setup) s (moved_by side r.moves) (Posts w o) ls) later middle setup (moved_by side r.moves) (told_steps (kept_of (area_of b.gateway) setup side) (steps_of r.moves) t) a next)
        → IsDriven (begins u r (driven (party_of setup) s (moved_by side r.moves) r.turn ls)) (u ∷ later) b setup side t a next
    goes_on (Posts w o) answers ls later done rest each more =
        let d = more w o done.1.1 rest each in
        let on = driven (party_of setup) s (moved_by side r.moves) (Posts w o) ls in
        subst (λ (n : Turn). IsDriven (begins u r (driven (party_of setup) s (moved_by side r.moves) n ls)) (u ∷ later) b setup side t a next) (sym done.0)
        (ap (λ (l : List Text). u ∷ l) d.0, joins on.moves on.next b middle a setup side t r.moves next done.1 d.1)
    goes_on (Ends e) [] ls later done rest each more =
        subst (λ (l : List Reading). IsDriven (begins u r (driven (party_of setup) s (moved_by side r.moves) r.turn l)) (u ∷ later) b setup side t a next) (sym each) (
          ap (λ (l : List Text). u ∷ l) (sym rest.0),
          subst (λ (l : List Move). DoneBy l r.turn b setup side t a next) (sym (append-nil r.moves))
              (subst (λ (x : Standing). DoneBy r.moves r.turn b setup side t x next) (sym rest.1)
              (subst (λ (n : Turn). DoneBy r.moves r.turn b setup side t middle n) (sym rest.2) done)),
        )
    goes_on (Ends e) (x ∷ xs) ls later done rest each more = absurd rest
