-- A command whose drive nothing disturbs prints the line of how the session ends.
use Rattle.std.proofs.Common.{◌≡◌, ◌≢◌, ◌<◌, ◌≤◌, ℕ, Bool, true, false, List, [], ◌∷◌, length, Option, Some, None, option_map, map, Err, refl, sym, ap, subst, ◌∙◌, arith}
use Rattle.std.specs.Prelude.{nat_le, IsTrue}
use Rattle.std.specs.Option.{is_some}
use Rattle.satp_app.specs.Commands.{terms_of}
use Rattle.satp_base.specs.Calls.{Told}
use Rattle.satp_base.specs.Founding.{Founding}
use Rattle.satp_base.specs.Keys.{same_session}
use Rattle.satp_base.specs.Roles.{negate}
use Rattle.satp_base.specs.Streams.{Rose}
use Rattle.satp_base.specs.Tales.{is_committed}
use Rattle.satp_base.specs.Views.{view_of}
use Rattle.satp_base.specs.declared.message.Role.TheVariants.{Origin}
use Rattle.satp_base.specs.declared.message.Terms.{Terms}
use Rattle.satp_base.specs.declared.session.SessionId.{SessionId}
use Rattle.satp_base.specs.declared.view.View.{View}
use Rattle.satp_drive.specs.Driving.{RefusalCounts}
use Rattle.satp_drive.specs.declared.driven.Driven.{Driven}
use Rattle.satp_drive_laws.specs.Completing.{end_by}
use Rattle.satp_drive_laws.proofs.QuietLaw.{recoveries-end, resumptions-end-so, starts-end}
use Rattle.satp_gateway_commands.specs.AtGateway as command
use Rattle.satp_log.specs.Journals.{party_of}
use Rattle.satp_outcome.specs.Outcomes.{line_of, status_of}
use Rattle.satp_outcome.specs.Outside.{OutsideState, Printed, SinkState}
use Rattle.satp_outcome.specs.declared.outcome.Outcome.{Outcome}
use Rattle.satp_outcome.specs.declared.outcome.Outcome.TheVariants.{Memory}
use Rattle.satp_peer_commands.specs.Driving as driving
use Rattle.satp_peer_commands.specs.Driving.{Drove, DriveWorks, MayRefuse, TellsEnd, end_line, outcome_of_end, outcome_of_refusal, way_of}
use Rattle.satp_points.specs.Answers.{Tested}
use Rattle.satp_points.specs.States.{GatewayState}
use Rattle.satp_points.specs.declared.fault.Refused.{Refused}
use Rattle.satp_points.specs.declared.fault.Refused.TheVariants as refused
use Rattle.satp_records.specs.declared.stored.Setup.{Setup}
use Rattle.satp_rounds.specs.Conversations.{RoundSettles, commits_now}
use Rattle.satp_rounds.specs.NewSessions.{TransferSettles, accepts_now}
use Rattle.satp_rounds.specs.Resumptions.{ResumptionEnds}
use Rattle.satp_sides.specs.Calls as call
use Rattle.satp_sides.specs.Calls.{Call, Refusal, first_refusal, refusal_of, test}
use Rattle.satp_sides.specs.Calls.Call.{Rescues, Starts, Works}
use Rattle.satp_sides.specs.Others.{session_of}
use Rattle.satp_sides.specs.Points.{Party, Side, Stored, begun, chain_in, most_sessions, records_of, slot, slot_in, tale_of, view_in}
use Rattle.satp_world.specs.Kept.{Names}
use Rattle.satp_world.specs.Worlds.{Gateway, Setting, World, name_at, side_at}
use Rattle.satp_app_laws.specs.Lines.{RecoversSay, ResumesSay, Says, StartsSay, WorksQuietly, status, way}

-- ---- what is printed

way-is : (committed : Bool) → way_of (end_by committed) ≡ Some (way committed)
way-is true = refl
way-is false = refl

status-is : (committed : Bool) → status_of (outcome_of_end (end_by committed)) ≡ status committed
status-is true = refl
status-is false = refl

no-error : (committed : Bool) → line_of (outcome_of_end (end_by committed)) ≡ []
no-error true = refl
no-error false = refl

none-some : {T : Type 0} {x : T} → ◌≡◌ {A = Option T} None (Some x) → ⊥
none-some e = cc e

some-is : {T : Type 0} {x y : T} → Some x ≡ Some y → x ≡ y
some-is e = cc e

module _ (committed : Bool) (s : SessionId) (n : ℕ) (before after : OutsideState) (outcome : Outcome) (quiet : ¬ Rose before.streams.out.faults after.streams.out.faults) where
  says-by : TellsEnd s (record { end = end_by committed; messages = n }) before.streams.out after.streams.out outcome → Says committed s n before after outcome
  says-by (driving.TellsEnd.silent none still is) = absurd (none-some (sym none ∙ way-is committed))
  says-by (driving.TellsEnd.printed by e printed is) =
      record {
        printed = subst (λ (w : List ℕ). Printed (end_line s w n) before.streams.out after.streams.out) (some-is (sym e ∙ way-is committed)) printed;
        error = ap line_of is ∙ no-error committed;
        status_is = ap status_of is ∙ status-is committed;
      }
  says-by (driving.TellsEnd.not_printed by e part is) = absurd (quiet part.0)

says : (committed : Bool) (s : SessionId) (n : ℕ) (before after : OutsideState) (outcome : Outcome) (driven : Driven) → ¬ Rose before.streams.out.faults after.streams.out.faults
    → driven ≡ record { end = end_by committed; messages = n } → TellsEnd s driven before.streams.out after.streams.out outcome → Says committed s n before after outcome
says committed s n before after outcome driven quiet is tells = says-by committed s n before after outcome quiet (subst (λ (d : Driven). TellsEnd s d before.streams.out after.streams.out outcome) is tells)

-- ---- the first call is answered

not-refused : (call : Call) (s : SessionId) (r : Refused) (outcome : Outcome) (before after : ℕ) → MayRefuse r → Tested call None (Err r) → RefusalCounts before after r → ¬ Rose before after → outcome ≢ Memory → outcome ≡ outcome_of_refusal s r → ⊥
not-refused call s refused.Exists outcome before after may (refusal, e, is) counts quiet memory ends = none-some e
not-refused call s (refused.Full count) outcome before after may (refusal, e, is) counts quiet memory ends = none-some e
not-refused call s (refused.Strange named) outcome before after may (refusal, e, is) counts quiet memory ends = none-some e
not-refused call s refused.Site outcome before after may tested counts quiet memory ends = quiet (counts.cause refl)
not-refused call s refused.Memory outcome before after may tested counts quiet memory ends = memory ends
not-refused call s _ outcome before after may tested counts quiet memory ends = absurd may

module _ (st : Setting) (a b : Founding) (g : Gateway) (w : World) (setup : Setup) (t : Told) (peer : Side) (call : Call) (state : GatewayState) (before after : OutsideState) (outcome : Outcome) (work : DriveWorks call state before after outcome) where
  -- no test of it holds over the records of the side
  unrefused : WorksQuietly st a b g w setup t peer call state before after outcome work → refusal_of (party_of setup) (side_at w g).records call ≡ None
      → (r : Refused) → MayRefuse r → Drove call state before after (Err r) → outcome ≡ outcome_of_refusal (session_of call) r → ⊥
  unrefused quiet none r may drove ends =
      let tested = drove.drives.0.answers.tests setup (side_at w g).records quiet.stands.at.holds in
      not-refused call (session_of call) r outcome before.site.faults after.site.faults may (subst (λ (o : Option Refusal). Tested call o (Err r)) none tested) drove.site_counts quiet.site quiet.memory ends

named-slot : (s : SessionId) (xs : List Stored) (v : View) → view_in s xs ≡ Some v → negate (is_some (slot_in s xs)) ≡ false
named-slot s xs v e = ap (λ (o : Option View). negate (is_some (option_map (λ (x : View). slot x (chain_in s xs)) o))) e

rescues-free : (p : Party) (s : SessionId) (xs : List Stored) (v : View) → view_in s xs ≡ Some v → refusal_of p xs (Rescues s) ≡ None
unfolding refusal_of
rescues-free p s xs v e = ap (λ (x : Bool). test x (call.Strange s)) (named-slot s xs v e)

works-free : (p : Party) (s : SessionId) (xs : List Stored) (v : View) → view_in s xs ≡ Some v → refusal_of p xs (Works s) ≡ None
unfolding refusal_of
works-free p s xs v e = ap (λ (x : Bool). test x (call.Strange s)) (named-slot s xs v e)

no-view : (s : SessionId) (xs : List Stored) → records_of s xs ≡ [] → view_in s xs ≡ None
no-view s xs e = ap (λ (l : List Stored). view_of (map (λ x. x.rec) l)) e

not-full : (n m : ℕ) → n < m → nat_le m n ≡ false
not-full n m h = grind (arith, h)

starts-free : (p : Party) (s : SessionId) (terms : Terms) (xs : List Stored) → records_of s xs ≡ [] → begun Origin xs < most_sessions → refusal_of p xs (Starts s terms) ≡ None
unfolding refusal_of
starts-free p s terms xs none room =
    ap (λ (o : Option View). first_refusal (test (is_some (option_map (λ (x : View). slot x (chain_in s xs)) o)) call.Exists ∷ test (nat_le most_sessions (begun Origin xs)) (call.Full most_sessions) ∷ [])) (no-view s xs none)
    ∙ ap (λ (x : Bool). first_refusal (test x (call.Full most_sessions) ∷ [])) (not-full (begun Origin xs) most_sessions room)

-- ---- recover

module _ (st : Setting) (a b : Founding) (g : Gateway) (w : World) (setup : Setup) (t : Told) (peer : Side) (s : SessionId) (q : Gateway) (own : s.gateway ≡ name_at st q) (names : Names w q s) (known : Names w g s) (state : GatewayState) (before after : OutsideState) (outcome : Outcome) where
  abbrev RoundSaid : Type 0
  RoundSaid = (r : RoundSettles st a b w q s g) × (length r.texts ≤ 8) × Says (commits_now w q s) s (length r.texts) before after outcome

  recover-works : (work : DriveWorks (Rescues s) state before after outcome) → WorksQuietly st a b g w setup t peer (Rescues s) state before after outcome work → RoundSaid
  recover-works (driving.DriveWorks.refuses r may drove leaves wire streams ends) quiet =
      absurd (unrefused st a b g w setup t peer (Rescues s) state before after outcome _ quiet (rescues-free (party_of setup) s (side_at w g).records known.0 known.1) r may drove ends)
  recover-works (driving.DriveWorks.drives driven drove tells) quiet =
      let (r, done) = recoveries-end peer st a b g w s drove.at _ _ setup t before.wire.told after.wire.told before.wire.faults after.wire.faults driven quiet.drove q own names known in
      (r, r.settled.short, says (commits_now w q s) s (length r.texts) before after outcome driven quiet.out done.driven_is tells)

  abbrev ChainSaid : Type 0
  ChainSaid = (r : ResumptionEnds st a b w s g) × (length r.texts ≤ 11) × Says (is_committed (tale_of (view_in s (side_at r.after g).records))) s (length r.texts) before after outcome

  resume-works : (work : DriveWorks (Works s) state before after outcome) → WorksQuietly st a b g w setup t peer (Works s) state before after outcome work → ChainSaid
  resume-works (driving.DriveWorks.refuses r may drove leaves wire streams ends) quiet =
      absurd (unrefused st a b g w setup t peer (Works s) state before after outcome _ quiet (works-free (party_of setup) s (side_at w g).records known.0 known.1) r may drove ends)
  resume-works (driving.DriveWorks.drives driven drove tells) quiet =
      let (r, done) = resumptions-end-so peer st a b g w s drove.at _ _ setup t before.wire.told after.wire.told before.wire.faults after.wire.faults driven quiet.drove q own names known in
      (r, r.resumed.short, says (is_committed (tale_of (view_in s (side_at r.after g).records))) s (length r.texts) before after outcome driven quiet.out done.driven_is tells)

-- the same of what stood before the gateway was opened
outside-says : (committed : Bool) (s : SessionId) (n : ℕ) (before other after : OutsideState) (outcome : Outcome) → other.streams ≡ before.streams → Says committed s n other after outcome → Says committed s n before after outcome
outside-says committed s n before other after outcome same said =
    record {
      printed = subst (λ (x : SinkState). Printed (end_line s (way committed) n) x after.streams.out) (ap (λ x. x.out) same) said.printed;
      error = said.error;
      status_is = said.status_is;
    }

pub recovers-say : RecoversSay
recovers-say st a b g w setup t peer s dir before after outcome (command.AtGateway.not_opened streams wire not) quiet q own names known = absurd quiet
recovers-say st a b g w setup t peer s dir before after outcome (command.AtGateway.works state inside opened work) quiet q own names known =
    let other : OutsideState = record before { site = inside } in
    let (r, short, said) = recover-works st a b g w setup t peer s q own names known state other after outcome work quiet in
    (r, short, outside-says (commits_now w q s) s (length r.texts) before other after outcome refl said)

pub resumes-say : ResumesSay
resumes-say st a b g w setup t peer s dir before after outcome (command.AtGateway.not_opened streams wire not) quiet q own names known = absurd quiet
resumes-say st a b g w setup t peer s dir before after outcome (command.AtGateway.works state inside opened work) quiet q own names known =
    let other : OutsideState = record before { site = inside } in
    let (r, short, said) = resume-works st a b g w setup t peer s q own names known state other after outcome work quiet in
    (r, short, outside-says (is_committed (tale_of (view_in s (side_at r.after g).records))) s (length r.texts) before other after outcome refl said)

-- ---- start

module _ (st : Setting) (a b : Founding) (g : Gateway) (w : World) (setup : Setup) (t : Told) (peer : Side) (s : SessionId) (terms : Terms) (none : records_of s (side_at w g).records ≡ []) (room : begun Origin (side_at w g).records < most_sessions) (state : GatewayState) (before after : OutsideState) (outcome : Outcome) where
  abbrev pub TransferSaid : OutsideState → Type 0
  TransferSaid from = (r : TransferSettles st a b w g s terms) × (length r.texts ≤ 11) × (IsTrue (accepts_now w g s terms) → length r.texts ≡ 11) × Says (accepts_now w g s terms) s (length r.texts) from after outcome

  start-works : (work : DriveWorks (Starts s terms) state before after outcome) → WorksQuietly st a b g w setup t peer (Starts s terms) state before after outcome work → TransferSaid before
  start-works (driving.DriveWorks.refuses r may drove leaves wire streams ends) quiet =
      absurd (unrefused st a b g w setup t peer (Starts s terms) state before after outcome _ quiet (starts-free (party_of setup) s terms (side_at w g).records none room) r may drove ends)
  start-works (driving.DriveWorks.drives driven drove tells) quiet =
      let (r, done) = starts-end peer st a b g w s terms drove.at _ _ setup t before.wire.told after.wire.told before.wire.faults after.wire.faults driven quiet.drove none room in
      (r, r.settled.short, r.settled.eleven, says (accepts_now w g s terms) s (length r.texts) before after outcome driven quiet.out done.driven_is tells)

pub starts-say : StartsSay
starts-say st a b g w setup t peer number amount asset from to dir before after outcome (command.AtGateway.not_opened streams wire not) quiet s is own none room = absurd quiet
starts-say st a b g w setup t peer number amount asset from to dir before after outcome (command.AtGateway.works state inside opened (x, is_number, is_own, work)) quiet s is own none room =
    let other : OutsideState = record before { site = inside } in
    let terms = terms_of amount asset from to in
    let named : x.gateway ≡ s.gateway = is_own setup (side_at w g).records quiet.stands.at.holds ∙ ap (λ (p : Party). p.name) quiet.stands.party ∙ sym own in
    let same : x ≡ s = same_session x s named (is_number ∙ sym is) in
    let there : records_of x (side_at w g).records ≡ [] = subst (λ (y : SessionId). records_of y (side_at w g).records ≡ []) (sym same) none in
    let (r, short, eleven, said) = start-works st a b g w setup t peer x terms there room state other after outcome work quiet in
    let here : TransferSaid st a b g w setup t peer x terms there room state other after outcome before = (r, short, eleven, outside-says (accepts_now w g x terms) x (length r.texts) before other after outcome refl said) in
    subst (λ (y : SessionId). (r : TransferSettles st a b w g y terms) × (length r.texts ≤ 11) × (IsTrue (accepts_now w g y terms) → length r.texts ≡ 11) × Says (accepts_now w g y terms) y (length r.texts) before after outcome) same here
