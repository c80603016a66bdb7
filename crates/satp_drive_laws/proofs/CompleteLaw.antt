-- An undisturbed drive is the round, the transfer or the resumption, to its end.
use Rattle.std.proofs.Common.{◌≡◌, ◌≢◌, ◌⊎◌, ◌≤◌, ◌<◌, ◌+◌, inl, inr, Bool, true, false, List, [], ◌∷◌, ◌++◌, length, Option, Some, None, Ok, refl, sym, ap, subst, ◌∙◌, arith, length-append}
use Rattle.std.proofs.lemmas.List.{append_assoc, append-nil}
use Rattle.std.specs.Prelude.{IsTrue, if◌then◌else◌}
use Rattle.satp_base.specs.Calls.{Told}
use Rattle.satp_base.specs.Founding.{Founding}
use Rattle.satp_base.specs.Tales.{is_committed, is_whole}
use Rattle.satp_base.specs.declared.session.SessionId.{SessionId}
use Rattle.satp_http.specs.declared.responses.Answered.{Answered}
use Rattle.satp_points.specs.States.{IsAt, area_of, kept_of, steps_of}
use Rattle.satp_records.specs.declared.stored.Setup.{Setup}
use Rattle.satp_sides.specs.Calls.{Call, run_of, success_text}
use Rattle.satp_sides.specs.Calls.Call.{Rescues, Starts, Works}
use Rattle.satp_sides.specs.Others.{session_of}
use Rattle.satp_sides.specs.Points.{Party, Says, Side, Stored, Text, begun, chain_in, most_sessions, records_of, tale_of, view_in}
use Rattle.satp_stops.specs.Stops.{told_steps}
use Rattle.satp_points.specs.Answers.{Answers}
use Rattle.satp_world.specs.Histories.{MayCall, after_event, after_moves, call_moves}
use Rattle.satp_world.specs.Kept.{Names}
use Rattle.satp_base.specs.declared.message.Role.TheVariants.{Origin}
use Rattle.satp_base.specs.declared.message.Terms.{Terms}
use Rattle.satp_world.specs.Histories.Event.{Called}
use Rattle.satp_world.specs.Worlds.{Gateway, Reached, Setting, World, name_at, opposite, party_at, session_in, side_at}
use Rattle.satp_world.specs.Worlds.Gateway.{A, B}
use Rattle.satp_point_laws.specs.Happening.{StandsIn}
use Rattle.satp_rounds.specs.Conversations.{Converses, Hands, Round, commits_now}
use Rattle.satp_rounds.specs.NewSessions.{Transfer, accepts_now}
use Rattle.satp_rounds.specs.Resumptions.{Posts as PostsFirst, Resumption}
use Rattle.satp_rounds.proofs.Once.{reply-once}
use Rattle.satp_rounds.proofs.SettleWorlds.{rounds-settle-worlds}
use Rattle.satp_rounds.proofs.Starting.{transfers-settle-worlds}
use Rattle.satp_rounds.proofs.ResumeWorlds.{resumptions-end}
use Rattle.satp_drive.specs.Calling.{Standing}
use Rattle.satp_drive.specs.Drives as drives
use Rattle.satp_drive.specs.Drives.{AfterAnswer, AfterAnswers, AfterReply, end_of, most_posts, tale_in, texts_in, unreplied}
use Rattle.satp_drive.specs.declared.driven.DriveEnd.{DriveEnd}
use Rattle.satp_drive.specs.declared.turn.Turn.{Turn}
use Rattle.satp_drive.specs.declared.turn.Turn.TheVariants.{Posts, Ends}
use Rattle.satp_drive.specs.declared.driven.DriveEnd.TheVariants.{Memory, Silent, Site}
use Rattle.satp_drive_laws.specs.Peer.{IsSide, PeerAnswers}
use Rattle.satp_drive_laws.specs.Undisturbed.{BothStand, Undisturbed, messages, passed}
use Rattle.satp_drive.specs.Driving.{owes_success}
use Rattle.satp_drive_laws.specs.Completing.{Comes, PostsNext, RecoveriesComplete, RecoveriesCompleteTo, ResumptionsComplete, ResumptionsCompleteTo, StartsComplete, StartsCompleteTo, end_by}
use Rattle.satp_runs.proofs.OneSideLaw.{one-event, side-after}
use Rattle.satp_runs.proofs.Stepping.{call-steps}
use Rattle.satp_drive_laws.proofs.Walking.{HeardNext, Left, NeverLacks, Takes, after-end, call-says, hands-other, passed-204, passed-count, peer-side, peer-takes, silent-turn, walk}

-- the chain is whole
open-turn : (p : Party) (s : SessionId) (xs : List Stored) → is_whole (tale_in s xs) ≡ true → unreplied p s false xs ≡ Ends (end_of (tale_in s xs))
open-turn p s xs e = ap (λ (c : Bool). if c then Ends (end_of (tale_in s xs)) else Ends Silent) e

owed-turn : (p : Party) (s : SessionId) (xs : List Stored) → is_whole (tale_in s xs) ≡ true → unreplied p s true xs ≡ Posts (success_text p s (chain_in s xs)) false
owed-turn p s xs e = ap (λ (c : Bool). if c then Posts (success_text p s (chain_in s xs)) false else Ends Silent) e

next-longer : (next : Turn) (first texts more longer : List Text) → longer ≡ texts ++ more → PostsNext next first texts → PostsNext next first longer
next-longer (Posts t owed) first texts more longer is (rest, e) = (rest ++ more, is ∙ ap (λ (l : List Text). l ++ more) e ∙ append_assoc first (t ∷ rest) more)
next-longer (Ends e) first texts more longer is next = absurd next

-- what a gateway keeps of a session whose two tales are one
tale-at : (w : World) (q g : Gateway) (s : SessionId) → tale_of (session_in w q s).a ≡ tale_of (session_in w q s).b → tale_of (view_in s (side_at w g).records) ≡ tale_of (session_in w q s).a
tale-at w A A s e = refl
tale-at w A B s e = sym e
tale-at w B A s e = sym e
tale-at w B B s e = refl

-- no text is left
none-left : (R : Side → List Text → List Answered → Type 0) (side : Side) (posted : List Text) (answers : List Answered) → posted ≡ [] → answers ≡ [] → R side posted answers → R side [] []
none-left R side posted answers none_posted none_answers answered = subst (λ (l : List Answered). R side [] l) none_answers (subst (λ (l : List Text). R side l answers) none_posted answered)

-- the drive goes on to no text
ended-next : (next : Turn) (e : DriveEnd) (L : Text → Type 0) → next ≡ Ends e → HeardNext next L
ended-next next e L is t owed posts lacks = absurd (let bad : ◌≡◌ {A = Turn} (Ends e) (Posts t owed) = sym is ∙ posts in cc bad)

-- An undisturbed drive whose texts are answered so.
pub record UndisturbedBy (st : Setting) (a b : Founding) (g : Gateway) (w : World) (call : Call) (old begun new : Standing) (setup : Setup) (t : Told) (posted : List Text) (answers : List Answered) (next : Turn) (R : Side → List Text → List Answered → Type 0) : Type 0 where
  pub reached : Reached st a b w
  pub stands : StandsIn st w g old.gateway old.site setup t
  pub may : MayCall st w g call
  pub reply : Option Text
  pub called : Answers call old.gateway begun.gateway old.site begun.site (Ok reply)
  pub first : Turn
  pub follows : AfterReply (session_of call) (owes_success call) begun.gateway reply first
  pub leads : AfterAnswers (session_of call) begun first answers posted new next
  pub answered : R (side_at w (opposite g)) posted answers
  pub memory : next ≢ Ends Memory
  pub site : next ≢ Ends Site

module _ (st : Setting) (a b : Founding) (g : Gateway) (w : World) (call : Call) (old begun new : Standing) (setup : Setup) (t : Told) (posted : List Text) (answers : List Answered) (next : Turn)
    (P : Side → Type 0) (R : Side → List Text → List Answered → Type 0) (L : Text → Type 0) (takes : Takes st g R) (never : NeverLacks st g R L) (ends : (side : Side) → R side [] [] → P side)
    (drive : UndisturbedBy st a b g w call old begun new setup t posted answers next R) where
  abbrev w1 : World
  w1 = after_event st w (Called g call)

  abbrev s1 : SessionId
  s1 = session_of call

  abbrev first-told : Told
  first-told = told_steps (kept_of (area_of old.gateway) setup (side_at w g)) (steps_of (call_moves st w g call)) t

  -- the call
  record Begun : Type 0 where
    stands : StandsIn st w1 g begun.gateway begun.site setup first-told
    reached : Reached st a b w1
    answer : (run_of (party_at st g) (side_at w g) call).answer ≡ Some (Ok drive.reply)

  begins : Begun
  begins =
      let steps = call-steps call old.gateway begun.gateway old.site begun.site setup (side_at w g) t drive.stands.at (party_at st g) drive.stands.party (Ok drive.reply) drive.called tt in
      record {
        stands = record { party = drive.stands.party; at = subst (λ (z : Side). IsAt begun.gateway begun.site setup z first-told) (sym (side-after w g _ _)) steps.0.1 };
        reached = one-event st a b w drive.reached (Called g call) drive.may;
        answer = steps.1;
      }

  -- this gateway's call leaves the other one
  answered-there : R (side_at w1 (opposite g)) posted answers
  answered-there = subst (λ (z : Side). R z posted answers) (sym (peer-side w g _ _)) drive.answered

  abbrev Walked : World → List Text → Type 0
  Walked between said = Left st a b g s1 setup new next P drive.memory drive.site R L takes never ends (owes_success call) between posted answers said
      ⊎ (PostsNext next (passed posted answers) said × (length posted ≤ length said) × HeardNext next L × ((now : World) × BothStand st a b g now new setup P))

  count-is : (said : List Text) → passed posted answers ≡ said → messages posted answers ≡ length said
  count-is said is = sym (passed-count s1 answers posted begun new drive.first next drive.leads) ∙ ap length is

  -- it posts the first text
  walks : (first : Text) → (run_of (party_at st g) (side_at w g) call).answer ≡ Some (Ok (Some first)) → (said : List Text) (between : World) → Converses st w1 (opposite g) first said between → Walked between said
  walks first is said between conv =
      let reply : drive.reply ≡ Some first = reply-once drive.reply (Some first) (sym begins.answer ∙ is) in
      let turn : drive.first ≡ Posts first (owes_success call) = subst (λ (o : Option Text). AfterReply s1 (owes_success call) begun.gateway o drive.first) reply drive.follows in
      let leads = subst (λ (x : Turn). AfterAnswers s1 begun x answers posted new next) turn drive.leads in
      elim (walk st a b g s1 setup new next P drive.memory drive.site R L takes never ends (owes_success call) between answers posted first w1 begun first-told said begins.reached begins.stands (call-says st w g call first is) conv leads answered-there) [
        | inl left ↦ inl left
        | inr amid ↦ inr (amid.posts_next, amid.few, amid.heard, (amid.now, amid.both))
      ]

  -- where nothing is owed, the chain is whole at its end
  ends-plain : owes_success call ≡ false → (between : World) (said : List Text) → length said < most_posts → is_whole (tale_in s1 (side_at between g).records) ≡ true → Walked between said
      → Comes st a b g new setup P (end_of (tale_in s1 (side_at between g).records)) said between posted answers next × HeardNext next L
  ends-plain owes between said short whole (inr (posts, few, heard, (now, both))) = ((now, inr (posts, omega (arith, few, short)), both), heard)
  ends-plain owes between said short whole (inl left) =
      let xs = (side_at between g).records in
      let turn : unreplied (party_at st g) s1 (owes_success call) xs ≡ Ends (end_of (tale_in s1 xs)) = ap (λ (c : Bool). unreplied (party_at st g) s1 c xs) owes ∙ open-turn (party_at st g) s1 xs whole in
      let end = after-end st a b g s1 setup new next P drive.memory drive.site R L takes never ends left.m (end_of (tale_in s1 xs)) left.more_answers left.more_posted (subst (λ (x : Turn). AfterAnswers s1 left.m x left.more_answers left.more_posted new next) turn left.leads) in
      let other : P (side_at between (opposite g)) = ends (side_at between (opposite g)) (none-left R (side_at between (opposite g)) left.more_posted left.more_answers end.1 end.2 left.answered) in
      let all : passed posted answers ≡ said = left.texts ∙ (λ i. said ++ passed (end.1 i) (end.2 i)) ∙ append-nil said in
      let stands = subst (λ (z : Standing). StandsIn st between g z.gateway z.site setup left.t) (sym end.3) left.stands in
      ((between, inl (end.0, all, count-is said all, refl), record { reached = left.reached; stands = (left.t, stands); other = other }), ended-next next (end_of (tale_in s1 xs)) L end.0)

module _ (st : Setting) (a b : Founding) (g : Gateway) (w : World) (P : Side → Type 0) (R : Side → List Text → List Answered → Type 0) (L : Text → Type 0) (takes : Takes st g R) (never : NeverLacks st g R L) (ends : (side : Side) → R side [] [] → P side) where
  -- ---- a transfer

  pub starts-by : (s : SessionId) (terms : Terms) (old begun_ new : Standing) (setup : Setup) (t : Told) (posted : List Text) (answers : List Answered) (next : Turn)
      → UndisturbedBy st a b g w (Starts s terms) old begun_ new setup t posted answers next R → records_of s (side_at w g).records ≡ [] → begun Origin (side_at w g).records < most_sessions
      → (texts : List Text) (after : World) → Transfer st w g s terms texts after → Comes st a b g new setup P (end_by (accepts_now w g s terms)) texts after posted answers next × HeardNext next L
  starts-by s terms old begun_ new setup t posted answers next drive none room texts after transfer =
      let ts = transfers-settle-worlds st a b w drive.reached g s drive.may none room terms in
      let only = ts.only texts after transfer in
      let x = ts.transfer in
      let settled = ts.settled.settled in
      let walked = walks st a b g w (Starts s terms) old begun_ new setup t posted answers next P R L takes never ends drive x.proposal x.start ts.texts ts.after x.converses in
      let done = ends-plain st a b g w (Starts s terms) old begun_ new setup t posted answers next P R L takes never ends drive refl ts.after ts.texts (let short = ts.settled.short in omega (arith, short)) settled.1.1 walked in
      let end : end_of (tale_in s (side_at ts.after g).records) ≡ end_by (accepts_now w g s terms) = ap end_by ts.settled.outcome in (
        subst (λ (e : DriveEnd). Comes st a b g new setup P e texts after posted answers next) end
            (subst (λ (l : List Text). Comes st a b g new setup P (end_of (tale_in s (side_at ts.after g).records)) l after posted answers next) (sym only.0)
            (subst (λ (v : World). Comes st a b g new setup P (end_of (tale_in s (side_at ts.after g).records)) ts.texts v posted answers next) (sym only.1) done.0)),
        done.1,
      )

  -- ---- a session that is resumed

  pub resumptions-by : (s : SessionId) (old begun new : Standing) (setup : Setup) (t : Told) (posted : List Text) (answers : List Answered) (next : Turn)
      → UndisturbedBy st a b g w (Works s) old begun new setup t posted answers next R → (q : Gateway) → s.gateway ≡ name_at st q → Names w q s → Names w g s → (texts : List Text) (after : World) → Resumption st w g s texts after
      → Comes st a b g new setup P (end_by (is_committed (tale_of (view_in s (side_at after g).records)))) texts after posted answers next × HeardNext next L
  resumptions-by s old begun new setup t posted answers next drive q is names known texts after resumption =
      let rs = resumptions-end st a b w drive.reached q s is names g known in
      let only = rs.only texts after resumption in
      let done = by-first rs.texts rs.after rs.resumption.first rs.resumption.work rs.resumption.posts rs.resumed.whole (let short = rs.resumed.short in omega (arith, short)) in (
        subst (λ (l : List Text). Comes st a b g new setup P (end_by (is_committed (tale_of (view_in s (side_at after g).records)))) l after posted answers next) (sym only.0)
            (subst (λ (v : World). Comes st a b g new setup P (end_by (is_committed (tale_of (view_in s (side_at v g).records)))) rs.texts v posted answers next) (sym only.1) done.0),
        done.1,
      )
    where
      begun-at : Begun st a b g w (Works s) old begun new setup t posted answers next P R L takes never ends drive
      begun-at = begins st a b g w (Works s) old begun new setup t posted answers next P R L takes never ends drive

      by-first : (said : List Text) (v : World) (first : Option Text) → (run_of (party_at st g) (side_at w g) (Works s)).answer ≡ Some (Ok first) → PostsFirst st (after_event st w (Called g (Works s))) g first said v
          → IsTrue (is_whole (tale_of (view_in s (side_at v g).records))) → length said < most_posts
          → Comes st a b g new setup P (end_by (is_committed (tale_of (view_in s (side_at v g).records)))) said v posted answers next × HeardNext next L
      by-first said v (Some first) answer conv whole short =
          ends-plain st a b g w (Works s) old begun new setup t posted answers next P R L takes never ends drive refl v said short whole
          (walks st a b g w (Works s) old begun new setup t posted answers next P R L takes never ends drive first answer said v conv)
      by-first said v None answer (no_texts, same) whole short =
          let w2 = after_event st w (Called g (Works s)) in
          let reply : drive.reply ≡ None = reply-once drive.reply None (sym begun-at.answer ∙ answer) in
          let follows = subst (λ (o : Option Text). AfterReply s false begun.gateway o drive.first) reply drive.follows in
          let told = first-told st a b g w (Works s) old begun new setup t posted answers next P R L takes never ends drive in
          let turn = silent-turn st a b g s setup new next P drive.memory drive.site R L takes never ends begun false w2 told begun-at.stands drive.first follows answers posted drive.leads in
          let xs = (side_at w2 g).records in
          let whole-there : is_whole (tale_in s xs) ≡ true = subst (λ (z : World). is_whole (tale_of (view_in s (side_at z g).records)) ≡ true) same whole in
          let leads = subst (λ (x : Turn). AfterAnswers s begun x answers posted new next) (turn ∙ open-turn (party_at st g) s xs whole-there) drive.leads in
          let end = after-end st a b g s setup new next P drive.memory drive.site R L takes never ends begun (end_of (tale_in s xs)) answers posted leads in
          let there : P (side_at w2 (opposite g)) = ends (side_at w2 (opposite g)) (none-left R (side_at w2 (opposite g)) posted answers end.1 end.2 (answered-there st a b g w (Works s) old begun new setup t posted answers next P R L takes never ends drive)) in
          let all : passed posted answers ≡ said = (λ i. passed (end.1 i) (end.2 i)) ∙ sym no_texts in
          let count = count-is st a b g w (Works s) old begun new setup t posted answers next P R L takes never ends drive said all in
          let stands = subst (λ (z : Standing). StandsIn st w2 g z.gateway z.site setup told) (sym end.3) begun-at.stands in
          let end-is = subst (λ (z : World). next ≡ Ends (end_by (is_committed (tale_of (view_in s (side_at z g).records))))) (sym same) end.0 in
          ((w2, inl (end-is, all, count, sym same), record { reached = begun-at.reached; stands = (told, stands); other = there }), ended-next next _ L end-is)

-- ---- a round

module _ (st : Setting) (a b : Founding) (g : Gateway) (w : World) (s : SessionId) (old begun new : Standing) (setup : Setup) (t : Told) (posted : List Text) (answers : List Answered) (next : Turn)
    (P : Side → Type 0) (R : Side → List Text → List Answered → Type 0) (L : Text → Type 0) (takes : Takes st g R) (never : NeverLacks st g R L) (ends : (side : Side) → R side [] [] → P side)
    (drive : UndisturbedBy st a b g w (Rescues s) old begun new setup t posted answers next R) (texts : List Text) (after : World) (r : Round st w g s texts after) (reached : Reached st a b after) (short : length texts ≤ 8)
    (whole : is_whole (tale_in s (side_at r.between g).records) ≡ true) where
  abbrev xs : List Stored
  xs = (side_at r.between g).records

  abbrev success : Text
  success = success_text (party_at st g) s (chain_in s xs)

  abbrev closing : World
  closing = after_moves r.between g (Says success ∷ [])

  abbrev Closed : Type 0
  Closed = Comes st a b g new setup P (end_of (tale_in s xs)) texts after posted answers next × HeardNext next L

  one-more : length texts ≡ length r.said + 1
  one-more = ap length r.all ∙ length-append r.said (r.success ∷ [])

  amid-round : PostsNext next (passed posted answers) r.said → length posted ≤ length r.said → HeardNext next L → (now : World) → BothStand st a b g now new setup P → Closed
  amid-round posts few heard now both = ((now, inr (next-longer next (passed posted answers) r.said (r.success ∷ []) texts r.all posts, omega (arith, few, short, one-more)), both), heard)

  hears-success : Hands st closing (opposite g) success None after
  hears-success = subst (λ (z : Text). Hands st (after_moves r.between g (Says z ∷ [])) (opposite g) z None after) r.closes r.hears

  -- `recover-success` was answered
  last-answer : (m middle : Standing) (u : Told) (answer : Answered) (ma : List Answered) (mp later : List Text) (turn : Turn)
      → StandsIn st r.between g m.gateway m.site setup u → passed posted answers ≡ r.said ++ passed mp (answer ∷ ma) → mp ≡ success ∷ later
      → answer.code ≡ 204 → R (side_at after (opposite g)) later ma
      → AfterAnswer s false m answer middle turn → AfterAnswers s middle turn ma later new next → Closed
  last-answer m middle u answer ma mp later turn stands count is code rest (drives.AfterAnswer.brings_text is200 handles) leads =
      absurd (let bad : 204 ≡ 200 = sym code ∙ is200 in omega (arith, bad))
  last-answer m middle u answer ma mp later turn stands count is code rest (drives.AfterAnswer.refuses not200 not204 stays ends) leads =
      absurd (not204 code)
  last-answer m middle u answer ma mp later turn stands count is code rest (drives.AfterAnswer.brings_none is204 stays follows) leads =
      let side : side_at after g ≡ side_at r.between g = hands-other st closing g success None after hears-success ∙ side-after r.between g _ _ in
      let at-v : StandsIn st after g m.gateway m.site setup u = record { party = stands.party; at = subst (λ (z : Side). IsAt m.gateway m.site setup z u) (sym side) stands.at } in
      let leads' = subst (λ (z : Standing). AfterAnswers s z turn ma later new next) stays leads in
      let turn-is = silent-turn st a b g s setup new next P drive.memory drive.site R L takes never ends m false after u at-v turn follows ma later leads' in
      let turn-ends = turn-is ∙ ap (λ (z : Side). unreplied (party_at st g) s false z.records) side ∙ open-turn (party_at st g) s xs whole in
      let end = after-end st a b g s setup new next P drive.memory drive.site R L takes never ends m (end_of (tale_in s xs)) ma later (subst (λ (z : Turn). AfterAnswers s m z ma later new next) turn-ends leads') in
      let other : P (side_at after (opposite g)) = ends (side_at after (opposite g)) (none-left R (side_at after (opposite g)) later ma end.1 end.2 rest) in
      let last : passed mp (answer ∷ ma) ≡ success ∷ [] = ap (λ (l : List Text). passed l (answer ∷ ma)) is ∙ passed-204 success later answer ma code ∙ (λ i. success ∷ passed (end.1 i) (end.2 i)) in
      let all : passed posted answers ≡ texts = count ∙ ap (λ (l : List Text). r.said ++ l) last ∙ ap (λ (z : Text). r.said ++ z ∷ []) (sym r.closes) ∙ sym r.all in
      let stood = subst (λ (z : Standing). StandsIn st after g z.gateway z.site setup u) (sym end.3) at-v in
      ((after, inl (end.0, all, count-is st a b g w (Rescues s) old begun new setup t posted answers next P R L takes never ends drive texts all, refl), record { reached = reached; stands = (u, stood); other = other }), ended-next next _ L end.0)

  closes : (m : Standing) (u : Told) (ma : List Answered) (mp : List Text) → Reached st a b r.between → StandsIn st r.between g m.gateway m.site setup u → passed posted answers ≡ r.said ++ passed mp ma → length posted ≤ length r.said + length mp
      → AfterAnswers s m (Posts success false) ma mp new next → R (side_at r.between (opposite g)) mp ma → Closed
  closes m u [] mp there stands count few leads rest =
      let none : length mp ≡ 0 = ap length leads.0 in
      let all : passed posted answers ≡ r.said = count ∙ ap (λ (l : List Text). r.said ++ passed l []) leads.0 ∙ append-nil r.said in
      let here : R (side_at r.between (opposite g)) [] [] = none-left R (side_at r.between (opposite g)) mp [] leads.0 refl rest in
      let next-is : texts ≡ passed posted answers ++ success ∷ [] = r.all ∙ ap (λ (z : Text). r.said ++ z ∷ []) r.closes ∙ ap (λ (l : List Text). l ++ success ∷ []) (sym all) in
      let stood = subst (λ (z : Standing). StandsIn st r.between g z.gateway z.site setup u) (sym leads.1) stands in (
        (
          r.between,
          inr (subst (λ (z : Turn). PostsNext z (passed posted answers) texts) (sym leads.2) ([], next-is), omega (arith, few, none, short, one-more)),
          record { reached = there; stands = (u, stood); other = ends (side_at r.between (opposite g)) here },
        ),
        λ z o is lacks. never closing after success None hears-success (λ v bad. cc bad) (subst (λ (x : Side). R x [] []) (sym (peer-side r.between g _ _)) here) (subst L (posted-text z o (sym is ∙ leads.2)) lacks),
      )
    where
      posted-text : (z : Text) (o : Bool) → ◌≡◌ {A = Turn} (Posts z o) (Posts success false) → z ≡ success
      posted-text z o e = cc e
  closes m u (answer ∷ ma) mp there stands count few leads rest =
      let said : R (side_at closing (opposite g)) mp (answer ∷ ma) = subst (λ (z : Side). R z mp (answer ∷ ma)) (sym (peer-side r.between g _ _)) rest in
      let here : R (side_at closing (opposite g)) (success ∷ leads.2) (answer ∷ ma) = subst (λ (l : List Text). R (side_at closing (opposite g)) l (answer ∷ ma)) leads.4 said in
      let given = takes closing after success None leads.2 answer ma hears-success (λ v bad. cc bad) here in
      last-answer m leads.0 u answer ma mp leads.2 leads.1 stands count leads.4 given.0 given.1 leads.3 leads.5

  round-ends : Closed
  round-ends = elim (walks st a b g w (Rescues s) old begun new setup t posted answers next P R L takes never ends drive r.recover r.rescue r.said r.between r.converses) [
    | inl left ↦ closes left.m left.t left.more_answers left.more_posted left.reached left.stands left.texts left.posts
        (subst (λ (x : Turn). AfterAnswers s left.m x left.more_answers left.more_posted new next) (owed-turn (party_at st g) s xs whole) left.leads) left.answered
    | inr (posts, few, heard, (now, both)) ↦ amid-round posts few heard now both
  ]

  same-side : side_at after g ≡ side_at r.between g
  same-side = hands-other st closing g success None after hears-success ∙ side-after r.between g _ _

module _ (st : Setting) (a b : Founding) (g : Gateway) (w : World) (P : Side → Type 0) (R : Side → List Text → List Answered → Type 0) (L : Text → Type 0) (takes : Takes st g R) (never : NeverLacks st g R L) (ends : (side : Side) → R side [] [] → P side) where
  pub recoveries-by : (s : SessionId) (old begun new : Standing) (setup : Setup) (t : Told) (posted : List Text) (answers : List Answered) (next : Turn)
      → UndisturbedBy st a b g w (Rescues s) old begun new setup t posted answers next R → (q : Gateway) → s.gateway ≡ name_at st q → Names w q s → Names w g s → (texts : List Text) (after : World) → Round st w g s texts after
      → Comes st a b g new setup P (end_by (commits_now w q s)) texts after posted answers next × HeardNext next L
  recoveries-by s old begun new setup t posted answers next drive q is names known texts after round =
      let rs = rounds-settle-worlds st a b w drive.reached q s is names g known in
      let only = rs.only texts after round in
      let done = round-ends st a b g w s old begun new setup t posted answers next P R L takes never ends drive rs.texts rs.after rs.round rs.settled.reached rs.settled.short rs.succeeds.1 in
      let side = same-side st a b g w s old begun new setup t posted answers next P R L takes never ends drive rs.texts rs.after rs.round rs.settled.reached rs.settled.short rs.succeeds.1 in
      let tale : tale_in s (side_at rs.round.between g).records ≡ tale_of (session_in rs.after q s).a = ap (λ (z : Side). tale_in s z.records) (sym side) ∙ tale-at rs.after q g s rs.settled.settled.1.0 in
      let end : end_of (tale_in s (side_at rs.round.between g).records) ≡ end_by (commits_now w q s) = ap end_of tale ∙ ap end_by rs.settled.outcome in (
        subst (λ (e : DriveEnd). Comes st a b g new setup P e texts after posted answers next) end
            (subst (λ (l : List Text). Comes st a b g new setup P (end_of (tale_in s (side_at rs.round.between g).records)) l after posted answers next) (sym only.0)
            (subst (λ (v : World). Comes st a b g new setup P (end_of (tale_in s (side_at rs.round.between g).records)) rs.texts v posted answers next) (sym only.1) done.0)),
        done.1,
      )

-- ---- what the other gateway answers

module _ (P : Side → Type 0) (st : Setting) (g : Gateway) where
  abbrev Rest : Side → List Text → List Answered → Type 0
  Rest side posted answers = PeerAnswers (party_at st (opposite g)) side posted answers P

  abbrev Nothing_lacks : Text → Type 0
  Nothing_lacks t = ⊥

  none-lacks : NeverLacks st g Rest Nothing_lacks
  none-lacks w v t reply hands short rest lacks = lacks

  as-drive : (a b : Founding) (w : World) (call : Call) (old begun new : Standing) (setup : Setup) (t : Told) (posted : List Text) (answers : List Answered) (next : Turn)
      → Undisturbed st a b g w call old begun new setup t posted answers next P → UndisturbedBy st a b g w call old begun new setup t posted answers next Rest
  as-drive a b w call old begun new setup t posted answers next drive = record {
    reached = drive.reached;
    stands = drive.stands;
    may = drive.may;
    reply = drive.reply;
    called = drive.called;
    first = drive.first;
    follows = drive.follows;
    leads = drive.leads;
    answered = drive.answered;
    memory = drive.memory;
    site = drive.site;
  }

pub recoveries-complete-to : (P : Side → Type 0) → RecoveriesCompleteTo P
recoveries-complete-to P st a b g w s old begun new setup t posted answers next drive q is names known texts after round =
    (recoveries-by st a b g w P (Rest P st g) (Nothing_lacks P st g) (peer-takes st g P) (none-lacks P st g) (λ side rest. rest) s old begun new setup t posted answers next
    (as-drive P st g a b w (Rescues s) old begun new setup t posted answers next drive) q is names known texts after round).0

pub starts-complete-to : (P : Side → Type 0) → StartsCompleteTo P
starts-complete-to P st a b g w s terms old begun_ new setup t posted answers next drive none room texts after transfer =
    (starts-by st a b g w P (Rest P st g) (Nothing_lacks P st g) (peer-takes st g P) (none-lacks P st g) (λ side rest. rest) s terms old begun_ new setup t posted answers next
    (as-drive P st g a b w (Starts s terms) old begun_ new setup t posted answers next drive) none room texts after transfer).0

pub resumptions-complete-to : (P : Side → Type 0) → ResumptionsCompleteTo P
resumptions-complete-to P st a b g w s old begun new setup t posted answers next drive q is names known texts after resumption =
    (resumptions-by st a b g w P (Rest P st g) (Nothing_lacks P st g) (peer-takes st g P) (none-lacks P st g) (λ side rest. rest) s old begun new setup t posted answers next
    (as-drive P st g a b w (Works s) old begun new setup t posted answers next drive) q is names known texts after resumption).0

-- ---- whatever side the other gateway comes to

pub recoveries-complete : RecoveriesComplete
recoveries-complete peer = recoveries-complete-to (IsSide peer)

pub starts-complete : StartsComplete
starts-complete peer = starts-complete-to (IsSide peer)

pub resumptions-complete : ResumptionsComplete
resumptions-complete peer = resumptions-complete-to (IsSide peer)
