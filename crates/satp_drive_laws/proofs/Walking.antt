-- An undisturbed drive goes along the texts that pass between both gateways.
use Rattle.std.proofs.Common.{◌≡◌, ◌≢◌, ◌⊎◌, ◌≤◌, ◌+◌, ◌==◌, inl, inr, suc, Bool, true, false, List, [], ◌∷◌, ◌++◌, length, Option, Some, None, Result, Ok, Err, refl, sym, ap, subst, ◌∙◌, arith}
use Rattle.satp_base.specs.Calls.{Told}
use Rattle.satp_base.specs.Founding.{Founding}
use Rattle.satp_base.specs.declared.session.SessionId.{SessionId}
use Rattle.satp_http.specs.declared.responses.Answered.{Answered}
use Rattle.satp_points.specs.Answers.{Answers}
use Rattle.satp_points.specs.States.{IsAt, area_of, kept_of, steps_of}
use Rattle.satp_points.specs.declared.fault.Refused.{Refused}
use Rattle.satp_points.specs.declared.fault.Refused.TheVariants as refused
use Rattle.satp_records.specs.declared.stored.Setup.{Setup}
use Rattle.satp_sides.specs.Calls.{Call, Refusal, run_of}
use Rattle.satp_sides.specs.Calls.Call.{Hears}
use Rattle.satp_sides.specs.Moves.{Among}
use Rattle.satp_sides.specs.Moves.Delivered.{Alone}
use Rattle.satp_sides.specs.Points.{Party, Side, Text}
use Rattle.satp_stops.specs.Stops.{told_steps}
use Rattle.satp_world.specs.Histories.{after_event, call_moves}
use Rattle.satp_world.specs.Histories.Event.{Called}
use Rattle.satp_world.specs.Worlds.{Gateway, Reached, Setting, World, opposite, party_at, side_at, with_side}
use Rattle.satp_world.specs.Worlds.Gateway.{A, B}
use Rattle.satp_world.proofs.SenderLaw.{said-is-short}
use Rattle.satp_point_laws.specs.Happening.{StandsIn}
use Rattle.satp_rounds.specs.Conversations.{Converses, Hands}
use Rattle.satp_rounds.specs.Conversations as conversations
use Rattle.satp_rounds.specs.Conversations.Hands.{Heard}
use Rattle.satp_rounds.proofs.Once.{reply-once}
use Rattle.satp_runs.specs.Asking.{IsAnswered}
use Rattle.satp_runs.specs.Asking as asking
use Rattle.satp_gateway.specs.Handling.{reply_of, text_in}
use Rattle.satp_gateway.specs.declared.handle.Reply.{Reply}
use Rattle.satp_drive.specs.Calling.{Handled, Standing}
use Rattle.satp_runs.specs.Living.{AnswersAs}
use Rattle.satp_drive.specs.Drives.{AfterAnswer, AfterAnswers, AfterHandling, AfterReply, Handles, refusal_end, texts_in, unreplied}
use Rattle.satp_drive.specs.declared.driven.DriveEnd.{DriveEnd}
use Rattle.satp_drive.specs.declared.turn.Turn.{Turn}
use Rattle.satp_drive.specs.Drives as drives
use Rattle.satp_drive.specs.declared.turn.Turn.TheVariants.{Posts, Ends}
use Rattle.satp_drive.specs.declared.driven.DriveEnd.TheVariants.{Memory, Site}
use Rattle.satp_drive_laws.specs.Peer.{IsAnswer, IsAnswerOf, PeerAnswers}
use Rattle.satp_drive_laws.specs.Undisturbed.{BothStand, messages, passed}
use Rattle.satp_drive_laws.specs.Completing.{PostsNext}
use Rattle.satp_runs.proofs.OneSideLaw.{one-event, other-side, side-after}
use Rattle.satp_runs.proofs.Asks.{is-answered}
use Rattle.satp_runs.proofs.Reading.{heard-answers}
use Rattle.satp_drive_laws.proofs.Saying.{says-answer}
use Rattle.satp_runs.proofs.Stepping.{call-steps}

twice-opposite : (g : Gateway) → opposite (opposite g) ≡ g
twice-opposite A = refl
twice-opposite B = refl

bag-after : (w : World) (g : Gateway) (side : Side) (bag : List Text) → (with_side w g side bag).bag ≡ bag
bag-after w A side bag = refl
bag-after w B side bag = refl

some-text : (t u : Text) → ◌≡◌ {A = Option Text} (Some t) (Some u) → t ≡ u
some-text t u e = cc e

-- what is answered is in the bag
pub call-says : (st : Setting) (w : World) (g : Gateway) (call : Call) (t : Text) → (run_of (party_at st g) (side_at w g) call).answer ≡ Some (Ok (Some t)) → Among t (after_event st w (Called g call)).bag
call-says st w g call t e = subst (Among t) (sym (bag-after w g _ _)) (says-answer (party_at st g) (side_at w g) call t e w.bag)

-- ---- a text that is handed over

pub record Handed (st : Setting) (a b : Founding) (w : World) (g : Gateway) (reply : Option Text) (v : World) : Type 0 where
  pub reached : Reached st a b v
  pub said : (u : Text) → reply ≡ Some u → Among u v.bag

pub hands-go : (st : Setting) (a b : Founding) (w : World) (g : Gateway) (t : Text) (reply : Option Text) (v : World) → Reached st a b w → Among t w.bag → Hands st w g t reply v → Handed st a b w g reply v
hands-go st a b w g t _ _ reached among (Heard m e reply heard answer) = record {
  reached = one-event st a b w reached (Called g (Hears m t e)) (heard, Alone among);
  said = λ u is. call-says st w g (Hears m t e) u (answer ∙ ap (λ (o : Option Text). Some (Ok o)) is);
}

pub hands-other : (st : Setting) (w : World) (g : Gateway) (t : Text) (reply : Option Text) (v : World) → Hands st w (opposite g) t reply v → side_at v g ≡ side_at w g
hands-other st w g t _ _ (Heard m e reply heard answer) = other-side w g _ _

pub peer-side : (w : World) (g : Gateway) (side : Side) (bag : List Text) → side_at (with_side w g side bag) (opposite g) ≡ side_at w (opposite g)
peer-side w A side bag = refl
peer-side w B side bag = refl

pub hands-peer : (st : Setting) (w : World) (g : Gateway) (t : Text) (reply : Option Text) (v : World) → Hands st w g t reply v → side_at v (opposite g) ≡ side_at w (opposite g)
hands-peer st w g t _ _ (Heard m e reply heard answer) = peer-side w g _ _

-- ---- the other gateway's answers

-- the answer to the next text isn't lacking
abbrev pub HeardNext : Turn → (Text → Type 0) → Type 0
HeardNext next L = (t : Text) (owed : Bool) → next ≡ Posts t owed → L t → ⊥

module _ (st : Setting) (g : Gateway) (R : Side → List Text → List Answered → Type 0) where
  -- The rest of the answers begins with that to a text which the other gateway takes: its reply.
  abbrev pub Takes : Type 0
  Takes =
      (w v : World) (t : Text) (reply : Option Text) (posted : List Text) (answer : Answered) (answers : List Answered) → Hands st w (opposite g) t reply v → ((u : Text) → reply ≡ Some u → length u ≤ 8192)
      → R (side_at w (opposite g)) (t ∷ posted) (answer ∷ answers) → IsAnswer reply answer × R (side_at v (opposite g)) posted answers

  -- a text that it takes doesn't lack its answer
  abbrev pub NeverLacks : (Text → Type 0) → Type 0
  NeverLacks L = (w v : World) (t : Text) (reply : Option Text) → Hands st w (opposite g) t reply v → ((u : Text) → reply ≡ Some u → length u ≤ 8192) → R (side_at w (opposite g)) [] [] → L t → ⊥

hands-answered : (st : Setting) (w : World) (h : Gateway) (t : Text) (reply : Option Text) (v : World) (posted : List Text) (answer : Answered) (answers : List Answered) (P : Side → Type 0) → Hands st w h t reply v
    → PeerAnswers (party_at st h) (side_at w h) (t ∷ posted) (answer ∷ answers) P → IsAnswer reply answer × PeerAnswers (party_at st h) (side_at v h) posted answers P
hands-answered st w h t _ _ posted answer answers P (Heard m e reply heard is) given =
    let here = given m e heard in
    (subst (λ (o : Option (Result (Option Text) Refusal)). IsAnswerOf o answer) is here.0, subst (λ (x : Side). PeerAnswers (party_at st h) x posted answers P) (sym (side-after w h _ _)) here.1)

pub peer-takes : (st : Setting) (g : Gateway) (P : Side → Type 0) → Takes st g (λ side posted answers. PeerAnswers (party_at st (opposite g)) side posted answers P)
peer-takes st g P w v t reply posted answer answers hands short given = hands-answered st w (opposite g) t reply v posted answer answers P hands given

reply-short : (st : Setting) (a b : Founding) (v : World) (reply : Option Text) → Reached st a b v → ((u : Text) → reply ≡ Some u → Among u v.bag) → (u : Text) → reply ≡ Some u → length u ≤ 8192
reply-short st a b v reply reached said u is = said-is-short st a b v reached u (Alone (said u is))

abbrev View : Setting → World → Gateway → Text → List Text → World → Type 0
View st w h t said between =
    (Hands st w h t None between × (said ≡ t ∷ []))
    ⊎ ((u : Text) × (v : World) × (texts : List Text) × Hands st w h t (Some u) v × Converses st v (opposite h) u texts between × (said ≡ t ∷ texts))

view : (st : Setting) (w : World) (h : Gateway) (t : Text) (said : List Text) (between : World) → Converses st w h t said between → View st w h t said between
view st _ _ _ _ _ (conversations.Converses.Ends w g t v hands) = inl (hands, refl)
view st _ _ _ _ _ (conversations.Converses.Goes w g t u v texts after hands rest) = inr (u, v, texts, hands, rest, refl)

-- ---- the texts that have passed

passed-200 : (t : Text) (later : List Text) (answer : Answered) (answers : List Answered) → answer.code ≡ 200 → passed (t ∷ later) (answer ∷ answers) ≡ t ∷ answer.body ∷ passed later answers
passed-200 t later answer answers e = rw e refl

pub passed-204 : (t : Text) (later : List Text) (answer : Answered) (answers : List Answered) → answer.code ≡ 204 → passed (t ∷ later) (answer ∷ answers) ≡ t ∷ passed later answers
passed-204 t later answer answers e = rw e refl

-- two texts more
two-passed : (posted later : List Text) (answer : Answered) (answers : List Answered) (t u : Text) → answer.code ≡ 200 → answer.body ≡ u → posted ≡ t ∷ later → passed posted (answer ∷ answers) ≡ t ∷ u ∷ passed later answers
two-passed posted later answer answers t u code body is =
    ap (λ (l : List Text). passed l (answer ∷ answers)) is ∙ passed-200 t later answer answers code ∙ ap (λ (z : Text). t ∷ z ∷ passed later answers) body

next-after : (next : Turn) (first texts first2 texts2 : List Text) (t u : Text) → first2 ≡ t ∷ u ∷ first → texts2 ≡ t ∷ u ∷ texts → PostsNext next first texts → PostsNext next first2 texts2
next-after (Posts x owed) first texts first2 texts2 t u is all (rest, e) = (rest, all ∙ ap (λ (l : List Text). t ∷ u ∷ l) e ∙ ap (λ (l : List Text). l ++ x ∷ rest) (sym is))
next-after (Ends e) first texts first2 texts2 t u is all next = absurd next

-- each text that is posted has an answer, and that brings a text or none
pub passed-count : (s : SessionId) (answers : List Answered) (posted : List Text) (b a : Standing) (turn next : Turn) → AfterAnswers s b turn answers posted a next → length (passed posted answers) ≡ messages posted answers
passed-count s [] posted b a turn next leads = subst (λ (l : List Text). length (passed l []) ≡ messages l []) (sym leads.0) refl
passed-count s (answer ∷ answers) posted b a (Ends e) next leads = absurd leads
passed-count s (answer ∷ answers) posted b a (Posts t owed) next leads =
    subst (λ (l : List Text). length (passed l (answer ∷ answers)) ≡ messages l (answer ∷ answers)) (sym leads.4) (by-code (answer.code == 200) refl (passed-count s answers leads.2 leads.0 a leads.1 next leads.5))
  where
    by-code : (c : Bool) → (answer.code == 200) ≡ c → length (passed leads.2 answers) ≡ messages leads.2 answers → length (passed (t ∷ leads.2) (answer ∷ answers)) ≡ messages (t ∷ leads.2) (answer ∷ answers)
    by-code true e rest =
        let one : length (passed (t ∷ leads.2) (answer ∷ answers)) ≡ 2 + length (passed leads.2 answers) = rw e omega arith in
        let two : texts_in (answer ∷ answers) ≡ suc (texts_in answers) = rw e refl in
        omega (arith, one, two, rest)
    by-code false e rest =
        let one : length (passed (t ∷ leads.2) (answer ∷ answers)) ≡ 1 + length (passed leads.2 answers) = rw e omega arith in
        let two : texts_in (answer ∷ answers) ≡ texts_in answers = rw e refl in
        omega (arith, one, two, rest)

no-refusal : (answer : Option (Result (Option Text) Refusal)) (r : Refused) (back : Option Text) → answer ≡ Some (Ok back) → AnswersAs answer (Err r) → ⊥
no-refusal answer r back e (refusal, is, same) = let bad : ◌≡◌ {A = Option (Result (Option Text) Refusal)} (Some (Ok back)) (Some (Err refusal)) = sym e ∙ is in cc bad

module _ (st : Setting) (a b : Founding) (g : Gateway) (s : SessionId) (setup : Setup) (new : Standing) (next : Turn) (P : Side → Type 0) (memory : next ≢ Ends Memory) (site : next ≢ Ends Site)
    (R : Side → List Text → List Answered → Type 0) (L : Text → Type 0) (takes : Takes st g R) (never : NeverLacks st g R L) (ends : (side : Side) → R side [] [] → P side) where
  pub after-end : (m : Standing) (e : DriveEnd) (answers : List Answered) (posted : List Text) → AfterAnswers s m (Ends e) answers posted new next → (next ≡ Ends e) × (posted ≡ []) × (answers ≡ []) × (new ≡ m)
  after-end m e [] posted leads = (leads.2, leads.0, refl, leads.1)
  after-end m e (x ∷ answers) posted leads = absurd leads

  ends-not : (m : Standing) (turn : Turn) (e : DriveEnd) (answers : List Answered) (posted : List Text) → turn ≡ Ends e → AfterAnswers s m turn answers posted new next → next ≡ Ends e
  ends-not m turn e answers posted is leads = (after-end m e answers posted (subst (λ (x : Turn). AfterAnswers s m x answers posted new next) is leads)).0

  -- where the gateway replies nothing
  pub silent-turn : (m : Standing) (owed : Bool) (v : World) (t : Told) → StandsIn st v g m.gateway m.site setup t → (turn : Turn) → AfterReply s owed m.gateway None turn
      → (answers : List Answered) (posted : List Text) → AfterAnswers s m turn answers posted new next → turn ≡ unreplied (party_at st g) s owed (side_at v g).records
  silent-turn m owed v t stands turn (inl h) answers posted leads = h setup (side_at v g).records stands.at.holds ∙ ap (λ (p : Party). unreplied p s owed (side_at v g).records) stands.party
  silent-turn m owed v t stands turn (inr wants) answers posted leads = absurd (memory (ends-not m turn Memory answers posted wants.0 leads))

  -- the gateway handles what the other one replied
  record Taken (owed : Bool) (x : World) (middle : Standing) (back : Option Text) (turn : Turn) : Type 0 where
    t : Told
    stands : StandsIn st x g middle.gateway middle.site setup t
    follows : AfterReply s owed middle.gateway back turn

  module _ (v : World) (m middle : Standing) (t : Told) (reached : Reached st a b v) (stands : StandsIn st v g m.gateway m.site setup t) (owed : Bool) (turn : Turn) (answers : List Answered) (posted : List Text) (leads : AfterAnswers s middle turn answers posted new next) where
    module _ (call : Call) (back : Option Text) (answer : (run_of (party_at st g) (side_at v g) call).answer ≡ Some (Ok back)) where
      by-reply : (result : Result Reply Refused) → Answers call m.gateway middle.gateway m.site middle.site (reply_of result) → AfterHandling s owed middle.gateway result turn
          → Taken owed (after_event st v (Called g call)) middle back turn
      by-reply (Ok reply) answers' follows =
          let steps = call-steps call m.gateway middle.gateway m.site middle.site setup (side_at v g) t stands.at (party_at st g) stands.party (Ok (text_in reply)) answers' tt in
          let same : text_in reply ≡ back = reply-once (text_in reply) back (sym steps.1 ∙ answer) in
          let moves = call_moves st v g call in
          record {
            t = told_steps (kept_of (area_of m.gateway) setup (side_at v g)) (steps_of moves) t;
            stands = record { party = stands.party; at = subst (λ (z : Side). IsAt middle.gateway middle.site setup z (told_steps (kept_of (area_of m.gateway) setup (side_at v g)) (steps_of moves) t)) (sym (side-after v g _ _)) steps.0.1 };
            follows = subst (λ (o : Option Text). AfterReply s owed middle.gateway o turn) same follows;
          }
      by-reply (Err r) answers' follows = absurd (refused-not (is-answered r))
        where
          refused-not : ((r ≡ refused.Site) ⊎ (r ≡ refused.Memory) ⊎ IsAnswered (Err r)) → ⊥
          refused-not (inl is) = site (ends-not middle turn Site answers posted (follows.1 ∙ ap (λ (x : Refused). Ends (refusal_end x)) is) leads)
          refused-not (inr (inl is)) = memory (ends-not middle turn Memory answers posted (follows.1 ∙ ap (λ (x : Refused). Ends (refusal_end x)) is) leads)
          refused-not (inr (inr ok)) =
              let steps = call-steps call m.gateway middle.gateway m.site middle.site setup (side_at v g) t stands.at (party_at st g) stands.party (Err r) answers' ok in
              no-refusal _ r back answer steps.1

    takes-reply : (u : Text) (back : Option Text) (x : World) → Among u v.bag → Hands st v g u back x → (result : Result Reply Refused) → Handled u m middle result → AfterHandling s owed middle.gateway result turn → Taken owed x middle back turn
    takes-reply u _ _ among (Heard n e back heard answer) result handled follows =
        let given : asking.Handled u m.gateway middle.gateway m.site middle.site result = record { read = handled.read; answers = handled.answers; unchanged = handled.unchanged; breaking = handled.breaking } in
        by-reply (Hears n u e) back answer result (heard-answers st v g m.gateway middle.gateway m.site middle.site setup t stands a b reached n u e (heard, Alone among) result given) follows

  -- ---- along the conversation

  -- the other gateway answers the rest of the texts
  abbrev AnswersRest : World → List Text → List Answered → Type 0
  AnswersRest w posted answers = R (side_at w (opposite g)) posted answers

  rest-there : (w v : World) (posted : List Text) (answers : List Answered) → side_at v (opposite g) ≡ side_at w (opposite g) → AnswersRest w posted answers → AnswersRest v posted answers
  rest-there w v posted answers same rest = subst (λ (x : Side). R x posted answers) (sym same) rest

  -- it has ended, and so many of the drive's texts and answers are left
  pub record Left (owed : Bool) (between : World) (posted : List Text) (answers : List Answered) (said : List Text) : Type 0 where
    pub m : Standing
    pub t : Told
    pub stands : StandsIn st between g m.gateway m.site setup t
    pub reached : Reached st a b between
    pub more_posted : List Text
    pub more_answers : List Answered
    pub leads : AfterAnswers s m (unreplied (party_at st g) s owed (side_at between g).records) more_answers more_posted new next
    pub answered : R (side_at between (opposite g)) more_posted more_answers
    pub texts : passed posted answers ≡ said ++ passed more_posted more_answers
    pub posts : length posted ≤ length said + length more_posted

  -- the drive is to post a text of it
  pub record Amid (posted : List Text) (answers : List Answered) (said : List Text) : Type 0 where
    pub posts_next : PostsNext next (passed posted answers) said
    pub few : length posted ≤ length said
    pub now : World
    pub both : BothStand st a b g now new setup P
    pub heard : HeardNext next L

  abbrev Walked : Bool → World → List Text → List Answered → List Text → Type 0
  Walked owed between posted answers said = Left owed between posted answers said ⊎ Amid posted answers said

  -- two texts before
  two-more : (owed : Bool) (between : World) (later posted : List Text) (answer : Answered) (answers : List Answered) (texts said : List Text) (t u : Text) → answer.code ≡ 200 → answer.body ≡ u → posted ≡ t ∷ later → said ≡ t ∷ u ∷ texts
      → Walked owed between later answers texts → Walked owed between posted (answer ∷ answers) said
  two-more owed between later posted answer answers texts said t u code body is all (inl left) =
      let one : length posted ≡ 1 + length later = ap length is ∙ omega arith in
      let two : length said ≡ 2 + length texts = ap length all ∙ omega arith in
      let passed-is = two-passed posted later answer answers t u code body is in
      inl (record {
        m = left.m;
        t = left.t;
        stands = left.stands;
        reached = left.reached;
        more_posted = left.more_posted;
        more_answers = left.more_answers;
        leads = left.leads;
        answered = left.answered;
        texts = passed-is ∙ ap (λ (l : List Text). t ∷ u ∷ l) left.texts ∙ ap (λ (l : List Text). l ++ passed left.more_posted left.more_answers) (sym all);
        posts = omega (arith, one, two, left.posts);
      })
  two-more owed between later posted answer answers texts said t u code body is all (inr amid) =
      let one : length posted ≡ 1 + length later = ap length is ∙ omega arith in
      let two : length said ≡ 2 + length texts = ap length all ∙ omega arith in
      inr (record {
        posts_next = next-after next (passed later answers) texts (passed posted (answer ∷ answers)) said t u (two-passed posted later answer answers t u code body is) all amid.posts_next;
        few = omega (arith, one, two, amid.few);
        now = amid.now;
        both = amid.both;
        heard = amid.heard;
      })

  module _ (owed : Bool) (between : World) where
    -- the other gateway replies nothing
    step-silent : (w : World) (m middle : Standing) (t : Told) (text : Text) (said : List Text) (answer : Answered) (answers : List Answered) (posted later : List Text) (turn : Turn)
        → Reached st a b w → StandsIn st w g m.gateway m.site setup t → Among text w.bag → Hands st w (opposite g) text None between → said ≡ text ∷ []
        → answer.code ≡ 204 → AfterAnswer s owed m answer middle turn → posted ≡ text ∷ later → AfterAnswers s middle turn answers later new next → AnswersRest between later answers
        → Walked owed between posted (answer ∷ answers) said
    step-silent w m middle t text said answer answers posted later turn reached stands among hands all code (drives.AfterAnswer.brings_text is200 handles) is leads rest =
        absurd (let bad : 204 ≡ 200 = sym code ∙ is200 in omega (arith, bad))
    step-silent w m middle t text said answer answers posted later turn reached stands among hands all code (drives.AfterAnswer.refuses not200 not204 stays ends) is leads rest =
        absurd (not204 code)
    step-silent w m middle t text said answer answers posted later turn reached stands among hands all code (drives.AfterAnswer.brings_none is204 stays follows) is leads rest =
        let at-v : StandsIn st between g m.gateway m.site setup t = record { party = stands.party; at = subst (λ (z : Side). IsAt m.gateway m.site setup z t) (sym (hands-other st w g text None between hands)) stands.at } in
        let leads' : AfterAnswers s m turn answers later new next = subst (λ (x : Standing). AfterAnswers s x turn answers later new next) stays leads in
        let turn-is = silent-turn m owed between t at-v turn follows answers later leads' in
        let one : length posted ≡ 1 + length later = ap length is ∙ omega arith in
        let two : length said ≡ 1 = ap length all in
        let passed-is = ap (λ (l : List Text). passed l (answer ∷ answers)) is ∙ passed-204 text later answer answers code in
        inl (record {
          m = m;
          t = t;
          stands = at-v;
          reached = (hands-go st a b w (opposite g) text None between reached among hands).reached;
          more_posted = later;
          more_answers = answers;
          leads = subst (λ (x : Turn). AfterAnswers s m x answers later new next) turn-is leads';
          answered = rest;
          texts = passed-is ∙ ap (λ (l : List Text). l ++ passed later answers) (sym all);
          posts = omega (arith, one, two);
        })

    -- the rest of the walk, from the text that this gateway replies
    abbrev GoesOn : World → Standing → List Text → List Answered → Type 0
    GoesOn x middle later answers =
        (u2 : Text) (texts : List Text) (t2 : Told) → Reached st a b x → StandsIn st x g middle.gateway middle.site setup t2 → Among u2 x.bag → Converses st x (opposite g) u2 texts between
        → AfterAnswers s middle (Posts u2 owed) answers later new next → AnswersRest x later answers → Walked owed between later answers texts

    -- this gateway hears what the other one replied, and replies in turn
    step-back : (v : World) (m middle : Standing) (t : Told) (text u : Text) (texts said : List Text) (turn : Turn) (answer : Answered) (answers : List Answered) (posted later : List Text)
        → Reached st a b v → StandsIn st v g m.gateway m.site setup t → Among u v.bag → (result : Result Reply Refused) → Handled u m middle result → AfterHandling s owed middle.gateway result turn
        → View st v g u texts between → answer.code ≡ 200 → answer.body ≡ u → posted ≡ text ∷ later → said ≡ text ∷ texts
        → AfterAnswers s middle turn answers later new next → AnswersRest v later answers → ((x : World) → GoesOn x middle later answers) → Walked owed between posted (answer ∷ answers) said
    step-back v m middle t text u texts said turn answer answers posted later reached stands among result handled follows (inl (hands, all)) code body is whole leads rest go-on =
        let taken = takes-reply v m middle t reached stands owed turn answers later leads u None between among hands result handled follows in
        let turn-is = silent-turn middle owed between taken.t taken.stands turn taken.follows answers later leads in
        let one : length posted ≡ 1 + length later = ap length is ∙ omega arith in
        let two : length said ≡ 2 = ap length whole ∙ ap (λ (l : List Text). suc (length l)) all in
        let passed-is = two-passed posted later answer answers text u code body is in
        inl (record {
          m = middle;
          t = taken.t;
          stands = taken.stands;
          reached = (hands-go st a b v g u None between reached among hands).reached;
          more_posted = later;
          more_answers = answers;
          leads = subst (λ (z : Turn). AfterAnswers s middle z answers later new next) turn-is leads;
          answered = rest-there v between later answers (hands-peer st v g u None between hands) rest;
          texts = passed-is ∙ ap (λ (l : List Text). l ++ passed later answers) (sym (whole ∙ ap (λ (l : List Text). text ∷ l) all));
          posts = omega (arith, one, two);
        })
    step-back v m middle t text u texts said turn answer answers posted later reached stands among result handled follows (inr (u2, x, texts2, hands, more, all)) code body is whole leads rest go-on =
        let taken = takes-reply v m middle t reached stands owed turn answers later leads u (Some u2) x among hands result handled follows in
        let handed = hands-go st a b v g u (Some u2) x reached among hands in
        two-more owed between later posted answer answers texts2 said text u code body is (whole ∙ ap (λ (l : List Text). text ∷ l) all)
        (go-on x u2 texts2 taken.t handed.reached taken.stands (handed.said u2 refl) more (subst (λ (z : Turn). AfterAnswers s middle z answers later new next) taken.follows leads) (rest-there v x later answers (hands-peer st v g u (Some u2) x hands) rest))

    -- the other gateway replies this text
    step-reply : (w v : World) (m middle : Standing) (t : Told) (text u : Text) (texts said : List Text) (answer : Answered) (answers : List Answered) (posted later : List Text) (turn : Turn)
        → Reached st a b w → StandsIn st w g m.gateway m.site setup t → Among text w.bag → Hands st w (opposite g) text (Some u) v → Converses st v (opposite (opposite g)) u texts between → said ≡ text ∷ texts
        → answer.code ≡ 200 → answer.body ≡ u → AfterAnswer s owed m answer middle turn → posted ≡ text ∷ later → AfterAnswers s middle turn answers later new next
        → AnswersRest v later answers → ((x : World) → GoesOn x middle later answers) → Walked owed between posted (answer ∷ answers) said
    step-reply w v m middle t text u texts said answer answers posted later turn reached stands among hands conv all code body (drives.AfterAnswer.brings_none is204 stays follows) is leads rest go-on =
        absurd (let bad : 200 ≡ 204 = sym code ∙ is204 in omega (arith, bad))
    step-reply w v m middle t text u texts said answer answers posted later turn reached stands among hands conv all code body (drives.AfterAnswer.refuses not200 not204 stays ends) is leads rest go-on =
        absurd (not200 code)
    step-reply w v m middle t text u texts said answer answers posted later turn reached stands among hands conv all code body (drives.AfterAnswer.brings_text is200 (result, handled, follows)) is leads rest go-on =
        let handed = hands-go st a b w (opposite g) text (Some u) v reached among hands in
        let at-v : StandsIn st v g m.gateway m.site setup t = record { party = stands.party; at = subst (λ (z : Side). IsAt m.gateway m.site setup z t) (sym (hands-other st w g text (Some u) v hands)) stands.at } in
        let here : Converses st v g u texts between = subst (λ (h : Gateway). Converses st v h u texts between) (twice-opposite g) conv in
        step-back v m middle t text u texts said turn answer answers posted later handed.reached at-v (handed.said u refl) result (subst (λ (z : Text). Handled z m middle result) body handled) follows (view st v g u texts between here) code body is all leads rest go-on

    step : (w : World) (m middle : Standing) (t : Told) (text : Text) (said : List Text) (answer : Answered) (answers : List Answered) (posted later : List Text) (turn : Turn)
        → Reached st a b w → StandsIn st w g m.gateway m.site setup t → Among text w.bag → View st w (opposite g) text said between
        → AnswersRest w (text ∷ later) (answer ∷ answers) → AfterAnswer s owed m answer middle turn → posted ≡ text ∷ later → AfterAnswers s middle turn answers later new next
        → ((x : World) → GoesOn x middle later answers) → Walked owed between posted (answer ∷ answers) said
    step w m middle t text said answer answers posted later turn reached stands among (inl (hands, all)) rest after is leads go-on =
        let given = takes w between text None later answer answers hands (λ u none. cc none) rest in
        step-silent w m middle t text said answer answers posted later turn reached stands among hands all given.0 after is leads given.1
    step w m middle t text said answer answers posted later turn reached stands among (inr (u, v, texts, hands, conv, all)) rest after is leads go-on =
        let handed = hands-go st a b w (opposite g) text (Some u) v reached among hands in
        let given = takes w v text (Some u) later answer answers hands (reply-short st a b v (Some u) handed.reached handed.said) rest in
        step-reply w v m middle t text u texts said answer answers posted later turn reached stands among hands conv all given.0.0 given.0.1 after is leads given.1 go-on

    pub walk : (answers : List Answered) (posted : List Text) (text : Text) (w : World) (m : Standing) (t : Told) (said : List Text) → Reached st a b w → StandsIn st w g m.gateway m.site setup t → Among text w.bag
        → Converses st w (opposite g) text said between → AfterAnswers s m (Posts text owed) answers posted new next → AnswersRest w posted answers → Walked owed between posted answers said
    walk [] posted text w m t said reached stands among conv leads rest =
        let none : length posted ≡ 0 = ap length leads.0 in
        let begins = first-of (view st w (opposite g) text said between conv) in
        let there : PostsNext (Posts text owed) (passed posted []) said = subst (λ (l : List Text). PostsNext (Posts text owed) (passed l []) said) (sym leads.0) begins in
        let here : AnswersRest w [] [] = subst (λ (l : List Text). AnswersRest w l []) leads.0 rest in
        inr (record {
          posts_next = subst (λ (z : Turn). PostsNext z (passed posted []) said) (sym leads.2) there;
          few = omega (arith, none);
          now = w;
          both = record { reached = reached; stands = (t, subst (λ (z : Standing). StandsIn st w g z.gateway z.site setup t) (sym leads.1) stands); other = ends (side_at w (opposite g)) here };
          heard = λ u o is lacks. never-here (view st w (opposite g) text said between conv) here (subst L (posted-text u text o owed (sym is ∙ leads.2)) lacks);
        })
      where
        posted-text : (u v : Text) (o p : Bool) → ◌≡◌ {A = Turn} (Posts u o) (Posts v p) → u ≡ v
        posted-text u v o p e = cc e

        never-here : View st w (opposite g) text said between → AnswersRest w [] [] → L text → ⊥
        never-here (inl (hands, all)) here lacks = never w between text None hands (λ u none. cc none) here lacks
        never-here (inr (u, v, texts, hands, conv, all)) here lacks =
            let handed = hands-go st a b w (opposite g) text (Some u) v reached among hands in
            never w v text (Some u) hands (reply-short st a b v (Some u) handed.reached handed.said) here lacks

        first-of : View st w (opposite g) text said between → (rest : List Text) × (said ≡ text ∷ rest)
        first-of (inl (hands, all)) = ([], all)
        first-of (inr (u, v, texts, hands, rest, all)) = (texts, all)
    walk (answer ∷ answers) posted text w m t said reached stands among conv leads rest =
        let here : AnswersRest w (text ∷ leads.2) (answer ∷ answers) = subst (λ (l : List Text). AnswersRest w l (answer ∷ answers)) leads.4 rest in
        step w m leads.0 t text said answer answers posted leads.2 leads.1 reached stands among (view st w (opposite g) text said between conv) here leads.3 leads.4 leads.5
        (λ x u2 texts t2 reached' stands' among' conv' leads' rest'. walk answers leads.2 u2 x leads.0 t2 texts reached' stands' among' conv' leads' rest')
