-- What a drive asks of its gateway.
use Rattle.std.proofs.Common.{◌≡◌, ◌≢◌, ◌⊎◌, inl, inr, ℕ, Bool, true, false, List, [], ◌∷◌, Option, Result, Ok, Err, refl, sym, ap, subst, ◌∙◌, arith}
use Rattle.std.specs.Prelude.{◌==◌, if◌then◌else◌}
use Rattle.std.proofs.lemmas.Bool.Decides.{nat_tests}
use Rattle.satp_base.specs.declared.session.SessionId.{SessionId}
use Rattle.satp_gateway.specs.Handling.{text_in}
use Rattle.satp_gateway.specs.declared.handle.Reply.{Reply}
use Rattle.satp_http.specs.declared.responses.Answered.{Answered}
use Rattle.satp_points.specs.declared.fault.Refused.{Refused}
use Rattle.satp_points.specs.declared.fault.Refused.TheVariants as refused
use Rattle.satp_sides.specs.Points.{Text}
use Rattle.satp_runs.specs.Asking.{AnswersTo, Asked, AsksAll, IsAnswered}
use Rattle.satp_runs.specs.Asking.Asked.{Handles, Operates}
use Rattle.satp_runs.proofs.Asks.{is-answered, last-failed, none-asked, one-more}
use Rattle.satp_drive_laws.specs.Asks.{DrivesAsk, answers_of_turn, answers_over, bodies}
use Rattle.satp_drive.specs.Conversing as conversing
use Rattle.satp_drive.specs.Conversing.{Dials}
use Rattle.satp_drive.specs.Driving.{GoesOn}
use Rattle.satp_drive.specs.declared.driven.Driven.{Driven}
use Rattle.satp_base.specs.Wires.{Traffic}
use Rattle.satp_base.specs.declared.address.Address.{Address}
use Rattle.satp_sides.specs.Calls.{Call}
use Rattle.satp_sides.specs.Others.{session_of}
use Rattle.satp_drive.specs.Calling.{Called, Handled, Standing}
use Rattle.satp_drive.specs.Drives as drives
use Rattle.satp_drive.specs.Drives.{AfterAnswer, AfterAnswers, AfterHandling, refusal_end}
use Rattle.satp_drive.specs.declared.driven.DriveEnd.{DriveEnd}
use Rattle.satp_drive.specs.declared.turn.Turn.{Turn}
use Rattle.satp_drive.specs.declared.turn.Turn.TheVariants.{Posts, Ends}

bodies-of : (answer : Answered) (answers : List Answered) (c : Bool) → (answer.code == 200) ≡ c → bodies (answer ∷ answers) ≡ (if c then Handles answer.body ∷ bodies answers else bodies answers)
bodies-of answer answers c e = ap (λ (x : Bool). if x then Handles answer.body ∷ bodies answers else bodies answers) e

is-200 : (code : ℕ) → code ≡ 200 → (code == 200) ≡ true
is-200 code e = rw e refl

equal-200 : (code : ℕ) → (code == 200) ≡ true → code ≡ 200
equal-200 code e = grind (arith, nat_tests)

not-200 : (code : ℕ) → code ≢ 200 → (code == 200) ≡ false
not-200 code h = other (code == 200) refl
  where
    other : (c : Bool) → (code == 200) ≡ c → (code == 200) ≡ false
    other false e = e
    other true e = absurd (h (equal-200 code e))

module _ (s : SessionId) where
  -- a drive that has ended handles nothing more
  ended : (m a : Standing) (next : Turn) (e : DriveEnd) (answers : List Answered) (posted : List Text) → AfterAnswers s m (Ends e) answers posted a next → (a ≡ m) × (answers ≡ [])
  ended m a next e [] posted leads = (leads.1, refl)
  ended m a next e (x ∷ answers) posted leads = absurd leads

  after-end : (m a : Standing) (turn next : Turn) (e : DriveEnd) (answers : List Answered) (posted : List Text) → turn ≡ Ends e → AfterAnswers s m turn answers posted a next → (a ≡ m) × (answers ≡ [])
  after-end m a turn next e answers posted is leads = ended m a next e answers posted (subst (λ (x : Turn). AfterAnswers s m x answers posted a next) is leads)

  asks : (answers : List Answered) (posted : List Text) (turn next : Turn) (m a : Standing) → AfterAnswers s m turn answers posted a next → AsksAll (bodies answers) m.gateway a.gateway m.site a.site
  asks [] posted turn next m a (none, same, is) = none-asked m.gateway a.gateway m.site a.site (ap (λ (z : Standing). z.gateway) same) (ap (λ (z : Standing). z.site) same)
  asks (answer ∷ answers) posted (Ends e) next m a leads = absurd leads
  asks (answer ∷ answers) posted (Posts text owed) next m a (middle, turn, later, after, is, rest) =
      by-answer after (asks answers later turn next middle a rest)
    where
      still : middle ≡ m → (answer.code == 200) ≡ false → AsksAll (bodies answers) middle.gateway a.gateway middle.site a.site → AsksAll (bodies (answer ∷ answers)) m.gateway a.gateway m.site a.site
      still same code more =
          subst (λ (l : List Asked). AsksAll l m.gateway a.gateway m.site a.site) (sym (bodies-of answer answers false code))
          (subst (λ (z : Standing). AsksAll (bodies answers) z.gateway a.gateway z.site a.site) same more)

      by-result : (result : Result Reply Refused) → Handled answer.body m middle result → AfterHandling s owed middle.gateway result turn → AsksAll (bodies answers) middle.gateway a.gateway middle.site a.site
          → AsksAll (Handles answer.body ∷ bodies answers) m.gateway a.gateway m.site a.site
      by-result (Ok reply) handled follows more =
          one-more (Handles answer.body) (Ok (text_in reply)) (bodies answers) m.gateway middle.gateway a.gateway m.site middle.site a.site tt
          (Ok reply, refl, record { read = handled.read; answers = handled.answers; unchanged = handled.unchanged; breaking = handled.breaking }) more
      by-result (Err r) handled follows more = refuses (is-answered r)
        where
          to : AnswersTo (Handles answer.body) m.gateway middle.gateway m.site middle.site (Err r)
          to = (Err r, refl, record { read = handled.read; answers = handled.answers; unchanged = handled.unchanged; breaking = handled.breaking })

          fails : (r ≡ refused.Site) ⊎ (r ≡ refused.Memory) → AsksAll (Handles answer.body ∷ bodies answers) m.gateway a.gateway m.site a.site
          fails which =
              let end = after-end middle a turn next (refusal_end r) answers later follows.1 rest in
              subst (λ (l : List Answered). AsksAll (Handles answer.body ∷ bodies l) m.gateway a.gateway m.site a.site) (sym end.1)
              (subst (λ (z : Standing). AsksAll (Handles answer.body ∷ []) m.gateway z.gateway m.site z.site) (sym end.0)
              (last-failed (Handles answer.body) r m.gateway middle.gateway m.site middle.site which to))

          refuses : ((r ≡ refused.Site) ⊎ (r ≡ refused.Memory) ⊎ IsAnswered (Err r)) → AsksAll (Handles answer.body ∷ bodies answers) m.gateway a.gateway m.site a.site
          refuses (inl site) = fails (inl site)
          refuses (inr (inl memory)) = fails (inr memory)
          refuses (inr (inr ok)) = one-more (Handles answer.body) (Err r) (bodies answers) m.gateway middle.gateway a.gateway m.site middle.site a.site ok to more

      by-answer : AfterAnswer s owed m answer middle turn → AsksAll (bodies answers) middle.gateway a.gateway middle.site a.site → AsksAll (bodies (answer ∷ answers)) m.gateway a.gateway m.site a.site
      by-answer (drives.AfterAnswer.brings_text code (result, handled, follows)) more =
          subst (λ (l : List Asked). AsksAll l m.gateway a.gateway m.site a.site) (sym (bodies-of answer answers true (is-200 answer.code code))) (by-result result handled follows more)
      by-answer (drives.AfterAnswer.brings_none code same follows) more = still same (not-200 answer.code (λ e. let bad : 200 ≡ 204 = sym e ∙ code in omega (arith, bad))) more
      by-answer (drives.AfterAnswer.refuses code other same ends) more = still same (not-200 answer.code code) more

module _ (call : Call) (at : Address) (old begun new : Standing) (reply : Option Text) (called : Called call old begun (Ok reply)) (telling : Option Traffic) (before after : ℕ) (driven : Driven) where
  abbrev Asks : List Answered → Type 0
  Asks answers = AsksAll (Operates call ∷ bodies answers) old.gateway new.gateway old.site new.site

  -- it heard none
  alone : new ≡ begun → Asks []
  alone same = one-more (Operates call) (Ok reply) [] old.gateway begun.gateway new.gateway old.site begun.site new.site tt called.answers
      (none-asked begun.gateway new.gateway begun.site new.site (ap (λ (z : Standing). z.gateway) same) (ap (λ (z : Standing). z.site) same))

  over-dials : (first : Turn) (told : Option Traffic) (dials : Dials at (session_of call) first begun new told telling before after driven) → Asks (answers_over at (session_of call) first begun new told telling before after driven dials)
  over-dials first told (conversing.Dials.fails missed rose same is) = alone same
  over-dials first told (conversing.Dials.connects (conversing.Connected.lacks_memory stops same)) = alone same
  over-dials first told (conversing.Dials.connects (conversing.Connected.converses x)) =
      one-more (Operates call) (Ok reply) (bodies x.answers) old.gateway begun.gateway new.gateway old.site begun.site new.site tt called.answers (asks (session_of call) x.answers x.posted first x.next begun new x.leads)

  over-turn : (turn : Turn) (told : Option Traffic) (goes : GoesOn call at turn begun new told telling before after driven) → Asks (answers_of_turn call at turn begun new told telling before after driven goes)
  over-turn (Ends e) told goes = alone goes.1
  over-turn (Posts text owed) told goes = over-dials (Posts text owed) told goes

refused-call : (call : Call) (old new : Standing) (r : Refused) → Called call old new (Err r) → ((r ≡ refused.Site) ⊎ (r ≡ refused.Memory) ⊎ IsAnswered (Err r)) → AsksAll (Operates call ∷ []) old.gateway new.gateway old.site new.site
refused-call call old new r called (inl site) = last-failed (Operates call) r old.gateway new.gateway old.site new.site (inl site) called.answers
refused-call call old new r called (inr (inl memory)) = last-failed (Operates call) r old.gateway new.gateway old.site new.site (inr memory) called.answers
refused-call call old new r called (inr (inr ok)) =
    one-more (Operates call) (Err r) [] old.gateway new.gateway new.gateway old.site new.site new.site ok called.answers (none-asked new.gateway new.gateway new.site new.site refl refl)

pub drives-ask : DrivesAsk
drives-ask call at old new told telling before after (Ok driven) drives = over-turn call at old drives.begun new drives.reply drives.called telling before after driven drives.turn told drives.goes
drives-ask call at old new told telling before after (Err r) refused = refused-call call old new r refused.0 (is-answered r)
