-- A gateway at a site is one side of a run: by what it is asked, one after the other.
use Rattle.std.proofs.Common.{◌≡◌, List, [], ◌∷◌, ◌++◌, map, Option, Result, Err, refl, sym, subst, ◌∙◌, append_assoc}
use Rattle.satp_base.specs.Calls.{Told}
use Rattle.satp_base.specs.Founding.{Founding}
use Rattle.satp_points.specs.Answers.{Answers, Breaks, Goes, Stays}
use Rattle.satp_points.specs.States.{GatewayState, IsAt, Tells, area_of, kept_of, steps_of}
use Rattle.satp_points.specs.declared.fault.Refused.{Refused}
use Rattle.satp_points.specs.declared.fault.Refused.TheVariants.{Memory, Site}
use Rattle.satp_records.specs.declared.stored.Setup.{Setup}
use Rattle.satp_sides.specs.Calls.{Call, run_of}
use Rattle.satp_sides.specs.Calls.Call.{Hears}
use Rattle.satp_sides.specs.Points.{Move, Party, Side, Text, moved_by}
use Rattle.satp_stops.specs.Stops.{told_steps}
use Rattle.satp_world.specs.Histories.{Event, MayCall, MayHappen, after_event, call_moves}
use Rattle.satp_world.specs.Histories.Event.{Called, Stopped, Unread}
use Rattle.satp_world.specs.Worlds.{Gateway, Reached, Setting, World, opposite, party_at, side_at, with_side}
use Rattle.satp_world.specs.Worlds.Gateway.{A, B}
use Rattle.satp_world.proofs.HistoryLaw.{events-reach}
use Rattle.satp_point_laws.specs.Happening.{StandsIn}
use Rattle.satp_point_laws.proofs.GoingLaw.{moves-go-on}
use Rattle.satp_point_laws.proofs.HappenLaw.{calls-happen}
use Rattle.satp_point_laws.proofs.Kept.{moved-append}
use Rattle.satp_runs.specs.Asking.{AnswersAll, AnswersTo, Asked, IsAnswered, Made}
use Rattle.satp_runs.specs.Asking.Asked.{Operates, Handles}
use Rattle.satp_runs.specs.Living as living
use Rattle.satp_runs.specs.Living.{AnswersAs, AnswersIn, Is, IsOfReading, Lives, Meanwhile, Ran, call_in, calls_in, whose}
use Rattle.satp_runs.specs.Living.Is.{Of_operator, Message_heard, None_heard}
use Rattle.satp_runs.specs.OneSide.{GatewaysAreSides, IsOneSide}
use Rattle.satp_runs.proofs.Reading.{heard-answers, of-refusal, unread-fails, unread-lacks, unread-stays}
use Rattle.satp_runs.proofs.Stepping.{call-steps, still-goes}

-- ---- sides of a world

pub side-after : (w : World) (g : Gateway) (side : Side) (bag : List Text) → side_at (with_side w g side bag) g ≡ side
side-after w A side bag = refl
side-after w B side bag = refl

pub other-side : (w : World) (g : Gateway) (side : Side) (bag : List Text) → side_at (with_side w (opposite g) side bag) g ≡ side_at w g
other-side w A side bag = refl
other-side w B side bag = refl

-- what happens to the other gateway leaves this one
others-side : (st : Setting) (w : World) (g : Gateway) (e : Event) → whose e ≡ opposite g → side_at (after_event st w e) g ≡ side_at w g
others-side st w g (Called h call) is = subst (λ (x : Gateway). side_at (after_event st w (Called x call)) g ≡ side_at w g) (sym is) (other-side w g _ _)
others-side st w g (Stopped h call n) is = subst (λ (x : Gateway). side_at (after_event st w (Stopped x call n)) g ≡ side_at w g) (sym is) (other-side w g _ _)
others-side st w g (Unread h t) is = refl

own-call : (g : Gateway) (call : Call) → call_in g (Called g call) ≡ call ∷ []
own-call A call = refl
own-call B call = refl

not-opposite : (g : Gateway) (call : Call) → call_in g (Called (opposite g) call) ≡ []
not-opposite A call = refl
not-opposite B call = refl

others-call : (g : Gateway) (e : Event) → whose e ≡ opposite g → call_in g e ≡ []
others-call g (Called h call) is = subst (λ (x : Gateway). call_in g (Called x call) ≡ []) (sym is) (not-opposite g call)
others-call A (Stopped h call n) is = refl
others-call B (Stopped h call n) is = refl
others-call A (Unread h t) is = refl
others-call B (Unread h t) is = refl

unread-call : (g : Gateway) (t : Text) → call_in g (Unread g t) ≡ []
unread-call A t = refl
unread-call B t = refl

pub one-event : (st : Setting) (a b : Founding) (w : World) → Reached st a b w → (e : Event) → MayHappen st w e → Reached st a b (after_event st w e)
one-event st a b w reached e may = events-reach st a b w reached (e ∷ []) (may, tt)

ran-side : (p : Party) (side : Side) (calls : List Call) (moves : List Move) (after : Side) → Ran p side calls moves after → after ≡ moved_by side moves
ran-side p _ _ _ _ (living.Ran.None side) = refl
ran-side p _ _ _ _ (living.Ran.Then side call calls moves after rest) = ran-side p (moved_by side (run_of p side call).moves) calls moves after rest ∙ sym (moved-append side (run_of p side call).moves moves)

first-asked : {x y : Asked} {xs ys : List Asked} → x ∷ xs ≡ y ∷ ys → x ≡ y
first-asked e = cc e

others-asked : {x y : Asked} {xs ys : List Asked} → x ∷ xs ≡ y ∷ ys → xs ≡ ys
others-asked e = cc e

-- ---- one side

module _ (st : Setting) (a b : Founding) (g : Gateway) (setup : Setup) (new : GatewayState) (site : Tells) where
  abbrev One : World → GatewayState → Tells → Told → List Made → List Event → World → Type 0
  One w old before t made es v = IsOneSide st a b g w old new before site setup t made es v

  -- ---- the last call

  fails-by : (w : World) (old : GatewayState) (before : Tells) (t : Told) → Reached st a b w → StandsIn st w g old before setup t → (asked : Asked) (e : Event) (broken : GatewayState) (left : Tells)
      → Is g asked e → MayHappen st w e → AnswersTo asked old broken before left (Err Site)
      → (call : Call) × (e ≡ Called g call) × Breaks old setup (side_at w g) (call_moves st w g call) t broken left
  fails-by w old before t reached stands _ _ broken left (Of_operator call) may answers =
      (call, refl, subst (λ (p : Party). Breaks old setup (side_at w g) (run_of p (side_at w g) call).moves t broken left) stands.party (answers.run setup (side_at w g) t stands.at))
  fails-by w old before t reached stands _ _ broken left (Message_heard m text x) may (given, e, handled) =
      let answers = subst (λ (r : Result (Option Text) Refused). Answers (Hears m text x) old broken before left r) (sym e) (heard-answers st w g old broken before left setup t stands a b reached m text x may given handled) in
      (Hears m text x, refl, subst (λ (p : Party). Breaks old setup (side_at w g) (run_of p (side_at w g) (Hears m text x)).moves t broken left) stands.party (answers.run setup (side_at w g) t stands.at))
  fails-by w old before t reached stands _ _ broken left (None_heard text) may (given, e, handled) =
      absurd (unread-fails st w g old broken before left setup t stands text may given (of-refusal given Site e) handled)

  not-site : ◌≡◌ {A = Result (Option Text) Refused} (Err Memory) (Err Site) → ⊥
  not-site e = cc e

  abbrev Lacks : World → GatewayState → Tells → Type 0
  Lacks w later left = (f : Event) × MayHappen st w f × ((told : Told) × StandsIn st (after_event st w f) g later left setup told)

  lacks-by : (w : World) (old : GatewayState) (before : Tells) (t : Told) → Reached st a b w → StandsIn st w g old before setup t → (asked : Asked) (e : Event) (later : GatewayState) (left : Tells)
      → Is g asked e → MayHappen st w e → AnswersTo asked old later before left (Err Memory) → Lacks w later left
  lacks-by w old before t reached stands _ _ later left (Of_operator call) may answers =
      calls-happen st w g call old later before left (Err Memory) setup t stands may answers not-site
  lacks-by w old before t reached stands _ _ later left (Message_heard m text x) may (given, e, handled) =
      let answers = subst (λ (r : Result (Option Text) Refused). Answers (Hears m text x) old later before left r) (sym e) (heard-answers st w g old later before left setup t stands a b reached m text x may given handled) in
      calls-happen st w g (Hears m text x) old later before left (Err Memory) setup t stands may answers not-site
  lacks-by w old before t reached stands _ _ later left (None_heard text) may (given, e, handled) =
      let stays = unread-lacks st w g old later before left setup t stands text may given (of-refusal given Memory e) handled in
      (Unread g text, may, (t, record { party = stands.party; at = (still-goes old later before left setup (side_at w g) t stands.at stays).1 }))

  -- a failed call, with what it broke seen otherwise
  abbrev FailedCall : Event → (Call → Type 0) → Type 0
  FailedCall e P = (call : Call) × (e ≡ Called g call) × P call

  failed-as : (e : Event) (P Q : Call → Type 0) → ((call : Call) → P call → Q call) → FailedCall e P → FailedCall e Q
  failed-as e P Q f (call, is, p) = (call, is, f call p)

  -- ---- none more

  ends : (w : World) (old : GatewayState) (before : Tells) (t : Told) → Reached st a b w → StandsIn st w g old before setup t → new ≡ old → site ≡ before → One w old before t [] [] w
  ends w old before t reached stands same there =
      let goes : Goes old setup (side_at w g) [] t new site = still-goes old new before site setup (side_at w g) t stands.at (same, there) in
      let now : StandsIn st w g new site setup t = record { party = stands.party; at = goes.1 } in
      record {
        happened = tt;
        after = refl;
        reached = reached;
        lives = living.Lives.Ends w;
        moves = [];
        ran = living.Ran.None (side_at w g);
        goes = goes;
        stands = now;
        breaks = λ asked e broken left is may answers.
            failed-as e (λ call. Breaks new setup (side_at w g) (call_moves st w g call) t broken left) (λ call. Breaks old setup (side_at w g) (call_moves st w g call) t broken left)
            (λ call breaks. subst (λ (x : GatewayState). Breaks x setup (side_at w g) (call_moves st w g call) t broken left) same breaks)
            (fails-by w new site t reached now asked e broken left is may answers);
        lacks = λ asked e later left is may answers. lacks-by w new site t reached now asked e later left is may answers;
      }

  -- ---- something happens to the other one

  other : (w : World) (old : GatewayState) (before : Tells) (t : Told) (e : Event) (made : List Made) (es : List Event) (v : World) → whose e ≡ opposite g → MayHappen st w e
      → One (after_event st w e) old before t made es v → One w old before t made (e ∷ es) v
  other w old before t e made es v is may one =
      let same = others-side st w g e is in
      record {
        happened = (may, one.happened);
        after = one.after;
        reached = one.reached;
        lives = living.Lives.Other w e made es v is may one.lives;
        moves = one.moves;
        ran = subst (λ (s : Side). Ran (party_at st g) s (calls_in g (e ∷ es)) one.moves (side_at v g)) same
            (subst (λ (l : List Call). Ran (party_at st g) (side_at (after_event st w e) g) (l ++ calls_in g es) one.moves (side_at v g)) (sym (others-call g e is)) one.ran);
        goes = subst (λ (s : Side). Goes old setup s one.moves t new site) same one.goes;
        stands = subst (λ (s : Side). StandsIn st v g new site setup (told_steps (kept_of (area_of old) setup s) (steps_of one.moves) t)) same one.stands;
        breaks = λ asked f broken left of happens answers.
            failed-as f (λ call. Breaks old setup (side_at (after_event st w e) g) (one.moves ++ call_moves st v g call) t broken left) (λ call. Breaks old setup (side_at w g) (one.moves ++ call_moves st v g call) t broken left)
            (λ call breaks. subst (λ (s : Side). Breaks old setup s (one.moves ++ call_moves st v g call) t broken left) same breaks)
            (one.breaks asked f broken left of happens answers);
        lacks = one.lacks;
      }

  -- ---- it is asked, and answers

  abbrev made-of : Asked → Result (Option Text) Refused → Made
  made-of asked result = record { asked = asked; result = result }

  module _ (w : World) (old mid : GatewayState) (before between : Tells) (t : Told) (reached : Reached st a b w) (stands : StandsIn st w g old before setup t) (made : List Made) (es : List Event) (v : World) where
    abbrev told-after : List Move → Told
    told-after moves = told_steps (kept_of (area_of old) setup (side_at w g)) (steps_of moves) t

    -- a text that is no message
    unread : (text : Text) (m : Made) → MayHappen st w (Unread g text) → Is g m.asked (Unread g text) → AnswersIn st w (Unread g text) m.result
        → Stays old mid before between → One w mid between t made es v → One w old before t (m ∷ made) (Unread g text ∷ es) v
    unread text m may is answer stays one =
        record {
          happened = (may, one.happened);
          after = one.after;
          reached = one.reached;
          lives = living.Lives.Own w m (Unread g text) made es v is may answer one.lives;
          moves = one.moves;
          ran = subst (λ (l : List Call). Ran (party_at st g) (side_at w g) (l ++ calls_in g es) one.moves (side_at v g)) (sym (unread-call g text)) one.ran;
          goes = subst (λ (x : GatewayState). Goes x setup (side_at w g) one.moves t new site) stays.0 one.goes;
          stands = subst (λ (x : GatewayState). StandsIn st v g new site setup (told_steps (kept_of (area_of x) setup (side_at w g)) (steps_of one.moves) t)) stays.0 one.stands;
          breaks = λ asked f broken left of happens answers.
              failed-as f (λ call. Breaks mid setup (side_at w g) (one.moves ++ call_moves st v g call) t broken left) (λ call. Breaks old setup (side_at w g) (one.moves ++ call_moves st v g call) t broken left)
              (λ call breaks. subst (λ (x : GatewayState). Breaks x setup (side_at w g) (one.moves ++ call_moves st v g call) t broken left) stays.0 breaks)
              (one.breaks asked f broken left of happens answers);
          lacks = one.lacks;
        }

    module _ (call : Call) where
      abbrev first : List Move
      first = call_moves st w g call

      same-side : side_at (after_event st w (Called g call)) g ≡ moved_by (side_at w g) first
      same-side = side-after w g _ _

      called : (m : Made) → MayCall st w g call → Is g m.asked (Called g call) → Goes old setup (side_at w g) first t mid between → AnswersIn st w (Called g call) m.result
          → One (after_event st w (Called g call)) mid between (told-after first) made es v → One w old before t (m ∷ made) (Called g call ∷ es) v
      called m may is goes answer one =
          let rest : Goes mid setup (moved_by (side_at w g) first) one.moves (told-after first) new site = subst (λ (s : Side). Goes mid setup s one.moves (told-after first) new site) same-side one.goes in
          let all : Goes old setup (side_at w g) (first ++ one.moves) t new site = (moves-go-on old mid new setup (side_at w g) first one.moves t between site).goes goes rest in
          let ran : Ran (party_at st g) (side_at w g) (call ∷ calls_in g es) (first ++ one.moves) (side_at v g) = living.Ran.Then (side_at w g) call (calls_in g es) one.moves (side_at v g) (subst (λ (s : Side). Ran (party_at st g) s (calls_in g es) one.moves (side_at v g)) same-side one.ran) in
          record {
            happened = (may, one.happened);
            after = one.after;
            reached = one.reached;
            lives = living.Lives.Own w m (Called g call) made es v is may answer one.lives;
            moves = first ++ one.moves;
            ran = subst (λ (l : List Call). Ran (party_at st g) (side_at w g) (l ++ calls_in g es) (first ++ one.moves) (side_at v g)) (sym (own-call g call)) ran;
            goes = all;
            stands = record { party = stands.party; at = subst (λ (s : Side). IsAt new site setup s (told-after (first ++ one.moves))) (sym (ran-side (party_at st g) (side_at w g) (call ∷ calls_in g es) (first ++ one.moves) (side_at v g) ran)) all.1 };
            breaks = λ asked f broken left of happens answers.
                failed-as f (λ last. Breaks mid setup (side_at (after_event st w (Called g call)) g) (one.moves ++ call_moves st v g last) (told-after first) broken left) (λ last. Breaks old setup (side_at w g) ((first ++ one.moves) ++ call_moves st v g last) t broken left)
                (λ last breaks.
                subst (λ (l : List Move). Breaks old setup (side_at w g) l t broken left) (sym (append_assoc first one.moves (call_moves st v g last)))
                ((moves-go-on old mid broken setup (side_at w g) first (one.moves ++ call_moves st v g last) t between left).breaks goes
                (subst (λ (s : Side). Breaks mid setup s (one.moves ++ call_moves st v g last) (told-after first) broken left) same-side breaks)))
                (one.breaks asked f broken left of happens answers);
            lacks = one.lacks;
          }

      -- the gateway fits the site after it
      now-stands : Goes old setup (side_at w g) first t mid between → StandsIn st (after_event st w (Called g call)) g mid between setup (told-after first)
      now-stands goes = record { party = stands.party; at = subst (λ (s : Side). IsAt mid between setup s (told-after first)) (sym same-side) goes.1 }

      by-call : (m : Made) → MayCall st w g call → Is g m.asked (Called g call) → Answers call old mid before between m.result → IsAnswered m.result
          → ((u : Told) → StandsIn st (after_event st w (Called g call)) g mid between setup u → One (after_event st w (Called g call)) mid between u made es v) → One w old before t (m ∷ made) (Called g call ∷ es) v
      by-call m may is answers ok next =
          let steps = call-steps call old mid before between setup (side_at w g) t stands.at (party_at st g) stands.party m.result answers ok in
          called m may is steps.0 steps.1 (next (told-after first) (now-stands steps.0))

    own : (asked : Asked) (result : Result (Option Text) Refused) (x : Event) → Is g asked x → MayHappen st w x → IsAnswered result → AnswersTo asked old mid before between result
        → ((u : Told) → StandsIn st (after_event st w x) g mid between setup u → One (after_event st w x) mid between u made es v) → One w old before t (made-of asked result ∷ made) (x ∷ es) v
    own _ result _ (Of_operator call) may ok answers next = by-call call (made-of (Operates call) result) may (Of_operator call) answers ok next
    own _ result _ (Message_heard m text e) may ok (given, is, handled) next =
        let answers = subst (λ (r : Result (Option Text) Refused). Answers (Hears m text e) old mid before between r) (sym is) (heard-answers st w g old mid before between setup t stands a b reached m text e may given handled) in
        by-call (Hears m text e) (made-of (Handles text) result) may (Message_heard m text e) answers ok next
    own _ result _ (None_heard text) may ok (given, is, handled) next =
        let stays = unread-stays st w g old mid before between setup t stands text may given handled (subst IsAnswered is ok) in
        unread text (made-of (Handles text) result) may (None_heard text) (subst IsOfReading (sym is) stays.1) stays.0
        (next t (record { party = stands.party; at = (still-goes old mid before between setup (side_at w g) t stands.at stays.0).1 }))

  one-side : (w : World) (old : GatewayState) (before : Tells) (t : Told) (made : List Made) (asked : List Asked) (es : List Event) (v : World) → asked ≡ map (λ (m : Made). m.asked) made
      → Reached st a b w → StandsIn st w g old before setup t → AnswersAll made old new before site → Meanwhile st g w asked es v → One w old before t made es v
  one-side _ old before t [] _ _ _ e reached stands answers (living.Meanwhile.Ends w) = ends w old before t reached stands answers.0 answers.1
  one-side _ old before t (m ∷ made) _ _ _ e reached stands answers (living.Meanwhile.Ends w) = absurd cc
  one-side _ old before t [] _ _ _ e reached stands answers (living.Meanwhile.Own w x f asked es v is may rest) = absurd cc
  one-side _ old before t made _ _ _ e reached stands answers (living.Meanwhile.Other w f asked es v is may rest) =
      other w old before t f made es v is may
      (one-side (after_event st w f) old before t made asked es v e (one-event st a b w reached f may)
      (record { party = stands.party; at = subst (λ (s : Side). IsAt old before setup s t) (sym (others-side st w g f is)) stands.at }) answers rest)
  one-side _ old before t (m ∷ made) _ _ _ e reached stands answers (living.Meanwhile.Own w x f asked es v is may rest) =
      let first : x ≡ m.asked = first-asked e in
      own w old answers.0 before answers.1 t reached stands made es v m.asked m.result f (subst (λ (y : Asked). Is g y f) first is) may answers.2 answers.3
      (λ u now. one-side (after_event st w f) answers.0 answers.1 u made asked es v (others-asked e) (one-event st a b w reached f may) now answers.4 rest)

pub gateways-are-sides : GatewaysAreSides
gateways-are-sides st a b g w old new before site setup t made es v stood =
    one-side st a b g setup new site w old before t made (map (λ (m : Made). m.asked) made) es v refl stood.reached stood.stands stood.answers stood.meanwhile
