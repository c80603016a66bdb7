-- What a gateway does within a command may happen: it leads to a reached world, and what is answered is in the bag.
use Rattle.std.proofs.Common.{◌≡◌, ℕ, Bool, true, false, List, [], ◌∷◌, ◌++◌, length, Option, Some, None, Result, Ok, Err, refl, sym, ap, subst, ◌∙◌, arith}
use Rattle.std.specs.Prelude.{take, if◌then◌else◌}
use Rattle.satp_base.proofs.ChainLemmas.{link_at_formed}
use Rattle.satp_base.proofs.TaleTable.{tale-short}
use Rattle.satp_base.specs.Chains.{head_of}
use Rattle.satp_base.specs.Forms.{IsMessage}
use Rattle.satp_base.specs.Founding.{Founding}
use Rattle.satp_base.specs.Tales.{is_whole}
use Rattle.satp_base.specs.declared.message.Body.TheVariants as body
use Rattle.satp_base.specs.declared.session.SessionId.{SessionId}
use Rattle.satp_base.specs.declared.view.View.{View}
use Rattle.satp_sides.proofs.LogTexts.{chain-length}
use Rattle.satp_sides.specs.Calls.{Call, Refusal, Run, run_of, says as said_last, success_text}
use Rattle.satp_sides.specs.Moves.{Among, Sayable, message_from, said_by}
use Rattle.satp_sides.specs.Moves.Among.{first, later}
use Rattle.satp_sides.specs.Moves.Delivered.{Alone}
use Rattle.satp_sides.specs.Moves.Sayable.{Succeeds}
use Rattle.satp_sides.specs.Points.{Move, Appends, Acts, Says, Text, chain_in, tale_of, view_in}
use Rattle.satp_world.proofs.EffectLaw.{runs-say-their-answers}
use Rattle.satp_world.proofs.HistoryLaw.{events-reach}
use Rattle.satp_world.proofs.KeptLaw.{moves-reach}
use Rattle.satp_world.proofs.WorldLaw.{law_safety}
use Rattle.satp_world.specs.Effects.{SaysItsAnswer}
use Rattle.satp_world.specs.Effects.SaysItsAnswer.{Answered, Refused, Unanswered}
use Rattle.satp_world.specs.Histories.{Event, Called, Stopped, Unread, MayCall, MayHappen, after_event, after_moves, call_moves}
use Rattle.satp_world.specs.Worlds.{Gateway, Reached, Setting, World, party_at, side_at}
use Rattle.satp_world.specs.Worlds.Gateway.{A, B}
use Rattle.satp_drill_runs.proofs.Naming.{Begins, Named, call-named, say-named, stop-named}
use Rattle.satp_drill_runs.specs.Benches.{Bench, Works, Broken, Stage, after_course, answer_at, answered, bench_at, called, called_at, course, event_by, with_bench}
use Rattle.satp_drill_runs.specs.Exchanges.{IsHearing, Next, Posts, Succeeds as Success, Ends, follows, unreplied}

-- ---- bags grow

abbrev pub Within : List Text → List Text → Type 0
Within old new = (t : Text) → Among t old → Among t new

said-more : (ms : List Move) (bag : List Text) → Within bag (said_by bag ms)
said-more [] bag t i = i
said-more (Appends x ∷ ms) bag t i = said-more ms bag t i
said-more (Acts s op terms ∷ ms) bag t i = said-more ms bag t i
said-more (Says u ∷ ms) bag t i = said-more ms (u ∷ bag) t (later i)

bag-with : (w : World) (g : Gateway) (ms : List Move) → (after_moves w g ms).bag ≡ said_by w.bag ms
bag-with w A ms = refl
bag-with w B ms = refl

moves-within : (w : World) (g : Gateway) (ms : List Move) → Within w.bag (after_moves w g ms).bag
moves-within w g ms t i = subst (Among t) (sym (bag-with w g ms)) (said-more ms w.bag t i)

pub event-within : (st : Setting) (w : World) (e : Event) → Within w.bag (after_event st w e).bag
event-within st w (Called g call) = moves-within w g (call_moves st w g call)
event-within st w (Stopped g call n) = moves-within w g (take n (call_moves st w g call))
event-within st w (Unread g t) = λ u i. i

said-end : (ms : List Move) (t : Text) (bag : List Text) → Among t (said_by bag (ms ++ Says t ∷ []))
said-end [] t bag = first
said-end (Appends x ∷ ms) t bag = said-end ms t bag
said-end (Acts s op terms ∷ ms) t bag = said-end ms t bag
said-end (Says u ∷ ms) t bag = said-end ms t (u ∷ bag)

-- ---- what is answered was said

abbrev Answer : Type 0
Answer = Option (Result (Option Text) Refusal)

reply-is : (x y : Option Text) → ◌≡◌ {A = Answer} (Some (Ok x)) (Some (Ok y)) → x ≡ y
reply-is x y e = cc e

said-answer : (run : Run) (bag : List Text) (t : Text) → SaysItsAnswer run → run.answer ≡ Some (Ok (Some t)) → Among t (said_by bag run.moves)
said-answer run bag t (Answered before reply silent moves is) e =
    let same : reply ≡ Some t = reply-is reply (Some t) (sym is ∙ e) in
    subst (λ ms. Among t (said_by bag ms)) (sym (moves ∙ ap (λ r. before ++ said_last r) same)) (said-end before t bag)
said-answer run bag t (Refused r moves is) e = absurd (cc (is, e))
said-answer run bag t (Unanswered silent is) e = absurd (cc (is, e))

bench-is : (w : World) (x : Stage) (g : Gateway) (bench : Bench) → bench_at (with_bench w x g bench) g ≡ bench
bench-is w x A bench = refl
bench-is w x B bench = refl

module _ (st : Setting) (a b : Founding) (P : Gateway → SessionId → Type 0) where
  -- the world is reached, and holds what was said before
  pub record Later (w v : World) : Type 0 where
    pub reached : Reached st a b v
    pub within : Within w.bag v.bag
    pub named : Named st P w → Named st P v

  -- the call may happen, and starts none but these sessions
  abbrev pub MayDo : World → Gateway → Call → Type 0
  MayDo w g call = MayCall st w g call × Begins st P g call

  event-later : (w : World) (e : Event) → Reached st a b w → MayHappen st w e → (Named st P w → Named st P (after_event st w e)) → Later w (after_event st w e)
  event-later w e r may names = record { reached = events-reach st a b w r (e ∷ []) (may, tt); within = event-within st w e; named = names }

  module _ (x : Stage) (g : Gateway) (call : Call) where
    course-later : (made : ℕ) (bench : Bench) → Reached st a b x.world → MayDo x.world g call → Later x.world (after_course st x g call made bench).world
    course-later made (Works limit) r may = event-later x.world (Called g call) r may.0 (call-named st P x.world g call may.1)
    course-later made Broken r may = event-later x.world (Stopped g call made) r may.0 (stop-named st P x.world g call made may.1)

    at-later : (bench : Bench) → Reached st a b x.world → MayDo x.world g call → Later x.world (called_at st x g call bench).world
    at-later (Works limit) r may = let c = course (side_at x.world g) (call_moves st x.world g call) limit in course-later c.made c.bench r may
    at-later Broken r may = record { reached = r; within = λ t i. i; named = λ n. n }

    pub called-later : Reached st a b x.world → MayDo x.world g call → Later x.world (called st x g call).world
    called-later r may = at-later (bench_at x g) r may

    abbrev run : Run
    run = run_of (party_at st g) (side_at x.world g) call

    course-said : (made : ℕ) (bench : Bench) (t : Text) → answer_at (run_of (party_at st g) (side_at x.world g) call) bench ≡ Some (Ok (Some t)) → Among t (after_course st x g call made bench).world.bag
    course-said made (Works limit) t e =
        subst (Among t) (sym (bag-with x.world g (call_moves st x.world g call))) (said-answer run x.world.bag t (runs-say-their-answers (party_at st g) (side_at x.world g) call) e)
    course-said made Broken t e = absurd (cc e)

    at-said : (bench : Bench) (t : Text) → bench_at x g ≡ bench → answer_at (run_of (party_at st g) (side_at x.world g) call) (bench_at (called_at st x g call bench) g) ≡ Some (Ok (Some t)) → Among t (called_at st x g call bench).world.bag
    at-said (Works limit) t is e =
        let c = course (side_at x.world g) (call_moves st x.world g call) limit in
        course-said c.made c.bench t (ap (answer_at run) (sym (bench-is (after_event st x.world (event_by g call c.made c.bench)) x g c.bench)) ∙ e)
    at-said Broken t is e = absurd (let h = ap (answer_at run) (sym is) ∙ e in cc h)

    pub answer-said : (t : Text) → answered st x g call ≡ Some (Ok (Some t)) → Among t (called st x g call).world.bag
    answer-said t e = at-said (bench_at x g) t refl e

  -- ---- a text that was said may be heard

  pub may-hear : (w : World) (g : Gateway) (t : Text) (call : Call) → Among t w.bag → IsHearing st.key t call → MayDo w g call
  may-hear w g t call i (m, e, is, h) = subst (MayDo w g) (sym is) ((h, Alone i), tt)

  -- ---- what may be posted next

  -- it was said, or may be
  abbrev pub MayFollow : World → Gateway → Next → Type 0
  MayFollow w g (Posts t owed) = Among t w.bag
  MayFollow w g (Success t) = Sayable (party_at st g) (side_at w g).records w.bag t
  MayFollow w g Ends = Unit {0}

  module _ (w : World) (r : Reached st a b w) (g : Gateway) (s : SessionId) where
    success-formed : (v : View) → view_in s (side_at w g).records ≡ Some v → IsMessage (message_from (party_at st g) s (body.Success (length (chain_in s (side_at w g).records)) (head_of (chain_in s (side_at w g).records)).last))
    success-formed v e =
        let c = (law_safety st a b w r).chains g s v e in
        let long = chain-length _ _ _ v _ c in
        let short = tale-short _ c.chain.tale in
        let kinds = ap length c.kinds in
        let texts = chain_in s (side_at w g).records in
        (omega (arith, long, short, kinds), link_at_formed texts (length texts))

    success-says : (o : Option View) → view_in s (side_at w g).records ≡ o → is_whole (tale_of o) ≡ true → MayFollow w g (Success (success_text (party_at st g) s (chain_in s (side_at w g).records)))
    success-says None e h = absurd (cc h)
    success-says (Some v) e h = Succeeds s v e (success-formed v e)

    one-follows : (n : Next) (whole owed : Bool) → (whole ≡ true → MayFollow w g n) → MayFollow w g (if whole then (if owed then n else Ends) else Ends)
    one-follows n true true h = h refl
    one-follows n true false h = tt
    one-follows n false owed h = tt

    pub unreplied-follows : (owed : Bool) → MayFollow w g (unreplied (party_at st g) s owed (side_at w g).records)
    unreplied-follows owed =
        let xs = (side_at w g).records in
        one-follows (Success (success_text (party_at st g) s (chain_in s xs))) (is_whole (tale_of (view_in s xs))) owed (λ h. success-says (view_in s xs) refl h)

    pub answer-follows : (owed : Bool) (answer : Option (Result (Option Text) Refusal)) → ((t : Text) → answer ≡ Some (Ok (Some t)) → Among t w.bag) → MayFollow w g (follows (party_at st g) s owed (side_at w g).records answer)
    answer-follows owed None h = tt
    answer-follows owed (Some (Err r)) h = tt
    answer-follows owed (Some (Ok None)) h = unreplied-follows owed
    answer-follows owed (Some (Ok (Some t))) h = h t refl

  -- ---- a gateway says a text

  pub says-later : (w : World) (g : Gateway) (t : Text) → Reached st a b w → Sayable (party_at st g) (side_at w g).records w.bag t → Later w (after_moves w g (Says t ∷ []))
  says-later w g t r h = record { reached = moves-reach st a b w r g (Says t ∷ []) (h, tt); within = moves-within w g (Says t ∷ []); named = say-named st P w g t }

  pub says-among : (w : World) (g : Gateway) (t : Text) → Among t (after_moves w g (Says t ∷ [])).bag
  says-among w g t = subst (Among t) (sym (bag-with w g (Says t ∷ []))) first
