-- The bytes at both ends of one wire: each text is answered with what the other gateway replies.
use Rattle.std.proofs.Common.{◌≡◌, ◌⊎◌, ◌≤◌, inl, inr, ℕ, Bool, false, List, [], ◌++◌, length, Option, Some, None, Result, Ok, Err, refl, sym, ap, subst, ◌∙◌, arith}
use Rattle.satp_base.proofs.TextSizes.{own-short}
use Rattle.satp_base.specs.Calls.{Told}
use Rattle.satp_gateway.specs.Handling.{IsHeardBy, reply_of}
use Rattle.satp_gateway.specs.declared.handle.Reply.{Reply}
use Rattle.satp_gateway.specs.declared.handle.Reply.TheVariants as replies
use Rattle.satp_http.specs.Written.{response_text}
use Rattle.satp_log.proofs.JournalLemmas.{one-journal}
use Rattle.satp_log.specs.Journals.{party_of}
use Rattle.satp_points.specs.Answers.{Answers}
use Rattle.satp_points.specs.States.{GatewayState, Holds, IsAt, area_of, kept_of, steps_of}
use Rattle.satp_points.specs.declared.fault.Refused.{Refused}
use Rattle.satp_points.specs.declared.fault.Refused.TheVariants as refused
use Rattle.satp_records.specs.declared.stored.Setup.{Setup}
use Rattle.satp_sides.specs.Calls.{IsEntryOf, IsOwn, Refusal, run_of}
use Rattle.satp_sides.specs.Calls.Call.{Hears}
use Rattle.satp_sides.specs.Points.{Party, Side, Stored, Text}
use Rattle.satp_stops.specs.Stops.{told_steps}
use Rattle.satp_world.specs.Histories.{after_event, call_moves}
use Rattle.satp_world.specs.Histories.Event.{Called}
use Rattle.satp_world.specs.Worlds.{Gateway, Setting, World, party_at, side_at}
use Rattle.satp_rounds.specs.Conversations.{Hands}
use Rattle.satp_rounds.specs.Conversations.Hands.{Heard}
use Rattle.satp_rounds.proofs.Once.{reply-once}
use Rattle.satp_runs.specs.Asking.{IsAnswered}
use Rattle.satp_runs.specs.Living.{AnswersAs}
use Rattle.satp_runs.proofs.Asks.{is-answered}
use Rattle.satp_runs.proofs.OneSideLaw.{side-after}
use Rattle.satp_runs.proofs.Stepping.{call-steps}
use Rattle.satp_serve.specs.Exchange as exchange
use Rattle.satp_serve.specs.Exchange.{SaysToRequest, Talks, closes_at, handed}
use Rattle.satp_serve.specs.GatewayReplies.{GatewayReplies, ReplyAnswers, answer}
use Rattle.satp_serve.specs.declared.responder.Halt.{Halt}
use Rattle.satp_serve.specs.declared.responder.Halt.TheVariants as halt
use Rattle.satp_serve.specs.declared.responder.Replied.{Replied}
use Rattle.satp_wire_laws.proofs.Fronts.{body_of, code_of}
use Rattle.satp_wire_laws.proofs.Serving.{GatewayTalk, posted_as}

-- a gateway was set up in one way
one-setup : (g : GatewayState) (setup other : Setup) (xs ys : List Stored) → Holds g setup xs → Holds g other ys → setup ≡ other
unfolding Holds
one-setup g setup other xs ys h k = (one-journal g.payloads setup other xs ys h k).0

-- ---- what the gateway replies to a text that it takes

-- it says this answer, and doesn't close the connection
answered-with : (t u : GatewayTalk) (close : Bool) (code : ℕ) (body : List ℕ) (result : Result Replied Halt) → result ≡ Ok (answer code body) → exchange.Answers t close result u → u.closed ≡ false → u.said ≡ t.said ++ response_text code body false
answered-with t u close code body result is answers unclosed =
    let says : u ≡ exchange.spoken t (response_text code body close) close = subst (λ (r : Result Replied Halt). exchange.Answers t close r u) is answers in
    let plain : close ≡ false = sym (ap (λ (x : GatewayTalk). x.closed) says) ∙ unclosed in
    ap (λ (x : GatewayTalk). x.said) says ∙ ap (λ (c : Bool). t.said ++ response_text code body c) plain

never-memory : (t u : GatewayTalk) (close : Bool) (result : Result Replied Halt) → result ≡ Err halt.Memory → exchange.Answers t close result u → ⊥
never-memory t u close result is answers = subst (λ (r : Result Replied Halt). exchange.Answers t close r u) is answers

never-site : (t u : GatewayTalk) (close : Bool) (result : Result Replied Halt) → result ≡ Err halt.Site → exchange.Answers t close result u → ⊥
never-site t u close result is answers = subst (λ (r : Result Replied Halt). exchange.Answers t close r u) is answers

-- so it stands afterwards, and so much was said
pub record Said (st : Setting) (v : World) (h : Gateway) (setup : Setup) (t talk : GatewayTalk) (reply : Option Text) : Type 0 where
  pub told : Told
  pub at : IsAt talk.responder talk.site.tells setup (side_at v h) told
  pub said : talk.said ≡ t.said ++ response_text (code_of reply) (body_of reply) false

pub says-by : (st : Setting) (w : World) (h : Gateway) (setup : Setup) (party : party_of setup ≡ party_at st h) (text : Text) (t talk : GatewayTalk) (unclosed : talk.closed ≡ false) (u : Told) (at : IsAt t.responder t.site.tells setup (side_at w h) u)
    (reply : Option Text) (v : World) → Hands st w h text reply v → SaysToRequest GatewayReplies t (posted_as text) talk → Said st v h setup t talk reply
says-by st w h setup party text t talk unclosed u at _ _ (Heard m e reply heard is) says = by-handled says.replied.handled refl
  where
    short : length text ≤ 8192
    short = let few = own-short st.key m heard.0.0 in let same = ap length heard.0.1 in omega (arith, few, same)

    heard-by : IsHeardBy t.responder text m e
    heard-by = (
      short,
      λ other ys holds.
          let key : st.key ≡ other.key = sym (ap (λ (p : Party). p.key) party) ∙ ap (λ (s : Setup). s.key) (one-setup t.responder setup other (side_at w h).records ys at.holds holds) in
          subst (λ (k : List ℕ). IsOwn k text m × IsEntryOf k m.body e) key heard,
    )

    stands-then : (r : Result (Option Text) Refused) → reply_of says.replied.handled ≡ r → IsAnswered r → (IsAt talk.responder talk.site.tells setup (side_at (after_event st w (Called h (Hears m text e))) h) (told_steps (kept_of (area_of t.responder) setup (side_at w h)) (steps_of (call_moves st w h (Hears m text e))) u)) × AnswersAs (run_of (party_at st h) (side_at w h) (Hears m text e)).answer r
    stands-then r same ok =
        let answers = subst (λ (x : Result (Option Text) Refused). Answers (Hears m text e) t.responder talk.responder t.site.tells talk.site.tells x) same (says.replied.answers m e heard-by) in
        let steps = call-steps (Hears m text e) t.responder talk.responder t.site.tells talk.site.tells setup (side_at w h) u at (party_at st h) party r answers ok in
        (subst (λ (z : Side). IsAt talk.responder talk.site.tells setup z (told_steps (kept_of (area_of t.responder) setup (side_at w h)) (steps_of (call_moves st w h (Hears m text e))) u)) (sym (side-after w h _ _)) steps.0.1, steps.1)

    by-handled : (given : Result Reply Refused) → says.replied.handled ≡ given → Said st (after_event st w (Called h (Hears m text e))) h setup t talk reply
    by-handled (Ok (replies.Message text')) same =
        let steps = stands-then (Ok (Some text')) (ap reply_of same) tt in
        let is-reply : Some text' ≡ reply = reply-once (Some text') reply (sym steps.1 ∙ is) in
        let said = answered-with (handed t talk.responder talk.site) talk _ 200 text' says.result (subst (λ (x : Result Reply Refused). ReplyAnswers x says.result) same says.replied.answered) says.answers unclosed in
        record { told = _; at = steps.0; said = subst (λ (o : Option Text). talk.said ≡ t.said ++ response_text (code_of o) (body_of o) false) is-reply said }
    by-handled (Ok replies.Nothing) same =
        let steps = stands-then (Ok None) (ap reply_of same) tt in
        let is-reply : None ≡ reply = reply-once None reply (sym steps.1 ∙ is) in
        let said : talk.said ≡ t.said ++ response_text 204 [] false = elim (subst (λ (x : Result Reply Refused). ReplyAnswers x says.result) same says.replied.answered) [
          | inl ok ↦ answered-with (handed t talk.responder talk.site) talk _ 204 [] says.result ok says.answers unclosed
          | inr bad ↦ absurd (never-memory (handed t talk.responder talk.site) talk _ says.result bad says.answers)
        ] in
        record { told = _; at = steps.0; said = subst (λ (o : Option Text). talk.said ≡ t.said ++ response_text (code_of o) (body_of o) false) is-reply said }
    by-handled (Err r) same = absurd (refused-not (is-answered r))
      where
        refused-not : ((r ≡ refused.Site) ⊎ (r ≡ refused.Memory) ⊎ IsAnswered (Err r)) → ⊥
        refused-not (inl site) = never-site (handed t talk.responder talk.site) talk _ says.result (subst (λ (x : Result Reply Refused). ReplyAnswers x says.result) (same ∙ ap (λ (x : Refused). Err x) site) says.replied.answered) says.answers
        refused-not (inr (inl memory)) = never-memory (handed t talk.responder talk.site) talk _ says.result (subst (λ (x : Result Reply Refused). ReplyAnswers x says.result) (same ∙ ap (λ (x : Refused). Err x) memory) says.replied.answered) says.answers
        refused-not (inr (inr ok)) =
            let steps = stands-then (Err r) (ap reply_of same) ok in
            let bad : ◌≡◌ {A = Option (Result (Option Text) Refusal)} (Some (Ok reply)) (Some (Err steps.1.0)) = sym is ∙ steps.1.1 in
            cc bad
