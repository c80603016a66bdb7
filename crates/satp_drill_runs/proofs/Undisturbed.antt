-- Where nothing goes wrong an exchange is a conversation of both gateways: each text is handed to the other one, until no reply comes.
use Rattle.std.proofs.Common.{◌≡◌, ℕ, zero, suc, ◌+◌, ◌*◌, ◌≤◌, Bool, true, false, List, [], ◌∷◌, ◌++◌, length, Option, Some, None, Result, Ok, refl, sym, ap, subst, ◌∙◌, arith}
use Rattle.std.specs.Prelude.{if◌then◌else◌}
use Rattle.satp_base.specs.Tales.{is_whole}
use Rattle.satp_base.specs.declared.session.SessionId.{SessionId}
use Rattle.satp_rounds.specs.Conversations.{Converses, Hands}
use Rattle.satp_rounds.specs.Conversations.Converses.{Ends as Last, Goes as More}
use Rattle.satp_rounds.specs.Conversations.Hands.{Heard}
use Rattle.satp_sides.specs.Calls.{Call, Hears, Refusal, run_of}
use Rattle.satp_sides.specs.Points.{Move, Party, Side, Stored, Text, moved, tale_of, view_in}
use Rattle.satp_world.specs.Histories.{Called, after_event, call_moves}
use Rattle.satp_world.specs.Worlds.{Gateway, Setting, World, opposite, party_at, side_at}
use Rattle.satp_world.specs.Worlds.Gateway.{A, B}
use Rattle.satp_drill_runs.specs.Benches.{Course, Stage, Works, answer_at, answered, bench_at, called, course, runs_course}
use Rattle.satp_drill_runs.specs.Commands.{no_troubles}
use Rattle.satp_drill_runs.specs.Exchanges.{Answers, Exchanges, IsHearing, Next, Posts, Ends, Talk, calls, follows, follows_call, records_at, replies, unreplied}

-- ---- sites without a limit

abbrev pub free : World → Stage
free w = record { world = w; a = Works None; b = Works None }

free-course : (side : Side) (ms : List Move) → (made : ℕ) × (course side ms None ≡ record { made = made; bench = Works None })
free-course side [] = (0, refl)
free-course side (m ∷ ms) = let (n, e) = free-course (moved side m) ms in (1 + n, ap (λ (c : Course). record { made = 1 + c.made; bench = c.bench }) e)

module _ (st : Setting) where
  pub free-called : (w : World) (g : Gateway) (call : Call) → called st (free w) g call ≡ free (after_event st w (Called g call))
  free-called w A call = ap (runs_course st (free w) A call) (free-course w.a (call_moves st w A call)).1
  free-called w B call = ap (runs_course st (free w) B call) (free-course w.b (call_moves st w B call)).1

  pub free-answered : (w : World) (g : Gateway) (call : Call) → answered st (free w) g call ≡ (run_of (party_at st g) (side_at w g) call).answer
  free-answered w A call = ap (λ x. answer_at (run_of (party_at st A) (side_at w A) call) (bench_at x A)) (free-called w A call)
  free-answered w B call = ap (λ x. answer_at (run_of (party_at st B) (side_at w B) call) (bench_at x B)) (free-called w B call)

  -- ---- one text

  -- the gateway hears the text, and replies so
  record Step (w : World) (g : Gateway) (t : Text) (reply : Option Text) (v : World) : Type 0 where
    call : Call
    hearing : IsHearing st.key t call
    stage : called st (free w) g call ≡ free v
    answer : answered st (free w) g call ≡ Some (Ok reply)

  step : (w : World) (g : Gateway) (t : Text) (reply : Option Text) (v : World) → Hands st w g t reply v → Step w g t reply v
  step w g t _ _ (Heard m e reply h answer) = record {
    call = Hears m t e;
    hearing = (m, e, refl, h);
    stage = free-called w g (Hears m t e);
    answer = free-answered w g (Hears m t e) ∙ answer;
  }

  -- the last text, or one that has a reply
  data Talks (w : World) (g : Gateway) (t : Text) (texts : List Text) (after : World) : Type 0 where
    At_end : texts ≡ t ∷ [] → Hands st w g t None after → Talks w g t texts after
    On : (u : Text) (v : World) (ts : List Text) → texts ≡ t ∷ ts → Hands st w g t (Some u) v → Converses st v (opposite g) u ts after → Talks w g t texts after

  talks : (w : World) (g : Gateway) (t : Text) (texts : List Text) (after : World) → Converses st w g t texts after → Talks w g t texts after
  talks _ _ _ _ _ (Last w g t v h) = At_end refl h
  talks _ _ _ _ _ (More w g t u v texts after h rest) = On u v texts refl h rest

  -- ---- an exchange

  abbrev pub talk : World → List Text → Talk
  talk w sent = record { stage = free w; sent = sent; again = None }

  unreplied-ends : (p : Party) (s : SessionId) (xs : List Stored) → unreplied p s false xs ≡ Ends
  unreplied-ends p s xs = by (is_whole (tale_of (view_in s xs)))
    where
      by : (b : Bool) → ◌≡◌ {A = Next} (if b then Ends else Ends) Ends
      by true = refl
      by false = refl

  twice : (g : Gateway) → opposite (opposite g) ≡ g
  twice A = refl
  twice B = refl

  module _ (g : Gateway) (s : SessionId) where
    -- the exchange leads to this world, and no answer comes once more
    pub record Played (most n : ℕ) (x : Talk) (next : Next) (after : World) : Type 0 where
      pub sent : List Text
      pub exchanges : Exchanges most st no_troubles g s n x next (talk after sent)

    ended : (most n : ℕ) (x : Talk) (after : World) (sent : List Text) (next : Next) → next ≡ Ends → x ≡ talk after sent → Exchanges most st no_troubles g s n x next (talk after sent)
    ended zero n x after sent next e is = sym is
    ended (suc most) n x after sent next e is = subst (λ z. Exchanges (suc most) st no_troubles g s n x z (talk after sent)) (sym e) (sym is)

    -- what this gateway does with the reply
    abbrev Takes : ℕ → ℕ → World → List Text → Text → World → List Text → Type 0
    Takes most n v sent u after all =
        (call : Call) × IsHearing st.key u call × Exchanges most st no_troubles g s (n + 1) (calls st (talk v sent) g call) (follows_call st (talk v sent) g s false call) (talk after all)

    -- it replies nothing
    takes-last : (most n : ℕ) (v : World) (sent : List Text) (u : Text) (after : World) → Hands st v g u None after → Takes most n v sent u after sent
    takes-last most n v sent u after h =
        let k = step v g u None after h in
        let there : calls st (talk v sent) g k.call ≡ talk after sent = ap (λ (x : Stage). record { stage = x; sent = sent; again = None }) k.stage in
        let next : follows_call st (talk v sent) g s false k.call ≡ Ends =
        ap (λ o. follows (party_at st g) s false (records_at (calls st (talk v sent) g k.call) g) o) k.answer ∙ unreplied-ends (party_at st g) s (records_at (calls st (talk v sent) g k.call) g) in
        (k.call, k.hearing, ended most (n + 1) (calls st (talk v sent) g k.call) after sent (follows_call st (talk v sent) g s false k.call) next there)

    -- it replies a text
    takes-on : (most n : ℕ) (v : World) (sent : List Text) (u : Text) (t : Text) (w : World) → Hands st v g u (Some t) w → (after : World) (all : List Text) → Exchanges most st no_troubles g s (n + 1) (talk w sent) (Posts t false) (talk after all)
        → Takes most n v sent u after all
    takes-on most n v sent u t w h after all rest =
        let k = step v g u (Some t) w h in
        let there : calls st (talk v sent) g k.call ≡ talk w sent = ap (λ (x : Stage). record { stage = x; sent = sent; again = None }) k.stage in
        let next : follows_call st (talk v sent) g s false k.call ≡ Posts t false = ap (λ o. follows (party_at st g) s false (records_at (calls st (talk v sent) g k.call) g) o) k.answer in
        (k.call, k.hearing, subst (λ x. Exchanges most st no_troubles g s (n + 1) x (follows_call st (talk v sent) g s false k.call) (talk after all)) (sym there) (subst (λ z. Exchanges most st no_troubles g s (n + 1) (talk w sent) z (talk after all)) (sym next) rest))

    -- what the peer's reply to a text leads to
    abbrev Replied : ℕ → ℕ → World → List Text → Option Text → World → List Text → Type 0
    Replied most n v sent reply after all =
        Answers (Exchanges most st no_troubles g s) st no_troubles g s false n (replies (talk v sent) (Some (Ok reply))) (Some (Ok reply)) (talk after all)

    posts : (most n : ℕ) (w : World) (sent : List Text) (t : Text) (reply : Option Text) (v : World) → Hands st w (opposite g) t reply v → (after : World) (all : List Text) → Replied most (n + 1) v (sent ++ t ∷ []) reply after all
        → Exchanges (suc most) st no_troubles g s n (talk w sent) (Posts t false) (talk after all)
    posts most n w sent t reply v h after all rest =
        let k = step w (opposite g) t reply v h in
        let P = λ (x : Stage) (o : Option (Result (Option Text) Refusal)). Answers (Exchanges most st no_troubles g s) st no_troubles g s false (n + 1) (replies (record { stage = x; sent = sent ++ t ∷ []; again = None }) o) o (talk after all) in
        (k.call, k.hearing, subst (λ x. P x (answered st (free w) (opposite g) k.call)) (sym k.stage) (subst (P (free v)) (sym k.answer) rest))

    played-by : (most : ℕ) → ((n : ℕ) (w : World) (sent : List Text) (t : Text) (texts : List Text) (after : World) → Converses st w (opposite g) t texts after → length texts ≤ 2 * most → Played most n (talk w sent) (Posts t false) after)
        → (n : ℕ) (w : World) (sent : List Text) (t : Text) (texts : List Text) (after : World) → length texts ≤ 2 * suc most → Talks w (opposite g) t texts after → Played (suc most) n (talk w sent) (Posts t false) after
    played-by most rest n w sent t texts after few (At_end is h) = record {
      sent = sent ++ t ∷ [];
      exchanges = posts most n w sent t None after h after (sent ++ t ∷ []) (ended most (n + 1) (talk after (sent ++ t ∷ [])) after (sent ++ t ∷ []) (unreplied (party_at st g) s false (records_at (talk after (sent ++ t ∷ [])) g)) (unreplied-ends (party_at st g) s (records_at (talk after (sent ++ t ∷ [])) g)) refl);
    }
    played-by most rest n w sent t texts after few (On u v ts is h more) = by (talks v g u ts after (subst (λ q. Converses st v q u ts after) (twice g) more))
      where
        sent2 : List Text
        sent2 = (sent ++ t ∷ []) ++ u ∷ []

        by : Talks v g u ts after → Played (suc most) n (talk w sent) (Posts t false) after
        by (At_end e k) = record {
          sent = (sent ++ t ∷ []) ++ u ∷ [];
          exchanges = posts most n w sent t (Some u) v h after ((sent ++ t ∷ []) ++ u ∷ []) (takes-last most (n + 1) v ((sent ++ t ∷ []) ++ u ∷ []) u after k);
        }
        by (On u2 v2 ts2 e k rest2) =
            let small = ap length is in
            let smaller = ap length e in
            let p = rest (n + 1 + 1) v2 ((sent ++ t ∷ []) ++ u ∷ []) u2 ts2 after rest2 (omega (arith, few, small, smaller)) in
            record {
              sent = p.sent;
              exchanges = posts most n w sent t (Some u) v h after p.sent (takes-on most (n + 1) v ((sent ++ t ∷ []) ++ u ∷ []) u u2 v2 k after p.sent p.exchanges);
            }

    pub played : (most n : ℕ) (w : World) (sent : List Text) (t : Text) (texts : List Text) (after : World) → Converses st w (opposite g) t texts after → length texts ≤ 2 * most → Played most n (talk w sent) (Posts t false) after
    played zero n w sent t texts after c few = none (talks w (opposite g) t texts after c)
      where
        none : Talks w (opposite g) t texts after → Played zero n (talk w sent) (Posts t false) after
        none (At_end e h) = absurd (let m = ap length e in omega (arith, m, few))
        none (On u v ts e h more) = absurd (let m = ap length e in omega (arith, m, few))
    played (suc most) n w sent t texts after c few = played-by most (played most) n w sent t texts after few (talks w (opposite g) t texts after c)
