-- A round of each session that was begun goes in one way, and leaves them settled.
use Rattle.std.proofs.Common.{◌≡◌, List, [], ◌∷◌, ◌++◌, Option, Some, None, refl, sym, ap, ◌∙◌}
use Rattle.std.proofs.lemmas.List.{append_assoc, append-nil}
use Rattle.satp_base.proofs.Finite.{In}
use Rattle.satp_base.proofs.Finite.In.{here, there}
use Rattle.satp_base.specs.Founding.{Founding}
use Rattle.satp_base.specs.declared.session.SessionId.{SessionId}
use Rattle.satp_base.specs.declared.view.View.{View}
use Rattle.satp_rounds.proofs.SettleWorlds.{rounds-settle-worlds}
use Rattle.satp_rounds.specs.Conversations.{Converses, Hands, Round}
use Rattle.satp_rounds.specs.Conversations.Converses.{Ends, Goes}
use Rattle.satp_rounds.specs.Conversations.Hands.{Heard}
use Rattle.satp_sides.specs.Calls.{Call, Hears, Rescues}
use Rattle.satp_sides.specs.Points.{Move, Appends, Acts, Says, Side, Stored, Text, stored, moved, moved_by, view_in}
use Rattle.satp_world.specs.Histories.{Called, after_event, after_moves, call_moves}
use Rattle.satp_world.specs.Worlds.{Gateway, IsSettledAt, Reached, Setting, World, name_at, opposite, side_at}
use Rattle.satp_world.specs.Worlds.Gateway.{A, B}
use Rattle.satp_drill_runs.specs.Commands.{gateway_of}
use Rattle.satp_drill_runs.specs.Drills.{AreRecovered, IsRecovered}
use Rattle.satp_drill_runs.specs.Reports.{origin_of}
use Rattle.satp_drill_runs.proofs.Keeping.{Grows, settled-stays, still-there}
use Rattle.satp_drill_runs.proofs.Naming.{Begins, Named, call-named, say-named}
use Rattle.satp_drill_runs.proofs.Playing.{One, one-here, one-then}

-- ---- records grow

pub grows-not : (w : World) → Grows w w
grows-not w g = ([], sym (append-nil (side_at w g).records))

pub grows-on : (w u v : World) → Grows w u → Grows u v → Grows w v
grows-on w u v p q g = ((p g).0 ++ (q g).0, (q g).1 ∙ ap (λ xs. xs ++ (q g).0) (p g).1 ∙ append_assoc (side_at w g).records (p g).0 (q g).0)

side-grows : (side : Side) (ms : List Move) → (ys : List Stored) × ((moved_by side ms).records ≡ side.records ++ ys)
side-grows side [] = ([], sym (append-nil side.records))
side-grows side (Appends x ∷ ms) =
    let (ys, e) = side-grows (moved side (Appends x)) ms in
    (stored x.session x.rec x.text ∷ ys, e ∙ append_assoc side.records (stored x.session x.rec x.text ∷ []) ys)
side-grows side (Acts s op terms ∷ ms) = side-grows (moved side (Acts s op terms)) ms
side-grows side (Says t ∷ ms) = side-grows side ms

moves-grow : (w : World) (g : Gateway) (ms : List Move) → Grows w (after_moves w g ms)
moves-grow w A ms A = side-grows w.a ms
moves-grow w A ms B = ([], sym (append-nil w.b.records))
moves-grow w B ms A = ([], sym (append-nil w.a.records))
moves-grow w B ms B = side-grows w.b ms

-- ---- a round

module _ (st : Setting) (P : Gateway → SessionId → Type 0) where
  -- records have grown, and name no other session of the gateway's own name
  pub record Further (w v : World) : Type 0 where
    pub grows : Grows w v
    pub named : Named st P w → Named st P v

  further-not : (w : World) → Further w w
  further-not w = record { grows = grows-not w; named = λ n. n }

  pub further-on : (w u v : World) → Further w u → Further u v → Further w v
  further-on w u v p q = record { grows = grows-on w u v p.grows q.grows; named = λ n. q.named (p.named n) }

  pub call-further : (w : World) (g : Gateway) (call : Call) → Begins st P g call → Further w (after_event st w (Called g call))
  call-further w g call begins = record { grows = moves-grow w g (call_moves st w g call); named = call-named st P w g call begins }

  hands-further : (w : World) (g : Gateway) (t : Text) (reply : Option Text) (v : World) → Hands st w g t reply v → Further w v
  hands-further w g t _ _ (Heard m e reply h answer) = call-further w g (Hears m t e) tt

  pub converses-further : (w : World) (g : Gateway) (t : Text) (texts : List Text) (v : World) → Converses st w g t texts v → Further w v
  converses-further _ _ _ _ _ (Ends w g t v h) = hands-further w g t None v h
  converses-further _ _ _ _ _ (Goes w g t u v texts after h rest) = further-on w v after (hands-further w g t (Some u) v h) (converses-further v (opposite g) u texts after rest)

  round-further : (w : World) (g : Gateway) (s : SessionId) (texts : List Text) (v : World) → Round st w g s texts v → Further w v
  round-further w g s texts v r =
      let w1 = after_event st w (Called g (Rescues s)) in
      let w2 = after_moves r.between g (Says r.success ∷ []) in
      further-on w w1 v (call-further w g (Rescues s) tt)
      (further-on w1 r.between v (converses-further w1 (opposite g) r.recover r.said r.between r.converses)
      (further-on r.between w2 v (record { grows = moves-grow r.between g (Says r.success ∷ []); named = say-named st P r.between g r.success }) (hands-further w2 (opposite g) r.success None v r.hears)))

  module _ (a b : Founding) where
    abbrev origin : SessionId → Gateway
    origin s = gateway_of (origin_of s)

    -- after the round of a session, if it was begun
    pub record Recovered (w : World) (s : SessionId) (v : World) : Type 0 where
      pub reached : Reached st a b v
      pub further : Further w v
      pub settled : (x : View) → view_in s (side_at w (gateway_of (origin_of s))).records ≡ Some x → IsSettledAt v (gateway_of (origin_of s)) s

    recovered-one : (w : World) → Reached st a b w → (s : SessionId) → s.gateway ≡ name_at st (gateway_of (origin_of s)) → (o : Option View) → view_in s (side_at w (gateway_of (origin_of s))).records ≡ o → One (Recovered w s) (IsRecovered st w s o)
    recovered-one w r s own None e = one-here (Recovered w s) w (record { reached = r; further = further-not w; settled = λ x h. absurd (cc (e, h)) })
    recovered-one w r s own (Some x) e =
        let settles = rounds-settle-worlds st a b w r (origin s) s own (x, e) (origin s) (x, e) in
        record {
          it = settles.after;
          is = (settles.texts, settles.round);
          good = record { reached = settles.settled.reached; further = round-further w (origin s) s settles.texts settles.after settles.round; settled = λ y h. settles.settled.settled };
          only = λ z p. (settles.only p.0 z p.1).1;
        }

    -- after those of several
    pub record AllRecovered (w : World) (ss : List SessionId) (v : World) : Type 0 where
      pub reached : Reached st a b v
      pub further : Further w v
      pub settled : (s : SessionId) → In s ss → (x : View) → view_in s (side_at w (gateway_of (origin_of s))).records ≡ Some x → IsSettledAt v (gateway_of (origin_of s)) s

    abbrev pub Owns : List SessionId → Type 0
    Owns ss = (s : SessionId) → In s ss → s.gateway ≡ name_at st (gateway_of (origin_of s))

    later-settled : (w u v : World) (s : SessionId) (ss : List SessionId) → Owns (s ∷ ss) → Recovered w s u → AllRecovered u ss v → (t : SessionId) → In t (s ∷ ss) → (x : View) → view_in t (side_at w (gateway_of (origin_of t))).records ≡ Some x → IsSettledAt v (gateway_of (origin_of t)) t
    later-settled w u v s ss owns one rest _ here x e = settled-stays st a b u v one.reached rest.reached rest.further.grows s (origin s) (owns s here) (one.settled x e)
    later-settled w u v s ss owns one rest t (there i) x e =
        let (ys, grown) = one.further.grows (origin t) in
        let (y, named) = still-there t (side_at w (origin t)).records ys x e in
        rest.settled t i y (ap (view_in t) grown ∙ named)

    pub all-recovered-one : (w : World) → Reached st a b w → (ss : List SessionId) → Owns ss → One (AllRecovered w ss) (AreRecovered st w ss)
    all-recovered-one w r [] owns = one-here (AllRecovered w []) w (record { reached = r; further = further-not w; settled = λ s i. elim i [ ] })
    all-recovered-one w r (s ∷ ss) owns =
        one-then (Recovered w s) (AllRecovered w (s ∷ ss)) (IsRecovered st w s (view_in s (side_at w (gateway_of (origin_of s))).records)) (λ u v. AreRecovered st u ss v)
        (recovered-one w r s (owns s here) (view_in s (side_at w (gateway_of (origin_of s))).records) refl)
        (λ u one.
        let rest = all-recovered-one u one.reached ss (λ t i. owns t (there i)) in
        record {
          it = rest.it;
          is = rest.is;
          good = record {
            reached = rest.good.reached;
            further = further-on w u rest.it one.further rest.good.further;
            settled = later-settled w u rest.it s ss owns one rest.good;
          };
          only = rest.only;
        })
