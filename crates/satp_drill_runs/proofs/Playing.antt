-- An exchange goes in one way, and leads to a reached world whose bag holds all that was sent.
use Rattle.std.proofs.Common.{◌≡◌, ◌⊎◌, inl, inr, ℕ, zero, suc, ◌+◌, Bool, true, false, List, [], ◌∷◌, ◌++◌, Option, Some, None, Result, Ok, Err, refl, sym, subst}
use Rattle.satp_base.specs.Founding.{Founding}
use Rattle.satp_base.specs.declared.session.SessionId.{SessionId}
use Rattle.satp_sides.specs.Calls.{Call, Refusal}
use Rattle.satp_sides.specs.Moves.{Among, Sayable}
use Rattle.satp_sides.specs.Moves.Among.{first, later}
use Rattle.satp_sides.specs.Points.{Text}
use Rattle.satp_world.specs.Worlds.{Gateway, Reached, Setting, opposite, party_at, side_at}
use Rattle.satp_drill_runs.specs.Benches.{answered, called}
use Rattle.satp_drill_runs.specs.Exchanges.{Answers, Either, Exchanges, IsHearing, IsPosted, Next, Posts, Succeeds, Ends, Talk, Troubles, calls, follows_call, hands, hands_over, is_lost, is_twice, keeps, records_at, replies, says, sends, unreplied}
use Rattle.satp_drill_runs.proofs.Hearing.{bag-reads, hearing-once}
use Rattle.satp_drill_runs.proofs.Naming.{Named}
use Rattle.satp_drill_runs.proofs.Staging.{Later, MayDo, MayFollow, Within, answer-follows, answer-said, called-later, may-hear, says-among, says-later, unreplied-follows}

among-one : (t u : Text) → Among t (u ∷ []) → Among t [] ⊎ (t ≡ u)
among-one _ u first = inr refl
among-one t u (later j) = inl j

among-step : (t u v : Text) (ts : List Text) → (Among t (ts ++ u ∷ []) → Among t ts ⊎ (t ≡ u)) → Among t (v ∷ ts ++ u ∷ []) → Among t (v ∷ ts) ⊎ (t ≡ u)
among-step _ u v ts h first = inl first
among-step t u v ts h (later j) = elim (h j) [ inl k ↦ inl (later k) | inr e ↦ inr e ]

among-end : (t u : Text) (ts : List Text) → Among t (ts ++ u ∷ []) → Among t ts ⊎ (t ≡ u)
among-end t u [] i = among-one t u i
among-end t u (v ∷ ts) i = among-step t u v ts (among-end t u ts) i

-- There is one, of this kind, and no other.
pub record One {X : Type 0} (G P : X → Type 0) : Type 0 where
  pub it : X
  pub is : P it
  pub good : G it
  pub only : (z : X) → P z → z ≡ it

pub one-here : {X : Type 0} (G : X → Type 0) (x : X) → G x → One G (λ y. y ≡ x)
one-here G x g = record { it = x; is = refl; good = g; only = λ z e. e }

pub one-either : {X : Type 0} (G P Q : X → Type 0) (b : Bool) → One G P → One G Q → One G (λ y. Either b (P y) (Q y))
one-either G P Q true p q = p
one-either G P Q false p q = q

-- a text is read in one way
pub one-read : {X : Type 0} (G : X → Type 0) (key : List ℕ) (t : Text) (Q : Call → X → Type 0) → (call : Call) × IsHearing key t call → ((call : Call) → IsHearing key t call → One G (Q call)) → One G (λ y. (call : Call) × IsHearing key t call × Q call y)
one-read G key t Q (call, h) one =
    let o = one call h in
    record {
      it = o.it;
      is = (call, h, o.is);
      good = o.good;
      only = λ z p. o.only z (subst (λ c. Q c z) (hearing-once key t p.0 call p.1 h) p.2);
    }

-- one thing leads to another
pub one-then : {X Y : Type 0} (F : X → Type 0) (G : Y → Type 0) (P : X → Type 0) (Q : X → Y → Type 0) → One F P → ((x : X) → F x → One G (Q x)) → One G (λ y. (x : X) × P x × Q x y)
one-then F G P Q p q =
    let o = q p.it p.good in
    record {
      it = o.it;
      is = (p.it, p.is, o.is);
      good = o.good;
      only = λ z (x, is, k). o.only z (subst (λ y. Q y z) (p.only x is) k);
    }

module _ (st : Setting) (a b : Founding) (P : Gateway → SessionId → Type 0) where
  -- the world is reached, and all that was sent is in its bag, as is an answer that comes once more
  pub record Good (x : Talk) : Type 0 where
    pub reached : Reached st a b x.stage.world
    pub sent : Within x.sent x.stage.world.bag
    pub again : (t : Text) → x.again ≡ Some t → Among t x.stage.world.bag
    pub named : Named st P x.stage.world

  pub sends-good : (x : Talk) (t : Text) → Good x → Among t x.stage.world.bag → Good (sends x t)
  sends-good x t g i = record {
    reached = g.reached;
    sent = λ u j. elim (among-end u t x.sent j) [ inl k ↦ g.sent u k | inr e ↦ subst (λ z. Among z x.stage.world.bag) (sym e) i ];
    again = g.again;
    named = g.named;
  }

  replies-good : (x : Talk) (answer : Option (Result (Option Text) Refusal)) → Good x → ((t : Text) → answer ≡ Some (Ok (Some t)) → Among t x.stage.world.bag) → Good (replies x answer)
  replies-good x None g h = g
  replies-good x (Some (Err r)) g h = g
  replies-good x (Some (Ok None)) g h = g
  replies-good x (Some (Ok (Some t))) g h = sends-good x t g (h t refl)

  pub keeps-good : (twice : Bool) (x : Talk) (t : Text) → Good x → Among t x.stage.world.bag → Good (keeps twice x t)
  keeps-good true x t g i = record { reached = g.reached; sent = g.sent; named = g.named; again = λ u e. subst (λ z. Among z x.stage.world.bag) (let same : t ≡ u = cc e in same) i }
  keeps-good false x t g i = g

  module _ (x : Talk) (g : Gateway) (call : Call) (good : Good x) (may : MayDo st a b P x.stage.world g call) where
    later-world : Later st a b P x.stage.world (called st x.stage g call).world
    later-world = called-later st a b P x.stage g call good.reached may

    pub calls-good : Good (calls st x g call)
    calls-good = record {
      reached = later-world.reached;
      sent = λ t i. later-world.within t (good.sent t i);
      again = λ t e. later-world.within t (good.again t e);
      named = later-world.named good.named;
    }

    pub hands-good : Good (hands st x g call)
    hands-good = replies-good (calls st x g call) (answered st x.stage g call) calls-good (answer-said st a b P x.stage g call)

    pub call-follows : (s : SessionId) (owed : Bool) → MayFollow st a b P (calls st x g call).stage.world g (follows_call st x g s owed call)
    call-follows s owed = answer-follows st a b P (called st x.stage g call).world calls-good.reached g s owed (answered st x.stage g call) (answer-said st a b P x.stage g call)

  -- after a text is handed over, a text that was said is there still
  replies-stage : (x : Talk) (answer : Option (Result (Option Text) Refusal)) → Within x.stage.world.bag (replies x answer).stage.world.bag
  replies-stage x None t i = i
  replies-stage x (Some (Err r)) t i = i
  replies-stage x (Some (Ok None)) t i = i
  replies-stage x (Some (Ok (Some u))) t i = i

  hands-within : (x : Talk) (g : Gateway) (call : Call) → Good x → MayDo st a b P x.stage.world g call → Within x.stage.world.bag (hands st x g call).stage.world.bag
  hands-within x g call good may t i = replies-stage (calls st x g call) (answered st x.stage g call) t ((called-later st a b P x.stage g call good.reached may).within t i)

  hands-said : (x : Talk) (g : Gateway) (call : Call) (t : Text) → answered st x.stage g call ≡ Some (Ok (Some t)) → Among t (hands st x g call).stage.world.bag
  hands-said x g call t e = replies-stage (calls st x g call) (answered st x.stage g call) t (answer-said st a b P x.stage g call t e)

  record Handed (x y : Talk) (g : Gateway) (call : Call) : Type 0 where
    good : Good y
    answer : (t : Text) → answered st x.stage g call ≡ Some (Ok (Some t)) → Among t y.stage.world.bag

  handed-over : (twice : Bool) (x : Talk) (g : Gateway) (t : Text) (call : Call) → Good x → Among t x.stage.world.bag → IsHearing st.key t call → Handed x (hands_over twice st x g call) g call
  handed-over false x g t call good i h = record { good = hands-good x g call good (may-hear st a b P x.stage.world g t call i h); answer = hands-said x g call }
  handed-over true x g t call good i h =
      let may = may-hear st a b P x.stage.world g t call i h in
      let y = hands st x g call in
      let once = hands-good x g call good may in
      let again = may-hear st a b P y.stage.world g t call (hands-within x g call good may t i) h in
      record { good = hands-good y g call once again; answer = λ u e. hands-within y g call once again u (hands-said x g call u e) }

  -- ---- an exchange

  abbrev Rest : Type 1
  Rest = ℕ → Talk → Next → Talk → Type 0

  module _ (tr : Troubles) (g : Gateway) (s : SessionId) where
    Goes : Rest → Type 0
    Goes rest = (n : ℕ) (x : Talk) (next : Next) → Good x → MayFollow st a b P x.stage.world g next → One Good (rest n x next)

    answers-one : (rest : Rest) → ((n : ℕ) (x : Talk) (next : Next) → Good x → MayFollow st a b P x.stage.world g next → One Good (rest n x next)) → (owed : Bool) (n : ℕ) (x : Talk) (answer : Option (Result (Option Text) Refusal)) → Good x
        → ((t : Text) → answer ≡ Some (Ok (Some t)) → Among t x.stage.world.bag) → One Good (Answers rest st tr g s owed n x answer)
    answers-one rest goes owed n x None good h = one-here Good x good
    answers-one rest goes owed n x (Some (Err r)) good h = one-here Good x good
    answers-one rest goes owed n x (Some (Ok None)) good h = goes n x (unreplied (party_at st g) s owed (records_at x g)) good (unreplied-follows st a b P x.stage.world good.reached g s owed)
    answers-one rest goes owed n x (Some (Ok (Some t))) good h =
        let i = h t refl in
        let k = keeps (is_twice tr n) x t in
        let kept = keeps-good (is_twice tr n) x t good i in
        let there = kept-bag (is_twice tr n) x t i in
        let reads = bag-reads st a b x.stage.world good.reached t i in
        one-either Good _ _ (is_lost tr n) (one-here Good x good)
        (one-read Good st.key t (λ call. rest (n + 1) (calls st k g call) (follows_call st k g s owed call)) reads (λ call c.
        let may = may-hear st a b P k.stage.world g t call there c in
        goes (n + 1) (calls st k g call) (follows_call st k g s owed call) (calls-good k g call kept may) (call-follows k g call kept may s owed)))
      where
        kept-bag : (twice : Bool) (x : Talk) (t : Text) → Among t x.stage.world.bag → Among t (keeps twice x t).stage.world.bag
        kept-bag true x t i = i
        kept-bag false x t i = i

    posted-one : (rest : Rest) → ((n : ℕ) (x : Talk) (next : Next) → Good x → MayFollow st a b P x.stage.world g next → One Good (rest n x next)) → (owed : Bool) (n : ℕ) (x : Talk) (t : Text) → Good x → Among t x.stage.world.bag → One Good (IsPosted rest st tr g s owed n x t)
    posted-one rest goes owed n x t good i =
        let sent = sends-good x t good i in
        one-either Good _ _ (is_lost tr n) (one-here Good (sends x t) sent)
        (one-read Good st.key t (λ call. Answers rest st tr g s owed (n + 1) (hands_over (is_twice tr n) st (sends x t) (opposite g) call) (answered st x.stage (opposite g) call)) (bag-reads st a b x.stage.world good.reached t i) (λ call c.
        let h = handed-over (is_twice tr n) (sends x t) (opposite g) t call sent i c in
        answers-one rest goes owed (n + 1) (hands_over (is_twice tr n) st (sends x t) (opposite g) call) (answered st x.stage (opposite g) call) h.good h.answer))

    says-good : (x : Talk) (t : Text) → Good x → Sayable (party_at st g) (side_at x.stage.world g).records x.stage.world.bag t → Good (says x g t)
    says-good x t good h =
        let l = says-later st a b P x.stage.world g t good.reached h in
        record { reached = l.reached; sent = λ u i. l.within u (good.sent u i); again = λ u e. l.within u (good.again u e); named = l.named good.named }

    pub exchanges-one : (most n : ℕ) (x : Talk) (next : Next) → Good x → MayFollow st a b P x.stage.world g next → One Good (Exchanges most st tr g s n x next)
    exchanges-one zero n x next good may = one-here Good x good
    exchanges-one (suc most) n x (Posts t owed) good may = posted-one (Exchanges most st tr g s) (exchanges-one most) owed n x t good may
    exchanges-one (suc most) n x (Succeeds t) good may = posted-one (Exchanges most st tr g s) (exchanges-one most) false n (says x g t) t (says-good x t good may) (says-among st a b P x.stage.world g t)
    exchanges-one (suc most) n x Ends good may = one-here Good x good
