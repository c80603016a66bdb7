-- Moves of both gateways on one session, put together: what each does to both sides' records.
use Rattle.std.proofs.Common.{◌≡◌, ℕ, zero, suc, ◌+◌, ◌-◌, ◌≤◌, Bool, true, false, List, [], ◌∷◌, ◌++◌, length, drop, Some, refl, sym, ap, subst, ◌∙◌, arith}
use Rattle.std.specs.Prelude.{slice_get}
use Rattle.std.proofs.lemmas.Bool.{and_from}
use Rattle.std.proofs.lemmas.List.{length_push}
use Rattle.satp_base.specs.Canonical.{part_kind}
use Rattle.satp_base.specs.Chains.{head_of, last_link, message_at, next_text, role_at}
use Rattle.satp_base.specs.Forms.{IsMessage, IsPart, are_entries}
use Rattle.satp_base.specs.Founding.{Founding}
use Rattle.satp_base.specs.LedgerRule.{LedgerRule}
use Rattle.satp_base.specs.Money.{Book}
use Rattle.satp_base.specs.Roles.{RoleRule, next_of}
use Rattle.satp_base.specs.Roles.RoleRule.{Free}
use Rattle.satp_base.specs.Signatures.{own}
use Rattle.satp_base.specs.Views.{begin, push}
use Rattle.satp_base.specs.declared.ledger.Answer.{Answer}
use Rattle.satp_base.specs.declared.ledger.LedgerOp.{LedgerOp}
use Rattle.satp_base.specs.declared.message.Body.TheVariants as body
use Rattle.satp_base.specs.declared.message.Link.{Link}
use Rattle.satp_base.specs.declared.message.Part.{Part}
use Rattle.satp_base.specs.declared.message.Part.TheVariants.{Proposal}
use Rattle.satp_base.specs.declared.message.Role.TheVariants.{Origin, Recipient}
use Rattle.satp_base.specs.declared.message.Terms.{Terms}
use Rattle.satp_base.specs.declared.record.Next.TheVariants.{Act}
use Rattle.satp_base.specs.declared.record.Rec.{Rec}
use Rattle.satp_base.specs.declared.record.Rec.TheVariants.{Began, Took, Made, Rescue}
use Rattle.satp_base.specs.declared.session.SessionId.{SessionId}
use Rattle.satp_base.specs.declared.view.View.{View}
use Rattle.satp_base.proofs.ChainLemmas.{link_at_formed}
use Rattle.satp_sides.specs.Logs.{IsNote}
use Rattle.satp_sides.specs.Moves.{Among, LedgerFits, Sayable, last_texts, message_from}
use Rattle.satp_sides.specs.Points.{is_session, Side, Stored, Text, chain_in, recipient_at, view_in}
use Rattle.satp_world.specs.Worlds.{Gateway, Reached, opposite, party_at, Setting, World}
use Rattle.satp_sides.specs.Moves.Among.{first, later}
use Rattle.satp_sides.specs.Moves.Delivered.{Alone as Alone_text, Listed}
use Rattle.satp_world.specs.Worlds.Gateway.{A, B}
use Rattle.satp_world.specs.Worlds.Reached.{Begins, Goes}
use Rattle.satp_sides.specs.Moves.Sayable.{Own_text, Recovers, Updates, Succeeds, Knows_none}
use Rattle.satp_sides.specs.Moves.SideMoves.{Stops}
use Rattle.satp_world.specs.Worlds.WorldMoves.{By}
use Rattle.satp_world.specs.Examples.{first_book}
use Rattle.satp_sides.proofs.Making.{accepts, acts, makes, notes, proposes, says, takes}
use Rattle.satp_sides.proofs.Records.{is-session, view-apart, chain-here, get-new, session-self, view-first, view-here}
use Rattle.satp_base.proofs.TextSizes.{chain-entry}
use Rattle.satp_sides.proofs.Growth.{note-tale, no-text, one-text}
use Rattle.satp_sides.proofs.Growth.Carries.{As_made, As_taken}

abbrev side : List Stored → Book → Side
side records book = record { records = records; book = book }

abbrev pub both_sides : List Stored → Book → List Stored → Book → List Text → World
both_sides ra ba rb bb bag = record { a = record { records = ra; book = ba }; b = record { records = rb; book = bb }; bag = bag }

abbrev stored : SessionId → Rec → Text → Stored
stored s r t = record { session = s; rec = r; text = t }

-- ---- one session

-- the records name no other session
abbrev pub Alone : SessionId → List Stored → Type 0
Alone s xs = (t : SessionId) (v : View) → view_in t xs ≡ Some v → t ≡ s

alone-more : (s : SessionId) (xs : List Stored) (r : Rec) (text : Text) → Alone s xs → Alone s (xs ++ stored s r text ∷ [])
alone-more s xs r text old t v e = go (is_session t s) refl
  where
    go : (b : Bool) → is_session t s ≡ b → t ≡ s
    go true y = is-session t s y
    go false n = old t v (sym (view-apart t xs (stored s r text) n) ∙ e)

alone-first : (s : SessionId) (r : Rec) (text : Text) → Alone s (stored s r text ∷ [])
alone-first s r text = alone-more s [] r text (λ t v e. absurd (cc e))

-- ---- chains

last_none : (ts : List Text) → last_texts 0 ts ≡ []
last_none ts = go ts (length ts - 0) (omega arith)
  where
    go : (xs : List Text) (n : ℕ) → length xs ≤ n → drop n xs ≡ []
    go [] zero h = refl
    go [] (suc n) h = refl
    go (x ∷ xs) zero h = absurd (omega (arith, h))
    go (x ∷ xs) (suc n) h = go xs n (omega (arith, h))

last_one : (ts : List Text) (t : Text) → last_texts 1 (ts ++ t ∷ []) ≡ t ∷ []
last_one ts t = at (length (ts ++ t ∷ []) - 1) ts (omega (arith, length_push ts t))
  where
    at : (n : ℕ) (xs : List Text) → n ≡ length xs → drop n (xs ++ t ∷ []) ≡ t ∷ []
    at zero [] h = refl
    at (suc n) [] h = absurd (omega (arith, h))
    at zero (x ∷ xs) h = absurd (omega (arith, h))
    at (suc n) (x ∷ xs) h = at n xs (omega (arith, h))

kept : (x y : Text) (more : List Text) (u : Text) → Among u (x ∷ y ∷ []) → Among u (x ∷ y ∷ more)
kept x y more _ first = first
kept x y more _ (later first) = later first
kept x y more u (later (later i)) = elim i [ ]

module _ (st : Setting) (fa fb : Founding) (s : SessionId) (named : s.gateway ≡ st.a) where
  -- A reached world in which both sides have these views of the session and the same chain, with these ledgers, and in whose bag the texts `old` are.
  pub record Run (va vb : View) (ba bb : Book) (old : List Text) : Type 0 where
    pub ra : List Stored
    pub rb : List Stored
    pub bag : List Text
    pub reached : Reached st fa fb (both_sides ra ba rb bb bag)
    pub view_a : view_in s ra ≡ Some va
    pub view_b : view_in s rb ≡ Some vb
    pub chains : chain_in s ra ≡ chain_in s rb
    pub long : length (chain_in s ra) ≡ length va.tale
    pub keeps : (t : Text) → Among t old → Among t bag
    pub alone_a : Alone s ra
    pub alone_b : Alone s rb

  -- the origin proposes, and the recipient takes the proposal
  pub begins : (terms : Terms) → Run (begin Origin terms) (begin Recipient terms) (first_book fa) (first_book fb) []
  begins terms =
      let t = next_text s st.b st.key [] (Proposal terms) in
      let ra = stored s (Began Origin terms) t ∷ [] in
      let rb = stored s (Began Recipient terms) t ∷ [] in
      let w1 : Reached st fa fb (both_sides ra (first_book fa) [] (first_book fb) []) = Goes _ _ Begins (By A _ _ (proposes s terms named refl (omega arith))) in
      let view = view-first s [] (stored s (Began Origin terms) t) (session-self s) refl in
      let chain : chain_in s ra ≡ t ∷ [] = chain-here s [] (stored s (Began Origin terms) t) (session-self s) in
      let w2 : Reached st fa fb (both_sides ra (first_book fa) [] (first_book fb) (t ∷ [])) = Goes _ _ w1 (By A _ _ (says t (Own_text s (begin Origin terms) 0 t view (ap (λ ts. slice_get ts 0) chain) refl))) in
      record {
        ra = ra;
        rb = rb;
        bag = t ∷ [];
        reached = Goes _ _ w2 (By B _ _ (accepts s terms t named refl (omega arith) (Alone_text first) refl));
        view_a = view;
        view_b = view-first s [] (stored s (Began Recipient terms) t) (session-self s) refl;
        chains = chain ∙ sym (chain-here s [] (stored s (Began Recipient terms) t) (session-self s));
        long = ap length chain;
        keeps = λ u i. elim i [ ];
        alone_a = alone-first s (Began Origin terms) t;
        alone_b = alone-first s (Began Recipient terms) t;
      }

  module _ (va vb : View) (ba bb : Book) (old : List Text) (k : Run va vb ba bb old) where
    -- ---- records without a message

    pub note_a : (r : Rec) → RoleRule va.role va r → IsNote r → LedgerFits ba s va.terms r → Run (push va r) vb ba bb old
    note_a r rule n l = record {
      ra = k.ra ++ stored s r [] ∷ [];
      rb = k.rb;
      bag = k.bag;
      reached = Goes _ _ k.reached (By A _ _ (notes s va r k.view_a rule n l));
      view_a = view-here s k.ra (stored s r []) va (session-self s) k.view_a;
      view_b = k.view_b;
      chains = no-text s k.ra r [] n ∙ k.chains;
      long = ap length (no-text s k.ra r [] n) ∙ k.long ∙ ap length (sym (note-tale va r n));
      keeps = k.keeps;
      alone_a = alone-more s k.ra r [] k.alone_a;
      alone_b = k.alone_b;
    }

    pub note_b : (r : Rec) → RoleRule vb.role vb r → IsNote r → LedgerFits bb s vb.terms r → Run va (push vb r) ba bb old
    note_b r rule n l = record {
      ra = k.ra;
      rb = k.rb ++ stored s r [] ∷ [];
      bag = k.bag;
      reached = Goes _ _ k.reached (By B _ _ (notes s vb r k.view_b rule n l));
      view_a = k.view_a;
      view_b = view-here s k.rb (stored s r []) vb (session-self s) k.view_b;
      chains = k.chains ∙ sym (no-text s k.rb r [] n);
      long = k.long;
      keeps = k.keeps;
      alone_a = k.alone_a;
      alone_b = alone-more s k.rb r [] k.alone_b;
    }

    -- ---- operations

    pub act_a : (op : LedgerOp) (answer : Answer) (book : Book) → next_of va.role va ≡ Act op → LedgerRule ba op s va.terms answer book → Run va vb book bb old
    act_a op answer book due rule = record {
      ra = k.ra;
      rb = k.rb;
      bag = k.bag;
      reached = Goes _ _ k.reached (By A _ _ (acts s va op answer book k.view_a due rule));
      view_a = k.view_a;
      view_b = k.view_b;
      chains = k.chains;
      long = k.long;
      keeps = k.keeps;
      alone_a = k.alone_a;
      alone_b = k.alone_b;
    }

    pub act_b : (op : LedgerOp) (answer : Answer) (book : Book) → next_of vb.role vb ≡ Act op → LedgerRule bb op s vb.terms answer book → Run va vb ba book old
    act_b op answer book due rule = record {
      ra = k.ra;
      rb = k.rb;
      bag = k.bag;
      reached = Goes _ _ k.reached (By B _ _ (acts s vb op answer book k.view_b due rule));
      view_a = k.view_a;
      view_b = k.view_b;
      chains = k.chains;
      long = k.long;
      keeps = k.keeps;
      alone_a = k.alone_a;
      alone_b = k.alone_b;
    }

    -- ---- texts

    pub say_a : (t : Text) → Sayable (party_at st A) k.ra k.bag t → Run va vb ba bb (t ∷ old)
    say_a t z = record {
      ra = k.ra;
      rb = k.rb;
      bag = t ∷ k.bag;
      reached = Goes _ _ k.reached (By A _ _ (says t z));
      view_a = k.view_a;
      view_b = k.view_b;
      chains = k.chains;
      long = k.long;
      keeps = λ u i. kept u i;
      alone_a = k.alone_a;
      alone_b = k.alone_b;
    }
      where
        kept : (u : Text) → Among u (t ∷ old) → Among u (t ∷ k.bag)
        kept _ first = first
        kept u (later i) = later (k.keeps u i)

    pub say_b : (t : Text) → Sayable (party_at st B) k.rb k.bag t → Run va vb ba bb (t ∷ old)
    say_b t z = record {
      ra = k.ra;
      rb = k.rb;
      bag = t ∷ k.bag;
      reached = Goes _ _ k.reached (By B _ _ (says t z));
      view_a = k.view_a;
      view_b = k.view_b;
      chains = k.chains;
      long = k.long;
      keeps = λ u i. kept u i;
      alone_a = k.alone_a;
      alone_b = k.alone_b;
    }
      where
        kept : (u : Text) → Among u (t ∷ old) → Among u (t ∷ k.bag)
        kept _ first = first
        kept u (later i) = later (k.keeps u i)

    -- the origin makes a message and says it, and the recipient takes it
    pub sends_a : (p : Part) → va.role ≡ Origin → vb.role ≡ Recipient → RoleRule va.role va (Made (part_kind p)) → IsPart p → RoleRule vb.role vb (Took (part_kind p)) → role_at (length va.tale + 1) ≡ va.role
        → Run (push va (Made (part_kind p))) (push vb (Took (part_kind p))) ba bb old
    sends_a p origin recipient made f took place =
        let t = next_text s (recipient_at (party_at st A) va.role) st.key (chain_in s k.ra) p in
        let ra = k.ra ++ stored s (Made (part_kind p)) t ∷ [] in
        let rb = k.rb ++ stored s (Took (part_kind p)) t ∷ [] in
        let w1 : Reached st fa fb (both_sides ra ba k.rb bb k.bag) = Goes _ _ k.reached (By A _ _ (makes s va p k.view_a made f)) in
        let view = view-here s k.ra (stored s (Made (part_kind p)) t) va (session-self s) k.view_a in
        let chain = one-text s k.ra (part_kind p) (Made (part_kind p)) t As_made in
        let here = ap (λ ts. slice_get ts (length (chain_in s k.ra))) chain ∙ get-new (chain_in s k.ra) t in
        let w2 : Reached st fa fb (both_sides ra ba k.rb bb (t ∷ k.bag)) = Goes _ _ w1 (By A _ _ (says t (Own_text s (push va (Made (part_kind p))) (length (chain_in s k.ra)) t view here (ap (λ n. role_at (n + 1)) k.long ∙ place)))) in
        let same : t ≡ next_text s (recipient_at (party_at st B) vb.role) st.key (chain_in s k.rb) p = ap (λ r. next_text s (recipient_at (party_at st A) r) st.key (chain_in s k.ra) p) origin ∙ ap (λ ts. next_text s st.b st.key ts p) k.chains ∙ ap (λ r. next_text s (recipient_at (party_at st B) r) st.key (chain_in s k.rb) p) (sym recipient) in
        record {
          ra = ra;
          rb = rb;
          bag = t ∷ k.bag;
          reached = Goes _ _ w2 (By B _ _ (takes s vb p t k.view_b took f (Alone_text first) same));
          view_a = view;
          view_b = view-here s k.rb (stored s (Took (part_kind p)) t) vb (session-self s) k.view_b;
          chains = chain ∙ ap (λ ts. ts ++ t ∷ []) k.chains ∙ sym (one-text s k.rb (part_kind p) (Took (part_kind p)) t As_taken);
          long = ap length chain ∙ length_push (chain_in s k.ra) t ∙ ap (λ n. n + 1) k.long ∙ sym (length_push va.tale (part_kind p));
          keeps = λ u i. later (k.keeps u i);
          alone_a = alone-more s k.ra (Made (part_kind p)) t k.alone_a;
          alone_b = alone-more s k.rb (Took (part_kind p)) t k.alone_b;
        }

    -- the recipient makes a message and says it, and the origin takes it
    pub sends_b : (p : Part) → va.role ≡ Origin → vb.role ≡ Recipient → RoleRule vb.role vb (Made (part_kind p)) → IsPart p → RoleRule va.role va (Took (part_kind p)) → role_at (length va.tale + 1) ≡ vb.role
        → Run (push va (Took (part_kind p))) (push vb (Made (part_kind p))) ba bb old
    sends_b p origin recipient made f took place =
        let t = next_text s (recipient_at (party_at st B) vb.role) st.key (chain_in s k.rb) p in
        let ra = k.ra ++ stored s (Took (part_kind p)) t ∷ [] in
        let rb = k.rb ++ stored s (Made (part_kind p)) t ∷ [] in
        let w1 : Reached st fa fb (both_sides k.ra ba rb bb k.bag) = Goes _ _ k.reached (By B _ _ (makes s vb p k.view_b made f)) in
        let view = view-here s k.rb (stored s (Made (part_kind p)) t) vb (session-self s) k.view_b in
        let chain = one-text s k.rb (part_kind p) (Made (part_kind p)) t As_made in
        let here = ap (λ ts. slice_get ts (length (chain_in s k.rb))) chain ∙ get-new (chain_in s k.rb) t in
        let w2 : Reached st fa fb (both_sides k.ra ba rb bb (t ∷ k.bag)) = Goes _ _ w1 (By B _ _ (says t (Own_text s (push vb (Made (part_kind p))) (length (chain_in s k.rb)) t view here (ap (λ ts. role_at (length ts + 1)) (sym k.chains) ∙ ap (λ n. role_at (n + 1)) k.long ∙ place)))) in
        let same : t ≡ next_text s (recipient_at (party_at st A) va.role) st.key (chain_in s k.ra) p = ap (λ r. next_text s (recipient_at (party_at st B) r) st.key (chain_in s k.rb) p) recipient ∙ ap (λ ts. next_text s st.b st.key ts p) (sym k.chains) ∙ ap (λ r. next_text s (recipient_at (party_at st A) r) st.key (chain_in s k.ra) p) (sym origin) in
        let taken = one-text s k.ra (part_kind p) (Took (part_kind p)) t As_taken in
        record {
          ra = ra;
          rb = rb;
          bag = t ∷ k.bag;
          reached = Goes _ _ w2 (By A _ _ (takes s va p t k.view_a took f (Alone_text first) same));
          view_a = view-here s k.ra (stored s (Took (part_kind p)) t) va (session-self s) k.view_a;
          view_b = view;
          chains = taken ∙ ap (λ ts. ts ++ t ∷ []) k.chains ∙ sym chain;
          long = ap length taken ∙ length_push (chain_in s k.ra) t ∙ ap (λ n. n + 1) k.long ∙ sym (length_push va.tale (part_kind p));
          keeps = λ u i. later (k.keeps u i);
          alone_a = alone-more s k.ra (Took (part_kind p)) t k.alone_a;
          alone_b = alone-more s k.rb (Made (part_kind p)) t k.alone_b;
        }

  -- ---- a lost message and a round

  -- A round that this gateway started: what it asked, what the other one answered with so many entries, and where both sides are after it.
  pub record Round (starter : Gateway) (va vb : View) (ba bb : Book) (entries : ℕ) : Type 0 where
    pub asked : ℕ
    pub asked_last : Link
    pub answered : ℕ
    pub carried : List Text
    pub carries : length carried ≡ entries
    pub run : Run va vb ba bb (own st.key (message_from (party_at st (opposite starter)) s (body.Update answered carried)) ∷ own st.key (message_from (party_at st starter) s (body.Recover asked asked_last)) ∷ [])

  module _ (va vb : View) (ba bb : Book) (k : Run va vb ba bb []) where
    -- The origin says a message that is lost, and stops. Then it starts a round: the recipient has nothing more, and the origin says the message again.
    pub says_again_a : (p : Part) → va.role ≡ Origin → vb.role ≡ Recipient → RoleRule va.role va (Made (part_kind p)) → IsPart p → RoleRule vb.role vb (Took (part_kind p)) → role_at (length va.tale + 1) ≡ va.role
        → RoleRule va.role (push va (Made (part_kind p))) Rescue → length va.tale + 1 ≤ 11
        → Round A (push (push va (Made (part_kind p))) Rescue) (push vb (Took (part_kind p))) ba bb 0
    says_again_a p origin recipient made f took place rescue short =
        let t = next_text s (recipient_at (party_at st A) va.role) st.key (chain_in s k.ra) p in
        let r1 = k.ra ++ stored s (Made (part_kind p)) t ∷ [] in
        let r2 = r1 ++ stored s Rescue [] ∷ [] in
        let v1 = push va (Made (part_kind p)) in
        let rb = k.rb ++ stored s (Took (part_kind p)) t ∷ [] in
        let w1 : Reached st fa fb (both_sides r1 ba k.rb bb k.bag) = Goes _ _ k.reached (By A _ _ (makes s va p k.view_a made f)) in
        let view1 = view-here s k.ra (stored s (Made (part_kind p)) t) va (session-self s) k.view_a in
        let chain1 = one-text s k.ra (part_kind p) (Made (part_kind p)) t As_made in
        let at = length (chain_in s k.ra) in
        let mine = ap (λ n. role_at (n + 1)) k.long ∙ place in
        let w2 : Reached st fa fb (both_sides r1 ba k.rb bb (t ∷ k.bag)) = Goes _ _ w1 (By A _ _ (says t (Own_text s v1 at t view1 (ap (λ ts. slice_get ts at) chain1 ∙ get-new (chain_in s k.ra) t) mine))) in
        let w3 : Reached st fa fb (both_sides r1 ba k.rb bb (t ∷ k.bag)) = Goes _ _ w2 (By A _ _ Stops) in
        let w4 : Reached st fa fb (both_sides r2 ba k.rb bb (t ∷ k.bag)) = Goes _ _ w3 (By A _ _ (notes s v1 Rescue view1 rescue tt tt)) in
        let view2 = view-here s r1 (stored s Rescue []) v1 (session-self s) view1 in
        let chain2 = no-text s r1 Rescue [] tt ∙ chain1 in
        let long2 = ap length chain2 ∙ length_push (chain_in s k.ra) t ∙ ap (λ n. n + 1) k.long in
        let asked = message_from (party_at st A) s (body.Recover (length (chain_in s r2)) (head_of (chain_in s r2)).last) in
        let w5 : Reached st fa fb (both_sides r2 ba k.rb bb (own st.key asked ∷ t ∷ k.bag)) = Goes _ _ w4 (By A _ _ (says (own st.key asked) (Recovers s (push v1 Rescue) view2 (omega (arith, long2, short), link_at_formed (chain_in s r2) (length (chain_in s r2)))))) in
        let none = last_none (chain_in s k.rb) in
        let answered = message_from (party_at st B) s (body.Update (length (chain_in s k.rb)) (last_texts 0 (chain_in s k.rb))) in
        let few = subst (λ es. are_entries es ≡ true) (sym none) refl in
        let w6 : Reached st fa fb (both_sides r2 ba k.rb bb (own st.key answered ∷ own st.key asked ∷ t ∷ k.bag)) = Goes _ _ w5 (By B _ _ (says (own st.key answered) (Updates s vb 0 k.view_b (omega arith) ((omega (arith, ap length k.chains, k.long, short), few), tt)))) in
        let w7 : Reached st fa fb (both_sides r2 ba k.rb bb (t ∷ own st.key answered ∷ own st.key asked ∷ t ∷ k.bag)) = Goes _ _ w6 (By A _ _ (says t (Own_text s (push v1 Rescue) at t view2 (ap (λ ts. slice_get ts at) chain2 ∙ get-new (chain_in s k.ra) t) mine))) in
        let same : t ≡ next_text s (recipient_at (party_at st B) vb.role) st.key (chain_in s k.rb) p = ap (λ r. next_text s (recipient_at (party_at st A) r) st.key (chain_in s k.ra) p) origin ∙ ap (λ ts. next_text s st.b st.key ts p) k.chains ∙ ap (λ r. next_text s (recipient_at (party_at st B) r) st.key (chain_in s k.rb) p) (sym recipient) in
        record {
          asked = length (chain_in s r2);
          asked_last = (head_of (chain_in s r2)).last;
          answered = length (chain_in s k.rb);
          carried = last_texts 0 (chain_in s k.rb);
          carries = ap length none;
          run = record {
            ra = r2;
            rb = rb;
            bag = t ∷ own st.key answered ∷ own st.key asked ∷ t ∷ k.bag;
            reached = Goes _ _ w7 (By B _ _ (takes s vb p t k.view_b took f (Alone_text first) same));
            view_a = view2;
            view_b = view-here s k.rb (stored s (Took (part_kind p)) t) vb (session-self s) k.view_b;
            chains = chain2 ∙ ap (λ ts. ts ++ t ∷ []) k.chains ∙ sym (one-text s k.rb (part_kind p) (Took (part_kind p)) t As_taken);
            long = long2 ∙ sym (length_push va.tale (part_kind p));
            keeps = λ u i. later (kept (own st.key answered) (own st.key asked) (t ∷ k.bag) u i);
            alone_a = alone-more s r1 Rescue [] (alone-more s k.ra (Made (part_kind p)) t k.alone_a);
            alone_b = alone-more s k.rb (Took (part_kind p)) t k.alone_b;
          };
        }

    -- The recipient says a message that is lost, and the origin stops. Then it starts a round, and finds the message in the answer.
    pub finds_a : (p : Part) → va.role ≡ Origin → vb.role ≡ Recipient → RoleRule vb.role vb (Made (part_kind p)) → IsPart p → RoleRule va.role (push va Rescue) (Took (part_kind p)) → role_at (length va.tale + 1) ≡ vb.role
        → RoleRule va.role va Rescue → length va.tale + 1 ≤ 11
        → Round A (push (push va Rescue) (Took (part_kind p))) (push vb (Made (part_kind p))) ba bb 1
    finds_a p origin recipient made f took place rescue short =
        let t = next_text s (recipient_at (party_at st B) vb.role) st.key (chain_in s k.rb) p in
        let r1 = k.ra ++ stored s Rescue [] ∷ [] in
        let r2 = r1 ++ stored s (Took (part_kind p)) t ∷ [] in
        let rb = k.rb ++ stored s (Made (part_kind p)) t ∷ [] in
        let at = length (chain_in s k.rb) in
        let same_length = ap length (sym k.chains) ∙ k.long in
        let w1 : Reached st fa fb (both_sides k.ra ba rb bb k.bag) = Goes _ _ k.reached (By B _ _ (makes s vb p k.view_b made f)) in
        let view_b = view-here s k.rb (stored s (Made (part_kind p)) t) vb (session-self s) k.view_b in
        let chain_b = one-text s k.rb (part_kind p) (Made (part_kind p)) t As_made in
        let w2 : Reached st fa fb (both_sides k.ra ba rb bb (t ∷ k.bag)) = Goes _ _ w1 (By B _ _ (says t (Own_text s (push vb (Made (part_kind p))) at t view_b (ap (λ ts. slice_get ts at) chain_b ∙ get-new (chain_in s k.rb) t) (ap (λ n. role_at (n + 1)) same_length ∙ place)))) in
        let w3 : Reached st fa fb (both_sides k.ra ba rb bb (t ∷ k.bag)) = Goes _ _ w2 (By A _ _ Stops) in
        let w4 : Reached st fa fb (both_sides r1 ba rb bb (t ∷ k.bag)) = Goes _ _ w3 (By A _ _ (notes s va Rescue k.view_a rescue tt tt)) in
        let view1 = view-here s k.ra (stored s Rescue []) va (session-self s) k.view_a in
        let chain1 = no-text s k.ra Rescue [] tt in
        let asked = message_from (party_at st A) s (body.Recover (length (chain_in s r1)) (head_of (chain_in s r1)).last) in
        let w5 : Reached st fa fb (both_sides r1 ba rb bb (own st.key asked ∷ t ∷ k.bag)) = Goes _ _ w4 (By A _ _ (says (own st.key asked) (Recovers s (push va Rescue) view1 (omega (arith, ap length chain1, k.long, short), link_at_formed (chain_in s r1) (length (chain_in s r1)))))) in
        let one = ap (last_texts 1) chain_b ∙ last_one (chain_in s k.rb) t in
        let fits = chain-entry st.key (message_at s (recipient_at (party_at st B) vb.role) (at + 1) (last_link (chain_in s k.rb)) p) ((record { low = omega arith; high = omega (arith, same_length, short) }, f), link_at_formed (chain_in s k.rb) at) tt in
        let few = subst (λ es. are_entries es ≡ true) (sym one) (and_from _ _ refl (and_from _ _ fits refl)) in
        let answered = message_from (party_at st B) s (body.Update (length (chain_in s rb)) (last_texts 1 (chain_in s rb))) in
        let formed : IsMessage answered = ((omega (arith, ap length chain_b, length_push (chain_in s k.rb) t, same_length, short), few), tt) in
        let w6 : Reached st fa fb (both_sides r1 ba rb bb (own st.key answered ∷ own st.key asked ∷ t ∷ k.bag)) = Goes _ _ w5 (By B _ _ (says (own st.key answered) (Updates s (push vb (Made (part_kind p))) 1 view_b (omega arith) formed))) in
        let same : t ≡ next_text s (recipient_at (party_at st A) va.role) st.key (chain_in s r1) p = ap (λ r. next_text s (recipient_at (party_at st B) r) st.key (chain_in s k.rb) p) recipient ∙ ap (λ ts. next_text s st.b st.key ts p) (sym k.chains ∙ sym chain1) ∙ ap (λ r. next_text s (recipient_at (party_at st A) r) st.key (chain_in s r1) p) (sym origin) in
        let found = Listed answered (length (chain_in s rb)) (last_texts 1 (chain_in s rb)) formed first refl (subst (Among t) (sym one) first) in
        let taken = one-text s r1 (part_kind p) (Took (part_kind p)) t As_taken in
        record {
          asked = length (chain_in s r1);
          asked_last = (head_of (chain_in s r1)).last;
          answered = length (chain_in s rb);
          carried = last_texts 1 (chain_in s rb);
          carries = ap length one;
          run = record {
            ra = r2;
            rb = rb;
            bag = own st.key answered ∷ own st.key asked ∷ t ∷ k.bag;
            reached = Goes _ _ w6 (By A _ _ (takes s (push va Rescue) p t view1 took f found same));
            view_a = view-here s r1 (stored s (Took (part_kind p)) t) (push va Rescue) (session-self s) view1;
            view_b = view_b;
            chains = taken ∙ ap (λ ts. ts ++ t ∷ []) (chain1 ∙ k.chains) ∙ sym chain_b;
            long = ap length taken ∙ length_push (chain_in s r1) t ∙ ap (λ ts. length ts + 1) chain1 ∙ ap (λ n. n + 1) k.long ∙ sym (length_push va.tale (part_kind p));
            keeps = λ u i. kept (own st.key answered) (own st.key asked) (t ∷ k.bag) u i;
            alone_a = alone-more s r1 (Took (part_kind p)) t (alone-more s k.ra Rescue [] k.alone_a);
            alone_b = alone-more s k.rb (Made (part_kind p)) t k.alone_b;
          };
        }

    -- The recipient says a message that is lost, and stops. Then it starts a round: the origin has nothing more, and the recipient says the message again.
    pub says_again_b : (p : Part) → va.role ≡ Origin → vb.role ≡ Recipient → RoleRule vb.role vb (Made (part_kind p)) → IsPart p → RoleRule va.role (push va Rescue) (Took (part_kind p)) → role_at (length va.tale + 1) ≡ vb.role
        → RoleRule va.role va Rescue → length va.tale + 1 ≤ 11
        → Round B (push (push va Rescue) (Took (part_kind p))) (push vb (Made (part_kind p))) ba bb 0
    says_again_b p origin recipient made f took place rescue short =
        let t = next_text s (recipient_at (party_at st B) vb.role) st.key (chain_in s k.rb) p in
        let r1 = k.ra ++ stored s Rescue [] ∷ [] in
        let r2 = r1 ++ stored s (Took (part_kind p)) t ∷ [] in
        let rb = k.rb ++ stored s (Made (part_kind p)) t ∷ [] in
        let at = length (chain_in s k.rb) in
        let same_length = ap length (sym k.chains) ∙ k.long in
        let mine = ap (λ n. role_at (n + 1)) same_length ∙ place in
        let w1 : Reached st fa fb (both_sides k.ra ba rb bb k.bag) = Goes _ _ k.reached (By B _ _ (makes s vb p k.view_b made f)) in
        let view_b = view-here s k.rb (stored s (Made (part_kind p)) t) vb (session-self s) k.view_b in
        let chain_b = one-text s k.rb (part_kind p) (Made (part_kind p)) t As_made in
        let said = ap (λ ts. slice_get ts at) chain_b ∙ get-new (chain_in s k.rb) t in
        let w2 : Reached st fa fb (both_sides k.ra ba rb bb (t ∷ k.bag)) = Goes _ _ w1 (By B _ _ (says t (Own_text s (push vb (Made (part_kind p))) at t view_b said mine))) in
        let w3 : Reached st fa fb (both_sides k.ra ba rb bb (t ∷ k.bag)) = Goes _ _ w2 (By B _ _ Stops) in
        let asked = message_from (party_at st B) s (body.Recover (length (chain_in s rb)) (head_of (chain_in s rb)).last) in
        let formed : IsMessage asked = (omega (arith, ap length chain_b, length_push (chain_in s k.rb) t, same_length, short), link_at_formed (chain_in s rb) (length (chain_in s rb))) in
        let w4 : Reached st fa fb (both_sides k.ra ba rb bb (own st.key asked ∷ t ∷ k.bag)) = Goes _ _ w3 (By B _ _ (says (own st.key asked) (Recovers s (push vb (Made (part_kind p))) view_b formed))) in
        let w5 : Reached st fa fb (both_sides r1 ba rb bb (own st.key asked ∷ t ∷ k.bag)) = Goes _ _ w4 (By A _ _ (notes s va Rescue k.view_a rescue tt tt)) in
        let view1 = view-here s k.ra (stored s Rescue []) va (session-self s) k.view_a in
        let chain1 = no-text s k.ra Rescue [] tt in
        let none = last_none (chain_in s r1) in
        let answered = message_from (party_at st A) s (body.Update (length (chain_in s r1)) (last_texts 0 (chain_in s r1))) in
        let few = subst (λ es. are_entries es ≡ true) (sym none) refl in
        let w6 : Reached st fa fb (both_sides r1 ba rb bb (own st.key answered ∷ own st.key asked ∷ t ∷ k.bag)) = Goes _ _ w5 (By A _ _ (says (own st.key answered) (Updates s (push va Rescue) 0 view1 (omega arith) ((omega (arith, ap length chain1, k.long, short), few), tt)))) in
        let w7 : Reached st fa fb (both_sides r1 ba rb bb (t ∷ own st.key answered ∷ own st.key asked ∷ t ∷ k.bag)) = Goes _ _ w6 (By B _ _ (says t (Own_text s (push vb (Made (part_kind p))) at t view_b said mine))) in
        let same : t ≡ next_text s (recipient_at (party_at st A) va.role) st.key (chain_in s r1) p = ap (λ r. next_text s (recipient_at (party_at st B) r) st.key (chain_in s k.rb) p) recipient ∙ ap (λ ts. next_text s st.b st.key ts p) (sym k.chains ∙ sym chain1) ∙ ap (λ r. next_text s (recipient_at (party_at st A) r) st.key (chain_in s r1) p) (sym origin) in
        let taken = one-text s r1 (part_kind p) (Took (part_kind p)) t As_taken in
        record {
          asked = length (chain_in s rb);
          asked_last = (head_of (chain_in s rb)).last;
          answered = length (chain_in s r1);
          carried = last_texts 0 (chain_in s r1);
          carries = ap length none;
          run = record {
            ra = r2;
            rb = rb;
            bag = t ∷ own st.key answered ∷ own st.key asked ∷ t ∷ k.bag;
            reached = Goes _ _ w7 (By A _ _ (takes s (push va Rescue) p t view1 took f (Alone_text first) same));
            view_a = view-here s r1 (stored s (Took (part_kind p)) t) (push va Rescue) (session-self s) view1;
            view_b = view_b;
            chains = taken ∙ ap (λ ts. ts ++ t ∷ []) (chain1 ∙ k.chains) ∙ sym chain_b;
            long = ap length taken ∙ length_push (chain_in s r1) t ∙ ap (λ ts. length ts + 1) chain1 ∙ ap (λ n. n + 1) k.long ∙ sym (length_push va.tale (part_kind p));
            keeps = λ u i. later (kept (own st.key answered) (own st.key asked) (t ∷ k.bag) u i);
            alone_a = alone-more s r1 (Took (part_kind p)) t (alone-more s k.ra Rescue [] k.alone_a);
            alone_b = alone-more s k.rb (Made (part_kind p)) t k.alone_b;
          };
        }

  -- The origin's proposal is lost, and the origin stops. Then it starts a round: the recipient knows nothing of the session, and the origin proposes it again.
  pub begins_again : (terms : Terms) → Round A (push (begin Origin terms) Rescue) (begin Recipient terms) (first_book fa) (first_book fb) 0
  begins_again terms =
      let t = next_text s st.b st.key [] (Proposal terms) in
      let x = stored s (Began Origin terms) t in
      let r1 = x ∷ [] in
      let r2 = r1 ++ stored s Rescue [] ∷ [] in
      let rb = stored s (Began Recipient terms) t ∷ [] in
      let w1 : Reached st fa fb (both_sides r1 (first_book fa) [] (first_book fb) []) = Goes _ _ Begins (By A _ _ (proposes s terms named refl (omega arith))) in
      let view1 = view-first s [] x (session-self s) refl in
      let chain1 : chain_in s r1 ≡ t ∷ [] = chain-here s [] x (session-self s) in
      let w2 : Reached st fa fb (both_sides r1 (first_book fa) [] (first_book fb) (t ∷ [])) = Goes _ _ w1 (By A _ _ (says t (Own_text s (begin Origin terms) 0 t view1 (ap (λ ts. slice_get ts 0) chain1) refl))) in
      let w3 : Reached st fa fb (both_sides r1 (first_book fa) [] (first_book fb) (t ∷ [])) = Goes _ _ w2 (By A _ _ Stops) in
      let w4 : Reached st fa fb (both_sides r2 (first_book fa) [] (first_book fb) (t ∷ [])) = Goes _ _ w3 (By A _ _ (notes s (begin Origin terms) Rescue view1 (Free (refl, refl, refl)) tt tt)) in
      let view2 = view-here s r1 (stored s Rescue []) (begin Origin terms) (session-self s) view1 in
      let chain2 = no-text s r1 Rescue [] tt ∙ chain1 in
      let asked = message_from (party_at st A) s (body.Recover (length (chain_in s r2)) (head_of (chain_in s r2)).last) in
      let formed : IsMessage asked = (omega (arith, ap length chain2), link_at_formed (chain_in s r2) (length (chain_in s r2))) in
      let w5 : Reached st fa fb (both_sides r2 (first_book fa) [] (first_book fb) (own st.key asked ∷ t ∷ [])) = Goes _ _ w4 (By A _ _ (says (own st.key asked) (Recovers s (push (begin Origin terms) Rescue) view2 formed))) in
      let answered = message_from (party_at st B) s (body.Update 0 []) in
      let w6 : Reached st fa fb (both_sides r2 (first_book fa) [] (first_book fb) (own st.key answered ∷ own st.key asked ∷ t ∷ [])) = Goes _ _ w5 (By B _ _ (says (own st.key answered) (Knows_none asked (length (chain_in s r2)) (head_of (chain_in s r2)).last named refl formed refl refl first ((omega arith, refl), tt)))) in
      let w7 : Reached st fa fb (both_sides r2 (first_book fa) [] (first_book fb) (t ∷ own st.key answered ∷ own st.key asked ∷ t ∷ [])) = Goes _ _ w6 (By A _ _ (says t (Own_text s (push (begin Origin terms) Rescue) 0 t view2 (ap (λ ts. slice_get ts 0) chain2) refl))) in
      record {
        asked = length (chain_in s r2);
        asked_last = (head_of (chain_in s r2)).last;
        answered = 0;
        carried = [];
        carries = refl;
        run = record {
          ra = r2;
          rb = rb;
          bag = t ∷ own st.key answered ∷ own st.key asked ∷ t ∷ [];
          reached = Goes _ _ w7 (By B _ _ (accepts s terms t named refl (omega arith) (Alone_text first) refl));
          view_a = view2;
          view_b = view-first s [] (stored s (Began Recipient terms) t) (session-self s) refl;
          chains = chain2 ∙ sym (chain-here s [] (stored s (Began Recipient terms) t) (session-self s));
          long = ap length chain2;
          keeps = λ u i. later (kept (own st.key answered) (own st.key asked) (t ∷ []) u i);
          alone_a = alone-more s r1 Rescue [] (alone-first s (Began Origin terms) t);
          alone_b = alone-first s (Began Recipient terms) t;
        };
      }

  -- the recovery's last message
  pub succeeds_a : (va vb : View) (ba bb : Book) (old : List Text) (k : Run va vb ba bb old) → length va.tale ≤ 11
      → (n : ℕ) × (last : Link) × Run va vb ba bb (own st.key (message_from (party_at st A) s (body.Success n last)) ∷ old)
  succeeds_a va vb ba bb old k short = (
    length (chain_in s k.ra),
    (head_of (chain_in s k.ra)).last,
    say_a va vb ba bb old k (own st.key (message_from (party_at st A) s (body.Success (length (chain_in s k.ra)) (head_of (chain_in s k.ra)).last))) (Succeeds s va k.view_a (omega (arith, k.long, short), link_at_formed (chain_in s k.ra) (length (chain_in s k.ra)))),
  )

  -- the same of a round that the recipient started
  pub succeeds_b : (va vb : View) (ba bb : Book) (old : List Text) (k : Run va vb ba bb old) → length va.tale ≤ 11
      → (n : ℕ) × (last : Link) × Run va vb ba bb (own st.key (message_from (party_at st B) s (body.Success n last)) ∷ old)
  succeeds_b va vb ba bb old k short = (
    length (chain_in s k.rb),
    (head_of (chain_in s k.rb)).last,
    say_b va vb ba bb old k (own st.key (message_from (party_at st B) s (body.Success (length (chain_in s k.rb)) (head_of (chain_in s k.rb)).last))) (Succeeds s vb k.view_b (omega (arith, ap length k.chains, k.long, short), link_at_formed (chain_in s k.rb) (length (chain_in s k.rb)))),
  )
