use Rattle.std.proofs.Common.{◌≡◌, ℕ, zero, suc, ◌+◌, Bool, true, false, List, [], ◌∷◌, Option, Some, None, inl, refl, sym, ap, subst, lit≤, lit<, ◌∙◌}
use Rattle.std.specs.Prelude.{slice_get}
use Rattle.satp_base.specs.Chains.{last_link, message_at, role_at}
use Rattle.satp_base.specs.Forms.{IsMessage}
use Rattle.satp_base.specs.Views.{begin}
use Rattle.satp_base.specs.declared.message.Role.{Role}
use Rattle.satp_base.specs.declared.message.Role.TheVariants.{Origin, Recipient}
use Rattle.satp_base.proofs.ChainLemmas.{link_at_formed}
use Rattle.satp_sides.proofs.Records.{chain-here, view-apart, view-first}
use Rattle.satp_base.specs.LedgerRule.{LedgerRule, entry_of, operation}
use Rattle.satp_base.specs.Money.{Book}
use Rattle.satp_base.specs.Roles.{next_of}
use Rattle.satp_base.specs.Roles.RoleRule.{Due}
use Rattle.satp_base.specs.Signatures.{own}
use Rattle.satp_base.specs.Verdicts.{extends}
use Rattle.satp_base.specs.declared.ledger.Answer.TheVariants as answer
use Rattle.satp_base.specs.declared.ledger.Entry.TheVariants.{Locked, Minted}
use Rattle.satp_base.specs.declared.ledger.LedgerOp.{LedgerOp}
use Rattle.satp_base.specs.declared.ledger.LedgerOp.TheVariants.{Lock, Mint, Assign}
use Rattle.satp_base.specs.declared.message.Body.{Body}
use Rattle.satp_base.specs.declared.message.Body.TheVariants.{Chain, Recover, Update, Success}
use Rattle.satp_base.specs.declared.message.Kind.TheVariants.{ProposalReceipt}
use Rattle.satp_base.specs.declared.message.Message.{Message}
use Rattle.satp_base.specs.declared.message.Part.TheVariants.{Plain}
use Rattle.satp_base.specs.declared.message.Terms.{Terms}
use Rattle.satp_base.specs.declared.record.Cause.TheVariants.{MintCapped}
use Rattle.satp_base.specs.declared.record.Next.{Next}
use Rattle.satp_base.specs.declared.record.Next.TheVariants.{Act, Ended}
use Rattle.satp_base.specs.declared.record.Rec.TheVariants.{Began, Chose}
use Rattle.satp_base.specs.declared.record.Way.TheVariants.{Back}
use Rattle.satp_base.specs.declared.session.SessionId.{SessionId}
use Rattle.satp_base.specs.declared.view.View.{View}
use Rattle.satp_base.proofs.RuleLemmas.{rule-gives}
use Rattle.satp_base.proofs.SignatureLemmas.{own_shows}
use Rattle.satp_sides.specs.Calls.{IsEntryOf, refusal_of, run_of}
use Rattle.satp_sides.specs.Due.{due}
use Rattle.satp_sides.specs.Logs.MayCome.{Accepts, Makes}
use Rattle.satp_sides.specs.Moves.{Among, Delivered, IsAct, RefusesNow, Sayable, SideMoves}
use Rattle.satp_sides.specs.Moves.SideMoves.{Moves, Stops}
use Rattle.satp_sides.specs.Moves.Among.{first, later}
use Rattle.satp_sides.specs.Moves.Delivered.{Alone, Listed}
use Rattle.satp_sides.specs.Moves.Sayable.{Own_text, Recovers, Updates, Succeeds, Knows_none}
use Rattle.satp_sides.specs.Points.{Appends, Acts, Says, Party, Side, Stored, Text, chain_in, is_session, stored, view_in}
use Rattle.satp_side_examples.specs.Answers.{receipt}
use Rattle.satp_side_examples.specs.Moving.{first_text}
use Rattle.satp_side_examples.specs.Samples.{alpha_1, at_beta, beta, from_alpha}
use Rattle.satp_side_examples.proofs.law_moving.Goals as goal

nowhere : (t : Text) → Among t [] → ⊥
nowhere t a = elim a [ ]

unsent : (key : List ℕ) (t : Text) → Delivered key [] t → ⊥
unsent key t (Alone a) = nowhere t a
unsent key t (Listed m n entries f a e b) = nowhere (own key m) a

pub returns-clause-come : goal.returns-clause-come
returns-clause-come c = record {
  alone = λ key t. Alone first;
  in_an_update = λ key t e. Listed (from_alpha alpha_1 (Update 1 (t ∷ []))) 1 (t ∷ []) ((lit≤ tt, rw e), tt) first refl first;
  not_unsent = unsent;
}

unsaid : (p : Party) (t : Text) → Sayable p [] [] t → ⊥
unsaid p _ (Own_text s v n t e f g) = absurd cc
unsaid p _ (Recovers s v e f) = absurd cc
unsaid p _ (Updates s v n e f g) = absurd cc
unsaid p _ (Succeeds s v e f) = absurd cc
unsaid p _ (Knows_none m n last g e f r b a h) = nowhere (own p.key m) a

receipt-formed : (t : Text) → IsMessage (message_at alpha_1 beta 2 (last_link (t ∷ [])) (Plain ProposalReceipt))
receipt-formed t = ((record { low = lit≤ tt; high = lit≤ tt }, refl), link_at_formed (t ∷ []) 1)

role_in : Option View → Role
role_in None = Origin
role_in (Some v) = v.role

-- the one text of the records is the origin's
only-first : (terms : Terms) (u : Text) (s : SessionId) (v : View) (n : ℕ) (t : Text) → view_in s (stored alpha_1 (Began Recipient terms) u ∷ []) ≡ Some v → slice_get (chain_in s (stored alpha_1 (Began Recipient terms) u ∷ [])) n ≡ Some t → role_at (n + 1) ≡ v.role → ⊥
unfolding role_in
only-first terms u s v n t e d r = go (is_session s alpha_1) refl
  where
    x : Stored
    x = stored alpha_1 (Began Recipient terms) u

    place : (n : ℕ) → slice_get (u ∷ []) n ≡ Some t → role_at (n + 1) ≡ Recipient → ⊥
    place zero h k = cc k
    place (suc n) h k = cc h

    go : (b : Bool) → is_session s alpha_1 ≡ b → ⊥
    go false y = let none = view-apart s [] (stored alpha_1 (Began Recipient terms) u) y in cc (none, e)
    go true y =
        let view : Some (begin Recipient terms) ≡ Some v = sym (view-first s [] (stored alpha_1 (Began Recipient terms) u) y refl) ∙ e in
        let role : Recipient ≡ v.role = ap (λ o. role_in o) view in
        place n (sym (ap (λ ts. slice_get ts n) (chain-here s [] (stored alpha_1 (Began Recipient terms) u) y)) ∙ d) (r ∙ sym role)

unstored : (key : List ℕ) (bag : List Text) (terms : Terms) (u t : Text) → t ≡ receipt key u → Sayable (at_beta key) (stored alpha_1 (Began Recipient terms) u ∷ []) bag t → ⊥
unstored key bag terms u _ is (Own_text s v n t e d r) = only-first terms u s v n t e d r
unstored key bag terms u _ is (Recovers s v e f) = let same = ap (λ (m : Message). m.body) (own_shows key key _ _ f (receipt-formed u) is) in cc same
unstored key bag terms u _ is (Updates s v n e few f) = let same = ap (λ (m : Message). m.body) (own_shows key key _ _ f (receipt-formed u) is) in cc same
unstored key bag terms u _ is (Succeeds s v e f) = let same = ap (λ (m : Message). m.body) (own_shows key key _ _ f (receipt-formed u) is) in cc same
unstored key bag terms u _ is (Knows_none m n last g e f r b a h) = let same = ap (λ (m : Message). m.body) (own_shows key key _ _ h (receipt-formed u) is) in cc same

pub returns-clause-said : goal.returns-clause-said
returns-clause-said c = record {
  unnamed = λ key last link. Knows_none (from_alpha alpha_1 (Recover 1 last)) 1 last refl refl (lit≤ tt, link) refl refl first ((lit≤ tt, refl), tt);
  own_text = λ key terms text. Own_text alpha_1 _ 9 (text 10) refl refl refl;
  not_unstored = λ key bag terms text. unstored key bag terms (text 1) (receipt key (text 1)) refl;
  not_unasked = unsaid;
}

next_in : Option View → Next
next_in None = Ended
next_in (Some v) = next_of v.role v

terms_in : Option View → Terms → Terms
terms_in None t = t
terms_in (Some v) t = v.terms

not-due : (side : Side) (s : SessionId) (op : LedgerOp) (terms : Terms) → IsAct side s op terms → next_in (view_in s side.records) ≡ Act op
unfolding next_in
not-due side s op terms h = ap next_in h.named ∙ h.due

unrefused : (b : Book) (terms : Terms) → entry_of b.entries alpha_1 ≡ Minted → RefusesNow b Mint alpha_1 terms (Chose (Back MintCapped)) → ⊥
unrefused b terms e (answer.Done, rule, after) = absurd (cc after)
unrefused b terms e (answer.NoFunds free, rule, after) = absurd after
unrefused b terms e (answer.UnknownAsset, rule, after) = absurd (cc after)
unrefused b terms e (answer.Capped total, rule, after) = absurd (cc (e, rule.0))
unrefused b terms e (answer.Taken entry, rule, after) = absurd (cc after)

-- a locked entry is locked again, and nothing changes
locked-again : (b : Book) (terms : Terms) → entry_of b.entries alpha_1 ≡ Locked → LedgerRule b Lock alpha_1 terms answer.Done b
locked-again b terms e = inl (e, refl)

not-forgotten : (p : Party) (old : Side) (bag : List Text) (new : Side) (more : List Text) (t : Text) → SideMoves p old bag new more → Among t bag → Among t more
not-forgotten p old bag _ _ t (Moves (Appends x) m) i = i
not-forgotten p old bag _ _ t (Moves (Acts s op terms) m) i = i
not-forgotten p old bag _ _ t (Moves (Says u) m) i = later i
not-forgotten p old bag _ _ t Stops i = i

pub returns-clause-moves : goal.returns-clause-moves
unfolding run_of refusal_of due extends next_in terms_in
returns-clause-moves c = record {
  accepts = λ key book terms. (record { may_come = Accepts alpha_1 terms refl refl (lit< tt); arrives = Alone first; fits = λ v e. tt }, (record { may_come = Makes alpha_1 _ (Plain ProposalReceipt) refl (Due refl) refl; arrives = tt; fits = λ v e. tt }, (Own_text alpha_1 _ 1 (receipt key (first_text key terms)) refl refl refl, tt)));
  not_undelivered = λ key book terms h. unsent key _ h.0.arrives;
  not_before_the_decision = λ key book bag terms text h. let due = not-due _ _ _ _ h in absurd (cc due);
  not_out_of_order = λ key book bag terms text none h. let some : (operation book Assign alpha_1 terms).answer ≡ Some h.answer = (rule-gives book Assign alpha_1 terms h.answer (operation book Assign alpha_1 terms).after h.rule).0 in absurd (cc (none, some));
  not_under_others = λ key book bag terms other text differs h. differs (h.under ∙ sym (ap (λ o. terms_in o terms) h.named));
  not_twice = λ key book bag terms text h. let due = not-due _ _ _ _ h in absurd (cc due);
  after_a_stop = λ key book bag terms text e. let gives = rule-gives book Lock alpha_1 terms answer.Done book (locked-again book terms e) in (record { view = _; named = refl; due = refl; under = refl; answer = answer.Done; rule = subst (LedgerRule book Lock alpha_1 terms answer.Done) gives.1 (locked-again book terms e) }, sym gives.1);
  not_undone = λ key book bag terms text none h. let some = h.fits _ refl in absurd (cc (none, some));
  not_unrefused = λ key book bag terms text minted h. unrefused book terms minted (h.fits _ refl);
  not_forgotten = not-forgotten;
}

both_none : (e f : Option Message) → e ≡ None → f ≡ None → e ≡ f
both_none e f a b = a ∙ sym b

of-one : (key : List ℕ) (n : ℕ) (t : Text) (e f : Option Message) → IsEntryOf key (Update n (t ∷ [])) e → IsEntryOf key (Update n (t ∷ [])) f → e ≡ f
of-one key n t (Some d) (Some m) a b = ap Some (own_shows key key d m a.0 b.0 (sym a.1 ∙ b.1))
of-one key n t (Some d) None a b = absurd (b d a)
of-one key n t None (Some m) a b = absurd (a m b)
of-one key n t None None a b = refl

one-entry : (key : List ℕ) (b : Body) (e f : Option Message) → IsEntryOf key b e → IsEntryOf key b f → e ≡ f
one-entry key (Chain n previous part) e f a b = both_none e f a b
one-entry key (Recover n last) e f a b = both_none e f a b
one-entry key (Update n []) e f a b = both_none e f a b
one-entry key (Update n (t ∷ [])) e f a b = of-one key n t e f a b
one-entry key (Update n (t ∷ u ∷ ts)) e f a b = both_none e f a b
one-entry key (Success n last) e f a b = both_none e f a b

pub returns-clause-entries : goal.returns-clause-entries
returns-clause-entries c = record {
  determined = one-entry;
  not_of_two = λ key n t u e h. absurd (cc h);
  not_of_a_chain = λ key n previous part e h. absurd (cc h);
}
