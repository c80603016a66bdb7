use Rattle.std.proofs.Common.{◌≡◌, ℕ, true, false, lit<, List, [], ◌∷◌, ◌++◌, length, Some, None, Ok, Err, refl, sym, ap, subst, ◌∙◌, arith}
use Rattle.std.proofs.lemmas.List.{append-nil, length_push}
use Rattle.satp_base.specs.Chains.{head_of, next_text}
use Rattle.satp_base.specs.Forms.{IsMessage, is_entry}
use Rattle.satp_base.proofs.TextSizes.{chain-entry}
use Rattle.satp_base.specs.Founding.{Founding}
use Rattle.satp_base.specs.Signatures.{own}
use Rattle.satp_base.specs.Views.{begin}
use Rattle.satp_base.specs.declared.message.Body.TheVariants.{Success, Update}
use Rattle.satp_base.specs.declared.message.Part.TheVariants.{Proposal}
use Rattle.satp_base.specs.declared.message.Role.TheVariants.{Origin, Recipient}
use Rattle.satp_base.specs.declared.message.Terms.{Terms}
use Rattle.satp_base.specs.declared.record.Rec.{Rec}
use Rattle.satp_base.specs.declared.record.Rec.TheVariants.{Began}
use Rattle.satp_base.specs.declared.session.SessionId.{SessionId}
use Rattle.satp_base.proofs.ChainLemmas.{link_at_formed, zero_formed}
use Rattle.satp_sides.specs.Calls.{Run, refusal_of, run_of, says, step_refusal}
use Rattle.satp_sides.specs.Logs.MayCome.{Accepts}
use Rattle.satp_recovery.specs.Rounds.{take_of}
use Rattle.satp_sides.specs.Calls.Call.{Starts}
use Rattle.satp_sides.specs.Calls.Refusal.{Exists, Recovery}
use Rattle.satp_recovery.specs.declared.choice.RecoveryFault.TheVariants.{EntryRefused, Longer}
use Rattle.satp_sides.specs.Moves.{Delivered, Sayable, last_texts, message_from}
use Rattle.satp_sides.specs.Moves.Among.{first, later}
use Rattle.satp_sides.specs.Moves.Delivered.{Alone, Listed}
use Rattle.satp_sides.specs.Moves.Sayable.{Succeeds, Updates}
use Rattle.satp_sides.specs.Points.{Move, Appends, Acts, Says, Side, Stored, Text, chain_in, records_of, stored, with_record}
use Rattle.satp_sides.proofs.Records.{chain-here, records-here, session-self, view-first}
use Rattle.satp_world.specs.Effects.{AreSilent, SaysItsAnswer, Stays}
use Rattle.satp_world.specs.Effects.SaysItsAnswer.{Answered, Refused, Unanswered}
use Rattle.satp_world.specs.Histories.{MayAllHappen, after_event, after_moves}
use Rattle.satp_world.specs.Histories.Event.{Called, Stopped}
use Rattle.satp_world.specs.Worlds.{Reached, Setting, party_at, side_at, start}
use Rattle.satp_world.specs.Worlds.Gateway.{A, B}
use Rattle.satp_world.specs.Worlds.Reached.{Begins}
use Rattle.satp_world.proofs.HistoryLaw.{events-reach}
use Rattle.satp_world.proofs.HonestNames.{by-body}
use Rattle.satp_world.proofs.KeptLaw.{moves-reach}
use Rattle.satp_side_examples.specs.Passing.{early_end, ended_early, heard, late_update, proposal, taken_alone}
use Rattle.satp_side_examples.proofs.law_passing.Goals as goal

-- ---- what may happen

unsent : (key : List ℕ) (t : Text) → Delivered key [] t → ⊥
unsent key t (Alone a) = elim a [ ]
unsent key t (Listed m n entries f a e b) = elim a [ ]

proposal-formed : (st : Setting) (s : SessionId) (terms : Terms) → IsMessage (proposal st s terms)
proposal-formed st s terms = ((record { low = omega arith; high = omega arith }, tt), zero_formed)

started : (st : Setting) (a b : Founding) (s : SessionId) (terms : Terms) → s.gateway ≡ st.a → MayAllHappen st (start a b) (Called A (Starts s terms) ∷ Called B (heard st (proposal st s terms)) ∷ [])
unfolding run_of refusal_of
started st a b s terms h = (h, ((((proposal-formed st s terms, refl), refl), Alone first), tt))

unsaid : (st : Setting) (a b : Founding) (s : SessionId) (terms : Terms) → MayAllHappen st (start a b) (Stopped A (Starts s terms) 1 ∷ Called B (heard st (proposal st s terms)) ∷ []) → ⊥
unfolding run_of refusal_of
unsaid st a b s terms h = unsent st.key _ h.1.0.1

pub returns-clause-happen : goal.returns-clause-happen
returns-clause-happen c = record {
  started = started;
  not_unsaid = unsaid;
  not_of_another = λ st w s terms n h. n h;
  not_unread = λ st w g m f h. h m (f, refl);
}

-- ---- what is out of date

module _ (st : Setting) (a b : Founding) (s : SessionId) (terms : Terms) (h : s.gateway ≡ st.a) where
  abbrev x : Stored
  x = stored s (Began Origin terms) (next_text s st.b st.key [] (Proposal terms))

  chain : chain_in s ([] ++ stored s (Began Origin terms) (next_text s st.b st.key [] (Proposal terms)) ∷ []) ≡ next_text s st.b st.key [] (Proposal terms) ∷ []
  chain = chain-here s [] x (session-self s)

  formed : IsMessage (early_end st s terms)
  formed = (omega arith, link_at_formed (next_text s st.b st.key [] (Proposal terms) ∷ []) 1)

  sayable : (bag : List Text) → Sayable (party_at st A) ([] ++ stored s (Began Origin terms) (next_text s st.b st.key [] (Proposal terms)) ∷ []) bag (own st.key (early_end st s terms))
  sayable bag =
      subst (λ ts. Sayable (party_at st A) ([] ++ x ∷ []) bag (own st.key (message_from (party_at st A) s (Success (length ts) (head_of ts).last)))) chain
      (Succeeds s (begin Origin terms) (view-first s [] x (session-self s) refl) (subst (λ ts. IsMessage (message_from (party_at st A) s (Success (length ts) (head_of ts).last))) (sym chain) formed))

  reached : Reached st a b (ended_early st a b s terms)
  unfolding run_of refusal_of
  reached = moves-reach st a b (after_event st (start a b) (Called A (Starts s terms))) (events-reach st a b (start a b) Begins (Called A (Starts s terms) ∷ []) (h, tt)) A (Says (own st.key (early_end st s terms)) ∷ []) (sayable _, tt)

  refused : refusal_of (party_at st B) (side_at (ended_early st a b s terms) B).records (heard st (early_end st s terms)) ≡ Some (Recovery (Longer 1))
  refused = by-body st a b (ended_early st a b s terms) reached B (early_end st s terms) (own st.key (early_end st s terms)) formed refl (Alone first) refl None

module _ (st : Setting) (a b : Founding) (s : SessionId) (terms : Terms) (h : s.gateway ≡ st.a) where
  abbrev entry : Text
  entry = own st.key (proposal st s terms)

  is-text : is_entry (own st.key (proposal st s terms)) ≡ true
  is-text = chain-entry st.key (proposal st s terms) (proposal-formed st s terms) tt

  update-formed : IsMessage (late_update st s terms)
  update-formed = ((omega arith, rw is-text refl), tt)

  update-sayable : (bag : List Text) → Sayable (party_at st A) ([] ++ stored s (Began Origin terms) (own st.key (proposal st s terms)) ∷ []) bag (own st.key (late_update st s terms))
  update-sayable bag =
      let x = stored s (Began Origin terms) (own st.key (proposal st s terms)) in
      let chain : chain_in s ([] ++ x ∷ []) ≡ own st.key (proposal st s terms) ∷ [] = chain-here s [] x (session-self s) in
      subst (λ ts. Sayable (party_at st A) ([] ++ x ∷ []) bag (own st.key (message_from (party_at st A) s (Update (length ts) (last_texts 1 ts))))) chain
      (Updates s (begin Origin terms) 1 (view-first s [] x (session-self s) refl) (omega arith) (subst (λ ts. IsMessage (message_from (party_at st A) s (Update (length ts) (last_texts 1 ts)))) (sym chain) update-formed))

  updated : Reached st a b (after_moves (after_event st (start a b) (Called A (Starts s terms))) A (Says (own st.key (late_update st s terms)) ∷ []))
  unfolding run_of refusal_of
  updated = moves-reach st a b (after_event st (start a b) (Called A (Starts s terms))) (events-reach st a b (start a b) Begins (Called A (Starts s terms) ∷ []) (h, tt)) A (Says (own st.key (late_update st s terms)) ∷ []) (update-sayable _, tt)

  taken : Reached st a b (taken_alone st a b s terms)
  unfolding run_of refusal_of
  taken =
      moves-reach st a b (after_moves (after_event st (start a b) (Called A (Starts s terms))) A (Says (own st.key (late_update st s terms)) ∷ [])) updated B
      (Appends (stored s (Began Recipient terms) (own st.key (proposal st s terms))) ∷ [])
      (record { may_come = Accepts s terms h refl (lit< tt); arrives = Alone (later first); fits = λ v e. tt }, tt)

  late-refused : refusal_of (party_at st B) (side_at (taken_alone st a b s terms) B).records (heard st (late_update st s terms)) ≡ Some (Recovery (EntryRefused 2))
  late-refused =
      let x = stored s (Began Recipient terms) (own st.key (proposal st s terms)) in
      let chain : chain_in s ([] ++ x ∷ []) ≡ own st.key (proposal st s terms) ∷ [] = chain-here s [] x (session-self s) in
      by-body st a b (taken_alone st a b s terms) taken B (late_update st s terms) (own st.key (late_update st s terms)) update-formed refl (Alone first) refl None
      ∙ ap (λ ts. step_refusal false (take_of (head_of ts) 1 1)) chain

pub returns-clause-outdated : goal.returns-clause-outdated
returns-clause-outdated c = record {
  early = λ st a b s terms h. (reached st a b s terms h, refused st a b s terms h);
  late = λ st a b s terms h. (taken st a b s terms h, late-refused st a b s terms h);
  not_a_chains = λ place previous part refusal h. elim h [ ];
  not_an_address = λ length last h. elim h [ ];
  not_too_long = λ length last by h. elim h [ ];
}

-- ---- what a call says and leaves alone

silent-last : (before : List Move) (t : Text) → AreSilent (before ++ Says t ∷ []) → ⊥
silent-last [] t h = h
silent-last (Appends x ∷ ms) t h = silent-last ms t h
silent-last (Acts s op terms ∷ ms) t h = silent-last ms t h
silent-last (Says u ∷ ms) t h = h

unanswered : (t : Text) (run : Run) → run.moves ≡ Says t ∷ [] → run.answer ≡ Some (Ok None) → SaysItsAnswer run → ⊥
unanswered t run m e (Refused r ms f) = cc
unanswered t run m e (Unanswered k f) = cc (e, f)
unanswered t run m e (Answered before reply k ms f) =
    let none : reply ≡ None = cc in
    subst AreSilent (sym (append-nil before) ∙ ap (λ o. before ++ says o) (sym none) ∙ sym ms ∙ m) k

unsaid-answer : (y : Stored) (t : Text) (run : Run) → run.moves ≡ Appends y ∷ [] → run.answer ≡ Some (Ok (Some t)) → SaysItsAnswer run → ⊥
unsaid-answer y t run m e (Refused r ms f) = cc
unsaid-answer y t run m e (Unanswered k f) = cc (e, f)
unsaid-answer y t run m e (Answered before reply k ms f) =
    let some : reply ≡ Some t = cc in
    silent-last before t (subst AreSilent (sym m ∙ ms ∙ ap (λ o. before ++ says o) some) tt)

starts-with : (y : Stored) (t : Text) (before : List Move) → AreSilent before → Says t ∷ Appends y ∷ [] ≡ before ++ Says t ∷ [] → ⊥
starts-with y t [] k e = cc e
starts-with y t (Appends z ∷ ms) k e = cc e
starts-with y t (Acts s op terms ∷ ms) k e = cc e
starts-with y t (Says u ∷ ms) k e = k

said-first : (y : Stored) (t : Text) (run : Run) → run.moves ≡ Says t ∷ Appends y ∷ [] → run.answer ≡ Some (Ok (Some t)) → SaysItsAnswer run → ⊥
said-first y t run m e (Refused r ms f) = cc
said-first y t run m e (Unanswered k f) = cc (e, f)
said-first y t run m e (Answered before reply k ms f) =
    let some : reply ≡ Some t = cc in
    starts-with y t before k (sym m ∙ ms ∙ ap (λ o. before ++ says o) some)

refused-moves : (y : Stored) (run : Run) → run.moves ≡ Appends y ∷ [] → run.answer ≡ Some (Err Exists) → SaysItsAnswer run → ⊥
refused-moves y run m e (Refused r ms f) = cc (m, ms)
refused-moves y run m e (Unanswered k f) = cc (e, f)
refused-moves y run m e (Answered before reply k ms f) = cc (e, f)

one-more : (side : Side) (s : SessionId) (r : Rec) (t : Text) → Stays s side (with_record side s r t) → ⊥
one-more side s r t k =
    let h = ap length (sym (records-here s side.records (stored s r t) (session-self s)) ∙ k.records) in
    let n = length_push (records_of s side.records) (stored s r t) in
    omega (arith, h, n)

pub returns-clause-alone : goal.returns-clause-alone
returns-clause-alone c = record {
  answer = λ y t. Answered (Appends y ∷ []) (Some t) tt refl refl;
  not_unanswered = λ t. unanswered t _ refl refl;
  not_unsaid = λ y t. unsaid-answer y t _ refl refl;
  not_before_the_record = λ y t. said-first y t _ refl refl;
  not_when_refused = λ y. refused-moves y _ refl refl;
  not_with_a_record = one-more;
}
