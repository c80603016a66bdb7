-- Turns of due work, one after the other, from point to point.
use Rattle.std.proofs.Common.{◌≡◌, ℕ, suc, true, List, [], ◌∷◌, ◌++◌, map, Option, Some, None, refl, sym, ap, subst, ◌∙◌}
use Rattle.std.proofs.lemmas.List.{append-nil, append_assoc, map-append}
use Rattle.satp_base.specs.Calls.{Told}
use Rattle.satp_base.specs.LedgerRule.{operation}
use Rattle.satp_base.specs.Money.{Book}
use Rattle.satp_base.specs.Roles.{after_of, next_of}
use Rattle.satp_base.specs.Roles.RoleRule.{Due as Ruled}
use Rattle.satp_base.specs.Tales.{is_whole}
use Rattle.satp_base.specs.Views.{push}
use Rattle.satp_base.specs.declared.ledger.Answer.{Answer}
use Rattle.satp_base.specs.declared.ledger.LedgerOp.{LedgerOp}
use Rattle.satp_base.specs.declared.message.Kind.{Kind}
use Rattle.satp_base.specs.declared.record.Next.TheVariants.{Append, Act}
use Rattle.satp_base.specs.declared.record.Rec.{Rec}
use Rattle.satp_base.specs.declared.record.Rec.TheVariants.{Began, Took, Made, Did, Chose, Rescue}
use Rattle.satp_base.specs.declared.session.SessionId.{SessionId}
use Rattle.satp_chain.specs.declared.signed.Signed.{Signed}
use Rattle.satp_journal.specs.State.{Held}
use Rattle.satp_log.specs.Folding.{State, state_with}
use Rattle.satp_records.specs.declared.stored.Setup.{Setup}
use Rattle.satp_sides.specs.Due.{Due, after_moves, due_answered, due_by, due_text, due_within}
use Rattle.satp_sides.specs.DueLaws.{Rests}
use Rattle.satp_sides.specs.Logs.{IsNote}
use Rattle.satp_sides.specs.Others.{AreOf}
use Rattle.satp_sides.specs.Points.{Appends, Acts, Move, Party, Side, Slot, Stored, Text, moved_by, noted, slot, stored}
use Rattle.satp_sides.proofs.DueLaw.{still}
use Rattle.satp_sides.proofs.Growth.{note-tale}
use Rattle.satp_sides.proofs.Records.{push-head}
use Rattle.satp_sides.proofs.Rules.{made-rule}
use Rattle.satp_stops.specs.Stops.{told_steps}
use Rattle.satp_points.specs.Answers.{Breaks, Goes}
use Rattle.satp_points.specs.States.{IsAt, Tells, area_of, kept_of, steps_of}
use Rattle.satp_engine.specs.Turning.{DueBroke, DueMade, TurnsDone, Worked}
use Rattle.satp_engine.specs.Working.{Fails, Grows, Keeps, Makes, shut, slot_of}
use Rattle.satp_engine.specs.declared.records.Records.{Records}
use Rattle.satp_engine.proofs.Dues.{not-whole}
use Rattle.satp_point_laws.proofs.GoingLaw.{moves-go-on}

-- ---- the moves of one turn

-- from each point, these moves were made, and the turns go on from the session after them
abbrev pub OneTurn : Party → SessionId → Slot → Held → Tells → Slot → Held → Tells → List Move → Type 0
OneTurn p s l old before after mid between ms =
    (setup : Setup) (side : Side) (t : Told) → IsAt old before setup side t
    → Goes old setup side ms t mid between × ((n : ℕ) → due_within (suc n) p s l side.book ≡ after_moves ms (due_within n p s after (moved_by side ms).book))

pub one-turn : (p : Party) (s : SessionId) (l : Slot) (old : Held) (before : Tells) (after : Slot) (mid : Held) (between : Tells) (ms : List Move) → OneTurn p s l old before after mid between ms
    → (n : ℕ) → TurnsDone (suc n) n p s l old before after mid between
one-turn p s l old before after mid between ms one n = record {
  made = λ last new site h setup side t at.
      (let (goes, is) = one setup side t at in
      let d = due_within n p s after (moved_by side ms).book in
      let rest = h setup (moved_by side ms) (told_steps (kept_of (area_of old) setup side) (steps_of ms) t) goes.1 in
      subst (λ (x : Due). (x.in_order ≡ true) × (x.slot ≡ last) × Goes old setup side x.moves t new site) (sym (is n))
      (rest.0, rest.1, (moves-go-on old mid new setup side ms d.moves t between site).goes goes rest.2));
  broke = λ site h setup side t at.
      (let (goes, is) = one setup side t at in
      let d = due_within n p s after (moved_by side ms).book in
      let rest = h setup (moved_by side ms) (told_steps (kept_of (area_of old) setup side) (steps_of ms) t) goes.1 in
      subst (λ (x : Due). Breaks old setup side x.moves t (shut old) site) (sym (is n))
      ((moves-go-on old mid (shut old) setup side ms d.moves t between site).breaks goes (refl, rest.1)));
}

-- the first moves of a turn broke
pub turn-broke : (p : Party) (s : SessionId) (l : Slot) (old : Held) (before site : Tells)
    → ((setup : Setup) (side : Side) (t : Told) → IsAt old before setup side t → (ms : List Move) × Breaks old setup side ms t (shut old) site × ((n : ℕ) → (rest : List Move) × ((due_within (suc n) p s l side.book).moves ≡ ms ++ rest)))
    → (n : ℕ) → DueBroke (suc n) p s l old before site
turn-broke p s l old before site one n setup side t at =
    let (ms, broke, more) = one setup side t at in
    let (rest, is) = more n in
    subst (λ (xs : List Move). Breaks old setup side xs t (shut old) site) (sym is) ((moves-go-on old (shut old) (shut old) setup side ms rest t before site).broke broke)

-- ---- turns after turns

pub turns-then : (m n k : ℕ) (p : Party) (s : SessionId) (l l' l'' : Slot) (a b c : Held) (x y z : Tells) → TurnsDone m n p s l a x l' b y → TurnsDone n k p s l' b y l'' c z → TurnsDone m k p s l a x l'' c z
turns-then m n k p s l l' l'' a b c x y z h g = record { made = λ last new site d. h.made last new site (g.made last new site d); broke = λ site d. h.broke site (g.broke site d) }

pub no-turns : (n : ℕ) (p : Party) (s : SessionId) (l : Slot) (a : Held) (x : Tells) → TurnsDone n n p s l a x l a x
no-turns n p s l a x = record { made = λ last new site d. d; broke = λ site d. d }

-- where nothing is due, no work is
pub rests-made : (n : ℕ) (p : Party) (s : SessionId) (l : Slot) (g : Held) (site : Tells) → Rests (next_of l.view.role l.view) → DueMade n p s l g site l g site
rests-made n p s l g site rest setup side t at =
    subst (λ (x : Due). (x.in_order ≡ true) × (x.slot ≡ l) × Goes g setup side x.moves t g site) (sym (still n p s l side.book rest)) (refl, refl, (refl, at))

-- ---- a record that is due

pub note-texts : (s : SessionId) (l : Slot) (r : Rec) → IsNote r → noted l s r [] ≡ slot (push l.view r) l.texts
note-texts s l (Began role terms) n = absurd n
note-texts s l (Took kind) n = absurd n
note-texts s l (Made kind) n = absurd n
note-texts s l (Did op) n = ap (slot (push l.view (Did op))) (append-nil l.texts)
note-texts s l (Chose way) n = ap (slot (push l.view (Chose way))) (append-nil l.texts)
note-texts s l Rescue n = ap (slot (push l.view Rescue)) (append-nil l.texts)

note-text : (p : Party) (s : SessionId) (l : Slot) (r : Rec) → IsNote r → due_text p s l r ≡ []
note-text p s l (Began role terms) n = absurd n
note-text p s l (Took kind) n = absurd n
note-text p s l (Made kind) n = absurd n
note-text p s l (Did op) n = refl
note-text p s l (Chose way) n = refl
note-text p s l Rescue n = refl

pub made-slot : (s : SessionId) (state : State) (kind : Kind) (signed : Signed) → noted (slot_of state) s (Made kind) signed.text ≡ slot_of (state_with state (Made kind) (Some signed))
made-slot s state kind signed = ap (slot (push state.view (Made kind))) (sym (map-append (λ (x : Signed). x.text) state.chain.kept (signed ∷ [])))

module _ (p : Party) (s : SessionId) (state : State) (old mid : Held) (before between : Tells) where
  abbrev here : Slot
  here = slot_of state

  append-due : (r : Rec) (n : ℕ) (b : Book) → next_of state.view.role state.view ≡ Append r
      → due_within (suc n) p s here b ≡ after_moves (Appends (stored s r (due_text p s here r)) ∷ []) (due_within n p s (noted here s r (due_text p s here r)) b)
  append-due r n b e = ap (due_by (due_within n p s) p s here b) e

  pub note-turn : (r : Rec) → IsNote r → next_of state.view.role state.view ≡ Append r → Makes (Appends (stored s r []) ∷ []) old before mid between
      → (n : ℕ) → TurnsDone (suc n) n p s here old before (slot_of (state_with state r None)) mid between
  note-turn r is e makes =
      one-turn p s here old before (slot_of (state_with state r None)) mid between (Appends (stored s r []) ∷ [])
      (λ setup side t at. (
        makes setup side t at,
        λ n.
            append-due r n side.book e
            ∙ ap (λ (text : Text). after_moves (Appends (stored s r text) ∷ []) (due_within n p s (noted here s r text) side.book)) (note-text p s here r is)
            ∙ ap (λ (l : Slot). after_moves (Appends (stored s r []) ∷ []) (due_within n p s l side.book)) (note-texts s here r is),
      ))

  pub made-turn : (kind : Kind) (signed : Signed) → next_of state.view.role state.view ≡ Append (Made kind) → due_text p s here (Made kind) ≡ signed.text → Makes (Appends (stored s (Made kind) signed.text) ∷ []) old before mid between
      → (n : ℕ) → TurnsDone (suc n) n p s here old before (slot_of (state_with state (Made kind) (Some signed))) mid between
  made-turn kind signed e text makes =
      one-turn p s here old before (slot_of (state_with state (Made kind) (Some signed))) mid between (Appends (stored s (Made kind) signed.text) ∷ [])
      (λ setup side t at. (
        makes setup side t at,
        λ n.
            append-due (Made kind) n side.book e
            ∙ ap (λ (x : Text). after_moves (Appends (stored s (Made kind) x) ∷ []) (due_within n p s (noted here s (Made kind) x) side.book)) text
            ∙ ap (λ (l : Slot). after_moves (Appends (stored s (Made kind) signed.text) ∷ []) (due_within n p s l side.book)) (made-slot s state kind signed),
      ))

  pub append-broke : (r : Rec) (text : Text) → next_of state.view.role state.view ≡ Append r → due_text p s here r ≡ text → Fails (Appends (stored s r text) ∷ []) old before between → (n : ℕ) → DueBroke (suc n) p s here old before between
  append-broke r text e is fails =
      turn-broke p s here old before between
      (λ setup side t at. (
        Appends (stored s r text) ∷ [],
        fails setup side t at,
        λ n. (
          (due_within n p s (noted here s r (due_text p s here r)) side.book).moves,
          ap (λ (d : Due). d.moves) (append-due r n side.book e) ∙ ap (λ (x : Text). Appends (stored s r x) ∷ (due_within n p s (noted here s r (due_text p s here r)) side.book).moves) is,
        ),
      ))

  pub note-broke : (r : Rec) → IsNote r → next_of state.view.role state.view ≡ Append r → Fails (Appends (stored s r []) ∷ []) old before between → (n : ℕ) → DueBroke (suc n) p s here old before between
  note-broke r is e fails = append-broke r [] e (note-text p s here r is) fails

-- ---- an operation that is due

module _ (p : Party) (s : SessionId) (state : State) (op : LedgerOp) (e : next_of state.view.role state.view ≡ Act op) (old mid : Held) (before acted between : Tells) where
  abbrev act_moves : List Move
  act_moves = Acts s op state.view.terms ∷ []

  -- the ledger gave the answer
  abbrev pub Answers : Answer → Type 0
  Answers a = (setup : Setup) (side : Side) (t : Told) → IsAt old before setup side t → Goes old setup side (Acts s op state.view.terms ∷ []) t old acted × ((operation side.book op s state.view.terms).answer ≡ Some a)

  act-due : (a : Answer) (n : ℕ) (b : Book) → (operation b op s state.view.terms).answer ≡ Some a
      → due_within (suc n) p s (slot_of state) b ≡ due_answered (due_within n p s) s (slot_of state) b op (Some a)
  act-due a n b is = ap (due_by (due_within n p s) p s (slot_of state) b) e ∙ ap (due_answered (due_within n p s) s (slot_of state) b op) is

  pub act-turn : (a : Answer) → IsNote (after_of op a) → Answers a → Makes (Appends (stored s (after_of op a) []) ∷ []) old acted mid between
      → (n : ℕ) → TurnsDone (suc n) n p s (slot_of state) old before (slot_of (state_with state (after_of op a) None)) mid between
  act-turn a note answers makes =
      let r = after_of op a in
      let last : List Move = Appends (stored s r []) ∷ [] in
      one-turn p s (slot_of state) old before (slot_of (state_with state r None)) mid between (Acts s op state.view.terms ∷ last)
      (λ setup side t at.
      (let (goes, is) = answers setup side t at in
      let side' = moved_by side act_moves in
      let t' = told_steps (kept_of (area_of old) setup side) (steps_of act_moves) t in (
        (moves-go-on old old mid setup side act_moves last t acted between).goes goes (makes setup side' t' goes.1),
        λ n.
            act-due a n side.book is
            ∙ ap (λ (l : Slot). after_moves (Acts s op state.view.terms ∷ last) (due_within n p s l side'.book)) (note-texts s (slot_of state) r note),
      )))

  pub act-then-broke : (a : Answer) → Answers a → Fails (Appends (stored s (after_of op a) []) ∷ []) old acted between → (n : ℕ) → DueBroke (suc n) p s (slot_of state) old before between
  act-then-broke a answers fails =
      let r = after_of op a in
      let last : List Move = Appends (stored s r []) ∷ [] in
      turn-broke p s (slot_of state) old before between
      (λ setup side t at.
      (let (goes, is) = answers setup side t at in
      let side' = moved_by side act_moves in
      let t' = told_steps (kept_of (area_of old) setup side) (steps_of act_moves) t in (
        Acts s op state.view.terms ∷ last,
        (moves-go-on old old (shut old) setup side act_moves last t acted between).breaks goes (fails setup side' t' goes.1),
        λ n. ((due_within n p s (noted (slot_of state) s r []) side'.book).moves, ap (λ (d : Due). d.moves) (act-due a n side.book is)),
      )))

  first-of : (n : ℕ) (b : Book) (o : Option Answer) → (rest : List Move) × ((due_answered (due_within n p s) s (slot_of state) b op o).moves ≡ act_moves ++ rest)
  first-of n b None = ([], refl)
  first-of n b (Some a) = (_, refl)

  pub act-broke : Fails (Acts s op state.view.terms ∷ []) old before between → (n : ℕ) → DueBroke (suc n) p s (slot_of state) old before between
  act-broke fails =
      turn-broke p s (slot_of state) old before between
      (λ setup side t at. (
        act_moves,
        fails setup side t at,
        λ n.
            (let (rest, is) = first-of n side.book (operation side.book op s state.view.terms).answer in
            (rest, ap (λ (d : Due). d.moves) (ap (due_by (due_within n p s) p s (slot_of state) side.book) e) ∙ is)),
      ))

-- ---- what the session became

pub worked-none : (l : Slot) → Worked l None l
worked-none l = (refl, refl, refl)

pub worked-note : (state : State) (r : Rec) → IsNote r → Worked (slot_of state) None (slot_of (state_with state r None))
worked-note state r n = (refl, note-tale state.view r n, (push-head state.view r).0)

pub worked-then : (l m k : Slot) (made : Option Text) → Worked l None m → Worked m made k → Worked l made k
worked-then l m k None a b = (b.0 ∙ a.0, b.1 ∙ a.1, b.2 ∙ a.2)
worked-then l m k (Some t) a (kind, texts, tale, role, own, open_) =
    (kind, texts ∙ ap (λ ts. ts ++ t ∷ []) a.0, tale ∙ ap (λ ks. ks ++ kind ∷ []) a.1, role ∙ a.2, own ∙ ap Some a.2, ap is_whole (sym a.1) ∙ open_)

pub worked-made : (state : State) (kind : Kind) (signed : Signed) → next_of state.view.role state.view ≡ Append (Made kind) → Worked (slot_of state) (Some signed.text) (slot_of (state_with state (Made kind) (Some signed)))
worked-made state kind signed e =
    (kind, map-append (λ (x : Signed). x.text) state.chain.kept (signed ∷ []), refl, refl, made-rule state.view.role state.view kind (Ruled e), not-whole state.view.role state.view (Made kind) e)

-- ---- at any site

of-append : (s : SessionId) (xs ys : List Stored) → AreOf s (map Appends xs) → AreOf s (map Appends ys) → AreOf s (map Appends (xs ++ ys))
of-append s [] ys h k = k
of-append s (x ∷ xs) ys h k = (h.0, of-append s xs ys h.1 k)

pub grows-then : (s : SessionId) (a b c : Records) → Grows s a b → Grows s b c → Grows s a c
grows-then s a b c h g setup xs k =
    let (ys, one, of) = h setup xs k in
    let (zs, two, more) = g setup (xs ++ ys) one in
    (ys ++ zs, subst (λ (l : List Stored). Keeps c setup l) (append_assoc xs ys zs) two, of-append s ys zs of more)

pub grows-none : (s : SessionId) (a : Records) → Grows s a a
grows-none s a setup xs k = ([], subst (λ (l : List Stored). Keeps a setup l) (sym (append-nil xs)) k, tt)
