-- The moves of a run may be made in a reached world.
use Rattle.std.proofs.Common.{◌≡◌, ◌⊎◌, inl, inr, ℕ, ◌+◌, ◌≤◌, Bool, true, false, List, [], ◌∷◌, ◌++◌, length, Option, Some, None, option_map, Result, Ok, Err, refl, sym, ap, subst, ◌∙◌, if◌then◌else◌}
use Rattle.std.specs.Prelude.{is_some, slice_get}
use Rattle.std.proofs.lemmas.Bool.{leb-false}
use Rattle.satp_base.specs.Founding.{Founding}
use Rattle.satp_base.specs.Chains.{next_text}
use Rattle.satp_base.specs.Roles.{RoleRule, abort_of, both, either, is_back, is_commit, is_late, is_turned, negate, next_of, no_way, rescues}
use Rattle.satp_base.specs.Roles.RoleRule.{Free}
use Rattle.satp_base.specs.Tales.{IsTale, has, is_whole}
use Rattle.satp_base.specs.Views.{begin}
use Rattle.satp_base.specs.declared.ledger.Entry.{Entry}
use Rattle.satp_base.specs.declared.message.Kind.{Kind}
use Rattle.satp_base.specs.declared.message.Kind.TheVariants.{CommitFinal, Rollback}
use Rattle.satp_base.specs.declared.message.Part.TheVariants.{Proposal}
use Rattle.satp_base.specs.declared.message.Role.TheVariants.{Origin, Recipient}
use Rattle.satp_base.specs.declared.message.Terms.{Terms}
use Rattle.satp_base.specs.declared.record.Cause.TheVariants.{Aborted}
use Rattle.satp_base.specs.declared.record.Rec.{Rec}
use Rattle.satp_base.specs.declared.record.Rec.TheVariants.{Began, Chose, Rescue}
use Rattle.satp_base.specs.declared.record.TooLate.{TooLate as Late}
use Rattle.satp_base.specs.declared.record.Way.{Way}
use Rattle.satp_base.specs.declared.record.Way.TheVariants.{Commit, Back}
use Rattle.satp_base.specs.declared.session.SessionId.{SessionId}
use Rattle.satp_base.specs.declared.view.View.{View}
use Rattle.satp_base.proofs.Finite.{all_of-at, implies, implies-use}
use Rattle.satp_base.proofs.RecordLaws.{rescue-allowed}
use Rattle.satp_base.proofs.TaleTable.{tale-in}
use Rattle.satp_sides.specs.Calls.{Refusal, aborted, by_tests, ended, first_refusal, is_full, last_unless_whole, late_by, late_in, named, no_reply, recover_text, refusal_of, refused, rescue_in, rescued, run_of, runs, runs_noted, says, started, test}
use Rattle.satp_sides.specs.Calls.Call.{Starts, Works, Aborts, Rescues, Hears}
use Rattle.satp_sides.specs.Calls.Refusal.{Exists, Strange, Full}
use Rattle.satp_sides.specs.Due.{Due, due, due_within}
use Rattle.satp_sides.specs.DueLaws.{Rests}
use Rattle.satp_sides.specs.Halves.{OriginStands, RecipientStands, half}
use Rattle.satp_sides.specs.Logs.{IsLog, IsNote, MayCome}
use Rattle.satp_sides.specs.Logs.MayCome.{Starts as Starts_record, Accepts, Takes, Makes, Notes}
use Rattle.satp_sides.specs.Moves.{AreMoves, IsMove, LedgerFits, Sayable, said_by}
use Rattle.satp_sides.specs.Moves.Sayable.{Own_text}
use Rattle.satp_sides.specs.Moves.SideMoves.{Moves}
use Rattle.satp_sides.specs.Points.{Move, Party, Side, Slot, Stored, Text, chain_in, is_session, moved, moved_by, most_sessions, noted, records_of, slot, slot_in, stored, view_in}
use Rattle.satp_sides.specs.Points.Move.{Appends, Acts, Says}
use Rattle.satp_sides.proofs.DueLaw.{due-rests}
use Rattle.satp_sides.proofs.LogLaw.{log-all}
use Rattle.satp_sides.proofs.MoveLaw.{moves-go}
use Rattle.satp_sides.proofs.Records.{chain-here, chain-none, is-session, records-apart, session-self, view-apart, view-first, view-here}
use Rattle.satp_world.specs.Work.{OperatorsRunsMove, RunGoes}
use Rattle.satp_world.specs.Worlds.{Gateway, Reached, Setting, World, name_at, opposite, party_at, session_in, side_at}
use Rattle.satp_world.specs.Worlds.Gateway.{A, B}
use Rattle.satp_world.proofs.DueMoves.{SlotAt, note-long, note-stores, one-more, work-goes}
use Rattle.satp_world.proofs.KeptLaw.{logs-kept}
use Rattle.satp_world.proofs.Replies.{last-says, recover-says}
use Rattle.satp_world.proofs.WorkLaw.{IsSideOf, moved-on, ordered, origin-side, recipient-side, slot-parts}
use Rattle.satp_world.proofs.WorldLaw.{law_safety}

-- ---- a session that no record names

abbrev NoneNamed : SessionId → List Stored → Type 0
NoneNamed s xs = view_in s xs ≡ None → records_of s xs ≡ []

none-more : (s : SessionId) (xs : List Stored) (x : Stored) (v : View) → NoneNamed s xs → view_in x.session (xs ++ x ∷ []) ≡ Some v → NoneNamed s (xs ++ x ∷ [])
none-more s xs x v old here e = go (is_session s x.session) refl
  where
    go : (b : Bool) → is_session s x.session ≡ b → records_of s (xs ++ x ∷ []) ≡ []
    go false n = records-apart s xs x n ∙ old (sym (view-apart s xs x n) ∙ e)
    go true q = let same = is-session s x.session q in absurd (cc (sym e ∙ ap (λ z. view_in z (xs ++ x ∷ [])) same ∙ here))

none-by : (p : Party) (s : SessionId) (xs : List Stored) (x : Stored) → NoneNamed s xs → MayCome p xs x → NoneNamed s (xs ++ x ∷ [])
none-by p s xs _ old (Starts_record t terms g e c) = none-more s xs _ (begin Origin terms) old (view-first t xs _ (session-self t) e)
none-by p s xs _ old (Accepts t terms g e c) = none-more s xs _ (begin Recipient terms) old (view-first t xs _ (session-self t) e)
none-by p s xs _ old (Takes t v part e rule f) = none-more s xs _ _ old (view-here t xs _ v (session-self t) e)
none-by p s xs _ old (Makes t v part e rule f) = none-more s xs _ _ old (view-here t xs _ v (session-self t) e)
none-by p s xs _ old (Notes t v r e rule n) = none-more s xs _ _ old (view-here t xs _ v (session-self t) e)

-- in a log the first record of a session begins it
pub named-by : (p : Party) (s : SessionId) (xs : List Stored) → IsLog p xs → view_in s xs ≡ None → records_of s xs ≡ []
named-by p s xs log = log-all p (NoneNamed s) (λ e. refl) (λ ys y l old may. none-by p s ys y old may) xs log

-- ---- one side along moves

moved-all : (st : Setting) (a b : Founding) (g : Gateway) (side : Side) (bag : List Text) (ms : List Move) → IsSideOf st a b g side bag → AreMoves (party_at st g) side bag ms → IsSideOf st a b g (moved_by side ms) (said_by bag ms)
moved-all st a b g side bag [] k h = k
moved-all st a b g side bag (Appends x ∷ ms) k h = moved-all st a b g (moved side (Appends x)) bag ms (moved-on st a b g side bag (moved side (Appends x)) bag k (Moves (Appends x) h.0)) h.1
moved-all st a b g side bag (Acts s op terms ∷ ms) k h = moved-all st a b g (moved side (Acts s op terms)) bag ms (moved-on st a b g side bag (moved side (Acts s op terms)) bag k (Moves (Acts s op terms) h.0)) h.1
moved-all st a b g side bag (Says t ∷ ms) k h = moved-all st a b g side (t ∷ bag) ms (moved-on st a b g side bag side (t ∷ bag) k (Moves (Says t) h.0)) h.1

-- the invariant of the side
pub data Stands (v : View) : Type 0 where
  As_origin : v.role ≡ Origin → (e : _) → OriginStands (half v e) → Stands v
  As_recipient : v.role ≡ Recipient → (e : _) → RecipientStands (half v e) → Stands v

pub stands-in : (st : Setting) (a b : Founding) (w : World) → Reached st a b w → (g : Gateway) (s : SessionId) (v : View) → view_in s (side_at w g).records ≡ Some v → Stands v
stands-in st a b w r g s v e = by-name g ((law_safety st a b w r).named g s v e) e
  where
    by-name : (g : Gateway) → (s.gateway ≡ name_at st g) ⊎ (s.gateway ≡ name_at st (opposite g)) → view_in s (side_at w g).records ≡ Some v → Stands v
    by-name g (inl h) e = let k = origin-side v (session_in w g s).a (session_in w g s).b (session_in w g s).a_entry (session_in w g s).b_entry e ((law_safety st a b w r).stands g s h) in As_origin k.0 _ k.1
    by-name A (inr h) e = let k = recipient-side v (session_in w B s).a (session_in w B s).b (session_in w B s).a_entry (session_in w B s).b_entry e ((law_safety st a b w r).stands B s h) in As_recipient k.0 _ k.1
    by-name B (inr h) e = let k = recipient-side v (session_in w A s).a (session_in w A s).b (session_in w A s).a_entry (session_in w A s).b_entry e ((law_safety st a b w r).stands A s h) in As_recipient k.0 _ k.1

-- ---- an abort that comes in time and gives a record

abbrev abort_by : Bool → Bool → ℕ → Result (Option Rec) Late
abort_by late turned place = if late then Err (record { place = place }) else if turned then Ok None else Ok (Some (Chose (Back Aborted)))

abort-rec : (late turned : Bool) (place : ℕ) (r : Rec) → abort_by late turned place ≡ Ok (Some r) → (late ≡ false) × (turned ≡ false) × (Chose (Back Aborted) ≡ r)
abort-rec true turned place r e = absurd (cc e)
abort-rec false true place r e = absurd (cc e)
abort-rec false false place r e = (refl, refl, cc e)

neither : (x y : Bool) → either x y ≡ false → (x ≡ false) × (y ≡ false)
neither true y h = absurd (cc h)
neither false y h = (refl, h)

undecided : (w : Option Way) → is_commit w ≡ false → is_back w ≡ false → no_way w ≡ true
undecided None c b = refl
undecided (Some Commit) c b = absurd (cc c)
undecided (Some (Back cause)) c b = absurd (cc b)

-- a whole tale has a rollback or a commit-final
whole-ends : (t : List Kind) → IsTale t → is_whole t ≡ true → either (has Rollback t) (has CommitFinal t) ≡ true
whole-ends t h = implies-use _ _ (all_of-at (λ u. implies (is_whole u) (either (has Rollback u) (has CommitFinal u))) (tale-in t h) refl)

not-ready : (x y : Bool) → both x (negate y) ≡ false → y ≡ false → x ≡ false
not-ready true true h e = absurd (cc e)
not-ready true false h e = absurd (cc h)
not-ready false y h e = refl

still-open : (v : View) (e : Entry) → OriginStands (half v e) → is_commit v.way ≡ false → has Rollback v.tale ≡ false → is_whole v.tale ≡ false
still-open v e k c back = go (is_whole v.tale) refl
  where
    ends : (x y : Bool) → either x y ≡ true → x ≡ false → y ≡ true
    ends true y h n = absurd (cc n)
    ends false y h n = h

    go : (b : Bool) → is_whole v.tale ≡ b → is_whole v.tale ≡ false
    go false w = w
    go true w = let final = ends _ _ (whole-ends v.tale k.tale w) back in absurd (cc (k.burn_way (k.final final), c))

abort-rule : (v : View) → Stands v → (r : Rec) → abort_of v.role v ≡ Ok (Some r) → RoleRule v.role v (Chose (Back Aborted)) × (Chose (Back Aborted) ≡ r)
abort-rule v (As_origin role e k) r h =
    let (c, turned, same) = abort-rec (is_late Origin v) (is_turned v) 9 r (subst (λ x. abort_of x v ≡ Ok (Some r)) role h) in
    let (b, back) = neither _ _ turned in
    (subst (λ x. RoleRule x v (Chose (Back Aborted))) (sym role) (Free (undecided v.way c b, still-open v e k c back)), same)
abort-rule v (As_recipient role e k) r h =
    let (late, turned, same) = abort-rec (is_late Recipient v) (is_turned v) 8 r (subst (λ x. abort_of x v ≡ Ok (Some r)) role h) in
    let (b, back) = neither _ _ turned in
    (subst (λ x. RoleRule x v (Chose (Back Aborted))) (sym role) (Free (undecided v.way k.commits_not b, not-ready _ _ late back, back)), same)

-- ---- runs

module _ (st : Setting) (a b : Founding) (g : Gateway) where
  abbrev me : Party
  me = party_at st g

  -- a reply is a text that may be said, wherever due work has ended
  abbrev pub Replies : SessionId → List Text → ℕ → (Slot → Option Text) → Type 0
  Replies s bag most reply =
      (side : Side) (l : Slot) → IsSideOf st a b g side bag → SlotAt (party_at st g) s side l → Rests (next_of l.view.role l.view) → length l.texts ≤ most → (t : Text) → reply l ≡ Some t → Sayable (party_at st g) side.records bag t

  -- what due work and the reply come to
  record Done (s : SessionId) (side : Side) (bag : List Text) (l : Slot) (reply : Slot → Option Text) : Type 0 where
    order : (due (party_at st g) s l side.book).in_order ≡ true
    moves : AreMoves (party_at st g) side bag ((due (party_at st g) s l side.book).moves ++ says (reply (due (party_at st g) s l side.book).slot))

  says-go : (side : Side) (bag : List Text) (o : Option Text) → ((t : Text) → o ≡ Some t → Sayable (party_at st g) side.records bag t) → AreMoves (party_at st g) side bag (says o)
  says-go side bag None h = tt
  says-go side bag (Some t) h = (h t refl, tt)

  work-done : (s : SessionId) (side : Side) (bag : List Text) (l : Slot) (reply : Slot → Option Text) → IsSideOf st a b g side bag → SlotAt (party_at st g) s side l → Replies s bag (length l.texts + 1) reply → Done s side bag l reply
  unfolding due
  work-done s side bag l reply k at ok =
      let p = party_at st g in
      let d = due_within 3 p s l side.book in
      let order = ordered st a b g s 3 side bag l k at in
      let goes = work-goes 3 p s side bag l at order in
      let after = subst (IsSideOf st a b g (moved_by side d.moves)) goes.silent (moved-all st a b g side bag d.moves k goes.moves) in
      let said = says-go (moved_by side d.moves) bag (reply d.slot) (ok (moved_by side d.moves) d.slot after goes.slot (due-rests p s l side.book order) (one-more 3 p s l side.book)) in
      record {
        order = order;
        moves = (moves-go p side bag).both d.moves (says (reply d.slot)) goes.moves (subst (λ more. AreMoves p (moved_by side d.moves) more (says (reply d.slot))) (sym goes.silent) said);
      }

  run-ended : (side : Side) (bag : List Text) (c : Bool) (d : Due) (first : List Move) (reply : Option Text) → c ≡ true → AreMoves (party_at st g) side bag (first ++ (d.moves ++ says reply)) → RunGoes (party_at st g) side bag (ended c d first reply)
  run-ended side bag true d first reply e h = record { moves = h; answered = λ x. cc x }
  run-ended side bag false d first reply e h = absurd (cc e)

  pub runs-none : (s : SessionId) (side : Side) (bag : List Text) (l : Slot) (reply : Slot → Option Text) → IsSideOf st a b g side bag → SlotAt (party_at st g) s side l → Replies s bag (length l.texts + 1) reply → RunGoes (party_at st g) side bag (runs (party_at st g) side s l [] reply)
  runs-none s side bag l reply k at ok =
      let done = work-done s side bag l reply k at ok in
      run-ended side bag _ (due (party_at st g) s l side.book) [] (reply (due (party_at st g) s l side.book).slot) done.order done.moves

  pub runs-one : (s : SessionId) (side : Side) (bag : List Text) (x : Stored) (l : Slot) (reply : Slot → Option Text) → IsSideOf st a b g side bag → IsMove (party_at st g) side bag (Appends x) → SlotAt (party_at st g) s (moved side (Appends x)) l → Replies s bag (length l.texts + 1) reply
      → RunGoes (party_at st g) side bag (runs (party_at st g) side s l (Appends x ∷ []) reply)
  runs-one s side bag x l reply k move at ok =
      let next = moved-on st a b g side bag (moved side (Appends x)) bag k (Moves (Appends x) move) in
      let done = work-done s (moved side (Appends x)) bag l reply next at ok in
      run-ended side bag _ (due (party_at st g) s l side.book) (Appends x ∷ []) (reply (due (party_at st g) s l side.book).slot) done.order (move, done.moves)

  pub refused-goes : (side : Side) (bag : List Text) (r : Refusal) → RunGoes (party_at st g) side bag (refused r)
  refused-goes side bag r = record { moves = tt; answered = λ x. cc x }

  -- a first record without a message, if there is one
  pub note-goes : (s : SessionId) (side : Side) (bag : List Text) (l : Slot) (r : Rec) (reply : Slot → Option Text) → IsSideOf st a b g side bag → SlotAt (party_at st g) s side l → RoleRule l.view.role l.view r → IsNote r → LedgerFits side.book s l.view.terms r → Replies s bag (length l.texts + 1) reply
      → RunGoes (party_at st g) side bag (runs_noted (party_at st g) side s l (Some r) reply)
  note-goes s side bag l r reply k at rule n fits ok =
      let stores = note-stores (party_at st g) s side bag l r at rule n fits in
      runs-one s side bag (stored s r []) (noted l s r []) reply k stores.move stores.slot (subst (λ n. Replies s bag (n + 1) reply) (sym (note-long s l r [] n)) ok)

  -- ---- each call

  last-replies : (s : SessionId) (bag : List Text) (most : ℕ) → Replies s bag most last_unless_whole
  last-replies s bag most side l k at r few t e = last-says (party_at st g) s side bag l at r t e

  no-replies : (s : SessionId) (bag : List Text) (most : ℕ) → Replies s bag most no_reply
  no-replies s bag most side l k at r few t e = absurd (cc e)

  recover-replies : (s : SessionId) (bag : List Text) (most : ℕ) → Replies s bag most (λ after. Some (recover_text (party_at st g) s after.texts))
  recover-replies s bag most side l k at r few t e = let same : recover_text (party_at st g) s l.texts ≡ t = cc e in subst (λ x. Sayable (party_at st g) side.records bag x) same (recover-says (party_at st g) s side bag l at)

  pub rescue-goes : (s : SessionId) (side : Side) (bag : List Text) (l : Slot) (reply : Slot → Option Text) → IsSideOf st a b g side bag → SlotAt (party_at st g) s side l → Replies s bag (length l.texts + 1) reply → RunGoes (party_at st g) side bag (runs_noted (party_at st g) side s l (rescue_in l.view) reply)
  rescue-goes s side bag l reply k at ok = go (rescues l.view.role l.view) refl
    where
      go : (c : Bool) → rescues l.view.role l.view ≡ c → RunGoes (party_at st g) side bag (runs_noted (party_at st g) side s l (if c then Some Rescue else None) reply)
      go true e = note-goes s side bag l Rescue reply k at (rescue-allowed l.view.role l.view e) tt tt ok
      go false e = runs-none s side bag l reply k at ok

  abort-goes : (s : SessionId) (side : Side) (bag : List Text) (l : Slot) → IsSideOf st a b g side bag → SlotAt (party_at st g) s side l → (r : Result (Option Rec) Late) → abort_of l.view.role l.view ≡ r
      → RunGoes (party_at st g) side bag (by_tests (first_refusal (None ∷ late_by r ∷ [])) (aborted (party_at st g) side s l r))
  abort-goes s side bag l k at (Err late) e = refused-goes side bag _
  abort-goes s side bag l k at (Ok None) e = runs-none s side bag l no_reply k at (no-replies s bag _)
  abort-goes s side bag l k at (Ok (Some r)) e =
      let stands = stands-in st a b k.world k.reached g s l.view (ap (λ x. view_in s x.records) k.keeps ∙ at.named) in
      let (rule, same) = abort-rule l.view stands r e in
      subst (λ x. RunGoes (party_at st g) side bag (runs_noted (party_at st g) side s l (Some x) no_reply)) same (note-goes s side bag l (Chose (Back Aborted)) no_reply k at rule tt tt (no-replies s bag _))

  start-goes : (s : SessionId) (terms : Terms) (side : Side) (bag : List Text) → IsLog (party_at st g) side.records → s.gateway ≡ (party_at st g).name → view_in s side.records ≡ None → is_full Origin side.records ≡ false
      → RunGoes (party_at st g) side bag (started (party_at st g) s terms)
  start-goes s terms side bag log own none room =
      let p = party_at st g in
      let t = next_text s p.peer p.key [] (Proposal terms) in
      let x = stored s (Began Origin terms) t in
      let unnamed = named-by p s side.records log none in
      let view = view-first s side.records x (session-self s) unnamed in
      let chain : chain_in s (side.records ++ x ∷ []) ≡ t ∷ [] = chain-here s side.records x (session-self s) ∙ ap (λ ts. ts ++ t ∷ []) (chain-none s side.records unnamed) in
      record {
        moves = (record { may_come = Starts_record s terms own unnamed (leb-false _ _ room); arrives = tt; fits = λ v q. tt }, (Own_text s (begin Origin terms) 0 t view (ap (λ ts. slice_get ts 0) chain) refl, tt));
        answered = λ e. cc e;
      }

module _ (st : Setting) (a b : Founding) (w : World) (r : Reached st a b w) (g : Gateway) (s : SessionId) where
  abbrev my_side : Side
  my_side = side_at w g

  here : IsSideOf st a b g (side_at w g) w.bag
  here = record { world = w; reached = r; keeps = refl; holds = refl }

  pub slot-at : (l : Slot) → slot_in s (side_at w g).records ≡ Some l → SlotAt (party_at st g) s (side_at w g) l
  slot-at l e = let (named, texts) = slot-parts (view_in s (side_at w g).records) (chain_in s (side_at w g).records) l e in record { log = logs-kept st a b w r g; named = named; texts = texts }

  works : (o : Option Slot) → slot_in s (side_at w g).records ≡ o
      → RunGoes (party_at st g) (side_at w g) w.bag (by_tests (test (negate (is_some o)) (Strange s)) (named (λ l. runs (party_at st g) (side_at w g) s l [] last_unless_whole) o))
  works None e = refused-goes st a b g (side_at w g) w.bag _
  works (Some l) e = runs-none st a b g s (side_at w g) w.bag l last_unless_whole here (slot-at l e) (last-replies st a b g s w.bag _)

  aborts : (o : Option Slot) → slot_in s (side_at w g).records ≡ o
      → RunGoes (party_at st g) (side_at w g) w.bag (by_tests (first_refusal (test (negate (is_some o)) (Strange s) ∷ late_in o ∷ [])) (named (λ l. aborted (party_at st g) (side_at w g) s l (abort_of l.view.role l.view)) o))
  aborts None e = refused-goes st a b g (side_at w g) w.bag _
  aborts (Some l) e = abort-goes st a b g s (side_at w g) w.bag l here (slot-at l e) (abort_of l.view.role l.view) refl

  rescues-go : (o : Option Slot) → slot_in s (side_at w g).records ≡ o
      → RunGoes (party_at st g) (side_at w g) w.bag (by_tests (test (negate (is_some o)) (Strange s)) (named (rescued (party_at st g) (side_at w g) s) o))
  rescues-go None e = refused-goes st a b g (side_at w g) w.bag _
  rescues-go (Some l) e = rescue-goes st a b g s (side_at w g) w.bag l (λ after. Some (recover_text (party_at st g) s after.texts)) here (slot-at l e) (recover-replies st a b g s w.bag _)

  pub view-none-of : slot_in s (side_at w g).records ≡ None → view_in s (side_at w g).records ≡ None
  view-none-of e = go (view_in s (side_at w g).records) e
    where
      go : (o : Option View) → option_map (λ v. slot v (chain_in s (side_at w g).records)) o ≡ None → o ≡ None
      go None e = refl
      go (Some v) e = absurd (cc e)

  starts : (terms : Terms) → s.gateway ≡ (party_at st g).name → (o : Option Slot) → slot_in s (side_at w g).records ≡ o → (full : Bool) → is_full Origin (side_at w g).records ≡ full
      → RunGoes (party_at st g) (side_at w g) w.bag (by_tests (first_refusal (test (is_some o) Exists ∷ test full (Full most_sessions) ∷ [])) (started (party_at st g) s terms))
  starts terms own (Some l) e full f = refused-goes st a b g (side_at w g) w.bag _
  starts terms own None e true f = refused-goes st a b g (side_at w g) w.bag _
  starts terms own None e false f = start-goes st a b g s terms (side_at w g) w.bag (logs-kept st a b w r g) own (view-none-of e) f

pub operators-run : OperatorsRunsMove
unfolding run_of refusal_of
operators-run st a b w r g (Starts s terms) h own = starts st a b w r g s terms own (slot_in s (side_at w g).records) refl (is_full Origin (side_at w g).records) refl
operators-run st a b w r g (Works s) h own = works st a b w r g s (slot_in s (side_at w g).records) refl
operators-run st a b w r g (Aborts s) h own = aborts st a b w r g s (slot_in s (side_at w g).records) refl
operators-run st a b w r g (Rescues s) h own = rescues-go st a b w r g s (slot_in s (side_at w g).records) refl
operators-run st a b w r g (Hears m t e) h own = absurd h
