-- In every reached world whoever resumes a session has its own chain whole then.
use Rattle.std.proofs.Common.{◌≡◌, ℕ, ◌<◌, ◌≤◌, Bool, true, false, List, [], length, Option, Some, None, Ok, option_map, refl, sym, ap, subst, ◌∙◌, arith, if◌then◌else◌}
use Rattle.std.specs.Prelude.{is_some}
use Rattle.satp_base.specs.Founding.{Founding}
use Rattle.satp_base.specs.Roles.{either, negate}
use Rattle.satp_base.specs.Tales.{is_whole, last_by}
use Rattle.satp_base.specs.declared.ledger.Entry.{Entry}
use Rattle.satp_base.specs.declared.message.Role.{Role}
use Rattle.satp_base.specs.declared.message.Role.TheVariants.{Origin, Recipient}
use Rattle.satp_base.specs.declared.message.Terms.{Terms}
use Rattle.satp_base.specs.declared.session.SessionId.{SessionId}
use Rattle.satp_base.specs.declared.view.View.{View}
use Rattle.satp_sides.specs.Calls.{Run, by_tests, last_text, last_unless_whole, named, refusal_of, run_of, runs, test}
use Rattle.satp_sides.specs.Calls.Call.{Works}
use Rattle.satp_sides.specs.Calls.Refusal.{Strange}
use Rattle.satp_sides.specs.Halves.{Half, half}
use Rattle.satp_sides.specs.Points.{Slot, Text, chain_in, slot, slot_in, view_in}
use Rattle.satp_world.proofs.RunLaw.{operators-run}
use Rattle.satp_world.specs.Histories.{Called, after_event, after_moves}
use Rattle.satp_world.specs.Sessions.{StandsAt}
use Rattle.satp_world.specs.Work.{RunGoes}
use Rattle.satp_world.specs.Worlds.{Gateway, Reached, Setting, World, maker_side, name_at, opposite, party_at, side_at}
use Rattle.satp_rounds.proofs.Beginning.{begins-in, funds_in, halves_in, role-of, stands}
use Rattle.satp_rounds.proofs.Joint.{In, across, side_of, slot-half, tale-or, view_or}
use Rattle.satp_rounds.proofs.Once.{converses-once, reply-once}
use Rattle.satp_rounds.proofs.Repeating.{PlacedReplies, last-said, worked-in}
use Rattle.satp_rounds.proofs.Repeating.PlacedReplies.{Nothing, Places}
use Rattle.satp_rounds.proofs.Resuming.{talks-placed}
use Rattle.satp_rounds.proofs.Running.{Ran, ran-none}
use Rattle.satp_rounds.proofs.Transferring.{proposals-end, resumes-end}
use Rattle.satp_rounds.specs.Conversations.{Converses}
use Rattle.satp_rounds.specs.Funds.{Funds, worked}
use Rattle.satp_rounds.specs.Resumptions.{IsResumed, Posts, Resumption, ResumptionEnds, ResumptionsEnd}
use Rattle.satp_rounds.specs.Rounds.{Pair, half_at, pair, with_half}
use Rattle.satp_rounds.specs.Transfers.{Placed, Resumes, last_placed, resumed, resumed_by, talk}

-- ---- by texts as by kinds

module _ (st : Setting) (a b : Founding) (q : Gateway) (s : SessionId) (own-name : s.gateway ≡ name_at st q) (terms : Terms) (f : Funds) where
  -- what is posted passes, and both sides are there then
  record Passes (w : World) (g : Gateway) (first : Option Text) (many : ℕ) (y : Pair) : Type 0 where
    texts : List Text
    after : World
    posts : Posts st w g first texts after
    count : length texts ≡ many
    ends : In st a b q s own-name terms f after y

  pub record ResumePlayed (w : World) (x : Pair) (role : Role) : Type 0 where
    pub texts : List Text
    pub after : World
    pub resumption : Resumption st w (maker_side q role) s texts after
    pub count : length texts ≡ (resumed role f x).texts
    pub ends : In st a b q s own-name terms f after (resumed role f x).after

  nothing-passes : (w : World) (g : Gateway) (y : Pair) → In st a b q s own-name terms f w y → Passes w g None 0 y
  nothing-passes w g y i = record { texts = []; after = w; posts = (refl, refl); count = refl; ends = i }

  -- the first text, and what follows
  first-passes : (w : World) (x : Pair) (role : Role) (run : Run) (c : Option Placed) (v : World) (y : Pair) → In st a b q s own-name terms f v y → (talk 12 role f c y).texts < 12 → PlacedReplies st a b q s own-name terms f role run c v y
      → (first : Option Text) × (run.answer ≡ Some (Ok first)) × Passes v (maker_side q role) first (talk 12 role f c y).texts (talk 12 role f c y).after
  first-passes w x role run c v y i short (Nothing e o) =
      (None, e, subst (λ z. Passes v (maker_side q role) None (talk 12 role f z y).texts (talk 12 role f z y).after) (sym o) (nothing-passes v (maker_side q role) y i))
  first-passes w x role run c v y i short (Places n j u e o at) =
      let rest = talks-placed st a b q s own-name terms f 12 v y role n j u i at (subst (λ z. (talk 12 role f z y).texts < 12) o short) in
      let here : Passes v (maker_side q role) (Some u) (talk 12 role f (Some (n, j)) y).texts (talk 12 role f (Some (n, j)) y).after = record {
        texts = rest.texts;
        after = rest.after;
        posts = subst (λ z. Converses st v z u rest.texts rest.after) (sym (across q role)) rest.converses;
        count = rest.count;
        ends = rest.ends;
      } in
      (Some u, e, subst (λ z. Passes v (maker_side q role) (Some u) (talk 12 role f z y).texts (talk 12 role f z y).after) (sym o) here)

  module _ (w : World) (x : Pair) (k : In st a b q s own-name terms f w x) (role : Role) where
    works-by : (o : Option Slot) → slot_in s (side_of w q role).records ≡ o → run_of (party_at st (maker_side q role)) (side_of w q role) (Works s)
        ≡ by_tests (test (negate (is_some o)) (Strange s)) (named (λ l. runs (party_at st (maker_side q role)) (side_of w q role) s l [] last_unless_whole) o)
    unfolding run_of refusal_of
    works-by o e = ap (λ o. by_tests (test (negate (is_some o)) (Strange s)) (named (λ l. runs (party_at st (maker_side q role)) (side_of w q role) s l [] last_unless_whole) o)) e

    works-run : (l : Slot) → slot_in s (side_of w q role).records ≡ Some l → run_of (party_at st (maker_side q role)) (side_of w q role) (Works s) ≡ runs (party_at st (maker_side q role)) (side_of w q role) s l [] last_unless_whole
    works-run l e = works-by (Some l) e

    own-one : (c d : Bool) → either c d ≡ true → c ≡ false → d ≡ true
    own-one true d h e = absurd (cc e)
    own-one false d h e = h

    -- what the operator's call comes to
    worked-run : (v : View) → view_in s (side_of w q role).records ≡ Some v → Ran (party_at st (maker_side q role)) s role f (side_of w q role) w.bag (run_of (party_at st (maker_side q role)) (side_of w q role) (Works s)) last_unless_whole (worked role f (half_at role x))
    worked-run v named =
        let g = maker_side q role in
        let p = party_at st g in
        let side = side_of w q role in
        let l = slot v (chain_in s side.records) in
        let e : slot_in s side.records ≡ Some l = ap (option_map (λ u. slot u (chain_in s side.records))) named in
        let goes = operators-run st a b w k.reached g (Works s) tt tt in
        let at = slot-half st a b q s own-name terms f w x k role l e in
        subst (λ r. Ran p s role f side w.bag r last_unless_whole (worked role f (half_at role x))) (sym (works-run l e))
        (subst (λ h. Ran p s role f side w.bag (runs p side s l [] last_unless_whole) last_unless_whole (worked role f h)) at.half
        (ran-none p s role f side w.bag l last_unless_whole at.at at.role_is at.fits (subst (RunGoes p side w.bag) (works-run l e) goes)))

    module _ (v : View) (is_named : view_in s (side_of w q role).records ≡ Some v) (kinds : Resumes role f x) where
      abbrev run : Run
      run = run_of (party_at st (maker_side q role)) (side_of w q role) (Works s)

      abbrev h : Half
      h = worked role f (half_at role x)

      abbrev y : Pair
      y = with_half role (worked role f (half_at role x)) x

      abbrev u : World
      u = after_moves w (maker_side q role) (run_of (party_at st (maker_side q role)) (side_of w q role) (Works s)).moves

      goes : RunGoes (party_at st (maker_side q role)) (side_of w q role) w.bag (run_of (party_at st (maker_side q role)) (side_of w q role) (Works s))
      goes = operators-run st a b w k.reached (maker_side q role) (Works s) tt tt

      inside : In st a b q s own-name terms f (after_moves w (maker_side q role) (run_of (party_at st (maker_side q role)) (side_of w q role) (Works s)).moves) (with_half role (worked role f (half_at role x)) x)
      inside = worked-in st a b q s own-name terms f w x k role run last_unless_whole goes (worked-run v is_named)

      whole-there : is_whole (worked-run v is_named).slot.view.tale ≡ is_whole (worked role f (half_at role x)).view.tale
      whole-there = ap (λ (z : Half). is_whole z.view.tale) (worked-run v is_named).there.half

      abbrev First : Bool → Type 0
      First c = (first : Option Text) × ((run_of (party_at st (maker_side q role)) (side_of w q role) (Works s)).answer ≡ Some (Ok first)) × Passes u (maker_side q role) first (resumed_by c role f h x).texts (resumed_by c role f h x).after

      first-by : (c : Bool) → is_whole (worked role f (half_at role x)).view.tale ≡ c → (resumed_by c role f (worked role f (half_at role x)) x).texts ≤ 11 → First c
      first-by true e short =
          let ran = worked-run v is_named in
          (None, ran.answer ∙ ap (λ d. Some (Ok (if d then None else last_text ran.slot.texts))) (whole-there ∙ e), nothing-passes u (maker_side q role) y inside)
      first-by false e short =
          let ran = worked-run v is_named in
          let own = own-one (is_whole h.view.tale) (last_by role h.view.tale) kinds.own e in
          let says = last-said st a b q s own-name terms f w x k role run last_unless_whole goes ran own (last_placed h) (ap (λ d. if d then None else last_text ran.slot.texts) (whole-there ∙ e)) refl in
          first-passes w x role run (last_placed h) u y inside (omega (arith, short)) says

      pub resume-played : ResumePlayed w x role
      resume-played =
          let (first, answer, rest) = first-by (is_whole h.view.tale) refl kinds.short in
          record {
            texts = rest.texts;
            after = rest.after;
            resumption = record { first = first; work = answer; posts = rest.posts };
            count = rest.count;
            ends = rest.ends;
          }

-- ---- one resumption

posts-once : (st : Setting) (w : World) (g : Gateway) (o : Option Text) (xs ys : List Text) (v u : World) → Posts st w g o xs v → Posts st w g o ys u → (xs ≡ ys) × (v ≡ u)
posts-once st w g None xs ys v u h k = (h.0 ∙ sym k.0, h.1 ∙ sym k.1)
posts-once st w g (Some t) xs ys v u h k = converses-once st w (opposite g) t xs ys v u h k

resumption-once : (st : Setting) (w : World) (g : Gateway) (s : SessionId) (xs ys : List Text) (v u : World) → Resumption st w g s xs v → Resumption st w g s ys u → (xs ≡ ys) × (v ≡ u)
resumption-once st w g s xs ys v u r k =
    let first = reply-once r.first k.first (sym r.work ∙ k.work) in
    let w1 = after_event st w (Called g (Works s)) in
    posts-once st w1 g r.first xs ys v u r.posts (subst (λ o. Posts st w1 g o ys u) (sym first) k.posts)

-- ---- what kinds say

kinds-end : (v : View) (o w : Option View) (e f : Entry) (role : Role) (funds : Funds) → o ≡ Some v → StandsAt o w e f → (role ≡ Recipient → w ≡ None → ⊥)
    → Resumes role funds (pair (half (view_or Origin v.terms o) e) (half (view_or Recipient v.terms w) f))
kinds-end v o w e f role funds q k named = subst (λ z. Resumes role funds (pair (half (view_or Origin v.terms z) e) (half (view_or Recipient v.terms w) f))) (sym q) (by w role (subst (λ z. StandsAt z w e f) q k) named)
  where
    by : (w : Option View) (role : Role) → StandsAt (Some v) w e f → (role ≡ Recipient → w ≡ None → ⊥) → Resumes role funds (pair (half v e) (half (view_or Recipient v.terms w) f))
    by (Some u) role k named = resumes-end (half v e) (half u f) k role funds
    by None Recipient k named = absurd (named refl refl)
    by None Origin k named =
        let ends = proposals-end (half v e) v.terms k.0 k.1 funds in
        subst (λ z. Resumes Origin funds (pair (half v e) (half (view_or Recipient v.terms None) z))) (sym k.3) ends

module _ (st : Setting) (a b : Founding) (w : World) (r : Reached st a b w) (q : Gateway) (s : SessionId) (own-name : s.gateway ≡ name_at st q) (v : View) (e : view_in s (side_at w q).records ≡ Some v) where
  kinds-in : (role : Role) (u : View) → view_in s (side_of w q role).records ≡ Some u → Resumes role (funds_in st a b w r q s own-name v e) (halves_in st a b w r q s own-name v e)
  kinds-in role u named = kinds-end v _ _ _ _ role (funds_in st a b w r q s own-name v e) e (stands st a b w r q s own-name v e) (λ is none. unnamed-not role is none named)
    where
      unnamed-not : (role : Role) → role ≡ Recipient → view_in s (side_of w q Recipient).records ≡ None → view_in s (side_of w q role).records ≡ Some u → ⊥
      unnamed-not Recipient is none named = cc (none, named)
      unnamed-not Origin is none named = cc is

  ends-by : (role : Role) (u : View) → view_in s (side_at w (maker_side q role)).records ≡ Some u → ResumptionEnds st a b w s (maker_side q role)
  ends-by role u named =
      let f = funds_in st a b w r q s own-name v e in
      let x = halves_in st a b w r q s own-name v e in
      let kinds = kinds-in role u named in
      let p = resume-played st a b q s own-name v.terms f w x (begins-in st a b w r q s own-name v e) role u named kinds in
      let here : IsResumed st a b (maker_side q role) s p.texts p.after = record {
        short = (let few = kinds.short in let many = p.count in omega (arith, few, many));
        reached = p.ends.reached;
        whole = ap is_whole (sym (tale-or role v.terms (view_in s (side_of p.after q role).records)) ∙ ap (λ (z : Half). z.view.tale) (p.ends.is role)) ∙ kinds.whole;
      } in
      record {
        texts = p.texts;
        after = p.after;
        resumption = p.resumption;
        only = λ ts z k. resumption-once st w (maker_side q role) s ts p.texts z p.after k p.resumption;
        resumed = here;
      }

pub resumptions-end : ResumptionsEnd
resumptions-end st a b w r q s own-name (v, e) g (u, named) =
    let (role, same) = role-of q g in
    subst (ResumptionEnds st a b w s) same (ends-by st a b w r q s own-name v e role u (ap (λ y. view_in s (side_at w y).records) same ∙ named))
