-- A text that stands in the chain already, handed over again; and an exchange of texts by their places.
use Rattle.std.proofs.Common.{◌≡◌, ◌⊎◌, inl, inr, ℕ, zero, suc, ◌+◌, ◌-◌, ◌==◌, Bool, true, false, not, List, [], ◌∷◌, length, Option, Some, None, Ok, refl, sym, ap, subst, ◌∙◌, arith, if◌then◌else◌}
use Rattle.std.specs.Prelude.{nat_le, nat_lt, slice_get}
use Rattle.std.specs.Str.{bytes_eq}
use Rattle.std.proofs.lemmas.Bool.{le-leb, le-ltb}
use Rattle.std.proofs.lemmas.Cmp.{nat_list_eq_equiv}
use Rattle.satp_base.proofs.Finite.{all_of-at, andthen-left, andthen-right, implies, implies-use}
use Rattle.satp_base.proofs.TaleTable.{tale-in}
use Rattle.satp_base.specs.Canonical.{part_kind}
use Rattle.satp_base.specs.Chains.{last_link, link_at, message_at, role_at, texts_of}
use Rattle.satp_base.specs.Founding.{Founding}
use Rattle.satp_base.specs.Roles.{both, negate}
use Rattle.satp_base.specs.Tales.{IsTale, is_role, is_whole, kind_at, last_by, last_of, other}
use Rattle.satp_base.specs.Values.{name_text}
use Rattle.satp_base.specs.Verdicts.{extends, is_settled, maker_at, same_link, same_name, text_at, verdict_on}
use Rattle.satp_base.specs.declared.message.Kind.{Kind}
use Rattle.satp_base.specs.declared.message.Link.{Link}
use Rattle.satp_base.specs.declared.message.Part.{Part}
use Rattle.satp_base.specs.declared.message.Role.{Role}
use Rattle.satp_base.specs.declared.message.Role.TheVariants.{Origin, Recipient}
use Rattle.satp_base.specs.declared.message.Terms.{Terms}
use Rattle.satp_base.specs.declared.name.Name.{Name}
use Rattle.satp_base.specs.declared.session.SessionId.{SessionId}
use Rattle.satp_base.specs.declared.verdict.Verdict.TheVariants as verdict
use Rattle.satp_sides.proofs.Records.{get-bound}
use Rattle.satp_sides.specs.Calls.{Run, again_reply as again_text, last_of_own as last_of_own_text, last_text, text_of}
use Rattle.satp_sides.specs.Halves.{Half}
use Rattle.satp_sides.specs.Moves.{Among, said_by}
use Rattle.satp_sides.specs.Points.{Side, Slot, Text, chain_in, moved_by}
use Rattle.satp_world.proofs.HonestLaw.{state}
use Rattle.satp_world.proofs.Replies.{role-next}
use Rattle.satp_world.proofs.RestCheck.{origin_places, recipient_places}
use Rattle.satp_world.proofs.RestTable.{placed_last}
use Rattle.satp_world.specs.Histories.{after_moves}
use Rattle.satp_world.specs.Work.{RunGoes}
use Rattle.satp_world.specs.Worlds.{Gateway, Setting, World, maker_side, name_at, party_at}
use Rattle.satp_world.specs.Worlds.Gateway.{A, B}
use Rattle.satp_rounds.proofs.Growing.{work-grows}
use Rattle.satp_rounds.proofs.Joint.{In, at-role, bag-is, my-kinds, my-tales, new-side, ran-in, side_of, twice}
use Rattle.satp_rounds.proofs.Running.{Ran}
use Rattle.satp_rounds.proofs.Tying.{as-long}
use Rattle.satp_rounds.specs.Funds.{Funds, worked}
use Rattle.satp_rounds.specs.Rounds.{Pair, half_at, with_half}
use Rattle.satp_rounds.specs.Transfers.{Placed, again_reply, last_of_own, last_placed, placed}

-- ---- places

role-same : (role r : Role) → is_role role (Some r) ≡ true → r ≡ role
role-same Origin Origin h = refl
role-same Origin Recipient h = absurd (cc h)
role-same Recipient Origin h = absurd (cc h)
role-same Recipient Recipient h = refl

places : (role : Role) (t : List Kind) → IsTale t → placed_last role t ≡ true
places Origin t h = all_of-at (placed_last Origin) (tale-in t h) origin_places
places Recipient t h = all_of-at (placed_last Recipient) (tale-in t h) recipient_places

pub last-place : (role : Role) (t : List Kind) → IsTale t → last_by role t ≡ true → role_at (length t) ≡ role
last-place role t h e = role-same role _ (implies-use _ _ (andthen-left _ (λ _. implies (both (is_whole t) (negate (last_by role t))) (is_role role (Some (role_at (length t - 1))))) (places role t h)) e)

both-true : (a b : Bool) → a ≡ true → b ≡ true → both a b ≡ true
both-true true b h k = k
both-true false b h k = h

before-last : (role : Role) (t : List Kind) → IsTale t → is_whole t ≡ true → last_by role t ≡ false → role_at (length t - 1) ≡ role
before-last role t h w e =
    role-same role _ (implies-use _ _ (andthen-right (implies (last_by role t) (is_role role (Some (role_at (length t))))) (λ _. implies (both (is_whole t) (negate (last_by role t))) (is_role role (Some (role_at (length t - 1))))) (places role t h)) (both-true _ _ w (ap negate e)))

pub last-at : (t : List Kind) → last_of t ≡ kind_at t (length t)
last-at [] = refl
last-at (k ∷ t) = go k t
  where
    go : (k : Kind) (t : List Kind) → last_of (k ∷ t) ≡ slice_get (k ∷ t) (length t)
    go k [] = refl
    go k (j ∷ t) = go j t

get-both : (ts : List Text) (ks : List Kind) (i : ℕ) → length ts ≡ length ks → ((slice_get ts i ≡ None) × (slice_get ks i ≡ None)) ⊎ ((u : Text) × (j : Kind) × (slice_get ts i ≡ Some u) × (slice_get ks i ≡ Some j))
get-both [] [] i e = inl (refl, refl)
get-both [] (k ∷ ks) i e = absurd (omega (arith, e))
get-both (t ∷ ts) [] i e = absurd (omega (arith, e))
get-both (t ∷ ts) (k ∷ ks) zero e = inr (t, k, refl, refl)
get-both (t ∷ ts) (k ∷ ks) (suc i) e = get-both ts ks i (omega (arith, e))

-- a text stands at a place where a kind does
pub text-and-kind : (ts : List Text) (ks : List Kind) (n : ℕ) → length ts ≡ length ks → ((text_of ts n ≡ None) × (kind_at ks n ≡ None)) ⊎ ((u : Text) × (j : Kind) × (text_of ts n ≡ Some u) × (kind_at ks n ≡ Some j))
text-and-kind ts ks zero e = inl (refl, refl)
text-and-kind ts ks (suc i) e = get-both ts ks i e

-- ---- verdicts

again-by : (wrong far held settled same differs goes : Bool) (place many : ℕ) (kept last : Link) → wrong ≡ false → far ≡ false → held ≡ true → same ≡ true
    → (if wrong then verdict.WrongSender else if far then verdict.Gap many else if held then (if settled then verdict.Again place else if same then verdict.Again place else verdict.Other place kept)
    else (if differs then verdict.WrongPrevious last else if goes then verdict.Next else verdict.OffTale place)) ≡ verdict.Again place
again-by false false true true same differs goes place many kept last a b c d = refl
again-by false false true false true differs goes place many kept last a b c d = refl
again-by false false true false false differs goes place many kept last a b c d = absurd (cc d)
again-by false false false settled same differs goes place many kept last a b c d = absurd (cc c)
again-by false true held settled same differs goes place many kept last a b c d = absurd (cc b)
again-by true far held settled same differs goes place many kept last a b c d = absurd (cc a)

module _ (s : SessionId) (recipient : Name) (key : List ℕ) where
  pub place-again : (mine : List Part) (i : ℕ) (previous : Link) (q : Part) (t : Text) → slice_get (texts_of s recipient key mine) i ≡ Some t → verdict_on (state s recipient key mine) (message_at s recipient (suc i) previous q) t ≡ verdict.Again (suc i)
  place-again mine i previous q t e =
      let c = state s recipient key mine in
      let bound = get-bound (texts_of s recipient key mine) i t e in
      let here : text_at (texts_of s recipient key mine) (suc i) ≡ t = rw e refl in
      again-by (not (same_name (maker_at c (suc i)) (maker_at c (suc i)))) (nat_lt (length c.texts + 1) (suc i)) (nat_le (suc i) (length c.texts)) (is_settled c (suc i)) (bytes_eq t (text_at c.texts (suc i)))
      (not (same_link previous (last_link c.texts))) (extends c.tale (part_kind q)) (suc i) (length c.texts) (link_at c.texts (suc i)) (last_link c.texts)
      (ap not (nat_list_eq_equiv.refl (name_text (maker_at c (suc i))))) (le-ltb _ _ (omega (arith, bound))) (le-leb _ _ (omega (arith, bound)))
      (subst (λ x. bytes_eq t x ≡ true) (sym here) (nat_list_eq_equiv.refl t))

pub apart : (st : Setting) (g : Gateway) → (party_at st g).name ≡ (party_at st g).peer → ⊥
apart st A e = st.differ e
apart st B e = st.differ (sym e)

module _ (st : Setting) (a b : Founding) (q : Gateway) (s : SessionId) (own-name : s.gateway ≡ name_at st q) (terms : Terms) (f : Funds) where
  -- this text of this side's own stands at this place of its chain, where its tale has this kind
  pub record StandsAtPlace (w : World) (x : Pair) (from : Role) (n : ℕ) (k : Kind) (t : Text) : Type 0 where
    pub among : Among t w.bag
    pub text : text_of (chain_in s (side_of w q from).records) n ≡ Some t
    pub kind : kind_at (half_at from x).view.tale n ≡ Some k
    pub turn : role_at n ≡ from

  -- what a run of a side answers, and the place and kind of it
  pub data PlacedReplies (role : Role) (run : Run) (c : Option Placed) (v : World) (y : Pair) : Type 0 where
    Nothing : run.answer ≡ Some (Ok None) → c ≡ None → PlacedReplies role run c v y
    Places : (n : ℕ) (j : Kind) (u : Text) → run.answer ≡ Some (Ok (Some u)) → c ≡ Some (n, j) → StandsAtPlace v y role n j u → PlacedReplies role run c v y

  -- ---- after due work alone

  module _ (w : World) (x : Pair) (k : In st a b q s own-name terms f w x) (role : Role) (run : Run) (reply : Slot → Option Text)
      (goes : RunGoes (party_at st (maker_side q role)) (side_of w q role) w.bag run)
      (ran : Ran (party_at st (maker_side q role)) s role f (side_of w q role) w.bag run reply (worked role f (half_at role x))) where
    abbrev v : World
    v = after_moves w (maker_side q role) run.moves

    abbrev y : Pair
    y = with_half role (worked role f (half_at role x)) x

    abbrev h : Half
    h = worked role f (half_at role x)

    pub worked-in : In st a b q s own-name terms f (after_moves w (maker_side q role) run.moves) (with_half role (worked role f (half_at role x)) x)
    worked-in = ran-in st a b q s own-name terms f w x k role run reply h goes ((work-grows 3 role f (half_at role x)).terms ∙ k.under role) ran

    chain-there : chain_in s (side_of (after_moves w (maker_side q role) run.moves) q role).records ≡ ran.slot.texts
    chain-there = ap (λ (z : Side). chain_in s z.records) (new-side w q role (moved_by (side_of w q role) run.moves) (said_by w.bag run.moves)) ∙ ran.there.at.texts

    tale-there : ran.slot.view.tale ≡ (worked role f (half_at role x)).view.tale
    tale-there = ap (λ (z : Half). z.view.tale) ran.there.half

    pair-there : half_at role (with_half role (worked role f (half_at role x)) x) ≡ worked role f (half_at role x)
    pair-there = at-role st a b q s own-name terms f w x k role h role

    long-there : length ran.slot.texts ≡ length (worked role f (half_at role x)).view.tale
    long-there = ap length (sym chain-there) ∙ as-long st a b q s own-name terms f v y worked-in role ∙ ap (λ (z : Half). length z.view.tale) pair-there

    tale-is : IsTale (worked role f (half_at role x)).view.tale
    tale-is = subst IsTale (sym (my-kinds st a b q s own-name terms f v y worked-in role) ∙ ap (λ (z : Half). z.view.tale) pair-there) (my-tales st a b q s own-name terms f v y worked-in role)

    -- a reply is the text at a place of the side's own, or none
    at-place : (n : ℕ) (c : Option Placed) → role_at n ≡ role → reply ran.slot ≡ text_of ran.slot.texts n → c ≡ placed n (kind_at (worked role f (half_at role x)).view.tale n) → PlacedReplies role run c (after_moves w (maker_side q role) run.moves) (with_half role (worked role f (half_at role x)) x)
    at-place n c turn says is = by (text-and-kind ran.slot.texts h.view.tale n long-there)
      where
        by : ((text_of ran.slot.texts n ≡ None) × (kind_at (worked role f (half_at role x)).view.tale n ≡ None)) ⊎ ((u : Text) × (j : Kind) × (text_of ran.slot.texts n ≡ Some u) × (kind_at (worked role f (half_at role x)).view.tale n ≡ Some j))
            → PlacedReplies role run c (after_moves w (maker_side q role) run.moves) (with_half role (worked role f (half_at role x)) x)
        by (inl none) = Nothing (ran.answer ∙ ap (λ o. Some (Ok o)) (says ∙ none.0)) (is ∙ ap (placed n) none.1)
        by (inr (u, j, t, d)) =
            Places n j u (ran.answer ∙ ap (λ o. Some (Ok o)) (says ∙ t)) (is ∙ ap (placed n) d)
            (record {
              among = subst (Among u) (sym (bag-is w (maker_side q role) (moved_by (side_of w q role) run.moves) (said_by w.bag run.moves))) (ran.said u (says ∙ t));
              text = ap (λ ts. text_of ts n) chain-there ∙ t;
              kind = ap (λ (z : Half). kind_at z.view.tale n) pair-there ∙ d;
              turn = turn;
            })

    pub nothing-said : (c : Option Placed) → reply ran.slot ≡ None → c ≡ None → PlacedReplies role run c (after_moves w (maker_side q role) run.moves) (with_half role (worked role f (half_at role x)) x)
    nothing-said c says is = Nothing (ran.answer ∙ ap (λ o. Some (Ok o)) says) is

    whole-there : is_whole ran.slot.view.tale ≡ is_whole (worked role f (half_at role x)).view.tale
    whole-there = ap is_whole tale-there

    own-there : last_by ran.slot.view.role ran.slot.view.tale ≡ last_by role (worked role f (half_at role x)).view.tale
    own-there = ap (λ r. last_by r ran.slot.view.tale) ran.there.role_is ∙ ap (last_by role) tale-there

    -- the last message
    pub last-said : last_by role (worked role f (half_at role x)).view.tale ≡ true → (c : Option Placed) → reply ran.slot ≡ last_text ran.slot.texts → c ≡ last_placed (worked role f (half_at role x)) → PlacedReplies role run c (after_moves w (maker_side q role) run.moves) (with_half role (worked role f (half_at role x)) x)
    last-said e c says is =
        at-place (length h.view.tale) c (last-place role h.view.tale tale-is e) (says ∙ ap (text_of ran.slot.texts) long-there) (is ∙ ap (placed (length h.view.tale)) (last-at h.view.tale))

    last-own-said : is_whole (worked role f (half_at role x)).view.tale ≡ true → (c : Option Placed) → reply ran.slot ≡ last_of_own_text ran.slot → c ≡ last_of_own role (worked role f (half_at role x)) → PlacedReplies role run c (after_moves w (maker_side q role) run.moves) (with_half role (worked role f (half_at role x)) x)
    last-own-said w' c says is = by (last_by role h.view.tale) refl
      where
        by : (d : Bool) → last_by role (worked role f (half_at role x)).view.tale ≡ d → PlacedReplies role run c (after_moves w (maker_side q role) run.moves) (with_half role (worked role f (half_at role x)) x)
        by true e = last-said e c (says ∙ ap (λ d. if d then last_text ran.slot.texts else text_of ran.slot.texts (length ran.slot.texts - 1)) (own-there ∙ e)) (is ∙ ap (λ d. if d then last_placed h else placed (length h.view.tale - 1) (kind_at h.view.tale (length h.view.tale - 1))) e)
        by false e =
            at-place (length h.view.tale - 1) c (before-last role h.view.tale tale-is w' e)
            (says ∙ ap (λ d. if d then last_text ran.slot.texts else text_of ran.slot.texts (length ran.slot.texts - 1)) (own-there ∙ e) ∙ ap (λ n. text_of ran.slot.texts (n - 1)) long-there)
            (is ∙ ap (λ d. if d then last_placed h else placed (length h.view.tale - 1) (kind_at h.view.tale (length h.view.tale - 1))) e)

    -- the reply to a message that stands already
    pub again-said : (n : ℕ) → role_at n ≡ other role → reply ran.slot ≡ again_text n ran.slot → PlacedReplies role run (again_reply role n (worked role f (half_at role x))) (after_moves w (maker_side q role) run.moves) (with_half role (worked role f (half_at role x)) x)
    again-said n turn says = by (is_whole h.view.tale) refl
      where
        next-turn : role_at (n + 1) ≡ role
        next-turn = role-next n ∙ ap other turn ∙ twice role

        end : (d : Bool) → (n == length (worked role f (half_at role x)).view.tale) ≡ d → is_whole (worked role f (half_at role x)).view.tale ≡ true → PlacedReplies role run (again_reply role n (worked role f (half_at role x))) (after_moves w (maker_side q role) run.moves) (with_half role (worked role f (half_at role x)) x)
        end true e w' =
            nothing-said _ (says ∙ ap (λ d. if d then (if n == length ran.slot.texts then None else last_of_own_text ran.slot) else text_of ran.slot.texts (n + 1)) (whole-there ∙ w') ∙ ap (λ m. if n == m then None else last_of_own_text ran.slot) long-there ∙ ap (λ d. if d then None else last_of_own_text ran.slot) e)
            (ap (λ d. if d then (if n == length h.view.tale then None else last_of_own role h) else placed (n + 1) (kind_at h.view.tale (n + 1))) w' ∙ ap (λ d. if d then None else last_of_own role h) e)
        end false e w' =
            last-own-said w' _ (says ∙ ap (λ d. if d then (if n == length ran.slot.texts then None else last_of_own_text ran.slot) else text_of ran.slot.texts (n + 1)) (whole-there ∙ w') ∙ ap (λ m. if n == m then None else last_of_own_text ran.slot) long-there ∙ ap (λ d. if d then None else last_of_own_text ran.slot) e)
            (ap (λ d. if d then (if n == length h.view.tale then None else last_of_own role h) else placed (n + 1) (kind_at h.view.tale (n + 1))) w' ∙ ap (λ d. if d then None else last_of_own role h) e)

        by : (d : Bool) → is_whole (worked role f (half_at role x)).view.tale ≡ d → PlacedReplies role run (again_reply role n (worked role f (half_at role x))) (after_moves w (maker_side q role) run.moves) (with_half role (worked role f (half_at role x)) x)
        by true w' = end (n == length h.view.tale) refl w'
        by false w' =
            at-place (n + 1) _ next-turn
            (says ∙ ap (λ d. if d then (if n == length ran.slot.texts then None else last_of_own_text ran.slot) else text_of ran.slot.texts (n + 1)) (whole-there ∙ w'))
            (ap (λ d. if d then (if n == length h.view.tale then None else last_of_own role h) else placed (n + 1) (kind_at h.view.tale (n + 1))) w')
