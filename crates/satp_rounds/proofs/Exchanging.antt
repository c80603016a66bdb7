-- An exchange of messages by texts is the exchange by kinds.
use Rattle.std.proofs.Common.{◌≡◌, ℕ, zero, suc, ◌<◌, ◌≤◌, Bool, true, false, List, [], ◌∷◌, ◌++◌, length, Option, Some, None, Ok, refl, sym, ap, subst, ◌∙◌, arith, if◌then◌else◌}
use Rattle.std.specs.Prelude.{slice_get}
use Rattle.std.proofs.lemmas.List.{length-map, length_push}
use Rattle.satp_base.proofs.TaleLemmas.{last-push}
use Rattle.satp_base.specs.Canonical.{part_kind}
use Rattle.satp_base.specs.Founding.{Founding}
use Rattle.satp_base.specs.Tales.{last_by, last_of, maker, other}
use Rattle.satp_base.specs.declared.message.Kind.{Kind}
use Rattle.satp_base.specs.declared.message.Role.{Role}
use Rattle.satp_base.specs.declared.message.Terms.{Terms}
use Rattle.satp_base.specs.declared.record.Rec.TheVariants.{Took}
use Rattle.satp_base.specs.declared.session.SessionId.{SessionId}
use Rattle.satp_sides.proofs.Chained.{long}
use Rattle.satp_sides.specs.Calls.{Run, last_own, last_text, run_of}
use Rattle.satp_sides.specs.Calls.Call.{Hears}
use Rattle.satp_sides.specs.Halves.{Half, after_record}
use Rattle.satp_sides.specs.Moves.{Among, said_by}
use Rattle.satp_sides.specs.Points.{Side, Text, chain_in, moved_by, recipient_at}
use Rattle.satp_world.specs.Histories.{after_moves}
use Rattle.satp_world.specs.Work.{RunGoes}
use Rattle.satp_world.specs.Worlds.{Gateway, Setting, World, maker_side, name_at, opposite, party_at}
use Rattle.satp_rounds.proofs.Growing.{Grows, Near, ahead-by, grows-record, work-grows}
use Rattle.satp_rounds.proofs.Handing.{handed, lacks, next_of_part}
use Rattle.satp_rounds.proofs.Joint.{In, across, at-other, at-role, bag-is, my-kinds, near, new-side, pairs, ran-in, side_of, twice}
use Rattle.satp_rounds.proofs.Running.{Ran}
use Rattle.satp_rounds.specs.Conversations.{Converses, Hands}
use Rattle.satp_rounds.specs.Conversations.Converses.{Ends, Goes}
use Rattle.satp_rounds.specs.Conversations.Hands.{Heard}
use Rattle.satp_rounds.specs.Funds.{Funds}
use Rattle.satp_rounds.specs.Rounds.{Pair, Passing, exchange, half_at, passing, reply_of, takes, with_half}

-- a message is taken and due work is done: the terms stay, and the tale has one more at least
pub take-grows : (role : Role) (f : Funds) (k : Kind) (h : Half) → Grows (after_record h (Took k)) (takes role f k h)
take-grows role f k h = work-grows 3 role f (after_record h (Took k))

pub take-terms : (role : Role) (f : Funds) (k : Kind) (h : Half) → (takes role f k h).view.terms ≡ h.view.terms
take-terms role f k h = (take-grows role f k h).terms ∙ (grows-record h (Took k)).terms

pub some-last : (ts : List Text) → 0 < length ts → (u : Text) × (last_text ts ≡ Some u)
some-last [] h = absurd (omega (arith, h))
some-last (t ∷ ts) h = go t ts
  where
    go : (t : Text) (ts : List Text) → (u : Text) × (slice_get (t ∷ ts) (length ts) ≡ Some u)
    go t [] = (t, refl)
    go t (u ∷ ts) = go u ts

pub quiet : (n : ℕ) (role : Role) (f : Funds) (y : Pair) → exchange n role f None y ≡ passing [] y
quiet zero role f y = refl
quiet (suc n) role f y = refl

module _ (st : Setting) (a b : Founding) (q : Gateway) (s : SessionId) (own-name : s.gateway ≡ name_at st q) (terms : Terms) (f : Funds) where
  abbrev pub Here : World → Pair → Type 0
  Here w x = In st a b q s own-name terms f w x

  -- this text, of this kind, is the last one of a side that is ahead by it
  pub record Ready (w : World) (x : Pair) (from : Role) (k : Kind) (t : Text) : Type 0 where
    pub among : Among t w.bag
    pub ahead : (half_at from x).view.tale ≡ (half_at (other from) x).view.tale ++ k ∷ []
    pub made : maker k ≡ Some from
    pub last : last_text (chain_in s (side_of w q from).records) ≡ Some t

  -- what a run of a side answers, and the kind of it
  pub data Replies (role : Role) (run : Run) (h : Half) (v : World) (y : Pair) : Type 0 where
    Quiet : run.answer ≡ Some (Ok None) → reply_of role h ≡ None → Replies role run h v y
    Speaks : (j : Kind) (u : Text) → run.answer ≡ Some (Ok (Some u)) → reply_of role h ≡ Some j → Ready v y role j u → Replies role run h v y

  -- so many texts pass, and both sides are there then
  pub record Talked (w : World) (g : Gateway) (t : Text) (many : ℕ) (y : Pair) : Type 0 where
    pub texts : List Text
    pub after : World
    pub converses : Converses st w g t texts after
    pub count : length texts ≡ many
    pub ends : In st a b q s own-name terms f after y

  -- ---- a message is taken

  module _ (w : World) (x : Pair) (k : In st a b q s own-name terms f w x) (role : Role) (kind : Kind) (t : Text) (run : Run)
      (goes : RunGoes (party_at st (maker_side q role)) (side_of w q role) w.bag run)
      (peers : (half_at (other role) x).view.tale ≡ (half_at role x).view.tale ++ kind ∷ []) (made : maker kind ≡ Some (other role))
      (ran : Ran (party_at st (maker_side q role)) s role f (side_of w q role) w.bag run last_own (takes role f kind (half_at role x))) where
    abbrev h : Half
    h = takes role f kind (half_at role x)

    abbrev y : Pair
    y = with_half role (takes role f kind (half_at role x)) x

    abbrev v : World
    v = after_moves w (maker_side q role) run.moves

    pub taken-in : In st a b q s own-name terms f (after_moves w (maker_side q role) run.moves) (with_half role (takes role f kind (half_at role x)) x)
    taken-in = ran-in st a b q s own-name terms f w x k role run last_own h goes (take-terms role f kind (half_at role x) ∙ k.under role) ran

    slot-tale : ran.slot.view.tale ≡ (takes role f kind (half_at role x)).view.tale
    slot-tale = ap (λ (z : Half). z.view.tale) ran.there.half

    own-is : last_by ran.slot.view.role ran.slot.view.tale ≡ last_by role (takes role f kind (half_at role x)).view.tale
    own-is = ap (λ r. last_by r ran.slot.view.tale) ran.there.role_is ∙ ap (last_by role) slot-tale

    longer : length (half_at (other role) x).view.tale ≤ length (takes role f kind (half_at role x)).view.tale
    longer =
        let g = (take-grows role f kind (half_at role x)).longer in
        let e = ap length peers in
        omega (arith, g, e)

    chain-there : chain_in s (side_of (after_moves w (maker_side q role) run.moves) q role).records ≡ ran.slot.texts
    chain-there = ap (λ (z : Side). chain_in s z.records) (new-side w q role (moved_by (side_of w q role) run.moves) (said_by w.bag run.moves)) ∙ ran.there.at.texts

    -- it has texts
    some-text : (u : Text) × (last_text ran.slot.texts ≡ Some u)
    some-text =
        let i = taken-in in
        let name = recipient_at (party_at st (maker_side q role)) role in
        let p = pairs st a b q s own-name terms f v y i role in
        let many = ap length (sym chain-there) ∙ ap length p.my_chain.chain ∙ long s name st.key p.my_parts in
        let kinds = sym (ap length (my-kinds st a b q s own-name terms f v y i role) ∙ length-map p.my_parts part_kind) in
        let here = ap (λ (z : Half). length z.view.tale) (at-role st a b q s own-name terms f w x k role h role) in
        let g = longer in
        let e = ap length peers in
        let push = length_push (half_at role x).view.tale kind in
        some-last ran.slot.texts (omega (arith, many, kinds, here, g, e, push))

    pub replies : Replies role run (takes role f kind (half_at role x)) (after_moves w (maker_side q role) run.moves) (with_half role (takes role f kind (half_at role x)) x)
    replies = by (last_by role h.view.tale) refl
      where
        by : (c : Bool) → last_by role (takes role f kind (half_at role x)).view.tale ≡ c → Replies role run (takes role f kind (half_at role x)) (after_moves w (maker_side q role) run.moves) (with_half role (takes role f kind (half_at role x)) x)
        by false e = Quiet (ran.answer ∙ ap (λ c. Some (Ok (if c then last_text ran.slot.texts else None))) (own-is ∙ e)) (ap (λ c. if c then last_of h.view.tale else None) e)
        by true e =
            let i = taken-in in
            let mine = at-role st a b q s own-name terms f w x k role h role in
            let peer = at-other st a b q s own-name terms f w x k role h role in
            let close = subst (λ z. Near role z.view.tale (half_at (other role) x).view.tale) mine (subst (λ z. Near role (half_at role y).view.tale z.view.tale) peer (near st a b q s own-name terms f v y i role)) in
            let (j, ahead, by_me) = ahead-by role h.view.tale (half_at (other role) x).view.tale (half_at role x).view.tale kind close peers made longer e in
            let (u, last) = some-text in
            let reply : last_own ran.slot ≡ Some u = ap (λ c. if c then last_text ran.slot.texts else None) (own-is ∙ e) ∙ last in
            Speaks j u (ran.answer ∙ ap (λ o. Some (Ok o)) reply) (ap (λ c. if c then last_of h.view.tale else None) e ∙ ap last_of ahead ∙ last-push (half_at (other role) x).view.tale j)
            (record {
              among = subst (Among u) (sym (bag-is w (maker_side q role) (moved_by (side_of w q role) run.moves) (said_by w.bag run.moves))) (ran.said u reply);
              ahead = ap (λ (z : Half). z.view.tale) mine ∙ ahead ∙ ap (λ (z : Half). z.view.tale ++ j ∷ []) (sym peer);
              made = by_me;
              last = ap last_text chain-there ∙ last;
            })

  -- ---- and so on

  abbrev Talks : ℕ → Type 0
  Talks n =
      (w : World) (x : Pair) (from : Role) (k : Kind) (t : Text) → In st a b q s own-name terms f w x → Ready w x from k t → length (exchange n from f (Some k) x).texts < n
      → Talked w (maker_side q (other from)) t (length (exchange n from f (Some k) x).texts) (exchange n from f (Some k) x).after

  -- after a text that was handed over the exchange goes on with its reply
  pub then-talks : (n : ℕ) → Talks n → (w : World) (g : Gateway) (t : Text) (role : Role) (run : Run) (h : Half) (v : World) (y : Pair) → opposite g ≡ maker_side q (other role)
      → ((reply : Option Text) → run.answer ≡ Some (Ok reply) → Hands st w g t reply v) → In st a b q s own-name terms f v y → Replies role run h v y → length (exchange n role f (reply_of role h) y).texts < n
      → Talked w g t (suc (length (exchange n role f (reply_of role h) y).texts)) (exchange n role f (reply_of role h) y).after
  then-talks n more w g t role run h v y opp hands i (Quiet e o) short =
      subst (λ z. Talked w g t (suc (length (exchange n role f z y).texts)) (exchange n role f z y).after) (sym o)
      (subst (λ (z : Passing). Talked w g t (suc (length z.texts)) z.after) (sym (quiet n role f y))
      (record { texts = t ∷ []; after = v; converses = Ends w g t v (hands None e); count = refl; ends = i }))
  then-talks n more w g t role run h v y opp hands i (Speaks j u e o ready) short =
      let rest = more v y role j u i ready (subst (λ z. length (exchange n role f z y).texts < n) o short) in
      subst (λ z. Talked w g t (suc (length (exchange n role f z y).texts)) (exchange n role f z y).after) (sym o)
      (record {
        texts = t ∷ rest.texts;
        after = rest.after;
        converses = Goes w g t u v rest.texts rest.after (hands (Some u) e) (subst (λ z. Converses st v z u rest.texts rest.after) (sym opp) rest.converses);
        count = ap suc rest.count;
        ends = rest.ends;
      })

  less : (m n : ℕ) → suc m < suc n → m < n
  less m n h = omega (arith, h)

  pub talks : (n : ℕ) → Talks n
  talks zero w x from k t i ready short = absurd (omega (arith, short))
  talks (suc n) w x from k t i ready short =
      let role = other from in
      let e : (half_at (other (other from)) x).view.tale ≡ (half_at (other from) x).view.tale ++ k ∷ [] = ap (λ r. (half_at r x).view.tale) (twice from) ∙ ready.ahead in
      let last : last_text (chain_in s (side_of w q (other (other from))).records) ≡ Some t = ap (λ r. last_text (chain_in s (side_of w q r).records)) (twice from) ∙ ready.last in
      let made : maker k ≡ Some (other (other from)) = ready.made ∙ ap Some (sym (twice from)) in
      let n' = lacks st a b q s own-name terms f w x i role t k e last in
      let m = next_of_part st a b q s own-name terms f w x i role n'.lacked in
      let h = handed st a b q s own-name terms f w x i role t k n' ready.among in
      let run = run_of (party_at st (maker_side q role)) (side_of w q role) (Hears m t None) in
      then-talks n (talks n) w (maker_side q role) t role run (takes role f k (half_at role x)) (after_moves w (maker_side q role) run.moves) (with_half role (takes role f k (half_at role x)) x) (across q role)
      (λ reply ok. Heard m None reply h.heard ok)
      (taken-in w x i role k t run h.goes e made h.ran)
      (replies w x i role k t run h.goes e made h.ran)
      (less _ n short)
