-- What passes is determined: one text has one reading, so that there is one answer, one conversation and one round.
use Rattle.std.proofs.Common.{◌≡◌, ℕ, List, [], ◌∷◌, ◌++◌, Option, Some, None, Result, Ok, refl, sym, ap, subst, ◌∙◌}
use Rattle.satp_base.proofs.SignatureLemmas.{own_shows}
use Rattle.satp_base.specs.declared.message.Body.{Body}
use Rattle.satp_base.specs.declared.message.Body.TheVariants as body
use Rattle.satp_base.specs.declared.message.Message.{Message}
use Rattle.satp_base.specs.declared.session.SessionId.{SessionId}
use Rattle.satp_sides.specs.Calls.{IsEntryOf, IsOwn, Refusal, run_of, success_text}
use Rattle.satp_sides.specs.Calls.Call.{Hears, Rescues}
use Rattle.satp_sides.specs.Points.{Says, Text, chain_in}
use Rattle.satp_world.specs.Histories.{Called, after_event, after_moves}
use Rattle.satp_world.specs.Worlds.{Gateway, Setting, World, opposite, party_at, side_at}
use Rattle.satp_rounds.specs.Conversations.{Converses, Hands, Round}
use Rattle.satp_rounds.specs.Conversations.Converses.{Ends, Goes}
use Rattle.satp_rounds.specs.Conversations.Hands.{Heard}

module _ (key : List ℕ) where
  own-once : (t : Text) (m n : Message) → IsOwn key t m → IsOwn key t n → m ≡ n
  own-once t m n h k = own_shows key key m n h.0 k.0 (sym h.1 ∙ k.1)

  entry-once : (b : Body) (e c : Option Message) → IsEntryOf key b e → IsEntryOf key b c → e ≡ c
  entry-once (body.Update n (t ∷ [])) (Some e) (Some c) h k = ap Some (own-once t e c h k)
  entry-once (body.Update n (t ∷ [])) (Some e) None h k = absurd (k e h)
  entry-once (body.Update n (t ∷ [])) None (Some c) h k = absurd (h c k)
  entry-once (body.Update n (t ∷ [])) None None h k = refl
  entry-once (body.Update n []) e c h k = h ∙ sym k
  entry-once (body.Update n (t ∷ u ∷ ts)) e c h k = h ∙ sym k
  entry-once (body.Chain place previous part) e c h k = h ∙ sym k
  entry-once (body.Recover n last) e c h k = h ∙ sym k
  entry-once (body.Success n last) e c h k = h ∙ sym k

pub reply-once : (x y : Option Text) → ◌≡◌ {A = Option (Result (Option Text) Refusal)} (Some (Ok x)) (Some (Ok y)) → x ≡ y
reply-once x y e = cc e

pub hands-once : (st : Setting) (w : World) (g : Gateway) (t : Text) (x y : Option Text) (v u : World) → Hands st w g t x v → Hands st w g t y u → (x ≡ y) × (v ≡ u)
hands-once st w g t _ _ _ _ (Heard m e x h a) (Heard n c y k d) =
    let same = own-once st.key t m n h.0 k.0 in
    let entry = entry-once st.key n.body e c (subst (λ (z : Message). IsEntryOf st.key z.body e) same h.1) k.1 in
    let calls : Hears m t e ≡ Hears n t c = (λ i. Hears (same i) t (entry i)) in
    (reply-once x y (sym a ∙ ap (λ z. (run_of (party_at st g) (side_at w g) z).answer) calls ∙ d), ap (λ z. after_event st w (Called g z)) calls)

pub text-once : (t u : Text) → Some t ≡ Some u → t ≡ u
text-once t u e = cc e

pub converses-once : (st : Setting) (w : World) (g : Gateway) (t : Text) (xs ys : List Text) (v u : World) → Converses st w g t xs v → Converses st w g t ys u → (xs ≡ ys) × (v ≡ u)
converses-once st _ _ _ _ _ _ _ (Ends w g t v h) (Ends _ _ _ u k) = (refl, (hands-once st w g t None None v u h k).1)
converses-once st _ _ _ _ _ _ _ (Ends w g t v h) (Goes _ _ _ y u ts z k rest) = absurd (let e = (hands-once st w g t None (Some y) v u h k).0 in cc e)
converses-once st _ _ _ _ _ _ _ (Goes w g t y v ts z h rest) (Ends _ _ _ u k) = absurd (let e = (hands-once st w g t (Some y) None v u h k).0 in cc e)
converses-once st _ _ _ _ _ _ _ (Goes w g t y v ts z h rest) (Goes _ _ _ c u us d k more) =
    let (reply, there) = hands-once st w g t (Some y) (Some c) v u h k in
    let here = subst (λ x. Converses st x (opposite g) y us d) (sym there) (subst (λ x. Converses st u (opposite g) x us d) (sym (text-once y c reply)) more) in
    let (texts, after) = converses-once st v (opposite g) y ts us z d rest here in
    (ap (λ x. t ∷ x) texts, after)

pub round-once : (st : Setting) (w : World) (g : Gateway) (s : SessionId) (xs ys : List Text) (v u : World) → Round st w g s xs v → Round st w g s ys u → (xs ≡ ys) × (v ≡ u)
round-once st w g s xs ys v u r k =
    let recover = text-once r.recover k.recover (reply-once (Some r.recover) (Some k.recover) (sym r.rescue ∙ k.rescue)) in
    let w1 = after_event st w (Called g (Rescues s)) in
    let (said, between) = converses-once st w1 (opposite g) r.recover r.said k.said r.between k.between r.converses (subst (λ x. Converses st w1 (opposite g) x k.said k.between) (sym recover) k.converses) in
    let success : r.success ≡ k.success = r.closes ∙ ap (λ x. success_text (party_at st g) s (chain_in s (side_at x g).records)) between ∙ sym k.closes in
    let hears = subst (λ x. Hands st (after_moves x g (Says r.success ∷ [])) (opposite g) r.success None u) (sym between) (subst (λ x. Hands st (after_moves k.between g (Says x ∷ [])) (opposite g) x None u) (sym success) k.hears) in
    let after = (hands-once st (after_moves r.between g (Says r.success ∷ [])) (opposite g) r.success None None v u r.hears hears).1 in
    (r.all ∙ (λ i. said i ++ success i ∷ []) ∙ sym k.all, after)
