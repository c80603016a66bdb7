-- In every reached world a round settles the session.
use Rattle.std.proofs.Common.{◌≡◌, Some, ap, subst, ◌∙◌, arith}
use Rattle.satp_base.specs.Founding.{Founding}
use Rattle.satp_base.specs.Tales.{is_committed}
use Rattle.satp_base.specs.declared.message.Role.{Role}
use Rattle.satp_base.specs.declared.session.SessionId.{SessionId}
use Rattle.satp_base.specs.declared.view.View.{View}
use Rattle.satp_sides.specs.Points.{view_in}
use Rattle.satp_world.specs.Worlds.{Gateway, Reached, Setting, World, maker_side, name_at, side_at}
use Rattle.satp_rounds.proofs.Beginning.{begins-in, commits-in, funds_in, halves_in, role-of, settles-in}
use Rattle.satp_rounds.proofs.Closing.{origin-tale, played, settled-world}
use Rattle.satp_rounds.proofs.Once.{round-once}
use Rattle.satp_rounds.specs.Conversations.{IsSettledBy, RoundSettles, RoundsSettleWorlds}
use Rattle.satp_rounds.specs.Rounds.{round}

module _ (st : Setting) (a b : Founding) (w : World) (r : Reached st a b w) (q : Gateway) (s : SessionId) (own-name : s.gateway ≡ name_at st q) (v : View) (e : view_in s (side_at w q).records ≡ Some v) where
  settled-by : (role : Role) (u : View) → view_in s (side_at w (maker_side q role)).records ≡ Some u → RoundSettles st a b w q s (maker_side q role)
  settled-by role u named =
      let f = funds_in st a b w r q s own-name v e in
      let x = halves_in st a b w r q s own-name v e in
      let settles = settles-in st a b w r q s own-name v e role u named in
      let p = played st a b q s own-name v.terms f w x (begins-in st a b w r q s own-name v e) role u named settles in
      let here : IsSettledBy st a b w q s p.texts p.after = record {
        short = (let few = settles.short in let many = p.count in omega (arith, few, many));
        reached = p.ends.reached;
        settled = settled-world st a b q s own-name v.terms f p.after (round role f x).after p.ends settles.settled.equal settles.settled.whole;
        outcome = ap is_committed (origin-tale st a b q s own-name v.terms f p.after (round role f x).after p.ends) ∙ settles.settled.tale ∙ commits-in st a b w r q s own-name v e;
      } in
      record {
        texts = p.texts;
        after = p.after;
        round = p.round_is;
        only = λ ts z k. round-once st w (maker_side q role) s ts p.texts z p.after k p.round_is;
        succeeds = p.succeeds;
        settled = here;
      }

pub rounds-settle-worlds : RoundsSettleWorlds
rounds-settle-worlds st a b w r q s own-name (v, e) g (u, named) =
    let (role, same) = role-of q g in
    subst (RoundSettles st a b w q s) same (settled-by st a b w r q s own-name v e role u (ap (λ y. view_in s (side_at w y).records) same ∙ named))
