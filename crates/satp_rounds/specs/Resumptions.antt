-- A session that is resumed, over texts: its gateway does its due work and hands over its chain's last message, unless the chain is whole.
use Rattle.std.specs.Prelude.{◌≡◌, ◌≤◌, List, [], length, IsTrue, Option, Some, None, Ok}
use Rattle.satp_base.specs.Founding.{Founding}
use Rattle.satp_base.specs.Tales.{is_whole}
use Rattle.satp_base.specs.declared.session.SessionId.{SessionId}
use Rattle.satp_sides.specs.Calls.{run_of}
use Rattle.satp_sides.specs.Calls.Call.{Works}
use Rattle.satp_sides.specs.Points.{Text, tale_of, view_in}
use Rattle.satp_world.specs.Histories.{Called, after_event}
use Rattle.satp_world.specs.Kept.{Names}
use Rattle.satp_world.specs.Worlds.{Gateway, Reached, Setting, World, name_at, opposite, party_at, side_at}
use Rattle.satp_rounds.specs.Conversations.{Converses}

-- what is posted is handed to the other gateway, and so is each reply; where nothing is posted, nothing passes
abbrev pub Posts : Setting → World → Gateway → Option Text → List Text → World → Type 0
Posts st w g None texts after = (texts ≡ []) × (after ≡ w)
Posts st w g (Some t) texts after = Converses st w (opposite g) t texts after

-- The gateway is asked to do the session's due work, and posts what it answers: these texts pass, and the world is this one then.
pub record Resumption (st : Setting) (w : World) (g : Gateway) (s : SessionId) (texts : List Text) (after : World) : Type 0 where
  pub first : Option Text
  pub work : (run_of (party_at st g) (side_at w g) (Works s)).answer ≡ Some (Ok first)
  pub posts : Posts st (after_event st w (Called g (Works s))) g first texts after

-- At most eleven texts pass, and the gateway's own chain is whole then. Of the peer's nothing is said: it may lack the last message until a round.
pub record IsResumed (st : Setting) (a b : Founding) (g : Gateway) (s : SessionId) (texts : List Text) (after : World) : Type 0 where
  pub short : length texts ≤ 11
  pub reached : Reached st a b after
  pub whole : IsTrue (is_whole (tale_of (view_in s (side_at after g).records)))

-- there is one such resumption, and no other, and it is of that kind
pub record ResumptionEnds (st : Setting) (a b : Founding) (w : World) (s : SessionId) (g : Gateway) : Type 0 where
  pub texts : List Text
  pub after : World
  pub resumption : Resumption st w g s texts after
  pub only : (ts : List Text) (v : World) → Resumption st w g s ts v → (ts ≡ texts) × (v ≡ after)
  pub resumed : IsResumed st a b g s texts after

-- In every reached world, of each session that its origin's records name, whoever resumes it, as long as its records name it too.
abbrev pub ResumptionsEnd : Type 0
ResumptionsEnd =
    (st : Setting) (a b : Founding) (w : World) → Reached st a b w → (q : Gateway) (s : SessionId) → s.gateway ≡ name_at st q → Names w q s
    → (g : Gateway) → Names w g s → ResumptionEnds st a b w s g
