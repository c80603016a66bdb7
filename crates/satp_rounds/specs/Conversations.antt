-- What two gateways say to each other over texts: each text is handed to the other gateway, and so is each reply.
use Rattle.std.specs.Prelude.{◌≡◌, ◌≤◌, Bool, false, List, [], ◌∷◌, ◌++◌, length, IsTrue, Option, Some, None, Ok}
use Rattle.satp_base.specs.Founding.{Founding}
use Rattle.satp_base.specs.LedgerRule.{operation}
use Rattle.satp_base.specs.Money.{Book}
use Rattle.satp_base.specs.Roles.{both, either, is_back, is_commit, negate}
use Rattle.satp_base.specs.Tales.{has, is_committed, is_whole, last_is}
use Rattle.satp_base.specs.declared.ledger.LedgerOp.TheVariants.{Mint}
use Rattle.satp_base.specs.declared.message.Kind.TheVariants.{CommitPrepare, CommitReady}
use Rattle.satp_base.specs.declared.message.Message.{Message}
use Rattle.satp_base.specs.declared.session.SessionId.{SessionId}
use Rattle.satp_base.specs.declared.view.View.{View}
use Rattle.satp_sides.specs.Calls.{IsHeard, run_of, success_text}
use Rattle.satp_sides.specs.Calls.Call.{Hears, Rescues}
use Rattle.satp_sides.specs.Points.{Says, Text, chain_in, tale_of, view_in}
use Rattle.satp_world.specs.Histories.{Called, after_event, after_moves}
use Rattle.satp_world.specs.Kept.{Names}
use Rattle.satp_world.specs.Sessions.{way_of}
use Rattle.satp_world.specs.Worlds.{Gateway, IsSettledAt, Reached, Setting, World, name_at, opposite, party_at, session_in, side_at}
use Rattle.satp_rounds.specs.Rounds.{is_done}

-- ---- what passes

-- The text is handed to the gateway, which takes it for what it is: it answers with this reply, and the world is this one then.
pub data Hands (st : Setting) (w : World) (g : Gateway) (t : Text) : Option Text → World → Type 0 where
  Heard : (m : Message) (e : Option Message) (reply : Option Text) → IsHeard st.key (Hears m t e) → (run_of (party_at st g) (side_at w g) (Hears m t e)).answer ≡ Some (Ok reply)
      → Hands st w g t reply (after_event st w (Called g (Hears m t e)))

-- The text is handed to the gateway, and each reply to the other one, until none comes: these texts pass, and the world is this one then.
pub data Converses (st : Setting) : World → Gateway → Text → List Text → World → Type 0 where
  Ends : (w : World) (g : Gateway) (t : Text) (v : World) → Hands st w g t None v → Converses st w g t (t ∷ []) v
  Goes : (w : World) (g : Gateway) (t : Text) (u : Text) (v : World) (texts : List Text) (after : World)
      → Hands st w g t (Some u) v → Converses st v (opposite g) u texts after → Converses st w g t (t ∷ texts) after

-- ---- a round

-- The round that the gateway starts: its operator asks it to rescue the session, what it says is handed over and so is each reply, and then it says that the
-- round was a success, which the other gateway hears. These texts pass, and the world is this one then.
pub record Round (st : Setting) (w : World) (g : Gateway) (s : SessionId) (texts : List Text) (after : World) : Type 0 where
  pub recover : Text
  pub rescue : (run_of (party_at st g) (side_at w g) (Rescues s)).answer ≡ Some (Ok (Some recover))
  pub said : List Text
  pub between : World
  pub converses : Converses st (after_event st w (Called g (Rescues s))) (opposite g) recover said between
  pub success : Text
  pub closes : success ≡ success_text (party_at st g) s (chain_in s (side_at between g).records)
  pub hears : Hands st (after_moves between g (Says success ∷ [])) (opposite g) success None after
  pub all : texts ≡ said ++ success ∷ []

-- ---- its outcome

-- the ledger now answers Done to the mint of the session, under the terms of these records
abbrev pub mints_now : Book → SessionId → Option View → Bool
mints_now b s None = false
mints_now b s (Some v) = is_done (operation b Mint s v.terms).answer

-- The outcome is a commit exactly where the origin hasn't chosen the way back and one of these holds: it has chosen to commit; commit-ready is in either
-- chain; commit-prepare is the last message of either chain, the recipient hasn't chosen the way back, and its ledger now answers Done to the mint.
abbrev pub commits_now : World → Gateway → SessionId → Bool
commits_now w g s =
    let x = session_in w g s in
    both (negate (is_back (way_of x.a)))
    (either (is_commit (way_of x.a))
    (either (either (has CommitReady (tale_of x.a)) (has CommitReady (tale_of x.b)))
    (both (either (last_is CommitPrepare (tale_of x.a)) (last_is CommitPrepare (tale_of x.b)))
    (both (negate (is_back (way_of x.b))) (mints_now (side_at w (opposite g)).book s x.a)))))

-- ---- the law

-- A round has at most eight texts. It leads to a reached world in which the session is settled, with equal logs: committed where the outcome says so, and
-- else rolled back.
pub record IsSettledBy (st : Setting) (a b : Founding) (w : World) (q : Gateway) (s : SessionId) (texts : List Text) (after : World) : Type 0 where
  pub short : length texts ≤ 8
  pub reached : Reached st a b after
  pub settled : IsSettledAt after q s
  pub outcome : is_committed (tale_of (session_in after q s).a) ≡ commits_now w q s

-- there is one such round, and no other, and it is of that kind
pub record RoundSettles (st : Setting) (a b : Founding) (w : World) (q : Gateway) (s : SessionId) (g : Gateway) : Type 0 where
  pub texts : List Text
  pub after : World
  pub round : Round st w g s texts after
  pub only : (ts : List Text) (v : World) → Round st w g s ts v → (ts ≡ texts) × (v ≡ after)
  -- the starter's chain is whole when it says success
  pub succeeds : Reached st a b round.between × IsTrue (is_whole (tale_of (view_in s (side_at round.between g).records)))
  pub settled : IsSettledBy st a b w q s texts after

-- In every reached world, of each session that its origin's records name, whoever starts, as long as the starter's records name it too.
abbrev pub RoundsSettleWorlds : Type 0
RoundsSettleWorlds =
    (st : Setting) (a b : Founding) (w : World) → Reached st a b w → (q : Gateway) (s : SessionId) → s.gateway ≡ name_at st q → Names w q s
    → (g : Gateway) → Names w g s → RoundSettles st a b w q s g
