-- A new session over texts: its origin proposes, and each text is handed to the other gateway.
use Rattle.std.specs.Prelude.{◌≡◌, ◌<◌, ◌≤◌, Bool, List, [], length, IsTrue, Some, Ok}
use Rattle.satp_base.specs.Founding.{Founding}
use Rattle.satp_base.specs.LedgerRule.{operation}
use Rattle.satp_base.specs.Roles.{both}
use Rattle.satp_base.specs.Tales.{is_committed}
use Rattle.satp_base.specs.declared.ledger.LedgerOp.TheVariants.{Lock, Mint}
use Rattle.satp_base.specs.declared.message.Role.TheVariants.{Origin}
use Rattle.satp_base.specs.declared.message.Terms.{Terms}
use Rattle.satp_base.specs.declared.session.SessionId.{SessionId}
use Rattle.satp_sides.specs.Calls.{run_of}
use Rattle.satp_sides.specs.Calls.Call.{Starts}
use Rattle.satp_sides.specs.Points.{Text, begun, most_sessions, records_of, tale_of}
use Rattle.satp_world.specs.Histories.{Called, after_event}
use Rattle.satp_world.specs.Worlds.{Gateway, IsSettledAt, Reached, Setting, World, name_at, opposite, party_at, session_in, side_at}
use Rattle.satp_rounds.specs.Conversations.{Converses}
use Rattle.satp_rounds.specs.Rounds.{is_done}

-- The gateway starts the session under these terms, and what it says is handed over and so is each reply: these texts pass, and the world is this one then.
pub record Transfer (st : Setting) (w : World) (g : Gateway) (s : SessionId) (terms : Terms) (texts : List Text) (after : World) : Type 0 where
  pub proposal : Text
  pub start : (run_of (party_at st g) (side_at w g) (Starts s terms)).answer ≡ Some (Ok (Some proposal))
  pub converses : Converses st (after_event st w (Called g (Starts s terms))) (opposite g) proposal texts after

-- both ledgers now answer Done: the originator's to the lock, and the beneficiary's to the mint
abbrev pub accepts_now : World → Gateway → SessionId → Terms → Bool
accepts_now w g s terms = both (is_done (operation (side_at w g).book Lock s terms).answer) (is_done (operation (side_at w (opposite g)).book Mint s terms).answer)

-- At most eleven texts pass, and just as many where both ledgers accept. The session is settled then, with equal logs: committed where both ledgers accept, and
-- else rolled back.
pub record IsTransferred (st : Setting) (a b : Founding) (w : World) (g : Gateway) (s : SessionId) (terms : Terms) (texts : List Text) (after : World) : Type 0 where
  pub short : length texts ≤ 11
  pub eleven : IsTrue (accepts_now w g s terms) → length texts ≡ 11
  pub reached : Reached st a b after
  pub settled : IsSettledAt after g s
  pub outcome : is_committed (tale_of (session_in after g s).a) ≡ accepts_now w g s terms

-- there is one such transfer, and no other, and it is of that kind
pub record TransferSettles (st : Setting) (a b : Founding) (w : World) (g : Gateway) (s : SessionId) (terms : Terms) : Type 0 where
  pub texts : List Text
  pub after : World
  pub transfer : Transfer st w g s terms texts after
  pub only : (ts : List Text) (v : World) → Transfer st w g s terms ts v → (ts ≡ texts) × (v ≡ after)
  pub settled : IsTransferred st a b w g s terms texts after

-- In every reached world, of each session of the gateway's name that none of its records names, as long as it may begin one more.
abbrev pub TransfersSettleWorlds : Type 0
TransfersSettleWorlds =
    (st : Setting) (a b : Founding) (w : World) → Reached st a b w → (g : Gateway) (s : SessionId) → s.gateway ≡ name_at st g
    → records_of s (side_at w g).records ≡ [] → begun Origin (side_at w g).records < most_sessions → (terms : Terms) → TransferSettles st a b w g s terms
