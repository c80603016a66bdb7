-- What was said, told by the records: it stands in a chain, or says what the first messages of one were.
use Rattle.std.specs.Prelude.{◌≡◌, ℕ, ◌+◌, ◌≤◌, List, [], ◌++◌, length, slice_get, take, Some}
use Rattle.satp_base.specs.Chains.{head_of, role_at}
use Rattle.satp_base.specs.Forms.{IsMessage}
use Rattle.satp_base.specs.Signatures.{own}
use Rattle.satp_base.specs.declared.message.Body.{Body}
use Rattle.satp_base.specs.declared.message.Body.TheVariants as body
use Rattle.satp_base.specs.declared.session.SessionId.{SessionId}
use Rattle.satp_base.specs.declared.view.View.{View}
use Rattle.satp_sides.specs.Moves.{AreMoves, Among, Sayable, last_texts, message_from, said_by}
use Rattle.satp_sides.specs.Logs.{IsLog}
use Rattle.satp_sides.specs.Points.{Move, Party, Side, Stored, Text, chain_in, moved_by, view_in}

-- what a recovery message says of a chain with these texts: how long it is and its last link, or its last texts
abbrev pub RecoverySays : List Text → Body → Type 0
RecoverySays texts (body.Chain place previous part) = ⊥
RecoverySays texts (body.Recover n last) = (n ≡ length texts) × (last ≡ (head_of texts).last)
RecoverySays texts (body.Update n entries) = (n ≡ length texts) × (entries ≡ last_texts (length entries) texts)
RecoverySays texts (body.Success n last) = (n ≡ length texts) × (last ≡ (head_of texts).last)

-- The text is the gateway's own and stands in its chain of a session; or it is its recovery message of the first texts of such a chain, one at least; or
-- it says that the gateway knows nothing of a session of its peer.
pub data WasSaid (p : Party) (xs : List Stored) (t : Text) : Type 0 where
  Of_chain : (s : SessionId) (v : View) (n : ℕ) → view_in s xs ≡ Some v → slice_get (chain_in s xs) n ≡ Some t → role_at (n + 1) ≡ v.role → WasSaid p xs t
  Of_recovery : (s : SessionId) (b : Body) (n : ℕ) → 1 ≤ n → n ≤ length (chain_in s xs) → IsMessage (message_from p s b)
      → RecoverySays (take n (chain_in s xs)) b → t ≡ own p.key (message_from p s b) → WasSaid p xs t
  Of_nothing : (s : SessionId) → s.gateway ≡ p.peer → IsMessage (message_from p s (body.Update 0 [])) → t ≡ own p.key (message_from p s (body.Update 0 [])) → WasSaid p xs t

-- what may be said was said from then on, and later records keep it
abbrev pub SaidIsKept : Type 0
SaidIsKept =
    (p : Party) (xs : List Stored) (t : Text)
    → ((bag : List Text) → Sayable p xs bag t → WasSaid p xs t)
    × ((ys : List Stored) → WasSaid p xs t → WasSaid p (xs ++ ys) t)

-- ---- lists of moves

-- What holds of every list of moves. The first of them are moves, which is what a stop leaves, and the others are moves after these; where more texts
-- are in the bag they are moves too; and they keep a log.
pub record MovesGo (p : Party) (side : Side) (bag : List Text) : Type 0 where
  pub first : (ms ns : List Move) → AreMoves p side bag (ms ++ ns) → AreMoves p side bag ms × AreMoves p (moved_by side ms) (said_by bag ms) ns
  pub both : (ms ns : List Move) → AreMoves p side bag ms → AreMoves p (moved_by side ms) (said_by bag ms) ns → AreMoves p side bag (ms ++ ns)
  pub later : (ms : List Move) (more : List Text) → ((t : Text) → Among t bag → Among t more) → AreMoves p side bag ms → AreMoves p side more ms
  pub logs : (ms : List Move) → IsLog p side.records → AreMoves p side bag ms → IsLog p (moved_by side ms).records
