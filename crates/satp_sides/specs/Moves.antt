-- What a gateway may do next: the texts that it may take and say, and the moves that it may make.
use Rattle.std.specs.Prelude.{◌≡◌, ℕ, ◌+◌, ◌-◌, ◌≤◌, List, [], ◌∷◌, length, drop, slice_get, Some}
use Rattle.satp_base.specs.Chains.{head_of, role_at}
use Rattle.satp_base.specs.Forms.{IsMessage}
use Rattle.satp_base.specs.LedgerRule.{LedgerRule, entry_of, operation, result_of}
use Rattle.satp_base.specs.Money.{Book}
use Rattle.satp_base.specs.Roles.{After, next_of}
use Rattle.satp_base.specs.Signatures.{own}
use Rattle.satp_base.specs.declared.session.SessionId.{SessionId}
use Rattle.satp_base.specs.declared.message.Body.{Body}
use Rattle.satp_base.specs.declared.message.Body.TheVariants as body
use Rattle.satp_base.specs.declared.message.Link.{Link}
use Rattle.satp_base.specs.declared.message.Message.{Message}
use Rattle.satp_base.specs.declared.message.Role.TheVariants.{Recipient}
use Rattle.satp_base.specs.declared.message.Terms.{Terms}
use Rattle.satp_base.specs.declared.ledger.Answer.{Answer}
use Rattle.satp_base.specs.declared.ledger.LedgerOp.{LedgerOp}
use Rattle.satp_base.specs.declared.ledger.LedgerOp.TheVariants.{Lock, Mint}
use Rattle.satp_base.specs.declared.record.Cause.TheVariants.{LockRefused, UnknownAsset, MintCapped, LedgerTaken}
use Rattle.satp_base.specs.declared.record.Next.TheVariants.{Act}
use Rattle.satp_base.specs.declared.record.Rec.{Rec}
use Rattle.satp_base.specs.declared.record.Rec.TheVariants.{Began, Took, Did, Chose}
use Rattle.satp_base.specs.declared.record.Way.TheVariants.{Back}
use Rattle.satp_base.specs.declared.view.View.{View}
use Rattle.satp_sides.specs.Logs.{MayCome}
use Rattle.satp_sides.specs.Points.{Move, Appends, Acts, Says, Party, Side, Stored, Text, chain_in, moved, records_of, view_in}

-- ---- texts that come

-- a text is among others
pub data Among (t : Text) : List Text → Type 0 where
  first : {ts : List Text} → Among t (t ∷ ts)
  later : {u : Text} {ts : List Text} → Among t ts → Among t (u ∷ ts)

-- the text is in the bag, alone or as an entry of an update there
pub data Delivered (key : List ℕ) (bag : List Text) (t : Text) : Type 0 where
  Alone : Among t bag → Delivered key bag t
  Listed : (m : Message) (n : ℕ) (entries : List Text) → IsMessage m → Among (own key m) bag → m.body ≡ body.Update n entries → Among t entries → Delivered key bag t

-- ---- texts that are said

-- a message of a gateway to its peer
abbrev pub message_from : Party → SessionId → Body → Message
message_from p s b = record { session = s; sender = p.name; receiver = p.peer; body = b }

-- the last n texts of a chain
abbrev pub last_texts : ℕ → List Text → List Text
last_texts n texts = drop (length texts - n) texts

-- What a gateway may say: a text of its own that stands in its chain, a recovery message of the present chain, or that
-- it knows nothing of a session of its peer, where a `recover` of it was sent to this gateway.
pub data Sayable (p : Party) (xs : List Stored) (bag : List Text) : Text → Type 0 where
  Own_text : (s : SessionId) (v : View) (n : ℕ) (t : Text) → view_in s xs ≡ Some v → slice_get (chain_in s xs) n ≡ Some t → role_at (n + 1) ≡ v.role → Sayable p xs bag t
  Recovers : (s : SessionId) (v : View) → view_in s xs ≡ Some v
      → IsMessage (message_from p s (body.Recover (length (chain_in s xs)) (head_of (chain_in s xs)).last))
      → Sayable p xs bag (own p.key (message_from p s (body.Recover (length (chain_in s xs)) (head_of (chain_in s xs)).last)))
  Updates : (s : SessionId) (v : View) (n : ℕ) → view_in s xs ≡ Some v → n ≤ 2
      → IsMessage (message_from p s (body.Update (length (chain_in s xs)) (last_texts n (chain_in s xs))))
      → Sayable p xs bag (own p.key (message_from p s (body.Update (length (chain_in s xs)) (last_texts n (chain_in s xs)))))
  Succeeds : (s : SessionId) (v : View) → view_in s xs ≡ Some v
      → IsMessage (message_from p s (body.Success (length (chain_in s xs)) (head_of (chain_in s xs)).last))
      → Sayable p xs bag (own p.key (message_from p s (body.Success (length (chain_in s xs)) (head_of (chain_in s xs)).last)))
  Knows_none : (m : Message) (n : ℕ) (last : Link) → m.session.gateway ≡ p.peer → records_of m.session xs ≡ []
      → IsMessage m → m.receiver ≡ p.name → m.body ≡ body.Recover n last → Among (own p.key m) bag
      → IsMessage (message_from p m.session (body.Update 0 []))
      → Sayable p xs bag (own p.key (message_from p m.session (body.Update 0 [])))

-- ---- what a record needs beside its place in the journal

-- a message of the peer has been delivered
abbrev pub ArrivesAs : List ℕ → List Text → Rec → Text → Type 0
ArrivesAs key bag (Began Recipient terms) t = Delivered key bag t
ArrivesAs key bag (Took kind) t = Delivered key bag t
ArrivesAs key bag r t = Unit {0}

abbrev pub Arrives : Party → List Text → Stored → Type 0
Arrives p bag x = ArrivesAs p.key bag x.rec x.text

-- asked now, the ledger refuses the operation so, and nothing changes
abbrev pub RefusesNow : Book → LedgerOp → SessionId → Terms → Rec → Type 0
RefusesNow b op s terms r = (answer : Answer) × LedgerRule b op s terms answer b × After op answer r

-- a Did needs that the entry is the operation's result, a decision after a refusal that the ledger now refuses so
abbrev pub LedgerFits : Book → SessionId → Terms → Rec → Type 0
LedgerFits b s terms (Did op) = entry_of b.entries s ≡ result_of op
LedgerFits b s terms (Chose (Back LockRefused)) = RefusesNow b Lock s terms (Chose (Back LockRefused))
LedgerFits b s terms (Chose (Back UnknownAsset)) = RefusesNow b Mint s terms (Chose (Back UnknownAsset))
LedgerFits b s terms (Chose (Back MintCapped)) = RefusesNow b Mint s terms (Chose (Back MintCapped))
LedgerFits b s terms (Chose (Back LedgerTaken)) = RefusesNow b Mint s terms (Chose (Back LedgerTaken))
LedgerFits b s terms r = Unit {0}

-- under the terms of its session
abbrev pub Fits : Side → Stored → Type 0
Fits side x = (v : View) → view_in x.session side.records ≡ Some v → LedgerFits side.book x.session v.terms x.rec

-- ---- moves

-- the record may be stored now
pub record IsAppend (p : Party) (side : Side) (bag : List Text) (x : Stored) : Type 0 where
  pub may_come : MayCome p side.records x
  pub arrives : Arrives p bag x
  pub fits : Fits side x

-- the operation is due under these terms, and the ledger answers it: an operation out of order is no move
pub record IsAct (side : Side) (s : SessionId) (op : LedgerOp) (terms : Terms) : Type 0 where
  pub view : View
  pub named : view_in s side.records ≡ Some view
  pub due : next_of view.role view ≡ Act op
  pub under : terms ≡ view.terms
  pub answer : Answer
  pub rule : LedgerRule side.book op s terms answer (operation side.book op s terms).after

-- The gateway may make the move. Whether it learns a ledger's answer is a matter of the record that it stores next.
abbrev pub IsMove : Party → Side → List Text → Move → Type 0
IsMove p side bag (Appends x) = IsAppend p side bag x
IsMove p side bag (Acts s op terms) = IsAct side s op terms
IsMove p side bag (Says t) = Sayable p side.records bag t

-- the bag after a move
abbrev pub said : List Text → Move → List Text
said bag (Appends x) = bag
said bag (Acts s op terms) = bag
said bag (Says t) = t ∷ bag

-- and after moves in their order
abbrev pub said_by : List Text → List Move → List Text
said_by bag [] = bag
said_by bag (m ∷ ms) = said_by (said bag m) ms

-- each of the moves may be made after those before it
abbrev pub AreMoves : Party → Side → List Text → List Move → Type 0
AreMoves p side bag [] = Unit {0}
AreMoves p side bag (m ∷ ms) = IsMove p side bag m × AreMoves p (moved side m) (said bag m) ms

-- what a gateway keeps and the bag, after a move or a stop
pub data SideMoves (p : Party) (side : Side) (bag : List Text) : Side → List Text → Type 0 where
  Moves : (m : Move) → IsMove p side bag m → SideMoves p side bag (moved side m) (said bag m)
  -- nothing that is stored changes, and what a text that was taken twice or lost would change is nothing
  Stops : SideMoves p side bag side bag
