-- Two gateways with records and ledgers, a bag of texts between them that only grows, and the moves of each.
use Rattle.std.specs.Prelude.{◌≡◌, ◌≢◌, ◌⊎◌, ℕ, ◌+◌, Bool, true, false, List, [], ◌∷◌, ◌++◌, length, slice_get, Some, IsTrue}
use Rattle.std.specs.List.{list_any}
use Rattle.std.specs.FinMap as map_of
use Rattle.satp_base.specs.Founding.{Founding}
use Rattle.satp_base.specs.LedgerRule.{entry_of}
use Rattle.satp_base.specs.Forms.{IsMessage}
use Rattle.satp_base.specs.Signatures.{own}
use Rattle.satp_base.specs.Chains.{message_at, role_at}
use Rattle.satp_base.specs.Tales.{is_whole, kind_eq}
use Rattle.satp_base.specs.Roles.{either}
use Rattle.satp_base.specs.declared.name.Name.{Name}
use Rattle.satp_base.specs.declared.session.SessionId.{SessionId}
use Rattle.satp_base.specs.declared.message.Role.{Role}
use Rattle.satp_base.specs.declared.message.Role.TheVariants.{Origin, Recipient}
use Rattle.satp_base.specs.declared.message.Kind.TheVariants.{CommitReady}
use Rattle.satp_base.specs.declared.message.Link.{Link}
use Rattle.satp_base.specs.declared.message.Part.{Part}
use Rattle.satp_base.specs.declared.ledger.LedgerEntry.{LedgerEntry}
use Rattle.satp_base.specs.declared.record.Way.TheVariants.{Commit, Back}
use Rattle.satp_base.specs.declared.record.Rec.{Rec}
use Rattle.satp_base.specs.declared.record.Rec.TheVariants.{Made, Chose}
use Rattle.satp_base.specs.declared.view.View.{View}
use Rattle.satp_sides.specs.LogLaws.{IsChainOf}
use Rattle.satp_sides.specs.Moves.{Delivered, SideMoves}
use Rattle.satp_sides.specs.Points.{Party, Side, Stored, Text, chain_in, recipient_at, records_of, tale_of, view_in}
use Rattle.satp_world.specs.Deal.{Deal, Decision}
use Rattle.satp_world.specs.Sessions.{GoesOn, IsSafe, IsSettled, IsWhole, Session, SessionStands, deal_of}

-- ---- what stands

pub data Gateway : Type 0 where
  A : Gateway
  B : Gateway

abbrev pub opposite : Gateway → Gateway
opposite A = B
opposite B = A

-- the names of the two gateways, which differ, and the key that both hold
pub record Setting : Type 0 where
  pub a : Name
  pub b : Name
  pub key : List ℕ
  pub differ : a ≢ b

abbrev pub name_at : Setting → Gateway → Name
name_at st A = st.a
name_at st B = st.b

-- the setting, as one of them sees it
abbrev pub party_at : Setting → Gateway → Party
party_at st g = record { name = name_at st g; peer = name_at st (opposite g); key = st.key }

pub record World : Type 0 where
  pub a : Side
  pub b : Side
  pub bag : List Text

abbrev pub side_at : World → Gateway → Side
side_at w A = w.a
side_at w B = w.b

-- the world with another side and bag
abbrev pub with_side : World → Gateway → Side → List Text → World
with_side w A side bag = record { a = side; b = w.b; bag = bag }
with_side w B side bag = record { a = w.a; b = side; bag = bag }

-- both ledgers as they were founded, no session, and an empty bag
abbrev pub start : Founding → Founding → World
start a b = record {
  a = record { records = []; book = record { genesis = a; entries = map_of.empty } };
  b = record { records = []; book = record { genesis = b; entries = map_of.empty } };
  bag = [];
}

-- ---- moves

-- one of the gateways moves or stops
pub data WorldMoves (st : Setting) (w : World) : World → Type 0 where
  By : (g : Gateway) (side : Side) (bag : List Text) → SideMoves (party_at st g) (side_at w g) w.bag side bag → WorldMoves st w (with_side w g side bag)

-- every world that moves of both sides lead to, from ledgers that were founded so
pub data Reached (st : Setting) (a b : Founding) : World → Type 0 where
  Begins : Reached st a b (start a b)
  Goes : (w v : World) → Reached st a b w → WorldMoves st w v → Reached st a b v

-- ---- the law

-- what stands of a session of this gateway's name
abbrev pub session_in : World → Gateway → SessionId → Session
session_in w g s = record {
  a = view_in s (side_at w g).records;
  b = view_in s (side_at w (opposite g)).records;
  a_entry = entry_of (side_at w g).book.entries s;
  b_entry = entry_of (side_at w (opposite g)).book.entries s;
}

-- one of the records passes the test
abbrev pub holds : (Rec → Bool) → List Stored → Bool
holds test xs = list_any (λ x. test x.rec) xs

abbrev pub chose_commit : Rec → Bool
chose_commit (Chose Commit) = true
chose_commit _ = false

abbrev pub chose_back : Rec → Bool
chose_back (Chose (Back cause)) = true
chose_back _ = false

abbrev pub made_ready : Rec → Bool
made_ready (Made kind) = kind_eq CommitReady kind
made_ready _ = false

-- where the deal of a session of this gateway's name is, as both ledgers and the records themselves say
abbrev pub as_deal : World → Gateway → SessionId → Deal
as_deal w g s = record {
  a = entry_of (side_at w g).book.entries s;
  b = entry_of (side_at w (opposite g)).book.entries s;
  v = elim (holds chose_commit (records_of s (side_at w g).records)) [
    | true ↦ Decision.Commit
    | false ↦ elim (either (holds chose_back (records_of s (side_at w g).records)) (holds chose_back (records_of s (side_at w (opposite g)).records))) [ true ↦ Decision.Back | false ↦ Decision.Open ]
  ];
  ready = holds made_ready (records_of s (side_at w (opposite g)).records);
}

-- the deal of the session is as before, or one step of a side further
abbrev pub DealGoesOn : Session → Session → Type 0
DealGoesOn s new = (deal_of new ≡ deal_of s) ⊎ ((role : Role) × GoesOn role (deal_of s) (deal_of new))

-- ---- what stands of texts

-- the gateway that makes the messages of a role, in a session of this gateway's name
abbrev pub maker_side : Gateway → Role → Gateway
maker_side g Origin = g
maker_side g Recipient = opposite g

-- One chain is a prefix of the other, and the lengths differ by at most one, the longer one ending with its owner's text.
pub data TiedTexts (a b : List Text) : Type 0 where
  Same : a ≡ b → TiedTexts a b
  Origin_ahead : (t : Text) → role_at (length a) ≡ Origin → a ≡ b ++ t ∷ [] → TiedTexts a b
  Recipient_ahead : (t : Text) → role_at (length b) ≡ Recipient → b ≡ a ++ t ∷ [] → TiedTexts a b

-- a delivered text of a chain stands in the chain of the side that makes it
abbrev pub BagStands : Setting → World → List Text → Type 0
BagStands st w bag =
    (t : Text) → Delivered st.key bag t → (g : Gateway) (s : SessionId) → s.gateway ≡ name_at st g → (n : ℕ) (previous : Link) (part : Part)
    → IsMessage (message_at s (name_at st (opposite g)) (n + 1) previous part) → t ≡ own st.key (message_at s (name_at st (opposite g)) (n + 1) previous part)
    → slice_get (chain_in s (side_at w (maker_side g (role_at (n + 1)))).records) n ≡ Some t

-- an entry of a ledger is of a session that the side's records name, under the terms of their proposal
abbrev pub EntriesStand : Side → Type 0
EntriesStand side = (s : SessionId) (k : LedgerEntry) → map_of.get side.book.entries s ≡ Some k → (v : View) × (view_in s side.records ≡ Some v) × (k.terms ≡ v.terms)

-- both chains of the session are the same whole list of texts, and the entries are those of its end
abbrev pub IsSettledAt : World → Gateway → SessionId → Type 0
IsSettledAt w g s =
    (chain_in s (side_at w g).records ≡ chain_in s (side_at w (opposite g)).records)
    × IsWhole (session_in w g s) × IsSettled (session_in w g s)

-- What holds of every world that is reached, and of whatever moves next.
pub record IsSafeWorld (st : Setting) (w : World) : Type 0 where
  -- records name sessions of either gateway alone
  pub named : (g : Gateway) (s : SessionId) (v : View) → view_in s (side_at w g).records ≡ Some v → (s.gateway ≡ name_at st g) ⊎ (s.gateway ≡ name_at st (opposite g))
  -- the joint invariant of each session, the terms of both sides among it
  pub stands : (g : Gateway) (s : SessionId) → s.gateway ≡ name_at st g → SessionStands (session_in w g s)
  -- one chain is a prefix of the other
  pub tied : (g : Gateway) (s : SessionId) → s.gateway ≡ name_at st g → TiedTexts (chain_in s (side_at w g).records) (chain_in s (side_at w (opposite g)).records)
  -- each side's texts are those of its tale, behind a proposal with its terms
  pub chains : (g : Gateway) (s : SessionId) (v : View) → view_in s (side_at w g).records ≡ Some v → IsChainOf s (recipient_at (party_at st g) v.role) st.key v (chain_in s (side_at w g).records)
  -- every text of a chain that was delivered stands in its sender's chain
  pub bag : BagStands st w w.bag
  -- the terms of the entries are those of the proposal
  pub entries : (g : Gateway) → EntriesStand (side_at w g)
  -- the asset is never free on both ledgers, a burnt entry has its mint recorded, and each decision has its grounds
  pub safe : (g : Gateway) (s : SessionId) → s.gateway ≡ name_at st g → IsSafe (session_in w g s)
  -- a session whose two chains are equal and whole is settled
  pub settled : (g : Gateway) (s : SessionId) → s.gateway ≡ name_at st g → chain_in s (side_at w g).records ≡ chain_in s (side_at w (opposite g)).records → IsTrue (is_whole (tale_of (session_in w g s).a)) → IsSettledAt w g s
  -- the deal that the views say is the one that the records say
  pub read_off : (g : Gateway) (s : SessionId) → s.gateway ≡ name_at st g → as_deal w g s ≡ deal_of (session_in w g s)
  -- a move is a step of the deal machine, or leaves the deal as it is
  pub goes_on : (g : Gateway) (s : SessionId) → s.gateway ≡ name_at st g → (v : World) → WorldMoves st w v → DealGoesOn (session_in w g s) (session_in v g s)

abbrev pub LawSafety : Type 0
LawSafety = (st : Setting) (a b : Founding) (w : World) → Reached st a b w → IsSafeWorld st w
