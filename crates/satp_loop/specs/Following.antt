-- How a wire goes on whose peer answers what is said: call by call, the whole state that each call leaves.
use Rattle.std.specs.Prelude.{◌≡◌, ◌≢◌, ◌≤◌, ◌⊎◌, ℕ, Bool, true, false, List, [], ◌∷◌, length, Option, Some, None, Result, Ok, Err, IfErr}
use Rattle.satp_base.specs.declared.address.Address.{Address}
use Rattle.satp_base.specs.declared.wire.Dial.{Dial}
use Rattle.satp_base.specs.declared.wire.Dial.TheVariants.{Listen, Accept, Connect}
use Rattle.satp_serve.specs.Feeding.{FeedAnswers, talk, unheard}
use Rattle.satp_serve.specs.declared.responder.Halt.{Halt}
use Rattle.satp_serve.specs.declared.responder.Replied.{Replied}
use Rattle.satp_serve.specs.declared.turn.ServeFault.{ServeFault}
use Rattle.satp_serve.specs.declared.turn.ServeFault.TheVariants as serve
use Rattle.satp_serve.specs.declared.turn.Turn.{Turn}
use Rattle.satp_loop.specs.Lines.{Lining, audible, hearing, listening, opening, refused, saying, shutting, wanting}
use Rattle.satp_loop.specs.declared.answering.Answering.{Answering}
use Rattle.satp_loop.specs.declared.peer.Peer.{Peer}

-- ---- a moment

-- the bytes and counts of the wire, how the peer serves its connection, and the peer with its site
pub record Point (S : Type 0) : Type 0 where
  pub line : Lining
  pub answering : Option Answering
  pub peer : Peer
  pub site : S

abbrev pub point : {S : Type 0} → Lining → Option Answering → Peer → S → Point S
point line answering peer site = record { line = line; answering = answering; peer = peer; site = site }

-- a connection on which the peer heard nothing
abbrev pub fresh : Answering
fresh = record { served = unheard; answers = [] }

-- all bytes that the peer answered
abbrev pub answers_of : Option Answering → List ℕ
answers_of None = []
answers_of (Some answering) = answering.answers

-- ---- a piece that the peer serves

-- a piece was served on a connection that the peer hasn't closed
abbrev pub Hears : {S : Type 0} → (Peer → S → List ℕ → Result Replied Halt → Peer → S → Type 0) → List ℕ → Result Turn ServeFault → Answering → Peer → S → Answering → Peer → S → Type 0
Hears replies piece result old p s new q t =
    (old.served.closed ≡ false) × FeedAnswers replies old.served.feed new.served.feed (talk old.served p s old.answers) (talk new.served q t new.answers) piece result

-- A piece is handed to the peer: it serves it, if it hasn't closed the connection. Only its want of memory fails.
abbrev pub Hands : {S T E : Type 0} → (Peer → S → List ℕ → Result Replied Halt → Peer → S → Type 0) → List ℕ → Result T E → Answering → Peer → S → Answering → Peer → S → Type 0
Hands replies piece (Ok done) old p s new q t =
    ((old.served.closed ≡ true) × (new ≡ old) × (q ≡ p) × (t ≡ s))
    ⊎ ((result : Result Turn ServeFault) × (result ≢ Err serve.Memory) × Hears replies piece result old p s new q t)
Hands replies piece (Err fault) old p s new q t = Hears replies piece (Err serve.Memory) old p s new q t

-- the same where maybe the end was heard, or no connection was opened
abbrev pub HandsOver : {S T E : Type 0} → (Peer → S → List ℕ → Result Replied Halt → Peer → S → Type 0) → List ℕ → Result T E → Bool → Option Answering → Peer → S → Option Answering → Peer → S → Type 0
HandsOver replies piece result true old p s new q t = IfErr result (λ fault. ⊥) × (new ≡ old) × (q ≡ p) × (t ≡ s)
HandsOver replies piece result false None p s new q t = IfErr result (λ fault. ⊥) × (new ≡ None) × (q ≡ p) × (t ≡ s)
HandsOver replies piece result false (Some old) p s new q t = (heard : Answering) × (new ≡ Some heard) × Hands replies piece result old p s heard q t

-- ---- a step

-- one call on the wire, and how it ended
pub data Step : Type 0 where
  -- It listens.
  Listened : Address → Step
  -- A connection was opened.
  Opened : Dial → Step
  -- A connection was refused, since one had been opened.
  Refused : Dial → Step
  -- No memory was found to listen, to accept or to connect.
  NotDialled : Dial → Step
  -- So many bytes were heard, with so much room for them.
  Heard : ℕ → ℕ → Step
  -- A piece was handed to the peer, and this came of it. If the peer found no memory, the piece counts as not said.
  Served : List ℕ → Result Turn ServeFault → Step
  -- A piece was said, and nobody heard it.
  Unheard : List ℕ → Step
  -- No memory was found to say a piece.
  NotSaid : List ℕ → Step
  -- The connection was shut.
  Shut : Step

-- a call that opens a connection
abbrev pub IsOpening : Dial → Type 0
IsOpening (Listen at) = ⊥
IsOpening Accept = Unit {0}
IsOpening (Connect at) = Unit {0}

-- Nobody hears what is said: its end was heard, none was opened, or the peer has closed the connection.
abbrev pub IsDeaf : Bool → Option Answering → Type 0
IsDeaf true answering = Unit {0}
IsDeaf false None = Unit {0}
IsDeaf false (Some answering) = answering.served.closed ≡ true

-- the line after a piece was served
abbrev pub after_piece : Result Turn ServeFault → List ℕ → Lining → Lining
after_piece (Ok turn) piece line = saying piece line
after_piece (Err serve.Site) piece line = saying piece line
after_piece (Err serve.Memory) piece line = wanting line

-- What a call leaves. The second connection is refused, so that two calls were told by then.
abbrev pub Takes : {S : Type 0} → (Peer → S → List ℕ → Result Replied Halt → Peer → S → Type 0) → Step → Point S → Point S → Type 0
Takes replies (Listened at) p q = q ≡ record p { line = listening at p.line }
Takes replies (Opened dial) p q = IsOpening dial × (p.line.used ≡ false) × (q ≡ record p { line = opening dial p.line; answering = Some fresh })
Takes replies (Refused dial) p q = IsOpening dial × (p.line.used ≡ true) × (2 ≤ length q.line.dials) × (q ≡ record p { line = refused dial p.line })
Takes replies (NotDialled dial) p q = q ≡ record p { line = wanting p.line }
Takes replies (Heard n room) p q = (p.line.is_open ≡ true) × (n ≡ audible p.line (answers_of p.answering) room) × (q ≡ record p { line = hearing n room p.line })
Takes replies (Served piece result) p q =
    (p.line.is_open ≡ true) × (p.line.ended ≡ false)
    × (old : Answering) × (new : Answering) × (p.answering ≡ Some old) × Hears replies piece result old p.peer p.site new q.peer q.site
    × (q ≡ record { line = after_piece result piece p.line; answering = Some new; peer = q.peer; site = q.site })
Takes replies (Unheard piece) p q = (p.line.is_open ≡ true) × IsDeaf p.line.ended p.answering × (q ≡ record p { line = saying piece p.line })
Takes replies (NotSaid piece) p q = (p.line.is_open ≡ true) × (q ≡ record p { line = wanting p.line })
Takes replies Shut p q = q ≡ record p { line = shutting p.line }

-- steps one after the other
abbrev pub Leads : {S : Type 0} → (Peer → S → List ℕ → Result Replied Halt → Peer → S → Type 0) → List Step → Point S → Point S → Type 0
Leads replies [] p q = q ≡ p
Leads {S} replies (step ∷ steps) p q = (middle : Point S) × Takes replies step p middle × Leads replies steps middle q

-- ---- from one moment to a later one

-- The wire took these steps, over which the site of the peer went on.
pub record Follows {S : Type 0} (replies : Peer → S → List ℕ → Result Replied Halt → Peer → S → Type 0) (beside : S → S → Type 0) (p q : Point S) : Type 0 where
  pub steps : List Step
  pub leads : Leads replies steps p q
  pub site : beside p.site q.site
