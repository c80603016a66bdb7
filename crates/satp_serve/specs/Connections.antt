-- What a connection did to a wire, and how it ended.
use Rattle.std.specs.Prelude.{◌≡◌, ◌≢◌, ◌≤◌, ◌<◌, ◌⊎◌, ℕ, Bool, true, false, List, [], ◌++◌, length, Option, option_map, Result, Ok, Err}
use Rattle.satp_base.specs.Streams.{Rose}
use Rattle.satp_base.specs.Wires.{Traffic, exchanged, says}
use Rattle.satp_http.specs.Feeds.{RequestFeed, no_requests}
use Rattle.satp_serve.specs.declared.connection.Connection.{Connection}
use Rattle.satp_serve.specs.declared.connection.ConnectionEnd.{ConnectionEnd}
use Rattle.satp_serve.specs.declared.connection.ConnectionEnd.TheVariants as end
use Rattle.satp_serve.specs.declared.responder.Halt.{Halt}
use Rattle.satp_serve.specs.declared.responder.Replied.{Replied}
use Rattle.satp_serve.specs.declared.turn.ServeFault.{ServeFault}
use Rattle.satp_serve.specs.declared.turn.ServeFault.TheVariants as serve
use Rattle.satp_serve.specs.declared.turn.Turn.{Turn}
use Rattle.satp_serve.specs.Exchange.{Talk, Serves, silent}
use Rattle.satp_serve.specs.Feeding.{AwaitsMore, FeedAnswers, Halts, standing}
use Rattle.satp_wires.specs.Saying.{SaysPart}

-- the most bytes that are read of one connection
abbrev pub most_heard : ℕ
most_heard = 1048576

-- ---- what was heard, and the conversation that it makes

-- Each request that came whole is answered, and more is to be heard.
pub record Waits {G S : Type 0} (replies : G → S → List ℕ → Result Replied Halt → G → S → Type 0) (g : G) (s : S) (heard : List ℕ) (u : Talk G S) : Type 0 where
  pub feed : RequestFeed
  pub serves : Serves replies no_requests feed (silent g s) u heard
  pub rest : (heard ≡ []) ⊎ AwaitsMore feed
  pub unclosed : u.closed ≡ false

-- The requests at the front are answered, and the last answer closes. What comes after that request isn't looked at.
pub record Closes {G S : Type 0} (replies : G → S → List ℕ → Result Replied Halt → G → S → Type 0) (g : G) (s : S) (heard : List ℕ) (u : Talk G S) : Type 0 where
  pub front : List ℕ
  pub rest : List ℕ
  pub cut : heard ≡ front ++ rest
  pub feed : RequestFeed
  pub serves : Serves replies no_requests feed (silent g s) u front
  pub closed : u.closed ≡ true

-- The requests at the front are answered but for the last, at which the site failed or no memory was found.
pub record Stops {G S : Type 0} (replies : G → S → List ℕ → Result Replied Halt → G → S → Type 0) (g : G) (s : S) (heard : List ℕ) (fault : ServeFault) (u : Talk G S) : Type 0 where
  pub front : List ℕ
  pub rest : List ℕ
  pub cut : heard ≡ front ++ rest
  pub feed : RequestFeed
  pub answered : Talk G S
  pub serves : Serves replies no_requests feed (silent g s) answered front
  pub unclosed : answered.closed ≡ false
  pub halts : Halts replies feed answered fault u

-- ---- what of it the wire took

-- The whole was said and no call failed, or a call failed and some of it wasn't.
abbrev pub LastSaid : List ℕ → ℕ → ℕ → Type 0
LastSaid rest before after = ((rest ≡ []) × (after ≡ before)) ⊎ ((rest ≢ []) × Rose before after)

-- the last bytes, said as far as the wire took them
pub record SaysLast (bytes : List ℕ) (old new : Option Traffic) (before after : ℕ) : Type 0 where
  pub said : List ℕ
  pub rest : List ℕ
  pub cut : bytes ≡ said ++ rest
  pub told : new ≡ option_map (says said) old
  pub whole : LastSaid rest before after

-- ---- a connection

abbrev pub has_ended : ConnectionEnd → Bool
has_ended end.Ended = true
has_ended end.Closed = false
has_ended end.Wire = false
has_ended end.Site = false
has_ended end.Memory = false

-- How a connection ends where the wire heard and said so much of the whole conversation.
abbrev pub EndsAt : {G S : Type 0} → (G → S → List ℕ → Result Replied Halt → G → S → Type 0) → G → S → Talk G S → List ℕ → List ℕ → ℕ → ℕ → ConnectionEnd → Type 0
EndsAt replies g s u heard rest before after end.Closed =
    (rest ≡ []) × (after ≡ before) × (Closes replies g s heard u ⊎ (Waits replies g s heard u × (length heard ≡ most_heard)))
EndsAt replies g s u heard rest before after end.Ended = (rest ≡ []) × (after ≡ before) × Waits replies g s heard u × (length heard < most_heard)
EndsAt replies g s u heard rest before after end.Wire = Rose before after × ((Waits replies g s heard u) ⊎ (Closes replies g s heard u))
EndsAt replies g s u heard rest before after end.Site = LastSaid rest before after × Stops replies g s heard serve.Site u
EndsAt replies g s u heard rest before after end.Memory =
    (LastSaid rest before after × Stops replies g s heard serve.Memory u) ⊎ ((rest ≡ []) × (after ≡ before) × Waits replies g s heard u)

-- From g and s a connection led to h and t, and handed so many requests over. It said the whole conversation but for the rest.
pub record Hears {G S : Type 0} (replies : G → S → List ℕ → Result Replied Halt → G → S → Type 0) (g : G) (s : S) (h : G) (t : S) (count : ℕ) (old new : Option Traffic) (before after : ℕ) (why : ConnectionEnd) : Type 0 where
  pub heard : List ℕ
  pub said : List ℕ
  pub rest : List ℕ
  pub whole : List ℕ
  pub cut : whole ≡ said ++ rest
  pub closed : Bool
  pub told : new ≡ option_map (exchanged heard said (has_ended why)) old
  pub most : length heard ≤ most_heard
  pub ends : EndsAt replies g s (standing h t count whole closed) heard rest before after why

abbrev pub ConnectionAnswers : {G S : Type 0} → (G → S → List ℕ → Result Replied Halt → G → S → Type 0) → G → S → G → S → Option Traffic → Option Traffic → ℕ → ℕ → Connection → Type 0
ConnectionAnswers replies g s h t old new before after connection =
    Hears replies g s h t connection.requests old new before after connection.end

-- ---- a step on the way: one piece

abbrev pub Responds : {G S : Type 0} → (G → S → List ℕ → Result Replied Halt → G → S → Type 0) → RequestFeed → RequestFeed → Talk G S → Talk G S → List ℕ → Option Traffic → Option Traffic → ℕ → ℕ → Result Turn ConnectionEnd → Type 0
Responds replies old new t u piece told telling before after (Ok turn) =
    FeedAnswers replies old new t u piece (Ok turn) × (telling ≡ option_map (says u.said) told) × (after ≡ before)
Responds replies old new t u piece told telling before after (Err end.Wire) =
    (turn : Turn) × FeedAnswers replies old new t u piece (Ok turn) × SaysPart u.said told telling × Rose before after
Responds replies old new t u piece told telling before after (Err end.Site) =
    FeedAnswers replies old new t u piece (Err serve.Site) × SaysLast u.said told telling before after
Responds replies old new t u piece told telling before after (Err end.Memory) =
    FeedAnswers replies old new t u piece (Err serve.Memory) × SaysLast u.said told telling before after
Responds replies old new t u piece told telling before after (Err end.Closed) = ⊥
Responds replies old new t u piece told telling before after (Err end.Ended) = ⊥
