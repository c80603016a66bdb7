-- A round of recovery and its outcome, by kinds alone: what passes between the two sides of a session, and where they are after it.
use Rattle.std.specs.Prelude.{◌≡◌, ℕ, zero, suc, ◌≤◌, nat_lt, Bool, true, false, List, [], ◌∷◌, ◌++◌, length, drop, IsTrue, Option, Some, None, if◌then◌else◌}
use Rattle.satp_base.specs.Roles.{both, either, is_back, is_commit, negate, rescues}
use Rattle.satp_base.specs.Tales.{has, is_committed, is_whole, last_by, last_is, last_of, other}
use Rattle.satp_base.specs.declared.ledger.Answer.{Answer}
use Rattle.satp_base.specs.declared.ledger.Answer.TheVariants as answer
use Rattle.satp_base.specs.declared.ledger.Entry.TheVariants.{Absent, Burnt, Assigned, Released}
use Rattle.satp_base.specs.declared.ledger.LedgerOp.TheVariants.{Mint}
use Rattle.satp_base.specs.declared.message.Kind.{Kind}
use Rattle.satp_base.specs.declared.message.Kind.TheVariants.{CommitPrepare, CommitReady}
use Rattle.satp_base.specs.declared.message.Role.{Role}
use Rattle.satp_base.specs.declared.message.Role.TheVariants.{Origin, Recipient}
use Rattle.satp_base.specs.declared.record.Rec.TheVariants.{Took, Rescue}
use Rattle.satp_sides.specs.Halves.{Half, after_record, entry_is}
use Rattle.satp_world.specs.Sessions.{Stands}
use Rattle.satp_rounds.specs.Funds.{Funds, answer_now, worked}

-- ---- two sides

-- both sides of a session
pub record Pair : Type 0 where
  pub a : Half
  pub b : Half

abbrev pub pair : Half → Half → Pair
pair a b = record { a = a; b = b }

abbrev pub half_at : Role → Pair → Half
half_at Origin s = s.a
half_at Recipient s = s.b

abbrev pub with_half : Role → Half → Pair → Pair
with_half Origin h s = pair h s.b
with_half Recipient h s = pair s.a h

-- ---- what passes

-- the texts by their kinds, those of recovery with the lengths that they name and the number of entries
pub data Passed : Type 0 where
  Recovers : ℕ → Passed
  Updates : ℕ → ℕ → Passed
  Messages : Kind → Passed
  Succeeds : Passed

-- what has passed, and both sides after it
pub record Passing : Type 0 where
  pub texts : List Passed
  pub after : Pair

abbrev pub passing : List Passed → Pair → Passing
passing texts after = record { texts = texts; after = after }

abbrev pub preceded : Passed → Passing → Passing
preceded t p = passing (t ∷ p.texts) p.after

-- the chain's last message, where it is this side's: what it replies to a message that it takes
abbrev pub reply_of : Role → Half → Option Kind
reply_of role h = if last_by role h.view.tale then last_of h.view.tale else None

-- the next message is taken, and due work is done
abbrev pub takes : Role → Funds → Kind → Half → Half
takes role f k h = worked role f (after_record h (Took k))

-- A message of this side is handed to the other one, which takes it as the next of its chain, and so is each reply, until none comes.
abbrev pub exchange : ℕ → Role → Funds → Option Kind → Pair → Passing
exchange zero from f k s = passing [] s
exchange (suc n) from f None s = passing [] s
exchange (suc n) from f (Some k) s =
    let h = takes (other from) f k (half_at (other from) s) in
    preceded (Messages k) (exchange n (other from) f (reply_of (other from) h) (with_half (other from) h s))

-- ---- a round

-- an origin that may begin a rescue says so
abbrev pub rescued : Role → Half → Half
rescued role h = if rescues role h.view then after_record h Rescue else h

-- the side has said that it is in a round where it may, and has done its due work
abbrev pub readied : Role → Funds → Half → Half
readied role f h = worked role f (rescued role h)

-- More messages than a round has: no exchange of one is cut off.
abbrev pub enough : ℕ
enough = 8

-- What the side that started does when it hears the update: it takes the message that it lacks, says its last one again that the peer lacks, or says nothing.
abbrev pub answers_update : Role → Funds → List Kind → Bool → Pair → Passing
answers_update role f (k ∷ ks) longer s =
    let h = takes role f k (half_at role s) in exchange enough role f (reply_of role h) (with_half role h s)
answers_update role f [] true s = exchange enough role f (reply_of role (half_at role s)) s
answers_update role f [] false s = passing [] s

-- `recover` and its answer come first, and success last
abbrev pub closed : ℕ → ℕ → ℕ → Passing → Passing
closed mine theirs entries p = passing (Recovers mine ∷ Updates theirs entries ∷ (p.texts ++ Succeeds ∷ [])) p.after

-- the starter and its peer are ready
abbrev pub round_between : Role → Funds → Half → Half → Pair → Passing
round_between role f mine theirs s =
    let lacking = drop (length mine.view.tale) theirs.view.tale in
    closed (length mine.view.tale) (length theirs.view.tale) (length lacking)
    (answers_update role f lacking (nat_lt (length theirs.view.tale) (length mine.view.tale)) (with_half (other role) theirs (with_half role mine s)))

-- the round that the side of this role starts
abbrev pub round : Role → Funds → Pair → Passing
round role f s = round_between role f (readied role f (half_at role s)) (readied (other role) f (half_at (other role) s)) s

-- ---- its outcome

abbrev pub is_done : Option Answer → Bool
is_done (Some answer.Done) = true
is_done _ = false

-- The outcome is a commit exactly where the origin hasn't chosen the way back and one of these holds: it has chosen to commit; commit-ready is in either
-- chain; commit-prepare is the last message of either chain, the recipient hasn't chosen the way back, and its ledger now answers Done to the mint.
abbrev pub commits : Funds → Pair → Bool
commits f s =
    both (negate (is_back s.a.view.way))
    (either (is_commit s.a.view.way)
    (either (either (has CommitReady s.a.view.tale) (has CommitReady s.b.view.tale))
    (both (either (last_is CommitPrepare s.a.view.tale) (last_is CommitPrepare s.b.view.tale))
    (both (negate (is_back s.b.view.way)) (is_done (answer_now f Mint s.b.entry))))))

-- the entries of a session that is committed, or rolled back
abbrev pub EntriesOf : Bool → Pair → Type 0
EntriesOf true s = (s.a.entry ≡ Burnt) × (s.b.entry ≡ Assigned)
EntriesOf false s = (s.a.entry ≡ Released) × IsTrue (either (entry_is s.b.entry Absent) (entry_is s.b.entry Released))

-- Both tales are one whole tale, that of the outcome, and so are the entries.
pub record Settled (committed : Bool) (s : Pair) : Type 0 where
  pub equal : s.a.view.tale ≡ s.b.view.tale
  pub whole : IsTrue (is_whole s.a.view.tale)
  pub tale : is_committed s.a.view.tale ≡ committed
  pub entries : EntriesOf committed s

-- the round that the side of this role starts has at most eight texts, and settles the session with the outcome
pub record Settles (role : Role) (f : Funds) (s : Pair) : Type 0 where
  pub short : length (round role f s).texts ≤ 8
  pub settled : Settled (commits f s) (round role f s).after

-- So it is of every two sides that the joint invariant allows, whoever starts, and whatever the ledgers answer.
abbrev pub RoundsSettle : Type 0
RoundsSettle = (a b : Half) → Stands a b → (role : Role) (f : Funds) → Settles role f (pair a b)
