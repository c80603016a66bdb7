-- What a call comes to if no test refuses it: a reply at once, or a first record, due work and then a reply.
use Rattle.std.specs.Prelude.{◌≡◌, ◌≤◌, ◌+◌, List, [], ◌∷◌, ◌++◌, map, length, Option, Some, None}
use Rattle.satp_base.specs.Canonical.{kind_of}
use Rattle.satp_base.specs.Chains.{next_text, role_at}
use Rattle.satp_base.specs.declared.message.Part.TheVariants.{Proposal}
use Rattle.satp_base.specs.declared.record.Rec.TheVariants.{Began, Took}
use Rattle.satp_base.specs.declared.session.SessionId.{SessionId}
use Rattle.satp_sides.specs.Calls.{IsOwn, Run, again_reply, last_own, last_unless_whole, named, recover_text, replied, runs, update_text}
use Rattle.satp_sides.specs.Logs.{IsNote, MayCome}
use Rattle.satp_sides.specs.Points.{Appends, Party, Side, Slot, Stored, Text, recipient_at, slot_in, stored}
use Rattle.satp_points.specs.declared.decision.Decision.{Decision}
use Rattle.satp_points.specs.declared.decision.Decision.TheVariants.{Gives, Works}
use Rattle.satp_points.specs.declared.decision.First.{First}
use Rattle.satp_points.specs.declared.decision.First.TheVariants as first
use Rattle.satp_points.specs.declared.decision.Replying.{Replying}
use Rattle.satp_points.specs.declared.decision.Replying.TheVariants as replying

-- the first record, if there is one
abbrev pub first_of : Party → SessionId → First → List Stored
first_of p s first.Nothing = []
first_of p s (first.Note r) = stored s r [] ∷ []
first_of p s (first.Takes signed) = stored s (Took (kind_of signed.message.body)) signed.text ∷ []
first_of p s (first.Begins role terms) = stored s (Began role terms) (next_text s (recipient_at p role) p.key [] (Proposal terms)) ∷ []

-- the reply, from the session after its due work
abbrev pub reply_by : Party → SessionId → Replying → Slot → Option Text
reply_by p s replying.Nothing l = None
reply_by p s replying.LastUnlessWhole l = last_unless_whole l
reply_by p s replying.LastOwn l = last_own l
reply_by p s (replying.Again place) l = again_reply place l
reply_by p s replying.Recover l = Some (recover_text p s l.texts)
reply_by p s (replying.Update given) l = Some (update_text p s given l.texts)

-- what it comes to
abbrev pub decided_run : Party → Side → Decision → Run
decided_run p side (Gives reply) = replied reply
decided_run p side (Works s first reply) =
    let xs = first_of p s first in
    named (λ l. runs p side s l (map Appends xs) (reply_by p s reply)) (slot_in s (side.records ++ xs))

-- ---- which decisions can be carried out

-- the first record may come; a message that is taken is read from its text
abbrev pub FirstMayCome : Party → SessionId → List Stored → First → Type 0
FirstMayCome p s xs first.Nothing = (l : Slot) × (slot_in s xs ≡ Some l)
FirstMayCome p s xs (first.Note r) = IsNote r × MayCome p xs (stored s r [])
FirstMayCome p s xs (first.Takes signed) = IsOwn p.key signed.text signed.message × MayCome p xs (stored s (Took (kind_of signed.message.body)) signed.text)
FirstMayCome p s xs (first.Begins role terms) = MayCome p xs (stored s (Began role terms) (next_text s (recipient_at p role) p.key [] (Proposal terms)))

-- The message that the chain has already is the peer's, so that the place after it is this side's. An update says two texts at most, since due work adds
-- one at most.
abbrev pub ReplyFits : Replying → Slot → Type 0
ReplyFits (replying.Again place) l = role_at (place + 1) ≡ l.view.role
ReplyFits (replying.Update given) l = length l.texts ≤ given + 1
ReplyFits reply l = Unit {0}

abbrev pub IsReady : Party → List Stored → Decision → Type 0
IsReady p xs (Gives reply) = Unit {0}
IsReady p xs (Works s first reply) = FirstMayCome p s xs first × ((l : Slot) → slot_in s (xs ++ first_of p s first) ≡ Some l → ReplyFits reply l)
