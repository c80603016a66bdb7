-- The reply of a decision, after due work, may be said.
use Rattle.std.proofs.Common.{◌≡◌, ◌≤◌, ℕ, ◌+◌, List, [], length, Option, Some, None, Ok, refl, sym, ap, ◌∙◌, arith}
use Rattle.std.specs.FinMap as map
use Rattle.satp_base.specs.Chains.{role_at}
use Rattle.satp_base.specs.Money.{Book}
use Rattle.satp_base.specs.Roles.{next_of}
use Rattle.satp_base.specs.Tales.{other}
use Rattle.satp_base.specs.declared.message.Role.{Role}
use Rattle.satp_base.specs.declared.message.Role.TheVariants.{Origin, Recipient}
use Rattle.satp_base.specs.declared.session.SessionId.{SessionId}
use Rattle.satp_sides.specs.Calls.{again_reply, last_own, last_unless_whole}
use Rattle.satp_sides.specs.DueLaws.{Rests}
use Rattle.satp_sides.specs.Logs.{IsLog}
use Rattle.satp_sides.specs.Moves.{Sayable}
use Rattle.satp_sides.specs.Points.{Party, Side, Slot, Stored, Text, slot_in}
use Rattle.satp_world.proofs.DueMoves.{SlotAt}
use Rattle.satp_world.proofs.Replies.{again-says, last-own-says, last-says, recover-says, role-next, update-says}
use Rattle.satp_points.specs.Answers.{SaysOnly}
use Rattle.satp_points.specs.Decisions.{ReplyFits, reply_by}
use Rattle.satp_points.specs.declared.decision.Replying.{Replying}
use Rattle.satp_points.specs.declared.decision.Replying.TheVariants as replying
use Rattle.satp_point_laws.proofs.Slots.{slot-parts}

-- the same as `ReplyFits`, after the due work, which makes one message at most
abbrev pub FitsAfter : Replying → Slot → Type 0
FitsAfter (replying.Again place) l = role_at (place + 1) ≡ l.view.role
FitsAfter (replying.Update given) l = length l.texts ≤ given + 2
FitsAfter reply l = Unit {0}

pub fits-after : (reply : Replying) (l after : Slot) → after.view.role ≡ l.view.role → length after.texts ≤ length l.texts + 1 → ReplyFits reply l → FitsAfter reply after
fits-after replying.Nothing l after role long fits = tt
fits-after replying.LastUnlessWhole l after role long fits = tt
fits-after replying.LastOwn l after role long fits = tt
fits-after (replying.Again place) l after role long fits = fits ∙ sym role
fits-after replying.Recover l after role long fits = tt
fits-after (replying.Update given) l after role long fits = omega (arith, long, fits)

twice : (r : Role) → other (other r) ≡ r
twice Origin = refl
twice Recipient = refl

-- the place before one of this side's is the peer's
turn : (place : ℕ) (role : Role) → role_at (place + 1) ≡ role → role_at place ≡ other role
turn place role e = sym (twice (role_at place)) ∙ ap other (sym (role-next place) ∙ e)

-- what may be said does not depend on the ledger
some_book : Book
some_book = record { genesis = record { assets = []; holds = [] }; entries = map.empty }

abbrev side_of : List Stored → Side
side_of xs = record { records = xs; book = some_book }

says-by : (p : Party) (xs : List Stored) (o : Option Text) → ((t : Text) → o ≡ Some t → Sayable p xs [] t) → SaysOnly p xs [] (Ok o)
says-by p xs None h = tt
says-by p xs (Some t) h = h t refl

pub reply-says : (p : Party) (s : SessionId) (xs : List Stored) (l : Slot) (reply : Replying) → IsLog p xs → slot_in s xs ≡ Some l → Rests (next_of l.view.role l.view) → FitsAfter reply l → SaysOnly p xs [] (Ok (reply_by p s reply l))
reply-says p s xs l reply log e rest = by reply
  where
    at : SlotAt p s (side_of xs) l
    at = let (named, texts) = slot-parts s xs l e in record { log = log; named = named; texts = texts }

    by : (r : Replying) → FitsAfter r l → SaysOnly p xs [] (Ok (reply_by p s r l))
    by replying.Nothing fits = tt
    by replying.LastUnlessWhole fits = says-by p xs (last_unless_whole l) (λ t x. last-says p s (side_of xs) [] l at rest t x)
    by replying.LastOwn fits = says-by p xs (last_own l) (λ t x. last-own-says p s (side_of xs) [] l at t x)
    by (replying.Again place) fits = says-by p xs (again_reply place l) (λ t x. again-says p s (side_of xs) [] l at place (turn place l.view.role fits) t x)
    by replying.Recover fits = recover-says p s (side_of xs) [] l at
    by (replying.Update given) fits = update-says p s (side_of xs) [] l at given fits
