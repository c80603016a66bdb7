-- What a gateway answers to an honest text, one that a network can hand over: a text of the bag, or an entry of an update there handed over alone.
use Rattle.std.specs.Prelude.{◌≡◌, ℕ, List, Option, Some}
use Rattle.satp_base.specs.Founding.{Founding}
use Rattle.satp_base.specs.declared.message.Body.{Body}
use Rattle.satp_base.specs.declared.message.Body.TheVariants.{Recover, Success, Update}
use Rattle.satp_base.specs.declared.message.Link.{Link}
use Rattle.satp_base.specs.declared.message.Message.{Message}
use Rattle.satp_recovery.specs.declared.choice.RecoveryFault.TheVariants.{EntryRefused, Longer, Shorter}
use Rattle.satp_sides.specs.Calls.{IsOwn, Refusal, refusal_of}
use Rattle.satp_sides.specs.Calls.Call.{Hears}
use Rattle.satp_sides.specs.Calls.Refusal.{Recovery}
use Rattle.satp_sides.specs.Moves.{Delivered}
use Rattle.satp_sides.specs.Points.{Text}
use Rattle.satp_world.specs.Worlds.{Gateway, Reached, Setting, World, name_at, party_at, side_at}

-- The refusals of an honest text, each of a recovery message: it tells of a chain that was shorter then, its entry doesn't fit the chain as it is now, or
-- it says that a round is over of which this side lacks the last message. No message of a chain is refused.
pub data IsOutdated : Body → Refusal → Type 0 where
  Old_recover : (length : ℕ) (last : Link) (by : ℕ) → IsOutdated (Recover length last) (Recovery (Shorter by))
  Old_update : (length : ℕ) (entries : List Text) (by : ℕ) → IsOutdated (Update length entries) (Recovery (Shorter by))
  Unfit_entry : (length : ℕ) (entries : List Text) (place : ℕ) → IsOutdated (Update length entries) (Recovery (EntryRefused place))
  Old_success : (length : ℕ) (last : Link) (by : ℕ) → IsOutdated (Success length last) (Recovery (Shorter by))
  Early_success : (length : ℕ) (last : Link) (by : ℕ) → IsOutdated (Success length last) (Recovery (Longer by))

-- handed to its receiver it is refused for nothing else, whatever message the entry of an update is read as
abbrev pub HonestIsTaken : Type 0
HonestIsTaken =
    (st : Setting) (a b : Founding) (w : World) → Reached st a b w → (g : Gateway) (m : Message) (t : Text) (e : Option Message)
    → IsOwn st.key t m → Delivered st.key w.bag t → m.receiver ≡ name_at st g
    → (refusal : Refusal) → refusal_of (party_at st g) (side_at w g).records (Hears m t e) ≡ Some refusal → IsOutdated m.body refusal
