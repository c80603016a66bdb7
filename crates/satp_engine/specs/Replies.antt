-- The text that is the reply, by its place in the chain.
use Rattle.std.specs.Prelude.{◌+◌, ◌-◌, ◌==◌, ℕ, List, length, Option, Some, None, option_and_then, if◌then◌else◌}
use Rattle.satp_base.specs.Tales.{is_whole, last_by}
use Rattle.satp_base.specs.declared.message.Kind.{Kind}
use Rattle.satp_base.specs.declared.message.Role.{Role}
use Rattle.satp_sides.specs.Calls.{text_of}
use Rattle.satp_sides.specs.Points.{Slot, Text}
use Rattle.satp_points.specs.declared.decision.Replying.{Replying}
use Rattle.satp_points.specs.declared.decision.Replying.TheVariants.{Nothing, LastUnlessWhole, LastOwn, Again, Recover, Update}

-- the place of a side's last text in a whole chain: the last, or the one before
abbrev pub own_place : Role → List Kind → ℕ
own_place role tale = if last_by role tale then length tale else length tale - 1

-- The place of the text that is the reply, in a chain of these kinds; none where no text of the chain is.
abbrev pub place_by : Replying → Role → List Kind → Option ℕ
place_by Nothing role tale = None
place_by LastUnlessWhole role tale = if is_whole tale then None else Some (length tale)
place_by LastOwn role tale = if last_by role tale then Some (length tale) else None
place_by (Again place) role tale = if is_whole tale then (if place == length tale then None else Some (own_place role tale)) else Some (place + 1)
place_by Recover role tale = None
place_by (Update given) role tale = None

abbrev pub standing_by : Replying → Slot → Option Text
standing_by replying l = option_and_then (text_of l.texts) (place_by replying l.view.role l.view.tale)

-- The reply after a message was made, with the text that was it before: the message where its place is the last, and what stood before where that place is another.
abbrev pub after_made : Replying → Option Text → Text → List Kind → Option Text
after_made Nothing standing text tale = None
after_made LastUnlessWhole standing text tale = if is_whole tale then None else Some text
after_made LastOwn standing text tale = Some text
after_made (Again place) standing text tale = if is_whole tale then (if place == length tale then None else Some text) else (if place + 1 == length tale then Some text else standing)
after_made Recover standing text tale = None
after_made (Update given) standing text tale = None
