-- What a gateway is asked, as what happens to it in a world of two gateways, while anything may happen to the other one.
use Rattle.std.specs.Prelude.{◌≡◌, List, [], ◌∷◌, ◌++◌, Option, Some, Result, Ok, Err}
use Rattle.satp_base.specs.declared.message.Message.{Message}
use Rattle.satp_points.specs.Answers.{refused_as}
use Rattle.satp_points.specs.declared.fault.Refused.{Refused}
use Rattle.satp_points.specs.declared.fault.Refused.TheVariants.{Body, Header, Jws, Size}
use Rattle.satp_sides.specs.Calls.{Call, Refusal, run_of}
use Rattle.satp_sides.specs.Calls.Call.{Hears}
use Rattle.satp_sides.specs.Points.{Move, Party, Side, Text, moved_by}
use Rattle.satp_world.specs.Histories.{Event, MayHappen, after_event}
use Rattle.satp_world.specs.Histories.Event.{Called, Stopped, Unread}
use Rattle.satp_world.specs.Worlds.{Gateway, Setting, World, opposite, party_at, side_at}
use Rattle.satp_world.specs.Worlds.Gateway.{A, B}
use Rattle.satp_runs.specs.Asking.{Asked, Made}
use Rattle.satp_runs.specs.Asking.Asked.{Operates, Handles}

-- what the gateway is asked is this event: a call of its operator, a text that is a message, or one that is none
pub data Is (g : Gateway) : Asked → Event → Type 0 where
  Of_operator : (call : Call) → Is g (Operates call) (Called g call)
  Message_heard : (m : Message) (t : Text) (e : Option Message) → Is g (Handles t) (Called g (Hears m t e))
  None_heard : (t : Text) → Is g (Handles t) (Unread g t)

-- whom it happens to
abbrev pub whose : Event → Gateway
whose (Called g call) = g
whose (Stopped g call n) = g
whose (Unread g t) = g

-- ---- what may happen

-- The gateway is asked all this, and each may happen in the world as it is then. Before, between and after, whatever may happen to the other one did.
pub data Meanwhile (st : Setting) (g : Gateway) : World → List Asked → List Event → World → Type 0 where
  Ends : (w : World) → Meanwhile st g w [] [] w
  Other : (w : World) (e : Event) (asked : List Asked) (es : List Event) (v : World) → whose e ≡ opposite g → MayHappen st w e
      → Meanwhile st g (after_event st w e) asked es v → Meanwhile st g w asked (e ∷ es) v
  Own : (w : World) (a : Asked) (e : Event) (asked : List Asked) (es : List Event) (v : World) → Is g a e → MayHappen st w e
      → Meanwhile st g (after_event st w e) asked es v → Meanwhile st g w (a ∷ asked) (e ∷ es) v

-- ---- what did

-- the run's answer, or its refusal
abbrev pub AnswersAs : Option (Result (Option Text) Refusal) → Result (Option Text) Refused → Type 0
AnswersAs answer (Ok reply) = answer ≡ Some (Ok reply)
AnswersAs answer (Err r) = (refusal : Refusal) × (answer ≡ Some (Err refusal)) × (r ≡ refused_as refusal)

-- a fault in the reading of a text
abbrev pub IsOfReading : Result (Option Text) Refused → Type 0
IsOfReading (Err (Size n)) = Unit {0}
IsOfReading (Err (Jws fault)) = Unit {0}
IsOfReading (Err Header) = Unit {0}
IsOfReading (Err (Body fault)) = Unit {0}
IsOfReading result = ⊥

-- the answer to what happens in this world: that of the call's run, or the fault of a text that is no message
abbrev pub AnswersIn : Setting → World → Event → Result (Option Text) Refused → Type 0
AnswersIn st w (Called g call) result = AnswersAs (run_of (party_at st g) (side_at w g) call).answer result
AnswersIn st w (Stopped g call n) result = ⊥
AnswersIn st w (Unread g t) result = IsOfReading result

-- So it happened, and was answered.
pub data Lives (st : Setting) (g : Gateway) : World → List Made → List Event → World → Type 0 where
  Ends : (w : World) → Lives st g w [] [] w
  Other : (w : World) (e : Event) (made : List Made) (es : List Event) (v : World) → whose e ≡ opposite g → MayHappen st w e
      → Lives st g (after_event st w e) made es v → Lives st g w made (e ∷ es) v
  Own : (w : World) (m : Made) (e : Event) (made : List Made) (es : List Event) (v : World) → Is g m.asked e → MayHappen st w e → AnswersIn st w e m.result
      → Lives st g (after_event st w e) made es v → Lives st g w (m ∷ made) (e ∷ es) v

-- ---- the calls of one side

abbrev pub call_in : Gateway → Event → List Call
call_in A (Called A call) = call ∷ []
call_in B (Called B call) = call ∷ []
call_in g e = []

-- the calls of the gateway among the events
abbrev pub calls_in : Gateway → List Event → List Call
calls_in g [] = []
calls_in g (e ∷ es) = call_in g e ++ calls_in g es

-- Calls of one side in their order, each as it runs where those before it have led. Their moves are these, and the side after them is that.
pub data Ran (p : Party) : Side → List Call → List Move → Side → Type 0 where
  None : (side : Side) → Ran p side [] [] side
  Then : (side : Side) (call : Call) (calls : List Call) (moves : List Move) (after : Side) → Ran p (moved_by side (run_of p side call).moves) calls moves after
      → Ran p side (call ∷ calls) ((run_of p side call).moves ++ moves) after
