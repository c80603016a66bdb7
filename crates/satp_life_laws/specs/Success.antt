-- A gateway says that a round of recovery was a success, and what happens to both gateways goes on.
use Rattle.std.specs.Prelude.{[], ◌∷◌, length, None}
use Rattle.satp_base.specs.Chains.{head_of}
use Rattle.satp_base.specs.Calls.{Told}
use Rattle.satp_base.specs.Founding.{Founding}
use Rattle.satp_base.specs.Signatures.{own}
use Rattle.satp_base.specs.Trail.{Trail}
use Rattle.satp_base.specs.declared.message.Body.TheVariants as body
use Rattle.satp_base.specs.declared.message.Message.{Message}
use Rattle.satp_base.specs.declared.session.SessionId.{SessionId}
use Rattle.satp_point_laws.specs.Happening.{StandsIn}
use Rattle.satp_points.specs.States.{GatewayState, Tells}
use Rattle.satp_records.specs.declared.stored.Setup.{Setup}
use Rattle.satp_sides.specs.Calls.{success_text}
use Rattle.satp_sides.specs.Calls.Call.{Hears}
use Rattle.satp_sides.specs.Moves.{message_from}
use Rattle.satp_sides.specs.Points.{Says, chain_in}
use Rattle.satp_world.specs.Histories.{Called, Event, MayHappen, after_moves}
use Rattle.satp_world.specs.Kept.{Names}
use Rattle.satp_world.specs.Worlds.{Gateway, Reached, Setting, World, opposite, party_at, side_at}
use Rattle.satp_life_laws.specs.Closed.{IsClosed}

-- the message by which the gateway says so, of its present chain
abbrev pub success_of : Setting → World → Gateway → SessionId → Message
success_of st w g s = let texts = chain_in s (side_at w g).records in message_from (party_at st g) s (body.Success (length texts) (head_of texts).last)

-- the world in which it has said so
abbrev pub after_success : Setting → World → Gateway → SessionId → World
after_success st w g s = after_moves w g (Says (success_text (party_at st g) s (chain_in s (side_at w g).records)) ∷ [])

-- Both gateways stand in that world as they stood before, open or closed. Whatever may happen to them still may, and the text may come to the other one.
pub record GoesOn (st : Setting) (a b : Founding) (w : World) (g : Gateway) (s : SessionId) : Type 0 where
  pub reached : Reached st a b (after_success st w g s)
  pub stands : (h : Gateway) (state : GatewayState) (site : Tells) (setup : Setup) (t : Told) → StandsIn st w h state site setup t → StandsIn st (after_success st w g s) h state site setup t
  pub closed : (h : Gateway) (setup : Setup) (t : Trail) → IsClosed st a b h setup w t → IsClosed st a b h setup (after_success st w g s) t
  pub may : (e : Event) → MayHappen st w e → MayHappen st (after_success st w g s) e
  pub heard : MayHappen st (after_success st w g s) (Called (opposite g) (Hears (success_of st w g s) (own st.key (success_of st w g s)) None))

-- in every reached world, of each session that the gateway's records name
abbrev pub SuccessesGoOn : Type 0
SuccessesGoOn = (st : Setting) (a b : Founding) (w : World) → Reached st a b w → (g : Gateway) (s : SessionId) → Names w g s → GoesOn st a b w g s
