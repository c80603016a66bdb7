use Rattle.std.proofs.Common.{◌∙◌, Bor, List, ℕ, ap, refl, sym}
use Rattle.std.specs.Prelude.{option_map}
use Rattle.satp_peer_commands.specs.Driving.TellsEnd.{not_printed, printed}
use Rattle.satp_peer_commands.proofs.drive_end.tell_end.Goals as goal

pub returns-in-Ok : goal.returns-in-Ok
returns-in-Ok g c = printed c.in-Some.way.now (sym c.way_of.ensures ∙ ap (option_map (λ (w : Bor (List ℕ)). w.now)) c.in-Some.is) c.in-Ok.ensures c.outcome_of_end-in-Ok.ensures

pub returns-in-Err : goal.returns-in-Err
returns-in-Err g c = not_printed c.in-Some.way.now (sym c.way_of.ensures ∙ ap (option_map (λ (w : Bor (List ℕ)). w.now)) c.in-Some.is) c.in-Err.ensures refl
