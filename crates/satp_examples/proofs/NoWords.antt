-- No work of a command at a gateway ends as words that are refused do.
use Rattle.std.proofs.Common.{◌≡◌, ◌∙◌, ℕ, List, Result, Ok, Err, subst, sym}
use Rattle.satp_base.specs.declared.address.Address.{Address}
use Rattle.satp_base.specs.declared.session.SessionId.{SessionId}
use Rattle.satp_drive.specs.declared.driven.DriveEnd.{DriveEnd}
use Rattle.satp_drive.specs.declared.driven.DriveEnd.TheVariants as end
use Rattle.satp_drive.specs.declared.driven.Driven.{Driven}
use Rattle.satp_gateway.specs.declared.fault.OpenFault.{OpenFault}
use Rattle.satp_gateway.specs.declared.fault.OpenFault.TheVariants as fault
use Rattle.satp_gateway_commands.specs.AtGateway.{AtGateway, NotOpenedBy, open_outcome}
use Rattle.satp_gateway_commands.specs.AtGateway.AtGateway.{not_opened, works}
use Rattle.satp_gateway_commands.specs.AtGateway.NotOpenedBy.{not_entered, opens_none}
use Rattle.satp_outcome.specs.Outside.{OutsideState, SinkState, SiteState}
use Rattle.satp_outcome.specs.declared.outcome.Outcome.{Outcome}
use Rattle.satp_outcome.specs.declared.outcome.Outcome.TheVariants.{Done, RolledBack, WordsRefused, Memory, InputFailed, OutputFailed, Input, Place, Peer}
use Rattle.satp_peer_commands.specs.Driving.{DriveWorks, TellsEnd, outcome_of_end, outcome_of_refusal}
use Rattle.satp_peer_commands.specs.Driving.DriveWorks.{refuses, drives}
use Rattle.satp_peer_commands.specs.Driving.TellsEnd.{silent, printed as said, not_printed as unsaid}
use Rattle.satp_peer_commands.specs.Serving.{Point, Prints, ServesAll, ServesTo, ServeWorks, Tells, unprinted}
use Rattle.satp_peer_commands.specs.Serving.ServeWorks.{not_listening, serves}
use Rattle.satp_peer_commands.specs.Serving.Tells.{printed, not_printed}
use Rattle.satp_points.specs.States.{GatewayState}
use Rattle.satp_points.specs.declared.fault.Refused.{Refused}
use Rattle.satp_points.specs.declared.fault.Refused.TheVariants as refused
use Rattle.satp_sides.specs.Calls.{Call}

-- ---- the opening

of_fault : (why : OpenFault) → WordsRefused ≡ open_outcome why → ⊥
of_fault (fault.Damaged at) e = absurd cc
of_fault fault.Empty e = absurd cc
of_fault (fault.Record index) e = absurd cc
of_fault fault.Site e = absurd cc
of_fault fault.Memory e = absurd cc

of_opening : (dir : List ℕ) (b a : SiteState) → NotOpenedBy dir b a WordsRefused → ⊥
of_opening dir b a (not_entered fails e) = absurd cc
of_opening dir b a (opens_none why fails e) = of_fault why e

pub at_gateway : (dir : List ℕ) (Works : GatewayState → OutsideState → OutsideState → Outcome → Type 0) (b a : OutsideState)
    → ((g : GatewayState) (inside : SiteState) → Works g (record b { site = inside }) a WordsRefused → ⊥) → AtGateway dir Works b a WordsRefused → ⊥
at_gateway dir Works b a never (not_opened same wire not) = of_opening dir b.site a.site not.ends
at_gateway dir Works b a never (works g inside opened worked) = never g inside worked

-- ---- serving

of_unprinted : (result : Result _ Outcome) → WordsRefused ≡ unprinted result → ⊥
of_unprinted (Ok tally) e = absurd cc
of_unprinted (Err Memory) e = absurd cc
of_unprinted (Err Done) e = absurd cc
of_unprinted (Err RolledBack) e = absurd cc
of_unprinted (Err WordsRefused) e = absurd cc
of_unprinted (Err InputFailed) e = absurd cc
of_unprinted (Err OutputFailed) e = absurd cc
of_unprinted (Err (Input why)) e = absurd cc
of_unprinted (Err (Place why)) e = absurd cc
of_unprinted (Err (Peer why)) e = absurd cc

of_prints : (connections : ℕ) (result : Result _ Outcome) (x y : Point) (b a : SinkState) → ServesTo connections x y result → Prints connections result b a WordsRefused → ⊥
of_prints connections (Ok tally) x y b a served bad = bad
of_prints connections (Err why) x y b a served prints = subst (λ o. ServesTo connections x y (Err o)) (sym prints.0) served

of_tells : (connections : ℕ) (result : Result _ Outcome) (x y : Point) (b a : SinkState) → ServesTo connections x y result → Tells connections result b a WordsRefused → ⊥
of_tells connections result x y b a served (printed middle first prints) = of_prints connections result x y middle a served prints
of_tells connections result x y b a served (not_printed part e) = of_unprinted result e

pub of_serving : (at : Address) (connections : ℕ) (g : GatewayState) (b a : OutsideState) → ServeWorks at connections g b a WordsRefused → ⊥
of_serving at connections g b a (not_listening fails e) = absurd cc
of_serving at connections g b a (serves listening h result listens all input tells) = of_tells connections result _ _ b.streams.out a.streams.out all.to tells

-- ---- drives

of_end : (why : DriveEnd) → WordsRefused ≡ outcome_of_end why → ⊥
of_end end.Committed e = absurd cc
of_end end.RolledBack e = absurd cc
of_end end.Wire e = absurd cc
of_end end.Early e = absurd cc
of_end (end.Status code) e = absurd cc
of_end (end.NotHttp fault) e = absurd cc
of_end end.Silent e = absurd cc
of_end (end.Refused fault) e = absurd cc
of_end end.Turns e = absurd cc
of_end end.Site e = absurd cc
of_end end.Memory e = absurd cc

of_refusal : (s : SessionId) (r : Refused) → WordsRefused ≡ outcome_of_refusal s r → ⊥
of_refusal s refused.Exists e = absurd cc
of_refusal s (refused.Full count) e = absurd cc
of_refusal s (refused.Strange named) e = absurd cc
of_refusal s refused.Site e = absurd cc
of_refusal s refused.Memory e = absurd cc
of_refusal s refused.Broken e = absurd cc
of_refusal s (refused.Size count) e = absurd cc
of_refusal s (refused.Jws fault) e = absurd cc
of_refusal s refused.Header e = absurd cc
of_refusal s (refused.Body fault) e = absurd cc
of_refusal s refused.Receiver e = absurd cc
of_refusal s (refused.Chain verdict) e = absurd cc
of_refusal s (refused.Recovery fault) e = absurd cc
of_refusal s (refused.TooLate place) e = absurd cc

of_line : (s : SessionId) (driven : Driven) (b a : SinkState) → TellsEnd s driven b a WordsRefused → ⊥
of_line s driven b a (silent none same e) = of_end driven.end e
of_line s driven b a (said way is line e) = of_end driven.end e
of_line s driven b a (unsaid way is part e) = absurd cc

pub of_drive : (call : Call) (g : GatewayState) (b a : OutsideState) → DriveWorks call g b a WordsRefused → ⊥
of_drive call g b a (refuses r may drove leaves wire same e) = of_refusal _ r e
of_drive call g b a (drives driven drove tells) = of_line _ driven b.streams.out a.streams.out tells
