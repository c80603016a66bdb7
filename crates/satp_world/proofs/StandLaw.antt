-- What two sides keep along moves, and the deal of each session.
use Rattle.std.proofs.Common.{◌≡◌, inl, inr, false, sym, subst}
use Rattle.satp_base.specs.Founding.{Founding}
use Rattle.satp_base.specs.declared.message.Role.{Role}
use Rattle.satp_base.specs.declared.session.SessionId.{SessionId}
use Rattle.satp_world.specs.Deal.{Deal, Decision, DealRun, untouched}
use Rattle.satp_world.specs.Deal.DealRun.{Rests, Goes}
use Rattle.satp_world.specs.Sessions.{GoesOn, Session, deal_of}
use Rattle.satp_world.specs.Standing.{MovesStand, SessionsRun, SessionsRunFromTheFirst, WorldRun}
use Rattle.satp_world.specs.Standing.WorldRun.{Rests as Run_rests, Goes as Run_goes}
use Rattle.satp_world.specs.Worlds.{DealGoesOn, Gateway, Reached, Setting, World, as_deal, session_in, start}
use Rattle.satp_world.specs.Worlds.Gateway.{A, B}
use Rattle.satp_world.specs.Worlds.Reached.{Begins as Reached_first, Goes as Reached_next}
use Rattle.satp_world.specs.Worlds.WorldMoves.{By}
use Rattle.satp_world.proofs.WorldLaw.{deal-goes-on, entry-none, law_safety, next-stands}

pub moves-stand : MovesStand
moves-stand st w _ k (By q side bag m) = (next-stands st w k q side bag m, λ g s h. deal-goes-on st w k g s h _ (By q side bag m))

-- ---- the deal of a session

step-on : (d c e : Deal) (role : Role) → DealRun d c → GoesOn role c e → DealRun d e
step-on d c e role r (inl same) = subst (DealRun d) (sym same) r
step-on d c e role r (inr s) = Goes c e role r s

goes-on : (d : Deal) (s new : Session) → DealRun d (deal_of s) → DealGoesOn s new → DealRun d (deal_of new)
goes-on d s new r (inl same) = subst (DealRun d) (sym same) r
goes-on d s new r (inr k) = step-on d (deal_of s) (deal_of new) k.0 r k.1

pub run-reached : (st : Setting) (a b : Founding) (w v : World) → Reached st a b w → WorldRun st w v → Reached st a b v
run-reached st a b w _ r Run_rests = r
run-reached st a b w v r (Run_goes u _ before m) = Reached_next u v (run-reached st a b w u r before) m

pub sessions-run : SessionsRun
sessions-run st a b w _ r Run_rests g s h = Rests
sessions-run st a b w v r (Run_goes u _ before m) g s h =
    let k = law_safety st a b u (run-reached st a b w u r before) in
    let l = law_safety st a b v (run-reached st a b w v r (Run_goes u v before m)) in
    let old = subst (DealRun (as_deal w g s)) (k.read_off g s h) (sessions-run st a b w u r before g s h) in
    subst (DealRun (as_deal w g s)) (sym (l.read_off g s h)) (goes-on (as_deal w g s) (session_in u g s) (session_in v g s) old (k.goes_on g s h v m))

first-deal : (a b : Founding) (g : Gateway) (s : SessionId) → as_deal (start a b) g s ≡ untouched
first-deal a b A s = let x = entry-none a b A s in let y = entry-none a b B s in λ i. record { a = x i; b = y i; v = Decision.Open; ready = false }
first-deal a b B s = let x = entry-none a b B s in let y = entry-none a b A s in λ i. record { a = x i; b = y i; v = Decision.Open; ready = false }

from-start : (st : Setting) (a b : Founding) (v : World) → Reached st a b v → WorldRun st (start a b) v
from-start st a b _ Reached_first = Run_rests
from-start st a b v (Reached_next u _ r m) = Run_goes u v (from-start st a b u r) m

pub sessions-run-from-the-first : SessionsRunFromTheFirst
sessions-run-from-the-first st a b v r g s h =
    subst (λ d. DealRun d (as_deal v g s)) (first-deal a b g s) (sessions-run st a b (start a b) v Reached_first (from-start st a b v r) g s h)
