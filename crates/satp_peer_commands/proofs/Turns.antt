-- Connections that are served one after the other.
use Rattle.std.proofs.Common.{◌≡◌, ◌≢◌, ◌≤◌, ◌<◌, ◌∙◌, ℕ, ◌+◌, ◌*◌, ◌-◌, ◌^◌, true, false, List, [], ◌∷◌, ◌++◌, length, refl, subst, sym, ap, arith, length-append}
use Rattle.std.specs.Prelude.{Ok, Err, min}
use Rattle.std.proofs.Math.Nat.{le-min, min-le_left, min-le_right}
use Rattle.satp_base.specs.Streams.{Rose}
use Rattle.satp_outcome.specs.Outside.{SiteState}
use Rattle.satp_outcome.specs.declared.outcome.Outcome.{Outcome}
use Rattle.satp_outcome.specs.declared.outcome.Outcome.TheVariants.{Done, RolledBack, WordsRefused, Memory, InputFailed, OutputFailed, Input, Peer, Place}
use Rattle.satp_outcome.specs.declared.outcome.PeerEnd.TheVariants as peer
use Rattle.satp_outcome.specs.declared.outcome.PlaceEnd.TheVariants as place
use Rattle.satp_serve.specs.declared.connection.Connection.{Connection}
use Rattle.satp_serve.specs.declared.connection.ConnectionEnd.{ConnectionEnd}
use Rattle.satp_serve.specs.declared.connection.ConnectionEnd.TheVariants as end
use Rattle.satp_peer_commands.specs.declared.tally.Tally.{Tally}
use Rattle.satp_peer_commands.specs.Serving.{GoesOn, Point, Serves, ServesAll, ServesEach, ServesNext, fault_of, faults_in, requests_in}

-- one more connection was served
each_more : (b m a : Point) (served : List Connection) (connection : Connection) → ServesEach b served m → Serves m connection a → GoesOn connection.end → ServesEach b (served ++ connection ∷ []) a
each_more b m a [] connection each serves on = (a, subst (λ (p : Point). Serves p connection a) each serves, on, refl)
each_more b m a (first ∷ served) connection each serves on = (each.0, each.1, each.2, each_more each.0 m a served connection each.3 serves on)

requests_more : (served : List Connection) (connection : Connection) → requests_in (served ++ connection ∷ []) ≡ requests_in served + connection.requests
requests_more [] connection = omega arith
requests_more (first ∷ served) connection = let e = requests_more served connection in omega (arith, e)

faults_more : (served : List Connection) (connection : Connection) → faults_in (served ++ connection ∷ []) ≡ faults_in served + fault_of connection
faults_more [] connection = omega arith
faults_more (first ∷ served) connection = let e = faults_more served connection in omega (arith, e)

fault_once : (why : ConnectionEnd) → fault_of (record { requests = 0; end = why }) ≤ 1
fault_once end.Closed = omega arith
fault_once end.Ended = omega arith
fault_once end.Wire = omega arith
fault_once end.Site = omega arith
fault_once end.Memory = omega arith

-- so many connections were served so far, and serving goes on
pub record Served (b a : Point) (done requests faults : ℕ) : Type 0 where
  pub served : List Connection
  pub count : length served ≡ done
  pub each : ServesEach b served a
  pub requests_are : requests ≡ requests_in served
  pub faults_are : faults ≡ faults_in served
  pub few_requests : requests ≤ 64 * done
  pub few_faults : faults ≤ done
  pub is_open : a.wire.is_open ≡ false
  pub listens : a.wire.listens ≡ true
  pub wire_later : b.wire.faults ≤ a.wire.faults
  pub site_kept : a.site.faults ≡ b.site.faults

pub none : (b : Point) → b.wire.is_open ≡ false → b.wire.listens ≡ true → Served b b 0 0 0
none b is_open listens = record {
  served = [];
  count = refl;
  each = refl;
  requests_are = refl;
  faults_are = refl;
  few_requests = omega arith;
  few_faults = omega arith;
  is_open = is_open;
  listens = listens;
  wire_later = omega arith;
  site_kept = refl;
}

not_site : (why : ConnectionEnd) → GoesOn why → why ≢ end.Site
not_site end.Closed on e = cc
not_site end.Ended on e = cc
not_site end.Wire on e = cc
not_site end.Site on e = absurd on
not_site end.Memory on e = absurd on

pub one_more : (b m a : Point) (done requests faults more fault : ℕ) (connection : Connection) → Served b m done requests faults → Serves m connection a → GoesOn connection.end
    → more ≡ requests + connection.requests → fault ≡ faults + fault_of connection → Served b a (done + 1) more fault
one_more b m a done requests faults more fault connection s serves on more_is fault_is = record {
  served = s.served ++ connection ∷ [];
  count = length-append s.served (connection ∷ []) ∙ ap (λ (n : ℕ). n + 1) s.count;
  each = each_more b m a s.served connection s.each serves on;
  requests_are = more_is ∙ ap (λ (n : ℕ). n + connection.requests) s.requests_are ∙ sym (requests_more s.served connection);
  faults_are = fault_is ∙ ap (λ (n : ℕ). n + fault_of connection) s.faults_are ∙ sym (faults_more s.served connection);
  few_requests = omega (arith, more_is, s.few_requests, serves.most);
  few_faults = omega (arith, fault_is, s.few_faults, fault_once connection.end);
  is_open = serves.is_open;
  listens = serves.listens ∙ s.listens;
  wire_later = omega (arith, s.wire_later, serves.wire_later);
  site_kept = serves.site_kept (not_site connection.end on) ∙ s.site_kept;
}

-- ---- the end

pub rose_since : (first before after : ℕ) → first ≤ before → Rose before after → Rose first after
rose_since first before after earlier rose =
    let less : min (first + 1) (2 ^ 64 - 1) ≤ before + 1 = omega (arith, min-le_left (first + 1) (2 ^ 64 - 1), earlier) in
    let both : min (first + 1) (2 ^ 64 - 1) ≤ min (before + 1) (2 ^ 64 - 1) = le-min less (min-le_right (first + 1) (2 ^ 64 - 1)) in
    omega (arith, both, rose)

pub all_served : (b a : Point) (connections : ℕ) (tally : Tally) → Served b a connections tally.requests tally.faults → ServesAll connections b a (Ok tally)
all_served b a connections tally s = record {
  to = record { served = s.served; all = s.count; each = s.each; requests = s.requests_are; faults = s.faults_are };
  is_open = s.is_open;
  listens = s.listens;
  wire_later = s.wire_later;
  wire_rose = λ e. absurd (cc e);
  site_later = omega (arith, s.site_kept);
  site_rose = λ e. absurd (cc e);
  site_kept = λ other. s.site_kept;
}

pub ended_early : (b m a : Point) (connections done requests faults : ℕ) (outcome : Outcome) → Served b m done requests faults → done < connections → ServesNext m a (Err outcome) → ServesAll connections b a (Err outcome)
ended_early b m a connections done requests faults (Peer peer.Wire) s fewer is = record {
  to = record { served = s.served; fewer = omega (arith, s.count, fewer); before = m; each = s.each; fails = is };
  is_open = is.is_open;
  listens = is.listens ∙ s.listens;
  wire_later = omega (arith, s.wire_later, is.later);
  wire_rose = λ e. rose_since b.wire.faults m.wire.faults a.wire.faults s.wire_later is.rose;
  site_later = let same = ap (λ (x : SiteState). x.faults) is.site in omega (arith, same, s.site_kept);
  site_rose = λ e. absurd (cc e);
  site_kept = λ other. ap (λ (x : SiteState). x.faults) is.site ∙ s.site_kept;
}
ended_early b m a connections done requests faults (Place place.Site) s fewer (last, serves, ended) = record {
  to = record { served = s.served; fewer = omega (arith, s.count, fewer); before = m; each = s.each; last = last; serves = serves; ended = ended };
  is_open = serves.is_open;
  listens = serves.listens ∙ s.listens;
  wire_later = omega (arith, s.wire_later, serves.wire_later);
  wire_rose = λ e. absurd (cc e);
  site_later = let same = s.site_kept in omega (arith, same, serves.site_later);
  site_rose = λ e. subst (λ (n : ℕ). Rose n a.site.faults) s.site_kept (serves.site_rose ended);
  site_kept = λ other. absurd (other refl);
}
ended_early b m a connections done requests faults Memory s fewer (last, serves, ended) =
    let kept : a.site.faults ≡ m.site.faults = serves.site_kept (in_memory last.end ended) in
    record {
      to = record { served = s.served; fewer = omega (arith, s.count, fewer); before = m; each = s.each; last = last; serves = serves; ended = ended };
      is_open = serves.is_open;
      listens = serves.listens ∙ s.listens;
      wire_later = omega (arith, s.wire_later, serves.wire_later);
      wire_rose = λ e. absurd (cc e);
      site_later = omega (arith, s.site_kept, kept);
      site_rose = λ e. absurd (cc e);
      site_kept = λ other. kept ∙ s.site_kept;
    }
  where
    in_memory : (why : ConnectionEnd) → why ≡ end.Memory → why ≢ end.Site
    in_memory why is e = cc
ended_early b m a connections done requests faults Done s fewer is = absurd is
ended_early b m a connections done requests faults RolledBack s fewer is = absurd is
ended_early b m a connections done requests faults WordsRefused s fewer is = absurd is
ended_early b m a connections done requests faults InputFailed s fewer is = absurd is
ended_early b m a connections done requests faults OutputFailed s fewer is = absurd is
ended_early b m a connections done requests faults (Input x) s fewer is = absurd is
ended_early b m a connections done requests faults (Peer x) s fewer is = absurd is
ended_early b m a connections done requests faults (Place x) s fewer is = absurd is
