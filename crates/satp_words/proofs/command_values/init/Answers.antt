use Rattle.std.proofs.Common.{ap, sym, Err, refl}
use Rattle.std.specs.Prelude.{Option}
use Rattle.clap.specs.Words.{Text, first_value, found_of}
use Rattle.clap.specs.declared.parser.matches.ArgMatches.{ArgMatches}
use Rattle.satp_base.proofs.Equalities.{eq_name}
use Rattle.satp_words.proofs.Listings.{differ, handed, one_name}
use Rattle.satp_words.proofs.command_values.init.Goals as goal

abbrev values : ArgMatches → Text → Option Text
values found = first_value (found_of found)

pub returns-in_err-dir-clause-refused : goal.returns-in_err-dir-clause-refused
returns-in_err-dir-clause-refused c e dir name peer at key ledger h = c.in_err-dir.ensures.refused (ap Err (sym (handed _ _ _ c.from_residual.ensures.1 e))) dir h.has_dir

pub returns-in_err-name-clause-refused : goal.returns-in_err-name-clause-refused
returns-in_err-name-clause-refused c e dir name peer at key ledger h = c.in_err-name.ensures.refused (ap Err (sym (handed _ _ _ c.from_residual-in_err-name.ensures.1 e))) name h.has_name

pub returns-in_err-peer-clause-refused : goal.returns-in_err-peer-clause-refused
returns-in_err-peer-clause-refused c e dir name peer at key ledger h = c.in_err-peer.ensures.refused (ap Err (sym (handed _ _ _ c.from_residual-in_err-peer.ensures.1 e))) peer h.has_peer

pub returns-in_err-at-clause-refused : goal.returns-in_err-at-clause-refused
returns-in_err-at-clause-refused c e dir name peer at key ledger h = c.in_err-at.ensures.refused (ap Err (sym (handed _ _ _ c.from_residual-in_err-at.ensures.1 e))) at h.has_at

pub returns-in_err-ledger-clause-refused : goal.returns-in_err-ledger-clause-refused
returns-in_err-ledger-clause-refused c e dir name peer at key ledger h = c.in_err-ledger.ensures.refused (ap Err (sym (handed _ _ _ c.from_residual-in_err-ledger.ensures.1 e))) ledger h.has_ledger

pub returns-in_err-key-clause-refused : goal.returns-in_err-key-clause-refused
returns-in_err-key-clause-refused c e dir name peer at key ledger h = c.in_err-key.ensures.refused (ap Err (sym (handed _ _ _ c.from_residual-in_err-key.ensures.1 e))) h.has_key.0 key h.has_key.1 h.has_key.2

pub returns-then-eq-clause-refused : goal.returns-then-eq-clause-refused
returns-then-eq-clause-refused c e dir name peer at key ledger h =
    h.apart (one_name _ _ c.in_ok-peer.peer c.in_ok-name.name peer name c.in_ok-peer.ensures.ok c.in_ok-name.ensures.ok h.has_peer h.has_name (eq_name c.in_ok-peer.peer c.in_ok-name.name (sym c.if-eq.ensures)))

pub returns-clause-ok : goal.returns-clause-ok
returns-clause-ok c = (
  refl,
  record {
    has_dir = c.in_ok-dir.ensures.ok;
    has_name = c.in_ok-name.ensures.ok;
    has_peer = c.in_ok-peer.ensures.ok;
    has_at = c.in_ok-at.ensures.ok;
    has_key = c.in_ok-key.ensures.ok;
    has_ledger = c.in_ok-ledger.ensures.ok;
    apart = differ c.in_ok-peer.peer c.in_ok-name.name c.if-eq.ensures;
  },
)
