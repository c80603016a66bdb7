use Rattle.std.proofs.Common.{refl}
use Rattle.clap.proofs.OnLiterals.{clap_on_literals}
use Rattle.satp_words.proofs.laws.law_examples.Goals as goal

pub returns-clause-takes : goal.returns-clause-takes
unfolding clap_on_literals
returns-clause-takes c = record {
  apart_and_attached = refl;
  empty_attached = refl;
  empty_apart = refl;
  equals = refl;
  dash_apart = refl;
  dash_attached = refl;
  end = refl;
}

pub returns-clause-refuses : goal.returns-clause-refuses
unfolding clap_on_literals
returns-clause-refuses c = record {
  dash = refl;
  option_value = refl;
  twice = refl;
  behind_end = refl;
  two_ends = refl;
  end_as_value = refl;
  missing = refl;
}

pub returns-clause-check : goal.returns-clause-check
unfolding clap_on_literals
returns-clause-check c = record {
  none = refl;
  no_key = refl;
  help = refl;
  short_help = refl;
  help_word = refl;
  part_of_name = refl;
  key_apart = refl;
  key_attached = refl;
  key_read = refl;
  key_read_attached = refl;
  key_twice = refl;
  key_without_a_value = refl;
  word_too_many = refl;
}

pub returns-clause-init : goal.returns-clause-init
unfolding clap_on_literals
returns-clause-init c = record {
  apart = refl;
  attached = refl;
  dir = (refl, refl);
  name = (refl, refl);
  peer = (refl, refl);
  at = (refl, refl);
  the_key = (refl, refl);
  ledger = (refl, refl);
  missing = refl;
  missing_attached = refl;
  twice = refl;
  word_too_many = refl;
  unknown = refl;
}

pub returns-clause-transfers : goal.returns-clause-transfers
unfolding clap_on_literals
returns-clause-transfers c = record {
  start_taken = refl;
  from = refl;
  to = refl;
  serve_taken = refl;
  connections = refl;
  session = refl;
  no_connections = refl;
  of_another = refl;
  bare_session = refl;
}

pub returns-clause-replay : goal.returns-clause-replay
unfolding clap_on_literals
returns-clause-replay c = record {
  alone = refl;
  end = refl;
  word_too_many = refl;
  of_another = refl;
  help = refl;
  empty_word = refl;
}

pub returns-clause-drill : goal.returns-clause-drill
unfolding clap_on_literals
returns-clause-drill c = record {
  apart = refl;
  attached = refl;
  seed = (refl, refl);
  missing = refl;
  bare_seed = refl;
  twice = refl;
  of_another = refl;
}
