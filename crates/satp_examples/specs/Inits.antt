-- How `init` ends: the gateway alpha, with a ledger of gold, is to be set up in the directory `d`.
use Rattle.std.specs.Prelude.{ℕ, false, List, [], ◌∷◌, codes, replicate, Option, Some, None}
use Rattle.satp_base.specs.Acts.{founded}
use Rattle.satp_base.specs.Calls.{Told, enter_failed, entered, made}
use Rattle.satp_base.specs.Founding.{Founding}
use Rattle.satp_base.specs.Money.{Book}
use Rattle.satp_base.specs.Segments.{append_events}
use Rattle.satp_base.specs.declared.area.Area.TheVariants.{JournalA}
use Rattle.satp_base.specs.declared.area.Event.TheVariants.{Wrote}
use Rattle.satp_base.specs.declared.ledger.LedgerKind.TheVariants.{Accounts}
use Rattle.satp_gateway.specs.SettingUp.{Plan, founds, plan}
use Rattle.satp_app.specs.Init.{InitRule, Order, order, setup_of}
use Rattle.satp_outcome.specs.Outside.{OutsideState, SinkState, SiteState, SourceState, WireState}
use Rattle.satp_outcome.specs.declared.outcome.Outcome.{Outcome}
use Rattle.satp_outcome.specs.declared.outcome.Outcome.TheVariants.{Done, InputFailed, Input, Place}
use Rattle.satp_outcome.specs.declared.outcome.PlaceEnd.TheVariants.{GatewayThere, JournalDamaged, Site}
use Rattle.satp_outcome.specs.declared.outcome.InputEnd.TheVariants.{GenesisLine, Receiver}
use Rattle.satp_examples.specs.Appending.{closed, damaged, uncalled}
use Rattle.satp_examples.specs.Commands.{input, out, over}
use Rattle.satp_examples.specs.Genesis.{gold_1000}
use Rattle.satp_examples.specs.Records.{at_b}
use Rattle.satp_examples.specs.Samples.{alpha, beta}
use Rattle.satp_examples.specs.Segments.{synced}

abbrev pub alphas : Order
alphas = order (codes "d") (setup_of alpha beta at_b (replicate 32 7)) Accounts

-- one asset, and no holding
abbrev pub genesis_text : List ℕ
genesis_text = codes "asset gold 1000\n"

abbrev pub gold_alone : Founding
gold_alone = record { assets = gold_1000 ∷ []; holds = [] }

-- the line has no end
abbrev pub open_text : List ℕ
open_text = codes "gold"

abbrev pub site : ℕ → Told → Option Book → SiteState
site faults told book = record { faults = faults; told = Some told; book = book }

-- no call was made on it
abbrev pub closed_wire : WireState
closed_wire = record { faults = 0; told = Some (record { conversations = []; dials = [] }); listens = false; is_open = false }

abbrev pub around : SiteState → SourceState → SinkState → OutsideState
around s i o = record { streams = record { input = i; out = o }; site = s; wire = closed_wire }

-- no call was made on areas with these bytes, this text is on the input, and nothing is printed
abbrev pub before : List ℕ → List ℕ → OutsideState
before image text = around (site 0 (uncalled image) None) (input 0 text) (out 0 [])

-- ---- what a site tells

abbrev pub inside : List ℕ → Told
inside image = entered (codes "d") (uncalled image)

-- the directory was entered, and the journal opened
abbrev pub vacant : Told
vacant = made 5 (synced ∷ Wrote JournalA 0 (0 ∷ []) ∷ synced ∷ []) (inside [])

abbrev pub there : Told
there = made 3 (synced ∷ []) (inside closed)

abbrev pub found_damaged : Told
found_damaged = made 3 (synced ∷ []) (inside damaged)

-- the journal was opened before the directory was entered
abbrev pub opened_outside : Told
opened_outside = entered (codes "d") (made 3 (synced ∷ []) (uncalled closed))

-- the directory was asked for in vain, and the journal opened all the same
abbrev pub opened_in_vain : Told
opened_in_vain = made 3 (synced ∷ []) (enter_failed (codes "d") (uncalled closed))

-- then the set-up: the ledger was founded and the record stored
abbrev pub setup_plan : Plan
setup_plan = plan alphas.setup Accounts gold_alone

abbrev pub set_up : Told
set_up = made 4 (append_events JournalA 0 setup_plan.payload) (founds setup_plan vacant)

-- ---- ends

abbrev pub Ends : OutsideState → OutsideState → Outcome → Type 0
Ends b a outcome = InitRule alphas b a outcome

-- the ledger that is told
abbrev pub gold : Option Book
gold = Some (founded gold_alone)

pub record EndsOfInit : Type 0 where
  pub done : Ends (before [] genesis_text) (around (site 0 set_up gold) (over 0 []) (out 0 (codes "alpha ready\n"))) Done
  pub there_already : Ends (before closed genesis_text) (around (site 0 there None) (input 0 genesis_text) (out 0 [])) (Place GatewayThere)
  pub damaged_journal : Ends (before damaged genesis_text) (around (site 0 found_damaged None) (input 0 genesis_text) (out 0 [])) (Place (JournalDamaged 6))
  pub no_directory : Ends (before [] genesis_text) (around (site 1 (enter_failed (codes "d") (uncalled [])) None) (input 0 genesis_text) (out 0 [])) (Place Site)
  pub a_line_refused : Ends (before [] open_text) (around (site 0 vacant None) (over 0 []) (out 0 [])) (Input (GenesisLine 1))
  pub input_failed : Ends (before [] genesis_text) (around (site 0 vacant None) (over 1 genesis_text) (out 0 [])) InputFailed
  pub not_done_without_its_line : ¬ Ends (before [] genesis_text) (around (site 0 set_up gold) (over 0 []) (out 0 [])) Done
  pub not_done_without_its_ledger : ¬ Ends (before [] genesis_text) (around (site 0 set_up None) (over 0 []) (out 0 (codes "alpha ready\n"))) Done
  pub not_done_with_a_fault_of_the_site : ¬ Ends (before [] genesis_text) (around (site 1 set_up gold) (over 0 []) (out 0 (codes "alpha ready\n"))) Done
  -- the input isn't read where a record is there
  pub not_there_with_the_input_read : ¬ Ends (before closed genesis_text) (around (site 0 there None) (over 0 []) (out 0 [])) (Place GatewayThere)
  pub not_there_where_it_is_empty : ¬ Ends (before [] genesis_text) (around (site 0 vacant None) (input 0 genesis_text) (out 0 [])) (Place GatewayThere)
  -- the directory is entered before the first call on its journal, and not in vain
  pub not_there_opened_outside : ¬ Ends (before closed genesis_text) (around (site 0 opened_outside None) (input 0 genesis_text) (out 0 [])) (Place GatewayThere)
  pub not_there_opened_in_vain : ¬ Ends (before closed genesis_text) (around (site 0 opened_in_vain None) (input 0 genesis_text) (out 0 [])) (Place GatewayThere)
  pub not_failed_without_a_fault : ¬ Ends (before [] genesis_text) (around (site 0 (enter_failed (codes "d") (uncalled [])) None) (input 0 genesis_text) (out 0 [])) (Place Site)
  -- the journal is looked at before the input
  pub not_refused_where_a_record_is : ¬ Ends (before closed open_text) (around (site 0 there None) (over 0 []) (out 0 [])) (Input (GenesisLine 1))
  pub not_refused_at_a_good_line : ¬ Ends (before [] genesis_text) (around (site 0 vacant None) (over 0 []) (out 0 [])) (Input (GenesisLine 1))
  pub no_receiver_is_asked : ¬ Ends (before [] genesis_text) (around (site 0 vacant None) (over 0 []) (out 0 [])) (Input Receiver)
