use Rattle.std.proofs.Common.{◌≡◌, ◌≢◌, ◌≤◌, ◌+◌, ℕ, Bool, true, false, List, [], ◌∷◌, ◌++◌, length, Option, Some, None, option_map, Ok, refl, sym, ap, ◌∙◌, subst, inl, inr, arith, lit≤, lit<, rules}
use Rattle.std.specs.Fmt.{digits}
use Rattle.std.specs.Prelude.{codes}
use Rattle.satp_base.specs.Calls.{Entering, Told}
use Rattle.satp_base.specs.Format.{Stands}
use Rattle.satp_base.specs.Founding.{Founding}
use Rattle.satp_base.specs.GenesisText.{AcceptsLine, nothing}
use Rattle.satp_base.specs.Lines.{Runs, StopsAt, is_line, lines_text}
use Rattle.satp_base.proofs.GenesisReading.{accepts, asset_of}
use Rattle.satp_base.proofs.Readings.{one_list}
use Rattle.satp_points.specs.States.{Tells, tells}
use Rattle.satp_gateway.specs.SettingUp.{NotVacant, Opens}
use Rattle.satp_gateway.specs.declared.fault.SetUpFault.{SetUpFault}
use Rattle.satp_gateway.specs.declared.fault.SetUpFault.TheVariants.{Already, Damaged, Site, Memory as NoMemory}
use Rattle.satp_gateway.proofs.Deciding.{opens_stands}
use Rattle.satp_app.specs.Init.{InitEnds, IsGenesisText, IsReady, SetsUp, set_up_outcome}
use Rattle.satp_app.specs.Init.InitEnds.{is_set_up, not_read, not_ready, not_set_up}
use Rattle.satp_outcome.specs.Outside.{OutsideState, StreamsState}
use Rattle.satp_outcome.specs.declared.outcome.Outcome.{Outcome}
use Rattle.satp_outcome.specs.declared.outcome.Outcome.TheVariants.{Done, Input, Place}
use Rattle.satp_outcome.specs.declared.outcome.InputEnd.TheVariants.{GenesisLine, Receiver}
use Rattle.satp_outcome.specs.declared.outcome.PlaceEnd.TheVariants.{GatewayThere}
use Rattle.satp_examples.specs.Appending.{closed, damaged, uncalled}
use Rattle.satp_examples.specs.Appending.{opened as journal}
use Rattle.satp_examples.specs.Commands.{input, out, over}
use Rattle.satp_examples.specs.Inits.{alphas, around, before, genesis_text, gold, gold_alone, inside, open_text, opened_in_vain, opened_outside, set_up, site, there, vacant}
use Rattle.satp_examples.specs.Journals.{abc}
use Rattle.satp_examples.specs.Samples.{units}
use Rattle.satp_examples.specs.Samples.{gold as the_gold}
use Rattle.satp_examples.proofs.Images.{is_damaged, is_whole}
use Rattle.satp_examples.proofs.inits.law_inits.Goals as goal

-- ---- the journal in the directory

empty_stands : Stands [] []
empty_stands = search rules

abbrev uncalled_tells : List ℕ → Tells
uncalled_tells image = tells (Some (uncalled image)) None

abbrev vacancy : Tells
vacancy = tells (Some vacant) None

is_ready : IsReady alphas.dir (uncalled_tells []) vacancy
is_ready = (tells (Some (inside [])) None, record { told = refl; book = refl }, ((journal [], refl, ([], (refl, empty_stands, refl, refl), refl)), refl))

some : abc ∷ [] ≢ []
some e = absurd cc

-- ---- the genesis

asset_line : AcceptsLine nothing (codes "asset gold 1000") gold_alone
unfolding digits
asset_line = accepts nothing gold_alone (codes "asset gold 1000") (asset_of (the_gold, units 1000 (lit≤ tt) (lit≤ tt))) (asset_of (the_gold, units 1000 (lit≤ tt) (lit≤ tt))) refl refl (record { few = lit< tt; unknown = refl; added = refl })

genesis : IsGenesisText gold_alone genesis_text
genesis = record { lines = codes "asset gold 1000" ∷ []; whole = refl; each = refl; runs = (gold_alone, asset_line, refl); short = lit≤ tt }

sets_up : SetsUp alphas (before [] genesis_text) (around (site 0 set_up gold) (over 0 []) (out 0 (codes "alpha ready\n"))) (Ok tt)
sets_up = record {
  ready = vacancy;
  is_ready = is_ready;
  genesis = gold_alone;
  read = record { read = (refl, (refl, refl)); bytes = genesis_text; is_input = refl; holds = genesis };
  answered = (refl, (refl, refl));
}

-- no line feed stands in `gold`
no_feed : (l behind : List ℕ) → open_text ≡ l ++ 10 ∷ behind → ⊥
no_feed [] behind e = absurd cc
no_feed (a ∷ []) behind e = absurd cc
no_feed (a ∷ b ∷ []) behind e = absurd cc
no_feed (a ∷ b ∷ c ∷ []) behind e = absurd cc
no_feed (a ∷ b ∷ c ∷ d ∷ []) behind e = absurd cc
no_feed (a ∷ b ∷ c ∷ d ∷ f ∷ l) behind e = absurd cc

refused_line : StopsAt AcceptsLine open_text nothing 1
refused_line = record { lines = []; rest = open_text; reached = nothing; whole = refl; each = refl; runs = refl; counted = refl; more = has_more; refused = λ l behind is e next accepted. no_feed l behind e }
  where
    has_more : open_text ≢ []
    has_more e = absurd cc

-- ---- ends that are refused

-- what an opening without a record reads
reads_list : (image : List ℕ) (payloads : List (List ℕ)) (old new : Option Told) → old ≡ Some (inside image) → Opens payloads old new → Stands image payloads
reads_list image payloads old new is opens = opens_stands payloads (inside image) new (subst (λ (o : Option Told). Opens payloads o new) is opens)

-- the journal of this area has a record, so that it isn't ready
never_ready : (a : Tells) → IsReady alphas.dir (uncalled_tells closed) a → ⊥
never_ready a (within, enters, (opens, same)) = let none = one_list closed [] (abc ∷ []) (reads_list closed [] within.told a.told enters.told opens) is_whole in absurd cc

-- an opening asks for no directory
abbrev dirs_of : Option Told → Option (List Entering)
dirs_of o = option_map (λ (t : Told). t.dirs) o

opens_dirs : (payloads : List (List ℕ)) (old new : Option Told) → Opens payloads old new → dirs_of new ≡ dirs_of old
opens_dirs payloads None new (held, list, (image, finds, is)) = ap dirs_of is
opens_dirs payloads (Some t) new (held, list, (image, finds, is)) = ap dirs_of is

abbrev entry : ℕ → Bool → Option (List Entering)
entry calls succeeded = Some (record { dir = codes "d"; before = calls; succeeded = succeeded } ∷ [])

-- with these bytes in the areas and this text on the input, the outside stands so and the command ends so
abbrev EndsAs : List ℕ → List ℕ → OutsideState → Outcome → Type 0
EndsAs image text a outcome = InitEnds alphas (before image text) a outcome

-- no opening of a journal ends so
of_done : (fault : SetUpFault) → Done ≡ set_up_outcome fault → ⊥
of_done Already e = absurd cc
of_done (Damaged at) e = absurd cc
of_done Site e = absurd cc
of_done NoMemory e = absurd cc

of_refused : (number : ℕ) (fault : SetUpFault) → Input (GenesisLine number) ≡ set_up_outcome fault → ⊥
of_refused number Already e = absurd cc
of_refused number (Damaged at) e = absurd cc
of_refused number Site e = absurd cc
of_refused number NoMemory e = absurd cc

of_receiver : (fault : SetUpFault) → Input Receiver ≡ set_up_outcome fault → ⊥
of_receiver Already e = absurd cc
of_receiver (Damaged at) e = absurd cc
of_receiver Site e = absurd cc
of_receiver NoMemory e = absurd cc

unprinted : EndsAs [] genesis_text (around (site 0 set_up gold) (over 0 []) (out 0 [])) Done → ⊥
unprinted (not_ready same (inl (fails, e))) = absurd cc
unprinted (not_ready same (inr (within, fault, enters, not, e))) = of_done fault e
unprinted (not_read ready bad printed) = bad
unprinted (not_set_up bad printed) = bad
unprinted (is_set_up (sets, printed)) = let bad = printed.2 in absurd cc

untold : EndsAs [] genesis_text (around (site 0 set_up None) (over 0 []) (out 0 (codes "alpha ready\n"))) Done → ⊥
untold (not_ready same (inl (fails, e))) = absurd cc
untold (not_ready same (inr (within, fault, enters, not, e))) = of_done fault e
untold (not_read ready bad printed) = bad
untold (not_set_up bad printed) = bad
untold (is_set_up (sets, printed)) = let bad = sets.answered.1.0 in absurd cc

read_there : EndsAs closed genesis_text (around (site 0 there None) (over 0 []) (out 0 [])) (Place GatewayThere) → ⊥
read_there (not_ready same answers) = let bad : Some [] ≡ Some genesis_text = ap (λ (s : StreamsState). s.input.left) same in absurd cc
read_there (not_read ready bad printed) = bad
read_there (not_set_up bad printed) = bad
read_there (is_set_up bad) = bad

-- only a record makes it there
already_there : (image : List ℕ) (b a : Tells) (fault : SetUpFault) → Place GatewayThere ≡ set_up_outcome fault → b.told ≡ Some (inside image) → NotVacant fault b a
    → (payloads : List (List ℕ)) × (payloads ≢ []) × Stands image payloads × (dirs_of a.told ≡ dirs_of b.told)
already_there image b a Already e is ((payloads, has, opens), same) = (payloads, has, reads_list image payloads b.told a.told is opens, opens_dirs payloads b.told a.told opens)
already_there image b a (Damaged at) e is not = absurd cc
already_there image b a Site e is not = absurd cc
already_there image b a NoMemory e is not = absurd cc

empty_there : EndsAs [] genesis_text (around (site 0 vacant None) (input 0 genesis_text) (out 0 [])) (Place GatewayThere) → ⊥
empty_there (not_ready same (inl (fails, e))) = absurd cc
empty_there (not_ready same (inr (within, fault, enters, not, e))) = let r = already_there [] within _ fault e enters.told not in r.1 (one_list [] r.0 [] r.2 empty_stands)
empty_there (not_read ready bad printed) = bad
empty_there (not_set_up bad printed) = bad
empty_there (is_set_up bad) = bad

-- the directory is told as it was entered
there_as : (told : Told) → EndsAs closed genesis_text (around (site 0 told None) (input 0 genesis_text) (out 0 [])) (Place GatewayThere) → dirs_of (Some told) ≡ entry 0 true
there_as told (not_ready same (inl (fails, e))) = absurd cc
there_as told (not_ready same (inr (within, fault, enters, not, e))) = (already_there closed within (tells (Some told) None) fault e enters.told not).3 ∙ ap dirs_of enters.told
there_as told (not_read ready bad printed) = absurd bad
there_as told (not_set_up bad printed) = absurd bad
there_as told (is_set_up bad) = absurd bad

abbrev calls_before : Option (List Entering) → ℕ
calls_before (Some (first ∷ more)) = first.before
calls_before _ = 0

abbrev succeeded : Option (List Entering) → Bool
succeeded (Some (first ∷ more)) = first.succeeded
succeeded _ = false

opened_late : entry 3 true ≡ entry 0 true → ⊥
opened_late e = let bad : 3 ≡ 0 = ap calls_before e in omega (arith, bad)

entered_in_vain : entry 0 false ≡ entry 0 true → ⊥
entered_in_vain e = let bad : false ≡ true = ap succeeded e in absurd cc

refused_there : EndsAs closed open_text (around (site 0 there None) (over 0 []) (out 0 [])) (Input (GenesisLine 1)) → ⊥
refused_there (not_ready same (inl (fails, e))) = absurd cc
refused_there (not_ready same (inr (within, fault, enters, not, e))) = of_refused 1 fault e
refused_there (not_read ready reads printed) = never_ready _ ready
refused_there (not_set_up bad printed) = bad
refused_there (is_set_up bad) = bad

first_accepted : (lines : List (List ℕ)) (rest : List ℕ) (reached : Founding) → genesis_text ≡ lines_text lines ++ rest → 1 ≡ length lines + 1 → Runs AcceptsLine nothing lines reached
    → ((l behind : List ℕ) → is_line l ≡ true → rest ≡ l ++ 10 ∷ behind → (next : Founding) → ¬ AcceptsLine reached l next) → ⊥
first_accepted [] rest reached whole counted runs refused = refused (codes "asset gold 1000") [] refl (sym whole) gold_alone (subst (λ f. AcceptsLine f (codes "asset gold 1000") gold_alone) (sym runs) asset_line)
first_accepted (l ∷ ls) rest reached whole counted runs refused = omega (arith, counted)

no_refusal : StopsAt AcceptsLine genesis_text nothing 1 → ⊥
no_refusal s = first_accepted s.lines s.rest s.reached s.whole s.counted s.runs s.refused

good_line : EndsAs [] genesis_text (around (site 0 vacant None) (over 0 []) (out 0 [])) (Input (GenesisLine 1)) → ⊥
good_line (not_ready same (inl (fails, e))) = absurd cc
good_line (not_ready same (inr (within, fault, enters, not, e))) = of_refused 1 fault e
good_line (not_read ready reads printed) = no_refusal (subst (λ bytes. StopsAt AcceptsLine bytes nothing 1) reads.is_input reads.holds.1)
good_line (not_set_up bad printed) = bad
good_line (is_set_up bad) = bad

receiver_asked : EndsAs [] genesis_text (around (site 0 vacant None) (over 0 []) (out 0 [])) (Input Receiver) → ⊥
receiver_asked (not_ready same (inl (fails, e))) = absurd cc
receiver_asked (not_ready same (inr (within, fault, enters, not, e))) = of_receiver fault e
receiver_asked (not_read ready bad printed) = bad
receiver_asked (not_set_up bad printed) = bad
receiver_asked (is_set_up bad) = bad

pub returns : goal.returns
returns c = record {
  done = record { ends = is_set_up (sets_up, (refl, refl, refl)); wire = refl; later = lit≤ tt; cause = λ e. absurd cc; kept = λ e. refl };
  there_already = record {
    ends = not_ready refl (inr (tells (Some (inside closed)) None, Already, record { told = refl; book = refl }, ((abc ∷ [], some, (journal (abc ∷ []), refl, (closed, (refl, is_whole, refl, refl), refl))), refl), refl));
    wire = refl;
    later = lit≤ tt;
    cause = λ e. absurd cc;
    kept = λ e. refl;
  };
  damaged_journal = record {
    ends = not_ready refl (inr (tells (Some (inside damaged)) None, Damaged 6, record { told = refl; book = refl }, ((damaged, refl, is_damaged, refl), refl), refl));
    wire = refl;
    later = lit≤ tt;
    cause = λ e. absurd cc;
    kept = λ e. refl;
  };
  no_directory = record { ends = not_ready refl (inl (record { told = inl refl; book = refl }, refl)); wire = refl; later = lit≤ tt; cause = λ e. lit≤ tt; kept = λ other. absurd (other refl) };
  a_line_refused = record {
    ends = not_read is_ready (record { read = (refl, (refl, refl)); bytes = open_text; is_input = refl; holds = (lit≤ tt, refused_line) }) refl;
    wire = refl;
    later = lit≤ tt;
    cause = λ e. absurd cc;
    kept = λ e. refl;
  };
  input_failed = record { ends = not_read is_ready (lit≤ tt, refl, (0, lit≤ tt, refl)) refl; wire = refl; later = lit≤ tt; cause = λ e. absurd cc; kept = λ e. refl };
  not_done_without_its_line = λ r. unprinted r.ends;
  not_done_without_its_ledger = λ r. untold r.ends;
  not_done_with_a_fault_of_the_site = λ r. let bad : 1 ≡ 0 = r.kept (λ e. absurd cc) in absurd (omega (arith, bad));
  not_there_with_the_input_read = λ r. read_there r.ends;
  not_there_where_it_is_empty = λ r. empty_there r.ends;
  not_there_opened_outside = λ r. opened_late (there_as opened_outside r.ends);
  not_there_opened_in_vain = λ r. entered_in_vain (there_as opened_in_vain r.ends);
  not_failed_without_a_fault = λ r. let bad : 1 ≤ 0 = r.cause refl in absurd (omega (arith, bad));
  not_refused_where_a_record_is = λ r. refused_there r.ends;
  not_refused_at_a_good_line = λ r. good_line r.ends;
  no_receiver_is_asked = λ r. receiver_asked r.ends;
}
