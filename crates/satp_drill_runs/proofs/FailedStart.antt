-- A start whose first call on its site fails begins no session, and one whose third call fails is rolled back.
use Rattle.std.proofs.Common.{◌≡◌, ℕ, Bool, true, false, [], ◌∷◌, length, Option, Some, None, refl, sym, ap, ◌∙◌, lit≤, arith}
use Rattle.std.proofs.lemmas.Bool.{and_parts, leb-true}
use Rattle.satp_base.specs.Numbers.{greatest_number}
use Rattle.std.specs.Prelude.{nat_le, is_some, not, if◌then◌else◌}
use Rattle.satp_base.specs.Chains.{next_text}
use Rattle.satp_base.specs.Tales.{is_committed, is_whole}
use Rattle.satp_base.specs.Views.{begin}
use Rattle.satp_base.specs.declared.message.Part.TheVariants as part
use Rattle.satp_base.specs.declared.message.Role.TheVariants.{Origin}
use Rattle.satp_base.specs.declared.record.Rec.TheVariants.{Began}
use Rattle.satp_base.specs.declared.view.View.{View}
use Rattle.satp_rounds.proofs.SettleWorlds.{rounds-settle-worlds}
use Rattle.satp_sides.specs.Points.{Text, stored, tale_of, view_in}
use Rattle.satp_base.specs.declared.message.Terms.{Terms}
use Rattle.satp_base.specs.declared.session.SessionId.{SessionId}
use Rattle.satp_sides.specs.Calls.{Starts, refusal_of, run_of}
use Rattle.satp_world.specs.Worlds.{World, start}
use Rattle.satp_world.specs.Worlds.Gateway.{A}
use Rattle.satp_drill_runs.specs.Benches.{Fails}
use Rattle.satp_drill_runs.specs.Commands.{DoesAll, Drilling, begins, no_troubles}
use Rattle.satp_drill_runs.specs.Drills.{DrillRun, beginning, drill_setting, founded_a, founded_b, reported, units}
use Rattle.satp_drill_runs.specs.Exchanges.{calls}
use Rattle.satp_drill_runs.specs.Reports.{alpha, ann, beta, bob, gold, report_of}
use Rattle.satp_drill_runs.specs.Laws.{IsFinished}
use Rattle.satp_drill_runs.specs.Rows.{FailedStarts, failed_start}
use Rattle.satp_drill_runs.proofs.Ending.{drills-finish, drills-run, lines-reach}

abbrev failing : ℕ → Drilling
failing call = record { world = start founded_a founded_b; sent = []; limit = Some (A, Fails call); troubles = no_troubles }

abbrev first_one : SessionId
first_one = record { gateway = alpha; number = 1; low = leb-true 1 1 (and_parts (nat_le 1 1) (nat_le 1 greatest_number) refl).0; high = leb-true 1 greatest_number (and_parts (nat_le 1 1) (nat_le 1 greatest_number) refl).1 }

abbrev quarter : Terms
quarter = record { amount = units 250 (lit≤ tt) (lit≤ tt); asset = gold; beneficiary = bob; originator = ann }

run-is : DrillRun (failed_start 1) (start founded_a founded_b)
unfolding run_of refusal_of
run-is = record {
  between = record { world = start founded_a founded_b; sent = []; limit = None; troubles = no_troubles };
  does = (failing 1, refl, (record { world = start founded_a founded_b; sent = []; limit = None; troubles = no_troubles }, (calls drill_setting (begins (failing 1)) A (Starts first_one quarter), refl, refl), refl));
  recovered = (start founded_a founded_b, refl, refl);
}

begins-none : (w : World) → DrillRun (failed_start 1) w → reported (failed_start 1) w ≡ record { sessions = 1; committed = 0; rolled_back = 0; not_begun = 1; free_gold = 20000 }
unfolding report_of
begins-none w run =
    let one = drills-run (failed_start 1) in
    let is : w ≡ start founded_a founded_b = one.2 w run ∙ sym (one.2 (start founded_a founded_b) run-is) in
    let free = (drills-finish (failed_start 1) (start founded_a founded_b) run-is).free_gold in
    ap (reported (failed_start 1)) is ∙ ap (λ n. record { sessions = 1; committed = 0; rolled_back = 0; not_begun = 1; free_gold = n }) free

-- ---- the third call

-- after the line: the proposal is stored, and was not said
abbrev proposal : Text
proposal = next_text first_one beta drill_setting.key [] (part.Proposal quarter)

abbrev proposed : World
proposed = record {
  a = record { records = stored first_one (Began Origin quarter) proposal ∷ []; book = (start founded_a founded_b).a.book };
  b = (start founded_a founded_b).b;
  bag = [];
}

abbrev between : Drilling
between = record { world = proposed; sent = []; limit = None; troubles = no_troubles }

does-third : DoesAll drill_setting beginning (failed_start 3) between
unfolding run_of refusal_of
does-third = (failing 3, refl, (between, (calls drill_setting (begins (failing 3)) A (Starts first_one quarter), refl, refl), refl))

rolls-back : (w : World) → DrillRun (failed_start 3) w → reported (failed_start 3) w ≡ record { sessions = 1; committed = 0; rolled_back = 1; not_begun = 0; free_gold = 20000 }
unfolding report_of
rolls-back w run =
    let r = lines-reach (failed_start 3) between does-third in
    let known : view_in first_one proposed.a.records ≡ Some (begin Origin quarter) = refl in
    let settles = rounds-settle-worlds drill_setting founded_a founded_b proposed r A first_one refl (begin Origin quarter, known) A (begin Origin quarter, known) in
    let v = settles.after in
    let here : DrillRun (failed_start 3) v = record { between = between; does = does-third; recovered = (v, (settles.texts, settles.round), refl) } in
    let one = drills-run (failed_start 3) in
    let is : w ≡ v = one.2 w run ∙ sym (one.2 v here) in
    let end = drills-finish (failed_start 3) v here in
    let out : is_committed (tale_of (view_in first_one v.a.records)) ≡ false = settles.settled.outcome in
    let whole = settles.settled.settled.1.1 in
    ap (reported (failed_start 3)) is ∙ counted-as v end out (is-begun (view_in first_one v.a.records) whole)
  where
    is-begun : (o : Option View) → is_whole (tale_of o) ≡ true → is_some o ≡ true
    is-begun None h = absurd (cc h)
    is-begun (Some x) h = refl

    counted-as : (v : World) → IsFinished (failed_start 3) v → is_committed (tale_of (view_in first_one v.a.records)) ≡ false → is_some (view_in first_one v.a.records) ≡ true
        → reported (failed_start 3) v ≡ record { sessions = 1; committed = 0; rolled_back = 1; not_begun = 0; free_gold = 20000 }
    counted-as v end out begun =
        let none : (reported (failed_start 3) v).committed ≡ 0 = ap (λ (b : Bool). length (if b then first_one ∷ [] else [])) out in
        let known : (reported (failed_start 3) v).not_begun ≡ 0 = ap (λ (b : Bool). length (if not b then first_one ∷ [] else [])) begun in
        let sum = end.counts in
        let back : (reported (failed_start 3) v).rolled_back ≡ 1 = omega (arith, none, known, sum) in
        λ i. record { sessions = 1; committed = none i; rolled_back = back i; not_begun = known i; free_gold = end.free_gold i }

pub failed-starts : FailedStarts
failed-starts = record { first = begins-none; third = rolls-back }
