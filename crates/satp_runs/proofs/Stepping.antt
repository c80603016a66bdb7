-- One call that was answered, as its run has it.
use Rattle.std.proofs.Common.{◌≡◌, List, [], Option, Some, Result, Ok, Err, refl, sym, ap, subst}
use Rattle.satp_base.specs.Calls.{Told}
use Rattle.satp_log.specs.Journals.{party_of}
use Rattle.satp_points.specs.Answers.{Answers, Breaking, Goes, RunAnswers, Stays, Tested, Unchanged, WritesLast, refused_as}
use Rattle.satp_points.specs.States.{GatewayState, IsAt, Tells, area_of}
use Rattle.satp_points.specs.declared.fault.Refused.{Refused}
use Rattle.satp_points.specs.declared.fault.Refused.TheVariants.{Body, Broken, Chain, Exists, Full, Header, Jws, Memory, Receiver, Recovery, Site, Size, Strange, TooLate}
use Rattle.satp_records.specs.declared.stored.Setup.{Setup}
use Rattle.satp_sides.specs.Calls.{Call, Refusal, Run, accepted, by_tests, refusal_of, refused, run_of}
use Rattle.satp_sides.specs.Points.{Move, Party, Side, Text}
use Rattle.satp_runs.specs.Asking.{IsAnswered}
use Rattle.satp_runs.specs.Living.{AnswersAs}
use Rattle.satp_runs.proofs.Reading.{broken-no-more}

-- a call that a test refuses makes no move
refused-run : (p : Party) (side : Side) (call : Call) (r : Refusal) → refusal_of p side.records call ≡ Some r → run_of p side call ≡ refused r
unfolding run_of
refused-run p side call r e = ap (λ (o : Option Refusal). by_tests o (accepted p side call)) e

pub still-goes : (old new : GatewayState) (before site : Tells) (setup : Setup) (side : Side) (t : Told) → IsAt old before setup side t → Stays old new before site → Goes old setup side [] t new site
still-goes old new before site setup side t at stays = (
  ap area_of stays.0,
  subst (λ (g : GatewayState). IsAt g site setup side t) (sym stays.0) (subst (λ (s : Tells). IsAt old s setup side t) (sym stays.1) at),
)

module _ (call : Call) (old new : GatewayState) (before site : Tells) (setup : Setup) (side : Side) (t : Told) (at : IsAt old before setup side t) where
  abbrev Steps : Party → Result (Option Text) Refused → Type 0
  Steps p result = Goes old setup side (run_of p side call).moves t new site × AnswersAs (run_of p side call).answer result

  by-refusal : (r : Refused) → ((refusal : Refusal) × (refusal_of (party_of setup) side.records call ≡ Some refusal) × (r ≡ refused_as refusal)) → Stays old new before site → Steps (party_of setup) (Err r)
  by-refusal r (refusal, e, is) stays =
      let run = refused-run (party_of setup) side call refusal e in (
        subst (λ (l : List Move). Goes old setup side l t new site) (sym (ap (λ (x : Run). x.moves) run)) (still-goes old new before site setup side t at stays),
        (refusal, ap (λ (x : Run). x.answer) run, is),
      )

  by-result : (Late : Type 0) (result : Result (Option Text) Refused) → RunAnswers (run_of (party_of setup) side call) old setup side t before new site result
      → Tested call (refusal_of (party_of setup) side.records call) result → Unchanged Late old new before site result → Breaking old new result → IsAnswered result → Steps (party_of setup) result
  by-result Late (Ok reply) answers tested still breaking ok = (answers.1, answers.0)
  by-result Late (Err Broken) answers tested still breaking ok = absurd (broken-no-more old at.whole (breaking.answered refl))
  by-result Late (Err (Size n)) answers tested still breaking ok = by-refusal (Size n) tested still
  by-result Late (Err (Jws fault)) answers tested still breaking ok = by-refusal (Jws fault) tested still
  by-result Late (Err Header) answers tested still breaking ok = by-refusal Header tested still
  by-result Late (Err (Body fault)) answers tested still breaking ok = by-refusal (Body fault) tested still
  by-result Late (Err Receiver) answers tested still breaking ok = by-refusal Receiver tested still
  by-result Late (Err (Strange s)) answers tested still breaking ok = by-refusal (Strange s) tested still
  by-result Late (Err (Chain verdict)) answers tested still breaking ok = by-refusal (Chain verdict) tested still
  by-result Late (Err (Recovery fault)) answers tested still breaking ok = by-refusal (Recovery fault) tested still
  by-result Late (Err (Full count)) answers tested still breaking ok = by-refusal (Full count) tested still
  by-result Late (Err Exists) answers tested still breaking ok = by-refusal Exists tested still
  by-result Late (Err (TooLate place)) answers tested still breaking ok = by-refusal (TooLate place) tested still
  by-result Late (Err Site) answers tested still breaking ok = absurd ok
  by-result Late (Err Memory) answers tested still breaking ok = absurd ok

  pub call-steps : (p : Party) → party_of setup ≡ p → (result : Result (Option Text) Refused) → Answers call old new before site result → IsAnswered result → Steps p result
  call-steps p party result answers ok =
      subst (λ (q : Party). Steps q result) party
      (by-result (WritesLast call) result (answers.run setup side t at) (answers.tests setup side.records at.holds) answers.unchanged answers.breaking ok)
