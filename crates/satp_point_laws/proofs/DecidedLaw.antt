-- A call that is decided and then carried out answers as the call does.
use Rattle.std.proofs.Common.{◌≡◌, inl, inr, Bool, true, false, List, [], ◌++◌, map, Option, Some, None, Result, Ok, Err, refl, sym, subst}
use Rattle.std.proofs.lemmas.List.{append-nil}
use Rattle.satp_base.specs.Calls.{Told}
use Rattle.satp_log.specs.Journals.{party_of}
use Rattle.satp_log.specs.Logged.{LogHolds, LogState}
use Rattle.satp_records.specs.declared.stored.Setup.{Setup}
use Rattle.satp_sides.specs.Calls.{Call, Refusal, Run, refusal_of, run_of}
use Rattle.satp_sides.specs.Calls as call
use Rattle.satp_sides.specs.Logs.{IsLog}
use Rattle.satp_sides.specs.Moves.{Among, Sayable}
use Rattle.satp_sides.specs.Moves.Sayable.{Own_text, Recovers, Updates, Succeeds, Knows_none}
use Rattle.satp_sides.specs.Others.{AreOf, session_of}
use Rattle.satp_sides.specs.Points.{Party, Side, Stored, Text}
use Rattle.satp_sides.specs.Points.Move.{Appends}
use Rattle.satp_points.specs.Answers.{GrowsBy, RunAnswers, SaysOnly, Tested, TestedBefore, Unchanged, WritesLast, heard_in, refused_as}
use Rattle.satp_points.specs.Deciding.{BrokenAnswers, Decides, DecidesAt, DecidesOver, DoneAnswers, IsDecisionOf, IsDone, KeepsMore, MayLackMemory, RefusalAnswers, WritesLate}
use Rattle.satp_points.specs.States.{GatewayState, Holds, Tells}
use Rattle.satp_points.specs.declared.decision.Decision.{Decision}
use Rattle.satp_points.specs.declared.decision.Decision.TheVariants.{Gives, Works}
use Rattle.satp_points.specs.declared.fault.Refused.{Refused}
use Rattle.satp_points.specs.declared.fault.Refused.TheVariants.{Broken, Site, Memory}

-- ---- what is said

none-among : (t : Text) → Among t [] → ⊥
none-among t h = elim h [ ]

-- where more was heard no less may be said
sayable-more : (p : Party) (xs : List Stored) (heard : List Text) (t : Text) → Sayable p xs [] t → Sayable p xs heard t
sayable-more p xs heard t (Own_text s v n _ e d r) = Own_text s v n t e d r
sayable-more p xs heard _ (Recovers s v e f) = Recovers s v e f
sayable-more p xs heard _ (Updates s v n e c f) = Updates s v n e c f
sayable-more p xs heard _ (Succeeds s v e f) = Succeeds s v e f
sayable-more p xs heard _ (Knows_none m n l g e f a b i d) = absurd (none-among _ i)

says-more : (p : Party) (xs : List Stored) (heard : List Text) (result : Result (Option Text) Refused) → SaysOnly p xs [] result → SaysOnly p xs heard result
says-more p xs heard (Ok (Some t)) h = sayable-more p xs heard t h
says-more p xs heard (Ok None) h = tt
says-more p xs heard (Err r) h = tt

-- ---- carried out

tested-before : (call : Call) (test : Option Refusal) → test ≡ None → TestedBefore call test
tested-before (call.Hears m t e) test is = tt
tested-before call test is = is

done-tested : (call : Call) (test : Option Refusal) (result : Result (Option Text) Refused) → test ≡ None → IsDone result → Tested call test result
done-tested call test (Ok reply) e h = e
done-tested call test (Err Site) e h = e
done-tested call test (Err Memory) e h = tested-before call test e
done-tested call test (Err r) e h = absurd h

writes-last : (p : Party) (xs : List Stored) (call : Call) (d : Decision) → IsDecisionOf p xs call d → WritesLate d → WritesLast call
writes-last p xs call (Gives reply) of h = absurd h
writes-last p xs call (Works s first reply) of h = of.1 h

unchanged-by : (A B : Type 0) (old new : GatewayState) (before site : Tells) (result : Result (Option Text) Refused) → (A → B) → Unchanged A old new before site result → Unchanged B old new before site result
unchanged-by A B old new before site (Ok reply) f h = tt
unchanged-by A B old new before site (Err Site) f h = tt
unchanged-by A B old new before site (Err Memory) f (inl h) = inl h
unchanged-by A B old new before site (Err Memory) f (inr h) = inr (f h)
unchanged-by A B old new before site (Err r) f h = h

grows-by : (call : Call) (d : Decision) (setup : Setup) (xs : List Stored) (new : GatewayState) (result : Result (Option Text) Refused)
    → IsDecisionOf (party_of setup) xs call d → ((reply : Option Text) → d ≡ Gives reply → result ≡ Ok reply) → KeepsMore d setup xs new result → GrowsBy call setup xs new result
grows-by call (Gives reply) setup xs new result of given (ys, holds, none, says) = (
  ys,
  holds,
  subst (λ (zs : List Stored). AreOf (session_of call) (map Appends zs)) (sym none) tt,
  subst (λ (r : Result (Option Text) Refused). SaysOnly (party_of setup) (xs ++ ys) (heard_in call) r) (sym (given reply refl))
      (subst (λ (zs : List Stored). SaysOnly (party_of setup) (xs ++ zs) (heard_in call) (Ok reply)) (sym none) (subst (λ (zs : List Stored). SaysOnly (party_of setup) zs (heard_in call) (Ok reply)) (sym (append-nil xs)) of)),
)
grows-by call (Works s first reply) setup xs new result of given (ys, holds, all, says) =
    (ys, holds, subst (λ t. AreOf t (map Appends ys)) of.0 all, says-more (party_of setup) (xs ++ ys) (heard_in call) result says)

pub done-answers : DoneAnswers
done-answers call d setup xs old new before site result whole holds decides done = record {
  tests = λ setup' xs' holds'. done-tested call (refusal_of (party_of setup') xs' call) result (decides setup' xs' holds').accepted done.only;
  run = λ setup' side t at.
      subst (λ (run : Run). RunAnswers run old setup' side t before new site result) (sym ((decides setup' side.records at.holds).comes_to side refl)) (done.run setup' side t at);
  unchanged = unchanged-by (WritesLate d) _ old new before site result (writes-last (party_of setup) xs call d (decides setup xs holds).of_call) done.unchanged;
  breaking = done.breaking;
  grows = λ setup' xs' holds'. grows-by call d setup' xs' new result (decides setup' xs' holds').of_call done.given (done.grows setup' xs' holds');
}

-- what is decided over the records of a log is decided at the gateway that the log is of
pub decides-at : (call : Call) (g : GatewayState) (log : LogState) (result : Result Decision Refused)
    → ((setup : Setup) (xs : List Stored) → Holds g setup xs → LogHolds log setup xs × IsLog (party_of setup) xs) → Decides call log result → DecidesAt call g result
unfolding Holds
decides-at call g log result keeps decides setup xs holds = let (held, is) = keeps setup xs holds in decides setup xs held holds.formed is

-- ---- refused

never-broken : (refusal : Refusal) → Broken ≡ refused_as refusal → ⊥
never-broken call.Exists e = cc e
never-broken call.Receiver e = cc e
never-broken (call.Strange s) e = cc e
never-broken (call.Chain verdict) e = cc e
never-broken (call.Recovery fault) e = cc e
never-broken (call.TooLate place) e = cc e
never-broken (call.Full count) e = cc e

never-site : (refusal : Refusal) → Site ≡ refused_as refusal → ⊥
never-site call.Exists e = cc e
never-site call.Receiver e = cc e
never-site (call.Strange s) e = cc e
never-site (call.Chain verdict) e = cc e
never-site (call.Recovery fault) e = cc e
never-site (call.TooLate place) e = cc e
never-site (call.Full count) e = cc e

lacked-before : (call : Call) (test : Option Refusal) → MayLackMemory call → TestedBefore call test
lacked-before (call.Hears m t e) test may = tt
lacked-before call test may = absurd may

refused-tested : (p : Party) (xs : List Stored) (call : Call) (r : Refused) → DecidesOver p xs call (Err r) → Tested call (refusal_of p xs call) (Err r)
refused-tested p xs call Memory h = lacked-before call (refusal_of p xs call) h
refused-tested p xs call Broken h = tt
refused-tested p xs call Site h = absurd (never-site h.0 h.2)
refused-tested p xs call r h = h

refused-run : (run : Run) (p : Party) (xs : List Stored) (call : Call) (g : GatewayState) (setup : Setup) (side : Side) (t : Told) (site : Tells) (r : Refused) → DecidesOver p xs call (Err r) → RunAnswers run g setup side t site g site (Err r)
refused-run run p xs call g setup side t site Memory h = inl (refl, refl)
refused-run run p xs call g setup side t site Site h = absurd (never-site h.0 h.2)
refused-run run p xs call g setup side t site r h = tt

refused-unchanged : (A : Type 0) (g : GatewayState) (site : Tells) (r : Refused) → Unchanged A g g site site (Err r)
refused-unchanged A g site Memory = inl (refl, refl)
refused-unchanged A g site Site = tt
refused-unchanged A g site r = (refl, refl)

err-is : (r s : Refused) → ◌≡◌ {A = Result (Option Text) Refused} (Err r) (Err s) → r ≡ s
err-is r s e = cc e

is-whole : (b : Bool) → b ≡ false → b ≡ true → ⊥
is-whole b e h = cc (e, h)

not-broken : (p : Party) (xs : List Stored) (call : Call) (r : Refused) → DecidesOver p xs call (Err r) → r ≡ Broken → ⊥
not-broken p xs call Broken h e = never-broken h.0 h.2
not-broken p xs call r h e = cc e

not-site : (p : Party) (xs : List Stored) (call : Call) (r : Refused) → DecidesOver p xs call (Err r) → r ≡ Site → ⊥
not-site p xs call Site h e = never-site h.0 h.2
not-site p xs call r h e = cc e

-- a call that keeps what there was grows by nothing
grows-not : (call : Call) (setup : Setup) (xs : List Stored) (g : GatewayState) (r : Refused) → Holds g setup xs → GrowsBy call setup xs g (Err r)
grows-not call setup xs g r holds = ([], subst (Holds g setup) (sym (append-nil xs)) holds, tt, tt)

pub refusal-answers : RefusalAnswers
refusal-answers call r setup xs g site whole holds decides =
    let over = decides setup xs holds in
    record {
      tests = λ setup' xs' holds'. refused-tested (party_of setup') xs' call r (decides setup' xs' holds');
      run = λ setup' side t at. refused-run (run_of (party_of setup') side call) (party_of setup) xs call g setup' side t site r over;
      unchanged = refused-unchanged _ g site r;
      breaking = record {
        found = λ broken. absurd (is-whole _ whole broken);
        answered = λ e. absurd (not-broken (party_of setup) xs call r over (err-is r Broken e));
        broke = λ e. absurd (not-site (party_of setup) xs call r over (err-is r Site e));
        whole = λ broken. absurd (is-whole _ whole broken);
      };
      grows = λ setup' xs' holds'. grows-not call setup' xs' g r holds';
    }

-- ---- a broken gateway

site-not : ◌≡◌ {A = Result (Option Text) Refused} (Err Broken) (Err Site) → ⊥
site-not e = cc e

pub broken-answers : BrokenAnswers
broken-answers call g site broken = record {
  tests = λ setup xs holds. tt;
  run = λ setup side t at. tt;
  unchanged = (refl, refl);
  breaking = record { found = λ b. refl; answered = λ e. broken; broke = λ e. absurd (site-not e); whole = λ b. inl b };
  grows = λ setup xs holds. grows-not call setup xs g Broken holds;
}
