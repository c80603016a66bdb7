-- How `init` ends, from what its steps answer.
use Rattle.std.proofs.Common.{◌≡◌, ◌≢◌, ◌≤◌, ℕ, List, [], ◌∷◌, ◌++◌, option_map, Result, Ok, Err, sym, subst, arith, refl}
use Rattle.std.specs.Prelude.{codes}
use Rattle.satp_base.specs.Calls.{entered}
use Rattle.satp_base.specs.Founding.{Founding}
use Rattle.satp_base.specs.Streams.{Rose}
use Rattle.satp_base.specs.Values.{name_text}
use Rattle.satp_points.specs.States.{Tells}
use Rattle.satp_gateway.specs.SettingUp.{IsVacant, VacantAnswers, plan}
use Rattle.satp_gateway.specs.declared.fault.SetUpFault.{SetUpFault}
use Rattle.satp_gateway.specs.declared.fault.SetUpFault.TheVariants.{Already, Damaged, Site, Memory as NoMemory}
use Rattle.satp_app.specs.Init.{InitRule, IsGenesisText, IsReady, NotRead, Order, Reads, set_up_outcome}
use Rattle.satp_gateway_commands.specs.AtGateway.{tells_of}
use Rattle.satp_app.specs.Init.InitEnds.{is_set_up, not_read, not_set_up}
use Rattle.satp_outcome.specs.Outside.{OutsideState, Printed, PrintedPart}
use Rattle.satp_outcome.specs.declared.outcome.Outcome.{Outcome}
use Rattle.satp_outcome.specs.declared.outcome.Outcome.TheVariants.{Done, OutputFailed}

-- the directory was entered and the journal opened
pub is_ready : (dir named : List ℕ) (b m a : Tells) → named ≡ dir → m.told ≡ option_map (entered named) b.told → m.book ≡ b.book → IsVacant m a → IsReady dir b a
is_ready dir named b m a same told book vacant = (m, record { told = subst (λ (d : List ℕ). m.told ≡ option_map (entered d) b.told) same told; book = book }, vacant)

module _ (o : Order) (b a : OutsideState) (wire : a.wire ≡ b.wire) where
  -- the input wasn't read
  pub ends_unread : (outcome : Outcome) → IsReady o.dir (tells_of b.site) (tells_of a.site) → NotRead b.streams.input a.streams.input outcome → a.streams.out ≡ b.streams.out → a.site.faults ≡ b.site.faults → InitRule o b a outcome
  ends_unread outcome ready unread out faults = record {
    ends = not_read ready unread out;
    wire = wire;
    later = omega (arith, faults);
    cause = λ e. absurd (subst (NotRead b.streams.input a.streams.input) e unread);
    kept = λ other. faults;
  }

  module _ (ready : Tells) (is_ready : IsReady o.dir (tells_of b.site) ready) (genesis : Founding) (read : Reads b.streams.input a.streams.input (IsGenesisText genesis)) where
    abbrev Answers : Result (Unit {0}) SetUpFault → Type 0
    Answers result = VacantAnswers (plan o.setup o.kind genesis) ready (tells_of a.site) result

    -- the set-up failed
    pub ends_unset : (outcome : Outcome) (fault : SetUpFault) → outcome ≡ set_up_outcome fault → Answers (Err fault) → a.streams.out ≡ b.streams.out
        → b.site.faults ≤ a.site.faults → (fault ≡ Site → Rose b.site.faults a.site.faults) → (fault ≢ Site → a.site.faults ≡ b.site.faults) → InitRule o b a outcome
    ends_unset outcome Site is answers out later rose still = subst (InitRule o b a) (sym is) (record {
      ends = not_set_up (record { ready = ready; is_ready = is_ready; genesis = genesis; read = read; answered = answers }) out;
      wire = wire;
      later = later;
      cause = λ e. rose refl;
      kept = λ other. absurd (other refl);
    })
    ends_unset outcome NoMemory is answers out later rose still = subst (InitRule o b a) (sym is) (record {
      ends = not_set_up (record { ready = ready; is_ready = is_ready; genesis = genesis; read = read; answered = answers }) out;
      wire = wire;
      later = later;
      cause = λ e. absurd cc;
      kept = λ other. still (λ e. absurd cc);
    })
    ends_unset outcome Already is answers out later rose still = absurd answers
    ends_unset outcome (Damaged at) is answers out later rose still = absurd answers

    module _ (set_up : Answers (Ok tt)) (faults : a.site.faults ≡ b.site.faults) (name : List ℕ) (is_name : name ≡ name_text o.setup.name) where
      abbrev said : List ℕ
      said = name ++ (codes " ready" ++ 10 ∷ [])

      -- the line was printed
      pub ends_done : Printed said b.streams.out a.streams.out → InitRule o b a Done
      ends_done printed = record {
        ends = is_set_up (record { ready = ready; is_ready = is_ready; genesis = genesis; read = read; answered = set_up }, subst (λ (n : List ℕ). Printed (n ++ (codes " ready" ++ 10 ∷ [])) b.streams.out a.streams.out) is_name printed);
        wire = wire;
        later = omega (arith, faults);
        cause = λ e. absurd cc;
        kept = λ other. faults;
      }

      -- a part of it was
      pub ends_unprinted : PrintedPart said b.streams.out a.streams.out → InitRule o b a OutputFailed
      ends_unprinted printed = record {
        ends = is_set_up (record { ready = ready; is_ready = is_ready; genesis = genesis; read = read; answered = set_up }, subst (λ (n : List ℕ). PrintedPart (n ++ (codes " ready" ++ 10 ∷ [])) b.streams.out a.streams.out) is_name printed);
        wire = wire;
        later = omega (arith, faults);
        cause = λ e. absurd cc;
        kept = λ other. faults;
      }
