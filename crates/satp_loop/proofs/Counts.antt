-- What a wire counts, over a step and over many.
use Rattle.std.proofs.Common.{◌≡◌, ◌≤◌, ◌⊎◌, ℕ, List, [], ◌∷◌, ◌++◌, length, refl, sym, subst, ◌∙◌, inl, inr, arith, length-append}
use Rattle.std.specs.Prelude.{Result, Ok, Err}
use Rattle.satp_base.specs.Streams.{Rose}
use Rattle.satp_base.specs.declared.wire.Dial.{Dial}
use Rattle.satp_base.specs.declared.wire.Dial.TheVariants as dial
use Rattle.satp_serve.specs.declared.responder.Halt.{Halt}
use Rattle.satp_serve.specs.declared.responder.Replied.{Replied}
use Rattle.satp_serve.specs.declared.turn.ServeFault.{ServeFault}
use Rattle.satp_serve.specs.declared.turn.ServeFault.TheVariants as serve
use Rattle.satp_serve.specs.declared.turn.Turn.{Turn}
use Rattle.satp_loop.specs.Counting.{Counts, CountsSteps}
use Rattle.satp_loop.specs.Following.{Heard, Listened, NotDialled, NotSaid, Opened, Point, Refused, Served, Shut, Step, Takes, Unheard, after_piece}
use Rattle.satp_loop.specs.Lines.{Lining, refused, saying, wanting}
use Rattle.satp_loop.specs.declared.peer.Peer.{Peer}

-- ---- a line

-- a call that fails nothing: it is told, or it isn't
quiet_counts : (old new : Lining) → length old.dials ≤ length new.dials → new.faults ≡ old.faults → new.wants ≡ old.wants → Counts old new
quiet_counts old new dials faults wants = record { dials = dials; faults = omega (arith, faults); wants = omega (arith, wants); cause = inl faults }

same_counts : (line : Lining) → Counts line line
same_counts line = quiet_counts line line (omega arith) refl refl

told_counts : (d : Dial) (line : Lining) → length line.dials ≤ length (line.dials ++ d ∷ [])
told_counts d line = omega (arith, length-append line.dials (d ∷ []))

wanting_counts : (line : Lining) → Counts line (wanting line)
wanting_counts line = record { dials = omega arith; faults = omega arith; wants = omega arith; cause = inr (inl (omega arith)) }

refused_counts : (d : Dial) (line : Lining) → 2 ≤ length (line.dials ++ d ∷ []) → Counts line (refused d line)
refused_counts d line twice = record { dials = told_counts d line; faults = omega arith; wants = omega arith; cause = inr (inr twice) }

piece_counts : (result : Result Turn ServeFault) (piece : List ℕ) (line : Lining) → Counts line (after_piece result piece line)
piece_counts (Ok turn) piece line = quiet_counts line (saying piece line) (omega arith) refl refl
piece_counts (Err serve.Site) piece line = quiet_counts line (saying piece line) (omega arith) refl refl
piece_counts (Err serve.Memory) piece line = wanting_counts line

counts_then : (a b c : Lining) → Counts a b → Counts b c → Counts a c
counts_then a b c f g = record {
  dials = omega (arith, f.dials, g.dials);
  faults = omega (arith, f.faults, g.faults);
  wants = omega (arith, f.wants, g.wants);
  cause = cause f.cause g.cause;
}
  where
    cause : (b.faults ≡ a.faults) ⊎ Rose a.wants b.wants ⊎ (2 ≤ length b.dials) → (c.faults ≡ b.faults) ⊎ Rose b.wants c.wants ⊎ (2 ≤ length c.dials)
        → (c.faults ≡ a.faults) ⊎ Rose a.wants c.wants ⊎ (2 ≤ length c.dials)
    cause (inr (inl wanted)) h = inr (inl (omega (arith, wanted, g.wants)))
    cause (inr (inr twice)) h = inr (inr (omega (arith, twice, g.dials)))
    cause (inl e) (inl h) = inl (h ∙ e)
    cause (inl e) (inr (inl wanted)) = inr (inl (omega (arith, wanted, f.wants)))
    cause (inl e) (inr (inr twice)) = inr (inr twice)

-- ---- steps

module _ {S : Type 0} (replies : Peer → S → List ℕ → Result Replied Halt → Peer → S → Type 0) where
  -- the next point is this one
  at_point : (line : Lining) (p q : Point S) → q ≡ p → Counts line p.line → Counts line q.line
  at_point line p q is counts = subst (λ (m : Point S). Counts line m.line) (sym is) counts

  step_counts : (step : Step) (p q : Point S) → Takes replies step p q → Counts p.line q.line
  step_counts (Listened at) p q is = at_point p.line _ q is (quiet_counts p.line _ (told_counts (dial.Listen at) p.line) refl refl)
  step_counts (Opened d) p q is = at_point p.line _ q is.2 (quiet_counts p.line _ (told_counts d p.line) refl refl)
  step_counts (Refused d) p q is = at_point p.line _ q is.3 (refused_counts d p.line (subst (λ (m : Point S). 2 ≤ length m.line.dials) is.3 is.2))
  step_counts (NotDialled d) p q is = at_point p.line _ q is (wanting_counts p.line)
  step_counts (Heard n room) p q is = at_point p.line _ q is.2 (quiet_counts p.line _ (omega arith) refl refl)
  step_counts (Served piece result) p q is = at_point p.line _ q is.6 (piece_counts result piece p.line)
  step_counts (Unheard piece) p q is = at_point p.line _ q is.2 (quiet_counts p.line _ (omega arith) refl refl)
  step_counts (NotSaid piece) p q is = at_point p.line _ q is.1 (wanting_counts p.line)
  step_counts Shut p q is = at_point p.line _ q is (quiet_counts p.line _ (omega arith) refl refl)

  pub counts_steps : CountsSteps replies
  counts_steps [] p q is = at_point p.line p q is (same_counts p.line)
  counts_steps (step ∷ steps) p q is = counts_then p.line is.0.line q.line (step_counts step p is.0 is.1) (counts_steps steps is.0 q is.2)
