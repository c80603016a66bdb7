-- What carrying out a decision to work comes to, from its parts: the first record, the due work, the reply.
use Rattle.std.proofs.Common.{◌≡◌, Bool, true, false, List, [], ◌∷◌, ◌++◌, map, Option, Some, Ok, sym, ap, subst, ◌∙◌}
use Rattle.std.proofs.lemmas.List.{append_assoc}
use Rattle.satp_base.specs.Calls.{Told}
use Rattle.satp_base.specs.declared.session.SessionId.{SessionId}
use Rattle.satp_log.specs.Journals.{party_of}
use Rattle.satp_records.specs.declared.stored.Setup.{Setup}
use Rattle.satp_sides.specs.Calls.{Run, ended, named, runs, says}
use Rattle.satp_sides.specs.Due.{Due, due}
use Rattle.satp_sides.specs.Points.{Move, Side, Slot, Text, moved_by, slot_in}
use Rattle.satp_sides.specs.Points.Move.{Appends, Says}
use Rattle.satp_stops.specs.Stops.{told_steps}
use Rattle.satp_points.specs.Answers.{Breaks, Goes, GoesUnsaid}
use Rattle.satp_points.specs.Decisions.{decided_run, first_of, reply_by}
use Rattle.satp_points.specs.States.{GatewayState, Tells, area_of, kept_of, steps_of}
use Rattle.satp_points.specs.declared.decision.Decision.TheVariants.{Works}
use Rattle.satp_points.specs.declared.decision.First.{First}
use Rattle.satp_points.specs.declared.decision.Replying.{Replying}
use Rattle.satp_point_laws.proofs.Doing.{says-go}
use Rattle.satp_point_laws.proofs.GoingLaw.{moves-go-on}

module _ (s : SessionId) (first : First) (reply : Replying) (old new : GatewayState) (setup : Setup) (side : Side) (t : Told) (site : Tells) (l : Slot) (named_as : slot_in s (side.records ++ first_of (party_of setup) s first) ≡ Some l) where
  abbrev pub firsts : List Move
  firsts = map Appends (first_of (party_of setup) s first)

  -- the site's calls after the first record
  abbrev pub begun : Told
  begun = told_steps (kept_of (area_of old) setup side) (steps_of (map Appends (first_of (party_of setup) s first))) t

  abbrev pub work : Due
  work = due (party_of setup) s l side.book

  abbrev pub text : Option Text
  text = reply_by (party_of setup) s reply (due (party_of setup) s l side.book).slot

  abbrev pub run : Run
  run = decided_run (party_of setup) side (Works s first reply)

  run-is : run ≡ ended work.in_order work firsts text
  run-is = ap (named (λ x. runs (party_of setup) side s x firsts (reply_by (party_of setup) s reply))) named_as

  run-in-order : work.in_order ≡ true → run ≡ ended true work firsts text
  run-in-order order = run-is ∙ ap (λ b. ended b work firsts text) order

  -- the first record and the due work broke the gateway's site
  ended-breaks : (b : Bool) → Breaks old setup side (firsts ++ work.moves) t new site → Breaks old setup side (ended b work firsts text).moves t new site
  ended-breaks true broke =
      subst (λ (ms : List Move). Breaks old setup side ms t new site) (append_assoc firsts work.moves (says text))
      ((moves-go-on old new new setup side (firsts ++ work.moves) (says text) t site site).broke broke)
  ended-breaks false broke = broke

  run-breaks : Breaks old setup side (firsts ++ work.moves) t new site → Breaks old setup side run.moves t new site
  run-breaks broke = subst (λ (r : Run). Breaks old setup side r.moves t new site) (sym run-is) (ended-breaks work.in_order broke)

  -- a call of the first append failed
  pub first-breaks : Breaks old setup side firsts t new site → Breaks old setup side run.moves t new site
  first-breaks broke = run-breaks ((moves-go-on old new new setup side firsts work.moves t site site).broke broke)

  module _ (mid : GatewayState) (between : Tells) (goes : Goes old setup side firsts t mid between) where
    -- a call of the due work failed
    pub work-breaks : Breaks mid setup (moved_by side firsts) work.moves begun new site → Breaks old setup side run.moves t new site
    work-breaks broke = run-breaks ((moves-go-on old mid new setup side firsts work.moves t between site).breaks goes broke)

    work-goes : Goes mid setup (moved_by side firsts) work.moves begun new site → Goes old setup side (firsts ++ work.moves) t new site
    work-goes later = (moves-go-on old mid new setup side firsts work.moves t between site).goes goes later

    -- all of it was done, and this is answered
    pub run-goes : work.in_order ≡ true → Goes mid setup (moved_by side firsts) work.moves begun new site → (run.answer ≡ Some (Ok text)) × Goes old setup side run.moves t new site
    run-goes order later =
        let all = work-goes later in
        let said = (moves-go-on old new new setup side (firsts ++ work.moves) (says text) t site site).goes all (says-go new site setup _ _ text all.1) in (
          ap (λ (r : Run). r.answer) (run-in-order order),
          subst (λ (r : Run). Goes old setup side r.moves t new site) (sym (run-in-order order)) (subst (λ (ms : List Move). Goes old setup side ms t new site) (append_assoc firsts work.moves (says text)) said),
        )

    -- all but the saying of a reply
    pub run-unsaid : (u : Text) → text ≡ Some u → work.in_order ≡ true → Goes mid setup (moved_by side firsts) work.moves begun new site → GoesUnsaid run old setup side t new site
    run-unsaid u is order later = (
      firsts ++ work.moves,
      u,
      ap (λ (r : Run). r.answer) (run-in-order order) ∙ ap (λ (o : Option Text). Some (Ok o)) is,
      ap (λ (r : Run). r.moves) (run-in-order order) ∙ ap (λ (o : Option Text). firsts ++ (work.moves ++ says o)) is ∙ sym (append_assoc firsts work.moves (Says u ∷ [])),
      work-goes later,
    )
