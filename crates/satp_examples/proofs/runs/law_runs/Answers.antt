use Rattle.std.proofs.Common.{◌≡◌, ◌⊎◌, ◌<◌, ◌≤◌, ℕ, zero, suc, List, [], ◌∷◌, ◌++◌, Option, Some, None, length, option_map, refl, sym, ap, ◌∙◌, subst, inl, inr, arith, lit≤, lit<}
use Rattle.std.specs.Fmt.{digits}
use Rattle.std.specs.Prelude.{codes, slice_index}
use Rattle.base64.specs.Rfc4648.{encode_symbols}
use Rattle.satp_base.specs.Calls.{Told}
use Rattle.satp_base.specs.Canonical.{canonical, kind_of}
use Rattle.satp_base.specs.declared.message.Message.{Message}
use Rattle.satp_app.specs.Check.{line}
use Rattle.satp_app.specs.Commands.{CommandRule, EndRule, Reports, terms_of}
use Rattle.satp_gateway.specs.declared.fault.SetUpFault.{SetUpFault}
use Rattle.satp_gateway.specs.declared.fault.SetUpFault.TheVariants.{Already, Damaged, Site, Memory as NoMemory}
use Rattle.satp_app.specs.Init.{InitEnds, Order, set_up_outcome}
use Rattle.satp_app.specs.Init.InitEnds.{is_set_up, not_read, not_ready, not_set_up}
use Rattle.satp_outcome.specs.Outcomes.{input_status, peer_status, place_status, status_of}
use Rattle.satp_outcome.specs.Outside.{OutsideState, SinkState, SiteState, WireState}
use Rattle.satp_outcome.specs.declared.outcome.Outcome.{Outcome}
use Rattle.satp_outcome.specs.declared.outcome.Outcome.TheVariants.{Done, RolledBack, WordsRefused, Memory, InputFailed, OutputFailed, Input, Place, Peer}
use Rattle.satp_outcome.specs.declared.outcome.PeerEnd.{PeerEnd}
use Rattle.satp_outcome.specs.declared.outcome.PeerEnd.TheVariants as peer
use Rattle.satp_outcome.specs.declared.outcome.PlaceEnd.{PlaceEnd}
use Rattle.satp_outcome.specs.declared.outcome.PlaceEnd.TheVariants as place
use Rattle.satp_outcome.specs.declared.outcome.InputEnd.{InputEnd}
use Rattle.satp_outcome.specs.declared.outcome.InputEnd.TheVariants as input
use Rattle.satp_gateway_commands.specs.Aborting.{AbortWorks}
use Rattle.satp_gateway_commands.specs.Showing.{ShowWorks}
use Rattle.satp_peer_commands.specs.Driving.{RecoverWorks, ResumeWorks, StartWorks}
use Rattle.satp_peer_commands.specs.Serving.{ServeWorks}
use Rattle.satp_words.specs.Commands.{IsListed}
use Rattle.satp_words.specs.declared.command.Command.{Command}
use Rattle.satp_words.specs.declared.command.Command.TheVariants.{Answer, Check, Init, Serve, Start, Resume, Recover, Abort, Show, Replay, Drill}
use Rattle.satp_examples.specs.Commands.{out}
use Rattle.satp_examples.specs.Messages.{proposal_text}
use Rattle.satp_examples.specs.Replies.{proposal, receipt}
use Rattle.satp_examples.specs.Runs.{Does, Runs, answer_beta, checked_line, printed, receipt_line, refused_line, start, untouched}
use Rattle.satp_examples.specs.Samples.{beta, quarter}
use Rattle.satp_examples.proofs.NoWords.{at_gateway, of_drive, of_serving}
use Rattle.satp_examples.proofs.Proposals.{the_proposal}
use Rattle.satp_examples.proofs.runs.law_runs.Goals as goal

-- ---- commands

-- a receipt begins with a brace, and a line of `check` with a letter
other_lines : (lines text : List ℕ) (m : Message) → lines ≡ line (codes "text ") (kind_of m.body) (length text) → Some receipt_line ≡ Some lines → ⊥
unfolding canonical
other_lines lines text m said same =
    let first : slice_index receipt_line 0 ≡ slice_index lines 0 = ap (λ xs. slice_index xs 0) (some_lines same) in
    let bad : 123 ≡ 116 = first ∙ ap (λ xs. slice_index xs 0) said in
    omega (arith, bad)
  where
    some_lines : {a b : List ℕ} → Some a ≡ Some b → a ≡ b
    some_lines e = cc

no_words_told : (fault : SetUpFault) → WordsRefused ≡ set_up_outcome fault → ⊥
no_words_told Already e = absurd cc
no_words_told (Damaged at) e = absurd cc
no_words_told Site e = absurd cc
no_words_told NoMemory e = absurd cc

init_refuses_no_words : (o : Order) (a : OutsideState) → InitEnds o start a WordsRefused → ⊥
init_refuses_no_words o a (not_ready same (inl (fails, e))) = absurd cc
init_refuses_no_words o a (not_ready same (inr (within, fault, enters, not, e))) = no_words_told fault e
init_refuses_no_words o a (not_read ready bad printed) = bad
init_refuses_no_words o a (not_set_up bad printed) = bad
init_refuses_no_words o a (is_set_up bad) = bad

refuses_no_words : (command : Command) (a : OutsideState) → CommandRule command start a WordsRefused → ⊥
refuses_no_words (Answer name) a h = h.0
refuses_no_words (Check None) a h = h.0
refuses_no_words (Check (Some key)) a h = h.0
refuses_no_words (Init dir name peer at key ledger) a h = init_refuses_no_words _ a h.ends
refuses_no_words (Abort dir session) a h = at_gateway dir (AbortWorks session) start a (λ g inside bad. bad) h
refuses_no_words (Show dir session) a h = at_gateway dir (ShowWorks session) start a (λ g inside bad. bad) h
refuses_no_words (Serve dir listen connections) a h = at_gateway dir (ServeWorks listen connections) start a (λ g inside worked. of_serving listen connections g _ a worked) h
refuses_no_words (Start dir number amount asset from to) a h = at_gateway dir (StartWorks number (terms_of amount asset from to)) start a (λ g inside worked. of_drive _ g _ a worked.3) h
refuses_no_words (Resume dir session) a h = at_gateway dir (ResumeWorks session) start a (λ g inside worked. of_drive _ g _ a worked) h
refuses_no_words (Recover dir session) a h = at_gateway dir (RecoverWorks session) start a (λ g inside worked. of_drive _ g _ a worked) h
refuses_no_words Replay a h = h.0
refuses_no_words (Drill zero) a h = h.0.read refl
refuses_no_words (Drill (suc n)) a h = (h.0.made (λ e. absurd cc)).1

answers_beta : Does (Answer beta) receipt_line untouched
answers_beta = (
  (
    (refl, (refl, refl)),
    (
      receipt_line,
      record {
        bytes = proposal_text;
        is_input = refl;
        short = lit≤ tt;
        said = (proposal, quarter, (the_proposal, refl), refl, record { due = refl; receipt = receipt; canonical = refl; newline = refl });
      },
      (refl, refl, refl),
    ),
  ),
  (refl, refl),
)

pub returns-clause-commands : goal.returns-clause-commands
returns-clause-commands c = record {
  answers = answers_beta;
  checks = (((refl, (refl, refl)), (checked_line, record { bytes = proposal_text; is_input = refl; short = lit≤ tt; said = (proposal, the_proposal, refl) }, (refl, refl, refl))), (refl, refl));
  not_answered_by_a_check = λ h. let says = h.0.1 in other_lines says.0 _ says.1.said.0 says.1.said.2 says.2.2;
  not_with_a_call_on_the_site = λ h. let bad : Some 1 ≡ Some 0 = ap (λ (s : SiteState). option_map (λ (t : Told). length t.dirs) s.told) h.1.0 in absurd cc;
  not_with_a_fault_of_the_site = λ h. let bad : 1 ≡ 0 = ap (λ (s : SiteState). s.faults) h.1.0 in absurd (omega (arith, bad));
  not_with_a_call_on_the_wire = λ h. let bad : 1 ≡ 0 = ap (λ (w : WireState). w.faults) h.1.1 in absurd (omega (arith, bad));
  not_with_an_input_that_goes_on = λ h. let bad = h.0.0.1.1 in absurd cc;
  no_words_are_refused = refuses_no_words;
}

-- ---- runs

-- the ends of status 0 and 2, and all others
abbrev Sorts : Outcome → Type 0
Sorts outcome = (outcome ≡ Done) ⊎ (outcome ≡ WordsRefused) ⊎ (2 < status_of outcome)

of_input : (end : InputEnd) → 2 < input_status end
of_input input.Long = lit< tt
of_input (input.Text fault) = lit< tt
of_input (input.Signature fault) = lit< tt
of_input input.Kind = lit< tt
of_input input.Receiver = lit< tt
of_input (input.GenesisLine number) = lit< tt
of_input (input.ScheduleLine number) = lit< tt
of_input (input.LogDamaged at) = lit< tt
of_input (input.LogRecord index) = lit< tt
of_input input.LogEmpty = lit< tt

of_place : (end : PlaceEnd) → 2 < place_status end
of_place place.Site = lit< tt
of_place (place.JournalDamaged at) = lit< tt
of_place (place.JournalRecord index) = lit< tt
of_place place.GatewayThere = lit< tt
of_place place.NoGateway = lit< tt
of_place (place.NoSession session) = lit< tt
of_place (place.Exists session) = lit< tt
of_place (place.Full count) = lit< tt
of_place (place.TooLate number) = lit< tt

of_peer : (end : PeerEnd) → 2 < peer_status end
of_peer peer.Wire = lit< tt
of_peer peer.Early = lit< tt
of_peer (peer.Status code) = lit< tt
of_peer peer.NotHttp = lit< tt
of_peer peer.Silent = lit< tt
of_peer (peer.Refused refused) = lit< tt
of_peer peer.Turns = lit< tt

sorts : (outcome : Outcome) → Sorts outcome
sorts Done = inl refl
sorts WordsRefused = inr (inl refl)
sorts RolledBack = inr (inr (lit< tt))
sorts Memory = inr (inr (lit< tt))
sorts InputFailed = inr (inr (lit< tt))
sorts OutputFailed = inr (inr (lit< tt))
sorts (Input end) = inr (inr (of_input end))
sorts (Place end) = inr (inr (of_place end))
sorts (Peer end) = inr (inr (of_peer end))

of_0 : (outcome : Outcome) → 0 ≡ status_of outcome → outcome ≡ Done
of_0 outcome e = sorted (sorts outcome)
  where
    sorted : Sorts outcome → outcome ≡ Done
    sorted (inl is) = is
    sorted (inr (inl is)) = let bad : 0 ≡ 2 = e ∙ ap status_of is in absurd (omega (arith, bad))
    sorted (inr (inr more)) = absurd (omega (arith, e, more))

of_2 : (outcome : Outcome) → 2 ≡ status_of outcome → outcome ≡ WordsRefused
of_2 outcome e = sorted (sorts outcome)
  where
    sorted : Sorts outcome → outcome ≡ WordsRefused
    sorted (inl is) = let bad : 2 ≡ 0 = e ∙ ap status_of is in absurd (omega (arith, bad))
    sorted (inr (inl is)) = is
    sorted (inr (inr more)) = absurd (omega (arith, e, more))

of_1 : (outcome : Outcome) → 1 ≡ status_of outcome → ⊥
of_1 outcome e = sorted (sorts outcome)
  where
    sorted : Sorts outcome → ⊥
    sorted (inl is) = let bad : 1 ≡ 0 = e ∙ ap status_of is in omega (arith, bad)
    sorted (inr (inl is)) = let bad : 1 ≡ 2 = e ∙ ap status_of is in omega (arith, bad)
    sorted (inr (inr more)) = omega (arith, e, more)

none_listed : (command : Command) → IsListed [] command → ⊥
none_listed (Answer name) e = absurd cc
none_listed (Check key) h = let bad = h.is_command.first.1 in absurd cc
none_listed (Init dir name peer at key ledger) h = let bad = h.is_command.first.1 in absurd cc
none_listed (Serve dir listen connections) h = let bad = h.is_command.first.1 in absurd cc
none_listed (Start dir number amount asset from to) h = let bad = h.is_command.first.1 in absurd cc
none_listed (Resume dir session) h = let bad = h.is_command.first.1 in absurd cc
none_listed (Recover dir session) h = let bad = h.is_command.first.1 in absurd cc
none_listed (Abort dir session) h = let bad = h.is_command.first.1 in absurd cc
none_listed (Show dir session) h = let bad = h.is_command.first.1 in absurd cc
none_listed Replay h = let bad = h.is_command.first.1 in absurd cc
none_listed (Drill seed) h = let bad = h.is_command.first.1 in absurd cc

done_without_words : (a : OutsideState) (said : SinkState) → Runs [] a said 0 → ⊥
done_without_words a said (outcome, end, e, r) =
    let listed : EndRule [] start a Done = subst (λ o. EndRule [] start a o) (of_0 outcome e) end in none_listed listed.0 listed.1

refused_where_listed : (a : OutsideState) (said : SinkState) → Runs answer_beta a said 2 → ⊥
refused_where_listed a said (outcome, end, e, r) =
    let refused : EndRule answer_beta start a WordsRefused = subst (λ o. EndRule answer_beta start a o) (of_2 outcome e) end in refused.0 (Answer beta) refl

refused_and_read : (said : SinkState) → Runs [] (printed [] untouched) said 2 → ⊥
refused_and_read said (outcome, end, e, r) =
    let refused : EndRule [] start (printed [] untouched) WordsRefused = subst (λ o. EndRule [] start (printed [] untouched) o) (of_2 outcome e) end in
    let bad : Some [] ≡ Some proposal_text = ap (λ (o : OutsideState). o.streams.input.left) refused.1 in
    absurd cc

silent : Reports WordsRefused (out 0 []) (out 0 []) → ⊥
silent (inl whole) = let bad : Some [] ≡ Some refused_line = whole.2 in absurd cc
silent (inr part) = let bad : 1 ≤ 0 = part.0 in omega (arith, bad)

in_silence : Runs [] start (out 0 []) 2 → ⊥
in_silence (outcome, end, e, r) = silent (subst (λ o. Reports o (out 0 []) (out 0 [])) (of_2 outcome e) r)

says_nothing : Reports Done (out 0 []) (out 0 refused_line) → ⊥
says_nothing (inl whole) = let bad : Some refused_line ≡ Some [] = whole.2 in absurd cc
says_nothing (inr part) = let bad : 1 ≤ 0 = part.0 in omega (arith, bad)

done_with_a_line : Runs answer_beta (printed receipt_line untouched) (out 0 refused_line) 0 → ⊥
done_with_a_line (outcome, end, e, r) = says_nothing (subst (λ o. Reports o (out 0 []) (out 0 refused_line)) (of_0 outcome e) r)

pub returns-clause-runs : goal.returns-clause-runs
returns-clause-runs c = record {
  done = (Done, (Answer beta, refl, answers_beta), refl, inl (refl, refl, refl));
  refused = (WordsRefused, (none_listed, refl), refl, inl (refl, refl, refl));
  refused_with_a_part_of_its_line = (WordsRefused, (none_listed, refl), refl, inr (lit≤ tt, refl, (4, lit< tt, refl)));
  not_done_without_words = done_without_words;
  not_refused_where_listed = refused_where_listed;
  not_refused_and_read = refused_and_read;
  not_refused_in_silence = in_silence;
  not_done_with_a_line = done_with_a_line;
  no_other_status = λ words a said h. of_1 h.0 h.2;
}
