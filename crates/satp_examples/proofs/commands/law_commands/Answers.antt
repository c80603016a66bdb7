use Rattle.std.proofs.Common.{◌≡◌, ◌≤◌, ◌<◌, ℕ, zero, suc, List, [], ◌∷◌, length, take, Some, refl, ap, subst, inl, inr, arith, lit≤, lit<}
use Rattle.std.specs.Fmt.{digits}
use Rattle.satp_outcome.specs.Texts.{without_newline}
use Rattle.satp_outcome.specs.declared.outcome.Outcome.TheVariants as outcome
use Rattle.satp_outcome.specs.declared.reply.Reply.TheVariants.{Lines}
use Rattle.satp_examples.specs.Commands.{Ends, ab, failed, input, out, over}
use Rattle.satp_examples.proofs.commands.law_commands.Goals as goal

-- the text on an input is no longer than two bytes
short : (bytes told : List ℕ) → bytes ≡ told → length (without_newline bytes) ≤ 2 → length (without_newline told) ≤ 2
short bytes told is h = subst (λ x. length (without_newline x) ≤ 2) is h

long : (bytes told : List ℕ) → bytes ≡ told → 2 < length (without_newline bytes) → 2 < length (without_newline told)
long bytes told is h = subst (λ x. 2 < length (without_newline x)) is h

-- the lines that are said are the text
said : (lines bytes : List ℕ) → bytes ≡ ab → Lines lines ≡ Lines (without_newline bytes) → lines ≡ ab
said lines bytes is e = let text : without_newline bytes ≡ ab = ap without_newline is in cc

part : (k : ℕ) → k < 2 → Some ab ≡ Some (take k ab) → ⊥
part zero h e = absurd cc
part (suc zero) h e = absurd cc
part (suc (suc k)) h e = omega (arith, h)

not_all : (lines : List ℕ) (k : ℕ) → lines ≡ ab → k < length lines → Some ab ≡ Some (take k lines) → ⊥
not_all lines k is h e = part k (subst (λ x. k < length x) is h) (subst (λ x. Some ab ≡ Some (take k x)) is e)

nothing_printed : (lines : List ℕ) → lines ≡ ab → Some [] ≡ Some lines → ⊥
nothing_printed lines is e = absurd cc

without_output : ¬ Ends ab (over 0 []) (out 0 []) outcome.Done
without_output (r, (lines, replies, p)) = nothing_printed lines (said lines replies.bytes replies.is_input replies.said) p.2

after_all : ¬ Ends ab (over 0 []) (failed 1 ab) outcome.OutputFailed
after_all (r, (lines, replies, (rose, has_failed, (k, less, is)))) = not_all lines k (said lines replies.bytes replies.is_input replies.said) less is

pub returns-clause-ends : goal.returns-clause-ends
returns-clause-ends c = record {
  done = ((refl, (refl, refl)), (ab, record { bytes = 97 ∷ 98 ∷ 10 ∷ []; is_input = refl; short = lit≤ tt; said = refl }, (refl, refl, refl)));
  too_long = ((refl, (refl, refl)), record { bytes = 97 ∷ 98 ∷ 99 ∷ []; is_input = refl; long = lit< tt }, refl);
  output_failed = ((refl, (refl, refl)), (ab, record { bytes = ab; is_input = refl; short = lit≤ tt; said = refl }, (lit≤ tt, refl, (1, lit< tt, refl))));
  input_failed = ((lit≤ tt, refl, (1, lit≤ tt, refl)), refl);
  no_memory = (inl (refl, refl, (1, lit≤ tt, refl)), refl);
  no_memory_for_the_reply = (inr (refl, (refl, refl)), refl);
  not_done_past_the_longest = λ taken h. let replies = h.1.1 in let bad : 3 ≤ 2 = short replies.bytes (97 ∷ 98 ∷ 99 ∷ []) replies.is_input replies.short in absurd (omega (arith, bad));
  not_done_without_output = without_output;
  not_done_unread = λ h. let bad = h.0.1.0 in absurd cc;
  not_long_with_a_newline = λ h. let bad : 2 < 2 = long h.1.bytes (97 ∷ 98 ∷ 10 ∷ []) h.1.is_input h.1.long in absurd (omega (arith, bad));
  not_failed_without_a_fault = λ h. let bad : 1 ≤ 0 = h.0.0 in absurd (omega (arith, bad));
  not_failed_and_read_on = λ h. let bad = h.0.1 in absurd cc;
  not_failed_after_all = after_all;
  not_failed_and_written_on = λ h. let bad = h.1.2.1 in absurd cc;
  not_refused = λ h. let bad = h.1.said in absurd cc;
  no_site = λ h. h;
}

pub returns-clause-lines : goal.returns-clause-lines
unfolding digits
returns-clause-lines c = record {
  done = (refl, refl);
  not_the_receiver = (refl, refl);
  a_line_of_a_genesis = (refl, refl);
  a_line_of_a_schedule = (refl, refl);
  a_text_refused = (refl, refl);
  a_signature_refused = (refl, refl);
  an_empty_log = (refl, refl);
  a_record_of_a_log = (refl, refl);
  damage = (refl, refl);
  a_record = (refl, refl);
  no_gateway = (refl, refl);
  no_session = (refl, refl);
  a_session_there = (refl, refl);
  full = (refl, refl);
  too_late = (refl, refl);
  rolled_back = (refl, refl);
  no_wire = (refl, refl);
  a_code = (refl, refl);
  an_answer_refused = (refl, refl);
}
