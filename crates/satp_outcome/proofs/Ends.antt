-- How a command ends that replies to the text on its input, from what its parts say.
use Rattle.std.proofs.Common.{◌≡◌, inl, inr, ℕ, ◌+◌, ◌<◌, ◌≤◌, List, length, take, Option, Some, None, Result, Ok, Err, refl, ap, subst, sym, ◌∙◌}
use Rattle.std.specs.Prelude.{IfSome, IfOk}
use Rattle.satp_base.specs.declared.text.Memory as base
use Rattle.satp_outcome.specs.Outside.{ReadTo, StreamsState}
use Rattle.satp_outcome.specs.Streams.{Concluded, Form, IsLong, RefusesInput, Replies, StreamRule}
use Rattle.satp_outcome.specs.declared.outcome.InputEnd.{InputEnd}
use Rattle.satp_outcome.specs.declared.outcome.InputEnd.TheVariants.{Long, Text, Signature, Kind, Receiver, GenesisLine, ScheduleLine, LogDamaged, LogRecord, LogEmpty}
use Rattle.satp_outcome.specs.declared.outcome.Outcome.{Outcome}
use Rattle.satp_outcome.specs.declared.outcome.Outcome.TheVariants.{Input}
use Rattle.satp_outcome.specs.declared.reply.Reply.{Reply}
use Rattle.satp_outcome.specs.declared.reply.Reply.TheVariants.{Lines, Refuses}

-- what a form takes for the text rests on the bytes up to the first past the most
pub record IsWhole (form : Form) : Type 0 where
  pub short : (bytes : List ℕ) → length (form.text_of (take (form.most + 1) bytes)) ≤ form.longest → take (form.most + 1) bytes ≡ bytes
  pub long : (bytes : List ℕ) → form.longest < length (form.text_of (take (form.most + 1) bytes)) → form.longest < length (form.text_of bytes)

module _ (form : Form) (says : List ℕ → Reply → Type 0) (whole : IsWhole form) (b a : StreamsState) (bytes : List ℕ) (read : ReadTo (form.most + 1) b.input a.input) (held : IfSome b.input.left (λ told. bytes ≡ take (form.most + 1) told)) where
  -- the text was longer than the command reads
  pub too_long : a.out ≡ b.out → form.longest < length (form.text_of bytes) → StreamRule form says b a (Input Long)
  too_long out long = (read, by_input b.input.left refl held, out)
    where
      by_input : (left : Option (List ℕ)) → b.input.left ≡ left → IfSome left (λ told. bytes ≡ take (form.most + 1) told) → IsLong form b
      by_input None e h = record { bytes = bytes; is_input = subst (λ o. IfSome o (λ told. bytes ≡ told)) (sym e) tt; long = long }
      by_input (Some told) e h = record { bytes = told; is_input = subst (λ o. IfSome o (λ t. told ≡ t)) (sym e) refl; long = whole.long told (subst (λ (x : List ℕ). form.longest < length (form.text_of x)) h long) }

  replies : (text : List ℕ) → text ≡ form.text_of bytes → length text ≤ form.longest → (reply : Reply) → says text reply → Replies form says b reply
  replies text is short reply said = by_input b.input.left refl held
    where
      here : length (form.text_of bytes) ≤ form.longest
      here = subst (λ (x : List ℕ). length x ≤ form.longest) is short

      by_input : (left : Option (List ℕ)) → b.input.left ≡ left → IfSome left (λ told. bytes ≡ take (form.most + 1) told) → Replies form says b reply
      by_input None e h = record { bytes = bytes; is_input = subst (λ o. IfSome o (λ told. bytes ≡ told)) (sym e) tt; short = here; said = subst (λ x. says x reply) is said }
      by_input (Some told) e h =
          let all : bytes ≡ told = h ∙ whole.short told (subst (λ (x : List ℕ). length (form.text_of x) ≤ form.longest) h here) in
          record {
            bytes = told;
            is_input = subst (λ o. IfSome o (λ t. told ≡ t)) (sym e) refl;
            short = subst (λ (x : List ℕ). length (form.text_of x) ≤ form.longest) all here;
            said = subst (λ x. says x reply) (is ∙ ap form.text_of all) said;
          }

  -- that an input is too long is no reply to a text
  module _ (never_long : (text : List ℕ) → says text (Refuses Long) → ⊥) where
    refuses : (text : List ℕ) → text ≡ form.text_of bytes → length text ≤ form.longest → (end : InputEnd) → says text (Refuses end) → RefusesInput form says b end
    refuses text is short Long said = absurd (never_long text said)
    refuses text is short (Text fault) said = replies text is short (Refuses (Text fault)) said
    refuses text is short (Signature fault) said = replies text is short (Refuses (Signature fault)) said
    refuses text is short Kind said = replies text is short (Refuses Kind) said
    refuses text is short Receiver said = replies text is short (Refuses Receiver) said
    refuses text is short (GenesisLine number) said = replies text is short (Refuses (GenesisLine number)) said
    refuses text is short (ScheduleLine number) said = replies text is short (Refuses (ScheduleLine number)) said
    refuses text is short (LogDamaged at) said = replies text is short (Refuses (LogDamaged at)) said
    refuses text is short (LogRecord index) said = replies text is short (Refuses (LogRecord index)) said
    refuses text is short LogEmpty said = replies text is short (Refuses LogEmpty) said

    -- the input was read, and a reply was made of its text
    pub replied : (text : List ℕ) → text ≡ form.text_of bytes → length text ≤ form.longest → (reply : Result Reply base.Memory) (outcome : Outcome) → IfOk reply (says text) → Concluded reply b.out a.out outcome → StreamRule form says b a outcome
    replied text is short (Ok (Lines lines)) outcome said (inl (o, printed)) = subst (λ o. StreamRule form says b a o) (sym o) (read, (lines, replies text is short (Lines lines) said, printed))
    replied text is short (Ok (Lines lines)) outcome said (inr (o, printed)) = subst (λ o. StreamRule form says b a o) (sym o) (read, (lines, replies text is short (Lines lines) said, printed))
    replied text is short (Ok (Refuses end)) outcome said (o, out) = subst (λ o. StreamRule form says b a o) (sym o) (read, refuses text is short end said, out)
    replied text is short (Err memory) outcome said (o, out) = subst (λ o. StreamRule form says b a o) (sym o) (inr read, out)
