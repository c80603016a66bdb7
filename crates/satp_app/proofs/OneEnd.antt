-- A command that reads a text ends in one way.
use Rattle.std.proofs.Common.{◌≡◌, ◌⊎◌, ◌<◌, ◌≤◌, ◌^◌, ◌-◌, ◌∙◌, ℕ, true, false, List, length, Some, refl, sym, subst, inl, inr, arith}
use Rattle.std.specs.Prelude.{◌≢◌, IfSome}
use Rattle.satp_base.specs.Streams.{Rose}
use Rattle.satp_app.specs.OneEnd.{OneEnd, OneReply}
use Rattle.satp_outcome.specs.Outside.{StreamsState}
use Rattle.satp_outcome.specs.Streams.{Form, IsInput, RefusesInput, Replies, StreamRule}
use Rattle.satp_outcome.specs.declared.outcome.InputEnd.{InputEnd}
use Rattle.satp_outcome.specs.declared.outcome.InputEnd.TheVariants.{Long, Text, Signature, Kind, Receiver, GenesisLine, ScheduleLine, LogDamaged, LogRecord, LogEmpty}
use Rattle.satp_outcome.specs.declared.outcome.Outcome.{Outcome}
use Rattle.satp_outcome.specs.declared.outcome.Outcome.TheVariants.{Done, RolledBack, WordsRefused, Memory, InputFailed, OutputFailed, Input, Place, Peer}
use Rattle.satp_outcome.specs.declared.reply.Reply.{Reply}
use Rattle.satp_outcome.specs.declared.reply.Reply.TheVariants.{Lines, Refuses}

module _ (form : Form) (says : List ℕ → Reply → Type 0) (b a : StreamsState) (one : OneReply form says) (bytes : List ℕ) (told : b.input.left ≡ Some bytes) (below : b.input.faults < 2 ^ 64 - 1) where
  abbrev text : List ℕ
  text = form.text_of bytes

  is_bytes : (x : List ℕ) → IsInput b.input x → x ≡ bytes
  is_bytes x input = subst (λ o. IfSome o (λ t. x ≡ t)) told input

  -- how a reply ends
  abbrev Replied : Reply → Outcome → Type 0
  Replied (Lines lines) o = ((o ≡ Done) × (a.out.failed ≡ false)) ⊎ ((o ≡ OutputFailed) × (a.out.failed ≡ true))
  Replied (Refuses end) o = o ≡ Input end

  -- the input failed, it was long, or it had a reply
  abbrev Way : Outcome → Type 0
  Way o =
      ((o ≡ InputFailed) × Rose b.input.faults a.input.faults)
      ⊎ ((o ≡ Input Long) × (a.input.faults ≡ b.input.faults) × (form.longest < length text))
      ⊎ ((reply : Reply) × (a.input.faults ≡ b.input.faults) × (length text ≤ form.longest) × says text reply × Replied reply o)

  short_text : (x : List ℕ) → x ≡ bytes → length (form.text_of x) ≤ form.longest → length text ≤ form.longest
  short_text x is h = subst (λ (y : List ℕ). length (form.text_of y) ≤ form.longest) is h

  said_text : (x : List ℕ) (r : Reply) → x ≡ bytes → says (form.text_of x) r → says text r
  said_text x r is h = subst (λ (y : List ℕ). says (form.text_of y) r) is h

  reply_way : (end : InputEnd) → a.input.faults ≡ b.input.faults → Replies form says b (Refuses end) → Way (Input end)
  reply_way end read r = let is = is_bytes r.bytes r.is_input in inr (inr (Refuses end, read, short_text r.bytes is r.short, said_text r.bytes (Refuses end) is r.said, refl))

  refused_way : (end : InputEnd) → a.input.faults ≡ b.input.faults → RefusesInput form says b end → Way (Input end)
  refused_way Long read l = inr (inl (refl, read, subst (λ (y : List ℕ). form.longest < length (form.text_of y)) (is_bytes l.bytes l.is_input) l.long))
  refused_way (Text fault) read r = reply_way (Text fault) read r
  refused_way (Signature fault) read r = reply_way (Signature fault) read r
  refused_way Kind read r = reply_way Kind read r
  refused_way Receiver read r = reply_way Receiver read r
  refused_way (GenesisLine number) read r = reply_way (GenesisLine number) read r
  refused_way (ScheduleLine number) read r = reply_way (ScheduleLine number) read r
  refused_way (LogDamaged at) read r = reply_way (LogDamaged at) read r
  refused_way (LogRecord index) read r = reply_way (LogRecord index) read r
  refused_way LogEmpty read r = reply_way LogEmpty read r

  way : (o : Outcome) → o ≢ Memory → StreamRule form says b a o → Way o
  way Done other (read, (lines, r, printed)) = let is = is_bytes r.bytes r.is_input in inr (inr (Lines lines, read.0, short_text r.bytes is r.short, said_text r.bytes (Lines lines) is r.said, inl (refl, printed.1)))
  way OutputFailed other (read, (lines, r, part)) = let is = is_bytes r.bytes r.is_input in inr (inr (Lines lines, read.0, short_text r.bytes is r.short, said_text r.bytes (Lines lines) is r.said, inr (refl, part.1)))
  way (Input end) other (read, refuses, out) = refused_way end read.0 refuses
  way InputFailed other (fails, out) = inl (refl, fails.0)
  way Memory other rule = absurd (other refl)
  way RolledBack other bad = absurd bad
  way WordsRefused other bad = absurd bad
  way (Place end) other bad = absurd bad
  way (Peer end) other bad = absurd bad

  not_both : {P : Type 0} → Rose b.input.faults a.input.faults → a.input.faults ≡ b.input.faults → P
  not_both rose same = absurd (omega (arith, rose, same, below))

  true_false : {P : Type 0} → a.out.failed ≡ true → a.out.failed ≡ false → P
  true_false t f = let bad : true ≡ false = sym t ∙ f in absurd cc

  ends_same : (r : Reply) (o p : Outcome) → Replied r o → Replied r p → o ≡ p
  ends_same (Lines lines) o p (inl (x, f)) (inl (y, g)) = x ∙ sym y
  ends_same (Lines lines) o p (inl (x, f)) (inr (y, t)) = true_false t f
  ends_same (Lines lines) o p (inr (x, t)) (inl (y, f)) = true_false t f
  ends_same (Lines lines) o p (inr (x, t)) (inr (y, u)) = x ∙ sym y
  ends_same (Refuses end) o p x y = x ∙ sym y

  one_way : (o p : Outcome) → Way o → Way p → o ≡ p
  one_way o p (inl (x, rose)) (inl (y, again)) = x ∙ sym y
  one_way o p (inl (x, rose)) (inr (inl (y, same, long))) = not_both rose same
  one_way o p (inl (x, rose)) (inr (inr (r, same, short, said, e))) = not_both rose same
  one_way o p (inr (inl (x, same, long))) (inl (y, rose)) = not_both rose same
  one_way o p (inr (inl (x, same, long))) (inr (inl (y, still, more))) = x ∙ sym y
  one_way o p (inr (inl (x, same, long))) (inr (inr (r, still, short, said, e))) = absurd (omega (arith, long, short))
  one_way o p (inr (inr (r, same, short, said, e))) (inl (y, rose)) = not_both rose same
  one_way o p (inr (inr (r, same, short, said, e))) (inr (inl (y, still, long))) = absurd (omega (arith, long, short))
  one_way o p (inr (inr (r, same, short, said, e))) (inr (inr (s, still, few, also, f))) = ends_same s o p (subst (λ x. Replied x o) (one text r s short said also) e) f

pub one_end : (form : Form) (says : List ℕ → Reply → Type 0) → OneReply form says → OneEnd form says
one_end form says one b a tells o p first second x y =
    one_way form says b a one tells.bytes tells.told tells.below o p (way form says b a one tells.bytes tells.told tells.below o first x) (way form says b a one tells.bytes tells.told tells.below p second y)
