-- A text has one reply.
use Rattle.std.proofs.Common.{◌≡◌, ◌≤◌, ◌∙◌, ℕ, List, [], ◌∷◌, ◌++◌, ◌⊎◌, inl, inr, length, Some, None, refl, sym, ap, subst}
use Rattle.std.specs.Prelude.{◌≢◌, codes}
use Rattle.satp_base.specs.Canonical.{kind_of}
use Rattle.satp_base.specs.declared.message.Message.{Message}
use Rattle.satp_base.specs.declared.message.Terms.{Terms}
use Rattle.satp_base.specs.declared.name.Name.{Name}
use Rattle.satp_canon.specs.FirstFault.{first_fault}
use Rattle.satp_canon.specs.declared.fault.CanonFault.{CanonFault}
use Rattle.satp_canon.proofs.ReadFaults.{text_fine}
use Rattle.satp_app.specs.Answer.{Answers, Proposes, answer_says, refuses, terms_proposed}
use Rattle.satp_app.specs.Check.{check_refuses, check_says, line}
use Rattle.satp_app.specs.OneEnd.{OneReply}
use Rattle.satp_outcome.specs.Texts.{IsOnly, text_form}
use Rattle.satp_outcome.specs.declared.outcome.InputEnd.{InputEnd}
use Rattle.satp_outcome.specs.declared.outcome.InputEnd.TheVariants.{Long, Text, Signature, Kind as OtherKind, Receiver, GenesisLine, ScheduleLine, LogDamaged, LogRecord, LogEmpty}
use Rattle.satp_outcome.specs.declared.reply.Reply.TheVariants.{Lines, Refuses}

one_fault : (text : List ℕ) (f g : CanonFault) → first_fault text ≡ Some f → first_fault text ≡ Some g → Refuses (Text f) ≡ Refuses (Text g)
one_fault text f g a b = let same : Some f ≡ Some g = sym a ∙ b in by same
  where
    by : Some f ≡ Some g → Refuses (Text f) ≡ Refuses (Text g)
    by e = let inner : f ≡ g = cc in ap (λ (x : CanonFault). Refuses (Text x)) inner

no_fault : {P : Type 0} (text : List ℕ) (m : Message) (f : CanonFault) → length text ≤ 8192 → IsOnly text m → first_fault text ≡ Some f → P
no_fault text m f short only e = let none : Some f ≡ None = sym e ∙ text_fine m text only.formed only.canonical short in absurd cc

same_message : (text : List ℕ) (m n : Message) → IsOnly text m → IsOnly text n → n ≡ m
same_message text m n one other = one.only n other.canonical other.formed

-- a check refuses a text by its first fault
check_fault : (text : List ℕ) (e : InputEnd) → check_refuses text e → (f : CanonFault) × (e ≡ Text f) × (first_fault text ≡ Some f)
check_fault text (Text fault) is = (fault, refl, is)
check_fault text Long bad = absurd bad
check_fault text (Signature fault) bad = absurd bad
check_fault text OtherKind bad = absurd bad
check_fault text Receiver bad = absurd bad
check_fault text (GenesisLine number) bad = absurd bad
check_fault text (ScheduleLine number) bad = absurd bad
check_fault text (LogDamaged at) bad = absurd bad
check_fault text (LogRecord index) bad = absurd bad
check_fault text LogEmpty bad = absurd bad

one_refusal : (text : List ℕ) (d e : InputEnd) → ((f : CanonFault) × (d ≡ Text f) × (first_fault text ≡ Some f)) → ((f : CanonFault) × (e ≡ Text f) × (first_fault text ≡ Some f)) → Refuses d ≡ Refuses e
one_refusal text d e (f, is, a) (g, also, b) = ap Refuses is ∙ one_fault text f g a b ∙ sym (ap Refuses also)

pub one_check : OneReply text_form check_says
one_check text (Lines p) (Lines q) short (m, only, is) (n, other, also) =
    let e = same_message text m n only other in ap Lines (is ∙ ap (λ (x : Message). line (codes "text ") (kind_of x.body) (length text)) (sym e) ∙ sym also)
one_check text (Lines p) (Refuses e) short (m, only, is) refused = let why = check_fault text e refused in no_fault text m why.0 short only why.2
one_check text (Refuses e) (Lines q) short refused (m, only, is) = let why = check_fault text e refused in no_fault text m why.0 short only why.2
one_check text (Refuses d) (Refuses e) short a b = one_refusal text d e (check_fault text d a) (check_fault text e b)

module _ (name : Name) where
  one_line : (text p q : List ℕ) (m n : Message) (t u : Terms) → n ≡ m → Answers name t m text p → Answers name u n text q → Lines p ≡ Lines q
  one_line text p q m n t u e a b =
      let there = subst (λ (x : Message). Answers name u x text q) e b in
      let same : a.receipt ≡ there.receipt = a.canonical ∙ sym there.canonical in
      ap Lines (a.newline ∙ ap (λ (x : List ℕ). x ++ 10 ∷ []) same ∙ sym there.newline)

  no_terms : {P : Type 0} (m n : Message) (t : Terms) → n ≡ m → terms_proposed m.body ≡ None → terms_proposed n.body ≡ Some t → P
  no_terms m n t e none some = let bad : Some t ≡ None = sym some ∙ ap (λ (x : Message). terms_proposed x.body) e ∙ none in absurd cc

  -- an answer is refused by the text's first fault, by the message's kind, or by its receiver
  abbrev Why : List ℕ → InputEnd → Type 0
  Why text e =
      ((f : CanonFault) × (e ≡ Text f) × (first_fault text ≡ Some f))
      ⊎ ((e ≡ OtherKind) × ((m : Message) × IsOnly text m × (terms_proposed m.body ≡ None)))
      ⊎ ((e ≡ Receiver) × ((m : Message) × (terms : Terms) × Proposes text m terms × (m.receiver ≢ name)))

  why : (text : List ℕ) (e : InputEnd) → refuses name text e → Why text e
  why text (Text fault) is = inl (fault, refl, is)
  why text OtherKind is = inr (inl (refl, is))
  why text Receiver is = inr (inr (refl, is))
  why text Long bad = absurd bad
  why text (Signature fault) bad = absurd bad
  why text (GenesisLine number) bad = absurd bad
  why text (ScheduleLine number) bad = absurd bad
  why text (LogDamaged at) bad = absurd bad
  why text (LogRecord index) bad = absurd bad
  why text LogEmpty bad = absurd bad

  -- no text has lines and a cause to be refused
  not_both : {P : Type 0} (text : List ℕ) (line : List ℕ) (e : InputEnd) → length text ≤ 8192 → answer_says name text (Lines line) → Why text e → P
  not_both text line e short (m, t, (only, has), to, a) (inl (f, is, fault)) = no_fault text m f short only fault
  not_both text line e short (m, t, (only, has), to, a) (inr (inl (is, (n, other, none)))) = no_terms n m t (same_message text n m other only) none has
  not_both text line e short (m, t, (only, has), to, a) (inr (inr (is, (n, u, (other, also), not)))) = absurd (not (ap (λ (x : Message). x.receiver) (same_message text m n only other) ∙ to))

  one_why : (text : List ℕ) (d e : InputEnd) → length text ≤ 8192 → Why text d → Why text e → Refuses d ≡ Refuses e
  one_why text d e short (inl a) (inl b) = one_refusal text d e a b
  one_why text d e short (inl (f, is, fault)) (inr (inl (also, (n, other, none)))) = no_fault text n f short other fault
  one_why text d e short (inl (f, is, fault)) (inr (inr (also, (n, u, (other, has), not)))) = no_fault text n f short other fault
  one_why text d e short (inr (inl (is, (m, only, none)))) (inl (f, also, fault)) = no_fault text m f short only fault
  one_why text d e short (inr (inl (is, a))) (inr (inl (also, b))) = ap Refuses (is ∙ sym also)
  one_why text d e short (inr (inl (is, (m, only, none)))) (inr (inr (also, (n, u, (other, has), not)))) = no_terms m n u (same_message text m n only other) none has
  one_why text d e short (inr (inr (is, (m, t, (only, has), not)))) (inl (f, also, fault)) = no_fault text m f short only fault
  one_why text d e short (inr (inr (is, (m, t, (only, has), not)))) (inr (inl (also, (n, other, none)))) = no_terms n m t (same_message text n m other only) none has
  one_why text d e short (inr (inr (is, a))) (inr (inr (also, b))) = ap Refuses (is ∙ sym also)

  pub one_answer : OneReply text_form (answer_says name)
  one_answer text (Lines p) (Lines q) short (m, t, (only, has), to, a) (n, u, (other, also), too, b) = one_line text p q m n t u (same_message text m n only other) a b
  one_answer text (Lines p) (Refuses e) short said refused = not_both text p e short said (why text e refused)
  one_answer text (Refuses e) (Lines q) short refused said = not_both text q e short said (why text e refused)
  one_answer text (Refuses d) (Refuses e) short a b = one_why text d e short (why text d a) (why text e b)
