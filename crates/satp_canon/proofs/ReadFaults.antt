-- The first fault of a text, from what was read of it.
use Rattle.std.proofs.Common.{◌≡◌, ℕ, ◌<◌, ◌≤◌, ◌⊎◌, inl, inr, Bool, true, false, cond, List, [], ◌∷◌, length, Option, Some, None, Result, Ok, Err, MatchResult, IsUtf8, refl, ap, subst, sym, ◌∙◌}
use Rattle.std.specs.Prelude.{IfErr, IfOk}
use Rattle.std.specs.Str.{is_utf8}
use Rattle.std.proofs.lemmas.Bool.{lt-ltb, le-ltb}
use Rattle.std.proofs.lemmas.Slice.Eq.{bytes_eq-Decides}
use Rattle.std.proofs.lemmas.Str.{IsUtf8-from_is_utf8, is_utf8-from_IsUtf8}
use Rattle.json.proofs.Printed.Utf8.{are_ascii, IsUtf8-are_ascii}
use Rattle.std.proofs.lemmas.Bool.{and_from, and_parts}
use Rattle.serde_json.specs.Data.{Data}
use Rattle.serde_json.specs.Read.{read}
use Rattle.satp_base.specs.Canonical.{IsText, canonical}
use Rattle.satp_base.specs.Faults.{or_else}
use Rattle.satp_base.specs.Forms.{IsMessage}
use Rattle.satp_base.specs.declared.message.Message.{Message}
use Rattle.satp_base.proofs.AsciiText.{IsAscii, ascii_text}
use Rattle.satp_base.proofs.OneText.{one_text}
use Rattle.satp_canon.specs.FirstFault.{common, data_fault, first_fault, json_fault, json_of, longest, text_fault, written}
use Rattle.satp_canon.specs.Reads.{Reads}
use Rattle.satp_canon.specs.declared.fault.CanonFault.{CanonFault}
use Rattle.satp_canon.specs.declared.fault.CanonFault.TheVariants.{Long, NotCanonical, NotJson, Memory}
use Rattle.satp_canon.proofs.NoFault.{own_fine}
use Rattle.satp_canon.proofs.OwnData.{own_data, own_read}
use Rattle.satp_canon.proofs.WrittenText.{own_written, written_is}

pub long_fault : (text : List ℕ) → longest < length text → first_fault text ≡ Some (Long (length text))
unfolding first_fault
long_fault text h = ap (λ (b : Bool). cond b (Some (Long (length text))) (json_fault text (json_of text))) (lt-ltb _ _ h)

short_fault : (text : List ℕ) → length text ≤ longest → first_fault text ≡ json_fault text (json_of text)
unfolding first_fault
short_fault text h = ap (λ (b : Bool). cond b (Some (Long (length text))) (json_fault text (json_of text))) (le-ltb _ _ h)

none_read : (text : List ℕ) (b : Bool) → is_utf8 text ≡ b → (IsUtf8 text → read text ≡ None) → cond b (read text) None ≡ None
none_read text true e h = h (IsUtf8-from_is_utf8 text e)
none_read text false e h = refl

pub not_json : (text : List ℕ) → length text ≤ longest → (IsUtf8 text → read text ≡ None) → first_fault text ≡ Some NotJson
not_json text short h = short_fault text short ∙ ap (json_fault text) (none_read text (is_utf8 text) refl h)

pub value_fault : (text : List ℕ) (d : Data) → length text ≤ longest → IsUtf8 text → read text ≡ Some d → first_fault text ≡ or_else (data_fault d) (text_fault text (written d))
value_fault text d short utf8 e = short_fault text short ∙ ap (json_fault text) (ap (λ (b : Bool). cond b (read text) None) (is_utf8-from_IsUtf8 text utf8) ∙ e)

same_text : (text other : List ℕ) → text ≡ other → text_fault text other ≡ None
same_text text other e = ap (λ (b : Bool). cond b None (Some (NotCanonical (common text other)))) ((bytes_eq-Decides text other).1 e)

-- where the values have no fault, the text's is the first
text_first : (text : List ℕ) (d : Data) (m : Message) → length text ≤ longest → IsUtf8 text → read text ≡ Some d → None ≡ data_fault d → written d ≡ canonical m → first_fault text ≡ text_fault text (canonical m)
text_first text d m short utf8 e fine is =
    value_fault text d short utf8 e
    ∙ sym (ap (λ (o : Option CanonFault). or_else o (text_fault text (written d))) fine)
    ∙ ap (text_fault text) is

pub compared_fault : (r : Result Message CanonFault) (text : List ℕ) (d : Data) (m : Message) → length text ≤ longest → IsUtf8 text → read text ≡ Some d → None ≡ data_fault d → IsMessage m → Reads m d
    → IfOk r (λ x. (x ≡ m) × IsText x text) → IfErr r (λ f. (f ≡ Memory) ⊎ (Some f ≡ text_fault text (canonical m)))
    → MatchResult r (λ x. first_fault text ≡ None) (λ f. (f ≡ Memory) ⊎ (first_fault text ≡ Some f))
compared_fault (Ok x) text d m short utf8 e fine good reads ok err =
    text_first text d m short utf8 e fine (written_is m d good reads)
    ∙ same_text text (canonical m) (ok.1 ∙ ap canonical ok.0)
compared_fault (Err f) text d m short utf8 e fine good reads ok (inl memory) = inl memory
compared_fault (Err f) text d m short utf8 e fine good reads ok (inr is) =
    inr (text_first text d m short utf8 e fine (written_is m d good reads) ∙ sym is)

pub values_first : (text : List ℕ) (d : Data) (f : CanonFault) → length text ≤ longest → IsUtf8 text → read text ≡ Some d → (f ≡ Memory) ⊎ (Some f ≡ data_fault d) → (f ≡ Memory) ⊎ (first_fault text ≡ Some f)
values_first text d f short utf8 e (inl memory) = inl memory
values_first text d f short utf8 e (inr is) = inr (value_fault text d short utf8 e ∙ sym (ap (λ (o : Option CanonFault). or_else o (text_fault text (written d))) is))

-- ---- canonical texts have no fault

as_list : (ys : List ℕ) → IsAscii ys → are_ascii ys ≡ true
as_list [] h = refl
as_list (y ∷ ys) h = let p = and_parts _ _ h in and_from _ _ p.0 (as_list ys p.1)

text_utf8 : (m : Message) → IsMessage m → IsUtf8 (canonical m)
text_utf8 m h = IsUtf8-are_ascii (canonical m) (as_list (canonical m) (ascii_text m h))

no_fault : (m : Message) → IsMessage m → length (canonical m) ≤ longest → first_fault (canonical m) ≡ None
no_fault m h short =
    text_first (canonical m) (own_data m) m short (text_utf8 m h) (own_read m h) (own_fine m h) (own_written m h)
    ∙ same_text (canonical m) (canonical m) refl

pub text_fine : (m : Message) (text : List ℕ) → IsMessage m → IsText m text → length text ≤ longest → first_fault text ≡ None
text_fine m text h is short = ap first_fault is ∙ no_fault m h (subst (λ (t : List ℕ). length t ≤ longest) is short)

pub only_memory : (m : Message) (text : List ℕ) (f : CanonFault) → (f ≡ Memory) ⊎ (first_fault text ≡ Some f) → IsMessage m → IsText m text → length text ≤ longest → f ≡ Memory
only_memory m text f (inl memory) h is short = memory
only_memory m text f (inr fault) h is short = let bad = sym (text_fine m text h is short) ∙ fault in absurd cc

pub made : (r : Result Message CanonFault) (m : Message) (text : List ℕ) → IsMessage m → IfOk r (λ x. (x ≡ m) × IsText x text) → IfOk r (λ x. IsMessage x × IsText x text)
made (Ok x) m text h ok = (subst IsMessage (sym ok.0) h, ok.1)
made (Err f) m text h ok = tt

pub only_one : (r : Result Message CanonFault) (text : List ℕ) → IfOk r (λ x. IsMessage x × IsText x text) → MatchResult r (λ x. first_fault text ≡ None) (λ f. (f ≡ Memory) ⊎ (first_fault text ≡ Some f))
    → (m : Message) → IsMessage m → IsText m text → length text ≤ longest → MatchResult r (λ found. found ≡ m) (λ f. f ≡ Memory)
only_one (Ok x) text ok h m good is short = one_text x m text ok.0 good ok.1 is
only_one (Err f) text ok h m good is short = only_memory m text f h good is short
