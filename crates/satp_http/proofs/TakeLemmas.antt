-- What is taken off the front.
use Rattle.std.proofs.Common.{◌≡◌, ℕ, ◌+◌, ◌<◌, ◌≤◌, true, List, [], ◌∷◌, ◌++◌, length, take, drop, refl, ap, ◌∙◌, sym, subst, arith, append_assoc, slice_range, Option, Some, None}
use Rattle.std.specs.List.{flat_map}
use Rattle.std.proofs.lemmas.Bool.{eq-eqb, cond-true, or_left}
use Rattle.std.proofs.lemmas.List.{append-nil, length-append, length-drop, length-take-le, take-append-drop, drop-drop}
use Rattle.std.proofs.lemmas.Grind.{flat_map-append}
use Rattle.httparse.specs.Grammar.{print_blank, print_field, print_end, status_code}
use Rattle.satp_http.specs.declared.fault.HttpFault.{HttpFault}
use Rattle.satp_http.specs.declared.answer_head.AnswerFraming.{AnswerFraming}
use Rattle.satp_http.specs.Heads.{Sender, server, Head, head_bytes, header_lines}
use Rattle.satp_http.specs.Table.{table, first_fault, body_length, answer_parts, is_interim, is_bodiless, interim_after}
use Rattle.satp_http.specs.Found.{IsHeadAt, FramesAnswer}
use Rattle.satp_http.specs.HttpText.{Sent, sent_bytes, IsSent, HasFault}
use Rattle.satp_http.specs.Feeds.{IsStuck, BeginsWith, Passes, BeginsWithAnswer}
use Rattle.satp_http.proofs.WindowLemmas.{slice_is}
use Rattle.satp_http.proofs.HeadParts.{blank_of, start_of, last_of, head_is}
use Rattle.satp_http.proofs.ReadingLemmas.{fault_stays}
use Rattle.satp_http.proofs.SentLemmas.{behind-append, sent-append, interim-append}

-- a fault that was found stays, whatever is added
pub stuck_stays : (by : Sender) (n : ℕ) (held more new : List ℕ) (stuck : Option HttpFault) → new ≡ held ++ more → IsStuck by n held stuck → IsStuck by n new stuck
stuck_stays by n held more new None is stands = tt
stuck_stays by n held more new (Some f) is stands = subst (λ (l : List ℕ). HasFault by n l f) (sym is) (fault_stays by n held more f stands)

-- a head and its body
pub begins : (by : Sender) (n : ℕ) (bytes : List ℕ) (head : Head by) (start size : ℕ) (body : List ℕ) → IsHeadAt by bytes start head → first_fault (table by n head) ≡ None → size ≡ body_length by head
    → start + size ≤ length bytes → body ≡ take size (drop start bytes) → BeginsWith by n (record { head = head; body = body }) bytes (drop size (drop start bytes))
begins by n bytes head start size body at clean is fits body_is =
    let rest = drop start bytes in
    let whole : length body ≡ size = ap length body_is ∙ length-take-le size rest (omega (arith, length-drop start bytes)) in (
      record { head = at.head_is; clean = clean; body = whole ∙ is },
      at.bytes_are ∙ ap (λ (l : List ℕ). head_bytes by head ++ l) (sym (take-append-drop size rest) ∙ ap (λ (l : List ℕ). l ++ drop size rest) (sym body_is)) ∙ sym (append_assoc (head_bytes by head) body (drop size rest)),
    )

-- heads aren't empty
pub some_bytes : (by : Sender) (head : Head by) → 0 < length (head_bytes by head)
some_bytes by head =
    let rest = flat_map print_field (header_lines by head) ++ (print_end (last_of by head) ++ []) in
    omega (
      arith,
      ap length (sym (append-nil (head_bytes by head)) ∙ head_is by head []),
      length-append (print_blank (blank_of by head)) (start_of by head ++ 10 ∷ rest),
      length-append (start_of by head) (10 ∷ rest),
    )

-- one more interim answer
pub pass_one : (before passed at start : ℕ) (held : List ℕ) (head : Head server) (framing : AnswerFraming) → at ≤ length held → Passes before held passed (drop at held) → IsHeadAt server (drop at held) start head
    → FramesAnswer passed (answer_parts head) framing → framing.code ≡ 100 → (at + start ≤ length held) × (0 < start) × Passes before held (passed + 1) (drop (at + start) held)
pass_one before passed at start held head framing within passes there frames is =
    let code : status_code head ≡ 100 = sym frames.code_is ∙ is in
    let interim : is_interim (status_code head) ≡ true = eq-eqb (status_code head) 100 code in
    let empty : 0 ≡ body_length server head = sym (cond-true (is_bodiless (status_code head)) 0 _ (or_left _ _ interim)) in
    let one : Sent server = record { head = head; body = [] } in
    let last = begins server passed (drop at held) head start 0 [] there frames.clean empty (omega (arith, there.fits)) refl in
    let after : passed + 1 ≡ interim_after server passed head = sym (cond-true (is_interim (status_code head)) (passed + 1) 0 interim) in
    let rest : drop 0 (drop start (drop at held)) ≡ drop (at + start) held = drop-drop start at held in (
      omega (arith, there.fits, length-drop at held, within),
      omega (arith, there.start_is, some_bytes server head),
      record {
        skipped = passes.skipped ++ one ∷ [];
        each = sent-append server before passes.skipped (one ∷ []) passes.each (subst (λ (v : ℕ). IsSent server v one) passes.after_is last.0, tt);
        interim = interim-append passes.skipped (one ∷ []) passes.interim (code, tt);
        after_is = after ∙ ap (λ (v : ℕ). interim_after server v head) passes.after_is ∙ sym (behind-append server before passes.skipped (one ∷ []));
        held_is = passes.held_is
            ∙ ap (λ (l : List ℕ). flat_map (sent_bytes server) passes.skipped ++ l) (last.1 ∙ ap (λ (l : List ℕ). sent_bytes server one ++ l) rest ∙ ap (λ (l : List ℕ). l ++ drop (at + start) held) (sym (append-nil (sent_bytes server one))))
            ∙ sym (append_assoc (flat_map (sent_bytes server) passes.skipped) (sent_bytes server one ++ []) (drop (at + start) held))
            ∙ ap (λ (l : List ℕ). l ++ drop (at + start) held) (sym (flat_map-append (sent_bytes server) passes.skipped (one ∷ [])));
      },
    )

-- a final answer behind the interim ones
pub final_begins : (passed at start : ℕ) (held : List ℕ) (head : Head server) (framing : AnswerFraming) (body : List ℕ) → at ≤ length held → IsHeadAt server (drop at held) start head → FramesAnswer passed (answer_parts head) framing
    → (framing.code ≡ 100 → ⊥) → at + start + framing.length ≤ length held → body ≡ slice_range held (at + start) (at + start + framing.length)
    → BeginsWithAnswer passed (drop at held) (record { code = framing.code; body = body }) (drop (at + start + framing.length) held)
final_begins passed at start held head framing body within there frames final fits is =
    let size = framing.length in
    let behind : drop start (drop at held) ≡ drop (at + start) held = drop-drop start at held in
    let rest : drop size (drop start (drop at held)) ≡ drop (at + start + size) held = ap (drop size) behind ∙ drop-drop size (at + start) held in
    let body_is : body ≡ take size (drop start (drop at held)) = is ∙ slice_is held (at + start) size ∙ ap (take size) (sym behind) in
    let b = begins server passed (drop at held) head start size body there frames.clean frames.length_is (omega (arith, fits, length-drop at held)) body_is in
    record {
      sent = record { head = head; body = body };
      begins = (b.0, b.1 ∙ ap (λ (l : List ℕ). sent_bytes server (record { head = head; body = body }) ++ l) rest);
      final = λ code. final (frames.code_is ∙ code);
      answered_is = λ i. record { code = frames.code_is i; body = body };
    }
