use Rattle.std.proofs.Common.{rules, drop, ◌≡◌, ℕ, List, sym, subst, ◌∙◌, arith, inl, inr}
use Rattle.satp_http.specs.Heads.{client, Reads, HasNone, NeverHas, HasOver, MayBecome}
use Rattle.satp_http.specs.Table.{RequestParts}
use Rattle.satp_http.specs.Found.{FramesRequest, IsRequestFault}
use Rattle.satp_http.proofs.WindowLemmas.{take_whole}
use Rattle.satp_http.proofs.FoundLemmas.{exceeds, head_at, bad_head, same_request_parts, few_fields, many_fields}
use Rattle.satp_http.proofs.CountLemmas.{many_over, few_not_over}
use Rattle.satp_http.proofs.request_head.find_request.Goals as goal

pub returns-in-Ok : goal.returns-in-Ok
returns-in-Ok c =
    let found = rw c.in-Ok-Complete.field-0-is at c.in-Ok-Complete.ensures.complete in
    let head = found.0 in
    let reads = subst (λ (w : List ℕ). Reads client w head (drop c.in-Ok-Complete.start w)) c.window-window.ensures found.1.reads in
    let same = same_request_parts c.parse.new.self head c.unwrap.result c.unwrap-in-Ok-Complete.result c.unwrap-in-Ok-Complete-2.result c.as_bytes.result.now c.as_bytes-in-Ok-Complete.result.now found.1.method found.1.path found.1.version c.unwrap.ensures c.unwrap-in-Ok-Complete.ensures c.unwrap-in-Ok-Complete-2.ensures c.as_bytes.ensures.value c.as_bytes-in-Ok-Complete.ensures.value found.1.fields in
    let at = head_at client c.args.held.now head c.in-Ok-Complete.start reads found.1.len_is (few_fields c.parse.new.self.headers.now head.fields found.1.fields c.if-request-gt-MOST_LINES.false) in
    (head, at, subst (λ (p : RequestParts). FramesRequest p c.in-Ok.framing) same c.in-Ok.ensures)

pub returns-in-Err-framing_of : goal.returns-in-Err-framing_of
returns-in-Err-framing_of c =
    let found = rw c.in-Ok-Complete.field-0-is at c.in-Ok-Complete.ensures.complete in
    let head = found.0 in
    let reads = subst (λ (w : List ℕ). Reads client w head (drop c.in-Ok-Complete.start w)) c.window-window.ensures found.1.reads in
    let same = same_request_parts c.parse.new.self head c.unwrap.result c.unwrap-in-Ok-Complete.result c.unwrap-in-Ok-Complete-2.result c.as_bytes.result.now c.as_bytes-in-Ok-Complete.result.now found.1.method found.1.path found.1.version c.unwrap.ensures c.unwrap-in-Ok-Complete.ensures c.unwrap-in-Ok-Complete-2.ensures c.as_bytes.ensures.value c.as_bytes-in-Ok-Complete.ensures.value found.1.fields in
    let at = head_at client c.args.held.now head c.in-Ok-Complete.start reads found.1.len_is (few_fields c.parse.new.self.headers.now head.fields found.1.fields c.if-request-gt-MOST_LINES.false) in
    inr (bad_head client 0 c.args.held.now head c.in-Ok-Complete.start c.in-Err-framing_of.fault at (subst (λ (p : RequestParts). IsRequestFault p c.in-Err-framing_of.fault) same c.in-Err-framing_of.ensures))

pub returns-then-request-gt-MOST_LINES : goal.returns-then-request-gt-MOST_LINES
returns-then-request-gt-MOST_LINES c =
    let found = rw c.in-Ok-Complete.field-0-is at c.in-Ok-Complete.ensures.complete in
    let head = found.0 in
    inl (subst (HasOver client 64) c.window-window.ensures (exceeds client c.window-window.result.now head _ found.1.reads (many_fields c.parse.new.self.headers.now head.fields found.1.fields c.if-request-gt-MOST_LINES.true)))

pub returns-in-Err : goal.returns-in-Err
returns-in-Err c = inl (subst (NeverHas client) c.window-window.ensures (c.in-Err.ensures.invalid (search rules)))

pub returns-then-has_many_lines : goal.returns-then-has_many_lines
returns-then-has_many_lines c =
    let begun = rw c.in-Ok-Partial.field-0-is at c.in-Ok-Partial.ensures.unfinished in
    let none = rw c.in-Ok-Partial.field-0-is at c.in-Ok-Partial.ensures.partial in
    inl (subst (HasOver client 64) c.window-window.ensures (many_over client c.window-window.result.now begun none (sym c.has_many_lines.ensures ∙ c.if-has_many_lines.true)))

pub returns-else-held-ge-LONGEST : goal.returns-else-held-ge-LONGEST
returns-else-held-ge-LONGEST c =
    let same : c.window-window.result.now ≡ c.args.held.now = c.window-window.ensures ∙ take_whole 8192 c.args.held.now (omega arith) in
    record {
      short = omega arith;
      none = subst (HasNone client) same (rw c.in-Ok-Partial.field-0-is at c.in-Ok-Partial.ensures.partial);
      few = λ over. few_not_over client c.window-window.result.now (sym c.has_many_lines.ensures ∙ c.if-has_many_lines.false) (subst (HasOver client 64) (sym same) over);
      begun = subst (MayBecome client) same (rw c.in-Ok-Partial.field-0-is at c.in-Ok-Partial.ensures.unfinished);
    }

pub returns-then-held-ge-LONGEST : goal.returns-then-held-ge-LONGEST
returns-then-held-ge-LONGEST c =
    let same = c.window-window.ensures in
    inl (
      omega arith,
      subst (HasNone client) same (rw c.in-Ok-Partial.field-0-is at c.in-Ok-Partial.ensures.partial),
      (λ over. few_not_over client c.window-window.result.now (sym c.has_many_lines.ensures ∙ c.if-has_many_lines.false) (subst (HasOver client 64) (sym same) over)),
      subst (MayBecome client) same (rw c.in-Ok-Partial.field-0-is at c.in-Ok-Partial.ensures.unfinished),
    )
