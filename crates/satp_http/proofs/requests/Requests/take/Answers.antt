use Rattle.std.proofs.Common.{◌≡◌, ◌≤◌, ◌+◌, ◌++◌, length, take, drop, arith, subst, sym, List, ℕ, inl, inr, refl, ap, ◌∙◌, slice_range, false}
use Rattle.std.proofs.lemmas.List.{drop-drop}
use Rattle.satp_http.specs.Heads.{client}
use Rattle.satp_http.specs.Found.{IsHeadAt}
use Rattle.satp_http.specs.Feeds.{IsStuck}
use Rattle.satp_http.specs.HttpText.{HasFault, Sent, sent_bytes}
use Rattle.satp_http.proofs.WindowLemmas.{slice_is}
use Rattle.satp_http.proofs.TakeLemmas.{begins}
use Rattle.satp_http.proofs.requests.Requests.take.Goals as goal

pub returns-in-Some-clause-takes : goal.returns-in-Some-clause-takes
returns-in-Some-clause-takes c =
    rw (← c.self.view_is) (inl (c.in-Some.is, refl, subst (IsStuck client 0 c.self.inside.buffer) c.in-Some.is c.self.invariant))

pub invariant_of-self : goal.invariant_of-self
invariant_of-self c = subst (λ (l : List ℕ). HasFault client 0 l c.in-Fault.fault) c.bytes.ensures.same c.in-Fault.ensures

pub returns-in-Fault-clause-takes : goal.returns-in-Fault-clause-takes
returns-in-Fault-clause-takes c =
    rw (← c.self.view_is) (inr (inl (c.in_default.is, refl, subst (λ (l : List ℕ). HasFault client 0 l c.in-Fault.fault) c.bytes.ensures.same c.in-Fault.ensures)))

pub returns-in_default-copy-clause-takes : goal.returns-in_default-copy-clause-takes
returns-in_default-copy-clause-takes c =
    let bytes = c.self.inside.buffer in
    let head = c.in-Head.ensures.0 in
    let frames = c.in-Head.ensures.2 in
    let at = subst (λ (l : List ℕ). IsHeadAt client l c.in-Head.start head) c.bytes.ensures.same c.in-Head.ensures.1 in
    let size = c.in-Head.framing.length in
    let body = take size (drop c.in-Head.start bytes) in
    let fits : c.in-Head.start + size ≤ length bytes = omega (arith, c.if-end-bytes.false, ap length c.bytes-in-Head.ensures.same) in
    rw (← c.self.view_is) (inr (inr (c.in_default.is, refl, refl, (record { head = head; body = body }, drop size (drop c.in-Head.start bytes), begins client 0 bytes head c.in-Head.start size body at frames.clean frames.length_is fits refl))))

pub returns-in-Ok-clause-takes : goal.returns-in-Ok-clause-takes
returns-in-Ok-clause-takes c =
    let bytes = c.self.inside.buffer in
    let head = c.in-Head.ensures.0 in
    let frames = c.in-Head.ensures.2 in
    let at = subst (λ (l : List ℕ). IsHeadAt client l c.in-Head.start head) c.bytes.ensures.same c.in-Head.ensures.1 in
    let start = c.in-Head.start in
    let size = c.in-Head.framing.length in
    let fits : start + size ≤ length bytes = omega (arith, c.if-end-bytes.false, ap length c.bytes-in-Head.ensures.same) in
    let body_is : c.in-Ok.body ≡ take size (drop start bytes) = c.in-Ok.ensures ∙ ap (λ (l : List ℕ). slice_range l start (start + size)) c.bytes-in-Head-2.ensures.same ∙ slice_is bytes start size in
    let sent : Sent client = record { head = head; body = c.in-Ok.body } in
    let b = begins client 0 bytes head start size c.in-Ok.body at frames.clean frames.length_is fits body_is in
    let rest = drop-drop size start bytes ∙ sym c.drop_front.ensures in
    rw (← c.self.view_is) (c.in_default.is, λ i. record { held = c.drop_front.new.self; continued = false; stuck = c.in_default.is i }, sent, (b.0, b.1 ∙ ap (λ (l : List ℕ). sent_bytes client sent ++ l) rest), λ i. record { body = c.in-Ok.body; close = frames.close i })
