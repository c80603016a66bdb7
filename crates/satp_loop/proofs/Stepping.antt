-- Each call on the wire is one step of it.
use Rattle.std.proofs.Common.{◌≡◌, ◌≢◌, ◌≤◌, ◌⊎◌, ℕ, Bool, true, false, List, [], ◌∷◌, length, ◌++◌, Option, Some, None, inl, inr, refl, sym, ap, subst, arith, length-append}
use Rattle.std.specs.Prelude.{Result, Ok, Err, OnOk, OnErr}
use Rattle.satp_base.specs.declared.address.Address.{Address}
use Rattle.satp_base.specs.declared.wire.Dial.{Dial}
use Rattle.satp_base.specs.declared.wire.Dial.TheVariants as dial
use Rattle.satp_serve.specs.declared.responder.Halt.{Halt}
use Rattle.satp_serve.specs.declared.responder.Replied.{Replied}
use Rattle.satp_serve.specs.declared.turn.ServeFault.{ServeFault}
use Rattle.satp_serve.specs.declared.turn.ServeFault.TheVariants as serve
use Rattle.satp_serve.specs.declared.turn.Turn.{Turn}
use Rattle.satp_loop.specs.Following.{Follows, HandsOver, Heard, Hears, IsDeaf, IsOpening, Listened, NotDialled, NotSaid, Opened, Point, Refused, Served, Shut, Step, Takes, Unheard, after_piece, answers_of, fresh, point}
use Rattle.satp_loop.specs.Lines.{Lining, Misses, audible, hearing, listening, opening, saying, shutting, wanting}
use Rattle.satp_loop.specs.declared.answering.Answering.{Answering}
use Rattle.satp_loop.specs.declared.peer.Peer.{Peer}

-- the answers that were heard are still there
pub place_grows : (place : ℕ) (old : Option Answering) (a b : Answering) (more : List ℕ) → place ≤ length (answers_of old) → old ≡ Some a → b.answers ≡ a.answers ++ more → place ≤ length b.answers
place_grows place old a b more within is grows =
    let there : place ≤ length a.answers = subst (λ (o : Option Answering). place ≤ length (answers_of o)) is within in
    omega (arith, there, ap (λ (l : List ℕ). length l) grows, length-append a.answers more)

-- what is said after a piece for which memory was found
said_whole : (result : Result Turn ServeFault) (piece : List ℕ) (line : Lining) → result ≢ Err serve.Memory → saying piece line ≡ after_piece result piece line
said_whole (Ok turn) piece line other = refl
said_whole (Err serve.Site) piece line other = refl
said_whole (Err serve.Memory) piece line other = absurd (other refl)

module _ {S : Type 0} (replies : Peer → S → List ℕ → Result Replied Halt → Peer → S → Type 0) where
  abbrev TakesOne : Point S → Point S → Type 0
  TakesOne p q = (step : Step) × Takes replies step p q

  -- ---- a piece that is handed over

  deaf_or_served : (piece : List ℕ) (line : Lining) (old : Answering) (p : Peer) (s : S) (heard : Answering) (q : Peer) (t : S) → line.is_open ≡ true → line.ended ≡ false
      → ((old.served.closed ≡ true) × (heard ≡ old) × (q ≡ p) × (t ≡ s)) ⊎ ((result : Result Turn ServeFault) × (result ≢ Err serve.Memory) × Hears replies piece result old p s heard q t)
      → TakesOne (point line (Some old) p s) (point (saying piece line) (Some heard) q t)
  deaf_or_served piece line old p s heard q t opened going (inl deaf) =
      (Unheard piece, (opened, subst (λ (b : Bool). IsDeaf b (Some old)) (sym going) deaf.0, rw (deaf.1, deaf.2, deaf.3) refl))
  deaf_or_served piece line old p s heard q t opened going (inr served) =
      (Served piece served.0, (opened, going, old, heard, refl, served.2, rw (said_whole served.0 piece line served.1) refl))

  said : (T E : Type 0) (done : T) (piece : List ℕ) (ended : Bool) (line : Lining) (old : Option Answering) (p : Peer) (s : S) (new : Option Answering) (q : Peer) (t : S)
      → line.is_open ≡ true → line.ended ≡ ended → HandsOver {T = T} {E = E} replies piece (Ok done) ended old p s new q t → TakesOne (point line old p s) (point (saying piece line) new q t)
  said T E done piece true line old p s new q t opened over is =
      (Unheard piece, (opened, subst (λ (b : Bool). IsDeaf b old) (sym over) tt, rw (is.1, is.2, is.3) refl))
  said T E done piece false line None p s new q t opened going is =
      (Unheard piece, (opened, subst (λ (b : Bool). IsDeaf b None) (sym going) tt, rw (is.1, is.2, is.3) refl))
  said T E done piece false line (Some old) p s new q t opened going is =
      subst (λ (o : Option Answering). TakesOne (point line (Some old) p s) (point (saying piece line) o q t)) (sym is.1) (deaf_or_served piece line old p s is.0 q t opened going is.2)

  not_said : (T E : Type 0) (fault : E) (piece : List ℕ) (ended : Bool) (line : Lining) (old : Option Answering) (p : Peer) (s : S) (new : Option Answering) (q : Peer) (t : S)
      → line.is_open ≡ true → line.ended ≡ ended → HandsOver {T = T} {E = E} replies piece (Err fault) ended old p s new q t → TakesOne (point line old p s) (point (wanting line) new q t)
  not_said T E fault piece true line old p s new q t opened over is = absurd is.0
  not_said T E fault piece false line None p s new q t opened going is = absurd is.0
  not_said T E fault piece false line (Some old) p s new q t opened going is =
      subst (λ (o : Option Answering). TakesOne (point line (Some old) p s) (point (wanting line) o q t)) (sym is.1)
      (Served piece (Err serve.Memory), (opened, going, old, is.0, refl, is.2, refl))

  module _ (beside : S → S → Type 0) where
    one_follows : (step : Step) (p q : Point S) → beside p.site q.site → Takes replies step p q → Follows replies beside p q
    one_follows step p q goes is = record { steps = step ∷ []; leads = (q, is, refl); site = goes }

    -- a call that leaves all but the line
    abbrev Turns : Lining → Lining → Type 0
    Turns line after = (a : Option Answering) (p : Peer) (s : S) → beside s s → Follows replies beside (point line a p s) (point after a p s)

    -- ---- each call

    pub listens_follows : (T E : Type 0) (at : Address) (result : Result T E) (line after : Lining) → OnOk result (after ≡ listening at line) → OnErr result (after ≡ wanting line) → Turns line after
    listens_follows T E at (Ok done) line after ok err a p s goes = one_follows (Listened at) _ _ goes (ap (λ (l : Lining). point l a p s) ok)
    listens_follows T E at (Err fault) line after ok err a p s goes = one_follows (NotDialled (dial.Listen at)) _ _ goes (ap (λ (l : Lining). point l a p s) err)

    misses_follows : (d : Dial) (line after : Lining) → IsOpening d → Misses d line after → Turns line after
    misses_follows d line after opens (inl is) a p s goes = one_follows (Refused d) _ _ goes (opens, is.0, is.1, ap (λ (l : Lining). point l a p s) is.2)
    misses_follows d line after opens (inr is) a p s goes = one_follows (NotDialled d) _ _ goes (ap (λ (l : Lining). point l a p s) is)

    pub opens_follows : (T E : Type 0) (d : Dial) (result : Result T E) (line after : Lining) (old new : Option Answering) (p q : Peer) (s t : S) → IsOpening d → beside s s
        → OnOk result ((line.used ≡ false) × (after ≡ opening d line) × (new ≡ Some fresh)) → OnErr result (Misses d line after × (new ≡ old)) → (q ≡ p) × (t ≡ s)
        → Follows replies beside (point line old p s) (point after new q t)
    opens_follows T E d (Ok done) line after old new p q s t opens goes ok err same =
        one_follows (Opened d) _ _ (subst (λ (v : S). beside s v) (sym same.1) goes) (opens, ok.0, rw (ok.1, ok.2, same.0, same.1) refl)
    opens_follows T E d (Err fault) line after old new p q s t opens goes ok err same =
        rw (err.1, same.0, same.1) (misses_follows d line after opens err.0 old p s goes)

    pub reads_follows : (n room : ℕ) (line after : Lining) (a : Option Answering) (p : Peer) (s : S) → beside s s → line.is_open ≡ true → n ≡ audible line (answers_of a) room → after ≡ hearing n room line
        → Follows replies beside (point line a p s) (point after a p s)
    reads_follows n room line after a p s goes opened count is = one_follows (Heard n room) _ _ goes (opened, count, ap (λ (l : Lining). point l a p s) is)

    pub not_said_follows : (piece : List ℕ) (line after : Lining) → line.is_open ≡ true → after ≡ wanting line → Turns line after
    not_said_follows piece line after opened is a p s goes = one_follows (NotSaid piece) _ _ goes (opened, ap (λ (l : Lining). point l a p s) is)

    -- the line with the piece that is handed over ends as the one without it
    same_end : (piece : List ℕ) (line more : Lining) → more ≡ saying piece line → line.ended ≡ more.ended
    same_end piece line more is = sym (ap (λ (l : Lining). l.ended) is)

    pub said_follows : (T E : Type 0) (done : T) (piece : List ℕ) (line more after : Lining) (old : Option Answering) (p : Peer) (s : S) (new : Option Answering) (q : Peer) (t : S)
        → line.is_open ≡ true → more ≡ saying piece line → after ≡ more → HandsOver {T = T} {E = E} replies piece (Ok done) more.ended old p s new q t → beside s t
        → Follows replies beside (point line old p s) (point after new q t)
    said_follows T E done piece line more after old p s new q t opened is left hands goes =
        let one = said T E done piece more.ended line old p s new q t opened (same_end piece line more is) hands in
        rw (left, is) (one_follows one.0 _ _ goes one.1)

    pub unserved_follows : (T E : Type 0) (fault : E) (piece : List ℕ) (line more after : Lining) (old : Option Answering) (p : Peer) (s : S) (new : Option Answering) (q : Peer) (t : S)
        → line.is_open ≡ true → more ≡ saying piece line → after ≡ wanting line → HandsOver {T = T} {E = E} replies piece (Err fault) more.ended old p s new q t → beside s t
        → Follows replies beside (point line old p s) (point after new q t)
    unserved_follows T E fault piece line more after old p s new q t opened is back hands goes =
        let one = not_said T E fault piece more.ended line old p s new q t opened (same_end piece line more is) hands in
        rw back (one_follows one.0 _ _ goes one.1)

    pub shut_follows : (line after : Lining) → after ≡ shutting line → Turns line after
    shut_follows line after is a p s goes = one_follows Shut _ _ goes (ap (λ (l : Lining). point l a p s) is)
