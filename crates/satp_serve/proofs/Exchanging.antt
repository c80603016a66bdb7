-- Calls one after the other, and what is said to them.
use Rattle.std.proofs.Common.{◌≡◌, ℕ, true, false, List, [], ◌∷◌, ◌++◌, length, take, drop, refl, ap, ◌∙◌, sym, subst, arith, append_assoc}
use Rattle.std.specs.Prelude.{Result, ◌==◌}
use Rattle.std.proofs.lemmas.Bool.{eqb-true}
use Rattle.std.proofs.lemmas.List.{append-nil, take-append-drop}
use Rattle.satp_http.specs.Feeds.{RequestFeed, Adds}
use Rattle.satp_http.specs.Runs.{Call, RequestTaken, fed, took, RequestRun, came}
use Rattle.satp_serve.specs.declared.responder.Halt.{Halt}
use Rattle.satp_serve.specs.declared.responder.Replied.{Replied}
use Rattle.satp_serve.specs.Exchange.{Talk, Talks, Serves}
use Rattle.satp_serve.specs.Feeding.{ServesOne}

pub runs-append : (a b c : RequestFeed) (calls more : List (Call RequestTaken)) → RequestRun a calls b → RequestRun b more c → RequestRun a (calls ++ more) c
runs-append a b c [] more first then = subst (λ (f : RequestFeed). RequestRun f more c) first then
runs-append a b c (fed piece ∷ calls) more first then = runs-append (record a { held = a.held ++ piece }) b c calls more first then
runs-append a b c (took given ∷ calls) more first then = (first.0, first.1, runs-append first.0 b c calls more first.2 then)

pub came-append : (calls more : List (Call RequestTaken)) → came (calls ++ more) ≡ came calls ++ came more
came-append [] more = refl
came-append (fed piece ∷ calls) more = ap (λ l. piece ++ l) (came-append calls more) ∙ sym (append_assoc piece (came calls) (came more))
came-append (took given ∷ calls) more = came-append calls more

pub talks-append : {G S : Type 0} (replies : G → S → List ℕ → Result Replied Halt → G → S → Type 0) (t u v : Talk G S) (calls more : List (Call RequestTaken)) → Talks replies t calls u → Talks replies u more v → Talks replies t (calls ++ more) v
talks-append {G} {S} replies t u v [] more first then = subst (λ (w : Talk G S). Talks replies w more v) first then
talks-append replies t u v (fed piece ∷ calls) more first then = talks-append replies t u v calls more first then
talks-append replies t u v (took given ∷ calls) more first then = (first.0, first.1, first.2, talks-append replies first.1 u v calls more first.3 then)

-- nothing was done
pub serves_nothing : {G S : Type 0} (replies : G → S → List ℕ → Result Replied Halt → G → S → Type 0) (a : RequestFeed) (t : Talk G S) → Serves replies a a t t []
serves_nothing replies a t = record { calls = []; runs = refl; bytes_are = refl; talks = refl }

-- one after the other
pub serves_then : {G S : Type 0} (replies : G → S → List ℕ → Result Replied Halt → G → S → Type 0) (a b c : RequestFeed) (t u v : Talk G S) (first second : List ℕ) → Serves replies a b t u first → Serves replies b c u v second → Serves replies a c t v (first ++ second)
serves_then replies a b c t u v first second x y = record {
  calls = x.calls ++ y.calls;
  runs = runs-append a b c x.calls y.calls x.runs y.runs;
  bytes_are = came-append x.calls y.calls ∙ (λ i. x.bytes_are i ++ y.bytes_are i);
  talks = talks-append replies t u v x.calls y.calls x.talks y.talks;
}

-- one call, after which nothing more came
pub serves_one : {G S : Type 0} (replies : G → S → List ℕ → Result Replied Halt → G → S → Type 0) (a b : RequestFeed) (t u : Talk G S) → t.closed ≡ false → ServesOne replies a b t u → Serves replies a b t u []
serves_one replies a b t u unclosed one = record { calls = took one.given ∷ []; runs = (b, one.takes, refl); bytes_are = refl; talks = (unclosed, u, one.says, refl) }

pub serves_more : {G S : Type 0} (replies : G → S → List ℕ → Result Replied Halt → G → S → Type 0) (a b c : RequestFeed) (t u v : Talk G S) → Serves replies a b t u [] → u.closed ≡ false → ServesOne replies b c u v → Serves replies a c t v []
serves_more replies a b c t u v x unclosed one = serves_then replies a b c t u v [] [] x (serves_one replies b c u v unclosed one)

-- bytes that were added
pub serves_fed : {G S : Type 0} (replies : G → S → List ℕ → Result Replied Halt → G → S → Type 0) (a b : RequestFeed) (t : Talk G S) (piece : List ℕ) → b ≡ record a { held = a.held ++ piece } → Serves replies a b t t piece
serves_fed replies a b t piece is = record { calls = fed piece ∷ []; runs = is; bytes_are = append-nil piece; talks = refl }

-- a piece of the rest was added, and then requests were answered
pub fed_then : {G S : Type 0} (replies : G → S → List ℕ → Result Replied Halt → G → S → Type 0) (a b c d : RequestFeed) (t u v : Talk G S) (front rest piece : List ℕ) (n : ℕ) → piece ≡ front ++ rest → Serves replies a b t u front → c ≡ record b { held = b.held ++ take n rest } → Serves replies c d u v []
    → Serves replies a d t v (front ++ take n rest) × (piece ≡ (front ++ take n rest) ++ drop n rest)
fed_then replies a b c d t u v front rest piece n cut first is second = (
  subst (Serves replies a d t v) (append-nil (front ++ take n rest)) (serves_then replies a c d t u v (front ++ take n rest) [] (serves_then replies a b c t u u front (take n rest) first (serves_fed replies b c u (take n rest) is)) second),
  cut ∙ ap (λ l. front ++ l) (sym (take-append-drop n rest)) ∙ sym (append_assoc front (take n rest) (drop n rest)),
)

pub fed_last : {G S : Type 0} (replies : G → S → List ℕ → Result Replied Halt → G → S → Type 0) (a b c d : RequestFeed) (t u v : Talk G S) (front rest piece : List ℕ) (n : ℕ) → piece ≡ front ++ rest → Serves replies a b t u front → c ≡ record b { held = b.held ++ take n rest } → Serves replies c d u v [] → drop n rest ≡ []
    → Serves replies a d t v piece
fed_last replies a b c d t u v front rest piece n cut first is second empty =
    let f = fed_then replies a b c d t u v front rest piece n cut first is second in
    subst (Serves replies a d t v) (sym (f.1 ∙ ap (λ l. (front ++ take n rest) ++ l) empty ∙ append-nil (front ++ take n rest))) f.0

pub nothing_left : (l : List ℕ) → true ≡ (length l == 0) → l ≡ []
nothing_left [] e = refl
nothing_left (x ∷ xs) e = absurd (omega (arith, eqb-true _ _ (sym e)))

-- what a call of `feed` adds
pub fed_is : (a b : RequestFeed) (piece : List ℕ) (n : ℕ) → b ≡ record a { held = b.held } → Adds piece a.held b.held n → b ≡ record a { held = a.held ++ take n piece }
fed_is a b piece n rest adds = rest ∙ ap (λ (l : List ℕ). record a { held = l }) adds.bytes_are
