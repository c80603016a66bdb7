-- How calls follow one another in what a device tells.
use Rattle.std.proofs.Common.{◌≡◌, ℕ, zero, suc, ◌+◌, List, [], ◌∷◌, ◌++◌, length, take, Option, Some, None, option_map, refl, sym, ap, ◌∙◌, subst, inl, inr, arith, append_assoc, length-append}
use Rattle.std.specs.Prelude.{slice_get}
use Rattle.std.proofs.lemmas.List.{append-nil, take-append-le}
use Rattle.std.proofs.lemmas.Option.{slice_get_within}
use Rattle.std.proofs.Math.Seq.{take-append-add}
use Rattle.satp_base.specs.declared.area.Event.{Event}
use Rattle.satp_base.specs.declared.area.Event.TheVariants.{Left}
use Rattle.satp_base.specs.Calls.{Told, made, call_failed, risen, calls_of, events_in, IsFailure, Makes, FailsAt, FailsAmong}
use Rattle.satp_base.specs.Trail.{extended}
use Rattle.satp_base.specs.Segments.{IsCut, last_area}
use Rattle.satp_base.proofs.Cuts.{last_of}

rises : (count n m : ℕ) → risen (risen count n) m ≡ risen count (n + m)
rises count n m = omega arith

pub made-made : (n m : ℕ) (es fs : List Event) (o : Option Told) → option_map (made m fs) (option_map (made n es) o) ≡ option_map (made (n + m) (es ++ fs)) o
made-made n m es fs None = refl
made-made n m es fs (Some t) = rw (append_assoc, rises t.calls n m) refl

pub made_none : (o : Option Told) → option_map (made 0 []) o ≡ o
made_none None = refl
made_none (Some t) = let still : risen t.calls 0 ≡ t.calls = omega arith in rw (append-nil t.trail.events, still) refl

-- these events were added to what is told of the trail
abbrev pub GrowsBy : List Event → Option Told → Option Told → Type 0
GrowsBy es old new = option_map (λ (t : Told). t.trail) new ≡ option_map (λ (t : Told). extended t.trail es) old

pub made_grows : (n : ℕ) (es : List Event) (old new : Option Told) → new ≡ option_map (made n es) old → GrowsBy es old new
made_grows n es None new is = ap (λ (o : Option Told). option_map (λ (t : Told). t.trail) o) is
made_grows n es (Some t) new is = ap (λ (o : Option Told). option_map (λ (t : Told). t.trail) o) is

pub failed_grows : (es : List Event) (old new : Option Told) → new ≡ option_map (call_failed es) old → GrowsBy es old new
failed_grows es None new is = ap (λ (o : Option Told). option_map (λ (t : Told). t.trail) o) is
failed_grows es (Some t) new is = ap (λ (o : Option Told). option_map (λ (t : Told). t.trail) o) is

pub grows_more : (n : ℕ) (es fs : List Event) (old new : Option Told) → GrowsBy fs (option_map (made n es) old) new → GrowsBy (es ++ fs) old new
grows_more n es fs None new grows = grows
grows_more n es fs (Some t) new grows = grows ∙ ap (λ (l : List Event). Some (record t.trail { events = l })) (append_assoc t.trail.events es fs)

some_call : {x y : Option Event} → Some x ≡ Some y → x ≡ y
some_call e = cc

module _ {X : Type 0} where
  get_past : (xs ys : List X) (n : ℕ) → slice_get (xs ++ ys) (length xs + n) ≡ slice_get ys n
  get_past [] ys n = let e : length {A = X} [] + n ≡ n = omega arith in ap (slice_get ys) e
  get_past (x ∷ xs) ys n = let e : length (x ∷ xs) + n ≡ suc (length xs + n) = omega arith in rw e (get_past xs ys n)

  get_front : (xs ys : List X) (n : ℕ) (x : X) → slice_get xs n ≡ Some x → slice_get (xs ++ ys) n ≡ Some x
  get_front [] ys n x at = absurd cc
  get_front (y ∷ xs) ys zero x at = at
  get_front (y ∷ xs) ys (suc n) x at = get_front xs ys n x at

-- the events of some calls, and of the next one
pub events_more : (n : ℕ) (calls : List (Option Event)) (e : Event) → slice_get calls n ≡ Some (Some e) → events_in (take (suc n) calls) ≡ events_in (take n calls) ++ e ∷ []
events_more n [] e at = absurd cc
events_more zero (c ∷ calls) e at = rw (some_call at) refl
events_more (suc n) (None ∷ calls) e at = events_more n calls e at
events_more (suc n) (Some f ∷ calls) e at = ap (λ (l : List Event). f ∷ l) (events_more n calls e at)

-- the events of a prefix of the calls are a prefix of their events
pub events_prefix : (n : ℕ) (calls : List (Option Event)) → (m : ℕ) × (events_in (take n calls) ≡ take m (events_in calls))
events_prefix zero calls = (0, refl)
events_prefix (suc n) [] = (0, refl)
events_prefix (suc n) (None ∷ calls) = events_prefix n calls
events_prefix (suc n) (Some f ∷ calls) = let r = events_prefix n calls in (suc r.0, ap (λ (l : List Event). f ∷ l) r.1)

module _ (calls : List (Option Event)) (n : ℕ) where
  abbrev before : List Event
  before = events_in (take n calls)

  -- the events of a failed call, after those of the calls before it
  failure_cut : (e : Event) (es : List Event) → slice_get calls n ≡ Some (Some e) → IsFailure e es → IsCut (events_in calls) (before ++ es)
  failure_cut e es at failure = by failure
    where
      whole : before ++ e ∷ [] ≡ take (events_prefix (suc n) calls).0 (events_in calls)
      whole = sym (events_more n calls e at) ∙ (events_prefix (suc n) calls).1

      by : IsFailure e es → IsCut (events_in calls) (before ++ es)
      by (inl none) = let r = events_prefix n calls in (r.0, inl (ap (λ (l : List Event). before ++ l) none ∙ append-nil before ∙ r.1))
      by (inr (inl one)) = ((events_prefix (suc n) calls).0, inl (ap (λ (l : List Event). before ++ l) one ∙ whole))
      by (inr (inr (area, bytes, of, two))) = (
        (events_prefix (suc n) calls).0,
        inr (
          area,
          bytes,
          ap last_area (sym whole) ∙ last_of before e [] ∙ of,
          ap (λ (l : List Event). before ++ l) two ∙ sym (append_assoc before (e ∷ []) (Left area bytes ∷ [])) ∙ ap (λ (l : List Event). l ++ Left area bytes ∷ []) whole,
        ),
      )

-- what was made before a call failed, with what that left, is a cut of the events
pub among_cut : (calls : List (Option Event)) (old new : Option Told) → FailsAmong calls old new → (events : List Event) × IsCut (events_in calls) events × GrowsBy events old new
among_cut calls old new (n, None, at, is) =
    let r = events_prefix n calls in
    (events_in (take n calls) ++ [], (r.0, inl (append-nil (events_in (take n calls)) ∙ r.1)), grows_more (length (take n calls)) (events_in (take n calls)) [] old new (failed_grows [] _ new is))
among_cut calls old new (n, Some e, at, (es, failure, is)) =
    (events_in (take n calls) ++ es, failure_cut calls n e es at failure, grows_more (length (take n calls)) (events_in (take n calls)) es old new (failed_grows es _ new is))

-- one call for each event has these events
pub events_of_calls : (events : List Event) → events_in (calls_of events) ≡ events
events_of_calls [] = refl
events_of_calls (e ∷ events) = ap (λ (l : List Event). e ∷ l) (events_of_calls events)

pub events_append : (xs ys : List (Option Event)) → events_in (xs ++ ys) ≡ events_in xs ++ events_in ys
events_append [] ys = refl
events_append (None ∷ xs) ys = events_append xs ys
events_append (Some e ∷ xs) ys = ap (λ (l : List Event). e ∷ l) (events_append xs ys)

-- all of the first calls succeeded, and then all of the second
pub makes_more : (xs ys : List (Option Event)) (old mid new : Option Told) → Makes xs old mid → Makes ys mid new → Makes (xs ++ ys) old new
makes_more xs ys old mid new one two = two ∙ ap (option_map (made (length ys) (events_in ys))) one ∙ made-made (length xs) (length ys) (events_in xs) (events_in ys) old ∙ rw (length-append xs ys, events_append xs ys) refl

-- all of the first calls succeeded, and one of the second failed
pub fails_more : (xs ys : List (Option Event)) (old mid new : Option Told) → Makes xs old mid → FailsAmong ys mid new → FailsAmong (xs ++ ys) old new
fails_more xs ys old mid new one (n, call, at, fails) = (length xs + n, call, get_past xs ys n ∙ at, subst (λ (o : Option Told). FailsAt call o new) there fails)
  where
    there : option_map (made (length (take n ys)) (events_in (take n ys))) mid ≡ option_map (made (length (take (length xs + n) (xs ++ ys))) (events_in (take (length xs + n) (xs ++ ys)))) old
    there = rw (take-append-add xs ys n) (makes_more xs (take n ys) old mid _ one refl)

-- one of the first calls failed
pub fails_front : (xs ys : List (Option Event)) (old new : Option Told) → FailsAmong xs old new → FailsAmong (xs ++ ys) old new
fails_front xs ys old new (n, call, at, fails) =
    let within = slice_get_within xs n call at in
    (n, call, get_front xs ys n call at, subst (λ (l : List (Option Event)). FailsAt call (option_map (made (length l) (events_in l)) old) new) (sym (take-append-le n xs ys (omega (arith, within)))) fails)
