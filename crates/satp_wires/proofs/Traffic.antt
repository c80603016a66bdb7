-- What is told of exchanges, one after the other.
use Rattle.std.proofs.Common.{◌≡◌, ℕ, Bool, true, false, ◌||◌, List, [], ◌∷◌, ◌++◌, refl, ap, sym, append_assoc, Option, Some, None}
use Rattle.std.specs.Prelude.{option_map}
use Rattle.std.proofs.lemmas.List.{append-nil}
use Rattle.satp_base.specs.Wires.{Conversation, Traffic, on_last, grown, exchanged}

or_assoc : (a b c : Bool) → ((a || b) || c) ≡ (a || (b || c))
or_assoc true b c = refl
or_assoc false b c = refl

or_false : (a : Bool) → (a || false) ≡ a
or_false true = refl
or_false false = refl

nothing_grown : (c : Conversation) → grown [] [] false c ≡ c
nothing_grown c = λ i. record { heard = append-nil c.heard i; said = append-nil c.said i; ended = or_false c.ended i }

grown_twice : (h k s t : List ℕ) (a b : Bool) (c : Conversation) → grown k t b (grown h s a c) ≡ grown (h ++ k) (s ++ t) (a || b) c
grown_twice h k s t a b c = λ i. record { heard = append_assoc c.heard h k i; said = append_assoc c.said s t i; ended = or_assoc c.ended a b i }

last_nothing : (cs : List Conversation) → on_last (grown [] [] false) cs ≡ cs
last_nothing [] = refl
last_nothing (c ∷ []) = ap (λ (x : Conversation). x ∷ []) (nothing_grown c)
last_nothing (c ∷ d ∷ cs) = ap (λ (l : List Conversation). c ∷ l) (last_nothing (d ∷ cs))

last_twice : (h k s t : List ℕ) (a b : Bool) (cs : List Conversation) → on_last (grown k t b) (on_last (grown h s a) cs) ≡ on_last (grown (h ++ k) (s ++ t) (a || b)) cs
last_twice h k s t a b [] = refl
last_twice h k s t a b (c ∷ []) = ap (λ (x : Conversation). x ∷ []) (grown_twice h k s t a b c)
last_twice h k s t a b (c ∷ d ∷ []) = ap (λ (x : Conversation). c ∷ x ∷ []) (grown_twice h k s t a b d)
last_twice h k s t a b (c ∷ d ∷ e ∷ cs) = ap (λ (l : List Conversation). c ∷ l) (last_twice h k s t a b (d ∷ e ∷ cs))

pub exchanged_nothing : (told : Option Traffic) → told ≡ option_map (exchanged [] [] false) told
exchanged_nothing None = refl
exchanged_nothing (Some t) = ap (λ (l : List Conversation). Some (record t { conversations = l })) (sym (last_nothing t.conversations))

pub exchanged_twice : (h k s t : List ℕ) (a b : Bool) (told : Option Traffic) → option_map (exchanged k t b) (option_map (exchanged h s a) told) ≡ option_map (exchanged (h ++ k) (s ++ t) (a || b)) told
exchanged_twice h k s t a b None = refl
exchanged_twice h k s t a b (Some x) = ap (λ (l : List Conversation). Some (record x { conversations = l })) (last_twice h k s t a b x.conversations)

-- no call that listens, accepts or connects is told besides
pub same_dials : (h s : List ℕ) (e : Bool) (told : Option Traffic) → option_map (λ (t : Traffic). t.dials) (option_map (exchanged h s e) told) ≡ option_map (λ (t : Traffic). t.dials) told
same_dials h s e None = refl
same_dials h s e (Some t) = refl
