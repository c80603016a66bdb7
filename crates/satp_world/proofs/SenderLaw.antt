-- Who knows the session of a text in the bag, and how long texts are.
use Rattle.std.proofs.Common.{◌≡◌, ◌⊎◌, inl, inr, ℕ, Bool, true, List, [], ◌∷◌, length, Some, refl, sym, ap, subst, ◌∙◌, arith}
use Rattle.std.specs.Prelude.{nat_le}
use Rattle.std.specs.List.{list_all}
use Rattle.std.proofs.lemmas.Bool.{and_parts}
use Rattle.satp_base.specs.Forms.{IsBody, IsMessage, is_entry, is_entry_byte}
use Rattle.satp_base.specs.Founding.{Founding}
use Rattle.satp_base.specs.Signatures.{own}
use Rattle.satp_base.specs.declared.message.Body.{Body}
use Rattle.satp_base.specs.declared.message.Body.TheVariants as body
use Rattle.satp_base.specs.declared.message.Link.{Link}
use Rattle.satp_base.specs.declared.message.Message.{Message}
use Rattle.satp_base.specs.declared.session.SessionId.{SessionId}
use Rattle.satp_base.specs.declared.view.View.{View}
use Rattle.satp_base.proofs.Forms.{form_parts}
use Rattle.satp_base.proofs.SignatureLemmas.{own_shows}
use Rattle.satp_base.proofs.TextSizes.{own-short}
use Rattle.satp_sides.specs.Moves.{Among, Sayable, SideMoves}
use Rattle.satp_sides.specs.Moves.Among.{first, later}
use Rattle.satp_sides.specs.Moves.Delivered.{Alone, Listed}
use Rattle.satp_sides.specs.Moves.SideMoves.{Moves, Stops}
use Rattle.satp_sides.specs.Points.{Party, Side, Text, view_in}
use Rattle.satp_sides.specs.Points.Move.{Appends, Acts, Says}
use Rattle.satp_sides.proofs.SaidLaw.{still-named}
use Rattle.satp_world.specs.Kept.{IsKnown, Names, SaidIsShort, SenderKnows}
use Rattle.satp_world.specs.Worlds.{Gateway, Reached, Setting, World, name_at, opposite, party_at, side_at, with_side}
use Rattle.satp_world.specs.Worlds.Gateway.{A, B}
use Rattle.satp_world.specs.Worlds.Reached.{Begins, Goes}
use Rattle.satp_world.specs.Worlds.WorldMoves.{By}
use Rattle.satp_world.proofs.KeptLaw.{more-records}
use Rattle.satp_world.proofs.Limits.{IsSaidOf, said-of-session, said-one}
use Rattle.satp_world.proofs.Limits.IsSaidOf.{Named, Asked}

-- ---- records go on naming a session

side-names : (p : Party) (side : Side) (bag : List Text) (new : Side) (more : List Text) → SideMoves p side bag new more → (s : SessionId) (v : View) → view_in s side.records ≡ Some v → (u : View) × (view_in s new.records ≡ Some u)
side-names p side bag new more m s v e =
    let (ys, grown) = more-records p side bag new more m in
    let k = still-named s side.records ys v e in
    (k.view, ap (view_in s) grown ∙ k.named)

names-kept : (st : Setting) (w : World) (q : Gateway) (side : Side) (bag : List Text) → SideMoves (party_at st q) (side_at w q) w.bag side bag → (g : Gateway) (s : SessionId) → Names w g s → Names (with_side w q side bag) g s
names-kept st w A side bag m A s (v, e) = side-names (party_at st A) w.a w.bag side bag m s v e
names-kept st w A side bag m B s (v, e) = (v, e)
names-kept st w B side bag m A s (v, e) = (v, e)
names-kept st w B side bag m B s (v, e) = side-names (party_at st B) w.b w.bag side bag m s v e

known-kept : (st : Setting) (w : World) (q : Gateway) (side : Side) (bag : List Text) → SideMoves (party_at st q) (side_at w q) w.bag side bag → (m : Message) → IsKnown st w m → IsKnown st (with_side w q side bag) m
known-kept st w q side bag move m k = record {
  by = k.by;
  sender = k.sender;
  receiver = k.receiver;
  names = elim k.names [ inl n ↦ inl (names-kept st w q side bag move k.by m.session n) | inr n ↦ inr (n.0, names-kept st w q side bag move (opposite k.by) m.session n.1) ];
}

-- ---- what is said now

pub twice : (g : Gateway) → opposite (opposite g) ≡ g
twice A = refl
twice B = refl

pub same-name : (st : Setting) (g q : Gateway) → name_at st g ≡ name_at st q → g ≡ q
same-name st A A h = refl
same-name st B B h = refl
same-name st A B h = absurd (st.differ h)
same-name st B A h = absurd (st.differ (sym h))

abbrev AllKnown : Setting → World → Type 0
AllKnown st w = (m : Message) → IsMessage m → Among (own st.key m) w.bag → IsKnown st w m

-- a `recover` to this gateway is of a session that its sender's records name
asker : (st : Setting) (w : World) → AllKnown st w → (g : Gateway) (m : Message) (n : ℕ) (last : Link) → IsMessage m → m.receiver ≡ name_at st g → m.body ≡ body.Recover n last → Among (own st.key m) w.bag → Names w (opposite g) m.session
asker st w all g m n last f to is i =
    let k = all m f i in
    let there : opposite k.by ≡ g = same-name st (opposite k.by) g (sym k.receiver ∙ to) in
    let here : k.by ≡ opposite g = sym (twice k.by) ∙ ap opposite there in
    elim k.names [
      | inl named ↦ subst (λ q. Names w q m.session) here named
      | inr none ↦ absurd (cc (is, none.0))
    ]

-- a text that is said
said-known : (st : Setting) (a b : Founding) (w : World) → Reached st a b w → AllKnown st w → (g : Gateway) (t : Text) → Sayable (party_at st g) (side_at w g).records w.bag t
    → (m : Message) → IsMessage m → t ≡ own st.key m → IsKnown st w m
said-known st a b w r all g t z m f e =
    let one = said-one st a b w r g t z in
    let same : one.message ≡ m = own_shows st.key st.key one.message m one.formed f (sym one.text ∙ e) in
    subst (IsKnown st w) same (record { by = g; sender = one.sender; receiver = one.receiver; names = names-of one.message (said-of-session st a b w r g t z) })
  where
    names-of : (n : Message) → IsSaidOf st w g t n → Names w g n.session ⊎ ((n.body ≡ body.Update 0 []) × Names w (opposite g) n.session)
    names-of n (Named v h) = inl (v, h)
    names-of n (Asked asked c last h s to is i none) = inr (none, subst (Names w (opposite g)) s (asker st w all g asked c last h to is i))

-- a text in the bag is new, or was there
came-known : (st : Setting) (a b : Founding) (w : World) → Reached st a b w → AllKnown st w → (g : Gateway) (side : Side) (bag : List Text) → SideMoves (party_at st g) (side_at w g) w.bag side bag → (m : Message) → IsMessage m → Among (own st.key m) bag → IsKnown st w m
came-known st a b w r all g _ _ (Moves (Appends x) k) m f i = all m f i
came-known st a b w r all g _ _ (Moves (Acts s op terms) k) m f i = all m f i
came-known st a b w r all g _ _ (Moves (Says u) k) m f i = by-place (own st.key m) refl i
  where
    by-place : (t : Text) → t ≡ own st.key m → Among t (u ∷ w.bag) → IsKnown st w m
    by-place _ e first = said-known st a b w r all g u k m f e
    by-place t e (later j) = all m f (subst (λ x. Among x w.bag) e j)
came-known st a b w r all g _ _ Stops m f i = all m f i

pub sender-knows : SenderKnows
sender-knows st a b _ Begins m f i = elim i [ ]
sender-knows st a b _ (Goes w v r (By A side bag move)) m f i = known-kept st w A side bag move m (came-known st a b w r (sender-knows st a b w r) A side bag move m f i)
sender-knows st a b _ (Goes w v r (By B side bag move)) m f i = known-kept st w B side bag move m (came-known st a b w r (sender-knows st a b w r) B side bag move m f i)

-- ---- texts are short

-- a text in the bag is the own text of a formed message
pub record IsOwnText (key : List ℕ) (t : Text) : Type 0 where
  pub message : Message
  pub formed : IsMessage message
  pub text : t ≡ own key message

came-own : (st : Setting) (a b : Founding) (w : World) → Reached st a b w → ((t : Text) → Among t w.bag → IsOwnText st.key t) → (g : Gateway) (side : Side) (bag : List Text) → SideMoves (party_at st g) (side_at w g) w.bag side bag → (t : Text) → Among t bag → IsOwnText st.key t
came-own st a b w r all g _ _ (Moves (Appends x) k) t i = all t i
came-own st a b w r all g _ _ (Moves (Acts s op terms) k) t i = all t i
came-own st a b w r all g _ _ (Moves (Says u) k) t i = by-place t i
  where
    by-place : (t : Text) → Among t (u ∷ w.bag) → IsOwnText st.key t
    by-place _ first = let one = said-one st a b w r g u k in record { message = one.message; formed = one.formed; text = one.text }
    by-place t (later j) = all t j
came-own st a b w r all g _ _ Stops t i = all t i

pub bag-own : (st : Setting) (a b : Founding) (w : World) → Reached st a b w → (t : Text) → Among t w.bag → IsOwnText st.key t
bag-own st a b _ Begins t i = elim i [ ]
bag-own st a b _ (Goes w v r (By A side bag move)) t i = came-own st a b w r (bag-own st a b w r) A side bag move t i
bag-own st a b _ (Goes w v r (By B side bag move)) t i = came-own st a b w r (bag-own st a b w r) B side bag move t i

all-among : (f : Text → Bool) (t : Text) (ts : List Text) → list_all f ts ≡ true → Among t ts → f t ≡ true
all-among f t _ h (first {ts = ts}) = (and_parts (f t) (list_all f ts) h).0
all-among f t _ h (later {u = u} {ts = ts} i) = all-among f t ts (and_parts (f u) (list_all f ts) h).1 i

entries-of : (m : Message) (n : ℕ) (entries : List Text) → IsMessage m → m.body ≡ body.Update n entries → list_all is_entry entries ≡ true
entries-of m n entries f e = by m.body e f.0
  where
    by : (b : Body) → b ≡ body.Update n entries → IsBody b → list_all is_entry entries ≡ true
    by (body.Update k es) e h = let same : es ≡ entries = cc e in subst (λ x. list_all is_entry x ≡ true) same (and_parts (nat_le (length es) 2) (list_all is_entry es) h.1).1
    by (body.Chain place previous part) e h = absurd (cc e)
    by (body.Recover k last) e h = absurd (cc e)
    by (body.Success k last) e h = absurd (cc e)

pub said-is-short : SaidIsShort
said-is-short st a b w r t (Alone i) =
    let one = bag-own st a b w r t i in
    let h = own-short st.key one.message one.formed in
    let e = ap length one.text in
    omega (arith, h, e)
said-is-short st a b w r t (Listed m n entries f i e j) =
    let h = (form_parts 2048 is_entry_byte t (all-among is_entry t entries (entries-of m n entries f e) j)).short in
    omega (arith, h)
