-- The sessions of a log, one after the other.
use Rattle.std.proofs.Common.{◌≡◌, ◌+◌, ◌<◌, ◌≤◌, ℕ, zero, suc, List, [], ◌∷◌, ◌++◌, length, take, Option, Some, None, refl, sym, ap, ◌∙◌, arith}
use Rattle.std.specs.Prelude.{slice_get}
use Rattle.std.proofs.lemmas.List.{append_assoc, append-nil, take_all}
use Rattle.std.proofs.lemmas.Grind.{flat_map-append}
use Rattle.satp_base.specs.declared.message.Role.TheVariants.{Origin, Recipient}
use Rattle.satp_base.specs.declared.record.Rec.{Rec}
use Rattle.satp_base.specs.declared.record.Rec.TheVariants.{Began, Took, Made, Did, Chose, Rescue}
use Rattle.satp_base.specs.declared.session.SessionId.{SessionId}
use Rattle.satp_base.specs.declared.view.View.{View}
use Rattle.satp_log.specs.Logged.{sessions_in}
use Rattle.satp_sides.specs.Logs.{IsLog}
use Rattle.satp_sides.specs.Points.{Party, Stored, Text, begun, stored, view_in}
use Rattle.satp_sides.proofs.Bounds.{logs-bounded}
use Rattle.satp_replay.specs.Replaying.{line_of, session_lines}

-- each session was begun in one of the two roles
pub sessions-begun : (xs : List Stored) → length (sessions_in xs) ≡ begun Origin xs + begun Recipient xs
sessions-begun [] = refl
sessions-begun (x ∷ xs) = go x.session x.rec x.text (sessions-begun xs)
  where
    go : (s : SessionId) (r : Rec) (t : Text) → length (sessions_in xs) ≡ begun Origin xs + begun Recipient xs → length (sessions_in (stored s r t ∷ xs)) ≡ begun Origin (stored s r t ∷ xs) + begun Recipient (stored s r t ∷ xs)
    go s (Began Origin terms) t h = omega (arith, h)
    go s (Began Recipient terms) t h = omega (arith, h)
    go s (Took kind) t h = h
    go s (Made kind) t h = h
    go s (Did op) t h = h
    go s (Chose way) t h = h
    go s Rescue t h = h

pub few-sessions : (p : Party) (xs : List Stored) (started accepted : ℕ) → IsLog p xs → started ≡ begun Origin xs → accepted ≡ begun Recipient xs → started + accepted ≤ 4096
few-sessions p xs started accepted log so re =
    let a = logs-bounded p xs log Origin in
    let b = logs-bounded p xs log Recipient in
    omega (arith, a, b, so, re)

take-next : {X : Type 0} (xs : List X) (n : ℕ) (x : X) → slice_get xs n ≡ Some x → take (n + 1) xs ≡ take n xs ++ x ∷ []
take-next [] n x e = absurd (cc e)
take-next {X} (y ∷ ys) zero x e = let same : y ≡ x = cc e in ap (λ (z : X). z ∷ []) same
take-next {X} (y ∷ ys) (suc n) x e = let one : suc n + 1 ≡ suc (n + 1) = omega arith in ap (λ k. take k (y ∷ ys)) one ∙ ap (λ (l : List X). y ∷ l) (take-next ys n x e)

pub missing : (xs : List SessionId) (n : ℕ) → n < length xs → None ≡ slice_get xs n → ⊥
missing [] n less e = omega (arith, less)
missing (x ∷ xs) zero less e = cc e
missing (x ∷ xs) (suc n) less e = missing xs n (omega (arith, less)) e

-- the line of the next session stands after those of the ones before
pub next-line : (xs : List Stored) (n : ℕ) (s : SessionId) (t u w : Text) (view : Option View) → Some s ≡ slice_get (sessions_in xs) n → view ≡ view_in s xs → u ≡ t ++ session_lines xs (take n (sessions_in xs)) → w ≡ u ++ line_of s view
    → w ≡ t ++ session_lines xs (take (n + 1) (sessions_in xs))
next-line xs n s t u w view at is before after =
    let lines = λ (ss : List SessionId). session_lines xs ss in
    let taken = take n (sessions_in xs) in
    let one : session_lines xs (s ∷ []) ≡ line_of s view = append-nil (line_of s (view_in s xs)) ∙ ap (line_of s) (sym is) in
    let more : session_lines xs (take (n + 1) (sessions_in xs)) ≡ session_lines xs taken ++ line_of s view =
    ap lines (take-next (sessions_in xs) n s (sym at)) ∙ flat_map-append (λ z. line_of z (view_in z xs)) taken (s ∷ []) ∙ ap (λ l. session_lines xs taken ++ l) one in
    after ∙ ap (λ l. l ++ line_of s view) before ∙ append_assoc t (session_lines xs taken) (line_of s view) ∙ ap (λ l. t ++ l) (sym more)

pub all-lines : (xs : List Stored) (n : ℕ) (t u : Text) → n ≡ begun Origin xs + begun Recipient xs → u ≡ t ++ session_lines xs (take n (sessions_in xs)) → u ≡ t ++ session_lines xs (sessions_in xs)
all-lines xs n t u is before =
    let most : length (sessions_in xs) ≤ n = let h = sessions-begun xs in omega (arith, h, is) in
    before ∙ ap (λ l. t ++ session_lines xs l) (take_all n (sessions_in xs) most)
