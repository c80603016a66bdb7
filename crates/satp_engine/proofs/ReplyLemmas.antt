-- The reply before due work and after it.
use Rattle.std.proofs.Common.{◌≡◌, inl, inr, ℕ, zero, suc, ◌+◌, ◌-◌, ◌==◌, Bool, true, false, List, [], ◌∷◌, ◌++◌, length, Option, Some, None, refl, sym, ap, ◌∙◌, arith, if◌then◌else◌, eq-eqb, eqb-true, length-append}
use Rattle.std.specs.Prelude.{slice_get, option_and_then}
use Rattle.satp_base.specs.Tales.{is_by, is_role, is_whole, last_by, maker}
use Rattle.satp_base.specs.declared.message.Kind.{Kind}
use Rattle.satp_base.specs.declared.message.Role.{Role}
use Rattle.satp_base.specs.declared.message.Role.TheVariants.{Origin, Recipient}
use Rattle.satp_base.specs.declared.session.SessionId.{SessionId}
use Rattle.satp_base.proofs.TaleLemmas.{last-push}
use Rattle.satp_sides.specs.Calls.{again_reply, last_of_own, last_text, text_of}
use Rattle.satp_sides.specs.Points.{Party, Slot, Text}
use Rattle.satp_sides.proofs.Records.{get-new, get-old, get-split}
use Rattle.satp_points.specs.Deciding.{IsWritten}
use Rattle.satp_points.specs.Decisions.{reply_by}
use Rattle.satp_points.specs.declared.decision.Replying.{Replying}
use Rattle.satp_points.specs.declared.decision.Replying.TheVariants.{Nothing, LastUnlessWhole, LastOwn, Again, Recover, Update}
use Rattle.satp_engine.specs.Turning.{Worked}
use Rattle.satp_engine.specs.Replies.{after_made, own_place, standing_by}

module _ (p : Party) (s : SessionId) (l : Slot) (long : length l.texts ≡ length l.view.tale) where
  at-length : text_of l.texts (length l.view.tale) ≡ last_text l.texts
  at-length = ap (text_of l.texts) (sym long)

  unless-whole : (b : Bool) → option_and_then (text_of l.texts) (if b then None else Some (length l.view.tale)) ≡ (if b then None else last_text l.texts)
  unless-whole true = refl
  unless-whole false = at-length

  where-own : (b : Bool) → option_and_then (text_of l.texts) (if b then Some (length l.view.tale) else None) ≡ (if b then last_text l.texts else None)
  where-own true = at-length
  where-own false = refl

  own-at : (b : Bool) → text_of l.texts (if b then length l.view.tale else length l.view.tale - 1) ≡ (if b then last_text l.texts else text_of l.texts (length l.texts - 1))
  own-at true = at-length
  own-at false = ap (λ n. text_of l.texts (n - 1)) (sym long)

  again : (place : ℕ) (whole is_last : Bool) → (place == length l.view.tale) ≡ is_last
      → option_and_then (text_of l.texts) (if whole then (if is_last then None else Some (own_place l.view.role l.view.tale)) else Some (place + 1))
      ≡ (if whole then (if place == length l.texts then None else last_of_own l) else text_of l.texts (place + 1))
  again place true true e = sym (ap (λ b. if b then None else last_of_own l) (ap (λ n. place == n) long ∙ e))
  again place true false e = own-at (last_by l.view.role l.view.tale) ∙ sym (ap (λ b. if b then None else last_of_own l) (ap (λ n. place == n) long ∙ e))
  again place false b e = refl

  -- where the reply isn't written last, it is the text that stands at its place
  pub standing-is : (replying : Replying) → (IsWritten replying → ⊥) → standing_by replying l ≡ reply_by p s replying l
  standing-is Nothing n = refl
  standing-is LastUnlessWhole n = unless-whole (is_whole l.view.tale)
  standing-is LastOwn n = where-own (last_by l.view.role l.view.tale)
  standing-is (Again place) n = again place (is_whole l.view.tale) (place == length l.view.tale) refl
  standing-is Recover n = absurd (n tt)
  standing-is (Update given) n = absurd (n tt)

-- ---- after a message was made

last-get : (texts : List Text) (t : Text) → last_text (texts ++ t ∷ []) ≡ Some t
last-get texts t = by (length (texts ++ t ∷ [])) refl
  where
    long : length (texts ++ t ∷ []) ≡ length texts + 1
    long = length-append texts (t ∷ [])

    by : (n : ℕ) → length (texts ++ t ∷ []) ≡ n → text_of (texts ++ t ∷ []) n ≡ Some t
    by zero e = absurd (omega (arith, e, long))
    by (suc n) e = let same : n ≡ length texts = omega (arith, e, long) in ap (slice_get (texts ++ t ∷ [])) same ∙ get-new texts t

own-last : (role : Role) (tale : List Kind) (k : Kind) → maker k ≡ Some role → last_by role (tale ++ k ∷ []) ≡ true
own-last role tale k m = ap (is_by role) (last-push tale k) ∙ ap (is_role role) m ∙ same role
  where
    same : (role : Role) → is_role role (Some role) ≡ true
    same Origin = refl
    same Recipient = refl

some-text : (t u : Text) → Some t ≡ Some u → t ≡ u
some-text t u e = cc e

-- a text before the last stays, and no other stands there
pub same-get : (texts : List Text) (t : Text) (n : ℕ) → (n ≡ length texts → ⊥) → slice_get texts n ≡ slice_get (texts ++ t ∷ []) n
same-get texts t n other = by (slice_get (texts ++ t ∷ []) n) refl
  where
    by : (o : Option Text) → slice_get (texts ++ t ∷ []) n ≡ o → slice_get texts n ≡ slice_get (texts ++ t ∷ []) n
    by None e = none (slice_get texts n) refl ∙ sym e
      where
        none : (o : Option Text) → slice_get texts n ≡ o → o ≡ None
        none None h = refl
        none (Some u) h = absurd (let both : None ≡ Some u = sym e ∙ get-old texts (t ∷ []) n u h in cc both)
    by (Some u) e = elim (get-split texts t n u e) [ inl h ↦ h ∙ sym e | inr h ↦ absurd (other h.0) ]

module _ (p : Party) (s : SessionId) (l after : Slot) (t : Text) (long : length l.texts ≡ length l.view.tale) (w : Worked l (Some t) after) where
  last-said : last_text after.texts ≡ Some t
  last-said = ap last_text w.1 ∙ last-get l.texts t

  last-own-is : last_by after.view.role after.view.tale ≡ true
  last-own-is = ap (λ r. last_by r after.view.tale) w.3 ∙ ap (last_by l.view.role) w.2 ∙ own-last l.view.role l.view.tale w.0 w.4

  after-long : length after.texts ≡ length after.view.tale
  after-long =
      let texts = ap length w.1 ∙ length-append l.texts (t ∷ []) in
      let tale = ap length w.2 ∙ length-append l.view.tale (w.0 ∷ []) in
      omega (arith, texts, tale, long)

  unless : (b : Bool) → (if b then None else Some t) ≡ (if b then None else last_text after.texts)
  unless true = refl
  unless false = sym last-said

  where-last : Some t ≡ (if last_by after.view.role after.view.tale then last_text after.texts else None)
  where-last = sym last-said ∙ sym (ap (λ b. if b then last_text after.texts else None) last-own-is)

  own-said : Some t ≡ last_of_own after
  own-said = sym last-said ∙ sym (ap (λ b. if b then last_text after.texts else text_of after.texts (length after.texts - 1)) last-own-is)

  in-whole : (place : ℕ) (b : Bool) → (place == length after.view.tale) ≡ b → (if b then None else Some t) ≡ (if place == length after.texts then None else last_of_own after)
  in-whole place true e = sym (ap (λ b. if b then None else last_of_own after) (ap (λ n. place == n) after-long ∙ e))
  in-whole place false e = own-said ∙ sym (ap (λ b. if b then None else last_of_own after) (ap (λ n. place == n) after-long ∙ e))

  one-more : length after.view.tale ≡ length l.texts + 1
  one-more = let tale = ap length w.2 ∙ length-append l.view.tale (w.0 ∷ []) in omega (arith, tale, long)

  at-place : (place : ℕ) → text_of after.texts (place + 1) ≡ slice_get (l.texts ++ t ∷ []) place
  at-place place = let next : place + 1 ≡ suc place = omega arith in ap (text_of after.texts) next ∙ ap (λ ts. slice_get ts place) w.1

  before-place : (place : ℕ) → again_reply place l ≡ slice_get l.texts place
  before-place place =
      let next : place + 1 ≡ suc place = omega arith in
      ap (λ b. if b then (if place == length l.texts then None else last_of_own l) else text_of l.texts (place + 1)) w.5 ∙ ap (text_of l.texts) next

  in-open : (place : ℕ) (standing : Option Text) (b : Bool) → (place + 1 == length after.view.tale) ≡ b → standing ≡ again_reply place l → (if b then Some t else standing) ≡ text_of after.texts (place + 1)
  in-open place standing true e is =
      let here : place ≡ length l.texts = omega (arith, one-more, eqb-true (place + 1) (length after.view.tale) e) in
      sym (get-new l.texts t) ∙ sym (ap (slice_get (l.texts ++ t ∷ [])) here) ∙ sym (at-place place)
  in-open place standing false e is =
      is ∙ before-place place ∙ same-get l.texts t place (λ h. apart h) ∙ sym (at-place place)
    where
      apart : place ≡ length l.texts → ⊥
      apart h =
          let same : place + 1 ≡ length after.view.tale = omega (arith, h, one-more) in
          let both : true ≡ false = sym (eq-eqb (place + 1) (length after.view.tale) same) ∙ e in cc both

  again-is : (place : ℕ) (standing : Option Text) (whole : Bool) → standing ≡ again_reply place l
      → (if whole then (if place == length after.view.tale then None else Some t) else (if place + 1 == length after.view.tale then Some t else standing))
      ≡ (if whole then (if place == length after.texts then None else last_of_own after) else text_of after.texts (place + 1))
  again-is place standing true is = in-whole place (place == length after.view.tale) refl
  again-is place standing false is = in-open place standing (place + 1 == length after.view.tale) refl is

  -- what was made is the reply, or the text that was it before is it still
  pub made-is : (replying : Replying) (standing : Option Text) → (IsWritten replying → ⊥) → standing ≡ reply_by p s replying l → after_made replying standing t after.view.tale ≡ reply_by p s replying after
  made-is Nothing standing n is = refl
  made-is LastUnlessWhole standing n is = unless (is_whole after.view.tale)
  made-is LastOwn standing n is = where-last
  made-is (Again place) standing n is = again-is place standing (is_whole after.view.tale) is
  made-is Recover standing n is = absurd (n tt)
  made-is (Update given) standing n is = absurd (n tt)

pub reply-made : (replying : Replying) (standing : Option Text) (t : Text) (tale : List Kind) (result : Option Text) → result ≡ after_made replying standing t tale
    → (p : Party) (s : SessionId) (l after : Slot) → length l.texts ≡ length l.view.tale → Worked l (Some t) after → (IsWritten replying → ⊥) → standing ≡ reply_by p s replying l → tale ≡ after.view.tale
    → result ≡ reply_by p s replying after
reply-made replying standing t tale result e p s l after long w n is same = e ∙ ap (after_made replying standing t) same ∙ made-is p s l after t long w replying standing n is
