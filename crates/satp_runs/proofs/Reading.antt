-- A body that is handled is a message that is heard, or leaves all as it was.
use Rattle.std.proofs.Common.{◌≡◌, inl, inr, ℕ, List, true, false, Option, Result, Ok, Err, refl, sym, ap, subst, ◌∙◌}
use Rattle.satp_base.specs.Calls.{Told}
use Rattle.satp_base.specs.Founding.{Founding}
use Rattle.satp_base.specs.declared.message.Message.{Message}
use Rattle.satp_gateway.specs.Handling.{HandleReads, HearsRecover, IsRead, reply_of}
use Rattle.satp_gateway.specs.declared.handle.Reply.{Reply}
use Rattle.satp_log.proofs.JournalLemmas.{one-journal}
use Rattle.satp_points.specs.Answers.{Answers, Breaking, Stays, Unchanged}
use Rattle.satp_points.specs.States.{GatewayState, Holds, Tells, is_broken}
use Rattle.satp_points.specs.declared.fault.Refused.{Refused}
use Rattle.satp_points.specs.declared.fault.Refused.TheVariants.{Body, Broken, Chain, Exists, Full, Header, Jws, Memory, Receiver, Recovery, Site, Size, Strange, TooLate}
use Rattle.satp_records.specs.declared.stored.Setup.{Setup}
use Rattle.satp_sides.specs.Calls.{IsEntryOf, IsHeard, IsOwn}
use Rattle.satp_sides.specs.Calls.Call.{Hears}
use Rattle.satp_sides.specs.Moves.{Delivered}
use Rattle.satp_sides.specs.Points.{Party, Stored, Text}
use Rattle.satp_world.specs.Worlds.{Gateway, Reached, Setting, World, side_at}
use Rattle.satp_world.proofs.SenderLaw.{said-is-short}
use Rattle.satp_point_laws.specs.Happening.{StandsIn}
use Rattle.satp_runs.specs.Asking.{Handled, IsAnswered}
use Rattle.satp_runs.specs.Living.{IsOfReading}

-- a gateway was set up in one way
one-setup : (g : GatewayState) (setup other : Setup) (xs ys : List Stored) → Holds g setup xs → Holds g other ys → setup ≡ other
unfolding Holds
one-setup g setup other xs ys h k = (one-journal g.payloads setup other xs ys h k).0

-- the answer to a body that was refused
pub of-refusal : (given : Result Reply Refused) (r : Refused) → ◌≡◌ {A = Result (Option Text) Refused} (Err r) (reply_of given) → given ≡ Err r
of-refusal (Ok reply) r e = absurd cc
of-refusal (Err s) r e = ap (λ (x : Refused). Err x) (sym (same r s e))
  where
    same : (x y : Refused) → ◌≡◌ {A = Result (Option Text) Refused} (Err x) (Err y) → x ≡ y
    same x y e = cc e

pub broken-no-more : (g : GatewayState) → is_broken g ≡ false → is_broken g ≡ true → ⊥
broken-no-more g e f = let bad : false ≡ true = sym e ∙ f in cc bad

module _ (st : Setting) (w : World) (g : Gateway) (old new : GatewayState) (before site : Tells) (setup : Setup) (t : Told) (stands : StandsIn st w g old before setup t) where
  key-is : setup.key ≡ st.key
  key-is = ap (λ (p : Party). p.key) stands.party

  -- a message that a network can hand over was heard
  pub heard-answers : (a b : Founding) → Reached st a b w → (m : Message) (text : Text) (e : Option Message) → IsHeard st.key (Hears m text e) × Delivered st.key w.bag text
      → (given : Result Reply Refused) → Handled text old new before site given → Answers (Hears m text e) old new before site (reply_of given)
  heard-answers a b reached m text e (heard, delivered) given handled = handled.answers m e (
    said-is-short st a b w reached text delivered,
    λ other ys holds.
        let key = sym (ap (λ (s : Setup). s.key) (one-setup old setup other (side_at w g).records ys stands.at.holds holds)) ∙ key-is in
        subst (λ (k : List ℕ). IsOwn k text m × IsEntryOf k m.body e) (sym key) heard,
  )

  module _ (text : Text) (unread : (m : Message) → IsOwn st.key text m → ⊥) where
    not-read : IsRead setup.key text → ⊥
    not-read (m, own) = unread m (subst (λ (k : List ℕ). IsOwn k text m) key-is own)

    by-given : (Late : Type 0) (given : Result Reply Refused) → HandleReads setup.key text given → Unchanged Late old new before site (reply_of given) → Breaking old new (reply_of given)
        → IsAnswered (reply_of given) → Stays old new before site × IsOfReading (reply_of given)
    by-given Late (Ok reply) reads still breaking ok = absurd (not-read reads.1)
    by-given Late (Err Broken) reads still breaking ok = absurd (broken-no-more old stands.at.whole (breaking.answered refl))
    by-given Late (Err (Size n)) reads still breaking ok = (still, tt)
    by-given Late (Err (Jws fault)) reads still breaking ok = (still, tt)
    by-given Late (Err Header) reads still breaking ok = (still, tt)
    by-given Late (Err (Body fault)) reads still breaking ok = (still, tt)
    by-given Late (Err Receiver) reads still breaking ok = absurd (not-read reads.1)
    by-given Late (Err (Strange s)) reads still breaking ok = absurd (not-read reads.1)
    by-given Late (Err (Chain verdict)) reads still breaking ok = absurd (not-read reads.1)
    by-given Late (Err (Recovery fault)) reads still breaking ok = absurd (not-read reads.1)
    by-given Late (Err (Full count)) reads still breaking ok = absurd (not-read reads.1)
    by-given Late (Err Exists) reads still breaking ok = absurd (not-read reads.1)
    by-given Late (Err (TooLate place)) reads still breaking ok = absurd (not-read reads.1)
    by-given Late (Err Site) reads still breaking ok = absurd ok
    by-given Late (Err Memory) reads still breaking ok = absurd ok

    -- a body that is no message's leaves all as it was
    pub unread-stays : (given : Result Reply Refused) → Handled text old new before site given → IsAnswered (reply_of given) → Stays old new before site × IsOfReading (reply_of given)
    unread-stays given handled ok = by-given (HearsRecover old text) given (handled.read setup (side_at w g).records stands.at.holds) handled.unchanged handled.breaking ok

    no-late : HearsRecover old text → ⊥
    no-late (m, is, owns) = unread m (subst (λ (k : List ℕ). IsOwn k text m) key-is (owns setup (side_at w g).records stands.at.holds))

    pub unread-lacks : (given : Result Reply Refused) → given ≡ Err Memory → Handled text old new before site given → Stays old new before site
    unread-lacks given e handled =
        let still = subst (λ (r : Result Reply Refused). Unchanged (HearsRecover old text) old new before site (reply_of r)) e handled.unchanged in
        elim still [ inl stays ↦ stays | inr late ↦ absurd (no-late late) ]

    pub unread-fails : (given : Result Reply Refused) → given ≡ Err Site → Handled text old new before site given → ⊥
    unread-fails given e handled = not-read (subst (λ (r : Result Reply Refused). HandleReads setup.key text r) e (handled.read setup (side_at w g).records stands.at.holds)).1
