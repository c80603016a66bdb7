-- The law for a session, by which sides have begun.
use Rattle.std.proofs.Common.{◌≡◌, Bool, true, false, List, [], ◌∷◌, ◌++◌, Option, Some, None, refl, sym, ap, subst, ◌∙◌, inl, if◌then◌else◌}
use Rattle.satp_base.specs.declared.message.Kind.{Kind}
use Rattle.satp_base.specs.declared.message.Kind.TheVariants.{TransferProposal}
use Rattle.satp_base.specs.declared.message.Role.TheVariants.{Origin, Recipient}
use Rattle.satp_base.specs.declared.message.Terms.{Terms}
use Rattle.satp_base.specs.declared.ledger.Entry.{Entry}
use Rattle.satp_base.specs.declared.ledger.Entry.TheVariants.{Absent}
use Rattle.satp_base.specs.declared.view.View.{View}
use Rattle.satp_base.specs.Views.{begin, nothing_done}
use Rattle.satp_base.specs.Tales.{IsTale, has, kind_eq}
use Rattle.satp_base.proofs.Finite.{all_of, all_of-at, in_nothing}
use Rattle.satp_base.proofs.Finite.In.{here}
use Rattle.satp_base.proofs.TaleTable.{kind_eq-is}
use Rattle.satp_sides.specs.Points.{tale_of}
use Rattle.satp_world.specs.Deal.{Deal}
use Rattle.satp_sides.specs.Halves.{Half, half, OriginStands, RecipientStands}
use Rattle.satp_world.specs.Sessions.{Tied, Moves, GoesOn, StandsAt, LawStep, deal_of}
use Rattle.satp_world.specs.Sessions.Tied.{Same, Origin_ahead, Recipient_ahead}
use Rattle.satp_world.specs.Sessions.SessionMoves.{Proposes, Accepts, Origin_moves, Recipient_moves}
use Rattle.satp_world.proofs.TaleSteps.{in-begun}
use Rattle.satp_world.proofs.HalfTable.{Head, origins}
use Rattle.satp_world.proofs.HalfTest.{side_ok}
use Rattle.satp_world.proofs.HalfComplete.{head_of}
use Rattle.satp_world.proofs.HalfSound.{origin-stands, recipient-stands}
use Rattle.satp_world.proofs.StepLaw.{Facts, by_facts, same-head, origin-in, origin-law, recipient-law}

-- a recipient whose records don't name the session
abbrev blank : Terms → Half
blank terms = half (record { role = Recipient; terms = terms; tale = []; done = nothing_done; way = None; rescue = false }) Absent

proposal_ok : (p : Head) (terms : Terms) → all_of (λ a. side_ok Origin [] false a (blank terms)) (origins p (TransferProposal ∷ [])) ≡ true
proposal_ok p terms = refl

-- the proposal alone is a tale
proposal_is : IsTale (TransferProposal ∷ [])
proposal_is = (in-begun (TransferProposal ∷ []) here).tale

begun-origin : (terms : Terms) (e : Entry) → e ≡ Absent → OriginStands (half (begin Origin terms) e)
begun-origin terms e p = subst (λ v. OriginStands (half (begin Origin terms) v)) (sym p) (origin-stands (half (begin Origin terms) Absent) proposal_is refl refl)

begun-recipient : (terms : Terms) (e : Entry) → e ≡ Absent → RecipientStands (half (begin Recipient terms) e)
begun-recipient terms e p = subst (λ v. RecipientStands (half (begin Recipient terms) v)) (sym p) (recipient-stands (half (begin Recipient terms) Absent) proposal_is refl refl)

snoc_some : (t : List Kind) (k : Kind) → t ++ k ∷ [] ≡ [] → ⊥
snoc_some [] k q = cc q
snoc_some (j ∷ t) k q = cc q

alone-facts : (a : Half) (terms : Terms) → OriginStands a → a.view.tale ≡ TransferProposal ∷ [] → Facts Origin a (blank terms)
alone-facts a terms s e =
    record {
      more = [];
      even = false;
      side = s;
      tied = Origin_ahead TransferProposal refl (sym e);
      more_is = λ k i. absurd (in_nothing i);
      even_is = λ h. absurd (cc h);
      ok = all_of-at (λ a. side_ok Origin [] false a (blank terms)) (origin-in a s (TransferProposal ∷ []) e) (proposal_ok (head_of a) terms);
      take = λ k q m. absurd (snoc_some a.view.tale k q);
    }

still-proposed : (t : List Kind) → has TransferProposal t ≡ true → Tied t [] → t ≡ TransferProposal ∷ []
still-proposed t h (Same e) = absurd (cc (h, ap (has TransferProposal) e))
still-proposed t h (Origin_ahead k m e) = sym (subst (λ v. v ∷ [] ≡ t) (sym (kind_eq-is TransferProposal k (found k (subst (λ v. has TransferProposal v ≡ true) (sym e) h)))) e)
  where
    found : (k : Kind) → has TransferProposal (k ∷ []) ≡ true → kind_eq TransferProposal k ≡ true
    found k h = go (kind_eq TransferProposal k) h
      where
        go : (b : Bool) → (if b then true else false) ≡ true → b ≡ true
        go true h = refl
        go false h = h
still-proposed t h (Recipient_ahead k m e) = absurd (snoc_some t k e)

-- ---- by which sides have begun

abbrev deal_at : Option View → Option View → Entry → Entry → Deal
deal_at a b ea eb = deal_of (record { a = a; b = b; a_entry = ea; b_entry = eb })

proposes : (a b : Option View) (ea eb : Entry) (terms : Terms) → StandsAt a b ea eb → a ≡ None → StandsAt (Some (begin Origin terms)) b ea eb × GoesOn Origin (deal_at a b ea eb) (deal_at (Some (begin Origin terms)) b ea eb)
proposes None None ea eb terms k e = ((begun-origin terms ea k.0, refl, refl, k.1), inl refl)
proposes None (Some w) ea eb terms k e = absurd k
proposes (Some v) b ea eb terms k e = absurd (cc e)

accepts : (a b : Option View) (ea eb : Entry) (v : View) → StandsAt a b ea eb → a ≡ Some v → b ≡ None → StandsAt a (Some (begin Recipient v.terms)) ea eb × GoesOn Recipient (deal_at a b ea eb) (deal_at a (Some (begin Recipient v.terms)) ea eb)
accepts (Some u) None ea eb v k e f =
    let same : u ≡ v = cc e in
    (record { origin = k.0; recipient = begun-recipient v.terms eb k.3; tied = Same k.1; roles = (k.2, refl); terms = ap (λ (x : View). x.terms) same }, inl refl)
accepts None b ea eb v k e f = absurd (cc e)
accepts (Some u) (Some w) ea eb v k e f = absurd (cc f)

origin_moves : (a b : Option View) (ea eb : Entry) (v : View) (new : Half) → StandsAt a b ea eb → a ≡ Some v → Moves Origin (half v ea) (tale_of b) new → StandsAt (Some new.view) b new.entry eb × GoesOn Origin (deal_at a b ea eb) (deal_at (Some new.view) b new.entry eb)
origin_moves None b ea eb v new k e m = absurd (cc e)
origin_moves (Some u) (Some w) ea eb v new k e m =
    let same : v ≡ u = cc e in
    origin-law (half u ea) (half w eb) new k (subst (λ x. Moves Origin (half x ea) w.tale new) same m)
origin_moves (Some u) None ea eb v new k e m =
    let same : v ≡ u = cc e in
    let move = subst (λ x. Moves Origin (half x ea) [] new) same m in
    let q = by_facts Origin (half u ea) (blank u.terms) (alone-facts (half u ea) u.terms k.0 k.1) new move in
    let h = same-head Origin (half u ea) [] new move in
    ((q.side, still-proposed new.view.tale q.side.begun q.tied, h.0 ∙ k.2, k.3), subst (λ x. GoesOn Origin (deal_at (Some u) None ea x) (deal_at (Some new.view) None new.entry x)) (sym k.3) q.deal)

recipient_moves : (a b : Option View) (ea eb : Entry) (v : View) (new : Half) → StandsAt a b ea eb → b ≡ Some v → Moves Recipient (half v eb) (tale_of a) new → StandsAt a (Some new.view) ea new.entry × GoesOn Recipient (deal_at a b ea eb) (deal_at a (Some new.view) ea new.entry)
recipient_moves a None ea eb v new k e m = absurd (cc e)
recipient_moves None (Some w) ea eb v new k e m = absurd k
recipient_moves (Some u) (Some w) ea eb v new k e m =
    let same : v ≡ w = cc e in
    recipient-law (half u ea) (half w eb) new k (subst (λ x. Moves Recipient (half x eb) u.tale new) same m)

pub law_step : LawStep
law_step s _ _ k (Proposes terms e) = proposes s.a s.b s.a_entry s.b_entry terms k e
law_step s _ _ k (Accepts v e f) = accepts s.a s.b s.a_entry s.b_entry v k e f
law_step s _ _ k (Origin_moves v new e m) = origin_moves s.a s.b s.a_entry s.b_entry v new k e m
law_step s _ _ k (Recipient_moves v new e m) = recipient_moves s.a s.b s.a_entry s.b_entry v new k e m
