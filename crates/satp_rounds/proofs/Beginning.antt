-- The halves of a session that its origin's records name, and what kinds say of a round from there.
use Rattle.std.proofs.Common.{◌≡◌, Bool, List, Option, Some, None, option_map, refl, sym, ap, subst, ◌∙◌}
use Rattle.satp_base.specs.Founding.{Founding}
use Rattle.satp_base.specs.LedgerRule.{entry_of, operation}
use Rattle.satp_base.specs.Roles.{both, either, is_back, is_commit, negate}
use Rattle.satp_base.specs.Tales.{has, last_is}
use Rattle.satp_base.specs.declared.ledger.Answer.{Answer}
use Rattle.satp_base.specs.declared.ledger.Answer.TheVariants as answer
use Rattle.satp_base.specs.declared.ledger.Entry.{Entry}
use Rattle.satp_base.specs.declared.ledger.LedgerOp.TheVariants.{Mint}
use Rattle.satp_base.specs.declared.message.Kind.{Kind}
use Rattle.satp_base.specs.declared.message.Kind.TheVariants.{CommitPrepare, CommitReady}
use Rattle.satp_base.specs.declared.message.Role.{Role}
use Rattle.satp_base.specs.declared.message.Role.TheVariants.{Origin, Recipient}
use Rattle.satp_base.specs.declared.message.Terms.{Terms}
use Rattle.satp_base.specs.declared.record.Way.{Way}
use Rattle.satp_base.specs.declared.session.SessionId.{SessionId}
use Rattle.satp_base.specs.declared.view.View.{View}
use Rattle.satp_sides.specs.Halves.{half}
use Rattle.satp_sides.specs.Points.{view_in}
use Rattle.satp_world.proofs.WorldLaw.{law_safety}
use Rattle.satp_world.specs.Sessions.{StandsAt, way_of}
use Rattle.satp_world.specs.Worlds.{Gateway, Reached, Setting, World, maker_side, name_at, side_at}
use Rattle.satp_world.specs.Worlds.Gateway.{A, B}
use Rattle.satp_rounds.proofs.Joint.{In, half_of, side_of, tale-or, view_or}
use Rattle.satp_rounds.proofs.Settle.{rounds-settle}
use Rattle.satp_rounds.proofs.Transferring.{proposals-settle}
use Rattle.satp_rounds.proofs.Working.{Fits, plain-now}
use Rattle.satp_rounds.specs.LedgerFunds.{lock_now, plain, room_now}
use Rattle.satp_rounds.specs.Conversations.{commits_now, mints_now}
use Rattle.satp_rounds.specs.Funds.{Funds, answer_now}
use Rattle.satp_rounds.specs.Rounds.{Pair, Settles, commits, half_at, is_done, pair}

-- the role of a gateway in a session of this gateway's name
pub role-of : (q g : Gateway) → (role : Role) × (maker_side q role ≡ g)
role-of A A = (Origin, refl)
role-of A B = (Recipient, refl)
role-of B A = (Recipient, refl)
role-of B B = (Origin, refl)

view-is : (u v : View) → Some u ≡ Some v → u ≡ v
view-is u v e = cc e

way-or : (role : Role) (terms : Terms) (o : Option View) → (view_or role terms o).way ≡ way_of o
way-or role terms None = refl
way-or role terms (Some v) = refl

pub done-plain : (o : Option Answer) → is_done (option_map plain o) ≡ is_done o
done-plain None = refl
done-plain (Some answer.Done) = refl
done-plain (Some (answer.NoFunds free)) = refl
done-plain (Some answer.UnknownAsset) = refl
done-plain (Some (answer.Capped total)) = refl
done-plain (Some (answer.Taken entry)) = refl

-- the outcome, by what it looks at
abbrev outcome_by : Option Way → Option Way → List Kind → List Kind → Bool → Bool
outcome_by v w t u mints =
    both (negate (is_back v))
    (either (is_commit v)
    (either (either (has CommitReady t) (has CommitReady u))
    (both (either (last_is CommitPrepare t) (last_is CommitPrepare u))
    (both (negate (is_back w)) mints))))

-- the terms of both sides
recipient-terms : (v : View) (o w : Option View) (e f : Entry) → o ≡ Some v → StandsAt o w e f → (view_or Recipient v.terms w).terms ≡ v.terms
recipient-terms v o None e f q k = refl
recipient-terms v o (Some u) e f q k = by (subst (λ z. StandsAt z (Some u) e f) q k)
  where
    by : StandsAt (Some v) (Some u) e f → u.terms ≡ v.terms
    by k = sym k.terms

-- what kinds say of the round
kinds-settle : (v : View) (o w : Option View) (e f : Entry) (role : Role) (funds : Funds) → o ≡ Some v → StandsAt o w e f → (role ≡ Recipient → w ≡ None → ⊥)
    → Settles role funds (pair (half (view_or Origin v.terms o) e) (half (view_or Recipient v.terms w) f))
kinds-settle v o w e f role funds q k named = subst (λ z. Settles role funds (pair (half (view_or Origin v.terms z) e) (half (view_or Recipient v.terms w) f))) (sym q) (by w role (subst (λ z. StandsAt z w e f) q k) named)
  where
    by : (w : Option View) (role : Role) → StandsAt (Some v) w e f → (role ≡ Recipient → w ≡ None → ⊥) → Settles role funds (pair (half v e) (half (view_or Recipient v.terms w) f))
    by (Some u) role k named = rounds-settle (half v e) (half u f) k role funds
    by None Recipient k named = absurd (named refl refl)
    by None Origin k named =
        let settled = proposals-settle (half v e) v.terms k.0 k.1 funds in
        subst (λ z. Settles Origin funds (pair (half v e) (half (view_or Recipient v.terms None) z))) (sym k.3) settled

module _ (st : Setting) (a b : Founding) (w : World) (r : Reached st a b w) (q : Gateway) (s : SessionId) (own-name : s.gateway ≡ name_at st q) (v : View) (e : view_in s (side_at w q).records ≡ Some v) where
  -- what both ledgers answer now
  abbrev pub funds_in : Funds
  funds_in = record { lock = lock_now (side_of w q Origin).book v.terms; mint = room_now (side_of w q Recipient).book v.terms }

  abbrev pub halves_in : Pair
  halves_in = pair (half_of Origin v.terms s (side_of w q Origin)) (half_of Recipient v.terms s (side_of w q Recipient))

  pub stands : StandsAt (view_in s (side_of w q Origin).records) (view_in s (side_of w q Recipient).records) (entry_of (side_of w q Origin).book.entries s) (entry_of (side_of w q Recipient).book.entries s)
  stands = (law_safety st a b w r).stands q s own-name

  pub begins-in : In st a b q s own-name v.terms funds_in w halves_in
  begins-in = record {
    reached = r;
    named = (v, e);
    is = λ role. is_at role;
    under = λ role. under_at role;
    fits = λ role. fits_at role;
  }
    where
      is_at : (role : Role) → half_of role v.terms s (side_of w q role) ≡ half_at role halves_in
      is_at Origin = refl
      is_at Recipient = refl

      under_at : (role : Role) → (half_at role halves_in).view.terms ≡ v.terms
      under_at Origin = ap (λ o. (view_or Origin v.terms o).terms) e
      under_at Recipient = recipient-terms v _ _ _ _ e stands

      fits_at : (role : Role) → Fits role funds_in s v.terms (side_of w q role).book
      fits_at Origin = λ h. refl
      fits_at Recipient = λ h. refl

  pub settles-in : (role : Role) (u : View) → view_in s (side_of w q role).records ≡ Some u → Settles role funds_in halves_in
  settles-in role u named = kinds-settle v _ _ _ _ role funds_in e stands (λ is none. unnamed-not role is none named)
    where
      unnamed-not : (role : Role) → role ≡ Recipient → view_in s (side_of w q Recipient).records ≡ None → view_in s (side_of w q role).records ≡ Some u → ⊥
      unnamed-not Recipient is none named = cc (none, named)
      unnamed-not Origin is none named = cc is

  pub commits-in : commits funds_in halves_in ≡ commits_now w q s
  commits-in =
      let va = way-or Origin v.terms (view_in s (side_of w q Origin).records) in
      let vb = way-or Recipient v.terms (view_in s (side_of w q Recipient).records) in
      let ta = tale-or Origin v.terms (view_in s (side_of w q Origin).records) in
      let tb = tale-or Recipient v.terms (view_in s (side_of w q Recipient).records) in
      let book = (side_of w q Recipient).book in
      let mints : is_done (answer_now funds_in Mint (entry_of book.entries s)) ≡ mints_now book s (view_in s (side_of w q Origin).records) =
      ap is_done (sym (plain-now Recipient funds_in book s v.terms Mint refl (λ h. refl))) ∙ done-plain (operation book Mint s v.terms).answer ∙ ap (mints_now book s) (sym e) in
      λ i. outcome_by (va i) (vb i) (ta i) (tb i) (mints i)
