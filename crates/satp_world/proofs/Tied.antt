-- The chains of both sides of a session: one list of parts is the other, or longer by one.
use Rattle.std.proofs.Common.{◌≡◌, ℕ, ◌+◌, ◌≤◌, List, [], ◌∷◌, ◌++◌, length, Some, refl, sym, ap, subst, ◌∙◌, arith, inl, inr}
use Rattle.std.specs.Prelude.{slice_get}
use Rattle.std.specs.List.{AllByRecursion}
use Rattle.std.proofs.lemmas.List.{length_push}
use Rattle.satp_base.specs.declared.name.Name.{Name}
use Rattle.satp_base.specs.declared.session.SessionId.{SessionId}
use Rattle.satp_base.specs.declared.message.Role.{Role}
use Rattle.satp_base.specs.declared.message.Role.TheVariants.{Origin, Recipient}
use Rattle.satp_base.specs.declared.message.Part.{Part}
use Rattle.satp_base.specs.Forms.{IsPart}
use Rattle.satp_base.specs.Chains.{next_text, role_at, texts_of}
use Rattle.satp_base.specs.Tales.{other}
use Rattle.satp_base.proofs.ChainLemmas.{texts_appended}
use Rattle.satp_world.specs.Standing.{TiedParts}
use Rattle.satp_world.specs.Standing.TiedParts.{Same, Mine_ahead, Peer_ahead}
use Rattle.satp_sides.proofs.Chained.{formed-last, get-next, long, next-formed, one-part}
use Rattle.satp_sides.proofs.Records.{get-bound, get-old, get-split}

twice : (role : Role) → role ≡ other (other role)
twice Origin = refl
twice Recipient = refl

pub flip-tied : (role : Role) (mine peer : List Part) → TiedParts role mine peer → TiedParts (other role) peer mine
flip-tied role mine peer (Same e) = Same (sym e)
flip-tied role mine peer (Mine_ahead p r e) = Peer_ahead p (r ∙ twice role) e
flip-tied role mine peer (Peer_ahead p r e) = Mine_ahead p r e

module _ (s : SessionId) (recipient : Name) (key : List ℕ) where
  -- A side takes its chain's next text, which stands in the peer's chain: the peer is ahead by that part.
  pub taken : (role : Role) (mine peer : List Part) (p : Part) → TiedParts role mine peer → IsPart p → AllByRecursion IsPart peer → length mine + 1 ≤ 11
      → slice_get (texts_of s recipient key peer) (length mine) ≡ Some (next_text s recipient key (texts_of s recipient key mine) p)
      → peer ≡ mine ++ p ∷ []
  taken role mine peer p (Same e) f g h k = absurd (let b = get-bound (texts_of s recipient key peer) (length mine) _ k in omega (arith, b, long s recipient key peer, ap length e))
  taken role mine peer p (Mine_ahead q r e) f g h k = absurd (let b = get-bound (texts_of s recipient key peer) (length mine) _ k in omega (arith, b, long s recipient key peer, ap length e, length_push peer q))
  taken role mine peer p (Peer_ahead q r e) f g h k =
      let here = sym k ∙ ap (λ ps. slice_get (texts_of s recipient key ps) (length mine)) e ∙ get-next s recipient key mine q in
      let same : next_text s recipient key (texts_of s recipient key mine) p ≡ next_text s recipient key (texts_of s recipient key mine) q = cc here in
      let fq = formed-last mine q (subst (AllByRecursion IsPart) e g) in
      let one = one-part s recipient key mine p q (next-formed s recipient key mine p h f) (next-formed s recipient key mine q h fq) same in
      e ∙ ap (λ x. mine ++ x ∷ []) (sym one)

  -- a text of one side's chain stands in the chain of the side that made it
  pub maker-has : (role : Role) (mine peer : List Part) (i : ℕ) (t : List ℕ) → TiedParts role mine peer → role_at (i + 1) ≡ other role → slice_get (texts_of s recipient key mine) i ≡ Some t → slice_get (texts_of s recipient key peer) i ≡ Some t
  maker-has role mine peer i t (Same e) r h = ap (λ ps. slice_get (texts_of s recipient key ps) i) (sym e) ∙ h
  maker-has role mine peer i t (Peer_ahead p q e) r h =
      ap (λ ps. slice_get (texts_of s recipient key ps) i) e
      ∙ ap (λ ts. slice_get ts i) (texts_appended s recipient key mine p)
      ∙ get-old (texts_of s recipient key mine) (next_text s recipient key (texts_of s recipient key mine) p ∷ []) i t h
  maker-has role mine peer i t (Mine_ahead p q e) r h =
      let more = sym (ap (λ ts. slice_get ts i) (texts_appended s recipient key peer p)) ∙ ap (λ ps. slice_get (texts_of s recipient key ps) i) (sym e) ∙ h in
      elim (get-split (texts_of s recipient key peer) (next_text s recipient key (texts_of s recipient key peer) p) i t more) [
        | inl k ↦ k
        | inr k ↦ absurd (not_other role (sym q ∙ ap (λ n. role_at (n + 1)) (sym (k.0 ∙ long s recipient key peer)) ∙ r))
      ]
    where
      not_other : (role : Role) → role ≡ other role → ⊥
      not_other Origin h = cc h
      not_other Recipient h = cc h
