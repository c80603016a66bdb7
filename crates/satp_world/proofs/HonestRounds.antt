-- An honest recovery message tells of a chain that is a prefix of the peer's, so that no link differs.
use Rattle.std.proofs.Common.{◌≡◌, inl, inr, ℕ, zero, suc, ◌+◌, ◌-◌, ◌<◌, ◌≤◌, Bool, true, false, List, [], ◌∷◌, length, Option, Some, Result, refl, sym, ap, subst, ◌∙◌, arith}
use Rattle.std.specs.Prelude.{slice_get, take}
use Rattle.std.specs.Option.{option_map_or}
use Rattle.std.proofs.lemmas.List.{length_push}
use Rattle.satp_base.specs.Chains.{head_of, link_at, link_of, texts_of, zero_link}
use Rattle.satp_base.specs.Forms.{IsMessage}
use Rattle.satp_base.specs.Founding.{Founding}
use Rattle.satp_base.specs.Signatures.{own}
use Rattle.satp_base.specs.declared.message.Body.{Body}
use Rattle.satp_base.specs.declared.message.Body.TheVariants as body
use Rattle.satp_base.specs.declared.message.Link.{Link}
use Rattle.satp_base.specs.declared.message.Message.{Message}
use Rattle.satp_base.specs.declared.message.Part.{Part}
use Rattle.satp_base.specs.declared.message.Role.{Role}
use Rattle.satp_base.specs.declared.message.Role.TheVariants.{Origin, Recipient}
use Rattle.satp_base.specs.declared.name.Name.{Name}
use Rattle.satp_base.specs.declared.session.SessionId.{SessionId}
use Rattle.satp_recovery.specs.Rounds.{Agrees, Answers, Takes}
use Rattle.satp_recovery.specs.Rounds.IsApart.{IsLonger, IsShorter}
use Rattle.satp_recovery.specs.Rounds.Answers.{Apart as Answer_apart, OneMore, AsMany, OneFewer, OtherLast, OtherBefore}
use Rattle.satp_recovery.specs.Rounds.Takes.{Apart as Take_apart, Adopts, AsMany as Take_as_many, Resends, NoneCame, TooMany, NoneWanted}
use Rattle.satp_recovery.specs.Rounds.Agrees.{Apart as Agree_apart, Same as Agree_same, OtherLast as Agree_other}
use Rattle.satp_recovery.specs.declared.choice.RecoveryFault.{RecoveryFault}
use Rattle.satp_recovery.specs.declared.choice.Step.{Step}
use Rattle.satp_recovery.proofs.RoundLemmas.{by-agrees, by-answers, by-takes}
use Rattle.satp_sides.specs.Calls.{Refusal, body_refusal, fault_in, is_adopted, step_refusal}
use Rattle.satp_sides.specs.LogLaws.{IsOfRole}
use Rattle.satp_sides.specs.Moves.{Delivered}
use Rattle.satp_sides.specs.Points.{Side, Text, chain_in, recipient_at}
use Rattle.satp_sides.specs.Said.{RecoverySays}
use Rattle.satp_sides.proofs.Chained.{long}
use Rattle.satp_world.specs.Honest.{HonestIsTaken, IsOutdated}
use Rattle.satp_world.specs.Honest.IsOutdated.{Early_success, Old_recover, Old_success, Old_update, Unfit_entry}
use Rattle.satp_world.specs.Standing.{PairStands, TiedParts}
use Rattle.satp_world.specs.Standing.TiedParts.{Same, Mine_ahead, Peer_ahead}
use Rattle.satp_world.specs.Worlds.{Gateway, Reached, Setting, World, name_at, opposite, party_at, side_at}
use Rattle.satp_world.proofs.HonestLaw.{Found, chain-fits, found, pair-at}
use Rattle.satp_world.proofs.HonestLaw.Found.{Stands_here, Next_here}
use Rattle.satp_world.proofs.HonestNames.{across, by-body, known, placed-here}
use Rattle.satp_world.proofs.Sources.{IsChains, Source, chains-body, source}
use Rattle.satp_world.proofs.Sources.Source.{Chained, Recovers, Nothing}
use Rattle.satp_world.proofs.WorldLaw.{world-stands}

-- ---- lists

get-some : (ts : List Text) (i : ℕ) → i < length ts → (t : Text) × (slice_get ts i ≡ Some t)
get-some [] i h = absurd (omega (arith, h))
get-some (t ∷ ts) zero h = (t, refl)
get-some (t ∷ ts) (suc i) h = get-some ts i (omega (arith, h))

get-take : (n : ℕ) (ts : List Text) (i : ℕ) → i < n → slice_get (take n ts) i ≡ slice_get ts i
get-take zero ts i h = absurd (omega (arith, h))
get-take (suc n) [] i h = refl
get-take (suc n) (t ∷ ts) zero h = refl
get-take (suc n) (t ∷ ts) (suc i) h = get-take n ts i (omega (arith, h))

take-long : (n : ℕ) (ts : List Text) → n ≤ length ts → length (take n ts) ≡ n
take-long zero ts h = refl
take-long (suc n) [] h = absurd (omega (arith, h))
take-long (suc n) (t ∷ ts) h = ap suc (take-long n ts (omega (arith, h)))

link-take : (n : ℕ) (ts : List Text) → link_at (take n ts) n ≡ link_at ts n
link-take zero ts = refl
link-take (suc n) ts = ap (λ o. option_map_or link_of o zero_link) (get-take (suc n) ts n (omega arith))

-- ---- two chains of a session

-- the peer's chain is longer by one at most, and both name the same links wherever both have texts
record IsNear (mine peer : List Text) : Type 0 where
  close : length peer ≤ length mine + 1
  links : (n : ℕ) → 1 ≤ n → n ≤ length mine → n ≤ length peer → link_at mine n ≡ link_at peer n

module _ (s : SessionId) (recipient : Name) (key : List ℕ) where
  parts-close : (role : Role) (mine peer : List Part) → TiedParts role mine peer → length peer ≤ length mine + 1
  parts-close role mine peer (Same e) = let k = ap length e in omega (arith, k)
  parts-close role mine peer (Mine_ahead p r e) = let k = ap length e in let h = length_push peer p in omega (arith, k, h)
  parts-close role mine peer (Peer_ahead p r e) = let k = ap length e in let h = length_push mine p in omega (arith, k, h)

  parts-links : (role : Role) (mine peer : List Part) → TiedParts role mine peer → (n : ℕ) → 1 ≤ n → n ≤ length (texts_of s recipient key mine) → n ≤ length (texts_of s recipient key peer) → link_at (texts_of s recipient key mine) n ≡ link_at (texts_of s recipient key peer) n
  parts-links role mine peer tied zero one h k = absurd (omega (arith, one))
  parts-links role mine peer tied (suc i) one h k = let (t, e) = get-some (texts_of s recipient key peer) i (omega (arith, k)) in by t e (found s recipient key role mine peer i t tied e)
    where
      by : (t : Text) → slice_get (texts_of s recipient key peer) i ≡ Some t → Found s recipient key mine peer i t → link_at (texts_of s recipient key mine) (suc i) ≡ link_at (texts_of s recipient key peer) (suc i)
      by t e (Stands_here x) = ap (λ o. option_map_or link_of o zero_link) (x ∙ sym e)
      by t e (Next_here q at ahead x) = absurd (omega (arith, at, h))

  parts-near : (role : Role) (mine peer : List Part) → TiedParts role mine peer → IsNear (texts_of s recipient key mine) (texts_of s recipient key peer)
  parts-near role mine peer tied =
      let near = parts-close role mine peer tied in
      let a = long s recipient key mine in
      let b = long s recipient key peer in
      record { close = omega (arith, near, a, b); links = parts-links role mine peer tied }

near-of : (role : Role) (s : SessionId) (recipient : Name) (key : List ℕ) (mine peer : Side) → PairStands role s recipient key mine peer → IsNear (chain_in s mine.records) (chain_in s peer.records)
near-of role s recipient key mine peer k =
    subst (λ ts. IsNear ts (chain_in s peer.records)) (sym k.my_chain.chain)
    (subst (IsNear (texts_of s recipient key k.my_parts)) (sym k.peer_chain.chain) (parts-near s recipient key role k.my_parts k.peer_parts k.tied))

-- ---- what a recovery message tells of the peer's chain

record Tells (peer : List Text) (n : ℕ) (last : Link) : Type 0 where
  some : 1 ≤ n
  within : n ≤ length peer
  link : last ≡ link_at peer n

tells : (peer : List Text) (n c : ℕ) (last : Link) → 1 ≤ n → n ≤ length peer → (c ≡ length (take n peer)) × (last ≡ (head_of (take n peer)).last) → Tells peer c last
tells peer n c last some within (x, y) =
    let as_long = take-long n peer within in
    let same : c ≡ n = x ∙ as_long in
    record {
      some = omega (arith, some, same);
      within = omega (arith, within, same);
      link = y ∙ ap (link_at (take n peer)) as_long ∙ link-take n peer ∙ ap (link_at peer) (sym same);
    }

some-is : (x y : Refusal) → Some x ≡ Some y → x ≡ y
some-is x y e = cc e

module _ (mine peer : List Text) (near : IsNear mine peer) where
  -- the link that the message names, where this side's chain has that many texts
  named-link : (c : ℕ) (last : Link) → Tells peer c last → (n : ℕ) → c ≡ n → n ≤ length mine → last ≡ link_at mine n
  named-link c last k n e h =
      let some = k.some in
      let within = k.within in
      k.link ∙ ap (link_at peer) e ∙ sym (near.links n (omega (arith, some, e)) h (omega (arith, within, e)))

  recover-outdated : (c : ℕ) (last : Link) → Tells peer c last → (x : Result ℕ RecoveryFault) → Answers (head_of mine) c last x → (f : Refusal) → fault_in x ≡ Some f → IsOutdated (body.Recover c last) f
  recover-outdated c last k _ (Answer_apart _ (IsLonger far)) f e = absurd (let within = k.within in let close = near.close in omega (arith, far, within, close))
  recover-outdated c last k _ (Answer_apart _ (IsShorter far)) f e = subst (IsOutdated (body.Recover c last)) (some-is _ f e) (Old_recover c last (length mine - c))
  recover-outdated c last k _ (OneMore h) f e = absurd (cc e)
  recover-outdated c last k _ (AsMany h same) f e = absurd (cc e)
  recover-outdated c last k _ (OneFewer h same) f e = absurd (cc e)
  recover-outdated c last k _ (OtherLast h differ) f e = absurd (differ (named-link c last k (length mine) h (omega arith)))
  recover-outdated c last k _ (OtherBefore h differ) f e = absurd (differ (named-link c last k (length mine - 1) (omega (arith, h)) (omega arith)))

  success-outdated : (c : ℕ) (last : Link) → Tells peer c last → (x : Result (Unit {0}) RecoveryFault) → Agrees (head_of mine) c last x → (f : Refusal) → fault_in x ≡ Some f → IsOutdated (body.Success c last) f
  success-outdated c last k _ (Agree_apart _ (IsLonger far)) f e = subst (IsOutdated (body.Success c last)) (some-is _ f e) (Early_success c last (c - length mine))
  success-outdated c last k _ (Agree_apart _ (IsShorter far)) f e = subst (IsOutdated (body.Success c last)) (some-is _ f e) (Old_success c last (length mine - c))
  success-outdated c last k _ (Agree_same h same) f e = absurd (cc e)
  success-outdated c last k _ (Agree_other h differ) f e = absurd (differ (named-link c last k (length mine) h (omega arith)))

update-outdated : (mine : List Text) (c : ℕ) (entries : List Text) (adopted : Bool) → c ≤ length mine + 1 → (x : Result Step RecoveryFault) → Takes (head_of mine) c (length entries) x → (f : Refusal) → step_refusal adopted x ≡ Some f → IsOutdated (body.Update c entries) f
update-outdated mine c entries adopted close _ (Take_apart _ (IsLonger far)) f e = absurd (omega (arith, far, close))
update-outdated mine c entries adopted close _ (Take_apart _ (IsShorter far)) f e = subst (IsOutdated (body.Update c entries)) (some-is _ f e) (Old_update c entries (length mine - c))
update-outdated mine c entries true close _ (Adopts h k) f e = absurd (cc e)
update-outdated mine c entries false close _ (Adopts h k) f e = subst (IsOutdated (body.Update c entries)) (some-is _ f e) (Unfit_entry c entries c)
update-outdated mine c entries adopted close _ (Take_as_many h k) f e = absurd (cc e)
update-outdated mine c entries adopted close _ (Resends h k) f e = absurd (cc e)
update-outdated mine c entries adopted close _ (NoneCame h k) f e = subst (IsOutdated (body.Update c entries)) (some-is _ f e) (Unfit_entry c entries (length mine + 1))
update-outdated mine c entries adopted close _ (TooMany h k) f e = subst (IsOutdated (body.Update c entries)) (some-is _ f e) (Unfit_entry c entries (length mine + 2))
update-outdated mine c entries adopted close _ (NoneWanted h k l) f e = subst (IsOutdated (body.Update c entries)) (some-is _ f e) (Unfit_entry c entries (length mine + 1))

-- ---- every honest message

module _ (st : Setting) (a b : Founding) (w : World) (r : Reached st a b w) (g : Gateway) (m : Message) (t : Text) (e : Option Message) (formed : IsMessage m) (text : t ≡ own st.key m) (d : Delivered st.key w.bag t) (to : m.receiver ≡ name_at st g) where
  abbrev mine : List Text
  mine = chain_in m.session (side_at w g).records

  abbrev peer : List Text
  peer = chain_in m.session (side_at w (opposite g)).records

  here : Source st w m
  here = source st a b w r t d m formed text

  near : IsNear (chain_in m.session (side_at w g).records) (chain_in m.session (side_at w (opposite g)).records)
  near = elim (known st a b w r g m t formed text d to) [ inl k ↦ by Origin k.gate | inr k ↦ by Recipient k.gate ]
    where
      by : (role : Role) → IsOfRole (party_at st g) m.session role → IsNear (chain_in m.session (side_at w g).records) (chain_in m.session (side_at w (opposite g)).records)
      by role of = near-of role m.session (recipient_at (party_at st g) role) st.key (side_at w g) (side_at w (opposite g)) (pair-at st w (world-stands st a b w r) g m.session role of)

  -- what a recovery message tells
  data Told (c : Body) : Type 0 where
    Of_chain : (n : ℕ) → 1 ≤ n → n ≤ length (chain_in m.session (side_at w (opposite g)).records) → RecoverySays (take n (chain_in m.session (side_at w (opposite g)).records)) c → Told c
    Of_none : c ≡ body.Update 0 [] → Told c

  told : (c : Body) → m.body ≡ c → (IsChains c → ⊥) → Told c
  told c is barred = by here
    where
      by : Source st w m → Told c
      by (Chained q k) = absurd (barred (subst IsChains is (chains-body st w q m k)))
      by (Recovers q n i some le same says) =
          let there = across st a b w r g m t formed text d to q _ same refl in
          Of_chain n some (subst (λ x. n ≤ length (chain_in m.session (side_at w x).records)) there le) (subst (λ x. RecoverySays (take n (chain_in m.session (side_at w x).records)) c) there (subst (RecoverySays (take n (chain_in m.session (side_at w q).records))) is says))
      by (Nothing q i same) = Of_none (sym (ap (λ (x : Message). x.body) same ∙ is))

  chain-taken : (c : Body) → m.body ≡ c → IsChains c → (f : Refusal) → body_refusal (party_at st g) (side_at w g).records m t e c ≡ Some f → ⊥
  chain-taken (body.Recover n last) is chains f x = absurd chains
  chain-taken (body.Update n entries) is chains f x = absurd chains
  chain-taken (body.Success n last) is chains f x = absurd chains
  chain-taken (body.Chain place previous q) is chains f x = by here
    where
      by : Source st w m → ⊥
      by (Chained q k) = let ok = chain-fits st a b w r g m t formed text d to (placed-here st a b w r g q m k) in cc (x, ok)
      by (Recovers q n i some le same says) = subst (RecoverySays (take n (chain_in m.session (side_at w q).records))) is says
      by (Nothing q i same) = let other = ap (λ (y : Message). y.body) same ∙ is in cc other

  body-outdated : (c : Body) → m.body ≡ c → (f : Refusal) → body_refusal (party_at st g) (side_at w g).records m t e c ≡ Some f → IsOutdated c f
  body-outdated (body.Chain place previous q) is f x = absurd (chain-taken (body.Chain place previous q) is tt f x)
  body-outdated (body.Recover n last) is f x = by (told (body.Recover n last) is (λ c. c))
    where
      by : Told (body.Recover n last) → IsOutdated (body.Recover n last) f
      by (Of_none other) = absurd (cc other)
      by (Of_chain k some le says) = recover-outdated mine peer near n last (tells peer k n last some le says) _ (by-answers (head_of mine) n last _ refl) f x
  body-outdated (body.Update n entries) is f x = by (told (body.Update n entries) is (λ c. c))
    where
      after : n ≤ length mine + 1 → IsOutdated (body.Update n entries) f
      after close = update-outdated mine n entries (is_adopted (party_at st g) (side_at w g).records m.session entries e) close _ (by-takes (head_of mine) n (length entries) _ refl) f x

      by : Told (body.Update n entries) → IsOutdated (body.Update n entries) f
      by (Of_none other) = let none : n ≡ 0 = cc other in after (omega (arith, none))
      by (Of_chain k some le says) =
          let as_long = take-long k peer le in
          let same = says.0 in
          let close = near.close in
          after (omega (arith, as_long, same, le, close))
  body-outdated (body.Success n last) is f x = by (told (body.Success n last) is (λ c. c))
    where
      by : Told (body.Success n last) → IsOutdated (body.Success n last) f
      by (Of_none other) = absurd (cc other)
      by (Of_chain k some le says) = success-outdated mine peer near n last (tells peer k n last some le says) _ (by-agrees (head_of mine) n last _ refl) f x

pub honest-taken : HonestIsTaken
honest-taken st a b w r g m t e (formed, text) d to f x = body-outdated st a b w r g m t e formed text d to m.body refl f (sym (by-body st a b w r g m t formed text d to e) ∙ x)
