-- The texts that a gateway answers with are texts that it may say.
use Rattle.std.proofs.Common.{◌≡◌, inl, inr, ℕ, zero, suc, ◌+◌, ◌-◌, ◌%◌, ◌==◌, ◌<◌, ◌≤◌, Bool, true, false, List, [], ◌∷◌, length, Some, None, refl, sym, ap, subst, ◌∙◌, arith, if◌then◌else◌}
use Rattle.std.specs.Prelude.{drop, slice_get}
use Rattle.std.specs.List.{list_all}
use Rattle.std.proofs.lemmas.Bool.{and_from, and_parts, le-leb}
use Rattle.std.proofs.lemmas.List.{length-drop}
use Rattle.satp_base.specs.Chains.{role_at}
use Rattle.satp_base.specs.Forms.{is_entry}
use Rattle.satp_base.specs.Roles.{IsReached, both, either, is_commit, negate, next_of}
use Rattle.satp_base.specs.Views.{begin}
use Rattle.satp_base.specs.Tales.{IsTale, has, is_role, is_whole, last_by, other}
use Rattle.satp_base.specs.declared.message.Kind.{Kind}
use Rattle.satp_base.specs.declared.message.Kind.TheVariants.{CommitReady, TransferProposal}
use Rattle.satp_base.specs.declared.message.Role.{Role}
use Rattle.satp_base.specs.declared.message.Role.TheVariants.{Origin, Recipient}
use Rattle.satp_base.specs.declared.record.Next.{Next}
use Rattle.satp_base.specs.declared.session.SessionId.{SessionId}
use Rattle.satp_base.specs.declared.view.View.{View}
use Rattle.satp_base.proofs.ChainLemmas.{link_at_formed}
use Rattle.satp_base.proofs.Finite.{all_of, all_of-at, andthen-left, andthen-right, implies, implies-make, implies-use}
use Rattle.satp_base.proofs.TaleTable.{tale-in, tale-short}
use Rattle.satp_origin.proofs.Tales as origin
use Rattle.satp_sides.specs.Calls.{again_reply, last_of_own, last_own, last_text, last_unless_whole, own_at, recover_text, text_of, update_text}
use Rattle.satp_sides.specs.DueLaws.{Rests}
use Rattle.satp_sides.specs.LogLaws.{IsSessionOf}
use Rattle.satp_sides.specs.Moves.{Sayable, last_texts}
use Rattle.satp_sides.specs.Moves.Sayable.{Own_text, Recovers, Updates}
use Rattle.satp_sides.specs.Points.{Party, Side, Slot, Text, chain_in}
use Rattle.satp_sides.proofs.DueLaw.{next-is}
use Rattle.satp_sides.proofs.DueTable.{look_of, next_at, rests}
use Rattle.satp_sides.proofs.Lists.{bools, in_bools, in_ways, ways}
use Rattle.satp_sides.proofs.LogLaw.{log-sessions, reached-tale}
use Rattle.satp_sides.proofs.LogTexts.{chain-entries, chain-length}
use Rattle.satp_world.proofs.DueMoves.{SlotAt}
use Rattle.satp_world.proofs.Logic.{negate-make}
use Rattle.satp_world.proofs.RestCheck.{origin_places, origins_all, recipient_places, recipients_all}
use Rattle.satp_world.proofs.RestTable.{origin_rests, placed_last, recipient_rests}
use Rattle.satp_world.proofs.TaleSteps.{begun-in}

-- ---- roles and places

role-same : (role r : Role) → is_role role (Some r) ≡ true → r ≡ role
role-same Origin Origin h = refl
role-same Origin Recipient h = absurd (cc h)
role-same Recipient Origin h = absurd (cc h)
role-same Recipient Recipient h = refl

pub role-next : (n : ℕ) → role_at (n + 1) ≡ other (role_at n)
role-next n = go (n % 2) refl (omega arith)
  where
    go : (x : ℕ) → n % 2 ≡ x → x < 2 → role_at (n + 1) ≡ other (role_at n)
    go zero e h =
        let more : (n + 1) % 2 ≡ 1 = omega (arith, e) in
        ap (λ x. if x == 1 then Origin else Recipient) more ∙ sym (ap (λ x. other (if x == 1 then Origin else Recipient)) e)
    go (suc zero) e h =
        let more : (n + 1) % 2 ≡ 0 = omega (arith, e) in
        ap (λ x. if x == 1 then Origin else Recipient) more ∙ sym (ap (λ x. other (if x == 1 then Origin else Recipient)) e)
    go (suc (suc x)) e h = absurd (omega (arith, h))

places : (role : Role) (t : List Kind) → IsTale t → placed_last role t ≡ true
places Origin t h = all_of-at (placed_last Origin) (tale-in t h) origin_places
places Recipient t h = all_of-at (placed_last Recipient) (tale-in t h) recipient_places

last-place : (role : Role) (t : List Kind) → IsTale t → last_by role t ≡ true → role_at (length t) ≡ role
last-place role t h e = role-same role _ (implies-use _ _ (andthen-left _ (λ _. implies (both (is_whole t) (negate (last_by role t))) (is_role role (Some (role_at (length t - 1))))) (places role t h)) e)

both-true : (a b : Bool) → a ≡ true → b ≡ true → both a b ≡ true
both-true true b h k = k
both-true false b h k = h

before-last : (role : Role) (t : List Kind) → IsTale t → is_whole t ≡ true → last_by role t ≡ false → role_at (length t - 1) ≡ role
before-last role t h w e =
    role-same role _ (implies-use _ _ (andthen-right (implies (last_by role t) (is_role role (Some (role_at (length t))))) (λ _. implies (both (is_whole t) (negate (last_by role t))) (is_role role (Some (role_at (length t - 1))))) (places role t h)) (both-true _ _ w (negate-make _ e)))

-- ---- at rest

either-right : (a b : Bool) → either a (negate b) ≡ true → b ≡ true → a ≡ true
either-right true b h k = refl
either-right false true h k = absurd (cc h)
either-right false false h k = absurd (cc k)

is-rest : (n : Next) → Rests n → rests n ≡ true
is-rest n (inl e) = ap rests e
is-rest n (inr e) = ap rests e

origin-own : (v : View) → IsTale v.tale → has TransferProposal v.tale ≡ true → (is_commit v.way ≡ true → has CommitReady v.tale ≡ true) → Rests (next_of Origin v) → is_whole v.tale ≡ false → last_by Origin v.tale ≡ true
origin-own v tale begun committed r w =
    let d = v.done in
    let a = all_of-at (λ t. all_of (λ way. all_of (λ lock. all_of (λ burn. all_of (λ release. all_of (λ rescue. origin_rests d.mint d.assign t way lock burn release rescue) bools) bools) bools) bools) ways) (begun-in v.tale tale begun) (origins_all d.mint d.assign) in
    let b = all_of-at (λ way. all_of (λ lock. all_of (λ burn. all_of (λ release. all_of (λ rescue. origin_rests d.mint d.assign v.tale way lock burn release rescue) bools) bools) bools) bools) (in_ways v.way) a in
    let c = all_of-at (λ lock. all_of (λ burn. all_of (λ release. all_of (λ rescue. origin_rests d.mint d.assign v.tale v.way lock burn release rescue) bools) bools) bools) (in_bools d.lock) b in
    let e = all_of-at (λ burn. all_of (λ release. all_of (λ rescue. origin_rests d.mint d.assign v.tale v.way d.lock burn release rescue) bools) bools) (in_bools d.burn) c in
    let f = all_of-at (λ release. all_of (λ rescue. origin_rests d.mint d.assign v.tale v.way d.lock d.burn release rescue) bools) (in_bools d.release) e in
    let g = all_of-at (λ rescue. origin_rests d.mint d.assign v.tale v.way d.lock d.burn d.release rescue) (in_bools v.rescue) f in
    either-right (last_by Origin v.tale) (rests (next_at Origin (look_of v))) (implies-use _ _ g (both-true _ _ (implies-make _ _ committed) (negate-make _ w))) (ap rests (sym (next-is Origin v)) ∙ is-rest _ r)

recipient-own : (v : View) → IsTale v.tale → has TransferProposal v.tale ≡ true → Rests (next_of Recipient v) → is_whole v.tale ≡ false → last_by Recipient v.tale ≡ true
recipient-own v tale begun r w =
    let d = v.done in
    let a = all_of-at (λ t. all_of (λ way. all_of (λ mint. all_of (λ assign. all_of (λ release. recipient_rests d.lock d.burn v.rescue t way mint assign release) bools) bools) bools) ways) (begun-in v.tale tale begun) (recipients_all d.lock d.burn v.rescue) in
    let b = all_of-at (λ way. all_of (λ mint. all_of (λ assign. all_of (λ release. recipient_rests d.lock d.burn v.rescue v.tale way mint assign release) bools) bools) bools) (in_ways v.way) a in
    let c = all_of-at (λ mint. all_of (λ assign. all_of (λ release. recipient_rests d.lock d.burn v.rescue v.tale v.way mint assign release) bools) bools) (in_bools d.mint) b in
    let e = all_of-at (λ assign. all_of (λ release. recipient_rests d.lock d.burn v.rescue v.tale v.way d.mint assign release) bools) (in_bools d.assign) c in
    let f = all_of-at (λ release. recipient_rests d.lock d.burn v.rescue v.tale v.way d.mint d.assign release) (in_bools d.release) e in
    either-right (last_by Recipient v.tale) (rests (next_at Recipient (look_of v))) (implies-use _ _ f (negate-make _ w)) (ap rests (sym (next-is Recipient v)) ∙ is-rest _ r)

-- at rest the last message of an open session is the side's own
own-last : (v : View) → IsReached v.role v → has TransferProposal v.tale ≡ true → Rests (next_of v.role v) → is_whole v.tale ≡ false → last_by v.role v.tale ≡ true
own-last v k begun rest w = by v.role refl
  where
    by : (role : Role) → v.role ≡ role → last_by v.role v.tale ≡ true
    by Origin e =
        let h = subst (λ r. IsReached r v) e k in
        let keeps = subst origin.Keeps (sym h.view) (origin.keeps_from (begin Origin h.terms) h.recs (origin.begins h.terms) h.allowed) in
        ap (λ r. last_by r v.tale) e ∙ origin-own v keeps.tale begun keeps.ready (subst (λ r. Rests (next_of r v)) e rest) w
    by Recipient e = ap (λ r. last_by r v.tale) e ∙ recipient-own v (reached-tale v.role v k) begun (subst (λ r. Rests (next_of r v)) e rest) w

-- ---- own texts

module _ (p : Party) (s : SessionId) (side : Side) (bag : List Text) (l : Slot) (at : SlotAt p s side l) where
  abbrev Says : Text → Type 0
  Says t = Sayable p side.records bag t

  session : IsSessionOf p s side.records l.view
  session = log-sessions p side.records at.log s l.view at.named

  tale : IsTale l.view.tale
  tale = reached-tale l.view.role l.view session.reached

  as-long : length l.texts ≡ length l.view.tale
  as-long = ap length (sym at.texts) ∙ chain-length s _ p.key l.view (chain_in s side.records) session.chain

  pub own-says : (n : ℕ) → role_at n ≡ l.view.role → (t : Text) → text_of l.texts n ≡ Some t → Sayable p side.records bag t
  own-says zero r t e = absurd (cc e)
  own-says (suc n) r t e = let next : n + 1 ≡ suc n = omega arith in Own_text s l.view n t at.named (ap (λ ts. slice_get ts n) at.texts ∙ e) (ap role_at next ∙ r)

  pub last-own-says : (t : Text) → last_own l ≡ Some t → Sayable p side.records bag t
  last-own-says t e = go (last_by l.view.role l.view.tale) refl e
    where
      go : (b : Bool) → last_by l.view.role l.view.tale ≡ b → (if b then last_text l.texts else None) ≡ Some t → Sayable p side.records bag t
      go false x e = absurd (cc e)
      go true x e = own-says (length l.texts) (ap role_at as-long ∙ last-place l.view.role l.view.tale tale x) t e

  pub last-says : Rests (next_of l.view.role l.view) → (t : Text) → last_unless_whole l ≡ Some t → Sayable p side.records bag t
  last-says rest t e = go (is_whole l.view.tale) refl e
    where
      own-one : is_whole l.view.tale ≡ false → last_by l.view.role l.view.tale ≡ true
      own-one = own-last l.view session.reached (ap (has TransferProposal) (sym session.chain.kinds)) rest

      go : (b : Bool) → is_whole l.view.tale ≡ b → (if b then None else last_text l.texts) ≡ Some t → Sayable p side.records bag t
      go true x e = absurd (cc e)
      go false x e = own-says (length l.texts) (ap role_at as-long ∙ last-place l.view.role l.view.tale tale (own-one x)) t e

  last-of-own-says : is_whole l.view.tale ≡ true → (t : Text) → last_of_own l ≡ Some t → Sayable p side.records bag t
  last-of-own-says w t e = go (last_by l.view.role l.view.tale) refl e
    where
      go : (b : Bool) → last_by l.view.role l.view.tale ≡ b → (if b then last_text l.texts else text_of l.texts (length l.texts - 1)) ≡ Some t → Sayable p side.records bag t
      go true x e = own-says (length l.texts) (ap role_at as-long ∙ last-place l.view.role l.view.tale tale x) t e
      go false x e = own-says (length l.texts - 1) (ap (λ n. role_at (n - 1)) as-long ∙ before-last l.view.role l.view.tale tale w x) t e

  twice : (r : Role) → other (other r) ≡ r
  twice Origin = refl
  twice Recipient = refl

  pub again-says : (n : ℕ) → role_at n ≡ other l.view.role → (t : Text) → again_reply n l ≡ Some t → Sayable p side.records bag t
  again-says n r t e = go (is_whole l.view.tale) refl e
    where
      end : (b : Bool) → is_whole l.view.tale ≡ true → (if b then None else last_of_own l) ≡ Some t → Sayable p side.records bag t
      end true w e = absurd (cc e)
      end false w e = last-of-own-says w t e

      go : (b : Bool) → is_whole l.view.tale ≡ b → (if b then (if n == length l.texts then None else last_of_own l) else text_of l.texts (n + 1)) ≡ Some t → Sayable p side.records bag t
      go true w e = end (n == length l.texts) w e
      go false w e = own-says (n + 1) (role-next n ∙ ap other r ∙ twice l.view.role) t e

  pub own-at-says : (n : ℕ) (t : Text) → own_at n l ≡ Some t → Sayable p side.records bag t
  own-at-says n t e = go (is_role l.view.role (Some (role_at n))) refl e
    where
      go : (b : Bool) → is_role l.view.role (Some (role_at n)) ≡ b → (if b then text_of l.texts n else None) ≡ Some t → Sayable p side.records bag t
      go true x e = own-says n (role-same l.view.role (role_at n) x) t e
      go false x e = absurd (cc e)

  -- ---- recovery messages

  short : length (chain_in s side.records) ≤ 11
  short = let h = tale-short l.view.tale tale in let k = chain-length s _ p.key l.view (chain_in s side.records) session.chain in omega (arith, h, k)

  pub recover-says : Sayable p side.records bag (recover_text p s l.texts)
  recover-says =
      subst (λ ts. Sayable p side.records bag (recover_text p s ts)) at.texts
      (Recovers s l.view at.named (short, link_at_formed (chain_in s side.records) (length (chain_in s side.records))))

  all-drop : (n : ℕ) (ts : List Text) → list_all is_entry ts ≡ true → list_all is_entry (drop n ts) ≡ true
  all-drop zero ts h = h
  all-drop (suc n) [] h = h
  all-drop (suc n) (t ∷ ts) h = all-drop n ts (and_parts (is_entry t) (list_all is_entry ts) h).1

  pub update-says : (given : ℕ) → length l.texts ≤ given + 2 → Sayable p side.records bag (update_text p s given l.texts)
  update-says given near =
      let texts = chain_in s side.records in
      let long = ap length at.texts in
      let n = length texts - given in
      let many = length-drop (length texts - n) texts in
      let few = le-leb (length (last_texts n texts)) 2 (omega (arith, many, near, long)) in
      let each = all-drop (length texts - n) texts (chain-entries s _ p.key l.view texts session.chain) in
      subst (λ ts. Sayable p side.records bag (update_text p s given ts)) at.texts
      (Updates s l.view n at.named (omega (arith, near, long)) ((short, and_from _ _ few each), tt))
