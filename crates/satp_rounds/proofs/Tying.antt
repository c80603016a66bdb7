-- Both chains of a session of a reached world, by kinds and by texts.
use Rattle.std.proofs.Common.{◌≡◌, ℕ, zero, suc, ◌-◌, ◌≤◌, List, [], ◌∷◌, ◌++◌, map, length, drop, Some, refl, sym, ap, ◌∙◌, arith}
use Rattle.std.specs.Prelude.{slice_get}
use Rattle.std.specs.Option.{option_map_or}
use Rattle.std.proofs.lemmas.List.{length-map, length_push}
use Rattle.satp_base.proofs.ChainLemmas.{texts_appended}
use Rattle.satp_base.proofs.TaleTable.{tale-short}
use Rattle.satp_base.specs.Canonical.{part_kind}
use Rattle.satp_base.specs.Chains.{link_at, link_of, next_text, texts_of, zero_link}
use Rattle.satp_base.specs.Founding.{Founding}
use Rattle.satp_base.specs.Tales.{maker, other}
use Rattle.satp_base.specs.declared.message.Kind.{Kind}
use Rattle.satp_base.specs.declared.message.Role.{Role}
use Rattle.satp_base.specs.declared.message.Terms.{Terms}
use Rattle.satp_base.specs.declared.name.Name.{Name}
use Rattle.satp_base.specs.declared.session.SessionId.{SessionId}
use Rattle.satp_sides.proofs.Chained.{long}
use Rattle.satp_sides.specs.Moves.{last_texts}
use Rattle.satp_sides.specs.Points.{Text, chain_in, recipient_at}
use Rattle.satp_world.specs.Standing.{PairStands, TiedParts}
use Rattle.satp_world.specs.Standing.TiedParts.{Same, Mine_ahead, Peer_ahead}
use Rattle.satp_world.specs.Worlds.{Gateway, Setting, World, maker_side, name_at, party_at}
use Rattle.satp_rounds.proofs.Joint.{In, kind-by, my-kinds, my-tales, one-kind, pairs, peer-kinds, peer-tales, side_of}
use Rattle.satp_rounds.specs.Funds.{Funds}
use Rattle.satp_rounds.specs.Rounds.{Pair, half_at}

-- one chain is the other, or longer by one message of the side that it is of
pub data Both (role : Role) (mine peer : List Kind) (texts others : List Text) : Type 0 where
  Level : mine ≡ peer → texts ≡ others → Both role mine peer texts others
  MineAhead : (k : Kind) (t : Text) → maker k ≡ Some role → mine ≡ peer ++ k ∷ [] → texts ≡ others ++ t ∷ [] → Both role mine peer texts others
  PeerAhead : (k : Kind) (t : Text) → maker k ≡ Some (other role) → peer ≡ mine ++ k ∷ [] → others ≡ texts ++ t ∷ [] → Both role mine peer texts others

module _ (st : Setting) (a b : Founding) (q : Gateway) (s : SessionId) (own-name : s.gateway ≡ name_at st q) (terms : Terms) (f : Funds) (w : World) (x : Pair) (k : In st a b q s own-name terms f w x) (role : Role) where
  abbrev here : PairStands role s (recipient_at (party_at st (maker_side q role)) role) st.key (side_of w q role) (side_of w q (other role))
  here = pairs st a b q s own-name terms f w x k role

  mine-is : (half_at role x).view.tale ≡ map part_kind (pairs st a b q s own-name terms f w x k role).my_parts
  mine-is = my-kinds st a b q s own-name terms f w x k role

  peer-is : (half_at (other role) x).view.tale ≡ map part_kind (pairs st a b q s own-name terms f w x k role).peer_parts
  peer-is = peer-kinds st a b q s own-name terms f w x k role

  abbrev name : Name
  name = recipient_at (party_at st (maker_side q role)) role

  pub both : Both role (half_at role x).view.tale (half_at (other role) x).view.tale (chain_in s (side_of w q role).records) (chain_in s (side_of w q (other role)).records)
  both = by here.tied
    where
      by : TiedParts role here.my_parts here.peer_parts → Both role (half_at role x).view.tale (half_at (other role) x).view.tale (chain_in s (side_of w q role).records) (chain_in s (side_of w q (other role)).records)
      by (Same e) = Level (mine-is ∙ ap (map part_kind) e ∙ sym peer-is) (here.my_chain.chain ∙ ap (texts_of s name st.key) e ∙ sym here.peer_chain.chain)
      by (Mine_ahead p r e) =
          MineAhead (part_kind p) (next_text s name st.key (texts_of s name st.key here.peer_parts) p)
          (kind-by st a b q s own-name terms f w x k role here.peer_parts here.my_parts p role (peer-tales st a b q s own-name terms f w x k role) (my-tales st a b q s own-name terms f w x k role) e r)
          (mine-is ∙ one-kind st a b q s own-name terms f w x k role here.peer_parts here.my_parts p e ∙ ap (λ t. t ++ part_kind p ∷ []) (sym peer-is))
          (here.my_chain.chain ∙ ap (texts_of s name st.key) e ∙ texts_appended s name st.key here.peer_parts p ∙ ap (λ ts. ts ++ next_text s name st.key (texts_of s name st.key here.peer_parts) p ∷ []) (sym here.peer_chain.chain))
      by (Peer_ahead p r e) =
          PeerAhead (part_kind p) (next_text s name st.key (texts_of s name st.key here.my_parts) p)
          (kind-by st a b q s own-name terms f w x k role here.my_parts here.peer_parts p (other role) (my-tales st a b q s own-name terms f w x k role) (peer-tales st a b q s own-name terms f w x k role) e r)
          (peer-is ∙ one-kind st a b q s own-name terms f w x k role here.my_parts here.peer_parts p e ∙ ap (λ t. t ++ part_kind p ∷ []) (sym mine-is))
          (here.peer_chain.chain ∙ ap (texts_of s name st.key) e ∙ texts_appended s name st.key here.my_parts p ∙ ap (λ ts. ts ++ next_text s name st.key (texts_of s name st.key here.my_parts) p ∷ []) (sym here.my_chain.chain))

  -- a chain has as many texts as its tale has kinds, and at most eleven
  pub as-long : length (chain_in s (side_of w q role).records) ≡ length (half_at role x).view.tale
  as-long =
      let here = pairs st a b q s own-name terms f w x k role in
      let name = recipient_at (party_at st (maker_side q role)) role in
      ap length here.my_chain.chain ∙ long s name st.key here.my_parts ∙ sym (ap length (my-kinds st a b q s own-name terms f w x k role) ∙ length-map here.my_parts part_kind)

  pub chain-short : length (chain_in s (side_of w q role).records) ≤ 11
  chain-short =
      let short = tale-short _ (my-tales st a b q s own-name terms f w x k role) in
      let many = as-long in
      let kinds = ap length (my-kinds st a b q s own-name terms f w x k role) in
      omega (arith, short, many, kinds)

-- ---- lists

pub last-none : (ts : List Text) (n : ℕ) → n ≡ 0 → last_texts n ts ≡ []
last-none ts n e = go ts (length ts - n) (omega (arith, e))
  where
    go : (xs : List Text) (m : ℕ) → length xs ≤ m → drop m xs ≡ []
    go [] zero h = refl
    go [] (suc m) h = refl
    go (x ∷ xs) zero h = absurd (omega (arith, h))
    go (x ∷ xs) (suc m) h = go xs m (omega (arith, h))

pub last-one : (ts : List Text) (t : Text) (n : ℕ) → n ≡ 1 → last_texts n (ts ++ t ∷ []) ≡ t ∷ []
last-one ts t n e = at (length (ts ++ t ∷ []) - n) ts (omega (arith, length_push ts t, e))
  where
    at : (m : ℕ) (xs : List Text) → m ≡ length xs → drop m (xs ++ t ∷ []) ≡ t ∷ []
    at zero [] h = refl
    at (suc m) [] h = absurd (omega (arith, h))
    at zero (x ∷ xs) h = absurd (omega (arith, h))
    at (suc m) (x ∷ xs) h = at m xs (omega (arith, h))

get-first : (ts ys : List Text) (i : ℕ) → suc i ≤ length ts → slice_get (ts ++ ys) i ≡ slice_get ts i
get-first [] ys i h = absurd (omega (arith, h))
get-first (t ∷ ts) ys zero h = refl
get-first (t ∷ ts) ys (suc i) h = get-first ts ys i (omega (arith, h))

-- the link of a text that both chains have
pub link-first : (ts ys : List Text) (n : ℕ) → n ≤ length ts → link_at (ts ++ ys) n ≡ link_at ts n
link-first ts ys zero h = refl
link-first ts ys (suc i) h = ap (λ o. option_map_or link_of o zero_link) (get-first ts ys i h)
