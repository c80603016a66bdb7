-- What the peer of a wire keeps over each body, and so over each piece: its gateway fits its site, and the site goes on.
use Rattle.std.proofs.Common.{◌≡◌, ℕ, Bool, true, false, List, inl, inr, refl, sym, ap, subst}
use Rattle.std.specs.Prelude.{Result, Ok, Err}
use Rattle.satp_http.specs.Feeds.{RequestFeed}
use Rattle.satp_points.specs.States.{GatewayState}
use Rattle.satp_serve.proofs.Keeping.{Keeps, feed_failed, feed_keeps}
use Rattle.satp_serve.specs.Exchange.{Talk}
use Rattle.satp_serve.specs.Feeding.{FeedAnswers}
use Rattle.satp_serve.specs.GatewayReplies.{IsWithin, RepliesAt, SiteView}
use Rattle.satp_serve.specs.declared.responder.Halt.{Halt}
use Rattle.satp_serve.specs.declared.responder.Replied.{Replied}
use Rattle.satp_serve.specs.declared.turn.ServeFault.{ServeFault}
use Rattle.satp_serve.specs.declared.turn.ServeFault.TheVariants as serve
use Rattle.satp_serve.specs.declared.turn.Turn.{Turn}
use Rattle.satp_serve.specs.declared.turn.Turn.TheVariants as turn
use Rattle.satp_loop.specs.Mails.{passage, passed}
use Rattle.satp_loop.specs.Peers.{HandsAgain, Passes, PeerReplies}
use Rattle.satp_loop.specs.declared.mail.Mail.{Mail}
use Rattle.satp_loop.specs.declared.peer.Peer.{Peer}
use Rattle.satp_loop.specs.declared.troubles.Passage.{Passage}
use Rattle.satp_loop.specs.declared.troubles.Passage.TheVariants.{Lost, Once, Twice}

module _ {S : Type 0} (view : S → SiteView) (beside : S → S → Type 0) (same : (s : S) → beside s s) (then : (a b c : S) → beside a b → beside b c → beside a c) where
  -- the site goes on, and the gateway still fits it
  abbrev pub Goes : GatewayState → S → GatewayState → S → Type 0
  Goes g s h t = beside s t × (IsWithin g (view s).tells.told → IsWithin h (view t).tells.told)

  goes_same : (g : GatewayState) (s : S) (h : GatewayState) (t : S) → h ≡ g → t ≡ s → Goes g s h t
  goes_same g s h t gateway site = subst (λ (k : GatewayState). Goes g s k t) (sym gateway) (subst (λ (v : S). Goes g s g v) (sym site) (same s, λ within. within))

  goes_then : (g : GatewayState) (s : S) (h : GatewayState) (t : S) (k : GatewayState) (v : S) → Goes g s h t → Goes h t k v → Goes g s k v
  goes_then g s h t k v first second = (then s t v first.0 second.0, λ within. second.1 (first.1 within))

  -- a reply of the gateway
  replied : (g : GatewayState) (s : S) (body : List ℕ) (result : Result Replied Halt) (h : GatewayState) (t : S) → RepliesAt view beside g s body result h t → Goes g s h t
  replied g s body result h t is = (is.1, λ within. is.0.within)

  again : (first : Result Replied Halt) (g : GatewayState) (s : S) (body : List ℕ) (mail : Mail) (result : Result Replied Halt) (h : GatewayState) (t : S) (new : Mail)
      → HandsAgain (RepliesAt view beside) first g s body mail result h t new → Goes g s h t
  again (Ok answer) g s body mail result h t new is = replied g s body is.0 h t is.1
  again (Err why) g s body mail result h t new is = goes_same g s h t is.0 is.1

  passes : (how : Passage) (g : GatewayState) (s : S) (body : List ℕ) (mail : Mail) (result : Result Replied Halt) (h : GatewayState) (t : S) (new : Mail)
      → Passes (RepliesAt view beside) how g s body mail result h t new → Goes g s h t
  passes Lost g s body mail result h t new is = goes_same g s h t is.1 is.2
  passes Once g s body mail result h t new is = replied g s body is.0 h t is.1
  passes Twice g s body mail result h t new is = goes_then g s is.1 is.2 h t (replied g s body is.0 is.1 is.2 is.3) (again is.0 is.1 is.2 body mail result h t new is.4)

  -- ---- of the peer

  abbrev pub PeerGoes : Peer → S → Peer → S → Type 0
  PeerGoes p s q t = Goes p.gateway s q.gateway t

  pub peer_goes : (p : Peer) (s : S) (body : List ℕ) (result : Result Replied Halt) (q : Peer) (t : S) → PeerReplies (RepliesAt view beside) p s body result q t → PeerGoes p s q t
  peer_goes p s body result q t (inl none) = subst (λ (r : Peer). PeerGoes p s r t) (sym none.1) (subst (λ (v : S). PeerGoes p s p v) (sym none.2) (same s, λ within. within))
  peer_goes p s body result q t (inr is) = passes (passage p.mail) p.gateway s body (passed body p.mail) result q.gateway t q.mail is

  keeps : Keeps (PeerReplies (RepliesAt view beside)) PeerGoes
  keeps = record {
    same = λ p s. (same s, λ within. within);
    then = λ p s q t r v first second. goes_then p.gateway s q.gateway t r.gateway v first second;
    reply = λ p s body result q t other is. peer_goes p s body result q t is;
  }

  -- a piece, whatever came of it
  pub feed_goes : (old new : RequestFeed) (t u : Talk Peer S) (piece : List ℕ) (result : Result Turn ServeFault)
      → FeedAnswers (PeerReplies (RepliesAt view beside)) old new t u piece result → PeerGoes t.responder t.site u.responder u.site
  feed_goes old new t u piece (Err serve.Site) is =
      let last = feed_failed (PeerReplies (RepliesAt view beside)) PeerGoes keeps old new t u piece is in
      goes_then t.responder.gateway t.site last.0.gateway last.1 u.responder.gateway u.site last.3 (peer_goes last.0 last.1 last.2 _ u.responder u.site last.4)
  feed_goes old new t u piece (Err serve.Memory) is = feed_keeps (PeerReplies (RepliesAt view beside)) PeerGoes keeps old new t u piece (Err serve.Memory) (λ e. cc) is
  feed_goes old new t u piece (Ok done) is = feed_keeps (PeerReplies (RepliesAt view beside)) PeerGoes keeps old new t u piece (Ok done) (λ e. cc) is

  -- a call with a piece, where the connection may be closed already
  pub call_goes : (closed : Bool) (old new : RequestFeed) (t u : Talk Peer S) (piece : List ℕ) (result : Result Turn ServeFault)
      → (closed ≡ false → FeedAnswers (PeerReplies (RepliesAt view beside)) old new t u piece result) → (closed ≡ true → (u.responder ≡ t.responder) × (u.site ≡ t.site))
      → PeerGoes t.responder t.site u.responder u.site
  call_goes false old new t u piece result answers left = feed_goes old new t u piece result (answers refl)
  call_goes true old new t u piece result answers left =
      let same_there = left refl in
      goes_same t.responder.gateway t.site u.responder.gateway u.site (ap (λ (p : Peer). p.gateway) same_there.0) same_there.1

-- a connection that is closed finds no want of memory
pub still_open : (closed : Bool) (result : Result Turn ServeFault) → (closed ≡ true → result ≡ Ok turn.Close) → result ≡ Err serve.Memory → closed ≡ false
still_open false result left is = refl
still_open true result left is =
    let e : result ≡ Ok turn.Close = left refl in
    let bad : ⊥ = cc in
    absurd bad
