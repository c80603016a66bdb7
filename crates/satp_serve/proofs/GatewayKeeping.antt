-- What a connection that a gateway serves keeps of the gateway and its site.
use Rattle.std.proofs.Common.{◌≡◌, ◌≢◌, ◌≤◌, ◌∙◌, ℕ, Bool, true, false, inl, inr, List, refl, ap, subst, sym, arith, Option}
use Rattle.std.specs.Prelude.{IfErr, OnOk, Result, Ok, Err}
use Rattle.satp_base.specs.Streams.{Rose}
use Rattle.satp_base.specs.Wires.{Traffic}
use Rattle.satp_gateway.specs.declared.handle.Reply.{Reply}
use Rattle.satp_gateway.specs.declared.handle.Reply.TheVariants as reply
use Rattle.satp_points.specs.States.{GatewayState}
use Rattle.satp_points.specs.declared.fault.Refused.{Refused}
use Rattle.satp_points.specs.declared.fault.Refused.TheVariants as refused
use Rattle.satp_serve.specs.declared.connection.ConnectionEnd.{ConnectionEnd}
use Rattle.satp_serve.specs.declared.connection.ConnectionEnd.TheVariants as end
use Rattle.satp_serve.specs.declared.responder.Halt.{Halt}
use Rattle.satp_serve.specs.declared.responder.Halt.TheVariants as halt
use Rattle.satp_serve.specs.declared.responder.Replied.{Replied}
use Rattle.satp_serve.specs.Connections.{Hears}
use Rattle.satp_serve.specs.GatewayReplies.{AnswersWith, GatewayReplies, IsWithin, RepliesAt, ReplyAnswers, SiteView}
use Rattle.satp_http.specs.Feeds.{RequestFeed}
use Rattle.satp_serve.specs.declared.turn.ServeFault.{ServeFault}
use Rattle.satp_serve.specs.declared.turn.ServeFault.TheVariants as serve
use Rattle.satp_serve.specs.declared.turn.Turn.{Turn}
use Rattle.satp_serve.specs.declared.turn.Turn.TheVariants as turn
use Rattle.satp_serve.specs.Exchange.{Talk}
use Rattle.satp_serve.specs.Feeding.{FeedAnswers}
use Rattle.satp_serve.proofs.Keeping.{Keeps, LastFailed, connection_failed, connection_keeps, feed_failed, feed_keeps}
use Rattle.satp_serve.proofs.Viewing.{Views, feed_viewed, viewed}

-- a reply that is an answer isn't answered as a failure of the site
unanswered : (given : Replied) (result : Result Replied Halt) → AnswersWith given result → result ≡ Err halt.Site → ⊥
unanswered given result either failed = elim either [ inl is ↦ cc | inr is ↦ cc ]

-- only a failed call of the site is answered as one
pub is_site : (r : Result Reply Refused) (result : Result Replied Halt) → ReplyAnswers r result → result ≡ Err halt.Site → r ≡ Err refused.Site
is_site (Ok (reply.Message text)) result is failed = cc
is_site (Ok reply.Nothing) result is failed = absurd (unanswered _ result is failed)
is_site (Err refused.Site) result is failed = refl
is_site (Err refused.Memory) result is failed = cc
is_site (Err refused.Broken) result is failed = absurd (unanswered _ result is failed)
is_site (Err (refused.Size n)) result is failed = absurd (unanswered _ result is failed)
is_site (Err (refused.Jws fault)) result is failed = absurd (unanswered _ result is failed)
is_site (Err refused.Header) result is failed = absurd (unanswered _ result is failed)
is_site (Err (refused.Body fault)) result is failed = absurd (unanswered _ result is failed)
is_site (Err refused.Receiver) result is failed = absurd (unanswered _ result is failed)
is_site (Err (refused.Strange session)) result is failed = absurd (unanswered _ result is failed)
is_site (Err (refused.Chain verdict)) result is failed = absurd (unanswered _ result is failed)
is_site (Err (refused.Recovery fault)) result is failed = absurd (unanswered _ result is failed)
is_site (Err (refused.Full count)) result is failed = absurd (unanswered _ result is failed)
is_site (Err refused.Exists) result is failed = absurd (unanswered _ result is failed)
is_site (Err (refused.TooLate place)) result is failed = absurd (unanswered _ result is failed)

-- and it is answered so
still_there : (r : Result Reply Refused) (result : Result Replied Halt) → ReplyAnswers r result → result ≢ Err halt.Site → r ≡ Err refused.Site → ⊥
still_there r result is other site = other (subst (λ (x : Result Reply Refused). ReplyAnswers x result) site is)

-- the count of faults stands
abbrev pub SameCount : GatewayState → SiteView → GatewayState → SiteView → Type 0
SameCount g s h t = t.faults ≡ s.faults

count_stands : (g : GatewayState) (s : SiteView) (body : List ℕ) (result : Result Replied Halt) (h : GatewayState) (t : SiteView) → result ≢ Err halt.Site → GatewayReplies g s body result h t → SameCount g s h t
count_stands g s body result h t other is = by is.handled is.kept is.still (still_there is.handled result is.answered other)
  where
    by : (r : Result Reply Refused) → OnOk r (t.faults ≡ s.faults) → IfErr r (λ (fault : Refused). fault ≢ refused.Site → t.faults ≡ s.faults) → r ≢ Err refused.Site → t.faults ≡ s.faults
    by (Ok replied) kept still not = kept
    by (Err fault) kept still not = still (λ same. not (ap Err same))

pub counts_keep : Keeps GatewayReplies SameCount
counts_keep = record {
  same = λ g s. refl;
  then = λ g s h t k v first second. second ∙ first;
  reply = count_stands;
}

-- the gateway can be asked again
abbrev pub KeepsWithin : GatewayState → SiteView → GatewayState → SiteView → Type 0
KeepsWithin g s h t = IsWithin g s.tells.told → IsWithin h t.tells.told

pub within_keeps : Keeps GatewayReplies KeepsWithin
within_keeps = record {
  same = λ g s within. within;
  then = λ g s h t k v first second within. second (first within);
  reply = λ g s body result h t other is within. is.within;
}

-- ---- of a connection

pub connection_count : (g : GatewayState) (s : SiteView) (h : GatewayState) (t : SiteView) (count : ℕ) (old new : Option Traffic) (before after : ℕ) (why : ConnectionEnd)
    → Hears GatewayReplies g s h t count old new before after why → why ≢ end.Site → t.faults ≡ s.faults
connection_count g s h t count old new before after why is other = connection_keeps GatewayReplies SameCount counts_keep g s h t count old new before after why other is

rose_last : (g : GatewayState) (s : SiteView) (body : List ℕ) (h : GatewayState) (t : SiteView) → GatewayReplies g s body (Err halt.Site) h t → Rose s.faults t.faults
rose_last g s body h t is = by is.handled is.cause (is_site is.handled (Err halt.Site) is.answered refl)
  where
    by : (r : Result Reply Refused) → IfErr r (λ (fault : Refused). fault ≡ refused.Site → Rose s.faults t.faults) → r ≡ Err refused.Site → Rose s.faults t.faults
    by (Ok replied) cause e = let bad : ⊥ = cc in absurd bad
    by (Err fault) cause e = cause (cc)

pub connection_rose : (g : GatewayState) (s : SiteView) (h : GatewayState) (t : SiteView) (count : ℕ) (old new : Option Traffic) (before after : ℕ)
    → Hears GatewayReplies g s h t count old new before after end.Site → Rose s.faults t.faults
connection_rose g s h t count old new before after is =
    let last : LastFailed GatewayReplies SameCount g s h t = connection_failed GatewayReplies SameCount counts_keep g s h t count old new before after is in
    subst (λ (n : ℕ). Rose n t.faults) last.3 (rose_last last.0 last.1 last.2 h t last.4)

pub connection_within : (g : GatewayState) (s : SiteView) (h : GatewayState) (t : SiteView) (count : ℕ) (old new : Option Traffic) (before after : ℕ) (why : ConnectionEnd)
    → Hears GatewayReplies g s h t count old new before after why → IsWithin g s.tells.told → IsWithin h t.tells.told
connection_within g s h t count old new before after end.Site is within = (connection_failed GatewayReplies SameCount counts_keep g s h t count old new before after is).4.within
connection_within g s h t count old new before after end.Closed is within = connection_keeps GatewayReplies KeepsWithin within_keeps g s h t count old new before after end.Closed (λ e. cc) is within
connection_within g s h t count old new before after end.Ended is within = connection_keeps GatewayReplies KeepsWithin within_keeps g s h t count old new before after end.Ended (λ e. cc) is within
connection_within g s h t count old new before after end.Wire is within = connection_keeps GatewayReplies KeepsWithin within_keeps g s h t count old new before after end.Wire (λ e. cc) is within
connection_within g s h t count old new before after end.Memory is within = connection_keeps GatewayReplies KeepsWithin within_keeps g s h t count old new before after end.Memory (λ e. cc) is within

-- the count never falls
pub connection_later : (g : GatewayState) (s : SiteView) (h : GatewayState) (t : SiteView) (count : ℕ) (old new : Option Traffic) (before after : ℕ) (why : ConnectionEnd)
    → Hears GatewayReplies g s h t count old new before after why → s.faults ≤ t.faults
connection_later g s h t count old new before after end.Site is =
    let last : LastFailed GatewayReplies SameCount g s h t = connection_failed GatewayReplies SameCount counts_keep g s h t count old new before after is in
    subst (λ (n : ℕ). n ≤ t.faults) last.3 last.4.later
connection_later g s h t count old new before after end.Closed is = let same = connection_count g s h t count old new before after end.Closed is (λ e. cc) in omega (arith, same)
connection_later g s h t count old new before after end.Ended is = let same = connection_count g s h t count old new before after end.Ended is (λ e. cc) in omega (arith, same)
connection_later g s h t count old new before after end.Wire is = let same = connection_count g s h t count old new before after end.Wire is (λ e. cc) in omega (arith, same)
connection_later g s h t count old new before after end.Memory is = let same = connection_count g s h t count old new before after end.Memory is (λ e. cc) in omega (arith, same)

-- ---- at a site

-- what holds by the site's own functions holds of what is seen of it
pub views : {S : Type 0} (view : S → SiteView) (beside : S → S → Type 0) → Views view (RepliesAt view beside) GatewayReplies
views view beside = λ g s body result h t is. is.0

abbrev pub Beside : {S : Type 0} → (S → S → Type 0) → GatewayState → S → GatewayState → S → Type 0
Beside beside g s h t = beside s t

beside_keeps : {S : Type 0} (view : S → SiteView) (beside : S → S → Type 0) → ((s : S) → beside s s) → ((a b c : S) → beside a b → beside b c → beside a c) → Keeps (RepliesAt view beside) (Beside beside)
beside_keeps view beside same then = record {
  same = λ g s. same s;
  then = λ g s h t k v. then s t v;
  reply = λ g s body result h t other is. is.1;
}

pub connection_beside : {S : Type 0} (view : S → SiteView) (beside : S → S → Type 0) → ((s : S) → beside s s) → ((a b c : S) → beside a b → beside b c → beside a c)
    → (g : GatewayState) (s : S) (h : GatewayState) (t : S) (count : ℕ) (old new : Option Traffic) (before after : ℕ) (why : ConnectionEnd) → Hears (RepliesAt view beside) g s h t count old new before after why → beside s t
connection_beside view beside same then g s h t count old new before after end.Site is =
    let last = connection_failed (RepliesAt view beside) (Beside beside) (beside_keeps view beside same then) g s h t count old new before after is in
    then s last.1 t last.3 last.4.1
connection_beside view beside same then g s h t count old new before after end.Closed is = connection_keeps (RepliesAt view beside) (Beside beside) (beside_keeps view beside same then) g s h t count old new before after end.Closed (λ e. cc) is
connection_beside view beside same then g s h t count old new before after end.Ended is = connection_keeps (RepliesAt view beside) (Beside beside) (beside_keeps view beside same then) g s h t count old new before after end.Ended (λ e. cc) is
connection_beside view beside same then g s h t count old new before after end.Wire is = connection_keeps (RepliesAt view beside) (Beside beside) (beside_keeps view beside same then) g s h t count old new before after end.Wire (λ e. cc) is
connection_beside view beside same then g s h t count old new before after end.Memory is = connection_keeps (RepliesAt view beside) (Beside beside) (beside_keeps view beside same then) g s h t count old new before after end.Memory (λ e. cc) is

-- ---- of a piece

pub feed_count : (old new : RequestFeed) (t u : Talk GatewayState SiteView) (piece : List ℕ) (result : Result Turn ServeFault) → FeedAnswers GatewayReplies old new t u piece result → result ≢ Err serve.Site → u.site.faults ≡ t.site.faults
feed_count old new t u piece result is other = feed_keeps GatewayReplies SameCount counts_keep old new t u piece result other is

pub feed_rose : (old new : RequestFeed) (t u : Talk GatewayState SiteView) (piece : List ℕ) → FeedAnswers GatewayReplies old new t u piece (Err serve.Site) → Rose t.site.faults u.site.faults
feed_rose old new t u piece is =
    let last : LastFailed GatewayReplies SameCount t.responder t.site u.responder u.site = feed_failed GatewayReplies SameCount counts_keep old new t u piece is in
    subst (λ (n : ℕ). Rose n u.site.faults) last.3 (rose_last last.0 last.1 last.2 u.responder u.site last.4)

pub feed_later : (old new : RequestFeed) (t u : Talk GatewayState SiteView) (piece : List ℕ) (result : Result Turn ServeFault) → FeedAnswers GatewayReplies old new t u piece result → t.site.faults ≤ u.site.faults
feed_later old new t u piece (Err serve.Site) is =
    let last : LastFailed GatewayReplies SameCount t.responder t.site u.responder u.site = feed_failed GatewayReplies SameCount counts_keep old new t u piece is in
    subst (λ (n : ℕ). n ≤ u.site.faults) last.3 last.4.later
feed_later old new t u piece (Err serve.Memory) is = let same = feed_count old new t u piece (Err serve.Memory) is (λ e. cc) in omega (arith, same)
feed_later old new t u piece (Ok done) is = let same = feed_count old new t u piece (Ok done) is (λ e. cc) in omega (arith, same)

pub feed_within : (old new : RequestFeed) (t u : Talk GatewayState SiteView) (piece : List ℕ) (result : Result Turn ServeFault) → FeedAnswers GatewayReplies old new t u piece result → IsWithin t.responder t.site.tells.told → IsWithin u.responder u.site.tells.told
feed_within old new t u piece (Err serve.Site) is within = (feed_failed GatewayReplies SameCount counts_keep old new t u piece is).4.within
feed_within old new t u piece (Err serve.Memory) is within = feed_keeps GatewayReplies KeepsWithin within_keeps old new t u piece (Err serve.Memory) (λ e. cc) is within
feed_within old new t u piece (Ok done) is within = feed_keeps GatewayReplies KeepsWithin within_keeps old new t u piece (Ok done) (λ e. cc) is within

pub feed_beside : {S : Type 0} (view : S → SiteView) (beside : S → S → Type 0) → ((s : S) → beside s s) → ((a b c : S) → beside a b → beside b c → beside a c)
    → (old new : RequestFeed) (t u : Talk GatewayState S) (piece : List ℕ) (result : Result Turn ServeFault) → FeedAnswers (RepliesAt view beside) old new t u piece result → beside t.site u.site
feed_beside view beside same then old new t u piece (Err serve.Site) is =
    let last = feed_failed (RepliesAt view beside) (Beside beside) (beside_keeps view beside same then) old new t u piece is in
    then t.site last.1 u.site last.3 last.4.1
feed_beside view beside same then old new t u piece (Err serve.Memory) is = feed_keeps (RepliesAt view beside) (Beside beside) (beside_keeps view beside same then) old new t u piece (Err serve.Memory) (λ e. cc) is
feed_beside view beside same then old new t u piece (Ok done) is = feed_keeps (RepliesAt view beside) (Beside beside) (beside_keeps view beside same then) old new t u piece (Ok done) (λ e. cc) is

-- ---- of a call with a piece, where the connection may be closed already

-- a connection that is closed stays so, and its gateway and site are left alone
abbrev pub LeftAlone : {S : Type 0} → GatewayState → S → GatewayState → S → Result Turn ServeFault → Type 0
LeftAlone g s h t result = (result ≡ Ok turn.Close) × (h ≡ g) × (t ≡ s)

-- what a call with a piece keeps of a gateway and its site
pub record FeedKeeps {S : Type 0} (view : S → SiteView) (beside : S → S → Type 0) (g : GatewayState) (s : S) (h : GatewayState) (t : S) (result : Result Turn ServeFault) : Type 0 where
  pub within : IsWithin g (view s).tells.told → IsWithin h (view t).tells.told
  pub beside_is : beside s t
  pub later : (view s).faults ≤ (view t).faults
  pub rose : result ≡ Err serve.Site → Rose (view s).faults (view t).faults
  pub kept : result ≢ Err serve.Site → (view t).faults ≡ (view s).faults

module _ {S : Type 0} (view : S → SiteView) (beside : S → S → Type 0) (same : (s : S) → beside s s) (then : (a b c : S) → beside a b → beside b c → beside a c) where
  nothing_done : (g : GatewayState) (s : S) (result : Result Turn ServeFault) → result ≡ Ok turn.Close → FeedKeeps view beside g s g s result
  nothing_done g s result is = record {
    within = λ within. within;
    beside_is = same s;
    later = omega arith;
    rose = λ e. let bad : ⊥ = cc in absurd bad;
    kept = λ other. refl;
  }

  left_keeps : (g : GatewayState) (s : S) (h : GatewayState) (t : S) (result : Result Turn ServeFault) → LeftAlone g s h t result → FeedKeeps view beside g s h t result
  left_keeps g s h t result left =
      subst (λ (k : GatewayState). FeedKeeps view beside g s k t result) (sym left.1) (subst (λ (v : S). FeedKeeps view beside g s g v result) (sym left.2) (nothing_done g s result left.0))

  answers_keep : (old new : RequestFeed) (t u : Talk GatewayState S) (piece : List ℕ) (result : Result Turn ServeFault) → FeedAnswers (RepliesAt view beside) old new t u piece result
      → FeedKeeps view beside t.responder t.site u.responder u.site result
  answers_keep old new t u piece result is =
      let seen = feed_viewed view (RepliesAt view beside) GatewayReplies (views view beside) old new t u piece result is in
      record {
        within = feed_within old new (viewed view t) (viewed view u) piece result seen;
        beside_is = feed_beside view beside same then old new t u piece result is;
        later = feed_later old new (viewed view t) (viewed view u) piece result seen;
        rose = λ e. feed_rose old new (viewed view t) (viewed view u) piece (subst (λ (r : Result Turn ServeFault). FeedAnswers GatewayReplies old new (viewed view t) (viewed view u) piece r) e seen);
        kept = feed_count old new (viewed view t) (viewed view u) piece result seen;
      }

  pub feed_call : (closed : Bool) (old new : RequestFeed) (t u : Talk GatewayState S) (piece : List ℕ) (result : Result Turn ServeFault)
      → (closed ≡ false → FeedAnswers (RepliesAt view beside) old new t u piece result) → (closed ≡ true → LeftAlone t.responder t.site u.responder u.site result) → FeedKeeps view beside t.responder t.site u.responder u.site result
  feed_call false old new t u piece result answers left = answers_keep old new t u piece result (answers refl)
  feed_call true old new t u piece result answers left = left_keeps t.responder t.site u.responder u.site result (left refl)

-- ---- by the answer

pub cause_in : {R : Type 0} (result : Result Turn ServeFault) → (result ≡ Err serve.Site → R) → IfErr result (λ (fault : ServeFault). fault ≡ serve.Site → R)
cause_in (Ok done) rose = tt
cause_in (Err fault) rose = λ e. rose (ap Err e)

pub kept_in : {K : Type 0} (result : Result Turn ServeFault) → (result ≢ Err serve.Site → K) → OnOk result K
kept_in (Ok done) kept = kept (λ e. cc)
kept_in (Err fault) kept = tt

pub still_in : {K : Type 0} (result : Result Turn ServeFault) → (result ≢ Err serve.Site → K) → IfErr result (λ (fault : ServeFault). fault ≢ serve.Site → K)
still_in (Ok done) kept = tt
still_in (Err fault) kept = λ other. kept (λ e. other (cc e))
