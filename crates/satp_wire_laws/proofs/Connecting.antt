-- The two ends of a connection, as the bytes that passed.
use Rattle.std.proofs.Common.{◌≡◌, ◌≤◌, inl, inr, ℕ, Bool, false, List, [], ◌∷◌, ◌++◌, length, Option, Some, None, refl, sym, ap, subst, ◌∙◌, arith, append-nil, IsTrue}
use Rattle.std.specs.Prelude.{option_map}
use Rattle.std.specs.List.{flat_map}
use Rattle.std.proofs.lemmas.Grind.{flat_map-append}
use Rattle.satp_base.specs.Names.{is_address}
use Rattle.satp_base.specs.Wires.{Conversation, Traffic, called, exchanged, grown, on_last, opened}
use Rattle.satp_base.specs.declared.wire.Dial.{Dial}
use Rattle.satp_base.specs.declared.wire.Dial.TheVariants.{Accept}
use Rattle.satp_http.specs.Feeds.{AnswerFeed, RequestFeed}
use Rattle.satp_http.specs.Heads.{client, head_bytes, server}
use Rattle.satp_http.specs.HttpText.{AreSent, IsUnfinished, Sent, answers_of, sent_bytes}
use Rattle.satp_http.specs.Runs.{AnswerTaken, SaysAnswersEnd, came}
use Rattle.satp_http.specs.Written.{request_text}
use Rattle.satp_http.specs.declared.fault.HttpFault.{HttpFault}
use Rattle.satp_http.specs.declared.responses.Answered.{Answered}
use Rattle.satp_http.proofs.TakeLemmas.{some_bytes}
use Rattle.satp_post.specs.Posting.{Exchanged, hearing}
use Rattle.satp_serve.specs.Connections as connections
use Rattle.satp_serve.specs.Connections.{Waits}
use Rattle.satp_serve.specs.Exchange.{silent}
use Rattle.satp_serve.specs.Feeding.{AwaitsMore, standing}
use Rattle.satp_serve.specs.GatewayReplies.{GatewayReplies}
use Rattle.satp_serve.specs.declared.connection.ConnectionEnd.{ConnectionEnd}
use Rattle.satp_sides.specs.Points.{Text}
use Rattle.satp_world.specs.Worlds.{Gateway, Setting, World, opposite, side_at}
use Rattle.satp_drive.specs.Conversing.{Exchanges, requests}
use Rattle.satp_drive.proofs.HeardBytes.{drives_hear_answers, last_unanswered}
use Rattle.satp_wire_laws.specs.TwoEnds.{Served, TellsLast}
use Rattle.satp_wire_laws.proofs.Meeting.{Ended, Lacking, Meets, Mode, Whole, tail_of}
use Rattle.satp_wire_laws.proofs.Serving.{GatewayTalk, empty-front}
use Rattle.satp_wire_laws.proofs.WrittenHeads.{posted_head, posted_text}

-- ---- what a wire tells of its last connection

abbrev Grows : Type 0
Grows = Conversation → Conversation

last-changed : (f : Grows) (cs : List Conversation) (c : Conversation) → on_last f (cs ++ c ∷ []) ≡ cs ++ f c ∷ []
last-changed f [] c = refl
last-changed f (x ∷ []) c = refl
last-changed f (x ∷ y ∷ cs) c = ap (λ (l : List Conversation). x ∷ l) (last-changed f (y ∷ cs) c)

not-none : (cs : List Conversation) (c : Conversation) → cs ++ c ∷ [] ≡ [] → ⊥
not-none [] c e = cc e
not-none (x ∷ cs) c e = cc e

last-is : (cs ds : List Conversation) (c d : Conversation) → cs ++ c ∷ [] ≡ ds ++ d ∷ [] → c ≡ d
last-is [] [] c d e = cc e
last-is [] (y ∷ ds) c d e = absurd (let bad : ds ++ d ∷ [] ≡ [] = sym (cc e) in not-none ds d bad)
last-is (x ∷ cs) [] c d e = absurd (let bad : cs ++ c ∷ [] ≡ [] = cc e in not-none cs c bad)
last-is (x ∷ cs) (y ∷ ds) c d e = last-is cs ds c d (cc e)

abbrev blank : Conversation
blank = record { heard = []; said = []; ended = false }

some-traffic : (x y : Traffic) → ◌≡◌ {A = Option Traffic} (Some x) (Some y) → x ≡ y
some-traffic x y e = cc e

-- a dial that opens a connection, on which all this happened
told-last : (dial : Dial) → opened dial ≡ blank ∷ [] → (f : Grows) (earlier told : Option Traffic) → told ≡ option_map (λ (t : Traffic). record t { conversations = on_last f t.conversations }) (option_map (called dial) earlier)
    → (c : Conversation) → TellsLast told c → c ≡ f blank
told-last dial opens f None told is c last = absurd (let bad : ◌≡◌ {A = Option Traffic} None (Some last.traffic) = sym is ∙ last.told_is in cc bad)
told-last dial opens f (Some t) told is c last =
    let same = some-traffic last.traffic _ (sym last.told_is ∙ is) in
    let all : last.first ++ c ∷ [] ≡ t.conversations ++ f blank ∷ [] =
    sym last.last ∙ ap (λ (x : Traffic). x.conversations) same ∙ ap (λ (l : List Conversation). on_last f (t.conversations ++ l)) opens ∙ last-changed f t.conversations blank in
    last-is last.first t.conversations c (f blank) all

two-changes : (f h : Grows) (cs : List Conversation) → on_last h (on_last f cs) ≡ on_last (λ (c : Conversation). h (f c)) cs
two-changes f h [] = refl
two-changes f h (x ∷ []) = refl
two-changes f h (x ∷ y ∷ []) = refl
two-changes f h (x ∷ y ∷ z ∷ cs) = ap (λ (l : List Conversation). x ∷ l) (two-changes f h (y ∷ z ∷ cs))

-- two exchanges on it
told-twice : (dial : Dial) → opened dial ≡ blank ∷ [] → (h1 s1 h2 s2 : List ℕ) (e1 e2 : Bool) (earlier between told : Option Traffic) → between ≡ option_map (exchanged h1 s1 e1) (option_map (called dial) earlier) → told ≡ option_map (exchanged h2 s2 e2) between
    → (c : Conversation) → TellsLast told c → (c.heard ≡ h1 ++ h2) × (c.said ≡ s1 ++ s2)
told-twice dial opens h1 s1 h2 s2 e1 e2 earlier between told is then c last =
    let f = λ (x : Conversation). grown h2 s2 e2 (grown h1 s1 e1 x) in
    let same = told-last dial opens f earlier told (then ∙ ap (option_map (exchanged h2 s2 e2)) is ∙ fused (option_map (called dial) earlier)) c last in
    (ap (λ (x : Conversation). x.heard) same, ap (λ (x : Conversation). x.said) same)
  where
    fused : (o : Option Traffic) → option_map (exchanged h2 s2 e2) (option_map (exchanged h1 s1 e1) o) ≡ option_map (λ (t : Traffic). record t { conversations = on_last (λ (x : Conversation). grown h2 s2 e2 (grown h1 s1 e1 x)) t.conversations }) o
    fused None = refl
    fused (Some t) = ap (λ (l : List Conversation). Some (record t { conversations = l })) (two-changes (grown h1 s1 e1) (grown h2 s2 e2) t.conversations)

told-once : (dial : Dial) → opened dial ≡ blank ∷ [] → (h s : List ℕ) (e : Bool) (earlier told : Option Traffic) → told ≡ option_map (exchanged h s e) (option_map (called dial) earlier) → (c : Conversation) → TellsLast told c → (c.heard ≡ h) × (c.said ≡ s)
told-once dial opens h s e earlier told is c last =
    let same = told-last dial opens (grown h s e) earlier told is c last in
    (ap (λ (x : Conversation). x.heard) same, ap (λ (x : Conversation). x.said) same)

-- ---- this end

-- the requests of these texts were said, and these answers were heard
pub record Near (at : List ℕ) (mode : Mode) (posted : List Text) (answers : List Answered) (here : Conversation) : Type 0 where
  pub said : here.said ≡ flat_map (request_text at) (posted ++ tail_of mode)
  pub sent : List (Sent server)
  pub rest : List ℕ
  pub each : AreSent server 0 sent
  pub heard : here.heard ≡ flat_map (sent_bytes server) sent ++ rest
  pub answers_are : answers ≡ answers_of sent
  pub ended : Ended mode sent rest

module _ (dial : Dial) (opens : opened dial ≡ blank ∷ []) (at : List ℕ) (posted : List Text) (answers : List Answered) (feed : AnswerFeed) (earlier between telling : Option Traffic) (x : Exchanges at posted answers feed (option_map (called dial) earlier) between)
    (here : Conversation) (last : TellsLast telling here) where
  -- every text has its answer
  pub near-whole : telling ≡ between → Near at Whole posted answers here
  near-whole same =
      let told = told-once dial opens (came x.calls) (requests at posted) false earlier telling (same ∙ x.told_is) here last in
      let heard = drives_hear_answers at posted answers feed (option_map (called dial) earlier) between x in
      record {
        said = told.1 ∙ ap (flat_map (request_text at)) (sym (append-nil posted));
        sent = heard.sent;
        rest = feed.held;
        each = heard.each;
        heard = told.0 ∙ heard.heard_is;
        answers_are = heard.answers_are;
        ended = tt;
      }

  -- the last one has none
  pub near-lacking : (text : Text) (left : AnswerFeed) (taken : AnswerTaken) (end : Option HttpFault) (closed : Bool) → Exchanged (request_text at text) feed left between telling taken closed → SaysAnswersEnd taken end → Near at (Lacking text end) posted answers here
  near-lacking text left taken end closed e says =
      let told = told-twice dial opens (came x.calls) (requests at posted) (came (hearing e.pieces taken)) (request_text at text) false closed earlier between telling x.told_is e.told_is here last in
      let heard = last_unanswered at posted answers feed left (option_map (called dial) earlier) between e.pieces taken end x e.runs says in
      record {
        said = told.1 ∙ ap (λ (l : List ℕ). requests at posted ++ l) (sym (append-nil (request_text at text))) ∙ sym (flat_map-append (request_text at) posted (text ∷ []));
        sent = heard.0;
        rest = heard.2.rest;
        each = heard.2.each;
        heard = told.0 ∙ heard.2.bytes_are;
        answers_are = heard.1;
        ended = heard.2.ends;
      }

-- ---- the other end

unfinished-still : (feed : RequestFeed) → AwaitsMore feed → IsUnfinished client 0 feed.held
unfinished-still feed awaits = elim awaits.2 [ inl part ↦ inl part | inr waits ↦ elim waits [ inl a ↦ inr (a.0, a.1) | inr a ↦ inr (a.0.0, a.0.1) ] ]

no-request : (at text more : List ℕ) → request_text at text ++ more ≡ [] → ⊥
no-request at text more e =
    let head = posted_head at (length text) in
    let some = some_bytes client head in
    empty-front (request_text at text) more (let same = ap length (posted_text at text) in let longer = length-both (head_bytes client head) text in omega (arith, some, same, longer)) e
  where
    length-both : (a b : List ℕ) → length a ≤ length (a ++ b)
    length-both [] b = omega arith
    length-both (y ∷ a) b = let h = length-both a b in omega (arith, h)

module _ (st : Setting) (w : World) (g : Gateway) (mine : Option Traffic) (served : Served st w g mine) where
  abbrev pub last_talk : GatewayTalk
  last_talk = standing served.new served.after served.connection.requests served.serves.whole served.serves.closed

  pub record Far : Type 0 where
    pub waits : Waits GatewayReplies served.old served.before served.ends.here.said last_talk
    pub said : served.ends.here.heard ≡ last_talk.said

  pub far : Far
  far =
      let c = served.serves in
      let ends = subst (λ (why : ConnectionEnd). connections.EndsAt GatewayReplies served.old served.before last_talk c.heard c.rest served.faults served.faults_after why) served.ended c.ends in
      let told = told-once Accept refl c.heard c.said _ served.earlier served.theirs c.told served.ends.there served.ends.theirs_is in
      record {
        waits = subst (λ (l : List ℕ). Waits GatewayReplies served.old served.before l last_talk) (sym told.0 ∙ served.ends.asked) ends.2;
        said = served.ends.answered ∙ told.1 ∙ sym (append-nil c.said) ∙ ap (λ (l : List ℕ). c.said ++ l) (sym ends.0) ∙ sym c.cut;
      }

  module _ (at : List ℕ) (good : IsTrue (is_address at)) (mode : Mode) (posted : List Text) (answers : List Answered) (near : Near at mode posted answers served.ends.here) (t : Text) (more : List Text) (some : posted ++ tail_of mode ≡ t ∷ more) where
    pub still-open : last_talk.closed ≡ false
    still-open = far.waits.unclosed

    pub still-waits : IsUnfinished client 0 far.waits.feed.held
    still-waits = elim far.waits.rest [
      | inl none ↦ absurd (no-request at t (flat_map (request_text at) more) (ap (flat_map (request_text at)) (sym some) ∙ sym near.said ∙ none))
      | inr awaits ↦ unfinished-still far.waits.feed awaits
    ]

    pub meets : Meets st g at good served.setup served.stands.party far.waits.feed last_talk still-open still-waits near.rest mode (side_at w (opposite g)) posted answers
    meets = record {
      feed = _;
      calls = far.waits.serves.calls;
      talk = silent served.old served.before;
      runs = far.waits.serves.runs;
      talks = far.waits.serves.talks;
      told = served.t;
      stands = served.stands.at;
      asked = far.waits.serves.bytes_are ∙ near.said;
      sent = near.sent;
      each = near.each;
      heard = sym far.said ∙ near.heard;
      answers_are = near.answers_are;
      ended = near.ended;
    }
