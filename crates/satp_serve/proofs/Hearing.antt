-- What was heard so far, all of it answered, and what comes after it.
use Rattle.std.proofs.Common.{◌≡◌, ℕ, ◌+◌, ◌≤◌, ◌<◌, ◌==◌, ◌&&◌, ◌⊎◌, inl, inr, Bool, true, false, List, [], ◌++◌, length, take, refl, ap, ◌∙◌, sym, subst, arith, append_assoc, Option}
use Rattle.std.specs.Prelude.{Result, Ok, Err, option_map, nat_lt}
use Rattle.std.proofs.lemmas.Bool.{lt-ltb, ne_eqb}
use Rattle.std.proofs.lemmas.List.{append-nil, length-append, length-take-le, take-append-le}
use Rattle.satp_base.specs.Streams.{Rose}
use Rattle.satp_base.specs.Wires.{Traffic, exchanged, hears, says}
use Rattle.satp_http.specs.Feeds.{RequestFeed, no_requests}
use Rattle.satp_serve.specs.declared.connection.ConnectionEnd.{ConnectionEnd}
use Rattle.satp_serve.specs.declared.connection.ConnectionEnd.TheVariants as end
use Rattle.satp_serve.specs.declared.responder.Halt.{Halt}
use Rattle.satp_serve.specs.declared.responder.Replied.{Replied}
use Rattle.satp_serve.specs.declared.turn.ServeFault.{ServeFault}
use Rattle.satp_serve.specs.declared.turn.Turn.{Turn}
use Rattle.satp_serve.specs.declared.turn.Turn.TheVariants as turn
use Rattle.satp_serve.specs.Exchange.{Talk, Serves, silent}
use Rattle.satp_serve.specs.Feeding.{AwaitsMore, FeedAnswers, Serving, standing, talk, unheard}
use Rattle.satp_serve.specs.Connections.{Closes, Hears, LastSaid, Responds, Stops, Waits, most_heard}
use Rattle.satp_serve.proofs.Exchanging.{serves_nothing, serves_then}
use Rattle.satp_serve.proofs.Saying.{after, halts_after, serves_after}
use Rattle.satp_wires.proofs.Traffic.{exchanged_nothing, exchanged_twice}

-- these bytes were heard since g and s, and all requests in them are answered
pub record AllHeard {G S : Type 0} (replies : G → S → List ℕ → Result Replied Halt → G → S → Type 0) (g : G) (s : S) (served : Serving) (h : G) (t : S) (old new : Option Traffic) (count : ℕ) : Type 0 where
  pub bytes : List ℕ
  pub said : List ℕ
  pub told : new ≡ option_map (exchanged bytes said false) old
  pub count_is : length bytes ≡ count
  pub serves : Serves replies no_requests served.feed (silent g s) (standing h t served.count said false) bytes
  pub rest : (bytes ≡ []) ⊎ AwaitsMore served.feed

pub heard_none : {G S : Type 0} (replies : G → S → List ℕ → Result Replied Halt → G → S → Type 0) (g : G) (s : S) (served : Serving) (told : Option Traffic) → served ≡ unheard → AllHeard replies g s served g s told told 0
heard_none replies g s served told is = record {
  bytes = [];
  said = [];
  told = exchanged_nothing told;
  count_is = refl;
  serves = subst (λ (v : Serving). Serves replies no_requests v.feed (silent g s) (standing g s v.count [] false) []) (sym is) (serves_nothing replies no_requests (silent g s));
  rest = inl refl;
}

waits : {G S : Type 0} (replies : G → S → List ℕ → Result Replied Halt → G → S → Type 0) (g : G) (s : S) (served : Serving) (h : G) (t : S) (old new : Option Traffic) (count : ℕ)
    → (a : AllHeard replies g s served h t old new count) → Waits replies g s a.bytes (standing h t served.count a.said false)
waits replies g s served h t old new count a = record { feed = served.feed; serves = a.serves; rest = a.rest; unclosed = refl }

-- ---- what the wire tells

told_read : (old middle new : Option Traffic) (heard said piece : List ℕ) (ended : Bool) → middle ≡ option_map (exchanged heard said false) old → new ≡ option_map (exchanged piece [] ended) middle → new ≡ option_map (exchanged (heard ++ piece) said ended) old
told_read old middle new heard said piece ended before read =
    read ∙ ap (option_map (exchanged piece [] ended)) before ∙ exchanged_twice heard piece said [] false ended old
    ∙ ap (λ (l : List ℕ). option_map (exchanged (heard ++ piece) l ended) old) (append-nil said)

told_said : (old middle new : Option Traffic) (heard said out : List ℕ) → middle ≡ option_map (exchanged heard said false) old → new ≡ option_map (says out) middle → new ≡ option_map (exchanged heard (said ++ out) false) old
told_said old middle new heard said out before say =
    say ∙ ap (option_map (says out)) before ∙ exchanged_twice heard [] said out false false old
    ∙ ap (λ (l : List ℕ). option_map (exchanged l (said ++ out) false) old) (append-nil heard)

-- a read that heard some bytes
pub reads_some : (middle new : Option Traffic) (into piece : List ℕ) (n : ℕ) → (n ≡ 0 → ⊥) → piece ≡ take n into → new ≡ option_map (hears (take n into) ((n == 0) && nat_lt 0 (length into))) middle → new ≡ option_map (exchanged piece [] false) middle
reads_some middle new into piece n some is told =
    told ∙ ap (λ (b : Bool). option_map (exchanged (take n into) [] (b && nat_lt 0 (length into))) middle) (ne_eqb n 0 some) ∙ ap (λ (l : List ℕ). option_map (exchanged l [] false) middle) (sym is)

-- a read that heard the end
reads_none : (middle new : Option Traffic) (into : List ℕ) (n : ℕ) → n ≡ 0 → 0 < length into → new ≡ option_map (hears (take n into) ((n == 0) && nat_lt 0 (length into))) middle → new ≡ option_map (exchanged [] [] true) middle
reads_none middle new into n none room told =
    told ∙ ap (λ (k : ℕ). option_map (hears (take k into) ((k == 0) && nat_lt 0 (length into))) middle) none ∙ ap (λ (b : Bool). option_map (exchanged [] [] b) middle) (lt-ltb 0 (length into) room)

-- ---- one more piece

serves_next : {G S : Type 0} (replies : G → S → List ℕ → Result Replied Halt → G → S → Type 0) (g : G) (s : S) (a b : RequestFeed) (h : G) (t : S) (n : ℕ) (said : List ℕ) (closed : Bool) (u : Talk G S) (bytes piece : List ℕ)
    → Serves replies no_requests a (silent g s) (standing h t n said false) bytes → closed ≡ false → Serves replies a b (standing h t n [] closed) u piece → Serves replies no_requests b (silent g s) (after said u) (bytes ++ piece)
serves_next replies g s a b h t n said closed u bytes piece before unclosed then =
    let from : Serves replies a b (standing h t n [] false) u piece = subst (λ (c : Bool). Serves replies a b (standing h t n [] c) u piece) unclosed then in
    let moved : Serves replies a b (standing h t n (said ++ []) false) (after said u) piece = serves_after replies said a b (standing h t n [] false) u piece from in
    serves_then replies no_requests a b (silent g s) (standing h t n said false) (after said u) bytes piece before
    (subst (λ (l : List ℕ). Serves replies a b (standing h t n l false) (after said u) piece) (append-nil said) moved)

joined : (bytes piece front rest : List ℕ) → piece ≡ front ++ rest → bytes ++ piece ≡ (bytes ++ front) ++ rest
joined bytes piece front rest cut = ap (λ (l : List ℕ). bytes ++ l) cut ∙ sym (append_assoc bytes front rest)

feeds_waits : {G S : Type 0} (replies : G → S → List ℕ → Result Replied Halt → G → S → Type 0) (g : G) (s : S) (served next : Serving) (h : G) (t : S) (h2 : G) (t2 : S) (old new : Option Traffic) (count : ℕ) (piece out : List ℕ)
    → (a : AllHeard replies g s served h t old new count) → served.closed ≡ false → FeedAnswers replies served.feed next.feed (talk served h t []) (talk next h2 t2 out) piece (Ok turn.More)
    → Waits replies g s (a.bytes ++ piece) (standing h2 t2 next.count (a.said ++ out) next.closed)
feeds_waits replies g s served next h t h2 t2 old new count piece out a unclosed feeds = record {
  feed = next.feed;
  serves = serves_next replies g s served.feed next.feed h t served.count a.said served.closed (talk next h2 t2 out) a.bytes piece a.serves unclosed feeds.0;
  rest = inr feeds.2;
  unclosed = feeds.1;
}

feeds_closes : {G S : Type 0} (replies : G → S → List ℕ → Result Replied Halt → G → S → Type 0) (g : G) (s : S) (served next : Serving) (h : G) (t : S) (h2 : G) (t2 : S) (old new : Option Traffic) (count : ℕ) (piece out : List ℕ)
    → (a : AllHeard replies g s served h t old new count) → served.closed ≡ false → FeedAnswers replies served.feed next.feed (talk served h t []) (talk next h2 t2 out) piece (Ok turn.Close)
    → Closes replies g s (a.bytes ++ piece) (standing h2 t2 next.count (a.said ++ out) next.closed)
feeds_closes replies g s served next h t h2 t2 old new count piece out a unclosed feeds = record {
  front = a.bytes ++ feeds.0;
  rest = feeds.1;
  cut = joined a.bytes piece feeds.0 feeds.1 feeds.2;
  feed = next.feed;
  serves = serves_next replies g s served.feed next.feed h t served.count a.said served.closed (talk next h2 t2 out) a.bytes feeds.0 a.serves unclosed feeds.3;
  closed = feeds.4;
}

feeds_stops : {G S : Type 0} (replies : G → S → List ℕ → Result Replied Halt → G → S → Type 0) (g : G) (s : S) (served next : Serving) (h : G) (t : S) (h2 : G) (t2 : S) (old new : Option Traffic) (count : ℕ) (piece out : List ℕ) (fault : ServeFault)
    → (a : AllHeard replies g s served h t old new count) → served.closed ≡ false → FeedAnswers replies served.feed next.feed (talk served h t []) (talk next h2 t2 out) piece (Err fault)
    → Stops replies g s (a.bytes ++ piece) fault (standing h2 t2 next.count (a.said ++ out) next.closed)
feeds_stops replies g s served next h t h2 t2 old new count piece out fault a unclosed feeds = record {
  front = a.bytes ++ feeds.0;
  rest = feeds.1;
  cut = joined a.bytes piece feeds.0 feeds.1 feeds.2;
  feed = feeds.3;
  answered = after a.said feeds.4;
  serves = serves_next replies g s served.feed feeds.3 h t served.count a.said served.closed feeds.4 a.bytes feeds.0 a.serves unclosed feeds.5;
  unclosed = feeds.6;
  halts = halts_after replies a.said feeds.3 feeds.4 (talk next h2 t2 out) fault feeds.7;
}

either_way : {G S : Type 0} (replies : G → S → List ℕ → Result Replied Halt → G → S → Type 0) (g : G) (s : S) (served next : Serving) (h : G) (t : S) (h2 : G) (t2 : S) (old new : Option Traffic) (count : ℕ) (piece out : List ℕ) (last : Turn)
    → (a : AllHeard replies g s served h t old new count) → served.closed ≡ false → FeedAnswers replies served.feed next.feed (talk served h t []) (talk next h2 t2 out) piece (Ok last)
    → Waits replies g s (a.bytes ++ piece) (standing h2 t2 next.count (a.said ++ out) next.closed) ⊎ Closes replies g s (a.bytes ++ piece) (standing h2 t2 next.count (a.said ++ out) next.closed)
either_way replies g s served next h t h2 t2 old new count piece out turn.More a unclosed feeds = inl (feeds_waits replies g s served next h t h2 t2 old new count piece out a unclosed feeds)
either_way replies g s served next h t h2 t2 old new count piece out turn.Close a unclosed feeds = inr (feeds_closes replies g s served next h t h2 t2 old new count piece out a unclosed feeds)

-- and more is to be heard
pub responds_more : {G S : Type 0} (replies : G → S → List ℕ → Result Replied Halt → G → S → Type 0) (g : G) (s : S) (served next : Serving) (h : G) (t : S) (h2 : G) (t2 : S) (old middle read new : Option Traffic) (before later count : ℕ) (piece out : List ℕ)
    → AllHeard replies g s served h t old middle count → served.closed ≡ false → read ≡ option_map (exchanged piece [] false) middle
    → Responds replies served.feed next.feed (talk served h t []) (talk next h2 t2 out) piece read new before later (Ok turn.More)
    → AllHeard replies g s next h2 t2 old new (count + length piece)
responds_more replies g s served next h t h2 t2 old middle read new before later count piece out a unclosed reads responds =
    let next_talk = talk next h2 t2 out in
    let serves = serves_next replies g s served.feed next.feed h t served.count a.said served.closed next_talk a.bytes piece a.serves unclosed responds.0.0 in
    record {
      bytes = a.bytes ++ piece;
      said = a.said ++ out;
      told = told_said old read new (a.bytes ++ piece) a.said out (told_read old middle read a.bytes a.said piece false a.told reads) responds.1;
      count_is = length-append a.bytes piece ∙ ap (λ (n : ℕ). n + length piece) a.count_is;
      serves = subst (λ (c : Bool). Serves replies no_requests next.feed (silent g s) (standing h2 t2 next.count (a.said ++ out) c) (a.bytes ++ piece)) responds.0.1 serves;
      rest = inr responds.0.2;
    }

-- the bytes that a read put into the front of a buffer
pub front_read : (into rest : List ℕ) (n : ℕ) → n ≤ length into → take n (into ++ rest) ≡ take n into
front_read into rest n within = take-append-le n into rest within

pub front_length : (into rest : List ℕ) (n : ℕ) → n ≤ length into → length (take n (into ++ rest)) ≡ n
front_length into rest n within = ap length (front_read into rest n within) ∙ length-take-le n into within

-- ---- ends

most_joined : (bytes piece : List ℕ) (count : ℕ) → length bytes ≡ count → count + length piece ≤ most_heard → length (bytes ++ piece) ≤ most_heard
most_joined bytes piece count is most = omega (arith, length-append bytes piece, is, most)

pub ends_in_memory : {G S : Type 0} (replies : G → S → List ℕ → Result Replied Halt → G → S → Type 0) (g : G) (s : S) (served : Serving) (h : G) (t : S) (old new : Option Traffic) (before later count : ℕ)
    → AllHeard replies g s served h t old new count → count ≤ most_heard → later ≡ before → Hears replies g s h t served.count old new before later end.Memory
ends_in_memory replies g s served h t old new before later count a most quiet = record {
  heard = a.bytes;
  said = a.said;
  rest = [];
  whole = a.said;
  cut = sym (append-nil a.said);
  closed = false;
  told = a.told;
  most = omega (arith, a.count_is, most);
  ends = inr (refl, quiet, waits replies g s served h t old new count a);
}

pub ends_in_wire : {G S : Type 0} (replies : G → S → List ℕ → Result Replied Halt → G → S → Type 0) (g : G) (s : S) (served : Serving) (h : G) (t : S) (old middle new : Option Traffic) (before between later count : ℕ)
    → AllHeard replies g s served h t old middle count → count ≤ most_heard → new ≡ middle → between ≡ before → Rose between later → Hears replies g s h t served.count old new before later end.Wire
ends_in_wire replies g s served h t old middle new before between later count a most same quiet rose = record {
  heard = a.bytes;
  said = a.said;
  rest = [];
  whole = a.said;
  cut = sym (append-nil a.said);
  closed = false;
  told = same ∙ a.told;
  most = omega (arith, a.count_is, most);
  ends = (subst (λ (n : ℕ). Rose n later) quiet rose, inl (waits replies g s served h t old middle count a));
}

pub ends_with_peer : {G S : Type 0} (replies : G → S → List ℕ → Result Replied Halt → G → S → Type 0) (g : G) (s : S) (served : Serving) (h : G) (t : S) (old middle new : Option Traffic) (before later count : ℕ) (into : List ℕ) (n : ℕ)
    → AllHeard replies g s served h t old middle count → count < most_heard → n ≡ 0 → 0 < length into → new ≡ option_map (hears (take n into) ((n == 0) && nat_lt 0 (length into))) middle → later ≡ before
    → Hears replies g s h t served.count old new before later end.Ended
ends_with_peer replies g s served h t old middle new before later count into n a most none room told quiet = record {
  heard = a.bytes;
  said = a.said;
  rest = [];
  whole = a.said;
  cut = sym (append-nil a.said);
  closed = false;
  told = told_read old middle new a.bytes a.said [] true a.told (reads_none middle new into n none room told) ∙ ap (λ (l : List ℕ). option_map (exchanged l a.said true) old) (append-nil a.bytes);
  most = omega (arith, a.count_is, most);
  ends = (refl, quiet, waits replies g s served h t old middle count a, omega (arith, a.count_is, most));
}

pub ends_at_most : {G S : Type 0} (replies : G → S → List ℕ → Result Replied Halt → G → S → Type 0) (g : G) (s : S) (served : Serving) (h : G) (t : S) (old new : Option Traffic) (before later count : ℕ)
    → AllHeard replies g s served h t old new count → count ≡ most_heard → later ≡ before → Hears replies g s h t served.count old new before later end.Closed
ends_at_most replies g s served h t old new before later count a most quiet = record {
  heard = a.bytes;
  said = a.said;
  rest = [];
  whole = a.said;
  cut = sym (append-nil a.said);
  closed = false;
  told = a.told;
  most = omega (arith, a.count_is, most);
  ends = (refl, quiet, inr (waits replies g s served h t old new count a, a.count_is ∙ most));
}

pub responds_closes : {G S : Type 0} (replies : G → S → List ℕ → Result Replied Halt → G → S → Type 0) (g : G) (s : S) (served next : Serving) (h : G) (t : S) (h2 : G) (t2 : S) (old middle read new : Option Traffic) (before between later count : ℕ) (piece out : List ℕ)
    → AllHeard replies g s served h t old middle count → served.closed ≡ false → read ≡ option_map (exchanged piece [] false) middle → between ≡ before → count + length piece ≤ most_heard
    → Responds replies served.feed next.feed (talk served h t []) (talk next h2 t2 out) piece read new between later (Ok turn.Close)
    → Hears replies g s h2 t2 next.count old new before later end.Closed
responds_closes replies g s served next h t h2 t2 old middle read new before between later count piece out a unclosed reads quiet most responds = record {
  heard = a.bytes ++ piece;
  said = a.said ++ out;
  rest = [];
  whole = a.said ++ out;
  cut = sym (append-nil (a.said ++ out));
  closed = next.closed;
  told = told_said old read new (a.bytes ++ piece) a.said out (told_read old middle read a.bytes a.said piece false a.told reads) responds.1;
  most = most_joined a.bytes piece count a.count_is most;
  ends = (refl, responds.2 ∙ quiet, inl (feeds_closes replies g s served next h t h2 t2 old middle count piece out a unclosed responds.0));
}

risen : (before between later : ℕ) (rest : List ℕ) → between ≡ before → LastSaid rest between later → LastSaid rest before later
risen before between later rest quiet = subst (λ (n : ℕ). LastSaid rest n later) quiet

pub responds_fails : {G S : Type 0} (replies : G → S → List ℕ → Result Replied Halt → G → S → Type 0) (g : G) (s : S) (served next : Serving) (h : G) (t : S) (h2 : G) (t2 : S) (old middle read new : Option Traffic) (before between later count : ℕ) (piece out : List ℕ) (why : ConnectionEnd)
    → AllHeard replies g s served h t old middle count → served.closed ≡ false → read ≡ option_map (exchanged piece [] false) middle → between ≡ before → count + length piece ≤ most_heard
    → Responds replies served.feed next.feed (talk served h t []) (talk next h2 t2 out) piece read new between later (Err why)
    → Hears replies g s h2 t2 next.count old new before later why
responds_fails replies g s served next h t h2 t2 old middle read new before between later count piece out end.Closed a unclosed reads quiet most responds = absurd responds
responds_fails replies g s served next h t h2 t2 old middle read new before between later count piece out end.Ended a unclosed reads quiet most responds = absurd responds
responds_fails replies g s served next h t h2 t2 old middle read new before between later count piece out end.Wire a unclosed reads quiet most responds = record {
  heard = a.bytes ++ piece;
  said = a.said ++ responds.2.said;
  rest = responds.2.rest;
  whole = a.said ++ out;
  cut = joined a.said out responds.2.said responds.2.rest responds.2.cut;
  closed = next.closed;
  told = told_said old read new (a.bytes ++ piece) a.said responds.2.said (told_read old middle read a.bytes a.said piece false a.told reads) responds.2.told;
  most = most_joined a.bytes piece count a.count_is most;
  ends = (subst (λ (n : ℕ). Rose n later) quiet responds.3, either_way replies g s served next h t h2 t2 old middle count piece out responds.0 a unclosed responds.1);
}
responds_fails replies g s served next h t h2 t2 old middle read new before between later count piece out end.Site a unclosed reads quiet most responds = record {
  heard = a.bytes ++ piece;
  said = a.said ++ responds.1.said;
  rest = responds.1.rest;
  whole = a.said ++ out;
  cut = joined a.said out responds.1.said responds.1.rest responds.1.cut;
  closed = next.closed;
  told = told_said old read new (a.bytes ++ piece) a.said responds.1.said (told_read old middle read a.bytes a.said piece false a.told reads) responds.1.told;
  most = most_joined a.bytes piece count a.count_is most;
  ends = (risen before between later responds.1.rest quiet responds.1.whole, feeds_stops replies g s served next h t h2 t2 old middle count piece out _ a unclosed responds.0);
}
responds_fails replies g s served next h t h2 t2 old middle read new before between later count piece out end.Memory a unclosed reads quiet most responds = record {
  heard = a.bytes ++ piece;
  said = a.said ++ responds.1.said;
  rest = responds.1.rest;
  whole = a.said ++ out;
  cut = joined a.said out responds.1.said responds.1.rest responds.1.cut;
  closed = next.closed;
  told = told_said old read new (a.bytes ++ piece) a.said responds.1.said (told_read old middle read a.bytes a.said piece false a.told reads) responds.1.told;
  most = most_joined a.bytes piece count a.count_is most;
  ends = inl (risen before between later responds.1.rest quiet responds.1.whole, feeds_stops replies g s served next h t h2 t2 old middle count piece out _ a unclosed responds.0);
}
