-- The bytes of a drive and of the connection that serves it, text by text.
use Rattle.std.proofs.Common.{◌≡◌, ◌≤◌, inl, ℕ, false, List, [], ◌∷◌, ◌++◌, length, Option, Some, None, refl, sym, ap, subst, ◌∙◌, arith, append_assoc, append-nil, length-append, IsTrue}
use Rattle.std.specs.List.{flat_map}
use Rattle.std.proofs.lemmas.Bool.{cond-false}
use Rattle.std.proofs.lemmas.List.{append_cancel_left}
use Rattle.httparse.specs.Grammar.{LineEnd, crlf, lf, print_blank, print_end, print_field, status_code}
use Rattle.satp_base.proofs.TextSizes.{own-short}
use Rattle.satp_base.specs.Calls.{Told}
use Rattle.satp_base.specs.Names.{is_address}
use Rattle.satp_http.specs.Feeds.{RequestFeed}
use Rattle.satp_http.specs.Heads.{HasNone, HasOver, MayBecome, Head, client, head_bytes, header_lines, server}
use Rattle.satp_http.specs.HttpText.{AreSent, Ends, HttpAnswers, IsUnfinished, Sent, answers_of, interim_behind, sent_bytes}
use Rattle.satp_http.specs.Runs.{Call as HttpCall, RequestRun, RequestTaken, came}
use Rattle.satp_http.specs.Table.{interim_after, is_interim}
use Rattle.satp_http.specs.Written.{is_answer_code, request_text, response_text}
use Rattle.satp_http.specs.declared.fault.HttpFault.{HttpFault}
use Rattle.satp_http.specs.declared.responses.Answered.{Answered}
use Rattle.satp_http.proofs.HeadParts.{blank_of, head_is, last_of, start_of}
use Rattle.satp_http.proofs.ReadingLemmas.{one_reading_of_answers}
use Rattle.satp_http.proofs.TakeLemmas.{some_bytes}
use Rattle.satp_http.proofs.WrittenLemmas.{written_answer_is_read}
use Rattle.satp_log.specs.Journals.{party_of}
use Rattle.satp_points.specs.States.{IsAt}
use Rattle.satp_records.specs.declared.stored.Setup.{Setup}
use Rattle.satp_sides.specs.Points.{Side, Text}
use Rattle.satp_world.specs.Worlds.{Gateway, Setting, World, opposite, party_at}
use Rattle.satp_rounds.specs.Conversations.{Hands}
use Rattle.satp_rounds.specs.Conversations.Hands.{Heard}
use Rattle.satp_serve.specs.Exchange.{Talks}
use Rattle.satp_serve.specs.GatewayReplies.{GatewayReplies}
use Rattle.satp_drive_laws.specs.Peer.{IsAnswer}
use Rattle.satp_drive_laws.proofs.Walking.{NeverLacks, Takes}
use Rattle.satp_wire_laws.proofs.Answering.{says-by}
use Rattle.satp_wire_laws.proofs.Fronts.{answer-front, body_of, code_of, same-front}
use Rattle.satp_wire_laws.proofs.Serving.{GatewayTalk, advance, empty-front, empty-left, open-before, says-more, says-nothing}
use Rattle.satp_wire_laws.proofs.WrittenHeads.{parts_204, said_204}

-- ---- no bytes

end-some : (e : LineEnd) → 1 ≤ length (print_end e)
end-some crlf = omega arith
end-some lf = omega arith

-- a head has two bytes at least
two-bytes : (head : Head server) → 2 ≤ length (head_bytes server head)
two-bytes head =
    let last = print_end (last_of server head) ++ [] in
    let rest = flat_map print_field (header_lines server head) ++ last in
    omega (
      arith,
      ap length (sym (append-nil (head_bytes server head)) ∙ head_is server head []),
      length-append (print_blank (blank_of server head)) (start_of server head ++ 10 ∷ rest),
      length-append (start_of server head) (10 ∷ rest),
      length-append (flat_map print_field (header_lines server head)) last,
      length-append (print_end (last_of server head)) [],
      end-some (last_of server head),
    )

none-yet : HasNone server []
none-yet head rest reads = empty-front (head_bytes server head) rest (let some = some_bytes server head in omega (arith, some)) (sym reads.1)

not-over : HasOver server 64 [] → ⊥
not-over (front, rest, cut, head, reads, many) =
    let none : front ≡ [] = empty-left front rest (sym cut) in
    let one : length (head_bytes server head) ≡ 1 = ap length (sym (append-nil (head_bytes server head)) ∙ sym reads.1 ∙ ap (λ (l : List ℕ). l ++ 10 ∷ []) none) in
    let two = two-bytes head in
    omega (arith, one, two)

may-become : MayBecome server []
may-become = inl (head_bytes server said_204, said_204, (parts_204, sym (append-nil (head_bytes server said_204))))

no-bytes : HttpAnswers [] None []
no-bytes = ([], refl, record { each = tt; rest = []; bytes_are = refl; ends = inl (record { short = omega arith; none = none-yet; few = not-over; begun = may-become }) })

-- ---- one answer

plain-code : (reply : Option Text) → is_interim (code_of reply) ≡ false
plain-code (Some u) = refl
plain-code None = refl

known-code : (reply : Option Text) → IsTrue (is_answer_code (code_of reply))
known-code (Some u) = refl
known-code None = refl

empty-204 : (reply : Option Text) → code_of reply ≡ 204 → body_of reply ≡ []
empty-204 (Some u) e = absurd (let bad : 200 ≡ 204 = e in omega (arith, bad))
empty-204 None e = refl

body-short : (reply : Option Text) → ((u : Text) → reply ≡ Some u → length u ≤ 8192) → length (body_of reply) ≤ 8192
body-short (Some u) short = short u refl
body-short None short = omega arith

is-answer : (reply : Option Text) (answer : Answered) → answer.code ≡ code_of reply → answer.body ≡ body_of reply → IsAnswer reply answer
is-answer (Some u) answer code body = (code, body)
is-answer None answer code body = code

head-same : (x y : Answered) (xs ys : List Answered) → x ∷ xs ≡ y ∷ ys → x ≡ y
head-same x y xs ys e = cc e

tail-same : (x y : Answered) (xs ys : List Answered) → x ∷ xs ≡ y ∷ ys → xs ≡ ys
tail-same x y xs ys e = cc e

-- an answer alone is no end of bytes
not-the-end : (reply : Option Text) → ((u : Text) → reply ≡ Some u → length u ≤ 8192) → (end : Option HttpFault) (rest : List ℕ) → rest ≡ response_text (code_of reply) (body_of reply) false → Ends server 0 rest end → ⊥
not-the-end reply short end rest is ends =
    let bytes = response_text (code_of reply) (body_of reply) false ++ [] in
    let one = written_answer_is_read (code_of reply) (body_of reply) [] false [] None (known-code reply) (empty-204 reply) (body-short reply short) no-bytes in
    let none : HttpAnswers [] end bytes = ([], refl, record { each = tt; rest = rest; bytes_are = append-nil (response_text (code_of reply) (body_of reply) false) ∙ sym is; ends = ends }) in
    let same = (one_reading_of_answers [] (record { code = code_of reply; body = body_of reply } ∷ []) end None bytes none one).0 in
    cc same

-- ---- how the drive's last text fared

-- it has its answer; or it has none, and the bytes that were heard end so
pub data Mode : Type 0 where
  Whole : Mode
  Lacking : Text → Option HttpFault → Mode

abbrev pub tail_of : Mode → List Text
tail_of Whole = []
tail_of (Lacking t end) = t ∷ []

abbrev pub Ended : Mode → List (Sent server) → List ℕ → Type 0
Ended Whole sent rest = Unit {0}
Ended (Lacking t end) sent rest = Ends server (interim_behind server 0 sent) rest end

abbrev pub Lacks : Mode → Text → Type 0
Lacks mode t = (end : Option HttpFault) × (mode ≡ Lacking t end)

-- ---- the first answer of what was heard

record First (reply : Option Text) (answer : Answered) (answers : List Answered) (mode : Mode) (rest more : List ℕ) : Type 0 where
  is : IsAnswer reply answer
  sent : List (Sent server)
  each : AreSent server 0 sent
  heard : flat_map (sent_bytes server) sent ++ rest ≡ more
  answers_are : answers ≡ answers_of sent
  ended : Ended mode sent rest

ended-later : (mode : Mode) (d : Sent server) (ds : List (Sent server)) (rest : List ℕ) → interim_after server 0 d.head ≡ 0 → Ended mode (d ∷ ds) rest → Ended mode ds rest
ended-later Whole d ds rest e ends = tt
ended-later (Lacking t end) d ds rest e ends = subst (λ (n : ℕ). Ends server (interim_behind server n ds) rest end) e ends

module _ (reply : Option Text) (short : (u : Text) → reply ≡ Some u → length u ≤ 8192) (mode : Mode) (rest more : List ℕ) where
  module _ (d : Sent server) (ds : List (Sent server)) (each : AreSent server 0 (d ∷ ds)) (heard : flat_map (sent_bytes server) (d ∷ ds) ++ rest ≡ response_text (code_of reply) (body_of reply) false ++ more) where
    -- it is the one that was said
    record Final : Type 0 where
      code : status_code d.head ≡ code_of reply
      body : d.body ≡ body_of reply
      left : flat_map (sent_bytes server) ds ++ rest ≡ more
      after : interim_after server 0 d.head ≡ 0
      answers : answers_of (d ∷ ds) ≡ record { code = status_code d.head; body = d.body } ∷ answers_of ds

    final : Final
    final =
        let front = answer-front reply short in
        let same = same-front server 0 front.head front.body more d (flat_map (sent_bytes server) ds ++ rest) front.front each.0
        (sym (append_assoc (sent_bytes server d) (flat_map (sent_bytes server) ds) rest) ∙ heard ∙ ap (λ (l : List ℕ). l ++ more) front.text) in
        let code : status_code d.head ≡ code_of reply = ap status_code same.head_is ∙ front.code in
        let plain : is_interim (status_code d.head) ≡ false = ap is_interim code ∙ plain-code reply in
        record {
          code = code;
          body = same.body_is ∙ front.body_is;
          left = same.rest_is;
          after = cond-false (is_interim (status_code d.head)) 1 0 plain;
          answers = ap (λ (l : List Answered). l ++ answers_of ds) (cond-false (is_interim (status_code d.head)) [] (record { code = status_code d.head; body = d.body } ∷ []) plain);
        }

  first-answer : (sent : List (Sent server)) (answer : Answered) (answers : List Answered) → AreSent server 0 sent → flat_map (sent_bytes server) sent ++ rest ≡ response_text (code_of reply) (body_of reply) false ++ more
      → answer ∷ answers ≡ answers_of sent → Ended mode sent rest → First reply answer answers mode rest more
  first-answer [] answer answers each heard all ended = absurd (cc all)
  first-answer (d ∷ ds) answer answers each heard all ended =
      let f = final d ds each heard in
      let same = all ∙ f.answers in
      let is = head-same answer (record { code = status_code d.head; body = d.body }) answers (answers_of ds) same in
      record {
        is = is-answer reply answer (ap (λ (x : Answered). x.code) is ∙ f.code) (ap (λ (x : Answered). x.body) is ∙ f.body);
        sent = ds;
        each = subst (λ (n : ℕ). AreSent server n ds) f.after each.1;
        heard = f.left;
        answers_are = tail-same answer (record { code = status_code d.head; body = d.body }) answers (answers_of ds) same;
        ended = ended-later mode d ds rest f.after ended;
      }

text-short : (st : Setting) (w : World) (h : Gateway) (t : Text) (reply : Option Text) (v : World) → Hands st w h t reply v → length t ≤ 8192
text-short st w h t _ _ (Heard m e reply heard is) = let few = own-short st.key m heard.0.0 in let same = ap length heard.0.1 in omega (arith, few, same)

-- ---- both ends, text by text

module _ (st : Setting) (g : Gateway) (at : List ℕ) (good : IsTrue (is_address at)) (setup : Setup) (party : party_of setup ≡ party_at st (opposite g)) (last : RequestFeed) (u : GatewayTalk)
    (still : u.closed ≡ false) (unfinished : IsUnfinished client 0 last.held) (rest : List ℕ) (mode : Mode) where
  -- the other gateway stands so, and what is still to be asked are the rest of the texts, and what is still to be said are the rest of the answers
  pub record Meets (side : Side) (posted : List Text) (answers : List Answered) : Type 0 where
    pub feed : RequestFeed
    pub calls : List (HttpCall RequestTaken)
    pub talk : GatewayTalk
    pub runs : RequestRun feed calls last
    pub talks : Talks GatewayReplies talk calls u
    pub told : Told
    pub stands : IsAt talk.responder talk.site.tells setup side told
    pub asked : feed.held ++ came calls ≡ flat_map (request_text at) (posted ++ tail_of mode)
    pub sent : List (Sent server)
    pub each : AreSent server 0 sent
    pub heard : u.said ≡ talk.said ++ (flat_map (sent_bytes server) sent ++ rest)
    pub answers_are : answers ≡ answers_of sent
    pub ended : Ended mode sent rest

  pub meets-take : Takes st g Meets
  meets-take w v t reply posted answer answers hands short m =
      let later = flat_map (request_text at) (posted ++ tail_of mode) in
      let few = text-short st w (opposite g) t reply v hands in
      let next = advance at t later good few last u still unfinished m.calls m.feed m.talk m.runs m.talks m.asked in
      let unclosed = open-before next.calls next.talk u next.talks still in
      let said = says-by st w (opposite g) setup party t m.talk next.talk unclosed m.told m.stands reply v hands next.says in
      let more = says-more next.calls next.talk u next.talks in
      let resp = response_text (code_of reply) (body_of reply) false in
      let bytes : flat_map (sent_bytes server) m.sent ++ rest ≡ resp ++ more.more =
      append_cancel_left m.talk.said (flat_map (sent_bytes server) m.sent ++ rest) (resp ++ more.more) (sym m.heard ∙ more.said ∙ ap (λ (l : List ℕ). l ++ more.more) said.said ∙ append_assoc m.talk.said resp more.more) in
      let one = first-answer reply short mode rest more.more m.sent answer answers m.each bytes m.answers_are m.ended in (
        one.is,
        record {
          feed = next.feed;
          calls = next.calls;
          talk = next.talk;
          runs = next.runs;
          talks = next.talks;
          told = said.told;
          stands = said.at;
          asked = next.left;
          sent = one.sent;
          each = one.each;
          heard = more.said ∙ ap (λ (l : List ℕ). next.talk.said ++ l) (sym one.heard);
          answers_are = one.answers_are;
          ended = one.ended;
        },
      )

  -- no answer of a text that was posted is lacking
  pub never-lack : NeverLacks st g Meets (Lacks mode)
  never-lack w v t reply hands short m (end, is) =
      let few = text-short st w (opposite g) t reply v hands in
      let asked : m.feed.held ++ came m.calls ≡ request_text at t ++ [] = m.asked ∙ ap (λ (x : Mode). flat_map (request_text at) (tail_of x)) is in
      let next = advance at t [] good few last u still unfinished m.calls m.feed m.talk m.runs m.talks asked in
      let unclosed = open-before next.calls next.talk u next.talks still in
      let said = says-by st w (opposite g) setup party t m.talk next.talk unclosed m.told m.stands reply v hands next.says in
      let nothing = says-nothing next.calls next.feed last next.talk u still next.runs next.talks next.left in
      let resp = response_text (code_of reply) (body_of reply) false in
      let bytes : flat_map (sent_bytes server) m.sent ++ rest ≡ resp =
      append_cancel_left m.talk.said (flat_map (sent_bytes server) m.sent ++ rest) resp (sym m.heard ∙ ap (λ (x : GatewayTalk). x.said) nothing ∙ said.said) in
      by-sent m.sent m.each bytes m.answers_are (subst (λ (x : Mode). Ended x m.sent rest) is m.ended)
    where
      by-sent : (sent : List (Sent server)) → AreSent server 0 sent → flat_map (sent_bytes server) sent ++ rest ≡ response_text (code_of reply) (body_of reply) false → [] ≡ answers_of sent → Ended (Lacking t end) sent rest → ⊥
      by-sent [] each bytes none ends = not-the-end reply short end rest bytes ends
      by-sent (d ∷ ds) each bytes none ends =
          let f = final reply short mode rest [] d ds each (bytes ∙ sym (append-nil (response_text (code_of reply) (body_of reply) false))) in
          let bad : [] ≡ record { code = status_code d.head; body = d.body } ∷ answers_of ds = none ∙ f.answers in
          cc bad
