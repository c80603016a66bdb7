-- A drive over an open connection, text by text.
use Rattle.std.proofs.Common.{◌≡◌, ℕ, ◌+◌, ◌<◌, inl, inr, Bool, false, List, [], ◌∷◌, ◌++◌, length, refl, ap, sym, subst, ◌∙◌, append_assoc, Option, Some, arith}
use Rattle.std.specs.Prelude.{◌==◌, filter, option_map, Ok, Err}
use Rattle.std.proofs.lemmas.List.{append-nil, length-append}
use Rattle.std.proofs.lemmas.List.Elements.{filter-append}
use Rattle.satp_base.specs.Wires.{Traffic, exchanged}
use Rattle.satp_base.specs.declared.session.SessionId.{SessionId}
use Rattle.satp_http.specs.Feeds.{AnswerFeed, no_answers}
use Rattle.satp_http.specs.Runs.{AnswerTaken, Call, came}
use Rattle.satp_http.specs.Written.{request_text}
use Rattle.satp_http.specs.declared.responses.Answered.{Answered}
use Rattle.satp_post.specs.Posting as posting
use Rattle.satp_post.specs.Posting.{Exchanged, hearing}
use Rattle.satp_post.specs.declared.fault.PostFault.{PostFault}
use Rattle.satp_post.proofs.Hearings.{hearings_go_on}
use Rattle.satp_wires.proofs.Traffic.{exchanged_nothing, exchanged_twice}
use Rattle.satp_sides.specs.Points.{Text}
use Rattle.satp_drive.specs.Calling.{Standing}
use Rattle.satp_drive.specs.Conversing.{Converses, Exchanges, Hearings, requests, unanswered}
use Rattle.satp_drive.specs.Drives.{AfterAnswer, AfterAnswers, most_posts, texts_in}
use Rattle.satp_drive.specs.declared.driven.DriveEnd.{DriveEnd}
use Rattle.satp_drive.specs.declared.driven.DriveEnd.TheVariants as end
use Rattle.satp_drive.specs.declared.driven.Driven.{Driven}
use Rattle.satp_drive.specs.declared.turn.Turn.{Turn}
use Rattle.satp_drive.specs.declared.turn.Turn.TheVariants.{Posts, Ends}

-- ---- one text more

leads_on : (s : SessionId) (b now after : Standing) (first turn : Turn) (answers : List Answered) (posted : List Text) (t : Text) (owed : Bool) (answer : Answered)
    → AfterAnswers s b first answers posted now (Posts t owed) → AfterAnswer s owed now answer after turn
    → AfterAnswers s b first (answers ++ answer ∷ []) (posted ++ t ∷ []) after turn
leads_on s b now after first turn [] posted t owed answer leads follows =
    subst (λ (f : Turn). AfterAnswers s b f (answer ∷ []) (posted ++ t ∷ []) after turn) (leads.2)
    (after, turn, [], subst (λ (x : Standing). AfterAnswer s owed x answer after turn) (leads.1) follows, ap (λ (l : List Text). l ++ t ∷ []) (leads.0), (refl, refl, refl))
leads_on s b now after (Ends e) turn (x ∷ xs) posted t owed answer leads follows = absurd leads
leads_on s b now after (Posts u still) turn (x ∷ xs) posted t owed answer leads follows =
    (leads.0, leads.1, leads.2 ++ t ∷ [], leads.3, ap (λ (l : List Text). l ++ t ∷ []) (leads.4), leads_on s (leads.0) now after (leads.1) turn xs (leads.2) t owed answer (leads.5) follows)

hearings_on : (calls : List (Call AnswerTaken)) (answers : List Answered) (pieces : List (List ℕ)) (answer : Answered)
    → Hearings calls answers → Hearings (calls ++ hearing pieces (Ok (Some answer))) (answers ++ answer ∷ [])
hearings_on calls [] pieces answer is =
    let more = hearing pieces (Ok (Some answer)) in
    (pieces, [], ap (λ (l : List (Call AnswerTaken)). l ++ more) is ∙ sym (append-nil more), refl)
hearings_on calls (x ∷ xs) pieces answer is =
    let more = hearing pieces (Ok (Some answer)) in
    (is.0, is.1 ++ more, ap (λ (l : List (Call AnswerTaken)). l ++ more) (is.2) ∙ append_assoc (hearing (is.0) (Ok (Some x))) (is.1) more, hearings_on (is.1) xs pieces answer (is.3))

requests_on : (at : List ℕ) (posted : List Text) (t : Text) → requests at (posted ++ t ∷ []) ≡ requests at posted ++ request_text at t
requests_on at [] t = append-nil (request_text at t)
requests_on at (u ∷ posted) t =
    ap (λ (l : List ℕ). request_text at u ++ l) (requests_on at posted t) ∙ sym (append_assoc (request_text at u) (requests at posted) (request_text at t))

texts_on : (answers : List Answered) (answer : Answered) → texts_in (answers ++ answer ∷ []) ≡ texts_in answers + texts_in (answer ∷ [])
texts_on answers answer = ap length (filter-append brings_text answers (answer ∷ [])) ∙ length-append (filter brings_text answers) (filter brings_text (answer ∷ []))
  where
    brings_text : Answered → Bool
    brings_text a = a.code == 200

exchanges_on : (at : List ℕ) (posted : List Text) (answers : List Answered) (feed new : AnswerFeed) (told between telling : Option Traffic) (t : Text) (answer : Answered)
    → Exchanges at posted answers feed told between → Exchanged (request_text at t) feed new between telling (Ok (Some answer)) false
    → Exchanges at (posted ++ t ∷ []) (answers ++ answer ∷ []) new told telling
exchanges_on at posted answers feed new told between telling t answer before more =
    let goes = hearings_go_on before.calls more.pieces (Ok (Some answer)) feed new before.runs more.runs in
    let heard = hearing more.pieces (Ok (Some answer)) in
    record {
      calls = before.calls ++ heard;
      hearings = hearings_on before.calls answers more.pieces answer before.hearings;
      runs = goes.runs;
      told_is = more.told_is ∙ ap (option_map (exchanged (came heard) (request_text at t) false)) before.told_is
          ∙ exchanged_twice (came before.calls) (came heard) (requests at posted) (request_text at t) false false told
          ∙ ap (λ (l : List ℕ). option_map (exchanged l (requests at posted ++ request_text at t) false) told) (sym goes.heard_is)
          ∙ ap (λ (l : List ℕ). option_map (exchanged (came (before.calls ++ heard)) l false) told) (sym (requests_on at posted t));
    }

-- ---- on the way

-- the texts so far have their answers, and this one is to be posted
pub record Going (at : List ℕ) (s : SessionId) (first : Turn) (b now : Standing) (t : Text) (owed : Bool) (posts messages : ℕ) (feed : AnswerFeed) (told telling : Option Traffic) : Type 0 where
  pub answers : List Answered
  pub posted : List Text
  pub leads : AfterAnswers s b first answers posted now (Posts t owed)
  pub exchanges : Exchanges at posted answers feed told telling
  pub posts_are : length posted ≡ posts
  pub messages_are : messages ≡ posts + texts_in answers

pub going_first : (at : List ℕ) (s : SessionId) (b : Standing) (t : Text) (owed : Bool) (told : Option Traffic) → Going at s (Posts t owed) b b t owed 0 0 no_answers told told
going_first at s b t owed told = record {
  answers = [];
  posted = [];
  leads = (refl, refl, refl);
  exchanges = record { calls = []; hearings = refl; runs = refl; told_is = exchanged_nothing told };
  posts_are = refl;
  messages_are = refl;
}

pub going_on : (at : List ℕ) (s : SessionId) (first : Turn) (b now after : Standing) (t u : Text) (owed still : Bool) (posts messages : ℕ) (feed new : AnswerFeed) (told between telling : Option Traffic) (answer : Answered)
    → Going at s first b now t owed posts messages feed told between → Exchanged (request_text at t) feed new between telling (Ok (Some answer)) false
    → AfterAnswer s owed now answer after (Posts u still)
    → Going at s first b after u still (posts + 1) (messages + (1 + texts_in (answer ∷ []))) new told telling
going_on at s first b now after t u owed still posts messages feed new told between telling answer going more follows = record {
  answers = going.answers ++ answer ∷ [];
  posted = going.posted ++ t ∷ [];
  leads = leads_on s b now after first (Posts u still) going.answers going.posted t owed answer going.leads follows;
  exchanges = exchanges_on at going.posted going.answers feed new told between telling t answer going.exchanges more;
  posts_are = omega (arith, length-append going.posted (t ∷ []), going.posts_are);
  messages_are = omega (arith, texts_on going.answers answer, going.messages_are);
}

-- ---- ends

pub ends_answered : (at : List ℕ) (s : SessionId) (first : Turn) (b now last : Standing) (t : Text) (owed : Bool) (e : DriveEnd) (posts messages : ℕ) (feed new : AnswerFeed) (told between telling : Option Traffic) (answer : Answered) (before after : ℕ)
    → Going at s first b now t owed posts messages feed told between → Exchanged (request_text at t) feed new between telling (Ok (Some answer)) false
    → AfterAnswer s owed now answer last (Ends e) → posts < most_posts → after ≡ before
    → Converses at s first b last told telling before after (record { end = e; messages = messages + (1 + texts_in (answer ∷ [])) })
ends_answered at s first b now last t owed e posts messages feed new told between telling answer before after going more follows within kept = record {
  answers = going.answers ++ answer ∷ [];
  posted = going.posted ++ t ∷ [];
  next = Ends e;
  leads = leads_on s b now last first (Ends e) going.answers going.posted t owed answer going.leads follows;
  feed = new;
  between = telling;
  exchanges = exchanges_on at going.posted going.answers feed new told between telling t answer going.exchanges more;
  ends = (
    omega (arith, length-append going.posted (t ∷ []), going.posts_are, within),
    (ap (λ (n : ℕ). record { end = e; messages = n }) counted, refl, kept),
  );
}
  where
    counted : messages + (1 + texts_in (answer ∷ [])) ≡ length (going.posted ++ t ∷ []) + texts_in (going.answers ++ answer ∷ [])
    counted = omega (arith, length-append going.posted (t ∷ []), going.posts_are, texts_on going.answers answer, going.messages_are)

pub ends_unanswered : (at : List ℕ) (s : SessionId) (first : Turn) (b now : Standing) (t : Text) (owed : Bool) (posts messages : ℕ) (feed new : AnswerFeed) (told between telling : Option Traffic) (fault : PostFault) (before after : ℕ)
    → Going at s first b now t owed posts messages feed told between → posts < most_posts → posting.Posts at t feed new between telling before after (Err fault)
    → Converses at s first b now told telling before after (unanswered fault messages)
ends_unanswered at s first b now t owed posts messages feed new told between telling fault before after going within posts_so = record {
  answers = going.answers;
  posted = going.posted;
  next = Posts t owed;
  leads = going.leads;
  feed = feed;
  between = between;
  exchanges = going.exchanges;
  ends = inr (
    subst (λ (n : ℕ). n < most_posts) (sym going.posts_are) within,
    record { fault = fault; left = new; posts = posts_so; driven_is = ap (unanswered fault) (going.messages_are ∙ ap (λ (n : ℕ). n + texts_in going.answers) (sym going.posts_are)) },
  );
}

pub ends_in_turns : (at : List ℕ) (s : SessionId) (first : Turn) (b now : Standing) (t : Text) (owed : Bool) (posts messages : ℕ) (feed : AnswerFeed) (told telling : Option Traffic) (before after : ℕ)
    → Going at s first b now t owed posts messages feed told telling → posts ≡ most_posts → after ≡ before
    → Converses at s first b now told telling before after (record { end = end.Turns; messages = messages })
ends_in_turns at s first b now t owed posts messages feed told telling before after going all kept = record {
  answers = going.answers;
  posted = going.posted;
  next = Posts t owed;
  leads = going.leads;
  feed = feed;
  between = telling;
  exchanges = going.exchanges;
  ends = inl (
    going.posts_are ∙ all,
    (ap (λ (n : ℕ). record { end = end.Turns; messages = n }) (going.messages_are ∙ ap (λ (n : ℕ). n + texts_in going.answers) (sym going.posts_are)), refl, kept),
  );
}

-- ---- by the calls

pub going_on_by : (at : List ℕ) (s : SessionId) (first : Turn) (b now after : Standing) (t bytes u : Text) (owed still : Bool) (posts messages count : ℕ) (feed new : AnswerFeed) (told between telling : Option Traffic) (answer : Answered) (before later : ℕ)
    → Going at s first b now t owed posts messages feed told between → bytes ≡ t → posting.Posts at bytes feed new between telling before later (Ok answer)
    → AfterAnswer s owed now answer after (Posts u still) → count ≡ 1 + texts_in (answer ∷ [])
    → Going at s first b after u still (posts + 1) (messages + count) new told telling
going_on_by at s first b now after t bytes u owed still posts messages count feed new told between telling answer before later going same posts_so follows count_is =
    let more = subst (λ (x : Text). Exchanged (request_text at x) feed new between telling (Ok (Some answer)) false) same (posts_so.1) in
    subst (λ (n : ℕ). Going at s first b after u still (posts + 1) (messages + n) new told telling) (sym count_is)
    (going_on at s first b now after t u owed still posts messages feed new told between telling answer going more follows)

pub ends_answered_by : (at : List ℕ) (s : SessionId) (first : Turn) (b now last : Standing) (t bytes : Text) (owed : Bool) (e : DriveEnd) (posts messages count : ℕ) (feed new : AnswerFeed) (told between telling : Option Traffic) (answer : Answered) (before kept after : ℕ)
    → Going at s first b now t owed posts messages feed told between → bytes ≡ t → posting.Posts at bytes feed new between telling kept after (Ok answer)
    → AfterAnswer s owed now answer last (Ends e) → count ≡ 1 + texts_in (answer ∷ []) → posts < most_posts → kept ≡ before
    → Converses at s first b last told telling before after (record { end = e; messages = messages + count })
ends_answered_by at s first b now last t bytes owed e posts messages count feed new told between telling answer before kept after going same posts_so follows count_is within stood =
    let more = subst (λ (x : Text). Exchanged (request_text at x) feed new between telling (Ok (Some answer)) false) same (posts_so.1) in
    subst (λ (n : ℕ). Converses at s first b last told telling before after (record { end = e; messages = messages + n })) (sym count_is)
    (ends_answered at s first b now last t owed e posts messages feed new told between telling answer before after going more follows within (posts_so.0 ∙ stood))

pub ends_unanswered_by : (at : List ℕ) (s : SessionId) (first : Turn) (b now : Standing) (t bytes : Text) (owed : Bool) (posts messages : ℕ) (feed new : AnswerFeed) (told between telling : Option Traffic) (fault : PostFault) (before kept after : ℕ) (driven : Driven)
    → Going at s first b now t owed posts messages feed told between → posts < most_posts → bytes ≡ t → posting.Posts at bytes feed new between telling kept after (Err fault)
    → kept ≡ before → driven ≡ unanswered fault messages
    → Converses at s first b now told telling before after driven
ends_unanswered_by at s first b now t bytes owed posts messages feed new told between telling fault before kept after driven going within same posts_so stood driven_is =
    subst (λ (d : Driven). Converses at s first b now told telling before after d) (sym driven_is)
    (ends_unanswered at s first b now t owed posts messages feed new told between telling fault before after going within
    (subst (λ (n : ℕ). posting.Posts at t feed new between telling n after (Err fault)) stood
    (subst (λ (x : Text). posting.Posts at x feed new between telling kept after (Err fault)) same posts_so)))
