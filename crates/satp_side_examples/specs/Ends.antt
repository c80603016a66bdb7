-- What is answered to a start, to a call for due work, and to an abort.
use Rattle.std.specs.Prelude.{◌≡◌, ℕ, List, [], ◌∷◌, ◌++◌, take, Some, None, Ok}
use Rattle.satp_base.specs.Chains.{next_text, zero_link}
use Rattle.satp_base.specs.Money.{Book}
use Rattle.satp_base.specs.declared.ledger.Answer.TheVariants as answer
use Rattle.satp_base.specs.declared.ledger.LedgerOp.TheVariants.{Release}
use Rattle.satp_base.specs.declared.message.Kind.TheVariants.{ProposalReceipt, TransferComplete, Reject, Rollback, RollbackAck}
use Rattle.satp_base.specs.declared.message.Part.TheVariants as part
use Rattle.satp_base.specs.declared.message.Part.TheVariants.{Plain, Proposal}
use Rattle.satp_base.specs.declared.message.Reason.TheVariants as reason
use Rattle.satp_base.specs.declared.message.Role.TheVariants.{Origin, Recipient}
use Rattle.satp_base.specs.declared.message.Terms.{Terms}
use Rattle.satp_base.specs.declared.record.Cause.TheVariants.{Aborted}
use Rattle.satp_base.specs.declared.record.Rec.TheVariants.{Began, Made, Took, Did, Chose}
use Rattle.satp_base.specs.declared.record.Way.TheVariants.{Back}
use Rattle.satp_base.specs.declared.session.SessionId.{SessionId}
use Rattle.satp_sides.specs.Calls.{Run, Aborts, Starts, Works, Exists, Full, Strange, TooLate, refused, replied, run_of}
use Rattle.satp_sides.specs.Points.{Appends, Acts, Says, Slot, Stored, Text, begun, slot_in, stored}
use Rattle.satp_side_examples.specs.Answers.{beta_hears, receipt}
use Rattle.satp_side_examples.specs.Samples.{alpha_1, alpha_9, alpha_records, at_alpha, at_beta, beta, beta_records, chain_message, note, side}
use Rattle.satp_side_examples.specs.Work.{Answers, made_after}

abbrev starts : List ℕ → List Stored → Book → SessionId → Terms → Run
starts key records book s terms = run_of (at_alpha key) (side records book) (Starts s terms)

abbrev proposal : List ℕ → SessionId → Terms → Text
proposal key s terms = next_text s beta key [] (Proposal terms)

pub record Beginnings : Type 0 where
  pub first :
      (key : List ℕ) (book : Book) (s : SessionId) (terms : Terms)
      → starts key [] book s terms
      ≡ record { answer = Some (Ok (Some (proposal key s terms))); moves = Appends (stored s (Began Origin terms) (proposal key s terms)) ∷ Says (proposal key s terms) ∷ [] }
  pub beside_another :
      (key : List ℕ) (book : Book) (terms other : Terms) (text : ℕ → Text)
      → starts key (alpha_records terms text) book alpha_9 other
      ≡ record { answer = Some (Ok (Some (proposal key alpha_9 other))); moves = Appends (stored alpha_9 (Began Origin other) (proposal key alpha_9 other)) ∷ Says (proposal key alpha_9 other) ∷ [] }
  -- a number that was used, under whatever terms
  pub again : (key : List ℕ) (book : Book) (terms other : Terms) (text : ℕ → Text) → starts key (alpha_records terms text) book alpha_1 other ≡ refused Exists
  -- the last of 2,048 sessions, and one more
  pub the_last :
      (key : List ℕ) (records : List Stored) (book : Book) (s : SessionId) (terms : Terms) → begun Origin records ≡ 2047 → slot_in s records ≡ None
      → starts key records book s terms
      ≡ record { answer = Some (Ok (Some (proposal key s terms))); moves = Appends (stored s (Began Origin terms) (proposal key s terms)) ∷ Says (proposal key s terms) ∷ [] }
  pub one_more :
      (key : List ℕ) (records : List Stored) (book : Book) (s : SessionId) (terms : Terms) → begun Origin records ≡ 2048 → slot_in s records ≡ None
      → starts key records book s terms ≡ refused (Full 2048)
  -- that its number was used is tested first
  pub used_first :
      (key : List ℕ) (records : List Stored) (book : Book) (s : SessionId) (terms : Terms) (l : Slot) → begun Origin records ≡ 2048 → slot_in s records ≡ Some l
      → starts key records book s terms ≡ refused Exists
  -- the same of sessions that the peer begins
  pub the_last_accepted :
      (key : List ℕ) (records : List Stored) (book : Book) (terms : Terms) (t : Text) → begun Recipient records ≡ 2047 → slot_in alpha_1 records ≡ None
      → beta_hears key records book (chain_message 1 zero_link (Proposal terms)) t
      ≡ record {
        answer = Some (Ok (Some (receipt key t)));
        moves = Appends (stored alpha_1 (Began Recipient terms) t) ∷ Appends (stored alpha_1 (Made ProposalReceipt) (receipt key t)) ∷ Says (receipt key t) ∷ [];
      }
  pub one_more_accepted :
      (key : List ℕ) (records : List Stored) (book : Book) (terms : Terms) (t : Text) → begun Recipient records ≡ 2048 → slot_in alpha_1 records ≡ None
      → beta_hears key records book (chain_message 1 zero_link (Proposal terms)) t ≡ refused (Full 2048)

abbrev works : List ℕ → List Stored → Book → Run
works key records book = run_of (at_alpha key) (side records book) (Works alpha_1)

pub record WorkAsked : Type 0 where
  pub waits : (key : List ℕ) (book : Book) (terms : Terms) (text : ℕ → Text) → works key (take 8 (alpha_records terms text)) book ≡ replied (Some (text 7))
  pub whole : (key : List ℕ) (book : Book) (terms : Terms) (text : ℕ → Text) → works key (alpha_records terms text) book ≡ replied None
  -- a chain that the work makes whole: the message that does isn't said
  pub made_whole :
      (key : List ℕ) (book : Book) (terms : Terms) (text : ℕ → Text)
      → works key (take 13 (alpha_records terms text)) book
      ≡ record { answer = Some (Ok None); moves = Appends (stored alpha_1 (Made TransferComplete) (made_after key text 10 (Plain TransferComplete))) ∷ [] }
  pub unnamed : (key : List ℕ) (book : Book) → works key [] book ≡ refused (Strange alpha_1)

abbrev alpha_aborts : List ℕ → List Stored → Book → SessionId → Run
alpha_aborts key records book s = run_of (at_alpha key) (side records book) (Aborts s)

abbrev beta_aborts : List ℕ → List Stored → Book → SessionId → Run
beta_aborts key records book s = run_of (at_beta key) (side records book) (Aborts s)

abbrev nothing : Run
nothing = record { answer = Some (Ok None); moves = [] }

pub record AbortsAsked : Type 0 where
  -- the origin's, where its peer is ready and it doesn't know
  pub at_the_origin :
      (key : List ℕ) (book : Book) (terms : Terms) (text : ℕ → Text) → Answers book Release terms answer.Done
      → alpha_aborts key (take 8 (alpha_records terms text)) book alpha_1
      ≡ record { answer = Some (Ok None); moves = Appends (note (Chose (Back Aborted))) ∷ Acts alpha_1 Release terms ∷ Appends (note (Did Release)) ∷ [] }
  -- it doesn't end with the decision alone
  pub not_the_decision_alone :
      (key : List ℕ) (book : Book) (terms : Terms) (text : ℕ → Text) → Answers book Release terms answer.Done
      → ¬ alpha_aborts key (take 8 (alpha_records terms text)) book alpha_1 ≡ record { answer = Some (Ok None); moves = Appends (note (Chose (Back Aborted))) ∷ [] }
  pub twice :
      (key : List ℕ) (book : Book) (terms : Terms) (text : ℕ → Text)
      → alpha_aborts key (take 8 (alpha_records terms text) ++ note (Chose (Back Aborted)) ∷ note (Did Release) ∷ []) book alpha_1 ≡ nothing
  pub after_a_commit : (key : List ℕ) (book : Book) (terms : Terms) (text : ℕ → Text) → alpha_aborts key (take 10 (alpha_records terms text)) book alpha_1 ≡ refused (TooLate 9)
  pub after_the_end : (key : List ℕ) (book : Book) (terms : Terms) (text : ℕ → Text) → alpha_aborts key (alpha_records terms text) book alpha_1 ≡ refused (TooLate 9)
  -- the recipient's, up to its readiness
  pub at_the_recipient :
      (key : List ℕ) (book : Book) (terms : Terms) (text : ℕ → Text) → Answers book Release terms answer.Done
      → beta_aborts key (take 8 (beta_records terms text)) book alpha_1
      ≡ record {
        answer = Some (Ok None);
        moves =
            Appends (note (Chose (Back Aborted))) ∷ Acts alpha_1 Release terms ∷ Appends (note (Did Release))
            ∷ Appends (stored alpha_1 (Made Reject) (made_after key text 7 (part.Reject reason.Aborted))) ∷ [];
      }
  -- where it waits, the reject is made once a message comes
  pub while_it_waits :
      (key : List ℕ) (book : Book) (terms : Terms) (text : ℕ → Text)
      → beta_aborts key (take 6 (beta_records terms text)) book alpha_1 ≡ record { answer = Some (Ok None); moves = Appends (note (Chose (Back Aborted))) ∷ [] }
  pub after_it_is_ready : (key : List ℕ) (book : Book) (terms : Terms) (text : ℕ → Text) → beta_aborts key (take 9 (beta_records terms text)) book alpha_1 ≡ refused (TooLate 8)
  pub after_its_end : (key : List ℕ) (book : Book) (terms : Terms) (text : ℕ → Text) → beta_aborts key (beta_records terms text) book alpha_1 ≡ refused (TooLate 8)
  -- the origin has rolled back: it is no longer too late, and nothing is left to do
  pub rolled_back :
      (key : List ℕ) (book : Book) (terms : Terms) (text : ℕ → Text)
      → beta_aborts key (take 9 (beta_records terms text) ++ stored alpha_1 (Took Rollback) (text 9) ∷ note (Did Release) ∷ stored alpha_1 (Made RollbackAck) (text 10) ∷ []) book alpha_1 ≡ nothing
  pub unnamed_at_alpha : (key : List ℕ) (book : Book) (terms : Terms) (text : ℕ → Text) → alpha_aborts key (alpha_records terms text) book alpha_9 ≡ refused (Strange alpha_9)
  pub unnamed_at_beta : (key : List ℕ) (book : Book) (terms : Terms) (text : ℕ → Text) → beta_aborts key (beta_records terms text) book alpha_9 ≡ refused (Strange alpha_9)
