-- What is done after a message that was taken, with what the ledger answers.
use Rattle.std.specs.Prelude.{◌≡◌, ℕ, List, [], ◌∷◌, ◌++◌, take, Some, None, Ok}
use Rattle.satp_base.specs.Chains.{link_of, next_text}
use Rattle.satp_base.specs.LedgerRule.{operation}
use Rattle.satp_base.specs.Money.{Book}
use Rattle.satp_base.specs.declared.ledger.Answer.{Answer}
use Rattle.satp_base.specs.declared.ledger.Answer.TheVariants as answer
use Rattle.satp_base.specs.declared.ledger.Entry.TheVariants.{Released}
use Rattle.satp_base.specs.declared.ledger.LedgerOp.{LedgerOp}
use Rattle.satp_base.specs.declared.ledger.LedgerOp.TheVariants.{Lock, Burn, Mint, Release}
use Rattle.satp_base.specs.declared.message.Kind.{Kind}
use Rattle.satp_base.specs.declared.message.Kind.TheVariants.{CommenceAck, LockAssert, CommitPrepare, CommitReady, CommitFinal, Reject, Rollback, RollbackAck}
use Rattle.satp_base.specs.declared.message.Part.{Part}
use Rattle.satp_base.specs.declared.message.Part.TheVariants as part
use Rattle.satp_base.specs.declared.message.Part.TheVariants.{Plain}
use Rattle.satp_base.specs.declared.message.Reason.{Reason}
use Rattle.satp_base.specs.declared.message.Reason.TheVariants as reason
use Rattle.satp_base.specs.declared.message.Terms.{Terms}
use Rattle.satp_base.specs.declared.record.Cause.{Cause}
use Rattle.satp_base.specs.declared.record.Cause.TheVariants.{Aborted, LockRefused, Rejected, UnknownAsset, MintCapped, LedgerTaken}
use Rattle.satp_base.specs.declared.record.Rec.TheVariants.{Made, Took, Did, Chose}
use Rattle.satp_base.specs.declared.record.Way.TheVariants.{Commit, Back}
use Rattle.satp_sides.specs.Calls.{Run}
use Rattle.satp_sides.specs.Points.{Appends, Acts, Move, Says, Stored, Text, stored}
use Rattle.satp_side_examples.specs.Answers.{alpha_hears, beta_hears}
use Rattle.satp_side_examples.specs.Samples.{alpha_1, alpha_records, beta, beta_records, chain_message, note}

-- the texts of the first places
abbrev pub texts_to : (ℕ → Text) → ℕ → List Text
texts_to text n = take n (text 1 ∷ text 2 ∷ text 3 ∷ text 4 ∷ text 5 ∷ text 6 ∷ text 7 ∷ text 8 ∷ text 9 ∷ text 10 ∷ text 11 ∷ [])

-- what is made after so many
abbrev pub made_after : List ℕ → (ℕ → Text) → ℕ → Part → Text
made_after key text n q = next_text alpha_1 beta key (texts_to text n) q

-- what the ledger answers
abbrev pub Answers : Book → LedgerOp → Terms → Answer → Type 0
Answers book op terms a = (operation book op alpha_1 terms).answer ≡ Some a

-- a text is made, stored and said
abbrev pub makes : Kind → Text → List Move
makes kind t = Appends (stored alpha_1 (Made kind) t) ∷ Says t ∷ []

-- the answer is this text, and these are the moves
abbrev pub run_to : Text → List Move → Run
run_to t moves = record { answer = Some (Ok (Some t)); moves = moves }

-- beta takes commit-prepare
abbrev pub prepares : List ℕ → Terms → (ℕ → Text) → Book → Run
prepares key terms text book = beta_hears key (take 6 (beta_records terms text)) book (chain_message 7 (link_of (text 6)) (Plain CommitPrepare)) (text 7)

-- and rejects it: the mint was asked for, and refused for this cause
abbrev pub rejects : List ℕ → Terms → (ℕ → Text) → Cause → Reason → Run
rejects key terms text cause r =
    let t = made_after key text 7 (part.Reject r) in
    run_to t (Appends (stored alpha_1 (Took CommitPrepare) (text 7)) ∷ Acts alpha_1 Mint terms ∷ Appends (note (Chose (Back cause))) ∷ makes Reject t)

pub record Mints : Type 0 where
  pub done :
      (key : List ℕ) (terms : Terms) (text : ℕ → Text) (book : Book) → Answers book Mint terms answer.Done
      → prepares key terms text book
      ≡ run_to (made_after key text 7 (Plain CommitReady)) (
      Appends (stored alpha_1 (Took CommitPrepare) (text 7)) ∷ Acts alpha_1 Mint terms ∷ Appends (note (Did Mint))
      ∷ makes CommitReady (made_after key text 7 (Plain CommitReady)))
  pub capped :
      (key : List ℕ) (terms : Terms) (text : ℕ → Text) (book : Book) → Answers book Mint terms (answer.Capped 350)
      → prepares key terms text book ≡ rejects key terms text MintCapped reason.MintCapped
  pub unknown :
      (key : List ℕ) (terms : Terms) (text : ℕ → Text) (book : Book) → Answers book Mint terms answer.UnknownAsset
      → prepares key terms text book ≡ rejects key terms text UnknownAsset reason.UnknownAsset
  pub taken :
      (key : List ℕ) (terms : Terms) (text : ℕ → Text) (book : Book) → Answers book Mint terms (answer.Taken Released)
      → prepares key terms text book ≡ rejects key terms text LedgerTaken reason.LedgerTaken
  -- it isn't rejected unasked
  pub not_unasked :
      (key : List ℕ) (terms : Terms) (text : ℕ → Text) (book : Book) (t : Text) → Answers book Mint terms (answer.Capped 350)
      → ¬ prepares key terms text book ≡ run_to t (Appends (stored alpha_1 (Took CommitPrepare) (text 7)) ∷ Appends (note (Chose (Back MintCapped))) ∷ makes Reject t)
  -- after a refused mint there is nothing to release
  pub nothing_released :
      (key : List ℕ) (terms : Terms) (text : ℕ → Text) (book : Book)
      → beta_hears key (take 7 (beta_records terms text) ++ note (Chose (Back MintCapped)) ∷ stored alpha_1 (Made Reject) (text 8) ∷ []) book (chain_message 9 (link_of (text 8)) (Plain Rollback)) (text 9)
      ≡ run_to (made_after key text 9 (Plain RollbackAck)) (
      Appends (stored alpha_1 (Took Rollback) (text 9)) ∷ makes RollbackAck (made_after key text 9 (Plain RollbackAck)))
  -- after a mint that was done there is
  pub released :
      (key : List ℕ) (terms : Terms) (text : ℕ → Text) (book : Book) → Answers book Release terms answer.Done
      → beta_hears key (take 9 (beta_records terms text)) book (chain_message 9 (link_of (text 8)) (Plain Rollback)) (text 9)
      ≡ run_to (made_after key text 9 (Plain RollbackAck)) (
      Appends (stored alpha_1 (Took Rollback) (text 9)) ∷ Acts alpha_1 Release terms ∷ Appends (note (Did Release))
      ∷ makes RollbackAck (made_after key text 9 (Plain RollbackAck)))
  -- and once
  pub not_released_twice :
      (key : List ℕ) (terms : Terms) (text : ℕ → Text) (book : Book)
      → beta_hears key (take 8 (beta_records terms text) ++ note (Chose (Back Aborted)) ∷ note (Did Release) ∷ stored alpha_1 (Made Reject) (text 8) ∷ []) book
      (chain_message 9 (link_of (text 8)) (Plain Rollback)) (text 9)
      ≡ run_to (made_after key text 9 (Plain RollbackAck)) (
      Appends (stored alpha_1 (Took Rollback) (text 9)) ∷ makes RollbackAck (made_after key text 9 (Plain RollbackAck)))

-- alpha takes commence-ack
abbrev pub commences : List ℕ → Terms → (ℕ → Text) → Book → Run
commences key terms text book = alpha_hears key (take 3 (alpha_records terms text)) book (chain_message 4 (link_of (text 3)) (Plain CommenceAck)) (text 4)

-- alpha takes commit-ready
abbrev pub readies : List ℕ → Terms → (ℕ → Text) → List Stored → Book → Run
readies key terms text more book = alpha_hears key (take 8 (alpha_records terms text) ++ more) book (chain_message 8 (link_of (text 7)) (Plain CommitReady)) (text 8)

pub record LocksAndBurns : Type 0 where
  pub locked :
      (key : List ℕ) (terms : Terms) (text : ℕ → Text) (book : Book) → Answers book Lock terms answer.Done
      → commences key terms text book
      ≡ run_to (made_after key text 4 (Plain LockAssert)) (
      Appends (stored alpha_1 (Took CommenceAck) (text 4)) ∷ Acts alpha_1 Lock terms ∷ Appends (note (Did Lock))
      ∷ makes LockAssert (made_after key text 4 (Plain LockAssert)))
  -- a refused lock turns back, in three turns
  pub refused :
      (key : List ℕ) (terms : Terms) (text : ℕ → Text) (book : Book)
      → Answers book Lock terms (answer.NoFunds 1000) → Answers (operation book Lock alpha_1 terms).after Release terms answer.Done
      → commences key terms text book
      ≡ run_to (made_after key text 4 (Plain Rollback)) (
      Appends (stored alpha_1 (Took CommenceAck) (text 4)) ∷ Acts alpha_1 Lock terms ∷ Appends (note (Chose (Back LockRefused)))
      ∷ Acts alpha_1 Release terms ∷ Appends (note (Did Release)) ∷ makes Rollback (made_after key text 4 (Plain Rollback)))
  -- a release that is out of order ends the work
  pub not_released :
      (key : List ℕ) (terms : Terms) (text : ℕ → Text) (book : Book)
      → Answers book Lock terms (answer.NoFunds 1000) → (operation (operation book Lock alpha_1 terms).after Release alpha_1 terms).answer ≡ None
      → commences key terms text book
      ≡ record {
        answer = None;
        moves = Appends (stored alpha_1 (Took CommenceAck) (text 4)) ∷ Acts alpha_1 Lock terms ∷ Appends (note (Chose (Back LockRefused))) ∷ Acts alpha_1 Release terms ∷ [];
      }
  pub burnt :
      (key : List ℕ) (terms : Terms) (text : ℕ → Text) (book : Book) → Answers book Burn terms answer.Done
      → readies key terms text [] book
      ≡ run_to (made_after key text 8 (Plain CommitFinal)) (
      Appends (stored alpha_1 (Took CommitReady) (text 8)) ∷ Appends (note (Chose Commit)) ∷ Acts alpha_1 Burn terms ∷ Appends (note (Did Burn))
      ∷ makes CommitFinal (made_after key text 8 (Plain CommitFinal)))
  -- it burns nothing that it doesn't store its decision of first
  pub not_undecided :
      (key : List ℕ) (terms : Terms) (text : ℕ → Text) (book : Book) (t : Text) → Answers book Burn terms answer.Done
      → ¬ readies key terms text [] book
      ≡ run_to t (Appends (stored alpha_1 (Took CommitReady) (text 8)) ∷ Acts alpha_1 Burn terms ∷ Appends (note (Did Burn)) ∷ makes CommitFinal t)
  -- after an abort it rolls back, though the recipient is ready
  pub turned :
      (key : List ℕ) (terms : Terms) (text : ℕ → Text) (book : Book)
      → readies key terms text (note (Chose (Back Aborted)) ∷ note (Did Release) ∷ []) book
      ≡ run_to (made_after key text 8 (Plain Rollback)) (
      Appends (stored alpha_1 (Took CommitReady) (text 8)) ∷ makes Rollback (made_after key text 8 (Plain Rollback)))
  -- a reject, whatever its reason
  pub rejected :
      (key : List ℕ) (terms : Terms) (text : ℕ → Text) (book : Book) (r : Reason) → Answers book Release terms answer.Done
      → alpha_hears key (take 8 (alpha_records terms text)) book (chain_message 8 (link_of (text 7)) (part.Reject r)) (text 8)
      ≡ run_to (made_after key text 8 (Plain Rollback)) (
      Appends (stored alpha_1 (Took Reject) (text 8)) ∷ Appends (note (Chose (Back Rejected))) ∷ Acts alpha_1 Release terms ∷ Appends (note (Did Release))
      ∷ makes Rollback (made_after key text 8 (Plain Rollback)))
