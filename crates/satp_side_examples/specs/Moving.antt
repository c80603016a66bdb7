-- Which texts come, which are said, and which moves are made.
use Rattle.std.specs.Prelude.{◌≡◌, ℕ, List, [], ◌∷◌, take, Option, Some, None, IsTrue}
use Rattle.satp_base.specs.Chains.{next_text, zero_link}
use Rattle.satp_base.specs.Forms.{IsLink, is_entry}
use Rattle.satp_base.specs.LedgerRule.{entry_of, operation}
use Rattle.satp_base.specs.Money.{Book}
use Rattle.satp_base.specs.Signatures.{own}
use Rattle.satp_base.specs.declared.ledger.Entry.TheVariants.{Absent, Locked, Minted}
use Rattle.satp_base.specs.declared.ledger.LedgerOp.TheVariants.{Lock, Burn, Assign}
use Rattle.satp_base.specs.declared.message.Body.{Body}
use Rattle.satp_base.specs.declared.message.Body.TheVariants.{Chain, Recover, Update}
use Rattle.satp_base.specs.declared.message.Link.{Link}
use Rattle.satp_base.specs.declared.message.Message.{Message}
use Rattle.satp_base.specs.declared.message.Part.{Part}
use Rattle.satp_base.specs.declared.message.Part.TheVariants.{Proposal}
use Rattle.satp_base.specs.declared.message.Terms.{Terms}
use Rattle.satp_base.specs.declared.record.Cause.TheVariants.{MintCapped}
use Rattle.satp_base.specs.declared.record.Rec.TheVariants.{Did, Chose}
use Rattle.satp_base.specs.declared.record.Way.TheVariants.{Back}
use Rattle.satp_sides.specs.Calls.{IsEntryOf}
use Rattle.satp_sides.specs.Moves.{Among, AreMoves, Delivered, IsMove, Sayable, SideMoves}
use Rattle.satp_sides.specs.Points.{Appends, Acts, Party, Side, Text}
use Rattle.satp_side_examples.specs.Answers.{beta_hears, receipt}
use Rattle.satp_side_examples.specs.Samples.{alpha_1, alpha_records, at_alpha, at_beta, beta, beta_records, chain_message, from_alpha, from_beta, note, side}

-- ---- texts

pub record TextsThatCome : Type 0 where
  pub alone : (key : List ℕ) (t : Text) → Delivered key (t ∷ []) t
  pub in_an_update : (key : List ℕ) (t : Text) → IsTrue (is_entry t) → Delivered key (own key (from_alpha alpha_1 (Update 1 (t ∷ []))) ∷ []) t
  pub not_unsent : (key : List ℕ) (t : Text) → ¬ Delivered key [] t

-- the message of an update's one entry is that of its text; nothing else has one
pub record EntriesRead : Type 0 where
  pub determined : (key : List ℕ) (b : Body) (e f : Option Message) → IsEntryOf key b e → IsEntryOf key b f → e ≡ f
  pub not_of_two : (key : List ℕ) (n : ℕ) (t u : Text) (e : Message) → ¬ IsEntryOf key (Update n (t ∷ u ∷ [])) (Some e)
  pub not_of_a_chain : (key : List ℕ) (n : ℕ) (previous : Link) (part : Part) (e : Message) → ¬ IsEntryOf key (Chain n previous part) (Some e)

pub record TextsThatAreSaid : Type 0 where
  -- of a session that is asked after: nothing is known of it
  pub unnamed :
      (key : List ℕ) (last : Link) → IsLink last
      → Sayable (at_beta key) [] (own key (from_alpha alpha_1 (Recover 1 last)) ∷ []) (own key (from_beta alpha_1 (Update 0 [])))
  -- of its own place
  pub own_text : (key : List ℕ) (terms : Terms) (text : ℕ → Text) → Sayable (at_beta key) (beta_records terms text) [] (text 10)
  -- an answer that isn't stored isn't said
  pub not_unstored : (key : List ℕ) (bag : List Text) (terms : Terms) (text : ℕ → Text) → ¬ Sayable (at_beta key) (take 1 (beta_records terms text)) bag (receipt key (text 1))
  -- at first nothing is said by anybody
  pub not_unasked : (p : Party) (t : Text) → ¬ Sayable p [] [] t

-- ---- moves

abbrev pub first_text : List ℕ → Terms → Text
first_text key terms = next_text alpha_1 beta key [] (Proposal terms)

pub record MovesMade : Type 0 where
  -- beta takes a proposal that was delivered, and answers it
  pub accepts :
      (key : List ℕ) (book : Book) (terms : Terms)
      → AreMoves (at_beta key) (side [] book) (first_text key terms ∷ []) (beta_hears key [] book (chain_message 1 zero_link (Proposal terms)) (first_text key terms)).moves
  pub not_undelivered :
      (key : List ℕ) (book : Book) (terms : Terms)
      → ¬ AreMoves (at_beta key) (side [] book) [] (beta_hears key [] book (chain_message 1 zero_link (Proposal terms)) (first_text key terms)).moves
  -- an operation that isn't due, is out of order, or is asked for under other terms
  pub not_before_the_decision :
      (key : List ℕ) (book : Book) (bag : List Text) (terms : Terms) (text : ℕ → Text)
      → ¬ IsMove (at_alpha key) (side (take 9 (alpha_records terms text)) book) bag (Acts alpha_1 Burn terms)
  pub not_out_of_order :
      (key : List ℕ) (book : Book) (bag : List Text) (terms : Terms) (text : ℕ → Text) → (operation book Assign alpha_1 terms).answer ≡ None
      → ¬ IsMove (at_beta key) (side (take 10 (beta_records terms text)) book) bag (Acts alpha_1 Assign terms)
  pub not_under_others :
      (key : List ℕ) (book : Book) (bag : List Text) (terms other : Terms) (text : ℕ → Text) → ¬ other ≡ terms
      → ¬ IsMove (at_alpha key) (side (take 4 (alpha_records terms text)) book) bag (Acts alpha_1 Lock other)
  -- what the records say was done isn't asked for again; where a stop came before that record it is, and nothing changes
  pub not_twice :
      (key : List ℕ) (book : Book) (bag : List Text) (terms : Terms) (text : ℕ → Text)
      → ¬ IsMove (at_alpha key) (side (take 5 (alpha_records terms text)) book) bag (Acts alpha_1 Lock terms)
  pub after_a_stop :
      (key : List ℕ) (book : Book) (bag : List Text) (terms : Terms) (text : ℕ → Text) → entry_of book.entries alpha_1 ≡ Locked
      → IsMove (at_alpha key) (side (take 4 (alpha_records terms text)) book) bag (Acts alpha_1 Lock terms) × ((operation book Lock alpha_1 terms).after ≡ book)
  -- that it was done is stored after it was done
  pub not_undone :
      (key : List ℕ) (book : Book) (bag : List Text) (terms : Terms) (text : ℕ → Text) → entry_of book.entries alpha_1 ≡ Absent
      → ¬ IsMove (at_alpha key) (side (take 4 (alpha_records terms text)) book) bag (Appends (note (Did Lock)))
  -- and that a mint was refused where the ledger refuses it
  pub not_unrefused :
      (key : List ℕ) (book : Book) (bag : List Text) (terms : Terms) (text : ℕ → Text) → entry_of book.entries alpha_1 ≡ Minted
      → ¬ IsMove (at_beta key) (side (take 7 (beta_records terms text)) book) bag (Appends (note (Chose (Back MintCapped))))
  -- no move takes a text from the bag
  pub not_forgotten : (p : Party) (old : Side) (bag : List Text) (new : Side) (more : List Text) (t : Text) → SideMoves p old bag new more → Among t bag → Among t more
