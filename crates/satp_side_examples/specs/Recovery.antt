-- What the two sides of a recovery round answer.
use Rattle.std.specs.Prelude.{◌≡◌, ℕ, false, List, [], ◌∷◌, ◌++◌, take, Option, Some, None}
use Rattle.std.specs.Str.{bytes_eq}
use Rattle.satp_base.specs.Chains.{link_of, zero_link}
use Rattle.satp_base.specs.Money.{Book}
use Rattle.satp_base.specs.Signatures.{own}
use Rattle.satp_base.specs.declared.ledger.Answer.TheVariants as answer
use Rattle.satp_base.specs.declared.ledger.LedgerOp.TheVariants.{Burn, Mint, Release}
use Rattle.satp_base.specs.declared.message.Body.TheVariants.{Recover, Update, Success}
use Rattle.satp_base.specs.declared.message.Kind.TheVariants.{ProposalReceipt, CommitPrepare, CommitReady, CommitFinal, Rollback}
use Rattle.satp_base.specs.declared.message.Link.{Link}
use Rattle.satp_base.specs.declared.message.Message.{Message}
use Rattle.satp_base.specs.declared.message.Part.TheVariants.{Plain, Proposal}
use Rattle.satp_base.specs.declared.message.Role.TheVariants.{Recipient}
use Rattle.satp_base.specs.declared.message.Terms.{Terms}
use Rattle.satp_base.specs.declared.record.Cause.TheVariants.{Aborted, Rescued}
use Rattle.satp_base.specs.declared.record.Rec.TheVariants.{Began, Made, Took, Did, Chose, Rescue}
use Rattle.satp_base.specs.declared.record.Way.TheVariants.{Commit, Back}
use Rattle.satp_recovery.specs.declared.choice.RecoveryFault.TheVariants.{Longer, Shorter, OtherHash, EntryRefused}
use Rattle.satp_sides.specs.Calls.{Run, Hears, Rescues, Full, Recovery, refused, replied, run_of}
use Rattle.satp_sides.specs.Points.{Appends, Acts, Says, Stored, Text, begun, chain_in, slot_in, stored}
use Rattle.satp_side_examples.specs.Answers.{alpha_hears, beta_hears, receipt}
use Rattle.satp_side_examples.specs.Samples.{alpha_1, alpha_9, alpha_records, at_alpha, at_beta, beta_records, chain_message, from_alpha, from_beta, gamma, note, side}
use Rattle.satp_side_examples.specs.Work.{Answers, made_after, makes, run_to}

-- ---- the side that starts a round

abbrev recover : List ℕ → ℕ → Link → Text
recover key n last = own key (from_alpha alpha_1 (Recover n last))

abbrev rescues : List ℕ → List Stored → Book → Run
rescues key records book = run_of (at_alpha key) (side records book) (Rescues alpha_1)

pub record RoundsStarted : Type 0 where
  -- an undecided origin says so once
  pub undecided :
      (key : List ℕ) (book : Book) (terms : Terms) (text : ℕ → Text)
      → rescues key (take 8 (alpha_records terms text)) book
      ≡ run_to (recover key 7 (link_of (text 7))) (Appends (note Rescue) ∷ Says (recover key 7 (link_of (text 7))) ∷ [])
  pub once :
      (key : List ℕ) (book : Book) (terms : Terms) (text : ℕ → Text)
      → rescues key (take 8 (alpha_records terms text) ++ note Rescue ∷ []) book ≡ replied (Some (recover key 7 (link_of (text 7))))
  pub not_decided :
      (key : List ℕ) (book : Book) (terms : Terms) (text : ℕ → Text)
      → rescues key (take 8 (alpha_records terms text) ++ note (Chose (Back Aborted)) ∷ note (Did Release) ∷ []) book ≡ replied (Some (recover key 7 (link_of (text 7))))
  -- of a whole chain no record is added
  pub whole : (key : List ℕ) (book : Book) (terms : Terms) (text : ℕ → Text) → rescues key (alpha_records terms text) book ≡ replied (Some (recover key 11 (link_of (text 11))))
  -- a recipient has nothing to say of itself
  pub recipient :
      (key : List ℕ) (book : Book) (terms : Terms) (text : ℕ → Text)
      → run_of (at_beta key) (side (take 9 (beta_records terms text)) book) (Rescues alpha_1) ≡ replied (Some (own key (from_beta alpha_1 (Recover 8 (link_of (text 8))))))

-- ---- the side that is asked

abbrev update : List ℕ → ℕ → List Text → Text
update key n entries = own key (from_beta alpha_1 (Update n entries))

-- beta is asked by alpha, whose chain is so long
abbrev asked : List ℕ → List Stored → Book → ℕ → Link → Text → Run
asked key records book n last t = beta_hears key records book (from_alpha alpha_1 (Recover n last)) t

pub record RoundsAnswered : Type 0 where
  -- of a session that it knows nothing of
  pub unnamed : (key : List ℕ) (book : Book) (last : Link) (t : Text) → asked key [] book 1 last t ≡ replied (Some (update key 0 []))
  pub unnamed_of_none : (key : List ℕ) (book : Book) (t : Text) → asked key [] book 0 zero_link t ≡ replied (Some (update key 0 []))
  pub not_of_two : (key : List ℕ) (book : Book) (last : Link) (t : Text) → asked key [] book 2 last t ≡ refused (Recovery (Longer 2))
  pub not_another_none :
      (key : List ℕ) (book : Book) (last : Link) (t : Text) → bytes_eq last.0 zero_link.0 ≡ false → asked key [] book 0 last t ≡ refused (Recovery (OtherHash zero_link last))
  -- it has one message more, and says it
  pub one_more :
      (key : List ℕ) (book : Book) (terms : Terms) (text : ℕ → Text) (t : Text)
      → asked key (take 9 (beta_records terms text)) book 7 (link_of (text 7)) t ≡ replied (Some (update key 8 (text 8 ∷ [])))
  pub as_many :
      (key : List ℕ) (book : Book) (terms : Terms) (text : ℕ → Text) (t : Text)
      → asked key (take 9 (beta_records terms text)) book 8 (link_of (text 8)) t ≡ replied (Some (update key 8 []))
  pub one_fewer :
      (key : List ℕ) (book : Book) (terms : Terms) (text : ℕ → Text) (last : Link) (t : Text)
      → asked key (take 9 (beta_records terms text)) book 9 last t ≡ replied (Some (update key 8 []))
  pub not_two_more :
      (key : List ℕ) (book : Book) (terms : Terms) (text : ℕ → Text) (last : Link) (t : Text)
      → asked key (take 9 (beta_records terms text)) book 6 last t ≡ refused (Recovery (Shorter 2))
  pub not_two_fewer :
      (key : List ℕ) (book : Book) (terms : Terms) (text : ℕ → Text) (last : Link) (t : Text)
      → asked key (take 9 (beta_records terms text)) book 10 last t ≡ refused (Recovery (Longer 2))
  pub not_another_chain :
      (key : List ℕ) (book : Book) (terms : Terms) (text : ℕ → Text) (last : Link) (t : Text) → bytes_eq last.0 (link_of (text 7)).0 ≡ false
      → asked key (take 9 (beta_records terms text)) book 7 last t ≡ refused (Recovery (OtherHash (link_of (text 7)) last))
  -- it does what is due first, and says what that made
  pub after_its_work :
      (key : List ℕ) (book : Book) (terms : Terms) (text : ℕ → Text) (t : Text) → Answers book Mint terms answer.Done
      → asked key (take 7 (beta_records terms text)) book 7 (link_of (text 7)) t
      ≡ run_to (update key 8 (made_after key text 7 (Plain CommitReady) ∷ [])) (
      Acts alpha_1 Mint terms ∷ Appends (note (Did Mint)) ∷ Appends (stored alpha_1 (Made CommitReady) (made_after key text 7 (Plain CommitReady)))
      ∷ Says (update key 8 (made_after key text 7 (Plain CommitReady) ∷ [])) ∷ [])
  -- its last two, where its work made one more
  pub two_more :
      (key : List ℕ) (book : Book) (terms : Terms) (text : ℕ → Text) (t : Text) → Answers book Mint terms answer.Done
      → asked key (take 7 (beta_records terms text)) book 6 (link_of (text 6)) t
      ≡ run_to (update key 8 (text 7 ∷ made_after key text 7 (Plain CommitReady) ∷ [])) (
      Acts alpha_1 Mint terms ∷ Appends (note (Did Mint)) ∷ Appends (stored alpha_1 (Made CommitReady) (made_after key text 7 (Plain CommitReady)))
      ∷ Says (update key 8 (text 7 ∷ made_after key text 7 (Plain CommitReady) ∷ [])) ∷ [])
  -- an origin that is asked enters the round too
  pub origin :
      (key : List ℕ) (book : Book) (terms : Terms) (text : ℕ → Text) (t : Text)
      → alpha_hears key (take 8 (alpha_records terms text)) book (from_beta alpha_1 (Recover 6 (link_of (text 6)))) t
      ≡ run_to (own key (from_alpha alpha_1 (Update 7 (text 7 ∷ [])))) (Appends (note Rescue) ∷ Says (own key (from_alpha alpha_1 (Update 7 (text 7 ∷ [])))) ∷ [])

-- ---- the starter hears of the other chain

-- alpha hears that beta's chain is so long, with these texts of it, of which one is this message's
abbrev told : List ℕ → List Stored → Book → ℕ → List Text → Option Message → Text → Run
told key records book n entries e t = run_of (at_alpha key) (side records book) (Hears (from_beta alpha_1 (Update n entries)) t e)

-- alpha has made commit-prepare
abbrev prepared : Terms → (ℕ → Text) → List Stored
prepared terms text = take 8 (alpha_records terms text)

abbrev turned : Terms → (ℕ → Text) → List Stored
turned terms text = prepared terms text ++ note (Chose (Back Aborted)) ∷ note (Did Release) ∷ []

abbrev ready : (ℕ → Text) → Message
ready text = chain_message 8 (link_of (text 7)) (Plain CommitReady)

pub record UpdatesHeard : Type 0 where
  -- the one entry is taken as if it had come alone
  pub adopted :
      (key : List ℕ) (book : Book) (terms : Terms) (text : ℕ → Text) (t : Text)
      → told key (turned terms text) book 8 (text 8 ∷ []) (Some (ready text)) t
      ≡ run_to (made_after key text 8 (Plain Rollback)) (
      Appends (stored alpha_1 (Took CommitReady) (text 8)) ∷ makes Rollback (made_after key text 8 (Plain Rollback)))
  -- an entry that is no message, is of another session, to or from another gateway, or no message of a chain
  pub not_no_message :
      (key : List ℕ) (book : Book) (terms : Terms) (text : ℕ → Text) (t : Text)
      → told key (prepared terms text) book 8 (text 8 ∷ []) None t ≡ refused (Recovery (EntryRefused 8))
  pub not_another_session :
      (key : List ℕ) (book : Book) (terms : Terms) (text : ℕ → Text) (t : Text)
      → told key (prepared terms text) book 8 (text 8 ∷ []) (Some (record (ready text) { session = alpha_9 })) t ≡ refused (Recovery (EntryRefused 8))
  pub not_another_receiver :
      (key : List ℕ) (book : Book) (terms : Terms) (text : ℕ → Text) (t : Text)
      → told key (prepared terms text) book 8 (text 8 ∷ []) (Some (record (ready text) { receiver = gamma })) t ≡ refused (Recovery (EntryRefused 8))
  pub not_its_own :
      (key : List ℕ) (book : Book) (terms : Terms) (text : ℕ → Text) (previous : Link) (t : Text)
      → told key (prepared terms text) book 8 (text 7 ∷ []) (Some (chain_message 7 previous (Plain CommitPrepare))) t ≡ refused (Recovery (EntryRefused 8))
  pub not_of_recovery :
      (key : List ℕ) (book : Book) (terms : Terms) (text : ℕ → Text) (n : ℕ) (entries : List Text) (t : Text)
      → told key (prepared terms text) book 8 (text 8 ∷ []) (Some (from_beta alpha_1 (Update n entries))) t ≡ refused (Recovery (EntryRefused 8))
  -- one that isn't the next: an earlier one, one after another text, one that ends no tale
  pub not_an_earlier :
      (key : List ℕ) (book : Book) (terms : Terms) (text : ℕ → Text) (previous : Link) (t : Text)
      → told key (prepared terms text) book 8 (text 2 ∷ []) (Some (chain_message 2 previous (Plain ProposalReceipt))) t ≡ refused (Recovery (EntryRefused 8))
  pub not_after_another :
      (key : List ℕ) (book : Book) (terms : Terms) (text : ℕ → Text) (previous : Link) (t : Text) → bytes_eq previous.0 (link_of (text 7)).0 ≡ false
      → told key (prepared terms text) book 8 (text 8 ∷ []) (Some (chain_message 8 previous (Plain CommitReady))) t ≡ refused (Recovery (EntryRefused 8))
  pub not_off_the_tale :
      (key : List ℕ) (book : Book) (terms : Terms) (text : ℕ → Text) (t : Text)
      → told key (prepared terms text) book 8 (text 8 ∷ []) (Some (chain_message 8 (link_of (text 7)) (Plain ProposalReceipt))) t ≡ refused (Recovery (EntryRefused 8))
  -- as many entries as the chain is longer, and no more
  pub not_two :
      (key : List ℕ) (book : Book) (terms : Terms) (text : ℕ → Text) (t : Text)
      → told key (prepared terms text) book 8 (text 8 ∷ text 9 ∷ []) None t ≡ refused (Recovery (EntryRefused 9))
  pub not_without : (key : List ℕ) (book : Book) (terms : Terms) (text : ℕ → Text) (t : Text) → told key (prepared terms text) book 8 [] None t ≡ refused (Recovery (EntryRefused 8))
  pub not_too_long :
      (key : List ℕ) (book : Book) (terms : Terms) (text : ℕ → Text) (t : Text)
      → told key (prepared terms text) book 9 (text 8 ∷ text 9 ∷ []) None t ≡ refused (Recovery (Longer 2))
  -- equal chains, and one that lacks the last message: it is said again, and no work is done
  pub as_long : (key : List ℕ) (book : Book) (terms : Terms) (text : ℕ → Text) (t : Text) → told key (prepared terms text) book 7 [] None t ≡ replied None
  pub shorter : (key : List ℕ) (book : Book) (terms : Terms) (text : ℕ → Text) (t : Text) → told key (prepared terms text) book 6 [] None t ≡ replied (Some (text 7))
  pub not_with_an_entry :
      (key : List ℕ) (book : Book) (terms : Terms) (text : ℕ → Text) (t : Text)
      → told key (prepared terms text) book 6 (text 6 ∷ []) None t ≡ refused (Recovery (EntryRefused 8))
  pub not_much_shorter : (key : List ℕ) (book : Book) (terms : Terms) (text : ℕ → Text) (t : Text) → told key (prepared terms text) book 5 [] None t ≡ refused (Recovery (Shorter 2))
  -- the peer's last text isn't said for it
  pub not_the_peers :
      (key : List ℕ) (book : Book) (terms : Terms) (text : ℕ → Text) (t : Text)
      → beta_hears key (take 7 (beta_records terms text)) book (from_alpha alpha_1 (Update 6 [])) t ≡ replied None
  -- to a session that no record names
  pub begins :
      (key : List ℕ) (book : Book) (terms : Terms) (t u : Text)
      → run_of (at_beta key) (side [] book) (Hears (from_alpha alpha_1 (Update 1 (u ∷ []))) t (Some (chain_message 1 zero_link (Proposal terms))))
      ≡ run_to (receipt key u) (Appends (stored alpha_1 (Began Recipient terms) u) ∷ makes ProposalReceipt (receipt key u))
  pub begins_nothing : (key : List ℕ) (book : Book) (t : Text) → beta_hears key [] book (from_alpha alpha_1 (Update 0 [])) t ≡ replied None
  -- a session too many: the entry is tested first
  pub not_one_more :
      (key : List ℕ) (records : List Stored) (book : Book) (terms : Terms) (t u : Text) → begun Recipient records ≡ 2048 → slot_in alpha_1 records ≡ None → chain_in alpha_1 records ≡ []
      → run_of (at_beta key) (side records book) (Hears (from_alpha alpha_1 (Update 1 (u ∷ []))) t (Some (chain_message 1 zero_link (Proposal terms)))) ≡ refused (Full 2048)
  pub not_an_entry_first :
      (key : List ℕ) (records : List Stored) (book : Book) (t u : Text) → begun Recipient records ≡ 2048 → slot_in alpha_1 records ≡ None → chain_in alpha_1 records ≡ []
      → run_of (at_beta key) (side records book) (Hears (from_alpha alpha_1 (Update 1 (u ∷ []))) t None) ≡ refused (Recovery (EntryRefused 1))

-- ---- the end of a round

pub record SuccessesHeard : Type 0 where
  pub equal :
      (key : List ℕ) (book : Book) (terms : Terms) (text : ℕ → Text) (t : Text)
      → beta_hears key (beta_records terms text) book (from_alpha alpha_1 (Success 11 (link_of (text 11)))) t ≡ replied None
  pub not_shorter :
      (key : List ℕ) (book : Book) (terms : Terms) (text : ℕ → Text) (last : Link) (t : Text)
      → beta_hears key (beta_records terms text) book (from_alpha alpha_1 (Success 10 last)) t ≡ refused (Recovery (Shorter 1))
  pub not_another_chain :
      (key : List ℕ) (book : Book) (terms : Terms) (text : ℕ → Text) (last : Link) (t : Text) → bytes_eq last.0 (link_of (text 11)).0 ≡ false
      → beta_hears key (beta_records terms text) book (from_alpha alpha_1 (Success 11 last)) t ≡ refused (Recovery (OtherHash (link_of (text 11)) last))
  pub not_unnamed : (key : List ℕ) (book : Book) (last : Link) (t : Text) → beta_hears key [] book (from_alpha alpha_1 (Success 11 last)) t ≡ refused (Recovery (Longer 11))
  -- nothing that is due is done
  pub without_work :
      (key : List ℕ) (book : Book) (terms : Terms) (text : ℕ → Text) (t : Text)
      → beta_hears key (take 7 (beta_records terms text)) book (from_alpha alpha_1 (Success 7 (link_of (text 7)))) t ≡ replied None

-- ---- what was lost

pub record LostMessages : Type 0 where
  -- the proposal: it is said again
  pub proposal :
      (key : List ℕ) (book : Book) (terms : Terms) (text : ℕ → Text) (t : Text)
      → told key (take 1 (alpha_records terms text) ++ note Rescue ∷ []) book 0 [] None t ≡ replied (Some (text 1))
  -- an undecided origin in a round turns back at the next message
  pub receipt_in_a_round :
      (key : List ℕ) (book : Book) (terms : Terms) (text : ℕ → Text) → Answers book Release terms answer.Done
      → alpha_hears key (take 1 (alpha_records terms text) ++ note Rescue ∷ []) book (chain_message 2 (link_of (text 1)) (Plain ProposalReceipt)) (text 2)
      ≡ run_to (made_after key text 2 (Plain Rollback)) (
      Appends (stored alpha_1 (Took ProposalReceipt) (text 2)) ∷ Appends (note (Chose (Back Rescued))) ∷ Acts alpha_1 Release terms ∷ Appends (note (Did Release))
      ∷ makes Rollback (made_after key text 2 (Plain Rollback)))
  -- but where its peer is ready it commits
  pub ready_in_a_round :
      (key : List ℕ) (book : Book) (terms : Terms) (text : ℕ → Text) → Answers book Burn terms answer.Done
      → alpha_hears key (prepared terms text ++ note Rescue ∷ []) book (ready text) (text 8)
      ≡ run_to (made_after key text 8 (Plain CommitFinal)) (
      Appends (stored alpha_1 (Took CommitReady) (text 8)) ∷ Appends (note (Chose Commit)) ∷ Acts alpha_1 Burn terms ∷ Appends (note (Did Burn))
      ∷ makes CommitFinal (made_after key text 8 (Plain CommitFinal)))
  pub not_rescued :
      (key : List ℕ) (book : Book) (terms : Terms) (text : ℕ → Text) (t : Text) → Answers book Burn terms answer.Done
      → ¬ alpha_hears key (prepared terms text ++ note Rescue ∷ []) book (ready text) (text 8)
      ≡ run_to t (Appends (stored alpha_1 (Took CommitReady) (text 8)) ∷ Appends (note (Chose (Back Rescued))) ∷ makes Rollback t)
  -- that a burn was done: it is asked for again, and a decided origin isn't rescued
  pub burn :
      (key : List ℕ) (book : Book) (terms : Terms) (text : ℕ → Text) (t : Text) → Answers book Burn terms answer.Done
      → alpha_hears key (take 10 (alpha_records terms text)) book (from_beta alpha_1 (Recover 8 (link_of (text 8)))) t
      ≡ run_to (own key (from_alpha alpha_1 (Update 9 (made_after key text 8 (Plain CommitFinal) ∷ [])))) (
      Acts alpha_1 Burn terms ∷ Appends (note (Did Burn)) ∷ Appends (stored alpha_1 (Made CommitFinal) (made_after key text 8 (Plain CommitFinal)))
      ∷ Says (own key (from_alpha alpha_1 (Update 9 (made_after key text 8 (Plain CommitFinal) ∷ [])))) ∷ [])
