-- Texts as they are signed, and the texts of a chain of two.
use Rattle.std.specs.Prelude.{◌≡◌, ℕ, List, [], ◌∷◌, ◌++◌, codes, replicate}
use Rattle.sha2.specs.Sha256.{sha256}
use Rattle.satp_base.specs.Canonical.{canonical}
use Rattle.satp_base.specs.Chains.{ChainOf, head_of, link_of, role_at, texts_of, zero_link}
use Rattle.satp_base.specs.Signatures.{encoded, hmac, jws, key_block, own, own_header, short_key}
use Rattle.satp_base.specs.declared.message.Body.TheVariants as body
use Rattle.satp_base.specs.declared.message.Kind.TheVariants.{TransferProposal, ProposalReceipt, TransferCommence}
use Rattle.satp_base.specs.declared.message.Message.{Message}
use Rattle.satp_base.specs.declared.message.Part.{Part}
use Rattle.satp_base.specs.declared.message.Part.TheVariants.{Proposal, Plain}
use Rattle.satp_base.specs.declared.message.Role.TheVariants.{Origin, Recipient}
use Rattle.satp_examples.specs.Samples.{alpha, alpha_1, beta, quarter}

-- ---- signatures

pub record ShapesOfSignatures : Type 0 where
  -- base64url without padding
  pub one_byte : encoded (codes "f") ≡ codes "Zg"
  pub other_alphabet : encoded (251 ∷ 255 ∷ 191 ∷ []) ≡ codes "-_-_"
  pub header : encoded own_header ≡ codes "eyJhbGciOiJIUzI1NiJ9"
  -- three parts with a full stop between them, and the last is of the first two
  pub parts : (key header payload : List ℕ) → jws key header payload ≡ encoded header ++ 46 ∷ encoded payload ++ 46 ∷ encoded (hmac key (encoded header ++ 46 ∷ encoded payload))
  pub own_text : (key : List ℕ) (m : Message) → own key m ≡ jws key (codes "{\"alg\":\"HS256\"}") (canonical m)
  -- a key is one block: zeros behind up to 64 bytes, and a hash of more
  pub block_of_32 : key_block (replicate 32 7) ≡ replicate 32 7 ++ replicate 32 0
  pub key_of_64 : short_key (replicate 64 7) ≡ replicate 64 7
  pub key_of_65 : short_key (replicate 65 7) ≡ sha256 (replicate 65 7)

-- ---- a chain

abbrev pub proposal : Part
proposal = Proposal quarter

abbrev pub receipt : Part
receipt = Plain ProposalReceipt

abbrev pub first_text : List ℕ → List ℕ
first_text key = own key (record { session = alpha_1; sender = alpha; receiver = beta; body = body.Chain 1 zero_link proposal })

-- the recipient's, at place 2, with the link of the first
abbrev pub second_text : List ℕ → List ℕ
second_text key = own key (record { session = alpha_1; sender = beta; receiver = alpha; body = body.Chain 2 (link_of (first_text key)) receipt })

abbrev pub IsChain : List ℕ → List Part → List (List ℕ) → Type 0
IsChain key parts texts = ChainOf alpha_1 beta key parts texts

pub record ChainsOfTexts : Type 0 where
  pub two : (key : List ℕ) → texts_of alpha_1 beta key (proposal ∷ receipt ∷ []) ≡ first_text key ∷ second_text key ∷ []
  pub none : (key : List ℕ) → IsChain key [] []
  pub of_two : (key : List ℕ) → IsChain key (proposal ∷ receipt ∷ []) (first_text key ∷ second_text key ∷ [])
  pub head : (key : List ℕ) → head_of (first_text key ∷ second_text key ∷ []) ≡ record { length = 2; last = link_of (second_text key); before = link_of (first_text key) }
  pub head_of_none : head_of [] ≡ record { length = 0; last = zero_link; before = zero_link }
  -- a text is missing, or one too many is there
  pub not_without_the_last : (key : List ℕ) → ¬ IsChain key (proposal ∷ receipt ∷ []) (first_text key ∷ [])
  pub not_with_another : (key text : List ℕ) → ¬ IsChain key (proposal ∷ []) (first_text key ∷ text ∷ [])
  -- the kinds are no tale, or a part has no form
  pub not_past_a_kind : (key : List ℕ) (texts : List (List ℕ)) → ¬ IsChain key (proposal ∷ Plain TransferCommence ∷ []) texts
  pub not_without_terms : (key : List ℕ) (texts : List (List ℕ)) → ¬ IsChain key (Plain TransferProposal ∷ []) texts
  pub first_is_the_origins : role_at 1 ≡ Origin
  pub second_is_the_recipients : role_at 2 ≡ Recipient
