-- The command `check`: a canonical text, or a compact JWS of one, is read, and its kind and length are printed.
use Rattle.std.specs.Prelude.{◌≡◌, ℕ, List, [], ◌∷◌, ◌++◌, Some, None, codes, decimal, length}
use Rattle.satp_base.specs.Canonical.{kind_of, kind_text}
use Rattle.satp_base.specs.Signatures.{jws}
use Rattle.satp_base.specs.declared.message.Kind.{Kind}
use Rattle.satp_base.specs.declared.message.Message.{Message}
use Rattle.satp_canon.specs.FirstFault.{first_fault}
use Rattle.satp_jws.specs.Faults.{header_fault, jws_fault, payload_of}
use Rattle.satp_outcome.specs.Texts.{IsOnly}
use Rattle.satp_outcome.specs.declared.outcome.InputEnd.{InputEnd}
use Rattle.satp_outcome.specs.declared.outcome.InputEnd.TheVariants.{Text, Signature}
use Rattle.satp_outcome.specs.declared.reply.Reply.{Reply}
use Rattle.satp_outcome.specs.declared.reply.Reply.TheVariants.{Lines, Refuses}

-- `text transfer-proposal 242 bytes`, and a newline
abbrev pub line : List ℕ → Kind → ℕ → List ℕ
line form kind n = form ++ kind_text kind ++ codes " " ++ decimal n ++ (codes " bytes" ++ 10 ∷ [])

-- ---- without a key

abbrev pub check_refuses : List ℕ → InputEnd → Type 0
check_refuses text (Text fault) = first_fault text ≡ Some fault
check_refuses text _ = ⊥

abbrev pub check_says : List ℕ → Reply → Type 0
check_says text (Lines printed) = (m : Message) × IsOnly text m × (printed ≡ line (codes "text ") (kind_of m.body) (length text))
check_says text (Refuses end) = check_refuses text end

-- ---- with a key

-- the text is the compact JWS of these bytes under the key, with a header that is accepted
pub record IsSigned (key text payload : List ℕ) : Type 0 where
  pub own : payload ≡ payload_of text
  pub header : List ℕ
  pub accepted : header_fault header ≡ None
  pub signed : text ≡ jws key header payload

abbrev pub signed_refuses : List ℕ → List ℕ → InputEnd → Type 0
signed_refuses key text (Signature fault) = jws_fault key text ≡ Some fault
signed_refuses key text (Text fault) = (payload : List ℕ) × IsSigned key text payload × (first_fault payload ≡ Some fault)
signed_refuses key text _ = ⊥

abbrev pub signed_says : List ℕ → List ℕ → Reply → Type 0
signed_says key text (Lines printed) = (payload : List ℕ) × (m : Message) × IsSigned key text payload × IsOnly payload m × (printed ≡ line (codes "jws ") (kind_of m.body) (length text))
signed_says key text (Refuses end) = signed_refuses key text end
