-- How long texts are.
use Rattle.std.specs.Prelude.{◌≡◌, ℕ, ◌≤◌, true, List, length}
use Rattle.satp_base.specs.Forms.{IsMessage, is_entry}
use Rattle.satp_base.specs.Signatures.{jws, own}
use Rattle.satp_base.specs.Verdicts.{IsChainBody}
use Rattle.satp_base.specs.declared.message.Message.{Message}

-- the most bytes of the signed text of a chain message, and of that of any message
abbrev pub longest_chain_text : ℕ
longest_chain_text = 643

abbrev pub longest_own_text : ℕ
longest_own_text = 5815

-- the signed text of a chain message is short, and an update may carry it
abbrev pub ChainTextsAreEntries : Type 0
ChainTextsAreEntries =
    (key : List ℕ) (m : Message) → IsMessage m → IsChainBody m.body
    → (1 ≤ length (own key m)) × (length (own key m) ≤ longest_chain_text) × (is_entry (own key m) ≡ true)

abbrev pub OwnTextsAreShort : Type 0
OwnTextsAreShort = (key : List ℕ) (m : Message) → IsMessage m → length (own key m) ≤ longest_own_text

-- a text is no shorter than the payload that it shows
abbrev pub PayloadsAreShorter : Type 0
PayloadsAreShorter = (key header payload : List ℕ) → length payload ≤ length (jws key header payload)
