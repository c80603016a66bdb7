-- What the members of a message are as JSON values.
use Rattle.std.specs.Prelude.{◌≡◌, ℕ, List, [], ◌∷◌, Option, Some, is_some, unwrap_or, IsTrue}
use Rattle.std.specs.List.{AllByRecursion}
use Rattle.serde_json.specs.Data as json
use Rattle.serde_json.specs.Data.{Data}
use Rattle.serde_json.specs.Find.{as_object, as_str, get}
use Rattle.satp_base.specs.Canonical.{Scalar, number, word, Value, scalar, words, fields, canonical, kind_of, member_text, row, value}
use Rattle.satp_base.specs.Forms.{IsMessage}
use Rattle.satp_base.specs.declared.message.Message.{Message}
use Rattle.satp_canon.specs.FirstFault.{common, json_of, written}

abbrev pub scalar_data : Scalar → Data
scalar_data (number n) = json.number (json.unsigned n)
scalar_data (word bytes) = json.string bytes

abbrev pub word_items : List (List ℕ) → json.Items
word_items [] = json.no_items
word_items (w ∷ ws) = json.item (json.string w) (word_items ws)

-- the text of an entry
abbrev pub entry_of : Data → List ℕ
entry_of d = unwrap_or (as_str d) []

-- what was found is the value
abbrev pub Holds : Value → Option Data → Type 0
Holds (scalar s) found = found ≡ Some (scalar_data s)
Holds (words ws) found = found ≡ Some (json.array (word_items ws))
Holds (fields fs) found = (d : Data) × (found ≡ Some d) × IsTrue (is_some (as_object d)) × AllByRecursion (λ f. get (member_text f.0) d ≡ Some (scalar_data f.1)) fs

-- each member of the message's kind stands in the object with its value
abbrev pub Reads : Message → Data → Type 0
Reads m d = AllByRecursion (λ n. Holds (value m n) (get (member_text n) d)) (row (kind_of m.body))

-- what is written for the values of a message is its canonical text
abbrev pub WritesItsText : Type 0
WritesItsText = (m : Message) (d : Data) → IsMessage m → Reads m d → written d ≡ canonical m

-- the JSON value that the bytes are holds a message, from whose canonical text they differ first at this place
pub record DiffersAt (text : List ℕ) (at : ℕ) : Type 0 where
  pub message : Message
  pub formed : IsMessage message
  pub holds : (d : Data) → json_of text ≡ Some d → Reads message d
  pub first : at ≡ common text (canonical message)
