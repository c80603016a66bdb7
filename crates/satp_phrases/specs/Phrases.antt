-- The words in which a refusal is told.
use Rattle.std.specs.Prelude.{ℕ, List, [], ◌∷◌, ◌++◌, decimal}
use Rattle.satp_base.specs.Canonical.{member_text}
use Rattle.satp_base.specs.Values.{session_text}
use Rattle.satp_phrases.specs.declared.phrase.Detail.{Detail}
use Rattle.satp_phrases.specs.declared.phrase.Detail.TheVariants.{Nothing, Number, Member, Session}
use Rattle.satp_phrases.specs.declared.phrase.Phrase.{Phrase}

-- words, and what they speak of
pub record Words : Type 0 where
  pub text : List ℕ
  pub detail : Detail

abbrev pub words_of : Phrase → Words
words_of phrase = record { text = phrase.text.now; detail = phrase.detail }

abbrev pub detail_text : Detail → List ℕ
detail_text Nothing = []
detail_text (Number number) = decimal number
detail_text (Member member) = member_text member
detail_text (Session session) = session_text session

abbrev pub phrase_text : Words → List ℕ
phrase_text words = words.text ++ detail_text words.detail

-- the body of an answer that refuses: the words, and a line feed
abbrev pub refusal_body : Words → List ℕ
refusal_body words = phrase_text words ++ 10 ∷ []
