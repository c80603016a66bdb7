-- The lines of a session.
use Rattle.std.specs.Prelude.{ℕ, ◌+◌, List, [], ◌∷◌, ◌++◌, codes, decimal, Option, None, Some, if◌then◌else◌}
use Rattle.satp_base.specs.Canonical.{kind_text}
use Rattle.satp_base.specs.Tales.{is_committed, is_rolled_back}
use Rattle.satp_base.specs.Values.{amount_text, name_text, session_text}
use Rattle.satp_base.specs.declared.ledger.Entry.{Entry}
use Rattle.satp_base.specs.declared.ledger.Entry.TheVariants.{Absent, Locked, Burnt, Minted, Assigned, Released}
use Rattle.satp_base.specs.declared.message.Kind.{Kind}
use Rattle.satp_base.specs.declared.message.Terms.{Terms}
use Rattle.satp_base.specs.declared.record.Way.{Way}
use Rattle.satp_base.specs.declared.record.Way.TheVariants.{Commit, Back}
use Rattle.satp_base.specs.declared.session.SessionId.{SessionId}
use Rattle.satp_base.specs.declared.view.View.{View}
use Rattle.satp_phrases.specs.Roles.{role_text}

abbrev pub line : List ℕ → List ℕ → List ℕ
line word text = word ++ (text ++ 10 ∷ [])

-- <amount> <asset>
abbrev pub units_text : Terms → List ℕ
units_text terms = amount_text terms.amount ++ (codes " " ++ name_text terms.asset)

-- <originator> to <beneficiary>
abbrev pub owners_text : Terms → List ℕ
owners_text terms = name_text terms.originator ++ (codes " to " ++ name_text terms.beneficiary)

abbrev pub terms_text : Terms → List ℕ
terms_text terms = units_text terms ++ (codes " from " ++ owners_text terms)

abbrev pub entry_text : Entry → List ℕ
entry_text Absent = codes "absent"
entry_text Locked = codes "locked"
entry_text Burnt = codes "burnt"
entry_text Minted = codes "minted"
entry_text Assigned = codes "assigned"
entry_text Released = codes "released"

abbrev pub decision_text : Option Way → List ℕ
decision_text None = codes "none"
decision_text (Some Commit) = codes "commit"
decision_text (Some (Back cause)) = codes "back"

abbrev pub state_text : List Kind → List ℕ
state_text tale = if is_committed tale then codes "committed" else if is_rolled_back tale then codes "rolled back" else codes "open"

-- the message at a place
abbrev pub place_line : ℕ → Kind → List ℕ
place_line place kind = decimal place ++ (codes " " ++ (kind_text kind ++ 10 ∷ []))

-- the chain's messages, the first of which is at this place
abbrev pub place_lines : ℕ → List Kind → List ℕ
place_lines place [] = []
place_lines place (kind ∷ tale) = place_line place kind ++ place_lines (place + 1) tale

-- the lines in front of the chain
abbrev pub first_lines : SessionId → View → Entry → List ℕ
first_lines session view entry =
    line (codes "session ") (session_text session)
    ++ (line (codes "role ") (role_text view.role)
    ++ (line (codes "terms ") (terms_text view.terms)
    ++ (line (codes "entry ") (entry_text entry)
    ++ line (codes "decision ") (decision_text view.way))))

-- what `show` prints of a session, by what the records say of it and its entry in the ledger
abbrev pub show_lines : SessionId → View → Entry → List ℕ
show_lines session view entry = first_lines session view entry ++ (place_lines 1 view.tale ++ line (codes "state ") (state_text view.tale))
