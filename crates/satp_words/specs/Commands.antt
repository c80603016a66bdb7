-- Which words list which command.
use Rattle.std.specs.Prelude.{◌≡◌, ◌≤◌, ℕ, List, [], ◌∷◌, length, codes, decimal, Option, Some, None, true, false, ◌≢◌}
use Rattle.base64.specs.GeneralPurpose.{IsBytes}
use Rattle.clap.specs.Words.{App, Rule, Text}
use Rattle.satp_base.specs.Numbers.{greatest_number}
use Rattle.satp_base.specs.Signatures.{encoded}
use Rattle.satp_base.specs.Values.{address_text, amount_text, name_text, session_text}
use Rattle.satp_base.specs.declared.address.Address.{Address}
use Rattle.satp_base.specs.declared.amount.Amount.{Amount}
use Rattle.satp_base.specs.declared.ledger.LedgerKind.{LedgerKind}
use Rattle.satp_base.specs.declared.ledger.LedgerKind.TheVariants.{Accounts, Outputs}
use Rattle.satp_base.specs.declared.name.Name.{Name}
use Rattle.satp_base.specs.declared.session.SessionId.{SessionId}
use Rattle.satp_words.specs.Options.{IsUtf8All, Takes, app, named, value}
use Rattle.satp_words.specs.declared.command.Command.{Command}
use Rattle.satp_words.specs.declared.command.Command.TheVariants.{Answer, Check, Init, Serve, Start, Resume, Recover, Abort, Show, Replay, Drill}
use Rattle.satp_words.specs.declared.verbs.Verb.{Verb}
use Rattle.satp_words.specs.declared.verbs.Verb.TheVariants as verb

-- ---- the commands that take options

-- the first word of each
abbrev pub verb_text : Verb → Text
verb_text verb.Check = codes "check"
verb_text verb.Init = codes "init"
verb_text verb.Serve = codes "serve"
verb_text verb.Start = codes "start"
verb_text verb.Resume = codes "resume"
verb_text verb.Recover = codes "recover"
verb_text verb.Abort = codes "abort"
verb_text verb.Show = codes "show"
verb_text verb.Replay = codes "replay"
verb_text verb.Drill = codes "drill"

-- an option that has to be there
abbrev pub needed : Text → Rule
needed name = named name true

-- a session in a directory
abbrev pub of_session : List Rule
of_session = needed (codes "dir") ∷ needed (codes "session") ∷ []

-- the options of each
abbrev pub options : Verb → List Rule
options verb.Check = named (codes "key") false ∷ []
options verb.Init = needed (codes "dir") ∷ needed (codes "name") ∷ needed (codes "peer") ∷ needed (codes "at") ∷ needed (codes "key") ∷ needed (codes "ledger") ∷ []
options verb.Serve = needed (codes "dir") ∷ needed (codes "listen") ∷ needed (codes "connections") ∷ []
options verb.Start = needed (codes "dir") ∷ needed (codes "number") ∷ needed (codes "amount") ∷ needed (codes "asset") ∷ needed (codes "from") ∷ needed (codes "to") ∷ []
options verb.Resume = of_session
options verb.Recover = of_session
options verb.Abort = of_session
options verb.Show = of_session
options verb.Replay = []
options verb.Drill = needed (codes "seed") ∷ []

abbrev pub form : Verb → App
form v = app (verb_text v) (options v)

-- ---- what the options have

-- the base64url (RFC 4648, section 5) of 32 to 64 bytes, without padding
pub record IsKey (text key : List ℕ) : Type 0 where
  pub is_text : text ≡ encoded key
  pub least : 32 ≤ length key
  pub most : length key ≤ 64
  pub bytes : IsBytes key

-- an option that may be left out
abbrev pub MayBe : (Text → List ℕ → Type 0) → Option Text → Option (List ℕ) → Type 0
MayBe Reads None None = Unit {0}
MayBe Reads None (Some v) = ⊥
MayBe Reads (Some text) None = ⊥
MayBe Reads (Some text) (Some v) = Reads text v

abbrev pub ledger_text : LedgerKind → Text
ledger_text Accounts = codes "accounts"
ledger_text Outputs = codes "outputs"

-- a number of this range, in decimal
pub record IsNumber (low high : ℕ) (value : Option Text) (number : ℕ) : Type 0 where
  pub is_text : value ≡ Some (decimal number)
  pub least : low ≤ number
  pub most : number ≤ high

pub record InitValues (values : Text → Option Text) (dir : List ℕ) (name peer : Name) (at : Address) (key : List ℕ) (ledger : LedgerKind) : Type 0 where
  pub has_dir : values (codes "dir") ≡ Some dir
  pub has_name : values (codes "name") ≡ Some (name_text name)
  pub has_peer : values (codes "peer") ≡ Some (name_text peer)
  pub has_at : values (codes "at") ≡ Some (address_text at)
  pub has_key : (text : Text) × (values (codes "key") ≡ Some text) × IsKey text key
  pub has_ledger : values (codes "ledger") ≡ Some (ledger_text ledger)
  pub apart : peer ≢ name

pub record ServeValues (values : Text → Option Text) (dir : List ℕ) (listen : Address) (connections : ℕ) : Type 0 where
  pub has_dir : values (codes "dir") ≡ Some dir
  pub has_listen : values (codes "listen") ≡ Some (address_text listen)
  pub has_connections : IsNumber 1 1000000 (values (codes "connections")) connections

pub record StartValues (values : Text → Option Text) (dir : List ℕ) (number : ℕ) (amount : Amount) (asset from to : Name) : Type 0 where
  pub has_dir : values (codes "dir") ≡ Some dir
  pub has_number : IsNumber 1 greatest_number (values (codes "number")) number
  pub has_amount : values (codes "amount") ≡ Some (amount_text amount)
  pub has_asset : values (codes "asset") ≡ Some (name_text asset)
  pub has_from : values (codes "from") ≡ Some (name_text from)
  pub has_to : values (codes "to") ≡ Some (name_text to)

pub record SessionValues (values : Text → Option Text) (dir : List ℕ) (session : SessionId) : Type 0 where
  pub has_dir : values (codes "dir") ≡ Some dir
  pub has_session : values (codes "session") ≡ Some (session_text session)

-- `answer` has no options
abbrev pub HasValues : (Text → Option Text) → Command → Type 0
HasValues values (Answer name) = ⊥
HasValues values (Check key) = MayBe IsKey (values (codes "key")) key
HasValues values (Init dir name peer at key ledger) = InitValues values dir name peer at key ledger
HasValues values (Serve dir listen connections) = ServeValues values dir listen connections
HasValues values (Start dir number amount asset from to) = StartValues values dir number amount asset from to
HasValues values (Resume dir session) = SessionValues values dir session
HasValues values (Recover dir session) = SessionValues values dir session
HasValues values (Abort dir session) = SessionValues values dir session
HasValues values (Show dir session) = SessionValues values dir session
HasValues values Replay = Unit {0}
HasValues values (Drill seed) = IsNumber 0 greatest_number (values (codes "seed")) seed

-- ---- which words list which command

abbrev pub verb_of : Command → Option Verb
verb_of (Answer name) = None
verb_of (Check key) = Some verb.Check
verb_of (Init dir name peer at key ledger) = Some verb.Init
verb_of (Serve dir listen connections) = Some verb.Serve
verb_of (Start dir number amount asset from to) = Some verb.Start
verb_of (Resume dir session) = Some verb.Resume
verb_of (Recover dir session) = Some verb.Recover
verb_of (Abort dir session) = Some verb.Abort
verb_of (Show dir session) = Some verb.Show
verb_of Replay = Some verb.Replay
verb_of (Drill seed) = Some verb.Drill

-- the first word is this one
abbrev pub Begins : List Text → Text → Type 0
Begins words name = (rest : List Text) × (words ≡ name ∷ rest)

-- the words are text, the first is the command's name, and its options take the rest
pub record IsCommand (name : Text) (a : App) (words : List Text) : Type 0 where
  pub first : Begins words name
  pub utf8 : IsUtf8All words
  pub taken : Takes a words

-- the words are those of this verb, and its options have the values of the command
pub record HasOptions (v : Verb) (words : List Text) (command : Command) : Type 0 where
  pub is_command : IsCommand (verb_text v) (form v) words
  pub has_values : HasValues (value (form v) words) command

-- the words list this command
abbrev pub IsListed : List Text → Command → Type 0
IsListed words (Answer name) = words ≡ codes "answer" ∷ name_text name ∷ []
IsListed words (Check key) = HasOptions verb.Check words (Check key)
IsListed words (Init dir name peer at key ledger) = HasOptions verb.Init words (Init dir name peer at key ledger)
IsListed words (Serve dir listen connections) = HasOptions verb.Serve words (Serve dir listen connections)
IsListed words (Start dir number amount asset from to) = HasOptions verb.Start words (Start dir number amount asset from to)
IsListed words (Resume dir session) = HasOptions verb.Resume words (Resume dir session)
IsListed words (Recover dir session) = HasOptions verb.Recover words (Recover dir session)
IsListed words (Abort dir session) = HasOptions verb.Abort words (Abort dir session)
IsListed words (Show dir session) = HasOptions verb.Show words (Show dir session)
IsListed words Replay = HasOptions verb.Replay words Replay
IsListed words (Drill seed) = HasOptions verb.Drill words (Drill seed)

-- they list none
abbrev pub NotListed : List Text → Type 0
NotListed words = (command : Command) → ¬ IsListed words command

-- words list one command at most
abbrev pub OneCommand : Type 0
OneCommand = (words : List Text) (a b : Command) → IsListed words a → IsListed words b → a ≡ b
