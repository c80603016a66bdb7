-- The first word picks a command, and its options have its values.
use Rattle.std.proofs.Common.{◌≡◌, ◌≢◌, ◌∙◌, ◌+◌, List, [], ◌∷◌, length, Option, Some, None, Result, Ok, Err, codes, false, true, refl, ap, subst, sym, arith}
use Rattle.std.specs.Prelude.{ℕ, if◌then◌else◌, slice_get}
use Rattle.std.specs.Str.{bytes_eq}
use Rattle.std.specs.Result.{IsErrAnd}
use Rattle.clap.specs.Words.{Text, first_of, first_value, found_of}
use Rattle.clap.specs.declared.parser.matches.ArgMatches.{ArgMatches}
use Rattle.clap.proofs.WalkLemmas.{first_value-rows}
use Rattle.satp_base.specs.Values.{name_text}
use Rattle.satp_base.proofs.Exact.{same_text}
use Rattle.satp_base.proofs.Equalities.{equal_names, name_test}
use Rattle.satp_base.specs.declared.fault.NameFault.{NameFault}
use Rattle.satp_base.specs.declared.address.Address.{Address}
use Rattle.satp_base.specs.declared.amount.Amount.{Amount}
use Rattle.satp_base.specs.declared.ledger.LedgerKind.{LedgerKind}
use Rattle.satp_base.specs.declared.name.Name.{Name}
use Rattle.satp_base.specs.declared.session.SessionId.{SessionId}
use Rattle.satp_words.specs.Options.{HasMatches, IsUtf8All, value}
use Rattle.satp_words.specs.Commands.{Begins, HasOptions, HasValues, IsCommand, IsListed, NotListed, form, verb_of, verb_text}
use Rattle.satp_words.specs.declared.command.Command.{Command}
use Rattle.satp_words.specs.declared.command.Command.TheVariants.{Answer, Check, Init, Serve, Start, Resume, Recover, Abort, Show, Replay, Drill}
use Rattle.satp_words.specs.declared.verbs.Verb.{Verb}
use Rattle.satp_words.specs.declared.verbs.Verb.TheVariants as verb

pub same_some : {X : Type 0} (a b : X) → Some a ≡ Some b → a ≡ b
same_some a b e = cc

-- ---- a first word names one command

-- the first word of a command, `answer` if it takes no options
abbrev first_text : Option Verb → Text
first_text None = codes "answer"
first_text (Some v) = verb_text v

abbrev verb_at : Text → Option (Option Verb)
verb_at w =
    if bytes_eq w (codes "answer") then Some None
    else (if bytes_eq w (codes "check") then Some (Some verb.Check)
    else (if bytes_eq w (codes "init") then Some (Some verb.Init)
    else (if bytes_eq w (codes "serve") then Some (Some verb.Serve)
    else (if bytes_eq w (codes "start") then Some (Some verb.Start)
    else (if bytes_eq w (codes "resume") then Some (Some verb.Resume)
    else (if bytes_eq w (codes "recover") then Some (Some verb.Recover)
    else (if bytes_eq w (codes "abort") then Some (Some verb.Abort)
    else (if bytes_eq w (codes "show") then Some (Some verb.Show)
    else (if bytes_eq w (codes "replay") then Some (Some verb.Replay)
    else (if bytes_eq w (codes "drill") then Some (Some verb.Drill) else None))))))))))

at_text : (v : Option Verb) → verb_at (first_text v) ≡ Some v
at_text None = refl
at_text (Some verb.Check) = refl
at_text (Some verb.Init) = refl
at_text (Some verb.Serve) = refl
at_text (Some verb.Start) = refl
at_text (Some verb.Resume) = refl
at_text (Some verb.Recover) = refl
at_text (Some verb.Abort) = refl
at_text (Some verb.Show) = refl
at_text (Some verb.Replay) = refl
at_text (Some verb.Drill) = refl

same_verb : (v w : Option Verb) → first_text v ≡ first_text w → v ≡ w
same_verb v w e = same_some _ _ (sym (at_text v) ∙ ap verb_at e ∙ at_text w)

first_or : List Text → Text
first_or [] = []
first_or (w ∷ ws) = w

one_first : (words : List Text) (a b : Text) → Begins words a → Begins words b → a ≡ b
unfolding first_or
one_first words a b p q = ap first_or (sym p.1 ∙ q.1)

begins_of : (words : List Text) (c : Command) → IsListed words c → Begins words (first_text (verb_of c))
begins_of words (Answer name) l = (name_text name ∷ [], l)
begins_of words (Check key) l = l.is_command.first
begins_of words (Init dir name peer at key ledger) l = l.is_command.first
begins_of words (Serve dir listen connections) l = l.is_command.first
begins_of words (Start dir number amount asset from to) l = l.is_command.first
begins_of words (Resume dir session) l = l.is_command.first
begins_of words (Recover dir session) l = l.is_command.first
begins_of words (Abort dir session) l = l.is_command.first
begins_of words (Show dir session) l = l.is_command.first
begins_of words Replay l = l.is_command.first
begins_of words (Drill seed) l = l.is_command.first

-- the first word of a listed command is its verb
pub is_verb : (words : List Text) (v : Option Verb) → Begins words (first_text v) → (c : Command) → IsListed words c → verb_of c ≡ v
is_verb words v b c l = same_verb (verb_of c) v (one_first words _ _ (begins_of words c l) b)

pub is_of_verb : (words : List Text) (v : Verb) → Begins words (verb_text v) → (c : Command) → IsListed words c → verb_of c ≡ Some v
is_of_verb words v = is_verb words (Some v)

-- no words list none, and neither do those that begin with no verb
pub none_listed : (words : List Text) → None ≡ slice_get words 0 → NotListed words
none_listed words none c l = let some : None ≡ Some (first_text (verb_of c)) = none ∙ ap (λ ws. slice_get ws 0) (begins_of words c l).1 in cc

pub no_verb : (words : List Text) (w : Text) → Some w ≡ slice_get words 0 → w ≢ codes "answer" → ((v : Verb) → w ≢ verb_text v) → NotListed words
no_verb words w got not_answer other c l = not_first (verb_of c) (same_some w _ (got ∙ ap (λ ws. slice_get ws 0) (begins_of words c l).1))
  where
    not_first : (v : Option Verb) → w ≢ first_text v
    not_first None = not_answer
    not_first (Some v) = other v

-- the first word
pub begins : (words : List Text) (w name : Text) → Some w ≡ slice_get words 0 → w ≡ name → Begins words name
begins [] w name g e = absurd cc
begins (x ∷ xs) w name g e = (xs, ap (λ y. y ∷ xs) (sym (same_some w x g) ∙ e))

-- ---- `answer`

pub only_answer : (words : List Text) → Begins words (codes "answer") → ((name : Name) → words ≢ codes "answer" ∷ name_text name ∷ []) → NotListed words
only_answer words b h c l = of_none c (is_verb words None b c l) l
  where
    of_none : (c : Command) → verb_of c ≡ None → ¬ IsListed words c
    of_none (Answer name) e l = h name l
    of_none (Check key) e l = cc
    of_none (Init dir name peer at key ledger) e l = cc
    of_none (Serve dir listen connections) e l = cc
    of_none (Start dir number amount asset from to) e l = cc
    of_none (Resume dir session) e l = cc
    of_none (Recover dir session) e l = cc
    of_none (Abort dir session) e l = cc
    of_none (Show dir session) e l = cc
    of_none Replay e l = cc
    of_none (Drill seed) e l = cc

pub two : (a : Text) (rest words : List Text) (w : Text) → words ≡ a ∷ rest → length words ≡ 2 → Some w ≡ slice_get words 1 → words ≡ a ∷ w ∷ []
two a [] words w e l g = let bad : length words ≡ 1 = ap length e in absurd (omega arith)
two a (r ∷ []) words w e l g = e ∙ ap (λ x. a ∷ x ∷ []) (sym (same_some w r (g ∙ ap (λ ws. slice_get ws 1) e)))
two a (r ∷ s ∷ rest) words w e l g = let bad : length words ≡ length rest + 3 = ap length e ∙ omega arith in absurd (omega arith)

not_both : {T E : Type 0} (x : Result T E) (t : T) (d : E) → x ≡ Ok t → x ≡ Err d → ⊥
not_both x t d p q = absurd cc

-- the second word is no name
pub no_answer : (words : List Text) (w : Text) (f : NameFault) (r : Result Name NameFault) → Some w ≡ slice_get words 1 → r ≡ Err f → ((n : Name) → w ≡ name_text n → r ≡ Ok n) → (name : Name) → words ≢ codes "answer" ∷ name_text name ∷ []
no_answer words w f r got is complete name e = not_both r name f (complete name (same_some w _ (got ∙ ap (λ ws. slice_get ws 1) e))) is

-- ---- options

-- the error that a `?` hands on
pub handed : {T E : Type 0} (r : Result T E) (P : E → Type 0) (b : E) → IsErrAnd r P → r ≡ Err b → P b
handed r P b h e = subst (λ x. IsErrAnd x P) e h

error_or : {T E : Type 0} → E → Result T E → E
error_or d (Ok t) = d
error_or d (Err e) = e

pub same_error : {T E : Type 0} (a b : E) (r : Result T E) → r ≡ Err a → r ≡ Err b → a ≡ b
unfolding error_or
same_error a b r e f = ap (error_or a) (sym e ∙ f)

pub is_command : (v : Verb) (words : List Text) (m : ArgMatches) → Begins words (verb_text v) → IsUtf8All words → HasMatches (form v) words m → IsCommand (verb_text v) (form v) words
is_command v words m first utf8 matches = record { first = first; utf8 = utf8; taken = matches.taken }

-- the value of the option is the one that was found
pub value_is : (v : Verb) (words : List Text) (m : ArgMatches) (id : Text) → HasMatches (form v) words m → first_value (found_of m) id ≡ value (form v) words id
value_is v words m id h = first_value-rows (found_of m) id ∙ ap (first_of id) h.rows

pub same_values : (v w : Text → Option Text) → ((id : Text) → v id ≡ w id) → (c : Command) → HasValues v c → HasValues w c
same_values v w e c h = subst (λ (u : Text → Option Text). HasValues u c) (λ i id. e id i) h

-- the text of an option is none that a reader takes
pub no_value : {T E : Type 0} (text_of : T → Text) (v : Option Text) (t : Text) (r : Result T E) (f : E) → Some t ≡ v → r ≡ Err f → ((x : T) → t ≡ text_of x → r ≡ Ok x) → (x : T) → v ≢ Some (text_of x)
no_value text_of v t r f got is complete x e = not_both r x f (complete x (same_some t (text_of x) (got ∙ e))) is

pub differ : (a b : Name) → false ≡ name_test a b → a ≢ b
differ a b e same = let bad : false ≡ true = (equal_names a b false e).1 same in absurd cc

-- the names of two options are one
pub one_name : (v w : Option Text) (a b x y : Name) → v ≡ Some (name_text a) → w ≡ Some (name_text b) → v ≡ Some (name_text x) → w ≡ Some (name_text y) → a ≡ b → x ≡ y
one_name v w a b x y va wb vx wy e = sym (same_text a x (same_some _ _ (sym va ∙ vx))) ∙ e ∙ same_text b y (same_some _ _ (sym wb ∙ wy))

-- ---- commands of a verb

-- this holds of each command of a verb
abbrev Each : (Command → Type 0) → Option Verb → Type 0
Each P None = (name : Name) → P (Answer name)
Each P (Some verb.Check) = (key : Option (List ℕ)) → P (Check key)
Each P (Some verb.Init) = (dir : List ℕ) (name peer : Name) (at : Address) (key : List ℕ) (ledger : LedgerKind) → P (Init dir name peer at key ledger)
Each P (Some verb.Serve) = (dir : List ℕ) (listen : Address) (connections : ℕ) → P (Serve dir listen connections)
Each P (Some verb.Start) = (dir : List ℕ) (number : ℕ) (amount : Amount) (asset from to : Name) → P (Start dir number amount asset from to)
Each P (Some verb.Resume) = (dir : List ℕ) (session : SessionId) → P (Resume dir session)
Each P (Some verb.Recover) = (dir : List ℕ) (session : SessionId) → P (Recover dir session)
Each P (Some verb.Abort) = (dir : List ℕ) (session : SessionId) → P (Abort dir session)
Each P (Some verb.Show) = (dir : List ℕ) (session : SessionId) → P (Show dir session)
Each P (Some verb.Replay) = P Replay
Each P (Some verb.Drill) = (seed : ℕ) → P (Drill seed)

pub of_verb : (P : Command → Type 0) (v : Option Verb) → Each P v → (c : Command) → verb_of c ≡ v → P c
of_verb P v h (Answer name) e = subst (Each P) (sym e) h name
of_verb P v h (Check key) e = subst (Each P) (sym e) h key
of_verb P v h (Init dir name peer at key ledger) e = subst (Each P) (sym e) h dir name peer at key ledger
of_verb P v h (Serve dir listen connections) e = subst (Each P) (sym e) h dir listen connections
of_verb P v h (Start dir number amount asset from to) e = subst (Each P) (sym e) h dir number amount asset from to
of_verb P v h (Resume dir session) e = subst (Each P) (sym e) h dir session
of_verb P v h (Recover dir session) e = subst (Each P) (sym e) h dir session
of_verb P v h (Abort dir session) e = subst (Each P) (sym e) h dir session
of_verb P v h (Show dir session) e = subst (Each P) (sym e) h dir session
of_verb P v h Replay e = subst (Each P) (sym e) h
of_verb P v h (Drill seed) e = subst (Each P) (sym e) h seed

-- words list a command of a verb exactly if they are of that verb and its options have the values
pub options_of : (v : Verb) (words : List Text) (c : Command) → verb_of c ≡ Some v → IsListed words c → HasOptions v words c
options_of v words (Answer name) e l = absurd cc
options_of v words (Check key) e l = subst (λ w. HasOptions w words (Check key)) (same_some _ _ e) l
options_of v words (Init dir name peer at key ledger) e l = subst (λ w. HasOptions w words (Init dir name peer at key ledger)) (same_some _ _ e) l
options_of v words (Serve dir listen connections) e l = subst (λ w. HasOptions w words (Serve dir listen connections)) (same_some _ _ e) l
options_of v words (Start dir number amount asset from to) e l = subst (λ w. HasOptions w words (Start dir number amount asset from to)) (same_some _ _ e) l
options_of v words (Resume dir session) e l = subst (λ w. HasOptions w words (Resume dir session)) (same_some _ _ e) l
options_of v words (Recover dir session) e l = subst (λ w. HasOptions w words (Recover dir session)) (same_some _ _ e) l
options_of v words (Abort dir session) e l = subst (λ w. HasOptions w words (Abort dir session)) (same_some _ _ e) l
options_of v words (Show dir session) e l = subst (λ w. HasOptions w words (Show dir session)) (same_some _ _ e) l
options_of v words Replay e l = subst (λ w. HasOptions w words Replay) (same_some _ _ e) l
options_of v words (Drill seed) e l = subst (λ w. HasOptions w words (Drill seed)) (same_some _ _ e) l

listed_by : (words : List Text) (v : Verb) (c : Command) → HasOptions v words c → verb_of c ≡ Some v → IsListed words c
listed_by words verb.Check c o e = of_verb (λ c. HasOptions verb.Check words c → IsListed words c) (Some verb.Check) (λ key o. o) c e o
listed_by words verb.Init c o e = of_verb (λ c. HasOptions verb.Init words c → IsListed words c) (Some verb.Init) (λ dir name peer at key ledger o. o) c e o
listed_by words verb.Serve c o e = of_verb (λ c. HasOptions verb.Serve words c → IsListed words c) (Some verb.Serve) (λ dir listen connections o. o) c e o
listed_by words verb.Start c o e = of_verb (λ c. HasOptions verb.Start words c → IsListed words c) (Some verb.Start) (λ dir number amount asset from to o. o) c e o
listed_by words verb.Resume c o e = of_verb (λ c. HasOptions verb.Resume words c → IsListed words c) (Some verb.Resume) (λ dir session o. o) c e o
listed_by words verb.Recover c o e = of_verb (λ c. HasOptions verb.Recover words c → IsListed words c) (Some verb.Recover) (λ dir session o. o) c e o
listed_by words verb.Abort c o e = of_verb (λ c. HasOptions verb.Abort words c → IsListed words c) (Some verb.Abort) (λ dir session o. o) c e o
listed_by words verb.Show c o e = of_verb (λ c. HasOptions verb.Show words c → IsListed words c) (Some verb.Show) (λ dir session o. o) c e o
listed_by words verb.Replay c o e = of_verb (λ c. HasOptions verb.Replay words c → IsListed words c) (Some verb.Replay) (λ o. o) c e o
listed_by words verb.Drill c o e = of_verb (λ c. HasOptions verb.Drill words c → IsListed words c) (Some verb.Drill) (λ seed o. o) c e o

pub listed : (words : List Text) (v : Verb) (c : Command) → IsCommand (verb_text v) (form v) words → (verb_of c ≡ Some v) × HasValues (value (form v) words) c → IsListed words c
listed words v c k (e, h) = listed_by words v c (record { is_command = k; has_values = h }) e

-- words that begin with a verb list no command where they list none of that verb
pub only : (words : List Text) (v : Verb) → Begins words (verb_text v) → ((c : Command) → verb_of c ≡ Some v → IsCommand (verb_text v) (form v) words → ¬ HasValues (value (form v) words) c) → NotListed words
only words v b h c l =
    let e = is_of_verb words v b c l in
    let o = options_of v words c e l in
    h c e o.is_command o.has_values
