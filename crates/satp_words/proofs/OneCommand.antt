-- Words list one command at most: its first word picks it, and its options have the values of one.
use Rattle.std.proofs.Common.{◌≡◌, ◌≤◌, ◌<◌, ◌^◌, ◌∙◌, ℕ, List, [], ◌∷◌, Option, Some, None, Result, Ok, Err, codes, refl, ap, sym, arith, lit<, lit≤}
use Rattle.std.specs.Prelude.{if◌then◌else◌, IfOk, MatchResult}
use Rattle.std.specs.Str.{bytes_eq}
use Rattle.std.proofs.lemmas.Fmt.{decimal_injective}
use Rattle.clap.specs.Words.{Text}
use Rattle.satp_base.proofs.Exact.{same_address_text, same_amount_text, same_session_text, same_text}
use Rattle.satp_base.proofs.SignatureLemmas.{same_bytes}
use Rattle.satp_base.specs.Numbers.{greatest_number}
use Rattle.satp_base.specs.Values.{name_text}
use Rattle.satp_base.specs.declared.address.Address.{Address}
use Rattle.satp_base.specs.declared.amount.Amount.{Amount}
use Rattle.satp_base.specs.declared.ledger.LedgerKind.{LedgerKind}
use Rattle.satp_base.specs.declared.ledger.LedgerKind.TheVariants.{Accounts, Outputs}
use Rattle.satp_base.specs.declared.name.Name.{Name}
use Rattle.satp_base.specs.declared.session.SessionId.{SessionId}
use Rattle.satp_words.specs.Options.{value}
use Rattle.satp_words.specs.Commands.{HasValues, InitValues, IsKey, IsListed, IsNumber, MayBe, NotListed, OneCommand, ServeValues, SessionValues, StartValues, form, ledger_text, verb_of}
use Rattle.satp_words.specs.declared.command.Command.{Command}
use Rattle.satp_words.specs.declared.command.Command.TheVariants.{Answer, Check, Init, Serve, Start, Resume, Recover, Abort, Show, Replay, Drill}
use Rattle.satp_words.specs.declared.command.WordsFault.{WordsFault}
use Rattle.satp_words.specs.declared.command.WordsFault.TheVariants.{Refused, Memory}
use Rattle.satp_words.specs.declared.verbs.Verb.{Verb}
use Rattle.satp_words.specs.declared.verbs.Verb.TheVariants as verb
use Rattle.satp_words.proofs.Listings.{is_of_verb, is_verb, of_verb, options_of, same_some}

-- ---- the value of an option is that of one

same_key : (value key other : Option Text) → MayBe IsKey value key → MayBe IsKey value other → key ≡ other
same_key None None None a b = refl
same_key None None (Some l) a b = absurd b
same_key None (Some k) l a b = absurd a
same_key (Some t) None l a b = absurd a
same_key (Some t) (Some k) None a b = absurd b
same_key (Some t) (Some k) (Some l) a b = ap Some (same_bytes k l a.bytes b.bytes (sym a.is_text ∙ b.is_text))

abbrev ledger_at : Text → LedgerKind
ledger_at w = if bytes_eq w (codes "accounts") then Accounts else Outputs

at_ledger : (g : LedgerKind) → ledger_at (ledger_text g) ≡ g
at_ledger Accounts = refl
at_ledger Outputs = refl

same_ledger : (g h : LedgerKind) → ledger_text g ≡ ledger_text h → g ≡ h
same_ledger g h e = sym (at_ledger g) ∙ ap ledger_at e ∙ at_ledger h

small : greatest_number < 2 ^ 64
small = lit< tt

one_number : (least most : ℕ) → most ≤ greatest_number → (o : Option Text) (m n : ℕ) → IsNumber least most o m → IsNumber least most o n → m ≡ n
one_number least most within o m n p q = decimal_injective m n (omega (arith, p.most, within, small)) (omega (arith, q.most, within, small)) (same_some _ _ (sym p.is_text ∙ q.is_text))

-- ---- values are those of one command

one_init : (v : Text → Option Text) (d d' : Text) (n n' p p' : Name) (a a' : Address) (k k' : Text) (g g' : LedgerKind) → InitValues v d n p a k g → InitValues v d' n' p' a' k' g' → Init d n p a k g ≡ Init d' n' p' a' k' g'
one_init v d d' n n' p p' a a' k k' g g' l m =
    let dir = same_some d d' (sym l.has_dir ∙ m.has_dir) in
    let name = same_text n n' (same_some _ _ (sym l.has_name ∙ m.has_name)) in
    let peer = same_text p p' (same_some _ _ (sym l.has_peer ∙ m.has_peer)) in
    let at = same_address_text a a' (same_some _ _ (sym l.has_at ∙ m.has_at)) in
    let text : l.has_key.0 ≡ m.has_key.0 = same_some _ _ (sym l.has_key.1 ∙ m.has_key.1) in
    let key = same_bytes k k' l.has_key.2.bytes m.has_key.2.bytes (sym l.has_key.2.is_text ∙ text ∙ m.has_key.2.is_text) in
    let ledger = same_ledger g g' (same_some _ _ (sym l.has_ledger ∙ m.has_ledger)) in
    λ i. Init (dir i) (name i) (peer i) (at i) (key i) (ledger i)

one_session : (v : Text → Option Text) (d d' : Text) (s s' : SessionId) → SessionValues v d s → SessionValues v d' s' → (d ≡ d') × (s ≡ s')
one_session v d d' s s' p q = (same_some _ _ (sym p.has_dir ∙ q.has_dir), same_session_text s s' (same_some _ _ (sym p.has_session ∙ q.has_session)))

one_serve : (v : Text → Option Text) (d d' : Text) (l l' : Address) (n n' : ℕ) → ServeValues v d l n → ServeValues v d' l' n' → Serve d l n ≡ Serve d' l' n'
one_serve v d d' l l' n n' p q =
    let dir = same_some d d' (sym p.has_dir ∙ q.has_dir) in
    let listen = same_address_text l l' (same_some _ _ (sym p.has_listen ∙ q.has_listen)) in
    let connections = one_number 1 1000000 (lit≤ tt) _ n n' p.has_connections q.has_connections in
    λ i. Serve (dir i) (listen i) (connections i)

one_start : (v : Text → Option Text) (d d' : Text) (n n' : ℕ) (a a' : Amount) (g g' f f' t t' : Name) → StartValues v d n a g f t → StartValues v d' n' a' g' f' t' → Start d n a g f t ≡ Start d' n' a' g' f' t'
one_start v d d' n n' a a' g g' f f' t t' p q =
    let dir = same_some d d' (sym p.has_dir ∙ q.has_dir) in
    let number = one_number 1 greatest_number (omega arith) _ n n' p.has_number q.has_number in
    let amount = same_amount_text a a' (same_some _ _ (sym p.has_amount ∙ q.has_amount)) in
    let asset = same_text g g' (same_some _ _ (sym p.has_asset ∙ q.has_asset)) in
    let from = same_text f f' (same_some _ _ (sym p.has_from ∙ q.has_from)) in
    let to = same_text t t' (same_some _ _ (sym p.has_to ∙ q.has_to)) in
    λ i. Start (dir i) (number i) (amount i) (asset i) (from i) (to i)

one_values : (v : Text → Option Text) (c d : Command) → verb_of d ≡ verb_of c → HasValues v c → HasValues v d → c ≡ d
one_values v (Answer name) d e p = absurd p
one_values v (Check key) d e p = of_verb (λ d. HasValues v d → Check key ≡ d) (Some verb.Check) (λ key' q. ap Check (same_key (v (codes "key")) key key' p q)) d e
one_values v (Init dir n m a k l) d e p = of_verb (λ d. HasValues v d → Init dir n m a k l ≡ d) (Some verb.Init) (λ dir' n' m' a' k' l' q. one_init v dir dir' n n' m m' a a' k k' l l' p q) d e
one_values v (Serve dir listen n) d e p = of_verb (λ d. HasValues v d → Serve dir listen n ≡ d) (Some verb.Serve) (λ dir' listen' n' q. one_serve v dir dir' listen listen' n n' p q) d e
one_values v (Start dir n a g f t) d e p = of_verb (λ d. HasValues v d → Start dir n a g f t ≡ d) (Some verb.Start) (λ dir' n' a' g' f' t' q. one_start v dir dir' n n' a a' g g' f f' t t' p q) d e
one_values v (Resume dir s) d e p = of_verb (λ d. HasValues v d → Resume dir s ≡ d) (Some verb.Resume) (λ dir' s' q. let r = one_session v dir dir' s s' p q in λ i. Resume (r.0 i) (r.1 i)) d e
one_values v (Recover dir s) d e p = of_verb (λ d. HasValues v d → Recover dir s ≡ d) (Some verb.Recover) (λ dir' s' q. let r = one_session v dir dir' s s' p q in λ i. Recover (r.0 i) (r.1 i)) d e
one_values v (Abort dir s) d e p = of_verb (λ d. HasValues v d → Abort dir s ≡ d) (Some verb.Abort) (λ dir' s' q. let r = one_session v dir dir' s s' p q in λ i. Abort (r.0 i) (r.1 i)) d e
one_values v (Show dir s) d e p = of_verb (λ d. HasValues v d → Show dir s ≡ d) (Some verb.Show) (λ dir' s' q. let r = one_session v dir dir' s s' p q in λ i. Show (r.0 i) (r.1 i)) d e
one_values v Replay d e p = of_verb (λ d. HasValues v d → Replay ≡ d) (Some verb.Replay) (λ q. refl) d e
one_values v (Drill seed) d e p = of_verb (λ d. HasValues v d → Drill seed ≡ d) (Some verb.Drill) (λ other q. ap Drill (one_number 0 greatest_number (omega arith) (v (codes "seed")) seed other p q)) d e

-- ---- words list one command at most

one_answer : (words : List Text) (n : Name) (c : Command) → IsListed words (Answer n) → verb_of c ≡ None → IsListed words c → Answer n ≡ c
one_answer words n c l e k = of_verb (λ c. IsListed words c → Answer n ≡ c) None (λ m k. ap Answer (same_text n m (second (name_text n) (name_text m) (sym l ∙ k)))) c e k
  where
    second : (x y : Text) → codes "answer" ∷ x ∷ [] ≡ codes "answer" ∷ y ∷ [] → x ≡ y
    second x y e = cc

one_of_verb : (words : List Text) (v : Verb) (a b : Command) → verb_of a ≡ Some v → IsListed words a → IsListed words b → a ≡ b
one_of_verb words v a b e l k =
    let o = options_of v words a e l in
    let f = is_of_verb words v o.is_command.first b k in
    one_values (value (form v) words) a b (f ∙ sym e) o.has_values (options_of v words b f k).has_values

pub same_command : OneCommand
same_command words (Answer n) b l k = one_answer words n b l (is_verb words None (name_text n ∷ [], l) b k) k
same_command words (Check key) b l k = one_of_verb words verb.Check (Check key) b refl l k
same_command words (Init dir n m a key ledger) b l k = one_of_verb words verb.Init (Init dir n m a key ledger) b refl l k
same_command words (Serve dir listen n) b l k = one_of_verb words verb.Serve (Serve dir listen n) b refl l k
same_command words (Start dir n a g f t) b l k = one_of_verb words verb.Start (Start dir n a g f t) b refl l k
same_command words (Resume dir s) b l k = one_of_verb words verb.Resume (Resume dir s) b refl l k
same_command words (Recover dir s) b l k = one_of_verb words verb.Recover (Recover dir s) b refl l k
same_command words (Abort dir s) b l k = one_of_verb words verb.Abort (Abort dir s) b refl l k
same_command words (Show dir s) b l k = one_of_verb words verb.Show (Show dir s) b refl l k
same_command words Replay b l k = one_of_verb words verb.Replay Replay b refl l k
same_command words (Drill seed) b l k = one_of_verb words verb.Drill (Drill seed) b refl l k

-- so where they list one, no other is read
pub complete_of : (words : List Text) (r : Result Command WordsFault) → IfOk r (IsListed words) → (r ≡ Err Refused → NotListed words) → (command : Command) → IsListed words command → MatchResult r (λ found. found ≡ command) (λ fault. fault ≡ Memory)
complete_of words (Ok found) is refused command l = same_command words found command is l
complete_of words (Err Refused) is refused command l = absurd (refused refl command l)
complete_of words (Err Memory) is refused command l = refl
