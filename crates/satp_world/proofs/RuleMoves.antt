-- What the role's rule allows is a move of a session.
use Rattle.std.proofs.Common.{◌≡◌, ◌≢◌, true, false, cond, List, Some, refl, sym, ap, subst, ◌∙◌, inl, inr}
use Rattle.std.specs.FinMap.{get, get-insert}
use Rattle.std.specs.Option.{option_map_or}
use Rattle.satp_base.specs.declared.ledger.LedgerEntry.{LedgerEntry}
use Rattle.satp_base.specs.declared.message.Kind.{Kind}
use Rattle.satp_base.specs.declared.message.Role.{Role}
use Rattle.satp_base.specs.declared.message.Role.TheVariants.{Origin, Recipient}
use Rattle.satp_base.specs.declared.message.Terms.{Terms}
use Rattle.satp_base.specs.declared.session.SessionId.{SessionId}
use Rattle.satp_base.specs.declared.ledger.LedgerOp.{LedgerOp}
use Rattle.satp_base.specs.declared.ledger.LedgerOp.TheVariants.{Lock, Burn, Mint, Assign, Release}
use Rattle.satp_base.specs.declared.ledger.Entry.{Entry}
use Rattle.satp_base.specs.declared.ledger.Entry.TheVariants.{Absent}
use Rattle.satp_base.specs.declared.ledger.Answer.{Answer}
use Rattle.satp_base.specs.declared.record.Cause.TheVariants.{LockRefused, UnknownAsset, MintCapped, LedgerTaken}
use Rattle.satp_base.specs.declared.record.Way.TheVariants.{Back}
use Rattle.satp_base.specs.declared.record.Rec.{Rec}
use Rattle.satp_base.specs.declared.record.Rec.TheVariants.{Began, Took, Made, Did, Chose, Rescue}
use Rattle.satp_base.specs.declared.view.View.{View}
use Rattle.satp_base.specs.Money.{Book}
use Rattle.satp_base.specs.LedgerRule.{LedgerRule, entry_of, leads, moved, result_of, terms_of}
use Rattle.satp_base.specs.Views.{push}
use Rattle.satp_base.specs.Roles.{RoleRule, either, After}
use Rattle.satp_base.specs.Roles.RoleRule.{Due, Answered, Free}
use Rattle.satp_base.proofs.RoleLemmas.{after-shape}
use Rattle.satp_base.proofs.SessionLemmas.{sessions_total}
use Rattle.satp_sides.specs.Logs.{IsNote}
use Rattle.satp_sides.specs.Moves.{RefusesNow, LedgerFits}
use Rattle.satp_sides.specs.Points.{is_session}
use Rattle.satp_sides.specs.Halves.{Agrees, can_do, entry_is}
use Rattle.satp_world.specs.Sessions.{Moves}
use Rattle.satp_world.specs.Sessions.Moves.{Appends, Learns, Decides}
use Rattle.satp_sides.proofs.Records.{session-self}

-- ---- the ledger's rule, at the entry of the session

pub entry-moved : (b : Book) (op : LedgerOp) (s : SessionId) (terms : Terms) → entry_of (moved b op s terms).entries s ≡ result_of op
entry-moved b op s terms = ap (λ o. option_map_or (λ (k : LedgerEntry). k.entry) o Absent) (get-insert sessions_total b.entries s (record { entry = result_of op; terms = terms_of b.entries s terms }) s ∙ ap (λ t. cond t (Some (record { entry = result_of op; terms = terms_of b.entries s terms })) (get b.entries s)) (session-self s))

does_own : (op : LedgerOp) → can_do op (result_of op) ≡ true
does_own = elim [ Lock ↦ refl | Burn ↦ refl | Mint ↦ refl | Assign ↦ refl | Release ↦ refl ]

leads_can : (op : LedgerOp) (e : Entry) → leads op e ≡ true → can_do op e ≡ true
leads_can op e h = ap (λ b. either b (entry_is e (result_of op))) h

-- what the rule answers agrees with the session's entry
pub agrees-by : (b : Book) (op : LedgerOp) (s : SessionId) (terms : Terms) (a : Answer) (new : Book) → LedgerRule b op s terms a new → Agrees op (entry_of b.entries s) a (entry_of new.entries s)
agrees-by b op s terms Answer.Done new (inl h) = (subst (λ e. can_do op e ≡ true) (sym h.0) (does_own op), ap (λ x. entry_of x.entries s) h.1 ∙ h.0)
agrees-by b op s terms Answer.Done new (inr h) = (leads_can op _ h.0, ap (λ x. entry_of x.entries s) h.2 ∙ entry-moved b op s terms)
agrees-by b Lock s terms (Answer.Taken entry) new h = (h.0, h.1, h.2, ap (λ x. entry_of x.entries s) h.3)
agrees-by b Lock s terms (Answer.NoFunds free) new h = (h.0, ap (λ x. entry_of x.entries s) h.3)
agrees-by b Mint s terms (Answer.Taken entry) new h = (h.0, h.1, h.2, ap (λ x. entry_of x.entries s) h.3)
agrees-by b Mint s terms Answer.UnknownAsset new h = (h.0, ap (λ x. entry_of x.entries s) h.2)
agrees-by b Mint s terms (Answer.Capped total) new h = (h.0, ap (λ x. entry_of x.entries s) h.3)
agrees-by b _ s terms _ new h = absurd h

-- ---- records

-- the ledger as an operation left it has its result, or refuses as it did
refused-now : (b new : Book) (op : LedgerOp) (s : SessionId) (terms : Terms) (a : Answer) (r : Rec) → new ≡ b → LedgerRule b op s terms a new → After op a r → RefusesNow new op s terms r
refused-now b new op s terms a r e rule x = (a, subst (λ c. LedgerRule c op s terms a new) (sym e) rule, x)

pub after-fits : (b : Book) (op : LedgerOp) (s : SessionId) (terms : Terms) (a : Answer) (new : Book) (r : Rec) → LedgerRule b op s terms a new → After op a r → LedgerFits new s terms r
after-fits b op s terms Answer.Done new r (inl h) x = subst (LedgerFits new s terms) (sym x) (ap (λ c. entry_of c.entries s) h.1 ∙ h.0)
after-fits b op s terms Answer.Done new r (inr h) x = subst (LedgerFits new s terms) (sym x) (ap (λ c. entry_of c.entries s) h.2 ∙ entry-moved b op s terms)
after-fits b Lock s terms (Answer.NoFunds free) new r h x = subst (LedgerFits new s terms) (sym x) (refused-now b new Lock s terms (Answer.NoFunds free) (Chose (Back LockRefused)) h.3 h refl)
after-fits b Lock s terms (Answer.Taken entry) new r h x = subst (LedgerFits new s terms) (sym x) (refused-now b new Lock s terms (Answer.Taken entry) (Chose (Back LockRefused)) h.3 h refl)
after-fits b Mint s terms Answer.UnknownAsset new r h x = subst (LedgerFits new s terms) (sym x) (refused-now b new Mint s terms Answer.UnknownAsset (Chose (Back UnknownAsset)) h.2 h refl)
after-fits b Mint s terms (Answer.Capped total) new r h x = subst (LedgerFits new s terms) (sym x) (refused-now b new Mint s terms (Answer.Capped total) (Chose (Back MintCapped)) h.3 h refl)
after-fits b Mint s terms (Answer.Taken entry) new r h x = subst (LedgerFits new s terms) (sym x) (refused-now b new Mint s terms (Answer.Taken entry) (Chose (Back LedgerTaken)) h.3 h refl)
after-fits b _ s terms _ new r h x = absurd h

agrees-done : (op : LedgerOp) (e : Entry) → e ≡ result_of op → Agrees op e Answer.Done e
agrees-done op e p = (subst (λ v. can_do op v ≡ true) (sym p) (does_own op), p)

-- the ledger's answer behind an answered record, as it stands now
answered-now : (b : Book) (s : SessionId) (terms : Terms) (op : LedgerOp) (a : Answer) (r : Rec) → After op a r → LedgerFits b s terms r → (x : Answer) × Agrees op (entry_of b.entries s) x (entry_of b.entries s) × After op x r
answered-now b s terms op Answer.Done r x l = (Answer.Done, agrees-done op _ (subst (LedgerFits b s terms) x l), x)
answered-now b s terms Lock (Answer.NoFunds f) r x l = let (a, rule, after) = subst (LedgerFits b s terms) x l in (a, agrees-by b Lock s terms a b rule, subst (After Lock a) (sym x) after)
answered-now b s terms Lock (Answer.Taken f) r x l = let (a, rule, after) = subst (LedgerFits b s terms) x l in (a, agrees-by b Lock s terms a b rule, subst (After Lock a) (sym x) after)
answered-now b s terms Mint Answer.UnknownAsset r x l = let (a, rule, after) = subst (LedgerFits b s terms) x l in (a, agrees-by b Mint s terms a b rule, subst (After Mint a) (sym x) after)
answered-now b s terms Mint (Answer.Capped f) r x l = let (a, rule, after) = subst (LedgerFits b s terms) x l in (a, agrees-by b Mint s terms a b rule, subst (After Mint a) (sym x) after)
answered-now b s terms Mint (Answer.Taken f) r x l = let (a, rule, after) = subst (LedgerFits b s terms) x l in (a, agrees-by b Mint s terms a b rule, subst (After Mint a) (sym x) after)
answered-now b s terms _ _ r x l = absurd x

not_took : (r : Rec) → IsNote r → (k : Kind) → r ≢ Took k
not_took (Took k) n j e = n
not_took (Made k) n j e = cc e
not_took (Began role terms) n j e = cc e
not_took (Did op) n j e = cc e
not_took (Chose way) n j e = cc e
not_took Rescue n j e = cc e

pub note-moves : (role : Role) (v : View) (b : Book) (s : SessionId) (peer : List Kind) (r : Rec) → RoleRule role v r → IsNote r → LedgerFits b s v.terms r → Moves role (record { view = v; entry = entry_of b.entries s }) peer (record { view = push v r; entry = entry_of b.entries s })
note-moves role v b s peer r (Due e) n l = Appends r e
note-moves role v b s peer r (Answered op a e x) n l = let (y, g, z) = answered-now b s v.terms op a r x l in Learns op y r e g z
note-moves role v b s peer r (Free o) n l = Decides r o (not_took r n)

pub made-moves : (role : Role) (v : View) (e : Entry) (peer : List Kind) (k : Kind) → RoleRule role v (Made k) → Moves role (record { view = v; entry = e }) peer (record { view = push v (Made k); entry = e })
made-moves role v e peer k (Due d) = Appends (Made k) d
made-moves role v e peer k (Answered op a d x) = elim (after-shape op a (Made k) x) [ inl q ↦ absurd (cc q) | inr q ↦ absurd (cc q.1) ]
made-moves Origin v e peer k (Free o) = absurd o
made-moves Recipient v e peer k (Free o) = absurd o

pub get-apart : (b : Book) (op : LedgerOp) (t : SessionId) (terms : Terms) (s : SessionId) → is_session s t ≡ false → get (moved b op t terms).entries s ≡ get b.entries s
get-apart b op t terms s n = get-insert sessions_total b.entries t (record { entry = result_of op; terms = terms_of b.entries t terms }) s ∙ ap (λ x. cond x (Some (record { entry = result_of op; terms = terms_of b.entries t terms })) (get b.entries s)) n

moved-apart : (b : Book) (op : LedgerOp) (t : SessionId) (terms : Terms) (s : SessionId) → is_session s t ≡ false → entry_of (moved b op t terms).entries s ≡ entry_of b.entries s
moved-apart b op t terms s n = ap (λ o. option_map_or (λ (k : LedgerEntry). k.entry) o Absent) (get-apart b op t terms s n)

-- an operation leaves the entries of other sessions
pub entry-apart : (b : Book) (op : LedgerOp) (t : SessionId) (terms : Terms) (a : Answer) (new : Book) (s : SessionId) → is_session s t ≡ false → LedgerRule b op t terms a new → entry_of new.entries s ≡ entry_of b.entries s
entry-apart b op t terms Answer.Done new s n (inl h) = ap (λ x. entry_of x.entries s) h.1
entry-apart b op t terms Answer.Done new s n (inr h) = ap (λ x. entry_of x.entries s) h.2 ∙ moved-apart b op t terms s n
entry-apart b Lock t terms (Answer.Taken entry) new s n h = ap (λ x. entry_of x.entries s) h.3
entry-apart b Lock t terms (Answer.NoFunds free) new s n h = ap (λ x. entry_of x.entries s) h.3
entry-apart b Mint t terms (Answer.Taken entry) new s n h = ap (λ x. entry_of x.entries s) h.3
entry-apart b Mint t terms Answer.UnknownAsset new s n h = ap (λ x. entry_of x.entries s) h.2
entry-apart b Mint t terms (Answer.Capped total) new s n h = ap (λ x. entry_of x.entries s) h.3
entry-apart b _ t terms _ new s n h = absurd h
