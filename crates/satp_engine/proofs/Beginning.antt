-- A session that begins.
use Rattle.std.proofs.Common.{◌≡◌, ◌<◌, ℕ, List, [], ◌∷◌, ◌++◌, Option, Some, None, option_map, refl, sym, ap, subst}
use Rattle.satp_base.specs.declared.message.Role.{Role}
use Rattle.satp_base.specs.declared.message.Role.TheVariants.{Origin, Recipient}
use Rattle.satp_base.specs.declared.message.Terms.{Terms}
use Rattle.satp_base.specs.declared.record.Rec.TheVariants.{Began}
use Rattle.satp_base.specs.declared.session.SessionId.{SessionId}
use Rattle.satp_base.specs.declared.view.View.{View}
use Rattle.satp_log.specs.Folding.{State, proposal_text}
use Rattle.satp_log.specs.Journals.{party_of}
use Rattle.satp_log.specs.Logged.{HoldsOne, LogHolds, LogState, count_of}
use Rattle.satp_log.proofs.LogLemmas.{unnamed}
use Rattle.satp_log.proofs.Places.{found-in}
use Rattle.satp_records.specs.declared.stored.Setup.{Setup}
use Rattle.satp_sides.specs.LogLaws.{IsOfRole}
use Rattle.satp_sides.specs.Logs.{IsLog, MayCome}
use Rattle.satp_sides.specs.Logs.MayCome.{Accepts, Starts}
use Rattle.satp_sides.specs.Points.{Party, Stored, begun, chain_in, most_sessions, records_of, slot, stored, view_in}
use Rattle.satp_engine.specs.Starting.{IsBeginning}
use Rattle.satp_engine.specs.Working.{Keeps}
use Rattle.satp_engine.specs.declared.records.Records.{Records}

no-view : (o : Option View) (texts : List (List ℕ)) → option_map (λ v. slot v texts) o ≡ None → o ≡ None
no-view None texts e = refl
no-view (Some v) texts e = absurd (cc e)

first-may : (p : Party) (s : SessionId) (xs : List Stored) (role : Role) (terms : Terms) → IsOfRole p s role → records_of s xs ≡ [] → begun role xs < most_sessions → MayCome p xs (stored s (Began role terms) (proposal_text p s role terms))
first-may p s xs Origin terms whose new room = Starts s terms whose new room
first-may p s xs Recipient terms whose new room = Accepts s terms whose new room

-- the first record of a session that begins may come
pub beginning-may : (r : Records) (s : SessionId) (role : Role) (terms : Terms) (state : State) (payload : List ℕ) → IsBeginning r.log s role terms state payload
    → (setup : Setup) (xs : List Stored) → Keeps r setup xs → MayCome (party_of setup) xs (stored s (Began role terms) (proposal_text (party_of r.log.setup) s role terms))
beginning-may r s role terms state payload b setup xs k =
    let p = party_of setup in
    let same = ap party_of k.log.setup_is in
    let none = no-view (view_in s xs) (chain_in s xs) (found-in r.log setup xs s None (sym b.new) k.log) in
    let new = unnamed p s xs k.journal.log none in
    let whose = subst (λ (y : Party). IsOfRole y s role) same b.role_is in
    subst (λ (y : Party). MayCome p xs (stored s (Began role terms) (proposal_text y s role terms))) (sym same) (first-may p s xs role terms whose new (room role b.count))
  where
    room : (role : Role) → count_of role r.log < most_sessions → begun role xs < most_sessions
    room Origin c = subst (λ n. n < most_sessions) k.log.started c
    room Recipient c = subst (λ n. n < most_sessions) k.log.accepted c

-- what the log holds with it
pub began-holds : (r : Records) (new : LogState) (s : SessionId) (role : Role) (terms : Terms)
    → ((setup : Setup) (xs : List Stored) → IsLog (party_of setup) xs → LogHolds r.log setup xs → HoldsOne setup xs s (Began role terms) (proposal_text (party_of setup) s role terms) new)
    → (setup : Setup) (xs : List Stored) → IsLog (party_of setup) xs → LogHolds r.log setup xs → LogHolds new setup (xs ++ stored s (Began role terms) (proposal_text (party_of r.log.setup) s role terms) ∷ [])
began-holds r new s role terms holds setup xs is k =
    subst (λ (y : Setup). LogHolds new setup (xs ++ stored s (Began role terms) (proposal_text (party_of y) s role terms) ∷ [])) (sym k.setup_is) (holds setup xs is k).1
