-- Fields that were written one behind the other are the payload's.
use Rattle.std.proofs.Common.{◌≡◌, ℕ, List, [], ◌∷◌, ◌++◌, sym, ap, ◌∙◌, append_assoc, append-nil}
use Rattle.std.specs.Int.{w32, w64, to_be_bytes}
use Rattle.satp_base.specs.Values.{name_text}
use Rattle.satp_base.specs.declared.ledger.LedgerOp.{LedgerOp}
use Rattle.satp_base.specs.declared.message.Role.{Role}
use Rattle.satp_base.specs.declared.message.Terms.{Terms}
use Rattle.satp_base.specs.declared.record.Rec.TheVariants as rec
use Rattle.satp_base.specs.declared.session.SessionId.{SessionId}
use Rattle.satp_records.specs.Shapes.{Shape, spell}
use Rattle.satp_records.specs.Formats.{name_shape, text_shape, session, role, terms, text, session_texts, terms_texts, spell_all, role_byte, operation_byte, payload_of}
use Rattle.satp_records.specs.declared.stored.Stored.TheVariants as stored

-- a session, and fields behind it
pub session_then : (s : SessionId) (shapes : List Shape) (fields : List (List ℕ)) → spell_all session (session_texts s) ++ spell_all shapes fields ≡ spell_all (session ++ shapes) (session_texts s ++ fields)
session_then s shapes fields = append_assoc (spell name_shape (name_text s.gateway)) (to_be_bytes w32 s.number) (spell_all shapes fields)

-- terms, and fields behind them
pub terms_then : (t : Terms) (shapes : List Shape) (fields : List (List ℕ)) → spell_all terms (terms_texts t) ++ spell_all shapes fields ≡ spell_all (terms ++ shapes) (terms_texts t ++ fields)
terms_then t shapes fields =
    let amount = to_be_bytes w64 t.amount.number in
    let a = spell name_shape (name_text t.asset) in
    let b = spell name_shape (name_text t.beneficiary) in
    let c = spell name_shape (name_text t.originator) in
    let rest = spell_all shapes fields in
    append_assoc amount (a ++ (b ++ (c ++ []))) rest
    ∙ ap (λ xs. amount ++ xs) (append_assoc a (b ++ (c ++ [])) rest ∙ ap (λ xs. a ++ xs) (append_assoc b (c ++ []) rest ∙ ap (λ xs. b ++ xs) (append_assoc c [] rest)))

pub act_written : (op : LedgerOp) (s : SessionId) (t : Terms) (byte : ℕ) (a b c : List ℕ) → byte ≡ operation_byte op → a ≡ 0x13 ∷ byte ∷ [] → b ≡ a ++ spell_all session (session_texts s) → c ≡ b ++ spell_all terms (terms_texts t)
    → c ≡ payload_of (stored.Act op s t)
act_written op s t byte a b c is p q r =
    let front = 0x13 ∷ operation_byte op ∷ [] in
    let behind = spell_all terms (terms_texts t) in
    r ∙ ap (λ xs. xs ++ behind) (q ∙ ap (λ xs. xs ++ spell_all session (session_texts s)) (p ∙ ap (λ n. 0x13 ∷ n ∷ []) is)) ∙ append_assoc front (spell_all session (session_texts s)) behind
    ∙ ap (λ xs. front ++ xs) (session_then s terms (terms_texts t))

pub began_written : (s : SessionId) (o : Role) (t : Terms) (byte : ℕ) (message a b c d e : List ℕ) → byte ≡ role_byte o → a ≡ 0x01 ∷ [] → b ≡ a ++ spell_all session (session_texts s) → c ≡ b ++ byte ∷ [] → d ≡ c ++ spell_all terms (terms_texts t)
    → e ≡ d ++ spell text_shape message → e ≡ payload_of (stored.Session s (rec.Began o t) message)
began_written s o t byte message a b c d e is p q r u v =
    let front = 0x01 ∷ [] in
    let of_session = spell_all session (session_texts s) in
    let of_role = role_byte o ∷ [] in
    let of_terms = spell_all terms (terms_texts t) in
    let of_text = spell text_shape message in
    v ∙ ap (λ xs. xs ++ of_text) (u ∙ ap (λ xs. xs ++ of_terms) ((r ∙ ap (λ n. b ++ n ∷ []) is) ∙ ap (λ xs. xs ++ of_role) (q ∙ ap (λ xs. xs ++ of_session) p)))
    ∙ append_assoc ((front ++ of_session) ++ of_role) of_terms of_text
    ∙ append_assoc (front ++ of_session) of_role (of_terms ++ of_text)
    ∙ append_assoc front of_session (of_role ++ (of_terms ++ of_text))
    ∙ ap (λ xs. front ++ (of_session ++ (of_role ++ (of_terms ++ xs)))) (sym (append-nil of_text))
    ∙ ap (λ xs. front ++ (of_session ++ (of_role ++ xs))) (terms_then t text (message ∷ []))
    ∙ ap (λ xs. front ++ xs) (session_then s (role ++ (terms ++ text)) ((role_byte o ∷ []) ∷ (terms_texts t ++ message ∷ [])))
