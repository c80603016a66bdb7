-- The data of a message has no fault, and is written as the message's text.
use Rattle.std.proofs.Common.{◌≡◌, ℕ, ◌≤◌, Bool, true, List, [], ◌∷◌, length, map, codes, Option, Some, None, refl, ap, subst, sym, ◌∙◌, arith, suc, nat_le, option_and_then}
use Rattle.std.specs.Prelude.{flat_map, is_none, is_some}
use Rattle.std.specs.List.{AllByRecursion, list_all}
use Rattle.std.specs.Option.{option_map_or}
use Rattle.std.proofs.lemmas.Bool.{and_from, and_parts, le-leb}
use Rattle.serde_json.specs.Data.{Data}
use Rattle.serde_json.specs.Find.{as_str, get}
use Rattle.satp_base.specs.Canonical.{kind_named, kind_of, kind_text, row, terms_row}
use Rattle.satp_base.specs.Forms.{HasLink, IsBody, IsLink, IsMessage, IsPlace, is_entry}
use Rattle.satp_base.specs.Forms as forms
use Rattle.satp_base.specs.declared.member.MemberName.{MemberName}
use Rattle.satp_base.specs.declared.member.MemberName.TheVariants as name
use Rattle.satp_base.specs.declared.message.Kind.{Kind}
use Rattle.satp_base.specs.declared.message.Kind.TheVariants.{TransferProposal, ProposalReceipt, Reject, Recover, RecoverUpdate, RecoverSuccess}
use Rattle.satp_base.specs.declared.message.Link.{Link}
use Rattle.satp_base.specs.declared.message.Reason.{Reason}
use Rattle.satp_base.specs.declared.message.Terms.{Terms}
use Rattle.satp_base.specs.declared.message.Part.TheVariants as part
use Rattle.satp_base.specs.declared.message.Body.{Body}
use Rattle.satp_base.specs.declared.message.Body.TheVariants as body
use Rattle.satp_base.specs.declared.message.Message.{Message}
use Rattle.satp_base.specs.declared.name.Name.{Name}
use Rattle.satp_base.specs.declared.session.SessionId.{SessionId}
use Rattle.satp_base.specs.Faults.{or_else, session_fault}
use Rattle.satp_base.specs.Names.{is_name}
use Rattle.satp_base.specs.Values.{name_text, session_text}
use Rattle.satp_base.proofs.Exact.{name_holds, session_faultless}
use Rattle.satp_base.proofs.OneText.{plain_row, same_kind, same_reason}
use Rattle.satp_canon.specs.FirstFault.{are_entries, data_fault, fault_unless, first_of, form_fault, holds_text, is_within, item_list, kind_fault, member_fault, terms_fault, value_faults, values_fault}
use Rattle.satp_canon.specs.declared.fault.CanonFault.{CanonFault}
use Rattle.satp_canon.specs.declared.fault.CanonFault.TheVariants as fault
use Rattle.satp_canon.specs.Reads.{word_items}
use Rattle.satp_canon.proofs.Firsts.{behind}
use Rattle.satp_canon.proofs.Links.{is_link_text}
use Rattle.satp_canon.proofs.OwnData.{object_of, own_data, own_value, term_data}

-- ---- forms

kind_ok : (k : Kind) → is_some (kind_named (kind_text k)) ≡ true
kind_ok k = ap is_some (same_kind k)

name_ok : (n : Name) → is_name (name_text n) ≡ true
name_ok n = (name_holds n).form

session_ok : (s : SessionId) → is_none (session_fault (session_text s)) ≡ true
session_ok s = ap is_none (session_faultless s)

place_ok : (p : ℕ) → IsPlace p → is_within 1 11 p ≡ true
place_ok p h = and_from _ _ (le-leb 1 p h.low) (le-leb p 11 h.high)

length_ok : (n : ℕ) → n ≤ 11 → is_within 0 11 n ≡ true
length_ok n h = and_from _ _ (le-leb 0 n (omega arith)) (le-leb n 11 h)

entries_ok : (ws : List (List ℕ)) → forms.are_entries ws ≡ true → are_entries (item_list (word_items ws)) ≡ true
entries_ok ws e = let p = and_parts _ _ e in and_from _ _ (ap (λ (n : ℕ). nat_le n 2) (long ws) ∙ p.0) (each ws p.1)
  where
    long : (xs : List (List ℕ)) → length (item_list (word_items xs)) ≡ length xs
    long [] = refl
    long (x ∷ xs) = ap suc (long xs)

    each : (xs : List (List ℕ)) → list_all is_entry xs ≡ true → list_all (λ d. holds_text is_entry (Some d)) (item_list (word_items xs)) ≡ true
    each [] h = refl
    each (x ∷ xs) h = let q = and_parts _ _ h in and_from _ _ q.0 (each xs q.1)

good : (b : Bool) (n : MemberName) → b ≡ true → None ≡ fault_unless b n
good b n e = rw e refl

pub one : (b : Bool) (n : MemberName) → b ≡ true → None ≡ first_of (fault_unless b n ∷ [])
one b n e = rw e refl

-- ---- the first fault of names that have none

forms_fine : (d : Data) (ns : List MemberName) → AllByRecursion (λ n. None ≡ form_fault d n) ns → None ≡ first_of (map (form_fault d) ns)
forms_fine d [] h = refl
forms_fine d (n ∷ ns) h = forms_fine d ns h.1 ∙ ap (λ (o : Option CanonFault). first_of (o ∷ map (form_fault d) ns)) h.0

values_fine : (d : Data) (ns : List MemberName) → AllByRecursion (λ n. None ≡ first_of (value_faults d n)) ns → None ≡ values_fault ns d
values_fine d [] h = refl
values_fine d (n ∷ ns) h = values_fine d ns h.1 ∙ sym (behind (value_faults d n) (flat_map (value_faults d) ns) h.0)

row_members : (k : Kind) (f : MemberName → Data) → None ≡ member_fault (row k) (object_of f (row k))
row_members TransferProposal f = refl
row_members Reject f = refl
row_members Recover f = refl
row_members RecoverUpdate f = refl
row_members RecoverSuccess f = refl
row_members _ f = refl

terms_fine : (t : Terms) → None ≡ terms_fault (object_of (term_data t) terms_row)
terms_fine t =
    let d = object_of (term_data t) terms_row in
    forms_fine d terms_row (
      good (is_within 1 _ t.amount.number) name.Amount (and_from _ _ (le-leb 1 t.amount.number t.amount.low) (le-leb t.amount.number _ t.amount.high)),
      (
        good (is_name (name_text t.asset)) name.Asset (name_ok t.asset),
        (
          good (is_name (name_text t.beneficiary)) name.Beneficiary (name_ok t.beneficiary),
          (good (is_name (name_text t.originator)) name.Originator (name_ok t.originator), tt),
        ),
      ),
    )

-- ---- each kind

abbrev message : SessionId → Name → Name → Body → Message
message session sender receiver b = record { session = session; sender = sender; receiver = receiver; body = b }

module _ (s : SessionId) (a c : Name) where
  proposal_fine : (p : ℕ) (l : Link) (t : Terms) → IsPlace p → IsLink l → None ≡ values_fault (row TransferProposal) (own_data (message s a c (body.Chain p l (part.Proposal t))))
  proposal_fine p l t h i =
      values_fine (own_data (message s a c (body.Chain p l (part.Proposal t)))) (row TransferProposal) (
        one _ name.Kind (kind_ok TransferProposal),
        (
          one _ name.Previous (is_link_text l i),
          (
            one _ name.Receiver (name_ok c),
            (
              one _ name.Sender (name_ok a),
              (
                one _ name.Sequence (place_ok p h),
                (
                  one _ name.Session (session_ok s),
                  (ap (λ (o : Option CanonFault). first_of (o ∷ [])) (terms_fine t), (refl, tt)),
                ),
              ),
            ),
          ),
        ),
      )

  reject_fine : (p : ℕ) (l : Link) (r : Reason) → IsPlace p → IsLink l → None ≡ values_fault (row Reject) (own_data (message s a c (body.Chain p l (part.Reject r))))
  reject_fine p l r h i =
      values_fine (own_data (message s a c (body.Chain p l (part.Reject r)))) (row Reject)
      (one _ name.Kind (kind_ok Reject), (one _ name.Previous (is_link_text l i), (one _ name.Reason (ap is_some (same_reason r)), (one _ name.Receiver (name_ok c), (one _ name.Sender (name_ok a), (one _ name.Sequence (place_ok p h), (one _ name.Session (session_ok s), (refl, tt))))))))

  abbrev chain_row : List MemberName
  chain_row = row ProposalReceipt

  plain_fine : (p : ℕ) (l : Link) (k : Kind) (ns : List MemberName) → ns ≡ chain_row → IsPlace p → IsLink l → None ≡ values_fault ns (object_of (own_value (message s a c (body.Chain p l (part.Plain k)))) ns)
  plain_fine p l k ns e h i =
      let f = own_value (message s a c (body.Chain p l (part.Plain k))) in
      subst (λ (xs : List MemberName). None ≡ values_fault xs (object_of f xs)) (sym e)
      (values_fine (object_of f chain_row) chain_row
      (one _ name.Kind (kind_ok k), (one _ name.Previous (is_link_text l i), (one _ name.Receiver (name_ok c), (one _ name.Sender (name_ok a), (one _ name.Sequence (place_ok p h), (one _ name.Session (session_ok s), (refl, tt))))))))

  recover_fine : (n : ℕ) (l : Link) → n ≤ 11 → IsLink l → None ≡ values_fault (row Recover) (own_data (message s a c (body.Recover n l)))
  recover_fine n l h i =
      values_fine (own_data (message s a c (body.Recover n l))) (row Recover)
      (one _ name.Kind (kind_ok Recover), (one _ name.Last (is_link_text l i), (one _ name.Length (length_ok n h), (one _ name.Receiver (name_ok c), (one _ name.Sender (name_ok a), (one _ name.Session (session_ok s), (refl, tt)))))))

  success_fine : (n : ℕ) (l : Link) → n ≤ 11 → IsLink l → None ≡ values_fault (row RecoverSuccess) (own_data (message s a c (body.Success n l)))
  success_fine n l h i =
      values_fine (own_data (message s a c (body.Success n l))) (row RecoverSuccess)
      (one _ name.Kind (kind_ok RecoverSuccess), (one _ name.Last (is_link_text l i), (one _ name.Length (length_ok n h), (one _ name.Receiver (name_ok c), (one _ name.Sender (name_ok a), (one _ name.Session (session_ok s), (refl, tt)))))))

  update_fine : (n : ℕ) (ws : List (List ℕ)) → n ≤ 11 → forms.are_entries ws ≡ true → None ≡ values_fault (row RecoverUpdate) (own_data (message s a c (body.Update n ws)))
  update_fine n ws h i =
      values_fine (own_data (message s a c (body.Update n ws))) (row RecoverUpdate)
      (one _ name.Entries (entries_ok ws i), (one _ name.Kind (kind_ok RecoverUpdate), (one _ name.Length (length_ok n h), (one _ name.Receiver (name_ok c), (one _ name.Sender (name_ok a), (one _ name.Session (session_ok s), (refl, tt)))))))

  body_fine : (b : Body) → IsBody b → HasLink b → None ≡ values_fault (row (kind_of b)) (own_data (message s a c b))
  body_fine (body.Chain p l (part.Proposal t)) h i = proposal_fine p l t h.0 i
  body_fine (body.Chain p l (part.Plain k)) h i = plain_fine p l k (row k) (plain_row k h.1) h.0 i
  body_fine (body.Chain p l (part.Reject r)) h i = reject_fine p l r h.0 i
  body_fine (body.Recover n l) h i = recover_fine n l h i
  body_fine (body.Update n ws) h i = update_fine n ws h.0 h.1
  body_fine (body.Success n l) h i = success_fine n l h i

-- ---- tests three to six pass

kind_got : (k : Kind) (f : MemberName → Data) → get (codes "kind") (object_of f (row k)) ≡ Some (f name.Kind)
kind_got TransferProposal f = refl
kind_got Reject f = refl
kind_got Recover f = refl
kind_got RecoverUpdate f = refl
kind_got RecoverSuccess f = refl
kind_got _ f = refl

pub own_fine : (m : Message) → IsMessage m → None ≡ data_fault (own_data m)
own_fine m h =
    let k = kind_of m.body in
    let d = own_data m in
    sym (ap (λ (o : Option Data). option_map_or (λ v. kind_fault d (option_and_then kind_named (as_str v))) o (Some (fault.Member name.Kind))) (kind_got k (own_value m))
    ∙ ap (kind_fault d) (same_kind k)
    ∙ sym (ap (λ (o : Option CanonFault). or_else o (values_fault (row k) d)) (row_members k (own_value m)))
    ∙ sym (body_fine m.session m.sender m.receiver m.body h.0 h.1))
