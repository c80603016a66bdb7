-- What is answered of a payload that was read.
use Rattle.std.proofs.Common.{◌≡◌, ℕ, List, Result, Ok, Err, MatchResult, sym, ap, subst, ◌∙◌, inl, inr}
use Rattle.std.specs.Prelude.{IfOk, IfSome}
use Rattle.satp_records.specs.Formats.{texts, payload_of, IsFormed, IsFormedRec, IsRefused}
use Rattle.satp_records.specs.Reading.{whole}
use Rattle.satp_records.specs.Views.{UnlessMemory, session_rec}
use Rattle.satp_records.specs.declared.fault.RecordFault.{RecordFault}
use Rattle.satp_records.specs.declared.fault.RecordFault.TheVariants as fault
use Rattle.satp_records.specs.declared.stored.Stored.{Stored}
use Rattle.satp_records.specs.declared.stored.Stored.TheVariants as stored
use Rattle.satp_records.proofs.Fields.{IsBytes}
use Rattle.satp_records.proofs.Lists.{IsPayload, read_again, read_payload, fault_again, ok_is, err_is}
use Rattle.satp_records.proofs.Records.{record_payload, same}

-- the record that was found is owned, or no memory was found
abbrev pub Owned : Stored → Result Stored RecordFault → Type 0
Owned found r = MatchResult r (λ s. s ≡ found) (λ f. f ≡ fault.Memory)

-- a payload of a record that can be stored is read as its fields
again : (payload : List ℕ) (s : Stored) → IsBytes payload → IsFormed s → payload ≡ payload_of s → whole payload ≡ Ok (texts s)
again payload s fits formed e = read_again (texts s) payload fits (subst (IsPayload (texts s)) (sym e) (record_payload s formed))

pub payload_found : (payload : List ℕ) (found : Stored) → IsBytes payload → whole payload ≡ Ok (texts found) → payload ≡ payload_of found
payload_found payload found fits e = (read_payload (texts found) payload fits e).is

pub stored_found : (payload : List ℕ) (found : Stored) (r : Result Stored RecordFault) → IsBytes payload → whole payload ≡ Ok (texts found) → IsFormed found → Owned found r
    → IfOk r (λ s. IsFormed s × (payload ≡ payload_of s))
stored_found payload found (Ok s) fits e formed is = subst (λ x. IsFormed x × (payload ≡ payload_of x)) (sym is) (formed, payload_found payload found fits e)
stored_found payload found (Err f) fits e formed is = tt

-- the record that was found is the one of this payload
pub one_found : (payload : List ℕ) (found s : Stored) → IsBytes payload → whole payload ≡ Ok (texts found) → IsFormed found → IsFormed s → payload ≡ payload_of s → found ≡ s
one_found payload found s fits e formed_found formed is =
    let t = ok_is (texts found) (texts s) (sym e ∙ again payload s fits formed is) in
    same found s formed_found formed (ap (λ (x : ℕ × List (List ℕ)). x.0) t) (ap (λ (x : ℕ × List (List ℕ)). x.1) t)

pub stored_only : (payload : List ℕ) (found s : Stored) (r : Result Stored RecordFault) → IsBytes payload → whole payload ≡ Ok (texts found) → IsFormed found → Owned found r → IsFormed s → payload ≡ payload_of s
    → UnlessMemory r (Ok s)
stored_only payload found s (Ok x) fits e formed_found owned formed is = inl (ap Ok (owned ∙ one_found payload found s fits e formed_found formed is))
stored_only payload found s (Err f) fits e formed_found owned formed is = inr (ap Err owned)

pub nothing_refused : (payload : List ℕ) (found : Stored) (f : RecordFault) → IsBytes payload → whole payload ≡ Ok (texts found) → IsRefused payload f → ⊥
nothing_refused payload found f fits e refused = let bad = sym e ∙ fault_again payload f fits refused in absurd cc

pub nothing_found : (payload : List ℕ) (f : RecordFault) (s : Stored) → IsBytes payload → whole payload ≡ Err f → IsFormed s → payload ≡ payload_of s → ⊥
nothing_found payload f s fits e formed is = let bad = sym e ∙ again payload s fits formed is in absurd cc

pub first_fault : (payload : List ℕ) (f g : RecordFault) → IsBytes payload → whole payload ≡ Err f → IsRefused payload g → f ≡ g
first_fault payload f g fits e refused = err_is f g (sym e ∙ fault_again payload g fits refused)

-- ---- records of sessions

pub rec_found : (payload : List ℕ) (found : Stored) → IsFormed found → payload ≡ payload_of found
    → IfSome (session_rec found) (λ x. (text : List ℕ) × IsFormedRec x.1 text × (payload ≡ payload_of (stored.Session x.0 x.1 text)))
rec_found payload (stored.Session s r text) formed is = (text, formed, is)
rec_found payload (stored.Setup s) formed is = tt
rec_found payload (stored.Kind k) formed is = tt
rec_found payload (stored.Asset n cap) formed is = tt
rec_found payload (stored.Hold a o u) formed is = tt
rec_found payload (stored.Act op s t) formed is = tt
