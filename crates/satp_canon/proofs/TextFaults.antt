-- A text is not canonical only where its values have no fault, and then at the place where it differs.
use Rattle.std.proofs.Common.{◌≡◌, ℕ, ◌⊎◌, inl, inr, Bool, true, false, cond, List, [], ◌∷◌, ◌++◌, map, codes, Option, Some, None, Result, Ok, Err, IsUtf8, ap, subst, sym, ◌∙◌, option_and_then, option_map}
use Rattle.std.specs.Prelude.{IfErr, flat_map, ⊤}
use Rattle.std.specs.List.{AllByRecursion}
use Rattle.std.specs.Option.{option_map_or}
use Rattle.std.specs.Str.{bytes_eq}
use Rattle.std.proofs.lemmas.Str.{is_utf8-from_IsUtf8}
use Rattle.serde_json.specs.Data.{Data}
use Rattle.serde_json.specs.Find.{as_str, get}
use Rattle.serde_json.specs.Read.{read}
use Rattle.satp_base.specs.Canonical.{canonical, kind_named, member_named, member_text, row, terms_row}
use Rattle.satp_base.specs.Faults.{or_else}
use Rattle.satp_base.specs.Forms.{IsMessage}
use Rattle.satp_base.specs.declared.member.MemberName.{MemberName}
use Rattle.satp_base.specs.declared.member.MemberName.TheVariants as name
use Rattle.satp_base.specs.declared.message.Kind.{Kind}
use Rattle.satp_base.specs.declared.message.Message.{Message}
use Rattle.satp_canon.specs.FirstFault.{common, data_fault, fault_unless, first_of, form_fault, has_form, json_of, kind_fault, least, member_fault, odd_names, terms_fault, text_fault, value_faults, values_fault}
use Rattle.satp_canon.specs.Reads.{DiffersAt, Reads}
use Rattle.satp_canon.specs.declared.fault.CanonFault.{CanonFault}
use Rattle.satp_canon.specs.declared.fault.CanonFault.TheVariants as fault

-- ---- no value has the fault of a text

abbrev IsOfValues : Option CanonFault → Type 0
IsOfValues (Some (fault.NotCanonical at)) = ⊥
IsOfValues _ = ⊤

either : (o p : Option CanonFault) → IsOfValues o → IsOfValues p → IsOfValues (or_else o p)
either None p h i = i
either (Some f) p h i = h

among : (os : List (Option CanonFault)) → AllByRecursion IsOfValues os → IsOfValues (first_of os)
among [] h = tt
among (o ∷ os) h = either o (first_of os) h.0 (among os h.1)

both : (os ps : List (Option CanonFault)) → AllByRecursion IsOfValues os → AllByRecursion IsOfValues ps → AllByRecursion IsOfValues (os ++ ps)
both [] ps h i = i
both (o ∷ os) ps h i = (h.0, both os ps h.1 i)

of_member : (o : Option (List ℕ)) → IsOfValues (option_map (λ text. fault.Member (member_named text)) o)
of_member None = tt
of_member (Some text) = tt

of_form : (b : Bool) (n : MemberName) → IsOfValues (fault_unless b n)
of_form true n = tt
of_form false n = tt

of_named : (d : Data) (n : MemberName) → IsOfValues (form_fault d n)
of_named d n = of_form (has_form n (get (member_text n) d)) n

of_forms : (d : Data) (ns : List MemberName) → AllByRecursion IsOfValues (map (form_fault d) ns)
of_forms d [] = tt
of_forms d (n ∷ ns) = (of_named d n, of_forms d ns)

of_terms : (o : Option Data) → IsOfValues (option_and_then terms_fault o)
of_terms None = tt
of_terms (Some d) = either (member_fault terms_row d) (first_of (map (form_fault d) terms_row)) (of_member (least (odd_names terms_row d))) (among (map (form_fault d) terms_row) (of_forms d terms_row))

of_value : (d : Data) (n : MemberName) → AllByRecursion IsOfValues (value_faults d n)
of_value d name.Terms = (of_named d name.Terms, (of_terms (get (codes "terms") d), tt))
of_value d n = (of_named d n, tt)

of_values : (d : Data) (ns : List MemberName) → AllByRecursion IsOfValues (flat_map (value_faults d) ns)
of_values d [] = tt
of_values d (n ∷ ns) = both (value_faults d n) (flat_map (value_faults d) ns) (of_value d n) (of_values d ns)

of_kind : (d : Data) (k : Option Kind) → IsOfValues (kind_fault d k)
of_kind d None = tt
of_kind d (Some k) = either (member_fault (row k) d) (values_fault (row k) d) (of_member (least (odd_names (row k) d))) (among (flat_map (value_faults d) (row k)) (of_values d (row k)))

of_found : (d : Data) (o : Option Data) → IsOfValues (option_map_or (λ v. kind_fault d (option_and_then kind_named (as_str v))) o (Some (fault.Member name.Kind)))
of_found d None = tt
of_found d (Some v) = of_kind d (option_and_then kind_named (as_str v))

of_data : (d : Data) → IsOfValues (data_fault d)
of_data d = of_found d (get (codes "kind") d)

pub not_of_values : (d : Data) (f : CanonFault) (at : ℕ) → (f ≡ fault.Memory) ⊎ (Some f ≡ data_fault d) → f ≡ fault.NotCanonical at → ⊥
not_of_values d f at (inl memory) e = let bad = sym e ∙ memory in cc
not_of_values d f at (inr is) e = subst IsOfValues (sym is ∙ ap Some e) (of_data d)

-- ---- the place

place_by : (b : Bool) (n at : ℕ) → Some (fault.NotCanonical at) ≡ cond b None (Some (fault.NotCanonical n)) → at ≡ n
place_by true n at e = absurd cc
place_by false n at e = cc

place_is : (text other : List ℕ) (f : CanonFault) (at : ℕ) → (f ≡ fault.Memory) ⊎ (Some f ≡ text_fault text other) → f ≡ fault.NotCanonical at → at ≡ common text other
place_is text other f at (inl memory) e = let bad = sym e ∙ memory in absurd cc
place_is text other f at (inr is) e = place_by (bytes_eq text other) (common text other) at (ap Some (sym e) ∙ is)

-- the bytes are one value at most
one_value : (text : List ℕ) (v d : Data) → IsUtf8 text → read text ≡ Some v → json_of text ≡ Some d → v ≡ d
one_value text v d utf8 e is = let same = sym (ap (λ (b : Bool). cond b (read text) None) (is_utf8-from_IsUtf8 text utf8) ∙ e) ∙ is in cc

pub differs : (r : Result Message CanonFault) (text : List ℕ) (v : Data) (m : Message) (at : ℕ) → IsUtf8 text → read text ≡ Some v → IsMessage m → Reads m v
    → IfErr r (λ f. (f ≡ fault.Memory) ⊎ (Some f ≡ text_fault text (canonical m))) → r ≡ Err (fault.NotCanonical at) → DiffersAt text at
differs (Ok x) text v m at utf8 e formed reads why is = absurd cc
differs (Err f) text v m at utf8 e formed reads why is = record {
  message = m;
  formed = formed;
  holds = λ d json. subst (Reads m) (one_value text v d utf8 e json) reads;
  first = place_is text (canonical m) f at why cc;
}
