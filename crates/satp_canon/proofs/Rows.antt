-- The first fault of a row of members, from the faults of its parts.
use Rattle.std.proofs.Common.{◌≡◌, List, [], ◌∷◌, ◌++◌, Option, Some, None, Result, Ok, Err, ap, sym, ◌∙◌}
use Rattle.std.specs.Prelude.{flat_map, IsErrAnd, is_some}
use Rattle.std.specs.Result.{result_err}
use Rattle.std.proofs.lemmas.List.Concat.{flat_map-append}
use Rattle.serde_json.specs.Data.{Data, string}
use Rattle.serde_json.specs.Find.{get}
use Rattle.satp_base.specs.Canonical.{kind_named, kind_text, member_text}
use Rattle.satp_base.specs.declared.member.MemberName.{MemberName}
use Rattle.satp_base.specs.declared.member.MemberName.TheVariants as name
use Rattle.satp_base.specs.declared.message.Kind.{Kind}
use Rattle.satp_base.proofs.OneText.{same_kind}
use Rattle.satp_canon.specs.FirstFault.{first_of, value_faults, values_fault, fault_unless, holds_text}
use Rattle.satp_canon.specs.declared.fault.CanonFault.{CanonFault}
use Rattle.satp_canon.proofs.Firsts.{behind, in_front}

pub leaves : {T : Type 0} (r : Result T CanonFault) (f : CanonFault) → IsErrAnd r (λ e. e ≡ f) → result_err r ≡ Some f
leaves (Ok x) f h = absurd h
leaves (Err e) f h = ap Some h

pub alone : (o : Option CanonFault) → None ≡ o → None ≡ first_of (o ∷ [])
alone o e = ap (λ (x : Option CanonFault). first_of (x ∷ [])) e

pub alone_found : (o : Option CanonFault) (f : CanonFault) → Some f ≡ o → Some f ≡ first_of (o ∷ [])
alone_found o f e = ap (λ (x : Option CanonFault). first_of (x ∷ [])) e

module _ (d : Data) where
  split : (ns ms : List MemberName) → values_fault (ns ++ ms) d ≡ first_of (flat_map (value_faults d) ns ++ flat_map (value_faults d) ms)
  split ns ms = ap first_of (flat_map-append (value_faults d) ns ms)

  pub past : (ns ms : List MemberName) → None ≡ values_fault ns d → values_fault (ns ++ ms) d ≡ values_fault ms d
  past ns ms e = split ns ms ∙ behind (flat_map (value_faults d) ns) (flat_map (value_faults d) ms) e

  pub stops : (ns ms : List MemberName) (f : CanonFault) → Some f ≡ values_fault ns d → values_fault (ns ++ ms) d ≡ Some f
  stops ns ms f e = split ns ms ∙ in_front (flat_map (value_faults d) ns) (flat_map (value_faults d) ms) f e

  pub kind_fine : (k : Kind) → get (member_text name.Kind) d ≡ Some (string (kind_text k)) → None ≡ values_fault (name.Kind ∷ []) d
  kind_fine k e =
      sym (ap (λ (found : Option Data). first_of (fault_unless (holds_text (λ text. is_some (kind_named text)) found) name.Kind ∷ [])) e
      ∙ ap (λ (named : Option Kind). first_of (fault_unless (is_some named) name.Kind ∷ [])) (same_kind k))
