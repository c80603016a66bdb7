-- Names and sessions as keys of a map.
use Rattle.std.proofs.Common.{◌≡◌, ℕ, List, cond, Option, Some, ap}
use Rattle.std.specs.Ordering.{nat_cmp}
use Rattle.std.specs.Cmp.{IsTotalOrder}
use Rattle.std.specs.Cmp.Lexicographic.{slice_cmp}
use Rattle.std.specs.FinMap.{from_entries, insert, get}
use Rattle.std.specs.BTreeMap.{is_at}
use Rattle.std.proofs.lemmas.Cmp.{nat_list_cmp_total, nat_cmp_total, then_total, on_total}
use Rattle.std.proofs.lemmas.Map.Lookups.{CmpEqualImpliesEq, exact_pairs, exact_unsigned, exact_bytes}
use Rattle.satp_base.specs.Keys.{name_cmp, session_cmp, same_name, same_session}
use Rattle.satp_base.specs.declared.name.Name.{Name}
use Rattle.satp_base.specs.declared.session.SessionId.{SessionId}
use Rattle.satp_base.proofs.KeyLemmas as key
pub use Rattle.satp_base.proofs.Equalities.{eq_name, eq_session, session_eq}

-- ---- names

pub names_total : IsTotalOrder name_cmp
names_total = then_total (on_total (λ n. n.bytes) nat_list_cmp_total) (on_total (λ n. n.count) nat_cmp_total)

-- names that compare alike are one
pub exact_names : CmpEqualImpliesEq name_cmp
exact_names a b h =
    let p = exact_pairs (slice_cmp nat_cmp) nat_cmp exact_bytes exact_unsigned (a.bytes, a.count) (b.bytes, b.count) h in
    same_name a b (ap (λ (x : List ℕ × ℕ). x.0) p) (ap (λ (x : List ℕ × ℕ). x.1) p)

-- ---- sessions

pub sessions_total : IsTotalOrder session_cmp
sessions_total = then_total (on_total (λ s. s.gateway) names_total) (on_total (λ s. s.number) nat_cmp_total)

-- sessions that compare alike are one
pub exact_sessions : CmpEqualImpliesEq session_cmp
exact_sessions a b h =
    let p = exact_pairs name_cmp nat_cmp exact_names exact_unsigned (a.gateway, a.number) (b.gateway, b.number) h in
    same_session a b (ap (λ (x : Name × ℕ). x.0) p) (ap (λ (x : Name × ℕ). x.1) p)

-- ---- maps

module _ {V : Type 0} where
  abbrev pub value_at : List (SessionId × V) → SessionId → Option V
  value_at = key.value_at session_cmp

  pub get_session : (es : List (SessionId × V)) (q : SessionId) → get (from_entries {R = session_cmp} es) q ≡ value_at es q
  get_session = key.get_key session_cmp sessions_total

  -- entries that differ at one session make maps that differ there
  pub one_session : (es fs : List (SessionId × V)) (s : SessionId) (v : V)
      → ((q : SessionId) → value_at fs q ≡ cond (is_at (session_cmp s) q) (Some v) (value_at es q))
      → from_entries {R = session_cmp} fs ≡ insert (from_entries es) s v
  one_session = key.one_key session_cmp sessions_total exact_sessions

  abbrev pub value_at_name : List (Name × V) → Name → Option V
  value_at_name = key.value_at name_cmp

  pub get_name : (es : List (Name × V)) (q : Name) → get (from_entries {R = name_cmp} es) q ≡ value_at_name es q
  get_name = key.get_key name_cmp names_total

  -- entries that differ at one name make maps that differ there
  pub one_name : (es fs : List (Name × V)) (n : Name) (v : V)
      → ((q : Name) → value_at_name fs q ≡ cond (is_at (name_cmp n) q) (Some v) (value_at_name es q))
      → from_entries {R = name_cmp} fs ≡ insert (from_entries es) n v
  one_name = key.one_key name_cmp names_total exact_names
