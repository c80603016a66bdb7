-- Maps under keys of one's own: what the entries of a `BTreeMap` hold at a key, and entries that differ at one key.
use Rattle.std.proofs.Common.{◌≡◌, List, [], ◌∷◌, cond, Option, Some, refl, ap, sym, ◌∙◌}
use Rattle.std.specs.Cmp.{IsTotalOrder, eq_by_cmp_equiv}
use Rattle.std.specs.declared.cmp.Ordering.{Ordering}
use Rattle.std.specs.FinMap.{from_entries, insert, get, get-from_entries, get-insert, same_map}
use Rattle.std.specs.FinMap.Entries.{find}
use Rattle.std.specs.BTreeMap.{is_at}
use Rattle.std.specs.Map.{lookup}
use Rattle.std.proofs.lemmas.Map.Lookups.{CmpEqualImpliesEq}

module _ {K V : Type 0} (R : K → K → Ordering) where
  -- what `get` of the map computes to
  abbrev pub value_at : List (K × V) → K → Option V
  value_at entries key = lookup (is_at (R key)) entries

  find_key : (es : List (K × V)) (q : K) → find R q es ≡ value_at es q
  find_key [] q = refl
  find_key (e ∷ es) q = ap (cond (is_at (R q) e.0) (Some e.1)) (find_key es q)

  pub get_key : IsTotalOrder R → (es : List (K × V)) (q : K) → get (from_entries {R = R} es) q ≡ value_at es q
  get_key total es q = get-from_entries total es q ∙ find_key es q

  -- entries that differ at one key make maps that differ there
  pub one_key : IsTotalOrder R → CmpEqualImpliesEq R → (es fs : List (K × V)) (k : K) (v : V)
      → ((q : K) → value_at fs q ≡ cond (is_at (R k) q) (Some v) (value_at es q))
      → from_entries {R = R} fs ≡ insert (from_entries es) k v
  one_key total exact es fs k v h = same_map total exact _ _ (λ q.
      get_key total fs q ∙ h q ∙ ap (λ b. cond b (Some v) (value_at es q)) ((eq_by_cmp_equiv total).symm k q)
      ∙ sym (get-insert total (from_entries es) k v q ∙ ap (cond (is_at (R q) k) (Some v)) (get_key total es q)))
