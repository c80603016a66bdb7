-- Ordered maps as finite maps.
use Rattle.std.proofs.Common.{◌≡◌, List, [], ◌∷◌, cond, Option, Some, None, refl, ap, sym, ◌∙◌}
use Rattle.std.specs.Cmp.{IsTotalOrder, eq_by_cmp_equiv}
use Rattle.std.specs.FinMap.{IsAntisymmetric, empty, entries, entries-insert, from_entries, insert, get, get-empty, get-entries, get-from_entries, get-insert, put, same_map}
use Rattle.std.specs.FinMap.Entries.{by_order}
use Rattle.std.specs.List.Sorted.{IsStrictlySortedBy}
use Rattle.std.specs.FinMap.Entries.{find}
use Rattle.std.specs.BTreeMap.{is_at}
use Rattle.std.specs.Map.{keys_of, lookup}
use Rattle.std.specs.declared.cmp.Ordering.{Ordering}

module _ {K V : Type 0} (R : K → K → Ordering) (total : IsTotalOrder R) (exact : IsAntisymmetric R) where
  abbrev pub value_at : List (K × V) → K → Option V
  value_at es k = lookup (is_at (R k)) es

  find_value : (es : List (K × V)) (q : K) → find R q es ≡ value_at es q
  find_value [] q = refl
  find_value (e ∷ es) q = ap (cond (is_at (R q) e.0) (Some e.1)) (find_value es q)

  -- what the finite map gives is what a look-up finds
  pub get_value : (es : List (K × V)) (q : K) → get (from_entries {R = R} es) q ≡ value_at es q
  get_value es q = get-from_entries total es q ∙ find_value es q

  -- entries that differ at one key make maps that differ there
  pub one_value : (es fs : List (K × V)) (k : K) (v : V) → ((q : K) → value_at fs q ≡ cond (is_at (R k) q) (Some v) (value_at es q)) → from_entries {R = R} fs ≡ insert (from_entries es) k v
  one_value es fs k v h = same_map total exact _ _ (λ q.
      get_value fs q ∙ h q ∙ ap (λ b. cond b (Some v) (value_at es q)) ((eq_by_cmp_equiv total).symm k q)
      ∙ sym (get-insert total (from_entries es) k v q ∙ ap (cond (is_at (R q) k) (Some v)) (get_value es q)))

  put_first : (e : K × V) (es : List (K × V)) → IsStrictlySortedBy R (keys_of (e ∷ es)) → put R e.0 e.1 es ≡ e ∷ es
  unfolding IsStrictlySortedBy
  put_first e [] h = refl
  put_first e (x ∷ es) h = ap (λ r. by_order r (e ∷ x ∷ es) ((x.0, e.1) ∷ es) (x ∷ put R e.0 e.1 es)) h.0.0

  rest_sorted : (e : K × V) (es : List (K × V)) → IsStrictlySortedBy R (keys_of (e ∷ es)) → IsStrictlySortedBy R (keys_of es)
  unfolding IsStrictlySortedBy
  rest_sorted e es h = h.1

  first_found : (e : K × V) (es : List (K × V)) → find R e.0 (e ∷ es) ≡ Some e.1
  first_found e es = ap (λ b. cond b (Some e.1) (find R e.0 es)) ((eq_by_cmp_equiv total).refl e.0)

  pub entries_empty : entries (empty {X = V} {R = R}) ≡ []
  entries_empty = go (entries empty) refl
    where
      go : (es : List (K × V)) → entries (empty {X = V} {R = R}) ≡ es → es ≡ []
      go [] e = refl
      go (x ∷ es) e = let bad : None ≡ Some x.1 = sym (get-empty R x.0) ∙ get-entries empty x.0 ∙ ap (find R x.0) e ∙ first_found x es in absurd cc

  -- a map in order has its entries
  pub sorted_entries : (es : List (K × V)) → IsStrictlySortedBy R (keys_of es) → entries (from_entries {R = R} es) ≡ es
  sorted_entries [] h = entries_empty
  sorted_entries (e ∷ es) h = entries-insert total (from_entries es) e.0 e.1 ∙ ap (put R e.0 e.1) (sorted_entries es (rest_sorted e es h)) ∙ put_first e es h
