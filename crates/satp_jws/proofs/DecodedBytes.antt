-- What a part decodes to is bytes.
use Rattle.std.proofs.Common.{◌≡◌, ◌⊎◌, inl, inr, ℕ, zero, suc, ◌+◌, ◌*◌, ◌/◌, ◌%◌, ◌<◌, ◌≤◌, ◌==◌, Bool, true, false, List, [], ◌∷◌, ◌++◌, length, take, drop, slice_index, nat_lt, Option, Some, None, Result, Ok, Err, refl, ap, subst, sym, ◌∙◌, arith}
use Rattle.std.specs.List.{list_all}
use Rattle.std.specs.Result.{result_ok}
use Rattle.std.proofs.lemmas.Bool.{and_from, and_parts, lt-ltb}
use Rattle.std.proofs.lemmas.List.{get_or-drop}
use Rattle.std.proofs.lemmas.List.Folds.{list_all-append}
use Rattle.base64.specs.Engines.{url_safe_no_pad}
use Rattle.base64.specs.GeneralPurpose.{IsBytes, decode_of, decoded_of}
use Rattle.base64.specs.Decode.{IsDecodeTable, decode_error, decode_group, decode_outcome, decoded_bytes, group_bytes, group_error, groups_before_last, groups_bytes, groups_error, lone_error, no_leftover, or_else, push_leftover, scan, scan_bytes, scan_last, suffix_bytes, suffix_error, symbol_error}
use Rattle.base64.specs.declared.decode.DecodeError.{DecodeError}
use Rattle.base64.specs.declared.engine.DecodePaddingMode.{DecodePaddingMode}
use Rattle.base64.proofs.Decoding.{IsLeftover, IsLeftover_next, scan-cons_err, scan-cons_ok, scan-nil}
use Rattle.base64.proofs.Tables.{IsDecodeTable_from, are_tables_inverse}
use Rattle.satp_base.proofs.HashLemmas.{bytes_from, is_byte}
use Rattle.satp_jws.specs.Faults.{decoded}

-- ---- groups of four

group_small : (m0 m1 m2 m3 : ℕ) → m0 < 64 → m1 < 64 → m2 < 64 → m3 < 64 → list_all is_byte (decode_group m0 m1 m2 m3) ≡ true
group_small m0 m1 m2 m3 l0 l1 l2 l3 =
    and_from _ _ (lt-ltb (m0 * 4 + m1 / 16) 256 (omega (arith, l0, l1)))
    (and_from _ _ (lt-ltb (m1 % 16 * 16 + m2 / 4) 256 (omega (arith, l1, l2)))
    (and_from _ _ (lt-ltb (m2 % 4 * 64 + m3) 256 (omega (arith, l2, l3))) refl))

none_of : (x y : Option DecodeError) → or_else x y ≡ None → (x ≡ None) × (y ≡ None)
none_of None y h = (refl, h)
none_of (Some e) y h = absurd cc

module _ (dec s : List ℕ) (table : IsDecodeTable dec) (bytes : IsBytes s) where
  small : (i : ℕ) → symbol_error dec s i ≡ None → slice_index dec (slice_index s i) < 64
  small i h = elim (table (slice_index s i) (bytes i)) [
    | inl bad ↦ cc (rw bad at h)
    | inr good ↦ good
  ]

  group : (i : ℕ) → group_error dec s i ≡ None → list_all is_byte (group_bytes dec s i) ≡ true
  group i h =
      let a = none_of _ _ h in
      let b = none_of _ _ a.1 in
      let c = none_of _ _ b.1 in
      group_small _ _ _ _ (small i a.0) (small (i + 1) b.0) (small (i + 2) c.0) (small (i + 3) c.1)

  groups : (q : ℕ) → groups_error dec s q ≡ None → list_all is_byte (groups_bytes dec s q) ≡ true
  unfolding groups_error groups_bytes
  groups zero h = refl
  groups (suc q) h =
      let both = none_of _ _ h in
      list_all-append is_byte (groups_bytes dec s q) (group_bytes dec s (4 * q)) ∙ and_from _ _ (groups q both.0) (group (4 * q) both.1)

-- ---- the last group

abbrev Small : List ℕ → Type 0
Small morsels = (k : ℕ) → slice_index morsels k < 64

results : {A E : Type 0} (r : Result A E) → ((x : A) × (r ≡ Ok x)) ⊎ ((e : E) × (r ≡ Err e))
results (Ok x) = inl (x, refl)
results (Err e) = inr (e, refl)

scan_keeps : (dec : List ℕ) (pad at : ℕ) (st end : _) (i : ℕ) (bs : List ℕ) → IsDecodeTable dec → IsLeftover st i → IsBytes bs → scan dec pad at st i bs ≡ Ok end → Small end.morsels
scan_keeps dec pad at st end i [] table held bytes e = let same : st ≡ end = cc (sym (scan-nil dec pad at st i) ∙ e) in subst (λ x. Small x.morsels) same held.3
scan_keeps dec pad at st end i (b ∷ bs) table held bytes e = elim (results (push_leftover dec pad at st i b)) [
  | inl (next, ok) ↦ scan_keeps dec pad at next end (i + 1) bs table (IsLeftover_next dec pad at st i b next table held (bytes 0) ok) (λ k. bytes (suc k)) (sym (scan-cons_ok dec pad at st i b bs next ok) ∙ e)
  | inr (why, bad) ↦ absurd (cc (sym (scan-cons_err dec pad at st i b bs why bad) ∙ e))
]

start_small : (k : ℕ) → slice_index no_leftover.morsels k < 64
start_small zero = omega arith
start_small (suc zero) = omega arith
start_small (suc (suc zero)) = omega arith
start_small (suc (suc (suc zero))) = omega arith
start_small (suc (suc (suc (suc k)))) = omega arith

start : IsLeftover no_leftover 0
start = (omega arith, omega arith, omega arith, start_small)

take_small : (n : ℕ) (xs : List ℕ) → list_all is_byte xs ≡ true → list_all is_byte (take n xs) ≡ true
take_small zero xs h = refl
take_small (suc n) [] h = refl
take_small (suc n) (x ∷ xs) h = let both = and_parts _ _ h in and_from _ _ both.0 (take_small n xs both.1)

dropped : (s : List ℕ) (at : ℕ) → IsBytes s → IsBytes (drop at s)
dropped s at bytes = λ k. rw (get_or-drop at s k 0) (bytes (at + k))

suffix : (dec : List ℕ) (pad at : ℕ) (s : List ℕ) → IsDecodeTable dec → IsBytes s → list_all is_byte (suffix_bytes dec pad at s) ≡ true
suffix dec pad at s table bytes = elim (results (scan_last dec pad at s)) [
  | inl (st, ok) ↦ ap (λ r. list_all is_byte (scan_bytes r)) ok ∙ (let h = scan_keeps dec pad at no_leftover st 0 (drop at s) table start (dropped s at bytes) ok in take_small (st.morsels_count * 6 / 8) (decode_group (slice_index st.morsels 0) (slice_index st.morsels 1) (slice_index st.morsels 2) (slice_index st.morsels 3)) (group_small _ _ _ _ (h 0) (h 1) (h 2) (h 3)))
  | inr (why, bad) ↦ ap (λ r. list_all is_byte (scan_bytes r)) bad
]

-- ---- the whole

all_small : (dec : List ℕ) (pad : ℕ) (mode : DecodePaddingMode) (s : List ℕ) → IsDecodeTable dec → IsBytes s → decode_error dec pad false mode s ≡ None → list_all is_byte (decoded_bytes dec pad s) ≡ true
all_small dec pad mode s table bytes none =
    let q = groups_before_last (length s) in
    let a = none_of (lone_error dec pad s) (or_else (groups_error dec s q) (suffix_error dec pad false mode (4 * q) s)) none in
    let b = none_of (groups_error dec s q) (suffix_error dec pad false mode (4 * q) s) a.1 in
    list_all-append is_byte (groups_bytes dec s q) (suffix_bytes dec pad (4 * q) s) ∙ and_from _ _ (groups dec s table bytes q b.0) (suffix dec pad (4 * q) s table bytes)

outcome : (error : Option DecodeError) (found b : List ℕ) → result_ok (decode_outcome error found) ≡ Some b → (error ≡ None) × (found ≡ b)
outcome None found b e = (refl, cc e)
outcome (Some why) found b e = absurd cc

pub decoded_are_bytes : (part bytes : List ℕ) → IsBytes part → decoded part ≡ Some bytes → IsBytes bytes
unfolding decoded decoded_of
decoded_are_bytes part bytes valid e =
    let g = url_safe_no_pad in
    let found = outcome _ _ bytes e in
    let table = IsDecodeTable_from g.encode_table g.decode_table (are_tables_inverse g.encode_table g.decode_table g.padding.value g.tables) in
    subst IsBytes found.1 (bytes_from _ (all_small g.decode_table g.padding.value g.config.decode_padding_mode part table valid found.0))
