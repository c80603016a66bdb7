-- Each image stands for one list, or has one damage.
use Rattle.std.proofs.Common.{◌≡◌, ◌≢◌, ◌≤◌, ◌<◌, ◌⊎◌, ℕ, zero, suc, ◌+◌, ◌*◌, ◌/◌, ◌%◌, List, [], ◌∷◌, ◌++◌, length, take, drop, refl, sym, ap, ◌∙◌, subst, inl, inr, ⊎_elim, arith, append_assoc, length-append}
use Rattle.std.proofs.lemmas.List.{length-take-le, length-drop, take-append-drop, take_at, drop_at}
use Rattle.std.proofs.lemmas.Bool.{cases_eq, cases_lt}
use Rattle.std.specs.List.{AllByRecursion}
use Rattle.satp_base.specs.Format.{IsPayload, counted, records, EndsAt, Stands, SplitsOff, NoRecord, Damage}

-- a record is here where its length says so
pub record_there : (high low : ℕ) (after : List ℕ) → low < 256 → 1 ≤ high * 256 + low → high * 256 + low ≤ 4096 → high * 256 + low < length after → SplitsOff (high ∷ low ∷ after) (take (high * 256 + low) after) (drop (high * 256 + low) after)
record_there high low after small least most there =
    let size : length (take (high * 256 + low) after) ≡ high * 256 + low = length-take-le (high * 256 + low) after (omega (arith, there)) in
    let high_is : length (take (high * 256 + low) after) / 256 ≡ high = rw size (omega (arith, small)) in
    let low_is : length (take (high * 256 + low) after) % 256 ≡ low = rw size (omega (arith, small)) in
    record { payload = (omega (arith, size, least), omega (arith, size, most)); more = omega (arith, there, length-drop (high * 256 + low) after); bytes = sym (rw (high_is, low_is, take-append-drop) refl) }

same_rest : (x y : ℕ) (xs ys : List ℕ) → x ∷ xs ≡ y ∷ ys → xs ≡ ys
same_rest x y xs ys e = cc

-- and nowhere else
record IsSplit (high low : ℕ) (after q tail : List ℕ) : Type 0 where
  pub high_is : high ≡ length q / 256
  pub low_is : low ≡ length q % 256
  pub after_is : after ≡ q ++ tail

parts : (high low : ℕ) (after q tail : List ℕ) → high ∷ low ∷ after ≡ counted q ++ tail → IsSplit high low after q tail
parts high low after q tail e = record { high_is = cc; low_is = cc; after_is = cc }

pub record_not_there : (high low : ℕ) (after : List ℕ) → (256 ≤ low) ⊎ (high * 256 + low ≡ 0) ⊎ (4096 < high * 256 + low) ⊎ (length after ≤ high * 256 + low) → NoRecord (high ∷ low ∷ after)
record_not_there high low after bad q tail off =
    let p = parts high low after q tail off.bytes in
    let size : high * 256 + low ≡ length q = omega (arith, p.high_is, p.low_is) in
    let long : length after ≡ length q + length tail = ap length p.after_is ∙ length-append q tail in
    elim bad [
      | inl big ↦ omega (arith, p.low_is, big)
      | inr (inl none) ↦ omega (arith, size, none, off.payload.0)
      | inr (inr (inl most)) ↦ omega (arith, size, most, off.payload.1)
      | inr (inr (inr short)) ↦ omega (arith, size, short, long, off.more)
    ]

abbrev Split : List ℕ → Type 0
Split behind = (q : List ℕ) × (tail : List ℕ) × SplitsOff behind q tail

split_or_not : (behind : List ℕ) → Split behind ⊎ NoRecord behind
split_or_not [] = inr (λ q tail off. cc)
split_or_not (high ∷ []) = inr (λ q tail off. cc)
split_or_not (high ∷ low ∷ after) =
    ⊎_elim (λ small. ⊎_elim (λ none. no (inr (inl (omega (arith, none))))) (λ least. ⊎_elim (λ most. no (inr (inr (inl most)))) (λ most. ⊎_elim (λ there. yes small least most there) (λ short. no (inr (inr (inr short)))) (cases_lt size (length after))) (cases_lt 4096 size)) (cases_lt size 1)) (λ big. no (inl big)) (cases_lt low 256)
  where
    size : ℕ
    size = high * 256 + low

    no : (256 ≤ low) ⊎ (high * 256 + low ≡ 0) ⊎ (4096 < high * 256 + low) ⊎ (length after ≤ high * 256 + low) → Split (high ∷ low ∷ after) ⊎ NoRecord (high ∷ low ∷ after)
    no bad = inr (record_not_there high low after bad)

    yes : low < 256 → 1 ≤ size → size ≤ 4096 → size < length after → Split (high ∷ low ∷ after) ⊎ NoRecord (high ∷ low ∷ after)
    yes small least most there = inl (_, _, record_there high low after small least most there)

-- the list ends here: the gate is closed, or no whole record stands behind it
abbrev Ends : ℕ → List ℕ → Type 0
Ends gate behind = (gate ≢ 1) ⊎ NoRecord behind

record Read (image : List ℕ) : Type 0 where
  payloads : List (List ℕ)
  gate : ℕ
  behind : List ℕ
  at : EndsAt payloads gate behind image
  ends : Ends gate behind

-- one record in front of what was read
read_more : (behind q tail : List ℕ) → SplitsOff behind q tail → Read tail → Read (1 ∷ behind)
read_more behind q tail off r = record {
  payloads = q ∷ r.payloads;
  gate = r.gate;
  behind = r.behind;
  at = record { valid = (off.payload, r.at.valid); bytes = ap (λ (l : List ℕ). 1 ∷ l) (off.bytes ∙ ap (λ (l : List ℕ). counted q ++ l) r.at.bytes) ∙ sym (append_assoc (1 ∷ counted q) (records r.payloads) (r.gate ∷ r.behind)) };
  ends = r.ends;
}

-- one gate, where all shorter images are read
read_first : (gate : ℕ) (behind : List ℕ) → ((tail : List ℕ) → length tail < length behind → 0 < length tail → Read tail) → Read (gate ∷ behind)
read_first gate behind shorter = ⊎_elim opened shut (cases_eq gate 1)
  where
    shut : gate ≢ 1 → Read (gate ∷ behind)
    shut other = record { payloads = []; gate = gate; behind = behind; at = record { valid = tt; bytes = refl }; ends = inl other }

    further : Split behind → Read (1 ∷ behind)
    further (q, tail, off) = read_more behind q tail off (shorter tail (omega (arith, ap length off.bytes, length-append (counted q) tail)) off.more)

    broken : NoRecord behind → Read (1 ∷ behind)
    broken none = record { payloads = []; gate = 1; behind = behind; at = record { valid = tt; bytes = refl }; ends = inr none }

    opened : gate ≡ 1 → Read (gate ∷ behind)
    opened is = subst (λ (g : ℕ). Read (g ∷ behind)) (sym is) (⊎_elim further broken (split_or_not behind))

read_within : (most : ℕ) (image : List ℕ) → length image ≤ most → 0 < length image → Read image
read_within zero image le some = absurd (omega (arith, le, some))
read_within (suc most) [] le some = absurd (omega (arith, some))
read_within (suc most) (gate ∷ behind) le some = read_first gate behind (λ tail short more. read_within most tail (omega (arith, le, short)) more)

same_front : (p q x y : List ℕ) → length p ≡ length q → p ++ x ≡ q ++ y → (p ≡ q) × (x ≡ y)
same_front p q x y long e =
    (sym (take_at p x (length q) long) ∙ ap (take (length q)) e ∙ take_at q y (length q) refl, sym (drop_at p x (length q) long) ∙ ap (drop (length q)) e ∙ drop_at q y (length q) refl)

same_counted : (p q x y : List ℕ) → counted p ++ x ≡ counted q ++ y → (p ≡ q) × (x ≡ y)
same_counted p q x y e =
    let s = parts (length p / 256) (length p % 256) (p ++ x) q y e in
    same_front p q x y (omega (arith, s.high_is, s.low_is)) s.after_is

pub record SameEnd (p q : List (List ℕ)) (m n : ℕ) (x y : List ℕ) : Type 0 where
  pub payloads : p ≡ q
  pub gate : m ≡ n
  pub behind : x ≡ y

no_more : (gate : ℕ) (behind : List ℕ) (q : List ℕ) (qs : List (List ℕ)) (n : ℕ) (y : List ℕ) → AllByRecursion IsPayload (q ∷ qs) → Ends gate behind → gate ∷ behind ≡ records (q ∷ qs) ++ n ∷ y → ⊥
no_more gate behind q qs n y valid ends e = ⊎_elim (λ other. other first) (λ none. none q (records qs ++ n ∷ y) (record { payload = valid.0; more = omega (arith, length-append (records qs) (n ∷ y)); bytes = rest })) ends
  where
    whole : gate ∷ behind ≡ 1 ∷ (counted q ++ (records qs ++ n ∷ y))
    whole = e ∙ append_assoc (1 ∷ counted q) (records qs) (n ∷ y)

    first : gate ≡ 1
    first = cc

    rest : behind ≡ counted q ++ (records qs ++ n ∷ y)
    rest = same_rest gate 1 behind (counted q ++ (records qs ++ n ∷ y)) whole

same_end : (p q : List (List ℕ)) (m n : ℕ) (x y : List ℕ) → AllByRecursion IsPayload p → AllByRecursion IsPayload q → Ends m x → Ends n y → records p ++ m ∷ x ≡ records q ++ n ∷ y → SameEnd p q m n x y
same_end [] [] m n x y vp vq ep eq e = record { payloads = refl; gate = cc; behind = cc }
same_end [] (b ∷ q) m n x y vp vq ep eq e = absurd (no_more m x b q n y vq ep e)
same_end (a ∷ p) [] m n x y vp vq ep eq e = absurd (no_more n y a p m x vp eq (sym e))
same_end (a ∷ p) (b ∷ q) m n x y vp vq ep eq e =
    let s = same_counted a b (records p ++ m ∷ x) (records q ++ n ∷ y) inner in
    let r = same_end p q m n x y vp.1 vq.1 ep eq s.1 in
    record { payloads = cons_same s.0 r.payloads; gate = r.gate; behind = r.behind }
  where
    whole : 1 ∷ (counted a ++ (records p ++ m ∷ x)) ≡ 1 ∷ (counted b ++ (records q ++ n ∷ y))
    whole = sym (append_assoc (1 ∷ counted a) (records p) (m ∷ x)) ∙ e ∙ append_assoc (1 ∷ counted b) (records q) (n ∷ y)

    inner : counted a ++ (records p ++ m ∷ x) ≡ counted b ++ (records q ++ n ∷ y)
    inner = same_rest 1 1 (counted a ++ (records p ++ m ∷ x)) (counted b ++ (records q ++ n ∷ y)) whole

    cons_same : a ≡ b → p ≡ q → a ∷ p ≡ b ∷ q
    cons_same f g = ap (λ (l : List ℕ). l ∷ p) f ∙ ap (λ (l : List (List ℕ)). b ∷ l) g

-- two ends of one image are one
pub one_end : (p q : List (List ℕ)) (m n : ℕ) (x y image : List ℕ) → EndsAt p m x image → EndsAt q n y image → (m ≢ 1) ⊎ NoRecord x → (n ≢ 1) ⊎ NoRecord y → SameEnd p q m n x y
one_end p q m n x y image ap aq ep eq = same_end p q m n x y ap.valid aq.valid ep eq (sym ap.bytes ∙ aq.bytes)

pub reads : (image : List ℕ) → ((payloads : List (List ℕ)) × Stands image payloads) ⊎ ((at : ℕ) × Damage image at)
reads image = ⊎_elim long (λ short. inl ([], inl (short, refl))) (cases_lt 1 (length image))
  where
    long : 1 < length image → ((payloads : List (List ℕ)) × Stands image payloads) ⊎ ((at : ℕ) × Damage image at)
    long more = ⊎_elim shut broken_here r.ends
      where
        r : Read image
        r = read_within (length image) image (omega arith) (omega (arith, more))

        shut : r.gate ≢ 1 → ((payloads : List (List ℕ)) × Stands image payloads) ⊎ ((at : ℕ) × Damage image at)
        shut other = inl (r.payloads, inr (more, (r.gate, r.behind, other, r.at)))

        broken_here : NoRecord r.behind → ((payloads : List (List ℕ)) × Stands image payloads) ⊎ ((at : ℕ) × Damage image at)
        broken_here none = ⊎_elim open_here shut (cases_eq r.gate 1)
          where
            open_here : r.gate ≡ 1 → ((payloads : List (List ℕ)) × Stands image payloads) ⊎ ((at : ℕ) × Damage image at)
            open_here is = inr (length (records r.payloads), (r.payloads, (more, (r.behind, subst (λ (g : ℕ). EndsAt r.payloads g r.behind image) is r.at, none)), refl))

pub one_list : (image : List ℕ) (p q : List (List ℕ)) → Stands image p → Stands image q → p ≡ q
one_list image p q (inl a) (inl b) = a.1 ∙ sym b.1
one_list image p q (inl a) (inr b) = absurd (omega (arith, a.0, b.0))
one_list image p q (inr a) (inl b) = absurd (omega (arith, a.0, b.0))
one_list image p q (inr (long, (m, x, shut, ends))) (inr (long', (n, y, shut', ends'))) = (one_end p q m n x y image ends ends' (inl shut) (inl shut')).payloads

pub one_damage : (image : List ℕ) (m n : ℕ) → Damage image m → Damage image n → m ≡ n
one_damage image m n (p, (long, (x, ends, none)), at) (q, (long', (y, ends', none')), at') =
    at ∙ ap (λ (l : List (List ℕ)). length (records l)) (one_end p q 1 1 x y image ends ends' (inr none) (inr none')).payloads ∙ sym at'

pub never_both : (image : List ℕ) (p : List (List ℕ)) (n : ℕ) → Stands image p → Damage image n → ⊥
never_both image p n (inl a) (q, (long, broken), at) = omega (arith, a.0, long)
never_both image p n (inr (long, (m, x, shut, ends))) (q, (long', (y, ends', none)), at) = shut (one_end p q m 1 x y image ends ends' (inl shut) (inr none)).gate
