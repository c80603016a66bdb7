-- How far a walk over the records of an image has come.
use Rattle.std.proofs.Common.{◌≡◌, ◌≢◌, ◌≤◌, ◌<◌, ℕ, suc, ◌+◌, ◌-◌, List, [], ◌∷◌, ◌++◌, length, take, drop, get_or, refl, sym, ap, ◌∙◌, inr, arith, append_assoc, length-append}
use Rattle.std.proofs.lemmas.List.{take_all}
use Rattle.std.specs.List.{AllByRecursion}
use Rattle.satp_base.specs.Format.{IsPayload, counted, records, Stands, Breaks, Damage, SplitsOff, NoRecord}
use Rattle.satp_base.proofs.Appends.{records-push, valid-push}

pub record IsScanning (image : List ℕ) (payloads : List (List ℕ)) (rest : List ℕ) (gate : ℕ) : Type 0 where
  pub front : image ≡ records payloads ++ rest
  pub valid : AllByRecursion IsPayload payloads
  pub place : gate ≡ length (records payloads)
  pub more : 0 < length rest
  pub long : 1 < length image

pub scan_begins : (image : List ℕ) → 1 < length image → IsScanning image [] image 0
scan_begins image long = record { front = refl; valid = tt; place = refl; more = omega (arith, long); long = long }

-- one record further
pub scan_more : (image : List ℕ) (payloads : List (List ℕ)) (rest behind q tail : List ℕ) (gate : ℕ) → IsScanning image payloads rest gate → rest ≡ 1 ∷ behind → SplitsOff behind q tail → IsScanning image (payloads ++ q ∷ []) tail (gate + (3 + length q))
scan_more image payloads rest behind q tail gate s is off = record {
  front = s.front ∙ ap (λ (l : List ℕ). records payloads ++ l) (is ∙ ap (λ (l : List ℕ). 1 ∷ l) off.bytes) ∙ sym (rw (records-push payloads q, append_assoc (records payloads) (1 ∷ counted q) tail) refl);
  valid = valid-push payloads q off.payload s.valid;
  place = rw (records-push payloads q) (omega (arith, s.place, length-append (records payloads) (1 ∷ counted q)));
  more = off.more;
  long = s.long;
}

pub scan_breaks : (image : List ℕ) (payloads : List (List ℕ)) (rest behind : List ℕ) (gate : ℕ) → IsScanning image payloads rest gate → rest ≡ 1 ∷ behind → NoRecord behind → Breaks image payloads
scan_breaks image payloads rest behind gate s is none = (s.long, (behind, record { valid = s.valid; bytes = s.front ∙ ap (λ (l : List ℕ). records payloads ++ l) is }, none))

pub scan_damage : (image : List ℕ) (payloads : List (List ℕ)) (rest behind : List ℕ) (gate : ℕ) → IsScanning image payloads rest gate → rest ≡ 1 ∷ behind → NoRecord behind → Damage image gate
scan_damage image payloads rest behind gate s is none = (payloads, scan_breaks image payloads rest behind gate s is none, s.place)

pub begins_open : (rest : List ℕ) → 1 ≤ length rest → get_or rest 0 0 ≡ 1 → rest ≡ 1 ∷ take (length rest - 1) (drop 1 rest)
begins_open [] long is = absurd (omega (arith, long))
begins_open (x ∷ rest) long is = rw is (ap (λ (l : List ℕ). 1 ∷ l) (sym (take_all (suc (length rest) - 1) rest (omega arith))))

-- the walk ends at a closed gate
pub scan_ends : (image : List ℕ) (payloads : List (List ℕ)) (rest : List ℕ) (gate : ℕ) → IsScanning image payloads rest gate → (1 ≤ length rest → get_or rest 0 0 ≢ 1) → Stands image payloads
scan_ends image payloads [] gate s shut = absurd (omega (arith, s.more))
scan_ends image payloads (x ∷ rest) gate s shut = inr (s.long, (x, rest, shut (omega arith), record { valid = s.valid; bytes = s.front }))
