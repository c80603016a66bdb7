-- A hash is 32 bytes. Nothing else is known of it.
use Rattle.std.proofs.Common.{◌≡◌, ℕ, zero, suc, ◌%◌, ◌/◌, ◌^◌, Bool, true, List, [], ◌∷◌, nat_lt, refl, ◌∙◌, arith}
use Rattle.std.specs.Prelude.{slice_index}
use Rattle.std.specs.Int.{w32, byte_at, to_be_bytes}
use Rattle.std.specs.List.{list_all}
use Rattle.std.proofs.lemmas.Bool.{and_parts, and_from, lt-ltb, ltb-true}
use Rattle.std.proofs.lemmas.List.Folds.{list_all-append}
use Rattle.sha2.specs.Sha256.{sha256, digest_bytes, final_hash, initial_hash_256}
use Rattle.base64.specs.GeneralPurpose.{IsBytes}

abbrev pub is_byte : ℕ → Bool
is_byte b = nat_lt b 256

pub bytes_from : (bytes : List ℕ) → list_all is_byte bytes ≡ true → IsBytes bytes
bytes_from [] h i = omega arith
bytes_from (b ∷ bytes) h zero = ltb-true b 256 (and_parts _ _ h).0
bytes_from (b ∷ bytes) h (suc i) = bytes_from bytes (and_parts _ _ h).1 i

byte_of : (i n : ℕ) → is_byte (byte_at i n) ≡ true
byte_of zero n = lt-ltb (n % 256) 256 (omega arith)
byte_of (suc i) n = lt-ltb (n / 256 ^ suc i % 256) 256 (omega arith)

word_bytes : (n : ℕ) → list_all is_byte (to_be_bytes w32 n) ≡ true
word_bytes n = and_from _ _ (byte_of 3 n) (and_from _ _ (byte_of 2 n) (and_from _ _ (byte_of 1 n) (and_from _ _ (byte_of 0 n) refl)))

digest_all : (h : List ℕ) (n : ℕ) → list_all is_byte (digest_bytes h n) ≡ true
unfolding digest_bytes
digest_all h zero = refl
digest_all h (suc n) = list_all-append is_byte (digest_bytes h n) (to_be_bytes w32 (slice_index h n)) ∙ and_from _ _ (digest_all h n) (word_bytes (slice_index h n))

pub hash_bytes : (text : List ℕ) → IsBytes (sha256 text)
unfolding sha256
hash_bytes text = bytes_from _ (digest_all (final_hash initial_hash_256 text) 8)
