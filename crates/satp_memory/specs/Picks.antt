-- The image that a pick leaves, of the bytes of the last sync, those of now, and the marks of what was written between.
use Rattle.std.specs.Prelude.{◌≡◌, ◌≢◌, ◌≤◌, ◌<◌, ℕ, ◌%◌, List, length, slice_index}

-- those of now, with each marked byte equal to one
pub record Fills (now marks : List ℕ) (byte : ℕ) (image : List ℕ) : Type 0 where
  pub long : length image ≡ length now
  pub kept : (k : ℕ) → k < length now → slice_index marks k ≡ 0 → slice_index image k ≡ slice_index now k
  pub filled : (k : ℕ) → k < length now → slice_index marks k ≢ 0 → slice_index image k ≡ byte

pub record Picks (base now marks : List ℕ) (pick : ℕ) (image : List ℕ) : Type 0 where
  pub old : pick ≡ 0 → image ≡ base
  pub new : pick ≡ 1 → image ≡ now
  pub filled : 2 ≤ pick → Fills now marks (pick % 256) image
