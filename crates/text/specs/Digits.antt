-- Digits, and the number that they write. Assumes nothing.
use Rattle.std.specs.Prelude.{◌≡◌, ℕ, ◌+◌, ◌-◌, ◌*◌, ◌<◌, ◌≤◌, [], ◌∷◌, length, slice_index, slice_index_or}
use Rattle.std.specs.Int.{IsInRange}
use Rattle.text.specs.Pieces.{Bytes}

-- the number that the digits write after n
abbrev pub value_on : ℕ → Bytes → ℕ
value_on n [] = n
value_on n (d ∷ ds) = value_on (n * 10 + (d - 48)) ds

-- at most sixteen digits, with no zero in front of others
pub record Shaped (ds : Bytes) : Type 0 where
  pub short : length ds ≤ 16
  pub lead : slice_index_or ds 0 0 ≡ 48 → length ds ≤ 1
  pub digit : (k : ℕ) → k < length ds → IsInRange 48 57 (slice_index ds k)
