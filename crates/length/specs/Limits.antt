-- The two limits of a variable, and the number of their refusal. Assumes nothing.
use Rattle.std.specs.Prelude.{ℕ, ◌<◌, ◌≤◌, ◌⊎◌}
use Rattle.length.specs.declared.kind.LengthRefusal.{LengthRefusal}
use Rattle.length.specs.declared.kind.LengthRefusal.TheVariants.{OutOfOrder}

-- least is at most most, and most is at most 1,000,000
abbrev pub InOrder : ℕ → ℕ → Type 0
InOrder least most = (least ≤ most) × (most ≤ 1000000)

-- or not
abbrev pub IsOutOfOrder : ℕ → ℕ → Type 0
IsOutOfOrder least most = (most < least) ⊎ (1000000 < most)

abbrev pub length_number : LengthRefusal → ℕ
length_number OutOfOrder = 82
