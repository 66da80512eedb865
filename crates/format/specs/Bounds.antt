-- Rules whose numbers are bounded. Assumes nothing.
use Rattle.std.specs.Prelude.{ℕ, ◌<◌}
use Rattle.model.specs.declared.Rule.{Rule}
use Rattle.model.specs.declared.Rule.TheVariants.{Pair, Block}

-- the letters are below the first bound, and a count is below the second
abbrev pub Within : ℕ → ℕ → Rule → Type 0
Within letters counts (Pair a b) = (a < letters) × (b < letters)
Within letters counts (Block a n) = (a < letters) × (n < counts)
