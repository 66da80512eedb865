-- Pass and fail changed for a set of variables. Assumes nothing.
use Rattle.std.specs.Prelude.{ℕ, Bool, cond, not}
use Rattle.measure.specs.Sets.{holds}

-- the answer for the variable v, which is the other one where v is in the set
abbrev pub turned_for : ℕ → ℕ → Bool → Bool
turned_for set v pass = cond (holds set v) (not pass) pass
