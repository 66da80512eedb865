-- Sets of numbers as bits, and the number of their refusal. Assumes nothing.
use Rattle.std.specs.Prelude.{ℕ, ◌/◌, ◌%◌, ◌^◌, Bool, ◌==◌}
use Rattle.measure.specs.declared.sets.SetRefusal.{SetRefusal}
use Rattle.measure.specs.declared.sets.SetRefusal.TheVariants.{Beyond26Bits}

-- whether the number n is in the set: its bit n
abbrev pub holds : ℕ → ℕ → Bool
holds set n = (set / 2 ^ n % 2) == 1

abbrev pub set_number : SetRefusal → ℕ
set_number Beyond26Bits = 83
