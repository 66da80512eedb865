use Rattle.std.proofs.Common.{◌≡◌, ℕ, ◌<◌, false, ◌||◌, length, get_or, drop}
use Rattle.systems.specs.Rows.{any}
use Rattle.systems.specs.Sides.{is_variable}
use Rattle.sides.specs.Marks.{lifted}
use Rattle.sides.proofs.ends.variables.Given as goal

abbrev pub invariant-loop-mark : goal.invariant-loop-mark
invariant-loop-mark l =
    (length l.found ≡ 26)
    × ((y : ℕ) → y < 26 → (get_or l.found y false || any (lifted (is_variable y)) (drop l.mark-index l.marks)) ≡ any (lifted (is_variable y)) l.marks)
