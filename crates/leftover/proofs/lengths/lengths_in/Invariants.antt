use Rattle.std.proofs.Common.{◌≡◌, ℕ, ◌<◌, ◌≤◌, false, ◌||◌, eqb, length, get_or, drop}
use Rattle.systems.specs.Rows.{any}
use Rattle.leftover.specs.Noting.{mark_rows}
use Rattle.leftover.proofs.lengths.lengths_in.Given as goal

abbrev pub invariant-loop-mark : goal.invariant-loop-mark
invariant-loop-mark l =
    (length l.noted ≡ 513)
    × (l.count ≤ l.mark-index)
    × ((n : ℕ) → n < 513 → (get_or l.noted n false || any (eqb n) (mark_rows l.a l.count (drop l.mark-index l.marks))) ≡ any (eqb n) (mark_rows l.a 0 l.marks))
