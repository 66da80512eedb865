use Rattle.std.proofs.Common.{◌≡◌, ◌≤◌, take}
use Rattle.sides.specs.Marks.{count_of}
use Rattle.sides.proofs.passes.count.Given as goal

abbrev pub invariant-loop-mark : goal.invariant-loop-mark
invariant-loop-mark l = (l.n ≤ l.mark-index) × (l.n ≡ count_of l.x (take l.mark-index l.marks))
