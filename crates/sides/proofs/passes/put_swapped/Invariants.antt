use Rattle.std.proofs.Common.{◌≡◌, ◌++◌, drop}
use Rattle.sides.specs.Marks.{mark_swap}
use Rattle.sides.proofs.passes.put_swapped.Given as goal

abbrev pub invariant-loop-mark : goal.invariant-loop-mark
invariant-loop-mark l = l.out ++ mark_swap l.x l.row (drop l.mark-index l.marks) ≡ mark_swap l.x l.row l.marks
