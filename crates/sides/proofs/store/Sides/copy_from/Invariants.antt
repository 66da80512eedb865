use Rattle.std.proofs.Common.{◌≡◌, take}
use Rattle.sides.proofs.store.Sides.copy_from.Given as goal

abbrev pub invariant-loop-mark : goal.invariant-loop-mark
invariant-loop-mark l = l.self-inside.spare ≡ take l.mark-index l.mark-items
