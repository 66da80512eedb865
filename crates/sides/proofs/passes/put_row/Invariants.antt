use Rattle.std.proofs.Common.{◌≡◌, ◌++◌, map, take}
use Rattle.sides.specs.declared.mark.Mark.TheVariants.{At}
use Rattle.sides.proofs.passes.put_row.Given as goal

abbrev pub invariant-loop-place : goal.invariant-loop-place
invariant-loop-place l = l.out ≡ l.initial.out ++ map At (take l.place-index l.row)
