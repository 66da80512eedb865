use Rattle.std.proofs.Common.{◌≡◌, ◌+◌, ◌≤◌, ◌++◌, map, length, drop}
use Rattle.systems.specs.Loading.{side_of}
use Rattle.sides.specs.declared.mark.Mark.TheVariants.{At}
use Rattle.sides.proofs.text.put_side.Given as goal

abbrev pub invariant-loop-b : goal.invariant-loop-b
invariant-loop-b l =
    (l.out ++ map At (side_of (drop l.b-index l.bytes)) ≡ l.initial.out ++ map At (side_of l.bytes))
    × (length l.out ≤ length l.initial.out + l.b-index)
