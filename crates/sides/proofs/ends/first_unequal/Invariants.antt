use Rattle.std.proofs.Common.{◌≡◌, take, drop}
use Rattle.std.specs.List.{AllByRecursion}
use Rattle.sides.specs.Marks.{marks_of, equations_in}
use Rattle.systems.specs.Sides.{SameSides}
use Rattle.sides.proofs.ends.first_unequal.Given as goal

abbrev pub invariant-loop-k : goal.invariant-loop-k
invariant-loop-k l =
    (l.rest ≡ marks_of (drop l.k (equations_in l.marks)))
    × AllByRecursion SameSides (take l.k (equations_in l.marks))
