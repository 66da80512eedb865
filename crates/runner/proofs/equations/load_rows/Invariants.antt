use Rattle.std.proofs.Common.{◌≡◌, List, [], length}
use Rattle.systems.specs.Standings.{new}
use Rattle.checker.specs.Holding.{loading}
use Rattle.text.specs.Pieces.{Bytes}
use Rattle.tables.specs.Stepping.{left}
use Rattle.runner.specs.Passing.{Starts}
use Rattle.runner.proofs.Loops.{Loading}
use Rattle.runner.proofs.equations.load_rows.Given as goal

abbrev pub invariant-loop-line : goal.invariant-loop-line
invariant-loop-line l = (all : List Bytes) → Starts all l.initial.reader → loading l.initial.system ≡ new → Loading all (loading l.system) l.reader

abbrev pub decreases-loop-line : goal.decreases-loop-line
decreases-loop-line l = length (left l.reader)
