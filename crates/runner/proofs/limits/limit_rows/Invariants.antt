use Rattle.std.proofs.Common.{◌≡◌, List, [], length}
use Rattle.systems.specs.Runs.{Load}
use Rattle.text.specs.Pieces.{Bytes}
use Rattle.tables.specs.Stepping.{left}
use Rattle.runner.specs.Passing.{FirstRead}
use Rattle.runner.proofs.Loops.{Limiting}
use Rattle.runner.proofs.limits.limit_rows.Given as goal

abbrev pub invariant-loop-line : goal.invariant-loop-line
invariant-loop-line l = (all : List Bytes) (equations : List Load) → FirstRead all equations l.initial.reader → Limiting all equations l.limits l.reader

abbrev pub decreases-loop-line : goal.decreases-loop-line
decreases-loop-line l = length (left l.reader)
