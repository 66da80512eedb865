use Rattle.std.proofs.Common.{◌≡◌, List, [], length}
use Rattle.systems.specs.Runs.{Load}
use Rattle.text.specs.Pieces.{Bytes}
use Rattle.checker.specs.Holding.{CameBy}
use Rattle.tables.specs.declared.types.Limit.{Limit}
use Rattle.tables.specs.Stepping.{left}
use Rattle.runner.specs.Passing.{SecondRead}
use Rattle.runner.proofs.Loops.{Choosing}
use Rattle.runner.proofs.choices.choose_rows.Given as goal

abbrev pub invariant-loop-line : goal.invariant-loop-line
invariant-loop-line l = (all : List Bytes) (equations : List Load) (limits : List Limit) → SecondRead all equations limits l.initial.reader → CameBy equations [] l.initial.check → Choosing all equations limits l.check l.reader

abbrev pub decreases-loop-line : goal.decreases-loop-line
decreases-loop-line l = length (left l.reader)
